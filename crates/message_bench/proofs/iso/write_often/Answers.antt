use Rattle.message_bench.proofs.iso.write_often.Goals as goal

-- src/iso.rt:73:19
pub write_rounds-requires-clause-message : goal.write_rounds-requires-clause-message
write_rounds-requires-clause-message c = c.messages_are_written.ensures.read c.read_iso.new.message c.args.payload.now c.in-Ok.ensures.read
