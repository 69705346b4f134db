use Rattle.iso_examples.proofs.setup.is_written_back.Goals as goal

pub write_iso-written-requires-clause-message : goal.write_iso-written-requires-clause-message
write_iso-written-requires-clause-message c = c.messages_are_written.ensures.read c.args.message.now c.args.payload.now c.requires.read

pub write_iso-requires-clause-message : goal.write_iso-requires-clause-message
write_iso-requires-clause-message c = c.messages_are_written.ensures.read c.args.message.now c.args.payload.now c.requires.read
