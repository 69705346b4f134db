use Rattle.tree_vectors.proofs.typed.is_iso_again.Goals as goal

pub write_iso-written-requires-clause-message : goal.write_iso-written-requires-clause-message
write_iso-written-requires-clause-message c = c.messages_are_written.ensures.read c.args.message.now c.args.payload.now c.requires.read

pub write_iso-requires-clause-message : goal.write_iso-requires-clause-message
write_iso-requires-clause-message c = c.messages_are_written.ensures.read c.args.message.now c.args.payload.now c.requires.read
