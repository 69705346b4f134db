use Rattle.tree_vectors.proofs.typed.is_din_again.Goals as goal

pub write_din-written-requires-clause-message : goal.write_din-written-requires-clause-message
write_din-written-requires-clause-message c = c.messages_are_written.ensures.read c.args.message.now c.args.payload.now c.requires.read

pub write_din-requires-clause-message : goal.write_din-requires-clause-message
write_din-requires-clause-message c = c.messages_are_written.ensures.read c.args.message.now c.args.payload.now c.requires.read
