use Rattle.tree_text.proofs.print.put_event.Goals as goal

pub put_attribute-requires-clause-has_text : goal.put_attribute-requires-clause-has_text
put_attribute-requires-clause-has_text c = rw (c.in-Attribute-Some.is-0, c.in-Attribute-Some.is-1) at c.requires.has_text

pub returns-in-Attribute-Some : goal.returns-in-Attribute-Some
returns-in-Attribute-Some c = rw (c.in-Attribute-Some.is-0, c.in-Attribute-Some.is-1) c.put_attribute.ensures
