use Rattle.exi_events.proofs.reader.EventReader.value.Goals as goal

pub returns-in-Err-clause-refusal : goal.returns-in-Err-clause-refusal
returns-in-Err-clause-refusal g c = λ payload events bits none has. rw c.kept.ensures.same (c.in-Err.ensures.refusal payload events bits has)
