use Rattle.iso_details.proofs.details.ParameterLargeRecord.read_here.Goals as goal

pub returns-clause-read : goal.returns-clause-read
returns-clause-read g c = λ F told h.
    c.in_ok-self.ensures.read F told h
