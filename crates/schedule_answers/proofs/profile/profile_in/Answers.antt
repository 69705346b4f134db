use Rattle.schedule_answers.proofs.profile.profile_in.Goals as goal

pub returns-in-Ok-profile_of-clause-profile : goal.returns-in-Ok-profile_of-clause-profile
returns-in-Ok-profile_of-clause-profile c =
    record { message = c.read_iso.new.message; spelled = c.in-Ok.ensures.read; answer = c.in-Ok-profile_of.ensures.profile }

pub returns-in-Err-profile_of-clause-fault : goal.returns-in-Err-profile_of-clause-fault
returns-in-Err-profile_of-clause-fault c =
    record { message = c.read_iso.new.message; spelled = c.in-Ok.ensures.read; fault_is = c.in-Err-profile_of.ensures.fault }
