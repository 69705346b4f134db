use Rattle.command_words.proofs.Told.{untold}
use Rattle.command_words.proofs.reading.command_named.Goals as goal

pub returns-in_default : goal.returns-in_default
returns-in_default c =
    let other = c.in_default in
    untold c.args.name.now _ (other.not-station, (other.not-car, (other.not-replay, (other.not-audit, (other.not-talk, (other.not-generate, (other.not-decode, (other.not-encode, (other.not-basic, (other.not-migrate, (other.not-offer, (other.not-schedule, (other.not-services, (other.not-pick, tt))))))))))))))
