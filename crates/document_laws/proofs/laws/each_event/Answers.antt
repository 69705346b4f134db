use Rattle.document_laws.proofs.Events.{event_exact}
use Rattle.document_laws.proofs.Kept.{event_kept}
use Rattle.document_laws.proofs.laws.each_event.Goals as goal

pub returns-clause-exact : goal.returns-clause-exact
returns-clause-exact c s state is goes = event_exact s state is goes

pub returns-clause-kept : goal.returns-clause-kept
returns-clause-kept c s old new event bits is m = event_kept s old new event bits is m
