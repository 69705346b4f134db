use Rattle.std.proofs.Common.{sym, subst}
use Rattle.std.specs.declared.option.Option.{Option}
use Rattle.charge_world.specs.declared.offer.Dialect.{Dialect}
use Rattle.post_spec.specs.Codecs.{codecs}
use Rattle.audit_streams.specs.Streams.{TellsSpoken}
use Rattle.audit_streams.proofs.Told.{spoken_of}
use Rattle.audit_streams.proofs.streams.ToldStream.spoken.Goals as goal

pub returns : goal.returns
returns g c offers past h even = subst (λ (o : Option Dialect). TellsSpoken (codecs g.R.Coded.negotiates g.R.Coded.reads g.R.Coded.encodes) offers past o) (sym c.dialect_in.ensures) (spoken_of _ offers past c.args.self.now h even)
