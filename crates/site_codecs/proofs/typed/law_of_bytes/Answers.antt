use Rattle.std.proofs.Common.{◌<◌, arith}
use Rattle.std.proofs.lemmas.List.Elements.{All-from_get_or}
use Rattle.site_codecs.proofs.Bytes.{all_bytes}
use Rattle.site_codecs.proofs.typed.law_of_bytes.Goals as goal

pub returns-clause-each : goal.returns-clause-each
returns-clause-each c = All-from_get_or (λ byte. byte < 256) c.args.bytes.now 0 (λ i lt. omega (arith, c.type_inv.bytes i))

pub returns-clause-all : goal.returns-clause-all
returns-clause-all c = all_bytes c.args.bytes.now (λ i. omega (arith, c.type_inv.bytes i))
