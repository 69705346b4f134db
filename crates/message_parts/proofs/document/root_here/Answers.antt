use Rattle.std.proofs.Common.{refl, subst, sym, ℕ, IfOk}
use Rattle.exi_spec.specs.Bits.{bits_of}
use Rattle.exi_events.specs.Documents.{IsDocument}
use Rattle.message_parts.specs.Contents.{root_of}
use Rattle.message_parts.proofs.Rooted.{root_chosen, is_read}
use Rattle.message_parts.proofs.document.root_here.Goals as goal

pub returns-clause-read : goal.returns-clause-read
returns-clause-read g c = λ s payload begins are among.
    let n = c.in_ok-number.ensures.number s (bits_of payload) begins in
    let r = c.in_ok-root.ensures.root s (bits_of payload) n in
    let l = c.in_ok-read_member_here.ensures.read _ _ (root_chosen g.T.PutChoice.kinds g.T.PutChoice.members s (bits_of payload) _ are among r) in
    let told = c.finish.ensures.document _ _ _ payload refl l.1 refl in
    let contents = g.T.PutChoice.inside c.read_member_here.new.self in
    subst (λ (x : ℕ). IfOk c.finish.result (λ _. IsDocument s (root_of x contents) payload)) (sym l.0)
    (is_read c.finish.result s r.name r.number contents payload told)
