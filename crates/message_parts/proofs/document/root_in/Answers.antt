use Rattle.std.proofs.Common.{refl, subst, sym, ℕ}
use Rattle.exi_spec.specs.Bits.{bits_of}
use Rattle.exi_events.specs.Documents.{IsDocument}
use Rattle.message_parts.specs.Contents.{root_of}
use Rattle.message_parts.proofs.Rooted.{root_chosen, is_document}
use Rattle.message_parts.proofs.document.root_in.Goals as goal

pub returns-clause-read : goal.returns-clause-read
returns-clause-read g c = λ s payload begins are among.
    let n = c.in_ok-number.ensures.number s (bits_of payload) begins in
    let r = c.in_ok-root.ensures.root s (bits_of payload) n in
    let l = c.in_ok-message.ensures.read _ _ (root_chosen g.T.PutChoice.kinds g.T.PutChoice.members s (bits_of payload) _ are among r) in
    let told = c.in_ok-finish.ensures.document _ _ _ payload refl l.1 refl in
    subst (λ (x : ℕ). IsDocument s (root_of x (g.T.PutChoice.inside c.in_ok-message.message)) payload) (sym l.0)
    (is_document s r.name r.number (g.T.PutChoice.inside c.in_ok-message.message) payload told)
