-- A post gives the same kind of current behind each step.
use Rattle.std.proofs.Common.{◌≡◌, Bool, true, false, refl, ap, ◌∙◌}
use Rattle.std.specs.Prelude.{if◌then◌else◌}
use Rattle.post_spec.specs.Steps.{Event}
use Rattle.audit_mandates.specs.declared.values.MandateValues.{MandateValues}
use Rattle.audit_mandates.specs.Values.{silent, heard_by, said_if, sent_by}

opened_same : (b : Bool) (v : MandateValues) → (if b then record (silent v) { arrived = false; lives = true; judged = false } else v).ac ≡ v.ac
opened_same true v = refl
opened_same false v = refl

pub heard_same : (event : Event) (v later : MandateValues) → later ≡ heard_by event v → later.ac ≡ v.ac
heard_same event v later is = ap (λ (w : MandateValues). w.ac) is ∙ opened_same v.arrived v

said_same : (lives : Bool) (said v : MandateValues) → said.ac ≡ v.ac → (said_if lives said v).ac ≡ v.ac
said_same true said v is = is
said_same false said v is = refl

pub sent_same : (judged : Bool) (v w said later : MandateValues) → later ≡ said_if w.lives said w → said.ac ≡ w.ac → w ≡ sent_by judged v → later.ac ≡ v.ac
sent_same judged v w said later is same sent =
    ap (λ (u : MandateValues). u.ac) is ∙ said_same w.lives said w same ∙ ap (λ (u : MandateValues). u.ac) sent
