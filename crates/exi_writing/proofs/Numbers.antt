-- Values of the datatypes other than String.
use Rattle.std.proofs.Common.{ℕ, ◌<◌, refl, sym, subst, Result}
use Rattle.std.specs.Result.{IsErr, OnErr}
use Rattle.exi_spec.specs.Bits.{number_bits}
use Rattle.exi_spec.proofs.BitLaws.{length-number_bits}
use Rattle.exi_bits.specs.Pens.{Needs}
use Rattle.exi_bits.specs.declared.pen.BitPen.{BitPen}
use Rattle.exi_reading.specs.Texts.{IsIndexWidth}
use Rattle.exi_reading.specs.Values.{SpellsCode}
use Rattle.exi_writing.specs.Writing.{Lacks}
use Rattle.exi_writing.proofs.Pens.{on_err}

pub lacks_code : {T E : Type 0} (pen : BitPen) (count code width : ℕ) (r : Result T E) → code < count → IsIndexWidth count width → (IsErr r → Needs pen width) → OnErr r (Lacks (SpellsCode count code) pen)
lacks_code pen count code width r below is_width needs =
    on_err r (Lacks (SpellsCode count code) pen) (λ err.
    (number_bits width code, record { below = below; width = width; is_width = is_width; spelled = refl }, subst (λ (n : ℕ). Needs pen n) (sym (length-number_bits width code)) (needs err)))
