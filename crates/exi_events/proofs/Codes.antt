-- Event codes that are not offered, or that name what can't stand there.
use Rattle.std.proofs.Common.{◌≡◌, ℕ, zero, suc, ◌≤◌, List, [], ◌∷◌, length, Some, None, refl, inr, arith}
use Rattle.std.specs.Prelude.{slice_get}
use Rattle.exi_spec.specs.Items.{SpellsNumber}
use Rattle.exi_bits.specs.Reading.{Cursor, Takes, ahead}
use Rattle.exi_schema.specs.declared.places.Place.{Place}
use Rattle.exi_schema.specs.declared.places.Step.{Step}
use Rattle.exi_schema.specs.Plain.{PlainKind}
use Rattle.exi_schema.specs.Offers.{offers, IsWidth}
use Rattle.exi_writing.specs.RefusalCause.{RefusalCause}
use Rattle.exi_writing.specs.Refusals.{RefusesStep, code_cause}

pub none_behind : (steps : List Step) (code : ℕ) → length steps ≤ code → slice_get steps code ≡ None
none_behind [] code more = refl
none_behind (step ∷ steps) zero more = absurd (omega (arith, more))
none_behind (step ∷ steps) (suc code) more = none_behind steps code (omega (arith, more))

pub code_refused : (kinds : List PlainKind) (here : Place) (old new : Cursor) (width code : ℕ) (why : RefusalCause) → IsWidth (length (offers kinds here)) width →
    Takes (SpellsNumber width code) old new → code_cause (length (offers kinds here)) code (slice_get (offers kinds here) code) ≡ Some why → RefusesStep kinds here (ahead old) why
code_refused kinds here old new width code why is took cause =
    record { width = width; is_width = is; refused = inr (code, (took.0, ahead new, took.1, took.2.there), cause) }
