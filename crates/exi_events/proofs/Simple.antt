-- The one step at a place of a simple kind.
use Rattle.std.proofs.Common.{◌≡◌, ℕ, zero, suc, ◌≤◌, ◌^◌, Bool, List, [], ◌∷◌, Option, Some, None, refl, sym, ap, subst, ◌∙◌, inl, arith}
use Rattle.std.specs.Prelude.{slice_get, length}
use Rattle.exi_spec.specs.Bits.{number_bits}
use Rattle.exi_spec.specs.Items.{SpellsNumber, RefusesBits}
use Rattle.exi_bits.specs.Reading.{Cursor, Takes, ahead}
use Rattle.exi_schema.specs.declared.places.Place.{Place}
use Rattle.exi_schema.specs.declared.places.Step.{Step}
use Rattle.exi_schema.specs.declared.tables.Datatype.{Datatype}
use Rattle.exi_schema.specs.Plain.{PlainKind, valued, containing}
use Rattle.exi_schema.specs.Offers.{offers, offers_of, simple_step, IsWidth}
use Rattle.exi_schema.specs.Steps.{simple_at, datatype_of}
use Rattle.exi_writing.specs.RefusalCause.{RefusalCause}
use Rattle.exi_writing.specs.Documents.{SpellsStep}
use Rattle.exi_writing.specs.Refusals.{RefusesStep, code_cause}
use Rattle.exi_writing.specs.Values.{RefusesItem}
use Rattle.exi_events.proofs.Codes.{none_behind, code_refused as any_code_refused}

offered_of : (here : Place) (o : Option PlainKind) (d : Datatype) → datatype_of o ≡ Some d → offers_of here o ≡ simple_step here ∷ []
offered_of here None d is = absurd cc
offered_of here (Some (valued e)) d is = refl
offered_of here (Some (containing attributes particles)) d is = absurd cc

pub offered : (kinds : List PlainKind) (here : Place) (d : Datatype) → simple_at kinds here.kind ≡ Some d → offers kinds here ≡ simple_step here ∷ []
offered kinds here d is = offered_of here (slice_get kinds here.kind) d is

some_bit : (w : ℕ) → 2 ≤ 2 ^ w → 1 ≤ w
some_bit zero enough = absurd (omega (arith, enough))
some_bit (suc w) enough = omega (arith)

one_bit : IsWidth 1 1
one_bit = record { enough = omega (arith); least = λ w enough. some_bit w enough }

-- of any place where one thing is offered
width_of : (kinds : List PlainKind) (here : Place) (step : Step) → offers kinds here ≡ step ∷ [] → IsWidth (length (offers kinds here)) 1
width_of kinds here step is = subst (λ (steps : List Step). IsWidth (length steps) 1) (sym is) one_bit

pub step_taken : (kinds : List PlainKind) (here : Place) (step : Step) (old new : Cursor) (code : ℕ) → offers kinds here ≡ step ∷ [] → code ≡ 0 →
    Takes (SpellsNumber 1 code) old new → Takes (SpellsStep kinds here step) old new
step_taken kinds here step old new code is first took = (
  took.0,
  record {
    code = code;
    width = 1;
    is_width = width_of kinds here step is;
    offered = subst (λ (c : ℕ). slice_get (offers kinds here) c ≡ Some step) (sym first) (ap (λ (steps : List Step). slice_get steps 0) is);
    spelled = took.1;
  },
  took.2,
)

-- the code that is written
pub one_code : (kinds : List PlainKind) (here : Place) (step : Step) → offers kinds here ≡ step ∷ [] → SpellsStep kinds here step (number_bits 1 0)
one_code kinds here step is =
    record {
      code = 0;
      width = 1;
      is_width = width_of kinds here step is;
      offered = ap (λ (steps : List Step). slice_get steps 0) is;
      spelled = record { range = omega arith; spelled = refl };
    }

pub code_refused : (kinds : List PlainKind) (here : Place) (step : Step) (old new : Cursor) (code : ℕ) (why : RefusalCause) → offers kinds here ≡ step ∷ [] → 1 ≤ code →
    Takes (SpellsNumber 1 code) old new → code_cause 1 code None ≡ Some why → RefusesStep kinds here (ahead old) why
code_refused kinds here step old new code why is more took cause =
    any_code_refused kinds here old new 1 code why (width_of kinds here step is) took
    (subst (λ (steps : List Step). code_cause (length steps) code (slice_get steps code) ≡ Some why) (sym is)
    (ap (λ (o : Option Step). code_cause 1 code o) (none_behind (step ∷ []) code more) ∙ cause))

pub bits_refused : (kinds : List PlainKind) (here : Place) (step : Step) (bits : List Bool) (why : RefusalCause) → offers kinds here ≡ step ∷ [] → RefusesItem (RefusesBits 1) bits why → RefusesStep kinds here bits why
bits_refused kinds here step bits why is short = record { width = 1; is_width = width_of kinds here step is; refused = inl short }
