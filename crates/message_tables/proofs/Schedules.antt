-- Schedules of up to so many entries.
use Rattle.std.proofs.Common.{ℕ, ◌≤◌, All, List, Option, Some, None}
use Rattle.std.specs.Prelude.{IfSome}
use Rattle.std.specs.Option.{option_map}
use Rattle.std.proofs.lemmas.List.Elements.{All-weaker}
use Rattle.arrayvec.specs.ArrayVec.{ArrayVec}
use Rattle.exi_schema.specs.Plain.{PlainKind}
use Rattle.session_words.specs.declared.limits.Tuple.{Tuple}
use Rattle.word_tables.specs.Tables.{Table, inside}
use Rattle.word_tables.specs.Fitting.{CanWrite}
use Rattle.message_tables.specs.Spellable.{AreTuples}
use Rattle.message_tables.specs.Values.{list_of}
use Rattle.message_tables.proofs.Lists.{each_fits}

abbrev pub HasUpTo : ℕ → Tuple → Type 0
HasUpTo most t = t.entries ≤ most

abbrev pub HaveUpTo : ℕ → Option (ArrayVec Tuple) → Type 0
HaveUpTo most o = IfSome o (λ v. All (HasUpTo most) v.items)

module _ (CanTuple : Tuple → Type 0) where
  pub declared_few : (most : ℕ) → ((t : Tuple) → CanTuple t → HasUpTo most t) → (o : Option (ArrayVec Tuple)) → IfSome o (AreTuples CanTuple) → HaveUpTo most o
  declared_few most few None can = tt
  declared_few most few (Some v) can = All-weaker CanTuple (HasUpTo most) few v.items can.1

  pub schedules_fit : (kinds : List PlainKind) (name most : ℕ) (t : Table inside Tuple) → ((x : Tuple) → CanTuple x → HasUpTo most x → CanWrite kinds t x)
      → (o : Option (ArrayVec Tuple)) → IfSome o (AreTuples CanTuple) → HaveUpTo most o
      → IfSome (option_map (λ v. v.items) o) (λ ts. CanWrite kinds (list_of name 1 3 t) ts)
  schedules_fit kinds name most t one None can few = tt
  schedules_fit kinds name most t one (Some v) can few = (
    can.0.0,
    can.0.1,
    each_fits (λ x. CanTuple x × HasUpTo most x) (λ x. CanWrite kinds t x) (λ x h. one x h.0 h.1) v.items (λ k d h. (can.1 k d h, few k d h)),
    tt,
  )
