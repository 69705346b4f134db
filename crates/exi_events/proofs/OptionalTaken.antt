-- The children of a sequence of which the second may be absent.
use Rattle.std.proofs.Common.{◌≡◌, ℕ, zero, suc, ◌≤◌, ◌^◌, ◌∙◌, List, [], ◌∷◌, Bool, Some, None, Option, refl, sym, ap, subst, arith, length}
use Rattle.std.specs.Prelude.{slice_get, option_copied}
use Rattle.std.specs.Borrow.{Bor}
use Rattle.exi_spec.specs.Items.{SpellsNumber}
use Rattle.exi_bits.specs.Reading.{Cursor, Takes}
use Rattle.exi_bits.specs.declared.span.SpanAt.{SpanAt}
use Rattle.exi_schema.specs.declared.places.OptionalSequence.{OptionalSequence}
use Rattle.exi_schema.specs.declared.places.Place.{Place}
use Rattle.exi_schema.specs.declared.places.Step.{Step}
use Rattle.exi_schema.specs.declared.places.Step.TheVariants.{End}
use Rattle.exi_schema.specs.Offers.{offers, IsWidth}
use Rattle.exi_schema.specs.Plain.{PlainKind}
use Rattle.exi_schema.specs.Schemas.{PlainSchema}
use Rattle.exi_schema.specs.Sequences.{IsOptionalSequence}
use Rattle.exi_writing.specs.Documents.{SpellsStep, element, first}
use Rattle.exi_writing.specs.Grammar.{Opened, opened}
use Rattle.exi_writing.specs.Trees.{Event as TreeEvent, Value as TreeValue, EndElement}
use Rattle.exi_writing.specs.Short.{tree_of}
use Rattle.exi_writing.specs.ShortValue.{ShortValue}
use Rattle.exi_events.specs.declared.optional.OptionalValues.{OptionalValues}
use Rattle.exi_events.specs.declared.reader.Phase.{Phase}
use Rattle.exi_events.specs.declared.reader.Phase.TheVariants as phase
use Rattle.exi_events.specs.Reader.{state_of, HasTold, Reading, reading}
use Rattle.exi_events.specs.Sequence.{TakesChild, OffersChild, inside_at, behind_all}
use Rattle.exi_events.specs.Optional.{GoesOn, TakesRest, TakesOptional, HoldsOptional}
use Rattle.exi_events.proofs.Sequences.{child_told, told_child, same_child, end_took}

-- ---- a code of two bits

two_bits : (w : ℕ) → 3 ≤ 2 ^ w → 2 ≤ w
two_bits zero enough = absurd (omega (arith, enough))
two_bits (suc zero) enough = absurd (omega (arith, enough))
two_bits (suc (suc w)) enough = omega (arith)

pub two_wide : IsWidth 2 2
two_wide = record { enough = omega (arith); least = λ w enough. two_bits w enough }

pub of_two : (kinds : List PlainKind) (here : Place) (a b step : Step) (old new : Cursor) (code : ℕ) → offers kinds here ≡ a ∷ b ∷ [] → slice_get (a ∷ b ∷ []) code ≡ Some step →
    Takes (SpellsNumber 2 code) old new → Takes (SpellsStep kinds here step) old new
of_two kinds here a b step old new code is at took = (
  took.0,
  record {
    code = code;
    width = 2;
    is_width = subst (λ (steps : List Step). IsWidth (length steps) 2) (sym is) two_wide;
    offered = ap (λ (steps : List Step). slice_get steps code) is ∙ at;
    spelled = took.1;
  },
  took.2,
)

-- ---- where the second child or the third may stand

module _ (kinds : List PlainKind) (here : Place) (children : OptionalSequence) (on : GoesOn kinds here children) where
  abbrev pub third_kind : ℕ
  third_kind = on.third_only.0

  abbrev pub behind_third : Place
  behind_third = on.third_only.1

  abbrev pub second_step : Step
  second_step = element children.second.name on.kind on.next

  abbrev pub third_step : Step
  third_step = element children.third.name third_kind behind_third

  both_offered : offers kinds here ≡ second_step ∷ third_step ∷ []
  both_offered = on.second_also ∙ ap (λ (l : List Step). second_step ∷ l) on.third_only.2

  pub second_starts : (old new : Cursor) (code : ℕ) → code ≡ 0 → Takes (SpellsNumber 2 code) old new → Takes (SpellsStep kinds here second_step) old new
  second_starts old new code is took =
      of_two kinds here second_step third_step second_step old new code both_offered (ap (λ (n : ℕ). slice_get (second_step ∷ third_step ∷ []) n) is) took

  pub third_starts : (old new : Cursor) (code : ℕ) → code ≡ 1 → Takes (SpellsNumber 2 code) old new → Takes (SpellsStep kinds here third_step) old new
  third_starts old new code is took =
      of_two kinds here second_step third_step third_step old new code both_offered (ap (λ (n : ℕ). slice_get (second_step ∷ third_step ∷ []) n) is) took

  pub third_offered : OffersChild kinds on.next behind_third children.third
  third_offered = record { kind = third_kind; offered = on.third_only.2; simple = on.third_only.3 }

  pub end_offered : offers kinds behind_third ≡ End ∷ []
  end_offered = on.third_only.4

pub goes_on : (kinds : List PlainKind) (here : Place) (children : OptionalSequence) (is : IsOptionalSequence kinds here children) → (children.third.name ≡ children.second.name → ⊥) → GoesOn kinds is.behind_first children
goes_on kinds here children is other = record { kind = is.second_kind; next = is.behind_second; second_also = is.second_also; simple = is.second_simple; third_only = is.third_only; other = other }

pub first_offered : (kinds : List PlainKind) (here : Place) (children : OptionalSequence) (is : IsOptionalSequence kinds here children) → OffersChild kinds here is.behind_first children.first
first_offered kinds here children is = record { kind = is.first_kind; offered = is.first_only; simple = is.first_simple }

-- ---- the children that are taken

module _ (s : PlainSchema) (name : ℕ) (above : List Opened) (entries : List (ℕ × SpanAt)) (bits : List Bool) (here : Place) (children : OptionalSequence) (on : GoesOn s.kinds here children) where
  -- at the bits in which the code is read
  pub without_second : (read : List Bool) (old mid new : Cursor) (third : TreeValue) → read ≡ bits →
      TakesChild (inside_at s name here above read entries old) (inside_at s name (behind_third s.kinds here children on) above read entries mid) children.third.name third → mid.bits ≡ old.bits →
      Takes (SpellsStep s.kinds (behind_third s.kinds here children on) End) mid new →
      TakesRest (inside_at s name here above bits entries old) (behind_all s above bits entries new) children.second.name None third
  without_second read old mid new third same took still end = (
    (
      children.third.name,
      inside_at s name (behind_third s.kinds here children on) above bits entries mid,
      refl,
      still,
      same_child s name here _ above _ _ _ _ _ _ _ _ same took,
      end_took s name _ above _ _ _ end,
    ),
    on.other,
  )

  pub with_second : (read last : List Bool) (old one mid new : Cursor) (second : ShortValue) (third : TreeValue) → read ≡ bits → last ≡ bits →
      TakesChild (inside_at s name here above read entries old) (inside_at s name on.next above read entries one) children.second.name (tree_of second) → one.bits ≡ old.bits →
      TakesChild (inside_at s name on.next above last entries one) (inside_at s name (behind_third s.kinds here children on) above last entries mid) children.third.name third → mid.bits ≡ one.bits →
      Takes (SpellsStep s.kinds (behind_third s.kinds here children on) End) mid new →
      TakesRest (inside_at s name here above bits entries old) (behind_all s above bits entries new) children.second.name (Some second) third
  with_second read last old one mid new second third same same_last took still also still_more end = (
    (
      children.second.name,
      inside_at s name on.next above bits entries one,
      refl,
      still,
      same_child s name here _ above _ _ _ _ _ _ _ _ same took,
      (
        children.third.name,
        inside_at s name (behind_third s.kinds here children on) above bits entries mid,
        refl,
        still_more,
        same_child s name _ _ above _ _ _ _ _ _ _ _ same_last also,
        end_took s name _ above _ _ _ end,
      ),
    ),
    refl,
  )

-- ---- what is told

pub rest_told : (old new : Reading) (second : ℕ) (value : Option ShortValue) (third : TreeValue) → TakesRest old new second value third → (events : List TreeEvent) → HasTold old events → (more : List TreeEvent) × HasTold new more
rest_told old new second None third took events has =
    let one = child_told old took.0.1 took.0.0 third took.0.4 events has in
    (EndElement ∷ told_child took.0.0 third events, took.0.5.told (told_child took.0.0 third events) one)
rest_told old new second (Some v) third took events has =
    let first = told_child took.0.0 (tree_of v) events in
    let one = child_told old took.0.1 took.0.0 (tree_of v) took.0.4 events has in
    let two = child_told took.0.1 took.0.5.1 took.0.5.0 third took.0.5.4 first one in
    (EndElement ∷ told_child took.0.5.0 third first, took.0.5.5.told (told_child took.0.5.0 third first) two)

pub optional_told : (old new : Reading) (second : ℕ) (values : OptionalValues) → TakesOptional old new second values → (events : List TreeEvent) → HasTold old events → (more : List TreeEvent) × HasTold new more
optional_told old new second values took events has =
    rest_told took.behind new second values.second (tree_of values.third) took.rest_taken (told_child took.name (tree_of values.first) events)
    (child_told old took.behind took.name (tree_of values.first) took.first_taken events has)

-- ---- a reader

module _ (s : PlainSchema) (p : Phase) (elements : List Opened) (second : ℕ) (children : OptionalSequence) (holds : HoldsOptional s elements second children) (bits : List Bool) (before : List (ℕ × SpanAt)) (old : Cursor) (is : p ≡ phase.Inside) where
  abbrev Ahead : Phase → List Opened → Reading
  Ahead q es = reading s (state_of q es bits before) old

  pub other_name : children.third.name ≡ children.second.name → ⊥
  other_name same = holds.other (same ∙ holds.named)

  pub optional_taken : (popped : List Opened) (moved : List Bool) (after : List (ℕ × SpanAt)) (new : Cursor) (values : OptionalValues) → popped ≡ holds.above → moved ≡ bits →
      TakesOptional (inside_at s holds.top.name holds.top.place holds.above bits before old) (behind_all s holds.above bits after new) children.second.name values →
      TakesOptional (Ahead p elements) (reading s (state_of p popped moved after) new) second values
  optional_taken popped moved after new values pops same took =
      let P : Phase → List Opened → List Opened → List Bool → ℕ → Type 0 = λ q es out b n. TakesOptional (Ahead q es) (reading s (state_of q out b after) new) n values in
      let named : P phase.Inside (holds.top ∷ holds.above) holds.above bits second = subst (λ n. P phase.Inside (holds.top ∷ holds.above) holds.above bits n) holds.named took in
      let one : P phase.Inside elements holds.above bits second = subst (λ es. P phase.Inside es holds.above bits second) (sym holds.elements_are) named in
      let two : P phase.Inside elements popped bits second = subst (λ out. P phase.Inside elements out bits second) (sym pops) one in
      let all : P phase.Inside elements popped moved second = subst (λ b. P phase.Inside elements popped b second) (sym same) two in
      subst (λ q. P q elements popped moved second) (sym is) all

pub holds_optional : (s : PlainSchema) (elements : List Opened) (kind second : ℕ) (children : OptionalSequence) (it : (name : ℕ) × (above : List Opened) × (elements ≡ opened name (first kind) ∷ above)) →
    IsOptionalSequence s.kinds (first kind) children → children.second.name ≡ second → (children.third.name ≡ second → ⊥) → HoldsOptional s elements second children
holds_optional s elements kind second children it sequence named other =
    record { top = opened it.0 (first kind); above = it.1; elements_are = it.2; sequence = sequence; named = named; other = other }

-- what is kept of a sequence
pub kept_optional : (told : Option (Bor OptionalSequence)) (it : Bor OptionalSequence) (all : OptionalSequence) → option_copied told ≡ Some all → told ≡ Some it → it.now ≡ all
kept_optional told it all keeps is = let both : Some it.now ≡ Some all = sym (ap option_copied is) ∙ keeps in cc

pub none_kept : (told : Option (Bor OptionalSequence)) (all : OptionalSequence) → told ≡ None → option_copied told ≡ Some all → ⊥
none_kept told all is keeps = let wrong : None ≡ Some all = sym (ap option_copied is) ∙ keeps in cc

-- the same bits lend the same texts
pub rest_at : (s : PlainSchema) (name : ℕ) (here : Place) (above : List Opened) (entries : List (ℕ × SpanAt)) (a b : List Bool) → a ≡ b → (old new : Cursor) (second : ℕ) (value : Option ShortValue) (third : TreeValue) →
    TakesRest (inside_at s name here above a entries old) (behind_all s above a entries new) second value third → TakesRest (inside_at s name here above b entries old) (behind_all s above b entries new) second value third
rest_at s name here above entries a b same old new second value third took =
    let P : List Bool → Type 0 = λ x. TakesRest (inside_at s name here above x entries old) (behind_all s above x entries new) second value third in subst P same took
