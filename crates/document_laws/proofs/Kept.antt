-- An event leads from a state of the schema to one.
use Rattle.std.proofs.Common.{◌≡◌, ℕ, ◌≤◌, pos, Bool, List, [], ◌∷◌, length, sym, subst}
use Rattle.std.specs.List.{AllByRecursion}
use Rattle.exi_schema.specs.Schemas.{PlainSchema}
use Rattle.exi_schema.specs.declared.tables.Datatype.{Datatype}
use Rattle.exi_schema.specs.declared.tables.Datatype.TheVariants.{Bool as BoolType, Named, Bounded, Unsigned, Signed, Binary, Text as TextType}
use Rattle.exi_schema.specs.declared.places.Step.TheVariants as step
use Rattle.exi_schema.specs.Offers.{IsPlace}
use Rattle.exi_schema.proofs.Fitting.{first_place}
use Rattle.exi_documents.specs.Trees.{Value, Truth, Ordinal, Number, Bytes, Text, Event, Document, Start, Attribute, Content, EndElement}
use Rattle.exi_documents.specs.Values.{Entries, most_entries, SpellsValue}
use Rattle.exi_documents.specs.Documents.{element, first}
use Rattle.exi_documents.specs.Grammar.{Opened, Standing, Before, AtRoot, Inside, State, opened, around, stands, Moves}
use Rattle.document_laws.specs.Laws.{IsState}
use Rattle.document_laws.proofs.Fits.{step_fits, root_kind}

few_by : (entries after : Entries) → length entries ≤ most_entries → after ≡ entries → length after ≤ most_entries
few_by entries after few is = subst (λ (es : Entries). length es ≤ most_entries) (sym is) few

-- a value leaves no more entries than there may be
pub value_kept : (d : Datatype) (entries after : Entries) (name : ℕ) (v : Value) (bits : List Bool) → length entries ≤ most_entries → SpellsValue d entries name v bits after → length after ≤ most_entries
value_kept BoolType entries after name (Truth t) bits few h = few_by entries after few h.1
value_kept (Named count) entries after name (Ordinal n) bits few h = few_by entries after few h.1
value_kept (Bounded least count) entries after name (Number n) bits few h = few_by entries after few h.1
value_kept (Unsigned most) entries after name (Number (pos n)) bits few h = few_by entries after few h.2
value_kept (Signed least most) entries after name (Number n) bits few h = few_by entries after few h.3
value_kept (Binary most) entries after name (Bytes bytes) bits few h = few_by entries after few h.2
value_kept (TextType most) entries after name (Text chars) bits few h = h.1
value_kept d entries after name v bits few h = absurd h

module _ (s : PlainSchema) where
  abbrev state_by : (old new : State) → old ≡ new → IsState s old → IsState s new
  state_by old new e is = subst (λ (state : State). IsState s state) e is

  around_kept : (above : List Opened) (entries : Entries) → AllByRecursion (λ o. IsPlace s.kinds o.place) above → length entries ≤ most_entries → IsState s (stands (around above) entries)
  around_kept [] entries all few = (tt, few)
  around_kept (o ∷ above) entries all few = ((all.0, all.1), few)

  -- one clause for each event that may come
  kept_at : (standing : Standing) (entries : Entries) (new : State) (event : Event) (bits : List Bool) → IsState s (stands standing entries) → Moves SpellsValue s (stands standing entries) event bits new → IsState s new
  kept_at Before entries new (Document number) bits is m =
      state_by (stands (AtRoot m.name m.kind) entries) new (sym m.leads) (root_kind s number m.name m.kind m.named, is.1)
  kept_at (AtRoot root kind) entries new (Start name) bits is m =
      state_by (stands (Inside (opened name (first kind)) []) entries) new (sym m.2) ((first_place s kind is.0, tt), is.1)
  kept_at (Inside top above) entries new (Start name) bits is m =
      let fits = step_fits s top.place m.starts.code (element name m.kind m.next) is.0.0 m.starts.offered in
      state_by (stands (Inside (opened name (first m.kind)) (opened top.name m.next ∷ above)) entries) new (sym m.leads) ((first_place s m.kind fits.1, (fits.2, is.0.1)), is.1)
  kept_at (Inside top above) entries new (Attribute name value) bits is m =
      let fits = step_fits s top.place m.starts.code (step.Attribute name m.kind m.next) is.0.0 m.starts.offered in
      state_by (stands (Inside (opened top.name m.next) above) m.after) new (sym m.leads) ((fits.3, is.0.1), value_kept m.datatype entries m.after name value m.inside is.1 m.spelled)
  kept_at (Inside top above) entries new (Content value) bits is m =
      let fits = step_fits s top.place m.starts.code (step.Characters m.next) is.0.0 m.starts.offered in
      state_by (stands (Inside (opened top.name m.next) above) m.after) new (sym m.leads) ((fits.1, is.0.1), value_kept m.datatype entries m.after top.name value m.inside is.1 m.spelled)
  kept_at (Inside top above) entries new EndElement bits is m = state_by (stands (around above) entries) new (sym m.1) (around_kept above entries is.0.1 is.1)
  kept_at standing entries new event bits is m = absurd m

  pub event_kept : (old new : State) (event : Event) (bits : List Bool) → IsState s old → Moves SpellsValue s old event bits new → IsState s new
  event_kept old new event bits is m = kept_at old.standing old.entries new event bits is m
