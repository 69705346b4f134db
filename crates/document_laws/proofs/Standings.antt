-- An event leads from a place of the schema to one, however values are spelled.
use Rattle.std.proofs.Common.{◌≡◌, Bool, List, [], ◌∷◌, sym, subst}
use Rattle.std.specs.List.{AllByRecursion}
use Rattle.exi_schema.specs.Schemas.{PlainSchema}
use Rattle.exi_schema.specs.declared.places.Step.TheVariants as step
use Rattle.exi_schema.specs.Offers.{IsPlace}
use Rattle.exi_schema.proofs.Fitting.{first_place}
use Rattle.exi_documents.specs.Trees.{Event, Document, Start, Attribute, Content, EndElement}
use Rattle.exi_documents.specs.Values.{Entries}
use Rattle.exi_documents.specs.Documents.{Speller, element}
use Rattle.exi_documents.specs.Grammar.{Opened, Standing, Before, AtRoot, Inside, State, around, stands, Moves, Reaches}
use Rattle.document_laws.specs.Laws.{IsStanding}
use Rattle.document_laws.proofs.Fits.{step_fits, root_kind}

module _ (V : Speller) (s : PlainSchema) where
  stands_at : (new state : State) → new ≡ state → IsStanding s state.standing → IsStanding s new.standing
  stands_at new state e is = subst (λ (x : State). IsStanding s x.standing) (sym e) is

  around_stands : (above : List Opened) → AllByRecursion (λ o. IsPlace s.kinds o.place) above → IsStanding s (around above)
  around_stands [] all = tt
  around_stands (o ∷ above) all = all

  -- one clause for each event that may come
  kept_at : (standing : Standing) (entries : Entries) (new : State) (event : Event) (bits : List Bool) → IsStanding s standing → Moves V s (stands standing entries) event bits new → IsStanding s new.standing
  kept_at Before entries new (Document number) bits is m = stands_at new _ m.leads (root_kind s number m.name m.kind m.named)
  kept_at (AtRoot root kind) entries new (Start name) bits is m = stands_at new _ m.2 (first_place s kind is, tt)
  kept_at (Inside top above) entries new (Start name) bits is m =
      let fits = step_fits s top.place m.starts.code (element name m.kind m.next) is.0 m.starts.offered in
      stands_at new _ m.leads (first_place s m.kind fits.1, (fits.2, is.1))
  kept_at (Inside top above) entries new (Attribute name value) bits is m =
      let fits = step_fits s top.place m.starts.code (step.Attribute name m.kind m.next) is.0 m.starts.offered in
      stands_at new _ m.leads (fits.3, is.1)
  kept_at (Inside top above) entries new (Content value) bits is m =
      let fits = step_fits s top.place m.starts.code (step.Characters m.next) is.0 m.starts.offered in
      stands_at new _ m.leads (fits.1, is.1)
  kept_at (Inside top above) entries new EndElement bits is m = stands_at new _ m.1 (around_stands above is.1)
  kept_at standing entries new event bits is m = absurd m

  pub standing_kept : (old new : State) (event : Event) (bits : List Bool) → IsStanding s old.standing → Moves V s old event bits new → IsStanding s new.standing
  standing_kept old new event bits is m = kept_at old.standing old.entries new event bits is m

  pub standing_reached : (events : List Event) (bits : List Bool) (state : State) → Reaches V s events bits state → IsStanding s state.standing
  standing_reached [] bits state h = stands_at state _ h.1 tt
  standing_reached (event ∷ events) bits state h =
      standing_kept h.0 state event h.2 (standing_reached events h.1 h.0 h.3) h.4
