-- An event inside the innermost element, from the code of its step and the value behind it, as a pen writes them.
use Rattle.std.proofs.Common.{◌≡◌, ℕ, ◌^◌, ◌<◌, Bool, List, [], ◌∷◌, ◌++◌, length, Some, slice_get, refl, sym, ap, subst, ◌∙◌, arith, length-append, ◌↔◌}
use Rattle.exi_spec.specs.Bits.{number_bits}
use Rattle.exi_spec.proofs.BitLaws.{length-number_bits}
use Rattle.exi_bits.specs.Pens.{written_bits, Writes, Needs}
use Rattle.exi_bits.specs.declared.pen.BitPen.{BitPen}
use Rattle.exi_schema.specs.declared.places.Place.{Place}
use Rattle.exi_schema.specs.declared.places.Step.{Step}
use Rattle.exi_schema.specs.declared.places.Step.TheVariants as step
use Rattle.exi_schema.specs.Schemas.{PlainSchema}
use Rattle.exi_schema.specs.Plain.{PlainKind}
use Rattle.exi_schema.specs.declared.tables.MemberStanding.{MemberStanding}
use Rattle.exi_schema.specs.Offers.{IsPlace, IsWidth, offers}
use Rattle.exi_writing.specs.Documents.{first}
use Rattle.exi_writing.specs.Grammar.{Opened, opened, Inside, State, around, stands, MovesFrom}
use Rattle.exi_writing.specs.Trees.{Start, Attribute}
use Rattle.exi_writing.specs.Values.{Entries, WritesValue}
use Rattle.exi_writing.specs.Event.{Event}
use Rattle.exi_writing.specs.Event.TheVariants as event
use Rattle.exi_writing.specs.Value.{Value}
use Rattle.exi_writing.specs.Meaning.{event_of, value_of}
use Rattle.exi_writing.specs.Writing.{Puts, Lacks}
use Rattle.exi_writing.proofs.Pens.{writes_none, writes_both, needs_more, needs_behind, had_room}
use Rattle.exi_events.specs.declared.open.OpenElement.{OpenElement}
use Rattle.exi_events.specs.Open.{opened_of}
use Rattle.exi_events.specs.Inside.{AreOpen, HasTop, GoesTo}
use Rattle.exi_events.specs.Writer.{drafted, IsOffered, IsPut, HasNoRoom, IsStepOf, MayWrite, WritesValueOf, value_in}
use Rattle.std.proofs.lemmas.Option.{slice_get_within}
use Rattle.exi_events.proofs.Drafts.{adds}
use Rattle.exi_events.proofs.Nexts.{next_stays, StaysIn}
use Rattle.exi_events.proofs.Offering.{MovesAs, IsRest, IsPlain, offered_at, move_join, move_split, spells_code, rest_value, rest_characters, may_stand, attribute_moves, content_moves, element_moves, end_moves}

-- ---- the room is too small

lacks_as : (s : PlainSchema) (old : State) (pen : BitPen) (e : Event) (bits : List Bool) (new : State) → MovesAs s old (event_of e) bits new → Needs pen (length bits) → HasNoRoom s (drafted pen old) (event_of e)
lacks_as s old pen (event.Document number) bits new m needs = (bits, (new, m), needs)
lacks_as s old pen (event.Start name) bits new m needs = (bits, (new, m), needs)
lacks_as s old pen (event.Attribute name v) bits new m needs = (bits, (new, m), needs)
lacks_as s old pen (event.Value v) bits new m needs = (bits, (new, m), needs)
lacks_as s old pen event.EndElement bits new m needs = (bits, (new, m), needs)
lacks_as s old pen event.Finished bits new m needs = absurd m

lacks_at : (s : PlainSchema) (old : State) (pen : BitPen) (e : Event) → HasNoRoom s (drafted pen old) (event_of e) → (bits : List Bool) × (new : State) × MovesAs s old (event_of e) bits new × Needs pen (length bits)
lacks_at s old pen (event.Document number) h = (h.0, h.1.0, h.1.1, h.2)
lacks_at s old pen (event.Start name) h = (h.0, h.1.0, h.1.1, h.2)
lacks_at s old pen (event.Attribute name v) h = (h.0, h.1.0, h.1.1, h.2)
lacks_at s old pen (event.Value v) h = (h.0, h.1.0, h.1.1, h.2)
lacks_at s old pen event.EndElement h = (h.0, h.1.0, h.1.1, h.2)
lacks_at s old pen event.Finished h = absurd h

-- behind what is written the room is too small for the rest
needs_left : (a b : BitPen) (x y : List Bool) → Writes a b x → Needs a (length (x ++ y)) → Needs b (length y)
needs_left a b x y p n = omega (arith, n, p.room, ap length p.written, length-append (written_bits a) x, length-append x y)

-- for the code
pub code_lacks : (s : PlainSchema) (elements : List Opened) (top : OpenElement) (entries : Entries) (st : Step) (e : Event) (code width : ℕ) (pen : BitPen) → HasTop elements top → IsPlace s.kinds top.place →
    IsWidth (length (offers s.kinds top.place)) width → slice_get (offers s.kinds top.place) code ≡ Some st → IsStepOf st e →
    IsOffered s (stands (around elements) entries) e → Needs pen width → HasNoRoom s (drafted pen (stands (around elements) entries)) (event_of e)
code_lacks s elements top entries st e code width pen has at is_width offered is may needs =
    let mine : IsOffered s (stands (Inside (opened_of top) has.0) entries) e = subst (λ (es : List Opened). IsOffered s (stands (around es) entries) e) has.1 may in
    let m = offered_at s (opened_of top) has.0 entries e mine in
    let p = move_split s (opened_of top) has.0 entries st e (number_bits width code) m.0 m.1 at (spells_code s.kinds top.place code width st is_width offered) is m.2 in
    let long = length-number_bits width code in
    let all : Needs pen (length (number_bits width code ++ p.0)) = needs_more pen (number_bits width code) p.0 (subst (λ (n : ℕ). Needs pen n) (sym long) needs) in
    subst (λ (es : List Opened). HasNoRoom s (drafted pen (stands (around es) entries)) (event_of e)) (sym has.1)
    (lacks_as s (stands (Inside (opened_of top) has.0) entries) pen e m.0 m.1 m.2 (subst (λ (l : List Bool). Needs pen (length l)) (sym p.2) all))

-- for what stands behind it
pub rest_lacks : (s : PlainSchema) (elements : List Opened) (top : OpenElement) (entries : Entries) (st : Step) (e : Event) (code width : ℕ) (old mid : BitPen) (rest : List Bool) → HasTop elements top →
    IsWidth (length (offers s.kinds top.place)) width → slice_get (offers s.kinds top.place) code ≡ Some st → IsStepOf st e →
    Writes old mid (number_bits width code) → IsRest s (opened_of top) entries st e rest → Needs mid (length rest) → HasNoRoom s (drafted old (stands (around elements) entries)) (event_of e)
rest_lacks s elements top entries st e code width old mid rest has is_width offered is wrote behind needs =
    let m = move_join s (opened_of top) has.0 entries st e (number_bits width code) rest (spells_code s.kinds top.place code width st is_width offered) is behind in
    subst (λ (es : List Opened). HasNoRoom s (drafted old (stands (around es) entries)) (event_of e)) (sym has.1)
    (lacks_as s (stands (Inside (opened_of top) has.0) entries) old e (number_bits width code ++ rest) m.0 m.1 (needs_behind old mid (number_bits width code) rest wrote needs))

-- the room was large enough for both
pub none_lacks : (s : PlainSchema) (elements : List Opened) (top : OpenElement) (entries : Entries) (st : Step) (e : Event) (code width : ℕ) (old mid : BitPen) → HasTop elements top → IsPlace s.kinds top.place →
    IsWidth (length (offers s.kinds top.place)) width → slice_get (offers s.kinds top.place) code ≡ Some st → IsStepOf st e →
    Writes old mid (number_bits width code) → ((rest : List Bool) → IsRest s (opened_of top) entries st e rest → Needs mid (length rest) → ⊥) → HasNoRoom s (drafted old (stands (around elements) entries)) (event_of e) → ⊥
none_lacks s elements top entries st e code width old mid has at is_width offered is wrote fits lacks =
    let mine : HasNoRoom s (drafted old (stands (Inside (opened_of top) has.0) entries)) (event_of e) = subst (λ (es : List Opened). HasNoRoom s (drafted old (stands (around es) entries)) (event_of e)) has.1 lacks in
    let m = lacks_at s (stands (Inside (opened_of top) has.0) entries) old e mine in
    let p = move_split s (opened_of top) has.0 entries st e (number_bits width code) m.0 m.1 at (spells_code s.kinds top.place code width st is_width offered) is m.2 in
    fits p.0 p.1 (needs_left old mid (number_bits width code) p.0 wrote (subst (λ (l : List Bool). Needs old (length l)) p.2 m.3))

plain_fits : (s : PlainSchema) (top : Opened) (entries : Entries) (st : Step) (e : Event) (mid : BitPen) (rest : List Bool) → IsStepOf st e → IsPlain st → IsRest s top entries st e rest → Needs mid (length rest) → ⊥
plain_fits s top entries (step.Element name kind next standing past_limit) (event.Start n) mid rest is plain w needs = had_room mid mid [] (writes_none mid) (subst (λ (l : List Bool). Needs mid (length l)) w needs)
plain_fits s top entries step.End event.EndElement mid rest is plain w needs = had_room mid mid [] (writes_none mid) (subst (λ (l : List Bool). Needs mid (length l)) w needs)
plain_fits s top entries (step.Attribute name kind next) e mid rest is plain w needs = absurd plain
plain_fits s top entries (step.Characters next) e mid rest is plain w needs = absurd plain
plain_fits s top entries _ _ mid rest is plain w needs = absurd is

pub plain_room : (s : PlainSchema) (elements : List Opened) (top : OpenElement) (entries : Entries) (st : Step) (e : Event) (code width : ℕ) (old mid : BitPen) → HasTop elements top → IsPlace s.kinds top.place →
    IsWidth (length (offers s.kinds top.place)) width → slice_get (offers s.kinds top.place) code ≡ Some st → IsStepOf st e → IsPlain st →
    Writes old mid (number_bits width code) → HasNoRoom s (drafted old (stands (around elements) entries)) (event_of e) → ⊥
plain_room s elements top entries st e code width old mid has at is_width offered is plain wrote lacks =
    none_lacks s elements top entries st e code width old mid has at is_width offered is wrote (λ rest w needs. plain_fits s (opened_of top) entries st e mid rest is plain w needs) lacks

-- ---- a value behind the code of an attribute

attribute_lacks : (s : PlainSchema) (top : Opened) (entries : Entries) (name kind : ℕ) (next : Place) (e : Event) (mid : BitPen) (rest : List Bool) → IsStepOf (step.Attribute name kind next) e → IsRest s top entries (step.Attribute name kind next) e rest → Needs mid (length rest) →
    (v : Value) × (value_in e ≡ Some v) × Lacks (λ bits. (after : Entries) × WritesValueOf s.kinds kind entries name (value_of v) after bits) mid
attribute_lacks s top entries name kind next (event.Attribute n v) mid rest is w needs = (v, refl, (rest, (w.0, w.1), needs))
attribute_lacks s top entries name kind next _ mid rest is w needs = absurd is

attribute_given : (s : PlainSchema) (top : Opened) (entries : Entries) (name kind : ℕ) (next : Place) (e : Event) → IsStepOf (step.Attribute name kind next) e →
    (v : Value) × (value_in e ≡ Some v) × ((rest : List Bool) (after : Entries) → WritesValueOf s.kinds kind entries name (value_of v) after rest → IsRest s top entries (step.Attribute name kind next) e rest)
attribute_given s top entries name kind next (event.Attribute n v) is = (v, refl, λ rest after w. (after, w))
attribute_given s top entries name kind next _ is = absurd is

characters_lacks : (s : PlainSchema) (top : Opened) (entries : Entries) (next : Place) (e : Event) (mid : BitPen) (rest : List Bool) → IsStepOf (step.Characters next) e → IsRest s top entries (step.Characters next) e rest → Needs mid (length rest) →
    (v : Value) × (value_in e ≡ Some v) × Lacks (λ bits. (after : Entries) × WritesValueOf s.kinds top.place.kind entries top.name (value_of v) after bits) mid
characters_lacks s top entries next (event.Value v) mid rest is w needs = (v, refl, (rest, (w.0, w.1), needs))
characters_lacks s top entries next _ mid rest is w needs = absurd is

characters_given : (s : PlainSchema) (top : Opened) (entries : Entries) (next : Place) (e : Event) → IsStepOf (step.Characters next) e →
    (v : Value) × (value_in e ≡ Some v) × ((rest : List Bool) (after : Entries) → WritesValueOf s.kinds top.place.kind entries top.name (value_of v) after rest → IsRest s top entries (step.Characters next) e rest)
characters_given s top entries next (event.Value v) is = (v, refl, λ rest after w. (after, w))
characters_given s top entries next _ is = absurd is

-- what is known of the step that was found
pub record IsFound (s : PlainSchema) (elements : List Opened) (top : OpenElement) (entries : Entries) (st : Step) (e : Event) (code width : ℕ) (old mid : BitPen) : Type 0 where
  pub has : HasTop elements top
  pub at : IsPlace s.kinds top.place
  pub is_width : IsWidth (length (offers s.kinds top.place)) width
  pub offered : slice_get (offers s.kinds top.place) code ≡ Some st
  pub is : IsStepOf st e
  pub may : IsOffered s (stands (around elements) entries) e
  pub wrote : Writes old mid (number_bits width code)

pub found_as : (s : PlainSchema) (elements : List Opened) (top : OpenElement) (entries : Entries) (st form : Step) (e : Event) (code width : ℕ) (old mid : BitPen) → st ≡ form → IsFound s elements top entries st e code width old mid → IsFound s elements top entries form e code width old mid
found_as s elements top entries st form e code width old mid is f = subst (λ (x : Step). IsFound s elements top entries x e code width old mid) is f

module _ (s : PlainSchema) (elements : List Opened) (top : OpenElement) (entries : Entries) (e : Event) (code width : ℕ) (old mid : BitPen) where
  found_rest : (st : Step) → IsFound s elements top entries st e code width old mid → (rest : List Bool) × IsRest s (opened_of top) entries st e rest
  found_rest st f =
      let mine : IsOffered s (stands (Inside (opened_of top) f.has.0) entries) e = subst (λ (es : List Opened). IsOffered s (stands (around es) entries) e) f.has.1 f.may in
      let m = offered_at s (opened_of top) f.has.0 entries e mine in
      let p = move_split s (opened_of top) f.has.0 entries st e (number_bits width code) m.0 m.1 f.at (spells_code s.kinds top.place code width st f.is_width f.offered) f.is m.2 in
      (p.0, p.1)

  pub attribute_may : (name kind : ℕ) (next : Place) → IsFound s elements top entries (step.Attribute name kind next) e code width old mid → (v : Value) × (value_in e ≡ Some v) × MayWrite s.kinds kind entries name (value_of v)
  attribute_may name kind next f = let r = found_rest (step.Attribute name kind next) f in rest_value s (opened_of top) entries name kind next e r.0 f.is r.1

  pub characters_may : (next : Place) → IsFound s elements top entries (step.Characters next) e code width old mid → (v : Value) × (value_in e ≡ Some v) × MayWrite s.kinds top.place.kind entries top.name (value_of v)
  characters_may next f = let r = found_rest (step.Characters next) f in rest_characters s (opened_of top) entries next e r.0 f.is r.1

  -- full exactly where the value is
  pub attribute_full : (name kind : ℕ) (next : Place) (P : Type 0) → IsFound s elements top entries (step.Attribute name kind next) e code width old mid →
      ((v : Value) → value_in e ≡ Some v → (P ↔ Lacks (λ bits. (after : Entries) × WritesValueOf s.kinds kind entries name (value_of v) after bits) mid)) → (P ↔ HasNoRoom s (drafted old (stands (around elements) entries)) (event_of e))
  attribute_full name kind next P f full =
      let form = step.Attribute name kind next in
      let given = attribute_given s (opened_of top) entries name kind next e f.is in (
        (λ p. let l = (full given.0 given.1).0 p in rest_lacks s elements top entries form e code width old mid l.0 f.has f.is_width f.offered f.is f.wrote (given.2 l.0 l.1.0 l.1.1) l.2),
        (λ lacks. by_contra lacks),
      )
    where
      by_contra : HasNoRoom s (drafted old (stands (around elements) entries)) (event_of e) → P
      by_contra lacks =
          let mine : HasNoRoom s (drafted old (stands (Inside (opened_of top) f.has.0) entries)) (event_of e) = subst (λ (es : List Opened). HasNoRoom s (drafted old (stands (around es) entries)) (event_of e)) f.has.1 lacks in
          let m = lacks_at s (stands (Inside (opened_of top) f.has.0) entries) old e mine in
          let p = move_split s (opened_of top) f.has.0 entries (step.Attribute name kind next) e (number_bits width code) m.0 m.1 f.at (spells_code s.kinds top.place code width (step.Attribute name kind next) f.is_width f.offered) f.is m.2 in
          let needs = needs_left old mid (number_bits width code) p.0 f.wrote (subst (λ (l : List Bool). Needs old (length l)) p.2 m.3) in
          let l = attribute_lacks s (opened_of top) entries name kind next e mid p.0 f.is p.1 needs in
          (full l.0 l.1).1 l.2

  pub characters_full : (next : Place) (P : Type 0) → IsFound s elements top entries (step.Characters next) e code width old mid →
      ((v : Value) → value_in e ≡ Some v → (P ↔ Lacks (λ bits. (after : Entries) × WritesValueOf s.kinds top.place.kind entries top.name (value_of v) after bits) mid)) → (P ↔ HasNoRoom s (drafted old (stands (around elements) entries)) (event_of e))
  characters_full next P f full =
      let form = step.Characters next in
      let given = characters_given s (opened_of top) entries next e f.is in (
        (λ p. let l = (full given.0 given.1).0 p in rest_lacks s elements top entries form e code width old mid l.0 f.has f.is_width f.offered f.is f.wrote (given.2 l.0 l.1.0 l.1.1) l.2),
        (λ lacks. by_contra lacks),
      )
    where
      by_contra : HasNoRoom s (drafted old (stands (around elements) entries)) (event_of e) → P
      by_contra lacks =
          let mine : HasNoRoom s (drafted old (stands (Inside (opened_of top) f.has.0) entries)) (event_of e) = subst (λ (es : List Opened). HasNoRoom s (drafted old (stands (around es) entries)) (event_of e)) f.has.1 lacks in
          let m = lacks_at s (stands (Inside (opened_of top) f.has.0) entries) old e mine in
          let p = move_split s (opened_of top) f.has.0 entries (step.Characters next) e (number_bits width code) m.0 m.1 f.at (spells_code s.kinds top.place code width (step.Characters next) f.is_width f.offered) f.is m.2 in
          let needs = needs_left old mid (number_bits width code) p.0 f.wrote (subst (λ (l : List Bool). Needs old (length l)) p.2 m.3) in
          let l = characters_lacks s (opened_of top) entries next e mid p.0 f.is p.1 needs in
          (full l.0 l.1).1 l.2

  -- ---- what is put

  pub attribute_put : (name kind : ℕ) (next : Place) (moved : List Opened) (after : Entries) (new : BitPen) → IsFound s elements top entries (step.Attribute name kind next) e code width old mid → GoesTo elements next moved →
      ((v : Value) → value_in e ≡ Some v → Puts (λ bits. WritesValueOf s.kinds kind entries name (value_of v) after bits) mid new) →
      IsPut s (drafted old (stands (around elements) entries)) (drafted new (stands (around moved) after)) (event_of e)
  attribute_put name kind next moved after new f goes puts =
      let reached : moved ≡ opened top.name next ∷ f.has.0 = goes (opened_of top) f.has.0 f.has.1 in
      subst (λ (es : List Opened). IsPut s (drafted old (stands (around es) entries)) (drafted new (stands (around moved) after)) (event_of e)) (sym f.has.1)
      (subst (λ (es : List Opened). IsPut s (drafted old (stands (Inside (opened_of top) f.has.0) entries)) (drafted new (stands (around es) after)) (event_of e)) (sym reached)
      (of_event e f.is puts))
    where
      of_event : (d : Event) → IsStepOf (step.Attribute name kind next) d → ((v : Value) → value_in d ≡ Some v → Puts (λ bits. WritesValueOf s.kinds kind entries name (value_of v) after bits) mid new) →
          IsPut s (drafted old (stands (Inside (opened_of top) f.has.0) entries)) (drafted new (stands (Inside (opened top.name next) f.has.0) after)) (event_of d)
      of_event (event.Attribute n v) same p =
          let w = p v refl in
          let spelled = spells_code s.kinds top.place code width (step.Attribute name kind next) f.is_width f.offered in (
            number_bits width code ++ w.0,
            subst (λ (m : ℕ). MovesFrom WritesValue s (Inside (opened_of top) f.has.0) entries (Attribute m (value_of v)) (number_bits width code ++ w.0) (stands (Inside (opened top.name next) f.has.0) after)) (sym same)
                (attribute_moves s (opened_of top) f.has.0 entries after name kind next (value_of v) (number_bits width code) w.0 spelled w.1),
            adds old new _ _ (number_bits width code ++ w.0) (writes_both old mid new (number_bits width code) w.0 f.wrote w.2),
          )
      of_event _ same p = absurd same

  pub characters_put : (next : Place) (moved : List Opened) (after : Entries) (new : BitPen) → IsFound s elements top entries (step.Characters next) e code width old mid → GoesTo elements next moved →
      ((v : Value) → value_in e ≡ Some v → Puts (λ bits. WritesValueOf s.kinds top.place.kind entries top.name (value_of v) after bits) mid new) →
      IsPut s (drafted old (stands (around elements) entries)) (drafted new (stands (around moved) after)) (event_of e)
  characters_put next moved after new f goes puts =
      let reached : moved ≡ opened top.name next ∷ f.has.0 = goes (opened_of top) f.has.0 f.has.1 in
      subst (λ (es : List Opened). IsPut s (drafted old (stands (around es) entries)) (drafted new (stands (around moved) after)) (event_of e)) (sym f.has.1)
      (subst (λ (es : List Opened). IsPut s (drafted old (stands (Inside (opened_of top) f.has.0) entries)) (drafted new (stands (around es) after)) (event_of e)) (sym reached)
      (of_event e f.is puts))
    where
      of_event : (d : Event) → IsStepOf (step.Characters next) d → ((v : Value) → value_in d ≡ Some v → Puts (λ bits. WritesValueOf s.kinds top.place.kind entries top.name (value_of v) after bits) mid new) →
          IsPut s (drafted old (stands (Inside (opened_of top) f.has.0) entries)) (drafted new (stands (Inside (opened top.name next) f.has.0) after)) (event_of d)
      of_event (event.Value v) same p =
          let w = p v refl in
          let spelled = spells_code s.kinds top.place code width (step.Characters next) f.is_width f.offered in (
            number_bits width code ++ w.0,
            content_moves s (opened_of top) f.has.0 entries after next (value_of v) (number_bits width code) w.0 spelled w.1,
            adds old new _ _ (number_bits width code ++ w.0) (writes_both old mid new (number_bits width code) w.0 f.wrote w.2),
          )
      of_event _ same p = absurd same

  pub element_put : (name kind : ℕ) (next place : Place) (standing : MemberStanding) (past_limit : Bool) (moved pushed : List Opened) (after : Entries) → IsFound s elements top entries (step.Element name kind next standing past_limit) e code width old mid →
      GoesTo elements next moved → pushed ≡ record { name = name; place = place } ∷ moved → place ≡ first kind → after ≡ entries →
      IsPut s (drafted old (stands (around elements) entries)) (drafted mid (stands (around pushed) after)) (event_of e)
  element_put name kind next place standing past_limit moved pushed after f goes pushes is_first kept =
      let reached : moved ≡ opened top.name next ∷ f.has.0 = goes (opened_of top) f.has.0 f.has.1 in
      let all : pushed ≡ opened name (first kind) ∷ opened top.name next ∷ f.has.0 =
      pushes ∙ ap (λ (p : Place). opened name p ∷ moved) is_first ∙ ap (λ (es : List Opened). opened name (first kind) ∷ es) reached in
      subst (λ (es : List Opened). IsPut s (drafted old (stands (around es) entries)) (drafted mid (stands (around pushed) after)) (event_of e)) (sym f.has.1)
      (subst (λ (es : List Opened). IsPut s (drafted old (stands (Inside (opened_of top) f.has.0) entries)) (drafted mid (stands (around es) after)) (event_of e)) (sym all)
      (subst (λ (es : Entries). IsPut s (drafted old (stands (Inside (opened_of top) f.has.0) entries)) (drafted mid (stands (Inside (opened name (first kind)) (opened top.name next ∷ f.has.0)) es)) (event_of e)) (sym kept)
      (of_event e f.is)))
    where
      of_event : (d : Event) → IsStepOf (step.Element name kind next standing past_limit) d →
          IsPut s (drafted old (stands (Inside (opened_of top) f.has.0) entries)) (drafted mid (stands (Inside (opened name (first kind)) (opened top.name next ∷ f.has.0)) entries)) (event_of d)
      of_event (event.Start n) same =
          let spelled = spells_code s.kinds top.place code width (step.Element name kind next standing past_limit) f.is_width f.offered in (
            number_bits width code,
            subst (λ (m : ℕ). MovesFrom WritesValue s (Inside (opened_of top) f.has.0) entries (Start m) (number_bits width code) (stands (Inside (opened name (first kind)) (opened top.name next ∷ f.has.0)) entries)) (sym same.0)
                (element_moves s (opened_of top) f.has.0 entries name kind next (number_bits width code) (may_stand s.kinds top.place next name kind standing past_limit (number_bits width code) same.1 same.2 spelled)),
            adds old mid _ _ (number_bits width code) f.wrote,
          )
      of_event _ same = absurd same

  pub end_put : (popped : List Opened) (after : Entries) → IsFound s elements top entries step.End e code width old mid → ((one : Opened) (above : List Opened) → elements ≡ one ∷ above → popped ≡ above) → after ≡ entries →
      IsPut s (drafted old (stands (around elements) entries)) (drafted mid (stands (around popped) after)) (event_of e)
  end_put popped after f pops kept =
      let left : popped ≡ f.has.0 = pops (opened_of top) f.has.0 f.has.1 in
      subst (λ (es : List Opened). IsPut s (drafted old (stands (around es) entries)) (drafted mid (stands (around popped) after)) (event_of e)) (sym f.has.1)
      (subst (λ (es : List Opened). IsPut s (drafted old (stands (Inside (opened_of top) f.has.0) entries)) (drafted mid (stands (around es) after)) (event_of e)) (sym left)
      (subst (λ (es : Entries). IsPut s (drafted old (stands (Inside (opened_of top) f.has.0) entries)) (drafted mid (stands (around f.has.0) es)) (event_of e)) (sym kept)
      (of_event e f.is)))
    where
      of_event : (d : Event) → IsStepOf step.End d → IsPut s (drafted old (stands (Inside (opened_of top) f.has.0) entries)) (drafted mid (stands (around f.has.0) entries)) (event_of d)
      of_event event.EndElement same =
          let spelled = spells_code s.kinds top.place code width step.End f.is_width f.offered in
          (number_bits width code, end_moves s (opened_of top) f.has.0 entries (number_bits width code) spelled, adds old mid _ _ (number_bits width code) f.wrote)
      of_event _ same = absurd same

-- ---- with the texts as they stand behind the code

module _ (s : PlainSchema) (elements : List Opened) (top : OpenElement) (entries inner : Entries) (same : inner ≡ entries) (e : Event) (code width : ℕ) (old mid : BitPen) where
  pub attribute_asks : (name kind : ℕ) (next : Place) → IsFound s elements top entries (step.Attribute name kind next) e code width old mid → (v : Value) × (value_in e ≡ Some v) × MayWrite s.kinds kind inner name (value_of v)
  attribute_asks name kind next f =
      subst (λ (es : Entries). (v : Value) × (value_in e ≡ Some v) × MayWrite s.kinds kind es name (value_of v)) (sym same) (attribute_may s elements top entries e code width old mid name kind next f)

  pub characters_asks : (next : Place) → IsFound s elements top entries (step.Characters next) e code width old mid → (v : Value) × (value_in e ≡ Some v) × MayWrite s.kinds top.place.kind inner top.name (value_of v)
  characters_asks next f =
      subst (λ (es : Entries). (v : Value) × (value_in e ≡ Some v) × MayWrite s.kinds top.place.kind es top.name (value_of v)) (sym same) (characters_may s elements top entries e code width old mid next f)

  pub attribute_lacking : (name kind : ℕ) (next : Place) (P : Type 0) → IsFound s elements top entries (step.Attribute name kind next) e code width old mid →
      ((v : Value) → value_in e ≡ Some v → (P ↔ Lacks (λ bits. (after : Entries) × WritesValueOf s.kinds kind inner name (value_of v) after bits) mid)) → (P ↔ HasNoRoom s (drafted old (stands (around elements) entries)) (event_of e))
  attribute_lacking name kind next P f full =
      attribute_full s elements top entries e code width old mid name kind next P f
      (subst (λ (es : Entries). (v : Value) → value_in e ≡ Some v → (P ↔ Lacks (λ bits. (after : Entries) × WritesValueOf s.kinds kind es name (value_of v) after bits) mid)) same full)

  pub characters_lacking : (next : Place) (P : Type 0) → IsFound s elements top entries (step.Characters next) e code width old mid →
      ((v : Value) → value_in e ≡ Some v → (P ↔ Lacks (λ bits. (after : Entries) × WritesValueOf s.kinds top.place.kind inner top.name (value_of v) after bits) mid)) → (P ↔ HasNoRoom s (drafted old (stands (around elements) entries)) (event_of e))
  characters_lacking next P f full =
      characters_full s elements top entries e code width old mid next P f
      (subst (λ (es : Entries). (v : Value) → value_in e ≡ Some v → (P ↔ Lacks (λ bits. (after : Entries) × WritesValueOf s.kinds top.place.kind es top.name (value_of v) after bits) mid)) same full)

  pub attribute_written : (name kind : ℕ) (next : Place) (moved : List Opened) (after : Entries) (new : BitPen) → IsFound s elements top entries (step.Attribute name kind next) e code width old mid → GoesTo elements next moved →
      ((v : Value) → value_in e ≡ Some v → Puts (λ bits. WritesValueOf s.kinds kind inner name (value_of v) after bits) mid new) →
      IsPut s (drafted old (stands (around elements) entries)) (drafted new (stands (around moved) after)) (event_of e)
  attribute_written name kind next moved after new f goes puts =
      attribute_put s elements top entries e code width old mid name kind next moved after new f goes
      (subst (λ (es : Entries). (v : Value) → value_in e ≡ Some v → Puts (λ bits. WritesValueOf s.kinds kind es name (value_of v) after bits) mid new) same puts)

  pub characters_written : (next : Place) (moved : List Opened) (after : Entries) (new : BitPen) → IsFound s elements top entries (step.Characters next) e code width old mid → GoesTo elements next moved →
      ((v : Value) → value_in e ≡ Some v → Puts (λ bits. WritesValueOf s.kinds top.place.kind inner top.name (value_of v) after bits) mid new) →
      IsPut s (drafted old (stands (around elements) entries)) (drafted new (stands (around moved) after)) (event_of e)
  characters_written next moved after new f goes puts =
      characters_put s elements top entries e code width old mid next moved after new f goes
      (subst (λ (es : Entries). (v : Value) → value_in e ≡ Some v → Puts (λ bits. WritesValueOf s.kinds top.place.kind es top.name (value_of v) after bits) mid new) same puts)

-- the place of the innermost element
pub top_place : (kinds : List PlainKind) (elements : List Opened) (top : OpenElement) → HasTop elements top → AreOpen kinds elements → IsPlace kinds top.place
top_place kinds elements top has are = let all : AreOpen kinds (opened_of top ∷ has.0) = subst (λ (es : List Opened). AreOpen kinds es) has.1 are in all.0

-- what the search of the step and the pen say
pub found_by : (s : PlainSchema) (elements : List Opened) (top : OpenElement) (entries : Entries) (st : Step) (e : Event) (code n width : ℕ) (old mid : BitPen) → n ≡ code → HasTop elements top → AreOpen s.kinds elements →
    IsWidth (length (offers s.kinds top.place)) width → slice_get (offers s.kinds top.place) code ≡ Some st → IsStepOf st e → IsOffered s (stands (around elements) entries) e → Writes old mid (number_bits width n) →
    IsFound s elements top entries st e code width old mid
found_by s elements top entries st e code n width old mid same has are is_width offered is may wrote =
    record {
      has = has;
      at = top_place s.kinds elements top has are;
      is_width = is_width;
      offered = offered;
      is = is;
      may = may;
      wrote = subst (λ (k : ℕ). Writes old mid (number_bits width k)) same wrote;
    }

pub found_stays : (s : PlainSchema) (elements : List Opened) (top : OpenElement) (entries : Entries) (st : Step) (e : Event) (code width : ℕ) (old mid : BitPen) → IsFound s elements top entries st e code width old mid → StaysIn top.place.kind st
found_stays s elements top entries st e code width old mid f = next_stays s.kinds top.place code st f.offered

pub code_range : (s : PlainSchema) (here : Place) (st : Step) (code n width : ℕ) → n ≡ code → IsWidth (length (offers s.kinds here)) width → slice_get (offers s.kinds here) code ≡ Some st → n < 2 ^ width
code_range s here st code n width same is_width offered =
    let below = slice_get_within (offers s.kinds here) code st offered in
    let enough = is_width.enough in
    omega (arith, below, enough, same)

pub found_lacks : (s : PlainSchema) (elements : List Opened) (top : OpenElement) (entries : Entries) (st : Step) (e : Event) (code width : ℕ) (pen : BitPen) → HasTop elements top → AreOpen s.kinds elements →
    IsWidth (length (offers s.kinds top.place)) width → slice_get (offers s.kinds top.place) code ≡ Some st → IsStepOf st e →
    IsOffered s (stands (around elements) entries) e → Needs pen width → HasNoRoom s (drafted pen (stands (around elements) entries)) (event_of e)
found_lacks s elements top entries st e code width pen has are is_width offered is may needs =
    code_lacks s elements top entries st e code width pen has (top_place s.kinds elements top has are) is_width offered is may needs

pub found_plain : (s : PlainSchema) (elements : List Opened) (top : OpenElement) (entries : Entries) (st : Step) (e : Event) (code width : ℕ) (old mid : BitPen) → IsFound s elements top entries st e code width old mid → IsPlain st →
    HasNoRoom s (drafted old (stands (around elements) entries)) (event_of e) → ⊥
found_plain s elements top entries st e code width old mid f plain lacks =
    plain_room s elements top entries st e code width old mid f.has f.at f.is_width f.offered f.is plain f.wrote lacks
