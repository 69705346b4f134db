-- A scanner goes on by one event.
use Rattle.std.proofs.Common.{◌≡◌, ℕ, ◌+◌, ◌*◌, ◌<◌, ◌≤◌, ◌⊎◌, inl, inr, List, [], ◌∷◌, ◌++◌, length, codes, Option, Some, None, slice_get, refl, sym, ap, subst, ◌∙◌, append_assoc, arith}
use Rattle.std.specs.Prelude.{encode_utf8, IfSome, IfNone}
use Rattle.std.specs.Str.{encode_utf8_all, IsUtf8}
use Rattle.std.proofs.lemmas.List.{append-nil, length-append}
use Rattle.std.proofs.lemmas.List.Sums.{sum_by-cons}
use Rattle.std.proofs.lemmas.Str.{encodes-append}
use Rattle.exi_schema.specs.Schemas.{PlainSchema}
use Rattle.exi_schema.specs.declared.tables.RootOf.{RootOf}
use Rattle.exi_schema.specs.declared.places.Root.TheVariants.{Kind}
use Rattle.exi_schema.specs.Steps.{IsRoot}
use Rattle.exi_documents.specs.Trees.{Event, Document, Start, Attribute, Content, EndElement}
use Rattle.document_laws.proofs.Fits.{root_kind}
use Rattle.value_text.specs.declared.cursor.TextCursor.{TextCursor}
use Rattle.dialect_text.specs.declared.elements.Filling.{Filling}
use Rattle.dialect_text.specs.declared.elements.Filling.TheVariants as fills
use Rattle.dialect_text.specs.declared.elements.OpenElement.{OpenElement}
use Rattle.value_text.specs.declared.fault.ScanFault.{ScanFault}
use Rattle.value_text.specs.declared.fault.ScanFault.TheVariants as fault
use Rattle.dialect_text.specs.declared.said.Said.{Said}
use Rattle.value_text.specs.Faults.{place_in}
use Rattle.dialect_text.specs.Dialect.{Standing, Before, AtRoot, Within, element, mark, gap, IsStartText, Adds, Says, IsDialectText, IsOfDialect}
use Rattle.dialect_text.specs.Languages.{Goes, Completes, Shares, Leads, Stalls}
use Rattle.dialect_text.specs.Scanning.{IsOpen, IsSound, HasSaid, HasRead, IsReady, IsAtFault, IsFaultOf, event_of, events_within, events_left, weight}
use Rattle.dialect_text.specs.Following.{TakesNext, StallsAt, IsNext}
use Rattle.value_text.proofs.NextLaws.{some_bytes}
use Rattle.dialect_text.proofs.Agreeing.{leads_then, stalls_after, stalled}
use Rattle.dialect_text.proofs.ElementStarts.{room_inside}
use Rattle.dialect_text.proofs.LowKinds.{kind_low}
use Rattle.dialect_text.proofs.Parts.{leads_plain}
use Rattle.dialect_text.proofs.Roots.{root_deep, roots_there, root_word}
use Rattle.dialect_text.proofs.Running.{from_start, to_end, nested_on, by_standing}
use Rattle.dialect_text.proofs.Viable.{completes_all, completes_root}
use Rattle.value_text.proofs.SchemaWords.{name_word}

pub starts_read : (s : PlainSchema) (text : List ℕ) (cursor : TextCursor) → cursor.rest.now ≡ text → cursor.place ≡ 0 → HasRead s text Before cursor
starts_read s text cursor whole start = record {
  front = [];
  leads = record { from = λ t new. to_end s t new; to = λ t shares old. from_start s t old };
  stands = sym whole;
  place = start;
}

-- ---- what is said and read

pub said_on : (s : PlainSchema) (text : List ℕ) (events : List Event) (old new : Standing) (a b : TextCursor) (event : Event) → HasSaid s text events old a → TakesNext s [] (Completes s old) old a event new b → HasSaid s text (event ∷ events) new b
said_on s text events old new a b event p q = record {
  front = p.front ++ q.front;
  says = (old, encode_utf8_all p.front, encode_utf8_all q.front, p.says, q.adds, encodes-append p.front q.front);
  stands = p.stands ∙ ap (λ (bs : List ℕ). encode_utf8_all p.front ++ bs) q.passes.stands ∙ sym (append_assoc (encode_utf8_all p.front) (encode_utf8_all q.front) b.rest.now) ∙ ap (λ (bs : List ℕ). bs ++ b.rest.now) (sym (encodes-append p.front q.front));
  place = omega (arith, p.place, q.passes.counted, length-append p.front q.front);
}

pub read_on : (s : PlainSchema) (text : List ℕ) (old new : Standing) (a b : TextCursor) (event : Event) → HasRead s text old a → TakesNext s [] (Completes s old) old a event new b → HasRead s text new b
read_on s text old new a b event p q = record {
  front = p.front ++ q.front;
  leads = leads_then (IsOfDialect s) (Completes s old) (Completes s new) p.front q.front b.rest.now (subst (λ (bs : List ℕ). Leads (IsOfDialect s) p.front bs (Completes s old)) q.passes.stands p.leads) q.leads;
  stands = p.stands ∙ ap (λ (bs : List ℕ). encode_utf8_all p.front ++ bs) q.passes.stands ∙ sym (append_assoc (encode_utf8_all p.front) (encode_utf8_all q.front) b.rest.now) ∙ ap (λ (bs : List ℕ). bs ++ b.rest.now) (sym (encodes-append p.front q.front));
  place = omega (arith, p.place, q.passes.counted, length-append p.front q.front);
}

pub said_all : (s : PlainSchema) (text : List ℕ) (events : List Event) (standing : Standing) (a : TextCursor) → HasSaid s text events standing a → standing ≡ Within [] → a.rest.now ≡ [] → IsDialectText s events text
said_all s text events standing a p ended none =
    subst (λ (t : List ℕ). IsDialectText s events t) (sym (p.stands ∙ ap (λ (bs : List ℕ). encode_utf8_all p.front ++ bs) none ∙ append-nil (encode_utf8_all p.front)))
    (subst (λ (x : Standing). Says s events (encode_utf8_all p.front) x) ended p.says)

-- ---- soundness

pub open_on : (s : PlainSchema) (old new : Standing) (event : Event) (added : List ℕ) → Adds s old event added new → IsSound s old → IsOpen s new
open_on s Before new (Document number) added p sound = by_standing (IsOpen s) p.4 (root_kind s number p.0 p.1 p.2, root_deep s p.2.0 (record { number = number; name = p.0; kind = p.1 }) p.2.1)
open_on s Before new _ added p sound = absurd p
open_on s (AtRoot root kind) new (Start name) added p sound = by_standing (IsOpen s) p.2 (sound.0.0, sound.0.1, tt, tt)
open_on s (AtRoot root kind) new _ added p sound = absurd p
open_on s (Within []) new _ added p sound = absurd p
open_on s (Within (top ∷ above)) new (Document number) added p sound = absurd p
open_on s (Within (top ∷ above)) new (Start name) added p sound =
    by_standing (IsOpen s) p.5 (kind_low s top name p.0 p.2, (room_inside s top above name p.0 sound.0.1 p.2).1, tt, (sound.0.0, sound.0.1, (name, p.0, p.2), sound.0.3))
open_on s (Within (top ∷ above)) new (Attribute name value) added p sound = by_standing (IsOpen s) p.6 (sound.0.0, sound.0.1, (name, p.0, p.3), sound.0.3)
open_on s (Within (top ∷ above)) new (Content value) added p sound = by_standing (IsOpen s) p.2 (sound.0.0, sound.0.1, (p.1.0, p.1.1), sound.0.3)
open_on s (Within (top ∷ above)) new EndElement added p sound = by_standing (IsOpen s) p.1 sound.0.3

pub sound_on : (s : PlainSchema) (old new : Standing) (event : Event) (added : List ℕ) → Adds s old event added new → IsSound s old → IsSound s new
sound_on s old new event added p sound = (open_on s old new event added p sound, nested_on s old new event added p sound.1)

some_root : (s : PlainSchema) → (i : ℕ) × (root : RootOf) × (slice_get s.roots i ≡ Some root)
some_root s = first_root s.roots (roots_there s)
  where
    first_root : (roots : List RootOf) → 1 ≤ length roots → (i : ℕ) × (root : RootOf) × (slice_get roots i ≡ Some root)
    first_root [] some = absurd (omega (arith, some))
    first_root (root ∷ roots) some = (0, root, refl)

pub completes_any : (s : PlainSchema) (standing : Standing) → IsSound s standing → (text : List ℕ) × Completes s standing text
completes_any s Before sound =
    let root = some_root s in
    let is : IsRoot s.roots s.root_bits root.1.number (Kind root.1.name root.1.kind) = (root.0, root.2) in
    let low = root_kind s root.1.number root.1.name root.1.kind is in
    let some = completes_all s (element root.1.kind fills.Nothing ∷ []) (low, root_deep s root.0 root.1 root.2, tt, tt) in
    let all = completes_root s root.1.name root.1.kind some.0 some.1 in
    let word = root_word s root.0 root.1 root.2 in (
      (word.0 ++ mark s root.1.kind ∷ []) ++ some.0,
      (Document root.1.number ∷ all.0, (AtRoot root.1.name root.1.kind, word.0 ++ mark s root.1.kind ∷ [], some.0, (root.1.name, root.1.kind, is, (word.0, word.1, refl), refl), all.1, refl)),
    )
completes_any s (AtRoot name kind) sound =
    let some = completes_all s (element kind fills.Nothing ∷ []) (sound.0.0, sound.0.1, tt, tt) in
    (some.0, completes_root s name kind some.0 some.1)
completes_any s (Within elements) sound = completes_all s elements sound.0

-- ---- faults

pub fault_of_text : (s : PlainSchema) (text : List ℕ) (standing : Standing) (a : TextCursor) (f : ScanFault) → IsUtf8 text → IsSound s standing → HasRead s text standing a → StallsAt (Completes s standing) a f → IsFaultOf s text f
fault_of_text s text standing a (fault.Place place) utf8 sound p q =
    let some = completes_any s standing sound in
    let stalls = stalls_after (IsOfDialect s) (Completes s standing) p.front q.0 a.rest.now p.leads (inr some) q.1 in
    let whole : Stalls (IsOfDialect s) text (p.front ++ q.0) = subst (λ (t : List ℕ). Stalls (IsOfDialect s) t (p.front ++ q.0)) (sym p.stands) stalls in
    let end = stalled (IsOfDialect s) text (p.front ++ q.0) (encode_utf8_all p.front ++ some.0) utf8 (p.leads.from some.0 some.1) whole in
    (end.0, (p.front ++ q.0, end.1, omega (arith, p.place, q.2, length-append p.front q.0)))
fault_of_text s text standing a fault.Memory utf8 sound p q = tt

-- behind the root nothing follows
pub ended_stalls : (s : PlainSchema) (a : TextCursor) → (a.rest.now ≡ [] → ⊥) → StallsAt (Completes s (Within [])) a (fault.Place a.place)
ended_stalls s a some =
    ([], record { more = a.rest.now; stands = refl; begins = inl refl; none_further = λ text shares p. by text shares p.0 p.1 }, omega arith)
  where
    shared : (f : List ℕ) (more odd : List ℕ) → a.rest.now ≡ encode_utf8_all f ++ more → [] ≡ encode_utf8_all f ++ odd → (0 < length f) ⊎ ((more ≡ []) × (odd ≡ [])) → ⊥
    shared [] more odd e g (inl long) = omega (arith, long)
    shared [] more odd e g (inr none) = some (e ∙ none.0)
    shared (c ∷ f) more odd e g enough = some_bytes c (encode_utf8_all f ++ odd) (sym (append_assoc (encode_utf8 c) (encode_utf8_all f) odd) ∙ sym g)

    by : (text : List ℕ) → Shares 0 a.rest.now text → (es : List Event) → Goes s (Within []) es text → ⊥
    by text shares [] goes = shared shares.front shares.more shares.odd shares.stands (sym goes.0 ∙ shares.others) shares.enough
    by text shares (e ∷ es) goes = goes.3

-- ---- less is left

start_long : (s : PlainSchema) (name kind : ℕ) (text : List ℕ) → IsStartText s name kind text → 2 ≤ length text
start_long s name kind text p = let word = name_word s name p.0 p.1 in omega (arith, word.0, ap length p.2, length-append p.0 (mark s kind ∷ []))

weighs : (top : OpenElement) → (1 ≤ weight top) × (weight top ≤ 2)
weighs top = by top.filling
  where
    by : (f : Filling) → (1 ≤ weight (element top.kind f)) × (weight (element top.kind f) ≤ 2)
    by fills.Nothing = (omega arith, omega arith)
    by fills.Attributes = (omega arith, omega arith)
    by fills.Elements = (omega arith, omega arith)
    by fills.Value = (omega arith, omega arith)

nothing_weighs : (top : OpenElement) → top.filling ≡ fills.Nothing → weight top ≡ 2
nothing_weighs top none = ap (λ (f : Filling). weight (element top.kind f)) none

within_cons : (top : OpenElement) (above : List OpenElement) → events_within (Within (top ∷ above)) ≡ weight top + events_within (Within above)
within_cons top above = sum_by-cons weight top above

events_on : (s : PlainSchema) (old new : Standing) (event : Event) (added : List ℕ) → Adds s old event added new → events_within new < events_within old + 4 * length added
events_on s Before new (Document number) added p = by_standing (λ (x : Standing). events_within x < 0 + 4 * length added) p.4 (omega (arith, start_long s p.0 p.1 added p.3))
events_on s Before new _ added p = absurd p
events_on s (AtRoot root kind) new (Start name) added p = by_standing (λ (x : Standing). events_within x < 3 + 4 * length added) p.2 (omega arith)
events_on s (AtRoot root kind) new _ added p = absurd p
events_on s (Within []) new _ added p = absurd p
events_on s (Within (top ∷ above)) new (Document number) added p = absurd p
events_on s (Within (top ∷ above)) new (Start name) added p =
    by_standing (λ (x : Standing). events_within x < events_within (Within (top ∷ above)) + 4 * length added) p.5
    (omega (
      arith,
      start_long s name p.0 p.1 p.3,
      ap length p.4,
      length-append (gap top.filling) p.1,
      (weighs top).0,
      within_cons top above,
      within_cons (element p.0 fills.Nothing) (element top.kind fills.Elements ∷ above),
      within_cons (element top.kind fills.Elements) above,
    ))
events_on s (Within (top ∷ above)) new (Attribute name value) added p =
    by_standing (λ (x : Standing). events_within x < events_within (Within (top ∷ above)) + 4 * length added) p.6
    (omega (arith, ap length p.5, length-append (gap top.filling) p.1, ap length p.4.4, length-append (codes "@" ++ p.4.0 ++ codes "=") p.4.1, length-append (codes "@" ++ p.4.0) (codes "="), length-append (codes "@") p.4.0, (weighs top).0, within_cons top above, within_cons (element top.kind fills.Attributes) above))
events_on s (Within (top ∷ above)) new (Content value) added p =
    by_standing (λ (x : Standing). events_within x < events_within (Within (top ∷ above)) + 4 * length added) p.2 (omega (arith, nothing_weighs top p.0, within_cons top above, within_cons (element top.kind fills.Value) above))
events_on s (Within (top ∷ above)) new EndElement added p =
    by_standing (λ (x : Standing). events_within x < events_within (Within (top ∷ above)) + 4 * length added) p.1 (omega (arith, (weighs top).0, within_cons top above))

pub fewer_on : (s : PlainSchema) (old new : Standing) (a b : TextCursor) (event : Event) → TakesNext s [] (Completes s old) old a event new b → events_left new b < events_left old a
fewer_on s old new a b event q =
    omega (arith, events_on s old new event (encode_utf8_all q.front) q.adds, ap length q.passes.stands, length-append (encode_utf8_all q.front) b.rest.now)

pub inside_stalls : (s : PlainSchema) (elements : List OpenElement) (a : TextCursor) → elements ≡ [] → (a.rest.now ≡ [] → ⊥) → StallsAt (Completes s (Within elements)) a (fault.Place a.place)
inside_stalls s elements a none some = subst (λ (x : List OpenElement). StallsAt (Completes s (Within x)) a (fault.Place a.place)) (sym none) (ended_stalls s a some)

pub root_starts : (s : PlainSchema) (name kind : ℕ) (elements : List OpenElement) (a : TextCursor) → elements ≡ element kind fills.Nothing ∷ [] →
    TakesNext s [] (Completes s (AtRoot name kind)) (AtRoot name kind) a (Start name) (Within elements) a
root_starts s name kind elements a one = record {
  front = [];
  adds = (refl, refl, ap Within one);
  passes = record { stands = refl; counted = omega arith };
  leads = leads_plain s (AtRoot name kind) (Within elements) (Start name) [] a.rest.now (λ v. v) (refl, refl, ap Within one);
}

-- ---- the answers of a scanner

pub next_ready : (s : PlainSchema) (text : List ℕ) (old new : Standing) (a b : TextCursor) (f g : Option ℕ) (o : Option Said) → IsReady s text old a f → g ≡ f → IsNext s old a new b o → IsReady s text new b g
next_ready s text old new a b f g (Some said) ready same p = record {
  utf8 = ready.utf8;
  sound = sound_on s old new (event_of said) (encode_utf8_all p.front) p.adds ready.sound;
  read = read_on s text old new a b (event_of said) ready.read p;
  at_fault = subst (IsAtFault s text) (sym same) ready.at_fault;
}
next_ready s text old new a b f g None ready same p = record {
  utf8 = ready.utf8;
  sound = subst (IsSound s) (sym p.2) ready.sound;
  read = subst (λ (x : TextCursor). HasRead s text new x) (sym p.3) (subst (λ (x : Standing). HasRead s text x a) (sym p.2) ready.read);
  at_fault = subst (IsAtFault s text) (sym same) ready.at_fault;
}

pub next_said : (s : PlainSchema) (text : List ℕ) (old new : Standing) (a b : TextCursor) (o : Option Said) → IsNext s old a new b o → (events : List Event) → HasSaid s text events old a → IfSome o (λ said. HasSaid s text (event_of said ∷ events) new b)
next_said s text old new a b (Some said) p events h = said_on s text events old new a b (event_of said) h p
next_said s text old new a b None p events h = tt

pub next_ended : (s : PlainSchema) (text : List ℕ) (old new : Standing) (a b : TextCursor) (o : Option Said) → IsNext s old a new b o → (events : List Event) → HasSaid s text events old a → IfNone o (IsDialectText s events text)
next_ended s text old new a b (Some said) p events h = tt
next_ended s text old new a b None p events h = said_all s text events old a h p.0 p.1

pub next_fewer : (s : PlainSchema) (old new : Standing) (a b : TextCursor) (o : Option Said) → IsNext s old a new b o → IfSome o (λ said. events_left new b < events_left old a)
next_fewer s old new a b (Some said) p = fewer_on s old new a b (event_of said) p
next_fewer s old new a b None p = tt

pub fault_kept : (s : PlainSchema) (text : List ℕ) (f : ScanFault) → IsFaultOf s text f → IsAtFault s text (place_in f)
fault_kept s text (fault.Place place) p = p
fault_kept s text fault.Memory p = tt

pub fault_ready : (s : PlainSchema) (text : List ℕ) (standing : Standing) (a : TextCursor) (f : Option ℕ) (g : ScanFault) → IsReady s text standing a f → StallsAt (Completes s standing) a g → IsReady s text standing a (place_in g)
fault_ready s text standing a f g ready p = record {
  utf8 = ready.utf8;
  sound = ready.sound;
  read = ready.read;
  at_fault = fault_kept s text g (fault_of_text s text standing a g ready.utf8 ready.sound ready.read p);
}
