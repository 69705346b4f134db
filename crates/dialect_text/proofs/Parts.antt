-- One event of a text: what is taken leads on, and a fault is one of the text.
use Rattle.std.proofs.Common.{◌≡◌, ℕ, zero, suc, ◌<◌, inl, inr, false, List, [], ◌∷◌, ◌++◌, length, map, Option, Some, None, slice_get, refl, sym, ap, subst, ◌∙◌, arith, get_or}
use Rattle.std.specs.List.{AllByRecursion}
use Rattle.std.specs.Str.{encode_utf8_all}
use Rattle.std.proofs.lemmas.Option.{slice_get_within, slice_get-get_or}
use Rattle.document_laws.proofs.Fits.{root_kind, root_name}
use Rattle.dialect_text.proofs.Roots.{root_deep}
use Rattle.std.proofs.lemmas.Str.{encode_ascii}
use Rattle.exi_schema.specs.declared.places.Root.TheVariants.{Kind}
use Rattle.exi_schema.specs.Schemas.{PlainSchema, is_word_char}
use Rattle.exi_schema.specs.declared.tables.Datatype.{Datatype}
use Rattle.exi_schema.specs.Plain.{PlainKind, valued, containing}
use Rattle.exi_schema.specs.declared.tables.RootOf.{RootOf}
use Rattle.exi_schema.specs.Steps.{IsRoot, simple_at, datatype_of}
use Rattle.exi_documents.specs.Trees.{Value, Event, Document, Start, Attribute, Content, EndElement}
use Rattle.value_text.specs.declared.awaited.Awaited.{Awaited}
use Rattle.value_text.specs.declared.cursor.TextCursor.{TextCursor}
use Rattle.value_text.specs.Scanning.{Passes, Takes, IsAwaitedText, IsAnyAwaited, MissesAt}
use Rattle.dialect_text.specs.declared.elements.Filling.{Filling}
use Rattle.dialect_text.specs.declared.elements.Filling.TheVariants as fills
use Rattle.dialect_text.specs.declared.elements.OpenElement.{OpenElement}
use Rattle.value_text.specs.declared.fault.ScanFault.{ScanFault}
use Rattle.value_text.specs.declared.fault.ScanFault.TheVariants as fault
use Rattle.dialect_text.specs.Dialect.{Standing, Before, AtRoot, Within, element, mark, mark_of, IsStartText, IsEndText, Adds}
use Rattle.dialect_text.specs.Languages.{Goes, Completes, Leads}
use Rattle.dialect_text.specs.Scanning.{IsNested, IsSound}
use Rattle.dialect_text.specs.Following.{TakesNext, StallsAt, StartsValue, TakesValueOf, MissesValueOf}
use Rattle.dialect_text.specs.Awaited.{awaited_root}
use Rattle.dialect_text.proofs.Named.{AreMarked, all_map, stalls_named}
use Rattle.dialect_text.proofs.Once.{IsValued, event_once, mark_is_none, element_no_value, attribute_no_value}
use Rattle.dialect_text.proofs.Running.{IsSome, completes_some}
use Rattle.dialect_text.proofs.Valued.{value_leads, value_stalls}
use Rattle.dialect_text.proofs.Values.{EndsValue}
use Rattle.dialect_text.proofs.Viable.{completes_all, completes_root}

-- ---- an event without a value

pub leads_plain : (s : PlainSchema) (old new : Standing) (e : Event) (front rest : List ℕ) → (IsValued e → ⊥) → Adds s old e (encode_utf8_all front) new → Leads (Completes s old) front rest (Completes s new)
leads_plain s old new e front rest plain adds = record {
  from = λ text p. (e ∷ p.0, (new, encode_utf8_all front, text, adds, p.1, refl));
  to = λ text shares p. first p.0 text p.1;
}
  where
    first : (es : List Event) (text : List ℕ) → Goes s old es (encode_utf8_all front ++ text) → Completes s new text
    first [] text goes = absurd (ended old goes.1 adds)
      where
        ended : (standing : Standing) → standing ≡ Within [] → Adds s standing e (encode_utf8_all front) new → ⊥
        ended standing is p = subst (λ (x : Standing). Adds s x e (encode_utf8_all front) new) is p
    first (f ∷ es) text goes =
        let one = event_once s old new goes.0 e f (encode_utf8_all front) goes.1 text goes.2 (λ has_value other. absurd (plain has_value)) adds goes.3 goes.5 in
        (es, subst (λ (t : List ℕ). Goes s new es t) (sym one.2) (subst (λ (x : Standing). Goes s x es goes.2) (sym one.1) goes.4))

-- ---- the root

low_mark : (o : Option PlainKind) → mark_of o < 128
low_mark None = omega arith
low_mark (Some (valued d)) = omega arith
low_mark (Some (containing attributes particles)) = omega arith

pub mark_low : (s : PlainSchema) (kind : ℕ) → mark s kind < 128
mark_low s kind = low_mark (slice_get s.kinds kind)

-- an awaited name with its mark is the start of an element
pub awaited_start : (s : PlainSchema) (name kind : ℕ) (text : List ℕ) → IsAwaitedText s (record { name = name; end = mark s kind }) text → IsStartText s name kind text
awaited_start s name kind text p = (p.0, p.1, p.2 ∙ ap (λ (bs : List ℕ). p.0 ++ bs) (encode_ascii (mark s kind) (mark_low s kind)))

pub start_awaited : (s : PlainSchema) (name kind : ℕ) (text : List ℕ) → IsStartText s name kind text → IsAwaitedText s (record { name = name; end = mark s kind }) text
start_awaited s name kind text p = (p.0, p.1, p.2 ∙ ap (λ (bs : List ℕ). p.0 ++ bs) (sym (encode_ascii (mark s kind) (mark_low s kind))))

pub takes_root : (s : PlainSchema) (i : ℕ) (root : RootOf) (front : List ℕ) (a b : TextCursor) → slice_get s.roots i ≡ Some root → IsAwaitedText s (awaited_root s root) (encode_utf8_all front) → Passes a front b →
    TakesNext s [] (Completes s Before) Before a (Document root.number) (AtRoot root.name root.kind) b
takes_root s i root front a b at named passes =
    let adds : Adds s Before (Document root.number) (encode_utf8_all front) (AtRoot root.name root.kind) =
    (root.name, root.kind, (i, at), awaited_start s root.name root.kind (encode_utf8_all front) named, refl) in
    record {
      front = front;
      adds = adds;
      passes = passes;
      leads = leads_plain s Before (AtRoot root.name root.kind) (Document root.number) front b.rest.now (λ v. v) adds;
    }

pub get_map : {X Y : Type 0} (f : X → Y) (xs : List X) (i : ℕ) (x : X) → slice_get xs i ≡ Some x → slice_get (map f xs) i ≡ Some (f x)
get_map f [] i x h = let wrong : None ≡ Some x = h in absurd cc
get_map f (y ∷ xs) zero x h = let is : Some y ≡ Some x = h in let e : y ≡ x = cc in ap (λ z. Some (f z)) e
get_map f (y ∷ xs) (suc i) x h = get_map f xs i x h

pub map_get : {X Y : Type 0} (f : X → Y) (xs : List X) (i : ℕ) (y : Y) → slice_get (map f xs) i ≡ Some y → (x : X) × (slice_get xs i ≡ Some x) × (f x ≡ y)
map_get f [] i y h = let wrong : None ≡ Some y = h in absurd cc
map_get f (x ∷ xs) zero y h = let is : Some (f x) ≡ Some y = h in let e : f x ≡ y = cc in (x, refl, e)
map_get f (x ∷ xs) (suc i) y h = map_get f xs i y h

-- ---- the value of an element

-- of an element of a simple kind the value follows
pub content_follows : (s : PlainSchema) (top : OpenElement) (above : List OpenElement) (d : Datatype) (text : List ℕ) → simple_at s.kinds top.kind ≡ Some d → top.filling ≡ fills.Nothing →
    Completes s (Within (top ∷ above)) text → StartsValue s top.kind (Completes s (Within (element top.kind fills.Value ∷ above))) text
content_follows s top above d text is none p = by p.0 p.1
  where
    no_end : (o : Option PlainKind) (added : List ℕ) → datatype_of o ≡ Some d → IsEndText o top.filling added → ⊥
    no_end None added has end = end
    no_end (Some (valued e)) added has end = let wrong : fills.Nothing ≡ fills.Value = sym none ∙ end.0 in cc
    no_end (Some (containing attributes particles)) added has end = let wrong : None ≡ Some d = has in cc

    by : (es : List Event) → Goes s (Within (top ∷ above)) es text → StartsValue s top.kind (Completes s (Within (element top.kind fills.Value ∷ above))) text
    by [] goes = let wrong : Within (top ∷ above) ≡ Within [] = goes.1 in absurd cc
    by (Document n ∷ es) goes = absurd goes.3
    by (Start n ∷ es) goes = absurd (element_no_value (slice_get s.kinds top.kind) n goes.3.0 d goes.3.2 is)
    by (Attribute n v ∷ es) goes = absurd (attribute_no_value (slice_get s.kinds top.kind) n goes.3.0 d goes.3.3 is)
    by (Content v ∷ es) goes = (v, goes.1, goes.2, goes.3.1, (es, subst (λ (x : Standing). Goes s x es goes.2) goes.3.2 goes.4), goes.5)
    by (EndElement ∷ es) goes = absurd (no_end (slice_get s.kinds top.kind) goes.1 is goes.3.0)

pub follows_content : (s : PlainSchema) (top : OpenElement) (above : List OpenElement) (text : List ℕ) → top.filling ≡ fills.Nothing →
    StartsValue s top.kind (Completes s (Within (element top.kind fills.Value ∷ above))) text → Completes s (Within (top ∷ above)) text
follows_content s top above text none p =
    (Content p.0 ∷ p.4.0, (Within (element top.kind fills.Value ∷ above), p.1, p.2, (none, p.3, refl), p.4.1, p.5))

pub value_ends : (s : PlainSchema) (kind : ℕ) (f : Filling) (above : List OpenElement) → IsSome f → IsNested (Within (element kind f ∷ above)) → (text : List ℕ) → Completes s (Within (element kind f ∷ above)) text → EndsValue text
value_ends s kind f above some nested text p = completes_some s (element kind f) above text some nested p

leads_from : (K L M : List ℕ → Type 0) (front rest : List ℕ) → ((text : List ℕ) → K text → L text) → ((text : List ℕ) → L text → K text) → Leads L front rest M → Leads K front rest M
leads_from K L M front rest to from p = record {
  from = λ text new. from (encode_utf8_all front ++ text) (p.from text new);
  to = λ text shares old. p.to text shares (to (encode_utf8_all front ++ text) old);
}

stalls_from : (K L : List ℕ → Type 0) (a : TextCursor) (f : ScanFault) → ((text : List ℕ) → K text → L text) → ((text : List ℕ) → L text → K text) → StallsAt L a f → StallsAt K a f
stalls_from K L a (fault.Place place) to from p = (
  p.0,
  record {
    more = p.1.more;
    stands = p.1.stands;
    begins = elim p.1.begins [ inl none ↦ inl none | inr one ↦ inr (one.0, from (encode_utf8_all p.0 ++ one.0) one.1) ];
    none_further = λ text shares is. p.1.none_further text shares (to text is);
  },
  p.2,
)
stalls_from K L a fault.Memory to from p = tt

pub takes_content : (s : PlainSchema) (top : OpenElement) (above : List OpenElement) (v : Value) (a b : TextCursor) → top.filling ≡ fills.Nothing → IsNested (Within (top ∷ above)) → TakesValueOf s top.kind v a b →
    TakesNext s [] (Completes s (Within (top ∷ above))) (Within (top ∷ above)) a (Content v) (Within (element top.kind fills.Value ∷ above)) b
takes_content s top above v a b none nested p =
    let L : List ℕ → Type 0 = Completes s (Within (element top.kind fills.Value ∷ above)) in
    record {
      front = p.1;
      adds = (none, (p.0, p.2, p.4), refl);
      passes = p.3.passed;
      leads = leads_from (Completes s (Within (top ∷ above))) (StartsValue s top.kind L) L p.1 b.rest.now (λ t. content_follows s top above p.0 t p.2 none) (λ t. follows_content s top above t none)
          (value_leads s top.kind v L a b (value_ends s top.kind fills.Value above tt nested) p);
    }

pub stalls_content : (s : PlainSchema) (top : OpenElement) (above : List OpenElement) (a : TextCursor) (f : ScanFault) → top.filling ≡ fills.Nothing → IsSound s (Within (top ∷ above)) → MissesValueOf s top.kind a f →
    StallsAt (Completes s (Within (top ∷ above))) a f
stalls_content s top above a f none sound p =
    let L : List ℕ → Type 0 = Completes s (Within (element top.kind fills.Value ∷ above)) in
    let some = completes_all s (element top.kind fills.Value ∷ above) (sound.0.0, sound.0.1, (p.0, p.1), sound.0.3) in
    stalls_from (Completes s (Within (top ∷ above))) (StartsValue s top.kind L) a f (λ t. content_follows s top above p.0 t p.1 none) (λ t. follows_content s top above t none)
    (value_stalls s top.kind L a f some.0 some.1 (value_ends s top.kind fills.Value above tt sound.1) p)

-- ---- the end of an element

pub takes_end : (s : PlainSchema) (top : OpenElement) (above : List OpenElement) (front : List ℕ) (a b : TextCursor) → IsEndText (slice_get s.kinds top.kind) top.filling (encode_utf8_all front) → Passes a front b →
    TakesNext s [] (Completes s (Within (top ∷ above))) (Within (top ∷ above)) a EndElement (Within above) b
takes_end s top above front a b end passes =
    record {
      front = front;
      adds = (end, refl);
      passes = passes;
      leads = leads_plain s (Within (top ∷ above)) (Within above) EndElement front b.rest.now (λ v. v) (end, refl);
    }

-- ---- the root's answers

abbrev pub IsMarked : PlainSchema → Awaited → Type 0
IsMarked s one = (one.name < length s.names) × (one.end < 128) × (is_word_char one.end ≡ false)

roots_from : (s : PlainSchema) (roots : List RootOf) → ((i : ℕ) (root : RootOf) → slice_get roots i ≡ Some root → root.name < length s.names) → AllByRecursion (λ root. IsMarked s (awaited_root s root)) roots
roots_from s [] each = tt
roots_from s (root ∷ roots) each = ((each 0 root refl, mark_low s root.kind, mark_is_none s root.kind), roots_from s roots (λ i r at. each (suc i) r at))

pub roots_marked : (s : PlainSchema) (awaited items : List Awaited) → items ≡ map (awaited_root s) s.roots → awaited ≡ items → AreMarked s awaited
roots_marked s awaited items made same =
    subst (λ (xs : List Awaited). AreMarked s xs) (sym (same ∙ made))
    (all_map (IsMarked s) (awaited_root s) s.roots (roots_from s s.roots (λ i root at. root_name s root.number root.name root.kind (i, at))))

pub root_at : (s : PlainSchema) (awaited items : List Awaited) (i : ℕ) (one : Awaited) → items ≡ map (awaited_root s) s.roots → awaited ≡ items → slice_get awaited i ≡ Some one → (root : RootOf) × (slice_get s.roots i ≡ Some root) × (awaited_root s root ≡ one)
root_at s awaited items i one made same at = map_get (awaited_root s) s.roots i one (ap (λ (xs : List Awaited). slice_get xs i) (sym (same ∙ made)) ∙ at)

pub root_taken : (s : PlainSchema) (awaited items : List Awaited) (i : ℕ) (d : RootOf) (a b : TextCursor) → items ≡ map (awaited_root s) s.roots → awaited ≡ items →
    (p : (front : List ℕ) × (one : Awaited) × Takes (IsAnyAwaited s awaited) a front b × (slice_get awaited i ≡ Some one) × IsAwaitedText s one (encode_utf8_all front)) →
    TakesNext s [] (Completes s Before) Before a (Document (get_or s.roots i d).number) (AtRoot (get_or s.roots i d).name (get_or s.roots i d).kind) b
root_taken s awaited items i d a b made same p =
    let found = root_at s awaited items i p.1 made same p.3 in
    let low = slice_get_within s.roots i found.0 found.1 in
    let there : Some (get_or s.roots i d) ≡ Some found.0 = sym (slice_get-get_or s.roots i d low) ∙ found.1 in
    let is : found.0 ≡ get_or s.roots i d = cc in
    let named : IsAwaitedText s (awaited_root s found.0) (encode_utf8_all p.0) = subst (λ (x : Awaited). IsAwaitedText s x (encode_utf8_all p.0)) (sym found.2) p.4 in
    subst (λ (r : RootOf). TakesNext s [] (Completes s Before) Before a (Document r.number) (AtRoot r.name r.kind) b) is (takes_root s i found.0 p.0 a b found.1 named p.2.passed)

pub root_within : (s : PlainSchema) (awaited items : List Awaited) (i : ℕ) (a b : TextCursor) → items ≡ map (awaited_root s) s.roots → awaited ≡ items →
    (p : (front : List ℕ) × (one : Awaited) × Takes (IsAnyAwaited s awaited) a front b × (slice_get awaited i ≡ Some one) × IsAwaitedText s one (encode_utf8_all front)) → i < length s.roots
root_within s awaited items i a b made same p = let found = root_at s awaited items i p.1 made same p.3 in slice_get_within s.roots i found.0 found.1

-- the front of a root that is awaited can go on
root_on : (s : PlainSchema) (i : ℕ) (root : RootOf) (text : List ℕ) → slice_get s.roots i ≡ Some root → IsAwaitedText s (awaited_root s root) text → (rest : List ℕ) × Completes s Before (text ++ rest)
root_on s i root text at named =
    let is : IsRoot s.roots s.root_bits root.number (Kind root.name root.kind) = (i, at) in
    let some = completes_all s (element root.kind fills.Nothing ∷ []) (root_kind s root.number root.name root.kind is, root_deep s i root at, tt, tt) in
    let all = completes_root s root.name root.kind some.0 some.1 in
    (some.0, (Document root.number ∷ all.0, (AtRoot root.name root.kind, text, some.0, (root.name, root.kind, is, awaited_start s root.name root.kind text named, refl), all.1, refl)))

first_root : (s : PlainSchema) (text : List ℕ) (es : List Event) → Goes s Before es text → (i : ℕ) × (root : RootOf) × (part : List ℕ) × (rest : List ℕ) × (slice_get s.roots i ≡ Some root) × IsStartText s root.name root.kind part × (text ≡ part ++ rest)
first_root s text [] goes = let wrong : Before ≡ Within [] = goes.1 in absurd cc
first_root s text (Document n ∷ es) goes =
    (goes.3.2.0, record { number = n; name = goes.3.0; kind = goes.3.1 }, goes.1, goes.2, goes.3.2.1, goes.3.3, goes.5)
first_root s text (Start n ∷ es) goes = absurd goes.3
first_root s text (Attribute n v ∷ es) goes = absurd goes.3
first_root s text (Content v ∷ es) goes = absurd goes.3
first_root s text (EndElement ∷ es) goes = absurd goes.3

pub root_stalls : (s : PlainSchema) (awaited items : List Awaited) (a : TextCursor) (f : ScanFault) → items ≡ map (awaited_root s) s.roots → awaited ≡ items → MissesAt (IsAnyAwaited s awaited) a f → StallsAt (Completes s Before) a f
root_stalls s awaited items a f made same p =
    stalls_named s awaited (Completes s Before) a f (roots_marked s awaited items made same)
    (λ text is. let found = root_at s awaited items is.0 is.1 made same is.2 in
    root_on s is.0 found.0 text found.1 (subst (λ (x : Awaited). IsAwaitedText s x text) (sym found.2) is.3))
    (λ text q. let one = first_root s text q.0 q.1 in (
      one.2,
      one.3,
      (one.0, awaited_root s one.1, ap (λ (xs : List Awaited). slice_get xs one.0) (same ∙ made) ∙ get_map (awaited_root s) s.roots one.0 one.1 one.4, start_awaited s one.1.name one.1.kind one.2 one.5),
      one.6,
    ))
    p
