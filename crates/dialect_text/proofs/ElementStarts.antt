-- The starts of elements inside an element of a complex kind.
use Rattle.std.proofs.Common.{◌≡◌, ℕ, zero, suc, ◌-◌, ◌<◌, true, false, List, ◌∷◌, length, Option, Some, None, slice_get, refl, sym, ap, subst, ◌∙◌, arith, get_or}
use Rattle.std.specs.List.{list_all, AllByRecursion}
use Rattle.std.specs.Str.{encode_utf8_all}
use Rattle.std.proofs.lemmas.Option.{slice_get_within, slice_get-get_or}
use Rattle.exi_schema.specs.Schemas.{PlainSchema, is_within, particles_of, is_word_char}
use Rattle.exi_schema.specs.Plain.{PlainKind, valued, containing, PlainParticle}
use Rattle.exi_schema.specs.declared.tables.Member.{Member}
use Rattle.exi_schema.proofs.Conditions.{all_get}
use Rattle.exi_documents.specs.Trees.{Start}
use Rattle.value_text.specs.declared.awaited.Awaited.{Awaited}
use Rattle.value_text.specs.declared.cursor.TextCursor.{TextCursor}
use Rattle.value_text.specs.Scanning.{IsAwaitedText, IsAnyAwaited, MissesAt}
use Rattle.dialect_text.specs.declared.elements.Filling.TheVariants as fills
use Rattle.dialect_text.specs.declared.elements.OpenElement.{OpenElement}
use Rattle.value_text.specs.declared.fault.ScanFault.{ScanFault}
use Rattle.dialect_text.specs.Dialect.{Within, element, element_in, element_of, element_named, mark, gap, IsStartText}
use Rattle.dialect_text.specs.Languages.{Completes, Leads}
use Rattle.dialect_text.specs.Scanning.{IsSound}
use Rattle.dialect_text.specs.Following.{TakesNext, StallsAt, StartsElement}
use Rattle.dialect_text.specs.Awaited.{IsAwaitedElement, HasElements}
use Rattle.dialect_text.proofs.Awaiting.{element_found}
use Rattle.dialect_text.proofs.Named.{AreMarked, all_at, all_then, stalls_named}
use Rattle.dialect_text.proofs.Once.{start_once, mark_is_none}
use Rattle.dialect_text.proofs.Parts.{IsMarked, mark_low, awaited_start, start_awaited}
use Rattle.dialect_text.proofs.Starts.{NameTaken}
use Rattle.dialect_text.proofs.Viable.{completes_all}

abbrev pub FitsMember : PlainSchema → Member → Type 0
FitsMember s member = (member.name < length s.names) × (member.kind < length s.kinds)

abbrev pub FitsParticle : PlainSchema → PlainParticle → Type 0
FitsParticle s particle = AllByRecursion (FitsMember s) particle.members

-- the name and kind of an element are the schema's
pub element_fits : (s : PlainSchema) (particles : List PlainParticle) (name kind : ℕ) → AllByRecursion (FitsParticle s) particles → element_named particles name ≡ Some kind → (name < length s.names) × (kind < length s.kinds)
element_fits s particles name kind fit is =
    let found = element_found particles name kind is in
    let members = all_at (FitsParticle s) particles found.0 found.1 fit found.2 in
    let one = all_at (FitsMember s) found.1.members found.3.0 found.3.1 members found.3.2 in
    (subst (λ (n : ℕ). n < length s.names) found.3.3 one.0, subst (λ (k : ℕ). k < length s.kinds) found.3.4 one.1)

pub elements_marked : (s : PlainSchema) (particles : List PlainParticle) (awaited items : List Awaited) → AllByRecursion (FitsParticle s) particles → AllByRecursion (IsAwaitedElement s particles) items → awaited ≡ items → AreMarked s awaited
elements_marked s particles awaited items fit only same =
    subst (λ (xs : List Awaited). AreMarked s xs) (sym same)
    (all_then (IsAwaitedElement s particles) (IsMarked s) items
    (λ one is. ((element_fits s particles one.name is.0 fit is.1).0, subst (λ (c : ℕ). c < 128) (sym is.2) (mark_low s is.0), ap is_word_char is.2 ∙ mark_is_none s is.0)) only)

-- ---- depth

within_by : (s : PlainSchema) (o : Option PlainKind) (name kind d : ℕ) → element_in o name ≡ Some kind → list_all (λ particle. list_all (λ member. is_within s.kinds d member.kind) particle.members) (particles_of o) ≡ true → is_within s.kinds d kind ≡ true
within_by s None name kind d is all = let wrong : None ≡ Some kind = is in absurd cc
within_by s (Some (valued t)) name kind d is all = let wrong : None ≡ Some kind = is in absurd cc
within_by s (Some (containing attributes particles)) name kind d is all =
    let found = element_found particles name kind is in
    let members = all_get (λ particle. list_all (λ member. is_within s.kinds d member.kind) particle.members) particles found.0 found.1 all found.2 in
    let one = all_get (λ member. is_within s.kinds d member.kind) found.1.members found.3.0 found.3.1 members found.3.2 in
    subst (λ (k : ℕ). is_within s.kinds d k ≡ true) found.3.4 one

-- an element inside another has room below it
pub room_inside : (s : PlainSchema) (top : OpenElement) (above : List OpenElement) (name kind : ℕ) → is_within s.kinds (16 - length above) top.kind ≡ true → element_of s top.kind name ≡ Some kind →
    (suc (length above) < 16) × (is_within s.kinds (16 - suc (length above)) kind ≡ true)
room_inside s top above name kind deep is = by (16 - length above) refl deep
  where
    last : (n : ℕ) → 16 - length above ≡ suc n → is_within s.kinds n kind ≡ true → (suc (length above) < 16) × (is_within s.kinds (16 - suc (length above)) kind ≡ true)
    last zero e inner = let wrong : false ≡ true = inner in absurd cc
    last (suc n) e inner = let left : 16 - suc (length above) ≡ suc n = omega (arith, e) in (omega (arith, e), ap (λ (k : ℕ). is_within s.kinds k kind) left ∙ inner)

    by : (n : ℕ) → 16 - length above ≡ n → is_within s.kinds n top.kind ≡ true → (suc (length above) < 16) × (is_within s.kinds (16 - suc (length above)) kind ≡ true)
    by zero e is_deep = let wrong : false ≡ true = is_deep in absurd cc
    by (suc n) e is_deep = last n e (within_by s (slice_get s.kinds top.kind) name kind n is is_deep)

abbrev pub opened : ℕ → OpenElement → List OpenElement → List OpenElement
opened kind top above = element kind fills.Nothing ∷ element top.kind fills.Elements ∷ above

pub opened_sound : (s : PlainSchema) (top : OpenElement) (above : List OpenElement) (name kind : ℕ) → IsSound s (Within (top ∷ above)) → element_of s top.kind name ≡ Some kind → kind < length s.kinds → IsSound s (Within (opened kind top above))
opened_sound s top above name kind sound is low =
    ((low, (room_inside s top above name kind sound.0.1 is).1, tt, (sound.0.0, sound.0.1, (name, kind, is), sound.0.3)), (refl, sound.1))

-- ---- what is taken

element_leads : (s : PlainSchema) (top : OpenElement) (above : List OpenElement) (name kind : ℕ) (front rest : List ℕ) → element_of s top.kind name ≡ Some kind → IsStartText s name kind (encode_utf8_all front) →
    Leads (StartsElement s top above) front rest (Completes s (Within (opened kind top above)))
element_leads s top above name kind front rest is start = record {
  from = λ text new. record { name = name; kind = kind; front = encode_utf8_all front; rest = text; declared = is; starts = start; follows = new; text_is = refl };
  to = λ text shares old.
      let one = start_once s name old.name kind old.kind (encode_utf8_all front) old.front text old.rest start old.starts old.text_is in
      let kinds : Some kind ≡ Some old.kind = sym is ∙ ap (λ (n : ℕ). element_of s top.kind n) one.0 ∙ old.declared in
      let same : old.kind ≡ kind = cc in
      subst (λ (t : List ℕ). Completes s (Within (opened kind top above)) t) (sym one.1) (subst (λ (k : ℕ). Completes s (Within (opened k top above)) old.rest) same old.follows);
}

pub element_answer : (s : PlainSchema) (elements filled pushed : List OpenElement) (top : OpenElement) (particles : List PlainParticle) (awaited items : List Awaited) (i kind : ℕ) (one : Awaited) (a b : TextCursor) (o : Option ℕ) (above : List OpenElement) →
    AllByRecursion (IsAwaitedElement s particles) items → awaited ≡ items → NameTaken s awaited a b i → slice_get items i ≡ Some one → o ≡ element_named particles one.name → o ≡ Some kind →
    ((name : ℕ) → element_of s top.kind name ≡ element_named particles name) →
    ((t : OpenElement) (more : List OpenElement) → elements ≡ t ∷ more → filled ≡ element t.kind fills.Elements ∷ more) → pushed ≡ element kind fills.Nothing ∷ filled → elements ≡ top ∷ above →
    TakesNext s (gap top.filling) (StartsElement s top above) (Within elements) a (Start one.name) (Within pushed) b
element_answer s elements filled pushed top particles awaited items i kind one a b o above only same p at e is of_kind fill push has =
    let is_one : Some p.1 ≡ Some one = sym p.3 ∙ ap (λ (xs : List Awaited). slice_get xs i) same ∙ at in
    let chosen : p.1 ≡ one = cc in
    let right = all_at (IsAwaitedElement s particles) items i one only at in
    let kinds : Some right.0 ≡ Some kind = sym right.1 ∙ sym e ∙ is in
    let kind_is : right.0 ≡ kind = cc in
    let named : element_of s top.kind one.name ≡ Some kind = of_kind one.name ∙ sym e ∙ is in
    let text : IsAwaitedText s (record { name = one.name; end = mark s kind }) (encode_utf8_all p.0) =
    subst (λ (c : ℕ). IsAwaitedText s (record { name = one.name; end = c }) (encode_utf8_all p.0)) (right.2 ∙ ap (λ (k : ℕ). mark s k) kind_is) (subst (λ (x : Awaited). IsAwaitedText s x (encode_utf8_all p.0)) chosen p.4) in
    let start = awaited_start s one.name kind (encode_utf8_all p.0) text in
    let made : pushed ≡ opened kind top above = push ∙ ap (λ (xs : List OpenElement). element kind fills.Nothing ∷ xs) (fill top above has) in
    subst (λ (x : List OpenElement). TakesNext s (gap top.filling) (StartsElement s top above) (Within elements) a (Start one.name) (Within x) b) (sym made)
    (subst (λ (x : List OpenElement). TakesNext s (gap top.filling) (StartsElement s top above) (Within x) a (Start one.name) (Within (opened kind top above)) b) (sym has)
    (record {
      front = p.0;
      adds = (kind, encode_utf8_all p.0, named, start, refl, refl);
      passes = p.2.passed;
      leads = element_leads s top above one.name kind p.0 b.rest.now named start;
    }))

pub element_known : (s : PlainSchema) (particles : List PlainParticle) (items : List Awaited) (i : ℕ) (one : Awaited) (o : Option ℕ) → AllByRecursion (IsAwaitedElement s particles) items → slice_get items i ≡ Some one → o ≡ element_named particles one.name →
    (kind : ℕ) × (o ≡ Some kind)
element_known s particles items i one o only at e = let right = all_at (IsAwaitedElement s particles) items i one only at in (right.0, e ∙ right.1)

pub element_room : (s : PlainSchema) (elements filled : List OpenElement) (top : OpenElement) (particles : List PlainParticle) (name kind : ℕ) (o : Option ℕ) → ((above : List OpenElement) × (elements ≡ top ∷ above)) → IsSound s (Within elements) →
    ((n : ℕ) → element_of s top.kind n ≡ element_named particles n) → o ≡ element_named particles name → o ≡ Some kind →
    ((t : OpenElement) (more : List OpenElement) → elements ≡ t ∷ more → filled ≡ element t.kind fills.Elements ∷ more) → length filled < 16
element_room s elements filled top particles name kind o has sound of_kind e is fill =
    let open_one = subst (λ (x : List OpenElement). IsSound s (Within x)) has.1 sound in
    let room = room_inside s top has.0 name kind open_one.0.1 (of_kind name ∙ sym e ∙ is) in
    omega (arith, room.0, ap length (fill top has.0 has.1))

-- ---- what is missed

pub element_stalls : (s : PlainSchema) (top : OpenElement) (above : List OpenElement) (particles : List PlainParticle) (awaited items : List Awaited) (a : TextCursor) (f : ScanFault) → IsSound s (Within (top ∷ above)) →
    AllByRecursion (FitsParticle s) particles → ((name : ℕ) → element_of s top.kind name ≡ element_named particles name) → AllByRecursion (IsAwaitedElement s particles) items → HasElements s particles items → awaited ≡ items →
    MissesAt (IsAnyAwaited s awaited) a f → StallsAt (StartsElement s top above) a f
element_stalls s top above particles awaited items a f sound fit of_kind only each same p =
    stalls_named s awaited (StartsElement s top above) a f (elements_marked s particles awaited items fit only same)
    (λ text is.
    let right = all_at (IsAwaitedElement s particles) items is.0 is.1 only (ap (λ (xs : List Awaited). slice_get xs is.0) (sym same) ∙ is.2) in
    let named : element_of s top.kind is.1.name ≡ Some right.0 = of_kind is.1.name ∙ right.1 in
    let low = (element_fits s particles is.1.name right.0 fit right.1).1 in
    let some = completes_all s (opened right.0 top above) (opened_sound s top above is.1.name right.0 sound named low).0 in
    let marked : IsAwaitedText s (record { name = is.1.name; end = mark s right.0 }) text = subst (λ (c : ℕ). IsAwaitedText s (record { name = is.1.name; end = c }) text) right.2 is.3 in
    (some.0, record { name = is.1.name; kind = right.0; front = text; rest = some.0; declared = named; starts = awaited_start s is.1.name right.0 text marked; follows = some.1; text_is = refl }))
    (λ text q.
    let there = each q.name q.kind (sym (of_kind q.name) ∙ q.declared) in
    (q.front, q.rest, (there.0, record { name = q.name; end = mark s q.kind }, ap (λ (xs : List Awaited). slice_get xs there.0) same ∙ there.1, start_awaited s q.name q.kind q.front q.starts), q.text_is))
    p

pub taken_within : (s : PlainSchema) (awaited items : List Awaited) (i : ℕ) (a b : TextCursor) → awaited ≡ items → NameTaken s awaited a b i → i < length items
taken_within s awaited items i a b same p = slice_get_within items i p.1 (ap (λ (xs : List Awaited). slice_get xs i) (sym same) ∙ p.3)

pub index_got : (items : List Awaited) (i : ℕ) (one : Awaited) → i < length items → one ≡ get_or items i one → slice_get items i ≡ Some one
index_got items i one low e = slice_get-get_or items i one low ∙ ap (λ (x : Awaited). Some x) (sym e)
