-- The header byte and the document number.
use Rattle.std.proofs.Common.{◌≡◌, ℕ, zero, suc, ◌+◌, ◌≤◌, Bool, List, [], ◌∷◌, ◌++◌, length, take, refl, ap, sym, ◌∙◌, inl, inr, arith, length-append, append_assoc, Result, Ok, Err, IfOk, IfErr}
use Rattle.exi_spec.specs.Bits.{number_bits, number_of}
use Rattle.exi_spec.specs.Items.{SpellsNumber}
use Rattle.exi_spec.proofs.BitLaws.{length-number_bits, number_of-number_bits}
use Rattle.exi_bits.specs.Reading.{Cursor, Takes, ahead}
use Rattle.exi_schema.specs.Schemas.{PlainSchema}
use Rattle.exi_writing.specs.Refusal.{Refusal}
use Rattle.exi_writing.specs.RefusalCause.{RefusalCause}
use Rattle.exi_writing.specs.RefusalCause.TheVariants.{BadHeader}
use Rattle.exi_writing.specs.Refusals.{RefusesHeader, RefusesNumber, RefusesFront}
use Rattle.exi_events.specs.declared.step.RootNumber.{RootNumber}
use Rattle.exi_events.specs.Front.{SpellsHeader, SpellsFront}

pub take_all_of : (front rest : List Bool) (n : ℕ) → length front ≡ n → take n (front ++ rest) ≡ front
take_all_of [] rest zero long = refl
take_all_of [] rest (suc n) long = cc
take_all_of (bit ∷ front) rest zero long = cc
take_all_of (bit ∷ front) rest (suc n) long = ap (λ xs. bit ∷ xs) (take_all_of front rest n (omega (arith, long)))

pub other_header : (old new : Cursor) (v : ℕ) → Takes (SpellsNumber 8 v) old new → (v ≡ 128 → ⊥) → RefusesHeader (ahead old) BadHeader
other_header old new v took other =
    let front : List Bool = took.0 in
    let is : front ≡ number_bits 8 v = took.1.spelled in
    let long : length front ≡ 8 = ap length is ∙ length-number_bits 8 v in
    let there : ahead old ≡ front ++ ahead new = took.2.there in
    let enough : 8 ≤ length (front ++ ahead new) = rw (length-append front (ahead new)) (omega (arith, long)) in
    let taken : take 8 (ahead old) ≡ number_bits 8 v = ap (take 8) there ∙ take_all_of front (ahead new) 8 long ∙ is in
    inr (rw there enough, λ same. other (sym (number_of-number_bits 8 v took.1.range) ∙ ap number_of (sym taken ∙ same) ∙ number_of-number_bits 8 128 (omega arith)), refl)

-- one item behind the other
pub takes_both : {A B : List Bool → Type 0} (old middle new : Cursor) → Takes A old middle → Takes B middle new →
    Takes (λ bits. (front : List Bool) × (rest : List Bool) × A front × B rest × (bits ≡ front ++ rest)) old new
takes_both {A} {B} old middle new one two =
    let there : ahead old ≡ (one.0 ++ two.0) ++ ahead new =
    one.2.there ∙ ap (λ xs. one.0 ++ xs) two.2.there ∙ sym (append_assoc one.0 two.0 (ahead new)) in
    let moved : new.place ≡ old.place + length (one.0 ++ two.0) =
    rw (length-append one.0 two.0) (let a : middle.place ≡ old.place + length one.0 = one.2.moved in let b : new.place ≡ middle.place + length two.0 = two.2.moved in omega (arith, a, b)) in
    (one.0 ++ two.0, (one.0, two.0, one.1, two.1, refl), record { same = two.2.same ∙ one.2.same; moved = moved; there = there })

pub front_took : (s : PlainSchema) (old middle new : Cursor) (number : ℕ) → Takes SpellsHeader old middle → Takes (SpellsNumber s.root_bits number) middle new → Takes (SpellsFront s number) old new
front_took s old middle new number one two =
    let both = takes_both {A = SpellsHeader} {B = SpellsNumber s.root_bits number} old middle new one two in
    (both.0, (both.1.1, both.1.3, both.1.4 ∙ ap (λ xs. xs ++ both.1.1) both.1.2), both.2)

pub header_refused : (s : PlainSchema) (bits : List Bool) (why : RefusalCause) (bit place : ℕ) → RefusesHeader bits why → bit ≡ place →
    (at : ℕ) × RefusesFront s bits why at × (bit ≡ place + at)
header_refused s bits why bit place refused at = (0, inl (refused, refl), omega (arith, at))

pub number_refused : (s : PlainSchema) (old middle : Cursor) (why : RefusalCause) (bit : ℕ) → Takes SpellsHeader old middle → RefusesNumber s (ahead middle) why → bit ≡ middle.place →
    (at : ℕ) × RefusesFront s (ahead old) why at × (bit ≡ old.place + at)
number_refused s old middle why bit took refused at =
    let moved : middle.place ≡ old.place + length took.0 = took.2.moved in
    let long : length took.0 ≡ 8 = ap length took.1 ∙ length-number_bits 8 128 in
    (8, inr (ahead middle, took.2.there ∙ ap (λ xs. xs ++ ahead middle) took.1, refused, refl), omega (arith, moved, long, at))

pub roots_took : (s : PlainSchema) (old middle new : Cursor) (result : Result RootNumber Refusal) → Takes SpellsHeader old middle →
    IfOk result (λ root. Takes (SpellsNumber s.root_bits root.number) middle new) → IfOk result (λ root. Takes (SpellsFront s root.number) old new)
roots_took s old middle new (Ok root) one two = front_took s old middle new root.number one two
roots_took s old middle new (Err refusal) one two = two

pub roots_refused : (s : PlainSchema) (old middle : Cursor) (result : Result RootNumber Refusal) → Takes SpellsHeader old middle →
    IfErr result (λ r. RefusesNumber s (ahead middle) r.cause) → IfErr result (λ r. r.bit ≡ middle.place) →
    IfErr result (λ r. (at : ℕ) × RefusesFront s (ahead old) r.cause at × (r.bit ≡ old.place + at))
roots_refused s old middle (Ok root) took refused at = refused
roots_refused s old middle (Err refusal) took refused at = number_refused s old middle refusal.cause refusal.bit took refused at
