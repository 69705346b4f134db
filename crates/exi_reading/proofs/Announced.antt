-- A text behind the number that announces it.
use Rattle.std.proofs.Common.{◌≡◌, ℕ, suc, ◌+◌, ◌<◌, ◌≤◌, Bool, false, ltb, List, length, refl, subst, arith, inl, inr, ◌⊎◌, Result, Ok, Err, IsTrue}
use Rattle.std.specs.Result.{IfOk, IfErr}
use Rattle.std.proofs.lemmas.Bool.{ltb-true, ltb-false}
use Rattle.std.proofs.lemmas.List.{length-map}
use Rattle.exi_spec.specs.declared.BitCause.{BitCause}
use Rattle.exi_spec.specs.Items.{SpellsUnsigned, SpellsChars, RefusesChars}
use Rattle.exi_bits.specs.Lent.{Span, items_of}
use Rattle.exi_bits.specs.Reading.{Cursor, Takes, ahead}
use Rattle.exi_bits.specs.declared.span.SpanAt.{SpanAt}
use Rattle.exi_schema.specs.declared.tables.Datatype.TheVariants.{Text}
use Rattle.exi_values.specs.Table.{global_of, local_of}
use Rattle.exi_values.specs.Texts.{SpellsIndex, SpellsText, entered}
use Rattle.exi_values.specs.Values.{Entries, most_entries, cause_of, RefusesValue, RefusesIndex, RefusesAnnounced, Overfills}
use Rattle.exi_values.specs.Refusal.{Refusal}
use Rattle.exi_values.specs.RefusalCause.TheVariants.{TooLong, TableFull}
use Rattle.exi_values.specs.Meaning.{texts_in}
use Rattle.exi_reading.specs.Refusing.{Refused}
use Rattle.exi_reading.proofs.Parts.{announced}

-- ---- an index

local_takes : (most name : ℕ) (entries : Entries) (old mid new : Cursor) (text : List ℕ) → Takes (SpellsUnsigned 0) old mid → Takes (SpellsIndex (local_of name entries) text) mid new → length text ≤ most → Takes (λ bits. SpellsText most entries name text bits entries) old new
local_takes most name entries old mid new text a b within =
    let t = announced 0 (SpellsIndex (local_of name entries) text) old mid new a b in
    (t.0, record { within = within; spelled = inl (inl t.1, refl) }, t.2)

global_takes : (most name : ℕ) (entries : Entries) (old mid new : Cursor) (text : List ℕ) → Takes (SpellsUnsigned 1) old mid → Takes (SpellsIndex (global_of entries) text) mid new → length text ≤ most → Takes (λ bits. SpellsText most entries name text bits entries) old new
global_takes most name entries old mid new text a b within =
    let t = announced 1 (SpellsIndex (global_of entries) text) old mid new a b in
    (t.0, record { within = within; spelled = inl (inr t.1, refl) }, t.2)

pub local_ok : (most name n : ℕ) (entries : List (ℕ × SpanAt)) (old mid new : Cursor) (r : Result Span Refusal) → n ≡ 0 → Takes (SpellsUnsigned n) old mid → IfOk r (λ s. Takes (SpellsIndex (local_of name (texts_in mid.bits entries)) (items_of s)) mid new) → IfOk r (λ s. length (items_of s) ≤ most) → IfOk r (λ s. Takes (λ bits. SpellsText most (texts_in old.bits entries) name (items_of s) bits (texts_in old.bits entries)) old new)
local_ok most name n entries old mid new (Ok s) zero_is t b within =
    local_takes most name (texts_in old.bits entries) old mid new (items_of s) (subst (λ (k : ℕ). Takes (SpellsUnsigned k) old mid) zero_is t)
    (subst (λ (l : List Bool). Takes (SpellsIndex (local_of name (texts_in l entries)) (items_of s)) mid new) t.2.same b) within
local_ok most name n entries old mid new (Err e) zero_is t b within = tt

pub global_ok : (most name n : ℕ) (entries : List (ℕ × SpanAt)) (old mid new : Cursor) (r : Result Span Refusal) → n ≡ 1 → Takes (SpellsUnsigned n) old mid → IfOk r (λ s. Takes (SpellsIndex (global_of (texts_in mid.bits entries)) (items_of s)) mid new) → IfOk r (λ s. length (items_of s) ≤ most) → IfOk r (λ s. Takes (λ bits. SpellsText most (texts_in old.bits entries) name (items_of s) bits (texts_in old.bits entries)) old new)
global_ok most name n entries old mid new (Ok s) one_is t b within =
    global_takes most name (texts_in old.bits entries) old mid new (items_of s) (subst (λ (k : ℕ). Takes (SpellsUnsigned k) old mid) one_is t)
    (subst (λ (l : List Bool). Takes (SpellsIndex (global_of (texts_in l entries)) (items_of s)) mid new) t.2.same b) within
global_ok most name n entries old mid new (Err e) one_is t b within = tt

-- what is refused behind a number
behind : (most name n at : ℕ) (entries : Entries) (old mid : Cursor) (r : Refusal) → Takes (SpellsUnsigned n) old mid → RefusesAnnounced most entries name n (ahead mid) r.cause at → r.bit ≡ mid.place + at → Refused (RefusesValue (Text most) entries name) old r
behind most name n at entries old mid r t refused bit_is =
    (length t.0 + at, inr (n, t.0, ahead mid, at, t.1, t.2.there, refused, refl), omega (arith, bit_is, t.2.moved))

pub local_refused : (most name n : ℕ) (entries : List (ℕ × SpanAt)) (old mid : Cursor) (r : Result Span Refusal) → n ≡ 0 → Takes (SpellsUnsigned n) old mid → IfErr r (λ e. RefusesIndex most (local_of name (texts_in mid.bits entries)) (ahead mid) e.cause) → IfErr r (λ e. e.bit ≡ mid.place) → IfErr r (Refused (RefusesValue (Text most) (texts_in old.bits entries) name) old)
local_refused most name n entries old mid (Ok s) zero_is t b bit_is = tt
local_refused most name n entries old mid (Err e) zero_is t b bit_is =
    behind most name 0 0 (texts_in old.bits entries) old mid e (subst (λ (k : ℕ). Takes (SpellsUnsigned k) old mid) zero_is t)
    (subst (λ (l : List Bool). RefusesIndex most (local_of name (texts_in l entries)) (ahead mid) e.cause) t.2.same b, refl)
    (omega (arith, bit_is))

pub global_refused : (most name n : ℕ) (entries : List (ℕ × SpanAt)) (old mid : Cursor) (r : Result Span Refusal) → n ≡ 1 → Takes (SpellsUnsigned n) old mid → IfErr r (λ e. RefusesIndex most (global_of (texts_in mid.bits entries)) (ahead mid) e.cause) → IfErr r (λ e. e.bit ≡ mid.place) → IfErr r (Refused (RefusesValue (Text most) (texts_in old.bits entries) name) old)
global_refused most name n entries old mid (Ok s) one_is t b bit_is = tt
global_refused most name n entries old mid (Err e) one_is t b bit_is =
    behind most name 1 0 (texts_in old.bits entries) old mid e (subst (λ (k : ℕ). Takes (SpellsUnsigned k) old mid) one_is t)
    (subst (λ (l : List Bool). RefusesIndex most (global_of (texts_in l entries)) (ahead mid) e.cause) t.2.same b, refl)
    (omega (arith, bit_is))

-- ---- a text that is spelled out

-- by the number of entries, whether there is room for one more
is_full : (bits : List Bool) (entries : List (ℕ × SpanAt)) (count : ℕ) → count ≡ length entries → ltb count 8192 ≡ false → most_entries ≤ length (texts_in bits entries)
is_full bits entries count is full = rw length-map (omega (arith, is, ltb-false count 8192 full))

has_room : (bits : List Bool) (entries : List (ℕ × SpanAt)) (count : ℕ) → count ≡ length entries → IsTrue (ltb count 8192) → length (texts_in bits entries) < most_entries
has_room bits entries count is room = rw length-map (omega (arith, is, ltb-true count 8192 room))

pub length_refused : (most name m n count bit : ℕ) (entries : List (ℕ × SpanAt)) (old mid : Cursor) (r : Refusal) → m ≡ n + 2 → Takes (SpellsUnsigned m) old mid → count ≡ length entries → (((most < n) × (r.cause ≡ TooLong)) ⊎ ((n ≤ most) × (0 < n) × (ltb count 8192 ≡ false) × (r.cause ≡ TableFull))) → r.bit ≡ bit → bit ≡ old.place → Refused (RefusesValue (Text most) (texts_in old.bits entries) name) old r
length_refused most name m n count bit entries old mid r m_is t count_is (inl long) at here =
    (0, inl (inr (n, (t.0, ahead mid, subst (λ (k : ℕ). SpellsUnsigned k t.0) m_is t.1, t.2.there), inl long), refl), omega (arith, at, here))
length_refused most name m n count bit entries old mid r m_is t count_is (inr over) at here =
    (0, inl (inr (n, (t.0, ahead mid, subst (λ (k : ℕ). SpellsUnsigned k t.0) m_is t.1, t.2.there), inr (over.0, (over.1, is_full old.bits entries count count_is over.2), over.3)), refl), omega (arith, at, here))

spelled_takes : (most name m : ℕ) (entries after : Entries) (old mid new : Cursor) (text : List ℕ) → m ≡ length text + 2 → length text ≤ most → Takes (SpellsUnsigned m) old mid → Takes (SpellsChars text) mid new → after ≡ entered entries name text → Takes (λ bits. SpellsText most entries name text bits after) old new
spelled_takes most name m entries after old mid new text m_is within a b after_is =
    let t = announced (length text + 2) (SpellsChars text) old mid new (subst (λ (k : ℕ). Takes (SpellsUnsigned k) old mid) m_is a) b in
    (t.0, record { within = within; spelled = inr (t.1, after_is) }, t.2)

pub spelled_ok : (most name m n asked : ℕ) (entries after : List (ℕ × SpanAt)) (old mid new : Cursor) (r : Result Span Refusal) → m ≡ n + 2 → n ≡ asked → asked ≤ most → Takes (SpellsUnsigned m) old mid → IfOk r (λ s. length (items_of s) ≡ n) → IfOk r (λ s. Takes (SpellsChars (items_of s)) mid new) → IfOk r (λ s. texts_in mid.bits after ≡ entered (texts_in mid.bits entries) name (items_of s)) → IfOk r (λ s. Takes (λ bits. SpellsText most (texts_in old.bits entries) name (items_of s) bits (texts_in old.bits after)) old new)
spelled_ok most name m n asked entries after old mid new (Ok s) m_is n_is few t long b after_is =
    spelled_takes most name m (texts_in old.bits entries) (texts_in old.bits after) old mid new (items_of s) (omega (arith, m_is, long)) (omega (arith, few, n_is, long)) t b
    (subst (λ (l : List Bool). texts_in l after ≡ entered (texts_in l entries) name (items_of s)) t.2.same after_is)
spelled_ok most name m n asked entries after old mid new (Err e) m_is n_is few t long b after_is = tt

pub spelled_refused : (most name m n asked count : ℕ) (entries : List (ℕ × SpanAt)) (old mid : Cursor) (r : Result Span Refusal) → m ≡ n + 2 → n ≡ asked → asked ≤ most → (0 < asked → IsTrue (ltb count 8192)) → count ≡ length entries → Takes (SpellsUnsigned m) old mid → IfErr r (λ e. (at : ℕ) × ((why : BitCause) × RefusesChars n (ahead mid) why at × (e.cause ≡ cause_of why)) × (e.bit ≡ mid.place + at)) → IfErr r (Refused (RefusesValue (Text most) (texts_in old.bits entries) name) old)
spelled_refused most name m n asked count entries old mid (Ok s) m_is n_is few room count_is t b = tt
spelled_refused most name m n asked count entries old mid (Err e) m_is n_is within room count_is t b =
    let m_suc : m ≡ suc (suc n) = omega (arith, m_is) in
    let few : n ≤ most = omega (arith, n_is, within) in
    let not_over : Overfills (texts_in old.bits entries) n → ⊥ =
    λ o. absurd (omega (arith, o.1, has_room old.bits entries count count_is (room (omega (arith, o.0, n_is))))) in
    behind most name (suc (suc n)) b.0 (texts_in old.bits entries) old mid e (subst (λ (k : ℕ). Takes (SpellsUnsigned k) old mid) m_suc t)
    (few, not_over, b.1.0, b.1.1, b.1.2) b.2
