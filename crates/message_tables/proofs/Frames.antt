-- A whole message in its frame: what is written reads back, and it fits what is declared and is small where its table is.
use Rattle.std.proofs.Common.{◌≡◌, ℕ, ◌≤◌, true, List, length, Option, Some, None, ◌∙◌, ap, arith}
use Rattle.std.specs.Prelude.{IfSome}
use Rattle.word_tables.specs.Sizes.{inside_weight}
use Rattle.exi_schema.specs.Plain.{PlainKind}
use Rattle.word_tables.specs.PartsFitting.{HoldsTrees}
use Rattle.message_parts.specs.Contents.{Inside}
use Rattle.session_words.specs.declared.code.Code.{Code}
use Rattle.session_words.specs.declared.session.SessionId.{SessionId}
use Rattle.session_words.specs.declared.word.Ask.{Ask}
use Rattle.session_words.specs.declared.word.Ask.TheVariants as ask
use Rattle.session_words.specs.declared.word.Tell.{Tell}
use Rattle.session_words.specs.declared.word.Tell.TheVariants as tell
use Rattle.session_words.specs.declared.word.Word.{Word}
use Rattle.session_words.specs.declared.word.Word.TheVariants as word
use Rattle.word_values.proofs.TextLemmas.{fitting_all}
use Rattle.word_tables.specs.Tables.{Table, rows, written, back, is_apart}
use Rattle.word_tables.specs.Fitting.{CanWrite, fits, bits}
use Rattle.word_tables.proofs.Fitting.{table_holds}
use Rattle.word_tables.proofs.Reading.{inside_back}
use Rattle.word_tables.proofs.Sizes.{table_small}
use Rattle.message_tables.specs.Values.{some_bytes}
use Rattle.message_tables.specs.Frame.{Frame, message, framed, session_of, asked_in, told_in}

abbrev pub request : SessionId → Ask → Word
request session ask = word.Request (record { session = session; ask = ask })

abbrev pub reply : SessionId → Code → Tell → Word
reply session code tell = word.Reply (record { session = session; code = code; tell = tell })

pub asked_back : {X : Type 0} (f : Frame) (name : ℕ) (t : Table rows X) (said : X → Ask) (s : SessionId) (x : X)
    → is_apart (message f name t) ≡ true → length s.bytes.items ≤ 8
    → asked_in f name t said (written (message f name t) (framed s x)) ≡ request s (said (back t x))
asked_back f name t said s x apart few =
    ap (λ y. request (session_of y.0.0) (said y.1.0.0)) (inside_back (message f name t) apart (framed s x))
    ∙ ap (λ b. request (session_of b) (said (back t x))) (fitting_all 8 s.bytes.items few)

pub told_back : {X : Type 0} (f : Frame) (name : ℕ) (t : Table rows (Code × X)) (said : X → Tell) (s : SessionId) (x : Code × X)
    → is_apart (message f name t) ≡ true → length s.bytes.items ≤ 8
    → told_in f name t said (written (message f name t) (framed s x)) ≡ reply s (back t x).0 (said (back t x).1)
told_back f name t said s x apart few =
    ap (λ y. reply (session_of y.0.0) y.1.0.0.0 (said y.1.0.0.1)) (inside_back (message f name t) apart (framed s x))
    ∙ ap (λ b. reply (session_of b) (back t x).0 (said (back t x).1)) (fitting_all 8 s.bytes.items few)

-- what is written for a word, if anything, reads as this
abbrev pub ReadsAs : (Inside → Word) → Option Inside → Word → Type 0
ReadsAs word_in None w = Unit {0}
ReadsAs word_in (Some own) w = word_in own ≡ w

-- ---- sizes

-- it holds what is declared of this kind, and has so many bits at most
pub record IsGood (kinds : List PlainKind) (kind most : ℕ) (own : Inside) : Type 0 where
  pub holds : HoldsTrees kinds kind own
  pub few : inside_weight 6 own ≤ most

pub good : {X : Type 0} (f : Frame) (most name : ℕ) (t : Table rows X) (s : SessionId) (x : X)
    → fits f.kinds (message f name t) f.message_kind ≡ true → bits 6 f.kinds (message f name t) ≤ most
    → CanWrite f.kinds (some_bytes 8 f.identifier_kind) s.bytes.items → CanWrite f.kinds t x
    → IsGood f.kinds f.message_kind most (written (message f name t) (framed s x))
good f most name t s x fit few named can =
    let whole : CanWrite f.kinds (message f name t) (framed s x) = ((named, tt), ((can, tt), tt)) in
    let small = table_small 6 f.kinds (message f name t) (framed s x) whole in
    record { holds = table_holds f.kinds (message f name t) f.message_kind (framed s x) fit whole; few = omega arith }

-- what is written for a word, if anything
abbrev pub AreGood : List PlainKind → ℕ → ℕ → Option Inside → Type 0
AreGood kinds kind most own = IfSome own (IsGood kinds kind most)

-- a room of 1,024 bytes holds it
abbrev pub few_bits : Option Inside → Type 0
few_bits own = IfSome own (λ i. inside_weight 6 i ≤ 8000)

pub fewer : (kinds : List PlainKind) (kind n : ℕ) (o : Option Inside) → n ≤ 8000 → AreGood kinds kind n o → few_bits o
fewer kinds kind n None h g = tt
fewer kinds kind n (Some own) h g = let few : inside_weight 6 own ≤ n = g.few in omega arith

-- ---- so many bits at most: others than profiles and schedules have few

abbrev pub asked_bits : ℕ → Ask → ℕ
asked_bits few (ask.PowerDelivery _ _ _) = 8000
asked_bits few _ = few

abbrev pub told_bits : ℕ → Tell → ℕ
told_bits few (tell.ChargeParameters _ _ _) = 160000
told_bits few _ = few

abbrev pub most_bits : ℕ → Word → ℕ
most_bits few (word.Request r) = asked_bits few r.ask
most_bits few (word.Reply r) = told_bits few r.tell
most_bits few word.Nothing = 0

pub asked_few : (few : ℕ) → few ≤ 8000 → (a : Ask) → asked_bits few a ≤ 8000
asked_few few h (ask.PowerDelivery _ _ _) = omega arith
asked_few few h other = h
