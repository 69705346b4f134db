-- Own: what holds of a past that is told, and of the trace beside it, from one moment to a later one.
use Rattle.std.specs.Prelude.{◌≡◌, ℕ, Bool, List, [], ◌∷◌, ◌++◌, Option, IfSome, IsSomeAnd, Result, Ok, Err}
use Rattle.std.specs.List.{AllByRecursion}
use Rattle.charge_world.specs.declared.entry.Entry.{Entry}
use Rattle.charge_world.specs.declared.entry.Entry.TheVariants as entry
use Rattle.charge_world.specs.declared.ports.Order.TheVariants as order
use Rattle.trace_text.specs.Pasts.{hearing_number, numbered_after, first_line_2, trace_text}

-- where the past is told now, it was told before, and what held of it then leads to what holds of it now
abbrev pub Carries : Option (List Entry) → Option (List Entry) → (List Entry → Type 0) → (List Entry → Type 0) → Type 0
Carries before after P Q = IfSome after (λ new. IsSomeAnd before (λ old. P old → Q new))

-- the same of the past and of the trace's bytes, where both are told
abbrev pub CarriesText : Option (List Entry) → Option (List Entry) → Option (List ℕ) → Option (List ℕ) → (List Entry → List ℕ → Type 0) → (List Entry → List ℕ → Type 0) → Type 0
CarriesText before after text_before text_after P Q =
    IfSome after (λ new. IsSomeAnd before (λ old. IfSome text_after (λ text. IsSomeAnd text_before (λ earlier. P old earlier → Q new text))))

-- the trace holds the text of the past, of which this is the number of the newest hearing
pub record IsTraced (hearing : ℕ) (past : List Entry) (text : List ℕ) : Type 0 where
  pub text_is : text ≡ trace_text past
  pub hearing_is : hearing_number past ≡ hearing

-- an order by which serving ends
abbrev pub IsClosing : Entry → Type 0
IsClosing e = (post : ℕ) × (taken : Bool) × (e ≡ entry.Drove post order.Open taken)

-- the line of an entry was written in part: the trace holds the lines before it and a front of it. Behind it are orders to open alone
pub record IsCutText (past : List Entry) (text : List ℕ) : Type 0 where
  pub later : List Entry
  pub e : Entry
  pub earlier : List Entry
  pub front : List ℕ
  pub rest : List ℕ
  pub past_is : past ≡ later ++ e ∷ earlier
  pub closing : AllByRecursion IsClosing later
  pub line_is : numbered_after earlier e ≡ front ++ rest
  pub text_is : text ≡ trace_text earlier ++ front

-- the line of the newest entry was written in part
pub record IsCutHere (past : List Entry) (text : List ℕ) : Type 0 where
  pub e : Entry
  pub earlier : List Entry
  pub front : List ℕ
  pub rest : List ℕ
  pub past_is : past ≡ e ∷ earlier
  pub line_is : numbered_after earlier e ≡ front ++ rest
  pub text_is : text ≡ trace_text earlier ++ front

-- the first line was written in part, and nothing was heard
pub record IsCutFirst (past : List Entry) (text : List ℕ) : Type 0 where
  pub front : List ℕ
  pub rest : List ℕ
  pub past_is : past ≡ []
  pub line_is : first_line_2 ≡ front ++ rest
  pub text_is : text ≡ front

-- by how the newest write went
abbrev pub IsWrittenSo : {T E : Type 0} → ℕ → Result T E → List Entry → List ℕ → Type 0
IsWrittenSo hearing (Ok done) past text = IsTraced hearing past text
IsWrittenSo hearing (Err fault) past text = IsCutHere past text

-- orders to open stand on these entries
pub record HasClosing (blocks past : List Entry) : Type 0 where
  pub later : List Entry
  pub past_is : past ≡ later ++ blocks
  pub closing : AllByRecursion IsClosing later

-- by how the last write went, where orders to open may stand behind it
abbrev pub IsClosedSo : {T E : Type 0} → ℕ → Result T E → List Entry → List ℕ → Type 0
IsClosedSo hearing (Ok done) past text = IsTraced hearing past text
IsClosedSo hearing (Err fault) past text = IsCutText past text
