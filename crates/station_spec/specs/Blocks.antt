-- Own: how a past is cut into blocks, each a hearing and what was done then; and what a hearing may be.
use Rattle.std.specs.Prelude.{◌≡◌, ◌<◌, ◌≤◌, ◌^◌, ℕ, ◌+◌, Bool, true, false, List, [], ◌∷◌, length}
use Rattle.std.specs.List.{AllByRecursion}
use Rattle.charge_world.specs.declared.entry.Entry.{Entry}
use Rattle.charge_world.specs.declared.entry.Entry.TheVariants as entry
use Rattle.charge_world.specs.declared.heard.Heard.{Heard}
use Rattle.charge_world.specs.declared.heard.PlantEvent.{PlantEvent}
use Rattle.charge_world.specs.declared.heard.PlantEvent.TheVariants as plant
use Rattle.charge_world.specs.declared.heard.What.{What}
use Rattle.charge_world.specs.declared.heard.What.TheVariants as what

abbrev pub is_over : What → Bool
is_over (what.Came post token) = false
is_over (what.Bytes post n) = false
is_over (what.Gone post) = false
is_over (what.Datagram post n) = false
is_over (what.Plant post event) = false
is_over what.Tick = false
is_over what.Over = true

-- nothing is heard behind Over or a lost hearing
abbrev pub is_last : List Entry → Bool
is_last [] = false
is_last (entry.Heard heard bytes ∷ past) = is_over heard.what
is_last (entry.Lost ∷ past) = true
is_last (entry.Sent post bytes taken ∷ past) = is_last past
is_last (entry.Answered post bytes taken ∷ past) = is_last past
is_last (entry.Drove post order taken ∷ past) = is_last past
is_last (entry.Dialed port taken ∷ past) = is_last past
is_last (entry.Ended post cause ∷ past) = is_last past

-- how many hearings there were, a lost one counted
abbrev pub hearings : List Entry → ℕ
hearings [] = 0
hearings (entry.Heard heard bytes ∷ past) = hearings past + 1
hearings (entry.Lost ∷ past) = hearings past + 1
hearings (entry.Sent post bytes taken ∷ past) = hearings past
hearings (entry.Answered post bytes taken ∷ past) = hearings past
hearings (entry.Drove post order taken ∷ past) = hearings past
hearings (entry.Dialed port taken ∷ past) = hearings past
hearings (entry.Ended post cause ∷ past) = hearings past

-- an amount that the charger tells is within its type
abbrev pub IsPlantEvent : PlantEvent → Type 0
IsPlantEvent (plant.Measured voltage current) = (voltage ≤ 30000) × (current ≤ 30000)
IsPlantEvent (plant.Pilot state) = Unit {0}
IsPlantEvent (plant.Isolation level) = Unit {0}
IsPlantEvent (plant.Feedback closed) = Unit {0}
IsPlantEvent plant.Paid = Unit {0}
IsPlantEvent plant.Emergency = Unit {0}
IsPlantEvent plant.StopAsked = Unit {0}
IsPlantEvent plant.RenewAsked = Unit {0}

pub record AreBytes (n : ℕ) (bytes : List ℕ) : Type 0 where
  pub count : length bytes ≡ n
  pub bounds : AllByRecursion (λ byte. byte < 256) bytes

-- the bytes of a hearing are those that it says: a piece has 1 to 4,096, a datagram 0 to 4,096, any other none
abbrev pub Brings : What → List ℕ → Type 0
Brings (what.Came post token) bytes = (token < 2 ^ 64) × (bytes ≡ [])
Brings (what.Bytes post n) bytes = (1 ≤ n) × (n ≤ 4096) × AreBytes n bytes
Brings (what.Gone post) bytes = bytes ≡ []
Brings (what.Datagram post n) bytes = (n ≤ 4096) × AreBytes n bytes
Brings (what.Plant post event) bytes = IsPlantEvent event × (bytes ≡ [])
Brings what.Tick bytes = bytes ≡ []
Brings what.Over bytes = bytes ≡ []

-- a hearing within its types, with its bytes
pub record IsHearing (heard : Heard) (bytes : List ℕ) : Type 0 where
  pub moment : heard.at < 2 ^ 64
  pub brings : Brings heard.what bytes
