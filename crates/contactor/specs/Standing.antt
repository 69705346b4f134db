-- Own: how a contactor stands, by its last order and the feedback since.
use Rattle.std.specs.Prelude.{Bool, true, false, cond, List, [], ◌∷◌, Option, Some, None}
use Rattle.std.specs.List.{list_any}
use Rattle.session_words.specs.declared.phase.Standing.{Standing}
use Rattle.session_words.specs.declared.phase.Standing.TheVariants.{Opened, Closing, Closed, MustOpen, Opening}

-- an order that was given
pub data Kind : Type 0 where
  Close : Kind
  Open : Kind

-- what happened at a contactor: an order, taken or failed, or feedback that it is closed or open. In lists of acts the newest
-- comes first
pub data Act : Type 0 where
  ordered : Kind → Bool → Act
  feedback : Bool → Act

-- the last order, and whether it was taken
abbrev pub last_order : List Act → Option (Kind × Bool)
last_order [] = None
last_order (ordered kind taken ∷ before) = Some (kind, taken)
last_order (feedback closed ∷ before) = last_order before

-- the feedback since the last order, the newest first
abbrev pub feedback_since : List Act → List Bool
feedback_since [] = []
feedback_since (ordered kind taken ∷ before) = []
feedback_since (feedback closed ∷ before) = closed ∷ feedback_since before

-- where the contactor stands that was opened, by the feedback since
abbrev pub opened_by : List Bool → Standing
opened_by [] = Opening
opened_by (false ∷ earlier) = Opened
opened_by (true ∷ earlier) = Opening

-- where the contactor stands that had no order
abbrev pub unordered_by : List Bool → Standing
unordered_by [] = Opened
unordered_by (false ∷ earlier) = Opened
unordered_by (true ∷ earlier) = Opening

-- whether feedback of closed is among these
abbrev pub confirms : List Bool → Bool
confirms = list_any (λ closed. closed)

abbrev pub standing_by : Option (Kind × Bool) → List Bool → Standing
standing_by None heard = unordered_by heard
standing_by (Some (Close, true)) heard = cond (confirms heard) Closed Closing
standing_by (Some (Open, true)) heard = opened_by heard
standing_by (Some (Close, false)) heard = MustOpen
standing_by (Some (Open, false)) heard = MustOpen

-- how the contactor stands after these acts
abbrev pub standing_of : List Act → Standing
standing_of acts = standing_by (last_order acts) (feedback_since acts)

-- a Close was ordered, taken or failed, and no Open was taken since
abbrev pub is_live : List Act → Bool
is_live [] = false
is_live (ordered Close taken ∷ before) = true
is_live (ordered Open true ∷ before) = false
is_live (ordered Open false ∷ before) = is_live before
is_live (feedback closed ∷ before) = is_live before

-- feedback against the order: of open where the contactor is closed, of closed where it is open
abbrev pub is_against : Standing → Bool → Bool
is_against Closed closed = cond closed false true
is_against Opened closed = closed
is_against Closing closed = false
is_against MustOpen closed = false
is_against Opening closed = false
