-- Own: what the calls on a contactor keep.
use Rattle.std.specs.Prelude.{Bool, true, false, List, [], ◌∷◌}
use Rattle.session_words.specs.declared.phase.Standing.{Standing}
use Rattle.session_words.specs.declared.phase.Standing.TheVariants.{Opened, Closing, Closed, MustOpen, Opening}
use Rattle.contactor.specs.Standing.{Act, Close, Open, ordered, feedback}

-- a call that changes a contactor; `told` says whether the last order was taken
pub data Call : Type 0 where
  close : Call
  release : Call
  told : Bool → Call
  hears : Bool → Call

-- the last order failed
abbrev pub failed : List Act → List Act
failed [] = []
failed (ordered kind taken ∷ before) = ordered kind false ∷ before
failed (feedback closed ∷ before) = feedback closed ∷ failed before

-- what happened in these calls, the newest first. An order counts as taken until it is told to have failed
abbrev pub acts_of : List Call → List Act
acts_of [] = []
acts_of (close ∷ before) = ordered Close true ∷ acts_of before
acts_of (release ∷ before) = ordered Open true ∷ acts_of before
acts_of (told true ∷ before) = acts_of before
acts_of (told false ∷ before) = failed (acts_of before)
acts_of (hears closed ∷ before) = feedback closed ∷ acts_of before

-- what a contactor keeps: how it stands, whether it is live, whether it is where the last order failed, and whether it had
-- an order
pub record Kept : Type 0 where
  pub standing : Standing
  pub live : Bool
  pub live_if_failed : Bool
  pub had_order : Bool

abbrev pub new_contactor : Kept
new_contactor = record { standing = Opened; live = false; live_if_failed = false; had_order = false }

abbrev pub standing_heard : Standing → Bool → Standing
standing_heard Closing true = Closed
standing_heard Closing false = Closing
standing_heard Opening false = Opened
standing_heard Opening true = Opening
standing_heard Opened true = Opening
standing_heard Opened false = Opened
standing_heard Closed closed = Closed
standing_heard MustOpen closed = MustOpen

abbrev pub after_failure : Kept → Bool → Kept
after_failure k false = k
after_failure k true = record k { standing = MustOpen; live = k.live_if_failed }

abbrev pub after : Kept → Call → Kept
after k close = record { standing = Closing; live = true; live_if_failed = true; had_order = true }
after k release = record { standing = Opening; live = false; live_if_failed = k.live; had_order = true }
after k (told true) = k
after k (told false) = after_failure k k.had_order
after k (hears closed) = record k { standing = standing_heard k.standing closed }

-- what a contactor keeps after these calls, the newest first
abbrev pub kept_after : List Call → Kept
kept_after [] = new_contactor
kept_after (call ∷ before) = after (kept_after before) call
