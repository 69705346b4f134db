-- Own: worked examples of the definitions of foreign traces. Pasts have their newest entry first.
use Rattle.std.specs.Prelude.{◌≡◌, true, false, [], ◌∷◌, Some, None, pos}
use Rattle.charge_world.specs.declared.entry.Entry.{Entry}
use Rattle.charge_world.specs.declared.entry.Entry.TheVariants as entry
use Rattle.charge_world.specs.declared.heard.What.TheVariants as what
use Rattle.charge_world.specs.declared.ports.Order.TheVariants as order
use Rattle.post_spec.specs.Codecs.{WrongSide}
use Rattle.post_spec.specs.Steps.{Came, Clock, Give, End, Reading}
use Rattle.told_pasts.specs.Checks.{ends_opened, in_block, before_block}
use Rattle.told_pasts.specs.Spelling.{Writes}
use Rattle.told_pasts.specs.Steps.{Unasked, Hears, Does, Sends}
use Rattle.told_pasts.specs.Talk.{is_judged, talk}

-- ---- 8: a contactor is left open at the end, in spite of what was lost, and of the end of another post's session

abbrev pub came : Entry
came = entry.Heard (record { at = 0; what = what.Came 1 1 }) []

abbrev pub OpenedLast : Type 0
OpenedLast = ends_opened 1 (entry.Drove 1 order.Open true ∷ entry.Lost ∷ entry.Drove 1 order.Close true ∷ came ∷ []) ≡ true

abbrev pub OpenedBeforeLost : Type 0
OpenedBeforeLost = ends_opened 1 (entry.Lost ∷ entry.Drove 1 order.Open true ∷ came ∷ []) ≡ false

abbrev pub OpenedBeforeEnd : Type 0
OpenedBeforeEnd = ends_opened 1 (entry.Ended 1 15 ∷ entry.Drove 1 order.Open true ∷ came ∷ []) ≡ false

abbrev pub OtherEnds : Type 0
OtherEnds = ends_opened 1 (entry.Ended 2 15 ∷ entry.Drove 1 order.Open true ∷ came ∷ []) ≡ true

-- ---- a block is what stands behind its hearing; `lost` begins none

abbrev pub LostBeginsNone : Type 0
LostBeginsNone = in_block (entry.Drove 1 order.Open true ∷ entry.Lost ∷ came ∷ []) ≡ entry.Drove 1 order.Open true ∷ entry.Lost ∷ []

abbrev pub HearingBegins : Type 0
HearingBegins = before_block (entry.Drove 1 order.Open true ∷ came ∷ entry.Lost ∷ []) ≡ entry.Lost ∷ []

-- ---- 7: 40,000 W are the Value 4,000 with Multiplier 1, and not 40 with Multiplier 3

abbrev pub LeastMultiplier : Type 0
LeastMultiplier = Writes 40000 (record { multiplier = pos 1; value = pos 4000 })

abbrev pub GreaterMultiplier : Type 0
GreaterMultiplier = Writes 40000 (record { multiplier = pos 3; value = pos 40 }) → ⊥

-- ---- a word is judged by the first act about it, and again unread behind its reply and in another session

abbrev pub read : Reading
read = record { judged = WrongSide; shown = 0 }

abbrev pub JudgedOnce : Type 0
JudgedOnce = is_judged (Does (Some read) (Give order.Open) true ∷ Hears 0 Clock ∷ []) ≡ true

abbrev pub UnreadBehindReply : Type 0
UnreadBehindReply = is_judged (Sends None [] true Unasked ∷ Does (Some read) (Give order.Open) true ∷ []) ≡ false

abbrev pub UnreadInNextSession : Type 0
UnreadInNextSession = is_judged (Hears 5 Clock ∷ Does (Some read) (Give order.Open) true ∷ Hears 0 (Came 1) ∷ []) ≡ false

-- what is sent without a session is no reply
abbrev pub NothingSaid : Type 0
NothingSaid = talk (Sends None [] true Unasked ∷ Does None (End 15) true ∷ Hears 0 Clock ∷ []) ≡ []
