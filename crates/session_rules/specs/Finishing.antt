-- ISO 15118-2:2014, 8.4.3.7, 8.4.3.8 and 8.4.5.2 (EVSEProcessing); DIN SPEC 70121:2014. What each step waits for is own.
use Rattle.std.specs.Prelude.{ℕ, Bool, true, false, ◌||◌, nat_lt, Option, Some}
use Rattle.charge_world.specs.declared.heard.IsolationLevel.{IsolationLevel}
use Rattle.charge_world.specs.declared.heard.IsolationLevel.TheVariants.{Valid}
use Rattle.session_words.specs.declared.facts.Facts.{Facts}
use Rattle.session_words.specs.declared.mode.Mode.{Mode}
use Rattle.session_words.specs.declared.mode.Mode.TheVariants.{AcSinglePhaseCore, AcThreePhaseCore, DcCore, DcExtended, DcComboCore, DcUnique}
use Rattle.session_words.specs.declared.plan.PostPlan.{PostPlan}
use Rattle.session_words.specs.declared.word.Ask.{Ask}
use Rattle.session_words.specs.declared.word.Ask.TheVariants as ask

-- alternating current
abbrev pub is_ac : Mode → Bool
is_ac AcSinglePhaseCore = true
is_ac AcThreePhaseCore = true
is_ac DcCore = false
is_ac DcExtended = false
is_ac DcComboCore = false
is_ac DcUnique = false

abbrev pub is_valid : Option IsolationLevel → Bool
is_valid (Some Valid) = true
is_valid other = false

-- the reply to an accepted request says Finished: the post is free, somebody paid, or a paused session is joined; watts are
-- shown; the isolation is valid. A step that has no EVSEProcessing takes one request
abbrev pub is_finished : Facts → PostPlan → Ask → ℕ → Bool
is_finished facts plan ask.Authorization shown = plan.free || facts.paid || facts.joined
is_finished facts plan (ask.ChargeParameters mode limits) shown = nat_lt 0 shown
is_finished facts plan (ask.CableCheck ready soc) shown = is_valid facts.isolation
is_finished facts plan other shown = true
