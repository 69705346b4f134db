-- A reply is of the kind of its request.
use Rattle.std.proofs.Common.{◌≡◌, ℕ, Bool, true, false, ◌&&◌, List, [], ◌∷◌, map, Option, Some, None, refl}
use Rattle.std.specs.Prelude.{nat_lt}
use Rattle.std.specs.List.{AllByRecursion}
use Rattle.std.specs.Option.{option_map}
use Rattle.arrayvec.specs.ArrayVec.{ArrayVec}
use Rattle.charge_world.specs.declared.offer.Dialect.{Dialect}
use Rattle.session_words.specs.declared.limits.Tuple.{Tuple}
use Rattle.own_traces.specs.Owning.{AreSingle, IsSingle}
use Rattle.session_words.specs.declared.code.Code.{Code}
use Rattle.session_words.specs.declared.facts.Facts.{Facts}
use Rattle.session_words.specs.declared.plan.PostPlan.{PostPlan}
use Rattle.session_words.specs.declared.word.Ask.{Ask}
use Rattle.session_words.specs.declared.word.Ask.TheVariants as ask
use Rattle.session_words.specs.declared.word.Tell.{Tell}
use Rattle.session_words.specs.declared.word.Tell.TheVariants as tell
use Rattle.session_rules.specs.declared.stage.Stage.{Stage}
use Rattle.session_rules.specs.Reply.{tell_of, waiting_reply, schedule_if}
use Rattle.session_rules.specs.Verdict.{is_accepted}
use Rattle.post_spec.specs.Kinds.{asks_start}
use Rattle.post_spec.specs.Spelled.{dropped, dropped_tuples, dropped_tell}
use Rattle.car_rules.specs.Replies.{answers}

pub reply_answers : (s : Stage) (facts : Facts) (plan : PostPlan) (code : Code) (shown : ℕ) (asked : Ask) → answers asked (tell_of s facts plan code shown asked) ≡ true
reply_answers s facts plan code shown (ask.SessionSetup car) = refl
reply_answers s facts plan code shown ask.ServiceDiscovery = refl
reply_answers s facts plan code shown (ask.ServiceDetail service) = refl
reply_answers s facts plan code shown (ask.PaymentSelection external services) = refl
reply_answers s facts plan code shown ask.Authorization = refl
reply_answers s facts plan code shown (ask.ChargeParameters mode limits) = refl
reply_answers s facts plan code shown (ask.CableCheck ready soc) = refl
reply_answers s facts plan code shown (ask.PreCharge ready soc voltage current) = refl
reply_answers s facts plan code shown (ask.PowerDelivery progress tuple profile) = refl
reply_answers s facts plan code shown (ask.CurrentDemand ready soc voltage current) = refl
reply_answers s facts plan code shown ask.ChargingStatus = refl
reply_answers s facts plan code shown (ask.WeldingDetection ready soc) = refl
reply_answers s facts plan code shown (ask.SessionStop pause) = refl

-- and so once the watts are dropped that a message can't have
pub dropped_answers : (asked : Ask) (told : Tell) → answers asked (dropped_tell told) ≡ answers asked told
dropped_answers (ask.ChargeParameters mode limits) (tell.ChargeParameters processing schedule post) = refl
dropped_answers (ask.CurrentDemand ready soc voltage current) (tell.CurrentDemand status volts amperes cut cut_too cut_all most_voltage most_current most_watts evse) = refl
dropped_answers asked (tell.ChargeParameters processing schedule post) = refl
dropped_answers asked (tell.CurrentDemand status volts amperes cut cut_too cut_all most_voltage most_current most_watts evse) = refl
dropped_answers asked told = refl

pub waiting_answers : (s : Stage) (facts : Facts) (plan : PostPlan) (asked : Ask) → asks_start asked ≡ true → answers asked (waiting_reply s facts plan).tell ≡ true
waiting_answers s facts plan (ask.PowerDelivery progress tuple profile) start = refl
waiting_answers s facts plan asked start = cc

-- and its schedules have one entry each
single_if : (there : Bool) (d : Dialect) (watts : ℕ) → AreSingle (schedule_if there d watts)
single_if true d watts = (refl, tt)
single_if false d watts = tt

pub reply_single : (s : Stage) (facts : Facts) (plan : PostPlan) (code : Code) (shown : ℕ) (asked : Ask) → IsSingle (tell_of s facts plan code shown asked)
reply_single s facts plan code shown (ask.ChargeParameters mode limits) = single_if (is_accepted code && nat_lt 0 shown) s.dialect shown
reply_single s facts plan code shown asked = tt

abbrev HasOne : Tuple → Type 0
HasOne t = t.entries ≡ 1

abbrev drop_least : Tuple → Tuple
drop_least t = record { id = t.id; entries = t.entries; least = dropped t.least }

dropped_all : (ts : List Tuple) → AllByRecursion HasOne ts → AllByRecursion HasOne (map drop_least ts)
dropped_all [] all = tt
dropped_all (t ∷ ts) all = (all.0, dropped_all ts all.1)

dropped_some : (schedule : Option (ArrayVec Tuple)) → AreSingle schedule → AreSingle (option_map dropped_tuples schedule)
dropped_some None one = one
dropped_some (Some tuples) one = dropped_all tuples.items one

pub dropped_single : (told : Tell) → IsSingle told → IsSingle (dropped_tell told)
dropped_single (tell.ChargeParameters processing schedule limits) one = dropped_some schedule one
dropped_single (tell.CurrentDemand status volts amperes cut cut_too cut_all most_voltage most_current most_watts evse) one = tt
dropped_single told one = one
