-- The schedules of a post have one entry.
use Rattle.std.proofs.Common.{ℕ, zero, suc, ◌≤◌, Bool, true, false, ◌&&◌, nat_lt, [], ◌∷◌, All, arith, lit≤}
use Rattle.std.specs.Prelude.{IfSome}
use Rattle.charge_world.specs.declared.offer.Dialect.{Dialect}
use Rattle.session_words.specs.declared.code.Code.{Code}
use Rattle.session_words.specs.declared.facts.Facts.{Facts}
use Rattle.session_words.specs.declared.limits.Tuple.{Tuple}
use Rattle.session_words.specs.declared.plan.PostPlan.{PostPlan}
use Rattle.session_words.specs.declared.word.Ask.{Ask}
use Rattle.session_words.specs.declared.word.Ask.TheVariants as ask
use Rattle.session_rules.specs.declared.stage.Stage.{Stage}
use Rattle.session_rules.specs.Reply.{schedule_if, tell_of}
use Rattle.session_rules.specs.Verdict.{verdict, is_accepted}
use Rattle.written_sizes.specs.Entries.{HasEntries, RepliesAreBrief, WaitingIsBrief}

one_entry : (t : Tuple) → t.entries ≤ 1 → All (λ (x : Tuple). x.entries ≤ 1) (t ∷ [])
one_entry t few zero d h = few
one_entry t few (suc k) d h = absurd (omega arith)

schedule_brief : (b : Bool) (d : Dialect) (watts : ℕ) → IfSome (schedule_if b d watts) (λ tuples. All (λ t. t.entries ≤ 1) tuples.items)
schedule_brief true d watts = one_entry _ (lit≤ tt)
schedule_brief false d watts = tt

tell_brief : (s : Stage) (facts : Facts) (plan : PostPlan) (c : Code) (shown : ℕ) (a : Ask) → HasEntries 1 (tell_of s facts plan c shown a)
tell_brief s facts plan c shown (ask.ChargeParameters mode limits) = schedule_brief (is_accepted c && nat_lt 0 shown) s.dialect shown
tell_brief s facts plan c shown (ask.SessionSetup car) = tt
tell_brief s facts plan c shown ask.ServiceDiscovery = tt
tell_brief s facts plan c shown (ask.ServiceDetail service) = tt
tell_brief s facts plan c shown (ask.PaymentSelection external services) = tt
tell_brief s facts plan c shown ask.Authorization = tt
tell_brief s facts plan c shown (ask.CableCheck ready soc) = tt
tell_brief s facts plan c shown (ask.PreCharge ready soc voltage current) = tt
tell_brief s facts plan c shown (ask.PowerDelivery progress tuple profile) = tt
tell_brief s facts plan c shown (ask.CurrentDemand ready soc voltage current) = tt
tell_brief s facts plan c shown ask.ChargingStatus = tt
tell_brief s facts plan c shown (ask.WeldingDetection ready soc) = tt
tell_brief s facts plan c shown (ask.SessionStop pause) = tt

pub replies_are_brief : RepliesAreBrief
replies_are_brief s facts plan r shown = tell_brief s facts plan (verdict s facts plan r) shown r.ask

pub waiting_is_brief : WaitingIsBrief
waiting_is_brief s facts plan = tt
