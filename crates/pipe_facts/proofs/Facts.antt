-- What the acts of a post change in its facts.
use Rattle.std.proofs.Common.{◌≡◌, ℕ, Bool, true, false, if◌then◌else◌, Option, Some, None, refl, subst}
use Rattle.charge_world.specs.declared.ports.Order.TheVariants as order
use Rattle.session_words.specs.declared.code.Progress.TheVariants as progress
use Rattle.session_words.specs.declared.facts.Facts.{Facts}
use Rattle.session_words.specs.declared.plan.PostPlan.{PostPlan}
use Rattle.session_words.specs.declared.session.SessionId.{SessionId}
use Rattle.session_words.specs.declared.word.Ask.{Ask}
use Rattle.session_words.specs.declared.word.Ask.TheVariants as ask
use Rattle.session_rules.specs.declared.stage.Stage.{Stage}
use Rattle.session_rules.specs.Moves.{facts_by}
use Rattle.session_rules.specs.Verdict.{verdict, is_accepted}
use Rattle.post_spec.specs.Codecs.{Judged, Negotiated, Asked, WrongSide, Refused}
use Rattle.post_spec.specs.Steps.{Act, Give, Send, Answer, End, Reading}
use Rattle.station_spec.specs.States.{Session, State}
use Rattle.station_spec.specs.Deciding.{decided}
use Rattle.station_spec.specs.Judging.{judged, taken_in, read, filled}
use Rattle.station_spec.specs.Acting.{acted}
use Rattle.station_laws.proofs.Decided.{same_facts}
use Rattle.pipe_facts.specs.Calm.{LeavesContactorBy}

-- what the charger told stays; a request may use up that a renegotiation was asked for
pub record Stay (f g : Facts) : Type 0 where
  pub pilot : g.pilot ≡ f.pilot
  pub isolation : g.isolation ≡ f.isolation
  pub stop : g.stop ≡ f.stop
  pub renew : f.renew ≡ false → g.renew ≡ false
  pub paid : g.paid ≡ f.paid
  pub contactor : g.contactor ≡ f.contactor

stay : (f : Facts) → Stay f f
stay f = record { pilot = refl; isolation = refl; stop = refl; renew = λ e. e; paid = refl; contactor = refl }

asked_stays : (s : Stage) (f : Facts) (named : SessionId) (a : Ask) → Stay f (facts_by s f named a)
asked_stays s f named (ask.SessionSetup car) = record { pilot = refl; isolation = refl; stop = refl; renew = λ e. e; paid = refl; contactor = refl }
asked_stays s f named (ask.PowerDelivery progress.Renegotiate tuple profile) = record { pilot = refl; isolation = refl; stop = refl; renew = λ e. refl; paid = refl; contactor = refl }
asked_stays s f named (ask.PowerDelivery progress.Start tuple profile) = stay f
asked_stays s f named (ask.PowerDelivery progress.Stop tuple profile) = stay f
asked_stays s f named ask.ServiceDiscovery = stay f
asked_stays s f named (ask.ServiceDetail service) = stay f
asked_stays s f named (ask.PaymentSelection external services) = stay f
asked_stays s f named ask.Authorization = stay f
asked_stays s f named (ask.ChargeParameters mode limits) = stay f
asked_stays s f named (ask.CableCheck ready soc) = stay f
asked_stays s f named (ask.PreCharge ready soc voltage current) = stay f
asked_stays s f named (ask.CurrentDemand ready soc voltage current) = stay f
asked_stays s f named ask.ChargingStatus = stay f
asked_stays s f named (ask.WeldingDetection ready soc) = stay f
asked_stays s f named (ask.SessionStop pause) = stay f

behind_by : (b : Bool) (f g : Facts) → Stay f g → Stay f (if b then g else f)
behind_by true f g h = h
behind_by false f g h = stay f

judged_stays : (plan : PostPlan) (s : State) (session : Session) (w : Judged) (shown : ℕ) → Stay s.facts (judged plan s session w shown).facts
judged_stays plan s session (Negotiated chosen response) shown = stay s.facts
judged_stays plan s session (Asked r) shown =
    behind_by (is_accepted (verdict session.stage s.facts plan r)) s.facts (facts_by session.stage s.facts r.session r.ask) (asked_stays session.stage s.facts r.session r.ask)
judged_stays plan s session WrongSide shown = stay s.facts
judged_stays plan s session Refused shown = stay s.facts

taken_stays : (plan : PostPlan) (s : State) (o : Option Session) (r : Reading) → Stay s.facts (taken_in plan s o r).facts
taken_stays plan s None r = stay s.facts
taken_stays plan s (Some session) r = judged_stays plan s session r.judged r.shown

read_stays : (plan : PostPlan) (s : State) (o : Option Reading) → Stay s.facts (read plan s o).facts
read_stays plan s None = stay s.facts
read_stays plan s (Some r) = taken_stays plan s s.session r

pub filled_stays : (plan : PostPlan) (o : Option Reading) (s : State) → Stay s.facts (filled plan o s).facts
filled_stays plan o s = subst (λ (f : Facts). Stay f (filled plan o s).facts) (same_facts plan s) (read_stays plan (decided plan s) o)

abbrev pub PaidBehind : Act → Bool → Bool → Type 0
PaidBehind (End cause) before behind = Unit {0}
PaidBehind (Give order) before behind = behind ≡ before
PaidBehind (Send bytes) before behind = behind ≡ before
PaidBehind (Answer bytes) before behind = behind ≡ before

-- an act changes neither what the charger told, but that the end of a session clears the payment
pub record StayBehind (act : Act) (f g : Facts) : Type 0 where
  pub pilot : g.pilot ≡ f.pilot
  pub isolation : g.isolation ≡ f.isolation
  pub stop : g.stop ≡ f.stop
  pub renew : f.renew ≡ false → g.renew ≡ false
  pub paid : PaidBehind act f.paid g.paid
  pub contactor : LeavesContactorBy act → g.contactor ≡ f.contactor

pub acts_stay : (plan : PostPlan) (o : Option Reading) (act : Act) (s : State) → StayBehind act s.facts (acted act true (filled plan o s)).facts
acts_stay plan o (Give order.Open) s = let h : Stay s.facts (filled plan o s).facts = filled_stays plan o s in
    record { pilot = h.pilot; isolation = h.isolation; stop = h.stop; renew = h.renew; paid = h.paid; contactor = λ l. absurd l }
acts_stay plan o (Give order.Close) s = let h : Stay s.facts (filled plan o s).facts = filled_stays plan o s in
    record { pilot = h.pilot; isolation = h.isolation; stop = h.stop; renew = h.renew; paid = h.paid; contactor = λ l. absurd l }
acts_stay plan o (Give (order.Limits voltage current watts)) s = let h : Stay s.facts (filled plan o s).facts = filled_stays plan o s in
    record { pilot = h.pilot; isolation = h.isolation; stop = h.stop; renew = h.renew; paid = h.paid; contactor = λ l. h.contactor }
acts_stay plan o (Send bytes) s = let h : Stay s.facts (filled plan o s).facts = filled_stays plan o s in
    record { pilot = h.pilot; isolation = h.isolation; stop = h.stop; renew = h.renew; paid = h.paid; contactor = λ l. h.contactor }
acts_stay plan o (Answer bytes) s = let h : Stay s.facts (filled plan o s).facts = filled_stays plan o s in
    record { pilot = h.pilot; isolation = h.isolation; stop = h.stop; renew = h.renew; paid = h.paid; contactor = λ l. h.contactor }
acts_stay plan o (End cause) s = let h : Stay s.facts (filled plan o s).facts = filled_stays plan o s in
    record { pilot = h.pilot; isolation = h.isolation; stop = h.stop; renew = h.renew; paid = tt; contactor = λ l. h.contactor }
