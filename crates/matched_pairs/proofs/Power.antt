-- The limits of the charger, and what it measures, behind all that may happen in the first session.
use Rattle.std.proofs.Common.{◌≡◌, ℕ, ◌*◌, ◌≤◌, Bool, true, false, List, [], ◌∷◌, ◌++◌, Option, Some, None, refl, ap, sym, subst, ◌∙◌, ◌⊎◌, inl, inr, arith}
use Rattle.std.specs.List.{AllByRecursion}
use Rattle.std.specs.Option.{option_map}
use Rattle.std.specs.Prelude.{slice_get}
use Rattle.charge_world.specs.declared.heard.PlantEvent.{PlantEvent}
use Rattle.charge_world.specs.declared.heard.PlantEvent.TheVariants as plant
use Rattle.charge_world.specs.declared.ports.Order.{Order}
use Rattle.charge_world.specs.declared.ports.Order.TheVariants as order
use Rattle.session_words.specs.declared.cause.EndCause.{EndCause}
use Rattle.session_words.specs.declared.plan.CarPlan.{CarPlan}
use Rattle.session_words.specs.declared.plan.PostPlan.{PostPlan}
use Rattle.session_rules.specs.declared.stage.Stage.{Stage}
use Rattle.session_rules.specs.Causes.{is_closing}
use Rattle.session_rules.specs.Finishing.{is_ac}
use Rattle.session_rules.specs.Orders.{order_of}
use Rattle.session_rules.specs.Stages.{first_stage, confirmed}
use Rattle.plant_sim.specs.Charger.{Limits, Charger, idle, came, moved, events, measured, ordered, IsCurrent, Comes}
use Rattle.post_spec.specs.Codecs as post
use Rattle.post_spec.specs.Steps.{Act, Give, Send, Answer, End, Reading}
use Rattle.station_spec.specs.States.{Spoken, Agenda, Session, State, Todo, nothing, first, first_session}
use Rattle.station_spec.specs.States as states
use Rattle.station_spec.specs.Deciding.{decided}
use Rattle.station_spec.specs.Hearing.{session_opened, with_bytes}
use Rattle.station_spec.specs.Judging.{order_by, filled}
use Rattle.station_spec.specs.Acting.{since_order, replied, acted}
use Rattle.station_spec.specs.Next.{IsDone, Acts}
use Rattle.station_spec.specs.Sharing.{Shows}
use Rattle.station_laws.proofs.Decided.{same_session}
use Rattle.car_spec.specs.Codecs as car
use Rattle.car_spec.specs.States as car_states
use Rattle.pipe_spec.specs.Chargers.{behind_act, IsCharger}
use Rattle.pipe_spec.specs.Histories.{Happening, CarComes, ChargerTells, StationHears, CarHears, TimePasses, StationDoes, CarReads, CarDoes, CarGoes, NumberIsDrawn, joined, moment, token, to_station, to_car}
use Rattle.pipe_spec.specs.Turns.{Station, station_state, car_state, Follows}
use Rattle.pipe_spec.specs.Runs.{IsRun, IsWithin}
use Rattle.pipe_spec.specs.Matched.{IsMatched}
use Rattle.pipe_laws.specs.OneMessage.{IsShort}
use Rattle.pair_words.specs.Exchanges.{Both, asked}
use Rattle.pair_words.specs.Meeting.{ArePaired, Meets}
use Rattle.pair_words.specs.Laws.{both, end_of}
use Rattle.pair_words.proofs.Sessions.{they_meet}
use Rattle.matched_pairs.specs.Ends.{HasCome, Listens}
use Rattle.matched_pairs.specs.Phases.{Begins, IsToOffer, Offered, Offers, Responded, exchange, Words, NoneYet, Read}
use Rattle.matched_pairs.specs.Moves.{IsPair, IfRead, SuitsWords}
use Rattle.matched_pairs.proofs.PostActs.{posts_go_on}
use Rattle.matched_pairs.proofs.PostPhases.{same_arrived, since_stage}
use Rattle.pair_deeds.specs.Posts as deeds
use Rattle.matched_pairs.specs.Acts.{IsOfBeginning}
use Rattle.matched_pairs.specs.Requests.{SaysOrEnds, IsOffered, HasKept}
use Rattle.matched_pairs.proofs.Requested.{posts_do}
use Rattle.matched_pairs.proofs.Keeps.{posts_keep}
use Rattle.matched_pairs.specs.Courses.{IsAt, AllGoUndisturbed, GoesUndisturbed, GoesWell}
use Rattle.matched_pairs.proofs.Courses.{sessions_go_well}
use Rattle.matched_pairs.specs.Limits as limits
use Rattle.matched_pairs.specs.Limits.{KeepsLimits, AllKeepLimits}
use Rattle.matched_pairs.proofs.Undisturbed.{sessions_are_undisturbed}
use Rattle.matched_pairs.specs.Power.{KeepsTime, AllKeepTime, PowersAreWithin}
use Rattle.matched_pairs.proofs.Watts.{IsZero, Volts, moved_within, measured_is, is_no_cause}
use Rattle.matched_pairs.proofs.Exchanges.{is_power, power_confirmed, NoLimits, IsPowered, limited, unlimited}

true_false : true ≡ false → ⊥
true_false e = cc

some_none : {A : Type 0} (a : A) → Some a ≡ None → ⊥
some_none a e = cc

some_todo : (a b : Todo) → Some a ≡ Some b → a ≡ b
some_todo a b e = cc

some_order : (a b : Order) → Some a ≡ Some b → a ≡ b
some_order a b e = cc

-- a connection that is to open its session finds nothing ordered, and a session is told what was ordered
abbrev pub StandsIn : PostPlan → Limits → Option ℕ → Option Session → Type 0
StandsIn plan l arrived None = (arrived ≡ None) ⊎ IsZero l
StandsIn plan l arrived (Some x) = (arrived ≡ None) × IsPowered plan l x.stage

record Powered (st : Station) (h : List Happening) : Type 0 where
  volts : (s : Charger) → IsCharger st.post.free h s → Volts (is_ac st.post.mode) st.post s
  told : (s : Charger) → IsCharger st.post.free h s → StandsIn st.post s.limits (station_state st h).arrived (station_state st h).session

-- ---- it hears something

stands_opened : (plan : PostPlan) (l : Limits) (arrived : Option ℕ) (o : Option Session) (clock : ℕ) (bytes : List ℕ) → StandsIn plan l arrived o
    → StandsIn plan l None (option_map (with_bytes bytes) (session_opened arrived clock o))
stands_opened plan l None None clock bytes k = inl refl
stands_opened plan l None (Some x) clock bytes k = (refl, k.1)
stands_opened plan l (Some own) None clock bytes (inl e) = absurd (some_none own e)
stands_opened plan l (Some own) None clock bytes (inr z) = (refl, inr z)
stands_opened plan l (Some own) (Some x) clock bytes k = absurd (some_none own k.0)

same_limits : (old after : Charger) (now : ℕ) (event : PlantEvent) → Comes old now event after → after.limits ≡ old.limits
same_limits old after now event x = ap (λ (s : Charger). s.limits) x.after

zero_below : (a most : ℕ) → a ≡ 0 → a ≤ most
zero_below a most e = omega (arith, e)

measured_volts : (event : PlantEvent) (place i most : ℕ) (old : Charger) → slice_get (events (moved old) i) place ≡ Some event → old.limits.voltage ≤ most → old.voltage ≤ most → measured event old.voltage ≤ most
measured_volts (plant.Measured a b) place i most old at l k =
    elim (measured_is place (moved old) i a b at) [
      | inl e ↦ subst (λ (x : ℕ). x ≤ most) (sym e.0) (moved_within old most l k)
      | inr e ↦ zero_below a most e.0
    ]
measured_volts (plant.Pilot state) place i most old at l k = k
measured_volts (plant.Isolation level) place i most old at l k = k
measured_volts (plant.Feedback closed) place i most old at l k = k
measured_volts plant.Paid place i most old at l k = k
measured_volts plant.Emergency place i most old at l k = k
measured_volts plant.StopAsked place i most old at l k = k
measured_volts plant.RenewAsked place i most old at l k = k

tells_volts : (ac : Bool) (plan : PostPlan) (old after : Charger) (now : ℕ) (event : PlantEvent) → Comes old now event after → Volts ac plan old → Volts ac plan after
tells_volts false plan old after now event x k = tt
tells_volts true plan old after now event x k =
    let v = x.event in
    subst (λ (s : Charger). Volts true plan s) (sym x.after) (k.0, measured_volts event x.place v.0 (10 * plan.nominal) old v.2 k.0 k.1)

tells_on : (st : Station) (h : List Happening) (event : PlantEvent) → Powered st h → Powered st (ChargerTells event ∷ h)
tells_on st h event k = record {
  volts = λ s x. tells_volts (is_ac st.post.mode) st.post x.0 s (moment h) event x.2 (k.volts x.0 x.1);
  told = λ s x. stands_opened st.post s.limits (station_state st h).arrived (station_state st h).session (station_state st h).clock []
      (subst (λ (l : Limits). StandsIn st.post l (station_state st h).arrived (station_state st h).session) (sym (same_limits x.0 s (moment h) event x.2)) (k.told x.0 x.1));
}

-- ---- it says something, or ends

-- an act that orders no limits
abbrev pub IsTalk : Act → Type 0
IsTalk (Send bytes) = Unit {0}
IsTalk (End cause) = Unit {0}
IsTalk (Give order.Open) = Unit {0}
IsTalk (Give order.Close) = Unit {0}
IsTalk (Give (order.Limits voltage current watts)) = ⊥
IsTalk (Answer bytes) = ⊥

record SameLimits (a b : Charger) : Type 0 where
  limits_are : b.limits ≡ a.limits
  voltage_is : b.voltage ≡ a.voltage

talk_limits : (act : Act) (h : List Happening) (before after : Charger) → IsTalk act → after ≡ behind_act act h before → SameLimits before after
talk_limits (Send bytes) h before after i e = record { limits_are = ap (λ (s : Charger). s.limits) e; voltage_is = ap (λ (s : Charger). s.voltage) e }
talk_limits (End cause) h before after i e = record { limits_are = ap (λ (s : Charger). s.limits) e; voltage_is = ap (λ (s : Charger). s.voltage) e }
talk_limits (Give order.Open) h before after i e = record { limits_are = ap (λ (s : Charger). s.limits) e; voltage_is = ap (λ (s : Charger). s.voltage) e }
talk_limits (Give order.Close) h before after i e = record { limits_are = ap (λ (s : Charger). s.limits) e; voltage_is = ap (λ (s : Charger). s.voltage) e }
talk_limits (Give (order.Limits voltage current watts)) h before after i e = absurd i
talk_limits (Answer bytes) h before after i e = absurd i

same_volts : (ac : Bool) (plan : PostPlan) (a b : Charger) → SameLimits a b → Volts ac plan a → Volts ac plan b
same_volts false plan a b s k = tt
same_volts true plan a b s k = (
  subst (λ (l : Limits). l.voltage ≤ 10 * plan.nominal) (sym s.limits_are) k.0,
  subst (λ (v : ℕ). v ≤ 10 * plan.nominal) (sym s.voltage_is) k.1,
)

talks_on : (st : Station) (h : List Happening) (reading : Option Reading) (act : Act) → IsTalk act → Powered st h
    → ((l : Limits) → StandsIn st.post l (station_state st h).arrived (station_state st h).session
    → StandsIn st.post l (station_state st (StationDoes reading act ∷ h)).arrived (station_state st (StationDoes reading act ∷ h)).session) → Powered st (StationDoes reading act ∷ h)
talks_on st h reading act i k goes = record {
  volts = λ s x. same_volts (is_ac st.post.mode) st.post x.0 s (talk_limits act h x.0 s i x.2) (k.volts x.0 x.1);
  told = λ s x. let same : SameLimits x.0 s = talk_limits act h x.0 s i x.2 in
      goes s.limits (subst (λ (l : Limits). StandsIn st.post l (station_state st h).arrived (station_state st h).session) (sym same.limits_are) (k.told x.0 x.1));
}

powered_on : (plan : PostPlan) (l : Limits) (s : Stage) → IsPowered plan l s → IsPowered plan l (confirmed s)
powered_on plan l s (inl p) = inl (power_confirmed s.row p.0, p.1)
powered_on plan l s (inr z) = inr z

stands_replied : (plan : PostPlan) (l : Limits) (arrived : Option ℕ) (o : Option Session) (now : ℕ) → StandsIn plan l arrived o → StandsIn plan l arrived (option_map (replied now) o)
stands_replied plan l arrived None now k = k
stands_replied plan l arrived (Some x) now k = (k.0, powered_on plan l x.stage k.1)

stands_ended : (plan : PostPlan) (l : Limits) (arrived : Option ℕ) (o : Option Session) → StandsIn plan l arrived o → StandsIn plan l arrived None
stands_ended plan l arrived None k = k
stands_ended plan l arrived (Some x) k = inl k.0

stands_as : (plan : PostPlan) (l : Limits) (a b : Option ℕ) (o p : Option Session) → b ≡ a → p ≡ o → StandsIn plan l a o → StandsIn plan l b p
stands_as plan l a b o p e f k = subst (λ (x : Option Session). StandsIn plan l b x) (sym f) (subst (λ (x : Option ℕ). StandsIn plan l x o) (sym e) k)

without : (act : Act) (st : Station) (h : List Happening) → SaysOrEnds st.post (station_state st h) act → Powered st h → Powered st (StationDoes None act ∷ h)
without (Send bytes) st h i k =
    talks_on st h None (Send bytes) tt k
    (λ l p. stands_replied st.post l (decided st.post (station_state st h)).arrived (decided st.post (station_state st h)).session (decided st.post (station_state st h)).clock
    (stands_as st.post l (station_state st h).arrived (decided st.post (station_state st h)).arrived (station_state st h).session (decided st.post (station_state st h)).session
    (same_arrived st.post (station_state st h)) (same_session st.post (station_state st h)) p))
without (End number) st h i k =
    talks_on st h None (End number) tt k
    (λ l p. stands_ended st.post l (decided st.post (station_state st h)).arrived (decided st.post (station_state st h)).session
    (stands_as st.post l (station_state st h).arrived (decided st.post (station_state st h)).arrived (station_state st h).session (decided st.post (station_state st h)).session
    (same_arrived st.post (station_state st h)) (same_session st.post (station_state st h)) p))
without (Give o) st h i k = absurd i
without (Answer bytes) st h i k = absurd i

-- ---- the negotiation

says_first : (act : Act) → IsOfBeginning act → IsTalk act
says_first (Send bytes) i = tt
says_first (Give o) i = absurd i
says_first (End number) i = absurd i
says_first (Answer bytes) i = absurd i

listens_told : (plan : PostPlan) (l : Limits) (s : State) (stage : Stage) (unread : List ℕ) → Listens plan s stage unread → IsZero l → StandsIn plan l s.arrived s.session
listens_told plan l s stage unread k z =
    let still : deeds.IsStill plan s k.session = k.still in
    subst (λ (o : Option Session). StandsIn plan l s.arrived o) (sym still.session_is) (k.arrived, inr z)

come_told : (plan : PostPlan) (l : Limits) (s : State) → HasCome plan s token → IsZero l → StandsIn plan l s.arrived s.session
come_told plan l s k z = subst (λ (o : Option Session). StandsIn plan l s.arrived o) (sym k.session) (inr z)

begins_told : (c : post.Codecs) (cs : car.Codecs) (post_plan : PostPlan) (plan : CarPlan) (l : Limits) (s : State) (k : car_states.State) (ts tc : List ℕ) → Begins c cs post_plan plan s k ts tc → IsZero l
    → StandsIn post_plan l s.arrived s.session
begins_told c cs post_plan plan l s k ts tc (IsToOffer come say none) z = come_told post_plan l s come z
begins_told c cs post_plan plan l s k ts tc (Offered request offers come a comes e) z = come_told post_plan l s come z
begins_told c cs post_plan plan l s k ts tc (Offers request unread offers x a comes e) z = listens_told post_plan l s _ unread x z
begins_told c cs post_plan plan l s k ts tc (Responded request unread begun x a e comes) z = listens_told post_plan l s _ [] x z

first_zero : (plan : PostPlan) (l : Limits) (arrived : Option ℕ) (o : Option Session) (x : Session) → o ≡ Some x → x.stage ≡ first_stage token → StandsIn plan l arrived o → IsZero l
first_zero plan l arrived o x e f k =
    let own : StandsIn plan l arrived (Some x) = subst (λ (z : Option Session). StandsIn plan l arrived z) e k in
    elim own.1 [
      | inl p ↦ absurd (true_false (sym p.0 ∙ ap (λ (s : Stage). is_power s.row) f))
      | inr z ↦ z
    ]

suits_at_once : (reading : Option Reading) → IfRead reading (Unit {0})
suits_at_once None = tt
suits_at_once (Some r) = tt

offered : (c : post.Codecs) (cs : car.Codecs) (st : Station) (plan : CarPlan) (h : List Happening) (reading : Option Reading) (act : Act) → IsPair c cs st.post plan → IsAt c cs st plan NoneYet h
    → Acts c st.post (Shows st.limit [] []) (station_state st h) reading act true → IsShort 65544 (StationDoes reading act) → Powered st h → Powered st (StationDoes reading act ∷ h)
offered c cs st plan h reading act p phase i short k =
    let o : IsOffered (station_state st h) act = posts_do c cs st.post plan st.limit NoneYet (station_state st h) (car_state plan h) (to_station h) (to_car h) reading act p phase i in
    let behind : IsAt c cs st plan NoneYet (StationDoes reading act ∷ h) =
    posts_go_on c cs st.post plan st.limit NoneYet (station_state st h) (car_state plan h) (to_station h) (to_car h) reading act p phase (suits_at_once reading) short i in
    talks_on st h reading act (says_first act o.says) k
    (λ l q. begins_told c cs st.post plan l (station_state st (StationDoes reading act ∷ h)) (car_state plan h) (to_station h) (to_car (StationDoes reading act ∷ h)) behind
    (first_zero st.post l (station_state st h).arrived (station_state st h).session o.session o.session_is o.stage_is q))

-- ---- an exchange

abbrev pub IsFirstOf : Option Order → Act → Type 0
IsFirstOf (Some o) act = act ≡ Give o
IsFirstOf None (Send bytes) = Unit {0}
IsFirstOf None (End cause) = Unit {0}
IsFirstOf None (Give o) = ⊥
IsFirstOf None (Answer bytes) = ⊥

pub first_of : (o : Option Order) (r : Option Spoken) (e : Option EndCause) (c : post.Codecs) (a : Agenda) (todo : Todo) (act : Act) → a ≡ record nothing { order = o; reply = r; ending = e } → first a ≡ Some todo
    → IsDone c todo act true → IsFirstOf o act
first_of (Some o) r e c a todo act is f d =
    let own : todo ≡ states.Give o = some_todo todo (states.Give o) (sym f ∙ ap first is) in
    subst (λ (x : Todo). IsDone c x act true) own d
first_of None (Some spoken) e c a todo act is f d =
    let own : todo ≡ states.Say spoken = some_todo todo (states.Say spoken) (sym f ∙ ap first is) in
    let done = subst (λ (x : Todo). IsDone c x act true) own d in
    subst (λ (x : Act). IsFirstOf None x) (sym done.2) tt
first_of None None (Some why) c a todo act is f d =
    let own : todo ≡ states.Finish why = some_todo todo (states.Finish why) (sym f ∙ ap first is) in
    let done = subst (λ (x : Todo). IsDone c x act true) own d in
    subst (λ (x : Act). IsFirstOf None x) (sym done.0) tt
first_of None None None c a todo act is f d = absurd (some_none todo (sym f ∙ ap first is))

record Asks (c : post.Codecs) (cs : car.Codecs) (st : Station) (plan : CarPlan) (b : Both) (h : List Happening) (r : Reading) : Type 0 where
  same : is_ac plan.mode ≡ is_ac st.post.mode
  meets : Meets st.post b
  powered : Powered st h
  kept : HasKept st.post plan b (station_state st h) r

powered_before : (plan : PostPlan) (l : Limits) (arrived : Option ℕ) (o : Option Session) (x : Session) (stage : Stage) → o ≡ Some x → x.stage ≡ stage → StandsIn plan l arrived o → IsPowered plan l stage
powered_before plan l arrived o x stage e f k =
    let own : StandsIn plan l arrived (Some x) = subst (λ (z : Option Session). StandsIn plan l arrived z) e k in
    subst (λ (s : Stage). IsPowered plan l s) f own.1

-- behind an act of it
stands_behind : (plan : PostPlan) (l : Limits) (act : Act) (t : State) (x : Session) → t.session ≡ Some x → t.arrived ≡ None → IsPowered plan l x.stage → StandsIn plan l (acted act true t).arrived (acted act true t).session
stands_behind plan l (Give o) t x e a p =
    subst (λ (z : Option Session). StandsIn plan l t.arrived z) (sym (ap (option_map (since_order t.clock o)) e)) (a, subst (λ (s : Stage). IsPowered plan l s) (sym (since_stage t.clock o x)) p)
stands_behind plan l (Send bytes) t x e a p =
    subst (λ (z : Option Session). StandsIn plan l t.arrived z) (sym (ap (option_map (replied t.clock)) e)) (a, powered_on plan l x.stage p)
stands_behind plan l (Answer bytes) t x e a p = subst (λ (z : Option Session). StandsIn plan l t.arrived z) (sym e) (a, p)
stands_behind plan l (End cause) t x e a p = inl a

asks_on : (c : post.Codecs) (cs : car.Codecs) (st : Station) (plan : CarPlan) (b : Both) (h : List Happening) (r : Reading) (act : Act) → Asks c cs st plan b h r → IsTalk act
    → NoLimits (order_by (end_of b.car.phase) (decided st.post (station_state st h)).live (order_of b.post (station_state st h).facts st.post (asked plan b.car) r.shown)) → Powered st (StationDoes (Some r) act ∷ h)
asks_on c cs st plan b h r act a i n =
    let t : HasKept st.post plan b (station_state st h) r = a.kept in
    let k = t.kept in
    talks_on st h (Some r) act i a.powered
    (λ l q. stands_behind st.post l act (filled st.post (Some r) (station_state st h)) k.new k.session_is t.arrived
    (subst (λ (s : Stage). IsPowered st.post l s) (sym k.stage)
    (unlimited st.post plan b (exchange (station_state st h).facts (station_state st h).facts r.shown) (decided st.post (station_state st h)).live l a.meets t.answered n
    (powered_before st.post l (station_state st h).arrived (station_state st h).session t.session b.post t.session_is t.stage_is q))))

limits_volts : (ac : Bool) (plan : PostPlan) (v i w at : ℕ) (before after : Charger) → after ≡ ordered before (order.Limits v i w) at → (ac ≡ true → v ≤ 10 * plan.nominal) → Volts ac plan before → Volts ac plan after
limits_volts false plan v i w at before after e l k = tt
limits_volts true plan v i w at before after e l k = subst (λ (s : Charger). Volts true plan s) (sym e) (l refl, k.1)

orders_limits : (c : post.Codecs) (cs : car.Codecs) (st : Station) (plan : CarPlan) (b : Both) (h : List Happening) (r : Reading) (v i w : ℕ) → Asks c cs st plan b h r
    → order_by (end_of b.car.phase) (decided st.post (station_state st h)).live (order_of b.post (station_state st h).facts st.post (asked plan b.car) r.shown) ≡ Some (order.Limits v i w)
    → Powered st (StationDoes (Some r) (Give (order.Limits v i w)) ∷ h)
orders_limits c cs st plan b h r v i w a g =
    let t : HasKept st.post plan b (station_state st h) r = a.kept in
    let k = t.kept in
    let p : Powered st h = a.powered in
    let z = limited st.post plan b (exchange (station_state st h).facts (station_state st h).facts r.shown) (decided st.post (station_state st h)).live v i w a.meets t.answered a.same g in
    record {
      volts = λ s x. limits_volts (is_ac st.post.mode) st.post v i w (moment h) x.0 s x.2 z.1 (p.volts x.0 x.1);
      told = λ s x. subst (λ (l : Limits). StandsIn st.post l (station_state st (StationDoes (Some r) (Give (order.Limits v i w)) ∷ h)).arrived (station_state st (StationDoes (Some r) (Give (order.Limits v i w)) ∷ h)).session)
          (sym (ap (λ (y : Charger). y.limits) x.2))
          (stands_behind st.post (record { voltage = v; current = i; watts = w }) (Give (order.Limits v i w)) (filled st.post (Some r) (station_state st h)) k.new k.session_is t.arrived
          (subst (λ (s : Stage). IsPowered st.post (record { voltage = v; current = i; watts = w }) s) (sym k.stage) z.0));
    }

talk_of : (act : Act) → IsFirstOf None act → IsTalk act
talk_of (Send bytes) i = tt
talk_of (End cause) i = tt
talk_of (Give o) i = absurd i
talk_of (Answer bytes) i = absurd i

none_limits : (o : Option Order) → o ≡ None → NoLimits o
none_limits o e v i w f = some_none (order.Limits v i w) (sym f ∙ e)

other_limits : (o : Option Order) (x : Order) → o ≡ Some x → IsTalk (Give x) → NoLimits o
other_limits o x e i v c w f = subst (λ (y : Order). IsTalk (Give y)) (some_order x (order.Limits v c w) (sym e ∙ f)) i

orders_by : (o : Option Order) (c : post.Codecs) (cs : car.Codecs) (st : Station) (plan : CarPlan) (b : Both) (h : List Happening) (r : Reading) (act : Act) → Asks c cs st plan b h r
    → order_by (end_of b.car.phase) (decided st.post (station_state st h)).live (order_of b.post (station_state st h).facts st.post (asked plan b.car) r.shown) ≡ o → IsFirstOf o act
    → Powered st (StationDoes (Some r) act ∷ h)
orders_by None c cs st plan b h r act a e i = asks_on c cs st plan b h r act a (talk_of act i) (none_limits _ e)
orders_by (Some (order.Limits v current w)) c cs st plan b h r act a e i =
    subst (λ (x : Act). Powered st (StationDoes (Some r) x ∷ h)) (sym i) (orders_limits c cs st plan b h r v current w a e)
orders_by (Some order.Close) c cs st plan b h r act a e i = asks_on c cs st plan b h r act a (subst IsTalk (sym i) tt) (other_limits _ order.Close e tt)
orders_by (Some order.Open) c cs st plan b h r act a e i = asks_on c cs st plan b h r act a (subst IsTalk (sym i) tt) (other_limits _ order.Open e tt)

asks : (c : post.Codecs) (cs : car.Codecs) (st : Station) (plan : CarPlan) (b : Both) (h : List Happening) (r : Reading) (act : Act) → Asks c cs st plan b h r
    → Acts c st.post (Shows st.limit [] []) (station_state st h) (Some r) act true → Powered st (StationDoes (Some r) act ∷ h)
asks c cs st plan b h r act a i =
    let t : HasKept st.post plan b (station_state st h) r = a.kept in
    let n = t.kept in
    orders_by _ c cs st plan b h r act a refl
    (first_of _ _ _ c (filled st.post (Some r) (station_state st h)).agenda i.todo act n.agenda i.acts i.done)

same_kind : (c : post.Codecs) (cs : car.Codecs) (post_plan : PostPlan) (plan : CarPlan) → IsPair c cs post_plan plan → is_ac plan.mode ≡ is_ac post_plan.mode
same_kind c cs post_plan plan p =
    let paired : ArePaired post_plan plan = p.paired in
    let m : IsMatched post_plan plan = paired.matched in
    ap is_ac (sym m.mode)

does : (words : Words) (reading : Option Reading) (c : post.Codecs) (cs : car.Codecs) (st : Station) (plan : CarPlan) (h : List Happening) (act : Act) → IsPair c cs st.post plan → IsAt c cs st plan words h
    → Acts c st.post (Shows st.limit [] []) (station_state st h) reading act true → IsShort 65544 (StationDoes reading act) → IfRead reading (SuitsWords st.post plan words (station_state st h).facts) → Powered st h
    → Powered st (StationDoes reading act ∷ h)
does NoneYet reading c cs st plan h act p phase i short d k = offered c cs st plan h reading act p phase i short k
does (Read dialect xs) None c cs st plan h act p phase i short d k =
    without act st h (posts_do c cs st.post plan st.limit (Read dialect xs) (station_state st h) (car_state plan h) (to_station h) (to_car h) None act p phase i) k
does (Read dialect xs) (Some r) c cs st plan h act p phase i short d k =
    asks c cs st plan (both st.post plan token dialect xs) h r act (record {
      same = same_kind c cs st.post plan p;
      meets = they_meet st.post plan token dialect xs p.paired phase.0;
      powered = k;
      kept = posts_keep c cs st.post plan st.limit dialect xs (station_state st h) (car_state plan h) (to_station h) (to_car h) r act p phase d i;
    }) i

-- ---- all that may happen

step : (c : post.Codecs) (cs : car.Codecs) (st : Station) (plan : CarPlan) (h : List Happening) (e : Happening) → IsPair c cs st.post plan → GoesWell c cs st plan h → IsWithin e
    → Follows c cs st h e → IsShort 65544 e → GoesUndisturbed c cs st plan h e → Powered st h → Powered st (e ∷ h)
step c cs st plan h (StationDoes reading act) p w i f short d k = does w.words reading c cs st plan h act p w.phase f short (d w.words w.phase) k
step c cs st plan h (ChargerTells event) p w i f short d k = tells_on st h event k
step c cs st plan h (StationHears bytes) p w i f short d k = record {
  volts = k.volts;
  told = λ s x. stands_opened st.post s.limits (station_state st h).arrived (station_state st h).session (station_state st h).clock bytes (k.told s x);
}
step c cs st plan h TimePasses p w i f short d k = record {
  volts = k.volts;
  told = λ s x. stands_opened st.post s.limits (station_state st h).arrived (station_state st h).session (station_state st h).clock [] (k.told s x);
}
step c cs st plan h (CarHears bytes) p w i f short d k = record { volts = k.volts; told = k.told }
step c cs st plan h (CarReads word) p w i f short d k = record { volts = k.volts; told = k.told }
step c cs st plan h (CarDoes act) p w i f short d k = record { volts = k.volts; told = k.told }
step c cs st plan h (CarComes other) p w i f short d k = absurd (true_false (sym i))
step c cs st plan h CarGoes p w i f short d k = absurd (true_false (sym i))
step c cs st plan h NumberIsDrawn p w i f short d k = absurd (true_false (sym i))

first_charger : (free : Bool) (s before : Charger) → before ≡ idle free → s ≡ came before 0 → s ≡ came (idle free) 0
first_charger free s before e f = f ∙ ap (λ (z : Charger). came z 0) e

idle_volts : (ac : Bool) (plan : PostPlan) → Volts ac plan (came (idle plan.free) 0)
idle_volts true plan = (zero_below 0 (10 * plan.nominal) refl, zero_below 0 (10 * plan.nominal) refl)
idle_volts false plan = tt

base : (st : Station) (plan : CarPlan) → Powered st (CarComes plan ∷ [])
base st plan = record {
  volts = λ s x. subst (λ (z : Charger). Volts (is_ac st.post.mode) st.post z) (sym (first_charger st.post.free s x.0 x.1 x.2)) (idle_volts (is_ac st.post.mode) st.post);
  told = λ s x. subst (λ (z : Charger). StandsIn st.post z.limits (Some token) None) (sym (first_charger st.post.free s x.0 x.1 x.2)) (inr (refl, refl));
}

powered_in : (c : post.Codecs) (cs : car.Codecs) (st : Station) (plan : CarPlan) (session : List Happening) → IsPair c cs st.post (joined plan) → AllByRecursion IsWithin session
    → IsRun c cs st (session ++ CarComes plan ∷ []) → AllByRecursion (IsShort 65544) (session ++ CarComes plan ∷ []) → AllGoUndisturbed c cs st (joined plan) (session ++ CarComes plan ∷ [])
    → Powered st (session ++ CarComes plan ∷ [])
powered_in c cs st plan [] p w r l d = base st plan
powered_in c cs st plan (e ∷ session) p w r l d =
    step c cs st (joined plan) (session ++ CarComes plan ∷ []) e p
    (sessions_go_well c cs st plan (session ++ CarComes plan ∷ []) p (record { session = session; h_is = refl; within = w.1; run = r.0 }) l.1 d.0)
    w.0 r.1 l.0 d.1 (powered_in c cs st plan session p w.1 r.0 l.1 d.0)

-- ---- so what is measured is no cause

within_by : (event : PlantEvent) (st : Station) (h : List Happening) (x : Session) (s : Charger) (place i : ℕ) (s_after : State) → slice_get (events (moved s) i) place ≡ Some event
    → IsCurrent s i → Volts (is_ac st.post.mode) st.post s → IsPowered st.post s.limits x.stage → limits.IsWithin st.post (Some x) event s_after
within_by (plant.Measured a b) st h x s place i s_after at current volts (inl p) =
    is_no_cause (is_closing s_after.stood) (is_ac st.post.mode) st.post s i a b x.stage.told x.lowered s_after.clock refl volts (inl p.1) current (measured_is place (moved s) i a b at)
within_by (plant.Measured a b) st h x s place i s_after at current volts (inr z) =
    is_no_cause (is_closing s_after.stood) (is_ac st.post.mode) st.post s i a b x.stage.told x.lowered s_after.clock refl volts (inr z) current (measured_is place (moved s) i a b at)
within_by (plant.Pilot state) st h x s place i s_after at current volts p = tt
within_by (plant.Isolation level) st h x s place i s_after at current volts p = tt
within_by (plant.Feedback closed) st h x s place i s_after at current volts p = tt
within_by plant.Paid st h x s place i s_after at current volts p = tt
within_by plant.Emergency st h x s place i s_after at current volts p = tt
within_by plant.StopAsked st h x s place i s_after at current volts p = tt
within_by plant.RenewAsked st h x s place i s_after at current volts p = tt

measured_well : (o : Option Session) (st : Station) (h : List Happening) (event : PlantEvent) (old after : Charger) → Powered st h → IsCharger st.post.free h old → Comes old (moment h) event after
    → (station_state st (ChargerTells event ∷ h)).session ≡ o → limits.IsWithin st.post o event (station_state st (ChargerTells event ∷ h))
measured_well None st h event old after k i x e = tt
measured_well (Some session) st h event old after k i x e =
    let v = x.event in
    let own : StandsIn st.post old.limits None (Some session) =
    subst (λ (o : Option Session). StandsIn st.post old.limits None o) e
    (stands_opened st.post old.limits (station_state st h).arrived (station_state st h).session (station_state st h).clock [] (k.told old i)) in
    within_by event st h session old x.place v.0 (station_state st (ChargerTells event ∷ h)) v.2 v.1 (k.volts old i) own.1

keeps : (c : post.Codecs) (cs : car.Codecs) (st : Station) (plan : CarPlan) (h : List Happening) (e : Happening) → Follows c cs st h e → Powered st h → KeepsTime st plan h e → KeepsLimits st plan h e
keeps c cs st plan h (ChargerTells event) f k d =
    let t = f.turn in
    (d, measured_well (station_state st (ChargerTells event ∷ h)).session st h event f.charger t.0 k f.charger_is t.1 refl)
keeps c cs st plan h (StationHears bytes) f k d = d
keeps c cs st plan h (CarHears bytes) f k d = d
keeps c cs st plan h TimePasses f k d = d
keeps c cs st plan h (StationDoes reading act) f k d = tt
keeps c cs st plan h (CarReads word) f k d = tt
keeps c cs st plan h (CarDoes act) f k d = tt
keeps c cs st plan h (CarComes other) f k d = tt
keeps c cs st plan h CarGoes f k d = tt
keeps c cs st plan h NumberIsDrawn f k d = tt

keeps_in : (c : post.Codecs) (cs : car.Codecs) (st : Station) (plan : CarPlan) (session : List Happening) → IsPair c cs st.post (joined plan) → AllByRecursion IsWithin session
    → IsRun c cs st (session ++ CarComes plan ∷ []) → AllByRecursion (IsShort 65544) (session ++ CarComes plan ∷ []) → AllKeepTime st (joined plan) (session ++ CarComes plan ∷ [])
    → AllKeepLimits st (joined plan) (session ++ CarComes plan ∷ [])
keeps_in c cs st plan [] p w r l d = (tt, tt)
keeps_in c cs st plan (e ∷ session) p w r l d =
    let before : AllKeepLimits st (joined plan) (session ++ CarComes plan ∷ []) = keeps_in c cs st plan session p w.1 r.0 l.1 d.0 in
    let well : AllGoUndisturbed c cs st (joined plan) (session ++ CarComes plan ∷ []) =
    sessions_are_undisturbed c cs st plan (session ++ CarComes plan ∷ []) p (record { session = session; h_is = refl; within = w.1; run = r.0 }) l.1 before in
    (before, keeps c cs st (joined plan) (session ++ CarComes plan ∷ []) e r.1 (powered_in c cs st plan session p w.1 r.0 l.1 well) d.1)

pub powers_are_within : (c : post.Codecs) (cs : car.Codecs) → PowersAreWithin c cs
powers_are_within c cs st plan h p f l d =
    subst (λ (x : List Happening). AllKeepLimits st (joined plan) x) (sym f.h_is)
    (keeps_in c cs st plan f.session p f.within (subst (λ (x : List Happening). IsRun c cs st x) f.h_is f.run) (subst (λ (x : List Happening). AllByRecursion (IsShort 65544) x) f.h_is l)
    (subst (λ (x : List Happening). AllKeepTime st (joined plan) x) f.h_is d))
