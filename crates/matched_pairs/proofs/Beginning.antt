-- Before any bytes are heard a post has read nothing, and from then on the car is ready and the isolation isn't told to be invalid.
use Rattle.std.proofs.Common.{◌≡◌, ℕ, zero, suc, ◌<◌, Bool, true, false, if◌then◌else◌, List, [], ◌∷◌, ◌++◌, Option, Some, None, Result, refl, ap, sym, subst, ◌∙◌, ◌⊎◌, inl, inr, arith}
use Rattle.std.specs.List.{AllByRecursion}
use Rattle.std.specs.Option.{option_map}
use Rattle.std.specs.Prelude.{slice_get, slice_set}
use Rattle.charge_world.specs.declared.heard.PilotState.TheVariants as pilot
use Rattle.charge_world.specs.declared.heard.PlantEvent.{PlantEvent}
use Rattle.charge_world.specs.declared.heard.PlantEvent.TheVariants as plant
use Rattle.charge_world.specs.declared.ports.Order.{Order}
use Rattle.charge_world.specs.declared.ports.Order.TheVariants as order
use Rattle.session_words.specs.declared.facts.Facts.{Facts}
use Rattle.session_words.specs.declared.phase.Phase.{Phase}
use Rattle.session_words.specs.declared.phase.Phase.TheVariants as row
use Rattle.session_words.specs.declared.plan.CarPlan.{CarPlan}
use Rattle.session_words.specs.declared.plan.PostPlan.{PostPlan}
use Rattle.v2gtp_frames.specs.declared.FrameFault.{FrameFault}
use Rattle.v2gtp_frames.specs.Reading.{whole_at}
use Rattle.session_rules.specs.Stages.{is_waiting, confirmed_row}
use Rattle.plant_sim.specs.Charger.{Charger, came, Comes, NoneReached}
use Rattle.post_spec.specs.Codecs as post
use Rattle.post_spec.specs.Steps.{Act, Give, Send, Answer, End, Reading}
use Rattle.station_spec.specs.States.{Session, State, is_done}
use Rattle.station_spec.specs.Deciding.{decided}
use Rattle.station_spec.specs.Hearing.{charger_facts, session_opened, with_bytes}
use Rattle.station_spec.specs.Judging.{Payload, payload_by, payload_in, IsRead}
use Rattle.station_spec.specs.Acting.{since_order, replied, acted}
use Rattle.station_spec.specs.Next.{Acts}
use Rattle.station_spec.specs.Sharing.{Shows}
use Rattle.station_laws.proofs.Decided.{same_session}
use Rattle.car_spec.specs.Codecs as car
use Rattle.pipe_spec.specs.Chargers.{behind_act, IsCharger}
use Rattle.pipe_spec.specs.Histories.{Happening, CarComes, ChargerTells, StationHears, CarHears, TimePasses, StationDoes, CarReads, CarDoes, CarGoes, NumberIsDrawn, moment}
use Rattle.pipe_spec.specs.Turns.{Station, station_state, Follows}
use Rattle.pipe_spec.specs.Runs as runs
use Rattle.pipe_laws.specs.PipePasts as first
use Rattle.pipe_laws.proofs.Once.{charger_once}
use Rattle.pipe_facts.specs.Calm.{IsCalm}
use Rattle.pipe_facts.proofs.Calm.{told_is_calm}
use Rattle.pipe_facts.proofs.Facts.{StayBehind, acts_stay}
use Rattle.pipe_facts.proofs.InTime.{car_is_ready}
use Rattle.pipe_facts.proofs.Moments.{stays_empty, ordered_elsewhere}
use Rattle.matched_pairs.proofs.Messages.{empty_waits}

true_false : true ≡ false → ⊥
true_false e = cc

-- some bytes were heard
abbrev pub has_heard : List Happening → Bool
has_heard [] = false
has_heard (StationHears bytes ∷ h) = true
has_heard (CarHears bytes ∷ h) = true
has_heard (other ∷ h) = has_heard h

-- a post that has read nothing
abbrev pub IsNewIn : Option Session → Type 0
IsNewIn None = Unit {0}
IsNewIn (Some x) = (x.stage.row ≡ row.Connected) × (x.unread ≡ [])

-- what is to come at place 1 of a charger: that the isolation is invalid, at once or never again
abbrev pub IsAtOnce : Option (Option ℕ) → Type 0
IsAtOnce o = (o ≡ Some (Some 0)) ⊎ (o ≡ Some None)

pub record Begins (st : Station) (h : List Happening) : Type 0 where
  pub new : has_heard h ≡ false → IsNewIn (station_state st h).session
  pub ready : has_heard h ≡ true → (station_state st h).facts.pilot ≡ pilot.C
  pub first : (s : Charger) → IsCharger st.post.free h s → IsAtOnce (slice_get s.moments 1)
  pub measured : has_heard h ≡ true → (s : Charger) → IsCharger st.post.free h s → slice_get s.moments 1 ≡ Some None

-- ---- a post that has read nothing

pub new_heard : (arrived : Option ℕ) (o : Option Session) (clock : ℕ) → IsNewIn o → IsNewIn (option_map (with_bytes []) (session_opened arrived clock o))
new_heard None None clock n = tt
new_heard None (Some x) clock n = (n.0, ap (λ (u : List ℕ). u ++ []) n.1)
new_heard (Some token) o clock n = (refl, refl)

wants_nothing : (o : Option Session) → IsNewIn o → payload_in o ≡ None
wants_nothing None n = refl
wants_nothing (Some x) n =
    ap (λ (r : Phase). if is_waiting r then None else payload_by (whole_at x.unread) x) n.0
    ∙ ap (λ (w : Result (Option ℕ) FrameFault). payload_by w x) (ap whole_at n.1 ∙ empty_waits)

nothing_wanted : (done : Bool) (o : Option Session) → IsNewIn o → (if done then payload_in o else None) ≡ None
nothing_wanted true o n = wants_nothing o n
nothing_wanted false o n = refl

-- so it reads nothing
pub new_reads : (c : post.Codecs) (plan : PostPlan) (limit : ℕ) (s : State) (r : Reading) (act : Act) → IsNewIn s.session → Acts c plan (Shows limit [] []) s (Some r) act true → ⊥
new_reads c plan limit s r act n i =
    subst (λ (w : Option Payload). IsRead c plan (Shows limit [] []) (decided plan s) w (Some r))
    (nothing_wanted (is_done (decided plan s).agenda) (decided plan s).session (subst IsNewIn (sym (same_session plan s)) n)) i.read

since_new : (s : Option Session) (now : ℕ) (o : Order) → IsNewIn s → IsNewIn (option_map (since_order now o) s)
since_new None now x n = tt
since_new (Some x) now order.Open n = n
since_new (Some x) now order.Close n = n
since_new (Some x) now (order.Limits voltage current watts) n = n

replied_new : (o : Option Session) (now : ℕ) → IsNewIn o → IsNewIn (option_map (replied now) o)
replied_new None now n = tt
replied_new (Some x) now n = (ap confirmed_row n.0, n.1)

acts_new : (act : Act) (t : State) → IsNewIn t.session → IsNewIn (acted act true t).session
acts_new (Give o) t n = since_new t.session t.clock o n
acts_new (Send bytes) t n = replied_new t.session t.clock n
acts_new (Answer bytes) t n = n
acts_new (End cause) t n = tt

does_new : (reading : Option Reading) (c : post.Codecs) (st : Station) (h : List Happening) (act : Act) → Acts c st.post (Shows st.limit [] []) (station_state st h) reading act true → IsNewIn (station_state st h).session
    → IsNewIn (station_state st (StationDoes reading act ∷ h)).session
does_new None c st h act i n = acts_new act (decided st.post (station_state st h)) (subst IsNewIn (sym (same_session st.post (station_state st h))) n)
does_new (Some r) c st h act i n = absurd (new_reads c st.post st.limit (station_state st h) r act n i)

-- ---- what the charger tells

ready_told : (event : PlantEvent) (f : Facts) → IsCalm event → f.pilot ≡ pilot.C → (charger_facts event f).pilot ≡ pilot.C
ready_told (plant.Pilot state) f i e = i
ready_told (plant.Isolation level) f i e = e
ready_told (plant.Measured voltage current) f i e = e
ready_told (plant.Feedback closed) f i e = e
ready_told plant.Paid f i e = e
ready_told plant.Emergency f i e = e
ready_told plant.StopAsked f i e = e
ready_told plant.RenewAsked f i e = e

told_empty : (old : Charger) (now : ℕ) (event : PlantEvent) (after : Charger) → Comes old now event after → slice_get old.moments 1 ≡ Some None → slice_get after.moments 1 ≡ Some None
told_empty old now event after x e = ap (λ (s : Charger). slice_get s.moments 1) x.after ∙ stays_empty old.moments x.place 1 e

set_none : (ms : List (Option ℕ)) (p k m : ℕ) → slice_get ms k ≡ Some (Some m) → (slice_get (slice_set ms p None) k ≡ Some (Some m)) ⊎ (slice_get (slice_set ms p None) k ≡ Some None)
set_none [] p k m e = inl e
set_none (x ∷ ms) zero zero m e = inr refl
set_none (x ∷ ms) zero (suc k) m e = inl e
set_none (x ∷ ms) (suc p) zero m e = inl e
set_none (x ∷ ms) (suc p) (suc k) m e = set_none ms p k m e

told_once : (old : Charger) (now : ℕ) (event : PlantEvent) (after : Charger) → Comes old now event after → IsAtOnce (slice_get old.moments 1) → IsAtOnce (slice_get after.moments 1)
told_once old now event after x (inl e) = subst (λ (s : Charger). IsAtOnce (slice_get s.moments 1)) (sym x.after) (set_none old.moments x.place 1 0 e)
told_once old now event after x (inr e) = inr (told_empty old now event after x e)

-- a turn that brings bytes comes where nothing of the charger was due
none_due : (o : Option (Option ℕ)) (s : Charger) (now : ℕ) → o ≡ slice_get s.moments 1 → NoneReached s.moments now → IsAtOnce o → slice_get s.moments 1 ≡ Some None
none_due o s now e n (inl a) = let late : now < 0 = n 1 0 (sym e ∙ a) in absurd (omega (arith, late))
none_due o s now e n (inr a) = sym e ∙ a

does_same : (act : Act) (h : List Happening) (before after : Charger) → after ≡ behind_act act h before → slice_get after.moments 1 ≡ slice_get before.moments 1
does_same (Give o) h before after e = ap (λ (s : Charger). slice_get s.moments 1) e ∙ ordered_elsewhere before o (moment h) 1 (omega arith)
does_same (Send bytes) h before after e = ap (λ (s : Charger). slice_get s.moments 1) e
does_same (Answer bytes) h before after e = ap (λ (s : Charger). slice_get s.moments 1) e
does_same (End cause) h before after e = ap (λ (s : Charger). slice_get s.moments 1) e

at_once : (a b : Option (Option ℕ)) → a ≡ b → IsAtOnce b → IsAtOnce a
at_once a b e i = subst IsAtOnce (sym e) i

-- ---- all that may happen

hears : (c : post.Codecs) (cs : car.Codecs) (st : Station) (plan : CarPlan) (h : List Happening) (bytes : List ℕ) → first.IsFirst c cs st plan (StationHears bytes ∷ h) → Follows c cs st h (StationHears bytes) → Begins st h
    → Begins st (StationHears bytes ∷ h)
hears c cs st plan h bytes f follows k =
    let t = follows.turn in
    let there : (s : Charger) → IsCharger st.post.free h s → slice_get s.moments 1 ≡ Some None = λ s x.
    let same : follows.charger ≡ s = charger_once st.post.free h follows.charger s follows.charger_is x in
    none_due (slice_get s.moments 1) s (moment h) refl (subst (λ (z : Charger). NoneReached z.moments (moment h)) same t.0) (k.first s x) in
    record {
      new = λ e. absurd (true_false e);
      ready = λ e. car_is_ready c cs st plan (StationHears bytes ∷ h) f refl;
      first = k.first;
      measured = λ e. there;
    }

car_hears : (c : post.Codecs) (cs : car.Codecs) (st : Station) (plan : CarPlan) (h : List Happening) (bytes : List ℕ) → first.IsFirst c cs st plan (CarHears bytes ∷ h) → Follows c cs st h (CarHears bytes) → Begins st h
    → Begins st (CarHears bytes ∷ h)
car_hears c cs st plan h bytes f follows k =
    let t = follows.turn in
    let there : (s : Charger) → IsCharger st.post.free h s → slice_get s.moments 1 ≡ Some None = λ s x.
    let same : follows.charger ≡ s = charger_once st.post.free h follows.charger s follows.charger_is x in
    none_due (slice_get s.moments 1) s (moment h) refl (subst (λ (z : Charger). NoneReached z.moments (moment h)) same t.0) (k.first s x) in
    record {
      new = λ e. absurd (true_false e);
      ready = λ e. car_is_ready c cs st plan (CarHears bytes ∷ h) f refl;
      first = k.first;
      measured = λ e. there;
    }

step : (c : post.Codecs) (cs : car.Codecs) (st : Station) (plan : CarPlan) (h : List Happening) (e : Happening) → first.IsFirst c cs st plan (e ∷ h) → runs.IsRun c cs st (e ∷ h) → runs.IsWithin e → Begins st h → Begins st (e ∷ h)
step c cs st plan h (StationHears bytes) f r w k = hears c cs st plan h bytes f r.1 k
step c cs st plan h (CarHears bytes) f r w k = car_hears c cs st plan h bytes f r.1 k
step c cs st plan h (ChargerTells event) f r w k =
    let calm = told_is_calm c cs st (ChargerTells event ∷ h) r in
    record {
      new = λ e. new_heard (station_state st h).arrived (station_state st h).session (station_state st h).clock (k.new e);
      ready = λ e. ready_told event (station_state st h).facts calm.0 (k.ready e);
      first = λ s x. told_once x.0 (moment h) event s x.2 (k.first x.0 x.1);
      measured = λ e s x. told_empty x.0 (moment h) event s x.2 (k.measured e x.0 x.1);
    }
step c cs st plan h TimePasses f r w k = record {
  new = λ e. new_heard (station_state st h).arrived (station_state st h).session (station_state st h).clock (k.new e);
  ready = k.ready;
  first = k.first;
  measured = k.measured;
}
step c cs st plan h (StationDoes reading act) f r w k =
    let stay : StayBehind act (station_state st h).facts (station_state st (StationDoes reading act ∷ h)).facts = acts_stay st.post reading act (station_state st h) in
    record {
      new = λ e. does_new reading c st h act r.1 (k.new e);
      ready = λ e. stay.pilot ∙ k.ready e;
      first = λ s x. at_once (slice_get s.moments 1) (slice_get x.0.moments 1) (does_same act h x.0 s x.2) (k.first x.0 x.1);
      measured = λ e s x. does_same act h x.0 s x.2 ∙ k.measured e x.0 x.1;
    }
step c cs st plan h (CarReads word) f r w k = record { new = k.new; ready = k.ready; first = k.first; measured = k.measured }
step c cs st plan h (CarDoes act) f r w k = record { new = k.new; ready = k.ready; first = k.first; measured = k.measured }
step c cs st plan h (CarComes other) f r w k = absurd (true_false (sym w))
step c cs st plan h CarGoes f r w k = absurd (true_false (sym w))
step c cs st plan h NumberIsDrawn f r w k = absurd (true_false (sym w))

base : (st : Station) (plan : CarPlan) → Begins st (CarComes plan ∷ [])
base st plan = record {
  new = λ e. tt;
  ready = λ e. absurd (true_false (sym e));
  first = λ s x. inl (ap (λ (z : Charger). slice_get z.moments 1) (x.2 ∙ ap (λ (z : Charger). came z 0) x.1));
  measured = λ e. absurd (true_false (sym e));
}

pub begins_in : (c : post.Codecs) (cs : car.Codecs) (st : Station) (plan : CarPlan) (session : List Happening) → AllByRecursion runs.IsWithin session → runs.IsRun c cs st (session ++ CarComes plan ∷ [])
    → Begins st (session ++ CarComes plan ∷ [])
begins_in c cs st plan [] w r = base st plan
begins_in c cs st plan (e ∷ session) w r =
    step c cs st plan (session ++ CarComes plan ∷ []) e (record { session = e ∷ session; h_is = refl; within = w; run = r }) r w.0 (begins_in c cs st plan session w.1 r.0)
