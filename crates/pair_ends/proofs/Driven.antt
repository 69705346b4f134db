-- What a car does next, or reads.
use Rattle.std.proofs.Common.{◌≡◌, ◌<◌, ◌≤◌, ℕ, Bool, true, false, List, length, Option, Some, None, refl, sym, ap, subst, ◌∙◌, inl, inr}
use Rattle.std.specs.Bool.{MatchBool}
use Rattle.session_words.specs.declared.plan.CarPlan.{CarPlan}
use Rattle.car_codec.specs.Judging.{ChoosesOffered}
use Rattle.car_codec.specs.Requests.{IsPlan}
use Rattle.car_spec.specs.Codecs.{Codecs}
use Rattle.car_spec.specs.Acting.{acted}
use Rattle.car_spec.specs.Deciding.{decided}
use Rattle.car_spec.specs.Judging.{Payload, wanted, read, IsRead}
use Rattle.car_spec.specs.Next.{IsQuiet}
use Rattle.car_spec.specs.States.{State, first}
use Rattle.car_spec.specs.States as states
use Rattle.evcc_machine.specs.Work.{work, WordsLessen}
use Rattle.car_acts.specs.declared.deeds.Deed.{Deed}
use Rattle.car_acts.specs.declared.deeds.Deed.TheVariants.{Dial, Give, Say, Finish, Seek}
use Rattle.car_acts.specs.declared.driver.Driver.{Driver}
use Rattle.car_acts.specs.Deeds.{act_of, spoken_in, MayTake, DoesNext, ReadsNext, Prepares}
use Rattle.car_acts.specs.Sound.{IsSound}
use Rattle.car_acts.proofs.Next.{may_act}
use Rattle.car_acts.proofs.Runs.{rests_same, rests_sound, read_sounds, read_work}
use Rattle.pipe_spec.specs.Histories.{car_says}
use Rattle.pair_ends.specs.declared.tallies.CarTally.{CarTally}
use Rattle.pair_ends.specs.Ends.{side_by, IsSent, CarGoes, CarRests, ReadsOne, ReadsNone, ReadsWord}
use Rattle.pair_ends.specs.Tallies.{car_did}

pub taken : (deed : Deed) → MayTake deed true
taken (Dial port) = tt
taken (Give order) = tt
taken (Say n) = tt
taken (Finish cause) = refl
taken (Seek datagram) = tt

pub does : (c : Codecs) (old new : Driver) (mid : State) (room : List ℕ) (deed : Deed) (t t_new : CarTally) (way way_new : List ℕ) → (d : DoesNext c old.plan (decided old.plan old.car) room deed) → mid ≡ decided old.plan old.car
    → new.plan ≡ old.plan → new.car ≡ acted (act_of room (spoken_in d.todo) deed) true mid → t_new ≡ car_did (act_of room (spoken_in d.todo) deed) t
    → length (car_says (act_of room (spoken_in d.todo) deed)) ≤ 1032 → IsSent (car_says (act_of room (spoken_in d.todo) deed)) way way_new
    → CarGoes c (side_by old t) way (side_by new t_new) way_new
does c old new mid room deed t t_new way way_new d mid_is plan_is car_is tally_is short sent =
    let act = act_of room (spoken_in d.todo) deed in
    let e : new.car ≡ acted act true (decided old.plan old.car) = car_is ∙ ap (acted act true) mid_is in
    inr (record {
      act = act;
      acts = may_act c old.plan old.car room deed true d (taken deed);
      new_is = λ i. record { plan = plan_is i; car = e i; tally = tally_is i };
      short = short;
      sent = sent;
    })

pub none_first : (c : Codecs) (plan : CarPlan) (t : Option states.Todo) (room : List ℕ) → Prepares c plan t room None → t ≡ None
none_first c plan None room h = refl
none_first c plan (Some todo) room h = absurd h

read_next : (c : Codecs) (plan : CarPlan) (d new : State) (t t_new : CarTally) → ReadsOne c plan d t new t_new → ReadsNext c plan d new
read_next c plan d new t t_new r = record { payload = r.payload; word = r.judged; wanted_is = r.wanted_is; judges = r.judges; new_is = r.new_is }

reads : (c : Codecs) (old new : Driver) (mid : State) (t t_new : CarTally) (way : List ℕ) → mid ≡ decided old.plan old.car → new.plan ≡ old.plan → ReadsOne c old.plan mid t new.car t_new → CarGoes c (side_by old t) way (side_by new t_new) way
reads c old new mid t t_new way mid_is plan_is r =
    let wants : wanted (decided old.plan old.car) ≡ Some r.payload = ap wanted (sym mid_is) ∙ r.wanted_is in
    let e = r.new_is ∙ ap (λ (s : State). read old.plan s r.judged) mid_is in
    let f = r.tally_is in
    inl (record {
      judged = r.judged;
      reads = subst (λ (w : Option Payload). IsRead c old.plan w r.judged) (sym wants) r.judges;
      new_is = λ i. record { plan = plan_is i; car = e i; tally = f i };
      way_is = refl;
    })

rests : (old new : Driver) (mid : State) (t t_new : CarTally) (way : List ℕ) → mid ≡ decided old.plan old.car → first mid.agenda ≡ None → new.plan ≡ old.plan → ReadsNone mid t new.car t_new → CarRests (side_by old t) way (side_by new t_new) way
rests old new mid t t_new way mid_is none plan_is r =
    let quiet : IsQuiet old.plan old.car = record { none = ap (λ (s : State). first s.agenda) (sym mid_is) ∙ none; no_word = ap wanted (sym mid_is) ∙ r.none } in
    let e : new.car ≡ old.car = rests_same old.plan old.car new.car quiet (r.new_is ∙ mid_is) in
    let f = r.tally_is in
    record { rests = quiet; new_is = λ i. record { plan = plan_is i; car = e i; tally = f i }; way_is = refl }

pub goes_by : (c : Codecs) (old new : Driver) (mid : State) (t t_new : CarTally) (way : List ℕ) (b : Bool) → mid ≡ decided old.plan old.car → first mid.agenda ≡ None → new.plan ≡ old.plan → ReadsWord c old.plan mid t b new.car t_new
    → MatchBool b (CarGoes c (side_by old t) way (side_by new t_new) way) (CarRests (side_by old t) way (side_by new t_new) way)
goes_by c old new mid t t_new way true mid_is none plan_is r = reads c old new mid t t_new way mid_is plan_is r
goes_by c old new mid t t_new way false mid_is none plan_is r = rests old new mid t t_new way mid_is none plan_is r

quiet_by : (plan : CarPlan) (s mid new : State) (t t_new : CarTally) → mid ≡ decided plan s → first mid.agenda ≡ None → ReadsNone mid t new t_new → IsQuiet plan s
quiet_by plan s mid new t t_new mid_is none r = record { none = ap (λ (x : State). first x.agenda) (sym mid_is) ∙ none; no_word = ap wanted (sym mid_is) ∙ r.none }

pub sound_by : (c : Codecs) (plan : CarPlan) (s mid new : State) (t t_new : CarTally) (b : Bool) → ChoosesOffered c.Responds → IsPlan plan → IsSound plan s → mid ≡ decided plan s → first mid.agenda ≡ None → ReadsWord c plan mid t b new t_new → IsSound plan new
sound_by c plan s mid new t t_new true chooses p h mid_is none r =
    read_sounds c plan s new chooses p h (read_next c plan (decided plan s) new t t_new (subst (λ (x : State). ReadsOne c plan x t new t_new) mid_is r))
sound_by c plan s mid new t t_new false chooses p h mid_is none r = rests_sound plan s new h (quiet_by plan s mid new t t_new mid_is none r) (r.new_is ∙ mid_is)

pub work_by : (c : Codecs) (plan : CarPlan) (s mid new : State) (t t_new : CarTally) (b : Bool) → WordsLessen → IsPlan plan → mid ≡ decided plan s → ReadsWord c plan mid t b new t_new → b ≡ true → work plan new < work plan s
work_by c plan s mid new t t_new true law p mid_is r e = read_work c plan s new law p (read_next c plan (decided plan s) new t t_new (subst (λ (x : State). ReadsOne c plan x t new t_new) mid_is r))
work_by c plan s mid new t t_new false law p mid_is r e = absurd (let f : false ≡ true = e in cc)
