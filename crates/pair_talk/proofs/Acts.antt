-- What an end does next follows from the history, and the pair keeps it.
use Rattle.std.proofs.Common.{◌≡◌, ℕ, ◌≤◌, true, List, [], ◌∷◌, ◌++◌, length, Option, Some, refl, sym, ap, subst, ◌∙◌, inl, inr, arith}
use Rattle.std.proofs.lemmas.List.{length-append}
use Rattle.std.specs.List.{AllByRecursion}
use Rattle.session_words.specs.declared.plan.CarPlan.{CarPlan}
use Rattle.session_words.specs.declared.plan.PostPlan.{PostPlan}
use Rattle.v2gtp_frames.specs.Frames.{frame}
use Rattle.plant_sim.specs.Charger.{Charger, ordered}
use Rattle.post_spec.specs.Codecs.{Codecs}
use Rattle.post_spec.specs.Steps.{Act, Give, Send, Answer, End, Reading}
use Rattle.station_spec.specs.Acting.{acted}
use Rattle.station_spec.specs.Judging.{filled}
use Rattle.station_spec.specs.Next.{IsQuiet, Acts}
use Rattle.station_spec.specs.Sharing.{Shows}
use Rattle.station_spec.specs.States as states
use Rattle.car_spec.specs.Codecs as car
use Rattle.car_spec.specs.Acting as car_acting
use Rattle.car_spec.specs.Deciding.{decided}
use Rattle.car_spec.specs.Judging.{read}
use Rattle.car_spec.specs.Next as car_next
use Rattle.car_spec.specs.States.{State}
use Rattle.car_spec.specs.Steps as car_steps
use Rattle.pipe_spec.specs.Chargers.{behind_act}
use Rattle.pipe_spec.specs.Histories.{Happening, StationDoes, CarReads, CarDoes, joined, ported, moment, to_station, to_car, station_says, car_says, car_cause}
use Rattle.pipe_spec.specs.Turns.{Station, car_state, StationRests, CarRestsBy, StationMayDo, CarMayReadBy, CarMayDoBy}
use Rattle.pipe_spec.specs.Runs.{IsRun}
use Rattle.pipe_laws.specs.OneMessage.{IsShort, IsRest, IsOneUnderWay}
use Rattle.pipe_laws.proofs.Runs.{one_is_under_way}
use Rattle.pair_ends.specs.Ends.{PostSide, CarSide, charger_behind, post_acted, PostDoes, CarReadsOne, CarDoesOne}
use Rattle.pair_ends.specs.Tallies.{car_read, car_did}
use Rattle.pair_talk.specs.Keeping.{IsPostAt, IsCarAt, IsAt}
use Rattle.pair_talk.specs.Sides.{Sides}
use Rattle.pair_talk.proofs.Overs.{read_over, acted_over}
use Rattle.pair_talk.proofs.Ports.{same_decided, same_read, acts_so, reads_so, rests_so}
use Rattle.pair_talk.proofs.Tallies.{post_did_at, car_read_at, car_did_at}

-- ---- what is under way has room

rest_fits : (way : List ℕ) → IsRest 1032 way → length way ≤ 1032
rest_fits way r =
    let l : length (frame r.payload) ≡ length (r.front ++ way) = ap length r.frame_is in
    let m = length-append r.front way in
    let s = r.short in
    omega (arith, l, m, s)

nothing_fits : (way : List ℕ) → way ≡ [] → length way ≤ 1032
nothing_fits way e = let l : length way ≡ 0 = ap length e in omega (arith, l)

pub record Fits (h : List Happening) : Type 0 where
  pub to_station_fits : length (to_station h) ≤ 1032
  pub to_car_fits : length (to_car h) ≤ 1032

fits_by : (h : List Happening) → IsOneUnderWay 1032 h → Fits h
fits_by h (inl o) = record { to_station_fits = rest_fits (to_station h) o.0; to_car_fits = nothing_fits (to_car h) o.1 }
fits_by h (inr o) = record { to_station_fits = nothing_fits (to_station h) o.0; to_car_fits = rest_fits (to_car h) o.1 }

pub fits : (c : Codecs) (cc : car.Codecs) (st : Station) (h : List Happening) → IsRun c cc st h → AllByRecursion (IsShort 1032) h → Fits h
fits c cc st h r l = fits_by h (one_is_under_way c cc 1032 st h (omega arith) (omega arith) r l)

-- ---- the station

charger_at : (act : Act) (now : ℕ) (h : List Happening) (charger : Charger) → now ≡ moment h → charger_behind act now charger ≡ behind_act act h charger
charger_at (Give order) now h charger e = ap (ordered charger order) e
charger_at (Send bytes) now h charger e = refl
charger_at (Answer bytes) now h charger e = refl
charger_at (End cause) now h charger e = refl

pub may_do : (c : Codecs) (st : Station) (h : List Happening) (p : PostSide) (reading : Option Reading) (act : Act) → IsPostAt st h p → Acts c p.plan (Shows p.limit [] []) p.post reading act true → StationMayDo c st h reading act
may_do c st h p reading act k a =
    let x = subst (λ (plan : PostPlan). Acts c plan (Shows p.limit [] []) p.post reading act true) k.plan_is a in
    let y = subst (λ (limit : ℕ). Acts c st.post (Shows limit [] []) p.post reading act true) k.limit_is x in
    subst (λ (s : states.State). Acts c st.post (Shows st.limit [] []) s reading act true) k.post_is y

post_acts : (st : Station) (h : List Happening) (p : PostSide) (now : ℕ) (reading : Option Reading) (act : Act) → now ≡ moment h → IsPostAt st h p → IsPostAt st (StationDoes reading act ∷ h) (post_acted reading act now p)
post_acts st h p now reading act e k = record {
  plan_is = k.plan_is;
  post_is = ap (λ (plan : PostPlan). acted act true (filled plan reading p.post)) k.plan_is ∙ ap (λ (s : states.State). acted act true (filled st.post reading s)) k.post_is;
  limit_is = k.limit_is;
  charger_is = (p.charger, k.charger_is, charger_at act now h p.charger e);
  tally = post_did_at h reading act p.tally k.tally;
}

pub post_goes : (c : Codecs) (cc : car.Codecs) (st : Station) (plan : CarPlan) (h : List Happening) (s : Sides) (new : PostSide) (way : List ℕ) → IsAt c cc st plan h s → (d : PostDoes c s.moment s.post s.to_car new way)
    → IsAt c cc st plan (StationDoes d.reading d.act ∷ h) (record s { post = new; to_car = way })
post_goes c cc st plan h s new way k d =
    let run : IsRun c cc st (StationDoes d.reading d.act ∷ h) = (k.run, may_do c st h s.post d.reading d.act k.post d.acts) in
    let short : AllByRecursion (IsShort 1032) (StationDoes d.reading d.act ∷ h) = (d.short, k.short) in
    let f : Fits (StationDoes d.reading d.act ∷ h) = fits c cc st (StationDoes d.reading d.act ∷ h) run short in
    let joins : length (to_car h ++ station_says d.act) ≤ 1032 = f.to_car_fits in
    let l = length-append (to_car h) (station_says d.act) in
    let m : length s.to_car ≡ length (to_car h) = ap length k.to_car_is in
    record {
      run = run;
      short = short;
      came = k.came;
      post = subst (IsPostAt st (StationDoes d.reading d.act ∷ h)) (sym d.new_is) (post_acts st h s.post s.moment d.reading d.act k.moment_is k.post);
      car = record { plan_is = k.car.plan_is; car_is = k.car.car_is; over_is = k.car.over_is; tally = record { hearings = k.car.tally.hearings; exchanges_are = k.car.tally.exchanges_are; cause = k.car.tally.cause } };
      to_station_is = k.to_station_is;
      to_car_is = d.sent (omega (arith, joins, l, m)) ∙ ap (λ (x : List ℕ). x ++ station_says d.act) k.to_car_is;
      moment_is = k.moment_is;
      number_is = k.number_is;
      turns_is = k.turns_is;
    }

-- it has nothing to do
pub post_rests : (st : Station) (h : List Happening) (p : PostSide) → IsPostAt st h p → IsQuiet p.plan p.post → StationRests st h
post_rests st h p k q = subst (λ (s : states.State). IsQuiet st.post s) k.post_is (subst (λ (plan : PostPlan). IsQuiet plan p.post) k.plan_is q)

-- ---- the car

car_reads_so : (cc : car.Codecs) (plan : CarPlan) (h : List Happening) (s : CarSide) (judged : car.Judged) → IsCarAt plan h s → car_next.MayRead cc s.plan s.car judged → car_next.MayRead cc (joined plan) (car_state (joined plan) h) judged
car_reads_so cc plan h s judged k m =
    let x = subst (λ (p : CarPlan). car_next.MayRead cc p s.car judged) k.plan_is m in
    let y = subst (λ (t : State). car_next.MayRead cc (ported (joined plan)) t judged) k.car_is x in
    reads_so cc (joined plan) (car_state (joined plan) h) judged y

car_acts_so : (cc : car.Codecs) (plan : CarPlan) (h : List Happening) (s : CarSide) (act : car_steps.Act) → IsCarAt plan h s → car_next.MayAct cc s.plan s.car act true → car_next.MayAct cc (joined plan) (car_state (joined plan) h) act true
car_acts_so cc plan h s act k m =
    let x = subst (λ (p : CarPlan). car_next.MayAct cc p s.car act true) k.plan_is m in
    let y = subst (λ (t : State). car_next.MayAct cc (ported (joined plan)) t act true) k.car_is x in
    acts_so cc (joined plan) (car_state (joined plan) h) act y

-- what was decided
decided_at : (plan : CarPlan) (h : List Happening) (s : CarSide) → IsCarAt plan h s → decided s.plan s.car ≡ decided (joined plan) (car_state (joined plan) h)
decided_at plan h s k = ap (λ (p : CarPlan). decided p s.car) k.plan_is ∙ ap (decided (ported (joined plan))) k.car_is ∙ same_decided (joined plan) (car_state (joined plan) h)

read_at : (plan : CarPlan) (h : List Happening) (s : CarSide) (judged : car.Judged) → IsCarAt plan h s → IsCarAt plan (CarReads judged ∷ h) (record s { car = read s.plan (decided s.plan s.car) judged; tally = car_read judged s.tally })
read_at plan h s judged k =
    let p = joined plan in
    let d = decided_at plan h s k in
    record {
      plan_is = k.plan_is;
      car_is = ap (λ (q : CarPlan). read q (decided s.plan s.car) judged) k.plan_is ∙ ap (λ (t : State). read (ported p) t judged) d ∙ same_read p (decided p (car_state p h)) judged;
      over_is = read_over s.plan s.car judged ∙ k.over_is;
      tally = car_read_at h judged s.tally k.tally;
    }

did_at : (plan : CarPlan) (h : List Happening) (s : CarSide) (act : car_steps.Act) → IsCarAt plan h s → IsCarAt plan (CarDoes act ∷ h) (record s { car = car_acting.acted act true (decided s.plan s.car); tally = car_did act s.tally })
did_at plan h s act k = record {
  plan_is = k.plan_is;
  car_is = ap (car_acting.acted act true) (decided_at plan h s k);
  over_is = acted_over s.plan s.car act (car_cause h) k.over_is;
  tally = car_did_at h act s.tally k.tally;
}

pub car_read_goes : (c : Codecs) (cc : car.Codecs) (st : Station) (plan : CarPlan) (h : List Happening) (s : Sides) (new : CarSide) (way : List ℕ) → IsAt c cc st plan h s → StationRests st h → (d : CarReadsOne cc s.car s.to_station new way)
    → IsAt c cc st plan (CarReads d.judged ∷ h) (record s { car = new; to_station = way })
car_read_goes c cc st plan h s new way k q d =
    let e = CarReads d.judged in
    record {
      run = (k.run, (q, subst (λ (o : Option CarPlan). CarMayReadBy cc o h d.judged) (sym k.came) (car_reads_so cc plan h s.car d.judged k.car d.reads)));
      short = (tt, k.short);
      came = k.came;
      post = record { plan_is = k.post.plan_is; post_is = k.post.post_is; limit_is = k.post.limit_is; charger_is = k.post.charger_is; tally = record { hearings = k.post.tally.hearings; cause = k.post.tally.cause; replies = k.post.tally.replies; bytes = k.post.tally.bytes; closed = k.post.tally.closed; opened = k.post.tally.opened } };
      car = subst (IsCarAt plan (e ∷ h)) (sym d.new_is) (read_at plan h s.car d.judged k.car);
      to_station_is = d.way_is ∙ k.to_station_is;
      to_car_is = k.to_car_is;
      moment_is = k.moment_is;
      number_is = k.number_is;
      turns_is = k.turns_is;
    }

pub car_act_goes : (c : Codecs) (cc : car.Codecs) (st : Station) (plan : CarPlan) (h : List Happening) (s : Sides) (new : CarSide) (way : List ℕ) → IsAt c cc st plan h s → StationRests st h → (d : CarDoesOne cc s.car s.to_station new way)
    → IsAt c cc st plan (CarDoes d.act ∷ h) (record s { car = new; to_station = way })
car_act_goes c cc st plan h s new way k q d =
    let run : IsRun c cc st (CarDoes d.act ∷ h) = (k.run, (q, subst (λ (o : Option CarPlan). CarMayDoBy cc o h d.act) (sym k.came) (car_acts_so cc plan h s.car d.act k.car d.acts))) in
    let short : AllByRecursion (IsShort 1032) (CarDoes d.act ∷ h) = (d.short, k.short) in
    let f : Fits (CarDoes d.act ∷ h) = fits c cc st (CarDoes d.act ∷ h) run short in
    let joins : length (to_station h ++ car_says d.act) ≤ 1032 = f.to_station_fits in
    let l = length-append (to_station h) (car_says d.act) in
    let m : length s.to_station ≡ length (to_station h) = ap length k.to_station_is in
    record {
      run = run;
      short = short;
      came = k.came;
      post = record { plan_is = k.post.plan_is; post_is = k.post.post_is; limit_is = k.post.limit_is; charger_is = k.post.charger_is; tally = record { hearings = k.post.tally.hearings; cause = k.post.tally.cause; replies = k.post.tally.replies; bytes = k.post.tally.bytes; closed = k.post.tally.closed; opened = k.post.tally.opened } };
      car = subst (IsCarAt plan (CarDoes d.act ∷ h)) (sym d.new_is) (did_at plan h s.car d.act k.car);
      to_station_is = d.sent (omega (arith, joins, l, m)) ∙ ap (λ (x : List ℕ). x ++ car_says d.act) k.to_station_is;
      to_car_is = k.to_car_is;
      moment_is = k.moment_is;
      number_is = k.number_is;
      turns_is = k.turns_is;
    }

pub car_rests : (plan : CarPlan) (h : List Happening) (s : CarSide) (o : Option CarPlan) → o ≡ Some (joined plan) → IsCarAt plan h s → car_next.IsQuiet s.plan s.car → CarRestsBy o h
car_rests plan h s o came k q =
    let x = subst (λ (p : CarPlan). car_next.IsQuiet p s.car) k.plan_is q in
    let y = subst (λ (t : State). car_next.IsQuiet (ported (joined plan)) t) k.car_is x in
    subst (λ (z : Option CarPlan). CarRestsBy z h) (sym came) (rests_so (joined plan) (car_state (joined plan) h) y)
