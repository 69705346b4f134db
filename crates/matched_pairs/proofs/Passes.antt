-- Ten milliseconds pass.
use Rattle.std.proofs.Common.{◌≡◌, ℕ, suc, ◌+◌, ◌*◌, ◌<◌, ◌≤◌, nat_le, Bool, true, false, ◌&&◌, ◌||◌, if◌then◌else◌, List, [], ◌∷◌, ◌++◌, Option, Some, None, is_some, refl, ap, sym, subst, ◌∙◌, arith}
use Rattle.std.proofs.lemmas.Bool.Decides.{nat_tests}
use Rattle.session_words.specs.declared.plan.CarPlan.{CarPlan}
use Rattle.session_words.specs.Plans.{IsCarPlan}
use Rattle.session_rules.specs.Stages.{is_set_up}
use Rattle.post_spec.specs.Codecs as post
use Rattle.post_spec.specs.Steps.{Clock}
use Rattle.station_spec.specs.States.{State}
use Rattle.station_spec.specs.Hearing.{hearing}
use Rattle.station_spec.specs.Next.{IsQuiet}
use Rattle.car_rules.specs.declared.stage.CarPhase.{CarPhase}
use Rattle.car_rules.specs.declared.stage.CarPhase.TheVariants as phase
use Rattle.car_rules.specs.Moves.{is_again}
use Rattle.car_rules.specs.Replies.{is_setting_up}
use Rattle.car_spec.specs.Codecs as car
use Rattle.car_spec.specs.States as car_states
use Rattle.car_spec.specs.Hearing as car_hearing
use Rattle.pipe_spec.specs.Histories.{Happening, TimePasses, moment, car_plan, car_cause, car_has_ended, station_has_ended, car_steps, station_hearings, car_hearings, to_station, ported}
use Rattle.pipe_spec.specs.Turns.{Station, station_state, car_state, BothRest, MayTurn, car_is_spent, is_over}
use Rattle.pair_words.specs.Meeting.{ArePaired}
use Rattle.matched_pairs.specs.Moves.{IsPair}
use Rattle.matched_pairs.specs.Bounds.{IsBounded}
use Rattle.matched_pairs.specs.Paces.{IsSetUpAtOnce}
use Rattle.matched_pairs.proofs.Pacing.{IsPaced}
use Rattle.matched_pairs.proofs.Since.{IsSoonPassed, passes_since}
use Rattle.matched_pairs.proofs.Asked.{AskedBy, AskedIn, asked_on, passes_asked, car_hears_asked}
use Rattle.matched_pairs.proofs.Coming.{HasSomeUnread, AgainSoon, AgainIn, again_heard, car_hears_again}
use Rattle.matched_pairs.proofs.Setup.{passes_setup}
use Rattle.matched_pairs.proofs.Waits.{passes_waits}
use Rattle.matched_pairs.proofs.Passing.{IsResting, IsInClosing, IsPassing, Rests, Closes}
use Rattle.matched_pairs.proofs.Held.{Holds, Known, not_ended, car_lives, no_agenda}
use Rattle.matched_pairs.proofs.Hearings.{heard_paced}

true_false : true ≡ false → ⊥
true_false e = cc

-- what the post keeps behind it
abbrev pub station_after : ℕ → State → State
station_after now s = hearing (now + 10) Clock s

-- ---- what both ways have in common

pub record Way (now : ℕ) (s : State) (k : car_states.State) (way : List ℕ) : Type 0 where
  pub live : k.over ≡ false
  pub behind : IsSoonPassed now s.session
  pub asked : AskedIn (now + 10) (station_after now s) way (car_hearing.session_heard Clock (now + 10) k.session)
  pub unread : HasSomeUnread (car_hearing.session_heard Clock (now + 10) k.session) → ⊥
  pub set_up : IsSetUpAtOnce (now + 10) (car_hearing.session_heard Clock (now + 10) k.session)

no_unread : (now : ℕ) (k : car_states.State) (y : car_states.Session) → k.session ≡ Some y → y.unread ≡ [] → HasSomeUnread (car_hearing.session_heard Clock (now + 10) k.session) → ⊥
no_unread now k y e u n =
    let some : y.unread ++ [] ≡ [] → ⊥ = subst (λ (o : Option car_states.Session). HasSomeUnread (car_hearing.session_heard Clock (now + 10) o)) e n in
    some (ap (λ (x : List ℕ). x ++ []) u)

repeats_later : (ph : CarPhase) → is_again ph ph ≡ true → is_setting_up ph ≡ false
repeats_later phase.Authorizing e = refl
repeats_later phase.Asking e = refl
repeats_later phase.CableChecking e = refl
repeats_later phase.PreCharging e = refl
repeats_later phase.Charging e = refl
repeats_later other e = cc

pace_passes : (now at since : ℕ) → now < at → at ≤ since + 1000 → now + 10 ≤ since + 1010
pace_passes now at since l m = omega (arith, l, m)

rests : (now : ℕ) (s : State) (k : car_states.State) (way : List ℕ) → AgainIn k.session s.session → IsResting now s k → Way now s k way
rests now s k way again r =
    let of_car : AgainSoon r.car.again s.session = subst (λ (o : Option car_states.Session). AgainIn o s.session) r.car_is again in
    let of_both : AgainSoon r.car.again (Some r.post) = subst (AgainSoon r.car.again) r.post_is of_car in
    let due : is_set_up r.post.stage.row ≡ true → r.at ≤ r.post.since + 1000 = subst (λ (a : Option ℕ). AgainSoon a (Some r.post)) r.again of_both in
    record {
      live = r.live;
      behind = subst (IsSoonPassed now) (sym r.post_is) (pace_passes now r.at r.post.since r.later (due r.set_up));
      asked = subst (λ (o : Option car_states.Session). AskedIn (now + 10) (station_after now s) way (car_hearing.session_heard Clock (now + 10) o)) (sym r.car_is)
          (subst (λ (o : Option ℕ). AskedBy (now + 10) (station_after now s) way o) (sym r.sent) tt);
      unread = no_unread now k r.car r.car_is r.unread;
      set_up = passes_setup Clock (now + 10) (now + 10) k.session r.car r.stage r.car_is r.stage_is (repeats_later r.stage.phase r.repeats);
    }

closing_passes : (now since : ℕ) → now + 10 ≤ since + 60 → now + 10 ≤ since + 1010
closing_passes now since l = omega (arith, l)

closes : (now : ℕ) (s : State) (k : car_states.State) (way : List ℕ) → AskedIn now s way k.session → way ≡ [] → IsInClosing now s k → Way now s k way
closes now s k way asked w r = record {
  live = r.live;
  behind = subst (IsSoonPassed now) (sym r.post_is) (closing_passes now r.post.since r.soon);
  asked = car_hears_asked Clock (now + 10) (now + 10) (station_after now s) way k.session refl
      (asked_on now (now + 10) s (station_after now s) way way k.session
      (λ at a. passes_asked s r.post now way at r.post_is r.arrived r.read w r.closing r.soon a) asked);
  unread = no_unread now k r.car r.car_is r.unread;
  set_up = passes_setup Clock (now + 10) (now + 10) k.session r.car r.stage r.car_is r.stage_is (ap is_setting_up r.starts);
}

either_way : (now : ℕ) (s : State) (k : car_states.State) (way : List ℕ) → AgainIn k.session s.session → AskedIn now s way k.session → way ≡ [] → IsPassing now s k → Way now s k way
either_way now s k way again asked w (Rests r) = rests now s k way again r
either_way now s k way again asked w (Closes r) = closes now s k way asked w r

-- ---- the turns of a car's plan

spent_not : (a b c d : Bool) → (a || b || c || d) ≡ false → c ≡ false
spent_not a b false d e = refl
spent_not true b true d e = cc
spent_not false true true d e = cc
spent_not false false true d e = cc

not_spent : (turns heard : ℕ) → nat_le turns heard ≡ false → heard < turns
not_spent turns heard e = grind (arith, nat_tests)

most : (now heard turns : ℕ) → now ≤ 10 * suc heard → heard < turns → turns ≤ 4294967296 → now ≤ 42949672960
most now heard turns l m t = omega (arith, l, m, t)

heard_once : (cause : Option ℕ) (now heard : ℕ) → is_some cause ≡ false → now ≤ 10 * (if is_some cause then heard else suc heard) → now ≤ 10 * suc heard
heard_once None now heard e l = l
heard_once (Some n) now heard e l = absurd (true_false e)

few : (st : Station) (plan : CarPlan) (h : List Happening) → car_plan h ≡ Some plan → plan.turns ≤ 4294967296 → is_over st h ≡ false → is_some (car_cause h) ≡ false → IsBounded plan (TimePasses ∷ h)
    → moment h + 10 ≤ 42949672960
few st plan h e t g live b =
    let spent : car_is_spent (car_plan h) h ≡ false = spent_not (station_has_ended h && car_has_ended h) (nat_le st.turns (station_hearings h)) (car_is_spent (car_plan h) h) _ g in
    let own : nat_le plan.turns (car_hearings h) ≡ false = sym (ap (λ (o : Option CarPlan). car_is_spent o h) e) ∙ spent in
    most (moment h + 10) (car_hearings h) plan.turns (heard_once (car_cause h) (moment h + 10) (car_hearings h) live (b.car live)) (not_spent plan.turns (car_hearings h) own) t

-- ---- it passes

pub passes : (c : post.Codecs) (cs : car.Codecs) (st : Station) (plan : CarPlan) (h : List Happening) → Known c cs st plan h → MayTurn st h TimePasses → IsPassing (moment h) (station_state st h) (car_state plan h)
    → IsBounded plan (TimePasses ∷ h) → Holds st plan h → Holds st plan (TimePasses ∷ h)
passes c cs st plan h n f p b k =
    let s : State = station_state st h in
    let rest : BothRest st h = f.rest in
    let quiet : IsQuiet st.post s = rest.station_rests in
    let t = f.turn in
    let w : Way (moment h) s (car_state plan h) (to_station h) = either_way (moment h) s (car_state plan h) (to_station h) k.again k.asked t.1 p in
    let live : is_some (car_cause h) ≡ false = not_ended (car_cause h) (car_state plan h) n.ended w.live in
    let pair : IsPair c cs st.post plan = n.pair in
    let paired : ArePaired st.post plan = pair.paired in
    let of_car : IsCarPlan (ported plan) = paired.of_car in
    let turns = of_car.turns in
    record {
      behind = passes_since s.arrived s.session s.clock (moment h) n.clock k.behind w.behind;
      asked = car_lives (λ (x : car_states.State). AskedIn (moment h + 10) (station_after (moment h) s) (to_station h) x.session) (car_cause h) plan (car_steps h) Clock (moment h + 10) live w.asked;
      again = again_heard (car_state plan (TimePasses ∷ h)).session s.arrived s.session s.clock []
          (car_lives (λ (x : car_states.State). AgainIn x.session s.session) (car_cause h) plan (car_steps h) Clock (moment h + 10) live
          (car_hears_again Clock (moment h + 10) (car_state plan h).session s.session refl k.again));
      coming = record {
        under_way = λ z. absurd (z t.2);
        unread = λ u. absurd (car_lives (λ (x : car_states.State). HasSomeUnread x.session → ⊥) (car_cause h) plan (car_steps h) Clock (moment h + 10) live w.unread u);
      };
      waits = passes_waits st.post s (moment h + 10) k.waits quiet.none;
      paced = car_lives (λ (x : car_states.State). IsPaced x) (car_cause h) plan (car_steps h) Clock (moment h + 10) live
          (heard_paced Clock (moment h + 10) (car_state plan h) refl (no_agenda st plan h n.came f.rest) k.paced);
      set_up = car_lives (λ (x : car_states.State). IsSetUpAtOnce (moment h + 10) x.session) (car_cause h) plan (car_steps h) Clock (moment h + 10) live w.set_up;
      few = few st plan h n.came turns.1 f.goes_on live b;
    }
