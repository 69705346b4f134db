-- What the calls of a pipe make of what it stands for.
use Rattle.std.proofs.Common.{◌≡◌, ◌≤◌, ◌+◌, ◌*◌, ◌^◌, ℕ, Bool, true, false, List, [], ◌∷◌, ◌++◌, Option, Some, refl, sym, ◌∙◌, inr, arith}
use Rattle.charge_world.specs.declared.heard.What.TheVariants as what
use Rattle.charge_world.specs.declared.offer.Dialect.{Dialect}
use Rattle.session_words.specs.declared.plan.CarPlan.{CarPlan}
use Rattle.session_words.specs.declared.plan.SitePlan.{SitePlan}
use Rattle.session_words.specs.declared.word.Word.{Word}
use Rattle.post_spec.specs.Codecs.{Codecs}
use Rattle.car_spec.specs.Codecs as car
use Rattle.pipe_spec.specs.Histories.{Happening, CarComes}
use Rattle.pipe_spec.specs.Pasts.{Hearing, hearing_at, station_heard}
use Rattle.pipe_spec.specs.Turns.{Station, BothRest, is_over}
use Rattle.pair_talk.specs.Acting.{HaveDone}
use Rattle.pair_talk.specs.Beginning.{IsNew, Awaits}
use Rattle.pair_talk.specs.Keeping.{AreSound, PostIsQuiet, CarIsQuiet, IsAt}
use Rattle.pair_talk.specs.Lessening.{over_by, IsInTime}
use Rattle.pair_talk.specs.Parting.{IsOver, HasParted}
use Rattle.pair_talk.specs.Pipes.{PipeState, IsGoing, IsWaiting, IsReadyBy, KeepsBy, StandsFor, IsMade, OneTurn, TurnsBy, Turns, HasLeft, begun}
use Rattle.pair_talk.specs.Sides.{Sides}
use Rattle.pair_talk.specs.Turning.{HasTurned}
use Rattle.pair_talk.proofs.Happened.{rest_by, over_same}
use Rattle.pair_talk.proofs.Sessions.{awaits_first}
use Rattle.pair_talk.proofs.Steps.{no_deed, still_heard}

-- ---- whether the car has come

pub waiting_by : (Reads : Dialect → List ℕ → Option Word → Type 0) (b : Bool) (s : Sides) → b ≡ false → IsReadyBy Reads b s → IsWaiting Reads s
waiting_by Reads false s e k = k
waiting_by Reads true s e k = absurd (let f : true ≡ false = e in cc)

pub going_by : (Reads : Dialect → List ℕ → Option Word → Type 0) (b : Bool) (s : Sides) → b ≡ true → IsReadyBy Reads b s → IsGoing Reads s
going_by Reads true s e k = k
going_by Reads false s e k = absurd (let f : false ≡ true = e in cc)

pub awaits_by : (c : Codecs) (cs : car.Codecs) (st : Station) (plan : CarPlan) (h : List Happening) (b : Bool) (s : Sides) → b ≡ false → KeepsBy b c cs st plan h s → Awaits c cs st plan h s
awaits_by c cs st plan h false s e k = k
awaits_by c cs st plan h true s e k = absurd (let f : true ≡ false = e in cc)

pub at_by : (c : Codecs) (cs : car.Codecs) (st : Station) (plan : CarPlan) (h : List Happening) (b : Bool) (s : Sides) → b ≡ true → KeepsBy b c cs st plan h s → IsAt c cs st plan h s
at_by c cs st plan h true s e k = k
at_by c cs st plan h false s e k = absurd (let f : false ≡ true = e in cc)

-- ---- a car comes

pub begins_first : (c : Codecs) (cs : car.Codecs) (st : Station) (plan : CarPlan) (h : List Happening) (b : Bool) (s : Sides) → b ≡ false → HaveDone c cs st plan (CarComes plan ∷ h) s → HaveDone c cs st plan (begun b plan h) s
begins_first c cs st plan h false s e k = k
begins_first c cs st plan h true s e k = absurd (let f : true ≡ false = e in cc)

pub begun_before : (c : Codecs) (cs : car.Codecs) (st : Station) (plan : CarPlan) (h : List Happening) (b : Bool) (s : Sides) → b ≡ true → KeepsBy b c cs st plan h s → HaveDone c cs st plan (begun b plan h) s
begun_before c cs st plan h true s e k = no_deed c cs st plan h s k
begun_before c cs st plan h false s e k = absurd (let f : false ≡ true = e in cc)

-- ---- a turn

pub stands_there : (c : Codecs) (cs : car.Codecs) (st : Station) (plan : CarPlan) (h : List Happening) (s : Sides) (heard : Option Hearing) → IsGoing c.Reads s → IsAt c cs st plan h s → heard ≡ station_heard h
    → StandsFor c cs st plan h (record { sides = s; has_come = true; heard = heard })
stands_there c cs st plan h s heard g k e = record {
  keeps = k;
  rest = rest_by c cs st plan h s k g.post g.car;
  heard_is = e;
  over_is = λ x. over_same c cs st plan h s c.Reads g.sound k;
}

-- whether the session is over
over_by_turns : (c : Codecs) (cs : car.Codecs) (st : Station) (plan : CarPlan) (h : List Happening) (s : Sides) (b : Bool) → over_by s ≡ b → AreSound c.Reads s → IsAt c cs st plan h s → is_over st h ≡ b
over_by_turns c cs st plan h s b e sound k = sym (over_same c cs st plan h s c.Reads sound k) ∙ e

one_turn : (c : Codecs) (cs : car.Codecs) (st : Station) (plan : CarPlan) (h : List Happening) (b : Bool) (k : PipeState) → b ≡ false → OneTurn c cs st plan h k → TurnsBy b c cs st plan h k
one_turn c cs st plan h false k e o = o
one_turn c cs st plan h true k e o = absurd (let f : true ≡ false = e in cc)

no_turn : (c : Codecs) (cs : car.Codecs) (st : Station) (plan : CarPlan) (h : List Happening) (b : Bool) (k : PipeState) → b ≡ true → StandsFor c cs st plan h k → TurnsBy b c cs st plan h k
no_turn c cs st plan h true k e o = o
no_turn c cs st plan h false k e o = absurd (let f : false ≡ true = e in cc)

-- the clock stays early
pub turn_keeps : (Reads : Dialect → List ℕ → Option Word → Type 0) (s new : Sides) → s.moment ≤ 2 ^ 62 + 10 * s.post.tally.hearings → AreSound Reads new → PostIsQuiet new → CarIsQuiet new → IsInTime s new → IsGoing Reads new
turn_keeps Reads s new early sound p q time = record { sound = sound; post = p; car = q; early = omega (arith, early, time) }

pub turns_once : (c : Codecs) (cs : car.Codecs) (st : Station) (plan : CarPlan) (h : List Happening) (s new : Sides) (heard : Option Hearing) → over_by s ≡ false → AreSound c.Reads s → IsAt c cs st plan h s → IsGoing c.Reads new
    → HasTurned c cs st plan h heard new → TurnsBy (is_over st h) c cs st plan h (record { sides = new; has_come = true; heard = heard })
turns_once c cs st plan h s new heard e sound k g m =
    one_turn c cs st plan h (is_over st h) _ (over_by_turns c cs st plan h s false e sound k) (record {
      turn = m.turn;
      is = m.is;
      deeds = m.deeds;
      are = m.are;
      stands = stands_there c cs st plan (m.deeds ++ m.turn ∷ h) new heard g m.at m.heard_is;
    })

pub turns_none : (c : Codecs) (cs : car.Codecs) (st : Station) (plan : CarPlan) (h : List Happening) (s : Sides) (heard : Option Hearing) → over_by s ≡ true → IsGoing c.Reads s → IsAt c cs st plan h s → heard ≡ station_heard h
    → TurnsBy (is_over st h) c cs st plan h (record { sides = s; has_come = true; heard = heard })
turns_none c cs st plan h s heard e g k x = no_turn c cs st plan h (is_over st h) _ (over_by_turns c cs st plan h s true e g.sound k) (stands_there c cs st plan h s heard g k x)

-- both together
pub turns : (c : Codecs) (cs : car.Codecs) (st : Station) (plan : CarPlan) (h : List Happening) (mid : Sides) (before : Option Hearing) (k : PipeState) → before ≡ station_heard h → (d : HaveDone c cs st plan h mid)
    → ((g : List Happening) → IsAt c cs st plan g mid → before ≡ station_heard g → TurnsBy (is_over st g) c cs st plan g k) → Turns c cs st plan h k
turns c cs st plan h mid before k e d f = record {
  first = d.deeds;
  are = d.are;
  turns = f (d.deeds ++ h) d.at (e ∙ sym (still_heard d.deeds h d.are));
}

-- ---- the next car

pub left_by_part : (c : Codecs) (cs : car.Codecs) (st : Station) (plan : CarPlan) (h : List Happening) (s : Sides) → HasParted c cs st plan h s → HasLeft c cs st h s
left_by_part c cs st plan h s p =
    let at = p.at in
    record {
      gone = p.gone;
      between = p.between;
      free = record { run = at.run; short = at.short; may = inr p.may; rest = p.may.rest; post = at.post; moment_is = at.moment_is; number_is = at.number_is; turns_is = at.turns_is };
    }

pub left_before : (c : Codecs) (cs : car.Codecs) (st : Station) (plan : CarPlan) (h : List Happening) (s : Sides) → BothRest st h → Awaits c cs st plan h s → HasLeft c cs st h s
left_before c cs st plan h s rest k = record {
  gone = [];
  between = tt;
  free = record { run = k.run; short = k.short; may = k.may; rest = rest; post = k.post; moment_is = k.moment_is; number_is = k.number_is; turns_is = k.turns_is };
}

pub over_there : (c : Codecs) (cs : car.Codecs) (st : Station) (plan : CarPlan) (h : List Happening) (s : Sides) → IsGoing c.Reads s → over_by s ≡ true → IsAt c cs st plan h s → IsOver c cs st plan h s
over_there c cs st plan h s g e k = record { at = k; rest = rest_by c cs st plan h s k g.post g.car; over = over_by_turns c cs st plan h s true e g.sound k }

-- a pipe that was just made
new_rests : (st : Station) → BothRest st []
new_rests st = record { station_rests = record { none = refl; no_word = refl }; car_rests = tt }

pub made : (c : Codecs) (cs : car.Codecs) (site : SitePlan) (plan : CarPlan) (seed : ℕ) (s : Sides) (heard : Option Hearing) → IsNew site plan seed s → heard ≡ Some (hearing_at 0 (what.Came 1 1) [])
    → IsMade c cs site plan seed (record { sides = s; has_come = false; heard = heard })
made c cs site plan seed s heard n e =
    let st : Station = record { limit = site.limit; turns = site.turns; post = s.post.plan; seed = seed } in
    record {
      station = st;
      station_is = record { others = n.others; first = n.first; limit = refl; turns = refl; seed_is = refl };
      stands = record { keeps = awaits_first c cs site plan seed s n; rest = new_rests st; heard_is = e; over_is = λ x. absurd (let f : false ≡ true = x in cc) };
      waits = refl;
      moment_is = n.moment_is;
    }
