-- One turn: something was heard, or nothing any more.
use Rattle.std.proofs.Common.{◌≡◌, ◌<◌, ℕ, ◌+◌, Bool, true, false, List, [], ◌∷◌, ◌++◌, max, Option, Some, None, Result, Ok, Err, refl, sym, ap, subst, ◌∙◌}
use Rattle.std.specs.Prelude.{IsSome, IsErr}
use Rattle.charge_world.specs.declared.entry.Entry.{Entry}
use Rattle.charge_world.specs.declared.entry.Entry.TheVariants as entry
use Rattle.charge_world.specs.declared.heard.Heard.{Heard}
use Rattle.charge_world.specs.declared.heard.What.{What}
use Rattle.charge_world.specs.declared.heard.What.TheVariants as what
use Rattle.charge_world.specs.Outside.{GrowsByOne}
use Rattle.station_spec.specs.Blocks.{is_over}
use Rattle.endpoint.specs.declared.hearing.SoFar.{SoFar}
use Rattle.endpoint.specs.Knowing.{newest, Known, IsKnown, known_first, known_behind, known_lost, nothing_heard}
use Rattle.endpoint.specs.Telling.{Carries}
use Rattle.end_turns.specs.declared.ending.Ended.TheVariants as ended
use Rattle.end_turns.specs.declared.ending.Last.{Last}
use Rattle.end_turns.specs.Lasts.{turns_if, last_by, ended_so}
use Rattle.end_turns.specs.Turns.{Hears, Waits, Stops, Turned}

-- behind a hearing
pub record HeardSo (Runs : Known → List Entry → Type 0) (so_far : SoFar) (h : Heard) (bytes waited before : List ℕ) (past : List Entry) : Type 0 where
  pub known : Known
  pub run : Runs known past
  pub clock_is : known.clock ≡ so_far.moment
  pub heard_is : known.heard ≡ so_far.hearing
  pub newest_is : known.newest_hearing ≡ Some (entry.Heard h bytes)
  pub last_is : known.last ≡ is_over h.what
  pub waited_are : waited ≡ known.untils ++ before

one_until : (waited later untils before : List ℕ) (wait : ℕ) → later ≡ wait ∷ waited → waited ≡ untils ++ before → later ≡ (wait ∷ untils) ++ before
one_until waited later untils before wait more are = more ∙ ap (λ (t : List ℕ). wait ∷ t) are

pub turn_heard : (a m b : Option (List Entry)) (Runs Later : Known → List Entry → Type 0) (turns : ℕ) (so_far later : SoFar) (h : Heard) (bytes waited waited_later before : List ℕ) (wait : ℕ)
    → GrowsByOne a m (entry.Heard h bytes)
    → ((k : Known) → k.last ≡ false → k.heard < turns → max k.clock h.at ≡ later.moment → Carries m b (Hears (Runs k) h bytes) (Later (known_behind k h bytes wait)))
    → (IsSome b → waited_later ≡ wait ∷ waited) → later.moment ≡ max so_far.moment h.at → later.hearing ≡ so_far.hearing + 1 → so_far.hearing < turns
    → Carries a b (Waits Runs so_far waited before) (HeardSo Later later h bytes waited_later before)
turn_heard a m None Runs Later turns so_far later h bytes waited waited_later before wait grows behind waits moment_is hearing_is left = tt
turn_heard a None (Some past) Runs Later turns so_far later h bytes waited waited_later before wait grows behind waits moment_is hearing_is left =
    absurd (behind (record { newest_hearing = None; clock = so_far.moment; heard = so_far.hearing; last = false; untils = [] }) refl left (sym moment_is))
turn_heard None (Some mid) (Some past) Runs Later turns so_far later h bytes waited waited_later before wait grows behind waits moment_is hearing_is left = absurd grows
turn_heard (Some old) (Some mid) (Some past) Runs Later turns so_far later h bytes waited waited_later before wait grows behind waits moment_is hearing_is left = λ w.
    let clock : max w.known.clock h.at ≡ later.moment = ap (λ (m : ℕ). max m h.at) w.clock_is ∙ sym moment_is in
    record {
      known = known_behind w.known h bytes wait;
      run = behind w.known w.goes_on (subst (λ (n : ℕ). n < turns) (sym w.heard_is) left) clock (record { earlier = old; past_is = grows; run = w.run });
      clock_is = clock;
      heard_is = ap (λ (n : ℕ). n + 1) w.heard_is ∙ sym hearing_is;
      newest_is = refl;
      last_is = refl;
      waited_are = one_until waited waited_later w.known.untils before wait (waits refl) w.waited_are;
    }

-- so the turns go on, or the end is over
go_on : (E : Type 0) (Runs : Known → List Entry → Type 0) (turns : ℕ) (so_far : SoFar) (h : Heard) (bytes waited before : List ℕ) (past : List Entry) (over : Bool) → is_over h.what ≡ false → ((k : Known) → Runs k past → IsKnown k past)
    → HeardSo Runs so_far h bytes waited before past → Turned {E = E} Runs turns over (Ok (turns_if over)) so_far waited before past
go_on E Runs turns so_far h bytes waited before past true goes law r = record {
  known = r.known;
  run = r.run;
  waited_are = r.waited_are;
  ended = (λ e. cc, (law r.known r.run).last_is ∙ r.last_is ∙ goes);
}
go_on E Runs turns so_far h bytes waited before past false goes law r = record {
  known = r.known;
  run = r.run;
  clock_is = r.clock_is;
  heard_is = r.heard_is;
  goes_on = r.last_is ∙ goes;
  waited_are = r.waited_are;
}

turned_by : (E : Type 0) (Runs : Known → List Entry → Type 0) (turns : ℕ) (so_far : SoFar) (h : Heard) (bytes waited before : List ℕ) (past : List Entry) (over : Bool) (w : What) → h.what ≡ w → ((k : Known) → Runs k past → IsKnown k past)
    → HeardSo Runs so_far h bytes waited before past → Turned {E = E} Runs turns over (Ok (last_by w over)) so_far waited before past
turned_by E Runs turns so_far h bytes waited before past over (what.Came post token) e law r = go_on E Runs turns so_far h bytes waited before past over (ap is_over e) law r
turned_by E Runs turns so_far h bytes waited before past over (what.Bytes post n) e law r = go_on E Runs turns so_far h bytes waited before past over (ap is_over e) law r
turned_by E Runs turns so_far h bytes waited before past over (what.Gone post) e law r = go_on E Runs turns so_far h bytes waited before past over (ap is_over e) law r
turned_by E Runs turns so_far h bytes waited before past over (what.Datagram post n) e law r = go_on E Runs turns so_far h bytes waited before past over (ap is_over e) law r
turned_by E Runs turns so_far h bytes waited before past over (what.Plant post event) e law r = go_on E Runs turns so_far h bytes waited before past over (ap is_over e) law r
turned_by E Runs turns so_far h bytes waited before past over what.Tick e law r = go_on E Runs turns so_far h bytes waited before past over (ap is_over e) law r
turned_by E Runs turns so_far h bytes waited before past over what.Over e law r = record {
  known = r.known;
  run = r.run;
  waited_are = r.waited_are;
  ended = (h, bytes, (law r.known r.run).newest_is ∙ r.newest_is, ap is_over e);
}

pub turned : (E : Type 0) (Runs : Known → List Entry → Type 0) (turns : ℕ) (so_far : SoFar) (h : Heard) (bytes waited before : List ℕ) (past : List Entry) (over : Bool) (last : Option Last) → last ≡ last_by h.what over
    → ((k : Known) → Runs k past → IsKnown k past) → HeardSo Runs so_far h bytes waited before past → Turned {E = E} Runs turns over (Ok last) so_far waited before past
turned E Runs turns so_far h bytes waited before past over last e law r =
    subst (λ (l : Option Last). Turned {E = E} Runs turns over (Ok l) so_far waited before past) (sym e) (turned_by E Runs turns so_far h bytes waited before past over h.what refl law r)

pub cut_turn : (Runs : Known → List Entry → Type 0) (turns : ℕ) (over : Bool) (so_far : SoFar) (h : Heard) (bytes waited before : List ℕ) (past : List Entry) → HeardSo Runs so_far h bytes waited before past
    → Stops Runs turns over ended.TraceFault waited before past
cut_turn Runs turns over so_far h bytes waited before past r = record { known = r.known; run = r.run; waited_are = r.waited_are; ended = tt }

pub turned_cut : (E : Type 0) (Runs : Known → List Entry → Type 0) (turns : ℕ) (over : Bool) (r : Result (Option Last) E) (so_far : SoFar) (waited before : List ℕ) (past : List Entry) → IsErr r
    → Stops Runs turns over ended.TraceFault waited before past → Turned {E = E} Runs turns over r so_far waited before past
turned_cut E Runs turns over (Ok turn) so_far waited before past is h = cc
turned_cut E Runs turns over (Err fault) so_far waited before past is h = h

pub stopped_cut : (E : Type 0) (Runs : Known → List Entry → Type 0) (turns : ℕ) (over : Bool) (r : Result Last E) (waited before : List ℕ) (past : List Entry) → IsErr r
    → Stops Runs turns over ended.TraceFault waited before past → Stops Runs turns over (ended_so r) waited before past
stopped_cut E Runs turns over (Ok why) waited before past is h = cc
stopped_cut E Runs turns over (Err fault) waited before past is h = h

-- an end that makes a further turn isn't over
pub goes_on_if : (w : What) (over : Bool) → None ≡ last_by w over → over ≡ false
goes_on_if w false e = refl
goes_on_if (what.Came post token) true e = cc
goes_on_if (what.Bytes post n) true e = cc
goes_on_if (what.Gone post) true e = cc
goes_on_if (what.Datagram post n) true e = cc
goes_on_if (what.Plant post event) true e = cc
goes_on_if what.Tick true e = cc
goes_on_if what.Over true e = cc

-- nothing was heard
pub turn_lost : (a b : Option (List Entry)) (Runs Later : Known → List Entry → Type 0) (turns : ℕ) (over : Bool) (so_far : SoFar) (waited waited_later before : List ℕ) (wait : ℕ) → GrowsByOne a b entry.Lost → (IsSome b → waited_later ≡ wait ∷ waited)
    → so_far.hearing < turns → ((k : Known) (past : List Entry) → k.last ≡ false → k.heard < turns → Runs k past → Later (known_lost k wait) (entry.Lost ∷ past))
    → Carries a b (Waits Runs so_far waited before) (Stops Later turns over ended.Lost waited_later before)
turn_lost a None Runs Later turns over so_far waited waited_later before wait grows waits left law = tt
turn_lost None (Some past) Runs Later turns over so_far waited waited_later before wait grows waits left law = absurd grows
turn_lost (Some old) (Some past) Runs Later turns over so_far waited waited_later before wait grows waits left law = λ w. record {
  known = known_lost w.known wait;
  run = subst (Later (known_lost w.known wait)) (sym grows) (law w.known old w.goes_on (subst (λ (n : ℕ). n < turns) (sym w.heard_is) left) w.run);
  waited_are = one_until waited waited_later w.known.untils before wait (waits refl) w.waited_are;
  ended = ap newest grows;
}

pub lost_cut : (Runs : Known → List Entry → Type 0) (turns : ℕ) (over : Bool) (waited before : List ℕ) (past : List Entry) → Stops Runs turns over ended.Lost waited before past → Stops Runs turns over ended.TraceFault waited before past
lost_cut Runs turns over waited before past h = record { known = h.known; run = h.run; waited_are = h.waited_are; ended = tt }

-- the last turn was made
pub stop_turns : (Runs : Known → List Entry → Type 0) (turns : ℕ) (over : Bool) (so_far : SoFar) (waited before : List ℕ) (past : List Entry) → so_far.hearing ≡ turns → ((k : Known) → Runs k past → IsKnown k past)
    → Waits Runs so_far waited before past → Stops Runs turns over ended.Turns waited before past
stop_turns Runs turns over so_far waited before past all law w = record {
  known = w.known;
  run = w.run;
  waited_are = w.waited_are;
  ended = (λ e. (law w.known w.run).heard_is ∙ w.heard_is ∙ all, (law w.known w.run).last_is ∙ w.goes_on);
}

-- before anything was heard, the first hearing may come
pub waits_first : (Runs : Known → List Entry → Type 0) (so_far : SoFar) (waited : List ℕ) (past : List Entry) → so_far ≡ nothing_heard → Runs known_first past → Waits Runs so_far waited waited past
waits_first Runs so_far waited past none run = record {
  known = known_first;
  run = run;
  clock_is = ap (λ (x : SoFar). x.moment) (sym none);
  heard_is = ap (λ (x : SoFar). x.hearing) (sym none);
  goes_on = refl;
  waited_are = refl;
}
