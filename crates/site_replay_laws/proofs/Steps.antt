-- One step of a run and the same step of its replay.
use Rattle.std.proofs.Common.{◌≡◌, ℕ, ◌+◌, Bool, true, false, List, [], ◌∷◌, ◌++◌, length, refl, sym, ap, subst, ◌∙◌, inl, inr, arith}
use Rattle.charge_world.specs.declared.entry.Entry.{Entry}
use Rattle.charge_world.specs.declared.entry.Entry.TheVariants as entry
use Rattle.session_words.specs.declared.plan.SitePlan.{SitePlan}
use Rattle.trace_text.specs.TraceText.{taken_of}
use Rattle.trace_text.specs.Pasts.{is_hearing}
use Rattle.post_spec.specs.Codecs.{Codecs}
use Rattle.post_spec.specs.Spelled.{AreDetermined}
use Rattle.post_spec.specs.Steps.{Act, Give, Send, Answer, End, Does}
use Rattle.station_spec.specs.States as states
use Rattle.station_spec.specs.Next.{IsDone}
use Rattle.station_spec.specs.Sharing.{Post}
use Rattle.station_spec.specs.Runs.{entry_of, with_step, AreQuiet, HeardBy, MayHear, MayAct, Follows}
use Rattle.determined_runs.specs.Determined.{outcome}
use Rattle.determined_runs.proofs.Once.{runs_are_determined}
use Rattle.replay_wire.specs.Replays.{from_hearing, hearing_of}
use Rattle.replay_wire.specs.Replays.{Follows as Replays}

-- ---- hearings and acts

heard_is : (past : List Entry) (posts : List Post) (e : Entry) (later : List Post) → HeardBy past posts e later → is_hearing e ≡ true
heard_is past posts (entry.Heard h bytes) later a = refl
heard_is past posts entry.Lost later a = refl
heard_is past posts (entry.Sent post bytes taken) later a = absurd a
heard_is past posts (entry.Answered post bytes taken) later a = absurd a
heard_is past posts (entry.Drove post order taken) later a = absurd a
heard_is past posts (entry.Dialed port taken) later a = absurd a
heard_is past posts (entry.Ended post cause) later a = absurd a

pub hearing_is : (turns : ℕ) (past : List Entry) (posts : List Post) (e : Entry) (later : List Post) → MayHear turns past posts e later → is_hearing e ≡ true
hearing_is turns past posts e later h = heard_is past posts e later h.heard

no_hearing : (k : ℕ) (a : Act) (t : Bool) → is_hearing (entry_of k a t) ≡ false
no_hearing k (Give o) t = refl
no_hearing k (Send bytes) t = refl
no_hearing k (Answer bytes) t = refl
no_hearing k (End cause) t = refl

act_is : (c : Codecs) (limit : ℕ) (posts : List Post) (e : Entry) (later : List Post) → MayAct c limit posts e later → is_hearing e ≡ false
act_is c limit posts e later m = ap is_hearing m.entry_is ∙ no_hearing (length m.before + 1) m.act m.taken

-- at rest nothing is done
pub quiet_acts : (c : Codecs) → AreDetermined c → (site : SitePlan) (posts : List Post) (e : Entry) (later : List Post) → AreQuiet posts → MayAct c site.limit posts e later → ⊥
quiet_acts c one site posts e later q m =
    let once = runs_are_determined c (record site { turns = 1 }) [] posts one in
    once.apart entry.Lost e posts later (record { whole = q; goes_on = refl; turns_left = omega arith; heard = refl }) m

-- ---- the end of a session can't fail

done_true : (c : Codecs) (todo : states.Todo) (a : Act) (t : Bool) → IsDone c todo a t → IsDone c todo a true
done_true c (states.Tell d) a t i = i
done_true c (states.Give o) a t i = i
done_true c (states.Say spoken) a t i = i
done_true c (states.Finish cause) a t i = (i.0, refl)

as_taken : (c : Codecs) (limit : ℕ) (posts : List Post) (e : Entry) (later : List Post) (m : MayAct c limit posts e later)
    → MayAct c limit posts (entry_of (length m.before + 1) m.act true) (m.before ++ with_step (Does m.reading m.act true) m.post ∷ m.behind)
as_taken c limit posts e later m = record {
  before = m.before;
  post = m.post;
  behind = m.behind;
  posts_are = m.posts_are;
  first = m.first;
  reading = m.reading;
  act = m.act;
  taken = true;
  acts = record { read = m.acts.read; todo = m.acts.todo; acts = m.acts.acts; done = done_true c m.acts.todo m.act m.taken m.acts.done };
  entry_is = refl;
  later_is = refl;
}

is_end : Entry → Bool
is_end (entry.Heard h bytes) = false
is_end entry.Lost = false
is_end (entry.Sent post bytes taken) = false
is_end (entry.Answered post bytes taken) = false
is_end (entry.Drove post order taken) = false
is_end (entry.Dialed port taken) = false
is_end (entry.Ended post cause) = true

end_taken : (k : ℕ) (a : Act) (t : Bool) → is_end (entry_of k a t) ≡ is_end (entry_of k a true)
unfolding is_end
end_taken k (Give o) t = refl
end_taken k (Send bytes) t = refl
end_taken k (Answer bytes) t = refl
end_taken k (End cause) t = refl

outcome_true : (k : ℕ) (a : Act) → outcome (entry_of k a true) ≡ true
outcome_true k (Give o) = refl
outcome_true k (Send bytes) = refl
outcome_true k (Answer bytes) = refl
outcome_true k (End cause) = refl

end_outcome : (e : Entry) → is_end e ≡ true → outcome e ≡ true
unfolding is_end
end_outcome (entry.Heard h bytes) is = refl
end_outcome entry.Lost is = refl
end_outcome (entry.Sent post bytes taken) is = absurd (cc)
end_outcome (entry.Answered post bytes taken) is = absurd (cc)
end_outcome (entry.Drove post order taken) is = absurd (cc)
end_outcome (entry.Dialed port taken) is = absurd (cc)
end_outcome (entry.Ended post cause) is = refl

-- what ends a session in one act ends it in the other
both_end : (c : Codecs) → AreDetermined c → (site : SitePlan) (past : List Entry) (posts : List Post) (e e' : Entry) (later later' : List Post) → MayAct c site.limit posts e later → MayAct c site.limit posts e' later'
    → is_end e' ≡ true → outcome e ≡ true
both_end c one site past posts e e' later later' m n end =
    let once = runs_are_determined c site past posts one in
    let k = length m.before + 1 in
    let l = length n.before + 1 in
    let same = once.acts (entry_of k m.act true) (entry_of l n.act true) _ _ (as_taken c site.limit posts e later m) (as_taken c site.limit posts e' later' n) (outcome_true k m.act ∙ sym (outcome_true l n.act)) in
    let here : is_end e ≡ is_end e' =
    ap is_end m.entry_is ∙ end_taken k m.act m.taken ∙ ap is_end same.0 ∙ sym (end_taken l n.act n.taken) ∙ sym (ap is_end n.entry_is) in
    end_outcome e (here ∙ end)

outcome_taken : (e : Entry) → outcome e ≡ taken_of e
outcome_taken (entry.Heard h bytes) = refl
outcome_taken entry.Lost = refl
outcome_taken (entry.Sent post bytes taken) = refl
outcome_taken (entry.Answered post bytes taken) = refl
outcome_taken (entry.Drove post order taken) = refl
outcome_taken (entry.Dialed port taken) = refl
outcome_taken (entry.Ended post cause) = refl

-- ---- one step

heard_so : (trace left : List Entry) (e : Entry) → is_hearing e ≡ true → Replays trace left e → e ≡ hearing_of trace (from_hearing left)
heard_so trace left (entry.Heard h bytes) is r = r
heard_so trace left entry.Lost is r = r
heard_so trace left (entry.Sent post bytes taken) is r = absurd (cc)
heard_so trace left (entry.Answered post bytes taken) is r = absurd (cc)
heard_so trace left (entry.Drove post order taken) is r = absurd (cc)
heard_so trace left (entry.Dialed port taken) is r = absurd (cc)
heard_so trace left (entry.Ended post cause) is r = absurd (cc)

pub hearing_first : (e : Entry) (left : List Entry) → is_hearing e ≡ true → from_hearing (e ∷ left) ≡ e ∷ left
hearing_first e left is = rw is refl

done_so : (trace rest : List Entry) (e e' : Entry) → is_hearing e' ≡ false → Replays trace (e ∷ rest) e' → (is_end e' ≡ true → outcome e ≡ true) → outcome e ≡ outcome e'
unfolding is_end
done_so trace rest e (entry.Heard h bytes) is r ends = absurd (cc)
done_so trace rest e entry.Lost is r ends = absurd (cc)
done_so trace rest e (entry.Sent post bytes taken) is r ends = outcome_taken e ∙ sym r
done_so trace rest e (entry.Answered post bytes taken) is r ends = outcome_taken e ∙ sym r
done_so trace rest e (entry.Drove post order taken) is r ends = outcome_taken e ∙ sym r
done_so trace rest e (entry.Dialed port taken) is r ends = outcome_taken e ∙ sym r
done_so trace rest e (entry.Ended post cause) is r ends = ends refl

pub step_once : (c : Codecs) → AreDetermined c → (site : SitePlan) (trace rest past : List Entry) (posts : List Post) (e e' : Entry) (later later' : List Post)
    → Follows c site past posts e later → Follows c site past posts e' later' → Replays trace (e ∷ rest) e' → (e ≡ e') × (later ≡ later')
step_once c one site trace rest past posts e e' later later' (inl h) (inl k) r =
    let once = runs_are_determined c site past posts one in
    let here = hearing_first e rest (hearing_is site.turns past posts e later h) in
    let same : e' ≡ e = heard_so trace (e ∷ rest) e' (hearing_is site.turns past posts e' later' k) r ∙ ap (hearing_of trace) here in
    (sym same, once.hears e later later' h (subst (λ (x : Entry). MayHear site.turns past posts x later') same k))
step_once c one site trace rest past posts e e' later later' (inl h) (inr m) r =
    let once = runs_are_determined c site past posts one in absurd (once.apart e e' later later' h m)
step_once c one site trace rest past posts e e' later later' (inr m) (inl h) r =
    let once = runs_are_determined c site past posts one in absurd (once.apart e' e later' later h m)
step_once c one site trace rest past posts e e' later later' (inr m) (inr n) r =
    let once = runs_are_determined c site past posts one in
    once.acts e e' later later' m n (done_so trace rest e e' (act_is c site.limit posts e' later' n) r (both_end c one site past posts e e' later later' m n))
