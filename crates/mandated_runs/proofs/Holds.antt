-- Behind every block a closed contactor is mandated, or couldn't be opened.
use Rattle.std.proofs.Common.{◌≡◌, ℕ, ◌+◌, Bool, true, false, if◌then◌else◌, List, [], ◌∷◌, length, map, Option, Some, None, refl, sym, subst, ◌∙◌, inl, inr, MatchBool}
use Rattle.charge_world.specs.declared.ports.Order.TheVariants as order
use Rattle.session_words.specs.declared.phase.Phase.{Phase}
use Rattle.session_words.specs.declared.phase.Phase.TheVariants as row
use Rattle.session_words.specs.declared.plan.PostPlan.{PostPlan}
use Rattle.session_rules.specs.declared.stage.Stage.{Stage}
use Rattle.session_rules.specs.Causes.{needs_isolation}
use Rattle.session_rules.specs.Finishing.{is_ac}
use Rattle.session_rules.specs.Stages.{is_waiting}
use Rattle.post_spec.specs.Codecs.{Codecs}
use Rattle.post_spec.specs.Contactors.{live}
use Rattle.post_spec.specs.Mandated.{before_close, IsStarting}
use Rattle.post_spec.specs.Checked.{IsChecked}
use Rattle.post_spec.specs.Sessions.{session, waits}
use Rattle.post_spec.specs.Spelled.{ReadsBack}
use Rattle.post_spec.specs.Steps.{Give, Seen, Did, Step, Hears, Does, seen, seen_of}
use Rattle.station_spec.specs.States.{Session}
use Rattle.station_spec.specs.Acting.{state}
use Rattle.station_spec.specs.Next.{IsQuiet}
use Rattle.station_spec.specs.Runs.{AreQuiet}
use Rattle.station_laws.specs.PostRuns.{IsPostRun, ArePostsOf}
use Rattle.station_laws.proofs.PostRuns.{run_posts, post_at, quiet_at}
use Rattle.safe_runs.specs.Started.{MandatedByOwn}
use Rattle.safe_runs.proofs.Links.{Delivers, Pending, Waits, Link, Tie}
use Rattle.safe_runs.proofs.Openings.{runs_end_open}
use Rattle.safe_runs.proofs.Rows.{PowerOf, is_charging}
use Rattle.safe_runs.proofs.Safety.{quiet_clear, quiet_still, run_tied}
use Rattle.mandated_runs.specs.Holding.{IsHeldRightly, HoldsMandated, RunsHoldMandated, RunsEndMandated}
use Rattle.mandated_runs.proofs.Held.{is_delivering, delivering_charges, closed_live, quiet_held}

-- direct current alone is checked
checks : (C : Type 0) (here : Phase) (ac : Bool) → is_delivering here ≡ true → PowerOf here ac → MatchBool (needs_isolation here) C (Unit {0}) → MatchBool ac (Unit {0}) C
checks C row.DcClosing ac d p k = rw p k
checks C row.DcCharging ac d p k = rw p k
checks C row.AcClosing ac d p k = rw p tt
checks C row.AcCharging ac d p k = rw p tt
checks C here ac d p k = absurd (cc)

charged : (C : Type 0) (b : Bool) → b ≡ true → MatchBool b C (Unit {0}) → C
charged C true e m = m
charged C false e m = cc

judged_then : (w : Bool) (past : List Seen) → w ≡ true → before_close past ≡ (if w then before_close past else past)
judged_then true past e = refl
judged_then false past e = cc

-- the row says how far the session is
mandated_by : (c : Codecs) (plan : PostPlan) (past es : List Seen) (stage : Stage) (unread : List ℕ) (b : Bool) → session past ≡ Some es → is_delivering stage.row ≡ true → is_waiting stage.row ≡ b → (b ≡ true → waits es ≡ true)
    → (l : Link c plan past es stage unread None None (Unit {0})) → MatchBool b (Waits c plan past es l.xs l.taken stage None (Unit {0})) (Pending c plan past es l.xs l.taken stage None None (Unit {0})) → MandatedByOwn c plan past
mandated_by c plan past es stage unread true here d w u l t =
    let starting : IsStarting c past es l.xs l.xs (before_close past) = record {
      spoken = stage.dialect;
      payload = t.asks.payload;
      request = t.request;
      dialect_is = t.asks.dialect_is;
      next = t.asks.place;
      request_is = t.asks.reads;
      start = t.start;
      earlier_is = refl;
      judged_is = judged_then (waits es) past (u refl);
    } in
    record {
      mandated = record {
        es = es;
        session_is = here;
        xs = l.xs;
        talks = l.talks;
        ok = l.ok;
        earlier = l.xs;
        judged = before_close past;
        starts = inl starting;
        prepared = t.prepared;
        checked = checks (IsChecked past l.xs) stage.row (is_ac plan.mode) d t.rowed.power (t.checked tt);
        ready = t.ready (u refl);
      };
      own = inl starting;
    }
mandated_by c plan past es stage unread false here d w u l t =
    let r = t.1 in
    let k = charged (Delivers plan past (needs_isolation stage.row) l.xs (Unit {0})) (is_charging stage.row) (delivering_charges stage.row d w) r.delivers in
    record {
      mandated = record {
        es = es;
        session_is = here;
        xs = l.xs;
        talks = l.talks;
        ok = l.ok;
        earlier = k.earlier;
        judged = k.judged;
        starts = inr k.started;
        prepared = k.prepared;
        checked = checks (IsChecked past k.earlier) stage.row (is_ac plan.mode) d r.power (k.checked tt);
        ready = k.ready;
      };
      own = inr (record { started = k.started; closed = k.own });
    }

tie_of : (c : Codecs) (plan : PostPlan) (past : List Seen) (es : Option (List Seen)) (kept : Option Session) (ss : Session) → kept ≡ Some ss → Tie c plan past None es kept None None (Unit {0})
    → (zs : List Seen) × (es ≡ Some zs) × Link c plan past zs ss.stage ss.unread None None (Unit {0})
tie_of c plan past es None ss k t = cc
tie_of c plan past None (Some ts) ss k t = absurd t
tie_of c plan past (Some zs) (Some ts) ss k t = let x : ts ≡ ss = cc in (zs, refl, subst (λ (y : Session). Link c plan past zs y.stage y.unread None None (Unit {0})) x t)

-- a post at rest
rest_held : (c : Codecs) (plan : PostPlan) (steps : List Step) → ReadsBack c → IsPostRun c plan steps → IsQuiet plan (state plan steps) → IsHeldRightly c plan (map seen_of steps)
rest_held c plan steps back run q = λ h.
    let past = map seen_of steps in
    let s = state plan steps in
    let t = run_tied c plan steps back run in
    elim (quiet_held c plan steps back run q h) [
      | inl x ↦ inr x
      | inr d ↦
          let k = tie_of c plan past (session past) s.session d.0 d.1 (quiet_clear c plan past s t.linked q).tie in
          let u = quiet_still plan past s t.shut q k.0 d.0 k.1 d.1 in
          inl (mandated_by c plan past k.0 d.0.stage d.0.unread (is_waiting d.0.stage.row) k.1 d.2 refl u k.2 k.2.talk)
    ]

steps_hold : (c : Codecs) (plan : PostPlan) (steps : List Step) → ReadsBack c → IsPostRun c plan steps → HoldsMandated c plan (map seen_of steps)
steps_hold c plan [] back run = tt
steps_hold c plan (Hears at e ∷ steps) back run = (steps_hold c plan steps back run.0, rest_held c plan steps back run.0 run.1)
steps_hold c plan (Does r a taken ∷ steps) back run = steps_hold c plan steps back run.0

pub runs_hold : (c : Codecs) → RunsHoldMandated c
runs_hold c site past posts before post behind back run is =
    let all = subst (ArePostsOf c past 1) is (run_posts c site past posts run) in
    let k = post_at c past (length before + 1) 1 before post behind refl all in (
      subst (HoldsMandated c post.plan) (sym k.seen_is) (steps_hold c post.plan post.steps back k.run),
      λ q. subst (IsHeldRightly c post.plan) (sym k.seen_is) (rest_held c post.plan post.steps back k.run (quiet_at before post behind (subst AreQuiet is q))),
    )

-- the orders that close a run
opened_rightly : (c : Codecs) (plan : PostPlan) (blocks : List Seen) (taken : Bool) → IsHeldRightly c plan (Did (Give order.Open) taken ∷ blocks)
opened_rightly c plan blocks true = λ h. absurd (cc)
opened_rightly c plan blocks false = λ h. inr (record { since = []; earlier = blocks; past_is = refl; no_close = tt })

left_rightly : (c : Codecs) (plan : PostPlan) (blocks : List Seen) → live blocks ≡ false → IsHeldRightly c plan blocks
left_rightly c plan blocks n = λ h. absurd (let x : true ≡ false = sym (closed_live blocks h) ∙ n in cc)

ends_rightly : (c : Codecs) (plan : PostPlan) (past blocks : List Seen) (b : Bool) → live blocks ≡ b → MatchBool b ((taken : Bool) × (past ≡ Did (Give order.Open) taken ∷ blocks)) (past ≡ blocks) → HoldsMandated c plan blocks
    → HoldsMandated c plan past × IsHeldRightly c plan past
ends_rightly c plan past blocks true e m h = rw m.1 (h, opened_rightly c plan blocks m.0)
ends_rightly c plan past blocks false e m h = rw m (h, left_rightly c plan blocks e)

pub runs_end : (c : Codecs) → RunsEndMandated c
runs_end c site past blocks posts before post behind back run closes is =
    let n = length before + 1 in
    ends_rightly c post.plan (seen n past) (seen n blocks) (live (seen n blocks)) refl (runs_end_open c site past blocks posts before post behind run closes is) (runs_hold c site blocks posts before post behind back run is).0
