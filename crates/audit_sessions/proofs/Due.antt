-- Which deadline is reached.
use Rattle.std.proofs.Common.{◌≡◌, ℕ, ◌+◌, ◌<◌, ◌≤◌, Bool, true, false, List, Option, Some, None, refl, sym, ap, subst, ◌∙◌, arith}
use Rattle.std.specs.Prelude.{nat_le, nat_lt, ◌&&◌, if◌then◌else◌, SomeIff}
use Rattle.std.proofs.lemmas.Bool.{and_parts, le-leb, leb-true}
use Rattle.session_words.specs.declared.cause.Timeout.{Timeout}
use Rattle.session_words.specs.declared.cause.Timeout.TheVariants.{Setup, Sequence, Feedback}
use Rattle.session_timers.specs.Due.{never}
use Rattle.session_timers.specs.Law.{span_of}
use Rattle.session_rules.specs.Stages.{is_set_up}
use Rattle.post_spec.specs.Causes as post
use Rattle.post_spec.specs.Course.{Talked}
use Rattle.post_spec.specs.Facts.{now}
use Rattle.post_spec.specs.Sessions.{session, waits}
use Rattle.post_spec.specs.Steps.{Seen}
use Rattle.audit_sessions.specs.declared.values.Moments.{Moments}
use Rattle.audit_sessions.specs.declared.values.SessionValues.{SessionValues}
use Rattle.audit_sessions.specs.Due.{counts_from, due_of, reached_by, reached_in, IsReached}
use Rattle.audit_sessions.specs.Values.{AreMoments, IsSession, AreSeen}

differ : false ≡ true → ⊥
differ h = cc

counts_same : (at : ℕ) (es : List Seen) (m : Moments) (timeout : Timeout) → AreMoments at es m → counts_from timeout m ≡ post.counts_from timeout es
counts_same at es m Setup h = h.came_is
counts_same at es m Sequence h = h.replied_is
counts_same at es m Feedback h = h.closed_is

due_same : (at : ℕ) (es : List Seen) (m : Moments) (set_up : Bool) (talked : Talked) → AreMoments at es m → is_set_up talked.stage.row ≡ set_up → due_of set_up m ≡ post.due (Some talked) es
due_same at es m set_up talked h is =
    ap (λ (b : Bool). counts_from (post.running set_up b) m + span_of (post.running set_up b)) h.waits_is
    ∙ ap (λ (n : ℕ). n + span_of (post.running set_up (waits es))) (counts_same at es m (post.running set_up (waits es)) h)
    ∙ ap (λ (b : Bool). post.counts_from (post.running b (waits es)) es + span_of (post.running b (waits es))) (sym is)

-- a test of a due moment
lt_told : (n bound : ℕ) → nat_lt n bound ≡ true → n < bound
lt_told n bound is = grind (arith, is)

lt_back : (n bound : ℕ) → n < bound → nat_lt n bound ≡ true
lt_back n bound is = grind (arith, is)

some_if : (b : Bool) (t u : Timeout) (P : Type 0) → (b ≡ true → P) → (P → b ≡ true) → t ≡ u → SomeIff (if b then Some t else None) P u
some_if true t u P told back is = (told refl, is)
some_if false t u P told back is = λ p. differ (back p)

reached_moments : (m : Moments) (set_up : Bool) (past es : List Seen) (talked : Talked) → AreMoments (now past) es m → session past ≡ Some es → is_set_up talked.stage.row ≡ set_up
    → SomeIff (reached_by set_up (now past) m) (IsReached talked past es) (post.running set_up (waits es))
reached_moments m set_up past es talked h lives is =
    let same = due_same (now past) es m set_up talked h is in
    some_if (nat_le (due_of set_up m) (now past) && nat_lt (due_of set_up m) never) _ _ (IsReached talked past es)
    (λ yes. let parts = and_parts (nat_le (due_of set_up m) (now past)) (nat_lt (due_of set_up m) never) yes in
    record {
      session_is = lives;
      reached = subst (λ (n : ℕ). n ≤ now past) same (leb-true (due_of set_up m) (now past) parts.0);
      bound = subst (λ (n : ℕ). n < never) same (lt_told (due_of set_up m) never parts.1);
    })
    (λ r. rw (
      le-leb (due_of set_up m) (now past) (subst (λ (n : ℕ). n ≤ now past) (sym same) r.reached),
      lt_back (due_of set_up m) never (subst (λ (n : ℕ). n < never) (sym same) r.bound),
    ) refl)
    (rw h.waits_is refl)

reached_session : (o : Option Moments) (s : Option (List Seen)) (set_up : Bool) (past es : List Seen) (talked : Talked) → IsSession (now past) s o → s ≡ Some es → session past ≡ Some es
    → is_set_up talked.stage.row ≡ set_up → SomeIff (reached_in set_up (now past) o) (IsReached talked past es) (post.running set_up (waits es))
reached_session None None set_up past es talked h some lives is = cc
reached_session None (Some fs) set_up past es talked h some lives is = absurd h
reached_session (Some m) None set_up past es talked h some lives is = absurd h
reached_session (Some m) (Some fs) set_up past es talked h some lives is =
    let same : fs ≡ es = cc in
    reached_moments m set_up past es talked (subst (λ (t : List Seen). AreMoments (now past) t m) same h) lives is

pub reached_told : (v : SessionValues) (set_up : Bool) (past es : List Seen) (talked : Talked) → AreSeen past v → session past ≡ Some es → is_set_up talked.stage.row ≡ set_up
    → SomeIff (reached_in set_up v.moment v.session) (IsReached talked past es) (post.running set_up (waits es))
reached_told v set_up past es talked h lives is =
    subst (λ (n : ℕ). SomeIff (reached_in set_up n v.session) (IsReached talked past es) (post.running set_up (waits es))) (sym h.now_is)
    (reached_session v.session (session past) set_up past es talked h.session_is lives lives is)
