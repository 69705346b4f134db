-- Which check of a station's own trace is left.
use Rattle.std.proofs.Common.{◌≡◌, ◌⊎◌, inl, inr, ℕ, List, refl, subst}
use Rattle.charge_world.specs.declared.entry.Entry.{Entry}
use Rattle.session_words.specs.declared.plan.SitePlan.{SitePlan}
use Rattle.station_spec.specs.Runs.{IsSiteRun}
use Rattle.told_pasts.specs.Faults.{Fails, FailsAt, Check1, Check2, Check3, Check4, Check5, Check6, Check7, Check8, Check9, Check10}
use Rattle.told_pasts.specs.Spelling.{ToldCodecs}
use Rattle.own_traces.proofs.Openings.{fourth_passes, eighth_passes}
use Rattle.own_traces.proofs.Words.{tenth_passes}
use Rattle.own_traces.specs.Owning.{TellsOwn}
use Rattle.own_traces.proofs.Replying.{second_passes, ninth_passes}
use Rattle.own_traces.proofs.Closing.{first_passes, fifth_passes}
use Rattle.own_traces.specs.Weighing.{WeighsRightly}
use Rattle.own_traces.proofs.Weights.{sixth_passes}
use Rattle.own_traces.specs.Leaving.{OnlyCoursesAreLeft, FewAreLeft}

few : (c : ToldCodecs) (site : SitePlan) (past : List Entry) (line : ℕ) (behind earlier : List Entry) (e : Entry) (check : ℕ) → TellsOwn c → IsSiteRun c.words site past
    → ((n : ℕ) → FailsAt c site earlier e behind n → Fails c site past line n) → FailsAt c site earlier e behind check → (check ≡ 3) ⊎ ((check ≡ 6) ⊎ (check ≡ 7))
few c site past line behind earlier e check own r fails (Check1 f) = absurd (first_passes c own site past line r (fails 1 (Check1 f)))
few c site past line behind earlier e check own r fails (Check2 f) = absurd (second_passes c own site past line r (fails 2 (Check2 f)))
few c site past line behind earlier e check own r fails (Check3 f) = inl refl
few c site past line behind earlier e check own r fails (Check4 f) = absurd (fourth_passes c site past line r (fails 4 (Check4 f)))
few c site past line behind earlier e check own r fails (Check5 f) = absurd (fifth_passes c own site past line r (fails 5 (Check5 f)))
few c site past line behind earlier e check own r fails (Check6 f) = inr (inl refl)
few c site past line behind earlier e check own r fails (Check7 f) = inr (inr refl)
few c site past line behind earlier e check own r fails (Check8 f) = absurd (eighth_passes c site past line r (fails 8 (Check8 f)))
few c site past line behind earlier e check own r fails (Check9 f) = absurd (ninth_passes c own site past line r (fails 9 (Check9 f)))
few c site past line behind earlier e check own r fails (Check10 f) = absurd (tenth_passes c site past line r (fails 10 (Check10 f)))

pub few_left : (c : ToldCodecs) → FewAreLeft c
few_left c site past line check own r f =
    few c site past line f.behind f.earlier f.e check own r
    (λ n fails. record { behind = f.behind; e = f.e; earlier = f.earlier; past_is = f.past_is; line_is = f.line_is; fails = fails }) f.fails

-- the sixth passes where the watts are right
with_weights : (c : ToldCodecs) (site : SitePlan) (past : List Entry) (line check : ℕ) → TellsOwn c → WeighsRightly c → IsSiteRun c.words site past → Fails c site past line check → (check ≡ 3) ⊎ ((check ≡ 6) ⊎ (check ≡ 7)) → (check ≡ 3) ⊎ (check ≡ 7)
with_weights c site past line check own weighs r f (inl three) = inl three
with_weights c site past line check own weighs r f (inr (inl six)) = absurd (sixth_passes c own weighs site past line r (subst (Fails c site past line) six f))
with_weights c site past line check own weighs r f (inr (inr seven)) = inr seven

pub only_courses_left : (c : ToldCodecs) → OnlyCoursesAreLeft c
only_courses_left c site past line check own weighs r f = with_weights c site past line check own weighs r f (few_left c site past line check own r f)
