-- A check that fails is the one of its number.
use Rattle.std.proofs.Common.{◌≡◌, ℕ, List, arith}
use Rattle.charge_world.specs.declared.entry.Entry.{Entry}
use Rattle.session_words.specs.declared.plan.SitePlan.{SitePlan}
use Rattle.told_pasts.specs.Checks.{ClosesUnmandated, FailsLive, PassesCause, ForgetsOpen, StaysClosed, PassesLimit, SpellsOthers, EndsLive, AnswersNothing, LeavesWord}
use Rattle.told_pasts.specs.Faults.{FailsAt, Check1, Check2, Check3, Check4, Check5, Check6, Check7, Check8, Check9, Check10}
use Rattle.told_pasts.specs.Spelling.{ToldCodecs}

pub first : (c : ToldCodecs) (site : SitePlan) (earlier : List Entry) (e : Entry) (behind : List Entry) (n : ℕ) → n ≡ 1 → FailsAt c site earlier e behind n → ClosesUnmandated c site earlier e
first c site earlier e behind n is (Check1 f) = f
first c site earlier e behind n is other = absurd (omega (arith, is))

pub second : (c : ToldCodecs) (site : SitePlan) (earlier : List Entry) (e : Entry) (behind : List Entry) (n : ℕ) → n ≡ 2 → FailsAt c site earlier e behind n → FailsLive c site earlier e
second c site earlier e behind n is (Check2 f) = f
second c site earlier e behind n is other = absurd (omega (arith, is))

pub third : (c : ToldCodecs) (site : SitePlan) (earlier : List Entry) (e : Entry) (behind : List Entry) (n : ℕ) → n ≡ 3 → FailsAt c site earlier e behind n → PassesCause c site earlier e behind
third c site earlier e behind n is (Check3 f) = f
third c site earlier e behind n is other = absurd (omega (arith, is))

pub fourth : (c : ToldCodecs) (site : SitePlan) (earlier : List Entry) (e : Entry) (behind : List Entry) (n : ℕ) → n ≡ 4 → FailsAt c site earlier e behind n → ForgetsOpen earlier e behind
fourth c site earlier e behind n is (Check4 f) = f
fourth c site earlier e behind n is other = absurd (omega (arith, is))

pub fifth : (c : ToldCodecs) (site : SitePlan) (earlier : List Entry) (e : Entry) (behind : List Entry) (n : ℕ) → n ≡ 5 → FailsAt c site earlier e behind n → StaysClosed c site earlier e behind
fifth c site earlier e behind n is (Check5 f) = f
fifth c site earlier e behind n is other = absurd (omega (arith, is))

pub sixth : (c : ToldCodecs) (site : SitePlan) (earlier : List Entry) (e : Entry) (behind : List Entry) (n : ℕ) → n ≡ 6 → FailsAt c site earlier e behind n → PassesLimit c site earlier e
sixth c site earlier e behind n is (Check6 f) = f
sixth c site earlier e behind n is other = absurd (omega (arith, is))

pub seventh : (c : ToldCodecs) (site : SitePlan) (earlier : List Entry) (e : Entry) (behind : List Entry) (n : ℕ) → n ≡ 7 → FailsAt c site earlier e behind n → SpellsOthers c site earlier e
seventh c site earlier e behind n is (Check7 f) = f
seventh c site earlier e behind n is other = absurd (omega (arith, is))

pub eighth : (c : ToldCodecs) (site : SitePlan) (earlier : List Entry) (e : Entry) (behind : List Entry) (n : ℕ) → n ≡ 8 → FailsAt c site earlier e behind n → EndsLive earlier e behind
eighth c site earlier e behind n is (Check8 f) = f
eighth c site earlier e behind n is other = absurd (omega (arith, is))

pub ninth : (c : ToldCodecs) (site : SitePlan) (earlier : List Entry) (e : Entry) (behind : List Entry) (n : ℕ) → n ≡ 9 → FailsAt c site earlier e behind n → AnswersNothing c site earlier e
ninth c site earlier e behind n is (Check9 f) = f
ninth c site earlier e behind n is other = absurd (omega (arith, is))

pub tenth : (c : ToldCodecs) (site : SitePlan) (earlier : List Entry) (e : Entry) (behind : List Entry) (n : ℕ) → n ≡ 10 → FailsAt c site earlier e behind n → LeavesWord c site earlier e behind
tenth c site earlier e behind n is (Check10 f) = f
tenth c site earlier e behind n is other = absurd (omega (arith, is))
