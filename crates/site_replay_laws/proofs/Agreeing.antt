-- A run and its replay agree as far as both go.
use Rattle.std.proofs.Common.{◌≡◌, ℕ, ◌<◌, ◌≤◌, Bool, true, false, List, [], ◌∷◌, ◌++◌, length, drop, refl, sym, ap, subst, ◌∙◌, append_assoc, inl, inr, arith}
use Rattle.std.specs.Prelude.{◌⊎◌, if◌then◌else◌, reverse}
use Rattle.std.proofs.lemmas.List.{reverse-append}
use Rattle.std.proofs.Math.Nat.{eq-or-lt_of_le}
use Rattle.charge_world.specs.declared.entry.Entry.{Entry}
use Rattle.session_words.specs.declared.plan.SitePlan.{SitePlan}
use Rattle.trace_text.specs.Pasts.{is_hearing}
use Rattle.post_spec.specs.Codecs.{Codecs}
use Rattle.post_spec.specs.Spelled.{AreDetermined}
use Rattle.station_spec.specs.Sharing.{Post}
use Rattle.station_spec.specs.Runs.{Follows, IsRun}
use Rattle.replay_wire.specs.Replays.{from_hearing, behind_call, left_behind, IsReplayOf}
use Rattle.replay_wire.specs.Replays.{Follows as Replays}
use Rattle.site_replay_laws.proofs.Steps.{step_once}

pub reverse_more : (e : Entry) (p rest : List Entry) → reverse (e ∷ p) ++ rest ≡ reverse p ++ e ∷ rest
reverse_more e p rest = ap (λ (l : List Entry). l ++ rest) (reverse-append (e ∷ []) p) ∙ append_assoc (reverse p) (e ∷ []) rest

-- behind a front of a trace the rest of it is left
one_less : (e : Entry) (b : Bool) (left rest : List Entry) → is_hearing e ≡ b → left ≡ e ∷ rest → (if is_hearing e then drop 1 (from_hearing left) else behind_call left) ≡ rest
one_less e true left rest is same = rw (same, is) refl
one_less e false left rest is same = rw (same, is) refl

pub left_is : (trace p rest : List Entry) → trace ≡ reverse p ++ rest → from_hearing trace ≡ trace → left_behind trace p ≡ rest
left_is trace [] rest is starts = starts ∙ is
left_is trace (e ∷ p) rest is starts =
    one_less e (is_hearing e) (left_behind trace p) rest refl (left_is trace p (e ∷ rest) (is ∙ reverse_more e p rest) starts)

pub agree : (c : Codecs) → AreDetermined c → (site : SitePlan) (trace rest p q : List Entry) (posts posts' : List Post) → IsRun c site p posts → IsRun c site q posts' → length p ≡ length q
    → trace ≡ reverse p ++ rest → from_hearing trace ≡ trace → IsReplayOf trace q → (p ≡ q) × (posts ≡ posts')
agree c one site trace rest [] [] posts posts' run run' len is starts replay = (refl, run ∙ sym run')
agree c one site trace rest [] (e' ∷ q) posts posts' run run' len is starts replay = absurd (omega arith)
agree c one site trace rest (e ∷ p) [] posts posts' run run' len is starts replay = absurd (omega arith)
agree c one site trace rest (e ∷ p) (e' ∷ q) posts posts' (before, run, f) (before', run', f') len is starts replay =
    let there : trace ≡ reverse p ++ e ∷ rest = is ∙ reverse_more e p rest in
    let s = agree c one site trace (e ∷ rest) p q before before' run run' (omega arith) there starts replay.1 in
    let left : left_behind trace q ≡ e ∷ rest = ap (left_behind trace) (sym s.0) ∙ left_is trace p (e ∷ rest) there starts in
    let r = subst (λ (l : List Entry). Replays trace l e') left replay.0 in
    let g = subst (λ (xs : List Entry). Follows c site xs before e' posts') (sym s.0) (subst (λ (ps : List Post). Follows c site q ps e' posts') (sym s.1) f') in
    let n = step_once c one site trace rest p before e e' posts posts' f g r in
    (ap (λ (x : Entry). x ∷ p) n.0 ∙ ap (λ (xs : List Entry). e' ∷ xs) s.0, n.1)

-- ---- fronts

pub replay_front : (trace later q : List Entry) → IsReplayOf trace (later ++ q) → IsReplayOf trace q
replay_front trace [] q r = r
replay_front trace (e ∷ later) q r = replay_front trace later q r.1

-- a run behind its first so many entries
pub record Goes (c : Codecs) (site : SitePlan) (q : List Entry) (n : ℕ) : Type 0 where
  pub later : List Entry
  pub e : Entry
  pub earlier : List Entry
  pub split : q ≡ later ++ e ∷ earlier
  pub count : length earlier ≡ n
  pub before : List Post
  pub behind : List Post
  pub run : IsRun c site earlier before
  pub follows : Follows c site earlier before e behind

cases_le : (n m : ℕ) → n ≤ m → (n ≡ m) ⊎ (n < m)
cases_le n m h = eq-or-lt_of_le h

pub goes : (c : Codecs) (site : SitePlan) (q : List Entry) (posts : List Post) (n : ℕ) → IsRun c site q posts → n < length q → Goes c site q n
goes c site [] posts n run more = absurd (omega arith)
goes c site (e ∷ q) posts n (before, run, f) more = elim (cases_le n (length q) (omega arith)) [
  | inl here ↦ record { later = []; e = e; earlier = q; split = refl; count = sym here; before = before; behind = posts; run = run; follows = f }
  | inr later ↦ (let g = goes c site q before n run later in
      record { later = e ∷ g.later; e = g.e; earlier = g.earlier; split = ap (λ (l : List Entry). e ∷ l) g.split; count = g.count; before = g.before; behind = g.behind; run = g.run; follows = g.follows })
]
