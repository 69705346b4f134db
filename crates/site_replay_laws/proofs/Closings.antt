-- The orders by which a run and its replay close.
use Rattle.std.proofs.Common.{◌≡◌, ℕ, suc, Bool, true, false, List, [], ◌∷◌, ◌++◌, map, refl, sym, ap, subst, ◌∙◌, append_assoc, MatchBool}
use Rattle.std.specs.Prelude.{reverse}
use Rattle.std.proofs.lemmas.List.{reverse-append}
use Rattle.charge_world.specs.declared.entry.Entry.{Entry}
use Rattle.charge_world.specs.declared.entry.Entry.TheVariants as entry
use Rattle.charge_world.specs.declared.ports.Order.TheVariants as order
use Rattle.session_words.specs.declared.plan.PostPlan.{PostPlan}
use Rattle.station_spec.specs.Sharing.{Post, state_of}
use Rattle.station_spec.specs.Runs.{unheard, AreQuiet, Closes}
use Rattle.replay_wire.specs.Replays.{from_hearing, left_behind, outcome_of, IsReplayOf}
use Rattle.site_replay_laws.proofs.Agreeing.{left_is, replay_front, reverse_more}

abbrev closing : Bool → ℕ → List Post → List Entry → List Entry → Type 0
closing b k posts blocks past = MatchBool b ((taken : Bool) × Closes (suc k) posts (entry.Drove k order.Open taken ∷ blocks) past) (Closes (suc k) posts blocks past)

-- the orders stand on the blocks
front_by : (b : Bool) (k : ℕ) (posts : List Post) (blocks past : List Entry)
    → ((on : List Entry) → Closes (suc k) posts on past → (later : List Entry) × (past ≡ later ++ on)) → closing b k posts blocks past → (later : List Entry) × (past ≡ later ++ blocks)
front_by true k posts blocks past rest (taken, h) =
    let r = rest (entry.Drove k order.Open taken ∷ blocks) h in
    (r.0 ++ entry.Drove k order.Open taken ∷ [], r.1 ∙ sym (append_assoc r.0 (entry.Drove k order.Open taken ∷ []) blocks))
front_by false k posts blocks past rest h = rest blocks h

pub closes_front : (k : ℕ) (posts : List Post) (blocks past : List Entry) → Closes k posts blocks past → (later : List Entry) × (past ≡ later ++ blocks)
closes_front k [] blocks past h = ([], h)
closes_front k (post ∷ posts) blocks past h = front_by (state_of post).live k posts blocks past (λ on g. closes_front (suc k) posts on past g) h

-- the reverse of a past with these on top
pub reverse_split : (later p : List Entry) → reverse (later ++ p) ≡ reverse p ++ reverse later
reverse_split later p = reverse-append later p

-- the same order has the same outcome
mark : (k : ℕ) (t u : Bool) (blocks past again later more : List Entry) → past ≡ later ++ entry.Drove k order.Open t ∷ blocks → again ≡ more ++ entry.Drove k order.Open u ∷ blocks
    → from_hearing (reverse past) ≡ reverse past → IsReplayOf (reverse past) again → t ≡ u
mark k t u blocks past again later more past_is again_is starts replay =
    let trace_is : reverse past ≡ reverse blocks ++ entry.Drove k order.Open t ∷ reverse later =
    ap reverse past_is ∙ reverse_split later (entry.Drove k order.Open t ∷ blocks) ∙ reverse_more (entry.Drove k order.Open t) blocks (reverse later) in
    let left = left_is (reverse past) blocks (entry.Drove k order.Open t ∷ reverse later) trace_is starts in
    let here = replay_front (reverse past) more (entry.Drove k order.Open u ∷ blocks) (subst (IsReplayOf (reverse past)) again_is replay) in
    let same : u ≡ outcome_of (left_behind (reverse past) blocks) = here.0 in
    sym (same ∙ ap outcome_of left)

same_by : (b : Bool) (k : ℕ) (posts : List Post) (blocks past again : List Entry) → ((on : List Entry) → Closes (suc k) posts on past → Closes (suc k) posts on again → past ≡ again)
    → from_hearing (reverse past) ≡ reverse past → IsReplayOf (reverse past) again → closing b k posts blocks past → closing b k posts blocks again → past ≡ again
same_by true k posts blocks past again rest starts replay (t, h) (u, g) =
    let x = closes_front (suc k) posts (entry.Drove k order.Open t ∷ blocks) past h in
    let y = closes_front (suc k) posts (entry.Drove k order.Open u ∷ blocks) again g in
    let same = mark k t u blocks past again x.0 y.0 x.1 y.1 starts replay in
    rest (entry.Drove k order.Open t ∷ blocks) h (subst (λ (v : Bool). Closes (suc k) posts (entry.Drove k order.Open v ∷ blocks) again) (sym same) g)
same_by false k posts blocks past again rest starts replay h g = rest blocks h g

pub closes_same : (k : ℕ) (posts : List Post) (blocks past again : List Entry) → from_hearing (reverse past) ≡ reverse past → IsReplayOf (reverse past) again
    → Closes k posts blocks past → Closes k posts blocks again → past ≡ again
closes_same k [] blocks past again starts replay h g = h ∙ sym g
closes_same k (post ∷ posts) blocks past again starts replay h g =
    same_by (state_of post).live k posts blocks past again (λ on x y. closes_same (suc k) posts on past again starts replay x y) starts replay h g

-- ---- posts that heard nothing

pub fresh_quiet : (plans : List PostPlan) → AreQuiet (map unheard plans)
fresh_quiet [] = tt
fresh_quiet (plan ∷ plans) = (record { none = refl; no_word = refl }, fresh_quiet plans)

pub fresh_closes : (k : ℕ) (plans : List PostPlan) (past : List Entry) → Closes k (map unheard plans) [] past → past ≡ []
fresh_closes k [] past h = h
fresh_closes k (plan ∷ plans) past h = fresh_closes (suc k) plans past h
