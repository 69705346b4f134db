-- One watt is borne where one is asked for, so the level isn't 0.
use Rattle.std.proofs.Common.{◌≡◌, ℕ, ◌-◌, ◌<◌, ◌≤◌, min, [], ◌∷◌, refl, arith}
use Rattle.std.proofs.lemmas.Grind.{common_steps}
use Rattle.session_rules.specs.Asks.{ask_of}
use Rattle.session_rules.specs.Finishing.{is_ac}
use Rattle.power_share.specs.Sharing.{IsBearable, IsLevel}
use Rattle.car_rules.specs.Requests.{limits_of}
use Rattle.car_spec.specs.Spelled.{dropped_limits}
use Rattle.conforming_runs.specs.Requests.{AreParameters}
use Rattle.pair_words.proofs.Requests.{parameters, same_kind}
use Rattle.pair_readings.specs.Watts.{SomeWattsAreAsked, SomeWattsAreShown}

pub some_watts_are_asked : SomeWattsAreAsked
some_watts_are_asked post plan p =
    let a : AreParameters post plan.mode (dropped_limits (limits_of plan)) = parameters (is_ac post.mode) post plan p refl (same_kind post plan p.matched) in
    let some : 0 < ask_of post (dropped_limits (limits_of plan)) = a.some_watts in
    omega (arith, some)

least_of : (a b c : ℕ) → 1 ≤ a → 1 ≤ b → 1 ≤ c → 1 ≤ min (min a b) c
least_of a b c ha hb hc = grind (arith, common_steps)

pub some_watts_are_shown : SomeWattsAreShown
some_watts_are_shown limit asked shown some wants x =
    let level : IsLevel limit (asked ∷ []) x.level = x.is_level in
    let one : IsBearable limit (asked ∷ []) 1 = record { asked = grind (arith, common_steps); borne = grind (arith, common_steps) } in
    let reached : 1 ≤ x.level = level.greatest 1 one in
    let least : shown ≡ min (min asked x.level) (limit - 0) = x.least in
    let few : 1 ≤ min (min asked x.level) (limit - 0) = least_of asked x.level (limit - 0) wants reached (omega (arith, some)) in
    omega (arith, least, few)
