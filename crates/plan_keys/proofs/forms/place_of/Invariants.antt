use Rattle.std.proofs.Common.{◌≡◌, ◌+◌, drop, map, position, option_map}
use Rattle.std.specs.Str.{bytes_eq}
use Rattle.plan_keys.proofs.forms.place_of.Given as goal

abbrev pub invariant-loop-i : goal.invariant-loop-i
invariant-loop-i l = position (λ w. bytes_eq w l.text) (map (λ w. w.now) l.words) ≡ option_map (λ k. l.i + k) (position (λ w. bytes_eq w l.text) (map (λ w. w.now) (drop l.i l.words)))
