use Rattle.std.proofs.Common.{◌≡◌, ◌++◌, map, drop, string_bytes}
use Rattle.std.specs.List.{flat_map}
use Rattle.std.specs.Prelude.{codes}
use Rattle.plan_keys.proofs.fault.push_words.Given as goal

abbrev pub invariant-loop-word : goal.invariant-loop-word
invariant-loop-word l =
    string_bytes l.text ++ flat_map (λ w. codes ", " ++ w) (map (λ w. w.now) (drop l.word-index l.rest))
    ≡ string_bytes l.initial.text ++ flat_map (λ w. codes ", " ++ w) (map (λ w. w.now) l.rest)
