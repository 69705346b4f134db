-- Parts that are made of lists.
use Rattle.std.proofs.Common.{◌≡◌, ℕ, ◌≤◌, nat_le, ◌&&◌, true, List, length, map, All, arith, ap, ◌∙◌}
use Rattle.std.proofs.lemmas.Grind.{common_steps}
use Rattle.exi_schema.specs.Plain.{PlainKind, PlainParticle, up_to, at_least_one}
use Rattle.message_parts.specs.Contents.{Inside, each}
use Rattle.fitting_parts.specs.Fitting.{takes_copies, FitsElement, FitsPart}
use Rattle.written_parts.proofs.Items.{each_made, length_made}

between : (n most : ℕ) → 1 ≤ n → n ≤ most → (nat_le 1 n && (nat_le n most && nat_le n most)) ≡ true
between n most least few = grind (arith, common_steps)

accepted : (n most : ℕ) → 1 ≤ n → n ≤ most → (nat_le 1 n && (true && nat_le n most)) ≡ true
accepted n most least few = grind (arith, common_steps)

pub up_to_takes : (most name kind n : ℕ) → 1 ≤ n → n ≤ most → takes_copies (up_to most name kind) n ≡ true
up_to_takes most name kind n least few = between n most least few

pub at_least_one_takes : (profile name kind n : ℕ) → 1 ≤ n → n ≤ profile → takes_copies (at_least_one profile name kind) n ≡ true
at_least_one_takes profile name kind n least few = accepted n profile least few

module _ (kinds : List PlainKind) where
  -- one for each item of a list
  pub each_held : {X Y : Type 0} (particle : PlainParticle) (name : ℕ) (f : Y → Inside) (g : X → Y) (P : X → Type 0)
      → ((x : X) → P x → FitsElement kinds particle name (f (g x))) → (xs : List X) → All P xs
      → takes_copies particle (length xs) ≡ true → FitsPart kinds particle (each name (map f (map g xs)))
  each_held particle name f g P held xs all takes =
      (each_made P (FitsElement kinds particle name) f g held xs all, ap (takes_copies particle) (length_made f g xs) ∙ takes)
