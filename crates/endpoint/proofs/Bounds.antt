-- Counts and numbers that stay small.
use Rattle.std.proofs.Common.{◌≡◌, ◌<◌, ◌≤◌, ℕ, ◌+◌, ◌-◌, ◌^◌, arith}
use Rattle.charge_world.specs.declared.heard.What.{What}
use Rattle.charge_world.specs.declared.heard.What.TheVariants as what
use Rattle.charge_world.specs.Outside.{IsOfPosts}
use Rattle.endpoint.specs.Knowing.{one_more}

-- one hearing more is counted
pub counted : (n m : ℕ) → n < 2 ^ 64 - 1 → m ≡ one_more n → m ≡ n + 1
counted n m few e = omega (arith, few, e)

-- a post of few is one of eight
pub of_eight : (n : ℕ) (w : What) → n ≤ 8 → IsOfPosts n w → IsOfPosts 8 w
of_eight n (what.Came post token) few of = (of.0, omega (arith, few, of.1))
of_eight n (what.Bytes post count) few of = (of.0, omega (arith, few, of.1))
of_eight n (what.Gone post) few of = (of.0, omega (arith, few, of.1))
of_eight n (what.Datagram post count) few of = (of.0, omega (arith, few, of.1))
of_eight n (what.Plant post event) few of = (of.0, omega (arith, few, of.1))
of_eight n what.Tick few of = tt
of_eight n what.Over few of = tt
