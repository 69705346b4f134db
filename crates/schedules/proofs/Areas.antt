-- Power by time, where the second at which it changes moves.
use Rattle.std.proofs.Common.{◌≡◌, ℕ, ◌+◌, ◌-◌, ◌*◌, ◌≤◌, arith}
use Rattle.std.proofs.lemmas.Nat.{mul-le}

later_parts : (x y z s u : ℕ) → u ≤ s → s * x + u * (z + y) ≤ s * (x + z) + u * y
later_parts x y z s u h = omega (arith, mul-le u z s z h (omega arith))

earlier_parts : (x y z s u : ℕ) → s ≤ u → s * (x + z) + u * y ≤ s * x + u * (z + y)
earlier_parts x y z s u h = omega (arith, mul-le s z u z h (omega arith))

-- more power before the change: it moves from b to the later m
pub later : (a b m c s u : ℕ) → a ≤ b → b ≤ m → m ≤ c → u ≤ s → s * (b - a) + u * (c - b) ≤ s * (m - a) + u * (c - m)
later a b m c s u ab bm mc h =
    let e : m - a ≡ (b - a) + (m - b) = omega arith in
    let f : c - b ≡ (m - b) + (c - m) = omega arith in
    rw (e, f) (later_parts (b - a) (c - m) (m - b) s u h)

-- more power behind the change: it moves from b to the earlier m
pub earlier : (a b m c s u : ℕ) → a ≤ m → m ≤ b → b ≤ c → s ≤ u → s * (b - a) + u * (c - b) ≤ s * (m - a) + u * (c - m)
earlier a b m c s u am mb bc h =
    let e : b - a ≡ (m - a) + (b - m) = omega arith in
    let f : c - m ≡ (b - m) + (c - b) = omega arith in
    rw (e, f) (earlier_parts (m - a) (c - b) (b - m) s u h)

dropped_parts : (x z s u : ℕ) → u ≤ s → s * x + u * z ≤ s * (x + z)
dropped_parts x z s u h = omega (arith, mul-le u z s z h (omega arith))

-- the power before the change is kept up
pub kept_up : (a b c s u : ℕ) → a ≤ b → b ≤ c → u ≤ s → s * (b - a) + u * (c - b) ≤ s * (c - a)
kept_up a b c s u ab bc h =
    let e : c - a ≡ (b - a) + (c - b) = omega arith in
    rw e (dropped_parts (b - a) (c - b) s u h)

replaced_parts : (x z s u : ℕ) → s ≤ u → s * x + u * z ≤ u * (x + z)
replaced_parts x z s u h = omega (arith, mul-le s x u x h (omega arith))

-- the power behind the change is there from the start
pub begun_before : (a b c s u : ℕ) → a ≤ b → b ≤ c → s ≤ u → s * (b - a) + u * (c - b) ≤ u * (c - a)
begun_before a b c s u ab bc h =
    let e : c - a ≡ (b - a) + (c - b) = omega arith in
    rw e (replaced_parts (b - a) (c - b) s u h)
