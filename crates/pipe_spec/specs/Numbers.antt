-- Knuth, The Art of Computer Programming, 3.3.4: the linear congruential generator of MMIX. Its lower bits repeat soon, so the upper 31 are
-- drawn (own).
use Rattle.std.specs.Prelude.{ℕ, zero, suc, ◌+◌, ◌*◌, ◌/◌, ◌%◌, ◌^◌}

-- the number behind a number
abbrev pub next : ℕ → ℕ
next x = (x * 6364136223846793005 + 1442695040888963407) % 2 ^ 64

-- what is drawn below n behind this number
abbrev pub drawn : ℕ → ℕ → ℕ
drawn n x = next x / 2 ^ 33 % n

-- the number behind so many draws
abbrev pub behind : ℕ → ℕ → ℕ
behind seed zero = seed
behind seed (suc draws) = next (behind seed draws)
