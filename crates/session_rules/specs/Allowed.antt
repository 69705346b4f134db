-- Own: the watts that a session may take: those that it was told, and for 5,000 ms those that were allowed before told ones
-- were lowered.
use Rattle.std.specs.Prelude.{ℕ, ◌+◌, max, nat_lt, if◌then◌else◌, Option, Some, None}
use Rattle.session_rules.specs.declared.allowed.Lowered.{Lowered}

-- the watts that are still kept
abbrev pub kept_watts : Option Lowered → ℕ → ℕ
kept_watts None now = 0
kept_watts (Some lowered) now = if nat_lt now (lowered.at + 5000) then lowered.watts else 0

abbrev pub allowed_watts : ℕ → Option Lowered → ℕ → ℕ
allowed_watts told lowered now = max told (kept_watts lowered now)

-- what is kept once a reply tells watts in place of those told before
abbrev pub lowered_by : ℕ → Option Lowered → ℕ → ℕ → Option Lowered
lowered_by told lowered now shown =
    if nat_lt shown told then Some (record { watts = allowed_watts told lowered now; at = now }) else lowered
