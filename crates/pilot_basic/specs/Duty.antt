-- IEC 61851-1, annex A: the current that the duty of the control pilot offers. Duties are tenths of a percent, currents
-- tenths of an ampere.
use Rattle.std.specs.Prelude.{ℕ, ◌-◌, ◌*◌, ◌/◌, ◌<◌, ◌≤◌, ◌&&◌, nat_le, if◌then◌else◌}
use Rattle.pilot_basic.specs.declared.duty.Offered.{Offered}
use Rattle.pilot_basic.specs.declared.duty.Offered.TheVariants.{Amps, Digital, Nothing}

-- what a duty offers; that digital communication is asked for from 3 to 7 percent is the project's own range
abbrev pub offered : ℕ → Offered
offered d =
    if nat_le 30 d && nat_le d 70 then Digital
    else (if nat_le 80 d && nat_le d 99 then Amps 60
    else (if nat_le 100 d && nat_le d 850 then Amps (6 * d / 10)
    else (if nat_le 851 d && nat_le d 960 then Amps (5 * (d - 640) / 2)
    else (if nat_le 961 d && nat_le d 970 then Amps 800 else Nothing))))

-- a duty from 10 to 96 percent that offers at most this current, unrounded
pub record IsAllowed (amps d : ℕ) : Type 0 where
  pub least : 100 ≤ d
  pub most : d ≤ 960
  pub low : d ≤ 850 → 6 * d ≤ 10 * amps
  pub high : 850 < d → 5 * (d - 640) ≤ 2 * amps

-- the duty for a current: the greatest of these
pub record IsDuty (amps d : ℕ) : Type 0 where
  pub allowed : IsAllowed amps d
  pub greatest : (other : ℕ) → IsAllowed amps other → other ≤ d

-- a current is offered, and no more than this one
abbrev pub OffersUpTo : ℕ → Offered → Type 0
OffersUpTo amps (Amps current) = current ≤ amps
OffersUpTo amps Digital = ⊥
OffersUpTo amps Nothing = ⊥
