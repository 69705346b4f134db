-- Dialects that are an offer.
use Rattle.std.proofs.Common.{◌≡◌, ℕ, zero, suc, ◌<◌, ◌≤◌, List, [], ◌∷◌, length, Some, arith, refl}
use Rattle.std.specs.Prelude.{slice_index_or}
use Rattle.std.proofs.lemmas.List.Sums.{count_by-le-length}
use Rattle.charge_world.specs.declared.offer.Dialect.{Dialect}
use Rattle.charge_world.specs.declared.offer.Dialect.TheVariants.{Iso, Din}
use Rattle.session_words.specs.declared.mode.Mode.{Mode}
use Rattle.session_words.specs.EvseTexts.{begins_point, code_points}
use Rattle.session_words.specs.Modes.{CanSpeakDin}
use Rattle.session_words.specs.Plans.{IsOffer}
use Rattle.site_plan.specs.Keys.{two_of}

pub code_points_fit : (s : List ℕ) → code_points s ≤ length s
code_points_fit s = count_by-le-length begins_point s

no_din : (k : ℕ) → k < 1 → slice_index_or (Iso ∷ []) k Din ≡ Din → ⊥
no_din zero one e = cc e
no_din (suc k) one e = omega (arith, one)

pub alone : (mode : Mode) (x : Dialect) → (x ≡ Din → CanSpeakDin mode) → IsOffer mode (x ∷ [])
alone mode Iso can = record { once = tt; din = λ h. absurd (no_din h.0 h.1 h.2) }
alone mode Din can = record { once = tt; din = λ h. can refl }

pub both : (mode : Mode) → CanSpeakDin mode → IsOffer mode (Iso ∷ Din ∷ [])
both mode can = record { once = tt; din = λ h. can }

pub pair : (mode : Mode) (x y : Dialect) → (x ≡ y → ⊥) → (x ≡ Din → CanSpeakDin mode) → (y ≡ Din → CanSpeakDin mode)
    → IsOffer mode (x ∷ y ∷ []) × (two_of x y ≡ Some (x ∷ y ∷ []))
pair mode Iso Iso other h k = absurd (other refl)
pair mode Iso Din other h k = (both mode (k refl), refl)
pair mode Din Iso other h k = (record { once = tt; din = λ d. h refl }, refl)
pair mode Din Din other h k = absurd (other refl)
