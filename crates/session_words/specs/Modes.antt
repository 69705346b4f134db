-- ISO 15118-2:2014, EnergyTransferModeType; DIN SPEC 70121:2014, EVSESupportedEnergyTransferType.
use Rattle.std.specs.Prelude.{ℕ, Bool, true, false, IsTrue}
use Rattle.session_words.specs.declared.mode.Mode.{Mode}
use Rattle.session_words.specs.declared.mode.Mode.TheVariants.{AcSinglePhaseCore, AcThreePhaseCore, DcCore, DcExtended, DcComboCore, DcUnique}
use Rattle.session_words.specs.declared.mode.OfferedMode.{OfferedMode}
use Rattle.session_words.specs.declared.mode.OfferedMode.TheVariants as offered

-- alternating current
abbrev pub IsAc : Mode → Type 0
IsAc AcSinglePhaseCore = Unit {0}
IsAc AcThreePhaseCore = Unit {0}
IsAc DcCore = ⊥
IsAc DcExtended = ⊥
IsAc DcComboCore = ⊥
IsAc DcUnique = ⊥

-- the phases that carry current
abbrev pub phases_of : Mode → ℕ
phases_of AcThreePhaseCore = 3
phases_of AcSinglePhaseCore = 1
phases_of DcCore = 1
phases_of DcExtended = 1
phases_of DcComboCore = 1
phases_of DcUnique = 1

-- the modes that a post of DIN SPEC 70121 may have
abbrev pub speaks_din : Mode → Bool
speaks_din DcCore = true
speaks_din DcExtended = true
speaks_din DcComboCore = true
speaks_din AcSinglePhaseCore = false
speaks_din AcThreePhaseCore = false
speaks_din DcUnique = false

abbrev pub CanSpeakDin : Mode → Type 0
CanSpeakDin mode = IsTrue (speaks_din mode)

-- the mode of the same name
abbrev pub offered_of : Mode → OfferedMode
offered_of AcSinglePhaseCore = offered.AcSinglePhaseCore
offered_of AcThreePhaseCore = offered.AcThreePhaseCore
offered_of DcCore = offered.DcCore
offered_of DcExtended = offered.DcExtended
offered_of DcComboCore = offered.DcComboCore
offered_of DcUnique = offered.DcUnique
