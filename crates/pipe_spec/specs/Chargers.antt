-- Own: the simulated charger at the station, read off a history.
use Rattle.std.specs.Prelude.{◌≡◌, Bool, List, [], ◌∷◌}
use Rattle.post_spec.specs.Steps.{Act, Give, Send, Answer, End}
use Rattle.plant_sim.specs.Charger.{Charger, idle, came, ordered, Comes}
use Rattle.pipe_spec.specs.Histories.{Happening, CarComes, ChargerTells, StationDoes, moment}

-- it takes the station's orders alone: those of a car are of the car's own contactor
abbrev pub behind_act : Act → List Happening → Charger → Charger
behind_act (Give order) h charger = ordered charger order (moment h)
behind_act (Send bytes) h charger = charger
behind_act (Answer bytes) h charger = charger
behind_act (End cause) h charger = charger

abbrev pub IsCharger : Bool → List Happening → Charger → Type 0
IsCharger free [] charger = charger ≡ idle free
IsCharger free (CarComes plan ∷ h) charger = (before : Charger) × IsCharger free h before × (charger ≡ came before (moment h))
IsCharger free (ChargerTells event ∷ h) charger = (before : Charger) × IsCharger free h before × Comes before (moment h) event charger
IsCharger free (StationDoes reading act ∷ h) charger = (before : Charger) × IsCharger free h before × (charger ≡ behind_act act h before)
IsCharger free (other ∷ h) charger = IsCharger free h charger
