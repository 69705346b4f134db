-- Own: the lines of an offer and of a charging profile. Seconds, watts and watt-hours.
use Rattle.std.specs.Prelude.{◌≡◌, ℕ, ◌/◌, List, ◌++◌, length, codes, decimal}
use Rattle.std.specs.List.{flat_map}
use Rattle.schedules.specs.declared.power.Step.{Step}
use Rattle.schedules.specs.declared.power.Profile.{Profile}
use Rattle.schedules.specs.Offers.{IsOffer}

abbrev pub step_line : Step → List ℕ
step_line s = decimal s.start ++ (codes " " ++ (decimal s.watts ++ codes "\n"))

abbrev pub step_lines : List Step → List ℕ
step_lines steps = flat_map step_line steps

-- the text of what is offered at a moment
abbrev pub IsOfferText : List Step → ℕ → List ℕ → Type 0
IsOfferText calendar moment text = (steps : List Step) × IsOffer calendar moment steps × (text ≡ step_lines steps)

-- a profile's watt-seconds as whole watt-hours
abbrev pub profile_line : Profile → List ℕ
profile_line p =
    codes "tuple " ++ (decimal p.tuple ++ (codes " entries " ++ (decimal (length p.steps.items)
    ++ (codes " energy " ++ (decimal (p.energy / 3600) ++ codes "\n")))))

abbrev pub profile_text : Profile → List ℕ
profile_text p = profile_line p ++ step_lines p.steps.items
