-- The station's past shows its steps: its clock never goes back.
use Rattle.std.proofs.Common.{◌≡◌, ℕ, ◌+◌, ◌≤◌, max, true, List, [], ◌∷◌, refl, ap, ◌∙◌, arith}
use Rattle.charge_world.specs.declared.entry.Entry.{Entry}
use Rattle.post_spec.specs.Steps as post
use Rattle.post_spec.specs.Steps.{Act, Give, Send, Answer, End, Event, Seen, Heard}
use Rattle.station_spec.specs.Runs as station
use Rattle.pipe_spec.specs.Histories.{Happening, CarComes, ChargerTells, StationHears, CarHears, TimePasses, StationDoes, CarReads, CarDoes, CarGoes, NumberIsDrawn, moment}
use Rattle.pipe_spec.specs.Pasts.{station_entries}
use Rattle.pipe_laws.specs.Losing.{PastsShowSteps}

act_moment : (act : Act) (past : List Entry) → post.moment (station.entry_of 1 act true ∷ past) ≡ post.moment past
act_moment (Give order) past = refl
act_moment (Send bytes) past = refl
act_moment (Answer bytes) past = refl
act_moment (End cause) past = refl

pub greater : (a m n : ℕ) → a ≤ m → m ≤ n → max a n ≡ n
greater a m n p q = grind (arith, p, q)

-- the greatest moment of the past isn't above the clock
pub late : (h : List Happening) → post.moment (station_entries h) ≤ moment h
late [] = omega arith
late (CarComes plan ∷ h) = let p = late h in let e = greater (post.moment (station_entries h)) (moment h) (moment h) p (omega arith) in omega (arith, e)
late (ChargerTells event ∷ h) = let p = late h in let e = greater (post.moment (station_entries h)) (moment h) (moment h) p (omega arith) in omega (arith, e)
late (StationHears bytes ∷ h) = let p = late h in let e = greater (post.moment (station_entries h)) (moment h) (moment h) p (omega arith) in omega (arith, e)
late (TimePasses ∷ h) = let p = late h in let e = greater (post.moment (station_entries h)) (moment h) (moment h + 10) p (omega arith) in omega (arith, e)
late (CarGoes ∷ h) = let p = late h in let e = greater (post.moment (station_entries h)) (moment h) (moment h) p (omega arith) in omega (arith, e)
late (StationDoes reading act ∷ h) = let p = late h in let e = act_moment act (station_entries h) in omega (arith, p, e)
late (CarHears bytes ∷ h) = late h
late (CarReads judged ∷ h) = late h
late (CarDoes act ∷ h) = late h
late (NumberIsDrawn ∷ h) = late h

heard_so : (a m n : ℕ) (event : Event) (xs ys : List Seen) → a ≤ m → m ≤ n → xs ≡ ys → Heard (max a n) event ∷ xs ≡ Heard n event ∷ ys
heard_so a m n event xs ys p q e = ap (λ (k : ℕ). Heard k event ∷ xs) (greater a m n p q) ∙ ap (λ (zs : List Seen). Heard n event ∷ zs) e

act_seen : (act : Act) (past : List Entry) → post.seen 1 (station.entry_of 1 act true ∷ past) ≡ post.Did act true ∷ post.seen 1 past
act_seen (Give order) past = refl
act_seen (Send bytes) past = refl
act_seen (Answer bytes) past = refl
act_seen (End cause) past = refl

pub pasts_show_steps : PastsShowSteps
pasts_show_steps [] = refl
pasts_show_steps (CarComes plan ∷ h) = heard_so (post.moment (station_entries h)) (moment h) (moment h) _ _ _ (late h) (omega arith) (pasts_show_steps h)
pasts_show_steps (ChargerTells event ∷ h) = heard_so (post.moment (station_entries h)) (moment h) (moment h) _ _ _ (late h) (omega arith) (pasts_show_steps h)
pasts_show_steps (StationHears bytes ∷ h) = heard_so (post.moment (station_entries h)) (moment h) (moment h) _ _ _ (late h) (omega arith) (pasts_show_steps h)
pasts_show_steps (TimePasses ∷ h) = heard_so (post.moment (station_entries h)) (moment h) (moment h + 10) _ _ _ (late h) (omega arith) (pasts_show_steps h)
pasts_show_steps (CarGoes ∷ h) = heard_so (post.moment (station_entries h)) (moment h) (moment h) _ _ _ (late h) (omega arith) (pasts_show_steps h)
pasts_show_steps (StationDoes reading act ∷ h) = act_seen act (station_entries h) ∙ ap (λ (zs : List Seen). post.Did act true ∷ zs) (pasts_show_steps h)
pasts_show_steps (CarHears bytes ∷ h) = pasts_show_steps h
pasts_show_steps (CarReads judged ∷ h) = pasts_show_steps h
pasts_show_steps (CarDoes act ∷ h) = pasts_show_steps h
pasts_show_steps (NumberIsDrawn ∷ h) = pasts_show_steps h
