-- The pipe loses nothing.
use Rattle.std.proofs.Common.{◌≡◌, ℕ, List, [], ◌∷◌, ◌++◌, length, drop, refl, ap, sym, ◌∙◌, append_assoc}
use Rattle.post_spec.specs.Codecs.{Codecs}
use Rattle.car_spec.specs.Codecs as car
use Rattle.pipe_spec.specs.Histories.{CarComes, ChargerTells, StationHears, CarHears, TimePasses, StationDoes, CarReads, CarDoes, CarGoes, NumberIsDrawn, station_says, car_says, to_station, to_car}
use Rattle.pipe_spec.specs.Turns.{IsTurn, IsPiece, MayTurn}
use Rattle.pipe_laws.specs.Losing.{said_by_car, heard_by_station, said_by_station, come_to_car, IsWhole, NothingIsLost}
use Rattle.pipe_laws.proofs.Runs.{piece_by}

more_said : (said heard way more : List ℕ) → said ≡ heard ++ way → said ++ more ≡ heard ++ (way ++ more)
more_said said heard way more e = ap (λ (x : List ℕ). x ++ more) e ∙ append_assoc heard way more

more_heard : (said heard way bytes rest : List ℕ) → said ≡ heard ++ way → way ≡ bytes ++ rest → said ≡ (heard ++ bytes) ++ rest
more_heard said heard way bytes rest e f = e ∙ ap (λ (x : List ℕ). heard ++ x) f ∙ sym (append_assoc heard bytes rest)

pub nothing_is_lost : (c : Codecs) (cs : car.Codecs) → NothingIsLost c cs
nothing_is_lost c cs st [] r = record { asked = refl; answered = refl }
nothing_is_lost c cs st (CarComes plan ∷ h) r = record { asked = refl; answered = refl }
nothing_is_lost c cs st (CarDoes act ∷ h) r =
    let w : IsWhole h = nothing_is_lost c cs st h r.0 in
    record { asked = more_said (said_by_car h) (heard_by_station h) (to_station h) (car_says act) w.asked; answered = w.answered }
nothing_is_lost c cs st (StationDoes reading act ∷ h) r =
    let w : IsWhole h = nothing_is_lost c cs st h r.0 in
    record { asked = w.asked; answered = more_said (said_by_station h) (come_to_car h) (to_car h) (station_says act) w.answered }
nothing_is_lost c cs st (StationHears bytes ∷ h) r =
    let w : IsWhole h = nothing_is_lost c cs st h r.0 in
    let m : MayTurn st h (StationHears bytes) = r.1 in
    let t : IsTurn st m.charger h (StationHears bytes) = m.turn in
    let i : IsPiece st h (to_station h) bytes = t.1 in
    record {
      asked = more_heard (said_by_car h) (heard_by_station h) (to_station h) bytes (drop (length bytes) (to_station h)) w.asked (piece_by _ (to_station h) bytes i.bytes_are);
      answered = w.answered;
    }
nothing_is_lost c cs st (CarHears bytes ∷ h) r =
    let w : IsWhole h = nothing_is_lost c cs st h r.0 in
    let m : MayTurn st h (CarHears bytes) = r.1 in
    let t : IsTurn st m.charger h (CarHears bytes) = m.turn in
    let i : IsPiece st h (to_car h) bytes = t.2 in
    record {
      asked = w.asked;
      answered = more_heard (said_by_station h) (come_to_car h) (to_car h) bytes (drop (length bytes) (to_car h)) w.answered (piece_by _ (to_car h) bytes i.bytes_are);
    }
nothing_is_lost c cs st (ChargerTells event ∷ h) r = let w : IsWhole h = nothing_is_lost c cs st h r.0 in record { asked = w.asked; answered = w.answered }
nothing_is_lost c cs st (TimePasses ∷ h) r = let w : IsWhole h = nothing_is_lost c cs st h r.0 in record { asked = w.asked; answered = w.answered }
nothing_is_lost c cs st (CarReads judged ∷ h) r = let w : IsWhole h = nothing_is_lost c cs st h r.0 in record { asked = w.asked; answered = w.answered }
nothing_is_lost c cs st (CarGoes ∷ h) r = let w : IsWhole h = nothing_is_lost c cs st h r.0 in record { asked = w.asked; answered = w.answered }
nothing_is_lost c cs st (NumberIsDrawn ∷ h) r = let w : IsWhole h = nothing_is_lost c cs st h r.0 in record { asked = w.asked; answered = w.answered }
