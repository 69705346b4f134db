-- Whether all that a car heard is of the OK class, as a test.
use Rattle.std.proofs.Common.{◌≡◌, Bool, true, false, ◌&&◌, List, [], ◌∷◌, Some, None}
use Rattle.std.specs.List.{AllByRecursion}
use Rattle.session_words.specs.declared.code.Code.{Code}
use Rattle.session_words.specs.declared.code.Code.TheVariants as code
use Rattle.session_words.specs.Codes.{IsOkClass}
use Rattle.session_rules.specs.Verdict.{is_accepted}
use Rattle.car_spec.specs.Codecs.{Judged, Chosen, Told, WrongSide, Refused}
use Rattle.pipe_spec.specs.Histories.{Happening, CarComes, ChargerTells, StationHears, CarHears, TimePasses, StationDoes, CarReads, CarDoes, CarGoes, NumberIsDrawn}
use Rattle.pipe_spec.specs.Counts.{IsOkReply, IsOk}

no_truth : false ≡ true → ⊥
no_truth e = cc

ok_class : (c : Code) → is_accepted c ≡ true → IsOkClass c
ok_class code.Ok e = tt
ok_class code.OkNewSessionEstablished e = tt
ok_class code.OkOldSessionJoined e = tt
ok_class code.OkCertificateExpiresSoon e = tt
ok_class other e = absurd (no_truth e)

abbrev is_ok_reply : Judged → Bool
is_ok_reply (Chosen None) = false
is_ok_reply (Chosen (Some dialect)) = true
is_ok_reply (Told reply) = is_accepted reply.code
is_ok_reply WrongSide = false
is_ok_reply Refused = false

ok_reply : (w : Judged) → is_ok_reply w ≡ true → IsOkReply w
ok_reply (Chosen None) e = no_truth e
ok_reply (Chosen (Some dialect)) e = tt
ok_reply (Told reply) e = ok_class reply.code e
ok_reply WrongSide e = no_truth e
ok_reply Refused e = no_truth e

abbrev pub are_ok : List Happening → Bool
are_ok [] = true
are_ok (CarReads w ∷ h) = is_ok_reply w && are_ok h
are_ok (other ∷ h) = are_ok h

both : (a b : Bool) → (a && b) ≡ true → (a ≡ true) × (b ≡ true)
both true true e = (e, e)
both true false e = absurd (no_truth e)
both false b e = absurd (no_truth e)

pub all_ok : (h : List Happening) → are_ok h ≡ true → AllByRecursion IsOk h
all_ok [] e = tt
all_ok (CarReads w ∷ h) e = let b = both (is_ok_reply w) (are_ok h) e in (ok_reply w b.0, all_ok h b.1)
all_ok (CarComes plan ∷ h) e = (tt, all_ok h e)
all_ok (ChargerTells event ∷ h) e = (tt, all_ok h e)
all_ok (StationHears bytes ∷ h) e = (tt, all_ok h e)
all_ok (CarHears bytes ∷ h) e = (tt, all_ok h e)
all_ok (TimePasses ∷ h) e = (tt, all_ok h e)
all_ok (StationDoes reading act ∷ h) e = (tt, all_ok h e)
all_ok (CarDoes act ∷ h) e = (tt, all_ok h e)
all_ok (CarGoes ∷ h) e = (tt, all_ok h e)
all_ok (NumberIsDrawn ∷ h) e = (tt, all_ok h e)
