-- The values of enumerations that both dialects number alike, and their numbers.
use Rattle.std.proofs.Common.{◌≡◌, ◌<◌, Bool, true, false, [], ◌∷◌, get_or, refl, lit<}
use Rattle.session_words.specs.declared.code.Notify.{Notify}
use Rattle.session_words.specs.declared.code.Notify.TheVariants as notify
use Rattle.session_words.specs.declared.code.StatusCode.{StatusCode}
use Rattle.session_words.specs.declared.code.StatusCode.TheVariants as status
use Rattle.session_words.specs.declared.mode.Mode.{Mode}
use Rattle.session_words.specs.declared.mode.Mode.TheVariants as mode
use Rattle.message_tables.specs.Codes.{notify_names, notify_number, status_names, status_number, mode_names, mode_number, second_number}

pub notify_named : (n : Notify) → get_or notify_names (notify_number n) notify.None ≡ n
notify_named notify.None = refl
notify_named other = refl

pub notify_small : (n : Notify) → notify_number n < 3
notify_small notify.None = lit< tt
notify_small other = lit< tt

pub status_named : (c : StatusCode) → get_or status_names (status_number c) status.EvseNotReady ≡ c
status_named status.EvseNotReady = refl
status_named other = refl

pub status_small : (c : StatusCode) → status_number c < 12
status_small status.EvseReady = lit< tt
status_small other = lit< tt

pub mode_named : (m : Mode) → get_or mode_names (mode_number m) mode.AcSinglePhaseCore ≡ m
mode_named mode.DcCore = refl
mode_named other = refl

pub mode_small : (m : Mode) → mode_number m < 6
mode_small mode.DcCore = lit< tt
mode_small other = lit< tt

pub second_named : (b : Bool) → get_or (false ∷ true ∷ []) (second_number b) false ≡ b
second_named true = refl
second_named false = refl

pub second_small : (b : Bool) → second_number b < 2
second_small true = lit< tt
second_small false = lit< tt
