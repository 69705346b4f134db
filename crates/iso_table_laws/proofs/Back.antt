-- What is read of what was written of values of ISO 15118-2:2014 is the value, but for watts that are dropped.
use Rattle.std.proofs.Common.{◌≡◌, ℕ, ◌==◌, zero, suc, ◌<◌, ◌≤◌, min, max, fold, map, length, All, Bool, true, false, ◌&&◌, IsTrue, List, [], ◌∷◌, Option, Some, None, refl, ◌∙◌, ap, ap₂, arith}
use Rattle.std.specs.Prelude.{IfSome}
use Rattle.std.specs.List.{list_all, range_with_len}
use Rattle.std.specs.Option.{option_map}
use Rattle.std.specs.Str.{chars, IsAscii}
use Rattle.std.proofs.lemmas.List.{length-map}
use Rattle.std.proofs.lemmas.List.FromFn.{length-map-range_with_len}
use Rattle.std.proofs.lemmas.Str.{chars-IsAscii, encodes-IsAscii}
use Rattle.std.proofs.lemmas.Str.Ascii.{IsAscii-from_all}
use Rattle.arrayvec.specs.ArrayVec.{ArrayVec}
use lib.Utf8.{encodes}
use Rattle.charge_world.specs.declared.heard.IsolationLevel.{IsolationLevel}
use Rattle.charge_world.specs.declared.heard.IsolationLevel.TheVariants as level
use Rattle.post_spec.specs.Spelled.{dropped, dropped_tuples, dropped_limits}
use Rattle.session_words.specs.declared.amount.Amount.{Amount}
use Rattle.session_words.specs.declared.code.Code.{Code}
use Rattle.session_words.specs.declared.code.Code.TheVariants as code
use Rattle.session_words.specs.declared.code.Notify.{Notify}
use Rattle.session_words.specs.declared.code.Processing.{Processing}
use Rattle.session_words.specs.declared.code.Processing.TheVariants as processing
use Rattle.session_words.specs.declared.code.Progress.{Progress}
use Rattle.session_words.specs.declared.code.Progress.TheVariants as progress
use Rattle.session_words.specs.declared.code.StatusCode.{StatusCode}
use Rattle.session_words.specs.declared.limits.CarLimits.{CarLimits}
use Rattle.session_words.specs.declared.limits.CarLimits.TheVariants as car
use Rattle.session_words.specs.declared.limits.DcStatus.{DcStatus}
use Rattle.session_words.specs.declared.limits.PostLimits.{PostLimits}
use Rattle.session_words.specs.declared.limits.PostLimits.TheVariants as limits
use Rattle.session_words.specs.declared.limits.PostStatus.{PostStatus}
use Rattle.session_words.specs.declared.limits.PostStatus.TheVariants as post
use Rattle.session_words.specs.declared.limits.Tuple.{Tuple}
use Rattle.session_words.specs.declared.mode.OfferedMode.{OfferedMode}
use Rattle.session_words.specs.declared.mode.OfferedMode.TheVariants as offered
use Rattle.tree_words.proofs.Lists.{◌⊛◌}
use Rattle.word_values.proofs.TextLemmas.{fitting_all}
use Rattle.word_values.specs.Items.{evse_bytes}
use Rattle.written_words.proofs.Numbers.{tenths_back, volts_back, watts_back}
use Rattle.written_words.specs.Back.{dropped_car}
use Rattle.iso_values.specs.Codes.{is_iso_code}
use Rattle.iso_values.specs.Modes.{is_iso_mode}
use Rattle.iso_word_messages.specs.Spellable.{AreTenths, CanCarLimits, IsSomeWatts, CanTuple, CanTuples, CanPostLimits}
use Rattle.word_tables.specs.Tables.{back, of_either}
use Rattle.message_tables.specs.Values.{entries_of}
use Rattle.message_tables.proofs.Lists.{if_same, if_kept, each_back, each_same}
use Rattle.message_tables.proofs.Numbers.{notify_named, status_named}
use Rattle.iso_tables.specs.Codes.{isolation, response_code, step, offered_mode, charge_progress}
use Rattle.iso_tables.specs.Values.{unit_if, current, voltage, nominal, power, some_power, evse, ac_status, dc_status}
use Rattle.iso_tables.specs.Power.{profile, status_told, status_parts}
use Rattle.iso_tables.specs.Parameters.{ac_car, dc_car, car_of, car_parts, schedule_entry, least_power, tuple, schedules, ac_post, dc_post, limits_of, limit_parts}

abbrev amount : ℕ → Bool → Amount
amount size right = record { size = size; right = right }

right_back : (right : Bool) → ((unit_if right 3 == 3) ≡ right) × ((unit_if right 4 == 4) ≡ right) × ((unit_if right 5 == 5) ≡ right)
right_back true = (refl, refl, refl)
right_back false = (refl, refl, refl)

pub current_back : (a : Amount) → AreTenths a → back current a ≡ a
current_back a h = ap₂ amount (tenths_back a.size h) (right_back a.right).0

pub voltage_back : (a : Amount) → AreTenths a → back voltage a ≡ a
voltage_back a h = ap₂ amount (tenths_back a.size h) (right_back a.right).1

nominal_back : (a : Amount) → AreTenths a → back nominal a ≡ a
nominal_back a h = ap₂ amount (volts_back a.size h) (right_back a.right).1

power_back : (a : Amount) → back power a ≡ dropped a
power_back a = ap₂ amount (watts_back a.size) (right_back a.right).2

pub powers_back : (o : Option Amount) → option_map (λ a. back power a) o ≡ option_map dropped o
powers_back = if_same (λ a. back power a) dropped power_back

some_power_back : (o : Option Amount) → IsSomeWatts o → back some_power o ≡ option_map dropped o
some_power_back None h = absurd h
some_power_back (Some a) h = ap (λ y. Some y) (power_back a)

-- ---- enumerations and statuses

level_back : (l : IsolationLevel) → back isolation l ≡ l
level_back level.NoImd = refl
level_back other = refl

pub status_back : (s : DcStatus) → back dc_status s ≡ s
status_back s =
    let made : Notify → Option IsolationLevel → StatusCode → DcStatus = λ n i c. record { notify = n; isolation = i; code = c } in
    ap made (notify_named s.notify) ⊛ if_kept (λ l. back isolation l) level_back s.isolation ⊛ status_named s.code

pub post_status_back : (s : PostStatus) → status_told (of_either (λ n. back ac_status n) (λ s. back dc_status s) (status_parts s)) ≡ s
post_status_back (post.Ac n) = ap (λ x. post.Ac x) (notify_named n)
post_status_back (post.Dc s) = ap (λ x. post.Dc x) (status_back s)

pub code_back : (c : Code) → IsTrue (is_iso_code c) → back response_code c ≡ c
code_back code.FailedEvsePresentVoltageToLow h = absurd cc
code_back code.FailedWrongEnergyTransferType h = absurd cc
code_back other h = refl

pub step_back : (p : Processing) → back step p ≡ p
step_back processing.Finished = refl
step_back other = refl

offered_back : (m : OfferedMode) → IsTrue (is_iso_mode m) → back offered_mode m ≡ m
offered_back offered.DcDual h = absurd cc
offered_back offered.AcCore1pDcExtended h = absurd cc
offered_back offered.AcSingleDcCore h = absurd cc
offered_back offered.AcSinglePhaseThreePhaseCoreDcExtended h = absurd cc
offered_back offered.AcCore3pDcExtended h = absurd cc
offered_back other h = refl

pub modes_back : (ms : List OfferedMode) → All (λ m. IsTrue (is_iso_mode m)) ms → map (λ m. back offered_mode m) ms ≡ ms
modes_back = each_back (λ m. IsTrue (is_iso_mode m)) (λ m. back offered_mode m) offered_back

pub progress_back : (p : Progress) → back charge_progress p ≡ p
progress_back progress.Start = refl
progress_back other = refl

-- ---- texts and lists

pub evse_back : (id : List ℕ) → All (λ c. c < 128) id → length id ≤ 37 → back evse id ≡ id
evse_back id ascii few =
    let all : IsAscii id = IsAscii-from_all id ascii in
    let same : chars id ≡ id = chars-IsAscii id all in
    ap evse_bytes same ∙ ap encodes (fitting_all 37 id few) ∙ encodes-IsAscii id all

and_true : (b : Bool) → (b && true) ≡ b
and_true true = refl
and_true false = refl

and_same : (b : Bool) → (b && b) ≡ b
and_same true = refl
and_same false = refl

profile_back : (a : Amount) → back profile a ≡ dropped a
profile_back a =
    let one : Amount = back power a in
    let most : max 0 one.size ≡ one.size = omega arith in
    ap₂ amount most (and_true one.right) ∙ power_back a

pub profiles_back : (o : Option Amount) → option_map (λ a. back profile a) o ≡ option_map dropped o
profiles_back = if_same (λ a. back profile a) dropped profile_back

-- ---- schedules

-- entries from these seconds on, as they are read
abbrev entries_back : Amount → List ℕ → List (((ℕ × Unit {0}) × (Amount × Unit {0})))
entries_back a starts = map (λ y. back schedule_entry y) (map (λ k. ((k, tt), (a, tt))) starts)

sizes_same : (a : Amount) (starts : List ℕ) → fold min (back power a).size (map (λ e. e.1.0.size) (entries_back a starts)) ≡ (back power a).size
sizes_same a [] = refl
sizes_same a (k ∷ ks) =
    let size : ℕ = (back power a).size in
    let one : min size size ≡ size = omega arith in
    ap (λ x. fold min x (map (λ e. e.1.0.size) (entries_back a ks))) one ∙ sizes_same a ks

rights_same : (a : Amount) (starts : List ℕ)
    → ((back power a).right && list_all (λ e. e.1.0.right) (entries_back a starts)) ≡ (back power a).right
rights_same a [] = and_true (back power a).right
rights_same a (k ∷ ks) = ap (λ x. (back power a).right && x) (rights_same a ks) ∙ and_same (back power a).right

least_back : (a : Amount) (n : ℕ) → 1 ≤ n → least_power (entries_back a (range_with_len 0 n)) ≡ dropped a
least_back a zero h = absurd (omega arith)
least_back a (suc n) h = ap₂ amount (sizes_same a (range_with_len 1 n)) (rights_same a (range_with_len 1 n)) ∙ power_back a

abbrev dropped_tuple : Tuple → Tuple
dropped_tuple t = record { id = t.id; entries = t.entries; least = dropped t.least }

tuple_back : (t : Tuple) → CanTuple t → back tuple t ≡ dropped_tuple t
tuple_back t h =
    let made : ℕ → Amount → Tuple = λ n least. record { id = t.id; entries = n; least = least } in
    ap₂ made
    (length-map (entries_of t) (λ y. back schedule_entry y) ∙ length-map-range_with_len (λ k. ((k, tt), (t.least, tt))) 0 t.entries)
    (least_back t.least t.entries h.entries.0)

abbrev vec : List Tuple → ArrayVec Tuple
vec ts = record { items = ts }

pub schedules_back : (o : Option (ArrayVec Tuple)) → IfSome o CanTuples
    → option_map vec (option_map (λ ts. back schedules ts) (option_map (λ v. v.items) o)) ≡ option_map dropped_tuples o
schedules_back None h = refl
schedules_back (Some v) h = ap (λ ts. Some (vec ts)) (each_same CanTuple (λ t. back tuple t) dropped_tuple tuple_back v.items h.1)

-- ---- limits

pub car_back : (l : CarLimits) → CanCarLimits l → car_of (of_either (λ x. back ac_car x) (λ x. back dc_car x) (car_parts l)) ≡ dropped_car l
car_back (car.Ac most least v) can =
    ap (λ a l v. car.Ac a l v) (current_back most can.0) ⊛ current_back least can.1 ⊛ voltage_back v can.2
car_back (car.Dc ready soc a w v) can =
    ap (λ a w v. car.Dc ready soc a w v) (current_back a can.1) ⊛ powers_back w ⊛ voltage_back v can.3

pub limits_back : (l : PostLimits) → CanPostLimits l
    → limits_of (of_either (λ x. back ac_post x) (λ x. back dc_post x) (limit_parts l)) ≡ dropped_limits l
limits_back (limits.Ac n v a) can =
    ap (λ n v a. limits.Ac n v a) (notify_named n) ⊛ nominal_back v can.0 ⊛ current_back a can.1
limits_back (limits.Dc s a w v la lv ripple) can =
    ap (λ s a w v la lv ripple. limits.Dc s a w v la lv ripple) (status_back s) ⊛ current_back a can.0 ⊛ some_power_back w can.1
    ⊛ voltage_back v can.2 ⊛ current_back la can.3 ⊛ voltage_back lv can.4 ⊛ current_back ripple can.5
