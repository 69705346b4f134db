-- What is read of what was written of values of DIN SPEC 70121:2014 is the value, but for watts that are dropped.
use Rattle.std.proofs.Common.{◌≡◌, ℕ, zero, suc, ◌≤◌, min, max, fold, map, length, All, Bool, true, false, IsTrue, List, [], ◌∷◌, Option, Some, None, refl, sym, ◌∙◌, ap, ap₂, arith}
use Rattle.std.specs.Prelude.{IfSome}
use Rattle.std.specs.List.{range_with_len}
use Rattle.std.specs.Option.{option_map}
use Rattle.std.proofs.lemmas.Grind.{common_steps}
use Rattle.std.proofs.lemmas.List.{length-map}
use Rattle.std.proofs.lemmas.List.Elements.{All-head}
use Rattle.std.proofs.lemmas.List.FromFn.{length-map-range_with_len}
use Rattle.arrayvec.specs.ArrayVec.{ArrayVec}
use Rattle.charge_world.specs.declared.heard.IsolationLevel.{IsolationLevel}
use Rattle.charge_world.specs.declared.heard.IsolationLevel.TheVariants as level
use Rattle.post_spec.specs.Spelled.{dropped, dropped_tuples, dropped_limits}
use Rattle.session_rules.specs.Offers.{spelled_watts}
use Rattle.session_words.specs.declared.amount.Amount.{Amount}
use Rattle.session_words.specs.declared.code.Code.{Code}
use Rattle.session_words.specs.declared.code.Code.TheVariants as code
use Rattle.session_words.specs.declared.code.Notify.{Notify}
use Rattle.session_words.specs.declared.code.Processing.{Processing}
use Rattle.session_words.specs.declared.code.Processing.TheVariants as processing
use Rattle.session_words.specs.declared.code.Progress.{Progress}
use Rattle.session_words.specs.declared.code.Progress.TheVariants as progress
use Rattle.session_words.specs.declared.code.StatusCode.{StatusCode}
use Rattle.session_words.specs.declared.limits.DcStatus.{DcStatus}
use Rattle.session_words.specs.declared.limits.PostLimits.{PostLimits}
use Rattle.session_words.specs.declared.limits.PostLimits.TheVariants as limits
use Rattle.session_words.specs.declared.limits.Tuple.{Tuple}
use Rattle.session_words.specs.declared.mode.OfferedMode.{OfferedMode}
use Rattle.session_words.specs.declared.mode.OfferedMode.TheVariants as offered
use Rattle.tree_words.proofs.Lists.{◌⊛◌}
use Rattle.written_words.proofs.Numbers.{tenths_back, watts_back}
use Rattle.din_values.specs.Codes.{is_din_code}
use Rattle.din_values.specs.Modes.{is_din_mode}
use Rattle.din_values.specs.States.{is_din_level, is_din_processing}
use Rattle.din_word_messages.specs.Spellable.{AreTenths, AreFewWatts, IsDinProgress, CanStatus, CanTuple, CanTuples, CanPostLimits}
use Rattle.word_tables.specs.Tables.{back}
use Rattle.message_tables.specs.Values.{entries_of, least_of}
use Rattle.message_tables.proofs.Lists.{if_back, if_same, each_same}
use Rattle.message_tables.proofs.Numbers.{notify_named, status_named}
use Rattle.din_tables.specs.Codes.{isolation, notification, status_code, response_code, step, offered_mode}
use Rattle.din_tables.specs.Values.{is_right, unit_if, current, voltage, power, post_status}
use Rattle.din_tables.specs.Setup.{first_mode}
use Rattle.din_tables.specs.Power.{Profile, profile, progress_of, is_start}
use Rattle.din_tables.specs.Parameters.{schedule_entry, tuple, schedules, post_parameters, limits_of}

abbrev amount : ℕ → Bool → Amount
amount size right = record { size = size; right = right }

abbrev kept_unit : ℕ → Bool → Bool
kept_unit wanted right = is_right wanted (option_map (λ u. u) (unit_if right))

right_back : (right : Bool) → (kept_unit 3 right ≡ right) × (kept_unit 5 right ≡ right) × (kept_unit 7 right ≡ right)
right_back true = (refl, refl, refl)
right_back false = (refl, refl, refl)

pub current_back : (a : Amount) → AreTenths a → back current a ≡ a
current_back a h = ap₂ amount (tenths_back a.size h) (right_back a.right).0

pub voltage_back : (a : Amount) → AreTenths a → back voltage a ≡ a
voltage_back a h = ap₂ amount (tenths_back a.size h) (right_back a.right).1

pub power_back : (a : Amount) → back power a ≡ dropped a
power_back a = ap₂ amount (watts_back a.size) (right_back a.right).2

pub powers_back : (o : Option Amount) → option_map (λ a. back power a) o ≡ option_map dropped o
powers_back = if_same (λ a. back power a) dropped power_back

level_back : (l : IsolationLevel) → IsTrue (is_din_level l) → back isolation l ≡ l
level_back level.NoImd h = absurd cc
level_back other h = refl

pub status_back : (s : DcStatus) → CanStatus s → back post_status s ≡ s
status_back s h =
    let made : Option IsolationLevel → StatusCode → Notify → DcStatus = λ i c n. record { isolation = i; code = c; notify = n } in
    ap (λ i. made i (back status_code s.code) (back notification s.notify)) (if_back (λ l. IsTrue (is_din_level l)) (λ l. back isolation l) level_back s.isolation h)
    ∙ ap₂ (λ c n. made s.isolation c n) (status_named s.code) (notify_named s.notify)

pub code_back : (c : Code) → IsTrue (is_din_code c) → back response_code c ≡ c
code_back code.FailedNoChargeServiceSelected h = absurd cc
code_back code.FailedWrongEnergyTransferMode h = absurd cc
code_back code.FailedContactorError h = absurd cc
code_back code.FailedCertificateNotAllowedAtThisEvse h = absurd cc
code_back code.FailedCertificateRevoked h = absurd cc
code_back other h = refl

pub step_back : (p : Processing) → IsTrue (is_din_processing p) → back step p ≡ p
step_back processing.OngoingWaitingForCustomerInteraction h = absurd cc
step_back other h = refl

offered_back : (m : OfferedMode) → IsTrue (is_din_mode m) → back offered_mode m ≡ m
offered_back offered.DcUnique h = absurd cc
offered_back other h = refl

-- of one mode alone
pub modes_back : (ms : List OfferedMode) → length ms ≡ 1 → All (λ m. IsTrue (is_din_mode m)) ms → back offered_mode (first_mode ms) ∷ [] ≡ ms
modes_back [] h all = absurd (omega arith)
modes_back (m ∷ []) h all = ap (λ x. x ∷ []) (offered_back m (All-head (λ m. IsTrue (is_din_mode m)) m [] all))
modes_back (m ∷ n ∷ ms) h all = absurd (omega arith)

pub progress_back : (p : Progress) → IsDinProgress p → progress_of (is_start p) ≡ p
progress_back progress.Start h = refl
progress_back progress.Stop h = refl
progress_back progress.Renegotiate h = absurd h

-- ---- profiles

few_size : (watts : ℕ) → watts ≤ 32767 → watts ≡ spelled_watts watts
few_size watts h = grind (arith, common_steps)

pub profile_back : (p : Profile) → AreFewWatts p.1 → back profile p ≡ (p.0, dropped p.1)
profile_back p h =
    let most : max 0 p.1.size ≡ spelled_watts p.1.size = grind (arith, common_steps, few_size p.1.size h.few) in
    ap₂ (λ s r. (p.0, amount s r)) most (sym h.right)

-- ---- schedules

sizes_same : (a : Amount) (starts : List ℕ)
    → fold min a.size (map (λ e. e.1.0.size) (map (λ y. back schedule_entry y) (map (λ k. ((k, tt), (a, tt))) starts))) ≡ a.size
sizes_same a [] = refl
sizes_same a (k ∷ ks) =
    let one : min a.size a.size ≡ a.size = omega arith in
    ap (λ x. fold min x (map (λ e. e.1.0.size) (map (λ y. back schedule_entry y) (map (λ k. ((k, tt), (a, tt))) ks)))) one ∙ sizes_same a ks

least_back : (a : Amount) (n : ℕ) → 1 ≤ n
    → least_of (map (λ e. e.1.0.size) (map (λ y. back schedule_entry y) (map (λ k. ((k, tt), (a, tt))) (range_with_len 0 n)))) ≡ a.size
least_back a zero h = absurd (omega arith)
least_back a (suc n) h = sizes_same a (range_with_len 1 n)

abbrev dropped_tuple : Tuple → Tuple
dropped_tuple t = record { id = t.id; entries = t.entries; least = dropped t.least }

tuple_back : (t : Tuple) → CanTuple t → back tuple t ≡ dropped_tuple t
tuple_back t h =
    let made : ℕ → ℕ → Bool → Tuple = λ n size right. record { id = t.id; entries = n; least = amount size right } in
    ap₂ (λ n s. made n s true)
    (length-map (entries_of t) (λ y. back schedule_entry y) ∙ length-map-range_with_len (λ k. ((k, tt), (t.least, tt))) 0 t.entries)
    (least_back t.least t.entries h.entries.0 ∙ few_size t.least.size h.least.few)
    ∙ ap (λ r. made t.entries (spelled_watts t.least.size) r) (sym h.least.right)

abbrev vec : List Tuple → ArrayVec Tuple
vec ts = record { items = ts }

pub schedules_back : (o : Option (ArrayVec Tuple)) → IfSome o CanTuples
    → option_map vec (option_map (λ ts. back schedules ts) (option_map (λ v. v.items) o)) ≡ option_map dropped_tuples o
schedules_back None h = refl
schedules_back (Some v) h = ap (λ ts. Some (vec ts)) (each_same CanTuple (λ t. back tuple t) dropped_tuple tuple_back v.items h.1)

-- ---- limits of a post

pub limits_back : (status : DcStatus) (a : Amount) (w : Option Amount) (v la lv ripple : Amount) → CanPostLimits (limits.Dc status a w v la lv ripple)
    → limits_of (back post_parameters (status, (a, (w, (v, (la, (lv, (ripple, tt)))))))) ≡ dropped_limits (limits.Dc status a w v la lv ripple)
limits_back status a w v la lv ripple can =
    let made : DcStatus → Amount → Option Amount → Amount → Amount → Amount → Amount → PostLimits =
    λ status a w v la lv ripple. limits.Dc status a w v la lv ripple in
    ap made (status_back status can.0) ⊛ current_back a can.1 ⊛ powers_back w ⊛ voltage_back v can.3 ⊛ current_back la can.4
    ⊛ voltage_back lv can.5 ⊛ current_back ripple can.6
