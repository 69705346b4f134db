-- Lists and what may be absent, or is one of several, as messages have them and as the tables write them.
use Rattle.std.proofs.Common.{◌≡◌, ℕ, false, pos, List, [], ◌∷◌, map, All, Option, Some, None, refl, ap, ap₂}
use Rattle.std.proofs.lemmas.List.Elements.{All-head, All-tail}
use Rattle.std.specs.List.{range_with_len}
use Rattle.std.specs.Option.{option_map}
use Rattle.exi_documents.specs.Trees.{Truth, Ordinal, Number, Trees, none, simple, complex}
use Rattle.message_parts.specs.Contents.{Inside, Of, Holding, one, element, holding, each_trees, perhaps_trees, choice_trees, trees_of}
use Rattle.session_words.specs.declared.amount.Amount.{Amount}
use Rattle.session_words.specs.declared.limits.PostStatus.{PostStatus}
use Rattle.session_words.specs.declared.limits.PostStatus.TheVariants as post
use Rattle.session_words.specs.declared.limits.Tuple.{Tuple}
use Rattle.session_words.specs.declared.mode.OfferedMode.{OfferedMode}
use Rattle.tree_words.proofs.Lists.{◌⊛◌}
use Rattle.iso_parts.specs.Codes.{energy_transfer_mode_ordinal}
use Rattle.iso_parts.specs.Values.{evse_status_name, evse_status_inside}
use Rattle.iso_schedules.specs.Schedules.{p_max_schedule_entry_parts, sa_schedule_tuple_parts}
use Rattle.iso_schema.specs.declared.names.TheConstants.{AC_EVSE_STATUS, DC_EVSE_STATUS, NOTIFICATION_MAX_DELAY, EVSE_NOTIFICATION, EVSE_ISOLATION_STATUS, EVSE_STATUS_CODE, RCD, RELATIVE_TIME_INTERVAL, START, DURATION, P_MAX, SA_SCHEDULE_LIST, SA_SCHEDULE_TUPLE_ID, P_MAX_SCHEDULE, P_MAX_SCHEDULE_ENTRY}
use Rattle.iso_setup.specs.Selection.{selected_service_parts}
use Rattle.iso_setup.specs.declared.selection.SelectedService.{SelectedService}
use Rattle.iso_values.specs.Modes.{offered_mode as iso_offered}
use Rattle.iso_values.specs.Physical.{power_of}
use Rattle.iso_values.specs.Statuses.{evse_status}
use Rattle.word_tables.specs.Tables.{written}
use Rattle.iso_tables.specs.Codes.{offered_mode}
use Rattle.iso_tables.specs.Power.{status_row, status_parts}
use Rattle.iso_tables.specs.Parameters.{schedule_entry, tuple, schedules}
use Rattle.iso_tables.specs.Setup.{service}
use Rattle.iso_word_messages.specs.Schedules.{entry_at, schedule_tuple}
use Rattle.iso_word_messages.specs.Spellable.{CanTuple}
use Rattle.iso_word_messages.proofs.Values.{offered_written, status_written, notify_written, levels_written, number_written, power_written}

-- ---- services and modes

abbrev pub selected_service : ℕ → SelectedService
selected_service n = record { service_id = n; parameter_set_id = None }

pub services_written : (ns : List ℕ) → map (λ s. holding (selected_service_parts s)) (map selected_service ns) ≡ map (λ n. written service n) ns
services_written [] = refl
services_written (n ∷ ns) = ap (λ is. written service n ∷ is) (services_written ns)

pub modes_written : (ms : List OfferedMode)
    → map (λ m. Of (Ordinal (energy_transfer_mode_ordinal m))) (map iso_offered ms) ≡ map (λ m. written offered_mode m) ms
modes_written [] = refl
modes_written (m ∷ ms) = ap₂ (λ n is. Of (Ordinal n) ∷ is) (offered_written m) (modes_written ms)

-- ---- the status of a post

abbrev ac_inside : ℕ → Inside
ac_inside n = Holding [] (simple NOTIFICATION_MAX_DELAY (Number (pos 0)) (simple EVSE_NOTIFICATION (Ordinal n) (simple RCD (Truth false) none)))

abbrev dc_inside : ℕ → Option Inside → ℕ → Inside
dc_inside n level code =
    Holding [] (
    simple NOTIFICATION_MAX_DELAY (Number (pos 0))
    (simple EVSE_NOTIFICATION (Ordinal n) (perhaps_trees EVSE_ISOLATION_STATUS level (simple EVSE_STATUS_CODE (Ordinal code) none)))
    )

pub post_status_written : (s : PostStatus)
    → trees_of (one (evse_status_name (evse_status s)) (evse_status_inside (evse_status s)) ∷ []) ≡ written status_row (status_parts s, tt)
post_status_written (post.Ac n) = ap (λ k. element AC_EVSE_STATUS (ac_inside k) none) (notify_written n)
post_status_written (post.Dc s) =
    ap (λ n i c. element DC_EVSE_STATUS (dc_inside n i c) none) (notify_written s.notify) ⊛ levels_written s.isolation ⊛ status_written s.code

-- ---- schedules

entry_written : (a : Amount) (k : ℕ) → holding (p_max_schedule_entry_parts (entry_at (power_of a) k)) ≡ written schedule_entry ((k, tt), (a, tt))
entry_written a k =
    ap
    (λ i. Holding [] (complex RELATIVE_TIME_INTERVAL [] (simple START (Number (pos k)) (simple DURATION (Number (pos 86400)) none)) (element P_MAX i none)))
    (power_written a)

entries_written : (a : Amount) (starts : List ℕ)
    → map (λ e. holding (p_max_schedule_entry_parts e)) (map (entry_at (power_of a)) starts)
    ≡ map (λ e. written schedule_entry e) (map (λ k. ((k, tt), (a, tt))) starts)
entries_written a [] = refl
entries_written a (k ∷ ks) = ap₂ (λ i is. i ∷ is) (entry_written a k) (entries_written a ks)

tuple_written : (t : Tuple) → CanTuple t → holding (sa_schedule_tuple_parts (schedule_tuple t)) ≡ written tuple t
tuple_written t can =
    ap₂
    (λ id is. Holding [] (simple SA_SCHEDULE_TUPLE_ID (Number id) (complex P_MAX_SCHEDULE [] (each_trees P_MAX_SCHEDULE_ENTRY is none) none)))
    (number_written t.id can.id) (entries_written t.least (range_with_len 0 t.entries))

pub tuples_written : (ts : List Tuple) → All CanTuple ts → map (λ t. holding (sa_schedule_tuple_parts t)) (map schedule_tuple ts) ≡ map (λ t. written tuple t) ts
tuples_written [] can = refl
tuples_written (t ∷ ts) can =
    ap₂ (λ i is. i ∷ is) (tuple_written t (All-head CanTuple t ts can)) (tuples_written ts (All-tail CanTuple t ts can))

-- the one of several that the profile has, where there is one
pub schedules_written : (o : Option (List Tuple)) (more : Trees)
    → choice_trees (option_map (λ ts. (SA_SCHEDULE_LIST, written schedules ts)) o) more
    ≡ perhaps_trees SA_SCHEDULE_LIST (option_map (λ ts. written schedules ts) o) more
schedules_written None more = refl
schedules_written (Some ts) more = refl
