-- Lists and what may be absent, as messages have them and as the tables write them.
use Rattle.std.proofs.Common.{◌≡◌, ℕ, pos, List, [], ◌∷◌, map, Option, Some, None, refl, ap, ap₂}
use Rattle.std.specs.List.{range_with_len}
use Rattle.std.specs.Option.{option_map}
use Rattle.exi_documents.specs.Trees.{Number, Trees, none, simple, complex}
use Rattle.message_parts.specs.Contents.{Holding, holding, each_trees, perhaps_trees, choice_trees}
use Rattle.session_words.specs.declared.amount.Amount.{Amount}
use Rattle.session_words.specs.declared.limits.Tuple.{Tuple}
use Rattle.din_power.specs.Schedules.{p_max_schedule_entry_parts, sa_schedule_tuple_parts}
use Rattle.din_schema.specs.declared.names.TheConstants.{SA_SCHEDULE_LIST, SA_SCHEDULE_TUPLE_ID, P_MAX_SCHEDULE, P_MAX_SCHEDULE_ID, P_MAX_SCHEDULE_ENTRY}
use Rattle.din_setup.specs.Selection.{selected_service_parts}
use Rattle.din_setup.specs.declared.selection.SelectedService.{SelectedService}
use Rattle.word_tables.specs.Tables.{written}
use Rattle.din_tables.specs.Parameters.{schedule_entry, tuple, schedules}
use Rattle.din_tables.specs.Setup.{service}
use Rattle.din_word_messages.specs.Schedules.{entry_at, schedule_tuple}

-- ---- services

abbrev pub selected_service : ℕ → SelectedService
selected_service n = record { service_id = n; parameter_set_id = None }

pub services_written : (ns : List ℕ) → map (λ s. holding (selected_service_parts s)) (map selected_service ns) ≡ map (λ n. written service n) ns
services_written [] = refl
services_written (n ∷ ns) = ap (λ is. written service n ∷ is) (services_written ns)

-- ---- schedules

entries_written : (a : Amount) (starts : List ℕ)
    → map (λ e. holding (p_max_schedule_entry_parts e)) (map (entry_at (pos a.size)) starts)
    ≡ map (λ e. written schedule_entry e) (map (λ k. ((k, tt), (a, tt))) starts)
entries_written a [] = refl
entries_written a (k ∷ ks) = ap (λ is. written schedule_entry ((k, tt), (a, tt)) ∷ is) (entries_written a ks)

tuple_written : (t : Tuple) → holding (sa_schedule_tuple_parts (schedule_tuple t)) ≡ written tuple t
tuple_written t =
    ap
    (λ is. Holding [] (
    simple SA_SCHEDULE_TUPLE_ID (Number t.id)
    (complex P_MAX_SCHEDULE [] (simple P_MAX_SCHEDULE_ID (Number (pos 1)) (each_trees P_MAX_SCHEDULE_ENTRY is none)) none)
    ))
    (entries_written t.least (range_with_len 0 t.entries))

pub tuples_written : (ts : List Tuple) → map (λ t. holding (sa_schedule_tuple_parts t)) (map schedule_tuple ts) ≡ map (λ t. written tuple t) ts
tuples_written [] = refl
tuples_written (t ∷ ts) = ap₂ (λ i is. i ∷ is) (tuple_written t) (tuples_written ts)

-- the one of several that DIN has, where there is one
pub schedules_written : (o : Option (List Tuple)) (more : Trees)
    → choice_trees (option_map (λ ts. (SA_SCHEDULE_LIST, written schedules ts)) o) more
    ≡ perhaps_trees SA_SCHEDULE_LIST (option_map (λ ts. written schedules ts) o) more
schedules_written None more = refl
schedules_written (Some ts) more = refl
