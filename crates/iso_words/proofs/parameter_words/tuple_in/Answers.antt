use Rattle.std.proofs.Common.{rules, ◌≡◌, map, length, pos, to_z, of_z, sym, ◌∙◌}
use Rattle.std.specs.List.{list_all}
use mir.Syntax.{w16}
use Rattle.session_words.specs.declared.limits.Tuple.{Tuple}
use Rattle.iso_words.proofs.Parts.{entry_power, made, tuple_read}
use Rattle.iso_words.proofs.parameter_words.tuple_in.Goals as goal

pub returns : goal.returns
returns c =
    let t = c.args.tuple.now in
    let es = t.p_max_schedule.p_max_schedule_entry.items in
    let own : Tuple = record { id = to_z w16 (of_z w16 c.from.result); entries = length c.as_slice-entries.result.now; least = c.least_power.result } in
    let same : own ≡ made (pos t.sa_schedule_tuple_id) (length es) (map (λ e. (entry_power e).size) es) (list_all (λ e. (entry_power e).right) es) =
    search rules in
    same ∙ sym (tuple_read t)
