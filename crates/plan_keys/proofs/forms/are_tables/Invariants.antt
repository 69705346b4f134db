use Rattle.std.proofs.Common.{◌≡◌, drop}
use Rattle.toml.specs.View.{items_view}
use Rattle.plan_keys.specs.Keys.{all_tables}
use Rattle.plan_keys.proofs.forms.are_tables.Given as goal

abbrev pub invariant-loop-item : goal.invariant-loop-item
invariant-loop-item l = all_tables (items_view (drop l.item-index l.items)) ≡ all_tables (items_view l.items)
