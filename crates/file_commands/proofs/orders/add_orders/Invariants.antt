use Rattle.std.proofs.Common.{◌≡◌, ◌++◌, take, string_bytes}
use Rattle.file_commands.specs.Scripts.{order_lines}
use Rattle.file_commands.proofs.orders.add_orders.Given as goal

abbrev pub invariant-loop-order : goal.invariant-loop-order
invariant-loop-order l = string_bytes l.text ≡ string_bytes l.fn.text ++ order_lines l.now (take l.order-index l.orders)
