-- The lines of orders.
use Rattle.std.proofs.Common.{◌≡◌, ℕ, [], ◌∷◌, ◌++◌, sym, append_assoc}
use Rattle.std.specs.Prelude.{codes, decimal}
use Rattle.pilot_basic.specs.declared.words.BasicOrder.TheVariants.{Open, Close, Duty}
use Rattle.file_commands.specs.Scripts.{order_line}

pub open_line : (now : ℕ) → decimal now ++ codes " open\n" ≡ order_line now Open
open_line now = sym (append_assoc (decimal now) (codes " open") (10 ∷ []))

pub close_line : (now : ℕ) → decimal now ++ codes " close\n" ≡ order_line now Close
close_line now = sym (append_assoc (decimal now) (codes " close") (10 ∷ []))

pub duty_line : (now d : ℕ) → decimal now ++ (codes " duty " ++ (decimal d ++ codes "\n")) ≡ order_line now (Duty d)
duty_line now d = sym (append_assoc (decimal now) (codes " duty " ++ decimal d) (10 ∷ []))
