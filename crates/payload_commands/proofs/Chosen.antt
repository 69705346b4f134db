-- The line of a choice, and why there is none.
use Rattle.std.proofs.Common.{ℕ, List, Result, Ok, Err, String, Global, string_bytes, inr}
use Rattle.std.specs.Prelude.{IfOk, IfErr}
use Rattle.hex_payloads.specs.HexText.{IsHexOf}
use Rattle.service_spec.specs.declared.Parameter.{Parameter}
use Rattle.payload_commands.specs.Picking.{IsChoiceLine, IsPickLine, IsNoChoiceOf, IsNoPick}
use Rattle.payload_commands.specs.declared.choices.NoLine.{NoLine}
use Rattle.payload_commands.specs.declared.choices.NoLine.TheVariants.{Place, NoSet, Memory}

pub line_of_hex : (pairs : List Parameter) (hex payload : List ℕ) (r : Result (String Global) NoLine) → IsHexOf hex payload
    → IfOk r (λ line. IsChoiceLine pairs payload (string_bytes line)) → IfOk r (λ line. IsPickLine pairs hex (string_bytes line))
line_of_hex pairs hex payload (Err fault) is h = tt
line_of_hex pairs hex payload (Ok line) is h = (h.0, (payload, is, h.1), h.2)

pub fault_of_hex : (pairs : List Parameter) (hex payload : List ℕ) (r : Result (String Global) NoLine) → IsHexOf hex payload
    → IfErr r (IsNoChoiceOf pairs payload) → IfErr r (IsNoPick pairs hex)
fault_of_hex pairs hex payload (Ok line) is h = tt
fault_of_hex pairs hex payload (Err (Place place)) is h = inr (payload, h.0, is, h.1)
fault_of_hex pairs hex payload (Err NoSet) is h = (payload, is, h)
fault_of_hex pairs hex payload (Err Memory) is h = tt
