use Rattle.std.proofs.Common.{◌≡◌, ℕ, ◌≤◌, List, length, rules, string_bytes, sym, subst}
use Rattle.std.specs.Prelude.{IfOk, IfErr}
use Rattle.payload_commands.specs.Picking.{IsChoiceLine, IsNoChoiceOf}
use Rattle.payload_commands.proofs.Chosen.{line_of_hex, fault_of_hex}
use Rattle.payload_commands.proofs.choices.pick_line.Goals as goal

pub choice_line-requires : goal.choice_line-requires
choice_line-requires c =
    let all : c.deref.result.now ≡ c.in-Ok.payload.items = search rules in
    subst (λ (bytes : List ℕ). length bytes ≤ 65536) (sym all) c.in-Ok.ensures.few

pub returns-in-Ok-clause-line : goal.returns-in-Ok-clause-line
returns-in-Ok-clause-line c =
    let all : c.deref.result.now ≡ c.in-Ok.payload.items = search rules in
    line_of_hex c.args.want.now.pairs.items c.args.hex.now c.in-Ok.payload.items c.choice_line.result c.in-Ok.ensures.spelled
    (subst (λ (bytes : List ℕ). IfOk c.choice_line.result (λ line. IsChoiceLine c.args.want.now.pairs.items bytes (string_bytes line))) all c.choice_line.ensures.line)

pub returns-in-Ok-clause-fault : goal.returns-in-Ok-clause-fault
returns-in-Ok-clause-fault c =
    let all : c.deref.result.now ≡ c.in-Ok.payload.items = search rules in
    fault_of_hex c.args.want.now.pairs.items c.args.hex.now c.in-Ok.payload.items c.choice_line.result c.in-Ok.ensures.spelled
    (subst (λ (bytes : List ℕ). IfErr c.choice_line.result (IsNoChoiceOf c.args.want.now.pairs.items bytes)) all c.choice_line.ensures.fault)
