use Rattle.std.proofs.Common.{◌≡◌, ℕ, List, rules, string_bytes, subst}
use Rattle.std.specs.Prelude.{IfOk, IfErr}
use Rattle.file_commands.specs.Scripts.{IsPrinted, IsRefusedAt}
use Rattle.file_commands.specs.declared.script_files.ScriptFault.TheVariants.{Line}
use Rattle.file_commands.proofs.Limits.{printed_in, fault_in, counts_in}
use Rattle.file_commands.proofs.script_files.orders_in.Goals as goal

pub returns-in-Ok-clause-printed : goal.returns-in-Ok-clause-printed
returns-in-Ok-clause-printed g c =
    let all : c.deref.result.now ≡ c.in-Ok.bytes.items = search rules in
    let printed = subst (λ (bytes : List ℕ). IfOk c.lines_of.result (λ printed. IsPrinted bytes (string_bytes printed))) all c.lines_of.ensures.printed in
    printed_in _ _ c.in-Ok.bytes.items c.lines_of.result c.runs_are_charged.ensures c.in-Ok.ensures.bytes printed

pub returns-in-Ok-clause-fault : goal.returns-in-Ok-clause-fault
returns-in-Ok-clause-fault g c =
    let all : c.deref.result.now ≡ c.in-Ok.bytes.items = search rules in
    let fault = subst (λ (bytes : List ℕ). IfErr c.lines_of.result (λ fault. (number : ℕ) → fault ≡ Line number → IsRefusedAt bytes number)) all c.lines_of.ensures.fault in
    fault_in _ _ c.in-Ok.bytes.items c.lines_of.result c.in-Ok.ensures.bytes fault

pub returns-in-Ok-clause-faults : goal.returns-in-Ok-clause-faults
returns-in-Ok-clause-faults g c = counts_in _ _ c.lines_of.result c.in-Ok.ensures.faults c.lines_of.ensures.read
