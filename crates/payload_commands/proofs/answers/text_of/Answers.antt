use Rattle.std.proofs.Common.{◌≡◌, ℕ, ◌≤◌, List, length, rules, string_bytes, sym, subst}
use Rattle.std.specs.Prelude.{IfOk, IfErr}
use Rattle.payload_commands.specs.Scheduling.{IsTextOf, IsNoAnswerTo}
use Rattle.payload_commands.proofs.ScheduleTexts.{text_of_hex, fault_of_hex}
use Rattle.payload_commands.proofs.answers.text_of.Goals as goal

pub answer_text-requires-clause-payload : goal.answer_text-requires-clause-payload
answer_text-requires-clause-payload c =
    let all : c.deref.result.now ≡ c.in-Ok.payload.items = search rules in
    subst (λ (bytes : List ℕ). length bytes ≤ 65536) (sym all) c.in-Ok.ensures.few

pub returns-in-Ok-clause-text : goal.returns-in-Ok-clause-text
returns-in-Ok-clause-text c =
    let all : c.deref.result.now ≡ c.in-Ok.payload.items = search rules in
    text_of_hex c.args.need c.args.hex.now c.in-Ok.payload.items c.answer_text.result c.in-Ok.ensures.spelled
    (subst (λ (bytes : List ℕ). IfOk c.answer_text.result (λ text. IsTextOf c.args.need bytes (string_bytes text))) all c.answer_text.ensures.text)

pub returns-in-Ok-clause-fault : goal.returns-in-Ok-clause-fault
returns-in-Ok-clause-fault c =
    let all : c.deref.result.now ≡ c.in-Ok.payload.items = search rules in
    fault_of_hex c.args.need c.args.hex.now c.in-Ok.payload.items c.answer_text.result c.in-Ok.ensures.spelled
    (subst (λ (bytes : List ℕ). IfErr c.answer_text.result (IsNoAnswerTo c.args.need bytes)) all c.answer_text.ensures.fault)
