-- The text of an answer, and why there is none.
use Rattle.std.proofs.Common.{◌≡◌, ℕ, List, Result, Ok, Err, String, Global, string_bytes, sym, subst, inr}
use Rattle.std.specs.Prelude.{IfOk, IfErr}
use Rattle.hex_payloads.specs.HexText.{IsHexOf}
use Rattle.schedules.specs.declared.power.Need.{Need}
use Rattle.service_messages.specs.Answers.{IsAnswered}
use Rattle.service_messages.specs.Answer.{Answer}
use Rattle.payload_commands.specs.declared.answers.NoAnswer.{NoAnswer}
use Rattle.payload_commands.specs.declared.answers.NoAnswer.TheVariants.{Place, Schedule, Memory}
use Rattle.payload_commands.specs.Scheduling.{answer_lines, IsTextOf, IsAnswerText, IsNoAnswerTo, IsNoAnswer}

pub text_in : (need : Need) (payload : List ℕ) (answer : Answer) (r : Result (String Global) NoAnswer) → IsAnswered payload need answer
    → IfOk r (λ text. string_bytes text ≡ answer_lines answer.profile answer.request.items) → IfOk r (λ text. IsTextOf need payload (string_bytes text))
text_in need payload answer (Err fault) is lines = tt
text_in need payload answer (Ok text) is lines = record {
  profile = answer.profile;
  request = answer.request.items;
  answer = is.profile;
  request_is = is.request;
  text_is = lines;
}

pub memory_in : (need : Need) (payload : List ℕ) (r : Result (String Global) NoAnswer) → IfErr r (λ fault. fault ≡ Memory) → IfErr r (IsNoAnswerTo need payload)
memory_in need payload (Ok text) h = tt
memory_in need payload (Err fault) h = subst (IsNoAnswerTo need payload) (sym h) tt

pub text_of_hex : (need : Need) (hex payload : List ℕ) (r : Result (String Global) NoAnswer) → IsHexOf hex payload
    → IfOk r (λ text. IsTextOf need payload (string_bytes text)) → IfOk r (λ text. IsAnswerText need hex (string_bytes text))
text_of_hex need hex payload (Err fault) is h = tt
text_of_hex need hex payload (Ok text) is h = (payload, is, h)

pub fault_of_hex : (need : Need) (hex payload : List ℕ) (r : Result (String Global) NoAnswer) → IsHexOf hex payload
    → IfErr r (IsNoAnswerTo need payload) → IfErr r (IsNoAnswer need hex)
fault_of_hex need hex payload (Ok text) is h = tt
fault_of_hex need hex payload (Err (Place place)) is h = inr (payload, h.0, is, h.1)
fault_of_hex need hex payload (Err (Schedule fault)) is h = (payload, is, h)
fault_of_hex need hex payload (Err Memory) is h = tt
