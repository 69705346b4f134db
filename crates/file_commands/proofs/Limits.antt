-- What is said of the first bytes of a text holds of the text.
use Rattle.std.proofs.Common.{◌≡◌, ◌==◌, ℕ, ◌+◌, ◌≤◌, List, ◌++◌, length, take, Option, Result, Ok, Err, String, Global, string_bytes, refl, sym, ap, subst, ◌∙◌, inl, inr, arith, length-append}
use Rattle.std.specs.Prelude.{IfOk, IfErr, MatchResult}
use Rattle.std.specs.List.{count_by}
use Rattle.std.proofs.lemmas.List.{append-nil, take-append-le}
use Rattle.plan_files.specs.FileTexts.{IsBeginning, Told, CountsFault}
use Rattle.pilot_basic.specs.Machine.{Step, IsRun}
use Rattle.plan_files.proofs.Texts.{told_weaker}
use Rattle.file_commands.specs.Scripts.{lines_of, AreLines, IsPrinted, IsRefusedAt}
use Rattle.file_commands.specs.Charging.{IsCharged}
use Rattle.file_commands.specs.Basics.{IsScript, IsPrintedIn, HasFault}
use Rattle.file_commands.specs.declared.script_files.ScriptFault.{ScriptFault}
use Rattle.file_commands.specs.declared.script_files.ScriptFault.TheVariants.{Unread, Line, Memory}

whole : (text bytes : List ℕ) → IsBeginning text bytes 65537 → length bytes ≤ 65536 → bytes ≡ text
whole text bytes h short = sym (h.split ∙ ap (λ (t : List ℕ). bytes ++ t) (h.whole (omega (arith, short))) ∙ append-nil bytes)

script_whole : (past : List Step) (text bytes : List ℕ) → IsScript past bytes → IsBeginning text bytes 65537 → IsScript past text
script_whole past text bytes is h = subst (IsScript past) (whole text bytes h is.within) is

refused_whole : (text bytes : List ℕ) (number : ℕ) → IsBeginning text bytes 65537 → IsRefusedAt bytes number → IsRefusedAt text number
refused_whole text bytes number h (inr bad) = subst (λ (t : List ℕ). IsRefusedAt t number) (whole text bytes h bad.within) (inr bad)
refused_whole text bytes number h (inl over) =
    let front : take 65536 text ≡ take 65536 bytes = ap (take 65536) h.split ∙ take-append-le 65536 bytes h.rest (omega (arith, over.over)) in
    inl (record {
      over = omega (arith, ap length h.split, length-append bytes h.rest, over.over);
      line = over.line ∙ ap (λ (t : List ℕ). count_by (λ byte. byte == 10) t + 1) (sym front);
    })

-- ---- what is read of the file

abbrev pub Begins : List ℕ → List ℕ → Type 0
Begins bytes text = IsBeginning text bytes 65537

abbrev pub AreCharged : Type 0
AreCharged = (past : List Step) → IsRun past → AreLines (lines_of past) → IsCharged past

pub printed_in : (left text : Option (List ℕ)) (bytes : List ℕ) (r : Result (String Global) ScriptFault) → AreCharged → Told left text (Begins bytes)
    → IfOk r (λ printed. IsPrinted bytes (string_bytes printed)) → IfOk r (λ printed. IsPrintedIn left text (string_bytes printed))
printed_in left text bytes (Err fault) law begins printed = tt
printed_in left text bytes (Ok lines) law begins printed =
    let past = printed.read.0 in
    let is : IsScript past bytes = record { within = printed.within; read = printed.read.1 } in
    record {
      past = past;
      charged = law past printed.read.1.run printed.read.1.lines;
      printed_is = printed.read.2;
      script = told_weaker left text (Begins bytes) (IsScript past) (λ t h. script_whole past t bytes is h) begins;
    }

pub fault_in : (left text : Option (List ℕ)) (bytes : List ℕ) (r : Result (String Global) ScriptFault) → Told left text (Begins bytes)
    → IfErr r (λ fault. (number : ℕ) → fault ≡ Line number → IsRefusedAt bytes number) → IfErr r (HasFault left text)
fault_in left text bytes (Ok lines) begins h = tt
fault_in left text bytes (Err Unread) begins h = tt
fault_in left text bytes (Err (Line n)) begins h =
    told_weaker left text (Begins bytes) (λ t. IsRefusedAt t n) (λ t b. refused_whole t bytes n b (h n refl)) begins
fault_in left text bytes (Err Memory) begins h = tt

pub counts_in : (n m : ℕ) (r : Result (String Global) ScriptFault) → m ≡ n → IfErr r (λ fault. fault ≡ Unread → ⊥)
    → MatchResult r (λ _. m ≡ n) (CountsFault Unread n m)
counts_in n m (Ok lines) same h = same
counts_in n m (Err fault) same h = record {
  later = omega (arith, same);
  risen = (λ is. absurd (h is), λ less. absurd (omega (arith, same, less)));
}
