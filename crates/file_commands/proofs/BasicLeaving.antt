-- What is left, by the lines of the orders or the fault of the file.
use Rattle.std.proofs.Common.{◌≡◌, inl, inr, ℕ, List, refl, sym, ◌∙◌, subst}
use Rattle.std.specs.Prelude.{IsSome}
use Rattle.plan_files.specs.FileTexts.{CountsFault}
use Rattle.pilot_basic.specs.Machine.{Step}
use Rattle.file_commands.specs.Scripts.{printed_of, IsPrinted, IsRefusedAt}
use Rattle.file_commands.proofs.Scripts.{one_output}
use Rattle.command_status.specs.declared.status.Status.{Status}
use Rattle.command_status.specs.declared.status.Status.TheVariants as status
use Rattle.command_status.specs.FaultLines.{input_line}
use Rattle.command_status.specs.Told.{FileTold, SinkTold, TellsLine, Prints}
use Rattle.charging_files.proofs.Told.{told_text, both_of, never, read_status, other_printed, unread_risen, IsOther}
use Rattle.file_commands.specs.Basics.{IsScript, IsPrintedIn, HasFault, Refuses, LeavesBy, IsDecided, BasicLeaves}
use Rattle.file_commands.specs.declared.script_files.ScriptFault.{ScriptFault}
use Rattle.file_commands.specs.declared.script_files.ScriptFault.TheVariants.{Unread, Line, Memory}
use Rattle.file_commands.proofs.OneLine.{one_line, not_refused}

-- ---- texts

-- the script of a past is printed as its orders
printed_so : (past : List Step) (script : List ℕ) → IsScript past script → IsPrinted script (printed_of past)
printed_so past script is = record { within = is.within; read = (past, is.read, refl) }

same_output : (past : List Step) (script printed : List ℕ) → IsScript past script → IsPrinted script printed → printed_of past ≡ printed
same_output past script printed is p = one_output script (printed_of past) printed (printed_so past script is).read p.read

-- ---- the lines of orders

printed_leaves : (lines : List ℕ) (s : Status) (file : FileTold) (before after : SinkTold) → IsPrintedIn file.left file.text lines → Prints lines s before after → LeavesBy s file before after
printed_leaves lines s file before after is (inl h) = subst (λ (s : Status). LeavesBy s file before after) (sym h.0) (lines, is, h.1)
printed_leaves lines s file before after is (inr h) = subst (λ (s : Status). LeavesBy s file before after) (sym h.0) (lines, is, h.1)

printed_decides : (lines : List ℕ) (s : Status) (file : FileTold) (before after : SinkTold) → IsPrintedIn file.left file.text lines → Prints lines s before after → IsSome file.left
    → IsDecided s file.text before after
printed_decides lines s file before after is prints tells =
    let script = told_text file.left file.text (IsScript is.past) is.script tells in
    record {
      printed = λ printed p.
          let same = both_of file.text (IsScript is.past) (λ t. IsPrinted t printed) (printed_of is.past ≡ printed) (λ t a b. same_output is.past t printed a b) script p in
          inl (subst (λ (ls : List ℕ). Prints ls s before after) (is.printed_is ∙ same) prints);
      refused = λ number r.
          absurd (both_of file.text (IsScript is.past) (λ t. IsRefusedAt t number) ⊥ (λ t a b. not_refused t (printed_of is.past) number (printed_so is.past t a) b) script r);
    }

pub prints : (lines : List ℕ) (s : Status) (file : FileTold) (before after : SinkTold) → IsPrintedIn file.left file.text lines → file.m ≡ file.n → Prints lines s before after
    → BasicLeaves s file before after
prints lines s file before after is same printed = record {
  leaves = printed_leaves lines s file before after is printed;
  unread = read_status s file (other_printed lines s before after printed) (never file.n file.m same);
  decided = λ tells read. printed_decides lines s file before after is printed tells;
}

-- ---- a fault of the file

read_line : (number : ℕ) → Line number ≡ Unread → ⊥
read_line number is = cc

read_all : Memory ≡ Unread → ⊥
read_all is = cc

pub refuses : (fault : ScriptFault) (s : Status) (file : FileTold) (before after : SinkTold) → HasFault file.left file.text fault → CountsFault Unread file.n file.m fault
    → Refuses fault s before after → BasicLeaves s file before after
refuses Unread s file before after has counts h = record {
  leaves = subst (λ (s : Status). LeavesBy s file before after) (sym h.0) h.1;
  unread = (λ is. counts.risen.0 refl, λ less. h.0);
  decided = λ tells same. unread_risen file.n file.m same (counts.risen.0 refl) (IsDecided s file.text before after);
}
refuses (Line number) s file before after has counts h = record {
  leaves = subst (λ (s : Status). LeavesBy s file before after) (sym h.0) (number, has, h.1);
  unread = read_status s file (subst IsOther (sym h.0) tt) (λ less. read_line number (counts.risen.1 less));
  decided = λ tells same.
      let refused = told_text file.left file.text (λ t. IsRefusedAt t number) has tells in
      record {
        printed = λ printed p.
            absurd (both_of file.text (λ t. IsPrinted t printed) (λ t. IsRefusedAt t number) ⊥ (λ t a b. not_refused t printed number a b) p refused);
        refused = λ other r.
            let same_number = both_of file.text (λ t. IsRefusedAt t number) (λ t. IsRefusedAt t other) (number ≡ other) (λ t a b. one_line t number other a b) refused r in
            inl (h.0, subst (λ (n : ℕ). TellsLine (input_line n) before after) same_number h.1);
      };
}
refuses Memory s file before after has counts h = record {
  leaves = subst (λ (s : Status). LeavesBy s file before after) (sym h.0) h.1;
  unread = read_status s file (subst IsOther (sym h.0) tt) (λ less. read_all (counts.risen.1 less));
  decided = λ tells same. record { printed = λ printed p. inr h.0; refused = λ number r. inr h.0 };
}
