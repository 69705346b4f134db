-- What is left, by the lines of the offer or the fault of the file.
use Rattle.std.proofs.Common.{◌≡◌, inl, inr, ℕ, ◌<◌, List, Option, Some, None, refl, sym, subst}
use Rattle.std.specs.Prelude.{IsSome}
use Rattle.plan_keys.specs.declared.fault.PlanFault.{PlanFault}
use Rattle.plan_files.specs.FileTexts.{Told, CountsFault}
use Rattle.plan_files.specs.Plans.{IsFaultBy}
use Rattle.plan_files.proofs.Texts.{told_weaker}
use Rattle.plan_files.specs.declared.plans.PlanFileFault.{PlanFileFault}
use Rattle.plan_files.specs.declared.plans.PlanFileFault.TheVariants.{Unread, Refused}
use Rattle.command_status.specs.declared.status.Status.{Status}
use Rattle.command_status.specs.declared.status.Status.TheVariants as status
use Rattle.command_status.specs.FaultLines.{plan_line}
use Rattle.command_status.specs.Told.{FileTold, SinkTold, TellsLine, Prints}
use Rattle.charging_files.specs.ScheduleFiles.{calendar_told}
use Rattle.charging_files.specs.FileLines.{key_of, RefusesBy, Refuses, IsRefusedBy}
use Rattle.charging_files.proofs.Told.{told_text, told_fault, was_read, both_of, one_key, never, same_output, read_status, other_printed, unread_risen, IsOther}
use Rattle.file_commands.specs.Offering.{IsOffered, IsOfferedIn, LeavesBy, IsDecided, OfferLeaves}
use Rattle.file_commands.proofs.Calendars.{OneOffer, same_lines, not_refused}

-- ---- the lines of an offer

printed_leaves : (moment : ℕ) (lines : List ℕ) (s : Status) (file : FileTold) (before after : SinkTold) → IsOfferedIn moment file.left file.text lines
    → Prints lines s before after → LeavesBy moment s file before after
printed_leaves moment lines s file before after is (inl h) = subst (λ (s : Status). LeavesBy moment s file before after) (sym h.0) (lines, is, h.1)
printed_leaves moment lines s file before after is (inr h) = subst (λ (s : Status). LeavesBy moment s file before after) (sym h.0) (lines, is, h.1)

offered_by : (moment : ℕ) (lines : List ℕ) (left text : Option (List ℕ)) → IsOfferedIn moment left text lines → Told left text (λ t. IsOffered moment t lines)
offered_by moment lines left text is =
    told_weaker left text _ (λ t. IsOffered moment t lines) (λ t read. record { calendar = is.calendar; read = read; lines_are = is.lines_are }) is.file

printed_decides : OneOffer → (moment : ℕ) (lines : List ℕ) (s : Status) (file : FileTold) (before after : SinkTold) → IsOfferedIn moment file.left file.text lines
    → Prints lines s before after → IsSome file.left → IsDecided moment s file.text before after
printed_decides law moment lines s file before after is prints tells =
    let mine = told_text file.left file.text (λ t. IsOffered moment t lines) (offered_by moment lines file.left file.text is) tells in
    record {
      offered = λ other p.
          let same = both_of file.text (λ t. IsOffered moment t lines) (λ t. IsOffered moment t other) (lines ≡ other) (λ t a b. same_lines law moment t lines other a b) mine p in
          inl (subst (λ (ls : List ℕ). Prints ls s before after) same prints);
      refused = λ key r.
          absurd (both_of file.text (λ t. IsOffered moment t lines) (λ t. IsRefusedBy calendar_told t key) ⊥ (λ t a b. not_refused moment t lines key a b) mine r);
    }

pub prints : OneOffer → (moment : ℕ) (lines : List ℕ) (s : Status) (file : FileTold) (before after : SinkTold) → IsOfferedIn moment file.left file.text lines
    → file.m ≡ file.n → Prints lines s before after → OfferLeaves moment s file before after
prints law moment lines s file before after is same printed = record {
  leaves = printed_leaves moment lines s file before after is printed;
  unread = read_status s file (other_printed lines s before after printed) (never file.n file.m same);
  decided = λ tells read. printed_decides law moment lines s file before after is printed tells;
}

-- ---- a fault of the file

by_key : (moment : ℕ) (fault : PlanFault) (k : Option (List ℕ)) (s : Status) (file : FileTold) (before after : SinkTold) → key_of fault ≡ k
    → IsFaultBy calendar_told file.left file.text (Refused fault) → (file.n < file.m → ⊥)
    → RefusesBy k s before after → OfferLeaves moment s file before after
by_key moment fault (Some key) s file before after is has same h =
    let told = told_fault calendar_told fault key file.left file.text is has in
    record {
      leaves = subst (λ (s : Status). LeavesBy moment s file before after) (sym h.0) (key, told, h.1);
      unread = read_status s file (subst IsOther (sym h.0) tt) same;
      decided = λ tells read.
          let refused = told_text file.left file.text (λ t. IsRefusedBy calendar_told t key) told tells in
          record {
            offered = λ lines p.
                absurd (both_of file.text (λ t. IsOffered moment t lines) (λ t. IsRefusedBy calendar_told t key) ⊥ (λ t a b. not_refused moment t lines key a b) p refused);
            refused = λ other r.
                let same_key = both_of file.text (λ t. IsRefusedBy calendar_told t key) (λ t. IsRefusedBy calendar_told t other) (key ≡ other) (λ t a b. one_key calendar_told t key other a b) refused r in
                inl (h.0, subst (λ (k : List ℕ). TellsLine (plan_line k) before after) same_key h.1);
          };
    }
by_key moment fault None s file before after is has same h = record {
  leaves = subst (λ (s : Status). LeavesBy moment s file before after) (sym h.0) (same_output before after h.1 h.2);
  unread = read_status s file (subst IsOther (sym h.0) tt) same;
  decided = λ tells read. record { offered = λ lines p. inr h.0; refused = λ key r. inr h.0 };
}

pub refuses : (moment : ℕ) (fault : PlanFileFault) (s : Status) (file : FileTold) (before after : SinkTold) → IsFaultBy calendar_told file.left file.text fault
    → CountsFault Unread file.n file.m fault → Refuses fault s before after → OfferLeaves moment s file before after
refuses moment Unread s file before after has counts h = record {
  leaves = subst (λ (s : Status). LeavesBy moment s file before after) (sym h.0) h.1;
  unread = (λ is. counts.risen.0 refl, λ less. h.0);
  decided = λ tells same. unread_risen file.n file.m same (counts.risen.0 refl) (IsDecided moment s file.text before after);
}
refuses moment (Refused fault) s file before after has counts h =
    by_key moment fault (key_of fault) s file before after refl has (λ less. was_read fault (counts.risen.1 less)) h

-- ---- what a status says of the output

pub memory_leaves : (moment : ℕ) (s : Status) (file : FileTold) (before after : SinkTold) → OfferLeaves moment s file before after → s ≡ status.NoMemory → after ≡ before
memory_leaves moment s file before after h is = subst (λ (s : Status). LeavesBy moment s file before after) is h.leaves

pub sink_leaves : (moment : ℕ) (s : Status) (file : FileTold) (before after : SinkTold) → OfferLeaves moment s file before after → s ≡ status.SinkFault
    → before.faults < after.faults
sink_leaves moment s file before after h is = (subst (λ (s : Status). LeavesBy moment s file before after) is h.leaves).2.0
