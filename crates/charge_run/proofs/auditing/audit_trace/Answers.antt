use Rattle.std.proofs.Common.{◌≡◌, refl, inr, arith}
use Rattle.command_status.specs.declared.status.Status.TheVariants as status
use Rattle.audit_command.proofs.Own.{passes_own}
use Rattle.charge_run.proofs.auditing.audit_trace.Goals as goal

memory_is_no_source : status.NoMemory ≡ status.SourceFault → ⊥
memory_is_no_source h = cc

pub returns-in-Err-clause-leaves : goal.returns-in-Err-clause-leaves
returns-in-Err-clause-leaves g c = record {
  leaves = (refl, refl);
  unread = (λ is. absurd (memory_is_no_source is), λ less. absurd (omega (arith, less)));
  decided = λ tells same. record {
    plan = λ key is. inr refl;
    input = λ plan number is. inr refl;
    ok = λ plan entries texts printed none. inr refl;
    no = λ plan entries line check texts printed failed. inr refl;
  };
}

pub returns-in-Ok-clause-own : goal.returns-in-Ok-clause-own
returns-in-Ok-clause-own g c = passes_own _ _ c.audit.result _ _ _ c.codecs_find_no_fault.ensures c.audit.ensures.leaves

pub returns-in-Err-clause-own : goal.returns-in-Err-clause-own
returns-in-Err-clause-own g c = passes_own _ _ status.NoMemory _ _ _ c.codecs_find_no_fault.ensures (returns-in-Err-clause-leaves g c)
