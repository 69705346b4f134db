-- Where no call failed, no status tells of one.
use Rattle.std.proofs.Common.{◌≡◌, ◌⊎◌, ◌<◌, ◌≤◌, ℕ, List, [], ◌∷◌, Option, refl, inl, inr, sym, subst, arith}
use Rattle.std.specs.List.{AllByRecursion}
use Rattle.command_status.specs.declared.status.Status.{Status}
use Rattle.command_status.specs.declared.status.Status.TheVariants as status
use Rattle.command_status.specs.Completeness.{IsOneOf, Completes}
use Rattle.charge_run.specs.Completing.{IsUnfailed}
use Rattle.charge_run.specs.Runs.{Answers}

-- a status out of a list of those that tell of no failed call
pub unfailed : (list : List Status) (s : Status) → AllByRecursion IsUnfailed list → IsOneOf list s → IsUnfailed s
unfailed [] s all is = absurd is
unfailed (x ∷ xs) s all (inl is) = subst IsUnfailed (sym is) all.0
unfailed (x ∷ xs) s all (inr is) = unfailed xs s all.1 is

-- a line or the fault of an input
pub complete : (IsLine : List ℕ → Type 0) (IsFaultAt : ℕ → Type 0) (s : Status) (before after : Option (List ℕ)) (n m : ℕ) → Answers IsLine IsFaultAt s before after n m → (s ≡ status.SinkFault → n < m)
    → Completes ((n, m) ∷ []) (status.Input ∷ []) s
complete IsLine IsFaultAt status.Done before after n m answers sinks none = inl refl
complete IsLine IsFaultAt status.NoMemory before after n m answers sinks none = inr (inl refl)
complete IsLine IsFaultAt status.Words before after n m answers sinks none = absurd answers
complete IsLine IsFaultAt status.Plan before after n m answers sinks none = absurd answers
complete IsLine IsFaultAt status.Input before after n m answers sinks none = inr (inr (inl refl))
complete IsLine IsFaultAt status.WireFault before after n m answers sinks none = absurd answers
complete IsLine IsFaultAt status.SinkFault before after n m answers sinks none = absurd (omega (arith, sinks refl, none.0))
complete IsLine IsFaultAt status.SourceFault before after n m answers sinks none = absurd answers
complete IsLine IsFaultAt status.TurnsSpent before after n m answers sinks none = absurd answers
complete IsLine IsFaultAt status.AuditNo before after n m answers sinks none = absurd answers
complete IsLine IsFaultAt status.Unreached before after n m answers sinks none = absurd answers
complete IsLine IsFaultAt status.NoSchedule before after n m answers sinks none = absurd answers
complete IsLine IsFaultAt status.NoSet before after n m answers sinks none = absurd answers
