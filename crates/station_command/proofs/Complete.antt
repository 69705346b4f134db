-- No status of a failed call is left where none failed.
use Rattle.std.proofs.Common.{◌≡◌, ◌<◌, ℕ, [], ◌∷◌, ◌⊎◌, refl, sym, subst, inl, inr, arith}
use Rattle.command_status.specs.declared.status.Status.{Status}
use Rattle.command_status.specs.declared.status.Status.TheVariants as status
use Rattle.command_status.specs.Completeness.{Completes}
use Rattle.command_status.proofs.Completeness.{neither}
use Rattle.station_command.specs.Served.{IsBegun}

abbrev pub IsNoMemory : Status → Type 0
IsNoMemory status.NoMemory = Unit {0}
IsNoMemory _ = ⊥

pub begun_or_not : (s : Status) → (s ≡ status.NoMemory) ⊎ IsBegun s → IsBegun s ⊎ IsNoMemory s
begun_or_not s (inl is) = inr (subst IsNoMemory (sym is) tt)
begun_or_not s (inr begun) = inl begun

-- a status that a command never has
no_status : ⊥ ⊎ ⊥ → ⊥
no_status (inl h) = h
no_status (inr h) = h

pub complete : (s : Status) (n m k l i j v w : ℕ) → IsBegun s ⊎ IsNoMemory s → (s ≡ status.SinkFault → (k < l) ⊎ (i < j)) → (s ≡ status.WireFault → v < w)
    → Completes ((n, m) ∷ (k, l) ∷ (i, j) ∷ (v, w) ∷ []) (status.TurnsSpent ∷ status.Plan ∷ []) s
complete status.Done n m k l i j v w is sinks wires none = inl refl
complete status.NoMemory n m k l i j v w is sinks wires none = inr (inl refl)
complete status.Words n m k l i j v w is sinks wires none = absurd (no_status is)
complete status.Plan n m k l i j v w is sinks wires none = inr (inr (inr (inl refl)))
complete status.Input n m k l i j v w is sinks wires none = absurd (no_status is)
complete status.WireFault n m k l i j v w is sinks wires none = absurd (omega (arith, wires refl, none.1.1.1.0))
complete status.SinkFault n m k l i j v w is sinks wires none = absurd (neither k l i j (sinks refl) none.1.0 none.1.1.0)
complete status.SourceFault n m k l i j v w is sinks wires none = absurd (no_status is)
complete status.TurnsSpent n m k l i j v w is sinks wires none = inr (inr (inl refl))
complete status.AuditNo n m k l i j v w is sinks wires none = absurd (no_status is)
complete status.Unreached n m k l i j v w is sinks wires none = absurd (no_status is)
complete status.NoSchedule n m k l i j v w is sinks wires none = absurd (no_status is)
complete status.NoSet n m k l i j v w is sinks wires none = absurd (no_status is)
