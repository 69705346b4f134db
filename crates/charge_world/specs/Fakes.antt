-- Own: what the fakes in memory keep, and how much room they have.
use Rattle.std.specs.Prelude.{◌≡◌, ℕ, ◌+◌, ◌<◌, ◌≤◌, ◌↔◌, nat_lt, Bool, true, if◌then◌else◌, List, Contains, Option, IsSome, refl}
use Rattle.std.specs.Coded.{Coded, code_by, coded×, coded_ℕ, coded_list}
use Rattle.charge_world.specs.declared.entry.Entry.{Entry}

-- which calls fail, how many were made, how many failed
pub record Failures : Type 0 where
  pub failing : List ℕ
  pub calls : ℕ
  pub faults : ℕ

-- a call is counted, and fails exactly where its number is listed. Those behind the 2^32 - 1st don't, and aren't counted
pub record Counts (old : Failures) (fails : Bool) (new : Failures) : Type 0 where
  pub listed : fails ≡ true → Contains old.failing (old.calls + 1)
  pub all : Contains old.failing (old.calls + 1) → old.calls < 4294967295 → fails ≡ true
  pub calls : new.calls ≡ (if nat_lt old.calls 4294967295 then old.calls + 1 else old.calls)
  pub faults : new.faults ≡ (if fails then old.faults + 1 else old.faults)
  pub same : new.failing ≡ old.failing

-- a list, and for how many items more there is room
pub record Roomy (T : Type 0) : Type 0 where
  pub items : List T
  pub left : ℕ

abbrev pub roomy_code : {T : Type 0} → Coded T → Coded (Roomy T)
roomy_code {T} code =
    code_by (List T × ℕ) (coded× (coded_list code) coded_ℕ) (λ r. (r.items, r.left)) (λ p. record { items = p.0; left = p.1 }) (λ _. refl)

-- the past of a fake wire, the newest entry first, none once it isn't told any more; for how many entries and bytes more there is room
pub record Logged : Type 0 where
  pub past : Option (List Entry)
  pub entries : ℕ
  pub bytes : ℕ

-- the past is told, and has room for one entry more with so many bytes
pub record HasRoom (log : Logged) (n : ℕ) : Type 0 where
  pub told : IsSome log.past
  pub entry : 1 ≤ log.entries
  pub bytes : n ≤ log.bytes

-- the past stays told exactly where one entry more with so many bytes has room, and that room is spent
pub record Spends (old new : Logged) (n : ℕ) : Type 0 where
  pub told : IsSome new.past ↔ HasRoom old n
  pub entries : IsSome new.past → new.entries + 1 ≡ old.entries
  pub bytes : IsSome new.past → new.bytes + n ≡ old.bytes
