-- Own: a call of an end on its wire.
use Rattle.std.specs.Prelude.{◌≡◌, ◌≤◌, ℕ, Bool, true, length}
use Rattle.charge_world.specs.declared.entry.Entry.{Entry}
use Rattle.charge_world.specs.declared.entry.Entry.TheVariants as entry
use Rattle.endpoint.specs.declared.calls.Call.{Call}
use Rattle.endpoint.specs.declared.calls.Call.TheVariants.{Answer, Give, Send, End, Dial}

-- what stands of it in the past, for post k
abbrev pub entry_by : ℕ → Call → Bool → Entry
entry_by k (Answer bytes) taken = entry.Answered k bytes.now taken
entry_by k (Give order) taken = entry.Drove k order taken
entry_by k (Send bytes) taken = entry.Sent k bytes.now taken
entry_by k (End cause) taken = entry.Ended k cause
entry_by k (Dial port) taken = entry.Dialed port taken

-- the end of a session can't fail
abbrev pub MayTake : Call → Bool → Type 0
MayTake (Answer bytes) taken = Unit {0}
MayTake (Give order) taken = Unit {0}
MayTake (Send bytes) taken = Unit {0}
MayTake (End cause) taken = taken ≡ true
MayTake (Dial port) taken = Unit {0}

-- a piece or a datagram has 1 to 4,096 bytes
abbrev pub IsSendable : Call → Type 0
IsSendable (Answer bytes) = (1 ≤ length bytes.now) × (length bytes.now ≤ 4096)
IsSendable (Give order) = Unit {0}
IsSendable (Send bytes) = (1 ≤ length bytes.now) × (length bytes.now ≤ 4096)
IsSendable (End cause) = Unit {0}
IsSendable (Dial port) = Unit {0}
