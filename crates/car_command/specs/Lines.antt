-- Own: the line that a car prints: `cycles N cause C`, and behind it ` session HEX` where there is a session to come back to, in
-- lower-case hexadecimal digits.
use Rattle.std.specs.Prelude.{◌≡◌, ◌⊎◌, ℕ, List, [], ◌++◌, Option, Some, None, codes, decimal}
use Rattle.hex.specs.Hex.{encode_lower}
use Rattle.charge_world.specs.Outside.{Appends}
use Rattle.session_words.specs.declared.session.SessionId.{SessionId}
use Rattle.car_spec.specs.Report.{Report}
use Rattle.car_core.specs.Ended.{Ended}
use Rattle.car_core.specs.Ended.TheVariants as ended
use Rattle.command_status.specs.declared.status.Status.{Status}
use Rattle.command_status.specs.declared.status.Status.TheVariants as status
use Rattle.command_status.specs.FaultLines.{Tells, wire_line}
use Rattle.command_status.specs.Told.{SinkTold}
use Rattle.station_command.specs.Lines.{IsCutOff, TellsTurns}

abbrev pub session_text : Option SessionId → List ℕ
session_text None = []
session_text (Some session) = codes " session " ++ encode_lower session.bytes.items

unfoldable pub report_line : Report → List ℕ
report_line told = codes "cycles " ++ decimal told.cycles ++ codes " cause " ++ decimal told.cause ++ session_text told.session ++ codes "\n"

-- ---- the output

-- the line couldn't be written: the output holds a front of it
abbrev pub Fails : List ℕ → Status → SinkTold → SinkTold → Type 0
Fails line s before after = IsCutOff s before.taken after.taken before.faults after.faults line

-- the line was printed, or a front of it where it was not written
abbrev pub Prints : List ℕ → Status → SinkTold → SinkTold → Type 0
Prints line s before after = ((s ≡ status.Done) × Appends before.taken after.taken line × (after.faults ≡ before.faults)) ⊎ Fails line s before after

-- the status of a way in which driving ended, and what is printed then
abbrev pub Concludes : Ended → Report → Status → SinkTold → SinkTold → Type 0
Concludes ended.Over told s before after = Prints (report_line told) s before after
Concludes ended.Finished told s before after = Prints (report_line told) s before after
Concludes ended.Turns told s before after =
    ((s ≡ status.TurnsSpent) × TellsTurns before.taken after.taken before.faults after.faults (report_line told)) ⊎ Fails (report_line told) s before after
Concludes ended.Lost told s before after =
    (s ≡ status.WireFault) × Tells before.taken after.taken before.faults after.faults wire_line
Concludes ended.TraceFault told s before after = (s ≡ status.SinkFault) × (after ≡ before)
