-- Own: the entry that is noted.
use Rattle.charge_world.specs.declared.entry.Entry.{Entry}
use Rattle.charge_world.specs.declared.entry.Entry.TheVariants as entry
use Rattle.trace_text.specs.declared.writing.Noted.{Noted}
use Rattle.trace_text.specs.declared.writing.Noted.TheVariants.{Heard, Lost, Sent, Answered, Drove, Dialed, Ended}

abbrev pub entry_of : Noted → Entry
entry_of (Heard heard bytes) = entry.Heard heard bytes.now
entry_of Lost = entry.Lost
entry_of (Sent post bytes taken) = entry.Sent post bytes.now taken
entry_of (Answered post bytes taken) = entry.Answered post bytes.now taken
entry_of (Drove post order taken) = entry.Drove post order taken
entry_of (Dialed port taken) = entry.Dialed port taken
entry_of (Ended post cause) = entry.Ended post cause
