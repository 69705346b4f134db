-- Own: the entries of a site, whose lines are short.
use Rattle.std.specs.Prelude.{ℕ, ◌^◌, ◌<◌, ◌≤◌, length}
use Rattle.charge_world.specs.declared.entry.Entry.{Entry}
use Rattle.charge_world.specs.declared.entry.Entry.TheVariants as entry
use Rattle.charge_world.specs.declared.heard.PlantEvent.{PlantEvent}
use Rattle.charge_world.specs.declared.heard.PlantEvent.TheVariants as plant
use Rattle.charge_world.specs.declared.heard.What.{What}
use Rattle.charge_world.specs.declared.heard.What.TheVariants as what
use Rattle.charge_world.specs.declared.ports.Order.{Order}
use Rattle.charge_world.specs.declared.ports.Order.TheVariants as order
use Rattle.trace_text.specs.TraceText.{IsPost, HasBytes}

-- posts are numbered from 1 to 8, and a piece or a datagram has 1 to 4,096 bytes, one that came may have none
abbrev pub IsShort : Entry → Type 0
IsShort (entry.Heard heard bytes) = HasBytes heard.what bytes
IsShort entry.Lost = Unit {0}
IsShort (entry.Sent post bytes taken) = IsPost post × (1 ≤ length bytes) × (length bytes ≤ 4096)
IsShort (entry.Answered post bytes taken) = IsPost post × (1 ≤ length bytes) × (length bytes ≤ 4096)
IsShort (entry.Drove post order taken) = IsPost post
IsShort (entry.Dialed port taken) = Unit {0}
IsShort (entry.Ended post cause) = IsPost post

-- the numbers of an entry are within their types
abbrev pub IsEventShort : PlantEvent → Type 0
IsEventShort (plant.Measured voltage current) = (voltage ≤ 30000) × (current ≤ 30000)
IsEventShort (plant.Pilot state) = Unit {0}
IsEventShort (plant.Isolation level) = Unit {0}
IsEventShort (plant.Feedback closed) = Unit {0}
IsEventShort plant.Paid = Unit {0}
IsEventShort plant.Emergency = Unit {0}
IsEventShort plant.StopAsked = Unit {0}
IsEventShort plant.RenewAsked = Unit {0}

abbrev pub IsWhatShort : What → Type 0
IsWhatShort (what.Plant post event) = IsEventShort event
IsWhatShort (what.Came post token) = Unit {0}
IsWhatShort (what.Bytes post n) = Unit {0}
IsWhatShort (what.Gone post) = Unit {0}
IsWhatShort (what.Datagram post n) = Unit {0}
IsWhatShort what.Tick = Unit {0}
IsWhatShort what.Over = Unit {0}

abbrev pub IsOrderShort : Order → Type 0
IsOrderShort (order.Limits voltage current watts) = (voltage ≤ 30000) × (current ≤ 30000) × (watts < 2 ^ 32)
IsOrderShort order.Open = Unit {0}
IsOrderShort order.Close = Unit {0}

abbrev pub HasNumbers : Entry → Type 0
HasNumbers (entry.Heard heard bytes) = (heard.at < 2 ^ 64) × IsWhatShort heard.what
HasNumbers entry.Lost = Unit {0}
HasNumbers (entry.Sent post bytes taken) = Unit {0}
HasNumbers (entry.Answered post bytes taken) = Unit {0}
HasNumbers (entry.Drove post order taken) = IsOrderShort order
HasNumbers (entry.Dialed port taken) = port < 2 ^ 16
HasNumbers (entry.Ended post cause) = cause < 2 ^ 8
