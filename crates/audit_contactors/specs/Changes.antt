-- Own: what an entry changes of the values of a post.
use Rattle.std.specs.Prelude.{ℕ, ◌==◌, Bool, true, false, if◌then◌else◌, Option, Some, None, []}
use Rattle.charge_world.specs.declared.entry.Entry.{Entry}
use Rattle.charge_world.specs.declared.entry.Entry.TheVariants as entry
use Rattle.charge_world.specs.declared.heard.What.{What}
use Rattle.charge_world.specs.declared.ports.Order.{Order}
use Rattle.charge_world.specs.declared.ports.Order.TheVariants as order
use Rattle.session_words.specs.declared.phase.Standing.TheVariants.{Opened, Closing, MustOpen, Opening}
use Rattle.contactor.specs.Calls.{standing_heard}
use Rattle.post_spec.specs.Contactors.{feedback_in}
use Rattle.post_spec.specs.Facts.{told_by}
use Rattle.post_spec.specs.Steps.{event_at}
use Rattle.audit_contactors.specs.declared.values.ContactorValues.{ContactorValues}

abbrev pub at_first : ContactorValues
at_first = record { standing = Opened; live = false; closed = false; opened_in_vain = false; stood = Opened; acted = false; ends_opened = false }

-- a hearing, in which there was feedback, or wasn't
abbrev pub heard_by : Option Bool → ContactorValues → ContactorValues
heard_by None v = record v { stood = v.standing; acted = false; ends_opened = false }
heard_by (Some closed) v = record v { standing = standing_heard v.standing closed; stood = v.standing; acted = false; ends_opened = false }

-- an order to its charger, taken or failed
abbrev pub driven : Order → Bool → ContactorValues → ContactorValues
driven order.Open true v = record v { standing = Opening; live = false; closed = false; acted = true; ends_opened = true }
driven order.Open false v = record v { standing = MustOpen; opened_in_vain = true; acted = true; ends_opened = true }
driven order.Close true v = record v { standing = Closing; live = true; closed = true; opened_in_vain = false; acted = true }
driven order.Close false v = record v { standing = MustOpen; live = true; acted = true }
driven (order.Limits voltage current watts) taken v = record v { acted = true }

abbrev pub feedback_at : ℕ → What → Option Bool
feedback_at k what = told_by feedback_in (event_at k what [])

abbrev pub behind : ℕ → Entry → ContactorValues → ContactorValues
behind k (entry.Heard heard bytes) v = heard_by (feedback_at k heard.what) v
behind k entry.Lost v = record v { ends_opened = false }
behind k (entry.Sent post bytes taken) v = if post == k then record v { acted = true } else v
behind k (entry.Answered post bytes taken) v = if post == k then record v { acted = true } else v
behind k (entry.Drove post given taken) v = if post == k then driven given taken v else v
behind k (entry.Dialed port taken) v = v
behind k (entry.Ended post cause) v = if post == k then record v { acted = true; ends_opened = false } else v
