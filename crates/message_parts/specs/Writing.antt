-- Own: how far a message is written.
use Rattle.std.specs.Prelude.{◌≡◌, ℕ, ◌*◌, ◌<◌, ◌≤◌, Bool, List, [], ◌++◌, ◌∷◌, length, Option, Some, None, ◌⊎◌}
use Rattle.exi_bits.specs.declared.pen.Full.{Full}
use Rattle.exi_schema.specs.declared.places.Places.{Ghosts}
use Rattle.exi_schema.specs.Schemas.{PlainSchema}
use Rattle.exi_events.specs.Grammar.{State, Moves}
use Rattle.exi_events.specs.Trees.{Event}
use Rattle.exi_events.specs.Values.{WritesValue}
use Rattle.exi_events.specs.Writer.{draft_of}
use Rattle.exi_events.specs.declared.writer.EventWriter.{EventWriter}

-- what is to be written: all bits of a document, behind which it ends
pub record Target : Type 0 where
  pub schema : PlainSchema
  pub bits : List Bool
  pub last : State
  pub room : ℕ

-- what a contract sees of a writer
pub record Put : Type 0 where
  pub schema : PlainSchema
  pub bits : List Bool
  pub state : State
  pub room : ℕ
  pub full : Option Full

abbrev pub put_of : {P : Type 0} {p : Ghosts P} → EventWriter P p → Put
put_of {P} {p} w = record {
  schema = p.schema w.places.now;
  bits = (draft_of w).bits;
  state = (draft_of w).state;
  room = length w.room.now;
  full = w.full;
}

-- events lead from one state to another, each by the bits that are written of it
abbrev pub Leads : PlainSchema → State → List Event → List Bool → State → Type 0
Leads s old [] bits new = (bits ≡ []) × (new ≡ old)
Leads s old (event ∷ events) bits new =
    (middle : State) × (front : List Bool) × (rest : List Bool)
    × Moves WritesValue s old event front middle
    × Leads s middle events rest new
    × (bits ≡ front ++ rest)

-- nothing lacked room, and these events are left
pub record HasLeft (F : Target) (events : List Event) (w : Put) : Type 0 where
  pub open_still : w.full ≡ None
  pub left : List Bool
  pub leads : Leads F.schema w.state events left F.last
  pub bits_are : F.bits ≡ w.bits ++ left

-- all together have no room, nor those up to the event that lacks room first, which are the bits that are told
abbrev pub IsTooMuch : Target → Option Full → Type 0
IsTooMuch F None = ⊥
IsTooMuch F (Some full) = (8 * F.room < full.bits) × (full.bits ≤ length F.bits)

-- these events are left to put, or all together have no room
pub record Writes (F : Target) (events : List Event) (w : Put) : Type 0 where
  pub schema_is : w.schema ≡ F.schema
  pub room_is : w.room ≡ F.room
  pub so : HasLeft F events w ⊎ IsTooMuch F w.full
