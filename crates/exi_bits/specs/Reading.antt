-- Own: a place in the bits of a payload, and what a step from one place to a later one passes.
use Rattle.std.specs.Prelude.{◌≡◌, ℕ, ◌+◌, ◌≤◌, Bool, List, ◌++◌, length, drop, ◌⊎◌}

-- all bits, and the next one
pub record Cursor : Type 0 where
  pub bits : List Bool
  pub place : ℕ

-- the bits that are left
abbrev pub ahead : Cursor → List Bool
ahead cursor = drop cursor.place cursor.bits

-- these bits stand at a place, n of them
pub record StandsAt (bits : List Bool) (place n : ℕ) (front : List Bool) : Type 0 where
  pub long : length front ≡ n
  pub there : drop place bits ≡ front ++ drop (place + n) bits

-- from one place to the other the cursor passed these bits
pub record Passes (old new : Cursor) (front : List Bool) : Type 0 where
  pub same : new.bits ≡ old.bits
  pub moved : new.place ≡ old.place + length front
  pub there : ahead old ≡ front ++ ahead new

-- it passed the spelling of an item
abbrev pub Takes : (List Bool → Type 0) → Cursor → Cursor → Type 0
Takes Spells old new = (front : List Bool) × Spells front × Passes old new front

-- an item that n bits spell stands at a place
abbrev pub ItemAt : (List Bool → Type 0) → List Bool → ℕ → ℕ → Type 0
ItemAt Spells bits place n = (front : List Bool) × Spells front × StandsAt bits place n front

-- a cursor, and how many of the bits that are left can be taken at once
pub record Window : Type 0 where
  pub cursor : Cursor
  pub held : ℕ

-- at least 57 bits are held, or all that are left
abbrev pub HoldsNext : Window → Type 0
HoldsNext window = (57 ≤ window.held) ⊎ (window.cursor.place + window.held ≡ length window.cursor.bits)

-- the bits that are held begin with the spelling of an item, of at most so many bits
pub record HoldsWhole (Spells : List Bool → Type 0) (most : ℕ) (window : Window) : Type 0 where
  pub front : List Bool
  pub rest : List Bool
  pub spelled : Spells front
  pub few : length front ≤ most
  pub within : length front ≤ window.held
  pub there : ahead window.cursor ≡ front ++ rest

-- where what is held ends, it ends afterwards
abbrev pub HoldsOn : Window → Window → Type 0
HoldsOn old new = new.cursor.place + new.held ≡ old.cursor.place + old.held
