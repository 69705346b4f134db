-- W3C EXI 1.0 (Second Edition) 7.1.10, String, and 7.3.3: how a string is spelled with the value partitions.
use Rattle.std.specs.Prelude.{◌≡◌, ◌≢◌, ℕ, ◌+◌, ◌^◌, ◌<◌, ◌≤◌, ◌⊎◌, Bool, List, [], ◌∷◌, ◌++◌, length, Some, slice_get}
use Rattle.exi_spec.specs.Bits.{number_bits}
use Rattle.exi_spec.specs.Items.{SpellsNumber, SpellsUnsigned, SpellsChars, shortest_unsigned, shortest_chars}
use Rattle.exi_strings.specs.Table.{global_of, local_of}

-- an index into m entries takes the least number of bits in which m values differ
pub record IsIndexWidth (m width : ℕ) : Type 0 where
  pub enough : m ≤ 2 ^ width
  pub least : (n : ℕ) → m ≤ 2 ^ n → width ≤ n

-- a text by its index in a partition
pub record SpellsIndex (partition : List (List ℕ)) (text : List ℕ) (bits : List Bool) : Type 0 where
  pub index : ℕ
  pub width : ℕ
  pub is_width : IsIndexWidth (length partition) width
  pub found : slice_get partition index ≡ Some text
  pub spelled : SpellsNumber width index bits

-- a number, and what it announces
abbrev pub Announces : ℕ → (List Bool → Type 0) → List Bool → Type 0
Announces n Spells bits =
    (front : List Bool) × (rest : List Bool) × SpellsUnsigned n front × Spells rest × (bits ≡ front ++ rest)

-- a text that is spelled out is entered, also where it is there already (own), unless it is empty
abbrev pub entered : List (ℕ × List ℕ) → ℕ → List ℕ → List (ℕ × List ℕ)
entered entries name [] = entries
entered entries name (char ∷ chars) = entries ++ (name, char ∷ chars) ∷ []

-- 0 announces an index of the local partition, 1 one of the global partition, and n + 2 a text of n code points
abbrev pub SpellsHit : List (ℕ × List ℕ) → ℕ → List ℕ → List Bool → Type 0
SpellsHit entries name text bits =
    Announces 0 (SpellsIndex (local_of name entries) text) bits ⊎ Announces 1 (SpellsIndex (global_of entries) text) bits

-- a text of at most so many code points, with the entries before and after it
pub record SpellsText (most : ℕ) (entries : List (ℕ × List ℕ)) (name : ℕ) (text : List ℕ) (bits : List Bool) (after : List (ℕ × List ℕ)) : Type 0 where
  pub within : length text ≤ most
  pub spelled :
      (SpellsHit entries name text bits × (after ≡ entries))
      ⊎ (Announces (length text + 2) (SpellsChars text) bits × (after ≡ entered entries name text))

-- ---- the one spelling that is written (own)

-- the first place of a text in a partition
pub record IsFirstAt (partition : List (List ℕ)) (text : List ℕ) (index : ℕ) : Type 0 where
  pub found : slice_get partition index ≡ Some text
  pub first : (k : ℕ) → k < index → slice_get partition k ≢ Some text

abbrev pub IsAbsent : List (List ℕ) → List ℕ → Type 0
IsAbsent partition text = (k : ℕ) → slice_get partition k ≢ Some text

abbrev pub WritesIndex : List (List ℕ) → List ℕ → List Bool → Type 0
WritesIndex partition text bits =
    (index : ℕ) × (width : ℕ) × IsFirstAt partition text index × IsIndexWidth (length partition) width × (bits ≡ number_bits width index)

-- a local hit goes before a global one, and either before spelling out
abbrev pub WritesHit : ℕ → List (List ℕ) → List ℕ → List Bool → Type 0
WritesHit n partition text bits = (rest : List Bool) × WritesIndex partition text rest × (bits ≡ shortest_unsigned n ++ rest)

abbrev pub WritesText : List (ℕ × List ℕ) → ℕ → List ℕ → List Bool → List (ℕ × List ℕ) → Type 0
WritesText entries name text bits after =
    (WritesHit 0 (local_of name entries) text bits × (after ≡ entries))
    ⊎ ((IsAbsent (local_of name entries) text × WritesHit 1 (global_of entries) text bits × (after ≡ entries))
    ⊎ (IsAbsent (local_of name entries) text × IsAbsent (global_of entries) text × (bits ≡ shortest_unsigned (length text + 2) ++ shortest_chars text) × (after ≡ entered entries name text)))
