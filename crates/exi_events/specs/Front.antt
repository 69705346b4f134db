-- W3C EXI 1.0 (Second Edition) 5, EXI Header, and 8.4.1: the front of a document.
use Rattle.std.specs.Prelude.{◌≡◌, ℕ, Bool, List, ◌++◌}
use Rattle.exi_spec.specs.Items.{SpellsNumber}
use Rattle.exi_schema.specs.Schemas.{PlainSchema}
use Rattle.exi_writing.specs.Documents.{header}

-- the header byte
abbrev pub SpellsHeader : List Bool → Type 0
SpellsHeader bits = bits ≡ header

-- and a document number behind it
abbrev pub SpellsFront : PlainSchema → ℕ → List Bool → Type 0
SpellsFront s number bits = (front : List Bool) × SpellsNumber s.root_bits number front × (bits ≡ header ++ front)
