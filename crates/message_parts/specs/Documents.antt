-- Own: what is written of a document, as far as the schema says it.
use Rattle.std.specs.Prelude.{◌≡◌, ℕ, ◌*◌, ◌<◌, ◌≤◌, Bool, List, length}
use Rattle.exi_schema.specs.Schemas.{PlainSchema}
use Rattle.exi_events.specs.Documents.{SpellsDocument}
use Rattle.exi_events.specs.Trees.{Tree}
use Rattle.exi_events.specs.Values.{WritesValue}

-- some bits are written for it
abbrev pub IsWritable : PlainSchema → ℕ → Tree → Type 0
IsWritable s number tree = (bits : List Bool) × SpellsDocument WritesValue s number tree bits

-- they are more than so many bytes hold
abbrev pub PassesBytes : PlainSchema → ℕ → Tree → ℕ → Type 0
PassesBytes s number tree bytes =
    (bits : List Bool) × SpellsDocument WritesValue s number tree bits × (8 * bytes < length bits)

-- of a count so much is told: all of it, where 65,536 bytes have as many bits; else more than those have, and no more than all
pub record CountsBits (count told : ℕ) : Type 0 where
  pub exactly : count ≤ 8 * 65536 → told ≡ count
  pub more : 8 * 65536 < count → 8 * 65536 < told
  pub most : told ≤ count

-- how many bits are written for it is told
abbrev pub TellsBits : PlainSchema → ℕ → Tree → ℕ → Type 0
TellsBits s number tree told = (bits : List Bool) → SpellsDocument WritesValue s number tree bits → CountsBits (length bits) told
