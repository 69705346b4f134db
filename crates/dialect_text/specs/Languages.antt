-- Own: how a text goes on, and how far. A language is one of texts in UTF-8, a front is a list of characters.
use Rattle.std.specs.Prelude.{◌≡◌, ◌⊎◌, ℕ, ◌<◌, List, [], ◌∷◌, ◌++◌, length}
use Rattle.std.specs.Str.{encode_utf8_all}
use Rattle.exi_schema.specs.Schemas.{PlainSchema}
use Rattle.exi_documents.specs.Trees.{Event}
use Rattle.dialect_text.specs.Dialect.{Standing, Within, Adds}

-- from a standing these events, the oldest first, with this text lead behind the root
abbrev pub Goes : PlainSchema → Standing → List Event → List ℕ → Type 0
Goes s standing [] text = (text ≡ []) × (standing ≡ Within [])
Goes s standing (event ∷ events) text =
    (after : Standing) × (added : List ℕ) × (rest : List ℕ)
    × Adds s standing event added after
    × Goes s after events rest
    × (text ≡ added ++ rest)

-- the texts that may follow at a standing
abbrev pub Completes : PlainSchema → Standing → List ℕ → Type 0
Completes s standing text = (events : List Event) × Goes s standing events text

-- another text is the same for more than so many characters, or throughout
pub record Shares (count : ℕ) (rest other : List ℕ) : Type 0 where
  pub front : List ℕ
  pub more : List ℕ
  pub odd : List ℕ
  pub stands : rest ≡ encode_utf8_all front ++ more
  pub others : other ≡ encode_utf8_all front ++ odd
  pub enough : (count < length front) ⊎ ((more ≡ []) × (odd ≡ []))

-- where a front is taken and a text is left, the texts of one language are those that have the front and one of another language behind it,
-- if they go on as the text does
pub record Leads (old : List ℕ → Type 0) (front rest : List ℕ) (new : List ℕ → Type 0) : Type 0 where
  pub from : (text : List ℕ) → new text → old (encode_utf8_all front ++ text)
  pub to : (text : List ℕ) → Shares 0 rest text → old (encode_utf8_all front ++ text) → new text

-- a text is none of the language, and this is its longest front that begins one; where none begins one at all it is empty
pub record Stalls (L : List ℕ → Type 0) (rest front : List ℕ) : Type 0 where
  pub more : List ℕ
  pub stands : rest ≡ encode_utf8_all front ++ more
  pub begins : (front ≡ []) ⊎ ((other : List ℕ) × L (encode_utf8_all front ++ other))
  pub none_further : (text : List ℕ) → Shares (length front) rest text → L text → ⊥
