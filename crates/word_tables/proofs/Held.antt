-- What a table reads of an element that is made of parts, and of one that may not be there.
use Rattle.std.proofs.Common.{◌≡◌, List, [], ◌∷◌, refl, ap}
use Rattle.tree_words.specs.Contents.{Inside, Part, holding}
use Rattle.tree_words.specs.Leaves.{number_in, number}
use Rattle.tree_words.specs.Named.{head, children}
use Rattle.tree_words.proofs.Held.{held, children_held}
use Rattle.word_tables.specs.Tables.{Table, inside, rows, simple, holding as holding_rows, attributed, meaning, leaf_in, or_empty, read}

-- what is read of an element of these parts is what they say
pub parts_read : {X : Type 0} (t : Table rows X) (parts : List Part) → read t (children (holding parts)) ≡ read t (held parts)
parts_read t parts = ap (λ c. read t c) (children_held [] parts)

-- and so of one inside of which anything of a table may stand
abbrev pub read_held : {X : Type 0} → Table inside X → List Part → X
read_held (simple leaf kind) parts = leaf_in leaf (holding parts)
read_held (holding_rows t) parts = read t (held parts)
read_held (attributed given t) parts = (read given [], read t (held parts))
read_held (meaning of from t) parts = of (read_held t parts)

pub held_read : {X : Type 0} (t : Table inside X) (parts : List Part) → read t (holding parts) ≡ read_held t parts
held_read (simple leaf kind) parts = refl
held_read (holding_rows t) parts = parts_read t parts
held_read (attributed given t) parts = ap (λ x. (read given [], x)) (parts_read t parts)
held_read (meaning of from t) parts = ap of (held_read t parts)

pub number_is : (found : List Inside) → number_in (or_empty (head found)) ≡ number found
number_is [] = refl
number_is (i ∷ more) = refl
