-- Own: a small schema, of a lamp with a name, and tables of it: one that fits, and others that each lack something.
use Rattle.std.specs.Prelude.{ℕ, pos, Bool, true, List, [], ◌∷◌, codes, Option, None}
use Rattle.exi_schema.specs.declared.tables.Datatype.TheVariants.{Bool as BoolType, Bounded, Text as TextType}
use Rattle.exi_schema.specs.Plain.{PlainKind, valued, containing, once as one_element, perhaps as perhaps_element, up_to}
use Rattle.tree_words.specs.Particles.{must}
use Rattle.word_tables.specs.Tables.{Table, inside, rows, attribute_rows, flag, natural, text, simple, holding, attributed, nothing, once, perhaps, each, no_attributes, attribute_row, ◌▷◌}

-- its name is an attribute; its elements are whether it shines, perhaps a note, and one or two hours
abbrev pub kinds : List PlainKind
kinds =
    valued BoolType ∷ valued (TextType 20) ∷ valued (Bounded (pos 0) 24)
    ∷ containing (must 0 1 ∷ []) (one_element 1 0 ∷ perhaps_element 2 1 ∷ up_to 2 3 2 ∷ []) ∷ []

abbrev pub Hours : Type 0
Hours = List ℕ × Unit {0}

abbrev pub hours : Table rows Hours
hours = each 3 1 2 (simple natural 2) ▷ nothing

abbrev pub Parts : Type 0
Parts = Bool × (Option (List ℕ) × Hours)

abbrev pub parts : Table rows Parts
parts = once 1 (simple flag 0) ▷ perhaps 2 (simple text 1) ▷ hours

abbrev pub Name : Type 0
Name = List ℕ × Unit {0}

abbrev pub name : Table attribute_rows Name
name = attribute_row 0 text 1 no_attributes

abbrev pub lamp : Table inside (Name × Parts)
lamp = attributed name parts

-- a lamp in the hall that shines from 7 to 9
abbrev pub hall : Name × Parts
hall = ((codes "Hall", tt), (true, (None, (7 ∷ 9 ∷ [], tt))))

-- ---- tables that lack something

abbrev pub nameless : Table inside Parts
nameless = holding parts

abbrev pub named_by_hours : Table inside ((ℕ × Unit {0}) × Parts)
named_by_hours = attributed (attribute_row 0 natural 2 no_attributes) parts

abbrev pub named_twice : Table inside ((List ℕ × Name) × Parts)
named_twice = attributed (attribute_row 0 text 1 name) parts

abbrev pub without_hours : Table inside (Name × (Bool × Unit {0}))
without_hours = attributed name (once 1 (simple flag 0) ▷ nothing)

abbrev pub with_another : Table inside (Name × (Bool × (Bool × Hours)))
with_another = attributed name (once 1 (simple flag 0) ▷ once 4 (simple flag 0) ▷ hours)

abbrev pub shining_by_hours : Table inside (Name × (ℕ × Hours))
shining_by_hours = attributed name (once 1 (simple natural 2) ▷ hours)

abbrev pub shining_twice : Table inside (Name × (Bool × (Bool × Hours)))
shining_twice = attributed name (once 1 (simple flag 0) ▷ once 1 (simple flag 0) ▷ hours)

abbrev pub hours_first : Table inside (Name × (List ℕ × (Bool × Unit {0})))
hours_first = attributed name (each 3 1 2 (simple natural 2) ▷ once 1 (simple flag 0) ▷ nothing)

abbrev pub many_hours : Table inside (Name × (Bool × Hours))
many_hours = attributed name (once 1 (simple flag 0) ▷ each 3 1 3 (simple natural 2) ▷ nothing)
