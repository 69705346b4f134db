-- W3C XML PlainSchema Part 1: Structures (Second Edition) 3.8.6, Element Declarations Consistent, and 3.4.6, Complex Type Definition Properties
-- Correct: inside one kind the elements of one name are of one kind, and so are the attributes of one name.
use Rattle.std.specs.Prelude.{ℕ, ◌==◌, ◌&&◌, ◌||◌, not, Bool, true, false, List, Option, Some, None}
use Rattle.std.specs.List.{list_all}
use Rattle.exi_schema.specs.Plain.{PlainKind, valued, containing}
use Rattle.exi_schema.specs.Schemas.{is_taken}
use Rattle.dialect_text.specs.Dialect.{attribute_named, element_named}

abbrev pub is_that : Option ℕ → ℕ → Bool
is_that None kind = false
is_that (Some other) kind = other == kind

abbrev pub is_consistent : PlainKind → Bool
is_consistent (valued datatype) = true
is_consistent (containing attributes particles) =
    list_all (λ attribute. is_that (attribute_named attributes attribute.name) attribute.kind) attributes
    && list_all (λ particle. list_all (λ member. not (is_taken member.standing) || is_that (element_named particles member.name) member.kind) particle.members) particles

abbrev pub are_consistent : List PlainKind → Bool
are_consistent kinds = list_all is_consistent kinds
