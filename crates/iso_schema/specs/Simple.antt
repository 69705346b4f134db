-- ISO 15118-2:2014 8.5, data types without parts.
use Rattle.std.specs.Prelude.{pos, negsuc, List, [], ◌∷◌}
use Rattle.exi_schema.specs.declared.tables.Datatype.TheVariants.{Bool as BoolType, Named, Bounded, Unsigned, Signed, Binary, Text}
use Rattle.exi_schema.specs.Plain.{PlainKind, valued, containing}

abbrev pub simple : List PlainKind
simple =
    valued BoolType ∷ valued (Bounded (negsuc 127) 256) ∷ valued (Signed (negsuc 32767) (pos 32767))
    ∷ valued (Signed (negsuc 2147483647) (pos 2147483647)) ∷ valued (Signed (negsuc 9223372036854775807) (pos 9223372036854775807))
    ∷ valued (Unsigned 65535) ∷ valued (Unsigned 4294967295) ∷ valued (Unsigned 18446744073709551615)
    ∷ valued (Bounded (negsuc 2) 7) ∷ valued (Bounded (pos 0) 101) ∷ valued (Bounded (pos 1) 255) ∷ valued (Bounded (pos 1) 3)
    ∷ valued (Unsigned 16777214) ∷ valued (Unsigned 86400) ∷ valued (Text 32) ∷ valued (Text 37) ∷ valued (Text 64)
    ∷ valued (Binary 6) ∷ valued (Binary 8) ∷ valued (Binary 16) ∷ valued (Binary 64) ∷ valued (Named 3) ∷ valued (Named 7)
    ∷ valued (Named 12) ∷ valued (Named 3) ∷ valued (Named 5) ∷ valued (Named 12) ∷ valued (Named 26) ∷ valued (Named 4)
    ∷ valued (Named 2) ∷ valued (Named 6) ∷ valued (Named 3) ∷ valued (Named 2) ∷ valued (Named 3) ∷ containing [] [] ∷ []
