-- Own: the values of elements. An element that isn't there, or has another value, counts as the least one.
use Rattle.std.specs.Prelude.{ℕ, ℤ, pos, Bool, false, List, [], ◌∷◌}
use Rattle.exi_documents.specs.Trees.{Truth, Ordinal, Number, Bytes, Text}
use Rattle.message_parts.specs.Contents.{Inside, Of}

abbrev pub truth_in : Inside → Bool
truth_in (Of (Truth truth)) = truth
truth_in other = false

abbrev pub ordinal_in : Inside → ℕ
ordinal_in (Of (Ordinal ordinal)) = ordinal
ordinal_in other = 0

abbrev pub number_in : Inside → ℤ
number_in (Of (Number number)) = number
number_in other = pos 0

-- a number that isn't below 0
abbrev pub natural_in : Inside → ℕ
natural_in (Of (Number (pos number))) = number
natural_in other = 0

abbrev pub bytes_in : Inside → List ℕ
bytes_in (Of (Bytes bytes)) = bytes
bytes_in other = []

-- its code points
abbrev pub text_in : Inside → List ℕ
text_in (Of (Text chars)) = chars
text_in other = []

-- of the first of these
abbrev pub number : List Inside → ℤ
number [] = pos 0
number (inside ∷ more) = number_in inside
