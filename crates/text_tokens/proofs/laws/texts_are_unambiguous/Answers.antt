use Rattle.std.proofs.lemmas.Fmt.{decimal_injective}
use Rattle.text_tokens.proofs.Digits.{hex_injective, identifier_injective}
use Rattle.text_tokens.proofs.Splits.{same_line}
use Rattle.text_tokens.proofs.laws.texts_are_unambiguous.Goals as goal

pub returns : goal.returns
returns c = record { numbers = decimal_injective; bytes = hex_injective; identifiers = identifier_injective; lines = same_line }
