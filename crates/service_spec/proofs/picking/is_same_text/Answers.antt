use Rattle.std.proofs.Common.{◌≡◌, List, ℕ, sym, ap, ◌∙◌, chars, IsUtf8}
use Rattle.std.proofs.lemmas.Str.{encodes-chars}
use Rattle.std.specs.Prelude.{encode_utf8_all}
use Rattle.service_spec.proofs.picking.is_same_text.Goals as goal

same_bytes : (xs ys : List ℕ) → IsUtf8 xs → IsUtf8 ys → chars xs ≡ chars ys → xs ≡ ys
same_bytes xs ys one two same = sym (encodes-chars xs one) ∙ ap encode_utf8_all same ∙ encodes-chars ys two

pub returns : goal.returns
returns c = (
  λ same. ap chars (c.has_same_bytes.ensures.0 same),
  λ same. c.has_same_bytes.ensures.1 (same_bytes c.args.one.now c.args.other.now c.utf8.one c.utf8.other same),
)
