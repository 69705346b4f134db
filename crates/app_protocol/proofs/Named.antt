-- A namespace by its code points.
use Rattle.std.proofs.Common.{◌≡◌, ℕ, zero, suc, nat_lt, true, List, [], ◌∷◌, refl, arith, chars}
use Rattle.std.proofs.lemmas.Bool.{ltb-true}
use Rattle.std.proofs.lemmas.Str.{chars-IsAscii}
use Rattle.std.specs.List.{list_all}
use Rattle.std.specs.Str.{IsAscii}
use Rattle.exi_schema.proofs.Conditions.{and-l, and-r}
use Rattle.charge_world.specs.declared.offer.Dialect.TheVariants.{Iso, Din}
use Rattle.app_protocol.specs.Negotiation.{namespace_of}

ascii_by : (bytes : List ℕ) → list_all (λ b. nat_lt b 128) bytes ≡ true → IsAscii bytes
ascii_by [] all i = omega arith
ascii_by (b ∷ bytes) all zero = ltb-true b 128 (and-l (nat_lt b 128) (list_all (λ x. nat_lt x 128) bytes) all)
ascii_by (b ∷ bytes) all (suc i) = ascii_by bytes (and-r (nat_lt b 128) (list_all (λ x. nat_lt x 128) bytes) all) i

pub iso_chars : chars (namespace_of Iso) ≡ namespace_of Iso
iso_chars = chars-IsAscii (namespace_of Iso) (ascii_by (namespace_of Iso) refl)

pub din_chars : chars (namespace_of Din) ≡ namespace_of Din
din_chars = chars-IsAscii (namespace_of Din) (ascii_by (namespace_of Din) refl)
