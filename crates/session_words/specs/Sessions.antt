-- Own: the identifier that a post gives to a session.
use Rattle.std.specs.Prelude.{ℕ, List, max}
use Rattle.std.specs.Int.{to_be_bytes, w64}

-- the token's eight bytes, the highest first; token 0 counts as 1
abbrev pub token_bytes : ℕ → List ℕ
token_bytes token = to_be_bytes w64 (max 1 token)
