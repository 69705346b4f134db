-- ISO 15118-2:2014, 8.2 (supportedAppProtocolReq and supportedAppProtocolRes): what laws of a pair ask of the codecs of both ends before a dialect is chosen.
use Rattle.std.specs.Prelude.{◌≡◌, ℕ, List, ◌∷◌, ◌++◌, All, Contains, Some}
use Rattle.charge_world.specs.declared.offer.Dialect.{Dialect}
use Rattle.post_spec.specs.Codecs as post
use Rattle.car_spec.specs.Codecs as car

abbrev pub IsForeign : List Dialect → Dialect → Type 0
IsForeign offers dialect = Contains offers dialect → ⊥

-- of the car's dialects, in order of preference, the first that the post speaks too
pub record IsPreferred (offers dialects : List Dialect) (dialect : Dialect) : Type 0 where
  pub before : List Dialect
  pub behind : List Dialect
  pub dialects_are : dialects ≡ before ++ dialect ∷ behind
  pub offered : Contains offers dialect
  pub earlier : All (IsForeign offers) before

-- the post, which speaks these, chooses that dialect for the car's request, and the car, which offered those, reads the response as that choice
pub record AreAgreed (c : post.Codecs) (cc : car.Codecs) (offers dialects : List Dialect) (request : List ℕ) : Type 0 where
  pub dialect : Dialect
  pub preferred : IsPreferred offers dialects dialect
  pub response : List ℕ
  pub negotiated : c.Negotiates offers request (post.Negotiated (Some dialect) response)
  pub chosen : cc.Responds dialects response (car.Chosen (Some dialect))

-- where both speak some dialect, they agree so
pub record AgreeOnShared (c : post.Codecs) (cc : car.Codecs) : Type 0 where
  pub agree : (offers dialects : List Dialect) (shared : Dialect) (request : List ℕ) → Contains offers shared → Contains dialects shared
      → cc.Offers dialects request → AreAgreed c cc offers dialects request
