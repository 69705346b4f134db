-- An offer of one dialect or of both is within its ranges, and small.
use Rattle.std.proofs.Common.{◌≡◌, ℕ, ◌≤◌, Bool, true, false, ◌&&◌, List, [], ◌∷◌, length, refl, arith, lit≤, lit<}
use Rattle.std.specs.Char.{IsScalar}
use Rattle.std.specs.List.{AllByRecursion}
use Rattle.std.proofs.Math.Utf8.{scalar, scalars}
use Rattle.charge_world.specs.declared.offer.Dialect.{Dialect}
use Rattle.charge_world.specs.declared.offer.Dialect.TheVariants.{Iso, Din}
use Rattle.document_sizes.proofs.Documents.{document_fits}
use Rattle.dialect_sizes.proofs.Narrow.{app_narrow}
use Rattle.app_schema.specs.Declarations.{negotiation_schema}
use Rattle.app_documents.specs.Trees.{Request, IsOffered, IsMessage, tree_of}
use Rattle.app_protocol.specs.Documents.{PassesBytes}
use Rattle.app_protocol.specs.Negotiation.{namespace_of}
use Rattle.session_words.specs.Plans.{IsOfferOnce}
use Rattle.car_codec_laws.specs.Offering.{entry_at, entries_of}

both : (a b : Bool) → (a && b) ≡ true → (a ≡ true) × (b ≡ true)
both true b h = (refl, h)
both false b h = absurd cc

all_scalar : (cs : List ℕ) → scalars cs ≡ true → AllByRecursion (λ char. IsScalar char) cs
all_scalar [] h = tt
all_scalar (c ∷ cs) h = let parts = both (scalar c) (scalars cs) h in (parts.0, all_scalar cs parts.1)

namespace_scalars : (d : Dialect) → scalars (namespace_of d) ≡ true
namespace_scalars Iso = refl
namespace_scalars Din = refl

namespace_short : (d : Dialect) → length (namespace_of d) ≤ 100
namespace_short Iso = lit≤ tt
namespace_short Din = lit≤ tt

entry_fits : (place : ℕ) (d : Dialect) → 1 ≤ place → place ≤ 20 → IsOffered (entry_at place d)
entry_fits place d least most = record {
  namespace_fits = namespace_short d;
  namespace_chars = all_scalar (namespace_of d) (namespace_scalars d);
  major_fits = lit< tt;
  minor_fits = lit< tt;
  schema_fits = omega arith;
  priority_least = least;
  priority_most = most;
}

first_fits : (d : Dialect) → IsOffered (entry_at 1 d)
first_fits d = entry_fits 1 d (lit≤ tt) (lit≤ tt)

second_fits : (d : Dialect) → IsOffered (entry_at 2 d)
second_fits d = entry_fits 2 d (lit≤ tt) (lit≤ tt)

pub few_dialects : (ds : List Dialect) → IsOfferOnce ds → length ds ≤ 2
few_dialects [] h = absurd h
few_dialects (Iso ∷ []) h = lit≤ tt
few_dialects (Din ∷ []) h = lit≤ tt
few_dialects (Iso ∷ Din ∷ []) h = lit≤ tt
few_dialects (Din ∷ Iso ∷ []) h = lit≤ tt
few_dialects (Iso ∷ Iso ∷ rest) h = absurd h
few_dialects (Din ∷ Din ∷ rest) h = absurd h
few_dialects (Iso ∷ Din ∷ third ∷ rest) h = absurd h
few_dialects (Din ∷ Iso ∷ third ∷ rest) h = absurd h

pub offer_within : (ds : List Dialect) → IsOfferOnce ds → IsMessage (Request (entries_of ds))
offer_within [] h = absurd h
offer_within (Iso ∷ []) h = (lit≤ tt, lit≤ tt, (first_fits Iso, tt))
offer_within (Din ∷ []) h = (lit≤ tt, lit≤ tt, (first_fits Din, tt))
offer_within (Iso ∷ Din ∷ []) h = (lit≤ tt, lit≤ tt, (first_fits Iso, (second_fits Din, tt)))
offer_within (Din ∷ Iso ∷ []) h = (lit≤ tt, lit≤ tt, (first_fits Din, (second_fits Iso, tt)))
offer_within (Iso ∷ Iso ∷ rest) h = absurd h
offer_within (Din ∷ Din ∷ rest) h = absurd h
offer_within (Iso ∷ Din ∷ third ∷ rest) h = absurd h
offer_within (Din ∷ Iso ∷ third ∷ rest) h = absurd h

abbrev small : List Dialect → Type 0
small ds = PassesBytes (Request (entries_of ds)) 1024 → ⊥

pub offer_small : (ds : List Dialect) → IsOfferOnce ds → small ds
offer_small [] h = absurd h
offer_small (Iso ∷ []) h = document_fits 2 negotiation_schema 0 (tree_of (Request (entries_of (Iso ∷ [])))) 1024 app_narrow (lit≤ tt)
offer_small (Din ∷ []) h = document_fits 2 negotiation_schema 0 (tree_of (Request (entries_of (Din ∷ [])))) 1024 app_narrow (lit≤ tt)
offer_small (Iso ∷ Din ∷ []) h = document_fits 2 negotiation_schema 0 (tree_of (Request (entries_of (Iso ∷ Din ∷ [])))) 1024 app_narrow (lit≤ tt)
offer_small (Din ∷ Iso ∷ []) h = document_fits 2 negotiation_schema 0 (tree_of (Request (entries_of (Din ∷ Iso ∷ [])))) 1024 app_narrow (lit≤ tt)
offer_small (Iso ∷ Iso ∷ rest) h = absurd h
offer_small (Din ∷ Din ∷ rest) h = absurd h
offer_small (Iso ∷ Din ∷ third ∷ rest) h = absurd h
offer_small (Din ∷ Iso ∷ third ∷ rest) h = absurd h
