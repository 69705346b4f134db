-- ISO 15118-2:2014, section 8.2 (supportedAppProtocolReq): the offer of a car. That SchemaID and Priority count its dialects is own.
use Rattle.std.specs.Prelude.{ℕ, ◌+◌, List, [], ◌∷◌}
use Rattle.charge_world.specs.declared.offer.Dialect.{Dialect}
use Rattle.document_laws.specs.Laws.{AreBytes}
use Rattle.app_documents.specs.Trees.{Offered, Request}
use Rattle.app_protocol.specs.Documents.{IsAppEncoding}
use Rattle.app_protocol.specs.Negotiation.{namespace_of, major_of, minor_of}

-- a dialect at its place among those on offer, counted from 1
abbrev pub entry_at : ℕ → Dialect → Offered
entry_at place dialect = record {
  namespace = namespace_of dialect;
  major = major_of dialect;
  minor = minor_of dialect;
  schema = place;
  priority = place;
}

-- dialects, of which the first has this place
abbrev pub entries_from : ℕ → List Dialect → List Offered
entries_from place [] = []
entries_from place (dialect ∷ dialects) = entry_at place dialect ∷ entries_from (place + 1) dialects

-- the entries of an offer, in order of preference
abbrev pub entries_of : List Dialect → List Offered
entries_of dialects = entries_from 1 dialects

-- the encoding of the request that has them
pub record Offers (dialects : List Dialect) (payload : List ℕ) : Type 0 where
  pub bytes : AreBytes payload
  pub encoded : IsAppEncoding (Request (entries_of dialects)) payload
