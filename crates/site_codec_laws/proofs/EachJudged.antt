-- ISO 15118-2:2014 section 8.2: each first payload is judged in some way.
use Rattle.std.proofs.Common.{ℕ, ◌<◌, List, Option, inl, inr, subst, lit<}
use Rattle.charge_world.specs.declared.offer.Dialect.{Dialect}
use Rattle.exi_documents.specs.Documents.{IsDocument}
use Rattle.exi_documents.specs.Trees.{Tree}
use Rattle.document_laws.specs.Laws.{AreBytes}
use Rattle.document_laws.proofs.Payloads.{payload_decided}
use Rattle.kind_laws.proofs.Encoded.{filled}
use Rattle.app_schema.specs.Declarations.{negotiation_schema}
use Rattle.app_documents.specs.Trees.{Message, Request, Response, IsByte}
use Rattle.app_documents.proofs.Encoded.{response_encoded}
use Rattle.app_documents.proofs.Fits.{of_message}
use Rattle.app_protocol.specs.declared.message.AppCode.{AppCode}
use Rattle.app_protocol.specs.declared.message.AppCode.TheVariants.{Successful, MinorDeviation, Failed}
use Rattle.app_protocol.specs.Documents.{IsApp, IsAppEncoding}
use Rattle.app_protocol.specs.Messages.{ordinal_of}
use Rattle.post_spec.specs.Codecs.{Judged, Negotiated, WrongSide, Refused}
use Rattle.site_codec_rules.specs.Negotiating.{Negotiates}
use Rattle.site_codec_laws.proofs.EachAnswer.{each_answer}

-- a response has an encoding
record IsSaid (code : ℕ) (schema : Option ℕ) : Type 0 where
  pub payload : List ℕ
  pub bytes : AreBytes payload
  pub encoded : IsAppEncoding (Response code schema) payload

said : (code : ℕ) (schema : Option ℕ) → code < 3 → IsByte schema → IsSaid code schema
said code schema few fits =
    let written = response_encoded code schema (few, fits) in
    let full = filled written.0 in
    record {
      payload = full.payload;
      bytes = full.are_bytes;
      encoded = record { number = 1; bits = written.0; pad = full.pad; spelled = written.1; few = full.few; bits_are = full.bits_are };
    }

few_codes : (code : AppCode) → ordinal_of code < 3
few_codes Successful = lit< tt
few_codes MinorDeviation = lit< tt
few_codes Failed = lit< tt

abbrev IsJudged : List Dialect → List ℕ → Type 0
IsJudged offers payload = (judged : Judged) × Negotiates offers payload judged

judged_message : (offers : List Dialect) (payload : List ℕ) (m : Message) → IsApp m payload → IsJudged offers payload
judged_message offers payload (Request protocols) spelled =
    let a = each_answer offers protocols spelled.message.2 in
    let response = said (ordinal_of a.answer.code) a.answer.schema (few_codes a.answer.code) a.schema_fits in (
      Negotiated a.chosen response.payload,
      record {
        protocols = protocols;
        answer = a.answer;
        spelled = spelled;
        negotiated = a.negotiates;
        bytes = response.bytes;
        encoded = response.encoded;
      },
    )
judged_message offers payload (Response code schema) spelled = (WrongSide, record { code = code; schema = schema; spelled = spelled })

judged_tree : (offers : List Dialect) (payload : List ℕ) (tree : Tree) → IsDocument negotiation_schema tree payload → IsJudged offers payload
judged_tree offers payload tree document =
    let m = of_message document.number tree document.bits document.spelled in
    judged_message offers payload m.0
    (record { message = m.1; document = subst (λ (t : Tree). IsDocument negotiation_schema t payload) m.2 document })

pub each_judged : (offers : List Dialect) (payload : List ℕ) → IsJudged offers payload
each_judged offers payload = elim (payload_decided negotiation_schema payload).decided [
  | inl spelled ↦ judged_tree offers payload spelled.0 spelled.1
  | inr refused ↦ (Refused, record { why = refused.0; bit = refused.1; refused = refused.2 })
]
