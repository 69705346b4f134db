-- The reader reads each payload in one way, and in some way.
use Rattle.std.proofs.Common.{◌≡◌, ℕ, List, Option, ap, sym, ◌∙◌}
use Rattle.document_laws.proofs.Payloads.{payload_decided}
use Rattle.app_schema.specs.Declarations.{negotiation_schema}
use Rattle.app_documents.specs.Trees.{Message, Request, Response, tree_of}
use Rattle.app_documents.proofs.OneMessage.{one_message}
use Rattle.app_protocol.specs.Documents.{IsApp}
use Rattle.site_codec_laws.specs.Codecs.{Reads}
use Rattle.site_codec_laws.specs.Negotiating.{Negotiates}
use Rattle.site_codec_laws.proofs.Lawful.{judges_all}
use Rattle.audit_streams.specs.Words.{JudgesFirst, JudgesLater, AnswersOnce, SpeaksOnce, AreShort}
use Rattle.reply_watts.specs.Watts.{Watts}
use Rattle.reply_watts.proofs.Payloads.{told_once, of_frame}
use Rattle.told_codecs.specs.Responses.{is_positive, Responds}

pub same_message : (payload : List ℕ) (m n : Message) → IsApp m payload → IsApp n payload → m ≡ n
same_message payload m n a b =
    one_message m n ((payload_decided negotiation_schema payload).one_tree (tree_of m) (tree_of n) a.document b.document)

abbrev code_of : Message → ℕ
code_of (Request protocols) = 0
code_of (Response code schema) = code

pub same_code : (payload : List ℕ) (a b : ℕ) (s t : Option ℕ) → IsApp (Response a s) payload → IsApp (Response b t) payload → a ≡ b
same_code payload a b s t m n = ap code_of (same_message payload (Response a s) (Response b t) m n)

pub judges_first : JudgesFirst Negotiates
judges_first offers payload short = judges_all.negotiates offers payload

pub judges_later : JudgesLater Reads
judges_later d payload short = judges_all.reads d payload

pub responds_once : AnswersOnce Responds
responds_once payload a b r s =
    r.positive_is ∙ ap is_positive (same_code payload r.code s.code r.schema s.schema r.spelled s.spelled) ∙ sym s.positive_is

pub short : AreShort Responds Watts
short = record {
  responses = λ payload positive r. r.short;
  replies = of_frame;
}

pub watts_once : SpeaksOnce Watts
watts_once = told_once
