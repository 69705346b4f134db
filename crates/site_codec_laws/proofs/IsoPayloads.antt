-- ISO 15118-2:2014: a payload has one word, a reply has one encoding, and that reads as the reply.
use Rattle.std.proofs.Common.{◌≡◌, ℕ, List, Option, Some, None, refl, ap, subst}
use Rattle.exi_documents.specs.Documents.{IsEncoding}
use Rattle.document_laws.specs.Laws.{AreBytes}
use Rattle.document_laws.proofs.Encodings as encodings
use Rattle.document_laws.proofs.Payloads.{payload_decided}
use Rattle.message_parts.specs.Contents.{Inside}
use Rattle.session_words.specs.declared.word.Reply.{Reply}
use Rattle.session_words.specs.declared.word.Word.{Word}
use Rattle.session_words.specs.declared.word.Word.TheVariants as word
use Rattle.post_spec.specs.Spelled.{read_back}
use Rattle.iso_schema.specs.Declarations.{schema}
use Rattle.iso_tables.specs.Words.{root}
use Rattle.site_codec_rules.proofs.IsoPayloads.{one_word, one_inside, reads_back}
use Rattle.site_codec_rules.specs.IsoPayloads as payloads
use Rattle.site_codec_rules.specs.Iso.{IsNone, Reads, Encodes}

apart : (payload : List ℕ) (w : Word) → payloads.Reads payload w → IsNone payload → ⊥
apart payload w s n = (payload_decided schema payload).apart s.tree n.why n.bit s.document n.refused

pub one_read : (payload : List ℕ) (a b : Option Word) → Reads payload a → Reads payload b → a ≡ b
one_read payload None None r s = refl
one_read payload None (Some w) r s = absurd (apart payload w s r)
one_read payload (Some w) None r s = absurd (apart payload w r s)
one_read payload (Some w) (Some v) r s = ap (λ (x : Word). Some x) (one_word payload w v r s)

pub one_written : (w : Word) (a b : List ℕ) → AreBytes a → AreBytes b → payloads.IsWrittenFor w a → payloads.IsWrittenFor w b → a ≡ b
one_written w a b are be e f =
    let same : f.own ≡ e.own = one_inside w f.own e.own f.own_is e.own_is in
    encodings.one_encoding schema (root e.own) a b are be e.encoding (subst (λ (i : Inside). IsEncoding schema (root i) b) same f.encoding)

pub one_encoded : (reply : Reply) (a b : List ℕ) → Encodes reply a → Encodes reply b → a ≡ b
one_encoded reply a b e f = one_written (word.Reply reply) a b e.bytes f.bytes e.written f.written

pub encoded_read : (reply : Reply) (payload : List ℕ) → Encodes reply payload → Reads payload (Some (word.Reply (read_back reply)))
encoded_read reply payload e = reads_back (word.Reply reply) payload e.can e.written
