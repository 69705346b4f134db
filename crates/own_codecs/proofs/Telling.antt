-- The codecs of a site tell its own words to whoever reads its trace by them.
use Rattle.std.proofs.Common.{◌≡◌, ◌≤◌, ◌<◌, ℕ, ◌==◌, Bool, true, false, if◌then◌else◌, List, [], ◌∷◌, ◌++◌, length, Option, Some, None, is_some, refl, sym, subst, arith, lit≤}
use Rattle.std.specs.List.{AllByRecursion}
use Rattle.charge_world.specs.declared.offer.Dialect.{Dialect}
use Rattle.charge_world.specs.declared.offer.Dialect.TheVariants as dialect
use Rattle.session_words.specs.declared.word.Reply.{Reply}
use Rattle.session_words.specs.declared.word.Tell.{Tell}
use Rattle.session_words.specs.declared.word.Tell.TheVariants as tell
use Rattle.session_words.specs.declared.word.Word.{Word}
use Rattle.session_words.specs.declared.word.Word.TheVariants as word
use Rattle.app_documents.specs.Trees.{Request, Response, IsMessage, IsOffered}
use Rattle.app_protocol.specs.Messages.{Protocol, ordinal_of}
use Rattle.app_protocol.specs.Negotiation as rule
use Rattle.app_protocol.specs.declared.message.AppCode.{AppCode}
use Rattle.app_protocol.specs.declared.message.AppCode.TheVariants as code
use Rattle.app_protocol.specs.declared.message.AppRes.{AppRes}
use Rattle.app_protocol.proofs.Encodings.{read_back, response_bytes}
use Rattle.post_spec.specs.Spelled as spelled
use Rattle.message_tables.specs.Laws.{told_bytes}
use Rattle.told_codecs.proofs.IsoWords as iso_payloads
use Rattle.told_codecs.proofs.DinWords as din_payloads
use Rattle.told_codecs.specs.Site.{Reads, Encodes}
use Rattle.told_codecs.specs.Negotiating.{Negotiates}
use Rattle.told_codecs.specs.Iso as iso
use Rattle.told_codecs.specs.Din as din
use Rattle.told_codecs.proofs.Lawful as lawful
use Rattle.told_pasts.specs.Spelling.{ToldCodecs}
use Rattle.faultless_pasts.specs.Faultless.{told_codecs}
use Rattle.told_codecs.specs.Replies.{IsReply}
use Rattle.told_codecs.specs.Watts.{Watts}
use Rattle.told_codecs.specs.Laws as laws
use Rattle.told_codecs.specs.Responses.{is_positive, Responds}
use Rattle.own_courses.specs.Owning.{RespondsRightly, SpellsWatts, TellsOwn}

abbrev pub own : ToldCodecs
own = told_codecs Negotiates Reads Encodes Responds Watts

-- ---- the response to a negotiation

entry_byte : (before : List Protocol) (p : Protocol) (behind : List Protocol) → AllByRecursion (λ q. IsOffered q) (before ++ p ∷ behind) → IsOffered p
entry_byte [] p behind all = all.0
entry_byte (q ∷ before) p behind all = entry_byte before p behind all.1

few : (x : AppCode) → ordinal_of x < 3
few code.Successful = omega arith
few code.MinorDeviation = omega arith
few code.Failed = omega arith

positive_minor : (b : Bool) → true ≡ is_positive (ordinal_of (if b then code.Successful else code.MinorDeviation))
positive_minor true = refl
positive_minor false = refl

entry_of : (request before behind : List Protocol) (p : Protocol) → request ≡ before ++ p ∷ behind → IsMessage (Request request) → p.schema < 256
entry_of request before behind p is m = (entry_byte before p behind (subst (AllByRecursion (λ q. IsOffered q)) is m.2)).schema_fits

-- the answer is a response, and positive where a dialect was chosen
pub record IsAnswer (answer : AppRes) (chosen : Option Dialect) : Type 0 where
  pub message : IsMessage (Response (ordinal_of answer.code) answer.schema)
  pub sign : is_some chosen ≡ is_positive (ordinal_of answer.code)

answers : (offers : List Dialect) (request : List Protocol) (answer : AppRes) (chosen : Option Dialect) → IsMessage (Request request)
    → rule.Negotiates offers request answer chosen → IsAnswer answer chosen
answers offers request answer None m (none, is) =
    subst (λ (a : AppRes). IsAnswer a None) (sym is) (record { message = (few code.Failed, tt); sign = refl })
answers offers request answer (Some d) m (p, chosen, is) =
    subst (λ (a : AppRes). IsAnswer a (Some d)) (sym is) (record {
      message = (few (rule.code_for p.minor d), entry_of request chosen.before chosen.behind p chosen.request_is m);
      sign = positive_minor (p.minor == rule.minor_of d);
    })

responds : RespondsRightly own
responds offers payload chosen response n =
    let a = answers offers n.protocols n.answer chosen n.spelled.message n.negotiated in
    record {
      short = omega (arith, response_bytes (ordinal_of n.answer.code) n.answer.schema response n.encoded);
      code = ordinal_of n.answer.code;
      schema = n.answer.schema;
      spelled = read_back (Response (ordinal_of n.answer.code) n.answer.schema) response a.message n.encoded;
      positive_is = a.sign;
    }

-- ---- a reply is short

told_few : (few : ℕ) → few ≤ 65536 → (t : Tell) → told_bytes few t ≤ 65536
told_few few h (tell.ChargeParameters processing schedule limits) = omega arith
told_few few h t = h

iso_short : (reply : Reply) (payload : List ℕ) → iso.Encodes reply payload → length payload ≤ 65536
iso_short reply payload e = omega (arith, iso_payloads.short (word.Reply reply) payload e.can e.written, told_few 320 (lit≤ tt) reply.tell)

din_short : (reply : Reply) (payload : List ℕ) → din.Encodes reply payload → length payload ≤ 65536
din_short reply payload e = omega (arith, din_payloads.short (word.Reply reply) payload e.can e.written, told_few 256 (lit≤ tt) reply.tell)

-- ---- so its watts are told

is_reply : (w : Word) (reply : Reply) → word.Reply reply ≡ w → IsReply w
is_reply w reply e = subst IsReply e tt

spells : SpellsWatts own
spells dialect.Iso reply payload e single =
    let r = lawful.reads_back dialect.Iso reply payload e in
    (_, record { short = iso_short reply payload e; tree = r.tree; document = r.document; spelled = (is_reply _ (spelled.read_back reply) r.word_is, refl) })
spells dialect.Din reply payload e single =
    let r = lawful.reads_back dialect.Din reply payload e in
    (_, record { short = din_short reply payload e; tree = r.tree; document = r.document; spelled = (is_reply _ (spelled.read_back reply) r.word_is, refl) })

pub tells_own : TellsOwn own
tells_own = record {
  reads_back = lawful.reads_back;
  determined = lawful.are_determined;
  judges = lawful.judges_all;
  negotiates_first = λ offers payload request none. none;
  responds = responds;
  spells = spells;
  responds_once = laws.responds_once;
}
