-- The small reader reads each payload in one way.
use Rattle.std.proofs.Common.{◌≡◌, Bool, Some, Option, refl, sym, ◌∙◌}
use Rattle.post_spec.specs.Codecs.{codecs}
use Rattle.post_spec.specs.Spelled.{AreDetermined}
use Rattle.audit_streams.specs.Words.{JudgesFirst, JudgesLater, AnswersOnce, SpeaksOnce, AreShort}
use Rattle.audit_examples.specs.Reader.{Negotiates, Reads, Encodes, Responds, Watts, first_judged, later_word}

pub determined : AreDetermined (codecs Negotiates Reads Encodes)
determined = record {
  negotiates = λ offers payload a b is same. is ∙ sym same;
  reads = λ dialect payload a b is same. is ∙ sym same;
  encodes = λ dialect reply a b is same. is ∙ sym same;
}

pub judges_first : JudgesFirst Negotiates
judges_first offers payload short = (first_judged offers payload, refl)

pub judges_later : JudgesLater Reads
judges_later dialect payload short = (later_word payload, refl)

one : (a b : Bool) (o : Option Bool) → o ≡ Some a → o ≡ Some b → a ≡ b
one a b o is same = let x : Some a ≡ Some b = sym is ∙ same in cc

pub responds_once : AnswersOnce Responds
responds_once payload a b (fits, is) (other, same) = one a b _ is same

pub short : AreShort Responds Watts
short = record {
  responses = λ payload positive is. is.0;
  replies = λ dialect payload s is. is.0;
}

pub watts_once : SpeaksOnce Watts
watts_once dialect payload a b (fits, reply, is) (other, too, same) = is ∙ sym same
