-- ISO 15118-2:2014, section 8.2: the response to a negotiation that a payload spells.
use Rattle.std.specs.Prelude.{◌≡◌, ◌==◌, ◌||◌, ℕ, Bool, List, Option}
use Rattle.v2gtp_frames.specs.Frames.{IsPayload}
use Rattle.app_documents.specs.Trees.{Response}
use Rattle.app_protocol.specs.declared.message.AppCode.TheVariants.{Successful, MinorDeviation}
use Rattle.app_protocol.specs.Documents.{IsApp}
use Rattle.app_protocol.specs.Messages.{ordinal_of}

-- OK_SuccessfulNegotiation and OK_SuccessfulNegotiationWithMinorDeviation
abbrev pub is_positive : ℕ → Bool
is_positive code = (code == ordinal_of Successful) || (code == ordinal_of MinorDeviation)

-- the payload of a frame spells a response, which is positive, or isn't
pub record Responds (payload : List ℕ) (positive : Bool) : Type 0 where
  pub short : IsPayload payload
  pub code : ℕ
  pub schema : Option ℕ
  pub spelled : IsApp (Response code schema) payload
  pub positive_is : positive ≡ is_positive code
