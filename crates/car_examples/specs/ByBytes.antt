-- ISO 15118-2:2014, section 8.8.4, and IEC 61851-23: examples of pasts whose bytes mandate an order to close, and of some whose bytes don't.
use Rattle.std.specs.Prelude.{◌≡◌, ℕ, true, List, [], ◌∷◌, length, Option, Some, None}
use Rattle.charge_world.specs.declared.entry.Entry.{Entry}
use Rattle.charge_world.specs.declared.entry.Entry.TheVariants as entry
use Rattle.charge_world.specs.declared.heard.What.TheVariants as what
use Rattle.charge_world.specs.declared.offer.Dialect.TheVariants as dialect
use Rattle.session_words.specs.declared.code.Code.TheVariants as code
use Rattle.session_words.specs.declared.code.Processing.TheVariants as processing
use Rattle.session_words.specs.declared.word.Ask.{Ask}
use Rattle.session_words.specs.declared.word.Ask.TheVariants as ask
use Rattle.session_words.specs.declared.word.Reply.{Reply}
use Rattle.session_words.specs.declared.word.Request.{Request}
use Rattle.session_words.specs.declared.word.Tell.{Tell}
use Rattle.session_words.specs.declared.word.Word.{Word}
use Rattle.session_words.specs.declared.word.Word.TheVariants as word
use Rattle.session_rules.specs.Offers.{amount}
use Rattle.v2gtp_frames.specs.Frames.{frame}
use Rattle.car_spec.specs.Codecs.{Chosen, Codecs}
use Rattle.car_spec.specs.Mandated.{CarMandated}
use Rattle.car_examples.specs.Fixtures.{dc_car, named, cable_check, pre_charge}

-- codecs of their own: the response chooses ISO 15118-2, and the number of a payload's bytes tells its word. A request is for a cable check or a
-- pre-charge to 400.0 V; a reply says Finished, or a voltage 20.0 V or 20.1 V off
abbrev pub asks : Ask → Request
asks a = record { session = named; ask = a }

abbrev pub says_so : Tell → Reply
says_so told = record { session = named; code = code.Ok; tell = told }

abbrev pub check : Request
check = asks (ask.CableCheck true 20)

abbrev pub charge : Request
charge = asks (ask.PreCharge true 20 (amount 4000) (amount 1000))

abbrev pub finished : Reply
finished = says_so (cable_check processing.Finished)

abbrev pub near : Reply
near = says_so (pre_charge 3800)

abbrev pub far : Reply
far = says_so (pre_charge 3799)

abbrev pub spelled : List ℕ → Option Word
spelled [] = None
spelled (a ∷ []) = Some (word.Request check)
spelled (a ∷ (b ∷ [])) = Some (word.Reply finished)
spelled (a ∷ (b ∷ (c ∷ []))) = Some (word.Request charge)
spelled (a ∷ (b ∷ (c ∷ (d ∷ [])))) = Some (word.Reply near)
spelled (a ∷ (b ∷ (c ∷ (d ∷ (e ∷ rest))))) = Some (word.Reply far)

abbrev pub counted : Codecs
counted = record {
  Offers = λ dialects payload. Unit {0};
  Responds = λ dialects payload judged. judged ≡ Chosen (Some dialect.Iso);
  Reads = λ d payload told. told ≡ spelled payload;
  Encodes = λ d request payload. Unit {0};
}

-- a past, the newest entry first
abbrev pub came : List Entry
came = entry.Heard (record { at = 0; what = what.Came 1 1 }) [] ∷ []

abbrev pub said_then : List ℕ → List Entry → List Entry
said_then payload past = entry.Sent 1 (frame payload) true ∷ past

abbrev pub heard_then : List ℕ → List Entry → List Entry
heard_then payload past = entry.Heard (record { at = 0; what = what.Bytes 1 (length (frame payload)) }) (frame payload) ∷ past

-- the offer and the response, the cable check, and the pre-charge with this reply
abbrev pub talked : List ℕ → List Entry
talked last = heard_then last (said_then (0 ∷ 0 ∷ 0 ∷ []) (heard_then (0 ∷ 0 ∷ []) (said_then (0 ∷ []) (heard_then [] (said_then [] came)))))

-- a voltage within 20.0 V mandates the car to close
abbrev pub MandatedNear : Type 0
MandatedNear = CarMandated counted dc_car (talked (0 ∷ 0 ∷ 0 ∷ 0 ∷ []))

-- one 20.1 V off doesn't
abbrev pub UnmandatedFar : Type 0
UnmandatedFar = CarMandated counted dc_car (talked (0 ∷ 0 ∷ 0 ∷ 0 ∷ 0 ∷ [])) → ⊥

-- and nothing at all doesn't
abbrev pub UnmandatedUnheard : Type 0
UnmandatedUnheard = CarMandated counted dc_car [] → ⊥
