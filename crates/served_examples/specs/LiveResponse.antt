-- ISO 15118-2:2014, section 8.2, and IEC 61851-23: what may not be sent while the contactor is live. An earlier session left it so, as its order to open
-- failed, and the first word of the next is answered before it is ordered open again.
use Rattle.std.specs.Prelude.{ℕ, true, false, List, [], ◌∷◌}
use Rattle.charge_world.specs.declared.ports.Order.TheVariants as order
use Rattle.v2gtp_frames.specs.Frames.{frame}
use Rattle.post_spec.specs.Codecs.{Codecs}
use Rattle.post_spec.specs.Steps.{Came, Bytes, Give, Send, End, Seen, Heard, Did}
use Rattle.failed_replies.specs.Replies.{AreOpened}
use Rattle.station_examples.specs.Fixtures.{token}
use Rattle.served_examples.specs.WrongPasts.{IsFailed}

abbrev pub left_live : List Seen
left_live = Did (End 1) true ∷ Did (Give order.Open) false ∷ Did (Give order.Close) true ∷ []

-- by bytes that are no reply of the OK class, as those of a response to a negotiation
abbrev pub LiveResponse : Codecs → Type 0
LiveResponse c = (bytes : List ℕ) → IsFailed c bytes
    → AreOpened c (Did (Send bytes) true ∷ Heard 100 (Bytes (frame (0 ∷ []))) ∷ Heard 0 (Came token) ∷ left_live) → ⊥
