-- ISO 15118-2:2014, section 8.8.4, and IEC 61851-23: a past in which a contactor may not be closed. PowerDelivery Start is answered without a Close,
-- and the vehicle isn't there. The Close of an earlier session, ordered as a vehicle was ready, gives no right.
use Rattle.std.specs.Prelude.{◌≡◌, ℕ, true, false, List, [], ◌∷◌}
use Rattle.charge_world.specs.declared.heard.PilotState.TheVariants.{A, C}
use Rattle.charge_world.specs.declared.heard.PlantEvent.TheVariants as plant
use Rattle.charge_world.specs.declared.ports.Order.TheVariants as order
use Rattle.v2gtp_frames.specs.Frames.{frame}
use Rattle.session_rules.specs.Rights.{is_ready}
use Rattle.post_spec.specs.Codecs.{Codecs}
use Rattle.post_spec.specs.Facts.{pilot}
use Rattle.post_spec.specs.Mandated.{before_close}
use Rattle.post_spec.specs.Steps.{Came, Bytes, Plant, Give, Send, End, Seen, Heard, Did}
use Rattle.safe_runs.specs.Started.{MandatedByOwn}
use Rattle.station_examples.specs.Fixtures.{ac_post, token}

abbrev pub earlier : List Seen
earlier = Did (End 1) true ∷ Did (Give order.Close) true ∷ Heard 5 (Plant (plant.Pilot C)) ∷ []

abbrev pub started : List ℕ → List Seen
started response =
    Heard 200 (Bytes (frame (1 ∷ []))) ∷ Did (Send response) true ∷ Heard 100 (Bytes (frame (0 ∷ []))) ∷ Heard 30 (Plant (plant.Pilot A))
    ∷ Heard 10 (Came token) ∷ earlier

-- whatever the codecs are: by the past before the last Close of all the vehicle was ready, as PowerDelivery Start came it wasn't, and behind the
-- reply to that the session isn't mandated
abbrev pub OldClose : Codecs → Type 0
OldClose c = (response bytes : List ℕ) → (is_ready (pilot (before_close (started response))) ≡ true)
    × (is_ready (pilot (started response)) ≡ false)
    × (MandatedByOwn c ac_post (Did (Send bytes) true ∷ started response) → ⊥)
