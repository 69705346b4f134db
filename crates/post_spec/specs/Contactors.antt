-- Own: what a past tells of the contactor of a post: its orders and the feedback. It is read off the past by itself.
use Rattle.std.specs.Prelude.{Bool, true, false, List, [], ◌∷◌, Option, Some, None}
use Rattle.charge_world.specs.declared.heard.PlantEvent.{PlantEvent}
use Rattle.charge_world.specs.declared.heard.PlantEvent.TheVariants as plant
use Rattle.charge_world.specs.declared.ports.Order.{Order}
use Rattle.charge_world.specs.declared.ports.Order.TheVariants as order
use Rattle.session_words.specs.declared.phase.Standing.{Standing}
use Rattle.session_words.specs.declared.phase.Standing.TheVariants as stood
use Rattle.session_rules.specs.Standing.{standing_of, is_live}
use Rattle.session_rules.specs.Standing as contactor
use Rattle.post_spec.specs.Steps.{Act, Give, Send, Answer, End, Seen, Heard, Did}
use Rattle.post_spec.specs.Facts.{told_by}

-- what happened at the contactor
abbrev pub with_order : Order → Bool → List contactor.Act → List contactor.Act
with_order order.Open taken acts = contactor.ordered contactor.Open taken ∷ acts
with_order order.Close taken acts = contactor.ordered contactor.Close taken ∷ acts
with_order (order.Limits voltage current watts) taken acts = acts

abbrev pub with_act : Act → Bool → List contactor.Act → List contactor.Act
with_act (Give order) taken acts = with_order order taken acts
with_act (Send bytes) taken acts = acts
with_act (Answer bytes) taken acts = acts
with_act (End cause) taken acts = acts

abbrev pub with_feedback : Option Bool → List contactor.Act → List contactor.Act
with_feedback None acts = acts
with_feedback (Some closed) acts = contactor.feedback closed ∷ acts

abbrev pub feedback_in : PlantEvent → Option Bool
feedback_in (plant.Feedback closed) = Some closed
feedback_in _ = None

abbrev pub contactor_acts : List Seen → List contactor.Act
contactor_acts [] = []
contactor_acts (Heard at event ∷ past) = with_feedback (told_by feedback_in event) (contactor_acts past)
contactor_acts (Did act taken ∷ past) = with_act act taken (contactor_acts past)

-- how the contactor stands, by its last order and the feedback since
abbrev pub standing : List Seen → Standing
standing past = standing_of (contactor_acts past)

-- a Close was ordered, taken or failed, and no Open was taken since
abbrev pub live : List Seen → Bool
live past = is_live (contactor_acts past)

-- whether it is live as what a hearing tells is judged: an order to open that is owed goes before all that was heard, and opens it once it is taken
abbrev pub live_behind : Standing → Bool → Bool
live_behind stood.MustOpen live = false
live_behind stood.Opened live = live
live_behind stood.Closing live = live
live_behind stood.Closed live = live
live_behind stood.Opening live = live

abbrev pub live_as_told : List Seen → Bool
live_as_told past = live_behind (standing past) (live past)

-- the last order of the two that the charger took was Close
abbrev pub closes : List contactor.Act → Bool
closes [] = false
closes (contactor.ordered contactor.Close true ∷ acts) = true
closes (contactor.ordered contactor.Open true ∷ acts) = false
closes (contactor.ordered kind false ∷ acts) = closes acts
closes (contactor.feedback closed ∷ acts) = closes acts

abbrev pub closed : List Seen → Bool
closed past = closes (contactor_acts past)
