-- What a car does next, and how.
use Rattle.std.proofs.Common.{◌≡◌, ℕ, Bool, true, false, List, ◌++◌, length, take, Option, Some, None, refl, sym, ap, subst, ◌∙◌}
use Rattle.std.proofs.Math.Seq.{take-append_seam}
use Rattle.charge_world.specs.declared.ports.Order.{Order}
use Rattle.session_words.specs.Causes.{number_of}
use Rattle.session_words.specs.declared.cause.EndCause.{EndCause}
use Rattle.session_words.specs.declared.plan.CarPlan.{CarPlan}
use Rattle.car_spec.specs.Codecs.{Codecs}
use Rattle.car_spec.specs.Deciding.{decided}
use Rattle.car_spec.specs.Next.{IsSaid, IsDone, MayAct}
use Rattle.car_spec.specs.States.{State, first_of, first}
use Rattle.car_spec.specs.States as states
use Rattle.car_spec.specs.Steps.{Spoken, Act}
use Rattle.car_spec.specs.Steps as steps
use Rattle.car_acts.specs.declared.choosing.Next.TheVariants as next
use Rattle.car_acts.specs.declared.deeds.Deed.{Deed}
use Rattle.car_acts.specs.declared.deeds.Deed.TheVariants.{Dial, Give, Say, Finish, Seek}
use Rattle.car_acts.specs.Deeds.{act_of, spoken_in, is_seek, MayTake, IsFrameOf, IsDeed, Prepares, DoesNext, Nexts}

prepared_none : (c : Codecs) (plan : CarPlan) (t : Option states.Todo) (room : List ℕ) → Prepares c plan t room None → t ≡ None
prepared_none c plan None room h = refl
prepared_none c plan (Some todo) room h = absurd h

does_by : (c : Codecs) (plan : CarPlan) (s : State) (t : Option states.Todo) (room : List ℕ) (deed : Deed) → first s.agenda ≡ t → Prepares c plan t room (Some deed) → DoesNext c plan s room deed
does_by c plan s None room deed e h = absurd h
does_by c plan s (Some todo) room deed e h = record { todo = todo; first_is = e; done = h.0; framed = h.1 }

-- what was prepared is next
pub next_deed : (c : Codecs) (plan : CarPlan) (s d : State) (room : List ℕ) (deed : Deed) → d ≡ decided plan s → Prepares c plan (first d.agenda) room (Some deed) → Nexts c plan s room (next.Do deed) d
next_deed c plan s d room deed e h = (subst (λ (t : State). DoesNext c plan t room deed) e (does_by c plan d (first d.agenda) room deed refl h), e)

-- the deed is the act by which the thing is done
said_done : (c : Codecs) (plan : CarPlan) (spoken : Spoken) (bytes : List ℕ) → IsFrameOf c plan spoken bytes → IsSaid c plan spoken (steps.Say spoken bytes)
said_done c plan spoken bytes f = record { payload = f.payload; spoken_is = f.spoken_is; act_is = ap (steps.Say spoken) f.bytes_are }

deed_done : (c : Codecs) (plan : CarPlan) (room : List ℕ) (todo : states.Todo) (deed : Deed) (taken : Bool) → IsDeed c plan room todo deed → MayTake deed taken → IsDone c plan todo (act_of room (spoken_in todo) deed) taken
deed_done c plan room (states.Call port) (Dial dialed) taken d m = ap steps.Dial d
deed_done c plan room (states.Call port) (Give given) taken d m = absurd d
deed_done c plan room (states.Call port) (Say n) taken d m = absurd d
deed_done c plan room (states.Call port) (Finish named) taken d m = absurd d
deed_done c plan room (states.Call port) (Seek datagram) taken d m = absurd d
deed_done c plan room (states.Drive order) (Dial dialed) taken d m = absurd d
deed_done c plan room (states.Drive order) (Give given) taken d m = ap steps.Give d
deed_done c plan room (states.Drive order) (Say n) taken d m = absurd d
deed_done c plan room (states.Drive order) (Finish named) taken d m = absurd d
deed_done c plan room (states.Drive order) (Seek datagram) taken d m = absurd d
deed_done c plan room (states.Speak spoken) (Dial dialed) taken d m = absurd d
deed_done c plan room (states.Speak spoken) (Give given) taken d m = absurd d
deed_done c plan room (states.Speak spoken) (Say n) taken d m = said_done c plan spoken (take n room) d
deed_done c plan room (states.Speak spoken) (Finish named) taken d m = absurd d
deed_done c plan room (states.Speak spoken) (Seek datagram) taken d m = absurd d
deed_done c plan room (states.Finish cause) (Dial dialed) taken d m = absurd d
deed_done c plan room (states.Finish cause) (Give given) taken d m = absurd d
deed_done c plan room (states.Finish cause) (Say n) taken d m = absurd d
deed_done c plan room (states.Finish cause) (Finish named) taken d m = (ap (λ (x : EndCause). steps.End (number_of x)) d, m)
deed_done c plan room (states.Finish cause) (Seek datagram) taken d m = absurd d
deed_done c plan room states.Inquire (Dial dialed) taken d m = absurd d
deed_done c plan room states.Inquire (Give given) taken d m = absurd d
deed_done c plan room states.Inquire (Say n) taken d m = absurd d
deed_done c plan room states.Inquire (Finish named) taken d m = absurd d
deed_done c plan room states.Inquire (Seek datagram) taken d m = ap steps.Seek d

-- a discovery request is sent where one is to be sent
inquires : (port : Option ℕ) (order : Option Order) (spoken : Option Spoken) (ending : Option EndCause) (seeks : Bool) → first_of port order spoken ending seeks ≡ Some states.Inquire → seeks ≡ true
inquires (Some port) order spoken ending seeks e = cc
inquires None (Some order) spoken ending seeks e = cc
inquires None None (Some spoken) ending seeks e = cc
inquires None None None (Some cause) seeks e = cc
inquires None None None None true e = refl
inquires None None None None false e = cc

seeks_todo : (c : Codecs) (plan : CarPlan) (room : List ℕ) (todo : states.Todo) (datagram : List ℕ) → IsDeed c plan room todo (Seek datagram) → todo ≡ states.Inquire
seeks_todo c plan room (states.Call port) datagram h = absurd h
seeks_todo c plan room (states.Drive order) datagram h = absurd h
seeks_todo c plan room (states.Speak spoken) datagram h = absurd h
seeks_todo c plan room (states.Finish cause) datagram h = absurd h
seeks_todo c plan room states.Inquire datagram h = refl

pub deed_seeks : (c : Codecs) (plan : CarPlan) (s : State) (room : List ℕ) (deed : Deed) → DoesNext c plan s room deed → is_seek deed ≡ true → s.agenda.seeks ≡ true
deed_seeks c plan s room (Dial port) d e = let f : false ≡ true = e in cc
deed_seeks c plan s room (Give order) d e = let f : false ≡ true = e in cc
deed_seeks c plan s room (Say n) d e = let f : false ≡ true = e in cc
deed_seeks c plan s room (Finish cause) d e = let f : false ≡ true = e in cc
deed_seeks c plan s room (Seek datagram) d e =
    inquires s.agenda.port s.agenda.order s.agenda.spoken s.agenda.ending s.agenda.seeks (d.first_is ∙ ap (λ (t : states.Todo). Some t) (seeks_todo c plan room d.todo datagram d.done))

-- the end is by the cause that was decided
finishes : (port : Option ℕ) (order : Option Order) (spoken : Option Spoken) (ending : Option EndCause) (seeks : Bool) (cause : EndCause) → first_of port order spoken ending seeks ≡ Some (states.Finish cause) → ending ≡ Some cause
finishes (Some port) order spoken ending seeks cause e = cc
finishes None (Some order) spoken ending seeks cause e = cc
finishes None None (Some spoken) ending seeks cause e = cc
finishes None None None (Some found) seeks cause e = cc
finishes None None None None true cause e = cc
finishes None None None None false cause e = cc

finish_todo : (c : Codecs) (plan : CarPlan) (room : List ℕ) (todo : states.Todo) (cause : EndCause) → IsDeed c plan room todo (Finish cause) → todo ≡ states.Finish cause
finish_todo c plan room (states.Call port) cause h = absurd h
finish_todo c plan room (states.Drive order) cause h = absurd h
finish_todo c plan room (states.Speak spoken) cause h = absurd h
finish_todo c plan room (states.Finish found) cause h = ap states.Finish (sym h)
finish_todo c plan room states.Inquire cause h = absurd h

pub deed_ending : (c : Codecs) (plan : CarPlan) (s : State) (room : List ℕ) (cause : EndCause) → DoesNext c plan s room (Finish cause) → s.agenda.ending ≡ Some cause
deed_ending c plan s room cause d =
    finishes s.agenda.port s.agenda.order s.agenda.spoken s.agenda.ending s.agenda.seeks cause (d.first_is ∙ ap (λ (t : states.Todo). Some t) (finish_todo c plan room d.todo cause d.done))

pub may_act : (c : Codecs) (plan : CarPlan) (s : State) (room : List ℕ) (deed : Deed) (taken : Bool) → (d : DoesNext c plan (decided plan s) room deed) → MayTake deed taken → MayAct c plan s (act_of room (spoken_in d.todo) deed) taken
may_act c plan s room deed taken d m = record { todo = d.todo; acts = d.first_is; done = deed_done c plan room d.todo deed taken d.done m }

-- the room of a Vec that was lent whole
pub room_is : (r rest : List ℕ) (len : ℕ) → length r ≡ len → take len (r ++ rest) ≡ r
room_is r rest len e = subst (λ (k : ℕ). take k (r ++ rest) ≡ r) e (take-append_seam r rest)
