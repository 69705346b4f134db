-- What a car has read, and when it says nothing.
use Rattle.std.proofs.Common.{◌≡◌, ℕ, Bool, true, false, ◌&&◌, not, if◌then◌else◌, List, [], ◌≤◌, Option, Some, None, Result, Ok, Err, refl, ap, sym, subst, ◌∙◌, inl, inr}
use Rattle.std.specs.Option.{option_map}
use Rattle.charge_world.specs.declared.heard.PlantEvent.{PlantEvent}
use Rattle.charge_world.specs.declared.offer.Dialect.{Dialect}
use Rattle.charge_world.specs.declared.ports.Order.{Order}
use Rattle.session_words.specs.declared.cause.EndCause.{EndCause}
use Rattle.session_words.specs.declared.cause.EndCause.TheVariants.{NoNegotiation, Refused as PayloadRefused, WrongSide as FromWrongSide, WrongReply, Gone as ConnectionGone}
use Rattle.session_words.specs.declared.plan.CarPlan.{CarPlan}
use Rattle.session_words.specs.declared.word.Reply.{Reply}
use Rattle.v2gtp_frames.specs.declared.FrameFault.{FrameFault}
use Rattle.v2gtp_frames.specs.Frames.{frame}
use Rattle.v2gtp_frames.specs.Reading.{whole_at, behind_front}
use Rattle.car_rules.specs.declared.searching.Search.{Search}
use Rattle.car_rules.specs.declared.stage.CarStage.{CarStage}
use Rattle.car_rules.specs.Deadlines.{hit}
use Rattle.car_rules.specs.Moves.{is_again, stage_behind}
use Rattle.car_rules.specs.Replies.{plant_cause, reply_cause}
use Rattle.car_rules.specs.Searching.{is_searching}
use Rattle.post_spec.specs.Steps.{Event, Came, Bytes, Gone, Datagram, Plant, Clock, Over}
use Rattle.post_spec.specs.Sessions.{brought}
use Rattle.car_spec.specs.Codecs.{Judged, Chosen, Told, WrongSide, Refused, Codecs}
use Rattle.car_spec.specs.Steps.{Spoken, Act, Seek, Dial, Give, Say, End}
use Rattle.car_spec.specs.States.{Agenda, Part, Unheard, Timing, Eventing, Wording, Session, State, Todo, nothing, is_none, is_done, first_of, first}
use Rattle.car_spec.specs.States as states
use Rattle.car_spec.specs.Due.{all_deadlines, is_due}
use Rattle.car_spec.specs.Deciding.{ending_if, ending_in, greeting, calling, charging, eventing, fronting_by, fronting, asking, repeating, decided}
use Rattle.car_spec.specs.Hearing.{session_heard, hearing}
use Rattle.car_spec.specs.Judging.{Payload, payload_by, payload_in, wanted, ends, chosen, moved, replied, replied_by, judged, judged_in, read, IsRead}
use Rattle.car_spec.specs.Acting.{awaiting, acted}
use Rattle.car_spec.specs.Next.{IsDone, MayAct, MayRead}
use Rattle.car_laws.proofs.Decided.{IsEarly, decided_by, IsPlanned, planned}
use Rattle.pipe_spec.specs.Histories.{car_says}
use Rattle.pipe_laws.proofs.Messages.{Carries, HasRead, Loses, more, IsTaken, taken}

abbrev pub unread_in : Option Session → Option (List ℕ)
unread_in None = None
unread_in (Some session) = Some session.unread

abbrev pub unread : State → Option (List ℕ)
unread s = unread_in s.session

-- what it said has no reply yet, and it doesn't wait to say it again
pub record HasSaid (session : Session) : Type 0 where
  pub at : ℕ
  pub sent : session.moments.sent ≡ Some at
  pub again : session.again ≡ None

abbrev pub SilentIn : Bool → Option Session → Type 0
SilentIn true o = Unit {0}
SilentIn false None = ⊥
SilentIn false (Some session) = HasSaid session

abbrev pub IsNotCame : Event → Type 0
IsNotCame (Came token) = ⊥
IsNotCame (Bytes bytes) = Unit {0}
IsNotCame Gone = Unit {0}
IsNotCame (Datagram bytes) = Unit {0}
IsNotCame (Plant event) = Unit {0}
IsNotCame Clock = Unit {0}
IsNotCame Over = Unit {0}

abbrev pub NotCame : Part → Event → Type 0
NotCame Unheard event = Unit {0}
NotCame Timing event = IsNotCame event
NotCame Eventing event = IsNotCame event
NotCame Wording event = Unit {0}

pub record IsSilent (s : State) : Type 0 where
  pub spoken : s.agenda.spoken ≡ None
  pub said : SilentIn s.over s.session
  pub event : NotCame s.part s.event

-- what it has to say is of its session, and it gets there behind its events
abbrev pub HasSession : Option Session → Type 0
HasSession None = ⊥
HasSession (Some session) = Unit {0}

abbrev pub CameBy : Event → Option Session → Type 0
CameBy (Came token) o = HasSession o
CameBy (Bytes bytes) o = Unit {0}
CameBy Gone o = Unit {0}
CameBy (Datagram bytes) o = Unit {0}
CameBy (Plant event) o = Unit {0}
CameBy Clock o = Unit {0}
CameBy Over o = Unit {0}

abbrev pub CameIn : Part → Event → Option Session → Type 0
CameIn Unheard event o = Unit {0}
CameIn Timing event o = CameBy event o
CameIn Eventing event o = CameBy event o
CameIn Wording event o = Unit {0}

abbrev pub SpokenBy : Option Spoken → Option Session → Part → Type 0
SpokenBy None o part = Unit {0}
SpokenBy (Some spoken) o part = HasSession o × (part ≡ Wording)

pub record IsSound (s : State) : Type 0 where
  pub spoken : SpokenBy s.agenda.spoken s.session s.part
  pub came : CameIn s.part s.event s.session

-- ---- what is decided

abbrev pub SaysNot : Agenda → Type 0
SaysNot a = a.spoken ≡ None

some_none : {A : Type 0} (a : A) → Some a ≡ None → ⊥
some_none a e = cc

says_not : (o : Option Session) (part : Part) (a : Agenda) → SaysNot a → SpokenBy a.spoken o part
says_not o part a e = subst (λ (x : Option Spoken). SpokenBy x o part) (sym e) tt

ending_if_silent : (o : Option EndCause) (live : Bool) → SaysNot (ending_if o live)
ending_if_silent None live = refl
ending_if_silent (Some cause) live = refl

ending_in_silent : (o : Option Session) (cause : EndCause) (live : Bool) → SaysNot (ending_in o cause live)
ending_in_silent None cause live = refl
ending_in_silent (Some session) cause live = refl

calling_by : (plan : CarPlan) (search : Search) (datagram : List ℕ) (b : Bool) → is_searching plan search ≡ b → SaysNot (calling plan search datagram)
calling_by plan search datagram true e = rw e refl
calling_by plan search datagram false e = rw e refl

charging_silent : (o : Option Session) (event : PlantEvent) (live : Bool) → SaysNot (charging o event live)
charging_silent None event live = refl
charging_silent (Some session) event live = ending_if_silent (plant_cause event) live

events_silent : (plan : CarPlan) (event : Event) (s : State) → IsNotCame event → SaysNot (eventing plan event s)
events_silent plan (Came token) s n = absurd n
events_silent plan (Bytes bytes) s n = refl
events_silent plan Gone s n = ending_in_silent s.session ConnectionGone s.live
events_silent plan (Datagram bytes) s n = calling_by plan s.search bytes _ refl
events_silent plan (Plant event) s n = charging_silent s.session event s.live
events_silent plan Clock s n = refl
events_silent plan Over s n = refl

front_silent : (r : Result (Option ℕ) FrameFault) (live : Bool) → SaysNot (fronting_by r live)
front_silent (Err fault) live = refl
front_silent (Ok count) live = refl

fronts_silent : (o : Option Session) (live : Bool) → SaysNot (fronting o live)
fronts_silent None live = refl
fronts_silent (Some session) live = front_silent (whole_at session.unread) live

not_over : (b over : Bool) → (b && not over) ≡ true → over ≡ false
not_over true true e = cc
not_over true false e = refl
not_over false over e = cc

repeats_silent : (plan : CarPlan) (over : Bool) (o : Option Session) (now : ℕ) → over ≡ false → SilentIn over o → SaysNot (repeating plan o now)
repeats_silent plan true o now e h = cc
repeats_silent plan false None now e h = refl
repeats_silent plan false (Some session) now e h = let a = h.again in rw a refl

early_not : (part : Part) (event : Event) → IsEarly part → NotCame part event → IsNotCame event
early_not Unheard event e n = absurd e
early_not Timing event e n = n
early_not Eventing event e n = n
early_not Wording event e n = absurd e

pub decided_silent : (plan : CarPlan) (s : State) → IsSilent s → IsSilent (decided plan s)
decided_silent plan s h = decided_by IsSilent plan s
    (λ d. record {
      times = λ early. record { spoken = ending_if_silent (hit (all_deadlines plan s) s.clock) s.live; said = h.said; event = early_not s.part s.event early h.event };
      events = λ early. record { spoken = events_silent plan s.event s (early_not s.part s.event early h.event); said = h.said; event = tt };
      fronts = record { spoken = fronts_silent s.session s.live; said = h.said; event = tt };
      repeats = record { spoken = repeats_silent plan s.over s.session s.clock (not_over (is_done s.agenda) s.over d) h.said; said = h.said; event = tt };
      seeks = record { spoken = refl; said = h.said; event = tt };
    }) h

early_came : (part : Part) (event : Event) (o : Option Session) → IsEarly part → CameIn part event o → CameBy event o
early_came Unheard event o e c = absurd e
early_came Timing event o e c = c
early_came Eventing event o e c = c
early_came Wording event o e c = absurd e

greets_sound : (o : Option Session) (stood live : Bool) → HasSession o → SpokenBy (greeting stood live).spoken o Wording
greets_sound o true live h = tt
greets_sound o false live h = (h, refl)

events_sound : (plan : CarPlan) (event : Event) (s : State) → CameBy event s.session → SpokenBy (eventing plan event s).spoken s.session Wording
events_sound plan (Came token) s c = greets_sound s.session s.stood s.live c
events_sound plan (Bytes bytes) s c = tt
events_sound plan Gone s c = says_not s.session Wording (ending_in s.session ConnectionGone s.live) (ending_in_silent s.session ConnectionGone s.live)
events_sound plan (Datagram bytes) s c = says_not s.session Wording (calling plan s.search bytes) (calling_by plan s.search bytes _ refl)
events_sound plan (Plant event) s c = says_not s.session Wording (charging s.session event s.live) (charging_silent s.session event s.live)
events_sound plan Clock s c = tt
events_sound plan Over s c = tt

asks_sound : (plan : CarPlan) (o : Option CarStage) (session : Session) → SpokenBy (asking plan o) (Some session) Wording
asks_sound plan None session = tt
asks_sound plan (Some stage) session = (tt, refl)

repeats_by : (plan : CarPlan) (session : Session) (now : ℕ) (b : Bool) → is_due session.again now ≡ b → SpokenBy (repeating plan (Some session) now).spoken (Some session) Wording
repeats_by plan session now true e = rw e (asks_sound plan session.stage session)
repeats_by plan session now false e = rw e tt

repeats_sound : (plan : CarPlan) (o : Option Session) (now : ℕ) → SpokenBy (repeating plan o now).spoken o Wording
repeats_sound plan None now = tt
repeats_sound plan (Some session) now = repeats_by plan session now _ refl

pub decided_sound : (plan : CarPlan) (s : State) → IsSound s → IsSound (decided plan s)
decided_sound plan s h = decided_by IsSound plan s
    (λ d. record {
      times = λ early. record {
        spoken = says_not s.session Eventing (ending_if (hit (all_deadlines plan s) s.clock) s.live) (ending_if_silent (hit (all_deadlines plan s) s.clock) s.live);
        came = early_came s.part s.event s.session early h.came;
      };
      events = λ early. record { spoken = events_sound plan s.event s (early_came s.part s.event s.session early h.came); came = tt };
      fronts = record { spoken = says_not s.session Wording (fronting s.session s.live) (fronts_silent s.session s.live); came = tt };
      repeats = record { spoken = repeats_sound plan s.session s.clock; came = tt };
      seeks = record { spoken = tt; came = tt };
    }) h

pub decided_unread : (plan : CarPlan) (s : State) → unread (decided plan s) ≡ unread s
decided_unread plan s = let p : IsPlanned s (decided plan s) = planned plan s in ap unread p.is

-- ---- a word

empty_waits : whole_at [] ≡ Ok None
unfolding whole_at
empty_waits = refl

nothing_in : (o : Option Session) → HasRead (unread_in o) → payload_in o ≡ None
nothing_in None h = refl
nothing_in (Some session) h =
    let r : whole_at session.unread ≡ Ok None = ap whole_at h ∙ empty_waits in ap (λ (x : Result (Option ℕ) FrameFault). payload_by x session) r

nothing_read : (c : Codecs) (plan : CarPlan) (o : Option Payload) (w : Judged) → o ≡ None → IsRead c plan o w → ⊥
nothing_read c plan None w e r = r
nothing_read c plan (Some payload) w e r = some_none payload e

nothing_if : (c : Codecs) (plan : CarPlan) (s : State) (b : Bool) (w : Judged) → payload_in s.session ≡ None → IsRead c plan (if b then payload_in s.session else None) w → ⊥
nothing_if c plan s true w e r = nothing_read c plan (payload_in s.session) w e r
nothing_if c plan s false w e r = r

pub reads_nothing : (c : Codecs) (plan : CarPlan) (s : State) (w : Judged) → HasRead (unread s) → IsRead c plan (wanted s) w → ⊥
reads_nothing c plan s w h r = nothing_if c plan s (is_done s.agenda) w (nothing_in s.session h) r

pub record IsWord (s : State) : Type 0 where
  pub session : Session
  pub session_is : s.session ≡ Some session
  pub count : ℕ
  pub whole : whole_at session.unread ≡ Ok (Some count)

word_front : (c : Codecs) (plan : CarPlan) (s : State) (session : Session) (r : Result (Option ℕ) FrameFault) (w : Judged) → s.session ≡ Some session → whole_at session.unread ≡ r
    → IsRead c plan (payload_by r session) w → IsWord s
word_front c plan s session (Err fault) w e f j = absurd j
word_front c plan s session (Ok None) w e f j = absurd j
word_front c plan s session (Ok (Some n)) w e f j = record { session = session; session_is = e; count = n; whole = f }

word_in : (c : Codecs) (plan : CarPlan) (s : State) (o : Option Session) (w : Judged) → s.session ≡ o → IsRead c plan (payload_in o) w → IsWord s
word_in c plan s None w e j = absurd j
word_in c plan s (Some session) w e j = word_front c plan s session (whole_at session.unread) w e refl j

word_if : (c : Codecs) (plan : CarPlan) (s : State) (b : Bool) (w : Judged) → IsRead c plan (if b then payload_in s.session else None) w → IsWord s
word_if c plan s true w j = word_in c plan s s.session w refl j
word_if c plan s false w j = absurd j

pub word_of : (c : Codecs) (plan : CarPlan) (s : State) (w : Judged) → IsRead c plan (wanted s) w → IsWord s
word_of c plan s w j = word_if c plan s (is_done s.agenda) w j

abbrev pub HasReadAll : State → Type 0
HasReadAll s = IsSound s × HasRead (unread s)

ends_all : (s : State) (session : Session) (cause : EndCause) → behind_front session.unread ≡ [] → HasReadAll (ends s session cause)
ends_all s session cause b = (record { spoken = tt; came = tt }, b)

chosen_all : (plan : CarPlan) (s : State) (session : Session) (d : Option Dialect) → behind_front session.unread ≡ [] → HasReadAll (chosen plan s session d)
chosen_all plan s session None b = ends_all s session NoNegotiation b
chosen_all plan s session (Some d) b = (record { spoken = (tt, refl); came = tt }, b)

moved_by : (plan : CarPlan) (s : State) (session : Session) (from : CarStage) (r : Reply) (to : CarStage) (b : Bool) → is_again from.phase to.phase ≡ b
    → behind_front session.unread ≡ [] → HasReadAll (moved plan s session from r to)
moved_by plan s session from r to true e b = rw e (record { spoken = tt; came = tt }, b)
moved_by plan s session from r to false e b = rw e (record { spoken = (tt, refl); came = tt }, b)

replied_all : (o : Option EndCause) (plan : CarPlan) (s : State) (session : Session) (stage : CarStage) (r : Reply) → behind_front session.unread ≡ []
    → HasReadAll (replied_by o plan s session stage r)
replied_all (Some cause) plan s session stage r b = ends_all s session cause b
replied_all None plan s session stage r b = moved_by plan s session stage r (stage_behind plan stage r session.stop) _ refl b

told_all : (plan : CarPlan) (s : State) (session : Session) (o : Option CarStage) (r : Reply) → behind_front session.unread ≡ [] → HasReadAll (replied plan s session o r)
told_all plan s session None r b = ends_all s session WrongReply b
told_all plan s session (Some stage) r b = replied_all (reply_cause plan stage _ r) plan s session stage r b

judged_all : (plan : CarPlan) (s : State) (session : Session) (w : Judged) → behind_front session.unread ≡ [] → HasReadAll (judged plan s session w)
judged_all plan s session (Chosen d) b = chosen_all plan s session d b
judged_all plan s session (Told r) b = told_all plan s session session.stage r b
judged_all plan s session WrongSide b = ends_all s session FromWrongSide b
judged_all plan s session Refused b = ends_all s session PayloadRefused b

pub record IsWordRead (plan : CarPlan) (s : State) (w : Judged) (way : List ℕ) : Type 0 where
  pub comes : way ≡ []
  pub read : HasReadAll (read plan s w)

pub word_read : (most : ℕ) (plan : CarPlan) (s : State) (w : Judged) (way : List ℕ) → most ≤ 65544 → IsWord s → Carries most (unread s) way → IsWordRead plan s w way
word_read most plan s w way m i c =
    let u : Carries most (Some i.session.unread) way = subst (λ (x : Option Session). Carries most (unread_in x) way) i.session_is c in
    let t : IsTaken i.session.unread way = taken most i.count i.session.unread way m i.whole u in
    record {
      comes = t.nothing_comes;
      read = subst (λ (o : Option Session). HasReadAll (judged_in plan s o w)) (sym i.session_is) (judged_all plan s i.session w t.nothing_left);
    }

-- ---- an act

pub data Doing (s : State) (act : Act) : Type 0 where
  SaysNothing : car_says act ≡ [] → (IsSilent s → IsSilent (acted act true s)) → Doing s act
  Says : (payload : List ℕ) (spoken : Spoken) → act ≡ Say spoken (frame payload) → s.agenda.spoken ≡ Some spoken → IsSilent (acted act true s) → Doing s act

pub record HasEnded (s : State) : Type 0 where
  pub session : s.session ≡ None
  pub over : s.over ≡ true
  pub done : first s.agenda ≡ None

abbrev pub EndsSo : Act → State → Type 0
EndsSo (End cause) s = HasEnded s
EndsSo (Seek datagram) s = Unit {0}
EndsSo (Dial port) s = Unit {0}
EndsSo (Give order) s = Unit {0}
EndsSo (Say spoken bytes) s = Unit {0}

pub record Done (s : State) (act : Act) : Type 0 where
  pub sound : IsSound (acted act true s)
  pub keeps : Loses (unread s) (unread (acted act true s))
  pub doing : Doing s act
  pub ends : EndsSo act (acted act true s)

speaks_first : (p : Option ℕ) (o : Option Order) (sp : Option Spoken) (e : Option EndCause) (seeks : Bool) (said : Spoken) → first_of p o sp e seeks ≡ Some (states.Speak said) → sp ≡ Some said
speaks_first (Some port) o sp e seeks said h = cc
speaks_first None (Some given) sp e seeks said h = cc
speaks_first None None (Some other) e seeks said h = cc
speaks_first None None None (Some cause) seeks said h = cc
speaks_first None None None None true said h = cc
speaks_first None None None None false said h = cc

map_unread : (at : ℕ) (o : Option Session) → unread_in (option_map (awaiting at) o) ≡ unread_in o
map_unread at None = refl
map_unread at (Some x) = refl

map_said : (over : Bool) (at : ℕ) (o : Option Session) → HasSession o → SilentIn over (option_map (awaiting at) o)
map_said true at o h = tt
map_said false at None h = absurd h
map_said false at (Some x) h = record { at = at; sent = refl; again = refl }

says : (s : State) (spoken : Spoken) (payload : List ℕ) → s.agenda.spoken ≡ Some spoken → IsSound s → Done s (Say spoken (frame payload))
says s spoken payload e f =
    let g : SpokenBy (Some spoken) s.session s.part = subst (λ (x : Option Spoken). SpokenBy x s.session s.part) e f.spoken in
    record {
      sound = record { spoken = tt; came = subst (λ (p : Part). CameIn p s.event (option_map (awaiting s.clock) s.session)) (sym g.1) tt };
      keeps = inl (map_unread s.clock s.session);
      doing = Says payload spoken refl e (record {
        spoken = refl;
        said = map_said s.over s.clock s.session g.0;
        event = subst (λ (p : Part). NotCame p s.event) (sym g.1) tt;
      });
      ends = tt;
    }

keeps_on : (s : State) (act : Act) → car_says act ≡ [] → IsSound (acted act true s) → Loses (unread s) (unread (acted act true s)) → (IsSilent s → IsSilent (acted act true s))
    → EndsSo act (acted act true s) → Done s act
keeps_on s act n f k d e = record { sound = f; keeps = k; doing = SaysNothing n d; ends = e }

pub done_by : (c : Codecs) (plan : CarPlan) (s : State) (todo : Todo) (act : Act) → IsSound s → first s.agenda ≡ Some todo → IsDone c plan todo act true → Done s act
done_by c plan s (states.Call port) act f e i = subst (λ (x : Act). Done s x) (sym i)
    (keeps_on s (Dial port) refl (record { spoken = f.spoken; came = f.came }) (inl refl) (λ h. record { spoken = h.spoken; said = h.said; event = h.event }) tt)
done_by c plan s (states.Drive o) act f e i = subst (λ (x : Act). Done s x) (sym i)
    (keeps_on s (Give o) refl (record { spoken = f.spoken; came = f.came }) (inl refl) (λ h. record { spoken = h.spoken; said = h.said; event = h.event }) tt)
done_by c plan s (states.Speak spoken) act f e i =
    let r : s.agenda.spoken ≡ Some spoken = speaks_first s.agenda.port s.agenda.order s.agenda.spoken s.agenda.ending s.agenda.seeks spoken e in
    subst (λ (x : Act). Done s x) (sym i.act_is) (says s spoken i.payload r f)
done_by c plan s (states.Finish cause) act f e i = subst (λ (x : Act). Done s x) (sym i.0)
    (keeps_on s (End _) refl (record { spoken = tt; came = tt }) (inr refl) (λ h. record { spoken = refl; said = tt; event = tt }) (record { session = refl; over = refl; done = refl }))
done_by c plan s states.Inquire act f e i = subst (λ (x : Act). Done s x) (sym i)
    (keeps_on s (Seek _) refl (record { spoken = f.spoken; came = f.came }) (inl refl) (λ h. record { spoken = h.spoken; said = h.said; event = h.event }) tt)

-- a car that has ended reads and does nothing more
ended_rests : (plan : CarPlan) (s : State) → HasEnded s → decided plan s ≡ s
ended_rests plan s h =
    let d : is_done s.agenda ≡ true = ap is_none h.done in
    let o : s.over ≡ true = h.over in
    let b : (is_done s.agenda && not s.over) ≡ false = rw (d, o) refl in rw b refl

pub ended_acts : (c : Codecs) (plan : CarPlan) (s : State) (act : Act) → HasEnded s → MayAct c plan s act true → ⊥
ended_acts c plan s act h m =
    let e : first s.agenda ≡ Some m.todo = ap (λ (x : State). first x.agenda) (sym (ended_rests plan s h)) ∙ m.acts in some_none m.todo (sym e ∙ h.done)

pub ended_reads : (c : Codecs) (plan : CarPlan) (s : State) (w : Judged) → HasEnded s → MayRead c plan s w → ⊥
ended_reads c plan s w h m =
    let r : IsRead c plan (wanted s) w = subst (λ (x : State). IsRead c plan (wanted x) w) (ended_rests plan s h) m in
    reads_nothing c plan s w (subst (λ (x : Option Session). HasRead (unread_in x)) (sym h.session) tt) r

-- ---- a hearing

abbrev pub IsPieceOrClock : Event → Type 0
IsPieceOrClock (Bytes bytes) = Unit {0}
IsPieceOrClock Clock = Unit {0}
IsPieceOrClock (Came token) = ⊥
IsPieceOrClock Gone = ⊥
IsPieceOrClock (Datagram bytes) = ⊥
IsPieceOrClock (Plant event) = ⊥
IsPieceOrClock Over = ⊥

heard_unread_in : (event : Event) (at : ℕ) (o : Option Session) → IsPieceOrClock event → unread_in (session_heard event at o) ≡ more (brought event) (unread_in o)
heard_unread_in (Bytes bytes) at None p = refl
heard_unread_in (Bytes bytes) at (Some x) p = refl
heard_unread_in Clock at None p = refl
heard_unread_in Clock at (Some x) p = refl
heard_unread_in (Came token) at o p = absurd p
heard_unread_in Gone at o p = absurd p
heard_unread_in (Datagram bytes) at o p = absurd p
heard_unread_in (Plant event) at o p = absurd p
heard_unread_in Over at o p = absurd p

pub heard_unread : (event : Event) (at : ℕ) (s : State) → IsPieceOrClock event → unread (hearing at event s) ≡ more (brought event) (unread s)
heard_unread event at s p = heard_unread_in event at s.session p

pub heard_sound : (event : Event) (at : ℕ) (s : State) → IsPieceOrClock event → IsSound (hearing at event s)
heard_sound (Bytes bytes) at s p = record { spoken = tt; came = tt }
heard_sound Clock at s p = record { spoken = tt; came = tt }
heard_sound (Came token) at s p = absurd p
heard_sound Gone at s p = absurd p
heard_sound (Datagram bytes) at s p = absurd p
heard_sound (Plant event) at s p = absurd p
heard_sound Over at s p = absurd p

heard_said : (over : Bool) (event : Event) (at : ℕ) (o : Option Session) → SilentIn over o → SilentIn over (session_heard event at o)
heard_said true event at o h = tt
heard_said false event at None h = absurd h
heard_said false event at (Some x) h = record { at = h.at; sent = h.sent; again = h.again }

pub heard_silent : (event : Event) (at : ℕ) (s : State) → IsPieceOrClock event → IsSilent s → IsSilent (hearing at event s)
heard_silent (Bytes bytes) at s p h = record { spoken = refl; said = heard_said s.over (Bytes bytes) at s.session h.said; event = tt }
heard_silent Clock at s p h = record { spoken = refl; said = heard_said s.over Clock at s.session h.said; event = tt }
heard_silent (Came token) at s p h = absurd p
heard_silent Gone at s p h = absurd p
heard_silent (Datagram bytes) at s p h = absurd p
heard_silent (Plant event) at s p h = absurd p
heard_silent Over at s p h = absurd p
