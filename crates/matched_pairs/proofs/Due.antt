-- A car asks the same once more only once that is due.
use Rattle.std.proofs.Common.{◌≡◌, ℕ, ◌≤◌, nat_le, Bool, true, false, if◌then◌else◌, List, Option, Some, None, Result, Ok, Err, refl, sym, subst, ◌∙◌, arith}
use Rattle.std.proofs.lemmas.Bool.Decides.{nat_tests}
use Rattle.std.specs.Option.{option_map}
use Rattle.charge_world.specs.declared.heard.PlantEvent.{PlantEvent}
use Rattle.charge_world.specs.declared.ports.Order.{Order}
use Rattle.session_words.specs.declared.cause.EndCause.{EndCause}
use Rattle.session_words.specs.declared.cause.EndCause.TheVariants as cause
use Rattle.session_words.specs.declared.plan.CarPlan.{CarPlan}
use Rattle.session_words.specs.declared.word.Reply.{Reply}
use Rattle.v2gtp_frames.specs.declared.FrameFault.{FrameFault}
use Rattle.v2gtp_frames.specs.Reading.{whole_at}
use Rattle.post_spec.specs.Steps.{Event, Came, Bytes, Gone, Datagram, Plant, Clock, Over}
use Rattle.car_rules.specs.declared.stage.CarStage.{CarStage}
use Rattle.car_rules.specs.Deadlines.{hit}
use Rattle.car_rules.specs.Moves.{is_again, stage_behind}
use Rattle.car_rules.specs.Replies.{plant_cause, reply_cause}
use Rattle.car_rules.specs.Searching.{is_searching, port_of}
use Rattle.car_spec.specs.Codecs.{Codecs, Judged, Chosen, Told, WrongSide, Refused}
use Rattle.car_spec.specs.Steps.{Spoken, Act, Seek, Dial, Give, Say, End}
use Rattle.car_spec.specs.States.{Agenda, Wording, Session, State, Todo, nothing, first, first_of}
use Rattle.car_spec.specs.States as states
use Rattle.car_spec.specs.Due.{all_deadlines, is_due}
use Rattle.car_spec.specs.Deciding.{ending_if, ending_in, timing, charging, eventing, fronting_by, fronting, asking, repeating, seeking, decided}
use Rattle.car_spec.specs.Acting.{awaiting, acted}
use Rattle.car_spec.specs.Judging.{moved, replied_by, replied, judged, judged_in, read}
use Rattle.car_spec.specs.Next.{IsDone, MayAct}
use Rattle.car_laws.proofs.Decided.{IsEarly, decided_by}
use Rattle.matched_pairs.specs.Acts.{IsOfCar}
use Rattle.matched_pairs.proofs.CarPhases.{same_session}
use Rattle.matched_pairs.proofs.Pacing.{word_part}

some_none : {A : Type 0} (a : A) → Some a ≡ None → ⊥
some_none a e = cc

-- ---- what is so

abbrev pub PastBy : ℕ → Option ℕ → Type 0
PastBy now None = Unit {0}
PastBy now (Some at) = at ≤ now

-- a request that is asked once more is due
abbrev pub AgainPast : ℕ → Option Session → Type 0
AgainPast now None = Unit {0}
AgainPast now (Some y) = PastBy now y.again

abbrev pub AgainNone : Option Session → Type 0
AgainNone None = Unit {0}
AgainNone (Some y) = y.again ≡ None

abbrev pub SaysPast : ℕ → Agenda → Option Session → Type 0
SaysPast now a o = (spoken : Spoken) → a.spoken ≡ Some spoken → AgainPast now o

-- as a connection comes none is asked once more
abbrev pub CameAgain : Event → Option Session → Type 0
CameAgain (Came token) o = AgainNone o
CameAgain (Bytes bytes) o = Unit {0}
CameAgain Gone o = Unit {0}
CameAgain (Datagram bytes) o = Unit {0}
CameAgain (Plant event) o = Unit {0}
CameAgain Clock o = Unit {0}
CameAgain Over o = Unit {0}

pub record SpeaksDue (now : ℕ) (k : State) : Type 0 where
  pub says : SaysPast now k.agenda k.session
  pub came : IsEarly k.part → CameAgain k.event k.session

-- ---- what is decided

silent_says : (now : ℕ) (a : Agenda) (o : Option Session) → a.spoken ≡ None → SaysPast now a o
silent_says now a o n = λ spoken e. absurd (some_none spoken (sym e ∙ n))

ending_silent : (o : Option EndCause) (live : Bool) → (ending_if o live).spoken ≡ None
ending_silent None live = refl
ending_silent (Some why) live = refl

ends_silent : (o : Option Session) (why : EndCause) (live : Bool) → (ending_in o why live).spoken ≡ None
ends_silent None why live = refl
ends_silent (Some y) why live = refl

front_silent : (r : Result (Option ℕ) FrameFault) (live : Bool) → (fronting_by r live).spoken ≡ None
front_silent (Err fault) live = refl
front_silent (Ok count) live = refl

fronts_silent : (o : Option Session) (live : Bool) → (fronting o live).spoken ≡ None
fronts_silent None live = refl
fronts_silent (Some y) live = front_silent (whole_at y.unread) live

charges_silent : (o : Option Session) (event : PlantEvent) (live : Bool) → (charging o event live).spoken ≡ None
charges_silent None event live = refl
charges_silent (Some y) event live = ending_silent (plant_cause event) live

call_silent : (b : Bool) (port : Option ℕ) → (if b then record nothing { port = port } else nothing).spoken ≡ None
call_silent true port = refl
call_silent false port = refl

none_past : (now : ℕ) (o : Option Session) → AgainNone o → AgainPast now o
none_past now None n = tt
none_past now (Some y) n = subst (PastBy now) (sym n) tt

events_say : (event : Event) (plan : CarPlan) (now : ℕ) (k : State) → CameAgain event k.session → SaysPast now (eventing plan event k) k.session
events_say (Came token) plan now k c = λ spoken e. none_past now k.session c
events_say (Bytes bytes) plan now k c = silent_says now nothing k.session refl
events_say Gone plan now k c = silent_says now (eventing plan Gone k) k.session (ends_silent k.session cause.Gone k.live)
events_say (Datagram bytes) plan now k c = silent_says now (eventing plan (Datagram bytes) k) k.session (call_silent (is_searching plan k.search) (port_of bytes))
events_say (Plant event) plan now k c = silent_says now (eventing plan (Plant event) k) k.session (charges_silent k.session event k.live)
events_say Clock plan now k c = silent_says now nothing k.session refl
events_say Over plan now k c = silent_says now (eventing plan Over k) k.session refl

reached : (at now : ℕ) → nat_le at now ≡ true → at ≤ now
reached at now e = grind (arith, nat_tests)

due_past : (again : Option ℕ) (now : ℕ) → is_due again now ≡ true → PastBy now again
due_past None now e = tt
due_past (Some at) now e = reached at now e

repeats_by : (b : Bool) (again : Option ℕ) (own : Option Spoken) (now : ℕ) (spoken : Spoken) → is_due again now ≡ b → (if b then record nothing { spoken = own } else nothing).spoken ≡ Some spoken → PastBy now again
repeats_by true again own now spoken e i = due_past again now e
repeats_by false again own now spoken e i = absurd (some_none spoken (sym i))

repeats_say : (o : Option Session) (plan : CarPlan) (now : ℕ) → SaysPast now (repeating plan o now) o
repeats_say None plan now = silent_says now nothing None refl
repeats_say (Some y) plan now = λ spoken e. repeats_by (is_due y.again now) y.again (asking plan y.stage) now spoken refl e

pub says_due : (plan : CarPlan) (now : ℕ) (k : State) → k.clock ≡ now → SpeaksDue now k → SaysPast now (decided plan k).agenda k.session
says_due plan now k clock d = decided_by (λ (t : State). SaysPast now t.agenda k.session) plan k
    (λ e. record {
      times = λ early. silent_says now (timing plan k) k.session (ending_silent (hit (all_deadlines plan k) k.clock) k.live);
      events = λ early. events_say k.event plan now k (d.came early);
      fronts = silent_says now (fronting k.session k.live) k.session (fronts_silent k.session k.live);
      repeats = subst (λ (n : ℕ). SaysPast now (repeating plan k.session n) k.session) (sym clock) (repeats_say k.session plan now);
      seeks = silent_says now (seeking plan k.search k.clock) k.session refl;
    })
    d.says

-- ---- behind a hearing, and of a car that has ended

came_none : (event : Event) → CameAgain event None
came_none (Came token) = tt
came_none (Bytes bytes) = tt
came_none Gone = tt
came_none (Datagram bytes) = tt
came_none (Plant event) = tt
came_none Clock = tt
came_none Over = tt

pub ended_due : (now : ℕ) (k : State) → k.session ≡ None → SpeaksDue now k
ended_due now k n = record {
  says = λ spoken e. subst (AgainPast now) (sym n) tt;
  came = λ early. subst (CameAgain k.event) (sym n) (came_none k.event);
}

-- ---- behind a word

moved_says : (b : Bool) (plan : CarPlan) (now : ℕ) (s : State) (y : Session) (from to : CarStage) (r : Reply) → is_again from.phase to.phase ≡ b
    → SaysPast now (moved plan s y from r to).agenda (moved plan s y from r to).session
moved_says true plan now s y from to r e = rw e (λ spoken i. absurd (some_none spoken (sym i)))
moved_says false plan now s y from to r e = rw e (λ spoken i. tt)

replied_says : (o : Option EndCause) (plan : CarPlan) (now : ℕ) (s : State) (y : Session) (stage : CarStage) (r : Reply)
    → SaysPast now (replied_by o plan s y stage r).agenda (replied_by o plan s y stage r).session
replied_says (Some why) plan now s y stage r = λ spoken e. absurd (some_none spoken (sym e))
replied_says None plan now s y stage r = moved_says _ plan now s y stage (stage_behind plan stage r y.stop) r refl

told_says : (o : Option CarStage) (plan : CarPlan) (now : ℕ) (s : State) (y : Session) (r : Reply) → SaysPast now (replied plan s y o r).agenda (replied plan s y o r).session
told_says None plan now s y r = λ spoken e. absurd (some_none spoken (sym e))
told_says (Some stage) plan now s y r = replied_says (reply_cause plan stage _ r) plan now s y stage r

word_says : (w : Judged) (plan : CarPlan) (now : ℕ) (s : State) (y : Session) → SaysPast now (judged plan s y w).agenda (judged plan s y w).session
word_says (Chosen None) plan now s y = λ spoken e. absurd (some_none spoken (sym e))
word_says (Chosen (Some d)) plan now s y = λ spoken i. tt
word_says (Told r) plan now s y = told_says y.stage plan now s y r
word_says WrongSide plan now s y = λ spoken e. absurd (some_none spoken (sym e))
word_says Refused plan now s y = λ spoken e. absurd (some_none spoken (sym e))

reads_by : (o : Option Session) (plan : CarPlan) (now : ℕ) (s : State) (w : Judged) → o ≡ s.session → SpeaksDue now (judged_in plan s o w)
reads_by None plan now s w e = ended_due now s (sym e)
reads_by (Some y) plan now s w e = record { says = word_says w plan now s y; came = λ early. absurd (subst IsEarly (word_part w plan s y) early) }

pub reads_due : (plan : CarPlan) (now : ℕ) (s : State) (w : Judged) → SpeaksDue now (read plan s w)
reads_due plan now s w = reads_by s.session plan now s w refl

-- ---- behind an act

abbrev pub CameEarly : State → Type 0
CameEarly t = IsEarly t.part → CameAgain t.event t.session

decided_came : (plan : CarPlan) (k : State) → CameEarly k → CameEarly (decided plan k)
decided_came plan k c = decided_by CameEarly plan k
    (λ e. record { times = λ early. λ later. c early; events = λ early. λ later. absurd later; fronts = λ later. absurd later; repeats = λ later. absurd later; seeks = λ later. absurd later })
    c

came_awaits : (event : Event) (o : Option Session) (clock : ℕ) → CameAgain event (option_map (awaiting clock) o)
came_awaits (Came token) None clock = tt
came_awaits (Came token) (Some y) clock = refl
came_awaits (Bytes bytes) o clock = tt
came_awaits Gone o clock = tt
came_awaits (Datagram bytes) o clock = tt
came_awaits (Plant event) o clock = tt
came_awaits Clock o clock = tt
came_awaits Over o clock = tt

pub acts_due : (act : Act) (plan : CarPlan) (now : ℕ) (k : State) → IsOfCar act → k.clock ≡ now → SpeaksDue now k → SpeaksDue now (acted act true (decided plan k))
acts_due (Give o) plan now k i clock d = record {
  says = λ spoken e. subst (AgainPast now) (sym (same_session plan k)) (says_due plan now k clock d spoken e);
  came = decided_came plan k d.came;
}
acts_due (Say spoken bytes) plan now k i clock d = record {
  says = λ other e. absurd (some_none other (sym e));
  came = λ early. came_awaits (decided plan k).event (decided plan k).session (decided plan k).clock;
}
acts_due (End number) plan now k i clock d = record { says = λ other e. tt; came = λ early. absurd early }
acts_due (Seek datagram) plan now k i clock d = absurd i
acts_due (Dial port) plan now k i clock d = absurd i

-- ---- what is said was decided

some_todo : (a b : Todo) → Some a ≡ Some b → a ≡ b
some_todo a b e = cc

spoken_of : (port : Option ℕ) (order : Option Order) (own : Option Spoken) (ending : Option EndCause) (seeks : Bool) (spoken : Spoken) → first_of port order own ending seeks ≡ Some (states.Speak spoken)
    → own ≡ Some spoken
spoken_of (Some port) order own ending seeks spoken e = absurd (let same : states.Call port ≡ states.Speak spoken = some_todo (states.Call port) (states.Speak spoken) e in cc)
spoken_of None (Some o) own ending seeks spoken e = absurd (let same : states.Drive o ≡ states.Speak spoken = some_todo (states.Drive o) (states.Speak spoken) e in cc)
spoken_of None None (Some own) ending seeks spoken e = let same : states.Speak own ≡ states.Speak spoken = some_todo (states.Speak own) (states.Speak spoken) e in cc
spoken_of None None None (Some why) seeks spoken e = absurd (let same : states.Finish why ≡ states.Speak spoken = some_todo (states.Finish why) (states.Speak spoken) e in cc)
spoken_of None None None None true spoken e = absurd (let same : states.Inquire ≡ states.Speak spoken = some_todo states.Inquire (states.Speak spoken) e in cc)
spoken_of None None None None false spoken e = cc

pub record HasSpoken (a : Agenda) : Type 0 where
  pub spoken : Spoken
  pub is : a.spoken ≡ Some spoken

todo_spoken : (todo : Todo) (c : Codecs) (plan : CarPlan) (a : Agenda) (said : Spoken) (bytes : List ℕ) → first a ≡ Some todo → IsDone c plan todo (Say said bytes) true → HasSpoken a
todo_spoken (states.Call port) c plan a said bytes e d = absurd (let same : Say said bytes ≡ Dial port = d in cc)
todo_spoken (states.Drive o) c plan a said bytes e d = absurd (let same : Say said bytes ≡ Give o = d in cc)
todo_spoken (states.Speak spoken) c plan a said bytes e d = record { spoken = spoken; is = spoken_of a.port a.order a.spoken a.ending a.seeks spoken e }
todo_spoken (states.Finish why) c plan a said bytes e d = absurd (says_end said bytes _ d.0) where
  says_end : (said : Spoken) (bytes : List ℕ) (number : ℕ) → Say said bytes ≡ End number → ⊥
  says_end said bytes number e = cc
todo_spoken states.Inquire c plan a said bytes e d = absurd (says_seek said bytes _ d) where
  says_seek : (said : Spoken) (bytes datagram : List ℕ) → Say said bytes ≡ Seek datagram → ⊥
  says_seek said bytes datagram e = cc

pub says_past : (c : Codecs) (plan : CarPlan) (now : ℕ) (k : State) (said : Spoken) (bytes : List ℕ) → k.clock ≡ now → SpeaksDue now k → MayAct c plan k (Say said bytes) true → AgainPast now k.session
says_past c plan now k said bytes clock d i =
    let own : HasSpoken (decided plan k).agenda = todo_spoken i.todo c plan (decided plan k).agenda said bytes i.acts i.done in
    says_due plan now k clock d own.spoken own.is
