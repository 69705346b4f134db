-- The post does something.
use Rattle.std.proofs.Common.{◌≡◌, ℕ, true, List, [], ◌∷◌, ◌++◌, Option, Some, None, refl, sym, subst, ◌∙◌}
use Rattle.std.proofs.lemmas.List.{append-nil}
use Rattle.session_words.specs.declared.plan.CarPlan.{CarPlan}
use Rattle.session_words.specs.declared.plan.PostPlan.{PostPlan}
use Rattle.post_spec.specs.Codecs as post
use Rattle.post_spec.specs.Steps.{Act, Give, Send, Answer, End, Reading}
use Rattle.station_spec.specs.States.{Session, State}
use Rattle.station_spec.specs.Deciding.{decided}
use Rattle.station_spec.specs.Judging.{filled}
use Rattle.station_spec.specs.Acting.{acted}
use Rattle.station_spec.specs.Next.{Acts}
use Rattle.station_spec.specs.Sharing.{Shows}
use Rattle.station_laws.proofs.Decided.{same_session}
use Rattle.car_rules.specs.declared.stage.CarStage.{CarStage}
use Rattle.car_spec.specs.Codecs as car
use Rattle.car_spec.specs.States as car_states
use Rattle.pipe_spec.specs.Histories.{Happening, StationDoes, moment, station_says, to_station, to_car}
use Rattle.pipe_spec.specs.Turns.{Station, station_state, car_state}
use Rattle.pair_deeds.specs.Cars as cars
use Rattle.matched_pairs.specs.Phases.{Words, NoneYet, Read}
use Rattle.matched_pairs.specs.Moves.{IsPair}
use Rattle.matched_pairs.specs.Acts.{IsOfBeginning}
use Rattle.matched_pairs.specs.Requests.{SaysOrEnds, IsOffered, IsAsked}
use Rattle.matched_pairs.proofs.Requested.{posts_do}
use Rattle.matched_pairs.specs.Courses.{IsAt, GoesUndisturbed, GoesWell}
use Rattle.matched_pairs.specs.Contactors.{Stands}
use Rattle.matched_pairs.proofs.Clocks.{filled_clock}
use Rattle.matched_pairs.specs.Paces.{IsSoonBehind}
use Rattle.matched_pairs.proofs.Pacing.{IsRepeated, AgainBy, PacedBy, IsPaced}
use Rattle.matched_pairs.proofs.Since.{does_since}
use Rattle.matched_pairs.proofs.Asked.{asked_on, does_asked}
use Rattle.matched_pairs.proofs.Coming.{HasSomeUnread, IsComing, coming_said, some_unread, AgainSoon, AgainIn, again_said, again_gone, again_none}
use Rattle.matched_pairs.proofs.CarMoves.{begins_unstaged}
use Rattle.matched_pairs.proofs.Waits.{does_waits, gives_by_reading}
use Rattle.matched_pairs.proofs.Held.{Holds, Known}

-- ---- the request that is asked once more

unstaged : (again : Option ℕ) (stage : Option CarStage) (o : Option Session) → stage ≡ None → AgainBy again stage → AgainSoon again o
unstaged None stage o e k = tt
unstaged (Some at) stage o e k = absurd (subst IsRepeated e k)

none_again : (y : Option car_states.Session) (agenda : car_states.Agenda) (o : Option Session) → ((z : car_states.Session) → y ≡ Some z → z.stage ≡ None) → PacedBy agenda y → AgainIn y o
none_again None agenda o f p = tt
none_again (Some y) agenda o f p = unstaged y.again y.stage o (f y refl) p.0

says_again : (act : Act) (plan : PostPlan) (s : State) (y : Option car_states.Session) (now : ℕ) → SaysOrEnds plan s act → (filled plan None s).clock ≡ now → IsSoonBehind now s.session → AgainIn y s.session
    → AgainIn y (acted act true (filled plan None s)).session
says_again (Send bytes) plan s y now i clock b k =
    again_said y (decided plan s).session (decided plan s).clock now clock (subst (IsSoonBehind now) (sym (same_session plan s)) b) (subst (AgainIn y) (sym (same_session plan s)) k)
says_again (End number) plan s y now i clock b k = again_gone y
says_again (Give o) plan s y now i clock b k = absurd i
says_again (Answer bytes) plan s y now i clock b k = absurd i

does_again : (words : Words) (reading : Option Reading) (c : post.Codecs) (cs : car.Codecs) (st : Station) (plan : CarPlan) (h : List Happening) (act : Act) → IsPair c cs st.post plan → IsAt c cs st plan words h
    → Acts c st.post (Shows st.limit [] []) (station_state st h) reading act true → (filled st.post reading (station_state st h)).clock ≡ moment h → Holds st plan h
    → AgainIn (car_state plan h).session (station_state st (StationDoes reading act ∷ h)).session
does_again NoneYet reading c cs st plan h act p phase i clock k =
    let paced : IsPaced (car_state plan h) = k.paced in
    none_again (car_state plan h).session (car_state plan h).agenda (station_state st (StationDoes reading act ∷ h)).session
    (begins_unstaged c cs st.post plan (station_state st h) (car_state plan h) (to_station h) (to_car h) phase) paced.paced
does_again (Read dialect xs) None c cs st plan h act p phase i clock k =
    says_again act st.post (station_state st h) (car_state plan h).session (moment h)
    (posts_do c cs st.post plan st.limit (Read dialect xs) (station_state st h) (car_state plan h) (to_station h) (to_car h) None act p phase i) clock k.behind k.again
does_again (Read dialect xs) (Some r) c cs st plan h act p phase i clock k =
    let a : IsAsked st.post plan dialect xs (station_state st h) (car_state plan h) (to_station h) (to_car h) =
    posts_do c cs st.post plan st.limit (Read dialect xs) (station_state st h) (car_state plan h) (to_station h) (to_car h) (Some r) act p phase i in
    let awaits = a.awaits in
    let still : cars.IsStill plan (car_state plan h) awaits.session = awaits.still in
    again_none (car_state plan h).session (station_state st (StationDoes (Some r) act ∷ h)).session awaits.session still.session_is awaits.again

-- ---- a reply that comes

-- nothing came to the car before
abbrev pub ComesNone : List ℕ → Option car_states.Session → Type 0
ComesNone way y = (way ≡ []) × (HasSomeUnread y → ⊥)

quiet_coming : (o : Option Session) (y : Option car_states.Session) (way : List ℕ) (now : ℕ) → ComesNone way y → IsComing now o y (way ++ [])
quiet_coming o y way now n = record { under_way = λ w. absurd (w (append-nil way ∙ n.0)); unread = λ u. absurd (n.1 u) }

reads_coming : (act : Act) (t : State) (y : Option car_states.Session) (way : List ℕ) (now : ℕ) → t.clock ≡ now → ComesNone way y → IsComing now (acted act true t).session y (way ++ station_says act)
reads_coming (Give o) t y way now e n = quiet_coming (acted (Give o) true t).session y way now n
reads_coming (Send bytes) t y way now e n = record { under_way = λ w. coming_said t.session t.clock now e; unread = λ u. coming_said t.session t.clock now e }
reads_coming (Answer bytes) t y way now e n = quiet_coming (acted (Answer bytes) true t).session y way now n
reads_coming (End number) t y way now e n = record { under_way = λ w. tt; unread = λ u. tt }

begins_coming : (act : Act) (t : State) (y : Option car_states.Session) (way : List ℕ) (now : ℕ) → t.clock ≡ now → IsOfBeginning act → IsComing now (acted act true t).session y (way ++ station_says act)
begins_coming (Send bytes) t y way now e i = record { under_way = λ w. coming_said t.session t.clock now e; unread = λ u. coming_said t.session t.clock now e }
begins_coming (Give o) t y way now e i = absurd i
begins_coming (End number) t y way now e i = absurd i
begins_coming (Answer bytes) t y way now e i = absurd i

says_coming : (act : Act) (plan : PostPlan) (s t : State) (y : Option car_states.Session) (way : List ℕ) (now : ℕ) → t.clock ≡ now → SaysOrEnds plan s act → IsComing now (acted act true t).session y (way ++ station_says act)
says_coming (Send bytes) plan s t y way now e i = record { under_way = λ w. coming_said t.session t.clock now e; unread = λ u. coming_said t.session t.clock now e }
says_coming (End number) plan s t y way now e i = record { under_way = λ w. tt; unread = λ u. tt }
says_coming (Give o) plan s t y way now e i = absurd i
says_coming (Answer bytes) plan s t y way now e i = absurd i

does_coming : (words : Words) (reading : Option Reading) (c : post.Codecs) (cs : car.Codecs) (st : Station) (plan : CarPlan) (h : List Happening) (act : Act) → IsPair c cs st.post plan → IsAt c cs st plan words h
    → Acts c st.post (Shows st.limit [] []) (station_state st h) reading act true → (filled st.post reading (station_state st h)).clock ≡ moment h
    → IsComing (moment h) (station_state st (StationDoes reading act ∷ h)).session (car_state plan h).session (to_car (StationDoes reading act ∷ h))
does_coming NoneYet reading c cs st plan h act p phase i clock =
    let o : IsOffered (station_state st h) act = posts_do c cs st.post plan st.limit NoneYet (station_state st h) (car_state plan h) (to_station h) (to_car h) reading act p phase i in
    begins_coming act (filled st.post reading (station_state st h)) (car_state plan h).session (to_car h) (moment h) clock o.says
does_coming (Read dialect xs) None c cs st plan h act p phase i clock =
    says_coming act st.post (station_state st h) (filled st.post None (station_state st h)) (car_state plan h).session (to_car h) (moment h) clock
    (posts_do c cs st.post plan st.limit (Read dialect xs) (station_state st h) (car_state plan h) (to_station h) (to_car h) None act p phase i)
does_coming (Read dialect xs) (Some r) c cs st plan h act p phase i clock =
    let a : IsAsked st.post plan dialect xs (station_state st h) (car_state plan h) (to_station h) (to_car h) =
    posts_do c cs st.post plan st.limit (Read dialect xs) (station_state st h) (car_state plan h) (to_station h) (to_car h) (Some r) act p phase i in
    let awaits = a.awaits in
    let none = a.none in
    let still : cars.IsStill plan (car_state plan h) awaits.session = awaits.still in
    reads_coming act (filled st.post (Some r) (station_state st h)) (car_state plan h).session (to_car h) (moment h) clock
    (none.car, some_unread (car_state plan h).session awaits.session still.session_is awaits.unread_is)

-- ---- it does it

pub does : (c : post.Codecs) (cs : car.Codecs) (st : Station) (plan : CarPlan) (h : List Happening) (reading : Option Reading) (act : Act) → Known c cs st plan h
    → Acts c st.post (Shows st.limit [] []) (station_state st h) reading act true → GoesUndisturbed c cs st plan h (StationDoes reading act) → Stands st (StationDoes reading act ∷ h) → Holds st plan h
    → Holds st plan (StationDoes reading act ∷ h)
does c cs st plan h reading act n i d after k =
    let s : State = station_state st h in
    let well : GoesWell c cs st plan h = n.well in
    let clock : (filled st.post reading s).clock ≡ moment h = filled_clock st.post reading s ∙ n.clock in
    record {
      behind = does_since st.post reading act (moment h) s clock k.behind;
      asked = asked_on (moment h) (moment h) s (station_state st (StationDoes reading act ∷ h)) (to_station h) (to_station h) (car_state plan h).session
          (λ at a. does_asked act reading c st.post st.limit s (moment h) (to_station h) at (gives_by_reading well.words reading c cs st plan h act n.pair well.phase i) i clock after.closing a) k.asked;
      again = does_again well.words reading c cs st plan h act n.pair well.phase i clock k;
      coming = does_coming well.words reading c cs st plan h act n.pair well.phase i clock;
      waits = does_waits well.words reading c cs st plan h act n.pair well.phase i (d well.words well.phase);
      paced = k.paced;
      set_up = k.set_up;
      few = k.few;
    }
