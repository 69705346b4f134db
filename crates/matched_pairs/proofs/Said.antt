-- How many messages both ends have said, and how many of them the post has read: an end says one more than the car has read words, at most.
use Rattle.std.proofs.Common.{◌≡◌, ℕ, suc, ◌+◌, ◌<◌, ◌≤◌, true, false, List, [], ◌∷◌, ◌++◌, length, Option, Some, None, refl, ap, sym, subst, ◌∙◌, arith}
use Rattle.std.proofs.lemmas.List.{append-nil}
use Rattle.std.specs.List.{AllByRecursion}
use Rattle.charge_world.specs.declared.heard.PlantEvent.{PlantEvent}
use Rattle.session_words.specs.declared.plan.CarPlan.{CarPlan}
use Rattle.session_words.specs.declared.plan.PostPlan.{PostPlan}
use Rattle.v2gtp_frames.specs.Frames.{frame}
use Rattle.post_spec.specs.Codecs as post
use Rattle.post_spec.specs.Sessions.{brought}
use Rattle.post_spec.specs.Steps.{Event, Bytes, Plant, Clock, Act, Reading}
use Rattle.station_spec.specs.States.{Spoken, State}
use Rattle.station_spec.specs.Deciding.{decided}
use Rattle.station_spec.specs.Hearing.{arrival, hearing}
use Rattle.station_spec.specs.Judging.{filled}
use Rattle.station_spec.specs.Acting.{acted}
use Rattle.station_spec.specs.Next.{Acts}
use Rattle.station_spec.specs.Sharing.{Shows}
use Rattle.car_spec.specs.Codecs as car
use Rattle.car_spec.specs.Steps as car_steps_of
use Rattle.car_spec.specs.States as car_states
use Rattle.car_spec.specs.Deciding as car_deciding
use Rattle.car_spec.specs.Hearing as car_hearing
use Rattle.car_spec.specs.Acting as car_acting
use Rattle.car_spec.specs.Next as car_next
use Rattle.pipe_spec.specs.Histories.{Happening, CarComes, ChargerTells, StationHears, CarHears, TimePasses, StationDoes, CarReads, CarDoes, CarGoes, NumberIsDrawn, moment, joined, car_plan, car_cause, car_steps, station_says, car_says, to_station, to_car}
use Rattle.pipe_spec.specs.Turns.{Station, station_state, car_state, StationMayDo, CarMayDoBy, IsPiece, Follows}
use Rattle.pipe_spec.specs.Runs.{IsRun, IsWithin}
use Rattle.pipe_laws.specs.OneMessage.{IsShort}
use Rattle.pipe_laws.specs.Words.{words}
use Rattle.pipe_laws.proofs.Messages.{Carries, HasRead, read_loses, more}
use Rattle.pipe_laws.proofs.Station as of_post
use Rattle.pipe_laws.proofs.Car as of_car
use Rattle.pipe_laws.proofs.Pairs.{Right, IsOfCar, IsOnTheWay, IsOfStation, IsOnTheWayBack}
use Rattle.pipe_laws.proofs.Runs.{Holds, holds}
use Rattle.matched_pairs.proofs.Courses.{plan_is}
use Rattle.matched_pairs.proofs.Held.{car_heard}

true_false : true ≡ false → ⊥
true_false e = cc

some_none : {A : Type 0} (a : A) → Some a ≡ None → ⊥
some_none a e = cc

-- ---- what is counted

-- one message, or none
abbrev pub one_of : List ℕ → ℕ
one_of [] = 0
one_of (byte ∷ bytes) = 1

-- the messages that the car has said
abbrev pub asked : List Happening → ℕ
asked [] = 0
asked (CarDoes act ∷ h) = one_of (car_says act) + asked h
asked (other ∷ h) = asked h

-- those that the post has said
abbrev pub answered : List Happening → ℕ
answered [] = 0
answered (StationDoes reading act ∷ h) = one_of (station_says act) + answered h
answered (other ∷ h) = answered h

-- and those that it has read
abbrev pub one_reading : Option Reading → ℕ
one_reading None = 0
one_reading (Some reading) = 1

abbrev pub requests : List Happening → ℕ
requests [] = 0
requests (StationDoes reading act ∷ h) = one_reading reading + requests h
requests (other ∷ h) = requests h

length_frame : (p : List ℕ) → length (frame p) ≡ 8 + length p
length_frame p = omega arith

no_frame : (payload : List ℕ) → frame payload ≡ [] → ⊥
no_frame payload e =
    let size : length (frame payload) ≡ 8 + length payload = length_frame payload in
    let none : length (frame payload) ≡ 0 = ap length e in
    omega (arith, size, none)

one_some : (bytes : List ℕ) → (bytes ≡ [] → ⊥) → one_of bytes ≡ 1
one_some [] n = absurd (n refl)
one_some (byte ∷ bytes) n = refl

pub one_frame : (payload : List ℕ) → one_of (frame payload) ≡ 1
one_frame payload = one_some (frame payload) (no_frame payload)

one_most : (bytes : List ℕ) → one_of bytes ≤ 1
one_most [] = omega arith
one_most (byte ∷ bytes) = omega arith

-- ---- what is so of the counts

-- the car says nothing more until it has read a word
pub data AsksBy (asked read : ℕ) (k : car_states.State) : Type 0 where
  MayAsk : asked ≤ read → AsksBy asked read k
  HasAsked : asked ≤ suc read → of_car.IsSilent k → AsksBy asked read k

-- nothing is there for the post to read, and nobody says anything
pub record IsBack (s : State) (k : car_states.State) (way : List ℕ) : Type 0 where
  pub none : way ≡ []
  pub read : HasRead (of_post.unread s)
  pub silent : of_post.IsSilent s
  pub car_silent : of_car.IsSilent k

pub data AnswersBy (answered read : ℕ) (s : State) (k : car_states.State) (way : List ℕ) : Type 0 where
  MayAnswer : answered ≤ read → AnswersBy answered read s k way
  HasAnswered : answered ≤ suc read → IsBack s k way → AnswersBy answered read s k way

-- it reads each message once
pub data ReadsBy (requests asked : ℕ) (s : State) (way : List ℕ) : Type 0 where
  MayRead : requests < asked → ReadsBy requests asked s way
  HasReadAll : requests ≤ asked → way ≡ [] → HasRead (of_post.unread s) → ReadsBy requests asked s way

pub record Said (st : Station) (plan : CarPlan) (h : List Happening) : Type 0 where
  pub asks : AsksBy (asked h) (words h) (car_state plan h)
  pub answers : AnswersBy (answered h) (words h) (station_state st h) (car_state plan h) (to_station h)
  pub reads : ReadsBy (requests h) (asked h) (station_state st h) (to_station h)

-- ---- the post does something

-- a post that has read all reads nothing
reads_not : (c : post.Codecs) (plan : PostPlan) (S : ℕ → ℕ → Type 0) (s : State) (r : Reading) (act : Act) → of_post.IsSound s → HasRead (of_post.unread s) → Acts c plan S s (Some r) act true → ⊥
reads_not c plan S s r act f u i =
    some_none r (of_post.reads_nothing c plan S (decided plan s) (Some r) (of_post.decided_sound plan s f) (subst HasRead (sym (of_post.decided_unread plan s)) u) i.read)

done_then : (c : post.Codecs) (plan : PostPlan) (S : ℕ → ℕ → Type 0) (s : State) (act : Act) → of_post.IsSound s → Acts c plan S s None act true → of_post.Done (decided plan s) act
done_then c plan S s act f i = of_post.done_by c (decided plan s) i.todo act (of_post.decided_sound plan s f) i.acts i.done

still_read : (c : post.Codecs) (plan : PostPlan) (S : ℕ → ℕ → Type 0) (s : State) (act : Act) → of_post.IsSound s → HasRead (of_post.unread s) → Acts c plan S s None act true
    → HasRead (of_post.unread (acted act true (filled plan None s)))
still_read c plan S s act f u i =
    let d : of_post.Done (decided plan s) act = done_then c plan S s act f i in
    read_loses (of_post.unread (decided plan s)) (of_post.unread (acted act true (decided plan s))) d.keeps (subst HasRead (sym (of_post.decided_unread plan s)) u)

-- the message that it reads had come whole
reads_all : (c : post.Codecs) (plan : PostPlan) (S : ℕ → ℕ → Type 0) (s : State) (k : car_states.State) (way back : List ℕ) (r : Reading) (act : Act) → of_post.IsSound s → Right 65544 s k way back
    → Acts c plan S s (Some r) act true → (way ≡ []) × HasRead (of_post.unread (acted act true (filled plan (Some r) s)))
reads_all c plan S s k way back r act f (IsOfCar a b u v q) i = absurd (reads_not c plan S s r act f u i)
reads_all c plan S s k way back r act f (IsOfStation a b u v p) i = absurd (reads_not c plan S s r act f u i)
reads_all c plan S s k way back r act f (IsOnTheWayBack a u q p w) i = absurd (reads_not c plan S s r act f u i)
reads_all c plan S s k way back r act f (IsOnTheWay b v q p w) i =
    let x : of_post.IsWordRead plan (decided plan s) r way =
    of_post.word_read 65544 plan (decided plan s) r way (omega arith) (of_post.decided_sound plan s f) (of_post.word_of c plan S (decided plan s) r i.read)
    (subst (λ (o : Option (List ℕ)). Carries 65544 o way) (sym (of_post.decided_unread plan s)) w) in
    let all = x.read in
    let d : of_post.Done (filled plan (Some r) s) act = of_post.done_by c (filled plan (Some r) s) i.todo act all.0 i.acts i.done in
    (x.comes, read_loses (of_post.unread (filled plan (Some r) s)) (of_post.unread (acted act true (filled plan (Some r) s))) d.keeps all.1)

does_reads : (reading : Option Reading) (c : post.Codecs) (plan : PostPlan) (S : ℕ → ℕ → Type 0) (s : State) (k : car_states.State) (way back : List ℕ) (act : Act) (n asked : ℕ) → of_post.IsSound s → Right 65544 s k way back
    → Acts c plan S s reading act true → ReadsBy n asked s way → ReadsBy (one_reading reading + n) asked (acted act true (filled plan reading s)) way
does_reads None c plan S s k way back act n asked f r i (MayRead l) = MayRead (omega (arith, l))
does_reads None c plan S s k way back act n asked f r i (HasReadAll l e u) = HasReadAll (omega (arith, l)) e (still_read c plan S s act f u i)
does_reads (Some w) c plan S s k way back act n asked f r i (MayRead l) =
    let all = reads_all c plan S s k way back w act f r i in HasReadAll (omega (arith, l)) all.0 all.1
does_reads (Some w) c plan S s k way back act n asked f r i (HasReadAll l e u) = absurd (reads_not c plan S s w act f u i)

-- once something is under way to the car, nobody says anything
not_nil : (a : List ℕ) (x : ℕ) (b : List ℕ) → a ++ x ∷ b ≡ [] → ⊥
not_nil [] x b e = cc
not_nil (y ∷ a) x b e = cc

is_back : (s : State) (k : car_states.State) (way back : List ℕ) → (back ≡ [] → ⊥) → Right 65544 s k way back → IsBack s k way
is_back s k way back n (IsOfCar a b u v q) = absurd (n b)
is_back s k way back n (IsOnTheWay b v q p w) = absurd (n b)
is_back s k way back n (IsOfStation a b u v p) = absurd (n b)
is_back s k way back n (IsOnTheWayBack a u q p w) = record { none = a; read = u; silent = q; car_silent = p }

says_first : (bytes : List ℕ) (n read : ℕ) (s : State) (k : car_states.State) (way back : List ℕ) → n ≤ read → Right 65544 s k way (back ++ bytes) → AnswersBy (one_of bytes + n) read s k way
says_first [] n read s k way back l r = MayAnswer (omega (arith, l))
says_first (byte ∷ bytes) n read s k way back l r = HasAnswered (omega (arith, l)) (is_back s k way (back ++ byte ∷ bytes) (not_nil back byte bytes) r)

some_reply : (spoken : Spoken) (o : Option Spoken) → o ≡ Some spoken → o ≡ None → ⊥
some_reply spoken o e f = some_none spoken (sym e ∙ f)

silent_act : (s : State) (act : Act) → of_post.IsSilent s → of_post.Doing s act → (one_of (station_says act) ≡ 0) × of_post.IsSilent (acted act true s)
silent_act s act q (of_post.SaysNothing n k) = (ap one_of n, k q)
silent_act s act q (of_post.SaysReply payload spoken is e k) = absurd (some_reply spoken s.agenda.reply e q.reply)

says_more : (n m read : ℕ) → m ≡ 0 → n ≤ suc read → m + n ≤ suc read
says_more n m read e l = omega (arith, e, l)

does_answers : (reading : Option Reading) (c : post.Codecs) (plan : PostPlan) (S : ℕ → ℕ → Type 0) (s : State) (k : car_states.State) (way back : List ℕ) (act : Act) (n read : ℕ) → of_post.IsSound s
    → Acts c plan S s reading act true → Right 65544 (acted act true (filled plan reading s)) k way (back ++ station_says act) → AnswersBy n read s k way
    → AnswersBy (one_of (station_says act) + n) read (acted act true (filled plan reading s)) k way
does_answers reading c plan S s k way back act n read f i r (MayAnswer l) = says_first (station_says act) n read (acted act true (filled plan reading s)) k way back l r
does_answers None c plan S s k way back act n read f i r (HasAnswered l b) =
    let d : of_post.Done (decided plan s) act = done_then c plan S s act f i in
    let a = silent_act (decided plan s) act (of_post.decided_silent plan s b.silent) d.doing in
    HasAnswered (says_more n (one_of (station_says act)) read a.0 l)
    (record { none = b.none; read = still_read c plan S s act f b.read i; silent = a.1; car_silent = b.car_silent })
does_answers (Some w) c plan S s k way back act n read f i r (HasAnswered l b) = absurd (reads_not c plan S s w act f b.read i)

does : (c : post.Codecs) (st : Station) (plan : CarPlan) (h : List Happening) (reading : Option Reading) (act : Act) → StationMayDo c st h reading act → Holds 65544 st h (Some plan)
    → Holds 65544 st (StationDoes reading act ∷ h) (Some plan) → Said st plan h → Said st plan (StationDoes reading act ∷ h)
does c st plan h reading act i p q k = record {
  asks = k.asks;
  answers = does_answers reading c st.post (Shows st.limit [] []) (station_state st h) (car_state plan h) (to_station h) (to_car h) act (answered h) (words h) p.sound i q.right k.answers;
  reads = does_reads reading c st.post (Shows st.limit [] []) (station_state st h) (car_state plan h) (to_station h) (to_car h) act (requests h) (asked h) p.sound p.right i k.reads;
}

-- ---- the car reads a word

reads_asks : (n read : ℕ) (k l : car_states.State) → AsksBy n read k → AsksBy n (suc read) l
reads_asks n read k l (MayAsk m) = MayAsk (omega (arith, m))
reads_asks n read k l (HasAsked m q) = MayAsk m

reads_answers : (n read : ℕ) (s : State) (k l : car_states.State) (way : List ℕ) → AnswersBy n read s k way → AnswersBy n (suc read) s l way
reads_answers n read s k l way (MayAnswer m) = MayAnswer (omega (arith, m))
reads_answers n read s k l way (HasAnswered m b) = MayAnswer m

-- ---- it does something

some_spoken : (spoken : car_steps_of.Spoken) (o : Option car_steps_of.Spoken) → o ≡ Some spoken → o ≡ None → ⊥
some_spoken spoken o e f = some_none spoken (sym e ∙ f)

car_silent_act : (k : car_states.State) (act : car_steps_of.Act) → of_car.IsSilent k → of_car.Doing k act → (car_says act ≡ []) × of_car.IsSilent (car_acting.acted act true k)
car_silent_act k act q (of_car.SaysNothing n f) = (n, f q)
car_silent_act k act q (of_car.Says payload spoken is e f) = absurd (some_spoken spoken k.agenda.spoken e q.spoken)

asks_by : (k : car_states.State) (act : car_steps_of.Act) (n read : ℕ) → of_car.Doing k act → n ≤ read → AsksBy (one_of (car_says act) + n) read (car_acting.acted act true k)
asks_by k act n read (of_car.SaysNothing e f) l = let none : one_of (car_says act) ≡ 0 = ap one_of e in MayAsk (omega (arith, l, none))
asks_by k act n read (of_car.Says payload spoken is e f) l = let most : one_of (car_says act) ≤ 1 = one_most (car_says act) in HasAsked (omega (arith, l, most)) f

acts_asks : (plan : CarPlan) (k : car_states.State) (act : car_steps_of.Act) (n read : ℕ) → of_car.Doing (car_deciding.decided plan k) act → AsksBy n read k
    → AsksBy (one_of (car_says act) + n) read (car_acting.acted act true (car_deciding.decided plan k))
acts_asks plan k act n read d (MayAsk l) = asks_by (car_deciding.decided plan k) act n read d l
acts_asks plan k act n read d (HasAsked l q) =
    let a = car_silent_act (car_deciding.decided plan k) act (of_car.decided_silent plan k q) d in
    HasAsked (says_more n (one_of (car_says act)) read (ap one_of a.0) l) a.1

none_said : (way bytes : List ℕ) → way ≡ [] → bytes ≡ [] → way ++ bytes ≡ []
none_said way bytes e f = ap (λ (x : List ℕ). x ++ bytes) e ∙ f

acts_answers : (plan : CarPlan) (s : State) (k : car_states.State) (act : car_steps_of.Act) (way : List ℕ) (n read : ℕ) → of_car.Doing (car_deciding.decided plan k) act → AnswersBy n read s k way
    → AnswersBy n read s (car_acting.acted act true (car_deciding.decided plan k)) (way ++ car_says act)
acts_answers plan s k act way n read d (MayAnswer l) = MayAnswer l
acts_answers plan s k act way n read d (HasAnswered l b) =
    let a = car_silent_act (car_deciding.decided plan k) act (of_car.decided_silent plan k b.car_silent) d in
    HasAnswered l (record { none = none_said way (car_says act) b.none a.0; read = b.read; silent = b.silent; car_silent = a.1 })

acts_reads : (bytes : List ℕ) (s : State) (way : List ℕ) (n asked : ℕ) → ReadsBy n asked s way → ReadsBy n (one_of bytes + asked) s (way ++ bytes)
acts_reads [] s way n asked (MayRead l) = MayRead (omega (arith, l))
acts_reads [] s way n asked (HasReadAll l e u) = HasReadAll (omega (arith, l)) (append-nil way ∙ e) u
acts_reads (byte ∷ bytes) s way n asked (MayRead l) = MayRead (omega (arith, l))
acts_reads (byte ∷ bytes) s way n asked (HasReadAll l e u) = MayRead (omega (arith, l))

acts : (cs : car.Codecs) (st : Station) (plan : CarPlan) (h : List Happening) (act : car_steps_of.Act) → car_next.MayAct cs plan (car_state plan h) act true → Holds 65544 st h (Some plan) → Said st plan h
    → Said st plan (CarDoes act ∷ h)
acts cs st plan h act i p k =
    let d : of_car.Done (car_deciding.decided plan (car_state plan h)) act =
    of_car.done_by cs plan (car_deciding.decided plan (car_state plan h)) i.todo act (of_car.decided_sound plan (car_state plan h) p.car_sound) i.acts i.done in
    record {
      asks = acts_asks plan (car_state plan h) act (asked h) (words h) d.doing k.asks;
      answers = acts_answers plan (station_state st h) (car_state plan h) act (to_station h) (answered h) (words h) d.doing k.answers;
      reads = acts_reads (car_says act) (station_state st h) (to_station h) (requests h) (asked h) k.reads;
    }

-- ---- turns

read_on : (o : Option (List ℕ)) → HasRead o → HasRead (more [] o)
read_on None u = tt
read_on (Some unread) u = append-nil unread ∙ u

heard_read : (event : Event) (at : ℕ) (s : State) → arrival event ≡ None → brought event ≡ [] → HasRead (of_post.unread s) → HasRead (of_post.unread (hearing at event s))
heard_read event at s a b u =
    subst HasRead (sym (of_post.heard_unread event at s a ∙ ap (λ (x : List ℕ). more x (of_post.unread s)) b)) (read_on (of_post.unread s) u)

hears_answers : (event : Event) (at : ℕ) (n read : ℕ) (s : State) (k : car_states.State) (way : List ℕ) → arrival event ≡ None → brought event ≡ [] → AnswersBy n read s k way
    → AnswersBy n read (hearing at event s) k way
hears_answers event at n read s k way a b (MayAnswer l) = MayAnswer l
hears_answers event at n read s k way a b (HasAnswered l i) =
    HasAnswered l (record { none = i.none; read = heard_read event at s a b i.read; silent = of_post.heard_silent event at s i.silent; car_silent = i.car_silent })

hears_reads : (event : Event) (at : ℕ) (n asked : ℕ) (s : State) (way : List ℕ) → arrival event ≡ None → brought event ≡ [] → ReadsBy n asked s way → ReadsBy n asked (hearing at event s) way
hears_reads event at n asked s way a b (MayRead l) = MayRead l
hears_reads event at n asked s way a b (HasReadAll l e u) = HasReadAll l e (heard_read event at s a b u)

-- a piece is heard: something is under way
piece_answers : (n read : ℕ) (s t : State) (k : car_states.State) (way rest : List ℕ) → (way ≡ [] → ⊥) → AnswersBy n read s k way → AnswersBy n read t k rest
piece_answers n read s t k way rest u (MayAnswer l) = MayAnswer l
piece_answers n read s t k way rest u (HasAnswered l b) = absurd (u b.none)

piece_reads : (n asked : ℕ) (s t : State) (way rest : List ℕ) → (way ≡ [] → ⊥) → ReadsBy n asked s way → ReadsBy n asked t rest
piece_reads n asked s t way rest u (MayRead l) = MayRead l
piece_reads n asked s t way rest u (HasReadAll l e r) = absurd (u e)

car_hears_asks : (event : Event) (at : ℕ) (n read : ℕ) (k : car_states.State) → of_car.IsPieceOrClock event → AsksBy n read k → AsksBy n read (car_hearing.hearing at event k)
car_hears_asks event at n read k p (MayAsk l) = MayAsk l
car_hears_asks event at n read k p (HasAsked l q) = HasAsked l (of_car.heard_silent event at k p q)

car_hears_answers : (event : Event) (at : ℕ) (n read : ℕ) (s : State) (k : car_states.State) (way : List ℕ) → of_car.IsPieceOrClock event → AnswersBy n read s k way
    → AnswersBy n read s (car_hearing.hearing at event k) way
car_hears_answers event at n read s k way p (MayAnswer l) = MayAnswer l
car_hears_answers event at n read s k way p (HasAnswered l b) =
    HasAnswered l (record { none = b.none; read = b.read; silent = b.silent; car_silent = of_car.heard_silent event at k p b.car_silent })

tells : (st : Station) (plan : CarPlan) (h : List Happening) (event : PlantEvent) → Said st plan h → Said st plan (ChargerTells event ∷ h)
tells st plan h event k = record {
  asks = k.asks;
  answers = hears_answers (Plant event) (moment h) (answered h) (words h) (station_state st h) (car_state plan h) (to_station h) refl refl k.answers;
  reads = hears_reads (Plant event) (moment h) (requests h) (asked h) (station_state st h) (to_station h) refl refl k.reads;
}

hears : (st : Station) (plan : CarPlan) (h : List Happening) (bytes : List ℕ) → (to_station h ≡ [] → ⊥) → Said st plan h → Said st plan (StationHears bytes ∷ h)
hears st plan h bytes u k = record {
  asks = k.asks;
  answers = piece_answers (answered h) (words h) (station_state st h) (station_state st (StationHears bytes ∷ h)) (car_state plan h) (to_station h) (to_station (StationHears bytes ∷ h)) u k.answers;
  reads = piece_reads (requests h) (asked h) (station_state st h) (station_state st (StationHears bytes ∷ h)) (to_station h) (to_station (StationHears bytes ∷ h)) u k.reads;
}

car_hears : (st : Station) (plan : CarPlan) (h : List Happening) (bytes : List ℕ) → Said st plan h → Said st plan (CarHears bytes ∷ h)
car_hears st plan h bytes k = record {
  asks = car_heard (λ (x : car_states.State). AsksBy (asked h) (words h) x) (car_cause h) plan (car_steps h) (Bytes bytes) (moment h)
      (car_hears_asks (Bytes bytes) (moment h) (asked h) (words h) (car_state plan h) tt k.asks) k.asks;
  answers = car_heard (λ (x : car_states.State). AnswersBy (answered h) (words h) (station_state st h) x (to_station h)) (car_cause h) plan (car_steps h) (Bytes bytes) (moment h)
      (car_hears_answers (Bytes bytes) (moment h) (answered h) (words h) (station_state st h) (car_state plan h) (to_station h) tt k.answers) k.answers;
  reads = k.reads;
}

passes : (st : Station) (plan : CarPlan) (h : List Happening) → Said st plan h → Said st plan (TimePasses ∷ h)
passes st plan h k =
    let s : State = station_state st (TimePasses ∷ h) in
    let answers : AnswersBy (answered h) (words h) s (car_state plan h) (to_station h) =
    hears_answers Clock (moment h + 10) (answered h) (words h) (station_state st h) (car_state plan h) (to_station h) refl refl k.answers in
    record {
      asks = car_heard (λ (x : car_states.State). AsksBy (asked h) (words h) x) (car_cause h) plan (car_steps h) Clock (moment h + 10)
          (car_hears_asks Clock (moment h + 10) (asked h) (words h) (car_state plan h) tt k.asks) k.asks;
      answers = car_heard (λ (x : car_states.State). AnswersBy (answered h) (words h) s x (to_station h)) (car_cause h) plan (car_steps h) Clock (moment h + 10)
          (car_hears_answers Clock (moment h + 10) (answered h) (words h) s (car_state plan h) (to_station h) tt answers) answers;
      reads = hears_reads Clock (moment h + 10) (requests h) (asked h) (station_state st h) (to_station h) refl refl k.reads;
    }

-- ---- all that may happen

step : (c : post.Codecs) (cs : car.Codecs) (st : Station) (plan : CarPlan) (h : List Happening) (e : Happening) → car_plan h ≡ Some plan → IsWithin e → Follows c cs st h e → Holds 65544 st h (Some plan)
    → Holds 65544 st (e ∷ h) (Some plan) → Said st plan h → Said st plan (e ∷ h)
step c cs st plan h (StationDoes reading act) came i f p q k = does c st plan h reading act f p q k
step c cs st plan h (CarReads word) came i f p q k = record {
  asks = reads_asks (asked h) (words h) (car_state plan h) (car_state plan (CarReads word ∷ h)) k.asks;
  answers = reads_answers (answered h) (words h) (station_state st h) (car_state plan h) (car_state plan (CarReads word ∷ h)) (to_station h) k.answers;
  reads = k.reads;
}
step c cs st plan h (CarDoes act) came i f p q k = acts cs st plan h act (subst (λ (o : Option CarPlan). CarMayDoBy cs o h act) came f.1) p k
step c cs st plan h (ChargerTells event) came i f p q k = tells st plan h event k
step c cs st plan h (StationHears bytes) came i f p q k = let t = f.turn in let piece : IsPiece st h (to_station h) bytes = t.1 in hears st plan h bytes piece.under_way k
step c cs st plan h (CarHears bytes) came i f p q k = car_hears st plan h bytes k
step c cs st plan h TimePasses came i f p q k = passes st plan h k
step c cs st plan h (CarComes other) came i f p q k = absurd (true_false (sym i))
step c cs st plan h CarGoes came i f p q k = absurd (true_false (sym i))
step c cs st plan h NumberIsDrawn came i f p q k = absurd (true_false (sym i))

pub holds_first : (c : post.Codecs) (cs : car.Codecs) (st : Station) (plan : CarPlan) (session : List Happening) → AllByRecursion IsWithin session → IsRun c cs st (session ++ CarComes plan ∷ [])
    → AllByRecursion (IsShort 65544) (session ++ CarComes plan ∷ []) → Holds 65544 st (session ++ CarComes plan ∷ []) (Some (joined plan))
holds_first c cs st plan session w r l =
    subst (λ (o : Option CarPlan). Holds 65544 st (session ++ CarComes plan ∷ []) o) (plan_is session plan w) (holds 65544 c cs st (session ++ CarComes plan ∷ []) (omega arith) r l)

pub said : (c : post.Codecs) (cs : car.Codecs) (st : Station) (plan : CarPlan) (session : List Happening) → AllByRecursion IsWithin session → IsRun c cs st (session ++ CarComes plan ∷ [])
    → AllByRecursion (IsShort 65544) (session ++ CarComes plan ∷ []) → Said st (joined plan) (session ++ CarComes plan ∷ [])
said c cs st plan [] w r l = record { asks = MayAsk (omega arith); answers = MayAnswer (omega arith); reads = HasReadAll (omega arith) refl refl }
said c cs st plan (e ∷ session) w r l =
    step c cs st (joined plan) (session ++ CarComes plan ∷ []) e (plan_is session plan w.1) w.0 r.1 (holds_first c cs st plan session w.1 r.0 l.1) (holds_first c cs st plan (e ∷ session) w r l)
    (said c cs st plan session w.1 r.0 l.1)

-- ---- so an end has said one message more than the car has read, and the post has read no more than that

asks_most : (n read : ℕ) (k : car_states.State) → AsksBy n read k → n ≤ suc read
asks_most n read k (MayAsk l) = omega (arith, l)
asks_most n read k (HasAsked l q) = l

answers_most : (n read : ℕ) (s : State) (k : car_states.State) (way : List ℕ) → AnswersBy n read s k way → n ≤ suc read
answers_most n read s k way (MayAnswer l) = omega (arith, l)
answers_most n read s k way (HasAnswered l b) = l

reads_most : (n asked : ℕ) (s : State) (way : List ℕ) → ReadsBy n asked s way → n ≤ asked
reads_most n asked s way (MayRead l) = omega (arith, l)
reads_most n asked s way (HasReadAll l e u) = l

pub record AreFewSaid (h : List Happening) : Type 0 where
  pub asked : asked h ≤ suc (words h)
  pub answered : answered h ≤ suc (words h)
  pub requests : requests h ≤ suc (words h)

few_read : (n m read : ℕ) → n ≤ m → m ≤ suc read → n ≤ suc read
few_read n m read a b = omega (arith, a, b)

pub few_said : (st : Station) (plan : CarPlan) (h : List Happening) → Said st plan h → AreFewSaid h
few_said st plan h k =
    let asks : asked h ≤ suc (words h) = asks_most (asked h) (words h) (car_state plan h) k.asks in
    record {
      asked = asks;
      answered = answers_most (answered h) (words h) (station_state st h) (car_state plan h) (to_station h) k.answers;
      requests = few_read (requests h) (asked h) (words h) (reads_most (requests h) (asked h) (station_state st h) (to_station h) k.reads) asks;
    }
