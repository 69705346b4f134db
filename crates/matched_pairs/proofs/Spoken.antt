-- What is so of a reply as the post decides it is so as the car reads it.
use Rattle.std.proofs.Common.{◌≡◌, ℕ, ◌+◌, Bool, true, false, if◌then◌else◌, List, [], ◌∷◌, ◌++◌, length, Option, Some, None, is_some, refl, ap, sym, subst, ◌∙◌, append_assoc, ◌⊎◌, inl, inr, arith}
use Rattle.std.proofs.lemmas.List.{append-nil}
use Rattle.std.specs.Option.{option_map}
use Rattle.charge_world.specs.declared.offer.Dialect.{Dialect}
use Rattle.session_words.specs.declared.cause.EndCause.{EndCause}
use Rattle.session_words.specs.declared.plan.CarPlan.{CarPlan}
use Rattle.session_words.specs.declared.word.Reply.{Reply}
use Rattle.v2gtp_frames.specs.Frames.{frame}
use Rattle.v2gtp_frames.specs.Reading.{payload_at}
use Rattle.v2gtp_frames.proofs.Again.{payload_again}
use Rattle.post_spec.specs.Codecs as post
use Rattle.post_spec.specs.Spelled.{read_back}
use Rattle.post_spec.specs.Steps.{Event, Bytes, Clock, Act, Give, Send, Answer, End}
use Rattle.station_spec.specs.States.{Spoken, Response, Said, Agenda, State, Todo, first}
use Rattle.station_spec.specs.States as states
use Rattle.station_spec.specs.Deciding.{decided}
use Rattle.station_spec.specs.Acting.{acted}
use Rattle.station_spec.specs.Next.{IsQuiet, IsSpoken, IsDone}
use Rattle.car_rules.specs.declared.stage.CarStage.{CarStage}
use Rattle.car_rules.specs.Moves.{is_again, stage_behind}
use Rattle.car_rules.specs.Replies.{reply_cause}
use Rattle.car_spec.specs.Codecs as car
use Rattle.car_spec.specs.Steps as car_steps
use Rattle.car_spec.specs.States as car_states
use Rattle.car_spec.specs.Acting as car_acting
use Rattle.car_spec.specs.Hearing as car_hearing
use Rattle.car_spec.specs.Judging as car_judging
use Rattle.pipe_spec.specs.Histories.{Happening}
use Rattle.pipe_spec.specs.Turns.{Station}
use Rattle.pipe_laws.proofs.Runs.{EndedBy}
use Rattle.pair_words.specs.Laws.{is_repeated}
use Rattle.pair_readings.specs.Codecs.{AreMutual}
use Rattle.pair_readings.proofs.Codecs.{replies_are_heard}
use Rattle.matched_pairs.specs.Phases.{Comes, Words, IsIn}
use Rattle.matched_pairs.specs.Moves.{IsPair}
use Rattle.matched_pairs.specs.Pending.{WasUnready}
use Rattle.matched_pairs.proofs.Pending.{WaitsIn, decided_only, decided_or, quiet_less, acted_reply, said_first}
use Rattle.matched_pairs.proofs.Repeating.{MayRepeat, waits_not, NothingCame}

some_none : {A : Type 0} (a : A) → Some a ≡ None → ⊥
some_none a e = cc

some_same : {A : Type 0} (a b : A) → Some a ≡ Some b → a ≡ b
some_same a b e = cc

-- what is so of one that is there
pub only : {A : Type 0} (P : A → Type 0) (a b : A) → Some a ≡ Some b → P a → P b
only P a b e p = subst P (some_same a b e) p

-- ---- what is so

-- where the car would ask the same again by this reply, the step wasn't done
abbrev pub IsOfNow : Station → CarPlan → List Happening → ℕ → CarStage → Reply → Type 0
IsOfNow st plan before now stage r = is_repeated stage.phase (stage_behind plan stage r false).phase ≡ true → WasUnready st plan before now stage.phase

abbrev pub IsSpokenNow : Station → CarPlan → List Happening → ℕ → CarStage → Spoken → Type 0
IsSpokenNow st plan before now stage (Response payload) = ⊥
IsSpokenNow st plan before now stage (Said dialect r) = (dialect ≡ stage.dialect) × IsOfNow st plan before now stage (read_back r)

-- of the reply that is decided
abbrev pub DecidesNow : Station → CarPlan → List Happening → ℕ → Option Spoken → Option car_states.Session → Type 0
DecidesNow st plan before now reply y = (session : car_states.Session) (stage : CarStage) (spoken : Spoken) → y ≡ Some session → session.stage ≡ Some stage → MayRepeat stage.phase → reply ≡ Some spoken
    → IsSpokenNow st plan before now stage spoken

-- of the one that is under way, or unread, to a car that awaits one
abbrev pub ComesIn : car.Codecs → Station → CarPlan → List Happening → ℕ → List ℕ → car_states.Session → Type 0
ComesIn cs st plan before now way session = (stage : CarStage) (at : ℕ) (payload : List ℕ) (r : Reply) → session.stage ≡ Some stage → MayRepeat stage.phase → session.moments.sent ≡ Some at
    → Comes payload session.unread way → car.Judges cs plan.dialects.items (Some stage.dialect) payload (car.Told r) → IsOfNow st plan before now stage r

abbrev pub ComesNow : car.Codecs → Station → CarPlan → List Happening → ℕ → List ℕ → Option car_states.Session → Type 0
ComesNow cs st plan before now way y = (session : car_states.Session) → y ≡ Some session → ComesIn cs st plan before now way session

-- ---- nothing comes

frame_long : (p : List ℕ) → length (frame p) ≡ 8 + length p
frame_long p = omega arith

longer : (n m : ℕ) → n ≡ 8 + m → n ≡ 0 → ⊥
longer n m e z = omega (arith, e, z)

no_frame : (payload unread way : List ℕ) → Comes payload unread way → unread ≡ [] → way ≡ [] → ⊥
no_frame payload unread way k u w =
    let none : frame payload ≡ [] = k.frame_is ∙ ap (λ (l : List ℕ). l ++ way) u ∙ w in
    longer (length (frame payload)) (length payload) (frame_long payload) (ap (λ (l : List ℕ). length l) none)

pub none_comes : (cs : car.Codecs) (st : Station) (plan : CarPlan) (before : List Happening) (now : ℕ) (way : List ℕ) (y : Option car_states.Session) → y ≡ None → ComesNow cs st plan before now way y
none_comes cs st plan before now way y n = λ session e. absurd (some_none session (sym e ∙ n))

pub empty_comes : (cs : car.Codecs) (st : Station) (plan : CarPlan) (before : List Happening) (now : ℕ) (way : List ℕ) (y : Option car_states.Session) → ((x : car_states.Session) → y ≡ Some x → x.unread ≡ []) → way ≡ []
    → ComesNow cs st plan before now way y
empty_comes cs st plan before now way y u w = λ session e stage at payload r f m g k j. absurd (no_frame payload session.unread way k (u session e) w)

-- ---- hearings

-- the post
pub heard_replies : (words : Words) (c : post.Codecs) (cs : car.Codecs) (st : Station) (plan : CarPlan) (before : List Happening) (now : ℕ) (s : State) (k : car_states.State) (ts tc : List ℕ) → IsPair c cs st.post plan
    → IsIn c cs st.post plan words s k ts tc → s.agenda.reply ≡ None → DecidesNow st plan before now (decided st.post s).agenda.reply k.session
heard_replies words c cs st plan before now s k ts tc p t n =
    λ session stage spoken e f m r. absurd (waits_not words c cs st.post plan s k ts tc session stage p t e f (decided_only st.post s n spoken r) m)

-- a post at rest
pub rest_replies : (st : Station) (plan : CarPlan) (before : List Happening) (now : ℕ) (s : State) (y : Option car_states.Session) → IsQuiet st.post s → DecidesNow st plan before now (decided st.post s).agenda.reply y
rest_replies st plan before now s y q = λ session stage spoken e f m r. absurd (some_none spoken (sym r ∙ quiet_less (decided st.post s).agenda q.none))

-- the car
shifts : (cs : car.Codecs) (st : Station) (plan : CarPlan) (before : List Happening) (now : ℕ) (way bytes rest : List ℕ) (x : car_states.Session) → way ≡ bytes ++ rest → ComesIn cs st plan before now way x
    → ComesIn cs st plan before now rest (car_hearing.heard_in (Bytes bytes) x)
shifts cs st plan before now way bytes rest x w old = λ stage at payload r f m g k j.
    old stage at payload r f m g (record { short = k.short; frame_is = k.frame_is ∙ append_assoc x.unread bytes rest ∙ ap (λ (l : List ℕ). x.unread ++ l) (sym w) }) j

pub heard_comes : (cs : car.Codecs) (st : Station) (plan : CarPlan) (before : List Happening) (now at : ℕ) (way bytes rest : List ℕ) (y : Option car_states.Session) → way ≡ bytes ++ rest
    → ComesNow cs st plan before now way y → ComesNow cs st plan before now rest (car_hearing.session_heard (Bytes bytes) at y)
heard_comes cs st plan before now at way bytes rest None w old = none_comes cs st plan before now rest None refl
heard_comes cs st plan before now at way bytes rest (Some x) w old = λ session e.
    only (ComesIn cs st plan before now rest) (car_hearing.heard_in (Bytes bytes) x) session e (shifts cs st plan before now way bytes rest x w (old x refl))

pub passes_comes : (cs : car.Codecs) (st : Station) (plan : CarPlan) (before : List Happening) (now at : ℕ) (way : List ℕ) (y : Option car_states.Session) → ((x : car_states.Session) → y ≡ Some x → x.unread ≡ []) → way ≡ []
    → ComesNow cs st plan before now way (car_hearing.session_heard Clock at y)
passes_comes cs st plan before now at way None u w = none_comes cs st plan before now way None refl
passes_comes cs st plan before now at way (Some x) u w =
    empty_comes cs st plan before now way (Some (car_hearing.heard_in Clock x))
    (λ session e. only (λ (z : car_states.Session). z.unread ≡ []) (car_hearing.heard_in Clock x) session e (append-nil x.unread ∙ u x refl)) w

-- one that has ended has no session
pub heard_by : (P : car_states.State → Type 0) (cause : Option ℕ) (plan : CarPlan) (steps : List car_steps.Step) (event : Event) (at : ℕ) → EndedBy cause (car_acting.state plan steps)
    → P (car_hearing.hearing at event (car_acting.state plan steps)) → ((car_acting.state plan steps).session ≡ None → P (car_acting.state plan steps))
    → P (car_acting.state plan (if is_some cause then steps else car_steps.Hears at event ∷ steps))
heard_by P None plan steps event at e p q = p
heard_by P (Some n) plan steps event at e p q = q e.session

-- ---- the post does something

stays_or : (st : Station) (plan : CarPlan) (before : List Happening) (now : ℕ) (t : State) (act : Act) (y : Option car_states.Session) (session : car_states.Session) (stage : CarStage) (spoken : Spoken)
    → DecidesNow st plan before now t.agenda.reply y → y ≡ Some session → session.stage ≡ Some stage → MayRepeat stage.phase → (WaitsIn (acted act true t).session → ⊥)
    → ((acted act true t).agenda.reply ≡ Some spoken) ⊎ WaitsIn (acted act true t).session → IsSpokenNow st plan before now stage spoken
stays_or st plan before now t act y session stage spoken old e f m n (inl r) = old session stage spoken e f m (acted_reply act t spoken r)
stays_or st plan before now t act y session stage spoken old e f m n (inr w) = absurd (n w)

pub acted_replies : (words : Words) (c : post.Codecs) (cs : car.Codecs) (st : Station) (plan : CarPlan) (before : List Happening) (now : ℕ) (t : State) (act : Act) (k : car_states.State) (ts tc : List ℕ) → IsPair c cs st.post plan
    → IsIn c cs st.post plan words (acted act true t) k ts tc → DecidesNow st plan before now t.agenda.reply k.session
    → DecidesNow st plan before now (decided st.post (acted act true t)).agenda.reply k.session
acted_replies words c cs st plan before now t act k ts tc p phase old = λ session stage spoken e f m r.
    stays_or st plan before now t act k.session session stage spoken old e f m (λ w. waits_not words c cs st.post plan (acted act true t) k ts tc session stage p phase e f w m)
    (decided_or st.post (acted act true t) spoken r)

-- what it sends
pub record IsSaid (c : post.Codecs) (a : Agenda) (bytes : List ℕ) : Type 0 where
  pub spoken : Spoken
  pub reply_is : a.reply ≡ Some spoken
  pub bytes_are : IsSpoken c spoken bytes

send_answer : (bytes datagram : List ℕ) → Send bytes ≡ Answer datagram → ⊥
send_answer bytes datagram e = cc

send_end : (bytes : List ℕ) (number : ℕ) → Send bytes ≡ End number → ⊥
send_end bytes number e = cc

send_same : (a b : List ℕ) → Send a ≡ Send b → a ≡ b
send_same a b e = cc

pub sends_reply : (todo : Todo) (c : post.Codecs) (a : Agenda) (bytes : List ℕ) → first a ≡ Some todo → IsDone c todo (Send bytes) true → IsSaid c a bytes
sends_reply (states.Tell datagram) c a bytes e d = absurd (send_answer bytes datagram d)
sends_reply (states.Give o) c a bytes e d = absurd (let same : Send bytes ≡ Give o = d in cc)
sends_reply (states.Say spoken) c a bytes e d = record { spoken = spoken; reply_is = said_first a spoken e; bytes_are = subst (λ (l : List ℕ). IsSpoken c spoken l) (sym (send_same bytes d.0 d.2)) d.1 }
sends_reply (states.Finish why) c a bytes e d = absurd (send_end bytes _ d.0)

-- a frame has one payload
same_length : (a b n m : ℕ) → n ≡ 8 + a → m ≡ 8 + b → n ≡ m → a ≡ b
same_length a b n m e f g = omega (arith, e, f, g)

one_payload : (a b : List ℕ) → frame a ≡ frame b → a ≡ b
one_payload a b e =
    let size : length a ≡ length b = same_length (length a) (length b) (length (frame a)) (length (frame b)) (frame_long a) (frame_long b) (ap (λ (l : List ℕ). length l) e) in
    sym (payload_again a []) ∙ ap (λ (n : ℕ). payload_at n (frame a ++ [])) size ∙ ap (λ (l : List ℕ). payload_at (length b) (l ++ [])) e ∙ payload_again b []

told_same : (a b : Reply) → car.Told a ≡ car.Told b → a ≡ b
told_same a b e = cc

comes_by : (spoken : Spoken) (c : post.Codecs) (cs : car.Codecs) (st : Station) (plan : CarPlan) (before : List Happening) (now : ℕ) (stage : CarStage) (payload bytes : List ℕ) (r : Reply) → AreMutual c cs
    → IsSpokenNow st plan before now stage spoken → IsSpoken c spoken bytes → frame payload ≡ bytes → car.Judges cs plan.dialects.items (Some stage.dialect) payload (car.Told r) → IsOfNow st plan before now stage r
comes_by (Response response) c cs st plan before now stage payload bytes r m k i e j = absurd k
comes_by (Said dialect own) c cs st plan before now stage payload bytes r m k i e j =
    let same : payload ≡ i.0 = one_payload payload i.0 (e ∙ i.2) in
    let there : car.Judges cs plan.dialects.items (Some dialect) i.0 (car.Told r) =
    subst (λ (d : Dialect). car.Judges cs plan.dialects.items (Some d) i.0 (car.Told r)) (sym k.0) (subst (λ (l : List ℕ). car.Judges cs plan.dialects.items (Some stage.dialect) l (car.Told r)) same j) in
    let heard : car.Told r ≡ car.Told (read_back own) = replies_are_heard c cs m plan.dialects.items dialect own i.0 (car.Told r) i.1 there in
    subst (λ (x : Reply). IsOfNow st plan before now stage x) (sym (told_same r (read_back own) heard)) k.1

pub sent_comes : (c : post.Codecs) (cs : car.Codecs) (st : Station) (plan : CarPlan) (before : List Happening) (now : ℕ) (k : car_states.State) (way bytes : List ℕ) (a : Agenda) → AreMutual c cs → NothingCame k way
    → DecidesNow st plan before now a.reply k.session → IsSaid c a bytes → ComesNow cs st plan before now (way ++ bytes) k.session
sent_comes c cs st plan before now k way bytes a agree none old i = λ session e stage at payload r f m g comes j.
    comes_by i.spoken c cs st plan before now stage payload bytes r agree (old session stage i.spoken e f m i.reply_is) i.bytes_are
    (comes.frame_is ∙ ap (λ (l : List ℕ). l ++ (way ++ bytes)) (none.unread session e) ∙ ap (λ (l : List ℕ). l ++ bytes) none.way_is) j

-- ---- the car reads a word

abbrev pub SentNone : Option car_states.Session → Type 0
SentNone None = Unit {0}
SentNone (Some y) = y.moments.sent ≡ None

moved_sent : (b : Bool) (plan : CarPlan) (s : car_states.State) (session : car_states.Session) (from to : CarStage) (r : Reply) → is_again from.phase to.phase ≡ b → SentNone (car_judging.moved plan s session from r to).session
moved_sent true plan s session from to r e = rw e refl
moved_sent false plan s session from to r e = rw e refl

replied_sent : (o : Option EndCause) (plan : CarPlan) (s : car_states.State) (session : car_states.Session) (stage : CarStage) (r : Reply) → SentNone (car_judging.replied_by o plan s session stage r).session
replied_sent (Some cause) plan s session stage r = refl
replied_sent None plan s session stage r = moved_sent _ plan s session stage (stage_behind plan stage r session.stop) r refl

told_sent : (o : Option CarStage) (plan : CarPlan) (s : car_states.State) (session : car_states.Session) (r : Reply) → SentNone (car_judging.replied plan s session o r).session
told_sent None plan s session r = refl
told_sent (Some stage) plan s session r = replied_sent (reply_cause plan stage _ r) plan s session stage r

word_sent : (w : car.Judged) (plan : CarPlan) (s : car_states.State) (session : car_states.Session) → SentNone (car_judging.judged plan s session w).session
word_sent (car.Chosen None) plan s session = refl
word_sent (car.Chosen (Some d)) plan s session = refl
word_sent (car.Told r) plan s session = told_sent session.stage plan s session r
word_sent car.WrongSide plan s session = refl
word_sent car.Refused plan s session = refl

reads_sent : (o : Option car_states.Session) (plan : CarPlan) (s : car_states.State) (w : car.Judged) → o ≡ s.session → SentNone (car_judging.judged_in plan s o w).session
reads_sent None plan s w e = subst SentNone e tt
reads_sent (Some y) plan s w e = word_sent w plan s y

-- none is awaited then
awaits_none : (cs : car.Codecs) (st : Station) (plan : CarPlan) (before : List Happening) (now : ℕ) (way : List ℕ) (y : Option car_states.Session) → SentNone y → ComesNow cs st plan before now way y
awaits_none cs st plan before now way None n = none_comes cs st plan before now way None refl
awaits_none cs st plan before now way (Some x) n = λ session e stage at payload r f m g k j.
    absurd (only (λ (z : car_states.Session). z.moments.sent ≡ Some at → ⊥) x session e (λ i. some_none at (sym i ∙ n)) g)

pub reads_comes : (cs : car.Codecs) (st : Station) (plan : CarPlan) (before : List Happening) (now : ℕ) (way : List ℕ) (k : car_states.State) (w : car.Judged)
    → ComesNow cs st plan before now way (car_judging.read plan k w).session
reads_comes cs st plan before now way k w = awaits_none cs st plan before now way (car_judging.read plan k w).session (reads_sent k.session plan k w refl)

-- ---- the car says something

pub says_comes : (cs : car.Codecs) (st : Station) (plan : CarPlan) (before : List Happening) (now clock : ℕ) (way : List ℕ) (y : Option car_states.Session) → ((x : car_states.Session) → y ≡ Some x → x.unread ≡ []) → way ≡ []
    → ComesNow cs st plan before now way (option_map (car_acting.awaiting clock) y)
says_comes cs st plan before now clock way None u w = none_comes cs st plan before now way None refl
says_comes cs st plan before now clock way (Some x) u w =
    empty_comes cs st plan before now way (Some (car_acting.awaiting clock x))
    (λ session e. only (λ (z : car_states.Session). z.unread ≡ []) (car_acting.awaiting clock x) session e (u x refl)) w
