-- What a post decides, what it does first, and which word it reads.
use Rattle.std.proofs.Common.{◌≡◌, ℕ, Bool, true, false, if◌then◌else◌, List, [], length, Option, Some, None, Result, Ok, refl, ap, sym, subst, ◌∙◌, ◌⊎◌, inl, inr}
use Rattle.std.proofs.lemmas.List.{append-nil}
use Rattle.session_words.specs.declared.plan.PostPlan.{PostPlan}
use Rattle.v2gtp_frames.specs.declared.FrameFault.{FrameFault}
use Rattle.v2gtp_frames.specs.Frames.{frame, IsPayload}
use Rattle.v2gtp_frames.specs.Reading.{whole_at, payload_at}
use Rattle.v2gtp_frames.proofs.Again.{payload_again}
use Rattle.session_rules.specs.Stages.{is_waiting}
use Rattle.post_spec.specs.Codecs.{Codecs}
use Rattle.post_spec.specs.Steps.{Act, Reading}
use Rattle.station_spec.specs.States.{Todo, Agenda, Part, Repeating, Timing, Eventing, Wording, Session, State, nothing, is_none, is_done, first}
use Rattle.station_spec.specs.Deciding.{repeating, timing, eventing, fronting, from_wording, from_eventing, from_timing, from_part, decided}
use Rattle.station_spec.specs.Judging.{Payload, speaks, payload_by, payload_in, wanted, read, filled, IsShown, IsRead}
use Rattle.station_spec.specs.Next.{IsDone}
use Rattle.station_spec.specs.Sharing.{Shows}
use Rattle.pair_deeds.specs.Posts.{PostsDoWhatIsFirst, IsStill, IsCalm, PostsStayBehindHearings, PostsStayBehindActs, PostsDecideByEvents, PostsWait, ReadsWord, PostsReadWords, PostsDontRestAtWords}
use Rattle.pair_deeds.proofs.Fronts.{whole_frame}

some_none : {A : Type 0} (a : A) → Some a ≡ None → ⊥
some_none a e = cc

some_todo : (a b : Todo) → Some a ≡ Some b → a ≡ b
some_todo a b e = cc

-- ---- what is first

wants_nothing : (s : State) (b : Bool) → is_done s.agenda ≡ b → b ≡ false → wanted s ≡ None
wants_nothing s true e f = cc
wants_nothing s false e f = rw e refl

none_read : (c : Codecs) (plan : PostPlan) (Shows : ℕ → ℕ → Type 0) (s : State) (o : Option Payload) (reading : Option Reading) → o ≡ None → IsRead c plan Shows s o reading → reading ≡ None
none_read c plan Shows s None None e r = refl
none_read c plan Shows s None (Some reading) e r = absurd r
none_read c plan Shows s (Some payload) reading e r = absurd (some_none payload e)

pub posts_do_what_is_first : (c : Codecs) → PostsDoWhatIsFirst c
posts_do_what_is_first c plan limit s todo reading act taken e i =
    let busy : is_done (decided plan s).agenda ≡ false = ap is_none e in
    let none : wanted (decided plan s) ≡ None = wants_nothing (decided plan s) false busy refl in
    let reads : reading ≡ None = none_read c plan (Shows limit [] []) (decided plan s) (wanted (decided plan s)) reading none i.read in
    let does : first (read plan (decided plan s) None).agenda ≡ Some i.todo = subst (λ (r : Option Reading). first (filled plan r s).agenda ≡ Some i.todo) reads i.acts in
    record { reads_nothing = reads; done = subst (λ (t : Todo). IsDone c t act taken) (some_todo i.todo todo (sym does ∙ e)) i.done }

-- ---- what is decided

skipped : (a : Agenda) (s rest : State) (part : Part) → a ≡ nothing → (if is_done a then rest else record s { agenda = a; part = part }) ≡ rest
skipped a s rest part e = ap (λ (x : Agenda). if is_done x then rest else record s { agenda = x; part = part }) e

stays_wording : (s : State) → fronting s.session s.live ≡ nothing → from_wording s ≡ s
stays_wording s e = skipped (fronting s.session s.live) s s Wording e

stays_repeating : (plan : PostPlan) (s : State) → IsCalm plan s → from_part plan Repeating s ≡ s
stays_repeating plan s k =
    skipped (repeating s.facts.contactor) s (from_timing plan s) Timing k.repeats ∙ skipped (timing s.session s.clock s.live) s (from_eventing plan s) Eventing k.times
    ∙ skipped (eventing plan s.event s) s (from_wording s) Wording k.events ∙ stays_wording s k.fronts

decides : (plan : PostPlan) (s t : State) (part : Part) → s.agenda ≡ nothing → s.part ≡ part → from_part plan part s ≡ t → decided plan s ≡ t
decides plan s t part e p f =
    ap (λ (x : Agenda). if is_done x then from_part plan s.part s else s) e ∙ ap (λ (x : Part). from_part plan x s) p ∙ f

pub posts_stay_behind_hearings : PostsStayBehindHearings
posts_stay_behind_hearings plan s e p k = decides plan s s Repeating e p (stays_repeating plan s k)

pub posts_stay_behind_acts : PostsStayBehindActs
posts_stay_behind_acts plan s e p f = decides plan s s Wording e p (stays_wording s f)

taken_up : (a b : Agenda) (s rest : State) (part : Part) → a ≡ b → is_done b ≡ false → (if is_done a then rest else record s { agenda = a; part = part }) ≡ record s { agenda = b; part = part }
taken_up a b s rest part e f =
    ap (λ (x : Agenda). if is_done x then rest else record s { agenda = x; part = part }) e
    ∙ ap (λ (x : Bool). if x then rest else record s { agenda = b; part = part }) f

pub posts_decide_by_events : PostsDecideByEvents
posts_decide_by_events plan s agenda e p r t v d =
    decides plan s (record s { agenda = agenda; part = Wording }) Repeating e p
    (skipped (repeating s.facts.contactor) s (from_timing plan s) Timing r ∙ skipped (timing s.session s.clock s.live) s (from_eventing plan s) Eventing t
    ∙ taken_up (eventing plan s.event s) agenda s (from_wording s) Wording v d)

-- ---- words

wants : (s : State) (session : Session) → s.session ≡ Some session → s.agenda ≡ nothing → wanted s ≡ payload_in (Some session)
wants s session e a = ap (λ (x : Agenda). if is_done x then payload_in s.session else None) a ∙ ap payload_in e

unwhole : (session : Session) (b : Bool) → whole_at session.unread ≡ Ok None → (if b then None else payload_by (whole_at session.unread) session) ≡ None
unwhole session true w = refl
unwhole session false w = ap (λ (r : Result (Option ℕ) FrameFault). payload_by r session) w

waits_for : (session : Session) → (is_waiting session.stage.row ≡ true) ⊎ (whole_at session.unread ≡ Ok None) → payload_in (Some session) ≡ None
waits_for session (inl w) = rw w refl
waits_for session (inr w) = unwhole session (is_waiting session.stage.row) w

pub posts_wait : PostsWait
posts_wait plan s session k w =
    let quiet : wanted (decided plan s) ≡ None = ap wanted k.stays ∙ wants s session k.session_is k.none ∙ waits_for session w in
    record { none = ap (λ (x : State). first x.agenda) k.stays ∙ ap first k.none; no_word = quiet }

-- the payload of a whole frame
payload_of : Session → List ℕ → Payload
payload_of session payload = record { dialect = speaks session.stage; bytes = payload }

whole_payload : (session : Session) (payload : List ℕ) → session.unread ≡ frame payload → IsPayload payload → is_waiting session.stage.row ≡ false
    → payload_in (Some session) ≡ Some (payload_of session payload)
unfolding payload_of
whole_payload session payload u short w =
    let whole : whole_at session.unread ≡ Ok (Some (length payload)) = ap whole_at u ∙ whole_frame payload short in
    let bytes : payload_at (length payload) session.unread ≡ payload =
    ap (λ (x : List ℕ). payload_at (length payload) x) (u ∙ sym (append-nil (frame payload))) ∙ payload_again payload [] in
    ap (λ (b : Bool). if b then None else payload_by (whole_at session.unread) session) w
    ∙ ap (λ (r : Result (Option ℕ) FrameFault). payload_by r session) whole
    ∙ ap (λ (x : List ℕ). Some (record { dialect = speaks session.stage; bytes = x })) bytes

still_wants : (plan : PostPlan) (s : State) (session : Session) (payload : List ℕ) → IsStill plan s session → is_waiting session.stage.row ≡ false
    → session.unread ≡ frame payload → IsPayload payload → wanted s ≡ Some (payload_of session payload)
still_wants plan s session payload k w u short = wants s session k.session_is k.none ∙ whole_payload session payload u short w

pub posts_dont_rest_at_words : PostsDontRestAtWords
posts_dont_rest_at_words plan s session payload k w u short q =
    some_none (payload_of session payload) (sym (still_wants plan s session payload k w u short) ∙ ap wanted (sym k.stays) ∙ q.no_word)

some_read : (c : Codecs) (plan : PostPlan) (limit : ℕ) (s : State) (session : Session) (payload : List ℕ) (reading : Option Reading) (act : Act) (taken : Bool) (todo : Todo)
    → s.session ≡ Some session → IsRead c plan (Shows limit [] []) s (Some (payload_of session payload)) reading → first (filled plan reading s).agenda ≡ Some todo → IsDone c todo act taken
    → ReadsWord c plan limit s session payload reading act taken
unfolding payload_of
some_read c plan limit s session payload None act taken todo e r a d = absurd r
some_read c plan limit s session payload (Some read) act taken todo e r a d = record {
  read = read;
  reading_is = refl;
  judged = r.0;
  shown = subst (λ (o : Option Session). IsShown (Shows limit [] []) plan s o read.judged read.shown) e r.1;
  todo = todo;
  acts = a;
  done = d;
}

pub posts_read_words : (c : Codecs) → PostsReadWords c
posts_read_words c plan limit s session payload reading act taken k w u short i =
    let want : wanted s ≡ Some (payload_of session payload) = still_wants plan s session payload k w u short in
    let r : IsRead c plan (Shows limit [] []) s (wanted s) reading = subst (λ (x : State). IsRead c plan (Shows limit [] []) x (wanted x) reading) k.stays i.read in
    some_read c plan limit s session payload reading act taken i.todo k.session_is (subst (λ (o : Option Payload). IsRead c plan (Shows limit [] []) s o reading) want r) i.acts i.done
