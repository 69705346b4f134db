-- What a car decides, what it does first, and which word it reads.
use Rattle.std.proofs.Common.{◌≡◌, ℕ, Bool, true, false, ◌&&◌, not, if◌then◌else◌, List, [], length, Option, Some, None, Result, Ok, refl, ap, sym, subst, ◌∙◌}
use Rattle.std.proofs.lemmas.List.{append-nil}
use Rattle.session_words.specs.declared.plan.CarPlan.{CarPlan}
use Rattle.v2gtp_frames.specs.declared.FrameFault.{FrameFault}
use Rattle.v2gtp_frames.specs.Frames.{frame, IsPayload}
use Rattle.v2gtp_frames.specs.Reading.{whole_at, payload_at}
use Rattle.v2gtp_frames.proofs.Again.{payload_again}
use Rattle.car_rules.specs.Searching.{next_request}
use Rattle.car_spec.specs.Codecs.{Judged, Codecs}
use Rattle.car_spec.specs.States.{Todo, Agenda, Part, Timing, Eventing, Wording, Session, State, nothing, is_none, is_done, first}
use Rattle.car_spec.specs.Due.{is_due}
use Rattle.car_spec.specs.Deciding.{timing, eventing, fronting_by, fronting, is_whole, has_word, asking, repeating, seeking, from_seeking, from_repeating, from_wording, from_eventing, from_part, decided}
use Rattle.car_spec.specs.Judging.{Payload, dialect_of, payload_by, payload_in, wanted, IsRead}
use Rattle.car_spec.specs.Next.{IsDone}
use Rattle.pair_deeds.specs.Cars.{CarsDoWhatIsFirst, CarsReadNothingBefore, CarsDontRestBefore, IsStill, HasNothingDue, CarsStayBehindActs, CarsStayBehindHearings, CarsStayAtWords, CarsAskOnceMore, CarsWait, CarsReadWords, CarsDontRestAtWords}
use Rattle.pair_deeds.proofs.Fronts.{whole_frame}

some_none : {A : Type 0} (a : A) → Some a ≡ None → ⊥
some_none a e = cc

some_todo : (a b : Todo) → Some a ≡ Some b → a ≡ b
some_todo a b e = cc

-- ---- what is first

pub cars_do_what_is_first : (c : Codecs) → CarsDoWhatIsFirst c
cars_do_what_is_first c plan s todo act taken e i = subst (λ (t : Todo). IsDone c plan t act taken) (some_todo i.todo todo (sym i.acts ∙ e)) i.done

wants_nothing : (s : State) → is_done s.agenda ≡ false → wanted s ≡ None
wants_nothing s e = ap (λ (b : Bool). if b then payload_in s.session else None) e

none_read : (c : Codecs) (plan : CarPlan) (o : Option Payload) (word : Judged) → o ≡ None → IsRead c plan o word → ⊥
none_read c plan None word e r = r
none_read c plan (Some payload) word e r = some_none payload e

pub cars_read_nothing_before : (c : Codecs) → CarsReadNothingBefore c
cars_read_nothing_before c plan s todo word e i =
    none_read c plan (wanted (decided plan s)) word (wants_nothing (decided plan s) (ap is_none e)) i

pub cars_dont_rest_before : CarsDontRestBefore
cars_dont_rest_before plan s todo e q = some_none todo (sym e ∙ q.none)

-- ---- what is decided

skipped : (a : Agenda) (s rest : State) (part : Part) → a ≡ nothing → (if is_done a then rest else record s { agenda = a; part = part }) ≡ rest
skipped a s rest part e = ap (λ (x : Agenda). if is_done x then rest else record s { agenda = x; part = part }) e

taken_up : (a : Agenda) (s rest : State) (part : Part) → is_done a ≡ false → (if is_done a then rest else record s { agenda = a; part = part }) ≡ record s { agenda = a; part = part }
taken_up a s rest part f = ap (λ (x : Bool). if x then rest else record s { agenda = a; part = part }) f

right_front : (o : Option Session) (session : Session) (live : Bool) (r : Option ℕ) → o ≡ Some session → whole_at session.unread ≡ Ok r → fronting o live ≡ nothing
right_front o session live r e w = ap (λ (x : Option Session). fronting x live) e ∙ ap (λ (x : Result (Option ℕ) FrameFault). fronting_by x live) w

no_word : (o : Option Session) (session : Session) (r : Option ℕ) (b : Bool) → o ≡ Some session → whole_at session.unread ≡ Ok r → is_whole (Ok r) ≡ b → has_word o ≡ b
no_word o session r b e w f = ap has_word e ∙ ap is_whole w ∙ f

not_due : (o : Option Session) (session : Session) (plan : CarPlan) (now : ℕ) → o ≡ Some session → is_due session.again now ≡ false → repeating plan o now ≡ nothing
not_due o session plan now e f =
    ap (λ (x : Option Session). repeating plan x now) e
    ∙ ap (λ (b : Bool). if b then record nothing { spoken = asking plan session.stage } else nothing) f

seeks_not : (plan : CarPlan) (s : State) → next_request plan s.search ≡ None → seeking plan s.search s.clock ≡ nothing
seeks_not plan s e = ap (λ (o : Option ℕ). record nothing { seeks = is_due o s.clock }) e

stays_wording : (plan : CarPlan) (s : State) (session : Session) → HasNothingDue plan s session → whole_at session.unread ≡ Ok None → from_wording plan s ≡ s
stays_wording plan s session h w =
    skipped (fronting s.session s.live) s (if has_word s.session then s else from_repeating plan s) Wording (right_front s.session session s.live None h.session_is w)
    ∙ ap (λ (b : Bool). if b then s else from_repeating plan s) (no_word s.session session None false h.session_is w refl)
    ∙ skipped (repeating plan s.session s.clock) s (from_seeking plan s) Wording (not_due s.session session plan s.clock h.session_is h.again)
    ∙ skipped (seeking plan s.search s.clock) s s Wording (seeks_not plan s h.search)

word_wording : (plan : CarPlan) (s : State) (session : Session) (count : ℕ) → s.session ≡ Some session → whole_at session.unread ≡ Ok (Some count) → from_wording plan s ≡ s
word_wording plan s session count e w =
    skipped (fronting s.session s.live) s (if has_word s.session then s else from_repeating plan s) Wording (right_front s.session session s.live (Some count) e w)
    ∙ ap (λ (b : Bool). if b then s else from_repeating plan s) (no_word s.session session (Some count) true e w refl)

asks_wording : (plan : CarPlan) (s : State) (session : Session) → s.session ≡ Some session → whole_at session.unread ≡ Ok None → is_done (repeating plan (Some session) s.clock) ≡ false
    → from_wording plan s ≡ record s { agenda = repeating plan (Some session) s.clock; part = Wording }
asks_wording plan s session e w d =
    skipped (fronting s.session s.live) s (if has_word s.session then s else from_repeating plan s) Wording (right_front s.session session s.live None e w)
    ∙ ap (λ (b : Bool). if b then s else from_repeating plan s) (no_word s.session session None false e w refl)
    ∙ ap (λ (o : Option Session). if is_done (repeating plan o s.clock) then from_seeking plan s else record s { agenda = repeating plan o s.clock; part = Wording }) e
    ∙ taken_up (repeating plan (Some session) s.clock) s (from_seeking plan s) Wording d

early : (plan : CarPlan) (s t : State) → timing plan s ≡ nothing → eventing plan s.event s ≡ nothing → from_wording plan s ≡ t → from_part plan Timing s ≡ t
early plan s t m v f = skipped (timing plan s) s (from_eventing plan s) Eventing m ∙ skipped (eventing plan s.event s) s (from_wording plan s) Wording v ∙ f

-- where something is decided, or nothing, a car that ended decides as little
decides : (plan : CarPlan) (s t : State) (part : Part) → s.over ≡ false → s.agenda ≡ nothing → s.part ≡ part → from_part plan part s ≡ t → decided plan s ≡ t
decides plan s t part o e p f =
    ap (λ (x : Agenda). if is_done x && not s.over then from_part plan s.part s else s) e
    ∙ ap (λ (b : Bool). if not b then from_part plan s.part s else s) o ∙ ap (λ (x : Part). from_part plan x s) p ∙ f

stays_if : (over : Bool) (s t : State) → t ≡ s → (if not over then t else s) ≡ s
stays_if true s t e = refl
stays_if false s t e = e

stays : (plan : CarPlan) (s : State) (part : Part) → s.agenda ≡ nothing → s.part ≡ part → from_part plan part s ≡ s → decided plan s ≡ s
stays plan s part e p f =
    ap (λ (x : Agenda). if is_done x && not s.over then from_part plan s.part s else s) e
    ∙ ap (λ (x : Part). if not s.over then from_part plan x s else s) p ∙ stays_if s.over s (from_part plan part s) f

pub cars_stay_behind_acts : CarsStayBehindActs
cars_stay_behind_acts plan s session e p h w = stays plan s Wording e p (stays_wording plan s session h w)

pub cars_stay_behind_hearings : CarsStayBehindHearings
cars_stay_behind_hearings plan s session e p m v h w = stays plan s Timing e p (early plan s s m v (stays_wording plan s session h w))

pub cars_stay_at_words : CarsStayAtWords
cars_stay_at_words plan s session count e p m v i w = stays plan s Timing e p (early plan s s m v (word_wording plan s session count i w))

pub cars_ask_once_more : CarsAskOnceMore
cars_ask_once_more plan s session e o p m v i w d =
    decides plan s (record s { agenda = repeating plan (Some session) s.clock; part = Wording }) Timing o e p
    (early plan s (record s { agenda = repeating plan (Some session) s.clock; part = Wording }) m v (asks_wording plan s session i w d))

-- ---- words

wants : (s : State) (session : Session) → s.session ≡ Some session → s.agenda ≡ nothing → wanted s ≡ payload_in (Some session)
wants s session e a = ap (λ (x : Agenda). if is_done x then payload_in s.session else None) a ∙ ap payload_in e

pub cars_wait : CarsWait
cars_wait plan s session k w =
    let quiet : wanted (decided plan s) ≡ None =
    ap wanted k.stays ∙ wants s session k.session_is k.none ∙ ap (λ (r : Result (Option ℕ) FrameFault). payload_by r session) w in
    record { none = ap (λ (x : State). first x.agenda) k.stays ∙ ap first k.none; no_word = quiet }

payload_of : Session → List ℕ → Payload
payload_of session payload = record { dialect = dialect_of session.stage; bytes = payload }

still_wants : (plan : CarPlan) (s : State) (session : Session) (payload : List ℕ) → IsStill plan s session → session.unread ≡ frame payload → IsPayload payload
    → wanted s ≡ Some (payload_of session payload)
unfolding payload_of
still_wants plan s session payload k u short =
    let whole : whole_at session.unread ≡ Ok (Some (length payload)) = ap whole_at u ∙ whole_frame payload short in
    let bytes : payload_at (length payload) session.unread ≡ payload =
    ap (λ (x : List ℕ). payload_at (length payload) x) (u ∙ sym (append-nil (frame payload))) ∙ payload_again payload [] in
    wants s session k.session_is k.none ∙ ap (λ (r : Result (Option ℕ) FrameFault). payload_by r session) whole
    ∙ ap (λ (x : List ℕ). Some (record { dialect = dialect_of session.stage; bytes = x })) bytes

pub cars_dont_rest_at_words : CarsDontRestAtWords
cars_dont_rest_at_words plan s session payload k u short q =
    some_none (payload_of session payload) (sym (still_wants plan s session payload k u short) ∙ ap wanted (sym k.stays) ∙ q.no_word)

pub cars_read_words : (c : Codecs) → CarsReadWords c
unfolding payload_of
cars_read_words c plan s session payload word k u short i =
    let r : IsRead c plan (wanted s) word = subst (λ (x : State). IsRead c plan (wanted x) word) k.stays i in
    subst (λ (o : Option Payload). IsRead c plan o word) (still_wants plan s session payload k u short) r
