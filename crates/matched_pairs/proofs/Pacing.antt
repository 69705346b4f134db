-- A car that waits for nothing and says nothing is to ask once more, and not before it is due.
use Rattle.std.proofs.Common.{◌≡◌, ℕ, Bool, true, false, not, ◌&&◌, if◌then◌else◌, List, [], Option, Some, None, is_some, refl, ap, sym, subst, ◌∙◌}
use Rattle.std.specs.Option.{option_map}
use Rattle.charge_world.specs.declared.ports.Order.{Order}
use Rattle.session_words.specs.declared.cause.EndCause.{EndCause}
use Rattle.session_words.specs.declared.plan.CarPlan.{CarPlan}
use Rattle.session_words.specs.declared.word.Reply.{Reply}
use Rattle.v2gtp_frames.specs.Reading.{whole_at}
use Rattle.post_spec.specs.Steps.{Event}
use Rattle.car_rules.specs.declared.stage.CarPhase.{CarPhase}
use Rattle.car_rules.specs.declared.stage.CarPhase.TheVariants as phase
use Rattle.car_rules.specs.declared.stage.CarStage.{CarStage}
use Rattle.car_rules.specs.Deadlines.{due_at}
use Rattle.car_rules.specs.Moves.{is_again, stage_behind}
use Rattle.car_rules.specs.Replies.{reply_cause}
use Rattle.car_spec.specs.Codecs.{Judged, Chosen, Told, WrongSide, Refused}
use Rattle.car_spec.specs.Steps.{Spoken}
use Rattle.car_spec.specs.States.{Agenda, Part, Unheard, Timing, Eventing, Wording, Session, State, Todo, nothing, is_done, first, first_of, is_none}
use Rattle.car_spec.specs.Due.{is_due}
use Rattle.car_spec.specs.Deciding.{ending_by, timing, eventing, fronting, is_whole, has_word, asking, repeating, decide, from_seeking, from_repeating, from_wording, from_eventing, from_part, decided}
use Rattle.car_spec.specs.Acting.{awaiting}
use Rattle.car_spec.specs.Hearing.{session_heard}
use Rattle.car_spec.specs.Judging.{moved, replied_by, replied, judged, judged_in}
use Rattle.car_laws.proofs.Decided.{decided_by}
use Rattle.pair_deeds.specs.Cars.{IsStill}
use Rattle.matched_pairs.proofs.Messages.{empty_waits}

true_false : (b : Bool) → b ≡ true → b ≡ false → ⊥
true_false b e f = cc

some_none : {A : Type 0} (a : A) → Some a ≡ None → ⊥
some_none a e = cc

-- ---- what it keeps

-- a request that is asked once more is of a step that is asked for again and again
abbrev pub IsRepeated : Option CarStage → Type 0
IsRepeated None = ⊥
IsRepeated (Some c) = is_again c.phase c.phase ≡ true

abbrev pub AgainBy : Option ℕ → Option CarStage → Type 0
AgainBy None stage = Unit {0}
AgainBy (Some at) stage = IsRepeated stage

-- with no reply to come and nothing decided it asks once more
abbrev pub RestsBy : Option CarStage → Option ℕ → Agenda → Option ℕ → Type 0
RestsBy None sent agenda again = Unit {0}
RestsBy (Some c) (Some at) agenda again = Unit {0}
RestsBy (Some c) None agenda again = agenda ≡ nothing → is_some again ≡ true

abbrev pub PacedBy : Agenda → Option Session → Type 0
PacedBy agenda None = Unit {0}
PacedBy agenda (Some y) = AgainBy y.again y.stage × RestsBy y.stage y.moments.sent agenda y.again

pub record IsPaced (k : State) : Type 0 where
  pub heard : k.part ≡ Unheard → ⊥
  pub paced : PacedBy k.agenda k.session

-- ---- an agenda with nothing in it

empty : (port : Option ℕ) (order : Option Order) (spoken : Option Spoken) (ending : Option EndCause) (seeks : Bool) → first_of port order spoken ending seeks ≡ None
    → record { port = port; order = order; spoken = spoken; ending = ending; seeks = seeks } ≡ nothing
empty None None None None false e = refl
empty (Some port) order spoken ending seeks e = absurd (some_none _ e)
empty None (Some order) spoken ending seeks e = absurd (some_none _ e)
empty None None (Some spoken) ending seeks e = absurd (some_none _ e)
empty None None None (Some cause) seeks e = absurd (some_none _ e)
empty None None None None true e = absurd (some_none _ e)

none_first : (o : Option Todo) → is_none o ≡ true → o ≡ None
none_first None e = refl
none_first (Some todo) e = absurd (true_false true refl (sym e))

quiet_by : (b : Bool) (plan : CarPlan) (k : State) → is_done k.agenda ≡ b → first (decided plan k).agenda ≡ None → first k.agenda ≡ None
quiet_by true plan k e q = none_first (first k.agenda) e
quiet_by false plan k e q = ap (λ (x : State). first x.agenda) (sym (ap (λ (b : Bool). if b && not k.over then from_part plan k.part k else k) e)) ∙ q

pub quiet_has_none : (plan : CarPlan) (k : State) → first (decided plan k).agenda ≡ None → k.agenda ≡ nothing
quiet_has_none plan k q =
    let a : Agenda = k.agenda in
    empty a.port a.order a.spoken a.ending a.seeks (quiet_by (is_done k.agenda) plan k refl q)

-- ---- a hearing

pub hears_paced : (event : Event) (at : ℕ) (o : Option Session) → (session_heard event at None ≡ None) → PacedBy nothing o → PacedBy nothing (session_heard event at o)
hears_paced event at None n p = subst (PacedBy nothing) (sym n) tt
hears_paced event at (Some y) n p = p

-- ---- a word

pub timing_not : Timing ≡ Unheard → ⊥
timing_not e = cc

eventing_not : Eventing ≡ Unheard → ⊥
eventing_not e = cc

pub wording_not : Wording ≡ Unheard → ⊥
wording_not e = cc

pub decides_heard : (plan : CarPlan) (k : State) → (k.part ≡ Unheard → ⊥) → (decided plan k).part ≡ Unheard → ⊥
decides_heard plan k n = decided_by (λ (t : State). t.part ≡ Unheard → ⊥) plan k
    (λ e. record { times = λ i. eventing_not; events = λ i. wording_not; fronts = wording_not; repeats = wording_not; seeks = wording_not }) n

ends_not_empty : (cause : EndCause) (live : Bool) → ending_by cause live ≡ nothing → ⊥
ends_not_empty cause live e = some_none cause (ap (λ (a : Agenda). a.ending) e)

ends_rest : (stage : Option CarStage) (cause : EndCause) (live : Bool) (again : Option ℕ) → RestsBy stage None (ending_by cause live) again
ends_rest None cause live again = tt
ends_rest (Some c) cause live again = λ e. absurd (ends_not_empty cause live e)

asks_not_empty : (order : Option Order) (spoken : Spoken) → record nothing { order = order; spoken = Some spoken } ≡ nothing → ⊥
asks_not_empty order spoken e = some_none spoken (ap (λ (a : Agenda). a.spoken) e)

due_repeats : (o : Option ℕ) (to : CarStage) → is_again to.phase to.phase ≡ true → AgainBy o (Some to)
due_repeats None to e = tt
due_repeats (Some at) to e = e

again_again : (a b : CarPhase) → is_again a b ≡ true → is_again b b ≡ true
again_again phase.Authorizing phase.Authorizing e = refl
again_again phase.Asking phase.Asking e = refl
again_again phase.CableChecking phase.CableChecking e = refl
again_again phase.PreCharging phase.PreCharging e = refl
again_again phase.Charging phase.Charging e = refl
again_again a b e = cc

abbrev pub ReadsPaced : State → Type 0
ReadsPaced k = PacedBy k.agenda k.session

moves_paced : (b : Bool) (plan : CarPlan) (s : State) (session : Session) (from to : CarStage) (r : Reply) → is_again from.phase to.phase ≡ b → (b ≡ true → is_again to.phase to.phase ≡ true)
    → is_some (due_at s.clock plan.pace) ≡ true → ReadsPaced (moved plan s session from r to)
moves_paced true plan s session from to r e same due = rw e (due_repeats (due_at s.clock plan.pace) to (same refl), λ n. due)
moves_paced false plan s session from to r e same due = rw e (tt, λ n. absurd (some_none _ (ap (λ (a : Agenda). a.spoken) n)))

replies_paced : (o : Option EndCause) (plan : CarPlan) (s : State) (session : Session) (stage : CarStage) (r : Reply) → AgainBy session.again session.stage → is_some (due_at s.clock plan.pace) ≡ true
    → ReadsPaced (replied_by o plan s session stage r)
replies_paced (Some cause) plan s session stage r a due = (a, ends_rest session.stage cause s.live session.again)
replies_paced None plan s session stage r a due =
    moves_paced (is_again stage.phase (stage_behind plan stage r session.stop).phase) plan s session stage (stage_behind plan stage r session.stop) r refl
    (again_again stage.phase (stage_behind plan stage r session.stop).phase) due

told_paced : (o : Option CarStage) (plan : CarPlan) (s : State) (session : Session) (r : Reply) → AgainBy session.again session.stage → is_some (due_at s.clock plan.pace) ≡ true
    → ReadsPaced (replied plan s session o r)
told_paced None plan s session r a due = (a, ends_rest session.stage _ s.live session.again)
told_paced (Some stage) plan s session r a due = replies_paced (reply_cause plan stage _ r) plan s session stage r a due

word_paced : (w : Judged) (plan : CarPlan) (s : State) (session : Session) → AgainBy session.again session.stage → is_some (due_at s.clock plan.pace) ≡ true → ReadsPaced (judged plan s session w)
word_paced (Chosen None) plan s session a due = (a, ends_rest session.stage _ s.live session.again)
word_paced (Chosen (Some d)) plan s session a due = (tt, λ n. absurd (some_none _ (ap (λ (x : Agenda). x.spoken) n)))
word_paced (Told r) plan s session a due = told_paced session.stage plan s session r a due
word_paced WrongSide plan s session a due = (a, ends_rest session.stage _ s.live session.again)
word_paced Refused plan s session a due = (a, ends_rest session.stage _ s.live session.again)

pub reads_paced : (o : Option Session) (agenda : Agenda) (plan : CarPlan) (s : State) (w : Judged) → o ≡ s.session → PacedBy agenda o → is_some (due_at s.clock plan.pace) ≡ true → ReadsPaced (judged_in plan s o w)
reads_paced None agenda plan s w e p due = subst (PacedBy s.agenda) e tt
reads_paced (Some y) agenda plan s w e p due = word_paced w plan s y p.0 due

moved_part : (b : Bool) (plan : CarPlan) (s : State) (session : Session) (from to : CarStage) (r : Reply) → is_again from.phase to.phase ≡ b → (moved plan s session from r to).part ≡ Wording
moved_part true plan s session from to r e = rw e refl
moved_part false plan s session from to r e = rw e refl

replied_part : (o : Option EndCause) (plan : CarPlan) (s : State) (session : Session) (stage : CarStage) (r : Reply) → (replied_by o plan s session stage r).part ≡ Wording
replied_part (Some cause) plan s session stage r = refl
replied_part None plan s session stage r = moved_part _ plan s session stage (stage_behind plan stage r session.stop) r refl

told_part : (o : Option CarStage) (plan : CarPlan) (s : State) (session : Session) (r : Reply) → (replied plan s session o r).part ≡ Wording
told_part None plan s session r = refl
told_part (Some stage) plan s session r = replied_part (reply_cause plan stage _ r) plan s session stage r

pub word_part : (w : Judged) (plan : CarPlan) (s : State) (session : Session) → (judged plan s session w).part ≡ Wording
word_part (Chosen None) plan s session = refl
word_part (Chosen (Some d)) plan s session = refl
word_part (Told r) plan s session = told_part session.stage plan s session r
word_part WrongSide plan s session = refl
word_part Refused plan s session = refl

pub reads_heard : (o : Option Session) (plan : CarPlan) (s : State) (w : Judged) → (s.part ≡ Unheard → ⊥) → (judged_in plan s o w).part ≡ Unheard → ⊥
reads_heard None plan s w n = n
reads_heard (Some y) plan s w n = λ e. wording_not (sym (word_part w plan s y) ∙ e)

-- ---- an act

awaits_by : (stage : Option CarStage) (at : ℕ) (agenda : Agenda) → RestsBy stage (Some at) agenda None
awaits_by None at agenda = tt
awaits_by (Some c) at agenda = tt

pub says_paced : (o : Option Session) (at : ℕ) (agenda : Agenda) → PacedBy agenda (option_map (awaiting at) o)
says_paced None at agenda = tt
says_paced (Some y) at agenda = (tt, awaits_by y.stage at agenda)

rests_busy : (stage : Option CarStage) (sent : Option ℕ) (agenda : Agenda) (again : Option ℕ) → (agenda ≡ nothing → ⊥) → RestsBy stage sent agenda again
rests_busy None sent agenda again n = tt
rests_busy (Some c) (Some at) agenda again n = tt
rests_busy (Some c) None agenda again n = λ e. absurd (n e)

pub gives_paced : (o : Option Session) (a b : Agenda) → (b ≡ nothing → ⊥) → PacedBy a o → PacedBy b o
gives_paced None a b n p = tt
gives_paced (Some y) a b n p = (p.0, rests_busy y.stage y.moments.sent b y.again n)

-- ---- it isn't due while nothing is decided

decides_on : (b : Bool) (a : Agenda) (part : Part) (k rest : State) → is_done a ≡ b → decide a part k rest ≡ k → k.agenda ≡ nothing → rest ≡ k
decides_on true a part k rest e d n = sym (ap (λ (x : Bool). if x then rest else record k { agenda = a; part = part }) e) ∙ d
decides_on false a part k rest e d n =
    let same : record k { agenda = a; part = part } ≡ k = sym (ap (λ (x : Bool). if x then rest else record k { agenda = a; part = part }) e) ∙ d in
    let none : a ≡ nothing = ap (λ (x : State). x.agenda) same ∙ n in
    absurd (true_false (is_done a) (ap is_done none) e)

due_not : (b : Bool) (plan : CarPlan) (k : State) (y : Session) (c : CarStage) → is_due y.again k.clock ≡ b → k.session ≡ Some y → y.stage ≡ Some c → k.agenda ≡ nothing → from_repeating plan k ≡ k
    → is_due y.again k.clock ≡ false
due_not false plan k y c e s g n d = e
due_not true plan k y c e s g n d =
    let asks : repeating plan k.session k.clock ≡ record nothing { spoken = asking plan (Some c) } =
    ap (λ (o : Option Session). repeating plan o k.clock) s
    ∙ ap (λ (x : Bool). if x then record nothing { spoken = asking plan y.stage } else nothing) e
    ∙ ap (λ (o : Option CarStage). record nothing { spoken = asking plan o }) g in
    let same : record k { agenda = record nothing { spoken = asking plan (Some c) }; part = Wording } ≡ k =
    sym (ap (λ (a : Agenda). decide a Wording k (from_seeking plan k)) asks) ∙ d in
    absurd (some_none _ (ap (λ (x : State). x.agenda.spoken) same ∙ ap (λ (a : Agenda). a.spoken) n))

no_word : (k : State) (y : Session) → k.session ≡ Some y → y.unread ≡ [] → has_word k.session ≡ false
no_word k y s u = ap has_word s ∙ ap (λ (x : List ℕ). is_whole (whole_at x)) u ∙ ap is_whole empty_waits

words_not : (plan : CarPlan) (k : State) (y : Session) (c : CarStage) → k.session ≡ Some y → y.stage ≡ Some c → y.unread ≡ [] → k.agenda ≡ nothing → from_wording plan k ≡ k → is_due y.again k.clock ≡ false
words_not plan k y c s g u n d =
    let front : (if has_word k.session then k else from_repeating plan k) ≡ k =
    decides_on (is_done (fronting k.session k.live)) (fronting k.session k.live) Wording k (if has_word k.session then k else from_repeating plan k) refl d n in
    due_not (is_due y.again k.clock) plan k y c refl s g n (sym (ap (λ (x : Bool). if x then k else from_repeating plan k) (no_word k y s u)) ∙ front)

events_not : (plan : CarPlan) (k : State) (y : Session) (c : CarStage) → k.session ≡ Some y → y.stage ≡ Some c → y.unread ≡ [] → k.agenda ≡ nothing → from_eventing plan k ≡ k → is_due y.again k.clock ≡ false
events_not plan k y c s g u n d =
    words_not plan k y c s g u n (decides_on (is_done (eventing plan k.event k)) (eventing plan k.event k) Wording k (from_wording plan k) refl d n)

part_not : (part : Part) (plan : CarPlan) (k : State) (y : Session) (c : CarStage) → (part ≡ Unheard → ⊥) → k.session ≡ Some y → y.stage ≡ Some c → y.unread ≡ [] → k.agenda ≡ nothing → from_part plan part k ≡ k
    → is_due y.again k.clock ≡ false
part_not Unheard plan k y c h s g u n d = absurd (h refl)
part_not Timing plan k y c h s g u n d =
    events_not plan k y c s g u n (decides_on (is_done (timing plan k)) (timing plan k) Eventing k (from_eventing plan k) refl d n)
part_not Eventing plan k y c h s g u n d = events_not plan k y c s g u n d
part_not Wording plan k y c h s g u n d = words_not plan k y c s g u n d

pub not_due : (plan : CarPlan) (k : State) (y : Session) (c : CarStage) → IsPaced k → IsStill plan k y → k.over ≡ false → y.stage ≡ Some c → y.unread ≡ [] → is_due y.again k.clock ≡ false
not_due plan k y c p still over g u =
    let goes : decided plan k ≡ from_part plan k.part k =
    ap (λ (a : Agenda). if is_done a && not k.over then from_part plan k.part k else k) still.none ∙ ap (λ (b : Bool). if not b then from_part plan k.part k else k) over in
    part_not k.part plan k y c p.heard still.session_is g u still.none (sym goes ∙ still.stays)
