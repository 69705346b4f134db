-- What each act and each word leaves to do.
use Rattle.std.proofs.Common.{◌≡◌, ◌<◌, ◌≤◌, ℕ, ◌+◌, ◌*◌, ◌==◌, nat_le, nat_lt, Bool, true, false, not, ◌&&◌, if◌then◌else◌, List, length, Option, Some, None, is_some, Result, Ok, Err, refl, sym, ap, subst, arith}
use Rattle.std.specs.Option.{option_map}
use Rattle.std.proofs.lemmas.Bool.{leb-true}
use Rattle.std.proofs.lemmas.Bool.Decides.{nat_tests}
use Rattle.std.proofs.lemmas.List.{length-drop}
use Rattle.charge_world.specs.declared.ports.Order.{Order}
use Rattle.session_timers.specs.Due.{never}
use Rattle.session_words.specs.declared.cause.EndCause.{EndCause}
use Rattle.session_words.specs.declared.cause.EndCause.TheVariants.{SendFailed, OrderFailed, BadFrame, NoNegotiation, WrongReply, Refused as PayloadRefused, WrongSide as FromWrongSide}
use Rattle.session_words.specs.declared.plan.CarPlan.{CarPlan}
use Rattle.session_words.specs.declared.word.Reply.{Reply}
use Rattle.session_words.specs.Plans.{IsCarPlan}
use Rattle.v2gtp_frames.specs.declared.FrameFault.{FrameFault}
use Rattle.v2gtp_frames.specs.Reading.{whole_at, behind, behind_front}
use Rattle.v2gtp_frames.proofs.Growing.{whole_fits}
use Rattle.car_rules.specs.declared.searching.Search.{Search}
use Rattle.car_rules.specs.declared.stage.CarStage.{CarStage}
use Rattle.car_rules.specs.Deadlines.{due_at}
use Rattle.car_rules.specs.Moves.{is_again, order_of, stage_behind}
use Rattle.car_rules.specs.Replies.{reply_cause}
use Rattle.car_rules.specs.Searching.{is_searching, next_request, dialed}
use Rattle.car_rules.specs.Stages.{first_stage}
use Rattle.car_spec.specs.Acting.{failing, dialing, giving, awaiting, saying, seeking, acted}
use Rattle.car_spec.specs.Codecs.{Codecs, Judged, Chosen, Told, WrongSide, Refused}
use Rattle.car_spec.specs.Deciding.{ending_by, asking, decide, fronting_by, fronting, has_word, repeating, from_seeking, from_repeating, from_wording, from_nothing, from_eventing, from_timing, from_part, decided, timing, eventing}
use Rattle.car_spec.specs.Deciding as deciding
use Rattle.car_spec.specs.Due.{again_in, is_due}
use Rattle.car_spec.specs.Judging.{Payload, payload_by, payload_in, wanted, passed, gone_on, waiting, moved, replied_by, replied, judged, judged_in, read}
use Rattle.car_spec.specs.Next.{IsDone, IsSaid, MayAct}
use Rattle.car_spec.specs.States.{Agenda, Part, Unheard, Timing, Eventing, Wording, Session, State, nothing, first_of, first, is_none, is_done}
use Rattle.car_spec.specs.States as states
use Rattle.car_spec.specs.Steps.{Spoken, Act}
use Rattle.evcc_machine.specs.Views.{unread_in}
use Rattle.evcc_machine.specs.Work.{parts_left, one_if, weight, load, repeats, seeks, spare_by, pending, work}

one_le : {A : Type 0} (o : Option A) → one_if o ≤ 1
one_le None = omega arith
one_le (Some a) = omega arith

weight_le : (b : Bool) (n : ℕ) → weight b n ≤ n
weight_le true n = omega arith
weight_le false n = omega arith

load_le : (a : Agenda) → load a ≤ 5
load_le a = omega (arith, one_le a.port, one_le a.order, one_le a.spoken, one_le a.ending, weight_le a.seeks 1)

spare_le : (over : Bool) (e : Option EndCause) (a b : ℕ) → a ≤ b → spare_by over e a ≤ spare_by over None b
spare_le true e a b h = omega arith
spare_le false (Some cause) a b h = omega arith
spare_le false None a b h = omega (arith, h)

spare_same : (over : Bool) (e : Option EndCause) (a b : ℕ) → a ≤ b → spare_by over e a ≤ spare_by over e b
spare_same true e a b h = omega arith
spare_same false (Some cause) a b h = omega arith
spare_same false None a b h = omega (arith, h)

spare_least : (over : Bool) (n : ℕ) → over ≡ false → 7 ≤ spare_by over None n
spare_least true n h = cc
spare_least false n h = omega arith

repeats_le : (sp : Option Spoken) (due : Bool) → repeats sp due ≤ repeats None due
repeats_le None due = omega arith
repeats_le (Some spoken) due = omega arith

seeks_le : (b due : Bool) → seeks b due ≤ seeks false due
seeks_le false due = omega arith
seeks_le true due = omega arith

-- a moment that lies behind now isn't reached
not_true : (b : Bool) → (b ≡ true → ⊥) → b ≡ false
not_true true h = absurd (h refl)
not_true false h = refl

unreached : (b : Bool) (moment now : ℕ) → now < moment → is_due (if b then Some moment else None) now ≡ false
unreached true moment now h = not_true (nat_le moment now) (λ r. omega (arith, leb-true moment now r, h))
unreached false moment now h = refl

not_yet : (now span : ℕ) → 1 ≤ span → is_due (due_at now span) now ≡ false
not_yet now span h = unreached (nat_le (now + span) never) (now + span) now (omega (arith, h))

-- what is done first counts
call_first : (p : Option ℕ) (o : Option Order) (sp : Option Spoken) (e : Option EndCause) (sk : Bool) (port : ℕ) → first_of p o sp e sk ≡ Some (states.Call port) → one_if p ≡ 1
call_first (Some q) o sp e sk port h = refl
call_first None (Some given) sp e sk port h = cc
call_first None None (Some said) e sk port h = cc
call_first None None None (Some cause) sk port h = cc
call_first None None None None true port h = cc
call_first None None None None false port h = cc

drive_first : (p : Option ℕ) (o : Option Order) (sp : Option Spoken) (e : Option EndCause) (sk : Bool) (given : Order) → first_of p o sp e sk ≡ Some (states.Drive given) → one_if o ≡ 1
drive_first (Some q) o sp e sk given h = cc
drive_first None (Some other) sp e sk given h = refl
drive_first None None (Some said) e sk given h = cc
drive_first None None None (Some cause) sk given h = cc
drive_first None None None None true given h = cc
drive_first None None None None false given h = cc

speak_first : (p : Option ℕ) (o : Option Order) (sp : Option Spoken) (e : Option EndCause) (sk : Bool) (said : Spoken) → first_of p o sp e sk ≡ Some (states.Speak said) → one_if sp ≡ 1
speak_first (Some q) o sp e sk said h = cc
speak_first None (Some given) sp e sk said h = cc
speak_first None None (Some other) e sk said h = refl
speak_first None None None (Some cause) sk said h = cc
speak_first None None None None true said h = cc
speak_first None None None None false said h = cc

finish_first : (p : Option ℕ) (o : Option Order) (sp : Option Spoken) (e : Option EndCause) (sk : Bool) (cause : EndCause) → first_of p o sp e sk ≡ Some (states.Finish cause) → one_if e ≡ 1
finish_first (Some q) o sp e sk cause h = cc
finish_first None (Some given) sp e sk cause h = cc
finish_first None None (Some said) e sk cause h = cc
finish_first None None None (Some other) sk cause h = refl
finish_first None None None None true cause h = cc
finish_first None None None None false cause h = cc

inquire_first : (p : Option ℕ) (o : Option Order) (sp : Option Spoken) (e : Option EndCause) (sk : Bool) → first_of p o sp e sk ≡ Some states.Inquire → sk ≡ true
inquire_first (Some q) o sp e sk h = cc
inquire_first None (Some given) sp e sk h = cc
inquire_first None None (Some said) e sk h = cc
inquire_first None None None (Some cause) sk h = cc
inquire_first None None None None true h = refl
inquire_first None None None None false h = cc

-- what failed leaves at most an order and an end
ending_load : (cause : EndCause) (live : Bool) → load (ending_by cause live) ≤ 2
ending_load cause true = omega arith
ending_load cause false = omega arith

failed_by : (e : Option EndCause) (cause : EndCause) (k : Bool) (q r rest : ℕ) → 1 ≤ rest
    → load (failing e cause k) + spare_by false (failing e cause k).ending q < rest + one_if e + spare_by false e r
failed_by None cause k q r rest h = omega (arith, ending_load cause k)
failed_by (Some other) cause k q r rest h = omega (arith, h)

failed_less : (plan : CarPlan) (s : State) (l : Bool) (x : Search) (cause : EndCause) (k : Bool) → s.over ≡ false
    → 1 ≤ one_if s.agenda.port + one_if s.agenda.order + one_if s.agenda.spoken
    → work plan (record s { live = l; search = x; agenda = failing s.agenda.ending cause k }) < work plan s
failed_less plan s l x cause k o h =
    let t : State = record s { live = l; search = x; agenda = failing s.agenda.ending cause k } in
    rw o (omega (
      arith,
      failed_by s.agenda.ending cause k (pending plan t) (pending plan s)
          (one_if s.agenda.port + one_if s.agenda.order + one_if s.agenda.spoken + weight s.agenda.seeks 1) (omega (arith, h)),
    ))

-- a car that dialed looks for no post
no_search : (b y : Bool) (asked last : ℕ) → (if (b && false) && y then (if asked == 0 then Some 0 else due_at last 250) else None) ≡ None
no_search true y asked last = refl
no_search false y asked last = refl

dialed_seeks : (plan : CarPlan) (x : Search) (sk : Bool) (now n : ℕ) → seeks sk (is_due (next_request plan (dialed x)) now) ≤ n
dialed_seeks plan x true now n = omega arith
dialed_seeks plan x false now n =
    let e : next_request plan (dialed x) ≡ None = no_search (nat_lt 0 plan.sdp) (nat_lt x.asked 50) x.asked x.last in
    omega (arith, ap (λ (o : Option ℕ). seeks false (is_due o now)) e)

dial_less : (plan : CarPlan) (s : State) (taken : Bool) (port : ℕ) → s.over ≡ false → first s.agenda ≡ Some (states.Call port) → work plan (dialing taken s) < work plan s
dial_less plan s true port o h =
    let one = call_first s.agenda.port s.agenda.order s.agenda.spoken s.agenda.ending s.agenda.seeks port h in
    let less = dialed_seeks plan s.search s.agenda.seeks s.clock (seeks s.agenda.seeks (is_due (next_request plan s.search) s.clock)) in
    let fewer : pending plan (dialing true s) ≤ pending plan s = omega (arith, less) in
    omega (arith, one, spare_same s.over s.agenda.ending (pending plan (dialing true s)) (pending plan s) fewer)
dial_less plan s false port o h =
    let one = call_first s.agenda.port s.agenda.order s.agenda.spoken s.agenda.ending s.agenda.seeks port h in
    failed_less plan s s.live (dialed s.search) SendFailed s.live o (omega (arith, one))

give_less : (plan : CarPlan) (s : State) (given : Order) (taken : Bool) → s.over ≡ false → first s.agenda ≡ Some (states.Drive given) → work plan (giving given taken s) < work plan s
give_less plan s given true o h =
    omega (arith, drive_first s.agenda.port s.agenda.order s.agenda.spoken s.agenda.ending s.agenda.seeks given h)
give_less plan s given false o h =
    let one = drive_first s.agenda.port s.agenda.order s.agenda.spoken s.agenda.ending s.agenda.seeks given h in
    failed_less plan s (giving given false s).live s.search OrderFailed (giving given false s).live o (omega (arith, one))

-- what was said isn't said once more
awaited_again : (session : Option Session) (now : ℕ) → again_in (option_map (awaiting now) session) ≡ None
awaited_again None now = refl
awaited_again (Some session) now = refl

awaited_unread : (session : Option Session) (now : ℕ) → unread_in (option_map (awaiting now) session) ≡ unread_in session
awaited_unread None now = refl
awaited_unread (Some session) now = refl

say_less : (plan : CarPlan) (s : State) (said : Spoken) (taken : Bool) → s.over ≡ false → first s.agenda ≡ Some (states.Speak said) → work plan (saying taken s) < work plan s
say_less plan s said true o h =
    let one = speak_first s.agenda.port s.agenda.order s.agenda.spoken s.agenda.ending s.agenda.seeks said h in
    let none = ap (λ (again : Option ℕ). repeats None (is_due again s.clock)) (awaited_again s.session s.clock) in
    let fewer : pending plan (saying true s) ≤ pending plan s = omega (arith, none) in
    omega (arith, one, ap length (awaited_unread s.session s.clock), spare_same s.over s.agenda.ending (pending plan (saying true s)) (pending plan s) fewer)
say_less plan s said false o h =
    let one = speak_first s.agenda.port s.agenda.order s.agenda.spoken s.agenda.ending s.agenda.seeks said h in
    failed_less plan s s.live s.search SendFailed s.live o (omega (arith, one))

-- a post is looked for once in a hearing
sought_by : (b z : Bool) (now : ℕ) → z ≡ false → is_due (if b then (if z then Some 0 else due_at now 250) else None) now ≡ false
sought_by true true now e = cc
sought_by true false now e = not_yet now 250 (omega arith)
sought_by false z now e = refl

more : (n : ℕ) → (n + 1 == 0) ≡ false
more n = grind (arith, nat_tests)

seek_less : (plan : CarPlan) (s : State) → first s.agenda ≡ Some states.Inquire → work plan (seeking s) < work plan s
seek_less plan s h =
    let one = ap (λ (b : Bool). weight b 1) (inquire_first s.agenda.port s.agenda.order s.agenda.spoken s.agenda.ending s.agenda.seeks h) in
    let none = ap (λ (b : Bool). seeks false b) (sought_by (is_searching plan s.search && nat_lt (s.search.asked + 1) 50) (s.search.asked + 1 == 0) s.clock (more s.search.asked)) in
    let fewer : pending plan (seeking s) ≤ pending plan s = omega (arith, none) in
    omega (arith, one, spare_same s.over s.agenda.ending (pending plan (seeking s)) (pending plan s) fewer)

acted_less : (c : Codecs) (plan : CarPlan) (todo : states.Todo) (a : Act) (taken : Bool) (s : State) → s.over ≡ false → first s.agenda ≡ Some todo → IsDone c plan todo a taken
    → work plan (acted a taken s) < work plan s
acted_less c plan (states.Call port) a taken s o h d = subst (λ (x : Act). work plan (acted x taken s) < work plan s) (sym d) (dial_less plan s taken port o h)
acted_less c plan (states.Drive given) a taken s o h d = subst (λ (x : Act). work plan (acted x taken s) < work plan s) (sym d) (give_less plan s given taken o h)
acted_less c plan (states.Speak said) a taken s o h d =
    let i : IsSaid c plan said a = d in subst (λ (x : Act). work plan (acted x taken s) < work plan s) (sym i.act_is) (say_less plan s said taken o h)
acted_less c plan (states.Finish cause) a taken s o h d =
    let one = finish_first s.agenda.port s.agenda.order s.agenda.spoken s.agenda.ending s.agenda.seeks cause h in
    subst (λ (x : Act). work plan (acted x taken s) < work plan s) (sym d.0) (omega (arith, one))
acted_less c plan states.Inquire a taken s o h d = subst (λ (x : Act). work plan (acted x taken s) < work plan s) (sym d) (seek_less plan s h)

-- what is left where nothing is decided, beside the parts
abbrev base : CarPlan → State → ℕ
base plan s = length (unread_in s.session)
    + spare_by s.over None (repeats None (is_due (again_in s.session) s.clock) + seeks false (is_due (next_request plan s.search) s.clock))

rest_by : (p : Option ℕ) (o : Option Order) (sp : Option Spoken) (e : Option EndCause) (sk : Bool) (over da ds : Bool) (x : ℕ) → is_none (first_of p o sp e sk) ≡ true
    → one_if p + one_if o + one_if sp + one_if e + weight sk 1 + x + spare_by over e (repeats sp da + seeks sk ds) ≡ x + spare_by over None (repeats None da + seeks false ds)
rest_by (Some q) o sp e sk over da ds x h = cc
rest_by None (Some given) sp e sk over da ds x h = cc
rest_by None None (Some said) e sk over da ds x h = cc
rest_by None None None (Some cause) sk over da ds x h = cc
rest_by None None None None true over da ds x h = cc
rest_by None None None None false over da ds x h = omega arith

rest_work : (plan : CarPlan) (s : State) → is_done s.agenda ≡ true → work plan s ≡ 6 * parts_left s.part + base plan s
rest_work plan s h =
    omega (
      arith,
      rest_by s.agenda.port s.agenda.order s.agenda.spoken s.agenda.ending s.agenda.seeks s.over (is_due (again_in s.session) s.clock)
          (is_due (next_request plan s.search) s.clock) (6 * parts_left s.part + length (unread_in s.session)) h,
    )

placed_work : (plan : CarPlan) (s : State) (agenda : Agenda) (part : Part) → work plan (record s { agenda = agenda; part = part }) ≤ 5 + 6 * parts_left part + base plan s
placed_work plan s agenda part =
    let r = repeats_le agenda.spoken (is_due (again_in s.session) s.clock) in
    let k = seeks_le agenda.seeks (is_due (next_request plan s.search) s.clock) in
    omega (
      arith,
      load_le agenda,
      spare_le s.over agenda.ending (repeats agenda.spoken (is_due (again_in s.session) s.clock) + seeks agenda.seeks (is_due (next_request plan s.search) s.clock))
          (repeats None (is_due (again_in s.session) s.clock) + seeks false (is_due (next_request plan s.search) s.clock)) (omega (arith, r, k)),
    )

decide_work : (plan : CarPlan) (agenda : Agenda) (part : Part) (s rest : State) (n : ℕ) (b : Bool) → is_done agenda ≡ b
    → (is_done agenda ≡ false → work plan (record s { agenda = agenda; part = part }) ≤ n) → work plan rest ≤ n → work plan (decide agenda part s rest) ≤ n
decide_work plan agenda part s rest n true e h r = rw e r
decide_work plan agenda part s rest n false e h r = rw e (h e)

-- a fault at the front leads to an end
front_load : (w : Result (Option ℕ) FrameFault) (live over : Bool) (m : ℕ) → over ≡ false → is_done (fronting_by w live) ≡ false
    → load (fronting_by w live) + spare_by over (fronting_by w live).ending m ≤ 2
front_load (Err fault) live over m o h = rw o (omega (arith, ending_load BadFrame live))
front_load (Ok count) live over m o h = cc

front_work : (plan : CarPlan) (s : State) (session : Option Session) → s.over ≡ false → is_done (fronting session s.live) ≡ false
    → work plan (record s { agenda = fronting session s.live; part = Wording }) ≤ 2 + length (unread_in s.session)
front_work plan s None o h = cc
front_work plan s (Some session) o h =
    omega (arith, front_load (whole_at session.unread) s.live s.over (pending plan (record s { agenda = fronting (Some session) s.live; part = Wording })) o h)

asked_load : (sp : Option Spoken) (over : Bool) (k : ℕ) → is_none (first_of None None sp None false) ≡ false
    → one_if sp + spare_by over None (repeats sp true + k) ≤ spare_by over None (2 + k) + weight over 1
asked_load None over k h = cc
asked_load (Some said) true k h = omega arith
asked_load (Some said) false k h = omega arith

repeat_by : (plan : CarPlan) (s : State) (session : Session) (due : Bool) → s.over ≡ false → s.session ≡ Some session → is_due session.again s.clock ≡ due
    → is_done (if due then record nothing { spoken = asking plan session.stage } else nothing) ≡ false
    → work plan (record s { agenda = if due then record nothing { spoken = asking plan session.stage } else nothing; part = Wording }) ≤ base plan s
repeat_by plan s session true o e d h =
    let a : is_due (again_in s.session) s.clock ≡ true = rw e d in
    rw a (omega (arith, asked_load (asking plan session.stage) s.over (seeks false (is_due (next_request plan s.search) s.clock)) h, ap (λ (b : Bool). weight b 1) o))
repeat_by plan s session false o e d h = cc

repeat_work : (plan : CarPlan) (s : State) (session : Option Session) → s.over ≡ false → s.session ≡ session → is_done (repeating plan session s.clock) ≡ false
    → work plan (record s { agenda = repeating plan session s.clock; part = Wording }) ≤ base plan s
repeat_work plan s None o e h = cc
repeat_work plan s (Some session) o e h = repeat_by plan s session (is_due session.again s.clock) o e refl h

seek_by : (plan : CarPlan) (s : State) (due : Bool) → s.over ≡ false → is_due (next_request plan s.search) s.clock ≡ due → is_done (record nothing { seeks = due }) ≡ false
    → work plan (record s { agenda = record nothing { seeks = due }; part = Wording }) ≤ base plan s
seek_by plan s true o e h = rw (o, e) (omega arith)
seek_by plan s false o e h = cc

seek_work : (plan : CarPlan) (s : State) → s.over ≡ false → is_done (deciding.seeking plan s.search s.clock) ≡ false
    → work plan (record s { agenda = deciding.seeking plan s.search s.clock; part = Wording }) ≤ base plan s
seek_work plan s o h = seek_by plan s (is_due (next_request plan s.search) s.clock) o refl h

seeking_work : (plan : CarPlan) (s : State) (n : ℕ) → s.over ≡ false → base plan s ≤ n → work plan s ≤ n → work plan (from_seeking plan s) ≤ n
seeking_work plan s n o b r = decide_work plan (deciding.seeking plan s.search s.clock) Wording s s n _ refl (λ h. omega (arith, seek_work plan s o h, b)) r

repeating_work : (plan : CarPlan) (s : State) (n : ℕ) → s.over ≡ false → base plan s ≤ n → work plan s ≤ n → work plan (from_repeating plan s) ≤ n
repeating_work plan s n o b r =
    decide_work plan (repeating plan s.session s.clock) Wording s (from_seeking plan s) n _ refl (λ h. omega (arith, repeat_work plan s s.session o refl h, b)) (seeking_work plan s n o b r)

unless_work : (plan : CarPlan) (s : State) (n : ℕ) (w : Bool) → s.over ≡ false → base plan s ≤ n → work plan s ≤ n → work plan (if w then s else from_repeating plan s) ≤ n
unless_work plan s n true o b r = r
unless_work plan s n false o b r = repeating_work plan s n o b r

wording_work : (plan : CarPlan) (s : State) (n : ℕ) → s.over ≡ false → base plan s ≤ n → work plan s ≤ n → work plan (from_wording plan s) ≤ n
wording_work plan s n o b r =
    decide_work plan (fronting s.session s.live) Wording s (if has_word s.session then s else from_repeating plan s) n _ refl
    (λ h. omega (arith, front_work plan s s.session o h, b, spare_least s.over (repeats None (is_due (again_in s.session) s.clock) + seeks false (is_due (next_request plan s.search) s.clock)) o))
    (unless_work plan s n (has_word s.session) o b r)

nothing_work : (plan : CarPlan) (s : State) (n : ℕ) → s.over ≡ false → base plan s ≤ n → work plan s ≤ n → work plan (from_nothing s) ≤ n
nothing_work plan s n o b r =
    decide_work plan (fronting s.session s.live) Wording s s n _ refl
    (λ h. omega (arith, front_work plan s s.session o h, b, spare_least s.over (repeats None (is_due (again_in s.session) s.clock) + seeks false (is_due (next_request plan s.search) s.clock)) o))
    r

eventing_work : (plan : CarPlan) (s : State) (n : ℕ) → s.over ≡ false → 5 + base plan s ≤ n → work plan s ≤ n → work plan (from_eventing plan s) ≤ n
eventing_work plan s n o b r =
    decide_work plan (eventing plan s.event s) Wording s (from_wording plan s) n _ refl (λ h. omega (arith, placed_work plan s (eventing plan s.event s) Wording, b))
    (wording_work plan s n o (omega (arith, b)) r)

timing_work : (plan : CarPlan) (s : State) (n : ℕ) → s.over ≡ false → 11 + base plan s ≤ n → work plan s ≤ n → work plan (from_timing plan s) ≤ n
timing_work plan s n o b r =
    decide_work plan (timing plan s) Eventing s (from_eventing plan s) n _ refl (λ h. omega (arith, placed_work plan s (timing plan s) Eventing, b))
    (eventing_work plan s n o (omega (arith, b)) r)

part_work : (plan : CarPlan) (part : Part) (s : State) (n : ℕ) → s.over ≡ false → 6 * parts_left part + base plan s ≤ n → work plan s ≤ n → work plan (from_part plan part s) ≤ n
part_work plan Unheard s n o b r = nothing_work plan s n o (omega (arith, b)) r
part_work plan Timing s n o b r = timing_work plan s n o (omega (arith, b)) r
part_work plan Eventing s n o b r = eventing_work plan s n o (omega (arith, b)) r
part_work plan Wording s n o b r = wording_work plan s n o (omega (arith, b)) r

go_both : (d o : Bool) → d ≡ true → o ≡ false → (d && not o) ≡ true
go_both true true e f = cc
go_both true false e f = refl
go_both false o e f = cc

not_both : (d o : Bool) → o ≡ true → (d && not o) ≡ false
not_both true true e = refl
not_both true false e = cc
not_both false o e = refl

same_le : (n : ℕ) → n ≤ n
same_le n = omega arith

decided_by : (plan : CarPlan) (s : State) (d over : Bool) → is_done s.agenda ≡ d → s.over ≡ over → work plan (decided plan s) ≤ work plan s
decided_by plan s true true e o =
    let same : decided plan s ≡ s = rw (not_both (is_done s.agenda) s.over o) refl in
    subst (λ (t : State). work plan t ≤ work plan s) (sym same) (same_le (work plan s))
decided_by plan s true false e o =
    let r = rest_work plan s e in
    let w = part_work plan s.part s (work plan s) o (omega (arith, r)) (omega arith) in
    let same : decided plan s ≡ from_part plan s.part s = rw (go_both (is_done s.agenda) s.over e o) refl in
    subst (λ (t : State). work plan t ≤ work plan s) (sym same) w
decided_by plan s false over e o =
    let same : decided plan s ≡ s = rw e refl in
    subst (λ (t : State). work plan t ≤ work plan s) (sym same) (same_le (work plan s))

decided_work : (plan : CarPlan) (s : State) → work plan (decided plan s) ≤ work plan s
decided_work plan s = decided_by plan s (is_done s.agenda) s.over refl refl

less_than : (a b c : ℕ) → a < b → b ≤ c → a < c
less_than a b c h k = omega (arith, h, k)

pub act_lessens : (c : Codecs) (plan : CarPlan) (s : State) (a : Act) (taken : Bool) → (decided plan s).over ≡ false → MayAct c plan s a taken
    → work plan (acted a taken (decided plan s)) < work plan s
act_lessens c plan s a taken o m = less_than _ _ _ (acted_less c plan m.todo a taken (decided plan s) o m.acts m.done) (decided_work plan s)

-- what a word leaves: what stood behind its frame, and at most two things to do
abbrev still : CarPlan → State → Session → ℕ
still plan s session = 2 + length (behind_front session.unread) + spare_by s.over None (seeks false (is_due (next_request plan s.search) s.clock))

no_spare : (cause : EndCause) (over : Bool) (n : ℕ) → spare_by over (Some cause) n ≡ 0
no_spare cause true n = refl
no_spare cause false n = refl

end_work : (plan : CarPlan) (s : State) (session : Session) (cause : EndCause)
    → work plan (record s { part = Wording; session = Some (passed session); agenda = ending_by cause s.live }) ≤ still plan s session
end_work plan s session cause =
    omega (arith, ending_load cause s.live, no_spare cause s.over (pending plan (record s { part = Wording; session = Some (passed session); agenda = ending_by cause s.live })))

said_none : (sp : Option Spoken) → repeats sp false ≡ 0
said_none None = refl
said_none (Some said) = refl

go_work : (plan : CarPlan) (s : State) (session : Session) (to : CarStage) (o : Option Order) (sp : Option Spoken)
    → work plan (record s { part = Wording; session = Some (gone_on session to s.clock); agenda = record nothing { order = o; spoken = sp } }) ≤ still plan s session
go_work plan s session to o sp =
    omega (
      arith,
      one_le o,
      one_le sp,
      spare_same s.over None (repeats sp false + seeks false (is_due (next_request plan s.search) s.clock))
          (seeks false (is_due (next_request plan s.search) s.clock)) (omega (arith, said_none sp)),
    )

wait_work : (plan : CarPlan) (s : State) (session : Session) (to : CarStage) → 1 ≤ plan.pace
    → work plan (record s { part = Wording; session = Some (waiting session to (due_at s.clock plan.pace)); agenda = nothing }) ≤ still plan s session
wait_work plan s session to p =
    let none = ap (λ (b : Bool). repeats None b) (not_yet s.clock plan.pace p) in
    omega (
      arith,
      spare_same s.over None (repeats None (is_due (due_at s.clock plan.pace) s.clock) + seeks false (is_due (next_request plan s.search) s.clock))
          (seeks false (is_due (next_request plan s.search) s.clock)) (omega (arith, none)),
    )

moved_work : (plan : CarPlan) (s : State) (session : Session) (from to : CarStage) (r : Reply) (b : Bool) → 1 ≤ plan.pace → is_again from.phase to.phase ≡ b
    → work plan (moved plan s session from r to) ≤ still plan s session
moved_work plan s session from to r true p e =
    let same : moved plan s session from r to ≡ record s { part = Wording; session = Some (waiting session to (due_at s.clock plan.pace)); agenda = nothing } = rw e refl in
    subst (λ (t : State). work plan t ≤ still plan s session) (sym same) (wait_work plan s session to p)
moved_work plan s session from to r false p e =
    let next : Agenda = record nothing { order = order_of plan from.phase r.tell; spoken = asking plan (Some to) } in
    let same : moved plan s session from r to ≡ record s { part = Wording; session = Some (gone_on session to s.clock); agenda = next } = rw e refl in
    subst (λ (t : State). work plan t ≤ still plan s session) (sym same) (go_work plan s session to (order_of plan from.phase r.tell) (asking plan (Some to)))

caused_work : (cause : Option EndCause) (plan : CarPlan) (s : State) (session : Session) (stage : CarStage) (r : Reply) → 1 ≤ plan.pace
    → work plan (replied_by cause plan s session stage r) ≤ still plan s session
caused_work (Some cause) plan s session stage r p = end_work plan s session cause
caused_work None plan s session stage r p = moved_work plan s session stage (stage_behind plan stage r session.stop) r _ p refl

replied_work : (plan : CarPlan) (s : State) (session : Session) (stage : Option CarStage) (r : Reply) → 1 ≤ plan.pace
    → work plan (replied plan s session stage r) ≤ still plan s session
replied_work plan s session None r p = end_work plan s session WrongReply
replied_work plan s session (Some stage) r p = caused_work (reply_cause plan stage (is_some session.moments.sent) r) plan s session stage r p

judged_work : (plan : CarPlan) (s : State) (session : Session) (word : Judged) → 1 ≤ plan.pace → work plan (judged plan s session word) ≤ still plan s session
judged_work plan s session (Chosen None) p = end_work plan s session NoNegotiation
judged_work plan s session (Chosen (Some dialect)) p = go_work plan s session (first_stage plan dialect) None (asking plan (Some (first_stage plan dialect)))
judged_work plan s session (Told r) p = replied_work plan s session session.stage r p
judged_work plan s session WrongSide p = end_work plan s session FromWrongSide
judged_work plan s session Refused p = end_work plan s session PayloadRefused

-- a whole frame has at least eight bytes
shorter_by : (bytes : List ℕ) (w : Result (Option ℕ) FrameFault) (session : Session) (payload : Payload) → whole_at bytes ≡ w → payload_by w session ≡ Some payload
    → 8 + length (behind w bytes) ≤ length bytes
shorter_by bytes (Err fault) session payload e h = cc
shorter_by bytes (Ok None) session payload e h = cc
shorter_by bytes (Ok (Some n)) session payload e h = omega (arith, (whole_fits bytes n e).fits, length-drop (8 + n) bytes)

more_pending : (over : Bool) (a b : ℕ) → spare_by over None b ≤ spare_by over None (a + b)
more_pending true a b = omega arith
more_pending false a b = omega arith

sum_less : (w before behind_len len unread_len sb sa parts : ℕ) → w ≤ 2 + behind_len + sb → 8 + behind_len ≤ len → sb ≤ sa
    → before ≡ 6 * parts + (unread_len + sa) → unread_len ≡ len → w < before
sum_less w before behind_len len unread_len sb sa parts a b c d e = omega (arith, a, b, c, d, e)

read_by : (plan : CarPlan) (s : State) (session : Option Session) (word : Judged) (payload : Payload) → 1 ≤ plan.pace → is_done s.agenda ≡ true → s.session ≡ session
    → payload_in session ≡ Some payload → work plan (judged_in plan s session word) < work plan s
read_by plan s None word payload p d e h = cc
read_by plan s (Some session) word payload p d e h =
    let less = shorter_by session.unread (whole_at session.unread) session payload refl h in
    let kept : length (unread_in s.session) ≡ length session.unread = ap (λ (x : Option Session). length (unread_in x)) e in
    let fewer = more_pending s.over (repeats None (is_due (again_in s.session) s.clock)) (seeks false (is_due (next_request plan s.search) s.clock)) in
    sum_less _ _ _ _ _ _ _ _ (judged_work plan s session word p) less fewer (rest_work plan s d) kept

-- a word is wanted where nothing is left to do
done_if : (s : State) (payload : Payload) (b : Bool) → is_done s.agenda ≡ b → wanted s ≡ Some payload → is_done s.agenda ≡ true
done_if s payload true e h = e
done_if s payload false e h = absurd (let n : None ≡ Some payload = rw e at h in cc)

front_is : (s : State) (payload : Payload) → is_done s.agenda ≡ true → wanted s ≡ Some payload → payload_in s.session ≡ Some payload
front_is s payload e h = rw e at h

pub word_lessens : (plan : CarPlan) (s : State) (payload : Payload) (word : Judged) → IsCarPlan plan → wanted (decided plan s) ≡ Some payload
    → work plan (read plan (decided plan s) word) < work plan s
word_lessens plan s payload word p h =
    let d = done_if (decided plan s) payload (is_done (decided plan s).agenda) refl h in
    less_than _ _ _ (read_by plan (decided plan s) (decided plan s).session word payload (omega (arith, p.pace.0)) d refl (front_is (decided plan s) payload d h))
    (decided_work plan s)
