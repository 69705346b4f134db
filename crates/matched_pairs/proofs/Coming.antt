-- While a reply comes to the car the deadline of the post counts from now, and so the request that is asked once more is due a pace behind that.
use Rattle.std.proofs.Common.{◌≡◌, ℕ, ◌+◌, ◌≤◌, Bool, true, false, if◌then◌else◌, List, [], Option, Some, None, refl, sym, subst, ◌∙◌, arith}
use Rattle.std.specs.Option.{option_map}
use Rattle.session_words.specs.declared.cause.EndCause.{EndCause}
use Rattle.session_words.specs.declared.phase.Phase.{Phase}
use Rattle.session_words.specs.declared.phase.Phase.TheVariants as row
use Rattle.session_words.specs.declared.plan.CarPlan.{CarPlan}
use Rattle.session_words.specs.declared.word.Reply.{Reply}
use Rattle.session_rules.specs.Stages.{is_set_up, confirmed_row}
use Rattle.post_spec.specs.Steps.{Event}
use Rattle.station_spec.specs.States.{Session}
use Rattle.station_spec.specs.Hearing.{session_opened, with_bytes}
use Rattle.station_spec.specs.Acting.{replied}
use Rattle.car_rules.specs.declared.stage.CarStage.{CarStage}
use Rattle.car_rules.specs.Moves.{is_again, stage_behind}
use Rattle.car_rules.specs.Replies.{reply_cause}
use Rattle.car_spec.specs.Codecs.{Judged, Chosen, Told, WrongSide, Refused}
use Rattle.car_spec.specs.States as car_states
use Rattle.car_spec.specs.Acting as car_acting
use Rattle.car_spec.specs.Hearing as car_hearing
use Rattle.car_spec.specs.Judging as car_judging
use Rattle.matched_pairs.specs.Paces.{IsSoonBehind}

true_false : true ≡ false → ⊥
true_false e = cc

some_none : {A : Type 0} (a : A) → Some a ≡ None → ⊥
some_none a e = cc

-- ---- a reply that comes

-- the deadline counts from now
abbrev pub SetUpSince : ℕ → Option Session → Type 0
SetUpSince now None = Unit {0}
SetUpSince now (Some x) = is_set_up x.stage.row ≡ true → x.since ≡ now

abbrev pub HasSomeUnread : Option car_states.Session → Type 0
HasSomeUnread None = ⊥
HasSomeUnread (Some y) = y.unread ≡ [] → ⊥

pub record IsComing (now : ℕ) (o : Option Session) (y : Option car_states.Session) (way : List ℕ) : Type 0 where
  pub under_way : (way ≡ [] → ⊥) → SetUpSince now o
  pub unread : HasSomeUnread y → SetUpSince now o

pub coming_heard : (arrived : Option ℕ) (o : Option Session) (clock now : ℕ) (bytes : List ℕ) → SetUpSince now o → SetUpSince now (option_map (with_bytes bytes) (session_opened arrived clock o))
coming_heard None None clock now bytes k = tt
coming_heard None (Some x) clock now bytes k = k
coming_heard (Some token) o clock now bytes k = λ e. absurd (true_false (sym e))

set_up_confirmed : (r : Phase) → is_set_up (confirmed_row r) ≡ is_set_up r
set_up_confirmed row.DcClosing = refl
set_up_confirmed row.AcClosing = refl
set_up_confirmed other = refl

either_now : (b : Bool) (now clock since : ℕ) → clock ≡ now → b ≡ true → (if b then clock else since) ≡ now
either_now true now clock since e i = e
either_now false now clock since e i = absurd (true_false (sym i))

-- behind its reply
pub coming_said : (o : Option Session) (clock now : ℕ) → clock ≡ now → SetUpSince now (option_map (replied clock) o)
coming_said None clock now e = tt
coming_said (Some x) clock now e = λ i. either_now (is_set_up x.stage.row) now clock x.since e (sym (set_up_confirmed x.stage.row) ∙ i)

-- what the car keeps unread
pub unread_said : (o : Option car_states.Session) (clock : ℕ) → HasSomeUnread (option_map (car_acting.awaiting clock) o) → HasSomeUnread o
unread_said None clock k = k
unread_said (Some y) clock k = k

pub some_unread : (o : Option car_states.Session) (y : car_states.Session) → o ≡ Some y → y.unread ≡ [] → HasSomeUnread o → ⊥
some_unread o y e u k = subst HasSomeUnread e k u

-- ---- the request that is asked once more

abbrev pub AgainSoon : Option ℕ → Option Session → Type 0
AgainSoon None o = Unit {0}
AgainSoon (Some at) None = Unit {0}
AgainSoon (Some at) (Some x) = is_set_up x.stage.row ≡ true → at ≤ x.since + 1000

abbrev pub AgainIn : Option car_states.Session → Option Session → Type 0
AgainIn None o = Unit {0}
AgainIn (Some y) o = AgainSoon y.again o

soon_heard : (again arrived : Option ℕ) (o : Option Session) (clock : ℕ) (bytes : List ℕ) → AgainSoon again o → AgainSoon again (option_map (with_bytes bytes) (session_opened arrived clock o))
soon_heard None arrived o clock bytes k = tt
soon_heard (Some at) None None clock bytes k = tt
soon_heard (Some at) None (Some x) clock bytes k = k
soon_heard (Some at) (Some token) o clock bytes k = λ e. absurd (true_false (sym e))

pub again_heard : (y : Option car_states.Session) (arrived : Option ℕ) (o : Option Session) (clock : ℕ) (bytes : List ℕ) → AgainIn y o → AgainIn y (option_map (with_bytes bytes) (session_opened arrived clock o))
again_heard None arrived o clock bytes k = tt
again_heard (Some y) arrived o clock bytes k = soon_heard y.again arrived o clock bytes k

-- the post says something, from a moment that isn't past
later_soon : (at since now : ℕ) → since ≤ now → at ≤ since + 1000 → at ≤ now + 1000
later_soon at since now p l = omega (arith, p, l)

either_soon : (b : Bool) (at clock now since : ℕ) → clock ≡ now → since ≤ now → at ≤ since + 1000 → at ≤ (if b then clock else since) + 1000
either_soon true at clock now since e p l = subst (λ (z : ℕ). at ≤ z + 1000) (sym e) (later_soon at since now p l)
either_soon false at clock now since e p l = l

soon_said : (again : Option ℕ) (o : Option Session) (clock now : ℕ) → clock ≡ now → IsSoonBehind now o → AgainSoon again o → AgainSoon again (option_map (replied clock) o)
soon_said None o clock now e b k = tt
soon_said (Some at) None clock now e b k = tt
soon_said (Some at) (Some x) clock now e b k = λ i. either_soon (is_set_up x.stage.row) at clock now x.since e b.0 (k (sym (set_up_confirmed x.stage.row) ∙ i))

pub again_said : (y : Option car_states.Session) (o : Option Session) (clock now : ℕ) → clock ≡ now → IsSoonBehind now o → AgainIn y o → AgainIn y (option_map (replied clock) o)
again_said None o clock now e b k = tt
again_said (Some y) o clock now e b k = soon_said y.again o clock now e b k

soon_gone : (again : Option ℕ) → AgainSoon again None
soon_gone None = tt
soon_gone (Some at) = tt

pub again_gone : (y : Option car_states.Session) → AgainIn y None
again_gone None = tt
again_gone (Some y) = soon_gone y.again

-- a car that awaits a reply asks nothing once more
pub again_none : (y : Option car_states.Session) (o : Option Session) (x : car_states.Session) → y ≡ Some x → x.again ≡ None → AgainIn y o
again_none y o x e n = subst (λ (z : Option car_states.Session). AgainIn z o) (sym e) (subst (λ (a : Option ℕ). AgainSoon a o) (sym n) tt)

pub car_hears_again : (event : Event) (at : ℕ) (y : Option car_states.Session) (o : Option Session) → car_hearing.session_heard event at None ≡ None → AgainIn y o → AgainIn (car_hearing.session_heard event at y) o
car_hears_again event at None o n k = subst (λ (z : Option car_states.Session). AgainIn z o) (sym n) tt
car_hears_again event at (Some y) o n k = k

pub car_says_again : (y : Option car_states.Session) (clock : ℕ) (o : Option Session) → AgainIn (option_map (car_acting.awaiting clock) y) o
car_says_again None clock o = tt
car_says_again (Some y) clock o = tt

-- a pace behind the reply
pace_soon : (clock now since pace : ℕ) → clock ≡ now → since ≡ now → pace ≤ 1000 → clock + pace ≤ since + 1000
pace_soon clock now since pace e s p = omega (arith, e, s, p)

due_soon : (b : Bool) (o : Option Session) (clock now pace : ℕ) → clock ≡ now → pace ≤ 1000 → SetUpSince now o → AgainSoon (if b then Some (clock + pace) else None) o
due_soon false o clock now pace e p k = tt
due_soon true None clock now pace e p k = tt
due_soon true (Some x) clock now pace e p k = λ i. pace_soon clock now x.since pace e (k i) p

abbrev pub ReadsSoon : car_states.State → Option Session → Type 0
ReadsSoon k o = AgainIn k.session o

moved_again : (b : Bool) (plan : CarPlan) (s : car_states.State) (session : car_states.Session) (from to : CarStage) (r : Reply) (o : Option Session) (now : ℕ) → is_again from.phase to.phase ≡ b → s.clock ≡ now
    → plan.pace ≤ 1000 → SetUpSince now o → ReadsSoon (car_judging.moved plan s session from r to) o
moved_again true plan s session from to r o now e c p k = rw e (due_soon _ o s.clock now plan.pace c p k)
moved_again false plan s session from to r o now e c p k = rw e tt

replied_again : (why : Option EndCause) (plan : CarPlan) (s : car_states.State) (session : car_states.Session) (stage : CarStage) (r : Reply) (o : Option Session) (now : ℕ) → s.clock ≡ now → plan.pace ≤ 1000 → SetUpSince now o
    → AgainSoon session.again o → ReadsSoon (car_judging.replied_by why plan s session stage r) o
replied_again (Some cause) plan s session stage r o now c p k a = a
replied_again None plan s session stage r o now c p k a = moved_again _ plan s session stage (stage_behind plan stage r session.stop) r o now refl c p k

told_again : (stage : Option CarStage) (plan : CarPlan) (s : car_states.State) (session : car_states.Session) (r : Reply) (o : Option Session) (now : ℕ) → s.clock ≡ now → plan.pace ≤ 1000 → SetUpSince now o
    → AgainSoon session.again o → ReadsSoon (car_judging.replied plan s session stage r) o
told_again None plan s session r o now c p k a = a
told_again (Some stage) plan s session r o now c p k a = replied_again (reply_cause plan stage _ r) plan s session stage r o now c p k a

word_again : (w : Judged) (plan : CarPlan) (s : car_states.State) (session : car_states.Session) (o : Option Session) (now : ℕ) → s.clock ≡ now → plan.pace ≤ 1000 → SetUpSince now o → AgainSoon session.again o
    → ReadsSoon (car_judging.judged plan s session w) o
word_again (Chosen None) plan s session o now c p k a = a
word_again (Chosen (Some d)) plan s session o now c p k a = tt
word_again (Told r) plan s session o now c p k a = told_again session.stage plan s session r o now c p k a
word_again WrongSide plan s session o now c p k a = a
word_again Refused plan s session o now c p k a = a

pub reads_again : (y : Option car_states.Session) (plan : CarPlan) (s : car_states.State) (w : Judged) (o : Option Session) (now : ℕ) → y ≡ s.session → s.clock ≡ now → plan.pace ≤ 1000 → SetUpSince now o → AgainIn y o
    → ReadsSoon (car_judging.judged_in plan s y w) o
reads_again None plan s w o now e c p k a = subst (λ (z : Option car_states.Session). AgainIn z o) e tt
reads_again (Some y) plan s w o now e c p k a = word_again w plan s y o now c p k a
