-- A request is replied to at once, but for the time in which the contactor closes, whose deadline counts from the request too.
use Rattle.std.proofs.Common.{◌≡◌, ℕ, ◌+◌, ◌≤◌, Bool, true, false, if◌then◌else◌, List, [], ◌++◌, Option, Some, None, Result, refl, ap, sym, subst, ◌∙◌, ◌⊎◌, inl, inr, arith}
use Rattle.std.specs.Option.{option_map}
use Rattle.charge_world.specs.declared.heard.PlantEvent.{PlantEvent}
use Rattle.charge_world.specs.declared.ports.Order.{Order}
use Rattle.charge_world.specs.declared.ports.Order.TheVariants as order
use Rattle.session_words.specs.declared.cause.EndCause.{EndCause}
use Rattle.session_words.specs.declared.phase.Phase.{Phase}
use Rattle.session_words.specs.declared.phase.Phase.TheVariants as row
use Rattle.session_words.specs.declared.phase.Standing.TheVariants as standing
use Rattle.session_words.specs.declared.plan.CarPlan.{CarPlan}
use Rattle.session_words.specs.declared.plan.PostPlan.{PostPlan}
use Rattle.session_words.specs.declared.word.Reply.{Reply}
use Rattle.v2gtp_frames.specs.declared.FrameFault.{FrameFault}
use Rattle.v2gtp_frames.specs.Reading.{whole_at}
use Rattle.session_rules.specs.Stages.{is_waiting, confirmed_row}
use Rattle.post_spec.specs.Codecs as post
use Rattle.post_spec.specs.Steps.{Event, Bytes, Plant, Clock, Act, Give, Send, Answer, End, Reading}
use Rattle.station_spec.specs.States.{Session, State, is_done}
use Rattle.station_spec.specs.Deciding.{decided}
use Rattle.station_spec.specs.Hearing.{session_opened, with_bytes, hearing}
use Rattle.station_spec.specs.Judging.{Payload, payload_by, payload_in, filled, IsRead}
use Rattle.station_spec.specs.Acting.{since_order, replied, acted}
use Rattle.station_spec.specs.Next.{Acts}
use Rattle.station_spec.specs.Sharing.{Shows}
use Rattle.station_laws.proofs.Decided.{same_session}
use Rattle.car_rules.specs.declared.stage.CarStage.{CarStage}
use Rattle.car_rules.specs.Moves.{is_again, stage_behind}
use Rattle.car_rules.specs.Replies.{reply_cause}
use Rattle.car_spec.specs.Codecs as car
use Rattle.car_spec.specs.States as car_states
use Rattle.car_spec.specs.Acting as car_acting
use Rattle.car_spec.specs.Hearing as car_hearing
use Rattle.car_spec.specs.Judging as car_judging
use Rattle.pipe_facts.proofs.Facts.{StayBehind, acts_stay}
use Rattle.matched_pairs.proofs.Messages.{empty_waits}
use Rattle.matched_pairs.proofs.PostPhases.{since_unread}
use Rattle.matched_pairs.specs.Contactors.{IsClosing}
use Rattle.matched_pairs.proofs.Places.{contactor_heard}
use Rattle.matched_pairs.proofs.Contactors.{still_closing}
use Rattle.matched_pairs.proofs.Since.{OfSince, filled_since}

true_false : true ≡ false → ⊥
true_false e = cc

some_none : {A : Type 0} (a : A) → Some a ≡ None → ⊥
some_none a e = cc

-- ---- what is so of a request that was said

abbrev pub HasNoneUnread : Option Session → Type 0
HasNoneUnread None = Unit {0}
HasNoneUnread (Some x) = x.unread ≡ []

abbrev pub SinceAt : ℕ → Option Session → Type 0
SinceAt at o = OfSince (λ z. z ≡ at) o

-- time passes only once the post has read it, and then the deadline of the contactor counts from it too
pub record IsAsked (now : ℕ) (s : State) (way : List ℕ) (at : ℕ) : Type 0 where
  pub soon : now ≤ at + 60
  pub at_once : (now ≡ at) ⊎ ((way ≡ []) × HasNoneUnread s.session)
  pub closing : s.facts.contactor ≡ standing.Closing → SinceAt at s.session

abbrev pub AskedBy : ℕ → State → List ℕ → Option ℕ → Type 0
AskedBy now s way None = Unit {0}
AskedBy now s way (Some at) = IsAsked now s way at

abbrev pub AskedIn : ℕ → State → List ℕ → Option car_states.Session → Type 0
AskedIn now s way None = Unit {0}
AskedIn now s way (Some y) = AskedBy now s way y.moments.sent

by_on : (now later : ℕ) (s t : State) (way rest : List ℕ) (sent : Option ℕ) → ((at : ℕ) → IsAsked now s way at → IsAsked later t rest at) → AskedBy now s way sent → AskedBy later t rest sent
by_on now later s t way rest None f k = tt
by_on now later s t way rest (Some at) f k = f at k

pub asked_on : (now later : ℕ) (s t : State) (way rest : List ℕ) (o : Option car_states.Session) → ((at : ℕ) → IsAsked now s way at → IsAsked later t rest at) → AskedIn now s way o → AskedIn later t rest o
asked_on now later s t way rest None f k = tt
asked_on now later s t way rest (Some y) f k = by_on now later s t way rest y.moments.sent f k

-- ---- the post hears something

none_heard : (arrived : Option ℕ) (o : Option Session) (clock : ℕ) → HasNoneUnread o → HasNoneUnread (option_map (with_bytes []) (session_opened arrived clock o))
none_heard None None clock n = tt
none_heard None (Some x) clock n = ap (λ (u : List ℕ). u ++ []) n
none_heard (Some token) o clock n = refl

since_heard : (arrived : Option ℕ) (o : Option Session) (clock at : ℕ) (bytes : List ℕ) → arrived ≡ None → SinceAt at o → SinceAt at (option_map (with_bytes bytes) (session_opened arrived clock o))
since_heard None None clock at bytes e k = tt
since_heard None (Some x) clock at bytes e k = k
since_heard (Some token) o clock at bytes e k = absurd (some_none token e)

either_heard : (s : State) (now : ℕ) (way : List ℕ) (at : ℕ) → (now ≡ at) ⊎ ((way ≡ []) × HasNoneUnread s.session)
    → (now ≡ at) ⊎ ((way ≡ []) × HasNoneUnread (option_map (with_bytes []) (session_opened s.arrived s.clock s.session)))
either_heard s now way at (inl e) = inl e
either_heard s now way at (inr p) = inr (p.0, none_heard s.arrived s.session s.clock p.1)

pub tells_asked : (event : PlantEvent) (s : State) (now : ℕ) (way : List ℕ) (at : ℕ) → (s.facts.contactor ≡ standing.Closing → IsClosing s) → IsAsked now s way at → IsAsked now (hearing now (Plant event) s) way at
tells_asked event s now way at f k = record {
  soon = k.soon;
  at_once = either_heard s now way at k.at_once;
  closing = λ e.
      let c = still_closing event s.facts.contactor (sym (contactor_heard event s.facts) ∙ e) in
      let i : IsClosing s = f c.0 in
      since_heard s.arrived s.session s.clock at [] i.arrived (k.closing c.0);
}

-- bytes come while nothing of it is read
comes_asked : (s : State) (now : ℕ) (way : List ℕ) (at : ℕ) → (way ≡ [] → ⊥) → (now ≡ at) ⊎ ((way ≡ []) × HasNoneUnread s.session) → now ≡ at
comes_asked s now way at n (inl e) = e
comes_asked s now way at n (inr p) = absurd (n p.0)

pub hears_asked : (bytes : List ℕ) (s : State) (now : ℕ) (way rest : List ℕ) (at : ℕ) → (way ≡ [] → ⊥) → (s.facts.contactor ≡ standing.Closing → IsClosing s) → IsAsked now s way at
    → IsAsked now (hearing now (Bytes bytes) s) rest at
hears_asked bytes s now way rest at n f k = record {
  soon = k.soon;
  at_once = inl (comes_asked s now way at n k.at_once);
  closing = λ e. let i : IsClosing s = f e in since_heard s.arrived s.session s.clock at bytes i.arrived (k.closing e);
}

-- ten milliseconds pass while the contactor closes
pub passes_asked : (s : State) (x : Session) (now : ℕ) (way : List ℕ) (at : ℕ) → s.session ≡ Some x → s.arrived ≡ None → x.unread ≡ [] → way ≡ [] → s.facts.contactor ≡ standing.Closing → now + 10 ≤ x.since + 60
    → IsAsked now s way at → IsAsked (now + 10) (hearing (now + 10) Clock s) way at
passes_asked s x now way at e a u w c soon k =
    let same : x.since ≡ at = subst (SinceAt at) e (k.closing c) in
    record {
      soon = subst (λ (z : ℕ). now + 10 ≤ z + 60) same soon;
      at_once = inr (w, none_heard s.arrived s.session s.clock (subst HasNoneUnread (sym e) u));
      closing = λ i. since_heard s.arrived s.session s.clock at [] a (k.closing i);
    }

-- ---- the post does something

-- what it has read it doesn't read again
either_none : (b : Bool) (x : Session) → x.unread ≡ [] → (if b then None else payload_by (whole_at x.unread) x) ≡ None
either_none true x u = refl
either_none false x u = ap (λ (l : List ℕ). payload_by (whole_at l) x) u ∙ ap (λ (r : Result (Option ℕ) FrameFault). payload_by r x) empty_waits

wants_none : (o : Option Session) → HasNoneUnread o → payload_in o ≡ None
wants_none None n = refl
wants_none (Some x) n = either_none (is_waiting x.stage.row) x n

none_wanted : (done : Bool) (o : Option Session) → HasNoneUnread o → (if done then payload_in o else None) ≡ None
none_wanted true o n = wants_none o n
none_wanted false o n = refl

none_read : (c : post.Codecs) (plan : PostPlan) (limit : ℕ) (s : State) (r : Reading) (act : Act) → HasNoneUnread s.session → Acts c plan (Shows limit [] []) s (Some r) act true → ⊥
none_read c plan limit s r act n i =
    subst (λ (w : Option Payload). IsRead c plan (Shows limit [] []) (decided plan s) w (Some r))
    (none_wanted (is_done (decided plan s).agenda) (decided plan s).session (subst HasNoneUnread (sym (same_session plan s)) n)) i.read

ordered_none : (o : Option Session) (now : ℕ) (x : Order) → HasNoneUnread o → HasNoneUnread (option_map (since_order now x) o)
ordered_none None now x n = tt
ordered_none (Some y) now x n = since_unread now x y ∙ n

replied_none : (o : Option Session) (now : ℕ) → HasNoneUnread o → HasNoneUnread (option_map (replied now) o)
replied_none None now n = tt
replied_none (Some y) now n = n

acted_none : (act : Act) (t : State) → HasNoneUnread t.session → HasNoneUnread (acted act true t).session
acted_none (Give o) t n = ordered_none t.session t.clock o n
acted_none (Send bytes) t n = replied_none t.session t.clock n
acted_none (Answer bytes) t n = n
acted_none (End cause) t n = tt

does_none : (reading : Option Reading) (c : post.Codecs) (plan : PostPlan) (limit : ℕ) (s : State) (act : Act) → HasNoneUnread s.session → Acts c plan (Shows limit [] []) s reading act true
    → HasNoneUnread (acted act true (filled plan reading s)).session
does_none None c plan limit s act n i = acted_none act (decided plan s) (subst HasNoneUnread (sym (same_session plan s)) n)
does_none (Some r) c plan limit s act n i = absurd (none_read c plan limit s r act n i)

does_at_once : (reading : Option Reading) (c : post.Codecs) (plan : PostPlan) (limit : ℕ) (s : State) (act : Act) (now : ℕ) (way : List ℕ) (at : ℕ) → Acts c plan (Shows limit [] []) s reading act true
    → (now ≡ at) ⊎ ((way ≡ []) × HasNoneUnread s.session) → (now ≡ at) ⊎ ((way ≡ []) × HasNoneUnread (acted act true (filled plan reading s)).session)
does_at_once reading c plan limit s act now way at i (inl e) = inl e
does_at_once reading c plan limit s act now way at i (inr p) = inr (p.0, does_none reading c plan limit s act p.1 i)

-- it gives an order only as it reads a request
abbrev pub GivesByReading : Option Reading → Act → Type 0
GivesByReading None (Give o) = ⊥
GivesByReading None other = Unit {0}
GivesByReading (Some r) act = Unit {0}

read_now : (reading : Option Reading) (c : post.Codecs) (plan : PostPlan) (limit : ℕ) (s : State) (o : Order) (now : ℕ) (way : List ℕ) (at : ℕ) → GivesByReading reading (Give o)
    → Acts c plan (Shows limit [] []) s reading (Give o) true → (now ≡ at) ⊎ ((way ≡ []) × HasNoneUnread s.session) → now ≡ at
read_now None c plan limit s o now way at g i a = absurd g
read_now (Some r) c plan limit s o now way at g i (inl e) = e
read_now (Some r) c plan limit s o now way at g i (inr p) = absurd (none_read c plan limit s r (Give o) p.1 i)

closed_since : (o : Option Session) (clock at : ℕ) → clock ≡ at → SinceAt at (option_map (since_order clock order.Close) o)
closed_since None clock at e = tt
closed_since (Some x) clock at e = e

limits_since : (o : Option Session) (clock at v i w : ℕ) → SinceAt at o → SinceAt at (option_map (since_order clock (order.Limits v i w)) o)
limits_since None clock at v i w k = tt
limits_since (Some x) clock at v i w k = k

-- behind a reply no row waits
pub confirmed_not : (r : Phase) → is_waiting (confirmed_row r) ≡ false
confirmed_not row.DcClosing = refl
confirmed_not row.AcClosing = refl
confirmed_not other = refl

some_session : (a b : Session) → Some a ≡ Some b → a ≡ b
some_session a b e = cc

pub replied_not : (o : Option Session) (now : ℕ) (x : Session) → option_map (replied now) o ≡ Some x → is_waiting x.stage.row ≡ true → ⊥
replied_not None now x e w = some_none x (sym e)
replied_not (Some y) now x e w =
    let same : replied now y ≡ x = some_session (replied now y) x e in
    true_false (sym w ∙ ap (λ (z : Session). is_waiting z.stage.row) (sym same) ∙ confirmed_not y.stage.row)

opening_not : standing.Opening ≡ standing.Closing → ⊥
opening_not e = cc

does_closing : (act : Act) (reading : Option Reading) (c : post.Codecs) (plan : PostPlan) (limit : ℕ) (s : State) (now : ℕ) (way : List ℕ) (at : ℕ) → GivesByReading reading act → Acts c plan (Shows limit [] []) s reading act true
    → (filled plan reading s).clock ≡ now → ((acted act true (filled plan reading s)).facts.contactor ≡ standing.Closing → IsClosing (acted act true (filled plan reading s))) → IsAsked now s way at
    → (acted act true (filled plan reading s)).facts.contactor ≡ standing.Closing → SinceAt at (acted act true (filled plan reading s)).session
does_closing (Give order.Close) reading c plan limit s now way at g i clock f k e =
    closed_since (filled plan reading s).session (filled plan reading s).clock at (clock ∙ read_now reading c plan limit s order.Close now way at g i k.at_once)
does_closing (Give order.Open) reading c plan limit s now way at g i clock f k e = absurd (opening_not e)
does_closing (Give (order.Limits v u w)) reading c plan limit s now way at g i clock f k e =
    let stay : StayBehind (Give (order.Limits v u w)) s.facts (acted (Give (order.Limits v u w)) true (filled plan reading s)).facts = acts_stay plan reading (Give (order.Limits v u w)) s in
    limits_since (filled plan reading s).session (filled plan reading s).clock at v u w (filled_since (λ z. z ≡ at) plan reading s (k.closing (sym (stay.contactor tt) ∙ e)))
does_closing (Send bytes) reading c plan limit s now way at g i clock f k e =
    let n : IsClosing (acted (Send bytes) true (filled plan reading s)) = f e in
    absurd (replied_not (filled plan reading s).session (filled plan reading s).clock n.session n.session_is n.waits)
does_closing (Answer bytes) reading c plan limit s now way at g i clock f k e =
    let stay : StayBehind (Answer bytes) s.facts (acted (Answer bytes) true (filled plan reading s)).facts = acts_stay plan reading (Answer bytes) s in
    filled_since (λ z. z ≡ at) plan reading s (k.closing (sym (stay.contactor tt) ∙ e))
does_closing (End cause) reading c plan limit s now way at g i clock f k e = tt

pub does_asked : (act : Act) (reading : Option Reading) (c : post.Codecs) (plan : PostPlan) (limit : ℕ) (s : State) (now : ℕ) (way : List ℕ) (at : ℕ) → GivesByReading reading act → Acts c plan (Shows limit [] []) s reading act true
    → (filled plan reading s).clock ≡ now → ((acted act true (filled plan reading s)).facts.contactor ≡ standing.Closing → IsClosing (acted act true (filled plan reading s))) → IsAsked now s way at
    → IsAsked now (acted act true (filled plan reading s)) way at
does_asked act reading c plan limit s now way at g i clock f k = record {
  soon = k.soon;
  at_once = does_at_once reading c plan limit s act now way at i k.at_once;
  closing = does_closing act reading c plan limit s now way at g i clock f k;
}

-- ---- the car

pub car_hears_asked : (event : Event) (at now : ℕ) (s : State) (way : List ℕ) (o : Option car_states.Session) → car_hearing.session_heard event at None ≡ None → AskedIn now s way o
    → AskedIn now s way (car_hearing.session_heard event at o)
car_hears_asked event at now s way None n k = subst (AskedIn now s way) (sym n) tt
car_hears_asked event at now s way (Some y) n k = k

moved_asked : (b : Bool) (now : ℕ) (t : State) (way : List ℕ) (plan : CarPlan) (s : car_states.State) (session : car_states.Session) (from to : CarStage) (r : Reply) → is_again from.phase to.phase ≡ b
    → AskedIn now t way (car_judging.moved plan s session from r to).session
moved_asked true now t way plan s session from to r e = rw e tt
moved_asked false now t way plan s session from to r e = rw e tt

replied_asked : (o : Option EndCause) (now : ℕ) (t : State) (way : List ℕ) (plan : CarPlan) (s : car_states.State) (session : car_states.Session) (stage : CarStage) (r : Reply)
    → AskedIn now t way (car_judging.replied_by o plan s session stage r).session
replied_asked (Some cause) now t way plan s session stage r = tt
replied_asked None now t way plan s session stage r = moved_asked _ now t way plan s session stage (stage_behind plan stage r session.stop) r refl

told_asked : (o : Option CarStage) (now : ℕ) (t : State) (way : List ℕ) (plan : CarPlan) (s : car_states.State) (session : car_states.Session) (r : Reply)
    → AskedIn now t way (car_judging.replied plan s session o r).session
told_asked None now t way plan s session r = tt
told_asked (Some stage) now t way plan s session r = replied_asked (reply_cause plan stage _ r) now t way plan s session stage r

word_asked : (w : car.Judged) (now : ℕ) (t : State) (way : List ℕ) (plan : CarPlan) (s : car_states.State) (session : car_states.Session) → AskedIn now t way (car_judging.judged plan s session w).session
word_asked (car.Chosen None) now t way plan s session = tt
word_asked (car.Chosen (Some d)) now t way plan s session = tt
word_asked (car.Told r) now t way plan s session = told_asked session.stage now t way plan s session r
word_asked car.WrongSide now t way plan s session = tt
word_asked car.Refused now t way plan s session = tt

pub reads_asked : (o : Option car_states.Session) (now : ℕ) (t : State) (way : List ℕ) (plan : CarPlan) (s : car_states.State) (w : car.Judged) → o ≡ s.session
    → AskedIn now t way (car_judging.judged_in plan s o w).session
reads_asked None now t way plan s w e = subst (AskedIn now t way) e tt
reads_asked (Some y) now t way plan s w e = word_asked w now t way plan s y

just_asked : (now at : ℕ) → at ≡ now → now ≤ at + 60
just_asked now at e = omega (arith, e)

pub says_asked : (o : Option car_states.Session) (now clock : ℕ) (s : State) (way : List ℕ) → clock ≡ now → (s.facts.contactor ≡ standing.Closing → ⊥) → AskedIn now s way (option_map (car_acting.awaiting clock) o)
says_asked None now clock s way e n = tt
says_asked (Some y) now clock s way e n = record { soon = just_asked now clock e; at_once = inl (sym e); closing = λ i. absurd (n i) }

nothing_more : (s : State) (now : ℕ) (way : List ℕ) (at : ℕ) → (now ≡ at) ⊎ ((way ≡ []) × HasNoneUnread s.session) → (now ≡ at) ⊎ ((way ++ [] ≡ []) × HasNoneUnread s.session)
nothing_more s now way at (inl e) = inl e
nothing_more s now way at (inr p) = inr (ap (λ (l : List ℕ). l ++ []) p.0, p.1)

pub stays_asked : (s : State) (now : ℕ) (way : List ℕ) (at : ℕ) → IsAsked now s way at → IsAsked now s (way ++ []) at
stays_asked s now way at k = record { soon = k.soon; at_once = nothing_more s now way at k.at_once; closing = k.closing }
