-- How long the first session lasts: a pause at most behind each order and each message of the post.
use Rattle.std.proofs.Common.{◌≡◌, ℕ, suc, ◌+◌, ◌*◌, ◌≤◌, Bool, true, false, if◌then◌else◌, List, [], ◌∷◌, Option, Some, None, refl, ap, sym, subst, ◌∙◌, arith}
use Rattle.std.specs.List.{AllByRecursion}
use Rattle.std.specs.Option.{option_map}
use Rattle.charge_world.specs.declared.ports.Order.{Order}
use Rattle.charge_world.specs.declared.ports.Order.TheVariants as order
use Rattle.session_words.specs.declared.plan.CarPlan.{CarPlan}
use Rattle.session_words.specs.declared.plan.PostPlan.{PostPlan}
use Rattle.session_rules.specs.Stages.{is_set_up}
use Rattle.post_spec.specs.Codecs as post
use Rattle.post_spec.specs.Steps.{Act, Give, Send, Answer, End, Reading}
use Rattle.station_spec.specs.States.{Spoken, Response, Said, Session, State}
use Rattle.station_spec.specs.States as states
use Rattle.station_spec.specs.Deciding.{decided}
use Rattle.station_spec.specs.Hearing.{session_opened, with_bytes}
use Rattle.station_spec.specs.Judging.{judged, taken_in, read, filled}
use Rattle.station_spec.specs.Acting.{since_order, replied, acted}
use Rattle.station_spec.specs.Next.{IsSpoken, IsDone}
use Rattle.station_laws.proofs.Decided.{IsPlanned, planned}
use Rattle.car_spec.specs.Codecs as car
use Rattle.car_spec.specs.States as car_states
use Rattle.pipe_spec.specs.Histories.{Happening, CarComes, ChargerTells, StationHears, CarHears, TimePasses, StationDoes, CarReads, CarDoes, CarGoes, NumberIsDrawn, moment, joined, station_says}
use Rattle.pipe_spec.specs.Turns.{Station, station_state, car_state, StationMayDo}
use Rattle.pipe_spec.specs.Runs.{IsRun, IsWithin}
use Rattle.pipe_laws.specs.OneMessage.{IsShort}
use Rattle.matched_pairs.specs.Moves.{IsPair}
use Rattle.matched_pairs.specs.Courses.{GoesWell}
use Rattle.matched_pairs.specs.Power.{AllKeepTime}
use Rattle.matched_pairs.specs.Paces.{IsSoonBehind, KeepsPace}
use Rattle.matched_pairs.proofs.Clocks.{filled_clock}
use Rattle.matched_pairs.proofs.Since.{OfSince, filled_since}
use Rattle.matched_pairs.proofs.Asked.{GivesByReading}
use Rattle.matched_pairs.proofs.Waits.{gives_by_reading}
use Rattle.matched_pairs.proofs.Passing.{IsPassing, Rests, Closes}
use Rattle.matched_pairs.proofs.Held.{Known}
use Rattle.matched_pairs.proofs.Paces.{front, Seen, seen, known, passing_at, holds_in, keeps}
use Rattle.matched_pairs.proofs.Said.{one_of, one_frame, answered, one_reading, requests}
use Rattle.matched_pairs.proofs.Tells.{one_order, orders}

true_false : true ≡ false → ⊥
true_false e = cc

some_none : {A : Type 0} (a : A) → Some a ≡ None → ⊥
some_none a e = cc

-- what the post has done
abbrev pub deeds : List Happening → ℕ
deeds h = orders h + answered h

-- so many pauses at most
abbrev pub IsUpTo : ℕ → ℕ → Type 0
IsUpTo most moment = moment ≤ 1010 * most

-- a session begins behind the first hearing, at 0
abbrev pub IsAtStart : Option ℕ → ℕ → Type 0
IsAtStart None now = Unit {0}
IsAtStart (Some token) now = now ≡ 0

pub record Lasts (st : Station) (h : List Happening) : Type 0 where
  pub since : OfSince (IsUpTo (deeds h)) (station_state st h).session
  pub lasts : IsUpTo (suc (deeds h)) (moment h)
  pub start : IsAtStart (station_state st h).arrived (moment h)
  pub read : orders h ≤ requests h

-- ---- the post does something: an order or a message is one more

send_answer : (a b : List ℕ) → Send a ≡ Answer b → ⊥
send_answer a b e = cc

send_give : (a : List ℕ) (o : Order) → Send a ≡ Give o → ⊥
send_give a o e = cc

send_end : (a : List ℕ) (n : ℕ) → Send a ≡ End n → ⊥
send_end a n e = cc

send_same : (a b : List ℕ) → Send a ≡ Send b → a ≡ b
send_same a b e = cc

spoken_one : (c : post.Codecs) (spoken : Spoken) (bytes : List ℕ) → IsSpoken c spoken bytes → one_of bytes ≡ 1
spoken_one c (Response payload) bytes e = ap one_of e ∙ one_frame payload
spoken_one c (Said dialect reply) bytes e = ap one_of e.2 ∙ one_frame e.0

sends_one : (c : post.Codecs) (todo : states.Todo) (bytes : List ℕ) → IsDone c todo (Send bytes) true → one_of bytes ≡ 1
sends_one c (states.Tell datagram) bytes i = absurd (send_answer bytes datagram i)
sends_one c (states.Give o) bytes i = absurd (send_give bytes o i)
sends_one c (states.Say spoken) bytes i = ap one_of (send_same bytes i.0 i.2) ∙ spoken_one c spoken i.0 i.1
sends_one c (states.Finish cause) bytes i = absurd (send_end bytes _ i.0)

abbrev pub IsMore : Act → ℕ → ℕ → Type 0
IsMore (Give o) before after = suc before ≤ after
IsMore (Send bytes) before after = suc before ≤ after
IsMore (Answer bytes) before after = before ≤ after
IsMore (End cause) before after = before ≤ after

is_more : (act : Act) (c : post.Codecs) (todo : states.Todo) (given said : ℕ) → IsDone c todo act true → IsMore act (given + said) ((one_order act + given) + (one_of (station_says act) + said))
is_more (Give o) c todo given said i = omega arith
is_more (Send bytes) c todo given said i = let one : one_of bytes ≡ 1 = sends_one c todo bytes i in omega (arith, one)
is_more (Answer bytes) c todo given said i = omega arith
is_more (End cause) c todo given said i = omega arith

no_less : (act : Act) (before after : ℕ) → IsMore act before after → before ≤ after
no_less (Give o) before after l = omega (arith, l)
no_less (Send bytes) before after l = omega (arith, l)
no_less (Answer bytes) before after l = l
no_less (End cause) before after l = l

up_to : (before after at : ℕ) → before ≤ after → IsUpTo before at → IsUpTo after at
up_to before after at l k = omega (arith, l, k)

one_up : (before after : ℕ) → suc before ≤ after → before ≤ after
one_up before after l = omega (arith, l)

still_up_to : (before after : ℕ) (o : Option Session) → before ≤ after → OfSince (IsUpTo before) o → OfSince (IsUpTo after) o
still_up_to before after None l k = tt
still_up_to before after (Some x) l k = up_to before after x.since l k

ordered_up_to : (o : Order) (clock before after : ℕ) (s : Option Session) → IsUpTo (suc before) clock → suc before ≤ after → OfSince (IsUpTo before) s → OfSince (IsUpTo after) (option_map (since_order clock o) s)
ordered_up_to o clock before after None e l k = tt
ordered_up_to order.Open clock before after (Some x) e l k = up_to before after x.since (one_up before after l) k
ordered_up_to order.Close clock before after (Some x) e l k = up_to (suc before) after clock l e
ordered_up_to (order.Limits voltage current watts) clock before after (Some x) e l k = up_to before after x.since (one_up before after l) k

either_up_to : (b : Bool) (clock since before after : ℕ) → IsUpTo (suc before) clock → suc before ≤ after → IsUpTo before since → IsUpTo after (if b then clock else since)
either_up_to true clock since before after e l k = up_to (suc before) after clock l e
either_up_to false clock since before after e l k = up_to before after since (one_up before after l) k

replied_up_to : (clock before after : ℕ) (s : Option Session) → IsUpTo (suc before) clock → suc before ≤ after → OfSince (IsUpTo before) s → OfSince (IsUpTo after) (option_map (replied clock) s)
replied_up_to clock before after None e l k = tt
replied_up_to clock before after (Some x) e l k = either_up_to (is_set_up x.stage.row) clock x.since before after e l k

acted_up_to : (act : Act) (before after : ℕ) (t : State) → IsUpTo (suc before) t.clock → IsMore act before after → OfSince (IsUpTo before) t.session → OfSince (IsUpTo after) (acted act true t).session
acted_up_to (Give o) before after t e l k = ordered_up_to o t.clock before after t.session e l k
acted_up_to (Send bytes) before after t e l k = replied_up_to t.clock before after t.session e l k
acted_up_to (Answer bytes) before after t e l k = still_up_to before after t.session l k
acted_up_to (End cause) before after t e l k = tt

-- a connection that has come is there still
same_arrived : (plan : PostPlan) (s : State) → (decided plan s).arrived ≡ s.arrived
same_arrived plan s = let p : IsPlanned s (decided plan s) = planned plan s in ap (λ (t : State). t.arrived) p.is

judged_arrived : (plan : PostPlan) (s : State) (session : Session) (w : post.Judged) (shown : ℕ) → (judged plan s session w shown).arrived ≡ s.arrived
judged_arrived plan s session (post.Negotiated chosen response) shown = refl
judged_arrived plan s session (post.Asked r) shown = refl
judged_arrived plan s session post.WrongSide shown = refl
judged_arrived plan s session post.Refused shown = refl

taken_arrived : (plan : PostPlan) (s : State) (o : Option Session) (r : Reading) → (taken_in plan s o r).arrived ≡ s.arrived
taken_arrived plan s None r = refl
taken_arrived plan s (Some session) r = judged_arrived plan s session r.judged r.shown

read_arrived : (plan : PostPlan) (s : State) (o : Option Reading) → (read plan s o).arrived ≡ s.arrived
read_arrived plan s None = refl
read_arrived plan s (Some r) = taken_arrived plan s s.session r

acted_arrived : (act : Act) (t : State) → (acted act true t).arrived ≡ t.arrived
acted_arrived (Give o) t = refl
acted_arrived (Send bytes) t = refl
acted_arrived (Answer bytes) t = refl
acted_arrived (End cause) t = refl

does_arrived : (act : Act) (plan : PostPlan) (o : Option Reading) (s : State) → (acted act true (filled plan o s)).arrived ≡ s.arrived
does_arrived act plan o s = acted_arrived act (filled plan o s) ∙ read_arrived plan (decided plan s) o ∙ same_arrived plan s

-- each order is behind a request that is read for it
one_given : (reading : Option Reading) (act : Act) → GivesByReading reading act → one_order act ≤ one_reading reading
one_given None (Give o) g = absurd g
one_given None (Send bytes) g = omega arith
one_given None (Answer bytes) g = omega arith
one_given None (End cause) g = omega arith
one_given (Some r) (Give o) g = omega arith
one_given (Some r) (Send bytes) g = omega arith
one_given (Some r) (Answer bytes) g = omega arith
one_given (Some r) (End cause) g = omega arith

suc_less : (before after : ℕ) → before ≤ after → suc before ≤ suc after
suc_less before after l = omega (arith, l)

both_more : (a b c d : ℕ) → a ≤ b → c ≤ d → a + c ≤ b + d
both_more a b c d k l = omega (arith, k, l)

does : (c : post.Codecs) (cs : car.Codecs) (st : Station) (plan : CarPlan) (h : List Happening) (reading : Option Reading) (act : Act) → Known c cs st plan h → StationMayDo c st h reading act → Lasts st h
    → Lasts st (StationDoes reading act ∷ h)
does c cs st plan h reading act n i k =
    let s : State = station_state st h in
    let well : GoesWell c cs st plan h = n.well in
    let more : IsMore act (deeds h) (deeds (StationDoes reading act ∷ h)) = is_more act c i.todo (orders h) (answered h) i.done in
    let clock : (filled st.post reading s).clock ≡ moment h = filled_clock st.post reading s ∙ n.clock in
    record {
      since = acted_up_to act (deeds h) (deeds (StationDoes reading act ∷ h)) (filled st.post reading s) (subst (IsUpTo (suc (deeds h))) (sym clock) k.lasts) more
          (filled_since (IsUpTo (deeds h)) st.post reading s k.since);
      lasts = up_to (suc (deeds h)) (suc (deeds (StationDoes reading act ∷ h))) (moment h) (suc_less (deeds h) (deeds (StationDoes reading act ∷ h)) (no_less act (deeds h) (deeds (StationDoes reading act ∷ h)) more)) k.lasts;
      start = subst (λ (o : Option ℕ). IsAtStart o (moment h)) (sym (does_arrived act st.post reading s)) k.start;
      read = both_more (one_order act) (one_reading reading) (orders h) (requests h) (one_given reading act (gives_by_reading well.words reading c cs st plan h act n.pair well.phase i)) k.read;
    }

-- ---- it hears something

from_zero : (clock now most : ℕ) → clock ≡ now → now ≡ 0 → IsUpTo most clock
from_zero clock now most e z = omega (arith, e, z)

heard_up_to : (arrived : Option ℕ) (o : Option Session) (clock now most : ℕ) (bytes : List ℕ) → clock ≡ now → IsAtStart arrived now → OfSince (IsUpTo most) o
    → OfSince (IsUpTo most) (option_map (with_bytes bytes) (session_opened arrived clock o))
heard_up_to None None clock now most bytes e z k = tt
heard_up_to None (Some x) clock now most bytes e z k = k
heard_up_to (Some token) o clock now most bytes e z k = from_zero clock now most e z

-- ten milliseconds pass while the post has a session
soon_up_to : (later since most : ℕ) → later ≤ since + 1010 → IsUpTo most since → IsUpTo (suc most) later
soon_up_to later since most l k = omega (arith, l, k)

passes_up_to : (arrived : Option ℕ) (o : Option Session) (x : Session) (clock later most : ℕ) → o ≡ Some x → OfSince (IsUpTo most) (option_map (with_bytes []) (session_opened arrived clock o))
    → IsSoonBehind later (option_map (with_bytes []) (session_opened arrived clock o)) → IsUpTo (suc most) later
passes_up_to None None x clock later most e k b = absurd (some_none x (sym e))
passes_up_to None (Some y) x clock later most e k b = soon_up_to later y.since most b.1 k
passes_up_to (Some token) o x clock later most e k b = soon_up_to later clock most b.1 k

has_session : (now : ℕ) (s : State) (k : car_states.State) → IsPassing now s k → (x : Session) × (s.session ≡ Some x)
has_session now s k (Rests r) = (r.post, r.post_is)
has_session now s k (Closes r) = (r.post, r.post_is)

passes : (st : Station) (h : List Happening) (x : Session) → (station_state st h).session ≡ Some x → (station_state st h).clock ≡ moment h → IsSoonBehind (moment h + 10) (station_state st (TimePasses ∷ h)).session → Lasts st h
    → Lasts st (TimePasses ∷ h)
passes st h x e clock b k =
    let s : State = station_state st h in
    let since : OfSince (IsUpTo (deeds h)) (station_state st (TimePasses ∷ h)).session = heard_up_to s.arrived s.session s.clock (moment h) (deeds h) [] clock k.start k.since in
    record { since = since; lasts = passes_up_to s.arrived s.session x s.clock (moment h + 10) (deeds h) e since b; start = tt; read = k.read }

hears : (st : Station) (h : List Happening) → (station_state st h).clock ≡ moment h → Lasts st h → (bytes : List ℕ)
    → OfSince (IsUpTo (deeds h)) (option_map (with_bytes bytes) (session_opened (station_state st h).arrived (station_state st h).clock (station_state st h).session))
hears st h clock k bytes =
    let s : State = station_state st h in heard_up_to s.arrived s.session s.clock (moment h) (deeds h) bytes clock k.start k.since

-- ---- all that may happen

step : (e : Happening) (c : post.Codecs) (cs : car.Codecs) (st : Station) (plan : CarPlan) (session : List Happening) → Seen c cs st plan session → Seen c cs st plan (e ∷ session)
    → AllKeepTime st (joined plan) (front plan session) → KeepsPace st (joined plan) (e ∷ front plan session) → Lasts st (front plan session) → Lasts st (e ∷ front plan session)
step (StationDoes reading act) c cs st plan session s t d p k = let r = t.run in does c cs st (joined plan) (front plan session) reading act (known c cs st plan session s) r.1 k
step (ChargerTells event) c cs st plan session s t d p k =
    let n : Known c cs st (joined plan) (front plan session) = known c cs st plan session s in
    record { since = hears st (front plan session) n.clock k []; lasts = k.lasts; start = tt; read = k.read }
step (StationHears bytes) c cs st plan session s t d p k =
    let n : Known c cs st (joined plan) (front plan session) = known c cs st plan session s in
    record { since = hears st (front plan session) n.clock k bytes; lasts = k.lasts; start = tt; read = k.read }
step TimePasses c cs st plan session s t d p k =
    let n : Known c cs st (joined plan) (front plan session) = known c cs st plan session s in
    let r = t.run in
    let x = has_session (moment (front plan session)) (station_state st (front plan session)) (car_state (joined plan) (front plan session))
    (passing_at c cs st plan session s r.1 t.run (holds_in c cs st plan session s.pair s.within s.run s.short d)) in
    passes st (front plan session) x.0 x.1 n.clock p.behind k
step (CarHears bytes) c cs st plan session s t d p k = record { since = k.since; lasts = k.lasts; start = k.start; read = k.read }
step (CarReads word) c cs st plan session s t d p k = record { since = k.since; lasts = k.lasts; start = k.start; read = k.read }
step (CarDoes act) c cs st plan session s t d p k = record { since = k.since; lasts = k.lasts; start = k.start; read = k.read }
step (CarComes other) c cs st plan session s t d p k = let w = t.within in absurd (true_false (sym w.0))
step CarGoes c cs st plan session s t d p k = let w = t.within in absurd (true_false (sym w.0))
step NumberIsDrawn c cs st plan session s t d p k = let w = t.within in absurd (true_false (sym w.0))

pub lasts : (c : post.Codecs) (cs : car.Codecs) (st : Station) (plan : CarPlan) (session : List Happening) → IsPair c cs st.post (joined plan) → AllByRecursion IsWithin session → IsRun c cs st (front plan session)
    → AllByRecursion (IsShort 65544) (front plan session) → AllKeepTime st (joined plan) (front plan session) → Lasts st (front plan session)
lasts c cs st plan [] p w r l d = record { since = tt; lasts = omega arith; start = refl; read = omega arith }
lasts c cs st plan (e ∷ session) p w r l d =
    step e c cs st plan session (seen c cs st plan session p w.1 r.0 l.1 d.0) (seen c cs st plan (e ∷ session) p w r l d) d.0
    (keeps st (joined plan) (e ∷ front plan session) (holds_in c cs st plan (e ∷ session) p w r l d)) (lasts c cs st plan session p w.1 r.0 l.1 d.0)
