-- An act and a hearing keep the tie.
use Rattle.std.proofs.Common.{◌≡◌, ℕ, suc, ◌+◌, Bool, true, false, List, [], ◌∷◌, Option, Some, None, is_some, refl, sym, subst, ◌∙◌, inr, arith}
use Rattle.std.specs.Option.{option_map}
use Rattle.charge_world.specs.declared.entry.Entry.{Entry}
use Rattle.charge_world.specs.declared.entry.Entry.TheVariants as entry
use Rattle.charge_world.specs.declared.heard.What.{What}
use Rattle.charge_world.specs.declared.ports.Order.{Order}
use Rattle.charge_world.specs.declared.ports.Order.TheVariants as order
use Rattle.charge_world.specs.Outside.{IsOfPosts}
use Rattle.session_words.specs.declared.cause.EndCause.{EndCause}
use Rattle.session_words.specs.declared.cause.EndCause.TheVariants.{OrderFailed, SendFailed}
use Rattle.session_words.specs.declared.plan.CarPlan.{CarPlan}
use Rattle.v2gtp_frames.specs.Frames.{frame}
use Rattle.car_rules.specs.declared.stage.CarStage.{CarStage}
use Rattle.car_rules.specs.Requests.{request_of}
use Rattle.post_spec.specs.Steps.{Event, Came, Bytes, Gone, Datagram, Plant, Clock, Over}
use Rattle.station_spec.specs.Acting.{live_ordered}
use Rattle.car_spec.specs.Acting.{awaiting, acted}
use Rattle.car_spec.specs.Answered.{Exchange}
use Rattle.car_spec.specs.Codecs.{Codecs}
use Rattle.car_spec.specs.Hearing.{session_heard}
use Rattle.car_spec.specs.Next.{IsSpoken, IsSaid, IsDone}
use Rattle.car_spec.specs.Past.{came, stream, said}
use Rattle.car_spec.specs.Spelled.{ReadsBack}
use Rattle.car_spec.specs.States.{Agenda, Timing, Session, State, nothing, first_of, first, is_done}
use Rattle.car_spec.specs.States as states
use Rattle.car_spec.specs.Steps.{Spoken, Act, Seek, Dial, Give, Say, entry_of}
use Rattle.safe_runs.proofs.Growth.{AreWhole}
use Rattle.car_closings.proofs.Growth.{GoesOnTo, heard_more, said_more, said_here, unsaid, Unsaid}
use Rattle.car_closings.proofs.Heard.{heard_as}
use Rattle.car_closings.proofs.Streams.{IsStream, Streams}
use Rattle.car_closings.proofs.Ties.{is_new, SaidTie, Speaks, Stills, Link, Unlinked, TieBy, Lessens, unoffered, staged_stays, said_stays, WholeIn, tie_stays, failing_ties}

pub whole_in : (arrived : Bool) (bytes : List ℕ) (n : ℕ) (over : Bool) (o : Option Session) → Streams arrived bytes n over o → WholeIn n bytes o
whole_in arrived bytes n over None k = tt
whole_in arrived bytes n over (Some session) k = k.whole

-- something said: it is the next that is said
pub record SaysFirst (a : Agenda) (spoken : Spoken) : Type 0 where
  pub spoken_is : a.spoken ≡ Some spoken
  pub no_order : a.order ≡ None

says_by : (p : Option ℕ) (o : Option Order) (sp : Option Spoken) (e : Option EndCause) (seeks : Bool) (spoken : Spoken) → first_of p o sp e seeks ≡ Some (states.Speak spoken) → (sp ≡ Some spoken) × (o ≡ None)
says_by (Some port) o sp e seeks spoken h = cc
says_by None (Some given) sp e seeks spoken h = cc
says_by None None (Some own) e seeks spoken h = (cc, refl)
says_by None None None (Some cause) seeks spoken h = cc
says_by None None None None true spoken h = cc
says_by None None None None false spoken h = cc

says_first : (a : Agenda) (spoken : Spoken) → first a ≡ Some (states.Speak spoken) → SaysFirst a spoken
says_first a spoken h = let k = says_by a.port a.order a.spoken a.ending a.seeks spoken h in record { spoken_is = k.0; no_order = k.1 }

next_place : (m n : ℕ) → m ≡ n → m + 1 ≡ suc n
next_place m n e = omega arith

said_tie : (c : Codecs) (plan : CarPlan) (past : List Entry) (n at : ℕ) (o : Option CarStage) (spoken : Spoken) (payload : List ℕ) → ReadsBack c → IsSpoken c plan spoken payload → Speaks plan o (Some spoken) → said past ≡ n
    → SaidTie c plan (entry.Sent 1 (frame payload) true ∷ past) n o (Some at)
said_tie c plan past n at None spoken payload back s f e = next_place (said past) n e
said_tie c plan past n at (Some stage) spoken payload back s f e = (
  next_place (said past) n e,
  record {
    payload = payload;
    said_is = said_here (frame payload) past n e;
    request_is = back stage.dialect (request_of plan stage) payload (subst (λ (x : Spoken). IsSpoken c plan x payload) f s);
  },
)

said_link : (c : Codecs) (plan : CarPlan) (past : List Entry) (xs : List Exchange) (n at : ℕ) (session : Session) (a : Agenda) (spoken : Spoken) (payload : List ℕ) (sent : Option ℕ) → session.moments.sent ≡ sent → ReadsBack c
    → IsSpoken c plan spoken payload → SaysFirst a spoken → AreWhole n (stream past) → Link c plan past xs n session a false → Stills session.again a sent → SaidTie c plan past n session.stage sent
    → Link c plan (entry.Sent 1 (frame payload) true ∷ past) xs n (awaiting at session) (record a { spoken = None }) false
said_link c plan past xs n at session a spoken payload (Some moment) e back s f w k q r = let x : None ≡ Some spoken = sym q.unspoken ∙ f.spoken_is in cc
said_link c plan past xs n at session a spoken payload None e back s f w k q r = record {
  staged = staged_stays c plan past (entry.Sent 1 (frame payload) true ∷ past) xs n session.stage (said_more (frame payload) past) w k.staged;
  said_is = said_tie c plan past n at session.stage spoken payload back s (subst (Speaks plan session.stage) f.spoken_is k.speaks) r;
  speaks = tt;
  still = record { not_again = refl; unspoken = refl; no_order = f.no_order };
  offers = λ g h. (cc);
  new = λ h. (cc);
}

said_tied : (c : Codecs) (plan : CarPlan) (past : List Entry) (xs : List Exchange) (n at : ℕ) (over : Bool) (a : Agenda) (e : Option EndCause) (o : Option Session) (spoken : Spoken) (payload : List ℕ) → ReadsBack c → over ≡ false
    → IsSpoken c plan spoken payload → SaysFirst a spoken → WholeIn n (stream past) o → TieBy c plan past xs n over a false e o
    → TieBy c plan (entry.Sent 1 (frame payload) true ∷ past) xs n over (record a { spoken = None }) false e (option_map (awaiting at) o)
said_tied c plan past xs n at over a (Some cause) o spoken payload back v s f w k = k
said_tied c plan past xs n at over a None None spoken payload back v s f w k =
    let u : Unlinked past xs n a = k v in let x : None ≡ Some spoken = sym u.unspoken ∙ f.spoken_is in cc
said_tied c plan past xs n at over a None (Some session) spoken payload back v s f w k =
    said_link c plan past xs n at session a spoken payload session.moments.sent refl back s f w k k.still k.said_is

-- any other act
called : (a : Agenda) → Lessens a (record a { port = None }) false
called a = record { spoken_is = refl; stays_no_order = λ h. h; closes_alike = λ h. h; stays_done = λ f h. (cc) }

sought : (a : Agenda) → Lessens a (record a { seeks = false }) false
sought a = record { spoken_is = refl; stays_no_order = λ h. h; closes_alike = λ h. h; stays_done = λ f h. (cc) }

gave : (a : Agenda) → Lessens a (record a { order = None }) false
gave a = record { spoken_is = refl; stays_no_order = λ h. refl; closes_alike = λ h. (let x : None ≡ Some order.Close = h in cc); stays_done = λ f h. (cc) }

abbrev pub ActTied : Codecs → CarPlan → List Entry → List Exchange → ℕ → Act → Bool → State → Type 0
ActTied c plan past xs n a taken t =
    TieBy c plan (entry_of a taken ∷ past) xs n (acted a taken t).over (acted a taken t).agenda false (acted a taken t).agenda.ending (acted a taken t).session

unsaid_ties : (c : Codecs) (plan : CarPlan) (past : List Entry) (xs : List Exchange) (n : ℕ) (over : Bool) (a b : Agenda) (e : Option EndCause) (o : Option Session) (act : Act) (taken : Bool) → Unsaid past act taken
    → WholeIn n (stream past) o → Lessens a b false → TieBy c plan past xs n over a false e o → TieBy c plan (entry_of act taken ∷ past) xs n over b false e o
unsaid_ties c plan past xs n over a b e o act taken u w l k = tie_stays c plan past (entry_of act taken ∷ past) xs n over a b false e o u.more u.said_is w l k

pub acted_ties : (c : Codecs) (plan : CarPlan) (past : List Entry) (xs : List Exchange) (n : ℕ) (todo : states.Todo) (a : Act) (taken : Bool) (t : State) → ReadsBack c → t.over ≡ false → first t.agenda ≡ Some todo → IsDone c plan todo a taken
    → WholeIn n (stream past) t.session → TieBy c plan past xs n t.over t.agenda false t.agenda.ending t.session → ActTied c plan past xs n a taken t
acted_ties c plan past xs n (states.Call port) a true t back v h d w k = subst (λ (x : Act). ActTied c plan past xs n x true t) (sym d)
    (unsaid_ties c plan past xs n t.over t.agenda _ t.agenda.ending t.session (Dial port) true (unsaid past (Dial port) true tt) w (called t.agenda) k)
acted_ties c plan past xs n (states.Call port) a false t back v h d w k = subst (λ (x : Act). ActTied c plan past xs n x false t) (sym d)
    (failing_ties c plan (entry_of (Dial port) false ∷ past) xs n t.over false t.agenda.ending SendFailed t.live t.session)
acted_ties c plan past xs n (states.Drive o) a true t back v h d w k = subst (λ (x : Act). ActTied c plan past xs n x true t) (sym d)
    (unsaid_ties c plan past xs n t.over t.agenda _ t.agenda.ending t.session (Give o) true (unsaid past (Give o) true tt) w (gave t.agenda) k)
acted_ties c plan past xs n (states.Drive o) a false t back v h d w k = subst (λ (x : Act). ActTied c plan past xs n x false t) (sym d)
    (failing_ties c plan (entry_of (Give o) false ∷ past) xs n t.over false t.agenda.ending OrderFailed (live_ordered o false t.live) t.session)
acted_ties c plan past xs n (states.Speak spoken) a true t back v h d w k =
    let i : IsSaid c plan spoken a = d in
    subst (λ (x : Act). ActTied c plan past xs n x true t) (sym i.act_is)
    (said_tied c plan past xs n t.clock t.over t.agenda t.agenda.ending t.session spoken i.payload back v i.spoken_is (says_first t.agenda spoken h) w k)
acted_ties c plan past xs n (states.Speak spoken) a false t back v h d w k =
    let i : IsSaid c plan spoken a = d in
    subst (λ (x : Act). ActTied c plan past xs n x false t) (sym i.act_is)
    (failing_ties c plan (entry_of (Say spoken (frame i.payload)) false ∷ past) xs n t.over false t.agenda.ending SendFailed t.live t.session)
acted_ties c plan past xs n (states.Finish cause) a taken t back v h d w k = subst (λ (x : Act). ActTied c plan past xs n x taken t) (sym d.0) (λ o. (let x : true ≡ false = o in cc))
acted_ties c plan past xs n states.Inquire a taken t back v h d w k = subst (λ (x : Act). ActTied c plan past xs n x taken t) (sym d)
    (unsaid_ties c plan past xs n t.over t.agenda _ t.agenda.ending t.session (Seek _) taken (unsaid past (Seek _) taken tt) w (sought t.agenda) k)

-- ---- a hearing

new_stands : (e : Event) → is_new e true ≡ false
new_stands (Came token) = refl
new_stands (Bytes bytes) = refl
new_stands Gone = refl
new_stands (Datagram bytes) = refl
new_stands (Plant event) = refl
new_stands Clock = refl
new_stands Over = refl

first_link : (c : Codecs) (plan : CarPlan) (past : List Entry) (xs : List Exchange) (n now : ℕ) (over fresh : Bool) (e : Event) → fresh ≡ is_new e false → said past ≡ 0 → n ≡ 0 → xs ≡ []
    → TieBy c plan past xs n over nothing fresh None (session_heard e now None)
first_link c plan past xs n now over fresh (Came token) f s z x = record { staged = (z, x); said_is = s ∙ sym z; speaks = tt; still = tt; offers = λ g h. inr f; new = λ g. (refl, refl) }
first_link c plan past xs n now over fresh (Bytes bytes) f s z x = λ v. record { none_said = s; none_read = z; none_exchanged = x; unspoken = refl; no_order = refl }
first_link c plan past xs n now over fresh Gone f s z x = λ v. record { none_said = s; none_read = z; none_exchanged = x; unspoken = refl; no_order = refl }
first_link c plan past xs n now over fresh (Datagram bytes) f s z x = λ v. record { none_said = s; none_read = z; none_exchanged = x; unspoken = refl; no_order = refl }
first_link c plan past xs n now over fresh (Plant event) f s z x = λ v. record { none_said = s; none_read = z; none_exchanged = x; unspoken = refl; no_order = refl }
first_link c plan past xs n now over fresh Clock f s z x = λ v. record { none_said = s; none_read = z; none_exchanged = x; unspoken = refl; no_order = refl }
first_link c plan past xs n now over fresh Over f s z x = λ v. record { none_said = s; none_read = z; none_exchanged = x; unspoken = refl; no_order = refl }

still_heard : (again : Option ℕ) (a : Agenda) (sent : Option ℕ) → Stills again a sent → Stills again nothing sent
still_heard again a None k = tt
still_heard again a (Some at) k = record { not_again = k.not_again; unspoken = refl; no_order = refl }

heard_link : (c : Codecs) (plan : CarPlan) (at : ℕ) (w : What) (bytes : List ℕ) (past : List Entry) (xs : List Exchange) (n : ℕ) (e : Event) (session : Session) (a : Agenda) → IsOfPosts 1 w → a.spoken ≡ None
    → IsStream (came past) (stream past) n session.unread → Link c plan past xs n session a false
    → TieBy c plan (heard_as at w bytes ∷ past) xs n false nothing (is_new e true) None (session_heard e at (Some session))
heard_link c plan at w bytes past xs n e session a o u i k =
    let g : GoesOnTo past (heard_as at w bytes ∷ past) = heard_more at w bytes past o i.came_is in
    record {
      staged = staged_stays c plan past (heard_as at w bytes ∷ past) xs n session.stage g i.whole k.staged;
      said_is = said_stays c plan past (heard_as at w bytes ∷ past) n session.stage session.moments.sent g refl k.said_is;
      speaks = tt;
      still = still_heard session.again a session.moments.sent k.still;
      offers = λ f h. absurd (unoffered session a u k.offers f h);
      new = λ h. (let x : false ≡ true = sym (new_stands e) ∙ h in cc);
    }

pub heard_ties : (c : Codecs) (plan : CarPlan) (at now : ℕ) (w : What) (bytes : List ℕ) (past : List Entry) (xs : List Exchange) (n : ℕ) (e : Event) (o : Option Session) (a : Agenda) → IsOfPosts 1 w → a.spoken ≡ None
    → Streams (came past) (stream past) n false o → TieBy c plan past xs n false a false None o
    → TieBy c plan (heard_as at w bytes ∷ past) xs n false nothing (is_new e (is_some o)) None (session_heard e now o)
heard_ties c plan at now w bytes past xs n e None a p u i k =
    let m : Unlinked past xs n a = k refl in
    first_link c plan (heard_as at w bytes ∷ past) xs n now false _ e refl m.none_said m.none_read m.none_exchanged
heard_ties c plan at now w bytes past xs n e (Some session) a p u i k = heard_link c plan at w bytes past xs n e session a p u i k
