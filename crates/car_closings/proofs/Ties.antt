-- What ties a past to what its car keeps, as long as the car has no cause.
use Rattle.std.proofs.Common.{◌≡◌, ℕ, suc, Bool, true, false, not, ◌&&◌, List, [], length, Option, Some, None, refl, sym, subst, ◌∙◌, ◌⊎◌, inl, inr}
use Rattle.charge_world.specs.declared.entry.Entry.{Entry}
use Rattle.charge_world.specs.declared.ports.Order.{Order}
use Rattle.charge_world.specs.declared.ports.Order.TheVariants as order
use Rattle.session_words.specs.declared.cause.EndCause.{EndCause}
use Rattle.session_words.specs.declared.plan.CarPlan.{CarPlan}
use Rattle.car_rules.specs.declared.stage.CarStage.{CarStage}
use Rattle.car_rules.specs.Requests.{request_of}
use Rattle.post_spec.specs.Steps.{Event, Came, Bytes, Gone, Datagram, Plant, Clock, Over}
use Rattle.station_spec.specs.Deciding.{opening_if}
use Rattle.car_spec.specs.Acting.{failing}
use Rattle.car_spec.specs.Answered.{Exchange}
use Rattle.car_spec.specs.Codecs.{Codecs}
use Rattle.car_spec.specs.Past.{stream, said, IsChosen, IsAsked}
use Rattle.car_spec.specs.Spelled.{read_back}
use Rattle.car_spec.specs.States.{Agenda, Part, Unheard, Timing, Eventing, Wording, Session, State, first_of, is_none, is_done}
use Rattle.car_spec.specs.Steps.{Spoken, Offer, Asked}
use Rattle.safe_runs.proofs.Growth.{AreWhole}
use Rattle.car_closings.proofs.Growth.{GoesOnTo, asked_stays, chosen_stays}
use Rattle.car_closings.proofs.Exchanged.{AreExchanged, exchanged_stay}

-- a connection opened the session in this hearing, which isn't judged yet
abbrev pub is_early : Part → Bool
is_early Unheard = false
is_early Timing = true
is_early Eventing = true
is_early Wording = false

abbrev pub is_new : Event → Bool → Bool
is_new (Came token) stood = not stood
is_new (Bytes bytes) stood = false
is_new Gone stood = false
is_new (Datagram bytes) stood = false
is_new (Plant event) stood = false
is_new Clock stood = false
is_new Over stood = false

abbrev pub is_fresh : Part → Event → Bool → Bool
is_fresh part event stood = is_early part && is_new event stood

-- n words were read. Before a dialect is chosen nothing else was said than the offer
abbrev pub StageTie : Codecs → CarPlan → List Entry → List Exchange → ℕ → Option CarStage → Type 0
StageTie c plan past xs n None = (n ≡ 0) × (xs ≡ [])
StageTie c plan past xs n (Some stage) =
    (n ≡ suc (length xs)) × IsChosen c plan.dialects.items past stage.dialect × AreExchanged c stage.dialect past xs

-- as much was said as was read, and one more where a reply is awaited: the request of the stage
abbrev pub SaidTie : Codecs → CarPlan → List Entry → ℕ → Option CarStage → Option ℕ → Type 0
SaidTie c plan past n stage None = said past ≡ n
SaidTie c plan past n None (Some at) = said past ≡ suc n
SaidTie c plan past n (Some stage) (Some at) = (said past ≡ suc n) × IsAsked c stage.dialect past n (read_back (request_of plan stage))

-- what is to be said is of the stage
abbrev pub Speaks : CarPlan → Option CarStage → Option Spoken → Type 0
Speaks plan stage None = Unit {0}
Speaks plan None (Some spoken) = spoken ≡ Offer
Speaks plan (Some stage) (Some spoken) = spoken ≡ Asked stage.dialect (request_of plan stage)

-- while a reply is awaited there is nothing to say and no order to give
pub record IsStill (again : Option ℕ) (a : Agenda) : Type 0 where
  pub not_again : again ≡ None
  pub unspoken : a.spoken ≡ None
  pub no_order : a.order ≡ None

abbrev pub Stills : Option ℕ → Agenda → Option ℕ → Type 0
Stills again a None = Unit {0}
Stills again a (Some at) = IsStill again a

pub record Link (c : Codecs) (plan : CarPlan) (past : List Entry) (xs : List Exchange) (n : ℕ) (session : Session) (a : Agenda) (fresh : Bool) : Type 0 where
  pub staged : StageTie c plan past xs n session.stage
  pub said_is : SaidTie c plan past n session.stage session.moments.sent
  pub speaks : Speaks plan session.stage a.spoken
  pub still : Stills session.again a session.moments.sent
  pub offers : session.stage ≡ None → session.moments.sent ≡ None → (a.spoken ≡ Some Offer) ⊎ (fresh ≡ true)
  pub new : fresh ≡ true → (session.moments.sent ≡ None) × (is_done a ≡ true)

-- before the session
pub record Unlinked (past : List Entry) (xs : List Exchange) (n : ℕ) (a : Agenda) : Type 0 where
  pub none_said : said past ≡ 0
  pub none_read : n ≡ 0
  pub none_exchanged : xs ≡ []
  pub unspoken : a.spoken ≡ None
  pub no_order : a.order ≡ None

-- behind a cause the contactor isn't closed
abbrev pub TieBy : Codecs → CarPlan → List Entry → List Exchange → ℕ → Bool → Agenda → Bool → Option EndCause → Option Session → Type 0
TieBy c plan past xs n over a fresh (Some cause) o = a.order ≡ Some order.Close → ⊥
TieBy c plan past xs n over a fresh None None = over ≡ false → Unlinked past xs n a
TieBy c plan past xs n over a fresh None (Some session) = Link c plan past xs n session a fresh

abbrev pub Tied : Codecs → CarPlan → List Entry → List Exchange → ℕ → State → Type 0
Tied c plan past xs n s = TieBy c plan past xs n s.over s.agenda (is_fresh s.part s.event s.stood) s.agenda.ending s.session

-- once all is decided, the offer is to be said where it wasn't yet
pub record Settled (c : Codecs) (plan : CarPlan) (past : List Entry) (xs : List Exchange) (n : ℕ) (t : State) : Type 0 where
  pub tie : TieBy c plan past xs n t.over t.agenda false t.agenda.ending t.session
  pub old : t.agenda.ending ≡ None → is_fresh t.part t.event t.stood ≡ false

-- ---- agendas

-- nothing is left of an agenda that is done
pub record IsEmpty (a : Agenda) : Type 0 where
  pub no_order : a.order ≡ None
  pub unspoken : a.spoken ≡ None
  pub no_cause : a.ending ≡ None

empty_by : (p : Option ℕ) (o : Option Order) (sp : Option Spoken) (e : Option EndCause) (seeks : Bool) → is_none (first_of p o sp e seeks) ≡ true
    → (o ≡ None) × (sp ≡ None) × (e ≡ None)
empty_by None None None None seeks h = (refl, refl, refl)
empty_by (Some port) o sp e seeks h = cc
empty_by None (Some other) sp e seeks h = cc
empty_by None None (Some said) e seeks h = cc
empty_by None None None (Some cause) seeks h = cc

pub empty : (a : Agenda) → is_done a ≡ true → IsEmpty a
empty a h = let e = empty_by a.port a.order a.spoken a.ending a.seeks h in record { no_order = e.0; unspoken = e.1; no_cause = e.2 }

pub opens_alone : (live : Bool) → opening_if live ≡ Some order.Close → ⊥
opens_alone true h = cc
opens_alone false h = cc

-- where nothing is to be said, what was offered was said
pub unoffered : (session : Session) (a : Agenda) → a.spoken ≡ None → (session.stage ≡ None → session.moments.sent ≡ None → (a.spoken ≡ Some Offer) ⊎ (false ≡ true))
    → session.stage ≡ None → session.moments.sent ≡ None → ⊥
unoffered session a u k e f = elim (k e f) [
  | inl h ↦ (let x : None ≡ Some Offer = sym u ∙ h in cc)
  | inr h ↦ (cc)
]

-- ---- what stays tied

-- as the past goes on, and less is left of the agenda
pub record Lessens (a b : Agenda) (fresh : Bool) : Type 0 where
  pub spoken_is : b.spoken ≡ a.spoken
  pub stays_no_order : a.order ≡ None → b.order ≡ None
  pub closes_alike : b.order ≡ Some order.Close → a.order ≡ Some order.Close
  pub stays_done : fresh ≡ true → is_done a ≡ true → is_done b ≡ true

pub staged_stays : (c : Codecs) (plan : CarPlan) (old new : List Entry) (xs : List Exchange) (n : ℕ) (o : Option CarStage) → GoesOnTo old new → AreWhole n (stream old)
    → StageTie c plan old xs n o → StageTie c plan new xs n o
staged_stays c plan old new xs n None g w k = k
staged_stays c plan old new xs n (Some stage) g w k =
    (k.0, chosen_stays c plan.dialects.items old new stage.dialect g k.1, exchanged_stay c stage.dialect old new xs g (subst (λ (m : ℕ). AreWhole m (stream old)) k.0 w) k.2)

pub said_stays : (c : Codecs) (plan : CarPlan) (old new : List Entry) (n : ℕ) (o : Option CarStage) (sent : Option ℕ) → GoesOnTo old new → said new ≡ said old
    → SaidTie c plan old n o sent → SaidTie c plan new n o sent
said_stays c plan old new n stage None g s k = s ∙ k
said_stays c plan old new n None (Some at) g s k = s ∙ k
said_stays c plan old new n (Some stage) (Some at) g s k = (s ∙ k.0, asked_stays c stage.dialect old new n (read_back (request_of plan stage)) g k.1)

still_stays : (again : Option ℕ) (a b : Agenda) (fresh : Bool) (sent : Option ℕ) → Lessens a b fresh → Stills again a sent → Stills again b sent
still_stays again a b fresh None l k = tt
still_stays again a b fresh (Some at) l k = record { not_again = k.not_again; unspoken = l.spoken_is ∙ k.unspoken; no_order = l.stays_no_order k.no_order }

link_stays : (c : Codecs) (plan : CarPlan) (old new : List Entry) (xs : List Exchange) (n : ℕ) (session : Session) (a b : Agenda) (fresh : Bool) → GoesOnTo old new → said new ≡ said old
    → AreWhole n (stream old) → Lessens a b fresh → Link c plan old xs n session a fresh → Link c plan new xs n session b fresh
link_stays c plan old new xs n session a b fresh g s w l k = record {
  staged = staged_stays c plan old new xs n session.stage g w k.staged;
  said_is = said_stays c plan old new n session.stage session.moments.sent g s k.said_is;
  speaks = subst (Speaks plan session.stage) (sym l.spoken_is) k.speaks;
  still = still_stays session.again a b fresh session.moments.sent l k.still;
  offers = λ e f. elim (k.offers e f) [
    | inl h ↦ inl (l.spoken_is ∙ h)
    | inr h ↦ inr h
  ];
  new = λ h. (let m = k.new h in (m.0, l.stays_done h m.1));
}

-- the frames of a session that lives are whole
abbrev pub WholeIn : ℕ → List ℕ → Option Session → Type 0
WholeIn n bytes None = Unit {0}
WholeIn n bytes (Some session) = AreWhole n bytes

pub tie_stays : (c : Codecs) (plan : CarPlan) (old new : List Entry) (xs : List Exchange) (n : ℕ) (over : Bool) (a b : Agenda) (fresh : Bool) (e : Option EndCause) (o : Option Session) → GoesOnTo old new → said new ≡ said old
    → WholeIn n (stream old) o → Lessens a b fresh → TieBy c plan old xs n over a fresh e o → TieBy c plan new xs n over b fresh e o
tie_stays c plan old new xs n over a b fresh (Some cause) o g s w l k = λ h. k (l.closes_alike h)
tie_stays c plan old new xs n over a b fresh None None g s w l k = λ v.
    let u : Unlinked old xs n a = k v in
    record { none_said = s ∙ u.none_said; none_read = u.none_read; none_exchanged = u.none_exchanged; unspoken = l.spoken_is ∙ u.unspoken; no_order = l.stays_no_order u.no_order }
tie_stays c plan old new xs n over a b fresh None (Some session) g s w l k = link_stays c plan old new xs n session a b fresh g s w l k

-- what is settled is tied
pub tie_as : (c : Codecs) (plan : CarPlan) (past : List Entry) (xs : List Exchange) (n : ℕ) (over : Bool) (a : Agenda) (fresh : Bool) (e : Option EndCause) (o : Option Session) → (e ≡ None → fresh ≡ false)
    → TieBy c plan past xs n over a false e o → TieBy c plan past xs n over a fresh e o
tie_as c plan past xs n over a fresh (Some cause) o f k = k
tie_as c plan past xs n over a fresh None o f k = subst (λ (b : Bool). TieBy c plan past xs n over a b None o) (sym (f refl)) k

-- what failed is a cause
pub failing_ties : (c : Codecs) (plan : CarPlan) (past : List Entry) (xs : List Exchange) (n : ℕ) (over fresh : Bool) (e : Option EndCause) (cause : EndCause) (live : Bool) (o : Option Session)
    → TieBy c plan past xs n over (failing e cause live) fresh (failing e cause live).ending o
failing_ties c plan past xs n over fresh None cause live o = opens_alone live
failing_ties c plan past xs n over fresh (Some ending) cause live o = λ h. (let x : None ≡ Some order.Close = h in cc)
