-- What is decided keeps the tie, and settles the offer.
use Rattle.std.proofs.Common.{◌≡◌, ℕ, Bool, true, false, not, ◌&&◌, List, Option, Some, None, Result, Ok, Err, refl, sym, ap, subst, ◌∙◌, inl, inr}
use Rattle.charge_world.specs.declared.entry.Entry.{Entry}
use Rattle.charge_world.specs.declared.heard.PlantEvent.{PlantEvent}
use Rattle.session_words.specs.declared.cause.EndCause.{EndCause}
use Rattle.session_words.specs.declared.cause.EndCause.TheVariants.{Gone as ConnectionGone}
use Rattle.session_words.specs.declared.plan.CarPlan.{CarPlan}
use Rattle.v2gtp_frames.specs.declared.FrameFault.{FrameFault}
use Rattle.v2gtp_frames.specs.Reading.{whole_at}
use Rattle.car_rules.specs.declared.searching.Search.{Search}
use Rattle.car_rules.specs.declared.stage.CarStage.{CarStage}
use Rattle.car_rules.specs.Deadlines.{hit}
use Rattle.car_rules.specs.Replies.{plant_cause}
use Rattle.car_rules.specs.Searching.{is_searching}
use Rattle.post_spec.specs.Steps.{Event, Came, Bytes, Gone, Datagram, Plant, Clock, Over}
use Rattle.car_spec.specs.Answered.{Exchange}
use Rattle.car_spec.specs.Codecs.{Codecs}
use Rattle.car_spec.specs.Deciding.{ending_if, ending_in, greeting, calling, charging, eventing, fronting_by, fronting, asking, repeating, decided}
use Rattle.car_spec.specs.Due.{all_deadlines, is_due}
use Rattle.car_spec.specs.States.{Agenda, Part, Unheard, Timing, Eventing, Wording, Session, State, nothing, is_done}
use Rattle.car_spec.specs.Steps.{Offer, Step}
use Rattle.car_laws.proofs.Decided.{IsEarly, decided_by}
use Rattle.car_laws.proofs.Kept.{IsUnchosen, Keeps}
use Rattle.car_closings.proofs.Fresh.{fresh_unchosen, offering, FreshlyDecided, freshly}
use Rattle.car_closings.proofs.Ties.{is_early, is_new, is_fresh, Speaks, Stills, Link, Unlinked, TieBy, Tied, Settled, IsEmpty, empty, opens_alone, unoffered}

bool_false : (b : Bool) → (b ≡ true → ⊥) → b ≡ false
bool_false true f = absurd (f refl)
bool_false false f = refl

-- what isn't done yet stays
old_by : (c : Codecs) (plan : CarPlan) (past : List Entry) (xs : List Exchange) (n : ℕ) (over : Bool) (a : Agenda) (fresh : Bool) (e : Option EndCause) (o : Option Session) → is_done a ≡ false
    → (fresh ≡ true → IsUnchosen o) → TieBy c plan past xs n over a fresh e o → e ≡ None → fresh ≡ false
old_by c plan past xs n over a fresh (Some cause) o d u k e = cc
old_by c plan past xs n over a fresh None None d u k e = bool_false fresh u
old_by c plan past xs n over a fresh None (Some session) d u k e = bool_false fresh (λ f. (let m = k.new f in let x : true ≡ false = sym m.1 ∙ d in cc))

tie_unfresh : (c : Codecs) (plan : CarPlan) (past : List Entry) (xs : List Exchange) (n : ℕ) (over : Bool) (a : Agenda) (fresh : Bool) (e : Option EndCause) (o : Option Session) → (e ≡ None → fresh ≡ false)
    → TieBy c plan past xs n over a fresh e o → TieBy c plan past xs n over a false e o
tie_unfresh c plan past xs n over a fresh (Some cause) o f k = k
tie_unfresh c plan past xs n over a fresh None o f k = subst (λ (b : Bool). TieBy c plan past xs n over a b None o) (f refl) k

-- an agenda that says nothing and orders nothing
still_plain : (again : Option ℕ) (a b : Agenda) (sent : Option ℕ) → b.spoken ≡ None → b.order ≡ None → Stills again a sent → Stills again b sent
still_plain again a b None u o k = tt
still_plain again a b (Some at) u o k = record { not_again = k.not_again; unspoken = u; no_order = o }

plain_ties : (c : Codecs) (plan : CarPlan) (past : List Entry) (xs : List Exchange) (n : ℕ) (over : Bool) (a b : Agenda) (o : Option Session) → a.spoken ≡ None → b.spoken ≡ None → b.order ≡ None
    → TieBy c plan past xs n over a false None o → TieBy c plan past xs n over b false None o
plain_ties c plan past xs n over a b None u v w k = λ h.
    let m : Unlinked past xs n a = k h in
    record { none_said = m.none_said; none_read = m.none_read; none_exchanged = m.none_exchanged; unspoken = v; no_order = w }
plain_ties c plan past xs n over a b (Some session) u v w k = record {
  staged = k.staged;
  said_is = k.said_is;
  speaks = subst (Speaks plan session.stage) (sym v) tt;
  still = still_plain session.again a b session.moments.sent v w k.still;
  offers = λ e f. absurd (unoffered session a u k.offers e f);
  new = λ h. (cc);
}

-- each thing that may be decided
if_ends : (c : Codecs) (plan : CarPlan) (past : List Entry) (xs : List Exchange) (n : ℕ) (over : Bool) (e : Option EndCause) (live : Bool) (o : Option Session) → TieBy c plan past xs n over nothing false None o
    → TieBy c plan past xs n over (ending_if e live) false (ending_if e live).ending o
if_ends c plan past xs n over None live o k = k
if_ends c plan past xs n over (Some cause) live o k = opens_alone live

in_ends : (c : Codecs) (plan : CarPlan) (past : List Entry) (xs : List Exchange) (n : ℕ) (over : Bool) (e : Option Session) (cause : EndCause) (live : Bool) (o : Option Session) → TieBy c plan past xs n over nothing false None o
    → TieBy c plan past xs n over (ending_in e cause live) false (ending_in e cause live).ending o
in_ends c plan past xs n over None cause live o k = k
in_ends c plan past xs n over (Some session) cause live o k = opens_alone live

greets : (c : Codecs) (plan : CarPlan) (past : List Entry) (xs : List Exchange) (n : ℕ) (over stood live : Bool) (o : Option Session) → not stood ≡ false → TieBy c plan past xs n over (greeting stood live) false (greeting stood live).ending o
greets c plan past xs n over true live o h = opens_alone live
greets c plan past xs n over false live o h = cc

calls : (c : Codecs) (plan : CarPlan) (past : List Entry) (xs : List Exchange) (n : ℕ) (over : Bool) (search : Search) (datagram : List ℕ) (o : Option Session) (b : Bool) → is_searching plan search ≡ b → TieBy c plan past xs n over nothing false None o
    → TieBy c plan past xs n over (calling plan search datagram) false (calling plan search datagram).ending o
calls c plan past xs n over search datagram o true e k = rw e (plain_ties c plan past xs n over nothing _ o refl refl refl k)
calls c plan past xs n over search datagram o false e k = rw e k

charges : (c : Codecs) (plan : CarPlan) (past : List Entry) (xs : List Exchange) (n : ℕ) (over : Bool) (e : Option Session) (event : PlantEvent) (live : Bool) (o : Option Session) → TieBy c plan past xs n over nothing false None o
    → TieBy c plan past xs n over (charging e event live) false (charging e event live).ending o
charges c plan past xs n over None event live o k = k
charges c plan past xs n over (Some session) event live o k = if_ends c plan past xs n over (plant_cause event) live o k

events : (c : Codecs) (plan : CarPlan) (past : List Entry) (xs : List Exchange) (n : ℕ) (e : Event) (s : State) → is_new e s.stood ≡ false → TieBy c plan past xs n s.over nothing false None s.session
    → TieBy c plan past xs n s.over (eventing plan e s) false (eventing plan e s).ending s.session
events c plan past xs n (Came token) s h k = greets c plan past xs n s.over s.stood s.live s.session h
events c plan past xs n (Bytes bytes) s h k = k
events c plan past xs n Gone s h k = in_ends c plan past xs n s.over s.session ConnectionGone s.live s.session k
events c plan past xs n (Datagram bytes) s h k = calls c plan past xs n s.over s.search bytes s.session _ refl k
events c plan past xs n (Plant event) s h k = charges c plan past xs n s.over s.session event s.live s.session k
events c plan past xs n Clock s h k = k
events c plan past xs n Over s h k = opens_alone s.live

front_ties : (c : Codecs) (plan : CarPlan) (past : List Entry) (xs : List Exchange) (n : ℕ) (over : Bool) (r : Result (Option ℕ) FrameFault) (live : Bool) (o : Option Session) → TieBy c plan past xs n over nothing false None o
    → TieBy c plan past xs n over (fronting_by r live) false (fronting_by r live).ending o
front_ties c plan past xs n over (Err fault) live o k = opens_alone live
front_ties c plan past xs n over (Ok count) live o k = k

fronts_tie : (c : Codecs) (plan : CarPlan) (past : List Entry) (xs : List Exchange) (n : ℕ) (over : Bool) (e : Option Session) (live : Bool) (o : Option Session) → TieBy c plan past xs n over nothing false None o
    → TieBy c plan past xs n over (fronting e live) false (fronting e live).ending o
fronts_tie c plan past xs n over None live o k = k
fronts_tie c plan past xs n over (Some session) live o k = front_ties c plan past xs n over (whole_at session.unread) live o k

-- a request that is due once more
asks_again : (plan : CarPlan) (o : Option CarStage) → Speaks plan o (asking plan o)
asks_again plan None = tt
asks_again plan (Some stage) = refl

still_again : (again : Option ℕ) (a : Agenda) (sent : Option ℕ) (now : ℕ) → is_due again now ≡ true → Stills again nothing sent → Stills again a sent
still_again again a None now d k = tt
still_again again a (Some at) now d k =
    let n : again ≡ None = k.not_again in
    let x : false ≡ true = sym (ap (λ (y : Option ℕ). is_due y now) n) ∙ d in cc

repeat_ties : (c : Codecs) (plan : CarPlan) (past : List Entry) (xs : List Exchange) (n : ℕ) (over : Bool) (session : Session) (now : ℕ) (b : Bool) → is_due session.again now ≡ b → Link c plan past xs n session nothing false
    → TieBy c plan past xs n over (repeating plan (Some session) now) false (repeating plan (Some session) now).ending (Some session)
repeat_ties c plan past xs n over session now true e k = rw e (record {
  staged = k.staged;
  said_is = k.said_is;
  speaks = asks_again plan session.stage;
  still = still_again session.again _ session.moments.sent now e k.still;
  offers = λ f g. absurd (unoffered session nothing refl k.offers f g);
  new = λ h. (cc);
})
repeat_ties c plan past xs n over session now false e k = rw e k

repeats_tie : (c : Codecs) (plan : CarPlan) (past : List Entry) (xs : List Exchange) (n : ℕ) (over : Bool) (now : ℕ) (o : Option Session) → TieBy c plan past xs n over nothing false None o
    → TieBy c plan past xs n over (repeating plan o now) false (repeating plan o now).ending o
repeats_tie c plan past xs n over now None k = k
repeats_tie c plan past xs n over now (Some session) k = repeat_ties c plan past xs n over session now _ refl k

-- where nothing is left, and the session is not of this hearing
early_new : (part : Part) (b : Bool) → IsEarly part → (is_early part && b) ≡ false → b ≡ false
early_new Unheard b e h = absurd e
early_new Timing b e h = h
early_new Eventing b e h = h
early_new Wording b e h = absurd e

later_settles : (c : Codecs) (plan : CarPlan) (past : List Entry) (xs : List Exchange) (n : ℕ) (s : State) → is_fresh s.part s.event s.stood ≡ false → IsEmpty s.agenda → Tied c plan past xs n s → Settled c plan past xs n (decided plan s)
later_settles c plan past xs n s f m k =
    let own : TieBy c plan past xs n s.over s.agenda false s.agenda.ending s.session = tie_unfresh c plan past xs n s.over s.agenda _ s.agenda.ending s.session (λ e. f) k in
    let bare : TieBy c plan past xs n s.over nothing false None s.session = plain_ties c plan past xs n s.over s.agenda nothing s.session m.unspoken refl refl
    (subst (λ (e : Option EndCause). TieBy c plan past xs n s.over s.agenda false e s.session) m.no_cause own) in
    decided_by (Settled c plan past xs n) plan s
    (λ d. record {
      times = λ early. record { tie = if_ends c plan past xs n s.over (hit (all_deadlines plan s) s.clock) s.live s.session bare; old = λ e. early_new s.part _ early f };
      events = λ early. record { tie = events c plan past xs n s.event s (early_new s.part _ early f) bare; old = λ e. refl };
      fronts = record { tie = fronts_tie c plan past xs n s.over s.session s.live s.session bare; old = λ e. refl };
      repeats = record { tie = repeats_tie c plan past xs n s.over s.clock s.session bare; old = λ e. refl };
      seeks = record { tie = plain_ties c plan past xs n s.over nothing _ s.session refl refl refl bare; old = λ e. refl };
    })
    (record { tie = own; old = λ e. f })

-- where it is
none_sent : (c : Codecs) (plan : CarPlan) (past : List Entry) (xs : List Exchange) (n : ℕ) (session : Session) (a : Agenda) → session.stage ≡ None → Link c plan past xs n session a true → Link c plan past xs n session offering false
none_sent c plan past xs n session a u k =
    let sent = k.new refl in
    record {
      staged = k.staged;
      said_is = k.said_is;
      speaks = subst (λ (o : Option CarStage). Speaks plan o (Some Offer)) (sym u) refl;
      still = subst (Stills session.again offering) (sym sent.0) tt;
      offers = λ e f. inl refl;
      new = λ h. (cc);
    }

offers_tie : (c : Codecs) (plan : CarPlan) (past : List Entry) (xs : List Exchange) (n : ℕ) (over : Bool) (a : Agenda) (o : Option Session) → IsUnchosen o → TieBy c plan past xs n over a true None o
    → TieBy c plan past xs n over offering false None o
offers_tie c plan past xs n over a None u k = absurd u
offers_tie c plan past xs n over a (Some session) u k = none_sent c plan past xs n session a u k

fresh_settles : (c : Codecs) (plan : CarPlan) (past : List Entry) (xs : List Exchange) (n : ℕ) (s t : State) → TieBy c plan past xs n s.over s.agenda true None s.session → IsUnchosen s.session → FreshlyDecided s t
    → Settled c plan past xs n t
fresh_settles c plan past xs n s t k u f = subst (Settled c plan past xs n) (sym f.is) (elim f.how [
  | inl h ↦ subst (λ (a : Agenda). Settled c plan past xs n (record s { agenda = a; part = f.part })) (sym h.1) (record { tie = opens_alone s.live; old = λ e. (cc) })
  | inr h ↦ subst (λ (p : Part). Settled c plan past xs n (record s { agenda = f.agenda; part = p })) (sym h.1)
      (subst (λ (a : Agenda). Settled c plan past xs n (record s { agenda = a; part = Wording })) (sym h.0)
      (record { tie = offers_tie c plan past xs n s.over s.agenda s.session u k; old = λ e. refl }))
])

done_settles : (c : Codecs) (plan : CarPlan) (past : List Entry) (xs : List Exchange) (n : ℕ) (steps : List Step) (s : State) (fresh : Bool) → is_fresh s.part s.event s.stood ≡ fresh → s.over ≡ false → is_done s.agenda ≡ true
    → Keeps plan steps s → Tied c plan past xs n s → Settled c plan past xs n (decided plan s)
done_settles c plan past xs n steps s true f v d g k =
    let m : IsEmpty s.agenda = empty s.agenda d in
    let own : TieBy c plan past xs n s.over s.agenda true s.agenda.ending s.session = subst (λ (b : Bool). TieBy c plan past xs n s.over s.agenda b s.agenda.ending s.session) f k in
    fresh_settles c plan past xs n s (decided plan s) (subst (λ (e : Option EndCause). TieBy c plan past xs n s.over s.agenda true e s.session) m.no_cause own)
    (fresh_unchosen s.part s.event s.stood s.session g.fresh f) (freshly plan s d v f)
done_settles c plan past xs n steps s false f v d g k = later_settles c plan past xs n s f (empty s.agenda d) k

settles_by : (c : Codecs) (plan : CarPlan) (past : List Entry) (xs : List Exchange) (n : ℕ) (steps : List Step) (s : State) (b : Bool) → is_done s.agenda ≡ b → s.over ≡ false → Keeps plan steps s → Tied c plan past xs n s
    → Settled c plan past xs n (decided plan s)
settles_by c plan past xs n steps s true d v g k = done_settles c plan past xs n steps s _ refl v d g k
settles_by c plan past xs n steps s false d v g k =
    let o : s.agenda.ending ≡ None → is_fresh s.part s.event s.stood ≡ false =
    old_by c plan past xs n s.over s.agenda _ s.agenda.ending s.session d (λ f. fresh_unchosen s.part s.event s.stood s.session g.fresh f) k in
    let same : decided plan s ≡ s = rw d refl in
    subst (Settled c plan past xs n) (sym same) (record { tie = tie_unfresh c plan past xs n s.over s.agenda _ s.agenda.ending s.session o k; old = o })

pub decided_settles : (c : Codecs) (plan : CarPlan) (past : List Entry) (xs : List Exchange) (n : ℕ) (steps : List Step) (s : State) → s.over ≡ false → Keeps plan steps s → Tied c plan past xs n s
    → Settled c plan past xs n (decided plan s)
decided_settles c plan past xs n steps s v g k = settles_by c plan past xs n steps s _ refl v g k
