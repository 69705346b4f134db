-- One entry more.
use Rattle.std.proofs.Common.{◌≡◌, ℕ, ◌==◌, Bool, true, false, if◌then◌else◌, List, [], ◌∷◌, Option, Some, None, refl, sym, ap, ◌∙◌}
use Rattle.std.specs.Prelude.{◌&&◌, ◌||◌, not}
use Rattle.charge_world.specs.declared.entry.Entry.{Entry}
use Rattle.charge_world.specs.declared.entry.Entry.TheVariants as entry
use Rattle.charge_world.specs.declared.heard.What.{What}
use Rattle.charge_world.specs.declared.heard.What.TheVariants as what
use Rattle.charge_world.specs.declared.ports.Order.{Order}
use Rattle.charge_world.specs.declared.ports.Order.TheVariants as order
use Rattle.session_words.specs.declared.phase.Standing.{Standing}
use Rattle.contactor.specs.Calls.{standing_heard}
use Rattle.contactor.specs.Standing.{last_order, feedback_since}
use Rattle.contactor.proofs.CallsLemmas.{heard_more}
use Rattle.post_spec.specs.Contactors.{contactor_acts, feedback_in}
use Rattle.post_spec.specs.Facts.{told_by}
use Rattle.post_spec.specs.Steps.{Event, Bytes, Datagram, Clock, Act, Give, Send, Answer, End, Seen, Heard, Did, event_at}
use Rattle.told_pasts.specs.Checks.{is_open}
use Rattle.audit_contactors.specs.declared.values.ContactorValues.{ContactorValues}
use Rattle.audit_contactors.specs.Changes.{heard_by, driven, feedback_at, behind}
use Rattle.audit_contactors.specs.Values.{Keeps, AreOf}

-- ---- of one post

heard_one : (o : Option Bool) (at : ℕ) (event : Event) (now before : List Seen) (acted ends : Bool) (v : ContactorValues) → told_by feedback_in event ≡ o
    → Keeps now before acted ends v → Keeps (Heard at event ∷ now) now false false (heard_by o v)
heard_one None at event now before acted ends v is h = record {
  stands = rw is h.stands;
  live_is = rw is h.live_is;
  closed_is = rw is h.closed_is;
  in_vain = rw is h.in_vain;
  stood_is = h.stands;
  acted_is = refl;
  ends_is = refl;
}
heard_one (Some closed) at event now before acted ends v is h = record {
  stands = rw is (ap (λ (s : Standing). standing_heard s closed) h.stands
      ∙ sym (heard_more (last_order (contactor_acts now)) (feedback_since (contactor_acts now)) closed));
  live_is = rw is h.live_is;
  closed_is = rw is h.closed_is;
  in_vain = rw is h.in_vain;
  stood_is = h.stands;
  acted_is = refl;
  ends_is = refl;
}

drove_one : (given : Order) (taken : Bool) (now before : List Seen) (acted ends : Bool) (v : ContactorValues) → Keeps now before acted ends v
    → Keeps (Did (Give given) taken ∷ now) before true (is_open given || ends) (driven given taken v)
drove_one order.Open true now before acted ends v h =
    record { stands = refl; live_is = refl; closed_is = refl; in_vain = h.in_vain; stood_is = h.stood_is; acted_is = refl; ends_is = refl }
drove_one order.Open false now before acted ends v h =
    record { stands = refl; live_is = h.live_is; closed_is = h.closed_is; in_vain = refl; stood_is = h.stood_is; acted_is = refl; ends_is = refl }
drove_one order.Close true now before acted ends v h =
    record { stands = refl; live_is = refl; closed_is = refl; in_vain = refl; stood_is = h.stood_is; acted_is = refl; ends_is = h.ends_is }
drove_one order.Close false now before acted ends v h =
    record { stands = refl; live_is = refl; closed_is = h.closed_is; in_vain = h.in_vain; stood_is = h.stood_is; acted_is = refl; ends_is = h.ends_is }
drove_one (order.Limits voltage current watts) taken now before acted ends v h =
    record { stands = h.stands; live_is = h.live_is; closed_is = h.closed_is; in_vain = h.in_vain; stood_is = h.stood_is; acted_is = refl; ends_is = h.ends_is }

-- ---- of an act of this post, or of another one

drove : (mine : Bool) (given : Order) (taken : Bool) (now before : List Seen) (acted ends : Bool) (v : ContactorValues) → Keeps now before acted ends v
    → Keeps (if mine then Did (Give given) taken ∷ now else now) before (mine || acted) ((mine && is_open given) || ends) (if mine then driven given taken v else v)
drove true given taken now before acted ends v h = drove_one given taken now before acted ends v h
drove false given taken now before acted ends v h = h

sent : (mine : Bool) (bytes : List ℕ) (taken : Bool) (now before : List Seen) (acted ends : Bool) (v : ContactorValues) → Keeps now before acted ends v
    → Keeps (if mine then Did (Send bytes) taken ∷ now else now) before (mine || acted) ends (if mine then record v { acted = true } else v)
sent true bytes taken now before acted ends v h =
    record { stands = h.stands; live_is = h.live_is; closed_is = h.closed_is; in_vain = h.in_vain; stood_is = h.stood_is; acted_is = refl; ends_is = h.ends_is }
sent false bytes taken now before acted ends v h = h

answered : (mine : Bool) (bytes : List ℕ) (taken : Bool) (now before : List Seen) (acted ends : Bool) (v : ContactorValues) → Keeps now before acted ends v
    → Keeps (if mine then Did (Answer bytes) taken ∷ now else now) before (mine || acted) ends (if mine then record v { acted = true } else v)
answered true bytes taken now before acted ends v h =
    record { stands = h.stands; live_is = h.live_is; closed_is = h.closed_is; in_vain = h.in_vain; stood_is = h.stood_is; acted_is = refl; ends_is = h.ends_is }
answered false bytes taken now before acted ends v h = h

ended : (mine : Bool) (cause : ℕ) (now before : List Seen) (acted ends : Bool) (v : ContactorValues) → Keeps now before acted ends v
    → Keeps (if mine then Did (End cause) true ∷ now else now) before (mine || acted) (not mine && ends) (if mine then record v { acted = true; ends_opened = false } else v)
ended true cause now before acted ends v h =
    record { stands = h.stands; live_is = h.live_is; closed_is = h.closed_is; in_vain = h.in_vain; stood_is = h.stood_is; acted_is = refl; ends_is = refl }
ended false cause now before acted ends v h = h

-- the bytes of a hearing are no feedback
piece : (mine : Bool) (bytes : List ℕ) → told_by feedback_in (if mine then Bytes bytes else Clock) ≡ told_by feedback_in (if mine then Bytes [] else Clock)
piece true bytes = refl
piece false bytes = refl

datagram : (mine : Bool) (bytes : List ℕ) → told_by feedback_in (if mine then Datagram bytes else Clock) ≡ told_by feedback_in (if mine then Datagram [] else Clock)
datagram true bytes = refl
datagram false bytes = refl

no_bytes : (k : ℕ) (what : What) (bytes : List ℕ) → told_by feedback_in (event_at k what bytes) ≡ feedback_at k what
no_bytes k (what.Came post token) bytes = refl
no_bytes k (what.Bytes post n) bytes = piece (post == k) bytes
no_bytes k (what.Gone post) bytes = refl
no_bytes k (what.Datagram post n) bytes = datagram (post == k) bytes
no_bytes k (what.Plant post event) bytes = refl
no_bytes k what.Tick bytes = refl
no_bytes k what.Over bytes = refl

pub told : (k : ℕ) (e : Entry) (past : List Entry) (v : ContactorValues) → AreOf k past v → AreOf k (e ∷ past) (behind k e v)
told k (entry.Heard heard bytes) past v h = heard_one (feedback_at k heard.what) _ (event_at k heard.what bytes) _ _ _ _ v (no_bytes k heard.what bytes) h
told k entry.Lost past v h =
    record { stands = h.stands; live_is = h.live_is; closed_is = h.closed_is; in_vain = h.in_vain; stood_is = h.stood_is; acted_is = h.acted_is; ends_is = refl }
told k (entry.Sent post bytes taken) past v h = sent (post == k) bytes taken _ _ _ _ v h
told k (entry.Answered post bytes taken) past v h = answered (post == k) bytes taken _ _ _ _ v h
told k (entry.Drove post given taken) past v h = drove (post == k) given taken _ _ _ _ v h
told k (entry.Dialed port taken) past v h = h
told k (entry.Ended post cause) past v h = ended (post == k) cause _ _ _ _ v h
