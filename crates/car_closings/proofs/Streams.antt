-- What a car has unread is what stands behind the words that it read.
use Rattle.std.proofs.Common.{◌≡◌, ℕ, suc, Bool, true, false, if◌then◌else◌, List, [], ◌∷◌, ◌++◌, Option, Some, None, Result, Ok, Err, refl, sym, ap, subst, ◌∙◌}
use Rattle.std.specs.Option.{option_map}
use Rattle.charge_world.specs.declared.entry.Entry.{Entry}
use Rattle.charge_world.specs.declared.heard.What.{What}
use Rattle.charge_world.specs.declared.offer.Dialect.{Dialect}
use Rattle.charge_world.specs.Outside.{IsOfPosts}
use Rattle.session_words.specs.declared.cause.EndCause.{EndCause}
use Rattle.session_words.specs.declared.plan.CarPlan.{CarPlan}
use Rattle.session_words.specs.declared.word.Reply.{Reply}
use Rattle.v2gtp_frames.specs.declared.FrameFault.{FrameFault}
use Rattle.v2gtp_frames.specs.Reading.{whole_at, payload_at, behind_front, behind_frames}
use Rattle.car_rules.specs.declared.stage.CarStage.{CarStage}
use Rattle.car_rules.specs.Moves.{is_again, stage_behind}
use Rattle.car_rules.specs.Replies.{reply_cause}
use Rattle.post_spec.specs.Sessions.{brought}
use Rattle.post_spec.specs.Steps.{Event, Came, Bytes, Gone, Datagram, Plant, Clock, Over, event_at}
use Rattle.post_spec.specs.Words.{IsPayloadAt}
use Rattle.car_spec.specs.Acting.{awaiting, acted, state}
use Rattle.car_spec.specs.Codecs.{Judged, Chosen, Told, WrongSide, Refused, Codecs, Judges}
use Rattle.car_spec.specs.Deciding.{decided}
use Rattle.car_spec.specs.Hearing.{session_heard}
use Rattle.car_spec.specs.Judging.{dialect_of, payload_by, payload_in, wanted, chosen, moved, replied, replied_by, judged, judged_in, read, IsRead}
use Rattle.car_spec.specs.Past.{came, stream}
use Rattle.car_spec.specs.Runs.{IsRun, IsHeard}
use Rattle.car_spec.specs.States.{Session, State, is_done}
use Rattle.car_spec.specs.Steps.{Act, Seek, Dial, Give, Say, End, Step, Hears, Loses, Reads, Does, entry_of}
use Rattle.safe_runs.proofs.Growth.{AreWhole, grown}
use Rattle.car_laws.proofs.Decided.{planned, same_over}
use Rattle.car_laws.proofs.Silent.{before_step}
use Rattle.car_closings.specs.Reading.{words_read, RunsReadInOrder}
use Rattle.car_closings.proofs.Heard.{IsCame, heard_as, came_stays, stream_heard, StillNone, still_none, Arrived, arrives}

-- of a session that lives, off what came for it: n words were read
pub record IsStream (arrived : Bool) (bytes : List ℕ) (n : ℕ) (unread : List ℕ) : Type 0 where
  pub came_is : arrived ≡ true
  pub whole : AreWhole n bytes
  pub unread_is : unread ≡ behind_frames n bytes

-- before it
pub record IsUnopened (arrived : Bool) (bytes : List ℕ) (n : ℕ) : Type 0 where
  pub none : StillNone arrived bytes
  pub none_read : n ≡ 0

abbrev pub Streams : Bool → List ℕ → ℕ → Bool → Option Session → Type 0
Streams arrived bytes n over None = over ≡ false → IsUnopened arrived bytes n
Streams arrived bytes n over (Some session) = IsStream arrived bytes n session.unread

pub same_session : (plan : CarPlan) (s : State) → (decided plan s).session ≡ s.session
same_session plan s = let p = planned plan s in ap (λ (t : State). t.session) p.is

-- a hearing
first_stream : (arrived : Bool) (bytes : List ℕ) (n : ℕ) → Arrived arrived bytes → n ≡ 0 → IsStream arrived bytes n []
first_stream arrived bytes n a z = record {
  came_is = a.came_is;
  whole = subst (λ (m : ℕ). AreWhole m bytes) (sym z) tt;
  unread_is = sym (ap (λ (m : ℕ). behind_frames m bytes) z ∙ a.no_stream);
}

heard_none : (at : ℕ) (w : What) (bytes : List ℕ) (past : List Entry) (n now : ℕ) (over : Bool) (e : Event) → e ≡ event_at 1 w bytes → IsOfPosts 1 w
    → IsUnopened (came past) (stream past) n → Streams (came (heard_as at w bytes ∷ past)) (stream (heard_as at w bytes ∷ past)) n over (session_heard e now None)
heard_none at w bytes past n now over (Came token) i o k = first_stream _ _ n (arrives at w bytes past o (subst IsCame i tt) k.none) k.none_read
heard_none at w bytes past n now over (Bytes b) i o k = λ v. record { none = still_none at w bytes past o (λ c. subst IsCame (sym i) c) k.none; none_read = k.none_read }
heard_none at w bytes past n now over Gone i o k = λ v. record { none = still_none at w bytes past o (λ c. subst IsCame (sym i) c) k.none; none_read = k.none_read }
heard_none at w bytes past n now over (Datagram b) i o k = λ v. record { none = still_none at w bytes past o (λ c. subst IsCame (sym i) c) k.none; none_read = k.none_read }
heard_none at w bytes past n now over (Plant b) i o k = λ v. record { none = still_none at w bytes past o (λ c. subst IsCame (sym i) c) k.none; none_read = k.none_read }
heard_none at w bytes past n now over Clock i o k = λ v. record { none = still_none at w bytes past o (λ c. subst IsCame (sym i) c) k.none; none_read = k.none_read }
heard_none at w bytes past n now over Over i o k = λ v. record { none = still_none at w bytes past o (λ c. subst IsCame (sym i) c) k.none; none_read = k.none_read }

heard_some : (at : ℕ) (w : What) (bytes : List ℕ) (past : List Entry) (n : ℕ) (unread : List ℕ) → IsOfPosts 1 w → IsStream (came past) (stream past) n unread
    → IsStream (came (heard_as at w bytes ∷ past)) (stream (heard_as at w bytes ∷ past)) n (unread ++ brought (event_at 1 w bytes))
heard_some at w bytes past n unread o k =
    let more : List ℕ = brought (event_at 1 w bytes) in
    let s : stream (heard_as at w bytes ∷ past) ≡ stream past ++ more = stream_heard at w bytes past o k.came_is in
    let g = grown n (stream past) more k.whole in
    record {
      came_is = came_stays at w bytes past k.came_is;
      whole = subst (AreWhole n) (sym s) g.whole;
      unread_is = ap (λ (u : List ℕ). u ++ more) k.unread_is ∙ sym g.behind ∙ ap (behind_frames n) (sym s);
    }

heard_streams : (at : ℕ) (w : What) (bytes : List ℕ) (past : List Entry) (n now : ℕ) (over : Bool) (e : Event) (o : Option Session) → e ≡ event_at 1 w bytes → IsOfPosts 1 w → over ≡ false
    → Streams (came past) (stream past) n over o → Streams (came (heard_as at w bytes ∷ past)) (stream (heard_as at w bytes ∷ past)) n over (session_heard e now o)
heard_streams at w bytes past n now over e None i p v k = heard_none at w bytes past n now over e i p (k v)
heard_streams at w bytes past n now over e (Some session) i p v k =
    subst (λ (x : Event). IsStream (came (heard_as at w bytes ∷ past)) (stream (heard_as at w bytes ∷ past)) n (session.unread ++ brought x)) (sym i) (heard_some at w bytes past n session.unread p k)

-- a word: whatever it leads to, its frame is passed
pub record Passes (session : Session) (s : State) : Type 0 where
  pub behind : Session
  pub session_is : s.session ≡ Some behind
  pub unread_is : behind.unread ≡ behind_front session.unread

chosen_passes : (plan : CarPlan) (s : State) (session : Session) (d : Option Dialect) → Passes session (chosen plan s session d)
chosen_passes plan s session None = record { behind = _; session_is = refl; unread_is = refl }
chosen_passes plan s session (Some d) = record { behind = _; session_is = refl; unread_is = refl }

moved_passes : (plan : CarPlan) (s : State) (session : Session) (from : CarStage) (r : Reply) (to : CarStage) (b : Bool) → is_again from.phase to.phase ≡ b → Passes session (moved plan s session from r to)
moved_passes plan s session from r to true e = rw e (record { behind = _; session_is = refl; unread_is = refl })
moved_passes plan s session from r to false e = rw e (record { behind = _; session_is = refl; unread_is = refl })

replied_passes : (o : Option EndCause) (plan : CarPlan) (s : State) (session : Session) (stage : CarStage) (r : Reply) → Passes session (replied_by o plan s session stage r)
replied_passes (Some cause) plan s session stage r = record { behind = _; session_is = refl; unread_is = refl }
replied_passes None plan s session stage r = moved_passes plan s session stage r (stage_behind plan stage r session.stop) _ refl

told_passes : (plan : CarPlan) (s : State) (session : Session) (o : Option CarStage) (r : Reply) → Passes session (replied plan s session o r)
told_passes plan s session None r = record { behind = _; session_is = refl; unread_is = refl }
told_passes plan s session (Some stage) r = replied_passes (reply_cause plan stage _ r) plan s session stage r

judged_passes : (plan : CarPlan) (s : State) (session : Session) (w : Judged) → Passes session (judged plan s session w)
judged_passes plan s session (Chosen d) = chosen_passes plan s session d
judged_passes plan s session (Told r) = told_passes plan s session session.stage r
judged_passes plan s session WrongSide = record { behind = _; session_is = refl; unread_is = refl }
judged_passes plan s session Refused = record { behind = _; session_is = refl; unread_is = refl }

-- a word that is read is a whole frame at the front of a session
pub record ReadsFront (c : Codecs) (plan : CarPlan) (t : State) (w : Judged) : Type 0 where
  pub session : Session
  pub session_is : t.session ≡ Some session
  pub count : ℕ
  pub whole : whole_at session.unread ≡ Ok (Some count)
  pub judged : Judges c plan.dialects.items (dialect_of session.stage) (payload_at count session.unread) w
  pub done : is_done t.agenda ≡ true

front_read : (c : Codecs) (plan : CarPlan) (t : State) (session : Session) (w : Judged) (r : Result (Option ℕ) FrameFault) → whole_at session.unread ≡ r → t.session ≡ Some session → is_done t.agenda ≡ true
    → IsRead c plan (payload_by r session) w → ReadsFront c plan t w
front_read c plan t session w (Err fault) e s d j = absurd j
front_read c plan t session w (Ok None) e s d j = absurd j
front_read c plan t session w (Ok (Some n)) e s d j = record { session = session; session_is = s; count = n; whole = e; judged = j; done = d }

session_read : (c : Codecs) (plan : CarPlan) (t : State) (w : Judged) (o : Option Session) → t.session ≡ o → is_done t.agenda ≡ true → IsRead c plan (payload_in o) w → ReadsFront c plan t w
session_read c plan t w None e d j = absurd j
session_read c plan t w (Some session) e d j = front_read c plan t session w (whole_at session.unread) refl e d j

done_read : (c : Codecs) (plan : CarPlan) (t : State) (w : Judged) (b : Bool) → is_done t.agenda ≡ b → IsRead c plan (if b then payload_in t.session else None) w → ReadsFront c plan t w
done_read c plan t w true e j = session_read c plan t w t.session refl e j
done_read c plan t w false e j = absurd j

pub reads_front : (c : Codecs) (plan : CarPlan) (t : State) (w : Judged) → IsRead c plan (wanted t) w → ReadsFront c plan t w
reads_front c plan t w j = done_read c plan t w (is_done t.agenda) refl j

pub session_judged : (plan : CarPlan) (t : State) (session : Session) (w : Judged) → t.session ≡ Some session → read plan t w ≡ judged plan t session w
session_judged plan t session w e = ap (λ (o : Option Session). judged_in plan t o w) e

-- its payload is the next of the stream
pub next_payload : (bytes unread : List ℕ) (n count : ℕ) → unread ≡ behind_frames n bytes → whole_at unread ≡ Ok (Some count) → IsPayloadAt bytes n (payload_at count unread)
next_payload bytes unread n count u w = record {
  count = count;
  whole = ap whole_at (sym u) ∙ w;
  payload_is = ap (payload_at count) u;
}

read_stream : (arrived : Bool) (bytes : List ℕ) (n count : ℕ) (session : Session) (s : State) → whole_at session.unread ≡ Ok (Some count) → Passes session s → IsStream arrived bytes n session.unread
    → Streams arrived bytes (suc n) s.over s.session
read_stream arrived bytes n count session s w p k = subst (λ (o : Option Session). Streams arrived bytes (suc n) s.over o) (sym p.session_is) (record {
  came_is = k.came_is;
  whole = (k.whole, (count, ap whole_at (sym k.unread_is) ∙ w));
  unread_is = p.unread_is ∙ ap behind_front k.unread_is;
})

read_streams : (c : Codecs) (plan : CarPlan) (arrived : Bool) (bytes : List ℕ) (n : ℕ) (t : State) (w : Judged) → ReadsFront c plan t w → Streams arrived bytes n t.over t.session
    → Streams arrived bytes (suc n) (read plan t w).over (read plan t w).session
read_streams c plan arrived bytes n t w f k =
    let s = session_judged plan t f.session w f.session_is in
    subst (λ (x : State). Streams arrived bytes (suc n) x.over x.session) (sym s)
    (read_stream arrived bytes n f.count f.session (judged plan t f.session w) f.whole (judged_passes plan t f.session w)
    (subst (λ (o : Option Session). Streams arrived bytes n t.over o) f.session_is k))

-- an act
awaited_streams : (arrived : Bool) (bytes : List ℕ) (n : ℕ) (over : Bool) (at : ℕ) (o : Option Session) → Streams arrived bytes n over o → Streams arrived bytes n over (option_map (awaiting at) o)
awaited_streams arrived bytes n over at None k = k
awaited_streams arrived bytes n over at (Some session) k = record { came_is = k.came_is; whole = k.whole; unread_is = k.unread_is }

acted_streams : (past : List Entry) (n : ℕ) (a : Act) (taken : Bool) (t : State) → Streams (came past) (stream past) n t.over t.session
    → Streams (came (entry_of a taken ∷ past)) (stream (entry_of a taken ∷ past)) n (acted a taken t).over (acted a taken t).session
acted_streams past n (Seek d) taken t k = k
acted_streams past n (Dial port) true t k = k
acted_streams past n (Dial port) false t k = k
acted_streams past n (Give o) true t k = k
acted_streams past n (Give o) false t k = k
acted_streams past n (Say said bytes) true t k = awaited_streams (came past) (stream past) n t.over t.clock t.session k
acted_streams past n (Say said bytes) false t k = k
acted_streams past n (End cause) taken t k = λ h. (let x : true ≡ false = h in cc)

decided_streams : (plan : CarPlan) (arrived : Bool) (bytes : List ℕ) (n : ℕ) (s : State) → Streams arrived bytes n s.over s.session → Streams arrived bytes n (decided plan s).over (decided plan s).session
decided_streams plan arrived bytes n s k =
    subst (λ (v : Bool). Streams arrived bytes n v (decided plan s).session) (sym (same_over plan s))
    (subst (λ (o : Option Session). Streams arrived bytes n s.over o) (sym (same_session plan s)) k)

pub run_streams : (c : Codecs) (plan : CarPlan) (past : List Entry) (steps : List Step) → IsRun c plan past steps
    → Streams (came past) (stream past) (words_read steps) (state plan steps).over (state plan steps).session
run_streams c plan past [] r = subst (λ (p : List Entry). Streams (came p) (stream p) 0 false None) (sym r) (λ v. record { none = record { not_came = refl; no_stream = refl }; none_read = refl })
run_streams c plan past (Hears at e ∷ steps) r =
    let s : State = state plan steps in
    let h : IsHeard r.0 past at e = r.3 in
    subst (λ (p : List Entry). Streams (came p) (stream p) (words_read steps) s.over (session_heard e at s.session)) (sym h.past_is)
    (heard_streams h.heard.at h.heard.what h.bytes r.0 (words_read steps) at s.over e s.session h.event_is h.of_car (before_step c plan past (Hears at e) steps r) (run_streams c plan r.0 steps r.1))
run_streams c plan past (Loses ∷ steps) r =
    let s : State = state plan steps in
    subst (λ (p : List Entry). Streams (came p) (stream p) (words_read steps) s.over s.session) (sym r.3) (run_streams c plan r.0 steps r.1)
run_streams c plan past (Reads w ∷ steps) r =
    let t : State = decided plan (state plan steps) in
    read_streams c plan (came past) (stream past) (words_read steps) t w (reads_front c plan t w r.1)
    (decided_streams plan (came past) (stream past) (words_read steps) (state plan steps) (run_streams c plan past steps r.0))
run_streams c plan past (Does a taken ∷ steps) r =
    let t : State = decided plan (state plan steps) in
    subst (λ (p : List Entry). Streams (came p) (stream p) (words_read steps) (acted a taken t).over (acted a taken t).session) (sym r.3)
    (acted_streams r.0 (words_read steps) a taken t
    (decided_streams plan (came r.0) (stream r.0) (words_read steps) (state plan steps) (run_streams c plan r.0 steps r.1)))

pub decided_run_streams : (c : Codecs) (plan : CarPlan) (past : List Entry) (steps : List Step) → IsRun c plan past steps
    → Streams (came past) (stream past) (words_read steps) (decided plan (state plan steps)).over (decided plan (state plan steps)).session
decided_run_streams c plan past steps r = decided_streams plan (came past) (stream past) (words_read steps) (state plan steps) (run_streams c plan past steps r)

-- what that says of each session, and of each word
pub words_read_in_order : (c : Codecs) → RunsReadInOrder c
words_read_in_order c = record {
  unread = λ plan past steps session r e.
      let k : IsStream (came past) (stream past) (words_read steps) session.unread =
      subst (λ (o : Option Session). Streams (came past) (stream past) (words_read steps) (state plan steps).over o) e (run_streams c plan past steps r) in k.unread_is;
  words = λ plan past steps w r.
      let t : State = decided plan (state plan steps) in
      let f : ReadsFront c plan t w = reads_front c plan t w r.1 in
      let k : IsStream (came past) (stream past) (words_read steps) f.session.unread =
      subst (λ (o : Option Session). Streams (came past) (stream past) (words_read steps) t.over o) f.session_is (decided_run_streams c plan past steps r.0) in
      record { payload = payload_at f.count f.session.unread; at_place = next_payload (stream past) f.session.unread (words_read steps) f.count k.unread_is f.whole; dialect = dialect_of f.session.stage; judged = f.judged };
}
