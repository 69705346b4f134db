-- What a post does in a phase, and what it keeps behind.
use Rattle.std.proofs.Common.{◌≡◌, ℕ, Bool, true, if◌then◌else◌, List, [], Option, Some, None, Result, Ok, refl, ap, sym, subst, ◌∙◌, inl, inr}
use Rattle.std.specs.Option.{option_map}
use Rattle.charge_world.specs.declared.offer.Dialect.{Dialect}
use Rattle.charge_world.specs.declared.ports.Order.{Order}
use Rattle.charge_world.specs.declared.ports.Order.TheVariants as order
use Rattle.session_words.specs.declared.cause.EndCause.{EndCause}
use Rattle.session_words.specs.declared.plan.PostPlan.{PostPlan}
use Rattle.session_words.specs.declared.word.Reply.{Reply}
use Rattle.session_words.specs.Causes.{number_of}
use Rattle.v2gtp_frames.specs.declared.FrameFault.{FrameFault}
use Rattle.v2gtp_frames.specs.Frames.{frame}
use Rattle.v2gtp_frames.specs.Reading.{whole_at}
use Rattle.session_rules.specs.declared.stage.Stage.{Stage}
use Rattle.session_rules.specs.Stages.{is_waiting, confirmed}
use Rattle.post_spec.specs.Codecs.{Codecs}
use Rattle.post_spec.specs.Steps.{Act, Send, End, Reading}
use Rattle.station_spec.specs.States.{Said, Agenda, Wording, Session, State, Todo, nothing, is_none, is_done, first}
use Rattle.station_spec.specs.States as states
use Rattle.station_spec.specs.Deciding.{fronting_by, fronting, from_part, decided}
use Rattle.station_spec.specs.Judging.{Payload, payload_in, wanted, filled, IsRead}
use Rattle.station_spec.specs.Acting.{since_order, replied, agenda_said, ended, acted}
use Rattle.station_spec.specs.Next.{IsQuiet, IsDone, Acts}
use Rattle.station_spec.specs.Sharing.{Shows}
use Rattle.station_laws.proofs.Decided.{IsPlanned, planned}
use Rattle.pair_deeds.specs.Posts.{DoesFirst}
use Rattle.pair_deeds.proofs.Posts.{posts_do_what_is_first, posts_stay_behind_acts, posts_wait}
use Rattle.matched_pairs.specs.Ends.{HasCome, Listens, IsToEnd, IsGone, GoesOnBy}
use Rattle.matched_pairs.proofs.Messages.{empty_waits}

some_none : {A : Type 0} (a : A) → Some a ≡ None → ⊥
some_none a e = cc

pub same_arrived : (plan : PostPlan) (s : State) → (decided plan s).arrived ≡ s.arrived
same_arrived plan s = let p : IsPlanned s (decided plan s) = planned plan s in ap (λ (t : State). t.arrived) p.is

-- ---- it rests

pub quiet_acts : (c : Codecs) (plan : PostPlan) (limit : ℕ) (s : State) (reading : Option Reading) (act : Act) → IsQuiet plan s → Acts c plan (Shows limit [] []) s reading act true → ⊥
quiet_acts c plan limit s None act q i = let e : None ≡ Some i.todo = sym q.none ∙ i.acts in some_none i.todo (sym e)
quiet_acts c plan limit s (Some r) act q i = subst (λ (w : Option Payload). IsRead c plan (Shows limit [] []) (decided plan s) w (Some r)) q.no_word i.read

pub quiet : (plan : PostPlan) (s : State) → s.session ≡ None → s.agenda ≡ nothing → decided plan s ≡ s → IsQuiet plan s
quiet plan s e a d =
    let word : wanted s ≡ None = ap (λ (x : Agenda). if is_done x then payload_in s.session else None) a ∙ ap payload_in e in
    record { none = ap (λ (x : State). first x.agenda) d ∙ ap first a; no_word = ap wanted d ∙ word }

pub come_quiet : (plan : PostPlan) (s : State) (token : ℕ) → HasCome plan s token → IsQuiet plan s
come_quiet plan s token k = quiet plan s k.session k.none k.stays

pub gone_quiet : (plan : PostPlan) (s : State) → IsGone plan s → IsQuiet plan s
gone_quiet plan s k = quiet plan s k.session k.none k.stays

pub listens_quiet : (plan : PostPlan) (s : State) (stage : Stage) (unread : List ℕ) → Listens plan s stage unread → whole_at unread ≡ Ok None → IsQuiet plan s
listens_quiet plan s stage unread l w = posts_wait plan s l.session l.still (inr (ap whole_at l.unread_is ∙ w))

pub waits_quiet : (plan : PostPlan) (s : State) (stage : Stage) (unread : List ℕ) → Listens plan s stage unread → is_waiting stage.row ≡ true → IsQuiet plan s
waits_quiet plan s stage unread l w = posts_wait plan s l.session l.still (inl (ap (λ (x : Stage). is_waiting x.row) l.stage_is ∙ w))

-- ---- what was decided stays until it is done

pub stays_busy : (plan : PostPlan) (s : State) (todo : Todo) → first s.agenda ≡ Some todo → decided plan s ≡ s
stays_busy plan s todo e = ap (λ (b : Bool). if b then from_part plan s.part s else s) (ap is_none e)

busy_quiet : (plan : PostPlan) (s : State) (todo : Todo) → first s.agenda ≡ Some todo → IsQuiet plan s → ⊥
busy_quiet plan s todo e q = some_none todo (sym e ∙ ap (λ (x : State). first x.agenda) (sym (stays_busy plan s todo e)) ∙ q.none)

right_front : (o : Option Session) (session : Session) (live : Bool) → o ≡ Some session → session.unread ≡ [] → fronting o live ≡ nothing
right_front o session live e u =
    ap (λ (x : Option Session). fronting x live) e
    ∙ ap (λ (r : Result (Option ℕ) FrameFault). fronting_by r (is_waiting session.stage.row) live) (ap whole_at u ∙ empty_waits)

-- with all done it listens
pub listens : (plan : PostPlan) (s : State) (session : Session) (stage : Stage) → s.session ≡ Some session → s.arrived ≡ None → s.agenda ≡ nothing → s.part ≡ Wording → session.stage ≡ stage
    → session.unread ≡ [] → Listens plan s stage []
listens plan s session stage e a n p g u = record {
  session = session;
  still = record { session_is = e; none = n; stays = posts_stay_behind_acts plan s n p (right_front s.session session s.live e u) };
  arrived = a;
  stage_is = g;
  unread_is = u;
}

pub since_stage : (now : ℕ) (o : Order) (x : Session) → (since_order now o x).stage ≡ x.stage
since_stage now order.Open x = refl
since_stage now order.Close x = refl
since_stage now (order.Limits voltage current watts) x = refl

pub since_unread : (now : ℕ) (o : Order) (x : Session) → (since_order now o x).unread ≡ x.unread
since_unread now order.Open x = refl
since_unread now order.Close x = refl
since_unread now (order.Limits voltage current watts) x = refl

-- ---- its reply

goes_on_by : (ending : Option EndCause) (plan : PostPlan) (s : State) (session : Session) (stage : Stage) → s.session ≡ Some session → s.arrived ≡ None
    → s.agenda ≡ record nothing { ending = ending } → s.part ≡ Wording → session.stage ≡ stage → session.unread ≡ [] → GoesOnBy ending plan s stage
goes_on_by None plan s session stage e a n p g u = listens plan s session stage e a n p g u
goes_on_by (Some cause) plan s session stage e a n p g u = inl (record { arrived = a; agenda_is = n; part_is = p })

pub record Sends (c : Codecs) (plan : PostPlan) (t : State) (stage : Stage) (dialect : Dialect) (rep : Reply) (ending : Option EndCause) (act : Act) : Type 0 where
  pub payload : List ℕ
  pub encoded : c.Encodes dialect rep payload
  pub act_is : act ≡ Send (frame payload)
  pub goes : GoesOnBy ending plan (acted (Send (frame payload)) true t) (confirmed stage)

pub sends : (c : Codecs) (plan : PostPlan) (t : State) (session : Session) (stage : Stage) (dialect : Dialect) (rep : Reply) (ending : Option EndCause) (act : Act) → t.session ≡ Some session
    → t.arrived ≡ None → session.stage ≡ stage → session.unread ≡ [] → t.part ≡ Wording → t.agenda ≡ record nothing { reply = Some (Said dialect rep); ending = ending }
    → IsDone c (states.Say (Said dialect rep)) act true → Sends c plan t stage dialect rep ending act
sends c plan t session stage dialect rep ending act e a g u p n i =
    let spoken = i.1 in
    record {
      payload = spoken.0;
      encoded = spoken.1;
      act_is = i.2 ∙ ap (λ (x : List ℕ). Send x) spoken.2;
      goes = goes_on_by ending plan (acted (Send (frame spoken.0)) true t) (replied t.clock session) (confirmed stage) (ap (option_map (replied t.clock)) e) a
          (ap (λ (x : Agenda). agenda_said x.behind_reply t.session x t.live) n) p (ap confirmed g) u;
    }

-- ---- the end of its session

pub record Finishes (plan : PostPlan) (t : State) (act : Act) : Type 0 where
  pub number : ℕ
  pub act_is : act ≡ End number
  pub gone : IsGone plan (acted (End number) true t)

pub finishes : (c : Codecs) (plan : PostPlan) (limit : ℕ) (s : State) (cause : EndCause) (reading : Option Reading) (act : Act) → IsToEnd plan s cause
    → Acts c plan (Shows limit [] []) s reading act true → (Finishes plan s act) × (filled plan reading s ≡ s)
finishes c plan limit s cause reading act k i =
    let busy : first s.agenda ≡ Some (states.Finish cause) = ap first k.agenda_is in
    let stays : decided plan s ≡ s = stays_busy plan s (states.Finish cause) busy in
    let d : DoesFirst c (states.Finish cause) reading act true = posts_do_what_is_first c plan limit s (states.Finish cause) reading act true (ap (λ (x : State). first x.agenda) stays ∙ busy) i in
    let done = d.done in (
      record {
        number = number_of cause;
        act_is = done.0;
        gone = record { session = refl; arrived = k.arrived; none = refl; stays = posts_stay_behind_acts plan (ended s) refl k.part_is refl };
      },
      ap (λ (o : Option Reading). filled plan o s) d.reads_nothing ∙ stays,
    )

pub end_quiet : (plan : PostPlan) (s : State) (cause : EndCause) → IsToEnd plan s cause → IsQuiet plan s → ⊥
end_quiet plan s cause k q = busy_quiet plan s (states.Finish cause) (ap first k.agenda_is) q
