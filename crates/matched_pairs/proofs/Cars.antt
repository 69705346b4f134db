-- The car reads a word, or does something.
use Rattle.std.proofs.Common.{◌≡◌, ℕ, ◌+◌, ◌≤◌, nat_le, Bool, true, false, if◌then◌else◌, List, [], ◌∷◌, ◌++◌, Option, Some, None, is_some, Result, Ok, refl, ap, sym, subst, ◌∙◌, arith}
use Rattle.std.proofs.lemmas.Bool.Decides.{nat_tests}
use Rattle.charge_world.specs.declared.ports.Order.{Order}
use Rattle.session_words.specs.declared.plan.CarPlan.{CarPlan}
use Rattle.session_words.specs.Plans.{IsCarPlan}
use Rattle.session_timers.specs.Due.{never}
use Rattle.v2gtp_frames.specs.declared.FrameFault.{FrameFault}
use Rattle.v2gtp_frames.specs.Reading.{whole_at}
use Rattle.post_spec.specs.Codecs as post
use Rattle.station_spec.specs.States as station
use Rattle.car_rules.specs.Deadlines.{due_at}
use Rattle.car_spec.specs.Codecs as car
use Rattle.car_spec.specs.Steps.{Spoken, Act, Seek, Dial, Give, Say, End}
use Rattle.car_spec.specs.States.{Session, State, is_done}
use Rattle.car_spec.specs.Deciding.{decided}
use Rattle.car_spec.specs.Judging.{payload_by, payload_in, IsRead}
use Rattle.car_spec.specs.Next.{MayAct, MayRead}
use Rattle.pipe_spec.specs.Histories.{Happening, CarReads, CarDoes, moment, car_plan, to_station, to_car, ported}
use Rattle.pipe_spec.specs.Turns.{Station, station_state, car_state, CarMayReadBy, CarMayDoBy}
use Rattle.pair_words.specs.Meeting.{ArePaired}
use Rattle.matched_pairs.specs.Moves.{IsPair}
use Rattle.matched_pairs.proofs.CarPhases.{same_session}
use Rattle.matched_pairs.proofs.Messages.{empty_waits}
use Rattle.matched_pairs.specs.Acts.{IsOfCar}
use Rattle.matched_pairs.proofs.CarsDo.{cars_act}
use Rattle.matched_pairs.specs.Courses.{GoesWell}
use Rattle.matched_pairs.specs.Contactors.{Stands}
use Rattle.matched_pairs.proofs.Clocks.{same_car_clock}
use Rattle.matched_pairs.specs.Paces.{IsSetUpAtOnce}
use Rattle.matched_pairs.proofs.Pacing.{PacedBy, IsPaced, wording_not, decides_heard, reads_paced, reads_heard, says_paced, gives_paced}
use Rattle.matched_pairs.proofs.Asked.{AskedIn, asked_on, reads_asked, says_asked, stays_asked}
use Rattle.matched_pairs.proofs.Coming.{SetUpSince, HasSomeUnread, IsComing, unread_said, AgainIn, car_says_again, reads_again}
use Rattle.matched_pairs.proofs.Setup.{reads_setup, says_setup}
use Rattle.matched_pairs.proofs.CarMoves.{GoesOn, acts_on, reads_live}
use Rattle.matched_pairs.proofs.Held.{Holds, Known}

-- ---- a word is unread

by_front : (r : Result (Option ℕ) FrameFault) (c : car.Codecs) (plan : CarPlan) (y : Session) (w : car.Judged) → r ≡ Ok None → IsRead c plan (payload_by r y) w → ⊥
by_front r c plan y w e i = subst (λ (x : Result (Option ℕ) FrameFault). IsRead c plan (payload_by x y) w) e i

by_done : (b : Bool) (o : Option Session) (c : car.Codecs) (plan : CarPlan) (w : car.Judged) → IsRead c plan (if b then payload_in o else None) w → HasSomeUnread o
by_done true None c plan w i = i
by_done true (Some y) c plan w i = λ u. by_front (whole_at y.unread) c plan y w (ap whole_at u ∙ empty_waits) i
by_done false o c plan w i = absurd i

reads_unread : (c : car.Codecs) (plan : CarPlan) (k : State) (w : car.Judged) → MayRead c plan k w → HasSomeUnread k.session
reads_unread c plan k w i = subst HasSomeUnread (same_session plan k) (by_done (is_done (decided plan k).agenda) (decided plan k).session c plan w i)

-- ---- the pace behind it isn't too far

within : (now clock pace : ℕ) → clock ≡ now → now ≤ 42949672960 → pace ≤ 1000 → nat_le (clock + pace) never ≡ true
within now clock pace e l p = grind (arith, nat_tests)

some_if : (b : Bool) (n : ℕ) → b ≡ true → is_some (if b then Some n else None) ≡ true
some_if true n e = refl
some_if false n e = e

due_some : (now clock pace : ℕ) → clock ≡ now → now ≤ 42949672960 → pace ≤ 1000 → is_some (due_at clock pace) ≡ true
due_some now clock pace e l p = some_if (nat_le (clock + pace) never) (clock + pace) (within now clock pace e l p)

-- ---- it reads a word

pub reads : (c : post.Codecs) (cs : car.Codecs) (st : Station) (plan : CarPlan) (h : List Happening) (w : car.Judged) → Known c cs st plan h → CarMayReadBy cs (car_plan h) h w → Holds st plan h → Holds st plan (CarReads w ∷ h)
reads c cs st plan h w n f k =
    let s : station.State = station_state st h in
    let i : MayRead cs plan (car_state plan h) w = subst (λ (o : Option CarPlan). CarMayReadBy cs o h w) n.came f in
    let well : GoesWell c cs st plan h = n.well in
    let pair : IsPair c cs st.post plan = n.pair in
    let paired : ArePaired st.post plan = pair.paired in
    let of_car : IsCarPlan (ported plan) = paired.of_car in
    let pace = of_car.pace in
    let live : (car_state plan h).over ≡ false = reads_live well.words c cs st.post plan s (car_state plan h) (to_station h) (to_car h) w well.phase i in
    let clock : (decided plan (car_state plan h)).clock ≡ moment h = same_car_clock plan (car_state plan h) ∙ n.car_clock live in
    let coming : IsComing (moment h) s.session (car_state plan h).session (to_car h) = k.coming in
    let since : SetUpSince (moment h) s.session = coming.unread (reads_unread cs plan (car_state plan h) w i) in
    let paced : IsPaced (car_state plan h) = k.paced in
    record {
      behind = k.behind;
      asked = reads_asked (decided plan (car_state plan h)).session (moment h) s (to_station h) plan (decided plan (car_state plan h)) w refl;
      again = reads_again (decided plan (car_state plan h)).session plan (decided plan (car_state plan h)) w s.session (moment h) refl clock pace.1 since
          (subst (λ (o : Option Session). AgainIn o s.session) (sym (same_session plan (car_state plan h))) k.again);
      coming = record { under_way = λ z. since; unread = λ z. since };
      waits = k.waits;
      paced = record {
        heard = reads_heard (decided plan (car_state plan h)).session plan (decided plan (car_state plan h)) w (decides_heard plan (car_state plan h) paced.heard);
        paced = reads_paced (decided plan (car_state plan h)).session (car_state plan h).agenda plan (decided plan (car_state plan h)) w refl
            (subst (PacedBy (car_state plan h).agenda) (sym (same_session plan (car_state plan h))) paced.paced)
            (due_some (moment h) (decided plan (car_state plan h)).clock plan.pace clock k.few pace.1);
      };
      set_up = reads_setup (moment h) cs plan (car_state plan h) w i k.set_up;
      few = k.few;
    }

-- ---- it does something

gives : (c : post.Codecs) (cs : car.Codecs) (st : Station) (plan : CarPlan) (h : List Happening) (o : Order) → GoesOn plan (station_state st h) (car_state plan h) → Holds st plan h → Holds st plan (CarDoes (Give o) ∷ h)
gives c cs st plan h o g k =
    let s : station.State = station_state st h in
    let same : (decided plan (car_state plan h)).session ≡ (car_state plan h).session = same_session plan (car_state plan h) in
    let coming : IsComing (moment h) s.session (car_state plan h).session (to_car h) = k.coming in
    let paced : IsPaced (car_state plan h) = k.paced in
    record {
      behind = k.behind;
      asked = asked_on (moment h) (moment h) s s (to_station h) (to_station h ++ []) (decided plan (car_state plan h)).session (λ at a. stays_asked s (moment h) (to_station h) at a)
          (subst (AskedIn (moment h) s (to_station h)) (sym same) k.asked);
      again = subst (λ (x : Option Session). AgainIn x s.session) (sym same) k.again;
      coming = record { under_way = coming.under_way; unread = λ u. coming.unread (subst HasSomeUnread same u) };
      waits = k.waits;
      paced = record {
        heard = decides_heard plan (car_state plan h) paced.heard;
        paced = gives_paced (decided plan (car_state plan h)).session (car_state plan h).agenda (record (decided plan (car_state plan h)).agenda { order = None })
            (g.more (decided plan (car_state plan h)).agenda refl) (subst (PacedBy (car_state plan h).agenda) (sym same) paced.paced);
      };
      set_up = subst (IsSetUpAtOnce (moment h)) (sym same) k.set_up;
      few = k.few;
    }

says : (c : post.Codecs) (cs : car.Codecs) (st : Station) (plan : CarPlan) (h : List Happening) (spoken : Spoken) (bytes : List ℕ) → Known c cs st plan h → GoesOn plan (station_state st h) (car_state plan h) → Holds st plan h
    → Holds st plan (CarDoes (Say spoken bytes) ∷ h)
says c cs st plan h spoken bytes n g k =
    let s : station.State = station_state st h in
    let stands : Stands st h = n.stands in
    let same : (decided plan (car_state plan h)).session ≡ (car_state plan h).session = same_session plan (car_state plan h) in
    let clock : (decided plan (car_state plan h)).clock ≡ moment h = same_car_clock plan (car_state plan h) ∙ n.car_clock g.live in
    let coming : IsComing (moment h) s.session (car_state plan h).session (to_car h) = k.coming in
    let paced : IsPaced (car_state plan h) = k.paced in
    record {
      behind = k.behind;
      asked = says_asked (decided plan (car_state plan h)).session (moment h) (decided plan (car_state plan h)).clock s (to_station h ++ bytes) clock (λ e. g.unclosing (stands.closing e));
      again = car_says_again (decided plan (car_state plan h)).session (decided plan (car_state plan h)).clock s.session;
      coming = record {
        under_way = coming.under_way;
        unread = λ u. coming.unread (subst HasSomeUnread same (unread_said (decided plan (car_state plan h)).session (decided plan (car_state plan h)).clock u));
      };
      waits = k.waits;
      paced = record {
        heard = decides_heard plan (car_state plan h) paced.heard;
        paced = says_paced (decided plan (car_state plan h)).session (decided plan (car_state plan h)).clock (record (decided plan (car_state plan h)).agenda { spoken = None });
      };
      set_up = says_setup (decided plan (car_state plan h)).session (moment h) (decided plan (car_state plan h)).clock (subst (IsSetUpAtOnce (moment h)) (sym same) k.set_up);
      few = k.few;
    }

ends : (st : Station) (plan : CarPlan) (h : List Happening) (number : ℕ) → Holds st plan h → Holds st plan (CarDoes (End number) ∷ h)
ends st plan h number k =
    let coming : IsComing (moment h) (station_state st h).session (car_state plan h).session (to_car h) = k.coming in
    record {
      behind = k.behind;
      asked = tt;
      again = tt;
      coming = record { under_way = coming.under_way; unread = λ u. absurd u };
      waits = k.waits;
      paced = record { heard = wording_not; paced = tt };
      set_up = tt;
      few = k.few;
    }

acts_by : (act : Act) (c : post.Codecs) (cs : car.Codecs) (st : Station) (plan : CarPlan) (h : List Happening) → Known c cs st plan h → IsOfCar act → GoesOn plan (station_state st h) (car_state plan h) → Holds st plan h
    → Holds st plan (CarDoes act ∷ h)
acts_by (Give o) c cs st plan h n a g k = gives c cs st plan h o g k
acts_by (Say spoken bytes) c cs st plan h n a g k = says c cs st plan h spoken bytes n g k
acts_by (End number) c cs st plan h n a g k = ends st plan h number k
acts_by (Seek datagram) c cs st plan h n a g k = absurd a
acts_by (Dial port) c cs st plan h n a g k = absurd a

pub acts : (c : post.Codecs) (cs : car.Codecs) (st : Station) (plan : CarPlan) (h : List Happening) (act : Act) → Known c cs st plan h → CarMayDoBy cs (car_plan h) h act → Holds st plan h → Holds st plan (CarDoes act ∷ h)
acts c cs st plan h act n f k =
    let i : MayAct cs plan (car_state plan h) act true = subst (λ (o : Option CarPlan). CarMayDoBy cs o h act) n.came f in
    let well : GoesWell c cs st plan h = n.well in
    acts_by act c cs st plan h n
    (cars_act c cs st.post plan well.words (station_state st h) (car_state plan h) (to_station h) (to_car h) act n.pair well.phase i)
    (acts_on well.words c cs st.post plan (station_state st h) (car_state plan h) (to_station h) (to_car h) act n.pair well.phase i) k
