-- Own: in the words of plans that match, every exchange goes well.
use Rattle.std.specs.Prelude.{◌≡◌, ℕ, ◌+◌, ◌≤◌, Bool, true, false, if◌then◌else◌, List, [], ◌∷◌, length, Option, Some, None}
use Rattle.charge_world.specs.declared.offer.Dialect.{Dialect}
use Rattle.session_words.specs.declared.cause.EndCause.{EndCause}
use Rattle.session_words.specs.declared.cause.EndCause.TheVariants as cause
use Rattle.session_words.specs.declared.plan.CarPlan.{CarPlan}
use Rattle.session_words.specs.declared.plan.PostPlan.{PostPlan}
use Rattle.session_words.specs.Codes.{IsOkClass}
use Rattle.session_rules.specs.Causes.{found_by, word_cause}
use Rattle.session_rules.specs.Stages.{first_stage, negotiated}
use Rattle.session_rules.specs.Verdict.{verdict}
use Rattle.station_spec.specs.Report.{one_if}
use Rattle.car_rules.specs.declared.stage.CarPhase.{CarPhase}
use Rattle.car_rules.specs.declared.stage.CarPhase.TheVariants as phase
use Rattle.car_rules.specs.Replies.{is_ending, reply_cause}
use Rattle.car_rules.specs.Stages as car
use Rattle.conforming_runs.specs.Requests.{IsConforming}
use Rattle.pair_words.specs.Exchanges.{Both, Outside, asked, heard, behind}
use Rattle.pair_words.specs.Meeting.{ArePaired, Meets, Suits}
use Rattle.pair_words.specs.Left.{left, GoesOn}

-- each request is one that conforms in the post's row
abbrev pub RequestsConform : Type 0
RequestsConform = (post : PostPlan) (plan : CarPlan) (b : Both) (x : Outside) → ArePaired post plan → Meets post b → Suits b.car.phase x
    → IsConforming b.post x.facts post (asked plan b.car)

-- SessionStop alone ends the session, at both ends
abbrev pub end_of : CarPhase → Option EndCause
end_of phase.Ending = Some cause.Stopped
end_of other = None

-- the code of the reply is of the OK class, no end has another cause than SessionStop's, and behind the exchange both meet again
pub record IsAnswered (post : PostPlan) (plan : CarPlan) (b : Both) (x : Outside) : Type 0 where
  pub accepted : IsOkClass (verdict b.post x.facts post (asked plan b.car))
  pub post_ends : word_cause false (found_by (verdict b.post x.facts post (asked plan b.car)) (asked plan b.car).ask) ≡ end_of b.car.phase
  pub code : IsOkClass (heard post plan b x).code
  pub car_ends : reply_cause plan b.car true (heard post plan b x) ≡ end_of b.car.phase
  pub meets : Meets post (behind post plan b x)
  pub goes : is_ending b.car.phase ≡ false → GoesOn post plan b.car x (behind post plan b x).car

abbrev pub ExchangesGoWell : Type 0
ExchangesGoWell = (post : PostPlan) (plan : CarPlan) (b : Both) (x : Outside) → ArePaired post plan → Meets post b → Suits b.car.phase x
    → IsAnswered post plan b x

-- ---- a whole session: its exchanges have the newest first

-- what both keep behind the negotiation, of a connection with this token, and behind so many exchanges
abbrev pub both : PostPlan → CarPlan → ℕ → Dialect → List Outside → Both
both post plan token dialect [] = record { post = negotiated (first_stage token) dialect; car = car.first_stage plan dialect }
both post plan token dialect (x ∷ xs) = behind post plan (both post plan token dialect xs) x

-- the last exchange was SessionStop
abbrev pub has_ended : PostPlan → CarPlan → ℕ → Dialect → List Outside → Bool
has_ended post plan token dialect [] = false
has_ended post plan token dialect (x ∷ xs) = is_ending (both post plan token dialect xs).car.phase

-- each suits what the charger told, and none comes behind SessionStop
abbrev pub AreExchanges : PostPlan → CarPlan → ℕ → Dialect → List Outside → Type 0
AreExchanges post plan token dialect [] = Unit {0}
AreExchanges post plan token dialect (x ∷ xs) = AreExchanges post plan token dialect xs × (has_ended post plan token dialect xs ≡ false)
    × Suits (both post plan token dialect xs).car.phase x

abbrev pub TheyMeet : Type 0
TheyMeet = (post : PostPlan) (plan : CarPlan) (token : ℕ) (dialect : Dialect) (xs : List Outside) → ArePaired post plan
    → AreExchanges post plan token dialect xs → Meets post (both post plan token dialect xs)

-- a step that isn't done is asked for again
abbrev pub is_repeated : CarPhase → CarPhase → Bool
is_repeated phase.Authorizing phase.Authorizing = true
is_repeated phase.Asking phase.Asking = true
is_repeated phase.CableChecking phase.CableChecking = true
is_repeated phase.PreCharging phase.PreCharging = true
is_repeated from to = false

abbrev pub repeats : PostPlan → CarPlan → ℕ → Dialect → List Outside → ℕ
repeats post plan token dialect [] = 0
repeats post plan token dialect (x ∷ xs) =
    one_if (is_repeated (both post plan token dialect xs).car.phase (behind post plan (both post plan token dialect xs) x).car.phase)
    + repeats post plan token dialect xs

-- the requests that are left
abbrev pub left_behind : PostPlan → CarPlan → ℕ → Dialect → List Outside → ℕ
left_behind post plan token dialect xs =
    if has_ended post plan token dialect xs then 0 else left plan (both post plan token dialect xs).car

-- so but for those that are repeated, 20 exchanges and the charging replies are enough
abbrev pub TheyEnd : Type 0
TheyEnd = (post : PostPlan) (plan : CarPlan) (token : ℕ) (dialect : Dialect) (xs : List Outside) → ArePaired post plan
    → AreExchanges post plan token dialect xs
    → length xs + left_behind post plan token dialect xs ≤ 20 + plan.cycles + repeats post plan token dialect xs
