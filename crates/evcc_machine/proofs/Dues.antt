-- What is due in a session, and what is due in the search behind it.
use Rattle.std.proofs.Common.{◌≡◌, ◌<◌, ℕ, min, ◌==◌, nat_lt, Bool, true, false, ◌&&◌, if◌then◌else◌, List, [], ◌∷◌, ◌++◌, Option, Some, None, refl, ap, ◌∙◌}
use Rattle.std.proofs.lemmas.Bool.{ltb-true}
use Rattle.std.specs.Option.{option_or}
use Rattle.session_words.specs.declared.cause.EndCause.{EndCause}
use Rattle.session_words.specs.declared.plan.CarPlan.{CarPlan}
use Rattle.car_rules.specs.declared.deadlines.CarDue.{CarDue}
use Rattle.car_rules.specs.Deadlines.{due_at, is_reached, hit_by, hit, moment_of, least_moment}
use Rattle.car_rules.specs.declared.searching.Search.{Search}
use Rattle.car_rules.specs.Searching.{is_searching, next_request}
use Rattle.car_spec.specs.Due.{session_deadlines, is_due}
use Rattle.car_spec.specs.States.{Session}

-- the least moment of all deadlines
pub least_of : (plan : CarPlan) (session : Option Session) (d : Option CarDue)
    → least_moment (session_deadlines plan session ++ d ∷ []) ≡ min (least_moment (session_deadlines plan session)) (moment_of d)
least_of plan None d = refl
least_of plan (Some session) d = refl

reached_or : (b : Bool) (cause : EndCause) (y x : Option EndCause)
    → (if b then Some cause else option_or y x) ≡ option_or (if b then Some cause else y) x
reached_or true cause y x = refl
reached_or false cause y x = refl

by_or : (d : Option CarDue) (now : ℕ) (y x : Option EndCause) → hit_by d now (option_or y x) ≡ option_or (hit_by d now y) x
by_or None now y x = refl
by_or (Some d) now y x = reached_or (is_reached d.moment now) d.cause y x

-- the first of all deadlines that was reached
hit_in : (ds : List (Option CarDue)) (d : Option CarDue) (now : ℕ) → hit (ds ++ d ∷ []) now ≡ option_or (hit ds now) (hit_by d now None)
hit_in [] d now = refl
hit_in (x ∷ ds) d now = ap (hit_by x now) (hit_in ds d now) ∙ by_or x now (hit ds now) (hit_by d now None)

pub hit_of : (plan : CarPlan) (session : Option Session) (d : Option CarDue) (now : ℕ)
    → hit (session_deadlines plan session ++ d ∷ []) now ≡ option_or (hit (session_deadlines plan session) now) (hit_by d now None)
hit_of plan session d now = hit_in (session_deadlines plan session) d now

-- a post is looked for at most 50 times
few_by : (b c : Bool) (m : Option ℕ) (now : ℕ) → is_due (if b && c then m else None) now ≡ true → c ≡ true
few_by true true m now h = refl
few_by true false m now h = cc
few_by false c m now h = cc

pub asked_few : (plan : CarPlan) (x : Search) (now : ℕ) → is_due (next_request plan x) now ≡ true → x.asked < 50
asked_few plan x now h = ltb-true x.asked 50 (few_by (is_searching plan x) (nat_lt x.asked 50) (if x.asked == 0 then Some 0 else due_at x.last 250) now h)
