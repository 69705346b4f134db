-- Of two sessions with one beginning, one goes on where the other stands; so whole ones are the same.
use Rattle.std.proofs.Common.{◌≡◌, ℕ, true, List, [], ◌∷◌, ◌++◌, refl, ap, sym, subst, ◌∙◌, ◌⊎◌, inl, inr, append_assoc}
use Rattle.std.specs.List.{AllByRecursion}
use Rattle.session_words.specs.declared.plan.PostPlan.{PostPlan}
use Rattle.session_words.specs.declared.plan.SitePlan.{SitePlan}
use Rattle.post_spec.specs.Codecs.{Codecs}
use Rattle.post_spec.specs.Spelled.{AreDetermined}
use Rattle.car_spec.specs.Codecs as car
use Rattle.car_spec.specs.Spelled as car_spelled
use Rattle.pipe_spec.specs.Histories.{Happening, CarComes}
use Rattle.pipe_spec.specs.Turns.{Station, BothRest, is_over, Follows}
use Rattle.pipe_spec.specs.Runs.{IsStation, IsRun, IsWithin, IsSession}
use Rattle.pipe_laws.specs.Determined.{SessionsAreDetermined, PipeRunsAreDetermined}
use Rattle.pipe_laws.proofs.Once.{follows_once, ended_follows}

-- k is h and more of the session
pub record GoesOn (h k : List Happening) : Type 0 where
  pub more : List Happening
  pub within : AllByRecursion IsWithin more
  pub is : k ≡ more ++ h

-- a list is empty, or has a first thing that happened
pub record Begins (more : List Happening) : Type 0 where
  pub first : Happening
  pub later : List Happening
  pub is : more ≡ later ++ first ∷ []
  pub first_within : IsWithin first
  pub within : AllByRecursion IsWithin later

begins : (e : Happening) (more : List Happening) → IsWithin e → AllByRecursion IsWithin more → Begins (e ∷ more)
begins e [] w a = record { first = e; later = []; is = refl; first_within = w; within = tt }
begins e (f ∷ more) w a =
    let b : Begins (f ∷ more) = begins f more a.0 a.1 in
    record { first = b.first; later = e ∷ b.later; is = ap (λ (x : List Happening). e ∷ x) b.is; first_within = b.first_within; within = (w, b.within) }

-- in a run the first of what happens behind a history follows from it
pub behind_follows : (c : Codecs) (cs : car.Codecs) (st : Station) (later h : List Happening) (e : Happening) → IsRun c cs st (later ++ e ∷ h) → Follows c cs st h e
behind_follows c cs st [] h e r = r.1
behind_follows c cs st (x ∷ later) h e r = behind_follows c cs st later h e r.0

pub split : (later h : List Happening) (e : Happening) → (later ++ e ∷ []) ++ h ≡ later ++ e ∷ h
split later h e = append_assoc later (e ∷ []) h

one_more : (c : Codecs) (cs : car.Codecs) → AreDetermined c → car_spelled.AreDetermined cs → (st : Station) (h k : List Happening) (e : Happening) (more : List Happening) → IsWithin e
    → Follows c cs st h e → IsRun c cs st k → AllByRecursion IsWithin more → k ≡ more ++ h → GoesOn (e ∷ h) k ⊎ GoesOn k (e ∷ h)
one_more c cs one other st h k e [] w f r a i = inr (record { more = e ∷ []; within = (w, tt); is = ap (λ (x : List Happening). e ∷ x) (sym i) })
one_more c cs one other st h k e (x ∷ more) w f r a i =
    let b : Begins (x ∷ more) = begins x more a.0 a.1 in
    let is : k ≡ b.later ++ b.first ∷ h = i ∙ ap (λ (z : List Happening). z ++ h) b.is ∙ split b.later h b.first in
    let g : Follows c cs st h b.first = behind_follows c cs st b.later h b.first (subst (IsRun c cs st) is r) in
    let same : b.first ≡ e = follows_once c cs one other st h b.first e b.first_within w g f in
    inl (record { more = b.later; within = b.within; is = is ∙ ap (λ (z : Happening). b.later ++ z ∷ h) same })

extends : (c : Codecs) (cs : car.Codecs) → AreDetermined c → car_spelled.AreDetermined cs → (st : Station) (session base k : List Happening) → AllByRecursion IsWithin session
    → IsRun c cs st (session ++ base) → IsRun c cs st k → GoesOn base k → GoesOn (session ++ base) k ⊎ GoesOn k (session ++ base)
extends c cs one other st [] base k a r q g = inl g
extends c cs one other st (e ∷ session) base k a r q g =
    elim (extends c cs one other st session base k a.1 r.0 q g) [
      | inl m ↦ one_more c cs one other st (session ++ base) k e m.more a.0 r.1 q m.within m.is
      | inr m ↦ inr (record { more = e ∷ m.more; within = (a.0, m.within); is = ap (λ (x : List Happening). e ∷ x) m.is })
    ]

-- nothing goes on behind a whole session
ended_by : (c : Codecs) (cs : car.Codecs) → car_spelled.AreDetermined cs → (st : Station) (h k more : List Happening) → BothRest st h → is_over st h ≡ true → IsRun c cs st k
    → AllByRecursion IsWithin more → k ≡ more ++ h → k ≡ h
ended_by c cs other st h k [] q o r a i = i
ended_by c cs other st h k (x ∷ more) q o r a i =
    let b : Begins (x ∷ more) = begins x more a.0 a.1 in
    let is : k ≡ b.later ++ b.first ∷ h = i ∙ ap (λ (z : List Happening). z ++ h) b.is ∙ split b.later h b.first in
    let g : Follows c cs st h b.first = behind_follows c cs st b.later h b.first (subst (IsRun c cs st) is r) in
    absurd (ended_follows c cs other st h b.first q o b.first_within g)

pub sessions_are_determined : (c : Codecs) (cs : car.Codecs) → SessionsAreDetermined c cs
sessions_are_determined c cs one other st before plan h k x y =
    let r : IsRun c cs st (x.session ++ CarComes plan ∷ before) = subst (IsRun c cs st) x.h_is x.run in
    let g : GoesOn (CarComes plan ∷ before) k = record { more = y.session; within = y.within; is = y.h_is } in
    elim (extends c cs one other st x.session (CarComes plan ∷ before) k x.within r y.run g) [
      | inl m ↦ sym (ended_by c cs other st h k m.more x.rest x.over y.run m.within (m.is ∙ ap (λ (z : List Happening). m.more ++ z) (sym x.h_is)))
      | inr m ↦ ended_by c cs other st k h m.more y.rest y.over x.run m.within (x.h_is ∙ m.is)
    ]

-- one station
same_post : (a b : PostPlan) (xs ys : List PostPlan) → a ∷ xs ≡ b ∷ ys → a ≡ b
same_post a b xs ys e = cc

station_once : (site : SitePlan) (seed : ℕ) (a b : Station) → IsStation site seed a → IsStation site seed b → a ≡ b
station_once site seed a b x y =
    let p : a.post ≡ b.post = same_post a.post b.post x.others y.others (sym x.first ∙ y.first) in
    ap (λ (n : ℕ). record a { limit = n }) (x.limit ∙ sym y.limit)
    ∙ ap (λ (n : ℕ). record a { limit = b.limit; turns = n }) (x.turns ∙ sym y.turns)
    ∙ ap (λ (z : PostPlan). record a { limit = b.limit; turns = b.turns; post = z }) p
    ∙ ap (λ (n : ℕ). record b { seed = n }) (x.seed_is ∙ sym y.seed_is)

pub pipe_runs_are_determined : (c : Codecs) (cs : car.Codecs) → PipeRunsAreDetermined c cs
pipe_runs_are_determined c cs one other site plan seed h k x y =
    let same : x.station ≡ y.station = station_once site seed x.station y.station x.station_is y.station_is in
    sessions_are_determined c cs one other y.station [] plan h k (subst (λ (s : Station). IsSession c cs s [] plan h) same x.session) y.session
