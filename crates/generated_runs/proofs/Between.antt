-- Between two sessions one thing happens next, and then the next car comes.
use Rattle.std.proofs.Common.{◌≡◌, true, false, List, [], ◌∷◌, ◌++◌, Option, Some, None, refl, ap, sym, subst, ◌∙◌, ◌⊎◌, inl, inr}
use Rattle.std.specs.List.{AllByRecursion}
use Rattle.session_words.specs.declared.plan.CarPlan.{CarPlan}
use Rattle.post_spec.specs.Codecs.{Codecs}
use Rattle.post_spec.specs.Spelled.{AreDetermined}
use Rattle.post_spec.specs.Steps.{Act, Reading}
use Rattle.car_spec.specs.Codecs as car
use Rattle.pipe_spec.specs.Histories.{Happening, CarComes, ChargerTells, StationHears, CarHears, TimePasses, StationDoes, CarReads, CarDoes, CarGoes, NumberIsDrawn, car_plan}
use Rattle.pipe_spec.specs.Turns.{Station, StationRests, StationMayDo, MayGo, MayCome, Follows}
use Rattle.pipe_spec.specs.Runs.{IsRun}
use Rattle.pair_plans.specs.Generated.{IsBetween}
use Rattle.pipe_laws.proofs.Once.{busy, does_one}
use Rattle.pipe_laws.proofs.Sessions.{behind_follows, split}

some_none : {A : Type 0} (a : A) → Some a ≡ None → ⊥
some_none a e = cc

true_false : true ≡ false → ⊥
true_false e = cc

-- the connection goes, or the station does something
data Kind (c : Codecs) (st : Station) (h : List Happening) : Happening → Type 0 where
  Goes : MayGo st h → Kind c st h CarGoes
  Does : (r : Option Reading) (a : Act) → StationMayDo c st h r a → Kind c st h (StationDoes r a)

kind_of : (c : Codecs) (cs : car.Codecs) (st : Station) (h : List Happening) (e : Happening) → IsBetween e → Follows c cs st h e → Kind c st h e
kind_of c cs st h CarGoes w f = Goes f
kind_of c cs st h (StationDoes r a) w f = Does r a f
kind_of c cs st h (CarComes plan) w f = absurd (let x : false ≡ true = w in cc)
kind_of c cs st h (ChargerTells event) w f = absurd (let x : false ≡ true = w in cc)
kind_of c cs st h (StationHears bytes) w f = absurd (let x : false ≡ true = w in cc)
kind_of c cs st h (CarHears bytes) w f = absurd (let x : false ≡ true = w in cc)
kind_of c cs st h TimePasses w f = absurd (let x : false ≡ true = w in cc)
kind_of c cs st h (CarReads v) w f = absurd (let x : false ≡ true = w in cc)
kind_of c cs st h (CarDoes a) w f = absurd (let x : false ≡ true = w in cc)
kind_of c cs st h NumberIsDrawn w f = absurd (let x : false ≡ true = w in cc)

kinds_once : (c : Codecs) → AreDetermined c → (st : Station) (h : List Happening) (e f : Happening) → Kind c st h e → Kind c st h f → e ≡ f
kinds_once c one st h _ _ (Goes x) (Goes y) = refl
kinds_once c one st h _ _ (Goes x) (Does r a y) = let q = x.rest in absurd (busy c st h r a y q.station_rests)
kinds_once c one st h _ _ (Does r a x) (Goes y) = let q = y.rest in absurd (busy c st h r a x q.station_rests)
kinds_once c one st h _ _ (Does r a x) (Does q b y) = does_one c one st h r q a b x y

-- the station rests, or a car came before
abbrev pub Knows : Station → List Happening → Type 0
Knows st h = StationRests st h ⊎ ((plan : CarPlan) × (car_plan h ≡ Some plan))

kind_knows : (c : Codecs) (st : Station) (h : List Happening) (e : Happening) → Kind c st h e → Knows st h → Knows st (e ∷ h)
kind_knows c st h _ (Goes x) k = inr (x.plan, x.came)
kind_knows c st h _ (Does r a x) (inl q) = absurd (busy c st h r a x q)
kind_knows c st h _ (Does r a x) (inr k) = inr k

knows : (c : Codecs) (cs : car.Codecs) (st : Station) (gone base : List Happening) → AllByRecursion IsBetween gone → IsRun c cs st (gone ++ base) → Knows st base → Knows st (gone ++ base)
knows c cs st [] base b r k = k
knows c cs st (e ∷ gone) base b r k =
    kind_knows c st (gone ++ base) e (kind_of c cs st (gone ++ base) e b.0 r.1) (knows c cs st gone base b.1 r.0 k)

-- where the next car may come, nothing else happens first
comes_or_goes : (st : Station) (h : List Happening) → MayCome st h → MayGo st h → ⊥
comes_or_goes st h (inl none) g = some_none g.plan (sym g.came ∙ none)
comes_or_goes st h (inr f) g = true_false (sym f.ended ∙ g.stands)

comes_or_does : (c : Codecs) (st : Station) (h : List Happening) (r : Option Reading) (a : Act) → MayCome st h → StationMayDo c st h r a → Knows st h → ⊥
comes_or_does c st h r a (inr f) x k = let q = f.rest in busy c st h r a x q.station_rests
comes_or_does c st h r a (inl none) x (inl q) = busy c st h r a x q
comes_or_does c st h r a (inl none) x (inr k) = some_none k.0 (sym k.1 ∙ none)

comes_alone : (c : Codecs) (st : Station) (h : List Happening) (e : Happening) → MayCome st h → Kind c st h e → Knows st h → ⊥
comes_alone c st h _ m (Goes x) k = comes_or_goes st h m x
comes_alone c st h _ m (Does r a x) k = comes_or_does c st h r a m x k

-- ---- two ways on from one history

record GoesOn (h k : List Happening) : Type 0 where
  more : List Happening
  between : AllByRecursion IsBetween more
  is : k ≡ more ++ h

record Begins (more : List Happening) : Type 0 where
  first : Happening
  later : List Happening
  is : more ≡ later ++ first ∷ []
  first_between : IsBetween first
  between : AllByRecursion IsBetween later

begins : (e : Happening) (more : List Happening) → IsBetween e → AllByRecursion IsBetween more → Begins (e ∷ more)
begins e [] w a = record { first = e; later = []; is = refl; first_between = w; between = tt }
begins e (f ∷ more) w a =
    let b : Begins (f ∷ more) = begins f more a.0 a.1 in
    record { first = b.first; later = e ∷ b.later; is = ap (λ (x : List Happening). e ∷ x) b.is; first_between = b.first_between; between = (w, b.between) }

one_more : (c : Codecs) (cs : car.Codecs) → AreDetermined c → (st : Station) (h k : List Happening) (e : Happening) (more : List Happening) → IsBetween e → Follows c cs st h e
    → IsRun c cs st k → AllByRecursion IsBetween more → k ≡ more ++ h → GoesOn (e ∷ h) k ⊎ GoesOn k (e ∷ h)
one_more c cs one st h k e [] w f r a i = inr (record { more = e ∷ []; between = (w, tt); is = ap (λ (x : List Happening). e ∷ x) (sym i) })
one_more c cs one st h k e (x ∷ more) w f r a i =
    let b : Begins (x ∷ more) = begins x more a.0 a.1 in
    let is : k ≡ b.later ++ b.first ∷ h = i ∙ ap (λ (z : List Happening). z ++ h) b.is ∙ split b.later h b.first in
    let g : Follows c cs st h b.first = behind_follows c cs st b.later h b.first (subst (IsRun c cs st) is r) in
    let same : b.first ≡ e = kinds_once c one st h b.first e (kind_of c cs st h b.first b.first_between g) (kind_of c cs st h e w f) in
    inl (record { more = b.later; between = b.between; is = is ∙ ap (λ (z : Happening). b.later ++ z ∷ h) same })

extends : (c : Codecs) (cs : car.Codecs) → AreDetermined c → (st : Station) (gone base k : List Happening) → AllByRecursion IsBetween gone → IsRun c cs st (gone ++ base) → IsRun c cs st k
    → GoesOn base k → GoesOn (gone ++ base) k ⊎ GoesOn k (gone ++ base)
extends c cs one st [] base k a r q g = inl g
extends c cs one st (e ∷ gone) base k a r q g =
    elim (extends c cs one st gone base k a.1 r.0 q g) [
      | inl m ↦ one_more c cs one st (gone ++ base) k e m.more a.0 r.1 q m.between m.is
      | inr m ↦ inr (record { more = e ∷ m.more; between = (a.0, m.between); is = ap (λ (x : List Happening). e ∷ x) m.is })
    ]

-- nothing goes on from where the next car comes
ended_by : (c : Codecs) (cs : car.Codecs) (st : Station) (h k more : List Happening) → MayCome st h → Knows st h → IsRun c cs st k → AllByRecursion IsBetween more → k ≡ more ++ h → k ≡ h
ended_by c cs st h k [] m n r a i = i
ended_by c cs st h k (x ∷ more) m n r a i =
    let b : Begins (x ∷ more) = begins x more a.0 a.1 in
    let is : k ≡ b.later ++ b.first ∷ h = i ∙ ap (λ (z : List Happening). z ++ h) b.is ∙ split b.later h b.first in
    let g : Follows c cs st h b.first = behind_follows c cs st b.later h b.first (subst (IsRun c cs st) is r) in
    absurd (comes_alone c st h b.first m (kind_of c cs st h b.first b.first_between g) n)

pub between_once : (c : Codecs) (cs : car.Codecs) → AreDetermined c → (st : Station) (base : List Happening) → StationRests st base → (gone went : List Happening)
    → AllByRecursion IsBetween gone → AllByRecursion IsBetween went → IsRun c cs st (gone ++ base) → IsRun c cs st (went ++ base) → MayCome st (gone ++ base) → MayCome st (went ++ base)
    → gone ++ base ≡ went ++ base
between_once c cs one st base q gone went a b r s m n =
    elim (extends c cs one st gone base (went ++ base) a r s (record { more = went; between = b; is = refl })) [
      | inl x ↦ sym (ended_by c cs st (gone ++ base) (went ++ base) x.more m (knows c cs st gone base a r (inl q)) s x.between x.is)
      | inr x ↦ ended_by c cs st (went ++ base) (gone ++ base) x.more n (knows c cs st went base b s (inl q)) r x.between x.is
    ]
