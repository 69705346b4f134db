-- A session over the pipe comes to its end.
use Rattle.std.proofs.Common.{◌≡◌, ◌<◌, ◌≤◌, ℕ, ◌+◌, ◌-◌, Bool, true, false, List, [], length, Option, Some, None, refl, sym, ap, subst, ◌∙◌, inl, inr, arith}
use Rattle.std.specs.Bool.{MatchBool}
use Rattle.charge_world.specs.declared.ports.Order.TheVariants as order
use Rattle.session_words.specs.declared.plan.CarPlan.{CarPlan}
use Rattle.session_words.specs.declared.plan.PostPlan.{PostPlan}
use Rattle.post_spec.specs.Codecs.{Codecs}
use Rattle.post_spec.specs.Steps.{Act, Give, Send, Answer, End, Reading}
use Rattle.station_spec.specs.Deciding.{decided}
use Rattle.station_spec.specs.Judging.{Payload, wanted, filled, IsRead}
use Rattle.station_spec.specs.Next.{IsQuiet}
use Rattle.station_spec.specs.States.{State, Todo, first}
use Rattle.station_spec.specs.Sharing.{Shows}
use Rattle.car_spec.specs.Codecs as car
use Rattle.car_spec.specs.Codecs.{Chosen, Told, WrongSide, Refused}
use Rattle.car_spec.specs.Steps as car_steps
use Rattle.pair_ends.specs.declared.tallies.PostTally.{PostTally}
use Rattle.pair_ends.specs.declared.tallies.CarTally.{CarTally}
use Rattle.pair_ends.specs.Ends.{PostSide, CarSide, PostDoes, PostRests, CarGoes, CarRests}
use Rattle.pair_ends.specs.Tallies.{post_did, car_read, car_did}
use Rattle.pair_talk.specs.Keeping.{PostIsQuiet}
use Rattle.pair_talk.specs.Lessening.{Keeps, hearings_left, left, Lessens}
use Rattle.pair_talk.specs.Sides.{Sides}

-- ---- acts

post_hearings : (act : Act) (t : PostTally) → (post_did act t).hearings ≡ t.hearings
post_hearings (Give order.Close) t = refl
post_hearings (Give order.Open) t = refl
post_hearings (Give (order.Limits voltage current watts)) t = refl
post_hearings (Send bytes) t = refl
post_hearings (Answer bytes) t = refl
post_hearings (End cause) t = refl

read_hearings : (judged : car.Judged) (t : CarTally) → (car_read judged t).hearings ≡ t.hearings
read_hearings (Chosen dialect) t = refl
read_hearings (Told reply) t = refl
read_hearings WrongSide t = refl
read_hearings Refused t = refl

did_hearings : (act : car_steps.Act) (t : CarTally) → (car_did act t).hearings ≡ t.hearings
did_hearings (car_steps.Seek datagram) t = refl
did_hearings (car_steps.Dial port) t = refl
did_hearings (car_steps.Give order) t = refl
did_hearings (car_steps.Say spoken bytes) t = refl
did_hearings (car_steps.End cause) t = refl

post_same : (c : Codecs) (now : ℕ) (p new : PostSide) (way way_new : List ℕ) (b : Bool) → MatchBool b (PostDoes c now p way new way_new) (PostRests p way new way_new) → new.tally.hearings ≡ p.tally.hearings
post_same c now p new way way_new true d = ap (λ (x : PostSide). x.tally.hearings) d.new_is ∙ post_hearings d.act p.tally
post_same c now p new way way_new false d = ap (λ (x : PostSide). x.tally.hearings) d.new_is

pub post_keeps : (c : Codecs) (s : Sides) (new : PostSide) (way : List ℕ) (b : Bool) → MatchBool b (PostDoes c s.moment s.post s.to_car new way) (PostRests s.post s.to_car new way) → Keeps s (record s { post = new; to_car = way })
post_keeps c s new way b d = record { turns_are = refl; plan_is = refl; moment_is = refl; post_hearings = post_same c s.moment s.post new s.to_car way b d; car_hearings = refl }

pub record CarKeeps (s new : CarSide) : Type 0 where
  pub plan_is : new.plan ≡ s.plan
  pub hearings_are : new.tally.hearings ≡ s.tally.hearings

car_same : (ccs : car.Codecs) (s new : CarSide) (way way_new : List ℕ) (b : Bool) → MatchBool b (CarGoes ccs s way new way_new) (CarRests s way new way_new) → CarKeeps s new
car_same ccs s new way way_new true (inl d) = record { plan_is = ap (λ (x : CarSide). x.plan) d.new_is; hearings_are = ap (λ (x : CarSide). x.tally.hearings) d.new_is ∙ read_hearings d.judged s.tally }
car_same ccs s new way way_new true (inr d) = record { plan_is = ap (λ (x : CarSide). x.plan) d.new_is; hearings_are = ap (λ (x : CarSide). x.tally.hearings) d.new_is ∙ did_hearings d.act s.tally }
car_same ccs s new way way_new false d = record { plan_is = ap (λ (x : CarSide). x.plan) d.new_is; hearings_are = ap (λ (x : CarSide). x.tally.hearings) d.new_is }

pub car_keeps : (ccs : car.Codecs) (s : Sides) (new : CarSide) (way : List ℕ) (b : Bool) → MatchBool b (CarGoes ccs s.car s.to_station new way) (CarRests s.car s.to_station new way) → Keeps s (record s { car = new; to_station = way })
car_keeps ccs s new way b d =
    let k = car_same ccs s.car new s.to_station way b d in
    record { turns_are = refl; plan_is = k.plan_is; moment_is = refl; post_hearings = refl; car_hearings = k.hearings_are }

pub keeps_none : (s : Sides) → Keeps s s
keeps_none s = record { turns_are = refl; plan_is = refl; moment_is = refl; post_hearings = refl; car_hearings = refl }

pub keeps_then : (a b d : Sides) → Keeps a b → Keeps b d → Keeps a d
keeps_then a b d x y = record {
  turns_are = y.turns_are ∙ x.turns_are;
  plan_is = y.plan_is ∙ x.plan_is;
  moment_is = y.moment_is ∙ x.moment_is;
  post_hearings = y.post_hearings ∙ x.post_hearings;
  car_hearings = y.car_hearings ∙ x.car_hearings;
}

-- a post that has nothing to do does nothing
busy : (c : Codecs) (plan : PostPlan) (S : ℕ → ℕ → Type 0) (s : State) (r : Option Reading) (todo : Todo) → IsQuiet plan s → IsRead c plan S (decided plan s) (wanted (decided plan s)) r → first (filled plan r s).agenda ≡ Some todo → ⊥
busy c plan S s None todo q i f = let g : None ≡ Some todo = sym q.none ∙ f in cc
busy c plan S s (Some x) todo q i f = subst (λ (w : Option Payload). IsRead c plan S (decided plan s) w (Some x)) q.no_word i

pub stays : (c : Codecs) (s : Sides) (new : PostSide) (way : List ℕ) (b : Bool) → MatchBool b (PostDoes c s.moment s.post s.to_car new way) (PostRests s.post s.to_car new way) → PostIsQuiet s → record s { post = new; to_car = way } ≡ s
stays c s new way true d q = absurd (busy c s.post.plan (Shows s.post.limit [] []) s.post.post d.reading d.acts.todo q d.acts.read d.acts.acts)
stays c s new way false d q =
    let e = d.new_is in
    let f = d.way_is in
    λ i. record s { post = e i; to_car = f i }

-- ---- turns

kept_left : (a b : Sides) → Keeps a b → hearings_left b ≡ hearings_left a
kept_left a b k =
    let t = k.turns_are in
    let p = ap (λ (x : CarPlan). x.turns) k.plan_is in
    let m = k.post_hearings in
    let n = k.car_hearings in
    ap (λ (x : ℕ). (x - b.post.tally.hearings) + (b.car.plan.turns - b.car.tally.hearings)) t
    ∙ ap (λ (x : ℕ). (a.turns - x) + (b.car.plan.turns - b.car.tally.hearings)) m
    ∙ ap (λ (x : ℕ). (a.turns - a.post.tally.hearings) + (x - b.car.tally.hearings)) p
    ∙ ap (λ (x : ℕ). (a.turns - a.post.tally.hearings) + (a.car.plan.turns - x)) n

pub falls : (a b d : Sides) → Lessens a b → Keeps b d → (PostIsQuiet b → d.to_car ≡ b.to_car) → length d.to_car ≤ 1032 → left d < left a
falls a b d (inl l) k way short = let e = kept_left b d k in omega (arith, e, l, short)
falls a b d (inr l) k way short =
    let e = kept_left b d k in
    let f : length d.to_car ≡ length b.to_car = ap length (way l.quiet) in
    let same = l.same in
    let less = l.less in
    omega (arith, e, f, same, less)
