-- Behind PowerDelivery Stop both contactors were ordered open, and nothing more is ordered.
use Rattle.std.proofs.Common.{◌≡◌, ℕ, Bool, true, false, if◌then◌else◌, List, [], ◌∷◌, Option, Some, None, refl, sym, ap, ◌∙◌, ◌⊎◌, inl, inr}
use Rattle.charge_world.specs.declared.offer.Dialect.{Dialect}
use Rattle.charge_world.specs.declared.ports.Order.{Order}
use Rattle.charge_world.specs.declared.ports.Order.TheVariants as order
use Rattle.session_words.specs.declared.plan.CarPlan.{CarPlan}
use Rattle.session_words.specs.declared.plan.PostPlan.{PostPlan}
use Rattle.session_words.specs.declared.word.Tell.{Tell}
use Rattle.session_rules.specs.Finishing.{is_ac}
use Rattle.session_rules.specs.Orders.{granted_order}
use Rattle.session_rules.specs.Verdict.{verdict, is_accepted}
use Rattle.post_spec.specs.Kinds.{says_finished}
use Rattle.car_rules.specs.declared.stage.CarPhase.{CarPhase}
use Rattle.car_rules.specs.declared.stage.CarPhase.TheVariants as phase
use Rattle.car_rules.specs.Moves.{is_pre_charged, renews, stops, first_power_phase, until_done, leads, order_of}
use Rattle.car_rules.specs.Replies.{is_ending}
use Rattle.car_rules.specs.Requests.{ask_of}
use Rattle.car_spec.specs.Spelled.{dropped_ask}
use Rattle.conforming_runs.proofs.Accepted.{requests_are_accepted}
use Rattle.pair_words.specs.Exchanges.{Both, Outside, asked, heard}
use Rattle.pair_words.specs.Meeting.{ArePaired, Meets}
use Rattle.pair_words.specs.Laws.{both, AreExchanges}
use Rattle.pair_words.specs.Orders.{ordered_behind, post_order, car_order, post_ordered, car_ordered, TheyOpen}
use Rattle.pair_words.proofs.Requests.{requests_conform}
use Rattle.pair_words.proofs.Sessions.{they_meet}

false_true : false ≡ true → ⊥
false_true e = cc

-- the phases behind PowerDelivery Stop
abbrev pub is_behind_stop : CarPhase → Bool
is_behind_stop (phase.Welding left) = true
is_behind_stop phase.Ending = true
is_behind_stop other = false

until : (done : Bool) (next again : CarPhase) → is_behind_stop next ≡ false → is_behind_stop again ≡ false → is_behind_stop (until_done done next again) ≡ true → ⊥
until true next again a b e = false_true (sym a ∙ e)
until false next again a b e = false_true (sym b ∙ e)

power : (ac : Bool) → is_behind_stop (if ac then phase.Starting else phase.CableChecking) ≡ false
power true = refl
power false = refl

charges_on : (stopping renewing : Bool) → is_behind_stop (if stopping then phase.Stopping else (if renewing then phase.Renegotiating else phase.Charging)) ≡ true → ⊥
charges_on true renewing e = false_true e
charges_on false true e = false_true e
charges_on false false e = false_true e

comes_from : (p : CarPhase) (plan : CarPlan) (d : Dialect) (told : Tell) (stopping : Bool) → is_behind_stop (leads plan d p told stopping) ≡ true
    → (p ≡ phase.Stopping) ⊎ (is_behind_stop p ≡ true)
comes_from phase.SettingUp plan d told stopping e = absurd (false_true e)
comes_from phase.Discovering plan d told stopping e = absurd (false_true e)
comes_from phase.Selecting plan d told stopping e = absurd (false_true e)
comes_from phase.Authorizing plan d told stopping e = absurd (until (says_finished told) phase.Asking phase.Authorizing refl refl e)
comes_from phase.Asking plan d told stopping e = absurd (until (says_finished told) (first_power_phase plan.mode) phase.Asking (power (is_ac plan.mode)) refl e)
comes_from phase.CableChecking plan d told stopping e = absurd (until (says_finished told) phase.PreCharging phase.CableChecking refl refl e)
comes_from phase.PreCharging plan d told stopping e = absurd (until (is_pre_charged plan.target_voltage told) phase.Starting phase.PreCharging refl refl e)
comes_from phase.Starting plan d told stopping e = absurd (false_true e)
comes_from phase.Charging plan d told stopping e = absurd (charges_on stopping (renews d told) e)
comes_from phase.Stopping plan d told stopping e = inl refl
comes_from phase.Renegotiating plan d told stopping e = absurd (false_true e)
comes_from (phase.Welding left) plan d told stopping e = inr refl
comes_from phase.Ending plan d told stopping e = inr refl

-- ---- the orders

taken : (b : Bool) (o : Option Order) → b ≡ true → (if b then o else None) ≡ o
taken true o e = refl
taken false o e = absurd (false_true e)

grants_nothing : (p : CarPhase) (post : PostPlan) (plan : CarPlan) (d : Dialect) (told shown : ℕ) → is_behind_stop p ≡ true → granted_order post told shown (dropped_ask (ask_of plan d p)) ≡ None
grants_nothing phase.SettingUp post plan d told shown e = absurd (false_true e)
grants_nothing phase.Discovering post plan d told shown e = absurd (false_true e)
grants_nothing phase.Selecting post plan d told shown e = absurd (false_true e)
grants_nothing phase.Authorizing post plan d told shown e = absurd (false_true e)
grants_nothing phase.Asking post plan d told shown e = absurd (false_true e)
grants_nothing phase.CableChecking post plan d told shown e = absurd (false_true e)
grants_nothing phase.PreCharging post plan d told shown e = absurd (false_true e)
grants_nothing phase.Starting post plan d told shown e = absurd (false_true e)
grants_nothing phase.Charging post plan d told shown e = absurd (false_true e)
grants_nothing phase.Stopping post plan d told shown e = absurd (false_true e)
grants_nothing phase.Renegotiating post plan d told shown e = absurd (false_true e)
grants_nothing (phase.Welding left) post plan d told shown e = refl
grants_nothing phase.Ending post plan d told shown e = refl

car_gives_nothing : (p : CarPhase) (plan : CarPlan) (told : Tell) → is_behind_stop p ≡ true → order_of plan p told ≡ None
car_gives_nothing phase.SettingUp plan told e = absurd (false_true e)
car_gives_nothing phase.Discovering plan told e = absurd (false_true e)
car_gives_nothing phase.Selecting plan told e = absurd (false_true e)
car_gives_nothing phase.Authorizing plan told e = absurd (false_true e)
car_gives_nothing phase.Asking plan told e = absurd (false_true e)
car_gives_nothing phase.CableChecking plan told e = absurd (false_true e)
car_gives_nothing phase.PreCharging plan told e = absurd (false_true e)
car_gives_nothing phase.Starting plan told e = absurd (false_true e)
car_gives_nothing phase.Charging plan told e = absurd (false_true e)
car_gives_nothing phase.Stopping plan told e = absurd (false_true e)
car_gives_nothing phase.Renegotiating plan told e = absurd (false_true e)
car_gives_nothing (phase.Welding left) plan told e = refl
car_gives_nothing phase.Ending plan told e = refl

post_gives : (post : PostPlan) (plan : CarPlan) (b : Both) (x : Outside) (o : Option Order) → is_accepted (verdict b.post x.facts post (asked plan b.car)) ≡ true
    → granted_order post b.post.told x.shown (asked plan b.car).ask ≡ o → post_order post plan b x ≡ o
post_gives post plan b x o a g = taken (is_accepted (verdict b.post x.facts post (asked plan b.car))) (granted_order post b.post.told x.shown (asked plan b.car).ask) a ∙ g

record AreOpened (post : PostPlan) (plan : CarPlan) (token : ℕ) (d : Dialect) (xs : List Outside) : Type 0 where
  at_post : post_ordered post plan token d xs ≡ Some order.Open
  at_car : car_ordered post plan token d xs ≡ Some order.Open

opens : (post : PostPlan) (plan : CarPlan) (token : ℕ) (d : Dialect) (x : Outside) (xs : List Outside) → is_accepted (verdict (both post plan token d xs).post x.facts post (asked plan (both post plan token d xs).car)) ≡ true
    → (is_behind_stop (both post plan token d xs).car.phase ≡ true → AreOpened post plan token d xs)
    → ((both post plan token d xs).car.phase ≡ phase.Stopping) ⊎ (is_behind_stop (both post plan token d xs).car.phase ≡ true) → AreOpened post plan token d (x ∷ xs)
opens post plan token d x xs a k (inl e) =
    let given : post_order post plan (both post plan token d xs) x ≡ Some order.Open =
    post_gives post plan (both post plan token d xs) x (Some order.Open) a
    (ap (λ (p : CarPhase). granted_order post (both post plan token d xs).post.told x.shown (dropped_ask (ask_of plan (both post plan token d xs).car.dialect p))) e) in
    let own : car_order post plan (both post plan token d xs) x ≡ Some order.Open =
    ap (λ (p : CarPhase). order_of plan p (heard post plan (both post plan token d xs) x).tell) e in
    record {
      at_post = ap (λ (o : Option Order). ordered_behind o (post_ordered post plan token d xs)) given;
      at_car = ap (λ (o : Option Order). ordered_behind o (car_ordered post plan token d xs)) own;
    }
opens post plan token d x xs a k (inr e) =
    let before : AreOpened post plan token d xs = k e in
    let given : post_order post plan (both post plan token d xs) x ≡ None =
    post_gives post plan (both post plan token d xs) x None a
    (grants_nothing (both post plan token d xs).car.phase post plan (both post plan token d xs).car.dialect (both post plan token d xs).post.told x.shown e) in
    let own : car_order post plan (both post plan token d xs) x ≡ None =
    car_gives_nothing (both post plan token d xs).car.phase plan (heard post plan (both post plan token d xs) x).tell e in
    record {
      at_post = ap (λ (o : Option Order). ordered_behind o (post_ordered post plan token d xs)) given ∙ before.at_post;
      at_car = ap (λ (o : Option Order). ordered_behind o (car_ordered post plan token d xs)) own ∙ before.at_car;
    }

accepted : (post : PostPlan) (plan : CarPlan) (token : ℕ) (d : Dialect) (x : Outside) (xs : List Outside) → ArePaired post plan → AreExchanges post plan token d (x ∷ xs)
    → is_accepted (verdict (both post plan token d xs).post x.facts post (asked plan (both post plan token d xs).car)) ≡ true
accepted post plan token d x xs p a =
    let m : Meets post (both post plan token d xs) = they_meet post plan token d xs p a.0 in
    requests_are_accepted (both post plan token d xs).post x.facts post (asked plan (both post plan token d xs).car) (requests_conform post plan (both post plan token d xs) x p m a.2)

behind_stop : (post : PostPlan) (plan : CarPlan) (token : ℕ) (d : Dialect) (xs : List Outside) → ArePaired post plan → AreExchanges post plan token d xs
    → is_behind_stop (both post plan token d xs).car.phase ≡ true → AreOpened post plan token d xs
behind_stop post plan token d [] p a e = absurd (false_true e)
behind_stop post plan token d (x ∷ xs) p a e =
    opens post plan token d x xs (accepted post plan token d x xs p a) (behind_stop post plan token d xs p a.0)
    (comes_from (both post plan token d xs).car.phase plan (both post plan token d xs).car.dialect (heard post plan (both post plan token d xs) x).tell
    (stops plan (both post plan token d xs).car.cycles x.stop (heard post plan (both post plan token d xs) x).tell) e)

ends_behind : (p : CarPhase) → is_ending p ≡ true → is_behind_stop p ≡ true
ends_behind phase.SettingUp e = absurd (false_true e)
ends_behind phase.Discovering e = absurd (false_true e)
ends_behind phase.Selecting e = absurd (false_true e)
ends_behind phase.Authorizing e = absurd (false_true e)
ends_behind phase.Asking e = absurd (false_true e)
ends_behind phase.CableChecking e = absurd (false_true e)
ends_behind phase.PreCharging e = absurd (false_true e)
ends_behind phase.Starting e = absurd (false_true e)
ends_behind phase.Charging e = absurd (false_true e)
ends_behind phase.Stopping e = absurd (false_true e)
ends_behind phase.Renegotiating e = absurd (false_true e)
ends_behind (phase.Welding left) e = absurd (false_true e)
ends_behind phase.Ending e = refl

pub they_open : TheyOpen
they_open post plan token d [] p a e = absurd (false_true e)
they_open post plan token d (x ∷ xs) p a e =
    let o : AreOpened post plan token d (x ∷ xs) = opens post plan token d x xs (accepted post plan token d x xs p a) (behind_stop post plan token d xs p a.0)
    (inr (ends_behind (both post plan token d xs).car.phase e)) in
    (o.at_post, o.at_car)
