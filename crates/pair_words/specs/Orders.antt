-- IEC 61851-23; ISO 15118-2:2014, 8.8.4: the orders that both ends give to their contactors in a session of plans that match.
use Rattle.std.specs.Prelude.{◌≡◌, ℕ, true, List, [], ◌∷◌, Option, Some, None}
use Rattle.charge_world.specs.declared.offer.Dialect.{Dialect}
use Rattle.charge_world.specs.declared.ports.Order.{Order}
use Rattle.charge_world.specs.declared.ports.Order.TheVariants as order
use Rattle.session_words.specs.declared.plan.CarPlan.{CarPlan}
use Rattle.session_words.specs.declared.plan.PostPlan.{PostPlan}
use Rattle.session_rules.specs.Orders.{order_of}
use Rattle.car_rules.specs.Moves as car
use Rattle.pipe_spec.specs.Counts.{contactor_order}
use Rattle.pair_words.specs.Exchanges.{Both, Outside, asked, heard}
use Rattle.pair_words.specs.Meeting.{ArePaired}
use Rattle.pair_words.specs.Laws.{both, has_ended, AreExchanges}

-- the last order to a contactor behind one more, where there is one
abbrev pub ordered_behind : Option Order → Option Order → Option Order
ordered_behind None earlier = earlier
ordered_behind (Some order) earlier = contactor_order order earlier

-- those of an exchange
abbrev pub post_order : PostPlan → CarPlan → Both → Outside → Option Order
post_order post plan b x = order_of b.post x.facts post (asked plan b.car) x.shown

abbrev pub car_order : PostPlan → CarPlan → Both → Outside → Option Order
car_order post plan b x = car.order_of plan b.car.phase (heard post plan b x).tell

-- the last ones of a session
abbrev pub post_ordered : PostPlan → CarPlan → ℕ → Dialect → List Outside → Option Order
post_ordered post plan token dialect [] = None
post_ordered post plan token dialect (x ∷ xs) =
    ordered_behind (post_order post plan (both post plan token dialect xs) x) (post_ordered post plan token dialect xs)

abbrev pub car_ordered : PostPlan → CarPlan → ℕ → Dialect → List Outside → Option Order
car_ordered post plan token dialect [] = None
car_ordered post plan token dialect (x ∷ xs) =
    ordered_behind (car_order post plan (both post plan token dialect xs) x) (car_ordered post plan token dialect xs)

-- behind SessionStop both were ordered open last
abbrev pub TheyOpen : Type 0
TheyOpen = (post : PostPlan) (plan : CarPlan) (token : ℕ) (dialect : Dialect) (xs : List Outside) → ArePaired post plan
    → AreExchanges post plan token dialect xs → has_ended post plan token dialect xs ≡ true
    → (post_ordered post plan token dialect xs ≡ Some order.Open) × (car_ordered post plan token dialect xs ≡ Some order.Open)
