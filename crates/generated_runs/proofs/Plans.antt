-- Each key of a plan says one value.
use Rattle.std.proofs.Common.{◌≡◌, ℕ, Bool, List, Option, sym, ◌∙◌}
use Rattle.charge_world.specs.declared.offer.Dialect.{Dialect}
use Rattle.session_words.specs.declared.mode.Mode.{Mode}
use Rattle.session_words.specs.declared.plan.CarPlan.{CarPlan}
use Rattle.session_words.specs.declared.plan.PostPlan.{PostPlan}
use Rattle.session_words.specs.declared.plan.Stop.{Stop}
use Rattle.site_plan.specs.Keys.{post_rules, car_rules}
use Rattle.generated_runs.specs.Determined.{FixedCarsAreOne, FixedPostsAreOne}

car_of : (sdp : ℕ) (tcp : Option ℕ) (turns : ℕ) (mode : Mode) (dialects : List Dialect) (car_id : List ℕ) (soc : ℕ) (target_voltage : ℕ) (target_current : ℕ) (max_voltage : ℕ) (max_current : ℕ) (min_current : ℕ) (max_watts : ℕ) (cycles : ℕ) (welding : ℕ) (pace : ℕ) (stop : Stop) (session : List ℕ) → CarPlan
car_of sdp tcp turns mode dialects car_id soc target_voltage target_current max_voltage max_current min_current max_watts cycles welding pace stop session = record { sdp = sdp; tcp = tcp; turns = turns; mode = mode; dialects = record { items = dialects }; car_id = car_id; soc = soc; target_voltage = target_voltage; target_current = target_current; max_voltage = max_voltage; max_current = max_current; min_current = min_current; max_watts = max_watts; cycles = cycles; welding = welding; pace = pace; stop = stop; session = record { bytes = record { items = session } } }

same_car : (a b : CarPlan) → a.sdp ≡ b.sdp → a.tcp ≡ b.tcp → a.turns ≡ b.turns → a.mode ≡ b.mode → a.dialects.items ≡ b.dialects.items → a.car_id ≡ b.car_id → a.soc ≡ b.soc
    → a.target_voltage ≡ b.target_voltage → a.target_current ≡ b.target_current → a.max_voltage ≡ b.max_voltage → a.max_current ≡ b.max_current → a.min_current ≡ b.min_current
    → a.max_watts ≡ b.max_watts → a.cycles ≡ b.cycles → a.welding ≡ b.welding → a.pace ≡ b.pace → a.stop ≡ b.stop → a.session.bytes.items ≡ b.session.bytes.items → a ≡ b
unfolding car_of
same_car a b sdp tcp turns mode dialects car_id soc target_voltage target_current max_voltage max_current min_current max_watts cycles welding pace stop session =
    let same : car_of a.sdp a.tcp a.turns a.mode a.dialects.items a.car_id a.soc a.target_voltage a.target_current a.max_voltage a.max_current a.min_current a.max_watts a.cycles a.welding a.pace a.stop a.session.bytes.items ≡ car_of b.sdp b.tcp b.turns b.mode b.dialects.items b.car_id b.soc b.target_voltage b.target_current b.max_voltage b.max_current b.min_current b.max_watts b.cycles b.welding b.pace b.stop b.session.bytes.items = cc in same

pub fixed_cars_are_one : FixedCarsAreOne
unfolding car_rules
fixed_cars_are_one ac a b x y = same_car a b
    (x.0 ∙ sym y.0)
    (x.1.0 ∙ sym y.1.0)
    (x.1.1.0 ∙ sym y.1.1.0)
    (x.1.1.1.0 ∙ sym y.1.1.1.0)
    (x.1.1.1.1.0 ∙ sym y.1.1.1.1.0)
    (x.1.1.1.1.1.0 ∙ sym y.1.1.1.1.1.0)
    (x.1.1.1.1.1.1.0 ∙ sym y.1.1.1.1.1.1.0)
    (x.1.1.1.1.1.1.1.0 ∙ sym y.1.1.1.1.1.1.1.0)
    (x.1.1.1.1.1.1.1.1.0 ∙ sym y.1.1.1.1.1.1.1.1.0)
    (x.1.1.1.1.1.1.1.1.1.0 ∙ sym y.1.1.1.1.1.1.1.1.1.0)
    (x.1.1.1.1.1.1.1.1.1.1.0 ∙ sym y.1.1.1.1.1.1.1.1.1.1.0)
    (x.1.1.1.1.1.1.1.1.1.1.1.0 ∙ sym y.1.1.1.1.1.1.1.1.1.1.1.0)
    (x.1.1.1.1.1.1.1.1.1.1.1.1.0 ∙ sym y.1.1.1.1.1.1.1.1.1.1.1.1.0)
    (x.1.1.1.1.1.1.1.1.1.1.1.1.1.0 ∙ sym y.1.1.1.1.1.1.1.1.1.1.1.1.1.0)
    (x.1.1.1.1.1.1.1.1.1.1.1.1.1.1.0 ∙ sym y.1.1.1.1.1.1.1.1.1.1.1.1.1.1.0)
    (x.1.1.1.1.1.1.1.1.1.1.1.1.1.1.1.0 ∙ sym y.1.1.1.1.1.1.1.1.1.1.1.1.1.1.1.0)
    (x.1.1.1.1.1.1.1.1.1.1.1.1.1.1.1.1.0 ∙ sym y.1.1.1.1.1.1.1.1.1.1.1.1.1.1.1.1.0)
    (x.1.1.1.1.1.1.1.1.1.1.1.1.1.1.1.1.1.0 ∙ sym y.1.1.1.1.1.1.1.1.1.1.1.1.1.1.1.1.1.0)

post_of : (tcp : ℕ) (sdp : ℕ) (mode : Mode) (dialects : List Dialect) (evse_id : List ℕ) (evse_id_din : List ℕ) (free : Bool) (max_watts : ℕ) (max_voltage : ℕ) (min_voltage : ℕ) (max_current : ℕ) (min_current : ℕ) (ripple : ℕ) (nominal : ℕ) → PostPlan
post_of tcp sdp mode dialects evse_id evse_id_din free max_watts max_voltage min_voltage max_current min_current ripple nominal = record { tcp = tcp; sdp = sdp; mode = mode; dialects = record { items = dialects }; evse_id = evse_id; evse_id_din = record { items = evse_id_din }; free = free; max_watts = max_watts; max_voltage = max_voltage; min_voltage = min_voltage; max_current = max_current; min_current = min_current; ripple = ripple; nominal = nominal }

same_post : (a b : PostPlan) → a.tcp ≡ b.tcp → a.sdp ≡ b.sdp → a.mode ≡ b.mode → a.dialects.items ≡ b.dialects.items → a.evse_id ≡ b.evse_id → a.evse_id_din.items ≡ b.evse_id_din.items → a.free ≡ b.free
    → a.max_watts ≡ b.max_watts → a.max_voltage ≡ b.max_voltage → a.min_voltage ≡ b.min_voltage → a.max_current ≡ b.max_current → a.min_current ≡ b.min_current → a.ripple ≡ b.ripple
    → a.nominal ≡ b.nominal → a ≡ b
unfolding post_of
same_post a b tcp sdp mode dialects evse_id evse_id_din free max_watts max_voltage min_voltage max_current min_current ripple nominal =
    let same : post_of a.tcp a.sdp a.mode a.dialects.items a.evse_id a.evse_id_din.items a.free a.max_watts a.max_voltage a.min_voltage a.max_current a.min_current a.ripple a.nominal ≡ post_of b.tcp b.sdp b.mode b.dialects.items b.evse_id b.evse_id_din.items b.free b.max_watts b.max_voltage b.min_voltage b.max_current b.min_current b.ripple b.nominal = cc in same

pub fixed_posts_are_one : FixedPostsAreOne
unfolding post_rules
fixed_posts_are_one ac a b x y = same_post a b
    (x.0 ∙ sym y.0)
    (x.1.0 ∙ sym y.1.0)
    (x.1.1.0 ∙ sym y.1.1.0)
    (x.1.1.1.0 ∙ sym y.1.1.1.0)
    (x.1.1.1.1.0 ∙ sym y.1.1.1.1.0)
    (x.1.1.1.1.1.0 ∙ sym y.1.1.1.1.1.0)
    (x.1.1.1.1.1.1.0 ∙ sym y.1.1.1.1.1.1.0)
    (x.1.1.1.1.1.1.1.0 ∙ sym y.1.1.1.1.1.1.1.0)
    (x.1.1.1.1.1.1.1.1.0 ∙ sym y.1.1.1.1.1.1.1.1.0)
    (x.1.1.1.1.1.1.1.1.1.0 ∙ sym y.1.1.1.1.1.1.1.1.1.0)
    (x.1.1.1.1.1.1.1.1.1.1.0 ∙ sym y.1.1.1.1.1.1.1.1.1.1.0)
    (x.1.1.1.1.1.1.1.1.1.1.1.0 ∙ sym y.1.1.1.1.1.1.1.1.1.1.1.0)
    (x.1.1.1.1.1.1.1.1.1.1.1.1.0 ∙ sym y.1.1.1.1.1.1.1.1.1.1.1.1.0)
    (x.1.1.1.1.1.1.1.1.1.1.1.1.1.0 ∙ sym y.1.1.1.1.1.1.1.1.1.1.1.1.1.0)
