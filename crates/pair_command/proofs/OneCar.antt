-- A text is at most one plan of a car.
use Rattle.std.proofs.Common.{◌≡◌, ℕ, List, Option, sym, ◌∙◌, subst}
use Rattle.toml.specs.Data.{Members}
use Rattle.charge_world.specs.declared.offer.Dialect.{Dialect}
use Rattle.session_words.specs.declared.mode.Mode.{Mode}
use Rattle.session_words.specs.declared.plan.CarPlan.{CarPlan}
use Rattle.session_words.specs.declared.plan.Stop.{Stop}
use Rattle.plan_keys.specs.Keys.{Holds}
use Rattle.plan_keys.specs.Faults.{text_says}
use Rattle.site_plan.specs.Keys.{car_rules}
use Rattle.site_plan.specs.Plans.{car_file, IsCarOf, IsCarPlanOf}
use Rattle.planned_traces.proofs.Texts.{same_table}

-- a plan by its fields, which are all keys of a table
car_of : (sdp : ℕ) (tcp : Option ℕ) (turns : ℕ) (mode : Mode) (dialects : List Dialect) (car_id : List ℕ) (soc target_voltage target_current max_voltage : ℕ)
    (max_current min_current max_watts cycles welding pace : ℕ) (stop : Stop) (session : List ℕ) → CarPlan
car_of sdp tcp turns mode dialects car_id soc target_voltage target_current max_voltage max_current min_current max_watts cycles welding pace stop session = record {
  sdp = sdp;
  tcp = tcp;
  turns = turns;
  mode = mode;
  dialects = record { items = dialects };
  car_id = car_id;
  soc = soc;
  target_voltage = target_voltage;
  target_current = target_current;
  max_voltage = max_voltage;
  max_current = max_current;
  min_current = min_current;
  max_watts = max_watts;
  cycles = cycles;
  welding = welding;
  pace = pace;
  stop = stop;
  session = record { bytes = record { items = session } };
}

same_fields : (p q : CarPlan) → p.sdp ≡ q.sdp → p.tcp ≡ q.tcp → p.turns ≡ q.turns → p.mode ≡ q.mode → p.dialects.items ≡ q.dialects.items → p.car_id ≡ q.car_id → p.soc ≡ q.soc
    → p.target_voltage ≡ q.target_voltage → p.target_current ≡ q.target_current → p.max_voltage ≡ q.max_voltage → p.max_current ≡ q.max_current → p.min_current ≡ q.min_current
    → p.max_watts ≡ q.max_watts → p.cycles ≡ q.cycles → p.welding ≡ q.welding → p.pace ≡ q.pace → p.stop ≡ q.stop → p.session.bytes.items ≡ q.session.bytes.items → p ≡ q
unfolding car_of
same_fields p q sdp tcp turns mode dialects car_id soc target_voltage target_current max_voltage max_current min_current max_watts cycles welding pace stop session =
    let same : car_of p.sdp p.tcp p.turns p.mode p.dialects.items p.car_id p.soc p.target_voltage p.target_current p.max_voltage p.max_current p.min_current p.max_watts p.cycles p.welding p.pace p.stop p.session.bytes.items
    ≡ car_of q.sdp q.tcp q.turns q.mode q.dialects.items q.car_id q.soc q.target_voltage q.target_current q.max_voltage q.max_current q.min_current q.max_watts q.cycles q.welding q.pace q.stop q.session.bytes.items = cc in
    same

same_car : (table : Members) (p q : CarPlan) → Holds car_file table p → Holds car_file table q → p ≡ q
unfolding car_rules
same_car table p q x y = same_fields p q
    (x.0 ∙ sym y.0)
    (x.1.0 ∙ sym y.1.0)
    (x.1.1.0 ∙ sym y.1.1.0)
    (x.1.1.1.0 ∙ sym y.1.1.1.0)
    (x.1.1.1.1.0 ∙ sym y.1.1.1.1.0)
    (x.1.1.1.1.1.0 ∙ sym y.1.1.1.1.1.0)
    (x.1.1.1.1.1.1.0 ∙ sym y.1.1.1.1.1.1.0)
    (x.1.1.1.1.1.1.1.0 ∙ sym y.1.1.1.1.1.1.1.0)
    (x.1.1.1.1.1.1.1.1.0 ∙ sym y.1.1.1.1.1.1.1.1.0)
    (x.1.1.1.1.1.1.1.1.1.0 ∙ sym y.1.1.1.1.1.1.1.1.1.0)
    (x.1.1.1.1.1.1.1.1.1.1.0 ∙ sym y.1.1.1.1.1.1.1.1.1.1.0)
    (x.1.1.1.1.1.1.1.1.1.1.1.0 ∙ sym y.1.1.1.1.1.1.1.1.1.1.1.0)
    (x.1.1.1.1.1.1.1.1.1.1.1.1.0 ∙ sym y.1.1.1.1.1.1.1.1.1.1.1.1.0)
    (x.1.1.1.1.1.1.1.1.1.1.1.1.1.0 ∙ sym y.1.1.1.1.1.1.1.1.1.1.1.1.1.0)
    (x.1.1.1.1.1.1.1.1.1.1.1.1.1.1.0 ∙ sym y.1.1.1.1.1.1.1.1.1.1.1.1.1.1.0)
    (x.1.1.1.1.1.1.1.1.1.1.1.1.1.1.1.0 ∙ sym y.1.1.1.1.1.1.1.1.1.1.1.1.1.1.1.0)
    (x.1.1.1.1.1.1.1.1.1.1.1.1.1.1.1.1.0 ∙ sym y.1.1.1.1.1.1.1.1.1.1.1.1.1.1.1.1.0)
    (x.1.1.1.1.1.1.1.1.1.1.1.1.1.1.1.1.1.0 ∙ sym y.1.1.1.1.1.1.1.1.1.1.1.1.1.1.1.1.1.0)

pub one_car : (text : List ℕ) (p q : CarPlan) → IsCarPlanOf text p → IsCarPlanOf text q → p ≡ q
one_car text p q a b =
    let table : a.0 ≡ b.0 = same_table (text_says text) a.0 b.0 a.1 b.1 in
    let first : IsCarOf b.0 p = subst (λ (t : Members). IsCarOf t p) table a.3 in
    let other : IsCarOf b.0 q = b.3 in
    same_car b.0 p q first.keys other.keys
