-- What the texts of the plans that are there without a file say.
use Rattle.std.specs.Prelude.{◌≡◌, Bool, true, false, codes, pos, Ok, refl}
use Rattle.std.proofs.Common.{arith}
use Rattle.toml.specs.Data.{Members, no_members, member, no_items, item, string, integer, array, table}
use Rattle.toml.proofs.OnLiterals.{toml_on_literals}
use Rattle.session_words.specs.declared.plan.SitePlan.{SitePlan}
use Rattle.session_words.specs.declared.plan.CarPlan.{CarPlan}
use Rattle.plan_keys.specs.Faults.{text_says}
use Rattle.plan_keys.proofs.Documents.{is_document}
use Rattle.site_plan.specs.Keys.{post_rules, car_rules}
use Rattle.site_plan.specs.Plans.{site_text, car_text, IsFixedSite, IsFixedCar, IsSitePlanOf, IsCarPlanOf}

-- the members of the table of a car or a post
abbrev call : Bool → Members
call true = member (codes "mode") (string (codes "AC_three_phase_core")) (member (codes "tcp") (integer (pos 15120)) no_members)
call false = member (codes "tcp") (integer (pos 15120)) no_members

abbrev site_members : Bool → Members
site_members ac = member (codes "post") (array (item (table (call ac)) no_items)) no_members

site_read : (ac : Bool) → text_says (site_text ac) ≡ Ok (site_members ac)
unfolding toml_on_literals lib.Utf8.encode
site_read true = is_document (site_text true) (site_members true) (omega arith) ((site_text true, (refl, refl)), refl)
site_read false = is_document (site_text false) (site_members false) (omega arith) ((site_text false, (refl, refl)), refl)

car_read : (ac : Bool) → text_says (car_text ac) ≡ Ok (call ac)
unfolding toml_on_literals lib.Utf8.encode
car_read true = is_document (car_text true) (call true) (omega arith) ((car_text true, (refl, refl)), refl)
car_read false = is_document (car_text false) (call false) (omega arith) ((car_text false, (refl, refl)), refl)

pub site_said : (ac : Bool) (site : SitePlan) → IsFixedSite ac site → IsSitePlanOf (site_text ac) site
unfolding post_rules
site_said true site h = (site_members true, site_read true, refl, record { keys = h.limits; posts = rw h.alone (h.keys, tt) })
site_said false site h = (site_members false, site_read false, refl, record { keys = h.limits; posts = rw h.alone (h.keys, tt) })

pub car_said : (ac : Bool) (car : CarPlan) → IsFixedCar ac car → IsCarPlanOf (car_text ac) car
unfolding car_rules
car_said true car h = (call true, car_read true, refl, record { keys = h })
car_said false car h = (call false, car_read false, refl, record { keys = h })
