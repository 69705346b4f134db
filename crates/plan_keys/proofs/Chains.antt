-- Keys that are read one after another.
use Rattle.std.proofs.Common.{◌≡◌, refl, ap, subst, ◌∙◌}
use Rattle.plan_keys.specs.declared.keys.Keys.{Keys}
use Rattle.plan_keys.specs.Keys.{Rule, members_of, Asked, asked_of, ask, Says, Rules, done, given, judged, ask_all, Holds, Reads}

pub none_left : {P : Type 0} {keys : Keys} {plan : P} → Reads done keys keys plan
none_left = record { asked = refl; holds = tt }

-- one key and those behind it
infixr 10 ◌▸◌
pub ◌▸◌ : {P X : Type 0} {old mid new : Keys} {rule : Rule X} {field : P → X} {more : X → Rules P} {plan : P}
    → Says rule old mid (field plan) → Reads (more (field plan)) mid new plan → Reads (given rule field more) old new plan
◌▸◌ {old = old} {new = new} {rule = rule} {field = field} {more = more} {plan = plan} says rest =
    let asked = rest.asked ∙ ap (ask_all (more (field plan))) says.asked in
    let holds = subst (λ (a : Asked). Holds (more (field plan)) a.members plan) says.asked rest.holds in
    record {
      asked = subst (λ x. asked_of new ≡ ask_all (more x) (ask rule (asked_of old))) says.value asked;
      holds = (says.value, subst (λ x. Holds (more x) (members_of old.table) plan) says.value holds);
    }

-- a key that is judged alone, and those behind it
pub and_judged : {P X : Type 0} {old mid new : Keys} {rule : Rule X} {said : X} {lines : Rules P} {plan : P}
    → Says rule old mid said → Reads lines mid new plan → Reads (judged rule lines) old new plan
and_judged {lines = lines} {plan = plan} says rest = record {
  asked = rest.asked ∙ ap (ask_all lines) says.asked;
  holds = subst (λ (a : Asked). Holds lines a.members plan) says.asked rest.holds;
}

-- the same value, said in other words
pub in_words : {X : Type 0} {rule : Rule X} {old new : Keys} {said other : X} → other ≡ said → Says rule old new said → Says rule old new other
in_words is says = record { value = is ∙ says.value; asked = says.asked }
