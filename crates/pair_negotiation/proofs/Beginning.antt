-- Each end judges the other's first payload in one way.
use Rattle.std.proofs.Common.{◌≡◌, ℕ, List, ◌∷◌, ◌++◌, Contains, Option, Some, refl, sym, ap, subst, ◌∙◌, arith}
use Rattle.std.proofs.lemmas.List.Elements.{Contains-append_right}
use Rattle.charge_world.specs.declared.offer.Dialect.{Dialect}
use Rattle.session_words.specs.declared.plan.CarPlan.{CarPlan}
use Rattle.session_words.specs.declared.plan.PostPlan.{PostPlan}
use Rattle.session_rules.specs.declared.stage.Stage.{Stage}
use Rattle.session_rules.specs.Stages.{negotiated}
use Rattle.post_spec.specs.Codecs as post
use Rattle.post_spec.specs.Spelled as post_spelled
use Rattle.station_spec.specs.States.{Session}
use Rattle.station_spec.specs.Deciding.{decided}
use Rattle.station_spec.specs.Judging.{speaks, taken_in}
use Rattle.station_spec.specs.Judging as station
use Rattle.car_rules.specs.declared.stage.CarStage.{CarStage}
use Rattle.car_spec.specs.Codecs as car
use Rattle.car_spec.specs.Spelled as car_spelled
use Rattle.car_spec.specs.States as car_states
use Rattle.car_spec.specs.Deciding as car_deciding
use Rattle.car_spec.specs.Judging as car_judging
use Rattle.pipe_spec.specs.Matched.{IsShared}
use Rattle.pair_readings.specs.Codecs.{AreMutual}
use Rattle.pair_negotiation.specs.Agreeing.{IsPreferred, AreAgreed}
use Rattle.pair_negotiation.specs.Beginning.{responding, PostResponds, CarBegins, PairsBegin}

responds : (c : post.Codecs) (cc : car.Codecs) (plan : PostPlan) (car_plan : CarPlan) (token : ℕ) (request : List ℕ) → AreMutual c cc
    → (a : AreAgreed c cc plan.dialects.items car_plan.dialects.items request) → PostResponds c plan car_plan token request a.dialect a.response
responds c cc plan car_plan token request m a s session judged shown e stage j =
    let one : post_spelled.AreDetermined c = m.of_post in
    let first : c.Negotiates plan.dialects.items request judged =
    subst (λ (z : Stage). post.Judges c plan.dialects.items (speaks z) request judged) stage j in
    let same : judged ≡ post.Negotiated (Some a.dialect) a.response =
    one.negotiates plan.dialects.items request judged (post.Negotiated (Some a.dialect) a.response) first a.negotiated in
    ap (λ (o : Option Session). taken_in plan (decided plan s) o (record { judged = judged; shown = shown })) e
    ∙ ap (λ (w : post.Judged). station.judged plan (decided plan s) session w shown) same
    ∙ ap (λ (z : Stage). responding (decided plan s) session (negotiated z a.dialect) a.response) stage

begins : (c : post.Codecs) (cc : car.Codecs) (post_plan : PostPlan) (plan : CarPlan) (token : ℕ) (request : List ℕ) → AreMutual c cc
    → (a : AreAgreed c cc post_plan.dialects.items plan.dialects.items request) → CarBegins cc post_plan plan token a.dialect a.response
begins c cc post_plan plan token request m a s session judged e stage j =
    let one : car_spelled.AreDetermined cc = m.of_car in
    let first : cc.Responds plan.dialects.items a.response judged =
    subst (λ (z : Option CarStage). car.Judges cc plan.dialects.items (car_judging.dialect_of z) a.response judged) stage j in
    let same : judged ≡ car.Chosen (Some a.dialect) =
    one.responds plan.dialects.items a.response judged (car.Chosen (Some a.dialect)) first a.chosen in
    ap (λ (o : Option car_states.Session). car_judging.judged_in plan (car_deciding.decided plan s) o judged) e
    ∙ ap (λ (w : car.Judged). car_judging.judged plan (car_deciding.decided plan s) session w) same

there : (before behind : List Dialect) (dialect : Dialect) → Contains (before ++ dialect ∷ behind) dialect
there before behind dialect = Contains-append_right before (dialect ∷ behind) dialect (0, omega arith, refl)

is_shared : (post_plan : PostPlan) (plan : CarPlan) (dialect : Dialect) → IsPreferred post_plan.dialects.items plan.dialects.items dialect
    → IsShared post_plan plan dialect
is_shared post_plan plan dialect p = record {
  of_post = p.offered;
  of_car = subst (λ (ds : List Dialect). Contains ds dialect) (sym p.dialects_are) (there p.before p.behind dialect);
}

pub pairs_begin : (c : post.Codecs) (cc : car.Codecs) → PairsBegin c cc
pairs_begin c cc m shared post_plan plan token request p offers =
    let both_speak : IsShared post_plan plan p.matched.dialect = p.matched.shared in
    let a : AreAgreed c cc post_plan.dialects.items plan.dialects.items request =
    shared.agree post_plan.dialects.items plan.dialects.items p.matched.dialect request both_speak.of_post both_speak.of_car offers in
    record {
      dialect = a.dialect;
      preferred = a.preferred;
      shared = is_shared post_plan plan a.dialect a.preferred;
      response = a.response;
      responds = responds c cc post_plan plan token request m a;
      begins = begins c cc post_plan plan token request m a;
      meets = record { dialect = refl; in_row = refl; named = tt; near = tt };
    }
