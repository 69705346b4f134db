-- Posts that are made of plans, one after another.
use Rattle.std.proofs.Common.{◌≡◌, ◌+◌, ◌<◌, ℕ, zero, suc, List, [], ◌∷◌, ◌++◌, length, map, take, get_or, sym, ap, subst, ◌∙◌, arith}
use Rattle.std.proofs.Math.Seq.{take-length}
use Rattle.std.proofs.lemmas.List.{map-append, take_more}
use Rattle.std.specs.List.{All}
use Rattle.std.proofs.lemmas.List.Elements.{All-append}
use Rattle.session_words.specs.declared.plan.PostPlan.{PostPlan}
use Rattle.station_spec.specs.Runs.{unheard}
use Rattle.site_codec.specs.Replies.{IsPlan}
use Rattle.site_posts.specs.declared.place.Place.{Place}
use Rattle.site_posts.specs.Places.{place_of}

pub made_more : (plans : List PostPlan) (i : ℕ) (p : PostPlan) (x : Place) (places new : List Place) → i < length plans → p ≡ get_or plans i p → x ≡ place_of (unheard p) → new ≡ places ++ x ∷ []
    → places ≡ map place_of (map unheard (take i plans)) → new ≡ map place_of (map unheard (take (i + 1) plans))
made_more plans i p x places new less p_is x_is new_is are =
    let q = get_or plans i p in
    let more : map place_of (map unheard (take (i + 1) plans)) ≡ map place_of (map unheard (take i plans)) ++ place_of (unheard q) ∷ [] =
    ap (λ (ps : List PostPlan). map place_of (map unheard ps)) (take_more plans i p less) ∙ ap (map place_of) (map-append unheard (take i plans) (q ∷ [])) ∙ map-append place_of (map unheard (take i plans)) (unheard q ∷ []) in
    new_is ∙ ap (λ (ps : List Place). ps ++ x ∷ []) are ∙ ap (λ (y : Place). map place_of (map unheard (take i plans)) ++ y ∷ []) (x_is ∙ ap (λ (r : PostPlan). place_of (unheard r)) p_is) ∙ sym more

one_plan : (x : Place) → IsPlan x.plan → (k : ℕ) (d : Place) → k < length (x ∷ []) → IsPlan (get_or (x ∷ []) k d).plan
one_plan x h zero d less = h
one_plan x h (suc k) d less = absurd (omega (arith, less))

pub made_all : (plans : List PostPlan) (i : ℕ) (places : List Place) → i ≡ length plans → places ≡ map place_of (map unheard (take i plans)) → places ≡ map place_of (map unheard plans)
made_all plans i places all are = are ∙ ap (λ (n : ℕ). map place_of (map unheard (take n plans))) all ∙ ap (λ (ps : List PostPlan). map place_of (map unheard ps)) (take-length plans)

pub plan_more : (places new : List Place) (x : Place) → new ≡ places ++ x ∷ [] → IsPlan x.plan → All (λ p. IsPlan p.plan) places → All (λ p. IsPlan p.plan) new
plan_more places new x e one all = subst (All (λ (p : Place). IsPlan p.plan)) (sym e) (All-append (λ p. IsPlan p.plan) places (x ∷ []) all (one_plan x one))
