-- What holds from before the wire was started.
use Rattle.std.proofs.Common.{◌≡◌, ℕ, List, [], length, map, Option, Some, None, IsSome, refl, ap, ◌∙◌, subst, arith}
use Rattle.std.proofs.lemmas.List.{length-map}
use Rattle.charge_world.specs.declared.entry.Entry.{Entry}
use Rattle.charge_world.specs.Outside.{Grows}
use Rattle.session_words.specs.declared.plan.PostPlan.{PostPlan}
use Rattle.station_spec.specs.Runs.{unheard}
use Rattle.endpoint.specs.Telling.{Carries, CarriesText}
use Rattle.site_posts.specs.declared.place.Place.{Place}
use Rattle.site_posts.specs.Places.{place_of}
use Rattle.site_posts.specs.Filling.{at}
use Rattle.site_laws.specs.Ending.{AreCounts, Counts}
use Rattle.station_command.specs.Lines.{reports_of, CountFrom}
use Rattle.station_command.proofs.Printed.{as_many, counts_from}

abbrev pub IsNew : List Entry → Type 0
IsNew past = past ≡ []

pub started_run : (before then after : Option (List Entry)) (Q : List Entry → Type 0) → Grows before then [] → Carries then after IsNew Q → Carries before after IsNew Q
started_run before then None Q h k = tt
started_run before None (Some new) Q h k = absurd k
started_run None (Some mid) (Some new) Q h k = absurd h
started_run (Some old) (Some mid) (Some new) Q h k = λ none. k (h ∙ none)

pub started_untils : (before then after : Option (List Entry)) (earlier told : List ℕ) (Q : List Entry → Type 0) → Grows before then [] → (IsSome then → told ≡ earlier)
    → Carries then after (λ past. (past ≡ []) × (told ≡ [])) Q → Carries before after (λ past. (past ≡ []) × (earlier ≡ [])) Q
started_untils before then None earlier told Q h same k = tt
started_untils before None (Some new) earlier told Q h same k = absurd k
started_untils None (Some mid) (Some new) earlier told Q h same k = absurd h
started_untils (Some old) (Some mid) (Some new) earlier told Q h same k = λ none. k (h ∙ none.0, same refl ∙ none.1)

pub started_text : (before then after : Option (List Entry)) (t u : Option (List ℕ)) (Q : List Entry → List ℕ → Type 0) → Grows before then []
    → CarriesText then after t u (λ past text. (past ≡ []) × (text ≡ [])) Q → CarriesText before after t u (λ past text. (past ≡ []) × (text ≡ [])) Q
started_text before then None t u Q h k = tt
started_text before None (Some new) t u Q h k = absurd k
started_text None (Some mid) (Some new) t u Q h k = absurd h
started_text (Some old) (Some mid) (Some new) t None Q h k = tt
started_text (Some old) (Some mid) (Some new) None (Some text) Q h k = absurd k
started_text (Some old) (Some mid) (Some new) (Some earlier) (Some text) Q h k = λ none. k (h ∙ none.0, none.1)

pub counted : (before after : Option (List Entry)) (places : List Place) → Carries before after IsNew (AreCounts places)
    → Carries before after IsNew (CountFrom 1 (reports_of places))
counted before None places h = tt
counted None (Some new) places h = absurd h
counted (Some old) (Some new) places h = λ none.
    counts_from places 1 new (λ i within. subst (λ (n : ℕ). Counts n (at places i).report new) (omega arith) (h none i within))

-- a report for each post
pub report_each : (plans : List PostPlan) (made places : List Place) → made ≡ map place_of (map unheard plans) → length places ≡ length made
    → length (reports_of places) ≡ length plans
report_each plans made places is same =
    as_many places ∙ same ∙ ap (λ (ps : List Place). length ps) is ∙ simp length-map
