use Rattle.std.proofs.Common.{ℕ, ◌^◌, true, refl, ap, ◌∙◌}
use Rattle.std.specs.Prelude.{bit_or}
use Rattle.post_spec.specs.Steps.{End}
use Rattle.session_words.specs.Causes.{number_of}
use Rattle.station_spec.specs.States.{State}
use Rattle.station_spec.specs.Acting.{acted}
use Rattle.site_posts.proofs.place.Place.ended.Goals as goal

pub returns : goal.returns
returns c =
    let p = c.args.self.now in
    let n = number_of c.args.cause in
    ap (λ (s : State). record { plan = p.plan; post = s; report = record p.report { causes = c.with-self.result } }) (c.did.ensures (End n) (n, refl))
    ∙ ap (λ (m : ℕ). record { plan = p.plan; post = acted (End n) true p.post; report = record p.report { causes = record { 0 = m } } }) (c.with-self.ensures ∙ ap (λ (m : ℕ). bit_or p.report.causes.0 (2 ^ m)) c.small_number.ensures.value)
