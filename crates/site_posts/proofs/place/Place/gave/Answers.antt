use Rattle.std.proofs.Common.{ℕ, refl, ap, ◌∙◌}
use Rattle.post_spec.specs.Steps.{Give}
use Rattle.station_spec.specs.States.{State}
use Rattle.station_spec.specs.Acting.{acted}
use Rattle.site_posts.proofs.place.Place.gave.Goals as goal

pub returns : goal.returns
returns c =
    let p = c.args.self.now in
    ap (λ (s : State). record { plan = p.plan; post = s; report = record p.report { closed = c.closed_with-self.result } }) (c.did.ensures (Give c.args.order) refl)
    ∙ ap (λ (n : ℕ). record { plan = p.plan; post = acted (Give c.args.order) c.args.taken p.post; report = record p.report { closed = n } }) c.closed_with-self.ensures
