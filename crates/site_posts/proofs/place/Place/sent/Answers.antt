use Rattle.std.proofs.Common.{refl, ap}
use Rattle.post_spec.specs.Steps.{Send}
use Rattle.station_spec.specs.States.{State}
use Rattle.site_posts.proofs.place.Place.sent.Goals as goal

pub returns : goal.returns
returns c bytes =
    let p = c.args.self.now in
    ap (λ (s : State). record p { post = s }) (c.did.ensures (Send bytes) (bytes, refl))
