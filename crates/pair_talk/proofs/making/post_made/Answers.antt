use Rattle.std.proofs.Common.{◌≡◌, List, [], ◌∷◌, ◌++◌, refl, sym, ap, subst, ◌∙◌}
use Rattle.site_codec.specs.Replies.{IsPlan}
use Rattle.site_posts.specs.declared.place.Place.{Place}
use Rattle.site_posts.specs.Filling.{at}
use Rattle.pair_talk.proofs.making.post_made.Goals as goal

pub returns : goal.returns
returns c =
    let place = c.in_ok-make.field-0 in
    let alone : c.push.new.self.items ≡ place ∷ [] = c.in_ok-push.ensures.items ∙ ap (λ (ps : List Place). ps ++ place ∷ []) c.new-places.ensures.items in
    let plan_is = ap (λ (ps : List Place). (at ps 0).plan) alone in
    record {
      plan_is = plan_is ∙ ap (λ (p : Place). p.plan) c.in_ok-make.ensures.made;
      rules = subst IsPlan (sym plan_is) c.in_ok-make.ensures.plan;
      post_is = ap (λ (ps : List Place). (at ps 0).post) alone ∙ ap (λ (p : Place). p.post) c.in_ok-make.ensures.made;
      limit_is = refl;
      charger_is = c.new.ensures;
      tally_is = c.nothing.ensures;
    }
