-- Before anything was heard.
use Rattle.std.proofs.Common.{◌≡◌, ℕ, List, [], Option, sym, ap, subst}
use Rattle.std.specs.List.{All}
use Rattle.charge_world.specs.declared.entry.Entry.{Entry}
use Rattle.charge_world.specs.declared.offer.Dialect.{Dialect}
use Rattle.session_words.specs.declared.plan.SitePlan.{SitePlan}
use Rattle.session_words.specs.declared.word.Word.{Word}
use Rattle.post_spec.specs.Codecs.{Codecs}
use Rattle.site_codec.specs.Replies.{IsPlan}
use Rattle.site_posts.specs.declared.place.Place.{Place}
use Rattle.site_posts.specs.Places.{RestsAt}
use Rattle.site_acts.specs.Serving.{IsReady}
use Rattle.site_acts.proofs.Frame.{begins}
use Rattle.endpoint.specs.declared.hearing.SoFar.{SoFar}
use Rattle.endpoint.specs.Knowing.{nothing_heard, known_first}
use Rattle.site_turns.specs.Ending.{AreMadeOf}
use Rattle.site_turns.specs.SoFar.{IsSoFar}
use Rattle.site_turns.proofs.Heard.{made_ready, made_rest}

-- the posts
pub first_ready : (Reads : Dialect → List ℕ → Option Word → Type 0) (plan : SitePlan) (places : List Place) (limit turns : ℕ) → AreMadeOf plan places limit turns → All (IsReady Reads) places
first_ready Reads plan places limit turns m = subst (All (IsReady Reads)) (sym m.places_are) (made_ready Reads plan.post.items (subst (All (λ (p : Place). IsPlan p.plan)) m.places_are m.amounts))

pub first_rest : (plan : SitePlan) (places : List Place) (limit turns : ℕ) → AreMadeOf plan places limit turns → All RestsAt places
first_rest plan places limit turns m = subst (All RestsAt) (sym m.places_are) (made_rest plan.post.items)

pub none_so_far : (c : Codecs) (plan : SitePlan) (places : List Place) (limit turns : ℕ) (so_far : SoFar) (past : List Entry) → so_far ≡ nothing_heard → AreMadeOf plan places limit turns → past ≡ [] → IsSoFar c plan so_far places past
none_so_far c plan places limit turns so_far past none m e = record {
  known = known_first;
  block = begins c plan places past m.places_are e;
  clock_is = ap (λ (s : SoFar). s.moment) (sym none);
  heard_is = ap (λ (s : SoFar). s.hearing) (sym none);
}
