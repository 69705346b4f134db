-- A site in a loop of its embedder's own.
use Rattle.std.proofs.Common.{◌≡◌, ◌<◌, ℕ, ◌+◌, false, List, [], map, max, length, Option, Some, None, refl, sym, ap, subst, ◌∙◌, arith}
use Rattle.std.specs.Prelude.{IsSome}
use Rattle.std.proofs.lemmas.List.{length-map}
use Rattle.charge_world.specs.declared.entry.Entry.{Entry}
use Rattle.charge_world.specs.declared.heard.Heard.{Heard}
use Rattle.charge_world.specs.declared.offer.Dialect.{Dialect}
use Rattle.session_words.specs.declared.plan.SitePlan.{SitePlan}
use Rattle.session_words.specs.declared.word.Word.{Word}
use Rattle.post_spec.specs.Codecs.{Codecs}
use Rattle.station_spec.specs.Sharing.{Post}
use Rattle.station_spec.specs.Runs.{unheard, Closes, IsCutRun}
use Rattle.station_laws.specs.PostRuns.{RunsArePostRuns}
use Rattle.site_posts.specs.declared.place.Place.{Place}
use Rattle.site_posts.specs.Places.{place_of}
use Rattle.endpoint.specs.Knowing.{Known, known_behind}
use Rattle.endpoint.specs.Telling.{Carries, HasClosing}
use Rattle.endpoint.proofs.Carry.{carries_to}
use Rattle.endpoint.proofs.Orders.{none_closing}
use Rattle.endpoint.specs.declared.hearing.SoFar.{SoFar}
use Rattle.end_turns.specs.Turns.{Hears}
use Rattle.site_acts.specs.Serving.{InBlock}
use Rattle.site_turns.specs.Ending.{AreCounts, AreMadeOf}
use Rattle.site_turns.specs.SoFar.{IsSoFar, IsNext}
use Rattle.site_turns.proofs.Counts.{counts_closed}
use Rattle.site_turns.proofs.First.{first_ready, first_rest}
use Rattle.site_core.specs.Hearing.{MayHear}

-- behind a hearing
pub next_heard : (a b : Option (List Entry)) (c : Codecs) (plan : SitePlan) (so_far later : SoFar) (h : Heard) (bytes : List ℕ) (wait : ℕ) (places new : List Place)
    → ((k : Known) → k.last ≡ false → k.heard < plan.turns → max k.clock h.at ≡ later.moment → Carries a b (Hears (InBlock c plan k places) h bytes) (InBlock c plan (known_behind k h bytes wait) new))
    → (IsSome b → IsSome a) → later.moment ≡ max so_far.moment h.at → later.hearing ≡ so_far.hearing + 1 → Carries a b (IsNext c plan so_far h bytes places) (IsSoFar c plan later new)
next_heard a None c plan so_far later h bytes wait places new behind told moment_is hearing_is = tt
next_heard None (Some past) c plan so_far later h bytes wait places new behind told moment_is hearing_is = let none = told refl in cc
next_heard (Some old) (Some past) c plan so_far later h bytes wait places new behind told moment_is hearing_is = λ next.
    let r = next.run in
    let clock : max r.known.clock h.at ≡ later.moment = ap (λ (m : ℕ). max m h.at) r.clock_is ∙ sym moment_is in
    record {
      known = known_behind r.known h bytes wait;
      block = behind r.known (sym r.block.known_is.last_is ∙ next.goes_on) (subst (λ (n : ℕ). n < plan.turns) r.block.known_is.heard_is next.left) clock (record { earlier = next.earlier; past_is = next.past_is; run = r.block });
      clock_is = clock;
      heard_is = ap (λ (n : ℕ). n + 1) r.heard_is ∙ sym hearing_is;
    }

-- the orders that close a run so far
pub closed_run : (a b : Option (List Entry)) (c : Codecs) (plan : SitePlan) (so_far : SoFar) (places lent : List Place) → lent ≡ places
    → ((posts : List Post) (blocks : List Entry) → lent ≡ map place_of posts → Carries a b (λ past. past ≡ blocks) (Closes 1 posts blocks))
    → ((blocks : List Entry) → Carries a b (λ past. past ≡ blocks) (HasClosing blocks)) → Carries a b (IsSoFar c plan so_far places) (IsCutRun c plan)
closed_run a None c plan so_far places lent same closed orders = tt
closed_run None (Some new) c plan so_far places lent same closed orders = absurd (orders [])
closed_run (Some old) (Some new) c plan so_far places lent same closed orders = λ r. record { blocks = old; posts = r.block.posts; run = r.block.run; closes = closed r.block.posts old (same ∙ r.block.are) refl }

-- the reports count a run so far
pub counts_of : (a b : Option (List Entry)) (c : Codecs) (plan : SitePlan) (so_far : SoFar) (places : List Place) (P : List Entry → Type 0) → RunsArePostRuns c → Carries a b P (IsSoFar c plan so_far places) → Carries a b P (AreCounts places)
counts_of a b c plan so_far places P law run = carries_to a b P (IsSoFar c plan so_far places) (AreCounts places) (λ past r. counts_closed c plan r.known places past past law r.block (none_closing past past refl)) run

-- a site that was made may hear
pub made_hears : (Reads : Dialect → List ℕ → Option Word → Type 0) (plan : SitePlan) (places : List Place) (limit turns : ℕ) → AreMadeOf plan places limit turns → MayHear Reads places
made_hears Reads plan places limit turns made = record {
  few = omega (arith, made.rules.posts.1, ap length made.places_are, length-map (map unheard plan.post.items) place_of, length-map plan.post.items unheard);
  ready = first_ready Reads plan places limit turns made;
  quiet = first_rest plan places limit turns made;
}
