-- What the posts counted, over the closing orders too.
use Rattle.std.proofs.Common.{◌≡◌, ◌<◌, ℕ, zero, suc, ◌+◌, Bool, true, false, ◌==◌, if◌then◌else◌, List, [], ◌∷◌, ◌++◌, length, map, refl, sym, ap, subst, ◌∙◌, arith}
use Rattle.std.specs.List.{AllByRecursion}
use Rattle.std.proofs.lemmas.List.{length-map}
use Rattle.charge_world.specs.declared.entry.Entry.{Entry}
use Rattle.charge_world.specs.declared.ports.Order.TheVariants as order
use Rattle.session_words.specs.declared.plan.SitePlan.{SitePlan}
use Rattle.post_spec.specs.Codecs.{Codecs}
use Rattle.post_spec.specs.Steps.{Seen, Did, Give, seen, seen_of}
use Rattle.station_spec.specs.Report.{sessions, closed, causes}
use Rattle.station_spec.specs.Sharing.{Post}
use Rattle.station_laws.specs.PostRuns.{ArePostsOf, RunsArePostRuns}
use Rattle.site_posts.specs.declared.place.Place.{Place}
use Rattle.site_posts.specs.Filling.{at}
use Rattle.site_posts.specs.Places.{capped, place_of}
use Rattle.endpoint.specs.Knowing.{Known}
use Rattle.site_acts.specs.Serving.{InBlock}
use Rattle.endpoint.specs.Telling.{HasClosing, IsClosing}
use Rattle.site_turns.specs.Ending.{Counts, AreCounts}

-- an order to open counts for nothing
order_sessions : (b taken : Bool) (ss : List Seen) → sessions (if b then Did (Give order.Open) taken ∷ ss else ss) ≡ sessions ss
order_sessions true taken ss = refl
order_sessions false taken ss = refl

order_closed : (b taken : Bool) (ss : List Seen) → closed (if b then Did (Give order.Open) taken ∷ ss else ss) ≡ closed ss
order_closed true taken ss = omega arith
order_closed false taken ss = refl

order_causes : (b taken : Bool) (ss : List Seen) → causes (if b then Did (Give order.Open) taken ∷ ss else ss) ≡ causes ss
order_causes true taken ss = refl
order_causes false taken ss = refl

closing_sessions : (k : ℕ) (later blocks : List Entry) → AllByRecursion IsClosing later → sessions (seen k (later ++ blocks)) ≡ sessions (seen k blocks)
closing_sessions k [] blocks h = refl
closing_sessions k (x ∷ later) blocks h = ap (λ (e : Entry). sessions (seen k (e ∷ (later ++ blocks)))) h.0.2 ∙ order_sessions (h.0.0 == k) h.0.1 (seen k (later ++ blocks)) ∙ closing_sessions k later blocks h.1

closing_closed : (k : ℕ) (later blocks : List Entry) → AllByRecursion IsClosing later → closed (seen k (later ++ blocks)) ≡ closed (seen k blocks)
closing_closed k [] blocks h = refl
closing_closed k (x ∷ later) blocks h = ap (λ (e : Entry). closed (seen k (e ∷ (later ++ blocks)))) h.0.2 ∙ order_closed (h.0.0 == k) h.0.1 (seen k (later ++ blocks)) ∙ closing_closed k later blocks h.1

closing_causes : (k : ℕ) (later blocks : List Entry) → AllByRecursion IsClosing later → causes (seen k (later ++ blocks)) ≡ causes (seen k blocks)
closing_causes k [] blocks h = refl
closing_causes k (x ∷ later) blocks h = ap (λ (e : Entry). causes (seen k (e ∷ (later ++ blocks)))) h.0.2 ∙ order_causes (h.0.0 == k) h.0.1 (seen k (later ++ blocks)) ∙ closing_causes k later blocks h.1

counts_one : (k : ℕ) (blocks past : List Entry) (p : Post) → seen k blocks ≡ map seen_of p.steps → HasClosing blocks past → Counts k (place_of p).report past
counts_one k blocks past p e h = record {
  sessions_are = ap capped (ap sessions (sym e) ∙ sym (closing_sessions k h.later blocks h.closing) ∙ ap (λ (es : List Entry). sessions (seen k es)) (sym h.past_is));
  closed_are = ap capped (ap closed (sym e) ∙ sym (closing_closed k h.later blocks h.closing) ∙ ap (λ (es : List Entry). closed (seen k es)) (sym h.past_is));
  causes_are = ap causes (sym e) ∙ sym (closing_causes k h.later blocks h.closing) ∙ ap (λ (es : List Entry). causes (seen k es)) (sym h.past_is);
}

counts_from : (c : Codecs) (blocks past : List Entry) (k : ℕ) (posts : List Post) → ArePostsOf c blocks k posts → HasClosing blocks past → (i : ℕ) → i < length posts → Counts (i + k) (at (map place_of posts) i).report past
counts_from c blocks past k [] are h i less = absurd (let f : i < 0 = less in omega arith)
counts_from c blocks past k (p ∷ posts) are h zero less = subst (λ (n : ℕ). Counts n (place_of p).report past) (let e : k ≡ 0 + k = omega arith in e) (counts_one k blocks past p are.0.seen_is h)
counts_from c blocks past k (p ∷ posts) are h (suc i) less =
    subst (λ (n : ℕ). Counts n (at (map place_of posts) i).report past) (let e : i + suc k ≡ suc i + k = omega arith in e) (counts_from c blocks past (suc k) posts are.1 h i (omega (arith, less)))

-- and over a whole run, or one so far
pub counts_closed : (c : Codecs) (plan : SitePlan) (k : Known) (places : List Place) (blocks past : List Entry) → RunsArePostRuns c → InBlock c plan k places blocks → HasClosing blocks past → AreCounts places past
counts_closed c plan k places blocks past law b h = λ i less.
    subst (λ (ps : List Place). Counts (i + 1) (at ps i).report past) (sym b.are)
    (counts_from c blocks past 1 b.posts (law plan blocks b.posts b.run) h i (subst (λ (n : ℕ). i < n) (ap length b.are ∙ length-map b.posts place_of) less))
