-- What posts hear, and the line of a hearing.
use Rattle.std.proofs.Common.{◌≡◌, ◌<◌, ℕ, zero, suc, ◌+◌, Bool, true, false, ◌==◌, if◌then◌else◌, List, [], ◌∷◌, length, map, get_or, max, min, Option, refl, sym, subst, arith}
use Rattle.std.specs.Prelude.{fold}
use Rattle.std.specs.List.{All}
use Rattle.charge_world.specs.declared.entry.Entry.{Entry}
use Rattle.charge_world.specs.declared.heard.Heard.{Heard}
use Rattle.charge_world.specs.declared.heard.What.{What}
use Rattle.charge_world.specs.declared.heard.What.TheVariants as what
use Rattle.charge_world.specs.declared.offer.Dialect.{Dialect}
use Rattle.charge_world.specs.Outside.{IsOfPosts}
use Rattle.session_words.specs.declared.plan.PostPlan.{PostPlan}
use Rattle.session_words.specs.declared.plan.SitePlan.{SitePlan}
use Rattle.session_words.specs.declared.word.Word.{Word}
use Rattle.session_timers.specs.Due.{never}
use Rattle.post_spec.specs.Codecs.{Codecs}
use Rattle.post_spec.specs.Steps.{event_at}
use Rattle.post_spec.specs.Steps as steps
use Rattle.station_spec.specs.Blocks.{IsHearing, Brings}
use Rattle.station_spec.specs.Runs.{unheard}
use Rattle.secc_machine.specs.Resting.{ReadsAll, IsReadOut}
use Rattle.site_codec.specs.Replies.{IsPlan}
use Rattle.site_posts.specs.declared.place.Place.{Place}
use Rattle.site_posts.specs.Places.{place_of, heard_place, HeardAll, due_at, RestsAt}
use Rattle.site_posts.proofs.Sound.{IsEvent, fresh_sound, heard_sound}
use Rattle.endpoint.specs.Knowing.{Known}
use Rattle.site_acts.specs.Serving.{IsReady, InBlock}
use Rattle.endpoint.specs.Telling.{Carries}
use Rattle.endpoint.proofs.Carry.{carries_none}
use Rattle.site_acts.proofs.Frame.{heard_one}
use Rattle.endpoint.specs.Knowing.{known_behind}
use Rattle.end_turns.specs.Turns.{Hears}

-- quiet posts read all that came
pub read_out : (places : List Place) → ReadsAll → All RestsAt places → All (λ p. IsReadOut p.post.session) places
read_out places law rest = λ k d less. law (get_or places k d).plan (get_or places k d).post (rest k d less)

-- what is told of the charger is within its types
event_if : (b : Bool) (e : steps.Event) → IsEvent e → IsEvent (if b then e else steps.Clock)
event_if true e h = h
event_if false e h = tt

event_bounds : (k : ℕ) (w : What) (bytes : List ℕ) → Brings w bytes → IsEvent (event_at k w bytes)
event_bounds k (what.Came post token) bytes b = event_if (post == k) (steps.Came token) tt
event_bounds k (what.Bytes post n) bytes b = event_if (post == k) (steps.Bytes bytes) tt
event_bounds k (what.Gone post) bytes b = event_if (post == k) steps.Gone tt
event_bounds k (what.Datagram post n) bytes b = event_if (post == k) (steps.Datagram bytes) tt
event_bounds k (what.Plant post event) bytes b = event_if (post == k) (steps.Plant event) b.0
event_bounds k what.Tick bytes b = tt
event_bounds k what.Over bytes b = tt

-- a post stays ready
place_ready : (Reads : Dialect → List ℕ → Option Word → Type 0) (k now : ℕ) (h : Heard) (bytes : List ℕ) (p : Place) → IsHearing h bytes → RestsAt p → IsReady Reads p → IsReady Reads (heard_place k now h.what bytes p)
place_ready Reads k now h bytes p bounds rest r = record { plan = r.plan; sound = heard_sound Reads p.plan p.post now (event_at k h.what bytes) (event_bounds k h.what bytes bounds.brings) rest r.sound }

pub heard_ready : (Reads : Dialect → List ℕ → Option Word → Type 0) (now : ℕ) (h : Heard) (bytes : List ℕ) (old new : List Place) → length new ≡ length old → IsHearing h bytes → HeardAll now h.what bytes old new
    → All RestsAt old → All (IsReady Reads) old → All (IsReady Reads) new
heard_ready Reads now h bytes old new same bounds all rest ready = λ j d less.
    let within : j < length old = omega (arith, same, less) in
    subst (IsReady Reads) (sym (all j d within)) (place_ready Reads (j + 1) now h bytes (get_or old j d) bounds (rest j d within) (ready j d within))

-- posts that heard nothing yet
pub made_ready : (Reads : Dialect → List ℕ → Option Word → Type 0) (plans : List PostPlan) → All (λ p. IsPlan p.plan) (map place_of (map unheard plans)) → (k : ℕ) (d : Place) → k < length (map place_of (map unheard plans))
    → IsReady Reads (get_or (map place_of (map unheard plans)) k d)
made_ready Reads [] h k d less = absurd (let f : k < 0 = less in omega arith)
made_ready Reads (p ∷ plans) h zero d less = record { plan = h zero d (omega arith); sound = fresh_sound Reads p }
made_ready Reads (p ∷ plans) h (suc k) d less = made_ready Reads plans (λ j e l. h (suc j) e (omega (arith, l))) k d (omega (arith, less))

pub made_rest : (plans : List PostPlan) (k : ℕ) (d : Place) → k < length (map place_of (map unheard plans)) → RestsAt (get_or (map place_of (map unheard plans)) k d)
made_rest [] k d less = absurd (let f : k < 0 = less in omega arith)
made_rest (p ∷ plans) zero d less = record { none = refl; no_word = refl }
made_rest (p ∷ plans) (suc k) d less = made_rest plans k d (omega (arith, less))

pub heard_by : (a : Option (List Entry)) (c : Codecs) (plan : SitePlan) (k : Known) (places new : List Place) (h : Heard) (bytes : List ℕ) (now : ℕ) → k.last ≡ false → k.heard < plan.turns → All RestsAt places → IsOfPosts (length places) h.what → IsHearing h bytes
    → length new ≡ length places → max k.clock h.at ≡ now → HeardAll now h.what bytes places new
    → Carries a a (Hears (InBlock c plan k places) h bytes) (InBlock c plan (known_behind k h bytes (fold min never (map due_at places))) new)
heard_by a c plan k places new h bytes now goes_on left rest of is same clock all =
    let known = known_behind k h bytes (fold min never (map due_at places)) in
    carries_none a (Hears (InBlock c plan k places) h bytes) (InBlock c plan known new) (λ past b.
    subst (InBlock c plan known new) (sym b.past_is)
    (heard_one c plan k places new b.earlier h bytes (fold min never (map due_at places)) goes_on left rest of is same (subst (λ (m : ℕ). HeardAll m h.what bytes places new) (sym clock) all) refl b.run))
