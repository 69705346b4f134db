-- A site in its turns: what a hearing, a lost one and the closing orders make of a run, and how the turns end.
use Rattle.std.proofs.Common.{◌≡◌, ◌<◌, ℕ, suc, false, List, [], ◌∷◌, ◌++◌, map, min, drop, Option, Some, None, refl, sym, ap, subst, ◌∙◌, arith, inl, inr}
use Rattle.std.specs.Prelude.{fold}
use Rattle.std.specs.List.{All}
use Rattle.std.proofs.lemmas.List.{append-nil}
use Rattle.charge_world.specs.declared.entry.Entry.{Entry}
use Rattle.charge_world.specs.declared.entry.Entry.TheVariants as entry
use Rattle.charge_world.specs.declared.heard.Heard.{Heard}
use Rattle.charge_world.specs.declared.offer.Dialect.{Dialect}
use Rattle.session_timers.specs.Due.{never}
use Rattle.session_words.specs.declared.plan.PostPlan.{PostPlan}
use Rattle.session_words.specs.declared.plan.SitePlan.{SitePlan}
use Rattle.session_words.specs.declared.word.Word.{Word}
use Rattle.post_spec.specs.Codecs.{Codecs}
use Rattle.station_spec.specs.Sharing.{Post, state_of}
use Rattle.station_spec.specs.Runs.{unheard, AreQuiet, Closes, IsEnded, IsSiteRun}
use Rattle.station_spec.specs.Until.{AreUntils}
use Rattle.station_laws.specs.PostRuns.{RunsArePostRuns}
use Rattle.site_posts.specs.declared.place.Place.{Place}
use Rattle.site_posts.specs.Filling.{no_place, at}
use Rattle.site_posts.specs.Places.{place_of, due_at, RestsAt}
use Rattle.endpoint.specs.Knowing.{Known, known_first, known_lost}
use Rattle.endpoint.specs.Telling.{Carries, HasClosing}
use Rattle.endpoint.proofs.Knowing.{last_heard, last_lost}
use Rattle.end_turns.specs.declared.ending.Ended.{Ended}
use Rattle.end_turns.specs.declared.ending.Ended.TheVariants as ended
use Rattle.end_turns.specs.Ending as turns
use Rattle.end_turns.specs.Ending.{HasRun}
use Rattle.end_turns.specs.Turns.{Hears}
use Rattle.end_turns.proofs.Finished.{ended_past}
use Rattle.site_acts.specs.Serving.{InBlock}
use Rattle.site_acts.proofs.Frame.{begins, lost_one}
use Rattle.site_turns.specs.Ending.{AreMadeOf, EndedAs, RanAs, AwaitedAs, AreCounts}
use Rattle.site_turns.proofs.Counts.{counts_closed}
use Rattle.site_core.specs.Hearing.{MayHear}
use Rattle.site_core.specs.Standing.{Standing, IsRunBy, ClosesAll}

-- ---- hearings

-- what was heard, and all that is done about it
pub hears_by : (a b : Option (List Entry)) (c : Codecs) (plan : SitePlan) (s new : Standing) (k later : Known) (h : Heard) (bytes : List ℕ) → new.limit ≡ s.limit → new.turns ≡ s.turns → k.heard < s.turns
    → ((p : SitePlan) → p.limit ≡ s.limit → k.heard < p.turns → Carries a b (Hears (InBlock c p k s.places) h bytes) (InBlock c p later new.places)) → Carries a b (Hears (IsRunBy c plan s k) h bytes) (IsRunBy c plan new later)
hears_by a None c plan s new k later h bytes limit turns left behind = tt
hears_by None (Some past) c plan s new k later h bytes limit turns left behind = absurd (behind (record plan { limit = s.limit; turns = s.turns }) refl left)
hears_by (Some old) (Some past) c plan s new k later h bytes limit turns left behind = λ n. record {
  limit_is = n.run.limit_is ∙ sym limit;
  turns_is = n.run.turns_is ∙ sym turns;
  block = behind plan n.run.limit_is (subst (λ (m : ℕ). k.heard < m) (sym n.run.turns_is) left) (record { earlier = n.earlier; past_is = n.past_is; run = n.run.block });
}

pub lost_by : (c : Codecs) (plan : SitePlan) (s : Standing) (k : Known) (past : List Entry) → k.last ≡ false → k.heard < s.turns → All RestsAt s.places → IsRunBy c plan s k past
    → IsRunBy c plan s (known_lost k (fold min never (map due_at s.places))) (entry.Lost ∷ past)
lost_by c plan s k past goes_on left rest r = record {
  limit_is = r.limit_is;
  turns_is = r.turns_is;
  block = lost_one c plan k s.places past (fold min never (map due_at s.places)) goes_on (subst (λ (m : ℕ). k.heard < m) (sym r.turns_is) left) rest refl r.block;
}

-- ---- the closing orders

-- whichever posts these are
pub all_closed : (a b : Option (List Entry)) (places lent : List Place) → lent ≡ places → ((posts : List Post) (blocks : List Entry) → lent ≡ map place_of posts → Carries a b (λ past. past ≡ blocks) (Closes 1 posts blocks))
    → ((blocks : List Entry) → Carries a b (λ past. past ≡ blocks) (HasClosing blocks)) → (blocks : List Entry) → Carries a b (λ past. past ≡ blocks) (ClosesAll places blocks)
all_closed a None places lent same closed orders blocks = tt
all_closed None (Some new) places lent same closed orders blocks = absurd (orders [])
all_closed (Some old) (Some new) places lent same closed orders blocks = λ e posts are. closed posts blocks (same ∙ are) e

-- none is due while no post heard anything
pub none_live : (plans : List PostPlan) (posts : List Post) (k : ℕ) (blocks : List Entry) → map place_of (map unheard plans) ≡ map place_of posts → Closes k posts blocks blocks
none_live [] [] k blocks e = refl
none_live [] (p ∷ posts) k blocks e = cc
none_live (q ∷ plans) [] k blocks e = cc
none_live (q ∷ plans) (p ∷ posts) k blocks e =
    let idle : (state_of p).live ≡ false = ap (λ (ps : List Place). (at ps 0).post.live) (sym e) in
    rw idle (none_live plans posts (suc k) blocks (ap (λ (ps : List Place). drop 1 ps) e))

-- ---- how a run ends

all_rest : (posts : List Post) → All RestsAt (map place_of posts) → AreQuiet posts
all_rest [] h = tt
all_rest (p ∷ posts) h = (h 0 no_place (omega arith), all_rest posts (λ j d less. h (suc j) d (omega (arith, less))))

whole_run : (Reads : Dialect → List ℕ → Option Word → Type 0) (c : Codecs) (plan : SitePlan) (s : Standing) (k : Known) (blocks past : List Entry) → IsRunBy c plan s k blocks → MayHear Reads s.places → IsEnded plan.turns blocks → ClosesAll s.places blocks past
    → IsSiteRun c plan past
whole_run Reads c plan s k blocks past r rests ended closes = record {
  blocks = blocks;
  posts = r.block.posts;
  run = r.block.run;
  whole = all_rest r.block.posts (subst (All RestsAt) r.block.are rests.quiet);
  ended = ended;
  closes = closes r.block.posts r.block.are;
}

-- what the turns made of a past
abbrev pub SiteRun : (Dialect → List ℕ → Option Word → Type 0) → Codecs → SitePlan → Standing → Ended → List ℕ → List ℕ → List Entry → Type 0
SiteRun Reads c plan s = HasRun (IsRunBy c plan s) (λ whole. ClosesAll s.places) (MayHear Reads s.places) s.turns false

pub ran : (Reads : Dialect → List ℕ → Option Word → Type 0) (c : Codecs) (plan : SitePlan) (s : Standing) (how : Ended) (before after : List ℕ) (past : List Entry) → SiteRun Reads c plan s how before after past → RanAs c plan how past
ran Reads c plan s ended.Over before after past h = whole_run Reads c plan s h.known h.blocks past h.run h.rests (inl (last_heard h.blocks h.ended.0 h.ended.1 h.ended.2 h.ended.3)) h.closes
ran Reads c plan s ended.Lost before after past h = whole_run Reads c plan s h.known h.blocks past h.run h.rests (inl (last_lost h.blocks h.ended)) h.closes
ran Reads c plan s ended.TraceFault before after past h = record { blocks = h.blocks; posts = h.run.block.posts; run = h.run.block.run; closes = h.closes h.run.block.posts h.run.block.are }
ran Reads c plan s ended.Turns before after past h = whole_run Reads c plan s h.known h.blocks past h.run h.rests (inr (inl (h.ended.0 refl ∙ sym h.run.turns_is))) h.closes

ended_as : (n : ℕ) (how : Ended) (past : List Entry) → turns.EndedAs n false how past → EndedAs n how past
ended_as n ended.Over past e = e
ended_as n ended.Lost past e = e
ended_as n ended.TraceFault past e = tt
ended_as n ended.Turns past e = (e.0 refl, e.1)

pub ended_site : (Reads : Dialect → List ℕ → Option Word → Type 0) (c : Codecs) (plan : SitePlan) (s : Standing) (how : Ended) (before after : List ℕ) (past : List Entry) → SiteRun Reads c plan s how before after past → EndedAs s.turns how past
ended_site Reads c plan s how before after past h = ended_as s.turns how past (ended_past s.turns false how h.blocks past h.orders h.ended)

pub counted : (Reads : Dialect → List ℕ → Option Word → Type 0) (c : Codecs) (plan : SitePlan) (s : Standing) (how : Ended) (before after : List ℕ) (past : List Entry) → RunsArePostRuns c → SiteRun Reads c plan s how before after past → AreCounts s.places past
counted Reads c plan s how before after past law h = counts_closed c plan h.known s.places h.blocks past law h.run.block h.orders

-- the moments that were waited for are told, where none were told before serving
pub awaited : (Reads : Dialect → List ℕ → Option Word → Type 0) (c : Codecs) (plan : SitePlan) (s : Standing) (how : Ended) (before after : List ℕ) (past : List Entry) → before ≡ [] → SiteRun Reads c plan s how before after past → AwaitedAs c plan after past
awaited Reads c plan s how before after past none h =
    let all : after ≡ h.known.untils = h.untils_are ∙ ap (λ (us : List ℕ). h.known.untils ++ us) none ∙ append-nil h.known.untils in
    record { blocks = h.blocks; closing = h.orders; untils_are = subst (AreUntils c plan h.blocks) (sym all) h.run.block.untils_are }

pub where_none : (a b : Option (List Entry)) (before : List ℕ) (P Q R : List Entry → Type 0) → (before ≡ [] → (past : List Entry) → Q past → R past) → Carries a b P Q → Carries a b (λ past. P past × (before ≡ [])) R
where_none a None before P Q R step h = tt
where_none None (Some new) before P Q R step h = absurd h
where_none (Some old) (Some new) before P Q R step h = λ p. step p.1 new (h p.0)

-- ---- before anything was heard

pub first_run : (c : Codecs) (plan : SitePlan) (s : Standing) (past : List Entry) → AreMadeOf plan s.places s.limit s.turns → past ≡ [] → IsRunBy c plan s known_first past
first_run c plan s past m e = record { limit_is = sym m.limit_is; turns_is = sym m.turns_is; block = begins c plan s.places past m.places_are e }
