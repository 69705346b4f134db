-- The told watts stay within the limit.
use Rattle.std.proofs.Common.{◌≡◌, ◌≤◌, ℕ, suc, ◌+◌, ◌-◌, min, max, Bool, true, false, ◌&&◌, List, [], ◌∷◌, ◌++◌, map, Option, Some, None, unwrap_or, refl, ap, subst, ◌∙◌, arith, inl, inr, ◌⊎◌, MatchBool}
use Rattle.std.specs.Option.{option_map}
use Rattle.std.proofs.lemmas.List.Sums.{sum_by-cons, sum_by-append}
use Rattle.charge_world.specs.declared.entry.Entry.{Entry}
use Rattle.charge_world.specs.declared.entry.Entry.TheVariants as entry
use Rattle.charge_world.specs.declared.heard.Heard.{Heard}
use Rattle.charge_world.specs.declared.offer.Dialect.{Dialect}
use Rattle.charge_world.specs.declared.ports.Order.{Order}
use Rattle.charge_world.specs.declared.ports.Order.TheVariants as order
use Rattle.session_words.specs.declared.plan.PostPlan.{PostPlan}
use Rattle.session_words.specs.declared.plan.SitePlan.{SitePlan}
use Rattle.session_words.specs.declared.word.Request.{Request}
use Rattle.session_rules.specs.Asks.{asks, shows_watts}
use Rattle.session_rules.specs.Verdict.{verdict, is_accepted}
use Rattle.station_spec.specs.Codecs.{Judged, Negotiated, Asked, WrongSide, Refused, Codecs}
use Rattle.station_spec.specs.Sessions.{brought}
use Rattle.station_spec.specs.Steps.{Event, Act, Give, Send, Answer, End, Hears, Does, Reading, moment, event_at}
use Rattle.station_spec.specs.States.{Session, State}
use Rattle.station_spec.specs.Deciding.{decided}
use Rattle.station_spec.specs.Judging.{Payload, wanted, judged, taken_in, read, filled, IsShown, IsRead, asked_behind}
use Rattle.station_spec.specs.Acting.{acted, since_order, replied}
use Rattle.station_spec.specs.Hearing.{session_opened, with_bytes, hearing}
use Rattle.station_spec.specs.Sharing.{Post, state_of, told_in, told_of, told_total, Shows}
use Rattle.station_spec.specs.Runs.{with_step, unheard, heard_from, HeardBy, MayAct, IsRun}
use Rattle.station_laws.proofs.Decided.{same_session}

-- the watts are told as before, or they are those that were shown
abbrev pub IsTold : (ℕ → ℕ → Type 0) → ℕ → ℕ → Type 0
IsTold Shows old new = (new ≡ old) ⊎ ((asked : ℕ) × Shows asked new)

asked_told : (Shows : ℕ → ℕ → Type 0) (plan : PostPlan) (s : State) (ss : Session) (r : Request) (shown : ℕ) (b w : Bool) → is_accepted (verdict ss.stage s.facts plan r) ≡ b → shows_watts r.ask ≡ w
    → MatchBool (is_accepted (verdict ss.stage s.facts plan r) && shows_watts r.ask) (Shows (asked_behind ss plan s r) shown) (shown ≡ 0)
    → IsTold Shows ss.stage.told (told_in (judged plan s ss (Asked r) shown).session)
asked_told Shows plan s ss r shown false w e f m = rw e (inl refl)
asked_told Shows plan s ss r shown true false e f m = rw (e, f) (inl refl)
asked_told Shows plan s ss r shown true true e f m = let h : Shows (unwrap_or (asks plan r.ask) ss.asked) shown = rw (e, f) at m in rw (e, f) (inr (unwrap_or (asks plan r.ask) ss.asked, h))

chosen_told : (plan : PostPlan) (s : State) (ss : Session) (chosen : Option Dialect) (response : List ℕ) (shown : ℕ) → told_in (judged plan s ss (Negotiated chosen response) shown).session ≡ ss.stage.told
chosen_told plan s ss None response shown = refl
chosen_told plan s ss (Some dialect) response shown = refl

judged_told : (Shows : ℕ → ℕ → Type 0) (plan : PostPlan) (s : State) (ss : Session) (word : Judged) (shown : ℕ) → IsShown Shows plan s (Some ss) word shown → IsTold Shows ss.stage.told (told_in (judged plan s ss word shown).session)
judged_told Shows plan s ss (Negotiated chosen response) shown i = inl (chosen_told plan s ss chosen response shown)
judged_told Shows plan s ss (Asked r) shown i = asked_told Shows plan s ss r shown (is_accepted (verdict ss.stage s.facts plan r)) (shows_watts r.ask) refl refl i
judged_told Shows plan s ss WrongSide shown i = inl refl
judged_told Shows plan s ss Refused shown i = inl refl

taken_told : (Shows : ℕ → ℕ → Type 0) (plan : PostPlan) (s : State) (kept : Option Session) (r : Reading) → s.session ≡ kept → IsShown Shows plan s kept r.judged r.shown → IsTold Shows (told_in kept) (told_in (taken_in plan s kept r).session)
taken_told Shows plan s None r k i = inl (ap told_in k)
taken_told Shows plan s (Some ss) r k i = judged_told Shows plan s ss r.judged r.shown i

read_told : (c : Codecs) (Shows : ℕ → ℕ → Type 0) (plan : PostPlan) (s : State) (w : Option Payload) (r : Option Reading) → IsRead c plan Shows s w r → IsTold Shows (told_in s.session) (told_in (read plan s r).session)
read_told c Shows plan s w None i = inl refl
read_told c Shows plan s None (Some r) i = absurd i
read_told c Shows plan s (Some payload) (Some r) i = taken_told Shows plan s s.session r refl i.1

pub filled_told : (c : Codecs) (Shows : ℕ → ℕ → Type 0) (plan : PostPlan) (s : State) (r : Option Reading) → IsRead c plan Shows (decided plan s) (wanted (decided plan s)) r → IsTold Shows (told_in s.session) (told_in (filled plan r s).session)
filled_told c Shows plan s r i =
    subst (λ (kept : Option Session). IsTold Shows (told_in kept) (told_in (filled plan r s).session)) (same_session plan s) (read_told c Shows plan (decided plan s) (wanted (decided plan s)) r i)

-- an act tells no watts
map_told : (f : Session → Session) (kept : Option Session) → ((ss : Session) → (f ss).stage.told ≡ ss.stage.told) → told_in (option_map f kept) ≡ told_in kept
map_told f None h = refl
map_told f (Some ss) h = h ss

since_told : (now : ℕ) (o : Order) (ss : Session) → (since_order now o ss).stage.told ≡ ss.stage.told
since_told now order.Open ss = refl
since_told now order.Close ss = refl
since_told now (order.Limits voltage current watts) ss = refl

same_le : (a b : ℕ) → a ≡ b → a ≤ b
same_le a b e = omega (arith, e)

pub acted_told : (a : Act) (taken : Bool) (s : State) → told_in (acted a taken s).session ≤ told_in s.session
acted_told (Give o) true s = same_le _ _ (map_told (since_order s.clock o) s.session (since_told s.clock o))
acted_told (Give o) false s = omega arith
acted_told (Send bytes) true s = same_le _ _ (map_told (replied s.clock) s.session (λ ss. refl))
acted_told (Send bytes) false s = omega arith
acted_told (Answer bytes) taken s = omega arith
acted_told (End cause) taken s = omega arith

opened_told : (token : Option ℕ) (at : ℕ) (kept : Option Session) → told_in (session_opened token at kept) ≤ told_in kept
opened_told None at kept = omega arith
opened_told (Some token) at kept = omega arith

hearing_told : (at : ℕ) (e : Event) (s : State) → told_in (hearing at e s).session ≤ told_in s.session
hearing_told at e s = let h = map_told (with_bytes (brought e)) (session_opened s.arrived s.clock s.session) (λ ss. refl) in omega (arith, h, opened_told s.arrived s.clock s.session)

-- the sums
pub heard_told : (k at : ℕ) (h : Heard) (bytes : List ℕ) (posts : List Post) → told_total (heard_from k at h bytes posts) ≤ told_total posts
heard_told k at h bytes [] = omega arith
heard_told k at h bytes (p ∷ posts) =
    let x = sum_by-cons told_of (with_step (Hears at (event_at k h.what bytes)) p) (heard_from (suc k) at h bytes posts) in
    let y = sum_by-cons told_of p posts in
    omega (arith, x, y, hearing_told at (event_at k h.what bytes) (state_of p), heard_told (suc k) at h bytes posts)

none_told : (plans : List PostPlan) → told_total (map unheard plans) ≡ 0
none_told [] = refl
none_told (plan ∷ plans) = let x = sum_by-cons told_of (unheard plan) (map unheard plans) in omega (arith, x, none_told plans)

pub split_told : (before : List Post) (p : Post) (behind : List Post) → told_total (before ++ p ∷ behind) ≡ told_total before + (told_of p + told_total behind)
split_told before p behind = sum_by-append told_of before (p ∷ behind) ∙ ap (λ (n : ℕ). told_total before + n) (sum_by-cons told_of p behind)

pub least_le : (shown asked level limit others : ℕ) → shown ≡ min (min asked level) (limit - others) → shown ≤ limit - others
least_le shown asked level limit others e = omega (arith, e)

sums : (limit before old new shown behind : ℕ) → before + (old + behind) ≤ limit → new ≤ shown → (shown ≡ old) ⊎ (shown ≤ limit - (before + behind)) → before + (new + behind) ≤ limit
sums limit before old new shown behind w l (inl h) = omega arith
sums limit before old new shown behind w l (inr h) = omega arith

acted_within : (c : Codecs) (limit : ℕ) (posts : List Post) (e : Entry) (later : List Post) → MayAct c limit posts e later → told_total posts ≤ limit → told_total later ≤ limit
acted_within c limit posts e later m w =
    let s = state_of m.post in
    let t = filled m.post.plan m.reading s in
    let old = ap told_total m.posts_are ∙ split_told m.before m.post m.behind in
    let new = ap told_total m.later_is ∙ split_told m.before (with_step (Does m.reading m.act m.taken) m.post) m.behind in
    let less = acted_told m.act m.taken t in
    let le : told_total m.before + (told_in s.session + told_total m.behind) ≤ limit = omega (arith, old, w) in
    let all = sums limit (told_total m.before) (told_in s.session) (told_in (acted m.act m.taken t).session) (told_in t.session) (told_total m.behind) le less
    (elim (filled_told c (Shows limit m.before m.behind) m.post.plan s m.reading m.acts.read) [
      | inl h ↦ inl h
      | inr h ↦ inr (least_le (told_in t.session) h.0 h.1.level limit (told_total m.before + told_total m.behind) h.1.least)
    ]) in
    omega (arith, new, all)

heard_within : (past : List Entry) (posts : List Post) (e : Entry) (later : List Post) → HeardBy past posts e later → told_total later ≤ told_total posts
heard_within past posts (entry.Heard h bytes) later heard = let x = ap told_total heard.2 in omega (arith, x, heard_told 1 (max (moment past) h.at) h bytes posts)
heard_within past posts entry.Lost later heard = let x = ap told_total heard in omega (arith, x)
heard_within past posts (entry.Sent post bytes taken) later heard = absurd heard
heard_within past posts (entry.Answered post bytes taken) later heard = absurd heard
heard_within past posts (entry.Drove post order taken) later heard = absurd heard
heard_within past posts (entry.Dialed port taken) later heard = absurd heard
heard_within past posts (entry.Ended post cause) later heard = absurd heard

pub told_within : (c : Codecs) (site : SitePlan) (past : List Entry) (posts : List Post) → IsRun c site past posts → told_total posts ≤ site.limit
told_within c site [] posts run = let x = ap told_total run ∙ none_told site.post.items in omega (arith, x)
told_within c site (e ∷ past) posts (before, run, inl hears) = let w = told_within c site past before run in omega (arith, heard_within past before e posts hears.heard, w)
told_within c site (e ∷ past) posts (before, run, inr acts) = acted_within c site.limit before e posts acts (told_within c site past before run)
