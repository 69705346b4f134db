-- A whole run that replays a whole run is that run.
use Rattle.std.proofs.Common.{◌≡◌, ◌<◌, true, false, List, [], ◌∷◌, ◌++◌, length, map, refl, sym, ap, subst, ◌∙◌, append_assoc, inl, inr, arith}
use Rattle.std.specs.Prelude.{◌≢◌, reverse}
use Rattle.std.proofs.lemmas.Bool.{cases_order}
use Rattle.std.proofs.lemmas.List.{reverse-append}
use Rattle.charge_world.specs.declared.entry.Entry.{Entry}
use Rattle.session_words.specs.declared.plan.SitePlan.{SitePlan}
use Rattle.trace_text.specs.Pasts.{is_hearing}
use Rattle.post_spec.specs.Codecs.{Codecs}
use Rattle.post_spec.specs.Spelled.{AreDetermined}
use Rattle.station_spec.specs.Sharing.{Post}
use Rattle.station_spec.specs.Runs.{unheard, AreQuiet, Follows, IsRun, Closes, IsEnded, IsSiteRun}
use Rattle.replay_wire.specs.Replays.{from_hearing, IsReplayOf}
use Rattle.site_replay_laws.specs.Replayed.{ReplaysItself}
use Rattle.site_replay_laws.proofs.Steps.{hearing_is, quiet_acts, hearing_first}
use Rattle.site_replay_laws.proofs.Agreeing.{agree, replay_front, goes}
use Rattle.site_replay_laws.proofs.Closings.{closes_front, closes_same, reverse_split, fresh_quiet, fresh_closes}

-- the oldest entry of a run is a hearing
record Begins (p : List Entry) : Type 0 where
  first : Entry
  rest : List Entry
  is : reverse p ≡ first ∷ rest
  hearing : is_hearing first ≡ true

first_is : (c : Codecs) → AreDetermined c → (site : SitePlan) (e : Entry) (posts later : List Post) → posts ≡ map unheard site.post.items → Follows c site [] posts e later → is_hearing e ≡ true
first_is c one site e posts later fresh (inl h) = hearing_is site.turns [] posts e later h
first_is c one site e posts later fresh (inr m) = absurd (quiet_acts c one site posts e later (subst AreQuiet (sym fresh) (fresh_quiet site.post.items)) m)

begins : (c : Codecs) → AreDetermined c → (site : SitePlan) (p : List Entry) (posts : List Post) → IsRun c site p posts → p ≢ [] → Begins p
begins c one site [] posts run some = absurd (some refl)
begins c one site (e ∷ []) posts (before, run, f) some = record { first = e; rest = []; is = refl; hearing = first_is c one site e before posts run f }
begins c one site (e ∷ d ∷ p) posts (before, run, f) some =
    let b = begins c one site (d ∷ p) before run (λ none. cc) in
    record { first = b.first; rest = b.rest ++ e ∷ []; is = reverse-append (e ∷ []) (d ∷ p) ∙ ap (λ (l : List Entry). l ++ e ∷ []) b.is; hearing = b.hearing }

-- so its trace begins with one
starts : (p later past : List Entry) → past ≡ later ++ p → Begins p → from_hearing (reverse past) ≡ reverse past
starts p later past is b =
    let trace : reverse past ≡ b.first ∷ (b.rest ++ reverse later) = ap reverse is ∙ reverse_split later p ∙ ap (λ (l : List Entry). l ++ reverse later) b.is in
    ap from_hearing trace ∙ hearing_first b.first (b.rest ++ reverse later) b.hearing ∙ sym trace

-- behind the blocks of a whole run nothing follows
ends : (c : Codecs) → AreDetermined c → (site : SitePlan) (p : List Entry) (posts : List Post) (e : Entry) (later : List Post) → AreQuiet posts → IsEnded site.turns p → p ≢ [] → Follows c site p posts e later → ⊥
ends c one site p posts e later q ended some (inr m) = quiet_acts c one site posts e later q m
ends c one site p posts e later q (inl last) some (inl h) = let both : true ≡ false = sym last ∙ h.goes_on in absurd (cc)
ends c one site p posts e later q (inr (inl all)) some (inl h) = omega (arith, all, h.turns_left)
ends c one site p posts e later q (inr (inr none)) some (inl h) = some none

-- the blocks of a run that has a past
some_blocks : (c : Codecs) (site : SitePlan) (past : List Entry) (r : IsSiteRun c site past) → past ≢ [] → r.blocks ≢ []
some_blocks c site past r some none =
    let run : IsRun c site [] r.posts = subst (λ (p : List Entry). IsRun c site p r.posts) none r.run in
    let closes = subst (λ (p : List Entry). Closes 1 r.posts p past) none r.closes in
    some (fresh_closes 1 site.post.items past (subst (λ (ps : List Post). Closes 1 ps [] past) run closes))

-- neither is longer than the other
not_longer : (c : Codecs) → AreDetermined c → (site : SitePlan) (trace rest p q : List Entry) (posts posts' : List Post) → IsRun c site p posts → AreQuiet posts → IsEnded site.turns p → p ≢ []
    → IsRun c site q posts' → trace ≡ reverse p ++ rest → from_hearing trace ≡ trace → IsReplayOf trace q → length p < length q → ⊥
not_longer c one site trace rest p q posts posts' run whole ended some run' is begin replay more =
    let g = goes c site q posts' (length p) run' more in
    let here = replay_front trace (g.later ++ g.e ∷ []) g.earlier (subst (IsReplayOf trace) (g.split ∙ sym (append_assoc g.later (g.e ∷ []) g.earlier)) replay) in
    let s = agree c one site trace rest p g.earlier posts g.before run g.run (sym g.count) is begin here in
    ends c one site p posts g.e g.behind whole ended some
    (subst (λ (xs : List Entry). Follows c site xs posts g.e g.behind) (sym s.0) (subst (λ (ps : List Post). Follows c site g.earlier ps g.e g.behind) (sym s.1) g.follows))

not_shorter : (c : Codecs) → AreDetermined c → (site : SitePlan) (trace rest p q : List Entry) (posts posts' : List Post) → IsRun c site p posts → IsRun c site q posts' → AreQuiet posts' → IsEnded site.turns q → q ≢ []
    → trace ≡ reverse p ++ rest → from_hearing trace ≡ trace → IsReplayOf trace q → length q < length p → ⊥
not_shorter c one site trace rest p q posts posts' run run' whole ended some is begin replay less =
    let g = goes c site p posts (length q) run less in
    let split : p ≡ (g.later ++ g.e ∷ []) ++ g.earlier = g.split ∙ sym (append_assoc g.later (g.e ∷ []) g.earlier) in
    let there : trace ≡ reverse g.earlier ++ (reverse (g.later ++ g.e ∷ []) ++ rest) =
    is ∙ ap (λ (l : List Entry). l ++ rest) (ap reverse split ∙ reverse_split (g.later ++ g.e ∷ []) g.earlier) ∙ append_assoc (reverse g.earlier) (reverse (g.later ++ g.e ∷ [])) rest in
    let s = agree c one site trace (reverse (g.later ++ g.e ∷ []) ++ rest) g.earlier q g.before posts' g.run run' g.count there begin replay in
    ends c one site q posts' g.e g.behind whole ended some
    (subst (λ (xs : List Entry). Follows c site xs posts' g.e g.behind) s.0 (subst (λ (ps : List Post). Follows c site g.earlier ps g.e g.behind) s.1 g.follows))

pub same_run : (c : Codecs) → ReplaysItself c
same_run c site past again one r s some some' replay =
    let front = closes_front 1 r.posts r.blocks past r.closes in
    let back = closes_front 1 s.posts s.blocks again s.closes in
    let begin = starts r.blocks front.0 past front.1 (begins c one site r.blocks r.posts r.run (some_blocks c site past r some)) in
    let trace : reverse past ≡ reverse r.blocks ++ reverse front.0 = ap reverse front.1 ∙ reverse_split front.0 r.blocks in
    let replayed = replay_front (reverse past) back.0 s.blocks (subst (IsReplayOf (reverse past)) back.1 replay) in
    elim (cases_order (length r.blocks) (length s.blocks)) [
      | inl same ↦ (let a = agree c one site (reverse past) (reverse front.0) r.blocks s.blocks r.posts s.posts r.run s.run same trace begin replayed in
          closes_same 1 r.posts r.blocks past again begin replay r.closes
          (subst (λ (p : List Entry). Closes 1 r.posts p again) (sym a.0) (subst (λ (ps : List Post). Closes 1 ps s.blocks again) (sym a.1) s.closes)))
      | inr (inl less) ↦ absurd (not_longer c one site (reverse past) (reverse front.0) r.blocks s.blocks r.posts s.posts r.run r.whole r.ended (some_blocks c site past r some) s.run trace begin replayed less)
      | inr (inr more) ↦ absurd (not_shorter c one site (reverse past) (reverse front.0) r.blocks s.blocks r.posts s.posts r.run s.run s.whole s.ended (some_blocks c site again s some') trace begin replayed more)
    ]
