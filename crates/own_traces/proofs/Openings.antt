-- The checks that no word decides: an order that failed is repeated, and a live contactor is ordered open at the end.
use Rattle.std.proofs.Common.{◌≡◌, ℕ, suc, ◌+◌, Bool, true, false, ◌||◌, List, [], ◌∷◌, ◌++◌, length, Option, Some, None, refl, sym, ap, subst, ◌∙◌, inl, inr, MatchBool, arith}
use Rattle.std.specs.Prelude.{cond, ◌==◌, ◌&&◌, if◌then◌else◌}
use Rattle.std.specs.List.{list_any}
use Rattle.std.proofs.lemmas.Bool.{eq-eqb}
use Rattle.charge_world.specs.declared.entry.Entry.{Entry}
use Rattle.charge_world.specs.declared.entry.Entry.TheVariants as entry
use Rattle.charge_world.specs.declared.ports.Order.TheVariants as order
use Rattle.session_words.specs.declared.phase.Standing.TheVariants as standing
use Rattle.session_words.specs.declared.plan.SitePlan.{SitePlan}
use Rattle.contactor.specs.Standing.{Kind, last_order, feedback_since, standing_by, confirms, unordered_by, opened_by, is_live}
use Rattle.contactor.specs.Standing as contactor
use Rattle.post_spec.specs.Codecs.{Codecs}
use Rattle.post_spec.specs.Contactors.{contactor_acts, feedback_in, with_feedback, live, standing as stands}
use Rattle.post_spec.specs.Facts.{told_by}
use Rattle.post_spec.specs.Steps.{Event, Act, Give, Send, Answer, End, Seen, Heard, Did, event_at, seen}
use Rattle.station_spec.specs.Sharing.{Post, state_of}
use Rattle.station_spec.specs.Runs.{Closes, IsSiteRun}
use Rattle.station_laws.specs.PostRuns.{ArePostsOf}
use Rattle.station_laws.proofs.Contactors.{contactors_are_read}
use Rattle.station_laws.proofs.PostRuns.{run_posts, post_at}
use Rattle.safe_runs.specs.Opening.{HasFailed, IsOpen, RepeatsOpen, OpensAgain, HasOpened}
use Rattle.safe_runs.proofs.Openings.{runs_open_again, runs_end_open}
use Rattle.told_pasts.specs.Checks.{is_heard, is_act_of, opens, in_block, before_block, ForgetsOpen, EndsLive, ends_opened, EndsBlock}
use Rattle.told_pasts.specs.Spelling.{ToldCodecs}
use Rattle.own_traces.specs.Own.{Passes}
use Rattle.own_traces.proofs.Fronts.{seen_more, followed, hears, own, or_false}
use Rattle.own_traces.proofs.Places.{Of, told_place}
use Rattle.own_traces.proofs.Numbers.{fourth, eighth}

differ : true ≡ false → ⊥
differ h = cc

-- ---- a post that no entry names has no order

abbrev IsUnordered : List Seen → Type 0
IsUnordered past = last_order (contactor_acts past) ≡ None

fed : (o : Option Bool) (acts : List contactor.Act) → last_order (with_feedback o acts) ≡ last_order acts
fed None acts = refl
fed (Some closed) acts = refl

not_seen : (b : Bool) (x : Seen) (xs : List Seen) → b ≡ false → IsUnordered xs → IsUnordered (if b then x ∷ xs else xs)
not_seen true x xs n h = absurd (differ n)
not_seen false x xs n h = h

unordered : (k : ℕ) (past : List Entry) → list_any (is_act_of k) past ≡ false → IsUnordered (seen k past)
unordered k [] none = refl
unordered k (entry.Heard heard bytes ∷ past) none = fed (told_by feedback_in (event_at k heard.what bytes)) (contactor_acts (seen k past)) ∙ unordered k past none
unordered k (entry.Lost ∷ past) none = unordered k past none
unordered k (entry.Sent post bytes taken ∷ past) none =
    let n = or_false (post == k) (list_any (is_act_of k) past) none in
    not_seen (post == k) (Did (Send bytes) taken) (seen k past) n.0 (unordered k past n.1)
unordered k (entry.Answered post bytes taken ∷ past) none =
    let n = or_false (post == k) (list_any (is_act_of k) past) none in
    not_seen (post == k) (Did (Answer bytes) taken) (seen k past) n.0 (unordered k past n.1)
unordered k (entry.Drove post given taken ∷ past) none =
    let n = or_false (post == k) (list_any (is_act_of k) past) none in
    not_seen (post == k) (Did (Give given) taken) (seen k past) n.0 (unordered k past n.1)
unordered k (entry.Dialed port taken ∷ past) none = unordered k past none
unordered k (entry.Ended post cause ∷ past) none =
    let n = or_false (post == k) (list_any (is_act_of k) past) none in
    not_seen (post == k) (Did (End cause) true) (seen k past) n.0 (unordered k past n.1)

before_none : (k : ℕ) (past : List Entry) → list_any (is_act_of k) past ≡ false → list_any (is_act_of k) (before_block past) ≡ false
before_none k [] none = refl
before_none k (entry.Heard heard bytes ∷ past) none = none
before_none k (entry.Lost ∷ past) none = before_none k past none
before_none k (entry.Sent post bytes taken ∷ past) none = before_none k past (or_false (post == k) (list_any (is_act_of k) past) none).1
before_none k (entry.Answered post bytes taken ∷ past) none = before_none k past (or_false (post == k) (list_any (is_act_of k) past) none).1
before_none k (entry.Drove post given taken ∷ past) none = before_none k past (or_false (post == k) (list_any (is_act_of k) past) none).1
before_none k (entry.Dialed port taken ∷ past) none = before_none k past none
before_none k (entry.Ended post cause ∷ past) none = before_none k past (or_false (post == k) (list_any (is_act_of k) past) none).1

front_none : (k : ℕ) (newer front : List Entry) → list_any (is_act_of k) (newer ++ front) ≡ false → list_any (is_act_of k) front ≡ false
front_none k [] front none = none
front_none k (e ∷ newer) front none = front_none k newer front (or_false (is_act_of k e) (list_any (is_act_of k) (newer ++ front)) none).1

unordered_by_none : (heard : List Bool) → standing_by None heard ≡ standing.MustOpen → ⊥
unordered_by_none [] h = cc
unordered_by_none (true ∷ heard) h = cc
unordered_by_none (false ∷ heard) h = cc

none_must : (past : List Seen) → IsUnordered past → stands past ≡ standing.MustOpen → ⊥
none_must past none must =
    let acts = contactor_acts past in
    unordered_by_none (feedback_since acts) (sym (ap (λ (o : Option (Kind × Bool)). standing_by o (feedback_since acts)) none) ∙ must)

none_live : (acts : List contactor.Act) → last_order acts ≡ None → is_live acts ≡ false
none_live [] none = refl
none_live (contactor.ordered kind taken ∷ acts) none = cc
none_live (contactor.feedback closed ∷ acts) none = none_live acts none

-- ---- an order that failed

closing_not : (b : Bool) → cond b standing.Closed standing.Closing ≡ standing.MustOpen → ⊥
closing_not true h = cc
closing_not false h = cc

opening_not : (heard : List Bool) → opened_by heard ≡ standing.MustOpen → ⊥
opening_not [] h = cc
opening_not (true ∷ heard) h = cc
opening_not (false ∷ heard) h = cc

failed_last : (o : Option (Kind × Bool)) (heard : List Bool) → standing_by o heard ≡ standing.MustOpen → (kind : Kind) × (o ≡ Some (kind, false))
failed_last None heard h = absurd (unordered_by_none heard h)
failed_last (Some (contactor.Close, true)) heard h = absurd (closing_not (confirms heard) h)
failed_last (Some (contactor.Open, true)) heard h = absurd (opening_not heard h)
failed_last (Some (contactor.Close, false)) heard h = (contactor.Close, refl)
failed_last (Some (contactor.Open, false)) heard h = (contactor.Open, refl)

pub has_failed : (past : List Seen) → stands past ≡ standing.MustOpen → HasFailed past
has_failed past must = failed_last (last_order (contactor_acts past)) (feedback_since (contactor_acts past)) must

-- ---- the orders that close a run

repeats_any : (taken : Bool) (past : List Seen) → RepeatsOpen (Did (Give order.Open) taken) past
repeats_any taken [] = tt
repeats_any taken (Heard at event ∷ past) = λ failed. (taken, refl)
repeats_any taken (Did act done ∷ past) = tt

closed_again : (past blocks : List Seen) (b : Bool) → MatchBool b ((taken : Bool) × (past ≡ Did (Give order.Open) taken ∷ blocks)) (past ≡ blocks) → OpensAgain blocks → HasOpened blocks → OpensAgain past × HasOpened past
closed_again past blocks true m again opened = subst (λ (xs : List Seen). OpensAgain xs × HasOpened xs) (sym m.1) ((again, repeats_any m.0 blocks), tt)
closed_again past blocks false m again opened = subst (λ (xs : List Seen). OpensAgain xs × HasOpened xs) (sym m) (again, opened)

whole_again : (c : Codecs) (site : SitePlan) (past : List Entry) (k : ℕ) (r : IsSiteRun c site past) → Of r.posts k → OpensAgain (seen k past) × HasOpened (seen k past)
whole_again c site past k r o =
    let x = runs_open_again c site r.blocks r.posts o.before o.post o.behind r.run o.posts_are in
    let n = length o.before + 1 in
    let y = runs_end_open c site past r.blocks r.posts o.before o.post o.behind r.run r.closes o.posts_are in
    subst (λ (i : ℕ). OpensAgain (seen i past) × HasOpened (seen i past)) (sym o.number) (closed_again (seen n past) (seen n r.blocks) (live (seen n r.blocks)) y x.0 (x.1 r.whole))

-- ---- the fourth check

again_rest : (more rest : List Seen) → OpensAgain (more ++ rest) → OpensAgain rest
again_rest [] rest h = h
again_rest (x ∷ more) rest h = again_rest more rest h.0

again_at : (k : ℕ) (past behind front : List Entry) → past ≡ behind ++ front → OpensAgain (seen k past) → OpensAgain (seen k front)
again_at k past behind front is h =
    let r = seen_more k behind front in
    again_rest r.0 (seen k front) (subst OpensAgain (ap (seen k) is ∙ r.1) h)

opening_of : (act : Act) (taken : Bool) → IsOpen (Did act taken) → act ≡ Give order.Open
opening_of act taken (done, e) = cc

not_heard : (at : ℕ) (event : Event) → IsOpen (Heard at event) → ⊥
not_heard at event (done, e) = cc

forgets_first : (k : ℕ) (e : Entry) (earlier : List Entry) → OpensAgain (seen k (e ∷ earlier)) → is_act_of k e ≡ true → opens e ≡ false → list_any is_heard earlier ≡ true → list_any (is_act_of k) (in_block earlier) ≡ false
    → stands (seen k (before_block earlier)) ≡ standing.MustOpen → ⊥
forgets_first k e earlier again acts shut begun unacted must =
    let o = own k e earlier acts in
    let h = hears k earlier begun unacted in
    let rest = seen k (before_block earlier) in
    let is : seen k (e ∷ earlier) ≡ Did o.act o.taken ∷ (Heard h.at h.event ∷ rest) = o.is ∙ ap (λ (xs : List Seen). Did o.act o.taken ∷ xs) h.is in
    let here : OpensAgain (Did o.act o.taken ∷ (Heard h.at h.event ∷ rest)) = subst OpensAgain is again in
    differ (sym (o.opening (opening_of o.act o.taken (here.1 (has_failed rest must)))) ∙ shut)

forgets_last : (k : ℕ) (past behind earlier : List Entry) (e : Entry) → past ≡ behind ++ e ∷ earlier → OpensAgain (seen k past) → HasOpened (seen k past) → EndsBlock behind (e ∷ earlier) → list_any (is_act_of k) (in_block (e ∷ earlier)) ≡ false
    → stands (seen k (before_block (e ∷ earlier))) ≡ standing.MustOpen → ⊥
forgets_last k past behind earlier e is again opened ends unacted must =
    let h = hears k (e ∷ earlier) ends.begun unacted in
    let rest = seen k (before_block (e ∷ earlier)) in
    elim ends.follows [
      | inl newest ↦
          let whole : past ≡ e ∷ earlier = is ∙ ap (λ (es : List Entry). es ++ e ∷ earlier) newest in
          let here : HasOpened (Heard h.at h.event ∷ rest) = subst HasOpened (ap (seen k) whole ∙ h.is) opened in
          here (has_failed rest must)
      | inr follows ↦
          let f = followed k past behind (e ∷ earlier) is follows in
          let there : OpensAgain (Heard f.at f.event ∷ seen k (e ∷ earlier)) = again_rest f.more (Heard f.at f.event ∷ seen k (e ∷ earlier)) (subst OpensAgain f.is again) in
          let here : OpensAgain (Heard f.at f.event ∷ (Heard h.at h.event ∷ rest)) = subst (λ (xs : List Seen). OpensAgain (Heard f.at f.event ∷ xs)) h.is there in
          not_heard f.at f.event (here.1 (has_failed rest must))
    ]

forgets_no_open : (c : Codecs) (site : SitePlan) (past behind earlier : List Entry) (e : Entry) → IsSiteRun c site past → past ≡ behind ++ e ∷ earlier → ForgetsOpen earlier e behind → ⊥
forgets_no_open c site past behind earlier e r is f = elim (told_place c site past f.k r) [
  | inr none ↦
      let here = front_none f.k behind (e ∷ earlier) (sym (ap (list_any (is_act_of f.k)) is) ∙ none) in
      let there = (or_false (is_act_of f.k e) (list_any (is_act_of f.k) earlier) here).1 in
      elim f.forgets [
        | inl (acts, shut, begun, unacted, must) ↦ none_must (seen f.k (before_block earlier)) (unordered f.k (before_block earlier) (before_none f.k earlier there)) must
        | inr (ends, unacted, must) ↦ none_must (seen f.k (before_block (e ∷ earlier))) (unordered f.k (before_block (e ∷ earlier)) (before_none f.k (e ∷ earlier) here)) must
      ]
  | inl o ↦
      let w = whole_again c site past f.k r o in
      elim f.forgets [
        | inl (acts, shut, begun, unacted, must) ↦ forgets_first f.k e earlier (again_at f.k past behind (e ∷ earlier) is w.0) acts shut begun unacted must
        | inr (ends, unacted, must) ↦ forgets_last f.k past behind earlier e is w.0 w.1 ends unacted must
      ]
]

pub fourth_passes : (c : ToldCodecs) → Passes c 4
fourth_passes c site past line r f = forgets_no_open c.words site past f.behind f.earlier f.e r f.past_is (fourth c site f.earlier f.e f.behind 4 refl f.fails)

-- ---- the eighth check

or_right : (a b : Bool) → b ≡ true → (a || b) ≡ true
or_right true b h = refl
or_right false b h = h

stays_one : (k j : ℕ) (posts : List Post) (blocks past : List Entry) (b : Bool) → ends_opened k blocks ≡ true
    → ((bs : List Entry) → ends_opened k bs ≡ true → Closes (suc j) posts bs past → ends_opened k past ≡ true)
    → MatchBool b ((taken : Bool) × Closes (suc j) posts (entry.Drove j order.Open taken ∷ blocks) past) (Closes (suc j) posts blocks past) → ends_opened k past ≡ true
stays_one k j posts blocks past true h rest c = rest (entry.Drove j order.Open c.0 ∷ blocks) (or_right (j == k && true) (ends_opened k blocks) h) c.1
stays_one k j posts blocks past false h rest c = rest blocks h c

stays_opened : (k j : ℕ) (posts : List Post) (blocks past : List Entry) → ends_opened k blocks ≡ true → Closes j posts blocks past → ends_opened k past ≡ true
stays_opened k j [] blocks past h c = ap (ends_opened k) c ∙ h
stays_opened k j (p ∷ posts) blocks past h c = stays_one k j posts blocks past (state_of p).live h (λ bs g d. stays_opened k (suc j) posts bs past g d) c

opened_here : (k j : ℕ) (posts : List Post) (blocks past : List Entry) (b : Bool) → k ≡ j → b ≡ true
    → MatchBool b ((taken : Bool) × Closes (suc j) posts (entry.Drove j order.Open taken ∷ blocks) past) (Closes (suc j) posts blocks past) → ends_opened k past ≡ true
opened_here k j posts blocks past true same on c =
    let t = eq-eqb j k (sym same) in
    stays_opened k (suc j) posts (entry.Drove j order.Open c.0 ∷ blocks) past (rw t refl) c.1
opened_here k j posts blocks past false same on c = cc

opened_later : (k j : ℕ) (posts : List Post) (blocks past : List Entry) (b : Bool) → ((bs : List Entry) → Closes (suc j) posts bs past → ends_opened k past ≡ true)
    → MatchBool b ((taken : Bool) × Closes (suc j) posts (entry.Drove j order.Open taken ∷ blocks) past) (Closes (suc j) posts blocks past) → ends_opened k past ≡ true
opened_later k j posts blocks past true rest c = rest (entry.Drove j order.Open c.0 ∷ blocks) c.1
opened_later k j posts blocks past false rest c = rest blocks c

closes_opened : (k j : ℕ) (before : List Post) (p : Post) (behind : List Post) (blocks past : List Entry) → k ≡ length before + j → (state_of p).live ≡ true → Closes j (before ++ p ∷ behind) blocks past → ends_opened k past ≡ true
closes_opened k j [] p behind blocks past e on c = opened_here k j behind blocks past (state_of p).live (omega (arith, e)) on c
closes_opened k j (q ∷ before) p behind blocks past e on c =
    let l : length (q ∷ before) ≡ length before + 1 = omega arith in
    opened_later k j (before ++ p ∷ behind) blocks past (state_of q).live (λ bs d. closes_opened k (suc j) before p behind bs past (omega (arith, e, l)) on d) c

live_blocks : (past blocks : List Seen) (b : Bool) → live blocks ≡ b → live past ≡ true → MatchBool b ((taken : Bool) × (past ≡ Did (Give order.Open) taken ∷ blocks)) (past ≡ blocks) → live blocks ≡ true
live_blocks past blocks true e on m = e
live_blocks past blocks false e on m = sym (ap live m) ∙ on

ends_open_at : (c : Codecs) (site : SitePlan) (past : List Entry) (k : ℕ) (r : IsSiteRun c site past) → Of r.posts k → live (seen k past) ≡ true → ends_opened k past ≡ true
ends_open_at c site past k r o on =
    let n = length o.before + 1 in
    let y = runs_end_open c site past r.blocks r.posts o.before o.post o.behind r.run r.closes o.posts_are in
    let all = subst (ArePostsOf c r.blocks 1) o.posts_are (run_posts c site r.blocks r.posts r.run) in
    let p = post_at c r.blocks n 1 o.before o.post o.behind refl all in
    let l : (state_of o.post).live ≡ live (seen n r.blocks) = (contactors_are_read o.post.plan o.post.steps).live_is ∙ ap live (sym p.seen_is) in
    let up : live (seen n past) ≡ true = ap (λ (i : ℕ). live (seen i past)) (sym o.number) ∙ on in
    let below = live_blocks (seen n past) (seen n r.blocks) (live (seen n r.blocks)) refl up y in
    closes_opened k 1 o.before o.post o.behind r.blocks past o.number (l ∙ below) (subst (λ (ps : List Post). Closes 1 ps r.blocks past) o.posts_are r.closes)

leaves_none : (c : Codecs) (site : SitePlan) (past behind earlier : List Entry) (e : Entry) → IsSiteRun c site past → past ≡ behind ++ e ∷ earlier → EndsLive earlier e behind → ⊥
leaves_none c site past behind earlier e r is f =
    let whole : past ≡ e ∷ earlier = is ∙ ap (λ (es : List Entry). es ++ e ∷ earlier) f.newest in
    let on : live (seen f.k past) ≡ true = ap (λ (es : List Entry). live (seen f.k es)) whole ∙ f.live_is in
    elim (told_place c site past f.k r) [
      | inr none ↦ differ (sym on ∙ none_live (contactor_acts (seen f.k past)) (unordered f.k past none))
      | inl o ↦ differ (sym (ends_open_at c site past f.k r o on) ∙ ap (ends_opened f.k) whole ∙ f.left)
    ]

pub eighth_passes : (c : ToldCodecs) → Passes c 8
eighth_passes c site past line r f = leaves_none c.words site past f.behind f.earlier f.e r f.past_is (eighth c site f.earlier f.e f.behind 8 refl f.fails)
