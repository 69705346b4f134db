-- The third check: the first cause of a session opens its live contactor before anything else is heard or sent.
use Rattle.std.proofs.Common.{◌≡◌, ℕ, suc, ◌+◌, ◌==◌, Bool, true, false, ◌&&◌, if◌then◌else◌, List, [], ◌∷◌, ◌++◌, length, map, Option, refl, sym, ap, subst, ◌∙◌, inl, inr, MatchBool, arith}
use Rattle.std.specs.List.{AllByRecursion, list_all}
use Rattle.std.proofs.lemmas.Bool.{eq-eqb}
use Rattle.std.proofs.lemmas.List.{append_assoc}
use Rattle.charge_world.specs.declared.entry.Entry.{Entry}
use Rattle.charge_world.specs.declared.entry.Entry.TheVariants as entry
use Rattle.charge_world.specs.declared.heard.Heard.{Heard as HeardSo}
use Rattle.charge_world.specs.declared.ports.Order.TheVariants as order
use Rattle.session_words.specs.declared.plan.PostPlan.{PostPlan}
use Rattle.session_words.specs.declared.plan.SitePlan.{SitePlan}
use Rattle.post_spec.specs.Contactors.{live}
use Rattle.post_spec.specs.Steps.{Act, Give, Send, Answer, End, Seen, Did, Reading, Step, Hears, Does, seen, seen_of}
use Rattle.station_spec.specs.Sharing.{Post, state_of}
use Rattle.station_spec.specs.Runs.{AreQuiet, with_step, IsRun, Closes, IsSiteRun}
use Rattle.station_laws.proofs.Contactors.{contactors_are_read}
use Rattle.station_laws.proofs.PostRuns.{quiet_at}
use Rattle.safe_runs.specs.Opening.{OpensAgain, HasOpened}
use Rattle.safe_runs.proofs.Openings.{runs_open_again, runs_end_open}
use Rattle.coming_causes_open.specs.Causing.{IsOpening}
use Rattle.own_traces.specs.Reasons.{Stands}
use Rattle.own_traces.proofs.Reasons.{every_cause_opens}
use Rattle.told_pasts.specs.Causes.{OwesOpen}
use Rattle.told_pasts.specs.Checks.{opens, AnswersOrHears, OwesAt, OpensAlone, PassesCause}
use Rattle.told_pasts.specs.Spelling.{ToldCodecs}
use Rattle.told_pasts.specs.Steps as told
use Rattle.told_pasts.specs.Steps.{ToldStep, seen_in}
use Rattle.own_traces.specs.Owning.{TellsOwn, PassesOwn}
use Rattle.own_traces.proofs.Numbers.{third}
use Rattle.own_traces.proofs.Openings.{has_failed}
use Rattle.own_traces.proofs.Pasts.{steps_of}
use Rattle.own_traces.proofs.Places.{Of, run_plans, of_plan}
use Rattle.own_traces.proofs.Sending.{front_of}
use Rattle.own_traces.proofs.Told.{told_of, number_of}
use Rattle.own_courses.proofs.Alike.{Known}
use Rattle.own_courses.proofs.Calm.{differ}
use Rattle.own_courses.proofs.Firsts.{MustHear, Laws, laws_before, first_stands, next_opens, owes_first}
use Rattle.own_courses.proofs.Turns.{Along, post_one, no_entry, sent_is}

-- ---- where a block is whole, nothing is owed

must_opened : (alls : List Step) → HasOpened (map seen_of alls) → MustHear alls → ⊥
must_opened [] opened must = must
must_opened (Hears at e ∷ steps) opened must = opened (has_failed (map seen_of steps) must)
must_opened (Does q a taken ∷ steps) opened must = must

rest_owes : (c : ToldCodecs) (plan : PostPlan) (olds : List ToldStep) (alls : List Step) → Known c plan olds alls → Along c plan olds alls → Laws c plan alls → (Stands c.words plan alls → ⊥) → HasOpened (map seen_of alls) → OwesOpen c plan olds → ⊥
rest_owes c plan [] alls k a l none opened owes = owes
rest_owes c plan (t ∷ old) [] k a l none opened owes = a
rest_owes c plan (t ∷ old) (s ∷ steps) k a l none opened owes = elim (first_stands c plan t old s steps k a (owes_first c plan t old s steps k a l owes)) [
  | inl stands ↦ none stands
  | inr must ↦ must_opened (s ∷ steps) opened must
]

-- ---- and what is done next is an order to open

step_owes : (c : ToldCodecs) (plan : PostPlan) (x : Step) (olds : List ToldStep) (alls : List Step) → Known c plan olds alls → Along c plan olds alls → Laws c plan (x ∷ alls) → OwesOpen c plan olds → IsOpening x
step_owes c plan x [] alls k a l owes = absurd owes
step_owes c plan x (t ∷ old) [] k a l owes = absurd a
step_owes c plan x (t ∷ old) (s ∷ steps) k a l owes = next_opens c plan x t old s steps k a l (owes_first c plan t old s steps k a (laws_before c plan x (s ∷ steps) l) owes)

-- ---- before something is heard

owed_heard : (c : ToldCodecs) (site : SitePlan) (earlier : List Entry) (heard : HeardSo) (bytes : List ℕ) (k : ℕ) (later : List Post) → TellsOwn c → IsRun c.words site (entry.Heard heard bytes ∷ earlier) later → OwesAt c site earlier k → ⊥
owed_heard c site earlier heard bytes k later own (posts, run, inr m) w = no_entry m.act (length m.before + 1) m.taken heard bytes m.entry_is
owed_heard c site earlier heard bytes k later own (posts, run, inl h) w =
    let o = of_plan posts k site.post.items (number_of c site earlier k w.post w.is) (run_plans c.words site earlier posts run) in
    let one = post_one c site earlier posts k w.post own run o w.is in
    let owes : OwesOpen c o.post.plan w.post.steps = subst (λ (p : PostPlan). OwesOpen c p w.post.steps) one.plan_is w.owes in
    let causes = every_cause_opens c.words site earlier posts o.before o.post o.behind own.reads_back own.determined own.judges run o.posts_are in
    let again = runs_open_again c.words site earlier posts o.before o.post o.behind run o.posts_are in
    let s = steps_of c.words site earlier posts k own.reads_back own.determined run o in
    let here : seen (length o.before + 1) earlier ≡ map seen_of o.post.steps = ap (λ (i : ℕ). seen i earlier) (sym o.number) ∙ s.seen_is in
    rest_owes c o.post.plan w.post.steps o.post.steps one.known one.along (record { opening = causes.0; again = subst OpensAgain here again.0 }) (causes.1 (quiet_at o.before o.post o.behind (subst AreQuiet o.posts_are h.whole)))
    (subst HasOpened here (again.1 h.whole)) owes

-- ---- before something is sent

sent_opening : (q : Option Reading) (a : Act) (taken : Bool) (bytes : List ℕ) → a ≡ Send bytes → IsOpening (Does q a taken) → ⊥
sent_opening q a taken bytes e o = let x = o.2 in let y : a ≡ Give order.Open = cc in let z : Send bytes ≡ Give order.Open = sym e ∙ y in cc

owed_sent : (c : ToldCodecs) (site : SitePlan) (earlier : List Entry) (k : ℕ) (bytes : List ℕ) (taken : Bool) (later : List Post) → TellsOwn c → IsRun c.words site (entry.Sent k bytes taken ∷ earlier) later → OwesAt c site earlier k → ⊥
owed_sent c site earlier k bytes taken later own (posts, run, inl h) w = h.heard
owed_sent c site earlier k bytes taken later own (posts, run, inr m) w =
    let e = entry.Sent k bytes taken in
    let act = sent_is k (length m.before + 1) bytes taken m.act m.taken m.entry_is in
    let o : Of posts k = record { before = m.before; post = m.post; behind = m.behind; posts_are = m.posts_are; number = act.number } in
    let one = post_one c site earlier posts k w.post own run o w.is in
    let owes : OwesOpen c m.post.plan w.post.steps = subst (λ (p : PostPlan). OwesOpen c p w.post.steps) one.plan_is w.owes in
    let x = Does m.reading m.act m.taken in
    let next : IsRun c.words site (entry.Sent k bytes taken ∷ earlier) later = (posts, run, inr m) in
    let causes = every_cause_opens c.words site (entry.Sent k bytes taken ∷ earlier) later m.before (with_step (Does m.reading m.act m.taken) m.post) m.behind own.reads_back own.determined own.judges next m.later_is in
    let again = runs_open_again c.words site (entry.Sent k bytes taken ∷ earlier) later m.before (with_step (Does m.reading m.act m.taken) m.post) m.behind next m.later_is in
    let p : Of later k = record { before = m.before; post = with_step (Does m.reading m.act m.taken) m.post; behind = m.behind; posts_are = m.later_is; number = act.number } in
    let s = steps_of c.words site (entry.Sent k bytes taken ∷ earlier) later k own.reads_back own.determined next p in
    let here : seen (length m.before + 1) (entry.Sent k bytes taken ∷ earlier) ≡ map seen_of (Does m.reading m.act m.taken ∷ m.post.steps) = ap (λ (i : ℕ). seen i (entry.Sent k bytes taken ∷ earlier)) (sym act.number) ∙ s.seen_is in
    sent_opening m.reading m.act m.taken bytes act.act (step_owes c m.post.plan (Does m.reading m.act m.taken) w.post.steps m.post.steps one.known one.along (record { opening = causes.0; again = subst OpensAgain here again.0 }) owes)

owed_next : (c : ToldCodecs) (site : SitePlan) (past behind earlier : List Entry) (e : Entry) (k : ℕ) → TellsOwn c → IsSiteRun c.words site past → past ≡ behind ++ e ∷ earlier → AnswersOrHears k e → OwesAt c site earlier k → ⊥
owed_next c site past behind earlier (entry.Heard heard bytes) k own r is a w =
    let f = front_of c.words site past behind (entry.Heard heard bytes) earlier r refl is in
    owed_heard c site earlier heard bytes k f.posts own f.run w
owed_next c site past behind earlier entry.Lost k own r is a w = a
owed_next c site past behind earlier (entry.Sent post bytes taken) k own r is a w =
    let here : past ≡ behind ++ entry.Sent k bytes taken ∷ earlier = is ∙ ap (λ (n : ℕ). behind ++ entry.Sent n bytes taken ∷ earlier) a in
    let f = front_of c.words site past behind (entry.Sent k bytes taken) earlier r refl here in
    owed_sent c site earlier k bytes taken f.posts own f.run w
owed_next c site past behind earlier (entry.Answered post bytes taken) k own r is a w = a
owed_next c site past behind earlier (entry.Drove post given taken) k own r is a w = a
owed_next c site past behind earlier (entry.Dialed port taken) k own r is a w = a
owed_next c site past behind earlier (entry.Ended post cause) k own r is a w = a

-- ---- at the end of a trace, only orders to open follow one that failed

close_live : (r : Option Reading) (taken : Bool) (old : List ToldStep) → live (seen_in (told.Does r (Give order.Close) taken ∷ old)) ≡ true
close_live r true old = refl
close_live r false old = refl

-- what owes an order to open is live
owes_live : (c : ToldCodecs) (plan : PostPlan) (olds : List ToldStep) → OwesOpen c plan olds → live (seen_in olds) ≡ true
owes_live c plan [] owes = absurd owes
owes_live c plan (t ∷ old) (inl f) = f.live_is
owes_live c plan (told.Hears at e ∷ old) (inr (goes, owes)) = absurd goes
owes_live c plan (told.Does r (Give order.Open) taken ∷ old) (inr (goes, owes)) = absurd goes
owes_live c plan (told.Does r (Give order.Close) taken ∷ old) (inr (goes, owes)) = close_live r taken old
owes_live c plan (told.Does r (Give (order.Limits voltage current watts)) taken ∷ old) (inr (goes, owes)) = owes_live c plan old owes
owes_live c plan (told.Does r (Send bytes) taken ∷ old) (inr (goes, owes)) = owes_live c plan old owes
owes_live c plan (told.Does r (Answer bytes) taken ∷ old) (inr (goes, owes)) = owes_live c plan old owes
owes_live c plan (told.Does r (End n) taken ∷ old) (inr (goes, owes)) = owes_live c plan old owes
owes_live c plan (told.Sends r bytes taken said ∷ old) (inr (goes, owes)) = owes_live c plan old owes

abbrev AllOpen : List Entry → Type 0
AllOpen = AllByRecursion (λ e. opens e ≡ true)

open_more : (since rest : List Entry) → AllOpen since → AllOpen rest → AllOpen (since ++ rest)
open_more [] rest a b = b
open_more (e ∷ since) rest a b = (a.0, open_more since rest a.1 b)

and_both : (a b : Bool) → a ≡ true → b ≡ true → (a && b) ≡ true
and_both a b e f = rw (e, f) refl

open_list : (since : List Entry) → AllOpen since → list_all opens since ≡ true
open_list [] a = refl
open_list (e ∷ since) a = and_both (opens e) (list_all opens since) a.0 (open_list since a.1)

pub record Behind (blocks past : List Entry) : Type 0 where
  pub since : List Entry
  pub is : past ≡ since ++ blocks
  pub all : AllOpen since

behind_one : (j : ℕ) (taken : Bool) (blocks past : List Entry) → Behind (entry.Drove j order.Open taken ∷ blocks) past → Behind blocks past
behind_one j taken blocks past b = record {
  since = b.since ++ entry.Drove j order.Open taken ∷ [];
  is = b.is ∙ sym (append_assoc b.since (entry.Drove j order.Open taken ∷ []) blocks);
  all = open_more b.since (entry.Drove j order.Open taken ∷ []) b.all (refl, tt);
}

behind_by : (j : ℕ) (posts : List Post) (blocks past : List Entry) (b : Bool) → ((bs : List Entry) → Closes (suc j) posts bs past → Behind bs past)
    → MatchBool b ((taken : Bool) × Closes (suc j) posts (entry.Drove j order.Open taken ∷ blocks) past) (Closes (suc j) posts blocks past) → Behind blocks past
behind_by j posts blocks past true rest c = behind_one j c.0 blocks past (rest (entry.Drove j order.Open c.0 ∷ blocks) c.1)
behind_by j posts blocks past false rest c = rest blocks c

closes_behind : (j : ℕ) (posts : List Post) (blocks past : List Entry) → Closes j posts blocks past → Behind blocks past
closes_behind j [] blocks past c = record { since = []; is = c; all = tt }
closes_behind j (p ∷ posts) blocks past c = behind_by j posts blocks past (state_of p).live (λ bs d. closes_behind (suc j) posts bs past d) c

-- the order that closes post k
pub record Closed (k : ℕ) (past : List Entry) : Type 0 where
  pub taken : Bool
  pub earlier : List Entry
  pub behind : Behind (entry.Drove k order.Open taken ∷ earlier) past

closed_here : (k j : ℕ) (posts : List Post) (blocks past : List Entry) (b : Bool) → k ≡ j → b ≡ true → MatchBool b ((taken : Bool) × Closes (suc j) posts (entry.Drove j order.Open taken ∷ blocks) past) (Closes (suc j) posts blocks past) → Closed k past
closed_here k j posts blocks past true same on c =
    let x = closes_behind (suc j) posts (entry.Drove j order.Open c.0 ∷ blocks) past c.1 in
    record { taken = c.0; earlier = blocks; behind = subst (λ (n : ℕ). Behind (entry.Drove n order.Open c.0 ∷ blocks) past) (sym same) x }
closed_here k j posts blocks past false same on c = cc

closed_later : (k j : ℕ) (posts : List Post) (blocks past : List Entry) (b : Bool) → ((bs : List Entry) → Closes (suc j) posts bs past → Closed k past)
    → MatchBool b ((taken : Bool) × Closes (suc j) posts (entry.Drove j order.Open taken ∷ blocks) past) (Closes (suc j) posts blocks past) → Closed k past
closed_later k j posts blocks past true rest c = rest (entry.Drove j order.Open c.0 ∷ blocks) c.1
closed_later k j posts blocks past false rest c = rest blocks c

closed_at : (k j : ℕ) (before : List Post) (p : Post) (behind : List Post) (blocks past : List Entry) → k ≡ length before + j → (state_of p).live ≡ true → Closes j (before ++ p ∷ behind) blocks past → Closed k past
closed_at k j [] p behind blocks past e on c = closed_here k j behind blocks past (state_of p).live (omega (arith, e)) on c
closed_at k j (q ∷ before) p behind blocks past e on c =
    let l : length (q ∷ before) ≡ length before + 1 = omega arith in
    closed_later k j (before ++ p ∷ behind) blocks past (state_of q).live (λ bs d. closed_at k (suc j) before p behind bs past (omega (arith, e, l)) on d) c

-- behind an order to open that was taken it is dark
open_dark : (taken : Bool) (xs : List Seen) → live xs ≡ false → live (Did (Give order.Open) taken ∷ xs) ≡ false
open_dark true xs h = refl
open_dark false xs h = h

if_dark : (b taken : Bool) (xs : List Seen) → live xs ≡ false → live (if b then Did (Give order.Open) taken ∷ xs else xs) ≡ false
if_dark true taken xs h = open_dark taken xs h
if_dark false taken xs h = h

stays_dark : (k : ℕ) (since front : List Entry) → AllOpen since → live (seen k front) ≡ false → live (seen k (since ++ front)) ≡ false
stays_dark k [] front a h = h
stays_dark k (entry.Heard heard bytes ∷ since) front a h = cc
stays_dark k (entry.Lost ∷ since) front a h = cc
stays_dark k (entry.Sent post bytes taken ∷ since) front a h = cc
stays_dark k (entry.Answered post bytes taken ∷ since) front a h = cc
stays_dark k (entry.Drove post order.Open taken ∷ since) front a h = if_dark (post == k) taken (seen k (since ++ front)) (stays_dark k since front a.1 h)
stays_dark k (entry.Drove post order.Close taken ∷ since) front a h = cc
stays_dark k (entry.Drove post (order.Limits voltage current watts) taken ∷ since) front a h = cc
stays_dark k (entry.Dialed port taken ∷ since) front a h = cc
stays_dark k (entry.Ended post cause ∷ since) front a h = cc

taken_dark : (k : ℕ) (earlier : List Entry) → live (seen k (entry.Drove k order.Open true ∷ earlier)) ≡ false
taken_dark k earlier = let t = eq-eqb k k refl in rw t refl

alone_by : (k : ℕ) (past : List Entry) (taken : Bool) (earlier : List Entry) → Behind (entry.Drove k order.Open taken ∷ earlier) past → live (seen k past) ≡ true → OpensAlone k past
alone_by k past false earlier b on = record { since = b.since; earlier = earlier; past_is = b.is; alone = open_list b.since b.all }
alone_by k past true earlier b on =
    let dark = stays_dark k b.since (entry.Drove k order.Open true ∷ earlier) b.all (taken_dark k earlier) in
    differ (live (seen k past)) on (ap (λ (es : List Entry). live (seen k es)) b.is ∙ dark)

live_blocks : (past blocks : List Seen) (b : Bool) → live blocks ≡ b → live past ≡ true → MatchBool b ((taken : Bool) × (past ≡ Did (Give order.Open) taken ∷ blocks)) (past ≡ blocks) → live blocks ≡ true
live_blocks past blocks true e on m = e
live_blocks past blocks false e on m = sym (ap live m) ∙ on

ends_alone : (c : ToldCodecs) (site : SitePlan) (past : List Entry) (k : ℕ) → TellsOwn c → IsSiteRun c.words site past → OwesAt c site past k → OpensAlone k past
ends_alone c site past k own r w =
    let told = told_of c site past k w.post w.is in
    let on : live (seen k past) ≡ true = ap live told.seen_is ∙ owes_live c w.post.plan w.post.steps w.owes in
    let o = of_plan r.posts k site.post.items (number_of c site past k w.post w.is) (run_plans c.words site r.blocks r.posts r.run) in
    let n = length o.before + 1 in
    let ends = runs_end_open c.words site past r.blocks r.posts o.before o.post o.behind r.run r.closes o.posts_are in
    let up : live (seen (length o.before + 1) past) ≡ true = ap (λ (i : ℕ). live (seen i past)) (sym o.number) ∙ on in
    let below = live_blocks (seen (length o.before + 1) past) (seen (length o.before + 1) r.blocks) (live (seen (length o.before + 1) r.blocks)) refl up ends in
    let s = steps_of c.words site r.blocks r.posts k own.reads_back own.determined r.run o in
    let l : (state_of o.post).live ≡ true = (contactors_are_read o.post.plan o.post.steps).live_is ∙ ap live (sym s.seen_is) ∙ ap (λ (i : ℕ). live (seen i r.blocks)) o.number ∙ below in
    let c2 = closed_at k 1 o.before o.post o.behind r.blocks past o.number l (subst (λ (ps : List Post). Closes 1 ps r.blocks past) o.posts_are r.closes) in
    alone_by k past c2.taken c2.earlier c2.behind on

-- ---- the third check

opens_all : (c : ToldCodecs) (site : SitePlan) (past behind earlier : List Entry) (e : Entry) → TellsOwn c → IsSiteRun c.words site past → past ≡ behind ++ e ∷ earlier → PassesCause c site earlier e behind → ⊥
opens_all c site past behind earlier e own r is f = elim f.passes [
  | inl x ↦ owed_next c site past behind earlier e f.k own r is x.0 x.1
  | inr x ↦
      let whole : past ≡ e ∷ earlier = is ∙ ap (λ (es : List Entry). es ++ e ∷ earlier) x.0 in
      let here : IsSiteRun c.words site (e ∷ earlier) = subst (IsSiteRun c.words site) whole r in
      x.2 (ends_alone c site (e ∷ earlier) f.k own here x.1)
]

pub third_passes : (c : ToldCodecs) → PassesOwn c 3
third_passes c own site past line r f = opens_all c site past f.behind f.earlier f.e own r f.past_is (third c site f.earlier f.e f.behind 3 refl f.fails)
