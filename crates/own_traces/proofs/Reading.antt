-- What was read for the orders to close of a trace that a station wrote.
use Rattle.std.proofs.Common.{◌≡◌, ℕ, Bool, true, false, ◌||◌, if◌then◌else◌, List, [], ◌∷◌, map, Option, Some, None, is_some, refl, sym, ap, subst, ◌∙◌, inl}
use Rattle.std.specs.List.{AllByRecursion}
use Rattle.charge_world.specs.declared.ports.Order.TheVariants as order
use Rattle.session_words.specs.declared.plan.PostPlan.{PostPlan}
use Rattle.post_spec.specs.Codecs.{Judged}
use Rattle.post_spec.specs.Mandated.{before_close}
use Rattle.post_spec.specs.Sessions.{arriving, session, session_behind, with_seen, stream, waits}
use Rattle.post_spec.specs.Steps.{Event, Came, Bytes, Gone, Datagram, Plant, Clock, Over, Act, Give, Send, Answer, End, Seen, Heard, Did, Reading, Step, Hears, Does, seen_of}
use Rattle.station_laws.specs.PostRuns.{IsPostRun}
use Rattle.safe_runs.specs.Started.{IsBehindClose}
use Rattle.served_sessions.proofs.Bytes.{AreHeard, stream_octets}
use Rattle.next_words.specs.Next.{AreReadInOrder, IsNextWord, IsReadNext}
use Rattle.opens_have_reasons.proofs.Judging.{words_of}
use Rattle.told_pasts.specs.Reading.{IsJudged}
use Rattle.told_pasts.specs.Spelling.{ToldCodecs}
use Rattle.told_pasts.specs.Steps as told
use Rattle.told_pasts.specs.Steps.{Said, Response, Replied, Other, Unasked, ToldStep, Sends, seen_in}
use Rattle.told_pasts.specs.Talk.{Reply, is_judged, judged_over, judged_by, replies, with_said}
use Rattle.own_traces.proofs.Told.{Reads, IsToldRun}
use Rattle.own_traces.specs.Owning.{TellsOwn}
use Rattle.own_traces.proofs.Answering.{one_session}
use Rattle.own_traces.proofs.Pasts.{IsClosed, Still, Opened, OwnPast}
use Rattle.own_traces.proofs.Resting.{Clear, reads_clear, closing_read, read_lives}
use Rattle.post_spec.specs.Talk.{Unless}

-- ---- what is read for an act

open_reads_none : {A : Type 0} (c : ToldCodecs) (plan : PostPlan) (steps : List ToldStep) (act : Act) (x : Reading) → Reads c plan steps act (Some x) → ((judged : Judged) → IsJudged c plan steps act judged → ⊥) → A
open_reads_none c plan steps act x (limit, before, behind, r) none = absurd (none x.judged r.0)

-- ---- where nothing was done about a word, none was judged

unless_judged : (came : Option Seen) (C : Type 0) (b : Bool) → (C → b ≡ false) → Unless came C (Unit {0}) → (if is_some came then false else b) ≡ false
unless_judged None C b h c = h c
unless_judged (Some x) C b h c = refl

none_judged : (c : ToldCodecs) (plan : PostPlan) (steps : List ToldStep) (act : Act) (r : Option Reading) (b : Bool) → Reads c plan steps act r → ((judged : Judged) → IsJudged c plan steps act judged → ⊥) → b ≡ false → (is_some r || b) ≡ false
none_judged c plan steps act None b reads none e = e
none_judged c plan steps act (Some x) b reads none e = open_reads_none c plan steps act x reads none

pub clear_unjudged : (c : ToldCodecs) (plan : PostPlan) (steps : List ToldStep) → IsToldRun c plan steps → Clear (seen_in steps) → is_judged steps ≡ false
clear_unjudged c plan [] run clear = refl
clear_unjudged c plan (told.Hears at event ∷ steps) run clear = unless_judged (arriving (seen_in steps)) (Clear (seen_in steps)) (is_judged steps) (λ k. clear_unjudged c plan steps run k) clear
clear_unjudged c plan (told.Does r (Give order.Open) taken ∷ steps) run clear =
    none_judged c plan steps (Give order.Open) r (is_judged steps) run.1 (λ judged j. j.judges (inl clear.0)) (clear_unjudged c plan steps run.0 clear.1)
clear_unjudged c plan (told.Does r (Give order.Close) taken ∷ steps) run clear = absurd clear
clear_unjudged c plan (told.Does r (Give (order.Limits voltage current watts)) taken ∷ steps) run clear = absurd clear
clear_unjudged c plan (told.Does r (Send bytes) taken ∷ steps) run clear = absurd run.2
clear_unjudged c plan (told.Does r (Answer bytes) taken ∷ steps) run clear = none_judged c plan steps (Answer bytes) r (is_judged steps) run.1 (λ judged j. j.judges) (clear_unjudged c plan steps run.0 clear)
clear_unjudged c plan (told.Does r (End cause) taken ∷ steps) run clear = refl
clear_unjudged c plan (Sends r bytes taken said ∷ steps) run clear = refl

-- ---- each order to close is about a word

abbrev IsSomething : Option Reading → Type 0
IsSomething r = (x : Reading) × (r ≡ Some x)

abbrev pub ClosesRead : List ToldStep → Type 0
ClosesRead [] = Unit {0}
ClosesRead (told.Hears at event ∷ steps) = ClosesRead steps
ClosesRead (told.Does r (Give order.Close) taken ∷ steps) = ClosesRead steps × IsSomething r
ClosesRead (told.Does r act taken ∷ steps) = ClosesRead steps
ClosesRead (Sends r bytes taken said ∷ steps) = ClosesRead steps

-- the next word is judged, where it is read
next_judged : (c : ToldCodecs) (plan : PostPlan) (steps : List ToldStep) (es : List Seen) (judged : Judged) → TellsOwn c → session (seen_in steps) ≡ Some es → AreHeard (seen_in steps) → IsNextWord c.words plan (seen_in steps) judged → is_judged steps ≡ false
    → IsJudged c plan steps (Give order.Close) judged
next_judged c plan steps es judged own here heard next unread =
    let w = words_of c.words plan.dialects.items (stream es) own.judges (stream_octets (seen_in steps) es heard here) in
    let n = next es w.0 here w.1 in
    record {
      next = record { es = es; words = w.0; hearing = record { session_is = here; words_are = w.1 }; rest = n.later; next = n.next_is };
      free = n.goes_on;
      unread = unread;
      judges = tt;
    }

close_reads : (c : ToldCodecs) (plan : PostPlan) (steps : List ToldStep) (r : Option Reading) (judged : Judged) → Reads c plan steps (Give order.Close) r → IsJudged c plan steps (Give order.Close) judged → IsSomething r
close_reads c plan steps None judged (limit, before, behind, none) j = absurd (none judged j)
close_reads c plan steps (Some x) judged reads j = (x, refl)

lives_as_read : (c : ToldCodecs) (plan : PostPlan) (r : Reading) (act : Act) (taken : Bool) (steps : List Step) → IsPostRun c.words plan (Does (Some r) act taken ∷ steps) → (es : List Seen) × (session (map seen_of steps) ≡ Some es)
lives_as_read c plan r act taken steps run = read_lives c.words plan r act taken steps run

closes_along : (c : ToldCodecs) (plan : PostPlan) (old : List ToldStep) (steps : List Step) → TellsOwn c → IsToldRun c plan old → seen_in old ≡ map seen_of steps → IsPostRun c.words plan steps → AreReadInOrder c.words plan steps → AreHeard (map seen_of steps) → ClosesRead old
closes_along c plan [] steps own run same post ordered heard = tt
closes_along c plan (told.Hears at event ∷ old) [] own run same post ordered heard = cc
closes_along c plan (told.Hears at event ∷ old) (Hears at' event' ∷ steps) own run same post ordered heard =
    let rest : seen_in old ≡ map seen_of steps = cc in
    closes_along c plan old steps own run rest post.0 ordered heard.0
closes_along c plan (told.Hears at event ∷ old) (Does r act taken ∷ steps) own run same post ordered heard = cc
closes_along c plan (told.Does r act taken ∷ old) [] own run same post ordered heard = cc
closes_along c plan (told.Does r act taken ∷ old) (Hears at event ∷ steps) own run same post ordered heard = cc
closes_along c plan (told.Does r (Give order.Close) taken ∷ old) (Does q act taken' ∷ steps) own run same post ordered heard =
    let rest : seen_in old ≡ map seen_of steps = cc in
    let did : Did (Give order.Close) taken ≡ Did act taken' = cc in
    let act_is : act ≡ Give order.Close = cc in
    let there : IsPostRun c.words plan (Does q (Give order.Close) taken' ∷ steps) = subst (λ (a : Act). IsPostRun c.words plan (Does q a taken' ∷ steps)) act_is post in
    let some = closing_read c.words plan q taken' steps there in
    let read : IsPostRun c.words plan (Does (Some some.0) (Give order.Close) taken' ∷ steps) = subst (λ (x : Option Reading). IsPostRun c.words plan (Does x (Give order.Close) taken' ∷ steps)) some.1 there in
    let lives = lives_as_read c plan some.0 (Give order.Close) taken' steps read in
    let clear : Clear (seen_in old) = subst Clear (sym rest) (reads_clear c.words plan some.0 (Give order.Close) taken' steps read) in
    let next : IsNextWord c.words plan (seen_in old) some.0.judged = subst (λ (xs : List Seen). IsNextWord c.words plan xs some.0.judged) (sym rest) (subst (λ (x : Option Reading). IsReadNext c.words plan (map seen_of steps) x) some.1 ordered.1) in
    let j = next_judged c plan old lives.0 some.0.judged own (ap session rest ∙ lives.1) (subst AreHeard (sym rest) heard) next (clear_unjudged c plan old run.0 clear) in
    (closes_along c plan old steps own run.0 rest post.0 ordered.0 heard, close_reads c plan old r some.0.judged run.1 j)
closes_along c plan (told.Does r (Give order.Open) taken ∷ old) (Does q act taken' ∷ steps) own run same post ordered heard =
    let rest : seen_in old ≡ map seen_of steps = cc in
    closes_along c plan old steps own run.0 rest post.0 ordered.0 heard
closes_along c plan (told.Does r (Give (order.Limits voltage current watts)) taken ∷ old) (Does q act taken' ∷ steps) own run same post ordered heard =
    let rest : seen_in old ≡ map seen_of steps = cc in
    closes_along c plan old steps own run.0 rest post.0 ordered.0 heard
closes_along c plan (told.Does r (Send bytes) taken ∷ old) (Does q act taken' ∷ steps) own run same post ordered heard =
    let rest : seen_in old ≡ map seen_of steps = cc in
    closes_along c plan old steps own run.0 rest post.0 ordered.0 heard
closes_along c plan (told.Does r (Answer bytes) taken ∷ old) (Does q act taken' ∷ steps) own run same post ordered heard =
    let rest : seen_in old ≡ map seen_of steps = cc in
    closes_along c plan old steps own run.0 rest post.0 ordered.0 heard
closes_along c plan (told.Does r (End cause) taken ∷ old) (Does q act taken' ∷ steps) own run same post ordered heard =
    let rest : seen_in old ≡ map seen_of steps = cc in
    closes_along c plan old steps own run.0 rest post.0 ordered.0 heard
closes_along c plan (Sends r bytes taken said ∷ old) [] own run same post ordered heard = cc
closes_along c plan (Sends r bytes taken said ∷ old) (Hears at event ∷ steps) own run same post ordered heard = cc
closes_along c plan (Sends r bytes taken said ∷ old) (Does q act taken' ∷ steps) own run same post ordered heard =
    let rest : seen_in old ≡ map seen_of steps = cc in
    closes_along c plan old steps own run.0 rest post.0 ordered.0 heard

opened_closes : (c : ToldCodecs) (plan : PostPlan) (old : List ToldStep) (taken : Bool) (blocks : List Seen) → IsToldRun c plan old → seen_in old ≡ Did (Give order.Open) taken ∷ blocks
    → ((steps : List ToldStep) → IsToldRun c plan steps → seen_in steps ≡ blocks → ClosesRead steps) → ClosesRead old
opened_closes c plan [] taken blocks run same rest = tt
opened_closes c plan (told.Hears at event ∷ old) taken blocks run same rest = cc
opened_closes c plan (told.Does r (Give order.Open) done ∷ old) taken blocks run same rest = let e : seen_in old ≡ blocks = cc in rest old run.0 e
opened_closes c plan (told.Does r (Give order.Close) done ∷ old) taken blocks run same rest = absurd (let x : Did (Give order.Close) done ≡ Did (Give order.Open) taken = cc in cc)
opened_closes c plan (told.Does r (Give (order.Limits voltage current watts)) done ∷ old) taken blocks run same rest = let e : seen_in old ≡ blocks = cc in rest old run.0 e
opened_closes c plan (told.Does r (Send bytes) done ∷ old) taken blocks run same rest = let e : seen_in old ≡ blocks = cc in rest old run.0 e
opened_closes c plan (told.Does r (Answer bytes) done ∷ old) taken blocks run same rest = let e : seen_in old ≡ blocks = cc in rest old run.0 e
opened_closes c plan (told.Does r (End cause) done ∷ old) taken blocks run same rest = let e : seen_in old ≡ blocks = cc in rest old run.0 e
opened_closes c plan (Sends r bytes done said ∷ old) taken blocks run same rest = let e : seen_in old ≡ blocks = cc in rest old run.0 e

closes_by : (c : ToldCodecs) (plan : PostPlan) (old : List ToldStep) → TellsOwn c → IsToldRun c plan old → (o : OwnPast c.words plan (seen_in old)) → IsClosed plan o.steps (seen_in old) → ClosesRead old
closes_by c plan old own run o (Still same) = closes_along c plan old o.steps own run same o.run o.ordered o.heard
closes_by c plan old own run o (Opened taken same quiet) =
    opened_closes c plan old taken (map seen_of o.steps) run same (λ steps older is. closes_along c plan steps o.steps own older is o.run o.ordered o.heard)

pub all_closes : (c : ToldCodecs) (plan : PostPlan) (old : List ToldStep) → TellsOwn c → IsToldRun c plan old → OwnPast c.words plan (seen_in old) → ClosesRead old
all_closes c plan old own run o = closes_by c plan old own run o o.closed

-- ---- so while a reply waits, the word was judged as its Close was ordered

came_still : (past : List Seen) (came : Seen) → arriving past ≡ Some came → waits (came ∷ []) ≡ false
came_still [] came a = cc
came_still (Heard at (Came token) ∷ past) came a = let x : Heard at (Came token) ≡ came = cc in ap (λ (y : Seen). waits (y ∷ [])) (sym x)
came_still (Heard at (Bytes bytes) ∷ past) came a = cc
came_still (Heard at Gone ∷ past) came a = cc
came_still (Heard at (Datagram bytes) ∷ past) came a = cc
came_still (Heard at (Plant event) ∷ past) came a = cc
came_still (Heard at Clock ∷ past) came a = cc
came_still (Heard at Over ∷ past) came a = cc
came_still (Did act taken ∷ past) came a = came_still past came a

pub record JudgedAtClose (steps : List ToldStep) : Type 0 where
  pub judged : is_judged steps ≡ true
  pub over : judged_over steps ≡ before_close (seen_in steps)

differ : {A : Type 0} → true ≡ false → A
differ e = absurd (cc)

with_is : (x : Seen) (o : Option (List Seen)) (es : List Seen) → with_seen x o ≡ Some es → (zs : List Seen) × (o ≡ Some zs) × (x ∷ zs ≡ es)
with_is x None es e = cc
with_is x (Some zs) es e = (zs, refl, cc)

heard_at_close : (past : List Seen) (at : ℕ) (event : Event) (es : List Seen) (came : Option Seen) (steps : List ToldStep) → arriving past ≡ came → with_seen (Heard at event) (session_behind came (session past)) ≡ Some es → waits es ≡ true
    → ((zs : List Seen) → session past ≡ Some zs → waits zs ≡ true → JudgedAtClose steps) → ((if is_some came then false else is_judged steps) ≡ true) × (judged_over steps ≡ before_close (seen_in steps))
heard_at_close past at event es None steps a l w rest =
    let z = with_is (Heard at event) (session past) es l in
    let r = rest z.0 z.1 (ap waits z.2 ∙ w) in
    (r.judged, r.over)
heard_at_close past at event es (Some came) steps a l w rest =
    let z = with_is (Heard at event) (Some (came ∷ [])) es l in
    let y : came ∷ [] ≡ z.0 = cc in
    differ (sym w ∙ sym (ap waits z.2) ∙ sym (ap waits y) ∙ came_still past came a)

-- an act while a reply waits is about no word
busy_reads : (c : ToldCodecs) (plan : PostPlan) (steps : List ToldStep) (act : Act) (r : Option Reading) (zs : List Seen) → Reads c plan steps act r → session (seen_in steps) ≡ Some zs → waits zs ≡ true → r ≡ None
busy_reads c plan steps act None zs reads here w = refl
busy_reads c plan steps act (Some x) zs (limit, before, behind, r) here w =
    let j = r.0 in
    let e = one_session (seen_in steps) j.next.es zs j.next.hearing.session_is here in
    differ (sym w ∙ sym (ap waits e) ∙ j.free)

act_at_close : (c : ToldCodecs) (plan : PostPlan) (steps : List ToldStep) (act : Act) (r : Option Reading) (zs : List Seen) → Reads c plan steps act r → session (seen_in steps) ≡ Some zs → waits zs ≡ true → JudgedAtClose steps
    → ((is_some r || is_judged steps) ≡ true) × (judged_by r (seen_in steps) (judged_over steps) ≡ before_close (seen_in steps))
act_at_close c plan steps act r zs reads here w j =
    let n = busy_reads c plan steps act r zs reads here w in (
      ap (λ (x : Option Reading). is_some x || is_judged steps) n ∙ j.judged,
      ap (λ (x : Option Reading). judged_by x (seen_in steps) (judged_over steps)) n ∙ j.over,
    )

closed_read : (r : Option Reading) (b : Bool) (past earlier : List Seen) → IsSomething r → ((is_some r || b) ≡ true) × (judged_by r past earlier ≡ past)
closed_read r b past earlier (x, e) = (ap (λ (y : Option Reading). is_some y || b) e, ap (λ (y : Option Reading). judged_by y past earlier) e)

pub at_close : (c : ToldCodecs) (plan : PostPlan) (steps : List ToldStep) (es : List Seen) → IsToldRun c plan steps → ClosesRead steps → session (seen_in steps) ≡ Some es → waits es ≡ true → JudgedAtClose steps
at_close c plan [] es run closes here w = cc
at_close c plan (told.Hears at event ∷ steps) es run closes here w =
    let h = heard_at_close (seen_in steps) at event es (arriving (seen_in steps)) steps refl here w (λ zs k v. at_close c plan steps zs run closes k v) in
    record { judged = h.0; over = h.1 }
at_close c plan (told.Does r (Give order.Close) taken ∷ steps) es run closes here w =
    let x = closed_read r (is_judged steps) (seen_in steps) (judged_over steps) closes.1 in
    record { judged = x.0; over = x.1 }
at_close c plan (told.Does r (Give order.Open) taken ∷ steps) es run closes here w =
    let z = with_is (Did (Give order.Open) taken) (session (seen_in steps)) es here in
    let v : waits z.0 ≡ true = ap waits z.2 ∙ w in
    let x = act_at_close c plan steps (Give order.Open) r z.0 run.1 z.1 v (at_close c plan steps z.0 run.0 closes z.1 v) in
    record { judged = x.0; over = x.1 }
at_close c plan (told.Does r (Give (order.Limits voltage current watts)) taken ∷ steps) es run closes here w =
    let z = with_is (Did (Give (order.Limits voltage current watts)) taken) (session (seen_in steps)) es here in
    let v : waits z.0 ≡ true = ap waits z.2 ∙ w in
    let x = act_at_close c plan steps (Give (order.Limits voltage current watts)) r z.0 run.1 z.1 v (at_close c plan steps z.0 run.0 closes z.1 v) in
    record { judged = x.0; over = x.1 }
at_close c plan (told.Does r (Send bytes) taken ∷ steps) es run closes here w = absurd run.2
at_close c plan (told.Does r (Answer bytes) taken ∷ steps) es run closes here w =
    let z = with_is (Did (Answer bytes) taken) (session (seen_in steps)) es here in
    let v : waits z.0 ≡ true = ap waits z.2 ∙ w in
    let x = act_at_close c plan steps (Answer bytes) r z.0 run.1 z.1 v (at_close c plan steps z.0 run.0 closes z.1 v) in
    record { judged = x.0; over = x.1 }
at_close c plan (told.Does r (End cause) taken ∷ steps) es run closes here w = cc
at_close c plan (Sends r bytes taken said ∷ steps) es run closes here w =
    let z = with_is (Did (Send bytes) taken) (session (seen_in steps)) es here in
    differ (sym w ∙ sym (ap waits z.2))

-- ---- and each reply that waited is kept with it

abbrev pub IsKeptAtClose : Reply → Type 0
IsKeptAtClose reply = IsBehindClose reply.before → reply.judged ≡ before_close reply.before

kept_said : (said : Said) (before judged : List Seen) (rs : List Reply) → (IsBehindClose before → judged ≡ before_close before) → AllByRecursion IsKeptAtClose rs → AllByRecursion IsKeptAtClose (with_said said before judged rs)
kept_said (Response chosen positive) before judged rs h all = (h, all)
kept_said (Replied request reply watts) before judged rs h all = (h, all)
kept_said Other before judged rs h all = (h, all)
kept_said Unasked before judged rs h all = all

kept_if : (b : Bool) (rs : List Reply) → AllByRecursion IsKeptAtClose rs → AllByRecursion IsKeptAtClose (if b then [] else rs)
kept_if true rs all = tt
kept_if false rs all = all

kept_when : (b : Bool) (rs : List Reply) → AllByRecursion IsKeptAtClose rs → AllByRecursion IsKeptAtClose (if b then rs else [])
kept_when true rs all = all
kept_when false rs all = tt

sent_at_close : (c : ToldCodecs) (plan : PostPlan) (steps : List ToldStep) (bytes : List ℕ) (r : Option Reading) → IsToldRun c plan steps → ClosesRead steps → Reads c plan steps (Send bytes) r → IsBehindClose (seen_in steps)
    → judged_by r (seen_in steps) (judged_over steps) ≡ before_close (seen_in steps)
sent_at_close c plan steps bytes r run closes reads b =
    (act_at_close c plan steps (Send bytes) r b.es reads b.session_is b.waited (at_close c plan steps b.es run closes b.session_is b.waited)).1

pub all_kept : (c : ToldCodecs) (plan : PostPlan) (steps : List ToldStep) → IsToldRun c plan steps → ClosesRead steps → AllByRecursion IsKeptAtClose (replies steps)
all_kept c plan [] run closes = tt
all_kept c plan (told.Hears at event ∷ steps) run closes = kept_if (is_some (arriving (seen_in steps))) (replies steps) (all_kept c plan steps run closes)
all_kept c plan (told.Does r (Give order.Close) taken ∷ steps) run closes = all_kept c plan steps run.0 closes.0
all_kept c plan (told.Does r (Give order.Open) taken ∷ steps) run closes = all_kept c plan steps run.0 closes
all_kept c plan (told.Does r (Give (order.Limits voltage current watts)) taken ∷ steps) run closes = all_kept c plan steps run.0 closes
all_kept c plan (told.Does r (Send bytes) taken ∷ steps) run closes = absurd run.2
all_kept c plan (told.Does r (Answer bytes) taken ∷ steps) run closes = all_kept c plan steps run.0 closes
all_kept c plan (told.Does r (End cause) taken ∷ steps) run closes = tt
all_kept c plan (Sends r bytes taken said ∷ steps) run closes =
    kept_when (is_some (session (seen_in steps))) (with_said said (seen_in steps) (judged_by r (seen_in steps) (judged_over steps)) (replies steps))
    (kept_said said (seen_in steps) (judged_by r (seen_in steps) (judged_over steps)) (replies steps) (sent_at_close c plan steps bytes r run.0 closes run.1) (all_kept c plan steps run.0 closes))
