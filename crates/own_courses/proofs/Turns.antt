-- The courses that are told of all posts are those of the run, in each turn of the site.
use Rattle.std.proofs.Common.{◌≡◌, ℕ, suc, ◌+◌, ◌-◌, min, max, Bool, true, List, [], ◌∷◌, ◌++◌, length, map, Option, Some, None, refl, sym, ap, ap₂, subst, ◌∙◌, inl, inr, ◌⊎◌, arith}
use Rattle.std.specs.List.{sum_by}
use Rattle.std.proofs.lemmas.List.{append_assoc, length-append}
use Rattle.std.proofs.lemmas.List.Sums.{sum_by-cons}
use Rattle.charge_world.specs.declared.entry.Entry.{Entry}
use Rattle.charge_world.specs.declared.entry.Entry.TheVariants as entry
use Rattle.charge_world.specs.declared.heard.Heard.{Heard}
use Rattle.charge_world.specs.declared.ports.Order.{Order}
use Rattle.charge_world.specs.declared.ports.Order.TheVariants as order
use Rattle.session_words.specs.Causes.{number_of}
use Rattle.session_words.specs.declared.plan.PostPlan.{PostPlan}
use Rattle.session_words.specs.declared.plan.SitePlan.{SitePlan}
use Rattle.power_share.specs.Sharing.{IsLevel}
use Rattle.power_share.proofs.Levels.{level_unique}
use Rattle.post_spec.specs.Codecs.{Codecs}
use Rattle.post_spec.specs.Course.{Talked, course, ask_in}
use Rattle.post_spec.specs.Course as course
use Rattle.post_spec.specs.Steps.{Event, Act, Give, Send, Answer, End, Reading, Step, Hears, Does, moment, event_at, seen_of}
use Rattle.station_spec.specs.States.{State, Todo, first}
use Rattle.station_spec.specs.States as states
use Rattle.station_spec.specs.Deciding.{decided}
use Rattle.station_spec.specs.Judging.{Payload as Wanted, wanted, filled, IsRead}
use Rattle.station_spec.specs.Acting.{state}
use Rattle.station_spec.specs.Next.{IsQuiet, IsDone, Acts}
use Rattle.station_spec.specs.Sharing.{Post, state_of, Shows, asked_of, told_of, told_total}
use Rattle.station_spec.specs.Runs.{Rests, AreQuiet, entry_of, heard_from, with_step, unheard, MayAct, IsRun}
use Rattle.read_runs.proofs.Agendas.{quiet_done}
use Rattle.read_runs.proofs.Courses.{courses_are_read}
use Rattle.own_traces.specs.Words.{AreRead}
use Rattle.own_traces.proofs.Read.{runs_read_words}
use Rattle.heard_deadlines.proofs.Acted.{runs_are_late_by_hearing}
use Rattle.told_pasts.specs.Course.{told_course}
use Rattle.told_pasts.specs.Reading as reading
use Rattle.told_pasts.specs.Site as shares
use Rattle.told_pasts.specs.Site.{ToldPost, IsOther, IsSending, IsStep, hearing, OneDoes, ArePosts, IsPostOf}
use Rattle.told_pasts.specs.Spelling.{ToldCodecs}
use Rattle.told_pasts.specs.Steps as told
use Rattle.told_pasts.specs.Steps.{ToldStep, seen_in}
use Rattle.own_traces.specs.Owning.{TellsOwn}
use Rattle.own_traces.proofs.Pasts.{Still, steps_of}
use Rattle.own_traces.proofs.Places.{Of, plan_of, run_plans}
use Rattle.own_traces.proofs.Talks.{all_said}
use Rattle.own_traces.proofs.Told.{IsToldRun, IsOtherAct, told_plan, posts_plans, told_of as told_post}
use Rattle.own_courses.proofs.Alike.{Known, heard_alike}
use Rattle.own_courses.proofs.Hands.{Going, Ending, Phased, Wrote, Shared, went_on, spoke_on, leaves, left_todo, given, finished, open_left, end_left, not_done}

-- ---- one step of a post

abbrev pub Handed : ToldCodecs → PostPlan → List ToldStep → List Step → Type 0
Handed c plan old steps = Phased c plan old steps × Wrote c plan old

some_one : (a b : Order) → Some a ≡ Some b → a ≡ b
some_one a b e = cc

give_one : (a b : Order) → Give a ≡ Give b → a ≡ b
give_one a b e = cc

end_one : (a b : ℕ) → End a ≡ End b → a ≡ b
end_one a b e = cc

-- what is left is an order to open, or the end
hand_ending : (c : ToldCodecs) (plan : PostPlan) (St Sr : ℕ → ℕ → Type 0) (old : List ToldStep) (steps : List Step) (r q : Option Reading) (a : Act) (taken : Bool) → Known c plan old steps → (e : Ending c plan old steps) → Acts c.words plan Sr (state plan steps) q a taken → reading.IsReading c St plan old a r
    → Phased c plan (told.Does r a taken ∷ old) (Does q a taken ∷ steps)
hand_ending c plan St Sr old steps r q a taken known e acts i =
    let s = state plan steps in
    let l = leaves c plan Sr steps q a taken e.k e.ending acts in
    let same : filled plan None s ≡ s = ap (λ (x : Option Reading). filled plan x s) (sym l.read) ∙ l.same in
    subst (λ (x : Option Reading). Phased c plan (told.Does r a taken ∷ old) (Does x a taken ∷ steps)) (sym l.read)
    (elim (left_todo s.agenda e.k l.todo e.datagram e.reply e.ending l.acts) [
      | inl x ↦ elim e.opens [
        | inl none ↦ absurd (let y : None ≡ Some x.0 = sym none ∙ x.1 in cc)
        | inr opens ↦
            let o : x.0 ≡ order.Open = some_one x.0 order.Open (sym x.1 ∙ opens.0) in
            let act : a ≡ Give order.Open = given c.words x.0 l.todo a taken x.2 l.done ∙ ap Give o in
            let here : reading.IsReading c St plan old (Give order.Open) r = subst (λ (b : Act). reading.IsReading c St plan old b r) act i in
            inr (subst (λ (b : Act). Ending c plan (told.Does r b taken ∷ old) (Does None b taken ∷ steps)) (sym act) (open_left c plan St old steps r taken known e opens.0 opens.1 here same))
      ]
      | inr x ↦
          let act : a ≡ End (number_of e.k) = finished c.words e.k l.todo a taken x.1 l.done in
          let here : reading.IsReading c St plan old (End (number_of e.k)) r = subst (λ (b : Act). reading.IsReading c St plan old b r) act i in
          inl (subst (λ (b : Act). Going c plan (told.Does r b taken ∷ old) (Does None b taken ∷ steps)) (sym act) (end_left c plan St old steps r taken known e here))
    ])

-- so it sends nothing
ending_sends : {A : Type 0} (c : ToldCodecs) (plan : PostPlan) (S : ℕ → ℕ → Type 0) (old : List ToldStep) (steps : List Step) (q : Option Reading) (bytes : List ℕ) (taken : Bool) → Ending c plan old steps → Acts c.words plan S (state plan steps) q (Send bytes) taken → A
ending_sends c plan S old steps q bytes taken e acts =
    let s = state plan steps in
    let l = leaves c plan S steps q (Send bytes) taken e.k e.ending acts in
    elim (left_todo s.agenda e.k l.todo e.datagram e.reply e.ending l.acts) [
      | inl x ↦ absurd (let y : Send bytes ≡ Give x.0 = given c.words x.0 l.todo (Send bytes) taken x.2 l.done in cc)
      | inr x ↦ absurd (let y : Send bytes ≡ End (number_of e.k) = finished c.words e.k l.todo (Send bytes) taken x.1 l.done in cc)
    ]

hand_other : (c : ToldCodecs) (plan : PostPlan) (limit : ℕ) (before behind : List Post) (St : ℕ → ℕ → Type 0) (post : ToldPost) (steps : List Step) (q : Option Reading) (a : Act) (taken : Bool) (step : ToldStep) → post.plan ≡ plan → IsOtherAct a → Known c plan (step ∷ post.steps) (Does q a taken ∷ steps) → Known c plan post.steps steps
    → Phased c plan post.steps steps → Acts c.words plan (Shows limit before behind) (state plan steps) q a taken → Shared St (Shows limit before behind) → IsOther c St post a taken step → Handed c plan (step ∷ post.steps) (Does q a taken ∷ steps)
hand_other c plan limit before behind St post steps q a taken step is other now known (inl g) acts shares x =
    let i : reading.IsReading c St plan post.steps a x.0 = subst (λ (p : PostPlan). reading.IsReading c St p post.steps a x.0) is x.1 in
    subst (λ (t : ToldStep). Handed c plan (t ∷ post.steps) (Does q a taken ∷ steps)) (sym x.2) (inl (went_on c plan limit before behind St post.steps steps a taken x.0 q known g now.all acts other shares i), tt)
hand_other c plan limit before behind St post steps q a taken step is other now known (inr e) acts shares x =
    let i : reading.IsReading c St plan post.steps a x.0 = subst (λ (p : PostPlan). reading.IsReading c St p post.steps a x.0) is x.1 in
    subst (λ (t : ToldStep). Handed c plan (t ∷ post.steps) (Does q a taken ∷ steps)) (sym x.2) (hand_ending c plan St (Shows limit before behind) post.steps steps x.0 q a taken known e acts i, tt)

hand_sending : (c : ToldCodecs) (plan : PostPlan) (limit : ℕ) (before behind : List Post) (St : ℕ → ℕ → Type 0) (post : ToldPost) (steps : List Step) (q : Option Reading) (bytes : List ℕ) (taken : Bool) (step : ToldStep) → post.plan ≡ plan → Known c plan (step ∷ post.steps) (Does q (Send bytes) taken ∷ steps) → Known c plan post.steps steps
    → Phased c plan post.steps steps → Acts c.words plan (Shows limit before behind) (state plan steps) q (Send bytes) taken → Shared St (Shows limit before behind) → IsSending c St post bytes taken step → Handed c plan (step ∷ post.steps) (Does q (Send bytes) taken ∷ steps)
hand_sending c plan limit before behind St post steps q bytes taken step is now known (inl g) acts shares x =
    let i : reading.IsReading c St plan post.steps (Send bytes) x.0 = subst (λ (p : PostPlan). reading.IsReading c St p post.steps (Send bytes) x.0) is x.2 in
    let here : Known c plan (told.Sends x.0 bytes taken x.1 ∷ post.steps) (Does q (Send bytes) taken ∷ steps) = subst (λ (t : ToldStep). Known c plan (t ∷ post.steps) (Does q (Send bytes) taken ∷ steps)) x.4 now in
    subst (λ (t : ToldStep). Handed c plan (t ∷ post.steps) (Does q (Send bytes) taken ∷ steps)) (sym x.4) (spoke_on c plan limit before behind St post.steps steps bytes taken x.1 x.0 q here known g acts shares i)
hand_sending c plan limit before behind St post steps q bytes taken step is now known (inr e) acts shares x = ending_sends c plan (Shows limit before behind) post.steps steps q bytes taken e acts

hand_step : (c : ToldCodecs) (plan : PostPlan) (limit : ℕ) (before behind : List Post) (St : ℕ → ℕ → Type 0) (post : ToldPost) (steps : List Step) (q : Option Reading) (a : Act) (taken : Bool) (step : ToldStep) → post.plan ≡ plan → Known c plan (step ∷ post.steps) (Does q a taken ∷ steps) → Known c plan post.steps steps
    → Phased c plan post.steps steps → Acts c.words plan (Shows limit before behind) (state plan steps) q a taken → Shared St (Shows limit before behind) → IsStep c St post a taken step → Handed c plan (step ∷ post.steps) (Does q a taken ∷ steps)
hand_step c plan limit before behind St post steps q (Give o) taken step is now known p acts shares x = hand_other c plan limit before behind St post steps q (Give o) taken step is tt now known p acts shares x
hand_step c plan limit before behind St post steps q (Send bytes) taken step is now known p acts shares x = hand_sending c plan limit before behind St post steps q bytes taken step is now known p acts shares x
hand_step c plan limit before behind St post steps q (Answer bytes) taken step is now known p acts shares x = hand_other c plan limit before behind St post steps q (Answer bytes) taken step is tt now known p acts shares x
hand_step c plan limit before behind St post steps q (End cause) taken step is now known p acts shares x = hand_other c plan limit before behind St post steps q (End cause) taken step is tt now known p acts shares x

-- ---- the phases of all that a post went by

abbrev pub Along : ToldCodecs → PostPlan → List ToldStep → List Step → Type 0
Along c plan [] [] = Phased c plan [] []
Along c plan [] (step ∷ steps) = ⊥
Along c plan (t ∷ old) [] = ⊥
Along c plan (t ∷ old) (step ∷ steps) = Handed c plan (t ∷ old) (step ∷ steps) × Along c plan old steps

pub newest : (c : ToldCodecs) (plan : PostPlan) (old : List ToldStep) (steps : List Step) → Along c plan old steps → Phased c plan old steps
newest c plan [] [] a = a
newest c plan [] (step ∷ steps) a = absurd a
newest c plan (t ∷ old) [] a = absurd a
newest c plan (t ∷ old) (step ∷ steps) a = a.0.0

pub record One (c : ToldCodecs) (t : ToldPost) (r : Post) : Type 0 where
  pub plan_is : t.plan ≡ r.plan
  pub known : Known c r.plan t.steps r.steps
  pub along : Along c r.plan t.steps r.steps

abbrev AllGoing : ToldCodecs → List ToldPost → List Post → Type 0
AllGoing c [] [] = Unit {0}
AllGoing c [] (r ∷ rs) = ⊥
AllGoing c (t ∷ ts) [] = ⊥
AllGoing c (t ∷ ts) (r ∷ rs) = Going c r.plan t.steps r.steps × AllGoing c ts rs

-- a post has nothing to do, or no post behind it did anything yet that ends its session so
abbrev pub Pairs : ToldCodecs → List ToldPost → List Post → Type 0
Pairs c [] [] = Unit {0}
Pairs c [] (r ∷ rs) = ⊥
Pairs c (t ∷ ts) [] = ⊥
Pairs c (t ∷ ts) (r ∷ rs) = One c t r × (Rests r ⊎ AllGoing c ts rs) × Pairs c ts rs

quiet_going : (c : ToldCodecs) (plan : PostPlan) (old : List ToldStep) (steps : List Step) → IsQuiet plan (state plan steps) → Phased c plan old steps → Going c plan old steps
quiet_going c plan old steps quiet (inl g) = g
quiet_going c plan old steps quiet (inr e) = absurd (not_done (state plan steps).agenda e.k e.ending (quiet_done plan (state plan steps) quiet))

quiet_all : (c : ToldCodecs) (ts : List ToldPost) (rs : List Post) → AreQuiet rs → Pairs c ts rs → AllGoing c ts rs
quiet_all c [] [] quiet p = tt
quiet_all c [] (r ∷ rs) quiet p = p
quiet_all c (t ∷ ts) [] quiet p = p
quiet_all c (t ∷ ts) (r ∷ rs) quiet p = (quiet_going c r.plan t.steps r.steps quiet.0 (newest c r.plan t.steps r.steps p.0.along), quiet_all c ts rs quiet.1 p.2)

-- ---- so they share the watts alike

asked_same : (c : ToldCodecs) (t : ToldPost) (r : Post) → t.plan ≡ r.plan → Known c r.plan t.steps r.steps → Going c r.plan t.steps r.steps → shares.asked_of t ≡ asked_of r
asked_same c t r is known g =
    ap (λ (p : PostPlan). ask_in (told_course p t.steps).session) is ∙ ap ask_in g.alike.session_is ∙ sym (courses_are_read c.words r.plan r.steps known.all.laws.run).asked_is

told_same : (c : ToldCodecs) (t : ToldPost) (r : Post) → t.plan ≡ r.plan → Known c r.plan t.steps r.steps → Going c r.plan t.steps r.steps → shares.told_of t ≡ told_of r
told_same c t r is known g =
    ap (λ (p : PostPlan). course.told_in (told_course p t.steps).session) is ∙ ap course.told_in g.alike.session_is ∙ sym (courses_are_read c.words r.plan r.steps known.all.laws.run).told_is

asks_same : (c : ToldCodecs) (ts : List ToldPost) (rs : List Post) → Pairs c ts rs → AllGoing c ts rs → map shares.asked_of ts ≡ map asked_of rs
asks_same c [] [] p g = refl
asks_same c [] (r ∷ rs) p g = absurd p
asks_same c (t ∷ ts) [] p g = absurd p
asks_same c (t ∷ ts) (r ∷ rs) p g = ap₂ (λ (n : ℕ) (ns : List ℕ). n ∷ ns) (asked_same c t r p.0.plan_is p.0.known g.0) (asks_same c ts rs p.2 g.1)

tells_same : (c : ToldCodecs) (ts : List ToldPost) (rs : List Post) → Pairs c ts rs → AllGoing c ts rs → sum_by shares.told_of ts ≡ told_total rs
tells_same c [] [] p g = refl
tells_same c [] (r ∷ rs) p g = absurd p
tells_same c (t ∷ ts) [] p g = absurd p
tells_same c (t ∷ ts) (r ∷ rs) p g =
    let x = told_same c t r p.0.plan_is p.0.known g.0 in
    let y = tells_same c ts rs p.2 g.1 in
    let m = sum_by-cons shares.told_of t ts in
    let n = sum_by-cons told_of r rs in
    omega (arith, x, y, m, n)

shares_same : (c : ToldCodecs) (limit : ℕ) (tb tc : List ToldPost) (rb rc : List Post) → map shares.asked_of tb ≡ map asked_of rb → map shares.asked_of tc ≡ map asked_of rc → sum_by shares.told_of tb ≡ told_total rb → sum_by shares.told_of tc ≡ told_total rc → Shared (shares.Shows limit tb tc) (Shows limit rb rc)
shares_same c limit tb tc rb rc a b x y = λ asked m n s t.
    let asks : map shares.asked_of tb ++ asked ∷ map shares.asked_of tc ≡ map asked_of rb ++ asked ∷ map asked_of rc = ap₂ (λ (us vs : List ℕ). us ++ asked ∷ vs) a b in
    let level : s.level ≡ t.level = level_unique limit (map asked_of rb ++ asked ∷ map asked_of rc) s.level t.level (subst (λ (us : List ℕ). IsLevel limit us s.level) asks s.is_level) t.is_level in
    let rest : sum_by shares.told_of tb + sum_by shares.told_of tc ≡ told_total rb + told_total rc = ap₂ (λ (u v : ℕ). u + v) x y in
    s.least ∙ ap₂ (λ (u v : ℕ). min (min asked u) (limit - v)) level rest ∙ sym t.least

-- ---- what is known of all posts

abbrev AllKnown : ToldCodecs → List ToldPost → List Post → Type 0
AllKnown c [] [] = Unit {0}
AllKnown c [] (r ∷ rs) = ⊥
AllKnown c (t ∷ ts) [] = ⊥
AllKnown c (t ∷ ts) (r ∷ rs) = ((t.plan ≡ r.plan) × Known c r.plan t.steps r.steps) × AllKnown c ts rs

known_at : (c : ToldCodecs) (site : SitePlan) (past : List Entry) (posts before : List Post) (r : Post) (behind : List Post) (t : ToldPost) → TellsOwn c → IsRun c.words site past posts → posts ≡ before ++ r ∷ behind → IsPostOf c site past (length before + 1) t → t.plan ≡ r.plan → Known c r.plan t.steps r.steps
known_at c site past posts before r behind t own run are is plan_is =
    let k = length before + 1 in
    let o : Of posts (length before + 1) = record { before = before; post = r; behind = behind; posts_are = are; number = refl } in
    let s = steps_of c.words site past posts (length before + 1) own.reads_back own.determined run o in
    let told = told_post c site past (length before + 1) t is in
    let same : seen_in t.steps ≡ map seen_of r.steps = sym told.seen_is ∙ s.seen_is in
    let runs : IsToldRun c r.plan t.steps = subst (λ (p : PostPlan). IsToldRun c p t.steps) plan_is told.run in
    let late = runs_are_late_by_hearing c.words site past posts before r behind run are in
    let read = subst (AreRead c.words r.plan) s.seen_is (runs_read_words c.words site past posts before r behind run are).0 in
    record {
      own = own;
      all = record { back = own.reads_back; det = own.determined; judges = own.judges; laws = record { run = s.run; late = late; read = read; ordered = s.ordered }; heard = s.heard };
      silent = s.silent;
      told = runs;
      same = same;
      said = all_said c r.plan t.steps own runs (record { steps = r.steps; run = s.run; ordered = s.ordered; silent = s.silent; heard = s.heard; closed = Still same });
    }

one_more : {A : Type 0} (xs : List A) (x : A) → length (xs ++ x ∷ []) ≡ length xs + 1
one_more xs x = length-append xs (x ∷ [])

all_known_from : (c : ToldCodecs) (site : SitePlan) (past : List Entry) (tb ts : List ToldPost) (rb rs : List Post) → TellsOwn c → length tb ≡ length rb → ArePosts c site past (tb ++ ts) → IsRun c.words site past (rb ++ rs) → map told_plan ts ≡ map plan_of rs → AllKnown c ts rs
all_known_from c site past tb [] rb [] own l are run plans = tt
all_known_from c site past tb [] rb (r ∷ rs) own l are run plans = cc
all_known_from c site past tb (t ∷ ts) rb [] own l are run plans = cc
all_known_from c site past tb (t ∷ ts) rb (r ∷ rs) own l are run plans =
    let here : t.plan ≡ r.plan = cc in
    let later : map told_plan ts ≡ map plan_of rs = cc in
    let is : IsPostOf c site past (length rb + 1) t = record { before = tb; behind = ts; posts = are; place = (omega (arith, l)) } in
    let m = one_more tb t in
    let n = one_more rb r in
    let more : ArePosts c site past ((tb ++ t ∷ []) ++ ts) = subst (ArePosts c site past) (sym (append_assoc tb (t ∷ []) ts)) are in
    let runs : IsRun c.words site past ((rb ++ r ∷ []) ++ rs) = subst (IsRun c.words site past) (sym (append_assoc rb (r ∷ []) rs)) run in
    ((here, known_at c site past (rb ++ r ∷ rs) rb r rs t own run refl is here), all_known_from c site past (tb ++ t ∷ []) ts (rb ++ r ∷ []) rs own (omega (arith, l, m, n)) more runs later)

all_known : (c : ToldCodecs) (site : SitePlan) (past : List Entry) (ts : List ToldPost) (rs : List Post) → TellsOwn c → ArePosts c site past ts → IsRun c.words site past rs → AllKnown c ts rs
all_known c site past ts rs own are run = all_known_from c site past [] ts [] rs own refl are run (posts_plans c site past ts are ∙ sym (run_plans c.words site past rs run))

-- ---- a hearing

heard_phase : (c : ToldCodecs) (plan : PostPlan) (old : List ToldStep) (steps : List Step) (at : ℕ) (e : Event) → Known c plan old steps → Going c plan old steps → Going c plan (told.Hears at e ∷ old) (Hears at e ∷ steps)
heard_phase c plan old steps at e known g = record { alike = heard_alike plan old steps at e known.same g.alike; limits = tt; sent = tt; owed = λ h. cc }

heard_pairs : (c : ToldCodecs) (event : ℕ → Event) (at k : ℕ) (heard : Heard) (bytes : List ℕ) (ts : List ToldPost) (rs : List Post) → ((n : ℕ) → event n ≡ event_at n heard.what bytes) → AreQuiet rs → AllKnown c (hearing event at k ts) (heard_from k at heard bytes rs) → Pairs c ts rs
    → Pairs c (hearing event at k ts) (heard_from k at heard bytes rs) × AllGoing c (hearing event at k ts) (heard_from k at heard bytes rs)
heard_pairs c event at k heard bytes [] [] same quiet known p = (tt, tt)
heard_pairs c event at k heard bytes [] (r ∷ rs) same quiet known p = absurd p
heard_pairs c event at k heard bytes (t ∷ ts) [] same quiet known p = absurd p
heard_pairs c event at k heard bytes (t ∷ ts) (r ∷ rs) same quiet known p =
    let rest = heard_pairs c event at (suc k) heard bytes ts rs same quiet.1 known.1 p.2 in
    let one = p.0 in
    let g = quiet_going c r.plan t.steps r.steps quiet.0 (newest c r.plan t.steps r.steps one.along) in
    let here : Going c r.plan (told.Hears at (event k) ∷ t.steps) (Hears at (event_at k heard.what bytes) ∷ r.steps) =
    subst (λ (e : Event). Going c r.plan (told.Hears at e ∷ t.steps) (Hears at (event_at k heard.what bytes) ∷ r.steps)) (sym (same k)) (heard_phase c r.plan t.steps r.steps at (event_at k heard.what bytes) one.known g) in
    ((record { plan_is = one.plan_is; known = known.0.1; along = ((inl here, tt), one.along) }, inr rest.1, rest.0), (here, rest.1))

-- ---- an act

acts_by : {A : Type 0} (c : Codecs) (plan : PostPlan) (S : ℕ → ℕ → Type 0) (s : State) (w : Option Wanted) (q : Option Reading) (a : Act) (taken : Bool) → w ≡ None → first (decided plan s).agenda ≡ None → IsRead c plan S (decided plan s) w q → Acts c plan S s q a taken → A
acts_by c plan S s None None a taken e n i acts = absurd (let x : None ≡ Some acts.todo = sym n ∙ acts.acts in cc)
acts_by c plan S s None (Some r) a taken e n i acts = absurd i
acts_by c plan S s (Some p) q a taken e n i acts = cc

acts_not : {A : Type 0} (c : Codecs) (plan : PostPlan) (S : ℕ → ℕ → Type 0) (s : State) (q : Option Reading) (a : Act) (taken : Bool) → IsQuiet plan s → Acts c plan S s q a taken → A
acts_not c plan S s q a taken quiet acts = acts_by c plan S s (wanted (decided plan s)) q a taken quiet.no_word quiet.none acts.read acts

-- the posts before one that acts, that post, and those behind it
acted_pairs : (c : ToldCodecs) (tb tc : List ToldPost) (rb rc : List Post) (t u : ToldPost) (r v : Post) → length tb ≡ length rb → AreQuiet rb → Pairs c (tb ++ t ∷ tc) (rb ++ r ∷ rc) → (Rests r → ⊥) → AllKnown c (tb ++ u ∷ tc) (rb ++ v ∷ rc)
    → (Pairs c tb rb → AllGoing c tb rb → AllGoing c tc rc → Pairs c tc rc → One c t r → Known c v.plan u.steps v.steps → u.plan ≡ v.plan → One c u v) → Pairs c (tb ++ u ∷ tc) (rb ++ v ∷ rc)
acted_pairs c [] tc [] rc t u r v l quiet p acts known step =
    let going : AllGoing c tc rc = elim p.1 [
      | inl rests ↦ absurd (acts rests)
      | inr g ↦ g
    ] in
    (step tt tt going p.2 p.0 known.0.1 known.0.0, inr going, p.2)
acted_pairs c [] tc (x ∷ rb) rc t u r v l quiet p acts known step = absurd (let m : length (x ∷ rb) ≡ suc (length rb) = refl in omega (arith, l, m))
acted_pairs c (y ∷ tb) tc [] rc t u r v l quiet p acts known step = absurd (let m : length (y ∷ tb) ≡ suc (length tb) = refl in omega (arith, l, m))
acted_pairs c (y ∷ tb) tc (x ∷ rb) rc t u r v l quiet p acts known step =
    let m : length (y ∷ tb) ≡ suc (length tb) = refl in
    let n : length (x ∷ rb) ≡ suc (length rb) = refl in
    let g = quiet_going c x.plan y.steps x.steps quiet.0 (newest c x.plan y.steps x.steps p.0.along) in (
      p.0,
      inl quiet.0,
      acted_pairs c tb tc rb rc t u r v (omega (arith, l, m, n)) quiet.1 p.2 acts known.1
          (λ q h i j o k e. step (p.0, inl quiet.0, q) (g, h) i j o k e),
    )

-- the act of a post in a run, and in what is told
one_acted : (c : ToldCodecs) (limit : ℕ) (tb tc : List ToldPost) (rb rc : List Post) (t : ToldPost) (r : Post) (q : Option Reading) (a : Act) (taken : Bool) (step : ToldStep) → Acts c.words r.plan (Shows limit rb rc) (state_of r) q a taken → IsStep c (shares.Shows limit tb tc) t a taken step
    → Pairs c tb rb → AllGoing c tb rb → AllGoing c tc rc → Pairs c tc rc → One c t r → Known c r.plan (step ∷ t.steps) (Does q a taken ∷ r.steps) → One c (record t { steps = step ∷ t.steps }) (with_step (Does q a taken) r)
one_acted c limit tb tc rb rc t r q a taken step acts is pb gb gc pc one known =
    let alike = shares_same c limit tb tc rb rc (asks_same c tb rb pb gb) (asks_same c tc rc pc gc) (tells_same c tb rb pb gb) (tells_same c tc rc pc gc) in
    let phase = hand_step c r.plan limit rb rc (shares.Shows limit tb tc) t r.steps q a taken step one.plan_is known one.known (newest c r.plan t.steps r.steps one.along) acts alike is in
    record { plan_is = one.plan_is; known = known; along = (phase, one.along) }

pairs_by : (c : ToldCodecs) (xs ys : List ToldPost) (rs ss : List Post) → xs ≡ ys → rs ≡ ss → Pairs c xs rs → Pairs c ys ss
pairs_by c xs ys rs ss e f p = subst (Pairs c ys) f (subst (λ (us : List ToldPost). Pairs c us rs) e p)

split_lengths : (c : ToldCodecs) (tb tc : List ToldPost) (rb rc : List Post) (n : ℕ) → n ≡ length tb + 1 → n ≡ length rb + 1 → length tb ≡ length rb
split_lengths c tb tc rb rc n e f = omega (arith, e, f)

acted_all_pairs : (c : ToldCodecs) (limit k : ℕ) (a : Act) (taken : Bool) (earlier later : List ToldPost) (posts next : List Post) (e : Entry) (m : MayAct c.words limit posts e next) → (d : OneDoes c limit k a taken earlier later) → m.act ≡ a → m.taken ≡ taken → k ≡ length m.before + 1
    → AllKnown c later next → Pairs c earlier posts → Pairs c later next
acted_all_pairs c limit k a taken earlier later posts next e m d act taken_is number known p =
    let l = split_lengths c d.before d.behind m.before m.behind k d.place number in
    let acts : Acts c.words m.post.plan (Shows limit m.before m.behind) (state_of m.post) m.reading a taken =
    subst (λ (x : Act). Acts c.words m.post.plan (Shows limit m.before m.behind) (state_of m.post) m.reading x taken) act (subst (λ (b : Bool). Acts c.words m.post.plan (Shows limit m.before m.behind) (state_of m.post) m.reading m.act b) taken_is m.acts) in
    let u : ToldPost = record d.post { steps = d.step ∷ d.post.steps } in
    let v = with_step (Does m.reading a taken) m.post in
    let there : next ≡ m.before ++ v ∷ m.behind =
    m.later_is ∙ ap₂ (λ (x : Act) (b : Bool). m.before ++ with_step (Does m.reading x b) m.post ∷ m.behind) act taken_is in
    let old = pairs_by c earlier (d.before ++ d.post ∷ d.behind) posts (m.before ++ m.post ∷ m.behind) d.earlier_are m.posts_are p in
    let knows : AllKnown c (d.before ++ u ∷ d.behind) (m.before ++ v ∷ m.behind) = subst (AllKnown c (d.before ++ u ∷ d.behind)) there (subst (λ (us : List ToldPost). AllKnown c us next) d.later_are known) in
    let new = acted_pairs c d.before d.behind m.before m.behind d.post u m.post v l m.first old
    (λ rests. acts_not c.words m.post.plan (Shows limit m.before m.behind) (state_of m.post) m.reading a taken rests acts) knows
    (λ pb gb gc pc one now plans. one_acted c limit d.before d.behind m.before m.behind d.post m.post m.reading a taken d.step acts d.is pb gb gc pc one now) in
    pairs_by c (d.before ++ u ∷ d.behind) later (m.before ++ v ∷ m.behind) next (sym d.later_are) (sym there) new

-- ---- the first posts

first_phase : (c : ToldCodecs) (plan : PostPlan) → Phased c plan [] []
first_phase c plan = inl (record { alike = record { session_is = refl; kept_is = refl; joined_is = refl; renew_is = inl refl }; limits = tt; sent = tt; owed = λ h. cc })

first_pairs : (c : ToldCodecs) (plans : List PostPlan) → AllKnown c (map (λ plan. record { plan = plan; steps = [] }) plans) (map unheard plans)
    → Pairs c (map (λ plan. record { plan = plan; steps = [] }) plans) (map unheard plans) × AllGoing c (map (λ plan. record { plan = plan; steps = [] }) plans) (map unheard plans)
first_pairs c [] known = (tt, tt)
first_pairs c (plan ∷ plans) known =
    let rest = first_pairs c plans known.1 in
    let g : Going c plan [] [] = record { alike = record { session_is = refl; kept_is = refl; joined_is = refl; renew_is = inl refl }; limits = tt; sent = tt; owed = λ h. cc } in
    ((record { plan_is = refl; known = known.0.1; along = inl g }, inr rest.1, rest.0), (g, rest.1))

-- ---- each entry

pub no_entry : (a : Act) (n : ℕ) (taken : Bool) (heard : Heard) (bytes : List ℕ) → entry.Heard heard bytes ≡ entry_of n a taken → ⊥
no_entry (Give o) n taken heard bytes e = cc
no_entry (Send b) n taken heard bytes e = cc
no_entry (Answer b) n taken heard bytes e = cc
no_entry (End k) n taken heard bytes e = cc

no_lost : (a : Act) (n : ℕ) (taken : Bool) → entry.Lost ≡ entry_of n a taken → ⊥
no_lost (Give o) n taken e = cc
no_lost (Send b) n taken e = cc
no_lost (Answer b) n taken e = cc
no_lost (End k) n taken e = cc

no_dialed : (a : Act) (n port : ℕ) (taken t : Bool) → entry.Dialed port t ≡ entry_of n a taken → ⊥
no_dialed (Give o) n port taken t e = cc
no_dialed (Send b) n port taken t e = cc
no_dialed (Answer b) n port taken t e = cc
no_dialed (End k) n port taken t e = cc

pub record IsAct (k n : ℕ) (a b : Act) (taken t : Bool) : Type 0 where
  pub number : k ≡ n
  pub act : b ≡ a
  pub taken_is : t ≡ taken

pub sent_is : (k n : ℕ) (bytes : List ℕ) (taken : Bool) (b : Act) (t : Bool) → entry.Sent k bytes taken ≡ entry_of n b t → IsAct k n (Send bytes) b taken t
sent_is k n bytes taken (Give o) t e = cc
sent_is k n bytes taken (Send x) t e = record { number = cc; act = (let y : x ≡ bytes = cc in ap Send y); taken_is = cc }
sent_is k n bytes taken (Answer x) t e = cc
sent_is k n bytes taken (End x) t e = cc

answered_is : (k n : ℕ) (bytes : List ℕ) (taken : Bool) (b : Act) (t : Bool) → entry.Answered k bytes taken ≡ entry_of n b t → IsAct k n (Answer bytes) b taken t
answered_is k n bytes taken (Give o) t e = cc
answered_is k n bytes taken (Send x) t e = cc
answered_is k n bytes taken (Answer x) t e = record { number = cc; act = (let y : x ≡ bytes = cc in ap Answer y); taken_is = cc }
answered_is k n bytes taken (End x) t e = cc

drove_is : (k n : ℕ) (o : Order) (taken : Bool) (b : Act) (t : Bool) → entry.Drove k o taken ≡ entry_of n b t → IsAct k n (Give o) b taken t
drove_is k n o taken (Give x) t e = record { number = cc; act = (let y : x ≡ o = cc in ap Give y); taken_is = cc }
drove_is k n o taken (Send x) t e = cc
drove_is k n o taken (Answer x) t e = cc
drove_is k n o taken (End x) t e = cc

-- the end of a session can't fail
end_done : (c : Codecs) (todo : Todo) (cause : ℕ) (t : Bool) → IsDone c todo (End cause) t → t ≡ true
end_done c (states.Tell d) cause t i = cc
end_done c (states.Give o) cause t i = cc
end_done c (states.Say spoken) cause t i = let x = i.2 in cc
end_done c (states.Finish k) cause t i = i.1

end_taken : (c : Codecs) (plan : PostPlan) (S : ℕ → ℕ → Type 0) (s : State) (q : Option Reading) (cause : ℕ) (t : Bool) → Acts c plan S s q (End cause) t → t ≡ true
end_taken c plan S s q cause t acts = end_done c acts.todo cause t acts.done

ended_is : (c : Codecs) (plan : PostPlan) (S : ℕ → ℕ → Type 0) (s : State) (q : Option Reading) (k n cause : ℕ) (b : Act) (t : Bool) → Acts c plan S s q b t → entry.Ended k cause ≡ entry_of n b t → IsAct k n (End cause) b true t
ended_is c plan S s q k n cause (Give o) t acts e = cc
ended_is c plan S s q k n cause (Send x) t acts e = cc
ended_is c plan S s q k n cause (Answer x) t acts e = cc
ended_is c plan S s q k n cause (End x) t acts e = record { number = cc; act = (let y : x ≡ cause = cc in ap End y); taken_is = end_taken c plan S s q x t acts }

turn : (c : ToldCodecs) (limit k : ℕ) (a : Act) (taken : Bool) (earlier later : List ToldPost) (posts next : List Post) (e : Entry) (m : MayAct c.words limit posts e next) → (d : OneDoes c limit k a taken earlier later) → IsAct k (length m.before + 1) a m.act taken m.taken
    → AllKnown c later next → Pairs c earlier posts → Pairs c later next
turn c limit k a taken earlier later posts next e m d is known p = acted_all_pairs c limit k a taken earlier later posts next e m d is.act is.taken_is is.number known p

pub all_pairs : (c : ToldCodecs) (site : SitePlan) (past : List Entry) (ts : List ToldPost) (rs : List Post) → TellsOwn c → ArePosts c site past ts → IsRun c.words site past rs → Pairs c ts rs
all_pairs c site [] ts rs own are run =
    let first : List ToldPost = map (λ plan. record { plan = plan; steps = [] }) site.post.items in
    let known : AllKnown c (map (λ plan. record { plan = plan; steps = [] }) site.post.items) (map unheard site.post.items) =
    subst (AllKnown c (map (λ plan. record { plan = plan; steps = [] }) site.post.items)) run (subst (λ (us : List ToldPost). AllKnown c us rs) are (all_known c site [] ts rs own are run)) in
    pairs_by c (map (λ plan. record { plan = plan; steps = [] }) site.post.items) ts (map unheard site.post.items) rs (sym are) (sym run) (first_pairs c site.post.items known).0
all_pairs c site (entry.Heard heard bytes ∷ past) ts rs own (earlier, are, is) (posts, run, inl h) =
    let at = max (moment past) heard.at in
    let old = all_pairs c site past earlier posts own are run in
    let known = all_known c site (entry.Heard heard bytes ∷ past) ts rs own (earlier, are, is) (posts, run, inl h) in
    let there = h.heard.2 in
    let knows : AllKnown c (hearing (λ k. event_at k heard.what bytes) (max (moment past) heard.at) 1 earlier) (heard_from 1 (max (moment past) heard.at) heard bytes posts) =
    subst (AllKnown c (hearing (λ k. event_at k heard.what bytes) (max (moment past) heard.at) 1 earlier)) there (subst (λ (us : List ToldPost). AllKnown c us rs) is known) in
    pairs_by c (hearing (λ k. event_at k heard.what bytes) (max (moment past) heard.at) 1 earlier) ts (heard_from 1 (max (moment past) heard.at) heard bytes posts) rs (sym is) (sym there)
    (heard_pairs c (λ k. event_at k heard.what bytes) (max (moment past) heard.at) 1 heard bytes earlier posts (λ n. refl) h.whole knows old).0
all_pairs c site (entry.Heard heard bytes ∷ past) ts rs own are (posts, run, inr m) = absurd (no_entry m.act (length m.before + 1) m.taken heard bytes m.entry_is)
all_pairs c site (entry.Lost ∷ past) ts rs own are (posts, run, inl h) = subst (Pairs c ts) (sym h.heard) (all_pairs c site past ts posts own are run)
all_pairs c site (entry.Lost ∷ past) ts rs own are (posts, run, inr m) = absurd (no_lost m.act (length m.before + 1) m.taken m.entry_is)
all_pairs c site (entry.Dialed port taken ∷ past) ts rs own are (posts, run, inl h) = absurd h.heard
all_pairs c site (entry.Dialed port taken ∷ past) ts rs own are (posts, run, inr m) = absurd (no_dialed m.act (length m.before + 1) port m.taken taken m.entry_is)
all_pairs c site (entry.Sent k bytes taken ∷ past) ts rs own are (posts, run, inl h) = absurd h.heard
all_pairs c site (entry.Sent k bytes taken ∷ past) ts rs own (earlier, are, d) (posts, run, inr m) =
    turn c site.limit k (Send bytes) taken earlier ts posts rs (entry.Sent k bytes taken) m d (sent_is k (length m.before + 1) bytes taken m.act m.taken m.entry_is)
    (all_known c site (entry.Sent k bytes taken ∷ past) ts rs own (earlier, are, d) (posts, run, inr m)) (all_pairs c site past earlier posts own are run)
all_pairs c site (entry.Answered k bytes taken ∷ past) ts rs own are (posts, run, inl h) = absurd h.heard
all_pairs c site (entry.Answered k bytes taken ∷ past) ts rs own (earlier, are, d) (posts, run, inr m) =
    turn c site.limit k (Answer bytes) taken earlier ts posts rs (entry.Answered k bytes taken) m d (answered_is k (length m.before + 1) bytes taken m.act m.taken m.entry_is)
    (all_known c site (entry.Answered k bytes taken ∷ past) ts rs own (earlier, are, d) (posts, run, inr m)) (all_pairs c site past earlier posts own are run)
all_pairs c site (entry.Drove k o taken ∷ past) ts rs own are (posts, run, inl h) = absurd h.heard
all_pairs c site (entry.Drove k o taken ∷ past) ts rs own (earlier, are, d) (posts, run, inr m) =
    turn c site.limit k (Give o) taken earlier ts posts rs (entry.Drove k o taken) m d (drove_is k (length m.before + 1) o taken m.act m.taken m.entry_is)
    (all_known c site (entry.Drove k o taken ∷ past) ts rs own (earlier, are, d) (posts, run, inr m)) (all_pairs c site past earlier posts own are run)
all_pairs c site (entry.Ended k cause ∷ past) ts rs own are (posts, run, inl h) = absurd h.heard
all_pairs c site (entry.Ended k cause ∷ past) ts rs own (earlier, are, d) (posts, run, inr m) =
    turn c site.limit k (End cause) true earlier ts posts rs (entry.Ended k cause) m d
    (ended_is c.words m.post.plan (Shows site.limit m.before m.behind) (state_of m.post) m.reading k (length m.before + 1) cause m.act m.taken m.acts m.entry_is)
    (all_known c site (entry.Ended k cause ∷ past) ts rs own (earlier, are, d) (posts, run, inr m)) (all_pairs c site past earlier posts own are run)

-- one of them
pair_at : (c : ToldCodecs) (tb tc : List ToldPost) (rb rc : List Post) (t : ToldPost) (r : Post) → length tb ≡ length rb → Pairs c (tb ++ t ∷ tc) (rb ++ r ∷ rc) → One c t r
pair_at c [] tc [] rc t r l p = p.0
pair_at c [] tc (x ∷ rb) rc t r l p = absurd (let m : length (x ∷ rb) ≡ suc (length rb) = refl in omega (arith, l, m))
pair_at c (y ∷ tb) tc [] rc t r l p = absurd (let m : length (y ∷ tb) ≡ suc (length tb) = refl in omega (arith, l, m))
pair_at c (y ∷ tb) tc (x ∷ rb) rc t r l p =
    let m : length (y ∷ tb) ≡ suc (length tb) = refl in
    let n : length (x ∷ rb) ≡ suc (length rb) = refl in
    pair_at c tb tc rb rc t r (omega (arith, l, m, n)) p.2

-- each post that is told of is one of the run
pub post_one : (c : ToldCodecs) (s : SitePlan) (past : List Entry) (posts : List Post) (k : ℕ) (t : ToldPost) → TellsOwn c → IsRun c.words s past posts → (o : Of posts k) → IsPostOf c s past k t → One c t o.post
post_one c s past posts k t own run o is =
    let m = is.place in
    let n = o.number in
    let p = all_pairs c s past (is.before ++ t ∷ is.behind) posts own is.posts run in
    pair_at c is.before is.behind o.before o.behind t o.post (omega (arith, m, n)) (subst (Pairs c (is.before ++ t ∷ is.behind)) o.posts_are p)
