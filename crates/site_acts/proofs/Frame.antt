-- An act of one post, behind which the others stand as before; and a hearing of all.
use Rattle.std.proofs.Common.{◌≡◌, ◌<◌, ◌≤◌, ℕ, zero, suc, ◌+◌, ◌-◌, Bool, true, false, ◌&&◌, if◌then◌else◌, List, [], ◌∷◌, ◌++◌, length, map, take, drop, get_or, set, max, min, Option, Some, None, refl, sym, ap, subst, ◌∙◌, arith, inl, inr}
use Rattle.std.specs.Prelude.{MatchBool, ◌^◌, fold}
use Rattle.session_timers.specs.Due.{never}
use Rattle.std.specs.List.{AllByRecursion, AllWithin, All, sum_by}
use Rattle.std.proofs.Math.Seq.{split_at}
use Rattle.std.proofs.lemmas.List.{length-map, length-take, length-append, map-append, set_split}
use Rattle.std.proofs.lemmas.List.Sums.{sum_by-cons}
use Rattle.charge_world.specs.declared.entry.Entry.{Entry}
use Rattle.charge_world.specs.declared.entry.Entry.TheVariants as entry
use Rattle.charge_world.specs.declared.heard.Heard.{Heard}
use Rattle.charge_world.specs.declared.heard.What.{What}
use Rattle.charge_world.specs.declared.ports.Order.{Order}
use Rattle.charge_world.specs.declared.ports.Order.TheVariants as order
use Rattle.session_words.specs.declared.plan.PostPlan.{PostPlan}
use Rattle.session_words.specs.declared.plan.SitePlan.{SitePlan}
use Rattle.charge_world.specs.Outside.{IsOfPosts}
use Rattle.power_share.specs.Sharing.{IsLevel}
use Rattle.post_spec.specs.Codecs.{Judged, Negotiated, Asked, WrongSide, Refused, Codecs}
use Rattle.post_spec.specs.Steps.{Event, Act, Give, Send, Answer, End, Step, Hears, Does, Reading, event_at, moment, seen_of}
use Rattle.post_spec.specs.Steps as steps
use Rattle.station_spec.specs.States.{Session, State, first}
use Rattle.station_spec.specs.States as states
use Rattle.station_spec.specs.Deciding.{decided}
use Rattle.station_spec.specs.Judging.{Payload, wanted, shows, asked_behind, filled, IsShown, IsRead}
use Rattle.station_spec.specs.Next.{IsQuiet, Acts, IsDone}
use Rattle.station_spec.specs.Sharing.{Post, state_of, asked_of, told_of, told_total, Shows}
use Rattle.station_spec.specs.Blocks.{is_last, is_over, hearings, IsHearing}
use Rattle.station_spec.specs.Runs.{entry_of, with_step, unheard, heard_from, Rests, AreQuiet, HeardBy, MayHear, MayAct, IsRun}
use Rattle.station_spec.specs.Report.{sessions, closed, causes, is_close}
use Rattle.station_spec.specs.Until.{due_of, until, AreUntils}
use Rattle.trace_text.specs.Pasts.{is_hearing}
use Rattle.site_posts.specs.declared.place.Place.{Place}
use Rattle.site_posts.specs.declared.report.PostReport.{PostReport}
use Rattle.site_posts.specs.Filling.{no_place, at}
use Rattle.site_posts.specs.Places.{capped, report_of, place_of, heard_report, heard_place, HeardAll, acted_report, done_place, filled_place, asked_at, told_at, Shares, due_at, RestsAt}
use Rattle.site_posts.proofs.Levels.{set_behind, get_behind}
use Rattle.site_posts.proofs.Words.{read_more}
use Rattle.endpoint.specs.Knowing.{Known, known_first, known_behind, known_lost}
use Rattle.endpoint.proofs.Knowing.{known_call, known_none, known_heard, known_nothing}
use Rattle.site_acts.specs.Serving.{InBlock}

-- ---- a post among the others

pub record Among (posts : List Post) (i : ℕ) : Type 0 where
  pub before : List Post
  pub post : Post
  pub behind : List Post
  pub are : posts ≡ before ++ post ∷ behind
  pub count : length before ≡ i

pub among : (posts : List Post) (i : ℕ) → i < length posts → Among posts i
among [] i less = absurd (let f : i < 0 = less in omega arith)
among (p ∷ posts) zero less = record { before = []; post = p; behind = posts; are = refl; count = refl }
among (p ∷ posts) (suc i) less =
    let a = among posts i (omega (arith, less)) in
    record { before = p ∷ a.before; post = a.post; behind = a.behind; are = ap (λ (t : List Post). p ∷ t) a.are; count = ap suc a.count }

-- the places of a split list
pub places_cut : (places : List Place) (before : List Post) (post : Post) (behind : List Post) → places ≡ map place_of (before ++ post ∷ behind) → places ≡ map place_of before ++ place_of post ∷ map place_of behind
places_cut places before post behind e = e ∙ map-append place_of before (post ∷ behind)

pub at_cut : (places : List Place) (i : ℕ) (before : List Post) (post : Post) (behind : List Post) → places ≡ map place_of before ++ place_of post ∷ map place_of behind → length before ≡ i → at places i ≡ place_of post
at_cut places i before post behind e n =
    ap (λ (ps : List Place). at ps i) e ∙ ap (λ (k : ℕ). at (map place_of before ++ place_of post ∷ map place_of behind) k) (sym (length-map before place_of ∙ n))
    ∙ get_behind (map place_of before) (place_of post) no_place (map place_of behind)

pub set_cut : (places : List Place) (i : ℕ) (before : List Post) (post : Post) (behind : List Post) (x : Place) → places ≡ map place_of before ++ place_of post ∷ map place_of behind → length before ≡ i
    → set places i x ≡ map place_of before ++ x ∷ map place_of behind
set_cut places i before post behind x e n =
    ap (λ (ps : List Place). set ps i x) e ∙ ap (λ (k : ℕ). set (map place_of before ++ place_of post ∷ map place_of behind) k x) (sym (length-map before place_of ∙ n))
    ∙ set_behind (map place_of before) (place_of post) x (map place_of behind)

take_cut : {A : Type 0} (xs ys : List A) → take (length xs) (xs ++ ys) ≡ xs
take_cut [] ys = refl
take_cut (x ∷ xs) ys = ap (λ (t : List _). x ∷ t) (take_cut xs ys)

drop_behind : {A : Type 0} (xs : List A) (x : A) (ys : List A) → drop (suc (length xs)) (xs ++ x ∷ ys) ≡ ys
drop_behind [] x ys = refl
drop_behind (y ∷ xs) x ys = drop_behind xs x ys

pub drop_cut : {A : Type 0} (xs : List A) (x : A) (ys : List A) → drop (length xs + 1) (xs ++ x ∷ ys) ≡ ys
drop_cut xs x ys = ap (λ (k : ℕ). drop k (xs ++ x ∷ ys)) (let e : length xs + 1 ≡ suc (length xs) = omega arith in e) ∙ drop_behind xs x ys

asked_map : (posts : List Post) → map asked_at (map place_of posts) ≡ map asked_of posts
asked_map [] = refl
asked_map (p ∷ posts) = ap (λ (t : List ℕ). asked_of p ∷ t) (asked_map posts)

told_map : (posts : List Post) → sum_by told_at (map place_of posts) ≡ told_total posts
told_map [] = refl
told_map (p ∷ posts) = sum_by-cons told_at (place_of p) (map place_of posts) ∙ ap (λ (n : ℕ). told_of p + n) (told_map posts) ∙ sym (sum_by-cons told_of p posts)

-- what a post is shown between the others
pub shares_show : (limit : ℕ) (places : List Place) (i : ℕ) (before : List Post) (post : Post) (behind : List Post) (asked shown : ℕ) → places ≡ map place_of before ++ place_of post ∷ map place_of behind → length before ≡ i
    → Shares limit places i asked shown → Shows limit before behind asked shown
shares_show limit places i before post behind asked shown e n s =
    let k : length (map place_of before) ≡ i = length-map before place_of ∙ n in
    let front : take i places ≡ map place_of before = ap (λ (ps : List Place). take i ps) e ∙ subst (λ (m : ℕ). take m (map place_of before ++ place_of post ∷ map place_of behind) ≡ map place_of before) k (take_cut (map place_of before) _) in
    let back : drop (i + 1) places ≡ map place_of behind = ap (λ (ps : List Place). drop (i + 1) ps) e ∙ subst (λ (m : ℕ). drop (m + 1) (map place_of before ++ place_of post ∷ map place_of behind) ≡ map place_of behind) k (drop_cut (map place_of before) (place_of post) (map place_of behind)) in
    let asks : map asked_at (take i places) ++ asked ∷ map asked_at (drop (i + 1) places) ≡ map asked_of before ++ asked ∷ map asked_of behind =
    ap (λ (t : List Place). map asked_at t ++ asked ∷ map asked_at (drop (i + 1) places)) front ∙ ap (λ (t : List Place). map asked_at (map place_of before) ++ asked ∷ map asked_at t) back
    ∙ ap (λ (t : List ℕ). t ++ asked ∷ map asked_at (map place_of behind)) (asked_map before) ∙ ap (λ (t : List ℕ). map asked_of before ++ asked ∷ t) (asked_map behind) in
    let told : sum_by told_at (take i places) + sum_by told_at (drop (i + 1) places) ≡ told_total before + told_total behind =
    ap (λ (t : List Place). sum_by told_at t + sum_by told_at (drop (i + 1) places)) front ∙ ap (λ (t : List Place). sum_by told_at (map place_of before) + sum_by told_at t) back
    ∙ ap (λ (m : ℕ). m + sum_by told_at (map place_of behind)) (told_map before) ∙ ap (λ (m : ℕ). told_total before + m) (told_map behind) in
    record {
      level = s.level;
      is_level = subst (λ (t : List ℕ). IsLevel limit t s.level) asks s.is_level;
      least = s.least ∙ ap (λ (m : ℕ). min (min asked s.level) (limit - m)) told;
    }

-- ---- reports

count_more : (n : ℕ) → capped (1 + n) ≡ capped (capped n + 1)
count_more n = omega arith

count_same : (n : ℕ) → capped (0 + n) ≡ capped n
count_same n = omega arith

same_sessions : (ss : List Step) → record (report_of ss) { sessions = capped (0 + sessions (map seen_of ss)) } ≡ report_of ss
same_sessions ss = ap (λ (n : ℕ). record (report_of ss) { sessions = n }) (count_same (sessions (map seen_of ss)))

report_heard : (at : ℕ) (event : Event) (ss : List Step) → report_of (Hears at event ∷ ss) ≡ heard_report event (report_of ss)
report_heard at (steps.Came token) ss = ap (λ (n : ℕ). record (report_of ss) { sessions = n }) (count_more (sessions (map seen_of ss)))
report_heard at (steps.Bytes bytes) ss = same_sessions ss
report_heard at steps.Gone ss = same_sessions ss
report_heard at (steps.Datagram bytes) ss = same_sessions ss
report_heard at (steps.Plant event) ss = same_sessions ss
report_heard at steps.Clock ss = same_sessions ss
report_heard at steps.Over ss = same_sessions ss

closed_if : (n : ℕ) (b : Bool) → capped ((if b then 1 else 0) + n) ≡ (if b then capped (capped n + 1) else capped n)
closed_if n true = count_more n
closed_if n false = count_same n

same_closed : (reading : Option Reading) (a : Act) (taken : Bool) (ss : List Step) → record (report_of (Does reading a taken ∷ ss)) { closed = capped (0 + closed (map seen_of ss)) } ≡ record (report_of (Does reading a taken ∷ ss)) { closed = capped (closed (map seen_of ss)) }
same_closed reading a taken ss = ap (λ (m : ℕ). record (report_of (Does reading a taken ∷ ss)) { closed = m }) (count_same (closed (map seen_of ss)))

report_acted : (reading : Option Reading) (a : Act) (taken : Bool) (ss : List Step) → report_of (Does reading a taken ∷ ss) ≡ acted_report a taken (report_of ss)
report_acted reading (Give o) taken ss = ap (λ (m : ℕ). record (report_of ss) { closed = m }) (closed_if (closed (map seen_of ss)) (is_close o && taken))
report_acted reading (Send bytes) taken ss = same_closed reading (Send bytes) taken ss
report_acted reading (Answer bytes) taken ss = same_closed reading (Answer bytes) taken ss
report_acted reading (End cause) taken ss = same_closed reading (End cause) taken ss

pub place_acted : (reading : Option Reading) (a : Act) (taken : Bool) (p : Post) → place_of (with_step (Does reading a taken) p) ≡ done_place a taken (filled_place reading (place_of p))
place_acted reading a taken p = ap (λ (r : PostReport). record (place_of (with_step (Does reading a taken) p)) { report = r }) (report_acted reading a taken p.steps)

pub place_heard : (at : ℕ) (k : ℕ) (what : What) (bytes : List ℕ) (p : Post) → place_of (with_step (Hears at (event_at k what bytes)) p) ≡ heard_place k at what bytes (place_of p)
place_heard at k what bytes p = ap (λ (r : PostReport). record (place_of (with_step (Hears at (event_at k what bytes)) p)) { report = r }) (report_heard at (event_at k what bytes) p.steps)

-- ---- an act of the post at place i

acted_call : (k : ℕ) (a : Act) (taken : Bool) → is_hearing (entry_of k a taken) ≡ false
acted_call k (Give order) taken = refl
acted_call k (Send bytes) taken = refl
acted_call k (Answer bytes) taken = refl
acted_call k (End cause) taken = refl

untils_acted : (c : Codecs) (site : SitePlan) (k : ℕ) (a : Act) (taken : Bool) (past : List Entry) (posts : List Post) (us : List ℕ) → IsRun c site past posts → AreUntils c site past us → AreUntils c site (entry_of k a taken ∷ past) us
untils_acted c site k (Give order) taken past posts us run h = (posts, us, run, h, refl)
untils_acted c site k (Send bytes) taken past posts us run h = (posts, us, run, h, refl)
untils_acted c site k (Answer bytes) taken past posts us run h = (posts, us, run, h, refl)
untils_acted c site k (End cause) taken past posts us run h = (posts, us, run, h, refl)

rests_of : (before rest : List Post) → AllWithin RestsAt (map place_of (before ++ rest)) 0 (length before) → AreQuiet before
rests_of [] rest h = tt
rests_of (p ∷ before) rest h = (h 0 no_place (omega arith) (omega arith), rests_of before rest (λ k d low high. h (suc k) d (omega arith) (omega (arith, high))))

pub acted_one : (c : Codecs) (site : SitePlan) (k : Known) (places : List Place) (past : List Entry) (i : ℕ) (reading : Option Reading) (todo : states.Todo) (a : Act) (taken : Bool) → i < length places → AllWithin RestsAt places 0 i
    → IsRead c (at places i).plan (Shares site.limit places i) (decided (at places i).plan (at places i).post) (wanted (decided (at places i).plan (at places i).post)) reading
    → first (filled_place reading (at places i)).post.agenda ≡ Some todo → IsDone c todo a taken
    → InBlock c site k places past → InBlock c site k (set places i (done_place a taken (filled_place reading (at places i)))) (entry_of (i + 1) a taken ∷ past)
acted_one c site k places past i reading todo a taken within quiet read first_is done b =
    let w = among b.posts i (subst (λ (n : ℕ). i < n) (ap length b.are ∙ length-map b.posts place_of) within) in
    let cut = places_cut places w.before w.post w.behind (b.are ∙ ap (map place_of) w.are) in
    let here = at_cut places i w.before w.post w.behind cut w.count in
    let later = w.before ++ with_step (Does reading a taken) w.post ∷ w.behind in
    let read_here = subst (λ (p : Place). IsRead c p.plan (Shares site.limit places i) (decided p.plan p.post) (wanted (decided p.plan p.post)) reading) here read in
    let may : MayAct c site.limit b.posts (entry_of (i + 1) a taken) later = record {
      before = w.before;
      post = w.post;
      behind = w.behind;
      posts_are = w.are;
      first = rests_of w.before (w.post ∷ w.behind) (subst (λ (n : ℕ). AllWithin RestsAt (map place_of (w.before ++ w.post ∷ w.behind)) 0 n) (sym w.count) (subst (λ (ps : List Place). AllWithin RestsAt ps 0 i) (b.are ∙ ap (map place_of) w.are) quiet));
      reading = reading;
      act = a;
      taken = taken;
      acts = record {
        read = read_more c (Shares site.limit places i) (Shows site.limit w.before w.behind) w.post.plan (decided w.post.plan (state_of w.post)) (wanted (decided w.post.plan (state_of w.post))) reading (λ asked n s. shares_show site.limit places i w.before w.post w.behind asked n cut w.count s) read_here;
        todo = todo;
        acts = subst (λ (p : Place). first (filled_place reading p).post.agenda ≡ Some todo) here first_is;
        done = done;
      };
      entry_is = ap (λ (n : ℕ). entry_of (n + 1) a taken) (sym w.count);
      later_is = refl;
    } in
    record {
      posts = later;
      run = (b.posts, b.run, inr may);
      are = set_cut places i w.before w.post w.behind _ cut w.count
          ∙ ap (λ (p : Place). map place_of w.before ++ p ∷ map place_of w.behind) (ap (λ (p : Place). done_place a taken (filled_place reading p)) here ∙ sym (place_acted reading a taken w.post))
          ∙ sym (map-append place_of w.before (with_step (Does reading a taken) w.post ∷ w.behind));
      known_is = known_call k (entry_of (i + 1) a taken) past (acted_call (i + 1) a taken) b.known_is;
      untils_are = untils_acted c site (i + 1) a taken past b.posts k.untils b.run b.untils_are;
    }

-- ---- a hearing

hears_from : (k at : ℕ) (h : Heard) (bytes : List ℕ) (places new : List Place) (posts : List Post) → places ≡ map place_of posts → length new ≡ length places
    → ((j : ℕ) (d : Place) → j < length places → get_or new j d ≡ heard_place (j + k) at h.what bytes (get_or places j d)) → new ≡ map place_of (heard_from k at h bytes posts)
hears_from k at h bytes [] [] [] are same all = refl
hears_from k at h bytes [] (n ∷ new) [] are same all = absurd (omega (arith, same))
hears_from k at h bytes [] new (p ∷ posts) are same all = absurd (let e : 0 ≡ length (map place_of (p ∷ posts)) = ap length are in omega (arith, e))
hears_from k at h bytes (q ∷ places) new [] are same all = absurd (let e : length (q ∷ places) ≡ 0 = ap length are in omega (arith, e))
hears_from k at h bytes (q ∷ places) [] (p ∷ posts) are same all = absurd (omega (arith, same))
hears_from k at h bytes (q ∷ places) (n ∷ new) (p ∷ posts) are same all =
    let q_is : q ≡ place_of p = cc in
    let rest_are : places ≡ map place_of posts = cc in
    let zeroth : 0 + k ≡ k = omega arith in
    let here : n ≡ place_of (with_step (Hears at (event_at k h.what bytes)) p) =
    all 0 q (omega arith) ∙ ap (λ (m : ℕ). heard_place m at h.what bytes q) zeroth ∙ ap (heard_place k at h.what bytes) q_is ∙ sym (place_heard at k h.what bytes p) in
    let rest = hears_from (suc k) at h bytes places new posts rest_are (omega (arith, same))
    (λ j d less. all (suc j) d (omega (arith, less)) ∙ ap (λ (m : ℕ). heard_place m at h.what bytes (get_or places j d)) (let e : suc j + k ≡ j + suc k = omega arith in e)) in
    ap (λ (x : Place). x ∷ new) here ∙ ap (λ (xs : List Place). place_of (with_step (Hears at (event_at k h.what bytes)) p) ∷ xs) rest

all_rest : (posts : List Post) → All RestsAt (map place_of posts) → AreQuiet posts
all_rest [] h = tt
all_rest (p ∷ posts) h = (h 0 no_place (omega arith), all_rest posts (λ j d less. h (suc j) d (omega (arith, less))))

due_map : (posts : List Post) → map due_at (map place_of posts) ≡ map due_of posts
due_map [] = refl
due_map (p ∷ posts) = ap (λ (t : List ℕ). due_of p ∷ t) (due_map posts)

pub heard_one : (c : Codecs) (site : SitePlan) (k : Known) (places new : List Place) (past : List Entry) (h : Heard) (bytes : List ℕ) (wait : ℕ) → k.last ≡ false → k.heard < site.turns → All RestsAt places → IsOfPosts (length places) h.what → IsHearing h bytes
    → length new ≡ length places → HeardAll (max k.clock h.at) h.what bytes places new → wait ≡ fold min never (map due_at places) → InBlock c site k places past
    → InBlock c site (known_behind k h bytes wait) new (entry.Heard h bytes ∷ past)
heard_one c site k places new past h bytes wait goes_on turn rest of is same all waits b =
    let at = max k.clock h.at in
    let later = heard_from 1 (max (moment past) h.at) h bytes b.posts in
    let count : length places ≡ length b.posts = ap length b.are ∙ length-map b.posts place_of in
    let clock : max (moment past) h.at ≡ at = ap (λ (m : ℕ). max m h.at) b.known_is.clock_is in
    let due : until b.posts ≡ wait = ap (fold min never) (sym (due_map b.posts)) ∙ ap (λ (ps : List Place). fold min never (map due_at ps)) (sym b.are) ∙ sym waits in
    record {
      posts = later;
      run = (
        b.posts,
        b.run,
        inl (record {
          whole = all_rest b.posts (subst (All RestsAt) b.are rest);
          goes_on = b.known_is.last_is ∙ goes_on;
          turns_left = subst (λ (n : ℕ). n < site.turns) (sym b.known_is.heard_is) turn;
          heard = (subst (λ (n : ℕ). IsOfPosts n h.what) count of, is, refl);
        }),
      );
      are = hears_from 1 at h bytes places new b.posts b.are same all ∙ ap (λ (m : ℕ). map place_of (heard_from 1 m h bytes b.posts)) (sym clock);
      known_is = known_heard k h bytes wait past b.known_is;
      untils_are = (b.posts, k.untils, b.run, b.untils_are, ap (λ (n : ℕ). n ∷ k.untils) (sym due));
    }

pub lost_one : (c : Codecs) (site : SitePlan) (k : Known) (places : List Place) (past : List Entry) (wait : ℕ) → k.last ≡ false → k.heard < site.turns → All RestsAt places → wait ≡ fold min never (map due_at places) → InBlock c site k places past
    → InBlock c site (known_lost k wait) places (entry.Lost ∷ past)
lost_one c site k places past wait goes_on turn rest waits b =
    let due : until b.posts ≡ wait = ap (fold min never) (sym (due_map b.posts)) ∙ ap (λ (ps : List Place). fold min never (map due_at ps)) (sym b.are) ∙ sym waits in
    record {
      posts = b.posts;
      run = (
        b.posts,
        b.run,
        inl (record {
          whole = all_rest b.posts (subst (All RestsAt) b.are rest);
          goes_on = b.known_is.last_is ∙ goes_on;
          turns_left = subst (λ (n : ℕ). n < site.turns) (sym b.known_is.heard_is) turn;
          heard = refl;
        }),
      );
      are = b.are;
      known_is = known_nothing k wait past b.known_is;
      untils_are = (b.posts, k.untils, b.run, b.untils_are, ap (λ (n : ℕ). n ∷ k.untils) (sym due));
    }

pub begins : (c : Codecs) (site : SitePlan) (places : List Place) (past : List Entry) → places ≡ map place_of (map unheard site.post.items) → past ≡ [] → InBlock c site known_first places past
begins c site places past made e =
    subst (InBlock c site known_first places) (sym e)
    (record { posts = map unheard site.post.items; run = refl; are = made; known_is = known_none; untils_are = refl })
