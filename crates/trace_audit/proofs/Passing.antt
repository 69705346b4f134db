-- The posts of a site behind an entry.
use Rattle.std.proofs.Common.{◌≡◌, inr, ◌<◌, ℕ, zero, suc, ◌+◌, ◌-◌, ◌==◌, max, Bool, true, false, List, [], ◌∷◌, ◌++◌, length, take, drop, set, refl, sym, ap, subst, ◌∙◌, arith, eq-eqb}
use Rattle.std.specs.Prelude.{◌↔◌, IsTrue, MatchBool}
use Rattle.std.specs.List.{AllByRecursion}
use Rattle.std.proofs.lemmas.Bool.{eqb-true, eqb-false, ne_eqb}
use Rattle.std.proofs.lemmas.List.{length-set, get_or-set_same, get_or-set_other}
use Rattle.charge_world.specs.Outside.{IsPost}
use Rattle.charge_world.specs.declared.entry.Entry.{Entry}
use Rattle.charge_world.specs.declared.entry.Entry.TheVariants as entry
use Rattle.session_words.specs.declared.plan.PostPlan.{PostPlan}
use Rattle.session_words.specs.declared.plan.SitePlan.{SitePlan}
use Rattle.trace_reading.specs.Readings.{IsOf}
use Rattle.post_spec.specs.Codecs.{Negotiated, Asked}
use Rattle.post_spec.specs.Course.{told_in}
use Rattle.post_spec.specs.Steps.{Event, Act, Give, Send, Answer, End, Seen, moment, event_at, seen}
use Rattle.post_spec.specs.Words.{Payload}
use Rattle.told_pasts.specs.Checks.{AnswersNothing}
use Rattle.told_pasts.specs.Course.{told_course}
use Rattle.told_pasts.specs.Reading.{IsSaid, Says, IsResponse, IsReply}
use Rattle.told_pasts.specs.Site.{ToldPost, told_of, Shows, hearing, OneDoes, ArePosts, IsPostOf}
use Rattle.told_pasts.specs.Spelling.{ToldCodecs}
use Rattle.told_pasts.specs.Steps.{Said, Response, Replied, Other, Unasked, ToldStep, Hears, seen_in}
use Rattle.audit_causes.specs.Values.{opens_alone}
use Rattle.audit_mandates.specs.Values.{Starts}
use Rattle.audit_posts.specs.Steps.{StepIs}
use Rattle.audit_posts.specs.Values as kept
use Rattle.audit_posts.specs.declared.values.KeptPost.{KeptPost}
use Rattle.audit_streams.specs.Streams.{IsAsked, IsEven}
use Rattle.audited_posts.specs.Posts.{AreOf, IsFree, IsAnswer, Acts, Goes}
use Rattle.determined_pasts.specs.Posts.{PostsAreOne}
use Rattle.trace_audit.specs.Seats.{IsAt, IsSeat, Passing, AreSeated, ShownEach, AreEven, IsJudgedSeat, AreJudged}
use Rattle.trace_audit.specs.declared.seats.Seat.{Seat}
use Rattle.trace_audit.proofs.Lists.{at_once, at_of, at_back, at_least}
use Rattle.trace_audit.proofs.Posts.{plan_at, posts_count, split_post, place_of, post_of, only_post, hearing_count, hearing_at}
use Rattle.faultless_pasts.proofs.Told.{told_within}

differ : false ≡ true → ⊥
differ h = cc

-- ---- one choice at each place is a list

record Chosen {A : Type 0} (n : ℕ) (P : ℕ → A → Type 0) : Type 0 where
  xs : List A
  count : length xs ≡ n
  each : (i : ℕ) (x : A) → IsAt xs i x → P i x

chosen_at : {A : Type 0} (P : ℕ → A → Type 0) (y : A) (xs : List A) → P 0 y → ((i : ℕ) (x : A) → IsAt xs i x → P (suc i) x) → (i : ℕ) (x : A) → IsAt (y ∷ xs) i x → P i x
chosen_at {A = A} P y xs first rest zero x h = subst (λ (z : A). P 0 z) (sym h.1) first
chosen_at P y xs first rest (suc i) x h = rest i x (at_back y xs i x h)

choose : {A : Type 0} (n : ℕ) (P : ℕ → A → Type 0) → ((i : ℕ) → i < n → (x : A) × P i x) → Chosen n P
choose zero P f = record { xs = []; count = refl; each = λ i x h. absurd (let less = h.0 in omega (arith, less)) }
choose (suc n) P f =
    let first = f 0 (omega arith) in
    let rest = choose n (λ i x. P (suc i) x) (λ i less. f (suc i) (omega (arith, less))) in
    record { xs = first.0 ∷ rest.xs; count = ap suc rest.count; each = chosen_at P first.0 rest.xs first.1 rest.each }

-- ---- the posts behind an entry, where each goes so

abbrev pub went : PostPlan → List ToldStep → ToldPost
went plan steps = record { plan = plan; steps = steps }

abbrev GoSo : ToldCodecs → ℕ → List Entry → Entry → List ToldPost → List (List ToldStep) → Type 0
GoSo c limit past e posts laters = (i : ℕ) (p : ToldPost) (later : List ToldStep) → IsAt posts i p → IsAt laters i later
    → Goes c (Shows limit (take i posts) (drop (suc i) posts)) p.plan (i + 1) past p.steps e later

pub record NextPosts (c : ToldCodecs) (site : SitePlan) (past : List Entry) (e : Entry) (posts : List ToldPost) (laters : List (List ToldStep)) : Type 0 where
  pub new : List ToldPost
  pub are : ArePosts c site (e ∷ past) new
  pub count : length new ≡ length posts
  pub each : (i : ℕ) (p q : ToldPost) (later : List ToldStep) → IsAt posts i p → IsAt new i q → IsAt laters i later → q ≡ record { plan = p.plan; steps = later }

stay_so : (c : ToldCodecs) (site : SitePlan) (past : List Entry) (e : Entry) (posts : List ToldPost) (laters : List (List ToldStep)) → ArePosts c site (e ∷ past) posts
    → ((i : ℕ) (p : ToldPost) (later : List ToldStep) → IsAt posts i p → IsAt laters i later → later ≡ p.steps) → NextPosts c site past e posts laters
stay_so c site past e posts laters are same = record {
  new = posts;
  are = are;
  count = refl;
  each = λ i p q later h k l. at_once posts i q p k h ∙ ap (went p.plan) (sym (same i p later h l));
}

heard_so : (c : ToldCodecs) (site : SitePlan) (past : List Entry) (e : Entry) (posts : List ToldPost) (laters : List (List ToldStep)) (event : ℕ → Event) (at : ℕ) → ArePosts c site (e ∷ past) (hearing event at 1 posts)
    → ((i : ℕ) (p : ToldPost) (later : List ToldStep) → IsAt posts i p → IsAt laters i later → later ≡ Hears at (event (i + 1)) ∷ p.steps) → NextPosts c site past e posts laters
heard_so c site past e posts laters event at are same = record {
  new = hearing event at 1 posts;
  are = are;
  count = hearing_count event at 1 posts;
  each = λ i p q later h k l. hearing_at event at 1 (i + 1) posts i p q refl h k ∙ ap (went p.plan) (sym (same i p later h l));
}

-- one post does something
then_of : (A B : Type 0) (b : Bool) → b ≡ true → MatchBool b A B → A
then_of A B true is m = m
then_of A B false is m = absurd (differ is)

else_of : (A B : Type 0) (b : Bool) → b ≡ false → MatchBool b A B → B
else_of A B true is m = absurd (differ (sym is))
else_of A B false is m = m

set_cut : {A : Type 0} (xs : List A) (j : ℕ) (x : A) → j < length xs → set xs j x ≡ take j xs ++ x ∷ drop (suc j) xs
set_cut [] j x less = absurd (omega arith)
set_cut (y ∷ ys) zero x less = refl
set_cut {A = A} (y ∷ ys) (suc j) x less =
    let l : length (y ∷ ys) ≡ suc (length ys) = refl in
    ap (λ (zs : List A). y ∷ zs) (set_cut ys j x (omega (arith, less, l)))

put_same : (posts : List ToldPost) (laters : List (List ToldStep)) (j : ℕ) (p x q r : ToldPost) (later last : List ToldStep) → x ≡ record { plan = p.plan; steps = later }
    → IsAt posts j p → IsAt laters j later → IsAt posts j q → IsAt (set posts j x) j r → IsAt laters j last → r ≡ record { plan = q.plan; steps = last }
put_same posts laters j p x q r later last is h l k m n =
    m.1 ∙ get_or-set_same posts j x r h.0 ∙ is
    ∙ ap (λ (y : ToldPost). went y.plan later) (at_once posts j p q h k)
    ∙ ap (went q.plan) (at_once laters j later last l n)

put_other : (posts : List ToldPost) (i j : ℕ) (x q r : ToldPost) (last : List ToldStep) → (i ≡ j → ⊥) → IsAt posts i q → IsAt (set posts j x) i r → last ≡ q.steps → r ≡ record { plan = q.plan; steps = last }
put_other posts i j x q r last apart k m same =
    at_once posts i r q (k.0, m.1 ∙ get_or-set_other posts j i x r apart) k ∙ ap (went q.plan) (sym same)

put_by : (posts : List ToldPost) (laters : List (List ToldStep)) (b : Bool) (i j : ℕ) (p x q r : ToldPost) (later last : List ToldStep) → (i == j) ≡ b → x ≡ record { plan = p.plan; steps = later }
    → IsAt posts j p → IsAt laters j later → IsAt posts i q → IsAt (set posts j x) i r → IsAt laters i last → ((i ≡ j → ⊥) → last ≡ q.steps) → r ≡ record { plan = q.plan; steps = last }
put_by posts laters true i j p x q r later last here is h l k m n other =
    let same = eqb-true i j here in
    put_same posts laters j p x q r later last is h l (subst (λ (z : ℕ). IsAt posts z q) same k) (subst (λ (z : ℕ). IsAt (set posts j x) z r) same m) (subst (λ (z : ℕ). IsAt laters z last) same n)
put_by posts laters false i j p x q r later last here is h l k m n other =
    put_other posts i j x q r last (eqb-false i j here) k m (other (eqb-false i j here))

does_so : (c : ToldCodecs) (site : SitePlan) (past : List Entry) (e : Entry) (posts : List ToldPost) (laters : List (List ToldStep)) (k : ℕ) (act : Act) (taken : Bool) → ((new : List ToldPost) → OneDoes c site.limit k act taken posts new → ArePosts c site (e ∷ past) new)
    → IsPost (length posts) k → length laters ≡ length posts
    → ((i : ℕ) (p : ToldPost) (later : List ToldStep) → IsAt posts i p → IsAt laters i later
    → MatchBool (k == (i + 1)) (Acts c (Shows site.limit (take i posts) (drop (suc i) posts)) p.plan p.steps act taken later) (later ≡ p.steps)) → NextPosts c site past e posts laters
does_so c site past e posts laters k act taken are post count go =
    let j = k - 1 in
    let number : k ≡ j + 1 = omega (arith, post.0) in
    let less : j < length posts = omega (arith, post.0, post.1) in
    let p = at_of posts j less in
    let later = at_of laters j (omega (arith, less, count)) in
    let does = then_of _ _ (k == (j + 1)) (eq-eqb k (j + 1) number) (go j p.0 later.0 p.1 later.1) in
    let x : ToldPost = record { plan = p.0.plan; steps = does.0 ∷ p.0.steps } in
    let here : later.0 ≡ does.0 ∷ p.0.steps = does.2 in
    let is : x ≡ record { plan = p.0.plan; steps = later.0 } = ap (went p.0.plan) (sym here) in
    record {
      new = set posts j x;
      are = are (set posts j x) (record {
        before = take j posts;
        post = p.0;
        behind = drop (suc j) posts;
        place = number ∙ place_of posts j p.0 p.1;
        earlier_are = split_post posts j p.0 p.1;
        step = does.0;
        is = does.1;
        later_are = set_cut posts j x less;
      });
      count = length-set posts j x;
      each = λ i q r last h m l. put_by posts laters (i == j) i j p.0 x q r later.0 last refl is p.1 later.1 h m l
          (λ apart. else_of _ _ (k == (i + 1)) (ne_eqb k (i + 1) (λ same. apart (let e : i ≡ j = omega (arith, same, number) in e))) (go i q last h l));
    }

pub next_posts : (c : ToldCodecs) (site : SitePlan) (past : List Entry) (e : Entry) (posts : List ToldPost) (laters : List (List ToldStep)) → ArePosts c site past posts → IsOf (length posts) e → length laters ≡ length posts
    → GoSo c site.limit past e posts laters → NextPosts c site past e posts laters
next_posts c site past (entry.Heard heard bytes) posts laters are of count go =
    heard_so c site past (entry.Heard heard bytes) posts laters (λ k. event_at k heard.what bytes) (max (moment past) heard.at) (posts, are, refl) go
next_posts c site past entry.Lost posts laters are of count go = stay_so c site past entry.Lost posts laters are go
next_posts c site past (entry.Sent k bytes taken) posts laters are of count go =
    does_so c site past (entry.Sent k bytes taken) posts laters k (Send bytes) taken (λ new d. (posts, are, d)) of count go
next_posts c site past (entry.Answered k bytes taken) posts laters are of count go =
    does_so c site past (entry.Answered k bytes taken) posts laters k (Answer bytes) taken (λ new d. (posts, are, d)) of count go
next_posts c site past (entry.Drove k given taken) posts laters are of count go =
    does_so c site past (entry.Drove k given taken) posts laters k (Give given) taken (λ new d. (posts, are, d)) of count go
next_posts c site past (entry.Dialed port taken) posts laters are of count go = stay_so c site past (entry.Dialed port taken) posts laters are go
next_posts c site past (entry.Ended k cause) posts laters are of count go =
    does_so c site past (entry.Ended k cause) posts laters k (End cause) true (λ new d. (posts, are, d)) of count go

-- ---- what is no failed ninth check answers a word

says_asked : (c : ToldCodecs) (plan : PostPlan) (past : List Seen) (bytes : List ℕ) (said : Said) → Says c plan past bytes said → IsAsked c.words plan.dialects.items past
says_asked c plan past bytes said (IsResponse words chosen own payload positive u b s) = (words, Payload (Negotiated chosen own), u)
says_asked c plan past bytes said (IsReply words request reply spoken payload watts u d b s k w) = (words, Payload (Asked request), u)

is_asked : (c : ToldCodecs) (plan : PostPlan) (past : List Seen) (bytes : List ℕ) (said : Said) → IsSaid c plan past bytes said → (said ≡ Unasked → ⊥) → IsAsked c.words plan.dialects.items past
is_asked c plan past bytes (Response chosen positive) is some = says_asked c plan past bytes (Response chosen positive) is
is_asked c plan past bytes (Replied request reply watts) is some = says_asked c plan past bytes (Replied request reply watts) is
is_asked c plan past bytes Other is some = is.0
is_asked c plan past bytes Unasked is some = absurd (some refl)

match_unit : (A : Type 0) (b : Bool) → (b ≡ true → A) → MatchBool b A (Unit {0})
match_unit A true f = f refl
match_unit A false f = tt

answered : (c : ToldCodecs) (site : SitePlan) (past : List Entry) (e : Entry) (Share : ℕ → ℕ → Type 0) (p : ToldPost) (later : List ToldStep) (i : ℕ) → seen_in p.steps ≡ seen (i + 1) past
    → IsPostOf c site (e ∷ past) (i + 1) (record { plan = p.plan; steps = later }) → Goes c Share p.plan (i + 1) past p.steps e later → (AnswersNothing c site past e → ⊥) → IsAnswer c.words p.plan.dialects.items (i + 1) past e
answered c site past (entry.Heard heard bytes) Share p later i seen_is is goes none = tt
answered c site past entry.Lost Share p later i seen_is is goes none = tt
answered c site past (entry.Sent k bytes taken) Share p later i seen_is is goes none = match_unit (IsAsked c.words p.plan.dialects.items (seen (i + 1) past)) (k == (i + 1)) (λ own.
    let does = then_of _ _ (k == (i + 1)) own goes in
    let sends = does.1 in
    subst (λ (xs : List Seen). IsAsked c.words p.plan.dialects.items xs) seen_is (is_asked c p.plan (seen_in p.steps) bytes sends.1 sends.3 (λ unasked. none (record {
      k = i + 1;
      bytes = bytes;
      taken = taken;
      post = record { plan = p.plan; steps = later };
      reading = sends.0;
      said = sends.1;
      steps = p.steps;
      entry_is = ap (λ (n : ℕ). entry.Sent n bytes taken) (eqb-true k (i + 1) own);
      is = is;
      steps_are = does.2 ∙ ap (λ (step : ToldStep). step ∷ p.steps) sends.4;
      nothing = inr unasked;
    }))))
answered c site past (entry.Answered k bytes taken) Share p later i seen_is is goes none = tt
answered c site past (entry.Drove k given taken) Share p later i seen_is is goes none = tt
answered c site past (entry.Dialed port taken) Share p later i seen_is is goes none = tt
answered c site past (entry.Ended k cause) Share p later i seen_is is goes none = tt

-- ---- each post with its seat

record SeatGoes (c : ToldCodecs) (Share : ℕ → ℕ → Type 0) (k : ℕ) (past : List Entry) (p : ToldPost) (e : Entry) (s : Seat) (later : List ToldStep) : Type 0 where
  goes : Goes c Share p.plan k past p.steps e later
  told : StepIs c p.plan k past p.steps s.passed.about e later
  are : AreOf c p.plan k (e ∷ past) later s.post
  even : IsAnswer c.words p.plan.dialects.items k past e → IsEven s.post.stream
  before_are : kept.AreOf c p.plan k past p.steps s.passed.before
  starting_is : IsTrue s.passed.starting ↔ Starts c p.plan p.steps
  alone_is : s.alone ≡ opens_alone k (e ∷ past)

-- what is known of the posts before the entry
pub record Ready (c : ToldCodecs) (site : SitePlan) (past : List Entry) (e : Entry) (posts : List ToldPost) (olds news : List Seat) (shown : ℕ) : Type 0 where
  pub one : PostsAreOne c
  pub seated : AreSeated c site past posts olds
  pub of : AllByRecursion (IsOf (length site.post.items)) past
  pub is_of : IsOf (length site.post.items) e
  pub even : AreEven olds
  pub free : (i : ℕ) (p : ToldPost) → IsAt posts i p → IsFree c p.plan (i + 1) past e
  pub shown_is : ShownEach c site.limit posts e shown
  pub count : length news ≡ length olds
  pub passing : (i : ℕ) (plan : PostPlan) (old new : Seat) → IsAt site.post.items i plan → IsAt olds i old → IsAt news i new → Passing c plan (i + 1) e shown old new
  pub small : site.limit < 32768000

module _ (c : ToldCodecs) (site : SitePlan) (past : List Entry) (e : Entry) (posts : List ToldPost) (olds news : List Seat) (shown : ℕ) (r : Ready c site past e posts olds news shown) where
  abbrev share : ℕ → ℕ → ℕ → Type 0
  share i = Shows site.limit (take i posts) (drop (suc i) posts)

  abbrev GoesAt : ℕ → List ToldStep → Type 0
  GoesAt i later = (p : ToldPost) (s : Seat) → IsAt posts i p → IsAt news i s → SeatGoes c (share i) (i + 1) past p e s later

  goes_at : (i : ℕ) → i < length posts → (later : List ToldStep) × GoesAt i later
  goes_at i less =
      let p = at_of posts i less in
      let old = at_of olds i (let n = r.seated.count in omega (arith, less, n)) in
      let new = at_of news i (let n = r.seated.count in let m = r.count in omega (arith, less, n, m)) in
      let seat = r.seated.each i p.0 old.0 p.1 old.1 in
      let passed = r.passing i p.0.plan old.0 new.0 (plan_at c site past posts i p.0 r.seated.posts_are p.1) old.1 new.1 site.limit (take i posts) (drop (suc i) posts) past p.0.steps seat (r.even i old.0 old.1) (r.free i p.0 p.1) (r.shown_is i p.0 p.1) in
      let found : SeatGoes c (share i) (i + 1) past p.0 e new.0 passed.passes.later = record {
        goes = passed.passes.goes;
        told = passed.passes.told;
        are = passed.passes.are;
        even = passed.passes.even;
        before_are = subst (λ (v : KeptPost). kept.AreOf c p.0.plan (i + 1) past p.0.steps v) (sym passed.before_is) seat.are.kept_are;
        starting_is = passed.starting_is;
        alone_is = passed.alone_is;
      } in (
        passed.passes.later,
        λ q s h k.
            subst (λ (y : ToldPost). SeatGoes c (share i) (i + 1) past y e s passed.passes.later) (at_once posts i p.0 q p.1 h)
            (subst (λ (y : Seat). SeatGoes c (share i) (i + 1) past p.0 e y passed.passes.later) (at_once news i new.0 s new.1 k) found),
      )

  all_go : Chosen (length posts) GoesAt
  all_go = choose (length posts) GoesAt goes_at

  count_of : length posts ≡ length site.post.items
  count_of = posts_count c site past posts r.seated.posts_are

  next : NextPosts c site past e posts all_go.xs
  next = next_posts c site past e posts all_go.xs r.seated.posts_are (subst (λ (n : ℕ). IsOf n e) (sym count_of) r.is_of) all_go.count (λ i p later h l.
      let s = at_of news i (let less = h.0 in let n = r.seated.count in let m = r.count in omega (arith, less, n, m)) in
      (all_go.each i later l p s.0 h s.1).goes)

  record Stands (i : ℕ) (q : ToldPost) (s : Seat) : Type 0 where
    p : ToldPost
    place : IsAt posts i p
    later : List ToldStep
    goes : SeatGoes c (share i) (i + 1) past p e s later
    is : q ≡ record { plan = p.plan; steps = later }

  stands : (i : ℕ) (q : ToldPost) (s : Seat) → IsAt next.new i q → IsAt news i s → Stands i q s
  stands i q s h k =
      let less : i < length posts = let n = next.count in let m = h.0 in omega (arith, n, m) in
      let p = at_of posts i less in
      let later = at_of all_go.xs i (let n = all_go.count in omega (arith, less, n)) in
      record { p = p.0; place = p.1; later = later.0; goes = all_go.each i later.0 later.1 p.0 s p.1 k; is = next.each i p.0 q later.0 p.1 h later.1 }

  seat_next : (i : ℕ) (q : ToldPost) (s : Seat) → IsAt next.new i q → IsAt news i s → IsSeat c q.plan (i + 1) (e ∷ past) q.steps s
  seat_next i q s h k =
      let t = stands i q s h k in
      subst (λ (y : ToldPost). IsSeat c y.plan (i + 1) (e ∷ past) y.steps s) (sym t.is) (record { are = t.goes.are; alone_is = t.goes.alone_is })

  small_at : (i : ℕ) (q : ToldPost) → IsAt next.new i q → told_in (told_course q.plan q.steps).session < 32768000
  small_at i q h =
      let most = at_least told_of next.new i q h in
      let all = told_within c site (e ∷ past) next.new next.are in
      let limit = r.small in
      omega (arith, most, all, limit)

  judged_next : (i : ℕ) (q : ToldPost) (s : Seat) → IsAt next.new i q → IsAt news i s → IsJudgedSeat c site (i + 1) past e q s
  judged_next i q s h k =
      let t = stands i q s h k in
      let y : ToldPost = record { plan = t.p.plan; steps = t.later } in
      let here : IsAt next.new i y = subst (λ (z : ToldPost). IsAt next.new i z) t.is h in
      let found : IsJudgedSeat c site (i + 1) past e y s = record {
        steps = t.p.steps;
        so = record {
          before_are = t.goes.before_are;
          later_are = t.goes.are.kept_are;
          step_is = t.goes.told;
          only_before = only_post c site past posts i t.p r.one r.seated.posts_are t.place;
          only_later = only_post c site (e ∷ past) next.new i y r.one next.are here;
        };
        starting_is = t.goes.starting_is;
        seat = record { are = t.goes.are; alone_is = t.goes.alone_is };
        writes_is = t.goes.are.writes_is (small_at i y here);
      } in
      subst (λ (z : ToldPost). IsJudgedSeat c site (i + 1) past e z s) (sym t.is) found

  seated_next : AreSeated c site (e ∷ past) next.new news
  seated_next = record { posts_are = next.are; count = let n = r.seated.count in let m = r.count in let l = next.count in omega (arith, n, m, l); each = seat_next }

  pub all_judged : (now : List ToldPost) × AreJudged c site past e now news
  all_judged = (next.new, record { seated = seated_next; of = (r.is_of, r.of); each = judged_next })

  pub even_next : (AnswersNothing c site past e → ⊥) → AreEven news
  even_next none i s k =
      let q = at_of next.new i (let n = r.seated.count in let m = r.count in let l = next.count in let less = k.0 in omega (arith, n, m, l, less)) in
      let t = stands i q.0 s q.1 k in
      let y : ToldPost = record { plan = t.p.plan; steps = t.later } in
      let here : IsAt next.new i y = subst (λ (z : ToldPost). IsAt next.new i z) t.is q.1 in
      t.goes.even (answered c site past e (share i) t.p t.later i t.goes.before_are.seen_is (post_of c site (e ∷ past) next.new i y next.are here) t.goes.goes none)
