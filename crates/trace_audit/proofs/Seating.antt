-- What is kept of the posts of a site, place by place.
use Rattle.std.proofs.Common.{◌≡◌, ◌⊎◌, inl, inr, ◌<◌, ◌≤◌, ℕ, suc, ◌+◌, ◌-◌, ◌==◌, Bool, true, false, List, [], ◌∷◌, ◌++◌, length, map, take, drop, set, get_or, Some, None, refl, sym, ap, subst, ◌∙◌, arith}
use Rattle.std.specs.Prelude.{◌↔◌, IsTrue, MatchBool}
use Rattle.std.specs.List.{sum_by}
use Rattle.std.proofs.lemmas.Bool.{eqb-true, eqb-false}
use Rattle.std.proofs.lemmas.List.{length-map, length-set, length-take-le, length-drop, length_push, get_or-map, get_or-set_same, get_or-set_other, get_or_push, get_or_append_left}
use Rattle.charge_world.specs.Outside.{IsPost}
use Rattle.charge_world.specs.declared.entry.Entry.{Entry}
use Rattle.charge_world.specs.declared.entry.Entry.TheVariants as entry
use Rattle.session_words.specs.declared.plan.PostPlan.{PostPlan}
use Rattle.session_words.specs.declared.plan.SitePlan.{SitePlan}
use Rattle.trace_reading.specs.Readings.{IsOf}
use Rattle.post_spec.specs.Course.{Course, ask_in, told_in}
use Rattle.post_spec.specs.Steps.{Give, Send}
use Rattle.told_pasts.specs.Checks.{PassesLimit}
use Rattle.told_pasts.specs.Site.{ToldPost, asked_of, told_of, spelled_of, Shows}
use Rattle.told_pasts.specs.Spelling.{ToldCodecs}
use Rattle.told_pasts.specs.Steps.{ToldStep}
use Rattle.audit_contactors.specs.Site.{acting}
use Rattle.audited_posts.specs.Posts.{ShownFor, ShownAt}
use Rattle.determined_pasts.specs.Posts.{PostsAreOne}
use Rattle.trace_audit.specs.Auditing.{AreFirst}
use Rattle.trace_audit.specs.Seats.{IsAt, IsSeat, Passing, AreSeated, ShownEach, AreEven}
use Rattle.trace_audit.specs.Shares.{asked_at, told_at, spelled_at, AreOthers}
use Rattle.trace_audit.specs.declared.seats.Seat.{Seat}
use Rattle.trace_audit.proofs.Lists.{at_once, at_of, Agree, agree_take, agree_drop, same_maps, same_sums}

differ : false ≡ true → ⊥
differ h = cc

-- ---- all posts take an entry, one by one

pass_by : (c : ToldCodecs) (plans : List PostPlan) (initial seats : List Seat) (b : Bool) (i j : ℕ) (x own : Seat) (mine plan : PostPlan) (old new : Seat) (e : Entry) (shown : ℕ) → (j == i) ≡ b → i < length seats → length seats ≡ length initial
    → IsAt plans i mine → own ≡ get_or seats i own → ((d : Seat) → get_or seats i d ≡ get_or initial i d) → Passing c mine (i + 1) e shown own x
    → ((plan : PostPlan) (old new : Seat) → j < i → IsAt plans j plan → IsAt initial j old → IsAt seats j new → Passing c plan (j + 1) e shown old new)
    → j < i + 1 → IsAt plans j plan → IsAt initial j old → IsAt (set seats i x) j new → Passing c plan (j + 1) e shown old new
pass_by c plans initial seats true i j x own mine plan old new e shown here less long at read same passing below more h k l =
    let is = eqb-true j i here in
    let plan_is : mine ≡ plan = at_once plans i mine plan at (subst (λ (n : ℕ). IsAt plans n plan) is h) in
    let old_is : own ≡ old = at_once initial i own old (omega (arith, less, long), read ∙ same own) (subst (λ (n : ℕ). IsAt initial n old) is k) in
    let stands : IsAt (set seats i x) i new = subst (λ (n : ℕ). IsAt (set seats i x) n new) is l in
    let new_is : x ≡ new = sym (stands.1 ∙ get_or-set_same seats i x new less) in
    subst (λ (n : ℕ). Passing c plan (n + 1) e shown old new) (sym is)
    (subst (λ (p : PostPlan). Passing c p (i + 1) e shown old new) plan_is
    (subst (λ (s : Seat). Passing c mine (i + 1) e shown s new) old_is
    (subst (λ (s : Seat). Passing c mine (i + 1) e shown own s) new_is passing)))
pass_by c plans initial seats false i j x own mine plan old new e shown apart less long at read same passing below more h k l =
    let other : j ≡ i → ⊥ = eqb-false j i apart in
    below plan old new (omega (arith, more, other)) h k
    (let m = l.0 in let n = length-set seats i x in omega (arith, m, n), l.1 ∙ get_or-set_other seats i j x new other)

pub pass_more : (c : ToldCodecs) (plans : List PostPlan) (initial seats : List Seat) (i : ℕ) (x own : Seat) (mine : PostPlan) (e : Entry) (shown : ℕ) → i < length seats → length seats ≡ length initial
    → IsAt plans i mine → own ≡ get_or seats i own → ((d : Seat) → get_or seats i d ≡ get_or initial i d) → Passing c mine (i + 1) e shown own x
    → ((j : ℕ) (plan : PostPlan) (old new : Seat) → j < i → IsAt plans j plan → IsAt initial j old → IsAt seats j new → Passing c plan (j + 1) e shown old new)
    → (j : ℕ) (plan : PostPlan) (old new : Seat) → j < i + 1 → IsAt plans j plan → IsAt initial j old → IsAt (set seats i x) j new → Passing c plan (j + 1) e shown old new
pass_more c plans initial seats i x own mine e shown less long at read same passing below j plan old new more h k l =
    pass_by c plans initial seats (j == i) i j x own mine plan old new e shown refl less long at read same passing (below j) more h k l

pub left_more : (initial seats : List Seat) (i : ℕ) (x : Seat) → ((j : ℕ) (d : Seat) → i ≤ j → get_or seats j d ≡ get_or initial j d)
    → (j : ℕ) (d : Seat) → i + 1 ≤ j → get_or (set seats i x) j d ≡ get_or initial j d
left_more initial seats i x before j d more =
    get_or-set_other seats i j x d (λ same. omega (arith, same, more)) ∙ before j d (omega (arith, more))

-- ---- a list of posts grows

push_by : (P : PostPlan → ℕ → Seat → Type 0) (plans : List PostPlan) (seats : List Seat) (b : Bool) (i j : ℕ) (own : Seat) (mine plan : PostPlan) (s : Seat) → (j == i) ≡ b → length seats ≡ i → IsAt plans i mine → P mine (i + 1) own
    → ((plan : PostPlan) (s : Seat) → IsAt plans j plan → IsAt seats j s → P plan (j + 1) s) → IsAt plans j plan → IsAt (seats ++ own ∷ []) j s → P plan (j + 1) s
push_by P plans seats true i j own mine plan s here long at first each h k =
    let is = eqb-true j i here in
    let plan_is : mine ≡ plan = at_once plans i mine plan at (subst (λ (n : ℕ). IsAt plans n plan) is h) in
    let seat_is : own ≡ s = sym (k.1 ∙ get_or_push seats own s j (long ∙ sym is)) in
    subst (λ (n : ℕ). P plan (n + 1) s) (sym is) (subst (λ (p : PostPlan). P p (i + 1) s) plan_is (subst (λ (x : Seat). P mine (i + 1) x) seat_is first))
push_by P plans seats false i j own mine plan s apart long at first each h k =
    let other : j ≡ i → ⊥ = eqb-false j i apart in
    let less : j < length seats = let m = k.0 in let n = length_push seats own in omega (arith, m, n, long, other) in
    each plan s h (less, k.1 ∙ get_or_append_left seats (own ∷ []) s j less)

pub push_more : (P : PostPlan → ℕ → Seat → Type 0) (plans : List PostPlan) (seats : List Seat) (i : ℕ) (own : Seat) (mine : PostPlan) → length seats ≡ i → IsAt plans i mine → P mine (i + 1) own
    → ((j : ℕ) (plan : PostPlan) (s : Seat) → IsAt plans j plan → IsAt seats j s → P plan (j + 1) s) → (j : ℕ) (plan : PostPlan) (s : Seat) → IsAt plans j plan → IsAt (seats ++ own ∷ []) j s → P plan (j + 1) s
push_more P plans seats i own mine long at first each j plan s h k = push_by P plans seats (j == i) i j own mine plan s refl long at first (each j) h k

-- ---- before any entry

abbrev pub unstarted : PostPlan → ToldPost
unstarted plan = record { plan = plan; steps = [] }

pub first_seated : (c : ToldCodecs) (site : SitePlan) (seats : List Seat) → AreFirst c site seats → AreSeated c site [] (map unstarted site.post.items) seats
first_seated c site seats f = record {
  posts_are = refl;
  count = f.count ∙ sym (length-map site.post.items unstarted);
  each = λ i post s h k.
      let p = at_of site.post.items i (let l = h.0 in let n = length-map site.post.items unstarted in omega (arith, l, n)) in
      let is : post ≡ unstarted p.0 = h.1 ∙ get_or-map unstarted site.post.items i p.0 post p.1.0 ∙ ap unstarted (sym p.1.1) in
      subst (λ (q : ToldPost). IsSeat c q.plan (i + 1) [] q.steps s) (sym is) (f.each i p.0 s p.1 k).0;
}

pub first_even : (c : ToldCodecs) (site : SitePlan) (seats : List Seat) → AreFirst c site seats → AreEven seats
first_even c site seats f i s k =
    let p = at_of site.post.items i (let l = k.0 in let n = f.count in omega (arith, l, n)) in
    (f.each i p.0 s p.1 k).1

-- ---- the watts of all posts

asked_same : (c : ToldCodecs) (site : SitePlan) (past : List Entry) (posts : List ToldPost) (seats : List Seat) → AreSeated c site past posts seats → Agree asked_of asked_at posts seats
asked_same c site past posts seats a i p s h k = sym (ap (λ (v : Course). ask_in v.session) (a.each i p s h k).are.kept_are.course_is)

told_same : (c : ToldCodecs) (site : SitePlan) (past : List Entry) (posts : List ToldPost) (seats : List Seat) → AreSeated c site past posts seats → Agree told_of told_at posts seats
told_same c site past posts seats a i p s h k = sym (ap (λ (v : Course). told_in v.session) (a.each i p s h k).are.kept_are.course_is)

spelled_same : (c : ToldCodecs) (site : SitePlan) (past : List Entry) (posts : List ToldPost) (seats : List Seat) → AreSeated c site past posts seats → Agree spelled_of spelled_at posts seats
spelled_same c site past posts seats a i p s h k = sym (a.each i p s h k).are.kept_are.spelled_is

pub others_of : (c : ToldCodecs) (site : SitePlan) (past : List Entry) (posts : List ToldPost) (seats : List Seat) (i : ℕ) → AreSeated c site past posts seats → i < length posts → AreOthers seats i (take i posts) (drop (suc i) posts)
others_of c site past posts seats i a less =
    let count = a.count in
    let before : length (take i posts) ≡ length (take i seats) = length-take-le i posts (omega (arith, less)) ∙ sym (length-take-le i seats (omega (arith, less, count))) in
    let next : suc i ≡ i + 1 = omega arith in
    let behind : length (drop (suc i) posts) ≡ length (drop (suc i) seats) = (let l = length-drop (suc i) posts in let m = length-drop (suc i) seats in omega (arith, l, m, count)) in
    let cut : drop (suc i) seats ≡ drop (i + 1) seats = ap (λ (n : ℕ). drop n seats) next in
    let asks = asked_same c site past posts seats a in
    let told = told_same c site past posts seats a in
    record {
      asks_before = same_maps asked_of asked_at (take i posts) (take i seats) before (agree_take asked_of asked_at i posts seats (omega (arith, less)) (omega (arith, less, count)) asks);
      asks_behind = same_maps asked_of asked_at (drop (suc i) posts) (drop (suc i) seats) behind (agree_drop asked_of asked_at (suc i) posts seats asks) ∙ ap (map asked_at) cut;
      told_before = same_sums told_of told_at (take i posts) (take i seats) before (agree_take told_of told_at i posts seats (omega (arith, less)) (omega (arith, less, count)) told);
      told_behind = same_sums told_of told_at (drop (suc i) posts) (drop (suc i) seats) behind (agree_drop told_of told_at (suc i) posts seats told) ∙ ap (sum_by told_at) cut;
    }

pub above_so : (c : ToldCodecs) (site : SitePlan) (past : List Entry) (e : Entry) (posts : List ToldPost) (seats : List Seat) (above : Bool) → PostsAreOne c → AreSeated c site (e ∷ past) posts seats
    → (IsTrue above ↔ ((site.limit < sum_by spelled_at seats) ⊎ (site.limit < sum_by told_at seats))) → (IsTrue above ↔ PassesLimit c site past e)
above_so c site past e posts seats above one a is =
    let spelled = same_sums spelled_of spelled_at posts seats (sym a.count) (spelled_same c site (e ∷ past) posts seats a) in
    let told = same_sums told_of told_at posts seats (sym a.count) (told_same c site (e ∷ past) posts seats a) in (
      λ t. record {
        posts = posts;
        are = a.posts_are;
        above = elim (is.0 t) [ inl more ↦ inl (subst (λ (n : ℕ). site.limit < n) (sym spelled) more) | inr more ↦ inr (subst (λ (n : ℕ). site.limit < n) (sym told) more) ];
      },
      λ f.
          let same : f.posts ≡ posts = one site (e ∷ past) f.posts posts f.are a.posts_are in
          is.1 (elim f.above [
            | inl more ↦ inl (subst (λ (n : ℕ). site.limit < n) (ap (sum_by spelled_of) same ∙ spelled) more)
            | inr more ↦ inr (subst (λ (n : ℕ). site.limit < n) (ap (sum_by told_of) same ∙ told) more)
          ]),
    )

-- ---- the watts that a word is shown

else_unit : (A : Type 0) (b : Bool) → (b ≡ true → ⊥) → MatchBool b A (Unit {0})
else_unit A true none = absurd (none refl)
else_unit A false none = tt

pub elsewhere : (c : ToldCodecs) (Share : ℕ → ℕ → Type 0) (plan : PostPlan) (k : ℕ) (steps : List ToldStep) (e : Entry) (shown : ℕ) → (acting e ≡ Some k → ⊥) → ShownAt c Share plan k steps e shown
elsewhere c Share plan k steps (entry.Heard heard bytes) shown none = tt
elsewhere c Share plan k steps entry.Lost shown none = tt
elsewhere c Share plan k steps (entry.Sent post bytes taken) shown none = else_unit (ShownFor c Share plan steps (Send bytes) shown) (post == k) (λ same. none (ap Some (eqb-true post k same)))
elsewhere c Share plan k steps (entry.Answered post bytes taken) shown none = tt
elsewhere c Share plan k steps (entry.Drove post given taken) shown none = else_unit (ShownFor c Share plan steps (Give given) shown) (post == k) (λ same. none (ap Some (eqb-true post k same)))
elsewhere c Share plan k steps (entry.Dialed port taken) shown none = tt
elsewhere c Share plan k steps (entry.Ended post cause) shown none = tt

some_same : (a b : ℕ) → Some a ≡ Some b → a ≡ b
some_same a b e = cc

shown_by : (c : ToldCodecs) (limit : ℕ) (posts : List ToldPost) (e : Entry) (shown k : ℕ) (b : Bool) (i : ℕ) (p : ToldPost) → (k == (i + 1)) ≡ b → acting e ≡ Some k → 1 ≤ k
    → ((p : ToldPost) → IsAt posts (k - 1) p → ShownAt c (Shows limit (take (k - 1) posts) (drop (suc (k - 1)) posts)) p.plan ((k - 1) + 1) p.steps e shown) → IsAt posts i p
    → ShownAt c (Shows limit (take i posts) (drop (suc i) posts)) p.plan (i + 1) p.steps e shown
shown_by c limit posts e shown k true i p here acts some own h =
    let is : k - 1 ≡ i = let same = eqb-true k (i + 1) here in omega (arith, same) in
    subst (λ (n : ℕ). ShownAt c (Shows limit (take n posts) (drop (suc n) posts)) p.plan (n + 1) p.steps e shown) is (own p (subst (λ (n : ℕ). IsAt posts n p) (sym is) h))
shown_by c limit posts e shown k false i p apart acts some own h =
    elsewhere c (Shows limit (take i posts) (drop (suc i) posts)) p.plan (i + 1) p.steps e shown (λ same. eqb-false k (i + 1) apart (some_same k (i + 1) (sym acts ∙ same)))

pub shown_each : (c : ToldCodecs) (limit : ℕ) (posts : List ToldPost) (e : Entry) (shown k : ℕ) → acting e ≡ Some k → 1 ≤ k
    → ((p : ToldPost) → IsAt posts (k - 1) p → ShownAt c (Shows limit (take (k - 1) posts) (drop (suc (k - 1)) posts)) p.plan ((k - 1) + 1) p.steps e shown) → ShownEach c limit posts e shown
shown_each c limit posts e shown k acts some own i p h = shown_by c limit posts e shown k (k == (i + 1)) i p refl acts some own h

pub none_shown : (c : ToldCodecs) (limit : ℕ) (posts : List ToldPost) (e : Entry) (shown : ℕ) → acting e ≡ None → ShownEach c limit posts e shown
none_shown c limit posts e shown acts i p h =
    elsewhere c (Shows limit (take i posts) (drop (suc i) posts)) p.plan (i + 1) p.steps e shown (λ same. let x : None ≡ Some (i + 1) = sym acts ∙ same in cc)

pub acting_post : (n k : ℕ) (e : Entry) → IsOf n e → acting e ≡ Some k → IsPost n k
acting_post n k (entry.Heard heard bytes) of is = absurd (let x : None ≡ Some k = is in cc)
acting_post n k entry.Lost of is = absurd (let x : None ≡ Some k = is in cc)
acting_post n k (entry.Sent post bytes taken) of is = subst (IsPost n) (some_same post k is) of
acting_post n k (entry.Answered post bytes taken) of is = subst (IsPost n) (some_same post k is) of
acting_post n k (entry.Drove post given taken) of is = subst (IsPost n) (some_same post k is) of
acting_post n k (entry.Dialed port taken) of is = absurd (let x : None ≡ Some k = is in cc)
acting_post n k (entry.Ended post cause) of is = subst (IsPost n) (some_same post k is) of
