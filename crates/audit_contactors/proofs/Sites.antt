-- Which posts the checks are about.
use Rattle.std.proofs.Common.{◌≡◌, ◌⊎◌, inl, inr, ◌↔◌, ℕ, zero, suc, ◌+◌, ◌-◌, ◌==◌, ◌<◌, ◌≤◌, Bool, true, false, List, [], ◌∷◌, length, get_or, set, Option, Some, None, refl, sym, ap, subst, ◌∙◌, arith, eq-eqb}
use Rattle.std.specs.Prelude.{not, ◌&&◌, ◌||◌, nat_le, IsTrue}
use Rattle.std.specs.List.{AllByRecursion, list_any}
use Rattle.std.proofs.lemmas.Bool.{and_parts, eqb-true, eqb-false, ne_eqb, le-leb, leb-true, leb-false}
use Rattle.std.proofs.lemmas.List.{get_or-set_same, get_or-set_other}
use Rattle.std.proofs.lemmas.List.Folds.{list_any_at}
use Rattle.charge_world.specs.Outside.{IsPost, IsOfPosts}
use Rattle.charge_world.specs.declared.entry.Entry.{Entry}
use Rattle.charge_world.specs.declared.entry.Entry.TheVariants as entry
use Rattle.charge_world.specs.declared.heard.What.{What}
use Rattle.charge_world.specs.declared.heard.What.TheVariants as what
use Rattle.session_words.specs.declared.phase.Standing.{Standing}
use Rattle.session_words.specs.declared.phase.Standing.TheVariants.{Opened, Closing, Closed, MustOpen, Opening}
use Rattle.contactor.specs.Standing as contactor
use Rattle.post_spec.specs.Contactors.{contactor_acts, with_feedback, feedback_in, standing, live}
use Rattle.post_spec.specs.Facts.{told_by}
use Rattle.post_spec.specs.Steps.{Seen, event_at, seen}
use Rattle.trace_reading.specs.Readings.{IsOf}
use Rattle.told_pasts.specs.Checks.{is_heard, is_act_of, opens, in_block, before_block, ends_opened, EndsBlock, ForgetsOpen, EndsLive}
use Rattle.audit_contactors.specs.declared.values.ContactorValues.{ContactorValues}
use Rattle.audit_contactors.specs.declared.site.Contactors.{Contactors}
use Rattle.audit_contactors.specs.Changes.{at_first, behind}
use Rattle.audit_contactors.specs.Values.{Keeps, AreOf}
use Rattle.audit_contactors.proofs.Steps.{told}
use Rattle.audit_contactors.specs.Site.{at, AreAllOf, acting, has_failed, is_forgotten, is_left, forgets_by}

differ : false ≡ true → ⊥
differ h = cc

-- ---- posts that no entry names

another : (post k : ℕ) → IsPost 8 post → (IsPost 8 k → ⊥) → (post == k) ≡ false
another post k is none = ne_eqb post k (λ same. none (subst (IsPost 8) same is))

quiet : (k : ℕ) (what : What) (bytes : List ℕ) → (IsPost 8 k → ⊥) → IsOfPosts 8 what → told_by feedback_in (event_at k what bytes) ≡ None
quiet k (what.Came post token) bytes none of = rw (another post k of none) refl
quiet k (what.Bytes post n) bytes none of = rw (another post k of none) refl
quiet k (what.Gone post) bytes none of = rw (another post k of none) refl
quiet k (what.Datagram post n) bytes none of = rw (another post k of none) refl
quiet k (what.Plant post event) bytes none of = rw (another post k of none) refl
quiet k what.Tick bytes none of = refl
quiet k what.Over bytes none of = refl

no_acts : (k : ℕ) (past : List Entry) → (IsPost 8 k → ⊥) → AllByRecursion (IsOf 8) past → contactor_acts (seen k past) ≡ []
no_acts k [] none of = refl
no_acts k (entry.Heard heard bytes ∷ past) none of = rw (quiet k heard.what bytes none of.0) (no_acts k past none of.1)
no_acts k (entry.Lost ∷ past) none of = no_acts k past none of.1
no_acts k (entry.Sent post bytes taken ∷ past) none of = rw (another post k of.0 none) (no_acts k past none of.1)
no_acts k (entry.Answered post bytes taken ∷ past) none of = rw (another post k of.0 none) (no_acts k past none of.1)
no_acts k (entry.Drove post given taken ∷ past) none of = rw (another post k of.0 none) (no_acts k past none of.1)
no_acts k (entry.Dialed port taken ∷ past) none of = no_acts k past none of.1
no_acts k (entry.Ended post cause ∷ past) none of = rw (another post k of.0 none) (no_acts k past none of.1)

all_before : (past : List Entry) → AllByRecursion (IsOf 8) past → AllByRecursion (IsOf 8) (before_block past)
all_before [] of = tt
all_before (entry.Heard heard bytes ∷ past) of = of.1
all_before (entry.Lost ∷ past) of = all_before past of.1
all_before (entry.Sent post bytes taken ∷ past) of = all_before past of.1
all_before (entry.Answered post bytes taken ∷ past) of = all_before past of.1
all_before (entry.Drove post given taken ∷ past) of = all_before past of.1
all_before (entry.Dialed port taken ∷ past) of = all_before past of.1
all_before (entry.Ended post cause ∷ past) of = all_before past of.1

opened_is_none : Opened ≡ MustOpen → ⊥
opened_is_none h = cc

-- a post that isn't one stands open
must_be_post : (k : ℕ) (past : List Entry) → AllByRecursion (IsOf 8) past → standing (seen k (before_block past)) ≡ MustOpen → (IsPost 8 k → ⊥) → ⊥
must_be_post k past of failed none =
    opened_is_none (sym (ap contactor.standing_of (no_acts k (before_block past) none (all_before past of))) ∙ failed)

live_is_post : (k : ℕ) (past : List Entry) → AllByRecursion (IsOf 8) past → live (seen k past) ≡ true → (IsPost 8 k → ⊥) → ⊥
live_is_post k past of is none = differ (sym (ap contactor.is_live (no_acts k past none of)) ∙ is)

-- which it is can be told
below : (b : Bool) (i : ℕ) → nat_le (suc i) 8 ≡ b → IsPost 8 (suc i) ⊎ (IsPost 8 (suc i) → ⊥)
below true i is = inl (omega arith, leb-true (suc i) 8 is)
below false i is = inr (λ post. omega (arith, leb-false (suc i) 8 is, post.1))

told_post : (k : ℕ) → IsPost 8 k ⊎ (IsPost 8 k → ⊥)
told_post zero = inr (λ is. omega (arith, is.0))
told_post (suc i) = below (nat_le (suc i) 8) i refl

pub posts_from : (k : ℕ) → IsPost 8 k → (i : ℕ) × (i < 8) × (k ≡ suc i)
posts_from zero is = absurd (omega (arith, is.0))
posts_from (suc i) is = (i, omega (arith, is.1), refl)

-- ---- off the values

untrue : (b : Bool) → not b ≡ true → b ≡ false
untrue true is = cc
untrue false is = refl

failed : (s : Standing) → has_failed s ≡ true → s ≡ MustOpen
failed Opened is = cc
failed Closing is = cc
failed Closed is = cc
failed MustOpen is = refl
failed Opening is = cc

forgotten : (v : ContactorValues) (now before : List Seen) (acted ends : Bool) → Keeps now before acted ends v → is_forgotten v ≡ true → (acted ≡ false) × (standing before ≡ MustOpen)
forgotten v now before acted ends h is =
    let parts = and_parts (not v.acted) (has_failed v.stood) is in
    (sym h.acted_is ∙ untrue v.acted parts.0, sym h.stood_is ∙ failed v.stood parts.1)

forgotten_back : (v : ContactorValues) (now before : List Seen) (acted ends : Bool) → Keeps now before acted ends v → acted ≡ false → standing before ≡ MustOpen → is_forgotten v ≡ true
forgotten_back v now before acted ends h none is = rw (h.acted_is ∙ none, h.stood_is ∙ is) refl

left : (v : ContactorValues) (now before : List Seen) (acted ends : Bool) → Keeps now before acted ends v → is_left v ≡ true → (live now ≡ true) × (ends ≡ false)
left v now before acted ends h is =
    let parts = and_parts v.live (not v.ends_opened) is in
    (sym h.live_is ∙ parts.0, sym h.ends_is ∙ untrue v.ends_opened parts.1)

left_back : (v : ContactorValues) (now before : List Seen) (acted ends : Bool) → Keeps now before acted ends v → live now ≡ true → ends ≡ false → is_left v ≡ true
left_back v now before acted ends h is none = rw (h.live_is ∙ is, h.ends_is ∙ none) refl

-- the place of one that passes a test
abbrev pub Passes : (ContactorValues → Bool) → List ContactorValues → Type 0
Passes p posts = (i : ℕ) × (i < length posts) × (p (at posts i) ≡ true)

passes_in : (p : ContactorValues → Bool) (first : Bool) (v : ContactorValues) (posts : List ContactorValues) → p v ≡ first → (first || list_any p posts) ≡ true
    → (list_any p posts ≡ true → Passes p posts) → Passes p (v ∷ posts)
passes_in p true v posts here is later = (0, omega arith, here)
passes_in p false v posts here is later =
    let found = later is in
    (suc found.0, omega (arith, found.1), found.2)

place_of : (p : ContactorValues → Bool) (posts : List ContactorValues) → list_any p posts ≡ true → Passes p posts
place_of p [] is = absurd (differ is)
place_of p (v ∷ posts) is = passes_in p (p v) v posts refl is (place_of p posts)

-- ---- the fourth check

same_number : (k : ℕ) → (k == k) ≡ true
same_number k = eq-eqb k k refl

acts_for : (e : Entry) (post : ℕ) → acting e ≡ Some post → is_act_of post e ≡ true
acts_for (entry.Heard heard bytes) post is = cc
acts_for entry.Lost post is = cc
acts_for (entry.Sent k bytes taken) post is = let same : k ≡ post = cc in rw same (same_number post)
acts_for (entry.Answered k bytes taken) post is = let same : k ≡ post = cc in rw same (same_number post)
acts_for (entry.Drove k given taken) post is = let same : k ≡ post = cc in rw same (same_number post)
acts_for (entry.Dialed port taken) post is = cc
acts_for (entry.Ended k cause) post is = let same : k ≡ post = cc in rw same (same_number post)

-- an act of post k names it
acts_as : (e : Entry) (k : ℕ) → is_act_of k e ≡ true → acting e ≡ Some k
acts_as (entry.Heard heard bytes) k is = absurd (differ is)
acts_as entry.Lost k is = absurd (differ is)
acts_as (entry.Sent post bytes taken) k is = ap Some (eqb-true post k is)
acts_as (entry.Answered post bytes taken) k is = ap Some (eqb-true post k is)
acts_as (entry.Drove post given taken) k is = ap Some (eqb-true post k is)
acts_as (entry.Dialed port taken) k is = absurd (differ is)
acts_as (entry.Ended post cause) k is = ap Some (eqb-true post k is)

acts_at : (e : Entry) (post : ℕ) → IsOf 8 e → acting e ≡ Some post → IsPost 8 post
acts_at (entry.Heard heard bytes) post of is = cc
acts_at entry.Lost post of is = cc
acts_at (entry.Sent k bytes taken) post of is = let same : k ≡ post = cc in subst (IsPost 8) same of
acts_at (entry.Answered k bytes taken) post of is = let same : k ≡ post = cc in subst (IsPost 8) same of
acts_at (entry.Drove k given taken) post of is = let same : k ≡ post = cc in subst (IsPost 8) same of
acts_at (entry.Dialed port taken) post of is = cc
acts_at (entry.Ended k cause) post of is = let same : k ≡ post = cc in subst (IsPost 8) same of

-- the values of post k
of_post : (k : ℕ) (past : List Entry) (s : Contactors) → IsPost 8 k → AreAllOf past s → AreOf k past (at s.posts (k - 1))
of_post k past s post all =
    let place = posts_from k post in
    let number : k - 1 ≡ place.0 = omega (arith, place.2) in
    subst (λ (n : ℕ). AreOf n past (at s.posts (k - 1))) (sym place.2) (subst (λ (i : ℕ). AreOf (suc place.0) past (at s.posts i)) (sym number) (all.each place.0 place.1))

forgets_here : (o : Option ℕ) (s : Contactors) (e : Entry) (earlier behind : List Entry) → acting e ≡ o → IsOf 8 e → AreAllOf earlier s → forgets_by o s e ≡ true
    → ForgetsOpen earlier e behind
forgets_here None s e earlier behind acts of all is = absurd (differ is)
forgets_here (Some post) s e earlier behind acts of all is =
    let outer = and_parts (s.begun && not (opens e)) (is_forgotten (at s.posts (post - 1))) is in
    let inner = and_parts s.begun (not (opens e)) outer.0 in
    let values = of_post post earlier s (acts_at e post of acts) all in
    let stood = forgotten (at s.posts (post - 1)) _ _ _ _ values outer.1 in
    record {
      k = post;
      forgets = inl (acts_for e post acts, untrue (opens e) inner.1, sym all.begun ∙ inner.0, stood.0, stood.1);
    }

forgets_behind : (later : Contactors) (e : Entry) (earlier behind : List Entry) → AreAllOf (e ∷ earlier) later → EndsBlock behind (e ∷ earlier)
    → list_any is_forgotten later.posts ≡ true → ForgetsOpen earlier e behind
forgets_behind later e earlier behind all ends is =
    let place = place_of is_forgotten later.posts is in
    let values = all.each place.0 (omega (arith, place.1, all.eight)) in
    let stood = forgotten (at later.posts place.0) _ _ _ _ values place.2 in
    record { k = suc place.0; forgets = inr (ends, stood.0, stood.1) }

by_or : (a b : Bool) → (a || b) ≡ true → (a ≡ true) ⊎ (b ≡ true)
by_or true b is = inl refl
by_or false b is = inr is

or_first : (a b : Bool) → a ≡ true → (a || b) ≡ true
or_first true b is = refl
or_first false b is = cc

or_second : (a b : Bool) → b ≡ true → (a || b) ≡ true
or_second true b is = refl
or_second false b is = is

and_both : (a b : Bool) → a ≡ true → b ≡ true → (a && b) ≡ true
and_both true b h k = k
and_both false b h k = cc

pub forgets_told : (s later : Contactors) (e : Entry) (ends : Bool) (earlier behind : List Entry) → IsOf 8 e → AreAllOf earlier s → AreAllOf (e ∷ earlier) later
    → (IsTrue ends → EndsBlock behind (e ∷ earlier)) → IsTrue (forgets_by (acting e) s e || ends && list_any is_forgotten later.posts) → ForgetsOpen earlier e behind
forgets_told s later e ends earlier behind of all all_later ended is =
    elim (by_or (forgets_by (acting e) s e) (ends && list_any is_forgotten later.posts) is) [
      | inl here ↦ forgets_here (acting e) s e earlier behind refl of all here
      | inr there ↦ (let parts = and_parts ends (list_any is_forgotten later.posts) there in
          forgets_behind later e earlier behind all_later (ended parts.0) parts.1)
    ]

forgets_act : (k : ℕ) (s : Contactors) (e : Entry) (earlier : List Entry) → IsOf 8 e → AreAllOf earlier s → is_act_of k e ≡ true → opens e ≡ false → list_any is_heard earlier ≡ true
    → list_any (is_act_of k) (in_block earlier) ≡ false → standing (seen k (before_block earlier)) ≡ MustOpen → forgets_by (acting e) s e ≡ true
forgets_act k s e earlier of all acts closed begun none failed =
    let named = acts_as e k acts in
    let values = of_post k earlier s (acts_at e k of named) all in
    let last = forgotten_back (at s.posts (k - 1)) _ _ _ _ values none failed in
    rw (named, all.begun, begun, closed) last

forgets_end : (k : ℕ) (later : Contactors) (e : Entry) (earlier : List Entry) → AreAllOf (e ∷ earlier) later
    → list_any (is_act_of k) (in_block (e ∷ earlier)) ≡ false → standing (seen k (before_block (e ∷ earlier))) ≡ MustOpen → list_any is_forgotten later.posts ≡ true
forgets_end k later e earlier all none failed =
    elim (told_post k) [
      | inl post ↦ (let place = posts_from k post in
          let values = of_post k (e ∷ earlier) later post all in
          let number : k - 1 < length later.posts = omega (arith, place.1, place.2, all.eight) in
          list_any_at is_forgotten later.posts (k - 1) at_first number (forgotten_back (at later.posts (k - 1)) _ _ _ _ values none failed))
      | inr no_post ↦ absurd (must_be_post k (e ∷ earlier) all.of failed no_post)
    ]

pub forgets_back : (s later : Contactors) (e : Entry) (ends : Bool) (earlier behind : List Entry) → IsOf 8 e → AreAllOf earlier s → AreAllOf (e ∷ earlier) later
    → (EndsBlock behind (e ∷ earlier) → IsTrue ends) → ForgetsOpen earlier e behind → IsTrue (forgets_by (acting e) s e || ends && list_any is_forgotten later.posts)
forgets_back s later e ends earlier behind of all all_later ended f =
    elim f.forgets [
      | inl (acts, closed, begun, none, failed) ↦ or_first (forgets_by (acting e) s e) _ (forgets_act f.k s e earlier of all acts closed begun none failed)
      | inr (ends_here, none, failed) ↦ or_second (forgets_by (acting e) s e) _
          (and_both ends (list_any is_forgotten later.posts) (ended ends_here) (forgets_end f.k later e earlier all_later none failed))
    ]

-- by the tests in their order
pub by_first : (a x r : Bool) → a ≡ true → r ≡ true → r ≡ (a || x)
by_first a x r h is = rw h is

pub by_second : (a b x r : Bool) → a ≡ false → b ≡ true → r ≡ x → r ≡ (a || b && x)
by_second a b x r h k is = rw (h, k) is

pub by_neither : (a b x : Bool) → a ≡ false → b ≡ false → b ≡ (a || b && x)
by_neither a b x h k = rw (h, k) refl

pub decided : (s later : Contactors) (e : Entry) (ends r : Bool) (earlier behind : List Entry) → IsOf 8 e → r ≡ (forgets_by (acting e) s e || ends && list_any is_forgotten later.posts)
    → AreAllOf earlier s → AreAllOf (e ∷ earlier) later → (IsTrue ends ↔ EndsBlock behind (e ∷ earlier)) → (IsTrue r ↔ ForgetsOpen earlier e behind)
decided s later e ends r earlier behind of is all all_later ended = (
  λ h. forgets_told s later e ends earlier behind of all all_later ended.0 (sym is ∙ h),
  λ f. is ∙ forgets_back s later e ends earlier behind of all all_later ended.1 f,
)

-- ---- the eighth check

pub left_told : (s : Contactors) (e : Entry) (earlier : List Entry) → AreAllOf (e ∷ earlier) s → IsTrue (list_any is_left s.posts) → EndsLive earlier e []
left_told s e earlier all is =
    let place = place_of is_left s.posts is in
    let values = all.each place.0 (omega (arith, place.1, all.eight)) in
    let told = left (at s.posts place.0) _ _ _ _ values place.2 in
    record { newest = refl; k = suc place.0; live_is = told.0; left = told.1 }

pub left_given : (s : Contactors) (e : Entry) (earlier : List Entry) → AreAllOf (e ∷ earlier) s → EndsLive earlier e [] → IsTrue (list_any is_left s.posts)
left_given s e earlier all f =
    elim (told_post f.k) [
      | inl post ↦ (let place = posts_from f.k post in
          let values = of_post f.k (e ∷ earlier) s post all in
          let number : f.k - 1 < length s.posts = omega (arith, place.1, place.2, all.eight) in
          list_any_at is_left s.posts (f.k - 1) at_first number (left_back (at s.posts (f.k - 1)) _ _ _ _ values f.live_is f.left))
      | inr no_post ↦ absurd (live_is_post f.k (e ∷ earlier) all.of f.live_is no_post)
    ]

-- ---- one entry more

pub all_more : (past : List Entry) (e : Entry) (s later : Contactors) → IsOf 8 e → AreAllOf past s → length later.posts ≡ 8 → ((i : ℕ) → i < 8 → at later.posts i ≡ behind (suc i) e (at s.posts i))
    → later.begun ≡ (is_heard e || s.begun) → AreAllOf (e ∷ past) later
all_more past e s later of all eight each begun = record {
  eight = eight;
  each = λ i within. subst (AreOf (suc i) (e ∷ past)) (sym (each i within)) (told (suc i) e past (at s.posts i) (all.each i within));
  begun = begun ∙ ap (λ (b : Bool). is_heard e || b) all.begun;
  of = (of, all.of);
}

-- ---- before any entry

pub none_yet : (k : ℕ) → AreOf k [] at_first
none_yet k = record { stands = refl; live_is = refl; closed_is = refl; in_vain = refl; stood_is = refl; acted_is = refl; ends_is = refl }

-- ---- one post more

stepped : (same : Bool) (n i : ℕ) (e : Entry) (olds posts : List ContactorValues) (new : ContactorValues) → (n == i) ≡ same → n < length posts → i < n + 1
    → new ≡ behind (suc n) e (at olds n) → (i < n → at posts i ≡ behind (suc i) e (at olds i)) → at (set posts n new) i ≡ behind (suc i) e (at olds i)
stepped true n i e olds posts new is within less now before =
    let same : n ≡ i = eqb-true n i is in
    subst (λ (k : ℕ). at (set posts n new) k ≡ behind (suc k) e (at olds k)) same (get_or-set_same posts n new at_first within ∙ now)
stepped false n i e olds posts new is within less now before =
    let other : i ≡ n → ⊥ = λ same. eqb-false n i is (sym same) in
    get_or-set_other posts n i new at_first other ∙ before (omega (arith, less, other))

pub one_done : (n : ℕ) (e : Entry) (olds posts : List ContactorValues) (new : ContactorValues) → n < length posts → new ≡ behind (suc n) e (at olds n)
    → ((i : ℕ) → i < n → at posts i ≡ behind (suc i) e (at olds i)) → (i : ℕ) → i < n + 1 → at (set posts n new) i ≡ behind (suc i) e (at olds i)
one_done n e olds posts new within now before i less = stepped (n == i) n i e olds posts new refl within less now (before i)

pub one_left : (n : ℕ) (olds posts : List ContactorValues) (new : ContactorValues) → ((i : ℕ) → n ≤ i → at posts i ≡ at olds i)
    → (i : ℕ) → n + 1 ≤ i → at (set posts n new) i ≡ at olds i
one_left n olds posts new before i more =
    let other : i ≡ n → ⊥ = λ same. omega (arith, same, more) in
    get_or-set_other posts n i new at_first other ∙ before i (omega (arith, more))

same_default : (xs : List ContactorValues) (i : ℕ) (c d : ContactorValues) → i < length xs → get_or xs i c ≡ get_or xs i d
same_default [] i c d within = absurd (omega arith)
same_default (x ∷ xs) zero c d within = refl
same_default (x ∷ xs) (suc i) c d within = same_default xs i c d (omega arith)

pub now_one : (n : ℕ) (e : Entry) (olds posts : List ContactorValues) (new d : ContactorValues) → n < length posts → new ≡ behind (n + 1) e (get_or posts n d) → at posts n ≡ at olds n
    → new ≡ behind (suc n) e (at olds n)
now_one n e olds posts new d within is same =
    is ∙ ap (λ (v : ContactorValues). behind (n + 1) e v) (same_default posts n d at_first within ∙ same) ∙ ap (λ (m : ℕ). behind m e (at olds n)) (omega arith)
