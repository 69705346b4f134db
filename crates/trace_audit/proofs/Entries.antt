-- Posts that no entry names.
use Rattle.std.proofs.Common.{◌≡◌, ◌⊎◌, inl, inr, ℕ, zero, suc, ◌==◌, Bool, true, false, List, [], ◌∷◌, None, refl, sym, ap, subst, ◌∙◌, arith}
use Rattle.std.specs.Prelude.{nat_le, if◌then◌else◌}
use Rattle.std.specs.List.{AllByRecursion, list_any}
use Rattle.std.proofs.lemmas.Bool.{ne_eqb, eqb-true, leb-true, leb-false}
use Rattle.charge_world.specs.Outside.{IsPost, IsOfPosts}
use Rattle.charge_world.specs.declared.entry.Entry.{Entry}
use Rattle.charge_world.specs.declared.entry.Entry.TheVariants as entry
use Rattle.charge_world.specs.declared.heard.What.{What}
use Rattle.charge_world.specs.declared.heard.What.TheVariants as what
use Rattle.session_words.specs.declared.phase.Standing.TheVariants.{Opened, MustOpen}
use Rattle.contactor.specs.Standing as contactor
use Rattle.post_spec.specs.Contactors.{contactor_acts, feedback_in, standing, live}
use Rattle.post_spec.specs.Facts.{told_by}
use Rattle.post_spec.specs.Sessions.{session, with_act}
use Rattle.post_spec.specs.Steps.{Act, Give, Send, Answer, End, Seen, Did, event_at, seen}
use Rattle.trace_reading.specs.Readings.{IsOf}
use Rattle.told_pasts.specs.Checks.{is_heard, is_act_of, before_block}

differ : false ≡ true → ⊥
differ h = cc

-- ---- they stand open

another : (n post k : ℕ) → IsPost n post → (IsPost n k → ⊥) → (post == k) ≡ false
another n post k is none = ne_eqb post k (λ same. none (subst (IsPost n) same is))

quiet : (n k : ℕ) (what : What) (bytes : List ℕ) → (IsPost n k → ⊥) → IsOfPosts n what → told_by feedback_in (event_at k what bytes) ≡ None
quiet n k (what.Came post token) bytes none of = rw (another n post k of none) refl
quiet n k (what.Bytes post m) bytes none of = rw (another n post k of none) refl
quiet n k (what.Gone post) bytes none of = rw (another n post k of none) refl
quiet n k (what.Datagram post m) bytes none of = rw (another n post k of none) refl
quiet n k (what.Plant post event) bytes none of = rw (another n post k of none) refl
quiet n k what.Tick bytes none of = refl
quiet n k what.Over bytes none of = refl

no_acts : (n k : ℕ) (past : List Entry) → (IsPost n k → ⊥) → AllByRecursion (IsOf n) past → contactor_acts (seen k past) ≡ []
no_acts n k [] none of = refl
no_acts n k (entry.Heard heard bytes ∷ past) none of = rw (quiet n k heard.what bytes none of.0) (no_acts n k past none of.1)
no_acts n k (entry.Lost ∷ past) none of = no_acts n k past none of.1
no_acts n k (entry.Sent post bytes taken ∷ past) none of = rw (another n post k of.0 none) (no_acts n k past none of.1)
no_acts n k (entry.Answered post bytes taken ∷ past) none of = rw (another n post k of.0 none) (no_acts n k past none of.1)
no_acts n k (entry.Drove post given taken ∷ past) none of = rw (another n post k of.0 none) (no_acts n k past none of.1)
no_acts n k (entry.Dialed port taken ∷ past) none of = no_acts n k past none of.1
no_acts n k (entry.Ended post cause ∷ past) none of = rw (another n post k of.0 none) (no_acts n k past none of.1)

all_before : (n : ℕ) (past : List Entry) → AllByRecursion (IsOf n) past → AllByRecursion (IsOf n) (before_block past)
all_before n [] of = tt
all_before n (entry.Heard heard bytes ∷ past) of = of.1
all_before n (entry.Lost ∷ past) of = all_before n past of.1
all_before n (entry.Sent post bytes taken ∷ past) of = all_before n past of.1
all_before n (entry.Answered post bytes taken ∷ past) of = all_before n past of.1
all_before n (entry.Drove post given taken ∷ past) of = all_before n past of.1
all_before n (entry.Dialed port taken ∷ past) of = all_before n past of.1
all_before n (entry.Ended post cause ∷ past) of = all_before n past of.1

opened_is_none : Opened ≡ MustOpen → ⊥
opened_is_none h = cc

-- which it is can be told
below : (n : ℕ) (b : Bool) (i : ℕ) → nat_le (suc i) n ≡ b → IsPost n (suc i) ⊎ (IsPost n (suc i) → ⊥)
below n true i is = inl (omega arith, leb-true (suc i) n is)
below n false i is = inr (λ post. omega (arith, leb-false (suc i) n is, post.1))

told_post : (n k : ℕ) → IsPost n k ⊎ (IsPost n k → ⊥)
told_post n zero = inr (λ is. omega (arith, is.0))
told_post n (suc i) = below n (nat_le (suc i) n) i refl

by_told : (P : Type 0) → P ⊎ (P → ⊥) → ((P → ⊥) → ⊥) → P
by_told P (inl p) h = p
by_told P (inr isnt) h = absurd (h isnt)

pub must_be_post : (n k : ℕ) (past : List Entry) → AllByRecursion (IsOf n) past → standing (seen k (before_block past)) ≡ MustOpen → IsPost n k
must_be_post n k past of failed = by_told (IsPost n k) (told_post n k) (λ none.
    opened_is_none (sym (ap contactor.standing_of (no_acts n k (before_block past) none (all_before n past of))) ∙ failed))

pub live_is_post : (n k : ℕ) (past : List Entry) → AllByRecursion (IsOf n) past → live (seen k past) ≡ true → IsPost n k
live_is_post n k past of is = by_told (IsPost n k) (told_post n k) (λ none. differ (sym (ap contactor.is_live (no_acts n k past none of)) ∙ is))

pub act_is_post : (n k : ℕ) (e : Entry) → IsOf n e → is_act_of k e ≡ true → IsPost n k
act_is_post n k (entry.Heard heard bytes) of is = absurd (differ is)
act_is_post n k entry.Lost of is = absurd (differ is)
act_is_post n k (entry.Sent post bytes taken) of is = subst (IsPost n) (eqb-true post k is) of
act_is_post n k (entry.Answered post bytes taken) of is = subst (IsPost n) (eqb-true post k is) of
act_is_post n k (entry.Drove post given taken) of is = subst (IsPost n) (eqb-true post k is) of
act_is_post n k (entry.Dialed port taken) of is = absurd (differ is)
act_is_post n k (entry.Ended post cause) of is = subst (IsPost n) (eqb-true post k is) of

-- ---- before anything is heard there is no session

none_with : (act : Act) (taken : Bool) → with_act act taken None ≡ None
none_with (Give order) taken = refl
none_with (Send bytes) taken = refl
none_with (Answer bytes) taken = refl
none_with (End cause) taken = refl

none_if : (b : Bool) (act : Act) (taken : Bool) (xs : List Seen) → session xs ≡ None → session (if b then Did act taken ∷ xs else xs) ≡ None
none_if true act taken xs is = ap (with_act act taken) is ∙ none_with act taken
none_if false act taken xs is = is

pub no_session : (k : ℕ) (past : List Entry) → list_any is_heard past ≡ false → session (seen k past) ≡ None
no_session k [] none = refl
no_session k (entry.Heard heard bytes ∷ past) none = absurd (differ (sym none))
no_session k (entry.Lost ∷ past) none = no_session k past none
no_session k (entry.Sent post bytes taken ∷ past) none = none_if (post == k) (Send bytes) taken (seen k past) (no_session k past none)
no_session k (entry.Answered post bytes taken ∷ past) none = none_if (post == k) (Answer bytes) taken (seen k past) (no_session k past none)
no_session k (entry.Drove post given taken ∷ past) none = none_if (post == k) (Give given) taken (seen k past) (no_session k past none)
no_session k (entry.Dialed port taken ∷ past) none = no_session k past none
no_session k (entry.Ended post cause ∷ past) none = none_if (post == k) (End cause) true (seen k past) (no_session k past none)
