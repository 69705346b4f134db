-- What was read for an act, off the word that was judged for it and the watts that were shown.
use Rattle.std.proofs.Common.{◌≡◌, ℕ, ◌==◌, Bool, true, false, List, Option, Some, None, refl, sym, ap, ◌∙◌}
use Rattle.std.specs.Prelude.{MatchBool}
use Rattle.charge_world.specs.declared.entry.Entry.{Entry}
use Rattle.charge_world.specs.declared.entry.Entry.TheVariants as entry
use Rattle.session_words.specs.declared.plan.PostPlan.{PostPlan}
use Rattle.post_spec.specs.Course.{Course, facts_of}
use Rattle.post_spec.specs.Steps.{Act, Reading, Give, Send}
use Rattle.told_pasts.specs.Course.{told_course}
use Rattle.told_pasts.specs.Reading.{IsReading}
use Rattle.told_pasts.specs.Spelling.{ToldCodecs}
use Rattle.told_pasts.specs.Steps.{ToldStep, seen_in}
use Rattle.audit_course.proofs.Shares.{shown_told}
use Rattle.audit_course.specs.Asking.{asked_by, IsShare}
use Rattle.audit_course.specs.Values.{judged_as, IsRead}
use Rattle.audit_course.specs.declared.words.NextWord.{NextWord}
use Rattle.audit_records.specs.Records.{JudgesWord}
use Rattle.audited_posts.specs.Posts.{JudgesAt, ShownFor, ShownAt}

-- ---- the watts that its word is shown

shown_for : (c : ToldCodecs) (Share : ℕ → ℕ → Type 0) (plan : PostPlan) (steps : List ToldStep) (act : Act) (w : Option NextWord) (v : Course) (found : Option ℕ) (shown : ℕ)
    → JudgesWord c plan steps act w → v ≡ told_course plan steps → found ≡ asked_by v.session (facts_of (seen_in steps) v) plan w → IsShare Share found shown
    → ShownFor c Share plan steps act shown
shown_for c Share plan steps act None v found shown j same is share = λ judged i. absurd (j judged i)
shown_for c Share plan steps act (Some word) v found shown j same is share = λ judged i.
    shown_told Share plan steps judged shown v found same
    (is ∙ ap (λ (x : NextWord). asked_by v.session (facts_of (seen_in steps) v) plan (Some x)) (j.word_is ∙ ap judged_as (sym (j.only judged i)))) share

both : (A B C : Type 0) (b : Bool) → (A → C) → MatchBool b A B → MatchBool b C (Unit {0})
both A B C true f m = f m
both A B C false f m = tt

pub shown_at : (c : ToldCodecs) (Share : ℕ → ℕ → Type 0) (plan : PostPlan) (k : ℕ) (steps : List ToldStep) (e : Entry) (w : Option NextWord) (v : Course) (found : Option ℕ) (shown : ℕ)
    → JudgesAt c plan k steps e w → v ≡ told_course plan steps → found ≡ asked_by v.session (facts_of (seen_in steps) v) plan w → IsShare Share found shown
    → ShownAt c Share plan k steps e shown
shown_at c Share plan k steps (entry.Heard heard bytes) w v found shown j same is share = tt
shown_at c Share plan k steps entry.Lost w v found shown j same is share = tt
shown_at c Share plan k steps (entry.Sent post bytes taken) w v found shown j same is share =
    both (JudgesWord c plan steps (Send bytes) w) (w ≡ None) (ShownFor c Share plan steps (Send bytes) shown) (post == k)
    (λ own. shown_for c Share plan steps (Send bytes) w v found shown own same is share) j
shown_at c Share plan k steps (entry.Answered post bytes taken) w v found shown j same is share = tt
shown_at c Share plan k steps (entry.Drove post given taken) w v found shown j same is share =
    both (JudgesWord c plan steps (Give given) w) (w ≡ None) (ShownFor c Share plan steps (Give given) shown) (post == k)
    (λ own. shown_for c Share plan steps (Give given) w v found shown own same is share) j
shown_at c Share plan k steps (entry.Dialed port taken) w v found shown j same is share = tt
shown_at c Share plan k steps (entry.Ended post cause) w v found shown j same is share = tt

-- ---- what was read

pub record IsReadSo (c : ToldCodecs) (Share : ℕ → ℕ → Type 0) (plan : PostPlan) (steps : List ToldStep) (act : Act) (w : Option NextWord) (shown : ℕ) : Type 0 where
  pub reading : Option Reading
  pub read : IsRead w shown reading
  pub is : IsReading c Share plan steps act reading

pub read_so : (c : ToldCodecs) (Share : ℕ → ℕ → Type 0) (plan : PostPlan) (steps : List ToldStep) (act : Act) (w : Option NextWord) (shown : ℕ)
    → JudgesWord c plan steps act w → ShownFor c Share plan steps act shown → IsReadSo c Share plan steps act w shown
read_so c Share plan steps act None shown j s = record { reading = None; read = tt; is = j }
read_so c Share plan steps act (Some word) shown j s =
    record { reading = Some (record { judged = j.judged; shown = shown }); read = (j.word_is, refl); is = (j.is, s j.judged j.is) }
