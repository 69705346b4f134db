-- The third check off the values.
use Rattle.std.proofs.Common.{◌≡◌, ◌⊎◌, inl, inr, ◌↔◌, ℕ, ◌==◌, Bool, true, false, List, [], ◌∷◌, ◌++◌, refl, sym, ap, subst, ◌∙◌, eq-eqb}
use Rattle.std.specs.Prelude.{not, ◌&&◌, IsTrue}
use Rattle.std.specs.List.{list_all}
use Rattle.std.proofs.lemmas.Bool.{and_parts, eqb-true}
use Rattle.charge_world.specs.declared.entry.Entry.{Entry}
use Rattle.charge_world.specs.declared.entry.Entry.TheVariants as entry
use Rattle.charge_world.specs.declared.ports.Order.TheVariants as order
use Rattle.session_words.specs.declared.plan.PostPlan.{PostPlan}
use Rattle.session_words.specs.declared.plan.SitePlan.{SitePlan}
use Rattle.told_pasts.specs.Causes.{OwesOpen}
use Rattle.told_pasts.specs.Checks.{opens, IsNewest, AnswersOrHears, OwesAt, OpensAlone}
use Rattle.told_pasts.specs.Site.{ToldPost}
use Rattle.told_pasts.specs.Spelling.{ToldCodecs}
use Rattle.told_pasts.specs.Steps.{ToldStep}
use Rattle.audit_causes.specs.declared.values.CauseValues.{CauseValues}
use Rattle.audit_causes.specs.Values.{AreOf, IsOnly, Passes, answers_or_hears, fails_or, opens_alone, passes_by}
use Rattle.audit_causes.proofs.Steps.{differ, by_or, or_first, or_second, and_both, not_true, true_not}

-- ---- orders to open alone

untrue : (b : Bool) → not b ≡ true → b ≡ false
untrue true is = cc
untrue false is = refl

opened_by : (post k : ℕ) (taken : Bool) (past : List Entry) → (opens_alone k past ≡ true → OpensAlone k past) → (((post == k) && not taken) ≡ true) ⊎ (opens_alone k past ≡ true)
    → OpensAlone k (entry.Drove post order.Open taken ∷ past)
opened_by post k taken past earlier (inl now) =
    let parts = and_parts (post == k) (not taken) now in
    let post_is : post ≡ k = eqb-true post k parts.0 in
    let failed : taken ≡ false = untrue taken parts.1 in
    record {
      since = [];
      earlier = past;
      past_is = ap (λ (n : ℕ). entry.Drove n order.Open taken ∷ past) post_is ∙ ap (λ (b : Bool). entry.Drove k order.Open b ∷ past) failed;
      alone = refl;
    }
opened_by post k taken past earlier (inr before) =
    let o = earlier before in
    record { since = entry.Drove post order.Open taken ∷ o.since; earlier = o.earlier; past_is = ap (λ (t : List Entry). entry.Drove post order.Open taken ∷ t) o.past_is; alone = o.alone }

alone_told : (k : ℕ) (past : List Entry) → opens_alone k past ≡ true → OpensAlone k past
alone_told k [] is = absurd (differ is)
alone_told k (entry.Heard heard bytes ∷ past) is = absurd (differ is)
alone_told k (entry.Lost ∷ past) is = absurd (differ is)
alone_told k (entry.Sent post bytes taken ∷ past) is = absurd (differ is)
alone_told k (entry.Answered post bytes taken ∷ past) is = absurd (differ is)
alone_told k (entry.Drove post order.Open taken ∷ past) is = opened_by post k taken past (alone_told k past) (by_or ((post == k) && not taken) (opens_alone k past) is)
alone_told k (entry.Drove post order.Close taken ∷ past) is = absurd (differ is)
alone_told k (entry.Drove post (order.Limits voltage current watts) taken ∷ past) is = absurd (differ is)
alone_told k (entry.Dialed port taken ∷ past) is = absurd (differ is)
alone_told k (entry.Ended post cause ∷ past) is = absurd (differ is)

opens_more : (k : ℕ) (e : Entry) (alone : Bool) → opens e ≡ true → alone ≡ true → fails_or k e alone ≡ true
opens_more k (entry.Heard heard bytes) alone is h = absurd (differ is)
opens_more k entry.Lost alone is h = absurd (differ is)
opens_more k (entry.Sent post bytes taken) alone is h = absurd (differ is)
opens_more k (entry.Answered post bytes taken) alone is h = absurd (differ is)
opens_more k (entry.Drove post order.Open taken) alone is h = or_second ((post == k) && not taken) alone h
opens_more k (entry.Drove post order.Close taken) alone is h = absurd (differ is)
opens_more k (entry.Drove post (order.Limits voltage current watts) taken) alone is h = absurd (differ is)
opens_more k (entry.Dialed port taken) alone is h = absurd (differ is)
opens_more k (entry.Ended post cause) alone is h = absurd (differ is)

alone_in : (k : ℕ) (since earlier : List Entry) → list_all opens since ≡ true → opens_alone k (since ++ entry.Drove k order.Open false ∷ earlier) ≡ true
alone_in k [] earlier is = or_first ((k == k) && true) (opens_alone k earlier) (and_both (k == k) true (eq-eqb k k refl) refl)
alone_in k (d ∷ since) earlier is =
    let parts = and_parts (opens d) (list_all opens since) is in
    opens_more k d (opens_alone k (since ++ entry.Drove k order.Open false ∷ earlier)) parts.0 (alone_in k since earlier parts.1)

alone_back : (k : ℕ) (past : List Entry) → OpensAlone k past → opens_alone k past ≡ true
alone_back k past o = ap (opens_alone k) o.past_is ∙ alone_in k o.since o.earlier o.alone

-- ---- an Open that is owed

owes_told : (c : ToldCodecs) (site : SitePlan) (past : List Entry) (k : ℕ) (plan : PostPlan) (steps : List ToldStep) (v : CauseValues) → IsOnly c site past k plan steps → AreOf c plan steps v
    → v.owed ≡ true → OwesAt c site past k
owes_told c site past k plan steps v only h is = record { post = record { plan = plan; steps = steps }; is = only.is; owes = h.owed_is.0 is }

owes_back : (c : ToldCodecs) (site : SitePlan) (past : List Entry) (k : ℕ) (plan : PostPlan) (steps : List ToldStep) (v : CauseValues) → IsOnly c site past k plan steps → AreOf c plan steps v
    → OwesAt c site past k → v.owed ≡ true
owes_back c site past k plan steps v only h o = h.owed_is.1 (subst (λ (p : ToldPost). OwesOpen c p.plan p.steps) (only.only o.post o.is) o.owes)

answers_told : (k : ℕ) (e : Entry) → answers_or_hears k e ≡ true → AnswersOrHears k e
answers_told k (entry.Heard heard bytes) is = tt
answers_told k entry.Lost is = absurd (differ is)
answers_told k (entry.Sent post bytes taken) is = eqb-true post k is
answers_told k (entry.Answered post bytes taken) is = absurd (differ is)
answers_told k (entry.Drove post given taken) is = absurd (differ is)
answers_told k (entry.Dialed port taken) is = absurd (differ is)
answers_told k (entry.Ended post cause) is = absurd (differ is)

answers_back : (k : ℕ) (e : Entry) → AnswersOrHears k e → answers_or_hears k e ≡ true
answers_back k (entry.Heard heard bytes) is = refl
answers_back k entry.Lost is = absurd is
answers_back k (entry.Sent post bytes taken) is = eq-eqb post k is
answers_back k (entry.Answered post bytes taken) is = absurd is
answers_back k (entry.Drove post given taken) is = absurd is
answers_back k (entry.Dialed port taken) is = absurd is
answers_back k (entry.Ended post cause) is = absurd is

-- ---- the check

pub passes_told : (c : ToldCodecs) (site : SitePlan) (plan : PostPlan) (earlier behind : List Entry) (e : Entry) (k : ℕ) (steps steps_later : List ToldStep) (v later : CauseValues)
    (last alone : Bool) → IsOnly c site earlier k plan steps → IsOnly c site (e ∷ earlier) k plan steps_later → AreOf c plan steps v → AreOf c plan steps_later later
    → (IsTrue last ↔ IsNewest behind) → alone ≡ opens_alone k (e ∷ earlier) → (IsTrue (passes_by k e last alone v later) ↔ Passes c site earlier e behind k)
passes_told c site plan earlier behind e k steps steps_later v later last alone only only_later h h_later ends alone_is = (
  λ is. elim (by_or (answers_or_hears k e && v.owed) (last && (later.owed && not alone)) is) [
    | inl now ↦ (let parts = and_parts (answers_or_hears k e) v.owed now in inl (answers_told k e parts.0, owes_told c site earlier k plan steps v only h parts.1))
    | inr at_last ↦ (let outer = and_parts last (later.owed && not alone) at_last in
        let inner = and_parts later.owed (not alone) outer.1 in
        inr (
          ends.0 outer.0,
          owes_told c site (e ∷ earlier) k plan steps_later later only_later h_later inner.0,
          λ o. true_not alone inner.1 (alone_is ∙ alone_back k (e ∷ earlier) o),
        ))
  ],
  λ passes. elim passes [
    | inl now ↦ or_first (answers_or_hears k e && v.owed) (last && (later.owed && not alone))
        (and_both (answers_or_hears k e) v.owed (answers_back k e now.0) (owes_back c site earlier k plan steps v only h now.1))
    | inr at_last ↦ or_second (answers_or_hears k e && v.owed) (last && (later.owed && not alone))
        (and_both last (later.owed && not alone) (ends.1 at_last.0)
        (and_both later.owed (not alone) (owes_back c site (e ∷ earlier) k plan steps_later later only_later h_later at_last.1)
        (not_true alone (λ is. at_last.2 (alone_told k (e ∷ earlier) (sym alone_is ∙ is))))))
  ],
)
