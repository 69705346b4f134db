-- Whether a past ends with orders to open alone, behind one that failed.
use Rattle.std.proofs.Common.{◌≡◌, ◌⊎◌, inl, inr, ℕ, ◌==◌, Bool, true, false, List, [], ◌∷◌, ◌++◌, drop, refl, sym, ap, ◌∙◌}
use Rattle.std.specs.List.{list_all}
use Rattle.std.proofs.lemmas.Bool.{and_parts, eqb-true, eqb-false}
use Rattle.charge_world.specs.declared.entry.Entry.{Entry}
use Rattle.charge_world.specs.declared.entry.Entry.TheVariants as entry
use Rattle.charge_world.specs.declared.ports.Order.TheVariants as order
use Rattle.told_pasts.specs.Checks.{opens, OpensAlone}

differ : true ≡ false → ⊥
differ h = cc

no_end : (since : List Entry) (e : Entry) (earlier : List Entry) → [] ≡ since ++ e ∷ earlier → ⊥
no_end [] e earlier is = cc
no_end (d ∷ since) e earlier is = cc

-- ---- an entry that doesn't open

shut_by : (k : ℕ) (e : Entry) (past since earlier : List Entry) → opens e ≡ false → e ∷ past ≡ since ++ entry.Drove k order.Open false ∷ earlier → list_all opens since ≡ true → ⊥
shut_by k e past [] earlier isnt is alone =
    let same : e ≡ entry.Drove k order.Open false = cc in
    differ (sym (ap opens same) ∙ isnt)
shut_by k e past (d ∷ since) earlier isnt is alone =
    let same : e ≡ d = cc in
    let first = and_parts (opens d) (list_all opens since) alone in
    differ (sym first.0 ∙ sym (ap opens same) ∙ isnt)

shut : (k : ℕ) (e : Entry) (past : List Entry) → opens e ≡ false → OpensAlone k (e ∷ past) → ⊥
shut k e past isnt o = shut_by k e past o.since o.earlier isnt o.past_is o.alone

-- ---- one that does, and isn't the one that failed

back_by : (k : ℕ) (e : Entry) (past since earlier : List Entry) → (e ≡ entry.Drove k order.Open false → ⊥) → e ∷ past ≡ since ++ entry.Drove k order.Open false ∷ earlier
    → list_all opens since ≡ true → OpensAlone k past
back_by k e past [] earlier other is alone = absurd (other (let same : e ≡ entry.Drove k order.Open false = cc in same))
back_by k e past (d ∷ since) earlier other is alone = record {
  since = since;
  earlier = earlier;
  past_is = ap (drop 1) is;
  alone = (and_parts (opens d) (list_all opens since) alone).1;
}

more : (k : ℕ) (e : Entry) (past : List Entry) → opens e ≡ true → OpensAlone k past → OpensAlone k (e ∷ past)
more k e past is_open o = record {
  since = e ∷ o.since;
  earlier = o.earlier;
  past_is = ap (λ (t : List Entry). e ∷ t) o.past_is;
  alone = rw (is_open, o.alone) refl;
}

other : (k : ℕ) (e : Entry) (past : List Entry) → opens e ≡ true → (e ≡ entry.Drove k order.Open false → ⊥) → OpensAlone k past ⊎ (OpensAlone k past → ⊥)
    → OpensAlone k (e ∷ past) ⊎ (OpensAlone k (e ∷ past) → ⊥)
other k e past is_open apart (inl o) = inl (more k e past is_open o)
other k e past is_open apart (inr none) = inr (λ o. none (back_by k e past o.since o.earlier apart o.past_is o.alone))

was_taken : (post k : ℕ) → entry.Drove post order.Open true ≡ entry.Drove k order.Open false → ⊥
was_taken post k is = cc

other_post : (post k : ℕ) → entry.Drove post order.Open false ≡ entry.Drove k order.Open false → post ≡ k
other_post post k is = cc

failed : (mine : Bool) (post k : ℕ) (past : List Entry) → (post == k) ≡ mine → OpensAlone k past ⊎ (OpensAlone k past → ⊥)
    → OpensAlone k (entry.Drove post order.Open false ∷ past) ⊎ (OpensAlone k (entry.Drove post order.Open false ∷ past) → ⊥)
failed true post k past is later =
    let same : post ≡ k = eqb-true post k is in
    inl (record { since = []; earlier = past; past_is = ap (λ (n : ℕ). entry.Drove n order.Open false ∷ past) same; alone = refl })
failed false post k past is later =
    other k (entry.Drove post order.Open false) past refl (λ same. eqb-false post k is (other_post post k same)) later

pub told : (k : ℕ) (past : List Entry) → OpensAlone k past ⊎ (OpensAlone k past → ⊥)
told k [] = inr (λ o. no_end o.since (entry.Drove k order.Open false) o.earlier o.past_is)
told k (entry.Heard heard bytes ∷ past) = inr (shut k (entry.Heard heard bytes) past refl)
told k (entry.Lost ∷ past) = inr (shut k entry.Lost past refl)
told k (entry.Sent post bytes taken ∷ past) = inr (shut k (entry.Sent post bytes taken) past refl)
told k (entry.Answered post bytes taken ∷ past) = inr (shut k (entry.Answered post bytes taken) past refl)
told k (entry.Drove post order.Open true ∷ past) = other k (entry.Drove post order.Open true) past refl (was_taken post k) (told k past)
told k (entry.Drove post order.Open false ∷ past) = failed (post == k) post k past refl (told k past)
told k (entry.Drove post order.Close taken ∷ past) = inr (shut k (entry.Drove post order.Close taken) past refl)
told k (entry.Drove post (order.Limits voltage current watts) taken ∷ past) = inr (shut k (entry.Drove post (order.Limits voltage current watts) taken) past refl)
told k (entry.Dialed port taken ∷ past) = inr (shut k (entry.Dialed port taken) past refl)
told k (entry.Ended post cause ∷ past) = inr (shut k (entry.Ended post cause) past refl)
