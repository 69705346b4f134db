-- What holds of a past that is told, over one call and over several; and of the trace beside it.
use Rattle.std.proofs.Common.{◌≡◌, ℕ, ◌+◌, Bool, true, if◌then◌else◌, List, ◌∷◌, ◌++◌, Option, Some, None, Result, Ok, Err, refl, sym, ap, subst, ◌∙◌, append_assoc}
use Rattle.std.specs.Prelude.{IsSome, OnOk, OnErr, IsErr}
use Rattle.charge_world.specs.declared.entry.Entry.{Entry}
use Rattle.charge_world.specs.Outside.{GrowsByOne, Appends, AppendsSome}
use Rattle.trace_text.specs.TraceText.{numbered_line_of}
use Rattle.trace_text.specs.Pasts.{is_hearing, numbered_after, lines_by, first_line_2}
use Rattle.endpoint.specs.Telling.{Carries, CarriesText, IsTraced, IsCutHere, IsWrittenSo}

-- one entry more
pub carries_one : (before after : Option (List Entry)) (e : Entry) (P Q : List Entry → Type 0) → GrowsByOne before after e → ((past : List Entry) → P past → Q (e ∷ past)) → Carries before after P Q
carries_one before None e P Q grows step = tt
carries_one None (Some new) e P Q grows step = absurd grows
carries_one (Some old) (Some new) e P Q grows step = λ p. subst Q (sym grows) (step old p)

-- nothing more
pub carries_none : (before : Option (List Entry)) (P Q : List Entry → Type 0) → ((past : List Entry) → P past → Q past) → Carries before before P Q
carries_none None P Q step = tt
carries_none (Some old) P Q step = step old

-- one after the other
pub carries_then : (a b c : Option (List Entry)) (P Q R : List Entry → Type 0) → Carries a b P Q → Carries b c Q R → Carries a c P R
carries_then a b None P Q R first second = tt
carries_then a None (Some new) P Q R first second = absurd second
carries_then None (Some mid) (Some new) P Q R first second = absurd first
carries_then (Some old) (Some mid) (Some new) P Q R first second = λ p. second (first p)

-- under more, or to less
pub carries_from : (a b : Option (List Entry)) (O P Q : List Entry → Type 0) → ((past : List Entry) → O past → P past) → Carries a b P Q → Carries a b O Q
carries_from a None O P Q step h = tt
carries_from None (Some new) O P Q step h = absurd h
carries_from (Some old) (Some new) O P Q step h = λ o. h (step old o)

pub carries_to : (a b : Option (List Entry)) (P Q R : List Entry → Type 0) → ((past : List Entry) → Q past → R past) → Carries a b P Q → Carries a b P R
carries_to a None P Q R step h = tt
carries_to None (Some new) P Q R step h = absurd h
carries_to (Some old) (Some new) P Q R step h = λ p. step new (h p)

-- what is told now was told before
pub carries_told : (a b : Option (List Entry)) (P Q : List Entry → Type 0) → Carries a b P Q → IsSome b → IsSome a
carries_told a None P Q h told = cc
carries_told None (Some new) P Q h told = absurd h
carries_told (Some old) (Some new) P Q h told = refl

pub grows_told : (a b : Option (List Entry)) (e : Entry) → GrowsByOne a b e → IsSome b → IsSome a
grows_told a None e h told = cc
grows_told None (Some new) e h told = absurd h
grows_told (Some old) (Some new) e h told = refl

-- the trace beside it
pub text_then : (a b c : Option (List Entry)) (s t u : Option (List ℕ)) (P Q R : List Entry → List ℕ → Type 0) → CarriesText a b s t P Q → CarriesText b c t u Q R → CarriesText a c s u P R
text_then a b None s t u P Q R first second = tt
text_then a None (Some new) s t u P Q R first second = absurd second
text_then None (Some mid) (Some new) s t u P Q R first second = absurd first
text_then (Some old) (Some mid) (Some new) s t None P Q R first second = tt
text_then (Some old) (Some mid) (Some new) s None (Some now) P Q R first second = absurd second
text_then (Some old) (Some mid) (Some new) None (Some middle) (Some now) P Q R first second = absurd first
text_then (Some old) (Some mid) (Some new) (Some start) (Some middle) (Some now) P Q R first second = λ p. second (first p)

pub text_none : (a : Option (List Entry)) (s : Option (List ℕ)) (P Q : List Entry → List ℕ → Type 0) → ((past : List Entry) (text : List ℕ) → P past text → Q past text) → CarriesText a a s s P Q
text_none None s P Q step = tt
text_none (Some old) None P Q step = tt
text_none (Some old) (Some text) P Q step = step old text

pub text_to : (a b : Option (List Entry)) (s t : Option (List ℕ)) (P Q R : List Entry → List ℕ → Type 0) → ((past : List Entry) (text : List ℕ) → Q past text → R past text) → CarriesText a b s t P Q → CarriesText a b s t P R
text_to a None s t P Q R step h = tt
text_to None (Some new) s t P Q R step h = absurd h
text_to (Some old) (Some new) s None P Q R step h = tt
text_to (Some old) (Some new) None (Some now) P Q R step h = absurd h
text_to (Some old) (Some new) (Some start) (Some now) P Q R step h = λ p. step new now (h p)

-- one line more
traced_one : (n m : ℕ) (e : Entry) (past : List Entry) (text : List ℕ) → (if is_hearing e then 1 else 0) + n ≡ m → IsTraced n past text → IsTraced m (e ∷ past) (text ++ numbered_line_of m e)
traced_one n m e past text number t =
    let line : numbered_line_of m e ≡ numbered_after past e = ap (λ (k : ℕ). numbered_line_of k e) (sym number ∙ ap (λ (k : ℕ). (if is_hearing e then 1 else 0) + k) (sym t.hearing_is)) in
    record {
      text_is = ap (λ (l : List ℕ). text ++ l) line ∙ ap (λ (s : List ℕ). s ++ numbered_after past e) t.text_is ∙ append_assoc first_line_2 (lines_by numbered_after past) (numbered_after past e);
      hearing_is = ap (λ (k : ℕ). (if is_hearing e then 1 else 0) + k) t.hearing_is ∙ number;
    }

cut_one : (n m : ℕ) (e : Entry) (past : List Entry) (text front rest : List ℕ) → (if is_hearing e then 1 else 0) + n ≡ m → numbered_line_of m e ≡ front ++ rest → IsTraced n past text → IsCutHere (e ∷ past) (text ++ front)
cut_one n m e past text front rest number line_is t =
    let line : numbered_line_of m e ≡ numbered_after past e = ap (λ (k : ℕ). numbered_line_of k e) (sym number ∙ ap (λ (k : ℕ). (if is_hearing e then 1 else 0) + k) (sym t.hearing_is)) in
    record {
      e = e;
      earlier = past;
      front = front;
      rest = rest;
      past_is = refl;
      line_is = sym line ∙ line_is;
      text_is = ap (λ (s : List ℕ). s ++ front) t.text_is;
    }

pub text_one : {T E : Type 0} (before after : Option (List Entry)) (s t : Option (List ℕ)) (e : Entry) (n m : ℕ) (r : Result T E) → (if is_hearing e then 1 else 0) + n ≡ m → GrowsByOne before after e
    → OnOk r (Appends s t (numbered_line_of m e)) → OnErr r (AppendsSome s t (numbered_line_of m e)) → CarriesText before after s t (IsTraced n) (IsWrittenSo m r)
text_one before None s t e n m r number grows ok err = tt
text_one None (Some new) s t e n m r number grows ok err = absurd grows
text_one (Some old) (Some new) s None e n m r number grows ok err = tt
text_one (Some old) (Some new) None (Some now) e n m (Ok done) number grows ok err = absurd ok
text_one (Some old) (Some new) None (Some now) e n m (Err fault) number grows ok err = absurd err
text_one (Some old) (Some new) (Some start) (Some now) e n m (Ok done) number grows ok err =
    λ p. subst (λ (past : List Entry). IsTraced m past now) (sym grows) (subst (IsTraced m (e ∷ old)) (sym ok) (traced_one n m e old start number p))
text_one (Some old) (Some new) (Some start) (Some now) e n m (Err fault) number grows ok err =
    λ p. subst (λ (past : List Entry). IsCutHere past now) (sym grows) (subst (IsCutHere (e ∷ old)) (sym err.3) (cut_one n m e old start err.0 err.1 number err.2 p))

-- what is answered behind a write
pub done_so : {E : Type 0} (hearing : ℕ) (w : Result (Unit {0}) E) (r : Result Bool E) (past : List Entry) (text : List ℕ) → OnOk w (r ≡ Ok true) → OnErr w (IsErr r) → IsWrittenSo hearing w past text → IsWrittenSo hearing r past text
done_so hearing (Ok done) (Ok b) past text ok err h = h
done_so hearing (Ok done) (Err fault) past text ok err h = cc
done_so hearing (Err fault) (Ok b) past text ok err h = cc
done_so hearing (Err fault) (Err other) past text ok err h = h
