-- Lines of a trace that are written behind their entries.
use Rattle.std.proofs.Common.{◌≡◌, ℕ, ◌+◌, if◌then◌else◌, List, [], ◌∷◌, ◌++◌, Option, Some, None, Result, Ok, Err, refl, sym, ap, subst, ◌∙◌}
use Rattle.std.specs.Prelude.{OnOk, OnErr, IsErr}
use Rattle.std.proofs.lemmas.List.{append-nil}
use Rattle.charge_world.specs.declared.entry.Entry.{Entry}
use Rattle.charge_world.specs.Outside.{GrowsByOne, Appends, AppendsSome}
use Rattle.trace_text.specs.TraceText.{numbered_line_of}
use Rattle.trace_text.specs.Pasts.{is_hearing, first_line_2, hearing_number, trace_text}
use Rattle.endpoint.specs.Knowing.{AwaitsLine}
use Rattle.endpoint.specs.Telling.{CarriesText, IsTraced, IsCutFirst, IsCutHere, IsWrittenSo}
use Rattle.endpoint.proofs.Carry.{text_one}

-- an entry whose line is to come
pub text_next : (a b : Option (List Entry)) (s : Option (List ℕ)) (e : Entry) (n : ℕ) → GrowsByOne a b e → CarriesText a b s s (IsTraced n) (AwaitsLine n e)
text_next a None s e n grows = tt
text_next None (Some new) s e n grows = absurd grows
text_next (Some old) (Some new) None e n grows = tt
text_next (Some old) (Some new) (Some text) e n grows = λ t. record { earlier = old; past_is = grows; traced = t }

-- its line
pub text_line : {T E : Type 0} (a : Option (List Entry)) (s t : Option (List ℕ)) (e : Entry) (n m : ℕ) (r : Result T E) → (if is_hearing e then 1 else 0) + n ≡ m
    → OnOk r (Appends s t (numbered_line_of m e)) → OnErr r (AppendsSome s t (numbered_line_of m e)) → CarriesText a a s t (AwaitsLine n e) (IsWrittenSo m r)
text_line None s t e n m r number ok err = tt
text_line (Some past) s None e n m r number ok err = tt
text_line (Some past) None (Some now) e n m (Ok done) number ok err = absurd ok
text_line (Some past) None (Some now) e n m (Err fault) number ok err = absurd err
text_line (Some past) (Some start) (Some now) e n m r number ok err = λ w.
    subst (λ (p : List Entry). IsWrittenSo m r p now) (sym w.past_is)
    (text_one (Some w.earlier) (Some (e ∷ w.earlier)) (Some start) (Some now) e n m r number refl ok err w.traced)

-- its line failed
pub err_written : {T E : Type 0} (m : ℕ) (r : Result T E) (past : List Entry) (text : List ℕ) → IsErr r → IsCutHere past text → IsWrittenSo m r past text
err_written m (Ok done) past text is h = cc
err_written m (Err fault) past text is h = h

-- the first line
pub begin_ok : (a : Option (List Entry)) (s t : Option (List ℕ)) → Appends s t first_line_2 → CarriesText a a s t (λ past text. (past ≡ []) × (text ≡ [])) (IsTraced 0)
begin_ok None s t h = tt
begin_ok (Some past) s None h = tt
begin_ok (Some past) None (Some now) h = absurd h
begin_ok (Some past) (Some start) (Some now) h = λ p. record {
  text_is = h ∙ ap (λ (x : List ℕ). x ++ first_line_2) p.1 ∙ sym (append-nil first_line_2) ∙ ap trace_text (sym p.0);
  hearing_is = ap hearing_number p.0;
}

pub begin_cut : (a : Option (List Entry)) (s t : Option (List ℕ)) → AppendsSome s t first_line_2 → CarriesText a a s t (λ past text. (past ≡ []) × (text ≡ [])) IsCutFirst
begin_cut None s t h = tt
begin_cut (Some past) s None h = tt
begin_cut (Some past) None (Some now) h = absurd h
begin_cut (Some past) (Some start) (Some now) h = λ p. record { front = h.0; rest = h.1; past_is = p.0; line_is = h.2; text_is = h.3 ∙ ap (λ (x : List ℕ). x ++ h.0) p.1 }
