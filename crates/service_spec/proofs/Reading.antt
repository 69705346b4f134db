-- Reading the pairs of a word one after another.
use Rattle.std.proofs.Common.{◌≡◌, ℕ, suc, ◌<◌, ◌≤◌, List, [], ◌∷◌, ◌++◌, length, refl, sym, ap, subst, ◌∙◌, append_assoc, length-append, arith}
use Rattle.std.specs.List.{All, AllZip, join_with_byte, AllByRecursion}
use Rattle.std.proofs.lemmas.List.{append-nil}
use Rattle.std.proofs.lemmas.List.Elements.{All-nil, All-push, recursion_from_All}
use Rattle.std.proofs.lemmas.List.Splits.{length-slice_split, join_with_byte-slice_split}
use Rattle.service_spec.specs.declared.Parameter.{Parameter}
use Rattle.service_spec.specs.Wants.{SpellsPair, IsPair, IsWant}
use Rattle.service_spec.specs.Pieces.{pieces_of}
use Rattle.service_spec.proofs.Pieces.{is_semicolon, IsPiece, joined_cut}
use Rattle.service_spec.proofs.Pairs.{pair_whole}

-- ---- pairs and the pieces that spell them

abbrev AreSpelled : List Parameter → List (List ℕ) → Type 0
AreSpelled pairs pieces = AllZip SpellsPair pairs pieces

spelled_push : (pairs : List Parameter) (pieces : List (List ℕ)) (pair : Parameter) (piece : List ℕ) → AreSpelled pairs pieces → SpellsPair pair piece
    → AreSpelled (pairs ++ pair ∷ []) (pieces ++ piece ∷ [])
spelled_push [] [] pair piece are is = (is, tt)
spelled_push [] (q ∷ pieces) pair piece are is = absurd are
spelled_push (p ∷ pairs) [] pair piece are is = absurd are
spelled_push (p ∷ pairs) (q ∷ pieces) pair piece are is = (are.0, spelled_push pairs pieces pair piece are.1 is)

length_spelled : (pairs : List Parameter) (pieces : List (List ℕ)) → AreSpelled pairs pieces → length pairs ≡ length pieces
length_spelled [] [] are = refl
length_spelled [] (q ∷ pieces) are = absurd are
length_spelled (p ∷ pairs) [] are = absurd are
length_spelled (p ∷ pairs) (q ∷ pieces) are = ap suc (length_spelled pairs pieces are.1)

each_piece : (pairs : List Parameter) (pieces : List (List ℕ)) → AllByRecursion IsPair pairs → AreSpelled pairs pieces → AllByRecursion IsPiece pieces
each_piece [] [] all are = tt
each_piece [] (q ∷ pieces) all are = absurd are
each_piece (p ∷ pairs) [] all are = absurd are
each_piece (p ∷ pairs) (q ∷ pieces) all are = (pair_whole p q all.0 are.0, each_piece pairs pieces all.1 are.1)

-- some pair is spelled by each piece
among : (front : List (List ℕ)) (piece : List ℕ) (rest : List (List ℕ)) (pairs : List Parameter) → AreSpelled pairs (front ++ piece ∷ rest)
    → AllByRecursion IsPair pairs → (pair : Parameter) × IsPair pair × SpellsPair pair piece
among [] piece rest [] are all = absurd are
among (q ∷ front) piece rest [] are all = absurd are
among [] piece rest (p ∷ pairs) are all = (p, all.0, are.0)
among (q ∷ front) piece rest (p ∷ pairs) are all = among front piece rest pairs are.1 all.1

pub wanted_cut : (word : List ℕ) (pairs : List Parameter) (is : IsWant word pairs) → pieces_of word ≡ is.pieces
wanted_cut word pairs is =
    ap pieces_of is.text
    ∙ joined_cut is.pieces (each_piece pairs is.pieces (recursion_from_All IsPair pairs is.each) is.spelled)
    (omega (arith, is.some, length_spelled pairs is.pieces is.spelled))

-- ---- one after another

-- so many pairs were read of a word, and these pieces are left
pub record IsReading (word : List ℕ) (pairs : List Parameter) (rest : List (List ℕ)) : Type 0 where
  pub done : List (List ℕ)
  pub split : pieces_of word ≡ done ++ rest
  pub spelled : AllZip SpellsPair pairs done
  pub each : All IsPair pairs
  pub few : length pairs ≤ 16

pub reading_begun : (word : List ℕ) → IsReading word [] (pieces_of word)
reading_begun word = record { done = []; split = refl; spelled = tt; each = All-nil IsPair; few = omega arith }

pub reading_more : (word piece : List ℕ) (pairs : List Parameter) (rest more : List (List ℕ)) (pair : Parameter) → IsReading word pairs rest → rest ≡ piece ∷ more
    → IsPair pair → SpellsPair pair piece → length pairs < 16 → IsReading word (pairs ++ pair ∷ []) more
reading_more word piece pairs rest more pair r cut is spells lt = record {
  done = r.done ++ piece ∷ [];
  split = r.split ∙ ap (λ (l : List (List ℕ)). r.done ++ l) cut ∙ sym (append_assoc r.done (piece ∷ []) more);
  spelled = spelled_push pairs r.done pair piece r.spelled spells;
  each = All-push IsPair pairs pair r.each is;
  few = omega (arith, length-append pairs (pair ∷ []));
}

pub reading_done : (word : List ℕ) (pairs : List Parameter) → IsReading word pairs [] → IsWant word pairs
reading_done word pairs r =
    let split : pieces_of word ≡ r.done = r.split ∙ append-nil r.done in
    record {
      some = omega (arith, length-slice_split is_semicolon word, ap length split, length_spelled pairs r.done r.spelled);
      few = r.few;
      each = r.each;
      pieces = r.done;
      spelled = r.spelled;
      text = sym (join_with_byte-slice_split 59 word) ∙ ap (join_with_byte 59) split;
    }

-- the pieces of any other want begin with those that were read
other_split : (word piece : List ℕ) (pairs : List Parameter) (rest more : List (List ℕ)) (r : IsReading word pairs rest) → rest ≡ piece ∷ more
    → (other : List Parameter) (is : IsWant word other) → is.pieces ≡ r.done ++ piece ∷ more
other_split word piece pairs rest more r cut other is = sym (wanted_cut word other is) ∙ r.split ∙ ap (λ (l : List (List ℕ)). r.done ++ l) cut

pub reading_bad : (word piece : List ℕ) (pairs : List Parameter) (rest more : List (List ℕ)) → IsReading word pairs rest → rest ≡ piece ∷ more
    → ((pair : Parameter) → IsPair pair → SpellsPair pair piece → ⊥) → (other : List Parameter) → IsWant word other → ⊥
reading_bad word piece pairs rest more r cut none other is =
    let are : AreSpelled other (r.done ++ piece ∷ more) = subst (AreSpelled other) (other_split word piece pairs rest more r cut other is) is.spelled in
    let found = among r.done piece more other are (recursion_from_All IsPair other is.each) in
    none found.0 found.1 found.2

pub reading_full : (word piece : List ℕ) (pairs : List Parameter) (rest more : List (List ℕ)) → IsReading word pairs rest → rest ≡ piece ∷ more
    → 16 ≤ length pairs → (other : List Parameter) → IsWant word other → ⊥
reading_full word piece pairs rest more r cut full other is =
    omega (
      arith,
      is.few,
      ap length (other_split word piece pairs rest more r cut other is),
      length-append r.done (piece ∷ more),
      length_spelled pairs r.done r.spelled,
      length_spelled other is.pieces is.spelled,
    )
