-- Words that are put one behind the other are a line.
use Rattle.std.proofs.Common.{◌≡◌, ℕ, zero, suc, ◌+◌, ◌-◌, ◌<◌, ◌≤◌, List, [], ◌∷◌, ◌++◌, length, take, drop, get_or, set, sym, ◌∙◌, append_assoc, arith}
use Rattle.std.proofs.Math.Seq.{set-append_seam}
use Rattle.std.proofs.lemmas.List.{length-append, length-set, length-map, take_all}
use Rattle.text_tokens.specs.declared.line.Word.{Word}
use Rattle.text_tokens.specs.declared.line.Word.TheVariants.{Plain}
use Rattle.text_tokens.specs.Words.{text_of, texts_of, spaced, spaced_out, line_text, Puts}

-- the word that a place without one has
abbrev pub blank : Word
blank = Plain (record { ref_ptr = (0, 0); now = [] })

-- one word more
pub one_more : (ws : List Word) (i : ℕ) → i < length ws
    → (spaced_out (texts_of (take i ws)) ++ text_of (get_or ws i blank)) ++ 32 ∷ [] ≡ spaced_out (texts_of (take (suc i) ws))
one_more [] i lt = absurd (omega arith)
one_more (w ∷ ws) zero lt = simp append_assoc
one_more (w ∷ ws) (suc i) lt = rw (← one_more ws i (omega arith)) (simp append_assoc)

-- the last space is where the line feed stands
last_space : (words : List (List ℕ)) → 0 < length words → spaced_out words ≡ spaced words ++ 32 ∷ []
last_space [] some = absurd (omega arith)
last_space (w ∷ []) some = simp append_assoc
last_space (w ∷ v ∷ words) some = rw (last_space (v ∷ words) (omega arith)) (simp append_assoc)

pub length_line : (words : List (List ℕ)) → 0 < length words → length (spaced_out words) ≡ length (line_text words)
length_line words some = rw (last_space words some) (simp length-append)

-- there is room for it
room_out : (ws : List Word) (i : ℕ) → i < length ws
    → length (spaced_out (texts_of (take i ws))) + length (text_of (get_or ws i blank)) < length (spaced_out (texts_of ws))
room_out [] i lt = absurd (omega arith)
room_out (w ∷ ws) zero lt = simp length-append (omega arith)
room_out (w ∷ ws) (suc i) lt = let more = room_out ws i (omega arith) in simp length-append (omega arith)

pub room_for : (ws : List Word) (i : ℕ) → i < length ws
    → length (spaced_out (texts_of (take i ws))) + length (text_of (get_or ws i blank)) < length (line_text (texts_of ws))
room_for ws i lt = rw (← length_line (texts_of ws) (omega (arith, length-map ws text_of))) (room_out ws i lt)

-- all words
pub record IsPut (a b : List ℕ) (end : ℕ) (ws : List Word) : Type 0 where
  pub same : length b ≡ length a
  pub last : end ≡ suc (length (spaced (texts_of ws)))
  pub count : end ≡ 0 + length (line_text (texts_of ws))
  pub room : end ≤ length a → b ≡ spaced (texts_of ws) ++ 32 ∷ drop end a

pub all_put : (a b : List ℕ) (end i : ℕ) (ws : List Word) → 0 < length ws → length ws ≤ i → Puts a 0 b end (spaced_out (texts_of (take i ws))) → IsPut a b end ws
all_put a b end i ws some done p =
    let all = rw (take_all i ws done, last_space (texts_of ws) (omega (arith, length-map ws text_of))) at p in
    record {
      same = all.same;
      last = omega (arith, all.count, length-append (spaced (texts_of ws)) (32 ∷ []));
      count = omega (arith, all.count, length-append (spaced (texts_of ws)) (32 ∷ []), length-append (spaced (texts_of ws)) (10 ∷ []));
      room = λ h. all.room h ∙ append_assoc (spaced (texts_of ws)) (32 ∷ []) (drop end a);
    }

-- with a line feed in place of the last space
pub line_put : (a b : List ℕ) (end : ℕ) (ws : List Word) → IsPut a b end ws → end ≤ length b → Puts a 0 (set b (end - 1) 10) end (line_text (texts_of ws))
line_put a b end ws p fits =
    let last : end - 1 ≡ length (spaced (texts_of ws)) = omega (arith, p.last) in
    record {
      same = length-set b (end - 1) 10 ∙ p.same;
      count = p.count;
      room = λ h. rw (last, p.room h, set-append_seam) (sym (append_assoc (spaced (texts_of ws)) (10 ∷ []) (drop end a)));
    }
