-- Parts of an element one behind the other, each behind its gap, and the end of the element.
use Rattle.std.proofs.Common.{◌≡◌, ℕ, List, [], ◌∷◌, ◌++◌, codes, refl, sym, ap, ◌∙◌, append_assoc, append-nil}
use Rattle.std.specs.List.{join_with_byte}
use Rattle.tree_text.specs.TreeText.{braced}
use Rattle.tree_text.specs.EventText.{gap, closing}
use Rattle.tree_text.specs.declared.print.TextEnd.{TextEnd}
use Rattle.tree_text.specs.declared.print.TextEnd.TheVariants as ends

-- each part behind its gap
abbrev pub spaced : TextEnd → List (List ℕ) → List ℕ
spaced end [] = []
spaced end (part ∷ parts) = (gap end ++ part) ++ spaced ends.Part parts

-- what the text ends with behind them
abbrev pub end_behind : TextEnd → List (List ℕ) → TextEnd
end_behind end [] = end
end_behind end (part ∷ parts) = ends.Part

pub part_behind : (parts : List (List ℕ)) → end_behind ends.Part parts ≡ ends.Part
part_behind [] = refl
part_behind (part ∷ parts) = refl

pub end_behind-append : (end : TextEnd) (xs ys : List (List ℕ)) → end_behind end (xs ++ ys) ≡ end_behind (end_behind end xs) ys
end_behind-append end [] ys = refl
end_behind-append end (x ∷ xs) ys = sym (part_behind ys)

pub spaced-append : (end : TextEnd) (xs ys : List (List ℕ)) → spaced end (xs ++ ys) ≡ spaced end xs ++ spaced (end_behind end xs) ys
spaced-append end [] ys = refl
spaced-append end (x ∷ xs) ys =
    ap (λ (l : List ℕ). (gap end ++ x) ++ l) (spaced-append ends.Part xs ys ∙ ap (λ (e : TextEnd). spaced ends.Part xs ++ spaced e ys) (part_behind xs))
    ∙ sym (append_assoc (gap end ++ x) (spaced ends.Part xs) (spaced ends.Part ys))

-- parts behind the first are behind a space
pub joined : (x : List ℕ) (xs : List (List ℕ)) → join_with_byte 32 (x ∷ xs) ≡ x ++ spaced ends.Part xs
joined x [] = sym (append-nil x)
joined x (y ∷ ys) = ap (λ (l : List ℕ). x ++ (32 ∷ l)) (joined y ys)

pub braces : (parts : List (List ℕ)) → spaced ends.Name parts ++ closing (end_behind ends.Name parts) ≡ codes "{" ++ (join_with_byte 32 parts ++ codes "}")
braces [] = refl
braces (x ∷ xs) = ap (λ (l : List ℕ). (123 ∷ l) ++ codes "}") (sym (joined x xs))

-- attributes, children and the end of an element behind its name
pub both_in_braces : (xs ys : List (List ℕ)) → spaced ends.Name xs ++ (spaced (end_behind ends.Name xs) ys ++ closing (end_behind (end_behind ends.Name xs) ys)) ≡ codes "{" ++ (join_with_byte 32 (xs ++ ys) ++ codes "}")
both_in_braces xs ys =
    sym (append_assoc (spaced ends.Name xs) (spaced (end_behind ends.Name xs) ys) (closing (end_behind (end_behind ends.Name xs) ys)))
    ∙ ap (λ (l : List ℕ). l ++ closing (end_behind (end_behind ends.Name xs) ys)) (sym (spaced-append ends.Name xs ys))
    ∙ ap (λ (e : TextEnd). spaced ends.Name (xs ++ ys) ++ closing e) (sym (end_behind-append ends.Name xs ys))
    ∙ braces (xs ++ ys)

pub braced_is : (word : List ℕ) (parts : List (List ℕ)) → braced word parts ≡ word ++ (codes "{" ++ (join_with_byte 32 parts ++ codes "}"))
braced_is word parts = append_assoc (word ++ codes "{") (join_with_byte 32 parts) (codes "}") ∙ append_assoc word (codes "{") (join_with_byte 32 parts ++ codes "}")
