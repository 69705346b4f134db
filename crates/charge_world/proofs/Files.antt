-- Files by their places and names.
use Rattle.std.proofs.Common.{◌≡◌, ℕ, zero, suc, ◌+◌, ◌-◌, ◌<◌, ◌≤◌, true, List, [], ◌∷◌, ◌++◌, length, take, drop, get_or, refl, sym, ap, ◌∙◌, arith}
use Rattle.std.proofs.lemmas.List.{drop-drop, drop_all, take-append-drop, take_at, length-take, length-drop, drop_more}
use Rattle.std.specs.Str.{bytes_eq}
use Rattle.charge_world.specs.declared.memory_source.NamedFile.{NamedFile}
use Rattle.charge_world.specs.NamedFiles.{bytes_named, at_place}

pub place_past : (files : List NamedFile) (n : ℕ) → length files ≤ n → at_place files n ≡ []
place_past [] n h = refl
place_past (f ∷ files) zero h = absurd (omega arith)
place_past (f ∷ files) (suc n) h = place_past files n (omega arith)

pub place_at : (files : List NamedFile) (n : ℕ) (d : NamedFile) → n < length files → at_place files n ≡ (get_or files n d).bytes
place_at [] n d h = absurd (omega arith)
place_at (f ∷ files) zero d h = refl
place_at (f ∷ files) (suc n) d h = place_at files n d (omega arith)

-- the first so many of the bytes left
pub taken_left : (bytes room : List ℕ) (at n : ℕ) → at + n ≤ length bytes → n ≤ length room → drop at bytes ≡ take n (take n (drop at bytes) ++ drop n room) ++ drop (at + n) bytes
taken_left bytes room at n h r =
    let long : length (take n (drop at bytes)) ≡ n = omega (arith, length-take n (drop at bytes), length-drop at bytes) in
    let front : take n (take n (drop at bytes) ++ drop n room) ≡ take n (drop at bytes) = take_at (take n (drop at bytes)) (drop n room) n long in
    rw (front, ← drop-drop n at bytes) (sym (take-append-drop n (drop at bytes)))

-- the rest of the files has the first of that name
pub named_here : (files : List NamedFile) (i : ℕ) (f : NamedFile) (name : List ℕ) → i < length files → f ≡ get_or files i f → bytes_eq f.name name ≡ true → bytes_named (drop i files) name ≡ bytes_named files name → at_place files i ≡ bytes_named files name
named_here files i f name h is eq same =
    let split : drop i files ≡ f ∷ drop (i + 1) files = drop_more files i f h ∙ ap (λ (x : NamedFile). x ∷ drop (i + 1) files) (sym is) in
    let here : bytes_named (drop i files) name ≡ f.bytes = rw (split, eq) refl in
    place_at files i f h ∙ ap (λ (x : NamedFile). x.bytes) (sym is) ∙ sym here ∙ same

pub named_nowhere : (files : List NamedFile) (i : ℕ) (name : List ℕ) → length files ≤ i → bytes_named (drop i files) name ≡ bytes_named files name → at_place files (length files) ≡ bytes_named files name
named_nowhere files i name h same = place_past files (length files) (omega arith) ∙ sym (ap (λ (fs : List NamedFile). bytes_named fs name) (drop_all i files h)) ∙ same

-- the same, as the code copies them
pub taken_from : (left bytes room copied : List ℕ) (at n : ℕ) → left ≡ bytes → copied ≡ take (at + n - at) (drop at bytes) → at + n ≤ length bytes → n ≤ length room → drop at left ≡ take n (copied ++ drop n room) ++ drop (at + n) left
taken_from left bytes room copied at n same is h r =
    let count : at + n - at ≡ n = omega arith in
    let copied-is : copied ≡ take n (drop at bytes) = is ∙ ap (λ (k : ℕ). take k (drop at bytes)) count in
    rw (same, copied-is) (taken_left bytes room at n h r)
