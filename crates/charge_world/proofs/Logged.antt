-- One entry more in the past that a fake wire keeps.
use Rattle.std.proofs.Common.{◌≡◌, ℕ, ◌+◌, ◌≤◌, Bool, false, List, [], ◌∷◌, ◌++◌, length, take, drop, map, Option, Some, refl, sym, ap, ◌∙◌, arith}
use Rattle.std.specs.Prelude.{reverse}
use Rattle.std.proofs.lemmas.List.{map_push, reverse-append, drop-append-le, take-append-le, length-drop, drop_at, take_all}
use Rattle.charge_world.specs.declared.entry.Entry.{Entry}
use Rattle.charge_world.specs.declared.log.Kept.{Kept}
use Rattle.charge_world.specs.Outside.{GrowsByOne}
use Rattle.charge_world.specs.Logs.{entry_with, entry_of, past_of, AllFit}

-- bytes behind the others change no entry
entry_stays : (bytes more : List ℕ) (k : Kept) → k.from + k.len ≤ length bytes → entry_of (bytes ++ more) k ≡ entry_of bytes k
entry_stays bytes more k fits =
    let d = drop-append-le k.from bytes more (omega arith) in
    let t = take-append-le k.len (drop k.from bytes) more (omega (arith, length-drop k.from bytes)) in
    ap (λ (xs : List ℕ). entry_with k.note xs) (ap (λ (xs : List ℕ). take k.len xs) d ∙ t)

entries_stay : (bytes more : List ℕ) (kept : List Kept) → AllFit bytes kept → map (entry_of (bytes ++ more)) kept ≡ map (entry_of bytes) kept
entries_stay bytes more [] fits = refl
entries_stay bytes more (k ∷ kept) fits =
    let one = entry_stays bytes more k fits.0 in
    let others = entries_stay bytes more kept fits.1 in
    cc

pub logged : (bytes more : List ℕ) (kept : List Kept) (k : Kept) → k.from ≡ length bytes → k.len ≡ length more → AllFit bytes kept
    → reverse (map (entry_of (bytes ++ more)) (kept ++ k ∷ [])) ≡ entry_with k.note more ∷ reverse (map (entry_of bytes) kept)
logged bytes more kept k from len fits =
    let here : take k.len (drop k.from (bytes ++ more)) ≡ more = rw (from, len) (ap (λ (xs : List ℕ). take (length more) xs) (drop_at bytes more (length bytes) refl) ∙ take_all (length more) more (omega arith)) in
    let last : entry_of (bytes ++ more) k ≡ entry_with k.note more = ap (λ (xs : List ℕ). entry_with k.note xs) here in
    ap (λ (es : List Entry). reverse es) (map_push (entry_of (bytes ++ more)) kept k)
    ∙ reverse-append (map (entry_of (bytes ++ more)) kept) (entry_of (bytes ++ more) k ∷ [])
    ∙ ap (λ (e : Entry). e ∷ reverse (map (entry_of (bytes ++ more)) kept)) last
    ∙ ap (λ (es : List Entry). entry_with k.note more ∷ reverse es) (entries_stay bytes more kept fits)

-- the log's past grew by the entry
pub grows : (now : Option (List Entry)) (full : Bool) (bytes more bytes' : List ℕ) (kept kept' : List Kept) (k : Kept) → past_of full bytes kept ≡ now → full ≡ false → bytes' ≡ bytes ++ more → kept' ≡ kept ++ k ∷ []
    → k.from ≡ length bytes → k.len ≡ length more → AllFit bytes kept → GrowsByOne now (past_of full bytes' kept') (entry_with k.note more)
grows now full bytes more bytes' kept kept' k is unfull b k' from len fits =
    let was : now ≡ Some (reverse (map (entry_of bytes) kept)) = sym (rw unfull at is) in
    rw (unfull, was, b, k') (logged bytes more kept k from len fits)
