-- Values that may not be there, and lists, one by one.
use Rattle.std.proofs.Common.{◌≡◌, ℕ, List, [], ◌∷◌, map, All, Option, Some, None, refl, ap, ap₂, ◌∙◌}
use Rattle.std.specs.Prelude.{IfSome}
use Rattle.std.specs.List.{AllByRecursion}
use Rattle.std.specs.Option.{option_map}
use Rattle.std.proofs.lemmas.List.Elements.{All-head, All-tail, All-weaker, recursion_from_All}
use Rattle.message_parts.specs.Contents.{Inside, each, holding}
use Rattle.message_parts.proofs.Distinct.{same_number}
use Rattle.word_tables.proofs.TreeHeld.{kept_each, children_held}
use Rattle.word_tables.proofs.Lists.{reads_each}
use Rattle.word_tables.specs.Tables.{Table, inside, read}
use Rattle.message_tables.specs.Values.{list_of}

pub if_fits : {X : Type 0} (P Q : X → Type 0) → ((x : X) → P x → Q x) → (o : Option X) → IfSome o P → IfSome o Q
if_fits P Q gives None h = tt
if_fits P Q gives (Some x) h = gives x h

pub each_fits : {X : Type 0} (P Q : X → Type 0) → ((x : X) → P x → Q x) → (xs : List X) → All P xs → AllByRecursion Q xs
each_fits P Q gives xs all = recursion_from_All Q xs (All-weaker P Q gives xs all)

pub if_back : {X : Type 0} (P : X → Type 0) (f : X → X) → ((x : X) → P x → f x ≡ x) → (o : Option X) → IfSome o P → option_map f o ≡ o
if_back P f same None h = refl
if_back P f same (Some x) h = ap (λ y. Some y) (same x h)

pub if_same : {X Y : Type 0} (f g : X → Y) → ((x : X) → f x ≡ g x) → (o : Option X) → option_map f o ≡ option_map g o
if_same f g same None = refl
if_same f g same (Some x) = ap (λ y. Some y) (same x)

pub if_kept : {X : Type 0} (f : X → X) → ((x : X) → f x ≡ x) → (o : Option X) → option_map f o ≡ o
if_kept f same None = refl
if_kept f same (Some x) = ap (λ y. Some y) (same x)

pub each_kept : {X : Type 0} (f : X → X) → ((x : X) → f x ≡ x) → (xs : List X) → map f xs ≡ xs
each_kept f same [] = refl
each_kept f same (x ∷ xs) = ap₂ (λ y ys. y ∷ ys) (same x) (each_kept f same xs)

pub each_back : {X : Type 0} (P : X → Type 0) (f : X → X) → ((x : X) → P x → f x ≡ x) → (xs : List X) → All P xs → map f xs ≡ xs
each_back P f same [] all = refl
each_back P f same (x ∷ xs) all = ap₂ (λ y ys. y ∷ ys) (same x (All-head P x xs all)) (each_back P f same xs (All-tail P x xs all))

pub each_same : {X Y : Type 0} (P : X → Type 0) (f g : X → Y) → ((x : X) → P x → f x ≡ g x) → (xs : List X) → All P xs → map f xs ≡ map g xs
each_same P f g same [] all = refl
each_same P f g same (x ∷ xs) all = ap₂ (λ y ys. y ∷ ys) (same x (All-head P x xs all)) (each_same P f g same xs (All-tail P x xs all))

-- of an element that has a list alone
pub list_read : {X Y : Type 0} (name least most : ℕ) (t : Table inside Y) (own : X → Inside) (meant : X → Y) → ((x : X) → read t (own x) ≡ meant x)
    → (xs : List X) → read (list_of name least most t) (holding (each name (map own xs) ∷ [])) ≡ map meant xs
list_read name least most t own meant same xs =
    ap (λ c. map (λ i. read t i) (c name)) (children_held [] (each name (map own xs) ∷ []))
    ∙ ap (λ b. map (λ i. read t i) (kept_each b (map own xs) [])) (same_number name)
    ∙ reads_each (λ i. read t i) own meant same xs
