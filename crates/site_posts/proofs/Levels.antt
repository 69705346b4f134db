-- The level of the posts of a site, and what the others were told.
use Rattle.std.proofs.Common.{◌≡◌, ◌<◌, ◌≤◌, ℕ, zero, suc, ◌+◌, ◌-◌, List, [], ◌∷◌, ◌++◌, length, map, take, drop, get_or, set, replicate, min, max, refl, sym, ap, subst, ◌∙◌, arith, append_assoc}
use Rattle.std.specs.Prelude.{sum, sum_by, fold, slice_index}
use Rattle.std.proofs.Math.Seq.{split_at}
use Rattle.std.proofs.lemmas.List.{length-map, length-take-le, length-drop, map-append, take_more}
use Rattle.std.proofs.lemmas.List.Sums.{sum_by-append, sum_by-cons, fold-append}
use Rattle.power_share.specs.Sharing.{Sharing, greatest_ask, taken_up_to, IsBearable, IsLevel, IsShare, IsShown, told_to_others, at_post, with_post}
use Rattle.power_share.specs.Sharing as sharing
use Rattle.site_posts.specs.declared.place.Place.{Place}
use Rattle.session_timers.specs.Due.{never}
use Rattle.site_posts.specs.Places.{asked_at, told_at, due_at, Shares, asks_so_far, AsksOf}

pub set_behind : {A : Type 0} (xs : List A) (a b : A) (r : List A) → set (xs ++ a ∷ r) (length xs) b ≡ xs ++ b ∷ r
set_behind [] a b r = refl
set_behind (x ∷ xs) a b r = ap (λ (t : List _). x ∷ t) (set_behind xs a b r)

pub get_behind : {A : Type 0} (xs : List A) (a d : A) (r : List A) → get_or (xs ++ a ∷ r) (length xs) d ≡ a
get_behind [] a d r = refl
get_behind (x ∷ xs) a d r = get_behind xs a d r

so_far_length : (places : List Place) (i : ℕ) → i ≤ length places → length (map asked_at (take i places)) ≡ i
so_far_length places i h = length-map (take i places) asked_at ∙ length-take-le i places h

pub set_asks : (places : List Place) (i n : ℕ) (d : Place) → i < length places → length places ≤ 8 → n ≡ asked_at (get_or places i d) → set (asks_so_far places i) i n ≡ asks_so_far places (i + 1)
set_asks places i n d less few is =
    let xs = map asked_at (take i places) in
    let r = replicate (8 - (i + 1)) 0 in
    let zeros : replicate (8 - i) 0 ≡ 0 ∷ r = ap (λ (k : ℕ). replicate k 0) (let e : 8 - i ≡ suc (8 - (i + 1)) = omega arith in e) in
    let here : set (xs ++ 0 ∷ r) i n ≡ xs ++ n ∷ r = subst (λ (k : ℕ). set (xs ++ 0 ∷ r) k n ≡ xs ++ n ∷ r) (so_far_length places i (omega arith)) (set_behind xs 0 n r) in
    let more : map asked_at (take (i + 1) places) ≡ xs ++ n ∷ [] =
    ap (map asked_at) (take_more places i d less) ∙ map-append asked_at (take i places) (get_or places i d ∷ []) ∙ ap (λ (m : ℕ). xs ++ m ∷ []) (sym is) in
    ap (λ (z : List ℕ). set (xs ++ z) i n) zeros ∙ here ∙ sym (ap (λ (t : List ℕ). t ++ r) more ∙ append_assoc xs (n ∷ []) r)

-- posts that don't ask change no level
most_zeros : (k n : ℕ) → fold max n (replicate k 0) ≡ n
most_zeros zero n = refl
most_zeros (suc k) n = let e : max n 0 ≡ n = omega arith in ap (λ (m : ℕ). fold max m (replicate k 0)) e ∙ most_zeros k n

same_most : (xs : List ℕ) (k : ℕ) → greatest_ask (xs ++ replicate k 0) ≡ greatest_ask xs
same_most xs k = fold-append max 0 xs (replicate k 0) ∙ most_zeros k (fold max 0 xs)

taken_zeros : (n k : ℕ) → taken_up_to n (replicate k 0) ≡ 0
taken_zeros n zero = refl
taken_zeros n (suc k) = omega (arith, sum_by-cons (λ ask. min ask n) 0 (replicate k 0), taken_zeros n k)

same_taken : (n : ℕ) (xs : List ℕ) (k : ℕ) → taken_up_to n (xs ++ replicate k 0) ≡ taken_up_to n xs
same_taken n xs k = omega (arith, sum_by-append (λ ask. min ask n) xs (replicate k 0), taken_zeros n k)

bears_front : (limit : ℕ) (xs : List ℕ) (k n : ℕ) → IsBearable limit (xs ++ replicate k 0) n → IsBearable limit xs n
bears_front limit xs k n b = record { asked = omega (arith, b.asked, same_most xs k); borne = omega (arith, b.borne, same_taken n xs k) }

bears_all : (limit : ℕ) (xs : List ℕ) (k n : ℕ) → IsBearable limit xs n → IsBearable limit (xs ++ replicate k 0) n
bears_all limit xs k n b = record { asked = omega (arith, b.asked, same_most xs k); borne = omega (arith, b.borne, same_taken n xs k) }

level_front : (limit : ℕ) (xs : List ℕ) (k n : ℕ) → IsLevel limit (xs ++ replicate k 0) n → IsLevel limit xs n
level_front limit xs k n l = record {
  bearable = bears_front limit xs k n l.bearable;
  greatest = λ m b. l.greatest m (bears_all limit xs k m b);
}

-- nobody was told watts
sum_zeros : (k : ℕ) → sum (replicate k 0) ≡ 0
sum_zeros zero = refl
sum_zeros (suc k) = omega (arith, sum_zeros k)

none_told : (k i : ℕ) → sum (set (replicate k 0) i 0) ≡ 0
none_told zero i = refl
none_told (suc k) zero = omega (arith, sum_zeros k)
none_told (suc k) (suc i) = omega (arith, none_told k i)

told_none : (i : ℕ) → sum (set (replicate 8 0) i 0) ≡ 0
told_none i = none_told 8 i

take_all : (places : List Place) → take (length places) places ≡ places
take_all [] = refl
take_all (p ∷ ps) = ap (λ (t : List Place). p ∷ t) (take_all ps)

-- all ask, and post i for other watts
asks_with : (places : List Place) (i asked : ℕ) (d : Place) → i < length places → set (asks_so_far places (length places)) i asked ≡ (map asked_at (take i places) ++ asked ∷ map asked_at (drop (i + 1) places)) ++ replicate (8 - length places) 0
asks_with places i asked d less =
    let xs = map asked_at (take i places) in
    let ys = map asked_at (drop (suc i) places) in
    let z = replicate (8 - length places) 0 in
    let whole : map asked_at places ≡ xs ++ asked_at (get_or places i d) ∷ ys =
    ap (map asked_at) (split_at places i d less) ∙ map-append asked_at (take i places) (get_or places i d ∷ drop (suc i) places) in
    let all : map asked_at (take (length places) places) ≡ xs ++ asked_at (get_or places i d) ∷ ys = ap (map asked_at) (take_all places) ∙ whole in
    let cut : asks_so_far places (length places) ≡ xs ++ asked_at (get_or places i d) ∷ (ys ++ z) =
    ap (λ (t : List ℕ). t ++ z) all ∙ append_assoc xs (asked_at (get_or places i d) ∷ ys) z in
    let here : set (xs ++ asked_at (get_or places i d) ∷ (ys ++ z)) i asked ≡ xs ++ asked ∷ (ys ++ z) =
    subst (λ (k : ℕ). set (xs ++ asked_at (get_or places i d) ∷ (ys ++ z)) k asked ≡ xs ++ asked ∷ (ys ++ z)) (so_far_length places i (omega arith)) (set_behind xs _ asked (ys ++ z)) in
    let next : drop (suc i) places ≡ drop (i + 1) places = ap (λ (k : ℕ). drop k places) (let e : suc i ≡ i + 1 = omega arith in e) in
    ap (λ (t : List ℕ). set t i asked) cut ∙ here ∙ sym (append_assoc xs (asked ∷ ys) z) ∙ ap (λ (ps : List Place). (xs ++ asked ∷ map asked_at ps) ++ z) next

at_asked : (xs : List ℕ) (i asked : ℕ) (r : List ℕ) → length xs ≡ i → slice_index (xs ++ asked ∷ r) i ≡ asked
at_asked xs i asked r e = subst (λ (k : ℕ). slice_index (xs ++ asked ∷ r) k ≡ asked) e (get_behind xs asked 0 r)

pub shared : (limit : ℕ) (places : List Place) (i asked most result : ℕ) (d : Place) (s : Sharing) → i < length places → length places ≤ 8 → AsksOf limit places (length places) s → IsShown (sharing.asked s (i + 1) asked) (i + 1) most
    → result ≡ min most (limit - (sum_by told_at (take i places) + sum_by told_at (drop (i + 1) places))) → Shares limit places i asked result
shared limit places i asked most result d s less few asks shown is =
    let front = map asked_at (take i places) ++ asked ∷ map asked_at (drop (i + 1) places) in
    let z = replicate (8 - length places) 0 in
    let place : (i + 1) - 1 ≡ i = omega arith in
    let made : (sharing.asked s (i + 1) asked).asks ≡ front ++ z =
    ap (λ (t : Sharing). set t.asks ((i + 1) - 1) asked) asks ∙ ap (λ (k : ℕ). set (asks_so_far places (length places)) k asked) place ∙ asks_with places i asked d less in
    let limit_is : (sharing.asked s (i + 1) asked).limit ≡ limit = ap (λ (t : Sharing). t.limit) asks in
    let told_is : (sharing.asked s (i + 1) asked).told ≡ replicate 8 0 = ap (λ (t : Sharing). t.told) asks in
    let level = shown.level in
    let is_level : IsLevel limit (front ++ z) level = subst (λ (l : ℕ). IsLevel l (front ++ z) level) limit_is (subst (λ (t : List ℕ). IsLevel (sharing.asked s (i + 1) asked).limit t level) made shown.is_level) in
    let here : at_post (sharing.asked s (i + 1) asked).asks (i + 1) ≡ asked =
    ap (λ (t : List ℕ). slice_index t ((i + 1) - 1)) made ∙ ap (λ (k : ℕ). slice_index (front ++ z) k) place
    ∙ ap (λ (t : List ℕ). slice_index t i) (append_assoc (map asked_at (take i places)) (asked ∷ map asked_at (drop (i + 1) places)) z)
    ∙ at_asked (map asked_at (take i places)) i asked (map asked_at (drop (i + 1) places) ++ z) (so_far_length places i (omega arith)) in
    let others : told_to_others (sharing.asked s (i + 1) asked).told (i + 1) ≡ 0 =
    ap (λ (t : List ℕ). sum (set t ((i + 1) - 1) 0)) told_is ∙ ap (λ (k : ℕ). sum (set (replicate 8 0) k 0)) place ∙ told_none i in
    let least = shown.least in
    record {
      level = level;
      is_level = level_front limit front (8 - length places) level is_level;
      least = omega (arith, is, least, here, others, limit_is);
    }

-- the least moment so far
least_le : (n : ℕ) (xs : List ℕ) → fold min n xs ≤ n
least_le n [] = omega arith
least_le n (x ∷ xs) = omega (arith, least_le (min n x) xs)

pub until_more : (places : List Place) (i : ℕ) (p : Place) (least due result : ℕ) → i < length places → p ≡ get_or places i p → least ≡ fold min never (map due_at (take i places)) → due ≡ min never (due_at p) → result ≡ min least due
    → result ≡ fold min never (map due_at (take (i + 1) places))
until_more places i p least due result less is so_far due_is result_is =
    let xs = map due_at (take i places) in
    let more : map due_at (take (i + 1) places) ≡ xs ++ due_at p ∷ [] =
    ap (map due_at) (take_more places i p less) ∙ map-append due_at (take i places) (get_or places i p ∷ []) ∙ ap (λ (q : Place). xs ++ due_at q ∷ []) (sym is) in
    let folded : fold min never (xs ++ due_at p ∷ []) ≡ min (fold min never xs) (due_at p) = fold-append min never xs (due_at p ∷ []) in
    let e : result ≡ min (fold min never xs) (due_at p) = omega (arith, result_is, due_is, so_far, least_le never xs) in
    e ∙ sym folded ∙ sym (ap (fold min never) more)

-- what stands behind a place
pub rest_of : (places : List Place) (k : ℕ) → take (length places - k) (drop k places) ≡ drop k places
rest_of places k = ap (λ (n : ℕ). take n (drop k places)) (sym (length-drop k places)) ∙ take_all (drop k places)
