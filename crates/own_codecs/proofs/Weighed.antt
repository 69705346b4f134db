-- What a reply weighs: the watts that it spells are no more than those that its word tells.
use Rattle.std.proofs.Common.{◌≡◌, ◌≤◌, ℕ, max, ◌*◌, ◌/◌, List, [], ◌∷◌, ◌++◌, map, Some, None, refl, sym, subst, arith}
use Rattle.std.specs.Prelude.{fold, ℤ, pos}
use Rattle.std.specs.List.{AllByRecursion, flat_map}
use Rattle.message_parts.specs.Contents.{Inside}
use Rattle.session_words.specs.Amounts.{above_zero, units_of}
use Rattle.session_words.specs.declared.limits.Tuple.{Tuple}
use Rattle.session_words.specs.declared.plan.PostPlan.{PostPlan}
use Rattle.session_words.specs.declared.word.Reply.{Reply}
use Rattle.session_words.specs.declared.word.Tell.{Tell}
use Rattle.session_words.specs.declared.word.Tell.TheVariants as tell
use Rattle.session_words.specs.declared.word.Word.{Word}
use Rattle.session_words.specs.declared.word.Word.TheVariants as word
use Rattle.post_spec.specs.Kinds.{tell_watts}
use Rattle.post_spec.specs.Spelled.{dropped, dropped_tell, read_back}
use Rattle.tree_words.specs.Named.{children, head, within}
use Rattle.word_tables.specs.Tables.{or_empty}
use Rattle.told_pasts.specs.Spelling.{Written, SpelledWatts, most_in, spelled_in}
use Rattle.audit_watts.specs.Values.{no_watts}
use Rattle.own_courses.specs.Owning.{IsSingle}

-- a word that is a reply tells no fewer watts than these, where each of its schedules has one entry
abbrev pub IsWeighed : PostPlan → SpelledWatts → Word → Type 0
IsWeighed plan s (word.Request r) = Unit {0}
IsWeighed plan s (word.Reply r) = IsSingle r.tell → spelled_in plan s ≤ tell_watts plan r.tell
IsWeighed plan s word.Nothing = Unit {0}

pub none_least : (n : ℕ) → 0 ≤ n
none_least n = omega arith

-- so does each word where these are none
pub quiet : (plan : PostPlan) (w : Word) → IsWeighed plan no_watts w
quiet plan (word.Request r) = tt
quiet plan (word.Reply r) = λ single. none_least (tell_watts plan r.tell)
quiet plan word.Nothing = tt

-- ---- parts of what is spelled

pub power_least : (n m : ℕ) → n ≡ m → max (max n 0) 0 ≤ m
power_least n m is = omega (arith, is)

pub current_least : (n m : ℕ) → n ≡ m → max (max 0 n) 0 ≤ m
current_least n m is = omega (arith, is)

pub first_least : (n m : ℕ) → n ≤ m → max n 0 ≤ m
first_least n m is = omega (arith, is)

pub last_least : (n m : ℕ) → n ≤ m → max 0 n ≤ m
last_least n m is = omega (arith, is)

pub none_more : (n m : ℕ) → max 0 n ≤ m → n ≤ m
none_more n m h = omega (arith, h)

pub both_least : (a b c d : ℕ) → a ≤ c → b ≤ d → max a b ≤ max d c
both_least a b c d h k = omega (arith, h, k)

pub equal_least : (n m : ℕ) → n ≡ m → n ≤ m
equal_least n m is = omega (arith, is)

pub whole_is : (v : ℤ) → units_of (pos 0) v ≡ above_zero v
whole_is v = let e : above_zero v * 1000 / 1000 ≡ above_zero v = omega arith in e

-- what is within the first of these, if there is one
pub within_is : (found : List Inside) → within found ≡ children (or_empty (head found))
within_is [] = refl
within_is (i ∷ more) = refl

-- ---- schedules

most_both : (ws vs : List Written) → most_in (ws ++ vs) ≡ max (most_in ws) (most_in vs)
most_both [] vs = omega arith
most_both (w ∷ ws) vs = let rest = most_both ws vs in omega (arith, rest)

more_least : (a s m n r : ℕ) → m ≤ s → max (max a s) n ≤ r → max a (max m n) ≤ r
more_least a s m n r h k = omega (arith, h, k)

abbrev are_single : List Tuple → Type 0
are_single = AllByRecursion (λ t. t.entries ≡ 1)

-- those of all tuples, where those of each are within what it tells
pub tuples_least : (tuple_in : Inside → List Written) (read : Inside → Tuple)
    → ((i : Inside) → (read i).entries ≡ 1 → most_in (tuple_in i) ≤ (read i).least.size)
    → (found : List Inside) (a : ℕ) → are_single (map read found) → max a (most_in (flat_map tuple_in found)) ≤ fold max a (map (λ t. t.least.size) (map read found))
tuples_least tuple_in read each [] a single = omega arith
tuples_least tuple_in read each (i ∷ more) a single =
    let both : most_in (tuple_in i ++ flat_map tuple_in more) ≡ max (most_in (tuple_in i)) (most_in (flat_map tuple_in more)) =
    most_both (tuple_in i) (flat_map tuple_in more) in
    let rest : max (max a (read i).least.size) (most_in (flat_map tuple_in more)) ≤ fold max (max a (read i).least.size) (map (λ t. t.least.size) (map read more)) = tuples_least tuple_in read each more (max a (read i).least.size) single.1 in
    subst (λ (n : ℕ). max a n ≤ fold max (max a (read i).least.size) (map (λ t. t.least.size) (map read more))) (sym both)
    (more_least a (read i).least.size (most_in (tuple_in i)) (most_in (flat_map tuple_in more)) (fold max (max a (read i).least.size) (map (λ t. t.least.size) (map read more))) (each i single.0) rest)

-- ---- watts that are dropped leave as many entries

tuples_single : (ts : List Tuple) → are_single ts → are_single (map (λ t. record { id = t.id; entries = t.entries; least = dropped t.least }) ts)
tuples_single [] single = tt
tuples_single (t ∷ ts) single = (single.0, tuples_single ts single.1)

pub single_back : (t : Tell) → IsSingle t → IsSingle (dropped_tell t)
single_back (tell.ChargeParameters processing None limits) single = tt
single_back (tell.ChargeParameters processing (Some tuples) limits) single = tuples_single tuples.items single
single_back other single = tt

-- ---- a word that reads as the reply

pub reply_least : (plan : PostPlan) (reply : Reply) (s : SpelledWatts) (w : Word) → w ≡ word.Reply (read_back reply) → IsWeighed plan s w → IsSingle reply.tell
    → spelled_in plan s ≤ tell_watts plan (read_back reply).tell
reply_least plan reply s w is weighed single =
    let told : IsWeighed plan s (word.Reply (read_back reply)) = subst (IsWeighed plan s) is weighed in
    told (single_back reply.tell single)
