-- What `clap` makes of the words behind a command's name, of which none begins with `-`.
use Rattle.std.proofs.Common.{◌≡◌, ◌==◌, ℕ, ◌⊎◌, inl, inr, true, false, List, [], ◌∷◌, None, length, refl, sym, subst, arith}
use Rattle.std.specs.List.{AllByRecursion}
use Rattle.std.specs.Str.{bytes_eq}
use Rattle.clap.specs.Lexer.{long_of, short_of}
use Rattle.clap.specs.Walk.{Row, Text, nothing_held, rows_after}
use Rattle.clap.specs.Simple.{Shape, built_leaf, inherited, marked_built, with_leaf_noted}
use Rattle.clap.specs.Kinds.{Kinds}
use Rattle.clap.specs.Faults.{level_fault}
use Rattle.clap.specs.declared.error.kind.ErrorKind.TheVariants.{MissingRequiredArgument, UnknownArgument}
use Rattle.clap.proofs.SimpleLemmas.{is_false}
use Rattle.clap.proofs.OnLiterals.{clap_on_literals}
use Rattle.command_words.specs.Command.{is_plain}
use Rattle.command_words.specs.Grammar.{count_of, given_rows, program_of, shape}
use Rattle.command_words.specs.declared.forms.Values.{Values}
use Rattle.command_words.specs.declared.forms.Values.TheVariants.{One, Two, Three}

-- a word that is read as no option
pub record IsNoOption (word : Text) : Type 0 where
  pub no_dashes : bytes_eq word (45 ∷ 45 ∷ []) ≡ false
  pub not_long : long_of word ≡ None
  pub not_short : short_of word ≡ None

pub no_option : (word : Text) → is_plain word ≡ true → IsNoOption word
no_option [] h = record { no_dashes = refl; not_long = refl; not_short = refl }
no_option (x ∷ xs) h =
    let e : (x == 45) ≡ false = is_false (x == 45) h in
    record { no_dashes = rw e refl; not_long = rw e refl; not_short = rw e refl }

-- there is a fault
abbrev pub IsFaulty : Kinds → Type 0
IsFaulty [] = ⊥
IsFaulty (k ∷ ks) = Unit {0}

pub faulty : (kinds found : Kinds) → kinds ≡ found → IsFaulty found → IsFaulty kinds
faulty kinds found e h = subst IsFaulty (sym e) h

-- a command as the program builds it
abbrev pub built_in : Shape → Shape
built_in s = built_leaf (inherited (with_leaf_noted (marked_built (program_of []).top)) s)

abbrev pub fault_below : Shape → List Text → Kinds
fault_below s words = level_fault (built_in s) [] nothing_held words false []

abbrev pub rows_below : Shape → List Text → List Row
rows_below s words = rows_after (built_in s).rules [] words

-- ---- one value

one_passes : (name v : Text) → IsNoOption v → fault_below (shape name One) (v ∷ []) ≡ []
unfolding clap_on_literals
one_passes name v h = rw (h.no_dashes, h.not_long, h.not_short) refl

one_rows : (name v : Text) → IsNoOption v → rows_below (shape name One) (v ∷ []) ≡ given_rows (v ∷ [])
unfolding clap_on_literals
one_rows name v h = rw (h.no_dashes, h.not_long, h.not_short) refl

one_none : (name : Text) → fault_below (shape name One) [] ≡ MissingRequiredArgument ∷ []
unfolding clap_on_literals
one_none name = refl

one_more : (name v w : Text) (rest : List Text) → IsNoOption v → IsNoOption w → fault_below (shape name One) (v ∷ w ∷ rest) ≡ UnknownArgument ∷ []
unfolding clap_on_literals
one_more name v w rest h k = rw (h.no_dashes, h.not_long, h.not_short, k.no_dashes, k.not_long, k.not_short) refl

-- ---- two values

two_passes : (name d v : Text) → IsNoOption d → IsNoOption v → fault_below (shape name Two) (d ∷ v ∷ []) ≡ []
unfolding clap_on_literals
two_passes name d v h k = rw (h.no_dashes, h.not_long, h.not_short, k.no_dashes, k.not_long, k.not_short) refl

two_rows : (name d v : Text) → IsNoOption d → IsNoOption v → rows_below (shape name Two) (d ∷ v ∷ []) ≡ given_rows (d ∷ v ∷ [])
unfolding clap_on_literals
two_rows name d v h k = rw (h.no_dashes, h.not_long, h.not_short, k.no_dashes, k.not_long, k.not_short) refl

two_none : (name : Text) → fault_below (shape name Two) [] ≡ MissingRequiredArgument ∷ []
unfolding clap_on_literals
two_none name = refl

two_one : (name d : Text) → IsNoOption d → fault_below (shape name Two) (d ∷ []) ≡ MissingRequiredArgument ∷ []
unfolding clap_on_literals
two_one name d h = rw (h.no_dashes, h.not_long, h.not_short) refl

two_more : (name d v w : Text) (rest : List Text) → IsNoOption d → IsNoOption v → IsNoOption w → fault_below (shape name Two) (d ∷ v ∷ w ∷ rest) ≡ UnknownArgument ∷ []
unfolding clap_on_literals
two_more name d v w rest h k l = rw (h.no_dashes, h.not_long, h.not_short, k.no_dashes, k.not_long, k.not_short, l.no_dashes, l.not_long, l.not_short) refl

-- ---- three values

three_passes : (name a b v : Text) → IsNoOption a → IsNoOption b → IsNoOption v → fault_below (shape name Three) (a ∷ b ∷ v ∷ []) ≡ []
unfolding clap_on_literals
three_passes name a b v h k l = rw (h.no_dashes, h.not_long, h.not_short, k.no_dashes, k.not_long, k.not_short, l.no_dashes, l.not_long, l.not_short) refl

three_rows : (name a b v : Text) → IsNoOption a → IsNoOption b → IsNoOption v → rows_below (shape name Three) (a ∷ b ∷ v ∷ []) ≡ given_rows (a ∷ b ∷ v ∷ [])
unfolding clap_on_literals
three_rows name a b v h k l = rw (h.no_dashes, h.not_long, h.not_short, k.no_dashes, k.not_long, k.not_short, l.no_dashes, l.not_long, l.not_short) refl

three_none : (name : Text) → fault_below (shape name Three) [] ≡ MissingRequiredArgument ∷ []
unfolding clap_on_literals
three_none name = refl

three_one : (name a : Text) → IsNoOption a → fault_below (shape name Three) (a ∷ []) ≡ MissingRequiredArgument ∷ []
unfolding clap_on_literals
three_one name a h = rw (h.no_dashes, h.not_long, h.not_short) refl

three_two : (name a b : Text) → IsNoOption a → IsNoOption b → fault_below (shape name Three) (a ∷ b ∷ []) ≡ MissingRequiredArgument ∷ []
unfolding clap_on_literals
three_two name a b h k = rw (h.no_dashes, h.not_long, h.not_short, k.no_dashes, k.not_long, k.not_short) refl

three_more : (name a b v w : Text) (rest : List Text) → IsNoOption a → IsNoOption b → IsNoOption v → IsNoOption w
    → fault_below (shape name Three) (a ∷ b ∷ v ∷ w ∷ rest) ≡ UnknownArgument ∷ []
unfolding clap_on_literals
three_more name a b v w rest h k l m =
    rw (h.no_dashes, h.not_long, h.not_short, k.no_dashes, k.not_long, k.not_short, l.no_dashes, l.not_long, l.not_short, m.no_dashes, m.not_long, m.not_short) refl

-- ---- as many as it has

-- they are as many, and found
pub record IsPassed (name : Text) (v : Values) (values : List Text) : Type 0 where
  pub many : length values ≡ count_of v
  pub passes : fault_below (shape name v) values ≡ []
  pub rows : rows_below (shape name v) values ≡ given_rows values

-- they are more or fewer, and there is a fault
pub record IsStopped (name : Text) (v : Values) (values : List Text) : Type 0 where
  pub other : length values ≡ count_of v → ⊥
  pub fault : IsFaulty (fault_below (shape name v) values)

abbrev pub Judged : Text → Values → List Text → Type 0
Judged name v values = IsPassed name v values ⊎ IsStopped name v values

none_is_one : ◌≡◌ {A = ℕ} 0 1 → ⊥
none_is_one e = omega (arith, e)

more_is_one : (v w : Text) (rest : List Text) → length (v ∷ w ∷ rest) ≡ 1 → ⊥
more_is_one v w rest e = omega (arith, e)

none_is_two : ◌≡◌ {A = ℕ} 0 2 → ⊥
none_is_two e = omega (arith, e)

one_is_two : ◌≡◌ {A = ℕ} 1 2 → ⊥
one_is_two e = omega (arith, e)

more_is_two : (d v w : Text) (rest : List Text) → length (d ∷ v ∷ w ∷ rest) ≡ 2 → ⊥
more_is_two d v w rest e = omega (arith, e)

none_is_three : ◌≡◌ {A = ℕ} 0 3 → ⊥
none_is_three e = omega (arith, e)

one_is_three : ◌≡◌ {A = ℕ} 1 3 → ⊥
one_is_three e = omega (arith, e)

two_is_three : ◌≡◌ {A = ℕ} 2 3 → ⊥
two_is_three e = omega (arith, e)

more_is_three : (a b v w : Text) (rest : List Text) → length (a ∷ b ∷ v ∷ w ∷ rest) ≡ 3 → ⊥
more_is_three a b v w rest e = omega (arith, e)

pub judged : (name : Text) (v : Values) (values : List Text) → AllByRecursion IsNoOption values → Judged name v values
judged name One [] h = inr (record { other = none_is_one; fault = faulty _ _ (one_none name) tt })
judged name One (v ∷ []) h = inl (record { many = refl; passes = one_passes name v h.0; rows = one_rows name v h.0 })
judged name One (v ∷ w ∷ rest) h = inr (record { other = more_is_one v w rest; fault = faulty _ _ (one_more name v w rest h.0 h.1.0) tt })
judged name Two [] h = inr (record { other = none_is_two; fault = faulty _ _ (two_none name) tt })
judged name Two (d ∷ []) h = inr (record { other = one_is_two; fault = faulty _ _ (two_one name d h.0) tt })
judged name Two (d ∷ v ∷ []) h = inl (record { many = refl; passes = two_passes name d v h.0 h.1.0; rows = two_rows name d v h.0 h.1.0 })
judged name Two (d ∷ v ∷ w ∷ rest) h =
    inr (record { other = more_is_two d v w rest; fault = faulty _ _ (two_more name d v w rest h.0 h.1.0 h.1.1.0) tt })
judged name Three [] h = inr (record { other = none_is_three; fault = faulty _ _ (three_none name) tt })
judged name Three (a ∷ []) h = inr (record { other = one_is_three; fault = faulty _ _ (three_one name a h.0) tt })
judged name Three (a ∷ b ∷ []) h = inr (record { other = two_is_three; fault = faulty _ _ (three_two name a b h.0 h.1.0) tt })
judged name Three (a ∷ b ∷ v ∷ []) h =
    inl (record { many = refl; passes = three_passes name a b v h.0 h.1.0 h.1.1.0; rows = three_rows name a b v h.0 h.1.0 h.1.1.0 })
judged name Three (a ∷ b ∷ v ∷ w ∷ rest) h =
    inr (record { other = more_is_three a b v w rest; fault = faulty _ _ (three_more name a b v w rest h.0 h.1.0 h.1.1.0 h.1.1.1.0) tt })
