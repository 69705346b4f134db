-- What is asked for by the words of a command.
use Rattle.std.proofs.Common.{◌≡◌, ◌≢◌, ◌∙◌, ◌<◌, ◌≤◌, ◌^◌, ◌-◌, ◌+◌, ◌&&◌, nat_le, nat_lt, ℕ, Bool, cond, true, false, List, [], ◌∷◌, length, Option, Some, None, codes, decimal, refl, sym, ap, ap₂, subst, arith, Box, box_value}
use Rattle.std.specs.List.{AllByRecursion, list_all}
use Rattle.std.specs.Prelude.{IfOk, IfErr, IsSomeAnd, option_and_then, option_map}
use Rattle.std.specs.Option.{ok_or}
use Rattle.std.specs.Str.Parse.{digits_value}
use Rattle.std.specs.Str.{bytes_eq}
use Rattle.std.proofs.lemmas.Bool.{le-leb, leb-true}
use Rattle.std.proofs.lemmas.Bool.Decides.{Decides-ltb}
use Rattle.std.proofs.lemmas.Slice.Eq.{bytes_eq-Decides}
use Rattle.std.proofs.lemmas.Fmt.{decimal_is_IsNumeral}
use Rattle.clap.specs.Walk.{Row, Text}
use Rattle.clap.specs.Words.{found_of, rows_of}
use Rattle.clap.specs.Simple.{subcommand_rows}
use Rattle.clap.specs.declared.parser.matches.SubCommand.{SubCommand}
use Rattle.clap.specs.declared.parser.matches.ArgMatches.TheViews.{out-SubCommand}
use Rattle.message_dialects.specs.declared.dialect.MessageDialect.{MessageDialect}
use Rattle.message_dialects.specs.declared.dialect.MessageDialect.TheVariants.{App, Iso, Din}
use Rattle.command_words.specs.Command.{Asked, Asks, HasWordsFault, IsCommand, IsNoCommand, asked_of, audit, basic, car, decode, dialect_named, dialect_word, day, encode, generate, is_plain, IsWithin, migrate, most_sessions, offer, pick, replay, schedule, seeds, services, shorts, station, talk, words_of}
use Rattle.command_words.specs.Grammar.{Form, IsMatched, IsTaken, IsUnmatched, count_of, forms, given_rows, is_number, named, number_named, on_dialect, told, told_of, with_count, with_number, with_one, with_seed, with_two}
use Rattle.command_words.specs.declared.reading.Command.{Command}
use Rattle.command_words.specs.declared.reading.WordsFault.TheVariants.{NoCommand}

same_some : {X : Type 0} (a b : X) → Some a ≡ Some b → a ≡ b
same_some a b e = cc

-- ---- numbers

cond_true : {X : Type 0} (b : Bool) (x y : X) → b ≡ true → cond b x y ≡ x
cond_true true x y h = refl
cond_true false x y h = let bad : false ≡ true = h in absurd cc

cond_false : {X : Type 0} (b : Bool) (x y : X) → (b ≡ true → ⊥) → cond b x y ≡ y
cond_false true x y h = absurd (h refl)
cond_false false x y h = refl

both_true : (a b : Bool) → a ≡ true → b ≡ true → (a && b) ≡ true
both_true true b p q = q
both_true false b p q = p

both_parts : (a b : Bool) → (a && b) ≡ true → (a ≡ true) × (b ≡ true)
both_parts true b h = (refl, h)
both_parts false b h = (h, let bad : false ≡ true = h in absurd cc)

abbrev pub Fits : ℕ → Type 0
Fits bound = bound ≤ 2 ^ 64

day_fits : Fits day
day_fits = omega arith

shorts_fit : Fits shorts
shorts_fit = omega arith

pub seeds_fit : Fits seeds
seeds_fit = omega arith

pub counts_fit : Fits (most_sessions + 1)
counts_fit = omega arith

value_is : (bound n : ℕ) → Fits bound → n < bound → digits_value 10 (decimal n) ≡ n
value_is bound n fits less = (decimal_is_IsNumeral n (omega (arith, fits, less))).1

-- the text of a number within the bounds is that number
pub number_is : (least bound n : ℕ) → Fits bound → least ≤ n → n < bound → number_named least bound (decimal n) ≡ Some n
unfolding number_named
number_is least bound n fits most less =
    let value = value_is bound n fits less in
    subst (λ (v : ℕ). cond (is_number least bound (decimal n) v) (Some v) None ≡ Some n) (sym value)
    (cond_true (is_number least bound (decimal n) n) (Some n) None
    (both_true _ _ (both_true _ _ ((bytes_eq-Decides (decimal n) (decimal n)).1 refl) (le-leb least n most)) ((Decides-ltb n bound).1 less)))

-- what a test of a number says
pub record IsSpelledNumber (least bound : ℕ) (word : Text) (n : ℕ) : Type 0 where
  pub spelled : word ≡ decimal n
  pub from : least ≤ n
  pub below : n < bound

tested : (least bound : ℕ) (word : Text) (n : ℕ) → is_number least bound word n ≡ true → IsSpelledNumber least bound word n
tested least bound word n is =
    let parts = both_parts (bytes_eq (decimal n) word && nat_le least n) (nat_lt n bound) is in
    let first = both_parts (bytes_eq (decimal n) word) (nat_le least n) parts.0 in
    record { spelled = sym ((bytes_eq-Decides (decimal n) word).0 first.0); from = leb-true least n first.1; below = (Decides-ltb n bound).0 parts.1 }

-- another word is none
pub number_none : (least bound : ℕ) (word : Text) → ((n : ℕ) → least ≤ n → n < bound → word ≢ decimal n) → number_named least bound word ≡ None
unfolding number_named
number_none least bound word none =
    let n = digits_value 10 word in
    cond_false (is_number least bound word n) (Some n) None (λ is.
    let test = tested least bound word n is in
    none n test.from test.below test.spelled)

-- a number that was read of the word, and none
pub number_read : (least bound n : ℕ) (word : Text) → 0 < bound → Fits bound → least ≤ n → n ≤ bound - 1 → word ≡ decimal n → Some n ≡ number_named least bound word
number_read least bound n word some fits from most spelled =
    sym (ap (number_named least bound) spelled ∙ number_is least bound n fits from (omega (arith, some, most)))

pub number_unread : (least bound : ℕ) (word : Text) → 0 < bound → ((n : ℕ) → (least ≤ n) × (n ≤ bound - 1) → word ≢ decimal n) → None ≡ number_named least bound word
number_unread least bound word some none = sym (number_none least bound word (λ n from less. none n (from, omega (arith, some, less))))

-- what is found is spelled so, and is within the bounds
pub number_of : (least bound : ℕ) (word : Text) (n : ℕ) → number_named least bound word ≡ Some n → IsSpelledNumber least bound word n
unfolding number_named
number_of least bound word n = go (is_number least bound word (digits_value 10 word)) refl
  where
    go : (b : Bool) → is_number least bound word (digits_value 10 word) ≡ b → cond b (Some (digits_value 10 word)) None ≡ Some n → IsSpelledNumber least bound word n
    go true is e = subst (IsSpelledNumber least bound word) (same_some (digits_value 10 word) n e) (tested least bound word (digits_value 10 word) is)
    go false is e = let bad : None ≡ Some n = e in absurd cc

-- ---- the words of what is asked for are read as that

pub record IsRead (asked : Asked) : Type 0 where
  pub name : Text
  pub values : List Text
  pub words_are : words_of asked ≡ name ∷ values
  pub taken : IsTaken name values
  pub told_is : told_of name (given_rows values) ≡ Some asked

pub read : (asked : Asked) → IsWithin asked → IsRead asked
read (station plan) within = record { name = codes "station"; values = plan ∷ []; words_are = refl; taken = refl; told_is = refl }
read (car plan) within = record { name = codes "car"; values = plan ∷ []; words_are = refl; taken = refl; told_is = refl }
read (replay plan trace) within = record { name = codes "replay"; values = plan ∷ trace ∷ []; words_are = refl; taken = refl; told_is = refl }
read (audit plan trace) within = record { name = codes "audit"; values = plan ∷ trace ∷ []; words_are = refl; taken = refl; told_is = refl }
read (talk site vehicle seed) within = record {
  name = codes "talk";
  values = site ∷ vehicle ∷ decimal seed ∷ [];
  words_are = refl;
  taken = refl;
  told_is = ap (λ (n : Option ℕ). option_map (λ (found : Text × Text × ℕ). talk found.0 found.1 found.2) (option_map (λ (number : ℕ). (site, vehicle, number)) n)) (number_is 0 seeds seed seeds_fit (omega arith) within);
}
read (generate seed count) within = record {
  name = codes "generate";
  values = decimal seed ∷ decimal count ∷ [];
  words_are = refl;
  taken = refl;
  told_is = ap₂ (λ (m n : Option ℕ). option_map (λ (pair : ℕ × ℕ). generate pair.0 pair.1) (option_and_then (λ (seed : ℕ). option_map (λ (count : ℕ). (seed, count)) n) m))
      (number_is 0 seeds seed seeds_fit (omega arith) within.0) (number_is 1 (most_sessions + 1) count counts_fit within.1 (omega (arith, within.2)));
}
read (decode App hex) within = record { name = codes "decode"; values = codes "app" ∷ hex ∷ []; words_are = refl; taken = refl; told_is = refl }
read (decode Iso hex) within = record { name = codes "decode"; values = codes "iso" ∷ hex ∷ []; words_are = refl; taken = refl; told_is = refl }
read (decode Din hex) within = record { name = codes "decode"; values = codes "din" ∷ hex ∷ []; words_are = refl; taken = refl; told_is = refl }
read (encode App text) within = record { name = codes "encode"; values = codes "app" ∷ text ∷ []; words_are = refl; taken = refl; told_is = refl }
read (encode Iso text) within = record { name = codes "encode"; values = codes "iso" ∷ text ∷ []; words_are = refl; taken = refl; told_is = refl }
read (encode Din text) within = record { name = codes "encode"; values = codes "din" ∷ text ∷ []; words_are = refl; taken = refl; told_is = refl }
read (basic script) within = record { name = codes "basic"; values = script ∷ []; words_are = refl; taken = refl; told_is = refl }
read (migrate trace) within = record { name = codes "migrate"; values = trace ∷ []; words_are = refl; taken = refl; told_is = refl }
read (offer calendar moment) within = record {
  name = codes "offer";
  values = calendar ∷ decimal moment ∷ [];
  words_are = refl;
  taken = refl;
  told_is = ap (λ (n : Option ℕ). option_map (λ (pair : Text × ℕ). offer pair.0 pair.1) (option_map (λ (number : ℕ). (calendar, number)) n)) (number_is 0 day moment day_fits (omega arith) within);
}
read (schedule need hex) within = record { name = codes "schedule"; values = need ∷ hex ∷ []; words_are = refl; taken = refl; told_is = refl }
read (services catalogue id) within = record {
  name = codes "services";
  values = catalogue ∷ decimal id ∷ [];
  words_are = refl;
  taken = refl;
  told_is = ap (λ (n : Option ℕ). option_map (λ (pair : Text × ℕ). services pair.0 pair.1) (option_map (λ (number : ℕ). (catalogue, number)) n)) (number_is 0 shorts id shorts_fit (omega arith) within);
}
read (pick want hex) within = record { name = codes "pick"; values = want ∷ hex ∷ []; words_are = refl; taken = refl; told_is = refl }

same_told : (asked other : Asked) → IsWithin asked → IsWithin other → words_of asked ≡ words_of other → Some asked ≡ Some other
same_told asked other h k e =
    let one = read asked h in
    let two = read other k in
    let whole : one.name ∷ one.values ≡ two.name ∷ two.values = sym one.words_are ∙ e ∙ two.words_are in
    let name : one.name ≡ two.name = cc in
    let values : one.values ≡ two.values = cc in
    sym one.told_is ∙ subst (λ (n : Text). told_of n (given_rows one.values) ≡ told_of two.name (given_rows two.values)) (sym name) (ap (λ (vs : List Text). told_of two.name (given_rows vs)) values) ∙ two.told_is

-- words ask for one thing
pub one_asked : (words : List Text) (asked other : Asked) → Asks words asked → Asks words other → asked ≡ other
one_asked words asked other h k = same_some asked other (same_told asked other h.within k.within (sym h.words_are ∙ k.words_are))

-- ---- what is told of words has these words

-- the words of what is asked for, whose number is within its bounds
abbrev Says : List Text → Asked → Type 0
Says words asked = (words ≡ words_of asked) × IsWithin asked

abbrev MakesWords : Form → Type 0
MakesWords form = (values : List Text) (asked : Asked) → length values ≡ count_of form.values → form.asks (given_rows values) ≡ Some asked → Says (form.name ∷ values) asked

said_by : (words : List Text) (made asked : Asked) → Some made ≡ Some asked → Says words made → Says words asked
said_by words made asked e h = subst (Says words) (same_some made asked e) h

makes_one : (name : Text) (make : Text → Asked) → ((a : Text) → Says (name ∷ a ∷ []) (make a)) → MakesWords (with_one name make)
makes_one name make is [] asked many told = absurd (omega (arith, many))
makes_one name make is (a ∷ []) asked many told = said_by _ (make a) asked told (is a)
makes_one name make is (a ∷ b ∷ rest) asked many told = absurd (omega (arith, many))

makes_two : (name : Text) (make : Text → Text → Asked) → ((a b : Text) → Says (name ∷ a ∷ b ∷ []) (make a b)) → MakesWords (with_two name make)
makes_two name make is [] asked many told = absurd (omega (arith, many))
makes_two name make is (a ∷ []) asked many told = absurd (omega (arith, many))
makes_two name make is (a ∷ b ∷ []) asked many told = said_by _ (make a b) asked told (is a b)
makes_two name make is (a ∷ b ∷ c ∷ rest) asked many told = absurd (omega (arith, many))

makes_number : (name : Text) (bound : ℕ) (make : Text → ℕ → Asked) → ((a : Text) (n : ℕ) → n < bound → Says (name ∷ a ∷ decimal n ∷ []) (make a n)) → MakesWords (with_number name bound make)
makes_number name bound make is [] asked many says = absurd (omega (arith, many))
makes_number name bound make is (a ∷ []) asked many says = absurd (omega (arith, many))
makes_number name bound make is (a ∷ b ∷ []) asked many says = go (number_named 0 bound b) refl says
  where
    go : (found : Option ℕ) → number_named 0 bound b ≡ found → option_map (λ (pair : Text × ℕ). make pair.0 pair.1) (option_map (λ (number : ℕ). (a, number)) found) ≡ Some asked → Says (name ∷ a ∷ b ∷ []) asked
    go None is_none e = let bad : None ≡ Some asked = e in absurd cc
    go (Some n) found e =
        let number = number_of 0 bound b n found in
        said_by _ (make a n) asked e (subst (λ (w : Text). Says (name ∷ a ∷ w ∷ []) (make a n)) (sym number.spelled) (is a n number.below))
makes_number name bound make is (a ∷ b ∷ c ∷ rest) asked many says = absurd (omega (arith, many))

makes_seed : (name : Text) (make : Text → Text → ℕ → Asked) → ((a b : Text) (n : ℕ) → n < seeds → Says (name ∷ a ∷ b ∷ decimal n ∷ []) (make a b n)) → MakesWords (with_seed name make)
makes_seed name make is [] asked many says = absurd (omega (arith, many))
makes_seed name make is (a ∷ []) asked many says = absurd (omega (arith, many))
makes_seed name make is (a ∷ b ∷ []) asked many says = absurd (omega (arith, many))
makes_seed name make is (a ∷ b ∷ c ∷ []) asked many says = go (number_named 0 seeds c) refl says
  where
    go : (found : Option ℕ) → number_named 0 seeds c ≡ found → option_map (λ (found : Text × Text × ℕ). make found.0 found.1 found.2) (option_map (λ (number : ℕ). (a, b, number)) found) ≡ Some asked
        → Says (name ∷ a ∷ b ∷ c ∷ []) asked
    go None is_none e = let bad : None ≡ Some asked = e in absurd cc
    go (Some n) found e =
        let number = number_of 0 seeds c n found in
        said_by _ (make a b n) asked e (subst (λ (w : Text). Says (name ∷ a ∷ b ∷ w ∷ []) (make a b n)) (sym number.spelled) (is a b n number.below))
makes_seed name make is (a ∷ b ∷ c ∷ d ∷ rest) asked many says = absurd (omega (arith, many))

makes_count : (name : Text) (make : ℕ → ℕ → Asked)
    → ((m n : ℕ) → m < seeds → 1 ≤ n → n < most_sessions + 1 → Says (name ∷ decimal m ∷ decimal n ∷ []) (make m n)) → MakesWords (with_count name make)
makes_count name make is [] asked many says = absurd (omega (arith, many))
makes_count name make is (a ∷ []) asked many says = absurd (omega (arith, many))
makes_count name make is (a ∷ b ∷ []) asked many says = go (number_named 0 seeds a) (number_named 1 (most_sessions + 1) b) refl refl says
  where
    go : (one other : Option ℕ) → number_named 0 seeds a ≡ one → number_named 1 (most_sessions + 1) b ≡ other
        → option_map (λ (pair : ℕ × ℕ). make pair.0 pair.1) (option_and_then (λ (seed : ℕ). option_map (λ (count : ℕ). (seed, count)) other) one) ≡ Some asked
        → Says (name ∷ a ∷ b ∷ []) asked
    go None other is_none second e = let bad : None ≡ Some asked = e in absurd cc
    go (Some m) None first is_none e = let bad : None ≡ Some asked = e in absurd cc
    go (Some m) (Some n) first second e =
        let seed = number_of 0 seeds a m first in
        let count = number_of 1 (most_sessions + 1) b n second in
        said_by _ (make m n) asked e (subst (λ (w : Text). Says (name ∷ w ∷ b ∷ []) (make m n)) (sym seed.spelled)
        (subst (λ (w : Text). Says (name ∷ decimal m ∷ w ∷ []) (make m n)) (sym count.spelled) (is m n seed.below count.from count.below)))
makes_count name make is (a ∷ b ∷ c ∷ rest) asked many says = absurd (omega (arith, many))

named_word : (word : Text) (dialect : MessageDialect) → dialect_named word ≡ Some dialect → word ≡ dialect_word dialect
named_word word dialect h = go (bytes_eq word (dialect_word App)) (bytes_eq word (dialect_word Iso)) (bytes_eq word (dialect_word Din)) refl refl refl h
  where
    go : (a i d : Bool) → bytes_eq word (dialect_word App) ≡ a → bytes_eq word (dialect_word Iso) ≡ i → bytes_eq word (dialect_word Din) ≡ d
        → cond a (Some App) (cond i (Some Iso) (cond d (Some Din) None)) ≡ Some dialect → word ≡ dialect_word dialect
    go true i d is is1 is2 e = (bytes_eq-Decides word _).0 is ∙ ap dialect_word (same_some App dialect e)
    go false true d is is1 is2 e = (bytes_eq-Decides word _).0 is1 ∙ ap dialect_word (same_some Iso dialect e)
    go false false true is is1 is2 e = (bytes_eq-Decides word _).0 is2 ∙ ap dialect_word (same_some Din dialect e)
    go false false false is is1 is2 e = let bad : None ≡ Some dialect = e in absurd cc

abbrev with_value : Text → Option MessageDialect → Option (MessageDialect × Text)
with_value b d = option_and_then (λ dialect. option_map (λ value. (dialect, value)) (Some b)) d

makes_dialect : (name : Text) (make : MessageDialect → Text → Asked) → ((d : MessageDialect) (b : Text) → Says (name ∷ dialect_word d ∷ b ∷ []) (make d b)) → MakesWords (on_dialect name make)
makes_dialect name make is [] asked many told = absurd (omega (arith, many))
makes_dialect name make is (a ∷ []) asked many told = absurd (omega (arith, many))
makes_dialect name make is (a ∷ b ∷ []) asked many told = go (dialect_named a) refl told
  where
    go : (d : Option MessageDialect) → dialect_named a ≡ d → option_map (λ pair. make pair.0 pair.1) (with_value b d) ≡ Some asked → Says (name ∷ a ∷ b ∷ []) asked
    go None none e = let bad : None ≡ Some asked = e in absurd cc
    go (Some d) found e =
        let word : a ≡ dialect_word d = named_word a d found in
        said_by _ (make d b) asked e (subst (λ (w : Text). Says (name ∷ w ∷ b ∷ []) (make d b)) (sym word) (is d b))
makes_dialect name make is (a ∷ b ∷ c ∷ rest) asked many told = absurd (omega (arith, many))

all_make : AllByRecursion MakesWords forms
all_make = (
  makes_one _ _ (λ a. (refl, tt)),
  (
    makes_one _ _ (λ a. (refl, tt)),
    (
      makes_two _ _ (λ a b. (refl, tt)),
      (
        makes_two _ _ (λ a b. (refl, tt)),
        (
          makes_seed _ _ (λ a b n less. (refl, less)),
          (
            makes_count _ _ (λ m n less from most. (refl, (less, from, omega (arith, most)))),
            (
              makes_dialect _ _ (λ d b. (refl, tt)),
              (
                makes_dialect _ _ (λ d b. (refl, tt)),
                (
                  makes_one _ _ (λ a. (refl, tt)),
                  (
                    makes_one _ _ (λ a. (refl, tt)),
                    (makes_number _ _ _ (λ a n less. (refl, less)), (makes_two _ _ (λ a b. (refl, tt)), (makes_number _ _ _ (λ a n less. (refl, less)), (makes_two _ _ (λ a b. (refl, tt)), tt)))),
                  ),
                ),
              ),
            ),
          ),
        ),
      ),
    ),
  ),
)

some_makes : (some : List Form) → AllByRecursion MakesWords some → (name : Text) (values : List Text) (asked : Asked)
    → IsSomeAnd (named name some) (λ form. length values ≡ count_of form.values) → option_and_then (λ form. form.asks (given_rows values)) (named name some) ≡ Some asked
    → Says (name ∷ values) asked
some_makes [] all name values asked taken told = absurd taken
some_makes (form ∷ rest) all name values asked taken told = go (some_makes rest all.1 name values asked) (bytes_eq form.name name) refl taken told
  where
    go : (IsSomeAnd (named name rest) (λ form. length values ≡ count_of form.values) → option_and_then (λ form. form.asks (given_rows values)) (named name rest) ≡ Some asked
        → Says (name ∷ values) asked) → (b : Bool) → bytes_eq form.name name ≡ b → IsSomeAnd (cond b (Some form) (named name rest)) (λ form. length values ≡ count_of form.values)
        → option_and_then (λ form. form.asks (given_rows values)) (cond b (Some form) (named name rest)) ≡ Some asked → Says (name ∷ values) asked
    go behind true is taken told =
        subst (λ (n : Text). Says (n ∷ values) asked) ((bytes_eq-Decides form.name name).0 is) (all.0 values asked taken told)
    go behind false is taken told = behind taken told

-- ---- the command that was read

not_true : (b : Bool) → (b ≡ true → ⊥) → b ≡ false
not_true true h = absurd (h refl)
not_true false h = refl

abbrev IsOther : Text → Form → Type 0
IsOther name form = name ≡ form.name → ⊥

unnamed : (name : Text) (some : List Form) → AllByRecursion (IsOther name) some → named name some ≡ None
unnamed name [] h = refl
unnamed name (form ∷ rest) h =
    ap (λ (b : Bool). cond b (Some form) (named name rest)) (not_true (bytes_eq form.name name) (λ e. h.0 (sym ((bytes_eq-Decides form.name name).0 e))))
    ∙ unnamed name rest h.1

-- no command has another name
pub untold : (name : Text) (rows : List Row) → AllByRecursion (IsOther name) forms → None ≡ told_of name rows
untold name rows h = ap (option_and_then (λ form. form.asks rows)) (sym (unnamed name forms h))

-- what is found is told of by its name and its rows
pub told_by : {Z : Type 0} (found : Option (Box SubCommand Z)) (name : Text) (rows : List Row) → Some name ≡ option_map (λ b. (out-SubCommand (box_value b)).name.now) found
    → Some rows ≡ option_map (λ pair. pair.1) (subcommand_rows found) → told_of name rows ≡ told (subcommand_rows found)
told_by None name rows a b = let bad : Some name ≡ None = a in absurd cc
told_by (Some sub) name rows a b =
    ap₂ told_of (same_some name (out-SubCommand (box_value sub)).name.now a) (same_some rows (rows_of (found_of (out-SubCommand (box_value sub)).matches)) b)

pub not_plain : (words : List Text) → list_all is_plain words ≡ false → IsNoCommand words
not_plain words h asked asks = let bad : true ≡ false = sym asks.plain ∙ h in absurd cc

pub not_matched : (words : List Text) → IsUnmatched words → IsNoCommand words
not_matched words h asked asks =
    let it = read asked asks.within in
    h it.name it.values (asks.words_are ∙ it.words_are) it.taken

pub commanded : (words : List Text) (met : Option (Text × List Row)) (command : Command) → list_all is_plain words ≡ true → IsMatched words met → Some (asked_of command) ≡ told met → IsCommand words command
commanded words met command plain matched is =
    let said = some_makes forms all_make matched.name matched.values (asked_of command) matched.taken (sym (is ∙ ap told matched.met_is)) in
    record { words_are = matched.words_are ∙ said.0; within = said.1; plain = plain }

pub not_told : (words : List Text) (met : Option (Text × List Row)) → IsMatched words met → None ≡ told met → IsNoCommand words
not_told words met matched none asked asks =
    let it = read asked asks.within in
    let whole : it.name ∷ it.values ≡ matched.name ∷ matched.values = sym it.words_are ∙ sym asks.words_are ∙ matched.words_are in
    let name : it.name ≡ matched.name = cc in
    let values : it.values ≡ matched.values = cc in
    let found : told_of matched.name (given_rows matched.values) ≡ Some asked =
    subst (λ (n : Text). told_of n (given_rows matched.values) ≡ Some asked) name
    (subst (λ (vs : List Text). told_of it.name (given_rows vs) ≡ Some asked) values it.told_is) in
    let bad : None ≡ Some asked = none ∙ ap told matched.met_is ∙ found in
    absurd cc

-- the answer, by what was read of the matches
pub answered : (words : List Text) (met : Option (Text × List Row)) (found : Option Command) → list_all is_plain words ≡ true → IsMatched words met → option_map asked_of found ≡ told met
    → IfOk (ok_or found NoCommand) (IsCommand words) × IfErr (ok_or found NoCommand) (HasWordsFault words)
answered words met (Some command) plain matched is = (commanded words met command plain matched is, tt)
answered words met None plain matched is = (tt, not_told words met matched is)
