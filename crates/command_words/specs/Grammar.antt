-- Own: the program's commands as `clap` reads them, and what it finds.
use Rattle.std.specs.Prelude.{◌≡◌, ℕ, ◌+◌, Bool, ◌&&◌, nat_le, nat_lt, if◌then◌else◌, true, false, List, [], ◌∷◌, length, map, find, Option, Some, None, codes, decimal, option_and_then, option_map, IsSomeAnd}
use Rattle.std.specs.Str.{bytes_eq}
use Rattle.std.specs.Str.Parse.{digits_value}
use Rattle.clap.specs.Walk.{Row, Rule, Text, first_of}
use Rattle.clap.specs.Simple.{App, Shape, new_rule, new_shape}
use Rattle.clap.specs.declared.builder.value_parser.Reading.TheVariants.{AsWritten}
use Rattle.clap.specs.declared.parser.matches.ValueSource.TheVariants.{CommandLine}
use Rattle.message_dialects.specs.declared.dialect.MessageDialect.{MessageDialect}
use Rattle.command_words.specs.Command.{Asked, station, car, replay, audit, talk, generate, decode, encode, basic, migrate, offer, schedule, services, pick, day, shorts, seeds, most_sessions, dialect_named}
use Rattle.command_words.specs.declared.forms.Values.{Values}
use Rattle.command_words.specs.declared.forms.Values.TheVariants.{One, Two, Three}

-- the ids of a command's values; the program shows none of them
abbrev pub first_id : Text
first_id = codes "FIRST"

abbrev pub second_id : Text
second_id = codes "SECOND"

abbrev pub third_id : Text
third_id = codes "THIRD"

abbrev pub first : List Row → Option Text
first rows = first_of first_id rows

abbrev pub second : List Row → Option Text
second rows = first_of second_id rows

abbrev pub third : List Row → Option Text
third rows = first_of third_id rows

abbrev pub both : List Row → Option (Text × Text)
both rows = option_and_then (λ one. option_map (λ other. (one, other)) (second rows)) (first rows)

-- the dialect of the first, and the second
abbrev pub dialect_and_value : List Row → Option (MessageDialect × Text)
dialect_and_value rows =
    option_and_then (λ dialect. option_map (λ value. (dialect, value)) (second rows)) (option_and_then dialect_named (first rows))

-- the number from a least one on, below a bound, that a word is, in decimal digits without a leading zero
abbrev pub is_number : ℕ → ℕ → Text → ℕ → Bool
is_number least bound word n = bytes_eq (decimal n) word && nat_le least n && nat_lt n bound

unfoldable pub number_named : ℕ → ℕ → Text → Option ℕ
number_named least bound word = if is_number least bound word (digits_value 10 word) then Some (digits_value 10 word) else None

-- the first, and the number below a bound that the second is
abbrev pub value_and_number : ℕ → List Row → Option (Text × ℕ)
value_and_number bound rows =
    option_and_then (λ value. option_map (λ number. (value, number)) (option_and_then (number_named 0 bound) (second rows))) (first rows)

-- the seed that a word is
abbrev pub seed_named : Text → Option ℕ
seed_named word = number_named 0 seeds word

-- the first two, and the seed that the third is
abbrev pub both_and_seed : List Row → Option (Text × Text × ℕ)
both_and_seed rows =
    option_and_then (λ pair. option_map (λ seed. (pair.0, pair.1, seed)) (option_and_then seed_named (third rows))) (both rows)

-- the count of sessions that a word is
abbrev pub count_named : Text → Option ℕ
count_named word = number_named 1 (most_sessions + 1) word

-- the seed that the first is, and the count that the second is
abbrev pub seed_and_count : List Row → Option (ℕ × ℕ)
seed_and_count rows =
    option_and_then (λ seed. option_map (λ count. (seed, count)) (option_and_then count_named (second rows))) (option_and_then seed_named (first rows))

-- ---- forms

-- a command's name, how many values it has, and what is asked for by them
pub record Form : Type 0 where
  pub name : Text
  pub values : Values
  pub asks : List Row → Option Asked

-- one value
abbrev pub with_one : Text → (Text → Asked) → Form
with_one name make = record { name = name; values = One; asks = λ rows. option_map make (first rows) }

-- two values
abbrev pub with_two : Text → (Text → Text → Asked) → Form
with_two name make = record {
  name = name;
  values = Two;
  asks = λ rows. option_map (λ pair. make pair.0 pair.1) (both rows);
}

-- the word of a dialect, and a value
abbrev pub on_dialect : Text → (MessageDialect → Text → Asked) → Form
on_dialect name make = record {
  name = name;
  values = Two;
  asks = λ rows. option_map (λ pair. make pair.0 pair.1) (dialect_and_value rows);
}

-- a value, and a number below a bound
abbrev pub with_number : Text → ℕ → (Text → ℕ → Asked) → Form
with_number name bound make = record {
  name = name;
  values = Two;
  asks = λ rows. option_map (λ pair. make pair.0 pair.1) (value_and_number bound rows);
}

-- two values, and a seed
abbrev pub with_seed : Text → (Text → Text → ℕ → Asked) → Form
with_seed name make = record {
  name = name;
  values = Three;
  asks = λ rows. option_map (λ found. make found.0 found.1 found.2) (both_and_seed rows);
}

-- a seed, and a count of sessions
abbrev pub with_count : Text → (ℕ → ℕ → Asked) → Form
with_count name make = record {
  name = name;
  values = Two;
  asks = λ rows. option_map (λ pair. make pair.0 pair.1) (seed_and_count rows);
}

-- the forms of all commands
abbrev pub forms : List Form
forms =
    with_one (codes "station") (λ plan. station plan)
    ∷ with_one (codes "car") (λ plan. car plan)
    ∷ with_two (codes "replay") (λ plan trace. replay plan trace)
    ∷ with_two (codes "audit") (λ plan trace. audit plan trace)
    ∷ with_seed (codes "talk") (λ site vehicle seed. talk site vehicle seed)
    ∷ with_count (codes "generate") (λ seed count. generate seed count)
    ∷ on_dialect (codes "decode") (λ dialect hex. decode dialect hex)
    ∷ on_dialect (codes "encode") (λ dialect text. encode dialect text)
    ∷ with_one (codes "basic") (λ script. basic script)
    ∷ with_one (codes "migrate") (λ trace. migrate trace)
    ∷ with_number (codes "offer") day (λ calendar moment. offer calendar moment)
    ∷ with_two (codes "schedule") (λ need hex. schedule need hex)
    ∷ with_number (codes "services") shorts (λ catalogue id. services catalogue id)
    ∷ with_two (codes "pick") (λ want hex. pick want hex)
    ∷ []

-- the form of a name
abbrev pub named : Text → List Form → Option Form
named name forms = find (λ form. bytes_eq form.name name) forms

abbrev pub count_of : Values → ℕ
count_of One = 1
count_of Two = 2
count_of Three = 3

-- a command of that name has so many values
abbrev pub IsTaken : Text → List Text → Type 0
IsTaken name values = IsSomeAnd (named name forms) (λ form. length values ≡ count_of form.values)

-- ---- the program

-- a value that a command needs
abbrev pub needed : Text → Rule
needed id = record (new_rule id) { required = true }

abbrev pub rules_of : Values → List Rule
rules_of One = needed first_id ∷ []
rules_of Two = needed first_id ∷ needed second_id ∷ []
rules_of Three = needed first_id ∷ needed second_id ∷ needed third_id ∷ []

abbrev pub shape : Text → Values → Shape
shape name values = record (new_shape name) { rules = rules_of values }

abbrev pub shape_of : Form → Shape
shape_of form = shape form.name form.values

-- the program, whose words are all its arguments, without options and without help
abbrev pub program_of : List Form → App
program_of forms = record {
  top = record (new_shape (codes "v2g_charge")) {
    no_binary_name = true;
    disable_help_flag = true;
    disable_help_subcommand = true;
    subcommand_required = true;
    is_leaf = false;
  };
  subs = map shape_of forms;
}

abbrev pub program : App
program = program_of forms

-- ---- what is found

-- one value that was given
abbrev pub given : Text → Text → Row
given id value = record { id = id; values = value ∷ []; count = None; source = Some CommandLine; reading = AsWritten }

abbrev pub given_rows : List Text → List Row
given_rows (one ∷ []) = given first_id one ∷ []
given_rows (one ∷ other ∷ []) = given first_id one ∷ given second_id other ∷ []
given_rows (one ∷ other ∷ last ∷ []) = given first_id one ∷ given second_id other ∷ given third_id last ∷ []
given_rows _ = []

-- the words are a command and the values that it needs, and these are found
pub record IsMatched (words : List Text) (met : Option (Text × List Row)) : Type 0 where
  pub name : Text
  pub values : List Text
  pub words_are : words ≡ name ∷ values
  pub taken : IsTaken name values
  pub met_is : met ≡ Some (name, given_rows values)

-- the words are no command with the values that it needs
abbrev pub IsUnmatched : List Text → Type 0
IsUnmatched words = (name : Text) (values : List Text) → words ≡ name ∷ values → IsTaken name values → ⊥

-- what a subcommand and its values ask for
abbrev pub told_of : Text → List Row → Option Asked
told_of name rows = option_and_then (λ form. form.asks rows) (named name forms)

abbrev pub told : Option (Text × List Row) → Option Asked
told met = option_and_then (λ found. told_of found.0 found.1) met
