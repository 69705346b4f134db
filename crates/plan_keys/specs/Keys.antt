-- Own: what a value of TOML says by its form, the rules of a table's keys, and the first key that is wrong.
use Rattle.std.specs.Prelude.{◌≡◌, ℕ, ◌<◌, ◌≤◌, All, ◌%◌, ◌/◌, ◌==◌, Bool, true, false, ◌&&◌, nat_lt, nat_le, position, slice_get, if◌then◌else◌, ℤ, pos, negsuc, List, [], ◌∷◌, ◌++◌, length, map, codes, decimal, Option, Some, None, option_map, Result, Ok, Err, String}
use Rattle.std.specs.List.{list_all, flat_map}
use Rattle.std.specs.Str.{bytes_eq}
use Rattle.std.specs.Borrow.{Bor}
use Rattle.std.specs.BTreeMap.{BTreeMap}
use Rattle.std.specs.Option.{ok_or, option_or}
use Rattle.std.specs.Result.{result_unwrap_or, result_err}
use Rattle.std.specs.declared.alloc.Global.{Global}
use Rattle.hex.specs.Hex.{decode_of, is_hex_digit}
use Rattle.hex.specs.declared.error.FromHexError.{FromHexError}
use Rattle.toml.specs.Data.{Data, Items, no_items, item, Members, no_members, get_member, as_integer, as_str, as_bool, as_array, as_table}
use Rattle.toml.specs.View.{view, table_view}
use Rattle.toml.specs.declared.value.Value.{Value}
use Rattle.plan_keys.specs.declared.fault.Wanted.{Wanted}
use Rattle.plan_keys.specs.declared.fault.Wanted.TheVariants.{Between, Words, Said}
use Rattle.plan_keys.specs.declared.forms.Wrong.{Wrong}
use Rattle.plan_keys.specs.declared.forms.Wrong.TheVariants.{Missing, BadValue, OverLimit}
use Rattle.plan_keys.specs.declared.keys.Found.{Found}
use Rattle.plan_keys.specs.declared.keys.Keys.{Keys}

-- what is made of a value, or something else where there is none
abbrev pub on_some : {A B : Type 0} → Option A → (A → B) → B → B
on_some (Some x) f d = f x
on_some None f d = d

-- what is said, seen by a view
abbrev pub seen : {A B : Type 0} → (A → B) → Result A Wrong → Result B Wrong
seen view (Ok x) = Ok (view x)
seen view (Err w) = Err w

-- ---- forms

-- a number or a length from least to most
abbrev pub has_bounds : ℕ → ℕ → ℕ → Bool
has_bounds least most n = nat_le least n && nat_le n most

abbrev pub within : {X : Type 0} → Bool → X → Result X Wrong
within fits x = if fits then Ok x else Err OverLimit

-- a whole number from 0 on
abbrev pub whole_says : ℕ → ℕ → ℤ → Result ℕ Wrong
whole_says least most (pos n) = within (has_bounds least most n) n
whole_says least most (negsuc n) = Err OverLimit

abbrev pub number_says : ℕ → ℕ → Data → Result ℕ Wrong
number_says least most d = on_some (as_integer d) (whole_says least most) (Err BadValue)

abbrev pub truth_says : Data → Result Bool Wrong
truth_says d = ok_or (as_bool d) BadValue

-- a word of a list, each of which has a meaning
abbrev pub place_of : List (List ℕ) → Data → Option ℕ
place_of words d = on_some (as_str d) (λ s. position (λ word. bytes_eq word s) words) None

abbrev pub word_says : {X : Type 0} → List (List ℕ) → List X → Data → Result X Wrong
word_says words meanings d = ok_or (on_some (place_of words d) (slice_get meanings) None) BadValue

-- a text of ASCII characters
abbrev pub IsAscii : ℕ → ℕ → List ℕ → Type 0
IsAscii least most s = All (λ c. c < 128) s × (least ≤ length s) × (length s ≤ most)

abbrev pub ascii_says : ℕ → ℕ → Data → Result (List ℕ) Wrong
ascii_says least most d =
    on_some (as_str d)
    (λ s. if list_all (λ c. nat_lt c 128) s then within (has_bounds least most (length s)) s else Err BadValue) (Err BadValue)

-- whole bytes in hexadecimal, of either case, and their bytes
abbrev pub is_digits : List ℕ → Bool
is_digits s = (length s % 2 == 0) && list_all is_hex_digit s

abbrev pub decoded : Result (List ℕ) FromHexError → Result (List ℕ) Wrong
decoded (Ok bytes) = Ok bytes
decoded (Err fault) = Err BadValue

abbrev pub hex_says : ℕ → ℕ → Data → Result (List ℕ) Wrong
hex_says least most d =
    on_some (as_str d)
    (λ s. if is_digits s then (if has_bounds least most (length s / 2) then decoded (decode_of s) else Err OverLimit) else Err BadValue) (Err BadValue)

-- a list of tables; what is no table has no keys
abbrev pub table_in : Data → Members
table_in d = on_some (as_table d) (λ table. table) no_members

abbrev pub tables_in : Items → List Members
tables_in no_items = []
tables_in (item d rest) = table_in d ∷ tables_in rest

abbrev pub table_of : Value → Members
table_of value = table_in (view value)

abbrev pub all_tables : Items → Bool
all_tables no_items = true
all_tables (item d rest) = on_some (as_table d) (λ table. all_tables rest) false

abbrev pub tables_says : ℕ → ℕ → Data → Result (List Members) Wrong
tables_says least most d =
    on_some (as_array d)
    (λ items. if all_tables items then within (has_bounds least most (length (tables_in items))) (tables_in items) else Err BadValue) (Err BadValue)

-- ---- what a key has to say, in words

abbrev pub between : ℕ → ℕ → List ℕ → List ℕ
between least most unit = decimal least ++ codes " to " ++ decimal most ++ unit

-- words with commas between them
abbrev pub listed : List (List ℕ) → List ℕ
listed [] = []
listed (w ∷ ws) = w ++ flat_map (λ v. codes ", " ++ v) ws

abbrev pub wanted_text : Wanted → List ℕ
wanted_text (Between least most unit) = between least most unit.now
wanted_text (Words front ws behind) = front.now ++ listed (map (λ w. w.now) ws.now) ++ behind.now
wanted_text (Said text) = text.now

-- ---- rules

-- a key's name, what its value says by its form, that in words, what is said where it is left out, if it may be, and a
-- value that stands for what a wrong key says
pub record Rule (X : Type 0) : Type 0 where
  pub name : List ℕ
  pub form : Data → Result X Wrong
  pub wanted : List ℕ
  pub default : Option X
  pub otherwise : X

abbrev pub rule_of : {X : Type 0} → List ℕ → (Data → Result X Wrong) → List ℕ → Option X → X → Rule X
rule_of name form wanted default otherwise =
    record { name = name; form = form; wanted = wanted; default = default; otherwise = otherwise }

abbrev pub number : List ℕ → ℕ → ℕ → Option ℕ → Rule ℕ
number name least most default = rule_of name (number_says least most) (between least most []) default least

-- a number that may be left out, where it isn't needed
abbrev pub perhaps : List ℕ → ℕ → ℕ → Option ℕ → Bool → Rule (Option ℕ)
perhaps name least most default needed =
    rule_of name (λ d. seen (λ n. Some n) (number_says least most d)) (between least most [])
    (if needed then option_map (λ n. Some n) default else Some default) (if needed then Some least else default)

abbrev pub truth : List ℕ → Option Bool → Rule Bool
truth name default = rule_of name truth_says (codes "true or false") default false

abbrev pub word : {X : Type 0} → List ℕ → List (List ℕ) → List X → Option X → X → Rule X
word name ws meanings default otherwise = rule_of name (word_says ws meanings) (codes "one of " ++ listed ws ++ []) default otherwise

abbrev pub ascii : List ℕ → ℕ → ℕ → List ℕ → Rule (List ℕ)
ascii name least most default = rule_of name (ascii_says least most) (between least most (codes " ASCII characters")) (Some default) default

abbrev pub hex : List ℕ → ℕ → ℕ → List ℕ → Rule (List ℕ)
hex name least most default = rule_of name (hex_says least most) (between least most (codes " bytes in hexadecimal")) (Some default) default

-- a list of tables, which has to be there
abbrev pub tables : List ℕ → ℕ → ℕ → Rule (List Members)
tables name least most = rule_of name (tables_says least most) (between least most (codes " tables")) None []

-- what a table says by a rule, or what is wrong with its key
abbrev pub says : {X : Type 0} → Rule X → Members → Result X Wrong
says rule table = on_some (get_member rule.name table) rule.form (ok_or rule.default Missing)

abbrev pub value_at : {X : Type 0} → Rule X → Members → X
value_at rule table = result_unwrap_or (says rule table) rule.otherwise

-- ---- keys that are asked for one after another

-- a key that is wrong, and what it has to say
pub record Trouble : Type 0 where
  pub name : List ℕ
  pub wrong : Wrong
  pub wanted : List ℕ

-- the names so far, of which 32 are kept, and the first key that is wrong
pub record Asked : Type 0 where
  pub members : Members
  pub names : List (List ℕ)
  pub found : Option Trouble

abbrev pub fresh : Members → Asked
fresh table = record { members = table; names = []; found = None }

-- the keys of a table, or none
abbrev pub members_of : Option (Bor (BTreeMap (String Global) Value)) → Members
members_of table = on_some table (λ t. table_view t.now) no_members

abbrev pub asked_of : Keys → Asked
asked_of keys = record {
  members = members_of keys.table;
  names = map (λ n. n.now) keys.names.items;
  found = option_map (λ (f : Found). record { name = f.name.now; wrong = f.wrong; wanted = wanted_text f.wanted }) keys.found;
}

abbrev pub named : List ℕ → Asked → Asked
named name asked = record asked { names = if nat_lt (length asked.names) 32 then asked.names ++ name ∷ [] else asked.names }

abbrev pub noted : List ℕ → List ℕ → Option Wrong → Asked → Asked
noted name wanted wrong asked =
    record asked { found = option_or asked.found (option_map (λ w. record { name = name; wrong = w; wanted = wanted }) wrong) }

abbrev pub ask : {X : Type 0} → Rule X → Asked → Asked
ask rule asked = noted rule.name rule.wanted (result_err (says rule asked.members)) (named rule.name asked)

-- a key says a value, after which the next is asked for
pub record Says {X : Type 0} (rule : Rule X) (old new : Keys) (said : X) : Type 0 where
  pub value : said ≡ value_at rule (members_of old.table)
  pub asked : asked_of new ≡ ask rule (asked_of old)

-- ---- the rules of a table

-- in their order: a key with the field of a plan that has what it says, on which the rules behind it may depend; and a
-- key that is judged alone
pub data Rules (P : Type 0) : Type 1 where
  done : Rules P
  given : {X : Type 0} → Rule X → (P → X) → (X → Rules P) → Rules P
  judged : {X : Type 0} → Rule X → Rules P → Rules P

infixr 5 ◌⊳◌
abbrev pub ◌⊳◌ : {P : Type 0} → (Rules P → Rules P) → Rules P → Rules P
line ⊳ lines = line lines

abbrev pub key : {P X : Type 0} → Rule X → (P → X) → Rules P → Rules P
key rule field lines = given rule field (λ _. lines)

abbrev pub ask_all : {P : Type 0} → Rules P → Asked → Asked
ask_all done asked = asked
ask_all (given rule field more) asked = ask_all (more (value_at rule asked.members)) (ask rule asked)
ask_all (judged rule lines) asked = ask_all lines (ask rule asked)

-- a plan has what the keys of a table say
abbrev pub Holds : {P : Type 0} → Rules P → Members → P → Type 0
Holds done table plan = Unit {0}
Holds (given rule field more) table plan = (field plan ≡ value_at rule table) × Holds (more (value_at rule table)) table plan
Holds (judged rule lines) table plan = Holds lines table plan

-- the keys of these rules are read, one after another, into a plan
pub record Reads {P : Type 0} (lines : Rules P) (old new : Keys) (plan : P) : Type 0 where
  pub asked : asked_of new ≡ ask_all lines (asked_of old)
  pub holds : Holds lines (members_of old.table) plan
