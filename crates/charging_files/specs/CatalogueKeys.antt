-- Own: the keys of a catalogue, of its services, their sets and their parameters in the order in which they are judged, each with its rule and
-- its field.
use Rattle.std.specs.Prelude.{ℕ, ℤ, pos, false, List, [], map, codes, if◌then◌else◌, Some, None, Result, Ok, Err}
use Rattle.std.specs.Str.{chars}
use Rattle.toml.specs.Data.{Data, Members, as_str, as_integer, as_bool}
use Rattle.service_spec.specs.Texts.{is_word, has_name_length, is_plain, has_text_length}
use Rattle.service_spec.specs.Services.{Content, Truth, Number, Text, content_of, is_below}
use Rattle.service_spec.specs.declared.Parameter.{Parameter}
use Rattle.plan_keys.specs.declared.forms.Wrong.{Wrong}
use Rattle.plan_keys.specs.declared.forms.Wrong.TheVariants.{BadValue}
use Rattle.plan_keys.specs.Keys.{Rule, rule_of, on_some, within, number, tables, tables_says, table_of, between, Rules, done, key, ◌⊳◌}
use Rattle.charging_files.specs.declared.sets.SetKeys.{SetKeys}
use Rattle.charging_files.specs.declared.catalogue.ServiceKeys.{ServiceKeys}

-- ---- forms

-- 1 to 64 letters, digits or `_`
abbrev pub name_says : Data → Result (List ℕ) Wrong
name_says d = on_some (as_str d) (λ s. if is_word s then within (has_name_length s) s else Err BadValue) (Err BadValue)

-- a number of 16 bits
abbrev pub short_says : Data → Result ℤ Wrong
short_says d = on_some (as_integer d) (λ z. within (is_below 32768 z) z) (Err BadValue)

-- at most 64 characters, without `"` and `;`
abbrev pub text_says : List ℕ → Result Content Wrong
text_says s = if is_plain s then within (has_text_length s) (Text (chars s)) else Err BadValue

-- a truth value, a number or a text
abbrev pub value_says : Data → Result Content Wrong
value_says d =
    on_some (as_bool d) (λ b. Ok (Truth b))
    (on_some (as_integer d) (λ z. within (is_below 2147483648 z) (Number z))
    (on_some (as_str d) text_says (Err BadValue)))

-- ---- a parameter

abbrev pub name_rule : Rule (List ℕ)
name_rule = rule_of (codes "name") name_says (codes "1 to 64 letters, digits or _") None (codes "_")

abbrev pub value_rule : Rule Content
value_rule =
    rule_of (codes "value") value_says (codes "true or false, a number of 32 bits, or at most 64 characters without \" and ;") None (Truth false)

abbrev pub parameter_rules : Rules Parameter
parameter_rules = key name_rule (λ p. p.name.now) ⊳ key value_rule (λ p. content_of p.value) ⊳ done

-- ---- a set

abbrev pub set_id_rule : Rule ℤ
set_id_rule = rule_of (codes "id") short_says (codes "-32768 to 32767") None (pos 0)

abbrev pub parameter_tables : Rule (List Members)
parameter_tables = tables (codes "param") 1 16

abbrev pub set_rules : Rules SetKeys
set_rules = key set_id_rule (λ s. s.id) ⊳ key parameter_tables (λ s. map table_of s.items.now) ⊳ done

-- ---- a service

abbrev pub service_id_rule : Rule ℕ
service_id_rule = number (codes "id") 0 65535 None

-- a service without the key has no sets
abbrev pub set_tables : Rule (List Members)
set_tables = rule_of (codes "set") (tables_says 0 16) (between 0 16 (codes " tables")) (Some []) []

abbrev pub service_rules : Rules ServiceKeys
service_rules = key service_id_rule (λ s. s.id) ⊳ key set_tables (λ s. map table_of s.items.now) ⊳ done

-- ---- a catalogue

abbrev pub service_tables : Rule (List Members)
service_tables = tables (codes "service") 1 8
