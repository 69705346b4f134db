-- ISO 15118-2:2014: the schema of its messages.
use Rattle.std.specs.Cmp.Derive.{both_true}
use Rattle.exi_schema.specs.Schemas.{PlainSchema, is_schema, are_kinds, are_roots, are_words, are_values}
pub use Rattle.iso_schema.specs.Texts.{names}
use Rattle.iso_schema.specs.Texts.{fault_code, unit_symbol, ev_error_code, evse_notification, isolation_level, evse_status_code, response_code, service_category, payment_option, energy_transfer_mode, evse_processing, charging_session, charge_progress}
pub use Rattle.iso_schema.specs.Simple.{simple}
pub use Rattle.iso_schema.specs.Frame.{frame}
pub use Rattle.iso_schema.specs.Setup.{setup}
pub use Rattle.iso_schema.specs.Selection.{selection}
pub use Rattle.iso_schema.specs.Parameters.{parameters}
pub use Rattle.iso_schema.specs.Schedules.{schedules}
pub use Rattle.iso_schema.specs.Delivery.{delivery}
pub use Rattle.iso_schema.specs.Charging.{charging}
use Rattle.std.specs.Prelude.{◌≡◌, ◌++◌, refl, length, ℕ, true, List, [], ◌∷◌}
use Rattle.exi_schema.specs.declared.tables.RootOf.{RootOf}
use Rattle.exi_schema.specs.Plain.{PlainKind}
use Rattle.iso_schema.specs.declared.names.TheConstants.{V2G_MESSAGE}
use Rattle.iso_schema.specs.declared.kinds.TheConstants.{V2G_MESSAGE_KIND}

-- the kinds, numbered from 0
abbrev pub kinds : List PlainKind
kinds = simple ++ frame ++ setup ++ selection ++ parameters ++ schedules ++ delivery ++ charging

-- the texts of the values of each kind
abbrev pub values : List (List (List ℕ))
values =
    [] ∷ [] ∷ [] ∷ [] ∷ [] ∷ [] ∷ [] ∷ [] ∷ [] ∷ [] ∷ [] ∷ [] ∷ [] ∷ [] ∷ [] ∷ [] ∷ [] ∷ [] ∷ [] ∷ [] ∷ [] ∷ fault_code
    ∷ unit_symbol ∷ ev_error_code ∷ evse_notification ∷ isolation_level ∷ evse_status_code ∷ response_code ∷ service_category
    ∷ payment_option ∷ energy_transfer_mode ∷ evse_processing ∷ charging_session ∷ charge_progress ∷ [] ∷ [] ∷ [] ∷ [] ∷ [] ∷ []
    ∷ [] ∷ [] ∷ [] ∷ [] ∷ [] ∷ [] ∷ [] ∷ [] ∷ [] ∷ [] ∷ [] ∷ [] ∷ [] ∷ [] ∷ [] ∷ [] ∷ [] ∷ [] ∷ [] ∷ [] ∷ [] ∷ [] ∷ [] ∷ [] ∷ []
    ∷ [] ∷ [] ∷ [] ∷ [] ∷ [] ∷ [] ∷ [] ∷ [] ∷ [] ∷ [] ∷ [] ∷ [] ∷ [] ∷ [] ∷ [] ∷ [] ∷ [] ∷ [] ∷ [] ∷ [] ∷ [] ∷ [] ∷ [] ∷ [] ∷ []
    ∷ [] ∷ []

-- a message is the one root, and its document number has 7 bits
abbrev pub roots : List RootOf
roots = record { number = 76; name = V2G_MESSAGE; kind = V2G_MESSAGE_KIND } ∷ []

-- ---- they meet the conditions on a schema

pub kinds_fit : are_kinds (length names) kinds ≡ true
kinds_fit = refl

pub roots_fit : are_roots 7 (length names) kinds roots ≡ true
roots_fit = refl

pub names_fit : are_words names ≡ true
names_fit = refl

pub values_fit : are_values kinds values ≡ true
values_fit = refl

pub schema_fits : is_schema kinds names values 7 roots ≡ true
schema_fits = both_true kinds_fit (both_true roots_fit (both_true names_fit values_fit))

abbrev pub schema : PlainSchema
schema = record { kinds = kinds; names = names; values = values; root_bits = 7; roots = roots; fits = schema_fits }
