-- Own: the keys of the plans of a station, of a post and of a car in the order in which they are judged, each with its
-- rule and its field. The modes have their names of ISO 15118-2:2014, EnergyTransferModeType.
use Rattle.std.specs.Prelude.{ℕ, ◌==◌, ◌&&◌, is_some, if◌then◌else◌, Bool, true, false, List, [], ◌∷◌, ◌++◌, codes, Option, Some, None}
use Rattle.std.specs.Option.{ok_or}
use Rattle.std.specs.Str.{bytes_eq}
use Rattle.toml.specs.Data.{Data, Members, at, as_str}
use Rattle.charge_world.specs.declared.offer.Dialect.{Dialect}
use Rattle.charge_world.specs.declared.offer.Dialect.TheVariants.{Iso, Din}
use Rattle.session_words.specs.Modes.{speaks_din}
use Rattle.session_words.specs.declared.mode.Mode.{Mode}
use Rattle.session_words.specs.declared.mode.Mode.TheVariants.{AcSinglePhaseCore, AcThreePhaseCore, DcCore, DcExtended, DcComboCore, DcUnique}
use Rattle.session_words.specs.declared.plan.Stop.{Stop}
use Rattle.session_words.specs.declared.plan.Stop.TheVariants.{Terminate, Pause}
use Rattle.session_words.specs.declared.plan.PostPlan.{PostPlan}
use Rattle.session_words.specs.declared.plan.SitePlan.{SitePlan}
use Rattle.session_words.specs.declared.plan.CarPlan.{CarPlan}
use Rattle.plan_keys.specs.declared.forms.Wrong.TheVariants.{BadValue}
use Rattle.plan_keys.specs.Keys.{on_some, listed, Rule, rule_of, number, perhaps, truth, word, ascii, hex, tables, Rules, done, given, judged, key, ◌⊳◌}

-- tenths of a volt or of an ampere
abbrev pub tenths : List ℕ → ℕ → Rule ℕ
tenths name default = number name 0 30000 (Some default)

abbrev pub mode_names : List (List ℕ)
mode_names =
    codes "AC_single_phase_core" ∷ codes "AC_three_phase_core" ∷ codes "DC_core" ∷ codes "DC_extended" ∷ codes "DC_combo_core"
    ∷ codes "DC_unique" ∷ []

abbrev pub modes : List Mode
modes = AcSinglePhaseCore ∷ AcThreePhaseCore ∷ DcCore ∷ DcExtended ∷ DcComboCore ∷ DcUnique ∷ []

abbrev pub mode_rule : Mode → Rule Mode
mode_rule usual = word (codes "mode") mode_names modes (Some usual) usual

abbrev pub stop_rule : Rule Stop
stop_rule = word (codes "stop") (codes "terminate" ∷ codes "pause" ∷ []) (Terminate ∷ Pause ∷ []) (Some Terminate) Terminate

-- ISO, and DIN SPEC 70121 where it goes with the mode
abbrev pub dialect_names : Bool → List (List ℕ)
dialect_names din = if din then codes "iso" ∷ codes "din" ∷ [] else codes "iso" ∷ []

abbrev pub dialects_of : Bool → List Dialect
dialects_of din = if din then Iso ∷ Din ∷ [] else Iso ∷ []

abbrev pub dialect_at : Bool → Data → ℕ → Option Dialect
dialect_at din list place =
    on_some (on_some (at place list) as_str None)
    (λ s. if bytes_eq s (codes "iso") then Some Iso else if bytes_eq s (codes "din") && din then Some Din else None) None

-- one or two, each once
abbrev pub two_of : Dialect → Dialect → Option (List Dialect)
two_of Iso Din = Some (Iso ∷ Din ∷ [])
two_of Din Iso = Some (Din ∷ Iso ∷ [])
two_of _ _ = None

abbrev pub offer_of : Bool → Data → Option (List Dialect)
offer_of din list =
    on_some (dialect_at din list 0) (λ first. if is_some (at 1 list) then on_some (dialect_at din list 1) (λ second.
    if is_some (at 2 list) then None else two_of first second) None else Some (first ∷ [])) None

abbrev pub dialects_rule : Mode → Rule (List Dialect)
dialects_rule mode =
    let din = speaks_din mode in
    rule_of (codes "dialects") (λ d. ok_or (offer_of din d) BadValue)
    (codes "a list of one or more of " ++ listed (dialect_names din) ++ codes ", each once") (Some (dialects_of din)) (dialects_of din)

-- the whole of a station, and its posts
abbrev pub limit_rules : Rules SitePlan
limit_rules =
    key (number (codes "limit") 1 8000000 (Some 150000)) (λ s. s.limit)
    ⊳ key (number (codes "turns") 1 4294967296 (Some 1000000)) (λ s. s.turns)
    ⊳ key (number (codes "sessions") 1 1000000 (Some 1)) (λ s. s.sessions)
    ⊳ done

abbrev pub post_tables : Rule (List Members)
post_tables = tables (codes "post") 1 8

-- A port and a mode have their defaults given. Watts, tenths of a volt and of an ampere, and volts.
unfoldable pub post_rules : Option ℕ → Mode → Rules PostPlan
post_rules port usual =
    key (number (codes "tcp") 1 65535 port) (λ p. p.tcp)
    ⊳ key (number (codes "sdp") 0 65535 (Some 0)) (λ p. p.sdp)
    ⊳ given (mode_rule usual) (λ p. p.mode) (λ mode.
    key (dialects_rule mode) (λ p. p.dialects.items)
    ⊳ key (ascii (codes "evse_id") 7 37 (codes "ZZ00000")) (λ p. p.evse_id)
    ⊳ key (hex (codes "evse_id_din") 1 32 (0 ∷ [])) (λ p. p.evse_id_din.items)
    ⊳ key (truth (codes "free") (Some true)) (λ p. p.free)
    ⊳ key (number (codes "max_watts") 1 1000000 (Some 50000)) (λ p. p.max_watts)
    ⊳ key (tenths (codes "max_voltage") 9200) (λ p. p.max_voltage)
    ⊳ key (tenths (codes "min_voltage") 1500) (λ p. p.min_voltage)
    ⊳ key (tenths (codes "max_current") 1250) (λ p. p.max_current)
    ⊳ key (tenths (codes "min_current") 0) (λ p. p.min_current)
    ⊳ key (tenths (codes "ripple") 10) (λ p. p.ripple)
    ⊳ key (number (codes "nominal") 1 1000 (Some 230)) (λ p. p.nominal)
    ⊳ done)

-- The port has to be there where there is no discovery. Percent, tenths of a volt and of an ampere, watts, replies,
-- detections and milliseconds.
unfoldable pub car_rules : Option ℕ → Mode → Rules CarPlan
car_rules port usual =
    judged (perhaps (codes "tcp") 1 65535 port false)
    ⊳ given (number (codes "sdp") 0 65535 (Some 0)) (λ c. c.sdp) (λ sdp.
    key (perhaps (codes "tcp") 1 65535 port (sdp == 0)) (λ c. c.tcp)
    ⊳ key (number (codes "turns") 1 4294967296 (Some 1000000)) (λ c. c.turns)
    ⊳ given (mode_rule usual) (λ c. c.mode) (λ mode.
    key (dialects_rule mode) (λ c. c.dialects.items)
    ⊳ key (hex (codes "car_id") 6 6 (0 ∷ 1 ∷ 2 ∷ 3 ∷ 4 ∷ 5 ∷ [])) (λ c. c.car_id)
    ⊳ key (number (codes "soc") 0 100 (Some 20)) (λ c. c.soc)
    ⊳ key (tenths (codes "target_voltage") 4000) (λ c. c.target_voltage)
    ⊳ key (tenths (codes "target_current") 1000) (λ c. c.target_current)
    ⊳ key (tenths (codes "max_voltage") 4500) (λ c. c.max_voltage)
    ⊳ key (tenths (codes "max_current") 2000) (λ c. c.max_current)
    ⊳ key (tenths (codes "min_current") 60) (λ c. c.min_current)
    ⊳ key (number (codes "max_watts") 1 1000000 (Some 50000)) (λ c. c.max_watts)
    ⊳ key (number (codes "cycles") 1 10000 (Some 200)) (λ c. c.cycles)
    ⊳ key (number (codes "welding") 0 10 (Some 1)) (λ c. c.welding)
    ⊳ key (number (codes "pace") 100 1000 (Some 100)) (λ c. c.pace)
    ⊳ key stop_rule (λ c. c.stop)
    ⊳ key (hex (codes "session") 0 8 []) (λ c. c.session.bytes.items)
    ⊳ done))
