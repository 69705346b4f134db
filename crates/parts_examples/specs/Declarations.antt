-- Own: the declarations of a report, which has each shape that a message may have.
use Rattle.std.specs.Prelude.{ℕ, pos, negsuc, List, [], ◌∷◌, codes, refl}
use Rattle.exi_schema.specs.declared.tables.AttributeOf.{AttributeOf}
use Rattle.exi_schema.specs.declared.tables.Datatype.TheVariants.{Bool as BoolType, Named, Bounded, Unsigned, Signed, Binary, Text}
use Rattle.exi_schema.specs.declared.tables.Member.{Member}
use Rattle.exi_schema.specs.declared.tables.MemberStanding.TheVariants.{Abstract, OutOfProfile}
use Rattle.exi_schema.specs.Plain.{PlainKind, PlainParticle, valued, containing, one_of, standing, once, perhaps, up_to, at_least_one, choice, perhaps_choice}
use Rattle.exi_schema.specs.Schemas.{PlainSchema}
use Rattle.message_parts.specs.Particles.{must, may}
use Rattle.parts_examples.specs.declared.names.TheConstants.{REPORT, NUMBER, REVISION, PLACE, SEAL, STATE, METER, PHASE, PULSES, ENERGY, TOTAL, OFFSET, POWER, REACTIVE, TIME, VALID, LOAD, REMARK, FLAG, STEP, SHORT, WHOLE, READING, WORD, SCALE, VALUE, AC_SUPPLY, DC_SUPPLY, SOLAR_SUPPLY, SUPPLY, VOLTAGE, CURRENT, CAUSE, ENDED, STOPPED, DAY, HOUR, CLOSED}
use Rattle.parts_examples.specs.declared.kinds.TheConstants.{BOOLEAN_KIND, BYTE_KIND, OCTET_KIND, PHASE_KIND, UNSIGNED_SHORT_KIND, UNSIGNED_INT_KIND, UNSIGNED_LONG_KIND, SHORT_KIND, INT_KIND, LONG_KIND, TEXT_KIND, SEAL_KIND, STATE_KIND, EMPTY_KIND, METER_KIND, READING_KIND, AC_SUPPLY_KIND, DC_SUPPLY_KIND, STOPPED_KIND, DAY_KIND, REPORT_KIND}

-- the texts of the names, numbered from 0
abbrev pub names : List (List ℕ)
names =
    codes "Report" ∷ codes "Number" ∷ codes "Revision" ∷ codes "Place" ∷ codes "Seal" ∷ codes "State" ∷ codes "Meter"
    ∷ codes "Phase" ∷ codes "Pulses" ∷ codes "Energy" ∷ codes "Total" ∷ codes "Offset" ∷ codes "Power"
    ∷ codes "Reactive" ∷ codes "Time" ∷ codes "Valid" ∷ codes "Load" ∷ codes "Remark" ∷ codes "Flag" ∷ codes "Step"
    ∷ codes "Short" ∷ codes "Whole" ∷ codes "Reading" ∷ codes "Word" ∷ codes "Scale" ∷ codes "Value"
    ∷ codes "AcSupply" ∷ codes "DcSupply" ∷ codes "SolarSupply" ∷ codes "Supply" ∷ codes "Voltage" ∷ codes "Current"
    ∷ codes "Cause" ∷ codes "Ended" ∷ codes "Stopped" ∷ codes "Day" ∷ codes "Hour" ∷ codes "Closed" ∷ []

-- ---- one of several elements

abbrev pub amounts : List Member
amounts =
    one_of FLAG BOOLEAN_KIND ∷ one_of STEP BYTE_KIND ∷ one_of SHORT SHORT_KIND ∷ one_of WHOLE INT_KIND
    ∷ one_of READING READING_KIND ∷ one_of WORD TEXT_KIND ∷ []

abbrev pub supplies : List Member
supplies =
    one_of AC_SUPPLY AC_SUPPLY_KIND ∷ one_of DC_SUPPLY DC_SUPPLY_KIND ∷ standing OutOfProfile SOLAR_SUPPLY EMPTY_KIND
    ∷ standing Abstract SUPPLY EMPTY_KIND ∷ []

abbrev pub causes : List Member
causes =
    standing Abstract CAUSE EMPTY_KIND ∷ one_of ENDED UNSIGNED_SHORT_KIND ∷ one_of STOPPED STOPPED_KIND ∷ []

-- ---- particles

abbrev pub meter : List PlainParticle
meter =
    once PHASE PHASE_KIND ∷ once PULSES UNSIGNED_SHORT_KIND ∷ once ENERGY UNSIGNED_INT_KIND
    ∷ once TOTAL UNSIGNED_LONG_KIND ∷ once OFFSET BYTE_KIND ∷ once POWER SHORT_KIND ∷ once REACTIVE INT_KIND
    ∷ once TIME LONG_KIND ∷ once VALID BOOLEAN_KIND ∷ perhaps LOAD OCTET_KIND ∷ []

abbrev pub reading : List PlainParticle
reading =
    once SCALE BYTE_KIND ∷ once VALUE SHORT_KIND ∷ []

abbrev pub ac_supply : List PlainParticle
ac_supply =
    once PHASE PHASE_KIND ∷ []

abbrev pub dc_supply : List PlainParticle
dc_supply =
    once VOLTAGE UNSIGNED_SHORT_KIND ∷ perhaps CURRENT UNSIGNED_SHORT_KIND ∷ []

abbrev pub stopped : List PlainParticle
stopped =
    once STATE STATE_KIND ∷ []

abbrev pub day : List PlainParticle
day =
    at_least_one 2 HOUR OCTET_KIND ∷ []

abbrev pub report : List PlainParticle
report =
    once PLACE TEXT_KIND ∷ once SEAL SEAL_KIND ∷ once STATE STATE_KIND ∷ once METER METER_KIND
    ∷ perhaps REMARK TEXT_KIND ∷ choice amounts ∷ choice supplies ∷ perhaps_choice causes ∷ up_to 3 DAY DAY_KIND
    ∷ once CLOSED EMPTY_KIND ∷ []

-- a number, and perhaps that of a correction
abbrev pub report_attributes : List AttributeOf
report_attributes = must NUMBER OCTET_KIND ∷ may REVISION UNSIGNED_SHORT_KIND ∷ []

-- the one root
abbrev pub report_roots : List (ℕ × ℕ)
report_roots = (REPORT, REPORT_KIND) ∷ []

-- ---- the kinds, numbered from 0, and the texts of their values

abbrev pub kinds : List PlainKind
kinds =
    valued BoolType ∷ valued (Bounded (negsuc 127) 256) ∷ valued (Bounded (pos 0) 256) ∷ valued (Bounded (pos 1) 3)
    ∷ valued (Unsigned 65535) ∷ valued (Unsigned 4294967295) ∷ valued (Unsigned 18446744073709551615)
    ∷ valued (Signed (negsuc 32767) (pos 32767)) ∷ valued (Signed (negsuc 2147483647) (pos 2147483647))
    ∷ valued (Signed (negsuc 9223372036854775807) (pos 9223372036854775807)) ∷ valued (Text 20) ∷ valued (Binary 4)
    ∷ valued (Named 3) ∷ containing [] [] ∷ containing [] meter ∷ containing [] reading ∷ containing [] ac_supply
    ∷ containing [] dc_supply ∷ containing [] stopped ∷ containing [] day ∷ containing report_attributes report ∷ []

abbrev pub values : List (List (List ℕ))
values =
    [] ∷ [] ∷ [] ∷ [] ∷ [] ∷ [] ∷ [] ∷ [] ∷ [] ∷ [] ∷ [] ∷ []
    ∷ (codes "Free" ∷ codes "Charging" ∷ codes "Broken" ∷ []) ∷ [] ∷ [] ∷ [] ∷ [] ∷ [] ∷ [] ∷ [] ∷ [] ∷ []

-- a report is the one root, and a document number has 2 bits
abbrev pub report_schema : PlainSchema
report_schema = record {
  kinds = kinds;
  names = names;
  values = values;
  root_bits = 2;
  roots = record { number = 0; name = REPORT; kind = REPORT_KIND } ∷ [];
  fits = refl;
}
