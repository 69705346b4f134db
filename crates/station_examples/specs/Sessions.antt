-- Own: the sessions of the examples, in the middle of which they begin.
use Rattle.std.specs.Prelude.{ℕ, Bool, true, false, [], Option, Some, None}
use Rattle.charge_world.specs.declared.heard.IsolationLevel.{IsolationLevel}
use Rattle.charge_world.specs.declared.heard.IsolationLevel.TheVariants as isolation
use Rattle.charge_world.specs.declared.heard.PilotState.TheVariants as pilot
use Rattle.charge_world.specs.declared.offer.Dialect.TheVariants as dialect
use Rattle.session_words.specs.declared.facts.Facts.{Facts}
use Rattle.session_words.specs.declared.phase.Phase.{Phase}
use Rattle.session_words.specs.declared.phase.Standing.{Standing}
use Rattle.session_words.specs.declared.phase.Standing.TheVariants as standing
use Rattle.session_rules.specs.declared.stage.PreCharged.{PreCharged}
use Rattle.station_spec.specs.States.{Session, fresh, first_facts}
use Rattle.station_examples.specs.Fixtures.{named}
use Rattle.station_examples.specs.Playing.{Play}

-- A session of ISO whose last reply was at moment 10,000, and whose last pre-charge came near its target.
abbrev pub near : ℕ → Option PreCharged
near voltage = Some (record { target = 4000; voltage = voltage })

abbrev pub session_in : Phase → ℕ → Option PreCharged → Session
session_in row watts pre_charge = record {
  stage = record {
    row = row;
    dialect = dialect.Iso;
    session = named;
    told = watts;
    schedule = watts;
    pre_charge = pre_charge;
  };
  since = 10000;
  unread = [];
  asked = watts;
  lowered = None;
}

-- a car that is ready
abbrev pub facts_at : Option IsolationLevel → Standing → Facts
facts_at level standing = record first_facts { pilot = pilot.C; isolation = level; contactor = standing }

abbrev pub keeping : Session → Facts → Bool → Play
keeping session facts live =
    record { steps = []; keeps = record fresh { clock = 10000; session = Some session; facts = facts; live = live }; did = [] }

-- in direct current, with an open contactor, with one that closes, and with a closed one
abbrev pub open_in : Phase → Play
open_in row = keeping (session_in row 40000 (near 4000)) (facts_at (Some isolation.Valid) standing.Opened) false

abbrev pub closing_in : Phase → Play
closing_in row = keeping (session_in row 40000 (near 4000)) (facts_at (Some isolation.Valid) standing.Closing) true

abbrev pub closed_in : Phase → Play
closed_in row = keeping (session_in row 40000 (near 4000)) (facts_at (Some isolation.Valid) standing.Closed) true

-- the same of a session that pre-charges, behind a pre-charge in which the outlet had this voltage
abbrev pub pre_charged_in : Phase → ℕ → Play
pre_charged_in row voltage =
    keeping (session_in row 40000 (near voltage)) (facts_at (Some isolation.Valid) standing.Opened) false

-- before the isolation was told
abbrev pub unchecked_in : Phase → Option IsolationLevel → Play
unchecked_in row level = keeping (session_in row 40000 None) (facts_at level standing.Opened) false

-- in alternating current: 32.0 A over three phases at 230 V are 22,080 W
abbrev pub ac_in : Phase → Standing → Bool → Play
ac_in row standing live = keeping (session_in row 22080 None) (facts_at None standing) live
