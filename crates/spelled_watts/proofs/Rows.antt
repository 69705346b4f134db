-- Rows that wait, and rows that speak in a dialect.
use Rattle.std.proofs.Common.{◌≡◌, Bool, true, false, Some, unwrap_or, refl}
use Rattle.charge_world.specs.declared.offer.Dialect.{Dialect}
use Rattle.session_words.specs.declared.code.Progress.TheVariants as progress
use Rattle.session_words.specs.declared.phase.Phase.{Phase}
use Rattle.session_words.specs.declared.phase.Phase.TheVariants as row
use Rattle.session_words.specs.declared.word.Ask.{Ask}
use Rattle.session_words.specs.declared.word.Ask.TheVariants as ask
use Rattle.session_rules.specs.Asks.{shows_watts}
use Rattle.session_rules.specs.Rows.{leads}
use Rattle.session_rules.specs.Stages.{is_waiting, confirmed_row}
use Rattle.station_spec.specs.Judging.{speaks_in}

-- a request that makes its reply show watts leads to no row that waits
goes_parameters : (here : Phase) (a : Ask) (finished ac : Bool) → shows_watts a ≡ true → is_waiting here ≡ false → is_waiting (unwrap_or (leads here a finished ac) here) ≡ false
goes_parameters row.Authorized (ask.ChargeParameters mode limits) true true s w = refl
goes_parameters row.Authorized (ask.ChargeParameters mode limits) true false s w = refl
goes_parameters row.Authorized (ask.ChargeParameters mode limits) false ac s w = refl
goes_parameters here (ask.ChargeParameters mode limits) finished ac s w = w
goes_parameters here (ask.CurrentDemand ready soc voltage current) finished ac s w = w
goes_parameters here ask.ChargingStatus finished ac s w = w
goes_parameters here a finished ac s w = cc

pub goes_on : (here : Phase) (a : Ask) (finished ac : Bool) → shows_watts a ≡ true → is_waiting here ≡ false → is_waiting (unwrap_or (leads here a finished ac) here) ≡ false
goes_on here a finished ac s w = goes_parameters here a finished ac s w

-- a row in which a dialect is spoken leads to such rows
pub speaks_on : (here : Phase) (a : Ask) (finished ac : Bool) (d e : Dialect) → speaks_in here d ≡ Some e → speaks_in (unwrap_or (leads here a finished ac) here) d ≡ Some e
speaks_on row.Selected ask.Authorization true ac d e h = h
speaks_on row.Selected ask.Authorization false ac d e h = h
speaks_on row.Authorized (ask.ChargeParameters mode limits) true true d e h = h
speaks_on row.Authorized (ask.ChargeParameters mode limits) true false d e h = h
speaks_on row.Authorized (ask.ChargeParameters mode limits) false ac d e h = h
speaks_on row.DcReady (ask.CableCheck ready soc) true ac d e h = h
speaks_on row.DcReady (ask.CableCheck ready soc) false ac d e h = h
speaks_on row.Connected a finished ac d e h = cc
speaks_on here (ask.SessionSetup car) finished ac d e h = h
speaks_on here (ask.PowerDelivery progress.Start tuple profile) finished ac d e h = h
speaks_on here a finished ac d e h = h

-- a row that waits leads to one that doesn't
pub record Confirmed (here : Phase) (d : Dialect) : Type 0 where
  pub goes : is_waiting (confirmed_row here) ≡ false
  pub speaks : speaks_in (confirmed_row here) d ≡ Some d
  pub spoke : speaks_in here d ≡ Some d

pub row_confirmed : (here : Phase) (d : Dialect) → is_waiting here ≡ true → Confirmed here d
row_confirmed row.DcClosing d h = record { goes = refl; speaks = refl; spoke = refl }
row_confirmed row.AcClosing d h = record { goes = refl; speaks = refl; spoke = refl }
row_confirmed here d h = absurd (cc)

pub row_stays : (here : Phase) → is_waiting here ≡ false → confirmed_row here ≡ here
row_stays row.DcClosing h = cc
row_stays row.AcClosing h = cc
row_stays here h = refl

pub spoken_is : (here : Phase) (d e : Dialect) → speaks_in here d ≡ Some e → d ≡ e
spoken_is row.Connected d e h = cc
spoken_is here d e h = cc
