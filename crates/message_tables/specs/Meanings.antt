-- ISO 15118-2:2014 8.4 and DIN SPEC 70121:2014 9.4 (messages): what the rows of messages that are alike in both dialects ask or tell.
use Rattle.std.specs.Prelude.{ℕ, Bool, List}
use Rattle.session_words.specs.declared.amount.Amount.{Amount}
use Rattle.session_words.specs.declared.code.Processing.{Processing}
use Rattle.session_words.specs.declared.limits.DcStatus.{DcStatus}
use Rattle.session_words.specs.declared.word.Ask.{Ask}
use Rattle.session_words.specs.declared.word.Ask.TheVariants as ask
use Rattle.session_words.specs.declared.word.Tell.{Tell}
use Rattle.session_words.specs.declared.word.Tell.TheVariants as tell

abbrev pub SetupReq : Type 0
SetupReq = List ℕ × Unit {0}

abbrev pub setup_asked : SetupReq → Ask
setup_asked x = ask.SessionSetup (record { items = x.0 })

abbrev pub Selection : Type 0
Selection = Bool × (List ℕ × Unit {0})

abbrev pub selection_asked : Selection → Ask
selection_asked x = ask.PaymentSelection x.0 (record { items = x.1.0 })

abbrev pub Authorization : Type 0
Authorization = Processing × Unit {0}

abbrev pub authorization_told : Authorization → Tell
authorization_told x = tell.Authorization x.0

-- ---- the status of a car: whether it is ready, and how full it is in percent; or of a post, and a voltage

abbrev pub CarStatus : Type 0
CarStatus = Bool × (ℕ × Unit {0})

abbrev pub Car : Type 0
Car = CarStatus × Unit {0}

abbrev pub Present : Type 0
Present = DcStatus × (Amount × Unit {0})

abbrev pub cable_check_asked : Car → Ask
cable_check_asked x = ask.CableCheck x.0.0 x.0.1.0

abbrev pub CableCheck : Type 0
CableCheck = DcStatus × (Processing × Unit {0})

abbrev pub cable_check_told : CableCheck → Tell
cable_check_told x = tell.CableCheck x.0 x.1.0

abbrev pub PreCharge : Type 0
PreCharge = CarStatus × (Amount × (Amount × Unit {0}))

abbrev pub pre_charge_asked : PreCharge → Ask
pre_charge_asked x = ask.PreCharge x.0.0 x.0.1.0 x.1.0 x.1.1.0

abbrev pub pre_charge_told : Present → Tell
pre_charge_told x = tell.PreCharge x.0 x.1.0

abbrev pub DemandReq : Type 0
DemandReq = CarStatus × (Amount × (Amount × Unit {0}))

abbrev pub demand_asked : DemandReq → Ask
demand_asked ((ready, (soc, end)), (current, (voltage, more))) = ask.CurrentDemand ready soc voltage current

abbrev pub welding_asked : Car → Ask
welding_asked x = ask.WeldingDetection x.0.0 x.0.1.0

abbrev pub welding_told : Present → Tell
welding_told x = tell.WeldingDetection x.0 x.1.0
