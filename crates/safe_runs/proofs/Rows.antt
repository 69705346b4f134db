-- What the exchanges of a session are in each row.
use Rattle.std.proofs.Common.{◌≡◌, Bool, true, false, List, [], ◌∷◌, ◌++◌, Option, Some, unwrap_or, is_some, refl, sym, subst, inl, inr, ◌⊎◌}
use Rattle.session_words.specs.declared.code.Progress.TheVariants as progress
use Rattle.session_words.specs.declared.phase.Phase.{Phase}
use Rattle.session_words.specs.declared.phase.Phase.TheVariants as row
use Rattle.session_words.specs.declared.session.SessionId.{SessionId}
use Rattle.session_words.specs.declared.word.Ask.{Ask}
use Rattle.session_words.specs.declared.word.Ask.TheVariants as ask
use Rattle.session_words.specs.declared.word.Reply.{Reply}
use Rattle.session_words.specs.declared.word.Tell.{Tell}
use Rattle.charge_world.specs.declared.offer.Dialect.{Dialect}
use Rattle.session_rules.specs.Causes.{needs_isolation}
use Rattle.session_rules.specs.Rows.{leads}
use Rattle.session_rules.specs.Stages.{is_waiting}
use Rattle.station_spec.specs.Judging.{speaks_in}
use Rattle.post_spec.specs.Kinds.{is_negotiation, is_of, any, says_finished, asks_setup, asks_services, asks_payment, asks_authorization, asks_parameters, asks_cable_check, asks_pre_charge, asks_opening}
use Rattle.post_spec.specs.Prepared.{Has, HasNo, set_up, powered, renegotiates, IsPrepared}
use Rattle.session_words.specs.declared.amount.Amount.{Amount}
use Rattle.std.specs.Prelude.{ℤ}
use Rattle.post_spec.specs.Steps.{Seen}
use Rattle.post_spec.specs.Talk.{Exchange, Answered}
use Rattle.safe_runs.proofs.Orders.{has_more, Rounded, round_more, round_add, round_drop, round_again}

abbrev pub First : List (Exchange → Bool) → List Exchange → Type 0
First kinds xs = HasNo renegotiates xs × Has kinds xs

abbrev pub parameters : List (Exchange → Bool)
parameters = is_of asks_parameters says_finished ∷ []

abbrev pub cabled : List (Exchange → Bool)
cabled = is_of asks_cable_check says_finished ∷ parameters

abbrev pub pre_charged : List (Exchange → Bool)
pre_charged = is_of asks_pre_charge any ∷ cabled

abbrev pub named : List (Exchange → Bool)
named = is_of asks_setup any ∷ is_negotiation ∷ []

abbrev pub offered : List (Exchange → Bool)
offered = is_of asks_services any ∷ named

abbrev pub selected : List (Exchange → Bool)
selected = is_of asks_payment any ∷ offered

abbrev pub RowHas : Phase → List Exchange → Type 0
RowHas row.Connected xs = xs ≡ []
RowHas row.Negotiated xs = First (is_negotiation ∷ []) xs
RowHas row.SetUp xs = First named xs
RowHas row.Discovered xs = First offered xs
RowHas row.Selected xs = First selected xs
RowHas row.Authorized xs = Rounded [] xs
RowHas row.DcReady xs = Rounded parameters xs
RowHas row.DcChecked xs = Rounded cabled xs
RowHas row.DcPreCharging xs = Rounded pre_charged xs
RowHas row.DcClosing xs = Rounded [] xs
RowHas row.DcCharging xs = Rounded [] xs
RowHas row.DcStopped xs = Unit {0}
RowHas row.AcReady xs = Rounded parameters xs
RowHas row.AcClosing xs = Rounded [] xs
RowHas row.AcCharging xs = Rounded [] xs
RowHas row.AcStopped xs = Unit {0}

-- what the reply to an accepted request says, where it says whether something is finished. SessionStop and Start aren't answered so
abbrev pub Says : Ask → Bool → Tell → Type 0
Says ask.Authorization finished tell = says_finished tell ≡ finished
Says (ask.ChargeParameters mode limits) finished tell = says_finished tell ≡ finished
Says (ask.CableCheck ready soc) finished tell = says_finished tell ≡ finished
Says (ask.SessionStop pause) finished tell = ⊥
Says (ask.PowerDelivery progress.Start tuple profile) finished tell = ⊥
Says other finished tell = Unit {0}

first_more : (kinds : List (Exchange → Bool)) (x : Exchange) (xs : List Exchange) → renegotiates x ≡ false → First kinds xs → First kinds (x ∷ xs)
first_more kinds x xs n h = ((n, h.0), has_more kinds x xs h.1)

first_add : (kind : Exchange → Bool) (kinds : List (Exchange → Bool)) (x : Exchange) (xs : List Exchange) → renegotiates x ≡ false → kind x ≡ true → First kinds xs → First (kind ∷ kinds) (x ∷ xs)
first_add kind kinds x xs n e h = ((n, h.0), inl (e, h.1))

abbrev pub asked_of : SessionId → Ask → Reply → List Seen → Exchange
asked_of named asked reply before = Answered (record { session = named; ask = asked }) reply before

-- SessionStop and Start lead elsewhere
abbrev pub IsPlain : Ask → Type 0
IsPlain (ask.SessionStop pause) = ⊥
IsPlain (ask.PowerDelivery progress.Start tuple profile) = ⊥
IsPlain other = Unit {0}

abbrev pub is_cable_check : Ask → Bool
is_cable_check (ask.CableCheck ready soc) = true
is_cable_check other = false

-- rows behind a Close that was confirmed
abbrev pub is_charging : Phase → Bool
is_charging row.DcCharging = true
is_charging row.AcCharging = true
is_charging other = false

-- rows of power are those of the post's kind
abbrev pub PowerOf : Phase → Bool → Type 0
PowerOf row.DcReady ac = ac ≡ false
PowerOf row.DcChecked ac = ac ≡ false
PowerOf row.DcPreCharging ac = ac ≡ false
PowerOf row.DcClosing ac = ac ≡ false
PowerOf row.DcCharging ac = ac ≡ false
PowerOf row.AcReady ac = ac ≡ true
PowerOf row.AcClosing ac = ac ≡ true
PowerOf row.AcCharging ac = ac ≡ true
PowerOf other ac = Unit {0}

-- the row behind an accepted request that was answered: what the exchanges are there, that no reply waits, and why the isolation is valid
pub record Stepped (here next : Phase) (asked : Ask) (finished ac : Bool) (name : SessionId) (reply : Reply) (xs : List Exchange) : Type 0 where
  pub has : (before : List Seen) → RowHas next (asked_of name asked reply before ∷ xs)
  pub power : PowerOf next ac
  pub goes : is_waiting next ≡ false
  pub talks : (d : Dialect) → speaks_in next d ≡ Some d
  pub talked : (d : Dialect) → speaks_in here d ≡ Some d
  pub cabled : needs_isolation next ≡ true
      → ((needs_isolation here ≡ true) × (is_of asks_cable_check says_finished (asked_of name asked reply []) ≡ false))
      ⊎ ((is_of asks_cable_check says_finished (asked_of name asked reply []) ≡ true) × (finished ≡ true) × (is_cable_check asked ≡ true))
  pub charges : is_charging next ≡ true
      → (is_charging here ≡ true) × (is_of asks_opening any (asked_of name asked reply []) ≡ false) × (needs_isolation here ≡ needs_isolation next)

pub row_step : (here : Phase) (asked : Ask) (finished ac : Bool) (name : SessionId) (reply : Reply) (xs : List Exchange)
    → is_some (leads here asked true true) ≡ true → Says asked finished reply.tell → RowHas here xs → PowerOf here ac → Stepped here (unwrap_or (leads here asked finished ac) here) asked finished ac name reply xs
row_step row.Negotiated (ask.SessionSetup car) finished ac name reply xs h s r p = record { has = λ before. (first_add (is_of asks_setup any) (is_negotiation ∷ []) (asked_of name (ask.SessionSetup car) reply before) xs refl refl r); power = tt; goes = refl; talks = λ d. refl; talked = λ d. refl; cabled = λ n. absurd (cc); charges = λ m. absurd (cc) }
row_step row.SetUp ask.ServiceDiscovery finished ac name reply xs h s r p = record { has = λ before. (first_add (is_of asks_services any) named (asked_of name ask.ServiceDiscovery reply before) xs refl refl r); power = tt; goes = refl; talks = λ d. refl; talked = λ d. refl; cabled = λ n. absurd (cc); charges = λ m. absurd (cc) }
row_step row.Discovered (ask.ServiceDetail service) finished ac name reply xs h s r p = record { has = λ before. (first_more offered (asked_of name (ask.ServiceDetail service) reply before) xs refl r); power = tt; goes = refl; talks = λ d. refl; talked = λ d. refl; cabled = λ n. absurd (cc); charges = λ m. absurd (cc) }
row_step row.Discovered (ask.PaymentSelection external services) finished ac name reply xs h s r p = record { has = λ before. (first_add (is_of asks_payment any) offered (asked_of name (ask.PaymentSelection external services) reply before) xs refl refl r); power = tt; goes = refl; talks = λ d. refl; talked = λ d. refl; cabled = λ n. absurd (cc); charges = λ m. absurd (cc) }
row_step row.Selected ask.Authorization true ac name reply xs h s r p = record { has = λ before. inl (first_add (is_of asks_authorization says_finished) selected (asked_of name ask.Authorization reply before) xs refl s r); power = tt; goes = refl; talks = λ d. refl; talked = λ d. refl; cabled = λ n. absurd (cc); charges = λ m. absurd (cc) }
row_step row.Selected ask.Authorization false ac name reply xs h s r p = record { has = λ before. (first_more selected (asked_of name ask.Authorization reply before) xs refl r); power = tt; goes = refl; talks = λ d. refl; talked = λ d. refl; cabled = λ n. absurd (cc); charges = λ m. absurd (cc) }
row_step row.Authorized (ask.ChargeParameters mode limits) true true name reply xs h s r p = record { has = λ before. (round_add (is_of asks_parameters says_finished) [] (asked_of name (ask.ChargeParameters mode limits) reply before) xs refl s r); power = refl; goes = refl; talks = λ d. refl; talked = λ d. refl; cabled = λ n. absurd (cc); charges = λ m. absurd (cc) }
row_step row.Authorized (ask.ChargeParameters mode limits) true false name reply xs h s r p = record { has = λ before. (round_add (is_of asks_parameters says_finished) [] (asked_of name (ask.ChargeParameters mode limits) reply before) xs refl s r); power = refl; goes = refl; talks = λ d. refl; talked = λ d. refl; cabled = λ n. absurd (cc); charges = λ m. absurd (cc) }
row_step row.Authorized (ask.ChargeParameters mode limits) false ac name reply xs h s r p = record { has = λ before. (round_more [] (asked_of name (ask.ChargeParameters mode limits) reply before) xs refl r); power = tt; goes = refl; talks = λ d. refl; talked = λ d. refl; cabled = λ n. absurd (cc); charges = λ m. absurd (cc) }
row_step row.DcReady (ask.CableCheck ready soc) true ac name reply xs h s r p = record { has = λ before. (round_add (is_of asks_cable_check says_finished) parameters (asked_of name (ask.CableCheck ready soc) reply before) xs refl s r); power = p; goes = refl; talks = λ d. refl; talked = λ d. refl; cabled = λ n. inr (s, refl, refl); charges = λ m. absurd (cc) }
row_step row.DcReady (ask.CableCheck ready soc) false ac name reply xs h s r p = record { has = λ before. (round_more parameters (asked_of name (ask.CableCheck ready soc) reply before) xs refl r); power = p; goes = refl; talks = λ d. refl; talked = λ d. refl; cabled = λ n. absurd (cc); charges = λ m. absurd (cc) }
row_step row.DcChecked (ask.PreCharge ready soc voltage current) finished ac name reply xs h s r p = record { has = λ before. (round_add (is_of asks_pre_charge any) cabled (asked_of name (ask.PreCharge ready soc voltage current) reply before) xs refl refl r); power = p; goes = refl; talks = λ d. refl; talked = λ d. refl; cabled = λ n. inl (refl, refl); charges = λ m. absurd (cc) }
row_step row.DcPreCharging (ask.PreCharge ready soc voltage current) finished ac name reply xs h s r p = record { has = λ before. (round_more pre_charged (asked_of name (ask.PreCharge ready soc voltage current) reply before) xs refl r); power = p; goes = refl; talks = λ d. refl; talked = λ d. refl; cabled = λ n. inl (refl, refl); charges = λ m. absurd (cc) }
row_step row.DcCharging (ask.CurrentDemand ready soc voltage current) finished ac name reply xs h s r p = record { has = λ before. (round_more [] (asked_of name (ask.CurrentDemand ready soc voltage current) reply before) xs refl r); power = p; goes = refl; talks = λ d. refl; talked = λ d. refl; cabled = λ n. inl (refl, refl); charges = λ m. (refl, refl, refl) }
row_step row.DcCharging (ask.PowerDelivery progress.Stop tuple profile) finished ac name reply xs h s r p = record { has = λ before. tt; power = tt; goes = refl; talks = λ d. refl; talked = λ d. refl; cabled = λ n. absurd (cc); charges = λ m. absurd (cc) }
row_step row.DcCharging (ask.PowerDelivery progress.Renegotiate tuple profile) finished ac name reply xs h s r p = record { has = λ before. (round_again (asked_of name (ask.PowerDelivery progress.Renegotiate tuple profile) reply before) xs refl r); power = tt; goes = refl; talks = λ d. refl; talked = λ d. refl; cabled = λ n. absurd (cc); charges = λ m. absurd (cc) }
row_step row.DcStopped (ask.WeldingDetection ready soc) finished ac name reply xs h s r p = record { has = λ before. tt; power = tt; goes = refl; talks = λ d. refl; talked = λ d. refl; cabled = λ n. absurd (cc); charges = λ m. absurd (cc) }
row_step row.AcCharging ask.ChargingStatus finished ac name reply xs h s r p = record { has = λ before. (round_more [] (asked_of name ask.ChargingStatus reply before) xs refl r); power = p; goes = refl; talks = λ d. refl; talked = λ d. refl; cabled = λ n. absurd (cc); charges = λ m. (refl, refl, refl) }
row_step row.AcCharging (ask.PowerDelivery progress.Stop tuple profile) finished ac name reply xs h s r p = record { has = λ before. tt; power = tt; goes = refl; talks = λ d. refl; talked = λ d. refl; cabled = λ n. absurd (cc); charges = λ m. absurd (cc) }
row_step row.AcCharging (ask.PowerDelivery progress.Renegotiate tuple profile) finished ac name reply xs h s r p = record { has = λ before. (round_again (asked_of name (ask.PowerDelivery progress.Renegotiate tuple profile) reply before) xs refl r); power = tt; goes = refl; talks = λ d. refl; talked = λ d. refl; cabled = λ n. absurd (cc); charges = λ m. absurd (cc) }
row_step here (ask.SessionStop pause) finished ac name reply xs h s r p = absurd s
row_step here (ask.PowerDelivery progress.Start tuple profile) finished ac name reply xs h s r p = absurd s
row_step here asked finished ac name reply xs h s r p = absurd (cc)

prepared_of : (ac : Bool) (kinds : List (Exchange → Bool)) (xs : List Exchange) → powered ac [] ≡ kinds → powered ac set_up ≡ kinds ++ set_up → Rounded kinds xs → IsPrepared ac xs
prepared_of ac kinds xs e f (inl h) = inl (h.0, subst (λ (ks : List (Exchange → Bool)). Has ks xs) (sym f) h.1)
prepared_of ac kinds xs e f (inr r) = inr (record {
  round = r.round;
  renegotiation = r.renegotiation;
  earlier = r.earlier;
  xs_are = r.xs_are;
  renegotiates_is = r.renegotiates_is;
  last = r.last;
  power = subst (λ (ks : List (Exchange → Bool)). Has ks r.round) (sym e) r.power;
  setup = r.setup;
})

prepared_dc : (xs : List Exchange) → Rounded pre_charged xs → IsPrepared false xs
prepared_dc xs r = prepared_of false pre_charged xs refl refl r

prepared_ac : (xs : List Exchange) → Rounded parameters xs → IsPrepared true xs
prepared_ac xs r = prepared_of true parameters xs refl refl r

-- PowerDelivery Start leads to a row in which the reply waits
pub record Starting (here next : Phase) (ac : Bool) (xs : List Exchange) : Type 0 where
  pub prepared : IsPrepared ac xs
  pub has : RowHas next xs
  pub power : PowerOf next ac
  pub waits : is_waiting next ≡ true
  pub still : is_charging next ≡ false
  pub talks : (d : Dialect) → speaks_in next d ≡ Some d
  pub talked : (d : Dialect) → speaks_in here d ≡ Some d
  pub needs : needs_isolation next ≡ needs_isolation here
  pub direct : (needs_isolation here ≡ true) × (ac ≡ false) × (here ≡ row.DcPreCharging) ⊎ ((ac ≡ true) × (needs_isolation here ≡ false))

pub start_step : (here : Phase) (tuple : Option ℤ) (profile : Option Amount) (finished ac : Bool) (xs : List Exchange)
    → is_some (leads here (ask.PowerDelivery progress.Start tuple profile) true true) ≡ true → RowHas here xs → PowerOf here ac
    → Starting here (unwrap_or (leads here (ask.PowerDelivery progress.Start tuple profile) finished ac) here) ac xs
start_step row.DcPreCharging tuple profile finished ac xs h r p = record {
  prepared = subst (λ (b : Bool). IsPrepared b xs) (sym p) (prepared_dc xs r);
  has = round_drop (is_of asks_parameters says_finished) [] xs (round_drop (is_of asks_cable_check says_finished) parameters xs (round_drop (is_of asks_pre_charge any) cabled xs r));
  power = p;
  waits = refl;
  still = refl;
  talks = λ d. refl;
  talked = λ d. refl;
  needs = refl;
  direct = inl (refl, p, refl);
}
start_step row.AcReady tuple profile finished ac xs h r p = record {
  prepared = subst (λ (b : Bool). IsPrepared b xs) (sym p) (prepared_ac xs r);
  has = round_drop (is_of asks_parameters says_finished) [] xs r;
  power = p;
  waits = refl;
  still = refl;
  talks = λ d. refl;
  talked = λ d. refl;
  needs = refl;
  direct = inr (p, refl);
}
start_step here tuple profile finished ac xs h r p = absurd (cc)
