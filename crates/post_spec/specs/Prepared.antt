-- ISO 15118-2:2014, section 8.8.4: what a session has gone through before its contactor may be closed, said by the words of the session,
-- without rows.
use Rattle.std.specs.Prelude.{◌≡◌, Bool, true, false, if◌then◌else◌, List, [], ◌∷◌, ◌++◌, ◌⊎◌}
use Rattle.std.specs.List.{AllByRecursion}
use Rattle.post_spec.specs.Kinds.{is_negotiation, is_of, any, says_finished, asks_setup, asks_services, asks_payment, asks_authorization, asks_parameters, asks_cable_check, asks_pre_charge, asks_renegotiation}
use Rattle.post_spec.specs.Talk.{Exchange}

-- exchanges of these kinds are there in this order, the newest first
abbrev pub Has : List (Exchange → Bool) → List Exchange → Type 0
Has [] xs = Unit {0}
Has (kind ∷ kinds) [] = ⊥
Has (kind ∷ kinds) (x ∷ xs) = ((kind x ≡ true) × Has kinds xs) ⊎ Has (kind ∷ kinds) xs

abbrev pub HasNo : (Exchange → Bool) → List Exchange → Type 0
HasNo kind = AllByRecursion (λ x. kind x ≡ false)

-- a negotiation, SessionSetup, ServiceDiscovery, the payment selection, an authorization answered Finished
abbrev pub set_up : List (Exchange → Bool)
set_up = is_of asks_authorization says_finished ∷ is_of asks_payment any ∷ is_of asks_services any ∷ is_of asks_setup any ∷ is_negotiation ∷ []

-- ChargeParameterDiscovery answered Finished; in DC then a CableCheck answered Finished, and a PreCharge
abbrev pub powered : Bool → List (Exchange → Bool) → List (Exchange → Bool)
powered true kinds = is_of asks_parameters says_finished ∷ kinds
powered false kinds =
    is_of asks_pre_charge any ∷ is_of asks_cable_check says_finished ∷ is_of asks_parameters says_finished ∷ kinds

abbrev pub renegotiates : Exchange → Bool
renegotiates = is_of asks_renegotiation any

-- all this behind the last renegotiation, if there was one, but for the setup, which stands before it
pub record IsRound (ac : Bool) (xs : List Exchange) : Type 0 where
  pub round : List Exchange
  pub renegotiation : Exchange
  pub earlier : List Exchange
  pub xs_are : xs ≡ round ++ renegotiation ∷ earlier
  pub renegotiates_is : renegotiates renegotiation ≡ true
  pub last : HasNo renegotiates round
  pub power : Has (powered ac []) round
  pub setup : Has set_up earlier

abbrev pub IsPrepared : Bool → List Exchange → Type 0
IsPrepared ac xs = (HasNo renegotiates xs × Has (powered ac set_up) xs) ⊎ IsRound ac xs
