-- ISO 15118-2:2014, section 8.8.4: which of the words that lead to a closed contactor a session has answered, as a value behind each of
-- them. Lists have their newest item first.
use Rattle.std.specs.Prelude.{Bool, true, false, not, ◌&&◌, ◌||◌, if◌then◌else◌, List, [], ◌∷◌}
use Rattle.post_spec.specs.Kinds.{is_negotiation, is_of, any, says_finished, asks_setup, asks_services, asks_payment, asks_authorization, asks_parameters, asks_cable_check, asks_pre_charge}
use Rattle.post_spec.specs.Prepared.{renegotiates}
use Rattle.post_spec.specs.Talk.{Exchange}
use Rattle.audit_mandates.specs.declared.preparation.Preparation.{Preparation}

abbrev pub unprepared : Preparation
unprepared = record {
  negotiated = false;
  set_up = false;
  discovered = false;
  selected = false;
  authorized = false;
  renegotiated = false;
  authorized_before = false;
  parametrized = false;
  checked = false;
  pre_charged = false;
}

-- one more answered word
abbrev pub prepared_by : Exchange → Preparation → Preparation
prepared_by x p = record {
  negotiated = (is_negotiation x && true) || p.negotiated;
  set_up = (is_of asks_setup any x && p.negotiated) || p.set_up;
  discovered = (is_of asks_services any x && p.set_up) || p.discovered;
  selected = (is_of asks_payment any x && p.discovered) || p.selected;
  authorized = (is_of asks_authorization says_finished x && p.selected) || p.authorized;
  renegotiated = renegotiates x || p.renegotiated;
  authorized_before = if renegotiates x then p.authorized else p.authorized_before;
  parametrized = not (renegotiates x) && ((is_of asks_parameters says_finished x && (p.renegotiated || p.authorized)) || p.parametrized);
  checked = not (renegotiates x) && ((is_of asks_cable_check says_finished x && p.parametrized) || p.checked);
  pre_charged = not (renegotiates x) && ((is_of asks_pre_charge any x && p.checked) || p.pre_charged);
}

abbrev pub prepared : List Exchange → Preparation
prepared [] = unprepared
prepared (x ∷ xs) = prepared_by x (prepared xs)

-- the words that a session has to go through before its contactor may be closed were answered
abbrev pub is_prepared : Bool → Preparation → Bool
is_prepared ac p = (not p.renegotiated || p.authorized_before) && (if ac then p.parametrized else p.pre_charged)
