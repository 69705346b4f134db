-- What the message of a service offers.
use Rattle.std.proofs.Common.{◌≡◌, ◌↔◌, ℕ, Bool, true, false, if◌then◌else◌, List, [], ◌∷◌, map, Option, Some, None, refl, sym, ap, subst, ◌∙◌}
use Rattle.std.specs.Prelude.{ℤ}
use Rattle.iso_details.specs.declared.details.ParameterValue.{ParameterValue}
use Rattle.iso_details.specs.declared.details.ParameterValue.TheVariants as value
use Rattle.iso_message.specs.declared.message.IsoMessage.{IsoMessage}
use Rattle.iso_message.specs.Documents.{IsIso, IsIsoEncoding}
use Rattle.service_spec.specs.declared.Value.{Value}
use Rattle.service_spec.specs.declared.Value.TheVariants as said
use Rattle.service_spec.specs.declared.Parameter.{Parameter as Pair}
use Rattle.service_spec.specs.declared.ParameterSet.{ParameterSet as Offered}
use Rattle.service_spec.specs.declared.Service.{Service}
use Rattle.service_spec.specs.Services.{Content, Number, Said, SaidSet, content_of, said_of, said_set_of, is_below, IsPicked, PicksNone}
use Rattle.service_messages.specs.Offers.{content_in, said_in, said_set_in, sets_in, Offers, IsChoice, HasNoChoice}
use Rattle.service_messages.specs.Messages.{value_of, parameter_of, set_of, list_of, IsDetailOf}
use Rattle.service_messages.specs.Payloads.{IsPayloadOf}

-- ---- what is said

abbrev number_by : Bool → Bool → ℤ → ParameterValue
number_by byte short n = if byte then value.Byte n else if short then value.Short n else value.Int n

said_number : (byte short : Bool) (n : ℤ) → content_in (number_by byte short n) ≡ Some (Number n)
said_number true short n = refl
said_number false true n = refl
said_number false false n = refl

said_value : (v : Value) → content_in (value_of v) ≡ Some (content_of v)
said_value (said.Truth truth) = refl
said_value (said.Number n) = said_number (is_below 128 n) (is_below 32768 n) n
said_value (said.Text inside) = refl

abbrev with_content : List ℕ → Option Content → Said
with_content name content = record { name = name; content = content }

said_parameter : (p : Pair) → said_in (parameter_of p) ≡ said_of p
said_parameter p = ap (with_content (said_of p).name) (said_value p.value)

said_parameters : (ps : List Pair) → map said_in (map parameter_of ps) ≡ map said_of ps
said_parameters [] = refl
said_parameters (p ∷ ps) =
    ap (λ (s : Said). s ∷ map said_in (map parameter_of ps)) (said_parameter p) ∙ ap (λ (l : List Said). said_of p ∷ l) (said_parameters ps)

abbrev with_parameters : ℤ → List Said → SaidSet
with_parameters id parameters = record { id = id; parameters = parameters }

said_sets : (sets : List Offered) → map said_set_in (map set_of sets) ≡ map said_set_of sets
said_sets [] = refl
said_sets (s ∷ sets) =
    ap (λ (l : List Said). with_parameters s.id l ∷ map said_set_in (map set_of sets)) (said_parameters s.parameters.items)
    ∙ ap (λ (l : List SaidSet). said_set_of s ∷ l) (said_sets sets)

said_list : (sets : List Offered) → sets_in (list_of sets) ≡ map said_set_of sets
said_list [] = refl
said_list (s ∷ sets) = said_sets (s ∷ sets)

-- ---- what is offered

detail_offers : (id : ℕ) (s : Service) (m : IsoMessage) → IsDetailOf id (Some s) m → Offers m (map said_set_of s.sets.items)
detail_offers id s m is = subst (λ (n : IsoMessage). Offers n (map said_set_of s.sets.items)) (sym is.message_is) (tt, sym (said_list s.sets.items))

offered_by_detail : (id : ℕ) (s : Service) (m : IsoMessage) (sets : List SaidSet) → IsDetailOf id (Some s) m → Offers m sets → sets ≡ map said_set_of s.sets.items
offered_by_detail id s m sets is offers = (subst (λ (n : IsoMessage). Offers n sets) is.message_is offers).1 ∙ said_list s.sets.items

none_offered : (id : ℕ) (m : IsoMessage) (sets : List SaidSet) → IsDetailOf id None m → Offers m sets → ⊥
none_offered id m sets is offers = (subst (λ (n : IsoMessage). Offers n sets) is.message_is offers).0

-- ---- payloads

abbrev pub AreRead : Type 0
AreRead = (m : IsoMessage) (payload : List ℕ) → IsIsoEncoding m payload → IsIso m payload

abbrev pub OneOffer : Type 0
OneOffer = (payload : List ℕ) (m n : IsoMessage) (sets : List SaidSet) → IsIso m payload → IsIso n payload → Offers m sets → Offers n sets

pub some_read : AreRead → (id : ℕ) (service : Option Service) (payload : List ℕ) → IsPayloadOf id service payload → (m : IsoMessage) × IsIso m payload
some_read read id service payload is = (is.message, read is.message payload is.encoded)

module _ (read : AreRead) (one : OneOffer) (id : ℕ) (payload : List ℕ) (m : IsoMessage) where
  back : (service : Option Service) (sets : List SaidSet) (is : IsPayloadOf id service payload) → IsIso m payload → Offers m sets → Offers is.message sets
  back service sets is spelled offers = one payload m is.message sets spelled (read is.message payload is.encoded) offers

  pub payload_offers : (s : Service) → IsPayloadOf id (Some s) payload → IsIso m payload → Offers m (map said_set_of s.sets.items)
  payload_offers s is spelled =
      one payload is.message m (map said_set_of s.sets.items) (read is.message payload is.encoded) spelled (detail_offers id s is.message is.detail)

  same_sets : (s : Service) (sets : List SaidSet) → IsPayloadOf id (Some s) payload → IsIso m payload → Offers m sets → sets ≡ map said_set_of s.sets.items
  same_sets s sets is spelled offers = offered_by_detail id s is.message sets is.detail (back (Some s) sets is spelled offers)

  pub payload_picks : (s : Service) (want : List Said) (set : ℤ) → IsPayloadOf id (Some s) payload → IsIso m payload
      → IsChoice want m set ↔ IsPicked want (map said_set_of s.sets.items) set
  payload_picks s want set is spelled = (
    λ choice. subst (λ (sets : List SaidSet). IsPicked want sets set) (same_sets s choice.sets is spelled choice.offered) choice.picked,
    λ picked. record { sets = map said_set_of s.sets.items; offered = payload_offers s is spelled; picked = picked },
  )

  pub payload_picks_none : (s : Service) (want : List Said) → IsPayloadOf id (Some s) payload → IsIso m payload
      → HasNoChoice want m ↔ PicksNone want (map said_set_of s.sets.items)
  payload_picks_none s want is spelled = (
    λ none. none (map said_set_of s.sets.items) (payload_offers s is spelled),
    λ none sets offers. subst (λ (l : List SaidSet). PicksNone want l) (sym (same_sets s sets is spelled offers)) none,
  )

  pub payload_is_absent : (sets : List SaidSet) → IsPayloadOf id None payload → IsIso m payload → Offers m sets → ⊥
  payload_is_absent sets is spelled offers = none_offered id is.message sets is.detail (back None sets is spelled offers)
