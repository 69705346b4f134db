-- ISO 15118-2:2014, 8.4.3.9 (PowerDeliveryReq) and 8.5.2.10, 8.5.2.11 (ChargingProfile, ProfileEntry): the request of a profile. Which
-- Multiplier a power is written with is own.
use Rattle.std.specs.Prelude.{◌≡◌, ℕ, ◌<◌, ◌≤◌, true, All, List, [], ◌∷◌, length, map, Some, None}
use Rattle.exi_bits.specs.Lent.{items_of}
use Rattle.message_parts.specs.declared.texts.Binary.{Binary}
use Rattle.iso_parts.specs.declared.codes.ChargeProgress.TheVariants.{Start}
use Rattle.iso_delivery.specs.declared.delivery.ProfileEntry.{ProfileEntry}
use Rattle.iso_delivery.specs.declared.delivery.ChargingProfile.{ChargingProfile}
use Rattle.iso_delivery.specs.declared.delivery.PowerDeliveryReq.{PowerDeliveryReq}
use Rattle.iso_message.specs.declared.message.BodyElement.TheVariants.{Brief}
use Rattle.iso_elements.specs.declared.brief.BriefElement.TheVariants as brief
use Rattle.iso_message.specs.declared.message.IsoMessage.{IsoMessage}
use Rattle.iso_values.specs.Physical.{power_of}
use Rattle.schedules.specs.declared.power.Step.{Step}
use Rattle.schedules.specs.declared.power.Profile.{Profile}

-- the identifier of no session
abbrev pub no_session : List ℕ
no_session = 0 ∷ 0 ∷ 0 ∷ 0 ∷ 0 ∷ 0 ∷ 0 ∷ 0 ∷ []

-- its start has 32 bits, and a Value and a Multiplier up to 3 write its watts, but for what is dropped
abbrev pub CanWrite : Step → Type 0
CanWrite s = (s.start < 4294967296) × (s.watts < 32768000)

-- a profile that can be asked for
pub record CanRequest (p : Profile) : Type 0 where
  pub tuple : 1 ≤ p.tuple
  pub some : 1 ≤ length p.steps.items
  pub few : length p.steps.items ≤ 24
  pub steps : All CanWrite p.steps.items

abbrev pub entry_of : Step → ProfileEntry
entry_of s = record {
  charging_profile_entry_start = s.start;
  charging_profile_entry_max_power = power_of (record { size = s.watts; right = true });
  charging_profile_entry_max_number_of_phases_in_use = None;
}

abbrev pub entries : List Step → ChargingProfile
entries steps = record { profile_entry = record { items = map entry_of steps } }

abbrev pub request : Profile → PowerDeliveryReq
request p = record {
  charge_progress = Start;
  sa_schedule_tuple_id = p.tuple;
  charging_profile = Some (entries p.steps.items);
  ev_power_delivery_parameter = None;
}

-- in a session with this identifier, without a notification
abbrev pub request_with : Binary → Profile → IsoMessage
request_with session p = record {
  header = record { session_id = session; notification = None };
  body = record { element = Some (Brief (brief.PowerDeliveryReq (request p))) };
}

-- a message is the request of a profile, wherever its identifier lies
pub record IsRequestOf (p : Profile) (m : IsoMessage) : Type 0 where
  pub session : items_of m.header.session_id.span ≡ no_session
  pub message_is : m ≡ request_with m.header.session_id p
