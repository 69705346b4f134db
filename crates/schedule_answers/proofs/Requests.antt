-- The request of a profile holds what is declared, and its encoding is small.
use Rattle.std.proofs.Common.{◌*◌, ◌≤◌, List, [], ◌∷◌, length, map, refl, sym, subst, arith}
use Rattle.std.specs.Prelude.{All, true}
use Rattle.document_sizes.specs.Sizes.{inside_weight, each_weight}
use Rattle.document_sizes.proofs.Documents.{document_fits}
use Rattle.document_sizes.proofs.Parts.{plain_sum}
use Rattle.dialect_sizes.proofs.Narrow.{iso_narrow}
use Rattle.exi_schema.specs.Plain.{up_to}
use Rattle.message_parts.specs.Contents.{holding}
use Rattle.fitting_parts.specs.Fitting.{HoldsTrees}
use Rattle.fitting_parts.proofs.Fitted.{holding_held}
use Rattle.iso_schema.specs.Declarations.{kinds, schema}
use Rattle.iso_schema.specs.Delivery.{power_delivery_req, charging_profile, profile_entry as entry_particles}
use Rattle.iso_schema.specs.declared.names.TheConstants.{PROFILE_ENTRY}
use Rattle.iso_schema.specs.declared.kinds.TheConstants.{UNSIGNED_INT_KIND, TUPLE_ID_KIND, CHARGE_PROGRESS_KIND, PHYSICAL_VALUE_KIND, POWER_DELIVERY_REQ_KIND, CHARGING_PROFILE_KIND, PROFILE_ENTRY_KIND}
use Rattle.iso_parts.specs.declared.codes.ChargeProgress.TheVariants.{Start}
use Rattle.iso_delivery.specs.Delivery.{profile_entry_parts, charging_profile_parts, power_delivery_req_parts}
use Rattle.iso_message.specs.Documents.{iso_tree, iso_number, IsWithin, PassesBytes}
use Rattle.iso_message.specs.declared.message.IsoMessage.{IsoMessage}
use Rattle.iso_message.specs.declared.message.BodyElement.TheVariants.{Brief}
use Rattle.iso_elements.specs.declared.brief.BriefElement.TheVariants as brief
use Rattle.written_parts.proofs.Parts.{each_held, up_to_takes}
use Rattle.schedules.specs.declared.power.Step.{Step}
use Rattle.schedules.specs.declared.power.Profile.{Profile}
use Rattle.schedule_answers.specs.Requests.{CanWrite, entry_of, entries, request, CanRequest, IsRequestOf}
use Rattle.schedule_answers.proofs.Held.{unsigned_int, charge_progress, tuple_number, power_held, message_fits, weight_of, message_light}

entry_held : (s : Step) → CanWrite s → HoldsTrees kinds PROFILE_ENTRY_KIND (holding (profile_entry_parts (entry_of s)))
entry_held s can =
    holding_held kinds PROFILE_ENTRY_KIND [] entry_particles [] (profile_entry_parts (entry_of s)) refl tt (
      ((UNSIGNED_INT_KIND, refl, unsigned_int s.start (omega (arith, can.0))), refl),
      (
        ((PHYSICAL_VALUE_KIND, refl, power_held (record { size = s.watts; right = true }) can.1), refl),
        (refl, tt),
      ),
    )

profile_held : (steps : List Step) → 1 ≤ length steps → length steps ≤ 24 → All CanWrite steps
    → HoldsTrees kinds CHARGING_PROFILE_KIND (holding (charging_profile_parts (entries steps)))
profile_held steps some few can =
    holding_held kinds CHARGING_PROFILE_KIND [] charging_profile [] (charging_profile_parts (entries steps)) refl tt (
      each_held kinds (up_to 24 PROFILE_ENTRY PROFILE_ENTRY_KIND) PROFILE_ENTRY (λ x. holding (profile_entry_parts x)) entry_of
          CanWrite (λ s h. (PROFILE_ENTRY_KIND, refl, entry_held s h)) steps can
          (up_to_takes 24 PROFILE_ENTRY PROFILE_ENTRY_KIND (length steps) some few),
      tt,
    )

request_held : (p : Profile) → CanRequest p → p.tuple ≤ 255
    → HoldsTrees kinds POWER_DELIVERY_REQ_KIND (holding (power_delivery_req_parts (request p)))
request_held p can most =
    holding_held kinds POWER_DELIVERY_REQ_KIND [] power_delivery_req [] (power_delivery_req_parts (request p)) refl tt (
      ((CHARGE_PROGRESS_KIND, refl, charge_progress Start), refl),
      (
        ((TUPLE_ID_KIND, refl, tuple_number p.tuple can.tuple most), refl),
        (
          ((CHARGING_PROFILE_KIND, refl, profile_held p.steps.items can.some can.few can.steps), refl),
          (refl, tt),
        ),
      ),
    )

pub request_within : (p : Profile) (m : IsoMessage) → CanRequest p → p.tuple ≤ 255 → IsRequestOf p m → IsWithin m
request_within p m can most is =
    subst IsWithin (sym is.message_is)
    (message_fits m.header.session_id (Brief (brief.PowerDeliveryReq (request p))) is.session
    (((POWER_DELIVERY_REQ_KIND, refl, request_held p can most), refl), tt))

-- ---- how many bits

entries_light : (steps : List Step) → each_weight 6 (map (λ x. holding (profile_entry_parts x)) (map entry_of steps)) ≤ 311 * length steps
entries_light [] = omega arith
entries_light (s ∷ steps) = omega (arith, entries_light steps)

profile_light : (steps : List Step) → length steps ≤ 24 → inside_weight 6 (holding (charging_profile_parts (entries steps))) ≤ 7470
profile_light steps few = omega (arith, plain_sum 6 (charging_profile_parts (entries steps)), entries_light steps, few)

request_light : (p : Profile) → length p.steps.items ≤ 24 → inside_weight 6 (holding (power_delivery_req_parts (request p))) ≤ 7600
request_light p few = omega (arith, plain_sum 6 (power_delivery_req_parts (request p)), profile_light p.steps.items few)

pub request_small : (p : Profile) (m : IsoMessage) → CanRequest p → IsRequestOf p m → PassesBytes m 2048 → ⊥
request_small p m can is passes =
    let whole = message_light 7600 m.header.session_id (Brief (brief.PowerDeliveryReq (request p))) is.session (request_light p can.few) in
    let few = subst (λ (n : IsoMessage). weight_of n ≤ 7800) (sym is.message_is) whole in
    document_fits 6 schema iso_number (iso_tree m) 2048 iso_narrow (omega (arith, few)) passes
