-- The schedules that a message tells are said by its tree: messages of one payload tell the same.
use Rattle.std.proofs.Common.{◌≡◌, ℕ, ◌==◌, false, List, [], ◌∷◌, map, get_or, pos, Option, Some, None, refl, sym, ◌∙◌, ap, ap₂, subst}
use Rattle.std.specs.Option.{option_map}
use Rattle.message_parts.specs.Contents.{holding}
use Rattle.session_words.specs.Amounts.{above_zero}
use Rattle.session_words.specs.Codes.{IsOkClass}
use Rattle.session_words.specs.declared.code.Code.{Code}
use Rattle.tree_words.specs.Named.{Children, children}
use Rattle.tree_words.proofs.Held.{children_held}
use Rattle.tree_words.proofs.Lists.{same_each}
use Rattle.iso_schema.specs.declared.names.TheConstants.{CHARGE_PARAMETER_DISCOVERY_RES, SA_SCHEDULE_TUPLE, P_MAX_SCHEDULE_ENTRY}
use Rattle.iso_parts.specs.Enumerations.{unit_symbol_ordinal}
use Rattle.iso_parts.specs.declared.codes.EvseProcessing.{EvseProcessing}
use Rattle.iso_parts.specs.declared.codes.ResponseCode.{ResponseCode}
use Rattle.iso_parts.specs.declared.enumerations.UnitSymbol.{UnitSymbol}
use Rattle.iso_parts.specs.declared.enumerations.UnitSymbol.TheVariants as unit
use Rattle.iso_parts.specs.declared.values.PhysicalValue.{PhysicalValue}
use Rattle.iso_schedules.specs.Schedules.{p_max_schedule_entry_parts, p_max_schedule_parts, sa_schedule_tuple_parts, sa_schedule_list_parts}
use Rattle.iso_schedules.specs.declared.schedules.PMaxSchedule.{PMaxSchedule}
use Rattle.iso_schedules.specs.declared.schedules.PMaxScheduleEntry.{PMaxScheduleEntry}
use Rattle.iso_schedules.specs.declared.schedules.SaScheduleList.{SaScheduleList as ScheduleList}
use Rattle.iso_schedules.specs.declared.schedules.SaScheduleTuple.{SaScheduleTuple}
use Rattle.iso_schedules.specs.declared.schedules.SaSchedules.{SaSchedules}
use Rattle.iso_schedules.specs.declared.schedules.SaSchedules.TheVariants.{SaScheduleList}
use Rattle.iso_schedules.specs.declared.schedules.TimeInterval.{TimeInterval}
use Rattle.iso_schedules.specs.declared.schedules.TimeInterval.TheVariants.{Relative}
use Rattle.iso_parameters.specs.Discovery.{charge_parameter_discovery_res_parts}
use Rattle.iso_parameters.specs.declared.limits.EvseChargeParameter.{EvseChargeParameter}
use Rattle.iso_parameters.specs.declared.limits.EvseChargeParameter.TheVariants as limits
use Rattle.iso_elements.specs.Brief.{brief_element_name}
use Rattle.iso_elements.specs.declared.brief.BriefElement.{BriefElement}
use Rattle.iso_elements.specs.declared.brief.BriefElement.TheVariants as brief
use Rattle.iso_message.specs.Documents.{IsIso}
use Rattle.iso_message.specs.Message.{body_element_inside}
use Rattle.iso_message.specs.declared.message.BodyElement.{BodyElement}
use Rattle.iso_message.specs.declared.message.BodyElement.TheVariants as element
use Rattle.iso_message.specs.declared.message.IsoMessage.{IsoMessage}
use Rattle.iso_values.specs.Codes.{code_of}
use Rattle.word_tables.specs.Tables.{Table, inside, meaning, read}
use Rattle.message_tables.specs.Values.{list_of}
use Rattle.iso_tables.specs.Values.{Physical}
use Rattle.iso_tables.specs.Parameters.{entry_rows, tuple_rows, tuples, parameters_with}
use Rattle.iso_words.proofs.Values.{code_read}
use Rattle.schedule_answers.specs.Schedules.{relative, Lists, TellsIn}
use Rattle.schedule_answers.proofs.Elements.{read_if, in_body, one_tree, same_tree}

-- ---- with all that a schedule has

abbrev unit_at : ℕ → UnitSymbol
unit_at k = get_or (unit.H ∷ unit.M ∷ unit.S ∷ unit.A ∷ unit.V ∷ unit.W ∷ unit.Wh ∷ []) k unit.H

abbrev value_of : Physical → PhysicalValue
value_of p = record { multiplier = p.0; unit = unit_at p.1.0; value = p.1.1.0 }

abbrev value_rows : PhysicalValue → Physical
value_rows v = (v.multiplier, (unit_symbol_ordinal v.unit, (v.value, tt)))

abbrev entry_of : TimeInterval → PhysicalValue → PMaxScheduleEntry
entry_of t p = record { time_interval = t; p_max = p }

abbrev interval_of : ℕ → Option ℕ → TimeInterval
interval_of start duration = Relative (record { start = start; duration = duration })

abbrev entry : Table inside PMaxScheduleEntry
entry =
    meaning (λ x. entry_of (interval_of x.0.0 x.0.1.0) (value_of x.1.0))
    (λ e. (((relative e.time_interval).start, ((relative e.time_interval).duration, tt)), (value_rows e.p_max, tt))) entry_rows

abbrev tuple_of : ℕ → List PMaxScheduleEntry → SaScheduleTuple
tuple_of id es = record { sa_schedule_tuple_id = id; p_max_schedule = record { p_max_schedule_entry = record { items = es } } }

abbrev tuple : Table inside SaScheduleTuple
tuple =
    meaning (λ x. tuple_of (above_zero x.0) x.1.0) (λ t. (pos t.sa_schedule_tuple_id, (t.p_max_schedule.p_max_schedule_entry.items, tt)))
    (tuple_rows 128 entry)

abbrev Reply : Type 0
Reply = Code × Option (List SaScheduleTuple)

abbrev reply_at : Children → Reply
reply_at c = let x = read (parameters_with tuple) c in (x.0, x.1.1.0)

-- ---- what they read of a message is what it has

unit_read : (u : UnitSymbol) → unit_at (unit_symbol_ordinal u) ≡ u
unit_read unit.H = refl
unit_read other = refl

rows_read : (start : ℕ) (duration : Option ℕ) (v : PhysicalValue)
    → read entry_rows (holding (p_max_schedule_entry_parts (entry_of (interval_of start duration) v))) ≡ ((start, (duration, tt)), (value_rows v, tt))
rows_read start None v = refl
rows_read start (Some n) v = refl

entry_read : (t : TimeInterval) (v : PhysicalValue) → read entry (holding (p_max_schedule_entry_parts (entry_of t v))) ≡ entry_of t v
entry_read (Relative x) v =
    ap (λ y. entry_of (interval_of y.0.0 y.0.1.0) (value_of y.1.0)) (rows_read x.start x.duration v)
    ∙ ap (λ (u : UnitSymbol). entry_of (Relative x) (record v { unit = u })) (unit_read v.unit)

entries_read : (s : PMaxSchedule) → read (list_of P_MAX_SCHEDULE_ENTRY 1 128 entry) (holding (p_max_schedule_parts s)) ≡ s.p_max_schedule_entry.items
entries_read s =
    ap (λ c. map (λ i. read entry i) (c P_MAX_SCHEDULE_ENTRY)) (children_held [] (p_max_schedule_parts s))
    ∙ same_each (λ i. read entry i) (λ e. holding (p_max_schedule_entry_parts e)) (λ e. entry_read e.time_interval e.p_max) s.p_max_schedule_entry.items

tuple_read : (t : SaScheduleTuple) → read tuple (holding (sa_schedule_tuple_parts t)) ≡ t
tuple_read t = ap (tuple_of t.sa_schedule_tuple_id) (entries_read t.p_max_schedule)

tuples_read : (l : ScheduleList) → read (tuples tuple) (holding (sa_schedule_list_parts l)) ≡ l.sa_schedule_tuple.items
tuples_read l =
    ap (λ c. map (λ i. read tuple i) (c SA_SCHEDULE_TUPLE)) (children_held [] (sa_schedule_list_parts l))
    ∙ same_each (λ i. read tuple i) (λ t. holding (sa_schedule_tuple_parts t)) tuple_read l.sa_schedule_tuple.items

abbrev tuples_in : SaSchedules → List SaScheduleTuple
tuples_in (SaScheduleList list) = list.sa_schedule_tuple.items

abbrev told : Code → Option SaSchedules → Reply
told code schedules = (code, option_map tuples_in schedules)

reply_read : (code : ResponseCode) (p : EvseProcessing) (s : Option SaSchedules) (l : EvseChargeParameter)
    → reply_at (children (holding (charge_parameter_discovery_res_parts (record {
      response_code = code;
      evse_processing = p;
      sa_schedules = s;
      evse_charge_parameter = l;
    }))))
    ≡ told (code_of code) s
reply_read code p None (limits.Ac x) = ap (λ c. told c None) (code_read code)
reply_read code p None (limits.Dc x) = ap (λ c. told c None) (code_read code)
reply_read code p (Some (SaScheduleList list)) l = ap₂ (λ c ts. (c, Some ts)) (code_read code) (tuples_read list)

-- ---- of the element of a body

abbrev of_body : Option BodyElement → Option Reply
of_body (Some (element.ChargeParameterDiscoveryRes x)) = Some (told (code_of x.response_code) x.sa_schedules)
of_body _ = None

another : (x : BriefElement) → (brief_element_name x == CHARGE_PARAMETER_DISCOVERY_RES) ≡ false
another (brief.AuthorizationReq x) = refl
another other = refl

body_read : (o : Option BodyElement) → in_body CHARGE_PARAMETER_DISCOVERY_RES reply_at o ≡ of_body o
body_read None = refl
body_read (Some (element.Brief x)) = ap (λ b. read_if b reply_at (body_element_inside (element.Brief x))) (another x)
body_read (Some (element.ChargeParameterDiscoveryRes x)) =
    ap (λ r. Some r) (reply_read x.response_code x.evse_processing x.sa_schedules x.evse_charge_parameter)
body_read (Some (element.ServiceDetailRes x)) = refl
body_read (Some (element.ServiceDiscoveryRes x)) = refl

-- ---- messages of one payload

same_body : (payload : List ℕ) (m n : IsoMessage) → IsIso m payload → IsIso n payload → of_body m.body.element ≡ of_body n.body.element
same_body payload m n p q =
    sym (body_read m.body.element)
    ∙ one_tree CHARGE_PARAMETER_DISCOVERY_RES reply_at m n (same_tree payload m n p q)
    ∙ body_read n.body.element

abbrev ListsIn : Option (List SaScheduleTuple) → List SaScheduleTuple → Type 0
ListsIn None ts = ⊥
ListsIn (Some own) ts = ts ≡ own

abbrev Told : Option Reply → List SaScheduleTuple → Type 0
Told None ts = ⊥
Told (Some r) ts = IsOkClass r.0 × ListsIn r.1 ts

lists_to : (s : Option SaSchedules) (ts : List SaScheduleTuple) → Lists s ts → ListsIn (option_map tuples_in s) ts
lists_to None ts h = absurd h
lists_to (Some (SaScheduleList list)) ts h = h

lists_from : (s : Option SaSchedules) (ts : List SaScheduleTuple) → ListsIn (option_map tuples_in s) ts → Lists s ts
lists_from None ts h = absurd h
lists_from (Some (SaScheduleList list)) ts h = h

told_to : (e : Option BodyElement) (ts : List SaScheduleTuple) → TellsIn e ts → Told (of_body e) ts
told_to None ts h = absurd h
told_to (Some (element.Brief x)) ts h = absurd h
told_to (Some (element.ChargeParameterDiscoveryRes x)) ts h = (h.0, lists_to x.sa_schedules ts h.1)
told_to (Some (element.ServiceDetailRes x)) ts h = absurd h
told_to (Some (element.ServiceDiscoveryRes x)) ts h = absurd h

told_from : (e : Option BodyElement) (ts : List SaScheduleTuple) → Told (of_body e) ts → TellsIn e ts
told_from None ts h = absurd h
told_from (Some (element.Brief x)) ts h = absurd h
told_from (Some (element.ChargeParameterDiscoveryRes x)) ts h = (h.0, lists_from x.sa_schedules ts h.1)
told_from (Some (element.ServiceDetailRes x)) ts h = absurd h
told_from (Some (element.ServiceDiscoveryRes x)) ts h = absurd h

pub same_told : (payload : List ℕ) (m n : IsoMessage) (ts : List SaScheduleTuple) → IsIso m payload → IsIso n payload
    → TellsIn m.body.element ts → TellsIn n.body.element ts
same_told payload m n ts p q h =
    told_from n.body.element ts (subst (λ (o : Option Reply). Told o ts) (same_body payload m n p q) (told_to m.body.element ts h))
