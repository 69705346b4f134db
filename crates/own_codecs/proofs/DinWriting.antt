-- DIN SPEC 70121:2014, 9.4: what is written for a reply writes the watts that it tells.
use Rattle.std.proofs.Common.{◌≡◌, ◌<◌, ℕ, Bool, List, [], ◌∷◌, Option, Some, None, refl, sym, ap, subst, ◌∙◌}
use Rattle.std.specs.Prelude.{pos, IfSome}
use Rattle.std.specs.List.{AllByRecursion}
use Rattle.std.specs.Option.{option_map}
use Rattle.arrayvec.specs.ArrayVec.{ArrayVec}
use Rattle.charge_world.specs.declared.offer.Dialect.TheVariants as dialect
use Rattle.document_laws.proofs.Encodings.{encoding_spelled}
use Rattle.document_laws.proofs.Payloads.{payload_decided}
use Rattle.message_parts.specs.Contents.{Inside, Holding}
use Rattle.session_words.specs.declared.amount.Amount.{Amount}
use Rattle.session_words.specs.declared.code.Code.{Code}
use Rattle.session_words.specs.declared.limits.DcStatus.{DcStatus}
use Rattle.session_words.specs.declared.limits.EvseId.TheVariants as evse_id
use Rattle.session_words.specs.declared.limits.PostLimits.TheVariants as limits
use Rattle.session_words.specs.declared.limits.PostStatus.TheVariants as post
use Rattle.session_words.specs.declared.limits.Tuple.{Tuple}
use Rattle.session_words.specs.declared.plan.PostPlan.{PostPlan}
use Rattle.session_words.specs.declared.session.SessionId.{SessionId}
use Rattle.session_words.specs.declared.word.Reply.{Reply}
use Rattle.session_words.specs.declared.word.Tell.{Tell}
use Rattle.session_words.specs.declared.word.Tell.TheVariants as tell
use Rattle.session_rules.specs.Offers.{amount, scheduled_watts}
use Rattle.tree_words.specs.Named.{Children, children, within}
use Rattle.word_tables.specs.Tables.{Table, rows, written}
use Rattle.message_tables.specs.Frame.{in_message}
use Rattle.din_schema.specs.Declarations.{schema}
use Rattle.din_schema.specs.declared.names.TheConstants.{CABLE_CHECK_RES, CONTRACT_AUTHENTICATION_RES, POWER_DELIVERY_RES, PRE_CHARGE_RES, SERVICE_DISCOVERY_RES, SERVICE_PAYMENT_SELECTION_RES, SESSION_SETUP_RES, SESSION_STOP_RES, WELDING_DETECTION_RES}
use Rattle.din_tables.specs.Values.{power}
use Rattle.din_tables.specs.Frame.{frame}
use Rattle.din_tables.specs.Setup.{code_alone, setup_res, discovery_res, first_mode, authorization_res}
use Rattle.din_tables.specs.Power.{present_voltage, cable_check_res, delivery_res, demand_res}
use Rattle.din_tables.specs.Parameters.{parameters_res}
use Rattle.din_tables.specs.Words.{in_tell, root}
use Rattle.din_word_messages.specs.Spellable.{AreWatts, CanTell}
use Rattle.told_codecs.specs.Din.{Encodes}
use Rattle.told_pasts.specs.Spelling.{SpelledWatts, Writes, WritesSchedule, AreTold}
use Rattle.audit_watts.specs.Values.{no_watts}
use Rattle.told_codecs.specs.Replies.{DinTree}
use Rattle.told_codecs.specs.Watts.{PayloadSpells}
use Rattle.told_codecs.specs.DinWatts.{written_in, parameters_in, demand_in}
use Rattle.own_courses.specs.Writing.{TellsSchedule, Tells}
use Rattle.own_codecs.proofs.DinWeights.{own_of, tree_watts}
use Rattle.own_codecs.proofs.Written.{watts_written, none_told}

abbrev IsTold : PostPlan → ℕ → SpelledWatts → Type 0
IsTold plan told s = AreTold plan dialect.Din told s

-- ---- of a PhysicalValue

amount_written : (a : Amount) (told : ℕ) → a ≡ amount told → a.size < 32768000 → Writes told (written_in (children (written power a)))
amount_written a told e h =
    let few : told < 32768000 = subst (λ (n : ℕ). n < 32768000) (ap (λ (x : Amount). x.size) e) h in
    subst (λ (x : Amount). Writes told (written_in (children (written power x)))) (sym e) (watts_written told few)

some_amount : (a b : Amount) → Some a ≡ Some b → a ≡ b
some_amount a b e = cc

some_power : (most : Option Amount) (told : ℕ) → most ≡ Some (amount told) → IfSome most AreWatts
    → (a : Amount) × (most ≡ Some a) × (a ≡ amount told) × (a.size < 32768000)
some_power None told e can = cc
some_power (Some a) told e can = (a, refl, some_amount a (amount told) e, can)

-- a power that is told in the children that hold it
power_told : (plan : PostPlan) (told : ℕ) (watts : Option Amount → SpelledWatts) (most : Option Amount)
    → ((a : Amount) → Writes told (written_in (children (written power a))) → IsTold plan told (watts (Some a))) → most ≡ Some (amount told)
    → IfSome most AreWatts → IsTold plan told (watts most)
power_told plan told watts most each e can =
    let x = some_power most told e can in
    subst (λ (m : Option Amount). IsTold plan told (watts m)) (sym x.1) (each x.0 (amount_written x.0 told x.2 x.3))

abbrev one_tuple : ℕ → List Tuple
one_tuple told = record { id = pos 1; entries = 1; least = amount (scheduled_watts dialect.Din told) } ∷ []

-- ---- of each reply

abbrev OwnTold : PostPlan → ℕ → Option Inside → Type 0
OwnTold plan told None = Unit {0}
OwnTold plan told (Some own) = IsTold plan told (tree_watts (root own))

quiet_told : {X : Type 0} (plan : PostPlan) (told : ℕ) (name : ℕ) (table : Table rows X) (s : SessionId) (x : X)
    → tree_watts (root (own_of name table s x)) ≡ no_watts → OwnTold plan told (in_message frame name table s x)
quiet_told plan told name table s x is = subst (IsTold plan told) (sym is) (none_told plan dialect.Din told)

-- a power that is told in a CurrentDemandRes, whichever other limits it has
demand_with : (plan : PostPlan) (told : ℕ) (c : Code) (status : DcStatus) (v a : Amount) (a_cut v_cut w_cut : Bool) (most_v most_a : Option Amount) (x : Amount)
    → Writes told (written_in (children (written power x)))
    → IsTold plan told (demand_in (children (Holding [] (written demand_res
    (c, (status, (v, (a, (a_cut, (v_cut, (w_cut, (most_v, (most_a, (Some x, tt))))))))))))))
demand_with plan told c status v a a_cut v_cut w_cut None None x h = record { power = h; current = tt; p_max = tt }
demand_with plan told c status v a a_cut v_cut w_cut None (Some current) x h = record { power = h; current = tt; p_max = tt }
demand_with plan told c status v a a_cut v_cut w_cut (Some voltage) None x h = record { power = h; current = tt; p_max = tt }
demand_with plan told c status v a a_cut v_cut w_cut (Some voltage) (Some current) x h = record { power = h; current = tt; p_max = tt }

tell_written : (plan : PostPlan) (told : ℕ) (s : SessionId) (c : Code) (t : Tell) → CanTell t → Tells plan dialect.Din told t
    → OwnTold plan told (in_tell s c t)
tell_written plan told s c (tell.SessionSetup (evse_id.Bytes id)) can tells = quiet_told plan told SESSION_SETUP_RES setup_res s (c, (id.items, tt)) refl
tell_written plan told s c (tell.SessionSetup (evse_id.Text id)) can tells = tt
tell_written plan told s c (tell.ServiceDiscovery free modes) can tells =
    quiet_told plan told SERVICE_DISCOVERY_RES discovery_res s (c, ((free, (first_mode modes.items, tt)), tt)) refl
tell_written plan told s c (tell.ServiceDetail service) can tells = tt
tell_written plan told s c tell.PaymentSelection can tells = quiet_told plan told SERVICE_PAYMENT_SELECTION_RES code_alone s (c, tt) refl
tell_written plan told s c (tell.Authorization p) can tells = quiet_told plan told CONTRACT_AUTHENTICATION_RES authorization_res s (c, (p, tt)) refl
tell_written plan told s c (tell.ChargeParameters p schedule (limits.Ac notify v a)) can tells = tt
tell_written plan told s c (tell.ChargeParameters p None (limits.Dc status a w v least_a least_v ripple)) can tells =
    power_told plan told (λ m. parameters_in (children (Holding [] (written parameters_res (c, (p, (None, ((status, (a, (m, (v, (least_a, (least_v, (ripple, tt))))))), tt))))))))
    w (λ x h. record { power = h; current = tt; p_max = tt }) tells.1 can.2.2
tell_written plan told s c (tell.ChargeParameters p (Some tuples) (limits.Dc status a w v least_a least_v ripple)) can tells =
    power_told plan told (λ m. parameters_in (children (Holding [] (written parameters_res (c, (p, (Some tuples.items, ((status, (a, (m, (v, (least_a, (least_v, (ripple, tt))))))), tt))))))))
    w (λ x h. subst (λ (ts : List Tuple). IsTold plan told (parameters_in (children (Holding [] (written parameters_res (c, (p, (Some ts, ((status, (a, (Some x, (v, (least_a, (least_v, (ripple, tt))))))), tt))))))))) (sym tells.0)
    (record { power = h; current = tt; p_max = (refl, tt) })) tells.1 can.2.2
tell_written plan told s c (tell.CableCheck status p) can tells = quiet_told plan told CABLE_CHECK_RES cable_check_res s (c, (status, (p, tt))) refl
tell_written plan told s c (tell.PreCharge status v) can tells = quiet_told plan told PRE_CHARGE_RES present_voltage s (c, (status, (v, tt))) refl
tell_written plan told s c (tell.PowerDelivery (post.Ac notify)) can tells = tt
tell_written plan told s c (tell.PowerDelivery (post.Dc status)) can tells = quiet_told plan told POWER_DELIVERY_RES delivery_res s (c, (status, tt)) refl
tell_written plan told s c (tell.CurrentDemand status v a a_cut v_cut w_cut most_v most_a most_w id) can tells =
    power_told plan told (λ m. demand_in (children (Holding [] (written demand_res (c, (status, (v, (a, (a_cut, (v_cut, (w_cut, (most_v, (most_a, (m, tt))))))))))))))
    most_w (λ x h. demand_with plan told c status v a a_cut v_cut w_cut most_v most_a x h) tells can.5
tell_written plan told s c (tell.ChargingStatus n id a) can tells = tt
tell_written plan told s c (tell.WeldingDetection status v) can tells = quiet_told plan told WELDING_DETECTION_RES present_voltage s (c, (status, (v, tt))) refl
tell_written plan told s c tell.SessionStop can tells = quiet_told plan told SESSION_STOP_RES code_alone s (c, tt) refl

-- ---- a payload

pub writes : (plan : PostPlan) (reply : Reply) (payload : List ℕ) (watts : SpelledWatts) (told : ℕ) → Encodes reply payload
    → PayloadSpells schema DinTree payload watts → Tells plan dialect.Din told reply.tell → AreTold plan dialect.Din told watts
writes plan reply payload watts told e w tells =
    let own = e.written.own in
    let same : w.tree ≡ root own =
    (payload_decided schema payload).one_tree w.tree (root own) w.document (encoding_spelled schema (root own) payload e.written.encoding) in
    let is : tree_watts (root own) ≡ watts = sym (w.spelled.1 ∙ ap tree_watts same) in
    subst (IsTold plan told) is (subst (OwnTold plan told) e.written.own_is (tell_written plan told reply.session reply.code reply.tell e.can.2 tells))
