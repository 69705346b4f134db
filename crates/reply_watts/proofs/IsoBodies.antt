-- ISO 15118-2:2014: a message spells watts as the element of its body does.
use Rattle.std.proofs.Common.{◌≡◌, ℕ, Option, Some, None, sym, subst}
use Rattle.charge_world.specs.declared.offer.Dialect.{Dialect}
use Rattle.exi_documents.specs.Trees.{none}
use Rattle.message_parts.specs.Contents.{Inside}
use Rattle.session_words.specs.declared.plan.PostPlan.{PostPlan}
use Rattle.iso_parts.specs.declared.frame.Header.{Header}
use Rattle.iso_elements.specs.Brief.{brief_element_name, brief_element_inside}
use Rattle.iso_elements.specs.declared.brief.BriefElement.{BriefElement}
use Rattle.iso_message.specs.Documents.{iso_inside, iso_tree}
use Rattle.iso_message.specs.Message.{body_element_name, body_element_inside}
use Rattle.iso_message.specs.declared.message.BodyElement.{BodyElement}
use Rattle.iso_message.specs.declared.message.IsoMessage.{IsoMessage}
use Rattle.tree_words.proofs.Held.{first_is}
use Rattle.audit_watts.specs.declared.values.WattValues.{WattValues}
use Rattle.audit_watts.specs.Values.{no_watts}
use Rattle.audit_streams.specs.Words.{IsOfWatts}
use Rattle.reply_watts.specs.Replies.{IsoElement, IsoTree}

abbrev pub BriefSpells : Inside → PostPlan → Dialect → ℕ → BriefElement → Option WattValues → Type 0
BriefSpells own plan spoken told e r = IsOfWatts (IsoElement own (Some (brief_element_name e, brief_element_inside e))) plan spoken told r

abbrev pub BodySpells : Inside → PostPlan → Dialect → ℕ → BodyElement → Option WattValues → Type 0
BodySpells own plan spoken told e r = IsOfWatts (IsoElement own (Some (body_element_name e, body_element_inside e))) plan spoken told r

-- a reply that spells no watts
pub quiet_brief : (own : Inside) (e : BriefElement) {X : Type 0} (make : X → BriefElement)
    → ((x : X) → IsoElement own (Some (brief_element_name (make x), brief_element_inside (make x))) no_watts)
    → (x : X) × (e ≡ make x) → IsoElement own (Some (brief_element_name e, brief_element_inside e)) no_watts
quiet_brief own e make spells found =
    subst (λ (d : BriefElement). IsoElement own (Some (brief_element_name d, brief_element_inside d)) no_watts) (sym found.1) (spells found.0)

-- a reply that spells no watts
pub quiet_body : (own : Inside) (e : BodyElement) {X : Type 0} (make : X → BodyElement)
    → ((x : X) → IsoElement own (Some (body_element_name (make x), body_element_inside (make x))) no_watts)
    → (x : X) × (e ≡ make x) → IsoElement own (Some (body_element_name e, body_element_inside e)) no_watts
quiet_body own e make spells found =
    subst (λ (d : BodyElement). IsoElement own (Some (body_element_name d, body_element_inside d)) no_watts) (sym found.1) (spells found.0)

-- ---- a message

-- of this header and this element
abbrev framed : Header → Option BodyElement → IsoMessage
framed header element = record { header = header; body = record { element = element } }

framed_spells : (plan : PostPlan) (spoken : Dialect) (told : ℕ) (h : Header) (e : BodyElement) (r : Option WattValues)
    → IsOfWatts (IsoElement (iso_inside (framed h (Some e))) (Some (body_element_name e, body_element_inside e))) plan spoken told r
    → IsOfWatts (IsoTree (iso_tree (framed h (Some e)))) plan spoken told r
framed_spells plan spoken told h e r is =
    subst (λ (o : Option (ℕ × Inside)). IsOfWatts (IsoElement (iso_inside (framed h (Some e))) o) plan spoken told r)
    (sym (first_is (body_element_name e) (body_element_inside e) none)) is

pub message_spells : (plan : PostPlan) (spoken : Dialect) (told : ℕ) (m : IsoMessage) (e : BodyElement) (r : Option WattValues) → m.body.element ≡ Some e
    → ((own : Inside) → IsOfWatts (IsoElement own (Some (body_element_name e, body_element_inside e))) plan spoken told r)
    → IsOfWatts (IsoTree (iso_tree m)) plan spoken told r
message_spells plan spoken told m e r is spells =
    subst (λ (o : Option BodyElement). IsOfWatts (IsoTree (iso_tree (framed m.header o))) plan spoken told r) (sym is)
    (framed_spells plan spoken told m.header e r (spells (iso_inside (framed m.header (Some e)))))

pub no_element : (plan : PostPlan) (spoken : Dialect) (told : ℕ) (m : IsoMessage) → m.body.element ≡ None → IsOfWatts (IsoTree (iso_tree m)) plan spoken told None
no_element plan spoken told m is =
    subst (λ (o : Option BodyElement). IsOfWatts (IsoTree (iso_tree (framed m.header o))) plan spoken told None) (sym is) (λ s spells. absurd spells.0)
