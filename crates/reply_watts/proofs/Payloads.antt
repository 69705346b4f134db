-- A payload spells watts as its tree does, and one that is refused none.
use Rattle.std.proofs.Common.{◌≡◌, ℕ, List, Option, Some, None, sym, ◌∙◌, ap, subst}
use Rattle.charge_world.specs.declared.offer.Dialect.{Dialect}
use Rattle.charge_world.specs.declared.offer.Dialect.TheVariants as dialect
use Rattle.exi_schema.specs.Schemas.{PlainSchema}
use Rattle.exi_documents.specs.declared.refusal.RefusalCause.{RefusalCause}
use Rattle.exi_documents.specs.Documents.{IsDocument}
use Rattle.exi_documents.specs.Refusals.{IsRefused}
use Rattle.exi_documents.specs.Trees.{Tree}
use Rattle.document_laws.proofs.Payloads.{payload_decided}
use Rattle.session_words.specs.declared.plan.PostPlan.{PostPlan}
use Rattle.iso_schema.specs.Declarations.{schema as iso_schema}
use Rattle.din_schema.specs.Declarations.{schema as din_schema}
use Rattle.iso_schema.specs.declared.names.TheConstants.{BODY as ISO_BODY}
use Rattle.din_schema.specs.declared.names.TheConstants.{BODY as DIN_BODY}
use Rattle.tree_words.specs.Named.{root_children, first_in}
use Rattle.v2gtp_frames.specs.Frames.{IsPayload}
use Rattle.told_pasts.specs.Spelling.{SpelledWatts}
use Rattle.audit_watts.specs.declared.values.WattValues.{WattValues}
use Rattle.audit_streams.specs.Words.{IsOfWatts, SpeaksOnce}
use Rattle.reply_watts.specs.Iso as iso
use Rattle.reply_watts.specs.Din as din
use Rattle.reply_watts.specs.Replies.{IsoTree, DinTree}
use Rattle.reply_watts.specs.Watts.{PayloadSpells, Watts}

module _ (schema : PlainSchema) (Spells : Tree → SpelledWatts → Type 0) (payload : List ℕ) where
  one_tree : (t u : Tree) → IsDocument schema t payload → IsDocument schema u payload → t ≡ u
  one_tree t u a b = (payload_decided schema payload).one_tree t u a b

  pub spelled : (plan : PostPlan) (d : Dialect) (told : ℕ) (t : Tree) (r : Option WattValues) → IsPayload payload → IsDocument schema t payload
      → IsOfWatts (Spells t) plan d told r → IsOfWatts (PayloadSpells schema Spells payload) plan d told r
  spelled plan d told t None short document h =
      λ s w. h s (subst (λ (u : Tree). Spells u s) (one_tree w.tree t w.document document) w.spelled)
  spelled plan d told t (Some v) short document h =
      (h.0, record { short = short; tree = t; document = document; spelled = h.1 }, h.2)

  pub refused : (plan : PostPlan) (d : Dialect) (told : ℕ) (why : RefusalCause) (bit : ℕ) → IsRefused schema payload why bit
      → IsOfWatts (PayloadSpells schema Spells payload) plan d told None
  refused plan d told why bit r = λ s w. (payload_decided schema payload).apart w.tree why bit w.document r

  pub spelled_once : (watts_in : Tree → SpelledWatts) → ((t : Tree) (s : SpelledWatts) → Spells t s → s ≡ watts_in t)
      → (a b : SpelledWatts) → PayloadSpells schema Spells payload a → PayloadSpells schema Spells payload b → a ≡ b
  spelled_once watts_in reads a b v w =
      reads v.tree a v.spelled ∙ ap watts_in (one_tree v.tree w.tree v.document w.document) ∙ sym (reads w.tree b w.spelled)

pub told_once : SpeaksOnce Watts
told_once dialect.Iso payload a b v w =
    spelled_once iso_schema IsoTree payload (λ t. iso.body_watts (first_in (root_children t ISO_BODY))) (λ t s spells. spells.1) a b v w
told_once dialect.Din payload a b v w =
    spelled_once din_schema DinTree payload (λ t. din.body_watts (first_in (root_children t DIN_BODY))) (λ t s spells. spells.1) a b v w

pub of_frame : (spoken : Dialect) (payload : List ℕ) (s : SpelledWatts) → Watts spoken payload s → IsPayload payload
of_frame dialect.Iso payload s w = w.short
of_frame dialect.Din payload s w = w.short
