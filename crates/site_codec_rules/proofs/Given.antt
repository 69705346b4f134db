-- A reply that a post gives can be spelled.
use Rattle.std.proofs.Common.{◌≡◌, ◌≤◌, ℕ, List, ◌⊎◌, inl, inr, Some, sym, subst}
use Rattle.charge_world.specs.declared.offer.Dialect.{Dialect}
use Rattle.charge_world.specs.declared.offer.Dialect.TheVariants as dialect
use Rattle.session_words.specs.declared.facts.Facts.{Facts}
use Rattle.session_words.specs.declared.plan.PostPlan.{PostPlan}
use Rattle.session_words.specs.declared.word.Reply.{Reply}
use Rattle.session_words.specs.declared.word.Request.{Request}
use Rattle.session_words.specs.declared.word.Word.TheVariants as word
use Rattle.session_rules.specs.declared.stage.Stage.{Stage}
use Rattle.session_rules.specs.Reply.{waiting_reply}
use Rattle.written_words.specs.Posts.{ArePostBounds}
use Rattle.written_words.specs.Typed.{IsTyped}
use Rattle.iso_word_laws.specs.Spellable as iso_spellable
use Rattle.iso_word_laws.proofs.Posts as iso_replies
use Rattle.din_word_laws.specs.Spellable as din_spellable
use Rattle.din_word_laws.specs.Posts as din_posts
use Rattle.din_word_laws.proofs.Posts as din_replies
use Rattle.written_sizes.specs.Entries.{HasEntries}
use Rattle.written_sizes.proofs.Entries.{replies_are_brief, waiting_is_brief}
use Rattle.site_codec.specs.Replies.{IsPlan, AreFacts, IsAnswer, IsGiven}
use Rattle.site_codec_rules.specs.Codecs.{Reads, CanSpell}
use Rattle.site_codec_rules.proofs.Spoken.{spoken_in}

post_bounds : (s : Stage) (facts : Facts) (plan : PostPlan) (shown : ℕ) → IsPlan plan → AreFacts facts → s.told ≤ 1000000 → shown ≤ 1000000
    → ArePostBounds s facts plan shown
post_bounds s facts plan shown p f told most = record {
  voltage = f.voltage;
  current = f.current;
  max_voltage = p.max_voltage;
  min_voltage = p.min_voltage;
  max_current = p.max_current;
  min_current = p.min_current;
  ripple = p.ripple;
  told = told;
  most = most;
}

-- ---- in ISO

abbrev InIso : Reply → Type 0
InIso reply = iso_spellable.CanSpell (word.Reply reply)

iso_reply : (reply : Reply) (g : IsGiven Reads dialect.Iso reply) → IsTyped reply
    → IsAnswer Reads g.stage g.facts g.plan reply ⊎ (reply ≡ waiting_reply g.stage g.facts g.plan) → InIso reply
iso_reply reply g typed (inl a) =
    subst InIso (sym a.reply_is) (iso_replies.spells_typed g.stage g.facts g.plan a.request a.shown (sym g.dialect_is) g.is_plan.rules
    (post_bounds g.stage g.facts g.plan a.shown g.is_plan g.are_facts g.told a.most) (subst IsTyped a.reply_is typed))
iso_reply reply g typed (inr is) =
    subst InIso (sym is) (iso_replies.spells_typed_waiting g.stage g.facts g.plan (subst IsTyped is typed))

-- ---- in DIN

spoken_by : (d : Dialect) (payload : List ℕ) (r : Request) → dialect.Din ≡ d → Reads d payload (Some (word.Request r)) → din_posts.IsSpoken r.ask
spoken_by dialect.Din payload r is read = spoken_in read.tree r read.word_is
spoken_by dialect.Iso payload r is read = absurd (cc)

abbrev InDin : Reply → Type 0
InDin reply = din_spellable.CanSpell (word.Reply reply)

din_reply : (reply : Reply) (g : IsGiven Reads dialect.Din reply) → IsTyped reply
    → IsAnswer Reads g.stage g.facts g.plan reply ⊎ (reply ≡ waiting_reply g.stage g.facts g.plan) → InDin reply
din_reply reply g typed (inl a) =
    subst InDin (sym a.reply_is) (din_replies.spells_typed g.stage g.facts g.plan a.request a.shown (sym g.dialect_is) g.is_plan.rules g.offered
    (post_bounds g.stage g.facts g.plan a.shown g.is_plan g.are_facts g.told a.most)
    (spoken_by g.stage.dialect a.payload a.request g.dialect_is a.asked) (subst IsTyped a.reply_is typed))
din_reply reply g typed (inr is) =
    subst InDin (sym is) (din_replies.spells_typed_waiting g.stage g.facts g.plan (sym g.dialect_is) g.is_plan.rules g.offered
    (subst IsTyped is typed))

-- ---- in either

pub given_spelled : (d : Dialect) (reply : Reply) → IsGiven Reads d reply → IsTyped reply → CanSpell d reply
given_spelled dialect.Iso reply g typed = iso_reply reply g typed g.given
given_spelled dialect.Din reply g typed = din_reply reply g typed g.given

-- ---- their schedules

brief_by : (d : Dialect) (reply : Reply) (g : IsGiven Reads d reply)
    → IsAnswer Reads g.stage g.facts g.plan reply ⊎ (reply ≡ waiting_reply g.stage g.facts g.plan) → HasEntries 1 reply.tell
brief_by d reply g (inl a) =
    subst (λ (r : Reply). HasEntries 1 r.tell) (sym a.reply_is) (replies_are_brief g.stage g.facts g.plan a.request a.shown)
brief_by d reply g (inr is) =
    subst (λ (r : Reply). HasEntries 1 r.tell) (sym is) (waiting_is_brief g.stage g.facts g.plan)

pub given_brief : (d : Dialect) (reply : Reply) → IsGiven Reads d reply → HasEntries 1 reply.tell
given_brief d reply g = brief_by d reply g g.given
