-- A text is at most one plan, and a text at its posts at most one trace.
use Rattle.std.proofs.Common.{◌≡◌, ℕ, List, [], ◌∷◌, sym, ap, ap₂, ◌∙◌, refl, subst}
use Rattle.std.specs.Prelude.{reverse}
use Rattle.std.specs.List.{AllZip}
use Rattle.std.proofs.lemmas.List.{reverse-reverse}
use Rattle.toml.specs.Data.{Members}
use Rattle.charge_world.specs.declared.entry.Entry.{Entry}
use Rattle.session_words.specs.declared.plan.PostPlan.{PostPlan}
use Rattle.session_words.specs.declared.plan.SitePlan.{SitePlan}
use Rattle.plan_keys.specs.Keys.{Holds}
use Rattle.plan_keys.specs.Faults.{text_says}
use Rattle.site_plan.specs.Keys.{post_rules}
use Rattle.site_plan.specs.Plans.{post_file, IsSiteOf, IsSitePlanOf}
use Rattle.trace_reading.proofs.Fronts.{one_past}
use Rattle.trace_files.specs.Recordings.{IsRecorded}
use Rattle.planned_traces.proofs.Texts.{same_table}

-- the keys of a table are all fields of a plan
record AreAlike (p q : PostPlan) : Type 0 where
  tcp : p.tcp ≡ q.tcp
  sdp : p.sdp ≡ q.sdp
  mode : p.mode ≡ q.mode
  dialects : p.dialects.items ≡ q.dialects.items
  evse_id : p.evse_id ≡ q.evse_id
  evse_id_din : p.evse_id_din.items ≡ q.evse_id_din.items
  free : p.free ≡ q.free
  max_watts : p.max_watts ≡ q.max_watts
  max_voltage : p.max_voltage ≡ q.max_voltage
  min_voltage : p.min_voltage ≡ q.min_voltage
  max_current : p.max_current ≡ q.max_current
  min_current : p.min_current ≡ q.min_current
  ripple : p.ripple ≡ q.ripple
  nominal : p.nominal ≡ q.nominal

same_fields : (p q : PostPlan) → AreAlike p q → p ≡ q
same_fields p q h =
    let whole : p ≡ record {
      tcp = q.tcp;
      sdp = q.sdp;
      mode = q.mode;
      dialects = record { items = q.dialects.items };
      evse_id = q.evse_id;
      evse_id_din = record { items = q.evse_id_din.items };
      free = q.free;
      max_watts = q.max_watts;
      max_voltage = q.max_voltage;
      min_voltage = q.min_voltage;
      max_current = q.max_current;
      min_current = q.min_current;
      ripple = q.ripple;
      nominal = q.nominal;
    } = rw (← h.tcp, ← h.sdp, ← h.mode, ← h.dialects, ← h.evse_id, ← h.evse_id_din, ← h.free, ← h.max_watts, ← h.max_voltage, ← h.min_voltage, ← h.max_current, ← h.min_current, ← h.ripple, ← h.nominal) refl in
    whole

both : {X : Type 0} (a b said : X) → a ≡ said → b ≡ said → a ≡ b
both a b said h k = h ∙ sym k

alike : (table : Members) (p q : PostPlan) → Holds post_file table p → Holds post_file table q → AreAlike p q
unfolding post_rules
alike table p q h k = record {
  tcp = both _ _ _ h.0 k.0;
  sdp = both _ _ _ h.1.0 k.1.0;
  mode = both _ _ _ h.1.1.0 k.1.1.0;
  dialects = both _ _ _ h.1.1.1.0 k.1.1.1.0;
  evse_id = both _ _ _ h.1.1.1.1.0 k.1.1.1.1.0;
  evse_id_din = both _ _ _ h.1.1.1.1.1.0 k.1.1.1.1.1.0;
  free = both _ _ _ h.1.1.1.1.1.1.0 k.1.1.1.1.1.1.0;
  max_watts = both _ _ _ h.1.1.1.1.1.1.1.0 k.1.1.1.1.1.1.1.0;
  max_voltage = both _ _ _ h.1.1.1.1.1.1.1.1.0 k.1.1.1.1.1.1.1.1.0;
  min_voltage = both _ _ _ h.1.1.1.1.1.1.1.1.1.0 k.1.1.1.1.1.1.1.1.1.0;
  max_current = both _ _ _ h.1.1.1.1.1.1.1.1.1.1.0 k.1.1.1.1.1.1.1.1.1.1.0;
  min_current = both _ _ _ h.1.1.1.1.1.1.1.1.1.1.1.0 k.1.1.1.1.1.1.1.1.1.1.1.0;
  ripple = both _ _ _ h.1.1.1.1.1.1.1.1.1.1.1.1.0 k.1.1.1.1.1.1.1.1.1.1.1.1.0;
  nominal = both _ _ _ h.1.1.1.1.1.1.1.1.1.1.1.1.1.0 k.1.1.1.1.1.1.1.1.1.1.1.1.1.0;
}

same_post : (table : Members) (p q : PostPlan) → Holds post_file table p → Holds post_file table q → p ≡ q
same_post table p q h k = same_fields p q (alike table p q h k)

same_posts : (tables : List Members) (ps qs : List PostPlan) → AllZip (Holds post_file) tables ps → AllZip (Holds post_file) tables qs → ps ≡ qs
same_posts [] [] [] h k = refl
same_posts [] [] (q ∷ qs) h k = absurd k
same_posts [] (p ∷ ps) qs h k = absurd h
same_posts (t ∷ ts) [] qs h k = absurd h
same_posts (t ∷ ts) (p ∷ ps) [] h k = absurd k
same_posts (t ∷ ts) (p ∷ ps) (q ∷ qs) h k = ap₂ (λ (x : PostPlan) (xs : List PostPlan). x ∷ xs) (same_post t p q h.0 k.0) (same_posts ts ps qs h.1 k.1)

same_site : (table : Members) (p q : SitePlan) → IsSiteOf table p → IsSiteOf table q → p ≡ q
same_site table p q h k =
    let posts : p.post.items ≡ q.post.items = same_posts _ p.post.items q.post.items h.posts k.posts in
    let limit : p.limit ≡ q.limit = h.keys.0 ∙ sym k.keys.0 in
    let turns : p.turns ≡ q.turns = h.keys.1.0 ∙ sym k.keys.1.0 in
    let sessions : p.sessions ≡ q.sessions = h.keys.1.1.0 ∙ sym k.keys.1.1.0 in
    let whole : p ≡ record { limit = q.limit; turns = q.turns; sessions = q.sessions; post = record { items = q.post.items } } =
    rw (← limit, ← turns, ← sessions, ← posts) refl in
    whole

pub one_plan : (text : List ℕ) (p q : SitePlan) → IsSitePlanOf text p → IsSitePlanOf text q → p ≡ q
one_plan text p q a b =
    let table : a.0 ≡ b.0 = same_table (text_says text) a.0 b.0 a.1 b.1 in
    same_site b.0 p q (subst (λ (t : Members). IsSiteOf t p) table a.3) b.3

pub one_trace : (posts : ℕ) (text : List ℕ) (es fs : List Entry) → IsRecorded posts text es → IsRecorded posts text fs → es ≡ fs
one_trace posts text es fs a b =
    sym (reverse-reverse es) ∙ ap reverse (one_past posts text (reverse es) (reverse fs) a.tells b.tells) ∙ reverse-reverse fs
