-- A whole run that is replayed by its own trace.
use Rattle.std.proofs.Common.{◌≡◌, ◌≢◌, ℕ, ◌≤◌, List, [], Option, Some, None, refl, sym, ap, ◌∙◌, subst, arith}
use Rattle.std.specs.Prelude.{reverse}
use Rattle.std.proofs.lemmas.List.{reverse-reverse}
use Rattle.charge_world.specs.declared.entry.Entry.{Entry}
use Rattle.session_words.specs.declared.plan.SitePlan.{SitePlan}
use Rattle.post_spec.specs.Codecs.{Codecs}
use Rattle.post_spec.specs.Spelled.{AreDetermined}
use Rattle.station_spec.specs.Blocks.{hearings}
use Rattle.station_spec.specs.Runs.{IsSiteRun}
use Rattle.endpoint.specs.Knowing.{newest}
use Rattle.station_command.specs.Ended.{Ended}
use Rattle.station_command.specs.Ended.TheVariants as ended
use Rattle.station_command.specs.Ending.{EndedAs, RanAs, TracedAs}
use Rattle.trace_text.specs.Pasts.{trace_text}
use Rattle.trace_reading.specs.declared.format.Format.TheVariants.{Numbered}
use Rattle.trace_reading.proofs.Fronts.{one_past}
use Rattle.replay_wire.specs.Replays.{IsReplayOf}
use Rattle.site_replay_laws.specs.Replayed.{ReplaysItself}
use Rattle.site_replays.specs.Replayed.{IsWritten}
use Rattle.replay_command.specs.Itself.{WritesItself}

-- something was heard
some_newest : (past : List Entry) (e : Entry) → newest past ≡ Some e → past ≢ []
some_newest past e is none =
    let both : None ≡ Some e = ap newest (sym none) ∙ is in cc

some_turns : (past : List Entry) (turns : ℕ) → 1 ≤ turns → hearings past ≡ turns → past ≢ []
some_turns past turns least is none =
    let both : 0 ≡ turns = ap hearings (sym none) ∙ is in omega (arith, least, both)

heard : (turns : ℕ) (how : Ended) (past : List Entry) → 1 ≤ turns → how ≢ ended.TraceFault → EndedAs turns how past → past ≢ []
heard turns ended.Over past least whole (h, bytes, is, over) = some_newest past _ is
heard turns ended.Lost past least whole is = some_newest past _ is
heard turns ended.Turns past least whole h = some_turns past turns least h.0
heard turns ended.TraceFault past least whole h = absurd (whole refl)

whole_run : (c : Codecs) (plan : SitePlan) (how : Ended) (past : List Entry) → how ≢ ended.TraceFault → RanAs c plan how past → IsSiteRun c plan past
whole_run c plan ended.Over past whole run = run
whole_run c plan ended.Lost past whole run = run
whole_run c plan ended.Turns past whole run = run
whole_run c plan ended.TraceFault past whole run = absurd (whole refl)

whole_text : (how : Ended) (past : List Entry) (text : List ℕ) → how ≢ ended.TraceFault → TracedAs how past text → text ≡ trace_text past
whole_text ended.Over past text whole is = is
whole_text ended.Lost past text whole is = is
whole_text ended.Turns past text whole is = is
whole_text ended.TraceFault past text whole is = absurd (whole refl)

written_weaker : (before after : Option (List ℕ)) (P Q : List ℕ → Type 0) → ((text : List ℕ) → P text → Q text) → IsWritten before after P → IsWritten before after Q
written_weaker before None P Q f h = tt
written_weaker None (Some text) P Q f h = absurd h
written_weaker (Some earlier) (Some text) P Q f h = λ empty. f text (h empty)

pub writes_itself : (c : Codecs) → AreDetermined c → ReplaysItself c → WritesItself c
writes_itself c one itself plan past recorded text before after how entries rules whole record_of r taken =
    let same : reverse recorded ≡ past =
    one_past _ text (reverse recorded) past record_of.tells (record { format = Numbered; good = whole.good; whole = whole.text_is }) in
    let again : recorded ≡ reverse past = sym (reverse-reverse recorded) ∙ ap reverse same in
    let run = itself plan past r.past one whole.run (whole_run c plan how r.past taken r.run) whole.heard
    (heard plan.turns how r.past rules.turns.0 taken r.ended) (subst (λ (trace : List Entry). IsReplayOf trace r.past) again r.replays) in
    written_weaker before after _ _
    (λ written traced. whole_text how r.past written taken traced ∙ ap trace_text (sym run) ∙ sym whole.text_is) r.written
