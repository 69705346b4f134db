use Rattle.std.proofs.Common.{◌≡◌, ◌+◌, ◌-◌, ℕ, List, length, set, replicate, ap, ◌∙◌, arith}
use Rattle.power_share.specs.Sharing.{Sharing, asked}
use Rattle.trace_audit.specs.Shares.{asked_at, asks_so_far}
use Rattle.trace_audit.proofs.Levels.{set_asks}
use Rattle.trace_audit.proofs.shares.asks_of.Goals as goal

pub loop-i-preserved : goal.loop-i-preserved
loop-i-preserved c =
    let seats = c.args.seats.now in
    let i = c.loop-i.i in
    let place : (i + 1) - 1 ≡ i = omega arith in
    let made : set (asks_so_far seats i) ((i + 1) - 1) c.asked_at-asked.result ≡ asks_so_far seats (i + 1) =
    ap (λ (k : ℕ). set (asks_so_far seats i) k c.asked_at-asked.result) place
    ∙ set_asks seats i c.asked_at-asked.result c.index-seats-i.result c.loop-i-test.true c.requires.few (c.asked_at-asked.ensures ∙ ap asked_at c.index-seats-i.is) in
    c.ask.ensures ∙ ap (λ (s : Sharing). asked s (i + 1) c.asked_at-asked.result) c.loop-i.invariant
    ∙ ap (λ (t : List ℕ). record { limit = c.args.limit; posts = length seats; asks = t; told = replicate 8 0 }) made
