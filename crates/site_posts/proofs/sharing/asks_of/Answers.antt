use Rattle.std.proofs.Common.{◌≡◌, ◌+◌, ◌-◌, ℕ, List, length, set, replicate, ap, ◌∙◌, arith}
use Rattle.power_share.specs.Sharing.{Sharing, asked}
use Rattle.site_posts.specs.Places.{asked_at, asks_so_far}
use Rattle.site_posts.proofs.Levels.{set_asks}
use Rattle.site_posts.proofs.sharing.asks_of.Goals as goal

pub loop-i-preserved : goal.loop-i-preserved
loop-i-preserved c =
    let places = c.args.places.now in
    let i = c.loop-i.i in
    let place : (i + 1) - 1 ≡ i = omega arith in
    let made : set (asks_so_far places i) ((i + 1) - 1) c.asked.result ≡ asks_so_far places (i + 1) =
    ap (λ (k : ℕ). set (asks_so_far places i) k c.asked.result) place
    ∙ set_asks places i c.asked.result c.index-places-i.result c.loop-i-test.true c.requires.few (c.asked.ensures ∙ ap asked_at c.index-places-i.is) in
    c.ask.ensures ∙ ap (λ (s : Sharing). asked s (i + 1) c.asked.result) c.loop-i.invariant
    ∙ ap (λ (t : List ℕ). record { limit = c.args.limit; posts = length places; asks = t; told = replicate 8 0 }) made
