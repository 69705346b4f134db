-- What a post that is alone did, as its end keeps it.
use Rattle.std.proofs.Common.{◌≡◌, ℕ, Bool, true, false, List, ◌++◌, length, take, subst}
use Rattle.std.proofs.Math.Seq.{take-append_seam}
use Rattle.std.specs.Bool.{MatchBool}
use Rattle.plant_sim.specs.Charger.{Charger}
use Rattle.post_spec.specs.Codecs.{Codecs}
use Rattle.site_posts.specs.declared.place.Place.{Place}
use Rattle.pair_ends.specs.declared.tallies.PostTally.{PostTally}
use Rattle.pair_ends.specs.Ends.{PostSide, PostDoes, PostRests}
use Rattle.pair_ends.specs.Places.{AloneDoes, AloneRests}

-- the items of a Vec that was lent whole
pub lent_whole : {A : Type 0} (r rest : List A) (len : ℕ) → length r ≡ len → take len (r ++ rest) ≡ r
lent_whole r rest len e = subst (λ (k : ℕ). take k (r ++ rest) ≡ r) e (take-append_seam r rest)

abbrev pub side : ℕ → Place → Charger → PostTally → PostSide
side limit p charger t = record { plan = p.plan; post = p.post; limit = limit; charger = charger; tally = t }

pub goes : (c : Codecs) (limit now : ℕ) (p new : Place) (charger charger_new : Charger) (t t_new : PostTally) (way way_new : List ℕ) (b : Bool)
    → MatchBool b (AloneDoes c limit now p charger t way new charger_new t_new way_new) (AloneRests p charger t way new charger_new t_new way_new)
    → MatchBool b (PostDoes c now (side limit p charger t) way (side limit new charger_new t_new) way_new) (PostRests (side limit p charger t) way (side limit new charger_new t_new) way_new)
goes c limit now p new charger charger_new t t_new way way_new true d =
    let e = d.plan_is in
    let f = d.post_is in
    let k = d.charger_is in
    let l = d.tally_is in
    record { reading = d.reading; act = d.act; acts = d.acts; new_is = λ i. record { plan = e i; post = f i; limit = limit; charger = k i; tally = l i }; short = d.short; sent = d.sent }
goes c limit now p new charger charger_new t t_new way way_new false d =
    let e = d.new_is in
    let k = d.charger_is in
    let l = d.tally_is in
    record { rests = d.rests; new_is = λ i. record { plan = (e i).plan; post = (e i).post; limit = limit; charger = k i; tally = l i }; way_is = d.way_is }
