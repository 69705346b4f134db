-- A post that is alone at its site.
use Rattle.std.proofs.Common.{◌≡◌, ◌<◌, ◌≤◌, ℕ, true, List, [], ◌∷◌, length, refl, sym, ap, subst, ◌∙◌, arith}
use Rattle.std.proofs.lemmas.List.{get_or-set_same}
use Rattle.std.specs.Prelude.{slice_set}
use Rattle.plant_sim.specs.Charger.{Charger}
use Rattle.post_spec.specs.Codecs.{Codecs}
use Rattle.station_spec.specs.Deciding.{decided}
use Rattle.station_spec.specs.Judging.{wanted}
use Rattle.station_spec.specs.Sharing.{Shows}
use Rattle.site_posts.specs.declared.place.Place.{Place}
use Rattle.site_posts.specs.Filling.{no_place, at}
use Rattle.site_posts.specs.Places.{Shares, filled_place, done_place}
use Rattle.site_posts.specs.Work.{work}
use Rattle.site_posts.proofs.Sound.{acted_sound}
use Rattle.site_posts.proofs.Words.{read_more}
use Rattle.site_acts.specs.declared.deeds.Deed.{Deed}
use Rattle.site_acts.specs.declared.deeds.Deed.TheVariants.{Answer, Give, Send, Finish}
use Rattle.site_acts.specs.Deeds.{act_of, MayTake, NextDeed}
use Rattle.site_acts.specs.Serving.{IsReady}
use Rattle.site_acts.proofs.Next.{deed_done, deed_work, done_set}
use Rattle.pipe_spec.specs.Histories.{station_says}
use Rattle.pair_ends.specs.declared.tallies.PostTally.{PostTally}
use Rattle.pair_ends.specs.Ends.{charger_behind, IsSent}
use Rattle.pair_ends.specs.Places.{AloneDoes}
use Rattle.pair_ends.specs.Tallies.{post_did}

-- it is shown watts as if nobody else were there
shows_alone : (limit : ℕ) (places : List Place) (asked n : ℕ) → length places ≡ 1 → Shares limit places 0 asked n → Shows limit [] [] asked n
shows_alone limit [] asked n one s = absurd (omega (arith, one))
shows_alone limit (p ∷ []) asked n one s = record { level = s.level; is_level = s.is_level; least = s.least }
shows_alone limit (p ∷ q ∷ rest) asked n one s = absurd (omega (arith, one))

-- all is taken
pub taken : (deed : Deed) → MayTake deed true
taken (Answer datagram) = tt
taken (Give order) = tt
taken (Send n) = tt
taken (Finish cause) = refl

-- what is left at its place
pub behind : (c : Codecs) (limit : ℕ) (places mid : List Place) (room : List ℕ) (deed : Deed) (x y : Place) → length places ≡ 1 → (d : NextDeed c limit places 0 room deed mid) → y ≡ at mid 0 → x ≡ done_place (act_of room deed) true y
    → slice_set mid 0 x ≡ slice_set places 0 (done_place (act_of room deed) true (filled_place d.reading (at places 0)))
behind c limit places mid room deed x y one d here e = done_set c limit places mid 0 room deed true x (omega (arith, one)) d (e ∙ ap (done_place (act_of room deed) true) here)

pub behind_at : (c : Codecs) (limit : ℕ) (places mid new : List Place) (room : List ℕ) (deed : Deed) → length places ≡ 1 → (d : NextDeed c limit places 0 room deed mid)
    → new ≡ slice_set places 0 (done_place (act_of room deed) true (filled_place d.reading (at places 0))) → at new 0 ≡ done_place (act_of room deed) true (filled_place d.reading (at places 0))
behind_at c limit places mid new room deed one d e =
    let within : 0 < length places = omega (arith, one) in
    ap (λ (ps : List Place). at ps 0) e ∙ get_or-set_same places 0 (done_place (act_of room deed) true (filled_place d.reading (at places 0))) no_place within

pub does : (c : Codecs) (limit now : ℕ) (places mid new : List Place) (room : List ℕ) (deed : Deed) (charger charger_new : Charger) (t t_new : PostTally) (way way_new : List ℕ) → length places ≡ 1 → (d : NextDeed c limit places 0 room deed mid)
    → new ≡ slice_set places 0 (done_place (act_of room deed) true (filled_place d.reading (at places 0)))
    → charger_new ≡ charger_behind (act_of room deed) now charger → t_new ≡ post_did (act_of room deed) t → length (station_says (act_of room deed)) ≤ 1032 → IsSent (station_says (act_of room deed)) way way_new
    → AloneDoes c limit now (at places 0) charger t way (at new 0) charger_new t_new way_new
does c limit now places mid new room deed charger charger_new t t_new way way_new one d e charger_is tally_is short sent =
    let p = at places 0 in
    let here = behind_at c limit places mid new room deed one d e in
    record {
      reading = d.reading;
      act = act_of room deed;
      acts = record {
        read = read_more c (Shares limit places 0) (Shows limit [] []) p.plan (decided p.plan p.post) (wanted (decided p.plan p.post)) d.reading (λ asked n. shows_alone limit places asked n one) d.is_read;
        todo = d.todo;
        acts = d.first_is;
        done = deed_done c room d.todo deed true d.done (taken deed);
      };
      plan_is = ap (λ (q : Place). q.plan) here;
      post_is = ap (λ (q : Place). q.post) here;
      charger_is = charger_is;
      tally_is = tally_is;
      short = short;
      sent = sent;
    }

pub ready : (c : Codecs) (limit : ℕ) (places mid new : List Place) (room : List ℕ) (deed : Deed) → length places ≡ 1 → (d : NextDeed c limit places 0 room deed mid)
    → new ≡ slice_set places 0 (done_place (act_of room deed) true (filled_place d.reading (at places 0))) → IsReady c.Reads (at places 0) → IsReady c.Reads (at new 0)
ready c limit places mid new room deed one d e r =
    let p = at places 0 in
    subst (IsReady c.Reads) (sym (behind_at c limit places mid new room deed one d e))
    (record { plan = r.plan; sound = acted_sound c.Reads p.plan (act_of room deed) true (filled_place d.reading p).post d.sound })

pub less : (c : Codecs) (limit : ℕ) (places mid new : List Place) (room : List ℕ) (deed : Deed) → length places ≡ 1 → (d : NextDeed c limit places 0 room deed mid)
    → new ≡ slice_set places 0 (done_place (act_of room deed) true (filled_place d.reading (at places 0))) → work (at new 0).post < work (at places 0).post
less c limit places mid new room deed one d e = deed_work c limit places mid 0 room deed true new (omega (arith, one)) d (taken deed) e
