use Rattle.std.proofs.Common.{◌≡◌, ◌+◌, ℕ, List, ◌∷◌, length, set, refl, sym, ap, subst, ◌∙◌, arith}
use Rattle.std.specs.List.{All}
use Rattle.charge_world.specs.declared.entry.Entry.{Entry}
use Rattle.post_spec.specs.Codecs.{codecs}
use Rattle.station_spec.specs.Runs.{entry_of}
use Rattle.site_posts.specs.declared.place.Place.{Place}
use Rattle.site_posts.specs.Filling.{at}
use Rattle.site_posts.specs.Places.{done_place}
use Rattle.site_posts.proofs.Words.{index_at}
use Rattle.site_acts.specs.Deeds.{act_of, NextDeed}
use Rattle.site_acts.specs.Serving.{IsReady, InBlock}
use Rattle.charge_world.specs.Outside.{GrowsByOne}
use Rattle.endpoint.specs.Telling.{IsTraced, IsWrittenSo}
use Rattle.endpoint.proofs.Carry.{carries_one, text_to, done_so}
use Rattle.site_acts.proofs.Next.{done_set, deed_block, deed_work, ready_set, rests_more, room_is}
use Rattle.site_acts.proofs.acting.act.Goals as goal

pub returns-in-None-clause-none : goal.returns-in-None-clause-none
returns-in-None-clause-none g c e = rests_more c.args.places.now c.next_deed.new.places c.args.i c.requires.within c.in-None.ensures.1 c.in-None.ensures.0 c.requires.quiet

pub returns-in-Some-clause-carried : goal.returns-in-Some-clause-carried
returns-in-Some-clause-carried g c site k lim =
    let cs = codecs g.C.Coded.negotiates g.C.Coded.reads g.C.Coded.encodes in
    let places = c.args.places.now in
    let mid = c.next_deed.new.places in
    let i = c.args.i in
    let room = c.as_slice.result.now in
    let deed = c.in-Some.deed in
    let taken = c.perform-outcome.result.taken in
    let count : length c.next_deed.new.room ≡ c.args.desk.now.room.len = omega (arith, c.next_deed.auto.room, c.as_mut_slice.ensures.len) in
    let d = subst (λ (r : List ℕ). NextDeed cs c.args.limit places i r deed mid) (sym (c.as_slice.ensures.value ∙ room_is c.next_deed.new.room _ _ count)) c.in-Some.ensures in
    let here = index_at mid i c.index-places-i.result (omega (arith, c.requires.within, c.next_deed.auto.places)) c.index-places-i.is in
    let final = done_set cs c.args.limit places mid i room deed taken c.keep.new.place c.requires.within d (c.keep.ensures room ∙ ap (done_place (act_of room deed) taken) here) in
    let e = entry_of (i + 1) (act_of room deed) taken in
    let grown = subst (GrowsByOne (g.W.Wire.past c.args.wire.now) (g.W.Wire.past c.perform-outcome.new.wire)) (c.call-call.ensures.entry (i + 1) taken) c.perform-outcome.ensures.grown in
    carries_one _ _ e (InBlock cs site k places) (InBlock cs site k (set mid i c.keep.new.place)) grown
    (λ past b. subst (λ (ps : List Place). InBlock cs site k ps (e ∷ past)) (sym final)
    (deed_block cs site k c.args.limit places mid past i room deed taken lim c.requires.within c.requires.quiet d (c.call-call.ensures.may taken c.perform-outcome.ensures.may) b))

pub returns-in-Some-clause-traced : goal.returns-in-Some-clause-traced
returns-in-Some-clause-traced g c =
    let written = c.perform-outcome.result.written in
    text_to _ _ _ _ (IsTraced c.args.hearing) (IsWrittenSo c.args.hearing written) (IsWrittenSo c.args.hearing c.done.result)
    (λ past text h. done_so c.args.hearing written c.done.result past text c.done.ensures.ok c.done.ensures.failed h) c.perform-outcome.ensures.traced

pub returns-in-Some-clause-ready : goal.returns-in-Some-clause-ready
returns-in-Some-clause-ready g c =
    let cs = codecs g.C.Coded.negotiates g.C.Coded.reads g.C.Coded.encodes in
    let places = c.args.places.now in
    let mid = c.next_deed.new.places in
    let i = c.args.i in
    let room = c.as_slice.result.now in
    let deed = c.in-Some.deed in
    let taken = c.perform-outcome.result.taken in
    let count : length c.next_deed.new.room ≡ c.args.desk.now.room.len = omega (arith, c.next_deed.auto.room, c.as_mut_slice.ensures.len) in
    let d = subst (λ (r : List ℕ). NextDeed cs c.args.limit places i r deed mid) (sym (c.as_slice.ensures.value ∙ room_is c.next_deed.new.room _ _ count)) c.in-Some.ensures in
    let here = index_at mid i c.index-places-i.result (omega (arith, c.requires.within, c.next_deed.auto.places)) c.index-places-i.is in
    let final = done_set cs c.args.limit places mid i room deed taken c.keep.new.place c.requires.within d (c.keep.ensures room ∙ ap (done_place (act_of room deed) taken) here) in
    subst (All (IsReady g.C.Coded.reads)) (sym final) (ready_set g.C.Coded.reads places i d.reading (act_of room deed) taken c.requires.ready c.requires.within d.sound)

pub returns-in-Some-clause-work : goal.returns-in-Some-clause-work
returns-in-Some-clause-work g c e =
    let cs = codecs g.C.Coded.negotiates g.C.Coded.reads g.C.Coded.encodes in
    let places = c.args.places.now in
    let mid = c.next_deed.new.places in
    let i = c.args.i in
    let room = c.as_slice.result.now in
    let deed = c.in-Some.deed in
    let taken = c.perform-outcome.result.taken in
    let count : length c.next_deed.new.room ≡ c.args.desk.now.room.len = omega (arith, c.next_deed.auto.room, c.as_mut_slice.ensures.len) in
    let d = subst (λ (r : List ℕ). NextDeed cs c.args.limit places i r deed mid) (sym (c.as_slice.ensures.value ∙ room_is c.next_deed.new.room _ _ count)) c.in-Some.ensures in
    let here = index_at mid i c.index-places-i.result (omega (arith, c.requires.within, c.next_deed.auto.places)) c.index-places-i.is in
    let final = done_set cs c.args.limit places mid i room deed taken c.keep.new.place c.requires.within d (c.keep.ensures room ∙ ap (done_place (act_of room deed) taken) here) in
    deed_work cs c.args.limit places mid i room deed taken (set mid i c.keep.new.place) c.requires.within d (c.call-call.ensures.may taken c.perform-outcome.ensures.may) final
