use Rattle.std.proofs.Common.{[], refl, sym, subst, ◌∙◌}
use Rattle.exi_bits.specs.Reading.{Cursor}
use Rattle.exi_schema.specs.declared.places.Step.TheVariants.{End}
use Rattle.exi_events.specs.Sequence.{TakesSequence, values_of, inside_at, behind_all}
use Rattle.exi_events.proofs.Sequences.{offers_first, offers_second, offers_third, offers_end, same_child, end_took, tells_three, three_in}
use Rattle.exi_events.proofs.Taking.{three_left, three_held, three_are, end_opened}
use Rattle.exi_events.proofs.sequence.take_three.Goals as goal

pub returns-clause-values : goal.returns-clause-values
returns-clause-values c = λ s name here above entries tells.
    let is = tells_three s.kinds here c.args.children.now _ _ _ (three_in c.args.children.now _ c.in-len3.len_at_least c.in-len3.len_below) tells in
    let same1 = c.in_ok-first.ensures.same in
    let same2 = c.in_ok-second.ensures.same in
    let same3 = c.in_ok-third.ensures.same in
    let first = c.in_ok-first.ensures.child s name here is.1 above entries (offers_first s name here above _ _ _ is) in
    let second = same_child s name is.1 is.4.1 above _ _ _ _ _ _ _ _ same1 (c.in_ok-second.ensures.child s name is.1 is.4.1 above entries (offers_second s name here above _ _ _ is)) in
    let third = same_child s name is.4.1 is.4.4.1 above _ _ _ _ _ _ _ _ (same2 ∙ same1) (c.in_ok-third.ensures.child s name is.4.1 is.4.4.1 above entries (offers_third s name here above _ _ _ is)) in
    let end = end_took s name is.4.4.1 above _ _ _ (c.in_ok-short_only.ensures.taken s.kinds is.4.4.1 End (offers_end s name here above _ _ _ is)) in
    let P : Cursor → Cursor → Type 0 = λ old new. TakesSequence (inside_at s name here above old.bits entries old) (behind_all s above old.bits entries new)
    (values_of (record { first = c.in_ok-first.first; second = c.in_ok-second.second; third = c.in_ok-third.third })) in
    subst (λ (new : Cursor). P c.args.reader.now new) (sym c.pass.ensures)
    (subst (λ (old : Cursor). P old c.short_only.new.window.cursor) c.in_ok-window.ensures.cursor
    (_, _, refl, same1, first, (_, _, refl, same2, second, (_, _, refl, same3, third, end))))

pub returns-in_err-window-clause-whole : goal.returns-in_err-window-clause-whole
returns-in_err-window-clause-whole c none h = three_left c.args.children.now c.args.reader.now h (c.in_err-window.ensures.none refl)

pub returns-in_err-first-clause-whole : goal.returns-in_err-first-clause-whole
returns-in_err-first-clause-whole c none h =
    let is = three_are c.args.children.now _ _ _ c.args.reader.now h (three_in c.args.children.now _ c.in-len3.len_at_least c.in-len3.len_below) in
    let start = three_held c.args.children.now c.args.reader.now _ h c.in_ok-window.ensures.cursor c.in_ok-window.ensures.held in
    c.in_err-first.ensures.none refl h.one_bits _ h.rest is.0 start

pub returns-in_err-second-clause-whole : goal.returns-in_err-second-clause-whole
returns-in_err-second-clause-whole c none h =
    let is = three_are c.args.children.now _ _ _ c.args.reader.now h (three_in c.args.children.now _ c.in-len3.len_at_least c.in-len3.len_below) in
    let start = three_held c.args.children.now c.args.reader.now _ h c.in_ok-window.ensures.cursor c.in_ok-window.ensures.held in
    c.in_err-second.ensures.none refl h.two_bits _ h.rest is.1 (c.in_ok-first.ensures.behind h.one_bits _ h.rest is.0 start)

pub returns-in_err-third-clause-whole : goal.returns-in_err-third-clause-whole
returns-in_err-third-clause-whole c none h =
    let is = three_are c.args.children.now _ _ _ c.args.reader.now h (three_in c.args.children.now _ c.in-len3.len_at_least c.in-len3.len_below) in
    let start = three_held c.args.children.now c.args.reader.now _ h c.in_ok-window.ensures.cursor c.in_ok-window.ensures.held in
    let first = c.in_ok-first.ensures.behind h.one_bits _ h.rest is.0 start in
    c.in_err-third.ensures.none refl h.three_bits _ h.rest is.2 (c.in_ok-second.ensures.behind h.two_bits _ h.rest is.1 first)

pub returns-in_err-short_only-clause-whole : goal.returns-in_err-short_only-clause-whole
returns-in_err-short_only-clause-whole c none h =
    let is = three_are c.args.children.now _ _ _ c.args.reader.now h (three_in c.args.children.now _ c.in-len3.len_at_least c.in-len3.len_below) in
    let start = three_held c.args.children.now c.args.reader.now _ h c.in_ok-window.ensures.cursor c.in_ok-window.ensures.held in
    let first = c.in_ok-first.ensures.behind h.one_bits _ h.rest is.0 start in
    let second = c.in_ok-second.ensures.behind h.two_bits _ h.rest is.1 first in
    c.in_err-short_only.ensures.none refl [] h.rest (end_opened h.rest _ (c.in_ok-third.ensures.behind h.three_bits _ h.rest is.2 second))
