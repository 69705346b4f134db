use Rattle.std.proofs.Common.{refl, sym, subst}
use Rattle.exi_bits.specs.Reading.{Cursor}
use Rattle.exi_events.specs.Optional.{TakesOptional}
use Rattle.exi_events.specs.Sequence.{inside_at, behind_all}
use Rattle.exi_events.proofs.OptionalHeld.{all_held, all_left}
use Rattle.exi_events.proofs.OptionalTaken.{goes_on, first_offered, rest_at}
use Rattle.exi_events.proofs.optional.take_optional.Goals as goal

pub returns-clause-values : goal.returns-clause-values
returns-clause-values c = λ s name here above entries is other.
    let first = c.in_ok-first.ensures.child s name here is.behind_first above entries (first_offered s.kinds here c.args.children.now is) in
    let rest = rest_at s name is.behind_first above entries _ _ c.in_ok-first.ensures.same _ _ _ _ _ (c.in_ok-rest.ensures.rest s name is.behind_first above entries (goes_on s.kinds here c.args.children.now is other)) in
    let P : Cursor → Cursor → Type 0 = λ old new. TakesOptional (inside_at s name here above old.bits entries old) (behind_all s above old.bits entries new) c.args.children.now.second.name
    (record { first = c.in_ok-first.first; second = c.in_ok-rest.rest.second; third = c.in_ok-rest.rest.third }) in
    subst (λ (new : Cursor). P c.args.reader.now new) (sym c.pass.ensures)
    (subst (λ (old : Cursor). P old c.take_rest.new.window.cursor) c.in_ok-window.ensures.cursor
    (record { name = c.args.children.now.first.name; behind = _; same_schema = refl; same_bits = c.in_ok-first.ensures.same; first_taken = first; rest_taken = rest }))

pub returns-in_err-window-clause-whole : goal.returns-in_err-window-clause-whole
returns-in_err-window-clause-whole c none h = all_left c.args.children.now c.args.reader.now h (c.in_err-window.ensures.none refl)

pub returns-in_err-first-clause-whole : goal.returns-in_err-first-clause-whole
returns-in_err-first-clause-whole c none h =
    c.in_err-first.ensures.none refl h.first_bits _ h.rest h.first_is (all_held c.args.children.now c.args.reader.now h _ c.in_ok-window.ensures.cursor c.in_ok-window.ensures.held)

pub returns-in_err-rest-clause-whole : goal.returns-in_err-rest-clause-whole
returns-in_err-rest-clause-whole c none h =
    c.in_err-rest.ensures.none refl h.rest_bits h.rest h.rest_is
    (c.in_ok-first.ensures.behind h.first_bits _ h.rest h.first_is (all_held c.args.children.now c.args.reader.now h _ c.in_ok-window.ensures.cursor c.in_ok-window.ensures.held))
