use Rattle.std.proofs.Common.{[], refl}
use Rattle.exi_writing.specs.Documents.{first}
use Rattle.exi_writing.specs.Meaning.{texts_in}
use Rattle.exi_events.proofs.Sequences.{short_took}
use Rattle.exi_events.proofs.Simple.{offered}
use Rattle.exi_events.proofs.Taking.{started_opened, value_held, value_behind}
use Rattle.exi_events.proofs.Whole.{behind_value}
use Rattle.exi_events.proofs.optional.short_inside.Goals as goal

pub returns-clause-child : goal.returns-clause-child
returns-clause-child c = λ s name kind here next above entries begun simple starts.
    short_took s name here next above c.args.child kind simple c.args.window.now.cursor.bits entries c.in_ok-value.value begun _ _ _ _ starts
    (c.in_ok-short_only.ensures.taken s.kinds (first kind) _ (offered s.kinds (first kind) c.args.child.datatype simple))
    (c.in_ok-value.ensures.taken (texts_in c.args.window.now.cursor.bits entries) c.args.child.name)
    (c.in_ok-short_only-2.ensures.taken s.kinds (behind_value kind) _ (offered s.kinds (behind_value kind) c.args.child.datatype simple))

pub returns-in_err-short_only-clause-none : goal.returns-in_err-short_only-clause-none
returns-in_err-short_only-clause-none c none bits behind rest s h = c.in_err-short_only.ensures.none refl _ rest (started_opened s.inside behind rest bits _ s.bits_are h)

pub returns-in_err-value-clause-none : goal.returns-in_err-value-clause-none
returns-in_err-value-clause-none c none bits behind rest s h =
    c.in_err-value.ensures.none refl s.value
    (value_held _ s.value s.inside _ rest _ s.spelled s.few (c.in_ok-short_only.ensures.behind _ rest (started_opened s.inside behind rest bits _ s.bits_are h)))

pub returns-in_err-short_only-2-clause-none : goal.returns-in_err-short_only-2-clause-none
returns-in_err-short_only-2-clause-none c none bits behind rest s h =
    c.in_err-short_only-2.ensures.none refl behind rest
    (value_behind _ s.value _ s.inside _ rest _ _ s.spelled c.in_ok-value.ensures.held (c.in_ok-value.ensures.taken [] 0)
    (c.in_ok-short_only.ensures.behind _ rest (started_opened s.inside behind rest bits _ s.bits_are h)))

pub returns-clause-behind : goal.returns-clause-behind
returns-clause-behind c = λ bits behind rest s h.
    c.in_ok-short_only-2.ensures.behind behind rest
    (value_behind _ s.value _ s.inside _ rest _ _ s.spelled c.in_ok-value.ensures.held (c.in_ok-value.ensures.taken [] 0)
    (c.in_ok-short_only.ensures.behind _ rest (started_opened s.inside behind rest bits _ s.bits_are h)))
