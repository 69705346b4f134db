use Rattle.std.proofs.Common.{refl}
use Rattle.std.proofs.lemmas.Result.{err_from_is_err_and}
use Rattle.exi_schema.specs.Offers.{simple_step}
use Rattle.exi_events.proofs.Simple.{offered}
use Rattle.exi_events.proofs.Whole.{behind_value, whole_took, code_unread, value_unread, end_unread, same_taken, same_unread}
use Rattle.exi_events.proofs.inside.take_whole.Goals as goal

pub returns-in_err-take_only-clause-refused : goal.returns-in_err-take_only-clause-refused
returns-in_err-take_only-clause-refused c = λ s simple.
    let p = err_from_is_err_and c.from_residual.result c.from_residual.ensures.1 in
    rw (p.1, p.2) (code_unread s c.args.datatype c.args.elements.now c.args.top _ c.requires.top c.requires.first simple c.args.reader.now _
    (c.in_err-take_only.ensures.refused s.kinds c.args.top.place _ (offered s.kinds c.args.top.place c.args.datatype simple)) c.in_err-take_only.ensures.at)

pub returns-in_err-value-clause-refused : goal.returns-in_err-value-clause-refused
returns-in_err-value-clause-refused c = λ s simple.
    let p = err_from_is_err_and c.from_residual-in_err-value.result c.from_residual-in_err-value.ensures.1 in
    rw (p.1, p.2) (value_unread s c.args.datatype c.args.elements.now c.args.top _ c.requires.top c.requires.first simple c.args.reader.now _ (simple_step c.args.top.place) _ refl
    (c.in_ok-take_only.ensures.ok s.kinds c.args.top.place _ (offered s.kinds c.args.top.place c.args.datatype simple))
    (same_unread c.args.datatype c.args.top.name _ _ _ _ _ c.in_ok-take_only.ensures.same c.in_err-value.ensures.refused))

pub returns-in_err-take_only-2-clause-refused : goal.returns-in_err-take_only-2-clause-refused
returns-in_err-take_only-2-clause-refused c = λ s simple.
    let p = err_from_is_err_and c.from_residual-in_err-take_only-2.result c.from_residual-in_err-take_only-2.ensures.1 in
    let behind = behind_value c.args.top.place.kind in
    rw (p.1, p.2) (end_unread s c.args.datatype c.args.elements.now c.args.top _ c.requires.top c.requires.first simple _ _ c.args.reader.now _ _ (simple_step c.args.top.place) behind _ refl
    (c.in_ok-take_only.ensures.ok s.kinds c.args.top.place _ (offered s.kinds c.args.top.place c.args.datatype simple))
    (same_taken c.args.datatype c.args.top.name _ _ _ _ _ _ _ c.in_ok-take_only.ensures.same c.in_ok-value.ensures.ok) refl
    (c.in_err-take_only-2.ensures.refused s.kinds behind _ (offered s.kinds behind c.args.datatype simple)) c.in_err-take_only-2.ensures.at)

pub returns-clause-ok : goal.returns-clause-ok
returns-clause-ok c = λ s simple.
    let behind = behind_value c.args.top.place.kind in
    whole_took s c.args.datatype c.args.elements.now c.args.top _ c.requires.top c.requires.first simple _ _ _ c.args.reader.now _ _ _ (simple_step c.args.top.place) (simple_step behind) behind refl
    (c.in_ok-take_only.ensures.ok s.kinds c.args.top.place _ (offered s.kinds c.args.top.place c.args.datatype simple))
    (same_taken c.args.datatype c.args.top.name _ _ _ _ _ _ _ c.in_ok-take_only.ensures.same c.in_ok-value.ensures.ok) refl refl
    (c.in_ok-take_only-2.ensures.ok s.kinds behind _ (offered s.kinds behind c.args.datatype simple)) c.pop.ensures
