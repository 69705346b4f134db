use Rattle.std.proofs.Common.{ℕ, List, ◌++◌, codes, subst}
use Rattle.charge_world.specs.Outside.{Appends}
use Rattle.command_status.proofs.Pieces.{appends_more, appends_front, appends_first, on_err, on_err_weaker}
use Rattle.command_status.proofs.fault.write_plan.Goals as goal

pub returns-in_err-write-clause-failed : goal.returns-in_err-write-clause-failed
returns-in_err-write-clause-failed g c =
    on_err c.from_residual.result _ (appends_first _ _ (codes "plan ") (c.args.key.now ++ codes "\n") c.in_err-write.ensures.failed)

pub returns-clause-failed : goal.returns-clause-failed
returns-clause-failed g c =
    let key = subst (λ (bytes : List ℕ). Appends (g.K.Sink.taken c.write.new.self) (g.K.Sink.taken c.write-2.new.self) bytes) c.as_bytes.ensures.value c.in_ok-write-2.ensures.ok in
    on_err_weaker c.write-3.result _ _
    (λ failed. appends_front _ _ _ (codes "plan " ++ c.args.key.now) (codes "\n") (appends_more _ _ _ (codes "plan ") c.args.key.now c.in_ok-write.ensures.ok key) failed)
    c.write-3.ensures.failed
