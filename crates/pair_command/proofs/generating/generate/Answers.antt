use Rattle.std.proofs.Common.{List, ℕ, refl, inl, inr, subst, ◌∙◌}
use Rattle.std.specs.Prelude.{string_bytes}
use Rattle.post_spec.specs.Codecs.{codecs}
use Rattle.car_spec.specs.Codecs as car_codecs
use Rattle.command_status.specs.declared.status.Status.TheVariants as status
use Rattle.command_status.specs.Told.{PrintsAs, sink_told}
use Rattle.pair_command.proofs.Leaving.{printed}
use Rattle.pair_command.proofs.Sessions as sessions
use Rattle.pair_command.proofs.generating.generate.Goals as goal

pub returns-in-Ok-clause-leaves : goal.returns-in-Ok-clause-leaves
returns-in-Ok-clause-leaves g c =
    let before = sink_told (g.K.Sink.taken c.args.out.now) (g.K.Sink.faults c.args.out.now) in
    let after = sink_told (g.K.Sink.taken c.print_line.new.out) (g.K.Sink.faults c.print_line.new.out) in
    let print = subst (λ (bytes : List ℕ). PrintsAs status.Done bytes c.print_line.result before after) (c.as_bytes.ensures.value ∙ c.as_str.ensures.value) c.print_line.ensures in
    sessions.generated _ _ (record { of_station = g.met.C.LawfulCodec.determined; of_car = g.met.D.LawfulCarCodec.determined }) _ _ c.print_line.result before after
    (printed _ (string_bytes c.in-Ok.line) c.print_line.result before after c.in-Ok.ensures print)

pub returns-in-Err-clause-leaves : goal.returns-in-Err-clause-leaves
returns-in-Err-clause-leaves g c = sessions.no_memory _ _ _ _ _ _ (refl, refl)

pub returns-in-Ok-clause-no_memory : goal.returns-in-Ok-clause-no_memory
returns-in-Ok-clause-no_memory g c = sessions.unprinted _ _ _ _ (returns-in-Ok-clause-leaves g c).leaves

pub returns-in-Ok-clause-sink_fault : goal.returns-in-Ok-clause-sink_fault
returns-in-Ok-clause-sink_fault g c = sessions.sink_failed _ _ _ _ (returns-in-Ok-clause-leaves g c).leaves

pub returns-in-Ok-clause-complete : goal.returns-in-Ok-clause-complete
returns-in-Ok-clause-complete g c = sessions.complete _ _ _ _ (returns-in-Ok-clause-leaves g c).leaves

pub returns-in-Err-clause-complete : goal.returns-in-Err-clause-complete
returns-in-Err-clause-complete g c none = inr (inl refl)
