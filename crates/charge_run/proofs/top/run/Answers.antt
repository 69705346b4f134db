use Rattle.std.proofs.Common.{inl, inr, [], ◌∷◌, refl}
use Rattle.command_words.specs.Command.{replay, audit, talk, generate, decode, encode, basic, migrate, offer, schedule, services, pick}
use Rattle.pair_codecs.proofs.Fitting.{are_fit}
use Rattle.pair_command.proofs.Leaving.{no_memory}
use Rattle.charge_run.proofs.Answered.{only_refused, only_unscanned, same_decoded, same_encoded, same_generated, same_offered, same_owned, same_picked, same_served, same_talked, wants_nothing}
use Rattle.charge_run.proofs.WordLists.{one_audit, one_decode, one_encode, one_generate, one_offer, one_pick, one_services, one_talk, some_sessions}
use Rattle.charge_run.proofs.Complete.{unfailed}
use Rattle.command_status.specs.Told.{sink_told, TellsAlways}
use Rattle.command_status.specs.declared.status.Status.TheVariants as status
use Rattle.charge_run.proofs.top.run.Goals as goal

pub returns-in-Ok-Decode-clause-decode : goal.returns-in-Ok-Decode-clause-decode
returns-in-Ok-Decode-clause-decode g c dialect hex is =
    let told = (rw c.in-Ok-Decode.field-0-is at c.in-Ok-Decode.ensures.command) in
    same_decoded _ dialect _ hex (one_decode c.args.words.now c.in-Ok-Decode.dialect dialect c.in-Ok-Decode.hex.now hex told is) _ _ _ _ _
    c.decode.ensures.leaves

pub returns-in-Ok-Decode-clause-refused : goal.returns-in-Ok-Decode-clause-refused
returns-in-Ok-Decode-clause-refused g c dialect hex place is fault =
    only_refused dialect hex place c.decode.result _ _ _ _ (returns-in-Ok-Decode-clause-decode g c dialect hex is) fault

pub returns-in-Ok-Encode-clause-encode : goal.returns-in-Ok-Encode-clause-encode
returns-in-Ok-Encode-clause-encode g c dialect text is =
    let told = (rw c.in-Ok-Encode.field-0-is at c.in-Ok-Encode.ensures.command) in
    same_encoded _ dialect _ text (one_encode c.args.words.now c.in-Ok-Encode.dialect dialect c.in-Ok-Encode.text.now text told is) _ _ _ _ _
    c.encode.ensures.leaves

pub returns-in-Ok-Encode-clause-encode_refused : goal.returns-in-Ok-Encode-clause-encode_refused
returns-in-Ok-Encode-clause-encode_refused g c dialect text place is fault =
    only_unscanned dialect text place c.encode.result _ _ _ _ (returns-in-Ok-Encode-clause-encode g c dialect text is) fault

pub returns-in-Ok-Replay-clause-apart : goal.returns-in-Ok-Replay-clause-apart
returns-in-Ok-Replay-clause-apart g c =
    let told = (rw c.in-Ok-Replay.field-0-is at c.in-Ok-Replay.ensures.command) in
    λ none. absurd (none (inl (inr (inl (_, _, told)))))

pub returns-in-Ok-Replay-clause-untraced : goal.returns-in-Ok-Replay-clause-untraced
returns-in-Ok-Replay-clause-untraced g c =
    let told = (rw c.in-Ok-Replay.field-0-is at c.in-Ok-Replay.ensures.command) in
    λ none. absurd (none (inr (inl (_, _, told))))

pub returns-in-Ok-Audit-clause-own : goal.returns-in-Ok-Audit-clause-own
returns-in-Ok-Audit-clause-own g c plan recorded is =
    let told = (rw c.in-Ok-Audit.field-0-is at c.in-Ok-Audit.ensures.command) in
    same_owned (g.F.Source.holds c.args.files.now) (TellsAlways g.F.Source.left) c.in-Ok-Audit.plan.now plan c.in-Ok-Audit.recorded.now recorded
    (one_audit c.args.words.now c.in-Ok-Audit.plan.now plan c.in-Ok-Audit.recorded.now recorded told is)
    c.audit_trace.result (g.F.Source.faults c.args.files.now) (g.F.Source.faults c.audit_trace.new.files)
    (sink_told (g.K.Sink.taken c.args.out.now) (g.K.Sink.faults c.args.out.now))
    (sink_told (g.K.Sink.taken c.audit_trace.new.out) (g.K.Sink.faults c.audit_trace.new.out)) c.audit_trace.ensures.own

pub returns-in-Ok-Audit-clause-apart : goal.returns-in-Ok-Audit-clause-apart
returns-in-Ok-Audit-clause-apart g c =
    let told = (rw c.in-Ok-Audit.field-0-is at c.in-Ok-Audit.ensures.command) in
    λ none. absurd (none (inl (inr (inr (inr (inr (inr (inl (_, _, told)))))))))

pub returns-in-Ok-Talk-clause-talk : goal.returns-in-Ok-Talk-clause-talk
returns-in-Ok-Talk-clause-talk g c station car seed is =
    let told = (rw c.in-Ok-Talk.field-0-is at c.in-Ok-Talk.ensures.command) in
    record {
      leaves = same_talked (g.F.Source.holds c.args.files.now) (TellsAlways g.F.Source.left) c.in-Ok-Talk.station.now station c.in-Ok-Talk.car.now car c.in-Ok-Talk.seed seed
          (one_talk c.args.words.now c.in-Ok-Talk.station.now station c.in-Ok-Talk.car.now car c.in-Ok-Talk.seed seed told is) _ _ _ _ _ c.talk_pair.ensures.leaves;
      fit = are_fit;
    }

pub returns-in-Ok-Talk-clause-apart : goal.returns-in-Ok-Talk-clause-apart
returns-in-Ok-Talk-clause-apart g c =
    let told = (rw c.in-Ok-Talk.field-0-is at c.in-Ok-Talk.ensures.command) in
    λ none. absurd (none (inl (inr (inr (inr (inr (inr (inr (_, _, _, told)))))))))

pub returns-in-Ok-Generate-clause-generate : goal.returns-in-Ok-Generate-clause-generate
returns-in-Ok-Generate-clause-generate g c seed count is =
    let told = (rw c.in-Ok-Generate.field-0-is at c.in-Ok-Generate.ensures.command) in
    same_generated c.in-Ok-Generate.seed seed c.in-Ok-Generate.count count
    (one_generate c.args.words.now c.in-Ok-Generate.seed seed c.in-Ok-Generate.count count told is) _ _ _ c.generate_sessions.ensures.leaves

pub returns-in-Ok-Basic-clause-apart : goal.returns-in-Ok-Basic-clause-apart
returns-in-Ok-Basic-clause-apart g c =
    let told = (rw c.in-Ok-Basic.field-0-is at c.in-Ok-Basic.ensures.command) in
    λ none. absurd (none (inr (inl (_, told))))

pub returns-in-Ok-Migrate-clause-apart : goal.returns-in-Ok-Migrate-clause-apart
returns-in-Ok-Migrate-clause-apart g c =
    let told = (rw c.in-Ok-Migrate.field-0-is at c.in-Ok-Migrate.ensures.command) in
    λ none. absurd (none (inr (inr (_, told))))

pub returns-in-Ok-Migrate-clause-untraced : goal.returns-in-Ok-Migrate-clause-untraced
returns-in-Ok-Migrate-clause-untraced g c =
    let told = (rw c.in-Ok-Migrate.field-0-is at c.in-Ok-Migrate.ensures.command) in
    λ none. absurd (none (inr (inr (_, told))))

pub returns-in-Ok-Offer-clause-offer : goal.returns-in-Ok-Offer-clause-offer
returns-in-Ok-Offer-clause-offer g c name moment is =
    let told = (rw c.in-Ok-Offer.field-0-is at c.in-Ok-Offer.ensures.command) in
    same_offered (g.F.Source.holds c.args.files.now) c.in-Ok-Offer.moment moment c.in-Ok-Offer.calendar.now name
    (one_offer c.args.words.now c.in-Ok-Offer.moment moment c.in-Ok-Offer.calendar.now name told is) _ _ _ _ _ _ c.offer.ensures.leaves

pub returns-in-Ok-Offer-clause-apart : goal.returns-in-Ok-Offer-clause-apart
returns-in-Ok-Offer-clause-apart g c =
    let told = (rw c.in-Ok-Offer.field-0-is at c.in-Ok-Offer.ensures.command) in
    λ none. absurd (none (inl (inr (inr (inl (_, _, told))))))

pub returns-in-Ok-Schedule-clause-apart : goal.returns-in-Ok-Schedule-clause-apart
returns-in-Ok-Schedule-clause-apart g c =
    let told = (rw c.in-Ok-Schedule.field-0-is at c.in-Ok-Schedule.ensures.command) in
    λ none. absurd (none (inl (inr (inr (inr (inl (_, _, told)))))))

pub returns-in-Ok-Services-clause-services : goal.returns-in-Ok-Services-clause-services
returns-in-Ok-Services-clause-services g c name id is =
    let told = (rw c.in-Ok-Services.field-0-is at c.in-Ok-Services.ensures.command) in
    same_served (g.F.Source.holds c.args.files.now) c.in-Ok-Services.id id c.in-Ok-Services.catalogue.now name
    (one_services c.args.words.now c.in-Ok-Services.id id c.in-Ok-Services.catalogue.now name told is) _ _ _ _ _ _ c.services.ensures.leaves

pub returns-in-Ok-Services-clause-apart : goal.returns-in-Ok-Services-clause-apart
returns-in-Ok-Services-clause-apart g c =
    let told = (rw c.in-Ok-Services.field-0-is at c.in-Ok-Services.ensures.command) in
    λ none. absurd (none (inl (inr (inr (inr (inr (inl (_, _, told))))))))

pub returns-in-Ok-Pick-clause-pick : goal.returns-in-Ok-Pick-clause-pick
returns-in-Ok-Pick-clause-pick g c want payload is =
    let told = (rw c.in-Ok-Pick.field-0-is at c.in-Ok-Pick.ensures.command) in
    same_picked c.in-Ok-Pick.want.now want c.in-Ok-Pick.hex.now payload
    (one_pick c.args.words.now c.in-Ok-Pick.want.now want c.in-Ok-Pick.hex.now payload told is) _ _ _ c.pick.ensures.leaves

pub returns-in-Ok-Pick-clause-words : goal.returns-in-Ok-Pick-clause-words
returns-in-Ok-Pick-clause-words g c is =
    let told = (rw c.in-Ok-Pick.field-0-is at c.in-Ok-Pick.ensures.command) in
    inr (_, _, told, wants_nothing c.pick.result c.in-Ok-Pick.want.now c.in-Ok-Pick.hex.now _ _ c.pick.ensures.leaves is)

-- ---- no command

pub returns-in-Err-NoCommand-clause-replay : goal.returns-in-Err-NoCommand-clause-replay
returns-in-Err-NoCommand-clause-replay g c plan recorded is =
    let none = (rw c.in-Err-NoCommand.field-0-is at c.in-Err-NoCommand.ensures.fault) in
    absurd (none (replay plan recorded) is)

pub returns-in-Err-NoCommand-clause-audit : goal.returns-in-Err-NoCommand-clause-audit
returns-in-Err-NoCommand-clause-audit g c plan recorded is =
    let none = (rw c.in-Err-NoCommand.field-0-is at c.in-Err-NoCommand.ensures.fault) in
    absurd (none (audit plan recorded) is)

pub returns-in-Err-NoCommand-clause-own : goal.returns-in-Err-NoCommand-clause-own
returns-in-Err-NoCommand-clause-own g c plan recorded is =
    let none = (rw c.in-Err-NoCommand.field-0-is at c.in-Err-NoCommand.ensures.fault) in
    absurd (none (audit plan recorded) is)

pub returns-in-Err-Memory-clause-talk : goal.returns-in-Err-Memory-clause-talk
returns-in-Err-Memory-clause-talk g c station car seed is = record { leaves = no_memory _ _ _ _ _ _ _ refl (refl, refl); fit = are_fit }

pub returns-in-Err-NoCommand-clause-talk : goal.returns-in-Err-NoCommand-clause-talk
returns-in-Err-NoCommand-clause-talk g c station car seed is =
    let none = (rw c.in-Err-NoCommand.field-0-is at c.in-Err-NoCommand.ensures.fault) in
    absurd (none (talk station car seed) is)

pub returns-in-Err-NoCommand-clause-generate : goal.returns-in-Err-NoCommand-clause-generate
returns-in-Err-NoCommand-clause-generate g c seed count is =
    let none = (rw c.in-Err-NoCommand.field-0-is at c.in-Err-NoCommand.ensures.fault) in
    absurd (none (generate seed count) is)

pub returns-in-Err-NoCommand-clause-basic : goal.returns-in-Err-NoCommand-clause-basic
returns-in-Err-NoCommand-clause-basic g c name is =
    let none = (rw c.in-Err-NoCommand.field-0-is at c.in-Err-NoCommand.ensures.fault) in
    absurd (none (basic name) is)

pub returns-in-Err-NoCommand-clause-migrate : goal.returns-in-Err-NoCommand-clause-migrate
returns-in-Err-NoCommand-clause-migrate g c name is =
    let none = (rw c.in-Err-NoCommand.field-0-is at c.in-Err-NoCommand.ensures.fault) in
    absurd (none (migrate name) is)

pub returns-in-Err-NoCommand-clause-offer : goal.returns-in-Err-NoCommand-clause-offer
returns-in-Err-NoCommand-clause-offer g c name moment is =
    let none = (rw c.in-Err-NoCommand.field-0-is at c.in-Err-NoCommand.ensures.fault) in
    absurd (none (offer name moment) is)

pub returns-in-Err-NoCommand-clause-schedule : goal.returns-in-Err-NoCommand-clause-schedule
returns-in-Err-NoCommand-clause-schedule g c name payload is =
    let none = (rw c.in-Err-NoCommand.field-0-is at c.in-Err-NoCommand.ensures.fault) in
    absurd (none (schedule name payload) is)

pub returns-in-Err-NoCommand-clause-services : goal.returns-in-Err-NoCommand-clause-services
returns-in-Err-NoCommand-clause-services g c name id is =
    let none = (rw c.in-Err-NoCommand.field-0-is at c.in-Err-NoCommand.ensures.fault) in
    absurd (none (services name id) is)

pub returns-in-Err-NoCommand-clause-pick : goal.returns-in-Err-NoCommand-clause-pick
returns-in-Err-NoCommand-clause-pick g c want payload is =
    let none = (rw c.in-Err-NoCommand.field-0-is at c.in-Err-NoCommand.ensures.fault) in
    absurd (none (pick want payload) is)

pub returns-in-Err-NoCommand-clause-decode : goal.returns-in-Err-NoCommand-clause-decode
returns-in-Err-NoCommand-clause-decode g c dialect hex is =
    let none = (rw c.in-Err-NoCommand.field-0-is at c.in-Err-NoCommand.ensures.fault) in
    none (decode dialect hex) is

pub returns-in-Err-NoCommand-clause-encode : goal.returns-in-Err-NoCommand-clause-encode
returns-in-Err-NoCommand-clause-encode g c dialect text is =
    let none = (rw c.in-Err-NoCommand.field-0-is at c.in-Err-NoCommand.ensures.fault) in
    none (encode dialect text) is

pub returns-in-Err-NoCommand-clause-refused : goal.returns-in-Err-NoCommand-clause-refused
returns-in-Err-NoCommand-clause-refused g c dialect hex place is fault =
    let none = (rw c.in-Err-NoCommand.field-0-is at c.in-Err-NoCommand.ensures.fault) in
    absurd (none (decode dialect hex) is)

pub returns-in-Err-NoCommand-clause-encode_refused : goal.returns-in-Err-NoCommand-clause-encode_refused
returns-in-Err-NoCommand-clause-encode_refused g c dialect text place is fault =
    let none = (rw c.in-Err-NoCommand.field-0-is at c.in-Err-NoCommand.ensures.fault) in
    absurd (none (encode dialect text) is)

-- ---- where no call failed

pub returns-in-Ok-Station-clause-complete : goal.returns-in-Ok-Station-clause-complete
returns-in-Ok-Station-clause-complete g c = λ none. unfailed (status.Done ∷ status.NoMemory ∷ status.TurnsSpent ∷ status.Plan ∷ []) c.serve.result (tt, (tt, (tt, (tt, tt)))) (c.serve.ensures.complete none)

pub returns-in-Ok-Car-clause-complete : goal.returns-in-Ok-Car-clause-complete
returns-in-Ok-Car-clause-complete g c = λ none. unfailed (status.Done ∷ status.NoMemory ∷ status.TurnsSpent ∷ status.Plan ∷ []) c.drive.result (tt, (tt, (tt, (tt, tt)))) (c.drive.ensures.complete none)

pub returns-in-Ok-Replay-clause-complete : goal.returns-in-Ok-Replay-clause-complete
returns-in-Ok-Replay-clause-complete g c = λ none. unfailed (status.Done ∷ status.NoMemory ∷ status.Plan ∷ status.Input ∷ []) c.replay_trace.result (tt, (tt, (tt, (tt, tt)))) (c.replay_trace.ensures.complete (none.0, (none.1.0, (none.1.1.0, tt))))

pub returns-in-Ok-Audit-clause-complete : goal.returns-in-Ok-Audit-clause-complete
returns-in-Ok-Audit-clause-complete g c = λ none. unfailed (status.Done ∷ status.NoMemory ∷ status.Plan ∷ status.Input ∷ status.AuditNo ∷ []) c.audit_trace.result (tt, (tt, (tt, (tt, (tt, tt))))) (c.audit_trace.ensures.complete (none.0, (none.1.0, tt)))

pub returns-in-Ok-Talk-clause-complete : goal.returns-in-Ok-Talk-clause-complete
returns-in-Ok-Talk-clause-complete g c = λ none. unfailed (status.Done ∷ status.NoMemory ∷ status.Plan ∷ []) c.talk_pair.result (tt, (tt, (tt, tt))) (c.talk_pair.ensures.complete (none.0, (none.1.0, tt)))

pub returns-in-Ok-Generate-clause-complete : goal.returns-in-Ok-Generate-clause-complete
returns-in-Ok-Generate-clause-complete g c = λ none. unfailed (status.Done ∷ status.NoMemory ∷ []) c.generate_sessions.result (tt, (tt, tt)) (c.generate_sessions.ensures.complete (none.1.0, tt))

pub returns-in-Ok-Decode-clause-complete : goal.returns-in-Ok-Decode-clause-complete
returns-in-Ok-Decode-clause-complete g c = λ none. unfailed (status.Done ∷ status.NoMemory ∷ status.Input ∷ []) c.decode.result (tt, (tt, (tt, tt))) (c.decode.ensures.complete (none.1.0, tt))

pub returns-in-Ok-Encode-clause-complete : goal.returns-in-Ok-Encode-clause-complete
returns-in-Ok-Encode-clause-complete g c = λ none. unfailed (status.Done ∷ status.NoMemory ∷ status.Input ∷ []) c.encode.result (tt, (tt, (tt, tt))) (c.encode.ensures.complete (none.1.0, tt))

pub returns-in-Ok-Basic-clause-complete : goal.returns-in-Ok-Basic-clause-complete
returns-in-Ok-Basic-clause-complete g c = λ none. unfailed (status.Done ∷ status.NoMemory ∷ status.Input ∷ []) c.basic.result (tt, (tt, (tt, tt))) (c.basic.ensures.complete (none.0, (none.1.0, tt)))

pub returns-in-Ok-Migrate-clause-complete : goal.returns-in-Ok-Migrate-clause-complete
returns-in-Ok-Migrate-clause-complete g c = λ none. unfailed (status.Done ∷ status.NoMemory ∷ status.Input ∷ []) c.migrate.result (tt, (tt, (tt, tt))) (c.migrate.ensures.complete (none.0, (none.1.0, (none.1.1.0, tt))))

pub returns-in-Ok-Offer-clause-complete : goal.returns-in-Ok-Offer-clause-complete
returns-in-Ok-Offer-clause-complete g c = λ none. unfailed (status.Done ∷ status.NoMemory ∷ status.Plan ∷ []) c.offer.result (tt, (tt, (tt, tt))) (c.offer.ensures.complete (none.0, (none.1.0, tt)))

pub returns-in-Ok-Schedule-clause-complete : goal.returns-in-Ok-Schedule-clause-complete
returns-in-Ok-Schedule-clause-complete g c = λ none. unfailed (status.Done ∷ status.NoMemory ∷ status.Plan ∷ status.Input ∷ status.NoSchedule ∷ status.Unreached ∷ []) c.schedule.result (tt, (tt, (tt, (tt, (tt, (tt, tt)))))) (c.schedule.ensures.complete (none.0, (none.1.0, tt)))

pub returns-in-Ok-Services-clause-complete : goal.returns-in-Ok-Services-clause-complete
returns-in-Ok-Services-clause-complete g c = λ none. unfailed (status.Done ∷ status.NoMemory ∷ status.Plan ∷ []) c.services.result (tt, (tt, (tt, tt))) (c.services.ensures.complete (none.0, (none.1.0, tt)))

pub returns-in-Ok-Pick-clause-complete : goal.returns-in-Ok-Pick-clause-complete
returns-in-Ok-Pick-clause-complete g c = λ none. unfailed (status.Done ∷ status.NoMemory ∷ status.Words ∷ status.Input ∷ status.NoSet ∷ []) c.pick.result (tt, (tt, (tt, (tt, (tt, tt))))) (c.pick.ensures.complete (none.1.0, tt))
