-- A step of a car carries a run to a run.
use Rattle.std.proofs.Common.{◌≡◌, ◌<◌, ℕ, ◌+◌, ◌==◌, Bool, true, false, if◌then◌else◌, List, ◌∷◌, Option, Some, None, refl, sym, ap, subst, ◌∙◌, ◌⊎◌, inl, inr, arith}
use Rattle.charge_world.specs.declared.entry.Entry.{Entry}
use Rattle.session_words.specs.Causes.{number_of}
use Rattle.session_words.specs.declared.cause.EndCause.{EndCause}
use Rattle.session_words.specs.declared.cause.EndCause.TheVariants as cause
use Rattle.session_words.specs.declared.plan.CarPlan.{CarPlan}
use Rattle.session_words.specs.declared.session.SessionId.{SessionId}
use Rattle.trace_text.specs.Pasts.{is_hearing}
use Rattle.endpoint.specs.Knowing.{Known}
use Rattle.endpoint.proofs.Knowing.{known_call}
use Rattle.car_rules.specs.declared.stage.CarStage.{CarStage}
use Rattle.car_spec.specs.Acting.{acted, state}
use Rattle.car_spec.specs.Codecs.{Judged, Codecs}
use Rattle.car_spec.specs.Deciding.{decided}
use Rattle.car_spec.specs.Judging.{Payload, wanted, read, IsRead}
use Rattle.car_spec.specs.Next.{IsQuiet, MayAct, MayRead}
use Rattle.car_spec.specs.Report.{Report, report}
use Rattle.car_spec.specs.Report as reports
use Rattle.car_spec.specs.Runs.{IsRun}
use Rattle.car_spec.specs.States.{Session, State}
use Rattle.car_spec.specs.Steps.{Spoken, Act, Step, Reads, Does, entry_of}
use Rattle.car_spec.specs.Steps as does
use Rattle.car_spec.specs.Told.{cycles, given}
use Rattle.car_laws.proofs.Decided.{same_over}
use Rattle.car_laws.proofs.Kept.{StageReads, SessionReads, NothingRead, Reads_by, Keeps, decided_keeps}
use Rattle.car_laws.proofs.KeptActs.{run_keeps}
use Rattle.car_laws.proofs.Silent.{IsEndedBy, over_or_end, before_step}
use Rattle.evcc_machine.proofs.Quiet.{stays}
use Rattle.evcc_machine.specs.Views.{stage_in}
use Rattle.evcc_machine.specs.Work.{work, ActsLessen, WordsLessen}
use Rattle.car_codec.specs.Judging.{ChoosesOffered}
use Rattle.car_codec.specs.Requests.{IsPlan}
use Rattle.car_acts.specs.declared.deeds.Deed.{Deed}
use Rattle.car_acts.specs.declared.deeds.Deed.TheVariants.{Dial, Give, Say, Finish, Seek}
use Rattle.car_acts.specs.Deeds.{act_of, spoken_in, MayTake, noted_by, ReadsNext, DoesNext}
use Rattle.car_acts.specs.Driving.{InRun}
use Rattle.car_acts.specs.Reporting.{cycles_in, session_in, report_by, Reports}
use Rattle.car_acts.proofs.Named.{pauses_named}
use Rattle.car_acts.specs.Sound.{IsSound}
use Rattle.car_acts.proofs.Next.{deed_ending, may_act}
use Rattle.car_acts.proofs.Sound.{decided_sound, read_sound, acted_sound, busy_lives}

-- an act is no hearing
acted_call : (a : Act) (taken : Bool) → is_hearing (entry_of a taken) ≡ false
acted_call (does.Seek datagram) taken = refl
acted_call (does.Dial port) taken = refl
acted_call (does.Give o) taken = refl
acted_call (does.Say spoken bytes) taken = refl
acted_call (does.End number) taken = refl

-- ---- the report

stage_cycles : (plan : CarPlan) (steps : List Step) (o : Option CarStage) (sent : Option ℕ) → StageReads plan steps o sent → cycles_in o ≡ cycles steps
stage_cycles plan steps None sent g = sym g.1
stage_cycles plan steps (Some stage) sent g = g.0

session_cycles : (plan : CarPlan) (steps : List Step) (over : Bool) (o : Option Session) → over ≡ false → Reads_by plan steps over o → cycles_in (stage_in o) ≡ cycles steps
session_cycles plan steps over None lives k = let n : NothingRead steps = k lives in sym n.counts_none
session_cycles plan steps over (Some session) lives k = let g : SessionReads plan steps session = k in stage_cycles plan steps session.stage session.moments.sent g.stage_is

pub kept_cycles : (plan : CarPlan) (steps : List Step) (s : State) → s.over ≡ false → Keeps plan steps s → cycles_in (stage_in s.session) ≡ cycles steps
kept_cycles plan steps s lives k = session_cycles plan steps s.over s.session lives k.reads

is_pause : (x : EndCause) → (number_of x == 29) ≡ true → x ≡ cause.Paused
is_pause cause.Stopped e = let f : false ≡ true = e in cc
is_pause cause.Refused e = let f : false ≡ true = e in cc
is_pause cause.BadFrame e = let f : false ≡ true = e in cc
is_pause cause.WrongSide e = let f : false ≡ true = e in cc
is_pause cause.NoNegotiation e = let f : false ≡ true = e in cc
is_pause cause.FailedReply e = let f : false ≡ true = e in cc
is_pause cause.SetupTimeout e = let f : false ≡ true = e in cc
is_pause cause.SequenceTimeout e = let f : false ≡ true = e in cc
is_pause cause.FeedbackTimeout e = let f : false ≡ true = e in cc
is_pause cause.PilotLost e = let f : false ≡ true = e in cc
is_pause cause.Emergency e = let f : false ≡ true = e in cc
is_pause cause.IsolationLost e = let f : false ≡ true = e in cc
is_pause cause.FeedbackWrong e = let f : false ≡ true = e in cc
is_pause cause.OverPower e = let f : false ≡ true = e in cc
is_pause cause.Gone e = let f : false ≡ true = e in cc
is_pause cause.SendFailed e = let f : false ≡ true = e in cc
is_pause cause.OrderFailed e = let f : false ≡ true = e in cc
is_pause cause.RunOver e = let f : false ≡ true = e in cc
is_pause cause.Impatient e = let f : false ≡ true = e in cc
is_pause cause.CodeFailed e = let f : false ≡ true = e in cc
is_pause cause.MessageTimeout e = let f : false ≡ true = e in cc
is_pause cause.CableCheckTimeout e = let f : false ≡ true = e in cc
is_pause cause.PreChargeTimeout e = let f : false ≡ true = e in cc
is_pause cause.OngoingTimeout e = let f : false ≡ true = e in cc
is_pause cause.WrongReply e = let f : false ≡ true = e in cc
is_pause cause.NoOffer e = let f : false ≡ true = e in cc
is_pause cause.Paused e = refl

has_number : (x : EndCause) → 0 < number_of x
has_number cause.Stopped = omega arith
has_number cause.Refused = omega arith
has_number cause.BadFrame = omega arith
has_number cause.WrongSide = omega arith
has_number cause.NoNegotiation = omega arith
has_number cause.FailedReply = omega arith
has_number cause.SetupTimeout = omega arith
has_number cause.SequenceTimeout = omega arith
has_number cause.FeedbackTimeout = omega arith
has_number cause.PilotLost = omega arith
has_number cause.Emergency = omega arith
has_number cause.IsolationLost = omega arith
has_number cause.FeedbackWrong = omega arith
has_number cause.OverPower = omega arith
has_number cause.Gone = omega arith
has_number cause.SendFailed = omega arith
has_number cause.OrderFailed = omega arith
has_number cause.RunOver = omega arith
has_number cause.Impatient = omega arith
has_number cause.CodeFailed = omega arith
has_number cause.MessageTimeout = omega arith
has_number cause.CableCheckTimeout = omega arith
has_number cause.PreChargeTimeout = omega arith
has_number cause.OngoingTimeout = omega arith
has_number cause.WrongReply = omega arith
has_number cause.NoOffer = omega arith
has_number cause.Paused = omega arith

same_if : (b : Bool) (u v : Option SessionId) → (b ≡ true → u ≡ v) → (if b then u else None) ≡ (if b then v else None)
same_if true u v f = f refl
same_if false u v f = refl

-- what is reported at the end is the report of the past then
end_reported : (c : Codecs) (plan : CarPlan) (past : List Entry) (steps : List Step) (x : EndCause) (taken : Bool) → IsRun c plan past steps → (decided plan (state plan steps)).over ≡ false → (decided plan (state plan steps)).agenda.ending ≡ Some x
    → report_by x (decided plan (state plan steps)) ≡ report (Does (does.End (number_of x)) taken ∷ steps) (entry_of (does.End (number_of x)) taken ∷ past)
end_reported c plan past steps x taken r lives e =
    let d = decided plan (state plan steps) in
    let counts : cycles_in (stage_in d.session) ≡ cycles steps = kept_cycles plan steps d lives (decided_keeps plan steps (state plan steps) (run_keeps c plan past steps r)) in
    let names : (if number_of x == 29 then session_in (stage_in d.session) else None) ≡ (if number_of x == 29 then given steps else None) =
    same_if (number_of x == 29) (session_in (stage_in d.session)) (given steps) (λ p. pauses_named c plan past steps r (e ∙ ap (λ (y : EndCause). Some y) (is_pause x p))) in
    ap (λ (n : ℕ). (let y : Report = record { cycles = n; cause = number_of x; session = if number_of x == 29 then session_in (stage_in d.session) else None } in y)) counts
    ∙ ap (λ (o : Option SessionId). (let y : Report = record { cycles = cycles steps; cause = number_of x; session = o } in y)) names

-- a car that goes on reports nothing yet
pub unreported : (b : Bool) (told : Option Report) (steps : List Step) (past : List Entry) → b ≡ false → Reports b told steps past → (told ≡ None) × (reports.cause past ≡ 0)
unreported true told steps past e h = cc
unreported false told steps past e h = h

pub still_unreported : (b : Bool) (told : Option Report) (steps : List Step) (past : List Entry) → b ≡ false → (told ≡ None) × (reports.cause past ≡ 0) → Reports b told steps past
still_unreported true told steps past e h = cc
still_unreported false told steps past e h = h

deed_reported : (c : Codecs) (plan : CarPlan) (past : List Entry) (steps : List Step) (room : List ℕ) (spoken : Spoken) (deed : Deed) (taken : Bool) (told : Option Report) → IsRun c plan past steps
    → (decided plan (state plan steps)).over ≡ false → ((x : EndCause) → deed ≡ Finish x → (decided plan (state plan steps)).agenda.ending ≡ Some x) → (told ≡ None) × (reports.cause past ≡ 0)
    → Reports (acted (act_of room spoken deed) taken (decided plan (state plan steps))).over (noted_by deed (decided plan (state plan steps)) told) (Does (act_of room spoken deed) taken ∷ steps) (entry_of (act_of room spoken deed) taken ∷ past)
deed_reported c plan past steps room spoken (Dial port) true told r lives f h = still_unreported _ told _ _ lives h
deed_reported c plan past steps room spoken (Dial port) false told r lives f h = still_unreported _ told _ _ lives h
deed_reported c plan past steps room spoken (Give order) true told r lives f h = still_unreported _ told _ _ lives h
deed_reported c plan past steps room spoken (Give order) false told r lives f h = still_unreported _ told _ _ lives h
deed_reported c plan past steps room spoken (Say n) true told r lives f h = still_unreported _ told _ _ lives h
deed_reported c plan past steps room spoken (Say n) false told r lives f h = still_unreported _ told _ _ lives h
deed_reported c plan past steps room spoken (Finish x) taken told r lives f h = (ap (λ (y : Report). Some y) (end_reported c plan past steps x taken r lives (f x refl)), has_number x)
deed_reported c plan past steps room spoken (Seek datagram) taken told r lives f h = still_unreported _ told _ _ lives h

-- ---- the steps

pub does_run : (c : Codecs) (plan : CarPlan) (k : Known) (s : State) (told : Option Report) (past : List Entry) (room : List ℕ) (deed : Deed) (taken : Bool) (new : State) (d : DoesNext c plan (decided plan s) room deed) → MayTake deed taken
    → new ≡ acted (act_of room (spoken_in d.todo) deed) taken (decided plan s) → InRun c plan k s told past → InRun c plan k new (noted_by deed (decided plan s) told) (entry_of (act_of room (spoken_in d.todo) deed) taken ∷ past)
does_run c plan k s told past room deed taken new d m e r =
    let a = act_of room (spoken_in d.todo) deed in
    let same : decided plan s ≡ decided plan (state plan r.steps) = ap (decided plan) r.state_is in
    let n : DoesNext c plan (decided plan (state plan r.steps)) room deed = subst (λ (t : State). DoesNext c plan t room deed) same d in
    let may : MayAct c plan s a taken = may_act c plan s room deed taken d m in
    let may_then : MayAct c plan (state plan r.steps) a taken = subst (λ (t : State). MayAct c plan t a taken) r.state_is may in
    let run : IsRun c plan (entry_of a taken ∷ past) (Does a taken ∷ r.steps) = (past, r.run, may_then, refl) in
    let lives = before_step c plan (entry_of a taken ∷ past) (Does a taken) r.steps run in
    let goes_on : (decided plan (state plan r.steps)).over ≡ false = same_over plan (state plan r.steps) ∙ lives in
    let none = unreported s.over told r.steps past (ap (λ (t : State). t.over) r.state_is ∙ lives) r.report_is in
    record {
      steps = Does a taken ∷ r.steps;
      run = run;
      state_is = e ∙ ap (acted a taken) same;
      report_is = subst (λ (t : State). Reports t.over (noted_by deed (decided plan s) told) (Does a taken ∷ r.steps) (entry_of a taken ∷ past)) (sym (e ∙ ap (acted a taken) same))
          (subst (λ (t : State). Reports (acted a taken (decided plan (state plan r.steps))).over (noted_by deed t told) (Does a taken ∷ r.steps) (entry_of a taken ∷ past)) (sym same)
          (deed_reported c plan past r.steps room (spoken_in d.todo) deed taken told r.run goes_on
          (λ x is. deed_ending c plan (decided plan (state plan r.steps)) room x (subst (DoesNext c plan (decided plan (state plan r.steps)) room) is n)) none));
      known_is = known_call k (entry_of a taken) past (acted_call a taken) r.known_is;
      untils_are = r.untils_are;
    }

lives_or_ended : (c : Codecs) (plan : CarPlan) (past : List Entry) (w : Judged) (steps : List Step) → ((state plan (Reads w ∷ steps)).over ≡ false) ⊎ IsEndedBy (Reads w ∷ steps) → (state plan (Reads w ∷ steps)).over ≡ false
lives_or_ended c plan past w steps (inl lives) = lives
lives_or_ended c plan past w steps (inr ended) = let f : Reads w ∷ steps ≡ Does (does.End ended.cause) ended.taken ∷ ended.earlier = ended.is in cc

pub reads_run : (c : Codecs) (plan : CarPlan) (k : Known) (s new : State) (told : Option Report) (past : List Entry) → ReadsNext c plan (decided plan s) new → InRun c plan k s told past → InRun c plan k new told past
reads_run c plan k s new told past n r =
    let same : decided plan s ≡ decided plan (state plan r.steps) = ap (decided plan) r.state_is in
    let may : MayRead c plan (state plan r.steps) n.word =
    subst (λ (t : State). IsRead c plan (wanted t) n.word) same (subst (λ (o : Option Payload). IsRead c plan o n.word) (sym n.wanted_is) n.judges) in
    let run : IsRun c plan past (Reads n.word ∷ r.steps) = (r.run, may) in
    let state_is : new ≡ state plan (Reads n.word ∷ r.steps) = n.new_is ∙ ap (λ (t : State). read plan t n.word) same in
    let before = before_step c plan past (Reads n.word) r.steps run in
    let after = lives_or_ended c plan past n.word r.steps (over_or_end c plan past (Reads n.word ∷ r.steps) run) in
    record {
      steps = Reads n.word ∷ r.steps;
      run = run;
      state_is = state_is;
      report_is = still_unreported new.over told (Reads n.word ∷ r.steps) past (ap (λ (t : State). t.over) state_is ∙ after) (unreported s.over told r.steps past (ap (λ (t : State). t.over) r.state_is ∙ before) r.report_is);
      known_is = r.known_is;
      untils_are = r.untils_are;
    }

-- a quiet car stays
pub rests_same : (plan : CarPlan) (s new : State) → IsQuiet plan s → new ≡ decided plan s → new ≡ s
rests_same plan s new q e = e ∙ stays plan s q

-- the same with what was reported before
pub rests_run : (c : Codecs) (plan : CarPlan) (k : Known) (s new : State) (told later : Option Report) (past : List Entry) → IsQuiet plan s → new ≡ decided plan s → later ≡ told → InRun c plan k s told past → InRun c plan k new later past
rests_run c plan k s new told later past q e l r =
    subst (λ (t : State). InRun c plan k t later past) (sym (rests_same plan s new q e)) (subst (λ (o : Option Report). InRun c plan k s o past) (sym l) r)

pub read_run : (c : Codecs) (plan : CarPlan) (k : Known) (s new : State) (told later : Option Report) (past : List Entry) → ReadsNext c plan (decided plan s) new → later ≡ told → InRun c plan k s told past → InRun c plan k new later past
read_run c plan k s new told later past n l r = subst (λ (o : Option Report). InRun c plan k new o past) (sym l) (reads_run c plan k s new told past n r)

pub deed_run : (c : Codecs) (plan : CarPlan) (k : Known) (s mid new : State) (told told_mid later : Option Report) (past : List Entry) (room : List ℕ) (deed : Deed) (taken : Bool) (d : DoesNext c plan (decided plan s) room deed) → MayTake deed taken → mid ≡ decided plan s → told_mid ≡ told
    → new ≡ acted (act_of room (spoken_in d.todo) deed) taken mid → later ≡ noted_by deed mid told_mid → InRun c plan k s told past → InRun c plan k new later (entry_of (act_of room (spoken_in d.todo) deed) taken ∷ past)
deed_run c plan k s mid new told told_mid later past room deed taken d m mid_is told_is new_is later_is r =
    let e : new ≡ acted (act_of room (spoken_in d.todo) deed) taken (decided plan s) = new_is ∙ ap (acted (act_of room (spoken_in d.todo) deed) taken) mid_is in
    let l : later ≡ noted_by deed (decided plan s) told = later_is ∙ ap (λ (t : State). noted_by deed t told_mid) mid_is ∙ ap (noted_by deed (decided plan s)) told_is in
    subst (λ (o : Option Report). InRun c plan k new o (entry_of (act_of room (spoken_in d.todo) deed) taken ∷ past)) (sym l) (does_run c plan k s told past room deed taken new d m e r)

-- it stays sound, and less is left
pub read_sounds : (c : Codecs) (plan : CarPlan) (s new : State) → ChoosesOffered c.Responds → IsPlan plan → IsSound plan s → ReadsNext c plan (decided plan s) new → IsSound plan new
read_sounds c plan s new chooses p h n =
    subst (IsSound plan) (sym n.new_is) (read_sound c plan (decided plan s) n.payload.dialect n.payload.bytes n.word chooses p n.judges (decided_sound plan s p h))

pub deed_sound : (c : Codecs) (plan : CarPlan) (s mid new : State) (room : List ℕ) (deed : Deed) (taken : Bool) (d : DoesNext c plan (decided plan s) room deed) → IsPlan plan → IsSound plan s → mid ≡ decided plan s → new ≡ acted (act_of room (spoken_in d.todo) deed) taken mid → IsSound plan new
deed_sound c plan s mid new room deed taken d p h mid_is new_is =
    subst (IsSound plan) (sym (new_is ∙ ap (acted (act_of room (spoken_in d.todo) deed) taken) mid_is)) (acted_sound plan (act_of room (spoken_in d.todo) deed) taken (decided plan s) d.todo d.first_is (decided_sound plan s p h))

pub rests_sound : (plan : CarPlan) (s new : State) → IsSound plan s → IsQuiet plan s → new ≡ decided plan s → IsSound plan new
rests_sound plan s new h q e = subst (IsSound plan) (sym (rests_same plan s new q e)) h

pub rests_quiet : (plan : CarPlan) (s new : State) → IsQuiet plan s → new ≡ decided plan s → IsQuiet plan new
rests_quiet plan s new q e = subst (IsQuiet plan) (sym (rests_same plan s new q e)) q

pub read_work : (c : Codecs) (plan : CarPlan) (s new : State) → WordsLessen → IsPlan plan → ReadsNext c plan (decided plan s) new → work plan new < work plan s
read_work c plan s new law p n = subst (λ (t : State). work plan t < work plan s) (sym n.new_is) (law plan s n.payload n.word p.rules n.wanted_is)

pub deed_work : (c : Codecs) (plan : CarPlan) (s mid new : State) (room : List ℕ) (deed : Deed) (taken : Bool) (d : DoesNext c plan (decided plan s) room deed) → ActsLessen c → IsPlan plan → IsSound plan s → MayTake deed taken → mid ≡ decided plan s
    → new ≡ acted (act_of room (spoken_in d.todo) deed) taken mid → work plan new < work plan s
deed_work c plan s mid new room deed taken d law p h m mid_is new_is =
    subst (λ (t : State). work plan t < work plan s) (sym (new_is ∙ ap (acted (act_of room (spoken_in d.todo) deed) taken) mid_is))
    (law plan s (act_of room (spoken_in d.todo) deed) taken (busy_lives plan (decided plan s) d.todo (decided plan s).over refl d.first_is (decided_sound plan s p h)) (may_act c plan s room deed taken d m))
