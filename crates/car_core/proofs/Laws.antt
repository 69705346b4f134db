-- A run of a car, whole or cut, is lawful.
use Rattle.std.proofs.Common.{◌≡◌, ℕ, Bool, true, false, not, ◌&&◌, List, [], ◌∷◌, ◌++◌, refl, sym, ap, subst, ◌∙◌}
use Rattle.charge_world.specs.declared.entry.Entry.{Entry}
use Rattle.charge_world.specs.declared.entry.Entry.TheVariants as entry
use Rattle.charge_world.specs.declared.ports.Order.TheVariants as order
use Rattle.session_words.specs.declared.plan.CarPlan.{CarPlan}
use Rattle.car_spec.specs.Acting.{state}
use Rattle.car_spec.specs.Codecs.{Codecs}
use Rattle.car_spec.specs.Mandated.{ClosesMandated}
use Rattle.car_spec.specs.Next.{IsQuiet}
use Rattle.car_spec.specs.Report.{Report}
use Rattle.car_spec.specs.Runs.{IsRun, Closes, IsEnded}
use Rattle.car_spec.specs.Steps.{Act, Seek, Dial, Give, Say, End, Step, Hears, Loses, Reads, Does, entry_of}
use Rattle.car_laws.specs.Closing.{RunsCloseByWords}
use Rattle.car_laws.specs.Contactor.{live, closed, failed_open, RunsKeepLive}
use Rattle.car_laws.specs.Opening.{RunsEndOpen}
use Rattle.car_laws.specs.Readings.{RunsKeepReadings}
use Rattle.car_laws.specs.Silence.{RunsStopAtTheEnd}
use Rattle.car_laws.proofs.Opening.{closed_live}
use Rattle.car_closings.proofs.Closes.{one_more}
use Rattle.car_turns.specs.declared.ending.Ended.{Ended}
use Rattle.car_turns.specs.declared.ending.Ended.TheVariants as ended
use Rattle.car_turns.specs.Ending.{ClosesAs, RestsAs, IsDriven}
use Rattle.car_core.specs.Lawful.{has_ended, IsSilent, IsLawful}

-- what holds of every run of a car
pub record AreLawful (c : Codecs) : Type 0 where
  pub by_words : RunsCloseByWords c
  pub by_bytes : (plan : CarPlan) (past : List Entry) (steps : List Step) → IsRun c plan past steps → ClosesMandated c plan past
  pub live : RunsKeepLive c
  pub stops : RunsStopAtTheEnd c
  pub keeps : RunsKeepReadings c
  pub ends_open : RunsEndOpen c

-- what was done before is a run too
earlier_run : (c : Codecs) (plan : CarPlan) (past : List Entry) (behind steps : List Step) → IsRun c plan past (behind ++ steps) → (earlier : List Entry) × IsRun c plan earlier steps
earlier_run c plan past [] steps r = (past, r)
earlier_run c plan past (Hears at event ∷ behind) steps r = earlier_run c plan r.0 behind steps r.1
earlier_run c plan past (Loses ∷ behind) steps r = earlier_run c plan r.0 behind steps r.1
earlier_run c plan past (Reads word ∷ behind) steps r = earlier_run c plan past behind steps r.0
earlier_run c plan past (Does act taken ∷ behind) steps r = earlier_run c plan r.0 behind steps r.1

-- ---- the end

-- a car that didn't end has no entry that says so
acted_ended : (a : Act) (taken : Bool) (plan : CarPlan) (steps : List Step) (past : List Entry) → has_ended past ≡ false
    → (state plan (Does a taken ∷ steps)).over ≡ false → has_ended (entry_of a taken ∷ past) ≡ false
acted_ended (Seek d) taken plan steps past h o = h
acted_ended (Dial port) taken plan steps past h o = h
acted_ended (Give order) taken plan steps past h o = h
acted_ended (Say spoken bytes) taken plan steps past h o = h
acted_ended (End cause) taken plan steps past h o = let x : true ≡ false = o in cc

not_ended : (c : Codecs) → RunsStopAtTheEnd c → (plan : CarPlan) (past : List Entry) (steps : List Step) → IsRun c plan past steps
    → (state plan steps).over ≡ false → has_ended past ≡ false
not_ended c law plan past [] r o = ap has_ended r
not_ended c law plan past (Hears at e ∷ steps) r o =
    ap has_ended r.3.past_is ∙ not_ended c law plan r.0 steps r.1 (law plan past (Hears at e) steps r)
not_ended c law plan past (Loses ∷ steps) r o = ap has_ended r.3 ∙ not_ended c law plan r.0 steps r.1 (law plan past Loses steps r)
not_ended c law plan past (Reads w ∷ steps) r o = not_ended c law plan past steps r.0 (law plan past (Reads w) steps r)
not_ended c law plan past (Does a taken ∷ steps) r o =
    ap has_ended r.3 ∙ acted_ended a taken plan steps r.0 (not_ended c law plan r.0 steps r.1 (law plan past (Does a taken) steps r)) o

silent : (c : Codecs) → RunsStopAtTheEnd c → (plan : CarPlan) (past : List Entry) (steps : List Step) → IsRun c plan past steps → IsSilent past
silent c law plan past [] r = subst IsSilent (sym r) tt
silent c law plan past (Hears at e ∷ steps) r =
    subst IsSilent (sym r.3.past_is) (not_ended c law plan r.0 steps r.1 (law plan past (Hears at e) steps r))
silent c law plan past (Loses ∷ steps) r = subst IsSilent (sym r.3) (not_ended c law plan r.0 steps r.1 (law plan past Loses steps r))
silent c law plan past (Reads w ∷ steps) r = silent c law plan past steps r.0
silent c law plan past (Does a taken ∷ steps) r =
    subst IsSilent (sym r.3) (not_ended c law plan r.0 steps r.1 (law plan past (Does a taken) steps r))

-- ---- the order that closes a cut run

closing : (alive : Bool) (blocks past : List Entry) → Closes alive blocks past → (alive ≡ false → closed blocks ≡ true → ⊥)
    → closed past ≡ true → failed_open past ≡ true
closing false blocks past k dead h = absurd (dead refl (sym (ap closed k) ∙ h))
closing true blocks past (true, e) dead h = let x : false ≡ true = sym (ap closed e) ∙ h in cc
closing true blocks past (false, e) dead h = ap failed_open e

-- and it is no Close
opened_too : (c : Codecs) (plan : CarPlan) (due : Bool) (blocks past : List Entry) → Closes due blocks past → ClosesMandated c plan blocks → ClosesMandated c plan past
opened_too c plan false blocks past k m = subst (ClosesMandated c plan) (sym k) m
opened_too c plan true blocks past (taken, e) m = subst (ClosesMandated c plan) (sym e)
    (one_more c plan (entry.Drove 1 order.Open taken) blocks (λ post given h. (let x : order.Open ≡ order.Close = cc in cc)) m)

-- ---- runs

lawful : (c : Codecs) → AreLawful c → (plan : CarPlan) (blocks past : List Entry) (steps : List Step) → IsRun c plan blocks steps
    → ClosesMandated c plan past → (closed past ≡ true → failed_open past ≡ true) → IsLawful c plan steps blocks past
lawful c laws plan blocks past steps run mandated opens = record {
  by_words = λ behind earlier taken e.
      (let r = earlier_run c plan blocks behind (Does (Give order.Close) taken ∷ earlier) (subst (IsRun c plan blocks) e run) in laws.by_words plan r.0 earlier taken r.1);
  mandated = mandated;
  live_is = laws.live plan blocks steps run;
  stops = λ behind earlier step e. (let r = earlier_run c plan blocks behind (step ∷ earlier) (subst (IsRun c plan blocks) e run) in laws.stops plan r.0 step earlier r.1);
  silent = silent c laws.stops plan blocks steps run;
  keeps = λ session e. laws.keeps plan blocks steps session run e;
  ends_open = opens;
}

whole : (c : Codecs) → AreLawful c → (plan : CarPlan) (blocks past : List Entry) (steps : List Step) → IsRun c plan blocks steps
    → IsQuiet plan (state plan steps) × IsEnded plan blocks (state plan steps)
    → Closes ((state plan steps).live && not (state plan steps).over) blocks past → IsLawful c plan steps blocks past
whole c laws plan blocks past steps run rests closes = lawful c laws plan blocks past steps run
    (opened_too c plan ((state plan steps).live && not (state plan steps).over) blocks past closes (laws.by_bytes plan blocks steps run))
    (laws.ends_open plan past (record { blocks = blocks; steps = steps; run = run; whole = rests.0; ended = rests.1; closes = closes }))

cut : (c : Codecs) → AreLawful c → (plan : CarPlan) (blocks past : List Entry) (steps : List Step) → IsRun c plan blocks steps
    → Closes (state plan steps).live blocks past → IsLawful c plan steps blocks past
cut c laws plan blocks past steps run closes =
    let kept : (state plan steps).live ≡ live blocks = laws.live plan blocks steps run in
    lawful c laws plan blocks past steps run (opened_too c plan (state plan steps).live blocks past closes (laws.by_bytes plan blocks steps run))
    (closing (state plan steps).live blocks past closes (λ dead h. let x : true ≡ false = sym (closed_live blocks h) ∙ sym kept ∙ dead in cc))

by_end : (c : Codecs) → AreLawful c → (plan : CarPlan) (how : Ended) (blocks past : List Entry) (steps : List Step) → IsRun c plan blocks steps
    → RestsAs how plan blocks (state plan steps) → ClosesAs how (state plan steps) blocks past → IsLawful c plan steps blocks past
by_end c laws plan ended.Over blocks past steps run rests closes = whole c laws plan blocks past steps run rests closes
by_end c laws plan ended.Lost blocks past steps run rests closes = whole c laws plan blocks past steps run rests closes
by_end c laws plan ended.TraceFault blocks past steps run rests closes = cut c laws plan blocks past steps run closes
by_end c laws plan ended.Turns blocks past steps run rests closes = whole c laws plan blocks past steps run rests closes
by_end c laws plan ended.Finished blocks past steps run rests closes = whole c laws plan blocks past steps run rests closes

-- however driving ended
pub driven_lawful : (c : Codecs) → AreLawful c → (plan : CarPlan) (how : Ended) (before after : List ℕ) (told : Report) (past : List Entry)
    → (driven : IsDriven c plan how before after told past) → IsLawful c plan driven.steps driven.blocks past
driven_lawful c laws plan how before after told past d = by_end c laws plan how d.blocks past d.steps d.run d.rests d.closes
