-- Each order to close in a past of a run is mandated by the past before it.
use Rattle.std.proofs.Common.{◌≡◌, ℕ, Bool, List, [], ◌∷◌, ◌++◌, refl, sym, ap, subst}
use Rattle.charge_world.specs.declared.entry.Entry.{Entry}
use Rattle.charge_world.specs.declared.entry.Entry.TheVariants as entry
use Rattle.charge_world.specs.declared.ports.Order.TheVariants as order
use Rattle.session_words.specs.declared.plan.CarPlan.{CarPlan}
use Rattle.car_spec.specs.Acting.{state}
use Rattle.car_spec.specs.Codecs.{Codecs}
use Rattle.car_spec.specs.Mandated.{CarMandated, ClosesMandated}
use Rattle.car_spec.specs.Next.{MayAct}
use Rattle.car_spec.specs.Runs.{IsRun}
use Rattle.car_spec.specs.Spelled.{ReadsBack, AreDetermined}
use Rattle.car_spec.specs.Steps.{Act, Seek, Dial, Give, Say, End, Step, Hears, Loses, Reads, Does, entry_of}
use Rattle.car_closings.specs.Closing.{RunsCloseByBytes}
use Rattle.car_closings.proofs.Mandates.{close_mandated}

-- one entry more
abbrev IsMandatedAt : Codecs → CarPlan → Entry → List Entry → Type 0
IsMandatedAt c plan e past = (post : ℕ) (taken : Bool) → e ≡ entry.Drove post order.Close taken → CarMandated c plan past

pub one_more : (c : Codecs) (plan : CarPlan) (e : Entry) (past : List Entry) → IsMandatedAt c plan e past → ClosesMandated c plan past → ClosesMandated c plan (e ∷ past)
one_more c plan e past m k [] earlier post taken h =
    let x : e ≡ entry.Drove post order.Close taken = cc in
    let y : past ≡ earlier = cc in
    subst (CarMandated c plan) y (m post taken x)
one_more c plan e past m k (b ∷ behind) earlier post taken h = k behind earlier post taken (let y : past ≡ behind ++ entry.Drove post order.Close taken ∷ earlier = cc in y)

no_more : (c : Codecs) (plan : CarPlan) (e : Entry) (past earlier : List Entry) → past ≡ e ∷ earlier → ((post : ℕ) (taken : Bool) → e ≡ entry.Drove post order.Close taken → ⊥) → ClosesMandated c plan earlier → ClosesMandated c plan past
no_more c plan e past earlier is n k = subst (ClosesMandated c plan) (sym is) (one_more c plan e earlier (λ post taken h. absurd (n post taken h)) k)

-- of an act
act_mandated : (c : Codecs) (plan : CarPlan) (a : Act) (taken : Bool) (past : List Entry) → (a ≡ Give order.Close → CarMandated c plan past) → IsMandatedAt c plan (entry_of a taken) past
act_mandated c plan (Seek d) taken past m post t h = cc
act_mandated c plan (Dial port) taken past m post t h = cc
act_mandated c plan (Give o) taken past m post t h = m (let x : o ≡ order.Close = cc in ap Give x)
act_mandated c plan (Say spoken bytes) taken past m post t h = cc
act_mandated c plan (End cause) taken past m post t h = cc

none_closes : (c : Codecs) (plan : CarPlan) → ClosesMandated c plan []
none_closes c plan [] earlier post taken h = cc
none_closes c plan (b ∷ behind) earlier post taken h = cc

closes : (c : Codecs) → ReadsBack c → AreDetermined c → (plan : CarPlan) (past : List Entry) (steps : List Step) → IsRun c plan past steps → ClosesMandated c plan past
closes c back det plan past [] r = subst (ClosesMandated c plan) (sym r) (none_closes c plan)
closes c back det plan past (Hears at e ∷ steps) r = no_more c plan (entry.Heard r.3.heard r.3.bytes) past r.0 r.3.past_is (λ post taken h. cc) (closes c back det plan r.0 steps r.1)
closes c back det plan past (Loses ∷ steps) r = no_more c plan entry.Lost past r.0 r.3 (λ post taken h. cc) (closes c back det plan r.0 steps r.1)
closes c back det plan past (Reads w ∷ steps) r = closes c back det plan past steps r.0
closes c back det plan past (Does a taken ∷ steps) r =
    subst (ClosesMandated c plan) (sym r.3) (one_more c plan (entry_of a taken) r.0
    (act_mandated c plan a taken r.0 (λ e. close_mandated c back det plan (entry_of (Give order.Close) taken ∷ r.0) steps taken
    (r.0, r.1, subst (λ (x : Act). MayAct c plan (state plan steps) x taken) e r.2, refl)))
    (closes c back det plan r.0 steps r.1))

pub closes_by_bytes : (c : Codecs) → RunsCloseByBytes c
closes_by_bytes c = λ back det plan past steps r. closes c back det plan past steps r
