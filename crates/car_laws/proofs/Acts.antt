-- In every run, where a car is to end, Open is still to be ordered, or isn't needed, or failed.
use Rattle.std.proofs.Common.{◌≡◌, ℕ, Bool, true, false, List, [], ◌∷◌, Option, Some, None, sym, ap, subst, inl, inr}
use Rattle.charge_world.specs.declared.entry.Entry.{Entry}
use Rattle.charge_world.specs.declared.ports.Order.{Order}
use Rattle.charge_world.specs.declared.ports.Order.TheVariants as order
use Rattle.session_words.specs.declared.cause.EndCause.{EndCause}
use Rattle.session_words.specs.declared.cause.EndCause.TheVariants.{OrderFailed, SendFailed}
use Rattle.session_words.specs.declared.plan.CarPlan.{CarPlan}
use Rattle.station_spec.specs.Acting.{live_ordered}
use Rattle.car_spec.specs.Codecs.{Codecs}
use Rattle.car_spec.specs.Steps.{Spoken, Act, Step, Hears, Loses, Reads, Does, entry_of}
use Rattle.car_spec.specs.States.{Agenda, State, first_of, first}
use Rattle.car_spec.specs.States as states
use Rattle.car_spec.specs.Deciding.{decided}
use Rattle.car_spec.specs.Acting.{failing, acted, state}
use Rattle.car_spec.specs.Next.{IsDone, IsSaid, MayAct}
use Rattle.car_spec.specs.Runs.{IsRun}
use Rattle.car_laws.specs.Contactor.{failed_behind, failed_open}
use Rattle.car_laws.proofs.Agendas.{OpensBy, Opens, StateOpens, ending_opens, decided_opens, read_opens}

-- an order that is done first
gave : (e : Option EndCause) (p : Option ℕ) (sp : Option Spoken) (o : Option Order) (seeks l f : Bool) (given : Order) → first_of p o sp e seeks ≡ Some (states.Drive given)
    → OpensBy e p sp o l f → OpensBy e p sp None (live_ordered given true l) (failed_behind given true f)
gave None p sp o seeks l f given h k = tt
gave (Some c) (Some port) sp o seeks l f given h k = absurd k
gave (Some c) None (Some said) o seeks l f given h k = absurd k
gave (Some c) None None (Some order.Open) seeks l f given h k =
    let g : given ≡ order.Open = cc in inl (ap (λ (x : Order). live_ordered x true l) g)
gave (Some c) None None (Some order.Close) seeks l f given h k = absurd k
gave (Some c) None None (Some (order.Limits v a w)) seeks l f given h k = absurd k
gave (Some c) None None None seeks l f given h k = cc

failed_to_give : (e : Option EndCause) (p : Option ℕ) (sp : Option Spoken) (o : Option Order) (seeks l m f : Bool) (given : Order) → first_of p o sp e seeks ≡ Some (states.Drive given)
    → OpensBy e p sp o l f → Opens (failing e OrderFailed m) m (failed_behind given false f)
failed_to_give None p sp o seeks l m f given h k = ending_opens OrderFailed m _
failed_to_give (Some c) (Some port) sp o seeks l m f given h k = absurd k
failed_to_give (Some c) None (Some said) o seeks l m f given h k = absurd k
failed_to_give (Some c) None None (Some order.Open) seeks l m f given h k =
    let g : given ≡ order.Open = cc in inr (ap (λ (x : Order). failed_behind x false f) g)
failed_to_give (Some c) None None (Some order.Close) seeks l m f given h k = absurd k
failed_to_give (Some c) None None (Some (order.Limits v a w)) seeks l m f given h k = absurd k
failed_to_give (Some c) None None None seeks l m f given h k = cc

-- a post that is dialed first
called : (e : Option EndCause) (p : Option ℕ) (sp : Option Spoken) (o : Option Order) (l f : Bool) → OpensBy e p sp o l f → OpensBy e None sp o l f
called None p sp o l f k = tt
called (Some c) (Some port) sp o l f k = absurd k
called (Some c) None sp o l f k = k

failed_to_call : (e : Option EndCause) (p : Option ℕ) (sp : Option Spoken) (o : Option Order) (seeks l f : Bool) (port : ℕ) → first_of p o sp e seeks ≡ Some (states.Call port)
    → OpensBy e p sp o l f → Opens (failing e SendFailed l) l f
failed_to_call None p sp o seeks l f port h k = ending_opens SendFailed l f
failed_to_call (Some c) (Some q) sp o seeks l f port h k = absurd k
failed_to_call (Some c) None (Some said) o seeks l f port h k = absurd k
failed_to_call (Some c) None None (Some given) seeks l f port h k = cc
failed_to_call (Some c) None None None seeks l f port h k = cc

-- something that is said first
spoke : (e : Option EndCause) (p : Option ℕ) (sp : Option Spoken) (o : Option Order) (l f : Bool) → OpensBy e p sp o l f → OpensBy e p None o l f
spoke None p sp o l f k = tt
spoke (Some c) (Some port) sp o l f k = absurd k
spoke (Some c) None (Some said) o l f k = absurd k
spoke (Some c) None None o l f k = k

failed_to_speak : (e : Option EndCause) (p : Option ℕ) (sp : Option Spoken) (o : Option Order) (seeks l f : Bool) (said : Spoken) → first_of p o sp e seeks ≡ Some (states.Speak said)
    → OpensBy e p sp o l f → Opens (failing e SendFailed l) l f
failed_to_speak None p sp o seeks l f said h k = ending_opens SendFailed l f
failed_to_speak (Some c) (Some q) sp o seeks l f said h k = absurd k
failed_to_speak (Some c) None (Some other) o seeks l f said h k = absurd k
failed_to_speak (Some c) None None (Some given) seeks l f said h k = cc
failed_to_speak (Some c) None None None seeks l f said h k = cc

-- what is done first is that act
acted_opens : (c : Codecs) (plan : CarPlan) (todo : states.Todo) (a : Act) (taken : Bool) (s : State) (past : List Entry) → first s.agenda ≡ Some todo → IsDone c plan todo a taken
    → StateOpens (failed_open past) s → StateOpens (failed_open (entry_of a taken ∷ past)) (acted a taken s)
acted_opens c plan (states.Call port) a true s past h d k = subst (λ (x : Act). StateOpens (failed_open (entry_of x true ∷ past)) (acted x true s)) (sym d)
    (called s.agenda.ending s.agenda.port s.agenda.spoken s.agenda.order s.live (failed_open past) k)
acted_opens c plan (states.Call port) a false s past h d k = subst (λ (x : Act). StateOpens (failed_open (entry_of x false ∷ past)) (acted x false s)) (sym d)
    (failed_to_call s.agenda.ending s.agenda.port s.agenda.spoken s.agenda.order s.agenda.seeks s.live (failed_open past) port h k)
acted_opens c plan (states.Drive o) a true s past h d k = subst (λ (x : Act). StateOpens (failed_open (entry_of x true ∷ past)) (acted x true s)) (sym d)
    (gave s.agenda.ending s.agenda.port s.agenda.spoken s.agenda.order s.agenda.seeks s.live (failed_open past) o h k)
acted_opens c plan (states.Drive o) a false s past h d k = subst (λ (x : Act). StateOpens (failed_open (entry_of x false ∷ past)) (acted x false s)) (sym d)
    (failed_to_give s.agenda.ending s.agenda.port s.agenda.spoken s.agenda.order s.agenda.seeks s.live (live_ordered o false s.live) (failed_open past) o h k)
acted_opens c plan (states.Speak said) a true s past h d k = let i : IsSaid c plan said a = d in subst (λ (x : Act). StateOpens (failed_open (entry_of x true ∷ past)) (acted x true s)) (sym i.act_is)
    (spoke s.agenda.ending s.agenda.port s.agenda.spoken s.agenda.order s.live (failed_open past) k)
acted_opens c plan (states.Speak said) a false s past h d k = let i : IsSaid c plan said a = d in subst (λ (x : Act). StateOpens (failed_open (entry_of x false ∷ past)) (acted x false s)) (sym i.act_is)
    (failed_to_speak s.agenda.ending s.agenda.port s.agenda.spoken s.agenda.order s.agenda.seeks s.live (failed_open past) said h k)
acted_opens c plan (states.Finish cause) a taken s past h d k = subst (λ (x : Act). StateOpens (failed_open (entry_of x taken ∷ past)) (acted x taken s)) (sym d.0) tt
acted_opens c plan states.Inquire a taken s past h d k = subst (λ (x : Act). StateOpens (failed_open (entry_of x taken ∷ past)) (acted x taken s)) (sym d) k

pub run_opens : (c : Codecs) (plan : CarPlan) (past : List Entry) (steps : List Step) → IsRun c plan past steps → StateOpens (failed_open past) (state plan steps)
run_opens c plan past [] r = tt
run_opens c plan past (Hears at e ∷ steps) r = tt
run_opens c plan past (Loses ∷ steps) r = subst (λ (p : List Entry). StateOpens (failed_open p) (state plan steps)) (sym r.3) (run_opens c plan r.0 steps r.1)
run_opens c plan past (Reads w ∷ steps) r =
    read_opens plan (decided plan (state plan steps)) w (failed_open past) (decided_opens plan (state plan steps) (failed_open past) (run_opens c plan past steps r.0))
run_opens c plan past (Does a taken ∷ steps) r =
    let m : MayAct c plan (state plan steps) a taken = r.2 in
    subst (λ (p : List Entry). StateOpens (failed_open p) (acted a taken (decided plan (state plan steps)))) (sym r.3)
    (acted_opens c plan m.todo a taken (decided plan (state plan steps)) r.0 m.acts m.done
    (decided_opens plan (state plan steps) (failed_open r.0) (run_opens c plan r.0 steps r.1)))
