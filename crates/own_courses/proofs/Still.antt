-- A hearing that brings no bytes leaves no word to be read, whatever its post does then.
use Rattle.std.proofs.Common.{◌≡◌, ℕ, zero, suc, ◌+◌, Bool, true, false, if◌then◌else◌, List, [], ◌∷◌, drop, length, map, Some, refl, ap, subst, ◌∙◌, arith}
use Rattle.charge_world.specs.declared.ports.Order.TheVariants as order
use Rattle.session_words.specs.declared.plan.PostPlan.{PostPlan}
use Rattle.post_spec.specs.Codecs.{Codecs}
use Rattle.post_spec.specs.Sessions.{arriving, stream, brought, replies, waits}
use Rattle.post_spec.specs.Steps.{Event, Came, Bytes, Gone, Datagram, Plant, Clock, Over, Act, Give, Send, Answer, End, Seen, Heard, Did, Step, Hears, Does, seen_of}
use Rattle.post_spec.specs.Words.{HeardWord, Words, next_words}
use Rattle.read_runs.specs.Facts.{newest_event}
use Rattle.own_traces.specs.Words.{NoneIsNext}
use Rattle.standing_causes_open.proofs.Coming.{act_before}
use Rattle.own_traces.proofs.Opening.{All, acted_all}

none_more : (n : ℕ) (ws : List HeardWord) → drop n ws ≡ [] → drop (suc n) ws ≡ []
none_more zero [] h = refl
none_more zero (w ∷ ws) h = cc
none_more (suc n) [] h = refl
none_more (suc n) (w ∷ ws) h = none_more n ws h

none_one : (n : ℕ) (ws : List HeardWord) → drop n ws ≡ [] → drop (n + 1) ws ≡ []
none_one n ws h =
    let e : n + 1 ≡ suc n = omega arith in
    ap (λ (i : ℕ). drop i ws) e ∙ none_more n ws h

closing : (n : ℕ) (ws : List HeardWord) (b : Bool) → drop (if b then n + 1 else n) ws ≡ [] → drop (n + 1) ws ≡ []
closing n ws true h = h
closing n ws false h = none_one n ws h

replying : (n : ℕ) (ws : List HeardWord) (b : Bool) → drop (if b then n + 1 else n) ws ≡ [] → drop (suc n) ws ≡ []
replying n ws true h =
    let e : suc n ≡ n + 1 = omega arith in
    ap (λ (i : ℕ). drop i ws) e ∙ h
replying n ws false h = none_more n ws h

act_none : (a : Act) (taken : Bool) (zs : List Seen) (ws : List HeardWord) → next_words zs ws ≡ [] → next_words (Did a taken ∷ zs) ws ≡ []
act_none (Give order.Open) taken zs ws h = h
act_none (Give order.Close) true zs ws h = closing (length (replies zs)) ws (waits zs) h
act_none (Give order.Close) false zs ws h = h
act_none (Give (order.Limits voltage current watts)) taken zs ws h = h
act_none (Send bytes) taken zs ws h = replying (length (replies zs)) ws (waits zs) h
act_none (Answer bytes) taken zs ws h = h
act_none (End cause) taken zs ws h = h

pub none_still : (c : Codecs) (plan : PostPlan) (steps : List Step) → All c plan steps → brought (newest_event (map seen_of steps)) ≡ [] → NoneIsNext c plan (map seen_of steps)
none_still c plan [] all h = λ es ws l w. cc
none_still c plan (Hears at e ∷ steps) all h = all.laws.read.2 h
none_still c plan (Does r a taken ∷ steps) all h = λ es ws l w.
    let b = act_before plan r a taken steps es l in
    let before = none_still c plan steps (acted_all c plan r a taken steps all) h in
    let here : Words c plan.dialects.items (stream (Did a taken ∷ b.0)) ws = subst (λ (us : List Seen). Words c plan.dialects.items (stream us) ws) b.2 w in
    ap (λ (us : List Seen). next_words us ws) b.2 ∙ act_none a taken b.0 ws (before b.0 ws b.1 here)

came_quiet : (at : ℕ) (e : Event) (came : Seen) → arriving (Heard at e ∷ []) ≡ Some came → brought e ≡ []
came_quiet at (Came token) came h = refl
came_quiet at (Bytes bytes) came h = cc
came_quiet at Gone came h = refl
came_quiet at (Datagram bytes) came h = refl
came_quiet at (Plant event) came h = refl
came_quiet at Clock came h = refl
came_quiet at Over came h = refl

pub arriving_quiet : (past : List Seen) (came : Seen) → arriving past ≡ Some came → brought (newest_event past) ≡ []
arriving_quiet [] came h = cc
arriving_quiet (Heard at e ∷ past) came h = came_quiet at e came h
arriving_quiet (Did a taken ∷ past) came h = arriving_quiet past came h
