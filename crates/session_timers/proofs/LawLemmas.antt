-- The moments that the deadlines keep are those of which the calls tell.
use Rattle.std.proofs.Common.{◌≡◌, ℕ, ◌+◌, ◌<◌, ◌≤◌, Bool, true, false, List, [], ◌∷◌, Option, Some, None, find, refl, sym, ap, ◌∙◌, arith, subst, min}
use Rattle.std.proofs.lemmas.Bool.Decides.{nat_tests}
use Rattle.session_words.specs.declared.cause.Timeout.{Timeout}
use Rattle.session_words.specs.declared.cause.Timeout.TheVariants.{Setup, Sequence, Feedback}
use Rattle.session_timers.specs.declared.deadlines.Last.{Last}
use Rattle.session_timers.specs.declared.deadlines.Last.TheVariants.{Nothing, Replied, Closing}
use Rattle.session_timers.specs.declared.deadlines.Deadline.{Deadline}
use Rattle.session_timers.specs.Due.{Call, came, set_up, replied, closing, stop, came_at, was_set_up, last_of, moments_of, due_after, due_in, due_of, never, reached, next_of, next_after}
use Rattle.session_timers.specs.Law.{is_border, is_of_setup, is_of_reply, IsDue, IsInOrder, IsReached, IsNoneBefore, IsHit, CountsFrom, span_of}

-- a session stands exactly where its moment is kept
pub border_came : (calls : List Call) (at : ℕ) → find is_border calls ≡ Some (came at) → came_at calls ≡ Some at
border_came [] at e = cc
border_came (came now ∷ before) at e = cc
border_came (set_up ∷ before) at e = border_came before at e
border_came (replied now ∷ before) at e = border_came before at e
border_came (closing now ∷ before) at e = border_came before at e
border_came (stop ∷ before) at e = cc

pub came_border : (calls : List Call) (at : ℕ) → came_at calls ≡ Some at → find is_border calls ≡ Some (came at)
came_border [] at e = cc
came_border (came now ∷ before) at e = cc
came_border (set_up ∷ before) at e = came_border before at e
came_border (replied now ∷ before) at e = came_border before at e
came_border (closing now ∷ before) at e = came_border before at e
came_border (stop ∷ before) at e = cc

-- SessionSetup is awaited from the moment that is kept, exactly while its acceptance isn't
pub record Awaits (calls : List Call) (at : ℕ) : Type 0 where
  pub since : came_at calls ≡ Some at
  pub still : was_set_up calls ≡ false

pub setup_awaits : (calls : List Call) (at : ℕ) → find is_of_setup calls ≡ Some (came at) → Awaits calls at
setup_awaits [] at e = cc
setup_awaits (came now ∷ before) at e = record { since = cc; still = refl }
setup_awaits (set_up ∷ before) at e = cc
setup_awaits (replied now ∷ before) at e = let h = setup_awaits before at e in record { since = h.since; still = h.still }
setup_awaits (closing now ∷ before) at e = let h = setup_awaits before at e in record { since = h.since; still = h.still }
setup_awaits (stop ∷ before) at e = cc

pub awaits_setup : (calls : List Call) (at : ℕ) → came_at calls ≡ Some at → was_set_up calls ≡ false → find is_of_setup calls ≡ Some (came at)
awaits_setup [] at e still = cc
awaits_setup (came now ∷ before) at e still = cc
awaits_setup (set_up ∷ before) at e still = cc
awaits_setup (replied now ∷ before) at e still = awaits_setup before at e still
awaits_setup (closing now ∷ before) at e still = awaits_setup before at e still
awaits_setup (stop ∷ before) at e still = cc

-- the last reply is the one that is kept, and so is the Close whose reply waits
pub reply_last : (calls : List Call) (at : ℕ) → find is_of_reply calls ≡ Some (replied at) → last_of calls ≡ Replied at
reply_last [] at e = cc
reply_last (came now ∷ before) at e = cc
reply_last (set_up ∷ before) at e = reply_last before at e
reply_last (replied now ∷ before) at e = cc
reply_last (closing now ∷ before) at e = cc
reply_last (stop ∷ before) at e = cc

pub last_reply : (calls : List Call) (at : ℕ) → last_of calls ≡ Replied at → find is_of_reply calls ≡ Some (replied at)
last_reply [] at e = cc
last_reply (came now ∷ before) at e = cc
last_reply (set_up ∷ before) at e = last_reply before at e
last_reply (replied now ∷ before) at e = cc
last_reply (closing now ∷ before) at e = cc
last_reply (stop ∷ before) at e = cc

pub close_last : (calls : List Call) (at : ℕ) → find is_of_reply calls ≡ Some (closing at) → last_of calls ≡ Closing at
close_last [] at e = cc
close_last (came now ∷ before) at e = cc
close_last (set_up ∷ before) at e = close_last before at e
close_last (replied now ∷ before) at e = cc
close_last (closing now ∷ before) at e = cc
close_last (stop ∷ before) at e = cc

pub last_close : (calls : List Call) (at : ℕ) → last_of calls ≡ Closing at → find is_of_reply calls ≡ Some (closing at)
last_close [] at e = cc
last_close (came now ∷ before) at e = cc
last_close (set_up ∷ before) at e = last_close before at e
last_close (replied now ∷ before) at e = cc
last_close (closing now ∷ before) at e = cc
last_close (stop ∷ before) at e = cc

-- where no wait for SessionSetup counts in a session, it was accepted
accepted_as : (calls : List Call) (at : ℕ) (b : Bool) → came_at calls ≡ Some at → was_set_up calls ≡ b → ((from : ℕ) → find is_of_setup calls ≡ Some (came from) → ⊥) → b ≡ true
accepted_as calls at true since e none = refl
accepted_as calls at false since e none = absurd (none at (awaits_setup calls at since e))

pub accepted : (calls : List Call) (at : ℕ) → came_at calls ≡ Some at → ((from : ℕ) → find is_of_setup calls ≡ Some (came from) → ⊥) → was_set_up calls ≡ true
accepted calls at since none = accepted_as calls at (was_set_up calls) since refl none

-- the deadline that the kept moments give is due by the calls
found_in : (calls : List Call) (o : Option ℕ) (b : Bool) (l : Last) → came_at calls ≡ o → was_set_up calls ≡ b → last_of calls ≡ l → (d : Deadline) → due_in o b l ≡ Some d → IsDue calls d.timeout d.moment
found_in calls None b l since set last d e = cc
found_in calls (Some at) false l since set last d e =
    let due : IsDue calls Setup (at + 18000) = record { from = at; counts = awaits_setup calls at since set; first = tt; sum = refl } in
    let same : (record { timeout = Setup; moment = at + 18000 }) ≡ d = cc in
    subst (λ (v : Deadline). IsDue calls v.timeout v.moment) same due
found_in calls (Some at) true Nothing since set last d e = cc
found_in calls (Some at) true (Replied from) since set last d e =
    let none : (m : ℕ) → find is_of_setup calls ≡ Some (came m) → ⊥ = λ m f. let h : Awaits calls m = setup_awaits calls m f in let s : was_set_up calls ≡ false = h.still in cc in
    let due : IsDue calls Sequence (from + 60000) = record { from = from; counts = ((at, came_border calls at since), last_reply calls from last); first = none; sum = refl } in
    let same : (record { timeout = Sequence; moment = from + 60000 }) ≡ d = cc in
    subst (λ (v : Deadline). IsDue calls v.timeout v.moment) same due
found_in calls (Some at) true (Closing from) since set last d e =
    let none : (m : ℕ) → find is_of_setup calls ≡ Some (came m) → ⊥ = λ m f. let h : Awaits calls m = setup_awaits calls m f in let s : was_set_up calls ≡ false = h.still in cc in
    let due : IsDue calls Feedback (from + 3000) = record { from = from; counts = ((at, came_border calls at since), last_close calls from last); first = none; sum = refl } in
    let same : (record { timeout = Feedback; moment = from + 3000 }) ≡ d = cc in
    subst (λ (v : Deadline). IsDue calls v.timeout v.moment) same due

pub due_found : (calls : List Call) (d : Deadline) → due_of (moments_of calls) ≡ Some d → IsDue calls d.timeout d.moment
due_found calls d e = found_in calls (came_at calls) (was_set_up calls) (last_of calls) refl refl refl d e

-- the deadline that is due by the calls is the one that the kept moments give
given_in : (o : Option ℕ) (b : Bool) (l : Last) (at : ℕ) → o ≡ Some at → b ≡ true → due_in o b l ≡ due_after l
given_in None b l at e t = cc
given_in (Some from) true l at e t = refl
given_in (Some from) false l at e t = cc

given_setup : (o : Option ℕ) (b : Bool) (l : Last) (at : ℕ) → o ≡ Some at → b ≡ false → due_in o b l ≡ Some (record { timeout = Setup; moment = at + 18000 })
given_setup None b l at e t = cc
given_setup (Some from) true l at e t = cc
given_setup (Some from) false l at e t = let s : from ≡ at = cc in ap (λ (n : ℕ). Some (record { timeout = Setup; moment = n + 18000 })) s

pub due_given : (calls : List Call) (t : Timeout) (moment : ℕ) → IsDue calls t moment → due_of (moments_of calls) ≡ Some (record { timeout = t; moment = moment })
due_given calls Setup moment h =
    let a : Awaits calls h.from = setup_awaits calls h.from h.counts in
    given_setup (came_at calls) (was_set_up calls) (last_of calls) h.from a.since a.still ∙ ap (λ (n : ℕ). Some (record { timeout = Setup; moment = n })) (sym h.sum)
due_given calls Sequence moment h =
    let since : came_at calls ≡ Some h.counts.0.0 = border_came calls h.counts.0.0 h.counts.0.1 in
    given_in (came_at calls) (was_set_up calls) (last_of calls) h.counts.0.0 since (accepted calls h.counts.0.0 since h.first)
    ∙ ap due_after (reply_last calls h.from h.counts.1) ∙ ap (λ (n : ℕ). Some (record { timeout = Sequence; moment = n })) (sym h.sum)
due_given calls Feedback moment h =
    let since : came_at calls ≡ Some h.counts.0.0 = border_came calls h.counts.0.0 h.counts.0.1 in
    given_in (came_at calls) (was_set_up calls) (last_of calls) h.counts.0.0 since (accepted calls h.counts.0.0 since h.first)
    ∙ ap due_after (close_last calls h.from h.counts.1) ∙ ap (λ (n : ℕ). Some (record { timeout = Feedback; moment = n })) (sym h.sum)

-- what is reached
pub record Reaches (o : Option Deadline) (now : ℕ) (t : Timeout) : Type 0 where
  pub moment : ℕ
  pub is : o ≡ Some (record { timeout = t; moment = moment })
  pub reached : moment ≤ now
  pub can_come : moment < never

pub reached_is : (o : Option Deadline) (now : ℕ) (t : Timeout) → reached o now ≡ Some t → Reaches o now t
reached_is None now t e = cc
reached_is (Some d) now t e =
    let h : (d.moment ≤ now) × (d.moment < never) × (d.timeout ≡ t) = grind (arith, nat_tests) in
    record { moment = d.moment; is = ap (λ (v : Timeout). Some (record d { timeout = v })) h.2; reached = h.0; can_come = h.1 }

pub is_reached : (now : ℕ) (t : Timeout) (moment : ℕ) → moment ≤ now → moment < never → reached (Some (record { timeout = t; moment = moment })) now ≡ Some t
is_reached now t moment h k = grind (arith, nat_tests)

-- in calls in order, the session's connection came by then
pub came_bound : (now : ℕ) (calls : List Call) (at : ℕ) → IsInOrder now calls → came_at calls ≡ Some at → at ≤ now
came_bound now [] at order e = cc
came_bound now (came from ∷ before) at order e = let same : from ≡ at = cc in let h : from ≤ now = order.0 in omega (arith, same, h)
came_bound now (set_up ∷ before) at order e = came_bound now before at order e
came_bound now (replied from ∷ before) at order e = let h : at ≤ from = came_bound from before at order.1 e in let k : from ≤ now = order.0 in omega (arith, h, k)
came_bound now (closing from ∷ before) at order e = let h : at ≤ from = came_bound from before at order.2 e in let k : from ≤ now = order.0 in omega (arith, h, k)
came_bound now (stop ∷ before) at order e = cc

-- and no later than the last reply
pub came_first : (now : ℕ) (calls : List Call) (at from : ℕ) → IsInOrder now calls → came_at calls ≡ Some at → last_of calls ≡ Replied from → at ≤ from
came_first now [] at from order e last = cc
came_first now (came then ∷ before) at from order e last = cc
came_first now (set_up ∷ before) at from order e last = came_first now before at from order e last
came_first now (replied then ∷ before) at from order e last = let same : then ≡ from = cc in let h : at ≤ then = came_bound then before at order.1 e in omega (arith, same, h)
came_first now (closing then ∷ before) at from order e last = cc
came_first now (stop ∷ before) at from order e last = cc

-- a Close is ordered only once SessionSetup was accepted
pub closing_accepted : (now : ℕ) (calls : List Call) (from : ℕ) → IsInOrder now calls → last_of calls ≡ Closing from → was_set_up calls ≡ true
closing_accepted now [] from order last = cc
closing_accepted now (came then ∷ before) from order last = cc
closing_accepted now (set_up ∷ before) from order last = refl
closing_accepted now (replied then ∷ before) from order last = cc
closing_accepted now (closing then ∷ before) from order last = order.1
closing_accepted now (stop ∷ before) from order last = cc

-- a deadline that is told was reached, and none before it
pub told_first : (calls : List Call) (now : ℕ) (t : Timeout) → IsHit calls now t → IsReached calls now t × IsNoneBefore calls now t
told_first calls now Setup h =
    let e : h.moment ≡ h.due.from + 18000 = h.due.sum in
    (record { from = h.due.from; counts = h.due.counts; reached = omega (arith, e, h.reached); can_come = omega (arith, e, h.can_come) }, tt)
told_first calls now Sequence h =
    let e : h.moment ≡ h.due.from + 60000 = h.due.sum in (
      record { from = h.due.from; counts = h.due.counts; reached = omega (arith, e, h.reached); can_come = omega (arith, e, h.can_come) },
      (λ r. h.due.first r.from r.counts),
    )
told_first calls now Feedback h =
    let e : h.moment ≡ h.due.from + 3000 = h.due.sum in
    let waits : find is_of_reply calls ≡ Some (closing h.due.from) = h.due.counts.1 in (
      record { from = h.due.from; counts = h.due.counts; reached = omega (arith, e, h.reached); can_come = omega (arith, e, h.can_come) },
      (
        (λ r. h.due.first r.from r.counts),
        (λ (r : IsReached calls now Sequence). let e2 : find is_of_reply calls ≡ Some (replied r.from) = r.counts.1 in cc),
      ),
    )

-- in calls in order, the deadline that is reached first is the one that runs
pub first_told : (calls : List Call) (now : ℕ) (t : Timeout) → IsInOrder now calls → IsReached calls now t → IsNoneBefore calls now t → IsHit calls now t
first_told calls now Setup order r none = record {
  moment = r.from + 18000;
  due = record { from = r.from; counts = r.counts; first = tt; sum = refl };
  reached = r.reached;
  can_come = r.can_come;
}
first_told calls now Sequence order r none = record {
  moment = r.from + 60000;
  due = record {
    from = r.from;
    counts = r.counts;
    first = λ m c.
        let a : Awaits calls m = setup_awaits calls m c in
        let h : m ≤ r.from = came_first now calls m r.from order a.since (reply_last calls r.from r.counts.1) in
        let k : r.from + 60000 ≤ now = r.reached in
        let q : r.from + 60000 < never = r.can_come in
        none (record { from = m; counts = c; reached = omega (arith, h, k); can_come = omega (arith, h, q) });
    sum = refl;
  };
  reached = r.reached;
  can_come = r.can_come;
}
first_told calls now Feedback order r none = record {
  moment = r.from + 3000;
  due = record {
    from = r.from;
    counts = r.counts;
    first = λ m c.
        let a : Awaits calls m = setup_awaits calls m c in
        let s : was_set_up calls ≡ false = a.still in
        let q : was_set_up calls ≡ true = closing_accepted now calls r.from order (close_last calls r.from r.counts.1) in
        cc;
    sum = refl;
  };
  reached = r.reached;
  can_come = r.can_come;
}

next_is : (calls : List Call) (t : Timeout) (moment : ℕ) → IsDue calls t moment → next_of (moments_of calls) ≡ min moment never
next_is calls t moment h = ap next_after (due_given calls t moment h)

next_below : (calls : List Call) (t : Timeout) (moment : ℕ) → IsDue calls t moment → next_of (moments_of calls) ≤ moment
next_below calls t moment h = let e : next_of (moments_of calls) ≡ min moment never = next_is calls t moment h in omega (arith, e)

-- no deadline that counts is due before the moment to wait for
least_by : (calls : List Call) (now : ℕ) (from at : ℕ) (b : Bool) → was_set_up calls ≡ b → IsInOrder now calls → came_at calls ≡ Some at → CountsFrom calls Sequence from → next_of (moments_of calls) ≤ from + 60000
least_by calls now from at false set order since counts =
    let due : IsDue calls Setup (at + 18000) = record { from = at; counts = awaits_setup calls at since set; first = tt; sum = refl } in
    let h : next_of (moments_of calls) ≤ at + 18000 = next_below calls Setup (at + 18000) due in
    let k : at ≤ from = came_first now calls at from order since (reply_last calls from counts.1) in
    omega (arith, h, k)
least_by calls now from at true set order since counts =
    next_below calls Sequence (from + 60000) (record {
      from = from;
      counts = counts;
      first = λ m c. let a : Awaits calls m = setup_awaits calls m c in let s : was_set_up calls ≡ false = a.still in cc;
      sum = refl;
    })

pub least : (calls : List Call) (now : ℕ) (t : Timeout) (from : ℕ) → IsInOrder now calls → CountsFrom calls t from → next_of (moments_of calls) ≤ from + span_of t
least calls now Setup from order counts = next_below calls Setup (from + 18000) (record { from = from; counts = counts; first = tt; sum = refl })
least calls now Sequence from order counts =
    least_by calls now from counts.0.0 (was_set_up calls) refl order (border_came calls counts.0.0 counts.0.1) counts
least calls now Feedback from order counts = next_below calls Feedback (from + 3000) (record {
  from = from;
  counts = counts;
  first = λ m c.
      let a : Awaits calls m = setup_awaits calls m c in
      let s : was_set_up calls ≡ false = a.still in
      let q : was_set_up calls ≡ true = closing_accepted now calls from order (close_last calls from counts.1) in
      cc;
  sum = refl;
})
