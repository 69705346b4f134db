-- What a contactor keeps is what happened.
use Rattle.std.proofs.Common.{◌≡◌, Bool, true, false, cond, List, [], ◌∷◌, Option, Some, None, is_some, refl, sym, ap, ◌∙◌}
use Rattle.session_words.specs.declared.phase.Standing.{Standing}
use Rattle.session_words.specs.declared.phase.Standing.TheVariants.{Closing, Closed, MustOpen}
use Rattle.contactor.specs.Standing.{Act, Kind, Close, Open, ordered, feedback, last_order, feedback_since, confirms, standing_by, standing_of, is_live}
use Rattle.contactor.specs.Calls.{Call, close, release, told, hears, failed, acts_of, Kept, standing_heard, after_failure, kept_after}

-- one more feedback
heard_closed : (b : Bool) → Closed ≡ standing_heard (cond b Closed Closing) true
heard_closed true = refl
heard_closed false = refl

heard_open : (b : Bool) → cond b Closed Closing ≡ standing_heard (cond b Closed Closing) false
heard_open true = refl
heard_open false = refl

pub heard_more : (o : Option (Kind × Bool)) (heard : List Bool) (closed : Bool) → standing_by o (closed ∷ heard) ≡ standing_heard (standing_by o heard) closed
heard_more None [] true = refl
heard_more None [] false = refl
heard_more None (true ∷ heard) true = refl
heard_more None (true ∷ heard) false = refl
heard_more None (false ∷ heard) true = refl
heard_more None (false ∷ heard) false = refl
heard_more (Some (Close, true)) heard true = heard_closed (confirms heard)
heard_more (Some (Close, true)) heard false = heard_open (confirms heard)
heard_more (Some (Open, true)) [] true = refl
heard_more (Some (Open, true)) [] false = refl
heard_more (Some (Open, true)) (true ∷ heard) true = refl
heard_more (Some (Open, true)) (true ∷ heard) false = refl
heard_more (Some (Open, true)) (false ∷ heard) true = refl
heard_more (Some (Open, true)) (false ∷ heard) false = refl
heard_more (Some (Close, false)) heard closed = refl
heard_more (Some (Open, false)) heard closed = refl

-- without an order none can fail
pub failed-none : (acts : List Act) → is_some (last_order acts) ≡ false → failed acts ≡ acts
failed-none [] e = refl
failed-none (ordered kind taken ∷ before) e = cc
failed-none (feedback closed ∷ before) e = ap (λ (acts : List Act). feedback closed ∷ acts) (failed-none before e)

-- an order fails once
pub failed-failed : (acts : List Act) → failed (failed acts) ≡ failed acts
failed-failed [] = refl
failed-failed (ordered kind taken ∷ before) = refl
failed-failed (feedback closed ∷ before) = ap (λ (acts : List Act). feedback closed ∷ acts) (failed-failed before)

-- a failed order is an order
pub is_some-failed : (acts : List Act) → is_some (last_order (failed acts)) ≡ is_some (last_order acts)
is_some-failed [] = refl
is_some-failed (ordered kind taken ∷ before) = refl
is_some-failed (feedback closed ∷ before) = is_some-failed before

-- a last order that failed
pub last_order-failed : (acts : List Act) → is_some (last_order acts) ≡ true → (kind : Kind) × (last_order (failed acts) ≡ Some (kind, false))
last_order-failed [] e = cc
last_order-failed (ordered kind taken ∷ before) e = (kind, refl)
last_order-failed (feedback closed ∷ before) e = last_order-failed before e

must_open : (kind : Kind) (heard : List Bool) → standing_by (Some (kind, false)) heard ≡ MustOpen
must_open Close heard = refl
must_open Open heard = refl

pub standing_of-failed : (acts : List Act) → is_some (last_order acts) ≡ true → standing_of (failed acts) ≡ MustOpen
standing_of-failed acts e =
    let last : (kind : Kind) × (last_order (failed acts) ≡ Some (kind, false)) = last_order-failed acts e in
    ap (λ (o : Option (Kind × Bool)). standing_by o (feedback_since (failed acts))) last.1 ∙ must_open last.0 (feedback_since (failed acts))

-- what is kept says what happened
pub record Holds (k : Kept) (acts : List Act) : Type 0 where
  pub standing : k.standing ≡ standing_of acts
  pub live : k.live ≡ is_live acts
  pub live_if_failed : k.live_if_failed ≡ is_live (failed acts)
  pub had_order : k.had_order ≡ is_some (last_order acts)

holds_failure : (k : Kept) (acts : List Act) (b : Bool) → k.had_order ≡ b → Holds k acts → Holds (after_failure k b) (failed acts)
holds_failure k acts false e h =
    let none : failed acts ≡ acts = failed-none acts (sym h.had_order ∙ e) in
    record {
      standing = h.standing ∙ ap standing_of (sym none);
      live = h.live ∙ ap is_live (sym none);
      live_if_failed = h.live_if_failed ∙ ap is_live (sym (failed-failed acts));
      had_order = h.had_order ∙ sym (is_some-failed acts);
    }
holds_failure k acts true e h = record {
  standing = sym (standing_of-failed acts (sym h.had_order ∙ e));
  live = h.live_if_failed;
  live_if_failed = h.live_if_failed ∙ ap is_live (sym (failed-failed acts));
  had_order = h.had_order ∙ sym (is_some-failed acts);
}

pub holds : (calls : List Call) → Holds (kept_after calls) (acts_of calls)
holds [] = record { standing = refl; live = refl; live_if_failed = refl; had_order = refl }
holds (close ∷ before) = record { standing = refl; live = refl; live_if_failed = refl; had_order = refl }
holds (release ∷ before) =
    let h : Holds (kept_after before) (acts_of before) = holds before in
    record { standing = refl; live = refl; live_if_failed = h.live; had_order = refl }
holds (told true ∷ before) = holds before
holds (told false ∷ before) = holds_failure (kept_after before) (acts_of before) (kept_after before).had_order refl (holds before)
holds (hears closed ∷ before) =
    let h : Holds (kept_after before) (acts_of before) = holds before in
    record {
      standing = ap (λ (s : Standing). standing_heard s closed) h.standing ∙ sym (heard_more (last_order (acts_of before)) (feedback_since (acts_of before)) closed);
      live = h.live;
      live_if_failed = h.live_if_failed;
      had_order = h.had_order;
    }
