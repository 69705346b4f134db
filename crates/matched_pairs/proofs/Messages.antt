-- A message that comes is still on its way, or whole.
use Rattle.std.proofs.Common.{◌≡◌, ℕ, ◌+◌, ◌≤◌, List, [], ◌∷◌, ◌++◌, length, None, Ok, refl, ap, sym, ◌∙◌, arith}
use Rattle.std.proofs.lemmas.List.{append-nil}
use Rattle.v2gtp_frames.specs.Frames.{frame, IsPayload}
use Rattle.v2gtp_frames.specs.Reading.{whole_at, behind_front}
use Rattle.v2gtp_frames.proofs.Again.{behind_frame}
use Rattle.pair_deeds.proofs.Fronts.{pieces_are_awaited}
use Rattle.matched_pairs.specs.Phases.{Comes}

pub data Front (payload unread way : List ℕ) : Type 0 where
  OnItsWay : whole_at unread ≡ Ok None → Front payload unread way
  Whole : unread ≡ frame payload → way ≡ [] → Front payload unread way

not_nil : (x : ℕ) (xs : List ℕ) → x ∷ xs ≡ [] → ⊥
not_nil x xs e = cc

pub front : (payload unread way : List ℕ) → Comes payload unread way → Front payload unread way
front payload unread [] k = Whole (sym (k.frame_is ∙ append-nil unread)) refl
front payload unread (x ∷ way) k = OnItsWay (pieces_are_awaited payload unread (x ∷ way) k.short k.frame_is (λ e. not_nil x way e))

pub empty_waits : whole_at [] ≡ Ok None
unfolding whole_at
empty_waits = refl

pub nothing_left : (payload unread : List ℕ) → unread ≡ frame payload → IsPayload payload → behind_front unread ≡ []
nothing_left payload unread u short = ap behind_front (u ∙ sym (append-nil (frame payload))) ∙ behind_frame payload [] short

length_frame : (p : List ℕ) → length (frame p) ≡ 8 + length p
length_frame p = omega arith

-- a message that was just said
pub says : (payload way : List ℕ) → way ≡ [] → length (frame payload) ≤ 65544 → Comes payload [] (way ++ frame payload)
says payload way e l = record {
  short = let size : length (frame payload) ≡ 8 + length payload = length_frame payload in omega (arith, size, l);
  frame_is = ap (λ (x : List ℕ). x ++ frame payload) (sym e);
}
