-- What of a message an end has read, and what of it is still under way.
use Rattle.std.proofs.Common.{◌≡◌, ℕ, ◌+◌, ◌≤◌, List, [], ◌∷◌, ◌++◌, length, Option, Some, None, Result, Ok, refl, ap, sym, subst, ◌∙◌, ◌⊎◌, inl, inr, arith, append_assoc}
use Rattle.std.proofs.lemmas.List.{append-nil, length-append}
use Rattle.v2gtp_frames.specs.declared.FrameFault.{FrameFault}
use Rattle.v2gtp_frames.specs.Frames.{frame, IsPayload}
use Rattle.v2gtp_frames.specs.Reading.{whole_at, behind_front}
use Rattle.v2gtp_frames.proofs.Again.{again, behind_frame}
use Rattle.v2gtp_frames.proofs.Growing.{whole_stays, whole_fits, WholeAt}
use Rattle.pipe_laws.specs.OneMessage.{IsRest}

-- of an end without a session it isn't known what it has heard
abbrev pub Carries : ℕ → Option (List ℕ) → List ℕ → Type 0
Carries most None way = IsRest most way
Carries most (Some unread) way = (payload : List ℕ) × (frame payload ≡ unread ++ way) × (length (frame payload) ≤ most)

abbrev pub HasRead : Option (List ℕ) → Type 0
HasRead None = Unit {0}
HasRead (Some unread) = unread ≡ []

-- an end keeps what is unread, or its session is gone
abbrev pub Loses : Option (List ℕ) → Option (List ℕ) → Type 0
Loses before after = (after ≡ before) ⊎ (after ≡ None)

pub carries_rest : (most : ℕ) (o : Option (List ℕ)) (way : List ℕ) → Carries most o way → IsRest most way
carries_rest most None way c = c
carries_rest most (Some unread) way c = record { payload = c.0; front = unread; frame_is = c.1; short = c.2 }

pub carries_loses : (most : ℕ) (o p : Option (List ℕ)) (way : List ℕ) → Loses o p → Carries most o way → Carries most p way
carries_loses most o p way (inl e) c = subst (λ (x : Option (List ℕ)). Carries most x way) (sym e) c
carries_loses most o p way (inr e) c = subst (λ (x : Option (List ℕ)). Carries most x way) (sym e) (carries_rest most o way c)

pub read_loses : (o p : Option (List ℕ)) → Loses o p → HasRead o → HasRead p
read_loses o p (inl e) c = subst HasRead (sym e) c
read_loses o p (inr e) c = subst HasRead (sym e) tt

-- a whole message goes under way to an end that has read all
pub carries_whole : (most : ℕ) (o : Option (List ℕ)) (payload : List ℕ) → HasRead o → length (frame payload) ≤ most → Carries most o (frame payload)
carries_whole most None payload r l = record { payload = payload; front = []; frame_is = refl; short = l }
carries_whole most (Some unread) payload r l = (payload, ap (λ (x : List ℕ). x ++ frame payload) (sym r), l)

-- a piece is heard
abbrev pub more : List ℕ → Option (List ℕ) → Option (List ℕ)
more bytes None = None
more bytes (Some unread) = Some (unread ++ bytes)

pub carries_piece : (most : ℕ) (o : Option (List ℕ)) (way bytes rest : List ℕ) → way ≡ bytes ++ rest → Carries most o way → Carries most (more bytes o) rest
carries_piece most None way bytes rest e c = record {
  payload = c.payload;
  front = c.front ++ bytes;
  frame_is = c.frame_is ∙ ap (λ (x : List ℕ). c.front ++ x) e ∙ sym (append_assoc c.front bytes rest);
  short = c.short;
}
carries_piece most (Some unread) way bytes rest e c =
    (c.0, c.1 ∙ ap (λ (x : List ℕ). unread ++ x) e ∙ sym (append_assoc unread bytes rest), c.2)

-- a message that is whole where it is read has come whole, and nothing is left of it
pub record IsTaken (unread way : List ℕ) : Type 0 where
  pub nothing_left : behind_front unread ≡ []
  pub nothing_comes : way ≡ []

no_more : (a b : List ℕ) → length (a ++ b) ≤ length a → b ≡ []
no_more a [] h = refl
no_more a (x ∷ b) h = let l : length (a ++ x ∷ b) ≡ length a + length (x ∷ b) = length-append a (x ∷ b) in absurd (omega (arith, l, h))

same_some : (m n : ℕ) (r : Result (Option ℕ) FrameFault) → r ≡ Ok (Some m) → r ≡ Ok (Some n) → m ≡ n
same_some m n r e f = cc

length_frame : (p : List ℕ) → length (frame p) ≡ 8 + length p
length_frame p = omega arith

pub taken : (most n : ℕ) (unread way : List ℕ) → most ≤ 65544 → whole_at unread ≡ Ok (Some n) → Carries most (Some unread) way → IsTaken unread way
taken most n unread way m w c =
    let p : List ℕ = c.0 in
    let long : length (frame p) ≤ most = c.2 in
    let short : IsPayload p = let l = length_frame p in omega (arith, l, m, long) in
    let nil : frame p ++ [] ≡ frame p = append-nil (frame p) in
    let read : whole_at (frame p ++ []) ≡ Ok (Some (length p)) = again p [] short in
    let stays : whole_at (unread ++ way) ≡ Ok (Some n) = whole_stays unread way n w in
    let join : unread ++ way ≡ frame p ++ [] = sym c.1 ∙ sym nil in
    let same : n ≡ length p = same_some n (length p) (whole_at (unread ++ way)) stays (ap whole_at join ∙ read) in
    let f : WholeAt unread n = whole_fits unread n w in
    let size : length (unread ++ way) ≡ 8 + length p = ap (λ (x : List ℕ). length x) (sym c.1) ∙ length_frame p in
    let none : way ≡ [] = no_more unread way (let fits = f.fits in omega (arith, fits, same, size)) in
    let all : unread ≡ frame p ++ [] = sym (append-nil unread) ∙ ap (λ (x : List ℕ). unread ++ x) (sym none) ∙ join in
    record { nothing_left = ap behind_front all ∙ behind_frame p [] short; nothing_comes = none }
