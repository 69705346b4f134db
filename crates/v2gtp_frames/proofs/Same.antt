-- A stream has one list of payloads, and its frames are read one after another.
use Rattle.std.proofs.Common.{◌≡◌, ℕ, zero, suc, ◌+◌, ◌<◌, ◌≤◌, ◌∙◌, sym, ap, refl, drop, List, [], ◌∷◌, ◌++◌, length, get_or, Option, Some, Result, Ok, append_assoc, arith, add-one}
use Rattle.std.specs.Prelude.{All}
use Rattle.std.specs.List.{flat_map}
use Rattle.std.proofs.lemmas.List.{drop_more, drop_all}
use Rattle.std.proofs.lemmas.List.Elements.{All-head, All-tail}
use Rattle.v2gtp_frames.specs.declared.FrameFault.{FrameFault}
use Rattle.v2gtp_frames.specs.Frames.{frame, IsPayload, IsRest, Frames}
use Rattle.v2gtp_frames.specs.Reading.{whole_at, payload_at, behind_front, behind_frames}
use Rattle.v2gtp_frames.proofs.Again.{again, payload_again, behind_again, behind_frame}

abbrev found : ℕ → Result (Option ℕ) FrameFault
found n = Ok (Some n)

-- two streams that begin with frames and are one begin with one frame, and go on alike
same_front : (a b x y : List ℕ) → IsPayload a → IsPayload b → frame a ++ x ≡ frame b ++ y → (a ≡ b) × (x ≡ y)
same_front a b x y ha hb e =
    let lengths : found (length a) ≡ found (length b) = sym (again a x ha) ∙ ap (λ (s : List ℕ). whole_at s) e ∙ again b y hb in
    let n : length a ≡ length b = cc in
    let one : a ≡ b = sym (payload_again a x) ∙ ap (λ (s : List ℕ). payload_at (length a) s) e ∙ ap (λ (k : ℕ). payload_at k (frame b ++ y)) n ∙ payload_again b y in
    let rest : x ≡ y = sym (behind_again a x) ∙ ap (λ (s : List ℕ). drop (8 + length a) s) e ∙ ap (λ (k : ℕ). drop (8 + k) (frame b ++ y)) n ∙ behind_again b y in
    (one, rest)

pub same : (ps qs : List (List ℕ)) (r s : List ℕ) → All IsPayload ps → All IsPayload qs → IsRest r → IsRest s → flat_map frame ps ++ r ≡ flat_map frame qs ++ s → (ps ≡ qs) × (r ≡ s)
same [] [] r s ha hb hr hs e = (refl, e)
same [] (b ∷ qs) r s ha hb hr hs e = absurd (hr b (flat_map frame qs ++ s) (All-head IsPayload b qs hb) (e ∙ append_assoc (frame b) (flat_map frame qs) s))
same (a ∷ ps) [] r s ha hb hr hs e = absurd (hs a (flat_map frame ps ++ r) (All-head IsPayload a ps ha) (sym e ∙ append_assoc (frame a) (flat_map frame ps) r))
same (a ∷ ps) (b ∷ qs) r s ha hb hr hs e =
    let f = same_front a b (flat_map frame ps ++ r) (flat_map frame qs ++ s) (All-head IsPayload a ps ha) (All-head IsPayload b qs hb)
    (sym (append_assoc (frame a) (flat_map frame ps) r) ∙ e ∙ append_assoc (frame b) (flat_map frame qs) s) in
    let i = same ps qs r s (All-tail IsPayload a ps ha) (All-tail IsPayload b qs hb) hr hs f.1 in
    let heads : a ≡ b = f.0 in
    let tails : ps ≡ qs = i.0 in
    (cc, i.1)

pub one_reading : (stream r s : List ℕ) (ps qs : List (List ℕ)) → Frames stream ps r → Frames stream qs s → ps ≡ qs
one_reading stream r s ps qs f g = (same ps qs r s f.each g.each f.longest g.longest (sym f.whole ∙ g.whole)).0

-- what stands behind n frames
behind_some : (n : ℕ) (ps : List (List ℕ)) (rest : List ℕ) → All IsPayload ps → n ≤ length ps → behind_frames n (flat_map frame ps ++ rest) ≡ flat_map frame (drop n ps) ++ rest
behind_some zero ps rest h le = refl
behind_some (suc n) ps rest h le =
    let lt : n < length ps = omega arith in
    let next : drop n ps ≡ get_or ps n [] ∷ drop (suc n) ps = drop_more ps n [] lt ∙ ap (λ (k : ℕ). get_or ps n [] ∷ drop k ps) (add-one n) in
    let now : behind_frames n (flat_map frame ps ++ rest) ≡ frame (get_or ps n []) ++ (flat_map frame (drop (suc n) ps) ++ rest) =
    behind_some n ps rest h (omega arith) ∙ ap (λ (qs : List (List ℕ)). flat_map frame qs ++ rest) next
    ∙ append_assoc (frame (get_or ps n [])) (flat_map frame (drop (suc n) ps)) rest in
    ap behind_front now ∙ behind_frame (get_or ps n []) (flat_map frame (drop (suc n) ps) ++ rest) (h n [] lt)

-- the next word of a stream, and what is behind the last
front_some : (n : ℕ) (ps : List (List ℕ)) (rest : List ℕ) → All IsPayload ps → n < length ps
    → flat_map frame (drop n ps) ++ rest ≡ frame (get_or ps n []) ++ (flat_map frame (drop (suc n) ps) ++ rest)
front_some n ps rest h lt =
    let next : drop n ps ≡ get_or ps n [] ∷ drop (suc n) ps = drop_more ps n [] lt ∙ ap (λ (k : ℕ). get_or ps n [] ∷ drop k ps) (add-one n) in
    ap (λ (qs : List (List ℕ)). flat_map frame qs ++ rest) next ∙ append_assoc (frame (get_or ps n [])) (flat_map frame (drop (suc n) ps)) rest

pub next_word : (stream : List ℕ) (ps : List (List ℕ)) (rest : List ℕ) (n : ℕ) → Frames stream ps rest → n < length ps
    → (whole_at (behind_frames n stream) ≡ Ok (Some (length (get_or ps n [])))) × (payload_at (length (get_or ps n [])) (behind_frames n stream) ≡ get_or ps n [])
next_word stream ps rest n f lt =
    let p : List ℕ = get_or ps n [] in
    let more : List ℕ = flat_map frame (drop (suc n) ps) ++ rest in
    let here : behind_frames n stream ≡ frame (get_or ps n []) ++ (flat_map frame (drop (suc n) ps) ++ rest) =
    ap (λ (s : List ℕ). behind_frames n s) f.whole ∙ behind_some n ps rest f.each (omega arith) ∙ front_some n ps rest f.each lt in
    (ap (λ (s : List ℕ). whole_at s) here ∙ again p more (f.each n [] lt), ap (λ (s : List ℕ). payload_at (length (get_or ps n [])) s) here ∙ payload_again p more)

pub last_rest : (stream : List ℕ) (ps : List (List ℕ)) (rest : List ℕ) → Frames stream ps rest → behind_frames (length ps) stream ≡ rest
last_rest stream ps rest f =
    ap (λ (s : List ℕ). behind_frames (length ps) s) f.whole ∙ behind_some (length ps) ps rest f.each (omega arith)
    ∙ ap (λ (qs : List (List ℕ)). flat_map frame qs ++ rest) (drop_all (length ps) ps (omega arith))
