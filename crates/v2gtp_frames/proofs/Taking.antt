-- Taking a frame from the front keeps the stream of the payloads and what is behind them.
use Rattle.std.proofs.Common.{◌≡◌, ℕ, ◌+◌, ◌<◌, ◌∙◌, sym, ap, subst, refl, drop, List, [], ◌∷◌, ◌++◌, length, Some, Ok, append_assoc, arith}
use Rattle.std.specs.Prelude.{Vec}
use Rattle.std.specs.List.{flat_map}
use Rattle.std.specs.declared.alloc.Global.{Global}
use Rattle.std.proofs.lemmas.List.{map_push, flat_map_more, length-drop}
use Rattle.std.proofs.lemmas.List.Elements.{All-push, All-drop, All-same}
use Rattle.v2gtp_frames.specs.declared.splitting.Front.{Front}
use Rattle.v2gtp_frames.specs.declared.splitting.Front.TheVariants.{Payload}
use Rattle.v2gtp_frames.specs.Frames.{frame, IsPayload}
use Rattle.v2gtp_frames.specs.Reading.{whole_at, payload_at, behind_front}
use Rattle.v2gtp_frames.specs.Splits.{payload_bytes}
use Rattle.v2gtp_frames.specs.Taking.{Takes, IsFront}
use Rattle.v2gtp_frames.proofs.Growing.{whole_fits}
use Rattle.v2gtp_frames.proofs.Again.{is_frame}

pub behind_whole : (bytes : List ℕ) (n : ℕ) → whole_at bytes ≡ Ok (Some n) → behind_front bytes ≡ drop (8 + n) bytes
behind_whole bytes n h = rw h refl

pub taking_shrinks : (bytes new : List ℕ) (n : ℕ) → whole_at bytes ≡ Ok (Some n) → new ≡ behind_front bytes → length new < length bytes
taking_shrinks bytes new n h e =
    let w = whole_fits bytes n h in
    let l : length new ≡ length (drop (8 + n) bytes) = ap (λ (s : List ℕ). length s) (e ∙ behind_whole bytes n h) in
    omega (arith, l, w.fits, length-drop (8 + n) bytes)

pub takes_one : (old bytes new : List ℕ) (before mid after : List (Vec ℕ Global)) (payload : Vec ℕ Global) → Takes old bytes before mid
    → whole_at bytes ≡ Ok (Some (length payload.items)) → payload.items ≡ payload_at (length payload.items) bytes → new ≡ behind_front bytes → after ≡ mid ++ payload ∷ [] → Takes old new before after
takes_one old bytes new before mid after payload t h p e a =
    let w = whole_fits bytes (length payload.items) h in
    let left : new ≡ drop (8 + length payload.items) bytes = e ∙ behind_whole bytes (length payload.items) h in
    let front : frame payload.items ++ new ≡ bytes =
    ap (λ (s : List ℕ). frame payload.items ++ s) left ∙ ap (λ (s : List ℕ). frame s ++ drop (8 + length payload.items) bytes) p ∙ sym (is_frame bytes (length payload.items) t.bytes h) in
    let more : payload_bytes after ≡ payload_bytes mid ++ payload.items ∷ [] =
    ap (λ (vs : List (Vec ℕ Global)). payload_bytes vs) a ∙ map_push (λ (v : Vec ℕ Global). v.items) mid payload in
    record {
      stream = ap (λ (ps : List (List ℕ)). flat_map frame ps ++ new) more
          ∙ ap (λ (s : List ℕ). s ++ new) (sym (flat_map_more frame [] (payload_bytes mid) payload.items))
          ∙ append_assoc (flat_map frame (payload_bytes mid)) (frame payload.items) new
          ∙ ap (λ (s : List ℕ). flat_map frame (payload_bytes mid) ++ s) front
          ∙ t.stream;
      each = λ all. All-same IsPayload (payload_bytes after) (payload_bytes mid ++ payload.items ∷ []) more (All-push IsPayload (payload_bytes mid) payload.items (t.each all) w.short);
      bytes = All-same (λ x. x < 256) new (drop (8 + length payload.items) bytes) left (All-drop (λ x. x < 256) (8 + length payload.items) bytes t.bytes);
    }

-- the same from what stood at the front
at_payload : (bytes : List ℕ) (f : Front) (payload : Vec ℕ Global) → IsFront bytes f → f ≡ Payload payload → IsFront bytes (Payload payload)
at_payload bytes f payload h is = let P : Front → Type 0 = λ x. IsFront bytes x in subst P is h

pub front_shrinks : (bytes new : List ℕ) (f : Front) (payload : Vec ℕ Global) → IsFront bytes f → f ≡ Payload payload → new ≡ behind_front bytes → length new < length bytes
front_shrinks bytes new f payload h is e = taking_shrinks bytes new (length payload.items) (at_payload bytes f payload h is).0 e

pub takes_front : (old bytes new : List ℕ) (before mid after : List (Vec ℕ Global)) (f : Front) (payload : Vec ℕ Global) → Takes old bytes before mid
    → IsFront bytes f → f ≡ Payload payload → new ≡ behind_front bytes → after ≡ mid ++ payload ∷ [] → Takes old new before after
takes_front old bytes new before mid after f payload t h is e a =
    let p = at_payload bytes f payload h is in
    takes_one old bytes new before mid after payload t p.0 p.1 e a
