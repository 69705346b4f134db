-- Reading a stream piece by piece.
use Rattle.std.proofs.Common.{◌≡◌, ℕ, ◌+◌, ◌<◌, ◌≤◌, ◌∙◌, sym, ap, drop, List, [], ◌++◌, length, get_or, Option, Some, None, Ok, append_assoc}
use Rattle.std.specs.Prelude.{All, Vec}
use Rattle.std.specs.List.{flat_map}
use Rattle.std.specs.declared.alloc.Global.{Global}
use Rattle.std.proofs.lemmas.List.{drop_more, drop_all, append-nil}
use Rattle.std.proofs.lemmas.List.Elements.{All-nil, All-append, All-same, All-from_get_or}
use Rattle.v2gtp_frames.specs.declared.FrameFault.{FrameFault}
use Rattle.v2gtp_frames.specs.Frames.{frame, IsPayload, Frames}
use Rattle.v2gtp_frames.specs.Reading.{whole_at}
use Rattle.v2gtp_frames.specs.Splits.{joined, payload_bytes, IsFirstFault}
use Rattle.v2gtp_frames.specs.Taking.{Takes, stream_of, answer_of}
use Rattle.v2gtp_frames.proofs.Ends.{fault_is, fault_stays, fault_rest, none_rest, none_right}
use Rattle.v2gtp_frames.proofs.Same.{one_reading}

pub fed_bytes : (old piece new : List ℕ) → All (λ x. x < 256) old → ((i : ℕ) → get_or piece i 0 < 256) → new ≡ old ++ piece → All (λ x. x < 256) new
fed_bytes old piece new h g e = All-same (λ x. x < 256) new (old ++ piece) e (All-append (λ x. x < 256) old piece h (All-from_get_or (λ x. x < 256) piece 0 (λ i lt. g i)))

-- the pieces that are left, once one more is taken
pub more_joined : (pieces : List (Vec ℕ Global)) (i : ℕ) (item : Vec ℕ Global) (now bytes new : List ℕ) (mid after : List (Vec ℕ Global)) → i < length pieces → item ≡ get_or pieces i item → now ≡ item.items
    → Takes (bytes ++ now) new mid after → stream_of mid bytes ++ joined (drop i pieces) ≡ joined pieces → stream_of after new ++ joined (drop (i + 1) pieces) ≡ joined pieces
more_joined pieces i item now bytes new mid after lt is e t s =
    let tail : List ℕ = joined (drop (i + 1) pieces) in
    let next : joined (drop i pieces) ≡ now ++ joined (drop (i + 1) pieces) =
    ap (λ (vs : List (Vec ℕ Global)). joined vs) (drop_more pieces i item lt) ∙ ap (λ (v : Vec ℕ Global). v.items ++ joined (drop (i + 1) pieces)) (sym is)
    ∙ ap (λ (xs : List ℕ). xs ++ joined (drop (i + 1) pieces)) (sym e) in
    ap (λ (xs : List ℕ). xs ++ tail) (t.stream ∙ sym (append_assoc (flat_map frame (payload_bytes mid)) bytes now))
    ∙ append_assoc (stream_of mid bytes) now tail
    ∙ ap (λ (xs : List ℕ). stream_of mid bytes ++ xs) (sym next)
    ∙ s

-- the frames of the stream where a fault ends the reading
pub ends_wrong : (stream bytes tail : List ℕ) (payloads : List (Vec ℕ Global)) (found : Option FrameFault) (fault : FrameFault) → stream_of payloads bytes ++ tail ≡ stream → All IsPayload (payload_bytes payloads)
    → whole_at bytes ≡ answer_of found → found ≡ Some fault → (rest : List ℕ) × Frames stream (payload_bytes payloads) rest × IsFirstFault rest (Some fault)
ends_wrong stream bytes tail payloads found fault s each h is =
    let wrong = fault_stays bytes tail fault (fault_is bytes fault (h ∙ ap (λ (o : Option FrameFault). answer_of o) is)) in (
      bytes ++ tail,
      record {
        whole = sym s ∙ append_assoc (flat_map frame (payload_bytes payloads)) bytes tail;
        each = each;
        longest = fault_rest (bytes ++ tail) fault wrong;
      },
      wrong,
    )

-- the frames of the stream where its pieces end
pub ends_right : (pieces : List (Vec ℕ Global)) (i : ℕ) (bytes : List ℕ) (payloads : List (Vec ℕ Global)) → length pieces ≤ i → stream_of payloads bytes ++ joined (drop i pieces) ≡ joined pieces
    → All IsPayload (payload_bytes payloads) → whole_at bytes ≡ Ok None → (rest : List ℕ) × Frames (joined pieces) (payload_bytes payloads) rest × IsFirstFault rest None
ends_right pieces i bytes payloads le s each h =
    let none : joined (drop i pieces) ≡ [] = ap (λ (vs : List (Vec ℕ Global)). joined vs) (drop_all i pieces le) in (
      bytes,
      record {
        whole = sym s ∙ ap (λ (xs : List ℕ). stream_of payloads bytes ++ xs) none ∙ append-nil (stream_of payloads bytes);
        each = each;
        longest = none_rest bytes h;
      },
      none_right bytes h,
    )

pub only_one : (stream rest : List ℕ) (payloads : List (List ℕ)) → Frames stream payloads rest → (others : List (List ℕ)) (more : List ℕ) → Frames stream others more → others ≡ payloads
only_one stream rest payloads f others more g = one_reading stream more rest others payloads g f

-- before the first piece
pub starts_stream : (payloads : List (Vec ℕ Global)) (bytes stream : List ℕ) → payloads ≡ [] → bytes ≡ [] → stream_of payloads bytes ++ stream ≡ stream
starts_stream payloads bytes stream p b =
    ap (λ (vs : List (Vec ℕ Global)). stream_of vs bytes ++ stream) p ∙ ap (λ (xs : List ℕ). stream_of [] xs ++ stream) b

pub starts_each : (payloads : List (Vec ℕ Global)) → payloads ≡ [] → All IsPayload (payload_bytes payloads)
starts_each payloads p = All-same IsPayload (payload_bytes payloads) [] (ap (λ (vs : List (Vec ℕ Global)). payload_bytes vs) p) (All-nil IsPayload)

pub starts_bytes : (bytes : List ℕ) → bytes ≡ [] → All (λ x. x < 256) bytes
starts_bytes bytes b = All-same (λ x. x < 256) bytes [] b (All-nil (λ x. x < 256))

pub starts_read : (bytes : List ℕ) → bytes ≡ [] → whole_at bytes ≡ Ok None
unfolding whole_at
starts_read bytes b = ap (λ (xs : List ℕ). whole_at xs) b
