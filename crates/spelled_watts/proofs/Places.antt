-- The payload at the front of what is unread is the one behind those that were read.
use Rattle.std.proofs.Common.{◌≡◌, ℕ, suc, List, Some, Ok, ap, subst}
use Rattle.v2gtp_frames.specs.Reading.{whole_at, payload_at, behind_frames}
use Rattle.post_spec.specs.Words.{IsPayloadAt}
use Rattle.safe_runs.proofs.Growth.{AreWhole}

pub place_at : (n taken : ℕ) (heard unread : List ℕ) → unread ≡ behind_frames taken heard → whole_at unread ≡ Ok (Some n) → IsPayloadAt heard taken (payload_at n unread)
place_at n taken heard unread u w = record {
  count = n;
  whole = subst (λ (x : List ℕ). whole_at x ≡ Ok (Some n)) u w;
  payload_is = ap (payload_at n) u;
}

pub more_whole : (n taken : ℕ) (heard unread : List ℕ) → unread ≡ behind_frames taken heard → whole_at unread ≡ Ok (Some n) → AreWhole taken heard → AreWhole (suc taken) heard
more_whole n taken heard unread u w h = (h, (n, subst (λ (x : List ℕ). whole_at x ≡ Ok (Some n)) u w))
