-- Where a text passes the limit.
use Rattle.std.proofs.Common.{◌≡◌, ◌==◌, ℕ, ◌+◌, ◌<◌, List, length, take, sym, ap, ◌∙◌, inl, arith, length-append}
use Rattle.std.specs.List.{count_by}
use Rattle.std.proofs.lemmas.List.{take-append-le, length-take-le}
use Rattle.plan_files.specs.FileTexts.{IsBeginning}
use Rattle.trace_files.specs.Recordings.{IsRefusedAt}

pub whole_front : (bytes : List ℕ) (n : ℕ) → n < length bytes → n ≡ length (take n bytes)
whole_front bytes n over = sym (length-take-le n bytes (omega (arith, over)))

-- the lines up to a place that both have
lines_same : (text bytes : List ℕ) (n : ℕ) → IsBeginning text bytes (n + 1) → n < length bytes → take n bytes ≡ take n text
lines_same text bytes n h over = sym (ap (take n) h.split ∙ take-append-le n bytes h.rest (omega (arith, over)))

pub passed : (posts : ℕ) (text bytes : List ℕ) (lines number : ℕ) → 268435456 < length bytes → lines ≡ count_by (λ byte. byte == 10) (take 268435456 bytes) + 1 → IsBeginning text bytes 268435457
    → lines ≡ number → IsRefusedAt posts text number
passed posts text bytes lines number over is h same =
    let front = lines_same text bytes 268435456 h over in
    inl (record {
      over = omega (arith, ap length h.split, length-append bytes h.rest, over);
      line = sym same ∙ is ∙ ap (λ (t : List ℕ). count_by (λ byte. byte == 10) t + 1) front;
    })
