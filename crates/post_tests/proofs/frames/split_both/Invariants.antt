use Rattle.std.proofs.Common.{◌≤◌, All, vec_len}
use Rattle.post_tests.proofs.frames.split_both.Given as goal

abbrev pub invariant-loop-byte : goal.invariant-loop-byte
invariant-loop-byte l = All (λ piece. vec_len piece ≤ 4096) l.single.items
