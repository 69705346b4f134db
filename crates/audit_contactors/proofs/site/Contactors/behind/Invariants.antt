use Rattle.std.proofs.Common.{◌≡◌, ℕ, suc, ◌<◌, ◌≤◌, length}
use Rattle.audit_contactors.specs.Changes.{behind}
use Rattle.audit_contactors.specs.Site.{at}
use Rattle.audit_contactors.proofs.site.Contactors.behind.Given as goal

abbrev pub invariant-loop-at : goal.invariant-loop-at
invariant-loop-at l = record {
  long : length l.posts ≡ length l.self.posts;
  done : length l.self.posts ≡ 8 → (i : ℕ) → i < l.at → at l.posts i ≡ behind (suc i) l.entry (at l.self.posts i);
  left : (i : ℕ) → l.at ≤ i → at l.posts i ≡ at l.self.posts i;
}
