-- How long nothing is due.
use Rattle.std.proofs.Common.{◌≡◌, ℕ, ◌+◌, ◌<◌, ◌≤◌, ◌⊎◌, inl, inr, min, length, false, nat_le, refl, sym, ◌∙◌, subst, arith}
use Rattle.std.proofs.lemmas.Bool.{cases_lt, cases_eq}
use Rattle.std.proofs.lemmas.Bool.Decides.{nat_tests}
use Rattle.wire_events.specs.declared.seat.Kind.TheVariants as kind
use Rattle.wire_events.specs.Boards.{Posts, seat_of, NothingDue, LeastDue}

least_by_cases : (w : Posts) (until n least m due : ℕ) → LeastDue w until n least → due ≡ (seat_of w n).due → m ≡ min least due →
    (due < least) ⊎ (least ≤ due) → LeastDue w until (n + 1) m
least_by_cases w until n least m due h is e (inl lt) =
    let same : m ≡ due = omega (arith, e, lt) in
    record {
      within = omega (arith, h.within, e);
      each = λ place below. elim (cases_eq place n) [ inl eq ↦ subst (λ (k : ℕ). m ≤ (seat_of w k).due) (sym eq) (omega (arith, same, is)) | inr ne ↦ let old = h.each place (omega (arith, below, ne)) in omega (arith, old, e) ];
      one = inr (n, omega arith, same ∙ is);
    }
least_by_cases w until n least m due h is e (inr le) =
    let same : m ≡ least = omega (arith, e, le) in
    record {
      within = omega (arith, h.within, e);
      each = λ place below. elim (cases_eq place n) [ inl eq ↦ subst (λ (k : ℕ). m ≤ (seat_of w k).due) (sym eq) (omega (arith, same, is, le)) | inr ne ↦ let old = h.each place (omega (arith, below, ne)) in omega (arith, old, e) ];
      one = elim h.one [ inl u ↦ inl (same ∙ u) | inr k ↦ inr (k.0, omega (arith, k.1), same ∙ k.2) ];
    }

-- one charger more
pub least_more : (w : Posts) (until n least m : ℕ) → LeastDue w until n least → m ≡ min least (seat_of w n).due → LeastDue w until (n + 1) m
least_more w until n least m h e =
    least_by_cases w until n least m (seat_of w n).due h refl e (cases_lt (seat_of w n).due least)

-- where nothing is due, the least moment is a later one
pub is_later : (w : Posts) (now until m : ℕ) → NothingDue w now → now < until → LeastDue w until (length w.seats) m → now < m
is_later w now until m none before h =
    elim h.one [
      | inl e ↦ omega (arith, e, before)
      | inr k ↦ let not_due : nat_le (seat_of w k.0).due now ≡ false = none k.0 (omega arith) k.1 kind.Plant in
          let e = k.2 in grind (arith, nat_tests, not_due, e)
    ]
