-- A count of faults rises exactly where a call fails.
use Rattle.std.proofs.Common.{◌≡◌, ℕ, true, false, List, Option, Some, None, Result, Ok, refl, sym, subst, arith, inl, inr}
use Rattle.std.proofs.Math.Nat.{eq-or-lt_of_le}
use Rattle.std.specs.Prelude.{IsSome}
use Rattle.charge_world.specs.declared.entry.Entry.{Entry}
use Rattle.charge_world.specs.Outside.{IsFault}
use Rattle.endpoint.specs.Telling.{CarriesText}

pub fault_ok : {T E : Type 0} (a b : ℕ) (x : T) → IsFault {T = T} {E = E} a b (Ok x) → b ≡ a
fault_ok a b x f = elim (eq-or-lt_of_le f.later) [ inl e ↦ sym e | inr l ↦ absurd (let e : false ≡ true = f.risen.1 l in cc) ]

pub fault_none : {T E : Type 0} (a b : ℕ) (x : T) → b ≡ a → IsFault {T = T} {E = E} a b (Ok x)
fault_none a b x e = record { later = omega (arith, e); risen = (λ t. cc, λ l. absurd (omega (arith, e, l))) }

pub fault_behind : {T E : Type 0} (a m b : ℕ) (r : Result T E) → m ≡ a → IsFault m b r → IsFault a b r
fault_behind a m b r e h = subst (λ (k : ℕ). IsFault k b r) e h

-- what is told now was told before
pub text_told : (a b : Option (List Entry)) (s t : Option (List ℕ)) (P Q : List Entry → List ℕ → Type 0) → CarriesText a b s t P Q → IsSome b → IsSome a
text_told a None s t P Q h told = cc
text_told None (Some new) s t P Q h told = absurd h
text_told (Some old) (Some new) s t P Q h told = refl
