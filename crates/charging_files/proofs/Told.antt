-- What is told of a file, and of its fault.
use Rattle.std.proofs.Common.{◌≡◌, inl, inr, ℕ, ◌<◌, List, Option, Some, None, sym, ap, ◌∙◌, subst, arith, true≢false}
use Rattle.std.specs.Prelude.{IsSome, IsSomeAnd}
use Rattle.plan_files.specs.FileTexts.{Told}
use Rattle.plan_files.specs.Plans.{IsFaultBy}
use Rattle.plan_files.specs.declared.plans.PlanFileFault.TheVariants.{Unread, Refused}
use Rattle.plan_files.proofs.Texts.{told_weaker}
use Rattle.plan_keys.specs.declared.fault.PlanFault.{PlanFault}
use Rattle.charging_files.specs.FileLines.{key_of, IsRefusedBy, IsUnread}
use Rattle.command_status.specs.declared.status.Status.{Status}
use Rattle.command_status.specs.declared.status.Status.TheVariants as status
use Rattle.command_status.specs.Told.{FileTold, SinkTold, Prints}

-- what is told of a text, where the source tells it
pub told_text : (left text : Option (List ℕ)) (P : List ℕ → Type 0) → Told left text P → IsSome left → IsSomeAnd text P
told_text None text P h is = absurd (true≢false (sym is))
told_text (Some rest) text P h is = h

pub both_of : (text : Option (List ℕ)) (P Q : List ℕ → Type 0) (R : Type 0) → ((t : List ℕ) → P t → Q t → R) → IsSomeAnd text P → IsSomeAnd text Q → R
both_of None P Q R f p q = absurd p
both_of (Some t) P Q R f p q = f t p q

-- ---- refusals

same_some : {X : Type 0} (x y : X) → Some x ≡ Some y → x ≡ y
same_some x y e = cc

pub none_is_some : {X : Type 0} (x : X) → None ≡ Some x → ⊥
none_is_some x e = cc

-- the key of a first fault
pub refused_by : (first : List ℕ → Option PlanFault) (fault : PlanFault) (key : List ℕ) → key_of fault ≡ Some key → (t : List ℕ) → first t ≡ Some fault → IsRefusedBy first t key
refused_by first fault key is t h = record { fault = fault; first_is = h; key_is = is }

-- a fault with a key is no want of memory
pub told_fault : (first : List ℕ → Option PlanFault) (fault : PlanFault) (key : List ℕ) (left text : Option (List ℕ)) → key_of fault ≡ Some key
    → IsFaultBy first left text (Refused fault) → Told left text (λ t. IsRefusedBy first t key)
told_fault first fault key left text is (inl memory) = absurd (none_is_some key (sym (ap key_of memory) ∙ is))
told_fault first fault key left text is (inr told) = told_weaker left text _ (λ t. IsRefusedBy first t key) (λ t h. refused_by first fault key is t h) told

pub was_read : (fault : PlanFault) → Refused fault ≡ Unread → ⊥
was_read fault e = cc

-- a text is refused at one key
pub one_key : (first : List ℕ → Option PlanFault) (text key other : List ℕ) → IsRefusedBy first text key → IsRefusedBy first text other → key ≡ other
one_key first text key other p q =
    let same : p.fault ≡ q.fault = same_some p.fault q.fault (sym p.first_is ∙ q.first_is) in
    same_some key other (sym p.key_is ∙ ap key_of same ∙ q.key_is)

-- ---- counts of faults

pub never : (n m : ℕ) → m ≡ n → n < m → ⊥
never n m same less = omega (arith, same, less)

pub unread_risen : (n m : ℕ) → m ≡ n → n < m → (P : Type 0) → P
unread_risen n m same less P = absurd (never n m same less)

-- a status that isn't `SourceFault`
abbrev pub IsOther : Status → Type 0
IsOther status.SourceFault = ⊥
IsOther _ = Unit {0}

pub read_status : (s : Status) (file : FileTold) → IsOther s → (file.n < file.m → ⊥) → IsUnread s file
read_status s file is same = (λ unread. absurd (subst IsOther unread is), λ less. absurd (same less))

pub other_printed : (lines : List ℕ) (s : Status) (before after : SinkTold) → Prints lines s before after → IsOther s
other_printed lines s before after (inl h) = subst IsOther (sym h.0) tt
other_printed lines s before after (inr h) = subst IsOther (sym h.0) tt

-- ---- outputs

abbrev output_of : Option (List ℕ) → ℕ → SinkTold
output_of taken faults = record { taken = taken; faults = faults }

pub same_output : (before after : SinkTold) → after.taken ≡ before.taken → after.faults ≡ before.faults → after ≡ before
same_output before after taken faults = ap (λ (t : Option (List ℕ)). output_of t after.faults) taken ∙ ap (λ (n : ℕ). output_of before.taken n) faults
