-- Exact codes out of others: an item of a payload, one that is sifted, and one behind another.
use Rattle.std.proofs.Common.{◌≡◌, ℕ, ◌+◌, ◌⊎◌, Bool, List, [], ◌++◌, length, refl, sym, ap, ap₂, subst, ◌∙◌, append_assoc, inl, inr}
use Rattle.std.proofs.lemmas.List.{append_cancel_left}
use Rattle.exi_spec.specs.declared.BitCause.{BitCause}
use Rattle.exi_spec.specs.Items.{Begins}
use Rattle.exi_spec.specs.Laws.{IsExact, AtBit}
use Rattle.exi_documents.specs.declared.refusal.RefusalCause.{RefusalCause}
use Rattle.exi_documents.specs.Values.{cause_of, RefusesItem}
use Rattle.document_laws.specs.Laws.{Fault}

abbrev pub Spelling : Type 0 → Type 1
Spelling V = V → List Bool → Type 0

abbrev pub Refusing : Type 1
Refusing = List Bool → Fault → Type 0

abbrev pub AtStart : (List Bool → BitCause → Type 0) → Refusing
AtStart Refuses bits fault = RefusesItem Refuses bits fault.0 × (fault.1 ≡ 0)

abbrev pub Inward : (List Bool → BitCause → ℕ → Type 0) → Refusing
Inward Refuses bits fault = (why : BitCause) × Refuses bits why fault.1 × (fault.0 ≡ cause_of why)

pub same_fault : (a b : Fault) → a.0 ≡ b.0 → a.1 ≡ b.1 → a ≡ b
same_fault a b c d = ap₂ (λ (x : RefusalCause) (y : ℕ). (x, y)) c d

-- ---- a refusal of an item as one of a payload

pub item : {V : Type 0} (Spells : Spelling V) (Refuses : List Bool → BitCause → Type 0) → IsExact Spells Refuses → IsExact Spells (AtStart Refuses)
item {V} Spells Refuses h =
    record {
      prefix = h.prefix;
      decided = λ bits. elim (h.decided bits) [ inl begins ↦ inl begins | inr r ↦ inr ((cause_of r.0, 0), ((r.0, r.1, refl), refl)) ];
      apart = λ v bits r begins refuses. h.apart v bits refuses.0.0 begins refuses.0.1;
      one_refusal = λ bits r s p q.
          same_fault r s (p.0.2 ∙ ap (λ (c : BitCause). cause_of c) (h.one_refusal bits p.0.0 q.0.0 p.0.1 q.0.1) ∙ sym q.0.2) (p.1 ∙ sym q.1);
    }

pub item_inward : {V : Type 0} (Spells : Spelling V) (Refuses : List Bool → BitCause → ℕ → Type 0) → IsExact Spells (AtBit Refuses) → IsExact Spells (Inward Refuses)
item_inward {V} Spells Refuses h =
    record {
      prefix = h.prefix;
      decided = λ bits. elim (h.decided bits) [ inl begins ↦ inl begins | inr r ↦ inr ((cause_of r.0.0, r.0.1), (r.0.0, r.1, refl)) ];
      apart = λ v bits r begins refuses. h.apart v bits (refuses.0, r.1) begins refuses.1;
      one_refusal = λ bits r s p q.
          let same : (p.0, r.1) ≡ (q.0, s.1) = h.one_refusal bits (p.0, r.1) (q.0, s.1) p.1 q.1 in
          same_fault r s (p.2 ∙ ap (λ (c : BitCause × ℕ). cause_of c.0) same ∙ sym q.2) (ap (λ (c : BitCause × ℕ). c.1) same);
    }

-- ---- values that are sifted

-- each value means another one, or is refused
pub record Sifts {V W : Type 0} (Good : V → W → Type 0) (Bad : V → Fault → Type 0) : Type 0 where
  pub choice : (v : V) → ((w : W) × Good v w) ⊎ ((r : Fault) × Bad v r)
  pub one_good : (v : V) (w x : W) → Good v w → Good v x → w ≡ x
  pub one_bad : (v : V) (r s : Fault) → Bad v r → Bad v s → r ≡ s
  pub apart : (v : V) (w : W) (r : Fault) → Good v w → Bad v r → ⊥

abbrev pub SpellsSifted : {V W : Type 0} → Spelling V → (V → W → Type 0) → Spelling W
SpellsSifted {V} Spells Good w bits = (v : V) × Spells v bits × Good v w

abbrev pub RefusesSifted : {V : Type 0} → Spelling V → Refusing → (V → Fault → Type 0) → Refusing
RefusesSifted {V} Spells Refuses Bad bits fault = Refuses bits fault ⊎ ((v : V) × Begins (Spells v) bits × Bad v fault)

module _ {V W : Type 0} (Spells : Spelling V) (Refuses : Refusing) (Good : V → W → Type 0) (Bad : V → Fault → Type 0) (h : IsExact Spells Refuses) (sift : Sifts Good Bad) where
  begun_once : (v w : V) (bits : List Bool) → Begins (Spells v) bits → Begins (Spells w) bits → v ≡ w
  begun_once v w bits p q = (h.prefix v w p.0 q.0 p.1 q.1 p.2 q.2 (sym p.3 ∙ q.3)).1

  sifted_apart : (w : W) (bits : List Bool) (r : Fault) → Begins (SpellsSifted Spells Good w) bits → RefusesSifted Spells Refuses Bad bits r → ⊥
  sifted_apart w bits r begins (inl refuses) = let s = begins.2 in h.apart s.0 bits r (begins.0, begins.1, s.1, begins.3) refuses
  sifted_apart w bits r begins (inr bad) =
      let s = begins.2 in
      let same : s.0 ≡ bad.0 = begun_once s.0 bad.0 bits (begins.0, begins.1, s.1, begins.3) bad.1 in
      sift.apart bad.0 w r (subst (λ (v : V). Good v w) same s.2) bad.2

  sifted_once : (bits : List Bool) (r s : Fault) → RefusesSifted Spells Refuses Bad bits r → RefusesSifted Spells Refuses Bad bits s → r ≡ s
  sifted_once bits r s (inl p) (inl q) = h.one_refusal bits r s p q
  sifted_once bits r s (inl p) (inr q) = absurd (h.apart q.0 bits r q.1 p)
  sifted_once bits r s (inr p) (inl q) = absurd (h.apart p.0 bits s p.1 q)
  sifted_once bits r s (inr p) (inr q) = sift.one_bad q.0 r s (subst (λ (v : V). Bad v r) (begun_once p.0 q.0 bits p.1 q.1) p.2) q.2

  pub sifted : IsExact (SpellsSifted Spells Good) (RefusesSifted Spells Refuses Bad)
  sifted =
      record {
        prefix = λ w x a b c d p q e.
            let same = h.prefix p.0 q.0 a b c d p.1 q.1 e in
            (same.0, sift.one_good q.0 w x (subst (λ (v : V). Good v w) same.1 p.2) q.2);
        decided = λ bits.
            elim (h.decided bits) [
              | inl f ↦ elim (sift.choice f.0) [
                | inl g ↦ inl (g.0, (f.1.0, f.1.1, (f.0, f.1.2, g.1), f.1.3))
                | inr b ↦ inr (b.0, inr (f.0, f.1, b.1))
              ]
              | inr r ↦ inr (r.0, inl r.1)
            ];
        apart = sifted_apart;
        one_refusal = sifted_once;
      }

-- each value means one other
abbrev pub Given : {V W : Type 0} → (V → W) → V → W → Type 0
Given give v w = w ≡ give v

module _ {V W : Type 0} (Spells : Spelling V) (Refuses : Refusing) (give : V → W) (h : IsExact Spells Refuses) where
  pub given : IsExact (SpellsSifted Spells (Given give)) Refuses
  given =
      record {
        prefix = λ w x a b c d p q e. let same = h.prefix p.0 q.0 a b c d p.1 q.1 e in (same.0, p.2 ∙ ap give same.1 ∙ sym q.2);
        decided = λ bits. elim (h.decided bits) [ inl f ↦ inl (give f.0, (f.1.0, f.1.1, (f.0, f.1.2, refl), f.1.3)) | inr r ↦ inr r ];
        apart = λ w bits r begins refuses. let s = begins.2 in h.apart s.0 bits r (begins.0, begins.1, s.1, begins.3) refuses;
        one_refusal = h.one_refusal;
      }

-- ---- one behind another

abbrev pub SpellsChained : {V W : Type 0} → Spelling V → (V → Spelling W) → Spelling W
SpellsChained {V} Spells Then w bits =
    (v : V) × (front : List Bool) × (rest : List Bool) × Spells v front × Then v w rest × (bits ≡ front ++ rest)

abbrev pub RefusesChained : {V : Type 0} → Spelling V → Refusing → (V → Refusing) → Refusing
RefusesChained {V} Spells Refuses Later bits fault =
    Refuses bits fault
    ⊎ ((v : V) × (front : List Bool) × (rest : List Bool) × (behind : ℕ)
    × Spells v front × (bits ≡ front ++ rest) × Later v rest (fault.0, behind) × (fault.1 ≡ length front + behind))

module _ {V W : Type 0} (Spells : Spelling V) (Refuses : Refusing) (Then : V → Spelling W) (Later : V → Refusing) (h : IsExact Spells Refuses) (g : (v : V) (front : List Bool) → Spells v front → IsExact (Then v) (Later v)) where
  -- what stands in front, and what is left behind it, are one
  fronts : (v w : V) (a b x y : List Bool) → Spells v a → Spells w b → a ++ x ≡ b ++ y → (a ≡ b) × (v ≡ w) × (x ≡ y)
  fronts v w a b x y s t e =
      let same = h.prefix v w a b x y s t e in
      (same.0, same.1, append_cancel_left a x y (e ∙ ap (λ (l : List Bool). l ++ y) (sym same.0)))

  chained_apart : (w : W) (bits : List Bool) (r : Fault) → Begins (SpellsChained Spells Then w) bits → RefusesChained Spells Refuses Later bits r → ⊥
  chained_apart w bits r begins (inl refuses) =
      let s = begins.2 in
      h.apart s.0 bits r (s.1, s.2 ++ begins.1, s.3, begins.3 ∙ ap (λ (l : List Bool). l ++ begins.1) s.5 ∙ append_assoc s.1 s.2 begins.1) refuses
  chained_apart w bits r begins (inr q) =
      let s = begins.2 in
      let e : s.1 ++ (s.2 ++ begins.1) ≡ q.1 ++ q.2 = sym (begins.3 ∙ ap (λ (l : List Bool). l ++ begins.1) s.5 ∙ append_assoc s.1 s.2 begins.1) ∙ q.5 in
      let same = fronts s.0 q.0 s.1 q.1 (s.2 ++ begins.1) q.2 s.3 q.4 e in
      (g q.0 q.1 q.4).apart w q.2 (r.0, q.3) (s.2, begins.1, subst (λ (v : V). Then v w s.2) same.1 s.4, sym same.2) q.6

  chained_once : (bits : List Bool) (r s : Fault) → RefusesChained Spells Refuses Later bits r → RefusesChained Spells Refuses Later bits s → r ≡ s
  chained_once bits r s (inl p) (inl q) = h.one_refusal bits r s p q
  chained_once bits r s (inl p) (inr q) = absurd (h.apart q.0 bits r (q.1, q.2, q.4, q.5) p)
  chained_once bits r s (inr p) (inl q) = absurd (h.apart p.0 bits s (p.1, p.2, p.4, p.5) q)
  chained_once bits r s (inr p) (inr q) =
      let same = fronts p.0 q.0 p.1 q.1 p.2 q.2 p.4 q.4 (sym p.5 ∙ q.5) in
      let moved : Later q.0 q.2 (r.0, p.3) = subst (λ (v : V). Later v q.2 (r.0, p.3)) same.1 (subst (λ (l : List Bool). Later p.0 l (r.0, p.3)) same.2 p.6) in
      let one : (r.0, p.3) ≡ (s.0, q.3) = (g q.0 q.1 q.4).one_refusal q.2 (r.0, p.3) (s.0, q.3) moved q.6 in
      same_fault r s (ap (λ (f : Fault). f.0) one)
      (p.7 ∙ ap (λ (l : List Bool). length l + p.3) same.0 ∙ ap (λ (f : Fault). length q.1 + f.1) one ∙ sym q.7)

  pub chained : IsExact (SpellsChained Spells Then) (RefusesChained Spells Refuses Later)
  chained =
      record {
        prefix = λ w x a b c d p q e.
            let whole : p.1 ++ (p.2 ++ c) ≡ q.1 ++ (q.2 ++ d) =
            sym (ap (λ (l : List Bool). l ++ c) p.5 ∙ append_assoc p.1 p.2 c) ∙ e ∙ (ap (λ (l : List Bool). l ++ d) q.5 ∙ append_assoc q.1 q.2 d) in
            let same = fronts p.0 q.0 p.1 q.1 (p.2 ++ c) (q.2 ++ d) p.3 q.3 whole in
            let later = (g q.0 q.1 q.3).prefix w x p.2 q.2 c d (subst (λ (v : V). Then v w p.2) same.1 p.4) q.4 same.2 in
            (p.5 ∙ ap₂ (λ (k l : List Bool). k ++ l) same.0 later.0 ∙ sym q.5, later.1);
        decided = λ bits.
            elim (h.decided bits) [
              | inl f ↦
                  let s = f.1 in
                  elim ((g f.0 s.0 s.2).decided s.1) [
                    | inl t ↦
                        let u = t.1 in
                        inl (t.0, (s.0 ++ u.0, u.1, (f.0, s.0, u.0, s.2, u.2, refl), s.3 ∙ ap (λ (l : List Bool). s.0 ++ l) u.3 ∙ sym (append_assoc s.0 u.0 u.1)))
                    | inr r ↦ inr ((r.0.0, length s.0 + r.0.1), inr (f.0, s.0, s.1, r.0.1, s.2, s.3, r.1, refl))
                  ]
              | inr r ↦ inr (r.0, inl r.1)
            ];
        apart = chained_apart;
        one_refusal = chained_once;
      }

-- ---- nothing at all, and what a known value says

pub nothing : {W : Type 0} (w : W) → IsExact (λ (v : W) (bits : List Bool). (bits ≡ []) × (v ≡ w)) (λ (bits : List Bool) (r : Fault). ⊥)
nothing {W} w =
    record {
      prefix = λ v x a b c d p q e. (p.0 ∙ sym q.0, p.1 ∙ sym q.1);
      decided = λ bits. inl (w, ([], bits, (refl, refl), refl));
      apart = λ v bits r begins refuses. refuses;
      one_refusal = λ bits r s p q. absurd p;
    }

-- ---- the same in other words

pub same : {V : Type 0} (S T : Spelling V) (Q R : Refusing) → IsExact S Q →
    ((v : V) (bits : List Bool) → S v bits → T v bits) → ((v : V) (bits : List Bool) → T v bits → S v bits) →
    ((bits : List Bool) (r : Fault) → Q bits r → R bits r) → ((bits : List Bool) (r : Fault) → R bits r → Q bits r) → IsExact T R
same {V} S T Q R h there back refused_there refused_back =
    record {
      prefix = λ v w a b x y p q e. h.prefix v w a b x y (back v a p) (back w b q) e;
      decided = λ bits.
          elim (h.decided bits) [
            | inl f ↦ inl (f.0, (f.1.0, f.1.1, there f.0 f.1.0 f.1.2, f.1.3))
            | inr r ↦ inr (r.0, refused_there bits r.0 r.1)
          ];
      apart = λ v bits r begins refuses. h.apart v bits r (begins.0, begins.1, back v begins.0 begins.2, begins.3) (refused_back bits r refuses);
      one_refusal = λ bits r s p q. h.one_refusal bits r s (refused_back bits r p) (refused_back bits s q);
    }
