-- One set is picked, or none is.
use Rattle.std.proofs.Common.{◌≡◌, List, [], ◌∷◌, ◌++◌, ℤ, sym, ap, subst, ◌∙◌}
use Rattle.std.specs.List.{All}
use Rattle.std.proofs.lemmas.List.Elements.{All-head, All-tail}
use Rattle.service_spec.specs.Services.{Said, SaidSet, Fits, IsPicked, PicksNone}

module _ (want : List Said) where
  abbrev Misses : SaidSet → Type 0
  Misses s = Fits want s.parameters → ⊥

  same_set : (before other : List SaidSet) (set found : SaidSet) (behind rest : List SaidSet) → before ++ set ∷ behind ≡ other ++ found ∷ rest
      → All Misses before → All Misses other → Fits want set.parameters → Fits want found.parameters → set ≡ found
  same_set [] [] set found behind rest e p q f g = cc
  same_set [] (o ∷ other) set found behind rest e p q f g =
      let first : set ≡ o = cc in
      absurd (All-head Misses o other q (subst (λ (s : SaidSet). Fits want s.parameters) first f))
  same_set (b ∷ before) [] set found behind rest e p q f g =
      let first : found ≡ b = cc in
      absurd (All-head Misses b before p (subst (λ (s : SaidSet). Fits want s.parameters) first g))
  same_set (b ∷ before) (o ∷ other) set found behind rest e p q f g =
      let more : before ++ set ∷ behind ≡ other ++ found ∷ rest = cc in
      same_set before other set found behind rest more (All-tail Misses b before p) (All-tail Misses o other q) f g

  pub one_picked : (sets : List SaidSet) (id other : ℤ) → IsPicked want sets id → IsPicked want sets other → id ≡ other
  one_picked sets id other p q =
      p.id_is ∙ ap (λ (s : SaidSet). s.id) (same_set p.before q.before p.set q.set p.behind q.behind (sym p.split ∙ q.split) p.missed q.missed p.fits q.fits) ∙ sym q.id_is

  missed_there : (before : List SaidSet) (set : SaidSet) (behind : List SaidSet) → All Misses (before ++ set ∷ behind) → Misses set
  missed_there [] set behind all = All-head Misses set behind all
  missed_there (b ∷ before) set behind all = missed_there before set behind (All-tail Misses b (before ++ set ∷ behind) all)

  pub picked_apart : (sets : List SaidSet) (id : ℤ) → IsPicked want sets id → PicksNone want sets → ⊥
  picked_apart sets id p none = missed_there p.before p.set p.behind (subst (λ (l : List SaidSet). All Misses l) p.split none) p.fits
