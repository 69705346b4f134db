-- What comes, behind a piece of it.
use Rattle.std.proofs.Common.{◌≡◌, ℕ, List, [], ◌∷◌, ◌++◌, refl, ap, sym, ◌∙◌, append_assoc}
use Rattle.matched_pairs.specs.Phases.{Comes, NothingComes}

pub comes_on : (payload unread way bytes rest : List ℕ) → way ≡ bytes ++ rest → Comes payload unread way → Comes payload (unread ++ bytes) rest
comes_on payload unread way bytes rest e k = record {
  short = k.short;
  frame_is = k.frame_is ∙ ap (λ (x : List ℕ). unread ++ x) e ∙ sym (append_assoc unread bytes rest);
}

nil_left : (a b : List ℕ) → a ++ b ≡ [] → a ≡ []
nil_left [] b e = refl
nil_left (x ∷ a) b e = cc

nil_right : (a b : List ℕ) → a ++ b ≡ [] → b ≡ []
nil_right [] b e = e
nil_right (x ∷ a) b e = cc

pub no_piece : (way bytes rest : List ℕ) → way ≡ bytes ++ rest → way ≡ [] → bytes ≡ []
no_piece way bytes rest e n = nil_left bytes rest (sym e ∙ n)

pub no_rest : (way bytes rest : List ℕ) → way ≡ bytes ++ rest → way ≡ [] → rest ≡ []
no_rest way bytes rest e n = nil_right bytes rest (sym e ∙ n)

pub nothing_to_post : (to_station bytes rest to_car : List ℕ) → to_station ≡ bytes ++ rest → NothingComes to_station to_car → NothingComes rest to_car
nothing_to_post to_station bytes rest to_car e n = record { station = no_rest to_station bytes rest e n.station; car = n.car }

pub nothing_to_car : (to_station to_car bytes rest : List ℕ) → to_car ≡ bytes ++ rest → NothingComes to_station to_car → NothingComes to_station rest
nothing_to_car to_station to_car bytes rest e n = record { station = n.station; car = no_rest to_car bytes rest e n.car }

-- nothing was unread, and nothing is
pub still_nothing : (unread bytes : List ℕ) → unread ≡ [] → bytes ≡ [] → unread ++ bytes ≡ []
still_nothing unread bytes u b = ap (λ (x : List ℕ). x ++ bytes) u ∙ b
