-- Exchanges that are there in order.
use Rattle.std.proofs.Common.{◌≡◌, Bool, true, false, List, [], ◌∷◌, ◌++◌, refl, ap, inl, inr, ◌⊎◌}
use Rattle.post_spec.specs.Talk.{Exchange}
use Rattle.post_spec.specs.Prepared.{Has, HasNo, set_up, renegotiates}

pub has_more : (kinds : List (Exchange → Bool)) (x : Exchange) (xs : List Exchange) → Has kinds xs → Has kinds (x ∷ xs)
has_more [] x xs h = tt
has_more (kind ∷ kinds) x xs h = inr h

pub has_drop : (kind : Exchange → Bool) (kinds : List (Exchange → Bool)) (xs : List Exchange) → Has (kind ∷ kinds) xs → Has kinds xs
has_drop kind kinds [] h = absurd h
has_drop kind kinds (x ∷ xs) (inl h) = has_more kinds x xs h.1
has_drop kind kinds (x ∷ xs) (inr h) = has_more kinds x xs (has_drop kind kinds xs h)

pub has_front : (kinds : List (Exchange → Bool)) (front xs : List Exchange) → Has kinds xs → Has kinds (front ++ xs)
has_front kinds [] xs h = h
has_front kinds (x ∷ front) xs h = has_more kinds x (front ++ xs) (has_front kinds front xs h)

-- these, behind the last renegotiation if there was one, and the setup before it
pub record RoundOf (kinds : List (Exchange → Bool)) (xs : List Exchange) : Type 0 where
  pub round : List Exchange
  pub renegotiation : Exchange
  pub earlier : List Exchange
  pub xs_are : xs ≡ round ++ renegotiation ∷ earlier
  pub renegotiates_is : renegotiates renegotiation ≡ true
  pub last : HasNo renegotiates round
  pub power : Has kinds round
  pub setup : Has set_up earlier

abbrev pub Rounded : List (Exchange → Bool) → List Exchange → Type 0
Rounded kinds xs = (HasNo renegotiates xs × Has (kinds ++ set_up) xs) ⊎ RoundOf kinds xs

pub round_more : (kinds : List (Exchange → Bool)) (x : Exchange) (xs : List Exchange) → renegotiates x ≡ false → Rounded kinds xs → Rounded kinds (x ∷ xs)
round_more kinds x xs n (inl h) = inl ((n, h.0), has_more (kinds ++ set_up) x xs h.1)
round_more kinds x xs n (inr r) = inr (record {
  round = x ∷ r.round;
  renegotiation = r.renegotiation;
  earlier = r.earlier;
  xs_are = ap (λ (ys : List Exchange). x ∷ ys) r.xs_are;
  renegotiates_is = r.renegotiates_is;
  last = (n, r.last);
  power = has_more kinds x r.round r.power;
  setup = r.setup;
})

pub round_add : (kind : Exchange → Bool) (kinds : List (Exchange → Bool)) (x : Exchange) (xs : List Exchange) → renegotiates x ≡ false → kind x ≡ true → Rounded kinds xs → Rounded (kind ∷ kinds) (x ∷ xs)
round_add kind kinds x xs n e (inl h) = inl ((n, h.0), inl (e, h.1))
round_add kind kinds x xs n e (inr r) = inr (record {
  round = x ∷ r.round;
  renegotiation = r.renegotiation;
  earlier = r.earlier;
  xs_are = ap (λ (ys : List Exchange). x ∷ ys) r.xs_are;
  renegotiates_is = r.renegotiates_is;
  last = (n, r.last);
  power = inl (e, r.power);
  setup = r.setup;
})

pub round_drop : (kind : Exchange → Bool) (kinds : List (Exchange → Bool)) (xs : List Exchange) → Rounded (kind ∷ kinds) xs → Rounded kinds xs
round_drop kind kinds xs (inl h) = inl (h.0, has_drop kind (kinds ++ set_up) xs h.1)
round_drop kind kinds xs (inr r) = inr (record {
  round = r.round;
  renegotiation = r.renegotiation;
  earlier = r.earlier;
  xs_are = r.xs_are;
  renegotiates_is = r.renegotiates_is;
  last = r.last;
  power = has_drop kind kinds r.round r.power;
  setup = r.setup;
})

-- a renegotiation begins a new round
setup_of : (xs : List Exchange) → Rounded [] xs → Has set_up xs
setup_of xs (inl h) = h.1
setup_of xs (inr r) = rw r.xs_are (has_front set_up r.round (r.renegotiation ∷ r.earlier) (has_more set_up r.renegotiation r.earlier r.setup))

pub round_again : (x : Exchange) (xs : List Exchange) → renegotiates x ≡ true → Rounded [] xs → Rounded [] (x ∷ xs)
round_again x xs e h = inr (record {
  round = [];
  renegotiation = x;
  earlier = xs;
  xs_are = refl;
  renegotiates_is = e;
  last = tt;
  power = tt;
  setup = setup_of xs h;
})
