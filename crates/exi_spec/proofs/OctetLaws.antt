-- Octets of an Unsigned Integer, one in front of what follows it.
use Rattle.std.proofs.Common.{ℕ, suc, ◌+◌, ◌*◌, ◌^◌, ◌<◌, ◌≤◌, true, false, Bool, List, [], ◌∷◌, ◌++◌, length, refl, sym, ap, ◌∙◌, append_assoc, arith, inl, inr}
use Rattle.exi_spec.specs.declared.BitCause.{BitCause}
use Rattle.exi_spec.specs.declared.BitCause.TheVariants.{ShortInput, WiderInteger, BadChar}
use Rattle.exi_spec.specs.Items.{octet, followed, SpellsOctets, EndsInOctets, PassesOctets, IsWideInOctets, RefusesOctets}

-- an octet behind which none follows
pub only_octet : (most group : ℕ) → 0 < most → group < 128 → SpellsOctets most group (octet false group)
only_octet most group m h =
    record { groups = []; last = group; count = m; groups_fit = tt; last_fits = h; value_is = refl; range = omega arith; spelled = refl }

pub more_octets : (most group value : ℕ) (bits : List Bool) → group < 128 → group + 128 * value < 2 ^ 64 → SpellsOctets most value bits → SpellsOctets (suc most) (group + 128 * value) (octet true group ++ bits)
more_octets most group value bits h range s =
    record {
      groups = group ∷ s.groups;
      last = s.last;
      count = omega (arith, s.count);
      groups_fit = (h, s.groups_fit);
      last_fits = s.last_fits;
      value_is = ap (λ (n : ℕ). group + 128 * n) s.value_is;
      range = range;
      spelled = ap (λ (l : List Bool). octet true group ++ l) s.spelled ∙ sym (append_assoc (octet true group) (followed s.groups) (octet false s.last));
    }

pub short_octet : (most : ℕ) (bits : List Bool) → 0 < most → length bits < 8 → EndsInOctets most bits
short_octet most bits m h = record { groups = []; tail = bits; count = m; groups_fit = tt; short = h; there = refl }

pub none_allowed : (bits : List Bool) → PassesOctets 0 bits
none_allowed bits = record { groups = []; tail = bits; count = refl; groups_fit = tt; there = refl }

-- the value is too large because of the octets that follow
pub wide_octets : (most group value : ℕ) (front rest : List Bool) → group < 128 → 2 ^ 64 ≤ group + 128 * value → SpellsOctets most value front → IsWideInOctets (suc most) (octet true group ++ (front ++ rest))
wide_octets most group value front rest h wide s =
    record {
      groups = group ∷ s.groups;
      last = s.last;
      tail = rest;
      count = omega (arith, s.count);
      groups_fit = (h, s.groups_fit);
      last_fits = s.last_fits;
      wide = omega (arith, s.value_is, wide);
      there =
          ap (λ (l : List Bool). octet true group ++ (l ++ rest)) s.spelled
          ∙ ap (λ (l : List Bool). octet true group ++ l) (append_assoc (followed s.groups) (octet false s.last) rest)
          ∙ sym (append_assoc (octet true group) (followed s.groups) (octet false s.last ++ rest));
    }

-- what is refused behind an octet is refused from it on
pub refused_later : (most group : ℕ) (bits : List Bool) (cause : BitCause) → group < 128 → RefusesOctets most bits cause → RefusesOctets (suc most) (octet true group ++ bits) cause
refused_later most group bits ShortInput h r =
    record {
      groups = group ∷ r.groups;
      tail = r.tail;
      count = omega (arith, r.count);
      groups_fit = (h, r.groups_fit);
      short = r.short;
      there = ap (λ (l : List Bool). octet true group ++ l) r.there ∙ sym (append_assoc (octet true group) (followed r.groups) r.tail);
    }
refused_later most group bits WiderInteger h (inl r) =
    inl (record {
      groups = group ∷ r.groups;
      tail = r.tail;
      count = omega (arith, r.count);
      groups_fit = (h, r.groups_fit);
      there = ap (λ (l : List Bool). octet true group ++ l) r.there ∙ sym (append_assoc (octet true group) (followed r.groups) r.tail);
    })
refused_later most group bits WiderInteger h (inr r) =
    inr (record {
      groups = group ∷ r.groups;
      last = r.last;
      tail = r.tail;
      count = omega (arith, r.count);
      groups_fit = (h, r.groups_fit);
      last_fits = r.last_fits;
      wide = omega (arith, r.wide);
      there = ap (λ (l : List Bool). octet true group ++ l) r.there ∙ sym (append_assoc (octet true group) (followed r.groups) (octet false r.last ++ r.tail));
    })
refused_later most group bits BadChar h r = r
