-- What a window holds as a whole, and what of it is left behind its first bits.
use Rattle.std.proofs.Common.{ℤ, pos, negsuc, true, false, ◌≡◌, ℕ, suc, ◌+◌, ◌-◌, ◌^◌, ◌<◌, ◌≤◌, Bool, List, [], ◌∷◌, ◌++◌, length, drop, refl, sym, ap, ◌∙◌, arith, append_assoc}
use Rattle.std.proofs.lemmas.List.{length-append, drop_at}
use Rattle.exi_spec.specs.Bits.{number_bits}
use Rattle.exi_spec.specs.Items.{SpellsBool, SpellsNumber, SpellsUnsigned, SpellsInteger, SpellsOctets, AreGroups, octet, followed, grouped}
use Rattle.exi_spec.proofs.BitLaws.{length-number_bits, high_octet}
use Rattle.exi_bits.specs.Reading.{Window, HoldsWhole, Takes, ahead}

octets_long : (most value : ℕ) (bits : List Bool) → SpellsOctets most value bits → 8 ≤ length bits
octets_long most value bits s =
    omega (arith, ap length s.spelled, length-append (followed s.groups) (octet false s.last), length-number_bits 7 s.last)

-- fewer than eight bits hold no octet
pub no_octet : (most value n : ℕ) (window : Window) → window.held < 8 → HoldsWhole (SpellsOctets most value) n window → ⊥
no_octet most value n window few h = omega (arith, few, h.within, octets_long most value h.front h.spelled)

-- none may be longer than all bits that are asked for
pub none_asked : (most value n : ℕ) (window : Window) → n < 8 → HoldsWhole (SpellsOctets most value) n window → ⊥
none_asked most value n window few h = omega (arith, few, h.few, octets_long most value h.front h.spelled)

-- behind an octet of which more follow stand the others
record Behind (most : ℕ) (bits rest whole : List Bool) : Type 0 where
  value : ℕ
  front : List Bool
  spelled : SpellsOctets most value front
  there : bits ≡ front ++ rest
  long : length whole ≡ 8 + length front

behind_octet : (most first : ℕ) (groups : List ℕ) (last : ℕ) (bits rest : List Bool) → 128 ≤ first → first < 256 → length groups < suc most → AreGroups groups → last < 128 → grouped groups last < 2 ^ 64 →
    number_bits 8 first ++ bits ≡ (followed groups ++ octet false last) ++ rest → Behind most bits rest (followed groups ++ octet false last)
behind_octet most first [] last bits rest high range count are fits wide e =
    let back : first ≡ first - 128 + 128 = omega (arith, high) in
    let front : number_bits 8 first ≡ octet true (first - 128) = ap (number_bits 8) back ∙ high_octet (first - 128) (omega (arith, range)) in
    let same : octet true (first - 128) ++ bits ≡ octet false last ++ rest = ap (λ (l : List Bool). l ++ bits) (sym front) ∙ e in
    absurd (cc)
behind_octet most first (group ∷ groups) last bits rest high range count are fits wide e =
    let o = octet true group in
    let f = followed groups in
    let l = octet false last in
    let parts : ((o ++ f) ++ l) ++ rest ≡ o ++ ((f ++ l) ++ rest) =
    ap (λ (m : List Bool). m ++ rest) (append_assoc o f l) ∙ append_assoc o (f ++ l) rest in
    record {
      value = grouped groups last;
      front = f ++ l;
      spelled = record {
        groups = groups;
        last = last;
        count = omega (arith, count);
        groups_fit = are.1;
        last_fits = fits;
        value_is = refl;
        range = omega (arith, wide);
        spelled = refl;
      };
      there =
          sym (drop_at (number_bits 8 first) bits 8 (length-number_bits 8 first))
          ∙ ap (λ (m : List Bool). drop 8 m) (e ∙ parts)
          ∙ drop_at o ((f ++ l) ++ rest) 8 (ap suc (length-number_bits 7 group));
      long = ap length (append_assoc o f l) ∙ length-append o (f ++ l) ∙ ap (λ (k : ℕ). suc k + length (f ++ l)) (length-number_bits 7 group);
    }

pub octets_on : (most first value n : ℕ) (old mid : Window) → 128 ≤ first → Takes (SpellsNumber 8 first) old.cursor mid.cursor → mid.held + 8 ≡ old.held → HoldsWhole (SpellsOctets (suc most) value) (8 + n) old →
    (w : ℕ) × HoldsWhole (SpellsOctets most w) n mid
octets_on most first value n old mid high taken held h =
    let s = h.spelled in
    let passed : ahead old.cursor ≡ number_bits 8 first ++ ahead mid.cursor = taken.2.there ∙ ap (λ (l : List Bool). l ++ ahead mid.cursor) taken.1.spelled in
    let b = behind_octet most first s.groups s.last (ahead mid.cursor) h.rest high (omega (arith, taken.1.range)) s.count s.groups_fit s.last_fits (omega (arith, s.range, s.value_is))
    (sym passed ∙ h.there ∙ ap (λ (l : List Bool). l ++ h.rest) s.spelled) in
    let long : length h.front ≡ 8 + length b.front = ap length s.spelled ∙ b.long in (
      b.value,
      record {
        front = b.front;
        rest = h.rest;
        spelled = b.spelled;
        few = omega (arith, long, h.few);
        within = omega (arith, long, h.within, held);
        there = b.there;
      },
    )

-- ---- a sign, and what stands behind it

-- the magnitude of an Integer
abbrev magnitude : ℤ → ℕ
magnitude (pos n) = n
magnitude (negsuc n) = n

record Signed (value : ℤ) (whole : List Bool) : Type 0 where
  sign : Bool
  behind : List Bool
  spelled : SpellsUnsigned (magnitude value) behind
  there : whole ≡ sign ∷ behind

signed_front : (value : ℤ) (bits : List Bool) → SpellsInteger value bits → Signed value bits
signed_front (pos n) [] s = absurd s
signed_front (negsuc n) [] s = absurd s
signed_front (pos n) (sign ∷ bits) s = record { sign = sign; behind = bits; spelled = s.1; there = refl }
signed_front (negsuc n) (sign ∷ bits) s = record { sign = sign; behind = bits; spelled = s.1; there = refl }

pub no_sign : (value : ℤ) (n : ℕ) (window : Window) → window.held ≡ 0 → HoldsWhole (SpellsInteger value) n window → ⊥
no_sign value n window none h =
    let s = signed_front value h.front h.spelled in
    omega (arith, none, h.within, ap length s.there)

pub sign_on : (sign : Bool) (value : ℤ) (n : ℕ) (old mid : Window) → Takes (SpellsBool sign) old.cursor mid.cursor → mid.held + 1 ≡ old.held → HoldsWhole (SpellsInteger value) (1 + n) old →
    HoldsWhole (SpellsUnsigned (magnitude value)) n mid
sign_on sign value n old mid taken held h =
    let s = signed_front value h.front h.spelled in
    let long : length h.front ≡ suc (length s.behind) = ap length s.there in
    let passed : ahead old.cursor ≡ sign ∷ ahead mid.cursor = taken.2.there ∙ ap (λ (l : List Bool). l ++ ahead mid.cursor) taken.1 in
    record {
      front = s.behind;
      rest = h.rest;
      spelled = s.spelled;
      few = omega (arith, long, h.few);
      within = omega (arith, long, h.within, held);
      there = ap (λ (l : List Bool). drop 1 l) (sym passed ∙ h.there ∙ ap (λ (l : List Bool). l ++ h.rest) s.there);
    }
