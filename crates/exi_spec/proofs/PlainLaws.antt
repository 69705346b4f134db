-- The plain functions give what the definitions say.
use Rattle.std.proofs.Common.{◌≡◌, ℕ, zero, suc, ◌+◌, ◌-◌, ◌*◌, ◌^◌, ◌<◌, ◌≤◌, Bool, true, false, cond, ltb, List, [], ◌∷◌, ◌++◌, length, take, drop, Result, Ok, Err, refl, sym, ap, subst, ◌∙◌, arith, inl, inr, append_assoc}
use Rattle.std.proofs.lemmas.Bool.{cases_lt, lt-ltb, le-ltb}
use Rattle.std.proofs.lemmas.List.{length-append, length-drop, length-take-le, take_at, drop_at, take-append-drop}
use Rattle.std.specs.List.{AllByRecursion}
use Rattle.std.proofs.Common.{◌⊎◌}
use Rattle.exi_spec.specs.declared.BitCause.{BitCause}
use Rattle.exi_spec.specs.declared.BitCause.TheVariants.{ShortInput, WiderInteger, BadChar}
use Rattle.exi_spec.specs.Bits.{number_bits, number_of, bits_of}
use Rattle.exi_spec.specs.Items.{octet, followed, grouped, AreGroups, SpellsOctets, IsWideInOctets, RefusesOctets, SpellsChars, SpellsBytes}
use Rattle.exi_spec.specs.Plain.{behind_group, octets_in, first_char, chars_in, bytes_in}
use Rattle.exi_spec.proofs.BitLaws.{length-number_bits, number_of-number_bits, number_of-lt, number_bits-number_of, low_octet, high_octet}
use Rattle.exi_spec.proofs.OctetLaws.{only_octet, more_octets, short_octet, none_allowed, wide_octets, refused_later}

length-octet : (more : Bool) (group : ℕ) → length (octet more group) ≡ 8
length-octet more group = ap suc (length-number_bits 7 group)

octet_number : (more : Bool) (group : ℕ) → group < 128 → number_of (octet more group) ≡ cond more 128 0 + group
unfolding number_of
octet_number true group h = omega (arith, ap (λ (n : ℕ). 2 ^ n) (length-number_bits 7 group), number_of-number_bits 7 group h)
octet_number false group h = omega (arith, number_of-number_bits 7 group h)

taken : (more : Bool) (group : ℕ) (rest : List Bool) → group < 128 → number_of (take 8 (octet more group ++ rest)) ≡ cond more 128 0 + group
taken more group rest h = ap number_of (take_at (octet more group) rest 8 (length-octet more group)) ∙ octet_number more group h

left : (more : Bool) (group : ℕ) (rest : List Bool) → drop 8 (octet more group ++ rest) ≡ rest
left more group rest = drop_at (octet more group) rest 8 (length-octet more group)

whole : (more : Bool) (group : ℕ) (rest : List Bool) → ltb (length (octet more group ++ rest)) 8 ≡ false
whole more group rest = le-ltb _ _ (omega (arith, length-append (octet more group) rest, length-octet more group))

-- an octet behind which none follows
pub octets_in-last : (most group : ℕ) (rest : List Bool) → group < 128 → octets_in (suc most) (octet false group ++ rest) ≡ Ok (group, rest)
unfolding octets_in
octets_in-last most group rest h =
    let low : ltb group 128 ≡ true = lt-ltb _ _ h in
    let front : number_of (take 8 (octet false group ++ rest)) ≡ group = omega (arith, taken false group rest h) in
    rw (whole false group rest, front, left false group rest, low) refl

-- an octet behind which more follow
pub octets_in-more : (most group : ℕ) (rest : List Bool) → group < 128 → octets_in (suc most) (octet true group ++ rest) ≡ behind_group group (octets_in most rest)
unfolding octets_in
octets_in-more most group rest h =
    let high : ltb (128 + group) 128 ≡ false = le-ltb _ _ (omega arith) in
    let back : 128 + group - 128 ≡ group = omega arith in
    rw (whole true group rest, taken true group rest h, left true group rest, high, back) refl

pub behind_group-ok : (group value : ℕ) (rest : List Bool) → group + 128 * value < 2 ^ 64 → behind_group group (Ok (value, rest)) ≡ Ok (group + 128 * value, rest)
unfolding behind_group
behind_group-ok group value rest h =
    let fits : ltb (group + 128 * value) (2 ^ 64) ≡ true = lt-ltb _ _ h in
    rw fits refl

pub behind_group-wide : (group value : ℕ) (rest : List Bool) → 2 ^ 64 ≤ group + 128 * value → behind_group group (Ok (value, rest)) ≡ Err WiderInteger
unfolding behind_group
behind_group-wide group value rest h =
    let fits : ltb (group + 128 * value) (2 ^ 64) ≡ false = le-ltb _ _ h in
    rw fits refl

behind_group-err : (group : ℕ) (cause : BitCause) → behind_group group (Err cause) ≡ Err cause
unfolding behind_group
behind_group-err group cause = refl

-- one octet more in front, and what stands behind it
step : (most group : ℕ) (tail rest : List Bool) → group < 128 → octets_in (suc most) ((octet true group ++ tail) ++ rest) ≡ behind_group group (octets_in most (tail ++ rest))
step most group tail rest h =
    ap (λ (l : List Bool). octets_in (suc most) l) (append_assoc (octet true group) tail rest) ∙ octets_in-more most group (tail ++ rest) h

grouped_read : (most : ℕ) (groups : List ℕ) (last : ℕ) (rest : List Bool) → length groups < most → AreGroups groups → last < 128 → grouped groups last < 2 ^ 64 → octets_in most ((followed groups ++ octet false last) ++ rest) ≡ Ok (grouped groups last, rest)
grouped_read zero groups last rest count fit low range = absurd (omega (arith, count))
grouped_read (suc most) [] last rest count fit low range = octets_in-last most last rest low
grouped_read (suc most) (group ∷ groups) last rest count fit low range =
    let ih = grouped_read most groups last rest (omega (arith, count)) fit.1 low (omega (arith, range)) in
    ap (λ (l : List Bool). octets_in (suc most) (l ++ rest)) (append_assoc (octet true group) (followed groups) (octet false last))
    ∙ step most group (followed groups ++ octet false last) rest fit.0
    ∙ ap (λ (r : Result (ℕ × List Bool) BitCause). behind_group group r) ih
    ∙ behind_group-ok group (grouped groups last) rest range

-- what is spelled is read, whatever follows
pub octets_in-spelled : (most value : ℕ) (front rest : List Bool) → SpellsOctets most value front → octets_in most (front ++ rest) ≡ Ok (value, rest)
octets_in-spelled most value front rest s =
    ap (λ (l : List Bool). octets_in most (l ++ rest)) s.spelled
    ∙ grouped_read most s.groups s.last rest s.count s.groups_fit s.last_fits (omega (arith, s.value_is, s.range))
    ∙ ap (λ (n : ℕ). Ok (n, rest)) (sym s.value_is)

short_read : (most : ℕ) (groups : List ℕ) (tail : List Bool) → length groups < most → AreGroups groups → length tail < 8 → octets_in most (followed groups ++ tail) ≡ Err ShortInput
unfolding octets_in
short_read zero groups tail count fit short = absurd (omega (arith, count))
short_read (suc most) [] tail count fit short =
    let less : ltb (length tail) 8 ≡ true = lt-ltb _ _ short in
    rw less refl
short_read (suc most) (group ∷ groups) tail count fit short =
    step most group (followed groups) tail fit.0
    ∙ ap (λ (r : Result (ℕ × List Bool) BitCause). behind_group group r) (short_read most groups tail (omega (arith, count)) fit.1 short)
    ∙ behind_group-err group ShortInput

past_read : (most : ℕ) (groups : List ℕ) (tail : List Bool) → length groups ≡ most → AreGroups groups → octets_in most (followed groups ++ tail) ≡ Err WiderInteger
unfolding octets_in
past_read zero [] tail count fit = refl
past_read zero (group ∷ groups) tail count fit = absurd (omega (arith, count))
past_read (suc most) [] tail count fit = absurd (omega (arith, count))
past_read (suc most) (group ∷ groups) tail count fit =
    step most group (followed groups) tail fit.0
    ∙ ap (λ (r : Result (ℕ × List Bool) BitCause). behind_group group r) (past_read most groups tail (omega (arith, count)) fit.1)
    ∙ behind_group-err group WiderInteger

wide_read : (most : ℕ) (groups : List ℕ) (last : ℕ) (rest : List Bool) → length groups < most → AreGroups groups → last < 128 → 2 ^ 64 ≤ grouped groups last → octets_in most ((followed groups ++ octet false last) ++ rest) ≡ Err WiderInteger
wide_read zero groups last rest count fit low wide = absurd (omega (arith, count))
wide_read (suc most) [] last rest count fit low wide = absurd (omega (arith, wide, low))
wide_read (suc most) (group ∷ groups) last rest count fit low wide =
    let there = ap (λ (l : List Bool). octets_in (suc most) (l ++ rest)) (append_assoc (octet true group) (followed groups) (octet false last))
    ∙ step most group (followed groups ++ octet false last) rest fit.0 in
    elim (cases_lt (grouped groups last) (2 ^ 64)) [
      | inl fits ↦
          there
          ∙ ap (λ (r : Result (ℕ × List Bool) BitCause). behind_group group r) (grouped_read most groups last rest (omega (arith, count)) fit.1 low fits)
          ∙ behind_group-wide group (grouped groups last) rest wide
      | inr over ↦
          there
          ∙ ap (λ (r : Result (ℕ × List Bool) BitCause). behind_group group r) (wide_read most groups last rest (omega (arith, count)) fit.1 low over)
          ∙ behind_group-err group WiderInteger
    ]

-- what is refused is refused in reading, for the same cause
pub octets_in-refused : (most : ℕ) (bits : List Bool) (cause : BitCause) → RefusesOctets most bits cause → octets_in most bits ≡ Err cause
octets_in-refused most bits ShortInput r = ap (λ (l : List Bool). octets_in most l) r.there ∙ short_read most r.groups r.tail r.count r.groups_fit r.short
octets_in-refused most bits WiderInteger (inl r) = ap (λ (l : List Bool). octets_in most l) r.there ∙ past_read most r.groups r.tail r.count r.groups_fit
octets_in-refused most bits WiderInteger (inr r) =
    ap (λ (l : List Bool). octets_in most l) (r.there ∙ sym (append_assoc (followed r.groups) (octet false r.last) r.tail))
    ∙ wide_read most r.groups r.last r.tail r.count r.groups_fit r.last_fits r.wide
octets_in-refused most bits BadChar r = absurd r

-- a whole octet in front
record HasOctet (bits : List Bool) : Type 0 where
  pub more : Bool
  pub group : ℕ
  pub low : group < 128
  pub there : bits ≡ octet more group ++ drop 8 bits

octet_there : (bits : List Bool) → 8 ≤ length bits → HasOctet bits
octet_there bits h =
    let long : length (take 8 bits) ≡ 8 = length-take-le 8 bits h in
    let v = number_of (take 8 bits) in
    let below : v < 256 = subst (λ (n : ℕ). v < 2 ^ n) long (number_of-lt (take 8 bits)) in
    let front : bits ≡ number_bits 8 v ++ drop 8 bits =
    sym (take-append-drop 8 bits) ∙ ap (λ (l : List Bool). l ++ drop 8 bits) (sym (number_bits-number_of (take 8 bits)) ∙ ap (λ (n : ℕ). number_bits n v) long) in
    elim (cases_lt v 128) [
      | inl low ↦ record { more = false; group = v; low = low; there = front ∙ ap (λ (l : List Bool). l ++ drop 8 bits) (low_octet v low) }
      | inr high ↦ record { more = true; group = v - 128; low = omega arith; there = front ∙ ap (λ (l : List Bool). l ++ drop 8 bits) ((let back : v ≡ (v - 128) + 128 = omega arith in ap (λ (n : ℕ). number_bits 8 n) back) ∙ high_octet (v - 128) (omega arith)) }
    ]

-- the octets at the front of bits: an Unsigned Integer, or why there is none
abbrev pub FrontOctets : ℕ → List Bool → Type 0
FrontOctets most bits = ((value : ℕ) × (front : List Bool) × (rest : List Bool) × SpellsOctets most value front × (bits ≡ front ++ rest)) ⊎ ((cause : BitCause) × RefusesOctets most bits cause)

record OctetIn (more : Bool) (group : ℕ) (bits : List Bool) : Type 0 where
  pub low : group < 128
  pub there : bits ≡ octet more group ++ drop 8 bits

later_octets : (most : ℕ) (bits : List Bool) (more : Bool) (group : ℕ) → OctetIn more group bits → FrontOctets most (drop 8 bits) → FrontOctets (suc most) bits
later_octets most bits false group o later = inl (group, octet false group, drop 8 bits, only_octet (suc most) group (omega arith) o.low, o.there)
later_octets most bits true group o (inr r) =
    inr (r.0, subst (λ (l : List Bool). RefusesOctets (suc most) l r.0) (sym o.there) (refused_later most group (drop 8 bits) r.0 o.low r.1))
later_octets most bits true group o (inl f) =
    let there : bits ≡ octet true group ++ (f.1 ++ f.2) = o.there ∙ ap (λ (l : List Bool). octet true group ++ l) f.4 in
    elim (cases_lt (group + 128 * f.0) (2 ^ 64)) [
      | inl fits ↦ inl (group + 128 * f.0, octet true group ++ f.1, f.2, more_octets most group f.0 f.1 o.low fits f.3, there ∙ sym (append_assoc (octet true group) f.1 f.2))
      | inr wide ↦ inr (WiderInteger, inr (subst (λ (l : List Bool). IsWideInOctets (suc most) l) (sym there) (wide_octets most group f.0 f.1 f.2 o.low wide f.3)))
    ]

pub front_octets : (most : ℕ) (bits : List Bool) → FrontOctets most bits
front_octets zero bits = inr (WiderInteger, inl (none_allowed bits))
front_octets (suc most) bits =
    elim (cases_lt (length bits) 8) [
      | inl short ↦ inr (ShortInput, short_octet (suc most) bits (omega arith) short)
      | inr long ↦ (let o = octet_there bits long in later_octets most bits o.more o.group (record { low = o.low; there = o.there }) (front_octets most (drop 8 bits)))
    ]

-- ---- code points and bytes

pub chars_in-spelled : (chars : List ℕ) (front rest : List Bool) → SpellsChars chars front → chars_in (length chars) (front ++ rest) ≡ chars
unfolding chars_in first_char
chars_in-spelled [] front rest s = refl
chars_in-spelled (char ∷ chars) front rest s =
    let first = s.0 in
    let more = s.1 in
    let read : octets_in 10 (front ++ rest) ≡ Ok (char, more ++ rest) =
    ap (λ (l : List Bool). octets_in 10 l) (ap (λ (l : List Bool). l ++ rest) s.4 ∙ append_assoc first more rest)
    ∙ octets_in-spelled 10 char first (more ++ rest) s.2.spelled in
    ap (λ (r : Result (ℕ × List Bool) BitCause). first_char (λ (l : List Bool). chars_in (length chars) l) r) read
    ∙ ap (λ (l : List ℕ). char ∷ l) (chars_in-spelled chars more rest s.3)

again : (bytes : List ℕ) (rest : List Bool) → AllByRecursion (λ byte. byte < 256) bytes → bytes_in (length bytes) (bits_of bytes ++ rest) ≡ bytes
unfolding bytes_in bits_of
again [] rest fit = refl
again (byte ∷ bytes) rest fit =
    let regroup : (number_bits 8 byte ++ bits_of bytes) ++ rest ≡ number_bits 8 byte ++ (bits_of bytes ++ rest) = append_assoc (number_bits 8 byte) (bits_of bytes) rest in
    let first : number_of (take 8 ((number_bits 8 byte ++ bits_of bytes) ++ rest)) ≡ byte =
    ap (λ (l : List Bool). number_of (take 8 l)) regroup
    ∙ ap number_of (take_at (number_bits 8 byte) (bits_of bytes ++ rest) 8 (length-number_bits 8 byte))
    ∙ number_of-number_bits 8 byte fit.0 in
    let others : drop 8 ((number_bits 8 byte ++ bits_of bytes) ++ rest) ≡ bits_of bytes ++ rest =
    ap (λ (l : List Bool). drop 8 l) regroup ∙ drop_at (number_bits 8 byte) (bits_of bytes ++ rest) 8 (length-number_bits 8 byte) in
    ap (λ (n : ℕ). n ∷ bytes_in (length bytes) (drop 8 ((number_bits 8 byte ++ bits_of bytes) ++ rest))) first
    ∙ ap (λ (l : List ℕ). byte ∷ l) (ap (λ (l : List Bool). bytes_in (length bytes) l) others ∙ again bytes rest fit.1)

pub bytes_in-spelled : (bytes : List ℕ) (front rest : List Bool) → SpellsBytes bytes front → bytes_in (length bytes) (front ++ rest) ≡ bytes
bytes_in-spelled bytes front rest s = ap (λ (l : List Bool). bytes_in (length bytes) (l ++ rest)) s.spelled ∙ again bytes rest s.range

-- ---- bytes at the front

abbrev nothing : List Bool
nothing = []

take-nil : (n : ℕ) → take n nothing ≡ []
take-nil zero = refl
take-nil (suc n) = refl

pub take-split : (m n : ℕ) (l : List Bool) → take (m + n) l ≡ take m l ++ take n (drop m l)
take-split zero n l = ap (λ (k : ℕ). take k l) (let e : 0 + n ≡ n = omega arith in e)
take-split (suc m) n [] = ap (λ (k : ℕ). take k []) (let e : suc m + n ≡ suc (m + n) = omega arith in e) ∙ sym (take-nil n)
take-split (suc m) n (b ∷ l) = ap (λ (k : ℕ). take k (b ∷ l)) (let e : suc m + n ≡ suc (m + n) = omega arith in e) ∙ ap (λ (t : List Bool). b ∷ t) (take-split m n l)

pub bytes_there : (n : ℕ) (bits : List Bool) → 8 * n ≤ length bits → (length (bytes_in n bits) ≡ n) × SpellsBytes (bytes_in n bits) (take (8 * n) bits)
unfolding bytes_in bits_of
bytes_there zero bits h = (refl, record { range = tt; spelled = ap (λ (k : ℕ). take k bits) (let e : 8 * 0 ≡ 0 = omega arith in e) })
bytes_there (suc n) bits h =
    let later = bytes_there n (drop 8 bits) (omega (arith, length-drop 8 bits)) in
    let long : length (take 8 bits) ≡ 8 = length-take-le 8 bits (omega arith) in
    let v = number_of (take 8 bits) in
    let below : v < 256 = subst (λ (k : ℕ). v < 2 ^ k) long (number_of-lt (take 8 bits)) in
    let first : take 8 bits ≡ number_bits 8 v = sym (number_bits-number_of (take 8 bits)) ∙ ap (λ (k : ℕ). number_bits k v) long in
    let split : take (8 * suc n) bits ≡ take 8 bits ++ take (8 * n) (drop 8 bits) =
    ap (λ (k : ℕ). take k bits) (let e : 8 * suc n ≡ 8 + 8 * n = omega arith in e) ∙ take-split 8 (8 * n) bits in (
      ap suc later.0,
      record {
        range = (below, later.1.range);
        spelled = split ∙ ap (λ (l : List Bool). l ++ take (8 * n) (drop 8 bits)) first ∙ ap (λ (l : List Bool). number_bits 8 v ++ l) later.1.spelled;
      },
    )
