-- The children of a sequence have room in a word, or find none.
use Rattle.std.proofs.Common.{◌≡◌, ℕ, ◌+◌, ◌<◌, Bool, List, [], ◌∷◌, ◌++◌, length, get_or, Option, Some, None, sym, ap, subst, ◌∙◌, refl, arith, append_assoc}
use Rattle.std.specs.Prelude.{option_copied}
use Rattle.std.proofs.lemmas.List.{length-append}
use Rattle.std.specs.Borrow.{Bor}
use Rattle.exi_spec.specs.Bits.{number_bits}
use Rattle.exi_spec.proofs.BitLaws.{length-number_bits}
use Rattle.exi_schema.specs.declared.places.OptionalSequence.{OptionalSequence}
use Rattle.exi_schema.specs.declared.places.Place.{Place}
use Rattle.exi_schema.specs.declared.places.SequenceChild.{SequenceChild}
use Rattle.exi_schema.specs.Offers.{IsPlace, offers}
use Rattle.exi_schema.specs.Plain.{PlainKind}
use Rattle.exi_schema.specs.Schemas.{PlainSchema}
use Rattle.exi_schema.specs.Sequences.{KeepsSequence}
use Rattle.exi_writing.specs.Documents.{first}
use Rattle.exi_writing.specs.Grammar.{Opened}
use Rattle.exi_writing.specs.Short.{tree_of}
use Rattle.exi_events.specs.declared.child.ChildCode.{ChildCode}
use Rattle.exi_events.specs.declared.child.NamedValue.{NamedValue}
use Rattle.exi_events.specs.declared.child.OptionalChildren.{OptionalChildren}
use Rattle.exi_events.specs.declared.child.ThreeChildren.{ThreeChildren}
use Rattle.exi_events.specs.declared.open.OpenElement.{OpenElement}
use Rattle.exi_events.specs.Inside.{HasTop}
use Rattle.exi_events.specs.Child.{StartsChild, IsNamed, IsNamedShort, IsFull, FitsThree, OffersThree, FitsOptional, OffersOptional, RestBits, inside_bits, child_bits}
use Rattle.exi_events.proofs.Giving.{same_place, same_kind}
use Rattle.exi_events.proofs.Lengths.{joined_long}
use Rattle.exi_events.proofs.Shorts.{same_long}

-- ---- how many bits a child has

pub inside_long : (bits : List Bool) → length (inside_bits bits) ≡ length bits + 2
inside_long bits =
    omega (arith, length-append (number_bits 1 0) (bits ++ number_bits 1 0), length-append bits (number_bits 1 0), length-number_bits 1 0)

pub child_long : (bits : List Bool) → length (child_bits bits) ≡ length bits + 3
child_long bits = omega (arith, length-append (number_bits 1 0) (inside_bits bits), inside_long bits, length-number_bits 1 0)

-- of one value there is one spelling
pub named_long : (child : SequenceChild) (named : NamedValue) (a b : List Bool) → IsNamed child named a → IsNamedShort child named b → length a ≡ length b
named_long child named a b one other = same_long child.datatype (tree_of named.value) a b one.writes other.written

-- it is as long as each spelling of it
pub child_joined : (old new : List Bool) (child : SequenceChild) (named : NamedValue) (a b : List Bool) → new ≡ old ++ child_bits a → IsNamed child named a → IsNamedShort child named b → length new ≡ length old + length (child_bits b)
child_joined old new child named a b is one other =
    omega (arith, joined_long old new (child_bits a) is, child_long a, child_long b, named_long child named a b one other)

without_long : (inside bits : List Bool) → bits ≡ number_bits 2 1 ++ inside_bits inside → length bits ≡ length inside + 4
without_long inside bits is =
    omega (arith, ap length is, length-append (number_bits 2 1) (inside_bits inside), inside_long inside, length-number_bits 2 1)

with_long : (two three bits : List Bool) → bits ≡ number_bits 2 0 ++ (inside_bits two ++ child_bits three) → length bits ≡ length two + length three + 7
with_long two three bits is =
    omega (arith, ap length is, length-append (number_bits 2 0) (inside_bits two ++ child_bits three), length-append (inside_bits two) (child_bits three), inside_long two, child_long three, length-number_bits 2 0)

pub rest_long : (children : OptionalSequence) (second : Option NamedValue) (third : NamedValue) (a b : List Bool) → RestBits IsNamed children second third a → RestBits IsNamedShort children second third b → length a ≡ length b
rest_long children None third a b one other =
    omega (arith, without_long one.0 a one.2, without_long other.0 b other.2, named_long children.third third one.0 other.0 one.1 other.1)
rest_long children (Some second) third a b one other =
    omega (arith, with_long one.0 one.1 a one.4, with_long other.0 other.1 b other.4, named_long children.second second one.0 other.0 one.2 other.2, named_long children.third third one.1 other.1 one.3 other.3)

pub rest_joined : (old new : List Bool) (children : OptionalSequence) (second : Option NamedValue) (third : NamedValue) (a b : List Bool) → new ≡ old ++ a → RestBits IsNamed children second third a → RestBits IsNamedShort children second third b → length new ≡ length old + length b
rest_joined old new children second third a b is one other = omega (arith, joined_long old new a is, rest_long children second third a b one other)

-- ---- the second child is there, or it isn't

module _ (children : OptionalSequence) (second : Option NamedValue) (third : NamedValue) (bits : List Bool) where
  abbrev pub WithSecond : NamedValue → Type 0
  WithSecond named = RestBits IsNamedShort children (Some named) third bits

  abbrev pub WithoutSecond : Type 0
  WithoutSecond = RestBits IsNamedShort children None third bits

  pub with_second : (named : NamedValue) → second ≡ Some named → RestBits IsNamedShort children second third bits → WithSecond named
  with_second named is rest = subst (λ (o : Option NamedValue). RestBits IsNamedShort children o third bits) is rest

  pub without_second : second ≡ None → RestBits IsNamedShort children second third bits → WithoutSecond
  without_second is rest = subst (λ (o : Option NamedValue). RestBits IsNamedShort children o third bits) is rest

  -- no room for its code
  pub with_code : (held : List Bool) (named : NamedValue) → WithSecond named → 64 < length held + 2 → IsFull held bits
  with_code held named rest full = omega (arith, full, with_long rest.0 rest.1 bits rest.4)

  pub without_code : (held : List Bool) → WithoutSecond → 64 < length held + 2 → IsFull held bits
  without_code held rest full = omega (arith, full, without_long rest.0 bits rest.2)

  -- no room for what is inside of it, behind its code
  pub with_inside : (held coded : List Bool) (named : NamedValue) (rest : WithSecond named) → length coded ≡ length held + 2 → IsFull coded (inside_bits rest.0) → IsFull held bits
  with_inside held coded named rest long full = omega (arith, full, long, with_long rest.0 rest.1 bits rest.4, inside_long rest.0)

  pub without_inside : (held coded : List Bool) (rest : WithoutSecond) → length coded ≡ length held + 2 → IsFull coded (inside_bits rest.0) → IsFull held bits
  without_inside held coded rest long full = omega (arith, full, long, without_long rest.0 bits rest.2, inside_long rest.0)

  -- no room for the third behind it
  pub with_third : (held coded valued inside : List Bool) (named : NamedValue) (rest : WithSecond named) → length coded ≡ length held + 2 → length valued ≡ length coded + length (inside_bits inside) →
      IsNamed children.second named inside → IsFull valued (child_bits rest.1) → IsFull held bits
  with_third held coded valued inside named rest long more is full =
      omega (arith, full, long, more, with_long rest.0 rest.1 bits rest.4, inside_long inside, child_long rest.1, named_long children.second named inside rest.0 is rest.2)

-- the bits that are pushed
module _ (children : OptionalSequence) (second : Option NamedValue) (third : NamedValue) (held coded : List Bool) where
  pub with_pushed : (valued new : List Bool) (named : NamedValue) → second ≡ Some named → coded ≡ held ++ number_bits 2 0 →
      (inside : List Bool) × (valued ≡ coded ++ inside_bits inside) × IsNamed children.second named inside →
      (inside : List Bool) × (new ≡ valued ++ child_bits inside) × IsNamed children.third third inside →
      (bits : List Bool) × (new ≡ held ++ bits) × RestBits IsNamed children second third bits
  with_pushed valued new named is code two three =
      let bits = number_bits 2 0 ++ (inside_bits two.0 ++ child_bits three.0) in
      let all : new ≡ held ++ bits =
      three.1
      ∙ ap (λ (l : List Bool). l ++ child_bits three.0) (two.1 ∙ ap (λ (l : List Bool). l ++ inside_bits two.0) code)
      ∙ append_assoc (held ++ number_bits 2 0) (inside_bits two.0) (child_bits three.0)
      ∙ append_assoc held (number_bits 2 0) (inside_bits two.0 ++ child_bits three.0) in
      (bits, all, subst (λ (o : Option NamedValue). RestBits IsNamed children o third bits) (sym is) (two.0, three.0, two.2, three.2, refl))

  pub without_pushed : (new : List Bool) → second ≡ None → coded ≡ held ++ number_bits 2 1 →
      (inside : List Bool) × (new ≡ coded ++ inside_bits inside) × IsNamed children.third third inside →
      (bits : List Bool) × (new ≡ held ++ bits) × RestBits IsNamed children second third bits
  without_pushed new is code three =
      let bits = number_bits 2 1 ++ inside_bits three.0 in
      let all : new ≡ held ++ bits = three.1 ∙ ap (λ (l : List Bool). l ++ inside_bits three.0) code ∙ append_assoc held (number_bits 2 1) (inside_bits three.0) in
      (bits, all, subst (λ (o : Option NamedValue). RestBits IsNamed children o third bits) (sym is) (three.0, three.2, refl))

-- ---- three children

module _ (kinds : List PlainKind) (kind width : ℕ) (values : ThreeChildren) (f : FitsThree kinds kind width values) (told : List SequenceChild) (keeps : KeepsSequence kinds (first kind) told) where
  pub all_three : told ≡ f.one ∷ f.two ∷ f.three ∷ []
  all_three = keeps (f.one ∷ f.two ∷ f.three ∷ []) f.sequence (omega arith)

  module _ (a b c : SequenceChild) (is : told ≡ a ∷ b ∷ c ∷ []) where
    same_three : f.one ∷ f.two ∷ f.three ∷ [] ≡ a ∷ b ∷ c ∷ []
    same_three = sym all_three ∙ is

    pub fits_first : IsNamedShort a values.first f.one_bits
    fits_first = subst (λ (x : SequenceChild). IsNamedShort x values.first f.one_bits) (ap (λ (l : List SequenceChild). get_or l 0 a) same_three) f.first_is

    pub fits_second : IsNamedShort b values.second f.two_bits
    fits_second = subst (λ (x : SequenceChild). IsNamedShort x values.second f.two_bits) (ap (λ (l : List SequenceChild). get_or l 1 a) same_three) f.second_is

    pub fits_third : IsNamedShort c values.third f.three_bits
    fits_third = subst (λ (x : SequenceChild). IsNamedShort x values.third f.three_bits) (ap (λ (l : List SequenceChild). get_or l 2 a) same_three) f.third_is

-- ---- children of which the second may be absent

module _ (kinds : List PlainKind) (kind width : ℕ) (values : OptionalChildren) (f : FitsOptional kinds kind width values) (told : Option (Bor OptionalSequence)) (keeps : option_copied told ≡ Some f.children) where
  pub some_told : told ≡ None → ⊥
  some_told is = let wrong : None ≡ Some f.children = sym (ap option_copied is) ∙ keeps in cc

  module _ (it : Bor OptionalSequence) (is : told ≡ Some it) where
    same_children : f.children ≡ it.now
    same_children = let both : Some f.children ≡ Some it.now = sym keeps ∙ ap option_copied is in cc

    pub fits_one : IsNamedShort it.now.first values.first f.first_bits
    fits_one = subst (λ (all : OptionalSequence). IsNamedShort all.first values.first f.first_bits) same_children f.first_is

    pub fits_rest : RestBits IsNamedShort it.now values.second values.third f.rest_bits
    fits_rest = subst (λ (all : OptionalSequence). RestBits IsNamedShort all values.second values.third f.rest_bits) same_children f.rest_is

-- ---- where the element starts

module _ (s : PlainSchema) (top : Opened) (held : OpenElement) (name : ℕ) (child : ChildCode) (elements above : List Opened) (is : elements ≡ top ∷ above) (has : HasTop elements held) (at : IsPlace s.kinds held.place) (starts : StartsChild s held.place name child) where
  pub three_at : (values : ThreeChildren) → OffersThree s.kinds top.place name values → FitsThree s.kinds child.kind child.width values
  three_at values offers =
      let here : OffersThree s.kinds held.place name values = subst (λ (p : Place). OffersThree s.kinds p name values) (same_place s.kinds top held elements above is has) offers in
      subst (λ (k : ℕ). FitsThree s.kinds k child.width values) (same_kind s held.place name child here.code here.kind here.next at starts here.offered) (here.fits child.width starts.is_width)

  pub optional_at : (values : OptionalChildren) → OffersOptional s.kinds top.place name values → FitsOptional s.kinds child.kind child.width values
  optional_at values offers =
      let here : OffersOptional s.kinds held.place name values = subst (λ (p : Place). OffersOptional s.kinds p name values) (same_place s.kinds top held elements above is has) offers in
      subst (λ (k : ℕ). FitsOptional s.kinds k child.width values) (same_kind s held.place name child here.code here.kind here.next at starts here.offered) (here.fits child.width starts.is_width)
