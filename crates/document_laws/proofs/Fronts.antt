-- The front of a document: the header, and the number that names the root.
use Rattle.std.proofs.Common.{◌≡◌, ◌≢◌, ℕ, ◌+◌, ◌^◌, ◌<◌, ◌≤◌, ◌⊎◌, Bool, List, ◌++◌, length, take, Some, None, refl, sym, ap, subst, ◌∙◌, arith, inl, inr, length-append}
use Rattle.std.proofs.lemmas.List.{take_at}
use Rattle.std.proofs.lemmas.Bool.Decides.{eqb_tells}
use Rattle.exi_spec.specs.Bits.{number_bits, number_of}
use Rattle.exi_spec.specs.Items.{SpellsNumber, RefusesBits}
use Rattle.exi_spec.specs.Laws.{IsExact}
use Rattle.exi_spec.proofs.BitLaws.{length-number_bits, number_of-number_bits}
use Rattle.exi_spec.proofs.Readers.{exact, numbers_read}
use Rattle.exi_schema.specs.Schemas.{PlainSchema}
use Rattle.exi_schema.specs.declared.places.Root.{Root}
use Rattle.exi_schema.specs.declared.places.Root.TheVariants.{Kind, Unknown, NoSuch}
use Rattle.exi_schema.specs.Steps.{IsRoot}
use Rattle.exi_documents.specs.declared.refusal.RefusalCause.{RefusalCause}
use Rattle.exi_documents.specs.declared.refusal.RefusalCause.TheVariants as cause
use Rattle.exi_spec.specs.declared.BitCause.{BitCause}
use Rattle.exi_spec.specs.declared.BitCause.TheVariants as bit
use Rattle.exi_documents.specs.Trees.{Event, Document, Start, Attribute, Content, EndElement}
use Rattle.exi_documents.specs.Values.{Entries, SpellsValue}
use Rattle.exi_documents.specs.Documents.{header}
use Rattle.exi_documents.specs.Grammar.{Before, AtRoot, State, stands, Moves}
use Rattle.exi_documents.specs.Refusals.{root_cause, RefusesNumber, RefusesHeader, RefusesFront}
use Rattle.document_laws.specs.Laws.{Fault, IsEventExact}
use Rattle.document_laws.proofs.Exact.{Spelling, Refusing, AtStart, same_fault, item, Sifts, SpellsSifted, RefusesSifted, sifted, Given, given, SpellsChained, RefusesChained, chained, same}
use Rattle.document_laws.proofs.Fits.{root_coded, one_root, some_root}
use Rattle.document_laws.proofs.Values.{IsMet, IsUnmet, by_condition}

-- ---- the header

abbrev IsHeader : ℕ → Type 0
IsHeader n = n ≡ 128

abbrev IsOther : ℕ → Type 0
IsOther n = n ≢ 128

abbrev none_of : ℕ → Unit {0}
none_of n = tt

abbrev SpellsHeader : Spelling (Unit {0})
SpellsHeader v bits = bits ≡ header

header_or_not : (n : ℕ) → IsHeader n ⊎ IsOther n
header_or_not n = elim (eqb_tells n 128) [ inl tells ↦ inl tells.1 | inr tells ↦ inr tells.1 ]

length_header : length header ≡ 8
length_header = length-number_bits 8 128

header_there : (bits : List Bool) (r : Fault) → RefusesSifted (SpellsNumber 8) (AtStart (RefusesBits 8)) (IsUnmet IsOther cause.BadHeader) bits r → RefusesHeader bits r.0 × (r.1 ≡ 0)
header_there bits r (inl h) = (inl h.0, h.1)
header_there bits r (inr h) =
    let n = h.0 in
    let front = h.1.0 in
    let long : length front ≡ 8 = ap length h.1.2.spelled ∙ length-number_bits 8 n in
    let whole : length bits ≡ length front + length h.1.1 = ap length h.1.3 ∙ length-append front h.1.1 in
    let first : take 8 bits ≡ front = ap (λ (l : List Bool). take 8 l) h.1.3 ∙ take_at front h.1.1 8 long in
    let low : 128 < 2 ^ 8 = omega arith in (
      inr (
        omega (arith, long, whole),
        λ is. h.2.0 (sym (number_of-number_bits 8 n h.1.2.range) ∙ ap number_of (sym h.1.2.spelled ∙ sym first ∙ is) ∙ number_of-number_bits 8 128 low),
        h.2.1,
      ),
      h.2.2,
    )

header_back : (bits : List Bool) (r : Fault) → RefusesHeader bits r.0 × (r.1 ≡ 0) → RefusesSifted (SpellsNumber 8) (AtStart (RefusesBits 8)) (IsUnmet IsOther cause.BadHeader) bits r
header_back bits r (inl h, at) = inl (h, at)
header_back bits r (inr h, at) =
    elim ((item _ (RefusesBits 8) (exact _ _ _ (numbers_read 8))).decided bits) [
      | inl f ↦
          let begins = f.1 in
          let long : length begins.0 ≡ 8 = ap length begins.2.spelled ∙ length-number_bits 8 f.0 in
          let first : take 8 bits ≡ begins.0 = ap (λ (l : List Bool). take 8 l) begins.3 ∙ take_at begins.0 begins.1 8 long in
          inr (f.0, begins, (λ is. h.1 (first ∙ begins.2.spelled ∙ ap (λ (n : ℕ). number_bits 8 n) is), h.2, at))
      | inr q ↦ absurd (too_short bits q.1.0.0 h.0 q.1.0.1)
    ]
  where
    too_short : (bits : List Bool) (why : BitCause) → 8 ≤ length bits → RefusesBits 8 bits why → ⊥
    too_short bits bit.ShortInput enough short = omega (arith, enough, short)
    too_short bits bit.WiderInteger enough short = short
    too_short bits bit.BadChar enough short = short

header_exact : IsExact SpellsHeader (λ bits (r : Fault). RefusesHeader bits r.0 × (r.1 ≡ 0))
header_exact =
    same (SpellsSifted (SpellsNumber 8) (IsMet IsHeader none_of)) SpellsHeader (RefusesSifted (SpellsNumber 8) (AtStart (RefusesBits 8)) (IsUnmet IsOther cause.BadHeader)) _
    (sifted (SpellsNumber 8) (AtStart (RefusesBits 8)) (IsMet IsHeader none_of) (IsUnmet IsOther cause.BadHeader) (item _ (RefusesBits 8) (exact _ _ _ (numbers_read 8)))
    (by_condition IsHeader IsOther none_of cause.BadHeader header_or_not (λ n is isnt. isnt is)))
    (λ v bits h. h.1.spelled ∙ ap (λ (n : ℕ). number_bits 8 n) h.2.0)
    (λ v bits h. let low : 128 < 2 ^ 8 = omega arith in (128, record { range = low; spelled = h }, (refl, refl)))
    header_there
    header_back

-- ---- the number

-- a number, and the name and kind of its root
abbrev Numbered : Type 0
Numbered = ℕ × ℕ × ℕ

module _ (s : PlainSchema) where
  abbrev NamesRoot : ℕ → Numbered → Type 0
  NamesRoot number w = (w.0 ≡ number) × IsRoot s.roots s.root_bits number (Kind w.1 w.2)

  abbrev NamesNone : ℕ → Fault → Type 0
  NamesNone number fault = (root : Root) × IsRoot s.roots s.root_bits number root × (root_cause root ≡ Some fault.0) × (fault.1 ≡ 0)

  named_or_none : (number : ℕ) (root : Root) → IsRoot s.roots s.root_bits number root → ((w : Numbered) × NamesRoot number w) ⊎ ((r : Fault) × NamesNone number r)
  named_or_none number (Kind name kind) h = inl ((number, name, kind), (refl, h))
  named_or_none number Unknown h = inr ((cause.UnknownElement, 0), (Unknown, h, refl, refl))
  named_or_none number NoSuch h = inr ((cause.NoSuchCode, 0), (NoSuch, h, refl, refl))

  one_named : (number : ℕ) (w x : Numbered) → NamesRoot number w → NamesRoot number x → w ≡ x
  one_named number w x p q =
      let e = one_root s number w.1 w.2 x.1 x.2 p.1 q.1 in
      let numbers : w.0 ≡ x.0 = p.0 ∙ sym q.0 in
      ap (λ (n : ℕ). (n, w.1, w.2)) numbers ∙ ap (λ (n : ℕ). (x.0, n, w.2)) e.0 ∙ ap (λ (n : ℕ). (x.0, x.1, n)) e.1

  kind_not : (number name kind : ℕ) (root : Root) (why : RefusalCause) → IsRoot s.roots s.root_bits number (Kind name kind) → IsRoot s.roots s.root_bits number root → root_cause root ≡ Some why → ⊥
  kind_not number name kind (Kind other odd) why p q e = let wrong : None ≡ Some why = e in cc
  kind_not number name kind Unknown why p q e = q.0 p.0 (record { number = number; name = name; kind = kind }) p.1 refl
  kind_not number name kind NoSuch why p q e = root_coded s number name kind p q

  one_cause : (number : ℕ) (a b : Root) (c d : RefusalCause) → IsRoot s.roots s.root_bits number a → IsRoot s.roots s.root_bits number b → root_cause a ≡ Some c → root_cause b ≡ Some d → c ≡ d
  one_cause number (Kind name kind) b c d p q e f = let wrong : None ≡ Some c = e in absurd cc
  one_cause number Unknown (Kind name kind) c d p q e f = let wrong : None ≡ Some d = f in absurd cc
  one_cause number Unknown Unknown c d p q e f = let x : Some cause.UnknownElement ≡ Some c = e in let y : Some cause.UnknownElement ≡ Some d = f in cc
  one_cause number Unknown NoSuch c d p q e f = absurd (p.1 q)
  one_cause number NoSuch (Kind name kind) c d p q e f = let wrong : None ≡ Some d = f in absurd cc
  one_cause number NoSuch Unknown c d p q e f = absurd (q.1 p)
  one_cause number NoSuch NoSuch c d p q e f = let x : Some cause.NoSuchCode ≡ Some c = e in let y : Some cause.NoSuchCode ≡ Some d = f in cc

  number_sifts : Sifts NamesRoot NamesNone
  number_sifts =
      record {
        choice = λ number. let found = some_root s number in named_or_none number found.0 found.1;
        one_good = one_named;
        one_bad = λ number r q h k. same_fault r q (one_cause number h.0 k.0 r.0 q.0 h.1 k.1 h.2 k.2) (h.3 ∙ sym k.3);
        apart = λ number w r p q. kind_not number w.1 w.2 q.0 r.0 p.1 q.1 q.2;
      }

  abbrev SpellsRoot : Spelling Numbered
  SpellsRoot = SpellsSifted (SpellsNumber s.root_bits) NamesRoot

  abbrev RefusesRoot : Refusing
  RefusesRoot = RefusesSifted (SpellsNumber s.root_bits) (AtStart (RefusesBits s.root_bits)) NamesNone

  root_exact : IsExact SpellsRoot RefusesRoot
  root_exact = sifted (SpellsNumber s.root_bits) (AtStart (RefusesBits s.root_bits)) NamesRoot NamesNone (item _ (RefusesBits s.root_bits) (exact _ _ _ (numbers_read s.root_bits))) number_sifts

  -- ---- both

  abbrev RefusesHead : Refusing
  RefusesHead bits fault = RefusesHeader bits fault.0 × (fault.1 ≡ 0)

  front_exact : IsExact (SpellsChained SpellsHeader (λ v. SpellsRoot)) (RefusesChained SpellsHeader RefusesHead (λ v. RefusesRoot))
  front_exact = chained SpellsHeader RefusesHead (λ v. SpellsRoot) (λ v. RefusesRoot) header_exact (λ v front h. root_exact)

  module _ (entries : Entries) where
    abbrev opens : Numbered → Event × State
    opens w = (Document w.0, stands (AtRoot w.1 w.2) entries)

    abbrev SpellsFront : Spelling (Event × State)
    SpellsFront = SpellsSifted (SpellsChained SpellsHeader (λ v. SpellsRoot)) (Given opens)

    front_there : (m : Event × State) (bits : List Bool) → SpellsFront m bits → Moves SpellsValue s (stands Before entries) m.0 bits m.1
    front_there m bits h =
        let w = h.0 in
        let c = h.1 in
        let number : w.0 ≡ c.4.0 = c.4.2.0 in
        subst (λ (x : Event × State). Moves SpellsValue s (stands Before entries) x.0 bits x.1) (sym h.2)
        record {
          name = w.1;
          kind = w.2;
          front = c.2;
          named = subst (λ (n : ℕ). IsRoot s.roots s.root_bits n (Kind w.1 w.2)) (sym number) c.4.2.1;
          numbered = subst (λ (n : ℕ). SpellsNumber s.root_bits n c.2) (sym number) c.4.1;
          bits_are = c.5 ∙ ap (λ (l : List Bool). l ++ c.2) c.3;
          leads = refl;
        }

    front_back : (event : Event) (new : State) (bits : List Bool) → Moves SpellsValue s (stands Before entries) event bits new → SpellsFront (event, new) bits
    front_back (Document number) new bits h =
        ((number, h.name, h.kind), (tt, header, h.front, refl, (number, h.numbered, (refl, h.named)), h.bits_are), ap (λ (state : State). (Document number, state)) h.leads)
    front_back (Start name) new bits h = absurd h
    front_back (Attribute name value) new bits h = absurd h
    front_back (Content value) new bits h = absurd h
    front_back EndElement new bits h = absurd h

    refused_number : (bits : List Bool) (why : RefusalCause) (at : ℕ) → RefusesRoot bits (why, at) → RefusesNumber s bits why × (at ≡ 0)
    refused_number bits why at (inl h) = (inl h.0, h.1)
    refused_number bits why at (inr h) = (inr (h.0, h.2.0, h.1, h.2.1, h.2.2), h.2.3)

    number_refused : (bits : List Bool) (why : RefusalCause) → RefusesNumber s bits why → RefusesRoot bits (why, 0)
    number_refused bits why (inl h) = inl (h, refl)
    number_refused bits why (inr h) = inr (h.0, h.2, (h.1, h.3, h.4, refl))

    refused_there : (bits : List Bool) (r : Fault) → RefusesChained SpellsHeader RefusesHead (λ v. RefusesRoot) bits r → RefusesFront s bits r.0 r.1
    refused_there bits r (inl h) = inl h
    refused_there bits r (inr h) =
        let q = refused_number h.2 r.0 h.3 h.6 in
        let long : length h.1 ≡ 8 = ap length h.4 ∙ length_header in
        inr (h.2, h.5 ∙ ap (λ (l : List Bool). l ++ h.2) h.4, q.0, omega (arith, h.7, long, q.1))

    refused_back : (bits : List Bool) (r : Fault) → RefusesFront s bits r.0 r.1 → RefusesChained SpellsHeader RefusesHead (λ v. RefusesRoot) bits r
    refused_back bits r (inl h) = inl h
    refused_back bits r (inr h) =
        inr (tt, header, h.0, 0, refl, h.1, number_refused h.0 r.0 h.2, omega (arith, h.3, length_header))

    pub before_exact : IsEventExact s (stands Before entries)
    before_exact =
        same SpellsFront _ (RefusesChained SpellsHeader RefusesHead (λ v. RefusesRoot)) _ (given (SpellsChained SpellsHeader (λ v. SpellsRoot)) _ opens front_exact)
        front_there
        (λ m bits h. front_back m.0 m.1 bits h)
        refused_there
        refused_back
