-- What is written by a table that fits what is declared holds what is declared.
use Rattle.std.proofs.Common.{◌≡◌, ℕ, ◌&&◌, ◌≤◌, nat_le, not, Bool, true, false, List, [], ◌∷◌, map, length, Option, Some, None, ◌⊎◌, inl, inr, refl, ◌∙◌, ap, ap₂, subst, slice_get, sym, if◌then◌else◌, ◌==◌, arith}
use Rattle.std.specs.Prelude.{IfSome}
use Rattle.std.proofs.lemmas.Bool.{leb-true, le-leb}
use Rattle.std.proofs.lemmas.List.{length-map}
use Rattle.std.specs.List.{AllByRecursion, list_all}
use Rattle.std.specs.Option.{option_map}
use Rattle.std.specs.Cmp.Derive.{both_true}
use Rattle.exi_schema.specs.declared.tables.AttributeOf.{AttributeOf}
use Rattle.exi_schema.specs.declared.tables.Datatype.{Datatype}
use Rattle.exi_schema.specs.Plain.{PlainKind, valued, containing, PlainParticle}
use Rattle.exi_schema.specs.Steps.{simple_at}
use Rattle.exi_schema.proofs.Conditions.{and-l, and-r}
use Rattle.exi_documents.specs.Trees.{Value, Trees, none}
use Rattle.exi_documents.specs.Values.{IsValue}
use Rattle.kind_laws.specs.Kinds.{HasValue}
use Rattle.tree_words.specs.Contents.{Holding, element, perhaps_trees, each_trees, Given, given, perhaps_given, Part, one, perhaps as perhaps_part, each as each_part, attributes_of, trees_of}
use Rattle.tree_words.specs.Particles.{alternatives, kind_among, has_room_for}
use Rattle.tree_words.proofs.Distinct.{number_is}
use Rattle.fitting_parts.specs.Fitting.{HoldsTrees, FitsGiven, FitsElement, FitsPart, FitsParts, takes_copies}
use Rattle.fitting_parts.proofs.Fitted.{holding_held}
use Rattle.word_tables.specs.Tables.{Sort, inside, rows, attribute_rows, Table, simple, holding, attributed, meaning, nothing, once, perhaps, each, either, always, no_attributes, attribute_row, picked, placed, Place, value_of, written}
use Rattle.word_tables.specs.Fitting.{IsValueOf, IfEither, CanWrite, fits_too, Declared, none_required, fits_kind, fits_attribute, fits_here, fits_next, fits}

module _ (kinds : List PlainKind) where
  abbrev pub Holds : (s : Sort) → Place s → Declared s → Type 0
  Holds inside own kind = HoldsTrees kinds kind own
  Holds rows trees particles = (parts : List Part) × FitsParts kinds particles parts × (trees_of parts ≡ trees)
  Holds attribute_rows own attributes = (gs : List Given) × FitsGiven kinds attributes gs × (attributes_of gs ≡ own)

  -- ---- values

  has_value : (kind : ℕ) (value : Value) (o : Option Datatype) → simple_at kinds kind ≡ o → IsValueOf o value → HasValue IsValue kinds kind value
  has_value kind value None e h = absurd h
  has_value kind value (Some datatype) e h = (datatype, e, h)

  -- ---- attributes

  not_required : (b : Bool) → not b ≡ true → b ≡ false
  not_required false h = refl
  not_required true h = absurd cc

  none_fit : (attributes : List AttributeOf) → none_required attributes ≡ true → Holds attribute_rows [] attributes
  none_fit [] h = ([], tt, refl)
  none_fit (a ∷ attributes) h =
      let rest = none_fit attributes (and-r (not a.required) _ h) in
      (perhaps_given a.name None ∷ rest.0, (not_required a.required (and-l (not a.required) _ h), rest.1), rest.2)

  attribute_here : (name own : ℕ) (value : Value) (others : List AttributeOf → Bool) (rest : List (ℕ × Value)) → HasValue IsValue kinds own value
      → ((attributes : List AttributeOf) → others attributes ≡ true → Holds attribute_rows rest attributes)
      → (a : AttributeOf) (attributes : List AttributeOf) (later : Bool) → (later ≡ true → Holds attribute_rows ((name, value) ∷ rest) attributes)
      → (b : Bool) → (a.name == name) ≡ b → (if b then a.kind == own && others attributes else not a.required && later) ≡ true
      → Holds attribute_rows ((name, value) ∷ rest) (a ∷ attributes)
  attribute_here name own value others rest has more a attributes later skipped true e h =
      let behind = more attributes (and-r (a.kind == own) (others attributes) h) in
      let kind_is : own ≡ a.kind = sym (number_is a.kind own (and-l (a.kind == own) (others attributes) h)) in (
        given name value ∷ behind.0,
        (sym (number_is a.name name e), subst (λ k. HasValue IsValue kinds k value) kind_is has, behind.1),
        ap (λ own. (name, value) ∷ own) behind.2,
      )
  attribute_here name own value others rest has more a attributes later skipped false e h =
      let behind = skipped (and-r (not a.required) later h) in
      (perhaps_given a.name None ∷ behind.0, (not_required a.required (and-l (not a.required) later h), behind.1), behind.2)

  attribute_fits : (name own : ℕ) (value : Value) (others : List AttributeOf → Bool) (rest : List (ℕ × Value)) → HasValue IsValue kinds own value
      → ((attributes : List AttributeOf) → others attributes ≡ true → Holds attribute_rows rest attributes)
      → (attributes : List AttributeOf) → fits_attribute name own others attributes ≡ true → Holds attribute_rows ((name, value) ∷ rest) attributes
  attribute_fits name own value others rest has more [] h = absurd cc
  attribute_fits name own value others rest has more (a ∷ attributes) h =
      attribute_here name own value others rest has more a attributes (fits_attribute name own others attributes)
      (attribute_fits name own value others rest has more attributes) (a.name == name) refl h

  -- ---- an element that has rows

  holding_fits : (kind : ℕ) (own : List (ℕ × Value)) (trees : Trees) (bears : List AttributeOf → Bool) (fit : List PlainParticle → Bool) (o : Option PlainKind)
      → slice_get kinds kind ≡ o → fits_kind o bears fit ≡ true
      → ((attributes : List AttributeOf) → bears attributes ≡ true → Holds attribute_rows own attributes)
      → ((particles : List PlainParticle) → fit particles ≡ true → Holds rows trees particles) → HoldsTrees kinds kind (Holding own trees)
  holding_fits kind own trees bears fit None e h first second = absurd cc
  holding_fits kind own trees bears fit (Some (valued datatype)) e h first second = absurd cc
  holding_fits kind own trees bears fit (Some (containing attributes particles)) e h first second =
      let given_are = first attributes (and-l (bears attributes) (fit particles) h) in
      let held = second particles (and-r (bears attributes) (fit particles) h) in
      let whole : Holding (attributes_of given_are.0) (trees_of held.0) ≡ Holding own trees = ap₂ (λ a t. Holding a t) given_are.2 held.2 in
      subst (λ i. HoldsTrees kinds kind i) whole (holding_held kinds kind attributes particles given_are.0 held.0 e given_are.1 held.1)

  -- ---- a row at the next particle of its name

  here : (name : ℕ) (copies : PlainParticle → Bool) (fit : ℕ → Bool) (other : List PlainParticle → Bool) (p : Part) (front : Trees → Trees) (rest : Trees)
      → ((parts : List Part) → trees_of (p ∷ parts) ≡ front (trees_of parts))
      → ((particle : PlainParticle) (kind : ℕ) → kind_among (alternatives particle.members) name ≡ Some kind → copies particle ≡ true
      → fit kind ≡ true → FitsPart kinds particle p)
      → ((particles : List PlainParticle) → other particles ≡ true → Holds rows rest particles)
      → (particle : PlainParticle) (particles : List PlainParticle) (later : Bool) → (later ≡ true → Holds rows (front rest) particles)
      → (o : Option ℕ) → kind_among (alternatives particle.members) name ≡ o
      → fits_here o (takes_copies particle 0) (λ kind. copies particle && fit kind && other particles) later ≡ true
      → Holds rows (front rest) (particle ∷ particles)
  here name copies fit other p front rest told takes more particle particles later skipped None e h =
      let behind = skipped (and-r (takes_copies particle 0) later h) in
      (perhaps_part name None ∷ behind.0, (and-l (takes_copies particle 0) later h, behind.1), behind.2)
  here name copies fit other p front rest told takes more particle particles later skipped (Some kind) e h =
      let both = and-l (copies particle && fit kind) (other particles) h in
      let behind = more particles (and-r (copies particle && fit kind) (other particles) h) in
      (p ∷ behind.0, (takes particle kind e (and-l (copies particle) (fit kind) both) (and-r (copies particle) (fit kind) both), behind.1), told behind.0 ∙ ap front behind.2)

  next : (name : ℕ) (copies : PlainParticle → Bool) (fit : ℕ → Bool) (other : List PlainParticle → Bool) (p : Part) (front : Trees → Trees) (rest : Trees)
      → ((parts : List Part) → trees_of (p ∷ parts) ≡ front (trees_of parts))
      → ((particle : PlainParticle) (kind : ℕ) → kind_among (alternatives particle.members) name ≡ Some kind → copies particle ≡ true
      → fit kind ≡ true → FitsPart kinds particle p)
      → ((particles : List PlainParticle) → other particles ≡ true → Holds rows rest particles)
      → (particles : List PlainParticle) → fits_next name copies fit other particles ≡ true → Holds rows (front rest) particles
  next name copies fit other p front rest told takes more [] h = absurd cc
  next name copies fit other p front rest told takes more (particle ∷ particles) h =
      here name copies fit other p front rest told takes more particle particles (fits_next name copies fit other particles)
      (next name copies fit other p front rest told takes more particles) (kind_among (alternatives particle.members) name) refl h

  nothing_fits : (particles : List PlainParticle) → list_all (λ particle. takes_copies particle 0) particles ≡ true → Holds rows none particles
  nothing_fits [] h = ([], tt, refl)
  nothing_fits (particle ∷ particles) h =
      let rest = nothing_fits particles (and-r (takes_copies particle 0) _ h) in
      (perhaps_part 0 None ∷ rest.0, (and-l (takes_copies particle 0) _ h, rest.1), rest.2)

  -- ---- copies

  perhaps_fits : {X : Type 0} (t : Table inside X) (particle : PlainParticle) (name kind : ℕ) → kind_among (alternatives particle.members) name ≡ Some kind
      → (takes_copies particle 0 && takes_copies particle 1) ≡ true → (o : Option X) → IfSome o (λ y. CanWrite kinds t y)
      → ((x : X) → CanWrite kinds t x → HoldsTrees kinds kind (written t x)) → FitsPart kinds particle (perhaps_part name (option_map (λ y. written t y) o))
  perhaps_fits t particle name kind e takes None can own = and-l (takes_copies particle 0) (takes_copies particle 1) takes
  perhaps_fits t particle name kind e takes (Some x) can own = ((kind, e, own x can), and-r (takes_copies particle 0) (takes_copies particle 1) takes)

  all_fit : {X : Type 0} (t : Table inside X) (particle : PlainParticle) (name kind : ℕ) → kind_among (alternatives particle.members) name ≡ Some kind
      → (xs : List X) → AllByRecursion (λ y. CanWrite kinds t y) xs → ((x : X) → CanWrite kinds t x → HoldsTrees kinds kind (written t x))
      → AllByRecursion (FitsElement kinds particle name) (map (λ y. written t y) xs)
  all_fit t particle name kind e [] can own = tt
  all_fit t particle name kind e (x ∷ xs) can own = ((kind, e, own x can.0), all_fit t particle name kind e xs can.1 own)

  room : (most : Option ℕ) (n k : ℕ) → n ≤ k → has_room_for k most ≡ true → has_room_for n most ≡ true
  room None n k h e = refl
  room (Some most) n k h e = let bound : k ≤ most = leb-true k most e in le-leb n most (omega arith)

  -- no fewer than the least and no more than the most that are taken
  between : (particle : PlainParticle) (least most n : ℕ) → least ≤ n → n ≤ most → takes_copies particle least ≡ true → takes_copies particle most ≡ true
      → takes_copies particle n ≡ true
  between particle least most n lower upper low high =
      let after-low = and-r (nat_le particle.least least) _ low in
      let after-high = and-r (nat_le particle.least most) _ high in
      let enough : particle.least ≤ least = leb-true particle.least least (and-l (nat_le particle.least least) _ low) in
      let few : most ≤ particle.profile = leb-true most particle.profile (and-r (has_room_for most particle.most) _ after-high) in
      let first : nat_le particle.least n ≡ true = le-leb particle.least n (omega arith) in
      let second : has_room_for n particle.most ≡ true = room particle.most n most upper (and-l (has_room_for most particle.most) _ after-high) in
      let third : nat_le n particle.profile ≡ true = le-leb n particle.profile (omega arith) in
      both_true first (both_true second third)

  -- ---- one of two

  second_fits : {Y : Type 0} (u : Table inside Y) (particle : PlainParticle) (other : ℕ) (fit : ℕ → Bool) (o : Option ℕ)
      → kind_among (alternatives particle.members) other ≡ o
      → fits_too o fit ≡ true → (y : Y) → ((kind : ℕ) → fit kind ≡ true → HoldsTrees kinds kind (written u y)) → FitsElement kinds particle other (written u y)
  second_fits u particle other fit None e h y own = absurd cc
  second_fits u particle other fit (Some kind) e h y own = (kind, e, own kind h)

  either_fits : {X Y : Type 0} (t : Table inside X) (u : Table inside Y) (particle : PlainParticle) (name other kind : ℕ) (fit : ℕ → Bool)
      → kind_among (alternatives particle.members) name ≡ Some kind
      → (takes_copies particle 1 && fits_too (kind_among (alternatives particle.members) other) fit) ≡ true
      → (c : X ⊎ Y) → IfEither (λ y. CanWrite kinds t y) (λ y. CanWrite kinds u y) c
      → ((x : X) → CanWrite kinds t x → HoldsTrees kinds kind (written t x))
      → ((k : ℕ) (y : Y) → fit k ≡ true → CanWrite kinds u y → HoldsTrees kinds k (written u y))
      → let own = picked name (λ y. written t y) other (λ y. written u y) c in FitsPart kinds particle (one own.0 own.1)
  either_fits t u particle name other kind fit e takes (inl x) can ts us =
      ((kind, e, ts x can), and-l (takes_copies particle 1) (fits_too (kind_among (alternatives particle.members) other) fit) takes)
  either_fits t u particle name other kind fit e takes (inr y) can ts us = (
    second_fits u particle other fit (kind_among (alternatives particle.members) other) refl
        (and-r (takes_copies particle 1) (fits_too (kind_among (alternatives particle.members) other) fit) takes) y (λ k h. us k y h can),
    and-l (takes_copies particle 1) (fits_too (kind_among (alternatives particle.members) other) fit) takes,
  )

  -- ---- a table

  holds : {s : Sort} {X : Type 0} (t : Table s X) (declared : Declared s) (x : X)
      → fits kinds t declared ≡ true → CanWrite kinds t x → Holds s (written t x) declared
  holds (simple leaf own) kind x h can =
      subst (λ k. HasValue IsValue kinds k (value_of leaf x)) (number_is own kind h) (has_value own (value_of leaf x) (simple_at kinds own) refl can)
  holds (holding t) kind x h can =
      holding_fits kind [] (written t x) none_required (λ particles. fits kinds t particles) (slice_get kinds kind) refl h none_fit
      (λ particles fit. holds t particles x fit can)
  holds (attributed own t) kind x h can =
      holding_fits kind (written own x.0) (written t x.1) (λ attributes. fits kinds own attributes) (λ particles. fits kinds t particles)
      (slice_get kinds kind) refl h (λ attributes fit. holds own attributes x.0 fit can.0) (λ particles fit. holds t particles x.1 fit can.1)
  holds (meaning of from t) declared y h can = holds t declared (from y) h can
  holds nothing particles x h can = nothing_fits particles h
  holds (once name t others) particles x h can =
      next name (λ p. takes_copies p 1) (λ kind. fits kinds t kind) (λ more. fits kinds others more) (one name (written t x.0))
      (λ trees. element name (written t x.0) trees) (written others x.1) (λ parts. refl)
      (λ particle kind e takes fit. ((kind, e, holds t kind x.0 fit can.0), takes)) (λ more fit. holds others more x.1 fit can.1) particles h
  holds (perhaps name t others) particles x h can =
      next name (λ p. takes_copies p 0 && takes_copies p 1) (λ kind. fits kinds t kind) (λ more. fits kinds others more)
      (perhaps_part name (option_map (λ y. written t y) x.0)) (λ trees. perhaps_trees name (option_map (λ y. written t y) x.0) trees) (written others x.1) (λ parts. refl)
      (λ particle kind e takes fit. perhaps_fits t particle name kind e takes x.0 can.0 (λ y own. holds t kind y fit own))
      (λ more fit. holds others more x.1 fit can.1) particles h
  holds (each name least most t others) particles x h can =
      next name (λ p. takes_copies p least && takes_copies p most) (λ kind. fits kinds t kind) (λ more. fits kinds others more)
      (each_part name (map (λ y. written t y) x.0)) (λ trees. each_trees name (map (λ y. written t y) x.0) trees) (written others x.1) (λ parts. refl)
      (λ particle kind e takes fit. (
        all_fit t particle name kind e x.0 can.2 (λ y own. holds t kind y fit own),
        ap (takes_copies particle) (length-map x.0 (λ y. written t y))
            ∙ between particle least most (length x.0) can.0 can.1 (and-l (takes_copies particle least) (takes_copies particle most) takes)
            (and-r (takes_copies particle least) (takes_copies particle most) takes),
      ))
      (λ more fit. holds others more x.1 fit can.3) particles h
  holds (either name t other u others) particles x h can =
      let own = picked name (λ y. written t y) other (λ y. written u y) x.0 in
      next name (λ p. takes_copies p 1 && fits_too (kind_among (alternatives p.members) other) (λ kind. fits kinds u kind)) (λ kind. fits kinds t kind)
      (λ more. fits kinds others more) (one own.0 own.1) (λ trees. placed own trees) (written others x.1) (λ parts. refl)
      (λ particle kind e takes fit. either_fits t u particle name other kind (λ k. fits kinds u k) e takes x.0 can.0
      (λ y own. holds t kind y fit own) (λ k y f own. holds u k y f own))
      (λ more fit. holds others more x.1 fit can.1) particles h
  holds (always name t value others) particles x h can =
      next name (λ p. takes_copies p 1) (λ kind. fits kinds t kind) (λ more. fits kinds others more) (one name (written t value))
      (λ trees. element name (written t value) trees) (written others x) (λ parts. refl)
      (λ particle kind e takes fit. ((kind, e, holds t kind value fit can.0), takes)) (λ more fit. holds others more x fit can.1) particles h
  holds no_attributes attributes x h can = none_fit attributes h
  holds (attribute_row name leaf own others) attributes x h can =
      attribute_fits name own (value_of leaf x.0) (λ more. fits kinds others more) (written others x.1)
      (has_value own (value_of leaf x.0) (simple_at kinds own) refl can.0) (λ more fit. holds others more x.1 fit can.1) attributes h

  -- an element of a kind holds what is declared
  pub table_holds : {X : Type 0} (t : Table inside X) (kind : ℕ) (x : X) → fits kinds t kind ≡ true → CanWrite kinds t x → HoldsTrees kinds kind (written t x)
  table_holds t kind x h can = holds t kind x h can
