-- What is written by a table has no more bits than the table says.
use Rattle.std.proofs.Common.{◌≡◌, ℕ, ◌+◌, ◌*◌, ◌≤◌, max, List, [], ◌∷◌, map, length, pos, Option, Some, None, ◌⊎◌, inl, inr, arith, mul-le-mul_right}
use Rattle.std.specs.Prelude.{IfSome}
use Rattle.std.specs.List.{AllByRecursion}
use Rattle.std.specs.Option.{option_map}
use Rattle.exi_schema.specs.declared.tables.Datatype.{Datatype}
use Rattle.exi_schema.specs.declared.tables.Datatype.TheVariants.{Bool as BoolType, Named, Bounded, Unsigned, Signed, Binary, Text as TextType}
use Rattle.exi_schema.specs.Plain.{PlainKind}
use Rattle.exi_schema.specs.Steps.{simple_at}
use Rattle.exi_documents.specs.Trees.{Value, Truth, Ordinal, Number, Bytes, Text, Trees}
use Rattle.exi_documents.specs.Values.{IsValue}
use Rattle.tree_words.specs.Contents.{Inside, Of, Holding, element, perhaps_trees, each_trees}
use Rattle.document_sizes.specs.Sizes.{value_weight, simple_weight, attributes_weight, trees_weight, inside_weight}
use Rattle.word_tables.specs.Tables.{Sort, inside, rows, attribute_rows, Table, simple, holding, attributed, meaning, nothing, once, perhaps, each, either, always, no_attributes, attribute_row, picked, placed, Place, value_of, written}
use Rattle.word_tables.specs.Fitting.{IsValueOf, IfEither, CanWrite, datatype_bits, value_bits, simple_bits, bits}

module _ (w : ℕ) (kinds : List PlainKind) where
  abbrev IsWithin : (s : Sort) → Place s → ℕ → Type 0
  IsWithin inside own most = inside_weight w own ≤ most
  IsWithin rows trees most = trees_weight w trees ≤ most
  IsWithin attribute_rows own most = attributes_weight w own ≤ most

  value_small : (d : Datatype) (v : Value) → IsValue d v → value_weight w v ≤ datatype_bits w d
  value_small BoolType (Truth b) h = omega arith
  value_small (Named count) (Ordinal k) h = omega arith
  value_small (Bounded least count) (Number v) h = omega arith
  value_small (Unsigned most) (Number (pos n)) h = omega arith
  value_small (Signed least most) (Number v) h = omega arith
  value_small (Binary most) (Bytes b) h = let few : length b ≤ most = h.0 in omega arith
  value_small (TextType most) (Text c) h = let few : length c ≤ most = h.0 in omega arith
  value_small d v h = absurd h

  leaf_small : (o : Option Datatype) (v : Value) → IsValueOf o v → simple_weight w v ≤ simple_bits w o
  leaf_small None v h = absurd h
  leaf_small (Some d) v h = let few = value_small d v h in omega arith

  value_few : (o : Option Datatype) (v : Value) → IsValueOf o v → value_weight w v ≤ value_bits w o
  value_few None v h = absurd h
  value_few (Some d) v h = value_small d v h

  attribute_small : (name : ℕ) (v : Value) (more : List (ℕ × Value)) (a b : ℕ) → value_weight w v ≤ a → attributes_weight w more ≤ b
      → attributes_weight w ((name, v) ∷ more) ≤ (w + a) + b
  attribute_small name v more a b own others = omega arith

  one_sum : (name : ℕ) (i : Inside) (more : Trees) → trees_weight w (element name i more) ≡ (w + inside_weight w i) + trees_weight w more
  one_sum name (Of value) more = omega arith
  one_sum name (Holding attributes trees) more = omega arith

  one_small : (name : ℕ) (i : Inside) (more : Trees) (a b : ℕ) → inside_weight w i ≤ a → trees_weight w more ≤ b → trees_weight w (element name i more) ≤ (w + a) + b
  one_small name i more a b own others = let sum = one_sum name i more in omega arith

  if_small : {X : Type 0} (name : ℕ) (t : Table inside X) (o : Option X) (more : Trees) (a b : ℕ) → IfSome o (λ y. CanWrite kinds t y)
      → ((x : X) → CanWrite kinds t x → inside_weight w (written t x) ≤ a) → trees_weight w more ≤ b
      → trees_weight w (perhaps_trees name (option_map (λ y. written t y) o) more) ≤ (w + a) + b
  if_small name t None more a b can own others = omega arith
  if_small name t (Some x) more a b can own others = one_small name (written t x) more a b (own x can) others

  each_small : {X : Type 0} (name : ℕ) (t : Table inside X) (xs : List X) (more : Trees) (a b : ℕ) → AllByRecursion (λ y. CanWrite kinds t y) xs
      → ((x : X) → CanWrite kinds t x → inside_weight w (written t x) ≤ a) → trees_weight w more ≤ b
      → trees_weight w (each_trees name (map (λ y. written t y) xs) more) ≤ length xs * (w + a) + b
  each_small name t [] more a b can own others = omega arith
  each_small name t (x ∷ xs) more a b can own others =
      let rest : trees_weight w (each_trees name (map (λ y. written t y) xs) more) ≤ length xs * (w + a) + b = each_small name t xs more a b can.1 own others in
      let first = one_small name (written t x) (each_trees name (map (λ y. written t y) xs) more) a (length xs * (w + a) + b) (own x can.0) rest in
      grind (arith, first)

  fewer : (n most a b weight : ℕ) → n ≤ most → weight ≤ n * a + b → weight ≤ most * a + b
  fewer n most a b weight h e = grind (arith, mul-le-mul_right a h)

  either_small : {X Y : Type 0} (name other : ℕ) (t : Table inside X) (u : Table inside Y) (c : X ⊎ Y) (more : Trees) (a b rest : ℕ)
      → IfEither (λ y. CanWrite kinds t y) (λ y. CanWrite kinds u y) c
      → ((x : X) → CanWrite kinds t x → inside_weight w (written t x) ≤ a)
      → ((y : Y) → CanWrite kinds u y → inside_weight w (written u y) ≤ b) → trees_weight w more ≤ rest
      → trees_weight w (placed (picked name (λ y. written t y) other (λ y. written u y) c) more) ≤ (w + max a b) + rest
  either_small name other t u (inl x) more a b rest can ts us others = let few = ts x can in one_small name (written t x) more (max a b) rest (omega arith) others
  either_small name other t u (inr y) more a b rest can ts us others = let few = us y can in one_small other (written u y) more (max a b) rest (omega arith) others

  holding_small : (trees : Trees) (n : ℕ) → trees_weight w trees ≤ n → inside_weight w (Holding [] trees) ≤ n
  holding_small trees n h = omega arith

  attributed_small : (own : List (ℕ × Value)) (trees : Trees) (a b : ℕ) → attributes_weight w own ≤ a → trees_weight w trees ≤ b
      → inside_weight w (Holding own trees) ≤ a + b
  attributed_small own trees a b few others = omega arith

  small : {s : Sort} {X : Type 0} (t : Table s X) (x : X) → CanWrite kinds t x → IsWithin s (written t x) (bits w kinds t)
  small (simple leaf kind) x can = leaf_small (simple_at kinds kind) (value_of leaf x) can
  small (holding t) x can = holding_small (written t x) (bits w kinds t) (small t x can)
  small (attributed own t) x can =
      attributed_small (written own x.0) (written t x.1) (bits w kinds own) (bits w kinds t) (small own x.0 can.0) (small t x.1 can.1)
  small (meaning of from t) y can = small t (from y) can
  small nothing x can = omega arith
  small (once name t others) x can =
      one_small name (written t x.0) (written others x.1) (bits w kinds t) (bits w kinds others) (small t x.0 can.0) (small others x.1 can.1)
  small (perhaps name t others) x can =
      if_small name t x.0 (written others x.1) (bits w kinds t) (bits w kinds others) can.0 (λ y own. small t y own) (small others x.1 can.1)
  small (each name least most t others) x can =
      fewer (length x.0) most (w + bits w kinds t) (bits w kinds others) (trees_weight w (each_trees name (map (λ y. written t y) x.0) (written others x.1))) can.1
      (each_small name t x.0 (written others x.1) (bits w kinds t) (bits w kinds others) can.2 (λ y own. small t y own) (small others x.1 can.3))
  small (either name t other u others) x can =
      either_small name other t u x.0 (written others x.1) (bits w kinds t) (bits w kinds u) (bits w kinds others) can.0
      (λ y own. small t y own) (λ y own. small u y own) (small others x.1 can.1)
  small (always name t value others) x can =
      one_small name (written t value) (written others x) (bits w kinds t) (bits w kinds others) (small t value can.0) (small others x can.1)
  small no_attributes x can = omega arith
  small (attribute_row name leaf kind others) x can =
      attribute_small name (value_of leaf x.0) (written others x.1) (value_bits w (simple_at kinds kind)) (bits w kinds others)
      (value_few (simple_at kinds kind) (value_of leaf x.0) can.0) (small others x.1 can.1)

  pub table_small : {X : Type 0} (t : Table inside X) (x : X) → CanWrite kinds t x → inside_weight w (written t x) ≤ bits w kinds t
  table_small t x can = small t x can
