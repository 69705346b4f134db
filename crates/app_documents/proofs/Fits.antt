-- A tree that holds what the negotiation's declarations say is that of a message.
use Rattle.std.proofs.Common.{◌≡◌, ℕ, zero, suc, pos, negsuc, ◌+◌, ◌<◌, ◌≤◌, Bool, List, [], ◌∷◌, ◌++◌, length, map, Option, Some, None, refl, sym, ap, subst, ◌∙◌, ◌⊎◌, inl, inr, arith, slice_get}
use Rattle.std.proofs.lemmas.List.{append-nil}
use Rattle.std.specs.List.{AllByRecursion}
use Rattle.exi_schema.specs.declared.tables.Datatype.TheVariants as datatype
use Rattle.exi_schema.specs.declared.tables.Member.{Member}
use Rattle.exi_schema.specs.declared.tables.RootOf.{RootOf}
use Rattle.exi_schema.specs.Plain.{once, up_to, perhaps}
use Rattle.exi_documents.specs.Documents.{SpellsDocument, name_of}
use Rattle.exi_documents.specs.Trees.{Value, Truth, Ordinal, Number, Bytes, Text, Trees, none, simple, complex, Tree, Simple, Complex, alone}
use Rattle.exi_documents.specs.Values.{IsValue, SpellsValue}
use Rattle.kind_laws.specs.Kinds.{IsMemberOf, AreDivided, FitsSchema, member_of}
use Rattle.kind_laws.proofs.Documents.{document_fits}
use Rattle.app_schema.specs.Declarations.{kinds, roots, negotiation_schema, protocol_particles, request_particles, response_particles}
use Rattle.app_documents.specs.Trees.{Offered, IsOffered, Message, Request, Response, IsMessage, IsByte, tree_of, number_of}
use Rattle.app_documents.proofs.Shapes.{fields_of, protocol_trees, schema_tree}
use Rattle.app_schema.specs.declared.names.TheConstants.{REQUEST, RESPONSE, APP_PROTOCOL, NAMESPACE, MAJOR, MINOR, SCHEMA_ID, PRIORITY, RESPONSE_CODE}
use Rattle.kind_laws.proofs.Single.{once_divided, perhaps_divided, sole, nothing_held, has_field, has_element, AreHeld}

-- ---- values

is_text : (most : ℕ) (value : Value) → IsValue (datatype.Text most) value → (chars : List ℕ) × (value ≡ Text chars) × IsValue (datatype.Text most) (Text chars)
is_text most (Truth truth) is = absurd is
is_text most (Ordinal ordinal) is = absurd is
is_text most (Number v) is = absurd is
is_text most (Bytes bytes) is = absurd is
is_text most (Text chars) is = (chars, refl, is)

is_unsigned : (most : ℕ) (value : Value) → IsValue (datatype.Unsigned most) value → (n : ℕ) × (value ≡ Number (pos n)) × (n ≤ most)
is_unsigned most (Truth truth) is = absurd is
is_unsigned most (Ordinal ordinal) is = absurd is
is_unsigned most (Number (pos n)) is = (n, refl, is)
is_unsigned most (Number (negsuc n)) is = absurd is
is_unsigned most (Bytes bytes) is = absurd is
is_unsigned most (Text chars) is = absurd is

is_bounded : (least count : ℕ) (value : Value) → IsValue (datatype.Bounded (pos least) count) value → (n : ℕ) × (value ≡ Number (pos n)) × (least ≤ n) × (n < least + count)
is_bounded least count (Truth truth) is = absurd is
is_bounded least count (Ordinal ordinal) is = absurd is
is_bounded least count (Number v) is = let below = is.1 in (least + is.0, ap Number is.2, omega arith, omega (arith, below))
is_bounded least count (Bytes bytes) is = absurd is
is_bounded least count (Text chars) is = absurd is

is_ordinal : (count : ℕ) (value : Value) → IsValue (datatype.Named count) value → (n : ℕ) × (value ≡ Ordinal n) × (n < count)
is_ordinal count (Truth truth) is = absurd is
is_ordinal count (Ordinal ordinal) is = (ordinal, refl, is)
is_ordinal count (Number v) is = absurd is
is_ordinal count (Bytes bytes) is = absurd is
is_ordinal count (Text chars) is = absurd is

field_is : (name : ℕ) (value v : Value) (trees more rest : Trees) → trees ≡ simple name value more → value ≡ v → more ≡ rest → trees ≡ simple name v rest
field_is name value v trees more rest is one two = is ∙ ap (λ x. simple name x more) one ∙ ap (λ m. simple name v m) two

-- ---- an AppProtocol

offered_is : (members : List Member) (trees : Trees) → AreDivided protocol_particles members → AreHeld kinds members trees → (p : Offered) × IsOffered p × (trees ≡ fields_of p)
offered_is members trees divided held =
    let d0 = once_divided NAMESPACE 0 (once MAJOR 1 ∷ once MINOR 1 ∷ once SCHEMA_ID 2 ∷ once PRIORITY 3 ∷ []) members divided in
    let f0 = has_field kinds NAMESPACE 0 (datatype.Text 100) members d0.0 trees d0.2 refl held in
    let v0 = is_text 100 f0.value f0.is_value in
    let d1 = once_divided MAJOR 1 (once MINOR 1 ∷ once SCHEMA_ID 2 ∷ once PRIORITY 3 ∷ []) d0.0 d0.1 in
    let f1 = has_field kinds MAJOR 1 (datatype.Unsigned 4294967295) d0.0 d1.0 f0.more d1.2 refl f0.held in
    let v1 = is_unsigned 4294967295 f1.value f1.is_value in
    let d2 = once_divided MINOR 1 (once SCHEMA_ID 2 ∷ once PRIORITY 3 ∷ []) d1.0 d1.1 in
    let f2 = has_field kinds MINOR 1 (datatype.Unsigned 4294967295) d1.0 d2.0 f1.more d2.2 refl f1.held in
    let v2 = is_unsigned 4294967295 f2.value f2.is_value in
    let d3 = once_divided SCHEMA_ID 2 (once PRIORITY 3 ∷ []) d2.0 d2.1 in
    let f3 = has_field kinds SCHEMA_ID 2 (datatype.Bounded (pos 0) 256) d2.0 d3.0 f2.more d3.2 refl f2.held in
    let v3 = is_bounded 0 256 f3.value f3.is_value in
    let d4 = once_divided PRIORITY 3 [] d3.0 d3.1 in
    let f4 = has_field kinds PRIORITY 3 (datatype.Bounded (pos 1) 20) d3.0 d4.0 f3.more d4.2 refl f3.held in
    let v4 = is_bounded 1 20 f4.value f4.is_value in
    let last = nothing_held kinds d4.0 f4.more d4.1 f4.held in
    let priority : Trees = simple PRIORITY (Number (pos v4.0)) none in
    let schema : Trees = simple SCHEMA_ID (Number (pos v3.0)) priority in
    let minor : Trees = simple MINOR (Number (pos v2.0)) schema in
    let major : Trees = simple MAJOR (Number (pos v1.0)) minor in (
      record { namespace = v0.0; major = v1.0; minor = v2.0; schema = v3.0; priority = v4.0 },
      record {
        namespace_fits = v0.2.0;
        namespace_chars = v0.2.1;
        major_fits = omega (arith, v1.2);
        minor_fits = omega (arith, v2.2);
        schema_fits = omega (arith, v3.3);
        priority_least = v4.2;
        priority_most = omega (arith, v4.3);
      },
      field_is NAMESPACE f0.value (Text v0.0) trees f0.more major f0.trees_are v0.1
          (field_is MAJOR f1.value (Number (pos v1.0)) f0.more f1.more minor f1.trees_are v1.1
          (field_is MINOR f2.value (Number (pos v2.0)) f1.more f2.more schema f2.trees_are v2.1
          (field_is SCHEMA_ID f3.value (Number (pos v3.0)) f2.more f3.more priority f3.trees_are v3.1
          (field_is PRIORITY f4.value (Number (pos v4.0)) f3.more f4.more none f4.trees_are v4.1 last)))),
    )

-- ---- a request

record AreOffered (members : List Member) (trees : Trees) : Type 0 where
  protocols : List Offered
  as_many : length protocols ≡ length members
  all : AllByRecursion (λ p. IsOffered p) protocols
  trees_are : trees ≡ protocol_trees protocols

are_offered : (members : List Member) (trees : Trees) → AllByRecursion (IsMemberOf (up_to 20 APP_PROTOCOL 5)) members → AreHeld kinds members trees → AreOffered members trees
are_offered [] trees all held = record { protocols = []; as_many = refl; all = tt {0}; trees_are = nothing_held kinds [] trees refl held }
are_offered (m ∷ members) trees all held =
    let m_is = sole APP_PROTOCOL 5 all.0.index m all.0.found in
    let e = has_element kinds APP_PROTOCOL 5 protocol_particles (m ∷ members) members trees (ap (λ x. x ∷ members) m_is) refl held in
    let p = offered_is e.inside e.children e.divided e.held_inside in
    let rest = are_offered members e.more all.1 e.held in
    record {
      protocols = p.0 ∷ rest.protocols;
      as_many = ap suc rest.as_many;
      all = (p.1, rest.all);
      trees_are = e.trees_are ∙ ap (λ children. complex APP_PROTOCOL [] children e.more) p.2 ∙ ap (λ more. complex APP_PROTOCOL [] (fields_of p.0) more) rest.trees_are;
    }

request_is : (members : List Member) (trees : Trees) → AreDivided request_particles members → AreHeld kinds members trees → (ps : List Offered) × IsMessage (Request ps) × (trees ≡ protocol_trees ps)
request_is members trees divided held =
    let own = divided.4 ∙ ap (λ others. divided.0 ++ others) divided.3 ∙ append-nil divided.0 in
    let all = are_offered divided.0 trees divided.2.own (subst (λ ms. AreHeld kinds ms trees) own held) in
    let least = divided.2.least in
    let most = divided.2.most in
    (all.protocols, (omega (arith, least, all.as_many), omega (arith, most, all.as_many), all.all), all.trees_are)

-- ---- a response

schema_is : (members : List Member) (trees : Trees) → AreDivided (perhaps SCHEMA_ID 2 ∷ []) members → AreHeld kinds members trees → (schema : Option ℕ) × IsByte schema × (trees ≡ schema_tree schema)
schema_is members trees divided held =
    elim (perhaps_divided SCHEMA_ID 2 members divided) [
      | inl none_there ↦ (None, tt {0}, nothing_held kinds members trees none_there held)
      | inr one_there ↦
          let f = has_field kinds SCHEMA_ID 2 (datatype.Bounded (pos 0) 256) members [] trees one_there refl held in
          let v = is_bounded 0 256 f.value f.is_value in
          (Some v.0, omega (arith, v.3), field_is SCHEMA_ID f.value (Number (pos v.0)) trees f.more none f.trees_are v.1 (nothing_held kinds [] f.more refl f.held))
    ]

response_is : (members : List Member) (trees : Trees) → AreDivided response_particles members → AreHeld kinds members trees →
    (code : ℕ) × (schema : Option ℕ) × IsMessage (Response code schema) × (trees ≡ simple RESPONSE_CODE (Ordinal code) (schema_tree schema))
response_is members trees divided held =
    let d = once_divided RESPONSE_CODE 4 (perhaps SCHEMA_ID 2 ∷ []) members divided in
    let f = has_field kinds RESPONSE_CODE 4 (datatype.Named 3) members d.0 trees d.2 refl held in
    let v = is_ordinal 3 f.value f.is_value in
    let last = schema_is d.0 f.more d.1 f.held in
    (v.0, last.0, (v.2, last.1), field_is RESPONSE_CODE f.value (Ordinal v.0) trees f.more (schema_tree last.0) f.trees_are v.1 last.2)

-- ---- roots

abbrev request_root : RootOf
request_root = record { number = 0; name = REQUEST; kind = 6 }

abbrev response_root : RootOf
response_root = record { number = 1; name = RESPONSE; kind = 7 }

root_is : (root : RootOf) (i : ℕ) → slice_get roots i ≡ Some root → (root ≡ request_root) ⊎ (root ≡ response_root)
root_is root zero is = let same : Some request_root ≡ Some root = is in inl cc
root_is root (suc zero) is = let same : Some response_root ≡ Some root = is in inr cc
root_is root (suc (suc i)) is = let wrong : None ≡ Some root = is in absurd cc

alone_is : (tree : Tree) (name : ℕ) (children more : Trees) → alone tree ≡ complex name [] children more → tree ≡ Complex name [] children
alone_is (Simple n value) name children more is = absurd cc
alone_is (Complex n attributes inside) name children more is =
    let one : n ≡ name = cc in
    let two : attributes ≡ [] = cc in
    let three : inside ≡ children = cc in
    ap (λ k. Complex k attributes inside) one ∙ ap (λ l. Complex name l inside) two ∙ ap (λ c. Complex name [] c) three

abbrev pub IsOfMessage : Tree → Type 0
IsOfMessage tree = (m : Message) × IsMessage m × (tree ≡ tree_of m)

by_root : (root : RootOf) (tree : Tree) → (root ≡ request_root) ⊎ (root ≡ response_root) → AreHeld kinds (member_of root ∷ []) (alone tree) → IsOfMessage tree
by_root root tree (inl is) held =
    let e = has_element kinds REQUEST 6 request_particles (member_of root ∷ []) [] (alone tree) (ap (λ r. member_of r ∷ []) is) refl held in
    let r = request_is e.inside e.children e.divided e.held_inside in
    (Request r.0, r.1, alone_is tree REQUEST e.children e.more e.trees_are ∙ ap (λ c. Complex REQUEST [] c) r.2)
by_root root tree (inr is) held =
    let e = has_element kinds RESPONSE 7 response_particles (member_of root ∷ []) [] (alone tree) (ap (λ r. member_of r ∷ []) is) refl held in
    let r = response_is e.inside e.children e.divided e.held_inside in
    (Response r.0 r.1, r.2, alone_is tree RESPONSE e.children e.more e.trees_are ∙ ap (λ c. Complex RESPONSE [] c) r.3)

number_is : (m : Message) (number : ℕ) (tree : Tree) (root : RootOf) → tree ≡ tree_of m → number ≡ root.number → name_of tree ≡ root.name →
    (root ≡ request_root) ⊎ (root ≡ response_root) → number ≡ number_of m
number_is (Request ps) number tree root is one two (inl which) = one ∙ ap (λ (r : RootOf). r.number) which
number_is (Request ps) number tree root is one two (inr which) =
    let named : name_of tree ≡ REQUEST = ap name_of is in
    let wrong : REQUEST ≡ RESPONSE = sym named ∙ two ∙ ap (λ (r : RootOf). r.name) which in absurd cc
number_is (Response code schema) number tree root is one two (inl which) =
    let named : name_of tree ≡ RESPONSE = ap name_of is in
    let wrong : RESPONSE ≡ REQUEST = sym named ∙ two ∙ ap (λ (r : RootOf). r.name) which in absurd cc
number_is (Response code schema) number tree root is one two (inr which) = one ∙ ap (λ (r : RootOf). r.number) which

pub of_message : (number : ℕ) (tree : Tree) (bits : List Bool) → SpellsDocument SpellsValue negotiation_schema number tree bits →
    (m : Message) × IsMessage m × (tree ≡ tree_of m) × (number ≡ number_of m)
of_message number tree bits spelled =
    let fits = (document_fits negotiation_schema number tree bits spelled).0 in
    let m = by_root fits.root tree (root_is fits.root fits.index fits.found) fits.elements in
    let root : RootOf = record { number = number; name = name_of tree; kind = spelled.kind } in
    (m.0, m.1, m.2, number_is m.0 number tree root m.2 refl refl (root_is root spelled.named.0 spelled.named.1))
