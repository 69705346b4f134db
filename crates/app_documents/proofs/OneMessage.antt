-- A tree is that of one message.
use Rattle.std.proofs.Common.{◌≡◌, ℕ, pos, List, [], ◌∷◌, Option, Some, None, refl, ap, ap₂, ◌∙◌}
use Rattle.exi_documents.specs.Trees.{Ordinal, Number, Text, Trees, none, simple, complex, Tree, Complex}
use Rattle.app_documents.specs.Trees.{Offered, Message, Request, Response, tree_of}
use Rattle.app_documents.proofs.Shapes.{fields_of, protocol_trees, schema_tree}

one_offered : (p q : Offered) → fields_of p ≡ fields_of q → p ≡ q
one_offered p q same =
    let n : p.namespace ≡ q.namespace = cc in
    let a : p.major ≡ q.major = cc in
    let i : p.minor ≡ q.minor = cc in
    let s : p.schema ≡ q.schema = cc in
    let r : p.priority ≡ q.priority = cc in
    ap (λ x. record p { namespace = x }) n ∙ ap (λ x. record p { namespace = q.namespace; major = x }) a
    ∙ ap (λ x. record q { minor = x; schema = p.schema; priority = p.priority }) i
    ∙ ap (λ x. record q { schema = x; priority = p.priority }) s ∙ ap (λ x. record q { priority = x }) r

one_list : (ps qs : List Offered) → protocol_trees ps ≡ protocol_trees qs → ps ≡ qs
one_list [] [] same = refl
one_list [] (q ∷ qs) same = absurd cc
one_list (p ∷ ps) [] same = absurd cc
one_list (p ∷ ps) (q ∷ qs) same =
    let first : fields_of p ≡ fields_of q = cc in
    let rest : protocol_trees ps ≡ protocol_trees qs = cc in
    ap₂ (λ (x : Offered) (xs : List Offered). x ∷ xs) (one_offered p q first) (one_list ps qs rest)

one_schema : (one other : Option ℕ) → schema_tree one ≡ schema_tree other → one ≡ other
one_schema None None same = refl
one_schema None (Some n) same = absurd cc
one_schema (Some m) None same = absurd cc
one_schema (Some m) (Some n) same = cc

pub one_message : (m n : Message) → tree_of m ≡ tree_of n → m ≡ n
one_message (Request ps) (Request qs) same = let inside : protocol_trees ps ≡ protocol_trees qs = cc in ap Request (one_list ps qs inside)
one_message (Request ps) (Response code schema) same = absurd cc
one_message (Response code schema) (Request ps) same = absurd cc
one_message (Response code schema) (Response other more) same =
    let codes : code ≡ other = cc in
    let schemas : schema_tree schema ≡ schema_tree more = cc in
    ap₂ (λ (c : ℕ) (s : Option ℕ). Response c s) codes (one_schema schema more schemas)
