-- ISO 15118-2:2014 section 8.2.2: a request has one answer.
use Rattle.std.proofs.Common.{◌≡◌, ◌<◌, ◌≤◌, List, [], ◌∷◌, ◌++◌, length, All, Contains, Option, Some, None, refl, sym, ◌∙◌, ap, subst, arith}
use Rattle.std.proofs.lemmas.List.Elements.{All-head, All-tail, All-contains, Contains-append_right}
use Rattle.charge_world.specs.declared.offer.Dialect.{Dialect}
use Rattle.charge_world.specs.declared.offer.Dialect.TheVariants.{Iso, Din}
use Rattle.app_protocol.specs.declared.message.AppRes.{AppRes}
use Rattle.app_protocol.specs.Messages.{Protocol}
use Rattle.app_protocol.specs.Negotiation.{namespace_of, Names, Matches, NoMatch, IsAbove, IsFrom, IsChosen, code_for, Negotiates}

pub there : (before behind : List Protocol) (p : Protocol) → Contains (before ++ p ∷ behind) p
there before behind p = Contains-append_right before (p ∷ behind) p (0, omega arith, refl)

-- the chosen one stands first, and another further back
behind_first : (offer : List Dialect) (p q y : Protocol) (ys behind : List Protocol) (d e : Dialect) → y ≡ p → Matches offer p d → Matches offer q e
    → All (IsAbove offer q.priority) (y ∷ ys) → All (IsFrom offer p.priority) (ys ++ q ∷ behind) → ⊥
behind_first offer p q y ys behind d e same mp mq above from =
    let low : q.priority < p.priority = subst (IsAbove offer q.priority) same (All-head (IsAbove offer q.priority) y ys above) d mp in
    let high : p.priority ≤ q.priority = All-contains (IsFrom offer p.priority) (ys ++ q ∷ behind) q from (there ys behind q) e mq in
    omega (arith, low, high)

first_is : {x y : Protocol} {xs ys : List Protocol} → x ∷ xs ≡ y ∷ ys → x ≡ y
first_is same = cc

rest_is : {x y : Protocol} {xs ys : List Protocol} → x ∷ xs ≡ y ∷ ys → xs ≡ ys
rest_is same = cc

one_entry : (offer : List Dialect) (bs : List Protocol) (p : Protocol) (behind cs : List Protocol) (q : Protocol) (after : List Protocol) (d e : Dialect)
    → bs ++ p ∷ behind ≡ cs ++ q ∷ after → Matches offer p d → Matches offer q e
    → All (IsAbove offer p.priority) bs → All (IsFrom offer p.priority) behind
    → All (IsAbove offer q.priority) cs → All (IsFrom offer q.priority) after → p ≡ q
one_entry offer [] p behind [] q after d e same mp mq pb pf qb qf = first_is same
one_entry offer [] p behind (y ∷ ys) q after d e same mp mq pb pf qb qf =
    absurd (behind_first offer p q y ys after d e (sym (first_is same)) mp mq qb
    (subst (λ (ps : List Protocol). All (IsFrom offer p.priority) ps) (rest_is same) pf))
one_entry offer (x ∷ xs) p behind [] q after d e same mp mq pb pf qb qf =
    absurd (behind_first offer q p x xs behind e d (first_is same) mq mp pb
    (subst (λ (ps : List Protocol). All (IsFrom offer q.priority) ps) (sym (rest_is same)) qf))
one_entry offer (x ∷ xs) p behind (y ∷ ys) q after d e same mp mq pb pf qb qf =
    one_entry offer xs p behind ys q after d e (rest_is same) mp mq
    (All-tail (IsAbove offer p.priority) x xs pb) pf (All-tail (IsAbove offer q.priority) y ys qb) qf

one_namespace : (d e : Dialect) → namespace_of d ≡ namespace_of e → d ≡ e
one_namespace Iso Iso same = refl
one_namespace Din Din same = refl
one_namespace Iso Din same = let wrong : length (namespace_of Iso) ≡ length (namespace_of Din) = ap length same in absurd (omega (arith, wrong))
one_namespace Din Iso same = let wrong : length (namespace_of Din) ≡ length (namespace_of Iso) = ap length same in absurd (omega (arith, wrong))

one_dialect : (p q : Protocol) (d e : Dialect) → p ≡ q → Names p d → Names q e → d ≡ e
one_dialect p q d e same np nq = one_namespace d e (sym np.namespace ∙ ap (λ (x : Protocol). x.namespace) same ∙ nq.namespace)

abbrev pub response : Protocol → Dialect → AppRes
response p d = record { code = code_for p.minor d; schema = Some p.schema }

chosen_once : (offer : List Dialect) (request : List Protocol) (p q : Protocol) (d e : Dialect) → IsChosen offer request p d → IsChosen offer request q e → p ≡ q
chosen_once offer request p q d e c o =
    one_entry offer c.before p c.behind o.before q o.behind d e (sym c.request_is ∙ o.request_is) c.matches o.matches c.earlier c.later o.earlier o.later

none_matches : (offer : List Dialect) (request : List Protocol) (p : Protocol) (d : Dialect) → All (NoMatch offer) request → IsChosen offer request p d → ⊥
none_matches offer request p d none c =
    All-contains (NoMatch offer) (c.before ++ p ∷ c.behind) p (subst (λ (ps : List Protocol). All (NoMatch offer) ps) c.request_is none)
    (there c.before c.behind p) d c.matches

pub record AreOne (a b : AppRes) (c d : Option Dialect) : Type 0 where
  pub answer : a ≡ b
  pub chosen : c ≡ d

both : (offer : List Dialect) (request : List Protocol) (a b : AppRes) (p q : Protocol) (d e : Dialect) → IsChosen offer request p d → IsChosen offer request q e
    → a ≡ response p d → b ≡ response q e → AreOne a b (Some d) (Some e)
both offer request a b p q d e c o ia ib =
    let entry = chosen_once offer request p q d e c o in
    let dialect = one_dialect p q d e entry c.matches.named o.matches.named in
    let answer : response p d ≡ response q e = ap (λ (x : Protocol). response x d) entry ∙ ap (λ (x : Dialect). response q x) dialect in
    record { answer = ia ∙ answer ∙ sym ib; chosen = ap (λ (x : Dialect). Some x) dialect }

pub one_answer : (offer : List Dialect) (request : List Protocol) (a b : AppRes) (c d : Option Dialect)
    → Negotiates offer request a c → Negotiates offer request b d → AreOne a b c d
one_answer offer request a b None None n m = record { answer = n.1 ∙ sym m.1; chosen = refl }
one_answer offer request a b None (Some e) n m = absurd (none_matches offer request m.0 e n.0 m.1)
one_answer offer request a b (Some d) None n m = absurd (none_matches offer request n.0 d m.0 n.1)
one_answer offer request a b (Some d) (Some e) n m = both offer request a b n.0 m.0 d e n.1 m.1 n.2 m.2
