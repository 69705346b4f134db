-- The winner among the entries so far, one entry on.
use Rattle.std.proofs.Common.{◌≡◌, ◌<◌, List, [], ◌∷◌, ◌++◌, All, Option, Some, None, refl, ap, ◌∙◌, append_assoc, arith}
use Rattle.std.proofs.lemmas.List.Elements.{All-push, All-append, All-weaker, All-cons, All-nil}
use Rattle.charge_world.specs.declared.offer.Dialect.{Dialect}
use Rattle.app_protocol.specs.declared.negotiation.Winner.{Winner}
use Rattle.app_protocol.specs.Messages.{Protocol}
use Rattle.app_protocol.specs.Winning.{IsWinner, Won}
use Rattle.app_protocol.specs.Negotiation.{Matches, NoMatch, IsAbove, IsFrom, code_for}

-- an entry behind, whose Priority isn't below the winner's where it matches
pub stays : (offer : List Dialect) (taken : List Protocol) (w : Winner) (p : Protocol) → IsFrom offer w.priority p → IsWinner offer taken w → IsWinner offer (taken ++ p ∷ []) w
stays offer taken w p from won =
    let c = won.chosen in
    record {
      entry = won.entry;
      chosen = record {
        before = c.before;
        behind = c.behind ++ p ∷ [];
        request_is = ap (λ (ps : List Protocol). ps ++ p ∷ []) c.request_is ∙ append_assoc c.before (won.entry ∷ c.behind) (p ∷ []);
        matches = c.matches;
        earlier = c.earlier;
        later = All-push (IsFrom offer won.entry.priority) c.behind p c.later (λ d m. omega (arith, from d m, won.priority));
      };
      priority = won.priority;
      response = won.response;
    }

pub stays_none : (offer : List Dialect) (taken : List Protocol) (best : Option Winner) (p : Protocol) → NoMatch offer p → Won offer taken best → Won offer (taken ++ p ∷ []) best
stays_none offer taken None p none won = All-push (NoMatch offer) taken p won none
stays_none offer taken (Some w) p none won = stays offer taken w p (λ d m. absurd (none d m)) won

-- the first entry that matches
pub first : (offer : List Dialect) (taken : List Protocol) (w : Winner) (p : Protocol) → All (NoMatch offer) taken → Matches offer p w.dialect → w.priority ≡ p.priority
    → w.response ≡ record { code = code_for p.minor w.dialect; schema = Some p.schema } → IsWinner offer (taken ++ p ∷ []) w
first offer taken w p none m pr re =
    record {
      entry = p;
      chosen = record {
        before = taken;
        behind = [];
        request_is = refl;
        matches = m;
        earlier = All-weaker (NoMatch offer) (IsAbove offer p.priority) (λ q nq d n. absurd (nq d n)) taken none;
        later = All-nil (IsFrom offer p.priority);
      };
      priority = pr;
      response = re;
    }

-- an entry with a lower Priority than the winner so far
pub lower : (offer : List Dialect) (taken : List Protocol) (old w : Winner) (p : Protocol) → IsWinner offer taken old → p.priority < old.priority → Matches offer p w.dialect → w.priority ≡ p.priority
    → w.response ≡ record { code = code_for p.minor w.dialect; schema = Some p.schema } → IsWinner offer (taken ++ p ∷ []) w
lower offer taken old w p won lt m pr re =
    let c = won.chosen in
    let below : p.priority < won.entry.priority = omega (arith, won.priority) in
    let before : All (IsAbove offer p.priority) c.before = All-weaker (IsAbove offer won.entry.priority) (IsAbove offer p.priority) (λ q h d n. omega (arith, h d n)) c.before c.earlier in
    let behind : All (IsAbove offer p.priority) c.behind = All-weaker (IsFrom offer won.entry.priority) (IsAbove offer p.priority) (λ q h d n. omega (arith, h d n)) c.behind c.later in
    let all : All (IsAbove offer p.priority) (c.before ++ won.entry ∷ c.behind) =
    All-append (IsAbove offer p.priority) c.before (won.entry ∷ c.behind) before (All-cons (IsAbove offer p.priority) won.entry c.behind (λ d n. below) behind) in
    record {
      entry = p;
      chosen = record {
        before = taken;
        behind = [];
        request_is = refl;
        matches = m;
        earlier = rw c.request_is all;
        later = All-nil (IsFrom offer p.priority);
      };
      priority = pr;
      response = re;
    }
