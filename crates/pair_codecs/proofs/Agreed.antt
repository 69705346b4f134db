-- ISO 15118-2:2014, 8.2: where both speak some dialect, both ends take the same one.
use Rattle.std.proofs.Common.{◌≡◌, ℕ, List, ◌∷◌, ◌++◌, All, Contains, Option, Some, None, sym, ap, subst, ◌∙◌}
use Rattle.charge_world.specs.declared.offer.Dialect.{Dialect}
use Rattle.app_documents.specs.Trees.{Offered, Request}
use Rattle.app_protocol.specs.declared.message.AppMessage.TheVariants.{Res}
use Rattle.app_protocol.specs.declared.message.AppRes.{AppRes}
use Rattle.app_protocol.specs.Documents.{IsApp}
use Rattle.app_protocol.specs.Messages.{message_of, ordinal_of}
use Rattle.app_protocol.specs.Negotiation.{IsAbove, IsChosen, code_for, Negotiates as Rules}
use Rattle.app_protocol.proofs.Decided.{apart}
use Rattle.post_spec.specs.Codecs.{Judged, Negotiated, Asked, WrongSide, Refused}
use Rattle.site_codecs.specs.Negotiating.{IsNegotiated, Negotiates}
use Rattle.car_codecs.proofs.EachJudged.{each_judged}
use Rattle.car_codecs.specs.Offering.{entries_of, entries_from}
use Rattle.car_codecs.specs.Responding.{chosen_by}
use Rattle.pair_negotiation.specs.Agreeing.{IsPreferred, AreAgreed, AgreeOnShared}
use Rattle.pair_codecs.specs.Codecs.{post_codecs, car_codecs}
use Rattle.pair_codecs.proofs.Entries.{IsPlaced, IsBelow, placed, all_foreign, some_match, one_namespace}
use Rattle.pair_codecs.proofs.Payloads.{spelled, same_request, one_side}

place_of : (offers ds : List Dialect) (p : Offered) (d : Dialect) (c : IsChosen offers (entries_of ds) p d) → IsPlaced 1 ds p c.before
place_of offers ds p d c = placed 1 ds p c.before c.behind c.request_is

-- the dialect that the entry names is the one that it stands for
same_dialect : (offers ds : List Dialect) (p : Offered) (d : Dialect) (c : IsChosen offers (entries_of ds) p d) (i : IsPlaced 1 ds p c.before) → i.dialect ≡ d
same_dialect offers ds p d c i =
    one_namespace i.dialect d (ap (λ (x : Offered). x.namespace) (sym i.entry_is) ∙ c.matches.named.namespace)

preferred : (offers ds : List Dialect) (p : Offered) (d : Dialect) → IsChosen offers (entries_of ds) p d → IsPreferred offers ds d
preferred offers ds p d c =
    let i : IsPlaced 1 ds p c.before = place_of offers ds p d c in
    let above : All (IsAbove offers i.number) (entries_from 1 i.front) =
    subst (λ (qs : List Offered). All (IsAbove offers i.number) qs) i.before_is
    (subst (λ (q : Offered). All (IsAbove offers q.priority) c.before) i.entry_is c.earlier) in
    let below : All (IsBelow i.number) (entries_from 1 i.front) = subst (λ (qs : List Offered). All (IsBelow i.number) qs) i.before_is i.below in
    record {
      before = i.front;
      behind = i.rest;
      dialects_are = i.dialects_are ∙ ap (λ (x : Dialect). i.front ++ x ∷ i.rest) (same_dialect offers ds p d c i);
      offered = c.matches.offered;
      earlier = all_foreign offers i.number 1 i.front above below;
    }

-- the car reads the response as that choice
read_as : (offers ds : List Dialect) (answer : AppRes) (p : Offered) (d : Dialect) → IsChosen offers (entries_of ds) p d
    → answer ≡ record { code = code_for p.minor d; schema = Some p.schema } → Some d ≡ chosen_by ds (ordinal_of answer.code) answer.schema
read_as offers ds answer p d c is =
    let i : IsPlaced 1 ds p c.before = place_of offers ds p d c in
    sym
    (ap (λ (a : AppRes). chosen_by ds (ordinal_of a.code) a.schema) is
    ∙ ap (λ (q : Offered). chosen_by ds (ordinal_of (code_for q.minor d)) (Some q.schema)) i.entry_is
    ∙ i.named
    ∙ ap (λ (x : Dialect). Some x) (same_dialect offers ds p d c i))

chosen_so : (offers ds : List Dialect) (shared : Dialect) (request : List ℕ) (chosen : Option Dialect) (response : List ℕ)
    → Contains offers shared → Contains ds shared → (n : IsNegotiated offers request chosen response) → Rules offers (entries_of ds) n.answer chosen
    → AreAgreed post_codecs car_codecs offers ds request
chosen_so offers ds shared request None response of_post of_car n rule = absurd (some_match offers 1 ds shared of_post of_car rule.0)
chosen_so offers ds shared request (Some d) response of_post of_car n rule =
    record {
      dialect = d;
      preferred = preferred offers ds rule.0 d rule.1;
      response = response;
      negotiated = n;
      chosen = record {
        response = record { code = ordinal_of n.answer.code; schema = n.answer.schema; spelled = spelled (message_of (Res n.answer)) response n.encoded };
        chosen_is = read_as offers ds n.answer rule.0 d rule.1 rule.2;
      };
    }

by_judged : (offers ds : List Dialect) (shared : Dialect) (request : List ℕ) (judged : Judged) → Contains offers shared → Contains ds shared
    → IsApp (Request (entries_of ds)) request → Negotiates offers request judged → AreAgreed post_codecs car_codecs offers ds request
by_judged offers ds shared request (Negotiated chosen response) of_post of_car own n =
    chosen_so offers ds shared request chosen response of_post of_car n
    (subst (λ (ps : List Offered). Rules offers ps n.answer chosen) (same_request request n.protocols (entries_of ds) n.spelled own) n.negotiated)
by_judged offers ds shared request (Asked r) of_post of_car own n = absurd n
by_judged offers ds shared request WrongSide of_post of_car own n = absurd (one_side request (entries_of ds) own n)
by_judged offers ds shared request Refused of_post of_car own n = absurd (apart request (Request (entries_of ds)) n.why n.bit own n.refused)

pub agree_on_shared : AgreeOnShared post_codecs car_codecs
agree_on_shared = record {
  agree = λ offers ds shared request of_post of_car o.
      let judged = each_judged offers request in
      by_judged offers ds shared request judged.0 of_post of_car (spelled (Request (entries_of ds)) request o.encoded) judged.1;
}
