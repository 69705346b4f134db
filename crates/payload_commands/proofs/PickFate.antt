-- What is wanted and a payload have one fate.
use Rattle.std.proofs.Common.{◌≡◌, ℕ, List, map, refl, ap, subst, inl, inr}
use Rattle.std.specs.Prelude.{ℤ}
use Rattle.exi_documents.specs.declared.refusal.RefusalCause.{RefusalCause}
use Rattle.iso_message.specs.declared.message.IsoMessage.{IsoMessage}
use Rattle.iso_message.specs.Documents.{IsIso, IsIsoRefused}
use Rattle.hex_payloads.specs.HexText.{IsHexOf}
use Rattle.service_spec.specs.declared.Parameter.{Parameter}
use Rattle.service_spec.specs.Services.{Said, SaidSet, said_of, IsPicked, PicksNone}
use Rattle.service_spec.specs.Wants.{IsWant}
use Rattle.service_messages.specs.Offers.{Offers}
use Rattle.service_messages.proofs.Choices.{one_offered}
use Rattle.payload_commands.proofs.HexTexts.{OneRefusal, same_payload, no_place, one_place}
use Rattle.payload_commands.specs.Refusals.{IsRefusedAt}
use Rattle.payload_commands.specs.Picking.{IsPickedIn, OffersNoneIn}
use Rattle.payload_commands.specs.PickFates.{Fate, Nothing, Bad, Without, With, IsFate}

-- ---- laws

abbrev pub Apart : Type 0
Apart = (payload : List ℕ) (m : IsoMessage) (why : RefusalCause) (bit : ℕ) → IsIso m payload → IsIsoRefused payload why bit → ⊥

abbrev pub OneOffer : Type 0
OneOffer = (payload : List ℕ) (m n : IsoMessage) (sets : List SaidSet) → IsIso m payload → IsIso n payload → Offers m sets → Offers n sets

abbrev pub OneChoice : Type 0
OneChoice = (want : List Said) (sets : List SaidSet) (id other : ℤ) → IsPicked want sets id → IsPicked want sets other → id ≡ other

abbrev pub ChoicesAreApart : Type 0
ChoicesAreApart = (want : List Said) (sets : List SaidSet) (id : ℤ) → IsPicked want sets id → PicksNone want sets → ⊥

abbrev pub OneWant : Type 0
OneWant = (word : List ℕ) (one other : List Parameter) → IsWant word one → IsWant word other → map said_of one ≡ map said_of other

pub record Laws : Type 0 where
  pub refusal : OneRefusal
  pub read : Apart
  pub offer : OneOffer
  pub choice : OneChoice
  pub apart : ChoicesAreApart
  pub want : OneWant

-- ---- a payload

-- a payload that spells a message isn't refused
unrefused : Laws → (hex payload : List ℕ) (m : IsoMessage) (place : ℕ) → IsHexOf hex payload → IsIso m payload → IsRefusedAt hex place → ⊥
unrefused laws hex payload m place is spelled (inl q) = no_place hex payload place is q
unrefused laws hex payload m place is spelled (inr q) =
    let same : q.0 ≡ payload = same_payload hex q.0 payload q.2 is in
    laws.read payload m q.1 place spelled (subst (λ (bytes : List ℕ). IsIsoRefused bytes q.1 place) same q.3)

-- ---- choices

same_id : Laws → (want hex : List ℕ) (ps qs : List Parameter) (a b : ℤ) → IsWant want ps → IsWant want qs → IsPickedIn ps hex a → IsPickedIn qs hex b → a ≡ b
same_id laws want hex ps qs a b w v p q =
    let payload : p.0 ≡ q.0 = same_payload hex p.0 q.0 p.1 q.1 in
    let mine : IsIso p.2.message q.0 = subst (λ (bytes : List ℕ). IsIso p.2.message bytes) payload p.2.spelled in
    let offered : Offers q.2.message p.2.choice.sets = laws.offer q.0 p.2.message q.2.message p.2.choice.sets mine q.2.spelled p.2.choice.offered in
    let sets : p.2.choice.sets ≡ q.2.choice.sets = one_offered q.2.message.body.element p.2.choice.sets q.2.choice.sets offered q.2.choice.offered in
    let wanted : map said_of ps ≡ map said_of qs = laws.want want ps qs w v in
    let moved : IsPicked (map said_of qs) q.2.choice.sets a = subst (λ (l : List SaidSet). IsPicked (map said_of qs) l a) sets (subst (λ (l : List Said). IsPicked l p.2.choice.sets a) wanted p.2.choice.picked) in
    laws.choice (map said_of qs) q.2.choice.sets a b moved q.2.choice.picked

not_both : Laws → (want hex : List ℕ) (ps qs : List Parameter) (a : ℤ) → IsWant want ps → IsWant want qs → IsPickedIn ps hex a → OffersNoneIn qs hex → ⊥
not_both laws want hex ps qs a w v p q =
    let payload : p.0 ≡ q.0 = same_payload hex p.0 q.0 p.1 q.1 in
    let mine : IsIso p.2.message q.0 = subst (λ (bytes : List ℕ). IsIso p.2.message bytes) payload p.2.spelled in
    let offered : Offers q.2.message p.2.choice.sets = laws.offer q.0 p.2.message q.2.message p.2.choice.sets mine q.2.spelled p.2.choice.offered in
    let wanted : map said_of ps ≡ map said_of qs = laws.want want ps qs w v in
    laws.apart (map said_of qs) p.2.choice.sets a (subst (λ (l : List Said). IsPicked l p.2.choice.sets a) wanted p.2.choice.picked) (q.2.none p.2.choice.sets offered)

-- ---- a fate

pub one_fate : Laws → (want hex : List ℕ) (one other : Fate) → IsFate want hex one → IsFate want hex other → one ≡ other
one_fate laws want hex Nothing Nothing p q = refl
one_fate laws want hex Nothing (Bad place) p q = absurd (p q.0 q.1)
one_fate laws want hex Nothing Without p q = absurd (p q.0 q.1)
one_fate laws want hex Nothing (With id) p q = absurd (p q.0 q.1)
one_fate laws want hex (Bad place) Nothing p q = absurd (q p.0 p.1)
one_fate laws want hex (Bad place) (Bad other) p q = ap Bad (one_place laws.refusal hex place other p.2 q.2)
one_fate laws want hex (Bad place) Without p q = absurd (unrefused laws hex q.2.0 q.2.2.message place q.2.1 q.2.2.spelled p.2)
one_fate laws want hex (Bad place) (With id) p q = absurd (unrefused laws hex q.2.0 q.2.2.message place q.2.1 q.2.2.spelled p.2)
one_fate laws want hex Without Nothing p q = absurd (q p.0 p.1)
one_fate laws want hex Without (Bad place) p q = absurd (unrefused laws hex p.2.0 p.2.2.message place p.2.1 p.2.2.spelled q.2)
one_fate laws want hex Without Without p q = refl
one_fate laws want hex Without (With id) p q = absurd (not_both laws want hex q.0 p.0 id q.1 p.1 q.2 p.2)
one_fate laws want hex (With id) Nothing p q = absurd (q p.0 p.1)
one_fate laws want hex (With id) (Bad place) p q = absurd (unrefused laws hex p.2.0 p.2.2.message place p.2.1 p.2.2.spelled q.2)
one_fate laws want hex (With id) Without p q = absurd (not_both laws want hex p.0 q.0 id p.1 q.1 p.2 q.2)
one_fate laws want hex (With id) (With other) p q = ap With (same_id laws want hex p.0 q.0 id other p.1 q.1 p.2 q.2)
