-- How the children of a sequence of values are gathered.
use Rattle.std.proofs.Common.{◌≡◌, ◌≤◌, ◌+◌, ◌∙◌, ℕ, List, [], ◌∷◌, ◌++◌, length, Option, Some, None, ◌⊎◌, inl, inr, ap, subst, sym, refl, arith, append_assoc, append-nil}
use Rattle.std.proofs.lemmas.List.{length-append}
use Rattle.std.specs.Prelude.{Bool, false, slice_get}
use Rattle.exi_schema.specs.declared.places.Place.{Place}
use Rattle.exi_schema.specs.declared.places.SequenceChild.{SequenceChild}
use Rattle.exi_schema.specs.declared.places.Step.{Step}
use Rattle.exi_schema.specs.declared.places.Step.TheVariants.{Attribute, Characters, Element, End}
use Rattle.exi_schema.specs.declared.tables.Datatype.{Datatype}
use Rattle.exi_schema.specs.declared.tables.MemberStanding.{MemberStanding}
use Rattle.exi_schema.specs.declared.tables.MemberStanding.TheVariants.{Taken}
use Rattle.exi_schema.specs.Offers.{offers, IsPlace}
use Rattle.exi_schema.specs.Plain.{PlainKind}
use Rattle.exi_schema.specs.Sequences.{IsSequence, TellsSequence, KeepsSequence}
use Rattle.exi_schema.specs.Steps.{IsStep, simple_at}
use Rattle.exi_tables.specs.declared.sequences.Following.TheVariants as following
use Rattle.exi_tables.specs.Followed.{IsFollowed, NoSequence}

-- ---- what follows, where one step is offered

pub only_one : (steps : List Step) (step : Step) → length steps ≡ 1 → Some step ≡ slice_get steps 0 → steps ≡ step ∷ []
only_one [] step one is = absurd (omega (arith, one))
only_one (x ∷ []) step one is = let same : Some step ≡ Some x = is in let e : x ≡ step = cc in ap (λ y. y ∷ []) e
only_one (x ∷ y ∷ steps) step one is = absurd (omega (arith, one))

-- two things that are each the one offered
same_only : {X : Type 0} (xs : List X) (x y : X) → xs ≡ x ∷ [] → xs ≡ y ∷ [] → x ≡ y
same_only {X} xs x y one other = let e : x ∷ [] ≡ y ∷ [] = sym one ∙ other in cc

same_datatype : (o p : Option Datatype) (d e : Datatype) → o ≡ p → o ≡ Some d → p ≡ Some e → d ≡ e
same_datatype o p d e same is other = let both : Some d ≡ Some e = sym is ∙ same ∙ other in cc

begins_all : (kinds : List PlainKind) (here : Place) (name kind : ℕ) (next : Place) (datatype : Datatype) →
    offers kinds here ≡ Element name kind next Taken false ∷ [] → simple_at kinds kind ≡ Some datatype → (all : List SequenceChild) → IsSequence kinds here all →
    (rest : List SequenceChild) × (all ≡ record { name = name; datatype = datatype } ∷ rest) × IsSequence kinds next rest
begins_all kinds here name kind next datatype only simple [] is =
    let wrong : Element name kind next Taken false ≡ End = same_only (offers kinds here) _ _ only is in absurd cc
begins_all kinds here name kind next datatype only simple (child ∷ rest) is =
    let same : Element name kind next Taken false ≡ Element child.name is.0 is.1 Taken false = same_only (offers kinds here) _ _ only is.2 in
    let names : name ≡ child.name = cc in
    let kinds_are : kind ≡ is.0 = cc in
    let places : next ≡ is.1 = cc in
    let type_is = same_datatype (simple_at kinds kind) (simple_at kinds is.0) datatype child.datatype (ap (λ (k : ℕ). simple_at kinds k) kinds_are) simple is.3 in
    let child_is : child ≡ record { name = name; datatype = datatype } =
    ap (λ (n : ℕ). record { name = n; datatype = child.datatype }) (sym names) ∙ ap (λ (d : Datatype). record { name = name; datatype = d }) (sym type_is) in
    (rest, ap (λ (c : SequenceChild). c ∷ rest) child_is, subst (λ (p : Place). IsSequence kinds p rest) (sym places) is.4)

ends_all : (kinds : List PlainKind) (here : Place) → offers kinds here ≡ End ∷ [] → (all : List SequenceChild) → IsSequence kinds here all → all ≡ []
ends_all kinds here only [] is = refl
ends_all kinds here only (child ∷ rest) is =
    let wrong : End ≡ Element child.name is.0 is.1 Taken false = same_only (offers kinds here) _ _ only is.2 in absurd cc

pub child_follows : (kinds : List PlainKind) (names : ℕ) (here : Place) (count : ℕ) (step : Step) (name kind : ℕ) (next : Place) (standing : MemberStanding) (past_limit : Bool) (datatype : Datatype) →
    count ≡ length (offers kinds here) → count ≡ 1 → Some step ≡ slice_get (offers kinds here) 0 → step ≡ Element name kind next standing past_limit → standing ≡ Taken → past_limit ≡ false →
    IsStep kinds names here.kind step → simple_at kinds kind ≡ Some datatype →
    IsFollowed kinds here (following.Child (record { name = name; datatype = datatype }) next)
child_follows kinds names here count step name kind next standing past_limit datatype whole one offered is taken within of_schema simple =
    let P : Step → Type 0 = λ x. IsStep kinds names here.kind x in
    let there : IsStep kinds names here.kind (Element name kind next standing past_limit) = subst P is of_schema in
    let same : step ≡ Element name kind next Taken false =
    is ∙ ap (λ (x : MemberStanding). Element name kind next x past_limit) taken ∙ ap (λ (x : Bool). Element name kind next Taken x) within in
    let only : offers kinds here ≡ Element name kind next Taken false ∷ [] =
    only_one (offers kinds here) step (sym whole ∙ one) offered ∙ ap (λ x. x ∷ []) same in
    (there.2, (λ children rest. (kind, next, only, simple, rest)), begins_all kinds here name kind next datatype only simple)

pub end_follows : (kinds : List PlainKind) (here : Place) (count : ℕ) (step : Step) →
    count ≡ length (offers kinds here) → count ≡ 1 → Some step ≡ slice_get (offers kinds here) 0 → step ≡ End → IsFollowed kinds here following.End
end_follows kinds here count step whole one offered is =
    let only : offers kinds here ≡ End ∷ [] = only_one (offers kinds here) step (sym whole ∙ one) offered ∙ ap (λ x. x ∷ []) is in
    (only, ends_all kinds here only)

-- ---- where no sequence goes on

-- the one step that is offered where one goes on
abbrev pub GoesOn : List PlainKind → Step → Type 0
GoesOn kinds End = Unit {0}
GoesOn kinds (Element name kind next standing past_limit) = (standing ≡ Taken) × (past_limit ≡ false) × (datatype : Datatype) × (simple_at kinds kind ≡ Some datatype)
GoesOn kinds (Attribute name kind next) = ⊥
GoesOn kinds (Characters next) = ⊥

goes_on : (kinds : List PlainKind) (here : Place) (all : List SequenceChild) → IsSequence kinds here all → (step : Step) × (offers kinds here ≡ step ∷ []) × GoesOn kinds step
goes_on kinds here [] is = (End, is, tt)
goes_on kinds here (child ∷ rest) is = (Element child.name is.0 is.1 Taken false, is.2, (refl, refl, child.datatype, is.3))

pub none_of_many : (kinds : List PlainKind) (here : Place) (count : ℕ) → count ≡ length (offers kinds here) → (count ≡ 1 → ⊥) → NoSequence kinds here
none_of_many kinds here count whole many all is =
    let it = goes_on kinds here all is in many (whole ∙ ap (λ (l : List Step). length l) it.1)

none_of_other : (kinds : List PlainKind) (here : Place) (step : Step) → Some step ≡ slice_get (offers kinds here) 0 → (GoesOn kinds step → ⊥) → NoSequence kinds here
none_of_other kinds here step offered other all is =
    let it = goes_on kinds here all is in
    let same : Some step ≡ Some it.0 = offered ∙ ap (λ (l : List Step). slice_get l 0) it.1 in
    let e : it.0 ≡ step = cc in
    other (subst (λ (x : Step). GoesOn kinds x) e it.2)

-- a member that may not stand there
pub none_past : (kinds : List PlainKind) (here : Place) (step : Step) (name kind : ℕ) (next : Place) (standing : MemberStanding) (past_limit : Bool) →
    Some step ≡ slice_get (offers kinds here) 0 → step ≡ Element name kind next standing past_limit → (standing ≡ Taken → past_limit ≡ false → ⊥) → NoSequence kinds here
none_past kinds here step name kind next standing past_limit offered is other =
    none_of_other kinds here step offered (λ goes. let it : GoesOn kinds (Element name kind next standing past_limit) = subst (λ (x : Step). GoesOn kinds x) is goes in other it.0 it.1)

-- an element without a value
pub none_within : (kinds : List PlainKind) (here : Place) (step : Step) (name kind : ℕ) (next : Place) (standing : MemberStanding) (past_limit : Bool) →
    Some step ≡ slice_get (offers kinds here) 0 → step ≡ Element name kind next standing past_limit → simple_at kinds kind ≡ None → NoSequence kinds here
none_within kinds here step name kind next standing past_limit offered is complex =
    none_of_other kinds here step offered (λ goes.
    let it : GoesOn kinds (Element name kind next standing past_limit) = subst (λ (x : Step). GoesOn kinds x) is goes in
    let wrong : None ≡ Some it.2 = sym complex ∙ it.3 in absurd cc)

-- an attribute, or characters
pub none_besides : (kinds : List PlainKind) (here : Place) (step : Step) → Some step ≡ slice_get (offers kinds here) 0 →
    ((name : ℕ) × (kind : ℕ) × (next : Place) × (step ≡ Attribute name kind next)) ⊎ ((next : Place) × (step ≡ Characters next)) → NoSequence kinds here
none_besides kinds here step offered (inl is) =
    none_of_other kinds here step offered (λ goes. subst (λ (x : Step). GoesOn kinds x) is.3 goes)
none_besides kinds here step offered (inr is) =
    none_of_other kinds here step offered (λ goes. subst (λ (x : Step). GoesOn kinds x) is.1 goes)

-- ---- the children so far

-- these children are passed on the way from the first place here: they begin each sequence that goes on here, and each from the first on
pub record LeadsTo (kinds : List PlainKind) (first : Place) (children : List SequenceChild) (here : Place) : Type 0 where
  pub place : IsPlace kinds here
  pub begin : (rest : List SequenceChild) → IsSequence kinds here rest → IsSequence kinds first (children ++ rest)
  pub of_all : (all : List SequenceChild) → IsSequence kinds first all → (rest : List SequenceChild) × (all ≡ children ++ rest) × IsSequence kinds here rest

pub leads_here : (kinds : List PlainKind) (first here : Place) (children : List SequenceChild) → IsPlace kinds here → here ≡ first → children ≡ [] → LeadsTo kinds first children here
leads_here kinds first here children place same none =
    record {
      place = place;
      begin = λ rest is.
          let Here : Place → Type 0 = λ p. IsSequence kinds p rest in
          let Whole : List SequenceChild → Type 0 = λ l. IsSequence kinds first (l ++ rest) in
          subst Whole (sym none) (subst Here same is);
      of_all = λ all is. (all, ap (λ (l : List SequenceChild). l ++ all) (sym none), subst (λ (p : Place). IsSequence kinds p all) (sym same) is);
    }

pub leads_on : (kinds : List PlainKind) (first here next : Place) (old new : List SequenceChild) (child : SequenceChild) →
    LeadsTo kinds first old here → IsFollowed kinds here (following.Child child next) → new ≡ old ++ child ∷ [] → LeadsTo kinds first new next
leads_on kinds first here next old new child at is grown =
    record {
      place = is.0;
      begin = λ rest goes_on.
          let Whole : List SequenceChild → Type 0 = λ l. IsSequence kinds first l in
          let same : new ++ rest ≡ old ++ (child ∷ rest) = ap (λ l. l ++ rest) grown ∙ append_assoc old (child ∷ []) rest in
          subst Whole (sym same) (at.begin (child ∷ rest) (is.1 rest goes_on));
      of_all = λ all whole.
          let before = at.of_all all whole in
          let more = is.2 before.0 before.2 in
          let same : old ++ before.0 ≡ new ++ more.0 = ap (λ l. old ++ l) more.1 ∙ sym (append_assoc old (child ∷ []) more.0) ∙ ap (λ l. l ++ more.0) (sym grown) in
          (more.0, before.1 ∙ same, more.2);
    }

pub leads_to_end : (kinds : List PlainKind) (first here : Place) (children : List SequenceChild) →
    LeadsTo kinds first children here → IsFollowed kinds here following.End → TellsSequence kinds first children
leads_to_end kinds first here children at is =
    let Whole : List SequenceChild → Type 0 = λ l. IsSequence kinds first l in inr (subst Whole (append-nil children) (at.begin [] is.0))

pub kept_to_end : (kinds : List PlainKind) (first here : Place) (children : List SequenceChild) →
    LeadsTo kinds first children here → IsFollowed kinds here following.End → KeepsSequence kinds first children
kept_to_end kinds first here children at is all whole few =
    let rest = at.of_all all whole in sym (rest.1 ∙ ap (λ l. children ++ l) (is.1 rest.0 rest.2) ∙ append-nil children)

-- no sequence goes on behind these
pub kept_nowhere : (kinds : List PlainKind) (first here : Place) (children none : List SequenceChild) →
    LeadsTo kinds first children here → NoSequence kinds here → KeepsSequence kinds first none
kept_nowhere kinds first here children none at nothing all whole few = let rest = at.of_all all whole in absurd (nothing rest.0 rest.2)

-- they are too many
pub kept_of_many : (kinds : List PlainKind) (first here : Place) (children none : List SequenceChild) →
    LeadsTo kinds first children here → 9 ≤ length children → KeepsSequence kinds first none
kept_of_many kinds first here children none at many all whole few =
    let rest = at.of_all all whole in
    let long : length all ≡ length children + length rest.0 = ap (λ (l : List SequenceChild). length l) rest.1 ∙ length-append children rest.0 in
    absurd (omega (arith, long, many, few))
