use Rattle.std.proofs.Common.{map, Option, sym, subst}
use Rattle.std.specs.Prelude.{MatchOption}
use Rattle.std.proofs.lemmas.List.Elements.{All-nil}
use Rattle.iso_details.specs.declared.details.ServiceParameterList.{ServiceParameterList}
use Rattle.service_spec.specs.Services.{SaidSet, Fits, IsPicked, PicksNone, said_of}
use Rattle.service_messages.specs.Offers.{sets_in}
use Rattle.service_messages.proofs.picking.choice_of.Goals as goal

pub returns-in-Some : goal.returns-in-Some
returns-in-Some c =
    subst (λ (o : Option ServiceParameterList). MatchOption c.first_of.result (PicksNone (map said_of c.args.want.now) (sets_in o)) (IsPicked (map said_of c.args.want.now) (sets_in o)))
    (sym c.in-Some.is) (rw c.as_slice.ensures.value at c.first_of.ensures)

pub returns-in-None : goal.returns-in-None
returns-in-None c =
    subst (λ (o : Option ServiceParameterList). PicksNone (map said_of c.args.want.now) (sets_in o)) (sym c.in-None.is)
    (All-nil (λ (s : SaidSet). Fits (map said_of c.args.want.now) s.parameters → ⊥))
