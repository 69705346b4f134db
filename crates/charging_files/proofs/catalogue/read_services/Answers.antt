use Rattle.std.proofs.Common.{◌==◌, arith, ap, ◌∙◌, map}
use Rattle.std.specs.Prelude.{option_map, if◌then◌else◌, Some, None}
use Rattle.std.specs.Option.{option_or}
use Rattle.std.proofs.lemmas.Grind.{common_steps}
use Rattle.plan_keys.specs.Keys.{table_of}
use Rattle.charging_files.specs.Catalogues.{SaidService, said_service_of, service_in, first_of}
use Rattle.charging_files.proofs.Lists.{first_step, first_end}
use Rattle.charging_files.proofs.catalogue.read_services.Goals as goal

pub loop-item-preserved : goal.loop-item-preserved
loop-item-preserved c = record {
  number = omega arith;
  said = first_step (λ (s : SaidService). s.id == c.args.id) service_in table_of c.args.items.now c.loop-item.item-index c.item-item.result
      (option_map said_service_of c.loop-item.kept) (option_map said_service_of c.first-kept.result)
      (first_of c.args.id (map service_in (map table_of c.args.items.now)))
      c.loop-item-test.true c.item-item.is c.loop-item.invariant.said
      (c.first-kept.ensures.said ∙ ap (λ (s : SaidService). option_or (option_map said_service_of c.loop-item.kept) (if s.id == c.args.id then Some s else None)) c.in_ok-service.ensures.said);
  each = c.first-kept.ensures.offered c.loop-item.invariant.each c.in_ok-service.ensures.offered;
  wrong = grind (arith, common_steps);
}

pub returns-clause-said : goal.returns-clause-said
returns-clause-said c =
    first_end (λ (s : SaidService). s.id == c.args.id) service_in table_of c.args.items.now c.loop-item.item-index
    (option_map said_service_of c.loop-item.kept) (first_of c.args.id (map service_in (map table_of c.args.items.now)))
    c.loop-item-test.false c.loop-item.invariant.said
