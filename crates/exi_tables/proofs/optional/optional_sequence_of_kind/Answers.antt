use Rattle.std.proofs.Common.{rules}
use Rattle.exi_schema.specs.Told.{schema_of}
use Rattle.exi_tables.proofs.OptionalSequenced.{is_optional, no_first, no_second, no_third}
use Rattle.exi_tables.proofs.optional.optional_sequence_of_kind.Goals as goal

pub only_child-requires : goal.only_child-requires
only_child-requires c = record { place = c.first.ensures.of_schema (schema_of c.args.schema.now) c.requires }

pub returns-in_err-first-clause-whole : goal.returns-in_err-first-clause-whole
returns-in_err-first-clause-whole c = λ all is.
    absurd (no_first (schema_of c.args.schema.now).kinds _ all is c.only_child.result (search rules)
    (rw c.first.ensures.first at c.only_child.ensures.whole))

pub returns-in_err-second-clause-whole : goal.returns-in_err-second-clause-whole
returns-in_err-second-clause-whole c = λ all is.
    absurd (no_second (schema_of c.args.schema.now).kinds _ all is c.in_ok-first.first c.only_child.result c.optional_child.result c.in_ok-first.was
    (rw c.first.ensures.first at c.only_child.ensures.whole) (search rules) c.optional_child.ensures.whole)

pub returns-in_err-third-clause-whole : goal.returns-in_err-third-clause-whole
returns-in_err-third-clause-whole c = λ all is.
    absurd (no_third (schema_of c.args.schema.now).kinds _ all is c.in_ok-first.first c.in_ok-second.second c.only_child.result c.optional_child.result c.only_child-2.result c.in_ok-first.was
    (rw c.first.ensures.first at c.only_child.ensures.whole) c.in_ok-second.was c.optional_child.ensures.whole (search rules) c.only_child-2.ensures.whole)

pub returns-clause-tells : goal.returns-clause-tells
returns-clause-tells c =
    is_optional (schema_of c.args.schema.now).kinds _ c.in_ok-first.first c.in_ok-second.second c.in_ok-third.third
    (rw c.first.ensures.first at c.in_ok-first.ensures.child) c.in_ok-second.ensures.child c.in_ok-third.ensures.child
    (c.is_second.ensures.same (search (rules, c.if-not-is_second.false))) (c.is_end.ensures.end (search (rules, c.if-not-is_end.false)))
