use Rattle.std.proofs.Common.{sym, subst, Bool, ◌↔◌}
use Rattle.std.specs.Prelude.{IsTrue}
use Rattle.audit_checks.specs.Checks.{FailsOf}
use Rattle.audit_checks.proofs.Checked.{Place, checked}
use Rattle.audit_checks.proofs.checks.Check.fails.Goals as goal

pub returns : goal.returns
returns g c site plan earlier behind steps after so is =
    let p : Place = record {
      c = _;
      site = site;
      plan = plan;
      k = c.args.post;
      earlier = earlier;
      e = c.args.entry.now;
      behind = behind;
      a = c.args.about.now;
      before = c.args.before.now;
      later = c.args.later.now;
      steps = steps;
      after = after;
      v = c.args.around;
      mandated = c.is_mandated-mandated.result;
      stays = c.is_mandated-stays.result;
      passes = c.passes_cause-passes.result;
      so = so;
      is = is;
      mandated_is = c.is_mandated-mandated.ensures plan steps so.before_are.ac_is so.before_are.mandate_is is.starting_is;
      stays_is = c.is_mandated-stays.ensures plan after so.later_are.ac_is so.later_are.mandate_is is.starts_is;
      passes_is = c.passes_cause-passes.ensures site plan earlier behind steps after so.only_before so.only_later so.before_are.causes_are so.later_are.causes_are is.last_is is.alone_is;
    } in
    subst (λ (b : Bool). IsTrue b ↔ FailsOf p.c site earlier c.args.entry.now behind c.args.post c.args.self) (sym c.fails_by.ensures) (checked p c.args.self)
