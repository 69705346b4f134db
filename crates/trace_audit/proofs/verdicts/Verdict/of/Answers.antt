use Rattle.trace_audit.proofs.Failing.{goes_place, hears_place, ends_place}
use Rattle.trace_audit.proofs.verdicts.Verdict.of.Goals as goal

pub returns : goal.returns
returns g c site earlier posts h begun above =
    let e = c.args.entry.now in
    record {
      goes_on = λ behind on. c.least.ensures site earlier behind posts h (goes_place _ site earlier e behind c.args.begun c.args.above begun above on);
      hears = λ behind on. c.least-2.ensures site earlier behind posts h (hears_place _ site earlier e behind c.args.begun c.begins-ends.result c.args.above begun c.begins-ends.ensures above on);
      ends = λ behind on. c.least-3.ensures site earlier behind posts h (ends_place _ site earlier e behind c.args.begun c.begins-ends.result c.args.above begun c.begins-ends.ensures above on);
    }
