use Rattle.std.proofs.Common.{ℕ, subst, arith}
use Rattle.told_pasts.specs.Faults.{FailsAt}
use Rattle.faultless_pasts.specs.Faultless.{told_codecs}
use Rattle.trace_audit.proofs.Failing.{below_next, first_none, first_some, least_first, not_less, ten}
use Rattle.trace_audit.proofs.verdicts.least.Goals as goal

pub loop-number-init : goal.loop-number-init
loop-number-init g c site earlier behind posts h place m less fails = omega (arith, less, (ten _ site earlier c.args.entry.now behind m fails).0)

pub loop-number-preserved : goal.loop-number-preserved
loop-number-preserved g c site earlier behind posts h place =
    let all = told_codecs g.R.Coded.negotiates g.R.Coded.reads g.R.Coded.encodes g.R.ToldCoded.responds g.R.ToldCoded.watts in
    let n = c.loop-number.number in
    below_next (λ m. FailsAt all site earlier c.args.entry.now behind m → ⊥) n (c.loop-number.invariant site earlier behind posts h place)
    (subst (λ (m : ℕ). FailsAt all site earlier c.args.entry.now behind m → ⊥) c.check_of.ensures (first_none all site earlier c.args.entry.now behind c.check_of.result c.first_due.result c.in_default.is (c.first_due.ensures site earlier behind posts h place)))

pub returns-in-Some : goal.returns-in-Some
returns-in-Some g c site earlier behind posts h place =
    let all = told_codecs g.R.Coded.negotiates g.R.Coded.reads g.R.Coded.encodes g.R.ToldCoded.responds g.R.ToldCoded.watts in
    let e = c.args.entry.now in
    let n = c.loop-number.number in
    least_first all site earlier e behind c.check_of.result n c.in-Some.post c.check_of.ensures (first_some all site earlier e behind c.check_of.result c.first_due.result c.in-Some.post c.in-Some.is (c.first_due.ensures site earlier behind posts h place))
    (λ m f. not_less m n (λ less. c.loop-number.invariant site earlier behind posts h place m less f))

pub returns : goal.returns
returns g c site earlier behind posts h place m f =
    c.loop-number.invariant site earlier behind posts h place m (let most = (ten _ site earlier c.args.entry.now behind m f).1 in let end = c.loop-number-test.false in omega (arith, most, end)) f
