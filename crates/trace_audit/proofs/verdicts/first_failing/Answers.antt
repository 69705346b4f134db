use Rattle.std.proofs.Common.{◌≡◌, ◌+◌, ◌∷◌, length, ◌∙◌, arith}
use Rattle.faultless_pasts.specs.Faultless.{told_codecs}
use Rattle.audit_checks.proofs.Posts.{are_posts}
use Rattle.audit_checks.specs.Checks.{FailsOf}
use Rattle.trace_audit.proofs.Failing.{among, below_next, none_before, not_true}
use Rattle.trace_audit.proofs.Lists.{at_of}
use Rattle.trace_audit.proofs.Posts.{posts_count}
use Rattle.trace_audit.proofs.verdicts.first_failing.Goals as goal

pub loop-i-preserved : goal.loop-i-preserved
loop-i-preserved g c site earlier behind posts h place =
    let all = told_codecs g.R.Coded.negotiates g.R.Coded.reads g.R.Coded.encodes g.R.ToldCoded.responds g.R.ToldCoded.watts in
    let i = c.loop-i.i in
    let post = at_of posts i (let n = h.seated.count in let less = c.loop-i-test.true in omega (arith, n, less)) in
    below_next (λ j. FailsOf all site earlier c.args.entry.now behind (j + 1) c.args.check → ⊥) i (c.loop-i.invariant site earlier behind posts h place)
    (λ f. not_true c.fails.result c.if-fails.false ((c.fails.ensures site earlier behind post.0 (h.each i post.0 c.index-seats-i.result post.1 (c.loop-i-test.true, c.index-seats-i.is)) place).1 f))

pub returns-then-fails : goal.returns-then-fails
returns-then-fails g c site earlier behind posts h place =
    let all = told_codecs g.R.Coded.negotiates g.R.Coded.reads g.R.Coded.encodes g.R.ToldCoded.responds g.R.ToldCoded.watts in
    let i = c.loop-i.i in
    let post = at_of posts i (let n = h.seated.count in let less = c.loop-i-test.true in omega (arith, n, less)) in
    record {
      is = (c.fails.ensures site earlier behind post.0 (h.each i post.0 c.index-seats-i.result post.1 (c.loop-i-test.true, c.index-seats-i.is)) place).0 c.if-fails.true;
      first = none_before (λ j. FailsOf all site earlier c.args.entry.now behind j c.args.check) i (c.loop-i.invariant site earlier behind posts h place);
    }

pub returns : goal.returns
returns g c site earlier behind posts h place f =
    let all = told_codecs g.R.Coded.negotiates g.R.Coded.reads g.R.Coded.encodes g.R.ToldCoded.responds g.R.ToldCoded.watts in
    let count : length c.args.seats.now ≡ length site.post.items = h.seated.count ∙ posts_count all site (c.args.entry.now ∷ earlier) posts h.seated.posts_are in
    let of = (are_posts all site earlier c.args.entry.now behind c.args.check).0 f in
    let found = among all site earlier c.args.entry.now behind of.0 c.args.check h.of (let some = c.requires.some in omega (arith, some, count)) of.1 in
    c.loop-i.invariant site earlier behind posts h place found.i (let less = found.less in let end = c.loop-i-test.false in omega (arith, less, end, count)) found.fails
