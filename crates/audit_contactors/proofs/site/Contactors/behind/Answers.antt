use Rattle.std.proofs.Common.{◌≡◌, ◌<◌, length, sym, ◌∙◌, arith}
use Rattle.std.proofs.lemmas.List.{length-set}
use Rattle.audit_contactors.proofs.Sites.{all_more, one_done, one_left, now_one}
use Rattle.audit_contactors.proofs.site.Contactors.behind.Goals as goal

pub loop-at-preserved : goal.loop-at-preserved
loop-at-preserved c =
    let n = c.loop-at.at in
    let posts = c.loop-at.posts in
    let olds = c.args.self.now.posts in
    let e = c.args.entry.now in
    let inv = c.loop-at.invariant in
    record {
      long = length-set posts n c.then.result ∙ inv.long;
      done = λ eight.
          let within : n < length posts = omega (arith, c.loop-at-test.true, inv.long, eight) in
          one_done n e olds posts c.then.result within (now_one n e olds posts c.then.result _ within c.then.ensures (inv.left n (omega arith))) (inv.done eight);
      left = one_left n olds posts c.then.result inv.left;
    }

pub returns : goal.returns
returns c past all =
    all_more past c.args.entry.now c.args.self.now _ c.requires all (c.loop-at.invariant.long ∙ all.eight)
    (λ i within. c.loop-at.invariant.done all.eight i (omega (arith, within, c.loop-at-test.false))) c.begins-begun.ensures
