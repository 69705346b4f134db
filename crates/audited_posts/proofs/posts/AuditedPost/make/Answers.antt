use Rattle.audited_posts.proofs.posts.AuditedPost.make.Goals as goal

pub returns : goal.returns
returns g c =
    let stream = c.in_ok-stream.ensures c.args.plan.now.dialects.items in (
      λ k. record {
        kept_are = c.new.ensures k;
        stream_are = stream.0;
        writes_is = λ small reading bytes taken request reply watts rest talked same session. cc;
      },
      stream.1,
    )
