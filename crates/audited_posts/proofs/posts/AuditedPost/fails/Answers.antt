use Rattle.audited_posts.proofs.posts.AuditedPost.fails.Goals as goal

pub returns : goal.returns
returns g c site plan earlier behind steps after so h starting is =
    c.fails.ensures site plan earlier behind steps after so
    (c.around-around.ensures site plan c.args.post earlier c.args.entry.now behind steps after h starting is)
