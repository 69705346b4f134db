use Rattle.std.proofs.Common.{refl}
use Rattle.audited_posts.proofs.Entries.{judged_sent, judged_drove, unsent, undriven}
use Rattle.audited_posts.proofs.posts.AuditedPost.judged.Goals as goal

pub returns-then-at-post : goal.returns-then-at-post
returns-then-at-post g c plan past steps h =
    judged_sent _ plan c.args.post steps c.args.entry.now c.judged_at_reply.result c.in-Sent.at c.in-Sent.bytes c.in-Sent.taken c.in-Sent.is c.if-at-post.true
    (c.judged_at_reply.ensures plan steps c.in-Sent.bytes h.stream_are h.kept_are.mandate_is)

pub returns-else-at-post : goal.returns-else-at-post
returns-else-at-post g c plan past steps h =
    unsent _ plan c.args.post steps c.args.entry.now _ c.in-Sent.at c.in-Sent.bytes c.in-Sent.taken c.in-Sent.is c.if-at-post.false refl

pub returns-then-at-post-2 : goal.returns-then-at-post-2
returns-then-at-post-2 g c plan past steps h =
    judged_drove _ plan c.args.post steps c.args.entry.now c.judged_at_order.result c.in-Drove.at c.in-Drove.order c.in-Drove.taken c.in-Drove.is c.if-at-post-2.true
    (c.judged_at_order.ensures plan c.args.post past steps h.stream_are h.kept_are)

pub returns-else-at-post-2 : goal.returns-else-at-post-2
returns-else-at-post-2 g c plan past steps h =
    undriven _ plan c.args.post steps c.args.entry.now _ c.in-Drove.at c.in-Drove.order c.in-Drove.taken c.in-Drove.is c.if-at-post-2.false refl
