use Rattle.std.proofs.Common.{List, ℕ, max, true, sym, ap, ◌∙◌}
use Rattle.charge_world.specs.declared.entry.Entry.TheVariants as entry
use Rattle.post_spec.specs.Steps.{moment, seen}
use Rattle.faultless_pasts.specs.Faultless.{told_codecs}
use Rattle.audited_posts.proofs.Streaming as streaming
use Rattle.audited_posts.proofs.posts.pass.Goals as goal

pub returns-in-Heard : goal.returns-in-Heard
returns-in-Heard g c past h even free =
    streaming.heard_on (told_codecs g.R.Coded.negotiates g.R.Coded.reads g.R.Coded.encodes g.R.ToldCoded.responds g.R.ToldCoded.watts) c.args.plan.now c.args.post past c.args.entry.now c.heard.new.self c.in-Heard.heard c.bytes.result.now
    (c.in-Heard.is ∙ ap (λ (b : List ℕ). entry.Heard c.in-Heard.heard b) (sym c.bytes.ensures)) free
    (λ none. c.heard.ensures (seen c.args.post past) (max (moment past) c.in-Heard.heard.at) h even none)

pub returns-then-at-post : goal.returns-then-at-post
returns-then-at-post g c past h even free =
    streaming.sent_on _ c.args.plan.now.dialects.items c.args.post past c.args.entry.now c.sent.new.self c.in-Sent.at c.in-Sent.bytes c.in-Sent.taken c.in-Sent.is c.if-at-post.true
    (c.sent.ensures.past (seen c.args.post past) c.in-Sent.bytes c.in-Sent.taken h) (c.sent.ensures.even (seen c.args.post past) h even)

pub returns-else-at-post : goal.returns-else-at-post
returns-else-at-post g c past h even free =
    streaming.other_sent _ c.args.plan.now.dialects.items c.args.post past c.args.entry.now c.args.stream.now c.in-Sent.at c.in-Sent.bytes c.in-Sent.taken c.in-Sent.is c.if-at-post.false h even

pub returns-then-at-post-2 : goal.returns-then-at-post-2
returns-then-at-post-2 g c past h even free =
    streaming.answered_on _ c.args.plan.now.dialects.items c.args.post past c.args.entry.now c.args.stream.now c.in-Answered.at c.in-Answered.bytes c.in-Answered.taken c.in-Answered.is c.if-at-post-2.true
    (c.answered.ensures c.args.plan.now.dialects.items (seen c.args.post past) c.in-Answered.bytes c.in-Answered.taken h) even

pub returns-else-at-post-2 : goal.returns-else-at-post-2
returns-else-at-post-2 g c past h even free =
    streaming.other_answered _ c.args.plan.now.dialects.items c.args.post past c.args.entry.now c.args.stream.now c.in-Answered.at c.in-Answered.bytes c.in-Answered.taken c.in-Answered.is c.if-at-post-2.false h even

pub returns-then-at-post-3 : goal.returns-then-at-post-3
returns-then-at-post-3 g c past h even free =
    streaming.drove_on _ c.args.plan.now.dialects.items c.args.post past c.args.entry.now c.ordered.new.self c.in-Drove.at c.in-Drove.order c.in-Drove.taken c.in-Drove.is c.if-at-post-3.true
    (c.ordered.ensures.past c.args.plan.now.dialects.items (seen c.args.post past) h) (c.ordered.ensures.even even)

pub returns-else-at-post-3 : goal.returns-else-at-post-3
returns-else-at-post-3 g c past h even free =
    streaming.other_drove _ c.args.plan.now.dialects.items c.args.post past c.args.entry.now c.args.stream.now c.in-Drove.at c.in-Drove.order c.in-Drove.taken c.in-Drove.is c.if-at-post-3.false h even

pub returns-then-at-post-4 : goal.returns-then-at-post-4
returns-then-at-post-4 g c past h even free =
    streaming.ended_on _ c.args.plan.now.dialects.items c.args.post past c.args.entry.now c.ended.new.self c.in-Ended.at c.in-Ended.cause c.in-Ended.is c.if-at-post-4.true
    (c.ended.ensures.past c.args.plan.now.dialects.items (seen c.args.post past) c.in-Ended.cause true h) c.ended.ensures.even

pub returns-else-at-post-4 : goal.returns-else-at-post-4
returns-else-at-post-4 g c past h even free =
    streaming.other_ended _ c.args.plan.now.dialects.items c.args.post past c.args.entry.now c.args.stream.now c.in-Ended.at c.in-Ended.cause c.in-Ended.is c.if-at-post-4.false h even
