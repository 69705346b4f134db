use Rattle.std.proofs.Common.{inl, inr}
use Rattle.audit_posts.proofs.Behind as kinds
use Rattle.audit_posts.proofs.values.KeptPost.behind.Goals as goal

pub returns-then-at-post : goal.returns-then-at-post
returns-then-at-post g c past steps later h s =
    kinds.sent_behind _ c.args.plan.now c.args.post past steps c.args.about.now c.args.entry.now later c.sent.result c.in-Sent.at c.in-Sent.bytes c.in-Sent.taken
    c.in-Sent.is c.if-at-post.true s (λ reading said is read says most next. c.sent.ensures past steps reading c.in-Sent.bytes said is read says most h next)

pub returns-then-at-post-2 : goal.returns-then-at-post-2
returns-then-at-post-2 g c past steps later h s =
    kinds.answered_behind _ c.args.plan.now c.args.post past steps c.args.about.now c.args.entry.now later c.answered.result c.in-Answered.at c.in-Answered.bytes c.in-Answered.taken
    c.in-Answered.is c.if-at-post-2.true s (λ is. c.answered.ensures past steps c.in-Answered.bytes c.in-Answered.taken is h)

pub returns-then-at-post-3 : goal.returns-then-at-post-3
returns-then-at-post-3 g c past steps later h s =
    kinds.driven_behind _ c.args.plan.now c.args.post past steps c.args.about.now c.args.entry.now later c.driven.result c.in-Drove.at c.in-Drove.order c.in-Drove.taken
    c.in-Drove.is c.if-at-post-3.true s (λ reading is read next. c.driven.ensures past steps reading is read h next)

pub returns-then-at-post-4 : goal.returns-then-at-post-4
returns-then-at-post-4 g c past steps later h s =
    kinds.ended_behind _ c.args.plan.now c.args.post past steps c.args.about.now c.args.entry.now later c.ended.result c.in-Ended.at c.in-Ended.cause
    c.in-Ended.is c.if-at-post-4.true s (λ is. c.ended.ensures past steps is h)

pub returns-else-at-post : goal.returns-else-at-post
returns-else-at-post g c past steps later h s =
    kinds.passed_sent _ c.args.plan.now c.args.post past steps c.args.about.now c.args.entry.now later c.passed.result c.in-Sent.at c.in-Sent.bytes c.in-Sent.taken
    c.in-Sent.is c.if-at-post.false s (λ heard acts. c.passed.ensures past steps heard acts h)

pub returns-else-at-post-2 : goal.returns-else-at-post-2
returns-else-at-post-2 g c past steps later h s =
    kinds.passed_answered _ c.args.plan.now c.args.post past steps c.args.about.now c.args.entry.now later c.passed-else-at-post-2.result c.in-Answered.at c.in-Answered.bytes c.in-Answered.taken
    c.in-Answered.is c.if-at-post-2.false s (λ heard acts. c.passed-else-at-post-2.ensures past steps heard acts h)

pub returns-else-at-post-3 : goal.returns-else-at-post-3
returns-else-at-post-3 g c past steps later h s =
    kinds.passed_drove _ c.args.plan.now c.args.post past steps c.args.about.now c.args.entry.now later c.passed-else-at-post-3.result c.in-Drove.at c.in-Drove.order c.in-Drove.taken
    c.in-Drove.is c.if-at-post-3.false s (λ heard acts. c.passed-else-at-post-3.ensures past steps heard acts h)

pub returns-else-at-post-4 : goal.returns-else-at-post-4
returns-else-at-post-4 g c past steps later h s =
    kinds.passed_ended _ c.args.plan.now c.args.post past steps c.args.about.now c.args.entry.now later c.passed-else-at-post-4.result c.in-Ended.at c.in-Ended.cause
    c.in-Ended.is c.if-at-post-4.false s (λ heard acts. c.passed-else-at-post-4.ensures past steps heard acts h)

pub returns-in-Lost : goal.returns-in-Lost
returns-in-Lost g c past steps later h s = elim c.in-Lost.is [
  | inl lost ↦ kinds.passed_lost _ c.args.plan.now c.args.post past steps c.args.about.now c.args.entry.now later c.passed-in-Lost.result
      lost s (λ heard acts. c.passed-in-Lost.ensures past steps heard acts h)
  | inr dialed ↦ kinds.passed_dialed _ c.args.plan.now c.args.post past steps c.args.about.now c.args.entry.now later c.passed-in-Lost.result
      dialed.0 dialed.1 dialed.2 s (λ heard acts. c.passed-in-Lost.ensures past steps heard acts h)
]
