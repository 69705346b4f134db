use Rattle.std.proofs.Common.{◌≡◌, suc, ◌+◌, ◌-◌, List, length, take, drop, get_or, Some, sym, ap, subst, ◌∙◌, arith}
use Rattle.session_words.specs.declared.plan.PostPlan.{PostPlan}
use Rattle.told_pasts.specs.Site.{Shows}
use Rattle.faultless_pasts.specs.Faultless.{told_codecs}
use Rattle.audit_contactors.specs.Site.{acting}
use Rattle.audited_posts.specs.Posts.{ShownAt}
use Rattle.trace_audit.specs.Seats.{IsSeat}
use Rattle.trace_audit.proofs.Lists.{at_of, at_once}
use Rattle.trace_audit.proofs.Posts.{plan_at}
use Rattle.trace_audit.proofs.Seating.{acting_post, others_of, shown_each, none_shown}
use Rattle.trace_audit.proofs.shares.shown.Goals as goal

pub overflow_sub-i : goal.overflow_sub-i
overflow_sub-i g c =
    let post = acting_post (length c.args.seats.now) c.in-Some.post c.args.entry.now c.requires.of (sym c.acting.ensures ∙ c.in-Some.is) in
    omega (arith, post.0, c.from-i.ensures)

pub returns-in-None : goal.returns-in-None
returns-in-None g c past posts a = none_shown _ c.args.plan.now.limit posts c.args.entry.now _ (sym c.acting.ensures ∙ c.in-None.is)

pub returns-in-Some : goal.returns-in-Some
returns-in-Some g c past posts a =
    let all = told_codecs g.R.Coded.negotiates g.R.Coded.reads g.R.Coded.encodes g.R.ToldCoded.responds g.R.ToldCoded.watts in
    let site = c.args.plan.now in
    let seats = c.args.seats.now in
    let e = c.args.entry.now in
    let k = c.from-i.result in
    let own = c.index-as_slice-i.result in
    let acts : acting e ≡ Some k = sym c.acting.ensures ∙ c.in-Some.is ∙ ap Some (sym c.from-i.ensures) in
    let post = acting_post (length seats) k e c.requires.of acts in
    shown_each all site.limit posts e c.shown_at.result k acts post.0 (λ p h.
    let seat = at_of seats (k - 1) (let less = h.0 in let n = a.count in omega (arith, less, n)) in
    let plan = plan_at all site past posts (k - 1) p a.posts_are h in
    let read : own ≡ get_or site.post.items (k - 1) own = subst (λ (ps : List PostPlan). own ≡ get_or ps (k - 1) own) c.as_slice.ensures.value c.index-as_slice-i.is in
    let is : own ≡ p.plan = at_once site.post.items (k - 1) own p.plan (plan.0, read) plan in
    subst (λ (q : PostPlan). ShownAt all (Shows site.limit (take (k - 1) posts) (drop (suc (k - 1)) posts)) q ((k - 1) + 1) p.steps e c.shown_at.result) is
    (c.shown_at.ensures seat.0 seat.1 (take (k - 1) posts) (drop (suc (k - 1)) posts) past p.steps
    (subst (λ (q : PostPlan). IsSeat all q ((k - 1) + 1) past p.steps seat.0) (sym is) (a.each (k - 1) p seat.0 h seat.1)) (others_of all site past posts seats (k - 1) a h.0)))
