use Rattle.std.proofs.Common.{◌≡◌, ◌<◌, ℕ, ◌+◌, List, [], length, get_or, ap, subst, ◌∙◌, arith}
use Rattle.std.proofs.lemmas.List.{length_push}
use Rattle.session_words.specs.declared.plan.PostPlan.{PostPlan}
use Rattle.audit_streams.specs.Streams.{IsEven}
use Rattle.faultless_pasts.specs.Faultless.{told_codecs}
use Rattle.trace_audit.specs.Seats.{IsAt, IsSeat}
use Rattle.trace_audit.specs.declared.seats.Seat.{Seat}
use Rattle.trace_audit.proofs.Seating.{push_more}
use Rattle.trace_audit.proofs.site.seats_made.Goals as goal

pub loop-post-init : goal.loop-post-init
loop-post-init g c =
    let none = ap length c.new-seats.ensures.items in
    record { count = none; each = λ i plan s h k. absurd (let less = k.0 in omega (arith, less, none)) }

pub loop-post-preserved : goal.loop-post-preserved
loop-post-preserved g c =
    let all = told_codecs g.R.Coded.negotiates g.R.Coded.reads g.R.Coded.encodes g.R.ToldCoded.responds g.R.ToldCoded.watts in
    let plans = c.args.plan.now.post.items in
    let olds = c.loop-post.seats.items in
    let own = c.in_ok-seat.seat in
    let i = c.loop-post.post-index in
    let inv = c.loop-post.invariant in
    let less : i < length plans = subst (λ (ps : List PostPlan). i < length ps) c.as_slice-post-items.ensures.value c.loop-post-test.true in
    let here : c.post-item.result ≡ get_or plans i c.post-item.result = subst (λ (ps : List PostPlan). c.post-item.result ≡ get_or ps i c.post-item.result) c.as_slice-post-items.ensures.value c.post-item.is in
    record {
      count = ap length c.in_ok-push.ensures.items ∙ length_push olds own ∙ ap (λ (n : ℕ). n + 1) inv.count;
      each = λ j plan s h k. push_more (λ p n x. IsSeat all p n [] [] x × IsEven x.post.stream) plans olds i own c.post-item.result inv.count (less, here)
          (c.in_ok-seat.ensures.0 (i + 1), c.in_ok-seat.ensures.1) inv.each j plan s h (subst (λ (xs : List Seat). IsAt xs j s) c.in_ok-push.ensures.items k);
    }

pub returns : goal.returns
returns g c =
    let plans = c.args.plan.now.post.items in
    let all : c.loop-post.post-index ≡ length plans = omega (arith, c.loop-post-test.false, c.loop-post.auto.post-index-end, ap length c.as_slice-post-items.ensures.value) in
    record { count = c.loop-post.invariant.count ∙ all; each = c.loop-post.invariant.each }
