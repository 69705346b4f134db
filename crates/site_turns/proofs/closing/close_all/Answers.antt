use Rattle.std.proofs.Common.{◌≡◌, ◌+◌, [], length, refl, ◌∙◌, arith}
use Rattle.station_spec.specs.Runs.{Closes}
use Rattle.site_serving.specs.Serving.{ClosesTo}
use Rattle.endpoint.specs.Telling.{HasClosing, IsTraced, IsWrittenSo, IsCutHere, IsCutText}
use Rattle.endpoint.proofs.Carry.{carries_none, carries_then, carries_to, carries_told, text_none, text_then}
use Rattle.endpoint.proofs.Faults.{fault_ok, text_told}
use Rattle.site_serving.proofs.Shutting.{closes_none, closes_all, all_places}
use Rattle.endpoint.proofs.Orders.{closing_more, none_closing, text_closing}
use Rattle.site_turns.proofs.closing.close_all.Goals as goal

pub loop-i-init : goal.loop-i-init
loop-i-init g c = record {
  closed = λ posts blocks are. carries_none _ (λ past. past ≡ blocks) (ClosesTo posts 0 blocks) (λ past e. closes_none posts blocks past e);
  orders = λ blocks. carries_none _ (λ past. past ≡ blocks) (HasClosing blocks) (λ past e. none_closing blocks past e);
  traced = text_none _ _ (IsTraced c.args.hearing) (IsTraced c.args.hearing) (λ past text t. t);
  writes = refl;
  untils = λ told. refl;
  started = refl;
  posts = refl;
  faults = omega arith;
}

pub loop-i-preserved : goal.loop-i-preserved
loop-i-preserved g c = record {
  closed = λ posts blocks are. carries_then _ _ _ (λ past. past ≡ blocks) (ClosesTo posts c.loop-i.i blocks) (ClosesTo posts (c.loop-i.i + 1) blocks) (c.loop-i.invariant.closed posts blocks are) (c.close_one.ensures.closed posts blocks are);
  orders = λ blocks. carries_then _ _ _ (λ past. past ≡ blocks) (HasClosing blocks) (HasClosing blocks) (c.loop-i.invariant.orders blocks) (c.close_one.ensures.orders blocks);
  traced = text_then _ _ _ _ _ _ (IsTraced c.args.hearing) (IsTraced c.args.hearing) (IsTraced c.args.hearing) c.loop-i.invariant.traced c.in-Ok.ensures.traced;
  writes = fault_ok _ _ _ c.in-Ok.ensures.writes ∙ c.loop-i.invariant.writes;
  untils = λ told. c.close_one.ensures.untils told ∙ c.loop-i.invariant.untils (text_told _ _ _ _ (IsTraced c.args.hearing) (IsWrittenSo c.args.hearing c.close_one.result) c.close_one.ensures.traced told);
  started = c.close_one.ensures.started ∙ c.loop-i.invariant.started;
  posts = c.close_one.ensures.posts ∙ c.loop-i.invariant.posts;
  faults = omega (arith, c.loop-i.invariant.faults, c.close_one.ensures.faults);
}

pub returns-in-Err-clause-closed : goal.returns-in-Err-clause-closed
returns-in-Err-clause-closed g c posts blocks are =
    carries_then _ _ _ (λ past. past ≡ blocks) (ClosesTo posts c.loop-i.i blocks) (Closes 1 posts blocks) (c.loop-i.invariant.closed posts blocks are)
    (carries_then _ _ _ (ClosesTo posts c.loop-i.i blocks) (ClosesTo posts (c.loop-i.i + 1) blocks) (Closes 1 posts blocks) (c.close_one.ensures.closed posts blocks are) (c.close_unwritten.ensures.closed posts blocks are))

pub returns-in-Err-clause-orders : goal.returns-in-Err-clause-orders
returns-in-Err-clause-orders g c blocks =
    carries_then _ _ _ (λ past. past ≡ blocks) (HasClosing blocks) (HasClosing blocks) (c.loop-i.invariant.orders blocks)
    (carries_then _ _ _ (HasClosing blocks) (HasClosing blocks) (HasClosing blocks) (c.close_one.ensures.orders blocks) (closing_more _ _ blocks c.close_unwritten.ensures.orders))

pub returns-in-Err-clause-traced : goal.returns-in-Err-clause-traced
returns-in-Err-clause-traced g c =
    text_then _ _ _ _ _ _ (IsTraced c.args.hearing) (IsTraced c.args.hearing) IsCutText c.loop-i.invariant.traced
    (text_then _ _ _ _ _ _ (IsTraced c.args.hearing) IsCutHere IsCutText c.in-Err.ensures.traced (text_closing _ _ _ c.close_unwritten.ensures.orders))

pub returns-in-Err-clause-untils : goal.returns-in-Err-clause-untils
returns-in-Err-clause-untils g c told =
    let mid = carries_told _ _ (HasClosing []) (HasClosing []) (closing_more _ _ [] c.close_unwritten.ensures.orders) told in
    c.close_unwritten.ensures.untils told ∙ c.close_one.ensures.untils mid ∙ c.loop-i.invariant.untils (carries_told _ _ (HasClosing []) (HasClosing []) (c.close_one.ensures.orders []) mid)

pub returns-clause-closed : goal.returns-clause-closed
returns-clause-closed g c posts blocks are =
    let all : c.loop-i.i ≡ length c.args.places.now = omega arith in
    carries_to _ _ (λ past. past ≡ blocks) (ClosesTo posts c.loop-i.i blocks) (Closes 1 posts blocks)
    (λ past h. closes_all posts blocks past c.loop-i.i (all_places c.args.places.now posts c.loop-i.i are all) h) (c.loop-i.invariant.closed posts blocks are)
