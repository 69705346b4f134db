use Rattle.std.proofs.Common.{◌≡◌, ◌+◌, ◌<◌, ◌≤◌, ℕ, true, false, List, length, map, Option, refl, sym, ap, subst, ◌∙◌, arith, is_ok}
use Rattle.std.specs.Prelude.{IsSome}
use Rattle.charge_world.specs.declared.entry.Entry.{Entry}
use Rattle.charge_world.specs.declared.entry.Entry.TheVariants as entry
use Rattle.charge_world.specs.declared.ports.Order.TheVariants as order
use Rattle.station_spec.specs.Sharing.{Post}
use Rattle.station_spec.specs.Runs.{Closes}
use Rattle.site_posts.specs.Places.{place_of}
use Rattle.site_serving.specs.Serving.{ClosesTo}
use Rattle.endpoint.specs.Telling.{HasClosing}
use Rattle.endpoint.proofs.Carry.{carries_none, carries_one, carries_then, carries_to, grows_told}
use Rattle.endpoint.proofs.Orders.{none_closing, one_closing}
use Rattle.site_serving.proofs.Shutting.{live_at, closes_live, closes_idle, closes_all, among_places, all_places}
use Rattle.site_serving.proofs.closing.close_unwritten.Goals as goal
use Rattle.site_serving.proofs.closing.close_unwritten.Goals.{then-live, else-live}

pub loop-i-init : goal.loop-i-init
loop-i-init g c = record {
  closed = λ posts blocks are. carries_none _ (ClosesTo posts c.args.from blocks) (ClosesTo posts c.args.from blocks) (λ past h. h);
  orders = λ blocks. carries_none _ (λ past. past ≡ blocks) (HasClosing blocks) (λ past e. none_closing blocks past e);
  untils = λ told. refl;
  started = refl;
  posts = refl;
  faults = omega arith;
}

pub loop-i-preserved : goal.loop-i-preserved
loop-i-preserved g c =
    let places = c.args.places.now in
    let i = c.loop-i.i in
    let less : i < length places = c.loop-i-test.true in
    elim c.if-live.branch [
      | then-live w ↦ record {
        closed = λ posts blocks are.
            let a = among_places places posts i are less in
            carries_then _ _ _ (ClosesTo posts c.args.from blocks) (ClosesTo posts i blocks) (ClosesTo posts (i + 1) blocks) (c.loop-i.invariant.closed posts blocks are)
            (carries_one _ _ (entry.Drove (i + 1) order.Open (is_ok w.drive.result)) (ClosesTo posts i blocks) (ClosesTo posts (i + 1) blocks) (rw w.wire-is w.drive.ensures.drove)
            (λ past h. closes_live posts blocks past i (is_ok w.drive.result) a (live_at places posts i c.index-places-i.result true are a less c.index-places-i.is (sym c.live.ensures ∙ w.if-live.true)) h));
        orders = λ blocks.
            carries_then _ _ _ (λ past. past ≡ blocks) (HasClosing blocks) (HasClosing blocks) (c.loop-i.invariant.orders blocks)
            (carries_one _ _ (entry.Drove (i + 1) order.Open (is_ok w.drive.result)) (HasClosing blocks) (HasClosing blocks) (rw w.wire-is w.drive.ensures.drove)
            (λ past h. one_closing blocks past (i + 1) (is_ok w.drive.result) h));
        untils = rw w.wire-is (λ told. w.drive.ensures.untils told ∙ c.loop-i.invariant.untils (grows_told _ _ _ w.drive.ensures.drove told));
        started = rw w.wire-is (w.drive.ensures.started ∙ c.loop-i.invariant.started);
        posts = rw w.wire-is (w.drive.ensures.posts ∙ c.loop-i.invariant.posts);
        faults = rw w.wire-is (omega (arith, w.drive.ensures.faults.later, c.loop-i.invariant.faults));
      }
      | else-live w ↦ record {
        closed = λ posts blocks are.
            let a = among_places places posts i are less in
            carries_to _ _ (ClosesTo posts c.args.from blocks) (ClosesTo posts i blocks) (ClosesTo posts (i + 1) blocks)
            (λ past h. closes_idle posts blocks past i a (live_at places posts i c.index-places-i.result false are a less c.index-places-i.is (sym c.live.ensures ∙ w.if-live.false)) h) (rw w.wire-is (c.loop-i.invariant.closed posts blocks are));
        orders = λ blocks. rw w.wire-is (c.loop-i.invariant.orders blocks);
        untils = rw w.wire-is c.loop-i.invariant.untils;
        started = rw w.wire-is c.loop-i.invariant.started;
        posts = rw w.wire-is c.loop-i.invariant.posts;
        faults = rw w.wire-is c.loop-i.invariant.faults;
      }
    ]

pub returns-clause-closed : goal.returns-clause-closed
returns-clause-closed g c posts blocks are =
    let all : c.loop-i.i ≡ length c.args.places.now = omega arith in
    carries_to _ _ (ClosesTo posts c.args.from blocks) (ClosesTo posts c.loop-i.i blocks) (Closes 1 posts blocks)
    (λ past h. closes_all posts blocks past c.loop-i.i (all_places c.args.places.now posts c.loop-i.i are all) h) (c.loop-i.invariant.closed posts blocks are)
