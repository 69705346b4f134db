use Rattle.std.proofs.Common.{◌≡◌, ◌≤◌, List, map}
use Rattle.std.specs.Prelude.{IsSome}
use Rattle.charge_world.specs.declared.entry.Entry.{Entry}
use Rattle.station_spec.specs.Sharing.{Post}
use Rattle.site_posts.specs.Places.{place_of}
use Rattle.site_serving.specs.Serving.{ClosesTo}
use Rattle.endpoint.specs.Telling.{Carries, CarriesText, HasClosing, IsTraced}
use Rattle.site_turns.proofs.closing.close_all.Given as goal

abbrev pub invariant-loop-i : goal.invariant-loop-i
invariant-loop-i g l = record {
  closed : (posts : List Post) (blocks : List Entry) → l.places ≡ map place_of posts → Carries (g.W.Wire.past l.initial.wire) (g.W.Wire.past l.wire) (λ past. past ≡ blocks) (ClosesTo posts l.i blocks);
  orders : (blocks : List Entry) → Carries (g.W.Wire.past l.initial.wire) (g.W.Wire.past l.wire) (λ past. past ≡ blocks) (HasClosing blocks);
  traced : CarriesText (g.W.Wire.past l.initial.wire) (g.W.Wire.past l.wire) (g.J.Sink.taken l.initial.trace) (g.J.Sink.taken l.trace) (IsTraced l.hearing) (IsTraced l.hearing);
  writes : g.J.Sink.faults l.trace ≡ g.J.Sink.faults l.initial.trace;
  untils : IsSome (g.W.Wire.past l.wire) → g.W.Wire.untils l.wire ≡ g.W.Wire.untils l.initial.wire;
  started : g.W.Wire.started l.wire ≡ g.W.Wire.started l.initial.wire;
  posts : g.W.Wire.posts l.wire ≡ g.W.Wire.posts l.initial.wire;
  faults : g.W.Wire.faults l.initial.wire ≤ g.W.Wire.faults l.wire;
}
