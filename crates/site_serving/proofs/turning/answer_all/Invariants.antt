use Rattle.std.proofs.Common.{◌≡◌, ◌≤◌, ℕ, length}
use Rattle.std.specs.Prelude.{IsSome}
use Rattle.std.specs.List.{All, AllWithin}
use Rattle.session_words.specs.declared.plan.SitePlan.{SitePlan}
use Rattle.post_spec.specs.Codecs.{codecs}
use Rattle.site_posts.specs.Places.{RestsAt}
use Rattle.site_acts.specs.Serving.{IsReady, InBlock}
use Rattle.endpoint.specs.Knowing.{Known}
use Rattle.endpoint.specs.Telling.{Carries, CarriesText, IsTraced}
use Rattle.site_serving.proofs.turning.answer_all.Given as goal

abbrev pub invariant-loop-i : goal.invariant-loop-i
invariant-loop-i g l = record {
  carried : (site : SitePlan) (k : Known) → site.limit ≡ l.limit → Carries (g.W.Wire.past l.initial.wire) (g.W.Wire.past l.wire)
      (InBlock (codecs g.C.Coded.negotiates g.C.Coded.reads g.C.Coded.encodes) site k l.initial.places) (InBlock (codecs g.C.Coded.negotiates g.C.Coded.reads g.C.Coded.encodes) site k l.places);
  traced : CarriesText (g.W.Wire.past l.initial.wire) (g.W.Wire.past l.wire) (g.J.Sink.taken l.initial.trace) (g.J.Sink.taken l.trace) (IsTraced l.hearing) (IsTraced l.hearing);
  ready : All (IsReady g.C.Coded.reads) l.places;
  quiet : AllWithin RestsAt l.places 0 l.i;
  writes : g.J.Sink.faults l.trace ≡ g.J.Sink.faults l.initial.trace;
  untils : IsSome (g.W.Wire.past l.wire) → g.W.Wire.untils l.wire ≡ g.W.Wire.untils l.initial.wire;
  started : g.W.Wire.started l.wire ≡ g.W.Wire.started l.initial.wire;
  posts : g.W.Wire.posts l.wire ≡ g.W.Wire.posts l.initial.wire;
  faults : g.W.Wire.faults l.initial.wire ≤ g.W.Wire.faults l.wire;
}
