use Rattle.std.proofs.Common.{rules, ◌≡◌, suc, List, Some, inl, inr, sym, ap, subst, ◌∙◌, ◌+◌, arith, map, take}
use Rattle.std.proofs.lemmas.Bool.Decides.{nat_tests}
use Rattle.exi_events.specs.Trees.{Event}
use Rattle.message_parts.specs.Contents.{holding_with, told_each}
use Rattle.message_parts.specs.Particles.{name_at, kind_at}
use Rattle.message_parts.specs.Reading.{seen_of, Reads, ReadsFrom}
use Rattle.message_parts.proofs.Repeated.{goes_on, enters_more, told_pushed, stops, fills}
use Rattle.message_parts.proofs.children.records_here.Goals.{else-loop-test, then-loop-test+then-not-is_at}
use Rattle.message_parts.proofs.children.records_here.Goals as goal

pub loop-preserved : goal.loop-preserved
loop-preserved g c =
    let i = c.loop.invariant in
    let k = c.loop.counter in
    record {
      ready = c.in_ok-next_child.ensures.open;
      table = search rules;
      places = search rules;
      payload = search rules;
      counted = omega (arith, i.counted);
      within = c.record_at.ensures.within;
      read = λ F attributes declared at told h is named kind.
          let before = goes_on _ F attributes declared at k _ _ g.row.N is (i.read F attributes declared at told h is named kind) c.loop-test.true in
          let e = enters_more _ F attributes declared at k _ _ g.row.N before is (c.is_at.ensures.here (search (rules, c.if-not-is_at.false)) ∙ ap Some named) in
          let l = c.in_ok-record_at.ensures.read _ (kind_at declared at) _ e.enters kind in
          let same = told_pushed (λ x. holding_with (g.T.PutRecord.given x) (g.T.PutRecord.parts x)) c.args.name (name_at declared at) (take c.loop.count c.loop.list.items) (take (c.loop.count + 1) c.record_at.new.list.items) l.0 told l.1 named in
          elim (e.follows _ _ l.2) [
            | inl more ↦ inl (subst (λ (t : List Event). ReadsFrom g.T.PutRecord.kinds F attributes declared at (k + 1) t (seen_of g.P.Places.schema c.next_child.new.self)) same
                (c.in_ok-next_child.ensures.child _ F attributes declared at (k + 1) _ more))
            | inr last ↦ inr (
              last.0,
              subst (λ (t : List Event). Reads g.T.PutRecord.kinds F attributes declared (suc at) t (seen_of g.P.Places.schema c.next_child.new.self)) same
                  (c.in_ok-next_child.ensures.child _ F attributes declared (suc at) 0 _ last.1),
            )
          ];
    }

pub returns-clause-read : goal.returns-clause-read
returns-clause-read g c = λ F attributes declared at told h is named kind.
    let all = c.loop.invariant.read F attributes declared at told h is named kind in
    subst (λ (xs : List g.row.T.Denot). Reads g.T.PutRecord.kinds F attributes declared (suc at) (told_each c.args.name (map (λ x. holding_with (g.T.PutRecord.given x) (g.T.PutRecord.parts x)) xs) told) (seen_of g.P.Places.schema c.loop.descent)) (sym c.truncate.ensures.items)
    (elim c.loop-test.branch [
      | else-loop-test w ↦ fills _ F attributes declared at c.loop.counter _ _ g.row.N is all (grind (arith, nat_tests))
      | then-loop-test+then-not-is_at w ↦ stops _ F attributes declared at c.loop.counter _ _ g.row.N is all (λ here. w.is_at.ensures.absent (search (rules, w.if-not-is_at.true)) (here ∙ ap Some (sym named)))
    ])
