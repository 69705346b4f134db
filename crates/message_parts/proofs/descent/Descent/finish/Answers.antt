use Rattle.std.proofs.Common.{ap, subst, sym, ◌∙◌, ◌≡◌, ◌∷◌, List}
use Rattle.message_parts.proofs.Next.{stays_open}
use Rattle.message_parts.specs.Reading.{ToldUpTo, seen_of}
use Rattle.exi_schema.specs.Schemas.{PlainSchema}
use Rattle.exi_events.specs.Grammar.{Opened, around, Behind}
use Rattle.exi_events.specs.Trees.{EndElement}
use Rattle.exi_events.specs.Reader.{IsTold}
use Rattle.message_parts.proofs.Rooted.{ends}
use Rattle.message_parts.proofs.descent.Descent.finish.Goals as goal

pub returns-clause-open : goal.returns-clause-open
returns-clause-open g c = record {
  ready = c.in_ok-_finished.ensures.ready;
  kept = stays_open (seen_of g.P.Places.schema c.args.self.now) (seen_of g.P.Places.schema record { reader = c.next.new.self; child = c.args.self.now.child }) _
      (ap g.P.Places.schema c.in_ok-_finished.ensures.places) c.in_ok-_finished.ensures.open_still.0 c.in_ok-_finished.ensures.open_still.1 c.requires.open.kept c.in_ok-_finished.ensures.next c.in_ok-_finished.ensures.told;
}

pub returns-clause-document : goal.returns-clause-document
returns-clause-document g c = λ ks F told payload above leaves bits.
    let old = seen_of g.P.Places.schema c.args.self.now in
    let new = seen_of g.P.Places.schema record { reader = c.next.new.self; child = c.args.self.now.child } in
    let behind : old.state.standing ≡ Behind = leaves.standing ∙ ap (λ (l : List Opened). around l) above in
    let has : ToldUpTo old.schema (EndElement ∷ told) old.state old.cursor = subst (λ (s : PlainSchema). ToldUpTo s (EndElement ∷ told) old.state old.cursor) (sym leaves.goes.schema_is) leaves.goes.told in
    let all = c.in_ok-_finished.ensures.document payload (EndElement ∷ told) (bits ∙ sym leaves.goes.bits_are) has (ends old new _ behind c.in_ok-_finished.ensures.next) in
    subst (λ (s : PlainSchema). IsTold s (EndElement ∷ told) payload) leaves.goes.schema_is all
