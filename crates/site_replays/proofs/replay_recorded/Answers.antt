use Rattle.std.proofs.Common.{◌≡◌, ℕ, List, [], Option, Some, None, ap, subst}
use Rattle.std.specs.Prelude.{IfSome, IsSomeAnd}
use Rattle.site_turns.specs.Ending.{EndedAs}
use Rattle.replay_wire.specs.Standing.{Replaying}
use Rattle.site_replays.specs.Replayed.{IsWritten}
use Rattle.site_replays.proofs.replay_recorded.Goals as goal

written : (before after : Option (List ℕ)) (E : Type 0) (Q : List ℕ → Type 0) → E
    → IfSome after (λ text. IsSomeAnd before (λ earlier. E × (earlier ≡ []) → Q text)) → IsWritten before after Q
written before None E Q e h = tt
written None (Some text) E Q e h = h
written (Some earlier) (Some text) E Q e h = λ empty. h (e, empty)

pub returns-clause-replayed : goal.returns-clause-replayed
returns-clause-replayed g c plan made =
    let empty : c.make-wire.result.told.past ≡ [] = ap (λ (w : Replaying). w.told.past) c.make-wire.ensures in
    record {
      past = c.serve-ended.new.wire.told.past;
      run = c.serve-ended.ensures.run plan made empty;
      ended = subst (λ (turns : ℕ). EndedAs turns c.serve-ended.result c.serve-ended.new.wire.told.past) made.turns_is (c.serve-ended.ensures.ended empty);
      replays = c.replays.ensures;
      written = written _ _ _ _ empty c.serve-ended.ensures.trace;
      count = c.entries-entries.ensures;
    }
