use Rattle.std.proofs.Common.{◌≡◌, ◌+◌, None, Ok, ap, ◌∙◌}
use Rattle.charge_world.specs.declared.entry.Entry.{Entry}
use Rattle.charge_world.specs.declared.entry.Entry.TheVariants as entry
use Rattle.charge_world.specs.Outside.{bytes_of}
use Rattle.trace_lines.specs.declared.TraceFailed.{TraceFailed}
use Rattle.endpoint.specs.Knowing.{AwaitsLine}
use Rattle.endpoint.specs.Telling.{IsTraced, IsCutHere, IsWrittenSo}
use Rattle.endpoint.proofs.Bounds.{counted}
use Rattle.endpoint.proofs.Carry.{carries_to, text_then, text_to}
use Rattle.endpoint.proofs.Faults.{text_told}
use Rattle.endpoint.proofs.Written.{text_next, err_written}
use Rattle.end_turns.specs.declared.ending.Ended.TheVariants as ended
use Rattle.end_turns.specs.Lasts.{last_by}
use Rattle.end_turns.specs.Turns.{Waits, Stops, Turned}
use Rattle.end_turns.proofs.Turns.{HeardSo, turn_heard, turned, cut_turn, turned_cut, turn_lost, lost_cut, goes_on_if}
use Rattle.end_turns.proofs.turning.turn.Goals as goal

pub returns-in_err-miss-in-Err-clause-carried : goal.returns-in_err-miss-in-Err-clause-carried
returns-in_err-miss-in-Err-clause-carried g c plan before =
    let E = g.E.End in
    let s = E.state c.args.near.now in
    let new = E.state c.miss.new.self in
    let n = E.turns_in (E.kept s) in
    let waited = g.W.Wire.untils c.args.wire.now in
    let waited_later = g.W.Wire.untils c.next.new.self in
    let r = c.from_residual.result in
    carries_to _ _ (Waits (E.runs plan s) c.args.so_far.now waited before) (Stops (E.runs plan new) n (E.over new) ended.Lost waited_later before) (Turned (E.runs plan new) n (E.over new) r c.lose.new.self waited_later before)
    (λ past h. turned_cut _ (E.runs plan new) n (E.over new) r c.lose.new.self waited_later before past c.from_residual.ensures.0 (lost_cut (E.runs plan new) n (E.over new) waited_later before past h))
    (turn_lost _ _ (E.runs plan s) (E.runs plan new) n (E.over new) c.args.so_far.now waited waited_later before c.until.result c.in-Err.ensures.lost c.next.ensures.untils c.requires.left
    (λ k past goes less run. rw c.until.ensures (c.miss.ensures.carried plan k past goes less run)))

pub returns-in_err-miss-in-Err-clause-traced : goal.returns-in_err-miss-in-Err-clause-traced
returns-in_err-miss-in-Err-clause-traced g c =
    let n = c.args.so_far.now.hearing in
    let m = c.lose.new.self.hearing in
    let one : m ≡ n + 1 = counted n m c.requires.countable c.lose.ensures.hearing in
    let r = c.from_residual.result in
    text_then _ _ _ _ _ _ (IsTraced n) (AwaitsLine n entry.Lost) (IsWrittenSo m r) (text_next _ _ _ entry.Lost n c.in-Err.ensures.lost)
    (text_to _ _ _ _ (AwaitsLine n entry.Lost) IsCutHere (IsWrittenSo m r) (λ past text t. err_written m r past text c.from_residual.ensures.0 t) (c.in_err-miss-in-Err.ensures.traced n _ one))

pub returns-in_ok-miss-in-Err-clause-traced : goal.returns-in_ok-miss-in-Err-clause-traced
returns-in_ok-miss-in-Err-clause-traced g c =
    let n = c.args.so_far.now.hearing in
    let m = c.lose.new.self.hearing in
    let one : m ≡ n + 1 = counted n m c.requires.countable c.lose.ensures.hearing in
    text_then _ _ _ _ _ _ (IsTraced n) (AwaitsLine n entry.Lost) (IsTraced m) (text_next _ _ _ entry.Lost n c.in-Err.ensures.lost) (c.in_ok-miss-in-Err.ensures.traced n _ one)

pub returns-in_ok-miss-in-Err-clause-carried : goal.returns-in_ok-miss-in-Err-clause-carried
returns-in_ok-miss-in-Err-clause-carried g c plan before =
    let E = g.E.End in
    let s = E.state c.args.near.now in
    let new = E.state c.miss.new.self in
    turn_lost _ _ (E.runs plan s) (E.runs plan new) (E.turns_in (E.kept s)) (E.over new) c.args.so_far.now (g.W.Wire.untils c.args.wire.now) (g.W.Wire.untils c.next.new.self) before c.until.result c.in-Err.ensures.lost c.next.ensures.untils
    c.requires.left (λ k past goes less run. rw c.until.ensures (c.miss.ensures.carried plan k past goes less run))

pub returns-in_err-hear-in-Ok-clause-carried : goal.returns-in_err-hear-in-Ok-clause-carried
returns-in_err-hear-in-Ok-clause-carried g c plan before =
    let E = g.E.End in
    let s = E.state c.args.near.now in
    let new = E.state c.hear.new.self in
    let turns = E.turns_in (E.kept s) in
    let h = c.in-Ok.heard in
    let bytes = bytes_of h.what c.next.new.room in
    let n = c.args.so_far.now.hearing in
    let later = c.count.new.self in
    let one : later.hearing ≡ n + 1 = counted n later.hearing c.requires.countable c.count.ensures.hearing in
    let waited = g.W.Wire.untils c.args.wire.now in
    let waited_later = g.W.Wire.untils c.hear.new.wire in
    let start = g.W.Wire.past c.args.wire.now in
    let mid = g.W.Wire.past c.next.new.self in
    let after = g.W.Wire.past c.hear.new.wire in
    let heard = turn_heard start mid after (E.runs plan s) (E.runs plan new) turns c.args.so_far.now later h bytes waited waited_later before c.until.result c.in-Ok.ensures.heard
    (λ k goes less clock. rw c.until.ensures (c.hear.ensures.carried plan k goes less clock))
    (λ known. c.hear.ensures.untils known ∙ c.next.ensures.untils (text_told mid after _ _ (AwaitsLine n (entry.Heard h bytes)) (IsWrittenSo later.hearing c.hear.result) (c.hear.ensures.traced n one) known))
    c.count.ensures.moment one c.requires.left in
    let r = c.from_residual-in_err-hear-in-Ok.result in
    carries_to start after (Waits (E.runs plan s) c.args.so_far.now waited before) (HeardSo (E.runs plan new) later h bytes waited_later before) (Turned (E.runs plan new) turns (E.over new) r later waited_later before)
    (λ past x. turned_cut _ (E.runs plan new) turns (E.over new) r later waited_later before past c.from_residual-in_err-hear-in-Ok.ensures.0 (cut_turn (E.runs plan new) turns (E.over new) later h bytes waited_later before past x)) heard

pub returns-in_err-hear-in-Ok-clause-traced : goal.returns-in_err-hear-in-Ok-clause-traced
returns-in_err-hear-in-Ok-clause-traced g c =
    let h = c.in-Ok.heard in
    let bytes = bytes_of h.what c.next.new.room in
    let n = c.args.so_far.now.hearing in
    let m = c.count.new.self.hearing in
    let one : m ≡ n + 1 = counted n m c.requires.countable c.count.ensures.hearing in
    let e : Entry = entry.Heard h bytes in
    let r = c.from_residual-in_err-hear-in-Ok.result in
    text_then _ _ _ _ _ _ (IsTraced n) (AwaitsLine n e) (IsWrittenSo m r) (text_next _ _ _ e n c.in-Ok.ensures.heard)
    (text_to _ _ _ _ (AwaitsLine n e) IsCutHere (IsWrittenSo m r) (λ past text t. err_written m r past text c.from_residual-in_err-hear-in-Ok.ensures.0 t) (c.in_err-hear-in-Ok.ensures.traced n one))

pub returns-in_ok-hear-in-Ok-clause-carried : goal.returns-in_ok-hear-in-Ok-clause-carried
returns-in_ok-hear-in-Ok-clause-carried g c plan before =
    let E = g.E.End in
    let s = E.state c.args.near.now in
    let new = E.state c.hear.new.self in
    let turns = E.turns_in (E.kept s) in
    let h = c.in-Ok.heard in
    let bytes = bytes_of h.what c.next.new.room in
    let n = c.args.so_far.now.hearing in
    let later = c.count.new.self in
    let one : later.hearing ≡ n + 1 = counted n later.hearing c.requires.countable c.count.ensures.hearing in
    let waited = g.W.Wire.untils c.args.wire.now in
    let waited_later = g.W.Wire.untils c.hear.new.wire in
    let start = g.W.Wire.past c.args.wire.now in
    let mid = g.W.Wire.past c.next.new.self in
    let after = g.W.Wire.past c.hear.new.wire in
    let heard = turn_heard start mid after (E.runs plan s) (E.runs plan new) turns c.args.so_far.now later h bytes waited waited_later before c.until.result c.in-Ok.ensures.heard
    (λ k goes less clock. rw c.until.ensures (c.hear.ensures.carried plan k goes less clock))
    (λ known. c.hear.ensures.untils known ∙ c.next.ensures.untils (text_told mid after _ _ (AwaitsLine n (entry.Heard h bytes)) (IsWrittenSo later.hearing c.hear.result) (c.hear.ensures.traced n one) known))
    c.count.ensures.moment one c.requires.left in
    carries_to start after (Waits (E.runs plan s) c.args.so_far.now waited before) (HeardSo (E.runs plan new) later h bytes waited_later before)
    (Turned {E = TraceFailed} (E.runs plan new) turns (E.over new) (Ok c.heard.result) later waited_later before)
    (λ past x. turned TraceFailed (E.runs plan new) turns later h bytes waited_later before past (E.over new) c.heard.result (c.heard.ensures ∙ ap (last_by h.what) c.is_over.ensures) (λ k r. g.met.E.End.known plan new k past r) x) heard

pub returns-in_ok-hear-in-Ok-clause-traced : goal.returns-in_ok-hear-in-Ok-clause-traced
returns-in_ok-hear-in-Ok-clause-traced g c =
    let h = c.in-Ok.heard in
    let n = c.args.so_far.now.hearing in
    let m = c.count.new.self.hearing in
    let one : m ≡ n + 1 = counted n m c.requires.countable c.count.ensures.hearing in
    let e : Entry = entry.Heard h (bytes_of h.what c.next.new.room) in
    text_then _ _ _ _ _ _ (IsTraced n) (AwaitsLine n e) (IsTraced m) (text_next _ _ _ e n c.in-Ok.ensures.heard) (c.in_ok-hear-in-Ok.ensures.traced n one)

pub returns-in_ok-hear-in-Ok-clause-lives : goal.returns-in_ok-hear-in-Ok-clause-lives
returns-in_ok-hear-in-Ok-clause-lives g c e =
    let none : None ≡ c.heard.result = cc in
    goes_on_if c.in-Ok.heard.what (g.E.End.over (g.E.End.state c.hear.new.self)) (none ∙ c.heard.ensures ∙ ap (last_by c.in-Ok.heard.what) c.is_over.ensures)

pub returns-in_err-miss-in-Err-clause-hearing : goal.returns-in_err-miss-in-Err-clause-hearing
returns-in_err-miss-in-Err-clause-hearing g c = counted c.args.so_far.now.hearing c.lose.new.self.hearing c.requires.countable c.lose.ensures.hearing

pub returns-in_ok-miss-in-Err-clause-hearing : goal.returns-in_ok-miss-in-Err-clause-hearing
returns-in_ok-miss-in-Err-clause-hearing g c = counted c.args.so_far.now.hearing c.lose.new.self.hearing c.requires.countable c.lose.ensures.hearing

pub returns-in_err-hear-in-Ok-clause-hearing : goal.returns-in_err-hear-in-Ok-clause-hearing
returns-in_err-hear-in-Ok-clause-hearing g c = counted c.args.so_far.now.hearing c.count.new.self.hearing c.requires.countable c.count.ensures.hearing

pub returns-in_ok-hear-in-Ok-clause-hearing : goal.returns-in_ok-hear-in-Ok-clause-hearing
returns-in_ok-hear-in-Ok-clause-hearing g c = counted c.args.so_far.now.hearing c.count.new.self.hearing c.requires.countable c.count.ensures.hearing
