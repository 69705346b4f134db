use Rattle.std.proofs.Common.{◌≡◌, ℕ, List, ◌∷◌, true, rules, sym, ◌∙◌}
use Rattle.std.specs.Prelude.{◌≢◌, codes, decimal}
use Rattle.charge_world.specs.declared.entry.Entry.{Entry}
use Rattle.charge_world.specs.declared.entry.Entry.TheVariants as entry
use Rattle.charge_world.specs.declared.heard.What.{What}
use Rattle.trace_text.specs.TraceText.{words_of, what_words}
use Rattle.trace_text.specs.Reading.{IsHeard, IsRead}
use Rattle.trace_text.proofs.WholeLines.{passed_on}
use Rattle.trace_text.proofs.reading.entry.Goals as goal

bad : (at : ℕ) (rest : List (List ℕ)) → ((x : What × List ℕ) → IsHeard x → rest ≢ what_words x.0 x.1)
    → (e : Entry) → IsRead e → codes "heard" ∷ decimal at ∷ rest ≢ words_of e
bad at rest none (entry.Heard heard bytes) is e = none (heard.what, bytes) (is.0, is.1.1, is.1.2) cc
bad at rest none (entry.Sent post bytes true) is e = search rules
bad at rest none (entry.Answered post bytes true) is e = search rules
bad at rest none (entry.Drove post order true) is e = search rules
bad at rest none (entry.Dialed port true) is e = search rules
bad at rest none _ is e = search rules

pub returns-in_err-what : goal.returns-in_err-what
returns-in_err-what c =
    let words : c.args.words ≡ codes "heard" ∷ decimal c.in_ok-at.at ∷ c.next-then-is.new.self =
    cc (c.in_ok-kind.ensures, c.is.ensures.0 c.if-is.true, c.in_ok-next.ensures, c.in_ok-at.ensures.1) in
    passed_on _ _ _ _ c.from_residual-in_err-what.ensures
    (λ b e is said. bad c.in_ok-at.at c.next-then-is.new.self (c.in_err-what.ensures b) e is (sym words ∙ said))
