use Rattle.std.proofs.Common.{inl, inr, refl, subst, ◌∙◌, ◌==◌, ◌∷◌, []}
use Rattle.value_text.specs.declared.cursor.TextCursor.{TextCursor}
use Rattle.value_text.specs.Forms.{NoneNext}
use Rattle.value_text.specs.Scanning.{Passes}
use Rattle.value_text.proofs.PieceTexts.{takes_escaped, escaped_ok, escaped_wrong, no_escape}
use Rattle.value_text.proofs.cursor.TextCursor.escaped.Goals as goal

pub returns-then-take_char-clause-taken : goal.returns-then-take_char-clause-taken
returns-then-take_char-clause-taken c = takes_escaped c.args.self.now c.take_char.new.self 34 (inl refl) c.if-take_char.ensures

pub returns-then-take_char-2-clause-taken : goal.returns-then-take_char-2-clause-taken
returns-then-take_char-2-clause-taken c =
    takes_escaped c.args.self.now c.take_char-2.new.self 92 (inr refl) (subst (λ (x : TextCursor). Passes x (92 ∷ []) c.take_char-2.new.self) c.if-take_char.ensures.0 c.if-take_char-2.ensures)

pub returns-then-take_char-3-clause-taken : goal.returns-then-take_char-3-clause-taken
returns-then-take_char-3-clause-taken c =
    let stays = c.if-take_char-2.ensures.0 ∙ c.if-take_char.ensures.0 in
    escaped_ok c.args.self.now c.take_char-3.new.self c.braced.result (subst (λ (x : TextCursor). Passes x (117 ∷ []) c.take_char-3.new.self) stays c.if-take_char-3.ensures) c.braced.ensures.taken

pub returns-then-take_char-3-clause-fault : goal.returns-then-take_char-3-clause-fault
returns-then-take_char-3-clause-fault c =
    let stays = c.if-take_char-2.ensures.0 ∙ c.if-take_char.ensures.0 in
    escaped_wrong c.args.self.now c.take_char-3.new.self c.braced.result (subst (λ (x : TextCursor). Passes x (117 ∷ []) c.take_char-3.new.self) stays c.if-take_char-3.ensures) c.braced.ensures.fault

pub returns-clause-fault : goal.returns-clause-fault
returns-clause-fault c =
    let stays = c.if-take_char.ensures.0 in
    let again = c.if-take_char-2.ensures.0 ∙ stays in
    no_escape c.args.self.now c.take_char-3.new.self (c.if-take_char-3.ensures.0 ∙ again) c.if-take_char.ensures.1
    (subst (λ (x : TextCursor). NoneNext (λ d. d == 92) x.rest.now) stays c.if-take_char-2.ensures.1)
    (subst (λ (x : TextCursor). NoneNext (λ d. d == 117) x.rest.now) again c.if-take_char-3.ensures.1)
