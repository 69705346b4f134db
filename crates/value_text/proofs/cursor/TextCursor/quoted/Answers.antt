use Rattle.std.proofs.Common.{ℕ, subst}
use Rattle.std.specs.Prelude.{Option}
use Rattle.value_text.proofs.PieceTexts.{GivesPiece}
use Rattle.std.proofs.lemmas.Str.{IsUtf8-string_bytes}
use Rattle.std.specs.String.{string_bytes}
use Rattle.value_text.proofs.QuotedTexts.{reads_quote, reads_on, takes_quoted, wrong_inside, no_quote, piece_shorter}
use Rattle.value_text.proofs.cursor.TextCursor.quoted.Goals as goal

pub loop-c-init : goal.loop-c-init
loop-c-init c = reads_quote c.args.self.now c.take_char.new.self (string_bytes c.new-text.result) c.new-text.ensures.bytes c.if-not-take_char.ensures

pub returns-then-not-take_char-clause-fault : goal.returns-then-not-take_char-clause-fault
returns-then-not-take_char-clause-fault c = no_quote c.args.self.now c.take_char.new.self c.if-not-take_char.ensures.0 c.if-not-take_char.ensures.1

pub loop-c-smaller : goal.loop-c-smaller
loop-c-smaller c =
    let x = c.in-Ok-Some-default in
    piece_shorter c.loop-c.ahead x.behind x.c (subst (λ (p : Option ℕ). GivesPiece c.loop-c.ahead p x.behind) x.field-0-0-is x.ensures.taken)

pub loop-c-preserved : goal.loop-c-preserved
loop-c-preserved c =
    let x = c.in-Ok-Some-default in
    reads_on c.args.self.now c.loop-c.ahead x.behind (string_bytes c.loop-c.text) (string_bytes c.push.new.self) x.c (IsUtf8-string_bytes c.loop-c.text) c.loop-c.invariant
    (subst (λ (p : Option ℕ). GivesPiece c.loop-c.ahead p x.behind) x.field-0-0-is x.ensures.taken) c.in_ok-push-in-Ok-Some-default.ensures.bytes

pub returns-in-Ok-None-default-clause-taken : goal.returns-in-Ok-None-default-clause-taken
returns-in-Ok-None-default-clause-taken c =
    let x = c.in-Ok-None-default in
    takes_quoted c.args.self.now c.loop-c.ahead x.behind _ c.loop-c.invariant (subst (λ (p : Option ℕ). GivesPiece c.loop-c.ahead p x.behind) x.field-0-0-is x.ensures.taken)

pub returns-in-Err-clause-fault : goal.returns-in-Err-clause-fault
returns-in-Err-clause-fault c = wrong_inside c.args.self.now c.loop-c.ahead _ c.in-Err.place c.loop-c.invariant c.in-Err.ensures.fault
