use Rattle.value_text.proofs.NumberLaws.{gives_positive, gives_negative, gives_zero, wrong_behind_sign, wrong_otherwise}
use Rattle.value_text.proofs.cursor.TextCursor.number.Goals as goal

pub returns-in-None-clause-fault : goal.returns-in-None-clause-fault
returns-in-None-clause-fault c = wrong_behind_sign c.args.self.now c.take_char.new.self c.if-take_char.ensures c.in-None.ensures

pub returns-in-Some-clause-taken : goal.returns-in-Some-clause-taken
returns-in-Some-clause-taken c =
    let read = c.in-Some.ensures in
    gives_negative c.args.self.now c.take_char.new.self c.in-Some.behind c.in-Some.magnitude read.0 read.1 c.if-take_char.ensures read.2 read.3

pub returns-in-Some-positive-clause-taken : goal.returns-in-Some-positive-clause-taken
returns-in-Some-positive-clause-taken c =
    let read = c.in-Some-positive.ensures in
    gives_positive c.args.self.now c.in-Some-positive.behind c.take_char.new.self c.in-Some-positive.number read.0 read.1 c.if-take_char.ensures.0 read.2 read.3

pub returns-then-take_char-2-clause-taken : goal.returns-then-take_char-2-clause-taken
returns-then-take_char-2-clause-taken c = gives_zero c.args.self.now c.take_char-2.new.self c.take_char.new.self c.if-take_char.ensures.0 c.if-take_char-2.ensures

pub returns-clause-fault : goal.returns-clause-fault
returns-clause-fault c =
    wrong_otherwise c.args.self.now c.take_char.new.self c.take_char-2.new.self c.if-take_char.ensures.0 c.if-take_char-2.ensures.0 c.if-take_char.ensures.1 c.in_default.ensures c.if-take_char-2.ensures.1
