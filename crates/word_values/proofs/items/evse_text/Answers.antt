use Rattle.std.proofs.Common.{◌≡◌, ◌≤◌, length, arith}
use Rattle.std.specs.Str.{chars}
use Rattle.session_words.specs.EvseTexts.{code_points}
use Rattle.word_values.proofs.TextLemmas.{bytes_few, points_counted}
use Rattle.word_values.proofs.items.evse_text.Goals as goal

pub unreachable-requires : goal.unreachable-requires
unreachable-requires c =
    let counted : code_points c.args.text.now ≡ length (chars c.args.text.now) = points_counted c.args.text.now c.utf8.text in
    let points : code_points c.args.text.now ≤ 37 = omega (arith, c.requires) in
    c.in-None.ensures (bytes_few c.args.text.now c.utf8.text c.requires, points)
