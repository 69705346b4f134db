use Rattle.std.proofs.Common.{arith, rules}
use Rattle.std.specs.Str.{IsUtf8}
use Rattle.std.proofs.lemmas.Str.{IsCharBoundary-from_take, IsUtf8-from_ascii}
use Rattle.value_text.proofs.BestWords.{passes_ascii}
use Rattle.value_text.proofs.cursor.TextCursor.behind.Goals as goal

pub split_at-requires : goal.split_at-requires
split_at-requires c =
    let utf8 : IsUtf8 c.args.self.now.rest.now = search rules in
    IsCharBoundary-from_take c.args.self.now.rest.now c.args.count utf8 c.requires.within (IsUtf8-from_ascii _ c.requires.ascii)

pub returns : goal.returns
returns c = passes_ascii c.args.self.now _ c.args.count c.requires.within c.requires.ascii c.split_at.ensures.back (omega arith)
