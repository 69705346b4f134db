use Rattle.std.proofs.Common.{◌≡◌, Some, ap, sym, ◌∙◌, arith}
use Rattle.std.specs.Result.{result_ok}
use Rattle.text_tokens.proofs.Cuts.{cut_none, cut_first}
use Rattle.text_tokens.specs.Words.{words_left}
use Rattle.text_tokens.proofs.words.Words.next.Goals as goal

pub returns-then-len-text : goal.returns-then-len-text
returns-then-len-text c =
    let was : c.self.inside.rest ≡ Some c.in_ok-text.text = sym c.take.ensures.value ∙ c.ok_or.ensures.ok_part ∙ ap result_ok c.in_ok-text.was in
    rw c.take.ensures.after (sym c.self.view_is ∙ ap words_left was ∙ cut_none c.in_ok-text.text.now (sym c.word_len-len.ensures.len ∙ c.if-len-text.true))

pub returns : goal.returns
returns c =
    let was : c.self.inside.rest ≡ Some c.in_ok-text.text = sym c.take.ensures.value ∙ c.ok_or.ensures.ok_part ∙ ap result_ok c.in_ok-text.was in
    rw (c.split_at.ensures.back, c.word_len-len.ensures.len) (
    sym c.self.view_is ∙ ap words_left was ∙ cut_first c.in_ok-text.text.now (omega (arith, c.word_len-len.ensures.len))
    )
