use Rattle.std.proofs.Common.{◌≡◌, ◌+◌, ◌≤◌, [], ◌∷◌, ◌++◌, length, arith, lit<, sym, ◌∙◌, ap, refl, length-append}
use Rattle.word_values.proofs.TextLemmas.{push_fits, parts_more, text_more, few_more, scalars_more, none_left, chars_few}
use Rattle.word_values.proofs.items.lent_text.Goals as goal
use Rattle.word_values.proofs.items.lent_text.Goals.{in-Some, in-None}

pub push-requires : goal.push-requires
push-requires c = (lit< tt, push_fits _ _ _ _ _ _ _ c.loop-at.invariant.parts c.in-Some.ensures c.loop-at.invariant.text_is c.loop-at.invariant.all_few)

pub loop-at-preserved : goal.loop-at-preserved
loop-at-preserved c =
    elim c.match-next.branch [
      | in-Some w ↦ record {
        front = c.loop-at.invariant.front ++ w.in-Some.point ∷ [];
        parts = parts_more _ _ _ _ _ c.loop-at.invariant.parts w.in-Some.ensures;
        text_is = text_more c.loop-at.text.bytes _ _ w.char_of.result _ c.loop-at.invariant.text_is (ap (λ t. t.bytes) w.text-is ∙ w.push.ensures.bytes) w.char_of.ensures;
        all_few = c.loop-at.invariant.all_few;
        few = few_more _ _ _ _ w.in-Some.ensures c.loop-at.invariant.few;
        are_scalars = scalars_more _ _ _ w.in-Some.ensures c.loop-at.invariant.are_scalars;
      }
      | in-None w ↦ record {
        front = c.loop-at.invariant.front;
        parts = c.loop-at.invariant.parts ∙ ap (λ xs. c.loop-at.invariant.front ++ xs) (w.in-None.ensures.0 ∙ sym w.in-None.ensures.1);
        text_is = ap (λ t. t.bytes) w.text-is ∙ c.loop-at.invariant.text_is;
        all_few = c.loop-at.invariant.all_few;
        few = let none : length c.next.new.self ≡ 0 = ap length w.in-None.ensures.1 in omega arith;
        are_scalars = none_left c.next.new.self w.in-None.ensures.1;
      }
    ]

pub evse_text-requires : goal.evse_text-requires
evse_text-requires c =
    let parts : length (c.loop-at.invariant.front ++ c.loop-at.contents) ≡ length c.loop-at.invariant.front + length c.loop-at.contents = length-append _ _ in
    let items : length _ ≡ length (c.loop-at.invariant.front ++ c.loop-at.contents) = ap length c.loop-at.invariant.parts in
    chars_few c.as_str.result.now c.loop-at.invariant.front c.as_str.utf8 (c.as_str.ensures.value ∙ c.loop-at.invariant.text_is) (omega (arith, c.loop-at.invariant.all_few))
