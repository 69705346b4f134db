use Rattle.std.proofs.Common.{◌≡◌, refl, length, map, arith}
use Rattle.std.proofs.lemmas.List.{length-map}
use Rattle.value_text.proofs.BestWords.{ok_best, err_best, best_ascii, all_words, mapped_at}
use Rattle.value_text.proofs.cursor.TextCursor.word.Goals as goal

pub take_best-requires : goal.take_best-requires
take_best-requires c = record {
  within = c.loop-i.invariant.within;
  ascii = best_ascii (map (λ t. t.now) c.args.words.now) c.loop-i.i c.args.self.now.rest.now c.loop-i.best.count c.loop-i.best.whole c.requires.ascii c.loop-i.invariant;
}

pub loop-i-preserved : goal.loop-i-preserved
loop-i-preserved c =
    c.with-best.ensures (map (λ t. t.now) c.args.words.now) c.args.self.now.rest.now _ (mapped_at (λ t. t.now) c.args.words.now c.loop-i.i _ c.loop-i-test.true) c.agreed-count.ensures refl c.loop-i.invariant

pub returns-clause-taken : goal.returns-clause-taken
returns-clause-taken c =
    let all : c.loop-i.i ≡ length (map (λ t. t.now) c.args.words.now) = omega (arith, length-map c.args.words.now (λ t. t.now), c.loop-i-test.false, c.loop-i.auto.i-end) in
    ok_best (map (λ t. t.now) c.args.words.now) c.args.self.now c.loop-i.best.count c.loop-i.best.whole c.take_best.result c.requires.ascii (all_words _ c.loop-i.i _ _ _ _ all c.loop-i.invariant) c.take_best.ensures.taken

pub returns-clause-fault : goal.returns-clause-fault
returns-clause-fault c =
    let all : c.loop-i.i ≡ length (map (λ t. t.now) c.args.words.now) = omega (arith, length-map c.args.words.now (λ t. t.now), c.loop-i-test.false, c.loop-i.auto.i-end) in
    err_best (map (λ t. t.now) c.args.words.now) c.args.self.now c.loop-i.best.count c.loop-i.best.whole c.take_best.result c.requires.ascii (omega (arith, length-map c.args.words.now (λ t. t.now), c.requires.any))
    (all_words _ c.loop-i.i _ _ _ _ all c.loop-i.invariant) c.take_best.ensures.fault
