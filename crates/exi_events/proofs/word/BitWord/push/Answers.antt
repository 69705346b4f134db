use Rattle.std.proofs.Common.{◌≡◌, ◌<◌, ◌^◌, ◌+◌, ◌≤◌, ℕ, subst, sym, arith}
use Rattle.exi_events.proofs.Words.{word_full, word_fits, word_range, word_pushed}
use Rattle.exi_events.proofs.word.BitWord.push.Goals as goal

pub returns-then-self-n-gt-WORD_BITS-clause-none :
    goal.returns-then-self-n-gt-WORD_BITS-clause-none
returns-then-self-n-gt-WORD_BITS-clause-none c = λ _.
    word_full c.self.inside.count c.self.inside.number c.args.n c.args.self.now c.self.view_is (omega (arith, c.if-self-n-gt-WORD_BITS.true))

pub overflow_add-self : goal.overflow_add-self
overflow_add-self c =
    let range : c.from.result < 2 ^ c.args.n = subst (λ (k : ℕ). k < 2 ^ c.args.n) (sym c.from.ensures) c.requires.range in
    omega (arith, word_fits c.self.inside.count c.self.inside.number c.from.result c.args.n c.self.invariant.1 range (omega (arith, c.if-self-n-gt-WORD_BITS.false)))

pub invariant_of-self : goal.invariant_of-self
invariant_of-self c =
    let range : c.from.result < 2 ^ c.args.n = subst (λ (k : ℕ). k < 2 ^ c.args.n) (sym c.from.ensures) c.requires.range in
    let fits : c.self.inside.count + c.args.n ≤ 64 = omega (arith, c.if-self-n-gt-WORD_BITS.false) in
    (fits, word_range c.self.inside.count c.self.inside.number c.from.result c.args.n c.self.invariant.1 range fits)

pub returns-clause-pushed : goal.returns-clause-pushed
returns-clause-pushed c =
    let range : c.from.result < 2 ^ c.args.n = subst (λ (k : ℕ). k < 2 ^ c.args.n) (sym c.from.ensures) c.requires.range in
    rw (← c.from.ensures) (word_pushed c.self.inside.count c.self.inside.number c.from.result c.args.n c.self.invariant.1 range c.args.self.now (omega (arith, c.if-self-n-gt-WORD_BITS.false)) c.self.view_is)
