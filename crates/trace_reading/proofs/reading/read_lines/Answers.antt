use Rattle.std.proofs.Common.{◌≡◌, ℕ, ◌+◌, ◌<◌, ◌≤◌, ◌^◌, ◌==◌, false, List, [], ◌∷◌, ◌++◌, length, Vec, Global, Result, Ok, Err, sym, ap, subst, ◌∙◌, inl, inr, arith}
use Rattle.std.specs.Prelude.{◌≢◌, reverse, IfErr}
use Rattle.std.specs.Result.{IsErr, IsErrAnd}
use Rattle.trace_text.specs.declared.reading.LineFault.{LineFault}
use Rattle.trace_text.specs.declared.reading.LineFault.TheVariants.{BadLine, Memory}
use Rattle.trace_reading.specs.Lines.{IsBadAt}
use Rattle.std.proofs.lemmas.List.{length-reverse, reverse-append}
use Rattle.charge_world.specs.declared.entry.Entry.{Entry}
use Rattle.trace_text.specs.Pasts.{hearing_number}
use Rattle.trace_reading.proofs.Steps.{few_hearings, reading_bad, reading_more}
use Rattle.trace_reading.proofs.reading.read_lines.Goals as goal

few : (items : List Entry) → hearing_number (reverse items) ≤ length items
few items = omega (arith, few_hearings (reverse items), length-reverse items)

pub next_entry-requires : goal.next_entry-requires
next_entry-requires c =
    let v = c.loop-rest.entries in
    omega (arith, c.loop-rest.invariant.stands.hearings_are, few v.items, v.ok.0, v.ok.1, v.small)

pub behind-standing-requires : goal.behind-standing-requires
behind-standing-requires c =
    let v = c.loop-rest.entries in
    omega (arith, c.loop-rest.invariant.stands.hearings_are, few v.items, v.ok.0, v.ok.1, v.small)

err_told : (r : Result (Vec Entry Global) LineFault) (f : LineFault) (P : LineFault → Type 0) → IsErr r × IsErrAnd r (λ e. e ≡ f) → P f → IfErr r P
err_told (Ok v) f P h p = tt
err_told (Err e) f P h p = subst P (sym h.1) p

some_left : (rest : List ℕ) → (length rest == 0) ≡ false → rest ≢ []
some_left [] h none = cc
some_left (b ∷ rest) h none = cc

pub returns-in_err-entry-clause-bad : goal.returns-in_err-entry-clause-bad
returns-in_err-entry-clause-bad c =
    let v = c.loop-rest.entries in
    let fault = c.in_err-entry.field-0.0 in
    let some = some_left c.loop-rest.rest.now (sym c.is_empty.ensures ∙ c.loop-rest-test.true) in
    let count : c.len.result + 2 ≡ length (reverse v.items) + 2 = omega (arith, c.len.ensures, v.ok.0, length-reverse v.items) in
    let told : (number : ℕ) → fault ≡ BadLine number → IsBadAt c.args.format c.args.posts c.args.lines.now number =
    λ number is.
    let here : number ≡ c.len.result + 2 = elim c.in_err-entry.ensures.number [
      | inl memory ↦ absurd (let both : BadLine number ≡ Memory = sym is ∙ memory in cc)
      | inr line ↦ (let both : BadLine number ≡ BadLine (c.len.result + 2) = sym is ∙ line in cc)
    ] in
    let none = c.in_err-entry.ensures.bad (ap Err (is ∙ ap BadLine here)) in
    reading_bad c.args.format c.args.posts c.args.lines.now (reverse v.items) c.loop-rest.standing c.loop-rest.rest.now c.cut_line.result.0.now c.cut_line.result.1.now number
    c.loop-rest.invariant some c.cut_line.ensures none (here ∙ count) in
    err_told c.from_residual.result fault (λ f. (number : ℕ) → f ≡ BadLine number → IsBadAt c.args.format c.args.posts c.args.lines.now number) c.from_residual.ensures told

pub loop-rest-preserved : goal.loop-rest-preserved
loop-rest-preserved c =
    let v = c.loop-rest.entries in
    let small : hearing_number (reverse v.items) < 2 ^ 63 = omega (arith, few v.items, v.ok.0, v.ok.1, v.small) in
    let e = c.in_ok-entry.entry in
    let ok = rw c.if-is_err.false at c.is_err.ensures.negation in
    let pushed : c.push.new.self.items ≡ v.items ++ e ∷ [] = rw ok at c.push.ensures.items in
    let past : reverse c.push.new.self.items ≡ e ∷ reverse v.items = ap reverse pushed ∙ reverse-append v.items (e ∷ []) in
    let invariant = c.loop-rest.invariant in
    rw past (reading_more c.args.format c.args.posts c.args.lines.now (reverse v.items) c.loop-rest.standing c.behind-standing.result c.loop-rest.rest.now c.cut_line.result.0.now c.cut_line.result.1.now e
    invariant c.cut_line.ensures small c.in_ok-entry.ensures.read.0 c.in_ok-entry.ensures.read.1
    (c.behind-standing.ensures c.args.format c.args.posts (reverse v.items) invariant.stands))
