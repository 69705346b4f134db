use Rattle.std.proofs.Common.{ℕ, List, drop, ap, sym, ◌∙◌, arith}
use Rattle.std.proofs.lemmas.List.{drop_all}
use Rattle.charge_world.specs.declared.memory_source.NamedFile.{NamedFile}
use Rattle.charge_world.specs.NamedFiles.{at_place}
use Rattle.charge_world.proofs.Files.{place_past, place_at, taken_from}
use Rattle.charge_world.proofs.memory_source.MemorySourceSource.read.Goals as goal

pub returns-then-self-len-clause-end : goal.returns-then-self-len-clause-end
returns-then-self-len-clause-end c room zero =
    let s = c.args.self.now in
    ap (λ (xs : List ℕ). drop s.at xs) (place_past s.files.items s.current (omega (arith, c.if-self-len.true, c.len.ensures))) ∙ drop_all s.at _ (omega arith)

pub returns-then-self-bytes-clause-end : goal.returns-then-self-bytes-clause-end
returns-then-self-bytes-clause-end c room zero =
    let s = c.args.self.now in
    let here = place_at s.files.items s.current c.index-file.result.now (omega (arith, c.if-self-len.false, c.len.ensures)) ∙ ap (λ (f : NamedFile). f.bytes) (sym c.index-file.ensures) ∙ sym c.bytes-bytes.ensures in
    ap (λ (xs : List ℕ). drop s.at xs) here ∙ drop_all s.at c.bytes-bytes.result.now c.if-self-bytes.true

pub returns-clause-taken : goal.returns-clause-taken
returns-clause-taken c =
    let s = c.args.self.now in
    let here = place_at s.files.items s.current c.index-file.result.now (omega (arith, c.if-self-len.false, c.len.ensures)) ∙ ap (λ (f : NamedFile). f.bytes) (sym c.index-file.ensures) ∙ sym c.bytes-bytes.ensures in
    taken_from (at_place s.files.items s.current) c.bytes-bytes.result.now c.args.room.now c.copy_from_slice.new.self s.at c.min-n.result here c.copy_from_slice.ensures.after (omega (arith, c.if-self-bytes.false, c.min-n.ensures)) (omega (arith, c.min-n.ensures))
