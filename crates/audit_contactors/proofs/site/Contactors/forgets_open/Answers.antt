use Rattle.std.proofs.Common.{sym, ◌∙◌}
use Rattle.audit_contactors.proofs.Sites.{by_first, by_second, by_neither, decided}
use Rattle.audit_contactors.proofs.site.Contactors.forgets_open.Goals as goal

pub returns-then-forgets : goal.returns-then-forgets
returns-then-forgets c earlier behind =
    decided c.args.self.now c.args.later.now c.args.entry.now c.args.ends _ earlier behind c.requires
    (by_first _ _ _ (sym c.forgets.ensures ∙ c.if-forgets.true) c.if-forgets.true)

pub returns-then-ends : goal.returns-then-ends
returns-then-ends c earlier behind =
    decided c.args.self.now c.args.later.now c.args.entry.now c.args.ends _ earlier behind c.requires
    (by_second _ _ _ _ (sym c.forgets.ensures ∙ c.if-forgets.false) c.if-ends.true c.any_forgotten.ensures)

pub returns-else-ends : goal.returns-else-ends
returns-else-ends c earlier behind =
    decided c.args.self.now c.args.later.now c.args.entry.now c.args.ends _ earlier behind c.requires
    (by_neither _ _ _ (sym c.forgets.ensures ∙ c.if-forgets.false) c.if-ends.false)
