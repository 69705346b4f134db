use Rattle.std.proofs.Common.{rules, ◌≡◌, ◌∙◌, ◌++◌, ◌∷◌, ◌<◌, [], List, ap, length, take}
use Rattle.std.proofs.lemmas.List.{take-append-le, take_more_set}
use Rattle.std.proofs.lemmas.Result.{IfOk-weaker}
use Rattle.message_parts.proofs.children.record_at.Goals.{then-n-len, else-n-len}
use Rattle.message_parts.proofs.children.record_at.Goals as goal

pub returns-clause-read : goal.returns-clause-read
returns-clause-read g c = λ F kind told h is.
    let first : List g.row.T.Denot → List g.row.T.Denot = take c.args.n in
    let within : c.args.n < length c.if-n-len.list.items = search rules in
    let kept : first c.if-n-len.list.items ≡ first c.args.list.now.items =
    elim c.if-n-len.branch [
      | then-n-len w ↦ ap (λ l. first l.items) w.list-is ∙ ap (λ xs. first xs) w.push.ensures.items ∙ take-append-le c.args.n _ _ c.requires.within
      | else-n-len w ↦ ap (λ l. first l.items) w.list-is
    ] in
    let set = take_more_set c.if-n-len.list.items c.args.n c.record_here.new.place within ∙ ap (λ xs. xs ++ c.record_here.new.place ∷ []) kept in
    IfOk-weaker c.record_here.result _ _ (λ _ leaves. (_, set, leaves)) (c.record_here.ensures.read F kind told h is)
