use Rattle.std.proofs.Common.{ℕ, List, [], IfOk, length, sym, subst}
use Rattle.exi_schema.specs.declared.tables.AttributeOf.{AttributeOf}
use Rattle.message_parts.specs.Contents.{Of, mapped}
use Rattle.message_parts.specs.Reading.{Reads, StartsAt, seen_of}
use Rattle.message_parts.specs.Perhaps.{told_second}
use Rattle.message_parts.proofs.children.OptionalSecondContents.read.Goals as goal

pub returns-clause-read : goal.returns-clause-read
returns-clause-read g c = λ ks F attributes declared before h holds.
    let old = seen_of g.P.Places.schema c.args.descent.now in
    let new = seen_of g.P.Places.schema c.optional_second.new.descent in
    let begins = subst (λ (a : List AttributeOf). StartsAt ks F a declared 0 before old) holds.0 h in
    let read = c.optional_second.ensures.read ks F declared before begins holds.1 in
    subst (λ (a : List AttributeOf). IfOk c.optional_second.result (λ v. Reads ks F a declared (length declared) (told_second declared g.row.NAME (g.A.Simple.value v.first) (mapped (λ x. Of (g.B.Simple.value x)) v.second) (g.C.Simple.value v.third) before) new)) (sym holds.0)
    (subst (λ (n : ℕ). IfOk c.optional_second.result (λ v. Reads ks F [] declared n (told_second declared g.row.NAME (g.A.Simple.value v.first) (mapped (λ x. Of (g.B.Simple.value x)) v.second) (g.C.Simple.value v.third) before) new)) holds.1.all read)
