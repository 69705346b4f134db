use Rattle.std.proofs.Common.{◌≡◌, ◌∷◌, ◌++◌, Bool, List, length, take, drop, sym, ap, subst, ◌∙◌, arith}
use Rattle.std.proofs.lemmas.List.{take_at}
use Rattle.faultless_pasts.specs.Faultless.{told_codecs}
use Rattle.trace_audit.specs.Auditing.{IsPassed}
use Rattle.trace_audit.specs.declared.seats.Seat.{Seat}
use Rattle.trace_audit.proofs.Deciding.{clean_next}
use Rattle.trace_audit.proofs.site.AuditedSite.pass.Goals as goal

pub returns-clause-count : goal.returns-clause-count
returns-clause-count g c =
    let site = c.args.self.now in
    let new = c.pass-self.new.seats in
    let back : take site.seats.len (new ++ drop (length new) site.seats.items) ≡ new = take_at new (drop (length new) site.seats.items) site.seats.len (omega (arith, c.pass-self.auto.seats, c.as_mut_slice.ensures.len)) in
    let same = ap length c.as_mut_slice.ensures.value in
    let all : length new ≡ length c.args.plan.now.post.items = omega (arith, c.pass-self.auto.seats, same, c.requires.count) in
    ap length back ∙ all

pub returns-clause-open : goal.returns-clause-open
returns-clause-open g c past so none =
    let all = told_codecs g.R.Coded.negotiates g.R.Coded.reads g.R.Coded.encodes g.R.ToldCoded.responds g.R.ToldCoded.watts in
    let site = c.args.self.now in
    let plan = c.args.plan.now in
    let e = c.args.entry.now in
    let new = c.pass-self.new.seats in
    let back : take site.seats.len (new ++ drop (length new) site.seats.items) ≡ new = take_at new (drop (length new) site.seats.items) site.seats.len (omega (arith, c.pass-self.auto.seats, c.as_mut_slice.ensures.len)) in
    let before = subst (λ (xs : List Seat). IsPassed all plan past site.verdict site.begun xs) (sym c.as_mut_slice.ensures.value) so.passed in
    let after = c.pass-self.ensures past site.verdict before none in
    let begun = subst (λ (b : Bool). IsPassed all plan (e ∷ past) c.pass-self.result b new) (sym c.begins-self.ensures) after in
    record {
      passed = subst (λ (xs : List Seat). IsPassed all plan (e ∷ past) c.pass-self.result c.begins-self.result xs) (sym back) begun;
      clean = clean_next all plan past e site.verdict site.seats.items so.passed.judged so.clean none;
    }
