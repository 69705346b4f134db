use Rattle.std.proofs.Common.{◌≡◌, Option, Some, None}
use Rattle.faultless_pasts.specs.Faultless.{told_codecs}
use Rattle.trace_audit.specs.declared.auditor.Fault.{Fault}
use Rattle.trace_audit.proofs.Deciding.{open_of, fault_of, found_first, newest_first, none_first}
use Rattle.trace_audit.proofs.auditor.Auditor.finish.Goals as goal

some_is : (f : Fault) → Some f ≡ None → ⊥
some_is f is = cc

pub returns-in-Some-clause-fault : goal.returns-in-Some-clause-fault
returns-in-Some-clause-fault g c past short h =
    let all = told_codecs g.R.Coded.negotiates g.R.Coded.reads g.R.Coded.encodes g.R.ToldCoded.responds g.R.ToldCoded.watts in
    (found_first all c.args.self.now.plan past _ _ _ short (fault_of _ c.in-Some.fault _ _ c.in-Some.is h.is)).0

pub returns-in-Some-clause-post : goal.returns-in-Some-clause-post
returns-in-Some-clause-post g c past short h =
    let all = told_codecs g.R.Coded.negotiates g.R.Coded.reads g.R.Coded.encodes g.R.ToldCoded.responds g.R.ToldCoded.watts in
    (found_first all c.args.self.now.plan past _ _ _ short (fault_of _ c.in-Some.fault _ _ c.in-Some.is h.is)).1

pub returns-in-Some-clause-safe : goal.returns-in-Some-clause-safe
returns-in-Some-clause-safe g c past short h none = absurd (some_is c.in-Some.fault none)

pub returns-in-Some-ends-clause-fault : goal.returns-in-Some-ends-clause-fault
returns-in-Some-ends-clause-fault g c past short h =
    let all = told_codecs g.R.Coded.negotiates g.R.Coded.reads g.R.Coded.encodes g.R.ToldCoded.responds g.R.ToldCoded.watts in
    let so = open_of _ _ _ c.in-None.is h.is in
    (newest_first all c.args.self.now.plan past c.args.self.now.site.verdict c.args.self.now.site.seats.items _ c.in-Some-ends.found short so.passed.judged so.clean h.line_is c.in-Some-ends.is).0

pub returns-in-Some-ends-clause-post : goal.returns-in-Some-ends-clause-post
returns-in-Some-ends-clause-post g c past short h =
    let all = told_codecs g.R.Coded.negotiates g.R.Coded.reads g.R.Coded.encodes g.R.ToldCoded.responds g.R.ToldCoded.watts in
    let so = open_of _ _ _ c.in-None.is h.is in
    (newest_first all c.args.self.now.plan past c.args.self.now.site.verdict c.args.self.now.site.seats.items _ c.in-Some-ends.found short so.passed.judged so.clean h.line_is c.in-Some-ends.is).1

pub returns-in-Some-ends-clause-safe : goal.returns-in-Some-ends-clause-safe
returns-in-Some-ends-clause-safe g c past short h none = absurd (some_is (record { line = c.args.self.now.line; check = c.in-Some-ends.found.check; post = c.in-Some-ends.found.post }) none)

pub returns-in-None-ends-clause-fault : goal.returns-in-None-ends-clause-fault
returns-in-None-ends-clause-fault g c past short h =
    let all = told_codecs g.R.Coded.negotiates g.R.Coded.reads g.R.Coded.encodes g.R.ToldCoded.responds g.R.ToldCoded.watts in
    let so = open_of _ _ _ c.in-None.is h.is in
    none_first all c.args.self.now.plan past c.args.self.now.site.verdict c.args.self.now.site.seats.items so.passed.judged so.clean c.in-None-ends.is

pub returns-in-None-ends-clause-safe : goal.returns-in-None-ends-clause-safe
returns-in-None-ends-clause-safe g c past short h none =
    let all = told_codecs g.R.Coded.negotiates g.R.Coded.reads g.R.Coded.encodes g.R.ToldCoded.responds g.R.ToldCoded.watts in
    let so = open_of _ _ _ c.in-None.is h.is in
    c.mandates_are_told.ensures.safe c.args.self.now.plan past
    (none_first all c.args.self.now.plan past c.args.self.now.site.verdict c.args.self.now.site.seats.items so.passed.judged so.clean c.in-None-ends.is)
