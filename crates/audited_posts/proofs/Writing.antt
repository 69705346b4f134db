-- Whether the newest step of a post writes the watts that the post is told.
use Rattle.std.proofs.Common.{◌≡◌, ◌<◌, ℕ, Bool, true, false, List, ◌∷◌, Option, Some, None, refl, sym, ap, subst, ◌∙◌, arith}
use Rattle.std.specs.Prelude.{◌↔◌, IsTrue}
use Rattle.charge_world.specs.declared.offer.Dialect.{Dialect}
use Rattle.session_words.specs.declared.plan.PostPlan.{PostPlan}
use Rattle.session_rules.specs.declared.stage.Stage.{Stage}
use Rattle.post_spec.specs.Course.{Talked, Course, told_in, read_by, confirmed_in, acted}
use Rattle.post_spec.specs.Steps.{Event, Act, Send, Reading}
use Rattle.told_pasts.specs.Course.{stage_said, talked_said, course_said, told_course}
use Rattle.told_pasts.specs.Spelling.{SpelledWatts, AreTold}
use Rattle.told_pasts.specs.Steps.{Said, Response, Replied, Other, Unasked, ToldStep, Hears, Does, Sends, seen_in}
use Rattle.audit_course.specs.Values.{IsRead}
use Rattle.audit_course.specs.declared.words.NextWord.{NextWord}
use Rattle.audit_records.specs.Sayings.{WritesAs}
use Rattle.audit_streams.specs.declared.reader.ToldWatts.{ToldWatts}
use Rattle.audited_posts.specs.Posts.{WritesTold, IsToldBehind}

pub same_writes : (plan : PostPlan) (steps : List ToldStep) (old new : Bool) → new ≡ old → WritesTold plan steps old → WritesTold plan steps new
same_writes plan steps old new same h = subst (λ (b : Bool). WritesTold plan steps b) (sym same) h

-- what is no reply writes nothing
pub heard_writes : (plan : PostPlan) (at : ℕ) (event : Event) (steps : List ToldStep) (writes : Bool) → WritesTold plan (Hears at event ∷ steps) writes
heard_writes plan at event steps writes small reading bytes taken request reply watts rest talked same session = absurd (let e : Hears at event ∷ steps ≡ Sends reading bytes taken (Replied request reply watts) ∷ rest = same in cc)

pub did_writes : (plan : PostPlan) (read : Option Reading) (act : Act) (took : Bool) (steps : List ToldStep) (writes : Bool) → WritesTold plan (Does read act took ∷ steps) writes
did_writes plan read act took steps writes small reading bytes taken request reply watts rest talked same session = absurd (let e : Does read act took ∷ steps ≡ Sends reading bytes taken (Replied request reply watts) ∷ rest = same in cc)

-- ---- a sending keeps the watts that its session was told, and the dialect

told_said : (said : Said) (s : Stage) → (stage_said said s).told ≡ s.told
told_said (Response chosen positive) s = refl
told_said (Replied request reply watts) s = refl
told_said Other s = refl
told_said Unasked s = refl

dialect_said : (said : Said) (s : Stage) → (stage_said said s).dialect ≡ s.dialect
dialect_said (Response chosen positive) s = refl
dialect_said (Replied request reply watts) s = refl
dialect_said Other s = refl
dialect_said Unasked s = refl

abbrev session_sent : Bool → Said → Option Talked → Option Talked
session_sent true said s = confirmed_in (talked_said said s)
session_sent false said s = talked_said said s

acted_session : (bytes : List ℕ) (taken : Bool) (said : Said) (c : Course) → (acted (Send bytes) taken (course_said said c)).session ≡ session_sent taken said c.session
acted_session bytes true said c = refl
acted_session bytes false said c = refl

record Keeps (s : Option Talked) (talked : Talked) : Type 0 where
  t : Talked
  is : s ≡ Some t
  told_is : talked.stage.told ≡ t.stage.told
  dialect_is : talked.stage.dialect ≡ t.stage.dialect

some_talked : (a b : Talked) → Some a ≡ Some b → a ≡ b
some_talked a b e = cc

keeps : (taken : Bool) (said : Said) (s : Option Talked) (talked : Talked) → session_sent taken said s ≡ Some talked → Keeps s talked
keeps true said None talked e = absurd (let x : None ≡ Some talked = e in cc)
keeps false said None talked e = absurd (let x : None ≡ Some talked = e in cc)
keeps true said (Some t) talked e =
    let same = some_talked _ talked e in
    record {
      t = t;
      is = refl;
      told_is = ap (λ (x : Talked). x.stage.told) (sym same) ∙ told_said said t.stage;
      dialect_is = ap (λ (x : Talked). x.stage.dialect) (sym same) ∙ dialect_said said t.stage;
    }
keeps false said (Some t) talked e =
    let same = some_talked _ talked e in
    record {
      t = t;
      is = refl;
      told_is = ap (λ (x : Talked). x.stage.told) (sym same) ∙ told_said said t.stage;
      dialect_is = ap (λ (x : Talked). x.stage.dialect) (sym same) ∙ dialect_said said t.stage;
    }

said_is : (a b : Option Reading) (x y : List ℕ) (t u : Bool) (s r : Said) (steps rest : List ToldStep) → Sends a x t s ∷ steps ≡ Sends b y u r ∷ rest → s ≡ r
said_is a b x y t u s r steps rest e = cc

told_then : (plan : PostPlan) (a b : ToldWatts) (watts : SpelledWatts) (writes : Bool) → a ≡ b → (IsTrue writes ↔ AreTold plan a.dialect a.watts watts) → IsTrue writes ↔ AreTold plan b.dialect b.watts watts
told_then plan a b watts writes same h = subst (λ (x : ToldWatts). IsTrue writes ↔ AreTold plan x.dialect x.watts watts) same h

watts_same : (m n : ℕ) (d e : Dialect) → m ≡ n → d ≡ e → let x : ToldWatts = record { watts = m; dialect = d } in let y : ToldWatts = record { watts = n; dialect = e } in x ≡ y
watts_same m n d e p q = cc

-- ---- a sending

pub sent_writes : (plan : PostPlan) (steps : List ToldStep) (word : Option NextWord) (shown : ℕ) (told : ToldWatts) (read : Option Reading) (sent : List ℕ) (took : Bool) (said : Said) (answered writes : Bool)
    → IsToldBehind plan steps word shown told → IsRead word shown read → WritesAs plan told said answered → writes ≡ answered → WritesTold plan (Sends read sent took said ∷ steps) writes
sent_writes plan steps word shown told read sent took said answered writes behind is_read held same small reading bytes taken request reply watts rest talked later session =
    let c = read_by (told_course plan steps).session (seen_in steps) (told_course plan steps) plan read in
    let k = keeps took said c.session talked (sym (acted_session sent took said c) ∙ session) in
    let now : told_in (told_course plan (Sends read sent took said ∷ steps)).session ≡ talked.stage.told = ap told_in session in
    let told_now = behind read is_read k.t k.is (let least : k.t.stage.told < 32768000 = omega (arith, small, now, k.told_is) in least) in
    let replied : said ≡ Replied request reply watts = said_is read reading sent bytes took taken said (Replied request reply watts) steps rest later in
    let written : IsTrue answered ↔ AreTold plan told.dialect told.watts watts = subst (λ (s : Said). WritesAs plan told s answered) replied held in
    let mine : ToldWatts = record { watts = told_in (told_course plan (Sends read sent took said ∷ steps)).session; dialect = talked.stage.dialect } in
    let is : told ≡ mine = told_now ∙ watts_same k.t.stage.told (told_in (told_course plan (Sends read sent took said ∷ steps)).session) k.t.stage.dialect talked.stage.dialect (sym k.told_is ∙ sym now) (sym k.dialect_is) in
    subst (λ (b : Bool). IsTrue b ↔ AreTold plan mine.dialect mine.watts watts) (sym same) (told_then plan told mine watts answered is written)
