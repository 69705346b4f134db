-- A file and a payload have one fate.
use Rattle.std.proofs.Common.{◌≡◌, ℕ, List, None, sym, ap, subst, ◌∙◌, inl, inr}
use Rattle.toml.specs.Data.{Members}
use Rattle.exi_documents.specs.declared.refusal.RefusalCause.{RefusalCause}
use Rattle.iso_message.specs.Documents.{IsIsoRefused}
use Rattle.plan_keys.specs.Keys.{Holds}
use Rattle.plan_keys.specs.Faults.{told, text_says}
use Rattle.hex_payloads.specs.HexText.{IsHexOf}
use Rattle.schedules.specs.declared.power.Need.{Need}
use Rattle.schedules.specs.declared.power.Profile.{Profile}
use Rattle.charging_files.specs.ScheduleKeys.{need_rules}
use Rattle.charging_files.specs.ScheduleFiles.{IsNeedIn, IsNeedOf, need_fault, need_told}
use Rattle.service_messages.specs.ScheduleFault.{ScheduleFault}
use Rattle.service_messages.specs.Answers.{IsAnswerIn, IsFaultIn}
use Rattle.charging_files.specs.FileLines.{IsRefusedBy}
use Rattle.charging_files.proofs.Told.{none_is_some, one_key}
use Rattle.payload_commands.proofs.HexTexts.{OneRefusal, same_ok, same_payload, no_place, one_place}
use Rattle.payload_commands.specs.Refusals.{IsRefusedAt}
use Rattle.payload_commands.specs.Scheduling.{HasNone}
use Rattle.payload_commands.specs.ScheduleFates.{Fate, Wrong, Bad, Without, With, IsFate}

-- ---- laws

abbrev pub OneProfile : Type 0
OneProfile = (payload : List ℕ) (need : Need) (one other : Profile) → IsAnswerIn payload need one → IsAnswerIn payload need other → one ≡ other

abbrev pub OneFault : Type 0
OneFault = (payload : List ℕ) (need : Need) (one other : ScheduleFault) → IsFaultIn payload need one → IsFaultIn payload need other → one ≡ other

abbrev pub AnswersAreApart : Type 0
AnswersAreApart = (payload : List ℕ) (need : Need) (profile : Profile) (fault : ScheduleFault) → IsAnswerIn payload need profile → IsFaultIn payload need fault → ⊥

abbrev pub AnswersAreRead : Type 0
AnswersAreRead = (payload : List ℕ) (need : Need) (profile : Profile) (why : RefusalCause) (bit : ℕ) → IsAnswerIn payload need profile → IsIsoRefused payload why bit → ⊥

abbrev pub FaultsAreRead : Type 0
FaultsAreRead = (payload : List ℕ) (need : Need) (fault : ScheduleFault) (why : RefusalCause) (bit : ℕ) → IsFaultIn payload need fault → IsIsoRefused payload why bit → ⊥

pub record Laws : Type 0 where
  pub refusal : OneRefusal
  pub profile : OneProfile
  pub fault : OneFault
  pub apart : AnswersAreApart
  pub answered : AnswersAreRead
  pub unanswered : FaultsAreRead

-- ---- a need

abbrev need_of : ℕ → ℕ → ℕ → Need
need_of energy departure max_watts = record { energy = energy; departure = departure; max_watts = max_watts }

same_fields : (a b : Need) → a.energy ≡ b.energy → a.departure ≡ b.departure → a.max_watts ≡ b.max_watts → a ≡ b
same_fields a b e d w =
    ap (λ (n : ℕ). need_of n a.departure a.max_watts) e ∙ ap (λ (n : ℕ). need_of b.energy n a.max_watts) d ∙ ap (λ (n : ℕ). need_of b.energy b.departure n) w

same_holds : (table : Members) (a b : Need) → Holds need_rules table a → Holds need_rules table b → a ≡ b
same_holds table a b p q = same_fields a b (p.0 ∙ sym q.0) (p.1.0 ∙ sym q.1.0) (p.1.1.0 ∙ sym q.1.1.0)

same_need : (text : List ℕ) (a b : Need) → IsNeedOf text a → IsNeedOf text b → a ≡ b
same_need text a b p q =
    let same : p.0 ≡ q.0 = same_ok p.0 q.0 (text_says text) p.1 q.1 in
    let moved : IsNeedIn p.0 b = subst (λ (table : Members). IsNeedIn table b) (sym same) q.3 in
    same_holds p.0 a b p.3.keys moved.keys

not_refused : (text key : List ℕ) (need : Need) → IsNeedOf text need → IsRefusedBy need_told text key → ⊥
not_refused text key need p r =
    let none : need_told text ≡ None = ap (told need_fault) p.1 ∙ p.2 in
    none_is_some r.fault (sym none ∙ r.first_is)

-- ---- a payload

refused_none : Laws → (hex : List ℕ) (need : Need) (place : ℕ) (fault : ScheduleFault) → IsRefusedAt hex place → HasNone need hex fault → ⊥
refused_none laws hex need place fault (inl p) q = no_place hex q.0 place q.1 p
refused_none laws hex need place fault (inr p) q =
    let same : p.0 ≡ q.0 = same_payload hex p.0 q.0 p.2 q.1 in
    laws.unanswered q.0 need fault p.1 place q.2 (subst (λ (payload : List ℕ). IsIsoRefused payload p.1 place) same p.3)

refused_answer : Laws → (hex payload : List ℕ) (need : Need) (place : ℕ) (profile : Profile) → IsRefusedAt hex place → IsHexOf hex payload → IsAnswerIn payload need profile → ⊥
refused_answer laws hex payload need place profile (inl p) is q = no_place hex payload place is p
refused_answer laws hex payload need place profile (inr p) is q =
    let same : p.0 ≡ payload = same_payload hex p.0 payload p.2 is in
    laws.answered payload need profile p.1 place q (subst (λ (bytes : List ℕ). IsIsoRefused bytes p.1 place) same p.3)

-- ---- a fate

one_fault : Laws → (text hex : List ℕ) (f g : ScheduleFault) → IsFate text hex (Without f) → IsFate text hex (Without g) → f ≡ g
one_fault laws text hex f g p q =
    let need : p.0 ≡ q.0 = same_need text p.0 q.0 p.1 q.1 in
    let payload : p.2.0 ≡ q.2.0 = same_payload hex p.2.0 q.2.0 p.2.1 q.2.1 in
    let moved = subst (λ (n : Need). IsFaultIn q.2.0 n f) need (subst (λ (bytes : List ℕ). IsFaultIn bytes p.0 f) payload p.2.2) in
    laws.fault q.2.0 q.0 f g moved q.2.2

one_profile : Laws → (text hex : List ℕ) (f g : Profile) → IsFate text hex (With f) → IsFate text hex (With g) → f ≡ g
one_profile laws text hex f g p q =
    let need : p.0 ≡ q.0 = same_need text p.0 q.0 p.1 q.1 in
    let payload : p.2 ≡ q.2 = same_payload hex p.2 q.2 p.3 q.3 in
    let moved = subst (λ (n : Need). IsAnswerIn q.2 n f) need (subst (λ (bytes : List ℕ). IsAnswerIn bytes p.0 f) payload p.4) in
    laws.profile q.2 q.0 f g moved q.4

none_answer : Laws → (text hex : List ℕ) (fault : ScheduleFault) (profile : Profile) → IsFate text hex (Without fault) → IsFate text hex (With profile) → ⊥
none_answer laws text hex fault profile p q =
    let need : p.0 ≡ q.0 = same_need text p.0 q.0 p.1 q.1 in
    let payload : p.2.0 ≡ q.2 = same_payload hex p.2.0 q.2 p.2.1 q.3 in
    let moved = subst (λ (n : Need). IsFaultIn q.2 n fault) need (subst (λ (bytes : List ℕ). IsFaultIn bytes p.0 fault) payload p.2.2) in
    laws.apart q.2 q.0 profile fault q.4 moved

pub same_fate : Laws → (text hex : List ℕ) (one other : Fate) → IsFate text hex one → IsFate text hex other → one ≡ other
same_fate laws text hex (Wrong key) (Wrong other) p q = ap (λ (k : List ℕ). Wrong k) (one_key need_told text key other p q)
same_fate laws text hex (Wrong key) (Bad place) p q = absurd (not_refused text key q.0 q.1 p)
same_fate laws text hex (Wrong key) (Without fault) p q = absurd (not_refused text key q.0 q.1 p)
same_fate laws text hex (Wrong key) (With profile) p q = absurd (not_refused text key q.0 q.1 p)
same_fate laws text hex (Bad place) (Wrong key) p q = absurd (not_refused text key p.0 p.1 q)
same_fate laws text hex (Bad place) (Bad other) p q = ap (λ (n : ℕ). Bad n) (one_place laws.refusal hex place other p.2 q.2)
same_fate laws text hex (Bad place) (Without fault) p q = absurd (refused_none laws hex q.0 place fault p.2 q.2)
same_fate laws text hex (Bad place) (With profile) p q = absurd (refused_answer laws hex q.2 q.0 place profile p.2 q.3 q.4)
same_fate laws text hex (Without fault) (Wrong key) p q = absurd (not_refused text key p.0 p.1 q)
same_fate laws text hex (Without fault) (Bad place) p q = absurd (refused_none laws hex p.0 place fault q.2 p.2)
same_fate laws text hex (Without fault) (Without other) p q = ap (λ (f : ScheduleFault). Without f) (one_fault laws text hex fault other p q)
same_fate laws text hex (Without fault) (With profile) p q = absurd (none_answer laws text hex fault profile p q)
same_fate laws text hex (With profile) (Wrong key) p q = absurd (not_refused text key p.0 p.1 q)
same_fate laws text hex (With profile) (Bad place) p q = absurd (refused_answer laws hex p.2 p.0 place profile q.2 p.3 p.4)
same_fate laws text hex (With profile) (Without fault) p q = absurd (none_answer laws text hex fault profile q p)
same_fate laws text hex (With profile) (With other) p q = ap (λ (f : Profile). With f) (one_profile laws text hex profile other p q)
