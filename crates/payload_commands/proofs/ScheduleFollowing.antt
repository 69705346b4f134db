-- What the command leaves is a fate of the file and the payload.
use Rattle.std.proofs.Common.{◌≡◌, ◌⊎◌, ℕ, List, Option, Some, refl, subst, inl, inr}
use Rattle.plan_files.specs.FileTexts.{Told}
use Rattle.command_status.specs.declared.status.Status.TheVariants as status
use Rattle.charging_files.specs.ScheduleFiles.{IsNeedOf, need_told}
use Rattle.service_messages.specs.ScheduleFault.TheVariants as none
use Rattle.charging_files.specs.FileLines.{IsRefusedBy}
use Rattle.charging_files.proofs.Told.{never}
use Rattle.command_status.specs.declared.status.Status.{Status}
use Rattle.command_status.specs.Told.{FileTold, SinkTold, Writes, WritesFront}
use Rattle.payload_commands.specs.Scheduling.{AnswersFile, LeavesBy, ScheduleLeaves}
use Rattle.payload_commands.specs.ScheduleFates.{Fate, Wrong, Bad, Without, With, IsFate, Follows}

abbrev pub OneFate : Type 0
OneFate = (text hex : List ℕ) (one other : Fate) → IsFate text hex one → IsFate text hex other → one ≡ other

-- what is told of a text that is told
told_at : (left all : Option (List ℕ)) (rest text : List ℕ) (P : List ℕ → Type 0) → left ≡ Some rest → all ≡ Some text → Told left all P → P text
told_at left all rest text P a b h =
    subst (λ (o : Option (List ℕ)). Told (Some rest) o P) b (subst (λ (o : Option (List ℕ)). Told o all P) a h)

-- some fate, which is followed
pub record IsFated (s : Status) (hex text : List ℕ) (before after : SinkTold) : Type 0 where
  pub fate : Fate
  pub is : IsFate text hex fate
  pub follows : Follows fate s before after

abbrev Ends : Status → List ℕ → List ℕ → SinkTold → SinkTold → Type 0
Ends s hex text before after = IsFated s hex text before after ⊎ ((s ≡ status.NoMemory) ⊎ (s ≡ status.SourceFault))

need_at : (s : Status) (hex text rest : List ℕ) (file : FileTold) (before after : SinkTold) → file.left ≡ Some rest → file.text ≡ Some text
    → (h : AnswersFile s hex file before after) → IsNeedOf text h.need
need_at s hex text rest file before after left all h = told_at file.left file.text rest text (λ t. IsNeedOf t h.need) left all h.read

ends : (s : Status) (hex text rest : List ℕ) (file : FileTold) (before after : SinkTold) → file.left ≡ Some rest → file.text ≡ Some text
    → LeavesBy s hex file before after → Ends s hex text before after
ends status.Done hex text rest file before after left all h =
    let need = need_at status.Done hex text rest file before after left all h in
    let answer = h.answers.1.2 in
    inl (record {
      fate = With answer.profile;
      is = (h.need, need, h.answers.1.0, h.answers.1.1, answer.answer);
      follows = (answer.request, answer.request_is, inl (refl, subst (λ (lines : List ℕ). Writes lines before after) answer.text_is h.answers.2));
    })
ends status.SinkFault hex text rest file before after left all h =
    let need = need_at status.SinkFault hex text rest file before after left all h in
    let answer = h.answers.1.2 in
    inl (record {
      fate = With answer.profile;
      is = (h.need, need, h.answers.1.0, h.answers.1.1, answer.answer);
      follows = (answer.request, answer.request_is, inr (refl, subst (λ (lines : List ℕ). WritesFront lines before after) answer.text_is h.answers.2));
    })
ends status.NoMemory hex text rest file before after left all h = inr (inl refl)
ends status.Plan hex text rest file before after left all h =
    inl (record {
      fate = Wrong h.0;
      is = told_at file.left file.text rest text (λ t. IsRefusedBy need_told t h.0) left all h.1;
      follows = (refl, h.2);
    })
ends status.Input hex text rest file before after left all h =
    let need = need_at status.Input hex text rest file before after left all h in
    inl (record { fate = Bad h.answers.0; is = (h.need, need, h.answers.1); follows = (refl, h.answers.2) })
ends status.SourceFault hex text rest file before after left all h = inr (inr refl)
ends status.Unreached hex text rest file before after left all h =
    let need = need_at status.Unreached hex text rest file before after left all h in
    inl (record { fate = Without none.Unreached; is = (h.need, need, h.answers.0); follows = (refl, h.answers.1) })
ends status.NoSchedule hex text rest file before after left all h =
    let need = need_at status.NoSchedule hex text rest file before after left all h in
    inl (record { fate = Without none.NoSchedule; is = (h.need, need, h.answers.0); follows = (refl, h.answers.1) })
ends _ hex text rest file before after left all h = absurd h.answers

by_fate : OneFate → (s : Status) (hex text : List ℕ) (file : FileTold) (before after : SinkTold) (fate : Fate) → ScheduleLeaves s hex file before after
    → file.m ≡ file.n → IsFate text hex fate → Ends s hex text before after → Follows fate s before after ⊎ (s ≡ status.NoMemory)
by_fate law s hex text file before after fate leaves same is (inl fated) =
    inl (subst (λ (f : Fate). Follows f s before after) (law text hex fated.fate fate fated.is is) fated.follows)
by_fate law s hex text file before after fate leaves same is (inr (inl memory)) = inr memory
by_fate law s hex text file before after fate leaves same is (inr (inr unread)) = absurd (never file.n file.m same (leaves.unread.0 unread))

pub followed : OneFate → (s : Status) (hex text rest : List ℕ) (file : FileTold) (before after : SinkTold) (fate : Fate) → ScheduleLeaves s hex file before after
    → file.left ≡ Some rest → file.text ≡ Some text → file.m ≡ file.n → IsFate text hex fate → Follows fate s before after ⊎ (s ≡ status.NoMemory)
followed law s hex text rest file before after fate leaves left all same is =
    by_fate law s hex text file before after fate leaves same is (ends s hex text rest file before after left all leaves.leaves)
