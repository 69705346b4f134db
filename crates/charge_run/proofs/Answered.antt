-- A command that printed a line or told of a fault.
use Rattle.std.proofs.Common.{◌≡◌, ℕ, List, Option, Some, None, Ok, refl, sym, ◌∙◌, subst, ◌⊎◌, inl, inr}
use Rattle.message_dialects.specs.declared.dialect.MessageDialect.{MessageDialect}
use Rattle.message_trees.specs.Texts.{IsRefusedIn, IsUnscanned}
use Rattle.message_trees.proofs.Decided.{apart, scanned_apart}
use Rattle.charge_run.specs.Runs.{site_codecs, car_codecs, Answers, Decodes, IsDecodedLine, IsDecodeFault, Encodes, IsEncodedLine}
use Rattle.command_status.specs.declared.status.Status.{Status}
use Rattle.command_status.specs.declared.status.Status.TheVariants as status
use Rattle.command_status.specs.Told.{SinkTold, file_told}
use Rattle.planned_traces.specs.Files.{files_told}
use Rattle.audit_command.specs.Own.{PassesOwn}
use Rattle.own_codecs.specs.Codecs.{charge_codecs}
use Rattle.pair_command.specs.Files.{plans_told}
use Rattle.pair_command.specs.Generating.{GenerateLeaves}
use Rattle.pair_command.specs.Leaving.{TalkLeaves}
use Rattle.file_commands.specs.Offering.{OfferLeaves}
use Rattle.payload_commands.specs.Detailing.{ServicesLeave}
use Rattle.payload_commands.specs.Picking.{PickLeaves, WantsNothing}

-- a text that is refused gives no line
no_line : (dialect : MessageDialect) (hex line : List ℕ) (place : ℕ) → IsDecodedLine dialect hex line → IsDecodeFault dialect hex place → ⊥
no_line dialect hex line place is (inl h) = let both : Some place ≡ None = sym h ∙ is.1.1.right in absurd cc
no_line dialect hex line place is (inr h) =
    let both : Ok h.payload ≡ Ok is.1.0 = sym h.spelled.spelled ∙ is.1.1.spelled in
    let same : h.payload ≡ is.1.0 = cc in
    apart dialect is.1.0 is.0 h.why place is.1.2 (subst (λ (p : List ℕ). IsRefusedIn dialect p h.why place) same h.refused)

-- where no line is right at such a place, the status is that of a fault
answers_refused : (IsLine : List ℕ → Type 0) (IsFaultAt : ℕ → Type 0) → ((line : List ℕ) (place : ℕ) → IsLine line → IsFaultAt place → ⊥) →
    (place : ℕ) (s : Status) (before after : Option (List ℕ)) (n m : ℕ) →
    Answers IsLine IsFaultAt s before after n m → IsFaultAt place → (s ≡ status.Input) ⊎ (s ≡ status.NoMemory)
answers_refused IsLine IsFaultAt alone place status.Done before after n m h fault = absurd (alone h.0 place h.1 fault)
answers_refused IsLine IsFaultAt alone place status.SinkFault before after n m h fault = absurd (alone h.0 place h.1 fault)
answers_refused IsLine IsFaultAt alone place status.Input before after n m h fault = inl refl
answers_refused IsLine IsFaultAt alone place status.NoMemory before after n m h fault = inr refl
answers_refused IsLine IsFaultAt alone place _ before after n m h fault = absurd h

pub only_refused : (dialect : MessageDialect) (hex : List ℕ) (place : ℕ) (s : Status) (before after : Option (List ℕ)) (n m : ℕ) →
    Decodes dialect hex s before after n m → IsDecodeFault dialect hex place → (s ≡ status.Input) ⊎ (s ≡ status.NoMemory)
only_refused dialect hex place s before after n m h fault =
    answers_refused (IsDecodedLine dialect hex) (IsDecodeFault dialect hex) (λ line other is at. no_line dialect hex line other is at) place s before after n m h fault

pub only_unscanned : (dialect : MessageDialect) (text : List ℕ) (place : ℕ) (s : Status) (before after : Option (List ℕ)) (n m : ℕ) →
    Encodes dialect text s before after n m → IsUnscanned dialect text place → (s ≡ status.Input) ⊎ (s ≡ status.NoMemory)
only_unscanned dialect text place s before after n m h fault =
    answers_refused (IsEncodedLine dialect text) (IsUnscanned dialect text) (λ line other is at. scanned_apart dialect text is.0 other is.1 at) place s before after n m h fault

-- ---- the words say one command

pub same_decoded : (d e : MessageDialect) (a b : List ℕ) → (d ≡ e) × (a ≡ b) → (s : Status) (before after : Option (List ℕ)) (n m : ℕ) →
    Decodes d a s before after n m → Decodes e b s before after n m
same_decoded d e a b same s before after n m h =
    subst (λ (x : MessageDialect). Decodes x b s before after n m) same.0
    (subst (λ (x : List ℕ). Decodes d x s before after n m) same.1 h)

pub same_encoded : (d e : MessageDialect) (a b : List ℕ) → (d ≡ e) × (a ≡ b) → (s : Status) (before after : Option (List ℕ)) (n m : ℕ) →
    Encodes d a s before after n m → Encodes e b s before after n m
same_encoded d e a b same s before after n m h =
    subst (λ (x : MessageDialect). Encodes x b s before after n m) same.0
    (subst (λ (x : List ℕ). Encodes d x s before after n m) same.1 h)

pub same_owned : (holds : List ℕ → Option (List ℕ)) (tells : Type 0) (a b p q : List ℕ) → (a ≡ b) × (p ≡ q) → (s : Status) (k l : ℕ) (before after : SinkTold)
    → PassesOwn charge_codecs tells s (files_told (holds a) (holds p) k l) before after → PassesOwn charge_codecs tells s (files_told (holds b) (holds q) k l) before after
same_owned holds tells a b p q same s k l before after h =
    subst (λ (x : List ℕ). PassesOwn charge_codecs tells s (files_told (holds b) (holds x) k l) before after) same.1
    (subst (λ (x : List ℕ). PassesOwn charge_codecs tells s (files_told (holds x) (holds p) k l) before after) same.0 h)

pub same_talked : (holds : List ℕ → Option (List ℕ)) (tells : Type 0) (a b p q : List ℕ) (m n : ℕ) → (a ≡ b) × (p ≡ q) × (m ≡ n) → (s : Status) (k l : ℕ) (before after : SinkTold)
    → TalkLeaves site_codecs car_codecs tells m s (plans_told (holds a) (holds p) k l) before after
    → TalkLeaves site_codecs car_codecs tells n s (plans_told (holds b) (holds q) k l) before after
same_talked holds tells a b p q m n same s k l before after h =
    subst (λ (x : ℕ). TalkLeaves site_codecs car_codecs tells x s (plans_told (holds b) (holds q) k l) before after) same.2
    (subst (λ (x : List ℕ). TalkLeaves site_codecs car_codecs tells m s (plans_told (holds b) (holds x) k l) before after) same.1
    (subst (λ (x : List ℕ). TalkLeaves site_codecs car_codecs tells m s (plans_told (holds x) (holds p) k l) before after) same.0 h))

pub same_generated : (m n p q : ℕ) → (m ≡ n) × (p ≡ q) → (s : Status) (before after : SinkTold) → GenerateLeaves site_codecs car_codecs m p s before after
    → GenerateLeaves site_codecs car_codecs n q s before after
same_generated m n p q same s before after h =
    subst (λ (x : ℕ). GenerateLeaves site_codecs car_codecs n x s before after) same.1
    (subst (λ (x : ℕ). GenerateLeaves site_codecs car_codecs x p s before after) same.0 h)

pub same_offered : (holds : List ℕ → Option (List ℕ)) (m n : ℕ) (a b : List ℕ) → (a ≡ b) × (m ≡ n) → (s : Status) (left : Option (List ℕ)) (k l : ℕ) (before after : SinkTold) →
    OfferLeaves m s (file_told (holds a) left k l) before after → OfferLeaves n s (file_told (holds b) left k l) before after
same_offered holds m n a b same s left k l before after h =
    subst (λ (x : ℕ). OfferLeaves x s (file_told (holds b) left k l) before after) same.1
    (subst (λ (x : List ℕ). OfferLeaves m s (file_told (holds x) left k l) before after) same.0 h)

pub same_served : (holds : List ℕ → Option (List ℕ)) (m n : ℕ) (a b : List ℕ) → (a ≡ b) × (m ≡ n) → (s : Status) (left : Option (List ℕ)) (k l : ℕ) (before after : SinkTold) →
    ServicesLeave m s (file_told (holds a) left k l) before after → ServicesLeave n s (file_told (holds b) left k l) before after
same_served holds m n a b same s left k l before after h =
    subst (λ (x : ℕ). ServicesLeave x s (file_told (holds b) left k l) before after) same.1
    (subst (λ (x : List ℕ). ServicesLeave m s (file_told (holds x) left k l) before after) same.0 h)

pub same_picked : (a b p q : List ℕ) → (a ≡ b) × (p ≡ q) → (s : Status) (before after : SinkTold) → PickLeaves s a p before after → PickLeaves s b q before after
same_picked a b p q same s before after h =
    subst (λ (x : List ℕ). PickLeaves s b x before after) same.1 (subst (λ (x : List ℕ). PickLeaves s x p before after) same.0 h)

pub wants_nothing : (s : Status) (want hex : List ℕ) (before after : SinkTold) → PickLeaves s want hex before after → s ≡ status.Words → WantsNothing want
wants_nothing s want hex before after h is = (subst (λ (s : Status). PickLeaves s want hex before after) is h).0
