-- What is left, by the line or by what is wrong.
use Rattle.std.proofs.Common.{◌≡◌, inl, inr, ℕ, ◌<◌, List, Option, Some, None, refl, sym, ap, ◌∙◌, subst}
use Rattle.plan_keys.specs.declared.fault.PlanFault.{PlanFault}
use Rattle.plan_files.specs.FileTexts.{Told, CountsFault}
use Rattle.plan_files.proofs.Texts.{told_weaker}
use Rattle.plan_files.specs.declared.plans.PlanFileFault.{PlanFileFault}
use Rattle.plan_files.specs.declared.plans.PlanFileFault.TheVariants.{Unread, Refused}
use Rattle.service_spec.specs.declared.Parameter.{Parameter}
use Rattle.service_spec.specs.Wants.{IsWant}
use Rattle.command_status.specs.declared.status.Status.{Status}
use Rattle.command_status.specs.declared.status.Status.TheVariants as status
use Rattle.command_status.specs.Told.{FileTold, SinkTold, Prints}
use Rattle.charging_files.specs.FileLines.{key_of, RefusesBy, Refuses}
use Rattle.charging_files.proofs.Told.{none_is_some, never, was_read, read_status, same_output, IsOther}
use Rattle.payload_commands.specs.Detailing.{IsDetailedIn, IsRefusal, IsFileFault, IsRefusedAtKey, DetailsBy, ServicesLeave}
use Rattle.payload_commands.specs.Picking.{IsPickLine, IsNoPick, NoLineTold, PicksBy, PickLeaves}
use Rattle.payload_commands.specs.declared.choices.NoLine.{NoLine}
use Rattle.payload_commands.specs.declared.choices.NoLine.TheVariants.{Place, NoSet, Memory}

-- ---- the payload of a service

abbrev DetailsAt : ℕ → FileTold → SinkTold → SinkTold → Status → Type 0
DetailsAt id file before after s = DetailsBy id s file before after

prints : (id : ℕ) (line : List ℕ) (s : Status) (file : FileTold) (before after : SinkTold) → IsDetailedIn id file.left file.text line → file.m ≡ file.n
    → Prints line s before after → ServicesLeave id s file before after
prints id line s file before after is same (inl h) = record {
  leaves = subst (DetailsAt id file before after) (sym h.0) (line, is, h.1);
  unread = read_status s file (subst IsOther (sym h.0) tt) (never file.n file.m same);
}
prints id line s file before after is same (inr h) = record {
  leaves = subst (DetailsAt id file before after) (sym h.0) (line, is, h.1);
  unread = read_status s file (subst IsOther (sym h.0) tt) (never file.n file.m same);
}

-- a fault with a key is no want of memory
told_fault : (id : ℕ) (fault : PlanFault) (key : List ℕ) (left text : Option (List ℕ)) → key_of fault ≡ Some key → IsFileFault id left text (Refused fault)
    → Told left text (λ t. IsRefusedAtKey id t key)
told_fault id fault key left text is (inl memory) = absurd (none_is_some key (sym (ap key_of memory) ∙ is))
told_fault id fault key left text is (inr told) =
    told_weaker left text (λ t. IsRefusal id t fault) (λ t. IsRefusedAtKey id t key) (λ t refused. (fault, refused, is)) told

by_key : (id : ℕ) (fault : PlanFault) (k : Option (List ℕ)) (s : Status) (file : FileTold) (before after : SinkTold) → key_of fault ≡ k
    → IsFileFault id file.left file.text (Refused fault) → (file.n < file.m → ⊥)
    → RefusesBy k s before after → ServicesLeave id s file before after
by_key id fault (Some key) s file before after is has same h = record {
  leaves = subst (DetailsAt id file before after) (sym h.0) (key, told_fault id fault key file.left file.text is has, h.1);
  unread = read_status s file (subst IsOther (sym h.0) tt) same;
}
by_key id fault None s file before after is has same h = record {
  leaves = subst (DetailsAt id file before after) (sym h.0) (same_output before after h.1 h.2);
  unread = read_status s file (subst IsOther (sym h.0) tt) same;
}

refuses : (id : ℕ) (fault : PlanFileFault) (s : Status) (file : FileTold) (before after : SinkTold) → IsFileFault id file.left file.text fault
    → CountsFault Unread file.n file.m fault → Refuses fault s before after → ServicesLeave id s file before after
refuses id Unread s file before after has counts h = record {
  leaves = subst (DetailsAt id file before after) (sym h.0) h.1;
  unread = (λ is. counts.risen.0 refl, λ less. h.0);
}
refuses id (Refused fault) s file before after has counts h =
    by_key id fault (key_of fault) s file before after refl has (λ less. was_read fault (counts.risen.1 less)) h

-- of a number of 16 bits that is this one
pub prints_as : (n id : ℕ) (line : List ℕ) (s : Status) (file : FileTold) (before after : SinkTold) → n ≡ id → IsDetailedIn n file.left file.text line → file.m ≡ file.n
    → Prints line s before after → ServicesLeave id s file before after
prints_as n id line s file before after same is read printed =
    subst (λ (i : ℕ). ServicesLeave i s file before after) same (prints n line s file before after is read printed)

pub refuses_as : (n id : ℕ) (fault : PlanFileFault) (s : Status) (file : FileTold) (before after : SinkTold) → n ≡ id → IsFileFault n file.left file.text fault
    → CountsFault Unread file.n file.m fault → Refuses fault s before after → ServicesLeave id s file before after
refuses_as n id fault s file before after same has counts h =
    subst (λ (i : ℕ). ServicesLeave i s file before after) same (refuses n fault s file before after has counts h)

pub memory_leaves : (id : ℕ) (s : Status) (file : FileTold) (before after : SinkTold) → ServicesLeave id s file before after → s ≡ status.NoMemory → after ≡ before
memory_leaves id s file before after h is = subst (DetailsAt id file before after) is h.leaves

pub sink_leaves : (id : ℕ) (s : Status) (file : FileTold) (before after : SinkTold) → ServicesLeave id s file before after → s ≡ status.SinkFault
    → before.faults < after.faults
sink_leaves id s file before after h is = (subst (DetailsAt id file before after) is h.leaves).2.0

-- ---- a choice

abbrev PicksAt : List Parameter → List ℕ → SinkTold → SinkTold → Status → Type 0
PicksAt pairs hex before after s = PicksBy s pairs hex before after

pub printed_picks : (pairs : List Parameter) (hex line : List ℕ) (s : Status) (before after : SinkTold) → IsPickLine pairs hex line → Prints line s before after
    → PicksBy s pairs hex before after
printed_picks pairs hex line s before after is (inl h) = subst (PicksAt pairs hex before after) (sym h.0) (line, is, h.1)
printed_picks pairs hex line s before after is (inr h) = subst (PicksAt pairs hex before after) (sym h.0) (line, is, h.1)

pub refused_picks : (pairs : List Parameter) (hex : List ℕ) (fault : NoLine) (s : Status) (before after : SinkTold) → IsNoPick pairs hex fault
    → NoLineTold fault s before after → PicksBy s pairs hex before after
refused_picks pairs hex (Place place) s before after is h = subst (PicksAt pairs hex before after) (sym h.0) (place, is, h.1)
refused_picks pairs hex NoSet s before after is h = subst (PicksAt pairs hex before after) (sym h.0) (is, h.1)
refused_picks pairs hex Memory s before after is h = subst (PicksAt pairs hex before after) (sym h.0) h.1

pub wanted : (s : Status) (pairs : List Parameter) (want hex : List ℕ) (before after : SinkTold) → IsWant want pairs → PicksBy s pairs hex before after
    → PickLeaves s want hex before after
wanted status.Words pairs want hex before after is h = absurd h
wanted status.Done pairs want hex before after is h = (pairs, is, h)
wanted status.NoMemory pairs want hex before after is h = h
wanted status.Plan pairs want hex before after is h = absurd h
wanted status.Input pairs want hex before after is h = (pairs, is, h)
wanted status.SinkFault pairs want hex before after is h = (pairs, is, h)
wanted status.NoSet pairs want hex before after is h = (pairs, is, h)
wanted _ pairs want hex before after is h = absurd h

abbrev PickLeavesAt : List ℕ → List ℕ → SinkTold → SinkTold → Status → Type 0
PickLeavesAt want hex before after s = PickLeaves s want hex before after

pub memory_picks : (s : Status) (want hex : List ℕ) (before after : SinkTold) → PickLeaves s want hex before after → s ≡ status.NoMemory → after ≡ before
memory_picks s want hex before after h is = subst (PickLeavesAt want hex before after) is h

pub sink_picks : (s : Status) (want hex : List ℕ) (before after : SinkTold) → PickLeaves s want hex before after → s ≡ status.SinkFault → before.faults < after.faults
sink_picks s want hex before after h is = (subst (PickLeavesAt want hex before after) is h).2.2.0
