use Rattle.std.proofs.Common.{refl, [], ◌∷◌}
use Rattle.message_parts.proofs.Chosen.{only_last}
use Rattle.parts_examples.specs.declared.names.TheConstants.{ENDED, STOPPED}
use Rattle.parts_examples.specs.declared.kinds.TheConstants.{UNSIGNED_SHORT_KIND, STOPPED_KIND}
use Rattle.parts_examples.proofs.amounts.CauseChoice.read_member.Goals as goal

pub returns-in_ok-member_value-clause-read : goal.returns-in_ok-member_value-clause-read
returns-in_ok-member_value-clause-read g c = λ F told h.
    c.in_ok-member_value.ensures.read _ F _ _ _ _ told h
    (c.is_at.ensures.here c.if-is_at.true) refl refl refl

pub returns-in_ok-member-clause-read : goal.returns-in_ok-member-clause-read
returns-in_ok-member-clause-read g c = λ F told h.
    c.in_ok-member.ensures.read F _ _ _ told h
    (only_last ((ENDED, UNSIGNED_SHORT_KIND) ∷ []) (STOPPED, STOPPED_KIND) _ F.name h.kind h.here h.among (c.is_at.ensures.absent c.if-is_at.false, tt)) refl refl
