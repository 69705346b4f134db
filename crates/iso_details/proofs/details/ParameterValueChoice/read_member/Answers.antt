use Rattle.std.proofs.Common.{rules, refl, [], ◌∷◌}
use Rattle.iso_parts.proofs.Chosen.{only_last}
use Rattle.iso_schema.specs.declared.names.TheConstants.{BOOL_VALUE, BYTE_VALUE, SHORT_VALUE, INT_VALUE, PHYSICAL_VALUE, STRING_VALUE}
use Rattle.iso_schema.specs.declared.kinds.TheConstants.{BOOLEAN_KIND, BYTE_KIND, SHORT_KIND, INT_KIND, PHYSICAL_VALUE_KIND, TEXT64_KIND}
use Rattle.iso_details.proofs.details.ParameterValueChoice.read_member.Goals as goal

pub returns-in_ok-member_value-clause-read : goal.returns-in_ok-member_value-clause-read
returns-in_ok-member_value-clause-read g c = λ F told h.
    c.in_ok-member_value.ensures.read _ F _ _ _ _ told h (c.is_at.ensures.here c.if-is_at.true) refl refl refl

pub returns-in_ok-member_value-2-clause-read : goal.returns-in_ok-member_value-2-clause-read
returns-in_ok-member_value-2-clause-read g c = λ F told h.
    search (rules, c.in_ok-member_value-2.ensures.read _ F _ _ _ _ told h (c.is_at-else-is_at.ensures.here c.if-is_at-2.true) refl refl refl)

pub returns-in_ok-member_value-3-clause-read : goal.returns-in_ok-member_value-3-clause-read
returns-in_ok-member_value-3-clause-read g c = λ F told h.
    search (rules, c.in_ok-member_value-3.ensures.read _ F _ _ _ _ told h (c.is_at-else-is_at-2.ensures.here c.if-is_at-3.true) refl refl refl)

pub returns-in_ok-member_value-4-clause-read : goal.returns-in_ok-member_value-4-clause-read
returns-in_ok-member_value-4-clause-read g c = λ F told h.
    search (rules, c.in_ok-member_value-4.ensures.read _ F _ _ _ _ told h (c.is_at-else-is_at-3.ensures.here c.if-is_at-4.true) refl refl refl)

pub returns-in_ok-member-clause-read : goal.returns-in_ok-member-clause-read
returns-in_ok-member-clause-read g c = λ F told h.
    c.in_ok-member.ensures.read F _ _ _ told h (c.is_at-else-is_at-4.ensures.here c.if-is_at-5.true) refl refl

pub returns-in_ok-member_value-5-clause-read : goal.returns-in_ok-member_value-5-clause-read
returns-in_ok-member_value-5-clause-read g c = λ F told h.
    c.in_ok-member_value-5.ensures.read _ F _ _ _ _ told h (only_last ((BOOL_VALUE, BOOLEAN_KIND) ∷ (BYTE_VALUE, BYTE_KIND) ∷ (SHORT_VALUE, SHORT_KIND) ∷ (INT_VALUE, INT_KIND) ∷ (PHYSICAL_VALUE, PHYSICAL_VALUE_KIND) ∷ []) (STRING_VALUE, TEXT64_KIND) _ F.name h.kind h.here h.among (c.is_at.ensures.absent c.if-is_at.false, (c.is_at-else-is_at.ensures.absent c.if-is_at-2.false, (c.is_at-else-is_at-2.ensures.absent c.if-is_at-3.false, (c.is_at-else-is_at-3.ensures.absent c.if-is_at-4.false, (c.is_at-else-is_at-4.ensures.absent c.if-is_at-5.false, tt)))))) refl refl refl
