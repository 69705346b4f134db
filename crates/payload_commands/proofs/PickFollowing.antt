-- What the command leaves is the fate of what is wanted and of the payload.
use Rattle.std.proofs.Common.{◌≡◌, ◌⊎◌, ℕ, List, refl, subst, inl, inr}
use Rattle.command_status.specs.declared.status.Status.{Status}
use Rattle.command_status.specs.declared.status.Status.TheVariants as status
use Rattle.command_status.specs.Told.{SinkTold, Writes, WritesFront}
use Rattle.payload_commands.specs.Picking.{PickLeaves}
use Rattle.payload_commands.specs.PickFates.{Fate, Nothing, Bad, Without, With, IsFate, Follows}

abbrev pub OneFate : Type 0
OneFate = (want hex : List ℕ) (one other : Fate) → IsFate want hex one → IsFate want hex other → one ≡ other

record IsFated (s : Status) (want hex : List ℕ) (before after : SinkTold) : Type 0 where
  fate : Fate
  is : IsFate want hex fate
  follows : Follows fate s before after

abbrev Ends : Status → List ℕ → List ℕ → SinkTold → SinkTold → Type 0
Ends s want hex before after = IsFated s want hex before after ⊎ (s ≡ status.NoMemory)

ends : (s : Status) (want hex : List ℕ) (before after : SinkTold) → PickLeaves s want hex before after → Ends s want hex before after
ends status.Words want hex before after h = inl (record { fate = Nothing; is = h.0; follows = (refl, h.1) })
ends status.Done want hex before after h =
    inl (record {
      fate = With h.2.1.0;
      is = (h.0, h.1, h.2.1.1);
      follows = inl (refl, subst (λ (line : List ℕ). Writes line before after) h.2.1.2 h.2.2);
    })
ends status.SinkFault want hex before after h =
    inl (record {
      fate = With h.2.1.0;
      is = (h.0, h.1, h.2.1.1);
      follows = inr (refl, subst (λ (line : List ℕ). WritesFront line before after) h.2.1.2 h.2.2);
    })
ends status.Input want hex before after h = inl (record { fate = Bad h.2.0; is = (h.0, h.1, h.2.1); follows = (refl, h.2.2) })
ends status.NoSet want hex before after h = inl (record { fate = Without; is = (h.0, h.1, h.2.0); follows = (refl, h.2.1) })
ends status.NoMemory want hex before after h = inr refl
ends _ want hex before after h = absurd h.2

by_fate : OneFate → (s : Status) (want hex : List ℕ) (before after : SinkTold) (fate : Fate) → IsFate want hex fate → Ends s want hex before after
    → Follows fate s before after ⊎ (s ≡ status.NoMemory)
by_fate law s want hex before after fate is (inl fated) =
    inl (subst (λ (f : Fate). Follows f s before after) (law want hex fated.fate fate fated.is is) fated.follows)
by_fate law s want hex before after fate is (inr memory) = inr memory

pub followed : OneFate → (s : Status) (want hex : List ℕ) (before after : SinkTold) (fate : Fate) → PickLeaves s want hex before after → IsFate want hex fate
    → Follows fate s before after ⊎ (s ≡ status.NoMemory)
followed law s want hex before after fate leaves is = by_fate law s want hex before after fate is (ends s want hex before after leaves)
