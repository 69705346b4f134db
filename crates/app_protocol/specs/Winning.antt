-- Own: the winner among the entries of a request that were looked at.
use Rattle.std.specs.Prelude.{◌≡◌, List, All, Option, Some, MatchOption}
use Rattle.charge_world.specs.declared.offer.Dialect.{Dialect}
use Rattle.app_protocol.specs.declared.negotiation.Winner.{Winner}
use Rattle.app_protocol.specs.Messages.{Protocol}
use Rattle.app_protocol.specs.Negotiation.{NoMatch, IsChosen, code_for}

-- the winner has this entry's values
pub record IsWinner (offer : List Dialect) (taken : List Protocol) (w : Winner) : Type 0 where
  pub entry : Protocol
  pub chosen : IsChosen offer taken entry w.dialect
  pub priority : w.priority ≡ entry.priority
  pub response : w.response ≡ record { code = code_for entry.minor w.dialect; schema = Some entry.schema }

abbrev pub Won : List Dialect → List Protocol → Option Winner → Type 0
Won offer taken best = MatchOption best (All (NoMatch offer) taken) (IsWinner offer taken)
