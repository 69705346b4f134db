-- Own: a car names no profile of its power.
use Rattle.std.specs.Prelude.{Option, Some, None}
use Rattle.session_words.specs.declared.amount.Amount.{Amount}
use Rattle.session_words.specs.declared.word.Ask.{Ask}
use Rattle.session_words.specs.declared.word.Ask.TheVariants as ask

abbrev pub IsNoProfile : Option Amount → Type 0
IsNoProfile None = Unit {0}
IsNoProfile (Some power) = ⊥

abbrev pub HasNoProfile : Ask → Type 0
HasNoProfile (ask.PowerDelivery progress tuple profile) = IsNoProfile profile
HasNoProfile other = Unit {0}
