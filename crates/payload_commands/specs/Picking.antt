-- Own: what the command `pick` leaves.
use Rattle.std.specs.Prelude.{◌≡◌, ℕ, ℤ, List, ◌++◌, map, codes}
use Rattle.std.specs.Fmt.{signed_decimal}
use Rattle.hex_payloads.specs.HexText.{IsHexOf}
use Rattle.exi_documents.specs.declared.refusal.RefusalCause.{RefusalCause}
use Rattle.iso_message.specs.declared.message.IsoMessage.{IsoMessage}
use Rattle.iso_message.specs.Documents.{IsIso, IsIsoRefused}
use Rattle.service_spec.specs.declared.Parameter.{Parameter}
use Rattle.service_spec.specs.Services.{said_of}
use Rattle.service_spec.specs.Wants.{IsWant}
use Rattle.service_messages.specs.Offers.{IsChoice, HasNoChoice}
use Rattle.command_status.specs.declared.status.Status.{Status}
use Rattle.command_status.specs.declared.status.Status.TheVariants as status
use Rattle.command_status.specs.FaultLines.{input_line, words_line}
use Rattle.command_status.specs.Told.{SinkTold, TellsLine, Writes, WritesFront}
use Rattle.payload_commands.specs.Refusals.{IsRefusedAt}
use Rattle.payload_commands.specs.declared.choices.NoLine.{NoLine}
use Rattle.payload_commands.specs.declared.choices.NoLine.TheVariants.{Place, NoSet, Memory}

-- the identifier of a set
abbrev pub set_line : ℤ → List ℕ
set_line id = codes "set " ++ (signed_decimal id ++ codes "\n")

-- the payload offers no set as it is wanted
abbrev pub no_set_line : List ℕ
no_set_line = codes "no set\n"

-- ---- what is wanted

-- a word spells no pairs
abbrev pub WantsNothing : List ℕ → Type 0
WantsNothing word = (pairs : List Parameter) → IsWant word pairs → ⊥

-- ---- the choice

-- of the message that a payload spells, by these pairs
pub record IsPickedOf (pairs : List Parameter) (payload : List ℕ) (id : ℤ) : Type 0 where
  pub message : IsoMessage
  pub spelled : IsIso message payload
  pub choice : IsChoice (map said_of pairs) message id

pub record OffersNone (pairs : List Parameter) (payload : List ℕ) : Type 0 where
  pub message : IsoMessage
  pub spelled : IsIso message payload
  pub none : HasNoChoice (map said_of pairs) message

-- that to the payload of a hexadecimal text
abbrev pub IsPickedIn : List Parameter → List ℕ → ℤ → Type 0
IsPickedIn pairs hex id = (payload : List ℕ) × IsHexOf hex payload × IsPickedOf pairs payload id

abbrev pub OffersNoneIn : List Parameter → List ℕ → Type 0
OffersNoneIn pairs hex = (payload : List ℕ) × IsHexOf hex payload × OffersNone pairs payload

-- the line of a choice, and why there is none, of a payload and of a hexadecimal text
abbrev pub IsChoiceLine : List Parameter → List ℕ → List ℕ → Type 0
IsChoiceLine pairs payload line = (id : ℤ) × IsPickedOf pairs payload id × (line ≡ set_line id)

abbrev pub IsPickLine : List Parameter → List ℕ → List ℕ → Type 0
IsPickLine pairs hex line = (id : ℤ) × IsPickedIn pairs hex id × (line ≡ set_line id)

abbrev pub IsNoChoiceOf : List Parameter → List ℕ → NoLine → Type 0
IsNoChoiceOf pairs payload (Place place) = (why : RefusalCause) × IsIsoRefused payload why place
IsNoChoiceOf pairs payload NoSet = OffersNone pairs payload
IsNoChoiceOf pairs payload Memory = Unit {0}

abbrev pub IsNoPick : List Parameter → List ℕ → NoLine → Type 0
IsNoPick pairs hex (Place place) = IsRefusedAt hex place
IsNoPick pairs hex NoSet = OffersNoneIn pairs hex
IsNoPick pairs hex Memory = Unit {0}

-- the line of that is told
abbrev pub NoLineTold : NoLine → Status → SinkTold → SinkTold → Type 0
NoLineTold (Place place) s before after = (s ≡ status.Input) × TellsLine (input_line place) before after
NoLineTold NoSet s before after = (s ≡ status.NoSet) × TellsLine no_set_line before after
NoLineTold Memory s before after = (s ≡ status.NoMemory) × (after ≡ before)

-- ---- the output

-- by these pairs and the hexadecimal text of a payload
abbrev pub PicksBy : Status → List Parameter → List ℕ → SinkTold → SinkTold → Type 0
PicksBy status.Done pairs hex before after = (line : List ℕ) × IsPickLine pairs hex line × Writes line before after
PicksBy status.SinkFault pairs hex before after = (line : List ℕ) × IsPickLine pairs hex line × WritesFront line before after
PicksBy status.Input pairs hex before after = (place : ℕ) × IsRefusedAt hex place × TellsLine (input_line place) before after
PicksBy status.NoSet pairs hex before after = OffersNoneIn pairs hex × TellsLine no_set_line before after
PicksBy status.NoMemory pairs hex before after = after ≡ before
PicksBy _ pairs hex before after = ⊥

-- by those that the word spells; else the words are none
abbrev pub PickLeaves : Status → List ℕ → List ℕ → SinkTold → SinkTold → Type 0
PickLeaves status.Words want hex before after = WantsNothing want × TellsLine words_line before after
PickLeaves status.NoMemory want hex before after = after ≡ before
PickLeaves s want hex before after = (pairs : List Parameter) × IsWant want pairs × PicksBy s pairs hex before after
