-- Own: what a run of the program leaves.
use Rattle.std.specs.Prelude.{◌≡◌, ◌⊎◌, ℕ, List, ◌++◌, Option, Some, codes}
use Rattle.std.specs.Str.{chars}
use Rattle.charge_world.specs.Outside.{Appends, AppendsSome}
use Rattle.exi_documents.specs.declared.refusal.RefusalCause.{RefusalCause}
use Rattle.post_spec.specs.Codecs.{Codecs}
use Rattle.pair_codecs.specs.Codecs as pair
use Rattle.car_spec.specs.Codecs as cars
use Rattle.message_dialects.specs.declared.dialect.MessageDialect.{MessageDialect}
use Rattle.message_trees.specs.Texts.{IsPrinted, IsRefusedIn, IsScanned, IsUnscanned}
use Rattle.command_status.specs.declared.status.Status.{Status}
use Rattle.command_status.specs.declared.status.Status.TheVariants as status
use Rattle.command_status.specs.FaultLines.{Tells, input_line}
use Rattle.command_words.specs.Command.{IsAudit, IsBasic, IsCar, IsMigrate, IsOffer, IsPick, IsReplay, IsSchedule, IsServices, IsStation, IsTalk}
use Rattle.payload_commands.specs.Picking.{WantsNothing as SpellsNothing}
use Rattle.hex_payloads.specs.HexText.{hex_fault, IsHexOf}
use Rattle.hex_payloads.specs.declared.hex_text.HexFault.{HexFault}
use Rattle.hex_payloads.specs.declared.hex_text.HexFault.TheVariants as hex
use Rattle.hex.specs.Hex.{encode_lower}
use Rattle.charge_run.specs.declared.fault.InputFault.{InputFault}
use Rattle.charge_run.specs.declared.fault.InputFault.TheVariants.{Place, Memory}

-- the codecs of the program's station
abbrev pub site_codecs : Codecs
site_codecs = pair.post_codecs

-- those of its car
abbrev pub car_codecs : cars.Codecs
car_codecs = pair.car_codecs

abbrev pub IsSomeStation : List (List ℕ) → Type 0
IsSomeStation words = (plan : List ℕ) × IsStation words plan

abbrev pub IsSomeCar : List (List ℕ) → Type 0
IsSomeCar words = (plan : List ℕ) × IsCar words plan

abbrev pub IsSomeReplay : List (List ℕ) → Type 0
IsSomeReplay words = (plan : List ℕ) × (trace : List ℕ) × IsReplay words plan trace

abbrev pub IsSomeAudit : List (List ℕ) → Type 0
IsSomeAudit words = (plan : List ℕ) × (trace : List ℕ) × IsAudit words plan trace

abbrev pub IsSomeTalk : List (List ℕ) → Type 0
IsSomeTalk words = (station : List ℕ) × (vehicle : List ℕ) × (seed : ℕ) × IsTalk words station vehicle seed

abbrev pub IsSomeBasic : List (List ℕ) → Type 0
IsSomeBasic words = (script : List ℕ) × IsBasic words script

abbrev pub IsSomeMigrate : List (List ℕ) → Type 0
IsSomeMigrate words = (trace : List ℕ) × IsMigrate words trace

abbrev pub IsSomeOffer : List (List ℕ) → Type 0
IsSomeOffer words = (calendar : List ℕ) × (moment : ℕ) × IsOffer words calendar moment

abbrev pub IsSomeSchedule : List (List ℕ) → Type 0
IsSomeSchedule words = (need : List ℕ) × (payload : List ℕ) × IsSchedule words need payload

abbrev pub IsSomeServices : List (List ℕ) → Type 0
IsSomeServices words = (catalogue : List ℕ) × (id : ℕ) × IsServices words catalogue id

abbrev pub IsSomePick : List (List ℕ) → Type 0
IsSomePick words = (want : List ℕ) × (payload : List ℕ) × IsPick words want payload

-- the words want of `pick` what spells no pairs
abbrev pub WantsNothing : List (List ℕ) → Type 0
WantsNothing words = (want : List ℕ) × (payload : List ℕ) × IsPick words want payload × SpellsNothing want

-- the commands that use the wire
abbrev pub UsesWire : List (List ℕ) → Type 0
UsesWire words = IsSomeStation words ⊎ IsSomeCar words

-- the commands that read a plan, a calendar, a need or a catalogue
abbrev pub ReadsPlan : List (List ℕ) → Type 0
ReadsPlan words = UsesWire words ⊎ IsSomeReplay words ⊎ IsSomeOffer words ⊎ IsSomeSchedule words ⊎ IsSomeServices words ⊎ IsSomeAudit words ⊎ IsSomeTalk words

-- the commands that write a trace
abbrev pub WritesTrace : List (List ℕ) → Type 0
WritesTrace words = UsesWire words ⊎ IsSomeReplay words ⊎ IsSomeMigrate words

-- the commands that read files
abbrev pub ReadsFiles : List (List ℕ) → Type 0
ReadsFiles words = ReadsPlan words ⊎ IsSomeBasic words ⊎ IsSomeMigrate words

-- ---- a line or a fault

-- what the output holds, whose count of faults went from n to m: a line of these, or a front of it where it was not written, or
-- the line of a fault at one of these places
abbrev pub Answers : (List ℕ → Type 0) → (ℕ → Type 0) → Status → Option (List ℕ) → Option (List ℕ) → ℕ → ℕ → Type 0
Answers IsLine IsFaultAt status.Done before after n m = (line : List ℕ) × IsLine line × Appends before after line × (m ≡ n)
Answers IsLine IsFaultAt status.SinkFault before after n m = (line : List ℕ) × IsLine line × AppendsSome before after line
Answers IsLine IsFaultAt status.Input before after n m = (place : ℕ) × IsFaultAt place × Tells before after n m (input_line place)
Answers IsLine IsFaultAt status.NoMemory before after n m = after ≡ before
Answers IsLine IsFaultAt _ before after n m = ⊥

-- the line of the fault was told; for want of memory there is none
abbrev pub Refuses : InputFault → Status → Option (List ℕ) → Option (List ℕ) → ℕ → ℕ → Type 0
Refuses (Place place) s before after n m = (s ≡ status.Input) × Tells before after n m (input_line place)
Refuses Memory s before after n m = (s ≡ status.NoMemory) × (after ≡ before) × (m ≡ n)

-- the fault of a hexadecimal text
abbrev pub input_fault : HexFault → InputFault
input_fault (hex.Place place) = Place place
input_fault hex.Memory = Memory

-- the fault is at one of these places. Want of memory comes freely
abbrev pub HasFault : (ℕ → Type 0) → InputFault → Type 0
HasFault IsFaultAt (Place place) = IsFaultAt place
HasFault IsFaultAt Memory = Unit {0}

-- ---- decode

-- hexadecimal text of a payload, and the text of the tree that the payload spells in a dialect
abbrev pub IsDecoded : MessageDialect → List ℕ → List ℕ → Type 0
IsDecoded dialect hex text = (payload : List ℕ) × IsHexOf hex payload × IsPrinted dialect payload text

abbrev pub IsDecodedLine : MessageDialect → List ℕ → List ℕ → Type 0
IsDecodedLine dialect hex line = (text : List ℕ) × IsDecoded dialect hex text × (line ≡ text ++ codes "\n")

-- the payload is refused at this bit
pub record IsPayloadFault (dialect : MessageDialect) (hex : List ℕ) (bit : ℕ) : Type 0 where
  pub payload : List ℕ
  pub why : RefusalCause
  pub spelled : IsHexOf hex payload
  pub refused : IsRefusedIn dialect payload why bit

-- the text is refused at this character, or its payload at this bit
abbrev pub IsDecodeFault : MessageDialect → List ℕ → ℕ → Type 0
IsDecodeFault dialect hex place = (hex_fault (chars hex) ≡ Some place) ⊎ IsPayloadFault dialect hex place

abbrev pub Decodes : MessageDialect → List ℕ → Status → Option (List ℕ) → Option (List ℕ) → ℕ → ℕ → Type 0
Decodes dialect hex s before after n m = Answers (IsDecodedLine dialect hex) (IsDecodeFault dialect hex) s before after n m

-- ---- encode

-- the payload that is written for the tree whose text this is, in lower-case digits
abbrev pub IsEncodedLine : MessageDialect → List ℕ → List ℕ → Type 0
IsEncodedLine dialect text line = (payload : List ℕ) × IsScanned dialect text payload × (line ≡ encode_lower payload ++ codes "\n")

abbrev pub Encodes : MessageDialect → List ℕ → Status → Option (List ℕ) → Option (List ℕ) → ℕ → ℕ → Type 0
Encodes dialect text s before after n m = Answers (IsEncodedLine dialect text) (IsUnscanned dialect text) s before after n m
