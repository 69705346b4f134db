-- Own: what the command `services` leaves.
use Rattle.std.specs.Prelude.{◌≡◌, ◌⊎◌, ℕ, List, ◌++◌, map, Option, Some, None, IfSome, codes, option_map}
use Rattle.hex.specs.Hex.{encode_lower}
use Rattle.plan_keys.specs.declared.fault.PlanFault.{PlanFault}
use Rattle.plan_keys.specs.declared.fault.PlanFault.TheVariants.{OverLimit, Memory}
use Rattle.plan_keys.specs.Faults.{IsPlanOf}
use Rattle.plan_files.specs.FileTexts.{IsBeginning, Told}
use Rattle.plan_files.specs.declared.plans.PlanFileFault.{PlanFileFault}
use Rattle.plan_files.specs.declared.plans.PlanFileFault.TheVariants.{Unread, Refused}
use Rattle.iso_message.specs.declared.message.IsoMessage.{IsoMessage}
use Rattle.iso_message.specs.Documents.{IsIso}
use Rattle.service_spec.specs.declared.Service.{Service}
use Rattle.service_spec.specs.Services.{SaidSet, said_set_of}
use Rattle.service_messages.specs.Offers.{Offers}
use Rattle.charging_files.specs.Catalogues.{said_service_of, services_in, first_of, catalogue_fault, catalogue_told}
use Rattle.service_spec.specs.Sets.{IsService}
use Rattle.service_messages.specs.Payloads.{IsPayloadOf, IsLong}
use Rattle.charging_files.specs.FileLines.{key_of, IsUnread}
use Rattle.command_status.specs.declared.status.Status.{Status}
use Rattle.command_status.specs.declared.status.Status.TheVariants as status
use Rattle.command_status.specs.FaultLines.{plan_line, source_line}
use Rattle.command_status.specs.Told.{FileTold, SinkTold, TellsLine, Writes, WritesFront}

-- the first service of an identifier that a text says as a catalogue, if there is one
abbrev pub IsServiceOf : ℕ → List ℕ → Option Service → Type 0
IsServiceOf id text service = IsPlanOf catalogue_fault (λ table s. option_map said_service_of s ≡ first_of id (services_in table)) text service

-- ---- the line

-- a message offers the sets that the catalogue has of a service, and none where it has no such service
abbrev pub OffersService : Option Service → IsoMessage → Type 0
OffersService (Some service) message = Offers message (map said_set_of service.sets.items)
OffersService None message = (sets : List SaidSet) → Offers message sets → ⊥

-- each message that is read of a payload offers those
abbrev pub TellsService : Option Service → List ℕ → Type 0
TellsService service payload = (message : IsoMessage) → IsIso message payload → OffersService service message

-- the payload of a service in lower-case digits
abbrev pub IsLineOf : ℕ → Option Service → List ℕ → Type 0
IsLineOf id service line =
    (payload : List ℕ) × IsPayloadOf id service payload × TellsService service payload × (line ≡ encode_lower payload ++ codes "\n")

-- that of a text's service
pub record IsDetailed (id : ℕ) (text line : List ℕ) : Type 0 where
  pub service : Option Service
  pub within : IfSome service IsService
  pub line_is : IsLineOf id service line
  pub read : IsServiceOf id text service

-- of some service, which is that of each text that begins with these bytes
pub record IsDetailedFrom (id : ℕ) (bytes line : List ℕ) : Type 0 where
  pub service : Option Service
  pub within : IfSome service IsService
  pub line_is : IsLineOf id service line
  pub read : (text : List ℕ) → IsBeginning text bytes 65537 → IsServiceOf id text service

-- and which is the file's where that is told
pub record IsDetailedIn (id : ℕ) (left text : Option (List ℕ)) (line : List ℕ) : Type 0 where
  pub service : Option Service
  pub within : IfSome service IsService
  pub line_is : IsLineOf id service line
  pub file : Told left text (λ t. IsServiceOf id t service)

-- ---- a fault

-- the payload is too long
abbrev pub too_long : PlanFault
too_long = OverLimit (codes "bytes", codes "at most 65536 in the payload")

-- why a service has no line. Want of memory comes freely
abbrev pub IsNoLine : ℕ → Option Service → PlanFault → Type 0
IsNoLine id service fault = (fault ≡ Memory) ⊎ (IsLong id service × (fault ≡ too_long))

-- a text is refused: by its first fault, or as the payload of its service is too long
abbrev pub IsTooLong : ℕ → List ℕ → Type 0
IsTooLong id text = (service : Option Service) × IsServiceOf id text service × IsLong id service

abbrev pub IsRefusal : ℕ → List ℕ → PlanFault → Type 0
IsRefusal id text fault = (catalogue_told text ≡ Some fault) ⊎ (IsTooLong id text × (fault ≡ too_long))

abbrev pub IsDetailFault : ℕ → List ℕ → PlanFault → Type 0
IsDetailFault id text fault = (fault ≡ Memory) ⊎ IsRefusal id text fault

abbrev pub IsFileFault : ℕ → Option (List ℕ) → Option (List ℕ) → PlanFileFault → Type 0
IsFileFault id left text Unread = Unit {0}
IsFileFault id left text (Refused fault) = (fault ≡ Memory) ⊎ Told left text (λ t. IsRefusal id t fault)

-- of each text that begins with these bytes
abbrev pub IsFaultFrom : ℕ → List ℕ → PlanFileFault → Type 0
IsFaultFrom id bytes Unread = ⊥
IsFaultFrom id bytes (Refused fault) = (text : List ℕ) → IsBeginning text bytes 65537 → IsDetailFault id text fault

-- a text is refused at this key, or `toml`
abbrev pub IsRefusedAtKey : ℕ → List ℕ → List ℕ → Type 0
IsRefusedAtKey id text key = (fault : PlanFault) × IsRefusal id text fault × (key_of fault ≡ Some key)

-- ---- the output

abbrev pub DetailsBy : ℕ → Status → FileTold → SinkTold → SinkTold → Type 0
DetailsBy id status.Done file before after = (line : List ℕ) × IsDetailedIn id file.left file.text line × Writes line before after
DetailsBy id status.SinkFault file before after = (line : List ℕ) × IsDetailedIn id file.left file.text line × WritesFront line before after
DetailsBy id status.Plan file before after =
    (key : List ℕ) × Told file.left file.text (λ t. IsRefusedAtKey id t key) × TellsLine (plan_line key) before after
DetailsBy id status.SourceFault file before after = TellsLine source_line before after
DetailsBy id status.NoMemory file before after = after ≡ before
DetailsBy id _ file before after = ⊥

-- All is as the file says. It could not be read exactly where the source's count of faults rose
pub record ServicesLeave (id : ℕ) (s : Status) (file : FileTold) (before after : SinkTold) : Type 0 where
  pub leaves : DetailsBy id s file before after
  pub unread : IsUnread s file
