-- The line of a catalogue's service, and why there is none, by the text of a file.
use Rattle.std.proofs.Common.{◌≡◌, ◌⊎◌, ℕ, nat_lt, List, length, map, Option, Some, None, Result, Ok, Err, String, Global, string_bytes, refl, sym, ap, ◌∙◌, inl, inr, arith}
use Rattle.std.specs.Prelude.{IfOk, IfErr, IfSome, MatchResult}
use Rattle.plan_keys.specs.declared.fault.PlanFault.{PlanFault}
use Rattle.plan_keys.specs.declared.fault.PlanFault.TheVariants.{Memory}
use Rattle.plan_keys.specs.Faults.{text_says, told}
use Rattle.plan_files.specs.FileTexts.{IsBeginning, Told, CountsFault}
use Rattle.plan_files.specs.declared.plans.PlanFileFault.{PlanFileFault}
use Rattle.plan_files.specs.declared.plans.PlanFileFault.TheVariants.{Unread, Refused}
use Rattle.plan_files.proofs.Texts.{told_weaker, said}
use Rattle.charging_files.proofs.Told.{was_read}
use Rattle.iso_message.specs.declared.message.IsoMessage.{IsoMessage}
use Rattle.iso_message.specs.Documents.{IsIso}
use Rattle.service_spec.specs.declared.Service.{Service}
use Rattle.service_spec.specs.Services.{SaidSet, said_set_of}
use Rattle.service_messages.specs.Offers.{Offers}
use Rattle.charging_files.specs.Catalogues.{catalogue_fault}
use Rattle.service_spec.specs.Sets.{IsService}
use Rattle.service_messages.specs.Payloads.{IsLong, IsPayloadOf}
use Rattle.payload_commands.specs.Detailing.{too_long as too_long_fault, IsServiceOf, TellsService, IsLineOf, IsDetailed, IsDetailedFrom, IsDetailedIn, IsFaultFrom, IsFileFault, IsNoLine, IsRefusal, IsDetailFault}

-- ---- of a payload

pub tells_service : ((id : ℕ) (service : Service) (payload : List ℕ) (m : IsoMessage) → IsPayloadOf id (Some service) payload → IsIso m payload
    → Offers m (map said_set_of service.sets.items))
    → ((id : ℕ) (payload : List ℕ) (m : IsoMessage) (sets : List SaidSet) → IsPayloadOf id None payload → IsIso m payload → Offers m sets → ⊥)
    → (id : ℕ) (service : Option Service) (payload : List ℕ) → IsPayloadOf id service payload → TellsService service payload
tells_service offered absent id (Some service) payload is m spelled = offered id service payload m is spelled
tells_service offered absent id None payload is m spelled = λ sets offers. absent id payload m sets is spelled offers

-- ---- of a text

pub lined : (id : ℕ) (text : List ℕ) (service : Option Service) (r : Result (String Global) PlanFault) → IfSome service IsService → IsServiceOf id text service
    → IfOk r (λ line. IsLineOf id service (string_bytes line)) → IfOk r (λ line. IsDetailed id text (string_bytes line))
lined id text service (Err fault) within read is = tt
lined id text service (Ok line) within read is = record { service = service; within = within; line_is = is; read = read }

pub unlined : (id : ℕ) (text : List ℕ) (service : Option Service) (r : Result (String Global) PlanFault) → IsServiceOf id text service → IfErr r (IsNoLine id service)
    → IfErr r (IsDetailFault id text)
unlined id text service (Ok line) read is = tt
unlined id text service (Err fault) read (inl memory) = inl memory
unlined id text service (Err fault) read (inr long) = inr (inr ((service, read, long.0), long.1))

pub long_fault : (id : ℕ) (service : Option Service) (fault : PlanFault) → IsLong id service → (fault ≡ Memory) ⊎ (fault ≡ too_long_fault) → IsNoLine id service fault
long_fault id service fault long (inl memory) = inl memory
long_fault id service fault long (inr is) = inr (long, is)

-- ---- of the bytes that it begins with

same_says : (text bytes : List ℕ) → IsBeginning text bytes 65537 → text_says bytes ≡ text_says text
same_says text bytes h = said text bytes (nat_lt 65536 (length bytes)) refl h

same_service : (id : ℕ) (text bytes : List ℕ) (service : Option Service) → IsBeginning text bytes 65537 → IsServiceOf id bytes service → IsServiceOf id text service
same_service id text bytes service begins h = (h.0, sym (same_says text bytes begins) ∙ h.1, h.2, h.3)

same_refusal : (id : ℕ) (text bytes : List ℕ) (fault : PlanFault) → IsBeginning text bytes 65537 → IsDetailFault id bytes fault → IsDetailFault id text fault
same_refusal id text bytes fault begins (inl memory) = inl memory
same_refusal id text bytes fault begins (inr (inl first)) = inr (inl (ap (told catalogue_fault) (sym (same_says text bytes begins)) ∙ first))
same_refusal id text bytes fault begins (inr (inr long)) =
    inr (inr ((long.0.0, same_service id text bytes long.0.0 begins long.0.1, long.0.2), long.1))

pub from_bytes : (id : ℕ) (bytes : List ℕ) (r : Result (String Global) PlanFault) → IfOk r (λ line. IsDetailed id bytes (string_bytes line))
    → IfOk r (λ line. IsDetailedFrom id bytes (string_bytes line))
from_bytes id bytes (Err fault) is = tt
from_bytes id bytes (Ok line) is = record {
  service = is.service;
  within = is.within;
  line_is = is.line_is;
  read = λ text begins. same_service id text bytes is.service begins is.read;
}

pub fault_from_bytes : (id : ℕ) (bytes : List ℕ) (r : Result (String Global) PlanFault) → IfErr r (IsDetailFault id bytes)
    → IfErr r (λ fault. (text : List ℕ) → IsBeginning text bytes 65537 → IsDetailFault id text fault)
fault_from_bytes id bytes (Ok line) is = tt
fault_from_bytes id bytes (Err fault) is = λ text begins. same_refusal id text bytes fault begins is

-- ---- of a file

told_either : (left text : Option (List ℕ)) (P Q : List ℕ → Type 0) (R : Type 0) → ((t : List ℕ) → P t → R ⊎ Q t) → Told left text P → R ⊎ Told left text Q
told_either None text P Q R f h = inr tt
told_either (Some rest) None P Q R f h = absurd h
told_either (Some rest) (Some t) P Q R f h = f t h

pub line_in : (id : ℕ) (left text : Option (List ℕ)) (bytes : List ℕ) (r : Result (String Global) PlanFileFault) → Told left text (λ t. IsBeginning t bytes 65537)
    → IfOk r (λ line. IsDetailedFrom id bytes (string_bytes line)) → IfOk r (λ line. IsDetailedIn id left text (string_bytes line))
line_in id left text bytes (Err fault) told is = tt
line_in id left text bytes (Ok line) told is = record {
  service = is.service;
  within = is.within;
  line_is = is.line_is;
  file = told_weaker left text (λ t. IsBeginning t bytes 65537) (λ t. IsServiceOf id t is.service) is.read told;
}

pub fault_in : (id : ℕ) (left text : Option (List ℕ)) (bytes : List ℕ) (r : Result (String Global) PlanFileFault) → Told left text (λ t. IsBeginning t bytes 65537)
    → IfErr r (IsFaultFrom id bytes) → IfErr r (IsFileFault id left text)
fault_in id left text bytes (Ok line) told is = tt
fault_in id left text bytes (Err Unread) told is = tt
fault_in id left text bytes (Err (Refused fault)) told is =
    told_either left text (λ t. IsBeginning t bytes 65537) (λ t. IsRefusal id t fault) (fault ≡ Memory) is told

pub counts_in : (id n m : ℕ) (bytes : List ℕ) (r : Result (String Global) PlanFileFault) → m ≡ n → IfErr r (IsFaultFrom id bytes)
    → MatchResult r (λ _. m ≡ n) (CountsFault Unread n m)
counts_in id n m bytes (Ok line) same h = same
counts_in id n m bytes (Err Unread) same h = absurd h
counts_in id n m bytes (Err (Refused fault)) same h = record {
  later = omega (arith, same);
  risen = (λ is. absurd (was_read fault is), λ less. absurd (omega (arith, same, less)));
}
