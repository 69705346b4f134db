-- ISO 15118-2:2014, 8.3.3 and 8.4.2 (the identifier of a session); DIN SPEC 70121:2014. Its bytes and the rows' names are own.
use Rattle.std.specs.Prelude.{ℕ, Bool, true, false, nat_eq, if◌then◌else◌, None, List, replicate}
use Rattle.std.specs.Cmp.Lexicographic.{pointwise}
use Rattle.charge_world.specs.declared.offer.Dialect.{Dialect}
use Rattle.charge_world.specs.declared.offer.Dialect.TheVariants.{Iso}
use Rattle.session_words.specs.declared.phase.Phase.{Phase}
use Rattle.session_words.specs.declared.phase.Phase.TheVariants as row
use Rattle.session_words.specs.declared.session.SessionId.{SessionId}
use Rattle.session_words.specs.Sessions.{token_bytes}
use Rattle.session_rules.specs.declared.stage.Stage.{Stage}

abbrev pub id_of : List ℕ → SessionId
id_of bytes = record { bytes = record { items = bytes } }

abbrev pub is_same : SessionId → SessionId → Bool
is_same a b = pointwise nat_eq a.bytes.items b.bytes.items

-- SessionSetup was accepted
abbrev pub is_set_up : Phase → Bool
is_set_up row.Connected = false
is_set_up row.Negotiated = false
is_set_up other = true

-- the reply to PowerDelivery waits for the contactor's feedback
abbrev pub is_waiting : Phase → Bool
is_waiting row.DcClosing = true
is_waiting row.AcClosing = true
is_waiting other = false

-- the identifier: eight zero bytes until SessionSetup is accepted
abbrev pub identifier : Stage → SessionId
identifier s = if is_set_up s.row then s.session else id_of (replicate 8 0)

-- a connection came with this token
abbrev pub first_stage : ℕ → Stage
first_stage token = record {
  row = row.Connected;
  dialect = Iso;
  session = id_of (token_bytes token);
  told = 0;
  schedule = 0;
  pre_charge = None;
}

-- an entry of the negotiation matched, and this dialect was chosen
abbrev pub negotiated : Stage → Dialect → Stage
negotiated s dialect = record s { row = row.Negotiated; dialect = dialect }

-- the feedback confirmed that the contactor is closed
abbrev pub confirmed_row : Phase → Phase
confirmed_row row.DcClosing = row.DcCharging
confirmed_row row.AcClosing = row.AcCharging
confirmed_row other = other

abbrev pub confirmed : Stage → Stage
confirmed s = record s { row = confirmed_row s.row }
