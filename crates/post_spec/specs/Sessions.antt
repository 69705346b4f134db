-- Own: the session of a post, and its stream.
use Rattle.std.specs.Prelude.{ℕ, Bool, true, false, List, [], ◌∷◌, ◌++◌, Option, Some, None}
use Rattle.std.specs.Option.{option_map}
use Rattle.charge_world.specs.declared.ports.Order.{Order}
use Rattle.charge_world.specs.declared.ports.Order.TheVariants as order
use Rattle.post_spec.specs.Steps.{Event, Came, Bytes, Gone, Datagram, Plant, Clock, Over, Act, Give, Send, Answer, End, Seen, Heard, Did}
use Rattle.post_spec.specs.Facts.{now}

-- the newest hearing, where a connection began in it
abbrev pub if_came : ℕ → Event → Option Seen
if_came at (Came token) = Some (Heard at (Came token))
if_came at (Bytes bytes) = None
if_came at Gone = None
if_came at (Datagram bytes) = None
if_came at (Plant event) = None
if_came at Clock = None
if_came at Over = None

abbrev pub arriving : List Seen → Option Seen
arriving [] = None
arriving (Heard at event ∷ past) = if_came at event
arriving (Did act taken ∷ past) = arriving past

-- the session that stands behind the newest block: a connection that began in it opens a new one
abbrev pub session_behind : Option Seen → Option (List Seen) → Option (List Seen)
session_behind None session = session
session_behind (Some came) session = Some (came ∷ [])

abbrev pub with_seen : Seen → Option (List Seen) → Option (List Seen)
with_seen x session = option_map (λ es. x ∷ es) session

abbrev pub with_act : Act → Bool → Option (List Seen) → Option (List Seen)
with_act (Give order) taken session = with_seen (Did (Give order) taken) session
with_act (Send bytes) taken session = with_seen (Did (Send bytes) taken) session
with_act (Answer bytes) taken session = with_seen (Did (Answer bytes) taken) session
with_act (End cause) taken session = None

-- the session, if one lives: its entries since its connection began, that hearing first of all. It lasts to its end. In the block in
-- which a connection begins the session before it still stands.
abbrev pub session : List Seen → Option (List Seen)
session [] = None
session (Heard at event ∷ past) = with_seen (Heard at event) (session_behind (arriving past) (session past))
session (Did act taken ∷ past) = with_act act taken (session past)

-- the session that the next hearing finds
abbrev pub next_session : List Seen → Option (List Seen)
next_session past = session_behind (arriving past) (session past)

-- all bytes that came for a session, in the order in which they came
abbrev pub brought : Event → List ℕ
brought (Bytes bytes) = bytes
brought (Came token) = []
brought Gone = []
brought (Datagram bytes) = []
brought (Plant event) = []
brought Clock = []
brought Over = []

abbrev pub stream : List Seen → List ℕ
stream [] = []
stream (Heard at event ∷ es) = stream es ++ brought event
stream (Did act taken ∷ es) = stream es

-- the replies of a session, the newest first, each as its bytes
abbrev pub with_reply : Act → List (List ℕ) → List (List ℕ)
with_reply (Send bytes) replies = bytes ∷ replies
with_reply (Give order) replies = replies
with_reply (Answer bytes) replies = replies
with_reply (End cause) replies = replies

abbrev pub replies : List Seen → List (List ℕ)
replies [] = []
replies (Heard at event ∷ es) = replies es
replies (Did act taken ∷ es) = with_reply act (replies es)

-- a reply waits: a taken Close stands after the last reply
abbrev pub waits_behind_order : Order → Bool → Bool → Bool
waits_behind_order order.Close true waits = true
waits_behind_order order.Close false waits = waits
waits_behind_order order.Open taken waits = waits
waits_behind_order (order.Limits voltage current watts) taken waits = waits

abbrev pub waits_behind : Act → Bool → Bool → Bool
waits_behind (Give order) taken waits = waits_behind_order order taken waits
waits_behind (Send bytes) taken waits = false
waits_behind (Answer bytes) taken waits = waits
waits_behind (End cause) taken waits = waits

abbrev pub waits : List Seen → Bool
waits [] = false
waits (Heard at event ∷ es) = waits es
waits (Did act taken ∷ es) = waits_behind act taken (waits es)

-- the moments of a session: that of its connection, of its last reply, and of its last taken Close
abbrev pub came_at : List Seen → ℕ
came_at [] = 0
came_at (Heard at event ∷ []) = at
came_at (Heard at event ∷ (e ∷ es)) = came_at (e ∷ es)
came_at (Did act taken ∷ es) = came_at es

abbrev pub token_of : Event → ℕ
token_of (Came token) = token
token_of (Bytes bytes) = 0
token_of Gone = 0
token_of (Datagram bytes) = 0
token_of (Plant event) = 0
token_of Clock = 0
token_of Over = 0

-- the token of the connection
abbrev pub token : List Seen → ℕ
token [] = 0
token (Heard at event ∷ []) = token_of event
token (Heard at event ∷ (e ∷ es)) = token (e ∷ es)
token (Did act taken ∷ es) = token es

abbrev pub moment_of_reply : Act → ℕ → ℕ → ℕ
moment_of_reply (Send bytes) at before = at
moment_of_reply (Give order) at before = before
moment_of_reply (Answer bytes) at before = before
moment_of_reply (End cause) at before = before

abbrev pub replied_at : List Seen → ℕ
replied_at [] = 0
replied_at (Heard at event ∷ es) = replied_at es
replied_at (Did act taken ∷ es) = moment_of_reply act (now es) (replied_at es)

abbrev pub moment_of_order : Order → Bool → ℕ → ℕ → ℕ
moment_of_order order.Close true at before = at
moment_of_order order.Close false at before = before
moment_of_order order.Open taken at before = before
moment_of_order (order.Limits voltage current watts) taken at before = before

abbrev pub moment_of_close : Act → Bool → ℕ → ℕ → ℕ
moment_of_close (Give order) taken at before = moment_of_order order taken at before
moment_of_close (Send bytes) taken at before = before
moment_of_close (Answer bytes) taken at before = before
moment_of_close (End cause) taken at before = before

abbrev pub closed_at : List Seen → ℕ
closed_at [] = 0
closed_at (Heard at event ∷ es) = closed_at es
closed_at (Did act taken ∷ es) = moment_of_close act taken (now es) (closed_at es)
