-- Own: a past as one post sees it. This is the one place in which the entries of all posts are told apart. Pasts have their newest
-- entry first.
use Rattle.std.specs.Prelude.{ℕ, max, Bool, true, ◌==◌, if◌then◌else◌, List, [], ◌∷◌, Option}
use Rattle.charge_world.specs.declared.entry.Entry.{Entry}
use Rattle.charge_world.specs.declared.entry.Entry.TheVariants as entry
use Rattle.charge_world.specs.declared.heard.PlantEvent.{PlantEvent}
use Rattle.charge_world.specs.declared.heard.What.{What}
use Rattle.charge_world.specs.declared.heard.What.TheVariants as what
use Rattle.charge_world.specs.declared.ports.Order.{Order}
use Rattle.post_spec.specs.Codecs.{Judged}

-- what a hearing is for one post: one at another post is a look at the clock
pub data Event : Type 0 where
  Came : (token : ℕ) → Event
  Bytes : (bytes : List ℕ) → Event
  Gone : Event
  Datagram : (bytes : List ℕ) → Event
  Plant : (event : PlantEvent) → Event
  Clock : Event
  Over : Event

-- what a post does: an order to its charger, bytes on the connection, a datagram, the end of the session
pub data Act : Type 0 where
  Give : (order : Order) → Act
  Send : (bytes : List ℕ) → Act
  Answer : (bytes : List ℕ) → Act
  End : (cause : ℕ) → Act

-- what is seen of one post: a hearing, at the greatest moment heard so far, so that a clock that goes back stands still; or an act,
-- taken or failed
pub data Seen : Type 0 where
  Heard : (at : ℕ) (event : Event) → Seen
  Did : (act : Act) (taken : Bool) → Seen

-- what the word of an act was judged as, and the watts that it was shown: 0 where it is shown none
pub record Reading : Type 0 where
  pub judged : Judged
  pub shown : ℕ

-- what a post goes by: a hearing, or an act and what was read for it, where a word was
pub data Step : Type 0 where
  Hears : (at : ℕ) (event : Event) → Step
  Does : (reading : Option Reading) (act : Act) (taken : Bool) → Step

abbrev pub seen_of : Step → Seen
seen_of (Hears at event) = Heard at event
seen_of (Does reading act taken) = Did act taken

-- the greatest moment heard
abbrev pub moment : List Entry → ℕ
moment [] = 0
moment (entry.Heard heard bytes ∷ past) = max (moment past) heard.at
moment (entry.Lost ∷ past) = moment past
moment (entry.Sent post bytes taken ∷ past) = moment past
moment (entry.Answered post bytes taken ∷ past) = moment past
moment (entry.Drove post order taken ∷ past) = moment past
moment (entry.Dialed port taken ∷ past) = moment past
moment (entry.Ended post cause ∷ past) = moment past

-- what a hearing with these bytes is for post k
abbrev pub event_at : ℕ → What → List ℕ → Event
event_at k (what.Came post token) bytes = if post == k then Came token else Clock
event_at k (what.Bytes post n) bytes = if post == k then Bytes bytes else Clock
event_at k (what.Gone post) bytes = if post == k then Gone else Clock
event_at k (what.Datagram post n) bytes = if post == k then Datagram bytes else Clock
event_at k (what.Plant post event) bytes = if post == k then Plant event else Clock
event_at k what.Tick bytes = Clock
event_at k what.Over bytes = Over

-- a past as post k sees it: each hearing, and its own acts
abbrev pub seen : ℕ → List Entry → List Seen
seen k [] = []
seen k (entry.Heard heard bytes ∷ past) = Heard (max (moment past) heard.at) (event_at k heard.what bytes) ∷ seen k past
seen k (entry.Lost ∷ past) = seen k past
seen k (entry.Sent post bytes taken ∷ past) = if post == k then Did (Send bytes) taken ∷ seen k past else seen k past
seen k (entry.Answered post bytes taken ∷ past) = if post == k then Did (Answer bytes) taken ∷ seen k past else seen k past
seen k (entry.Drove post order taken ∷ past) = if post == k then Did (Give order) taken ∷ seen k past else seen k past
seen k (entry.Dialed port taken ∷ past) = seen k past
seen k (entry.Ended post cause ∷ past) = if post == k then Did (End cause) true ∷ seen k past else seen k past
