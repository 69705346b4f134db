-- Own: what the three traits of the outside say of their calls.
use Rattle.std.specs.Prelude.{◌≡◌, ℕ, ◌<◌, ◌≤◌, ◌↔◌, List, [], ◌∷◌, ◌++◌, length, take, Option, IsErr, IsSomeAnd, IfSome, Result}
use Rattle.charge_world.specs.declared.entry.Entry.{Entry}
use Rattle.charge_world.specs.declared.heard.What.{What}
use Rattle.charge_world.specs.declared.heard.What.TheVariants.{Came, Bytes, Gone, Datagram, Plant, Tick, Over}
use Rattle.charge_world.specs.declared.ports.Ports.{Ports}
use Rattle.charge_world.specs.declared.ports.Ports.TheVariants.{Posts, Car}

-- the past has these entries on top (the newest first); where it is told now, it was told before
abbrev pub Grows : Option (List Entry) → Option (List Entry) → List Entry → Type 0
Grows before after entries = IfSome after (λ new. IsSomeAnd before (λ old. new ≡ entries ++ old))

abbrev pub GrowsByOne : Option (List Entry) → Option (List Entry) → Entry → Type 0
GrowsByOne before after e = IfSome after (λ new. IsSomeAnd before (λ old. new ≡ e ∷ old))

-- the bytes that came with what was heard: the first of the room
abbrev pub bytes_of : What → List ℕ → List ℕ
bytes_of (Bytes post n) room = take n room
bytes_of (Datagram post n) room = take n room
bytes_of (Came post token) room = []
bytes_of (Gone post) room = []
bytes_of (Plant post event) room = []
bytes_of Tick room = []
bytes_of Over room = []

abbrev pub IsPost : ℕ → ℕ → Type 0
IsPost posts k = (1 ≤ k) × (k ≤ posts)

-- an event of a post is of one that was started
abbrev pub IsOfPosts : ℕ → What → Type 0
IsOfPosts posts (Came k token) = IsPost posts k
IsOfPosts posts (Bytes k n) = IsPost posts k
IsOfPosts posts (Gone k) = IsPost posts k
IsOfPosts posts (Datagram k n) = IsPost posts k
IsOfPosts posts (Plant k event) = IsPost posts k
IsOfPosts posts Tick = Unit {0}
IsOfPosts posts Over = Unit {0}

-- a piece has 1 to 4,096 bytes, a datagram 0 to 4,096
abbrev pub HasCount : What → Type 0
HasCount (Bytes k n) = (1 ≤ n) × (n ≤ 4096)
HasCount (Datagram k n) = n ≤ 4096
HasCount (Came k token) = Unit {0}
HasCount (Gone k) = Unit {0}
HasCount (Plant k event) = Unit {0}
HasCount Tick = Unit {0}
HasCount Over = Unit {0}

-- how many posts are started
abbrev pub posts_of : Ports → ℕ
posts_of (Posts pairs sessions) = length pairs.items
posts_of (Car tcp sdp) = 1

-- the count of faults rises exactly where the call failed
pub record IsFault {T E : Type 0} (before after : ℕ) (result : Result T E) : Type 0 where
  pub later : before ≤ after
  pub risen : IsErr result ↔ (before < after)

-- these bytes came off the front of what was left, where that is told
abbrev pub Takes : Option (List ℕ) → Option (List ℕ) → List ℕ → Type 0
Takes before after bytes = IfSome after (λ rest. IsSomeAnd before (λ all. all ≡ bytes ++ rest))

-- no byte came, into a room that isn't empty, only where none was left
abbrev pub GoesOn : Option (List ℕ) → ℕ → ℕ → Type 0
GoesOn before room n = 0 < room → n ≡ 0 → IfSome before (λ all. all ≡ [])

-- the whole piece was taken, where that is told
abbrev pub Appends : Option (List ℕ) → Option (List ℕ) → List ℕ → Type 0
Appends before after piece = IfSome after (λ new. IsSomeAnd before (λ old. new ≡ old ++ piece))

-- a front of the piece was taken
abbrev pub AppendsSome : Option (List ℕ) → Option (List ℕ) → List ℕ → Type 0
AppendsSome before after piece =
    IfSome after (λ new. IsSomeAnd before (λ old. (front : List ℕ) × (rest : List ℕ) × (piece ≡ front ++ rest) × (new ≡ old ++ front)))
