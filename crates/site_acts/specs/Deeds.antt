-- Own: how a post's act is done: with bytes that stand at the front of a room.
use Rattle.std.specs.Prelude.{◌≡◌, ◌≤◌, ℕ, Bool, true, List, length, take, slice_set, Option, Some, None}
use Rattle.session_words.specs.Causes.{number_of}
use Rattle.post_spec.specs.Codecs.{Codecs}
use Rattle.post_spec.specs.Steps.{Act, Reading}
use Rattle.post_spec.specs.Steps as steps
use Rattle.station_spec.specs.States.{first}
use Rattle.station_spec.specs.States as states
use Rattle.station_spec.specs.Deciding.{decided}
use Rattle.station_spec.specs.Judging.{wanted, IsRead}
use Rattle.station_spec.specs.Next.{IsSpoken}
use Rattle.site_posts.specs.declared.place.Place.{Place}
use Rattle.site_posts.specs.Filling.{at}
use Rattle.site_posts.specs.Places.{Shares, filled_place, RestsAt}
use Rattle.site_posts.specs.Sound.{IsSound}
use Rattle.site_acts.specs.declared.deeds.Deed.{Deed}
use Rattle.site_acts.specs.declared.deeds.Deed.TheVariants.{Answer, Give, Send, Finish}

abbrev pub act_of : List ℕ → Deed → Act
act_of room (Answer datagram) = steps.Answer datagram
act_of room (Give order) = steps.Give order
act_of room (Send n) = steps.Send (take n room)
act_of room (Finish cause) = steps.End (number_of cause)

-- the bytes that are sent are a frame in the room
abbrev pub IsFramed : Deed → Type 0
IsFramed (Send n) = (8 ≤ n) × (n ≤ 1032)
IsFramed (Answer datagram) = Unit {0}
IsFramed (Give order) = Unit {0}
IsFramed (Finish cause) = Unit {0}

-- the end of a session can't fail
abbrev pub MayTake : Deed → Bool → Type 0
MayTake (Finish cause) taken = taken ≡ true
MayTake (Send n) taken = Unit {0}
MayTake (Answer datagram) taken = Unit {0}
MayTake (Give order) taken = Unit {0}

-- the deed by which a thing is done
abbrev pub IsDeed : Codecs → List ℕ → states.Todo → Deed → Type 0
IsDeed c room (states.Tell datagram) (Answer told) = told ≡ datagram
IsDeed c room (states.Give order) (Give given) = given ≡ order
IsDeed c room (states.Say spoken) (Send n) = IsSpoken c spoken (take n room)
IsDeed c room (states.Finish cause) (Finish named) = named ≡ cause
IsDeed c room todo deed = ⊥

-- what was read for a deed, and what the post keeps
pub record NextDeed (c : Codecs) (limit : ℕ) (places : List Place) (i : ℕ) (room : List ℕ) (deed : Deed) (new : List Place) : Type 0 where
  pub reading : Option Reading
  pub is_read : IsRead c (at places i).plan (Shares limit places i) (decided (at places i).plan (at places i).post) (wanted (decided (at places i).plan (at places i).post)) reading
  pub todo : states.Todo
  pub first_is : first (filled_place reading (at places i)).post.agenda ≡ Some todo
  pub done : IsDeed c room todo deed
  pub framed : IsFramed deed
  pub new_is : new ≡ slice_set places i (filled_place reading (at places i))
  pub sound : IsSound c.Reads (at places i).plan (filled_place reading (at places i)).post

abbrev pub Nexts : Codecs → ℕ → List Place → ℕ → List ℕ → Option Deed → List Place → Type 0
Nexts c limit places i room None new = RestsAt (at places i) × (new ≡ places)
Nexts c limit places i room (Some deed) new = NextDeed c limit places i room deed new

-- the deed, where there is something to do
abbrev pub Prepares : Codecs → Option states.Todo → List ℕ → Option Deed → Type 0
Prepares c None room None = Unit {0}
Prepares c (Some todo) room (Some deed) = IsDeed c room todo deed × IsFramed deed
Prepares c todo room deed = ⊥
