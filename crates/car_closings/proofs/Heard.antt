-- What a hearing is for the session of a car: what came goes behind its stream.
use Rattle.std.proofs.Common.{◌≡◌, ℕ, Bool, true, false, ◌||◌, if◌then◌else◌, List, [], ◌∷◌, ◌++◌, refl, sym, append-nil, arith}
use Rattle.charge_world.specs.declared.entry.Entry.{Entry}
use Rattle.charge_world.specs.declared.entry.Entry.TheVariants as entry
use Rattle.charge_world.specs.declared.heard.What.{What}
use Rattle.charge_world.specs.declared.heard.What.TheVariants as what
use Rattle.charge_world.specs.Outside.{IsPost, IsOfPosts}
use Rattle.post_spec.specs.Sessions.{brought}
use Rattle.post_spec.specs.Steps.{Event, Came, event_at}
use Rattle.car_spec.specs.Past.{came, stream}

one_post : (k : ℕ) → IsPost 1 k → k ≡ 1
one_post k h = omega arith

abbrev pub heard_as : ℕ → What → List ℕ → Entry
heard_as at w bytes = entry.Heard (record { at = at; what = w }) bytes

or_came : (b c : Bool) → c ≡ true → (b || c) ≡ true
or_came true c e = refl
or_came false c e = e

pub came_stays : (at : ℕ) (w : What) (bytes : List ℕ) (past : List Entry) → came past ≡ true → came (heard_as at w bytes ∷ past) ≡ true
came_stays at w bytes past h = or_came _ (came past) h

same : (bytes : List ℕ) → bytes ≡ bytes ++ []
same bytes = sym (append-nil bytes)

piece : (b : Bool) (bytes more : List ℕ) → b ≡ true → (if b then bytes ++ more else []) ≡ bytes ++ more
piece true bytes more e = refl
piece false bytes more e = cc

-- of a session that lives the stream goes on
pub stream_heard : (at : ℕ) (w : What) (bytes : List ℕ) (past : List Entry) → IsOfPosts 1 w → came past ≡ true
    → stream (heard_as at w bytes ∷ past) ≡ stream past ++ brought (event_at 1 w bytes)
stream_heard at (what.Came k token) bytes past o h = rw (one_post k o) (same (stream past))
stream_heard at (what.Bytes k n) bytes past o h = rw (one_post k o) (piece (came past) (stream past) bytes h)
stream_heard at (what.Gone k) bytes past o h = rw (one_post k o) (same (stream past))
stream_heard at (what.Datagram k n) bytes past o h = rw (one_post k o) (same (stream past))
stream_heard at (what.Plant k event) bytes past o h = rw (one_post k o) (same (stream past))
stream_heard at what.Tick bytes past o h = same (stream past)
stream_heard at what.Over bytes past o h = same (stream past)

-- before the first connection nothing comes for a session
abbrev pub IsCame : Event → Type 0
IsCame (Came token) = Unit {0}
IsCame other = ⊥

unopened : (b : Bool) (bytes : List ℕ) → b ≡ false → (if b then bytes else []) ≡ []
unopened true bytes e = cc
unopened false bytes e = refl

pub record StillNone (arrived : Bool) (bytes : List ℕ) : Type 0 where
  pub not_came : arrived ≡ false
  pub no_stream : bytes ≡ []

pub still_none : (at : ℕ) (w : What) (bytes : List ℕ) (past : List Entry) → IsOfPosts 1 w → (IsCame (event_at 1 w bytes) → ⊥) → StillNone (came past) (stream past)
    → StillNone (came (heard_as at w bytes ∷ past)) (stream (heard_as at w bytes ∷ past))
still_none at (what.Came k token) bytes past o n h = absurd (n (rw (one_post k o) tt))
still_none at (what.Bytes k m) bytes past o n h = record { not_came = h.not_came; no_stream = unopened (came past) _ h.not_came }
still_none at (what.Gone k) bytes past o n h = record { not_came = h.not_came; no_stream = h.no_stream }
still_none at (what.Datagram k m) bytes past o n h = record { not_came = h.not_came; no_stream = h.no_stream }
still_none at (what.Plant k event) bytes past o n h = record { not_came = h.not_came; no_stream = h.no_stream }
still_none at what.Tick bytes past o n h = record { not_came = h.not_came; no_stream = h.no_stream }
still_none at what.Over bytes past o n h = record { not_came = h.not_came; no_stream = h.no_stream }

-- the first connection
pub record Arrived (arrived : Bool) (bytes : List ℕ) : Type 0 where
  pub came_is : arrived ≡ true
  pub no_stream : bytes ≡ []

pub arrives : (at : ℕ) (w : What) (bytes : List ℕ) (past : List Entry) → IsOfPosts 1 w → IsCame (event_at 1 w bytes) → StillNone (came past) (stream past)
    → Arrived (came (heard_as at w bytes ∷ past)) (stream (heard_as at w bytes ∷ past))
arrives at (what.Came k token) bytes past o c h = record { came_is = refl; no_stream = h.no_stream }
arrives at (what.Bytes k n) bytes past o c h = absurd (rw (one_post k o) at c)
arrives at (what.Gone k) bytes past o c h = absurd (rw (one_post k o) at c)
arrives at (what.Datagram k n) bytes past o c h = absurd (rw (one_post k o) at c)
arrives at (what.Plant k event) bytes past o c h = absurd (rw (one_post k o) at c)
arrives at what.Tick bytes past o c h = absurd c
arrives at what.Over bytes past o c h = absurd c
