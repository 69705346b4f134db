-- ISO 15118-2:2014, section 8.7: an example of two posts. A hearing at post 2 is also the moment at which post 1 is due.
use Rattle.std.specs.Prelude.{◌≡◌, ℕ, Bool, true, List, [], ◌∷◌, Some, None}
use Rattle.charge_world.specs.declared.entry.Entry.{Entry}
use Rattle.charge_world.specs.declared.entry.Entry.TheVariants as entry
use Rattle.charge_world.specs.declared.heard.What.TheVariants as what
use Rattle.charge_world.specs.declared.offer.Dialect.TheVariants.{Iso}
use Rattle.session_words.specs.declared.plan.SitePlan.{SitePlan}
use Rattle.v2gtp_frames.specs.Frames.{frame}
use Rattle.post_spec.specs.Codecs.{Codecs, Negotiated}
use Rattle.post_spec.specs.Spelled.{AreDetermined}
use Rattle.post_spec.specs.Steps.{Came, Bytes, Clock, End, Step, Hears, Does}
use Rattle.station_spec.specs.Sharing.{Post}
use Rattle.station_spec.specs.Runs.{Follows, IsRun}
use Rattle.station_examples.specs.Fixtures.{dc_post}

abbrev pub site : SitePlan
site = record { limit = 50000; turns = 100; sessions = 10; post = record { items = dc_post ∷ dc_post ∷ [] } }

-- A car connects to post 1 at 0, another one to post 2 at 10,000. At 18,000 post 1 has waited too long for SessionSetup,
-- and the first payload comes at post 2.
abbrev pub past : List Entry
past =
    entry.Heard (record { at = 18000; what = what.Bytes 2 8 }) (frame []) ∷
    entry.Heard (record { at = 10000; what = what.Came 2 2 }) [] ∷
    entry.Heard (record { at = 0; what = what.Came 1 1 }) [] ∷ []

-- what each post went by
abbrev pub waited : List Step
waited = Hears 18000 Clock ∷ Hears 10000 Clock ∷ Hears 0 (Came 1) ∷ []

abbrev pub spoken : List Step
spoken = Hears 18000 (Bytes (frame [])) ∷ Hears 10000 (Came 2) ∷ Hears 0 Clock ∷ []

abbrev pub post_of : List Step → Post
post_of steps = record { plan = dc_post; steps = steps }

-- Setup timeout is cause 7
abbrev pub ended : List Step
ended = Does None (End 7) true ∷ waited

pub record DeadlineGoesFirst (c : Codecs) : Type 0 where
  -- the three hearings are a run
  pub run : IsRun c site past (post_of waited ∷ post_of spoken ∷ [])
  -- nothing but the end of the session at post 1 follows
  pub ends : (e : Entry) (later : List Post) → Follows c site past (post_of waited ∷ post_of spoken ∷ []) e later
      → (e ≡ entry.Ended 1 7) × (later ≡ post_of ended ∷ post_of spoken ∷ [])
  -- and then nothing but the reply of post 2
  pub answers : (response : List ℕ) (e : Entry) (later : List Post) → AreDetermined c
      → c.Negotiates dc_post.dialects.items [] (Negotiated (Some Iso) response)
      → Follows c site (entry.Ended 1 7 ∷ past) (post_of ended ∷ post_of spoken ∷ []) e later
      → (taken : Bool) × (e ≡ entry.Sent 2 (frame response) taken)
