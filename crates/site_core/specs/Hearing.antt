-- Own: when a site may hear.
use Rattle.std.specs.Prelude.{ℕ, ◌≤◌, List, All, length, Option}
use Rattle.charge_world.specs.declared.offer.Dialect.{Dialect}
use Rattle.session_words.specs.declared.word.Word.{Word}
use Rattle.site_posts.specs.declared.place.Place.{Place}
use Rattle.site_posts.specs.Places.{RestsAt}
use Rattle.site_acts.specs.Serving.{IsReady}

-- there are at most eight posts, each can say what it has to, and none has anything left to do
pub record MayHear (Reads : Dialect → List ℕ → Option Word → Type 0) (places : List Place) : Type 0 where
  pub few : length places ≤ 8
  pub ready : All (IsReady Reads) places
  pub quiet : All RestsAt places
