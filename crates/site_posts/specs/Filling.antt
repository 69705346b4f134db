-- Own: what a post decides, with the word that is read for it.
use Rattle.std.specs.Prelude.{◌≡◌, ◌≤◌, ℕ, List, [], length, slice_set, slice_index_or, false, Option, Some, None}
use Rattle.charge_world.specs.declared.offer.Dialect.{Dialect}
use Rattle.session_words.specs.declared.mode.Mode.TheVariants.{DcExtended}
use Rattle.session_words.specs.declared.plan.PostPlan.{PostPlan}
use Rattle.post_spec.specs.Codecs.{Judged, Negotiated, Asked, WrongSide, Refused, Codecs, Judges}
use Rattle.post_spec.specs.Steps.{Reading}
use Rattle.station_spec.specs.States.{fresh}
use Rattle.station_spec.specs.Deciding.{decided}
use Rattle.station_spec.specs.Judging.{Payload, wanted, read, IsRead}
use Rattle.site_posts.specs.declared.place.Place.{Place}
use Rattle.site_posts.specs.Sound.{IsSound}
use Rattle.site_posts.specs.Places.{Shares, filled_place}

-- a plan without a place
abbrev pub no_plan : PostPlan
no_plan = record {
  tcp = 0;
  sdp = 0;
  mode = DcExtended;
  dialects = record { items = [] };
  evse_id = [];
  evse_id_din = record { items = [] };
  free = false;
  max_watts = 0;
  max_voltage = 0;
  min_voltage = 0;
  max_current = 0;
  min_current = 0;
  ripple = 0;
  nominal = 0;
}

abbrev pub no_place : Place
no_place = record { plan = no_plan; post = fresh; report = record { sessions = 0; closed = 0; causes = record { 0 = 0 } } }

-- the post at a place, the first at 0
abbrev pub at : List Place → ℕ → Place
at places i = slice_index_or places i no_place

abbrev pub decided_place : Place → Place
decided_place p = record p { post = decided p.plan p.post }

abbrev pub word_place : Judged → ℕ → Place → Place
word_place judged shown p = record p { post = read p.plan p.post (Some (record { judged = judged; shown = shown })) }

-- a response is short
abbrev pub IsShort : Judged → Type 0
IsShort (Negotiated chosen response) = length response ≤ 4
IsShort (Asked r) = Unit {0}
IsShort WrongSide = Unit {0}
IsShort Refused = Unit {0}

-- a payload is judged exactly where one is wanted
abbrev pub JudgesFor : Codecs → List Dialect → Option Payload → Option Judged → Type 0
JudgesFor c offers None None = Unit {0}
JudgesFor c offers None (Some judged) = ⊥
JudgesFor c offers (Some payload) None = ⊥
JudgesFor c offers (Some payload) (Some judged) = Judges c offers payload.dialect payload.bytes judged × IsShort judged

-- what was read, if a word was wanted, and that the post at place i kept it
pub record Reads (c : Codecs) (limit : ℕ) (places : List Place) (i : ℕ) (new : List Place) : Type 0 where
  pub reading : Option Reading
  pub is_read : IsRead c (at places i).plan (Shares limit places i) (at places i).post (wanted (at places i).post) reading
  pub new_is : new ≡ slice_set places i (record (at places i) { post = read (at places i).plan (at places i).post reading })
  pub sound : IsSound c.Reads (at places i).plan (read (at places i).plan (at places i).post reading)

pub record Fills (c : Codecs) (limit : ℕ) (places : List Place) (i : ℕ) (new : List Place) : Type 0 where
  pub reading : Option Reading
  pub is_read : IsRead c (at places i).plan (Shares limit places i) (decided (at places i).plan (at places i).post) (wanted (decided (at places i).plan (at places i).post)) reading
  pub new_is : new ≡ slice_set places i (filled_place reading (at places i))
  pub sound : IsSound c.Reads (at places i).plan (filled_place reading (at places i)).post
