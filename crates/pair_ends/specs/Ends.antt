-- Own: what each end keeps, what it does next, and what that leaves. All that is done is taken.
use Rattle.std.specs.Prelude.{◌≡◌, ℕ, ◌+◌, ◌≤◌, Bool, true, false, List, [], ◌++◌, length, Option, Some, None, ◌⊎◌}
use Rattle.charge_world.specs.declared.offer.Dialect.{Dialect}
use Rattle.session_words.specs.declared.plan.CarPlan.{CarPlan}
use Rattle.session_words.specs.declared.plan.PostPlan.{PostPlan}
use Rattle.session_words.specs.declared.word.Word.{Word}
use Rattle.plant_sim.specs.Charger.{Charger, came, ordered}
use Rattle.post_spec.specs.Codecs.{Codecs}
use Rattle.post_spec.specs.Steps.{Event, Came, Act, Give, Send, Answer, End, Reading}
use Rattle.station_spec.specs.States as states
use Rattle.station_spec.specs.Acting.{acted}
use Rattle.station_spec.specs.Hearing.{hearing}
use Rattle.station_spec.specs.Judging.{filled}
use Rattle.station_spec.specs.Next.{IsQuiet, Acts}
use Rattle.station_spec.specs.Sharing.{Shows}
use Rattle.site_codec.specs.Replies.{IsPlan}
use Rattle.site_posts.specs.declared.place.Place.{Place}
use Rattle.site_posts.specs.Filling.{at}
use Rattle.site_posts.specs.Sound.{IsSound}
use Rattle.car_spec.specs.Codecs as car
use Rattle.car_spec.specs.Codecs.{Judged, Judges}
use Rattle.car_spec.specs.Acting as car_acting
use Rattle.car_spec.specs.Deciding.{decided}
use Rattle.car_spec.specs.Hearing as car_hearing
use Rattle.car_spec.specs.Judging as car_judging
use Rattle.car_spec.specs.Judging.{Payload, wanted}
use Rattle.car_spec.specs.Next as car_next
use Rattle.car_spec.specs.States as car_states
use Rattle.car_spec.specs.States.{State}
use Rattle.car_spec.specs.Steps as car_steps
use Rattle.car_acts.specs.declared.driver.Driver.{Driver}
use Rattle.pipe_spec.specs.Histories.{station_says, car_says}
use Rattle.pair_ends.specs.declared.end.PostEnd.{PostEnd}
use Rattle.pair_ends.specs.declared.end.CarEnd.{CarEnd}
use Rattle.pair_ends.specs.declared.tallies.PostTally.{PostTally}
use Rattle.pair_ends.specs.declared.tallies.CarTally.{CarTally}
use Rattle.pair_ends.specs.Tallies.{post_begun, post_heard, post_did, car_begun, car_heard, car_read, car_did}

-- what the station's end keeps of its post
pub record PostSide : Type 0 where
  pub plan : PostPlan
  pub post : states.State
  pub limit : ℕ
  pub charger : Charger
  pub tally : PostTally

-- the post
abbrev pub place_in : PostEnd → Place
place_in end = at end.places.items 0

abbrev pub post_side : PostEnd → PostSide
post_side end = record {
  plan = (place_in end).plan;
  post = (place_in end).post;
  limit = end.limit;
  charger = end.charger;
  tally = end.tally;
}

-- what the car's end keeps
pub record CarSide : Type 0 where
  pub plan : CarPlan
  pub car : State
  pub tally : CarTally

abbrev pub side_by : Driver → CarTally → CarSide
side_by driver tally = record { plan = driver.plan; car = driver.car; tally = tally }

abbrev pub car_side : CarEnd → CarSide
car_side end = side_by end.driver end.tally

-- a hearing at the post, and a car that comes there
abbrev pub post_heard_at : ℕ → Event → PostSide → PostSide
post_heard_at now event p = record p { post = hearing now event p.post; tally = post_heard p.tally }

abbrev pub post_came_at : ℕ → PostSide → PostSide
post_came_at now p = record p { post = hearing now (Came 1) p.post; charger = came p.charger now; tally = post_begun p.tally }

-- a hearing of the car, and its coming
abbrev pub car_heard_at : ℕ → Event → CarSide → CarSide
car_heard_at now event s = record s { car = car_hearing.hearing now event s.car; tally = car_heard s.tally }

abbrev pub car_came_at : ℕ → CarSide → CarSide
car_came_at now s = record s { car = car_hearing.hearing now (Came 1) car_states.fresh; tally = car_begun }

-- the charger behind an act of its post
abbrev pub charger_behind : Act → ℕ → Charger → Charger
charger_behind (Give order) now charger = ordered charger order now
charger_behind (Send bytes) now charger = charger
charger_behind (Answer bytes) now charger = charger
charger_behind (End cause) now charger = charger

-- what is said goes behind what is under way, where all of it has room
abbrev pub IsSent : List ℕ → List ℕ → List ℕ → Type 0
IsSent bytes way new = length way + length bytes ≤ 1032 → new ≡ way ++ bytes

-- what the post keeps of an act, for which it read so
abbrev pub post_acted : Option Reading → Act → ℕ → PostSide → PostSide
post_acted reading act now p = record p {
  post = acted act true (filled p.plan reading p.post);
  charger = charger_behind act now p.charger;
  tally = post_did act p.tally;
}

-- what the post did
pub record PostDoes (c : Codecs) (now : ℕ) (p : PostSide) (way : List ℕ) (new : PostSide) (way_new : List ℕ) : Type 0 where
  pub reading : Option Reading
  pub act : Act
  pub acts : Acts c p.plan (Shows p.limit [] []) p.post reading act true
  pub new_is : new ≡ post_acted reading act now p
  pub short : length (station_says act) ≤ 1032
  pub sent : IsSent (station_says act) way way_new

-- the post has nothing to do
pub record PostRests (p : PostSide) (way : List ℕ) (new : PostSide) (way_new : List ℕ) : Type 0 where
  pub rests : IsQuiet p.plan p.post
  pub new_is : new ≡ p
  pub way_is : way_new ≡ way

-- the station's codecs can spell what the post says
abbrev pub IsReadySide : (Dialect → List ℕ → Option Word → Type 0) → PostSide → Type 0
IsReadySide Reads p = IsPlan p.plan × IsSound Reads p.plan p.post

-- a word that the car read
pub record CarReadsOne (c : car.Codecs) (s : CarSide) (way : List ℕ) (new : CarSide) (way_new : List ℕ) : Type 0 where
  pub judged : Judged
  pub reads : car_next.MayRead c s.plan s.car judged
  pub new_is : new ≡ record s { car = car_judging.read s.plan (decided s.plan s.car) judged; tally = car_read judged s.tally }
  pub way_is : way_new ≡ way

-- what the car did
pub record CarDoesOne (c : car.Codecs) (s : CarSide) (way : List ℕ) (new : CarSide) (way_new : List ℕ) : Type 0 where
  pub act : car_steps.Act
  pub acts : car_next.MayAct c s.plan s.car act true
  pub new_is : new ≡ record s { car = car_acting.acted act true (decided s.plan s.car); tally = car_did act s.tally }
  pub short : length (car_says act) ≤ 1032
  pub sent : IsSent (car_says act) way way_new

abbrev pub CarGoes : car.Codecs → CarSide → List ℕ → CarSide → List ℕ → Type 0
CarGoes c s way new way_new = CarReadsOne c s way new way_new ⊎ CarDoesOne c s way new way_new

-- the car has nothing to do
pub record CarRests (s : CarSide) (way : List ℕ) (new : CarSide) (way_new : List ℕ) : Type 0 where
  pub rests : car_next.IsQuiet s.plan s.car
  pub new_is : new ≡ s
  pub way_is : way_new ≡ way

-- whether a word was read, behind what was decided
pub record ReadsOne (c : car.Codecs) (plan : CarPlan) (s : State) (t : CarTally) (new : State) (t_new : CarTally) : Type 0 where
  pub judged : Judged
  pub payload : Payload
  pub wanted_is : wanted s ≡ Some payload
  pub judges : Judges c plan.dialects.items payload.dialect payload.bytes judged
  pub new_is : new ≡ car_judging.read plan s judged
  pub tally_is : t_new ≡ car_read judged t

pub record ReadsNone (s : State) (t : CarTally) (new : State) (t_new : CarTally) : Type 0 where
  pub none : wanted s ≡ None
  pub new_is : new ≡ s
  pub tally_is : t_new ≡ t

abbrev pub ReadsWord : car.Codecs → CarPlan → State → CarTally → Bool → State → CarTally → Type 0
ReadsWord c plan s t true new t_new = ReadsOne c plan s t new t_new
ReadsWord c plan s t false new t_new = ReadsNone s t new t_new
