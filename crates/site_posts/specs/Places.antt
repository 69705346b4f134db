-- Own: the posts of a site in memory: each is its plan, the state of its steps, and what they count to.
use Rattle.std.specs.Prelude.{◌≡◌, ◌<◌, ℕ, ◌+◌, ◌-◌, ◌^◌, bit_or, min, Bool, ◌&&◌, if◌then◌else◌, List, ◌∷◌, ◌++◌, length, map, take, drop, replicate, slice_index_or, Option}
use Rattle.std.specs.List.{sum_by}
use Rattle.charge_world.specs.declared.heard.What.{What}
use Rattle.power_share.specs.Sharing.{Sharing, IsLevel}
use Rattle.post_spec.specs.Steps.{Event, Came, Bytes, Gone, Datagram, Plant, Clock, Over, Act, Give, Send, Answer, End, Reading, Step, event_at, seen_of}
use Rattle.station_spec.specs.Sharing.{Post, state_of, asked_in, told_in}
use Rattle.station_spec.specs.Judging.{filled}
use Rattle.station_spec.specs.Hearing.{hearing}
use Rattle.station_spec.specs.Acting.{acted}
use Rattle.station_spec.specs.Next.{IsQuiet}
use Rattle.station_spec.specs.Until.{due_behind}
use Rattle.station_spec.specs.Report.{sessions, is_close, closed, causes}
use Rattle.site_posts.specs.declared.place.Place.{Place}
use Rattle.site_posts.specs.declared.report.PostReport.{PostReport}

-- a count stands still at the end of its type
abbrev pub capped : ℕ → ℕ
capped n = min n (2 ^ 64 - 1)

abbrev pub report_of : List Step → PostReport
report_of steps = record {
  sessions = capped (sessions (map seen_of steps));
  closed = capped (closed (map seen_of steps));
  causes = record { 0 = causes (map seen_of steps) };
}

abbrev pub place_of : Post → Place
place_of post = record { plan = post.plan; post = state_of post; report = report_of post.steps }

-- a hearing
abbrev pub heard_report : Event → PostReport → PostReport
heard_report (Came token) r = record r { sessions = capped (r.sessions + 1) }
heard_report (Bytes bytes) r = r
heard_report Gone r = r
heard_report (Datagram bytes) r = r
heard_report (Plant event) r = r
heard_report Clock r = r
heard_report Over r = r

abbrev pub heard_place : ℕ → ℕ → What → List ℕ → Place → Place
heard_place k at what bytes p = record {
  plan = p.plan;
  post = hearing at (event_at k what bytes) p.post;
  report = heard_report (event_at k what bytes) p.report;
}

abbrev pub HeardAll : ℕ → What → List ℕ → List Place → List Place → Type 0
HeardAll at what bytes old new = (j : ℕ) (d : Place) → j < length old → slice_index_or new j d ≡ heard_place (j + 1) at what bytes (slice_index_or old j d)

-- an act, taken or failed
abbrev pub acted_report : Act → Bool → PostReport → PostReport
acted_report (Give order) taken r = record r { closed = if is_close order && taken then capped (r.closed + 1) else r.closed }
acted_report (Send bytes) taken r = r
acted_report (Answer bytes) taken r = r
acted_report (End cause) taken r = record r { causes = record { 0 = bit_or r.causes.0 (2 ^ cause) } }

abbrev pub done_place : Act → Bool → Place → Place
done_place act taken p = record { plan = p.plan; post = acted act taken p.post; report = acted_report act taken p.report }

abbrev pub filled_place : Option Reading → Place → Place
filled_place reading p = record p { post = filled p.plan reading p.post }

-- what the posts ask for and were told
abbrev pub asked_at : Place → ℕ
asked_at p = asked_in p.post.session

abbrev pub told_at : Place → ℕ
told_at p = told_in p.post.session

-- what a post at place i is shown that asks for these watts
pub record Shares (limit : ℕ) (places : List Place) (i asked shown : ℕ) : Type 0 where
  pub level : ℕ
  pub is_level : IsLevel limit (map asked_at (take i places) ++ asked ∷ map asked_at (drop (i + 1) places)) level
  pub least : shown ≡ min (min asked level) (limit - (sum_by told_at (take i places) + sum_by told_at (drop (i + 1) places)))

abbrev pub due_at : Place → ℕ
due_at p = due_behind p.post

-- a post has nothing to do
abbrev pub RestsAt : Place → Type 0
RestsAt p = IsQuiet p.plan p.post

-- the first n posts ask for what they do, the others and the places behind for nothing, and none was told watts
abbrev pub asks_so_far : List Place → ℕ → List ℕ
asks_so_far places n = map asked_at (take n places) ++ replicate (8 - n) 0

abbrev pub AsksOf : ℕ → List Place → ℕ → Sharing → Type 0
AsksOf limit places n s = s ≡ record { limit = limit; posts = length places; asks = asks_so_far places n; told = replicate 8 0 }
