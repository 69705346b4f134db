-- Own: which step an entry is for a post, and what is told of it.
use Rattle.std.specs.Prelude.{◌≡◌, ℕ, max, ◌==◌, Bool, true, List, ◌∷◌, Option, None, MatchBool}
use Rattle.charge_world.specs.declared.entry.Entry.{Entry}
use Rattle.charge_world.specs.declared.entry.Entry.TheVariants as entry
use Rattle.charge_world.specs.declared.ports.Order.{Order}
use Rattle.session_words.specs.declared.plan.PostPlan.{PostPlan}
use Rattle.post_spec.specs.Steps.{Give, Answer, End, Reading, moment, event_at}
use Rattle.told_pasts.specs.Spelling.{ToldCodecs}
use Rattle.told_pasts.specs.Steps.{Said, ToldStep, Hears, Does, Sends}
use Rattle.audit_course.specs.Values.{said_as, IsRead, IsNextWord}
use Rattle.audit_posts.specs.declared.stepping.About.{About}
use Rattle.audit_posts.specs.Values.{IsMost}

pub record HearsSo (c : ToldCodecs) (plan : PostPlan) (a : About) (step : ToldStep) (steps later : List ToldStep) : Type 0 where
  pub later_is : later ≡ step ∷ steps
  pub next : IsNextWord c plan (step ∷ steps) a.next

pub record SendsSo (c : ToldCodecs) (plan : PostPlan) (a : About) (bytes : List ℕ) (taken : Bool) (steps later : List ToldStep) : Type 0 where
  pub reading : Option Reading
  pub said : Said
  pub read : IsRead a.judged a.shown reading
  pub says : a.saying ≡ said_as said
  pub most : IsMost plan said a.most
  pub later_is : later ≡ Sends reading bytes taken said ∷ steps
  pub next : IsNextWord c plan (Sends reading bytes taken said ∷ steps) a.next

pub record DrivesSo (c : ToldCodecs) (plan : PostPlan) (a : About) (given : Order) (taken : Bool) (steps later : List ToldStep) : Type 0 where
  pub reading : Option Reading
  pub read : IsRead a.judged a.shown reading
  pub later_is : later ≡ Does reading (Give given) taken ∷ steps
  pub next : IsNextWord c plan (Does reading (Give given) taken ∷ steps) a.next

-- the steps of post k behind an entry, of which this is told
abbrev pub StepIs : ToldCodecs → PostPlan → ℕ → List Entry → List ToldStep → About → Entry → List ToldStep → Type 0
StepIs c plan k past steps a (entry.Heard heard bytes) later = HearsSo c plan a (Hears (max (moment past) heard.at) (event_at k heard.what bytes)) steps later
StepIs c plan k past steps a entry.Lost later = later ≡ steps
StepIs c plan k past steps a (entry.Sent post bytes taken) later = MatchBool (post == k) (SendsSo c plan a bytes taken steps later) (later ≡ steps)
StepIs c plan k past steps a (entry.Answered post bytes taken) later = MatchBool (post == k) (later ≡ Does None (Answer bytes) taken ∷ steps) (later ≡ steps)
StepIs c plan k past steps a (entry.Drove post given taken) later = MatchBool (post == k) (DrivesSo c plan a given taken steps later) (later ≡ steps)
StepIs c plan k past steps a (entry.Dialed port taken) later = later ≡ steps
StepIs c plan k past steps a (entry.Ended post cause) later = MatchBool (post == k) (later ≡ Does None (End cause) true ∷ steps) (later ≡ steps)
