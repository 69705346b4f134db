-- ISO 15118-2:2014, section 8.8.4: what bytes say that were sent in a foreign trace, as it is kept.
use Rattle.std.specs.Prelude.{◌≡◌, ◌↔◌, ℕ, Bool, List, IsTrue}
use Rattle.session_words.specs.declared.plan.PostPlan.{PostPlan}
use Rattle.post_spec.specs.Steps.{Seen}
use Rattle.told_pasts.specs.Reading.{IsSaid}
use Rattle.told_pasts.specs.Spelling.{ToldCodecs, AreTold}
use Rattle.told_pasts.specs.Steps.{Said, Response, Replied, Other, Unasked}
use Rattle.audit_course.specs.Values.{said_as}
use Rattle.audit_posts.specs.Values.{IsMost}
use Rattle.audit_streams.specs.declared.reader.ToldWatts.{ToldWatts}
use Rattle.audit_records.specs.declared.answers.Answer.{Answer}

-- each watts of a reply writes those that were told, in the dialect of the session
abbrev pub WritesAs : PostPlan → ToldWatts → Said → Bool → Type 0
WritesAs plan told (Response chosen positive) writes = Unit {0}
WritesAs plan told (Replied request reply watts) writes = IsTrue writes ↔ AreTold plan told.dialect told.watts watts
WritesAs plan told Other writes = Unit {0}
WritesAs plan told Unasked writes = Unit {0}

pub record IsAnswer (plan : PostPlan) (told : ToldWatts) (said : Said) (a : Answer) : Type 0 where
  pub saying_is : a.saying ≡ said_as said
  pub most_is : IsMost plan said a.most
  pub writes_is : WritesAs plan told said a.writes

-- bytes say this and nothing else
pub record AnswersSo (c : ToldCodecs) (plan : PostPlan) (told : ToldWatts) (past : List Seen) (bytes : List ℕ) (a : Answer) : Type 0 where
  pub said : Said
  pub is : IsSaid c plan past bytes said
  pub only : (other : Said) → IsSaid c plan past bytes other → other ≡ said
  pub answer : IsAnswer plan told said a
