-- Own: a FAILED reply goes out behind the order to open.
use Rattle.std.specs.Prelude.{◌≡◌, ℕ, ◌+◌, true, List, [], ◌∷◌, ◌++◌, length, Some}
use Rattle.charge_world.specs.declared.entry.Entry.{Entry}
use Rattle.charge_world.specs.declared.offer.Dialect.{Dialect}
use Rattle.session_words.specs.declared.plan.SitePlan.{SitePlan}
use Rattle.session_words.specs.declared.word.Reply.{Reply}
use Rattle.session_words.specs.declared.word.Word.TheVariants as word
use Rattle.session_words.specs.Codes.{IsOkClass}
use Rattle.v2gtp_frames.specs.Frames.{frame}
use Rattle.post_spec.specs.Codecs.{Codecs}
use Rattle.post_spec.specs.Contactors.{live}
use Rattle.post_spec.specs.Spelled.{ReadsBack}
use Rattle.post_spec.specs.Steps.{Act, Give, Send, Answer, End, Seen, Heard, Did, seen}
use Rattle.station_spec.specs.Sharing.{Post}
use Rattle.station_spec.specs.Runs.{IsRun}

-- the frame of a reply of the OK class
pub record IsOkReply (c : Codecs) (bytes : List ℕ) : Type 0 where
  pub dialect : Dialect
  pub reply : Reply
  pub payload : List ℕ
  pub reads : c.Reads dialect payload (Some (word.Reply reply))
  pub ok : IsOkClass reply.code
  pub bytes_are : bytes ≡ frame payload

-- while the contactor is live no other reply is sent. The response to a negotiation isn't either: a contactor that an earlier session left live is
-- ordered open before a word of the next is read
abbrev pub RepliesOpened : Codecs → Act → List Seen → Type 0
RepliesOpened c (Send bytes) earlier = live earlier ≡ true → IsOkReply c bytes
RepliesOpened c (Give order) earlier = Unit {0}
RepliesOpened c (Answer bytes) earlier = Unit {0}
RepliesOpened c (End cause) earlier = Unit {0}

abbrev pub AreOpened : Codecs → List Seen → Type 0
AreOpened c [] = Unit {0}
AreOpened c (Heard at event ∷ earlier) = AreOpened c earlier
AreOpened c (Did act taken ∷ earlier) = AreOpened c earlier × RepliesOpened c act earlier

-- in every run, of each post
abbrev pub RunsReplyOpened : Codecs → Type 0
RunsReplyOpened c = (site : SitePlan) (past : List Entry) (posts before : List Post) (post : Post) (behind : List Post)
    → ReadsBack c → IsRun c site past posts → posts ≡ before ++ post ∷ behind → AreOpened c (seen (length before + 1) past)
