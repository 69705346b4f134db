-- Own: what laws of a pair ask of the codecs of both ends, and what each hears of the other then.
use Rattle.std.specs.Prelude.{◌≡◌, ℕ, List, Option, Some}
use Rattle.charge_world.specs.declared.offer.Dialect.{Dialect}
use Rattle.session_words.specs.declared.word.Reply.{Reply}
use Rattle.session_words.specs.declared.word.Request.{Request}
use Rattle.session_words.specs.declared.word.Word.{Word}
use Rattle.post_spec.specs.Codecs as post
use Rattle.post_spec.specs.Spelled as post_spelled
use Rattle.car_spec.specs.Codecs as car
use Rattle.car_spec.specs.Spelled as car_spelled

-- both read the messages of a dialect alike, each reads back what it encodes, and a payload is judged one way
pub record AreMutual (c : post.Codecs) (cc : car.Codecs) : Type 0 where
  pub to_post : (dialect : Dialect) (payload : List ℕ) (word : Option Word) → cc.Reads dialect payload word → c.Reads dialect payload word
  pub to_car : (dialect : Dialect) (payload : List ℕ) (word : Option Word) → c.Reads dialect payload word → cc.Reads dialect payload word
  pub requests : car_spelled.ReadsBack cc
  pub replies : post_spelled.ReadsBack c
  pub of_post : post_spelled.AreDetermined c
  pub of_car : car_spelled.AreDetermined cc

-- a request is heard as the request that it reads back as
abbrev pub RequestsAreHeard : post.Codecs → car.Codecs → Type 0
RequestsAreHeard c cc = AreMutual c cc → (offers : List Dialect) (dialect : Dialect) (request : Request) (payload : List ℕ) (judged : post.Judged)
    → cc.Encodes dialect request payload → post.Judges c offers (Some dialect) payload judged → judged ≡ post.Asked (car_spelled.read_back request)

-- and a reply as the reply
abbrev pub RepliesAreHeard : post.Codecs → car.Codecs → Type 0
RepliesAreHeard c cc = AreMutual c cc → (offers : List Dialect) (dialect : Dialect) (reply : Reply) (payload : List ℕ) (judged : car.Judged)
    → c.Encodes dialect reply payload → car.Judges cc offers (Some dialect) payload judged → judged ≡ car.Told (post_spelled.read_back reply)
