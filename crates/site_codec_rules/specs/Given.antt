-- Own: each reply that a post gives can be spelled in its dialect, and its schedules are short.
use Rattle.charge_world.specs.declared.offer.Dialect.{Dialect}
use Rattle.session_words.specs.declared.word.Reply.{Reply}
use Rattle.written_sizes.specs.Entries.{HasEntries}
use Rattle.written_words.specs.Typed.{IsTyped}
use Rattle.site_codec.specs.Replies.{IsGiven}
use Rattle.site_codec_rules.specs.Codecs.{Reads, CanSpell}

abbrev pub GivenAreSpelled : Type 0
GivenAreSpelled = (dialect : Dialect) (reply : Reply) → IsGiven Reads dialect reply → IsTyped reply → CanSpell dialect reply

abbrev pub GivenAreBrief : Type 0
GivenAreBrief = (dialect : Dialect) (reply : Reply) → IsGiven Reads dialect reply → HasEntries 1 reply.tell
