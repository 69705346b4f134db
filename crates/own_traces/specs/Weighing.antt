-- ISO 15118-2:2014, 8.4.3.8 (EVSEMaximumPowerLimit, EVSEMaxCurrent, PMax); DIN SPEC 70121:2014: what is asked of codecs that tell the watts of a reply.
use Rattle.std.specs.Prelude.{◌≤◌, ℕ, List}
use Rattle.charge_world.specs.declared.offer.Dialect.{Dialect}
use Rattle.session_words.specs.declared.plan.PostPlan.{PostPlan}
use Rattle.session_words.specs.declared.word.Reply.{Reply}
use Rattle.post_spec.specs.Kinds.{tell_watts}
use Rattle.post_spec.specs.Spelled.{read_back}
use Rattle.told_pasts.specs.Spelling.{SpelledWatts, ToldCodecs, spelled_in}
use Rattle.own_traces.specs.Own.{Passes}
use Rattle.own_traces.specs.Owning.{IsSingle, TellsOwn}

-- the payload of a reply writes no more watts than are told to whoever reads it, where each of its schedules has one entry
abbrev pub WeighsRightly : ToldCodecs → Type 0
WeighsRightly c = (plan : PostPlan) (dialect : Dialect) (reply : Reply) (payload : List ℕ) (watts : SpelledWatts)
    → c.words.Encodes dialect reply payload → c.Watts dialect payload watts → IsSingle reply.tell → spelled_in plan watts ≤ tell_watts plan (read_back reply).tell

abbrev pub PassesWeighed : ToldCodecs → ℕ → Type 0
PassesWeighed c check = TellsOwn c → WeighsRightly c → Passes c check
