use Rattle.std.proofs.Common.{◌∙◌, sym, ap}
use Rattle.audit_streams.specs.Streams.{speech_in}
use Rattle.audit_streams.proofs.Taken.{kept_taken}
use Rattle.audit_streams.proofs.streams.WordStream.take.Goals as goal
use Rattle.audit_streams.proofs.streams.WordStream.take.Goals.{in-First, in-Spoken}

pub returns : goal.returns
returns g c bytes count k none =
    kept_taken _ c.args.offers.now c.match-self.spoken bytes count c.args.len c.args.self.now c.front-word.result c.speech_behind-self.result c.pass.new.self c.skip.new.self g.met.R.ToldReader.determined
    c.front-word.ensures.bytes c.requires
    (elim c.match-self.branch [
      | in-First w ↦ w.in-First.is ∙ ap speech_in (sym w.spoken-is)
      | in-Spoken w ↦ w.in-Spoken.is ∙ ap speech_in (sym w.spoken-is)
    ])
    none c.front-word.ensures.word c.speech_behind-self.ensures c.pass.ensures c.skip.ensures k
