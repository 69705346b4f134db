use Rattle.trace_text.specs.Noted.{entry_of}
use Rattle.trace_text.proofs.WholeLines.{numbered_short}
use Rattle.trace_text.proofs.writing.write_noted.Goals as goal

pub write-requires-clause-fits : goal.write-requires-clause-fits
write-requires-clause-fits c =
    rw (c.noted_line.ensures.words, c.then.ensures, c.default.ensures) (numbered_short c.args.hearing (entry_of c.args.noted.now) c.ranges.hearing.fits c.requires.1)
