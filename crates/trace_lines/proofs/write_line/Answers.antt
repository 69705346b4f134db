use Rattle.std.proofs.Common.{◌≤◌, length, arith}
use Rattle.trace_text.specs.Noted.{entry_of}
use Rattle.trace_text.specs.TraceText.{numbered_line_of}
use Rattle.trace_lines.proofs.Lengths.{writable, fits}
use Rattle.trace_lines.proofs.write_line.Goals as goal

pub write_noted-requires : goal.write_noted-requires
write_noted-requires g c = writable (entry_of c.args.noted.now) c.requires.short c.requires.numbers

pub unwrap-n-requires : goal.unwrap-n-requires
unwrap-n-requires g c =
    let f = fits c.args.hearing (entry_of c.args.noted.now) c.ranges.hearing.fits c.requires.short c.requires.numbers in
    let room : length (numbered_line_of c.args.hearing (entry_of c.args.noted.now)) ≤ length c.args.room.now = omega (arith, f, c.requires.room) in
    c.write_noted.ensures.fits.1 room
