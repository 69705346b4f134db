use Rattle.std.proofs.Common.{◌≤◌, length, arith}
use Rattle.trace_text.specs.TraceText.{numbered_line_of}
use Rattle.migrate_command.proofs.Texts.{fits}
use Rattle.migrate_command.proofs.writing.write_line.Goals as goal

pub unwrap-n-requires : goal.unwrap-n-requires
unwrap-n-requires g c =
    let f = fits c.args.hearing c.args.entry.now c.ranges.hearing.fits c.requires.writable in
    let room : length (numbered_line_of c.args.hearing c.args.entry.now) ≤ length c.args.room.now = omega (arith, f, c.requires.room) in
    c.write_numbered.ensures.fits.1 room
