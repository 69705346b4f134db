use Rattle.std.proofs.Common.{refl}
use Rattle.v2gtp_frames.proofs.Fronts.{given_read}
use Rattle.v2gtp_frames.proofs.FrameReader.next.Goals as goal

pub returns-in-Some : goal.returns-in-Some
returns-in-Some c =
    let p = given_read c.self.inside.buf.items c.deref.result.now c.deref-in-Some.result.now c.args.self.now c.self.inside.start c.in-Some.len c.in_ok-whole_frame.field-0
    c.self.view_is c.deref-in-Some.ensures.value c.deref.ensures.value c.in-Some.is c.in_ok-whole_frame.ensures.value c.in_ok-whole_frame.ensures.fits in
    ((refl, λ _. tt, p.left), record { value = (p.long, p.payload); short = p.short; after = tt })
