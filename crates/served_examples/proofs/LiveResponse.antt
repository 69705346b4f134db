-- The contactor is live there.
use Rattle.std.proofs.Common.{refl}
use Rattle.post_spec.specs.Codecs.{Codecs}
use Rattle.served_examples.specs.LiveResponse.{LiveResponse}

pub live_response : (c : Codecs) → LiveResponse c
live_response c bytes f s =
    let r = s.1 refl in
    f r.dialect r.payload r.reply r.bytes_are r.reads r.ok
