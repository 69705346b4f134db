-- ISO 15118-2:2014, 7.8.3 (V2GTP): a message that comes in pieces is waited for until it is whole.
use Rattle.std.specs.Prelude.{◌≡◌, ◌≢◌, ℕ, List, [], ◌++◌, None, Ok}
use Rattle.v2gtp_frames.specs.Frames.{frame, IsPayload}
use Rattle.v2gtp_frames.specs.Reading.{whole_at}

abbrev pub PiecesAreAwaited : Type 0
PiecesAreAwaited = (payload unread way : List ℕ) → IsPayload payload → frame payload ≡ unread ++ way → way ≢ [] → whole_at unread ≡ Ok None
