-- Entries one by one.
use Rattle.std.proofs.Common.{◌≡◌, ℕ, ◌+◌, ◌<◌, ◌≤◌, List, [], ◌∷◌, length, take, get_or, ap, sym, ◌∙◌, arith}
use Rattle.std.specs.Prelude.{reverse}
use Rattle.std.specs.List.{AllByRecursion}
use Rattle.std.proofs.lemmas.List.{reverse-append, take_more}
use Rattle.charge_world.specs.declared.entry.Entry.{Entry}
use Rattle.charge_world.specs.declared.entry.Entry.TheVariants as entry
use Rattle.charge_world.specs.declared.heard.What.{What}
use Rattle.charge_world.specs.declared.heard.What.TheVariants.{Came, Bytes, Gone, Datagram, Plant}
use Rattle.trace_text.specs.TraceText.{HasBytes}
use Rattle.replay_wire.specs.Replays.{CanBeHeard, AllCanBeHeard}
use Rattle.trace_audit.specs.Posts.{IsShort}

pub one_behind : (entries : List Entry) (i : ℕ) (e : Entry) → i < length entries → e ≡ get_or entries i e → reverse (take (i + 1) entries) ≡ e ∷ reverse (take i entries)
one_behind entries i e within is =
    ap reverse (take_more entries i e within) ∙ reverse-append (take i entries) (get_or entries i e ∷ []) ∙ ap (λ (d : Entry). d ∷ reverse (take i entries)) (sym is)

-- ---- what can be heard is short

short_bytes : (what : What) (bytes : List ℕ) → HasBytes what bytes → length bytes ≤ 4096
short_bytes (Came post token) bytes h = omega (arith, ap length h.1)
short_bytes (Bytes post n) bytes h = omega (arith, h.1, h.3)
short_bytes (Gone post) bytes h = omega (arith, ap length h.1)
short_bytes (Datagram post n) bytes h = omega (arith, h.1, h.2)
short_bytes (Plant post event) bytes h = omega (arith, ap length h.1)
short_bytes _ bytes h = omega (arith, ap length h)

short : (posts : ℕ) (e : Entry) → CanBeHeard posts e → IsShort e
short posts (entry.Heard heard bytes) h = short_bytes heard.what bytes h.1
short posts _ h = tt

pub all_short : (posts : ℕ) (entries : List Entry) → AllCanBeHeard posts entries → AllByRecursion IsShort entries
all_short posts [] h = tt
all_short posts (e ∷ entries) h = (short posts e h.0, all_short posts entries h.1)
