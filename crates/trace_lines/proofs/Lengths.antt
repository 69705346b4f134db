-- The lines of a site's entries are short.
use Rattle.std.proofs.Common.{◌≡◌, ◌<◌, ◌≤◌, ◌^◌, ◌*◌, ℕ, ◌+◌, Bool, true, false, if◌then◌else◌, List, [], ◌∷◌, ◌++◌, length, refl, sym, ap, subst, ◌∙◌, arith}
use Rattle.std.specs.Prelude.{codes, decimal}
use Rattle.std.specs.Int.{to_be_bytes, w64}
use Rattle.std.proofs.lemmas.Fmt.{length-decimal-le}
use Rattle.std.proofs.lemmas.List.{length-append}
use Rattle.hex.specs.Hex.{encode_lower}
use Rattle.charge_world.specs.declared.entry.Entry.{Entry}
use Rattle.charge_world.specs.declared.entry.Entry.TheVariants as entry
use Rattle.charge_world.specs.declared.heard.Heard.{Heard}
use Rattle.charge_world.specs.declared.heard.IsolationLevel.{IsolationLevel}
use Rattle.charge_world.specs.declared.heard.IsolationLevel.TheVariants as isolation
use Rattle.charge_world.specs.declared.heard.PilotState.{PilotState}
use Rattle.charge_world.specs.declared.heard.PilotState.TheVariants as pilot
use Rattle.charge_world.specs.declared.heard.PlantEvent.{PlantEvent}
use Rattle.charge_world.specs.declared.heard.PlantEvent.TheVariants as plant
use Rattle.charge_world.specs.declared.heard.What.{What}
use Rattle.charge_world.specs.declared.heard.What.TheVariants as what
use Rattle.charge_world.specs.declared.ports.Order.{Order}
use Rattle.charge_world.specs.declared.ports.Order.TheVariants as order
use Rattle.text_tokens.specs.Words.{spaced_out, line_text, identifier_text}
use Rattle.text_tokens.proofs.Digits.{length_hex}
use Rattle.text_tokens.proofs.Lines.{length_line}
use Rattle.trace_text.specs.TraceText.{pilot_word, isolation_word, feedback_word, event_words, order_words, datagram_word, at_post_words, what_words, plain_words, taken_of, words_of, line_of, numbered_line_of, IsPost, HasBytes, InBounds, IsWritable, longest}
use Rattle.trace_lines.specs.Short.{IsShort, IsEventShort, IsWhatShort, IsOrderShort, HasNumbers}

-- the bytes of words, each with a byte behind it
abbrev pub total : List (List ℕ) → ℕ
total [] = 0
total (w ∷ ws) = length w + 1 + total ws

length_out : (ws : List (List ℕ)) → length (spaced_out ws) ≡ total ws
length_out [] = refl
length_out (w ∷ ws) = omega (arith, length-append (w ++ 32 ∷ []) (spaced_out ws), length-append w (32 ∷ []), length_out ws)

pub line_total : (w : List ℕ) (ws : List (List ℕ)) → length (line_text (w ∷ ws)) ≡ total (w ∷ ws)
line_total w ws = sym (length_line (w ∷ ws) (omega arith)) ∙ length_out (w ∷ ws)

number_short : (n : ℕ) → n < 2 ^ 64 → length (decimal n) ≤ 20
number_short n small = length-decimal-le 20 n (omega arith) (omega (arith, small)) small

post_short : (n : ℕ) → IsPost n → length (decimal n) ≤ 20
post_short n p = number_short n (omega (arith, p.1))

pilot_short : (s : PilotState) → length (pilot_word s) ≤ 20
pilot_short pilot.A = omega arith
pilot_short pilot.B = omega arith
pilot_short pilot.C = omega arith
pilot_short pilot.D = omega arith
pilot_short pilot.E = omega arith
pilot_short pilot.F = omega arith

isolation_short : (l : IsolationLevel) → length (isolation_word l) ≤ 20
isolation_short isolation.Invalid = omega arith
isolation_short isolation.Valid = omega arith
isolation_short isolation.Warning = omega arith
isolation_short isolation.Fault = omega arith
isolation_short isolation.NoImd = omega arith

feedback_short : (b : Bool) → length (feedback_word b) ≤ 20
feedback_short true = omega arith
feedback_short false = omega arith

event_short : (e : PlantEvent) → IsEventShort e → total (event_words e) ≤ 70
event_short (plant.Pilot s) h = omega (arith, pilot_short s)
event_short (plant.Isolation l) h = omega (arith, isolation_short l)
event_short (plant.Measured v c) h = omega (arith, number_short v (omega (arith, h.0)), number_short c (omega (arith, h.1)))
event_short (plant.Feedback b) h = omega (arith, feedback_short b)
event_short plant.Paid h = omega arith
event_short plant.Emergency h = omega arith
event_short plant.StopAsked h = omega arith
event_short plant.RenewAsked h = omega arith

order_short : (o : Order) → IsOrderShort o → total (order_words o) ≤ 90
order_short order.Open h = omega arith
order_short order.Close h = omega arith
order_short (order.Limits v c w) h = omega (arith, number_short v (omega (arith, h.0)), number_short c (omega (arith, h.1)), number_short w (omega (arith, h.2)))

bytes_short : (bytes : List ℕ) → length bytes ≤ 4096 → length (encode_lower bytes) ≤ 8192
bytes_short bytes h = omega (arith, length_hex bytes)

datagram_short : (bytes : List ℕ) → length bytes ≤ 4096 → length (datagram_word bytes) ≤ 8192
datagram_short [] h = omega arith
datagram_short (b ∷ bytes) h = bytes_short (b ∷ bytes) h

eight : (n : ℕ) → length (to_be_bytes w64 n) ≡ 8
eight n = refl

token_short : (n : ℕ) → length (identifier_text n) ≤ 16
token_short n = omega (arith, length_hex (to_be_bytes w64 n), eight n)

what_short : (w : What) (bytes : List ℕ) → HasBytes w bytes → IsWhatShort w → total (what_words w bytes) ≤ 8250
what_short (what.Came post token) bytes h s = omega (arith, post_short post h.0, token_short token)
what_short (what.Bytes post n) bytes h s = omega (arith, post_short post h.0, bytes_short bytes (omega (arith, h.1, h.3)))
what_short (what.Gone post) bytes h s = omega (arith, post_short post h.0)
what_short (what.Datagram post n) bytes h s = omega (arith, post_short post h.0, datagram_short bytes (omega (arith, h.1, h.2)))
what_short (what.Plant post event) bytes h s = omega (arith, post_short post h.0, event_short event s)
what_short what.Tick bytes h s = omega arith
what_short what.Over bytes h s = omega arith

plain_short : (e : Entry) → IsShort e → HasNumbers e → total (plain_words e) ≤ 8300
plain_short (entry.Heard heard bytes) h n = omega (arith, number_short heard.at n.0, what_short heard.what bytes h n.1)
plain_short entry.Lost h n = omega arith
plain_short (entry.Sent post bytes taken) h n = omega (arith, post_short post h.0, bytes_short bytes h.2)
plain_short (entry.Answered post bytes taken) h n = omega (arith, post_short post h.0, bytes_short bytes h.2)
plain_short (entry.Drove post order taken) h n = omega (arith, post_short post h, order_short order n)
plain_short (entry.Dialed port taken) h n = omega (arith, number_short port (omega (arith, n)))
plain_short (entry.Ended post cause) h n = omega (arith, post_short post h, number_short cause (omega (arith, n)))

words_short : (e : Entry) (b : Bool) → taken_of e ≡ b → IsShort e → HasNumbers e → total (words_of e) ≤ 8320
words_short e true t h n = rw t (omega (arith, plain_short e h n))
words_short e false t h n = rw t (omega (arith, plain_short e h n))

some_total : (ws : List (List ℕ)) → 0 < length ws → length (line_text ws) ≡ total ws
some_total [] some = absurd (omega arith)
some_total (w ∷ ws) some = line_total w ws

some_words : (e : Entry) → 0 < length (words_of e)
some_words (entry.Heard heard bytes) = omega arith
some_words entry.Lost = omega arith
some_words (entry.Sent post bytes true) = omega arith
some_words (entry.Sent post bytes false) = omega arith
some_words (entry.Answered post bytes true) = omega arith
some_words (entry.Answered post bytes false) = omega arith
some_words (entry.Drove post order true) = omega arith
some_words (entry.Drove post order false) = omega arith
some_words (entry.Dialed port true) = omega arith
some_words (entry.Dialed port false) = omega arith
some_words (entry.Ended post cause) = omega arith

bounds : (e : Entry) → IsShort e → InBounds e
bounds (entry.Heard heard bytes) h = h
bounds entry.Lost h = tt
bounds (entry.Sent post bytes taken) h = (h.0, h.1)
bounds (entry.Answered post bytes taken) h = (h.0, h.1)
bounds (entry.Drove post order taken) h = h
bounds (entry.Dialed port taken) h = tt
bounds (entry.Ended post cause) h = h

pub writable : (e : Entry) → IsShort e → HasNumbers e → IsWritable e
writable e h n =
    let l = words_short e (taken_of e) refl h n in
    let w = some_total (words_of e) (some_words e) in
    (bounds e h, omega (arith, l, w))

pub fits : (k : ℕ) (e : Entry) → k < 2 ^ 64 → IsShort e → HasNumbers e → length (numbered_line_of k e) ≤ 8448
fits k e small h n =
    let l = words_short e (taken_of e) refl h n in
    let w = line_total (decimal k) (words_of e) in
    omega (arith, l, w, number_short k small)
