-- Own: what a site reports of a post, as counts over its past.
use Rattle.std.specs.Prelude.{ℕ, ◌+◌, ◌^◌, Bool, true, false, ◌&&◌, if◌then◌else◌, List, [], ◌∷◌, bit_or}
use Rattle.charge_world.specs.declared.ports.Order.{Order}
use Rattle.charge_world.specs.declared.ports.Order.TheVariants as order
use Rattle.post_spec.specs.Steps.{Event, Came, Bytes, Gone, Datagram, Plant, Clock, Over, Act, Give, Send, Answer, End, Seen, Heard, Did}

abbrev pub one_if : Bool → ℕ
one_if b = if b then 1 else 0

abbrev pub begins : Event → Bool
begins (Came token) = true
begins (Bytes bytes) = false
begins Gone = false
begins (Datagram bytes) = false
begins (Plant event) = false
begins Clock = false
begins Over = false

-- the connections that began
abbrev pub sessions : List Seen → ℕ
sessions [] = 0
sessions (Heard at event ∷ past) = one_if (begins event) + sessions past
sessions (Did act taken ∷ past) = sessions past

abbrev pub is_close : Order → Bool
is_close order.Open = false
is_close order.Close = true
is_close (order.Limits voltage current watts) = false

abbrev pub orders_close : Act → Bool
orders_close (Give order) = is_close order
orders_close (Send bytes) = false
orders_close (Answer bytes) = false
orders_close (End cause) = false

-- the orders to close that the charger took
abbrev pub closed : List Seen → ℕ
closed [] = 0
closed (Heard at event ∷ past) = closed past
closed (Did act taken ∷ past) = one_if (orders_close act && taken) + closed past

-- the causes by which sessions ended: bit c for cause c
abbrev pub with_cause : Act → ℕ → ℕ
with_cause (End cause) causes = bit_or causes (2 ^ cause)
with_cause (Give order) causes = causes
with_cause (Send bytes) causes = causes
with_cause (Answer bytes) causes = causes

abbrev pub causes : List Seen → ℕ
causes [] = 0
causes (Heard at event ∷ past) = causes past
causes (Did act taken ∷ past) = with_cause act (causes past)
