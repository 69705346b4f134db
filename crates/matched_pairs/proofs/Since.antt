-- The moment from which the deadline of a post counts: it stays, or is the one at which the post did something.
use Rattle.std.proofs.Common.{◌≡◌, ℕ, ◌+◌, ◌≤◌, Bool, true, false, if◌then◌else◌, List, [], Option, Some, None, refl, sym, subst, arith}
use Rattle.std.specs.Option.{option_map}
use Rattle.charge_world.specs.declared.ports.Order.{Order}
use Rattle.charge_world.specs.declared.ports.Order.TheVariants as order
use Rattle.session_words.specs.declared.plan.PostPlan.{PostPlan}
use Rattle.session_rules.specs.Stages.{is_set_up}
use Rattle.post_spec.specs.Codecs as post
use Rattle.post_spec.specs.Steps.{Act, Give, Send, Answer, End, Reading}
use Rattle.station_spec.specs.States.{Session, State}
use Rattle.station_spec.specs.Deciding.{decided}
use Rattle.station_spec.specs.Hearing.{session_opened, with_bytes}
use Rattle.station_spec.specs.Judging.{judged, taken_in, read, filled}
use Rattle.station_spec.specs.Acting.{since_order, replied, acted}
use Rattle.station_laws.proofs.Decided.{same_session}
use Rattle.matched_pairs.specs.Paces.{IsSoonBehind}

-- ---- a request leaves it

-- what holds of the moment alone holds behind a request
abbrev pub OfSince : (ℕ → Type 0) → Option Session → Type 0
OfSince P None = Unit {0}
OfSince P (Some x) = P x.since

judged_since : (P : ℕ → Type 0) (plan : PostPlan) (s : State) (x : Session) (w : post.Judged) (shown : ℕ) → P x.since → OfSince P (judged plan s x w shown).session
judged_since P plan s x (post.Negotiated chosen response) shown p = p
judged_since P plan s x (post.Asked r) shown p = p
judged_since P plan s x post.WrongSide shown p = p
judged_since P plan s x post.Refused shown p = p

taken_since : (P : ℕ → Type 0) (plan : PostPlan) (s : State) (o : Option Session) (r : Reading) → o ≡ s.session → OfSince P o → OfSince P (taken_in plan s o r).session
taken_since P plan s None r e p = subst (OfSince P) e tt
taken_since P plan s (Some x) r e p = judged_since P plan s x r.judged r.shown p

read_since : (P : ℕ → Type 0) (plan : PostPlan) (s : State) (o : Option Reading) → OfSince P s.session → OfSince P (read plan s o).session
read_since P plan s None p = p
read_since P plan s (Some r) p = taken_since P plan s s.session r refl p

pub filled_since : (P : ℕ → Type 0) (plan : PostPlan) (o : Option Reading) (s : State) → OfSince P s.session → OfSince P (filled plan o s).session
filled_since P plan o s p = read_since P plan (decided plan s) o (subst (OfSince P) (sym (same_session plan s)) p)

-- ---- an act

at_once : (now : ℕ) → (now ≤ now) × (now ≤ now + 1010)
at_once now = (omega arith, omega arith)

-- it is so of a session as it is of its moment
abbrev pub IsBehind : ℕ → ℕ → Type 0
IsBehind now since = (since ≤ now) × (now ≤ since + 1010)

of_since : (now : ℕ) (o : Option Session) → IsSoonBehind now o → OfSince (IsBehind now) o
of_since now None k = tt
of_since now (Some x) k = k

to_since : (now : ℕ) (o : Option Session) → OfSince (IsBehind now) o → IsSoonBehind now o
to_since now None k = tt
to_since now (Some x) k = k

ordered_since : (o : Order) (now clock : ℕ) (s : Option Session) → clock ≡ now → IsSoonBehind now s → IsSoonBehind now (option_map (since_order clock o) s)
ordered_since o now clock None e k = tt
ordered_since order.Open now clock (Some x) e k = k
ordered_since order.Close now clock (Some x) e k = subst (IsBehind now) (sym e) (at_once now)
ordered_since (order.Limits voltage current watts) now clock (Some x) e k = k

either_since : (b : Bool) (now clock since : ℕ) → clock ≡ now → IsBehind now since → IsBehind now (if b then clock else since)
either_since true now clock since e k = subst (IsBehind now) (sym e) (at_once now)
either_since false now clock since e k = k

replied_since : (now clock : ℕ) (s : Option Session) → clock ≡ now → IsSoonBehind now s → IsSoonBehind now (option_map (replied clock) s)
replied_since now clock None e k = tt
replied_since now clock (Some x) e k = either_since (is_set_up x.stage.row) now clock x.since e k

acted_since : (act : Act) (now : ℕ) (t : State) → t.clock ≡ now → IsSoonBehind now t.session → IsSoonBehind now (acted act true t).session
acted_since (Give o) now t e k = ordered_since o now t.clock t.session e k
acted_since (Send bytes) now t e k = replied_since now t.clock t.session e k
acted_since (Answer bytes) now t e k = k
acted_since (End cause) now t e k = tt

pub does_since : (plan : PostPlan) (reading : Option Reading) (act : Act) (now : ℕ) (s : State) → (filled plan reading s).clock ≡ now → IsSoonBehind now s.session
    → IsSoonBehind now (acted act true (filled plan reading s)).session
does_since plan reading act now s e k =
    acted_since act now (filled plan reading s) e (to_since now (filled plan reading s).session (filled_since (IsBehind now) plan reading s (of_since now s.session k)))

-- ---- a hearing

came_now : (now : ℕ) (clock : ℕ) → clock ≡ now → (clock ≤ now) × (now ≤ clock + 1010)
came_now now clock e = (omega (arith, e), omega (arith, e))

pub hears_since : (arrived : Option ℕ) (o : Option Session) (clock now : ℕ) (bytes : List ℕ) → clock ≡ now → IsSoonBehind now o → IsSoonBehind now (option_map (with_bytes bytes) (session_opened arrived clock o))
hears_since None None clock now bytes e k = tt
hears_since None (Some x) clock now bytes e k = k
hears_since (Some token) o clock now bytes e k = came_now now clock e

-- ten milliseconds pass
abbrev pub IsSoonPassed : ℕ → Option Session → Type 0
IsSoonPassed now None = Unit {0}
IsSoonPassed now (Some x) = now + 10 ≤ x.since + 1010

ten_later : (since now : ℕ) → since ≤ now → now + 10 ≤ since + 1010 → (since ≤ now + 10) × (now + 10 ≤ since + 1010)
ten_later since now a b = (omega (arith, a), b)

came_ten : (now : ℕ) (clock : ℕ) → clock ≡ now → (clock ≤ now + 10) × (now + 10 ≤ clock + 1010)
came_ten now clock e = (omega (arith, e), omega (arith, e))

pub passes_since : (arrived : Option ℕ) (o : Option Session) (clock now : ℕ) → clock ≡ now → IsSoonBehind now o → IsSoonPassed now o
    → IsSoonBehind (now + 10) (option_map (with_bytes []) (session_opened arrived clock o))
passes_since None None clock now e k p = tt
passes_since None (Some x) clock now e k p = ten_later x.since now k.0 p
passes_since (Some token) o clock now e k p = came_ten now clock e
