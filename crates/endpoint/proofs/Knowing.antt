-- What is known stays known over a call, and grows by a hearing.
use Rattle.std.proofs.Common.{◌≡◌, ℕ, ◌+◌, max, Bool, true, false, if◌then◌else◌, List, [], ◌∷◌, ◌++◌, Some, refl, ap, ◌∙◌, arith}
use Rattle.std.specs.List.{AllByRecursion}
use Rattle.charge_world.specs.declared.entry.Entry.{Entry}
use Rattle.charge_world.specs.declared.entry.Entry.TheVariants as entry
use Rattle.charge_world.specs.declared.heard.Heard.{Heard}
use Rattle.trace_text.specs.Pasts.{is_hearing}
use Rattle.station_spec.specs.Blocks.{is_last, is_over, hearings}
use Rattle.endpoint.specs.declared.calls.Call.{Call}
use Rattle.endpoint.specs.declared.calls.Call.TheVariants.{Answer, Give, Send, End, Dial}
use Rattle.endpoint.specs.Calls.{entry_by}
use Rattle.endpoint.specs.Knowing.{newest, Known, IsKnown, known_first, known_behind, known_lost}
use Rattle.endpoint.specs.Telling.{IsClosing, HasClosing}

-- ---- a call is no hearing

pub is_call : (k : ℕ) (call : Call) (taken : Bool) → is_hearing (entry_by k call taken) ≡ false
is_call k (Answer bytes) taken = refl
is_call k (Give order) taken = refl
is_call k (Send bytes) taken = refl
is_call k (End cause) taken = refl
is_call k (Dial port) taken = refl

pub same_number : (e : Entry) (n : ℕ) → is_hearing e ≡ false → (if is_hearing e then 1 else 0) + n ≡ n
same_number e n call = rw call (omega arith)

pub known_call : (k : Known) (e : Entry) (past : List Entry) → is_hearing e ≡ false → IsKnown k past → IsKnown k (e ∷ past)
known_call k (entry.Heard heard bytes) past call h = cc
known_call k entry.Lost past call h = cc
known_call k (entry.Sent post bytes taken) past call h = record { newest_is = h.newest_is; clock_is = h.clock_is; heard_is = h.heard_is; last_is = h.last_is }
known_call k (entry.Answered post bytes taken) past call h = record { newest_is = h.newest_is; clock_is = h.clock_is; heard_is = h.heard_is; last_is = h.last_is }
known_call k (entry.Drove post order taken) past call h = record { newest_is = h.newest_is; clock_is = h.clock_is; heard_is = h.heard_is; last_is = h.last_is }
known_call k (entry.Dialed port taken) past call h = record { newest_is = h.newest_is; clock_is = h.clock_is; heard_is = h.heard_is; last_is = h.last_is }
known_call k (entry.Ended post cause) past call h = record { newest_is = h.newest_is; clock_is = h.clock_is; heard_is = h.heard_is; last_is = h.last_is }

-- ---- hearings

pub known_none : IsKnown known_first []
known_none = record { newest_is = refl; clock_is = refl; heard_is = refl; last_is = refl }

pub known_heard : (k : Known) (h : Heard) (bytes : List ℕ) (wait : ℕ) (past : List Entry) → IsKnown k past → IsKnown (known_behind k h bytes wait) (entry.Heard h bytes ∷ past)
known_heard k h bytes wait past is = record {
  newest_is = refl;
  clock_is = ap (λ (m : ℕ). max m h.at) is.clock_is;
  heard_is = ap (λ (n : ℕ). n + 1) is.heard_is;
  last_is = refl;
}

pub known_nothing : (k : Known) (wait : ℕ) (past : List Entry) → IsKnown k past → IsKnown (known_lost k wait) (entry.Lost ∷ past)
known_nothing k wait past is = record {
  newest_is = refl;
  clock_is = is.clock_is;
  heard_is = ap (λ (n : ℕ). n + 1) is.heard_is;
  last_is = refl;
}

-- ---- nothing is heard behind Over or a lost hearing

pub last_heard : (past : List Entry) (h : Heard) (bytes : List ℕ) → newest past ≡ Some (entry.Heard h bytes) → is_over h.what ≡ true → is_last past ≡ true
last_heard [] h bytes e over = cc
last_heard (entry.Heard heard bytes ∷ past) h b e over =
    let same : heard ≡ h = cc in
    ap (λ (x : Heard). is_over x.what) same ∙ over
last_heard (entry.Lost ∷ past) h bytes e over = refl
last_heard (entry.Sent post bytes taken ∷ past) h b e over = last_heard past h b e over
last_heard (entry.Answered post bytes taken ∷ past) h b e over = last_heard past h b e over
last_heard (entry.Drove post order taken ∷ past) h b e over = last_heard past h b e over
last_heard (entry.Dialed port taken ∷ past) h b e over = last_heard past h b e over
last_heard (entry.Ended post cause ∷ past) h b e over = last_heard past h b e over

pub last_lost : (past : List Entry) → newest past ≡ Some entry.Lost → is_last past ≡ true
last_lost [] e = cc
last_lost (entry.Heard heard bytes ∷ past) e = cc
last_lost (entry.Lost ∷ past) e = refl
last_lost (entry.Sent post bytes taken ∷ past) e = last_lost past e
last_lost (entry.Answered post bytes taken ∷ past) e = last_lost past e
last_lost (entry.Drove post order taken ∷ past) e = last_lost past e
last_lost (entry.Dialed port taken ∷ past) e = last_lost past e
last_lost (entry.Ended post cause ∷ past) e = last_lost past e

-- ---- orders to open that stand on entries

newest_later : (later blocks : List Entry) → AllByRecursion IsClosing later → newest (later ++ blocks) ≡ newest blocks
newest_later [] blocks h = refl
newest_later (x ∷ later) blocks h = ap (λ (e : Entry). newest (e ∷ (later ++ blocks))) h.0.2 ∙ newest_later later blocks h.1

hearings_later : (later blocks : List Entry) → AllByRecursion IsClosing later → hearings (later ++ blocks) ≡ hearings blocks
hearings_later [] blocks h = refl
hearings_later (x ∷ later) blocks h = ap (λ (e : Entry). hearings (e ∷ (later ++ blocks))) h.0.2 ∙ hearings_later later blocks h.1

last_later : (later blocks : List Entry) → AllByRecursion IsClosing later → is_last (later ++ blocks) ≡ is_last blocks
last_later [] blocks h = refl
last_later (x ∷ later) blocks h = ap (λ (e : Entry). is_last (e ∷ (later ++ blocks))) h.0.2 ∙ last_later later blocks h.1

pub newest_closing : (blocks past : List Entry) → HasClosing blocks past → newest past ≡ newest blocks
newest_closing blocks past h = ap newest h.past_is ∙ newest_later h.later blocks h.closing

pub hearings_closing : (blocks past : List Entry) → HasClosing blocks past → hearings past ≡ hearings blocks
hearings_closing blocks past h = ap hearings h.past_is ∙ hearings_later h.later blocks h.closing

pub last_closing : (blocks past : List Entry) → HasClosing blocks past → is_last past ≡ is_last blocks
last_closing blocks past h = ap is_last h.past_is ∙ last_later h.later blocks h.closing
