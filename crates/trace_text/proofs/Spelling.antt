-- The words of an entry are words, none with a space or a line feed, and no two entries have the same.
use Rattle.std.proofs.Common.{◌≡◌, ℕ, ◌<◌, Bool, true, false, cond, List, [], ◌∷◌, length, rules, refl, sym, ap, ◌∙◌, arith}
use Rattle.std.specs.Prelude.{decimal, codes}
use Rattle.std.specs.Int.{w64, to_be_bytes}
use Rattle.std.proofs.lemmas.Fmt.{decimal_injective}
use Rattle.hex.specs.Hex.{IsBytes, encode_lower}
use Rattle.text_tokens.specs.Words.{IsWord, AreWords}
use Rattle.text_tokens.proofs.Digits.{eight_bytes, hex_injective, identifier_injective, length_hex}
use Rattle.text_tokens.proofs.Splits.{decimal_word, hex_word}
use Rattle.charge_world.specs.declared.entry.Entry.{Entry}
use Rattle.charge_world.specs.declared.entry.Entry.TheVariants as entry
use Rattle.charge_world.specs.declared.heard.What.{What}
use Rattle.charge_world.specs.declared.heard.What.TheVariants.{Came, Bytes, Gone, Datagram, Plant, Tick, Over}
use Rattle.charge_world.specs.declared.heard.PlantEvent.{PlantEvent}
use Rattle.charge_world.specs.declared.heard.PlantEvent.TheVariants.{Pilot, Isolation, Measured, Feedback}
use Rattle.charge_world.specs.declared.heard.PilotState.{PilotState}
use Rattle.charge_world.specs.declared.heard.PilotState.TheVariants as pilot
use Rattle.charge_world.specs.declared.heard.IsolationLevel.{IsolationLevel}
use Rattle.charge_world.specs.declared.heard.IsolationLevel.TheVariants as isolation
use Rattle.charge_world.specs.declared.ports.Order.{Order}
use Rattle.charge_world.specs.declared.ports.Order.TheVariants.{Limits}
use Rattle.trace_text.specs.TraceText.{pilot_word, isolation_word, feedback_word, event_words, order_words, datagram_word, what_words, plain_words, taken_of, words_of, IsPost, HasBytes, InBounds, IsEventOfTypes, IsOrderOfTypes, IsWhatOfTypes, IsOfTypes}

pilot_is : (s : PilotState) → IsWord (pilot_word s)
pilot_is pilot.A = refl
pilot_is _ = refl

isolation_is : (l : IsolationLevel) → IsWord (isolation_word l)
isolation_is isolation.Invalid = refl
isolation_is _ = refl

feedback_is : (closed : Bool) → IsWord (feedback_word closed)
feedback_is true = refl
feedback_is false = refl

event_are : (event : PlantEvent) → IsEventOfTypes event → AreWords (event_words event)
event_are (Pilot state) types = (refl, (pilot_is state, tt))
event_are (Isolation level) types = (refl, (isolation_is level, tt))
event_are (Measured voltage current) types = (refl, (decimal_word voltage (omega (arith, types.0)), (decimal_word current (omega (arith, types.1)), tt)))
event_are (Feedback closed) types = (refl, (feedback_is closed, tt))
event_are _ types = (refl, tt)

order_are : (order : Order) → IsOrderOfTypes order → AreWords (order_words order)
order_are (Limits voltage current watts) types =
    (refl, (decimal_word voltage (omega (arith, types.0)), (decimal_word current (omega (arith, types.1)), (decimal_word watts (omega (arith, types.2)), tt))))
order_are _ types = (refl, tt)

datagram_is : (bytes : List ℕ) → IsBytes bytes → IsWord (datagram_word bytes)
datagram_is [] fits = refl
datagram_is (b ∷ bytes) fits = hex_word (b ∷ bytes) fits

post_is : (post : ℕ) → IsPost post → IsWord (decimal post)
post_is post is = decimal_word post (omega (arith, is.1))

what_are : (what : What) (bytes : List ℕ) → HasBytes what bytes → IsWhatOfTypes what → IsBytes bytes → AreWords (what_words what bytes)
what_are (Came post token) bytes has types fits = (post_is post has.0, (refl, (hex_word (to_be_bytes w64 token) (eight_bytes token), tt)))
what_are (Bytes post n) bytes has types fits = (post_is post has.0, (refl, (hex_word bytes fits, tt)))
what_are (Gone post) bytes has types fits = (post_is post has.0, (refl, tt))
what_are (Datagram post n) bytes has types fits = (post_is post has.0, (refl, (datagram_is bytes fits, tt)))
what_are (Plant post event) bytes has types fits = (post_is post has.0, (refl, event_are event types))
what_are _ bytes has types fits = (refl, tt)

plain_are : (e : Entry) → InBounds e → IsOfTypes e → AreWords (plain_words e)
plain_are (entry.Heard heard bytes) bounds types = (refl, (decimal_word heard.at types.0, what_are heard.what bytes bounds types.1 types.2))
plain_are entry.Lost bounds types = (refl, tt)
plain_are (entry.Sent post bytes taken) bounds types = (refl, (post_is post bounds.0, (hex_word bytes types, tt)))
plain_are (entry.Answered post bytes taken) bounds types = (refl, (post_is post bounds.0, (hex_word bytes types, tt)))
plain_are (entry.Drove post order taken) bounds types = (refl, (post_is post bounds, order_are order types))
plain_are (entry.Dialed port taken) bounds types = (refl, (decimal_word port (omega (arith, types)), tt))
plain_are (entry.Ended post cause) bounds types = (refl, (post_is post bounds, (decimal_word cause (omega (arith, types)), tt)))

either : (P : List (List ℕ) → Type 0) (taken : Bool) (words : List (List ℕ)) → P words → P (codes "failed" ∷ words) → P (cond taken words (codes "failed" ∷ words))
either P true words x y = x
either P false words x y = y

pub words_are : (e : Entry) → InBounds e → IsOfTypes e → AreWords (words_of e)
words_are e bounds types = let are = plain_are e bounds types in either AreWords (taken_of e) (plain_words e) are (refl, are)

some_plain : (e : Entry) → 0 < length (plain_words e)
some_plain (entry.Heard heard bytes) = omega arith
some_plain _ = omega arith

pub some_words : (e : Entry) → 0 < length (words_of e)
some_words e = either (λ words. 0 < length words) (taken_of e) (plain_words e) (some_plain e) (omega arith)

-- ---- one entry for each list of words

pilot_same : (s t : PilotState) → pilot_word s ≡ pilot_word t → s ≡ t
pilot_same pilot.A pilot.A e = refl
pilot_same _ _ e = search rules

isolation_same : (s t : IsolationLevel) → isolation_word s ≡ isolation_word t → s ≡ t
isolation_same isolation.Invalid isolation.Invalid e = refl
isolation_same _ _ e = search rules

feedback_same : (s t : Bool) → feedback_word s ≡ feedback_word t → s ≡ t
feedback_same true true e = refl
feedback_same false false e = refl
feedback_same _ _ e = search rules

event_same : (d e : PlantEvent) → IsEventOfTypes d → IsEventOfTypes e → event_words d ≡ event_words e → d ≡ e
event_same (Pilot s) (Pilot t) x y e = ap Pilot (pilot_same s t cc)
event_same (Isolation s) (Isolation t) x y e = ap Isolation (isolation_same s t cc)
event_same (Measured v i) (Measured w j) x y e =
    cc (decimal_injective v w (omega arith) (omega arith) (cc), decimal_injective i j (omega arith) (omega arith) (cc))
event_same (Feedback s) (Feedback t) x y e = ap Feedback (feedback_same s t cc)
event_same _ _ x y e = search rules

order_same : (d e : Order) → IsOrderOfTypes d → IsOrderOfTypes e → order_words d ≡ order_words e → d ≡ e
order_same (Limits v i w) (Limits v' i' w') x y e =
    let current = decimal_injective i i' (omega arith) (omega arith) cc in
    cc (decimal_injective v v' (omega arith) (omega arith) (cc), current, decimal_injective w w' (omega arith) (omega arith) (cc))
order_same _ _ x y e = search rules

same_post : (p q : ℕ) → IsPost p → IsPost q → decimal p ≡ decimal q → p ≡ q
same_post p q x y e = decimal_injective p q (omega arith) (omega arith) e

dash : (b : ℕ) (bytes : List ℕ) → codes "-" ≡ encode_lower (b ∷ bytes) → ⊥
dash b bytes e = omega (arith, ap length e, length_hex (b ∷ bytes))

datagram_same : (a b : List ℕ) → IsBytes a → IsBytes b → datagram_word a ≡ datagram_word b → a ≡ b
datagram_same [] [] x y e = refl
datagram_same [] (d ∷ b) x y e = absurd (dash d b e)
datagram_same (c ∷ a) [] x y e = absurd (dash c a (sym e))
datagram_same (c ∷ a) (d ∷ b) x y e = hex_injective (c ∷ a) (d ∷ b) x y e

abbrev IsHeard : What → List ℕ → Type 0
IsHeard what bytes = HasBytes what bytes × IsWhatOfTypes what × IsBytes bytes

what_same : (v w : What) (a b : List ℕ) → IsHeard v a → IsHeard w b → what_words v a ≡ what_words w b
    → (at : ℕ) → entry.Heard (record { at = at; what = v }) a ≡ entry.Heard (record { at = at; what = w }) b
what_same (Came p t) (Came q u) a b x y e at = cc (same_post p q x.0.0 y.0.0 (cc), identifier_injective t u x.1 y.1 (cc))
what_same (Bytes p n) (Bytes q m) a b x y e at = cc (same_post p q x.0.0 y.0.0 (cc), hex_injective a b x.2 y.2 (cc))
what_same (Gone p) (Gone q) a b x y e at = cc (same_post p q x.0.0 y.0.0 (cc))
what_same (Datagram p n) (Datagram q m) a b x y e at = cc (same_post p q x.0.0 y.0.0 (cc), datagram_same a b x.2 y.2 (cc))
what_same (Plant p event) (Plant q other) a b x y e at = cc (same_post p q x.0.0 y.0.0 (cc), event_same event other x.1 y.1 (cc))
what_same Tick Tick a b x y e at = cc
what_same Over Over a b x y e at = cc
what_same _ _ a b x y e at = search rules

plain_same : (d e : Entry) → InBounds d → IsOfTypes d → InBounds e → IsOfTypes e → taken_of d ≡ taken_of e → plain_words d ≡ plain_words e → d ≡ e
plain_same (entry.Heard h a) (entry.Heard k b) x s y t o e =
    ap (λ (n : ℕ). entry.Heard (record { at = n; what = h.what }) a) (decimal_injective h.at k.at s.0 t.0 cc)
    ∙ what_same h.what k.what a b (x, s.1, s.2) (y, t.1, t.2) (cc) k.at
plain_same (entry.Sent p a taken) (entry.Sent q b other) x s y t o e = cc (same_post p q x.0 y.0 (cc), hex_injective a b s t (cc))
plain_same (entry.Answered p a taken) (entry.Answered q b other) x s y t o e = cc (same_post p q x.0 y.0 (cc), hex_injective a b s t (cc))
plain_same (entry.Drove p order taken) (entry.Drove q ordered other) x s y t o e = cc (same_post p q x y (cc), order_same order ordered s t (cc))
plain_same (entry.Dialed p taken) (entry.Dialed q other) x s y t o e = cc (decimal_injective p q (omega arith) (omega arith) (cc))
plain_same (entry.Ended p c) (entry.Ended q d) x s y t o e = cc (same_post p q x y (cc), decimal_injective c d (omega arith) (omega arith) (cc))
plain_same _ _ x s y t o e = search rules

not_failed : (e : Entry) (rest : List (List ℕ)) → plain_words e ≡ codes "failed" ∷ rest → ⊥
not_failed (entry.Heard h a) rest e = search rules
not_failed _ rest e = search rules

outcome_same : (t u : Bool) (ws vs : List (List ℕ)) → ((rest : List (List ℕ)) → ws ≡ codes "failed" ∷ rest → ⊥) → ((rest : List (List ℕ)) → vs ≡ codes "failed" ∷ rest → ⊥)
    → cond t ws (codes "failed" ∷ ws) ≡ cond u vs (codes "failed" ∷ vs) → (t ≡ u) × (ws ≡ vs)
outcome_same true true ws vs x y e = (refl, e)
outcome_same false false ws vs x y e = (refl, cc)
outcome_same true false ws vs x y e = absurd (x vs e)
outcome_same false true ws vs x y e = absurd (y ws (sym e))

pub words_same : (d e : Entry) → InBounds d → IsOfTypes d → InBounds e → IsOfTypes e → words_of d ≡ words_of e → d ≡ e
words_same d e x s y t same =
    let parts = outcome_same (taken_of d) (taken_of e) (plain_words d) (plain_words e) (not_failed d) (not_failed e) same in
    plain_same d e x s y t parts.0 parts.1
