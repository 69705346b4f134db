-- The words of a line, and a line at the front of a text.
use Rattle.std.proofs.Common.{◌≡◌, ℕ, ◌+◌, ◌<◌, Bool, true, false, ◌==◌, List, [], ◌∷◌, ◌++◌, length, rules, refl, sym, ap, ◌∙◌, append_assoc, arith}
use Rattle.std.specs.Prelude.{nat_le}
use Rattle.std.specs.List.{slice_split}
use Rattle.std.proofs.lemmas.Fmt.{decimal_injective}
use Rattle.std.proofs.lemmas.List.Elements.{All-weaker}
use Rattle.std.proofs.lemmas.List.Splits.{slice_split_at}
use Rattle.std.proofs.lemmas.List.Sums.{AllPass-from_list_all}
use Rattle.text_tokens.specs.Words.{spaced, IsWord, AreWords}
use Rattle.text_tokens.proofs.Cuts.{is_space}
use Rattle.text_tokens.proofs.Splits.{cut_spaced, decimal_word, line_bytes, same_line, spaced_cut}
use Rattle.charge_world.specs.declared.heard.PilotState.{PilotState}
use Rattle.charge_world.specs.declared.heard.PilotState.TheVariants as pilot
use Rattle.trace_text.specs.TraceText.{pilot_word, feedback_word}
use Rattle.pilot_basic.specs.declared.words.BasicEvent.{BasicEvent}
use Rattle.pilot_basic.specs.declared.words.BasicEvent.TheVariants.{Offer, Pilot, Feedback}
use Rattle.pilot_basic.specs.Machine.{IsInRange}
use Rattle.file_commands.specs.declared.lines.ScriptLine.{ScriptLine}
use Rattle.file_commands.specs.Scripts.{event_words, line_words, line_of, IsLine, IsCut}

-- ---- words

pilot_is : (s : PilotState) → IsWord (pilot_word s)
pilot_is pilot.A = refl
pilot_is _ = refl

feedback_is : (closed : Bool) → IsWord (feedback_word closed)
feedback_is true = refl
feedback_is false = refl

event_are : (event : BasicEvent) → IsInRange event → AreWords (event_words event)
event_are (Pilot state) is = (refl, (pilot_is state, tt))
event_are (Offer amps) is = (refl, (decimal_word amps (omega (arith, is.1)), tt))
event_are (Feedback closed) is = (refl, (feedback_is closed, tt))
event_are _ is = (refl, tt)

pub words_are : (line : ScriptLine) → IsLine line → AreWords (line_words line)
words_are line is = (decimal_word line.at is.0, event_are line.event is.1)

pub some_words : (line : ScriptLine) → 0 < length (line_words line)
some_words line = omega arith

-- ---- one line for each list of words

pilot_same : (s t : PilotState) → pilot_word s ≡ pilot_word t → s ≡ t
pilot_same pilot.A pilot.A e = refl
pilot_same _ _ e = search rules

feedback_same : (s t : Bool) → feedback_word s ≡ feedback_word t → s ≡ t
feedback_same true true e = refl
feedback_same false false e = refl
feedback_same _ _ e = search rules

event_same : (d e : BasicEvent) → IsInRange d → IsInRange e → event_words d ≡ event_words e → d ≡ e
event_same (Pilot s) (Pilot t) x y e = ap Pilot (pilot_same s t cc)
event_same (Offer a) (Offer b) x y e = ap Offer (decimal_injective a b (omega arith) (omega arith) cc)
event_same (Feedback s) (Feedback t) x y e = ap Feedback (feedback_same s t cc)
event_same _ _ x y e = search rules

pub words_same : (d e : ScriptLine) → IsLine d → IsLine e → line_words d ≡ line_words e → d ≡ e
words_same d e x y said =
    let at : d.at ≡ e.at = decimal_injective d.at e.at x.0 y.0 cc in
    let event : d.event ≡ e.event = event_same d.event e.event x.1 y.1 cc in
    let make : ℕ → BasicEvent → ScriptLine = λ at event. record { at = at; event = event } in
    ap (λ (n : ℕ). make n d.event) at ∙ ap (make e.at) event

-- no two lines begin one text
pub line_same : (d e : ScriptLine) (more less : List ℕ) → IsLine d → IsLine e → line_of d ++ more ≡ line_of e ++ less → (d ≡ e) × (more ≡ less)
line_same d e more less x y said =
    let both = same_line (line_words d) (line_words e) more less (words_are d x) (words_are e y) (some_words d) (some_words e) said in
    (words_same d e x y both.0, both.1)

-- ---- a line at the front of a text

abbrev is_feed : ℕ → Bool
is_feed byte = byte == 10

no_feed : (c : ℕ) → nat_le 32 c ≡ true → is_feed c ≡ false
no_feed c h = grind arith

line_split : (line : ScriptLine) (more : List ℕ) → IsLine line → slice_split is_feed (line_of line ++ more) ≡ spaced (line_words line) ∷ slice_split is_feed more
line_split line more is =
    let words = line_words line in
    let none = All-weaker (λ c. nat_le 32 c ≡ true) (λ c. is_feed c ≡ false) no_feed (spaced words) (AllPass-from_list_all (λ c. nat_le 32 c) (spaced words) (line_bytes words (words_are line is))) in
    ap (slice_split is_feed) (append_assoc (spaced words) (10 ∷ []) more) ∙ slice_split_at is_feed (spaced words) 10 more none refl

pub line_read : (text front rest : List ℕ) (line : ScriptLine) → IsCut text front rest → slice_split is_space front ≡ line_words line → text ≡ line_of line ++ rest
line_read text front rest line cut words =
    let same : front ≡ spaced (line_words line) = sym (spaced_cut front) ∙ ap spaced words in
    cut.whole ∙ ap (λ (t : List ℕ). t ++ 10 ∷ rest) same ∙ sym (append_assoc (spaced (line_words line)) (10 ∷ []) rest)

pub words_at : (text front rest more : List ℕ) (line : ScriptLine) → IsCut text front rest → IsLine line → text ≡ line_of line ++ more → slice_split is_space front ≡ line_words line
words_at text front rest more line cut is said =
    let parts : front ∷ slice_split is_feed rest ≡ spaced (line_words line) ∷ slice_split is_feed more =
    sym (slice_split_at is_feed front 10 rest cut.first refl) ∙ ap (slice_split is_feed) (sym cut.whole ∙ said) ∙ line_split line more is in
    let same : front ≡ spaced (line_words line) = cc in
    ap (slice_split is_space) same ∙ cut_spaced (line_words line) (words_are line is) (some_words line)
