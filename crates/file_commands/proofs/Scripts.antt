-- A script has one list of lines, and a list of events one list of orders.
use Rattle.std.proofs.Common.{◌≡◌, ℕ, ◌+◌, ◌<◌, Bool, true, false, List, [], ◌∷◌, ◌++◌, length, take, String, Global, Result, Ok, Err, string_bytes, refl, sym, ap, subst, ◌∙◌, append_assoc, arith}
use Rattle.std.specs.Prelude.{◌≢◌, MatchBool, IfOk, IfErr, MatchResult}
use Rattle.std.proofs.lemmas.List.{length-append, length-take-le, same_from_push}
use Rattle.text_tokens.specs.Words.{spaced}
use Rattle.pilot_basic.specs.declared.words.BasicEvent.{BasicEvent}
use Rattle.pilot_basic.specs.declared.words.BasicEvent.TheVariants.{Offer, GoDigital, DigitalEnded, Pilot, Feedback, Tick}
use Rattle.pilot_basic.specs.declared.words.BasicOrder.{BasicOrder}
use Rattle.pilot_basic.specs.declared.words.BasicOrder.TheVariants.{Duty}
use Rattle.pilot_basic.specs.declared.words.Mode.{Mode}
use Rattle.pilot_basic.specs.Duty.{IsDuty}
use Rattle.pilot_basic.specs.Machine.{Step, Acts, LeadsTo, IsRun, is_free, follows, mode_of, pilot_of, live_at, standing_at, with_step}
use Rattle.trace_text.specs.declared.reading.LineFault.{LineFault}
use Rattle.trace_text.specs.declared.reading.LineFault.TheVariants.{BadLine, Memory}
use Rattle.file_commands.specs.declared.lines.ScriptLine.{ScriptLine}
use Rattle.file_commands.specs.Scripts.{line_words, line_of, line_at, lines_of, printed_of, script_of, IsLine, AreLines, IsRead, IsReadSo, IsBadLine, IsPrinted}
use Rattle.file_commands.proofs.LineWords.{line_same}

line_length : (line : ScriptLine) → 0 < length (line_of line)
line_length line = omega (arith, length-append (spaced (line_words line)) (10 ∷ []))

-- a line is no empty text
pub some_line : (line : ScriptLine) (more : List ℕ) → line_of line ++ more ≡ [] → ⊥
some_line line more e = omega (arith, ap length e, length-append (line_of line) more, line_length line)

pub shorter : (text more : List ℕ) (line : ScriptLine) → text ≡ line_of line ++ more → length more < length text
shorter text more line e = omega (arith, ap length e, length-append (line_of line) more, line_length line)

-- ---- one list of lines for each text

same_lines : (a b : List ScriptLine) → AreLines a → AreLines b → script_of a ≡ script_of b → a ≡ b
same_lines [] [] x y e = refl
same_lines [] (b ∷ bs) x y e = absurd (some_line b (script_of bs) (sym e))
same_lines (a ∷ ls) [] x y e = absurd (some_line a (script_of ls) e)
same_lines (a ∷ ls) (b ∷ bs) x y e =
    let both = line_same a b (script_of ls) (script_of bs) x.0 y.0 e in
    let first : a ≡ b = both.0 in
    let rest = same_lines ls bs x.1 y.1 both.1 in
    cc

-- lines behind which a bad one follows aren't at the front of others
no_bad : (a b : List ScriptLine) (rest : List ℕ) → AreLines a → AreLines b → rest ≢ [] → ((line : ScriptLine) (more : List ℕ) → IsLine line → rest ≢ line_of line ++ more)
    → script_of a ++ rest ≡ script_of b → ⊥
no_bad [] [] rest x y some bad e = some e
no_bad [] (b ∷ bs) rest x y some bad e = bad b (script_of bs) y.0 e
no_bad (a ∷ ls) [] rest x y some bad e = some_line a (script_of ls ++ rest) (sym (append_assoc (line_of a) (script_of ls) rest) ∙ e)
no_bad (a ∷ ls) (b ∷ bs) rest x y some bad e =
    let both = line_same a b (script_of ls ++ rest) (script_of bs) x.0 y.0 (sym (append_assoc (line_of a) (script_of ls) rest) ∙ e) in
    no_bad ls bs rest x.1 y.1 some bad both.1

-- ---- one list of orders for each event

offered_same : (amps : ℕ) (free : Bool) (a b : List BasicOrder) → MatchBool free ((d : ℕ) × IsDuty amps d × (a ≡ Duty d ∷ [])) (a ≡ [])
    → MatchBool free ((d : ℕ) × IsDuty amps d × (b ≡ Duty d ∷ [])) (b ≡ []) → a ≡ b
offered_same amps true a b x y =
    let duty : x.0 ≡ y.0 = omega (arith, x.1.greatest y.0 y.1.allowed, y.1.greatest x.0 x.1.allowed) in
    x.2 ∙ ap (λ (d : ℕ). Duty d ∷ []) duty ∙ sym y.2
offered_same amps false a b x y = x ∙ sym y

acts_same : (mode : Mode) (live : Bool) (event : BasicEvent) (a b : List BasicOrder) → Acts mode live event a → Acts mode live event b → a ≡ b
acts_same mode live (Offer amps) a b x y = offered_same amps (is_free mode) a b x y
acts_same mode live GoDigital a b x y = x ∙ sym y
acts_same mode live DigitalEnded a b x y = x ∙ sym y
acts_same mode live (Pilot state) a b x y = x ∙ sym y
acts_same mode live (Feedback closed) a b x y = x ∙ sym y
acts_same mode live Tick a b x y = x ∙ sym y

leads_same : (past : List Step) (at : ℕ) (event : BasicEvent) (a b : List BasicOrder) → LeadsTo past at event a → LeadsTo past at event b → a ≡ b
leads_same past at event a b x y =
    let acted = acts_same _ _ event x.acted y.acted x.acts y.acts in
    let whole = λ (orders : List BasicOrder). orders ++ follows (mode_of (with_step past at event orders)) (pilot_of (with_step past at event orders)) (live_at (with_step past at event orders)) (standing_at (with_step past at event orders)) in
    x.whole ∙ ap whole acted ∙ sym y.whole

pub same_runs : (p q : List Step) → IsRun p → IsRun q → lines_of p ≡ lines_of q → p ≡ q
same_runs [] [] x y e = refl
same_runs [] (t ∷ q) x y e = absurd (omega (arith, ap length e, length-append (lines_of q) (line_at t ∷ [])))
same_runs (s ∷ p) [] x y e = absurd (omega (arith, ap length e, length-append (lines_of p) (line_at s ∷ [])))
same_runs (s ∷ p) (t ∷ q) x y e =
    let both = same_from_push (lines_of p) (lines_of q) (line_at s) (line_at t) e in
    let past : p ≡ q = same_runs p q x.0 y.0 both.0 in
    let line : line_at s ≡ line_at t = both.1 in
    let at : s.at ≡ t.at = ap (λ (l : ScriptLine). l.at) line in
    let event : s.event ≡ t.event = ap (λ (l : ScriptLine). l.event) line in
    let led : LeadsTo p s.at s.event t.orders =
    subst (λ (past : List Step). LeadsTo past s.at s.event t.orders) (sym past)
    (subst (λ (n : ℕ). LeadsTo q n s.event t.orders) (sym at) (subst (λ (v : BasicEvent). LeadsTo q t.at v t.orders) (sym event) y.1)) in
    let orders : s.orders ≡ t.orders = leads_same p s.at s.event s.orders t.orders x.1 led in
    let make : ℕ → BasicEvent → List BasicOrder → Step = λ at event orders. record { at = at; event = event; orders = orders } in
    let step : s ≡ t = ap (λ (n : ℕ). make n s.event s.orders) at ∙ ap (λ (v : BasicEvent). make t.at v s.orders) event ∙ ap (make t.at t.event) orders in
    ap (λ (x : Step). x ∷ p) step ∙ ap (λ (l : List Step). t ∷ l) past

-- ---- whole scripts

pub one_past : (script : List ℕ) (p q : List Step) → IsRead p script → IsRead q script → p ≡ q
one_past script p q x y = same_runs p q x.run y.run (same_lines (lines_of p) (lines_of q) x.lines y.lines (sym x.script_is ∙ y.script_is))

pub one_output : (script a b : List ℕ) → IsReadSo script a → IsReadSo script b → a ≡ b
one_output script a b x y = x.2 ∙ ap printed_of (one_past script x.0 y.0 x.1 y.1) ∙ sym y.2

pub not_bad : (script printed : List ℕ) (number : ℕ) → IsReadSo script printed → IsBadLine script number → ⊥
not_bad script printed number x bad =
    no_bad bad.0 (lines_of x.0) bad.1 bad.2.good x.1.lines bad.2.some bad.2.bad (sym bad.2.front ∙ x.1.script_is)

-- ---- one bad line

-- ---- the front of a text above the limit

pub whole_front : (script : List ℕ) (n : ℕ) → n < length script → n ≡ length (take n script)
whole_front script n over = sym (length-take-le n script (omega (arith, over)))

-- ---- what is answered

pub only_output : (script : List ℕ) (r : Result (String Global) LineFault) → IfOk r (λ given. IsReadSo script (string_bytes given)) → IfErr r (λ fault. (number : ℕ) → fault ≡ BadLine number → IsBadLine script number)
    → (printed : List ℕ) → IsPrinted script printed → MatchResult r (λ given. string_bytes given ≡ printed) (λ fault. fault ≡ Memory)
only_output script (Ok given) ok bad printed p = one_output script (string_bytes given) printed ok p.read
only_output script (Err Memory) ok bad printed p = refl
only_output script (Err (BadLine n)) ok bad printed p = absurd (not_bad script printed n p.read (bad n refl))
