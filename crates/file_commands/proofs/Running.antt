-- Reading a script line by line.
use Rattle.std.proofs.Common.{◌≡◌, ℕ, ◌+◌, ◌≤◌, max, true, List, [], ◌∷◌, ◌++◌, length, Result, Ok, Err, sym, ap, ◌∙◌, append_assoc, arith}
use Rattle.std.specs.Prelude.{OnOk}
use Rattle.std.specs.Result.{is_ok}
use Rattle.std.proofs.lemmas.Grind.{flat_map-append}
use Rattle.std.proofs.lemmas.List.{append-nil, length_push}
use Rattle.pilot_basic.specs.declared.words.BasicOrder.{BasicOrder}
use Rattle.pilot_basic.specs.Machine.{Step, State, IsRun, LeadsTo, now_of, state_of}
use Rattle.file_commands.specs.declared.lines.ScriptLine.{ScriptLine}
use Rattle.file_commands.specs.Scripts.{line_of, line_at, lines_of, order_lines, printed_of, script_of, IsLine, AreLines}
use Rattle.file_commands.proofs.Scripts.{shorter}

-- some lines were read, and this is left of the script
pub record IsRunning (past : List Step) (script : List ℕ) (basic : State) (now number : ℕ) (printed rest : List ℕ) : Type 0 where
  pub run : IsRun past
  pub lines : AreLines (lines_of past)
  pub front : script ≡ script_of (lines_of past) ++ rest
  pub state : basic ≡ state_of past
  pub now_is : now ≡ now_of past
  pub number_is : number ≡ length (lines_of past) + 1
  pub few : number + length rest ≤ length script + 1
  pub printed_is : printed ≡ printed_of past

abbrev pub Runs : List ℕ → State → ℕ → ℕ → List ℕ → List ℕ → Type 0
Runs script basic now number printed rest = (past : List Step) × IsRunning past script basic now number printed rest

are_more : (lines : List ScriptLine) (line : ScriptLine) → AreLines lines → IsLine line → AreLines (lines ++ line ∷ [])
are_more [] line are is = (is, tt)
are_more (l ∷ lines) line are is = (are.0, are_more lines line are.1 is)

script_more : (lines : List ScriptLine) (line : ScriptLine) → script_of (lines ++ line ∷ []) ≡ script_of lines ++ line_of line
script_more lines line = flat_map-append line_of lines (line ∷ []) ∙ ap (λ (t : List ℕ). script_of lines ++ t) (append-nil (line_of line))

-- what a line was read and led to
pub record IsStep (past : List Step) (line : ScriptLine) (orders : List BasicOrder) (rest more : List ℕ) (basic : State) (now : ℕ) (printed lines : List ℕ) : Type 0 where
  pub is_line : IsLine line
  pub read : rest ≡ line_of line ++ more
  pub leads : LeadsTo past line.at line.event orders
  pub state : basic ≡ state_of (record { at = line.at; event = line.event; orders = orders } ∷ past)
  pub now_is : now ≡ max (now_of past) line.at
  pub printed_is : printed ≡ lines ++ order_lines now orders

pub running_more : (past : List Step) (script : List ℕ) (basic new : State) (now next number : ℕ) (printed text rest more : List ℕ) (line : ScriptLine) (orders : List BasicOrder)
    → IsRunning past script basic now number printed rest → IsStep past line orders rest more new next text printed → Runs script new next (number + 1) text more
running_more past script basic new now next number printed text rest more line orders r s =
    let step : Step = record { at = line.at; event = line.event; orders = orders } in (
      step ∷ past,
      record {
        run = (r.run, s.leads);
        lines = are_more (lines_of past) line r.lines s.is_line;
        front = r.front ∙ ap (λ (t : List ℕ). script_of (lines_of past) ++ t) s.read ∙ sym (append_assoc (script_of (lines_of past)) (line_of line) more) ∙ ap (λ (t : List ℕ). t ++ more) (sym (script_more (lines_of past) line));
        state = s.state;
        now_is = s.now_is;
        number_is = omega (arith, r.number_is, length_push (lines_of past) (line_at step));
        few = omega (arith, r.few, shorter rest more line s.read);
        printed_is = s.printed_is ∙ ap (λ (t : List ℕ). t ++ order_lines next orders) r.printed_is ∙ ap (λ (n : ℕ). printed_of past ++ order_lines n orders) s.now_is;
      },
    )

-- what holds where a call succeeded, which it did
pub on_ok : {T E : Type 0} (r : Result T E) (P : Type 0) → is_ok r ≡ true → OnOk r P → P
on_ok (Ok x) P ok h = h
on_ok (Err e) P ok h = absurd cc
