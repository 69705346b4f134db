-- Own: the lines that tell why the program did not do its job. Each ends in a line feed.
use Rattle.std.specs.Prelude.{◌≡◌, ℕ, List, ◌++◌, Option, codes, decimal}
use Rattle.charge_world.specs.Outside.{Appends, AppendsSome}

-- the words are no command
abbrev pub words_line : List ℕ
words_line = codes "words\n"

-- a plan is refused, at a key, or `toml`
abbrev pub plan_line : List ℕ → List ℕ
plan_line key = codes "plan " ++ key ++ codes "\n"

-- an input is refused, at a character or at a bit
unfoldable pub input_line : ℕ → List ℕ
input_line place = codes "input " ++ decimal place ++ codes "\n"

-- the wire could not be started, or a hearing failed
abbrev pub wire_line : List ℕ
wire_line = codes "wire\n"

-- a file could not be read
abbrev pub source_line : List ℕ
source_line = codes "source\n"

-- the last turn was made
abbrev pub turns_line : List ℕ
turns_line = codes "turns\n"

-- the line was written; where the count of faults rose, from n to m, a front of it
pub record Tells (before after : Option (List ℕ)) (n m : ℕ) (line : List ℕ) : Type 0 where
  pub front : AppendsSome before after line
  pub whole : m ≡ n → Appends before after line
