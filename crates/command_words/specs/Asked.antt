-- Own: what words that are no command ask for.
use Rattle.std.specs.Prelude.{ℕ, if◌then◌else◌, List, [], ◌∷◌, codes}
use Rattle.std.specs.Str.{bytes_eq}
use Rattle.command_words.specs.declared.asked.Asked.{Asked}
use Rattle.command_words.specs.declared.asked.Asked.TheVariants.{Help, Version, Mistaken}

abbrev pub asked_of : List ℕ → Asked
asked_of word =
    if bytes_eq word (codes "--help") then Help
    else if bytes_eq word (codes "-h") then Help
    else if bytes_eq word (codes "help") then Help
    else if bytes_eq word (codes "--version") then Version
    else if bytes_eq word (codes "-V") then Version
    else if bytes_eq word (codes "version") then Version
    else Mistaken

-- by the first word alone
abbrev pub asked_by : List (List ℕ) → Asked
asked_by [] = Mistaken
asked_by (word ∷ more) = asked_of word
