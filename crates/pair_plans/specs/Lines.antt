-- Own: the lines that are printed of sessions over the pipe.
use Rattle.std.specs.Prelude.{ℕ, List, ◌++◌, codes, decimal}
use Rattle.pipe_spec.specs.Counts.{Counts}

-- `exchanges N cause C`
abbrev pub talk_line : ℕ → ℕ → List ℕ
talk_line exchanges cause = codes "exchanges " ++ (decimal exchanges ++ (codes " cause " ++ (decimal cause ++ codes "\n")))

-- `sessions N replies R bytes B closed C opened O`
abbrev pub generated_line : ℕ → Counts → List ℕ
generated_line sessions counts =
    codes "sessions " ++ (decimal sessions ++ (codes " replies " ++ (decimal counts.replies ++ (codes " bytes " ++ (decimal counts.bytes
    ++ (codes " closed " ++ (decimal counts.closed ++ (codes " opened " ++ (decimal counts.opened ++ codes "\n")))))))))
