-- The literals that every program has, in the order of their numbers. (Free Pascal User's Guide, "Run-time errors"; reference of the
-- unit System, "Write".)
use Rattle.std.specs.Prelude.{ℕ, List, [], ◌∷◌, ◌++◌, codes, replicate}
use Rattle.op_meaning.specs.Texts.{line_feed}

-- what a program that an error ends writes to its error stream
abbrev error_line : List ℕ → List ℕ
error_line number = codes "Runtime error " ++ number ++ line_feed

abbrev pub fixed_literals : List (List ℕ)
fixed_literals =
    replicate {A = ℕ} 64 32
    ∷ codes "TRUE"
    ∷ codes "FALSE"
    ∷ error_line (codes "200")
    ∷ error_line (codes "201")
    ∷ error_line (codes "202")
    ∷ error_line (codes "215")
    ∷ []
