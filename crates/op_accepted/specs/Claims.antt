-- What is proved of programs that break no rule.
use Rattle.std.specs.Prelude.{◌≡◌, ◌≤◌, ℕ, List, Ok, true, length}
use Rattle.op_check_unit.specs.Checking.{CheckIs}
use Rattle.op_check_unit.specs.Programs.{program_means}
use Rattle.op_core.specs.Sound.{IsSound, IsSoundNesting}
use Rattle.op_core.specs.declared.program.Core.{Core}
use Rattle.op_link.specs.Memory.{most_linked}
use Rattle.op_plain.specs.Plain.{is_plain_by, is_short}
use Rattle.op_sizes.specs.ProgramSize.{program_size}
use Rattle.op_tree.specs.File.{File}
use Rattle.op_accepted.specs.Fit.{any_text}

-- a program that the check accepts is of the class that is compiled, but for the lengths of its texts
abbrev pub AcceptedIsFit : Type 0
AcceptedIsFit =
    (files : List File) (order : List (List ℕ)) (core : Core) → CheckIs (program_means files order) (Ok core) → IsSound core → IsSoundNesting core → length order ≤ 1023
    → is_plain_by any_text core ≡ true

-- its texts are short, where its size is no more than an image may take
abbrev pub SmallIsShort : Type 0
SmallIsShort = (core : Core) → is_plain_by any_text core ≡ true → program_size core ≤ most_linked → is_plain_by is_short core ≡ true
