-- What a map of files answers.
use Rattle.std.specs.Prelude.{◌≡◌, ℕ, ◌<◌, ◌≤◌, Option, Some, None, List, length, find, option_map, IfSome, IsSomeAnd}
use Rattle.std.specs.Str.{bytes_eq}
use Rattle.op_base.specs.Outside.{Rose}
use Rattle.op_base.specs.declared.files.NamedFile.{NamedFile}
use Rattle.op_base.specs.declared.files.FileAnswer.{FileAnswer}
use Rattle.op_base.specs.declared.files.FileAnswer.TheVariants.{Found, Long, Missing, Failed}

-- the bytes of the file of this name, the newest one where there are several
abbrev pub file_named : List NamedFile → List ℕ → Option (List ℕ)
file_named files name = option_map (λ file. file.bytes) (find (λ file. bytes_eq file.name name) files)

-- each answer with its cause; `before` and `after` are the counts of faults
abbrev pub Answers : Option (List NamedFile) → List ℕ → ℕ → ℕ → ℕ → FileAnswer → Type 0
Answers stored name most before after (Found bytes) =
    (length bytes ≤ most) × IfSome stored (λ files. file_named files name ≡ Some bytes)
Answers stored name most before after Long =
    IfSome stored (λ files. IsSomeAnd (file_named files name) (λ bytes. most < length bytes))
Answers stored name most before after Missing = IfSome stored (λ files. file_named files name ≡ None)
Answers stored name most before after Failed = Rose before after
