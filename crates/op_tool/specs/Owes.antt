-- What each answer of the tool owes, command by command: its cause, and what it writes.
use Rattle.std.specs.Prelude.{◌≡◌, ℕ, ◌<◌, ◌⊎◌, Option, Some, List, [], ◌++◌, codes, decimal, length, IfSome, IsSomeAnd}
use Rattle.op_base.specs.FileAnswer.{file_named}
use Rattle.op_base.specs.Outside.{Rose}
use Rattle.op_base.specs.Rule.{text_of_rule}
use Rattle.op_base.specs.declared.files.NamedFile.{NamedFile}
use Rattle.op_base.specs.declared.place.Place.{Place}
use Rattle.op_base.specs.declared.rule.Refusal.{Refusal}
use Rattle.op_base.specs.declared.rule.Rule.{Rule}
use Rattle.op_core.specs.declared.program.Core.{Core}
use Rattle.op_correctness.specs.Agrees.{EndsAsMeant, LooksAsMeant}
use Rattle.op_link.specs.declared.memory_map.Settings.{Settings}
use Rattle.op_listing.specs.Listing.{listing_of}
use Rattle.op_command.specs.Command.{Asked, IsCommand, IsNoCommand}
use Rattle.op_tool.specs.Compiles.{IsAccepted, IsBroken, IsTooLarge, Made, file_missing, main_start, meant}
use Rattle.op_tool.specs.Effects.{Effect, OnlyReports, OnlyWrites, ReportIs, line}
use Rattle.op_tool.specs.ImageRun.{OwesImage}
use Rattle.op_command.specs.declared.command.Verb.{Verb}
use Rattle.op_command.specs.declared.command.Verb.TheVariants as verb
use Rattle.op_tool.specs.declared.compiler.CompileError.{CompileError}
use Rattle.op_tool.specs.declared.compiler.CompileError.TheVariants as errors
use Rattle.op_tool.specs.declared.finish.Finish.{Finish}
use Rattle.op_tool.specs.declared.finish.Finish.TheVariants.{Ended, Usage, Refused, ReadFault, WriteFault, Spent, NoMemory, BadImage, Faulted, Limit}
use Rattle.op_units.specs.Walk.{IsMissing}

-- a call of the tool: its words, its files, how often these and its input had failed before and after it, and the image that it left
pub record Call : Type 0 where
  pub words : List (List ℕ)
  pub stored : Option (List NamedFile)
  pub file_faults_before : ℕ
  pub file_faults_after : ℕ
  pub input_faults_before : ℕ
  pub input_faults_after : ℕ
  pub image : List ℕ

abbrev pub call : List (List ℕ) → Option (List NamedFile) → ℕ → ℕ → ℕ → ℕ → List ℕ → Call
call words stored files files' input input' image =
    record { words = words; stored = stored; file_faults_before = files; file_faults_after = files'; input_faults_before = input; input_faults_after = input'; image = image }

-- opc: FILE:LINE:COL: Vn TEXT
abbrev pub refusal_line : List ℕ → Place → Rule → List ℕ → List ℕ
refusal_line file place rule text =
    line (codes "opc: " ++ file ++ codes ":" ++ decimal place.line ++ codes ":" ++ decimal place.col ++ codes ": V" ++ decimal rule.number ++ codes " " ++ text)

-- the line of a refusal of this file
abbrev pub Reports : List ℕ → Place → Rule → List ℕ → Type 0
Reports file place rule bytes =
    (text : List ℕ) × (text_of_rule rule ≡ Some text) × (bytes ≡ refusal_line file place rule text)

-- a refusal of this file was reported, and nothing else was done
abbrev pub OnlyRefuses : List ℕ → Place → Rule → Effect → Type 0
OnlyRefuses file place rule done = (bytes : List ℕ) × Reports file place rule bytes × OnlyReports bytes done

-- the line of a refusal of this file, unless there is no room for it
abbrev pub ReportsRefusal : List ℕ → Refusal → Finish → Option (List ℕ) → Option (List ℕ) → ℕ → ℕ → Type 0
ReportsRefusal file refusal answer before after count count' =
    ((bytes : List ℕ) × Reports file refusal.place refusal.rule bytes × ReportIs (Refused refusal.rule refusal.place) bytes answer before after count count')
    ⊎ ReportIs NoMemory (line (codes "opc: out of memory")) answer before after count count'

-- the line of an error in compiling
abbrev pub ReportsError : CompileError → Finish → Option (List ℕ) → Option (List ℕ) → ℕ → ℕ → Type 0
ReportsError (errors.Refused refusal file) answer before after count count' =
    ReportsRefusal file refusal answer before after count count'
ReportsError errors.ReadFault answer before after count count' =
    ReportIs ReadFault (line (codes "opc: read fault")) answer before after count count'
ReportsError errors.Limit answer before after count count' =
    ReportIs Limit (line (codes "opc: image too large")) answer before after count count'
ReportsError errors.NoMemory answer before after count count' =
    ReportIs NoMemory (line (codes "opc: out of memory")) answer before after count count'

-- the line of the condition that an image fails first, unless there is no room for it
abbrev pub ReportsBadImage : ℕ → Finish → Option (List ℕ) → Option (List ℕ) → ℕ → ℕ → Type 0
ReportsBadImage condition answer before after count count' =
    ReportIs (BadImage condition) (line (codes "opc: bad image: Elf" ++ decimal condition)) answer before after count count'
    ⊎ ReportIs NoMemory (line (codes "opc: out of memory")) answer before after count count'

-- a file could not be read, and nothing else was done: the input has failed as often as before
abbrev pub OnlyFailsToRead : Call → Effect → Type 0
OnlyFailsToRead now done =
    Rose now.file_faults_before now.file_faults_after × (now.input_faults_after ≡ now.input_faults_before) × OnlyReports (line (codes "opc: read fault")) done

-- what is checked: accepted, or refused by the first rule that is broken
abbrev pub OwesChecked : Call → List ℕ → Finish → Effect → Type 0
OwesChecked now name (Ended status) done = (status ≡ 0) × IsAccepted now.stored name × OnlyWrites (line (codes "ok")) done
OwesChecked now name (Refused rule place) done =
    (file : List ℕ) × IsBroken now.stored name file (record { rule = rule; place = place }) × OnlyRefuses file place rule done
OwesChecked now name ReadFault done = OnlyFailsToRead now done
OwesChecked now name NoMemory done = OnlyReports (line (codes "opc: out of memory")) done
OwesChecked now name _ done = ⊥

-- `check` of the file of this name, which leaves no image
abbrev pub OwesCheck : Call → List ℕ → Finish → Effect → Type 0
OwesCheck now name answer done = (now.image ≡ []) × OwesChecked now name answer done

-- a file of this name that is not compiled
abbrev pub OwesError : Call → List ℕ → Settings → Finish → Effect → Type 0
OwesError now name settings (Refused rule place) done =
    (file : List ℕ) × IsBroken now.stored name file (record { rule = rule; place = place }) × (now.image ≡ []) × OnlyRefuses file place rule done
OwesError now name settings ReadFault done = (now.image ≡ []) × OnlyFailsToRead now done
OwesError now name settings Limit done = IsTooLarge now.stored name settings × (now.image ≡ []) × OnlyReports (line (codes "opc: image too large")) done
OwesError now name settings NoMemory done = (now.image ≡ []) × OnlyReports (line (codes "opc: out of memory")) done
OwesError now name settings _ done = ⊥

-- The program has ended with that status, and this is what it has written and left. Where the input could not be read, the program comes to a step
-- that reads or looks at it: a program that does not never meets a fault of its input.
abbrev pub Means : Core → Settings → Finish → Effect → Type 0
Means core settings (Ended status) done = EndsAsMeant (meant core settings) done.input status done.out done.err done.left
Means core settings ReadFault done =
    (errors : List ℕ) × (done.err ≡ errors ++ line (codes "opc: read fault")) × LooksAsMeant (meant core settings) done.input done.out errors
Means core settings _ done = Unit {0}

-- an image that agrees with a program is never bad, and never faults
abbrev pub IsEndOfRun : Finish → Type 0
IsEndOfRun (Ended status) = Unit {0}
IsEndOfRun Spent = Unit {0}
IsEndOfRun ReadFault = Unit {0}
IsEndOfRun NoMemory = Unit {0}
IsEndOfRun _ = ⊥

-- What a program did that was compiled and run: its image agrees with it, and this is what the run of the image owes. Where that has ended, so has the
-- program.
pub record Executes (now : Call) (asked : Asked) (answer : Finish) (done : Effect) : Type 0 where
  pub made : Made now.stored asked.operand asked.settings now.image
  pub means : Means made.core asked.settings answer done
  pub is_end : IsEndOfRun answer
  pub owes : OwesImage now.image asked.steps now.input_faults_before now.input_faults_after answer done

-- `exec`
abbrev pub OwesExec : Call → Asked → Finish → Effect → Type 0
OwesExec now asked answer done = OwesError now asked.operand asked.settings answer done ⊎ Executes now asked answer done

-- an image of the program was written, and nothing else was done
abbrev pub WritesImage : Call → Asked → Finish → Effect → Type 0
WritesImage now asked answer done = (answer ≡ Ended 0) × Made now.stored asked.operand asked.settings now.image × OnlyWrites now.image done

-- `build`
abbrev pub OwesBuild : Call → Asked → Finish → Effect → Type 0
OwesBuild now asked answer done = OwesError now asked.operand asked.settings answer done ⊎ WritesImage now asked answer done

-- the listing of an image of the program was written, and nothing else was done, unless there was no room for it
abbrev pub WritesListing : Call → Asked → Finish → Effect → Type 0
WritesListing now asked (Ended status) done =
    (status ≡ 0) × Made now.stored asked.operand asked.settings now.image × OnlyWrites (listing_of now.image) done
WritesListing now asked NoMemory done =
    Made now.stored asked.operand asked.settings now.image × OnlyReports (line (codes "opc: out of memory")) done
WritesListing now asked _ done = ⊥

-- `list`
abbrev pub OwesList : Call → Asked → Finish → Effect → Type 0
OwesList now asked answer done = OwesError now asked.operand asked.settings answer done ⊎ WritesListing now asked answer done

-- these are the bytes of the file of this name
abbrev pub IsFile : Option (List NamedFile) → List ℕ → List ℕ → Type 0
IsFile stored name bytes = IfSome stored (λ files. file_named files name ≡ Some bytes)

-- the file of this name has more bytes than an image may have
abbrev pub IsTooLong : Option (List NamedFile) → List ℕ → Type 0
IsTooLong stored name = IfSome stored (λ files. IsSomeAnd (file_named files name) (λ bytes. 100663296 < length bytes))

-- the image is that file, and this is what its run owes
abbrev pub RunsFile : Call → List ℕ → ℕ → Finish → Effect → Type 0
RunsFile now name most finish done =
    IsFile now.stored name now.image × OwesImage now.image most now.input_faults_before now.input_faults_after finish done

-- `run` of the image of this name, which may do so many steps
abbrev pub OwesRun : Call → List ℕ → ℕ → Finish → Effect → Type 0
OwesRun now name most (Ended status) done = RunsFile now name most (Ended status) done
OwesRun now name most (Faulted kind pc) done = RunsFile now name most (Faulted kind pc) done
OwesRun now name most Spent done = RunsFile now name most Spent done
OwesRun now name most ReadFault done = ((now.image ≡ []) × OnlyFailsToRead now done) ⊎ RunsFile now name most ReadFault done
OwesRun now name most (BadImage condition) done =
    ((now.image ≡ []) × IsTooLong now.stored name × (condition ≡ 1) × OnlyReports (line (codes "opc: bad image: Elf" ++ decimal condition)) done)
    ⊎ RunsFile now name most (BadImage condition) done
OwesRun now name most (Refused rule place) done =
    (now.image ≡ []) × (rule ≡ file_missing) × (place ≡ main_start) × IsMissing now.stored name × OnlyRefuses name place rule done
OwesRun now name most NoMemory done = ((now.image ≡ []) ⊎ IsFile now.stored name now.image) × OnlyReports (line (codes "opc: out of memory")) done
OwesRun now name most Usage done = ⊥
OwesRun now name most WriteFault done = ⊥
OwesRun now name most Limit done = ⊥

-- words that are no command
abbrev pub OwesUsage : Finish → Effect → Type 0
OwesUsage Usage done = OnlyReports (line (codes "opc: bad command line")) done
OwesUsage finish done = ⊥

-- what each command owes
abbrev pub OwesCommand : Verb → Call → Asked → Finish → Effect → Type 0
OwesCommand verb.Exec now asked finish done = OwesExec now asked finish done
OwesCommand verb.Build now asked finish done = OwesBuild now asked finish done
OwesCommand verb.Check now asked finish done = OwesCheck now asked.operand finish done
OwesCommand verb.List now asked finish done = OwesList now asked finish done
OwesCommand verb.Run now asked finish done = OwesRun now asked.operand asked.steps finish done

-- each answer with its cause, by what the words ask for
pub data Owes (now : Call) (finish : Finish) (done : Effect) : Type 0 where
  by_command : (asked : Asked) → IsCommand now.words asked → OwesCommand asked.verb now asked finish done → Owes now finish done
  by_none : IsNoCommand now.words → (now.image ≡ []) → OwesUsage finish done → Owes now finish done
