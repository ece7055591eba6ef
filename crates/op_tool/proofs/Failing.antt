-- An error in checking or compiling, as the answer of a command.
use Rattle.std.proofs.Common.{◌≡◌, ℕ, Option, List, [], codes, inl, refl}
use Rattle.op_emu.specs.Acts.{streams, faults}
use Rattle.op_link.specs.declared.memory_map.Settings.{Settings}
use Rattle.op_command.specs.Command.{Asked}
use Rattle.op_tool.specs.Compiles.{FailsAs, FailsToCheck}
use Rattle.op_tool.specs.Effects.{Effect, OnlyReports, Says, line}
use Rattle.op_tool.specs.Owes.{Call, OwesBuild, OwesCheck, OwesCommand, OwesError, OwesExec, OwesList, ReportsError}
use Rattle.op_command.specs.declared.command.Verb.{Verb}
use Rattle.op_command.specs.declared.command.Verb.TheVariants as verb
use Rattle.op_tool.specs.declared.compiler.CompileError.{CompileError}
use Rattle.op_tool.specs.declared.compiler.CompileError.TheVariants as errors
use Rattle.op_tool.specs.declared.finish.Finish.{Finish}
use Rattle.op_tool.specs.declared.finish.Finish.TheVariants.{ReadFault, Limit, NoMemory}
use Rattle.op_tool.proofs.Saying.{says_also, says_no_memory, says_refused, says_report}

says_error : (now : Call) (name : List ℕ) (settings : Settings) (error : CompileError) (answer : Finish) (i o e e' : Option (List ℕ)) (r r' n c c' : ℕ) → FailsAs now.stored name settings now.file_faults_before now.file_faults_after error → now.input_faults_after ≡ now.input_faults_before → now.image ≡ [] → ReportsError error answer e e' c c' → Says (OwesError now name settings) answer (streams i i o o e e') (faults r r' n n c c')
says_error now name settings (errors.Refused refusal file) answer i o e e' r r' n c c' refused same empty is =
    says_refused (OwesError now name settings) file file refusal answer i o e e' r r' n c c' refl (λ done only. (file, refused, empty, only)) (λ done only. (empty, only)) is
says_error now name settings errors.ReadFault answer i o e e' r r' n c c' rose same empty is =
    says_report (OwesError now name settings) ReadFault answer (line (codes "opc: read fault")) i o e e' r r' n c c' (λ other. cc) (λ input. (empty, (rose, same, (refl, refl, refl)))) is
says_error now name settings errors.Limit answer i o e e' r r' n c c' large same empty is =
    says_report (OwesError now name settings) Limit answer (line (codes "opc: image too large")) i o e e' r r' n c c' (λ other. cc) (λ input. (large, empty, (refl, refl, refl))) is
says_error now name settings errors.NoMemory answer i o e e' r r' n c c' free same empty is =
    says_no_memory (OwesError now name settings) answer i o e e' r r' n c c' (λ done only. (empty, only)) is

pub says_exec_error : (now : Call) (asked : Asked) (error : CompileError) (answer : Finish) (i o e e' : Option (List ℕ)) (r r' n c c' : ℕ) → FailsAs now.stored asked.operand asked.settings now.file_faults_before now.file_faults_after error → now.input_faults_after ≡ now.input_faults_before → now.image ≡ [] → ReportsError error answer e e' c c' → Says (OwesExec now asked) answer (streams i i o o e e') (faults r r' n n c c')
says_exec_error now asked error answer i o e e' r r' n c c' failed same empty is =
    says_also (OwesError now asked.operand asked.settings) (OwesExec now asked) answer (streams i i o o e e') (faults r r' n n c c') (λ answer done bytes owes. inl owes) (says_error now asked.operand asked.settings error answer i o e e' r r' n c c' failed same empty is)

pub says_build_error : (now : Call) (asked : Asked) (error : CompileError) (answer : Finish) (i o e e' : Option (List ℕ)) (r r' n c c' : ℕ) → FailsAs now.stored asked.operand asked.settings now.file_faults_before now.file_faults_after error → now.input_faults_after ≡ now.input_faults_before → now.image ≡ [] → ReportsError error answer e e' c c' → Says (OwesBuild now asked) answer (streams i i o o e e') (faults r r' n n c c')
says_build_error now asked error answer i o e e' r r' n c c' failed same empty is =
    says_also (OwesError now asked.operand asked.settings) (OwesBuild now asked) answer (streams i i o o e e') (faults r r' n n c c') (λ answer done bytes owes. inl owes) (says_error now asked.operand asked.settings error answer i o e e' r r' n c c' failed same empty is)

pub says_list_error : (now : Call) (asked : Asked) (error : CompileError) (answer : Finish) (i o e e' : Option (List ℕ)) (r r' n c c' : ℕ) → FailsAs now.stored asked.operand asked.settings now.file_faults_before now.file_faults_after error → now.input_faults_after ≡ now.input_faults_before → now.image ≡ [] → ReportsError error answer e e' c c' → Says (OwesList now asked) answer (streams i i o o e e') (faults r r' n n c c')
says_list_error now asked error answer i o e e' r r' n c c' failed same empty is =
    says_also (OwesError now asked.operand asked.settings) (OwesList now asked) answer (streams i i o o e e') (faults r r' n n c c') (λ answer done bytes owes. inl owes) (says_error now asked.operand asked.settings error answer i o e e' r r' n c c' failed same empty is)

pub says_check_error : (now : Call) (name : List ℕ) (error : CompileError) (answer : Finish) (i o e e' : Option (List ℕ)) (r r' n c c' : ℕ) → FailsToCheck now.stored name now.file_faults_before now.file_faults_after error → now.input_faults_after ≡ now.input_faults_before → now.image ≡ [] → ReportsError error answer e e' c c' → Says (OwesCheck now name) answer (streams i i o o e e') (faults r r' n n c c')
says_check_error now name (errors.Refused refusal file) answer i o e e' r r' n c c' broken same empty is =
    says_refused (OwesCheck now name) file file refusal answer i o e e' r r' n c c' refl (λ done only. (empty, (file, broken, only))) (λ done only. (empty, only)) is
says_check_error now name errors.ReadFault answer i o e e' r r' n c c' rose same empty is =
    says_report (OwesCheck now name) ReadFault answer (line (codes "opc: read fault")) i o e e' r r' n c c' (λ other. cc) (λ input. (empty, (rose, same, (refl, refl, refl)))) is
says_check_error now name errors.Limit answer i o e e' r r' n c c' never same empty is = absurd never
says_check_error now name errors.NoMemory answer i o e e' r r' n c c' free same empty is =
    says_no_memory (OwesCheck now name) answer i o e e' r r' n c c' (λ done only. (empty, only)) is

-- want of memory before anything was done
pub owes_no_memory : (one : Verb) (now : Call) (asked : Asked) (done : Effect) → now.image ≡ [] → OnlyReports (line (codes "opc: out of memory")) done → OwesCommand one now asked NoMemory done
owes_no_memory verb.Exec now asked done empty only = inl (empty, only)
owes_no_memory verb.Build now asked done empty only = inl (empty, only)
owes_no_memory verb.Check now asked done empty only = (empty, only)
owes_no_memory verb.List now asked done empty only = inl (empty, only)
owes_no_memory verb.Run now asked done empty only = (inl empty, only)
