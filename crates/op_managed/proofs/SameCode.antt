-- The code that was made is the code of the definition, so what holds of that holds of it.
use Rattle.std.proofs.Common.{◌≡◌, ℕ, ◌-◌, ◌^◌, min, List, Result, Ok, Err, IfOk, sym, ap, ◌∙◌, subst, arith}
use Rattle.std.proofs.Math.Path.{fun_ext}
use Rattle.op_core.specs.declared.program.Core.{Core}
use Rattle.op_lower.specs.Lowers.{Lowers}
use Rattle.op_managed.specs.Managed.{Manages, goes_along}
use Rattle.op_meaning.specs.Frames.{Program, program_of}
use Rattle.op_meaning.specs.Start.{start}
use Rattle.op_mir.proofs.Following.{code_agrees}
use Rattle.op_mir.specs.Code.{Instr, blocks_in}
use Rattle.op_mir.specs.Machine.{Code, code_of, mir_start}
use Rattle.op_mir.specs.View.{view_of}
use Rattle.op_mir.specs.declared.code.Mir.{Mir}
use Rattle.op_simulation.specs.Matching.{Agreement}

with_parts : Core → ℕ → (ℕ → ℕ) → (ℕ → List (List Instr)) → Code
with_parts core stack charge blocks = record { core = core; charge = charge; stack = stack; blocks = blocks }

same_code : (core : Core) (mir : Mir) (stack : ℕ) → Lowers core mir → code_of (program_of core stack) ≡ view_of core stack mir
unfolding with_parts
same_code core mir stack made =
    let p = program_of core stack in
    let charges : p.charge ≡ (view_of core stack mir).charge = fun_ext (λ r. sym (made.charges stack r)) in
    let blocks : blocks_in p ≡ (view_of core stack mir).blocks = fun_ext (λ r. sym (made.blocks stack r)) in
    ap (λ f. with_parts core stack f (blocks_in p)) charges ∙ ap (with_parts core stack (view_of core stack mir).charge) blocks

pub manages : (core : Core) (mir : Mir) → Lowers core mir → Manages core mir
manages core mir made stack plain input =
    let p = program_of core stack in
    let along : Code → Type 0 = λ c. Agreement (goes_along p c) (start p input) (mir_start p input) in
    subst along (same_code core mir stack made) (code_agrees p plain input)

pub all_manage : {E : Type 0} (core : Core) (result : Result Mir E) → IfOk result (Lowers core) → IfOk result (Manages core)
all_manage core (Ok mir) h = manages core mir h
all_manage core (Err error) h = h
