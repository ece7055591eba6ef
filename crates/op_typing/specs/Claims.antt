-- What is proved of the types in managed code.
use Rattle.std.specs.Prelude.{◌≡◌, ℕ}
use Rattle.op_core.specs.Sound.{IsSound, IsSoundNesting}
use Rattle.op_core.specs.declared.program.Core.{Core}
use Rattle.op_meaning.specs.Frames.{program_of}
use Rattle.op_mir.specs.Code.{blocks_in, items_of}
use Rattle.op_mir.specs.View.{view_of}
use Rattle.op_mir.specs.declared.code.Mir.{Mir}
use Rattle.op_typing.specs.Simple.{IsSimpleProgram}
use Rattle.op_typing.specs.Typed.{AreTyped, AreTypedBlocks}

-- the items of each routine of a sound program without strings and references
abbrev pub ItemsAreTyped : Type 0
ItemsAreTyped =
    (core : Core) (stack : ℕ) → IsSound core → IsSoundNesting core → IsSimpleProgram core
    → (r : ℕ) → AreTyped core r (items_of (program_of core stack) r)

-- and the instructions of its blocks, and of the program's own code, which has the number behind those of all routines
abbrev pub CodeIsTyped : Type 0
CodeIsTyped =
    (core : Core) (stack : ℕ) → IsSound core → IsSoundNesting core → IsSimpleProgram core
    → (r : ℕ) → AreTypedBlocks core r (blocks_in (program_of core stack) r)

-- what its machine sees of managed code
abbrev pub IsTypedMir : Core → ℕ → Mir → Type 0
IsTypedMir core stack mir = (r : ℕ) → AreTypedBlocks core r ((view_of core stack mir).blocks r)

-- so code that was made is typed, where its machine sees the blocks of the definition
abbrev pub MirIsTyped : Type 0
MirIsTyped =
    (core : Core) (mir : Mir) (stack : ℕ) → IsSound core → IsSoundNesting core → IsSimpleProgram core
    → ((r : ℕ) → (view_of core stack mir).blocks r ≡ blocks_in (program_of core stack) r) → IsTypedMir core stack mir
