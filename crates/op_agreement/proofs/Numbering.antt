-- What code takes is among the literals of the program.
use Rattle.std.proofs.Common.{◌≡◌, ℕ, suc, ◌+◌, List, [], ◌∷◌, ◌++◌, length, flat_map, refl, subst, arith, true}
use Rattle.std.proofs.lemmas.List.Concat.{flat_map-cons}
use Rattle.op_agreement.proofs.Standing.{literals_split}
use Rattle.op_agreement.specs.Settings.{AreLiterals}
use Rattle.op_constants.proofs.Distinct.{among_first, among_later, program_among, routines_among}
use Rattle.op_constants.specs.Literals.{block_literals, literals_of, routine_literals, routines_literals}
use Rattle.op_constants.specs.Texts.{is_among}
use Rattle.op_core.specs.declared.program.Core.{Core}
use Rattle.op_mir.specs.declared.code.Block.{Block}
use Rattle.op_mir.specs.declared.code.Mir.{Mir}
use Rattle.op_mir.specs.declared.code.Routine.{Routine}

-- ---- texts that are among others

each_among : (all texts : List (List ℕ)) → ((text : List ℕ) → is_among text texts ≡ true → is_among text all ≡ true) → AreLiterals all texts
each_among all [] there = tt
each_among all (text ∷ texts) there = (there text (among_first text texts), each_among all texts (λ other h. there other (among_later other text texts h)))

-- ---- those of the routines, and those of the program's own code

pub routines_numbered : (core : Core) (mir : Mir) → AreLiterals (literals_of core mir) (routines_literals core 0 mir.routines)
routines_numbered core mir = each_among (literals_of core mir) (routines_literals core 0 mir.routines) (routines_among core mir)

pub program_numbered : (core : Core) (mir : Mir) → AreLiterals (literals_of core mir) (routine_literals core (length mir.routines) mir.program)
program_numbered core mir = each_among (literals_of core mir) (routine_literals core (length mir.routines) mir.program) (program_among core mir)

-- ---- the literals of the first, and of what is behind it

pub routine_numbered : (core : Core) (all : List (List ℕ)) (r : ℕ) (x : Routine) (xs : List Routine) → AreLiterals all (routines_literals core r (x ∷ xs)) → AreLiterals all (routine_literals core r x) × AreLiterals all (routines_literals core (r + 1) xs)
routine_numbered core all r x xs literals =
    let (here, behind) = literals_split all (routine_literals core r x) (routines_literals core (suc r) xs) literals in
    let next : suc r ≡ r + 1 = omega arith in
    (here, subst (λ n. AreLiterals all (routines_literals core n xs)) next behind)

pub block_numbered : (core : Core) (all : List (List ℕ)) (r : ℕ) (b : Block) (bs : List Block) → AreLiterals all (flat_map (block_literals core r) (b ∷ bs)) → AreLiterals all (block_literals core r b) × AreLiterals all (flat_map (block_literals core r) bs)
block_numbered core all r b bs literals =
    literals_split all (block_literals core r b) (flat_map (block_literals core r) bs) (subst (AreLiterals all) (flat_map-cons (block_literals core r) b bs) literals)
