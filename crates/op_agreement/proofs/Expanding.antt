-- The low code of a program: each routine stands behind the run-time routines, its blocks in their order, and its error blocks last.
use Rattle.std.proofs.Common.{◌≡◌, ◌<◌, ◌≤◌, ℕ, zero, suc, ◌+◌, Bool, true, false, List, [], ◌∷◌, ◌++◌, length, flat_map, nat_eq, nat_lt, Option, Some, slice_get, refl, sym, ap, ◌∙◌, subst, arith, append_assoc, if◌then◌else◌}
use Rattle.std.proofs.lemmas.Bool.Decides.{nat_tests}
use Rattle.std.proofs.lemmas.Option.{slice_get_within}
use Rattle.op_agreement.proofs.Numbering.{block_numbered, program_numbered, routine_numbered, routines_numbered}
use Rattle.op_agreement.specs.Coding.{front_of}
use Rattle.op_agreement.specs.Settings.{AreLiterals, BlockStands, IsExpanded, Setting}
use Rattle.op_base.proofs.Lists.{slice_get-behind, stays_front}
use Rattle.op_compute.specs.Bank.{place_of_error}
use Rattle.op_compute.specs.Meaning.{number_of_error}
use Rattle.op_compute.specs.declared.bank.RuntimeError.{RuntimeError}
use Rattle.op_compute.specs.declared.bank.RuntimeError.TheVariants.{DivisionByZero, RangeCheck, StackOverflow, IntegerOverflow}
use Rattle.op_constants.specs.Literals.{block_literals, literals_of, routine_literals, routines_literals}
use Rattle.op_core.proofs.Agreeing.{some_is}
use Rattle.op_core.specs.declared.program.Core.{Core}
use Rattle.op_expand.specs.Calls.{closing_number, has_closing, runtime}
use Rattle.op_expand.specs.Closing.{closing_routine, closing_routines}
use Rattle.op_places.specs.Frames.{frame_of}
use Rattle.op_expand.specs.Programs.{low_of, routines_from}
use Rattle.op_expand.specs.Routines.{all_blocks, beginning, blocks_of, code_of, error_block, error_blocks, error_code, low_parameters, low_routine, most_charge, routine_with}
use Rattle.op_places.specs.declared.frame.Frame.{Frame}
use Rattle.op_low.specs.State.{block_of, code_or, routine_or}
use Rattle.op_low.specs.declared.code.Block.{Block as LowBlock}
use Rattle.op_low.specs.declared.code.Routine.{Routine as LowRoutine}
use Rattle.op_low.specs.declared.instruction.Instruction.{Instruction as LowInstruction}
use Rattle.op_mir.specs.View.{routine_at}
use Rattle.op_mir.specs.declared.code.Block.{Block}
use Rattle.op_mir.specs.declared.code.Mir.{Mir}
use Rattle.op_mir.specs.declared.code.Routine.{Routine}
use Rattle.op_rt_text.specs.Running.{HasRuntime}
use Rattle.op_rt_text.specs.Runtime.{runtime_routines}

-- ---- blocks

-- what stands in front of the block of a number: there is something in front of the first one alone
abbrev front_at : List LowInstruction → (k : ℕ) → List LowInstruction
front_at front zero = front
front_at front (suc k) = []

-- where nothing stands in front of the first one, nothing does anywhere
no_front : (k : ℕ) → front_at [] k ≡ []
no_front zero = refl
no_front (suc k) = refl

-- a routine's beginning is what stands in front of its first block
begins_so : (core : Core) (frame : Frame) (r k : ℕ) → front_at (beginning core frame r) k ≡ front_of core frame r k
begins_so core frame r zero = refl
begins_so core frame r (suc k) = refl

module _ (core : Core) (mir : Mir) (all : List (List ℕ)) where
  -- what is found is the low code of the block, whose literals have the numbers from `id` on
  record IsLowBlock (frame : Frame) (r : ℕ) (front : List LowInstruction) (found : Option LowBlock) (b : Block) : Type 0 where
    at : found ≡ Some (record { code = front ++ code_of core mir frame all b.code })
    literals : AreLiterals all (block_literals core r b)

  -- each block is found at its number
  block_stands : (frame : Frame) (r : ℕ) (bs : List Block) (k : ℕ) (front : List LowInstruction) (b : Block) → slice_get bs k ≡ Some b → AreLiterals all (flat_map (block_literals core r) bs) → IsLowBlock frame r (front_at front k) (slice_get (blocks_of core mir frame all front bs) k) b
  block_stands frame r [] k front b is literals = absurd (cc)
  block_stands frame r (c ∷ bs) zero front b is literals =
      let own = (block_numbered core all r c bs literals).0 in
      let first : LowBlock = record { code = front ++ code_of core mir frame all c.code } in
      subst (IsLowBlock frame r front (Some first)) (some_is is) (record { at = refl; literals = own })
  block_stands frame r (c ∷ bs) (suc k) front b is literals =
      let behind = (block_numbered core all r c bs literals).1 in
      subst (λ f. IsLowBlock frame r f (slice_get (blocks_of core mir frame all [] bs) k) b) (no_front k) (block_stands frame r bs k [] b is behind)

  -- ---- routines

  -- what is found is the low code of the routine, and what it takes is among the literals
  pub record IsLowRoutine (r : ℕ) (found : Option LowRoutine) (x : Routine) : Type 0 where
    pub at : found ≡ Some (low_routine core mir all r x)
    pub literals : AreLiterals all (routine_literals core r x)

  -- each routine is found at its place
  routine_stands : (xs : List Routine) (r k n : ℕ) (x : Routine) → n ≡ r + k → slice_get xs k ≡ Some x → AreLiterals all (routines_literals core r xs) → IsLowRoutine n (slice_get (routines_from core mir all r xs) k) x
  routine_stands [] r k n x number is literals = absurd (cc)
  routine_stands (y ∷ xs) r zero n x number is literals =
      let own = (routine_numbered core all r y xs literals).0 in
      let here : r ≡ n = omega (arith, number) in
      let first = Some (low_routine core mir all r y) in
      let stands = subst (IsLowRoutine r first) (some_is is) (record { at = refl; literals = own }) in
      subst (λ m. IsLowRoutine m first x) here stands
  routine_stands (y ∷ xs) r (suc k) n x number is literals =
      let behind = (routine_numbered core all r y xs literals).1 in
      routine_stands xs (r + 1) k n x (omega (arith, number)) is behind

-- no block and no routine is left out
blocks_count : (core : Core) (mir : Mir) (frame : Frame) (texts : List (List ℕ)) (front : List LowInstruction) (bs : List Block) → length (blocks_of core mir frame texts front bs) ≡ length bs
blocks_count core mir frame texts front [] = refl
blocks_count core mir frame texts front (b ∷ bs) = ap suc (blocks_count core mir frame texts [] bs)

routines_count : (core : Core) (mir : Mir) (texts : List (List ℕ)) (r : ℕ) (xs : List Routine) → length (routines_from core mir texts r xs) ≡ length xs
routines_count core mir texts r [] = refl
routines_count core mir texts r (x ∷ xs) = ap suc (routines_count core mir texts (r + 1) xs)

-- the block at the place of an error ends the program with that error and its line
error_is : (e : RuntimeError) → code_or (slice_get error_blocks (place_of_error e)) ≡ error_code (number_of_error e) (3 + place_of_error e)
error_is DivisionByZero = refl
error_is RangeCheck = refl
error_is StackOverflow = refl
error_is IntegerOverflow = refl

-- what is charged no more than a stack may have is whole
is_whole : (core : Core) (mir : Mir) (texts : List (List ℕ)) (r : ℕ) (x : Routine) → x.charge ≤ most_charge → low_routine core mir texts r x ≡ routine_with (low_parameters core r) (frame_of core r x).locals (all_blocks core mir texts r x)
is_whole core mir texts r x charge =
    let under : nat_lt most_charge x.charge ≡ false = grind (arith, nat_tests) in
    ap (λ over. if over then routine_with (low_parameters core r) 0 (error_block 202 5 ∷ []) else routine_with (low_parameters core r) (frame_of core r x).locals (all_blocks core mir texts r x)) under

-- ---- the whole program

module _ (core : Core) (mir : Mir) (stack : ℕ) where
  from : List LowRoutine
  from = routines_from core mir (literals_of core mir) 0 mir.routines

  last : LowRoutine
  last = low_routine core mir (literals_of core mir) (length mir.routines) mir.program

  -- behind the run-time routines
  others : (low_of core mir stack).routines ≡ runtime_routines ++ (from ++ last ∷ closing_routines core mir stack)
  unfolding from last
  others = append_assoc runtime_routines from (last ∷ closing_routines core mir stack)

  -- the program's routines have their numbers behind those of the run-time routines
  behind_runtime : (r : ℕ) → slice_get (low_of core mir stack).routines (runtime + r) ≡ slice_get (from ++ last ∷ closing_routines core mir stack) r
  behind_runtime r = ap (λ rs. slice_get rs (runtime + r)) others ∙ slice_get-behind runtime_routines (from ++ last ∷ closing_routines core mir stack) r

  -- a routine of the program, or the program itself, whose number is the next one
  found_by : (main : Bool) (r : ℕ) (x : Routine) → nat_eq r (length mir.routines) ≡ main → (if main then Some mir.program else slice_get mir.routines r) ≡ Some x → IsLowRoutine core mir (literals_of core mir) r (slice_get (from ++ last ∷ closing_routines core mir stack) r) x
  unfolding from last
  found_by true r x main is =
      let number : length mir.routines ≡ r = grind (arith, nat_tests) in
      let count : length from + 0 ≡ length mir.routines = omega (arith, routines_count core mir (literals_of core mir) 0 mir.routines) in
      let at = subst (λ k. slice_get (from ++ last ∷ closing_routines core mir stack) k ≡ Some last) count (slice_get-behind from (last ∷ closing_routines core mir stack) 0) in
      let stands : IsLowRoutine core mir (literals_of core mir) (length mir.routines) (slice_get (from ++ last ∷ closing_routines core mir stack) (length mir.routines)) mir.program = record { at = at; literals = program_numbered core mir } in
      subst (λ k. IsLowRoutine core mir (literals_of core mir) k (slice_get (from ++ last ∷ closing_routines core mir stack) k) x) number (subst (IsLowRoutine core mir (literals_of core mir) (length mir.routines) (slice_get (from ++ last ∷ closing_routines core mir stack) (length mir.routines))) (some_is is) stands)
  found_by false r x main is =
      let stands = routine_stands core mir (literals_of core mir) mir.routines 0 r r x (omega arith) is (routines_numbered core mir) in
      record { at = stays_front from (last ∷ closing_routines core mir stack) r (low_routine core mir (literals_of core mir) r x) stands.at; literals = stands.literals }

  -- with the run-time routines in front
  found_low : (r : ℕ) (x : Routine) → routine_at mir r ≡ Some x → IsLowRoutine core mir (literals_of core mir) r (slice_get (low_of core mir stack).routines (runtime + r)) x
  found_low r x is = subst (λ found. IsLowRoutine core mir (literals_of core mir) r found x) (sym (behind_runtime r)) (found_by (nat_eq r (length mir.routines)) r x refl is)

-- ---- what the agreement asks

module _ (g : Setting) (low : g.low ≡ low_of g.core g.mir g.stack) where
  -- the run-time routines stand in front of all others
  pub has_runtime : ((r : ℕ) → r < length runtime_routines → g.placement.frame r ≤ 64) → HasRuntime g.low g.placement
  has_runtime frames = record {
    others = from g.core g.mir g.stack ++ last g.core g.mir g.stack ∷ closing_routines g.core g.mir g.stack;
    routines = ap (λ l. l.routines) low ∙ others g.core g.mir g.stack;
    frames = frames;
  }

  -- the program begins with itself, which stands behind its routines
  pub entry : length g.mir.routines ≡ length g.core.routines → g.low.entry.0 ≡ runtime + length g.core.routines
  entry number = ap (λ l. l.entry.0) low ∙ ap (λ n. runtime + n) number

  -- the routine of a number is found behind the run-time routines, also where it is charged more than a stack may have
  pub low_found : (r : ℕ) (x : Routine) → routine_at g.mir r ≡ Some x → IsLowRoutine g.core g.mir (literals_of g.core g.mir) r (slice_get g.low.routines (runtime + r)) x
  low_found r x found =
      subst (λ l. IsLowRoutine g.core g.mir (literals_of g.core g.mir) r (slice_get l.routines (runtime + r)) x) (sym low) (found_low g.core g.mir g.stack r x found)

  -- the closing stands behind all others
  pub closing_made : has_closing g.core ≡ true → length g.mir.routines ≡ length g.core.routines → slice_get g.low.routines (closing_number g.core) ≡ Some (closing_routine g.core g.mir g.stack)
  unfolding from last
  closing_made closes number =
      let all = from g.core g.mir g.stack in
      let ends = last g.core g.mir g.stack ∷ closing_routines g.core g.mir g.stack in
      let at : closing_number g.core ≡ runtime + (length g.core.routines + 1) = omega arith in
      let count : length all + 1 ≡ length g.core.routines + 1 = omega (arith, routines_count g.core g.mir (literals_of g.core g.mir) 0 g.mir.routines, number) in
      ap (λ l. slice_get l.routines (closing_number g.core)) low
      ∙ ap (slice_get (low_of g.core g.mir g.stack).routines) at
      ∙ behind_runtime g.core g.mir g.stack (length g.core.routines + 1)
      ∙ subst (λ n. slice_get (all ++ ends) n ≡ slice_get (closing_routines g.core g.mir g.stack) 0) count (slice_get-behind all ends 1)
      ∙ ap (λ b. slice_get (if b then closing_routine g.core g.mir g.stack ∷ [] else []) 0) closes

  module _ (r : ℕ) (x : Routine) (found : routine_at g.mir r ≡ Some x) (charge : x.charge ≤ most_charge) where
    abbrev frame : Frame
    frame = frame_of g.core r x

    abbrev own_blocks : List LowBlock
    own_blocks = blocks_of g.core g.mir frame (literals_of g.core g.mir) (beginning g.core frame r) x.blocks

    -- it has the locals of its frame, and the error blocks behind its own ones
    low_is : slice_get g.low.routines (runtime + r) ≡ Some (routine_with (low_parameters g.core r) frame.locals (own_blocks ++ error_blocks))
    low_is = (low_found r x found).at ∙ ap Some (is_whole g.core g.mir (literals_of g.core g.mir) r x charge)

    block_is : (k : ℕ) → block_of g.low (runtime + r) k ≡ code_or (slice_get (own_blocks ++ error_blocks) k)
    block_is k = ap (λ o. code_or (slice_get (routine_or o).blocks k)) low_is

    -- each block of managed code stands behind what is in front of it
    block_expanded : (k : ℕ) (block : Block) → slice_get x.blocks k ≡ Some block → BlockStands g r frame k block
    block_expanded k block is =
        let stands = block_stands g.core g.mir (literals_of g.core g.mir) frame r x.blocks k (beginning g.core frame r) block is (low_found r x found).literals in
        let code = code_of g.core g.mir frame (literals_of g.core g.mir) block.code in
        let here : LowBlock = record { code = front_at (beginning g.core frame r) k ++ code } in
        record {
          literals = stands.literals;
          code = block_is k ∙ ap code_or (stays_front own_blocks error_blocks k here stands.at) ∙ ap (λ front. front ++ code) (begins_so g.core frame r k);
        }

    -- the error blocks stand behind all others
    error_expanded : (e : RuntimeError) → block_of g.low (runtime + r) (length x.blocks + place_of_error e) ≡ error_code (number_of_error e) (3 + place_of_error e)
    error_expanded e =
        let count = blocks_count g.core g.mir frame (literals_of g.core g.mir) (beginning g.core frame r) x.blocks in
        let there = subst (λ n. slice_get (own_blocks ++ error_blocks) (n + place_of_error e) ≡ slice_get error_blocks (place_of_error e)) count (slice_get-behind own_blocks error_blocks (place_of_error e)) in
        block_is (length x.blocks + place_of_error e) ∙ ap code_or there ∙ error_is e

    -- a routine that is charged no more than a stack may have stands in low code as the agreement asks
    pub is_expanded : IsExpanded g r x (frame_of g.core r x)
    is_expanded = record {
      exists = slice_get_within g.low.routines (runtime + r) (low_routine g.core g.mir (literals_of g.core g.mir) r x) (low_found r x found).at;
      parameters = ap (λ o. (routine_or o).parameters) low_is;
      locals = ap (λ o. (routine_or o).locals) low_is;
      blocks = block_expanded;
      errors = error_expanded;
    }
