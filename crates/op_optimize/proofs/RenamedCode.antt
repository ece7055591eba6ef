-- Code with other names for its registers is valid, and thinner.
use Rattle.std.proofs.Common.{◌≡◌, ℕ, zero, suc, ◌-◌, ◌^◌, ◌≤◌, Bool, true, false, ◌&&◌, if◌then◌else◌, Option, Some, None, List, [], ◌∷◌, map, slice_get, length, nat_eq, nat_lt, refl, ap, sym, ◌∙◌, subst, arith}
use Rattle.std.proofs.lemmas.Bool.{and_from, and_parts, leb-true, le-leb, lt-ltb, ltb-true}
use Rattle.std.specs.List.{list_all}
use Rattle.op_low.specs.Valid.{address_fits, branch_fits, call_at_fits, call_fits, const_fits, has, has_all, has_block, has_landing, has_symbol, imm_fits, is_sized, is_valid, is_valid_block, is_valid_instruction, is_valid_routine, leaves, leaves_if, local_fits, operands_fit, shift_fits, takes}
use Rattle.op_low.specs.declared.code.Block.{Block}
use Rattle.op_low.specs.declared.code.Low.{Low}
use Rattle.op_low.specs.declared.code.Routine.{Routine}
use Rattle.op_low.specs.declared.ids.VirtualRegister.{VirtualRegister}
use Rattle.op_low.specs.declared.instruction.Call.{Call as Operands}
use Rattle.op_low.specs.declared.instruction.Instruction.{Instruction}
use Rattle.op_low.specs.declared.instruction.Instruction.TheVariants.{Const, Address, Local, Move, Alu, AluImm, Shift, Load, Store, Call, CallAt, Branch, Jump, Return, Raise, Read, Write, Exit}
use Rattle.op_rv.specs.declared.symbol.BlockId.{BlockId}
use Rattle.op_rv.specs.declared.symbol.Symbol.{Symbol}
use Rattle.op_rv.specs.declared.symbol.Symbol.TheVariants.{Literal, Table, Descriptor, Global, Routine as RoutineSymbol}
use Rattle.op_optimize.specs.Each.{Each, NoneLeft, OneMore as Another}
use Rattle.op_optimize.specs.Programs.{EachRoutine}
use Rattle.op_optimize.specs.Renaming.{RenamesRoutine, Stays, Renamed, is_idle, renamed, renamed_block, renamed_call, renamed_code, renamed_instruction, renamed_routine}
use Rattle.op_optimize.specs.Thinning.{Kept, LeftOut, NoBlocks, NoRoutines, Nothing, OneMore, OneRoutineMore, Thins, ThinsBlocks, ThinsRoutine, ThinsRoutines}
use Rattle.op_optimize.specs.Weights.{low_weight}
use Rattle.op_optimize.proofs.Acting.{map_length}
use Rattle.op_optimize.proofs.Naming.{Good, good, named_within}
use Rattle.op_optimize.proofs.RenamedRuns.{same_instruction}
use Rattle.op_optimize.proofs.Standing.{each_many}

-- ---- thinner

no_more_weight : (names : List ℕ) (i : Instruction) → low_weight (renamed_instruction names i) ≤ low_weight i
unfolding renamed_instruction renamed_call
no_more_weight names (Const to n) = omega arith
no_more_weight names (Address to symbol) = omega arith
no_more_weight names (Local to offset) = omega arith
no_more_weight names (Move to from) = omega arith
no_more_weight names (Alu op to left right) = omega arith
no_more_weight names (AluImm op to left imm) = omega arith
no_more_weight names (Shift op to left amount) = omega arith
no_more_weight names (Load op to base offset) = omega arith
no_more_weight names (Store op v base offset) = omega arith
no_more_weight names (Call id call) = let same = map_length (renamed names) call.arguments in omega arith
no_more_weight names (CallAt address call) = let same = map_length (renamed names) call.arguments in omega arith
no_more_weight names (Branch op left right block) = omega arith
no_more_weight names (Jump block) = omega arith
no_more_weight names (Return v) = omega arith
no_more_weight names Raise = omega arith
no_more_weight names (Read to buffer size) = omega arith
no_more_weight names (Write output buffer size) = omega arith
no_more_weight names (Exit status) = omega arith

one_thinner : (names : List ℕ) (i : Instruction) (is js : List Instruction) (idle : Bool) → Thins is js → Thins (i ∷ is) (if idle then js else renamed_instruction names i ∷ js)
one_thinner names i is js true rest = LeftOut rest
one_thinner names i is js false rest = Kept (no_more_weight names i) rest

code_thins : (names : List ℕ) (code : List Instruction) → Thins code (renamed_code names code)
unfolding renamed_code
code_thins names [] = Nothing
code_thins names (i ∷ is) = one_thinner names i is (renamed_code names is) (is_idle names i) (code_thins names is)

same_thins : (code : List Instruction) → Thins code code
same_thins [] = Nothing
same_thins (i ∷ is) = Kept (omega arith) (same_thins is)

blocks_thin : (names : List ℕ) (blocks : List Block) → ThinsBlocks blocks (map (renamed_block names) blocks)
unfolding renamed_block
blocks_thin names [] = NoBlocks
blocks_thin names (b ∷ bs) = OneMore (code_thins names b.code) (blocks_thin names bs)

same_blocks_thin : (blocks : List Block) → ThinsBlocks blocks blocks
same_blocks_thin [] = NoBlocks
same_blocks_thin (b ∷ bs) = OneMore (same_thins b.code) (same_blocks_thin bs)

pub renaming_thins : (routine better : Routine) → RenamesRoutine routine better → ThinsRoutine routine better
unfolding renamed_routine
renaming_thins routine better (Stays same) =
    subst (ThinsRoutine routine) (sym same)
    (record { parameters = refl; locals = refl; registers = omega arith; blocks = same_blocks_thin routine.blocks })
renaming_thins routine better (Renamed live names registers is same) =
    let fine = good live names registers routine is in
    subst (ThinsRoutine routine) (sym same)
    (record { parameters = refl; locals = refl; registers = fine.no_more; blocks = blocks_thin names routine.blocks })

thins_routines : (rs ts : List Routine) → Each RenamesRoutine rs ts → ThinsRoutines rs ts
thins_routines [] [] NoneLeft = NoRoutines
thins_routines [] (y ∷ ys) each = elim each [ ]
thins_routines (x ∷ xs) [] each = elim each [ ]
thins_routines (x ∷ xs) (y ∷ ys) (Another first rest) = OneRoutineMore (renaming_thins x y first) (thins_routines xs ys rest)

pub each_thins : (low better : Low) → EachRoutine RenamesRoutine low better → ThinsRoutines low.routines better.routines
each_thins low better each = thins_routines low.routines better.routines each.routines

-- ---- valid

at_most : (a b c : ℕ) → a ≤ b → b ≤ c → a ≤ c
at_most a b c first second = omega arith

-- the last instruction leaves the block
last_of_more : (i : Instruction) (is : List Instruction) → leaves_if (slice_get is (length is - 1)) ≡ true → leaves_if (slice_get (i ∷ is) (length (i ∷ is) - 1)) ≡ true
last_of_more i [] last = absurd cc
last_of_more i (j ∷ js) last =
    let at : length (i ∷ j ∷ js) - 1 ≡ suc (length (j ∷ js) - 1) = omega arith in
    ap (λ k. leaves_if (slice_get (i ∷ j ∷ js) k)) at ∙ last

last_of_rest : (i j : Instruction) (js : List Instruction) → leaves_if (slice_get (i ∷ j ∷ js) (length (i ∷ j ∷ js) - 1)) ≡ true → leaves_if (slice_get (j ∷ js) (length (j ∷ js) - 1)) ≡ true
last_of_rest i j js last =
    let at : length (i ∷ j ∷ js) - 1 ≡ suc (length (j ∷ js) - 1) = omega arith in
    sym (ap (λ k. leaves_if (slice_get (i ∷ j ∷ js) k)) at) ∙ last

last_alone : (names : List ℕ) (i : Instruction) → leaves_if (slice_get (i ∷ []) (length (i ∷ []) - 1)) ≡ true → leaves_if (slice_get (renamed_code names (i ∷ [])) (length (renamed_code names (i ∷ [])) - 1)) ≡ true
unfolding renamed_code is_idle renamed_instruction leaves
last_alone names (Const to n) last = absurd cc
last_alone names (Address to symbol) last = absurd cc
last_alone names (Local to offset) last = absurd cc
last_alone names (Move to from) last = absurd cc
last_alone names (Alu op to left right) last = absurd cc
last_alone names (AluImm op to left imm) last = absurd cc
last_alone names (Shift op to left amount) last = absurd cc
last_alone names (Load op to base offset) last = absurd cc
last_alone names (Store op v base offset) last = absurd cc
last_alone names (Call id call) last = absurd cc
last_alone names (CallAt address call) last = absurd cc
last_alone names (Branch op left right block) last = absurd cc
last_alone names (Jump block) last = refl
last_alone names (Return v) last = refl
last_alone names Raise last = refl
last_alone names (Read to buffer size) last = absurd cc
last_alone names (Write output buffer size) last = absurd cc
last_alone names (Exit status) last = refl

last_behind : (names : List ℕ) (i : Instruction) (js : List Instruction) (idle : Bool) → leaves_if (slice_get js (length js - 1)) ≡ true → leaves_if (slice_get (if idle then js else renamed_instruction names i ∷ js) (length (if idle then js else renamed_instruction names i ∷ js) - 1)) ≡ true
last_behind names i js true last = last
last_behind names i js false last = last_of_more (renamed_instruction names i) js last

last_one_more : (names : List ℕ) (i : Instruction) (is : List Instruction) → leaves_if (slice_get (renamed_code names is) (length (renamed_code names is) - 1)) ≡ true → leaves_if (slice_get (renamed_code names (i ∷ is)) (length (renamed_code names (i ∷ is)) - 1)) ≡ true
unfolding renamed_code
last_one_more names i is rest = last_behind names i (renamed_code names is) (is_idle names i) rest

last_leaves : (names : List ℕ) (code : List Instruction) → leaves_if (slice_get code (length code - 1)) ≡ true → leaves_if (slice_get (renamed_code names code) (length (renamed_code names code) - 1)) ≡ true
last_leaves names [] last = absurd cc
last_leaves names (i ∷ []) last = last_alone names i last
last_leaves names (i ∷ j ∷ js) last = last_one_more names i (j ∷ js) (last_leaves names (j ∷ js) (last_of_rest i j js last))

many_arguments : (names : List ℕ) (call : Operands) → length ((renamed_call names call).arguments) ≡ length call.arguments
unfolding renamed_call
many_arguments names call = map_length (renamed names) call.arguments

many_blocks : (names : List ℕ) (bs : List Block) → length (map (renamed_block names) bs) ≡ length bs
many_blocks names [] = refl
many_blocks names (b ∷ bs) = ap suc (many_blocks names bs)

has_itself : (routine : Routine) (r : VirtualRegister) → has routine r ≡ true → has routine (renamed [] r) ≡ true
unfolding renamed
has_itself routine r is = is

has_named : (live names : List ℕ) (registers : ℕ) (routine : Routine) → Good live names registers routine → (r : VirtualRegister) → has routine r ≡ true → has (renamed_routine names registers routine) (renamed names r) ≡ true
unfolding renamed_routine
has_named live names registers routine fine r is = lt-ltb _ _ (named_within live names registers routine fine r (ltb-true _ _ is))

same_takes : (rs ts : List Routine) → Each RenamesRoutine rs ts → (r arguments : ℕ) → takes (slice_get ts r) arguments ≡ takes (slice_get rs r) arguments
same_takes [] [] NoneLeft r arguments = refl
same_takes [] (y ∷ ys) each r arguments = elim each [ ]
same_takes (x ∷ xs) [] each r arguments = elim each [ ]
same_takes (x ∷ xs) (y ∷ ys) (Another first rest) zero arguments = let thins = renaming_thins x y first in ap (λ k. nat_eq k arguments) thins.parameters
same_takes (x ∷ xs) (y ∷ ys) (Another first rest) (suc r) arguments = same_takes xs ys rest r arguments

module _ (low better : Low) (each : EachRoutine RenamesRoutine low better) where
  same_symbol : (symbol : Symbol) → has_symbol better symbol ≡ has_symbol low symbol
  unfolding has_symbol
  same_symbol (Literal id) = ap (λ c. nat_lt id.0 c.literals) each.counts
  same_symbol (Table id) = ap (λ c. nat_lt id.0 c.tables) each.counts
  same_symbol (Descriptor id) = ap (λ c. nat_lt id.0 c.descriptors) each.counts
  same_symbol (Global id) = ap (λ gs. nat_lt id.0 (length gs)) each.globals
  same_symbol (RoutineSymbol id) = ap (nat_lt id.0) (each_many low.routines better.routines each.routines)

  module _ (names : List ℕ) (routine thinner : Routine) (named : (r : VirtualRegister) → has routine r ≡ true → has thinner (renamed names r) ≡ true) (locals : thinner.locals ≡ routine.locals) (blocks : length thinner.blocks ≡ length routine.blocks) where
    named_all : (rs : List VirtualRegister) → list_all (has routine) rs ≡ true → list_all (has thinner) (map (renamed names) rs) ≡ true
    named_all [] all = refl
    named_all (r ∷ rs) all = and_from _ _ (named r (and_parts _ _ all).0) (named_all rs (and_parts _ _ all).1)

    block_there : (block : BlockId) → has_block routine block ≡ true → has_block thinner block ≡ true
    block_there block is = ap (nat_lt block.0) blocks ∙ is

    landing_there : (landing : Option BlockId) → has_landing routine landing ≡ true → has_landing thinner landing ≡ true
    landing_there None is = refl
    landing_there (Some block) is = block_there block is

    operands_valid : (call : Operands) → operands_fit routine call ≡ true → operands_fit thinner (renamed_call names call) ≡ true
    unfolding operands_fit has_all renamed_call
    operands_valid call is =
        let two = and_parts _ _ is in
        let one = and_parts _ _ two.0 in
        and_from _ _ (and_from _ _ (named_all call.arguments one.0) (named call.to one.1)) (landing_there call.landing two.1)

    two_valid : (a b : VirtualRegister) → (has routine a && has routine b) ≡ true → (has thinner (renamed names a) && has thinner (renamed names b)) ≡ true
    two_valid a b is = and_from _ _ (named a (and_parts _ _ is).0) (named b (and_parts _ _ is).1)

    three_valid : (a b c : VirtualRegister) → (has routine a && has routine b && has routine c) ≡ true → (has thinner (renamed names a) && has thinner (renamed names b) && has thinner (renamed names c)) ≡ true
    three_valid a b c is = and_from _ _ (two_valid a b (and_parts _ _ is).0) (named c (and_parts _ _ is).1)

    instruction_valid : (i : Instruction) → is_valid_instruction low routine i ≡ true → is_valid_instruction better thinner (renamed_instruction names i) ≡ true
    unfolding is_valid_instruction renamed_instruction const_fits address_fits local_fits imm_fits shift_fits branch_fits call_fits call_at_fits
    instruction_valid (Const to n) is = and_from _ _ (named to (and_parts _ _ is).0) (and_parts _ _ is).1
    instruction_valid (Address to symbol) is = and_from _ _ (named to (and_parts _ _ is).0) (same_symbol symbol ∙ (and_parts _ _ is).1)
    instruction_valid (Local to offset) is = and_from _ _ (named to (and_parts _ _ is).0) (ap (nat_lt offset) locals ∙ (and_parts _ _ is).1)
    instruction_valid (Move to from) is = two_valid to from is
    instruction_valid (Alu op to left right) is = three_valid to left right is
    instruction_valid (AluImm op to left imm) is = and_from _ _ (two_valid to left (and_parts _ _ is).0) (and_parts _ _ is).1
    instruction_valid (Shift op to left amount) is = and_from _ _ (two_valid to left (and_parts _ _ is).0) (and_parts _ _ is).1
    instruction_valid (Load op to base offset) is = and_from _ _ (two_valid to base (and_parts _ _ is).0) (and_parts _ _ is).1
    instruction_valid (Store op v base offset) is = and_from _ _ (two_valid v base (and_parts _ _ is).0) (and_parts _ _ is).1
    instruction_valid (Call id call) is =
        let many : length ((renamed_call names call).arguments) ≡ length call.arguments = many_arguments names call in
        and_from _ _
        (ap (takes (slice_get better.routines id.0)) many ∙ same_takes low.routines better.routines each.routines id.0 (length call.arguments) ∙ (and_parts _ _ is).0)
        (operands_valid call (and_parts _ _ is).1)
    instruction_valid (CallAt address call) is = and_from _ _ (named address (and_parts _ _ is).0) (operands_valid call (and_parts _ _ is).1)
    instruction_valid (Branch op left right block) is = and_from _ _ (two_valid left right (and_parts _ _ is).0) (block_there block (and_parts _ _ is).1)
    instruction_valid (Jump block) is = block_there block is
    instruction_valid (Return v) is = named v is
    instruction_valid Raise is = refl
    instruction_valid (Read to buffer size) is = three_valid to buffer size is
    instruction_valid (Write output buffer size) is = two_valid buffer size is
    instruction_valid (Exit status) is = named status is

    one_more_valid : (i : Instruction) (js : List Instruction) (idle : Bool) → is_valid_instruction low routine i ≡ true → list_all (is_valid_instruction better thinner) js ≡ true → list_all (is_valid_instruction better thinner) (if idle then js else renamed_instruction names i ∷ js) ≡ true
    one_more_valid i js true first rest = rest
    one_more_valid i js false first rest = and_from _ _ (instruction_valid i first) rest

    code_valid : (code : List Instruction) → list_all (is_valid_instruction low routine) code ≡ true → list_all (is_valid_instruction better thinner) (renamed_code names code) ≡ true
    unfolding renamed_code
    code_valid [] all = refl
    code_valid (i ∷ is) all = one_more_valid i (renamed_code names is) (is_idle names i) (and_parts _ _ all).0 (code_valid is (and_parts _ _ all).1)

    same_code_valid : (code : List Instruction) → names ≡ [] → list_all (is_valid_instruction low routine) code ≡ true → list_all (is_valid_instruction better thinner) code ≡ true
    same_code_valid [] none all = refl
    same_code_valid (i ∷ is) none all =
        and_from _ _
        (subst (λ j. is_valid_instruction better thinner j ≡ true) (ap (λ ns. renamed_instruction ns i) none ∙ same_instruction i) (instruction_valid i (and_parts _ _ all).0))
        (same_code_valid is none (and_parts _ _ all).1)

    blocks_valid : (bs : List Block) → list_all (is_valid_block low routine) bs ≡ true → list_all (is_valid_block better thinner) (map (renamed_block names) bs) ≡ true
    unfolding is_valid_block renamed_block
    blocks_valid [] all = refl
    blocks_valid (b ∷ bs) all =
        let first = and_parts _ _ (and_parts _ _ all).0 in
        and_from _ _ (and_from _ _ (last_leaves names b.code first.0) (code_valid b.code first.1)) (blocks_valid bs (and_parts _ _ all).1)

    same_blocks_valid : names ≡ [] → (bs : List Block) → list_all (is_valid_block low routine) bs ≡ true → list_all (is_valid_block better thinner) bs ≡ true
    unfolding is_valid_block
    same_blocks_valid none [] all = refl
    same_blocks_valid none (b ∷ bs) all =
        let first = and_parts _ _ (and_parts _ _ all).0 in
        and_from _ _ (and_from _ _ first.0 (same_code_valid b.code none first.1)) (same_blocks_valid none bs (and_parts _ _ all).1)

  routine_valid : (routine thinner : Routine) → RenamesRoutine routine thinner → is_valid_routine low routine ≡ true → is_valid_routine better thinner ≡ true
  unfolding is_valid_routine is_sized renamed_routine
  routine_valid routine thinner (Stays same) valid =
      subst (λ r. is_valid_routine better r ≡ true) (sym same)
      (and_from _ _ (and_parts _ _ valid).0 (same_blocks_valid [] routine routine (has_itself routine) refl refl refl routine.blocks (and_parts _ _ valid).1))
  routine_valid routine thinner (Renamed live names registers is same) valid =
      let fine = good live names registers routine is in
      let sized = and_parts _ _ (and_parts _ _ valid).0 in
      let four = and_parts _ _ sized.0 in
      let three = and_parts _ _ four.0 in
      let two = and_parts _ _ three.0 in
      let most : registers ≤ 2 ^ 24 = at_most registers routine.registers (2 ^ 24) fine.no_more (leb-true routine.registers (2 ^ 24) two.1) in
      subst (λ r. is_valid_routine better r ≡ true) (sym same)
      (and_from _ _
      (and_from _ _ (and_from _ _ (and_from _ _ (and_from _ _ (le-leb _ _ fine.parameters) (le-leb _ _ most)) three.1) four.1) (ap (nat_lt 0) (many_blocks names routine.blocks) ∙ sized.1))
      (blocks_valid names routine (renamed_routine names registers routine) (has_named live names registers routine fine) refl (many_blocks names routine.blocks) routine.blocks (and_parts _ _ valid).1))

  routines_valid : (rs ts : List Routine) → Each RenamesRoutine rs ts → list_all (is_valid_routine low) rs ≡ true → list_all (is_valid_routine better) ts ≡ true
  routines_valid [] [] NoneLeft all = refl
  routines_valid [] (y ∷ ys) others all = elim others [ ]
  routines_valid (x ∷ xs) [] others all = elim others [ ]
  routines_valid (x ∷ xs) (y ∷ ys) (Another first rest) all = and_from _ _ (routine_valid x y first (and_parts _ _ all).0) (routines_valid xs ys rest (and_parts _ _ all).1)

  pub renaming_valid : is_valid low ≡ true → is_valid better ≡ true
  unfolding is_valid
  renaming_valid valid =
      and_from _ _
      (ap (λ id. takes (slice_get better.routines id.0) 0) each.entry ∙ same_takes low.routines better.routines each.routines low.entry.0 0 ∙ (and_parts _ _ valid).0)
      (routines_valid low.routines better.routines each.routines (and_parts _ _ valid).1)
