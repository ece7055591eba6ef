-- What the frame of a routine needs is no more than the routine is charged, if its temporaries of record and array types take no more than the text
-- says.
use Rattle.std.proofs.Common.{◌≡◌, ◌≤◌, ℕ, zero, suc, ◌+◌, ◌*◌, max, Bool, true, false, ◌||◌, List, [], ◌∷◌, ◌++◌, length, map, nat_lt, Some, slice_get, refl, sym, ap, ap₂, ◌∙◌, subst, arith, if◌then◌else◌}
use Rattle.std.specs.List.{flat_map, list_any, sum_by}
use Rattle.std.proofs.Math.Path.{fun_ext}
use Rattle.std.proofs.lemmas.Bool.{or_from}
use Rattle.std.proofs.lemmas.Bool.Decides.{nat_tests}
use Rattle.std.proofs.lemmas.List.{length-map}
use Rattle.std.proofs.lemmas.List.Concat.{flat_map-cons}
use Rattle.std.proofs.lemmas.List.Sums.{sum_by-cons}
use Rattle.op_constants.specs.Offsets.{size_in}
use Rattle.op_constants.specs.Shapes.{is_composite}
use Rattle.op_core.specs.Rows.{rows}
use Rattle.op_core.specs.Sizes.{type_at}
use Rattle.op_core.specs.declared.ids.TypeId.{TypeId}
use Rattle.op_core.specs.declared.program.Core.{Core}
use Rattle.op_core.specs.declared.routine.Body.{Body}
use Rattle.op_core.specs.declared.routine.Role.TheVariants.{Object}
use Rattle.op_core.specs.declared.routine.Routine.{Routine as Row}
use Rattle.op_core.specs.declared.routine.Variable.{Variable}
use Rattle.op_places.specs.Frames.{parameters_of}
use Rattle.op_frames.proofs.ExpressionsWithin.{made_both}
use Rattle.op_frames.proofs.FramesUnder.{memory_words, reference_words}
use Rattle.op_frames.proofs.Lowered.{code_is, routine_under}
use Rattle.op_frames.proofs.MadeLemmas.{every_append}
use Rattle.op_frames.proofs.RegistersUnder.{covers_all, first_well}
use Rattle.op_frames.proofs.StatementsWithin.{all_well}
use Rattle.op_frames.proofs.WholesUnder.{AreApart, IsCovered, none_first, none_second, sum_covered}
use Rattle.op_frames.specs.Charged.{IsCharged}
use Rattle.op_frames.specs.Counted.{AreCountedStatements}
use Rattle.op_frames.specs.Fitting.{room_of_block, room_of_instruction}
use Rattle.op_frames.specs.Made.{AreMade, Every, IsCode}
use Rattle.op_frames.specs.Scratch.{action_room, given_room, givens_room, operand_room, operands_room, path_room, receiver_room, room_in}
use Rattle.op_frames.specs.Wholes.{ActionIn, AreWholesIn, GivenIn, ReceiverIn}
use Rattle.op_frames.specs.Within.{IsWithin}
use Rattle.op_lower.specs.Lowers.{IsRoutine}
use Rattle.op_lower.specs.Temporaries.{most_of}
use Rattle.op_meaning.specs.Calls.{env_of}
use Rattle.op_meaning.specs.Charge.{charge_of, is_open, nodes_of, statements_weight, variable_words, variables_weight, words_of}
use Rattle.op_meaning.specs.Expressions.{first_here}
use Rattle.op_meaning.specs.Frames.{program_of}
use Rattle.op_meaning.specs.Shapes.{is_reference, shape_of, variables_of}
use Rattle.op_meaning.specs.Statements.{first_items, work_of_all}
use Rattle.op_mir.specs.Code.{items_of}
use Rattle.op_mir.specs.FrameNeed.{action_words, call_words, code_words, each_once, first_words, frame_need, given_words, instruction_words, is_one_root, operand_words, path_words, receiver_words, roots_named, roots_of_action, roots_of_given, roots_of_instruction, roots_of_receiver, rounded, size_of_root, variable_bytes}
use Rattle.op_mir.specs.View.{view_action, view_block, view_computation, view_given, view_instruction, view_operand, view_path, view_receiver, view_step}
use Rattle.op_mir.specs.declared.action.Action.{Action}
use Rattle.op_mir.specs.declared.action.Action.TheVariants.{Constant, Load, Store, Copy, Look, BeginWith, Pick, Compute, Do}
use Rattle.op_mir.specs.declared.action.Computation.{Computation}
use Rattle.op_mir.specs.declared.action.Computation.TheVariants.{Arithmetic, Compare, Negate, Complement, Invert, Absolute, Odd, Upper, LowBits, Check, Neighbour, Single, Span, Combine, Contains, CheckSet}
use Rattle.op_mir.specs.declared.action.Operand.{Operand}
use Rattle.op_mir.specs.declared.action.Operand.TheVariants.{Number, Text, Literal}
use Rattle.op_mir.specs.declared.code.Block.{Block}
use Rattle.op_mir.specs.declared.code.Routine.{Routine}
use Rattle.op_mir.specs.declared.instruction.Given.{Given}
use Rattle.op_mir.specs.declared.instruction.Given.TheVariants.{ByValue, ByPlace, ByCopy}
use Rattle.op_mir.specs.declared.instruction.Instruction.{Instruction}
use Rattle.op_mir.specs.declared.instruction.Instruction.TheVariants.{Act, Call, Jump, When, Unless, Switch, Dispatch, MakeDue, OpenTemporaries, EndTemporary, Stop, Return}
use Rattle.op_mir.specs.declared.instruction.Receiver.{Receiver}
use Rattle.op_mir.specs.declared.instruction.Receiver.TheVariants.{Nowhere, Temporary as ToTemporary, Place}
use Rattle.op_mir.specs.declared.path.Path.{Path}
use Rattle.op_mir.specs.declared.path.Root.{Root}

-- ---- words that instructions work with are the scratch registers of their low code

path_as : (p : Path) → path_words p ≡ path_room (view_path p)
path_as p = ap (λ n. 1 + 2 * n) (sym (length-map p.steps view_step))

computation_as : (c : Computation) → 3 ≡ action_room (view_computation c)
computation_as (Arithmetic o checked to a b) = refl
computation_as (Compare o to a b) = refl
computation_as (Negate checked to a) = refl
computation_as (Complement to a) = refl
computation_as (Invert to a) = refl
computation_as (Absolute checked to a) = refl
computation_as (Odd to a) = refl
computation_as (Upper to a) = refl
computation_as (LowBits kind to a) = refl
computation_as (Check low high to a) = refl
computation_as (Neighbour distance low high to a) = refl
computation_as (Single to a) = refl
computation_as (Span to a b) = refl
computation_as (Combine o to a b) = refl
computation_as (Contains to a b) = refl
computation_as (CheckSet all to a) = refl

operand_as : (o : Operand) → operand_words o ≡ operand_room (view_operand o)
unfolding operand_words
operand_as (Number t) = refl
operand_as (Text path) = path_as path
operand_as (Literal text) = refl

operands_as : (os : List Operand) → sum_by operand_words os ≡ operands_room (map view_operand os)
operands_as [] = refl
operands_as (o ∷ os) = sum_by-cons operand_words o os ∙ ap₂ (λ a b. a + b) (operand_as o) (operands_as os)

given_as : (g : Given) → given_words g ≡ given_room (view_given g)
unfolding given_words
given_as (ByValue kind t) = refl
given_as (ByPlace path) = path_as path
given_as (ByCopy of path) = path_as path

givens_as : (gs : List Given) → sum_by given_words gs ≡ givens_room (map view_given gs)
givens_as [] = refl
givens_as (g ∷ gs) = sum_by-cons given_words g gs ∙ ap₂ (λ a b. a + b) (given_as g) (givens_as gs)

receiver_as : (y : Receiver) → receiver_words y ≡ receiver_room (view_receiver y)
unfolding receiver_words
receiver_as Nowhere = refl
receiver_as (ToTemporary t) = refl
receiver_as (Place of to) = path_as to

module _ (core : Core) (r : ℕ) where
  action_as : (a : Action) → action_words a ≡ action_room (view_action core r a)
  unfolding action_words
  action_as (Constant to n) = refl
  action_as (Load to kind from) = path_as from
  action_as (Store to kind from) = path_as to
  action_as (Copy of to from) = ap₂ (λ a b. a + b + 1) (path_as from) (path_as to)
  action_as (Look at) = ap (λ n. n + 1) (path_as at)
  action_as (BeginWith v) = refl
  action_as (Pick to text index) = refl
  action_as (Compute c) = computation_as c
  action_as (Do p operands to) = ap (λ n. 1 + n) (operands_as operands)

  instruction_as : (i : Instruction) → instruction_words i ≡ room_of_instruction core r i
  unfolding instruction_words call_words
  instruction_as (Act a landing) = action_as a
  instruction_as (Call q call) = ap₂ (λ a b. 1 + a + b) (receiver_as call.receiver) (givens_as call.given)
  instruction_as (Jump block) = refl
  instruction_as (When t block) = refl
  instruction_as (Unless t block) = refl
  instruction_as (Switch t arms) = refl
  instruction_as (Dispatch t block) = refl
  instruction_as (MakeDue f) = refl
  instruction_as (OpenTemporaries ts) = refl
  instruction_as (EndTemporary t) = refl
  instruction_as (Stop t) = refl
  instruction_as Return = refl

  pub words_as : (blocks : List Block) → code_words blocks ≡ most_of (room_of_block core r) blocks
  words_as blocks = ap (λ f. most_of (λ (b : Block). most_of f b.code) blocks) (fun_ext instruction_as)

-- ---- temporaries, each once

once_none : (root : Root) (rs : List Root) → list_any (is_one_root root) rs ≡ false → list_any (is_one_root root) (each_once rs) ≡ false
once_none root [] e = e
once_none root (x ∷ rs) e = by (list_any (is_one_root x) rs) refl (once_none root rs (none_second (is_one_root root x) (list_any (is_one_root root) rs) e))
  where
    by : (again : Bool) → list_any (is_one_root x) rs ≡ again → list_any (is_one_root root) (each_once rs) ≡ false → list_any (is_one_root root) (each_once (x ∷ rs)) ≡ false
    by true o more = rw o more
    by false o more =
        let goal = or_from (is_one_root root x) (list_any (is_one_root root) (each_once rs)) (none_first (is_one_root root x) (list_any (is_one_root root) rs) e) more in
        rw o goal

module _ (core : Core) where
  once_apart : (rs : List Root) → AreApart core (each_once rs)
  once_apart [] = tt
  once_apart (x ∷ rs) = by (list_any (is_one_root x) rs) refl (once_apart rs)
    where
      by : (again : Bool) → list_any (is_one_root x) rs ≡ again → AreApart core (each_once rs) → AreApart core (each_once (x ∷ rs))
      by true o more = rw o more
      by false o more = let goal : AreApart core (x ∷ each_once rs) = (once_none x rs o, more) in rw o goal

  module _ (wholes : List Root) where
    once_covered : (rs : List Root) → Every (IsCovered core wholes) rs → Every (IsCovered core wholes) (each_once rs)
    once_covered [] c = tt
    once_covered (x ∷ rs) c = by (list_any (is_one_root x) rs) refl (once_covered rs c.1)
      where
        by : (again : Bool) → list_any (is_one_root x) rs ≡ again → Every (IsCovered core wholes) (each_once rs) → Every (IsCovered core wholes) (each_once (x ∷ rs))
        by true o more = rw o more
        by false o more = let goal : Every (IsCovered core wholes) (x ∷ each_once rs) = (c.0, more) in rw o goal

    -- ---- those that code names

    action_covered : (r : ℕ) (a : Action) → ActionIn wholes (view_action core r a) → Every (IsCovered core wholes) (roots_of_action a)
    action_covered r (Load to kind from) c = (c, tt)
    action_covered r (Store to kind from) c = (c, tt)
    action_covered r (Copy of to from) c = (c.1, (c.0, tt))
    action_covered r (Look at) c = (c, tt)
    action_covered r (Constant to n) c = tt
    action_covered r (BeginWith v) c = tt
    action_covered r (Pick to text index) c = tt
    action_covered r (Compute k) c = tt
    action_covered r (Do p operands to) c = tt

    given_covered : (g : Given) → GivenIn wholes (view_given g) → Every (IsCovered core wholes) (roots_of_given g)
    given_covered (ByPlace path) c = (c, tt)
    given_covered (ByCopy of path) c = (c, tt)
    given_covered (ByValue kind t) c = tt

    givens_covered : (gs : List Given) → Every (GivenIn wholes) (map view_given gs) → Every (IsCovered core wholes) (flat_map roots_of_given gs)
    givens_covered [] c = tt
    givens_covered (g ∷ gs) c = subst (Every (IsCovered core wholes)) (sym (flat_map-cons roots_of_given g gs)) (every_append (IsCovered core wholes) (roots_of_given g) (flat_map roots_of_given gs) (given_covered g c.0) (givens_covered gs c.1))

    receiver_covered : (y : Receiver) → ReceiverIn wholes (view_receiver y) → Every (IsCovered core wholes) (roots_of_receiver y)
    receiver_covered (Place of to) c = (c, tt)
    receiver_covered Nowhere c = tt
    receiver_covered (ToTemporary t) c = tt

    instruction_covered : (r : ℕ) (i : Instruction) → AreWholesIn wholes (view_instruction core r i) → Every (IsCovered core wholes) (roots_of_instruction i)
    instruction_covered r (Act a landing) c = action_covered r a c
    instruction_covered r (Call q call) c = every_append (IsCovered core wholes) (flat_map roots_of_given call.given) (roots_of_receiver call.receiver) (givens_covered call.given c.0) (receiver_covered call.receiver c.1)
    instruction_covered r (Jump block) c = tt
    instruction_covered r (When t block) c = tt
    instruction_covered r (Unless t block) c = tt
    instruction_covered r (Switch t arms) c = tt
    instruction_covered r (Dispatch t block) c = tt
    instruction_covered r (MakeDue f) c = tt
    instruction_covered r (OpenTemporaries ts) c = tt
    instruction_covered r (EndTemporary t) c = tt
    instruction_covered r (Stop t) c = tt
    instruction_covered r Return c = tt

    code_covered : (r : ℕ) (code : List Instruction) → Every (AreWholesIn wholes) (map (view_instruction core r) code) → Every (IsCovered core wholes) (flat_map roots_of_instruction code)
    code_covered r [] c = tt
    code_covered r (i ∷ code) c = subst (Every (IsCovered core wholes)) (sym (flat_map-cons roots_of_instruction i code)) (every_append (IsCovered core wholes) (roots_of_instruction i) (flat_map roots_of_instruction code) (instruction_covered r i c.0) (code_covered r code c.1))

    abbrev roots_of_block : Block → List Root
    roots_of_block b = flat_map roots_of_instruction b.code

    blocks_covered : (r : ℕ) (bs : List Block) → Every (IsCode (AreWholesIn wholes)) (map (view_block core r) bs) → Every (IsCovered core wholes) (roots_named bs)
    blocks_covered r [] c = tt
    blocks_covered r (b ∷ bs) c =
        let code = c.0 in
        subst (Every (IsCovered core wholes)) (sym (flat_map-cons roots_of_block b bs)) (every_append (IsCovered core wholes) (roots_of_block b) (roots_named bs) (code_covered r b.code code.each) (blocks_covered r bs c.1))

    -- of a routine whose items name no others
    pub once_small : (stack r : ℕ) (routine : Routine) → IsRoutine core r routine → AreMade (AreWholesIn wholes) (length routine.blocks) (items_of (program_of core stack) r) → sum_by (size_of_root core) (each_once (roots_named routine.blocks)) ≤ sum_by (size_of_root core) wholes
    once_small stack r routine is made =
        let code = code_is (AreWholesIn wholes) core stack r routine (λ k some less. tt) tt is made in
        sum_covered core (each_once (roots_named routine.blocks)) wholes (once_apart (roots_named routine.blocks)) (once_covered (roots_named routine.blocks) (blocks_covered r routine.blocks code))

-- ---- variables

abbrev pub first_by : (refers some : Bool) → ℕ
first_by refers some = if refers then 2 else if some then 1 else 2

pub first_is : (parameters : ℕ) (v : Variable) (vs : List Variable) → first_words parameters (v ∷ vs) ≡ first_by (is_reference v.role) (nat_lt 0 parameters)
unfolding first_words
first_is parameters v vs = refl

module _ (core : Core) (opens : (of : TypeId) → is_open (type_at core of) ≡ true → size_in core of ≤ 12) where
  abbrev IsKept : Variable → Type 0
  IsKept v = IsCharged v.role × (v.role ≡ Object → size_in core v.of ≤ 4)

  bytes_small : (v : Variable) → IsKept v → variable_bytes core v ≤ 4 * variable_words core v v.role
  bytes_small v (charged, object) = by (is_reference v.role) refl
    where
      by : (refers : Bool) → is_reference v.role ≡ refers → (if refers then 0 else rounded (size_in core v.of)) ≤ 4 * variable_words core v v.role
      by true e = omega arith
      by false e = memory_words core opens v v.role charged e object

  variables_small : (vs : List Variable) → Every IsKept vs → sum_by (variable_bytes core) vs ≤ 4 * words_of (variables_weight core vs)
  variables_small [] kept = omega arith
  variables_small (v ∷ vs) (here, kept) =
      let e = sum_by-cons (variable_bytes core) v vs in
      let one = bytes_small v here in
      let rest = variables_small vs kept in
      omega (arith, e, one, rest)

  -- with what puts first values there, and the words in which parameters come
  none_words : (parameters : ℕ) → first_words parameters [] ≡ 1
  unfolding first_words
  none_words parameters = refl

  none_below : (n : ℕ) → nat_lt 0 n ≡ false → n ≡ 0
  none_below n e = grind (arith, nat_tests, e)

  firsts_small : (parameters : ℕ) (vs : List Variable) → ((of : TypeId) → is_composite (shape_of core of) ≡ false → 1 ≤ size_in core of) → parameters ≤ 64 → Every IsKept vs → 4 * parameters + 4 * first_words parameters vs + sum_by (variable_bytes core) vs ≤ 260 + 4 * words_of (variables_weight core vs)
  firsts_small parameters [] sizes few kept = let one = none_words parameters in let none = variables_small [] tt in omega (arith, few, one, none)
  firsts_small parameters (v ∷ vs) sizes few (here, kept) = by (is_reference v.role) (nat_lt 0 parameters) refl refl
    where
      by : (refers some : Bool) → is_reference v.role ≡ refers → nat_lt 0 parameters ≡ some → 4 * parameters + 4 * first_words parameters (v ∷ vs) + sum_by (variable_bytes core) (v ∷ vs) ≤ 260 + 4 * words_of (variables_weight core (v ∷ vs))
      by true some e f =
          let first : first_words parameters (v ∷ vs) ≡ 2 = first_is parameters v vs ∙ ap (λ b. first_by b (nat_lt 0 parameters)) e in
          let sum = sum_by-cons (variable_bytes core) v vs in
          let nothing : variable_bytes core v ≡ 0 = ap (λ b. if b then 0 else rounded (size_in core v.of)) e in
          let words = reference_words core opens parameters [] sizes v v.role e in
          let rest = variables_small vs kept in
          omega (arith, few, first, sum, nothing, words, rest)
      by false true e f =
          let first : first_words parameters (v ∷ vs) ≡ 1 = first_is parameters v vs ∙ ap (λ b. first_by b (nat_lt 0 parameters)) e ∙ ap (λ b. first_by false b) f in
          let all = variables_small (v ∷ vs) (here, kept) in
          omega (arith, few, first, all)
      by false false e f =
          let first : first_words parameters (v ∷ vs) ≡ 2 = first_is parameters v vs ∙ ap (λ b. first_by b (nat_lt 0 parameters)) e ∙ ap (λ b. first_by false b) f in
          let none = none_below parameters f in
          let all = variables_small (v ∷ vs) (here, kept) in
          omega (arith, first, none, all)

-- ---- needs

module _ (core : Core) (stack r : ℕ) (row : Row) (b : Body) (there : slice_get core.routines r ≡ Some row) (body : row.body ≡ Some b) where
  pub need_small : (routine : Routine) → IsRoutine core r routine → AreCountedStatements ((program_of core stack).body r)
      → ((of : TypeId) → is_open (type_at core of) ≡ true → size_in core of ≤ 12) → ((of : TypeId) → is_composite (shape_of core of) ≡ false → 1 ≤ size_in core of)
      → Every (λ v. IsCharged v.role × (v.role ≡ Object → size_in core v.of ≤ 4)) (rows core.variables (variables_of core r))
      → sum_by (size_of_root core) (each_once (roots_named routine.blocks)) ≤ 4 * words_of (statements_weight core ((program_of core stack).body r))
      → parameters_of core r ≤ 64
      → frame_need core r routine ≤ charge_of core (record { 0 = r })
  unfolding frame_need
  need_small routine is counted opens sizes kept wholes few =
      let p = program_of core stack in
      let nodes = nodes_of (statements_weight core (p.body r)) in
      let top = 2 * nodes in
      let room = 2 * nodes + 1 in
      let blocks = length routine.blocks in
      let firsts = first_well core blocks top room r (variables_of core r).count p.first in
      let work = all_well blocks top room (env_of p r) first_here (p.body r) counted (omega arith) (omega arith) in
      let made = made_both (IsWithin top room) blocks (first_items core p.first r (variables_of core r).count) (work_of_all (env_of p r) first_here (p.body r)) firsts work in
      let under = routine_under top room core stack r routine is made in
      let vs = rows core.variables (variables_of core r) in
      total (parameters_of core r) routine.temporaries (first_words (parameters_of core r) vs) (code_words routine.blocks) (most_of (room_of_block core r) routine.blocks) (sum_by (variable_bytes core) vs) (sum_by (size_of_root core) (each_once (roots_named routine.blocks)))
      (words_of (variables_weight core vs)) (words_of (statements_weight core (p.body r))) nodes (charge_of core (record { 0 = r }))
      under.0 (words_as core r routine.blocks) under.1 (firsts_small core opens (parameters_of core r) vs sizes few kept) (variables_small core opens vs kept) wholes few (covers_all core stack r row b there body)
    where
      total : (parameters temporaries firsts words rooms bytes wholes own more nodes charge : ℕ) → temporaries ≤ 2 * nodes → words ≡ rooms → rooms ≤ 2 * nodes + 1 → 4 * parameters + 4 * firsts + bytes ≤ 260 + 4 * own → bytes ≤ 4 * own → wholes ≤ 4 * more → parameters ≤ 64
          → 272 + 4 * own + 4 * more + 16 * nodes ≤ charge → 4 * (3 + parameters + temporaries + max firsts words) + bytes + wholes ≤ charge
      total parameters temporaries firsts words rooms bytes wholes own more nodes charge a b c d e f g h = omega (arith, a, b, c, d, e, f, g, h)
