-- The literals of code are those of the items that it is made of: each is there once. What is said of what they count for is so whatever each counts
-- for, so it is also said of one of them alone.
use Rattle.std.proofs.Common.{◌≡◌, ◌≤◌, ℕ, zero, suc, ◌+◌, Bool, true, false, List, [], ◌∷◌, ◌++◌, length, map, length-append, refl, ap, arith, if◌then◌else◌}
use Rattle.std.proofs.lemmas.List.Concat.{flat_map-cons}
use Rattle.std.specs.List.{flat_map}
use Rattle.op_constants.specs.FirstBytes.{are_zeros, first_bytes}
use Rattle.op_constants.specs.Literals.{action_literals, block_literals, instruction_literals, operands_literals, routine_literals}
use Rattle.op_core.specs.Initial.{FirstValue}
use Rattle.op_core.specs.declared.ids.TypeId.{TypeId}
use Rattle.op_core.specs.declared.program.Core.{Core}
use Rattle.op_lower.specs.Seen.{seen, seen_blocks}
use Rattle.op_meaning.specs.Actions.{Action, begin_with, pick, primitive}
use Rattle.op_meaning.specs.Items.{Item, act, also, choose, select, loop, body_first, protect, leave, enter, scoped, attempt, throw, rethrow, halt, construct, free, Items, none, then_do, Turns, turns, Cases, no_cases, cases}
use Rattle.op_meaning.specs.Primitives.{Operand, from_temp, literal_text, text_at}
use Rattle.op_meaning.specs.Shapes.{Shape, composite, of_chars, of_elements, of_instance, shape_of, single, type_of_local}
use Rattle.op_meaning.specs.World.{Temporary}
use Rattle.op_mir.specs.Code.{Instr, do_act, do_call, jump, when, unless, switch, dispatch, make_due, open_temporaries, end_temporary, stop, ret, branch_if, branch_unless, Exits, is_jump, continued, loop_exits, finally_exits, ends, scope_exits, routine_exits, code, code_item, code_loop, code_cases, blocks_of}
use Rattle.op_mir.specs.View.{first_at, view_action, view_instruction, view_operand}
use Rattle.op_mir.specs.declared.action.Action.TheVariants.{BeginWith, Compute, Constant, Copy, Load, Look, Pick, Store, Do}
use Rattle.op_mir.specs.declared.action.Action.{Action as OwnAction}
use Rattle.op_mir.specs.declared.action.Operand.{Operand as OwnOperand}
use Rattle.op_mir.specs.declared.action.Operand.TheVariants.{Number, Text, Literal}
use Rattle.op_mir.specs.declared.code.Block.{Block}
use Rattle.op_mir.specs.declared.code.Routine.{Routine}
use Rattle.op_mir.specs.declared.instruction.Instruction.TheVariants.{Act, Call, Dispatch, EndTemporary, Jump, MakeDue, OpenTemporaries, Return, Stop, Switch, Unless, When}
use Rattle.op_mir.specs.declared.instruction.Instruction.{Instruction}

-- what texts count for, where each counts for so much
abbrev pub total : (List ℕ → ℕ) → List (List ℕ) → ℕ
total w [] = 0
total w (l ∷ ls) = w l + total w ls

pub total_join : (w : List ℕ → ℕ) (a b : List (List ℕ)) → total w (a ++ b) ≡ total w a + total w b
total_join w [] b = omega arith
total_join w (l ∷ a) b = let e = total_join w a b in omega (arith, e)

pub total_three : (w : List ℕ → ℕ) (a b c : List (List ℕ)) → total w (a ++ b ++ c) ≡ total w a + total w b + total w c
total_three w a b c = let e = total_join w (a ++ b) c in let f = total_join w a b in omega (arith, e, f)

-- what a variable begins with, if it does not begin as zero
abbrev pub first_text : Core → TypeId → FirstValue → List (List ℕ)
first_text core of value = if are_zeros (first_bytes core of value) then [] else first_bytes core of value ∷ []

module _ (w : List ℕ → ℕ) (core : Core) where
  -- ---- the literals of actions, of code and of items

  abbrev pub operands_text : List Operand → ℕ
  operands_text [] = 0
  operands_text (from_temp t ∷ os) = operands_text os
  operands_text (text_at path ∷ os) = operands_text os
  operands_text (literal_text bytes ∷ os) = w bytes + operands_text os

  abbrev pub action_text : Action → ℕ
  action_text (primitive p operands to) = operands_text operands
  action_text (pick to bytes index) = w bytes
  action_text (begin_with v of value) = total w (first_text core of value)
  action_text _ = 0

  abbrev pub instruction_text : Instr → ℕ
  instruction_text (do_act action landing) = action_text action
  instruction_text _ = 0

  abbrev pub code_text : List Instr → ℕ
  code_text [] = 0
  code_text (i ∷ is) = instruction_text i + code_text is

  abbrev pub blocks_text : List (List Instr) → ℕ
  blocks_text [] = 0
  blocks_text (code ∷ blocks) = code_text code + blocks_text blocks

abbrev mutual
  pub items_text : (List ℕ → ℕ) → Core → Items → ℕ
  items_text w core none = 0
  items_text w core (then_do i others) = item_text w core i + items_text w core others

  pub item_text : (List ℕ → ℕ) → Core → Item → ℕ
  item_text w core (act a) = action_text w core a
  item_text w core (also truth t items) = items_text w core items
  item_text w core (choose t first otherwise) = items_text w core first + items_text w core otherwise
  item_text w core (select t cs otherwise) = cases_text w core cs + items_text w core otherwise
  item_text w core (loop l) = turns_text w core l
  item_text w core (body_first l) = turns_text w core l
  item_text w core (protect t items finalization) = items_text w core items + items_text w core finalization
  item_text w core (leave what) = 0
  item_text w core (enter r given receiver) = 0
  item_text w core (halt t) = 0
  item_text w core (scoped t ts items) = items_text w core items
  item_text w core (attempt items cs) = 0
  item_text w core (throw at) = 0
  item_text w core rethrow = 0
  item_text w core (construct c r given receiver) = 0
  item_text w core (free takes_nil at) = 0

  pub turns_text : (List ℕ → ℕ) → Core → Turns → ℕ
  turns_text w core (turns head t ends between body) = items_text w core head + (items_text w core between + items_text w core body)

  pub cases_text : (List ℕ → ℕ) → Core → Cases → ℕ
  cases_text w core no_cases = 0
  cases_text w core (cases labels items others) = items_text w core items + cases_text w core others

module _ (w : List ℕ → ℕ) (core : Core) where
  -- ---- code of items

  blocks_join : (a b : List (List Instr)) → blocks_text w core (a ++ b) ≡ blocks_text w core a + blocks_text w core b
  blocks_join [] b = omega arith
  blocks_join (c ∷ a) b = let e = blocks_join a b in omega (arith, e)

  -- a jump, where it is nothing else
  continued_by : (k : ℕ) (behind : List Instr) (b : Bool) → is_jump behind ≡ b → code_text w core (if b then behind else jump k ∷ []) ≤ 0
  continued_by k behind false e = omega arith
  continued_by k (jump j ∷ []) true e = omega arith
  continued_by k [] true e = absurd (cc e)
  continued_by k (jump j ∷ i ∷ is) true e = absurd (cc e)
  continued_by k (do_act a l ∷ is) true e = absurd (cc e)
  continued_by k (do_call r g t l ∷ is) true e = absurd (cc e)
  continued_by k (when t j ∷ is) true e = absurd (cc e)
  continued_by k (unless t j ∷ is) true e = absurd (cc e)
  continued_by k (switch t arms ∷ is) true e = absurd (cc e)
  continued_by k (dispatch t j ∷ is) true e = absurd (cc e)
  continued_by k (make_due f ∷ is) true e = absurd (cc e)
  continued_by k (open_temporaries ts ∷ is) true e = absurd (cc e)
  continued_by k (end_temporary t ∷ is) true e = absurd (cc e)
  continued_by k (stop t ∷ is) true e = absurd (cc e)
  continued_by k (ret ∷ is) true e = absurd (cc e)

  continued_kept : (k : ℕ) (behind : List Instr) → code_text w core (continued k behind) ≤ 0
  continued_kept k behind = continued_by k behind (is_jump behind) refl

  branch_if_kept : (ends : Bool) (t k : ℕ) → instruction_text w core (branch_if ends t k) ≡ 0
  branch_if_kept true t k = refl
  branch_if_kept false t k = refl

  branch_unless_kept : (truth : Bool) (t k : ℕ) → instruction_text w core (branch_unless truth t k) ≡ 0
  branch_unless_kept true t k = refl
  branch_unless_kept false t k = refl

  -- ---- what leaves code

  abbrev LeaveBy : Exits → Type 0
  LeaveBy out = (reason : ℕ) → code_text w core (out reason) ≤ 0

  loop_leaves : (out : Exits) (k : ℕ) → LeaveBy out → LeaveBy (loop_exits out k)
  loop_leaves out k l zero = l zero
  loop_leaves out k l (suc zero) = l (suc zero)
  loop_leaves out k l (suc (suc zero)) = omega arith
  loop_leaves out k l (suc (suc (suc zero))) = omega arith
  loop_leaves out k l (suc (suc (suc (suc m)))) = l (suc (suc (suc (suc m))))

  finally_leaves : (t k : ℕ) → LeaveBy (finally_exits t k)
  finally_leaves t k reason = omega arith

  ends_kept : (ts : List Temporary) (behind : List Instr) → code_text w core (ends ts behind) ≡ code_text w core behind
  ends_kept [] behind = refl
  ends_kept (t ∷ ts) behind = let same = ends_kept ts behind in omega (arith, same)

  scope_leaves : (out : Exits) (ts : List Temporary) → LeaveBy out → LeaveBy (scope_exits out ts)
  scope_leaves out ts l reason = let same = ends_kept ts (out reason) in let e = l reason in omega (arith, same, e)

  -- ---- code

  mutual
    pub code_kept : (out : Exits) (items : Items) (k : ℕ) (behind : List Instr) → LeaveBy out → code_text w core (code out items k behind).now + blocks_text w core (code out items k behind).blocks ≤ code_text w core behind + items_text w core items
    code_kept out none k behind l = omega arith
    code_kept out (then_do i others) k behind l =
        let b = code out others k behind in
        let a = code_item out i (k + length b.blocks) b.now in
        let rest = code_kept out others k behind l in
        let first = item_kept out i (k + length b.blocks) b.now l in
        let all = blocks_join b.blocks a.blocks in
        omega (arith, rest, first, all)

    item_kept : (out : Exits) (i : Item) (k : ℕ) (behind : List Instr) → LeaveBy out → code_text w core (code_item out i k behind).now + blocks_text w core (code_item out i k behind).blocks ≤ code_text w core behind + item_text w core i
    item_kept out (act a) k behind l = omega arith
    item_kept out (also truth t items) k behind l =
        let joined = continued_kept k behind in
        let inner = code_kept out items (k + 1) (continued k behind) l in
        let branch = branch_unless_kept truth t k in
        omega (arith, joined, inner, branch)
    item_kept out (choose t first otherwise) k behind l =
        let joined = continued_kept k behind in
        let b = code out otherwise (k + 2) (continued k behind) in
        let a = code out first (k + 2 + length b.blocks) (continued k behind) in
        let one = code_kept out first (k + 2 + length b.blocks) (continued k behind) l in
        let other = code_kept out otherwise (k + 2) (continued k behind) l in
        let all = blocks_join b.blocks a.blocks in
        omega (arith, joined, one, other, all)
    item_kept out (select t cs otherwise) k behind l =
        let joined = continued_kept k behind in
        let b = code out otherwise (k + 1) (continued k behind) in
        let a = code_cases out cs (k + 1 + length b.blocks) (continued k behind) in
        let other = code_kept out otherwise (k + 1) (continued k behind) l in
        let arms = cases_kept out cs (k + 1 + length b.blocks) (continued k behind) l joined in
        let all = blocks_join b.blocks a.1 in
        omega (arith, joined, other, arms, all)
    item_kept out (loop t) k behind l = let inner = loop_kept out t k behind l in omega (arith, inner)
    item_kept out (body_first t) k behind l = let inner = loop_kept out t k behind l in omega (arith, inner)
    item_kept out (protect t items finalization) k behind l =
        let b = code out finalization (k + 4) (dispatch t k ∷ behind) in
        let a = code (finally_exits t k) items (k + 4 + length b.blocks) (jump k ∷ []) in
        let at_end = code_kept out finalization (k + 4) (dispatch t k ∷ behind) l in
        let inner = code_kept (finally_exits t k) items (k + 4 + length b.blocks) (jump k ∷ []) (finally_leaves t k) in
        let all = blocks_join b.blocks a.blocks in
        let one = l 1 in
        let two = l 2 in
        let three = l 3 in
        omega (arith, at_end, inner, all, one, two, three)
    item_kept out (leave what) k behind l = let e = l (suc what) in omega (arith, e)
    item_kept out (enter r given receiver) k behind l = omega arith
    item_kept out (halt t) k behind l = omega arith
    item_kept out (scoped t ts items) k behind l =
        let inner = code_kept (scope_exits out (t ∷ ts)) items k (ends (t ∷ ts) behind) (scope_leaves out (t ∷ ts) l) in
        let same = ends_kept (t ∷ ts) behind in
        omega (arith, inner, same)
    item_kept out (attempt items cs) k behind l = omega arith
    item_kept out (throw at) k behind l = omega arith
    item_kept out rethrow k behind l = omega arith
    item_kept out (construct c r given receiver) k behind l = omega arith
    item_kept out (free takes_nil at) k behind l = omega arith

    loop_kept : (out : Exits) (t : Turns) (k : ℕ) (behind : List Instr) → LeaveBy out → blocks_text w core (code_loop out t k behind) ≤ code_text w core behind + turns_text w core t
    loop_kept out (turns head t ends between body) k behind l =
        let c = code (loop_exits out k) body (k + 3) (jump (suc k) ∷ []) in
        let b = code (loop_exits out k) between (k + 3 + length c.blocks) (continued (suc (suc k)) c.now) in
        let a = code out head (k + 3 + length c.blocks + length b.blocks) (branch_if ends t k ∷ b.now) in
        let cs = code_kept (loop_exits out k) body (k + 3) (jump (suc k) ∷ []) (loop_leaves out k l) in
        let bs = code_kept (loop_exits out k) between (k + 3 + length c.blocks) (continued (suc (suc k)) c.now) (loop_leaves out k l) in
        let as' = code_kept out head (k + 3 + length c.blocks + length b.blocks) (branch_if ends t k ∷ b.now) l in
        let joined = continued_kept (suc (suc k)) c.now in
        let branch = branch_if_kept ends t k in
        let all = blocks_join c.blocks (b.blocks ++ a.blocks) in
        let more = blocks_join b.blocks a.blocks in
        omega (arith, cs, bs, as', joined, branch, all, more)

    cases_kept : (out : Exits) (cs : Cases) (k : ℕ) (behind : List Instr) → LeaveBy out → code_text w core behind ≤ 0 → blocks_text w core (code_cases out cs k behind).1 ≤ cases_text w core cs
    cases_kept out no_cases k behind l joined = omega arith
    cases_kept out (cases labels items others) k behind l joined =
        let b = code_cases out others k behind in
        let a = code out items (k + length b.1 + 1) behind in
        let rest = cases_kept out others k behind l joined in
        let here = code_kept out items (k + length b.1 + 1) behind l in
        let all = blocks_join b.1 (a.now ∷ a.blocks) in
        omega (arith, rest, here, all, joined)

  -- all blocks of a routine
  pub blocks_kept : (items : Items) → blocks_text w core (blocks_of items) ≤ items_text w core items
  blocks_kept items =
      let all = code_kept routine_exits items 2 (jump 1 ∷ []) (λ reason. let one : code_text w core (jump 1 ∷ []) ≤ 0 = omega arith in one) in
      omega (arith, all)

  -- ---- literals of code

  first_literal : (r v : ℕ) → total w (action_literals core r (BeginWith (record { 0 = v }))) ≤ total w (first_text core (type_of_local core r v) (first_at core r v))
  first_literal r v = by (shape_of core (type_of_local core r v)) refl
    where
      by : (s : Shape) → shape_of core (type_of_local core r v) ≡ s → total w (action_literals core r (BeginWith (record { 0 = v }))) ≤ total w (first_text core (type_of_local core r v) (first_at core r v))
      by (single kind) e = rw e (omega arith)
      by composite e = rw e (omega arith)
      by of_chars e = rw e (omega arith)
      by of_elements e = rw e (omega arith)
      by (of_instance holds) e = rw e (omega arith)

  operands_kept : (os : List OwnOperand) → total w (operands_literals os) ≤ operands_text w core (map view_operand os)
  operands_kept [] = omega arith
  operands_kept (Number t ∷ os) = let rest = operands_kept os in omega (arith, rest)
  operands_kept (Text path ∷ os) = let rest = operands_kept os in omega (arith, rest)
  operands_kept (Literal text ∷ os) = let rest = operands_kept os in omega (arith, rest)

  action_kept : (r : ℕ) (a : OwnAction) → total w (action_literals core r a) ≤ action_text w core (view_action core r a)
  action_kept r (Do p os to) = operands_kept os
  action_kept r (Pick to text index) = omega arith
  action_kept r (BeginWith v) = first_literal r v.0
  action_kept r (Constant to n) = omega arith
  action_kept r (Load to kind from) = omega arith
  action_kept r (Store to kind from) = omega arith
  action_kept r (Copy of to from) = omega arith
  action_kept r (Look at) = omega arith
  action_kept r (Compute computation) = omega arith

  instruction_kept : (r : ℕ) (i : Instruction) → total w (instruction_literals core r i) ≤ instruction_text w core (view_instruction core r i)
  instruction_kept r (Act action landing) = action_kept r action
  instruction_kept r (Call id call) = omega arith
  instruction_kept r (Jump block) = omega arith
  instruction_kept r (When t block) = omega arith
  instruction_kept r (Unless t block) = omega arith
  instruction_kept r (Switch t arms) = omega arith
  instruction_kept r (Dispatch t block) = omega arith
  instruction_kept r (MakeDue f) = omega arith
  instruction_kept r (OpenTemporaries ts) = omega arith
  instruction_kept r (EndTemporary t) = omega arith
  instruction_kept r (Stop t) = omega arith
  instruction_kept r Return = omega arith

  own_kept : (r : ℕ) (is : List Instruction) → total w (flat_map (instruction_literals core r) is) ≤ code_text w core (seen core r is)
  own_kept r [] = omega arith
  own_kept r (i ∷ is) =
      let first = instruction_kept r i in
      let rest = own_kept r is in
      let split = ap (total w) (flat_map-cons (instruction_literals core r) i is) in
      let all = total_join w (instruction_literals core r i) (flat_map (instruction_literals core r) is) in
      omega (arith, first, rest, split, all)

  own_blocks : (r : ℕ) (bs : List Block) → total w (flat_map (block_literals core r) bs) ≤ blocks_text w core (seen_blocks core r bs)
  own_blocks r [] = omega arith
  own_blocks r (b ∷ bs) =
      let first = own_kept r b.code in
      let rest = own_blocks r bs in
      let split = ap (total w) (flat_map-cons (block_literals core r) b bs) in
      let all = total_join w (block_literals core r b) (flat_map (block_literals core r) bs) in
      omega (arith, first, rest, split, all)

  pub routine_kept : (r : ℕ) (routine : Routine) → total w (routine_literals core r routine) ≤ blocks_text w core (seen_blocks core r routine.blocks)
  routine_kept r routine = own_blocks r routine.blocks

-- the bytes of literals that stand one after the other
pub all_bytes : (ls : List (List ℕ)) → length (flat_map (λ literal. literal) ls) ≡ total (λ l. length l) ls
all_bytes [] = refl
all_bytes (l ∷ ls) =
    let rest = all_bytes ls in
    let split = ap length (flat_map-cons (λ literal. literal) l ls) in
    let all = length-append l (flat_map (λ literal. literal) ls) in
    omega (arith, rest, split, all)
