-- The code of items comes to no more than what the items do: what stands behind them is there once.
use Rattle.std.proofs.Common.{◌≡◌, ◌≤◌, ℕ, zero, suc, ◌+◌, Bool, true, false, List, [], ◌∷◌, ◌++◌, length, refl, arith, if◌then◌else◌}
use Rattle.op_meaning.specs.Items.{Item, act, also, choose, select, loop, body_first, protect, leave, enter, scoped, attempt, throw, rethrow, halt, construct, free, Items, none, then_do, Turns, turns, Cases, no_cases, cases}
use Rattle.op_meaning.specs.World.{Temporary}
use Rattle.op_mir.specs.Code.{Instr, do_act, do_call, jump, when, unless, switch, dispatch, make_due, open_temporaries, end_temporary, stop, ret, branch_if, branch_unless, Exits, is_jump, continued, loop_exits, finally_exits, ends, scope_exits, routine_exits, code, code_item, code_loop, code_cases, blocks_of}
use Rattle.op_sizes.specs.Sizes.{instruction_size, arms_size, code_size, blocks_size, items_size, item_size, turns_size, cases_size}

-- ---- lists

pub blocks_join : (a b : List (List Instr)) → blocks_size (a ++ b) ≡ blocks_size a + blocks_size b
blocks_join [] b = omega arith
blocks_join (c ∷ a) b = let e = blocks_join a b in omega (arith, e)

-- ---- jumps

-- a jump, where it is nothing else
continued_by : (k : ℕ) (behind : List Instr) (b : Bool) → is_jump behind ≡ b → code_size (if b then behind else jump k ∷ []) ≤ 1
continued_by k behind false e = omega arith
continued_by k (jump j ∷ []) true e = omega arith
continued_by k [] true e = absurd (cc e)
continued_by k (jump j ∷ i ∷ is) true e = absurd (cc e)
continued_by k (do_act a l ∷ is) true e = absurd (cc e)
continued_by k (do_call r g t l ∷ is) true e = absurd (cc e)
continued_by k (when t j ∷ is) true e = absurd (cc e)
continued_by k (unless t j ∷ is) true e = absurd (cc e)
continued_by k (switch t arms ∷ is) true e = absurd (cc e)
continued_by k (dispatch t j ∷ is) true e = absurd (cc e)
continued_by k (make_due f ∷ is) true e = absurd (cc e)
continued_by k (open_temporaries ts ∷ is) true e = absurd (cc e)
continued_by k (end_temporary t ∷ is) true e = absurd (cc e)
continued_by k (stop t ∷ is) true e = absurd (cc e)
continued_by k (ret ∷ is) true e = absurd (cc e)

continued_small : (k : ℕ) (behind : List Instr) → code_size (continued k behind) ≤ 1
continued_small k behind = continued_by k behind (is_jump behind) refl

branch_if_small : (ends : Bool) (t k : ℕ) → instruction_size (branch_if ends t k) ≡ 2
branch_if_small true t k = refl
branch_if_small false t k = refl

branch_unless_small : (truth : Bool) (t k : ℕ) → instruction_size (branch_unless truth t k) ≡ 2
branch_unless_small true t k = refl
branch_unless_small false t k = refl

-- ---- what leaves code

abbrev LeaveBy : Exits → Type 0
LeaveBy out = (reason : ℕ) → code_size (out reason) ≤ 2

loop_leaves : (out : Exits) (k : ℕ) → LeaveBy out → LeaveBy (loop_exits out k)
loop_leaves out k l zero = l zero
loop_leaves out k l (suc zero) = l (suc zero)
loop_leaves out k l (suc (suc zero)) = omega arith
loop_leaves out k l (suc (suc (suc zero))) = omega arith
loop_leaves out k l (suc (suc (suc (suc m)))) = l (suc (suc (suc (suc m))))

finally_leaves : (t k : ℕ) → LeaveBy (finally_exits t k)
finally_leaves t k reason = omega arith

ends_small : (ts : List Temporary) (behind : List Instr) → code_size (ends ts behind) ≡ code_size behind
ends_small [] behind = refl
ends_small (t ∷ ts) behind = let same = ends_small ts behind in omega (arith, same)

scope_leaves : (out : Exits) (ts : List Temporary) → LeaveBy out → LeaveBy (scope_exits out ts)
scope_leaves out ts l reason = let same = ends_small ts (out reason) in let e = l reason in omega (arith, same, e)

-- ---- code

mutual
  pub code_small : (out : Exits) (items : Items) (k : ℕ) (behind : List Instr) → LeaveBy out → code_size (code out items k behind).now + blocks_size (code out items k behind).blocks ≤ code_size behind + items_size items
  code_small out none k behind l = omega arith
  code_small out (then_do i others) k behind l =
      let b = code out others k behind in
      let a = code_item out i (k + length b.blocks) b.now in
      let rest = code_small out others k behind l in
      let first = item_small out i (k + length b.blocks) b.now l in
      let all = blocks_join b.blocks a.blocks in
      omega (arith, rest, first, all)

  item_small : (out : Exits) (i : Item) (k : ℕ) (behind : List Instr) → LeaveBy out → code_size (code_item out i k behind).now + blocks_size (code_item out i k behind).blocks ≤ code_size behind + item_size i
  item_small out (act a) k behind l = omega arith
  item_small out (also truth t items) k behind l =
      let joined = continued_small k behind in
      let inner = code_small out items (k + 1) (continued k behind) l in
      let branch = branch_unless_small truth t k in
      omega (arith, joined, inner, branch)
  item_small out (choose t first otherwise) k behind l =
      let joined = continued_small k behind in
      let b = code out otherwise (k + 2) (continued k behind) in
      let a = code out first (k + 2 + length b.blocks) (continued k behind) in
      let one = code_small out first (k + 2 + length b.blocks) (continued k behind) l in
      let other = code_small out otherwise (k + 2) (continued k behind) l in
      let all = blocks_join b.blocks a.blocks in
      omega (arith, joined, one, other, all)
  item_small out (select t cs otherwise) k behind l =
      let joined = continued_small k behind in
      let b = code out otherwise (k + 1) (continued k behind) in
      let a = code_cases out cs (k + 1 + length b.blocks) (continued k behind) in
      let other = code_small out otherwise (k + 1) (continued k behind) l in
      let arms = cases_small out cs (k + 1 + length b.blocks) (continued k behind) l joined in
      let all = blocks_join b.blocks a.1 in
      omega (arith, joined, other, arms, all)
  item_small out (loop t) k behind l = let inner = loop_small out t k behind l in omega (arith, inner)
  item_small out (body_first t) k behind l = let inner = loop_small out t k behind l in omega (arith, inner)
  item_small out (protect t items finalization) k behind l =
      let b = code out finalization (k + 4) (dispatch t k ∷ behind) in
      let a = code (finally_exits t k) items (k + 4 + length b.blocks) (jump k ∷ []) in
      let at_end = code_small out finalization (k + 4) (dispatch t k ∷ behind) l in
      let inner = code_small (finally_exits t k) items (k + 4 + length b.blocks) (jump k ∷ []) (finally_leaves t k) in
      let all = blocks_join b.blocks a.blocks in
      let one = l 1 in
      let two = l 2 in
      let three = l 3 in
      omega (arith, at_end, inner, all, one, two, three)
  item_small out (leave what) k behind l = let e = l (suc what) in omega (arith, e)
  item_small out (enter r given receiver) k behind l = omega arith
  item_small out (halt t) k behind l = omega arith
  item_small out (scoped t ts items) k behind l =
      let inner = code_small (scope_exits out (t ∷ ts)) items k (ends (t ∷ ts) behind) (scope_leaves out (t ∷ ts) l) in
      let same = ends_small (t ∷ ts) behind in
      omega (arith, inner, same)
  item_small out (attempt items cs) k behind l = omega arith
  item_small out (throw at) k behind l = omega arith
  item_small out rethrow k behind l = omega arith
  item_small out (construct c r given receiver) k behind l = omega arith
  item_small out (free takes_nil at) k behind l = omega arith

  loop_small : (out : Exits) (t : Turns) (k : ℕ) (behind : List Instr) → LeaveBy out → blocks_size (code_loop out t k behind) ≤ code_size behind + (4 + turns_size t)
  loop_small out (turns head t ends between body) k behind l =
      let c = code (loop_exits out k) body (k + 3) (jump (suc k) ∷ []) in
      let b = code (loop_exits out k) between (k + 3 + length c.blocks) (continued (suc (suc k)) c.now) in
      let a = code out head (k + 3 + length c.blocks + length b.blocks) (branch_if ends t k ∷ b.now) in
      let cs = code_small (loop_exits out k) body (k + 3) (jump (suc k) ∷ []) (loop_leaves out k l) in
      let bs = code_small (loop_exits out k) between (k + 3 + length c.blocks) (continued (suc (suc k)) c.now) (loop_leaves out k l) in
      let as' = code_small out head (k + 3 + length c.blocks + length b.blocks) (branch_if ends t k ∷ b.now) l in
      let joined = continued_small (suc (suc k)) c.now in
      let branch = branch_if_small ends t k in
      let all = blocks_join c.blocks (b.blocks ++ a.blocks) in
      let more = blocks_join b.blocks a.blocks in
      omega (arith, cs, bs, as', joined, branch, all, more)

  cases_small : (out : Exits) (cs : Cases) (k : ℕ) (behind : List Instr) → LeaveBy out → code_size behind ≤ 1 → arms_size (code_cases out cs k behind).0 + blocks_size (code_cases out cs k behind).1 ≤ cases_size cs
  cases_small out no_cases k behind l joined = omega arith
  cases_small out (cases labels items others) k behind l joined =
      let b = code_cases out others k behind in
      let a = code out items (k + length b.1 + 1) behind in
      let rest = cases_small out others k behind l joined in
      let here = code_small out items (k + length b.1 + 1) behind l in
      let all = blocks_join b.1 (a.now ∷ a.blocks) in
      omega (arith, rest, here, all, joined)

-- all blocks of a routine
pub blocks_small : (items : Items) → blocks_size (blocks_of items) ≤ 23 + items_size items
blocks_small items =
    let all = code_small routine_exits items 2 (jump 1 ∷ []) (λ reason. let one : code_size (jump 1 ∷ []) ≤ 2 = omega arith in one) in
    omega (arith, all)
