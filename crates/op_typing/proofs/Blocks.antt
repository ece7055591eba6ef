-- The instructions that typed items become are typed.
use Rattle.std.proofs.Common.{◌≤◌, ℕ, zero, suc, ◌+◌, pos, Bool, true, false, List, [], ◌∷◌, ◌++◌, length, None, if◌then◌else◌, arith}
use Rattle.std.proofs.lemmas.Int.{ints}
use Rattle.std.proofs.lemmas.List.Elements.{All-append, All-cons, All-nil}
use Rattle.std.specs.List.{All}
use Rattle.op_core.specs.declared.program.Core.{Core}
use Rattle.op_meaning.specs.Actions.{constant}
use Rattle.op_meaning.specs.Items.{Item, act, also, choose, select, loop, body_first, protect, leave, enter, scoped, attempt, throw, rethrow, halt, construct, free, Items, none, then_do, Turns, turns, Cases, no_cases, cases}
use Rattle.op_meaning.specs.World.{Temporary}
use Rattle.op_mir.specs.Code.{Arm, Exits, Instr, Made, blocks_of, branch_if, branch_unless, code, code_cases, code_item, code_loop, continued, dispatch, do_act, do_call, end_temporary, ends, finally_exits, is_jump, jump, loop_exits, open_temporaries, ret, routine_exits, scope_exits, stop, switch, unless}
use Rattle.op_typing.specs.Typed.{AreTyped, AreTypedBlocks, AreTypedCases, AreTypedInstrs, AreTypedTurns, AreWords, IsTypedInstr, IsTypedItem}

module _ (core : Core) (r : ℕ) where
  abbrev MadeTyped : Made → Type 0
  MadeTyped made = AreTypedInstrs core r made.now × AreTypedBlocks core r made.blocks

  abbrev ExitsTyped : Exits → Type 0
  ExitsTyped out = (n : ℕ) → n ≤ 3 → AreTypedInstrs core r (out n)

  nothing : AreTypedInstrs core r []
  nothing = All-nil (IsTypedInstr core r)

  in_front : (i : Instr) (code : List Instr) → IsTypedInstr core r i → AreTypedInstrs core r code → AreTypedInstrs core r (i ∷ code)
  in_front i code h k = All-cons (IsTypedInstr core r) i code h k

  no_blocks : AreTypedBlocks core r []
  no_blocks = All-nil (AreTypedInstrs core r)

  block_first : (block : List Instr) (blocks : List (List Instr)) → AreTypedInstrs core r block → AreTypedBlocks core r blocks → AreTypedBlocks core r (block ∷ blocks)
  block_first block blocks h k = All-cons (AreTypedInstrs core r) block blocks h k

  joined : (as' bs : List (List Instr)) → AreTypedBlocks core r as' → AreTypedBlocks core r bs → AreTypedBlocks core r (as' ++ bs)
  joined as' bs h k = All-append (AreTypedInstrs core r) as' bs h k

  jump_typed : (k : ℕ) → AreTypedInstrs core r (jump k ∷ [])
  jump_typed k = in_front (jump k) [] tt nothing

  continued_typed : (k : ℕ) (behind : List Instr) → AreTypedInstrs core r behind → AreTypedInstrs core r (continued k behind)
  continued_typed k behind h = by (is_jump behind)
    where
      by : (b : Bool) → AreTypedInstrs core r (if b then behind else jump k ∷ [])
      by true = h
      by false = jump_typed k

  branch_typed : (ends : Bool) (t k : ℕ) → IsTypedInstr core r (branch_if ends t k)
  branch_typed true t k = tt
  branch_typed false t k = tt

  skip_typed : (truth : Bool) (t k : ℕ) → IsTypedInstr core r (branch_unless truth t k)
  skip_typed true t k = tt
  skip_typed false t k = tt

  loop_leaves : (out : Exits) (k : ℕ) → ExitsTyped out → ExitsTyped (loop_exits out k)
  loop_leaves out k h zero few = h zero few
  loop_leaves out k h (suc zero) few = h (suc zero) few
  loop_leaves out k h (suc (suc zero)) few = jump_typed k
  loop_leaves out k h (suc (suc (suc zero))) few = jump_typed (suc k)
  loop_leaves out k h (suc (suc (suc (suc n)))) few = h (suc (suc (suc (suc n)))) few

  finally_leaves : (t k : ℕ) → ExitsTyped (finally_exits t k)
  finally_leaves t k n few = in_front (do_act (constant t (pos n)) None) (jump k ∷ []) (omega (arith, ints, few)) (jump_typed k)

  ends_typed : (ts : List Temporary) (behind : List Instr) → AreTypedInstrs core r behind → AreTypedInstrs core r (ends ts behind)
  ends_typed [] behind h = h
  ends_typed (t ∷ ts) behind h = in_front (end_temporary t) (ends ts behind) tt (ends_typed ts behind h)

  scope_leaves : (out : Exits) (ts : List Temporary) → ExitsTyped out → ExitsTyped (scope_exits out ts)
  scope_leaves out ts leaves n few = in_front (open_temporaries []) (ends ts (out n)) tt (ends_typed ts (out n) (leaves n few))

  -- ---- items

  mutual
    pub code_typed : (items : Items) (out : Exits) (k : ℕ) (behind : List Instr) → ExitsTyped out → AreTypedInstrs core r behind → AreTyped core r items → MadeTyped (code out items k behind)
    code_typed none out k behind leaves h typed = (h, no_blocks)
    code_typed (then_do i others) out k behind leaves h typed =
        let b = code_typed others out k behind leaves h typed.1 in
        let a = item_typed i out (k + length (code out others k behind).blocks) (code out others k behind).now leaves b.0 typed.0 in
        (a.0, joined (code out others k behind).blocks (code_item out i (k + length (code out others k behind).blocks) (code out others k behind).now).blocks b.1 a.1)

    item_typed : (i : Item) (out : Exits) (k : ℕ) (behind : List Instr) → ExitsTyped out → AreTypedInstrs core r behind → IsTypedItem core r i → MadeTyped (code_item out i k behind)
    item_typed (act a) out k behind leaves h typed = (in_front (do_act a None) behind typed h, no_blocks)
    item_typed (also truth t items) out k behind leaves h typed =
        let a = code_typed items out (k + 1) (continued k behind) leaves (continued_typed k behind h) typed in
        let made = code out items (k + 1) (continued k behind) in
        (in_front (branch_unless truth t k) made.now (skip_typed truth t k) a.0, block_first behind made.blocks h a.1)
    item_typed (choose t first otherwise) out k behind leaves h typed =
        let b = code out otherwise (k + 2) (continued k behind) in
        let a = code out first (k + 2 + length b.blocks) (continued k behind) in
        let b' = code_typed otherwise out (k + 2) (continued k behind) leaves (continued_typed k behind h) typed.1 in
        let a' = code_typed first out (k + 2 + length b.blocks) (continued k behind) leaves (continued_typed k behind h) typed.0 in
        (in_front (unless t (k + 1)) a.now tt a'.0, block_first behind (b.now ∷ b.blocks ++ a.blocks) h (block_first b.now (b.blocks ++ a.blocks) b'.0 (joined b.blocks a.blocks b'.1 a'.1)))
    item_typed (select t cs otherwise) out k behind leaves h typed =
        let b = code out otherwise (k + 1) (continued k behind) in
        let a = code_cases out cs (k + 1 + length b.blocks) (continued k behind) in
        let b' = code_typed otherwise out (k + 1) (continued k behind) leaves (continued_typed k behind h) typed.1 in
        let a' = cases_typed cs out (k + 1 + length b.blocks) (continued k behind) leaves (continued_typed k behind h) typed.0 in
        (in_front (switch t a.0) b.now a'.0 b'.0, block_first behind (b.blocks ++ a.1) h (joined b.blocks a.1 b'.1 a'.1))
    item_typed (loop l) out k behind leaves h typed = (jump_typed (suc k), loop_typed l out k behind leaves h typed)
    item_typed (body_first l) out k behind leaves h typed = (jump_typed (suc (suc k)), loop_typed l out k behind leaves h typed)
    item_typed (protect t items finalization) out k behind leaves h typed =
        let b = code out finalization (k + 4) (dispatch t k ∷ behind) in
        let a = code (finally_exits t k) items (k + 4 + length b.blocks) (jump k ∷ []) in
        let b' = code_typed finalization out (k + 4) (dispatch t k ∷ behind) leaves (in_front (dispatch t k) behind tt h) typed.1 in
        let a' = code_typed items (finally_exits t k) (k + 4 + length b.blocks) (jump k ∷ []) (finally_leaves t k) (jump_typed k) typed.0 in
        let ways = block_first (out 1) (out 2 ∷ out 3 ∷ b.blocks ++ a.blocks) (leaves 1 (omega arith)) (block_first (out 2) (out 3 ∷ b.blocks ++ a.blocks) (leaves 2 (omega arith)) (block_first (out 3) (b.blocks ++ a.blocks) (leaves 3 (omega arith)) (joined b.blocks a.blocks b'.1 a'.1))) in
        (in_front (do_act (constant t (pos 0)) None) a.now (omega (arith, ints)) a'.0, block_first b.now (out 1 ∷ out 2 ∷ out 3 ∷ b.blocks ++ a.blocks) b'.0 ways)
    item_typed (leave what) out k behind leaves h typed = (leaves (suc what) (omega (arith, typed)), no_blocks)
    item_typed (enter q given receiver) out k behind leaves h typed = (in_front (do_call q given receiver None) behind typed h, no_blocks)
    item_typed (halt t) out k behind leaves h typed = (in_front (stop t) behind tt h, no_blocks)
    item_typed (scoped t ts items) out k behind leaves h typed =
        let outer = scope_exits out (t ∷ ts) in
        let a = code_typed items outer k (ends (t ∷ ts) behind) (scope_leaves out (t ∷ ts) leaves) (ends_typed (t ∷ ts) behind h) typed in
        (in_front (open_temporaries (t ∷ ts)) (code outer items k (ends (t ∷ ts) behind)).now tt a.0, a.1)
    item_typed (attempt items cs) out k behind leaves h typed = (nothing, no_blocks)
    item_typed (throw at) out k behind leaves h typed = (nothing, no_blocks)
    item_typed rethrow out k behind leaves h typed = (nothing, no_blocks)
    item_typed (construct c q given to) out k behind leaves h typed = (nothing, no_blocks)
    item_typed (free takes_nil at) out k behind leaves h typed = (nothing, no_blocks)

    loop_typed : (l : Turns) (out : Exits) (k : ℕ) (behind : List Instr) → ExitsTyped out → AreTypedInstrs core r behind → AreTypedTurns core r l → AreTypedBlocks core r (code_loop out l k behind)
    loop_typed (turns head t ends between body) out k behind leaves h typed =
        let inner = loop_exits out k in
        let inside = loop_leaves out k leaves in
        let c = code inner body (k + 3) (jump (suc k) ∷ []) in
        let b = code inner between (k + 3 + length c.blocks) (continued (suc (suc k)) c.now) in
        let a = code out head (k + 3 + length c.blocks + length b.blocks) (branch_if ends t k ∷ b.now) in
        let c' = code_typed body inner (k + 3) (jump (suc k) ∷ []) inside (jump_typed (suc k)) typed.2 in
        let b' = code_typed between inner (k + 3 + length c.blocks) (continued (suc (suc k)) c.now) inside (continued_typed (suc (suc k)) c.now c'.0) typed.1 in
        let a' = code_typed head out (k + 3 + length c.blocks + length b.blocks) (branch_if ends t k ∷ b.now) leaves (in_front (branch_if ends t k) b.now (branch_typed ends t k) b'.0) typed.0 in
        let rest = joined c.blocks (b.blocks ++ a.blocks) c'.1 (joined b.blocks a.blocks b'.1 a'.1) in
        block_first behind (a.now ∷ c.now ∷ c.blocks ++ (b.blocks ++ a.blocks)) h (block_first a.now (c.now ∷ c.blocks ++ (b.blocks ++ a.blocks)) a'.0 (block_first c.now (c.blocks ++ (b.blocks ++ a.blocks)) c'.0 rest))

    cases_typed : (cs : Cases) (out : Exits) (k : ℕ) (behind : List Instr) → ExitsTyped out → AreTypedInstrs core r behind → AreTypedCases core r cs → All (λ a. AreWords a.labels) (code_cases out cs k behind).0 × AreTypedBlocks core r (code_cases out cs k behind).1
    cases_typed no_cases out k behind leaves h typed = (All-nil (λ a. AreWords a.labels), no_blocks)
    cases_typed (cases labels items others) out k behind leaves h typed =
        let b = code_cases out others k behind in
        let a = code out items (k + length b.1 + 1) behind in
        let b' = cases_typed others out k behind leaves h typed.2 in
        let a' = code_typed items out (k + length b.1 + 1) behind leaves h typed.1 in
        let arm : Arm = record { labels = labels; block = k + length b.1 } in
        (All-cons (λ a. AreWords a.labels) arm b.0 typed.0 b'.0, joined b.1 (a.now ∷ a.blocks) b'.1 (block_first a.now a.blocks a'.0 a'.1))

  routine_leaves : ExitsTyped routine_exits
  routine_leaves n few = jump_typed 1

  -- the blocks of a routine
  pub blocks_typed : (items : Items) → AreTyped core r items → AreTypedBlocks core r (blocks_of items)
  blocks_typed items typed =
      let a = code routine_exits items 2 (jump 1 ∷ []) in
      let a' = code_typed items routine_exits 2 (jump 1 ∷ []) routine_leaves (jump_typed 1) typed in
      block_first a.now ((ret ∷ []) ∷ a.blocks) a'.0 (block_first (ret ∷ []) a.blocks (in_front ret [] tt nothing) a'.1)
