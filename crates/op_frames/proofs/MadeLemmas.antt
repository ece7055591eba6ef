-- What is made of items is what each item makes.
use Rattle.std.proofs.Common.{◌≡◌, ◌<◌, ◌≤◌, ℕ, zero, suc, ◌+◌, pos, Bool, true, false, List, [], ◌∷◌, ◌++◌, length, None, refl, arith, length-append, if◌then◌else◌}
use Rattle.op_meaning.specs.Actions.{constant}
use Rattle.op_meaning.specs.Items.{Item, act, also, choose, select, loop, body_first, protect, leave, enter, scoped, attempt, throw, rethrow, halt, construct, free, Items, none, then_do, Turns, turns, Cases, no_cases, cases}
use Rattle.op_mir.specs.Code.{Instr, do_act, jump, dispatch, ret, branch_if, Exits, is_jump, continued, loop_exits, finally_exits, routine_exits, code, code_item, code_loop, code_cases, blocks_of}
use Rattle.op_frames.specs.Made.{Every, IsCode, ArmsOf, AreMade, IsMade, AreMadeTurns, AreMadeCases}

-- ---- lists

pub every_append : {A : Type 0} (Q : A → Type 0) (xs ys : List A) → Every Q xs → Every Q ys → Every Q (xs ++ ys)
every_append Q [] ys a b = b
every_append Q (x ∷ xs) ys a b = (a.0, every_append Q xs ys a.1 b)

-- ---- code

-- an instruction in front of code
pub in_front : (Q : Instr → Type 0) (i : Instr) (is : List Instr) → Q i → IsCode Q is → IsCode Q (i ∷ is)
in_front Q i [] q c = absurd c.leaves
in_front Q i (j ∷ is) q c = record { each = (q, c.each); leaves = c.leaves }

alone : (Q : Instr → Type 0) (k : ℕ) → Q (jump k) → IsCode Q (jump k ∷ [])
alone Q k q = record { each = (q, tt); leaves = tt }

-- what leaves code, for each reason
abbrev pub LeadsBy : (Instr → Type 0) → Exits → Type 0
LeadsBy Q out = (reason : ℕ) → reason < 4 → IsCode Q (out reason)

-- three blocks at least
inside_of : (k n more : ℕ) → k + suc (suc (suc more)) ≤ n → suc (suc k) < n
inside_of k n more less = omega arith

inside_well : (n : ℕ) (out : Exits) (t : Turns) (k : ℕ) (behind : List Instr) → k + length (code_loop out t k behind) ≤ n → suc (suc k) < n
inside_well n out (turns head t ends between body) k behind less = inside_of k n _ less

module _ (Q : Instr → Type 0) (n : ℕ) (jumps : (k : ℕ) → 0 < k → k < n → Q (jump k)) (returns : Q ret) where
  continued_by : (b : Bool) (k : ℕ) (behind : List Instr) → 0 < k → k < n → IsCode Q behind → IsCode Q (if b then behind else jump k ∷ [])
  continued_by true k behind some less c = c
  continued_by false k behind some less c = alone Q k (jumps k some less)

  continued_code : (k : ℕ) (behind : List Instr) → 0 < k → k < n → IsCode Q behind → IsCode Q (continued k behind)
  continued_code k behind some less c = continued_by (is_jump behind) k behind some less c

  loop_leads : (out : Exits) (k : ℕ) → 0 < k → suc k < n → LeadsBy Q out → LeadsBy Q (loop_exits out k)
  loop_leads out k some less l zero e = l zero e
  loop_leads out k some less l (suc zero) e = l (suc zero) e
  loop_leads out k some less l (suc (suc zero)) e = alone Q k (jumps k some (omega arith))
  loop_leads out k some less l (suc (suc (suc zero))) e = alone Q (suc k) (jumps (suc k) (omega arith) less)
  loop_leads out k some less l (suc (suc (suc (suc m)))) e = l (suc (suc (suc (suc m)))) e

  finally_leads : (t k : ℕ) → 0 < k → k < n → ((m : ℕ) → m < 4 → Q (do_act (constant t (pos m)) None)) → LeadsBy Q (finally_exits t k)
  finally_leads t k some less c reason e = record { each = (c reason e, (jumps k some less, tt)); leaves = tt }

  -- code, and the blocks that it leads to
  pub record IsWell (now : List Instr) (blocks : List (List Instr)) : Type 0 where
    pub now_is : IsCode Q now
    pub blocks_are : Every (IsCode Q) blocks

  mutual
    pub code_well : (out : Exits) (items : Items) (k : ℕ) (behind : List Instr) → 0 < k → AreMade Q n items → LeadsBy Q out → IsCode Q behind → k + length (code out items k behind).blocks ≤ n → IsWell (code out items k behind).now (code out items k behind).blocks
    code_well out none k behind some m l b less = record { now_is = b; blocks_are = tt }
    code_well out (then_do i others) k behind some m l b less =
        let rest = code out others k behind in
        let first = code_item out i (k + length rest.blocks) rest.now in
        let all : length (rest.blocks ++ first.blocks) ≡ length rest.blocks + length first.blocks = length-append rest.blocks first.blocks in
        let there = code_well out others k behind (omega arith) m.1 l b (omega arith) in
        let here = item_well out i (k + length rest.blocks) rest.now (omega arith) m.0 l there.now_is (omega arith) in
        record { now_is = here.now_is; blocks_are = every_append (IsCode Q) rest.blocks first.blocks there.blocks_are here.blocks_are }

    item_well : (out : Exits) (i : Item) (k : ℕ) (behind : List Instr) → 0 < k → IsMade Q n i → LeadsBy Q out → IsCode Q behind → k + length (code_item out i k behind).blocks ≤ n → IsWell (code_item out i k behind).now (code_item out i k behind).blocks
    item_well out (act a) k behind some m l b less = record { now_is = in_front Q _ behind m b; blocks_are = tt }
    item_well out (also truth t items) k behind some m l b less =
        let a = code out items (k + 1) (continued k behind) in
        let less' : k + suc (length a.blocks) ≤ n = less in
        let inner = code_well out items (k + 1) (continued k behind) (omega arith) m.1 l (continued_code k behind (omega arith) (omega arith) b) (omega arith) in
        record { now_is = in_front Q _ a.now (m.0 k (omega arith) (omega arith)) inner.now_is; blocks_are = (b, inner.blocks_are) }
    item_well out (choose t first otherwise) k behind some m l b less =
        let joined = continued k behind in
        let o = code out otherwise (k + 2) joined in
        let a = code out first (k + 2 + length o.blocks) joined in
        let all : length (o.blocks ++ a.blocks) ≡ length o.blocks + length a.blocks = length-append o.blocks a.blocks in
        let less' : k + suc (suc (length (o.blocks ++ a.blocks))) ≤ n = less in
        let j = continued_code k behind (omega arith) (omega arith) b in
        let other = code_well out otherwise (k + 2) joined (omega arith) m.2 l j (omega arith) in
        let one = code_well out first (k + 2 + length o.blocks) joined (omega arith) m.1 l j (omega arith) in
        record { now_is = in_front Q _ a.now (m.0 (k + 1) (omega arith) (omega arith)) one.now_is; blocks_are = (b, (other.now_is, every_append (IsCode Q) o.blocks a.blocks other.blocks_are one.blocks_are)) }
    item_well out (select t cs otherwise) k behind some m l b less =
        let joined = continued k behind in
        let o = code out otherwise (k + 1) joined in
        let a = code_cases out cs (k + 1 + length o.blocks) joined in
        let all : length (o.blocks ++ a.1) ≡ length o.blocks + length a.1 = length-append o.blocks a.1 in
        let less' : k + suc (length (o.blocks ++ a.1)) ≤ n = less in
        let j = continued_code k behind (omega arith) (omega arith) b in
        let other = code_well out otherwise (k + 1) joined (omega arith) m.2 l j (omega arith) in
        let arms = cases_well out cs (k + 1 + length o.blocks) joined (omega arith) m.1 l j (omega arith) in
        record { now_is = in_front Q _ o.now (m.0 a.0 arms.0) other.now_is; blocks_are = (b, every_append (IsCode Q) o.blocks a.1 other.blocks_are arms.1) }
    item_well out (loop t) k behind some m l b less =
        record { now_is = alone Q (suc k) (jumps (suc k) (omega arith) ((let e = inside_well n out t k behind less in omega arith))); blocks_are = loop_well out t k behind (omega arith) m l b less }
    item_well out (body_first t) k behind some m l b less =
        record { now_is = alone Q (suc (suc k)) (jumps (suc (suc k)) (omega arith) (inside_well n out t k behind less)); blocks_are = loop_well out t k behind (omega arith) m l b less }
    item_well out (protect t items finalization) k behind some m l b less =
        let f = code out finalization (k + 4) (dispatch t k ∷ behind) in
        let a = code (finally_exits t k) items (k + 4 + length f.blocks) (jump k ∷ []) in
        let all : length (f.blocks ++ a.blocks) ≡ length f.blocks + length a.blocks = length-append f.blocks a.blocks in
        let less' : k + suc (suc (suc (suc (length (f.blocks ++ a.blocks))))) ≤ n = less in
        let at_end = code_well out finalization (k + 4) (dispatch t k ∷ behind) (omega arith) m.3 l (in_front Q _ behind (m.1 k (omega arith)) b) (omega arith) in
        let inner = code_well (finally_exits t k) items (k + 4 + length f.blocks) (jump k ∷ []) (omega arith) m.2 (finally_leads t k (omega arith) (omega arith) m.0) (alone Q k (jumps k (omega arith) (omega arith))) (omega arith) in
        record { now_is = in_front Q _ a.now (m.0 0 (omega arith)) inner.now_is; blocks_are = (at_end.now_is, (l 1 (omega arith), (l 2 (omega arith), (l 3 (omega arith), every_append (IsCode Q) f.blocks a.blocks at_end.blocks_are inner.blocks_are)))) }
    item_well out (leave what) k behind some m l b less = record { now_is = l (suc what) (omega (arith, m)); blocks_are = tt }
    item_well out (enter r given receiver) k behind some m l b less = record { now_is = in_front Q _ behind m b; blocks_are = tt }
    item_well out (halt t) k behind some m l b less = record { now_is = in_front Q _ behind m b; blocks_are = tt }
    item_well out (scoped t ts items) k behind some m l b less = absurd m
    item_well out (attempt items cs) k behind some m l b less = absurd m
    item_well out (throw at) k behind some m l b less = absurd m
    item_well out rethrow k behind some m l b less = absurd m
    item_well out (construct c r given receiver) k behind some m l b less = absurd m
    item_well out (free takes_nil at) k behind some m l b less = absurd m

    loop_well : (out : Exits) (t : Turns) (k : ℕ) (behind : List Instr) → 0 < k → AreMadeTurns Q n t → LeadsBy Q out → IsCode Q behind → k + length (code_loop out t k behind) ≤ n → Every (IsCode Q) (code_loop out t k behind)
    loop_well out (turns head t ends between body) k behind some m l b less =
        let c = code (loop_exits out k) body (k + 3) (jump (suc k) ∷ []) in
        let d = code (loop_exits out k) between (k + 3 + length c.blocks) (continued (suc (suc k)) c.now) in
        let a = code out head (k + 3 + length c.blocks + length d.blocks) (branch_if ends t k ∷ d.now) in
        let all : length (c.blocks ++ (d.blocks ++ a.blocks)) ≡ length c.blocks + length (d.blocks ++ a.blocks) = length-append c.blocks (d.blocks ++ a.blocks) in
        let more : length (d.blocks ++ a.blocks) ≡ length d.blocks + length a.blocks = length-append d.blocks a.blocks in
        let less' : k + suc (suc (suc (length (c.blocks ++ (d.blocks ++ a.blocks))))) ≤ n = less in
        let exits = loop_leads out k (omega arith) (omega arith) l in
        let cw = code_well (loop_exits out k) body (k + 3) (jump (suc k) ∷ []) (omega arith) m.3 exits (alone Q (suc k) (jumps (suc k) (omega arith) (omega arith))) (omega arith) in
        let dw = code_well (loop_exits out k) between (k + 3 + length c.blocks) (continued (suc (suc k)) c.now) (omega arith) m.2 exits (continued_code (suc (suc k)) c.now (omega arith) (omega arith) cw.now_is) (omega arith) in
        let aw = code_well out head (k + 3 + length c.blocks + length d.blocks) (branch_if ends t k ∷ d.now) (omega arith) m.1 l (in_front Q _ d.now (m.0 k (omega arith) (omega arith)) dw.now_is) (omega arith) in
        (b, (aw.now_is, (cw.now_is, every_append (IsCode Q) c.blocks (d.blocks ++ a.blocks) cw.blocks_are (every_append (IsCode Q) d.blocks a.blocks dw.blocks_are aw.blocks_are))))

    cases_well : (out : Exits) (cs : Cases) (k : ℕ) (behind : List Instr) → 0 < k → AreMadeCases Q n cs → LeadsBy Q out → IsCode Q behind → k + length (code_cases out cs k behind).1 ≤ n → ArmsOf n cs (code_cases out cs k behind).0 × Every (IsCode Q) (code_cases out cs k behind).1
    cases_well out no_cases k behind some m l b less = (tt, tt)
    cases_well out (cases labels items others) k behind some m l b less =
        let o = code_cases out others k behind in
        let a = code out items (k + length o.1 + 1) behind in
        let all : length (o.1 ++ a.now ∷ a.blocks) ≡ length o.1 + suc (length a.blocks) = length-append o.1 (a.now ∷ a.blocks) in
        let rest = cases_well out others k behind (omega arith) m.1 l b (omega arith) in
        let here = code_well out items (k + length o.1 + 1) behind (omega arith) m.0 l b (omega arith) in
        ((refl, omega arith, omega arith, rest.0), every_append (IsCode Q) o.1 (a.now ∷ a.blocks) rest.1 (here.now_is, here.blocks_are))

  -- all blocks of a routine, where there are as many as are counted
  pub blocks_well : (items : Items) → length (blocks_of items) ≡ n → AreMade Q n items → Every (IsCode Q) (blocks_of items)
  blocks_well items count m =
      let a = code routine_exits items 2 (jump 1 ∷ []) in
      let count' : suc (suc (length a.blocks)) ≡ n = count in
      let back = alone Q 1 (jumps 1 (omega arith) (omega arith)) in
      let w = code_well routine_exits items 2 (jump 1 ∷ []) (omega arith) m (λ reason e. back) back (omega arith) in
      (w.now_is, (record { each = (returns, tt); leaves = tt }, w.blocks_are))
