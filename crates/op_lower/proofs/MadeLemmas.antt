-- What is made of the parts of an item is what the definition of code says of the item.
use Rattle.std.proofs.Common.{◌≡◌, ℕ, suc, ◌+◌, ◌<◌, Bool, List, [], ◌∷◌, ◌++◌, length, map, refl, sym, ap, ◌∙◌, arith, append_assoc, None, ◌≤◌, Result, Ok, Err, IfOk, reverse, ap₂}
use Rattle.std.proofs.lemmas.List.{append-nil, map-append, map-set, length-map, length-append, length-set, length_push, reverse-append, take-set, take_all, take_more}
use Rattle.std.proofs.Math.Nat.{add-zero}
use Rattle.std.proofs.Math.Seq.{set-append_seam}
use Rattle.std.specs.Prelude.{◌-◌, Vec, slice_set, slice_index_or, take}
use Rattle.std.specs.declared.alloc.Global.{Global}
use Rattle.op_base.proofs.Tests.{ap₃}
use Rattle.op_core.specs.declared.program.Core.{Core}
use Rattle.op_core.specs.declared.statement.Label.{Label}
use Rattle.op_items.proofs.Nodes.{item_nodes, items_behind}
use Rattle.op_items.specs.View.{item_view, items_view, cases_view, turns_view}
use Rattle.op_items.specs.declared.item.Case.{Case}
use Rattle.op_items.specs.declared.item.Item.{Item}
use Rattle.op_items.specs.declared.item.Item.TheVariants.{Also, BodyFirst, Choose, Leave, Loop, Protect, Scoped, Select}
use Rattle.op_items.specs.declared.item.Turns.{Turns}
use Rattle.op_items.specs.declared.item.Way.{Way}
use Rattle.op_lower.specs.Exits.{exits_of, reason_of}
use Rattle.op_lower.specs.Made.{Adds, Makes, MakesArms, Completes, CompletesArms, IsBody, items_made, item_made, branch_made, arms_made, loop_made, finally_made}
use Rattle.op_lower.specs.Seen.{seen, seen_blocks}
use Rattle.op_lower.specs.declared.exits.Exits.{Exits}
use Rattle.op_meaning.specs.Items.{Items, none, then_do, Cases, ◌&◌, only, Item as MeantItem, also, choose, select, loop, body_first, protect, scoped}
use Rattle.op_meaning.specs.World.{Temporary as MeantTemporary}
use Rattle.op_mir.specs.Code.{Instr, jump, unless, switch, dispatch, open_temporaries, end_temporary, ends, scope_exits, Made, Exits as MeantExits, code, code_item, code_cases, Arm as MeantArm, loop_exits, continued, branch_unless, branch_if}
use Rattle.op_mir.specs.View.{view_arm, view_block, view_temporary}
use Rattle.op_mir.specs.declared.code.Block.{Block}
use Rattle.op_mir.specs.declared.ids.BlockId.{BlockId}
use Rattle.op_mir.specs.declared.ids.TemporaryId.{TemporaryId}
use Rattle.op_mir.specs.declared.instruction.Arm.{Arm}
use Rattle.op_mir.specs.declared.instruction.Instruction.{Instruction}
use Rattle.op_mir.specs.declared.instruction.Instruction.TheVariants.{Jump, Switch, Dispatch, OpenTemporaries, EndTemporary}
use Rattle.op_mir.specs.declared.temporary.Temporary.{Temporary}

abbrev pub Blocks : Type 0
Blocks = List (List Instr)

-- tables of no program, for what is the same in all
pub no_tables : Core
no_tables = record { types = []; extents = []; fields = []; classes = []; interfaces = []; listed = []; methods = []; properties = []; routines = []; parameters = []; variables = []; globals = []; units = []; exceptions = None }

-- ---- blocks

-- a block of this code
abbrev pub block_of : List Instruction → Block
block_of code = record { code = code }

pub seen_put : (core : Core) (r : ℕ) (old new : List Block) (code : List Instruction) → new ≡ old ++ block_of code ∷ [] → seen_blocks core r new ≡ seen_blocks core r old ++ seen core r code ∷ []
seen_put core r old new code e = ap (seen_blocks core r) e ∙ map-append (view_block core r) old (block_of code ∷ [])

-- so many blocks there are then
pub count_seen : (core : Core) (r : ℕ) (old new : List Block) (more : Blocks) → seen_blocks core r new ≡ seen_blocks core r old ++ more → length new ≡ length old + length more
count_seen core r old new more e = sym (length-map new (view_block core r)) ∙ ap length e ∙ length-append (seen_blocks core r old) more ∙ ap (λ n. n + length more) (length-map old (view_block core r))

-- a block gets its code
pub seen_filled : (core : Core) (r : ℕ) (old new : List Block) (k : ℕ) (code : List Instruction) (front : Blocks) (x : List Instr) (rest : Blocks) → seen_blocks core r old ≡ front ++ x ∷ rest → k ≡ length front → new ≡ slice_set old k (block_of code) → seen_blocks core r new ≡ front ++ seen core r code ∷ rest
seen_filled core r old new k code front x rest e h f =
    ap (seen_blocks core r) f ∙ map-set (view_block core r) old k (block_of code)
    ∙ ap₂ (λ v j. slice_set v j (seen core r code)) e h ∙ set-append_seam front x rest (seen core r code)

-- ---- what is made, at equal places

pub as_made : (m m' : Made) (now : List Instr) (new old front : Blocks) → m ≡ m' → old ≡ front → (now ≡ m.now) × (new ≡ old ++ m.blocks) → (now ≡ m'.now) × (new ≡ front ++ m'.blocks)
as_made m m' now new old front e f h = (h.0 ∙ ap (λ x. x.now) e, h.1 ∙ ap₂ (λ v x. v ++ x.blocks) f e)

-- ---- branches

pub branch_adds : (exits : Exits) (items : List Item) (on : BlockId) (old b1 b2 b3 : List Block) (now : List Instruction) (k : ℕ) → b1 ≡ old ++ block_of [] ∷ [] → Makes (items_made exits items b1 (Jump on ∷ [])) b1 b2 now → k ≡ length old → b3 ≡ slice_set b2 k (block_of now) → Adds (branch_made exits items old on) old b3
branch_adds exits items on old b1 b2 b3 now k e makes h f = λ core r.
    let V = seen_blocks core r old in
    let made : ℕ → Made = λ j. code (exits_of exits) (items_view core r items) j (jump on.0 ∷ []) in
    let n : length b1 ≡ length old + 1 = ap length e ∙ length_push old (block_of []) in
    let m = as_made (made (length b1)) (made (length old + 1)) (seen core r now) (seen_blocks core r b2) (seen_blocks core r b1) (V ++ [] ∷ []) (ap made n) (seen_put core r old b1 [] e) (makes core r) in
    let a = made (length old + 1) in
    seen_filled core r b2 b3 k now V [] a.blocks (m.1 ∙ append_assoc V ([] ∷ []) a.blocks) (h ∙ sym (length-map old (view_block core r))) f
    ∙ ap (λ x. V ++ x ∷ a.blocks) m.0

pub also_makes : (exits : Exits) (truth : Bool) (t : TemporaryId) (items : List Item) (behind : List Instruction) (on : BlockId) (old b1 b2 : List Block) (now front : List Instruction) (k : ℕ) → ((core : Core) (r : ℕ) → seen core r front ≡ branch_unless truth t.0 k ∷ seen core r now) → k ≡ length old → ((core : Core) (r : ℕ) → jump on.0 ∷ [] ≡ continued (length old) (seen core r behind)) → b1 ≡ old ++ block_of behind ∷ [] → Makes (items_made exits items b1 (Jump on ∷ [])) b1 b2 now → Makes (item_made exits (λ core r. also truth t.0 (items_view core r items)) old behind) old b2 front
also_makes exits truth t items behind on old b1 b2 now front k put h joined e makes = λ core r.
    let V = seen_blocks core r old in
    let B = seen core r behind in
    let made : ℕ → List Instr → Made = code (exits_of exits) (items_view core r items) in
    let n : length b1 ≡ length old + 1 = ap length e ∙ length_push old (block_of behind) in
    let a = made (length old + 1) (continued (length old) B) in
    let m = as_made (made (length b1) (jump on.0 ∷ [])) a (seen core r now) (seen_blocks core r b2) (seen_blocks core r b1) (V ++ B ∷ []) (ap₂ made n (joined core r)) (seen_put core r old b1 behind e) (makes core r) in
    (put core r ∙ ap₂ ◌∷◌ (ap (branch_unless truth t.0) h) m.0, m.1 ∙ append_assoc V (B ∷ []) a.blocks)

pub choose_makes : (exits : Exits) (t : TemporaryId) (first otherwise : List Item) (behind : List Instruction) (on other : BlockId) (old b1 b2 b3 : List Block) (now front : List Instruction) → ((core : Core) (r : ℕ) → seen core r front ≡ unless t.0 other.0 ∷ seen core r now) → ((core : Core) (r : ℕ) → jump on.0 ∷ [] ≡ continued (length old) (seen core r behind)) → b1 ≡ old ++ block_of behind ∷ [] → other.0 ≡ length b1 → Adds (branch_made exits otherwise b1 on) b1 b2 → Makes (items_made exits first b2 (Jump on ∷ [])) b2 b3 now → Makes (item_made exits (λ core r. choose t.0 (items_view core r first) (items_view core r otherwise)) old behind) old b3 front
choose_makes exits t first otherwise behind on other old b1 b2 b3 now front put joined e h adds makes = λ core r.
    let V = seen_blocks core r old in
    let B = seen core r behind in
    let k = length old in
    let C = continued k B in
    let other_code : ℕ → List Instr → Made = code (exits_of exits) (items_view core r otherwise) in
    let first_code : ℕ → List Instr → Made = code (exits_of exits) (items_view core r first) in
    let n1 : length b1 ≡ k + 1 = ap length e ∙ length_push old (block_of behind) in
    let n : length b1 + 1 ≡ k + 2 = omega (arith, n1) in
    let b = other_code (k + 2) C in
    let same : other_code (length b1 + 1) (jump on.0 ∷ []) ≡ b = ap₂ other_code n (joined core r) in
    let v2 : seen_blocks core r b2 ≡ V ++ B ∷ b.now ∷ b.blocks =
    adds core r ∙ ap₂ (λ v x. v ++ x.now ∷ x.blocks) (seen_put core r old b1 behind e) same ∙ append_assoc V (B ∷ []) (b.now ∷ b.blocks) in
    let counted : length b2 ≡ k + suc (suc (length b.blocks)) = count_seen core r old b2 (B ∷ b.now ∷ b.blocks) v2 in
    let n2 : length b2 ≡ k + 2 + length b.blocks = omega (arith, counted) in
    let a = first_code (k + 2 + length b.blocks) C in
    let m = as_made (first_code (length b2) (jump on.0 ∷ [])) a (seen core r now) (seen_blocks core r b3) (seen_blocks core r b2) (V ++ B ∷ b.now ∷ b.blocks) (ap₂ first_code n2 (joined core r)) v2 (makes core r) in
    (put core r ∙ ap₂ ◌∷◌ (ap (unless t.0) (h ∙ n1)) m.0, m.1 ∙ append_assoc V (B ∷ b.now ∷ b.blocks) a.blocks)

pub select_makes : (exits : Exits) (t : TemporaryId) (cs : List Case) (otherwise : List Item) (behind : List Instruction) (on : BlockId) (old b1 b2 b3 : List Block) (now front : List Instruction) (arms : List Arm) → front ≡ Switch t arms ∷ now → ((core : Core) (r : ℕ) → jump on.0 ∷ [] ≡ continued (length old) (seen core r behind)) → b1 ≡ old ++ block_of behind ∷ [] → Makes (items_made exits otherwise b1 (Jump on ∷ [])) b1 b2 now → MakesArms (arms_made exits cs b2 on) b2 b3 arms → Makes (item_made exits (λ core r. select t.0 (cases_view core r cs) (items_view core r otherwise)) old behind) old b3 front
select_makes exits t cs otherwise behind on old b1 b2 b3 now front arms put joined e makes made_arms = λ core r.
    let V = seen_blocks core r old in
    let B = seen core r behind in
    let k = length old in
    let C = continued k B in
    let other_code : ℕ → List Instr → Made = code (exits_of exits) (items_view core r otherwise) in
    let arms_code : ℕ → List Instr → List MeantArm × Blocks = code_cases (exits_of exits) (cases_view core r cs) in
    let n1 : length b1 ≡ k + 1 = ap length e ∙ length_push old (block_of behind) in
    let b = other_code (k + 1) C in
    let m = as_made (other_code (length b1) (jump on.0 ∷ [])) b (seen core r now) (seen_blocks core r b2) (seen_blocks core r b1) (V ++ B ∷ []) (ap₂ other_code n1 (joined core r)) (seen_put core r old b1 behind e) (makes core r) in
    let v2 : seen_blocks core r b2 ≡ V ++ B ∷ b.blocks = m.1 ∙ append_assoc V (B ∷ []) b.blocks in
    let counted : length b2 ≡ k + suc (length b.blocks) = count_seen core r old b2 (B ∷ b.blocks) v2 in
    let n2 : length b2 ≡ k + 1 + length b.blocks = omega (arith, counted) in
    let a = arms_code (k + 1 + length b.blocks) C in
    let same : arms_code (length b2) (jump on.0 ∷ []) ≡ a = ap₂ arms_code n2 (joined core r) in
    let h = made_arms core r in
    (ap (seen core r) put ∙ ap₂ (λ x xs. switch t.0 x ∷ xs) (h.0 ∙ ap (λ x. x.0) same) m.0, h.1 ∙ ap₂ (λ v x. v ++ x.1) v2 same ∙ append_assoc V (B ∷ b.blocks) a.1)

-- ---- loops

-- behind the old blocks: what is behind the loop, a block that is reserved for the head, the body, and its blocks
record BodyStands (V : Blocks) (B : List Instr) (out : MeantExits) (k : ℕ) (body : Items) (new : Blocks) (to_body : List Instr) : Type 0 where
  blocks : let c = code (loop_exits out k) body (k + 3) (jump (suc k) ∷ []) in new ≡ V ++ B ∷ [] ∷ c.now ∷ c.blocks
  comes : to_body ≡ continued (suc (suc k)) (code (loop_exits out k) body (k + 3) (jump (suc k) ∷ [])).now

set_at : (v front : Blocks) (x y : List Instr) (rest : Blocks) (k : ℕ) → v ≡ front ++ x ∷ rest → k ≡ length front → slice_set v k y ≡ front ++ y ∷ rest
set_at v front x y rest k e h = ap₂ (λ w j. slice_set w j y) e h ∙ set-append_seam front x rest y

-- the body stands in its block, and the code between turns comes to it
body_stands : (core : Core) (r : ℕ) (exits within : Exits) (body : List Item) (behind : List Instruction) (made_behind head at_body on : BlockId) (old b1 b2 : List Block) → exits_of within ≡ loop_exits (exits_of exits) made_behind.0 → made_behind.0 ≡ length old → head.0 ≡ length old + 1 → at_body.0 ≡ length old + 2 → b1 ≡ old ++ block_of behind ∷ block_of [] ∷ block_of [] ∷ [] → IsBody (items_made within body b1 (Jump head ∷ [])) at_body b1 b2 on → BodyStands (seen_blocks core r old) (seen core r behind) (exits_of exits) (length old) (items_view core r body) (seen_blocks core r b2) (jump on.0 ∷ [])
body_stands core r exits within body behind made_behind head at_body on old b1 b2 w hk hh hb e is_body =
    let V = seen_blocks core r old in
    let B = seen core r behind in
    let k = length old in
    let body_code : MeantExits → ℕ → List Instr → Made = λ out. code out (items_view core r body) in
    let n : length b1 ≡ k + 3 = ap length e ∙ length-append old (block_of behind ∷ block_of [] ∷ block_of [] ∷ []) in
    let s : head.0 ≡ suc k = omega (arith, hh) in
    let z : at_body.0 ≡ suc (suc k) = omega (arith, hb) in
    let c = body_code (loop_exits (exits_of exits) k) (k + 3) (jump (suc k) ∷ []) in
    let same : body_code (exits_of within) (length b1) (jump head.0 ∷ []) ≡ c = ap₃ body_code (w ∙ ap (loop_exits (exits_of exits)) hk) n (ap (λ i. jump i ∷ []) s) in
    let v1 : seen_blocks core r b1 ≡ V ++ B ∷ [] ∷ [] ∷ [] = ap (seen_blocks core r) e ∙ map-append (view_block core r) old (block_of behind ∷ block_of [] ∷ block_of [] ∷ []) in
    let parts : seen_blocks core r b1 ++ c.blocks ≡ (V ++ B ∷ [] ∷ []) ++ [] ∷ c.blocks =
    ap (λ v. v ++ c.blocks) v1 ∙ append_assoc V (B ∷ [] ∷ [] ∷ []) c.blocks ∙ sym (append_assoc V (B ∷ [] ∷ []) ([] ∷ c.blocks)) in
    let count : length (V ++ B ∷ [] ∷ []) ≡ length V + 2 = length-append V (B ∷ [] ∷ []) in
    let place : at_body.0 ≡ length (V ++ B ∷ [] ∷ []) = omega (arith, hb, count, length-map old (view_block core r)) in
    let h = is_body core r in
    record {
      blocks = h.0 ∙ ap (λ x. slice_set (seen_blocks core r b1 ++ x.blocks) at_body.0 x.now) same ∙ set_at (seen_blocks core r b1 ++ c.blocks) (V ++ B ∷ [] ∷ []) [] c.now c.blocks at_body.0 parts place ∙ append_assoc V (B ∷ [] ∷ []) (c.now ∷ c.blocks);
      comes = h.1 ∙ ap₂ continued z (ap (λ x. x.now) same);
    }

pub loop_adds : (exits within : Exits) (l : Turns) (behind : List Instruction) (made_behind head at_body on : BlockId) (old b1 b2 b3 b4 b5 : List Block) (test front now : List Instruction) → ((core : Core) (r : ℕ) → seen core r front ≡ branch_if l.ends l.temporary.0 made_behind.0 ∷ seen core r test) → exits_of within ≡ loop_exits (exits_of exits) made_behind.0 → made_behind.0 ≡ length old → head.0 ≡ length old + 1 → at_body.0 ≡ length old + 2 → b1 ≡ old ++ block_of behind ∷ block_of [] ∷ block_of [] ∷ [] → IsBody (items_made within l.body.items b1 (Jump head ∷ [])) at_body b1 b2 on → Makes (items_made within l.between.items b2 (Jump on ∷ [])) b2 b3 test → Makes (items_made exits l.head.items b3 front) b3 b4 now → b5 ≡ slice_set b4 head.0 (block_of now) → Adds (loop_made exits l old behind) old b5
loop_adds exits within l behind made_behind head at_body on old b1 b2 b3 b4 b5 test front now put w hk hh hb e is_body makes_between makes_head f = λ core r.
    let V = seen_blocks core r old in
    let B = seen core r behind in
    let k = length old in
    let lo : MeantExits = loop_exits (exits_of exits) k in
    let c = code lo (items_view core r l.body.items) (k + 3) (jump (suc k) ∷ []) in
    let body = body_stands core r exits within l.body.items behind made_behind head at_body on old b1 b2 w hk hh hb e is_body in
    let counted : length b2 ≡ k + suc (suc (suc (length c.blocks))) = count_seen core r old b2 (B ∷ [] ∷ c.now ∷ c.blocks) body.blocks in
    let n2 : length b2 ≡ k + 3 + length c.blocks = omega (arith, counted) in
    let between : MeantExits → ℕ → List Instr → Made = λ out. code out (items_view core r l.between.items) in
    let b = between lo (k + 3 + length c.blocks) (continued (suc (suc k)) c.now) in
    let m2 = as_made (between (exits_of within) (length b2) (jump on.0 ∷ [])) b (seen core r test) (seen_blocks core r b3) (seen_blocks core r b2) (V ++ B ∷ [] ∷ c.now ∷ c.blocks) (ap₃ between (w ∙ ap (loop_exits (exits_of exits)) hk) n2 body.comes) body.blocks (makes_between core r) in
    let v3 : seen_blocks core r b3 ≡ V ++ B ∷ [] ∷ c.now ∷ (c.blocks ++ b.blocks) = m2.1 ∙ append_assoc V (B ∷ [] ∷ c.now ∷ c.blocks) b.blocks in
    let counted3 : length b3 ≡ k + suc (suc (suc (length (c.blocks ++ b.blocks)))) = count_seen core r old b3 (B ∷ [] ∷ c.now ∷ (c.blocks ++ b.blocks)) v3 in
    let n3 : length b3 ≡ k + 3 + length c.blocks + length b.blocks = omega (arith, counted3, length-append c.blocks b.blocks) in
    let head_code : ℕ → List Instr → Made = code (exits_of exits) (items_view core r l.head.items) in
    let T : Instr = branch_if l.ends l.temporary.0 k in
    let a = head_code (k + 3 + length c.blocks + length b.blocks) (T ∷ b.now) in
    let tested : seen core r front ≡ T ∷ b.now = put core r ∙ ap₂ ◌∷◌ (ap (branch_if l.ends l.temporary.0) hk) m2.0 in
    let m3 = as_made (head_code (length b3) (seen core r front)) a (seen core r now) (seen_blocks core r b4) (seen_blocks core r b3) (V ++ B ∷ [] ∷ c.now ∷ (c.blocks ++ b.blocks)) (ap₂ head_code n3 tested) v3 (makes_head core r) in
    let rest : Blocks = c.now ∷ (c.blocks ++ b.blocks) ++ a.blocks in
    let v4 : seen_blocks core r b4 ≡ (V ++ B ∷ []) ++ [] ∷ rest = m3.1 ∙ append_assoc V (B ∷ [] ∷ c.now ∷ (c.blocks ++ b.blocks)) a.blocks ∙ sym (append_assoc V (B ∷ []) ([] ∷ rest)) in
    let count : length (V ++ B ∷ []) ≡ length V + 1 = length-append V (B ∷ []) in
    let place : head.0 ≡ length (V ++ B ∷ []) = omega (arith, hh, count, length-map old (view_block core r)) in
    seen_filled core r b4 b5 head.0 now (V ++ B ∷ []) [] rest v4 place f
    ∙ append_assoc V (B ∷ []) (seen core r now ∷ rest)
    ∙ ap₂ (λ x xs. V ++ B ∷ x ∷ c.now ∷ xs) m3.0 (append_assoc c.blocks b.blocks a.blocks)

-- ---- temporaries that end

-- one more ends last in front of the code
pub ends_last : (ts : List MeantTemporary) (t : MeantTemporary) (behind : List Instr) → ends (ts ++ t ∷ []) behind ≡ ends ts (end_temporary t ∷ behind)
ends_last [] t behind = refl
ends_last (u ∷ ts) t behind = ap (λ x. end_temporary u ∷ x) (ends_last ts t behind)

-- the last one of those that are left is put in front
pub end_put : (core : Core) (r : ℕ) (rest front : List Temporary) (last : Temporary) (now new : List Instruction) (whole : List Instr) → rest ≡ front ++ last ∷ [] → new ≡ EndTemporary last ∷ now → ends (map view_temporary rest) (seen core r now) ≡ whole → ends (map view_temporary front) (seen core r new) ≡ whole
end_put core r rest front last now new whole e put h =
    ap (λ x. ends (map view_temporary front) (seen core r x)) put
    ∙ sym (ends_last (map view_temporary front) (view_temporary last) (seen core r now))
    ∙ ap (λ ts. ends ts (seen core r now)) (sym (map-append view_temporary front (last ∷ [])) ∙ ap (map view_temporary) (sym e))
    ∙ h

-- and where none is left, all are
pub ended_all : (core : Core) (r : ℕ) (rest : List Temporary) (now : List Instruction) (whole : List Instr) → length rest ≡ 0 → ends (map view_temporary rest) (seen core r now) ≡ whole → seen core r now ≡ whole
ended_all core r [] now whole over h = h
ended_all core r (t ∷ ts) now whole over h = absurd (omega (arith, over))

-- what leaves a scope ends its temporaries, and opens none
pub scope_put : (core : Core) (r : ℕ) (ts : List MeantTemporary) (opened : List Temporary) (old ended new : List Instruction) → opened ≡ [] → seen core r ended ≡ ends ts (seen core r old) → new ≡ OpenTemporaries opened ∷ ended → seen core r new ≡ open_temporaries [] ∷ ends ts (seen core r old)
scope_put core r ts opened old ended new e h put = ap (seen core r) put ∙ ap₂ (λ us x. open_temporaries (map view_temporary us) ∷ x) e h

pub scoped_makes : (exits within : Exits) (first : Temporary) (others all : List Temporary) (items : List Item) (behind ended now front : List Instruction) (old new : List Block) → all ≡ first ∷ others → exits_of within ≡ scope_exits (exits_of exits) (map view_temporary all) → ((core : Core) (r : ℕ) → seen core r ended ≡ ends (map view_temporary all) (seen core r behind)) → Makes (items_made within items old ended) old new now → front ≡ OpenTemporaries all ∷ now → Makes (item_made exits (λ core r. scoped (view_temporary first) (map view_temporary others) (items_view core r items)) old behind) old new front
scoped_makes exits within first others all items behind ended now front old new is w end makes put = λ core r.
    let ts = map view_temporary (first ∷ others) in
    let made : MeantExits → List Instr → Made = λ out. code out (items_view core r items) (length old) in
    let out = w ∙ ap (λ xs. scope_exits (exits_of exits) (map view_temporary xs)) is in
    let after = end core r ∙ ap (λ xs. ends (map view_temporary xs) (seen core r behind)) is in
    let m = as_made (made (exits_of within) (seen core r ended)) (made (scope_exits (exits_of exits) ts) (ends ts (seen core r behind))) (seen core r now) (seen_blocks core r new) (seen_blocks core r old) (seen_blocks core r old) (ap₂ made out after) refl (makes core r) in
    (ap (seen core r) put ∙ ap₂ (λ xs x. open_temporaries (map view_temporary xs) ∷ x) is m.0, m.1)

-- ---- finally parts

pub finally_adds : (exits : Exits) (t : TemporaryId) (items : List Item) (behind : List Instruction) (block : BlockId) (old b1 b2 b3 : List Block) (on now : List Instruction) → on ≡ Dispatch t block ∷ behind → block.0 ≡ length old → Adds (λ core r. [] ∷ exits_of exits 1 ∷ exits_of exits 2 ∷ exits_of exits 3 ∷ []) old b1 → Makes (items_made exits items b1 on) b1 b2 now → b3 ≡ slice_set b2 block.0 (block_of now) → Adds (finally_made exits t items old behind) old b3
finally_adds exits t items behind block old b1 b2 b3 on now put h adds makes f = λ core r.
    let V = seen_blocks core r old in
    let B = seen core r behind in
    let k = length old in
    let out : MeantExits = exits_of exits in
    let made : ℕ → List Instr → Made = code out (items_view core r items) in
    let ways : Blocks = out 1 ∷ out 2 ∷ out 3 ∷ [] in
    let counted : length b1 ≡ k + 4 = count_seen core r old b1 ([] ∷ ways) (adds core r) in
    let b = made (k + 4) (dispatch t.0 k ∷ B) in
    let m = as_made (made (length b1) (seen core r on)) b (seen core r now) (seen_blocks core r b2) (seen_blocks core r b1) (V ++ [] ∷ ways) (ap₂ made counted (ap (seen core r) put ∙ ap (λ j. dispatch t.0 j ∷ B) h)) (adds core r) (makes core r) in
    seen_filled core r b2 b3 block.0 now V [] (ways ++ b.blocks) (m.1 ∙ append_assoc V ([] ∷ ways) b.blocks) (h ∙ sym (length-map old (view_block core r))) f
    ∙ ap (λ x. V ++ (x ∷ ways ++ b.blocks)) m.0

-- ---- items from the last one on

-- what is made of items of which the last one is done first
abbrev made_behind : MeantExits → Items → MeantItem → ℕ → List Instr → Made
made_behind out items i k behind =
    let b = code_item out i k behind in
    let a = code out items (k + length b.blocks) b.now in
    record { now = a.now; blocks = b.blocks ++ a.blocks }

code_last : (out : MeantExits) (items : Items) (i : MeantItem) (k : ℕ) (behind : List Instr) → code out (items & only i) k behind ≡ made_behind out items i k behind
code_last out none i k behind =
    let b = code_item out i k behind in
    let e : code_item out i (k + 0) behind ≡ b = ap (λ j. code_item out i j behind) (add-zero k) in
    ap (λ x. record { now = x.now; blocks = [] ++ x.blocks }) e ∙ ap (λ x. record { now = b.now; blocks = x }) (sym (append-nil b.blocks))
code_last out (then_do j rest) i k behind =
    let b = code_item out i k behind in
    let a = code out rest (k + length b.blocks) b.now in
    let n : k + length (b.blocks ++ a.blocks) ≡ k + length b.blocks + length a.blocks = omega (arith, length-append b.blocks a.blocks) in
    let first : ℕ → Made = λ n. code_item out j n a.now in
    let wrap : Made → Made = λ x. let y = code_item out j (k + length x.blocks) x.now in record { now = y.now; blocks = x.blocks ++ y.blocks } in
    let d = first (k + length b.blocks + length a.blocks) in
    ap wrap (code_last out rest i k behind)
    ∙ ap (λ m. record { now = (first m).now; blocks = (b.blocks ++ a.blocks) ++ (first m).blocks }) n
    ∙ ap (λ x. record { now = d.now; blocks = x }) (append_assoc b.blocks a.blocks d.blocks)

-- the next item is done
pub item_done : (exits : Exits) (whole : Core → ℕ → Made) (items rest : List Item) (i : Item) (old b1 b2 : List Block) (behind now : List Instruction) → items ≡ rest ++ i ∷ [] → Completes whole (items_made exits items b1 behind) old b1 → Makes (item_made exits (λ core r. item_view core r i) b1 behind) b1 b2 now → Completes whole (items_made exits rest b2 now) old b2
item_done exits whole items rest i old b1 b2 behind now e completes makes = λ core r.
    let out : MeantExits = exits_of exits in
    let B = seen core r behind in
    let k = length b1 in
    let V = seen_blocks core r b1 in
    let b = code_item out (item_view core r i) k B in
    let R = items_view core r rest in
    let split : code out (items_view core r items) k B ≡ made_behind out R (item_view core r i) k B =
    ap (λ xs. code out (items_view core r xs) k B) e ∙ ap (λ xs. code out xs k B) (items_behind core r rest (i ∷ [])) ∙ code_last out R (item_view core r i) k B in
    let m = makes core r in
    let n : length b2 ≡ k + length b.blocks = count_seen core r b1 b2 b.blocks m.1 in
    let a = code out R (k + length b.blocks) b.now in
    let same : code out R (length b2) (seen core r now) ≡ a = ap₂ (code out R) n m.0 in
    let h = completes core r in
    (ap (λ x. x.now) same ∙ sym (ap (λ x. x.now) split) ∙ h.0, ap₂ (λ v x. v ++ x.blocks) m.1 same ∙ append_assoc V b.blocks a.blocks ∙ sym (ap (λ x. V ++ x.blocks) split) ∙ h.1)

-- three blocks of code, put in turn behind one that is reserved
pub three_put : (core : Core) (r : ℕ) (old b1 b2 b3 b4 : List Block) (x y z : List Instruction) (o1 o2 o3 : List Instr) → b1 ≡ old ++ block_of [] ∷ [] → b2 ≡ b1 ++ block_of x ∷ [] → b3 ≡ b2 ++ block_of y ∷ [] → b4 ≡ b3 ++ block_of z ∷ [] → seen core r x ≡ o1 → seen core r y ≡ o2 → seen core r z ≡ o3 → seen_blocks core r b4 ≡ seen_blocks core r old ++ [] ∷ o1 ∷ o2 ∷ o3 ∷ []
three_put core r old b1 b2 b3 b4 x y z o1 o2 o3 e1 e2 e3 e4 h1 h2 h3 =
    let V = seen_blocks core r old in
    let v1 : seen_blocks core r b1 ≡ V ++ [] ∷ [] = seen_put core r old b1 [] e1 in
    let v2 : seen_blocks core r b2 ≡ V ++ [] ∷ o1 ∷ [] = seen_put core r b1 b2 x e2 ∙ ap₂ (λ v i. v ++ i ∷ []) v1 h1 ∙ append_assoc V ([] ∷ []) (o1 ∷ []) in
    let v3 : seen_blocks core r b3 ≡ V ++ [] ∷ o1 ∷ o2 ∷ [] = seen_put core r b2 b3 y e3 ∙ ap₂ (λ v i. v ++ i ∷ []) v2 h2 ∙ append_assoc V ([] ∷ o1 ∷ []) (o2 ∷ []) in
    seen_put core r b3 b4 z e4 ∙ ap₂ (λ v i. v ++ i ∷ []) v3 h3 ∙ append_assoc V ([] ∷ o1 ∷ o2 ∷ []) (o3 ∷ [])

-- ---- arms from the last one on

-- what is made of cases of which the last one is done first
abbrev arms_behind : MeantExits → Cases → List Label → Items → ℕ → List Instr → List MeantArm × Blocks
arms_behind out cs labels items k behind =
    let a = code out items (k + 1) behind in
    let b = code_cases out cs (k + length (a.now ∷ a.blocks)) behind in
    (b.0 ++ record { labels = labels; block = k } ∷ [], (a.now ∷ a.blocks) ++ b.1)

cases_last : (core : Core) (r : ℕ) (out : MeantExits) (cs : List Case) (c : Case) (k : ℕ) (behind : List Instr) → code_cases out (cases_view core r (cs ++ c ∷ [])) k behind ≡ arms_behind out (cases_view core r cs) c.labels (items_view core r c.items.items) k behind
cases_last core r out [] c k behind =
    let alone : ℕ → List MeantArm × Blocks = λ j. let a = code out (items_view core r c.items.items) (j + 1) behind in (record { labels = c.labels; block = j } ∷ [], [] ++ a.now ∷ a.blocks) in
    let a = code out (items_view core r c.items.items) (k + 1) behind in
    ap alone (add-zero k) ∙ ap (λ x. (record { labels = c.labels; block = k } ∷ [], x)) (sym (append-nil (a.now ∷ a.blocks)))
cases_last core r out (d ∷ ds) c k behind =
    let a = code out (items_view core r c.items.items) (k + 1) behind in
    let front : Blocks = a.now ∷ a.blocks in
    let b = code_cases out (cases_view core r ds) (k + length front) behind in
    let n : k + length (front ++ b.1) ≡ k + length front + length b.1 = omega (arith, length-append front b.1) in
    let inner : ℕ → Made = λ j. code out (items_view core r d.items.items) (j + 1) behind in
    let wrap : List MeantArm × Blocks → List MeantArm × Blocks = λ x. let y = inner (k + length x.1) in (record { labels = d.labels; block = k + length x.1 } ∷ x.0, x.1 ++ y.now ∷ y.blocks) in
    let last : List MeantArm = b.0 ++ record { labels = c.labels; block = k } ∷ [] in
    let e = inner (k + length front + length b.1) in
    ap wrap (cases_last core r out ds c k behind)
    ∙ ap (λ j. (record { labels = d.labels; block = j } ∷ last, (front ++ b.1) ++ (inner j).now ∷ (inner j).blocks)) n
    ∙ ap (λ x. (record { labels = d.labels; block = k + length front + length b.1 } ∷ last, x)) (append_assoc front b.1 (e.now ∷ e.blocks))

-- the next branch is done
pub arm_done : (exits : Exits) (whole : Core → ℕ → List MeantArm × Blocks) (cs rest : List Case) (c : Case) (on block : BlockId) (old b1 b2 : List Block) (arms more : List Arm) → cs ≡ rest ++ c ∷ [] → CompletesArms whole (arms_made exits cs b1 on) old b1 arms → block.0 ≡ length b1 → Adds (branch_made exits c.items.items b1 on) b1 b2 → more ≡ record { labels = c.labels; block = block } ∷ arms → CompletesArms whole (arms_made exits rest b2 on) old b2 more
arm_done exits whole cs rest c on block old b1 b2 arms more e completes at adds put = λ core r.
    let out : MeantExits = exits_of exits in
    let J : List Instr = jump on.0 ∷ [] in
    let k = length b1 in
    let V = seen_blocks core r b1 in
    let R = cases_view core r rest in
    let split : code_cases out (cases_view core r cs) k J ≡ arms_behind out R c.labels (items_view core r c.items.items) k J =
    ap (λ xs. code_cases out (cases_view core r xs) k J) e ∙ cases_last core r out rest c k J in
    let a = code out (items_view core r c.items.items) (k + 1) J in
    let front : Blocks = a.now ∷ a.blocks in
    let n : length b2 ≡ k + length front = count_seen core r b1 b2 front (adds core r) in
    let b = code_cases out R (k + length front) J in
    let same : code_cases out R (length b2) J ≡ b = ap (λ j. code_cases out R j J) n in
    let arm : MeantArm = record { labels = c.labels; block = k } in
    let first : map view_arm more ≡ arm ∷ map view_arm arms = ap (map view_arm) put ∙ ap (λ j. record { labels = c.labels; block = j } ∷ map view_arm arms) at in
    let h = completes core r in (
      ap₂ (λ x xs. x.0 ++ xs) same first ∙ sym (append_assoc b.0 (arm ∷ []) (map view_arm arms)) ∙ sym (ap (λ x. x.0 ++ map view_arm arms) split) ∙ h.0,
      ap₂ (λ v x. v ++ x.1) (adds core r) same ∙ append_assoc V front b.1 ∙ sym (ap (λ x. V ++ x.1) split) ∙ h.1,
    )

-- ---- numbers

-- there are no fewer blocks then
pub grows : (made : Core → ℕ → Made) (old new : List Block) (now : List Instruction) → Makes made old new now → length old ≤ length new
grows made old new now makes =
    let m = makes no_tables 0 in
    let counted : length new ≡ length old + length (made no_tables 0).blocks = count_seen no_tables 0 old new (made no_tables 0).blocks m.1 in
    omega (arith, counted)

-- what is made of a body stands in its block
pub body_is : (made : Core → ℕ → Made) (block on : BlockId) (old b1 b2 : List Block) (now : List Instruction) → Makes made old b1 now → ((core : Core) (r : ℕ) → jump on.0 ∷ [] ≡ continued block.0 (seen core r now)) → b2 ≡ slice_set b1 block.0 (block_of now) → IsBody made block old b2 on
body_is made block on old b1 b2 now makes comes f = λ core r.
    let m = makes core r in
    (ap (seen_blocks core r) f ∙ map-set (view_block core r) b1 block.0 (block_of now) ∙ ap₂ (λ v x. slice_set v block.0 x) m.1 m.0, comes core r ∙ ap (continued block.0) m.0)

-- ---- which item it is

item_is : {R E : Type 0} (exits : Exits) (f g : Core → ℕ → MeantItem) (old new : List Block) (behind now : List Instruction) (result : Result R E) → ((core : Core) (r : ℕ) → f core r ≡ g core r) → IfOk result (λ _. Makes (item_made exits g old behind) old new now) → IfOk result (λ _. Makes (item_made exits f old behind) old new now)
item_is exits f g old new behind now (Ok done) e h = λ core r.
    let same = ap (λ i. code_item (exits_of exits) i (length old) (seen core r behind)) (e core r) in
    ((h core r).0 ∙ sym (ap (λ x. x.now) same), (h core r).1 ∙ sym (ap (λ x. seen_blocks core r old ++ x.blocks) same))
item_is exits f g old new behind now (Err error) e h = h

-- what is made for the item
abbrev pub MadeFor : {R E : Type 0} → Exits → (Core → ℕ → MeantItem) → List Block → List Block → List Instruction → List Instruction → Result R E → Type 0
MadeFor exits item old new behind now result = IfOk result (λ _. Makes (item_made exits item old behind) old new now)

-- where the parts of the item are what the item is matched with
pub also_is : {R E : Type 0} (exits : Exits) (item : Item) (truth found_truth : Bool) (t found_t : TemporaryId) (items found : Vec Item Global) (old new : List Block) (behind now : List Instruction) (result : Result R E) → item ≡ Also truth t items → found_truth ≡ truth → found_t ≡ t → found ≡ items → MadeFor exits (λ core r. also found_truth found_t.0 (items_view core r found.items)) old new behind now result → MadeFor exits (λ core r. item_view core r item) old new behind now result
also_is exits item truth found_truth t found_t items found old new behind now result e p q s h =
    item_is exits (λ core r. item_view core r item) (λ core r. also found_truth found_t.0 (items_view core r found.items)) old new behind now result
    (λ core r. ap (item_view core r) e ∙ (item_nodes core r).also_says truth t items ∙ ap₃ (λ x y z. also x y.0 (items_view core r z.items)) (sym p) (sym q) (sym s)) h

pub choose_is : {R E : Type 0} (exits : Exits) (item : Item) (t found_t : TemporaryId) (first found otherwise found_otherwise : Vec Item Global) (old new : List Block) (behind now : List Instruction) (result : Result R E) → item ≡ Choose t first otherwise → found_t ≡ t → found ≡ first → found_otherwise ≡ otherwise → MadeFor exits (λ core r. choose found_t.0 (items_view core r found.items) (items_view core r found_otherwise.items)) old new behind now result → MadeFor exits (λ core r. item_view core r item) old new behind now result
choose_is exits item t found_t first found otherwise found_otherwise old new behind now result e p q s h =
    item_is exits (λ core r. item_view core r item) (λ core r. choose found_t.0 (items_view core r found.items) (items_view core r found_otherwise.items)) old new behind now result
    (λ core r. ap (item_view core r) e ∙ (item_nodes core r).choose_says t first otherwise ∙ ap₃ (λ x y z. choose x.0 (items_view core r y.items) (items_view core r z.items)) (sym p) (sym q) (sym s)) h

pub select_is : {R E : Type 0} (exits : Exits) (item : Item) (t found_t : TemporaryId) (cs found : Vec Case Global) (otherwise found_otherwise : Vec Item Global) (old new : List Block) (behind now : List Instruction) (result : Result R E) → item ≡ Select t cs otherwise → found_t ≡ t → found ≡ cs → found_otherwise ≡ otherwise → MadeFor exits (λ core r. select found_t.0 (cases_view core r found.items) (items_view core r found_otherwise.items)) old new behind now result → MadeFor exits (λ core r. item_view core r item) old new behind now result
select_is exits item t found_t cs found otherwise found_otherwise old new behind now result e p q s h =
    item_is exits (λ core r. item_view core r item) (λ core r. select found_t.0 (cases_view core r found.items) (items_view core r found_otherwise.items)) old new behind now result
    (λ core r. ap (item_view core r) e ∙ (item_nodes core r).select_says t cs otherwise ∙ ap₃ (λ x y z. select x.0 (cases_view core r y.items) (items_view core r z.items)) (sym p) (sym q) (sym s)) h

pub loop_is : {R E : Type 0} (exits : Exits) (item : Item) (l found : Turns) (old new : List Block) (behind now : List Instruction) (result : Result R E) → item ≡ Loop l → found ≡ l → MadeFor exits (λ core r. loop (turns_view core r found)) old new behind now result → MadeFor exits (λ core r. item_view core r item) old new behind now result
loop_is exits item l found old new behind now result e p h =
    item_is exits (λ core r. item_view core r item) (λ core r. loop (turns_view core r found)) old new behind now result
    (λ core r. ap (item_view core r) e ∙ (item_nodes core r).loop_says l ∙ ap (λ x. loop (turns_view core r x)) (sym p)) h

pub body_first_is : {R E : Type 0} (exits : Exits) (item : Item) (l found : Turns) (old new : List Block) (behind now : List Instruction) (result : Result R E) → item ≡ BodyFirst l → found ≡ l → MadeFor exits (λ core r. body_first (turns_view core r found)) old new behind now result → MadeFor exits (λ core r. item_view core r item) old new behind now result
body_first_is exits item l found old new behind now result e p h =
    item_is exits (λ core r. item_view core r item) (λ core r. body_first (turns_view core r found)) old new behind now result
    (λ core r. ap (item_view core r) e ∙ (item_nodes core r).body_first_says l ∙ ap (λ x. body_first (turns_view core r x)) (sym p)) h

pub protect_is : {R E : Type 0} (exits : Exits) (item : Item) (t found_t : TemporaryId) (items found finalization found_finalization : Vec Item Global) (old new : List Block) (behind now : List Instruction) (result : Result R E) → item ≡ Protect t items finalization → found_t ≡ t → found ≡ items → found_finalization ≡ finalization → IfOk result (λ _. Makes (item_made exits (λ core r. protect found_t.0 (items_view core r found.items) (items_view core r found_finalization.items)) old behind) old new now) → MadeFor exits (λ core r. item_view core r item) old new behind now result
protect_is exits item t found_t items found finalization found_finalization old new behind now result e p q s h =
    item_is exits (λ core r. item_view core r item) (λ core r. protect found_t.0 (items_view core r found.items) (items_view core r found_finalization.items)) old new behind now result
    (λ core r. ap (item_view core r) e ∙ (item_nodes core r).protect_says t items finalization ∙ ap₃ (λ x y z. protect x.0 (items_view core r y.items) (items_view core r z.items)) (sym p) (sym q) (sym s)) h

pub scoped_is : {R E : Type 0} (exits : Exits) (item : Item) (first found_first : Temporary) (others found_others : List Temporary) (items found : Vec Item Global) (old new : List Block) (behind now : List Instruction) (result : Result R E) → item ≡ Scoped first others items → found_first ≡ first → found_others ≡ others → found ≡ items → MadeFor exits (λ core r. scoped (view_temporary found_first) (map view_temporary found_others) (items_view core r found.items)) old new behind now result → MadeFor exits (λ core r. item_view core r item) old new behind now result
scoped_is exits item first found_first others found_others items found old new behind now result e p q s h =
    item_is exits (λ core r. item_view core r item) (λ core r. scoped (view_temporary found_first) (map view_temporary found_others) (items_view core r found.items)) old new behind now result
    (λ core r. ap (item_view core r) e ∙ (item_nodes core r).scoped_says first others items ∙ ap₃ (λ x y z. scoped (view_temporary x) (map view_temporary y) (items_view core r z.items)) (sym p) (sym q) (sym s)) h

pub leave_makes : {R E : Type 0} (exits : Exits) (item : Item) (way found : Way) (old : List Block) (behind now : List Instruction) (result : Result R E) → item ≡ Leave way → found ≡ way → IfOk result (λ _. (core : Core) (r : ℕ) → seen core r now ≡ exits_of exits (reason_of found)) → MadeFor exits (λ core r. item_view core r item) old old behind now result
leave_makes exits item way found old behind now (Ok done) e p h = λ core r.
    let same = ap (λ i. code_item (exits_of exits) (item_view core r i) (length old) (seen core r behind)) e in
    (h core r ∙ ap (λ w. exits_of exits (reason_of w)) p ∙ sym (ap (λ x. x.now) same), sym (append-nil (seen_blocks core r old)) ∙ sym (ap (λ x. seen_blocks core r old ++ x.blocks) same))
leave_makes exits item way found old behind now (Err error) e p h = h

-- ---- what is in range

pub added : (more : Core → ℕ → Blocks) (old new : List Block) → Adds more old new → length new ≡ length old + length (more no_tables 0)
added more old new adds = count_seen no_tables 0 old new (more no_tables 0) (adds no_tables 0)

pub reserved : (old b1 b2 : List Block) (x : Block) (k : ℕ) → k ≡ length old → b1 ≡ old ++ x ∷ [] → length b1 ≤ length b2 → k < length b2
reserved old b1 b2 x k h e n = omega (arith, h, ap length e ∙ length_push old x, n)

pub reversed_push : {A : Type 0} (old new : List A) (x : A) → new ≡ old ++ x ∷ [] → reverse new ≡ x ∷ reverse old
reversed_push old new x e = ap reverse e ∙ reverse-append old (x ∷ [])

-- three blocks behind those that there are
pub begun : (old new : List Block) (x y z : Block) → new ≡ old ++ x ∷ y ∷ z ∷ [] → length new ≡ length old + 3
begun old new x y z e = ap length e ∙ length-append old (x ∷ y ∷ z ∷ [])

pub body_grows : (made : Core → ℕ → Made) (block on : BlockId) (old new : List Block) → IsBody made block old new on → length old ≤ length new
body_grows made block on old new is =
    let V = seen_blocks no_tables 0 old in
    let m = made no_tables 0 in
    let counted : length new ≡ length (V ++ m.blocks) =
    sym (length-map new (view_block no_tables 0)) ∙ ap length (is no_tables 0).0 ∙ length-set (V ++ m.blocks) block.0 m.now in
    omega (arith, counted, length-append V m.blocks, length-map old (view_block no_tables 0))

-- ---- the last one of a list, in its place

-- it stands behind what is left where it is taken away, whatever is put in its place before
pub last_stands : {A : Type 0} (items changed rest : List A) (i j : A) (k : ℕ) → length items ≡ suc k → i ≡ slice_index_or items k i → changed ≡ slice_set items k j → rest ≡ take (length changed - 1) changed → items ≡ rest ++ i ∷ []
last_stands items changed rest i j k counted is put left =
    let n : length changed - 1 ≡ k = omega (arith, ap length put ∙ length-set items k j, counted) in
    let kept : rest ≡ take k items = left ∙ ap₂ take n put ∙ take-set items k j in
    let whole : take (k + 1) items ≡ items = take_all (k + 1) items (omega (arith, counted)) in
    sym whole ∙ take_more items k i (omega (arith, counted)) ∙ ap₂ (λ v x. v ++ x ∷ []) (sym kept) (sym is)
