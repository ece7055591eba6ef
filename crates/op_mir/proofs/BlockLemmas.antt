-- Where code stands: blocks one behind another, and the code of items in front of what stands for the work behind them.
use Rattle.std.proofs.Common.{◌≡◌, ℕ, zero, suc, ◌+◌, List, [], ◌∷◌, ◌++◌, length, Some, inl, inr, refl, sym, ap, ◌∙◌, subst, arith, append_assoc, length-append, ◌<◌}
use Rattle.std.specs.Prelude.{Bool, true, false, slice_get, nat_eq, if◌then◌else◌}
use Rattle.std.proofs.Math.Seq.{get_or-append_seam}
use Rattle.std.proofs.lemmas.Bool.{ne_eqb}
use Rattle.std.proofs.lemmas.Option.{slice_get-get_or}
use Rattle.op_meaning.specs.Frames.{Program}
use Rattle.op_meaning.specs.Items.{Items, none, then_do, ◌&◌, Task, item, mark, turn, finally, resume, catching, scope, handling, leaving, ending, due, onto}
use Rattle.op_mir.specs.Code.{Instr, jump, ret, Exits, is_jump, continued, code, code_item, routine_exits, blocks_of, blocks_in, items_of, program_blocks}
use Rattle.op_mir.specs.Going.{Has, Comes, At}
use Rattle.op_mir.specs.Machine.{block_at, block_or}
use Rattle.op_mir.specs.Plain.{ArePlain, Exists}

-- ---- blocks

pub has_front : (bs : List (List Instr)) (k : ℕ) (a b : List (List Instr)) → Has bs k (a ++ b) → Has bs k a
has_front bs k [] b h = tt
has_front bs k (x ∷ a) b h = (h.0, has_front bs (k + 1) a b h.1)

pub has_back : (bs : List (List Instr)) (k : ℕ) (a b : List (List Instr)) → Has bs k (a ++ b) → Has bs (k + length a) b
has_back bs k [] b h = let e : k ≡ k + 0 = omega arith in subst (λ n. Has bs n b) e h
has_back bs k (x ∷ a) b h =
    let e : k + 1 + length a ≡ k + length (x ∷ a) = omega arith in
    subst (λ n. Has bs n b) e (has_back bs (k + 1) a b h.1)

-- blocks behind others have the numbers behind theirs
pub has_from : (front bs : List (List Instr)) → Has (front ++ bs) (length front) bs
has_from front [] = tt
has_from front (b ∷ bs) =
    let within : length front < length (front ++ b ∷ bs) = omega (arith, length-append front (b ∷ bs)) in
    let here = slice_get-get_or (front ++ b ∷ bs) (length front) b within ∙ ap Some (get_or-append_seam front b bs b) in
    let n : length (front ++ b ∷ []) ≡ length front + 1 = omega (arith, length-append front (b ∷ [])) in
    let rest = has_from (front ++ b ∷ []) bs in
    (here, subst (λ m. Has (front ++ b ∷ bs) m bs) n (subst (λ l. Has l (length (front ++ b ∷ [])) bs) (append_assoc front (b ∷ []) bs) rest))

-- ---- jumps

comes_continued : (bs : List (List Instr)) (k : ℕ) (behind to : List Instr) → slice_get bs k ≡ Some behind → Comes bs behind to → Comes bs (continued k behind) to
comes_continued bs k behind to e (inl same) = by (is_jump behind)
  where
    by : (b : Bool) → Comes bs (if b then behind else jump k ∷ []) to
    by true = inl same
    by false = inr (record { k = k; here = refl; there = e ∙ ap Some same })
comes_continued bs k behind to e (inr j) =
    let jumps : is_jump behind ≡ true = ap is_jump j.here in
    subst (λ x. Comes bs x to) (sym (ap (λ b. if b then behind else jump k ∷ []) jumps)) (inr j)

-- code from which all can be reached that could be from other code
at_moved : (p : Program) (bs : List (List Instr)) (out : Exits) (work : List Task) (from to : List Instr) → ((x : List Instr) → Comes bs from x → Comes bs to x) → At p bs out work from → At p bs out work to
at_moved p bs out [] from to f (o, r, c) = (o, r, f _ c)
at_moved p bs out (item i ∷ work) from to f (behind, pi, s, a) = (behind, pi, record { k = s.k; comes = f _ s.comes; blocks = s.blocks }, a)
at_moved p bs out (mark l ∷ work) from to f (outer, j, behind, pl, o, c, h, a) = (outer, j, behind, pl, o, f _ c, h, a)
at_moved p bs out (turn l ∷ work) from to f (j, behind, pl, t, g, a) = (j, behind, pl, record { j = t.j; comes = f _ t.comes; blocks = t.blocks }, g, a)
at_moved p bs out (finally t ts ∷ work) from to f (outer, j, behind, pi, o, c, h, a) = (outer, j, behind, pi, o, f _ c, h, a)
at_moved p bs out (resume t ∷ work) from to f (j, behind, c, h, a) = (j, behind, f _ c, h, a)
at_moved p bs out (due d ∷ work) from to f (behind, x, c, a) = (behind, x, f _ c, a)
at_moved p bs out (catching cs ∷ work) from to f a = absurd a
at_moved p bs out (handling i ∷ work) from to f a = absurd a
at_moved p bs out (scope t ts ∷ work) from to f (outer, behind, o, c, a) = (outer, behind, o, f _ c, a)
at_moved p bs out (leaving zero ∷ work) from to f a = absurd a
at_moved p bs out (leaving (suc n) ∷ work) from to f (behind, w, c, a) = (behind, w, f _ c, a)
at_moved p bs out (ending variables result ∷ work) from to f a = absurd a

pub at_continued : (p : Program) (bs : List (List Instr)) (out : Exits) (work : List Task) (k : ℕ) (behind : List Instr) → slice_get bs k ≡ Some behind → At p bs out work behind → At p bs out work (continued k behind)
at_continued p bs out work k behind e a = at_moved p bs out work behind (continued k behind) (λ x c. comes_continued bs k behind x e c) a

-- at a block
pub at_block : (p : Program) (bs : List (List Instr)) (out : Exits) (work : List Task) (k : ℕ) (b : List Instr) → slice_get bs k ≡ Some b → At p bs out work b → At p bs out work (block_at bs k)
at_block p bs out work k b e a = subst (At p bs out work) (sym (ap block_or e)) a

-- ---- items

-- code for items, in front of what stands for the work behind them
pub at_onto : (p : Program) (bs : List (List Instr)) (out : Exits) (is : Items) (work : List Task) (k : ℕ) (behind : List Instr) → ArePlain p is → Has bs k (code out is k behind).blocks → At p bs out work behind → At p bs out (onto is work) (code out is k behind).now
at_onto p bs out none work k behind plain h a = a
at_onto p bs out (then_do i others) work k behind plain h a =
    let b = code out others k behind in
    let j = k + length b.blocks in
    let here = has_back bs k b.blocks (code_item out i j b.now).blocks h in
    let rest = at_onto p bs out others work k behind plain.1 (has_front bs k b.blocks _ h) a in
    (b.now, plain.0, record { k = j; comes = inl refl; blocks = here }, rest)

-- ---- routines

-- what a routine begins with
pub at_beginning : (p : Program) (items : Items) → ArePlain p items → At p (blocks_of items) routine_exits (onto items []) (block_at (blocks_of items) 0)
at_beginning p items plain =
    let a = code routine_exits items 2 (jump 1 ∷ []) in
    let bs = blocks_of items in
    let end : slice_get bs 1 ≡ Some (ret ∷ []) = (has_from (a.now ∷ []) ((ret ∷ []) ∷ a.blocks)).0 in
    let first : slice_get bs 0 ≡ Some a.now = (has_from [] bs).0 in
    let leaves : Comes bs (jump 1 ∷ []) (ret ∷ []) = inr (record { k = 1; here = refl; there = end }) in
    let all = at_onto p bs routine_exits items [] 2 (jump 1 ∷ []) plain (has_from (a.now ∷ (ret ∷ []) ∷ []) a.blocks) (refl, end, leaves) in
    at_block p bs routine_exits (onto items []) 0 a.now first all

-- the code of a routine that exists is that of its items
pub blocks_of_routine : (p : Program) (r : ℕ) → Exists p r → blocks_in p r ≡ blocks_of (items_of p r)
blocks_of_routine p r less =
    let other : nat_eq r (length p.core.routines) ≡ false = ne_eqb r (length p.core.routines) (λ e. omega arith) in
    ap (λ b. if b then program_blocks p else blocks_of (items_of p r)) other

pub onto_both : (a b : Items) (work : List Task) → onto (a & b) work ≡ onto a (onto b work)
onto_both none b work = refl
onto_both (then_do i others) b work = ap (λ x. item i ∷ x) (onto_both others b work)
