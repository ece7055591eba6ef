-- A register is live in the lines of a routine where it is live in the routine.
use Rattle.std.proofs.Common.{◌≡◌, ◌<◌, ◌≤◌, ◌+◌, ℕ, zero, suc, Bool, true, false, ◌||◌, not, List, [], ◌∷◌, ◌++◌, length, map, take, Option, Some, None, slice_get, refl, sym, ap, ◌∙◌, subst, inl, inr, arith, length-append}
use Rattle.std.specs.Prelude.{option_map}
use Rattle.std.proofs.lemmas.Bool.{cases_lt, not-true, not_from_false, or_from, or_parts}
use Rattle.std.proofs.lemmas.List.{map-append, take_all}
use Rattle.std.proofs.lemmas.Option.{same_Some, slice_get-map, slice_get_within}
use Rattle.op_low.specs.Reading.{other_block, reads, writes}
use Rattle.op_low.specs.Valid.{leaves}
use Rattle.op_low.specs.declared.code.Block.{Block}
use Rattle.op_low.specs.declared.ids.VirtualRegister.{VirtualRegister}
use Rattle.op_low.specs.declared.instruction.Instruction.{Instruction}
use Rattle.op_rv.specs.declared.symbol.BlockId.{BlockId}
use Rattle.op_regs.specs.Lines.{IsLiveLine, LinePasses, LineReads, LineTurns, line_of, lines_of, position_at, starts_from}
use Rattle.op_regs.specs.Liveness.{IsLive, IsRead, Passes, Turns, instructions, start_of}
use Rattle.op_regs.specs.declared.line.Line.{Line}

-- ---- where blocks begin

pub start_there : (position : ℕ) (blocks : List Block) (k : ℕ) → k < length blocks → slice_get (starts_from position blocks) k ≡ Some (position + length (instructions (take k blocks)))
unfolding starts_from
start_there position [] k less = absurd (omega (arith, less))
start_there position (b ∷ bs) zero less = let e : position ≡ position + 0 = omega arith in ap Some e
start_there position (b ∷ bs) (suc k) less =
    let e : position + length b.code + length (instructions (take k bs)) ≡ position + length (b.code ++ instructions (take k bs)) = omega (arith, length-append b.code (instructions (take k bs))) in
    start_there (position + length b.code) bs k (omega (arith, less)) ∙ ap Some e

pub start_is : (position : ℕ) (blocks : List Block) (k q : ℕ) → slice_get (starts_from position blocks) k ≡ Some q → q ≡ position + length (instructions (take k blocks))
unfolding starts_from
start_is position [] k q e = absurd cc
start_is position (b ∷ bs) zero q e = let same : position ≡ q = same_Some _ _ e in omega (arith, same)
start_is position (b ∷ bs) (suc k) q e =
    omega (arith, start_is (position + length b.code) bs k q e, length-append b.code (instructions (take k bs)))

-- ---- the line of an instruction

pub lines_mapped : (starts : List ℕ) (r : VirtualRegister) (blocks : List Block) → lines_of starts r blocks ≡ map (line_of starts r) (instructions blocks)
unfolding lines_of
lines_mapped starts r [] = refl
lines_mapped starts r (b ∷ bs) =
    ap (λ lines. map (line_of starts r) b.code ++ lines) (lines_mapped starts r bs)
    ∙ sym (map-append (line_of starts r) b.code (instructions bs))

pub some_mapped : {A B : Type 0} (f : A → B) (o : Option A) (y : B) → option_map f o ≡ Some y → (x : A) × (o ≡ Some x) × (f x ≡ y)
some_mapped f None y e = absurd cc
some_mapped f (Some x) y e = (x, refl, same_Some _ _ e)

line_is : (starts : List ℕ) (r : VirtualRegister) (blocks : List Block) (p : ℕ) (line : Line) → slice_get (lines_of starts r blocks) p ≡ Some line → (i : Instruction) × (slice_get (instructions blocks) p ≡ Some i) × (line_of starts r i ≡ line)
line_is starts r blocks p line is =
    some_mapped (line_of starts r) (slice_get (instructions blocks) p) line
    (sym (slice_get-map (line_of starts r) (instructions blocks) p) ∙ ap (λ lines. slice_get lines p) (sym (lines_mapped starts r blocks)) ∙ is)

line_at : (starts : List ℕ) (r : VirtualRegister) (blocks : List Block) (p : ℕ) (i : Instruction) → slice_get (instructions blocks) p ≡ Some i → slice_get (lines_of starts r blocks) p ≡ Some (line_of starts r i)
line_at starts r blocks p i is =
    ap (λ lines. slice_get lines p) (lines_mapped starts r blocks) ∙ slice_get-map (line_of starts r) (instructions blocks) p ∙ ap (option_map (line_of starts r)) is

-- ---- live in both

pub live_within : (blocks : List Block) (r : VirtualRegister) (p : ℕ) → IsLive blocks r p → p < length (instructions blocks)
live_within blocks r p (IsRead is read) = slice_get_within (instructions blocks) p _ is
live_within blocks r p (Passes is stays kept on) = slice_get_within (instructions blocks) p _ is
live_within blocks r p (Turns is other on) = slice_get_within (instructions blocks) p _ is

turn_is : (blocks : List Block) (o : Option BlockId) (q : ℕ) → position_at (starts_from 0 blocks) o ≡ Some q → (block : BlockId) × (o ≡ Some block) × (q ≡ start_of blocks block)
turn_is blocks None q e = absurd cc
turn_is blocks (Some block) q e = (block, refl, omega (arith, start_is 0 blocks block.0 q e))

pub line_live : (blocks : List Block) (r : VirtualRegister) (p : ℕ) → IsLiveLine (lines_of (starts_from 0 blocks) r blocks) p → IsLive blocks r p
unfolding line_of
line_live blocks r p (LineReads is read) =
    let (i, there, same) = line_is (starts_from 0 blocks) r blocks p _ is in
    IsRead there (ap (λ (l : Line). l.reads) same ∙ read)
line_live blocks r p (LinePasses is passes on) =
    let (i, there, same) = line_is (starts_from 0 blocks) r blocks p _ is in
    let both : (leaves i ≡ false) × (writes i r ≡ false) = or_parts (leaves i) (writes i r) (not-true (leaves i || writes i r) (ap (λ (l : Line). l.passes) same ∙ passes)) in
    Passes there both.0 both.1 (line_live blocks r (p + 1) on)
line_live blocks r p (LineTurns is other on) =
    let (i, there, same) = line_is (starts_from 0 blocks) r blocks p _ is in
    let (block, to, at_start) = turn_is blocks (other_block i) _ (ap (λ (l : Line). l.other) same ∙ other) in
    Turns there to (subst (IsLive blocks r) at_start (line_live blocks r _ on))

turn_there : (blocks : List Block) (block : BlockId) → start_of blocks block < length (instructions blocks) → slice_get (starts_from 0 blocks) block.0 ≡ Some (start_of blocks block)
turn_there blocks block less =
    elim (cases_lt block.0 (length blocks)) [
      | inl within ↦ let e : 0 + start_of blocks block ≡ start_of blocks block = omega arith in start_there 0 blocks block.0 within ∙ ap Some e
      | inr past ↦ let e : start_of blocks block ≡ length (instructions blocks) = ap (λ bs. length (instructions bs)) (take_all block.0 blocks past) in absurd (omega (arith, e, less))
    ]

pub live_line : (blocks : List Block) (r : VirtualRegister) (p : ℕ) → IsLive blocks r p → IsLiveLine (lines_of (starts_from 0 blocks) r blocks) p
unfolding line_of
live_line blocks r p (IsRead is read) = LineReads (line_at (starts_from 0 blocks) r blocks p _ is) read
live_line blocks r p (Passes is stays kept on) =
    LinePasses (line_at (starts_from 0 blocks) r blocks p _ is) (not_from_false _ (or_from _ _ stays kept)) (live_line blocks r (p + 1) on)
live_line blocks r p (Turns {block = block} is other on) =
    LineTurns (line_at (starts_from 0 blocks) r blocks p _ is)
    (ap (position_at (starts_from 0 blocks)) other ∙ turn_there blocks block (live_within blocks r (start_of blocks block) on))
    (live_line blocks r (start_of blocks block) on)
