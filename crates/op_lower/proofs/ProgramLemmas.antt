-- A whole program in managed code, from its routines and the program itself.
use Rattle.std.proofs.Common.{◌≡◌, ◌≢◌, ℕ, ◌+◌, ◌-◌, ◌^◌, ◌<◌, ◌≤◌, min, true, false, nat_eq, List, [], ◌∷◌, ◌++◌, length, drop, refl, sym, ap, ◌∙◌, subst, arith, append_assoc, Option, Some, None, inl, inr, get_or, eqb, Result, Ok, Err, IfOk, ap₂}
use Rattle.std.proofs.lemmas.List.{append-nil, length_push, map-append, at_drop_more, at_drop_all}
use Rattle.std.proofs.lemmas.Option.{slice_get_past, slice_get_within, slice_get_cases, slice_get_read, get_or_from_slice_get}
use Rattle.std.proofs.lemmas.Bool.Decides.{eqb_tells}
use Rattle.std.proofs.Math.ListN.{get_or-append}
use Rattle.std.proofs.Math.Seq.{get_or-append_seam}
use Rattle.std.specs.List.{flat_map}
use Rattle.std.specs.Prelude.{slice_get, slice_set, ◌⊎◌}
use Rattle.op_core.specs.declared.program.Core.{Core}
use Rattle.op_core.specs.declared.program.Unit.{Unit as UnitRow}
use Rattle.op_items.specs.View.{items_view}
use Rattle.op_items.specs.declared.item.Item.{Item}
use Rattle.op_lower.proofs.MadeLemmas.{block_of, as_made, seen_filled, Blocks}
use Rattle.op_lower.specs.Lowers.{IsRoutine, AreRoutines, IsProgram, Lowers}
use Rattle.op_lower.specs.Made.{Makes, items_made}
use Rattle.op_lower.specs.Seen.{seen, seen_blocks}
use Rattle.op_lower.specs.declared.exits.Exits.TheVariants.{Routine as WholeRoutine}
use Rattle.op_meaning.specs.Charge.{charge_at, charge_of}
use Rattle.op_meaning.specs.Frames.{program_of}
use Rattle.op_meaning.specs.Items.{none}
use Rattle.op_mir.specs.Code.{Instr, jump, ret, Made, code, routine_exits, blocks_of, items_of, blocks_in, unit_code, entering, becoming_due}
use Rattle.op_mir.specs.View.{view_instruction, view_of}
use Rattle.op_mir.specs.declared.code.Block.{Block}
use Rattle.op_mir.specs.declared.code.Mir.{Mir}
use Rattle.op_mir.specs.declared.code.Routine.{Routine}
use Rattle.op_mir.specs.declared.instruction.Instruction.{Instruction}
use Rattle.op_mir.specs.declared.instruction.Instruction.TheVariants.{Jump, Return}

-- ---- a routine

-- block 0 gets its code when all is made
pub routine_blocks : (items : List Item) (b0 b1 b2 : List Block) (behind now : List Instruction) → b0 ≡ block_of [] ∷ block_of (Return ∷ []) ∷ [] → behind ≡ Jump (record { 0 = 1 }) ∷ [] → Makes (items_made WholeRoutine items b0 behind) b0 b1 now → b2 ≡ slice_set b1 0 (block_of now) → (core : Core) (r : ℕ) → seen_blocks core r b2 ≡ blocks_of (items_view core r items)
routine_blocks items b0 b1 b2 behind now e h makes f core r =
    let made : ℕ → List Instr → Made = code routine_exits (items_view core r items) in
    let a = made 2 (jump 1 ∷ []) in
    let m = as_made (made (length b0) (seen core r behind)) a (seen core r now) (seen_blocks core r b1) (seen_blocks core r b0) ([] ∷ (ret ∷ []) ∷ []) (ap₂ made (ap length e) (ap (seen core r) h)) (ap (seen_blocks core r) e) (makes core r) in
    let E : Blocks = [] in
    seen_filled core r b1 b2 0 now E [] ((ret ∷ []) ∷ a.blocks) m.1 refl f ∙ ap (λ x. x ∷ (ret ∷ []) ∷ a.blocks) m.0

-- ---- routines

-- the last one, or one before it
last_or_before : (core : Core) (rs : List Routine) (x y : Routine) (k : ℕ) → AreRoutines core rs → IsRoutine core (length rs) x → k < length rs + 1 → get_or (rs ++ x ∷ []) k y ≡ y → ((eqb k (length rs) ≡ true) × (k ≡ length rs)) ⊎ ((eqb k (length rs) ≡ false) × (k ≢ length rs)) → IsRoutine core k y
last_or_before core rs x y k are is bound found (inl h) =
    let e : x ≡ y = sym (get_or-append_seam rs x [] y) ∙ sym (ap (λ j. get_or (rs ++ x ∷ []) j y) h.1) ∙ found in
    let at : ℕ → Type 0 = λ j. IsRoutine core j y in
    let of : Routine → Type 0 = IsRoutine core (length rs) in
    subst at (sym h.1) (subst of e is)
last_or_before core rs x y k are is bound found (inr h) =
    let before : k < length rs = omega (arith, h.1) in
    are k y (slice_get_read rs (length rs) k y refl before (sym (sym (get_or-append rs (x ∷ []) y k before) ∙ found)))

pub routines_more : (core : Core) (rs new : List Routine) (x : Routine) → new ≡ rs ++ x ∷ [] → AreRoutines core rs → IsRoutine core (length rs) x → AreRoutines core new
routines_more core rs new x e are is = λ k y h.
    let found : slice_get (rs ++ x ∷ []) k ≡ Some y = sym (ap (λ xs. slice_get xs k) e) ∙ h in
    let within : k < length (rs ++ x ∷ []) = slice_get_within (rs ++ x ∷ []) k y found in
    let bound : k < length rs + 1 = omega (arith, within, length_push rs x) in
    last_or_before core rs x y k are is bound (get_or_from_slice_get (rs ++ x ∷ []) k y y found) (eqb_tells k (length rs))

-- ---- the program

-- where there is no row, nothing is done and nothing is charged
no_items : (core : Core) (stack r : ℕ) → slice_get core.routines r ≡ None → items_of (program_of core stack) r ≡ none
no_items core stack r e = rw e refl

no_charge : (core : Core) (r : ℕ) → slice_get core.routines r ≡ None → min (charge_of core (record { 0 = r })) (2 ^ 64 - 1) ≡ 0
no_charge core r e = ap (λ o. min (charge_at core o) (2 ^ 64 - 1)) e

none_past : {A : Type 0} (xs : List A) (r : ℕ) → slice_get xs r ≡ None → ((x : A) × (r < length xs) × (slice_get xs r ≡ Some x) × (get_or xs r x ≡ x)) ⊎ ((length xs ≤ r) × (slice_get xs r ≡ None)) → length xs ≤ r
none_past xs r e (inl h) = let clash : Some h.0 ≡ None = sym h.2 ∙ e in cc
none_past xs r e (inr h) = h.0

-- what the machine finds at a number
record Says (core : Core) (mir : Mir) (stack r : ℕ) : Type 0 where
  blocks : (view_of core stack mir).blocks r ≡ blocks_in (program_of core stack) r
  charge : (view_of core stack mir).charge r ≡ min (charge_of core (record { 0 = r })) (2 ^ 64 - 1)

-- a routine, or nothing, where it is not the number of the program
row_says : (core : Core) (mir : Mir) (stack r : ℕ) (o : Option Routine) → length mir.routines ≡ length core.routines → AreRoutines core mir.routines → nat_eq r (length mir.routines) ≡ false → nat_eq r (length core.routines) ≡ false → slice_get mir.routines r ≡ o → Says core mir stack r
row_says core mir stack r (Some routine) n are b c e = record {
  blocks = rw b (rw c (rw e ((are r routine e).blocks stack)));
  charge = rw b (rw e (are r routine e).charge);
}
row_says core mir stack r None n are b c e =
    let past : length mir.routines ≤ r = none_past mir.routines r e (slice_get_cases mir.routines r).1 in
    let gone = slice_get_past core.routines r (omega (arith, past, n)) in
    record {
      blocks = rw b (rw c (rw e (sym (ap blocks_of (no_items core stack r gone)))));
      charge = rw b (rw e (sym (no_charge core r gone)));
    }

-- at the number behind all rows stands the program, also in the definition of code
says : (core : Core) (mir : Mir) (stack r : ℕ) → length mir.routines ≡ length core.routines → AreRoutines core mir.routines → IsProgram core.units mir.program → ((eqb r (length core.routines) ≡ true) × (r ≡ length core.routines)) ⊎ ((eqb r (length core.routines) ≡ false) × (r ≢ length core.routines)) → Says core mir stack r
says core mir stack r n are program (inl h) =
    let gone = slice_get_past core.routines r (omega (arith, h.1)) in
    let b : nat_eq r (length mir.routines) ≡ true = ap (nat_eq r) n ∙ h.0 in
    let c : nat_eq r (length core.routines) ≡ true = h.0 in
    record {
      blocks = rw b (rw c (program.blocks core r));
      charge = rw b (program.charge ∙ sym (no_charge core r gone));
    }
says core mir stack r n are program (inr h) =
    row_says core mir stack r (slice_get mir.routines r) n are (ap (nat_eq r) n ∙ h.0) h.0 refl

pub lowers : (core : Core) (mir : Mir) → length mir.routines ≡ length core.routines → AreRoutines core mir.routines → IsProgram core.units mir.program → mir.counts.types ≡ length core.types → mir.counts.variables ≡ length core.variables → Lowers core mir
lowers core mir n are program types variables = record {
  blocks = λ stack r. (says core mir stack r n are program (eqb_tells r (length core.routines))).blocks;
  charges = λ stack r. (says core mir stack r n are program (eqb_tells r (length core.routines))).charge;
  number = n;
  routines = are;
  program = program;
  types = types;
  variables = variables;
}

-- ---- the code of the program

pub unit_put : {T E : Type 0} (result : Result T E) (old mid new : List Instruction) (unit : UnitRow) → ((core : Core) (r : ℕ) → seen core r mid ≡ seen core r old ++ entering unit.initialization) → IfOk result (λ _. (core : Core) (r : ℕ) → seen core r new ≡ seen core r mid ++ becoming_due unit.finalization) → IfOk result (λ _. (core : Core) (r : ℕ) → seen core r new ≡ seen core r old ++ unit_code unit)
unit_put (Ok done) old mid new unit first last = λ core r.
    last core r ∙ ap (λ xs. xs ++ becoming_due unit.finalization) (first core r) ∙ append_assoc (seen core r old) (entering unit.initialization) (becoming_due unit.finalization)
unit_put (Err error) old mid new unit first last = last

-- the next unit is begun
pub unit_begun : (core : Core) (r : ℕ) (units : List UnitRow) (k : ℕ) (unit : UnitRow) (old new : List Instruction) → k < length units → unit ≡ get_or units k unit → seen core r new ≡ seen core r old ++ unit_code unit → seen core r old ++ flat_map unit_code (drop k units) ≡ flat_map unit_code units → seen core r new ++ flat_map unit_code (drop (k + 1) units) ≡ flat_map unit_code units
unit_begun core r units k unit old new h is e whole =
    ap (λ xs. xs ++ flat_map unit_code (drop (k + 1) units)) (e ∙ ap (λ u. seen core r old ++ unit_code u) is)
    ∙ append_assoc (seen core r old) (unit_code (get_or units k unit)) (flat_map unit_code (drop (k + 1) units))
    ∙ sym (ap (λ xs. seen core r old ++ xs) (at_drop_more (flat_map unit_code) units k unit h))
    ∙ whole

-- all are, and the code returns
pub program_code : (core : Core) (r : ℕ) (units : List UnitRow) (k : ℕ) (old new : List Instruction) (blocks : List Block) → length units ≤ k → new ≡ old ++ Return ∷ [] → blocks ≡ block_of new ∷ block_of (Return ∷ []) ∷ [] → seen core r old ++ flat_map unit_code (drop k units) ≡ flat_map unit_code units → seen_blocks core r blocks ≡ (flat_map unit_code units ++ ret ∷ []) ∷ (ret ∷ []) ∷ []
program_code core r units k old new blocks h e b whole =
    let all : seen core r old ≡ flat_map unit_code units = sym (append-nil (seen core r old)) ∙ sym (ap (λ xs. seen core r old ++ xs) (at_drop_all (flat_map unit_code) units k h)) ∙ whole in
    let code : seen core r new ≡ flat_map unit_code units ++ ret ∷ [] = ap (seen core r) e ∙ map-append (view_instruction core r) old (Return ∷ []) ∙ ap (λ xs. xs ++ ret ∷ []) all in
    ap (seen_blocks core r) b ∙ ap (λ x. x ∷ (ret ∷ []) ∷ []) code
