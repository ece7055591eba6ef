-- The two directions of the table agree: the word of an instruction is read as that instruction.
use Rattle.std.proofs.Common.{◌≡◌, ℕ, suc, ◌+◌, ◌*◌, ◌/◌, ◌%◌, ◌^◌, ◌-◌, ◌<◌, ◌≤◌, IsTrue, Bool, true, false, ◌&&◌, nat_eq, nat_lt, Some, ℤ, pos, negsuc, refl, ◌∙◌, ap, arith, w32}
use Rattle.std.proofs.lemmas.Bool.{and_parts, ltb-true, eqb-true, lt-ltb, le-ltb}
use Rattle.std.specs.Int.{cast_unsigned}
use Rattle.op_rv.specs.Encoding.{word_of, fits, is_register, is_imm, is_signed, is_even, bits_of, imm_bits, r_format, i_format, u_format, imm_field_of, jump_field_of, branch_funct3_of, load_funct3_of, store_funct3_of, imm_funct3_of, shift_funct3_of, shift_funct7_of, alu_funct3_of, alu_funct7_of}
use Rattle.op_rv.specs.Decoding.{instr_at, row_of, opcode_of, rd_of, rs1_of, rs2_of, funct3_of, funct7_of, upper_of, signed_of, store_offset_of, branch_offset_of, jump_offset_of, branch_op_at, load_op_at, store_op_at, imm_op_at, shift_op_at, base_op_at, multiply_op_at, alu_op_at, jalr_row, branch_row, load_row, store_row, shift_row, imm_row, alu_row, fence_row, system_row}
use Rattle.op_rv.specs.declared.instruction.Instr.{Instr}
use Rattle.op_rv.specs.declared.instruction.Instr.TheVariants.{Lui, Auipc, Jal, Jalr, Branch, Load, Store, Imm, Shift, Alu, Fence, Ecall, Ebreak}
use Rattle.op_rv.specs.declared.instruction.BranchOp.{BranchOp}
use Rattle.op_rv.specs.declared.instruction.BranchOp.TheVariants.{Beq}
use Rattle.op_rv.specs.declared.instruction.LoadOp.{LoadOp}
use Rattle.op_rv.specs.declared.instruction.LoadOp.TheVariants.{Lb}
use Rattle.op_rv.specs.declared.instruction.StoreOp.{StoreOp}
use Rattle.op_rv.specs.declared.instruction.StoreOp.TheVariants.{Sb}
use Rattle.op_rv.specs.declared.instruction.ImmOp.{ImmOp}
use Rattle.op_rv.specs.declared.instruction.ImmOp.TheVariants.{Addi}
use Rattle.op_rv.specs.declared.instruction.ShiftOp.{ShiftOp}
use Rattle.op_rv.specs.declared.instruction.ShiftOp.TheVariants.{Slli}
use Rattle.op_rv.specs.declared.instruction.AluOp.{AluOp}
use Rattle.op_rv.specs.declared.instruction.AluOp.TheVariants.{Add}

instr_at-opcode : (word opcode : ℕ) → opcode_of word ≡ opcode → instr_at word ≡ row_of opcode word
unfolding instr_at
instr_at-opcode word opcode e = ap (λ o. row_of o word) e

-- ---- the words of each format: their fields, and what they are read as

module _ (f7 rs2 rs1 f3 rd opcode : ℕ) (f7_fits : f7 < 2 ^ 7) (rs2_fits : rs2 < 2 ^ 5) (rs1_fits : rs1 < 2 ^ 5) (f3_fits : f3 < 2 ^ 3) (rd_fits : rd < 2 ^ 5) (opcode_fits : opcode < 2 ^ 7) where
  opcode_of-r : opcode_of (r_format f7 rs2 rs1 f3 rd opcode) ≡ opcode
  opcode_of-r = omega arith

  rd_of-r : rd_of (r_format f7 rs2 rs1 f3 rd opcode) ≡ rd
  rd_of-r = omega arith

  funct3_of-r : funct3_of (r_format f7 rs2 rs1 f3 rd opcode) ≡ f3
  funct3_of-r = omega arith

  rs1_of-r : rs1_of (r_format f7 rs2 rs1 f3 rd opcode) ≡ rs1
  rs1_of-r = omega arith

  rs2_of-r : rs2_of (r_format f7 rs2 rs1 f3 rd opcode) ≡ rs2
  rs2_of-r = omega arith

  funct7_of-r : funct7_of (r_format f7 rs2 rs1 f3 rd opcode) ≡ f7
  funct7_of-r = omega arith

  instr_at-branch : (op : BranchOp) (offset : ℤ) → opcode ≡ 0b1100011 → branch_op_at f3 ≡ Some op → branch_offset_of (r_format f7 rs2 rs1 f3 rd opcode) ≡ offset → instr_at (r_format f7 rs2 rs1 f3 rd opcode) ≡ Some (Branch op rs1 rs2 offset)
  unfolding row_of branch_row
  instr_at-branch op offset is_opcode is_op is_offset = instr_at-opcode _ _ (opcode_of-r ∙ is_opcode) ∙ simp (funct3_of-r, is_op, rs1_of-r, rs2_of-r, is_offset) refl

  instr_at-store : (op : StoreOp) (offset : ℤ) → opcode ≡ 0b0100011 → store_op_at f3 ≡ Some op → store_offset_of (r_format f7 rs2 rs1 f3 rd opcode) ≡ offset → instr_at (r_format f7 rs2 rs1 f3 rd opcode) ≡ Some (Store op rs1 rs2 offset)
  unfolding row_of store_row
  instr_at-store op offset is_opcode is_op is_offset = instr_at-opcode _ _ (opcode_of-r ∙ is_opcode) ∙ simp (funct3_of-r, is_op, rs1_of-r, rs2_of-r, is_offset) refl

  instr_at-shift : (op : ShiftOp) → opcode ≡ 0b0010011 → nat_eq (f3 % 4) 0b01 ≡ true → shift_op_at f7 f3 ≡ Some op → instr_at (r_format f7 rs2 rs1 f3 rd opcode) ≡ Some (Shift op rd rs1 rs2)
  unfolding row_of imm_row shift_row
  instr_at-shift op is_opcode is_shift is_op = instr_at-opcode _ _ (opcode_of-r ∙ is_opcode) ∙ simp (funct3_of-r, is_shift, funct7_of-r, is_op, rd_of-r, rs1_of-r, rs2_of-r) refl

  instr_at-alu : (op : AluOp) → opcode ≡ 0b0110011 → alu_op_at f7 f3 ≡ Some op → instr_at (r_format f7 rs2 rs1 f3 rd opcode) ≡ Some (Alu op rd rs1 rs2)
  unfolding row_of alu_row
  instr_at-alu op is_opcode is_op = instr_at-opcode _ _ (opcode_of-r ∙ is_opcode) ∙ simp (funct3_of-r, funct7_of-r, is_op, rd_of-r, rs1_of-r, rs2_of-r) refl

module _ (imm rs1 f3 rd opcode : ℕ) (imm_fits : imm < 2 ^ 12) (rs1_fits : rs1 < 2 ^ 5) (f3_fits : f3 < 2 ^ 3) (rd_fits : rd < 2 ^ 5) (opcode_fits : opcode < 2 ^ 7) where
  opcode_of-i : opcode_of (i_format imm rs1 f3 rd opcode) ≡ opcode
  opcode_of-i = omega arith

  rd_of-i : rd_of (i_format imm rs1 f3 rd opcode) ≡ rd
  rd_of-i = omega arith

  funct3_of-i : funct3_of (i_format imm rs1 f3 rd opcode) ≡ f3
  funct3_of-i = omega arith

  rs1_of-i : rs1_of (i_format imm rs1 f3 rd opcode) ≡ rs1
  rs1_of-i = omega arith

  imm-i : bits_of (i_format imm rs1 f3 rd opcode) 31 20 ≡ imm
  imm-i = omega arith

  instr_at-jalr : opcode ≡ 0b1100111 → f3 ≡ 0b000 → instr_at (i_format imm rs1 f3 rd opcode) ≡ Some (Jalr rd rs1 (signed_of 11 imm))
  unfolding row_of jalr_row
  instr_at-jalr is_opcode is_f3 = instr_at-opcode _ _ (opcode_of-i ∙ is_opcode) ∙ simp (funct3_of-i ∙ is_f3, rd_of-i, rs1_of-i, imm-i) refl

  instr_at-load : (op : LoadOp) → opcode ≡ 0b0000011 → load_op_at f3 ≡ Some op → instr_at (i_format imm rs1 f3 rd opcode) ≡ Some (Load op rd rs1 (signed_of 11 imm))
  unfolding row_of load_row
  instr_at-load op is_opcode is_op = instr_at-opcode _ _ (opcode_of-i ∙ is_opcode) ∙ simp (funct3_of-i, is_op, rd_of-i, rs1_of-i, imm-i) refl

  instr_at-imm : (op : ImmOp) → opcode ≡ 0b0010011 → nat_eq (f3 % 4) 0b01 ≡ false → imm_op_at f3 ≡ Some op → instr_at (i_format imm rs1 f3 rd opcode) ≡ Some (Imm op rd rs1 (signed_of 11 imm))
  unfolding row_of imm_row
  instr_at-imm op is_opcode no_shift is_op = instr_at-opcode _ _ (opcode_of-i ∙ is_opcode) ∙ simp (funct3_of-i, no_shift, is_op, rd_of-i, rs1_of-i, imm-i) refl

  instr_at-fence : opcode ≡ 0b0001111 → f3 ≡ 0b000 → instr_at (i_format imm rs1 f3 rd opcode) ≡ Some (Fence rd rs1 imm)
  unfolding row_of fence_row
  instr_at-fence is_opcode is_f3 = instr_at-opcode _ _ (opcode_of-i ∙ is_opcode) ∙ simp (funct3_of-i ∙ is_f3, rd_of-i, rs1_of-i, imm-i) refl

module _ (imm rd opcode : ℕ) (imm_fits : imm < 2 ^ 20) (rd_fits : rd < 2 ^ 5) (opcode_fits : opcode < 2 ^ 7) where
  opcode_of-u : opcode_of (u_format imm rd opcode) ≡ opcode
  opcode_of-u = omega arith

  rd_of-u : rd_of (u_format imm rd opcode) ≡ rd
  rd_of-u = omega arith

  upper_of-u : upper_of (u_format imm rd opcode) ≡ imm
  upper_of-u = omega arith

  instr_at-lui : opcode ≡ 0b0110111 → instr_at (u_format imm rd opcode) ≡ Some (Lui rd imm)
  unfolding row_of
  instr_at-lui is_opcode = instr_at-opcode _ _ (opcode_of-u ∙ is_opcode) ∙ simp (rd_of-u, upper_of-u) refl

  instr_at-auipc : opcode ≡ 0b0010111 → instr_at (u_format imm rd opcode) ≡ Some (Auipc rd imm)
  unfolding row_of
  instr_at-auipc is_opcode = instr_at-opcode _ _ (opcode_of-u ∙ is_opcode) ∙ simp (rd_of-u, upper_of-u) refl

  instr_at-jal : (offset : ℤ) → opcode ≡ 0b1101111 → jump_offset_of (u_format imm rd opcode) ≡ offset → instr_at (u_format imm rd opcode) ≡ Some (Jal rd offset)
  unfolding row_of
  instr_at-jal offset is_opcode is_offset = instr_at-opcode _ _ (opcode_of-u ∙ is_opcode) ∙ simp (rd_of-u, is_offset) refl

-- ---- immediates

signed_of-pos : (k m n : ℕ) → m ≡ n → n < 2 ^ k → signed_of k m ≡ pos n
signed_of-pos k m n e h = rw (e, lt-ltb n (2 ^ k) h) refl

signed_of-negsuc : (k m n : ℕ) → 2 ^ k ≤ m → 2 ^ (k + 1) - 1 - m ≡ n → signed_of k m ≡ negsuc n
signed_of-negsuc k m n h e = rw (le-ltb m (2 ^ k) h, e) refl

-- the low bits of a number, read with their sign, are the number
signed_of-12 : (z : ℤ) → is_signed 11 z ≡ true → signed_of 11 (imm_bits z 11 0) ≡ z
signed_of-12 (pos n) h = let b : n < 2 ^ 11 = ltb-true n (2 ^ 11) h in signed_of-pos 11 (n / 2 ^ 0 % 2 ^ 12) n (omega arith) b
signed_of-12 (negsuc n) h = let b : n < 2 ^ 11 = ltb-true n (2 ^ 11) h in signed_of-negsuc 11 ((2 ^ 32 - suc n) / 2 ^ 0 % 2 ^ 12) n (omega arith) (omega arith)

signed_of-13 : (z : ℤ) → is_signed 12 z ≡ true → signed_of 12 (imm_bits z 12 0) ≡ z
signed_of-13 (pos n) h = let b : n < 2 ^ 12 = ltb-true n (2 ^ 12) h in signed_of-pos 12 (n / 2 ^ 0 % 2 ^ 13) n (omega arith) b
signed_of-13 (negsuc n) h = let b : n < 2 ^ 12 = ltb-true n (2 ^ 12) h in signed_of-negsuc 12 ((2 ^ 32 - suc n) / 2 ^ 0 % 2 ^ 13) n (omega arith) (omega arith)

signed_of-21 : (z : ℤ) → is_signed 20 z ≡ true → signed_of 20 (imm_bits z 20 0) ≡ z
signed_of-21 (pos n) h = let b : n < 2 ^ 20 = ltb-true n (2 ^ 20) h in signed_of-pos 20 (n / 2 ^ 0 % 2 ^ 21) n (omega arith) b
signed_of-21 (negsuc n) h = let b : n < 2 ^ 20 = ltb-true n (2 ^ 20) h in signed_of-negsuc 20 ((2 ^ 32 - suc n) / 2 ^ 0 % 2 ^ 21) n (omega arith) (omega arith)

even_bits : (z : ℤ) → is_even z ≡ true → is_signed 20 z ≡ true → cast_unsigned w32 z % 2 ≡ 0
even_bits (pos n) h b = eqb-true (n % 2) 0 h
even_bits (negsuc n) h b = let e : n % 2 ≡ 1 = eqb-true (n % 2) 1 h in let l : n < 2 ^ 20 = ltb-true n (2 ^ 20) b in omega arith

is_signed-20 : (z : ℤ) → is_signed 12 z ≡ true → is_signed 20 z ≡ true
is_signed-20 (pos n) h = let b : n < 2 ^ 12 = ltb-true n (2 ^ 12) h in lt-ltb n (2 ^ 20) (omega arith)
is_signed-20 (negsuc n) h = let b : n < 2 ^ 12 = ltb-true n (2 ^ 12) h in lt-ltb n (2 ^ 20) (omega arith)

-- the parts of an immediate, put together again
module _ (u rs2 rs1 f3 rd op : ℕ) (rs2_fits : rs2 < 2 ^ 5) (rs1_fits : rs1 < 2 ^ 5) (f3_fits : f3 < 2 ^ 3) (rd_fits : rd < 2 ^ 5) (op_fits : op < 2 ^ 7) where
  store_parts : (w : ℕ) → w ≡ r_format (bits_of u 11 5) rs2 rs1 f3 (bits_of u 4 0) op → bits_of w 31 25 * 2 ^ 5 + bits_of w 11 7 ≡ bits_of u 11 0
  store_parts w e = omega arith

  branch_parts : (w : ℕ) → u % 2 ≡ 0 → w ≡ r_format (bits_of u 12 12 * 2 ^ 6 + bits_of u 10 5) rs2 rs1 f3 (bits_of u 4 1 * 2 + bits_of u 11 11) op → bits_of w 31 31 * 2 ^ 12 + bits_of w 7 7 * 2 ^ 11 + bits_of w 30 25 * 2 ^ 5 + bits_of w 11 8 * 2 ≡ bits_of u 12 0
  branch_parts w even e = omega arith

  jump_parts : (w : ℕ) → u % 2 ≡ 0 → w ≡ u_format (bits_of u 20 20 * 2 ^ 19 + bits_of u 10 1 * 2 ^ 9 + bits_of u 11 11 * 2 ^ 8 + bits_of u 19 12) rd op → bits_of w 31 31 * 2 ^ 20 + bits_of w 19 12 * 2 ^ 12 + bits_of w 20 20 * 2 ^ 11 + bits_of w 30 21 * 2 ≡ bits_of u 20 0
  jump_parts w even e = omega arith

-- ---- the operators

branch_op_at-funct3 : (op : BranchOp) → branch_op_at (branch_funct3_of op) ≡ Some op
unfolding branch_op_at
branch_op_at-funct3 Beq = refl
branch_op_at-funct3 _ = refl

branch_funct3_of-lt : (op : BranchOp) → branch_funct3_of op < 2 ^ 3
branch_funct3_of-lt Beq = omega arith
branch_funct3_of-lt _ = omega arith

load_op_at-funct3 : (op : LoadOp) → load_op_at (load_funct3_of op) ≡ Some op
unfolding load_op_at
load_op_at-funct3 Lb = refl
load_op_at-funct3 _ = refl

load_funct3_of-lt : (op : LoadOp) → load_funct3_of op < 2 ^ 3
load_funct3_of-lt Lb = omega arith
load_funct3_of-lt _ = omega arith

store_op_at-funct3 : (op : StoreOp) → store_op_at (store_funct3_of op) ≡ Some op
unfolding store_op_at
store_op_at-funct3 Sb = refl
store_op_at-funct3 _ = refl

store_funct3_of-lt : (op : StoreOp) → store_funct3_of op < 2 ^ 3
store_funct3_of-lt Sb = omega arith
store_funct3_of-lt _ = omega arith

imm_op_at-funct3 : (op : ImmOp) → imm_op_at (imm_funct3_of op) ≡ Some op
unfolding imm_op_at
imm_op_at-funct3 Addi = refl
imm_op_at-funct3 _ = refl

imm_funct3_of-lt : (op : ImmOp) → imm_funct3_of op < 2 ^ 3
imm_funct3_of-lt Addi = omega arith
imm_funct3_of-lt _ = omega arith

-- no operation on an immediate has the f3 of a shift
imm_funct3_of-mod : (op : ImmOp) → nat_eq (imm_funct3_of op % 4) 0b01 ≡ false
imm_funct3_of-mod Addi = refl
imm_funct3_of-mod _ = refl

shift_op_at-funct : (op : ShiftOp) → shift_op_at (shift_funct7_of op) (shift_funct3_of op) ≡ Some op
unfolding shift_op_at
shift_op_at-funct Slli = refl
shift_op_at-funct _ = refl

shift_funct3_of-lt : (op : ShiftOp) → shift_funct3_of op < 2 ^ 3
shift_funct3_of-lt Slli = omega arith
shift_funct3_of-lt _ = omega arith

shift_funct7_of-lt : (op : ShiftOp) → shift_funct7_of op < 2 ^ 7
shift_funct7_of-lt Slli = omega arith
shift_funct7_of-lt _ = omega arith

shift_funct3_of-mod : (op : ShiftOp) → nat_eq (shift_funct3_of op % 4) 0b01 ≡ true
shift_funct3_of-mod Slli = refl
shift_funct3_of-mod _ = refl

alu_op_at-funct : (op : AluOp) → alu_op_at (alu_funct7_of op) (alu_funct3_of op) ≡ Some op
unfolding alu_op_at base_op_at multiply_op_at
alu_op_at-funct Add = refl
alu_op_at-funct _ = refl

alu_funct3_of-lt : (op : AluOp) → alu_funct3_of op < 2 ^ 3
alu_funct3_of-lt Add = omega arith
alu_funct3_of-lt _ = omega arith

alu_funct7_of-lt : (op : AluOp) → alu_funct7_of op < 2 ^ 7
alu_funct7_of-lt Add = omega arith
alu_funct7_of-lt _ = omega arith

-- ---- the whole table

fits_2 : (a b : ℕ) (t : Bool) → (is_register a && is_register b && t) ≡ true → (a < 2 ^ 5) × (b < 2 ^ 5) × (t ≡ true)
fits_2 a b t h =
    let p = and_parts (is_register a && is_register b) t h in
    let q = and_parts (is_register a) (is_register b) p.0 in
    (ltb-true a (2 ^ 5) q.0, ltb-true b (2 ^ 5) q.1, p.1)

pub instr_at-word_of : (i : Instr) → IsTrue (fits i) → instr_at (word_of i) ≡ Some i
unfolding instr_at row_of system_row
instr_at-word_of (Lui rd upper) h =
    let p = and_parts (is_register rd) (nat_lt upper (2 ^ 20)) h in
    instr_at-lui upper rd 0b0110111 (ltb-true upper (2 ^ 20) p.1) (ltb-true rd (2 ^ 5) p.0) (omega arith) refl
instr_at-word_of (Auipc rd upper) h =
    let p = and_parts (is_register rd) (nat_lt upper (2 ^ 20)) h in
    instr_at-auipc upper rd 0b0010111 (ltb-true upper (2 ^ 20) p.1) (ltb-true rd (2 ^ 5) p.0) (omega arith) refl
instr_at-word_of (Jal rd offset) h =
    let p = and_parts (is_register rd && is_signed 20 offset) (is_even offset) h in
    let q = and_parts (is_register rd) (is_signed 20 offset) p.0 in
    let rd_fits : rd < 2 ^ 5 = ltb-true rd (2 ^ 5) q.0 in
    instr_at-jal (jump_field_of offset) rd 0b1101111 (omega arith) rd_fits (omega arith) offset refl
    (ap (signed_of 20) (jump_parts (cast_unsigned w32 offset) 0 0 0 rd 0b1101111 (omega arith) (omega arith) (omega arith) rd_fits (omega arith) _ (even_bits offset p.1 q.1) refl) ∙ signed_of-21 offset q.1)
instr_at-word_of (Jalr rd rs1 offset) h =
    let p = fits_2 rd rs1 (is_imm offset) h in
    instr_at-jalr (imm_field_of offset) rs1 0b000 rd 0b1100111 (omega arith) p.1 (omega arith) p.0 (omega arith) refl refl
    ∙ ap (λ z. Some (Jalr rd rs1 z)) (signed_of-12 offset p.2)
instr_at-word_of (Branch op rs1 rs2 offset) h =
    let p = and_parts (is_register rs1 && is_register rs2 && is_signed 12 offset) (is_even offset) h in
    let q = fits_2 rs1 rs2 (is_signed 12 offset) p.0 in
    instr_at-branch (imm_bits offset 12 12 * 2 ^ 6 + imm_bits offset 10 5) rs2 rs1 (branch_funct3_of op) (imm_bits offset 4 1 * 2 + imm_bits offset 11 11) 0b1100011 (omega arith) q.1 q.0 (branch_funct3_of-lt op) (omega arith) (omega arith) op offset refl (branch_op_at-funct3 op)
    (ap (signed_of 12) (branch_parts (cast_unsigned w32 offset) rs2 rs1 (branch_funct3_of op) 0 0b1100011 q.1 q.0 (branch_funct3_of-lt op) (omega arith) (omega arith) _ (even_bits offset p.1 (is_signed-20 offset q.2)) refl) ∙ signed_of-13 offset q.2)
instr_at-word_of (Load op rd rs1 offset) h =
    let p = fits_2 rd rs1 (is_imm offset) h in
    instr_at-load (imm_field_of offset) rs1 (load_funct3_of op) rd 0b0000011 (omega arith) p.1 (load_funct3_of-lt op) p.0 (omega arith) op refl (load_op_at-funct3 op)
    ∙ ap (λ z. Some (Load op rd rs1 z)) (signed_of-12 offset p.2)
instr_at-word_of (Store op rs1 rs2 offset) h =
    let p = fits_2 rs1 rs2 (is_imm offset) h in
    instr_at-store (imm_bits offset 11 5) rs2 rs1 (store_funct3_of op) (imm_bits offset 4 0) 0b0100011 (omega arith) p.1 p.0 (store_funct3_of-lt op) (omega arith) (omega arith) op offset refl (store_op_at-funct3 op)
    (ap (signed_of 11) (store_parts (cast_unsigned w32 offset) rs2 rs1 (store_funct3_of op) 0 0b0100011 p.1 p.0 (store_funct3_of-lt op) (omega arith) (omega arith) _ refl) ∙ signed_of-12 offset p.2)
instr_at-word_of (Imm op rd rs1 imm) h =
    let p = fits_2 rd rs1 (is_imm imm) h in
    instr_at-imm (imm_field_of imm) rs1 (imm_funct3_of op) rd 0b0010011 (omega arith) p.1 (imm_funct3_of-lt op) p.0 (omega arith) op refl (imm_funct3_of-mod op) (imm_op_at-funct3 op)
    ∙ ap (λ z. Some (Imm op rd rs1 z)) (signed_of-12 imm p.2)
instr_at-word_of (Shift op rd rs1 amount) h =
    let p = fits_2 rd rs1 (nat_lt amount 32) h in
    instr_at-shift (shift_funct7_of op) amount rs1 (shift_funct3_of op) rd 0b0010011 (shift_funct7_of-lt op) (ltb-true amount 32 p.2) p.1 (shift_funct3_of-lt op) p.0 (omega arith) op refl (shift_funct3_of-mod op) (shift_op_at-funct op)
instr_at-word_of (Alu op rd rs1 rs2) h =
    let p = fits_2 rd rs1 (is_register rs2) h in
    instr_at-alu (alu_funct7_of op) rs2 rs1 (alu_funct3_of op) rd 0b0110011 (alu_funct7_of-lt op) (ltb-true rs2 32 p.2) p.1 (alu_funct3_of-lt op) p.0 (omega arith) op refl (alu_op_at-funct op)
instr_at-word_of (Fence rd rs1 bits) h =
    let p = fits_2 rd rs1 (nat_lt bits (2 ^ 12)) h in
    instr_at-fence bits rs1 0b000 rd 0b0001111 (ltb-true bits (2 ^ 12) p.2) p.1 (omega arith) p.0 (omega arith) refl refl
instr_at-word_of Ecall h = refl
instr_at-word_of Ebreak h = refl

-- the word of an instruction whose fields fit is a word
pub word_of-lt : (i : Instr) → fits i ≡ true → word_of i < 2 ^ 32
word_of-lt (Lui rd upper) h =
    let p = and_parts (is_register rd) (nat_lt upper (2 ^ 20)) h in
    let a = ltb-true upper (2 ^ 20) p.1 in
    let b = ltb-true rd (2 ^ 5) p.0 in
    omega arith
word_of-lt (Auipc rd upper) h =
    let p = and_parts (is_register rd) (nat_lt upper (2 ^ 20)) h in
    let a = ltb-true upper (2 ^ 20) p.1 in
    let b = ltb-true rd (2 ^ 5) p.0 in
    omega arith
word_of-lt (Jal rd offset) h =
    let p = and_parts (is_register rd && is_signed 20 offset) (is_even offset) h in
    let q = and_parts (is_register rd) (is_signed 20 offset) p.0 in
    let a = ltb-true rd (2 ^ 5) q.0 in
    omega arith
word_of-lt (Jalr rd rs1 offset) h =
    let p = fits_2 rd rs1 (is_imm offset) h in
    let a = p.0 in
    let b = p.1 in
    omega arith
word_of-lt (Branch op rs1 rs2 offset) h =
    let p = and_parts (is_register rs1 && is_register rs2 && is_signed 12 offset) (is_even offset) h in
    let q = fits_2 rs1 rs2 (is_signed 12 offset) p.0 in
    let a = q.0 in
    let b = q.1 in
    let f = branch_funct3_of-lt op in
    omega arith
word_of-lt (Load op rd rs1 offset) h =
    let p = fits_2 rd rs1 (is_imm offset) h in
    let a = p.0 in
    let b = p.1 in
    let f = load_funct3_of-lt op in
    omega arith
word_of-lt (Store op rs1 rs2 offset) h =
    let p = fits_2 rs1 rs2 (is_imm offset) h in
    let a = p.0 in
    let b = p.1 in
    let f = store_funct3_of-lt op in
    omega arith
word_of-lt (Imm op rd rs1 imm) h =
    let p = fits_2 rd rs1 (is_imm imm) h in
    let a = p.0 in
    let b = p.1 in
    let f = imm_funct3_of-lt op in
    omega arith
word_of-lt (Shift op rd rs1 amount) h =
    let p = fits_2 rd rs1 (nat_lt amount 32) h in
    let a = p.0 in
    let b = p.1 in
    let c = ltb-true amount 32 p.2 in
    let f = shift_funct3_of-lt op in
    let g = shift_funct7_of-lt op in
    omega arith
word_of-lt (Alu op rd rs1 rs2) h =
    let p = fits_2 rd rs1 (is_register rs2) h in
    let a = p.0 in
    let b = p.1 in
    let c = ltb-true rs2 32 p.2 in
    let f = alu_funct3_of-lt op in
    let g = alu_funct7_of-lt op in
    omega arith
word_of-lt (Fence rd rs1 bits) h =
    let p = fits_2 rd rs1 (nat_lt bits (2 ^ 12)) h in
    let a = p.0 in
    let b = p.1 in
    let c = ltb-true bits (2 ^ 12) p.2 in
    omega arith
word_of-lt Ecall h = omega arith
word_of-lt Ebreak h = omega arith

pub ruleset round_trip = (instr_at-word_of)
