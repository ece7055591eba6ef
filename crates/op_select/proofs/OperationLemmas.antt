-- What the operators compute on words are words.
use Rattle.std.proofs.Common.{◌≡◌, ℕ, ℤ, pos, negsuc, suc, ◌+◌, ◌-◌, ◌*◌, ◌/◌, ◌%◌, ◌^◌, ◌*ℤ◌, ◌<◌, ◌≤◌, Bool, true, false, cond, nat_eq, nat_lt, int_lt, arith}
use Rattle.std.proofs.Math.Nat.{div-le_self, mod-le, mul-le-mul}
use Rattle.std.proofs.lemmas.Int.{ints, unsigned_abs-mul}
use Rattle.std.proofs.lemmas.Nat.{xor_of_32, or_of_32, and_le_l}
use Rattle.std.specs.Int.{w8, w16, cast_signed, from_bool, int_shr}
use Rattle.std.specs.Int.RustNames.{int_div, int_rem, unsigned_abs}
use Rattle.op_rv.proofs.Memory.{word_at-bounded}
use Rattle.op_rv.proofs.Numbers.{abs_div, abs_neg, abs_signed}
use Rattle.op_rv.specs.Operation.{signed, word_from, upper_word, shift_value, alu_value, imm_value}
use Rattle.op_rv.specs.State.{half_at}
use Rattle.op_rv.specs.Step.{load_value}
use Rattle.op_rv.specs.declared.instruction.AluOp.{AluOp}
use Rattle.op_rv.specs.declared.instruction.AluOp.TheVariants.{Add, Sub, Sll, Slt, Sltu, Xor, Srl, Sra, Or, And, Mul, Mulh, Mulhsu, Mulhu, Div, Divu, Rem, Remu}
use Rattle.op_rv.specs.declared.instruction.ImmOp.{ImmOp}
use Rattle.op_rv.specs.declared.instruction.ImmOp.TheVariants.{Addi, Slti, Sltiu, Xori, Ori, Andi}
use Rattle.op_rv.specs.declared.instruction.LoadOp.{LoadOp}
use Rattle.op_rv.specs.declared.instruction.LoadOp.TheVariants.{Lb, Lh, Lw, Lbu, Lhu}
use Rattle.op_rv.specs.declared.instruction.ShiftOp.{ShiftOp}
use Rattle.op_rv.specs.declared.instruction.ShiftOp.TheVariants.{Slli, Srli, Srai}

from_bool-bounded : (b : Bool) → from_bool b < 2 ^ 32
from_bool-bounded true = omega arith
from_bool-bounded false = omega arith

pub word_from-bounded : (z : ℤ) → unsigned_abs z < 2 ^ 32 → word_from z < 2 ^ 32
word_from-bounded (pos n) small = omega (arith, ints)
word_from-bounded (negsuc n) small = omega (arith, ints)

upper_word-bounded : (z : ℤ) → unsigned_abs z < 2 ^ 64 → upper_word z < 2 ^ 32
upper_word-bounded (pos n) small = omega (arith, ints)
upper_word-bounded (negsuc n) small = omega (arith, ints)

abs_rem : (a b : ℤ) → unsigned_abs (int_rem a b) ≤ unsigned_abs a
abs_rem (pos a) b = mod-le a (unsigned_abs b)
abs_rem (negsuc a) b =
    let less = mod-le (suc a) (unsigned_abs b) in
    let neg = abs_neg (suc a % unsigned_abs b) in
    omega arith

abs_shr : (a : ℤ) (k : ℕ) → unsigned_abs (int_shr a k) ≤ unsigned_abs a
abs_shr (pos a) k = div-le_self a (2 ^ k)
abs_shr (negsuc a) k =
    let less = div-le_self a (2 ^ k) in
    omega arith

cond-bounded : (b : Bool) (x y : ℕ) → x < 2 ^ 32 → y < 2 ^ 32 → cond b x y < 2 ^ 32
cond-bounded true x y first second = first
cond-bounded false x y first second = second

products : (a b c d : ℕ) → a ≤ c → b ≤ d → a * b ≤ c * d
products a b c d first second = mul-le-mul first second

pub shift-bounded : (op : ShiftOp) (a amount : ℕ) → a < 2 ^ 32 → shift_value op a amount < 2 ^ 32
shift-bounded Slli a amount small = omega arith
shift-bounded Srli a amount small =
    let less = div-le_self a (2 ^ amount) in
    omega arith
shift-bounded Srai a amount small =
    let abs = abs_signed a small in
    let less = abs_shr (signed a) amount in
    word_from-bounded (int_shr (signed a) amount) (omega arith)

pub alu-bounded : (op : AluOp) (a b : ℕ) → a < 2 ^ 32 → b < 2 ^ 32 → alu_value op a b < 2 ^ 32
alu-bounded Add a b first second = omega arith
alu-bounded Sub a b first second = omega arith
alu-bounded Sll a b first second = shift-bounded Slli a (b % 32) first
alu-bounded Slt a b first second = from_bool-bounded (int_lt (signed a) (signed b))
alu-bounded Sltu a b first second = from_bool-bounded (nat_lt a b)
alu-bounded Xor a b first second = xor_of_32 a b first second
alu-bounded Srl a b first second = shift-bounded Srli a (b % 32) first
alu-bounded Sra a b first second = shift-bounded Srai a (b % 32) first
alu-bounded Or a b first second = or_of_32 a b first second
alu-bounded And a b first second =
    let less = and_le_l a b in
    omega arith
alu-bounded Mul a b first second = omega arith
alu-bounded Mulh a b first second =
    let most = products (unsigned_abs (signed a)) (unsigned_abs (signed b)) (2 ^ 31) (2 ^ 31) (abs_signed a first) (abs_signed b second) in
    let whole = unsigned_abs-mul (signed a) (signed b) in
    upper_word-bounded (signed a *ℤ signed b) (omega arith)
alu-bounded Mulhsu a b first second =
    let most = products (unsigned_abs (signed a)) b (2 ^ 31) (2 ^ 32) (abs_signed a first) (omega arith) in
    let whole : unsigned_abs (signed a *ℤ pos b) ≡ unsigned_abs (signed a) * b = unsigned_abs-mul (signed a) (pos b) in
    upper_word-bounded (signed a *ℤ pos b) (omega arith)
alu-bounded Mulhu a b first second =
    let most = products a b (2 ^ 32 - 1) (2 ^ 32 - 1) (omega arith) (omega arith) in
    omega arith
alu-bounded Div a b first second =
    let abs = abs_signed a first in
    let less = abs_div (signed a) (signed b) in
    cond-bounded (nat_eq b 0) (2 ^ 32 - 1) _ (omega arith) (word_from-bounded (int_div (signed a) (signed b)) (omega arith))
alu-bounded Divu a b first second =
    let less = div-le_self a b in
    cond-bounded (nat_eq b 0) (2 ^ 32 - 1) (a / b) (omega arith) (omega arith)
alu-bounded Rem a b first second =
    let abs = abs_signed a first in
    let less = abs_rem (signed a) (signed b) in
    cond-bounded (nat_eq b 0) a _ first (word_from-bounded (int_rem (signed a) (signed b)) (omega arith))
alu-bounded Remu a b first second =
    let less = mod-le a b in
    cond-bounded (nat_eq b 0) a (a % b) first (omega arith)

pub imm-bounded : (op : ImmOp) (a b : ℕ) → a < 2 ^ 32 → b < 2 ^ 32 → imm_value op a b < 2 ^ 32
imm-bounded Addi a b first second = omega arith
imm-bounded Slti a b first second = from_bool-bounded (int_lt (signed a) (signed b))
imm-bounded Sltiu a b first second = from_bool-bounded (nat_lt a b)
imm-bounded Xori a b first second = xor_of_32 a b first second
imm-bounded Ori a b first second = or_of_32 a b first second
imm-bounded Andi a b first second =
    let less = and_le_l a b in
    omega arith

extended_byte-bounded : (n : ℕ) → n < 2 ^ 8 → word_from (cast_signed w8 n) < 2 ^ 32
extended_byte-bounded n small = omega (arith, ints)

extended_half-bounded : (n : ℕ) → n < 2 ^ 16 → word_from (cast_signed w16 n) < 2 ^ 32
extended_half-bounded n small = omega (arith, ints)

pub load-bounded : (op : LoadOp) (memory : ℕ → ℕ) (a : ℕ) → ((x : ℕ) → memory x < 2 ^ 8) → load_value op memory a < 2 ^ 32
load-bounded Lb memory a bytes = extended_byte-bounded (memory a) (bytes a)
load-bounded Lh memory a bytes =
    let one = bytes a in
    let two = bytes (a + 1) in
    extended_half-bounded (half_at memory a) (omega arith)
load-bounded Lw memory a bytes = word_at-bounded memory a bytes
load-bounded Lbu memory a bytes =
    let one = bytes a in
    omega arith
load-bounded Lhu memory a bytes =
    let one = bytes a in
    let two = bytes (a + 1) in
    omega arith
