-- The parts of a value that is no record: its elements.
use Rattle.std.proofs.Common.{◌≡◌, ℕ, ◌+◌, ◌*◌, ◌^◌, ◌<◌, ◌≤◌, List, length, slice_index, refl, ap, ap₂, mul-le-mul_right, arith}
use Rattle.op_low.specs.Descriptor.{HasParts, word_in, size_in, parts_in, stride_in, element_in, part_in}
use Rattle.op_low.specs.declared.descriptor.DescKind.{DescKind}
use Rattle.op_low.specs.declared.descriptor.DescKind.TheVariants.{Plain, Chars, Dynamic, Interface, Fields, Repeat}
use Rattle.op_low.specs.declared.descriptor.DescPart.{DescPart}

pub word_in-fits : (constants : List ℕ) (at : ℕ) → ((i : ℕ) → slice_index constants i < 2 ^ 8) → word_in constants at < 2 ^ 32
word_in-fits constants at bytes =
    let a = bytes at in
    let b = bytes (at + 1) in
    let c = bytes (at + 2) in
    let d = bytes (at + 3) in
    omega arith

pub element_stands : (kind : DescKind) (constants : List ℕ) (at k : ℕ) → HasParts kind constants at → (kind ≡ Fields → ⊥) → k < parts_in constants at → at + 20 ≤ length constants
element_stands Plain constants at k none other is_part = absurd (omega arith)
element_stands Chars constants at k none other is_part = absurd (omega arith)
element_stands Interface constants at k none other is_part = absurd (omega arith)
element_stands Dynamic constants at k parts other is_part = parts.2
element_stands Fields constants at k parts other is_part = absurd (other refl)
element_stands Repeat constants at k parts other is_part = parts.1

pub element_within : (kind : DescKind) (constants : List ℕ) (at k : ℕ) → HasParts kind constants at → (kind ≡ Fields → ⊥) → k < parts_in constants at → size_in constants at < 2 ^ 32 → k * stride_in constants at < 2 ^ 32
element_within Plain constants at k none other is_part size = absurd (omega arith)
element_within Chars constants at k none other is_part size = absurd (omega arith)
element_within Interface constants at k none other is_part size = absurd (omega arith)
element_within Dynamic constants at k parts other is_part size =
    let e : k * stride_in constants at ≡ k * 0 = ap (λ s. k * s) parts.1 in
    let f : k * 0 ≡ 0 = omega arith in
    omega arith
element_within Fields constants at k parts other is_part size = absurd (other refl)
element_within Repeat constants at k parts other is_part size =
    let least : k ≤ parts_in constants at = omega arith in
    let product = mul-le-mul_right (stride_in constants at) least in
    let whole = parts.0 in
    omega arith

pub part_in-element : (kind : DescKind) (constants : List ℕ) (at k : ℕ) (part : DescPart) → (kind ≡ Fields → ⊥) → part.offset ≡ k * stride_in constants at → part.inner ≡ element_in constants at → part ≡ part_in kind constants at k
unfolding part_in
part_in-element Plain constants at k part other offset inner = ap₂ (λ o i. record { offset = o; inner = i }) offset inner
part_in-element Fields constants at k part other offset inner = absurd (other refl)
part_in-element _ constants at k part other offset inner = ap₂ (λ o i. record { offset = o; inner = i }) offset inner
