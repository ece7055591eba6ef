-- Environment calls that read, as steps of the definition.
use Rattle.std.proofs.Common.{◌≡◌, ℕ, ◌+◌, ◌%◌, ◌^◌, ◌≤◌, ⊎_elim, ◌⊎◌, true, false, IsTrue, Option, List, [], ◌++◌, length, take, refl, ap, sym, ◌∙◌, subst, arith, inl, inr}
use Rattle.std.proofs.Math.Seq.{take-append_seam}
use Rattle.std.proofs.lemmas.Bool.{false≢true}
use Rattle.std.proofs.lemmas.List.{append-nil, take_all, drop_at}
use Rattle.op_base.specs.Outside.{preceded, IsExhausted}
use Rattle.op_rv.proofs.Environment.{read_call-filled}
use Rattle.op_rv.specs.State.{State, Rights, Running}
use Rattle.op_rv.specs.Environment.{read_call, filled}
use Rattle.op_emu.specs.declared.hart.Hart.{Hart}
use Rattle.op_emu.specs.declared.memory.Memory.{Memory}
use Rattle.op_emu.specs.Filling.{AreBytes, Fills}
use Rattle.op_emu.specs.Registers.{value_of, with_value}
use Rattle.op_emu.specs.Segments.{regions_of, IsWritten}
use Rattle.op_emu.specs.Acts.{moment, state_of, MayFollow, Takes, Acts, may_fill, streams}
use Rattle.op_emu.proofs.Stretches.{appended-nil}

-- a state that goes on, by its parts
abbrev state_with : List ℕ → ℕ → (ℕ → ℕ) → Rights → List ℕ → List ℕ → List ℕ → State
state_with registers pc memory rights input output errors =
    record {
      registers = registers;
      pc = pc;
      memory = memory;
      rights = rights;
      input = input;
      output = output;
      errors = errors;
      ending = Running;
    }

same_state : (r r' : List ℕ) (p p' : ℕ) (m m' : ℕ → ℕ) (t t' : Rights) (x x' o o' e e' : List ℕ) → r ≡ r' → p ≡ p' → m ≡ m' → t ≡ t' → x ≡ x' → o ≡ o' → e ≡ e' → state_with r p m t x o e ≡ state_with r' p' m' t' x' o' e'
same_state r r' p p' m m' t t' x x' o o' e e' a b c d f g h =
    ap (λ r. state_with r p m t x o e) a
    ∙ ap (λ p. state_with r' p m t x o e) b
    ∙ ap (λ m. state_with r' p' m t x o e) c
    ∙ ap (λ t. state_with r' p' m' t x o e) d
    ∙ ap (λ x. state_with r' p' m' t' x o e) f
    ∙ ap (λ o. state_with r' p' m' t' x' o e) g
    ∙ ap (λ e. state_with r' p' m' t' x' o' e) h

-- what the call takes of an input that begins with these bytes: all that is wanted, or all that there is
takes_these : (n : ℕ) (bytes x : List ℕ) → length bytes ≤ n → (length bytes ≡ n) ⊎ (x ≡ []) → take n (bytes ++ x) ≡ bytes
takes_these n bytes x within (inl all) = ap (λ n. take n (bytes ++ x)) (sym all) ∙ take-append_seam bytes x
takes_these n bytes x within (inr none) =
    ap (λ x. take n (bytes ++ x)) none ∙ ap (take n) (append-nil bytes) ∙ take_all n bytes within

-- a hart got these bytes, and goes on
module _ (old new : Hart) (bytes : List ℕ) (i i' o e : Option (List ℕ)) (from : value_of old.registers.words 10 ≡ 0) (may : may_fill old ≡ true) (within : length bytes ≤ value_of old.registers.words 12) (whole : (length bytes ≡ value_of old.registers.words 12) ⊎ IsTrue new.input_ended) (takes : Takes bytes old new i i') (words : new.registers.words ≡ with_value old.registers.words 10 (length bytes)) (pc : new.pc ≡ (old.pc + 4) % 2 ^ 32) (written : IsWritten (regions_of old.memory.segments.items) (regions_of new.memory.segments.items) (value_of old.registers.words 11) bytes) where
  taken_of : (x : List ℕ) → MayFollow new x → take (value_of old.registers.words 12) (bytes ++ x) ≡ bytes
  taken_of x may_follow =
      takes_these (value_of old.registers.words 12) bytes x within (⊎_elim (λ all. inl all) (λ ended. inr (may_follow ended)) whole)

  pub Acts-read : Acts read_call (moment old Running) (moment new Running) (streams i i' o o e e)
  Acts-read =
      record {
        taken = bytes;
        written = [];
        reported = [];
        leads = λ x out err may_follow.
            let s = state_of (moment old Running) (bytes ++ x) out err in
            read_call-filled s from may
            ∙ ap (λ bytes. filled bytes s) (taken_of x may_follow)
            ∙ same_state _ _ _ _ _ _ _ _ _ _ _ _ _ _ (sym words) (sym pc) (sym written.memory) (sym written.rights) (drop_at bytes x _ refl) (sym (append-nil out)) (sym (append-nil err));
        input = takes;
        output = sym (appended-nil o);
        errors = sym (appended-nil e);
      }

Takes-some : (old new : Hart) (bytes : List ℕ) (i i' : Option (List ℕ)) → AreBytes bytes → i ≡ preceded bytes i' → old.input_ended ≡ false → (IsTrue new.input_ended → IsExhausted i') → Takes bytes old new i i'
Takes-some old new bytes i i' bounded parts asks ends =
    record {
      parts = parts;
      bounded = bounded;
      stays_ended = λ ended. absurd (false≢true (sym asks ∙ ended));
      exhausted = λ _ ended. ends ended;
    }

-- a hart's memory was filled from the source, and it goes on
pub Acts-fills : (old new : Hart) (memory : Memory) (k at : ℕ) (i i' o e : Option (List ℕ)) → value_of old.registers.words 10 ≡ 0 → may_fill old ≡ true → old.input_ended ≡ false → Fills k (regions_of old.memory.segments.items) (regions_of memory.segments.items) at i i' → at ≡ value_of old.registers.words 11 → k ≤ value_of old.registers.words 12 → (k ≡ value_of old.registers.words 12) ⊎ IsTrue new.input_ended → (IsTrue new.input_ended → IsExhausted i') → new.memory ≡ memory → new.registers.words ≡ with_value old.registers.words 10 k → new.pc ≡ (old.pc + 4) % 2 ^ 32 → Acts read_call (moment old Running) (moment new Running) (streams i i' o o e e)
Acts-fills old new memory k at i i' o e from may asks fills is_at within whole ends same words pc =
    let many = fills.many in
    let written = subst (λ at. IsWritten (regions_of old.memory.segments.items) (regions_of memory.segments.items) at fills.bytes) is_at fills.written in
    Acts-read old new fills.bytes i i' o e from may (omega arith) (⊎_elim (λ all. inl (many ∙ all)) (λ ended. inr ended) whole) (Takes-some old new fills.bytes i i' fills.bounded fills.parts asks ends) (words ∙ ap (with_value old.registers.words 10) (sym many)) pc (subst (λ memory. IsWritten (regions_of old.memory.segments.items) (regions_of memory.segments.items) (value_of old.registers.words 11) fills.bytes) (sym same) written)
