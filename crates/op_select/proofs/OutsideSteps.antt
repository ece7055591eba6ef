-- Instructions that read and write.
use Rattle.std.proofs.Common.{◌≡◌, ◌≢◌, ℕ, zero, suc, ◌+◌, ◌%◌, ◌^◌, ◌<◌, ◌≤◌, true, ◌&&◌, if◌then◌else◌, nat_eq, List, [], ◌∷◌, ◌++◌, length, get_or, set, take, drop, refl, ap, ap₂, sym, subst, ◌∙◌, arith}
use Rattle.std.proofs.lemmas.Bool.{cond-true}
use Rattle.std.proofs.lemmas.List.{get_or-drop, get_or-set_same, get_or-set_other, length-set}
use Rattle.std.specs.Cmp.{first_so, second_so}
use Rattle.op_low.specs.Machine.{Written, Taken, act as low_act, write as low_write, read as low_read, written}
use Rattle.op_low.specs.State.{State as LowState, keep as with_kept, value, usable}
use Rattle.op_low.specs.Valid.{is_valid_instruction, has}
use Rattle.op_low.specs.declared.ids.VirtualRegister.{VirtualRegister}
use Rattle.op_low.specs.declared.instruction.Instruction.TheVariants.{Read, Write}
use Rattle.op_low.specs.declared.instruction.Output.{Output}
use Rattle.op_low.specs.declared.instruction.Output.TheVariants.{Console, Errors}
use Rattle.op_rv.proofs.Environment.{environment_call-read, environment_call-write, read_call-filled}
use Rattle.op_rv.proofs.Memory.{all_of, bytes_from-same}
use Rattle.op_rv.specs.Environment.{write_call, returned, filled, is_readable, is_writable}
use Rattle.op_rv.specs.State.{State, register, faulted, with_bytes, all_from, bytes_from}
use Rattle.op_rv.specs.Step.{act}
use Rattle.op_rv.specs.declared.fault.FaultKind.TheVariants.{Load as LoadFault, Call as CallFault}
use Rattle.op_rv.specs.declared.instruction.Instr.TheVariants.{Ecall}
use Rattle.op_select.specs.Frames.{fetch}
use Rattle.op_select.specs.Going.{Setting, IsSetting, routine_in, placement_of, Stays, Goes}
use Rattle.op_select.specs.Placing.{Stands}
use Rattle.op_select.specs.RiscvMachine.{instr_shows, call_event, event_if, read_event, write_event}
use Rattle.op_select.specs.Selection.{items_of, code_items, transfer, descriptor_of}
use Rattle.op_select.specs.Sequences.{small}
use Rattle.op_select.proofs.ControlSteps.{stays_written}
use Rattle.op_select.proofs.FrameLemmas.{keeps, stays_placed, value-bounded}
use Rattle.op_select.proofs.SequenceLemmas.{smalls}
use Rattle.op_select.proofs.ValueSteps.{Steps, inside, usable_all}
use Rattle.op_select.proofs.Walks.{Walk, walk_join, walk_weaken, walk_step, advanced_pc, placed, sound_placed, plain_first, split, nothing_more}
use Rattle.op_select.proofs.FrameLemmas.{fetches}

-- the registers of an environment call
pub record Arguments (b : State) (a n descriptor number at : ℕ) : Type 0 where
  pub registers : List ℕ
  pub size : length registers ≡ 32
  pub descriptor_is : get_or registers 10 0 ≡ descriptor
  pub buffer_is : get_or registers 11 0 ≡ a
  pub length_is : get_or registers 12 0 ≡ n
  pub number_is : get_or registers 17 0 ≡ number
  pub sp_same : get_or registers 2 0 ≡ get_or b.registers 2 0
  pub limit_same : get_or registers 8 0 ≡ get_or b.registers 8 0
  pub homes_same : (k : ℕ) → get_or registers (18 + k) 0 ≡ get_or b.registers (18 + k) 0
  pub walk : Walk b (placed b registers at) 4 8 []

-- the state behind a write
abbrev pub wrote : Output → List ℕ → State → State
wrote Console bytes s = record s { output = s.output ++ bytes }
wrote Errors bytes s = record s { errors = s.errors ++ bytes }

-- ---- what the environment does

write_does : (output : Output) (s : State) → register s 10 ≡ descriptor_of output → is_readable s ≡ true → write_call s ≡ wrote output (bytes_from s.memory (register s 11) (register s 12)) (returned (register s 12) s)
unfolding write_call
write_does Console s is can =
    let bytes = bytes_from s.memory (register s 11) (register s 12) in
    let first = if is_readable s then record (returned (register s 12) s) { output = s.output ++ bytes } else faulted LoadFault s in
    let second = if is_readable s then record (returned (register s 12) s) { errors = s.errors ++ bytes } else faulted LoadFault s in
    let chosen : (if nat_eq (register s 10) 1 then first else (if nat_eq (register s 10) 2 then second else faulted CallFault s)) ≡ first = ap (λ n. if nat_eq n 1 then first else (if nat_eq n 2 then second else faulted CallFault s)) is in
    chosen ∙ cond-true (is_readable s) (record (returned (register s 12) s) { output = s.output ++ bytes }) (faulted LoadFault s) can
write_does Errors s is can =
    let bytes = bytes_from s.memory (register s 11) (register s 12) in
    let first = if is_readable s then record (returned (register s 12) s) { output = s.output ++ bytes } else faulted LoadFault s in
    let second = if is_readable s then record (returned (register s 12) s) { errors = s.errors ++ bytes } else faulted LoadFault s in
    let chosen : (if nat_eq (register s 10) 1 then first else (if nat_eq (register s 10) 2 then second else faulted CallFault s)) ≡ second = ap (λ n. if nat_eq n 1 then first else (if nat_eq n 2 then second else faulted CallFault s)) is in
    chosen ∙ cond-true (is_readable s) (record (returned (register s 12) s) { errors = s.errors ++ bytes }) (faulted LoadFault s) can

write_shows : (output : Output) (s : State) → register s 17 ≡ 64 → register s 10 ≡ descriptor_of output → is_readable s ≡ true → call_event s ≡ Written output (bytes_from s.memory (register s 11) (register s 12)) ∷ []
unfolding call_event
write_shows Console s number is can =
    let bytes = bytes_from s.memory (register s 11) (register s 12) in
    let called : call_event s ≡ write_event s = ap (λ n. if nat_eq n 63 then read_event s else (if nat_eq n 64 then write_event s else [])) number in
    let chosen : write_event s ≡ event_if (is_readable s) (Written Console bytes) = ap (λ n. if nat_eq n 1 then event_if (is_readable s) (Written Console bytes) else event_if (nat_eq n 2 && is_readable s) (Written Errors bytes)) is in
    called ∙ chosen ∙ cond-true (is_readable s) (Written Console bytes ∷ []) [] can
write_shows Errors s number is can =
    let bytes = bytes_from s.memory (register s 11) (register s 12) in
    let called : call_event s ≡ write_event s = ap (λ n. if nat_eq n 63 then read_event s else (if nat_eq n 64 then write_event s else [])) number in
    let chosen : write_event s ≡ event_if (is_readable s) (Written Errors bytes) = ap (λ n. if nat_eq n 1 then event_if (is_readable s) (Written Console bytes) else event_if (nat_eq n 2 && is_readable s) (Written Errors bytes)) is in
    called ∙ chosen ∙ cond-true (is_readable s) (Written Errors bytes ∷ []) [] can

read_shows : (s : State) → register s 17 ≡ 63 → register s 10 ≡ 0 → is_writable s ≡ true → call_event s ≡ Taken (take (register s 12) s.input) ∷ []
unfolding call_event
read_shows s number is can =
    let bytes = take (register s 12) s.input in
    let called : call_event s ≡ read_event s = ap (λ n. if nat_eq n 63 then read_event s else (if nat_eq n 64 then write_event s else [])) number in
    let chosen : read_event s ≡ event_if (is_writable s) (Taken bytes) = ap (λ n. event_if (nat_eq n 0 && is_writable s) (Taken bytes)) is in
    called ∙ chosen ∙ cond-true (is_writable s) (Taken bytes ∷ []) [] can

-- ---- bytes

take-bounded : (n : ℕ) (xs : List ℕ) (k : ℕ) → ((i : ℕ) → get_or xs i 0 < 2 ^ 8) → get_or (take n xs) k 0 < 2 ^ 8
take-bounded zero xs k small = omega arith
take-bounded (suc n) [] k small = omega arith
take-bounded (suc n) (x ∷ xs) zero small = small 0
take-bounded (suc n) (x ∷ xs) (suc k) small = take-bounded n xs k (λ i. small (suc i))

length_taken : (n : ℕ) (xs : List ℕ) → length (take n xs) ≤ n
length_taken zero xs = omega arith
length_taken (suc n) [] = omega arith
length_taken (suc n) (x ∷ xs) =
    let less = length_taken n xs in
    omega arith

drop_taken : (n : ℕ) (xs : List ℕ) → drop (length (take n xs)) xs ≡ drop n xs
drop_taken zero xs = refl
drop_taken (suc n) [] = refl
drop_taken (suc n) (x ∷ xs) = drop_taken n xs

module _ (w : Setting) (law : IsSetting w) where
  arguments : (m : LowState) (b : State) (buffer size : VirtualRegister) (descriptor number at : ℕ) → Stays w m b → buffer.0 < (routine_in w m.top.routine).registers → size.0 < (routine_in w m.top.routine).registers → descriptor < 2 ^ 11 → number < 2 ^ 11 → Stands w.placing m.top.routine b.pc (fetch (routine_in w m.top.routine) 11 buffer ++ fetch (routine_in w m.top.routine) 12 size ++ small 10 descriptor ++ small 17 number) at → Arguments b (value m buffer) (value m size) descriptor number at
  arguments m b buffer size descriptor number at stays buffer_in size_in few also stands =
      let r = m.top.routine in
      let routine = routine_in w r in
      let three = split w.placing r b.pc (fetch routine 11 buffer ++ fetch routine 12 size ++ small 10 descriptor) _ at stands in
      let two = split w.placing r b.pc (fetch routine 11 buffer ++ fetch routine 12 size) _ three.middle three.first in
      let one = split w.placing r b.pc (fetch routine 11 buffer) _ two.middle two.first in
      let first = fetches w law m b 11 buffer one.middle stays buffer_in (omega arith) (omega arith) (omega arith) one.first in
      let c = placed b first.registers one.middle in
      let stays_c = stays_placed w law m b first.registers one.middle stays first.size (first.others 2 (omega arith) (omega arith)) (first.others 8 (omega arith) (omega arith)) (λ k. first.others (18 + k) (omega arith) (omega arith)) in
      let second = fetches w law m c 12 size two.middle stays_c size_in (omega arith) (omega arith) (omega arith) one.second in
      let d = placed b second.registers two.middle in
      let sound_d = sound_placed w law b second.registers two.middle stays.sound second.size in
      let third = smalls w law d r 10 descriptor three.middle sound_d (omega arith) (omega arith) few two.second in
      let e = placed b third.registers three.middle in
      let sound_e = sound_placed w law b third.registers three.middle stays.sound third.size in
      let fourth = smalls w law e r 17 number at sound_e (omega arith) (omega arith) also three.second in
      let keeps_ : (q : ℕ) → q ≢ 10 → q ≢ 11 → q ≢ 12 → q ≢ 17 → get_or fourth.registers q 0 ≡ get_or b.registers q 0 = λ q a b c d. fourth.others q d d ∙ third.others q a a ∙ second.others q c c ∙ first.others q b b in
      record {
        registers = fourth.registers;
        size = fourth.size;
        descriptor_is = fourth.others 10 (omega arith) (omega arith) ∙ third.value_is;
        buffer_is = fourth.others 11 (omega arith) (omega arith) ∙ third.others 11 (omega arith) (omega arith) ∙ second.others 11 (omega arith) (omega arith) ∙ first.value_is;
        length_is = fourth.others 12 (omega arith) (omega arith) ∙ third.others 12 (omega arith) (omega arith) ∙ second.value_is;
        number_is = fourth.value_is;
        sp_same = keeps_ 2 (omega arith) (omega arith) (omega arith) (omega arith);
        limit_same = keeps_ 8 (omega arith) (omega arith) (omega arith) (omega arith);
        homes_same = λ k. keeps_ (18 + k) (omega arith) (omega arith) (omega arith) (omega arith);
        walk = walk_join b e (placed b fourth.registers at) 3 7 1 1 [] [] (walk_join b d e 2 6 1 1 [] [] (walk_join b c d 1 3 1 3 [] [] first.walk second.walk) third.walk) fourth.walk;
      }

  -- ---- writes

  wrote_stays : (output : Output) (bytes : List ℕ) (m : LowState) (c : State) → Stays w m c → Stays w (written output bytes m) (wrote output bytes c)
  wrote_stays Console bytes m c stays =
      record {
        sound = record { running = stays.sound.running; rights = stays.sound.rights; size = stays.sound.size; bytes = stays.sound.bytes; code = stays.sound.code };
        memory = stays.memory;
        input = stays.input;
        input_bytes = stays.input_bytes;
        output = ap (λ xs. xs ++ bytes) stays.output;
        errors = stays.errors;
        limit = stays.limit;
        sp = stays.sp;
        limit_aligned = stays.limit_aligned;
        sp_aligned = stays.sp_aligned;
        holds = stays.holds;
        below = stays.below;
      }
  wrote_stays Errors bytes m c stays =
      record {
        sound = record { running = stays.sound.running; rights = stays.sound.rights; size = stays.sound.size; bytes = stays.sound.bytes; code = stays.sound.code };
        memory = stays.memory;
        input = stays.input;
        input_bytes = stays.input_bytes;
        output = stays.output;
        errors = ap (λ xs. xs ++ bytes) stays.errors;
        limit = stays.limit;
        sp = stays.sp;
        limit_aligned = stays.limit_aligned;
        sp_aligned = stays.sp_aligned;
        holds = stays.holds;
        below = stays.below;
      }

  wrote_ready : (output : Output) (bytes : List ℕ) (m : LowState) (c : State) → Goes w m c → Goes w (written output bytes m) (wrote output bytes c)
  wrote_ready Console bytes m c goes = record { stays = wrote_stays Console bytes m c goes.stays; ready = goes.ready }
  wrote_ready Errors bytes m c goes = record { stays = wrote_stays Errors bytes m c goes.stays; ready = goes.ready }

  wrote_placed : (output : Output) (bytes : List ℕ) (c : State) (n at : ℕ) → (c.pc + 4) % 2 ^ 32 ≡ at → wrote output bytes (returned n c) ≡ wrote output bytes (placed c (set c.registers 10 n) at)
  wrote_placed output bytes c n at is = ap (λ k. wrote output bytes (placed c (set c.registers 10 n) k)) is

  descriptor-bounded : (output : Output) → descriptor_of output < 2 ^ 11
  descriptor-bounded Console = omega arith
  descriptor-bounded Errors = omega arith

  pub write_steps : (m : LowState) (b : State) (output : Output) (buffer size : VirtualRegister) (end : ℕ) → Stays w m b → is_valid_instruction w.low (routine_in w m.top.routine) (Write output buffer size) ≡ true → all_from (usable w.rights.readable m) (value m buffer) (value m size) ≡ true → Stands w.placing m.top.routine b.pc (items_of (routine_in w m.top.routine) (Write output buffer size) ++ code_items (routine_in w m.top.routine) m.top.now) end → Steps w (low_act w.low (placement_of w) (Write output buffer size) m) b 9 (Written output (bytes_from m.memory (value m buffer) (value m size)) ∷ [])
  unfolding is_valid_instruction items_of low_act low_write act instr_shows
  write_steps m b output buffer size end stays valid can stands =
      let r = m.top.routine in
      let routine = routine_in w r in
      let a = value m buffer in
      let n = value m size in
      let bytes = bytes_from m.memory a n in
      let whole = split w.placing r b.pc (items_of routine (Write output buffer size)) _ end stands in
      let parts = split w.placing r b.pc (fetch routine 11 buffer ++ fetch routine 12 size ++ small 10 (descriptor_of output) ++ small 17 64) _ whole.middle whole.first in
      let args = arguments m b buffer size (descriptor_of output) 64 parts.middle stays (inside w law m buffer (first_so _ _ valid)) (inside w law m size (second_so (has routine buffer) _ valid)) (descriptor-bounded output) (omega arith) parts.first in
      let c = placed b args.registers parts.middle in
      let stays_c = stays_placed w law m b args.registers parts.middle stays args.size args.sp_same args.limit_same args.homes_same in
      let first = plain_first w.placing r parts.middle Ecall _ whole.middle parts.second in
      let there = nothing_more w.placing r (parts.middle + 4) whole.middle first.1 in
      let usable_ = usable_all w.rights.readable m a n can in
      let can_c : all_from c.rights.readable a n ≡ true = subst (λ rights. all_from rights.readable a n ≡ true) (sym stays_c.sound.rights) (all_of w.rights.readable a n (λ x from before. (usable_ x from before).0)) in
      let readable : is_readable c ≡ true = ap₂ (all_from c.rights.readable) args.buffer_is args.length_is ∙ can_c in
      let bytes_is : bytes_from c.memory (register c 11) (register c 12) ≡ bytes = ap₂ (bytes_from c.memory) args.buffer_is args.length_is ∙ bytes_from-same m.memory c.memory a n (λ x from before. stays_c.memory x (usable_ x from before).1) in
      let at = advanced_pc w law c Ecall first.0 ∙ there in
      let d = placed c (set c.registers 10 (register c 12)) whole.middle in
      let does = environment_call-write c args.number_is ∙ write_does output c args.descriptor_is readable ∙ ap (λ bs. wrote output bs (returned (register c 12) c)) bytes_is ∙ wrote_placed output bytes c (register c 12) whole.middle at in
      let shows = write_shows output c args.number_is args.descriptor_is readable ∙ ap (λ bs. Written output bs ∷ []) bytes_is in
      let one = walk_step w law c (wrote output bytes d) Ecall (Written output bytes ∷ []) stays_c.sound first.0 shows does in
      let size_d = length-set c.registers 10 (register c 12) ∙ args.size in
      let stays_d = stays_placed w law m c (set c.registers 10 (register c 12)) whole.middle stays_c size_d (get_or-set_other c.registers 10 2 (register c 12) 0 (omega arith)) (get_or-set_other c.registers 10 8 (register c 12) 0 (omega arith)) (λ k. get_or-set_other c.registers 10 (18 + k) (register c 12) 0 (omega arith)) in
      let goes = wrote_ready output bytes m d (record { stays = stays_d; ready = record { end = end; stands = whole.second } }) in
      let steps : Steps w (written output bytes m) b 9 (Written output bytes ∷ []) = record {
        after = wrote output bytes d;
        goes = goes;
        walk = walk_weaken b (wrote output bytes d) 5 9 1 9 (Written output bytes ∷ []) (omega arith) (omega arith) (walk_join b c (wrote output bytes d) 4 8 1 1 [] (Written output bytes ∷ []) args.walk one);
      } in
      subst (λ s. Steps w s b 9 (Written output bytes ∷ [])) (sym (cond-true (all_from (usable w.rights.readable m) a n) (written output bytes m) _ can)) steps

  -- ---- reads

  pub read_steps : (m : LowState) (b : State) (to buffer size : VirtualRegister) (end : ℕ) → Stays w m b → is_valid_instruction w.low (routine_in w m.top.routine) (Read to buffer size) ≡ true → all_from (usable w.rights.writable m) (value m buffer) (value m size) ≡ true → Stands w.placing m.top.routine b.pc (items_of (routine_in w m.top.routine) (Read to buffer size) ++ code_items (routine_in w m.top.routine) m.top.now) end → Steps w (low_act w.low (placement_of w) (Read to buffer size) m) b 12 (Taken (take (value m size) m.input) ∷ [])
  unfolding is_valid_instruction items_of low_act low_read act instr_shows
  read_steps m b to buffer size end stays valid can stands =
      let r = m.top.routine in
      let routine = routine_in w r in
      let a = value m buffer in
      let n = value m size in
      let bytes = take n m.input in
      let whole = split w.placing r b.pc (items_of routine (Read to buffer size)) _ end stands in
      let kept = split w.placing r b.pc (transfer routine buffer size 0 63) _ whole.middle whole.first in
      let parts = split w.placing r b.pc (fetch routine 11 buffer ++ fetch routine 12 size ++ small 10 0 ++ small 17 63) _ kept.middle kept.first in
      let to_buffer : (has routine to && has routine buffer) ≡ true = first_so _ _ valid in
      let size_in = inside w law m size (second_so (has routine to && has routine buffer) _ valid) in
      let args = arguments m b buffer size 0 63 parts.middle stays (inside w law m buffer (second_so (has routine to) _ to_buffer)) size_in (omega arith) (omega arith) parts.first in
      let c = placed b args.registers parts.middle in
      let stays_c = stays_placed w law m b args.registers parts.middle stays args.size args.sp_same args.limit_same args.homes_same in
      let first = plain_first w.placing r parts.middle Ecall _ kept.middle parts.second in
      let there = nothing_more w.placing r (parts.middle + 4) kept.middle first.1 in
      let usable_ = usable_all w.rights.writable m a n can in
      let few = length_taken n m.input in
      let n_small = value-bounded w law m b size stays size_in in
      let can_c : all_from c.rights.writable a n ≡ true = subst (λ rights. all_from rights.writable a n ≡ true) (sym stays_c.sound.rights) (all_of w.rights.writable a n (λ x from before. (usable_ x from before).0)) in
      let writable : is_writable c ≡ true = ap₂ (all_from c.rights.writable) args.buffer_is args.length_is ∙ can_c in
      let bytes_is : take (register c 12) c.input ≡ bytes = ap₂ (λ k xs. take k xs) args.length_is stays_c.input in
      let filled_at : ℕ → List ℕ → ℕ → State = λ k bs at. record (placed c (set c.registers 10 (length bs)) at) { memory = with_bytes c.memory k bs; input = drop (length bs) c.input } in
      let at = advanced_pc w law c Ecall first.0 ∙ there in
      let d = filled_at a bytes kept.middle in
      let does = environment_call-read c args.number_is ∙ read_call-filled c args.descriptor_is writable ∙ ap (λ bs. filled bs c) bytes_is ∙ ap (λ k. filled_at k bytes ((c.pc + 4) % 2 ^ 32)) args.buffer_is ∙ ap (filled_at a bytes) at in
      let shows = read_shows c args.number_is args.descriptor_is writable ∙ ap (λ bs. Taken bs ∷ []) bytes_is in
      let one = walk_step w law c d Ecall (Taken bytes ∷ []) stays_c.sound first.0 shows does in
      let size_d = length-set c.registers 10 (length bytes) ∙ args.size in
      let stored = stays_written w law m c (set c.registers 10 (length bytes)) kept.middle a bytes stays_c size_d (get_or-set_other c.registers 10 2 (length bytes) 0 (omega arith)) (get_or-set_other c.registers 10 8 (length bytes) 0 (omega arith)) (λ k. get_or-set_other c.registers 10 (18 + k) (length bytes) 0 (omega arith)) (λ k. take-bounded n m.input k stays.input_bytes) (λ x from before. usable_ x from (omega arith)) in
      let m' = record m { memory = with_bytes m.memory a bytes; input = drop n m.input } in
      let stays_d : Stays w m' d = record {
        sound = record { running = stored.sound.running; rights = stored.sound.rights; size = stored.sound.size; bytes = stored.sound.bytes; code = stored.sound.code };
        memory = stored.memory;
        input = ap (drop (length bytes)) stays_c.input ∙ drop_taken n m.input;
        input_bytes = λ k. subst (λ v. v < 2 ^ 8) (sym (get_or-drop n m.input k 0)) (stays.input_bytes (n + k));
        output = stored.output;
        errors = stored.errors;
        limit = stored.limit;
        sp = stored.sp;
        limit_aligned = stored.limit_aligned;
        sp_aligned = stored.sp_aligned;
        holds = stored.holds;
        below = stored.below;
      } in
      let size_c = args.size in
      let value_is = get_or-set_same c.registers 10 (length bytes) 0 (omega arith) in
      let last = keeps w law m' d 10 (length bytes) to whole.middle stays_d (inside w law m to (first_so _ _ to_buffer)) (omega arith) (omega arith) value_is (omega arith) kept.second in
      let steps : Steps w (with_kept to (length bytes) m') b 12 (Taken bytes ∷ []) = record {
        after = last.after;
        goes = record { stays = last.stays; ready = record { end = end; stands = subst (λ k. Stands w.placing r k (code_items routine m.top.now) end) (sym last.there) whole.second } };
        walk = walk_weaken b last.after 6 12 1 12 (Taken bytes ∷ []) (omega arith) (omega arith) (walk_join b d last.after 5 9 1 3 (Taken bytes ∷ []) [] (walk_join b c d 4 8 1 1 [] (Taken bytes ∷ []) args.walk one) last.walk);
      } in
      subst (λ s. Steps w s b 12 (Taken bytes ∷ [])) (sym (cond-true (all_from (usable w.rights.writable m) a n) (with_kept to (length bytes) m') _ can)) steps
