-- The activation that a routine's head makes, where a call has arrived.
use Rattle.std.proofs.Common.{◌≡◌, ℕ, zero, suc, ◌+◌, ◌-◌, ◌*◌, ◌^◌, ◌<◌, ◌≤◌, inl, inr, Option, List, [], ◌∷◌, ◌++◌, length, get_or, replicate, refl, sym, subst, ◌∙◌, arith}
use Rattle.std.proofs.lemmas.Bool.{cases_lt}
use Rattle.std.proofs.lemmas.List.{length-replicate}
use Rattle.op_low.specs.Machine.{entered}
use Rattle.op_low.specs.State.{Caller, State as LowState, space}
use Rattle.op_low.specs.declared.ids.VirtualRegister.{VirtualRegister}
use Rattle.op_rv.proofs.Memory.{with_bytes-below, with_bytes-within, zeros_get}
use Rattle.op_rv.specs.State.{State, with_bytes, word_at}
use Rattle.op_rv.specs.declared.symbol.BlockId.{BlockId}
use Rattle.op_select.specs.Frames.{frame_of}
use Rattle.op_select.specs.Going.{Setting, IsSetting, homes_in, routine_in, locals_in, frame_in, placement_of, restored, Holds, Waits, Below, Stays}
use Rattle.op_select.specs.Placing.{StandsFrom}
use Rattle.op_select.specs.Selection.{code_items, answered}
use Rattle.op_select.proofs.ClearLemmas.{stored}
use Rattle.op_select.proofs.EnterLemmas.{Heads, heads}
use Rattle.op_select.proofs.FrameLemmas.{below_bottom, below_same, below_top, holds_same, restored_kept, restored_saved, sizes}
use Rattle.op_select.proofs.HeadLemmas.{Comes}
use Rattle.op_select.proofs.ReturnSteps.{answered_aligned}
use Rattle.op_select.proofs.TransferLemmas.{block_stands}
use Rattle.op_select.proofs.ValueSteps.{Steps}

past_end : (xs : List ℕ) (k : ℕ) → length xs ≤ k → get_or xs k 0 ≡ 0
past_end [] k over = refl
past_end (x ∷ xs) zero over = absurd (omega arith)
past_end (x ∷ xs) (suc k) over = past_end xs k (omega arith)

values_words : (vs : List ℕ) → ((i : ℕ) → i < length vs → get_or vs i 0 < 2 ^ 32) → (v : ℕ) → get_or vs v 0 < 2 ^ 32
values_words vs words v =
    elim (cases_lt v (length vs)) [
      | inl within ↦ words v within
      | inr over ↦ subst (λ n. n < 2 ^ 32) (sym (past_end vs v over)) (omega arith)
    ]

-- low code's state at the beginning of a routine
abbrev pub began : Setting → (r : ℕ) → (vs : List ℕ) → (to : VirtualRegister) → (landing : Option BlockId) → LowState → LowState
began w r vs to landing m =
    record m {
      top = entered w.low r vs;
      callers = record { activation = m.top; to = to; landing = landing } ∷ m.callers;
      limit = m.limit + locals_in w r;
      room = m.room - space w.low (placement_of w) r;
      memory = with_bytes m.memory m.limit (replicate (locals_in w r) 0);
    }

-- all that stands between a call and its routine's head
pub record Arrives (w : Setting) (m : LowState) (b : State) (r : ℕ) (vs : List ℕ) (to : VirtualRegister) (landing : Option BlockId) : Type 0 where
  pub stays : Stays w m b
  pub there : b.pc ≡ w.placing.head r
  pub in_registers : (i : ℕ) → i < length vs → i < 8 → get_or b.registers (10 + i) 0 ≡ get_or vs i 0
  pub in_memory : (i : ℕ) → i < length vs → 8 ≤ i → word_at b.memory (m.limit + m.room - (8 + 4 * i)) ≡ get_or vs i 0
  pub words : (i : ℕ) → i < length vs → get_or vs i 0 < 2 ^ 32
  pub back : StandsFrom w.placing m.top.routine (get_or b.registers 1 0) (answered (routine_in w m.top.routine) to landing ++ code_items (routine_in w m.top.routine) m.top.now)
  pub exists : r < length w.low.routines
  pub caller_exists : m.top.routine < length w.low.routines
  pub keeps : to.0 < (routine_in w m.top.routine).registers
  pub count : length vs ≡ (routine_in w r).parameters
  pub room : space w.low (placement_of w) r ≤ m.room

module _ (w : Setting) (law : IsSetting w) where
  began_stays : (m : LowState) (b : State) (r : ℕ) (vs : List ℕ) (to : VirtualRegister) (landing : Option BlockId) → Arrives w m b r vs to landing → (h : Heads w b r (m.limit + m.room) m.limit (get_or b.registers 1 0) (λ v. get_or vs v 0)) → Stays w (began w r vs to landing m) (stored b h.registers (w.placing.block r 0) h.memory)
  unfolding Below frame_of
  began_stays m b r vs to landing a h =
      let stays = a.stays in
      let routine = routine_in w r in
      let size = sizes w.low r law.valid in
      let inside = size.parameters in
      let locals_whole = size.locals_aligned in
      let frame = frame_in w r in
      let locals = routine.locals in
      let sp = m.limit + m.room in
      let room = a.room in
      let limit_whole = stays.limit_aligned in
      let sp_whole = stays.sp_aligned in
      let bottom = below_bottom w b.memory (homes_in b) m.top.routine m.limit sp m.callers stays.below in
      let count = a.count in
      let new_sp : sp - frame ≡ m.limit + locals + (m.room - (locals + frame)) = omega arith in
      let up : sp ≡ sp - frame + frame = omega arith in
      let old_limit : m.limit ≡ m.limit + locals - locals = omega arith in
      let caller : Caller = record { activation = m.top; to = to; landing = landing } in
      let new = homes_in (stored b h.registers (w.placing.block r 0) h.memory) in
      let found = restored routine h.memory (sp - frame) new in
      let pointwise : (k : ℕ) → k < 14 → homes_in b k < 2 ^ 32 → found k ≡ homes_in b k = λ k few word.
      elim (cases_lt k routine.registers) [
        | inl saved ↦ restored_saved routine h.memory (sp - frame) new k saved ∙ h.saved k few saved word
        | inr kept ↦ restored_kept routine h.memory (sp - frame) new k kept ∙ h.kept k kept
      ] in
      let waits : Waits w h.memory found sp caller = record {
        exists = a.caller_exists;
        keeps = a.keeps;
        back = subst (λ n. StandsFrom w.placing m.top.routine n (answered (routine_in w m.top.routine) to landing ++ code_items (routine_in w m.top.routine) m.top.now)) (sym h.back_is) a.back;
        holds = holds_same b.memory h.memory (homes_in b) found sp (routine_in w m.top.routine) m.top.registers (λ x from before. h.high x from) (λ k few within word. pointwise k few word) stays.holds;
      } in
      let rest : Below w h.memory found m.top.routine m.limit sp m.callers = below_same w b.memory h.memory (homes_in b) found m.top.routine m.limit sp m.callers (λ x from. h.high x (omega arith)) (λ k few over word. pointwise k few word) stays.below in
      let held_ : Holds h.memory new (sp - frame) routine (λ v. get_or vs v 0) = λ v within. (h.begun v within, values_words vs a.words v) in
      record {
        sound = h.sound;
        memory = λ x lower.
            elim (cases_lt x m.limit) [
              | inl old ↦ h.low x old ∙ stays.memory x old ∙ sym (with_bytes-below m.memory m.limit (replicate locals 0) x old)
              | inr new ↦
                  let long : length (replicate locals 0) ≡ locals = length-replicate {A = ℕ} locals 0 in
                  h.locals x (omega arith) lower ∙ sym (with_bytes-within m.memory m.limit (replicate locals 0) x (omega arith) (omega arith) ∙ zeros_get locals (x - m.limit))
            ];
        input = stays.input;
        input_bytes = stays.input_bytes;
        output = stays.output;
        errors = stays.errors;
        limit = h.limit_is;
        sp = h.sp_is ∙ new_sp;
        limit_aligned = omega arith;
        sp_aligned = omega arith;
        holds = subst (λ n. Holds h.memory new n routine (λ v. get_or vs v 0)) new_sp held_;
        below = (
          omega arith,
          subst (λ n. Waits w h.memory (restored routine h.memory n new) (n + frame) caller) new_sp (subst (λ n. Waits w h.memory found n caller) up waits),
          subst (λ n. Below w h.memory (restored routine h.memory n new) m.top.routine (m.limit + locals - locals) (n + frame) m.callers) new_sp (subst (λ n. Below w h.memory found m.top.routine (m.limit + locals - locals) n m.callers) up (subst (λ n. Below w h.memory found m.top.routine n sp m.callers) old_limit rest)),
        );
      }

  -- from the head on
  pub arrives : (m : LowState) (b : State) (r : ℕ) (vs : List ℕ) (to : VirtualRegister) (landing : Option BlockId) → Arrives w m b r vs to landing → Steps w (began w r vs to landing m) b (12 + 3 * (routine_in w r).registers + locals_in w r) []
  arrives m b r vs to landing a =
      let stays = a.stays in
      let sp = m.limit + m.room in
      let room = a.room in
      let bottom = below_bottom w b.memory (homes_in b) m.top.routine m.limit sp m.callers stays.below in
      let top = below_top w b.memory (homes_in b) m.top.routine m.limit sp m.callers stays.below in
      let whole = answered_aligned w law m.top.routine (get_or b.registers 1 0) to landing _ a.back.end a.back.stands in
      let small = whole.1 in
      let count = a.count in
      let comes : Comes b (routine_in w r) sp (λ v. get_or vs v 0) = record {
        early = λ v given soon. a.in_registers v (omega arith) soon;
        late = λ v given late. a.in_memory v (omega arith) late;
        fresh = λ v over. past_end vs v (omega arith);
        words = values_words vs a.words;
      } in
      let h = heads w law b r sp m.limit (get_or b.registers 1 0) (λ v. get_or vs v 0) stays.sound a.exists a.there stays.sp stays.limit refl (omega arith) stays.sp_aligned stays.limit_aligned (omega arith) (omega arith) (omega arith) comes in
      record {
        after = stored b h.registers (w.placing.block r 0) h.memory;
        goes = record { stays = began_stays m b r vs to landing a h; ready = block_stands w r 0 law };
        walk = h.walk;
      }
