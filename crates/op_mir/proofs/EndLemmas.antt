-- What ends, ends below as it does above: the same places hold each name there, so that the same is lost, and walks and destructions do
-- the same.
use Rattle.std.proofs.Common.{◌≡◌, ℕ, zero, suc, ◌+◌, ◌<◌, List, [], ◌∷◌, ◌++◌, length, Option, Some, None, refl, sym, ap, ap₂, ◌∙◌, subst}
use Rattle.std.proofs.lemmas.Option.{slice_get_within}
use Rattle.std.specs.List.{flat_map}
use Rattle.std.specs.Prelude.{Bool, true, false, not, ◌&&◌, slice_get, nat_lt, if◌then◌else◌}
use Rattle.op_core.specs.Rows.{rows}
use Rattle.op_core.specs.declared.class.Class.{Class as ClassRow}
use Rattle.op_core.specs.declared.class.Method.{Method}
use Rattle.op_core.specs.declared.ids.ClassId.{ClassId}
use Rattle.op_core.specs.declared.program.Core.{Core}
use Rattle.op_core.specs.declared.routine.Routine.{Routine}
use Rattle.op_meaning.specs.Calls.{source_rules}
use Rattle.op_meaning.specs.Ending.{charged_frame, charged_world, closed, destroyed, destructor_among, destructor_by, destructor_of, destructor_within, enters_destroy, framed, in_phase, inherited, is_destructor, is_empty_value, may_die, walked, without_last}
use Rattle.op_meaning.specs.Frames.{Program, State, Frame, walk, destruction, construction, closing, uncharged, calling, Over, a_part, an_array, a_temporary, Started, by_loss, Pending, finalize, empty_global, a_value, fails, frame_charge, popped, pushed, with_frames, with_world}
use Rattle.op_meaning.specs.Holding.{each, holders_in_activation, holders_in_callers, holders_in_object, in_holder, is_held}
use Rattle.op_meaning.specs.Items.{nowhere}
use Rattle.op_meaning.specs.Losing.{ends_among, ends_by, ends_last, ends_made, ends_place, falls, loses, loses_value, same_temporary, temporary_spot}
use Rattle.op_meaning.specs.Shapes.{Shape, single, composite, of_chars, of_elements, of_instance, shape_of}
use Rattle.op_meaning.specs.Spots.{spots_of, spots_of_elements, spots_of_instance}
use Rattle.op_meaning.specs.Values.{Value, number, parts, text, line, array, instance, empty, literal, named, object, global, all_of, emptied, Spot}
use Rattle.op_meaning.specs.World.{World, Temporary, Object, gone, chars, buffer, elements, fields, Construction, Live, Destruction, Dead, class_of, value_at, with_object, with_value}
use Rattle.op_mir.specs.Code.{Instr, Exits, blocks_in}
use Rattle.op_mir.specs.Going.{At, CallersGo, image, Goes}
use Rattle.op_mir.specs.Machine.{code_of, code_rules, tables, MirState, MirCaller}
use Rattle.op_mir.specs.Plain.{IsPlain, Exists, IsUnraised, IsPlainFrame, ArePlainFrames, ArePlainPending, closes_first, is_closing}
use Rattle.op_mir.proofs.CallLemmas.{begun_goes, ended_goes}
use Rattle.op_mir.proofs.PlainLemmas.{failed_ended}
use Rattle.op_mir.proofs.StepLemmas.{same_length}

-- ---- who holds what

module _ (p : Program) (w : World) (y : ℕ) where
  callers_hold : (ss : List _) (ms : List MirCaller) → CallersGo p ss ms → holders_in_callers p.core w y ms ≡ holders_in_callers p.core w y ss
  callers_hold [] [] h = refl
  callers_hold (s ∷ ss) (m ∷ ms) (g, gs) =
      ap (λ (x : MirCaller). holders_in_callers p.core w y ms ++ holders_in_activation p.core w y (length ms) x.routine x.made) g.same
      ∙ ap₂ (λ l n. l ++ holders_in_activation p.core w y n s.routine s.made) (callers_hold ss ms gs) (same_length p ss ms gs)
  callers_hold [] (m ∷ ms) h = absurd h
  callers_hold (s ∷ ss) [] h = absurd h

-- as many places hold a name below as above
pub held_same : (p : Program) (s : State) (rest : List Instr) (ms : List MirCaller) (y : ℕ) → CallersGo p s.callers ms → is_held (code_rules (code_of p)) (image s rest ms) y ≡ is_held (source_rules p) s y
held_same p s rest ms y waits =
    ap₂ (λ l n. nat_lt 0 (length (flat_map (λ v. in_holder s.world y (global v.0)) p.core.globals ++ l ++ holders_in_activation p.core s.world y n s.routine s.world.made ++ each s.world.next (λ n. holders_in_object s.world y n (s.world.objects n)))))
    (callers_hold p s.world y s.callers ms waits) (same_length p s.callers ms waits)

-- ---- a destructor is a routine that there is

module _ (core : Core) where
  destructor_row : (r : ℕ) (o : Option Routine) → slice_get core.routines r ≡ o → is_destructor o ≡ true → r < length core.routines
  destructor_row r None at is = absurd (cc is)
  destructor_row r (Some x) at is = slice_get_within core.routines r x at

  among_there : (ms : List Method) (above : Option ℕ) → ((r : ℕ) → above ≡ Some r → r < length core.routines) → (r : ℕ) → destructor_among core ms above ≡ Some r → r < length core.routines
  among_there [] above there r e = there r e
  among_there (m ∷ ms) above there r e = by (is_destructor (slice_get core.routines m.routine.0)) refl (among_there ms above there r) e
    where
      by : (b : Bool) → is_destructor (slice_get core.routines m.routine.0) ≡ b → (destructor_among core ms above ≡ Some r → r < length core.routines) → (if b then Some m.routine.0 else destructor_among core ms above) ≡ Some r → r < length core.routines
      by true is later same = let e : m.routine.0 ≡ r = cc same in subst (λ n. n < length core.routines) e (destructor_row m.routine.0 (slice_get core.routines m.routine.0) refl is)
      by false is later same = later same

  module _ (inner : ClassId → Option ℕ) (there : (c : ClassId) (r : ℕ) → inner c ≡ Some r → r < length core.routines) where
    inherited_there : (o : Option ClassId) (r : ℕ) → inherited inner o ≡ Some r → r < length core.routines
    inherited_there None r e = absurd (cc e)
    inherited_there (Some a) r e = there a r e

    by_there : (o : Option ClassRow) (r : ℕ) → destructor_by inner core o ≡ Some r → r < length core.routines
    by_there None r e = absurd (cc e)
    by_there (Some x) r e = among_there (rows core.methods x.methods) (inherited inner x.ancestor) (inherited_there x.ancestor) r e

  within_there : (n : ℕ) (c : ClassId) (r : ℕ) → destructor_within n core c ≡ Some r → r < length core.routines
  within_there zero c r e = absurd (cc e)
  within_there (suc n) c r e = by_there (destructor_within n core) (within_there n) (slice_get core.classes c.0) r e

-- ---- a state in which no exception is under way or waits

pub record Calm (p : Program) (s : State) (ms : List MirCaller) (rest : List Instr) : Type 0 where
  pub world : IsUnraised s.world
  pub out : Exits
  pub at : closes_first s.frames ≡ false → At p (blocks_in p s.routine) out s.work rest
  pub frames : ArePlainFrames s.frames
  pub callers : CallersGo p s.callers ms
  pub pending : ArePlainPending p s.pending

pub calm_goes : (p : Program) (s : State) (ms : List MirCaller) (rest : List Instr) → Calm p s ms rest → Goes p s (image s rest ms)
calm_goes p s ms rest c = record { same = refl; goes_on = λ _. record { world = c.world; out = c.out; at = c.at }; frames = c.frames; callers = c.callers; pending = c.pending }

either_goes : (p : Program) (b b' : Bool) → b' ≡ b → (x y : State) (m n : MirState) → Goes p x m → Goes p y n → Goes p (if b then x else y) (if b' then m else n)
either_goes p true true e x y m n gx gy = gx
either_goes p false false e x y m n gx gy = gy
either_goes p true false e x y m n gx gy = absurd (cc e)
either_goes p false true e x y m n gx gy = absurd (cc e)

unraised_object : (n : ℕ) (o : Object) (w : World) → IsUnraised w → IsUnraised (with_object n o w)
unraised_object n o w h = record { raised = h.raised; waiting = h.waiting }

module _ (p : Program) (plain : IsPlain p) (ms : List MirCaller) (rest : List Instr) where
  in_world : (s : State) (w : World) → IsUnraised w → Calm p s ms rest → Calm p (with_world w s) ms rest
  in_world s w h c = record { world = h; out = c.out; at = c.at; frames = c.frames; callers = c.callers; pending = c.pending }

  on_frames : (s : State) (fs : List Frame) → ArePlainFrames fs → (closes_first fs ≡ false → closes_first s.frames ≡ false) → Calm p s ms rest → Calm p (with_frames fs s) ms rest
  on_frames s fs h opens c = record { world = c.world; out = c.out; at = λ e. c.at (opens e); frames = h; callers = c.callers; pending = c.pending }

  fails_goes : (n : ℕ) (s : State) → Calm p s ms rest → Goes p (fails p n s) (image (fails p n s) rest ms)
  fails_goes n s c = ended_goes p (fails p n s) ms rest n (failed_ended p.core plain.exceptions n s.world) c.frames c.callers c.pending

  -- ---- what a loss starts

  pushed_goes : (frame : Option ℕ → Frame) → ((r : Option ℕ) → r ≡ None → IsPlainFrame (frame r)) → ((r : Option ℕ) → is_closing (frame r) ≡ false) → (s : State) → Calm p s ms rest → Goes p (pushed frame s) (pushed frame (image s rest ms))
  pushed_goes frame fits opens s c = record {
    same = refl;
    goes_on = λ _. record {
      world = record { raised = refl; waiting = c.world.waiting };
      out = c.out;
      at = λ e. c.at (sym (ap (λ b. if b then true else closes_first s.frames) (opens s.world.raised)) ∙ e);
    };
    frames = (fits s.world.raised c.world.raised, c.frames);
    callers = c.callers;
    pending = c.pending;
  }

  falls_goes : (n : ℕ) (o : Object) (s : State) → Calm p s ms rest → Goes p (falls p n o s) (falls (tables (code_of p)) n o (image s rest ms))
  falls_goes n gone s c = calm_goes p s ms rest c
  falls_goes n (chars bytes) s c = calm_goes p _ ms rest (in_world s (with_object n gone s.world) (unraised_object n gone s.world c.world) c)
  falls_goes n (buffer bytes capacity) s c = calm_goes p _ ms rest (in_world s (with_object n gone s.world) (unraised_object n gone s.world c.world) c)
  falls_goes n (elements of count) s c = pushed_goes (walk (spots_of_elements p.core of count (all_of (object n))) (an_array n)) (λ r e. e) (λ r. refl) s c
  falls_goes n (fields x Live) s c = pushed_goes (destruction n by_loss false (spots_of_instance p.core x n)) (λ r e. e) (λ r. refl) s c
  falls_goes n (fields x Construction) s c = calm_goes p s ms rest c
  falls_goes n (fields x Destruction) s c = calm_goes p s ms rest c
  falls_goes n (fields x Dead) s c = calm_goes p s ms rest c

  loses_goes : (n : ℕ) (s : State) → Calm p s ms rest → Goes p (loses (source_rules p) n s) (loses (code_rules (code_of p)) n (image s rest ms))
  loses_goes n s c =
      either_goes p (is_held (source_rules p) s n) (is_held (code_rules (code_of p)) (image s rest ms) n) (held_same p s rest ms n c.callers) _ _ _ _ (calm_goes p s ms rest c) (falls_goes n (s.world.objects n) s c)

  loses_value_goes : (v : Value) (s : State) → Calm p s ms rest → Goes p (loses_value (source_rules p) v s) (loses_value (code_rules (code_of p)) v (image s rest ms))
  loses_value_goes (number n) s c = calm_goes p s ms rest c
  loses_value_goes (parts count part) s c = calm_goes p s ms rest c
  loses_value_goes (text empty) s c = calm_goes p s ms rest c
  loses_value_goes (text (literal bytes)) s c = calm_goes p s ms rest c
  loses_value_goes (text (named n)) s c = loses_goes n s c
  loses_value_goes (line n) s c = loses_goes n s c
  loses_value_goes (array None) s c = calm_goes p s ms rest c
  loses_value_goes (array (Some n)) s c = loses_goes n s c
  loses_value_goes (instance true None) s c = calm_goes p s ms rest c
  loses_value_goes (instance true (Some n)) s c = loses_goes n s c
  loses_value_goes (instance false n) s c = calm_goes p s ms rest c

  -- ---- a place ends

  one_value_goes : (q : Spot) (s : State) → Calm p s ms rest → Goes p (loses_value (source_rules p) (value_at s.world q.at) (with_world (with_value q.at (emptied (value_at s.world q.at)) s.world) s)) (loses_value (code_rules (code_of p)) (value_at s.world q.at) (with_world (with_value q.at (emptied (value_at s.world q.at)) s.world) (image s rest ms)))
  one_value_goes q s c =
      let w = with_value q.at (emptied (value_at s.world q.at)) s.world in
      loses_value_goes (value_at s.world q.at) (with_world w s) (in_world s w (record { raised = c.world.raised; waiting = c.world.waiting }) c)

  ends_by_goes : (shape : Shape) (q : Spot) (s : State) → Calm p s ms rest → Goes p (ends_by (source_rules p) shape q s) (ends_by (code_rules (code_of p)) shape q (image s rest ms))
  ends_by_goes composite q s c = pushed_goes (walk (spots_of p.core q.of q.at) a_part) (λ r e. e) (λ r. refl) s c
  ends_by_goes (single kind) q s c = one_value_goes q s c
  ends_by_goes of_chars q s c = one_value_goes q s c
  ends_by_goes of_elements q s c = one_value_goes q s c
  ends_by_goes (of_instance holds) q s c = one_value_goes q s c

  pub ends_place_goes : (q : Spot) (s : State) → Calm p s ms rest → Goes p (ends_place (source_rules p) q s) (ends_place (code_rules (code_of p)) q (image s rest ms))
  ends_place_goes q s c = ends_by_goes (shape_of p.core q.of) q s c

  -- ---- a temporary ends

  last_value_goes : (q : Spot) (made : List Temporary) (s : State) → Calm p s ms rest → Goes p (loses_value (source_rules p) (value_at s.world q.at) (with_world (record (with_value q.at (emptied (value_at s.world q.at)) s.world) { made = made }) s)) (loses_value (code_rules (code_of p)) (value_at s.world q.at) (with_world (record (with_value q.at (emptied (value_at s.world q.at)) s.world) { made = made }) (image s rest ms)))
  last_value_goes q made s c =
      let w = record (with_value q.at (emptied (value_at s.world q.at)) s.world) { made = made } in
      loses_value_goes (value_at s.world q.at) (with_world w s) (in_world s w (record { raised = c.world.raised; waiting = c.world.waiting }) c)

  ends_last_goes : (shape : Shape) (q : Spot) (made : List Temporary) (s : State) → Calm p s ms rest → Goes p (ends_last (source_rules p) shape q made s) (ends_last (code_rules (code_of p)) shape q made (image s rest ms))
  ends_last_goes composite q made s c = pushed_goes (walk (spots_of p.core q.of q.at) a_temporary) (λ r e. e) (λ r. refl) s c
  ends_last_goes (single kind) q made s c = last_value_goes q made s c
  ends_last_goes of_chars q made s c = last_value_goes q made s c
  ends_last_goes of_elements q made s c = last_value_goes q made s c
  ends_last_goes (of_instance holds) q made s c = last_value_goes q made s c

  ends_among_goes : (t : Temporary) (made : List Temporary) (s : State) → Calm p s ms rest → Goes p (ends_among (source_rules p) t made s) (ends_among (code_rules (code_of p)) t made (image s rest ms))
  ends_among_goes t [] s c = calm_goes p s ms rest c
  ends_among_goes t (u ∷ made) s c =
      either_goes p (same_temporary t u) (same_temporary t u) refl _ _ _ _ (ends_last_goes (shape_of p.core t.of) (temporary_spot s.world t) made s c) (calm_goes p s ms rest c)

  -- it ends if it was made, and else stays as it is
  pub ends_made_goes : (t : Temporary) (s : State) → Calm p s ms rest → Goes p (ends_made (source_rules p) t s) (ends_made (code_rules (code_of p)) t (image s rest ms))
  ends_made_goes t s c = ends_among_goes t s.world.made s c

  -- ---- a frame acts

  popped_goes : (waits : Option ℕ) (fs : List Frame) (s : State) → waits ≡ None → Calm p (with_frames fs s) ms rest → Goes p (popped waits fs s) (popped waits fs (image s rest ms))
  popped_goes waits fs s none c = record {
    same = refl;
    goes_on = λ _. record { world = record { raised = none; waiting = c.world.waiting }; out = c.out; at = c.at };
    frames = c.frames;
    callers = c.callers;
    pending = c.pending;
  }

  -- those behind the frame that acts
  behind_frame : (s : State) (frame : Frame) (fs : List Frame) → s.frames ≡ frame ∷ fs → is_closing frame ≡ false → Calm p s ms rest → Calm p (with_frames fs s) ms rest
  behind_frame s frame fs is opens c =
      let both : ArePlainFrames (frame ∷ fs) = subst ArePlainFrames is c.frames in
      on_frames s fs both.1 (λ e. ap closes_first is ∙ ap (λ b. if b then true else closes_first fs) opens ∙ e) c

  -- another one in its place
  next_frame : (s : State) (frame next : Frame) (fs : List Frame) → s.frames ≡ frame ∷ fs → is_closing frame ≡ false → IsPlainFrame next → Calm p s ms rest → Calm p (with_frames (next ∷ fs) s) ms rest
  next_frame s frame next fs is opens fits c = by (is_closing next) refl
    where
      both : ArePlainFrames (frame ∷ fs)
      both = subst ArePlainFrames is c.frames

      here : closes_first s.frames ≡ closes_first fs
      here = ap closes_first is ∙ ap (λ b. if b then true else closes_first fs) opens

      by : (b : Bool) → is_closing next ≡ b → Calm p (with_frames (next ∷ fs) s) ms rest
      by b e = on_frames s (next ∷ fs) (fits, both.1) (λ open_. here ∙ first b (sym (ap (λ x. if x then true else closes_first fs) e) ∙ open_)) c
        where
          first : (b : Bool) → (if b then true else closes_first fs) ≡ false → closes_first fs ≡ false
          first true h = absurd (cc h)
          first false h = h

  walked_goes : (places : List Spot) (over : Over) (waits : Option ℕ) (fs : List Frame) (s : State) → s.frames ≡ walk places over waits ∷ fs → Calm p s ms rest → Goes p (walked (source_rules p) places over waits fs s) (walked (code_rules (code_of p)) places over waits fs (image s rest ms))
  walked_goes [] over waits fs s is c =
      let none : ArePlainFrames (walk [] over waits ∷ fs) = subst ArePlainFrames is c.frames in
      by over none.0 (behind_frame s (walk [] over waits) fs is refl c)
    where
      by : (over : Over) → waits ≡ None → Calm p (with_frames fs s) ms rest → Goes p (walked (source_rules p) [] over waits fs s) (walked (code_rules (code_of p)) [] over waits fs (image s rest ms))
      by a_part none behind = popped_goes waits fs s none behind
      by (an_array n) none behind = popped_goes waits fs (with_world (with_object n gone s.world) s) none (in_world (with_frames fs s) (with_object n gone s.world) (unraised_object n gone s.world c.world) behind)
      by a_temporary none behind =
          let w = record s.world { made = without_last s.world.made } in
          popped_goes waits fs (with_world w s) none (in_world (with_frames fs s) w (record { raised = c.world.raised; waiting = c.world.waiting }) behind)
  walked_goes (q ∷ qs) over waits fs s is c =
      let none : ArePlainFrames (walk (q ∷ qs) over waits ∷ fs) = subst ArePlainFrames is c.frames in
      ends_place_goes q (with_frames (walk qs over waits ∷ fs) s) (next_frame s (walk (q ∷ qs) over waits) (walk qs over waits) fs is refl none.0 c)

  enters_goes : (i : ℕ) (d : Option ℕ) (s : State) → ((r : ℕ) → d ≡ Some r → Exists p r) → Calm p s ms rest → Goes p (enters_destroy (source_rules p) i d s) (enters_destroy (code_rules (code_of p)) i d (image s rest ms))
  enters_goes i None s there c = calm_goes p s ms rest c
  enters_goes i (Some r) s there c = begun_goes p plain s ms r nowhere (a_value (instance false (Some i)) ∷ []) c.out rest (there r refl) c.world c.frames c.callers c.pending c.at

  dies_goes : (i : ℕ) (waits : Option ℕ) (fs : List Frame) (s : State) → waits ≡ None → Calm p s ms rest → Calm p (with_frames fs s) ms rest → Goes p (destroyed (source_rules p) i by_loss true [] waits fs s) (destroyed (code_rules (code_of p)) i by_loss true [] waits fs (image s rest ms))
  dies_goes i waits fs s none c behind =
      let same : may_die (code_rules (code_of p)) i (image s rest ms) ≡ may_die (source_rules p) i s = ap (λ b. not b && is_empty_value (s.world.memory (object i))) (held_same p s rest ms i c.callers) in
      either_goes p (may_die (source_rules p) i s) (may_die (code_rules (code_of p)) i (image s rest ms)) same _ _ _ _
      (popped_goes waits fs (with_world (in_phase Dead i s.world) s) none (in_world (with_frames fs s) (in_phase Dead i s.world) (unraised_object i _ s.world c.world) behind))
      (fails_goes 204 s c)

  destroyed_goes : (i : ℕ) (started : Started) (entered : Bool) (places : List Spot) (waits : Option ℕ) (fs : List Frame) (s : State) → s.frames ≡ destruction i started entered places waits ∷ fs → Calm p s ms rest → Goes p (destroyed (source_rules p) i started entered places waits fs s) (destroyed (code_rules (code_of p)) i started entered places waits fs (image s rest ms))
  destroyed_goes i started false places waits fs s is c =
      let none : ArePlainFrames (destruction i started false places waits ∷ fs) = subst ArePlainFrames is c.frames in
      enters_goes i (destructor_of p.core (class_of s.world i)) (with_frames (destruction i started true places waits ∷ fs) s) (λ r e. within_there p.core (suc (length p.core.classes)) (class_of s.world i) r e)
      (next_frame s (destruction i started false places waits) (destruction i started true places waits) fs is refl none.0 c)
  destroyed_goes i started true (q ∷ qs) waits fs s is c =
      let none : ArePlainFrames (destruction i started true (q ∷ qs) waits ∷ fs) = subst ArePlainFrames is c.frames in
      ends_place_goes q (with_frames (destruction i started true qs waits ∷ fs) s) (next_frame s (destruction i started true (q ∷ qs) waits) (destruction i started true qs waits) fs is refl none.0 c)
  destroyed_goes i started true [] waits fs s is c =
      let none : ArePlainFrames (destruction i started true [] waits ∷ fs) = subst ArePlainFrames is c.frames in
      dies_goes i waits fs s none.0 c (behind_frame s (destruction i started true [] waits) fs is refl c)

  unraised_charged : (frame : Frame) (w : World) → IsUnraised w → IsUnraised (charged_world frame w)
  unraised_charged (walk places over waits) w h = h
  unraised_charged (destruction i started entered places waits) w h = unraised_object i _ w h
  unraised_charged (uncharged frame) w h = h
  unraised_charged (calling callee receiver given outs) w h = h
  unraised_charged (construction i) w h = h
  unraised_charged (closing status) w h = h

  charged_goes : (frame : Frame) (fs : List Frame) (s : State) → s.frames ≡ uncharged frame ∷ fs → Calm p s ms rest → Goes p (charged_frame (source_rules p) frame fs s) (charged_frame (code_rules (code_of p)) frame fs (image s rest ms))
  charged_goes frame fs s is c = by (nat_lt p.stack (s.charged + frame_charge))
    where
      u : State
      u = with_frames (frame ∷ fs) (with_world (charged_world frame s.world) (record s { charged = s.charged + frame_charge }))

      by : (b : Bool) → Goes p (if b then fails p 202 s else u) (if b then image (fails p 202 s) rest ms else image u rest ms)
      by true = fails_goes 202 s c
      by false = record {
        same = refl;
        goes_on = λ _. record { world = unraised_charged frame s.world c.world; out = c.out; at = λ e. c.at (ap closes_first is ∙ e) };
        frames = subst ArePlainFrames is c.frames;
        callers = c.callers;
        pending = c.pending;
      }

  -- finalization parts are entered in turn, and then the program has ended
  closed_goes : (status : ℕ) (pending : List Pending) (s : State) → s.pending ≡ pending → Calm p s ms rest → Goes p (closed (source_rules p) status pending s) (closed (code_rules (code_of p)) status pending (image s rest ms))
  closed_goes status [] s is c = ended_goes p (closed (source_rules p) status [] s) ms rest status refl c.frames c.callers c.pending
  closed_goes status (finalize r ∷ pending) s is c =
      let both : ArePlainPending p (finalize r ∷ pending) = subst (ArePlainPending p) is c.pending in
      begun_goes p plain (record s { pending = pending }) ms r.0 nowhere [] c.out rest both.0 c.world c.frames c.callers both.1 c.at
  closed_goes status (empty_global v ∷ pending) s is c =
      let both : ArePlainPending p (empty_global v ∷ pending) = subst (ArePlainPending p) is c.pending in
      absurd both

  pub framed_goes : (frame : Frame) (fs : List Frame) (s : State) → s.frames ≡ frame ∷ fs → Calm p s ms rest → Goes p (framed (source_rules p) frame fs s) (framed (code_rules (code_of p)) frame fs (image s rest ms))
  framed_goes (walk places over waits) fs s is c = walked_goes places over waits fs s is c
  framed_goes (destruction i started entered places waits) fs s is c = destroyed_goes i started entered places waits fs s is c
  framed_goes (uncharged frame) fs s is c = charged_goes frame fs s is c
  framed_goes (closing status) fs s is c = closed_goes status s.pending s refl c
  framed_goes (calling callee receiver given outs) fs s is c = let both : ArePlainFrames (calling callee receiver given outs ∷ fs) = subst ArePlainFrames is c.frames in absurd both.0
  framed_goes (construction i) fs s is c = let both : ArePlainFrames (construction i ∷ fs) = subst ArePlainFrames is c.frames in absurd both.0
