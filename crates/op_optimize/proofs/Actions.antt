-- What instructions do that lead from states that stand for one another to such states, whatever makes activations stand for one another.
use Rattle.std.proofs.Common.{◌≡◌, ◌≢◌, ℕ, suc, ◌+◌, ◌-◌, ◌%◌, ◌^◌, Bool, true, false, ◌&&◌, if◌then◌else◌, Option, Some, None, List, [], ◌∷◌, length, drop, replicate, nat_eq, nat_lt, nat_le, refl, ap, sym, ◌∙◌, subst, subst₂}
use Rattle.std.proofs.lemmas.Bool.{and_parts, eqb-true}
use Rattle.op_rv.specs.State.{with_bytes}
use Rattle.op_rv.specs.declared.instruction.LoadOp.{LoadOp}
use Rattle.op_rv.specs.declared.instruction.StoreOp.{StoreOp}
use Rattle.op_rv.specs.declared.symbol.BlockId.{BlockId}
use Rattle.op_low.specs.Machine.{call, call_found, can_enter, entered, exit, left, load, raise_to, read, return_to, store, taken, write, written}
use Rattle.op_low.specs.State.{Activation, Bad, Caller, Ended, Placement, Running, State, at_block, bad, jump, keep, landed, routine_of, values, with_value}
use Rattle.op_low.specs.Valid.{leaves}
use Rattle.op_low.specs.declared.code.Low.{Low}
use Rattle.op_low.specs.declared.ids.VirtualRegister.{VirtualRegister}
use Rattle.op_low.specs.declared.instruction.Call.{Call as Operands}
use Rattle.op_low.specs.declared.instruction.Instruction.{Instruction}
use Rattle.op_low.specs.declared.instruction.Output.{Output}
use Rattle.op_low.specs.declared.instruction.Output.TheVariants.{Console, Errors}
use Rattle.op_optimize.specs.Liveness.{other_block}
use Rattle.op_optimize.specs.Reading.{target_of}
use Rattle.op_optimize.specs.Shortening.{LooksLike}

values_length : (m : State) (xs : List VirtualRegister) → length (values m xs) ≡ length xs
values_length m [] = refl
values_length m (x ∷ xs) = ap suc (values_length m xs)

abbrev pub with_parts : Activation → List Caller → State → State
with_parts b ds m = record m { top = b; callers = ds }

-- ---- states that stand for one another

-- a caller goes on with whatever the call gives, or where it lands
pub record CallerStands (Stands : Activation → Activation → Type 0) (low better : Low) (c d : Caller) : Type 0 where
  pub back : (v : ℕ) → Stands (with_value c.to v c.activation) (with_value d.to v d.activation)
  pub lands : Stands (landed low c.landing c.activation) (landed better d.landing d.activation)

pub data CallersStand (Stands : Activation → Activation → Type 0) (low better : Low) : (cs ds : List Caller) → Type 0 where
  NoCallers : CallersStand Stands low better [] []
  OneCaller : {c d : Caller} {cs ds : List Caller} → CallerStands Stands low better c d → CallersStand Stands low better cs ds → CallersStand Stands low better (c ∷ cs) (d ∷ ds)

pub record GoesAlike (Stands : Activation → Activation → Type 0) (low better : Low) (m n : State) : Type 0 where
  pub top : Activation
  pub callers : List Caller
  pub same : n ≡ with_parts top callers m
  pub running : m.ending ≡ Running
  pub tops : Stands m.top top
  pub waits : CallersStand Stands low better m.callers callers

pub record EndsAlike (m n : State) : Type 0 where
  pub status : ℕ
  pub ended : m.ending ≡ Ended status
  pub looks : LooksLike m n

pub data Alike (Stands : Activation → Activation → Type 0) (low better : Low) (m n : State) : Type 0 where
  BothGo : GoesAlike Stands low better m n → Alike Stands low better m n
  BothEnded : EndsAlike m n → Alike Stands low better m n

-- wherever the code goes on behind an instruction of which the better one writes `last`, the activations stand for one another
pub record Finds (Stands : Activation → Activation → Type 0) (low better : Low) (i : Instruction) (last : VirtualRegister) (Right : ℕ → Type 0) (a b : Activation) : Type 0 where
  pub routine : b.routine ≡ a.routine
  pub written : (to : VirtualRegister) (v : ℕ) → target_of i ≡ Some to → Right v → Stands (with_value to v a) (with_value last v b)
  pub goes_on : target_of i ≡ None → leaves i ≡ false → Stands a b
  pub lands : (landing : Option BlockId) → other_block i ≡ landing → Stands (landed low landing a) (landed better landing b)

module _ (low better : Low) (p : Placement) (Stands : Activation → Activation → Type 0)
    (enters : (r : ℕ) (arguments : List ℕ) → length arguments ≡ (routine_of low r).parameters → Stands (entered low r arguments) (entered better r arguments))
    (locals_stay : (r : ℕ) → (routine_of better r).locals ≡ (routine_of low r).locals)
    (parameters_stay : (r : ℕ) → (routine_of better r).parameters ≡ (routine_of low r).parameters)
    (many : length better.routines ≡ length low.routines) where
  if_alike : (test : Bool) (m n s t : State) → Alike Stands low better s t → (if test then s else bad m).ending ≢ Bad → Alike Stands low better (if test then s else bad m) (if test then t else bad n)
  if_alike true m n s t alike fine = alike
  if_alike false m n s t alike fine = absurd (fine refl)

  if_both : (test other : Bool) (m n s t : State) → other ≡ test → (test ≡ true → Alike Stands low better s t) → (if test then s else bad m).ending ≢ Bad → Alike Stands low better (if test then s else bad m) (if other then t else bad n)
  if_both true true m n s t e alike fine = alike refl
  if_both true false m n s t e alike fine = absurd cc
  if_both false other m n s t e alike fine = absurd (fine refl)

  pub choose : (test other : Bool) (s t u v : State) → other ≡ test → Alike Stands low better s t → Alike Stands low better u v → Alike Stands low better (if test then s else u) (if other then t else v)
  choose true true s t u v e first second = first
  choose true false s t u v e first second = absurd cc
  choose false true s t u v e first second = absurd cc
  choose false false s t u v e first second = second

  module _ (i : Instruction) (last : VirtualRegister) (Right : ℕ → Type 0) (m : State) (b : Activation) (ds : List Caller) (running : m.ending ≡ Running) (finds : Finds Stands low better i last Right m.top b) (waits : CallersStand Stands low better m.callers ds) where
    -- memory and input may be others
    pub keeps : (memory : ℕ → ℕ) (input : List ℕ) (to : VirtualRegister) (v w : ℕ) → w ≡ v → target_of i ≡ Some to → Right v → Alike Stands low better (keep to v (record m { memory = memory; input = input })) (keep last w (with_parts b ds (record m { memory = memory; input = input })))
    keeps memory input to v w e target right =
        BothGo
        (record {
          top = with_value last w b;
          callers = ds;
          same = refl;
          running = running;
          tops = subst (λ x. Stands (with_value to v m.top) (with_value last x b)) (sym e) (finds.written to v target right);
          waits = waits;
        })

    -- memory and what was written may be others
    pub stays : (memory : ℕ → ℕ) (output errors : List ℕ) → target_of i ≡ None → leaves i ≡ false → Alike Stands low better (record m { memory = memory; output = output; errors = errors }) (with_parts b ds (record m { memory = memory; output = output; errors = errors }))
    stays memory output errors none goes =
        BothGo (record { top = b; callers = ds; same = refl; running = running; tops = finds.goes_on none goes; waits = waits })

    pub jumps_on : (block other : BlockId) → Stands (at_block low block m.top) (at_block better other b) → Alike Stands low better (jump low block m) (jump better other (with_parts b ds m))
    jumps_on block other stands =
        BothGo (record { top = at_block better other b; callers = ds; same = refl; running = running; tops = stands; waits = waits })

    pub loads : (op : LoadOp) (to : VirtualRegister) (at there : ℕ) → there ≡ at → target_of i ≡ Some to → ((v : ℕ) → Right v) → (load p op to at m).ending ≢ Bad → Alike Stands low better (load p op to at m) (load p op last there (with_parts b ds m))
    unfolding load
    loads op to at there e target right fine =
        subst (λ x. Alike Stands low better (load p op to at m) (load p op last x (with_parts b ds m))) (sym e)
        (if_alike _ m (with_parts b ds m) _ _ (keeps m.memory m.input to _ _ refl target (right _)) fine)

    pub stores : (op : StoreOp) (v w at there : ℕ) → w ≡ v → there ≡ at → target_of i ≡ None → leaves i ≡ false → (store p op v at m).ending ≢ Bad → Alike Stands low better (store p op v at m) (store p op w there (with_parts b ds m))
    unfolding store
    stores op v w at there same_value e none goes fine =
        subst₂ (λ x y. Alike Stands low better (store p op v at m) (store p op x y (with_parts b ds m))) (sym same_value) (sym e)
        (if_alike _ m (with_parts b ds m) _ _ (stays _ m.output m.errors none goes) fine)

    pub reads_in : (to : VirtualRegister) (at there size many : ℕ) → there ≡ at → many ≡ size → target_of i ≡ Some to → ((v : ℕ) → Right v) → (read p to at size m).ending ≢ Bad → Alike Stands low better (read p to at size m) (read p last there many (with_parts b ds m))
    unfolding read
    reads_in to at there size many e same_size target right fine =
        subst₂ (λ x y. Alike Stands low better (read p to at size m) (read p last x y (with_parts b ds m))) (sym e) (sym same_size)
        (if_alike _ m (with_parts b ds m) _ _ (keeps (with_bytes m.memory at (taken size m)) (drop size m.input) to _ _ refl target (right _)) fine)

    pub written_out : (output : Output) (bytes : List ℕ) → target_of i ≡ None → leaves i ≡ false → Alike Stands low better (written output bytes m) (written output bytes (with_parts b ds m))
    written_out Console bytes none goes = stays m.memory _ m.errors none goes
    written_out Errors bytes none goes = stays m.memory m.output _ none goes

    pub writes_out : (output : Output) (at there size many : ℕ) → there ≡ at → many ≡ size → target_of i ≡ None → leaves i ≡ false → (write p output at size m).ending ≢ Bad → Alike Stands low better (write p output at size m) (write p output there many (with_parts b ds m))
    unfolding write
    writes_out output at there size many e same_size none goes fine =
        subst₂ (λ x y. Alike Stands low better (write p output at size m) (write p output x y (with_parts b ds m))) (sym e) (sym same_size)
        (if_alike _ m (with_parts b ds m) _ _ (written_out output _ none goes) fine)

    pub ends : (status other : ℕ) → other ≡ status → Alike Stands low better (exit status m) (exit other (with_parts b ds m))
    ends status other e =
        BothEnded
        (record {
          status = status % 2 ^ 8;
          ended = refl;
          looks = record { output = refl; errors = refl; input = refl; ending = ap (λ v. Ended (v % 2 ^ 8)) e };
        })

    -- ---- calls

    module _ (r : ℕ) (operands : Operands) (arguments : List VirtualRegister) (same_many : length arguments ≡ length operands.arguments) (same_values : values (with_parts b ds m) arguments ≡ values m operands.arguments) where
      same_entry : can_enter better p r (length arguments) (with_parts b ds m) ≡ can_enter low p r (length operands.arguments) m
      same_entry =
          ap (λ k. nat_lt r k && nat_eq (length arguments) (routine_of better r).parameters && nat_le ((routine_of better r).locals + p.frame r) m.room) many
          ∙ ap (λ k. nat_lt r (length low.routines) && nat_eq k (routine_of better r).parameters && nat_le ((routine_of better r).locals + p.frame r) m.room) same_many
          ∙ ap (λ k. nat_lt r (length low.routines) && nat_eq (length operands.arguments) k && nat_le ((routine_of better r).locals + p.frame r) m.room) (parameters_stay r)
          ∙ ap (λ k. nat_lt r (length low.routines) && nat_eq (length operands.arguments) (routine_of low r).parameters && nat_le (k + p.frame r) m.room) (locals_stay r)

      begun : Activation → (locals : ℕ) → State
      begun top locals =
          record m {
            top = top;
            callers = record { activation = b; to = last; landing = operands.landing } ∷ ds;
            limit = m.limit + locals;
            room = m.room - (locals + p.frame r);
            memory = with_bytes m.memory m.limit (replicate {A = ℕ} locals 0);
          }

      pub calls : target_of i ≡ Some operands.to → other_block i ≡ operands.landing → ((v : ℕ) → Right v) → (call low p r operands m).ending ≢ Bad → Alike Stands low better (call low p r operands m) (call better p r (record { arguments = arguments; to = last; landing = operands.landing }) (with_parts b ds m))
      unfolding call begun
      calls target other right fine =
          if_both (can_enter low p r (length operands.arguments) m) (can_enter better p r (length arguments) (with_parts b ds m)) m (with_parts b ds m) _ _ same_entry
          (λ test.
          let enough : length (values m operands.arguments) ≡ (routine_of low r).parameters = values_length m operands.arguments ∙ eqb-true _ _ (and_parts _ _ (and_parts _ _ test).0).1 in
          BothGo
          (record {
            top = entered better r (values (with_parts b ds m) arguments);
            callers = record { activation = b; to = last; landing = operands.landing } ∷ ds;
            same = ap (begun (entered better r (values (with_parts b ds m) arguments))) (locals_stay r);
            running = running;
            tops = subst (λ vs. Stands (entered low r (values m operands.arguments)) (entered better r vs)) (sym same_values) (enters r (values m operands.arguments) enough);
            waits = OneCaller (record { back = λ v. finds.written operands.to v target (right v); lands = finds.lands operands.landing other }) waits;
          }))
          fine

    pub calls_found : (r s : Option ℕ) (operands : Operands) (arguments : List VirtualRegister) → s ≡ r → length arguments ≡ length operands.arguments → values (with_parts b ds m) arguments ≡ values m operands.arguments → target_of i ≡ Some operands.to → other_block i ≡ operands.landing → ((v : ℕ) → Right v) → (call_found low p r operands m).ending ≢ Bad → Alike Stands low better (call_found low p r operands m) (call_found better p s (record { arguments = arguments; to = last; landing = operands.landing }) (with_parts b ds m))
    calls_found None s operands arguments e same_many same_values target other right fine = absurd (fine refl)
    calls_found (Some r) s operands arguments e same_many same_values target other right fine =
        subst (λ x. Alike Stands low better (call_found low p (Some r) operands m) (call_found better p x (record { arguments = arguments; to = last; landing = operands.landing }) (with_parts b ds m))) (sym e) (calls r operands arguments same_many same_values target other right fine)

    -- ---- back to callers

    gone : Activation → List Caller → (routine locals : ℕ) → State
    gone top callers routine locals = record m { top = top; callers = callers; limit = m.limit - locals; room = m.room + (locals + p.frame routine) }

    lefts : (a c : Activation) (cs es : List Caller) → Stands a c → CallersStand Stands low better cs es → Alike Stands low better (left low p a cs m) (left better p c es (with_parts b ds m))
    unfolding gone
    lefts a c cs es stands rest =
        BothGo
        (record {
          top = c;
          callers = es;
          same = ap (λ r. gone c es r (routine_of better r).locals) finds.routine ∙ ap (gone c es m.top.routine) (locals_stay m.top.routine);
          running = running;
          tops = stands;
          waits = rest;
        })

    pub returns_to : (v w : ℕ) (cs es : List Caller) → w ≡ v → CallersStand Stands low better cs es → (return_to low p v cs m).ending ≢ Bad → Alike Stands low better (return_to low p v cs m) (return_to better p w es (with_parts b ds m))
    returns_to v w [] [] e NoCallers fine = absurd (fine refl)
    returns_to v w [] (d ∷ es) e stands fine = absurd (fine refl)
    returns_to v w (c ∷ cs) [] e stands fine = elim stands [ ]
    returns_to v w (c ∷ cs) (d ∷ es) e (OneCaller first rest) fine =
        lefts _ _ cs es (subst (λ x. Stands (with_value c.to v c.activation) (with_value d.to x d.activation)) (sym e) (first.back v)) rest

    pub raises_to : (cs es : List Caller) → CallersStand Stands low better cs es → (raise_to low p cs m).ending ≢ Bad → Alike Stands low better (raise_to low p cs m) (raise_to better p es (with_parts b ds m))
    raises_to [] [] NoCallers fine = absurd (fine refl)
    raises_to [] (d ∷ es) stands fine = absurd (fine refl)
    raises_to (c ∷ cs) [] stands fine = elim stands [ ]
    raises_to (c ∷ cs) (d ∷ es) (OneCaller first rest) fine = lefts _ _ cs es first.lands rest
