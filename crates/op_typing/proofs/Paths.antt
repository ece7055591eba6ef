-- Where paths begin, and how steps lead on.
use Rattle.std.proofs.Common.{◌≡◌, ◌<◌, inl, inr, ℕ, zero, suc, ◌+◌, ◌-◌, Bool, true, false, ◌&&◌, List, [], ◌∷◌, ◌++◌, length, map, nat_le, nat_lt, Option, Some, None, slice_get, if◌then◌else◌, refl, sym, ap, subst, ◌∙◌, arith}
use Rattle.std.proofs.lemmas.Bool.{and_from, and_parts, both_ways, le-leb, leb-true, lt-ltb, ltb-true}
use Rattle.std.proofs.lemmas.Option.{none-some, same_Some, slice_get-map}
use Rattle.std.specs.List.{All}
use Rattle.std.specs.Option.{option_and_then, option_map, option_to_list}
use Rattle.std.specs.Prelude.{ℤ, IsSomeAnd, IsTrue}
use Rattle.op_constants.specs.Arranged.{IsSmall}
use Rattle.op_constants.specs.Reaching.{Reaches}
use Rattle.op_core.specs.Members.{There, InRun}
use Rattle.op_core.specs.Rows.{rows}
use Rattle.op_core.specs.Sizes.{range_of, type_at}
use Rattle.op_core.specs.Sound.{IsSound, IsRoutine, BeginWith, RoleAndType, role_and_type, first_rows, object_in, is_of_block, within, Encloses, itself, further, enclosing_of}
use Rattle.op_core.specs.declared.ids.FieldId.{FieldId}
use Rattle.op_core.specs.declared.ids.Run.{Run}
use Rattle.op_core.specs.declared.ids.TypeId.{TypeId}
use Rattle.op_core.specs.declared.ids.VariableId.{VariableId}
use Rattle.op_core.specs.declared.program.Core.{Core}
use Rattle.op_core.specs.declared.routine.Parameter.{Parameter as ParameterRow}
use Rattle.op_core.specs.declared.routine.Role.{Role}
use Rattle.op_core.specs.declared.routine.Role.TheVariants.{Plain, Constant, Parameter, Result, Handler}
use Rattle.op_core.specs.declared.routine.Routine.{Routine}
use Rattle.op_core.specs.declared.routine.Variable.{Variable}
use Rattle.op_core.specs.declared.types.CoreType.TheVariants.{Record, Array}
use Rattle.op_meaning.specs.Expressions.{counted_by, counted_of, element_step, high_in, high_of, low_in, low_of}
use Rattle.op_meaning.specs.Paths.{Root, in_global, in_local, through, in_temporary, Step, field, element, Path, path_to, root_of, with_step}
use Rattle.op_meaning.specs.Shapes.{field_number, field_type, first_field, is_local, is_reference, part_type, refers, variables_in, variables_of}
use Rattle.op_typing.proofs.Rows.{each_row, not_true, of_some, row_in, some_and}
use Rattle.op_typing.specs.Simple.{IsSimpleProgram, IsSimpleRoutine}
use Rattle.op_typing.specs.Typed.{HasVariable, PathTo, RootIs, parameters_in, parameters_of}

-- ---- steps

pub reaches_then : (core : Core) (from mid to : TypeId) (steps : List Step) (s : Step) → Reaches core from steps mid → Reaches core mid (s ∷ []) to → Reaches core from (steps ++ s ∷ []) to
reaches_then core from mid to [] s e h = subst (λ a. Reaches core a (s ∷ []) to) (sym e) h
reaches_then core from mid to (field whole k ∷ steps) s (same, run, is, few, rest) h = (same, run, is, few, reaches_then core (part_type core (type_at core from) k) mid to steps s rest h)
reaches_then core from mid to (element whole low high t ∷ steps) s (same, index, each, is, range, rest) h = (same, index, each, is, range, reaches_then core each mid to steps s rest h)

pub path_then : (core : Core) (r : ℕ) (p : Path) (of to : TypeId) (s : Step) → PathTo core r p of → Reaches core of (s ∷ []) to → IsSmall core to → PathTo core r (with_step s p) to
path_then core r p of to s path h small = record {
  from = path.from;
  root = path.root;
  whole = path.whole;
  reaches = reaches_then core path.from of to p.steps s path.reaches h;
  small = small;
}

-- a path without steps
pub root_path : (core : Core) (r : ℕ) (root : Root) (of : TypeId) → RootIs core r root of → IsSmall core of → PathTo core r (path_to root) of
root_path core r root of h small = record { from = of; root = h; whole = small; reaches = refl; small = small }

pub temporary_path : (core : Core) (r : ℕ) (of : TypeId) (n : ℕ) → IsSmall core of → PathTo core r (path_to (in_temporary of n)) of
temporary_path core r of n small = root_path core r (in_temporary of n) of refl small

-- a field of a record
pub field_reaches : (core : Core) (of to : TypeId) (run : Run) (id : FieldId) → type_at core of ≡ Some (Record run) → InRun run id.0 → There core.fields id.0 (λ x. x.of ≡ to) → Reaches core of (field of (field_number core of id) ∷ []) to
field_reaches core of to run id is inside h =
    let row = row_in core.fields run id.0 inside in
    let (f, at, same) = some_and (slice_get core.fields id.0) (λ x. x.of ≡ to) h in
    let number : id.0 - run.first ≡ field_number core of id = ap (λ o. id.0 - first_field o) (sym is) in
    let part : part_type core (type_at core of) (id.0 - run.first) ≡ to = ap (λ o. part_type core o (id.0 - run.first)) is ∙ ap field_type (row.1 ∙ at) ∙ same in
    subst (λ k. Reaches core of (field of k ∷ []) to) number (refl, run, is, row.0, part)

range_ends : (o : Option (ℤ × ℤ)) → IsSomeAnd o (λ range. Unit {0}) → o ≡ Some (low_of o, high_of o)
range_ends None h = absurd h
range_ends (Some range) h = refl

-- an element of an array
pub element_reaches : (core : Core) → IsSound core → (of at each : TypeId) (t : ℕ) → type_at core of ≡ Some (Array at each) → Reaches core of (element_step core of t ∷ []) each
element_reaches core sound of at each t is =
    let row = sound.types of.0 (Array at each) is in
    let counted : counted_of core of ≡ at = ap (counted_by of) is in
    let range = range_ends (range_of (type_at core at)) row.0.1 in
    (refl, at, each, is, subst (λ c. range_of (type_at core at) ≡ Some (low_in core c, high_in core c)) (sym counted) range, refl)

-- ---- variables

block_is_own : (role : Role) → is_of_block role ≡ true → is_reference role ≡ false
block_is_own Plain h = refl
block_is_own Constant h = refl
block_is_own Handler h = refl
block_is_own _ h = absurd (not_true h)

abbrev block_row : RoleAndType → Type 0
block_row o = IsTrue (is_of_block o.0)

abbrev pub rows_of : List ParameterRow → Option TypeId → List RoleAndType
rows_of ps result = map (λ p. (Parameter p.mode, p.of)) ps ++ map (λ of. (Result, of)) (option_to_list result)

-- what stands for something else is a parameter
reference_row : (ps : List ParameterRow) (result : Option TypeId) (others : List RoleAndType) (k : ℕ) (o : RoleAndType) → All block_row others → slice_get (rows_of ps result ++ others) k ≡ Some o → is_reference o.0 ≡ true → k < length ps
reference_row [] None others k o blocks e h = absurd (both_ways (is_reference o.0) (block_is_own o.0 (each_row block_row others k o blocks e)) h)
reference_row [] (Some of) others zero o blocks e h = absurd (not_true (ap (λ o. is_reference o.0) (same_Some _ _ e) ∙ h))
reference_row [] (Some of) others (suc k) o blocks e h = absurd (both_ways (is_reference o.0) (block_is_own o.0 (each_row block_row others k o blocks e)) h)
reference_row (p ∷ ps) result others zero o blocks e h = omega arith
reference_row (p ∷ ps) result others (suc k) o blocks e h = let few = reference_row ps result others k o blocks e h in omega (arith, few)

alone : (core : Core) (r m : ℕ) → enclosing_of core r ≡ None → Encloses core r m → m ≡ r
alone core r m none itself = refl
alone core r m none (further e h) = absurd (none-some _ (sym none ∙ e))

inside_is : (run : Run) (n : ℕ) → (nat_le run.first n && nat_lt n (run.first + run.count)) ≡ true → InRun run n
inside_is run n h = let both = and_parts _ _ h in (leb-true run.first n both.0, ltb-true n (run.first + run.count) both.1)

inside_test : (run : Run) (n : ℕ) → InRun run n → (nat_le run.first n && nat_lt n (run.first + run.count)) ≡ true
inside_test run n h = and_from _ _ (le-leb run.first n h.0) (lt-ltb n (run.first + run.count) h.1)

-- in a routine of a simple program
module _ (core : Core) (sound : IsSound core) (simple : IsSimpleProgram core) (r : ℕ) (x : Routine) (is_there : slice_get core.routines r ≡ Some x) where
  plain : IsSimpleRoutine core x
  plain = each_row (IsSimpleRoutine core) core.routines r x simple.routines is_there

  pub routine : IsRoutine core x
  routine = each_row (IsRoutine core) core.routines r x sound.routines is_there

  run_is : variables_of core r ≡ x.variables
  run_is = ap variables_in is_there

  pub parameters_are : parameters_of core r ≡ rows core.parameters x.parameters
  parameters_are = ap (parameters_in core) is_there

  -- its parameters come first, and then its result
  pub has_rows : BeginWith (rows_of (rows core.parameters x.parameters) x.result) (rows core.variables (variables_of core r))
  has_rows =
      let begins : BeginWith (first_rows core x) (rows core.variables x.variables) = routine.begins (routine.has_body plain.owner) in
      let first : first_rows core x ≡ rows_of (rows core.parameters x.parameters) x.result = ap (λ owner. object_in core owner ++ map (λ p. (Parameter p.mode, p.of)) (rows core.parameters x.parameters) ++ map (λ of. (Result, of)) (option_to_list x.result)) plain.owner in
      subst (λ run. BeginWith (rows_of (rows core.parameters x.parameters) x.result) (rows core.variables run)) (sym run_is)
      (subst (λ first. BeginWith first (rows core.variables x.variables)) first begins)

  row_is : (k : ℕ) (v : Variable) → slice_get (rows core.variables (variables_of core r)) k ≡ Some v → slice_get (rows_of (rows core.parameters x.parameters) x.result ++ has_rows.others) k ≡ Some (role_and_type v)
  row_is k v e =
      sym (ap (λ vs. slice_get vs k) has_rows.are)
      ∙ slice_get-map role_and_type (rows core.variables (variables_of core r)) k
      ∙ ap (option_map role_and_type) e

  pub reference_low : (k : ℕ) (v : Variable) → slice_get (rows core.variables (variables_of core r)) k ≡ Some v → is_reference v.role ≡ true → k < length (parameters_of core r)
  reference_low k v e h =
      subst (λ ps. k < length ps) (sym parameters_are)
      (reference_row (rows core.parameters x.parameters) x.result has_rows.others k (role_and_type v) has_rows.of_block (row_is k v e) h)

  -- a variable that the routine may name
  pub root_typed : (id : VariableId) (v : Variable) → (within core r).variable id → slice_get core.variables id.0 ≡ Some v → RootIs core r (root_of core r id) v.of
  root_typed id v sees e = by_local (is_local core r id) refl
    where
      run : Run
      run = variables_of core r

      k : ℕ
      k = id.0 - (variables_of core r).first

      own_row : InRun (variables_of core r) id.0 → (b : Bool) → refers (slice_get core.variables id.0) ≡ b → HasVariable core r k (λ w. (w.of ≡ v.of) × (is_reference w.role ≡ b))
      own_row inside b h =
          let row = row_in core.variables (variables_of core r) id.0 inside in (
            row.0,
            of_some (slice_get core.variables ((variables_of core r).first + k)) (λ w. (w.of ≡ v.of) × (is_reference w.role ≡ b)) v (ap (slice_get core.variables) row.2 ∙ e) (refl, sym (ap refers e) ∙ h),
          )

      by_refers : InRun (variables_of core r) id.0 → (b : Bool) → refers (slice_get core.variables id.0) ≡ b → RootIs core r (if b then through k else in_local k) v.of
      by_refers inside true h =
          let row = row_in core.variables (variables_of core r) id.0 inside in
          (reference_low k v (row.1 ∙ e) (sym (ap refers e) ∙ h), own_row inside true h)
      by_refers inside false h = own_row inside false h

      outside : is_local core r id ≡ false → RootIs core r (in_global id.0) v.of
      outside far = by sees
        where
          by : (within core r).variable id → RootIs core r (in_global id.0) v.of
          by (inl listed) = (listed, of_some (slice_get core.variables id.0) (λ w. w.of ≡ v.of) v e refl)
          by (inr (m, encloses, there)) =
              let none : enclosing_of core r ≡ None = ap (option_and_then (λ x. option_map (λ a. a.0) x.enclosing)) is_there ∙ ap (option_map (λ a. a.0)) plain.enclosing in
              let here = subst (λ m. There core.routines m (λ y. InRun y.variables id.0)) (alone core r m none encloses) there in
              let (y, at, inside) = some_and (slice_get core.routines r) (λ y. InRun y.variables id.0) here in
              let near = inside_test (variables_of core r) id.0 (subst (λ run. InRun run id.0) (sym (ap variables_in at)) inside) in
              absurd (both_ways (is_local core r id) far near)

      by_local : (b : Bool) → is_local core r id ≡ b → RootIs core r (if b then (if refers (slice_get core.variables id.0) then through k else in_local k) else in_global id.0) v.of
      by_local true near = by_refers (inside_is (variables_of core r) id.0 near) (refers (slice_get core.variables id.0)) refl
      by_local false far = outside far
