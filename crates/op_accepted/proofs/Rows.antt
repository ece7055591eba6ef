-- States of declarations stay fit where rows are put behind those of their tables, and where names, bodies and first values are.
use Rattle.std.proofs.Common.{◌≡◌, ℕ, true, List, [], ◌∷◌, ◌++◌, append-nil, length, slice_get, slice_set, All, IfSome, Some, None, refl, sym, subst, ◌∙◌}
use Rattle.std.proofs.lemmas.List.Elements.{All-append, All-cons, All-nil, All-push, All-weaker}
use Rattle.op_accepted.proofs.Grown.{all_solid_on, if_solid_on, names_on, predefined_on, types_on, units_on, values_on}
use Rattle.op_accepted.specs.Fit.{AreFitStatements, IsFitMeaning, IsFitTables, IsFitType}
use Rattle.op_accepted.specs.State.{AreFitNames, AreTreesFit, GivesAlike, IsFit, IsFitState, IsLater, IsOfItself, IsOuterRow, IsPlainRow}
use Rattle.op_sound.proofs.Types.{behind_front, wide}
use Rattle.op_check_unit.specs.Steps.{Here}
use Rattle.op_core.proofs.Growing.{front_itself, front_same, stay_front, stay_set}
use Rattle.op_core.specs.Growing.{IsFrontOf}
use Rattle.op_core.specs.Initial.{FirstValue}
use Rattle.op_core.specs.Statement.{Statements}
use Rattle.op_core.specs.declared.ids.RoutineId.{RoutineId}
use Rattle.op_core.specs.declared.ids.VariableId.{VariableId}
use Rattle.op_core.specs.declared.program.Core.{Core}
use Rattle.op_core.specs.declared.program.Unit.{Unit as UnitRow}
use Rattle.op_core.specs.declared.routine.Parameter.{Parameter}
use Rattle.op_core.specs.declared.routine.Routine.{Routine}
use Rattle.op_core.specs.declared.routine.Variable.{Variable}
use Rattle.op_core.specs.declared.types.CoreType.{CoreType}
use Rattle.op_core.specs.declared.types.Extent.{Extent}
use Rattle.op_core.specs.declared.types.Field.{Field}
use Rattle.op_plain.specs.Plain.{is_plain_unit}
use Rattle.op_types.specs.Names.{Named}
use Rattle.op_typing.specs.Simple.{IsSolidType}

-- rows behind others
more_fit : {A : Type 0} (P Q : A → Type 0) (xs ys zs : List A) → zs ≡ xs ++ ys → ((xs : List A) → All P xs → All Q xs) → All P xs → All Q ys → All Q zs
more_fit P Q xs ys zs e on h k = subst (All Q) (sym e) (All-append Q xs ys (on xs h) k)

pub only_name : (core : Core) (n : Named) → IsFitMeaning core n.meaning → AreFitNames core (n ∷ [])
only_name core n f = All-cons (λ n. IsFitMeaning core n.meaning) n [] f (All-nil (λ n. IsFitMeaning core n.meaning))

-- ---- tables

pub rows_fit : (old new : Core) (ts : List CoreType) (fs : List Field) (ps : List Parameter) (vs : List Variable) → IsFitTables old → new.types ≡ old.types ++ ts → new.fields ≡ old.fields ++ fs → new.parameters ≡ old.parameters ++ ps → new.variables ≡ old.variables ++ vs → All (IsFitType new) ts → All (λ f. IsSolidType new f.of) fs → All (λ p. IsSolidType new p.of) ps → All (λ v. IsSolidType new v.of) vs → All (λ r. IfSome r.result (IsSolidType new)) new.routines → IsFitTables new
rows_fit old new ts fs ps vs x t f p v at af ap_ av ar =
    let front : IsFrontOf old.types new.types = record { more = ts; is = t } in record {
      predefined = predefined_on old new front x.predefined;
      types = more_fit (IsFitType old) (IsFitType new) old.types ts new.types t (λ xs h. types_on old new front xs h) x.types at;
      fields = more_fit (λ f. IsSolidType old f.of) (λ f. IsSolidType new f.of) old.fields fs new.fields f (λ xs h. all_solid_on (λ f. f.of) old new front xs h) x.fields af;
      parameters = more_fit (λ p. IsSolidType old p.of) (λ p. IsSolidType new p.of) old.parameters ps new.parameters p (λ xs h. all_solid_on (λ p. p.of) old new front xs h) x.parameters ap_;
      variables = more_fit (λ v. IsSolidType old v.of) (λ v. IsSolidType new v.of) old.variables vs new.variables v (λ xs h. all_solid_on (λ v. v.of) old new front xs h) x.variables av;
      results = ar;
    }

results_on : (old new : Core) → IsFrontOf old.types new.types → (rs : List Routine) → All (λ r. IfSome r.result (IsSolidType old)) rs → All (λ r. IfSome r.result (IsSolidType new)) rs
results_on old new f rs h = All-weaker (λ r. IfSome r.result (IsSolidType old)) (λ r. IfSome r.result (IsSolidType new)) (λ r k. if_solid_on old new f r.result k) rs h

nothing : {A : Type 0} (xs : List A) → xs ≡ xs ++ []
nothing xs = sym (append-nil xs)

-- ---- cores with other tables

abbrev pub fielded : Core → List Field → Core
fielded core fs = record core { fields = core.fields ++ fs }

abbrev pub parametered : Core → List Parameter → Core
parametered core ps = record core { parameters = core.parameters ++ ps }

abbrev pub variabled : Core → List Variable → List VariableId → Core
variabled core vs gs = record core { variables = core.variables ++ vs; globals = gs }

abbrev pub routined : Core → List Routine → Core
routined core rs = record core { routines = rs }

abbrev pub united : Core → List UnitRow → Core
united core us = record core { units = us }

abbrev pub globaled : Core → List VariableId → Core
globaled core gs = record core { globals = gs }

pub wide_later : (core : Core) (ts : List CoreType) (es : List Extent) → IsLater core (wide core ts es)
wide_later core ts es = record { types = behind_front core.types ts; variables = front_itself core.variables; routines = stay_front (λ n r e. refl) (front_itself core.routines); units = refl }

-- where types, routines and units stay as they are
beside_later : (core new : Core) → new.types ≡ core.types → IsFrontOf core.variables new.variables → new.routines ≡ core.routines → length new.units ≡ length core.units → IsLater core new
beside_later core new t v r u = record { types = front_same t; variables = v; routines = stay_front (λ n r e. refl) (front_same r); units = u }

pub fielded_later : (core : Core) (fs : List Field) → IsLater core (fielded core fs)
fielded_later core fs = beside_later core (fielded core fs) refl (front_itself core.variables) refl refl

pub parametered_later : (core : Core) (ps : List Parameter) → IsLater core (parametered core ps)
parametered_later core ps = beside_later core (parametered core ps) refl (front_itself core.variables) refl refl

pub variabled_later : (core : Core) (vs : List Variable) (gs : List VariableId) → IsLater core (variabled core vs gs)
variabled_later core vs gs = beside_later core (variabled core vs gs) refl (behind_front core.variables vs) refl refl

pub globaled_later : (core : Core) (gs : List VariableId) → IsLater core (globaled core gs)
globaled_later core gs = beside_later core (globaled core gs) refl (front_itself core.variables) refl refl

pub united_later : (core : Core) (us : List UnitRow) → length us ≡ length core.units → IsLater core (united core us)
united_later core us e = beside_later core (united core us) refl (front_itself core.variables) refl e

-- a routine more
pub routine_later : (core : Core) (r : Routine) → IsLater core (routined core (core.routines ++ r ∷ []))
routine_later core r = record { types = front_itself core.types; variables = front_itself core.variables; routines = stay_front (λ n r e. refl) (behind_front core.routines (r ∷ [])); units = refl }

-- another row for a routine
pub row_later : (core : Core) (k : ℕ) (row : Routine) → ((r : Routine) → slice_get core.routines k ≡ Some r → GivesAlike r row) → IsLater core (routined core (slice_set core.routines k row))
row_later core k row f = record { types = front_itself core.types; variables = front_itself core.variables; routines = stay_set core.routines k row (λ r. refl) f; units = refl }

module _ (known : AreTreesFit) where
  -- ---- states

  pub fit_on : (old new : Core) (ns : List Named) (ms : List (RoutineId × Statements)) (vs : List (VariableId × FirstValue)) → IsFit old ns ms vs → IsLater old new → IsFitTables new → All IsPlainRow new.variables → All IsOuterRow new.routines → All (λ u. is_plain_unit new u ≡ true) new.units → new.exceptions ≡ None → IsFit new ns ms vs
  fit_on old new ns ms vs x l t v r u e = record {
    tables = t;
    exceptions = e;
    variables = v;
    routines = r;
    units = u;
    names = names_on old new l.types ns x.names;
    bodies = All-weaker (λ b. AreFitStatements old b.1) (λ b. AreFitStatements new b.1) (λ b h. known.grow old new l.types b.1 h) ms x.bodies;
    values = values_on old new l.variables vs x.values;
  }

  pub wide_fit : (h : Here) (ts : List CoreType) (es : List Extent) → IsFitState h → All (IsFitType (wide h.core ts es)) ts → IsFitState (record h { core = wide h.core ts es })
  wide_fit h ts es x a =
      let new = wide h.core ts es in
      let l = wide_later h.core ts es in
      fit_on h.core new h.names h.bodies h.first_values x l
      (rows_fit h.core new ts [] [] [] x.tables refl (nothing h.core.fields) (nothing h.core.parameters) (nothing h.core.variables) a (All-nil (λ f. IsSolidType new f.of)) (All-nil (λ p. IsSolidType new p.of)) (All-nil (λ v. IsSolidType new v.of)) (results_on h.core new l.types h.core.routines x.tables.results))
      x.variables x.routines (units_on h.core new l h.core.units x.units) x.exceptions

  -- where types stay as they are
  beside_fit : (core new : Core) (ns : List Named) (ms : List (RoutineId × Statements)) (bs : List (VariableId × FirstValue)) (fs : List Field) (ps : List Parameter) (vs : List Variable) → new.types ≡ core.types → new.fields ≡ core.fields ++ fs → new.parameters ≡ core.parameters ++ ps → new.variables ≡ core.variables ++ vs → new.exceptions ≡ core.exceptions → IsLater core new → IsFit core ns ms bs → All (λ f. IsSolidType new f.of) fs → All (λ p. IsSolidType new p.of) ps → All (λ v. IsSolidType new v.of) vs → All IsPlainRow vs → All (λ r. IfSome r.result (IsSolidType new)) new.routines → All IsOuterRow new.routines → All (λ u. is_plain_unit new u ≡ true) new.units → IsFit new ns ms bs
  beside_fit core new ns ms bs fs ps vs t f p v e l x af ap_ av ar rr ro ru =
      fit_on core new ns ms bs x l
      (rows_fit core new [] fs ps vs x.tables (t ∙ nothing core.types) f p v (All-nil (IsFitType new)) af ap_ av rr)
      (subst (All IsPlainRow) (sym v) (All-append IsPlainRow core.variables vs x.variables ar)) ro ru (e ∙ x.exceptions)

  pub fielded_fit : (core : Core) (ns : List Named) (ms : List (RoutineId × Statements)) (bs : List (VariableId × FirstValue)) (fs : List Field) → IsFit core ns ms bs → All (λ f. IsSolidType core f.of) fs → IsFit (fielded core fs) ns ms bs
  fielded_fit core ns ms bs fs x a =
      let new = fielded core fs in
      let l = fielded_later core fs in
      beside_fit core new ns ms bs fs [] [] refl refl (nothing core.parameters) (nothing core.variables) refl l x a (All-nil (λ p. IsSolidType new p.of)) (All-nil (λ v. IsSolidType new v.of)) (All-nil IsPlainRow) (results_on core new l.types core.routines x.tables.results) x.routines (units_on core new l core.units x.units)

  pub parametered_fit : (core : Core) (ns : List Named) (ms : List (RoutineId × Statements)) (bs : List (VariableId × FirstValue)) (ps : List Parameter) → IsFit core ns ms bs → All (λ p. IsSolidType core p.of) ps → IsFit (parametered core ps) ns ms bs
  parametered_fit core ns ms bs ps x a =
      let new = parametered core ps in
      let l = parametered_later core ps in
      beside_fit core new ns ms bs [] ps [] refl (nothing core.fields) refl (nothing core.variables) refl l x (All-nil (λ f. IsSolidType new f.of)) a (All-nil (λ v. IsSolidType new v.of)) (All-nil IsPlainRow) (results_on core new l.types core.routines x.tables.results) x.routines (units_on core new l core.units x.units)

  pub variabled_fit : (core : Core) (ns : List Named) (ms : List (RoutineId × Statements)) (bs : List (VariableId × FirstValue)) (vs : List Variable) (gs : List VariableId) → IsFit core ns ms bs → All (λ v. IsSolidType core v.of) vs → All IsPlainRow vs → IsFit (variabled core vs gs) ns ms bs
  variabled_fit core ns ms bs vs gs x a r =
      let new = variabled core vs gs in
      let l = variabled_later core vs gs in
      beside_fit core new ns ms bs [] [] vs refl (nothing core.fields) (nothing core.parameters) refl refl l x (All-nil (λ f. IsSolidType new f.of)) (All-nil (λ p. IsSolidType new p.of)) a r (results_on core new l.types core.routines x.tables.results) x.routines (units_on core new l core.units x.units)

  pub routined_fit : (core : Core) (ns : List Named) (ms : List (RoutineId × Statements)) (bs : List (VariableId × FirstValue)) (rs : List Routine) → IsFit core ns ms bs → IsLater core (routined core rs) → All (λ r. IfSome r.result (IsSolidType core)) rs → All IsOuterRow rs → IsFit (routined core rs) ns ms bs
  routined_fit core ns ms bs rs x l a r =
      let new = routined core rs in
      beside_fit core new ns ms bs [] [] [] refl (nothing core.fields) (nothing core.parameters) (nothing core.variables) refl l x (All-nil (λ f. IsSolidType new f.of)) (All-nil (λ p. IsSolidType new p.of)) (All-nil (λ v. IsSolidType new v.of)) (All-nil IsPlainRow) a r (units_on core new l core.units x.units)

  pub globaled_fit : (core : Core) (ns : List Named) (ms : List (RoutineId × Statements)) (bs : List (VariableId × FirstValue)) (gs : List VariableId) → IsFit core ns ms bs → IsFit (globaled core gs) ns ms bs
  globaled_fit core ns ms bs gs x =
      let new = globaled core gs in
      let l = globaled_later core gs in
      beside_fit core new ns ms bs [] [] [] refl (nothing core.fields) (nothing core.parameters) (nothing core.variables) refl l x (All-nil (λ f. IsSolidType new f.of)) (All-nil (λ p. IsSolidType new p.of)) (All-nil (λ v. IsSolidType new v.of)) (All-nil IsPlainRow) (results_on core new l.types core.routines x.tables.results) x.routines (units_on core new l core.units x.units)

  -- also where there are more of them
  pub united_fit : (core : Core) (ns : List Named) (ms : List (RoutineId × Statements)) (bs : List (VariableId × FirstValue)) (us : List UnitRow) → IsFit core ns ms bs → All (λ u. is_plain_unit core u ≡ true) us → IsFit (united core us) ns ms bs
  united_fit core ns ms bs us x a = record {
    tables = record { predefined = x.tables.predefined; types = types_on core (united core us) (front_itself core.types) core.types x.tables.types; fields = x.tables.fields; parameters = x.tables.parameters; variables = x.tables.variables; results = results_on core (united core us) (front_itself core.types) core.routines x.tables.results };
    exceptions = x.exceptions;
    variables = x.variables;
    routines = x.routines;
    units = a;
    names = names_on core (united core us) (front_itself core.types) ns x.names;
    bodies = All-weaker (λ b. AreFitStatements core b.1) (λ b. AreFitStatements (united core us) b.1) (λ b h. known.grow core (united core us) (front_itself core.types) b.1 h) ms x.bodies;
    values = values_on core (united core us) (front_itself core.variables) bs x.values;
  }

-- ---- names, bodies and first values

pub named_fit : {core : Core} {ns : List Named} {ms : List (RoutineId × Statements)} {bs : List (VariableId × FirstValue)} (more : List Named) → IsFit core ns ms bs → AreFitNames core more → IsFit core (ns ++ more) ms bs
named_fit {core} {ns} more x a = record { tables = x.tables; exceptions = x.exceptions; variables = x.variables; routines = x.routines; units = x.units; names = All-append (λ n. IsFitMeaning core n.meaning) ns more x.names a; bodies = x.bodies; values = x.values }

-- other names
pub renamed_fit : {core : Core} {ns : List Named} {ms : List (RoutineId × Statements)} {bs : List (VariableId × FirstValue)} (others : List Named) → IsFit core ns ms bs → AreFitNames core others → IsFit core others ms bs
renamed_fit others x a = record { tables = x.tables; exceptions = x.exceptions; variables = x.variables; routines = x.routines; units = x.units; names = a; bodies = x.bodies; values = x.values }

pub bodied_fit : {core : Core} {ns : List Named} {ms : List (RoutineId × Statements)} {bs : List (VariableId × FirstValue)} (b : RoutineId × Statements) → IsFit core ns ms bs → AreFitStatements core b.1 → IsFit core ns (ms ++ b ∷ []) bs
bodied_fit {core} {ms} b x a = record { tables = x.tables; exceptions = x.exceptions; variables = x.variables; routines = x.routines; units = x.units; names = x.names; bodies = All-push (λ b. AreFitStatements core b.1) ms b x.bodies a; values = x.values }

pub valued_fit : {core : Core} {ns : List Named} {ms : List (RoutineId × Statements)} {bs : List (VariableId × FirstValue)} (b : VariableId × FirstValue) → IsFit core ns ms bs → IsOfItself core b → IsFit core ns ms (bs ++ b ∷ [])
valued_fit {core} {bs} b x a = record { tables = x.tables; exceptions = x.exceptions; variables = x.variables; routines = x.routines; units = x.units; names = x.names; bodies = x.bodies; values = All-push (IsOfItself core) bs b x.values a }
