-- What is exported tells the first rule that an interface part breaks.
use Rattle.std.proofs.Common.{◌≡◌, ℕ, zero, suc, Bool, true, false, if◌then◌else◌, List, [], ◌∷◌, length, length-set, nat_eq, replicate, slice_get, slice_set, Option, Some, None, Result, Ok, Err, IfOk, refl, sym, ap, ap₂, subst, ◌∙◌, arith}
use Rattle.std.proofs.lemmas.Bool.{eqb-true}
use Rattle.std.proofs.lemmas.Option.{slice_get_within}
use Rattle.op_base.specs.declared.memory_error.NoMemory.{NoMemory}
use Rattle.op_check_unit.proofs.Law.{other_number}
use Rattle.op_check_unit.specs.Interfaces.{interface_order, unit_at}
use Rattle.op_check_unit.specs.Outlines.{AllTell, Tells, is_blank, outline_of}
use Rattle.op_check_unit.specs.Programs.{Outline, all_outlined, blank_outline, faults_among, files_mean, in_unit, interface_faults_by, interface_means, outline, outline_faults, outlined, outlined_by, parts_of_program, with_interface, with_units}
use Rattle.op_check_unit.specs.Steps.{Declared, Given, Here, here_of}
use Rattle.op_check_unit.specs.Uses.{exported}
use Rattle.op_check_unit.specs.declared.declarer.Declarer.{Declarer}
use Rattle.op_check_unit.specs.declared.uses.Export.{Export}
use Rattle.op_core.proofs.Agreeing.{some_is as some_eq}
use Rattle.op_core.proofs.Rows.{set_apart, set_there, there_is}
use Rattle.op_core.specs.Faults.{Faults, both, kept, none}
use Rattle.op_judgement.specs.Steps.{done}
use Rattle.op_tree.specs.File.{File, Program, UnitFile, program}

-- ---- how many units there are

pub same_count : (k : ℕ) (e : Option (Option Export)) (u : Option UnitFile) (o : Outline) → length (outlined_by k e u o).exports ≡ length o.exports
same_count k (Some None) (Some u) o = length-set o.exports k _
same_count k (Some None) None o = refl
same_count k (Some (Some e)) u o = refl
same_count k None u o = refl

pub all_same_count : (order : List (List ℕ)) (fs : List File) (ks : List ℕ) (o : Outline) → length (all_outlined order fs ks o).exports ≡ length o.exports
all_same_count order fs [] o = refl
all_same_count order fs (k ∷ ks) o = all_same_count order fs ks (outlined order fs k o) ∙ same_count k (slice_get o.exports k) (unit_at order fs k) o

-- ---- what each tells

tells_same : (e : Option Export) (f g : Faults) → kept None f ≡ kept None g → Tells e f → Tells e g
tells_same None f g same t = sym same ∙ t
tells_same (Some e) f g same t = t ∙ same

-- the number's own faults, and none of another number
abbrev faults_at : ℕ → ℕ → Faults → Faults
faults_at j k f = if nat_eq j k then f else none

tells_none : (e : Option Export) (f : Faults) (b : Bool) → Tells e f → Tells e (both f (if b then none else none))
tells_none e f true t = tells_same e f (both f none) refl t
tells_none e f false t = tells_same e f (both f none) refl t

tells_step : (j k : ℕ) (s : Option (Option Export)) (u : Option UnitFile) (o : Outline) (x : Option Export) (f : Faults) → slice_get o.exports j ≡ s → slice_get o.exports k ≡ Some x → Tells x f → (y : Option Export) × (slice_get (outlined_by j s u o).exports k ≡ Some y) × Tells y (both f (faults_at j k (interface_faults_by j s u o)))
tells_step j k (Some None) (Some u) o x f is there t = one (nat_eq j k) refl
  where
    g : Given (Unit {0})
    g = done (interface_means o.exports u (in_unit j o.here))

    -- it is declared now
    told : None ≡ x → Tells (Some (exported u.name g)) (both f g.faults)
    told e = ap (λ k. kept k g.faults) (sym (subst (λ x. Tells x f) (sym e) t))

    one : (b : Bool) → nat_eq j k ≡ b → (y : Option Export) × (slice_get (slice_set o.exports j (Some (exported u.name g))) k ≡ Some y) × Tells y (both f (if b then g.faults else none))
    one true e =
        let same = eqb-true j k e in
        (Some (exported u.name g), subst (λ n. slice_get (slice_set o.exports j (Some (exported u.name g))) n ≡ Some (Some (exported u.name g))) same (set_there o.exports j (Some (exported u.name g)) (slice_get_within o.exports j None is)), told (some_eq (sym is ∙ ap (slice_get o.exports) same ∙ there)))
    one false e = (x, set_apart o.exports j (Some (exported u.name g)) k (λ z. other_number j k e (sym z)) ∙ there, tells_none x f false t)
tells_step j k (Some None) None o x f is there t = (x, there, tells_none x f (nat_eq j k) t)
tells_step j k (Some (Some e)) u o x f is there t = (x, there, tells_none x f (nat_eq j k) t)
tells_step j k None u o x f is there t = (x, there, tells_none x f (nat_eq j k) t)

tells_among : (order : List (List ℕ)) (fs : List File) (ks : List ℕ) (o : Outline) (k : ℕ) (x e : Option Export) (f : Faults) → slice_get o.exports k ≡ Some x → slice_get (all_outlined order fs ks o).exports k ≡ Some e → Tells x f → Tells e (both f (faults_among order fs ks o k))
tells_among order fs [] o k x e f there is t = subst (λ e. Tells e (both f none)) (some_eq (sym there ∙ is)) (tells_same x f (both f none) refl t)
tells_among order fs (j ∷ js) o k x e f there is t =
    let own = faults_at j k (interface_faults_by j (slice_get o.exports j) (unit_at order fs j) o) in
    let next = outlined order fs j o in
    let step = tells_step j k (slice_get o.exports j) (unit_at order fs j) o x f refl there t in
    tells_same e (both (both f own) (faults_among order fs js next k)) (both f (both own (faults_among order fs js next k))) refl (tells_among order fs js next k step.0 e (both f own) step.1 is step.2)

none_there : (n k : ℕ) (x : Option Export) → slice_get (replicate {A = Option Export} n None) k ≡ Some x → None ≡ x
none_there zero k x e = absurd (cc)
none_there (suc n) zero x e = some_eq e
none_there (suc n) (suc k) x e = none_there n k x e

pub all_told : (order : List (List ℕ)) (fs : List File) (h : Here) → AllTell (outline order fs h).exports (outline_faults order fs h)
all_told order fs h k e is =
    let ks = interface_order order fs in
    let o = blank_outline order h in
    let lt = slice_get_within (all_outlined order fs ks o).exports k e is in
    let count = all_same_count order fs ks o in
    let x = there_is o.exports k (omega (arith, lt, count)) in
    tells_same e (both none (faults_among order fs ks o k)) (faults_among order fs ks o k) refl (tells_among order fs ks o k x.0 e none x.1 is (subst (λ x. Tells x none) (none_there (length order) k x.0 x.1) refl))

-- ---- the interface part of one unit

one_unit : (k : ℕ) (s : Option (Option Export)) (u : UnitFile) (o : Outline) → is_blank s ≡ true → outlined_by k s (Some u) o ≡ with_interface k u o
one_unit k None u o e = absurd (cc)
one_unit k (Some None) u o e = refl
one_unit k (Some (Some x)) u o e = absurd (cc)

pub outlined_now : (order : List (List ℕ)) (fs : List File) (k : ℕ) (u : UnitFile) (o new : Outline) → is_blank (slice_get o.exports k) ≡ true → Some u ≡ unit_at order fs k → new ≡ with_interface k u o → new ≡ outlined order fs k o
outlined_now order fs k u o new blank e is =
    is ∙ sym (one_unit k (slice_get o.exports k) u o blank) ∙ ap (λ u. outlined_by k (slice_get o.exports k) u o) e

-- ---- a program behind its interface parts

kept_same : (g : Given (Unit {0})) (old mid new : Declarer) → old.sink.kept ≡ None → mid.sink.kept ≡ None → Declared g mid new → Declared g old new
kept_same g old mid new a b d = (d.0, d.1 ∙ ap (λ k. kept k g.faults) (b ∙ sym a))

pub program_outlined : (p : Program) (order : List (List ℕ)) (fs : List File) (ks : List ℕ) (blank es seen : List (Option Export)) (old begun mid new : Declarer) (r : Result (Unit {0}) NoMemory) → old.sink.kept ≡ None → here_of begun ≡ with_units order (here_of old) → blank ≡ replicate (length order) None → ks ≡ interface_order order fs → outline_of es mid ≡ all_outlined order fs ks (outline_of blank begun) → mid.sink.kept ≡ None → seen ≡ es → ((faults : ℕ → Faults) → AllTell seen faults → IfOk r (λ t. Declared (parts_of_program p order fs faults (outline_of seen mid)) mid new)) → IfOk r (λ t. Declared (files_mean (program p ∷ fs) order (here_of old)) old new)
program_outlined p order fs ks blank es seen old begun mid new (Err e) clear begins none_yet order_is is still same parts = tt
program_outlined p order fs ks blank es seen old begun mid new (Ok t) clear begins none_yet order_is is still same parts =
    let h = here_of old in
    let faults = outline_faults order fs h in
    let o = outline order fs h in
    let start : outline_of blank begun ≡ blank_outline order h = ap₂ (λ es i. record { exports = es; here = i }) none_yet begins in
    let all : outline_of seen mid ≡ o = ap (λ es. outline_of es mid) same ∙ is ∙ ap₂ (all_outlined order fs) order_is start in
    let told : AllTell seen faults = subst (λ es. AllTell es faults) (sym (ap (λ o. o.exports) all)) (all_told order fs h) in
    kept_same (parts_of_program p order fs faults o) old mid new clear still (subst (λ o. Declared (parts_of_program p order fs faults o) mid new) all (parts faults told))
