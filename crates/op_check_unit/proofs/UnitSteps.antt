-- How far the units of a program have come.
use Rattle.std.proofs.Common.{◌≡◌, ℕ, zero, suc, ◌+◌, ◌<◌, ◌≤◌, Bool, List, [], ◌∷◌, Option, Some, None, Result, Ok, Err, IfOk, add-one, drop, drop-cons, get_or, if◌then◌else◌, length, slice_get, slice_set, refl, sym, ap, ap₂, subst, ◌∙◌, arith}
use Rattle.std.proofs.lemmas.List.{drop_all}
use Rattle.op_base.specs.declared.memory_error.NoMemory.{NoMemory}
use Rattle.op_base.specs.declared.place.Place.{Place}
use Rattle.op_base.specs.declared.rule.Refusal.{Refusal}
use Rattle.op_check_unit.proofs.Clear.{clear_is, not_clear_is}
use Rattle.op_check_unit.proofs.Going.{Completes, ends, joined, one_more}
use Rattle.op_check_unit.specs.Outlines.{AllTell, Tells, outline_of}
use Rattle.op_check_unit.specs.Programs.{awaited_in, awaited_one, faulted, in_unit, interface_means, is_of, outer, program_declared, unit_completes, unit_left, units_mean, with_interface}
use Rattle.op_check_unit.specs.Steps.{Declared, Declares, Given, Here, followed, here_of, unless, unless_faulty}
use Rattle.op_check_unit.specs.Uses.{exported, put_apart}
use Rattle.op_check_unit.specs.declared.declarer.Declarer.{Declarer}
use Rattle.op_check_unit.specs.declared.uses.Export.{Export}
use Rattle.op_core.specs.Faults.{Faults, kept}
use Rattle.op_core.specs.declared.ids.UnitId.{UnitId}
use Rattle.op_core.specs.declared.routine.Routine.{Routine}
use Rattle.op_judgement.specs.Judgement.{checked}
use Rattle.op_judgement.specs.Steps.{done}
use Rattle.op_tree.specs.File.{File, Program, UnitFile}
use Rattle.op_tree.specs.declared.position.Name.{Name}
use Rattle.op_types.proofs.Folding.{next_of}

-- ---- a part, and what comes behind it where it breaks no rule

abbrev pub Clear : Declarer → Type 0
Clear d = d.sink.kept ≡ None

pub goes_on : {A B : Type 0} (g : Given A) (f : Here → Given B) (mid new : Declarer) → Clear mid → Clear new → Declared g mid new → unless_faulty g f ≡ followed g (λ t h. f h)
goes_on g f mid new m n d = ap (λ b. unless b g f) (clear_is g.faults (ap (λ k. kept k g.faults) (sym m) ∙ sym d.1 ∙ n))

pub stops : {A B : Type 0} (g : Given A) (f : Here → Given B) (mid new : Declarer) (q : Refusal) → Clear mid → new.sink.kept ≡ Some q → Declared g mid new → Declared (unless_faulty g f) mid new
stops g f mid new q m n d = subst (λ b. Declared (unless b g f) mid new) (sym (not_clear_is g.faults q (ap (λ k. kept k g.faults) (sym m) ∙ sym d.1 ∙ n))) d

-- ---- bodies that are awaited

pub missing_more : (unit : UnitId) (rs : List Routine) (ps : List (Option Place)) (k : ℕ) (d : Option Place) (b : Bool) (old new whole : Option Refusal) → k < length ps → b ≡ is_of unit (slice_get rs k) → new ≡ kept old (checked (awaited_one (if b then get_or ps k d else None))).faults → kept old (checked (awaited_in unit rs k (drop k ps))).faults ≡ whole → kept new (checked (awaited_in unit rs (k + 1) (drop (k + 1) ps))).faults ≡ whole
missing_more unit rs ps k d b old new whole lt own is left =
    let next : drop k ps ≡ get_or ps k d ∷ drop (k + 1) ps = rw add-one (drop-cons ps k d lt) in
    let rest = (checked (awaited_in unit rs (k + 1) (drop (k + 1) ps))).faults in
    ap (λ o. kept o rest) (is ∙ ap (λ b. kept old (checked (awaited_one (if b then get_or ps k d else None))).faults) own) ∙ sym (ap (λ qs. kept old (checked (awaited_in unit rs k qs)).faults) next) ∙ left

-- ---- an interface part

-- what is exported of a state, with a rule that is broken
abbrev export_of : Name → Here → Option Refusal → Export
export_of n h broken = record { unit = n.text; id = h.unit; names = drop h.first h.names; count = h.count; globals = h.core.globals; broken = broken }

pub interface_joined : (es : List (Option Export)) (k : ℕ) (u : UnitFile) (e : Export) (old a b c new : Declarer) → Clear old → here_of a ≡ in_unit k (here_of old) → a.sink ≡ old.sink → Declares (interface_means es u (here_of a)) a b → e ≡ export_of u.name (here_of b) b.sink.kept → here_of c ≡ put_apart (here_of b) → here_of new ≡ outer (length (here_of old).names) (here_of c) → outline_of (slice_set es k (Some e)) new ≡ with_interface k u (outline_of es old)
interface_joined es k u e old a b c new clear at sink d is apart left =
    let h = here_of old in
    let g = done (interface_means es u (in_unit k h)) in
    let part = subst (λ i. Declares (interface_means es u i) a b) at d in
    let export : e ≡ exported u.name g = is ∙ ap₂ (export_of u.name) part.0 (part.1 ∙ ap (λ o. kept o g.faults) (ap (λ s. s.kept) sink ∙ clear)) in
    let here : here_of new ≡ unit_left h (put_apart g.here) = left ∙ ap (outer (length h.names)) (apart ∙ ap put_apart part.0) in
    ap₂ (λ e i. record { exports = slice_set es k (Some e); here = i }) export here

-- ---- the units of a program

pub record Reaches (fs : List File) (es : List (Option Export)) (k : ℕ) (old mid : Declarer) : Type 0 where
  pub completes : (faults : ℕ → Faults) → AllTell es faults → Completes (units_mean fs es faults 0 es (here_of old)) (units_mean fs es faults k (drop k es) (here_of mid)) old mid
  pub clear : Clear mid

-- one unit, whatever its interface part breaks
abbrev pub Goes : List File → List (Option Export) → Option Export → Declarer → Declarer → Type 0
Goes fs es e mid new = (f : Faults) → Tells e f → Declared (faulted f (done (unit_completes fs es e (here_of mid)))) mid new

get_is : {A : Type 0} (xs : List A) (k : ℕ) (x : A) → k < length xs → x ≡ get_or xs k x → slice_get xs k ≡ Some x
get_is [] k x lt e = absurd (omega (arith, lt))
get_is (y ∷ xs) zero x lt e = ap Some (sym e)
get_is (y ∷ xs) (suc k) x lt e = get_is xs k x (omega (arith, lt)) e

pub unit_more : (fs : List File) (es : List (Option Export)) (k : ℕ) (e : Option Export) (old mid new : Declarer) → k < length es → e ≡ get_or es k e → Reaches fs es k old mid → Goes fs es e mid new → Clear new → Reaches fs es (k + 1) old new
unit_more fs es k e old mid new lt is r d c = record { completes = λ faults told. one faults told; clear = c }
  where
    one : (faults : ℕ → Faults) → AllTell es faults → Completes (units_mean fs es faults 0 es (here_of old)) (units_mean fs es faults (k + 1) (drop (k + 1) es) (here_of new)) old new
    one faults told =
        let g = faulted (faults k) (done (unit_completes fs es e (here_of mid))) in
        let rest = units_mean fs es faults (k + 1) (drop (k + 1) es) in
        let whole = units_mean fs es faults 0 es (here_of old) in
        let own : Declared g mid new = d (faults k) (told k e (get_is es k e lt is)) in
        one_more whole g (λ t h. rest h) old mid new g.typed
        (subst (λ x. Completes whole x old mid) (goes_on g rest mid new r.clear c own) (subst (λ ns. Completes whole (units_mean fs es faults k ns (here_of mid)) old mid) (next_of es k e lt is) (r.completes faults told))) (refl, own)

pub unit_stops : (fs : List File) (es : List (Option Export)) (k : ℕ) (e : Option Export) (old mid new : Declarer) (q : Refusal) → k < length es → e ≡ get_or es k e → Reaches fs es k old mid → Goes fs es e mid new → new.sink.kept ≡ Some q → (faults : ℕ → Faults) → AllTell es faults → Declared (units_mean fs es faults 0 es (here_of old)) old new
unit_stops fs es k e old mid new q lt is r d s faults told =
    let g = faulted (faults k) (done (unit_completes fs es e (here_of mid))) in
    let rest = units_mean fs es faults (k + 1) (drop (k + 1) es) in
    let whole = units_mean fs es faults 0 es (here_of old) in
    let own : Declared g mid new = d (faults k) (told k e (get_is es k e lt is)) in
    let c = subst (λ ns. Completes whole (units_mean fs es faults k ns (here_of mid)) old mid) (next_of es k e lt is) (r.completes faults told) in
    (c.completes new (unless_faulty g rest).typed (refl, stops g rest mid new q r.clear s own)).1

pub units_end : (fs : List File) (es : List (Option Export)) (k : ℕ) (old mid : Declarer) → length es ≤ k → Reaches fs es k old mid → (faults : ℕ → Faults) → AllTell es faults → Declared (units_mean fs es faults 0 es (here_of old)) old mid
units_end fs es k old mid le r faults told =
    (ends (units_mean fs es faults 0 es (here_of old)) (units_mean fs es faults k (drop k es) (here_of mid)) old mid (Some tt) (r.completes faults told) (ap (λ ns. units_mean fs es faults k ns (here_of mid)) (drop_all k es le))).1

-- ---- the program behind them

pub program_joined : (es : List (Option Export)) (p : Program) (n : ℕ) (g : Given (Unit {0})) (old mid last new : Declarer) (r : Result (Unit {0}) NoMemory) → Clear old → Clear mid → Declared g old mid → here_of last ≡ in_unit n (here_of mid) → last.sink ≡ mid.sink → IfOk r (λ t. Declares (program_declared es p (here_of last)) last new) → IfOk r (λ t. Declared (unless_faulty g (λ h. done (program_declared es p (in_unit n h)))) old new)
program_joined es p n g old mid last new (Err e) o m d at sink f = f
program_joined es p n g old mid last new (Ok u) o m d at sink f =
    let own = subst (λ h. Declares (program_declared es p h) last new) at f in
    let behind : Declares (program_declared es p (in_unit n (here_of mid))) mid new = (own.0, own.1 ∙ ap (λ s. kept s.kept (done (program_declared es p (in_unit n (here_of mid)))).faults) sink) in
    subst (λ x. Declared x old new) (sym (goes_on g (λ h. done (program_declared es p (in_unit n h))) old mid o m d)) (joined g (λ t h. done (program_declared es p (in_unit n h))) old mid new g.typed (done (program_declared es p (in_unit n (here_of mid)))).typed (refl, d) (refl, behind)).1
