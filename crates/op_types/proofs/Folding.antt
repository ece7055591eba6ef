-- What nodes with lists mean as constants, and what stands behind faults.
use Rattle.std.proofs.Common.{◌≡◌, ℕ, ◌<◌, ◌≤◌, ◌+◌, Bool, true, false, ◌&&◌, List, [], ◌∷◌, length, drop, drop-cons, add-one, get_or, Option, None, Some, refl, sym, ap, subst, ◌∙◌}
use Rattle.std.proofs.lemmas.List.{drop_all, nil_from_length}
use Rattle.op_base.specs.declared.place.Place.{Place}
use Rattle.op_base.specs.declared.rule.Refusal.{Refusal}
use Rattle.op_core.proofs.Agreeing.{agrees_standing, holds_entry}
use Rattle.op_core.specs.Faults.{kept, none}
use Rattle.op_core.specs.Relations.{Entry, Never}
use Rattle.op_core.specs.declared.first_refusal.FirstRefusal.{FirstRefusal}
use Rattle.op_core.specs.declared.program.Core.{Core}
use Rattle.op_judgement.specs.Judgement.{Judgement, Reports, checked, fine, followed, known, with_part}
use Rattle.op_tree.specs.Expression.{Expression, chain, literal, Operations, no_operations, operation, Elements, no_elements, elements, Selectors, no_selectors, selectors, no_arguments, arguments, argument_of, element_of, expr_of}
use Rattle.op_tree.specs.Lists.{arguments_of, operations_of}
use Rattle.op_tree.specs.Statement.{elements_of}
use Rattle.op_tree.specs.declared.expression.Argument.{Argument}
use Rattle.op_tree.specs.declared.expression.Element.{Element}
use Rattle.op_tree.specs.declared.expression.Operation.{Operation}
use Rattle.op_tree.specs.declared.position.Position.{Position}
use Rattle.op_types.specs.ConstantParts.{is_folded, literal_means, no_members, start_of, start_of_element}
use Rattle.op_types.specs.Folding.{Finds, are_constant_elements, are_constant_operands, constant, element, gathered_means, is_constant, is_constant_element, members, operation_means, operations}
use Rattle.op_types.specs.Names.{Named}
use Rattle.op_types.specs.declared.constant.Constant.{Constant}

-- what is there, with no fault
abbrev pub standing : Option Constant → Judgement Constant
standing a = known (record { typed = a; faults = none }) (Entry a) Never (agrees_standing (holds_entry a)) tt

-- from here the one reports what the other does from there
abbrev pub Same : Judgement Constant → Judgement Constant → Option Refusal → Option Refusal → Type 0
Same j k here there = ((checked k).typed ≡ (checked j).typed) × (kept there (checked k).faults ≡ kept here (checked j).faults)

followed_same : (j k : Judgement Constant) (here there : Option Refusal) (g : Option Constant → Judgement Constant) → Same j k here there → Same (followed j g) (followed k g) here there
followed_same j k here there g h = (λ i. (checked (g (h.0 i))).typed, λ i. kept (h.1 i) (checked (g (h.0 i))).faults)

operations_same : (core : Core) (names : List Named) (start : Place) (rest : Operations) (j k : Judgement Constant) (here there : Option Refusal) → Same j k here there → Same (operations core names start j rest) (operations core names start k rest) here there
operations_same core names start no_operations j k here there h = h
operations_same core names start (operation o p e others) j k here there h =
    let g : Option Constant → Judgement Constant = λ a. followed (constant core names e) (operation_means core start o p.place a) in
    operations_same core names start others (followed j g) (followed k g) here there (followed_same j k here there g h)

members_same : (core : Core) (names : List Named) (es : Elements) (j k : Judgement Constant) (here there : Option Refusal) → Same j k here there → Same (members core names j es) (members core names k es) here there
members_same core names no_elements j k here there h = h
members_same core names (elements e es) j k here there h =
    let g : Option Constant → Judgement Constant = λ a. followed (element core names e) (gathered_means core (start_of_element e) a) in
    members_same core names es (followed j g) (followed k g) here there (followed_same j k here there g h)

-- one part more
more_same : (k : Judgement Constant) (m : Option Constant → Option Constant → Judgement Constant) (old mid far : FirstRefusal) (a b c : Option Constant) → Reports k old mid b → Reports (m a b) mid far c → Same (followed (standing a) (λ a. followed k (m a))) (standing c) old.kept far.kept
more_same k m old mid far a b c h r = (r.0 ∙ (λ i. (checked (m a (h.0 i))).typed), r.1 ∙ (λ i. kept (h.1 i) (checked (m a (h.0 i))).faults))

finds_same : (b : Bool) (j k : Judgement Constant) (old mid new : FirstRefusal) (given : Option (Option Constant)) → Same j k old.kept mid.kept → Finds b k mid new given → Finds b j old new given
finds_same b j k old mid new None h f = f
finds_same b j k old mid new (Some a) h f = (f.0, (f.1.0 ∙ h.0, f.1.1 ∙ h.1))

-- ---- lists

-- what completes the rest completes the whole
pub record Completes (b : Bool) (whole : Judgement Constant) (c : Bool) (rest : Judgement Constant) (old mid : FirstRefusal) : Type 0 where
  pub completes : (new : FirstRefusal) (given : Option (Option Constant)) → Finds c rest mid new given → Finds b whole old new given

part_same : (a : Option Constant) (s : Option Refusal) → Same (with_part fine a) (standing a) s s
part_same None s = (refl, refl)
part_same (Some a) s = (refl, refl)

behind_same : (j : Judgement Constant) (a : Option Constant) (old mid : FirstRefusal) → Reports j old mid a → Same j (with_part fine a) old.kept mid.kept
behind_same j None old mid h = (h.0, h.1)
behind_same j (Some a) old mid h = (h.0, h.1)

-- a first operand, and what stands behind it
pub chained : (core : Core) (names : List Named) (first : Expression) (rest : Operations) (old mid : FirstRefusal) (a : Option Constant) → Finds (is_constant core names first) (constant core names first) old mid (Some a) → (new : FirstRefusal) (given : Option (Option Constant)) → Finds (are_constant_operands core names rest) (operations core names (start_of first) (with_part fine a) rest) mid new given → Finds (is_constant core names (chain first rest)) (constant core names (chain first rest)) old new given
chained core names first rest old mid a h new given k =
    let whole = operations core names (start_of first) (constant core names first) rest in
    let others = operations core names (start_of first) (with_part fine a) rest in
    subst (λ t. Finds (t && are_constant_operands core names rest) whole old new given) (sym h.0)
    (finds_same (are_constant_operands core names rest) whole others old mid new given (operations_same core names (start_of first) rest (constant core names first) (with_part fine a) old.kept mid.kept (behind_same (constant core names first) a old mid h.1)) k)

pub begins : (core : Core) (names : List Named) (start : Place) (rest : Operations) (s : FirstRefusal) (a : Option Constant) → Completes (are_constant_operands core names rest) (operations core names start (with_part fine a) rest) (are_constant_operands core names rest) (operations core names start (standing a) rest) s s
begins core names start rest s a = record {
  completes = λ new given k. finds_same (are_constant_operands core names rest) (operations core names start (with_part fine a) rest) (operations core names start (standing a) rest) s s new given (operations_same core names start rest (with_part fine a) (standing a) s.kept s.kept (part_same a s.kept)) k;
}

pub members_begin : (core : Core) (names : List Named) (es : Elements) (s : FirstRefusal) → Completes (are_constant_elements core names es) (members core names (fine no_members) es) (are_constant_elements core names es) (members core names (standing (Some no_members)) es) s s
members_begin core names es s = record {
  completes = λ new given k. finds_same (are_constant_elements core names es) (members core names (fine no_members) es) (members core names (standing (Some no_members)) es) s s new given (members_same core names es (fine no_members) (standing (Some no_members)) s.kept s.kept (refl, refl)) k;
}

-- an operator with its operand, and the others
pub goes_on : (core : Core) (names : List Named) (start : Place) (x : Operation) (others : Operations) (old mid far : FirstRefusal) (a b c : Option Constant) → is_folded x.operator ≡ true → Finds (is_constant core names (expr_of x.operand)) (constant core names (expr_of x.operand)) old mid (Some b) → Reports (operation_means core start x.operator x.position.place a b) mid far c → (new : FirstRefusal) (given : Option (Option Constant)) → Finds (are_constant_operands core names others) (operations core names start (standing c) others) far new given → Finds (are_constant_operands core names (operation x.operator x.position (expr_of x.operand) others)) (operations core names start (standing a) (operation x.operator x.position (expr_of x.operand) others)) old new given
goes_on core names start x others old mid far a b c e h r new given k =
    let operand = constant core names (expr_of x.operand) in
    let m : Option Constant → Option Constant → Judgement Constant = operation_means core start x.operator x.position.place in
    let front = followed (standing a) (λ a. followed operand (m a)) in
    let whole = operations core names start front others in
    subst (λ t. Finds (t && (is_constant core names (expr_of x.operand) && are_constant_operands core names others)) whole old new given) (sym e)
    (subst (λ t. Finds (t && are_constant_operands core names others) whole old new given) (sym h.0)
    (finds_same (are_constant_operands core names others) whole (operations core names start (standing c) others) old far new given (operations_same core names start others front (standing c) old.kept far.kept (more_same operand m old mid far a b c h.1 r)) k))

-- where the rest is not constant, the whole is not
pub stops : (b c : Bool) (j k : Judgement Constant) (old mid : FirstRefusal) → Completes b j c k old mid → c ≡ false → b ≡ false
stops b c j k old mid h e = h.completes mid None e

-- constants have no such operator
pub not_folded : (core : Core) (names : List Named) (x : Operation) (others : Operations) → is_folded x.operator ≡ false → are_constant_operands core names (operation x.operator x.position (expr_of x.operand) others) ≡ false
not_folded core names x others e = subst (λ t. (t && (is_constant core names (expr_of x.operand) && are_constant_operands core names others)) ≡ false) (sym e) refl

both_false : (a b c : Bool) → b ≡ false → (a && (b && c)) ≡ false
both_false true b c e = subst (λ t. (t && c) ≡ false) (sym e) refl
both_false false b c e = refl

-- an operand is no constant
pub no_operand : (core : Core) (names : List Named) (x : Operation) (others : Operations) → is_constant core names (expr_of x.operand) ≡ false → are_constant_operands core names (operation x.operator x.position (expr_of x.operand) others) ≡ false
no_operand core names x others e = both_false (is_folded x.operator) (is_constant core names (expr_of x.operand)) (are_constant_operands core names others) e

-- an element is no constant
pub no_element : (core : Core) (names : List Named) (x : Element) (others : List Element) → is_constant_element core names (element_of x) ≡ false → are_constant_elements core names (elements_of (x ∷ others)) ≡ false
no_element core names x others e = subst (λ t. (t && are_constant_elements core names (elements_of others)) ≡ false) (sym e) refl

-- behind the last part
pub ends : {A : Type 0} (b : Bool) (j : Judgement Constant) (list : List A) (k : ℕ) (test : List A → Bool) (rest : List A → Judgement Constant) (old mid : FirstRefusal) (a : Option Constant) → length list ≤ k → test [] ≡ true → Finds true (rest []) mid mid (Some a) → Completes b j (test (drop k list)) (rest (drop k list)) old mid → Finds b j old mid (Some a)
ends b j list k test rest old mid a l e f h =
    h.completes mid (Some a) (subst (λ xs. Finds (test xs) (rest xs) mid mid (Some a)) (sym (drop_all k list l)) (subst (λ t. Finds t (rest []) mid mid (Some a)) (sym e) f))

-- an element of a set, and the others
pub gathers : (core : Core) (names : List Named) (x : Element) (others : List Element) (old mid far : FirstRefusal) (a b c : Option Constant) → Finds (is_constant_element core names (element_of x)) (element core names (element_of x)) old mid (Some b) → Reports (gathered_means core (start_of_element (element_of x)) a b) mid far c → (new : FirstRefusal) (given : Option (Option Constant)) → Finds (are_constant_elements core names (elements_of others)) (members core names (standing c) (elements_of others)) far new given → Finds (are_constant_elements core names (elements_of (x ∷ others))) (members core names (standing a) (elements_of (x ∷ others))) old new given
gathers core names x others old mid far a b c h r new given k =
    let part = element core names (element_of x) in
    let m : Option Constant → Option Constant → Judgement Constant = gathered_means core (start_of_element (element_of x)) in
    let front = followed (standing a) (λ a. followed part (m a)) in
    let es = elements_of others in
    subst (λ t. Finds (t && are_constant_elements core names es) (members core names front es) old new given) (sym h.0)
    (finds_same (are_constant_elements core names es) (members core names front es) (members core names (standing c) es) old far new given (members_same core names es front (standing c) old.kept far.kept (more_same part m old mid far a b c h.1 r)) k)

pub next_at : {A : Type 0} (list : List A) (k : ℕ) (d : A) → k < length list → drop k list ≡ get_or list k d ∷ drop (k + 1) list
next_at list k d h = rw add-one (drop-cons list k d h)

pub next_of : {A : Type 0} (list : List A) (k : ℕ) (x : A) → k < length list → x ≡ get_or list k x → drop k list ≡ x ∷ drop (k + 1) list
next_of list k x h e = next_at list k x h ∙ ap (λ y. y ∷ drop (k + 1) list) (sym e)

pub next_operation : (list : List Operation) (k : ℕ) (x : Operation) → k < length list → x ≡ get_or list k x → operations_of (drop k list) ≡ operation x.operator x.position (expr_of x.operand) (operations_of (drop (k + 1) list))
next_operation list k x h e = ap operations_of (next_of list k x h e)

-- ---- nodes

pub literal_finds : (core : Core) (names : List Named) (text : List ℕ) (p : Position) (ss : Selectors) (s : FirstRefusal) (given : Option (Option Constant)) → given ≡ literal_means text ss → Finds (is_constant core names (literal text p ss)) (constant core names (literal text p ss)) s s given
literal_finds core names text p no_selectors s given h = subst (Finds (is_constant core names (literal text p no_selectors)) (constant core names (literal text p no_selectors)) s s) (sym h) (refl, (refl, refl))
literal_finds core names text p (selectors x ss) s given h = subst (Finds (is_constant core names (literal text p (selectors x ss))) (constant core names (literal text p (selectors x ss))) s s) (sym h) refl

pub one_given : (list others : List Argument) (first : Argument) → list ≡ first ∷ others → length others ≡ 0 → arguments_of list ≡ arguments (argument_of first) no_arguments
one_given list others first e h = ap arguments_of (e ∙ ap (λ os. first ∷ os) (nil_from_length others h))
