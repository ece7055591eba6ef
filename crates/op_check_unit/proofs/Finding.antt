-- Numbers that are found by names.
use Rattle.std.proofs.Common.{◌≡◌, ℕ, zero, suc, ◌+◌, ◌<◌, ◌≤◌, Bool, true, false, if◌then◌else◌, List, [], ◌∷◌, ◌++◌, get_or, length, map, nat_lt, replicate, slice_get, slice_set, take, Option, Some, None, Vec, refl, sym, ap, subst, ◌∙◌, arith}
use Rattle.std.proofs.lemmas.List.{take_more}
use Rattle.std.specs.Map.{lookup}
use Rattle.std.specs.Option.{option_and_then, option_flatten, option_map}
use Rattle.std.specs.Str.{str_eq_ignore_ascii_case}
use Rattle.std.specs.declared.alloc.Global.{Global}
use Rattle.indexmap.specs.IndexMap.{IndexMap, IsEmpty}
use Rattle.op_check_unit.specs.Interfaces.{number_from, unit_named}
use Rattle.op_check_unit.specs.Numbering.{Finds, Found, Notes, earliest, exported_name, first_spelled, is_spelled, same, unit_in, unit_name}
use Rattle.op_check_unit.specs.Outlines.{is_blank}
use Rattle.op_check_unit.specs.Uses.{exports_of}
use Rattle.op_check_unit.specs.declared.uses.Export.{Export}
use Rattle.op_tree.specs.File.{UnitFile, file_of, unit_of}
use Rattle.op_tree.specs.declared.file.Tree.{Tree}
use Rattle.op_tree.specs.declared.file.Tree.TheVariants as tree
use Rattle.op_tree.specs.declared.position.Name.{Name}
use Rattle.op_core.specs.FieldNames.{lower}

-- ---- none yet

pub none_yet : {A S : Type 0} (name : A → Option (List ℕ)) (xs : List A) (numbers : IndexMap (Vec ℕ Global) ℕ S) → ((letters : List ℕ) → first_spelled name letters xs ≡ None) → IsEmpty numbers → Finds name xs numbers
none_yet name xs numbers none empty key = ap (λ (es : List (Vec ℕ Global × ℕ)). lookup (same key) es) empty ∙ sym (none key.items)

pub none_exported : (n : ℕ) (letters : List ℕ) → first_spelled exported_name letters (replicate n None) ≡ None
none_exported zero letters = refl
none_exported (suc n) letters = ap (option_map suc) (none_exported n letters)

-- ---- a name more

pub blank_is : (slot : Option (Option Export)) → is_blank slot ≡ true → slot ≡ Some None
blank_is None e = absurd (cc)
blank_is (Some None) e = refl
blank_is (Some (Some x)) e = absurd (cc)

one_further : (k j : ℕ) (b : Bool) → nat_lt j k ≡ b → suc (if b then j else k) ≡ earliest (suc k) (Some (suc j))
one_further k j true e = grind (arith, e)
one_further k j false e = grind (arith, e)

earliest_further : (k : ℕ) (o : Option ℕ) → suc (earliest k o) ≡ earliest (suc k) (option_map suc o)
earliest_further k None = refl
earliest_further k (Some j) = one_further k j (nat_lt j k) refl

-- one in front, where the rest has it
in_front : (b c : Bool) (k : ℕ) (o whole : Option ℕ) → whole ≡ (if b then Some (earliest k o) else o) → (if c then Some 0 else option_map suc whole) ≡ (if b then Some (earliest (suc k) (if c then Some 0 else option_map suc o)) else (if c then Some 0 else option_map suc o))
in_front true true k o whole e = grind arith
in_front true false k o whole e = ap (option_map suc) e ∙ ap Some (earliest_further k o)
in_front false true k o whole e = refl
in_front false false k o whole e = ap (option_map suc) e

first_one : (b : Bool) (o : Option ℕ) → (if b then Some 0 else o) ≡ (if b then Some (earliest 0 o) else o)
first_one true None = refl
first_one true (Some j) = grind arith
first_one false o = refl

one_behind : {A : Type 0} (name : A → Option (List ℕ)) (letters : List ℕ) (xs : List A) (x : A) → first_spelled name letters (xs ++ x ∷ []) ≡ (if is_spelled letters (name x) then Some (earliest (length xs) (first_spelled name letters xs)) else first_spelled name letters xs)
one_behind name letters [] x = first_one (is_spelled letters (name x)) None
one_behind name letters (y ∷ xs) x = in_front (is_spelled letters (name x)) (is_spelled letters (name y)) (length xs) (first_spelled name letters xs) (first_spelled name letters (xs ++ x ∷ [])) (one_behind name letters xs x)

nameless : {A : Type 0} (name : A → Option (List ℕ)) (letters : List ℕ) (y d : A) (o : Option ℕ) → y ≡ d → name d ≡ None → (if is_spelled letters (name y) then Some 0 else o) ≡ o
nameless name letters y d o e none = ap (λ n. if is_spelled letters n then Some 0 else o) (ap name e ∙ none)

one_set : {A : Type 0} (name : A → Option (List ℕ)) (letters : List ℕ) (xs : List A) (k : ℕ) (x d : A) → slice_get xs k ≡ Some d → name d ≡ None → first_spelled name letters (slice_set xs k x) ≡ (if is_spelled letters (name x) then Some (earliest k (first_spelled name letters xs)) else first_spelled name letters xs)
one_set name letters [] k x d e none = absurd (cc)
one_set name letters (y ∷ xs) zero x d e none =
    let rest = option_map suc (first_spelled name letters xs) in
    let is : y ≡ d = cc in
    first_one (is_spelled letters (name x)) rest
    ∙ ap (λ o. if is_spelled letters (name x) then Some (earliest 0 o) else o) (sym (nameless name letters y d rest is none))
one_set name letters (y ∷ xs) (suc k) x d e none = in_front (is_spelled letters (name x)) (is_spelled letters (name y)) k (first_spelled name letters xs) (first_spelled name letters (slice_set xs k x)) (one_set name letters xs k x d e none)

noted_by : {A S : Type 0} (name : A → Option (List ℕ)) (xs ys : List A) (k : ℕ) (x : A) (old new : IndexMap (Vec ℕ Global) ℕ S) → ((letters : List ℕ) → first_spelled name letters ys ≡ (if is_spelled letters (name x) then Some (earliest k (first_spelled name letters xs)) else first_spelled name letters xs)) → Finds name xs old → Notes old new (name x) k → Finds name ys new
noted_by name xs ys k x old new one finds notes key =
    notes key ∙ ap (λ o. if is_spelled key.items (name x) then Some (earliest k o) else o) (finds key) ∙ sym (one key.items)

-- the name of one that had none
pub noted_at : {A S : Type 0} (name : A → Option (List ℕ)) (xs : List A) (k : ℕ) (x d : A) (old new : IndexMap (Vec ℕ Global) ℕ S) → slice_get xs k ≡ Some d → name d ≡ None → Finds name xs old → Notes old new (name x) k → Finds name (slice_set xs k x) new
noted_at name xs k x d old new at none finds notes = noted_by name xs (slice_set xs k x) k x old new (λ letters. one_set name letters xs k x d at none) finds notes

front_length : {A : Type 0} (xs : List A) (k : ℕ) → k ≤ length xs → length (take k xs) ≡ k
front_length [] zero le = refl
front_length [] (suc k) le = absurd (omega (arith, le))
front_length (x ∷ xs) zero le = refl
front_length (x ∷ xs) (suc k) le = ap suc (front_length xs k (omega (arith, le)))

-- the names of the first ones, and of one more
pub noted_next : {A S : Type 0} (name : A → Option (List ℕ)) (xs : List A) (k : ℕ) (x : A) (old new : IndexMap (Vec ℕ Global) ℕ S) → k < length xs → x ≡ get_or xs k x → Finds name (take k xs) old → Notes old new (name x) k → Finds name (take (k + 1) xs) new
noted_next name xs k x old new lt is finds notes =
    let next : take (k + 1) xs ≡ take k xs ++ x ∷ [] = take_more xs k x lt ∙ ap (λ x. take k xs ++ x ∷ []) (sym is) in
    subst (λ ys. Finds name ys new) (sym next)
    (noted_by name (take k xs) (take k xs ++ x ∷ []) k x old new
    (λ letters. one_behind name letters (take k xs) x ∙ ap (λ n. if is_spelled letters (name x) then Some (earliest n (first_spelled name letters (take k xs))) else first_spelled name letters (take k xs)) (front_length xs k (omega (arith, lt))))
    finds notes)

-- ---- what is found

number_is : {A S : Type 0} (name : A → Option (List ℕ)) (xs : List A) (numbers : IndexMap (Vec ℕ Global) ℕ S) (letters : List ℕ) (k : Option ℕ) → Finds name xs numbers → Found numbers letters k → k ≡ first_spelled name letters xs
number_is name xs numbers letters k finds f = f.2 ∙ finds f.0 ∙ ap (λ letters. first_spelled name letters xs) f.1

-- the same letters, and the same number
pub found_as : {S : Type 0} (numbers : IndexMap (Vec ℕ Global) ℕ S) (text name : List ℕ) (k other : Option ℕ) → Found numbers (lower text) k → text ≡ name → k ≡ other → Found numbers (lower name) other
found_as numbers text name k other f t o = (f.0, f.1 ∙ ap lower t, sym o ∙ f.2)

-- what stands at a number, if anything
abbrev at : {A B : Type 0} → (A → Option B) → List A → Option ℕ → Option B
at f xs None = None
at f xs (Some k) = option_and_then f (slice_get xs k)

further : {A B : Type 0} (f : A → Option B) (x : A) (xs : List A) (o : Option ℕ) → at f xs o ≡ at f (x ∷ xs) (option_map suc o)
further f x xs None = refl
further f x xs (Some k) = refl

either : {A B : Type 0} (f : A → Option B) (x : A) (xs : List A) (b : Bool) (o : Option ℕ) → (if b then f x else at f xs o) ≡ at f (x ∷ xs) (if b then Some 0 else option_map suc o)
either f x xs true o = refl
either f x xs false o = further f x xs o

abbrev slot : Option Export → Option Export
slot e = e

exports_at : (es : List (Option Export)) (n : Name) → at slot es (first_spelled exported_name (lower n.text) es) ≡ exports_of es n
exports_at [] n = refl
exports_at (None ∷ es) n = sym (further slot None es (first_spelled exported_name (lower n.text) es)) ∙ exports_at es n
exports_at (Some e ∷ es) n =
    sym (either slot (Some e) es (str_eq_ignore_ascii_case e.unit n.text) (first_spelled exported_name (lower n.text) es)) ∙ ap (λ o. if str_eq_ignore_ascii_case e.unit n.text then Some e else o) (exports_at es n)

flat : (o : Option (Option Export)) → option_flatten o ≡ option_and_then slot o
flat None = refl
flat (Some o) = refl

pub export_is : {S : Type 0} (es view : List (Option Export)) (n : Name) (numbers : IndexMap (Vec ℕ Global) ℕ S) (k : ℕ) (e : Option Export) → Finds exported_name es numbers → Found numbers (lower n.text) (Some k) → es ≡ view → e ≡ option_flatten (slice_get es k) → e ≡ exports_of view n
export_is es view n numbers k e finds f same is =
    is ∙ flat (slice_get es k) ∙ ap (at slot es) (number_is exported_name es numbers (lower n.text) (Some k) finds f) ∙ exports_at es n ∙ ap (λ es. exports_of es n) same

pub no_export_is : {S : Type 0} (es view : List (Option Export)) (n : Name) (numbers : IndexMap (Vec ℕ Global) ℕ S) → Finds exported_name es numbers → Found numbers (lower n.text) None → es ≡ view → None ≡ exports_of view n
no_export_is es view n numbers finds f same =
    ap (at slot es) (number_is exported_name es numbers (lower n.text) None finds f) ∙ exports_at es n ∙ ap (λ es. exports_of es n) same

abbrev pub tree_name : Tree → Option (List ℕ)
tree_name t = unit_name (file_of t)

abbrev pub tree_unit : Tree → Option UnitFile
tree_unit t = unit_in (file_of t)

units_at : (ts : List Tree) (name : List ℕ) → at tree_unit ts (first_spelled tree_name (lower name) ts) ≡ unit_named (map file_of ts) name
units_at [] name = refl
units_at (tree.Program p ∷ ts) name = sym (further tree_unit (tree.Program p) ts (first_spelled tree_name (lower name) ts)) ∙ units_at ts name
units_at (tree.Unit u ∷ ts) name =
    sym (either tree_unit (tree.Unit u) ts (str_eq_ignore_ascii_case u.name.text name) (first_spelled tree_name (lower name) ts)) ∙ ap (λ o. if str_eq_ignore_ascii_case u.name.text name then Some (unit_of u) else o) (units_at ts name)

pub unit_is : {S : Type 0} (ts : List Tree) (name : List ℕ) (numbers : IndexMap (Vec ℕ Global) ℕ S) (k : ℕ) → Finds tree_name ts numbers → Found numbers (lower name) (Some k) → option_and_then tree_unit (slice_get ts k) ≡ unit_named (map file_of ts) name
unit_is ts name numbers k finds f = ap (at tree_unit ts) (number_is tree_name ts numbers (lower name) (Some k) finds f) ∙ units_at ts name

pub no_unit_is : {S : Type 0} (ts : List Tree) (name : List ℕ) (numbers : IndexMap (Vec ℕ Global) ℕ S) → Finds tree_name ts numbers → Found numbers (lower name) None → None ≡ unit_named (map file_of ts) name
no_unit_is ts name numbers finds f = ap (at tree_unit ts) (number_is tree_name ts numbers (lower name) None finds f) ∙ units_at ts name

counted : (k : ℕ) (b : Bool) (o : Option ℕ) → (if b then Some k else option_map (λ j. (k + 1) + j) o) ≡ option_map (λ j. k + j) (if b then Some 0 else option_map suc o)
counted k true o = ap Some (omega arith)
counted k false None = refl
counted k false (Some j) = ap Some (omega arith)

numbers_at : (k : ℕ) (order : List (List ℕ)) (name : List ℕ) → number_from k order name ≡ option_map (λ j. k + j) (first_spelled Some (lower name) order)
numbers_at k [] name = refl
numbers_at k (n ∷ order) name =
    ap (λ o. if str_eq_ignore_ascii_case n name then Some k else o) (numbers_at (k + 1) order name) ∙ counted k (str_eq_ignore_ascii_case n name) (first_spelled Some (lower name) order)

from_zero : (o : Option ℕ) → o ≡ option_map (λ j. 0 + j) o
from_zero None = refl
from_zero (Some j) = ap Some (omega arith)

pub unit_number_is : {S : Type 0} (order view : List (List ℕ)) (name : List ℕ) (numbers : IndexMap (Vec ℕ Global) ℕ S) (k : Option ℕ) → Finds Some order numbers → Found numbers (lower name) k → order ≡ view → k ≡ number_from 0 view name
unit_number_is order view name numbers k finds f same =
    number_is Some order numbers (lower name) k finds f ∙ from_zero (first_spelled Some (lower name) order) ∙ sym (numbers_at 0 order name) ∙ ap (λ order. number_from 0 order name) same
