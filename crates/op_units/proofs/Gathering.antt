-- The names that units use in their interface parts: interface uses do not lead to a unit that is none of them.
use Rattle.std.proofs.Common.{◌≡◌, ℕ, zero, suc, ◌+◌, ◌<◌, ◌≤◌, Bool, true, false, ◌||◌, not, List, [], ◌∷◌, ◌++◌, length, map, position, slice_get, take, get_or, Option, Some, None, if◌then◌else◌, refl, sym, ap, subst, ◌∙◌, inl, inr, arith}
use Rattle.std.proofs.lemmas.Bool.{false≢true, not-true, or_left, or_parts, or_right}
use Rattle.std.proofs.lemmas.List.{map_more, take_all}
use Rattle.std.proofs.lemmas.List.Folds.{list_any-append}
use Rattle.std.proofs.lemmas.Option.{none-some, slice_get_within}
use Rattle.std.specs.List.{list_any}
use Rattle.std.specs.Option.{option_and_then}
use Rattle.std.specs.Str.{bytes_eq}
use Rattle.op_base.proofs.Tests.{or_second}
use Rattle.op_units.specs.Names.{AreAmong, AreGathered, Lack, is_among, is_listed, is_used, name_of}
use Rattle.op_units.specs.Walk.{AreOpen, Lead, is_there, goes_on, Walked, interface_of}
use Rattle.op_units.specs.declared.uses.Use.{Use}
use Rattle.op_units.proofs.Names.{among_cases, among_one, same_bytes, with_one}

-- ---- gathering

pub among_more : (list names new : List (List ℕ)) (name : List ℕ) → AreAmong list names → AreAmong names new → is_among name new ≡ true → AreAmong (list ++ name ∷ []) new
among_more list names new name all stay has other h = elim (among_cases other list (name ∷ []) h) [ inl e ↦ stay other (all other e) | inr e ↦ subst (λ n. is_among n new ≡ true) (sym (among_one other name e)) has ]

pub gathered_more : (lists : List (List (List ℕ))) (list names : List (List ℕ)) → AreGathered lists names → AreAmong list names → AreGathered (lists ++ list ∷ []) names
gathered_more lists list names all more name h = by_lists (is_listed name lists) refl
  where
    by_lists : (b : Bool) → is_listed name lists ≡ b → is_among name names ≡ true
    by_lists true e = all name e
    by_lists false e = more name (or_first (is_among name list) (or_second (is_listed name lists) (is_among name list || false) e (sym (list_any-append (is_among name) lists (list ∷ [])) ∙ h)))
      where
        or_first : (b : Bool) → (b || false) ≡ true → b ≡ true
        or_first true f = f
        or_first false f = f

-- ---- the names of a unit's uses

pub names_more : (list added names new : List (List ℕ)) (used key copy : List ℕ) → AreAmong list names → AreAmong names new → new ≡ (if is_among key names then names else names ++ key ∷ []) → key ≡ used → copy ≡ used → added ≡ list ++ copy ∷ [] → AreAmong added new
names_more list added names new used key copy all stay is k c a =
    subst (λ xs. AreAmong xs new) (sym a) (among_more list names new copy all stay (subst (λ n. is_among n new ≡ true) (k ∙ sym c) (subst (λ xs. is_among key xs ≡ true) (sym is) (with_one names key (is_among key names) refl).1)))

pub list_more : (list added : List (List ℕ)) (copy : List ℕ) (uses : List Use) (i : ℕ) (used : Use) → list ≡ map name_of (take i uses) → i < length uses → used ≡ get_or uses i used → copy ≡ used.name → added ≡ list ++ copy ∷ [] → added ≡ map name_of (take (i + 1) uses)
list_more list added copy uses i used h w is c a =
    a ∙ ap (λ n. list ++ n ∷ []) c ∙ ap (λ xs. xs ++ used.name ∷ []) h ∙ ap (λ u. map name_of (take i uses) ++ name_of u ∷ []) is ∙ sym (map_more name_of uses i used w)

pub lists_more : (lists self after : List (List (List ℕ))) (list given : List (List ℕ)) (uses : List Use) (i : ℕ) → list ≡ map name_of (take i uses) → length uses ≤ i → lists ≡ self → given ≡ list → after ≡ lists ++ given ∷ [] → after ≡ self ++ map name_of uses ∷ []
lists_more lists self after list given uses i h w l g a =
    a ∙ ap (λ xs. xs ++ given ∷ []) l ∙ ap (λ x. self ++ x ∷ []) (g ∙ h ∙ ap (map name_of) (take_all i uses w))

-- ---- a name that none of them is

pub lacks : (lists self : List (List (List ℕ))) (names : List (List ℕ)) (unit : List ℕ) (uses : List Use) (known used : Bool) → AreGathered lists names → lists ≡ self → known ≡ is_among unit names → known ≡ false → used ≡ is_used unit uses → not used ≡ true → Lack self unit uses
lacks lists self names unit uses known used all l k n u o = (subst (λ xs. is_listed unit xs ≡ false) l (by_lists (is_listed unit lists) refl), sym u ∙ not-true used o)
  where
    by_lists : (b : Bool) → is_listed unit lists ≡ b → is_listed unit lists ≡ false
    by_lists true e = absurd (false≢true (sym n ∙ k ∙ all unit e))
    by_lists false e = e

-- ---- what leads to a unit

there_listed : (test : List (List ℕ) → Bool) (lists : List (List (List ℕ))) (k : ℕ) (list : List (List ℕ)) → slice_get lists k ≡ Some list → test list ≡ true → list_any test lists ≡ true
there_listed test [] k list h t = absurd (omega (arith, slice_get_within [] k list h))
there_listed test (l ∷ lists) zero list h t = or_left (test l) (list_any test lists) (subst (λ x. test x ≡ true) (sym (same h)) t)
  where
    same : Some l ≡ Some list → l ≡ list
    same e = cc
there_listed test (l ∷ lists) (suc k) list h t = or_right (test l) (list_any test lists) (there_listed test lists k list h t)

module _ (units : List (List ℕ)) (interfaces : List (List (List ℕ))) where
  interface_listed : (a name : List ℕ) (names : List (List ℕ)) → interface_of units interfaces a ≡ Some names → is_among name names ≡ true → is_listed name interfaces ≡ true
  interface_listed a name names i t = at (position (bytes_eq a) units) i
    where
      at : (o : Option ℕ) → option_and_then (λ k. slice_get interfaces k) o ≡ Some names → is_listed name interfaces ≡ true
      at None h = absurd (none-some names h)
      at (Some k) h = there_listed (is_among name) interfaces k names h t

  -- only from the unit itself
  lead_itself : {a unit : List ℕ} → is_listed unit interfaces ≡ false → Lead units interfaces a unit → a ≡ unit
  lead_itself none is_there = refl
  lead_itself none (goes_on {a = a} b names i t more) = absurd (false≢true (sym none ∙ interface_listed a _ names i (subst (λ n. is_among n names ≡ true) (lead_itself none more) t)))

pub lacked_open : (w : Walked) (unit : List ℕ) (uses : List Use) → Lack w.interfaces unit uses → AreOpen w unit uses
lacked_open w unit [] l = tt
lacked_open w unit (u ∷ us) (none, others) =
    let parts = or_parts (bytes_eq unit u.name) (is_used unit us) others in
    (λ leads. false≢true (sym parts.0 ∙ subst (λ n. bytes_eq unit n ≡ true) (sym (lead_itself w.units w.interfaces none leads)) (same_bytes unit)), lacked_open w unit us (none, parts.1))
