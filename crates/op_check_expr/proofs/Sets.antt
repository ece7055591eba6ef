-- Elements of sets, one by one.
use Rattle.std.proofs.Common.{◌≡◌, Bool, ◌&&◌, List, [], ◌∷◌, ◌++◌, map, refl, ap, sym, ◌∙◌}
use Rattle.std.specs.List.{list_all}
use Rattle.op_core.specs.Expression.{Element, elements, element_of}
use Rattle.op_core.specs.Nodes.{elements_of}
use Rattle.op_core.specs.declared.expression.CoreElement.{CoreElement}
use Rattle.op_check_expr.specs.Constructors.{elements_from}

elements_said : (xs : List CoreElement) → elements_of xs ≡ elements_from (map element_of xs)
elements_said [] = refl
elements_said (x ∷ xs) = ap (elements (element_of x)) (elements_said xs)

pub more_elements : (xs : List CoreElement) (x : CoreElement) (t : Element) (others : List Element) → element_of x ≡ t → map element_of (xs ++ x ∷ []) ++ others ≡ map element_of xs ++ (t ∷ others)
more_elements [] x t others e = ap (λ t. t ∷ others) e
more_elements (y ∷ ys) x t others e = ap (λ r. element_of y ∷ r) (more_elements ys x t others e)

no_more : (xs : List Element) → xs ++ [] ≡ xs
no_more [] = refl
no_more (x ∷ xs) = ap (λ r. x ∷ r) (no_more xs)

pub all_elements : (xs : List CoreElement) (ts : List Element) → map element_of xs ++ [] ≡ ts → elements_of xs ≡ elements_from ts
all_elements xs ts e = elements_said xs ∙ ap elements_from (sym (no_more (map element_of xs)) ∙ e)

pub all_mapped : {A B : Type 0} (p : B → Bool) (f : A → B) (xs : List A) → list_all p (map f xs) ≡ list_all (λ x. p (f x)) xs
all_mapped p f [] = refl
all_mapped p f (x ∷ xs) = ap (λ b. p (f x) && b) (all_mapped p f xs)
