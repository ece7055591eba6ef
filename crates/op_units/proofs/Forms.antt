-- The two forms that the grammar has and the profile leaves out are found among the tokens.
use Rattle.std.proofs.Common.{◌≡◌, ℕ, zero, suc, ◌-◌, Bool, true, false, ◌||◌, List, [], ◌∷◌, ◌++◌, Option, Some, None, is_some, if◌then◌else◌, length, nat_eq, arith, refl, sym, ap, subst, ◌∙◌, inl, inr}
use Rattle.std.proofs.Math.Dec.{eqb-suc-zero}
use Rattle.std.specs.Option.{option_and_then, option_map}
use Rattle.op_base.specs.declared.rule.Refusal.{Refusal}
use Rattle.op_parse_code.specs.GrammarForm.{GrammarForm, HasGrammarForm, is_slash as slash, is_fraction_width as width}
use Rattle.op_scan.specs.declared.token.Token.{Token}
use Rattle.op_scan.specs.declared.token.TokenKind.{TokenKind}
use Rattle.op_scan.specs.declared.token.TokenKind.TheVariants as kind
use Rattle.op_tree.specs.Expression.{Expression, Operations, Elements, Element, Designator, Root, Selectors, Selector, Expressions, Arguments, Argument}
use Rattle.op_tree.specs.ExpressionGrammar.{IsChain, IsOperand, AreOperations, IsFactor, IsDesignator, IsRoot, AreSelectors, IsSelector, AreExpressions, AreElements, IsElement, AreArguments, IsArgument, is_chain, is_simple, is_term, is_factor, are_no_operations, are_operations, is_prefixed, is_number, is_nil, is_empty_set, is_set, is_literal, is_designated, is_inherited, is_designator, is_named, is_string, is_bracketed, are_no_selectors, are_selectors, is_member, is_index, is_empty_call, is_call, are_one_expression, are_expressions, are_one_element, are_elements, is_one, is_range, are_one_argument, are_arguments, is_value, is_padded, is_rounded}
use Rattle.op_tree.specs.Operator.{operator_of, prefix_operator_of}
use Rattle.op_tree.specs.Terminal.{Terminal, ◌at◌, terminal_of, terminals}
use Rattle.op_tree.specs.declared.operator.Level.{Level}
use Rattle.op_tree.specs.declared.operator.Operator.{Operator}
use Rattle.op_tree.specs.declared.operator.PrefixOperator.{PrefixOperator}
use Rattle.op_tree.specs.declared.position.Position.{Position}
use Rattle.op_units.specs.Forms.{FirstForm, FirstShown, HasForm, HasNoForm, IsOfForm, LeadsToColon, ShownForm, closes, colon_behind, colon_by, colon_within, comma_within, form_at, form_by, is_fraction_width, is_operand, is_slash, is_there, opens, part, part_by, share_of}
use Rattle.op_units.specs.Unbuilt.{FirstUnbuilt, IsBuilt, named}
use Rattle.op_units.specs.declared.form.Share.{Share}
use Rattle.op_units.specs.declared.form.Share.TheVariants.{Opens, Closes, Comma, Colon, Part, Nothing}

-- ---- expressions lead on

operator_part : (k : TokenKind) (o : Operator) → operator_of k ≡ Some o → share_of k ≡ Part
operator_part kind.Equal o e = refl
operator_part kind.NotEqual o e = refl
operator_part kind.Less o e = refl
operator_part kind.Greater o e = refl
operator_part kind.LessEqual o e = refl
operator_part kind.GreaterEqual o e = refl
operator_part kind.In_ o e = refl
operator_part kind.Is o e = refl
operator_part kind.Plus o e = refl
operator_part kind.Minus o e = refl
operator_part kind.Or o e = refl
operator_part kind.Xor o e = refl
operator_part kind.Star o e = refl
operator_part kind.Slash o e = refl
operator_part kind.Div o e = refl
operator_part kind.Mod_ o e = refl
operator_part kind.And o e = refl
operator_part kind.Shl o e = refl
operator_part kind.Shr o e = refl
operator_part kind.As_ o e = refl
operator_part other o e = cc

prefix_part : (k : TokenKind) (o : PrefixOperator) → prefix_operator_of k ≡ Some o → share_of k ≡ Part
prefix_part kind.Not o e = refl
prefix_part kind.Plus o e = refl
prefix_part kind.Minus o e = refl
prefix_part other o e = cc

-- the tokens of a part of an expression lead to the colon to which those behind it lead
mutual
  chain : {l : Level} {d n : ℕ} {e : Expression} {ks r q : List Terminal} → IsChain l d e ks r → LeadsToColon n r q → LeadsToColon n ks q
  chain (is_chain a b e) h = operand a (operations b h)

  operand : {l : Level} {d n : ℕ} {e : Expression} {ks r q : List Terminal} → IsOperand l d e ks r → LeadsToColon n r q → LeadsToColon n ks q
  operand (is_simple c) h = chain c h
  operand (is_term c) h = chain c h
  operand (is_factor f) h = factor f h

  operations : {l : Level} {d n : ℕ} {os : Operations} {ks r q : List Terminal} → AreOperations l d os ks r → LeadsToColon n r q → LeadsToColon n ks q
  operations are_no_operations h = h
  operations (are_operations {k = k} {o = o} e f a b) h = part (operator_part k o e) (operand a (operations b h))

  factor : {d n : ℕ} {e : Expression} {ks r q : List Terminal} → IsFactor d e ks r → LeadsToColon n r q → LeadsToColon n ks q
  factor (is_prefixed {k = k} {o = o} e f) h = part (prefix_part k o e) (factor f h)
  factor is_number h = part refl h
  factor is_nil h = part refl h
  factor is_empty_set h = opens refl (closes refl h)
  factor (is_set es) h = opens refl (elements es (closes refl h))
  factor (is_literal ss) h = part refl (selectors ss h)
  factor (is_designated g) h = designator g h
  factor (is_inherited g) h = part refl (designator g h)

  designator : {d n : ℕ} {g : Designator} {ks r q : List Terminal} → IsDesignator d g ks r → LeadsToColon n r q → LeadsToColon n ks q
  designator (is_designator a b) h = root a (selectors b h)

  root : {d n : ℕ} {a : Root} {ks r q : List Terminal} → IsRoot d a ks r → LeadsToColon n r q → LeadsToColon n ks q
  root is_named h = part refl h
  root is_string h = part refl h
  root (is_bracketed c) h = opens refl (chain c (closes refl h))

  selectors : {d n : ℕ} {ss : Selectors} {ks r q : List Terminal} → AreSelectors d ss ks r → LeadsToColon n r q → LeadsToColon n ks q
  selectors are_no_selectors h = h
  selectors (are_selectors a b) h = selector a (selectors b h)

  selector : {d n : ℕ} {s : Selector} {ks r q : List Terminal} → IsSelector d s ks r → LeadsToColon n r q → LeadsToColon n ks q
  selector is_member h = part refl (part refl h)
  selector (is_index es) h = opens refl (expressions es (closes refl h))
  selector is_empty_call h = opens refl (closes refl h)
  selector (is_call as_) h = opens refl (arguments as_ (closes refl h))

  -- commas and colons stand within brackets
  expressions : {d n : ℕ} {es : Expressions} {ks r q : List Terminal} → AreExpressions d es ks r → LeadsToColon (suc n) r q → LeadsToColon (suc n) ks q
  expressions (are_one_expression c) h = chain c h
  expressions (are_expressions c es) h = chain c (comma_within refl (expressions es h))

  elements : {d n : ℕ} {es : Elements} {ks r q : List Terminal} → AreElements d es ks r → LeadsToColon (suc n) r q → LeadsToColon (suc n) ks q
  elements (are_one_element e) h = element e h
  elements (are_elements e es) h = element e (comma_within refl (elements es h))

  element : {d n : ℕ} {e : Element} {ks r q : List Terminal} → IsElement d e ks r → LeadsToColon n r q → LeadsToColon n ks q
  element (is_one c) h = chain c h
  element (is_range a b) h = chain a (part refl (chain b h))

  arguments : {d n : ℕ} {as_ : Arguments} {ks r q : List Terminal} → AreArguments d as_ ks r → LeadsToColon (suc n) r q → LeadsToColon (suc n) ks q
  arguments (are_one_argument a) h = argument a h
  arguments (are_arguments a as_) h = argument a (comma_within refl (arguments as_ h))

  argument : {d n : ℕ} {a : Argument} {ks r q : List Terminal} → IsArgument d a ks r → LeadsToColon (suc n) r q → LeadsToColon (suc n) ks q
  argument (is_value c) h = chain c h
  argument (is_padded a b) h = chain a (colon_within refl (chain b h))
  argument (is_rounded a b c) h = chain a (colon_within refl (chain b (colon_within refl (chain c h))))

-- a form of the grammar is shown by its tokens
shows : {feature : ℕ} {ks q : List Terminal} → GrammarForm feature ks q → ShownForm feature ks q
shows slash = is_slash
shows (width e) = is_fraction_width (chain e (is_there refl))

-- ---- the search for a colon

-- what is found is one
abbrev Sound : ℕ → List Terminal → Option (List Terminal) → Type 0
Sound n ks None = Unit {0}
Sound n ks (Some q) = LeadsToColon n ks q

-- a bracket is open
some_open : {A : Type 0} (n : ℕ) (x y : A) → (if nat_eq (suc n) 0 then x else y) ≡ y
some_open n x y = ap (λ b. if b then x else y) (eqb-suc-zero n)

closed : (n : ℕ) (ks : List Terminal) (f : ℕ → Option (List Terminal)) → colon_by Closes (suc n) ks f ≡ f n
closed n ks f = some_open n None (f (suc n - 1)) ∙ ap f (omega arith)

sound_further : {n m : ℕ} {t : Terminal} {r : List Terminal} (o : Option (List Terminal)) → ((q : List Terminal) → LeadsToColon m r q → LeadsToColon n (t ∷ r) q) → Sound m r o → Sound n (t ∷ r) o
sound_further None f h = tt
sound_further (Some q) f h = f q h

sound_by : (n : ℕ) (k : TokenKind) (p : Position) (r : List Terminal) (s : Share) → share_of k ≡ s → ((m : ℕ) → Sound m r (colon_behind m r)) → Sound n (k at p ∷ r) (colon_by s n (k at p ∷ r) (λ m. colon_behind m r))
sound_by n k p r Opens e h = sound_further (colon_behind (suc n) r) (λ q l. opens e l) (h (suc n))
sound_by zero k p r Closes e h = tt
sound_by (suc n) k p r Closes e h = subst (Sound (suc n) (k at p ∷ r)) (sym (closed n (k at p ∷ r) (λ m. colon_behind m r))) (sound_further (colon_behind n r) (λ q l. closes e l) (h n))
sound_by zero k p r Comma e h = tt
sound_by (suc n) k p r Comma e h = subst (Sound (suc n) (k at p ∷ r)) (sym (some_open n None (colon_behind (suc n) r))) (sound_further (colon_behind (suc n) r) (λ q l. comma_within e l) (h (suc n)))
sound_by zero k p r Colon e h = is_there e
sound_by (suc n) k p r Colon e h = subst (Sound (suc n) (k at p ∷ r)) (sym (some_open n (Some (k at p ∷ r)) (colon_behind (suc n) r))) (sound_further (colon_behind (suc n) r) (λ q l. colon_within e l) (h (suc n)))
sound_by n k p r Part e h = sound_further (colon_behind n r) (λ q l. part e l) (h n)
sound_by n k p r Nothing e h = tt

sound : (n : ℕ) (ks : List Terminal) → Sound n ks (colon_behind n ks)
sound n [] = tt
sound n (t ∷ r) = sound_by n t.kind t.position r (share_of t.kind) refl (λ m. sound m r)

-- and each is found
complete : {n : ℕ} {ks q : List Terminal} → LeadsToColon n ks q → colon_behind n ks ≡ Some q
complete (is_there {k = k} {p = p} {r = r} e) = ap (λ s. colon_by s 0 (k at p ∷ r) (λ m. colon_behind m r)) e
complete (opens {n = n} {k = k} {p = p} {ks = ks} e h) = ap (λ s. colon_by s n (k at p ∷ ks) (λ m. colon_behind m ks)) e ∙ complete h
complete (closes {n = n} {k = k} {p = p} {ks = ks} e h) = ap (λ s. colon_by s (suc n) (k at p ∷ ks) (λ m. colon_behind m ks)) e ∙ closed n (k at p ∷ ks) (λ m. colon_behind m ks) ∙ complete h
complete (part {n = n} {k = k} {p = p} {ks = ks} e h) = ap (λ s. colon_by s n (k at p ∷ ks) (λ m. colon_behind m ks)) e ∙ complete h
complete (comma_within {n = n} {k = k} {p = p} {ks = ks} e h) = ap (λ s. colon_by s (suc n) (k at p ∷ ks) (λ m. colon_behind m ks)) e ∙ some_open n None (colon_behind (suc n) ks) ∙ complete h
complete (colon_within {n = n} {k = k} {p = p} {ks = ks} e h) = ap (λ s. colon_by s (suc n) (k at p ∷ ks) (λ m. colon_behind m ks)) e ∙ some_open n (Some (k at p ∷ ks)) (colon_behind (suc n) ks) ∙ complete h

-- ---- at the front of the tokens

abbrev SoundForm : List Terminal → Option (ℕ × List Terminal) → Type 0
SoundForm ks None = Unit {0}
SoundForm ks (Some x) = ShownForm x.0 ks x.1

width_sound : (p : Position) (r : List Terminal) (o : Option (List Terminal)) → Sound 0 r o → SoundForm (kind.Colon at p ∷ r) (option_map (λ q. (35, q)) o)
width_sound p r None h = tt
width_sound p r (Some q) h = is_fraction_width h

form_sound_by : (k : TokenKind) (p : Position) (r : List Terminal) → SoundForm (k at p ∷ r) (form_by k (k at p ∷ r) r)
form_sound_by kind.Slash p r = is_slash
form_sound_by kind.Colon p r = width_sound p r (colon_behind 0 r) (sound 0 r)
form_sound_by other p r = tt

form_sound : (ks : List Terminal) → SoundForm ks (form_at ks)
form_sound [] = tt
form_sound (t ∷ r) = form_sound_by t.kind t.position r

form_complete : {feature : ℕ} {ks q : List Terminal} → ShownForm feature ks q → form_at ks ≡ Some (feature, q)
form_complete is_slash = refl
form_complete (is_fraction_width h) = ap (option_map (λ q. (35, q))) (complete h)

-- ---- in the tokens

behind : {t u : Terminal} {ks ls : List Terminal} → t ∷ ks ≡ u ∷ ls → ks ≡ ls
behind e = cc

some_token : {feature : ℕ} {ks : List Terminal} → ShownForm feature ks [] → ⊥
some_token (is_fraction_width h) = nowhere h refl
  where
    nowhere : {n : ℕ} {ks q : List Terminal} → LeadsToColon n ks q → q ≡ [] → ⊥
    nowhere (is_there e) f = cc
    nowhere (opens e h) f = nowhere h f
    nowhere (closes e h) f = nowhere h f
    nowhere (part e h) f = nowhere h f
    nowhere (comma_within e h) f = nowhere h f
    nowhere (colon_within e h) f = nowhere h f

-- none has begun so far: what has not been looked at has all of them
abbrev pub AllBehind : List Terminal → List Terminal → Type 0
AllBehind ks rest = (seen : List Terminal) × (ks ≡ seen ++ rest) × ((feature : ℕ) (told : List Terminal) → HasForm feature ks told → HasForm feature rest told)

pub all_of : (ks : List Terminal) → AllBehind ks ks
all_of ks = ([], refl, λ feature told h. h)

none_by : (o : Option (ℕ × List Terminal)) (ks : List Terminal) → SoundForm ks o → option_and_then named o ≡ None → o ≡ None
none_by None ks h e = refl
none_by (Some (feature, [])) ks h e = absurd (some_token h)
none_by (Some (feature, t ∷ ts)) ks h e = cc

not_here : {feature : ℕ} {t : Terminal} {r told : List Terminal} → option_and_then named (form_at (t ∷ r)) ≡ None → HasForm feature (t ∷ r) told → HasForm feature r told
not_here {feature = feature} {t = t} {r = r} {told = told} e ([], form, is, h) = absurd (never (sym (none_by (form_at (t ∷ r)) (t ∷ r) (form_sound (t ∷ r)) e) ∙ form_complete (subst (λ ks. ShownForm feature ks told) (sym is) h)))
  where
    never : {A : Type 0} {a : A} → None ≡ Some a → ⊥
    never e = cc
not_here e (x ∷ seen, form, is, h) = (seen, form, behind is, h)

pub goes_on : (ks r : List Terminal) (t : Terminal) → option_and_then named (form_at (t ∷ r)) ≡ None → AllBehind ks (t ∷ r) → AllBehind ks r
goes_on ks r t e (seen, is, h) = (seen ++ t ∷ [], is ∙ moved seen, λ feature told g. not_here e (h feature told g))
  where
    moved : (xs : List Terminal) → xs ++ t ∷ r ≡ (xs ++ t ∷ []) ++ r
    moved [] = refl
    moved (x ∷ xs) = ap (λ ys. x ∷ ys) (moved xs)

pub goes_on_in : (ks : List Terminal) (rest : List Token) (t : Token) (behind : List Token) (o : Option Refusal) → rest ≡ t ∷ behind → o ≡ option_and_then named (form_at (terminals rest)) → o ≡ None → AllBehind ks (terminals rest) → AllBehind ks (terminals behind)
goes_on_in ks rest t behind o is e none h = goes_on ks (terminals behind) (terminal_of t) (sym (ap (λ ts. option_and_then named (form_at (terminals ts))) is) ∙ sym e ∙ none) (subst (λ ts. AllBehind ks (terminals ts)) is h)

found_by : (ks rest seen : List Terminal) (refusal : Refusal) (o : Option (ℕ × List Terminal)) → ks ≡ seen ++ rest → SoundForm rest o → option_and_then named o ≡ Some refusal → IsOfForm ks refusal
found_by ks rest seen refusal None is h e = cc
found_by ks rest seen refusal (Some x) is h e = record { feature = x.0; told = x.1; is_there = (seen, rest, is, h); names = e }

pub found : (ks rest : List Terminal) (refusal : Refusal) → AllBehind ks rest → option_and_then named (form_at rest) ≡ Some refusal → IsOfForm ks refusal
found ks rest refusal (seen, is, h) e = found_by ks rest seen refusal (form_at rest) is (form_sound rest) e

no_form : {feature : ℕ} {ks told : List Terminal} → ShownForm feature ks told → ks ≡ [] → ⊥
no_form is_slash e = cc
no_form (is_fraction_width h) e = cc

pub none_left : (ks : List Terminal) (rest : List Token) → length rest ≡ 0 → AllBehind ks (terminals rest) → HasNoForm ks
none_left ks [] e (seen, is, h) feature told g = nowhere (h feature told g)
  where
    nowhere : HasForm feature [] told → ⊥
    nowhere ([], form, is, h) = no_form h (sym is)
    nowhere (x ∷ seen, form, is, h) = cc
none_left ks (t ∷ rest) e h feature told g = absurd (omega (arith, e))

-- ---- words and forms

pub shown_by_word : (ks : List Terminal) (word : Option Refusal) (refusal : Refusal) → word ≡ Some refusal → FirstUnbuilt ks word → FirstShown ks (Some refusal)
shown_by_word ks word refusal e h = inl (subst (FirstUnbuilt ks) e h)

pub shown_by_form : (ks : List Terminal) (word result : Option Refusal) → word ≡ None → FirstForm ks result → FirstUnbuilt ks word → FirstShown ks result
shown_by_form ks word None e f h = (subst (FirstUnbuilt ks) e h, f)
shown_by_form ks word (Some refusal) e f h = inr (subst (FirstUnbuilt ks) e h, f)

-- what is not shown is not there
pub no_grammar_form : {feature : ℕ} {ks told : List Terminal} → HasNoForm ks → HasGrammarForm feature ks told → ⊥
no_grammar_form {feature = feature} {told = told} h (seen, form, is, g) = h feature told (seen, form, is, shows g)
