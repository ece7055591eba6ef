-- The forms of Free Pascal that the profile leaves out and the grammar has not. The tokens of some stand in programs too, as `generic` for a
-- name, or `(a = b` in a condition: a form is refused only where no sentence goes on with its own tokens, or with the type that it begins.
use Rattle.std.specs.Prelude.{◌≡◌, ℕ, Bool, true, false, List, [], ◌∷◌, ◌++◌, codes, Option, Some}
use Rattle.op_scan.specs.declared.token.TokenKind.{TokenKind}
use Rattle.op_scan.specs.declared.token.TokenKind.TheVariants as kind
use Rattle.op_tree.specs.Declaration.{Method, Property}
use Rattle.op_tree.specs.Denoter.{Denoter, FieldLists}
use Rattle.op_tree.specs.DenoterGrammar.{AreFieldLists, IsDenoter}
use Rattle.op_tree.specs.Expression.{Expression}
use Rattle.op_tree.specs.ExpressionGrammar.{IsExpr}
use Rattle.op_tree.specs.HeadingGrammar.{AreMethods, AreParameters, IsIdentifier, IsProperty, routine_kind_of}
use Rattle.op_tree.specs.NameGrammar.{AreBracketedNames, AreNames, IsName}
use Rattle.op_tree.specs.Terminal.{Terminal, ◌at◌, IsWord}
use Rattle.op_tree.specs.declared.heading.Parameter.{Parameter}
use Rattle.op_tree.specs.declared.heading.RoutineKind.{RoutineKind}
use Rattle.op_tree.specs.declared.position.Name.{Name}
use Rattle.op_tree.specs.declared.position.Position.{Position}

-- the word that a procedural type begins with
pub data BeginsProcedural : TokenKind → Type 0 where
  begins_procedure_type : BeginsProcedural kind.Procedure
  begins_function_type : BeginsProcedural kind.Function

-- what stands between the name of an enumeration's value and its number
pub data GivesValue : TokenKind → Type 0 where
  gives_by_equal : GivesValue kind.Equal
  gives_by_assign : GivesValue kind.Assign

-- the kind begins a member of a class itself behind the word `class`
abbrev pub begins_class_member : TokenKind → Bool
begins_class_member kind.Procedure = true
begins_class_member kind.Function = true
begins_class_member kind.Constructor = true
begins_class_member kind.Destructor = true
begins_class_member kind.Property = true
begins_class_member kind.Var = true
begins_class_member other = false

-- the kind stands behind the word `generic`
abbrev pub begins_generic : TokenKind → Bool
begins_generic (kind.Identifier text) = true
begins_generic kind.Procedure = true
begins_generic kind.Function = true
begins_generic kind.Class = true
begins_generic other = false

-- The feature, by its number; the tokens from the form's first one on; those from the one on that tells the form, where it is refused; those
-- from the one on with which no sentence goes on.
pub data Form : ℕ → List Terminal → List Terminal → List Terminal → Type 0 where
  -- floating point
  is_fraction : {n m : ℕ} {p q u : Position} {r : List Terminal} → Form 1 (kind.Number n at p ∷ kind.Dot at q ∷ kind.Number m at u ∷ r) (kind.Number n at p ∷ kind.Dot at q ∷ kind.Number m at u ∷ r) (kind.Dot at q ∷ kind.Number m at u ∷ r)
  -- procedural type: no name behind the word
  is_procedural : {k k' : TokenKind} {p q : Position} {r : List Terminal} → BeginsProcedural k → ((text : List ℕ) → k' ≡ kind.Identifier text → ⊥) → Form 6 (k at p ∷ k' at q ∷ r) (k at p ∷ k' at q ∷ r) (k at p ∷ k' at q ∷ r)
  -- metaclass
  is_metaclass : {p q : Position} {r : List Terminal} → Form 7 (kind.Class at p ∷ kind.Of at q ∷ r) (kind.Class at p ∷ kind.Of at q ∷ r) (kind.Of at q ∷ r)
  -- object type
  is_object : {p : Position} {r : List Terminal} → Form 8 (kind.Object at p ∷ r) (kind.Object at p ∷ r) (kind.Object at p ∷ r)
  -- variant record
  is_variant : {d : ℕ} {fs : FieldLists} {p q : Position} {ks r : List Terminal} → AreFieldLists d fs ks (kind.Case at q ∷ r) → Form 9 (kind.Record at p ∷ ks) (kind.Case at q ∷ r) (kind.Case at q ∷ r)
  -- record method
  is_record_method : {d : ℕ} {k : TokenKind} {sort : RoutineKind} {fs : FieldLists} {p q : Position} {ks r : List Terminal} → routine_kind_of k ≡ Some sort → AreFieldLists d fs ks (k at q ∷ r) → Form 10 (kind.Record at p ∷ ks) (k at q ∷ r) (k at q ∷ r)
  -- file type
  is_file : {p : Position} {r : List Terminal} → Form 11 (kind.File at p ∷ r) (kind.File at p ∷ r) (kind.File at p ∷ r)
  -- operator
  is_operator : {p : Position} {r : List Terminal} → Form 13 (kind.Operator at p ∷ r) (kind.Operator at p ∷ r) (kind.Operator at p ∷ r)
  is_class_operator : {p q : Position} {r : List Terminal} → Form 13 (kind.Class at p ∷ kind.Operator at q ∷ r) (kind.Class at p ∷ kind.Operator at q ∷ r) (kind.Class at p ∷ kind.Operator at q ∷ r)
  -- default parameter
  is_default : {as_ : List Parameter} {p q : Position} {ks r : List Terminal} → AreParameters as_ ks (kind.Equal at q ∷ r) → Form 14 (kind.OpenParenthesis at p ∷ ks) (kind.Equal at q ∷ r) (kind.Equal at q ∷ r)
  -- with
  is_with : {p : Position} {r : List Terminal} → Form 15 (kind.With at p ∷ r) (kind.With at p ∷ r) (kind.With at p ∷ r)
  -- goto or label
  is_goto : {p : Position} {r : List Terminal} → Form 16 (kind.Goto at p ∷ r) (kind.Goto at p ∷ r) (kind.Goto at p ∷ r)
  is_label : {p : Position} {r : List Terminal} → Form 16 (kind.Label at p ∷ r) (kind.Label at p ∷ r) (kind.Label at p ∷ r)
  -- asm or inline
  is_asm : {p : Position} {r : List Terminal} → Form 17 (kind.Asm at p ∷ r) (kind.Asm at p ∷ r) (kind.Asm at p ∷ r)
  is_inline : {p : Position} {r : List Terminal} → Form 17 (kind.Inline at p ∷ r) (kind.Inline at p ∷ r) (kind.Inline at p ∷ r)
  -- array of const
  is_array_of_const : {p q u : Position} {r : List Terminal} → Form 18 (kind.Array at p ∷ kind.Of at q ∷ kind.Const_ at u ∷ r) (kind.Array at p ∷ kind.Of at q ∷ kind.Const_ at u ∷ r) (kind.Const_ at u ∷ r)
  -- class member
  is_class_member : {k : TokenKind} {p q : Position} {r : List Terminal} → begins_class_member k ≡ true → Form 19 (kind.Class at p ∷ k at q ∷ r) (kind.Class at p ∷ k at q ∷ r) (kind.Class at p ∷ k at q ∷ r)
  -- indexed or default property: parameters behind the name, an index behind the type, a word behind the property
  is_array_property : {n : Name} {p q : Position} {ks r : List Terminal} → IsName n ks (kind.OpenBracket at q ∷ r) → Form 20 (kind.Property at p ∷ ks) (kind.OpenBracket at q ∷ r) (kind.OpenBracket at q ∷ r)
  is_indexed_property : {d : ℕ} {n : Name} {t : Denoter} {text : List ℕ} {p q u : Position} {ks m r : List Terminal} → IsWord (codes "index") text → IsName n ks (kind.Colon at q ∷ m) → IsDenoter d t m (kind.Identifier text at u ∷ r) → Form 20 (kind.Property at p ∷ ks) (kind.Identifier text at u ∷ r) (kind.Identifier text at u ∷ r)
  is_default_property : {d : ℕ} {a : Property} {text : List ℕ} {p q : Position} {ks r : List Terminal} → IsWord (codes "default") text → IsProperty d a ks (kind.Identifier text at p ∷ kind.Semicolon at q ∷ r) → Form 20 ks (kind.Identifier text at p ∷ kind.Semicolon at q ∷ r) (kind.Semicolon at q ∷ r)
  -- strict visibility
  is_strict : {text name : List ℕ} {p q : Position} {r : List Terminal} → IsWord (codes "strict") text → Form 21 (kind.Identifier text at p ∷ kind.Identifier name at q ∷ r) (kind.Identifier text at p ∷ kind.Identifier name at q ∷ r) (kind.Identifier name at q ∷ r)
  -- method resolution
  is_resolution : {k : TokenKind} {sort : RoutineKind} {n m : Name} {p q u : Position} {ks ls r : List Terminal} → routine_kind_of k ≡ Some sort → IsName n ks (kind.Dot at q ∷ ls) → IsName m ls (kind.Equal at u ∷ r) → Form 22 (k at p ∷ ks) (kind.Equal at u ∷ r) (kind.Equal at u ∷ r)
  -- resourcestring
  is_resource_string : {p : Position} {r : List Terminal} → Form 26 (kind.Resourcestring at p ∷ r) (kind.Resourcestring at p ∷ r) (kind.Resourcestring at p ∷ r)
  -- threadvar
  is_thread_variable : {p : Position} {r : List Terminal} → Form 27 (kind.Threadvar at p ∷ r) (kind.Threadvar at p ∷ r) (kind.Threadvar at p ∷ r)
  -- generic
  is_specialized : {text name : List ℕ} {p q : Position} {r : List Terminal} → IsWord (codes "specialize") text → Form 29 (kind.Identifier text at p ∷ kind.Identifier name at q ∷ r) (kind.Identifier text at p ∷ kind.Identifier name at q ∷ r) (kind.Identifier name at q ∷ r)
  is_generic : {k : TokenKind} {text : List ℕ} {p q : Position} {r : List Terminal} → begins_generic k ≡ true → IsWord (codes "generic") text → Form 29 (kind.Identifier text at p ∷ k at q ∷ r) (kind.Identifier text at p ∷ k at q ∷ r) (kind.Identifier text at p ∷ k at q ∷ r)
  -- the word is taken for a name there
  is_generic_name : {k : TokenKind} {text : List ℕ} {p q : Position} {r : List Terminal} → begins_generic k ≡ true → IsWord (codes "generic") text → Form 29 (kind.Identifier text at p ∷ k at q ∷ r) (kind.Identifier text at p ∷ k at q ∷ r) (k at q ∷ r)
  -- library or exports
  is_library : {p : Position} {r : List Terminal} → Form 30 (kind.Library at p ∷ r) (kind.Library at p ∷ r) (kind.Library at p ∷ r)
  is_exports : {p : Position} {r : List Terminal} → Form 30 (kind.Exports at p ∷ r) (kind.Exports at p ∷ r) (kind.Exports at p ∷ r)
  -- enumeration value given
  is_given_value : {k : TokenKind} {ns : List Name} {p q : Position} {ks r : List Terminal} → GivesValue k → AreNames ns ks (k at q ∷ r) → Form 31 (kind.OpenParenthesis at p ∷ ks) (k at q ∷ r) (k at q ∷ r)
  -- raise at
  is_raise_at : {d : ℕ} {e : Expression} {text : List ℕ} {p q : Position} {ks r : List Terminal} → IsWord (codes "at") text → IsExpr d e ks (kind.Identifier text at q ∷ r) → Form 34 (kind.Raise at p ∷ ks) (kind.Identifier text at q ∷ r) (kind.Identifier text at q ∷ r)
  -- interface property
  is_interface_property : {d : ℕ} {text : Option (List ℕ)} {as_ : List Method} {p q : Position} {ks m r : List Terminal} → IsIdentifier d text ks m → AreMethods d as_ m (kind.Property at q ∷ r) → Form 36 (kind.Interface at p ∷ ks) (kind.Property at q ∷ r) (kind.Property at q ∷ r)
  is_descendant_property : {d : ℕ} {n : Name} {text : Option (List ℕ)} {as_ : List Method} {p q : Position} {ks m l r : List Terminal} → AreBracketedNames d (n ∷ []) ks m → IsIdentifier d text m l → AreMethods d as_ l (kind.Property at q ∷ r) → Form 36 (kind.Interface at p ∷ ks) (kind.Property at q ∷ r) (kind.Property at q ∷ r)

-- such a form stands in the tokens, its telling token in front of q, and the one with which no sentence goes on in front of m
abbrev pub HasForm : ℕ → List Terminal → List Terminal → List Terminal → Type 0
HasForm feature ks q m = (seen form : List Terminal) × (ks ≡ seen ++ form) × Form feature form q m

-- The two forms that begin as a type of the grammar may, as `string[1]` and `(a = b)` do, which `..` could go on with: the feature, the tokens
-- from the form's first one on, and those from the one on that tells it.
pub data TypeForm : ℕ → List Terminal → List Terminal → Type 0 where
  -- short string: a length behind the word
  is_short_string : {p q : Position} {r : List Terminal} → TypeForm 3 (kind.String at p ∷ kind.OpenBracket at q ∷ r) (kind.String at p ∷ kind.OpenBracket at q ∷ r)
  -- enumeration value given
  is_value_in_type : {k : TokenKind} {n : Name} {p q : Position} {ks r : List Terminal} → GivesValue k → IsName n ks (k at q ∷ r) → TypeForm 31 (kind.OpenParenthesis at p ∷ ks) (k at q ∷ r)
