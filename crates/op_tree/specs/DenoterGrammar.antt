-- The grammar of types and of first values. The number is the depth that is left.
use Rattle.std.specs.Prelude.{ℕ, suc, Bool, true, false, List, ◌∷◌}
use Rattle.op_scan.specs.declared.token.TokenKind.{TokenKind}
use Rattle.op_scan.specs.declared.token.TokenKind.TheVariants as kind
use Rattle.op_tree.specs.Denoter.{Denoter, named, string, subrange, enumeration, set, array, record_, Denoters, no_denoters, denoters, FieldLists, no_fields, fields}
use Rattle.op_tree.specs.Expression.{Expression}
use Rattle.op_tree.specs.ExpressionGrammar.{IsExpr, IsSimple}
use Rattle.op_tree.specs.Initial.{Initial, value, list, record_ as record_value, Initials, no_initials, initials, FieldInitials, no_field_initials, field_initials}
use Rattle.op_tree.specs.NameGrammar.{IsName, AreNames, IsQualified, AreBracketedNames}
use Rattle.op_tree.specs.Terminal.{Terminal, ◌at◌}
use Rattle.op_tree.specs.declared.position.Name.{Name}
use Rattle.op_tree.specs.declared.position.Position.{Position}
use Rattle.op_tree.specs.declared.position.QualifiedName.{QualifiedName}

mutual
  -- type = qid | "string" | simple ".." simple | "(" ids ")" | "set" "of" type | ["packed"] array | ["packed"] record
  pub data IsDenoter : ℕ → Denoter → List Terminal → List Terminal → Type 0 where
    is_named : {d : ℕ} {q : QualifiedName} {ks r : List Terminal} → IsQualified q ks r → IsDenoter (suc d) (named q) ks r
    is_string : {d : ℕ} {p : Position} {r : List Terminal} → IsDenoter (suc d) (string p) (kind.String at p ∷ r) r
    is_subrange : {d : ℕ} {first last : Expression} {p : Position} {ks m r : List Terminal} → IsSimple d first ks (kind.DotDot at p ∷ m) → IsSimple d last m r → IsDenoter (suc d) (subrange first last) ks r
    is_enumeration : {d : ℕ} {ns : List Name} {p : Position} {ks r : List Terminal} → AreBracketedNames d ns (kind.OpenParenthesis at p ∷ ks) r → IsDenoter (suc d) (enumeration p ns) (kind.OpenParenthesis at p ∷ ks) r
    is_set : {d : ℕ} {base : Denoter} {p q : Position} {ks r : List Terminal} → IsDenoter d base ks r → IsDenoter (suc d) (set p base) (kind.Set at p ∷ kind.Of at q ∷ ks) r
    is_unpacked : {d : ℕ} {t : Denoter} {k : TokenKind} {p : Position} {ks r : List Terminal} → IsStructure d p false t (k at p ∷ ks) r → IsDenoter (suc d) t (k at p ∷ ks) r
    is_packed : {d : ℕ} {t : Denoter} {p : Position} {ks r : List Terminal} → IsStructure d p true t ks r → IsDenoter (suc d) t (kind.Packed at p ∷ ks) r

  -- array = "array" ["[" type {"," type} "]"] "of" type
  -- record = "record" {ids ":" type ";"} "end"
  pub data IsStructure : ℕ → Position → Bool → Denoter → List Terminal → List Terminal → Type 0 where
    is_dynamic_array : {d : ℕ} {b : Bool} {t : Denoter} {p q u : Position} {ks r : List Terminal} → IsDenoter d t ks r → IsStructure d p b (array p b no_denoters t) (kind.Array at q ∷ kind.Of at u ∷ ks) r
    is_static_array : {d : ℕ} {b : Bool} {ts : Denoters} {t : Denoter} {p q u v w : Position} {ks m r : List Terminal} → AreDenoters d ts ks (kind.CloseBracket at v ∷ kind.Of at w ∷ m) → IsDenoter (suc d) t m r → IsStructure (suc d) p b (array p b ts t) (kind.Array at q ∷ kind.OpenBracket at u ∷ ks) r
    is_record : {d : ℕ} {b : Bool} {fs : FieldLists} {p q u : Position} {ks r : List Terminal} → AreFieldLists d fs ks (kind.End at u ∷ r) → IsStructure d p b (record_ p b fs) (kind.Record at q ∷ ks) r

  -- type {"," type}
  pub data AreDenoters : ℕ → Denoters → List Terminal → List Terminal → Type 0 where
    are_one_denoter : {d : ℕ} {t : Denoter} {ks r : List Terminal} → IsDenoter d t ks r → AreDenoters d (denoters t no_denoters) ks r
    are_denoters : {d : ℕ} {t : Denoter} {ts : Denoters} {p : Position} {ks m r : List Terminal} → IsDenoter d t ks (kind.Comma at p ∷ m) → AreDenoters d ts m r → AreDenoters d (denoters t ts) ks r

  -- {ids ":" type ";"}, where the last ";" may be missing
  pub data AreFieldLists : ℕ → FieldLists → List Terminal → List Terminal → Type 0 where
    are_no_fields : {d : ℕ} {ks : List Terminal} → AreFieldLists d no_fields ks ks
    are_last_fields : {d : ℕ} {ns : List Name} {t : Denoter} {p : Position} {ks m r : List Terminal} → AreNames ns ks (kind.Colon at p ∷ m) → IsDenoter d t m r → AreFieldLists d (fields ns t no_fields) ks r
    are_fields : {d : ℕ} {ns : List Name} {t : Denoter} {fs : FieldLists} {p q : Position} {ks m n r : List Terminal} → AreNames ns ks (kind.Colon at p ∷ m) → IsDenoter d t m (kind.Semicolon at q ∷ n) → AreFieldLists d fs n r → AreFieldLists d (fields ns t fs) ks r

-- Brackets round one expression are that expression, and no list of one.
abbrev pub IsNoExpression : Initials → Type 0
IsNoExpression (initials (value e) no_initials) = ⊥
IsNoExpression others = Unit {0}

mutual
  -- init = expr | "(" init {"," init} ")" | "(" id ":" init {";" id ":" init} ")"
  pub data IsInitial : ℕ → Initial → List Terminal → List Terminal → Type 0 where
    is_value : {d : ℕ} {e : Expression} {ks r : List Terminal} → IsExpr d e ks r → IsInitial (suc d) (value e) ks r
    is_list : {d : ℕ} {is : Initials} {p q : Position} {ks r : List Terminal} → AreInitials d is ks (kind.CloseParenthesis at q ∷ r) → IsNoExpression is → IsInitial (suc (suc d)) (list p is) (kind.OpenParenthesis at p ∷ ks) r
    is_record_value : {d : ℕ} {fs : FieldInitials} {p q : Position} {ks r : List Terminal} → AreFieldInitials d fs ks (kind.CloseParenthesis at q ∷ r) → IsInitial (suc (suc d)) (record_value p fs) (kind.OpenParenthesis at p ∷ ks) r

  -- init {"," init}
  pub data AreInitials : ℕ → Initials → List Terminal → List Terminal → Type 0 where
    are_one_initial : {d : ℕ} {i : Initial} {ks r : List Terminal} → IsInitial d i ks r → AreInitials d (initials i no_initials) ks r
    are_initials : {d : ℕ} {i : Initial} {is : Initials} {p : Position} {ks m r : List Terminal} → IsInitial d i ks (kind.Comma at p ∷ m) → AreInitials d is m r → AreInitials d (initials i is) ks r

  -- id ":" init {";" id ":" init}
  pub data AreFieldInitials : ℕ → FieldInitials → List Terminal → List Terminal → Type 0 where
    are_one_field_initial : {d : ℕ} {n : Name} {i : Initial} {p : Position} {ks m r : List Terminal} → IsName n ks (kind.Colon at p ∷ m) → IsInitial d i m r → AreFieldInitials d (field_initials n i no_field_initials) ks r
    are_field_initials : {d : ℕ} {n : Name} {i : Initial} {fs : FieldInitials} {p q : Position} {ks m l r : List Terminal} → IsName n ks (kind.Colon at p ∷ m) → IsInitial d i m (kind.Semicolon at q ∷ l) → AreFieldInitials d fs l r → AreFieldInitials d (field_initials n i fs) ks r
