-- The grammar of names and lists of names.
use Rattle.std.specs.Prelude.{ℕ, suc, List, [], ◌∷◌, Some, None}
use Rattle.op_scan.specs.declared.token.TokenKind.TheVariants as kind
use Rattle.op_tree.specs.Terminal.{Terminal, ◌at◌, name}
use Rattle.op_tree.specs.declared.position.Name.{Name}
use Rattle.op_tree.specs.declared.position.Position.{Position}
use Rattle.op_tree.specs.declared.position.QualifiedName.{QualifiedName}

pub data IsName : Name → List Terminal → List Terminal → Type 0 where
  is_name : {text : List ℕ} {p : Position} {r : List Terminal} → IsName (name text p) (kind.Identifier text at p ∷ r) r

-- ids = id {"," id}
pub data AreNames : List Name → List Terminal → List Terminal → Type 0 where
  are_one_name : {n : Name} {ks r : List Terminal} → IsName n ks r → AreNames (n ∷ []) ks r
  are_names : {n : Name} {ns : List Name} {p : Position} {ks m r : List Terminal} → IsName n ks (kind.Comma at p ∷ m) → AreNames ns m r → AreNames (n ∷ ns) ks r

-- qid = id ["." id]
pub data IsQualified : QualifiedName → List Terminal → List Terminal → Type 0 where
  is_unqualified : {n : Name} {ks r : List Terminal} → IsName n ks r → IsQualified (record { unit = None; name = n }) ks r
  is_qualified : {unit n : Name} {p : Position} {ks m r : List Terminal} → IsName unit ks (kind.Dot at p ∷ m) → IsName n m r → IsQualified (record { unit = Some unit; name = n }) ks r

-- "(" ids ")", where something stands in the brackets
pub data AreBracketedNames : ℕ → List Name → List Terminal → List Terminal → Type 0 where
  are_bracketed_names : {d : ℕ} {ns : List Name} {p q : Position} {ks r : List Terminal} → AreNames ns ks (kind.CloseParenthesis at q ∷ r) → AreBracketedNames (suc d) ns (kind.OpenParenthesis at p ∷ ks) r
