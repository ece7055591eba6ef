-- Tokens in front of others: a part keeps its derivation, whatever stands behind it.
use Rattle.std.proofs.Common.{◌≡◌, List, [], ◌∷◌, ◌++◌, refl, ap, subst}
use Rattle.op_parse_code.specs.Refusal.{SameHead}
use Rattle.op_tree.specs.Ends.{IsNot, EndsOperand, EndOperations, EndsChain}
use Rattle.op_tree.specs.Expression.{Expression, chain, prefixed, number, nil, set, literal, designated, inherited, Operations, no_operations, operation}
use Rattle.op_tree.specs.Terminal.{Terminal}
use Rattle.op_tree.specs.declared.operator.Level.{Level}
use Rattle.op_tree.specs.declared.operator.Level.TheVariants.{Relational, Additive, Multiplicative}
use Rattle.op_tree.proofs.ExpressionUnique.{EndsOperandAt}
use Rattle.op_scan.specs.declared.token.TokenKind.{TokenKind}
use Rattle.std.proofs.Common.{Bool, false}

-- the function puts the same tokens in front of any others
pub data IsCut : (List Terminal → List Terminal) → Type 0 where
  cut_none : IsCut (λ x. x)
  cut_one : {f : List Terminal → List Terminal} (t : Terminal) → IsCut f → IsCut (λ x. t ∷ f x)

pub cut_join : {f g : List Terminal → List Terminal} → IsCut f → IsCut g → IsCut (λ x. f (g x))
cut_join cut_none h = h
cut_join (cut_one t k) h = cut_one t (cut_join k h)

pub cut_seen : {f : List Terminal → List Terminal} → IsCut f → (seen : List Terminal) × ((x : List Terminal) → f x ≡ seen ++ x)
cut_seen cut_none = ([], λ x. refl)
cut_seen (cut_one t k) = let s = cut_seen k in (t ∷ s.0, λ x. ap (λ z. t ∷ z) (s.1 x))

-- the tokens before a part are some tokens before those behind it, and with others behind it the part still stands
abbrev pub Front : (List Terminal → List Terminal → Type 0) → List Terminal → List Terminal → Type 0
Front P ks r = (f : List Terminal → List Terminal) × IsCut f × (ks ≡ f r) × ((x : List Terminal) → P (f x) x)

-- ---- the same first token

pub same_refl : (ks : List Terminal) → SameHead ks ks
same_refl [] = tt
same_refl (t ∷ ks) = refl

pub same_behind : (seen q ls : List Terminal) → SameHead q ls → SameHead (seen ++ q) (seen ++ ls)
same_behind [] q ls s = s
same_behind (t ∷ seen) q ls s = refl

pub same_not : (test : TokenKind → Bool) (r r' : List Terminal) → SameHead r r' → IsNot test r → IsNot test r'
same_not test [] [] s h = tt
same_not test [] (u ∷ r') s h = absurd s
same_not test (t ∷ r) [] s h = absurd s
same_not test (t ∷ r) (u ∷ r') s h = subst (λ (z : Terminal). test z.kind ≡ false) s h

mutual
  pub same_operand : (e : Expression) (r r' : List Terminal) → SameHead r r' → EndsOperand e r → EndsOperand e r'
  same_operand (chain first rest) r r' s h = same_operations rest r r' s h
  same_operand (prefixed o p e) r r' s h = same_operand e r r' s h
  same_operand (number n p) r r' s h = tt
  same_operand (nil p) r r' s h = tt
  same_operand (set p es) r r' s h = tt
  same_operand (literal text p ss) r r' s h = same_not _ r r' s h
  same_operand (designated g) r r' s h = same_not _ r r' s h
  same_operand (inherited p g) r r' s h = same_not _ r r' s h

  same_operations : (os : Operations) (r r' : List Terminal) → SameHead r r' → EndOperations os r → EndOperations os r'
  same_operations no_operations r r' s h = tt
  same_operations (operation o p e no_operations) r r' s h = same_operand e r r' s h
  same_operations (operation o p e (operation o1 p1 e1 os)) r r' s h = same_operations (operation o1 p1 e1 os) r r' s h

pub same_chain : (l : Level) (e : Expression) (r r' : List Terminal) → SameHead r r' → EndsChain l e r → EndsChain l e r'
same_chain l e r r' s h = (same_not _ r r' s h.0, same_operand e r r' s h.1)

pub same_operand_at : (l : Level) (e : Expression) (r r' : List Terminal) → SameHead r r' → EndsOperandAt l e r → EndsOperandAt l e r'
same_operand_at Relational e r r' s h = same_chain Additive e r r' s h
same_operand_at Additive e r r' s h = same_chain Multiplicative e r r' s h
same_operand_at Multiplicative e r r' s h = same_operand e r r' s h
