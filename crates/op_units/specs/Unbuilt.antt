-- Constructs that are not built yet and that a word shows.
use Rattle.std.specs.Prelude.{◌≡◌, ◌≤◌, ℕ, List, [], ◌∷◌, ◌++◌, Option, Some, None, length, if◌then◌else◌}
use Rattle.op_base.specs.declared.rule.Refusal.{Refusal}
use Rattle.op_scan.specs.declared.token.TokenKind.TheVariants as kind
use Rattle.op_tree.specs.Ends.{IsNot, begins_selector}
use Rattle.op_tree.specs.Terminal.{Terminal, ◌at◌}
use Rattle.op_tree.specs.declared.position.Position.{Position}

-- where long strings are off the type is the short string, which is left out
abbrev pub feature_of_string : Position → ℕ
feature_of_string p = if p.switches.h then 40 else 3

-- The feature, by its number; the tokens from the construct's first one on; those from the one on that tells it.
pub data Unbuilt : ℕ → List Terminal → List Terminal → Type 0 where
  -- `string` as a type: a cast and a length have a bracket behind the word
  is_string : {p : Position} {r : List Terminal} → IsNot begins_selector r → Unbuilt (feature_of_string p) (kind.String at p ∷ r) (kind.String at p ∷ r)
  -- arrays without bounds, `for` over values, `nil`
  is_open_array : {p q : Position} {r : List Terminal} → Unbuilt 41 (kind.Array at p ∷ kind.Of at q ∷ r) (kind.Array at p ∷ kind.Of at q ∷ r)
  is_for_in : {text : List ℕ} {p q u : Position} {r : List Terminal} → Unbuilt 41 (kind.For_ at p ∷ kind.Identifier text at q ∷ kind.In_ at u ∷ r) (kind.In_ at u ∷ r)
  is_nil : {p : Position} {r : List Terminal} → Unbuilt 41 (kind.Nil at p ∷ r) (kind.Nil at p ∷ r)
  -- classes
  is_class : {p q : Position} {r : List Terminal} → Unbuilt 42 (kind.Equal at p ∷ kind.Class at q ∷ r) (kind.Class at q ∷ r)
  is_is : {p : Position} {r : List Terminal} → Unbuilt 42 (kind.Is at p ∷ r) (kind.Is at p ∷ r)
  is_as : {p : Position} {r : List Terminal} → Unbuilt 42 (kind.As_ at p ∷ r) (kind.As_ at p ∷ r)
  is_inherited : {p : Position} {r : List Terminal} → Unbuilt 42 (kind.Inherited at p ∷ r) (kind.Inherited at p ∷ r)
  -- interfaces
  is_interface : {p q : Position} {r : List Terminal} → Unbuilt 43 (kind.Equal at p ∷ kind.Interface at q ∷ r) (kind.Interface at q ∷ r)
  -- exceptions
  is_except : {p : Position} {r : List Terminal} → Unbuilt 44 (kind.Except at p ∷ r) (kind.Except at p ∷ r)
  is_raise : {p : Position} {r : List Terminal} → Unbuilt 44 (kind.Raise at p ∷ r) (kind.Raise at p ∷ r)

-- such a construct stands in the tokens, and the token that tells it in front of these
pub record HasUnbuilt (feature : ℕ) (ks told : List Terminal) : Type 0 where
  pub seen : List Terminal
  pub form : List Terminal
  pub parts : ks ≡ seen ++ form
  pub unbuilt : Unbuilt feature form told

-- rule 13 with a feature, at the first of the tokens
abbrev pub named : ℕ × List Terminal → Option Refusal
named (feature, []) = None
named (feature, t ∷ ts) = Some (record { rule = record { number = 13; feature = feature }; place = t.position.place })

-- this refusal is that of a construct in the tokens, and none is told in front of it
pub record IsFirstUnbuilt (ks : List Terminal) (refusal : Refusal) : Type 0 where
  pub feature : ℕ
  pub told : List Terminal
  pub is_there : HasUnbuilt feature ks told
  pub names : named (feature, told) ≡ Some refusal
  pub first : (other : ℕ) (q : List Terminal) → HasUnbuilt other ks q → length q ≤ length told

-- no such construct stands in the tokens
abbrev pub IsBuilt : List Terminal → Type 0
IsBuilt ks = (feature : ℕ) (told : List Terminal) → HasUnbuilt feature ks told → ⊥

-- the first of them, if there is one
abbrev pub FirstUnbuilt : List Terminal → Option Refusal → Type 0
FirstUnbuilt ks None = IsBuilt ks
FirstUnbuilt ks (Some refusal) = IsFirstUnbuilt ks refusal
