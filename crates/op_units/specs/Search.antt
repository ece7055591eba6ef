-- How constructs that are not built are looked for: by the first tokens of what is left.
use Rattle.std.specs.Prelude.{ℕ, Bool, true, false, List, [], ◌∷◌, Option, Some, None}
use Rattle.op_scan.specs.declared.token.TokenKind.{TokenKind}
use Rattle.op_scan.specs.declared.token.TokenKind.TheVariants as kind
use Rattle.op_tree.specs.Ends.{begins_selector}
use Rattle.op_tree.specs.Terminal.{Terminal}
use Rattle.op_units.specs.Unbuilt.{feature_of_string}

-- the feature, and the tokens from the one on that tells it
abbrev pub Found : Type 0
Found = Option (ℕ × List Terminal)

abbrev pub string_by : Terminal → List Terminal → Bool → Found
string_by t r true = None
string_by t r false = Some (feature_of_string t.position, t ∷ r)

abbrev pub behind_string : Terminal → List Terminal → Found
behind_string t [] = string_by t [] false
behind_string t (u ∷ r) = string_by t (u ∷ r) (begins_selector u.kind)

abbrev pub array_by : Terminal → List Terminal → TokenKind → Found
array_by t r kind.Of = Some (41, t ∷ r)
array_by t r other = None

abbrev pub behind_array : Terminal → List Terminal → Found
behind_array t [] = None
behind_array t (u ∷ r) = array_by t (u ∷ r) u.kind

abbrev pub in_by : Terminal → List Terminal → TokenKind → TokenKind → Found
in_by u r (kind.Identifier text) kind.In_ = Some (41, u ∷ r)
in_by u r other others = None

abbrev pub behind_for : List Terminal → Found
behind_for [] = None
behind_for (t ∷ []) = None
behind_for (t ∷ u ∷ r) = in_by u r t.kind u.kind

abbrev pub equal_by : Terminal → List Terminal → TokenKind → Found
equal_by t r kind.Class = Some (42, t ∷ r)
equal_by t r kind.Interface = Some (43, t ∷ r)
equal_by t r other = None

abbrev pub behind_equal : List Terminal → Found
behind_equal [] = None
behind_equal (t ∷ r) = equal_by t r t.kind

abbrev pub begun_by : TokenKind → Terminal → List Terminal → Found
begun_by kind.String t r = behind_string t r
begun_by kind.Array t r = behind_array t r
begun_by kind.For_ t r = behind_for r
begun_by kind.Nil t r = Some (41, t ∷ r)
begun_by kind.Equal t r = behind_equal r
begun_by kind.Is t r = Some (42, t ∷ r)
begun_by kind.As_ t r = Some (42, t ∷ r)
begun_by kind.Inherited t r = Some (42, t ∷ r)
begun_by kind.Except t r = Some (44, t ∷ r)
begun_by kind.Raise t r = Some (44, t ∷ r)
begun_by other t r = None

-- the construct that begins at the front of the tokens
abbrev pub begun : List Terminal → Found
begun [] = None
begun (t ∷ r) = begun_by t.kind t r

abbrev pub or_behind : Found → Found → Found
or_behind (Some found) others = Some found
or_behind None others = others

-- the first construct that begins in the tokens
abbrev pub search_in : List Terminal → Found
search_in [] = None
search_in (t ∷ r) = or_behind (begun (t ∷ r)) (search_in r)
