-- Tokens, as the grammar sees them.
use Rattle.std.specs.Prelude.{◌≡◌, ℕ, List, map}
use Rattle.std.specs.Char.{to_ascii_lowercase}
use Rattle.op_scan.specs.declared.token.Token.{Token}
use Rattle.op_scan.specs.declared.token.TokenKind.{TokenKind}
use Rattle.op_tree.specs.declared.position.Name.{Name}
use Rattle.op_tree.specs.declared.position.Position.{Position}

-- a token without the bytes that spell it
pub record Terminal : Type 0 where
  pub kind : TokenKind
  pub position : Position

abbrev pub terminal_of : Token → Terminal
terminal_of token = record {
  kind = token.kind;
  position = record { place = token.place; switches = token.switches };
}

abbrev pub terminals : List Token → List Terminal
terminals tokens = map terminal_of tokens

-- a token of this kind that stands there
infix 70 ◌at◌
abbrev pub ◌at◌ : TokenKind → Position → Terminal
kind at position = record { kind = kind; position = position }

-- a name that is spelled so and stands there
abbrev pub name : List ℕ → Position → Name
name text position = record { text = text; position = position }

-- an identifier that is spelled like this word, in any case of letters
abbrev pub IsWord : List ℕ → List ℕ → Type 0
IsWord word text = map to_ascii_lowercase text ≡ word
