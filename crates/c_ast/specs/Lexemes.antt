-- Tokens as the grammar sees them: a name with its bytes, a text with the bytes that it denotes, any other by its class.
-- Source: C89 3.1.
use Rattle.std.specs.Prelude.{ℕ, ℤ, List}
use Rattle.c_ast.specs.declared.class.IntKind.{IntKind}

pub data Lexeme : Type 0 where
  Name : (name : List ℕ) → Lexeme
  Keyword : (number : ℕ) → Lexeme
  Integer : (value : ℕ) (kind : IntKind) → Lexeme
  Character : (value : ℤ) → Lexeme
  Text : (bytes : List ℕ) → Lexeme
  Sign : (number : ℕ) → Lexeme

-- a token, and its line
pub record Placed : Type 0 where
  pub lexeme : Lexeme
  pub line : ℕ
