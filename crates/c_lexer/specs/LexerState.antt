-- What a lexer is: the source, and the place up to which its tokens were given.
use Rattle.std.specs.Prelude.{ℕ, List}
use Rattle.c_lexer.specs.declared.place.Place.{Place}

pub record LexerState : Type 0 where
  pub source : List ℕ
  pub place : Place
