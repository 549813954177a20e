-- BadToken: the bytes form no token here. Brackets are tokens of trees alone, and no percent sign but those of `%start`
-- and `%term` begins one.
use Rattle.std.specs.Prelude.{◌≡◌, ◌≢◌, ℕ, Some, slice_get, codes}
use Rattle.lburg_lines.specs.declared.token.Sign.{Sign}
use Rattle.lburg_lines.specs.declared.token.Sign.TheVariants.{OpenBracket, CloseBracket}
use Rattle.lburg_lines.specs.Tokens.{Tok, Keyword, Mark, Wrong}
use Rattle.lburg_lines.specs.Sections.{TokenLine}

abbrev pub IsBracket : Sign → Type 0
IsBracket OpenBracket = Unit {0}
IsBracket CloseBracket = Unit {0}
IsBracket sign = ⊥

-- no token of a description
abbrev pub IsForeign : Tok → Type 0
IsForeign Wrong = Unit {0}
IsForeign (Mark sign) = IsBracket sign
IsForeign (Keyword name) = (name ≢ codes "start") × (name ≢ codes "term")
IsForeign token = ⊥

abbrev pub IsBadToken : TokenLine → ℕ → Type 0
IsBadToken l place = (token : Tok) × (slice_get l.tokens place ≡ Some token) × IsForeign token
