-- The kind of a token of the text, from what it is.
use Rattle.std.proofs.Common.{◌≡◌, ℕ, List, refl, sym, ap, ◌∙◌}
use Rattle.asm_lines.specs.declared.token.Kind.{Kind}
use Rattle.asm_lines.specs.declared.token.Kind.TheVariants as kind
use Rattle.asm_lines.specs.Tokens.{Tok, Word, Decimal, Hexadecimal, Dollar, Colon, Comma, Open, Close, Plus, Minus, Wrong, tok_of}

abbrev pub kind_at : Tok → Kind
kind_at (Word n) = kind.Word
kind_at (Decimal d) = kind.Decimal
kind_at (Hexadecimal d) = kind.Hexadecimal
kind_at (Dollar n) = kind.Dollar
kind_at Colon = kind.Colon
kind_at Comma = kind.Comma
kind_at Open = kind.Open
kind_at Close = kind.Close
kind_at Plus = kind.Plus
kind_at Minus = kind.Minus
kind_at Wrong = kind.Bad

kind_back : (k : Kind) (text : List ℕ) → kind_at (tok_of k text) ≡ k
kind_back kind.Word text = refl
kind_back kind.Decimal text = refl
kind_back kind.Hexadecimal text = refl
kind_back kind.Dollar text = refl
kind_back kind.Colon text = refl
kind_back kind.Comma text = refl
kind_back kind.Open text = refl
kind_back kind.Close text = refl
kind_back kind.Plus text = refl
kind_back kind.Minus text = refl
kind_back kind.Bad text = refl

-- what a token is says its kind
pub kind_from : (k : Kind) (text : List ℕ) (t : Tok) → tok_of k text ≡ t → k ≡ kind_at t
kind_from k text t e = sym (kind_back k text) ∙ ap kind_at e
