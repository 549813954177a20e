-- What a string literal denotes: the values of its characters, in order. A null character behind them is not among them.
-- Source: C89 3.1.4.
use Rattle.std.specs.Prelude.{◌+◌, ℕ, zero, suc, List, [], ◌∷◌, length, drop}
use Rattle.c_lexer.specs.declared.token.Token.{Token}
use Rattle.c_lexer.specs.declared.quoted.Quoted.{Quoted}
use Rattle.c_lexer.specs.declared.quoted.Quoted.TheVariants.{Close, Character, Fault}
use Rattle.c_lexer.specs.Quoted.{quoted}
use Rattle.c_lexer.specs.Characters.{Values}

-- the token is a string literal of the source, and denotes these bytes
abbrev pub TextBytes : List ℕ → Token → List ℕ → Type 0
TextBytes source t values = Values 34 (drop (t.start + 1) source) values

-- how many bytes write what stands first, and its value before those behind it
abbrev pub len_of : Quoted → ℕ
len_of (Character v len) = len
len_of Close = 0
len_of (Fault kind) = 0

abbrev pub value_before : Quoted → List ℕ → List ℕ
value_before (Character v len) vs = v ∷ vs
value_before Close vs = []
value_before (Fault kind) vs = []

-- the values of the characters up to what is none, so many at most
abbrev pub values_from : ℕ → List ℕ → List ℕ
values_from zero bytes = []
values_from (suc n) bytes = value_before (quoted 34 bytes) (values_from n (drop (len_of (quoted 34 bytes)) bytes))

-- what a literal's token denotes
abbrev pub text_of : List ℕ → Token → List ℕ
text_of source t = values_from (length source) (drop (t.start + 1) source)
