-- The terminals that a text declares: the names and numbers of its lines %term, as far as these follow the grammar.
use Rattle.std.specs.Prelude.{◌≡◌, ℕ, Some, List, [], ◌∷◌, ◌++◌, map, take, slice_get, codes, if◌then◌else◌}
use Rattle.std.specs.Str.{bytes_eq}
use Rattle.lcc_text.specs.Decimal.{value_of}
use Rattle.lburg_lines.specs.declared.token.Sign.TheVariants.{Equals}
use Rattle.lburg_lines.specs.declared.section.Section.{Section}
use Rattle.lburg_lines.specs.declared.section.Section.TheVariants.{Head, Declarations}
use Rattle.lburg_lines.specs.Tokens.{Tok, Word, Number, Keyword, Mark}
use Rattle.lburg_lines.specs.Grammar.{MNumbered}
use Rattle.lburg_lines.specs.Sections.{TokenLine}

-- names with their numbers' digits, up to the first token that isn't of one
abbrev pub numbered : List Tok → List MNumbered
numbered (Word n ∷ Mark Equals ∷ Number d ∷ ts) = (n, d) ∷ numbered ts
numbered ts = []

abbrev pub behind_term : List Tok → List MNumbered
behind_term (Keyword k ∷ ts) = if bytes_eq k (codes "term") then numbered ts else []
behind_term ts = []

-- what a line of the section declares
abbrev pub declared_by : Section → List Tok → List MNumbered
declared_by Head tokens = behind_term tokens
declared_by Declarations tokens = behind_term tokens
declared_by section tokens = []

abbrev pub declared_in : List TokenLine → List MNumbered
declared_in [] = []
declared_in (l ∷ ls) = declared_by l.section l.tokens ++ declared_in ls

-- what is declared by the lines before, and by this one before the place
abbrev pub declared_before : List TokenLine → TokenLine → ℕ → List MNumbered
declared_before before l place = declared_in before ++ declared_by l.section (take place l.tokens)

abbrev pub names_of : List MNumbered → List (List ℕ)
names_of all = map (λ t. t.0) all

abbrev pub numbers_of : List MNumbered → List ℕ
numbers_of all = map (λ t. value_of t.1) all

-- the value stands in the list
abbrev pub Among : {A : Type 0} → A → List A → Type 0
Among {A} x xs = (i : ℕ) × (slice_get xs i ≡ Some x)
