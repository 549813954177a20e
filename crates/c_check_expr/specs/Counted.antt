-- Specifiers by what they are, and words by how often each stands among them.
use Rattle.std.specs.Prelude.{ℕ, ◌==◌, ◌&&◌, ◌||◌, Bool, true, false, Option, Some, None, List, [], ◌∷◌, count_by, bit_or, if◌then◌else◌}
use Rattle.c_ast.specs.declared.specifier.Storage.{Storage}
use Rattle.c_ast.specs.declared.specifier.BasicType.{BasicType}
use Rattle.c_meaning.specs.TypeConstraints.{is_floating}
use Rattle.c_meaning.specs.TypeRows.{qualifier_bit}
use Rattle.c_meaning.specs.Words.{place_of, count}
use Rattle.c_check_expr.specs.declared.parts.Part.{Part}
use Rattle.c_check_expr.specs.declared.parts.Part.TheVariants as part

-- the word of this place
abbrev pub is_word : ℕ → Part → Bool
is_word place (part.Word w) = place_of w == place
is_word place p = false

abbrev pub is_any_word : Part → Bool
is_any_word (part.Word w) = true
is_any_word p = false

-- `float` or `double` stands there
abbrev pub has_float : List Part → Bool
has_float [] = false
has_float (part.Word w ∷ ps) = is_floating w || has_float ps
has_float (p ∷ ps) = has_float ps

abbrev pub is_whole : Part → Bool
is_whole (part.Whole of) = true
is_whole p = false

-- the first type that stands by itself
abbrev pub first_whole : List Part → Option ℕ
first_whole [] = None
first_whole (part.Whole of ∷ ps) = Some of
first_whole (p ∷ ps) = first_whole ps

abbrev pub classes_among : List Part → List Storage
classes_among [] = []
classes_among (part.Stored c ∷ ps) = c ∷ classes_among ps
classes_among (p ∷ ps) = classes_among ps

abbrev pub qualifier_in : Part → ℕ
qualifier_in (part.Qualified q) = qualifier_bit q
qualifier_in p = 0

abbrev pub qualifiers_among : List Part → ℕ
qualifiers_among [] = 0
qualifiers_among (p ∷ ps) = bit_or (qualifier_in p) (qualifiers_among ps)

-- how often each of the nine words stands
abbrev pub counts_of : (ℕ → ℕ) → List ℕ
counts_of n = n 0 ∷ n 1 ∷ n 2 ∷ n 3 ∷ n 4 ∷ n 5 ∷ n 6 ∷ n 7 ∷ n 8 ∷ []

abbrev pub counted : List Part → List ℕ
counted ps = counts_of (λ n. count_by (is_word n) ps)

abbrev pub counts : List BasicType → List ℕ
counts ws = counts_of (λ n. count n ws)

abbrev pub are_equal : List ℕ → List ℕ → Bool
are_equal [] [] = true
are_equal (n ∷ ns) (m ∷ ms) = (n == m) && are_equal ns ms
are_equal ns ms = false

-- what stands in a table beside these numbers
abbrev pub meant_in : List (List ℕ × ℕ) → List ℕ → Option ℕ
meant_in [] ns = None
meant_in (r ∷ rs) ns = if are_equal ns r.0 then Some r.1 else meant_in rs ns
