-- Lexemes of which each name is one of C's, and what stands alone among the marks of a tree.
use Rattle.std.specs.Prelude.{ℕ, Bool, true, false, Option, Some, None, List, [], ◌∷◌}
use Rattle.c_ast.specs.declared.specifier.Qualifier.{Qualifier}
use Rattle.c_ast.specs.Lexemes.{Lexeme, Name, Keyword, Integer, Character, Text, Sign}
use Rattle.c_ast.specs.Marks.{Mark, tokens_of}
use Rattle.c_ast.specs.ExprMarks.{texts_then, qualifiers_then, pointers_then, more_names_then, names_then, tag_then, end_then, dots_then, put_then, closed_then, asked_then}
use Rattle.c_tree_names.specs.Names.{IsName, AreNames}

abbrev pub IsNamed : Lexeme → Type 0
IsNamed (Name n) = IsName n
IsNamed (Keyword k) = Unit {0}
IsNamed (Integer v k) = Unit {0}
IsNamed (Character v) = Unit {0}
IsNamed (Text b) = Unit {0}
IsNamed (Sign k) = Unit {0}

abbrev pub AreNamed : List Lexeme → Type 0
AreNamed [] = Unit {0}
AreNamed (l ∷ ls) = IsNamed l × AreNamed ls

-- the names among the marks
abbrev pub Named : List Mark → Type 0
Named ms = AreNamed (tokens_of ms)

pub behind_texts : (bs : List (List ℕ)) (r : List Mark) → Named (texts_then bs r) → Named r
behind_texts [] r h = h
behind_texts (b ∷ bs) r h = behind_texts bs r h.1

pub behind_qualifiers : (qs : List Qualifier) (r : List Mark) → Named (qualifiers_then qs r) → Named r
behind_qualifiers [] r h = h
behind_qualifiers (q ∷ qs) r h = behind_qualifiers qs r h.1

pub behind_pointers : (ps : List (List Qualifier)) (r : List Mark) → Named (pointers_then ps r) → Named r
behind_pointers [] r h = h
behind_pointers (qs ∷ ps) r h = behind_pointers ps r (behind_qualifiers qs (pointers_then ps r) h.1)

pub more_names : (ns : List (List ℕ)) (r : List Mark) → Named (more_names_then ns r) → AreNames ns × Named r
more_names [] r h = (tt, h.1)
more_names (n ∷ ns) r h =
    let p = more_names ns r h.1.1 in
    ((h.1.0, p.0), p.1)

pub listed_names : (ns : List (List ℕ)) (r : List Mark) → Named (names_then ns r) → AreNames ns × Named r
listed_names [] r h = (tt, h.1)
listed_names (n ∷ ns) r h =
    let p = more_names ns r h.1 in
    ((h.0, p.0), p.1)

pub behind_tag : (tag : Option (List ℕ)) (r : List Mark) → Named (tag_then tag r) → Named r
behind_tag None r h = h
behind_tag (Some n) r h = h.1

pub behind_end : (comma : Bool) (r : List Mark) → Named (end_then comma r) → Named r
behind_end true r h = h.1.1
behind_end false r h = h.1

pub behind_dots : (more : Bool) (r : List Mark) → Named (dots_then more r) → Named r
behind_dots true r h = h.1.1.1
behind_dots false r h = h.1

pub behind_put : (n : Option (List ℕ)) (typedef : Bool) (r : List Mark) → Named (put_then n typedef r) → Named r
behind_put None typedef r h = h
behind_put (Some n) typedef r h = h

pub behind_closed : (own : Bool) (r : List Mark) → Named (closed_then own r) → Named r
behind_closed true r h = h
behind_closed false r h = h

pub behind_asked : (free answer : Bool) (r : List Mark) → Named (asked_then free answer r) → Named r
behind_asked true answer r h = h
behind_asked false answer r h = h
