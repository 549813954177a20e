-- Whether one of a list is a list of names, or makes a typedef name: at one of them, and behind it.
use Rattle.std.proofs.Common.{◌≡◌, ℕ, ◌+◌, ◌<◌, Bool, true, false, ◌||◌, List, ◌∷◌, length, get_or, drop, map, refl, sym, ap, ◌∙◌}
use Rattle.std.proofs.lemmas.List.{at_drop_more}
use Rattle.c_ast.specs.declared.expr.Specifier.{Specifier}
use Rattle.c_ast.specs.declared.expr.Suffix.{Suffix}
use Rattle.c_ast.specs.ExprMarks.{any_typedef, makes_typedef}
use Rattle.c_ast.specs.Levels.{no_name_lists}
use Rattle.c_ast.specs.Trees.{SuffixTree, SuffixTrees, Suffixes, ArraySuffix, Prototype, NameList, NoParameters}
use Rattle.c_ast.specs.Views.{specifier_list_of, suffixes_of}
use Rattle.c_ast.specs.Seen.{specifier_seen, suffix_seen}
use Rattle.c_expr.specs.NameLists.{is_name_list}

past : (t : SuffixTree) (ts : SuffixTrees) → is_name_list t ≡ false → no_name_lists (Suffixes t ts) ≡ no_name_lists ts
past (ArraySuffix l e) ts isnt = refl
past (Prototype l ps more) ts isnt = refl
past (NameList l ns) ts isnt = cc
past (NoParameters l) ts isnt = refl

found : (t : SuffixTree) (ts : SuffixTrees) → is_name_list t ≡ true → no_name_lists (Suffixes t ts) ≡ false
found (ArraySuffix l e) ts one = cc
found (Prototype l ps more) ts one = cc
found (NameList l ns) ts one = refl
found (NoParameters l) ts one = cc

abbrev unlisted : List Suffix → Bool
unlisted xs = no_name_lists (suffixes_of (map suffix_seen xs))

pub behind_suffix : (xs : List Suffix) (i : ℕ) (x : Suffix) → i < length xs → x ≡ get_or xs i x → is_name_list (suffix_seen x) ≡ false → no_name_lists (suffixes_of (map suffix_seen (drop i xs))) ≡ no_name_lists (suffixes_of (map suffix_seen (drop (i + 1) xs)))
behind_suffix xs i x within is isnt = at_drop_more unlisted xs i x within ∙ ap (λ y. unlisted (y ∷ drop (i + 1) xs)) (sym is) ∙ past (suffix_seen x) (suffixes_of (map suffix_seen (drop (i + 1) xs))) isnt

pub at_suffix : (xs : List Suffix) (i : ℕ) (x : Suffix) → i < length xs → x ≡ get_or xs i x → is_name_list (suffix_seen x) ≡ true → no_name_lists (suffixes_of (map suffix_seen (drop i xs))) ≡ false
at_suffix xs i x within is one = at_drop_more unlisted xs i x within ∙ ap (λ y. unlisted (y ∷ drop (i + 1) xs)) (sym is) ∙ found (suffix_seen x) (suffixes_of (map suffix_seen (drop (i + 1) xs))) one

abbrev typedef_in : List Specifier → Bool
typedef_in xs = any_typedef (specifier_list_of (map specifier_seen xs))

pub behind_specifier : (xs : List Specifier) (i : ℕ) (x : Specifier) → i < length xs → x ≡ get_or xs i x → makes_typedef (specifier_seen x) ≡ false → any_typedef (specifier_list_of (map specifier_seen (drop i xs))) ≡ any_typedef (specifier_list_of (map specifier_seen (drop (i + 1) xs)))
behind_specifier xs i x within is isnt = at_drop_more typedef_in xs i x within ∙ ap (λ y. typedef_in (y ∷ drop (i + 1) xs)) (sym is) ∙ ap (λ b. b || typedef_in (drop (i + 1) xs)) isnt

pub at_specifier : (xs : List Specifier) (i : ℕ) (x : Specifier) → i < length xs → x ≡ get_or xs i x → makes_typedef (specifier_seen x) ≡ true → any_typedef (specifier_list_of (map specifier_seen (drop i xs))) ≡ true
at_specifier xs i x within is one = at_drop_more typedef_in xs i x within ∙ ap (λ y. typedef_in (y ∷ drop (i + 1) xs)) (sym is) ∙ ap (λ b. b || typedef_in (drop (i + 1) xs)) one
