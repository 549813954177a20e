-- Specifiers that declare a tag, and declarations that declare anything.
use Rattle.std.proofs.Common.{◌≡◌, ℕ, ◌+◌, ◌<◌, Bool, true, false, List, [], ◌∷◌, length, get_or, drop, map, refl, sym, ap, ◌∙◌, true≢false}
use Rattle.std.specs.Prelude.{◌||◌, not, IsTrue}
use Rattle.std.proofs.lemmas.List.{at_drop_more}
use Rattle.c_ast.specs.declared.expr.Specifier.{Specifier, out-Specifier}
use Rattle.c_ast.specs.declared.statement.Declaration.{Declaration}
use Rattle.c_ast.specs.declared.statement.InitDeclarator.{InitDeclarator}
use Rattle.c_ast.specs.Seen.{specifier_form_seen, specifier_seen, specifiers_seen}
use Rattle.c_ast.proofs.lemmas.SeenTypes.{specifier_parts}
use Rattle.c_ast.specs.SeenUnits.{declaration_seen, init_seen}
use Rattle.c_ast.proofs.lemmas.SeenNodes.{declaration_parts}
use Rattle.c_ast.specs.Views.{specifier_list_of}
use Rattle.c_meaning.specs.Declaring.{declare_tag, declares_something, declares_tag, is_some_init, list_of}

-- ---- tags

abbrev pub tagged : List Specifier → Bool
tagged l = declare_tag (specifier_list_of (map specifier_seen l))

pub tag_first : (l : List Specifier) (i : ℕ) (x : Specifier) (b : Bool) → i < length l → x ≡ get_or l i x → ((line : ℕ) → b ≡ declares_tag (specifier_form_seen (out-Specifier x).form line)) → tagged (drop i l) ≡ (b || tagged (drop (i + 1) l))
tag_first l i x b h e f =
    at_drop_more tagged l i x h ∙ ap (λ y. tagged (y ∷ drop (i + 1) l)) (sym e) ∙ ap (λ c. c || tagged (drop (i + 1) l)) (ap declares_tag (specifier_parts x) ∙ sym (f (out-Specifier x).line))

-- ---- names

some_init : (is : List InitDeclarator) → (is ≡ [] → IsTrue false) → is_some_init (map init_seen is) ≡ true
some_init [] h = absurd (true≢false (sym (h refl)))
some_init (i ∷ is) h = refl

pub names_declared : (d : Declaration) (b : Bool) → b ≡ false → (d.declarators ≡ [] → IsTrue false) → not b ≡ declares_something (declaration_seen d)
names_declared d b e h = rw (e, declaration_parts d, some_init d.declarators h) refl

pub tags_declared : (d : Declaration) (b : Bool) → d.declarators ≡ [] → b ≡ declare_tag (list_of (specifiers_seen d.specifiers)) → b ≡ declares_something (declaration_seen d)
tags_declared d b e h = rw (declaration_parts d, e) h
