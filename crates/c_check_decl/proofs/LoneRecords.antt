-- Specifiers that are the tag of a structure or union, and nothing else.
use Rattle.std.proofs.Common.{◌≡◌, ◌≢◌, ℕ, List, [], ◌∷◌, length, map, refl, sym, ap, ◌∙◌, arith}
use Rattle.std.specs.Prelude.{false, slice_index_or}
use Rattle.c_ast.specs.declared.expr.Specifier.{Specifier, out-Specifier}
use Rattle.c_ast.specs.declared.expr.SpecifierForm.{SpecifierForm}
use Rattle.c_ast.specs.declared.expr.SpecifierForm.TheVariants as specifier_form
use Rattle.c_ast.specs.declared.specifier.RecordKind.{RecordKind}
use Rattle.c_ast.specs.Seen.{specifier_form_seen, specifier_seen}
use Rattle.c_ast.proofs.lemmas.SeenTypes.{form_record_tag, specifier_parts}
use Rattle.c_ast.specs.Trees.{SpecifierTree, SpecifierTrees, NoSpecifiers, Specifiers}
use Rattle.c_ast.specs.Trees as tree
use Rattle.c_ast.specs.Views.{specifier_list_of}
use Rattle.c_check_decl.specs.LoneTags.{is_lone_tag}

more_than_one : (x y : SpecifierTree) (ss : SpecifierTrees) → is_lone_tag (Specifiers x (Specifiers y ss)) ≡ false
more_than_one (tree.Stored l class) y ss = refl
more_than_one (tree.Qualified l qualifier) y ss = refl
more_than_one (tree.Basic l word) y ss = refl
more_than_one (tree.Record l k tag ms) y ss = refl
more_than_one (tree.RecordTag l k tag) y ss = refl
more_than_one (tree.Enum l tag es comma) y ss = refl
more_than_one (tree.EnumTag l tag) y ss = refl
more_than_one (tree.NamedType l x) y ss = refl

pub not_one : (xs : List Specifier) → length xs ≢ 1 → is_lone_tag (specifier_list_of (map specifier_seen xs)) ≡ false
not_one [] h = refl
not_one (x ∷ []) h = absurd (h refl)
not_one (x ∷ y ∷ xs) h = more_than_one (specifier_seen x) (specifier_seen y) (specifier_list_of (map specifier_seen xs))

-- the only one, which has this form
seen_by : (v : Specifier) (f : SpecifierForm) (t : SpecifierTree) → (out-Specifier v).form ≡ f → specifier_form_seen f (out-Specifier v).line ≡ t → specifier_seen v ≡ t
seen_by v f t h e = specifier_parts v ∙ ap (λ g. specifier_form_seen g (out-Specifier v).line) h ∙ e

pub one_tag : (xs : List Specifier) (d e : Specifier) (k : RecordKind) (tag bytes : List ℕ) → length xs ≡ 1 → (out-Specifier (slice_index_or xs 0 d)).form ≡ specifier_form.RecordTag k tag → bytes ≡ tag
    → specifier_list_of (map specifier_seen xs) ≡ Specifiers (tree.RecordTag (out-Specifier (slice_index_or xs 0 e)).line k bytes) NoSpecifiers
one_tag [] d e k tag bytes l h b = absurd (omega arith)
one_tag (x ∷ []) d e k tag bytes l h b =
    ap (λ t. Specifiers t NoSpecifiers) (seen_by x (specifier_form.RecordTag k tag) (tree.RecordTag (out-Specifier x).line k tag) h (form_record_tag k tag (out-Specifier x).line) ∙ ap (tree.RecordTag (out-Specifier x).line k) (sym b))
one_tag (x ∷ y ∷ xs) d e k tag bytes l h b = absurd (omega arith)

pub one_other : (xs : List Specifier) (d : Specifier) (f : SpecifierForm) (t : ℕ → SpecifierTree) → length xs ≡ 1 → (out-Specifier (slice_index_or xs 0 d)).form ≡ f → ((line : ℕ) → specifier_form_seen f line ≡ t line) → ((line : ℕ) → is_lone_tag (Specifiers (t line) NoSpecifiers) ≡ false)
    → is_lone_tag (specifier_list_of (map specifier_seen xs)) ≡ false
one_other [] d f t l h e o = absurd (omega arith)
one_other (x ∷ []) d f t l h e o = ap (λ u. is_lone_tag (Specifiers u NoSpecifiers)) (seen_by x f (t (out-Specifier x).line) h (e (out-Specifier x).line)) ∙ o (out-Specifier x).line
one_other (x ∷ y ∷ xs) d f t l h e o = absurd (omega arith)
