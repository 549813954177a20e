-- Initialisers by an expression, and the first of a list.
use Rattle.std.proofs.Common.{◌≡◌, ℕ, ◌<◌, Bool, false, List, [], ◌∷◌, length, map, refl, sym, ap, ◌∙◌, arith}
use Rattle.std.specs.Prelude.{slice_index_or}
use Rattle.c_ast.specs.declared.expr.Expr.{Expr}
use Rattle.c_ast.specs.declared.statement.Initialiser.{Initialiser, out-Initialiser}
use Rattle.c_ast.specs.declared.statement.InitialiserForm.{InitialiserForm}
use Rattle.c_ast.specs.declared.statement.InitialiserForm.TheVariants as initialiser_form
use Rattle.c_ast.specs.Trees.{InitialiserTree, ByExpr}
use Rattle.c_ast.specs.Views.{expr_of}
use Rattle.c_ast.specs.UnitViews.{initialisers_of}
use Rattle.c_ast.proofs.lemmas.UnitLayers.{is_expr}
use Rattle.c_ast.specs.SeenUnits.{initialiser_form_seen, initialiser_seen}
use Rattle.c_ast.proofs.lemmas.SeenNodes.{form_list, initialiser_parts}
use Rattle.c_meaning.specs.Filling.{begins_with_text, is_literal}

pub form_expr : (e : _) (line : ℕ) → initialiser_form_seen (initialiser_form.Expr e) line ≡ ByExpr line (expr_of e)
unfolding initialiser_form_seen
form_expr e line = ap (λ (g : ℕ → InitialiserTree). g line) (is_expr e)

-- ---- the first of a list

form_of : (v : Initialiser) (f : InitialiserForm) → (out-Initialiser v).form ≡ f → initialiser_seen v ≡ initialiser_form_seen f (out-Initialiser v).line
form_of v f h = initialiser_parts v ∙ ap (λ g. initialiser_form_seen g (out-Initialiser v).line) h

pub first_expr : (vs : List Initialiser) (v : Initialiser) (e : Expr) → 0 < length vs → v ≡ slice_index_or vs 0 v → (out-Initialiser v).form ≡ initialiser_form.Expr e → begins_with_text (initialisers_of (map initialiser_seen vs)) ≡ is_literal (expr_of e)
first_expr [] v e l h k = absurd (omega arith)
first_expr (x ∷ xs) v e l h k = rw (sym h, form_of v (initialiser_form.Expr e) k, form_expr e (out-Initialiser v).line) refl

pub first_list : (vs : List Initialiser) (v : Initialiser) (is : List Initialiser) (comma : Bool) → 0 < length vs → v ≡ slice_index_or vs 0 v → (out-Initialiser v).form ≡ initialiser_form.List is comma → begins_with_text (initialisers_of (map initialiser_seen vs)) ≡ false
first_list [] v is comma l h k = absurd (omega arith)
first_list (x ∷ xs) v is comma l h k = rw (sym h, form_of v (initialiser_form.List is comma) k, form_list is comma (out-Initialiser v).line) refl
