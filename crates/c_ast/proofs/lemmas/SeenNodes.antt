-- The trees of initialisers and declarations, one layer at a time, as contracts speak of them.
use Rattle.std.proofs.Common.{◌≡◌, ℕ, Option, Some, None, map, refl, ap}
use Rattle.std.specs.Global.{Box}
use Rattle.c_ast.specs.declared.statement.Initialiser.{Initialiser as InitialiserValue, out-Initialiser}
use Rattle.c_ast.specs.declared.statement.InitialiserForm.TheVariants as initialiser_form
use Rattle.c_ast.specs.declared.statement.InitDeclarator.{InitDeclarator}
use Rattle.c_ast.specs.declared.statement.Declaration.{Declaration}
use Rattle.c_ast.specs.Trees.{InitialiserTree, ByExpr, Braced}
use Rattle.c_ast.specs.UnitViews.{boxed_initialiser_of, initialisers_of, option_of}
use Rattle.c_ast.specs.Seen.{declarator_seen, expr_seen, specifiers_seen}
use Rattle.c_ast.specs.SeenUnits.{boxed_initialiser_seen, declaration_seen, init_seen, initialiser_form_seen, initialiser_seen}
use Rattle.c_ast.proofs.lemmas.UnitLayers.{initialiser_is, is_expr, is_list}

pub initialiser_parts : (v : InitialiserValue) → initialiser_seen v ≡ initialiser_form_seen (out-Initialiser v).form (out-Initialiser v).line
unfolding initialiser_seen initialiser_form_seen
initialiser_parts v = initialiser_is v

pub form_expr : (e : _) (line : ℕ) → initialiser_form_seen (initialiser_form.Expr e) line ≡ ByExpr line (expr_seen e)
unfolding initialiser_form_seen expr_seen
form_expr e line = ap (λ (g : ℕ → InitialiserTree). g line) (is_expr e)

pub form_list : (is : _) (comma : _) (line : ℕ) → initialiser_form_seen (initialiser_form.List is comma) line ≡ Braced line (initialisers_of (map initialiser_seen is)) comma
unfolding initialiser_form_seen initialiser_seen
form_list is comma line = ap (λ (g : ℕ → InitialiserTree). g line) (is_list is comma)

pub ruleset initialiser_forms = (initialiser_parts, form_expr, form_list)

any_initialiser : (o : Option (Box InitialiserValue)) → option_of boxed_initialiser_of o ≡ option_of boxed_initialiser_seen o
unfolding initialiser_seen
any_initialiser None = refl
any_initialiser (Some i) = refl

pub init_parts : (v : InitDeclarator) → init_seen v ≡ record { line = v.line; declarator = declarator_seen v.declarator; initialiser = option_of boxed_initialiser_seen v.initialiser }
unfolding init_seen declarator_seen
init_parts v = ap (λ (o : Option InitialiserTree). record { line = v.line; declarator = declarator_seen v.declarator; initialiser = o }) (any_initialiser v.initialiser)

pub declaration_parts : (v : Declaration) → declaration_seen v ≡ record { line = v.line; specifiers = specifiers_seen v.specifiers; declarators = map init_seen v.declarators }
unfolding declaration_seen specifiers_seen init_seen
declaration_parts v = refl

pub ruleset node_parts = (init_parts, declaration_parts)
