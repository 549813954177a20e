-- The object that a declared name's initialiser is for, and whether it becomes zero as a whole first.
use Rattle.std.proofs.Common.{◌≡◌, ℕ, List, refl, sym, ap, ◌∙◌}
use Rattle.std.specs.Prelude.{Bool, true, false, ◌&&◌, ◌||◌, not, Option, Some, None, IfNone, IfSome, is_some}
use Rattle.std.specs.Global.{Box}
use Rattle.c_ast.specs.declared.expr.Expr.{Expr}
use Rattle.c_ast.specs.declared.statement.Initialiser.{Initialiser, out-Initialiser}
use Rattle.c_ast.specs.declared.statement.InitialiserForm.{InitialiserForm}
use Rattle.c_ast.specs.declared.statement.InitialiserForm.TheVariants as initialiser_form
use Rattle.c_ast.specs.SeenUnits.{boxed_initialiser_seen, initialiser_form_seen, initialiser_seen}
use Rattle.c_ast.proofs.lemmas.SeenNodes.{form_expr, form_list, initialiser_parts}
use Rattle.c_ast.specs.Trees.{InitialiserTree}
use Rattle.c_ast.specs.UnitViews.{option_of}
use Rattle.c_types.specs.CType.{CType, Array}
use Rattle.c_types.specs.Table.{Table, type_at}
use Rattle.c_meaning.specs.Declarations.{Naming, is_extern, is_static, is_typedef, is_zeroed}
use Rattle.c_meaning.specs.Declaring.{initialised}
use Rattle.c_meaning.specs.Linkage.{is_linked, is_outside}
use Rattle.c_meaning.specs.State.{State}
use Rattle.c_meaning.specs.Types.{is_array, is_scalar}
use Rattle.c_initialisers.specs.declared.public.Initialised.{Initialised}
use Rattle.c_initialisers.specs.Objects.{object_in}

pub object_as : (t : Table) (s : State) (o : Initialised) (n : Naming) → type_at t o.of ≡ n.of → o.is_static ≡ (is_linked n.linkage || is_static n.class) → o.is_barred ≡ (is_typedef n.class || (is_extern n.class && not (is_outside s))) → object_in t o ≡ initialised s n
object_as t s o n e f g = rw (e, f, g) refl

-- a block's `extern`, and the same at file scope
pub barred_extern : (typedef extern outside answer : Bool) → false ≡ typedef → true ≡ extern → answer ≡ outside → not answer ≡ (typedef || (extern && not outside))
barred_extern typedef extern outside answer e f g = rw (← e, ← f, g) refl

-- ---- what becomes zero

seen_by : (v : Option (Box Initialiser)) (i : Box Initialiser) (w : Initialiser) (f : InitialiserForm) (t : ℕ → InitialiserTree) → v ≡ Some i → w ≡ i.value → (out-Initialiser w).form ≡ f → ((line : ℕ) → initialiser_form_seen f line ≡ t line) → option_of boxed_initialiser_seen v ≡ Some (t (out-Initialiser w).line)
seen_by v i w f t h k e x =
    ap (option_of boxed_initialiser_seen) h ∙ ap (λ y. Some (initialiser_seen y)) (sym k) ∙ ap Some (initialiser_parts w ∙ ap (λ g. initialiser_form_seen g (out-Initialiser w).line) e ∙ x (out-Initialiser w).line)

pub zeroed_list : (of : CType) (v : Option (Box Initialiser)) (i : Box Initialiser) (w : Initialiser) (is : List Initialiser) (comma : Bool) → v ≡ Some i → w ≡ i.value → (out-Initialiser w).form ≡ initialiser_form.List is comma → is_zeroed of (option_of boxed_initialiser_seen v) ≡ not (is_scalar of)
zeroed_list of v i w is comma h k e = ap (is_zeroed of) (seen_by v i w (initialiser_form.List is comma) _ h k e (form_list is comma))

pub zeroed_expr : (of : CType) (v : Option (Box Initialiser)) (i : Box Initialiser) (w : Initialiser) (x : Expr) → v ≡ Some i → w ≡ i.value → (out-Initialiser w).form ≡ initialiser_form.Expr x → is_zeroed of (option_of boxed_initialiser_seen v) ≡ is_array of
zeroed_expr of v i w x h k e = ap (is_zeroed of) (seen_by v i w (initialiser_form.Expr x) _ h k e (form_expr x))

-- an array is what has elements
pub has_element : {V : Type 0} (of : CType) (element : V → CType) (r : Option V) → IfSome r (λ e. (n : Option ℕ) × (of ≡ Array (element e) n)) → IfNone r (is_array of ≡ false) → is_some r ≡ is_array of
has_element of element (Some e) h k = sym (ap is_array h.1)
has_element of element None h k = sym k
