use Rattle.std.proofs.Common.{◌≡◌, map, refl, sym, ap, ◌∙◌, subst}
use Rattle.std.specs.Prelude.{not, IfErr, IfOk}
use Rattle.c_ast.specs.Trees.{Braced}
use Rattle.c_ast.specs.UnitViews.{initialisers_of}
use Rattle.c_ast.specs.SeenUnits.{initialiser_seen}
use Rattle.c_ast.proofs.lemmas.SeenNodes.{form_list}
use Rattle.c_types.specs.Table.{tags, type_at}
use Rattle.c_meaning.specs.CoreTrees.{seen}
use Rattle.c_meaning.specs.Initialising.{Initialised}
use Rattle.c_meaning.specs.State.{State}
use Rattle.c_meaning.specs.Types.{is_scalar}
use Rattle.c_meaning.specs.Typing.{Fine}
use Rattle.c_check_expr.specs.AtNode.{Tells}
use Rattle.c_check_expr.specs.Kept.{keeps_itself}
use Rattle.c_check_expr.proofs.lemmas.Walking.{memory_stops}
use Rattle.c_initialisers.specs.declared.nodes.Standing.{Standing}
use Rattle.c_initialisers.specs.Objects.{IsFilledIn, filled_in, object_in}
use Rattle.c_initialisers.specs.Storing.{filling_in}
use Rattle.c_initialisers.specs.Wholes.{whole_in, whole_list, whole_value}
use Rattle.c_initialisers.proofs.SeenNodes.{form_expr}
use Rattle.c_initialisers.proofs.WholeWalks.{object_stays, whole_as, whole_list_goes, whole_list_stops, whole_value_goes, whole_value_stops}
use Rattle.c_initialisers.proofs.whole.whole.Goals as goal

pub returns-in_err-c-in-Expr : goal.returns-in_err-c-in-Expr
returns-in_err-c-in-Expr c =
    let i = c.args.i.now in
    let s = c.args.scopes.now in
    let a = c.args.types.now in
    let o = object_in a c.args.object in
    let u = c.expression.new.scopes in
    let b = c.expression.new.types in
    let r = c.from_residual.result in
    whole_as o s u a b r i _ _ c.in-Expr.is (form_expr c.in-Expr.e i.line) (whole_value_stops s a o (not c.can_be_initialised.result) (ap not c.can_be_initialised.ensures) i.line _ u b c.in_err-c-in-Expr.field-0.0 r c.from_residual.ensures.1 c.in_err-c-in-Expr.ensures)

pub returns-in_ok-c-in-Expr : goal.returns-in_ok-c-in-Expr
returns-in_ok-c-in-Expr c =
    let i = c.args.i.now in
    let s = c.args.scopes.now in
    let a = c.args.types.now in
    let o = object_in a c.args.object in
    let u = c.expression.new.scopes in
    let b = c.expression.new.types in
    let d = c.filled_by.new.types in
    let r = c.filled_by.result in
    let k = c.filled_by.ensures in
    let z : Standing = record { is_static = c.args.object.is_static; is_barred = c.args.object.is_barred; is_unfit = not c.can_be_initialised.result } in
    let same = object_stays a b c.args.object.of z c.in_ok-c-in-Expr.ensures.keeps.extends c.requires.of in
    let v = seen (type_at b) c.in_ok-c-in-Expr.c in
    whole_as o s u a d r i _ _ c.in-Expr.is (form_expr c.in-Expr.e i.line)
    (whole_value_goes s a o (not c.can_be_initialised.result) (ap not c.can_be_initialised.ensures) i.line _ u b d c.in_ok-c-in-Expr.c r c.in_ok-c-in-Expr.ensures k.grows
    (subst (λ (w : Initialised). IfOk r (λ f. (t : State) → t.tags ≡ tags b → whole_value t i.line w z.is_unfit v ≡ Fine t (filled_in d f))) same k.ok)
    (subst (λ (w : Initialised). IfErr r (λ e. (t : State) → t.tags ≡ tags b → Tells e (whole_value t i.line w z.is_unfit v))) same k.err) k.within)

pub returns-in_err-begun-in-List : goal.returns-in_err-begun-in-List
returns-in_err-begun-in-List c =
    let s = c.args.scopes.now in
    let a = c.args.types.now in
    memory_stops filled_in IsFilledIn (whole_in s a (object_in a c.args.object) (initialiser_seen c.args.i.now)) s s a a c.from_residual-in_err-begun-in-List.result c.from_residual-in_err-begun-in-List.ensures.1 (keeps_itself s a c.requires.symbols)

pub returns-in_err-inner-in-List : goal.returns-in_err-inner-in-List
returns-in_err-inner-in-List c =
    let i = c.args.i.now in
    let s = c.args.scopes.now in
    let a = c.args.types.now in
    let o = object_in a c.args.object in
    let u = c.items.new.scopes in
    let b = c.items.new.types in
    let r = c.from_residual-in_err-inner-in-List.result in
    let is = initialisers_of (map initialiser_seen c.as_slice-list.result.now) in
    whole_as o s u a b r i _ _ c.in-List.is (form_list c.in-List.list c.in-List.comma i.line ∙ ap (λ l. Braced i.line (initialisers_of (map initialiser_seen l)) c.in-List.comma) (sym c.as_slice-list.ensures))
    (whole_list_stops s a o (not c.can_be_initialised.result) (ap not c.can_be_initialised.ensures) i.line is c.in-List.comma (record { is_static = c.args.object.is_static; is_scalar = c.is_scalar.result }) c.in_ok-begun-in-List.begun refl (c.is_scalar.ensures ∙ ap is_scalar (c.plain.ensures.means a)) c.in_ok-begun-in-List.ensures.is u b c.in_err-inner-in-List.field-0.0 r c.from_residual-in_err-inner-in-List.ensures.1 c.in_err-inner-in-List.ensures.walks)

pub returns-in_ok-inner-in-List : goal.returns-in_ok-inner-in-List
returns-in_ok-inner-in-List c =
    let i = c.args.i.now in
    let s = c.args.scopes.now in
    let a = c.args.types.now in
    let o = object_in a c.args.object in
    let u = c.items.new.scopes in
    let b = c.items.new.types in
    let d = c.close.new.types in
    let r = c.close.result in
    let k = c.close.ensures in
    let z : Standing = record { is_static = c.args.object.is_static; is_barred = c.args.object.is_barred; is_unfit = not c.can_be_initialised.result } in
    let same = object_stays a b c.args.object.of z c.in_ok-inner-in-List.ensures.walks.keeps.extends c.requires.of in
    let v = filling_in b c.in_ok-inner-in-List.inner in
    let is = initialisers_of (map initialiser_seen c.as_slice-list.result.now) in
    whole_as o s u a d r i _ _ c.in-List.is (form_list c.in-List.list c.in-List.comma i.line ∙ ap (λ l. Braced i.line (initialisers_of (map initialiser_seen l)) c.in-List.comma) (sym c.as_slice-list.ensures))
    (whole_list_goes s a o (not c.can_be_initialised.result) (ap not c.can_be_initialised.ensures) i.line is c.in-List.comma (record { is_static = c.args.object.is_static; is_scalar = c.is_scalar.result }) c.in_ok-begun-in-List.begun refl (c.is_scalar.ensures ∙ ap is_scalar (c.plain.ensures.means a)) c.in_ok-begun-in-List.ensures.is u b d c.in_ok-inner-in-List.inner r c.in_ok-inner-in-List.ensures.walks k.grows
    (subst (λ (w : Initialised). IfOk r (λ f. (t : State) → t.tags ≡ tags b → whole_list t i.line w z.is_unfit v ≡ Fine t (filled_in d f))) same k.ok)
    (subst (λ (w : Initialised). IfErr r (λ e. (t : State) → t.tags ≡ tags b → Tells e (whole_list t i.line w z.is_unfit v))) same k.err) k.within)
