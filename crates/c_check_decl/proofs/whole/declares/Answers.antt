use Rattle.std.proofs.Common.{◌≡◌, sym, ◌∙◌, subst, true≢false}
use Rattle.std.specs.Prelude.{IfOk}
use Rattle.c_types.specs.Table.{type_at}
use Rattle.c_meaning.specs.Declarations.{Declares}
use Rattle.c_check_expr.specs.Known.{state_of}
use Rattle.c_check_decl.specs.Declares.{declares_in, maybe_filled_in}
use Rattle.c_check_decl.specs.Named.{naming_in}
use Rattle.c_check_decl.proofs.WholeDeclares.{declares_linked, declares_static}
use Rattle.c_check_decl.proofs.whole.declares.Goals as goal
use Rattle.c_check_decl.proofs.whole.declares.Goals.{then-is_typedef, else-is_typedef}

pub returns-then-is_linked-clause-is : goal.returns-then-is_linked-clause-is
returns-then-is_linked-clause-is c = λ i e.
    let t = c.args.types.now in
    subst (λ (x : Declares). IfOk c.linked.result (λ d. declares_in t d ≡ x))
    (sym (declares_linked (state_of c.args.scopes.now t) c.args.at.0.line c.args.at.0.place (type_at t c.args.at.0.of) (naming_in t c.args.n.now) i (maybe_filled_in t c.args.filled) (sym c.if-is_linked.ensures)))
    c.linked.ensures.is

pub returns-then-is_function-clause-within : goal.returns-then-is_function-clause-within
returns-then-is_function-clause-within c = c.nothing.ensures.within _

pub returns-then-is_static-clause-is : goal.returns-then-is_static-clause-is
returns-then-is_static-clause-is c = λ i e.
    let t = c.args.types.now in
    subst (λ (x : Declares). IfOk c.alone.result (λ d. declares_in t d ≡ x))
    (sym (declares_static (state_of c.args.scopes.now t) c.args.at.0.line c.args.at.0.place (type_at t c.args.at.0.of) (naming_in t c.args.n.now) i (maybe_filled_in t c.args.filled) (sym c.if-is_linked.ensures)
    (elim c.if-is_typedef.branch [ then-is_typedef w ↦ absurd (true≢false (sym w.if-is_typedef.true ∙ sym w.value-is ∙ c.if-is_function.false)) | else-is_typedef w ↦ rw (sym w.if-is_typedef.ensures) (sym w.is_function.ensures ∙ sym w.value-is ∙ c.if-is_function.false) ]) (sym c.if-is_static.ensures)))
    c.alone.ensures.is
