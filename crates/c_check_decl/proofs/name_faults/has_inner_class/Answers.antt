use Rattle.std.proofs.Common.{inl, inr, sym, ap, ◌∙◌, true≢false}
use Rattle.std.specs.Prelude.{not}
use Rattle.c_meaning.specs.Declarations.{is_function_class as fits_function}
use Rattle.c_meaning.specs.Linkage.{is_outside as outside}
use Rattle.c_check_expr.specs.Known.{state_of}
use Rattle.c_check_decl.proofs.JoinedTests.{first_holds, second_fails, third_counts}
use Rattle.c_check_decl.proofs.name_faults.has_inner_class.Goals as goal
use Rattle.c_check_decl.proofs.name_faults.has_inner_class.Goals.{then-not-is_outside, else-not-is_outside}

pub returns-then-function : goal.returns-then-function
returns-then-function c t =
    third_counts (outside (state_of c.args.scopes.now t)) c.args.function (fits_function c.args.class) c.is_function_class.result (sym (c.is_outside.ensures t) ∙ c.if-function.true.0) c.if-function.true.1 c.is_function_class.ensures

pub returns-else-function : goal.returns-else-function
returns-else-function c t =
    let o = outside (state_of c.args.scopes.now t) in
    let f = c.args.function in
    let k = fits_function c.args.class in
    elim c.if-not-is_outside.branch [
      | then-not-is_outside w ↦ elim c.if-function.either [
        | inl h ↦ w.t-5-is ∙ second_fails o f k h.1
        | inr h ↦ absurd (true≢false (sym h ∙ w.if-not-is_outside.true))
      ]
      | else-not-is_outside w ↦ w.t-5-is ∙ ap not (c.is_outside.ensures t) ∙ first_holds o f k (sym (c.is_outside.ensures t) ∙ w.if-not-is_outside.false)
    ]
