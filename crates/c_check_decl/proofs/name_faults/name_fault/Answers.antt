use Rattle.std.proofs.Common.{ℕ, List, sym, ◌∙◌}
use Rattle.std.specs.Prelude.{Option}
use Rattle.c_ast.specs.declared.specifier.Storage.{Storage}
use Rattle.c_types.specs.Table.{Table, type_at}
use Rattle.c_meaning.specs.Declarations.{Naming}
use Rattle.c_meaning.specs.TypeRows.{formed}
use Rattle.c_check_expr.specs.Known.{state_of}
use Rattle.c_check_expr.specs.PartsSeen.{steps_seen}
use Rattle.c_check_expr.specs.declared.parts.Step.{Step}
use Rattle.c_check_decl.specs.Named.{linked}
use Rattle.c_check_decl.specs.declared.linkage.Linkage.{Linkage}
use Rattle.c_check_decl.proofs.NameTests.{again_told, inner_class_is, inner_class_told, none_told, otherwise_told}
use Rattle.c_check_decl.proofs.name_faults.name_fault.Goals as goal

abbrev named : Table → Option Storage → List ℕ → Linkage → ℕ → List Step → Naming
named t class name linkage base steps = record { class = class; name = name; of = formed (type_at t base) (steps_seen t steps); linkage = linked linkage }

pub returns-then-has_inner_class : goal.returns-then-has_inner_class
returns-then-has_inner_class c =
    let t = c.args.types.now in
    let s = state_of c.args.scopes.now t in
    let n = named t c.args.class c.args.name.now c.args.linkage c.args.of.0 c.args.of.1.now in
    let i = inner_class_is s n c.has_inner_class.result c.makes_function.result (c.has_inner_class.ensures t) c.makes_function.ensures in
    inner_class_told s n (sym i ∙ c.if-has_inner_class.true)

pub returns-then-is_declared_again : goal.returns-then-is_declared_again
returns-then-is_declared_again c =
    let t = c.args.types.now in
    let s = state_of c.args.scopes.now t in
    let n = named t c.args.class c.args.name.now c.args.linkage c.args.of.0 c.args.of.1.now in
    let i = inner_class_is s n c.has_inner_class.result c.makes_function.result (c.has_inner_class.ensures t) c.makes_function.ensures in
    again_told s n (sym i ∙ c.if-has_inner_class.false) (sym (c.is_declared_again.ensures t) ∙ c.if-is_declared_again.true)

pub returns-then-is_declared_otherwise : goal.returns-then-is_declared_otherwise
returns-then-is_declared_otherwise c =
    let t = c.args.types.now in
    let s = state_of c.args.scopes.now t in
    let n = named t c.args.class c.args.name.now c.args.linkage c.args.of.0 c.args.of.1.now in
    let i = inner_class_is s n c.has_inner_class.result c.makes_function.result (c.has_inner_class.ensures t) c.makes_function.ensures in
    otherwise_told s n (sym i ∙ c.if-has_inner_class.false) (sym (c.is_declared_again.ensures t) ∙ c.if-is_declared_again.false) (sym c.is_declared_otherwise.ensures ∙ c.if-is_declared_otherwise.true)

pub returns : goal.returns
returns c =
    let t = c.args.types.now in
    let s = state_of c.args.scopes.now t in
    let n = named t c.args.class c.args.name.now c.args.linkage c.args.of.0 c.args.of.1.now in
    let i = inner_class_is s n c.has_inner_class.result c.makes_function.result (c.has_inner_class.ensures t) c.makes_function.ensures in
    none_told s n (sym i ∙ c.if-has_inner_class.false) (sym (c.is_declared_again.ensures t) ∙ c.if-is_declared_again.false) (sym c.is_declared_otherwise.ensures ∙ c.if-is_declared_otherwise.false)
