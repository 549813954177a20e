use Rattle.std.proofs.Common.{ap, refl, sym, ◌∙◌}
use Rattle.c_meaning.specs.State.{place_here}
use Rattle.c_units.specs.Functions.{with_listed}
use Rattle.c_check_expr.specs.Kept.{keeps_itself, keeps_on}
use Rattle.c_check_expr.specs.Known.{state_of}
use Rattle.c_check_function.proofs.ListedNames.{listed_end, listed_on}
use Rattle.c_check_function.proofs.parameters.declare_listed.Goals as goal

pub loop-index-init : goal.loop-index-init
loop-index-init c = record { state = refl; kept = keeps_itself c.args.scopes.now c.args.types.now c.requires }

pub declare_one-requires : goal.declare_one-requires
declare_one-requires c = c.loop-index.invariant.kept.symbols

pub returns-in_err-declare_one-clause-keeps : goal.returns-in_err-declare_one-clause-keeps
returns-in_err-declare_one-clause-keeps c =
    let t = c.args.types.now in
    keeps_on c.args.scopes.now c.loop-index.scopes c.declare_one.new.scopes t t t c.loop-index.invariant.kept c.in_err-declare_one.ensures.keeps

pub loop-index-preserved : goal.loop-index-preserved
loop-index-preserved c =
    let s = c.loop-index.scopes in
    let t = c.args.types.now in
    let st = state_of s t in
    record {
      state =
          listed_on st c.args.line c.args.names.now c.loop-index.index c.index-names-index.result c.loop-index-test.true c.index-names-index.is (state_of c.declare_one.new.scopes t)
          (c.in_ok-declare_one.ensures.state ∙ ap (λ n. with_listed st c.args.line c.loop-index.index n (place_here st n)) c.as_slice.ensures)
          ∙ c.loop-index.invariant.state;
      kept = keeps_on c.args.scopes.now s c.declare_one.new.scopes t t t c.loop-index.invariant.kept c.in_ok-declare_one.ensures.keeps;
    }

pub returns-clause-state : goal.returns-clause-state
returns-clause-state c = sym (listed_end (state_of c.loop-index.scopes c.args.types.now) c.args.line c.args.names.now c.loop-index.index c.loop-index-test.false) ∙ c.loop-index.invariant.state

pub returns-clause-keeps : goal.returns-clause-keeps
returns-clause-keeps c = c.loop-index.invariant.kept
