-- The body of a function.
use Rattle.std.specs.Prelude.{◌≡◌, ℕ, List, [], length, take}
use Rattle.std.proofs.Common.{subst}
use Rattle.c_types.specs.CType.{CType}
use Rattle.c_meaning.specs.Units.{FunctionTree}
use Rattle.dag_forest.specs.declared.entry.Entry.{Entry}
use Rattle.lowered_forms.specs.Lows.{ended}
use Rattle.lowered_statements.specs.Bodies.{Body, on_low, with_low}
use Rattle.lowered_statements.specs.FunctionBodies.{begun, lowered_in, no_exits, parameters_stored}
use Rattle.lowered_statements.specs.Functions.{Function}
use Rattle.lowered_statements.specs.Layouts.{Layout, first_word}
use Rattle.lowered_statements.specs.Returns.{end_by}
use Rattle.lowered_statements.specs.Statements.{StmtTree, low_s}
use Rattle.lowering_steps.specs.declared.state.State.{State}
use Rattle.lowering_steps.specs.Asking.{Acts}
use Rattle.lowering_steps.proofs.lemmas.Stating.{with_block, acts_shows}
use Rattle.statement_steps.specs.declared.progress.Progress.{Progress}
use Rattle.statement_steps.specs.Progresses.{ShowsBody, Goes, Does}
use Rattle.statement_steps.proofs.lemmas.Going.{body_as, with_state, state_shows}

-- parameters, statements and the end, by what the function has
abbrev filled_in : Function → ℕ → List CType → StmtTree → Body → Body
filled_in g first types t b = on_low (λ l. ended (end_by g.gives_zero l)) (low_s g no_exits t (on_low (λ l. parameters_stored g 0 first types l) b))

pub fills_body : (g : Function) (f : FunctionTree) (first : ℕ) (types : List CType) (t : StmtTree) (p : Progress) (es : List Entry) (q : Progress) (s : State)
    → first ≡ first_word f → types ≡ take f.parameters f.locals → t ≡ f.body
    → Acts p.state.block (λ l. parameters_stored g 0 first types l) es → Does (λ b. low_s g no_exits t b) (with_state p (with_block p.state es)) q → Goes (λ l. ended (end_by g.gives_zero l)) q.state s
    → Does (λ b. lowered_in g f b) p (with_state q s)
fills_body g f first types t p es q s is_first are is_tree act does last = record {
  is = λ b h.
      let l1 = parameters_stored g 0 first types b.low in
      let a = acts_shows p.state b.low (λ l. parameters_stored g 0 first types l) es h.low act in
      let c = does.is (with_low l1 b) (state_shows p (with_block p.state es) b l1 h a) in
      let y : Body = low_s g no_exits t (with_low l1 b) in
      body_as (with_state q s) (filled_in g first types t b) (lowered_in g f b) (λ i. filled_in g (is_first i) (are i) (is_tree i) b)
      (state_shows q s y (ended (end_by g.gives_zero y.low)) c (last.is y.low c.low));
}

-- no piece and no table is there yet, the open block is empty, and the locals have their slots
pub begins : (g : Function) (a : Layout) (p : Progress)
    → p.state.done.items ≡ [] → p.state.block ≡ [] → p.state.frame ≡ a.slots → p.state.labels ≡ length g.labels → p.tables.items ≡ [] → ShowsBody p (begun g a)
begins g a p done block frame labels tables = record { low = record { done = λ order home. done; block = block; frame = frame; labels = labels }; tables = tables }

pub body_is : (h g : Function) (f : FunctionTree) (a : Layout) (p q : Progress) → h ≡ g → ShowsBody p (begun g a) → Does (λ b. lowered_in h f b) p q → ShowsBody q (lowered_in g f (begun g a))
body_is h g f a p q e s d = subst (λ x. ShowsBody q (lowered_in x f (begun g a))) e (d.is (begun g a) s)
