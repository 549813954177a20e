-- An expression's node in the open block.
use Rattle.std.specs.Prelude.{ℕ, List}
use Rattle.std.proofs.Common.{sym, ap, ◌∙◌}
use Rattle.dag_forest.specs.declared.entry.Entry.{Entry}
use Rattle.c_rows_agree.specs.Templates.{Template}
use Rattle.lowered_forms.specs.Asked.{Asked, asked}
use Rattle.lowered_forms.specs.Handed.{handed, handed_as, with_asked}
use Rattle.lowered_forms.specs.Lows.{with_entries}
use Rattle.lowered_forms.specs.Values.{Lowered}
use Rattle.lowering_steps.specs.declared.operand.Operand.{Operand}
use Rattle.lowering_steps.specs.declared.state.State.{State}
use Rattle.lowering_steps.specs.Asking.{Asks}
use Rattle.lowering_steps.specs.Operands.{template_of}
use Rattle.lowering_steps.specs.States.{Comes}
use Rattle.lowering_steps.proofs.lemmas.Stating.{with_block, block_shows}
use Rattle.c_lower_expr.specs.Places.{NodeComes}

pub node_comes : (s : State) (v : Operand) (r : Lowered) (n : ℕ) (es : List Entry) → Comes s v r → Asks s.block (handed_as v.suffix (template_of v)) n es → NodeComes (with_block s es) n (handed r)
node_comes s v r n es x a =
    let t : Template = handed_as v.suffix (template_of v) in
    record {
      low = with_entries es x.low;
      is = ap handed x.is ∙ ap (λ (y : List Entry). with_asked (asked t y) x.low) (sym x.shows.block) ∙ ap (λ (y : Asked). with_asked y x.low) a.is;
      shows = block_shows s x.low es x.shows;
    }
