-- The nodes of what expressions come to are nodes of the block that is open then.
use Rattle.std.specs.Prelude.{◌≡◌, ℕ, Bool, []}
use Rattle.c_meaning.specs.Values.{CoreTree}
use Rattle.dag_forest.specs.Tally.{node_count}
use Rattle.lowered_forms.specs.Blocks.{IsBlock, IsWithin}
use Rattle.lowered_forms.specs.Contexts.{Context}
use Rattle.lowered_forms.specs.Expressions.{low_e, low_test}
use Rattle.lowered_forms.specs.Lows.{Low}
use Rattle.lowered_forms.specs.Values.{Lowered}

pub record HasNodes (r : Lowered) : Type 0 where
  pub block : IsBlock r.low.entries
  pub value : IsWithin (node_count r.low.entries) r.value.tree

abbrev pub ValuesHaveNodes : Type 0
ValuesHaveNodes = (s : Context) (e : CoreTree) (l : Low) → IsBlock l.entries → HasNodes (low_e s e l)

-- a test ends with a block that is finished
abbrev pub TestsEndBlocks : Type 0
TestsEndBlocks = (s : Context) (e : CoreTree) (n : ℕ) (when : Bool) (l : Low) → (low_test s e n when l).entries ≡ []
