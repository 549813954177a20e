-- An expression that is a node.
use Rattle.std.specs.Prelude.{◌≡◌, ℕ, false, None, [], ◌∷◌, ◌++◌}
use Rattle.objects.specs.declared.value.Value.{Value}
use Rattle.forests.specs.Words.{Word}
use Rattle.forests.specs.Worlds.{World}
use Rattle.dag_forest.specs.declared.entry.Entry.TheVariants as entry
use Rattle.dag_forest.specs.declared.parts.Parts.{Parts}
use Rattle.dag_forest.specs.Entries.{AreBelow, is_call}
use Rattle.dag_forest.specs.Tally.{AreFormed, node_count}
use Rattle.dag_seam.specs.Open.{IsNow}
use Rattle.dag_seam.specs.Turns.{made_of, waiting}
use Rattle.c_meaning.specs.Values.{CoreTree}
use Rattle.c_runs.specs.Expressions.{eval}
use Rattle.c_runs.specs.Outcomes.{Gives}
use Rattle.c_runs.specs.Run.{context}
use Rattle.c_runs.specs.Worlds as c
use Rattle.c_match.specs.Ranges.{Map}
use Rattle.c_match.specs.Values.{IsValue}
use Rattle.c_match_worlds.specs.Matches.{Matches}
use Rattle.piece_runs.specs.Pieces.{Front}
use Rattle.piece_runs.specs.Reaches.{acting, keeps_at}
use Rattle.c_expr_agreement.specs.Scenes.{Scene, InFrame, Place}
use Rattle.c_expr_agreement.specs.LoweredExpr.{of_node, LoweredExpr}

abbrev pub with_node : Place → Parts → Place
with_node a x = record { done = a.done; entries = a.entries ++ entry.Value x ∷ [] }

-- a node that may be added: no call, of earlier nodes, where nothing waits, and without a temporary
pub record IsPlainNode (s : Scene) (a : Place) (x : Parts) : Type 0 where
  pub free : waiting a.entries ≡ []
  pub plain : is_call x.operator.op ≡ false
  pub formed : AreFormed a.entries 0
  pub below : AreBelow (node_count a.entries) x.kids
  pub unkept : (f : Front s.body.pieces a.done a.entries) → keeps_at s.body a.done a.entries f (node_count a.entries) ≡ None

-- The expression changes nothing, and its value is what the node's operator gives now, where the worlds match.
pub record IsMeantBy (s : Scene) (e : CoreTree) (a : Place) (x : Parts) (f : Front s.body.pieces a.done a.entries) (map : Map) (old : c.World) (values : ℕ → Word) (w : World) (k : ℕ) : Type 0 where
  pub value : Value
  pub word : Word
  pub gives : eval (context s.unit s.lowered.order) e k old ≡ Gives value k old
  pub stands : IsValue map value word
  pub now : IsNow (acting s.body) (keeps_at s.body a.done a.entries f) (made_of a.entries) x values w word

-- So such a node is added for it.
abbrev pub NodeIsLowered : Type 0
NodeIsLowered =
    (s : Scene) (e : CoreTree) (a : Place) (x : Parts) → IsPlainNode s a x
    → ((f : Front s.body.pieces a.done a.entries) (map : Map) (old : c.World) (values : ℕ → Word) (w : World) (k : ℕ) → Matches s.lowered s.own map old w → InFrame s.frame map old w → IsMeantBy s e a x f map old values w k)
    → LoweredExpr s e a (with_node a x) (of_node (node_count a.entries))
