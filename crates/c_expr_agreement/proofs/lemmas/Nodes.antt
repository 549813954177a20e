-- A node that has an expression's value.
use Rattle.std.specs.Prelude.{ℕ, Some, [], ◌∷◌, ◌++◌}
use Rattle.std.proofs.Common.{refl, sym, subst, inl, arith}
use Rattle.forests.specs.Words.{Word}
use Rattle.forests.specs.Worlds.{World, Outcome}
use Rattle.dag_forest.specs.declared.entry.Entry.TheVariants as entry
use Rattle.dag_forest.specs.declared.parts.Parts.{Parts}
use Rattle.dag_forest.specs.Meaning.{Keeps}
use Rattle.dag_forest.specs.Schedules.{at}
use Rattle.dag_forest.specs.Tally.{node_count}
use Rattle.dag_seam.specs.Open.{Open}
use Rattle.dag_forest.proofs.lemmas.Maps.{at_new, at_old}
use Rattle.dag_seam.proofs.lemmas.Opening.{node_open}
use Rattle.c_meaning.specs.Values.{CoreTree}
use Rattle.c_runs.specs.Outcomes.{Result}
use Rattle.c_runs.specs.Worlds as c
use Rattle.c_match.specs.Ranges.{Map}
use Rattle.piece_runs.specs.Pieces.{Front}
use Rattle.piece_runs.specs.Reaches.{acting, keeps_at}
use Rattle.piece_runs.proofs.lemmas.Tails.{keeps_are_same}
use Rattle.piece_runs.proofs.lemmas.Reached.{node_is_reached}
use Rattle.c_expr_agreement.specs.Scenes.{Scene, Place, Stands}
use Rattle.c_expr_agreement.specs.LoweredExpr.{of_node, Gave, CameBehind}
use Rattle.c_expr_agreement.specs.Laws.{with_node, IsPlainNode, IsMeantBy, NodeIsLowered}

module _ (s : Scene) (e : CoreTree) (a : Place) (x : Parts) (node : IsPlainNode s a x) where
  node_gave : (start : ℕ → Outcome) (turns : ℕ) (f : Front s.body.pieces a.done a.entries) (h : Front s.body.pieces a.done (a.entries ++ entry.Value x ∷ [])) (map : Map) (old : c.World) (values : ℕ → Word) (w : World) (k : ℕ)
      → Stands s start turns a f map old values w k → (m : IsMeantBy s e a x f map old values w k) → Gave s start turns a (with_node a x) h (of_node (node_count a.entries)) map old values w (Some m.value) old k
  node_gave start turns f h map old values w k st m = record {
    later = map;
    grown = λ n r is. is;
    others = at values (node_count a.entries) m.word;
    world = w;
    stands = record {
      reaches = node_is_reached s.body start turns a.done a.entries x f h values w k m.word node.free node.plain (node.unkept f) m.now st.reaches;
      matches = st.matches;
      frame = st.frame;
      nodes = subst (λ (keeps : Keeps). Open (acting s.body) keeps (a.entries ++ entry.Value x ∷ []) (at values (node_count a.entries) m.word) w) (keeps_are_same s.body a.done a.entries (a.entries ++ entry.Value x ∷ []) f h)
          (node_open (acting s.body) (keeps_at s.body a.done a.entries f) a.entries node.formed values w st.nodes x node.below m.word (λ plain. m.now));
    };
    left = λ place lt private. refl;
    word = m.word;
    has = at_new values (node_count a.entries) m.word;
    value = m.stands;
    kept = λ g n lt. at_old values (node_count a.entries) m.word n (λ same. let never : ⊥ = omega (arith, lt, same) in never);
  }

pub node_is_lowered : NodeIsLowered
node_is_lowered s e a x node meant = record {
  goes_on = inl (record { more = entry.Value x ∷ []; done = refl; entries = refl });
  comes = λ start turns f h map old values w k st.
      let m = meant f map old values w k st.matches st.frame in
      subst (λ (r : Result). CameBehind s start turns a (with_node a x) h (of_node (node_count a.entries)) map old values w r) (sym m.gives) (node_gave s e a x node start turns f h map old values w k st m);
}
