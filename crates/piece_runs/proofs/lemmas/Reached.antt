-- A run comes to the first block, and with further entries to where these come to.
use Rattle.std.specs.Prelude.{◌≡◌, ◌≤◌, ℕ, ◌+◌, Bool, true, false, Option, Some, None, List, [], ◌∷◌, ◌++◌}
use Rattle.std.proofs.Common.{refl, ap, ◌∙◌, subst, arith}
use Rattle.op_forest.specs.Nodes.{Head}
use Rattle.forests.specs.Bodies.{Setting}
use Rattle.forests.specs.Budgets.{with_left}
use Rattle.forests.specs.Words.{Word, unknown}
use Rattle.forests.specs.Worlds.{World, Point}
use Rattle.dag_forest.specs.declared.act.Act.TheVariants.{Made}
use Rattle.dag_forest.specs.declared.entry.Entry.TheVariants.{Value}
use Rattle.dag_forest.specs.Entries.{is_call, is_read}
use Rattle.dag_forest.specs.Meaning.{Keeps, Temporary, HasNow, MadeRuns, is_handing, Ran, Through, RunsBehind, Runs}
use Rattle.dag_forest.specs.Schedules.{head_of, operands, at, in_turn}
use Rattle.dag_forest.specs.Tally.{node_count}
use Rattle.dag_seam.specs.Turns.{made_of}
use Rattle.dag_seam.proofs.lemmas.Runs.{block_runs}
use Rattle.dag_seam.proofs.lemmas.Turns.{node_goes_on}
use Rattle.piece_runs.specs.Pieces.{Piece}
use Rattle.piece_runs.specs.Reaches.{acting, run_from, keeps_at}
use Rattle.piece_runs.specs.Laws.{StartIsReached, EntriesAreReached, NodeIsReached}
use Rattle.piece_runs.proofs.lemmas.Tails.{tails_are_same, keeps_are_same}

same_count : (left k : ℕ) → left + k ≤ left + k
same_count left k = omega arith

pub start_is_reached : StartIsReached
start_is_reached g f w k = record {
  first = w;
  arrives = λ left. record { steps = left; inside = left; paid = same_count left k; runs = ap (λ (ps : List Piece). run_from g ps left w) f.is; block = refl };
}

pub all_paid : (left turns inside steps k j : ℕ) → left + k ≤ inside + j → inside + turns ≤ steps + k → left + turns ≤ steps + j
all_paid left turns inside steps k j x y = omega (arith, x, y)

pub entries_are_reached : EntriesAreReached
entries_are_reached g start turns done es fs acts f h values others w world k j on r go = record {
  first = r.first;
  arrives = λ left.
      let n = go left in
      let m = r.arrives n.0 in
      record {
        steps = m.steps;
        inside = m.inside;
        paid = all_paid left turns n.0 m.steps k j n.1 m.paid;
        runs = m.runs ∙ ap (λ (ps : List Piece). run_from g ps m.inside r.first) (tails_are_same g done es (es ++ fs) f h);
        block = subst (λ (keeps : Keeps). Runs (acting g) keeps (in_turn (es ++ fs) 0 []) (λ m. false) (λ m. unknown) m.inside r.first (Through others (with_left left world))) (keeps_are_same g done es (es ++ fs) f h)
            (block_runs (acting g) (keeps_at g done es f) es fs acts m.inside r.first values n.0 w (Through others (with_left left world)) on m.block n.2);
      };
}

made_runs : (calls : Bool) (kept : Option Temporary) (s : Setting) (keeps : Keeps) (made : ℕ → Bool) (h : Head) (ws : List Word) (left : ℕ) (w : World) (r : Ran) (go : Word → Point → Type 0) (v : Word)
    → calls ≡ false → kept ≡ None → HasNow (is_read h.operator.op) s keeps made h ws w v → go v (with_left left w) → MadeRuns calls kept s keeps made h ws left w r go
made_runs false None s keeps made h ws left w r go v x y now g = (v, now, g)
made_runs false (Some t) s keeps made h ws left w r go v x y now g = absurd (let never : ⊥ = cc in never)
made_runs true kept s keeps made h ws left w r go v x y now g = absurd (let never : ⊥ = cc in never)

-- behind a node that hands nothing on the run is through
behind_node : (calls : Bool) (kept : Option Temporary) (s : Setting) (keeps : Keeps) (made : ℕ → Bool) (values : ℕ → Word) (left : ℕ) (w : World) → calls ≡ false → RunsBehind (is_handing calls kept) s keeps [] made values left w (Through values (with_left left w))
behind_node false kept s keeps made values left w x = refl
behind_node true kept s keeps made values left w x = absurd (let never : ⊥ = cc in never)

pub node_is_reached : NodeIsReached
node_is_reached g start turns done es x f h values w k v free plain unkept now r =
    entries_are_reached g start turns done es (Value x ∷ []) (Made (node_count es) x ∷ []) f h values (at values (node_count es) v) w w k k (node_goes_on es free x plain) r
    (λ left. (
      left,
      same_count left k,
      made_runs (is_call x.operator.op) (keeps_at g done es f (node_count es)) (acting g) (keeps_at g done es f) (made_of es) (head_of x) (operands x.kids values) left w (Through (at values (node_count es) v) (with_left left w))
          _ v plain unkept now (behind_node (is_call x.operator.op) (keeps_at g done es f (node_count es)) (acting g) (keeps_at g done es f) _ (at values (node_count es) v) left w plain),
    ))
