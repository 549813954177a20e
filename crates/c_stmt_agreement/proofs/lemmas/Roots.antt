-- A root with one operand, which the run stands before once its operand was asked for.
use Rattle.std.specs.Prelude.{◌≡◌, ◌≤◌, ℕ, List, [], ◌∷◌, ◌++◌, length}
use Rattle.op_forest.specs.Nodes.{Head}
use Rattle.forests.specs.Actions.{Action}
use Rattle.forests.specs.Alike.{AreAlike}
use Rattle.forests.specs.Rows.{acts}
use Rattle.forests.specs.Words.{Word}
use Rattle.forests.specs.Worlds.{World}
use Rattle.dag_forest.specs.declared.entry.Entry.{Entry}
use Rattle.dag_forest.specs.declared.entry.Entry.TheVariants as entry
use Rattle.dag_forest.specs.declared.kids.Kids.TheVariants as kids
use Rattle.dag_forest.specs.declared.parts.Parts.{Parts}
use Rattle.dag_forest.specs.Meaning.{Keeps}
use Rattle.dag_forest.specs.Schedules.{head_of, operands}
use Rattle.dag_forest.specs.Tally.{node_count}
use Rattle.c_runs.specs.Worlds as c
use Rattle.c_rows_agree.specs.Templates.{Template, Gives}
use Rattle.piece_runs.specs.Pieces.{Front}
use Rattle.piece_runs.specs.Reaches.{keeps_at}
use Rattle.lowered_forms.specs.Asked.{with_kids, asked, rooted_one}
use Rattle.lowered_forms.specs.Blocks.{IsWithin}
use Rattle.lowered_forms.specs.Lows.{Low}
use Rattle.lowered_forms.proofs.lemmas.Fronts.{front_before}
use Rattle.c_straight_agree.specs.Agreement.{IsLeftBut}
use Rattle.c_straight_agree.specs.Narrow.{CharsAreNarrow, ShortsAreNarrow}
use Rattle.c_straight_agree.specs.Settled.{seen, IsSettled}
use Rattle.c_straight_agree.specs.Standing.{IsReady}
use Rattle.c_straight_agree.proofs.lemmas.AskedTemplates.{template_answers}
use Rattle.c_straight_agree.proofs.lemmas.At.{At, at_of, front_of, ready_still}
use Rattle.c_straight_agree.proofs.lemmas.Mild.{acts_on_one}
use Rattle.c_straight_agree.proofs.lemmas.Placing.{lone_by}
use Rattle.c_stmt_agreement.specs.Comings.{Activation, HasFrame, Origin}
use Rattle.c_stmt_agreement.specs.LoweredStmt.{StandsAt}

module _ (p : Activation) (o : Origin) (a : Low) (k : ℕ) (at : StandsAt p o a k) (h : Head) (t : Template) where
  abbrev pub keeps : Keeps
  keeps = keeps_at p.scene.body a.pieces a.entries at.front

  -- the block with the operand, and the root over it
  abbrev pub behind : List Entry
  behind = (asked t a.entries).entries

  abbrev pub root : Parts
  root = with_kids h (kids.One (asked t a.entries).node)

  -- The run stands there. Before it nothing was changed but temporaries of the block; and the root's operator does to its operand what it does to this word.
  pub record StandsBefore (u : Word) (f : Front p.scene.body.pieces a.pieces behind) : Type 0 where
    pub values : ℕ → Word
    pub world : World
    pub stands : At p.scene o.start o.turns a.pieces a.slots keeps k o.map o.old behind f values world
    pub alike : AreAlike o.world.objects world.objects
    pub ready : IsReady p.scene world k
    pub left : IsLeftBut p.scene (length a.slots) o.map (c.objects o.old) o.world.objects world.objects
    pub acts : (x : Action) → acts p.scene.body.setting.environment h (u ∷ []) world.objects ≡ x → acts p.scene.body.setting.environment (head_of root) (operands root.kids values) world.objects ≡ x

  module _ (chars : CharsAreNarrow) (shorts : ShortsAreNarrow) (frame : HasFrame p) (le : p.locals ≤ length a.slots) where
    pub root_front : Front p.scene.body.pieces a.pieces (rooted_one h t a.entries) → Front p.scene.body.pieces a.pieces behind
    root_front f = front_of p.scene.body.pieces a.pieces behind (behind ++ entry.Root root ∷ []) (front_before behind (entry.Root root ∷ [])) f

    pub stands_before : (u : Word) → IsWithin (node_count a.entries) t → IsSettled keeps (seen p.scene.body o.map at.values o.world) t → Gives (seen p.scene.body o.map at.values o.world) t u → (f : Front p.scene.body.pieces a.pieces behind) → StandsBefore u f
    stands_before u within settled gives f =
        let x = template_answers chars shorts p.scene p.locals frame.body o.start o.turns a.pieces a.slots le keeps k o.map o.old t a.entries at.front at.values o.world (at_of p.scene o.start o.turns a at.front o.map o.old at.values o.world k at.stands) within settled u gives f in
        record {
          values = x.others;
          world = x.world;
          stands = x.stands;
          alike = x.near.alike;
          ready = ready_still p.scene o.world x.world k x.near.arguments at.stands.ready;
          left = λ place lt private none. x.near.same place (lone_by p.scene p.locals frame.body a.slots a.pieces a.entries at.front at.stands.slots place none);
          acts = λ y e. acts_on_one p.scene.body.setting.environment h x.world.objects (x.others (asked t a.entries).node) u y x.has e;
        }
