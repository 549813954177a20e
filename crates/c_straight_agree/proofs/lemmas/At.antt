-- Where a run stands in an open block with these temporaries, and that it stands there whatever the block comes to be.
use Rattle.std.specs.Prelude.{◌≡◌, ◌≤◌, ℕ, false, List, [], ◌∷◌, ◌++◌}
use Rattle.std.proofs.Common.{refl, sym, ap, subst, ◌∙◌, arith, append_assoc}
use Rattle.op_forest.specs.declared.frame.Slot.{Slot}
use Rattle.forests.specs.Budgets.{with_left}
use Rattle.forests.specs.Words.{Word, unknown}
use Rattle.forests.specs.Worlds.{World, Outcome}
use Rattle.dag_forest.specs.declared.entry.Entry.{Entry}
use Rattle.dag_forest.specs.Meaning.{Keeps, Through, Runs}
use Rattle.dag_forest.specs.Schedules.{in_turn}
use Rattle.dag_seam.specs.Open.{Open}
use Rattle.dag_seam.specs.Turns.{waiting}
use Rattle.c_runs.specs.Worlds as c
use Rattle.c_match.specs.Ranges.{Map}
use Rattle.c_match_worlds.specs.Matches.{Matches}
use Rattle.piece_runs.specs.Pieces.{Piece, OfBlock, Front}
use Rattle.piece_runs.specs.Reaches.{BodyRun, acting, run_from, keeps_at, Reaches}
use Rattle.piece_runs.proofs.lemmas.Tails.{tails_are_same, keeps_are_same}
use Rattle.c_expr_agreement.specs.Scenes.{Scene, InFrame}
use Rattle.lowered_forms.specs.Blocks.{IsBlock}
use Rattle.lowered_forms.specs.Later.{IsFront}
use Rattle.lowered_forms.specs.Lows.{Low}
use Rattle.c_straight_agree.specs.Standing.{AreFree, IsReady, Standing}

pub record At (s : Scene) (start : ℕ → Outcome) (turns : ℕ) (done : List Piece) (slots : List Slot) (keeps : Keeps) (k : ℕ) (map : Map) (old : c.World) (es : List Entry) (f : Front s.body.pieces done es) (values : ℕ → Word) (w : World) : Type 0 where
  pub block : IsBlock es
  pub none_waits : waiting es ≡ []
  pub behind : IsFront slots f.before
  pub reaches : Reaches s.body start turns done es f values w k
  pub matches : Matches s.lowered s.own map old w
  pub frame : InFrame s.frame map old w
  pub opened : Open (acting s.body) keeps es values w
  pub free : AreFree s.body w
  pub keeps_is : keeps_at s.body done es f ≡ keeps

-- ---- fronts

-- a front of what a front goes on from
pub front_of : (all done : List Piece) (es fs : List Entry) → IsFront es fs → Front all done fs → Front all done es
front_of all done es fs p f = record {
  more = p.more ++ f.more;
  before = f.before;
  rest = f.rest;
  is = f.is ∙ ap (λ (gs : List Entry). done ++ OfBlock f.before gs ∷ f.rest) (ap (λ (gs : List Entry). gs ++ f.more) p.is ∙ append_assoc es p.more f.more);
}

same_before : {a b : List Slot} {es fs : List Entry} {ps qs : List Piece} → (OfBlock a es ∷ ps) ≡ (OfBlock b fs ∷ qs) → a ≡ b
same_before e = cc

pub before_same : (g : BodyRun) (done : List Piece) (es fs : List Entry) (f : Front g.pieces done es) (h : Front g.pieces done fs) → f.before ≡ h.before
before_same g done es fs f h = same_before (tails_are_same g done es fs f h)

pub behind_same : (g : BodyRun) (slots : List Slot) (done : List Piece) (es fs : List Entry) (f : Front g.pieces done es) (h : Front g.pieces done fs) → IsFront slots f.before → IsFront slots h.before
behind_same g slots done es fs f h p = subst (IsFront slots) (before_same g done es fs f h) p

reaches_same : (g : BodyRun) (start : ℕ → Outcome) (turns : ℕ) (done : List Piece) (es : List Entry) (f h : Front g.pieces done es) (values : ℕ → Word) (w : World) (k : ℕ) → Reaches g start turns done es f values w k → Reaches g start turns done es h values w k
reaches_same g start turns done es f h values w k r = record {
  first = r.first;
  arrives = λ left.
      let m = r.arrives left in
      record {
        steps = m.steps;
        inside = m.inside;
        paid = m.paid;
        runs = m.runs ∙ ap (λ (ps : List Piece). run_from g ps m.inside r.first) (tails_are_same g done es es f h);
        block = subst (λ (keeps : Keeps). Runs (acting g) keeps (in_turn es 0 []) (λ n. false) (λ n. unknown) m.inside r.first (Through values (with_left left w))) (keeps_are_same g done es es f h) m.block;
      };
}

module _ (s : Scene) (start : ℕ → Outcome) (turns : ℕ) (done : List Piece) (slots : List Slot) (keeps : Keeps) (k : ℕ) (map : Map) (old : c.World) where
  -- whatever it comes to be
  pub at_front : (es : List Entry) (f h : Front s.body.pieces done es) (values : ℕ → Word) (w : World) → At s start turns done slots keeps k map old es f values w → At s start turns done slots keeps k map old es h values w
  at_front es f h values w at = record {
    block = at.block;
    none_waits = at.none_waits;
    behind = behind_same s.body slots done es es f h at.behind;
    reaches = reaches_same s.body start turns done es f h values w k at.reaches;
    matches = at.matches;
    frame = at.frame;
    opened = at.opened;
    free = at.free;
    keeps_is = sym (keeps_are_same s.body done es es f h) ∙ at.keeps_is;
  }

-- ---- states

-- calls may be made where no argument word was passed, and where fewer turns are left
pub ready_still : (s : Scene) (w v : World) (k : ℕ) → v.arguments ≡ w.arguments → IsReady s w k → IsReady s v k
ready_still s w v k same ready = record { arguments = same ∙ ready.arguments; callees = ready.callees }

pub ready_fewer : (s : Scene) (w : World) (k j : ℕ) → j ≤ k → IsReady s w k → IsReady s w j
ready_fewer s w k j le ready = record { arguments = ready.arguments; callees = λ i lt function there. ready.callees i (omega (arith, le, lt)) function there }

pub at_of : (s : Scene) (start : ℕ → Outcome) (turns : ℕ) (l : Low) (f : Front s.body.pieces l.pieces l.entries) (map : Map) (old : c.World) (values : ℕ → Word) (w : World) (k : ℕ) → Standing s start turns l f map old values w k
    → At s start turns l.pieces l.slots (keeps_at s.body l.pieces l.entries f) k map old l.entries f values w
at_of s start turns l f map old values w k st = record {
  block = st.block;
  none_waits = st.none_waits;
  behind = st.slots;
  reaches = st.stands.reaches;
  matches = st.stands.matches;
  frame = st.stands.frame;
  opened = st.stands.nodes;
  free = st.free;
  keeps_is = refl;
}

pub standing_of : (s : Scene) (start : ℕ → Outcome) (turns : ℕ) (l : Low) (f : Front s.body.pieces l.pieces l.entries) (map : Map) (old : c.World) (values : ℕ → Word) (w : World) (k : ℕ) (keeps : Keeps)
    → At s start turns l.pieces l.slots keeps k map old l.entries f values w → IsReady s w k → Standing s start turns l f map old values w k
standing_of s start turns l f map old values w k keeps at ready = record {
  stands = record {
    reaches = at.reaches;
    matches = at.matches;
    frame = at.frame;
    nodes = subst (λ (z : Keeps). Open (acting s.body) z l.entries values w) (sym at.keeps_is) at.opened;
  };
  block = at.block;
  none_waits = at.none_waits;
  slots = at.behind;
  free = at.free;
  ready = ready;
}
