-- What a block that is asked for templates, and its roots, come to; and operands that wait.
use Rattle.std.specs.Prelude.{◌≡◌, ◌≤◌, ◌<◌, ℕ, Option, Some, length}
use Rattle.objects.specs.declared.value.Value.{Value}
use Rattle.op_forest.specs.declared.op.Op.TheVariants as op
use Rattle.forests.specs.Alike.{AreAlike}
use Rattle.forests.specs.Words.{Word}
use Rattle.forests.specs.Worlds.{World, Outcome}
use Rattle.dag_forest.specs.Tally.{node_count}
use Rattle.c_runs.specs.Outcomes.{Result}
use Rattle.c_runs.specs.Worlds as c
use Rattle.c_match.specs.Ranges.{Map, Grown}
use Rattle.c_match_worlds.specs.Matches.{Matches}
use Rattle.c_rows_agree.specs.Templates.{Template, Root, Gives}
use Rattle.c_rows_agree.specs.Typed.{Typed, Holds}
use Rattle.piece_runs.specs.Pieces.{Front}
use Rattle.piece_runs.specs.Reaches.{keeps_at}
use Rattle.c_expr_agreement.specs.LoweredExpr.{GrowsTo}
use Rattle.c_expr_agreement.specs.Scenes.{Scene, InFrame}
use Rattle.lowered_forms.specs.Asked.{asked}
use Rattle.lowered_forms.specs.Blocks.{IsWithin}
use Rattle.lowered_forms.specs.Lows.{Low, with_entries, acted}
use Rattle.lowered_forms.specs.Values.{placed}
use Rattle.c_straight_agree.specs.Agreement.{HasValue, Came, CameTo}
use Rattle.c_straight_agree.specs.Settled.{seen, IsSettled, IsNear}
use Rattle.c_straight_agree.specs.Standing.{place_of, IsBody, Standing}
use Rattle.c_straight_agree.specs.Stores.{IsStoring}

-- ---- templates

-- The run stands where the block was asked for the template, whose node has this word.
pub record IsAnswered (s : Scene) (start : ℕ → Outcome) (turns : ℕ) (l : Low) (t : Template) (f : Front s.body.pieces l.pieces l.entries) (h : Front s.body.pieces l.pieces (asked t l.entries).entries) (map : Map) (old : c.World) (values : ℕ → Word) (w : World) (k : ℕ) (u : Word) : Type 0 where
  pub others : ℕ → Word
  pub world : World
  pub stands : Standing s start turns (with_entries (asked t l.entries).entries l) h map old others world k
  pub near : IsNear (keeps_at s.body l.pieces l.entries f) (node_count l.entries) values others w world
  pub has : others (asked t l.entries).node ≡ u

-- So it does where the template is settled and gives the word now, whether its nodes were there, are new, or are kept in temporaries.
abbrev pub TemplatesAnswer : Type 0
TemplatesAnswer =
    (s : Scene) (locals : ℕ) → IsBody s locals → (start : ℕ → Outcome) (turns : ℕ) (l : Low) → locals ≤ length l.slots → (f : Front s.body.pieces l.pieces l.entries) (map : Map) (old : c.World) (values : ℕ → Word) (w : World) (k : ℕ)
    → Standing s start turns l f map old values w k → (t : Template) (u : Word) → IsWithin (node_count l.entries) t → IsSettled (keeps_at s.body l.pieces l.entries f) (seen s.body map values w) t → Gives (seen s.body map values w) t u
    → (h : Front s.body.pieces l.pieces (asked t l.entries).entries) → IsAnswered s start turns l t f h map old values w k u

-- ---- operands and roots

-- A template that has a value becomes an operand that has it.
abbrev pub ValuesArePlaced : Type 0
ValuesArePlaced =
    (s : Scene) (locals : ℕ) → IsBody s locals → (start : ℕ → Outcome) (turns : ℕ) (m : Low) → locals ≤ length m.slots → (f : Front s.body.pieces m.pieces m.entries) (map : Map) (old : c.World) (values : ℕ → Word) (w : World) (k : ℕ)
    → Standing s start turns m f map old values w k → (u : Value) (a : Typed) → IsWithin (node_count m.entries) a.tree → IsSettled (keeps_at s.body m.pieces m.entries f) (seen s.body map values w) a.tree → Holds (seen s.body map values w) a u
    → (h : Front s.body.pieces (placed a m).low.pieces (placed a m).low.entries) → Came s start turns m (placed a m).low h (placed a m).value map old values w (Some u) old k

-- A root that stores, wherever the run is once its operands are asked for, acts; and an operand that waits has its value still.
abbrev pub RootsStore : Type 0
RootsStore =
    (s : Scene) (locals : ℕ) → IsBody s locals → (start : ℕ → Outcome) (turns : ℕ) (m : Low) → locals ≤ length m.slots → (f : Front s.body.pieces m.pieces m.entries) (map : Map) (old : c.World) (values : ℕ → Word) (w : World) (k : ℕ)
    → Standing s start turns m f map old values w k → (u : Value) (r : Root) → r.head.operator.op ≡ op.Asgn → (new : c.World) → IsWithin (node_count m.entries) r.left → IsWithin (node_count m.entries) r.right
    → IsSettled (keeps_at s.body m.pieces m.entries f) (seen s.body map values w) r.left → IsSettled (keeps_at s.body m.pieces m.entries f) (seen s.body map values w) r.right
    → ((others : ℕ → Word) (world : World) → IsNear (keeps_at s.body m.pieces m.entries f) (node_count m.entries) values others w world → Matches s.lowered s.own map old world → InFrame s.frame map old world
    → IsStoring s (length m.slots) (keeps_at s.body m.pieces m.entries f) map old new others world r)
    → (a : Typed) → IsWithin (node_count m.entries) a.tree → HasValue s a map values w u → (h : Front s.body.pieces (acted r m).pieces (acted r m).entries) → Came s start turns m (acted r m) h a map old values w (Some u) new k

-- ---- one step behind another

-- An operand that waits has its value where the nodes of its block have theirs, and the same objects live.
abbrev pub OperandsWait : Type 0
OperandsWait =
    (s : Scene) (map later : Map) → Grown map later → (values others : ℕ → Word) (w world : World) → AreAlike w.objects world.objects → (n : ℕ) → ((m : ℕ) → m < n → others m ≡ values m)
    → (a : Typed) (v : Value) → IsWithin n a.tree → HasValue s a map values w v → HasValue s a later others world v

-- What comes of a second step, comes of both.
abbrev pub StepsJoin : Type 0
StepsJoin =
    (s : Scene) (start : ℕ → Outcome) (turns : ℕ) (l m p : Low) (h : Front s.body.pieces m.pieces m.entries) (q : Front s.body.pieces p.pieces p.entries) (a b : Typed) (map : Map) (before : c.World) (values : ℕ → Word) (first : World) (v : Option Value) (old : c.World) (k : ℕ)
    → length l.slots ≤ length m.slots → (GrowsTo (place_of l) (place_of p) → GrowsTo (place_of l) (place_of m) × (GrowsTo (place_of m) (place_of p) × (node_count l.entries ≤ node_count m.entries)))
    → (one : Came s start turns l m h a map before values first v old k) → (r : Result) → CameTo s start turns m p q b one.later old one.others one.world r → CameTo s start turns l p q b map before values first r
