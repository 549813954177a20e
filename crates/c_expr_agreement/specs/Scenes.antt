-- Where an expression of C is evaluated, and the run of a body of forests that stands for it.
use Rattle.std.specs.Prelude.{ℕ, ◌<◌, List, length}
use Rattle.op_forest.specs.Lowered.{LoweredUnit}
use Rattle.forests.specs.Words.{Word}
use Rattle.forests.specs.Worlds.{World, Outcome}
use Rattle.dag_forest.specs.declared.entry.Entry.{Entry}
use Rattle.dag_seam.specs.Open.{Open}
use Rattle.c_types.specs.CType.{CType}
use Rattle.c_meaning.specs.Each.{EachIs}
use Rattle.c_meaning.specs.Units.{UnitTree}
use Rattle.c_runs.specs.Worlds as c
use Rattle.c_match.specs.Left.{IsPrivate}
use Rattle.c_match.specs.Ranges.{Map}
use Rattle.c_match_worlds.specs.Matches.{Matches}
use Rattle.c_agreement.specs.Called.{AreValues}
use Rattle.piece_runs.specs.Pieces.{Piece, Front}
use Rattle.piece_runs.specs.Reaches.{BodyRun, acting, keeps_at, Reaches}

-- The running call's locals: their types and the words of their addresses, in order; and the objects of the call that hold none of them.
pub record Frame : Type 0 where
  pub types : List CType
  pub addresses : List Word
  pub others : List ℕ

-- a unit of C with so many own objects and texts, its forests, and the run of a body of one
pub record Scene : Type 0 where
  pub unit : UnitTree
  pub own : ℕ
  pub lowered : LoweredUnit
  pub body : BodyRun
  pub frame : Frame

-- each local stands at its address, and the other objects are there, and hold nothing of C
pub record InFrame (frame : Frame) (map : Map) (old : c.World) (w : World) : Type 0 where
  pub locals : AreValues map old.locals frame.addresses
  pub others : EachIs (λ place. (place < length w.objects) × IsPrivate map (c.objects old) place) frame.others

-- How far the lowering of a body is: the pieces that are done, and the entries of the open block.
pub record Place : Type 0 where
  pub done : List Piece
  pub entries : List Entry

-- The run comes there, from a start with so many turns, and k are left: the worlds match, the locals stand in the frame, and the
-- open block's nodes have their values.
pub record Stands (s : Scene) (start : ℕ → Outcome) (turns : ℕ) (a : Place) (f : Front s.body.pieces a.done a.entries) (map : Map) (old : c.World) (values : ℕ → Word) (w : World) (k : ℕ) : Type 0 where
  pub reaches : Reaches s.body start turns a.done a.entries f values w k
  pub matches : Matches s.lowered s.own map old w
  pub frame : InFrame s.frame map old w
  pub nodes : Open (acting s.body) (keeps_at s.body a.done a.entries f) a.entries values w
