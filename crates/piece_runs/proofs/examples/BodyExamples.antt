-- The run of a body that returns 3, while its one block is made.
use Rattle.std.specs.Prelude.{◌≡◌, ◌≤◌, ℕ, zero, suc, ◌+◌, pos, Some, None, List, [], ◌∷◌}
use Rattle.std.proofs.Common.{refl, ap, subst, arith}
use Rattle.lcc_base.specs.Traces.{Event}
use Rattle.lcc_base.specs.declared.order.Order.TheVariants.{Big}
use Rattle.objects.specs.declared.value.Value.TheVariants.{Number}
use Rattle.op_forest.specs.declared.frame.Slot.{Slot}
use Rattle.op_forest.specs.declared.op.Op.{Op}
use Rattle.op_forest.specs.declared.op.Op.TheVariants as op
use Rattle.op_forest.specs.declared.suffix.Suffix.TheVariants.{I}
use Rattle.op_forest.specs.declared.sym.Sym.TheVariants as sym
use Rattle.op_forest.specs.Callees.{Missing}
use Rattle.op_forest.specs.Frames.{IsFrame}
use Rattle.op_forest.specs.Nodes.{Node, Leaf, One}
use Rattle.forests.specs.Bodies.{Setting}
use Rattle.forests.specs.Functions.{Program}
use Rattle.forests.specs.Meaning.{call_of}
use Rattle.forests.specs.Words.{Plain, unknown}
use Rattle.forests.specs.Worlds.{World, Outcome, Exited, Going}
use Rattle.dag_forest.specs.declared.entry.Entry.{Entry}
use Rattle.dag_forest.specs.declared.entry.Entry.TheVariants.{Value, Root}
use Rattle.dag_forest.specs.declared.kids.Kids.{Kids}
use Rattle.dag_forest.specs.declared.kids.Kids.TheVariants as kids
use Rattle.dag_forest.specs.declared.parts.Parts.{Parts}
use Rattle.dag_forest.specs.Schedules.{at}
use Rattle.piece_runs.specs.Pieces.{Piece, OfBlock, Mark, label_root, roots_of, Front}
use Rattle.piece_runs.specs.Reaches.{BodyRun, run_from, Reaches, Stops, Leaves, Finishes}
use Rattle.piece_runs.specs.Laws.{IsSplit, AreSplit, FormedIsSplit}
use Rattle.piece_runs.proofs.lemmas.Reached.{start_is_reached, node_is_reached}

abbrev over : Op → Kids → Parts
over o ks = record { operator = record { op = o; suffix = I }; kids = ks; sym = sym.Nothing; constant = None }

abbrev three : Parts
three = record { operator = record { op = op.Cnst; suffix = I }; kids = kids.Zero; sym = sym.Nothing; constant = Some (pos 3) }

abbrev return : Entry
return = Root (over op.Ret (kids.One 0))

abbrev pieces : List Piece
pieces = OfBlock [] (Value three ∷ return ∷ []) ∷ []

abbrev tree : Node
tree = One (record { operator = record { op = op.Ret; suffix = I }; sym = sym.Nothing; value = None }) (Leaf (record { operator = record { op = op.Cnst; suffix = I }; sym = sym.Nothing; value = Some (pos 3) }))

-- no function is called, and there are no slots
abbrev program : Program
program = record { callee = λ name. Missing; global = λ name. None; order = Big }

abbrev setting : Setting
setting = record { call = call_of program; environment = record { global = program.global; order = Big; home = record { function = 0; place = 0; made = 0; slots = []; words = 0 } } }

abbrev body : BodyRun
body = record { program = program; setting = setting; pieces = pieces }

-- ---- its roots

one_tree : roots_of Big setting.environment.home pieces ≡ tree ∷ []
one_tree = refl

-- behind a label
behind_a_label : roots_of Big setting.environment.home (OfBlock [] [] ∷ Mark 7 ∷ pieces) ≡ label_root 7 ∷ tree ∷ []
behind_a_label = refl

no_slots : IsFrame []
no_slots = record {
  four = λ i s e. absurd (let never : ⊥ = cc in never);
  ends = λ i s e. absurd (let never : ⊥ = cc in never);
  apart = λ i j s t e f. absurd (let never : ⊥ = cc in never);
}

-- each block is split
one_block : FormedIsSplit → AreSplit body
one_block law [] rest before es is =
    let before_is : [] ≡ before = ap (λ (ps : List Piece). before_of ps) is in
    let es_is : Value three ∷ return ∷ [] ≡ es = ap (λ (ps : List Piece). entries_of ps) is in
    subst (λ (b : List Slot). IsSplit body b es) before_is (subst (λ (fs : List Entry). IsSplit body [] fs) es_is (law body [] [] (Value three ∷ return ∷ []) no_slots (tt, (omega arith, tt)) refl))
  where
    before_of : List Piece → List Slot
    before_of [] = []
    before_of (OfBlock before es ∷ ps) = before
    before_of (Mark l ∷ ps) = []

    entries_of : List Piece → List Entry
    entries_of [] = []
    entries_of (OfBlock before es ∷ ps) = es
    entries_of (Mark l ∷ ps) = []
one_block law (p ∷ []) rest before es is = absurd (let never : ⊥ = cc in never)
one_block law (p ∷ q ∷ ps) rest before es is = absurd (let never : ⊥ = cc in never)

-- ---- how far it is

abbrev at_start : Front pieces [] []
at_start = record { more = Value three ∷ return ∷ []; before = []; rest = []; is = refl }

abbrev with_constant : Front pieces [] (Value three ∷ [])
with_constant = record { more = return ∷ []; before = []; rest = []; is = refl }

abbrev run : World → ℕ → Outcome
run w left = run_from body pieces left w

start_reached : (w : World) (k : ℕ) → Reaches body (run w) k [] [] at_start (λ m. unknown) w k
start_reached w k = start_is_reached body at_start w k

constant_reached : (w : World) (k : ℕ) → Reaches body (run w) k [] (Value three ∷ []) with_constant (at (λ m. unknown) 0 (Plain (Number 3))) w k
constant_reached w k = node_is_reached body (run w) k [] [] three at_start with_constant (λ m. unknown) w k (Plain (Number 3)) refl refl refl (λ p alike. refl) (start_reached w k)

returns_three : (w : World) (k : ℕ) → Finishes (run w) k (Some (Plain (Number 3))) w k
returns_three w k = record { steps = 1; is = refl; paid = enough k }
  where
    enough : (k : ℕ) → k ≤ 1 + k
    enough k = omega arith

-- without a turn it may stand still
stands_still : (w : World) → Stops (run w) 0 w.trace
stands_still w = record { steps = 0; world = w; is = refl; paid = omega arith; seen = refl }

-- what has exited stays so
has_exited : (w : World) → Leaves (λ left. Exited 2 w) 2 w
has_exited w = record { steps = 0; is = refl }

-- ---- what is refused

-- the return isn't the block's first entry
other_front : Front pieces [] (return ∷ []) → ⊥
other_front f = first_differs f.is
  where
    first_differs : {before : List Slot} {es : List Entry} {rest : List Piece} → pieces ≡ OfBlock before (return ∷ es) ∷ rest → ⊥
    first_differs e = let never : ⊥ = cc in never

-- it doesn't go on for a turn
goes_on : (w : World) (trace : List Event) → Stops (run w) 1 trace → ⊥
goes_on w trace s = ended s.steps s.world s.paid s.is
  where
    ended : (steps : ℕ) (world : World) → 1 ≤ steps → run w steps ≡ Going world → ⊥
    ended zero world le e = let never : ⊥ = omega arith in never
    ended (suc n) world le e = let never : ⊥ = cc in never
