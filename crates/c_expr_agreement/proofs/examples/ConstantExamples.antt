-- A constant, in the body of a function that returns it: its node has its value, from each state in which the body may stand.
use Rattle.std.specs.Prelude.{◌≡◌, ℕ, pos, codes, Some, None, List, [], ◌∷◌}
use Rattle.std.proofs.Common.{refl, sym, ap, ◌∙◌, arith}
use Rattle.lcc_base.specs.declared.order.Order.TheVariants.{Big}
use Rattle.objects.specs.declared.value.Value.TheVariants.{Number}
use Rattle.op_forest.specs.declared.op.Op.{Op}
use Rattle.op_forest.specs.declared.op.Op.TheVariants as op
use Rattle.op_forest.specs.declared.suffix.Suffix.TheVariants.{I}
use Rattle.op_forest.specs.declared.sym.Sym.TheVariants as sym
use Rattle.op_forest.specs.Lowered.{LoweredUnit}
use Rattle.op_forest.specs.Nodes.{Node, Leaf, One}
use Rattle.forests.specs.Bodies.{Setting}
use Rattle.forests.specs.Meaning.{call_of}
use Rattle.forests.specs.Units.{program_of}
use Rattle.forests.specs.Words.{Word, Plain}
use Rattle.forests.specs.Worlds.{World, Outcome}
use Rattle.dag_forest.specs.declared.entry.Entry.TheVariants.{Value, Root}
use Rattle.dag_forest.specs.declared.kids.Kids.{Kids}
use Rattle.dag_forest.specs.declared.kids.Kids.TheVariants as kids
use Rattle.dag_forest.specs.declared.parts.Parts.{Parts}
use Rattle.c_meaning.specs.Units.{UnitTree}
use Rattle.c_runs.specs.Samples.{number, give, main}
use Rattle.c_runs.specs.Samples as sample
use Rattle.c_runs.specs.Worlds as c
use Rattle.c_match.specs.Ranges.{Map}
use Rattle.piece_runs.specs.Pieces.{Piece, OfBlock, Mark, Front, roots_of}
use Rattle.piece_runs.specs.Reaches.{BodyRun, keeps_in, keeps_at}
use Rattle.c_expr_agreement.specs.Scenes.{Scene, Place}
use Rattle.c_expr_agreement.proofs.lemmas.Nodes.{node_is_lowered}
use Rattle.c_expr_agreement.specs.Laws.{with_node}
use Rattle.c_expr_agreement.specs.LoweredExpr.{GrowsTo, PassesTo, of_node, Gave, LoweredExpr}

-- ---- int main() { return 3; }

abbrev source : UnitTree
source = sample.unit (main [] (give (number 1 3) ∷ []) ∷ []) [] []

abbrev over : Op → Kids → Parts
over o ks = record { operator = record { op = o; suffix = I }; kids = ks; sym = sym.Nothing; constant = None }

abbrev three : Parts
three = record { operator = record { op = op.Cnst; suffix = I }; kids = kids.Zero; sym = sym.Nothing; constant = Some (pos 3) }

abbrev pieces : List Piece
pieces = OfBlock [] (Value three ∷ Root (over op.Ret (kids.One 0)) ∷ []) ∷ []

abbrev roots : List Node
roots = One (record { operator = record { op = op.Ret; suffix = I }; sym = sym.Nothing; value = None }) (Leaf (record { operator = record { op = op.Cnst; suffix = I }; sym = sym.Nothing; value = Some (pos 3) })) ∷ []

abbrev target : LoweredUnit
target = record { functions = record { name = 0; words = 0; forest = record { roots = roots; frame = [] } } ∷ []; objects = []; names = codes "main" ∷ []; order = Big }

abbrev setting : Setting
setting = record {
  call = call_of (program_of target);
  environment = record { global = (program_of target).global; order = Big; home = record { function = 0; place = 0; made = 0; slots = []; words = 0 } };
}

abbrev body : BodyRun
body = record { program = program_of target; setting = setting; pieces = pieces }

-- the pieces are the function's roots
pieces_are_roots : roots_of Big setting.environment.home pieces ≡ roots
pieces_are_roots = refl

abbrev scene : Scene
scene = record { unit = source; own = 0; lowered = target; body = body; frame = record { types = []; addresses = []; others = [] } }

-- ---- the constant

abbrev first : Place
first = record { done = []; entries = [] }

abbrev second : Place
second = record { done = []; entries = Value three ∷ [] }

not_kept : (f : Front pieces [] []) → keeps_at body [] [] f 0 ≡ None
not_kept f = ap (λ (ps : List Piece). keeps_in body ps 0) (sym f.is)

three_is_lowered : LoweredExpr scene (number 1 3) first (with_node first three) (of_node 0)
three_is_lowered = node_is_lowered scene (number 1 3) first three
    (record { free = refl; plain = refl; formed = tt; below = tt; unkept = not_kept })
    (λ f map old values w k m q. record { value = Number 3; word = Plain (Number 3); gives = refl; stands = refl; now = λ p alike. refl })

-- ---- another word doesn't stand for it

other_word : (start : ℕ → Outcome) (turns : ℕ) (h : Front pieces [] (Value three ∷ [])) (map : Map) (old : c.World) (values : ℕ → Word) (w : World) (k : ℕ)
    → Gave scene start turns first second h (λ values w u. u ≡ Plain (Number 4)) map old values w (Some (Number 3)) old k → ⊥
other_word start turns h map old values w k g = let same = same_number (sym g.has ∙ g.value) in let never : ⊥ = omega (arith, same) in never
  where
    same_number : {m n : ℕ} → Plain (Number m) ≡ Plain (Number n) → m ≡ n
    same_number e = cc

-- and a block doesn't grow to one without its entries
entries_stay : GrowsTo second first → ⊥
entries_stay g = let e = g.entries in let never : ⊥ = cc in never

-- ---- places

-- a block that was finished, and another one that is open behind a label
passed : PassesTo second (record { done = OfBlock [] (Value three ∷ []) ∷ Mark 1 ∷ []; entries = [] })
passed = record { more = []; before = []; rest = Mark 1 ∷ []; done = refl }
