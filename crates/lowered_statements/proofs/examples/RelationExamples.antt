-- What stands for the relations of bodies, and what they refuse.
use Rattle.std.specs.Prelude.{◌∷◌, ◌≡◌, Some, []}
use Rattle.c_meaning.specs.StmtTrees as stmt
use Rattle.op_forest.specs.Frames.{IsFrame}
use Rattle.piece_runs.specs.Pieces.{OfBlock}
use Rattle.lowered_forms.specs.Blocks.{IsBlock}
use Rattle.lowered_forms.proofs.lemmas.Pending.{empty_block}
use Rattle.lowered_statements.specs.Bodies.{Body, with_table}
use Rattle.lowered_statements.specs.Framed.{IsFramed}
use Rattle.lowered_statements.specs.Later.{GoesOn}
use Rattle.lowered_statements.specs.Statements.{low_s}
use Rattle.lowered_statements.specs.Steps.{BodySteps}
use Rattle.lowered_statements.proofs.examples.Samples.{function_with, begun_with, exits, local_read, number, slots, int}
use Rattle.lowered_statements.proofs.lemmas.Adding.{statements_add}
use Rattle.lowered_statements.proofs.lemmas.Framing.{statements_keep_frames}
use Rattle.lowered_statements.proofs.lemmas.Laying.{layout_is_frame}
use Rattle.lowered_statements.proofs.lemmas.Leaving.{statements_leave}

-- while (x) return 1;
abbrev left : Body
left = low_s (function_with []) exits (stmt.While local_read (stmt.Return (Some (number 1)))) (begun_with 0)

left_goes_on : GoesOn (begun_with 0) left
left_goes_on = statements_add (function_with []) exits (stmt.While local_read (stmt.Return (Some (number 1)))) (begun_with 0)

left_is_block : IsBlock left.low.entries
left_is_block = statements_leave (function_with []) exits (stmt.While local_read (stmt.Return (Some (number 1)))) (begun_with 0) empty_block

-- with a table less
not_with_fewer_tables : GoesOn (with_table [] (begun_with 0)) (begun_with 0) → ⊥
not_with_fewer_tables h = let e = h.tables.is in let never : ⊥ = cc in never

-- a table is made in a step, so not every step keeps the tables
tables_grow : BodySteps (λ a b. b.tables ≡ a.tables) → ⊥
tables_grow k = let e = k.table [] (begun_with 0) in let never : ⊥ = cc in never

-- ---- frames

left_is_framed : IsFramed left.low
left_is_framed = statements_keep_frames (function_with []) exits (stmt.While local_read (stmt.Return (Some (number 1)))) (begun_with 0) (record { frame = one_slot; blocks = tt })
  where
    one_slot : IsFrame slots
    one_slot = layout_is_frame [] (record { name = []; of = int; parameters = 0; locals = int ∷ []; body = stmt.Nothing })

-- a block that was split behind slots that aren't there
not_framed : IsFramed (record { pieces = OfBlock slots [] ∷ []; entries = []; slots = []; labels = 0 }) → ⊥
not_framed h = let e = h.blocks.0.1.is in let never : ⊥ = cc in never
