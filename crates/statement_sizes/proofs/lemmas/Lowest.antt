-- The frame grows down by four bytes for each slot that statements take.
use Rattle.std.specs.Prelude.{ℕ}
use Rattle.std.proofs.Common.{refl}
use Rattle.lcc_base.specs.declared.order.Order.{Order}
use Rattle.c_meaning.specs.Units.{FunctionTree, UnitTree}
use Rattle.dag_forest.specs.Split.{room_count}
use Rattle.lowered_forms.specs.Lows.{ended, marked, with_slot}
use Rattle.lowered_statements.specs.Bodies.{Body}
use Rattle.lowered_statements.specs.FunctionBodies.{function_in, begun, low_f}
use Rattle.lowered_statements.specs.Functions.{Function, Exits}
use Rattle.lowered_statements.specs.Layouts.{layout}
use Rattle.lowered_statements.specs.Statements.{StmtTree, low_s}
use Rattle.lowered_statements.specs.Steps.{BodyRelation, BodySteps}
use Rattle.lowered_statements.proofs.lemmas.Induction.{statement_steps, function_steps}
use Rattle.lowered_sizes.specs.Frames.{StaysLow}
use Rattle.lowered_sizes.proofs.lemmas.Lowest.{same_slots, grown, lower_still}

abbrev stays : BodyRelation
stays a b = StaysLow a.low b.low

stays_steps : BodySteps stays
stays_steps = record {
  same = λ b. same_slots b.low b.low refl;
  joins = λ a b c x y. lower_still a.low b.low c.low x y;
  asks = λ t b. same_slots b.low _ refl;
  acts = λ r b. same_slots b.low _ refl;
  acts_one = λ h t b. same_slots b.low _ refl;
  returns = λ b. same_slots b.low _ refl;
  slot = λ b. grown 1 b.low (with_slot b.low) refl;
  ends = λ b. grown (room_count b.low.entries) b.low (ended b.low) refl;
  marks = λ n b. grown (room_count b.low.entries) b.low (marked n b.low) refl;
  label = λ b. same_slots b.low _ refl;
  table = λ labels b. same_slots b.low b.low refl;
}

pub statements_stay_low : (f : Function) (y : Exits) (t : StmtTree) (b : Body) → StaysLow b.low (low_s f y t b).low
statements_stay_low f y t b = statement_steps stays stays_steps f y t b

pub functions_stay_low : (u : UnitTree) (order : Order) (n m : ℕ) (f : FunctionTree) → StaysLow (begun (function_in u order n m f) (layout u.tags f)).low (low_f u order n m f).low
functions_stay_low u order n m f = function_steps stays stays_steps u order n m f
