-- What the parts of an applied rule are, by its action.
use Rattle.std.proofs.Common.{◌≡◌, ℕ, ◌<◌, ◌||◌, true, List, Some, length, refl, arith}
use Rattle.std.specs.Prelude.{slice_get}
use Rattle.frame_code.specs.declared.arithmetic.Arithmetic.{Arithmetic}
use Rattle.lburg_model.specs.Pattern.{MPattern}
use Rattle.op_forest.specs.Nodes.{Node}
use Rattle.vcode.specs.Patterns.{Meeting}
use Rattle.frame_rules.specs.declared.action.Action.TheVariants as action
use Rattle.frame_rules.specs.declared.part.Part.{Part}
use Rattle.frame_rules.specs.declared.part.Part.TheVariants.{Register, Constant, Name, Label}
use Rattle.frame_rules.specs.FrameRules.{is_register, is_constant, is_place}
use Rattle.frame_rules.specs.AppliedRules.{Applied, PassesConstant, PassesRegister, LoadsConstant, CombinesRegisters, CombinesConstant, Negates, HandsOver, Calls, CallsLabel, Returns}

pub passed : {left : ℕ} {pattern : MPattern} {t : Node} {ps : List Part} {ms : List Meeting} → Applied action.Pass left pattern t ps ms → 0 < length ps
passed (PassesConstant t n) = omega arith
passed (PassesRegister t r low) = omega arith

pub loaded : {left : ℕ} {pattern : MPattern} {t : Node} {ps : List Part} {ms : List Meeting} → Applied action.LoadConstant left pattern t ps ms → (n : ℕ) × (slice_get ps 0 ≡ Some (Constant n))
loaded (LoadsConstant t n e) = (n, refl)

pub combined_first : {op : Arithmetic} {left : ℕ} {pattern : MPattern} {t : Node} {ps : List Part} {ms : List Meeting} → Applied (action.Combine op) left pattern t ps ms → (r : ℕ) × (slice_get ps 0 ≡ Some (Register r))
combined_first (CombinesRegisters op h a b q r low_q low_r e) = (q, refl)
combined_first (CombinesConstant op h a b q n low e) = (q, refl)

pub combined_second : {op : Arithmetic} {left : ℕ} {pattern : MPattern} {t : Node} {ps : List Part} {ms : List Meeting} → Applied (action.Combine op) left pattern t ps ms → (p : Part) × (slice_get ps 1 ≡ Some p) × ((is_register p || is_constant p) ≡ true)
combined_second (CombinesRegisters op h a b q r low_q low_r e) = (Register r, refl, refl)
combined_second (CombinesConstant op h a b q n low e) = (Constant n, refl, refl)

pub negated_part : {left : ℕ} {pattern : MPattern} {t : Node} {ps : List Part} {ms : List Meeting} → Applied action.Negate left pattern t ps ms → (r : ℕ) × (slice_get ps 0 ≡ Some (Register r))
negated_part (Negates h a r low e) = (r, refl)

pub called_part : {left : ℕ} {pattern : MPattern} {t : Node} {ps : List Part} {ms : List Meeting} → Applied action.Call left pattern t ps ms → (p : Part) × (slice_get ps 0 ≡ Some p) × (is_place p ≡ true)
called_part (Calls h a name offset e) = (Name name offset, refl, refl)
called_part (CallsLabel h a l e) = (Label l, refl, refl)

pub handed_part : {left : ℕ} {pattern : MPattern} {t : Node} {ps : List Part} {ms : List Meeting} → Applied action.HandOver left pattern t ps ms → (r : ℕ) × (slice_get ps 0 ≡ Some (Register r))
handed_part (HandsOver h a r low e) = (r, refl)

pub returned_part : {left : ℕ} {pattern : MPattern} {t : Node} {ps : List Part} {ms : List Meeting} → Applied action.Return left pattern t ps ms → (r : ℕ) × (slice_get ps 0 ≡ Some (Register r))
returned_part (Returns h a r low e) = (r, refl)
