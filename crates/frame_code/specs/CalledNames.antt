-- The names that code calls.
use Rattle.std.specs.Prelude.{ℕ, List, [], ◌∷◌}
use Rattle.frame_code.specs.declared.instr.Instr.{Instr}
use Rattle.frame_code.specs.declared.instr.Instr.TheVariants as instr

-- P holds of the name that the instruction calls
abbrev pub CallIs : (ℕ → Type 0) → Instr → Type 0
CallIs P (instr.Call to name) = P name
CallIs P i = Unit {0}

-- P holds of each name that the code calls
abbrev pub CallsAre : (ℕ → Type 0) → List Instr → Type 0
CallsAre P [] = Unit {0}
CallsAre P (i ∷ is) = CallIs P i × CallsAre P is
