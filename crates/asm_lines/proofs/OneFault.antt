-- In a section a statement or a fault stands, and not both, and one fault at most.
use Rattle.std.proofs.Common.{◌≡◌, ℕ, List, [], ◌∷◌, refl, subst, inl, inr}
use Rattle.asm_lines.specs.declared.section.Section.{Section}
use Rattle.asm_lines.specs.declared.fault.StatementFault.{StatementFault}
use Rattle.asm_lines.specs.declared.fault.StatementFault.TheVariants as fault
use Rattle.asm_lines.specs.Tokens.{Spaced}
use Rattle.asm_lines.specs.Statements.{MStatement, IsStatement}
use Rattle.asm_lines.specs.Sections.{IsElsewhere, StandsIn}
use Rattle.asm_lines.specs.Faults.{IsKnown, StartsWith, IsBadLine, FaultStands}
use Rattle.asm_lines.proofs.OneStatement.{same_word, row_known}
use Rattle.asm_lines.proofs.Sections.{elsewhere_known, row_elsewhere}

one_start : (ts : List Spaced) (a b : List ℕ) → StartsWith ts a → StartsWith ts b → a ≡ b
one_start [] a b p q = absurd p
one_start (t ∷ ts) a b p q = same_word t.tok a b p q

known_start : (ts : List Spaced) (a b : List ℕ) → StartsWith ts a → StartsWith ts b → IsKnown a → IsKnown b
known_start ts a b p q k = let P : List ℕ → Type 0 = λ w. IsKnown w in subst P (one_start ts a b p q) k

elsewhere_start : (section : Section) (ts : List Spaced) (a b : List ℕ) → StartsWith ts a → StartsWith ts b → IsElsewhere section a → IsElsewhere section b
elsewhere_start section ts a b p q k = let P : List ℕ → Type 0 = λ w. IsElsewhere section w in subst P (one_start ts a b p q) k

-- ---- a statement and a fault

bad_line_apart : (section : Section) (ts : List Spaced) (s : MStatement) → IsStatement ts s → StandsIn section s → IsBadLine section ts → ⊥
bad_line_apart section [] s p k q = elim q [
  | inl a ↦ a.0 refl
  | inr b ↦ elim b [
    | inl a ↦ a.1
    | inr a ↦ a.1
  ]
]
bad_line_apart section (t ∷ ts) s p k q = elim q [
  | inl a ↦ a.1 p.0 p.1
  | inr b ↦ elim b [
    | inl a ↦ a.3 p.2
    | inr a ↦ row_elsewhere section p.0 ts s p.3 k (elsewhere_start section (t ∷ ts) a.0 p.0 a.1 p.1 a.2)
  ]
]

unknown_apart : (section : Section) (ts : List Spaced) (s : MStatement) → IsStatement ts s → FaultStands section ts fault.UnknownInstruction → ⊥
unknown_apart section [] s p q = q.1
unknown_apart section (t ∷ ts) s p q = q.2 (known_start (t ∷ ts) p.0 q.0 p.1 q.1 (row_known p.0 ts s p.3))

pub apart : (section : Section) (ts : List Spaced) (s : MStatement) (f : StatementFault) → IsStatement ts s → StandsIn section s → FaultStands section ts f → ⊥
apart section ts s fault.BadLine p k q = bad_line_apart section ts s p k q
apart section ts s fault.UnknownInstruction p k q = unknown_apart section ts s p q
apart section ts s fault.BadOperand p k q = q.5 s p
apart section ts s fault.Memory p k q = q

-- ---- two faults

line_or_unknown : (section : Section) (ts : List Spaced) → IsBadLine section ts → FaultStands section ts fault.UnknownInstruction → ⊥
line_or_unknown section ts p q = elim p [
  | inl a ↦ a.1 q.0 q.1
  | inr b ↦ elim b [
    | inl a ↦ q.2 (known_start ts a.0 q.0 a.1 q.1 a.2)
    | inr a ↦ q.2 (known_start ts a.0 q.0 a.1 q.1 (elsewhere_known section a.0 a.2))
  ]
]

line_or_operand : (section : Section) (ts : List Spaced) → IsBadLine section ts → FaultStands section ts fault.BadOperand → ⊥
line_or_operand section ts p q = elim p [
  | inl a ↦ a.1 q.0 q.1
  | inr b ↦ elim b [
    | inl a ↦ a.3 q.3
    | inr a ↦ q.4 (elsewhere_start section ts a.0 q.0 a.1 q.1 a.2)
  ]
]

unknown_or_operand : (section : Section) (ts : List Spaced) → FaultStands section ts fault.UnknownInstruction → FaultStands section ts fault.BadOperand → ⊥
unknown_or_operand section ts p q = p.2 (known_start ts q.0 p.0 q.1 p.1 q.2)

pub one_fault : (section : Section) (ts : List Spaced) (f g : StatementFault) → FaultStands section ts f → FaultStands section ts g → f ≡ g
one_fault section ts fault.BadLine fault.BadLine p q = refl
one_fault section ts fault.UnknownInstruction fault.UnknownInstruction p q = refl
one_fault section ts fault.BadOperand fault.BadOperand p q = refl
one_fault section ts fault.Memory g p q = absurd p
one_fault section ts f fault.Memory p q = absurd q
one_fault section ts fault.BadLine fault.UnknownInstruction p q = absurd (line_or_unknown section ts p q)
one_fault section ts fault.UnknownInstruction fault.BadLine p q = absurd (line_or_unknown section ts q p)
one_fault section ts fault.BadLine fault.BadOperand p q = absurd (line_or_operand section ts p q)
one_fault section ts fault.BadOperand fault.BadLine p q = absurd (line_or_operand section ts q p)
one_fault section ts fault.UnknownInstruction fault.BadOperand p q = absurd (unknown_or_operand section ts p q)
one_fault section ts fault.BadOperand fault.UnknownInstruction p q = absurd (unknown_or_operand section ts q p)
