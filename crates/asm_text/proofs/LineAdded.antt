-- Lines that are added, and the fault that stands on one.
use Rattle.std.proofs.Common.{◌≡◌, ◌⊎◌, ◌<◌, ℕ, List, length, refl, sym, ap, ◌∙◌, subst, inl, inr}
use Rattle.lcc_base.specs.declared.which.Which.{Which}
use Rattle.lcc_base.specs.declared.which.Which.TheVariants as which
use Rattle.asm_lines.specs.declared.fault.StatementFault.{StatementFault}
use Rattle.asm_lines.specs.declared.fault.StatementFault.TheVariants as statement_fault
use Rattle.asm_lines.specs.declared.section.Section.{Section}
use Rattle.asm_lines.specs.Faults.{FaultStands}
use Rattle.asm_lines.specs.Sections.{StandsIn}
use Rattle.asm_lines.specs.Statements.{MStatement, IsStatement}
use Rattle.asm_lines.specs.Tokens.{Spaced}
use Rattle.asm_text.specs.declared.asm_fault.AsmFault.{AsmFault}
use Rattle.asm_text.specs.declared.asm_fault.AsmFault.TheVariants.{TooLarge, Memory}
use Rattle.asm_text.specs.FaultAt.{fault_at}
use Rattle.asm_text.specs.FirstFault.{Behind, IsPast, Passes, Stands}
use Rattle.asm_text.specs.LabelsTaken.{TakesLabels}
use Rattle.asm_text.specs.Lines.{MLine, AreTokens}
use Rattle.asm_text.specs.Made.{Made, with_statement, with_line}
use Rattle.asm_text.specs.Makes.{IsAllowed}
use Rattle.asm_text.specs.Program.{data_size}

-- labels have no part in the limits
past_same : (m n : Made) (w : Which) → length m.code ≡ length n.code → data_size m.datums ≡ data_size n.datums → IsPast m w → IsPast n w
past_same m n which.Code e f h = let P : ℕ → Type 0 = λ k. 4194304 < k in subst P e h
past_same m n which.Data e f h = let P : ℕ → Type 0 = λ k. 33554432 < k in subst P f h
past_same m n w e f h = absurd h

module _ (m now : Made) (ts rest : List Spaced) (line : ℕ) (t : TakesLabels m ts rest now) where
  abbrev behind : Behind m ts
  behind = record { names = t.names; rest = rest; labels = t.labels; last = t.last; new = t.new }

  section_same : now.section ≡ m.section
  section_same = ap (λ (x : Made). x.section) t.made

  -- the line that was added
  pub line_made : (s : MStatement) (next : Made) → IsStatement rest s → StandsIn now.section s → next ≡ with_statement now line s → (l : MLine) × AreTokens ts l × (l.number ≡ line) × IsAllowed m l × (next ≡ with_line m l)
  line_made s next is here e =
      let P : Section → Type 0 = λ x. StandsIn x s in
      (record { labels = t.names; statement = s; number = line }, record { rest = rest; labels = t.labels; statement = is }, refl, record { new = t.new; here = subst P section_same here }, e ∙ ap (λ x. with_statement x line s) t.made)

  -- its statement goes past a limit
  pub line_past : (s : MStatement) (f : AsmFault) → IsStatement rest s → StandsIn now.section s → (f ≡ Memory) ⊎ ((w : Which) × (f ≡ TooLarge line w) × IsPast (with_statement now line s) w) → (f ≡ Memory) ⊎ Stands m ts line f
  line_past s f is here h = elim h [
    | inl a ↦ inl a
    | inr b ↦ (
        let P : Section → Type 0 = λ x. StandsIn x s in
        let Q : AsmFault → Type 0 = λ x. Stands m ts line x in
        let past = past_same (with_statement now line s) (with_statement m line s) b.0 (ap (λ (x : Made). length (with_statement x line s).code) t.made) (ap (λ (x : Made). data_size (with_statement x line s).datums) t.made) b.2 in
        let passes : Passes m ts line b.0 = record { behind = behind; statement = s; is = is; here = subst P section_same here; past = past } in
        inr (subst Q (sym b.1) (refl, passes)))
  ]

  -- or there is none
  pub line_wrong : (f : StatementFault) → (f ≡ statement_fault.Memory) ⊎ FaultStands now.section rest f → (fault_at line f ≡ Memory) ⊎ Stands m ts line (fault_at line f)
  line_wrong f h = elim h [
    | inl a ↦ inl (ap (fault_at line) a)
    | inr b ↦ (let P : Section → Type 0 = λ x. FaultStands x rest f in stands f (subst P section_same b))
  ] where
    stands : (f : StatementFault) → FaultStands m.section rest f → (fault_at line f ≡ Memory) ⊎ Stands m ts line (fault_at line f)
    stands statement_fault.BadLine k = inr (refl, (behind, k))
    stands statement_fault.UnknownInstruction k = inr (refl, (behind, k))
    stands statement_fault.BadOperand k = inr (refl, (behind, k))
    stands statement_fault.Memory k = inl refl
