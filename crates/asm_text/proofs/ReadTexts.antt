-- What was read of a whole text.
use Rattle.std.proofs.Common.{◌≡◌, ◌⊎◌, ℕ, List, [], sym, ap, ◌∙◌, subst, inl, inr}
use Rattle.std.specs.Prelude.{All, IfOk, IfErr}
use Rattle.std.proofs.lemmas.List.{append-nil}
use Rattle.std.specs.declared.result.Result.{Result}
use Rattle.std.specs.declared.result.Result.TheVariants.{Ok, Err}
use Rattle.lcc_text.specs.Lines.{lines_of}
use Rattle.asm_text.specs.declared.asm_fault.AsmFault.{AsmFault}
use Rattle.asm_text.specs.declared.asm_fault.AsmFault.TheVariants.{Memory}
use Rattle.asm_text.specs.Addresses.{IsKnown}
use Rattle.asm_text.specs.AssemblyText.{IsText, IsAssembly}
use Rattle.asm_text.specs.FirstFault.{BeginsWith, FirstFault}
use Rattle.asm_text.specs.IsProgram.{IsProgram}
use Rattle.asm_text.specs.Lines.{MLine, AreLines}
use Rattle.asm_text.specs.Made.{Made, made_of}
use Rattle.asm_text.specs.Makes.{IsWithinLimits, program_of}
use Rattle.asm_text.specs.Program.{MProgram}
use Rattle.asm_text.proofs.lemmas.ReadPrograms.{is_program}

-- all lines of the text make this
abbrev pub AllRead : List ℕ → Made → Type 0
AllRead text m = (lines : List MLine) × BeginsWith text lines [] × (m ≡ made_of lines)

abbrev pub AllKnown : Made → Type 0
AllKnown m = All (λ u. IsKnown m.labels u.name) m.uses

assembly_of : (text : List ℕ) (m : Made) (p : MProgram) → AllRead text m → p ≡ program_of m → AllKnown m → IsAssembly text p
assembly_of text m p r e known =
    let T : List (List ℕ) → Type 0 = λ ts. AreLines ts 1 r.0 in
    let parts : r.1.before ≡ lines_of text = sym (append-nil r.1.before) ∙ sym r.1.parts in
    let K : Made → Type 0 = λ x. AllKnown x in
    let W : MProgram → Type 0 = λ x. IsWithinLimits x in
    let program : p ≡ program_of (made_of r.0) = e ∙ ap (λ (x : Made). program_of x) r.2 in
    record {
      text = record {
        lines = r.0;
        spelled = subst T parts r.1.spelled;
        made = record { allowed = r.1.allowed; known = subst K r.2 known; program = program };
      };
      limits = subst W (sym program) r.1.limits;
    }

pub found : (text : List ℕ) (m : Made) (r : Result MProgram AsmFault) → AllRead text m → IfOk r (λ p. p ≡ program_of m) → IfOk r (λ p. AllKnown m) → IfOk r (λ p. IsAssembly text p)
found text m (Ok p) a e known = assembly_of text m p a e known
found text m (Err f) a e known = tt

pub fit : (text : List ℕ) (r : Result MProgram AsmFault) → IfOk r (λ p. IsAssembly text p) → IfOk r (λ p. IsProgram p)
fit text (Ok p) a = is_program a.text.lines p a.text.made a.limits
fit text (Err f) a = tt

-- ---- no other program

pub same_program : ((text : List ℕ) (p q : MProgram) → IsText text p → IsText text q → p ≡ q) → (text : List ℕ) (r : Result MProgram AsmFault) → IfOk r (λ p. IsAssembly text p) → (q : MProgram) → IsAssembly text q → IfOk r (λ p. p ≡ q)
same_program law text (Ok p) a q b = law text p q a.text b.text
same_program law text (Err f) a q b = tt

pub only_memory : ((text : List ℕ) (p : MProgram) (f : AsmFault) → IsAssembly text p → FirstFault text f → ⊥) → (text : List ℕ) (r : Result MProgram AsmFault) → IfErr r (λ f. (f ≡ Memory) ⊎ FirstFault text f) → (p : MProgram) → IsAssembly text p → IfErr r (λ f. f ≡ Memory)
only_memory law text (Ok q) h p a = tt
only_memory law text (Err f) h p a = elim h [
  | inl e ↦ e
  | inr x ↦ absurd (law text p f a x)
]
