-- An input isn't both run and refused, and one refusal stands at most.
use Rattle.std.proofs.Common.{◌≡◌, ◌⊎◌, ℕ, inl, inr, List, sym, ap, subst, ◌∙◌}
use Rattle.asm_text.specs.declared.asm_fault.AsmFault.{AsmFault}
use Rattle.asm_text.specs.AssemblyText.{IsText, IsAssembly}
use Rattle.asm_text.specs.FirstFault.{FirstFault}
use Rattle.asm_text.specs.Linked.{HasMain}
use Rattle.asm_text.specs.Program.{MProgram}
use Rattle.command_words.specs.declared.run_options.RunOptions.{RunOptions}
use Rattle.outcomes.specs.declared.outcome.Outcome.TheVariants.{Refused}
use Rattle.outcomes.specs.declared.outcome.Refusal.{Refusal}
use Rattle.outcomes.specs.declared.outcome.Refusal.TheVariants as refusal
use Rattle.outcomes.specs.Behaviour.{IsApart}
use Rattle.simrun_tool.specs.AssemblyFaults.{of_assembly}
use Rattle.simrun_tool.specs.Simulation.{RefusesAssembly, IsIdle, RefusesSimrun, simrun_behaviour}
use Rattle.simrun_tool.specs.Runnable.{IsRunnable}
use Rattle.input_parts.proofs.lemmas.PartedOnce.{parted_once}

-- what the laws of texts say: an assembly text is one program's, has one first fault, and a program's has none
pub record TextLaws : Type 0 where
  pub one_fault : (text : List ℕ) (f g : AsmFault) → FirstFault text f → FirstFault text g → f ≡ g
  pub no_fault : (text : List ℕ) (p : MProgram) (f : AsmFault) → IsAssembly text p → FirstFault text f → ⊥
  pub one_program : (text : List ℕ) (p q : MProgram) → IsText text p → IsText text q → p ≡ q

idle_apart : TextLaws → (assembly : List ℕ) (p : MProgram) (main : ℕ) → IsAssembly assembly p → HasMain p main → IsIdle assembly → ⊥
idle_apart laws assembly p main is has (q, also, idle) =
    idle main (subst (λ (x : MProgram). HasMain x main) (laws.one_program assembly p q is.text also.text) has)

-- a program's text that has a code label main isn't refused
pub runnable_apart : TextLaws → (input : List ℕ) (why : Refusal) → IsRunnable input → RefusesSimrun input why → ⊥
runnable_apart laws input why r (assembly, bytes, parted, refuses) =
    let same : assembly ≡ r.assembly = (parted_once input assembly bytes r.assembly r.bytes parted r.parted).0 in
    let Refuses : List ℕ → Type 0 = λ a. RefusesAssembly a why ⊎ ((why ≡ refusal.NoMain) × IsIdle a) in
    elim (subst Refuses same refuses) [
      | inl (f, first, gives) ↦ laws.no_fault r.assembly r.program f r.is_assembly first
      | inr (is, idle) ↦ idle_apart laws r.assembly r.program r.main r.is_assembly r.has_main idle
    ]

pub simrun_apart : TextLaws → (o : RunOptions) → IsApart (simrun_behaviour o)
simrun_apart laws o input end text why s refuses =
    runnable_apart laws input why (record { assembly = s.assembly; bytes = s.bytes; parted = s.parted; program = s.program; is_assembly = s.is_assembly; main = s.run.main; has_main = s.run.has_main }) refuses

-- a fault of assembly is told in one way
told_once : (f g : AsmFault) (why other : Refusal) → f ≡ g → of_assembly f ≡ Refused why → of_assembly g ≡ Refused other → why ≡ other
told_once f g why other same gives also = let both : of_assembly f ≡ of_assembly g = ap of_assembly same in cc

assembly_one : TextLaws → (assembly : List ℕ) (why other : Refusal) → RefusesAssembly assembly why ⊎ ((why ≡ refusal.NoMain) × IsIdle assembly) → RefusesAssembly assembly other ⊎ ((other ≡ refusal.NoMain) × IsIdle assembly) → why ≡ other
assembly_one laws assembly why other (inl (f, first, gives)) (inl (g, also, tells)) = told_once f g why other (laws.one_fault assembly f g first also) gives tells
assembly_one laws assembly why other (inl (f, first, gives)) (inr (is, (q, text, idle))) = absurd (laws.no_fault assembly q f text first)
assembly_one laws assembly why other (inr (is, (p, text, idle))) (inl (g, also, tells)) = absurd (laws.no_fault assembly p g text also)
assembly_one laws assembly why other (inr (is, idle)) (inr (same, also)) = is ∙ sym same

pub simrun_one : TextLaws → (input : List ℕ) (why other : Refusal) → RefusesSimrun input why → RefusesSimrun input other → why ≡ other
simrun_one laws input why other (assembly, bytes, parted, refuses) (last, rest, also, tells) =
    let same : assembly ≡ last = (parted_once input assembly bytes last rest parted also).0 in
    let Refuses : List ℕ → Type 0 = λ a. RefusesAssembly a why ⊎ ((why ≡ refusal.NoMain) × IsIdle a) in
    assembly_one laws last why other (subst Refuses same refuses) tells
