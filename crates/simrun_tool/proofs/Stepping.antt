-- The turns of the MIPS machine, as runs take them.
use Rattle.std.proofs.Common.{◌≡◌, ℕ, ◌+◌, List, [], None, sym, ap, subst, ◌∙◌}
use Rattle.asm_text.specs.declared.running.Input.{Input}
use Rattle.asm_text.specs.declared.running.Step.{Step}
use Rattle.asm_text.specs.declared.running.Step.TheVariants as answers
use Rattle.asm_text.specs.Runs.{MStep, Goes}
use Rattle.mips_machine.specs.declared.turn.Turn.TheVariants.{Quiet}
use Rattle.mips_machine.specs.State.{Cpu, MMachine}
use Rattle.mips_machine.specs.Stepped.{IsStepped, Scene, scene, step_of, printed_by}
use Rattle.mips_machine.specs.StepTable.{step}
use Rattle.mips_machine.specs.Turned.{IsTurned}

-- the step of a turn that prints nothing, with its answer
pub quiet_step : (now new : MMachine) (rest left : Input) (answer other : Step) → answer ≡ other → IsTurned now rest new left (Quiet answer) → IsStepped (step_of now rest) (scene now rest None 0) (scene new left None 0) other
quiet_step now new rest left answer other same turned =
    let Stepped : Step → Type 0 = λ s. IsStepped (step_of now rest) (scene now rest None 0) (scene new left None 0) s in
    subst Stepped same (turned.1 None 0)

-- such a turn doesn't fail
pub quiet_fails : (now new : MMachine) (rest left : Input) (answer : Step) → answer ≡ answers.Failed → IsTurned now rest new left (Quiet answer) → ⊥
quiet_fails now new rest left answer same turned = (quiet_step now new rest left answer answers.Failed same turned).prints turned.0

-- a turn that goes on without printing
pub went : (now new : MMachine) (rest left : Input) (answer : Step) → answer ≡ answers.Went → IsTurned now rest new left (Quiet answer) → (read : ℕ) × (step_of now rest ≡ Goes new.cpu [] read) × (left ≡ record rest { place = rest.place + read })
went now new rest left answer same turned =
    let gone = quiet_step now new rest left answer answers.Went same turned in
    let none : gone.printed ≡ [] = sym (ap printed_by gone.goes) ∙ turned.0 in
    let cpu : gone.cpu ≡ new.cpu = sym (ap (λ (m : MMachine). m.cpu) gone.machine) in
    (gone.read, gone.goes ∙ ap (λ (l : List ℕ). Goes gone.cpu l gone.read) none ∙ ap (λ (c : Cpu). Goes c [] gone.read) cpu, gone.input)

-- ---- the steps stay

abbrev pub steps_of : MMachine → Cpu → List ℕ → MStep Cpu
steps_of m = step m.code m.order

pub same_quiet : (now new : MMachine) (rest left : Input) (answer : Step) → IsTurned now rest new left (Quiet answer) → steps_of new ≡ steps_of now
same_quiet now new rest left answers.Went turned = ap steps_of (turned.1 None 0).machine
same_quiet now new rest left (answers.Ended status) turned = ap (λ (s : Scene). steps_of s.machine) (turned.1 None 0).1
same_quiet now new rest left (answers.Stuck cause pc) turned = ap (λ (s : Scene). steps_of s.machine) (turned.1 None 0).1
same_quiet now new rest left (answers.StackOut pc) turned = ap (λ (s : Scene). steps_of s.machine) (turned.1 None 0).1
same_quiet now new rest left answers.Failed turned = ap steps_of (turned.1 None 0).machine
