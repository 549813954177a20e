-- What a name gave, from what a mention gave.
use Rattle.std.proofs.Common.{◌≡◌, ◌≤◌, ℕ, Bool, false, List, length, Option, Some, None, refl, sym, subst, inr}
use Rattle.std.specs.Prelude.{IfSome}
use Rattle.lcc_base.specs.declared.which.Which.TheVariants as which
use Rattle.lcc_text.specs.Names.{with_name}
use Rattle.lburg_faults.specs.declared.line_fault.LineFault.{LineFault}
use Rattle.lburg_faults.specs.declared.line_fault.LineFault.TheVariants as fault
use Rattle.lburg_faults.specs.Terminals.{Among}
use Rattle.lburg_faults.specs.Naming.{Fits, LeftGives, NodeGives}

-- the fault of a mention
abbrev pub Full : List (List ℕ) → List ℕ → LineFault → Type 0
Full names name f = (f ≡ fault.Limit which.Nonterminals) × (127 ≤ length names) × (Among name names → ⊥)

pub left_many : (terminals names new : List (List ℕ)) (rules : ℕ) (name : List ℕ) (f : LineFault) → (Among name terminals → ⊥) → Full names name f → LeftGives terminals names rules name new (Some f)
left_many terminals names new rules name f a h =
    let P : LineFault → Type 0 = λ x. LeftGives terminals names rules name new (Some x) in
    subst P (sym h.0) (a, (h.1, h.2))

pub node_mentioned : (terminals names new : List (List ℕ)) (name : List ℕ) (operands : Bool) (f : Option LineFault) → operands ≡ false → (Among name terminals → ⊥) → IfSome f (Full names name) → (f ≡ None → Fits names name) → (f ≡ None → new ≡ with_name names name) → NodeGives terminals names name operands new f
node_mentioned terminals names new name operands None o a full room named = inr (a, o, record { fits = room refl; names = named refl })
node_mentioned terminals names new name operands (Some f) o a full room named =
    let P : LineFault → Type 0 = λ x. NodeGives terminals names name operands new (Some x) in
    subst P (sym full.0) (a, o, (full.1, full.2))
