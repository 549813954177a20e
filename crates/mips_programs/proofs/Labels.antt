-- The labels of a unit's program are the names of its functions: so far code has no labels of its own.
use Rattle.std.proofs.Common.{◌≡◌, ℕ, zero, suc, ◌+◌, Bool, true, false, List, [], ◌∷◌, ◌++◌, length, Some, None, refl, sym, ap, ◌∙◌}
use Rattle.std.specs.Prelude.{if◌then◌else◌, slice_get}
use Rattle.std.specs.List.{AllZip}
use Rattle.std.specs.Str.{bytes_eq}
use Rattle.std.proofs.lemmas.Option.{none-some, same_Some}
use Rattle.std.proofs.lemmas.Slice.Eq.{bytes_eq-Decides}
use Rattle.asm_text.specs.declared.place.Place.TheVariants.{Code}
use Rattle.asm_text.specs.Made.{label_at}
use Rattle.asm_text.specs.Program.{MInstruction, MLabel, MProgram, place_of}
use Rattle.op_forest.specs.declared.lowered.LoweredFunction.{LoweredFunction}
use Rattle.op_forest.specs.Lowered.{LoweredUnit}
use Rattle.frame_code.specs.declared.instr.Instr.{Instr}
use Rattle.mips_target.specs.declared.layout.Layout.{Layout}
use Rattle.unit_text.specs.Entries.{marks_from, labels_of, HasEntry}
use Rattle.mips_target.specs.FunctionCode.{prologue, instructions_of, handed_behind, unmarked, body_of, function_code}
use Rattle.mips_target.specs.Generated.{IsFunction}
use Rattle.unit_text.specs.Items.{CodeItem, lines_in}
use Rattle.unit_text.specs.UnitLines.{Coded}

-- ---- code without labels

unmarked_marks : (labels : ℕ → List ℕ) (place : ℕ) (is : List MInstruction) (xs : List (CodeItem MInstruction)) → ((q : ℕ) → marks_from labels q xs ≡ []) → marks_from labels place (unmarked is ++ xs) ≡ []
unmarked_marks labels place [] xs h = h place
unmarked_marks labels place (i ∷ is) xs h = unmarked_marks labels (suc place) is xs h

body_marks : (labels : ℕ → List ℕ) (names : List (List ℕ)) (l : Layout) (k : ℕ) (is : List Instr) (place : ℕ) → marks_from labels place (body_of names l k is) ≡ []
body_marks labels names l k [] place = refl
body_marks labels names l k (i ∷ is) place =
    unmarked_marks labels place (instructions_of names l k i) (body_of names l (handed_behind k i) is) (λ q. body_marks labels names l (handed_behind k i) is q)

code_marks : (labels : ℕ → List ℕ) (names : List (List ℕ)) (l : Layout) (is : List Instr) (place : ℕ) → marks_from labels place (function_code names l is) ≡ []
code_marks labels names l is place = unmarked_marks labels place (prologue l) (body_of names l 0 is) (λ q. body_marks labels names l 0 is q)

-- no function has a label in its code
abbrev pub NoMarks : List Coded → Type 0
NoMarks [] = Unit {0}
NoMarks (c ∷ cs) = ((place : ℕ) → marks_from c.labels place c.items ≡ []) × NoMarks cs

pub function_marks : (u : LoweredUnit) (p : MProgram) (fs : List LoweredFunction) (cs : List Coded) → AllZip (λ f c. IsFunction u f c × HasEntry p c) fs cs → NoMarks cs
function_marks u p fs [] h = tt
function_marks u p [] (c ∷ cs) h = absurd h
function_marks u p (f ∷ fs) (c ∷ cs) h =
    let own : IsFunction u f c = h.0.0 in
    let code = own.code in
    (λ place. ap (λ xs. marks_from c.labels place xs) code.made ∙ code_marks c.labels u.names code.layout code.allocated place, function_marks u p fs cs h.1)

-- ---- labels by their names

-- each label is a function's
pub label_of_one : (cs : List Coded) → NoMarks cs → (place j : ℕ) (l : MLabel) → slice_get (labels_of place cs) j ≡ Some l → (k : ℕ) × (c : Coded) × (slice_get cs k ≡ Some c) × (l.name ≡ c.name)
label_of_one [] none place j l h = absurd (none-some l h)
label_of_one (c ∷ cs) none place zero l h = (0, c, refl, ap (λ x. x.name) (sym (same_Some (label_at (Code place) c.name) l h)))
label_of_one (c ∷ cs) none place (suc j) l h =
    let rest = labels_of (place + length (lines_in c.items)) cs in
    let x = label_of_one cs none.1 (place + length (lines_in c.items)) j l (ap (λ ls. slice_get (ls ++ rest) j) (sym (none.0 place)) ∙ h) in
    (suc x.0, x.1, x.2, x.3)

no_place : (b : Bool) (l : MLabel) (ls : List MLabel) (name : List ℕ) → (b ≡ true → ⊥) → place_of ls name ≡ None → (if b then Some l.place else place_of ls name) ≡ None
no_place true l ls name h k = absurd (h refl)
no_place false l ls name h k = k

-- a name that no label has is not found
pub place_none : (ls : List MLabel) (name : List ℕ) → ((j : ℕ) (m : MLabel) → slice_get ls j ≡ Some m → m.name ≡ name → ⊥) → place_of ls name ≡ None
place_none [] name never = refl
place_none (m ∷ ls) name never = no_place (bytes_eq m.name name) m ls name (λ e. never 0 m refl ((bytes_eq-Decides m.name name).0 e)) (place_none ls name (λ j x h f. never (suc j) x h f))
