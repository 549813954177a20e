-- Generated lines can be written.
use Rattle.std.proofs.Common.{ℕ, ◌<◌, List, [], ◌∷◌, length, get_or, sym, subst}
use Rattle.std.specs.Prelude.{All}
use Rattle.std.proofs.lemmas.List.Elements.{All-get_or}
use Rattle.asm_lines.specs.Tokens.{IsName}
use Rattle.asm_text.specs.Lines.{MLine}
use Rattle.asm_text.specs.Printable.{ArePrintable}
use Rattle.op_forest.specs.declared.lowered.LoweredFunction.{LoweredFunction}
use Rattle.op_forest.specs.Lowered.{LoweredUnit, IsUnitName, IsFunctionOf, IsLowered}
use Rattle.frame_code.specs.declared.instr.Instr.{Instr}
use Rattle.frame_code.specs.declared.instr.Instr.TheVariants as instr
use Rattle.mips_target.specs.declared.layout.Layout.{Layout}
use Rattle.mips_target.specs.FunctionCode.{handed_behind}
use Rattle.mips_target.specs.Sizes.{FitsOne, Fits}
use Rattle.unit_text.specs.UnitLines.{Coded}
use Rattle.mips_target.specs.Generated.{IsFunction, IsGenerated}
use Rattle.frame_code.specs.CalledNames.{CallIs, CallsAre}
use Rattle.mips_target.proofs.Speaking.{code_speaks}
use Rattle.unit_text.proofs.lemmas.Speaking.{CodeItemsSpeak, FunctionSpeaks, functions_speak}
use Rattle.unit_text.proofs.lemmas.Printing.{unit_printable}
use Rattle.mips_target.proofs.SaidLines.{unit_name}

-- a name of the unit is a name of assembly text
abbrev IsNamed : List (List ℕ) → ℕ → Type 0
IsNamed names name = IsName (get_or names name [])

named : (names : List (List ℕ)) (name : ℕ) → All IsUnitName names → name < length names → IsNamed names name
named names name all h = unit_name (get_or names name []) (All-get_or IsUnitName names name [] h all)

call_named : (names : List (List ℕ)) (l : Layout) (k : ℕ) (i : Instr) → All IsUnitName names → FitsOne names l k i → CallIs (IsNamed names) i
call_named names l k (instr.LoadNumber to n) all h = tt
call_named names l k (instr.Binary op to from x) all h = tt
call_named names l k (instr.Negate to from) all h = tt
call_named names l k (instr.Argument from) all h = tt
call_named names l k (instr.Call to name) all h = named names name all h.1
call_named names l k (instr.Return from) all h = tt
call_named names l k (instr.Copy to from) all h = tt
call_named names l k (instr.LoadSlot to slot) all h = tt
call_named names l k (instr.StoreSlot from slot) all h = tt

calls_named : (names : List (List ℕ)) (l : Layout) (k : ℕ) (code : List Instr) → All IsUnitName names → Fits names l k code → CallsAre (IsNamed names) code
calls_named names l k [] all h = tt
calls_named names l k (i ∷ is) all h = (call_named names l k i all h.0, calls_named names l (handed_behind k i) is all h.1)

function_named : (u : LoweredUnit) → IsLowered u → (f : LoweredFunction) (c : Coded) → IsFunction u f c → IsFunctionOf u f → FunctionSpeaks IsName IsName c
function_named u lowered f c is of =
    let own : IsName c.name = subst IsName (sym is.name) (named u.names f.name lowered.names of.name) in
    let i = is.code in
    let code = code_speaks IsName IsName c.labels u.names i.layout i.allocated (calls_named u.names i.layout 0 i.allocated lowered.names i.fits) in
    (own, own, subst (CodeItemsSpeak IsName IsName c.labels) (sym i.made) code)

pub printable : (u : LoweredUnit) (lines : List MLine) → IsLowered u → IsGenerated u lines → ArePrintable lines
printable u lines lowered g =
    let each = functions_speak (IsFunction u) IsName IsName (IsFunctionOf u) u.functions g.functions g.each lowered.functions (function_named u lowered) in subst ArePrintable (sym g.lines_are) (unit_printable g.functions each)
