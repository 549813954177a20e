-- The rules of the shipped description of MIPS, a line a rule, and what each adds to the code and hands up.
-- Source: Fraser and Hanson, A Retargetable C Compiler, chapters 14 and 16.
use Rattle.std.specs.Prelude.{ℕ, Option, None, List, [], ◌∷◌, map, codes}
use Rattle.frame_rules.specs.Rows.{stmt, con, rc, reg, addr, cnsti, addrgp, argi, calli, reti, negi, addi, subi, muli, Line, rule}
use Rattle.frame_code.specs.declared.arithmetic.Arithmetic.TheVariants.{Add, Subtract, Multiply}
use Rattle.lburg_model.specs.declared.range.Range.{Range}
use Rattle.lburg_model.specs.Pattern.{MPattern, PHole, PLeaf, POne, PTwo}
use Rattle.vcode.specs.RuleSets.{Row}
use Rattle.frame_rules.specs.declared.action.Action.TheVariants.{Discard, Pass, TakeConstant, TakeName, LoadConstant, Combine, Negate, Call, HandOver, Return}

-- the first has the number 1
abbrev pub lines : List Line
lines =
    rule stmt (PHole reg) (codes "") 0 Discard
    ∷ rule con (PLeaf cnsti) (codes "%a") 0 TakeConstant
    ∷ rule rc (PHole con) (codes "%0") 0 Pass
    ∷ rule rc (PHole reg) (codes "$%0") 0 Pass
    ∷ rule reg (PHole con) (codes "li $%c,%0\\n") 1 LoadConstant
    ∷ rule addr (PLeaf addrgp) (codes "%a") 0 TakeName
    ∷ rule reg (PTwo addi (PHole reg) (PHole rc)) (codes "addu $%c,$%0,%1\\n") 1 (Combine Add)
    ∷ rule reg (PTwo subi (PHole reg) (PHole rc)) (codes "subu $%c,$%0,%1\\n") 1 (Combine Subtract)
    ∷ rule reg (PTwo muli (PHole reg) (PHole rc)) (codes "mul $%c,$%0,%1\\n") 1 (Combine Multiply)
    ∷ rule reg (POne negi (PHole reg)) (codes "negu $%c,$%0\\n") 1 Negate
    ∷ rule stmt (POne argi (PHole reg)) (codes "") 1 HandOver
    ∷ rule reg (POne calli (PHole addr)) (codes "jal %0\\n") 1 Call
    ∷ rule stmt (POne reti (PHole reg)) (codes "") 1 Return
    ∷ []

abbrev pub rows : List Row
rows = map (λ l. l.row) lines

abbrev pub costs : List ℕ
costs = map (λ l. l.cost) lines

-- no rule has a range
abbrev pub ranges : List (Option Range)
ranges = map (λ l. None) lines
