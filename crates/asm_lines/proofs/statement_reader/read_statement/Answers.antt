use Rattle.std.proofs.Common.{◌≡◌, ◌∷◌, rules, inr}
use Rattle.asm_lines.specs.declared.token.Kind.TheVariants as kind
use Rattle.asm_lines.specs.declared.fault.StatementFault.TheVariants as fault
use Rattle.asm_lines.specs.Tokens.{views}
use Rattle.asm_lines.specs.Statements.{told}
use Rattle.asm_lines.proofs.StatementReads.{begins, known_here, only_memory, unknown, unspaced, misplaced, row_found, row_here, row_only, row_fault}
use Rattle.asm_lines.proofs.statement_reader.read_statement.Goals as goal

pub returns-in_default-known-clause-only : goal.returns-in_default-known-clause-only
returns-in_default-known-clause-only c =
    let e : c.args.tokens.now ≡ c.in-Some.first.now ∷ c.in-Some.operands.now = search rules in
    let k : c.in-Some.first.now.kind ≡ kind.Word = search rules in
    let b = begins c.args.tokens.now c.in-Some.operands.now c.in-Some.first.now e k in
    only_memory c.args.section (views c.args.tokens.now) fault.UnknownInstruction (unknown c.args.section (views c.args.tokens.now) c.in-Some.first.now.text.now (views c.in-Some.operands.now) b c.in_default-known.ensures.none)

pub returns-in_default-known-clause-fault : goal.returns-in_default-known-clause-fault
returns-in_default-known-clause-fault c =
    let e : c.args.tokens.now ≡ c.in-Some.first.now ∷ c.in-Some.operands.now = search rules in
    let k : c.in-Some.first.now.kind ≡ kind.Word = search rules in
    let b = begins c.args.tokens.now c.in-Some.operands.now c.in-Some.first.now e k in
    inr (unknown c.args.section (views c.args.tokens.now) c.in-Some.first.now.text.now (views c.in-Some.operands.now) b c.in_default-known.ensures.none)

pub returns-then-not-is_apart-clause-fault : goal.returns-then-not-is_apart-clause-fault
returns-then-not-is_apart-clause-fault c =
    let e : c.args.tokens.now ≡ c.in-Some.first.now ∷ c.in-Some.operands.now = search rules in
    let k : c.in-Some.first.now.kind ≡ kind.Word = search rules in
    let b = begins c.args.tokens.now c.in-Some.operands.now c.in-Some.first.now e k in
    inr (unspaced c.args.section (views c.args.tokens.now) c.in-Some.first.now.text.now (views c.in-Some.operands.now) c.in-Some-known.word b c.in-Some-known.ensures.some (search rules))

pub returns-then-is_misplaced-clause-only : goal.returns-then-is_misplaced-clause-only
returns-then-is_misplaced-clause-only c =
    let e : c.args.tokens.now ≡ c.in-Some.first.now ∷ c.in-Some.operands.now = search rules in
    let k : c.in-Some.first.now.kind ≡ kind.Word = search rules in
    let b = begins c.args.tokens.now c.in-Some.operands.now c.in-Some.first.now e k in
    only_memory c.args.section (views c.args.tokens.now) fault.BadLine (misplaced c.args.section (views c.args.tokens.now) c.in-Some.first.now.text.now (views c.in-Some.operands.now) c.in-Some-known.word b c.in-Some-known.ensures.some (search rules))

pub returns-then-is_misplaced-clause-fault : goal.returns-then-is_misplaced-clause-fault
returns-then-is_misplaced-clause-fault c =
    let e : c.args.tokens.now ≡ c.in-Some.first.now ∷ c.in-Some.operands.now = search rules in
    let k : c.in-Some.first.now.kind ≡ kind.Word = search rules in
    let b = begins c.args.tokens.now c.in-Some.operands.now c.in-Some.first.now e k in
    inr (misplaced c.args.section (views c.args.tokens.now) c.in-Some.first.now.text.now (views c.in-Some.operands.now) c.in-Some-known.word b c.in-Some-known.ensures.some (search rules))

pub returns-clause-found : goal.returns-clause-found
returns-clause-found c =
    let e : c.args.tokens.now ≡ c.in-Some.first.now ∷ c.in-Some.operands.now = search rules in
    let k : c.in-Some.first.now.kind ≡ kind.Word = search rules in
    let b = begins c.args.tokens.now c.in-Some.operands.now c.in-Some.first.now e k in
    let here = known_here c.args.section (views c.args.tokens.now) c.in-Some.first.now.text.now (views c.in-Some.operands.now) c.in-Some-known.word b c.in-Some-known.ensures.some (search rules) (search rules) in
    row_found c.row.result told c.args.section (views c.args.tokens.now) c.in-Some.first.now.text.now (views c.in-Some.operands.now) c.in-Some-known.word here c.row.ensures.found

pub returns-clause-here : goal.returns-clause-here
returns-clause-here c =
    let e : c.args.tokens.now ≡ c.in-Some.first.now ∷ c.in-Some.operands.now = search rules in
    let k : c.in-Some.first.now.kind ≡ kind.Word = search rules in
    let b = begins c.args.tokens.now c.in-Some.operands.now c.in-Some.first.now e k in
    let here = known_here c.args.section (views c.args.tokens.now) c.in-Some.first.now.text.now (views c.in-Some.operands.now) c.in-Some-known.word b c.in-Some-known.ensures.some (search rules) (search rules) in
    row_here c.row.result told c.args.section (views c.args.tokens.now) c.in-Some.first.now.text.now (views c.in-Some.operands.now) c.in-Some-known.word here c.row.ensures.found

pub returns-clause-only : goal.returns-clause-only
returns-clause-only c =
    let e : c.args.tokens.now ≡ c.in-Some.first.now ∷ c.in-Some.operands.now = search rules in
    let k : c.in-Some.first.now.kind ≡ kind.Word = search rules in
    let b = begins c.args.tokens.now c.in-Some.operands.now c.in-Some.first.now e k in
    let here = known_here c.args.section (views c.args.tokens.now) c.in-Some.first.now.text.now (views c.in-Some.operands.now) c.in-Some-known.word b c.in-Some-known.ensures.some (search rules) (search rules) in
    λ s p q. row_only c.row.result c.args.section (views c.args.tokens.now) c.in-Some.first.now.text.now (views c.in-Some.operands.now) c.in-Some-known.word here c.row.ensures.only s p

pub returns-clause-fault : goal.returns-clause-fault
returns-clause-fault c =
    let e : c.args.tokens.now ≡ c.in-Some.first.now ∷ c.in-Some.operands.now = search rules in
    let k : c.in-Some.first.now.kind ≡ kind.Word = search rules in
    let b = begins c.args.tokens.now c.in-Some.operands.now c.in-Some.first.now e k in
    let here = known_here c.args.section (views c.args.tokens.now) c.in-Some.first.now.text.now (views c.in-Some.operands.now) c.in-Some-known.word b c.in-Some-known.ensures.some (search rules) (search rules) in
    row_fault c.row.result c.args.section (views c.args.tokens.now) c.in-Some.first.now.text.now (views c.in-Some.operands.now) c.in-Some-known.word here c.row.ensures.only c.row.ensures.fault
