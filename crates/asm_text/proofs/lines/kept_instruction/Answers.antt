use Rattle.std.proofs.Common.{◌≡◌, ◌<◌, ℕ, List, length, subst}
use Rattle.std.proofs.lemmas.List.Elements.{All-weaker}
use Rattle.std.specs.Prelude.{All}
use Rattle.std.specs.Borrow.{Bor}
use Rattle.asm_text.specs.Names.{name_at, names_of_instruction}
use Rattle.asm_text.proofs.OtherNames.{instruction_one, numbers_one}
use Rattle.asm_text.proofs.lines.kept_instruction.Goals as goal

-- the number is that of each name of the instruction
stands : (c : goal.After-named) → All (λ (a : Bor (List ℕ)). (c.in_ok-number.number < length c.add_if_some.new.names) × (name_at c.add_if_some.new.names c.in_ok-number.number ≡ a.now)) (names_of_instruction c.args.instruction.now)
stands c =
    subst (λ (ns : List (Bor (List ℕ))). All (λ (a : Bor (List ℕ)). (c.in_ok-number.number < length c.add_if_some.new.names) × (name_at c.add_if_some.new.names c.in_ok-number.number ≡ a.now)) ns) c.name_of.ensures c.in_ok-number.ensures.number

pub returns-clause-below : goal.returns-clause-below
returns-clause-below c =
    numbers_one c.in_ok-number.number (length c.add_if_some.new.names) c.args.instruction.now c.named.result c.named.ensures (λ k d l. (stands c k d l).0)

pub returns-clause-same : goal.returns-clause-same
returns-clause-same c =
    instruction_one (λ (a : Bor (List ℕ)). a.now) (name_at c.add_if_some.new.names) c.in_ok-number.number c.args.instruction.now c.named.result c.named.ensures (λ k d l. (stands c k d l).1)
