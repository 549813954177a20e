-- The ranges of rules, and the nodes that meet them.
-- Source: Fraser and Hanson, A Retargetable C Compiler, chapter 14, on costs that look at the node.
use Rattle.std.specs.Prelude.{◌≡◌, ℕ, ◌≤ℤ◌, ℤ, pos, negsuc, Option, Some, None}
use Rattle.lburg_model.specs.declared.range.Range.{Range}

-- the constant lies from one end to the other, both included
abbrev pub Contains : Range → ℤ → Type 0
Contains range constant = (range.low ≤ℤ constant) × (constant ≤ℤ range.high)

-- the range, if there is one, contains the constant of a node; a node without a constant is in no range
abbrev pub IsMet : Option Range → Option ℤ → Type 0
IsMet None constant = Unit {0}
IsMet (Some range) None = ⊥
IsMet (Some range) (Some constant) = Contains range constant

-- from -2147483648 to 4294967295
abbrev pub IsEnd : ℤ → Type 0
IsEnd end = (negsuc 2147483647 ≤ℤ end) × (end ≤ℤ pos 4294967295)

-- what a rule of this cost keeps: with a range it costs nothing, and the range's ends are numbers of the language
abbrev pub IsRangeFor : ℕ → Option Range → Type 0
IsRangeFor cost None = Unit {0}
IsRangeFor cost (Some range) = (cost ≡ 0) × IsEnd range.low × IsEnd range.high
