-- Cases in rising order, cut into those of one table each: a case joins the table of the cases before it where at least half
-- of the table's numbers are then cases, else it begins a new table.
-- Source: Fraser and Hanson, A Retargetable C Compiler, chapter 10 (switch statements, dense tables).
use Rattle.std.specs.Prelude.{ℕ, ◌+◌, ◌-◌, ◌*◌, ◌%◌, ◌^◌, nat_le, Bool, List, [], ◌∷◌, ◌++◌, length, if◌then◌else◌}
use Rattle.c_meaning.specs.declared.core_stmt.CoreCase.{CoreCase}

-- how far a word lies behind another, modulo 2^32
abbrev pub offset : ℕ → ℕ → ℕ
offset low n = (n + (2 ^ 32 - low)) % 2 ^ 32

-- how many numbers there are from that of the first case on up to n
abbrev pub range_to : List CoreCase → ℕ → ℕ
range_to [] n = 0
range_to (c ∷ cs) n = offset c.number n + 1

abbrev pub joins : List CoreCase → CoreCase → Bool
joins group c = nat_le (range_to group c.number) (2 * (length group + 1))

-- behind the cases of a table
abbrev pub cut_behind : List CoreCase → List CoreCase → List (List CoreCase)
cut_behind group [] = group ∷ []
cut_behind group (c ∷ cs) = if joins group c then cut_behind (group ++ c ∷ []) cs else group ∷ cut_behind (c ∷ []) cs

abbrev pub cut : List CoreCase → List (List CoreCase)
cut [] = []
cut (c ∷ cs) = cut_behind (c ∷ []) cs

-- the cases of all groups
abbrev pub joined : List (List CoreCase) → List CoreCase
joined [] = []
joined (g ∷ gs) = g ++ joined gs
