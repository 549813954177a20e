-- No two places are each before the other.
use Rattle.std.proofs.Common.{◌≡◌, ◌≤◌, ◌<◌, ◌⊎◌, inl, inr, arith}
use Rattle.lcc_text.specs.Firsts.{Place, NotBehind, IsFirst}

-- of two places of which neither is behind the other, lines and rows are the same
abbrev pub IsAlike : Place → Place → Type 0
IsAlike p q = (p.line ≡ q.line) × (p.row ≡ q.row)

in_line : (p q : Place) → p.line ≡ q.line → (p.token < q.token) ⊎ ((p.token ≡ q.token) × (p.row ≤ q.row)) → (q.token < p.token) ⊎ ((q.token ≡ p.token) × (q.row ≤ p.row)) → IsAlike p q
in_line p q e (inl a) (inl b) = absurd (omega arith)
in_line p q e (inl a) (inr b) = let f = b.0 in absurd (omega arith)
in_line p q e (inr a) (inl b) = let f = a.0 in absurd (omega arith)
in_line p q e (inr a) (inr b) = let f = a.1 in let g = b.1 in (e, omega arith)

pub alike : (p q : Place) → NotBehind p q → NotBehind q p → IsAlike p q
alike p q (inl a) (inl b) = absurd (omega arith)
alike p q (inl a) (inr b) = let f = b.0 in absurd (omega arith)
alike p q (inr a) (inl b) = let f = a.0 in absurd (omega arith)
alike p q (inr a) (inr b) = in_line p q a.0 a.1 b.1

-- two first places are alike, where what stands at each of them stands for the other
pub firsts_alike : (S T : Place → Type 0) (p q : Place) → ((r : Place) → S r → T r) → ((r : Place) → T r → S r) → IsFirst S p → IsFirst T q → IsAlike p q
firsts_alike S T p q there back a b = alike p q (a.least q (back q b.stands)) (b.least p (there p a.stands))
