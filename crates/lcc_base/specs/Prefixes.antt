-- A trace that goes on from another one, and what this says of the output and the depth.
use Rattle.std.specs.Prelude.{◌≡◌, ℕ, ◌≤◌, List, [], ◌∷◌, ◌++◌}
use Rattle.std.proofs.Common.{refl, sym, ap, ◌∙◌, subst, append_assoc, append-nil, arith}
use Rattle.lcc_base.specs.Traces.{Event, Wrote, Opened, Closed, output_of, opened_by, depth_of}

-- the second goes on from the first
abbrev pub Starts : List Event → List Event → Type 0
Starts a b = (rest : List Event) × (a ++ rest ≡ b)

pub starts_refl : (a : List Event) → Starts a a
starts_refl a = ([], append-nil a)

pub starts_trans : (a b c : List Event) → Starts a b → Starts b c → Starts a c
starts_trans a b c x y = (x.0 ++ y.0, sym (append_assoc a x.0 y.0) ∙ ap (λ z. z ++ y.0) x.1 ∙ y.1)

pub output_append : (a b : List Event) → output_of (a ++ b) ≡ output_of a ++ output_of b
output_append [] b = refl
output_append (Wrote byte ∷ es) b = ap (λ z. byte ∷ z) (output_append es b)
output_append (Opened f ∷ es) b = output_append es b
output_append (Closed ∷ es) b = output_append es b

-- then so does its output
pub output_starts : (a b : List Event) → Starts a b → (rest : List ℕ) × (output_of a ++ rest ≡ output_of b)
output_starts a b h = (output_of h.0, sym (output_append a h.0) ∙ ap output_of h.1)

depth_append : (room : ℕ → ℕ) (calls : List ℕ) (a b : List Event) → depth_of room calls a ≤ depth_of room calls (a ++ b)
depth_append room calls [] [] = omega arith
depth_append room calls [] (e ∷ es) = omega arith
depth_append room calls (e ∷ es) b = let h = depth_append room (opened_by calls e) es b in omega (arith, h)

-- and its depth is no less
pub depth_starts : (room : ℕ → ℕ) (calls : List ℕ) (a b : List Event) → Starts a b → depth_of room calls a ≤ depth_of room calls b
depth_starts room calls a b h = subst (λ x. depth_of room calls a ≤ depth_of room calls x) h.1 (depth_append room calls a h.0)
