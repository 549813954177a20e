-- Lines that are added behind others go on with the numbers.
use Rattle.std.proofs.Common.{◌≡◌, ℕ, ◌+◌, List, [], ◌∷◌, ◌++◌, length, refl, sym, ap, ◌∙◌, arith, append_assoc, length-append, append-nil}
use Rattle.asm_text.specs.Lines.{MLine}
use Rattle.unit_text.specs.UnitLines.{Item, numbered}

numbered_append : (n m : ℕ) (xs ys : List Item) → m ≡ n + length xs → numbered n (xs ++ ys) ≡ numbered n xs ++ numbered m ys
numbered_append n m [] ys e = let f : n ≡ m = omega (arith, e) in ap (λ k. numbered k ys) f
numbered_append n m (x ∷ xs) ys e =
    let f : m ≡ n + 1 + length xs = omega (arith, e) in
    ap (λ rest. record { labels = x.labels; statement = x.statement; number = n } ∷ rest) (numbered_append (n + 1) m xs ys f)

pub numbered_length : (n : ℕ) (xs : List Item) → length (numbered n xs) ≡ length xs
numbered_length n [] = refl
numbered_length n (x ∷ xs) = let e = numbered_length (n + 1) xs in omega (arith, e)

-- some, and then others
pub added : (lines new : List MLine) (xs ys : List Item) → new ≡ lines ++ numbered (length lines + 1) xs → new ++ numbered (length new + 1) ys ≡ lines ++ numbered (length lines + 1) (xs ++ ys)
added lines new xs ys e =
    let a = length-append lines (numbered (length lines + 1) xs) in
    let b = numbered_length (length lines + 1) xs in
    let c : length new ≡ length (lines ++ numbered (length lines + 1) xs) = ap length e in
    let d : length new + 1 ≡ length lines + 1 + length xs = omega (arith, a, b, c) in
    ap (λ l. l ++ numbered (length new + 1) ys) e ∙ append_assoc lines (numbered (length lines + 1) xs) (numbered (length new + 1) ys) ∙ ap (λ l. lines ++ l) (sym (numbered_append (length lines + 1) (length new + 1) xs ys d))

-- one, and then others
pub added_one : (lines new : List MLine) (x : Item) (ys : List Item) (all : List MLine) → new ≡ lines ++ numbered (length lines + 1) (x ∷ []) → lines ++ numbered (length lines + 1) (x ∷ ys) ≡ all → new ++ numbered (length new + 1) ys ≡ all
added_one lines new x ys all e f = added lines new (x ∷ []) ys e ∙ f

-- with nothing behind them
pub added_none : (lines all : List MLine) (ys : List Item) → ys ≡ [] → lines ++ numbered (length lines + 1) ys ≡ all → lines ≡ all
added_none lines all ys e f = sym (append-nil lines) ∙ ap (λ y. lines ++ numbered (length lines + 1) y) (sym e) ∙ f
