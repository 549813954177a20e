-- What may stand before an operand in its tree.
use Rattle.std.proofs.Common.{◌≡◌, ◌<◌, ℕ, Bool, true, false, List, [], ◌∷◌, ◌++◌, length, Option, refl, sym, ap, ◌∙◌, inl, inr, arith}
use Rattle.lburg_lines.specs.declared.token.Sign.TheVariants.{Open, Close, Comma}
use Rattle.lburg_lines.specs.Tokens.{Tok, Word, Mark}
use Rattle.lburg_lines.specs.Numbers.{MNumber}
use Rattle.lburg_trees.specs.TailTree.{MTail, Alone, Over, Both, IsConstant, HasNumbers, Ends, constant_then, tree_then}
use Rattle.lburg_trees.specs.Reading.{IsBehind, opened}
use Rattle.lburg_trees.proofs.Trees.{same_tree, same_head, not_open, then_append, constant_append, ends_close, ends_comma}
use Rattle.lburg_trees.proofs.Moves.{tree_long}

-- Behind the root's name and these tokens an operand stands in each tree, which goes on behind it, and each operand makes a
-- tree.
pub record Context (n : List ℕ) (pre : List Tok) (last : Bool) : Type 0 where
  pub wraps : (t : MTail) → HasNumbers t → (whole : MTail) × HasNumbers whole × (Word n ∷ (pre ++ tree_then t (Mark Close ∷ [])) ≡ tree_then whole [])
  pub opens : (whole : MTail) (x y : List Tok) → HasNumbers whole → Ends whole x → Word n ∷ (pre ++ y) ≡ tree_then whole x → (t : MTail) × (after : List Tok) × HasNumbers t × IsBehind last after × (y ≡ tree_then t after) × (length x < length after)

-- ---- the first operand

abbrev pub first_pre : Option MNumber → List Tok
first_pre c = constant_then c (Mark Open ∷ [])

pub first_line : (n : List ℕ) (c : Option MNumber) (y : List Tok) → Word n ∷ (first_pre c ++ y) ≡ opened n c y
first_line n c y = ap (λ (l : List Tok). Word n ∷ l) (constant_append c (Mark Open ∷ []) y)

first_wraps : (n : List ℕ) (c : Option MNumber) → IsConstant c → (t : MTail) → HasNumbers t → (whole : MTail) × HasNumbers whole × (Word n ∷ (first_pre c ++ tree_then t (Mark Close ∷ [])) ≡ tree_then whole [])
first_wraps n c k t h = (Over n c t, (k, h), first_line n c (tree_then t (Mark Close ∷ [])))

first_opens : (n : List ℕ) (c : Option MNumber) (whole : MTail) (x y : List Tok) → HasNumbers whole → Ends whole x → opened n c y ≡ tree_then whole x → (t : MTail) × (after : List Tok) × HasNumbers t × IsBehind false after × (y ≡ tree_then t after) × (length x < length after)
first_opens n c (Alone m d) x y h ends e = absurd (not_open m n d c x y ends (sym e))
first_opens n c (Over m d b) x y h ends e = let s = same_head n m c d y _ e in (b, Mark Close ∷ x, h.1, inl refl, s.2, omega arith)
first_opens n c (Both m d b b2) x y h ends e =
    let s = same_head n m c d y _ e in
    let long = tree_long b2 (Mark Close ∷ x) in
    (b, Mark Comma ∷ tree_then b2 (Mark Close ∷ x), h.1, inr (refl, refl), s.2, omega arith)

pub first_context : (n : List ℕ) (c : Option MNumber) → IsConstant c → Context n (first_pre c) false
first_context n c k = record {
  wraps = first_wraps n c k;
  opens = λ whole x y h ends e. first_opens n c whole x y h ends (sym (first_line n c y) ∙ e);
}

-- ---- the second operand, behind the first

abbrev pub second_pre : Option MNumber → MTail → List Tok
second_pre c a = constant_then c (Mark Open ∷ tree_then a (Mark Comma ∷ []))

pub second_line : (n : List ℕ) (c : Option MNumber) (a : MTail) (y : List Tok) → Word n ∷ (second_pre c a ++ y) ≡ opened n c (tree_then a (Mark Comma ∷ y))
second_line n c a y = ap (λ (l : List Tok). Word n ∷ l) (constant_append c (Mark Open ∷ tree_then a (Mark Comma ∷ [])) y) ∙ ap (opened n c) (then_append a (Mark Comma ∷ []) y)

second_wraps : (n : List ℕ) (c : Option MNumber) (a : MTail) → IsConstant c → HasNumbers a → (t : MTail) → HasNumbers t → (whole : MTail) × HasNumbers whole × (Word n ∷ (second_pre c a ++ tree_then t (Mark Close ∷ [])) ≡ tree_then whole [])
second_wraps n c a k i t h = (Both n c a t, (k, i, h), second_line n c a (tree_then t (Mark Close ∷ [])))

second_opens : (n : List ℕ) (c : Option MNumber) (a : MTail) (whole : MTail) (x y : List Tok) → HasNumbers whole → Ends whole x → opened n c (tree_then a (Mark Comma ∷ y)) ≡ tree_then whole x → (t : MTail) × (after : List Tok) × HasNumbers t × IsBehind true after × (y ≡ tree_then t after) × (length x < length after)
second_opens n c a (Alone m d) x y h ends e = absurd (not_open m n d c x _ ends (sym e))
second_opens n c a (Over m d b) x y h ends e =
    let s = same_head n m c d _ _ e in
    let u = same_tree a b (Mark Comma ∷ y) (Mark Close ∷ x) (ends_comma a y) (ends_close b x) s.2 in
    let k = u.1 in
    absurd cc
second_opens n c a (Both m d b b2) x y h ends e =
    let s = same_head n m c d _ _ e in
    let u = same_tree a b (Mark Comma ∷ y) (Mark Comma ∷ tree_then b2 (Mark Close ∷ x)) (ends_comma a y) (ends_comma b _) s.2 in
    let k = u.1 in
    let f : y ≡ tree_then b2 (Mark Close ∷ x) = cc in
    (b2, Mark Close ∷ x, h.2, inl refl, f, omega arith)

pub second_context : (n : List ℕ) (c : Option MNumber) (a : MTail) → IsConstant c → HasNumbers a → Context n (second_pre c a) true
second_context n c a k i = record {
  wraps = second_wraps n c a k i;
  opens = λ whole x y h ends e. second_opens n c a whole x y h ends (sym (second_line n c a y) ∙ e);
}
