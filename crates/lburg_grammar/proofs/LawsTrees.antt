-- Trees of a tail as tokens: no tree begins another.
use Rattle.std.proofs.Common.{◌≡◌, List, ◌∷◌, ◌++◌, [], Option, Some, None, refl, sym, ap, ◌∙◌}
use Rattle.std.specs.Prelude.{◌≢◌, ℕ}
use Rattle.lcc_text.specs.Stops.{next}
use Rattle.lburg_lines.specs.declared.token.Sign.TheVariants.{Open, Close, Comma, OpenBracket}
use Rattle.lburg_lines.specs.Tokens.{Tok, Word, Mark}
use Rattle.lburg_lines.specs.Numbers.{MNumber, Plain, Minus, number_token}
use Rattle.lburg_trees.specs.TailTree.{MTail, Alone, Over, Both, Ends, constant_then, tree_then}
use Rattle.lburg_trees.specs.Reading.{opened}

constant_append : (c : Option MNumber) (x y : List Tok) → constant_then c x ++ y ≡ constant_then c (x ++ y)
constant_append None x y = refl
constant_append (Some n) x y = refl

headed_append : (n : List ℕ) (c : Option MNumber) (x y z : List Tok) → x ++ y ≡ z → opened n c x ++ y ≡ opened n c z
headed_append n c x y z e = ap (λ (l : List Tok). Word n ∷ l) (constant_append c (Mark Open ∷ x) y) ∙ ap (opened n c) e

pub then_append : (t : MTail) (x y : List Tok) → tree_then t x ++ y ≡ tree_then t (x ++ y)
then_append (Alone n c) x y = ap (λ (l : List Tok). Word n ∷ l) (constant_append c x y)
then_append (Over n c a) x y = headed_append n c _ y _ (then_append a (Mark Close ∷ x) y)
then_append (Both n c a b) x y =
    headed_append n c _ y _ (then_append a (Mark Comma ∷ tree_then b (Mark Close ∷ x)) y ∙ ap (λ (l : List Tok). tree_then a (Mark Comma ∷ l)) (then_append b (Mark Close ∷ x) y))

pub ends_nil : (t : MTail) → Ends t []
ends_nil (Alone n None) = (λ f. cc, λ f. cc)
ends_nil (Alone n (Some c)) = λ f. cc
ends_nil (Over n c a) = tt
ends_nil (Both n c a b) = tt

pub ends_close : (t : MTail) (x : List Tok) → Ends t (Mark Close ∷ x)
ends_close (Alone n None) x = (λ f. cc, λ f. cc)
ends_close (Alone n (Some c)) x = λ f. cc
ends_close (Over n c a) x = tt
ends_close (Both n c a b) x = tt

pub ends_comma : (t : MTail) (x : List Tok) → Ends t (Mark Comma ∷ x)
ends_comma (Alone n None) x = (λ f. cc, λ f. cc)
ends_comma (Alone n (Some c)) x = λ f. cc
ends_comma (Over n c a) x = tt
ends_comma (Both n c a b) x = tt

alone_bracket : (n : List ℕ) (c : Option MNumber) (x : List Tok) → Ends (Alone n c) x → c ≡ None → next x ≢ Some (Mark OpenBracket)
alone_bracket n None x h e = h.0
alone_bracket n (Some c) x h e = absurd cc

alone_open : (n : List ℕ) (c : Option MNumber) (x : List Tok) → Ends (Alone n c) x → next x ≢ Some (Mark Open)
alone_open n None x h = h.1
alone_open n (Some c) x h = h

open_bracket : (c : Option MNumber) (l : List Tok) → c ≡ None → next (Mark Open ∷ l) ≢ Some (Mark OpenBracket)
open_bracket c l e f = cc

same_number : (n m : MNumber) → number_token n ≡ number_token m → n ≡ m
same_number (Plain a) (Plain b) e = let f : a ≡ b = cc in ap Plain f
same_number (Minus a) (Minus b) e = let f : a ≡ b = cc in ap Minus f
same_number (Plain a) (Minus b) e = absurd cc
same_number (Minus a) (Plain b) e = absurd cc

-- behind a name one constant stands, or none
pub same_constant : (c d : Option MNumber) (x y : List Tok) → (c ≡ None → next x ≢ Some (Mark OpenBracket)) → (d ≡ None → next y ≢ Some (Mark OpenBracket)) → constant_then c x ≡ constant_then d y → (c ≡ d) × (x ≡ y)
same_constant None None x y h k e = (refl, e)
same_constant None (Some m) x y h k e = absurd (h refl (ap next e))
same_constant (Some n) None x y h k e = absurd (k refl (ap next (sym e)))
same_constant (Some n) (Some m) x y h k e =
    let f : number_token n ≡ number_token m = cc in
    let g : x ≡ y = cc in
    (ap (λ (z : MNumber). Some z) (same_number n m f), g)

-- behind a whole name with its constant no operands stand
pub not_open : (n m : List ℕ) (c d : Option MNumber) (x z : List Tok) → Ends (Alone n c) x → Word n ∷ constant_then c x ≡ Word m ∷ constant_then d (Mark Open ∷ z) → ⊥
not_open n m c d x z h e =
    let f : constant_then c x ≡ constant_then d (Mark Open ∷ z) = cc in
    let s = same_constant c d x (Mark Open ∷ z) (alone_bracket n c x h) (open_bracket d z) f in
    alone_open n c x h (ap next s.1)

-- what stands behind one open parenthesis
pub same_head : (n m : List ℕ) (c d : Option MNumber) (x y : List Tok) → opened n c x ≡ opened m d y → (n ≡ m) × (c ≡ d) × (x ≡ y)
same_head n m c d x y e =
    let f : constant_then c (Mark Open ∷ x) ≡ constant_then d (Mark Open ∷ y) = cc in
    let s = same_constant c d (Mark Open ∷ x) (Mark Open ∷ y) (open_bracket c x) (open_bracket d y) f in
    let g = s.1 in
    let h : x ≡ y = cc in
    let i : n ≡ m = cc in
    (i, s.0, h)

-- no tree begins another
pub same_tree : (a b : MTail) (x y : List Tok) → Ends a x → Ends b y → tree_then a x ≡ tree_then b y → (a ≡ b) × (x ≡ y)
same_tree (Alone n c) (Alone m d) x y p q e =
    let f : constant_then c x ≡ constant_then d y = cc in
    let s = same_constant c d x y (alone_bracket n c x p) (alone_bracket m d y q) f in
    let g : n ≡ m = cc in
    let h = s.0 in
    (cc, s.1)
same_tree (Alone n c) (Over m d b) x y p q e = absurd (not_open n m c d x _ p e)
same_tree (Alone n c) (Both m d b b2) x y p q e = absurd (not_open n m c d x _ p e)
same_tree (Over n c a) (Alone m d) x y p q e = absurd (not_open m n d c y _ q (sym e))
same_tree (Both n c a a2) (Alone m d) x y p q e = absurd (not_open m n d c y _ q (sym e))
same_tree (Over n c a) (Over m d b) x y p q e =
    let h = same_head n m c d _ _ e in
    let s = same_tree a b (Mark Close ∷ x) (Mark Close ∷ y) (ends_close a x) (ends_close b y) h.2 in
    let i = h.0 in
    let j = h.1 in
    let k = s.0 in
    let l = s.1 in
    (cc, cc)
same_tree (Over n c a) (Both m d b b2) x y p q e =
    let h = same_head n m c d _ _ e in
    let s = same_tree a b (Mark Close ∷ x) (Mark Comma ∷ tree_then b2 (Mark Close ∷ y)) (ends_close a x) (ends_comma b _) h.2 in
    let k = s.1 in
    cc
same_tree (Both n c a a2) (Over m d b) x y p q e =
    let h = same_head n m c d _ _ e in
    let s = same_tree a b (Mark Comma ∷ tree_then a2 (Mark Close ∷ x)) (Mark Close ∷ y) (ends_comma a _) (ends_close b y) h.2 in
    let k = s.1 in
    cc
same_tree (Both n c a a2) (Both m d b b2) x y p q e =
    let h = same_head n m c d _ _ e in
    let s = same_tree a b _ _ (ends_comma a _) (ends_comma b _) h.2 in
    let k = s.1 in
    let g : tree_then a2 (Mark Close ∷ x) ≡ tree_then b2 (Mark Close ∷ y) = cc in
    let u = same_tree a2 b2 _ _ (ends_close a2 x) (ends_close b2 y) g in
    let i = h.0 in
    let j = h.1 in
    let l = s.0 in
    let v = u.0 in
    let w = u.1 in
    (cc, cc)
