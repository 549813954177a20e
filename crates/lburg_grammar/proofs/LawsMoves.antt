-- Faults of names and counts behind tokens that were passed: what is open and how many names came moves on with each token.
use Rattle.std.proofs.Common.{◌≡◌, ◌≤◌, ◌<◌, ◌⊎◌, ℕ, zero, suc, ◌+◌, ◌-◌, List, [], ◌∷◌, ◌++◌, length, take, drop, Option, Some, None, refl, ap, subst, inl, inr, arith, length-drop}
use Rattle.lburg_lines.specs.declared.token.Sign.TheVariants.{Open, Close, Comma, Colon, Equals, OpenBracket, CloseBracket}
use Rattle.lburg_lines.specs.Tokens.{Tok, Word, Number, Negative, Template, Keyword, Mark, Bound, Wrong}
use Rattle.lburg_lines.specs.Numbers.{MNumber}
use Rattle.lburg_model.specs.Description.{MDescription}
use Rattle.lburg_trees.specs.declared.row.Row.{Row}
use Rattle.lburg_trees.specs.declared.row.Row.TheVariants.{BadTree, UnknownOp, WrongArity, TooLarge, TooHigh}
use Rattle.lburg_trees.specs.TailTree.{MTail, Alone, Over, Both, constant_then, tree_then}
use Rattle.lburg_trees.specs.Counts.{names_among, open_behind}
use Rattle.lburg_trees.specs.Setting.{Before}
use Rattle.lburg_trees.specs.UnknownOp.{IsUnknownOp}
use Rattle.lburg_trees.specs.WrongArity.{IsWrongArity}
use Rattle.lburg_trees.specs.TooLarge.{IsTooLarge}
use Rattle.lburg_trees.specs.TooHigh.{IsTooHigh}
use Rattle.lburg_trees.specs.Rows.{Means}

-- behind a token
abbrev pub one : Before → Tok → Before
one b (Word n) = record { opened = b.opened; names = b.names + 1 }
one b (Mark Open) = record { opened = b.opened + 1; names = b.names }
one b (Mark Close) = record { opened = b.opened - 1; names = b.names }
one b t = b

-- behind tokens
abbrev pub moved : Before → List Tok → Before
moved b [] = b
moved b (t ∷ ts) = moved (one b t) ts

names_one : (b : Before) (t : Tok) (ts : List Tok) → b.names + names_among (t ∷ ts) ≡ (one b t).names + names_among ts
names_one b (Word n) ts = omega arith
names_one b (Number n) ts = refl
names_one b (Negative n) ts = refl
names_one b (Template n) ts = refl
names_one b (Keyword n) ts = refl
names_one b (Mark Open) ts = refl
names_one b (Mark Close) ts = refl
names_one b (Mark Comma) ts = refl
names_one b (Mark Colon) ts = refl
names_one b (Mark Equals) ts = refl
names_one b (Mark OpenBracket) ts = refl
names_one b (Mark CloseBracket) ts = refl
names_one b (Bound n) ts = refl
names_one b Wrong ts = refl

open_one : (b : Before) (t : Tok) (ts : List Tok) → open_behind b.opened (t ∷ ts) ≡ open_behind (one b t).opened ts
open_one b (Word n) ts = refl
open_one b (Number n) ts = refl
open_one b (Negative n) ts = refl
open_one b (Template n) ts = refl
open_one b (Keyword n) ts = refl
open_one b (Mark Open) ts = refl
open_one b (Mark Close) ts = refl
open_one b (Mark Comma) ts = refl
open_one b (Mark Colon) ts = refl
open_one b (Mark Equals) ts = refl
open_one b (Mark OpenBracket) ts = refl
open_one b (Mark CloseBracket) ts = refl
open_one b (Bound n) ts = refl
open_one b Wrong ts = refl

-- a tree of a wrong number of operands that stands at the front, and whose last token stands at the place
pub record WrongHere (d : MDescription) (tokens : List Tok) (place : ℕ) : Type 0 where
  pub wrong : IsWrongArity d tokens place
  pub front : wrong.at ≡ 0

-- a fault of the first token, or of the tree that begins with it
abbrev pub Begins : MDescription → Before → Row → List Tok → ℕ → Type 0
Begins d b BadTree tokens p = ⊥
Begins d b UnknownOp tokens p = (p ≡ 0) × IsUnknownOp d tokens 0
Begins d b WrongArity tokens p = WrongHere d tokens p
Begins d b TooLarge tokens p = (p ≡ 0) × IsTooLarge b tokens 0
Begins d b TooHigh tokens p = (p ≡ 0) × IsTooHigh b tokens 0

-- a fault behind the first token
abbrev pub Later : MDescription → Before → Row → Tok → List Tok → ℕ → Type 0
Later d b row t ts p = (q : ℕ) × (p ≡ suc q) × Means d (one b t) row ts q

constant_long : (c : Option MNumber) (x : List Tok) → length x ≤ length (constant_then c x)
constant_long None x = omega arith
constant_long (Some n) x = omega arith

-- a tree has a token at least
pub tree_long : (a : MTail) (x : List Tok) → length x < length (tree_then a x)
tree_long (Alone n c) x = let h = constant_long c x in omega arith
tree_long (Over n c a) x = let h = constant_long c (Mark Open ∷ tree_then a (Mark Close ∷ x)) in let k = tree_long a (Mark Close ∷ x) in omega arith
tree_long (Both n c a b) x =
    let h = constant_long c (Mark Open ∷ tree_then a (Mark Comma ∷ tree_then b (Mark Close ∷ x))) in
    let k = tree_long a (Mark Comma ∷ tree_then b (Mark Close ∷ x)) in
    let l = tree_long b (Mark Close ∷ x) in
    omega arith

wrong_split : (d : MDescription) (b : Before) (t : Tok) (ts : List Tok) (p i : ℕ) (w : IsWrongArity d (t ∷ ts) p) → w.at ≡ i → Begins d b WrongArity (t ∷ ts) p ⊎ Later d b WrongArity t ts p
wrong_split d b t ts p zero w e = inl (record { wrong = w; front = e })
wrong_split d b t ts zero (suc i) w e =
    let f : drop i ts ≡ tree_then w.tree w.stands.rest = subst (λ (k : ℕ). drop k (t ∷ ts) ≡ tree_then w.tree w.stands.rest) e w.stands.parts in
    let g = ap length f in
    let h = length-drop i ts in
    let k = tree_long w.tree w.stands.rest in
    let l = w.stands.last_is in
    absurd (omega arith)
wrong_split d b t ts (suc q) (suc i) w e =
    let f : drop i ts ≡ tree_then w.tree w.stands.rest = subst (λ (k : ℕ). drop k (t ∷ ts) ≡ tree_then w.tree w.stands.rest) e w.stands.parts in
    let l = w.stands.last_is in
    inr (
      q,
      refl,
      record {
        at = i;
        tree = w.tree;
        stands = record { rest = w.stands.rest; parts = f; numbers = w.stands.numbers; ends = w.stands.ends; last_is = omega arith };
        op = w.op;
        terminal = w.terminal;
        named = w.named;
        arity = w.arity;
        arity_is = w.arity_is;
        differs = w.differs;
      },
    )

-- a fault is one of the first token, or one behind it
split : (d : MDescription) (b : Before) (row : Row) (t : Tok) (ts : List Tok) (p : ℕ) → Means d b row (t ∷ ts) p → Begins d b row (t ∷ ts) p ⊎ Later d b row t ts p
split d b BadTree t ts p m = absurd m
split d b UnknownOp t ts zero m = inl (refl, m)
split d b UnknownOp t ts (suc q) m = inr (q, refl, m)
split d b TooLarge t ts zero m = inl (refl, m)
split d b TooLarge t ts (suc q) m = inr (q, refl, (m.0, m.1, subst (λ (k : ℕ). 65535 ≤ k) (names_one b t (take q ts)) m.2))
split d b TooHigh t ts zero m = inl (refl, m)
split d b TooHigh t ts (suc q) m = inr (q, refl, (m.0, subst (λ (k : ℕ). 499 ≤ k) (open_one b t (take q ts)) m.1))
split d b WrongArity t ts p m = wrong_split d b t ts p m.at m refl

-- ---- tokens at which no fault begins

abbrev pub NoneHere : MDescription → Before → List Tok → Type 0
NoneHere d b tokens = (row : Row) (p : ℕ) → Begins d b row tokens p → ⊥

-- no fault begins at any of them, where line stands behind them
abbrev pub Fine : MDescription → Before → List Tok → List Tok → Type 0
Fine d b [] line = Unit {0}
Fine d b (t ∷ pre) line = NoneHere d b (t ∷ (pre ++ line)) × Fine d (one b t) pre line

-- what faults then stand behind them
pub past : (d : MDescription) (b : Before) (pre line : List Tok) (row : Row) (p : ℕ) → Fine d b pre line → Means d b row (pre ++ line) p → (q : ℕ) × (p ≡ length pre + q) × Means d (moved b pre) row line q
past d b [] line row p f m = (p, omega arith, m)
past d b (t ∷ pre) line row p f m =
    elim (split d b row t (pre ++ line) p m) [
      | inl h ↦ absurd (f.0 row p h)
      | inr h ↦ (let r = past d (one b t) pre line row h.0 f.1 h.2 in let e = r.1 in let g = h.1 in (r.0, omega arith, r.2))
    ]
