-- Tokens at which no fault begins: those of a tree that the description knows.
use Rattle.std.proofs.Common.{◌≡◌, ◌≤◌, ◌<◌, ℕ, zero, suc, ◌+◌, List, [], ◌∷◌, ◌++◌, drop, Option, Some, None, refl, sym, ap, ◌∙◌, subst, inl, inr, arith}
use Rattle.std.specs.Prelude.{slice_get, option_map}
use Rattle.std.proofs.lemmas.Option.{same_Some, slice_get-map}
use Rattle.lburg_lines.specs.declared.token.Sign.TheVariants.{Open, Close, Comma, OpenBracket, CloseBracket}
use Rattle.lburg_lines.specs.Tokens.{Tok, Word, Number, Negative, Mark}
use Rattle.lburg_lines.specs.Numbers.{MNumber, Plain, Minus, number_token}
use Rattle.lburg_model.specs.declared.terminal.Terminal.{Terminal}
use Rattle.lburg_model.specs.Tree.{MTree, TLeaf, TOne, TTwo, nodes}
use Rattle.lburg_model.specs.Description.{MDescription, AreDistinct, terminal_at, terminal_names}
use Rattle.lburg_trees.specs.declared.row.Row.TheVariants.{BadTree, UnknownOp, WrongArity, TooLarge, TooHigh}
use Rattle.lburg_trees.specs.TailTree.{MTail, Alone, Over, Both, Ends, constant_then, tree_then, root_of, operands_of}
use Rattle.lburg_trees.specs.Setting.{Before, placed}
use Rattle.lburg_trees.specs.UnknownOp.{IsNamed}
use Rattle.lburg_trees.specs.TailText.{MayHave, TreeMeans, height}
use Rattle.lburg_trees.proofs.Trees.{same_tree, then_append, ends_close, ends_comma}
use Rattle.lburg_trees.proofs.Moves.{one, moved, WrongHere, NoneHere, Fine}

-- ---- the front of a tree

pub front_is : (a : MTail) (x : List Tok) → (y : List Tok) × (tree_then a x ≡ Word (root_of a) ∷ y)
front_is (Alone n c) x = (constant_then c x, refl)
front_is (Over n c a) x = (constant_then c (Mark Open ∷ tree_then a (Mark Close ∷ x)), refl)
front_is (Both n c a b) x = (constant_then c (Mark Open ∷ tree_then a (Mark Comma ∷ tree_then b (Mark Close ∷ x))), refl)

pub drop_none : (l : List Tok) → drop 0 l ≡ l
drop_none [] = refl
drop_none (t ∷ ts) = refl

-- what stands at the front
pub here_is : (d : MDescription) (tokens : List Tok) (p : ℕ) (w : WrongHere d tokens p) → tokens ≡ tree_then w.wrong.tree w.wrong.stands.rest
here_is d tokens p w =
    sym (drop_none tokens) ∙ subst (λ (k : ℕ). drop k tokens ≡ tree_then w.wrong.tree w.wrong.stands.rest) w.front w.wrong.stands.parts

-- where a tree stands at the front, it is that one
pub here_same : (d : MDescription) (tokens : List Tok) (p : ℕ) (a : MTail) (x : List Tok) → tokens ≡ tree_then a x → Ends a x → (w : WrongHere d tokens p) → (a ≡ w.wrong.tree) × (x ≡ w.wrong.stands.rest)
here_same d tokens p a x e h w = same_tree a w.wrong.tree x w.wrong.stands.rest h w.wrong.stands.ends (sym e ∙ here_is d tokens p w)

-- ---- one token

-- no tree begins with what is no name
pub no_name_here : (d : MDescription) (t : Tok) (x : List Tok) (p : ℕ) → ((n : List ℕ) → t ≡ Word n → ⊥) → WrongHere d (t ∷ x) p → ⊥
no_name_here d t x p h w =
    let f = front_is w.wrong.tree w.wrong.stands.rest in
    let e = here_is d (t ∷ x) p w ∙ f.1 in
    let i : t ≡ Word (root_of w.wrong.tree) = cc in
    h (root_of w.wrong.tree) i

-- at a token that is no name and opens no parenthesis too many
pub quiet : (d : MDescription) (b : Before) (t : Tok) (x : List Tok) → ((n : List ℕ) → t ≡ Word n → ⊥) → (t ≡ Mark Open → b.opened < 499) → NoneHere d b (t ∷ x)
quiet d b t x h k BadTree p g = g
quiet d b t x h k UnknownOp p g = h g.1.0 (same_Some t (Word g.1.0) g.1.1)
quiet d b t x h k TooLarge p g = h g.1.0 (same_Some t (Word g.1.0) g.1.1)
quiet d b t x h k TooHigh p g = let o = k (same_Some t (Mark Open) g.1.0) in let m = g.1.1 in omega arith
quiet d b t x h k WrongArity p g = no_name_here d t x p h g

-- at a name that is known
pub known : (d : MDescription) (b : Before) (n : List ℕ) (x : List Tok) (op : ℕ) (t : Terminal) → IsNamed d op t n → b.names < 65535 → ((p : ℕ) → WrongHere d (Word n ∷ x) p → ⊥) → NoneHere d b (Word n ∷ x)
known d b n x op t is few w BadTree p g = g
known d b n x op t is few w UnknownOp p g =
    let f = same_Some (Word n) (Word g.1.0) g.1.1 in
    let e : n ≡ g.1.0 = cc in
    g.1.2 op t (is.0, is.1 ∙ e)
known d b n x op t is few w TooLarge p g = let m = g.1.2 in omega arith
known d b n x op t is few w TooHigh p g = let f = same_Some (Word n) (Mark Open) g.1.0 in cc
known d b n x op t is few w WrongArity p g = w p g

-- ---- tokens

pub fine_close : (d : MDescription) (b : Before) (pre line : List Tok) → Fine d (one b (Mark Close)) pre line → Fine d b (Mark Close ∷ pre) line
fine_close d b pre line f = (quiet d b (Mark Close) (pre ++ line) (λ n e. cc) (λ e. absurd cc), f)

pub fine_comma : (d : MDescription) (b : Before) (pre line : List Tok) → Fine d b pre line → Fine d b (Mark Comma ∷ pre) line
fine_comma d b pre line f = (quiet d b (Mark Comma) (pre ++ line) (λ n e. cc) (λ e. absurd cc), f)

pub fine_open : (d : MDescription) (b : Before) (pre line : List Tok) → b.opened < 499 → Fine d (one b (Mark Open)) pre line → Fine d b (Mark Open ∷ pre) line
fine_open d b pre line h f = (quiet d b (Mark Open) (pre ++ line) (λ n e. cc) (λ e. h), f)

fine_bracket : (d : MDescription) (b : Before) (pre line : List Tok) → Fine d b pre line → Fine d b (Mark OpenBracket ∷ pre) line
fine_bracket d b pre line f = (quiet d b (Mark OpenBracket) (pre ++ line) (λ n e. cc) (λ e. absurd cc), f)

fine_number : (d : MDescription) (b : Before) (n : MNumber) (pre line : List Tok) → Fine d b pre line → Fine d b (number_token n ∷ pre) line
fine_number d b (Plain n) pre line f = (quiet d b (Number n) (pre ++ line) (λ n e. cc) (λ e. absurd cc), f)
fine_number d b (Minus n) pre line f = (quiet d b (Negative n) (pre ++ line) (λ n e. cc) (λ e. absurd cc), f)

fine_unbracket : (d : MDescription) (b : Before) (pre line : List Tok) → Fine d b pre line → Fine d b (Mark CloseBracket ∷ pre) line
fine_unbracket d b pre line f = (quiet d b (Mark CloseBracket) (pre ++ line) (λ n e. cc) (λ e. absurd cc), f)

pub fine_constant : (d : MDescription) (b : Before) (c : Option MNumber) (pre line : List Tok) → Fine d b pre line → Fine d b (constant_then c pre) line
fine_constant d b None pre line f = f
fine_constant d b (Some n) pre line f = fine_bracket d b (number_token n ∷ (Mark CloseBracket ∷ pre)) line (fine_number d b n (Mark CloseBracket ∷ pre) line (fine_unbracket d b pre line f))

-- ---- names and terminals

pub names_there : (d : MDescription) (op : ℕ) (t : Terminal) (n : List ℕ) → IsNamed d op t n → (i : ℕ) × (op ≡ suc i) × (slice_get (terminal_names d) i ≡ Some n)
names_there d zero t n h = let e = h.0 in absurd cc
names_there d (suc i) t n h =
    (i, refl, slice_get-map (λ (z : Terminal). z.name) d.terminals i ∙ ap (option_map (λ (z : Terminal). z.name)) h.0 ∙ ap (λ (z : List ℕ). Some z) h.1)

-- a name is one terminal's
pub one_terminal : (d : MDescription) (op other : ℕ) (t u : Terminal) (n : List ℕ) → AreDistinct (terminal_names d) → IsNamed d op t n → IsNamed d other u n → (op ≡ other) × (t ≡ u)
one_terminal d op other t u n h a b =
    let i = names_there d op t n a in
    let j = names_there d other u n b in
    let e = h i.0 j.0 n i.2 j.2 in
    let f : op ≡ other = i.1 ∙ ap (λ (k : ℕ). suc k) e ∙ sym j.1 in
    (f, same_Some t u (sym a.0 ∙ ap (terminal_at d) f ∙ b.0))

-- ---- a tree whose operators have as many operands as they may have

-- the root means this operator, with as many operands as it has
abbrev pub RootMay : MDescription → MTail → ℕ → Type 0
RootMay d a op = MayHave d op (root_of a) (operands_of a)

pub right_root : (d : MDescription) (tokens : List Tok) (p : ℕ) (a : MTail) (op : ℕ) (x : List Tok) → AreDistinct (terminal_names d) → tokens ≡ tree_then a x → Ends a x → RootMay d a op → WrongHere d tokens p → ⊥
right_root d tokens p a op x h e ends m w =
    let s = here_same d tokens p a x e ends w in
    let named : IsNamed d w.wrong.op w.wrong.terminal (root_of a) = (w.wrong.named.0, w.wrong.named.1 ∙ ap root_of (sym s.0)) in
    let o = one_terminal d w.wrong.op op w.wrong.terminal m.0 (root_of a) h named (m.1, m.2) in
    let g : m.0.arity ≡ Some w.wrong.arity = ap (λ (z : Terminal). z.arity) (sym o.1) ∙ w.wrong.arity_is in
    elim m.3 [
      | inl k ↦ w.wrong.differs (ap operands_of (sym s.0) ∙ same_Some _ _ (sym k ∙ g))
      | inr k ↦ (let q = sym k ∙ g in cc)
    ]

pub same_before : (o q n m : ℕ) → o ≡ q → n ≡ m → placed o n ≡ placed q m
same_before o q n m e f = ap (λ (k : ℕ). placed k n) e ∙ ap (placed q) f

-- behind a tree so many more names came
abbrev pub behind : Before → MTree → Before
behind b t = record { opened = b.opened; names = b.names + nodes t }

pub nodes_some : (t : MTree) → 1 ≤ nodes t
nodes_some (TLeaf op v) = omega arith
nodes_some (TOne op v a) = omega arith
nodes_some (TTwo op v a b) = omega arith

pub height_some : (a : MTail) → 1 ≤ height a
height_some (Alone n c) = omega arith
height_some (Over n c a) = omega arith
height_some (Both n c a b) = omega arith

pub fine_then : (d : MDescription) (b : Before) (a : MTail) (t : MTree) (pre line : List Tok) → AreDistinct (terminal_names d) → TreeMeans d a t → Ends a (pre ++ line) → b.names + nodes t ≤ 65535 → b.opened + height a ≤ 500 → Fine d (behind b t) pre line → Fine d b (tree_then a pre) line
fine_then d b (Alone n c) (TLeaf op v) pre line h m ends small low f =
    (known d b n (constant_then c pre ++ line) op m.0.0 (m.0.1, m.0.2) (omega arith) (λ p w. right_root d _ p (Alone n c) op (pre ++ line) h (then_append (Alone n c) pre line) ends m.0 w), fine_constant d (one b (Word n)) c pre line f)
fine_then d b (Over n c a) (TOne op v t) pre line h m ends small low f =
    let inside = placed (b.opened + 1) (b.names + 1) in
    let e : behind b (TOne op v t) ≡ one (behind inside t) (Mark Close) = same_before _ _ _ _ (omega arith) (omega arith) in
    let hs = height_some a in
    let rest = fine_close d (behind inside t) pre line (subst (λ (z : Before). Fine d z pre line) e f) in
    let kid = fine_then d inside a t (Mark Close ∷ pre) line h m.2 (ends_close a (pre ++ line)) (omega arith) (omega arith) rest in (
      known d b n _ op m.0.0 (m.0.1, m.0.2) (omega arith) (λ p w. right_root d _ p (Over n c a) op (pre ++ line) h (then_append (Over n c a) pre line) ends m.0 w),
      fine_constant d (one b (Word n)) c _ line (fine_open d (one b (Word n)) _ line (omega arith) kid),
    )
fine_then d b (Both n c a a2) (TTwo op v t u) pre line h m ends small low f =
    let inside = placed (b.opened + 1) (b.names + 1) in
    let e : behind b (TTwo op v t u) ≡ one (behind (behind inside t) u) (Mark Close) = same_before _ _ _ _ (omega arith) (omega arith) in
    let hs = height_some a in
    let rest = fine_close d (behind (behind inside t) u) pre line (subst (λ (z : Before). Fine d z pre line) e f) in
    let kid2 = fine_then d (behind inside t) a2 u (Mark Close ∷ pre) line h m.3 (ends_close a2 (pre ++ line)) (omega arith) (omega arith) rest in
    let ends1 : Ends a (Mark Comma ∷ (tree_then a2 (Mark Close ∷ pre) ++ line)) = ends_comma a _ in
    let kid = fine_then d inside a t (Mark Comma ∷ tree_then a2 (Mark Close ∷ pre)) line h m.2 ends1 (omega arith) (omega arith) (fine_comma d (behind inside t) _ line kid2) in (
      known d b n _ op m.0.0 (m.0.1, m.0.2) (omega arith) (λ p w. right_root d _ p (Both n c a a2) op (pre ++ line) h (then_append (Both n c a a2) pre line) ends m.0 w),
      fine_constant d (one b (Word n)) c _ line (fine_open d (one b (Word n)) _ line (omega arith) kid),
    )
fine_then d b (Alone n c) (TOne op v t) pre line h m ends small low f = absurd m
fine_then d b (Alone n c) (TTwo op v t u) pre line h m ends small low f = absurd m
fine_then d b (Over n c a) (TLeaf op v) pre line h m ends small low f = absurd m
fine_then d b (Over n c a) (TTwo op v t u) pre line h m ends small low f = absurd m
fine_then d b (Both n c a a2) (TLeaf op v) pre line h m ends small low f = absurd m
fine_then d b (Both n c a a2) (TOne op v t) pre line h m ends small low f = absurd m

-- ---- what came behind a tree

pub moved_constant : (b : Before) (c : Option MNumber) (x : List Tok) → moved b (constant_then c x) ≡ moved b x
moved_constant b None x = refl
moved_constant b (Some (Plain n)) x = refl
moved_constant b (Some (Minus n)) x = refl

pub moved_then : (d : MDescription) (b : Before) (a : MTail) (t : MTree) (x : List Tok) → TreeMeans d a t → moved b (tree_then a x) ≡ moved (behind b t) x
moved_then d b (Alone n c) (TLeaf op v) x m = moved_constant (one b (Word n)) c x
moved_then d b (Over n c a) (TOne op v t) x m =
    let inside = placed (b.opened + 1) (b.names + 1) in
    let e : one (behind inside t) (Mark Close) ≡ behind b (TOne op v t) = same_before _ _ _ _ (omega arith) (omega arith) in
    moved_constant (one b (Word n)) c _ ∙ moved_then d inside a t (Mark Close ∷ x) m.2 ∙ ap (λ (z : Before). moved z x) e
moved_then d b (Both n c a a2) (TTwo op v t u) x m =
    let inside = placed (b.opened + 1) (b.names + 1) in
    let e : one (behind (behind inside t) u) (Mark Close) ≡ behind b (TTwo op v t u) = same_before _ _ _ _ (omega arith) (omega arith) in
    moved_constant (one b (Word n)) c _ ∙ moved_then d inside a t (Mark Comma ∷ tree_then a2 (Mark Close ∷ x)) m.2 ∙ moved_then d (behind inside t) a2 u (Mark Close ∷ x) m.3 ∙ ap (λ (z : Before). moved z x) e
moved_then d b (Alone n c) (TOne op v t) x m = absurd m
moved_then d b (Alone n c) (TTwo op v t u) x m = absurd m
moved_then d b (Over n c a) (TLeaf op v) x m = absurd m
moved_then d b (Over n c a) (TTwo op v t u) x m = absurd m
moved_then d b (Both n c a a2) (TLeaf op v) x m = absurd m
moved_then d b (Both n c a a2) (TOne op v t) x m = absurd m
