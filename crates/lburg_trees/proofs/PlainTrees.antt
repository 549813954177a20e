-- Trees in their plain form, from their parts.
use Rattle.std.proofs.Common.{◌≡◌, ◌≤◌, ◌<◌, ◌+◌, ℕ, Option, None, Some, List, ◌∷◌, ◌++◌, refl, ap, ◌∙◌, inl, arith}
use Rattle.std.specs.Prelude.{IfSome}
use Rattle.lburg_model.specs.Tree.{MTree, TLeaf, TOne, TTwo, nodes}
use Rattle.lburg_model.specs.Description.{MDescription}
use Rattle.lburg_trees.specs.Setting.{placed}
use Rattle.lburg_trees.specs.TailTree.{Alone, Over, Both}
use Rattle.lburg_trees.specs.TailText.{MayHave}
use Rattle.lburg_trees.specs.Known.{ReadsName}
use Rattle.lburg_trees.specs.PlainTree.{ReadsPlain, plain_then}

-- what follows from two facts of what was found
pub in_both : {A : Type 0} (o : Option A) (P Q R : A → Type 0) → ((a : A) → P a → Q a → R a) → IfSome o P → IfSome o Q → IfSome o R
in_both None P Q R f p q = tt
in_both (Some a) P Q R f p q = f a p q

may_have : (d : MDescription) (bytes rest : List ℕ) (op arity : ℕ) → (h : ReadsName d bytes rest op arity) → MayHave d op h.terminal.name arity
may_have d bytes rest op arity h = (h.terminal, h.named.0, refl, inl h.arity_is)

pub leaf_plain : (d : MDescription) (o n : ℕ) (bytes rest : List ℕ) (op : ℕ) → ReadsName d bytes rest op 0 → o ≤ 499 → n < 65535 → ReadsPlain d (placed o n) bytes rest (TLeaf op None)
leaf_plain d o n bytes rest op h low small = record {
  written = Alone h.terminal.name None;
  plain = refl;
  parts = h.parts;
  means = (may_have d bytes rest op 0 h, refl);
  small = omega arith;
  low = omega arith;
}

pub one_plain : (d : MDescription) (o n : ℕ) (bytes behind line after rest : List ℕ) (op : ℕ) (t : MTree) → ReadsName d bytes behind op 1 → behind ≡ 40 ∷ line → ReadsPlain d (placed (o + 1) (n + 1)) line after t → after ≡ 41 ∷ rest → ReadsPlain d (placed o n) bytes rest (TOne op None t)
one_plain d o n bytes behind line after rest op t h e first f =
    let name = h.terminal.name in
    let w = first.written in
    let small = first.small in
    let low = first.low in
    let g : line ≡ plain_then w (41 ∷ rest) = first.parts ∙ ap (λ (z : List ℕ). plain_then w z) f in
    record {
      written = Over name None w;
      plain = (refl, first.plain);
      parts = h.parts ∙ ap (λ (z : List ℕ). name ++ z) (e ∙ ap (λ (z : List ℕ). 40 ∷ z) g);
      means = (may_have d bytes behind op 1 h, refl, first.means);
      small = omega arith;
      low = omega arith;
    }

pub two_plain : (d : MDescription) (o n m : ℕ) (bytes behind line after line2 after2 rest : List ℕ) (op : ℕ) (t u : MTree) → ReadsName d bytes behind op 2 → behind ≡ 40 ∷ line → ReadsPlain d (placed (o + 1) (n + 1)) line after t → m ≡ n + 1 + nodes t → after ≡ 44 ∷ line2 → ReadsPlain d (placed (o + 1) m) line2 after2 u → after2 ≡ 41 ∷ rest → ReadsPlain d (placed o n) bytes rest (TTwo op None t u)
two_plain d o n m bytes behind line after line2 after2 rest op t u h e first k f second g =
    let name = h.terminal.name in
    let w = first.written in
    let v = second.written in
    let small = second.small in
    let low = first.low in
    let low2 = second.low in
    let p : line2 ≡ plain_then v (41 ∷ rest) = second.parts ∙ ap (λ (z : List ℕ). plain_then v z) g in
    let q : line ≡ plain_then w (44 ∷ plain_then v (41 ∷ rest)) = first.parts ∙ ap (λ (z : List ℕ). plain_then w z) (f ∙ ap (λ (z : List ℕ). 44 ∷ z) p) in
    record {
      written = Both name None w v;
      plain = (refl, first.plain, second.plain);
      parts = h.parts ∙ ap (λ (z : List ℕ). name ++ z) (e ∙ ap (λ (z : List ℕ). 40 ∷ z) q);
      means = (may_have d bytes behind op 2 h, refl, first.means, second.means);
      small = omega arith;
      low = omega arith;
    }
