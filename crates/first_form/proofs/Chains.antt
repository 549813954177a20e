-- Chains of operands of a level, with operators between them.
use Rattle.std.proofs.Common.{◌≡◌, ◌≤◌, ◌+◌, ◌-◌, ◌⊎◌, ℕ, List, [], ◌∷◌, max, refl, sym, ap, ◌∙◌, subst, arith, inl, inr}
use Rattle.std.proofs.lemmas.Bool.Decides.{leb_tells}
use Rattle.first_form.specs.declared.expression.Operator.{Operator}
use Rattle.first_form.specs.declared.expression.Operator.TheVariants.{Add, Subtract, Multiply}
use Rattle.first_form.specs.Tokens.{Token, Begins, AreTokens}
use Rattle.first_form.specs.Expression.{MExpression, Constant, Negated, Combined, Enclosed}
use Rattle.first_form.specs.Grammar.{sign_of, tokens_then, level_of, Derives}
use Rattle.first_form.specs.Height.{height}
use Rattle.first_form.specs.Readings.{Ends, Reads, IsThere}
use Rattle.first_form.proofs.Cut.{tokens_behind, none_begins}
use Rattle.first_form.proofs.Lists.{same_head}
use Rattle.first_form.proofs.Operands.{apart}

-- ---- operators and their signs

pub same_operator : (p q : Operator) → sign_of p ≡ sign_of q → p ≡ q
same_operator Add Add e = refl
same_operator Add Subtract e = apart 43 45 [] [] _ (λ f. omega arith) e
same_operator Add Multiply e = apart 43 42 [] [] _ (λ f. omega arith) e
same_operator Subtract Add e = apart 45 43 [] [] _ (λ f. omega arith) e
same_operator Subtract Subtract e = refl
same_operator Subtract Multiply e = apart 45 42 [] [] _ (λ f. omega arith) e
same_operator Multiply Add e = apart 42 43 [] [] _ (λ f. omega arith) e
same_operator Multiply Subtract e = apart 42 45 [] [] _ (λ f. omega arith) e
same_operator Multiply Multiply e = refl

-- ---- an expression of a level as its first operand, and further ones behind their operators

abbrev pub Link : Type 0
Link = Operator × MExpression

abbrev pub join : MExpression → List Link → MExpression
join a [] = a
join a (l ∷ ls) = join (Combined l.0 a l.1) ls

abbrev pub links_then : List Link → List Token → List Token
links_then [] rest = rest
links_then (l ∷ ls) rest = sign_of l.0 ∷ tokens_then l.1 (links_then ls rest)

abbrev pub AreLinks : ℕ → List Link → Type 0
AreLinks level [] = Unit {0}
AreLinks level (l ∷ ls) = (level_of l.0 ≡ level) × Derives (level + 1) l.1 × AreLinks level ls

pub tokens_join : (ls : List Link) (a : MExpression) (rest : List Token) → tokens_then (join a ls) rest ≡ tokens_then a (links_then ls rest)
tokens_join [] a rest = refl
tokens_join (l ∷ ls) a rest = tokens_join ls (Combined l.0 a l.1) rest

pub height_join : (ls : List Link) (a : MExpression) → height a ≤ height (join a ls)
height_join [] a = omega arith
height_join (l ∷ ls) a = let h = height_join ls (Combined l.0 a l.1) in omega arith

pub record Chain (level : ℕ) (e : MExpression) : Type 0 where
  pub first : MExpression
  pub links : List Link
  pub is : e ≡ join first links
  pub within : Derives (level + 1) first
  pub all : AreLinks level links

one_level : (level n : ℕ) → level ≤ n → (n ≡ level) ⊎ (level + 1 ≤ n)
one_level level n h = elim (leb_tells (level + 1) n) [ inl p ↦ inr p.1 | inr p ↦ inl (let f = p.1 in omega arith) ]

chain_then : (level : ℕ) (e : MExpression) (ls : List Link) → Derives level e → AreLinks level ls → Chain level (join e ls)
chain_then level (Constant n) ls p q = record { first = Constant n; links = ls; is = refl; within = p; all = q }
chain_then level (Negated e) ls p q = record { first = Negated e; links = ls; is = refl; within = p; all = q }
chain_then level (Enclosed e) ls p q = record { first = Enclosed e; links = ls; is = refl; within = p; all = q }
chain_then level (Combined op a b) ls p q = elim (one_level level (level_of op) p.0) [
  | inl e ↦
      let P : ℕ → Type 0 = λ n. Derives n a in
      let Q : ℕ → Type 0 = λ n. Derives (n + 1) b in
      chain_then level a ((op, b) ∷ ls) (subst P e p.1) (e, subst Q e p.2, q)
  | inr h ↦ record { first = Combined op a b; links = ls; is = refl; within = (h, p.1, p.2); all = q }
]

pub chain_of : (level : ℕ) (e : MExpression) → Derives level e → Chain level e
chain_of level e p = chain_then level e [] p tt

-- what is of a level is of each lower one
lower : (level : ℕ) (e : MExpression) → Derives (level + 1) e → Derives level e
lower level (Constant n) p = p
lower level (Negated e) p = p
lower level (Combined op a b) p = (let h = p.0 in omega arith, p.1, p.2)
lower level (Enclosed e) p = p

-- an operand ends where its chain ends, and before each operator of the chain
pub ends_links : (level : ℕ) (ls : List Link) (ts : List Token) → AreLinks level ls → Ends level ts → Ends (level + 1) (links_then ls ts)
ends_links level [] ts q n = λ op more h e. n op more (omega arith) e
ends_links level (l ∷ ls) ts q n = λ op more h e.
    let f : l.0 ≡ op = same_operator l.0 op (same_head e) in
    let g = ap level_of f in
    let k = q.0 in
    omega arith

-- ---- a chain that was read so far

-- the expression, behind whose tokens these come at rest, goes on from left
pub record Extends (level : ℕ) (f left : MExpression) (ts : List Token) (rest : List ℕ) : Type 0 where
  links : List Link
  all : AreLinks level links
  is : f ≡ join left links
  tokens : AreTokens (links_then links ts) rest

-- the bytes begin with left, and each expression of the level that they begin with goes on from it
pub record Chained (level : ℕ) (bytes : List ℕ) (left : MExpression) (rest : List ℕ) : Type 0 where
  within : Derives level left
  read : (ts : List Token) → AreTokens ts rest → AreTokens (tokens_then left ts) bytes
  goes_on : (f : MExpression) (ts : List Token) → Derives level f → Ends level ts → AreTokens (tokens_then f ts) bytes → Extends level f left ts rest

first_on : (level : ℕ) (bytes rest : List ℕ) (a : MExpression) → Reads (level + 1) bytes a rest → (f : MExpression) (ts : List Token) → Chain level f → Ends level ts → AreTokens (tokens_then f ts) bytes → Extends level f a ts rest
first_on level bytes rest a r f ts p n h =
    let P : MExpression → Type 0 = λ e. AreTokens (tokens_then e ts) bytes in
    let Q : List Token → Type 0 = λ us. AreTokens us bytes in
    let t = subst Q (tokens_join p.links p.first ts) (subst P p.is h) in
    let k = r.one p.first (links_then p.links ts) p.within (ends_links level p.links ts p.all n) t in
    record { links = p.links; all = p.all; is = p.is ∙ ap (λ (e : MExpression). join e p.links) k.0; tokens = k.1 }

pub chain_starts : (level : ℕ) (bytes rest : List ℕ) (a : MExpression) → Reads (level + 1) bytes a rest → Chained level bytes a rest
chain_starts level bytes rest a r = record {
  within = lower level a r.within;
  read = r.read;
  goes_on = λ f ts p n h. first_on level bytes rest a r f ts (chain_of level f p) n h;
}

-- where an operator of the level is next, a link is
record Linked (level : ℕ) (op : Operator) (f left : MExpression) (ts : List Token) (behind : List ℕ) : Type 0 where
  right : MExpression
  links : List Link
  within : Derives (level + 1) right
  all : AreLinks level links
  is : f ≡ join (Combined op left right) links
  ends : Ends (level + 1) (links_then links ts)
  tokens : AreTokens (tokens_then right (links_then links ts)) behind

no_link : (level : ℕ) (op : Operator) (ts : List Token) (rest behind : List ℕ) → Ends level ts → level_of op ≡ level → Begins rest (sign_of op) behind → AreTokens ts rest → ⊥
no_link level op [] rest behind n e b h = none_begins rest (sign_of op) behind h b
no_link level op (t ∷ ts) rest behind n e b h = n op ts (omega arith) (ap (λ (u : Token). u ∷ ts) (tokens_behind rest t (sign_of op) behind ts b h).0)

linked : (level : ℕ) (op : Operator) (f left : MExpression) (ts : List Token) (rest behind : List ℕ) (ls : List Link) → Ends level ts → level_of op ≡ level → Begins rest (sign_of op) behind → AreLinks level ls → f ≡ join left ls → AreTokens (links_then ls ts) rest → Linked level op f left ts behind
linked level op f left ts rest behind [] n e b q i h = absurd (no_link level op ts rest behind n e b h)
linked level op f left ts rest behind (l ∷ ls) n e b q i h =
    let k = tokens_behind rest (sign_of l.0) (sign_of op) behind (tokens_then l.1 (links_then ls ts)) b h in
    record {
      right = l.1;
      links = ls;
      within = q.1;
      all = q.2;
      is = i ∙ ap (λ (o : Operator). join (Combined o left l.1) ls) (same_operator l.0 op k.0);
      ends = ends_links level ls ts q.2 n;
      tokens = k.1;
    }

link_next : (level : ℕ) (bytes rest behind : List ℕ) (left : MExpression) (op : Operator) → Chained level bytes left rest → Begins rest (sign_of op) behind → level_of op ≡ level → (f : MExpression) (ts : List Token) → Derives level f → Ends level ts → AreTokens (tokens_then f ts) bytes → Linked level op f left ts behind
link_next level bytes rest behind left op k b e f ts p n h = let x = k.goes_on f ts p n h in linked level op f left ts rest behind x.links n e b x.all x.is x.tokens

link_on : (level : ℕ) (behind after : List ℕ) (left right : MExpression) (op : Operator) → Reads (level + 1) behind right after → (f : MExpression) (ts : List Token) → Linked level op f left ts behind → Extends level f (Combined op left right) ts after
link_on level behind after left right op r f ts x =
    let k = r.one x.right (links_then x.links ts) x.within x.ends x.tokens in
    record { links = x.links; all = x.all; is = x.is ∙ ap (λ (e : MExpression). join (Combined op left e) x.links) k.0; tokens = k.1 }

combined_of : (level : ℕ) (op : Operator) (left right : MExpression) → level_of op ≡ level → Derives level left → Derives (level + 1) right → Derives level (Combined op left right)
combined_of level op left right e p q =
    let P : ℕ → Type 0 = λ n. Derives n left in
    let Q : ℕ → Type 0 = λ n. Derives (n + 1) right in
    (omega arith, subst P (sym e) p, subst Q (sym e) q)

pub chain_more : (level : ℕ) (bytes rest behind after : List ℕ) (left right : MExpression) (op : Operator) → Chained level bytes left rest → Begins rest (sign_of op) behind → level_of op ≡ level → Reads (level + 1) behind right after → Chained level bytes (Combined op left right) after
chain_more level bytes rest behind after left right op k b e r = record {
  within = combined_of level op left right e k.within r.within;
  read = λ ts h. k.read (sign_of op ∷ tokens_then right ts) (behind, b, r.read ts h);
  goes_on = λ f ts p n h. link_on level behind after left right op r f ts (link_next level bytes rest behind left op k b e f ts p n h);
}

end_on : (level : ℕ) (rest : List ℕ) (left f : MExpression) (ts : List Token) (ls : List Link) → ((op : Operator) (behind : List ℕ) → level_of op ≡ level → Begins rest (sign_of op) behind → ⊥) → AreLinks level ls → f ≡ join left ls → AreTokens (links_then ls ts) rest → (f ≡ left) × AreTokens ts rest
end_on level rest left f ts [] n q i h = (i, h)
end_on level rest left f ts (l ∷ ls) n q i h = absurd (n l.0 h.0 q.0 h.1)

pub chain_ends : (level : ℕ) (bytes rest : List ℕ) (left : MExpression) → Chained level bytes left rest → ((op : Operator) (behind : List ℕ) → level_of op ≡ level → Begins rest (sign_of op) behind → ⊥) → Reads level bytes left rest
chain_ends level bytes rest left k n = record {
  within = k.within;
  read = k.read;
  one = λ f ts p m h. (let x = k.goes_on f ts p m h in end_on level rest left f ts x.links n x.all x.is x.tokens);
}

-- ---- where a chain isn't there

first_there_in : (level limit : ℕ) (bytes : List ℕ) (f : MExpression) (ts : List Token) → Chain level f → height f ≤ limit → Ends level ts → AreTokens (tokens_then f ts) bytes → IsThere (level + 1) limit bytes
first_there_in level limit bytes f ts p l n h =
    let P : MExpression → Type 0 = λ e. AreTokens (tokens_then e ts) bytes in
    let Q : List Token → Type 0 = λ us. AreTokens us bytes in
    let d = height_join p.links p.first in
    let g = ap height p.is in
    record {
      found = p.first;
      behind = links_then p.links ts;
      within = p.within;
      low = omega arith;
      ends = ends_links level p.links ts p.all n;
      tokens = subst Q (tokens_join p.links p.first ts) (subst P p.is h);
    }

-- an operand begins a chain
pub first_there : (level limit : ℕ) (bytes : List ℕ) → IsThere level limit bytes → IsThere (level + 1) limit bytes
first_there level limit bytes t = first_there_in level limit bytes t.found t.behind (chain_of level t.found t.within) t.low t.ends t.tokens

the_link : (level limit : ℕ) (bytes rest behind : List ℕ) (left : MExpression) (op : Operator) (k : Chained level bytes left rest) → Begins rest (sign_of op) behind → level_of op ≡ level → (t : IsThere level limit bytes) → Linked level op t.found left t.behind behind
the_link level limit bytes rest behind left op k b e t = link_next level bytes rest behind left op k b e t.found t.behind t.within t.ends t.tokens

linked_height : (level : ℕ) (op : Operator) (f left : MExpression) (ts : List Token) (behind : List ℕ) (x : Linked level op f left ts behind) → (height left + 1 ≤ height f) × (height x.right + 1 ≤ height f)
linked_height level op f left ts behind x =
    let h = height_join x.links (Combined op left x.right) in
    let g = ap height x.is in
    (omega arith, omega arith)

-- a chain that goes on is higher than what was read of it
pub too_high : (level limit : ℕ) (bytes rest behind : List ℕ) (left : MExpression) (op : Operator) → Chained level bytes left rest → Begins rest (sign_of op) behind → level_of op ≡ level → limit ≤ height left → IsThere level limit bytes → ⊥
too_high level limit bytes rest behind left op k b e l t =
    let x = the_link level limit bytes rest behind left op k b e t in
    let h = (linked_height level op t.found left t.behind behind x).0 in
    let g = t.low in
    omega arith

-- an operand stands behind its operator
pub right_there : (level limit : ℕ) (bytes rest behind : List ℕ) (left : MExpression) (op : Operator) → Chained level bytes left rest → Begins rest (sign_of op) behind → level_of op ≡ level → IsThere level limit bytes → IsThere (level + 1) (limit - 1) behind
right_there level limit bytes rest behind left op k b e t =
    let x = the_link level limit bytes rest behind left op k b e t in
    let h = (linked_height level op t.found left t.behind behind x).1 in
    let g = t.low in
    record { found = x.right; behind = links_then x.links t.behind; within = x.within; low = omega arith; ends = x.ends; tokens = x.tokens }

-- ---- the same of what a reader made

along : (level : ℕ) (bytes rest : List ℕ) (a b : MExpression) → b ≡ a → Chained level bytes a rest → Chained level bytes b rest
along level bytes rest a b e k = let P : MExpression → Type 0 = λ f. Chained level bytes f rest in subst P (sym e) k

pub chain_made : (level : ℕ) (bytes rest behind after : List ℕ) (left right made : MExpression) (op : Operator) → Chained level bytes left rest → Begins rest (sign_of op) behind → level_of op ≡ level → Reads (level + 1) behind right after → made ≡ Combined op left right → Chained level bytes made after
chain_made level bytes rest behind after left right made op k b e r m = along level bytes after (Combined op left right) made m (chain_more level bytes rest behind after left right op k b e r)

pub height_made : (made left right : MExpression) (op : Operator) (m n : ℕ) → made ≡ Combined op left right → m ≡ height left → n ≡ height right → max m n + 1 ≡ height made
height_made made left right op m n e f g = ap (λ (k : ℕ). max k n + 1) f ∙ ap (λ (k : ℕ). max (height left) k + 1) g ∙ sym (ap height e)
