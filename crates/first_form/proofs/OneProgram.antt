-- A text is of one program: bytes have one list of tokens, and tokens are of one expression.
use Rattle.std.proofs.Common.{◌≡◌, ◌≤◌, ◌+◌, ℕ, zero, suc, List, [], ◌∷◌, refl, sym, ap, ◌∙◌, subst, arith, codes}
use Rattle.std.specs.List.{AllByRecursion}
use Rattle.first_form.specs.declared.expression.Operator.{Operator}
use Rattle.first_form.specs.Tokens.{Token, AreTokens}
use Rattle.first_form.specs.Expression.{MExpression, Constant, Negated, Combined, Enclosed}
use Rattle.first_form.specs.Grammar.{sign_of, tokens_then, level_of, Derives}
use Rattle.first_form.specs.Height.{height}
use Rattle.first_form.specs.FirstProgram.{MProgram}
use Rattle.first_form.specs.FirstForm.{IsExpression, IsFirst, statements_then, result_tokens, program_tokens}
use Rattle.first_form.specs.Readings.{Ends}
use Rattle.first_form.proofs.Cut.{same_begins, none_begins}
use Rattle.first_form.proofs.Numbers.{decimal_same}
use Rattle.first_form.proofs.Operands.{no_numeral, no_operator, minus_open, ends_close, ends_semicolon, tall}
use Rattle.first_form.proofs.Chains.{Link, join, links_then, AreLinks, Chain, chain_of, tokens_join, height_join, ends_links, same_operator}
use Rattle.first_form.proofs.Programs.{return_putchar}
use Rattle.first_form.proofs.Lists.{same_head, same_tail}

-- ---- bytes have one list of tokens

same_tokens : (ts us : List Token) (bytes : List ℕ) → AreTokens ts bytes → AreTokens us bytes → ts ≡ us
same_tokens [] [] bytes h k = refl
same_tokens [] (u ∷ us) bytes h k = absurd (none_begins bytes u k.0 h k.1)
same_tokens (t ∷ ts) [] bytes h k = absurd (none_begins bytes t h.0 k h.1)
same_tokens (t ∷ ts) (u ∷ us) bytes h k =
    let s = same_begins bytes t u h.0 k.0 h.1 k.1 in
    let P : List ℕ → Type 0 = λ l. AreTokens ts l in
    let r = same_tokens ts us k.0 (subst P s.1 h.2) k.2 in
    let f = s.0 in
    cc

-- ---- tokens are of one expression

-- no expression of the level, at most so high, begins another
abbrev SameAt : ℕ → ℕ → Type 0
SameAt level n = (e f : MExpression) (x y : List Token) → Derives level e → Derives level f → height e ≤ n → Ends level x → Ends level y → tokens_then e x ≡ tokens_then f y → (e ≡ f) × (x ≡ y)

-- each operand behind an operator is at most so high
abbrev AreLow : ℕ → List Link → Type 0
AreLow n [] = Unit {0}
AreLow n (l ∷ ls) = (height l.1 ≤ n) × AreLow n ls

low_links : (n : ℕ) (ls : List Link) (a : MExpression) → height (join a ls) ≤ n → AreLow n ls
low_links n [] a h = tt
low_links n (l ∷ ls) a h =
    let k = height_join ls (Combined l.0 a l.1) in
    (omega arith, low_links n ls (Combined l.0 a l.1) h)

link_ends : (level : ℕ) (op : Operator) (C : Type 0) (x more : List Token) → Ends level x → level_of op ≡ level → x ≡ sign_of op ∷ more → C
link_ends level op C x more n e f = absurd (n op more (omega arith) f)

same_link : (l m : Link) → l.0 ≡ m.0 → l.1 ≡ m.1 → l ≡ m
same_link l m e f = ap (λ (o : Operator). (o, l.1)) e ∙ ap (λ (x : MExpression). (m.0, x)) f

same_links : (level n : ℕ) → SameAt (level + 1) n → (ls ms : List Link) (x y : List Token) → AreLinks level ls → AreLinks level ms → AreLow n ls → Ends level x → Ends level y → links_then ls x ≡ links_then ms y → (ls ≡ ms) × (x ≡ y)
same_links level n s [] [] x y p q l h k e = (refl, e)
same_links level n s [] (m ∷ ms) x y p q l h k e = link_ends level m.0 _ x _ h q.0 e
same_links level n s (a ∷ ls) [] x y p q l h k e = link_ends level a.0 _ y _ k p.0 (sym e)
same_links level n s (a ∷ ls) (m ∷ ms) x y p q l h k e =
    let o = same_operator a.0 m.0 (same_head e) in
    let u = s a.1 m.1 (links_then ls x) (links_then ms y) p.1 q.1 l.0 (ends_links level ls x p.2 h) (ends_links level ms y q.2 k) (same_tail e) in
    let v = same_links level n s ls ms x y p.2 q.2 l.1 h k u.1 in
    let f = same_link a m o u.0 in
    let g = v.0 in
    (cc, v.1)

same_chains : (level n : ℕ) → SameAt (level + 1) n → (e f : MExpression) (x y : List Token) → Chain level e → Chain level f → height e ≤ n → Ends level x → Ends level y → tokens_then e x ≡ tokens_then f y → (e ≡ f) × (x ≡ y)
same_chains level n s e f x y c d l h k t =
    let i = height_join c.links c.first in
    let j = ap height c.is in
    let u = sym (tokens_join c.links c.first x) ∙ ap (λ (g : MExpression). tokens_then g x) (sym c.is) ∙ t ∙ ap (λ (g : MExpression). tokens_then g y) d.is ∙ tokens_join d.links d.first y in
    let v = s c.first d.first (links_then c.links x) (links_then d.links y) c.within d.within (omega arith) (ends_links level c.links x c.all h) (ends_links level d.links y d.all k) u in
    let w = same_links level n s c.links d.links x y c.all d.all (low_links n c.links c.first (omega arith)) h k v.1 in
    (c.is ∙ ap (λ (g : MExpression). join g c.links) v.0 ∙ ap (join d.first) w.0 ∙ sym d.is, w.1)

chains : (level n : ℕ) → SameAt (level + 1) n → SameAt level n
chains level n s = λ e f x y p q l h k t. same_chains level n s e f x y (chain_of level e p) (chain_of level f q) l h k t

-- a sum is a chain of chains of operands
sums : (n : ℕ) → SameAt 2 n → SameAt 0 n
sums n s = chains 0 n (chains 1 n s)

operands : (n : ℕ) (e f : MExpression) (x y : List Token) → Derives 2 e → Derives 2 f → height e ≤ n → tokens_then e x ≡ tokens_then f y → (e ≡ f) × (x ≡ y)
operands zero e f x y p q l t = absurd (let h = tall e in omega arith)
operands (suc n) (Constant m) (Constant k) x y p q l t = (ap Constant (decimal_same m k p q (same_head t)), same_tail t)
operands (suc n) (Constant m) (Negated f) x y p q l t = no_numeral (codes "-") m _ p refl (same_head t)
operands (suc n) (Constant m) (Enclosed f) x y p q l t = no_numeral (codes "(") m _ p refl (same_head t)
operands (suc n) (Negated e) (Constant k) x y p q l t = no_numeral (codes "-") k _ q refl (sym (same_head t))
operands (suc n) (Negated e) (Negated f) x y p q l t = let r = operands n e f x y p q (omega arith) (same_tail t) in (ap Negated r.0, r.1)
operands (suc n) (Negated e) (Enclosed f) x y p q l t = minus_open _ (same_head t)
operands (suc n) (Enclosed e) (Constant k) x y p q l t = no_numeral (codes "(") k _ q refl (sym (same_head t))
operands (suc n) (Enclosed e) (Negated f) x y p q l t = minus_open _ (sym (same_head t))
operands (suc n) (Enclosed e) (Enclosed f) x y p q l t =
    let r = sums n (λ a b v w i j k ev ew u. operands n a b v w i j k u) e f (codes ")" ∷ x) (codes ")" ∷ y) p q (omega arith) (ends_close x) (ends_close y) (same_tail t) in
    (ap Enclosed r.0, same_tail r.1)
operands (suc n) (Combined op a b) f x y p q l t = no_operator op a b _ p
operands (suc n) e (Combined op a b) x y p q l t = no_operator op a b _ q

same_expression : (e f : MExpression) (x y : List Token) → IsExpression e → IsExpression f → Ends 0 x → Ends 0 y → tokens_then e x ≡ tokens_then f y → (e ≡ f) × (x ≡ y)
same_expression e f x y p q h k t = sums 200 (λ a b v w i j l ev ew u. operands 200 a b v w i j l u) e f x y p.0 q.0 p.1 h k t

-- ---- and of one program

same_results : (e f : MExpression) → IsExpression e → IsExpression f → result_tokens e ≡ result_tokens f → e ≡ f
same_results e f p q t = (same_expression e f _ _ p q (ends_semicolon _) (ends_semicolon _) (same_tail t)).0

same_bodies : (es fs : List MExpression) (e f : MExpression) → AllByRecursion IsExpression es → AllByRecursion IsExpression fs → IsExpression e → IsExpression f → statements_then es (result_tokens e) ≡ statements_then fs (result_tokens f) → (es ≡ fs) × (e ≡ f)
same_bodies [] [] e f p q r s t = (refl, same_results e f r s t)
same_bodies [] (b ∷ fs) e f p q r s t = return_putchar _ (same_head t)
same_bodies (a ∷ es) [] e f p q r s t = return_putchar _ (sym (same_head t))
same_bodies (a ∷ es) (b ∷ fs) e f p q r s t =
    let u = same_expression a b _ _ p.0 q.0 (ends_close _) (ends_close _) (same_tail (same_tail t)) in
    let v = same_bodies es fs e f p.1 q.1 r s (same_tail (same_tail u.1)) in
    let g = u.0 in
    let h = v.0 in
    (cc, v.1)

pub one_program : (text : List ℕ) (p q : MProgram) → IsFirst text p → IsFirst text q → p ≡ q
one_program text p q h k =
    let t = same_tokens (program_tokens p) (program_tokens q) text h.spelled k.spelled in
    let u = same_bodies p.prints q.prints p.result q.result h.prints k.prints h.result k.result (same_tail (same_tail (same_tail (same_tail (same_tail (same_tail t)))))) in
    ap (λ (l : List MExpression). record { prints = l; result = p.result }) u.0 ∙ ap (λ (e : MExpression). record { prints = q.prints; result = e }) u.1
