-- Bytes spell no two lists of tokens.
use Rattle.std.proofs.Common.{◌≡◌, ℕ, true, false, List, [], ◌∷◌, ◌++◌, length, refl, sym, ap, subst, ◌∙◌, arith, inl, inr}
use Rattle.lcc_text.specs.declared.class.Class.TheVariants.{Blank}
use Rattle.lcc_text.specs.Classes.{in_class, AllIn}
use Rattle.lburg_lines.specs.Tokens.{Tok, Word, Number, Negative, Template, Keyword, Mark, Bound, Wrong, text_of, IsToken}
use Rattle.lburg_lines.specs.Spelling.{IsNext, Starts, Spells}
use Rattle.lburg_lines.proofs.lemmas.FirstBytes.{kind_of, same_kind, same_sign}

same_behind : (g h b c : List ℕ) → AllIn (in_class Blank) g → AllIn (in_class Blank) h → Starts b → Starts c → g ++ b ≡ h ++ c → b ≡ c
same_behind [] [] b c p q s t e = e
same_behind [] (x ∷ h) [] c p q s t e = absurd s
same_behind [] (x ∷ h) (y ∷ b) c p q s t e = let f : x ≡ y = cc in let g : true ≡ false = sym q.0 ∙ ap (in_class Blank) f ∙ s in absurd cc
same_behind (x ∷ g) [] b [] p q s t e = absurd t
same_behind (x ∷ g) [] b (y ∷ c) p q s t e = let f : x ≡ y = cc in let k : true ≡ false = sym p.0 ∙ ap (in_class Blank) f ∙ t in absurd cc
same_behind (x ∷ g) (y ∷ h) b c p q s t e = same_behind g h b c p.1 q.1 s t cc

no_start : (bytes g b : List ℕ) → AllIn (in_class Blank) bytes → Starts b → bytes ≡ g ++ b → ⊥
no_start bytes [] [] p s e = s
no_start [] [] (y ∷ b) p s e = cc
no_start (x ∷ bytes) [] (y ∷ b) p s e = let f : x ≡ y = cc in let k : true ≡ false = sym p.0 ∙ ap (in_class Blank) f ∙ s in cc
no_start [] (z ∷ g) b p s e = cc
no_start (x ∷ bytes) (z ∷ g) b p s e = no_start bytes g b p.1 s cc

same_text : (a b x y : List ℕ) → length a ≡ length b → a ++ x ≡ b ++ y → (a ≡ b) × (x ≡ y)
same_text [] [] x y l e = (refl, e)
same_text [] (d ∷ b) x y l e = absurd (omega arith)
same_text (c ∷ a) [] x y l e = absurd (omega arith)
same_text (c ∷ a) (d ∷ b) x y l e = let r = same_text a b x y (omega arith) cc in let f = r.0 in (cc, r.1)

same_inside : (m n : List ℕ) → m ++ 34 ∷ [] ≡ n ++ 34 ∷ [] → m ≡ n
same_inside [] [] e = refl
same_inside [] (b ∷ []) e = absurd cc
same_inside [] (b ∷ c ∷ n) e = absurd cc
same_inside (a ∷ []) [] e = absurd cc
same_inside (a ∷ c ∷ m) [] e = absurd cc
same_inside (a ∷ m) (b ∷ n) e = let f = same_inside m n cc in cc

same_front : (a b x : List ℕ) → a ≡ b → a ++ x ≡ b ++ x
same_front a b x e = ap (λ (l : List ℕ). l ++ x) e

same_token : (t u : Tok) → IsToken t → IsToken u → text_of t ≡ text_of u → t ≡ u
same_token (Word m) (Word n) p q e = ap Word e
same_token (Number d) (Number n) p q e = ap Number e
same_token (Negative d) (Negative n) p q e = ap Negative cc
same_token (Template m) (Template n) p q e = ap Template (same_inside m n cc)
same_token (Keyword m) (Keyword n) p q e = ap Keyword cc
same_token (Mark s) (Mark v) p q e = ap Mark (same_sign s v cc)
same_token (Bound b) u p q e = absurd p
same_token Wrong u p q e = absurd p
same_token t u p q e = let h : kind_of t ≡ kind_of u = same_kind t u [] [] p q (same_front (text_of t) (text_of u) [] e) in absurd (omega arith)

same_next : (bytes x y : List ℕ) (t u : Tok) → IsNext bytes t x → IsNext bytes u y → (t ≡ u) × (x ≡ y)
same_next bytes x y t u n k =
    let a = n.longest u y k.token k.parts in
    let b = k.longest t x n.token n.parts in
    let r = same_text (text_of t) (text_of u) x y (omega arith) (sym n.parts ∙ k.parts) in
    (same_token t u n.token k.token r.0, r.1)

pub once : (ts us : List Tok) (bytes : List ℕ) → Spells ts bytes → Spells us bytes → ts ≡ us
once [] [] bytes p q = refl
once [] (u ∷ us) bytes p q = absurd (no_start bytes q.0 q.1 p q.3 q.4)
once (t ∷ ts) [] bytes p q = absurd (no_start bytes p.0 p.1 q p.3 p.4)
once (t ∷ ts) (u ∷ us) bytes p q =
    let e = same_behind p.0 q.0 p.1 q.1 p.2 q.2 p.3 q.3 (sym p.4 ∙ q.4) in
    elim p.5 [
      | inl a ↦ elim q.5 [
        | inl b ↦
            let P : List ℕ → Type 0 = λ l. IsNext l u b.0 in
            let r = same_next p.1 a.0 b.0 t u a.1 (subst P (sym e) b.1) in
            let Q : List ℕ → Type 0 = λ l. Spells us l in
            let s = once ts us a.0 a.2 (subst Q (sym r.1) b.2) in
            let f = r.0 in
            cc
        | inr b ↦ absurd (b.2 t a.0 a.1.token (sym e ∙ a.1.parts))
      ]
      | inr a ↦ elim q.5 [
        | inl b ↦ absurd (a.2 u b.0 b.1.token (e ∙ b.1.parts))
        | inr b ↦ let f = a.0 in let g = b.0 in let h = a.1 in let k = b.1 in cc
      ]
    ]
