-- Bytes spell no two lists of tokens.
use Rattle.std.proofs.Common.{◌≡◌, ℕ, Bool, true, false, List, [], ◌∷◌, ◌++◌, length, refl, sym, ap, subst, ◌∙◌, arith, inl, inr}
use Rattle.lcc_text.specs.declared.class.Class.TheVariants.{Digit}
use Rattle.asm_lines.specs.declared.class.AsmClass.TheVariants.{Space}
use Rattle.lcc_text.specs.Classes.{in_class, AllIn}
use Rattle.asm_lines.specs.Classes.{in_asm}
use Rattle.asm_lines.specs.Tokens.{Tok, Word, Decimal, Hexadecimal, Dollar, Colon, Comma, Open, Close, Plus, Minus, Wrong, Spaced, text_of, IsToken}
use Rattle.asm_lines.specs.Spelling.{IsNext, IsRemark, Starts, Spells, some_gap}
use Rattle.asm_lines.proofs.lemmas.Next.{kind_of, same_kind}

-- ---- blanks and comments

space_not : (x y : ℕ) → x ≡ y → in_asm Space x ≡ true → in_asm Space y ≡ false → ⊥
space_not x y e h k = let g : true ≡ false = sym h ∙ ap (in_asm Space) e ∙ k in cc

same_behind : (g h b c : List ℕ) → AllIn (in_asm Space) g → AllIn (in_asm Space) h → Starts b → Starts c → g ++ b ≡ h ++ c → (g ≡ h) × (b ≡ c)
same_behind [] [] b c p q s t e = (refl, e)
same_behind [] (x ∷ h) [] c p q s t e = absurd s
same_behind [] (x ∷ h) (y ∷ b) c p q s t e = absurd (space_not x y (cc) q.0 s.0)
same_behind (x ∷ g) [] b [] p q s t e = absurd t
same_behind (x ∷ g) [] b (y ∷ c) p q s t e = absurd (space_not x y (cc) p.0 t.0)
same_behind (x ∷ g) (y ∷ h) b c p q s t e = let r = same_behind g h b c p.1 q.1 s t cc in let f = r.0 in (cc, r.1)

no_hash : (bytes r : List ℕ) → Starts bytes → IsRemark r → bytes ≡ r → ⊥
no_hash [] r s k e = s
no_hash (b ∷ bs) [] s k e = cc
no_hash (b ∷ bs) (c ∷ r) s k e = s.1 cc

space_hash : (b : ℕ) (bs r : List ℕ) → in_asm Space b ≡ true → IsRemark r → b ∷ bs ≡ r → ⊥
space_hash b bs [] h k e = cc
space_hash b bs (c ∷ r) h k e = let f : b ≡ 35 = cc in let g : in_asm Space b ≡ false = rw f refl in let v : true ≡ false = sym h ∙ g in cc

-- blanks and a comment don't begin with blanks and a token
no_start : (h r g b : List ℕ) → AllIn (in_asm Space) h → IsRemark r → AllIn (in_asm Space) g → Starts b → h ++ r ≡ g ++ b → ⊥
no_start [] r [] b p k q s e = no_hash b r s k (sym e)
no_start [] r (z ∷ g) b p k q s e = space_hash z (g ++ b) r q.0 k (sym e)
no_start (x ∷ h) r [] [] p k q s e = s
no_start (x ∷ h) r [] (y ∷ b) p k q s e = space_not x y (cc) p.0 s.0
no_start (x ∷ h) r (z ∷ g) b p k q s e = no_start h r g b p.1 k q.1 s cc

-- ---- one token

same_text : (a b x y : List ℕ) → length a ≡ length b → a ++ x ≡ b ++ y → (a ≡ b) × (x ≡ y)
same_text [] [] x y l e = (refl, e)
same_text [] (d ∷ b) x y l e = absurd (omega arith)
same_text (c ∷ a) [] x y l e = absurd (omega arith)
same_text (c ∷ a) (d ∷ b) x y l e = let r = same_text a b x y (omega arith) cc in let f = r.0 in (cc, r.1)

same_front : (a b x : List ℕ) → a ≡ b → a ++ x ≡ b ++ x
same_front a b x e = ap (λ (l : List ℕ). l ++ x) e

-- decimal digits have no `x`
no_x : (d m : List ℕ) → AllIn (in_class Digit) d → d ≡ 48 ∷ 120 ∷ m → ⊥
no_x [] m p e = cc
no_x (a ∷ []) m p e = cc
no_x (a ∷ b ∷ d) m p e = let f : b ≡ 120 = cc in let g : true ≡ false = sym p.1.0 ∙ ap (in_class Digit) f in cc

same_token : (t u : Tok) → IsToken t → IsToken u → text_of t ≡ text_of u → t ≡ u
same_token (Word m) (Word n) p q e = ap Word e
same_token (Decimal d) (Decimal n) p q e = ap Decimal e
same_token (Decimal d) (Hexadecimal n) p q e = absurd (no_x d n p.1 e)
same_token (Hexadecimal d) (Decimal n) p q e = absurd (no_x n d q.1 (sym e))
same_token (Hexadecimal m) (Hexadecimal n) p q e = ap Hexadecimal cc
same_token (Dollar m) (Dollar n) p q e = ap Dollar cc
same_token Colon Colon p q e = refl
same_token Comma Comma p q e = refl
same_token Open Open p q e = refl
same_token Close Close p q e = refl
same_token Plus Plus p q e = refl
same_token Minus Minus p q e = refl
same_token Wrong u p q e = absurd p
same_token t u p q e = let h : kind_of t ≡ kind_of u = same_kind t u [] [] p q (same_front (text_of t) (text_of u) [] e) in absurd (omega arith)

same_next : (bytes x y : List ℕ) (t u : Tok) → IsNext bytes t x → IsNext bytes u y → (t ≡ u) × (x ≡ y)
same_next bytes x y t u n k =
    let a = n.longest u y k.token k.parts in
    let b = k.longest t x n.token n.parts in
    let r = same_text (text_of t) (text_of u) x y (omega arith) (sym n.parts ∙ k.parts) in
    (same_token t u n.token k.token r.0, r.1)

abbrev spaced : Tok → Bool → Spaced
spaced t s = record { tok = t; is_spaced = s }

same_spaced : (t u : Spaced) → t.tok ≡ u.tok → t.is_spaced ≡ u.is_spaced → t ≡ u
same_spaced t u e f = ap (λ (k : Tok). spaced k t.is_spaced) e ∙ ap (λ (s : Bool). spaced u.tok s) f

-- ---- all tokens

pub once : (ts us : List Spaced) (bytes : List ℕ) → Spells ts bytes → Spells us bytes → ts ≡ us
once [] [] bytes p q = refl
once [] (u ∷ us) bytes p q = absurd (no_start p.0 p.1 q.0 q.1 p.2 p.3 q.2 q.3 (sym p.4 ∙ q.4))
once (t ∷ ts) [] bytes p q = absurd (no_start q.0 q.1 p.0 p.1 q.2 q.3 p.2 p.3 (sym q.4 ∙ p.4))
once (t ∷ ts) (u ∷ us) bytes p q =
    let same = same_behind p.0 q.0 p.1 q.1 p.2 q.2 p.3 q.3 (sym p.4 ∙ q.4) in
    let e = same.1 in
    let gaps = p.5 ∙ ap some_gap same.0 ∙ sym q.5 in
    elim p.6 [
      | inl a ↦ elim q.6 [
        | inl b ↦
            let P : List ℕ → Type 0 = λ l. IsNext l u.tok b.0 in
            let r = same_next p.1 a.0 b.0 t.tok u.tok a.1 (subst P (sym e) b.1) in
            let Q : List ℕ → Type 0 = λ l. Spells us l in
            let s = once ts us a.0 a.2 (subst Q (sym r.1) b.2) in
            let f = same_spaced t u r.0 gaps in
            cc
        | inr b ↦ absurd (b.2 t.tok a.0 a.1.token (sym e ∙ a.1.parts))
      ]
      | inr a ↦ elim q.6 [
        | inl b ↦ absurd (a.2 u.tok b.0 b.1.token (e ∙ b.1.parts))
        | inr b ↦ let f = same_spaced t u (a.0 ∙ sym b.0) gaps in let h = a.1 in let k = b.1 in cc
      ]
    ]
