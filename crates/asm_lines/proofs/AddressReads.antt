-- What the readers of places and addresses find.
use Rattle.std.proofs.Common.{◌≡◌, ℕ, Option, Some, None, List, [], ◌∷◌, refl, sym, ap, subst, ◌∙◌, inl, inr}
use Rattle.asm_lines.specs.declared.instruction.Address.{Address}
use Rattle.asm_lines.specs.declared.token.Token.{Token}
use Rattle.asm_lines.specs.declared.token.Kind.TheVariants as kind
use Rattle.asm_lines.specs.Tokens.{Close, Spaced, tok_of, view, views}
use Rattle.asm_lines.specs.Numbers.{AreLinks, IsSum, NoLink}
use Rattle.asm_lines.specs.Operands.{RegisterThen, NameThen, IsBase, PlaceThen, IsAddress}
use Rattle.asm_lines.proofs.TokenKinds.{kind_from}
use Rattle.asm_lines.proofs.OneOperand.{one_name, one_register, no_name_number, base_no_link, one_place}

-- ---- places

pub no_place_links : (ts mid : List Spaced) (name : List ℕ) → NameThen ts name mid → ((n : ℕ) (rest : List Spaced) → AreLinks mid 0 n rest → NoLink rest → ⊥) → (n : Option (List ℕ)) (offset : ℕ) (rest : List Spaced) → PlaceThen ts n offset rest → NoLink rest → ⊥
no_place_links ts mid name p h (Some n) offset rest q g =
    let e = one_name ts q.0 mid n name q.1 p in
    let P : List Spaced → Type 0 = λ l. AreLinks l 0 offset rest in
    h offset rest (subst P e.1 q.2) g
no_place_links ts mid name p h None offset rest q g = no_name_number ts mid q.1 name q.0 p q.2

pub no_place_sum : (ts : List Spaced) → ((n : List ℕ) (rest : List Spaced) → NameThen ts n rest → ⊥) → ((n : ℕ) (rest : List Spaced) → IsSum ts n rest → NoLink rest → ⊥) → (n : Option (List ℕ)) (offset : ℕ) (rest : List Spaced) → PlaceThen ts n offset rest → NoLink rest → ⊥
no_place_sum ts k h (Some n) offset rest q g = k n q.0 q.1
no_place_sum ts k h None offset rest q g = h offset rest q g

-- ---- bases and addresses

pub no_base : (tokens behind rest end : List Token) (open_token close : Token) (q : ℕ) → tokens ≡ open_token ∷ behind → RegisterThen (views behind) q (views rest) → rest ≡ close ∷ end → (close.kind ≡ kind.Close → end ≡ [] → ⊥) → (r : ℕ) → IsBase (views tokens) (Some r) → ⊥
no_base tokens behind rest end open_token close q e p f h r b =
    let P : List Token → Type 0 = λ l. IsBase (views l) (Some r) in
    let a = (subst P e b).1 in
    let s = one_register (views behind) a.0 (views rest) r q a.1 p in
    let g : a.2.0 ∷ [] ≡ view close ∷ views end = sym a.2.1 ∙ s.1 ∙ ap views f in
    h (kind_from close.kind close.text.now Close (at a.2.0 a.2.2 g)) (none end g) where
      at : (c : Spaced) → c.tok ≡ Close → c ∷ [] ≡ view close ∷ views end → tok_of close.kind close.text.now ≡ Close
      at c k g = let i : view close ≡ c = cc in ap (λ (t : Spaced). t.tok) i ∙ k

      none : (l : List Token) {c : Spaced} → c ∷ [] ≡ view close ∷ views l → l ≡ []
      none [] g = refl
      none (t ∷ l) g = absurd cc

pub no_address : (ts mid : List Spaced) (name : Option (List ℕ)) (offset : ℕ) → ((r : ℕ) → IsBase ts (Some r) → ⊥) → PlaceThen ts name offset mid → NoLink mid → ((b : Option ℕ) → IsBase mid b → ⊥) → (a : Address (List ℕ)) → IsAddress ts a → ⊥
no_address ts mid name offset h p g k a q = elim q [
  | inl f ↦ h f.2.0 f.2.2
  | inr f ↦
      let e = one_place ts f.0 mid a.name name a.offset offset f.1 (base_no_link f.0 a.base f.2) p g in
      let P : List Spaced → Type 0 = λ l. IsBase l a.base in
      k a.base (subst P e.2 f.2)
]
