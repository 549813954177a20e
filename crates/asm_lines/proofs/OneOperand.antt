-- Two readings of the same tokens are one.
use Rattle.std.proofs.Common.{◌≡◌, ◌%◌, ◌^◌, ℕ, Bool, true, false, Option, Some, None, List, [], ◌∷◌, refl, sym, ap, subst, ◌∙◌, arith, decimal, codes, inl, inr}
use Rattle.std.specs.Prelude.{◌<◌}
use Rattle.lcc_text.specs.Decimal.{value_of}
use Rattle.asm_lines.proofs.lemmas.Numerals.{value_decimal}
use Rattle.asm_lines.specs.Tokens.{Tok, Word, Dollar, Spaced}
use Rattle.asm_lines.specs.declared.instruction.Address.{Address}
use Rattle.asm_lines.specs.declared.instruction.Target.{Target}
use Rattle.asm_lines.specs.declared.instruction.Target.TheVariants as target
use Rattle.asm_lines.specs.declared.instruction.Value.{Value}
use Rattle.asm_lines.specs.declared.instruction.Value.TheVariants as value
use Rattle.asm_lines.specs.Operands.{IsRegister, RegisterThen, NameThen, CommaThen, RegisterComma, ValueThen, IsTarget, IsBase, PlaceThen, IsAddress, Listed, IsWordItem, IsPartItem}
use Rattle.asm_lines.specs.Numbers.{MNumber, Plain, Hex, Negative, NumberThen, word_of, IsNumber, IsCount, CountStands, MLink, link_sign, LinksThen, joined, total, AreLinks, IsSum, NoLink}

-- ---- numbers

number_then : (m k : MNumber) (ts x y : List Spaced) → NumberThen m ts x → NumberThen k ts y → (m ≡ k) × (x ≡ y)
number_then (Plain d) k [] x y p q = absurd p
number_then (Hex d) k [] x y p q = absurd p
number_then (Negative d) k [] x y p q = absurd p
number_then (Negative d) k (t ∷ []) x y p q = absurd p
number_then (Plain d) (Plain e) (t ∷ ts) x y p q = (ap Plain cc, cc)
number_then (Hex d) (Hex e) (t ∷ ts) x y p q = (ap Hex cc, cc)
number_then (Negative d) (Negative e) (t ∷ u ∷ ts) x y p q = (ap Negative cc, cc)
number_then (Plain d) (Hex e) (t ∷ ts) x y p q = absurd cc
number_then (Hex d) (Plain e) (t ∷ ts) x y p q = absurd cc
number_then (Plain d) (Negative e) (t ∷ []) x y p q = absurd q
number_then (Hex d) (Negative e) (t ∷ []) x y p q = absurd q
number_then (Plain d) (Negative e) (t ∷ u ∷ ts) x y p q = absurd cc
number_then (Hex d) (Negative e) (t ∷ u ∷ ts) x y p q = absurd cc
number_then (Negative d) (Plain e) (t ∷ u ∷ ts) x y p q = absurd cc
number_then (Negative d) (Hex e) (t ∷ u ∷ ts) x y p q = absurd cc

pub one_number : (ts x y : List Spaced) (n k : ℕ) → IsNumber ts n x → IsNumber ts k y → (n ≡ k) × (x ≡ y)
one_number ts x y n k p q = let e = number_then p.0 q.0 ts x y p.1 q.1 in let f = e.0 in (cc, e.1)

is_count : (m : MNumber) (n k : ℕ) → IsCount m n → IsCount m k → n ≡ k
is_count (Plain d) n k p q = cc
is_count (Hex d) n k p q = cc
is_count (Negative d) n k p q = cc

pub one_count : (ts : List Spaced) (n k : ℕ) → CountStands ts n → CountStands ts k → n ≡ k
one_count ts n k p q =
    let e = number_then p.0 q.0 ts [] [] p.1 q.1 in
    let P : MNumber → Type 0 = λ m. IsCount m k in
    is_count p.0 n k p.3 (subst P (sym e.0) q.3)

-- ---- links

pub same_link : (a b : Bool) → link_sign a ≡ link_sign b → a ≡ b
same_link true true e = refl
same_link false false e = refl
same_link true false e = cc
same_link false true e = cc

pub no_link : (t : Spaced) (ts : List Spaced) (m : Bool) → NoLink (t ∷ ts) → t.tok ≡ link_sign m → ⊥
no_link t ts true h e = h.1 e
no_link t ts false h e = h.0 e

no_links : (l : MLink) (ls : List MLink) (ts x : List Spaced) → NoLink ts → LinksThen (l ∷ ls) ts x → ⊥
no_links l ls [] x h p = p
no_links l ls (t ∷ ts) x h p = no_link t ts l.is_minus h p.0

links_then : (ls ks : List MLink) (ts x y : List Spaced) → LinksThen ls ts x → NoLink x → LinksThen ks ts y → NoLink y → (n : ℕ) → (total n ls ≡ total n ks) × (x ≡ y)
links_then [] [] ts x y p h q k n = (refl, sym p ∙ q)
links_then [] (b ∷ ks) ts x y p h q k n = let P : List Spaced → Type 0 = λ l. NoLink l in absurd (no_links b ks ts y (subst P (sym p) h) q)
links_then (a ∷ ls) [] ts x y p h q k n = let P : List Spaced → Type 0 = λ l. NoLink l in absurd (no_links a ls ts x (subst P (sym q) k) p)
links_then (a ∷ ls) (b ∷ ks) [] x y p h q k n = absurd p
links_then (a ∷ ls) (b ∷ ks) (t ∷ ts) x y p h q k n =
    let s = same_link a.is_minus b.is_minus (sym p.0 ∙ q.0) in
    let e = number_then a.number b.number ts p.1.0 q.1.0 p.1.1 q.1.1 in
    let f = e.0 in
    let P : List Spaced → Type 0 = λ l. LinksThen ks l y in
    let j : joined b.is_minus n (word_of b.number) ≡ joined a.is_minus n (word_of a.number) = cc in
    let r = links_then ls ks p.1.0 x y p.1.3 h (subst P (sym e.1) q.1.3) k (joined a.is_minus n (word_of a.number)) in
    (r.0 ∙ ap (λ (i : ℕ). total i ks) (sym j), r.1)

pub one_links : (ts x y : List Spaced) (from n k : ℕ) → AreLinks ts from n x → NoLink x → AreLinks ts from k y → NoLink y → (n ≡ k) × (x ≡ y)
one_links ts x y from n k p h q g = let e = links_then p.0 q.0 ts x y p.1 h q.1 g from in (p.2 ∙ e.0 ∙ sym q.2, e.1)

pub one_sum : (ts x y : List Spaced) (n k : ℕ) → IsSum ts n x → NoLink x → IsSum ts k y → NoLink y → (n ≡ k) × (x ≡ y)
one_sum ts x y n k p h q g =
    let e = one_number ts p.1 q.1 p.0 q.0 p.2 q.2 in
    let P : List Spaced → Type 0 = λ l. AreLinks l q.0 k y in
    let Q : ℕ → Type 0 = λ i. AreLinks p.1 i k y in
    one_links p.1 x y p.0 n k p.3 h (subst Q (sym e.0) (subst P (sym e.1) q.3)) g

-- ---- registers, names and commas

sp_no_numeral : (r : ℕ) → decimal r ≡ codes "sp" → r < 32 → ⊥
sp_no_numeral r e h = let f = ap value_of e in let g = value_decimal r (omega arith) in omega arith

same_numeral : (r q : ℕ) → r < 32 → q < 32 → decimal r ≡ decimal q → r ≡ q
same_numeral r q h k e = sym (value_decimal r (omega arith)) ∙ ap value_of e ∙ value_decimal q (omega arith)

same_name : (name : List ℕ) (r q : ℕ) → IsRegister (Dollar name) r → IsRegister (Dollar name) q → r ≡ q
same_name name r q p s = elim p [
  | inl a ↦ elim s [
    | inl b ↦ same_numeral r q a.1 b.1 (sym a.0 ∙ b.0)
    | inr b ↦ absurd (sp_no_numeral r (sym a.0 ∙ b.0) a.1)
  ]
  | inr a ↦ elim s [
    | inl b ↦ absurd (sp_no_numeral q (sym b.0 ∙ a.0) b.1)
    | inr b ↦ a.1 ∙ sym b.1
  ]
]

pub same_register : (t : Tok) (r q : ℕ) → IsRegister t r → IsRegister t q → r ≡ q
same_register (Dollar name) r q p s = same_name name r q p s
same_register t r q p s = absurd p

pub one_register : (ts x y : List Spaced) (r q : ℕ) → RegisterThen ts r x → RegisterThen ts q y → (r ≡ q) × (x ≡ y)
one_register [] x y r q p s = absurd p
one_register (t ∷ ts) x y r q p s = (same_register t.tok r q p.0 s.0, sym p.1 ∙ s.1)

pub one_name : (ts x y : List Spaced) (n m : List ℕ) → NameThen ts n x → NameThen ts m y → (n ≡ m) × (x ≡ y)
one_name [] x y n m p q = absurd p
one_name (t ∷ ts) x y n m p q = let e : Word n ≡ Word m = sym p.0 ∙ q.0 in (cc, sym p.1 ∙ q.1)

pub one_comma : (ts x y : List Spaced) → CommaThen ts x → CommaThen ts y → x ≡ y
one_comma [] x y p q = absurd p
one_comma (t ∷ ts) x y p q = sym p.1 ∙ q.1

pub one_register_comma : (ts x y : List Spaced) (r q : ℕ) → RegisterComma ts r x → RegisterComma ts q y → (r ≡ q) × (x ≡ y)
one_register_comma ts x y r q p s =
    let e = one_register ts p.0 s.0 r q p.1 s.1 in
    let P : List Spaced → Type 0 = λ l. CommaThen l y in
    (e.0, one_comma p.0 x y p.2 (subst P (sym e.1) s.2))

-- ---- values and targets

no_register_number : (ts x y : List Spaced) (r n : ℕ) → RegisterThen ts r x → IsNumber ts n y → ⊥
no_register_number [] x y r n p q = p
no_register_number (t ∷ ts) x y r n p q = apart t.tok p.0 q.0 q.1 refl where
  apart : (u : Tok) → IsRegister u r → (m : MNumber) → NumberThen m (t ∷ ts) y → u ≡ t.tok → ⊥
  apart (Dollar name) h (Plain d) k e = cc
  apart (Dollar name) h (Hex d) k e = cc
  apart (Dollar name) h (Negative d) k e = minus ts k e where
    minus : (us : List Spaced) → NumberThen (Negative d) (t ∷ us) y → Dollar name ≡ t.tok → ⊥
    minus [] k e = k
    minus (u ∷ us) k e = cc
  apart u h m k e = h

pub one_value : (ts x y : List Spaced) (v w : Value) → ValueThen ts v x → ValueThen ts w y → (v ≡ w) × (x ≡ y)
one_value ts x y (value.Register r) (value.Register q) p s = let e = one_register ts x y r q p s in (ap value.Register e.0, e.1)
one_value ts x y (value.Number n) (value.Number k) p s = let e = one_number ts x y n k p s in (ap value.Number e.0, e.1)
one_value ts x y (value.Register r) (value.Number k) p s = absurd (no_register_number ts x y r k p s)
one_value ts x y (value.Number n) (value.Register q) p s = absurd (no_register_number ts y x q n s p)

no_name_register : (ts x y : List Spaced) (n : List ℕ) (r : ℕ) → NameThen ts n x → RegisterThen ts r y → ⊥
no_name_register [] x y n r p q = p
no_name_register (t ∷ ts) x y n r p q = let P : Tok → Type 0 = λ u. IsRegister u r in subst P p.0 q.0

pub one_target : (ts : List Spaced) (a b : Target (List ℕ)) → IsTarget ts a → IsTarget ts b → a ≡ b
one_target ts (target.Label n) (target.Label m) p q = ap target.Label (one_name ts [] [] n m p q).0
one_target ts (target.Register r) (target.Register s) p q = ap target.Register (one_register ts [] [] r s p q).0
one_target ts (target.Label n) (target.Register s) p q = absurd (no_name_register ts [] [] n s p q)
one_target ts (target.Register r) (target.Label m) p q = absurd (no_name_register ts [] [] m r q p)

-- ---- places and addresses

pub no_name_number : (ts x y : List Spaced) (n : List ℕ) (k : ℕ) → NameThen ts n x → IsNumber ts k y → ⊥
no_name_number [] x y n k p q = p
no_name_number (t ∷ ts) x y n k p q = apart q.0 ts q.1 where
  apart : (m : MNumber) (us : List Spaced) → NumberThen m (t ∷ us) y → ⊥
  apart (Plain d) us h = let e = p.0 in let f = h.0 in cc
  apart (Hex d) us h = let e = p.0 in let f = h.0 in cc
  apart (Negative d) [] h = h
  apart (Negative d) (u ∷ us) h = let e = p.0 in let f = h.0 in cc

pub one_place : (ts x y : List Spaced) (a b : Option (List ℕ)) (n k : ℕ) → PlaceThen ts a n x → NoLink x → PlaceThen ts b k y → NoLink y → (a ≡ b) × (n ≡ k) × (x ≡ y)
one_place ts x y (Some a) (Some b) n k p h q g =
    let e = one_name ts p.0 q.0 a b p.1 q.1 in
    let P : List Spaced → Type 0 = λ l. AreLinks l 0 k y in
    let f = one_links p.0 x y 0 n k p.2 h (subst P (sym e.1) q.2) g in
    (ap Some e.0, f.0, f.1)
one_place ts x y None None n k p h q g = let f = one_sum ts x y n k p h q g in (refl, f.0, f.1)
one_place ts x y (Some a) None n k p h q g = absurd (no_name_number ts p.0 q.1 a q.0 p.1 q.2)
one_place ts x y None (Some b) n k p h q g = absurd (no_name_number ts q.0 p.1 b p.0 q.1 p.2)

-- a base, or nothing, is no link
pub base_no_link : (ts : List Spaced) (b : Option ℕ) → IsBase ts b → NoLink ts
base_no_link [] b p = tt
base_no_link (t ∷ ts) None p = absurd cc
base_no_link (t ∷ ts) (Some r) p = (λ e. let f = p.0 in cc, λ e. let f = p.0 in cc)

pub one_base : (ts : List Spaced) (a b : Option ℕ) → IsBase ts a → IsBase ts b → a ≡ b
one_base [] None None p q = refl
one_base [] (Some r) b p q = absurd p
one_base [] None (Some s) p q = absurd q
one_base (t ∷ ts) None b p q = absurd cc
one_base (t ∷ ts) (Some r) None p q = absurd cc
one_base (t ∷ ts) (Some r) (Some s) p q = ap Some (one_register ts p.1.0 q.1.0 r s p.1.1 q.1.1).0

-- a base is no place
pub no_base_place : (ts x : List Spaced) (r : ℕ) (a : Option (List ℕ)) (n : ℕ) → IsBase ts (Some r) → PlaceThen ts a n x → ⊥
no_base_place [] x r a n p q = p
no_base_place (t ∷ ts) x r (Some a) n p q = let e = p.0 in let f = q.1.0 in cc
no_base_place (t ∷ ts) x r None n p q = apart q.2.0 ts q.2.1 where
  apart : (m : MNumber) (us : List Spaced) → NumberThen m (t ∷ us) q.1 → ⊥
  apart (Plain d) us h = let e = p.0 in let f = h.0 in cc
  apart (Hex d) us h = let e = p.0 in let f = h.0 in cc
  apart (Negative d) [] h = h
  apart (Negative d) (u ∷ us) h = let e = p.0 in let f = h.0 in cc

abbrev located : Option (List ℕ) → ℕ → Option ℕ → Address (List ℕ)
located n k b = record { name = n; offset = k; base = b }

same_address : (a b : Address (List ℕ)) → a.name ≡ b.name → a.offset ≡ b.offset → a.base ≡ b.base → a ≡ b
same_address a b e f g =
    ap (λ (n : Option (List ℕ)). located n a.offset a.base) e ∙ ap (λ (k : ℕ). located b.name k a.base) f ∙ ap (λ (r : Option ℕ). located b.name b.offset r) g

pub one_address : (ts : List Spaced) (a b : Address (List ℕ)) → IsAddress ts a → IsAddress ts b → a ≡ b
one_address ts a b p q = elim p [
  | inl f ↦ elim q [
    | inl g ↦ same_address a b (f.0 ∙ sym g.0) (f.1 ∙ sym g.1) (f.2.1 ∙ one_base ts (Some f.2.0) (Some g.2.0) f.2.2 g.2.2 ∙ sym g.2.1)
    | inr g ↦ absurd (no_base_place ts g.0 f.2.0 b.name b.offset f.2.2 g.1)
  ]
  | inr f ↦ elim q [
    | inl g ↦ absurd (no_base_place ts f.0 g.2.0 a.name a.offset g.2.2 f.1)
    | inr g ↦
        let e = one_place ts f.0 g.0 a.name b.name a.offset b.offset f.1 (base_no_link f.0 a.base f.2) g.1 (base_no_link g.0 b.base g.2) in
        let P : List Spaced → Type 0 = λ l. IsBase l b.base in
        same_address a b e.0 e.1 (one_base f.0 a.base b.base f.2 (subst P (sym e.2) g.2))
  ]
]

-- ---- items

pub comma_no_link : (ts x : List Spaced) → CommaThen ts x → NoLink ts
comma_no_link [] x p = absurd p
comma_no_link (t ∷ ts) x p = (λ e. let f = p.0 in cc, λ e. let f = p.0 in cc)

-- two readings of an item up to the same kind of end are one
abbrev pub ReadsOnce : {A : Type 0} → (List Spaced → A → List Spaced → Type 0) → Type 0
ReadsOnce {A} Item = (ts x y : List Spaced) (a b : A) → Item ts a x → NoLink x → Item ts b y → NoLink y → (a ≡ b) × (x ≡ y)

-- where nothing stands is no comma
pub no_end_comma : (x y : List Spaced) → x ≡ [] → CommaThen x y → ⊥
no_end_comma [] y e p = p
no_end_comma (t ∷ x) y e p = cc

pub one_list : {A : Type 0} (Item : List Spaced → A → List Spaced → Type 0) → ReadsOnce Item → (ts : List Spaced) (a b : List A) → Listed Item ts a → Listed Item ts b → a ≡ b
one_list {A} Item once ts [] b p q = absurd p
one_list {A} Item once ts (a ∷ more) [] p q = absurd q
one_list {A} Item once ts (a ∷ []) (b ∷ []) p q = ap (λ (c : A). c ∷ []) (once ts [] [] a b p tt q tt).0
one_list {A} Item once ts (a ∷ []) (b ∷ d ∷ ds) p q = absurd (no_end_comma q.0 q.1 (sym (once ts [] q.0 a b p tt q.2 (comma_no_link q.0 q.1 q.3)).1) q.3)
one_list {A} Item once ts (a ∷ c ∷ cs) (b ∷ []) p q = absurd (no_end_comma p.0 p.1 (once ts p.0 [] a b p.2 (comma_no_link p.0 p.1 p.3) q tt).1 p.3)
one_list {A} Item once ts (a ∷ c ∷ cs) (b ∷ d ∷ ds) p q =
    let e = once ts p.0 q.0 a b p.2 (comma_no_link p.0 p.1 p.3) q.2 (comma_no_link q.0 q.1 q.3) in
    let P : List Spaced → Type 0 = λ l. CommaThen l q.1 in
    let f = one_comma p.0 p.1 q.1 p.3 (subst P (sym e.1) q.3) in
    let Q : List Spaced → Type 0 = λ l. Listed Item l (d ∷ ds) in
    let g = one_list Item once p.1 (c ∷ cs) (d ∷ ds) p.4 (subst Q (sym f) q.4) in
    ap (λ (h : A). h ∷ c ∷ cs) e.0 ∙ ap (λ (l : List A). b ∷ l) g

same_pair : (a b : Option (List ℕ) × ℕ) → a.0 ≡ b.0 → a.1 ≡ b.1 → a ≡ b
same_pair a b e f = ap (λ (n : Option (List ℕ)). (n, a.1)) e ∙ ap (λ (k : ℕ). (b.0, k)) f

pub one_word : ReadsOnce IsWordItem
one_word ts x y a b p h q g = let e = one_place ts x y a.0 b.0 a.1 b.1 p h q g in (same_pair a b e.0 e.1, e.2)

pub one_part : (bits : ℕ) → ReadsOnce (IsPartItem bits)
one_part bits ts x y a b p h q g =
    let e = one_sum ts x y p.0 q.0 p.1 h q.1 g in
    (p.2 ∙ ap (λ (k : ℕ). k % 2 ^ bits) e.0 ∙ sym q.2, e.1)

pub one_words : (ts : List Spaced) (a b : List (Option (List ℕ) × ℕ)) → Listed IsWordItem ts a → Listed IsWordItem ts b → a ≡ b
one_words ts a b p q = one_list IsWordItem one_word ts a b p q

pub one_parts : (bits : ℕ) (ts : List Spaced) (a b : List ℕ) → Listed (IsPartItem bits) ts a → Listed (IsPartItem bits) ts b → a ≡ b
one_parts bits ts a b p q = one_list (IsPartItem bits) (one_part bits) ts a b p q
