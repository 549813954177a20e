-- What the readers of numbers and sums find.
use Rattle.std.proofs.Common.{◌≡◌, ◌≤◌, ◌+◌, ◌*◌, ◌-◌, ◌%◌, ℕ, Bool, false, Option, Some, None, IfSome, IfNone, Bor, List, [], ◌∷◌, refl, sym, ap, subst, ◌∙◌, arith}
use Rattle.std.proofs.lemmas.Option.{IfSome_then}
use Rattle.lcc_text.specs.Decimal.{value_of}
use Rattle.asm_lines.specs.declared.token.Kind.{Kind}
use Rattle.asm_lines.specs.declared.token.Kind.TheVariants as kind
use Rattle.asm_lines.specs.declared.token.Token.{Token}
use Rattle.asm_lines.specs.Tokens.{Decimal, Hexadecimal, Minus, Spaced, tok_of, view, views}
use Rattle.asm_lines.specs.Numbers.{digit_value, hex_behind, hex_value, MNumber, Plain, Hex, Negative, NumberThen, word_of, IsNumber, CountStands, MLink, link_sign, LinksThen, joined, total, AreLinks, IsSum, NoLink}
use Rattle.asm_lines.proofs.Suffixes.{IsBehind, behind_all, behind_one}
use Rattle.asm_lines.proofs.OneOperand.{one_number, same_link, no_link}

-- a hexadecimal number is no less than its first digits
pub hex_grows : (n : ℕ) (digits : List ℕ) → n ≤ hex_behind n digits
hex_grows n [] = omega arith
hex_grows n (b ∷ bs) = let h = hex_grows (16 * n + digit_value b) bs in omega arith

-- ---- one number

pub plain_read : (tokens rest : List Token) (first : Token) (n : ℕ) → tokens ≡ first ∷ rest → first.kind ≡ kind.Decimal → n ≡ value_of first.text.now → n ≤ 4294967295 → IsNumber (views tokens) n (views rest)
plain_read tokens rest first n e k v l =
    let f : tok_of first.kind first.text.now ≡ Decimal first.text.now = rw k refl in
    rw e (Plain first.text.now, (f, refl), rw v at l, v)

pub hex_read : (tokens rest : List Token) (first : Token) (n : ℕ) → tokens ≡ first ∷ rest → first.kind ≡ kind.Hexadecimal → n ≡ hex_value first.text.now → n ≤ 4294967295 → IsNumber (views tokens) n (views rest)
hex_read tokens rest first n e k v l =
    let f : tok_of first.kind first.text.now ≡ Hexadecimal first.text.now = rw k refl in
    rw e (Hex first.text.now, (f, refl), rw v at l, v)

pub negative_read : (tokens rest : List Token) (first : Token) (size n : ℕ) → tokens ≡ first ∷ rest → first.kind ≡ kind.Decimal → first.is_spaced ≡ false → size ≡ value_of first.text.now → size ≤ 2147483648 → n ≡ (4294967296 - size) % 4294967296 → (minus : Spaced) → minus.tok ≡ Minus → IsNumber (minus ∷ views tokens) n (views rest)
negative_read tokens rest first size n e k s v l i minus m =
    let f : tok_of first.kind first.text.now ≡ Decimal first.text.now = rw k refl in
    rw e (Negative first.text.now, (m, f, s, refl), rw v at l, rw v at i)

minus_first : (first : Token) → first.kind ≡ kind.Minus → tok_of first.kind first.text.now ≡ Minus
minus_first first k = rw k refl

pub minus_some : (tokens rest : List Token) (first : Token) (r : Option (ℕ × Bor (List Token))) → tokens ≡ first ∷ rest → first.kind ≡ kind.Minus → IfSome r (λ x. (minus : Spaced) → minus.tok ≡ Minus → IsNumber (minus ∷ views rest) x.0 (views x.1.now)) → IfSome r (λ x. IsNumber (views tokens) x.0 (views x.1.now))
minus_some tokens rest first r e k h = rw e (IfSome_then r h (λ x g. g (view first) (minus_first first k)))

pub minus_none : {A : Type 0} (tokens rest : List Token) (first : Token) (r : Option A) → tokens ≡ first ∷ rest → first.kind ≡ kind.Minus → IfNone r ((minus : Spaced) (n : ℕ) (more : List Spaced) → minus.tok ≡ Minus → IsNumber (minus ∷ views rest) n more → ⊥) → IfNone r ((n : ℕ) (more : List Spaced) → IsNumber (views tokens) n more → ⊥)
minus_none {A} tokens rest first None e k h = rw e (λ n more g. h (view first) n more (minus_first first k) g)
minus_none {A} tokens rest first (Some x) e k h = tt

-- ---- a number that isn't negative

pub no_count : {A : Type 0} (r : Option A) (ts : List Spaced) → ((n : ℕ) (rest : List Spaced) → IsNumber ts n rest → ⊥) → IfNone r ((n : ℕ) → CountStands ts n → ⊥)
no_count {A} None ts h = λ n p. h (word_of p.0) [] (p.0, p.1, p.2, refl)
no_count {A} (Some x) ts h = tt

-- ---- links

number_then_behind : (m : MNumber) (ts rest : List Spaced) → NumberThen m ts rest → (t : Spaced) × (us : List Spaced) × (ts ≡ t ∷ us) × IsBehind us rest
number_then_behind (Plain d) [] rest h = absurd h
number_then_behind (Hex d) [] rest h = absurd h
number_then_behind (Negative d) [] rest h = absurd h
number_then_behind (Negative d) (t ∷ []) rest h = absurd h
number_then_behind (Plain d) (t ∷ us) rest h = (t, us, refl, behind_all us rest h.1)
number_then_behind (Hex d) (t ∷ us) rest h = (t, us, refl, behind_all us rest h.1)
number_then_behind (Negative d) (t ∷ u ∷ us) rest h = (t, u ∷ us, refl, behind_one u us rest (behind_all us rest h.3))

pub number_behind : (ts rest : List Spaced) (n : ℕ) → IsNumber ts n rest → IsBehind ts rest
number_behind ts rest n p =
    let h = number_then_behind p.0 ts rest p.1 in
    let P : List Spaced → Type 0 = λ l. IsBehind l rest in
    subst P (sym h.2) (behind_one h.0 h.1 rest h.3)

-- a sign and a number stand before the links
pub more_links : (t : Spaced) (s : Bool) (ts us mid rest : List Spaced) (from v n : ℕ) → t.tok ≡ link_sign s → us ≡ t ∷ ts → IsNumber ts v mid → AreLinks mid (joined s from v) n rest → AreLinks us from n rest
more_links t s ts us mid rest from v n e f p q =
    rw f (record { is_minus = s; number = p.0 } ∷ q.0, (e, (mid, p.1, p.2, q.1)), q.2 ∙ ap (λ (k : ℕ). total (joined s from k) q.0) p.3)

-- links behind a sign
pub fewer_links : (t : Spaced) (s : Bool) (ts us mid rest : List Spaced) (from v n : ℕ) → t.tok ≡ link_sign s → us ≡ t ∷ ts → IsNumber ts v mid → AreLinks us from n rest → NoLink rest → AreLinks mid (joined s from v) n rest
fewer_links t s ts us mid rest from v n e f p q h = at us q.0 f q.1 q.2 where
  at : (ws : List Spaced) (ls : List MLink) → ws ≡ t ∷ ts → LinksThen ls ws rest → n ≡ total from ls → AreLinks mid (joined s from v) n rest
  at ws [] g k z = let P : List Spaced → Type 0 = λ l. NoLink l in absurd (no_link t ts s (subst P (sym k ∙ g) h) e)
  at [] (l ∷ ls) g k z = absurd k
  at (w ∷ ws) (l ∷ ls) g k z =
      let a : link_sign s ≡ link_sign l.is_minus = cc in
      let b = same_link s l.is_minus a in
      let P : List Spaced → Type 0 = λ i. NumberThen l.number i k.1.0 in
      let i : ws ≡ ts = cc in
      let d = one_number ts mid k.1.0 v (word_of l.number) p (l.number, subst P i k.1.1, k.1.2, refl) in
      let Q : List Spaced → Type 0 = λ i. LinksThen ls i rest in
      let j : joined l.is_minus from (word_of l.number) ≡ joined s from v = cc in
      (ls, subst Q (sym d.1) k.1.3, z ∙ ap (λ (i : ℕ). total i ls) j)

-- links that begin with a sign have a number
pub no_number_links : (t : Spaced) (s : Bool) (ts us rest : List Spaced) (from n : ℕ) → t.tok ≡ link_sign s → us ≡ t ∷ ts → ((v : ℕ) (mid : List Spaced) → IsNumber ts v mid → ⊥) → AreLinks us from n rest → NoLink rest → ⊥
no_number_links t s ts us rest from n e f p q h = at us q.0 f q.1 where
  at : (ws : List Spaced) (ls : List MLink) → ws ≡ t ∷ ts → LinksThen ls ws rest → ⊥
  at ws [] g k = let P : List Spaced → Type 0 = λ l. NoLink l in no_link t ts s (subst P (sym k ∙ g) h) e
  at [] (l ∷ ls) g k = k
  at (w ∷ ws) (l ∷ ls) g k =
      let P : List Spaced → Type 0 = λ i. NumberThen l.number i k.1.0 in
      let i : ws ≡ ts = cc in
      p (word_of l.number) k.1.0 (l.number, subst P i k.1.1, k.1.2, refl)

pub sign_read : (tokens rest : List Token) (first : Token) (k : Kind) (s : Bool) → tokens ≡ first ∷ rest → first.kind ≡ k → tok_of k first.text.now ≡ link_sign s → (t : Spaced) × (t.tok ≡ link_sign s) × (views tokens ≡ t ∷ views rest)
sign_read tokens rest first k s e f g = (view first, ap (λ (i : Kind). tok_of i first.text.now) f ∙ g, rw e refl)

-- the links that are left make a number of the total so far where all of them make it of the first
pub record Linked (ts : List Spaced) (from : ℕ) (left : List Spaced) (so_far : ℕ) : Type 0 where
  pub ahead : (n : ℕ) (rest : List Spaced) → AreLinks left so_far n rest → AreLinks ts from n rest
  pub back : (n : ℕ) (rest : List Spaced) → AreLinks ts from n rest → NoLink rest → AreLinks left so_far n rest

-- a sign and a number more
pub linked_more : (ts left behind mid new : List Spaced) (from so_far v now : ℕ) (t : Spaced) (s : Bool) → Linked ts from left so_far → t.tok ≡ link_sign s → left ≡ t ∷ behind → IsNumber behind v mid → new ≡ mid → now ≡ joined s so_far v → Linked ts from new now
linked_more ts left behind mid new from so_far v now t s h e f p g i =
    rw (g, i) (record {
      ahead = λ n rest q. h.ahead n rest (more_links t s behind left mid rest so_far v n e f p q);
      back = λ n rest q k. fewer_links t s behind left mid rest so_far v n e f p (h.back n rest q k) k;
    })

pub no_linked : {A : Type 0} (r : Option A) (ts left behind : List Spaced) (from so_far : ℕ) (t : Spaced) (s : Bool) → Linked ts from left so_far → t.tok ≡ link_sign s → left ≡ t ∷ behind → ((v : ℕ) (mid : List Spaced) → IsNumber behind v mid → ⊥) → IfNone r ((n : ℕ) (rest : List Spaced) → AreLinks ts from n rest → NoLink rest → ⊥)
no_linked {A} None ts left behind from so_far t s h e f p = λ n rest q k. no_number_links t s behind left rest so_far n e f p (h.back n rest q k) k
no_linked {A} (Some x) ts left behind from so_far t s h e f p = tt

-- ---- sums

pub no_sum_number : {A : Type 0} (r : Option A) (ts : List Spaced) → ((n : ℕ) (rest : List Spaced) → IsNumber ts n rest → ⊥) → IfNone r ((n : ℕ) (rest : List Spaced) → IsSum ts n rest → NoLink rest → ⊥)
no_sum_number {A} None ts h = λ n rest p g. h p.0 p.1 p.2
no_sum_number {A} (Some x) ts h = tt

pub no_sum_links : {A : Type 0} (r : Option A) (ts mid : List Spaced) (first : ℕ) → IsNumber ts first mid → IfNone r ((n : ℕ) (rest : List Spaced) → AreLinks mid first n rest → NoLink rest → ⊥) → IfNone r ((n : ℕ) (rest : List Spaced) → IsSum ts n rest → NoLink rest → ⊥)
no_sum_links {A} None ts mid first q h = λ n rest p g.
    let e = one_number ts mid p.1 first p.0 q p.2 in
    let P : ℕ → Type 0 = λ i. AreLinks p.1 i n rest in
    let Q : List Spaced → Type 0 = λ l. AreLinks l first n rest in
    h n rest (subst Q (sym e.1) (subst P (sym e.0) p.3)) g
no_sum_links {A} (Some x) ts mid first q h = tt
