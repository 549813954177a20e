-- Values of bytes with masks behind them, or none: what an object shows of them, and what a change changes.
use Rattle.std.proofs.Common.{◌≡◌, ◌≢◌, ◌≤◌, ◌<◌, ◌⊎◌, inl, inr, ℕ, zero, suc, ◌+◌, ◌-◌, ◌==◌, Bool, true, false, List, [], ◌∷◌, ◌++◌, length, take, drop, replicate, get_or, set, slice_get, Option, Some, None, Ok, refl, sym, ap, ◌∙◌, arith, if◌then◌else◌}
use Rattle.std.proofs.lemmas.Bool.{eqb-true, eqb-false, eq-eqb}
use Rattle.std.proofs.lemmas.List.{length-append, length-replicate, length-take-le, length-drop, get_or-take, get_or-drop, take_all, drop_all, take-take, drop-drop, take-replicate, drop-replicate, drop-set-lt}
use Rattle.lcc_base.specs.declared.order.Order.{Order}
use Rattle.lcc_base.specs.NumberIn.{number_in}
use Rattle.objects.specs.declared.byte.Byte.{Byte}
use Rattle.objects.specs.declared.byte.Byte.TheVariants.{Bits}
use Rattle.objects.specs.declared.value.Value.{Value}
use Rattle.objects.specs.declared.value.Value.TheVariants.{Number}
use Rattle.objects.specs.declared.width.Scalar.{Scalar}
use Rattle.objects.proofs.lemmas.ByteLaws.{length-overwritten}
use Rattle.objects.specs.Bytes.{known_bytes}
use Rattle.objects.specs.Conversions.{as_scalar}
use Rattle.objects.specs.Held.{shown}
use Rattle.objects.specs.Objects.{Object, overwritten, with_bytes}
use Rattle.objects.specs.Scalars.{scalar_of}
use Rattle.objects.proofs.Holding.{seen, seen_as, bytes_length, known_byte, masked_byte, known_changed, masked_changed, all_known_changed, all_masked_changed, whole_changed, completed_view, cleared, parts_view, over_whole, zeroed_view, unknown_view, known_view, front_is}
use Rattle.objects.proofs.KnownLoads.{known_load, full_load}

-- ---- lists

pub in_front : (n : ℕ) (bs : List ℕ) → (length bs ≡ n) ⊎ (length bs ≡ n + n) → n ≤ length bs
in_front n bs (inl e) = omega (arith, e)
in_front n bs (inr e) = omega (arith, e)

-- there are masks where there are more bytes than values
pub masked : (k n : ℕ) (bs : List ℕ) → (length bs ≡ n) ⊎ (length bs ≡ n + n) → k ≡ length bs → k ≢ n → length bs ≡ n + n
masked k n bs (inl e) f h = absurd (h (f ∙ e))
masked k n bs (inr e) f h = e

none_behind : (n : ℕ) (bs : List ℕ) → length bs ≡ n → drop n bs ≡ []
none_behind n bs e = drop_all n bs (omega (arith, e))

as_many_behind : (n : ℕ) (bs : List ℕ) → length bs ≡ n + n → length (drop n bs) ≡ length (take n bs)
as_many_behind n bs e =
    let behind = length-drop n bs in
    let front = length-take-le n bs (omega (arith, e)) in
    omega (arith, behind, front, e)

pub take-set-in : (n : ℕ) (xs : List ℕ) (i v : ℕ) → i < n → take n (set xs i v) ≡ set (take n xs) i v
take-set-in zero xs i v h = absurd (let never : ⊥ = omega arith in never)
take-set-in (suc n) [] zero v h = refl
take-set-in (suc n) [] (suc i) v h = refl
take-set-in (suc n) (x ∷ xs) zero v h = refl
take-set-in (suc n) (x ∷ xs) (suc i) v h = ap (λ ys. x ∷ ys) (take-set-in n xs i v (omega arith))

pub take-over : (n k : ℕ) (new old : List ℕ) → take n (overwritten k new old) ≡ overwritten k new (take n old)
take-over zero zero [] old = refl
take-over zero zero (x ∷ xs) [] = refl
take-over zero zero (x ∷ xs) (y ∷ ys) = refl
take-over zero (suc k) new [] = refl
take-over zero (suc k) new (y ∷ ys) = refl
take-over (suc n) zero [] old = refl
take-over (suc n) zero (x ∷ xs) [] = refl
take-over (suc n) zero (x ∷ xs) (y ∷ ys) = ap (λ zs. x ∷ zs) (take-over n zero xs ys)
take-over (suc n) (suc k) new [] = refl
take-over (suc n) (suc k) new (y ∷ ys) = ap (λ zs. y ∷ zs) (take-over n k new ys)

pub drop-over-before : (n k : ℕ) (new old : List ℕ) → k + length new ≤ n → drop n (overwritten k new old) ≡ drop n old
drop-over-before n zero [] old h = refl
drop-over-before n zero (x ∷ xs) [] h = refl
drop-over-before zero zero (x ∷ xs) (y ∷ ys) h = absurd (let never : ⊥ = omega arith in never)
drop-over-before (suc n) zero (x ∷ xs) (y ∷ ys) h = drop-over-before n zero xs ys (omega arith)
drop-over-before n (suc k) new [] h = refl
drop-over-before zero (suc k) new (y ∷ ys) h = absurd (let never : ⊥ = omega arith in never)
drop-over-before (suc n) (suc k) new (y ∷ ys) h = drop-over-before n k new ys (omega arith)

nothing_under : (k : ℕ) (new : List ℕ) → [] ≡ overwritten k new []
nothing_under zero [] = refl
nothing_under zero (x ∷ xs) = refl
nothing_under (suc k) new = refl

pub drop-over-behind : (n k j : ℕ) (new old : List ℕ) → j ≡ n + k → drop n (overwritten j new old) ≡ overwritten k new (drop n old)
drop-over-behind zero k j new old e = let same : j ≡ k = omega arith in ap (λ (i : ℕ). overwritten i new old) same
drop-over-behind (suc n) k zero new old e = absurd (let never : ⊥ = omega arith in never)
drop-over-behind (suc n) k (suc j) new [] e = nothing_under k new
drop-over-behind (suc n) k (suc j) new (y ∷ ys) e = drop-over-behind n k j new ys (omega arith)

pub take-over-behind : (n k j : ℕ) (new old : List ℕ) → j ≡ n + k → take n (overwritten j new old) ≡ take n old
take-over-behind zero k j new old e = refl
take-over-behind (suc n) k zero new old e = absurd (let never : ⊥ = omega arith in never)
take-over-behind (suc n) k (suc j) new [] e = refl
take-over-behind (suc n) k (suc j) new (y ∷ ys) e = ap (λ zs. y ∷ zs) (take-over-behind n k j new ys (omega arith))

take_front : (n : ℕ) (xs ys : List ℕ) → length xs ≡ n → take n (xs ++ ys) ≡ xs
take_front zero [] ys e = refl
take_front zero (x ∷ xs) ys e = absurd (let never : ⊥ = omega arith in never)
take_front (suc n) [] ys e = absurd (let never : ⊥ = omega arith in never)
take_front (suc n) (x ∷ xs) ys e = ap (λ zs. x ∷ zs) (take_front n xs ys (omega arith))

drop_front : (n : ℕ) (xs ys : List ℕ) → length xs ≡ n → drop n (xs ++ ys) ≡ ys
drop_front zero [] ys e = refl
drop_front zero (x ∷ xs) ys e = absurd (let never : ⊥ = omega arith in never)
drop_front (suc n) [] ys e = absurd (let never : ⊥ = omega arith in never)
drop_front (suc n) (x ∷ xs) ys e = drop_front n xs ys (omega arith)

-- so many bytes of the front
part_in_front : (w i n : ℕ) (bs : List ℕ) → i + w ≤ n → take w (drop i (take n bs)) ≡ take w (drop i bs)
part_in_front w zero n bs h = take-take w n bs (omega arith)
part_in_front w (suc i) zero bs h = absurd (let never : ⊥ = omega arith in never)
part_in_front w (suc i) (suc n) [] h = refl
part_in_front w (suc i) (suc n) (b ∷ bs) h = part_in_front w i n bs (omega arith)

-- ---- what an object shows

abbrev pub seen_in : ℕ → Bool → (ℕ → Option (Byte Value)) → ℕ → List ℕ → Object
seen_in m k p n bs = seen m k p (take n bs) (drop n bs)

pub size_is : (m : ℕ) (k : Bool) (p : ℕ → Option (Byte Value)) (n : ℕ) (bs : List ℕ) (now : Object) → (length bs ≡ n) ⊎ (length bs ≡ n + n) → seen_in m k p n bs ≡ now → length now.bytes ≡ n
size_is m k p n bs now h e = bytes_length m k p (take n bs) (drop n bs) now e ∙ length-take-le n bs (in_front n bs h)

pub known_byte_in : (m : ℕ) (k : Bool) (p : ℕ → Option (Byte Value)) (n : ℕ) (bs : List ℕ) (now : Object) (i v : ℕ) → seen_in m k p n bs ≡ now → length bs ≡ n → i < n → v ≡ get_or bs i 0 → slice_get now.bytes i ≡ Some (Bits 255 v)
known_byte_in m k p n bs now i v e l h r =
    let front = length-take-le n bs (omega (arith, l)) in
    known_byte m k p (take n bs) (drop n bs) now i v e (ap length (none_behind n bs l)) (omega (arith, front)) (r ∙ sym (get_or-take n bs i 0 h))

pub masked_byte_in : (m : ℕ) (k : Bool) (p : ℕ → Option (Byte Value)) (n : ℕ) (bs : List ℕ) (now : Object) (i known v : ℕ) (b : Byte Value) → seen_in m k p n bs ≡ now → length bs ≡ n + n → i < n → known ≡ get_or bs (n + i) 0 → v ≡ get_or bs i 0 → b ≡ shown (p i) known v → slice_get now.bytes i ≡ Some b
masked_byte_in m k p n bs now i known v b e l h rk rv eb =
    let front = length-take-le n bs (omega (arith, l)) in
    masked_byte m k p (take n bs) (drop n bs) now i known v b e (as_many_behind n bs l) (omega (arith, front)) (rk ∙ sym (get_or-drop n bs i 0)) (rv ∙ sym (get_or-take n bs i 0 h)) eb

pub known_changed_in : (m : ℕ) (k : Bool) (p : ℕ → Option (Byte Value)) (n : ℕ) (bs : List ℕ) (now : Object) (i v : ℕ) → seen_in m k p n bs ≡ now → length bs ≡ n → i < n → seen_in m k p n (set bs i v) ≡ with_bytes now i (Bits 255 v ∷ [])
known_changed_in m k p n bs now i v e l h =
    ap (λ xs. seen m k p xs (drop n (set bs i v))) (take-set-in n bs i v h)
    ∙ ap (λ xs. seen m k p (set (take n bs) i v) xs) (drop-set-lt n bs i v h)
    ∙ known_changed m k p (take n bs) (drop n bs) now i v e (ap length (none_behind n bs l))

pub masked_changed_in : (m : ℕ) (k : Bool) (p q : ℕ → Option (Byte Value)) (n : ℕ) (bs more : List ℕ) (now : Object) (i known v : ℕ) (b : Byte Value) → seen_in m k p n bs ≡ now → length bs ≡ n + n → i < n → take n more ≡ set (take n bs) i v → drop n more ≡ set (drop n bs) i known → ((j : ℕ) → j ≢ i → q j ≡ p j) → shown (q i) known v ≡ b → seen_in m k q n more ≡ with_bytes now i (b ∷ [])
masked_changed_in m k p q n bs more now i known v b e l h f g same eb =
    let front = length-take-le n bs (omega (arith, l)) in
    ap (λ xs. seen m k q xs (drop n more)) f
    ∙ ap (λ xs. seen m k q (set (take n bs) i v) xs) g
    ∙ masked_changed m k p q (take n bs) (drop n bs) now i known v b e (as_many_behind n bs l) (omega (arith, front)) same eb

-- masks put behind
masks_behind : (m : ℕ) (k : Bool) (p : ℕ → Option (Byte Value)) (n : ℕ) (bs : List ℕ) → length bs ≡ n → seen_in m k p n (bs ++ replicate n 255) ≡ seen_in m k p n bs
masks_behind m k p n bs l =
    let masks : List ℕ = replicate n 255 in
    let front = length-take-le n bs (omega (arith, l)) in
    ap (λ xs. seen m k p xs (drop n (bs ++ masks))) (take_front n bs masks l ∙ sym (take_all n bs (omega (arith, l))))
    ∙ ap (λ xs. seen m k p (take n bs) xs) (drop_front n bs masks l)
    ∙ completed_view m k p [] masks (take n bs) n (seen m k p (take n bs) []) refl (sym front) refl
    ∙ ap (λ xs. seen m k p (take n bs) xs) (sym (none_behind n bs l))

more_if : (m : ℕ) (k : Bool) (p : ℕ → Option (Byte Value)) (n : ℕ) (bs : List ℕ) (b : Bool) → (b ≡ true → length bs ≡ n) → seen_in m k p n (if b then bs ++ replicate n 255 else bs) ≡ seen_in m k p n bs
more_if m k p n bs true h = masks_behind m k p n bs (h refl)
more_if m k p n bs false h = refl

pub completed_in : (m : ℕ) (k : Bool) (p : ℕ → Option (Byte Value)) (n : ℕ) (bs more : List ℕ) (now : Object) → seen_in m k p n bs ≡ now → more ≡ (if length bs == n then bs ++ replicate n 255 else bs) → seen_in m k p n more ≡ now
completed_in m k p n bs more now e f = ap (λ xs. seen_in m k p n xs) f ∙ more_if m k p n bs (length bs == n) (λ t. eqb-true (length bs) n t) ∙ e

long_if : (n : ℕ) (bs : List ℕ) (b : Bool) → (length bs ≡ n) ⊎ (length bs ≡ n + n) → b ≡ (length bs == n) → length (if b then bs ++ replicate n 255 else bs) ≡ n + n
long_if n bs true h e =
    let l = eqb-true (length bs) n (sym e) in
    let all = length-append bs (replicate {A = ℕ} n 255) in
    let masks = length-replicate {A = ℕ} n 255 in
    omega (arith, l, all, masks)
long_if n bs false (inl l) e = absurd (eqb-false (length bs) n (sym e) l)
long_if n bs false (inr l) e = l

pub completed_long : (n : ℕ) (bs more : List ℕ) → (length bs ≡ n) ⊎ (length bs ≡ n + n) → more ≡ (if length bs == n then bs ++ replicate n 255 else bs) → length more ≡ n + n
completed_long n bs more h f = ap length f ∙ long_if n bs (length bs == n) h refl

pub masks_made : (n c : ℕ) (bs more pasted : List ℕ) → length bs ≡ n → c ≡ n + n → more ≡ replicate c 255 → pasted ≡ overwritten 0 bs more → pasted ≡ bs ++ replicate n 255
masks_made n c bs more pasted l f g h =
    let masks : List ℕ = replicate c 255 in
    let many = length-replicate {A = ℕ} c 255 in
    let rest : c - length bs ≡ n = omega (arith, l, f) in
    h
    ∙ ap (λ xs. overwritten 0 bs xs) g
    ∙ sym (front_is bs masks (omega (arith, l, f, many)))
    ∙ ap (λ xs. bs ++ xs) (drop-replicate {X = ℕ} (length bs) c 255 ∙ ap (λ (j : ℕ). replicate j 255) rest)

pub made_complete : (n c : ℕ) (bs more pasted : List ℕ) → length bs ≡ n → c ≡ n + n → more ≡ replicate c 255 → pasted ≡ overwritten 0 bs more → pasted ≡ (if length bs == n then bs ++ replicate n 255 else bs)
made_complete n c bs more pasted l f g h =
    masks_made n c bs more pasted l f g h
    ∙ ap (λ (b : Bool). if b then bs ++ replicate n 255 else bs) (sym (eq-eqb (length bs) n l))

-- bytes written, whose bits are known
pub all_known_in : (m : ℕ) (k : Bool) (p : ℕ → Option (Byte Value)) (n : ℕ) (bs more : List ℕ) (now : Object) (i : ℕ) (new : List ℕ) → seen_in m k p n bs ≡ now → length bs ≡ n → more ≡ overwritten i new bs → seen_in m k p n more ≡ with_bytes now i (known_bytes new)
all_known_in m k p n bs more now i new e l f =
    let as_long = ap length f ∙ length-overwritten i new bs ∙ l in
    ap (λ xs. seen m k p (take n more) xs) (none_behind n more as_long ∙ sym (none_behind n bs l))
    ∙ all_known_changed m k p (take n bs) (drop n bs) (take n more) now i new e (ap length (none_behind n bs l)) (ap (λ xs. take n xs) f ∙ take-over n i new bs)

pub all_masked_in : (m : ℕ) (k : Bool) (p : ℕ → Option (Byte Value)) (n : ℕ) (bs more : List ℕ) (now : Object) (i : ℕ) (new : List ℕ) → seen_in m k p n bs ≡ now → length bs ≡ n + n → take n more ≡ overwritten i new (take n bs) → drop n more ≡ overwritten i (replicate (length new) 255) (drop n bs) → seen_in m k p n more ≡ with_bytes now i (known_bytes new)
all_masked_in m k p n bs more now i new e l f g = all_masked_changed m k p (take n bs) (drop n bs) (take n more) (drop n more) (replicate (length new) 255) now i new e (as_many_behind n bs l) f refl g

pub whole_in : (m : ℕ) (k : Bool) (p q : ℕ → Option (Byte Value)) (n : ℕ) (bs more : List ℕ) (now : Object) (i : ℕ) (new : List ℕ) → seen_in m k p n bs ≡ now → i + length new ≤ length now.bytes → n ≤ length bs → length new ≡ n → more ≡ new → seen_in m k q n more ≡ with_bytes now i (known_bytes new)
whole_in m k p q n bs more now i new e inside h l g =
    let front = length-take-le n bs h in
    let as_long = ap length g ∙ l in
    let many = bytes_length m k p (take n bs) (drop n bs) now e in
    let start : i ≡ 0 = omega (arith, inside, l, many, front) in
    let over = ap (λ (j : ℕ). overwritten j new (take n bs)) start ∙ over_whole new (take n bs) (l ∙ sym front) in
    whole_changed m k p q (take n bs) (drop n bs) (take n more) (drop n more) now i new e inside (l ∙ sym front) (take_all n more (omega (arith, as_long)) ∙ g ∙ sym over) (none_behind n more as_long)

-- the same parts, by another name
pub same_parts : (m : ℕ) (k : Bool) (p q : ℕ → Option (Byte Value)) (n : ℕ) (bs : List ℕ) (now : Object) → seen_in m k p n bs ≡ now → q ≡ p → seen_in m k q n bs ≡ now
same_parts m k p q n bs now e f = ap (λ (r : ℕ → Option (Byte Value)). seen_in m k r n bs) f ∙ e

-- the same values, masks and parts
pub unchanged_in : (m : ℕ) (k : Bool) (p q : ℕ → Option (Byte Value)) (n : ℕ) (bs more : List ℕ) (now : Object) → seen_in m k p n bs ≡ now → more ≡ bs → ((j : ℕ) → q j ≡ p j) → seen_in m k q n more ≡ now
unchanged_in m k p q n bs more now e f h = ap (λ xs. seen_in m k q n xs) f ∙ parts_view m k p q (take n bs) (drop n bs) now e h

-- ---- numbers read at once

pub known_load_in : (order : Order) (s : Scalar) (m : ℕ) (k : Bool) (p : ℕ → Option (Byte Value)) (n : ℕ) (bs part : List ℕ) (now : Object) (i w : ℕ) → seen_in m k p n bs ≡ now → length bs ≡ n → i + w ≤ n → part ≡ take w (drop i bs) → Ok (Number (as_scalar s (number_in order part))) ≡ scalar_of order s (take w (drop i now.bytes))
known_load_in order s m k p n bs part now i w e l h f = known_load order s m k p (take n bs) (drop n bs) part now i w e (ap length (none_behind n bs l)) (f ∙ sym (part_in_front w i n bs h))

pub full_load_in : (order : Order) (s : Scalar) (m : ℕ) (k : Bool) (p : ℕ → Option (Byte Value)) (n : ℕ) (bs part : List ℕ) (now : Object) (i w : ℕ) → seen_in m k p n bs ≡ now → length bs ≡ n + n → i + w ≤ n → take w (drop (n + i) bs) ≡ replicate w 255 → part ≡ take w (drop i bs) → Ok (Number (as_scalar s (number_in order part))) ≡ scalar_of order s (take w (drop i now.bytes))
full_load_in order s m k p n bs part now i w e l h full f = full_load order s m k p (take n bs) (drop n bs) part now i w e (as_many_behind n bs l) (ap (λ xs. take w xs) (drop-drop i n bs) ∙ full) (f ∙ sym (part_in_front w i n bs h))

-- ---- objects made

pub zeroed_in : (m : ℕ) (k : Bool) (p : ℕ → Option (Byte Value)) (n : ℕ) (bs : List ℕ) → bs ≡ replicate n 0 → seen_in m k p n bs ≡ seen_as m k (replicate n (Bits 255 0))
zeroed_in m k p n bs e =
    let many = ap length e ∙ length-replicate {A = ℕ} n 0 in
    zeroed_view m k p (take n bs) (drop n bs) n (take_all n bs (omega (arith, many)) ∙ e) (none_behind n bs many)

pub unknown_in : (m : ℕ) (k : Bool) (p : ℕ → Option (Byte Value)) (n c : ℕ) (bs : List ℕ) → c ≡ n + n → bs ≡ replicate c 0 → ((j : ℕ) → p j ≡ None) → seen_in m k p n bs ≡ seen_as m k (replicate n (Bits 0 0))
unknown_in m k p n c bs f e h =
    let rest : c - n ≡ n = omega (arith, f) in
    unknown_view m k p (take n bs) (drop n bs) n
    (ap (λ xs. take n xs) e ∙ take-replicate {X = ℕ} n c 0 (omega (arith, f)))
    (ap (λ xs. drop n xs) e ∙ drop-replicate {X = ℕ} n c 0 ∙ ap (λ (j : ℕ). replicate j 0) rest)
    h

pub known_in : (m : ℕ) (k : Bool) (p : ℕ → Option (Byte Value)) (n : ℕ) (bs bytes : List ℕ) → bs ≡ bytes → n ≡ length bytes → seen_in m k p n bs ≡ seen_as m k (known_bytes bytes)
known_in m k p n bs bytes e f =
    let many = ap length e ∙ sym f in
    known_view m k p (take n bs) (drop n bs) bytes (take_all n bs (omega (arith, many)) ∙ e) (none_behind n bs many)

pub cleared_in : (m : ℕ) (k : Bool) (p q : ℕ → Option (Byte Value)) (n : ℕ) (bs zs : List ℕ) (now : Object) → seen_in m k p n bs ≡ now → n ≤ length bs → zs ≡ replicate n 0 → seen_in m k q n zs ≡ with_bytes now 0 (replicate (length now.bytes) (Bits 255 0))
cleared_in m k p q n bs zs now e h f =
    let front = length-take-le n bs h in
    let many = ap length f ∙ length-replicate {A = ℕ} n 0 in
    cleared m k p q (take n bs) (drop n bs) (take n zs) (drop n zs) now e (take_all n zs (omega (arith, many)) ∙ f ∙ ap (λ (j : ℕ). replicate j 0) (sym front)) (none_behind n zs many)
