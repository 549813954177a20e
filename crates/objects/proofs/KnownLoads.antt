-- The scalar of bytes all of whose bits are known is their number.
use Rattle.std.proofs.Common.{◌≡◌, ℕ, Bool, false, List, [], ◌∷◌, ◌++◌, length, take, drop, map, replicate, reverse, Option, None, is_none, Ok, refl, sym, ap, ◌∙◌, arith, ◌&&◌}
use Rattle.std.proofs.lemmas.List.{take-map, drop-map, map-append, reverse-append}
use Rattle.lcc_base.specs.declared.order.Order.{Order}
use Rattle.lcc_base.specs.declared.order.Order.TheVariants.{Big, Little}
use Rattle.lcc_base.specs.declared.cause.Cause.TheVariants.{Unknown, PointerBytes}
use Rattle.lcc_base.specs.NumberIn.{number_in}
use Rattle.objects.specs.declared.byte.Byte.{Byte}
use Rattle.objects.specs.declared.byte.Byte.TheVariants.{Bits}
use Rattle.objects.specs.declared.value.Value.{Value}
use Rattle.objects.specs.declared.value.Value.TheVariants.{Number}
use Rattle.objects.specs.declared.width.Scalar.{Scalar}
use Rattle.objects.specs.Values.{same_whole}
use Rattle.objects.specs.Bytes.{known_bytes, has_unknown_bits, has_parts, whole_of, by_weight, value_of}
use Rattle.objects.specs.Causes.{first_cause, unless}
use Rattle.objects.specs.Conversions.{as_scalar, as_type}
use Rattle.objects.specs.Objects.{Object}
use Rattle.objects.specs.Scalars.{whole_or, scalar_cause, scalar_value, scalar_of}
use Rattle.objects.proofs.Holding.{seen, held_known, full_at}

abbrev bytes : List ℕ → List (Byte Value)
bytes ns = known_bytes ns

none_unknown : (ns : List ℕ) → has_unknown_bits (bytes ns) ≡ false
none_unknown [] = refl
none_unknown (n ∷ ns) = none_unknown ns

no_parts : (ns : List ℕ) → has_parts (bytes ns) ≡ false
no_parts [] = refl
no_parts (n ∷ ns) = no_parts ns

no_whole : (ns : List ℕ) → whole_of same_whole (bytes ns) ≡ None
no_whole [] = refl
no_whole (n ∷ ns) = refl

turned : (ns : List ℕ) → reverse (bytes ns) ≡ bytes (reverse ns)
turned [] = refl
turned (n ∷ ns) =
    reverse-append (Bits 255 n ∷ []) (bytes ns)
    ∙ ap (λ xs. xs ++ Bits 255 n ∷ []) (turned ns)
    ∙ sym (map-append (λ x. Bits 255 x) (reverse ns) (n ∷ []))
    ∙ ap bytes (sym (reverse-append (n ∷ []) ns))

no_whole_in : (order : Order) (ns : List ℕ) → whole_of same_whole (by_weight order (bytes ns)) ≡ None
no_whole_in Big ns = no_whole ns
no_whole_in Little ns = ap (λ xs. whole_of same_whole xs) (turned ns) ∙ no_whole (reverse ns)

values : (ns : List ℕ) → map value_of (bytes ns) ≡ ns
values [] = refl
values (n ∷ ns) = ap (λ xs. n ∷ xs) (values ns)

no_cause : (order : Order) (ns : List ℕ) → scalar_cause order (bytes ns) ≡ None
no_cause order ns =
    ap (λ b. first_cause ((b, Unknown) ∷ (has_parts (bytes ns) && is_none (whole_of same_whole (by_weight order (bytes ns))), PointerBytes) ∷ [])) (none_unknown ns)
    ∙ ap (λ b. first_cause ((b && is_none (whole_of same_whole (by_weight order (bytes ns))), PointerBytes) ∷ [])) (no_parts ns)

known_value : (order : Order) (ns : List ℕ) → scalar_value order (bytes ns) ≡ Number (number_in order ns)
known_value order ns =
    ap (λ o. whole_or o (number_in order (map value_of (bytes ns)))) (no_whole_in order ns)
    ∙ ap (λ xs. Number (number_in order xs)) (values ns)

known_scalar : (order : Order) (s : Scalar) (ns : List ℕ) → scalar_of order s (bytes ns) ≡ Ok (Number (as_scalar s (number_in order ns)))
known_scalar order s ns = ap (λ c. unless c (as_type s (scalar_value order (bytes ns)))) (no_cause order ns) ∙ ap (λ v. Ok (as_type s v)) (known_value order ns)

pub known_load : (order : Order) (s : Scalar) (m : ℕ) (k : Bool) (p : ℕ → Option (Byte Value)) (vs ks part : List ℕ) (now : Object) (n w : ℕ) → seen m k p vs ks ≡ now → length ks ≡ 0 → part ≡ take w (drop n vs) → Ok (Number (as_scalar s (number_in order part))) ≡ scalar_of order s (take w (drop n now.bytes))
known_load order s m k p vs [] part now n w e z f =
    ap (λ xs. Ok (Number (as_scalar s (number_in order xs)))) f
    ∙ sym (known_scalar order s (take w (drop n vs)))
    ∙ ap (λ bs. scalar_of order s bs) (sym (take-map (λ x. Bits 255 x) w (drop n vs)))
    ∙ ap (λ bs. scalar_of order s (take w bs)) (sym (drop-map (λ x. Bits 255 x) n vs))
    ∙ ap (λ bs. scalar_of order s (take w (drop n bs))) (sym (held_known p 0 vs))
    ∙ ap (λ (o : Object). scalar_of order s (take w (drop n o.bytes))) e
known_load order s m k p vs (x ∷ xs) part now n w e z f = absurd (let never : ⊥ = omega arith in never)

-- the same where there are masks, and these are full
pub full_load : (order : Order) (s : Scalar) (m : ℕ) (k : Bool) (p : ℕ → Option (Byte Value)) (vs ks part : List ℕ) (now : Object) (n w : ℕ) → seen m k p vs ks ≡ now → length ks ≡ length vs → take w (drop n ks) ≡ replicate w 255 → part ≡ take w (drop n vs) → Ok (Number (as_scalar s (number_in order part))) ≡ scalar_of order s (take w (drop n now.bytes))
full_load order s m k p vs ks part now n w e l full f =
    ap (λ xs. Ok (Number (as_scalar s (number_in order xs)))) f
    ∙ sym (known_scalar order s (take w (drop n vs)))
    ∙ ap (λ bs. scalar_of order s bs) (sym (full_at p 0 n w vs ks l full))
    ∙ ap (λ (o : Object). scalar_of order s (take w (drop n o.bytes))) e
