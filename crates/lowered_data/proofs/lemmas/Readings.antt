-- What bytes are that are read as a number, a pointer or a function.
use Rattle.std.specs.Prelude.{◌≡◌, ◌≤◌, ◌<◌, ℕ, zero, suc, ◌+◌, ◌==◌, ◌&&◌, ◌||◌, not, Bool, true, false, Option, Some, None, is_none, List, [], ◌∷◌, length, take, drop, Result, Ok, Err, IfOk, slice_get, if◌then◌else◌}
use Rattle.std.proofs.Common.{refl, ap, sym, subst, ◌∙◌, arith}
use Rattle.std.proofs.lemmas.Bool.{eqb-true}
use Rattle.std.proofs.lemmas.List.{length-drop, length-take}
use Rattle.lcc_base.specs.declared.cause.Cause.{Cause}
use Rattle.lcc_base.specs.declared.cause.Cause.TheVariants.{Outside, Misaligned, Dead, Unknown, PointerBytes}
use Rattle.lcc_base.specs.declared.order.Order.{Order}
use Rattle.lcc_base.specs.declared.order.Order.TheVariants.{Big, Little}
use Rattle.objects.specs.declared.byte.Byte.{Byte}
use Rattle.objects.specs.declared.byte.Byte.TheVariants.{Bits, Part}
use Rattle.objects.specs.declared.value.ObjectName.{ObjectName}
use Rattle.objects.specs.declared.value.Value.{Value}
use Rattle.objects.specs.declared.value.Value.TheVariants.{Number, Pointer, Function}
use Rattle.objects.specs.declared.width.Width.TheVariants.{One, Four}
use Rattle.objects.specs.declared.width.Scalar.{Scalar}
use Rattle.objects.specs.Values.{bytes_in, same_whole}
use Rattle.objects.specs.Bytes.{has_unknown_bits, part_bytes, by_weight, is_part_of, whole_of, number_of_bytes}
use Rattle.objects.specs.Objects.{Object, object_of, if_named, is_named, contents}
use Rattle.objects.specs.Causes.{is_outside, is_misaligned, is_dead, breaks_whole}
use Rattle.objects.specs.Conversions.{as_type}
use Rattle.objects.specs.Scalars.{scalar_cause, scalar_value, whole_or, scalar_of}
use Rattle.objects.specs.Accesses.{read, read_cause, if_none, number_given}
use Rattle.objects.proofs.lemmas.AccessLaws.{unless_none, unless_same, first_not, first_rest, its_object, size_of, not_less}
use Rattle.c_meaning.specs.Each.{EachIs}
use Rattle.c_runs.specs.Soundness.{IsSoundByte, IsSoundObject}
use Rattle.c_match.proofs.lemmas.Scalars.{whole_bytes}
use Rattle.lcc_base.specs.declared.memory.Memory.{Memory}
use Rattle.op_forest.specs.declared.lowered.Datum.{Datum}
use Rattle.lowered_data.specs.Data.{Image, IsDatumOf, IsStretch, IsWordAt, bytes_of}
use Rattle.lowered_data.specs.Stand.{Stand}
use Rattle.lowered_data.proofs.lemmas.Stands.{stand_taken}

-- ---- tests

or_first : (a b : Bool) → (a || b) ≡ false → a ≡ false
or_first true b e = absurd (let never : ⊥ = cc in never)
or_first false b e = refl

and_first : (a b : Bool) → (a && b) ≡ true → a ≡ true
and_first true b e = refl
and_first false b e = absurd (let never : ⊥ = cc in never)

and_rest : (a b : Bool) → (a && b) ≡ true → b ≡ true
and_rest true b e = e
and_rest false b e = absurd (let never : ⊥ = cc in never)

not_false : (b : Bool) → not b ≡ false → b ≡ true
not_false true e = refl
not_false false e = absurd (let never : ⊥ = cc in never)

-- ---- objects that live

pub record Lives (os : List Object) (name : ObjectName) : Type 0 where
  pub it : Object
  pub there : slice_get os name.place ≡ Some it
  pub named : is_named name it ≡ true
  pub found : object_of os name ≡ Some it

pub lives : (os : List Object) (name : ObjectName) → is_none (object_of os name) ≡ false → Lives os name
lives os name e =
    let o = its_object name (slice_get os name.place) e in
    record {
      it = o.0;
      there = o.1;
      named = o.2;
      found = ap (λ x. if_named name x) o.1 ∙ ap (λ (b : Bool). if b then Some o.0 else None) o.2;
    }

-- its bytes are as many as its name says
pub live_length : (os : List Object) (name : ObjectName) → is_none (object_of os name) ≡ false → length (bytes_of os name) ≡ name.size
live_length os name e = let l = lives os name e in ap (λ o. length (contents o)) l.found ∙ size_of name l.it l.named

-- ---- what was read

if_none_none : {A : Type 0} (c : Option Cause) (r : Result A Cause) (b : A) → if_none c r ≡ Ok b → c ≡ None
if_none_none None r b e = refl
if_none_none (Some c) r b e = absurd (let never : ⊥ = cc in never)

if_none_same : {A : Type 0} (c : Option Cause) (r : Result A Cause) (b : A) → if_none c r ≡ Ok b → r ≡ Ok b
if_none_same None r b e = e
if_none_same (Some c) r b e = absurd (let never : ⊥ = cc in never)

-- the bytes at a place, and what they are as a scalar
pub record WasRead (order : Order) (s : Scalar) (os : List Object) (name : ObjectName) (place : ℕ) (v : Value) : Type 0 where
  pub lives : is_none (object_of os name) ≡ false
  pub inside : place + bytes_in s.width ≤ length (bytes_of os name)
  pub is : scalar_of order s (take (bytes_in s.width) (drop place (bytes_of os name))) ≡ Ok v

pub was_read : (order : Order) (s : Scalar) (os : List Object) (name : ObjectName) (place : ℕ) (v : Value) → read order s os (Pointer name place) ≡ Ok v → WasRead order s os name place v
was_read order s os name place v e =
    let n : ℕ = bytes_in s.width in
    let p : Value = Pointer name place in
    let none = if_none_none (read_cause os p n n) (scalar_of order s (take n (drop place (bytes_of os name)))) v e in
    let last = (is_dead os p, Dead) ∷ [] in
    let second = (is_misaligned n p, Misaligned) ∷ last in
    let inside = first_not (is_outside n p) Outside second none in
    let dead = first_not (is_dead os p) Dead [] (first_rest (is_misaligned n p) Misaligned last (first_rest (is_outside n p) Outside second none)) in
    let size : length (bytes_of os name) ≡ name.size = live_length os name dead in
    let within : place + n ≤ name.size = not_less name.size (place + n) inside in
    record {
      lives = dead;
      inside = subst (λ (m : ℕ). place + n ≤ m) (sym size) within;
      is = if_none_same (read_cause os p n n) (scalar_of order s (take n (drop place (bytes_of os name)))) v e;
    }

taken_length : {A : Type 0} (n place : ℕ) (xs : List A) → place + n ≤ length xs → length (take n (drop place xs)) ≡ n
taken_length {A} n place xs h = omega (arith, length-take {A = A} n (drop place xs), length-drop {A = A} place xs)

-- ---- a byte

each_taken : (m n place : ℕ) (bs : List (Byte Value)) → EachIs (IsSoundByte m) bs → EachIs (IsSoundByte m) (take n (drop place bs))
each_taken m zero place bs h = tt
each_taken m (suc n) zero [] h = tt
each_taken m (suc n) zero (b ∷ bs) h = (h.0, each_taken m n zero bs h.1)
each_taken m (suc n) (suc place) [] h = tt
each_taken m (suc n) (suc place) (b ∷ bs) h = each_taken m (suc n) place bs h.1

one_number : (order : Order) (known value n : ℕ) → value < 256 → scalar_of order (record { width = One; signed = false }) (Bits known value ∷ []) ≡ Ok (Number n) → ◌≡◌ {A = Byte Value} (Bits known value) (Bits 255 n)
one_number order known value n h e =
    let bs : List (Byte Value) = Bits known value ∷ [] in
    let none = unless_none (scalar_cause order bs) (as_type (record { width = One; signed = false }) (scalar_value order bs)) (Number n) e in
    let same = unless_same (scalar_cause order bs) (as_type (record { width = One; signed = false }) (scalar_value order bs)) (Number n) e in
    let full : known ≡ 255 = eqb-true known 255 (not_false (known == 255) (or_first (not (known == 255)) false (first_not (has_unknown_bits bs) Unknown ((breaks_whole same_whole order bs, PointerBytes) ∷ []) none))) in
    ap (λ (x : ℕ). let b : Byte Value = Bits x value in b) full ∙ ap (λ (x : ℕ). let b : Byte Value = Bits 255 x in b) (value_is order same)
  where
    number_is : (a b : ℕ) → ◌≡◌ {A = Value} (Number a) (Number b) → a ≡ b
    number_is a b f = cc

    value_is : (o : Order) → as_type (record { width = One; signed = false }) (scalar_value o (Bits known value ∷ [])) ≡ Number n → value ≡ n
    value_is Big f = let g = number_is _ n f in omega (arith, h, g)
    value_is Little f = let g = number_is _ n f in omega (arith, h, g)

no_part : (order : Order) (v : Value) (place n : ℕ) → scalar_of order (record { width = One; signed = false }) (Part v place ∷ []) ≡ Ok (Number n) → ⊥
no_part order v place n e =
    let bs : List (Byte Value) = Part v place ∷ [] in
    let none = unless_none (scalar_cause order bs) (as_type (record { width = One; signed = false }) (scalar_value order bs)) (Number n) e in
    broken order (first_not (breaks_whole same_whole order bs) PointerBytes [] (first_rest (has_unknown_bits bs) Unknown ((breaks_whole same_whole order bs, PointerBytes) ∷ []) none))
  where
    never_so : (b : Bool) → is_none (if b && false then Some v else None) ≡ false → ⊥
    never_so true f = cc
    never_so false f = cc

    broken : (o : Order) → breaks_whole same_whole o (Part v place ∷ []) ≡ false → ⊥
    broken Big f = never_so (is_part_of same_whole v 0 (Part v place)) f
    broken Little f = never_so (is_part_of same_whole v 0 (Part v place)) f

byte_is : (m : ℕ) (order : Order) (bs : List (Byte Value)) (n : ℕ) → length bs ≡ 1 → EachIs (IsSoundByte m) bs → scalar_of order (record { width = One; signed = false }) bs ≡ Ok (Number n) → bs ≡ Bits 255 n ∷ []
byte_is m order [] n l s e = absurd (let never : ⊥ = omega arith in never)
byte_is m order (Bits known value ∷ []) n l s e = ap (λ (b : Byte Value). b ∷ []) (one_number order known value n s.0.1 e)
byte_is m order (Part v place ∷ []) n l s e = absurd (no_part order v place n e)
byte_is m order (b ∷ c ∷ bs) n l s e = absurd (let never : ⊥ = omega arith in never)

each_object : (m : ℕ) (os : List Object) (place : ℕ) (x : Object) → EachIs (IsSoundObject m) os → slice_get os place ≡ Some x → EachIs (IsSoundByte m) x.bytes
each_object m [] place x h e = absurd (let never : ⊥ = cc in never)
each_object m (y ∷ ys) zero x h e = let same : y ≡ x = cc in subst (λ (z : Object). EachIs (IsSoundByte m) z.bytes) same h.0.1
each_object m (y ∷ ys) (suc place) x h e = each_object m ys place x h.1 e

given_is : (r : Result Value Cause) (n : ℕ) → number_given r ≡ Some n → r ≡ Ok (Number n)
given_is (Ok (Number m)) n e = let same : m ≡ n = cc in ap (λ (x : ℕ). Ok (Number x)) same
given_is (Ok (Pointer o x)) n e = absurd (let never : ⊥ = cc in never)
given_is (Ok (Function f)) n e = absurd (let never : ⊥ = cc in never)
given_is (Err c) n e = absurd (let never : ⊥ = cc in never)

-- a number that is read as one byte is the byte that stands there
pub read_byte : (m : ℕ) (order : Order) (os : List Object) (name : ObjectName) (place n : ℕ) → EachIs (IsSoundObject m) os → number_given (read order (record { width = One; signed = false }) os (Pointer name place)) ≡ Some n → slice_get (bytes_of os name) place ≡ Some (Bits 255 n)
read_byte m order os name place n s e =
    let w = was_read order (record { width = One; signed = false }) os name place (Number n) (given_is _ n e) in
    let l = lives os name w.lives in
    let all : List (Byte Value) = bytes_of os name in
    let sound : EachIs (IsSoundByte m) all = subst (λ o. EachIs (IsSoundByte m) (contents o)) (sym l.found) (each_object m os name.place l.it s l.there) in
    let is = byte_is m order (take 1 (drop place all)) n (taken_length 1 place all w.inside) (each_taken m 1 place all sound) w.is in
    let there : Stand all place (Bits 255 n ∷ []) = subst (λ bs. Stand all place bs) is (stand_taken 1 place all) in
    there.0

-- ---- a pointer or a function

by_whole : (order : Order) (bs : List (Byte Value)) (v : Value) (o : Option Value) (m : ℕ) → length bs ≡ 4 → whole_of same_whole (by_weight order bs) ≡ o → ((n : ℕ) → v ≡ Number n → ⊥) → as_type (record { width = Four; signed = false }) (whole_or o m) ≡ v → bs ≡ part_bytes order v
by_whole order bs v None m l e h g = absurd (h _ (sym g))
by_whole order bs v (Some (Number n)) m l e h g = absurd (h _ (sym g))
by_whole order bs v (Some (Pointer o x)) m l e h g = (whole_bytes order bs (Pointer o x) l e).0 ∙ ap (λ (u : Value). part_bytes order u) g
by_whole order bs v (Some (Function f)) m l e h g = (whole_bytes order bs (Function f) l e).0 ∙ ap (λ (u : Value). part_bytes order u) g

word_is : (order : Order) (bs : List (Byte Value)) (v : Value) → length bs ≡ 4 → ((n : ℕ) → v ≡ Number n → ⊥) → scalar_of order (record { width = Four; signed = false }) bs ≡ Ok v → bs ≡ part_bytes order v
word_is order bs v l h e =
    by_whole order bs v (whole_of same_whole (by_weight order bs)) (number_of_bytes order bs) l refl h
    (unless_same (scalar_cause order bs) (as_type (record { width = Four; signed = false }) (scalar_value order bs)) v e)

-- a word that is no number: its bytes stand there
pub read_word : (order : Order) (os : List Object) (name : ObjectName) (place : ℕ) (v : Value) → ((n : ℕ) → v ≡ Number n → ⊥) → read order (record { width = Four; signed = false }) os (Pointer name place) ≡ Ok v → Stand (bytes_of os name) place (part_bytes order v)
read_word order os name place v h e =
    let w = was_read order (record { width = Four; signed = false }) os name place v e in
    let all : List (Byte Value) = bytes_of os name in
    let is = word_is order (take 4 (drop place all)) v (taken_length 4 place all w.inside) h w.is in
    subst (λ bs. Stand all place bs) is (stand_taken 4 place all)

pub part_length : (order : Order) (v : Value) → length (part_bytes order v) ≡ 4
part_length Big v = refl
part_length Little v = refl

-- ---- a word, from a place on

pub word_there : (m : Image) (order : Order) (name : ObjectName) (from : ℕ) (v : Value) (d : Datum) → order ≡ m.order → ((n : ℕ) → v ≡ Number n → ⊥) → read order (record { width = Four; signed = false }) m.objects (Pointer name from) ≡ Ok v → IsDatumOf m d (part_bytes m.order v) → IsWordAt m (bytes_of m.objects name) from d
word_there m order name from v d o h e i = record {
  value = v;
  datum = i;
  stand = subst (λ (x : Order). Stand (bytes_of m.objects name) from (part_bytes x v)) o (read_word order m.objects name from v h e);
}

pub words_there : (m : Image) (order : Order) (name : ObjectName) (from : ℕ) (v : Value) (r : Result Datum Memory) → order ≡ m.order → ((n : ℕ) → v ≡ Number n → ⊥) → read order (record { width = Four; signed = false }) m.objects (Pointer name from) ≡ Ok v → IfOk r (λ d. IsDatumOf m d (part_bytes m.order v)) → IfOk r (λ d. IsWordAt m (bytes_of m.objects name) from d)
words_there m order name from v (Ok d) o h e i = word_there m order name from v d o h e i
words_there m order name from v (Err x) o h e i = tt

-- as a stretch
pub word_stretch : (m : Image) (bytes : List (Byte Value)) (from size : ℕ) (d : Datum) → IsWordAt m bytes from d → length bytes ≡ size → from + 4 ≤ size → IsStretch m bytes from d (from + 4)
word_stretch m bytes from size d w l h = record {
  held = part_bytes m.order w.value;
  datum = w.datum;
  stand = w.stand;
  count = ap (λ (n : ℕ). from + n) (part_length m.order w.value);
  some = omega arith;
  within = omega (arith, l, h);
}
