-- Keys of forms: equal keys are of equal forms, and equal forms have equal keys, structures, unions and enumerations
-- apart, whose keys are their places.
use Rattle.std.proofs.Common.{◌≡◌, ℕ, zero, suc, ◌<◌, Bool, true, false, cond, List, [], ◌∷◌, get_or, refl, sym, ap, ◌∙◌, subst, true≢false, arith}
use Rattle.std.specs.Prelude.{Option, Some, None, Vec, slice_get, nat_eq, ◌&&◌, is_some}
use Rattle.std.specs.Option.{option_map}
use Rattle.std.specs.Map.{lookup, keys_of}
use Rattle.std.specs.Cmp.Lexicographic.{pointwise, same_text}
use Rattle.std.proofs.lemmas.Bool.Decides.{nat_tests}
use Rattle.std.specs.declared.alloc.Global.{Global}
use Rattle.c_types.specs.declared.type_form.TypeForm.{TypeForm}
use Rattle.c_types.specs.declared.type_form.TypeForm.TheVariants as form
use Rattle.c_types.specs.declared.form_key.FormKey.{FormKey}
use Rattle.c_types.specs.declared.form_key.FormKey.TheVariants as key
use Rattle.c_types.specs.contracts.form_key.FormKeyPartialEq.TheImpl as impl
use Rattle.c_types.specs.Table.{is_tagged}
use Rattle.c_types.specs.Keeps.{IsKeyOf, IsFunctionKey, is_formed}

abbrev pub eq : FormKey → FormKey → Bool
eq = impl.ghosts.eq

abbrev form_of_key : FormKey → Option TypeForm
form_of_key (key.Alone place) = None
form_of_key (key.Pointer to) = Some (form.Pointer to)
form_of_key (key.Array of n) = Some (form.Array of n)
form_of_key (key.Function r ps m) = Some (form.Function r (option_map (λ v. v.items) ps) m)
form_of_key (key.Qualified of q) = Some (form.Qualified of (record { 0 = q }))

left : (a b : Bool) → (a && b) ≡ true → a ≡ true
left true b h = refl
left false b h = h

right : (a b : Bool) → (a && b) ≡ true → b ≡ true
right true b h = h
right false b h = absurd (true≢false (sym h))

both : (a b : Bool) → a ≡ true → b ≡ true → (a && b) ≡ true
both true b h i = i
both false b h i = absurd (true≢false (sym h))

same : (a b : ℕ) → nat_eq a b ≡ true → a ≡ b
same a b h = grind (arith, nat_tests)

itself : (a : ℕ) → nat_eq a a ≡ true
itself a = grind (arith, nat_tests)

list_itself : (xs : List ℕ) → pointwise nat_eq xs xs ≡ true
list_itself [] = refl
list_itself (x ∷ xs) = both (nat_eq x x) (pointwise nat_eq xs xs) (itself x) (list_itself xs)

flag : (x y : Bool) → eq (key.Function 0 None x) (key.Function 0 None y) ≡ true → x ≡ y
flag true true h = refl
flag false false h = refl
flag true false h = absurd (true≢false (sym h))
flag false true h = absurd (true≢false (sym h))

flag_itself : (x : Bool) → eq (key.Function 0 None x) (key.Function 0 None x) ≡ true
flag_itself true = refl
flag_itself false = refl

key_forms : (k l : FormKey) → eq k l ≡ true → form_of_key k ≡ form_of_key l
key_forms (key.Alone a) (key.Alone b) h = refl
key_forms (key.Pointer a) (key.Pointer b) h = ap (λ z. Some (form.Pointer z)) (same a b h)
key_forms (key.Array a None) (key.Array b None) h = ap (λ z. Some (form.Array z None)) (same a b (left (nat_eq a b) true h))
key_forms (key.Array a (Some n)) (key.Array b (Some m)) h = rw (same a b (left (nat_eq a b) (nat_eq n m) h), same n m (right (nat_eq a b) (nat_eq n m) h)) refl
key_forms (key.Array a None) (key.Array b (Some m)) h = absurd (true≢false (sym (right (nat_eq a b) false h)))
key_forms (key.Array a (Some n)) (key.Array b None) h = absurd (true≢false (sym (right (nat_eq a b) false h)))
key_forms (key.Function a None x) (key.Function b None y) h = rw (same a b (left (nat_eq a b) _ h), flag x y (right (nat_eq a b) _ h)) refl
key_forms (key.Function a (Some v) x) (key.Function b (Some w) y) h =
    let t = right (nat_eq a b) _ h in
    let i : v.items ≡ w.items = same_text v.items w.items (sym (left (pointwise nat_eq v.items w.items) _ t)) in
    let f : x ≡ y = flag x y (right (pointwise nat_eq v.items w.items) _ t) in
    rw (same a b (left (nat_eq a b) _ h), i, f) refl
key_forms (key.Function a None x) (key.Function b (Some w) y) h = absurd (true≢false (sym (right (nat_eq a b) false h)))
key_forms (key.Function a (Some v) x) (key.Function b None y) h = absurd (true≢false (sym (right (nat_eq a b) false h)))
key_forms (key.Qualified a p) (key.Qualified b q) h = rw (same a b (left (nat_eq a b) (nat_eq p q) h), same p q (right (nat_eq a b) (nat_eq p q) h)) refl
key_forms k l h = absurd (true≢false (sym h))

key_alone : (a : ℕ) (l : FormKey) → eq (key.Alone a) l ≡ true → l ≡ key.Alone a
key_alone a (key.Alone b) h = ap key.Alone (sym (same a b h))
key_alone a l h = absurd (true≢false (sym h))

-- the key of a form that is held once
key_form : (p : ℕ) (f : TypeForm) (k : FormKey) → IsKeyOf p f k → is_tagged f ≡ false → is_formed f ≡ true → form_of_key k ≡ Some f
key_form p (form.Pointer to) k h t u = ap form_of_key h
key_form p (form.Array of n) k h t u = ap form_of_key h
key_form p (form.Qualified of q) k h t u = ap form_of_key h
key_form p (form.Function r ps m) (key.Function a qs b) h t u = rw (h.0, h.1, h.2) refl
key_form p (form.Function r ps m) (key.Alone a) h t u = absurd h
key_form p (form.Function r ps m) (key.Pointer a) h t u = absurd h
key_form p (form.Function r ps m) (key.Array a n) h t u = absurd h
key_form p (form.Function r ps m) (key.Qualified a q) h t u = absurd h
key_form p form.Structure k h t u = absurd (true≢false t)
key_form p form.Union k h t u = absurd (true≢false t)
key_form p (form.Enumeration ms) k h t u = absurd (true≢false t)
key_form p f k h t u = absurd (true≢false (sym u))

key_tagged : (p : ℕ) (f : TypeForm) (k : FormKey) → IsKeyOf p f k → is_tagged f ≡ true → k ≡ key.Alone p
key_tagged p form.Structure k h t = h
key_tagged p form.Union k h t = h
key_tagged p (form.Enumeration ms) k h t = h
key_tagged p f k h t = absurd (true≢false (sym t))

functions_same : (r : ℕ) (ps : Option (List ℕ)) (m : Bool) (a b : ℕ) (v w : Option (Vec ℕ Global)) (x y : Bool) → (a ≡ r) × (option_map (λ u. u.items) v ≡ ps) × (x ≡ m) → (b ≡ r) × (option_map (λ u. u.items) w ≡ ps) × (y ≡ m) → eq (key.Function a v x) (key.Function b w y) ≡ true
functions_same r ps m a b None None x y h i = rw (h.0, i.0, h.2, i.2) (both (nat_eq r r) _ (itself r) (flag_itself m))
functions_same r ps m a b (Some v) (Some w) x y h i =
    let e : Some v.items ≡ Some w.items = h.1 ∙ sym i.1 in
    let g : v.items ≡ w.items = cc in
    rw (h.0, i.0, h.2, i.2, g) (both (nat_eq r r) _ (itself r) (both (pointwise nat_eq w.items w.items) _ (list_itself w.items) (flag_itself m)))
functions_same r ps m a b None (Some w) x y h i = absurd (let e : None ≡ Some w.items = h.1 ∙ sym i.1 in cc)
functions_same r ps m a b (Some v) None x y h i = absurd (let e : Some v.items ≡ None = h.1 ∙ sym i.1 in cc)

array_itself : (of : ℕ) (n : Option ℕ) → eq (key.Array of n) (key.Array of n) ≡ true
array_itself of None = both (nat_eq of of) true (itself of) refl
array_itself of (Some n) = both (nat_eq of of) (nat_eq n n) (itself of) (itself n)

-- keys of one form that is held once are equal
pub same_keys : (p q : ℕ) (f : TypeForm) (k l : FormKey) → IsKeyOf p f k → IsKeyOf q f l → is_tagged f ≡ false → is_formed f ≡ true → eq k l ≡ true
same_keys p q (form.Pointer to) k l h i t u = rw (h, i) (itself to)
same_keys p q (form.Array of n) k l h i t u = rw (h, i) (array_itself of n)
same_keys p q (form.Qualified of z) k l h i t u = rw (h, i) (both (nat_eq of of) (nat_eq z.0 z.0) (itself of) (itself z.0))
same_keys p q (form.Function r ps m) (key.Function a v x) (key.Function b w y) h i t u = functions_same r ps m a b v w x y h i
same_keys p q (form.Function r ps m) (key.Function a v x) (key.Alone b) h i t u = absurd i
same_keys p q (form.Function r ps m) (key.Function a v x) (key.Pointer b) h i t u = absurd i
same_keys p q (form.Function r ps m) (key.Function a v x) (key.Array b n) h i t u = absurd i
same_keys p q (form.Function r ps m) (key.Function a v x) (key.Qualified b n) h i t u = absurd i
same_keys p q (form.Function r ps m) (key.Alone a) l h i t u = absurd h
same_keys p q (form.Function r ps m) (key.Pointer a) l h i t u = absurd h
same_keys p q (form.Function r ps m) (key.Array a n) l h i t u = absurd h
same_keys p q (form.Function r ps m) (key.Qualified a n) l h i t u = absurd h
same_keys p q form.Structure k l h i t u = absurd (true≢false t)
same_keys p q form.Union k l h i t u = absurd (true≢false t)
same_keys p q (form.Enumeration ms) k l h i t u = absurd (true≢false t)
same_keys p q f k l h i t u = absurd (true≢false (sym u))

alone_keys : (p q : ℕ) (g : TypeForm) (l : FormKey) → IsKeyOf q g l → is_formed g ≡ true → l ≡ key.Alone p → q ≡ p
alone_keys p q (form.Pointer to) l i u e = absurd (let c : key.Pointer to ≡ key.Alone p = sym i ∙ e in cc)
alone_keys p q (form.Array of n) l i u e = absurd (let c : key.Array of n ≡ key.Alone p = sym i ∙ e in cc)
alone_keys p q (form.Qualified of z) l i u e = absurd (let c : key.Qualified of z.0 ≡ key.Alone p = sym i ∙ e in cc)
alone_keys p q (form.Function r ps m) l i u e = absurd (subst (IsFunctionKey r ps m) e i)
alone_keys p q form.Structure l i u e = let c : key.Alone q ≡ key.Alone p = sym i ∙ e in cc
alone_keys p q form.Union l i u e = let c : key.Alone q ≡ key.Alone p = sym i ∙ e in cc
alone_keys p q (form.Enumeration ms) l i u e = let c : key.Alone q ≡ key.Alone p = sym i ∙ e in cc
alone_keys p q g l i u e = absurd (true≢false (sym u))

-- equal keys at different places are of one form, which is held once
pub same_forms : (p q : ℕ) (f g : TypeForm) (k l : FormKey) → IsKeyOf p f k → IsKeyOf q g l → is_formed f ≡ true → is_formed g ≡ true → q < p → eq k l ≡ true → (is_tagged f ≡ false) × (f ≡ g)
same_forms p q f g k l h i u v d e = by (is_tagged f) (is_tagged g) refl refl
  where
    by : (a b : Bool) → is_tagged f ≡ a → is_tagged g ≡ b → (is_tagged f ≡ false) × (f ≡ g)
    by true b s t =
        let m : l ≡ key.Alone p = key_alone p l (ap (λ z. eq z l) (sym (key_tagged p f k h s)) ∙ e) in
        let r : q ≡ p = alone_keys p q g l i v m in
        absurd (omega arith)
    by false true s t =
        let n : form_of_key l ≡ None = ap form_of_key (key_tagged q g l i t) in
        let x : Some f ≡ None = sym (key_form p f k h s u) ∙ key_forms k l e ∙ n in
        absurd (cc)
    by false false s t =
        let x : Some f ≡ Some g = sym (key_form p f k h s u) ∙ key_forms k l e ∙ key_form q g l i t v in
        (s, cc)

pub key_at : {V : Type 0} (es : List (FormKey × V)) (i : ℕ) (d : FormKey) (e : FormKey × V) → slice_get es i ≡ Some e → get_or (keys_of es) i d ≡ e.0
key_at [] i d e h = absurd (cc)
key_at (x ∷ es) zero d e h = let c : x ≡ e = cc in ap (λ z. z.0) c
key_at (x ∷ es) (suc i) d e h = key_at es i d e h

pub lookup_none : {V : Type 0} (test : FormKey → Bool) (es : List (FormKey × V)) (i : ℕ) (e : FormKey × V) → slice_get es i ≡ Some e → lookup test es ≡ None → test e.0 ≡ true → ⊥
lookup_none test [] i e h n t = cc
lookup_none test (x ∷ es) zero e h n t =
    let c : x ≡ e = cc in
    let s : Some x.1 ≡ None = sym (ap (λ b. cond b (Some x.1) (lookup test es)) (ap (λ z. test z.0) c ∙ t)) ∙ n in
    cc
lookup_none {V} test (x ∷ es) (suc i) e h n t = by (test x.0) refl (lookup_none test es i e h)
  where
    by : (b : Bool) → test x.0 ≡ b → (lookup test es ≡ None → test e.0 ≡ true → ⊥) → ⊥
    by true p rest = let s : Some x.1 ≡ None = sym (ap (λ b. cond b (Some x.1) (lookup test es)) p) ∙ n in cc
    by false p rest = rest (sym (ap (λ b. cond b (Some x.1) (lookup test es)) p) ∙ n) t

pub none_of : {A : Type 0} (o : Option A) → false ≡ is_some o → o ≡ None
none_of None h = refl
none_of (Some x) h = absurd (true≢false (sym h))
