-- Composite types one by one: what their parts give, in a table that grows.
use Rattle.std.proofs.Common.{◌≡◌, inl, inr, ℕ, zero, suc, ◌+◌, ◌<◌, ◌≤◌, Bool, true, false, List, [], ◌∷◌, ◌++◌, length, drop, get_or, refl, sym, ap, ◌∙◌, true≢false, append_assoc, drop_of_length-le, arith}
use Rattle.std.specs.Prelude.{◌⊎◌, All, Contains, Some, None, Option, ◌&&◌, bit_or, is_some, if◌then◌else◌, Result, Ok, Err, IfOk, OnOk}
use Rattle.std.proofs.lemmas.List.Elements.{All-contains, All-weaker}
use Rattle.std.proofs.lemmas.List.{drop_more, length-append}
use Rattle.c_types.specs.declared.type_form.TypeForm.{TypeForm}
use Rattle.c_types.specs.declared.type_form.TypeForm.TheVariants as form
use Rattle.c_types.specs.declared.type_form.Enumerator.{Enumerator}
use Rattle.c_types.specs.declared.type_fault.TypeFault.{TypeFault}
use Rattle.c_types.specs.declared.extent.Extent.{Extent}
use Rattle.c_types.specs.CType.{CType, Plain, Array, Kind, Simple, Pointer, Function, Structure, Union, Enumeration, Parameters, Open, Listed, CTypes, NoType, And, qualify, unqualified, parameters_weight}
use Rattle.c_types.specs.Compatible.{is_int}
use Rattle.c_types.specs.Composite.{composite, kinds_composite, parameters_composite, all_composite, known_length}
use Rattle.c_types.specs.Layout.{Tag}
use Rattle.c_types.specs.Readings.{is_array, is_enumeration, is_function, is_pointer}
use Rattle.c_types.specs.Table.{Table, Completed, Adds, AreBelow, AreSomeBelow, Extends, Grows, counted, formed, is_qualified, is_tagged, parameters_in, tag_of, tagged, tags, tags_of, type_at, type_in, types, types_in}
use Rattle.c_types.proofs.lemmas.Extending.{extends_longer}
use Rattle.c_types.specs.Facts.{AreMade, IsMade, first_composite}
use Rattle.c_types.proofs.lemmas.Qualifying.{qualify_none}
use Rattle.c_types.proofs.Alike.{and_true}
use Rattle.c_types.proofs.Bare.{IsBare, is_int_type}
use Rattle.c_types.proofs.Below.{below_more, some_below_more}
use Rattle.c_types.proofs.Pairs.{still_all}
use Rattle.c_types.proofs.Placed.{extends_itself}

-- ---- a table that grows

tags_long : (t : Table) (cs : List Completed) → length (tags_of t cs) ≡ length cs
tags_long t [] = refl
tags_long t (c ∷ cs) = let h = tags_long t cs in omega (arith, h, length-append (tags_of t cs) (tag_of t c ∷ []))

none_longer : (xs ys zs : List Tag) → zs ≡ xs ++ ys → length zs ≡ length ys → zs ≡ ys
none_longer [] ys zs e l = e
none_longer (x ∷ xs) ys zs e l = absurd (omega (arith, l, ap length e, length-append xs ys))

-- where nothing is completed, what was defined stays
same_tags : (a b : Table) → Extends a b → b.completed ≡ a.completed → tags b ≡ tags a
same_tags a b h e =
    none_longer h.tags_stay.0 (tags a) (tags b) h.tags_stay.1
    (tags_long b b.completed ∙ ap (λ (cs : List Completed). length cs) e ∙ sym (tags_long a a.completed))

tagged-push : (fs : List TypeForm) (f : TypeForm) → tagged (fs ++ f ∷ []) ≡ tagged fs + counted f
tagged-push [] f = omega arith
tagged-push (g ∷ fs) f = let h = tagged-push fs f in omega (arith, h)

pub grows_itself : (t : Table) → Grows t t
grows_itself t = record { extends = extends_itself t; completed = refl; tags_same = refl; count_same = refl }

pub extends_twice : (a b c : Table) → Extends a b → Extends b c → Extends a c
extends_twice a b c h k =
    let n : length a.forms ≤ length b.forms = omega (arith, ap length h.forms.1, length-append a.forms h.forms.0) in
    record {
      forms = (h.forms.0 ++ k.forms.0, k.forms.1 ∙ ap (λ (fs : List TypeForm). fs ++ k.forms.0) h.forms.1 ∙ append_assoc a.forms h.forms.0 k.forms.0);
      completed = (h.completed.0 ++ k.completed.0, k.completed.1 ∙ ap (λ (cs : List Completed). cs ++ k.completed.0) h.completed.1 ∙ append_assoc a.completed h.completed.0 k.completed.0);
      types_stay = λ id l. k.types_stay id (omega (arith, l, n)) ∙ h.types_stay id l;
      tags_stay = (k.tags_stay.0 ++ h.tags_stay.0, k.tags_stay.1 ∙ ap (λ (ts : List Tag). k.tags_stay.0 ++ ts) h.tags_stay.1 ∙ sym (append_assoc k.tags_stay.0 h.tags_stay.0 (tags a)));
      sizes_stay = λ n s. k.sizes_stay n (ap (λ (e : Extent). is_some e.size) (h.sizes_stay n s) ∙ s) ∙ h.sizes_stay n s;
    }

pub grows_twice : (a b c : Table) → Grows a b → Grows b c → Grows a c
grows_twice a b c h k =
    record {
      extends = extends_twice a b c h.extends k.extends;
      completed = k.completed ∙ h.completed;
      tags_same = k.tags_same ∙ h.tags_same;
      count_same = k.count_same ∙ h.count_same;
    }

added_only : (a b : Table) (f : TypeForm) (id : ℕ) → Adds a f id b → b.completed ≡ a.completed
added_only a b f id h = elim h [ inl x ↦ ap (λ (t : Table). t.completed) x.2 | inr y ↦ ap (λ (t : Table). t.completed) y.2 ]

count_added : (a b : Table) (f : TypeForm) (id : ℕ) → is_tagged f ≡ false → Adds a f id b → tagged b.forms ≡ tagged a.forms
count_added a b f id u h =
    elim h [
      | inl x ↦ ap (λ (t : Table). tagged t.forms) x.2
      | inr y ↦ ap (λ (t : Table). tagged t.forms) y.2 ∙ tagged-push a.forms f ∙ (let e : counted f ≡ 0 = ap (λ b. if b then 1 else 0) u in omega (arith, e))
    ]

pub grows_add : (a b : Table) (f : TypeForm) (id : ℕ) → is_tagged f ≡ false → Adds a f id b → Extends a b → Grows a b
grows_add a b f id u h e =
    let o = added_only a b f id h in
    record { extends = e; completed = o; tags_same = same_tags a b e o; count_same = count_added a b f id u h }

pub result_grows : (a b : Table) (f : TypeForm) (r : Result ℕ TypeFault) → IfOk r (λ id. Adds a f id b) → OnOk r (Extends a b) → OnOk r (is_tagged f ≡ false → Grows a b)
result_grows a b f (Ok id) h e = λ u. grows_add a b f id u h e
result_grows a b f (Err x) h e = tt

pub longer : (a b : Table) → Grows a b → length a.forms ≤ length b.forms
longer a b h = extends_longer a b h.extends

pub still_below : (a b : Table) → Grows a b → (ids : List ℕ) → AreBelow (length a.forms) ids → AreBelow (length b.forms) ids
still_below a b h ids l = below_more (length a.forms) (length b.forms) (longer a b h) ids l

pub still_some_below : (a b : Table) → Grows a b → (ids : Option (List ℕ)) → AreSomeBelow (length a.forms) ids → AreSomeBelow (length b.forms) ids
still_some_below a b h ids l = some_below_more (length a.forms) (length b.forms) (longer a b h) ids l

pub same_types : (a b : Table) → Grows a b → (ids : List ℕ) → AreBelow (length a.forms) ids → types_in (types b) ids ≡ types_in (types a) ids
same_types a b h [] l = refl
same_types a b h (id ∷ ids) l = rw (h.extends.types_stay id l.0, same_types a b h ids l.1) refl

pub same_parameters : (a b : Table) → Grows a b → (ids : Option (List ℕ)) (m : Bool) → AreSomeBelow (length a.forms) ids → parameters_in (types b) ids m ≡ parameters_in (types a) ids m
same_parameters a b h None m l = refl
same_parameters a b h (Some ids) m l = ap (λ (ts : CTypes). Listed ts m) (same_types a b h ids l)

-- the composites that were made stay so
pub still_made : (a b : Table) → Grows a b → (es : List ((ℕ × ℕ) × ℕ)) → AreMade a es → AreMade b es
still_made a b g es h = record { all = All-weaker (IsMade a) (IsMade b) by es h.all }
  where
    by : (e : (ℕ × ℕ) × ℕ) → IsMade a e → IsMade b e
    by e x =
        let n = longer a b g in
        let s = g.extends.types_stay in
        record {
          first = omega (arith, n, x.first);
          second = omega (arith, n, x.second);
          within = omega (arith, n, x.within);
          means = s e.1 x.within ∙ x.means ∙ sym (ap (λ (z : CType). composite z (type_at b e.0.1)) (s e.0.0 x.first) ∙ ap (composite (type_at a e.0.0)) (s e.0.1 x.second));
        }

pub one_made : (a b : Table) → Grows a b → (old new : List ((ℕ × ℕ) × ℕ)) (x y id : ℕ) → AreMade b old → x < length a.forms → y < length a.forms → id < length b.forms → type_at b id ≡ composite (type_at a x) (type_at a y) →
    All (λ e. Contains old e ⊎ (e ≡ ((x, y), id))) new → AreMade b new
one_made a b g old new x y id h k l w m n =
    let c = longer a b g in
    let s = g.extends.types_stay in
    let p : IsMade b ((x, y), id) = record {
      first = omega (arith, c, k);
      second = omega (arith, c, l);
      within = w;
      means = m ∙ sym (ap (λ (z : CType). composite z (type_at b y)) (s x k) ∙ ap (composite (type_at a x)) (s y l));
    } in
    record { all = still_all (IsMade b) old new ((x, y), id) h.all p n }

pub made_among : (t : Table) (es : List ((ℕ × ℕ) × ℕ)) (x y id : ℕ) → AreMade t es → Contains es ((x, y), id) → IsMade t ((x, y), id)
made_among t es x y id h c = All-contains (IsMade t) es ((x, y), id) h.all c

-- ---- a type and itself

known_same : (n : Option ℕ) → known_length n n ≡ n
known_same None = refl
known_same (Some n) = refl

mutual
  composite_same : (p q : ℕ) (s : CType) → composite (qualify p s) (qualify q s) ≡ qualify p s
  composite_same p q (Plain r k) = ap (λ z. Plain (bit_or r p) z) (kinds_same k)
  composite_same p q (Array of n) = ap (λ z. Array z (known_length n n)) (composite_same p q of) ∙ ap (Array (qualify p of)) (known_same n)

  kinds_same : (k : Kind) → kinds_composite k k ≡ k
  kinds_same (Simple b) = refl
  kinds_same (Pointer to) = ap Pointer (composite_itself to)
  kinds_same (Function r ps) = ap (λ z. Function z (parameters_composite ps ps)) (composite_itself r) ∙ ap (Function r) (parameters_same ps)
  kinds_same (Structure n) = refl
  kinds_same (Union n) = refl
  kinds_same (Enumeration n) = refl

  composite_itself : (s : CType) → composite s s ≡ s
  composite_itself (Plain r k) = ap (Plain r) (kinds_same k)
  composite_itself (Array of n) = ap (λ z. Array z (known_length n n)) (composite_itself of) ∙ ap (Array of) (known_same n)

  parameters_same : (ps : Parameters) → parameters_composite ps ps ≡ ps
  parameters_same Open = refl
  parameters_same (Listed ps more) = ap (λ z. Listed z more) (all_same ps)

  all_same : (ps : CTypes) → all_composite ps ps ≡ ps
  all_same NoType = refl
  all_same (And p ps) = ap (λ z. And z (all_composite ps ps)) (composite_itself p) ∙ ap (And p) (all_same ps)

-- ---- what stands under the qualifiers of two types

pub under_same : (p0 q0 p q : ℕ) (s0 u0 s u : CType) → qualify p0 s0 ≡ qualify p s → qualify q0 u0 ≡ qualify q u → s ≡ u → qualify p s ≡ composite (qualify p0 s0) (qualify q0 u0)
under_same p0 q0 p q s0 u0 s u e g h =
    sym (ap (λ z. composite z (qualify q0 u0)) e ∙ ap (composite (qualify p s)) g ∙ ap (λ z. composite (qualify p s) (qualify q z)) (sym h) ∙ composite_same p q s)

pub under_arrays : (p0 q0 p q : ℕ) (s0 u0 s u of other : CType) (n m : Option ℕ) → qualify p0 s0 ≡ qualify p s → qualify q0 u0 ≡ qualify q u → s ≡ Array of n → u ≡ Array other m →
    Array (composite (qualify p of) (qualify q other)) (known_length n m) ≡ composite (qualify p0 s0) (qualify q0 u0)
under_arrays p0 q0 p q s0 u0 s u of other n m e g h i =
    sym (ap (λ z. composite z (qualify q0 u0)) e ∙ ap (composite (qualify p s)) g ∙ ap (λ z. composite (qualify p z) (qualify q u)) h ∙ ap (λ z. composite (qualify p (Array of n)) (qualify q z)) i)

array_first : (p q : ℕ) (of u : CType) (n : Option ℕ) → is_array u ≡ false → composite (qualify p (Array of n)) (qualify q u) ≡ qualify p (Array of n)
array_first p q of (Plain r k) n h = refl
array_first p q of (Array x m) n h = absurd (true≢false h)

pub under_array : (p0 q0 p q : ℕ) (s0 u0 s u of : CType) (n : Option ℕ) → qualify p0 s0 ≡ qualify p s → qualify q0 u0 ≡ qualify q u → s ≡ Array of n → is_array u ≡ false → qualify p s ≡ composite (qualify p0 s0) (qualify q0 u0)
under_array p0 q0 p q s0 u0 s u of n e g h i =
    sym (ap (λ z. composite z (qualify q0 u0)) e ∙ ap (composite (qualify p s)) g ∙ ap (λ z. composite (qualify p z) (qualify q u)) h ∙ array_first p q of u n i ∙ ap (qualify p) (sym h))

kinds_under : (p q : ℕ) (s u : CType) → is_array s ≡ false → composite (qualify p s) (qualify q u) ≡ qualify p (composite s u)
kinds_under p q (Plain a k) (Plain b l) n = refl
kinds_under p q (Plain a k) (Array of m) n = refl
kinds_under p q (Array of m) u n = absurd (true≢false n)

pub under_kinds : (p0 q0 p q : ℕ) (s0 u0 s u : CType) → qualify p0 s0 ≡ qualify p s → qualify q0 u0 ≡ qualify q u → is_array s ≡ false → qualify p (composite s u) ≡ composite (qualify p0 s0) (qualify q0 u0)
under_kinds p0 q0 p q s0 u0 s u e g n = sym (ap (λ z. composite z (qualify q0 u0)) e ∙ ap (composite (qualify p s)) g ∙ kinds_under p q s u n)

-- ---- kinds

-- a pointer and no pointer, or no pointer at all
pub pointer_first : (s u a : CType) → s ≡ Plain 0 (Pointer a) → is_pointer u ≡ false → s ≡ composite s u
pointer_first s u a e n = e ∙ sym (ap (λ z. composite z u) e ∙ by u n)
  where
    by : (u : CType) → is_pointer u ≡ false → composite (Plain 0 (Pointer a)) u ≡ Plain 0 (Pointer a)
    by (Plain q (Simple b)) n = refl
    by (Plain q (Pointer to)) n = absurd (true≢false n)
    by (Plain q (Function r ps)) n = refl
    by (Plain q (Structure m)) n = refl
    by (Plain q (Union m)) n = refl
    by (Plain q (Enumeration m)) n = refl
    by (Array of m) n = refl

pub function_first : (s u r : CType) (ps : Parameters) → s ≡ Plain 0 (Function r ps) → is_function u ≡ false → s ≡ composite s u
function_first s u r ps e n = e ∙ sym (ap (λ z. composite z u) e ∙ by u n)
  where
    by : (u : CType) → is_function u ≡ false → composite (Plain 0 (Function r ps)) u ≡ Plain 0 (Function r ps)
    by (Plain q (Simple b)) n = refl
    by (Plain q (Pointer to)) n = refl
    by (Plain q (Function x qs)) n = absurd (true≢false n)
    by (Plain q (Structure m)) n = refl
    by (Plain q (Union m)) n = refl
    by (Plain q (Enumeration m)) n = refl
    by (Array of m) n = refl

-- int beside an enumeration
abbrev pub meets_enumeration : CType → CType → Bool
meets_enumeration s u = is_int_type s && is_enumeration u

other_plain : (q : ℕ) (k : Kind) (u : CType) → is_pointer (Plain q k) ≡ false → is_function (Plain q k) ≡ false → meets_enumeration (Plain q k) u ≡ false → composite (Plain q k) u ≡ Plain q k
other_plain q k (Array of m) n f h = refl
other_plain q (Simple b) (Plain r (Simple x)) n f h = refl
other_plain q (Simple b) (Plain r (Pointer to)) n f h = refl
other_plain q (Simple b) (Plain r (Function x ps)) n f h = refl
other_plain q (Simple b) (Plain r (Structure m)) n f h = refl
other_plain q (Simple b) (Plain r (Union m)) n f h = refl
other_plain q (Simple b) (Plain r (Enumeration m)) n f h = ap (λ z. Plain q (if z then Enumeration m else Simple b)) (sym (and_true (is_int (Simple b))) ∙ h)
other_plain q (Pointer to) (Plain r l) n f h = absurd (true≢false n)
other_plain q (Function x ps) (Plain r l) n f h = absurd (true≢false f)
other_plain q (Structure m) (Plain r l) n f h = refl
other_plain q (Union m) (Plain r l) n f h = refl
other_plain q (Enumeration m) (Plain r l) n f h = refl

pub other_first : (s u : CType) → is_array s ≡ false → is_pointer s ≡ false → is_function s ≡ false → meets_enumeration s u ≡ false → s ≡ composite s u
other_first (Plain q k) u a n f h = sym (other_plain q k u n f h)
other_first (Array of m) u a n f h = absurd (true≢false a)

-- what isn't the form of an enumeration
pub no_enumeration : (ts : List CType) (n : ℕ) (f : TypeForm) → is_qualified f ≡ false → ((ms : List Enumerator) → f ≡ form.Enumeration ms → ⊥) → is_enumeration (formed ts n f) ≡ false
no_enumeration ts n form.Void q h = refl
no_enumeration ts n form.Char q h = refl
no_enumeration ts n form.SignedChar q h = refl
no_enumeration ts n form.UnsignedChar q h = refl
no_enumeration ts n form.Short q h = refl
no_enumeration ts n form.UnsignedShort q h = refl
no_enumeration ts n form.Int q h = refl
no_enumeration ts n form.Unsigned q h = refl
no_enumeration ts n form.Long q h = refl
no_enumeration ts n form.UnsignedLong q h = refl
no_enumeration ts n (form.Pointer to) q h = refl
no_enumeration ts n (form.Array of m) q h = refl
no_enumeration ts n (form.Function r ps m) q h = refl
no_enumeration ts n form.Structure q h = refl
no_enumeration ts n form.Union q h = refl
no_enumeration ts n (form.Enumeration ms) q h = absurd (h ms refl)
no_enumeration ts n (form.Qualified of p) q h = absurd (true≢false q)

-- an enumeration beside int
int_composite : (s : CType) (n : ℕ) → is_int_type s ≡ true → IsBare s → composite s (Plain 0 (Enumeration n)) ≡ Plain 0 (Enumeration n)
int_composite (Plain q (Simple b)) n h e = ap (λ z. Plain z (if is_int (Simple b) then Enumeration n else Simple b)) e ∙ ap (λ z. Plain 0 (if z then Enumeration n else Simple b)) h
int_composite (Plain q (Pointer to)) n h e = absurd (true≢false (sym h))
int_composite (Plain q (Function r ps)) n h e = absurd (true≢false (sym h))
int_composite (Plain q (Structure m)) n h e = absurd (true≢false (sym h))
int_composite (Plain q (Union m)) n h e = absurd (true≢false (sym h))
int_composite (Plain q (Enumeration m)) n h e = absurd (true≢false (sym h))
int_composite (Array of m) n h e = absurd (true≢false (sym h))

pub enumeration_first : (s u : CType) (n : ℕ) → is_int_type s ≡ true → IsBare s → u ≡ Plain 0 (Enumeration n) → u ≡ composite s u
enumeration_first s u n h b e = e ∙ sym (ap (composite s) e ∙ int_composite s n h b)

-- ---- parameters

-- a parameter's composite has no qualifiers of its own
pub unqualified_composite : (s u : CType) → unqualified (composite (unqualified s) (unqualified u)) ≡ composite (unqualified s) (unqualified u)
unqualified_composite (Plain p k) (Plain q l) = refl
unqualified_composite (Plain p k) (Array of n) = refl
unqualified_composite (Array of n) (Plain q l) = refl
unqualified_composite (Array of n) (Array other m) = refl

abbrev pub joined : CTypes → CTypes → CTypes
joined NoType us = us
joined (And s ss) us = And s (joined ss us)

joined_push : (ts : List CType) (ids : List ℕ) (id : ℕ) (us : CTypes) → joined (types_in ts (ids ++ id ∷ [])) us ≡ joined (types_in ts ids) (And (unqualified (type_in ts id)) us)
joined_push ts [] id us = refl
joined_push ts (x ∷ ids) id us = ap (And (unqualified (type_in ts x))) (joined_push ts ids id us)

pub joined_none : (ss : CTypes) → joined ss NoType ≡ ss
joined_none NoType = refl
joined_none (And s ss) = ap (And s) (joined_none ss)

none_behind : (ss : CTypes) → all_composite ss NoType ≡ ss
none_behind NoType = refl
none_behind (And s ss) = refl

-- one parameter more
all_more : (ts : List CType) (x : ℕ) (a b : List ℕ) → all_composite (types_in ts (x ∷ a)) (types_in ts b) ≡ And (first_composite (unqualified (type_in ts x)) (types_in ts b)) (all_composite (types_in ts a) (types_in ts (drop 1 b)))
all_more ts x a [] = ap (And (unqualified (type_in ts x))) (sym (none_behind (types_in ts a)))
all_more ts x a (y ∷ b) = refl

nothing_left : (i : ℕ) → drop {A = ℕ} i [] ≡ []
nothing_left zero = refl
nothing_left (suc i) = refl

drop_next : (b : List ℕ) (i : ℕ) → drop 1 (drop i b) ≡ drop (i + 1) b
drop_next b zero = refl
drop_next [] (suc i) = sym (nothing_left (suc i + 1))
drop_next (y ∷ b) (suc i) = let e : suc i + 1 ≡ suc (i + 1) = omega arith in drop_next b i ∙ ap (λ n. drop n (y ∷ b)) (sym e)

pub one_composed : (t old new : Table) (a b ids : List ℕ) (i d id : ℕ) → Grows old new → AreBelow (length old.forms) ids → i < length a →
    unqualified (type_at new id) ≡ first_composite (unqualified (type_at t (get_or a i d))) (types_in (types t) (drop i b)) →
    joined (types_in (types old) ids) (all_composite (types_in (types t) (drop i a)) (types_in (types t) (drop i b))) ≡ all_composite (types_in (types t) a) (types_in (types t) b) →
    joined (types_in (types new) (ids ++ id ∷ [])) (all_composite (types_in (types t) (drop (i + 1) a)) (types_in (types t) (drop (i + 1) b))) ≡ all_composite (types_in (types t) a) (types_in (types t) b)
one_composed t old new a b ids i d id g l w m h =
    let T = types t in
    let x = get_or a i d in
    let rest = all_composite (types_in T (drop (i + 1) a)) (types_in T (drop (i + 1) b)) in
    let k : drop i a ≡ x ∷ drop (i + 1) a = drop_more a i d w in
    let s : all_composite (types_in T (drop i a)) (types_in T (drop i b)) ≡ And (unqualified (type_at new id)) rest =
    ap (λ (xs : List ℕ). all_composite (types_in T xs) (types_in T (drop i b))) k ∙ all_more T x (drop (i + 1) a) (drop i b)
    ∙ ap (λ z. And z (all_composite (types_in T (drop (i + 1) a)) (types_in T (drop 1 (drop i b))))) (sym m)
    ∙ ap (λ (xs : List ℕ). And (unqualified (type_at new id)) (all_composite (types_in T (drop (i + 1) a)) (types_in T xs))) (drop_next b i) in
    joined_push (types new) ids id rest ∙ ap (λ z. joined z (And (unqualified (type_at new id)) rest)) (same_types old new g ids l)
    ∙ ap (joined (types_in (types old) ids)) (sym s) ∙ h

pub all_composed : (t new : Table) (a b ids : List ℕ) (i : ℕ) → length a ≤ i →
    joined (types_in (types new) ids) (all_composite (types_in (types t) (drop i a)) (types_in (types t) (drop i b))) ≡ all_composite (types_in (types t) a) (types_in (types t) b) →
    types_in (types new) ids ≡ all_composite (types_in (types t) a) (types_in (types t) b)
all_composed t new a b ids i l h =
    let e : all_composite (types_in (types t) (drop i a)) (types_in (types t) (drop i b)) ≡ NoType = ap (λ (xs : List ℕ). all_composite (types_in (types t) xs) (types_in (types t) (drop i b))) (drop_of_length-le a {i = i} l) ∙ nothing (types_in (types t) (drop i b)) in
    sym (ap (joined (types_in (types new) ids)) e ∙ joined_none (types_in (types new) ids)) ∙ h
  where
    nothing : (us : CTypes) → all_composite NoType us ≡ NoType
    nothing NoType = refl
    nothing (And u us) = refl

pub below_push : (n : ℕ) (ids : List ℕ) (id : ℕ) → AreBelow n ids → id < n → AreBelow n (ids ++ id ∷ [])
below_push n [] id h l = (l, tt)
below_push n (x ∷ ids) id h l = (h.0, below_push n ids id h.1 l)

pub below_drop : (n : ℕ) (ids : List ℕ) (i : ℕ) → AreBelow n ids → AreBelow n (drop i ids)
below_drop n ids zero h = h
below_drop n [] (suc i) h = tt
below_drop n (x ∷ ids) (suc i) h = below_drop n ids i h.1

-- ---- pointers and functions

pub pointers_composed : (s u a b : CType) (p q : ℕ) → s ≡ Plain 0 (Pointer a) → u ≡ Plain 0 (Pointer b) → p ≡ 0 → q ≡ 0 → Plain 0 (Pointer (composite (qualify p a) (qualify q b))) ≡ composite s u
pointers_composed s u a b p q e g z y =
    ap (λ x. Plain 0 (Pointer (composite (qualify x a) (qualify q b)))) z ∙ ap (λ x. Plain 0 (Pointer (composite (qualify 0 a) (qualify x b)))) y
    ∙ ap (λ x. Plain 0 (Pointer (composite x (qualify 0 b)))) (qualify_none a) ∙ ap (λ x. Plain 0 (Pointer (composite a x))) (qualify_none b)
    ∙ sym (ap (λ x. composite x u) e ∙ ap (composite (Plain 0 (Pointer a))) g)

pub results_composed : (a b : CType) (p q : ℕ) → p ≡ 0 → q ≡ 0 → composite (qualify p a) (qualify q b) ≡ composite a b
results_composed a b p q z y =
    ap (λ x. composite (qualify x a) (qualify q b)) z ∙ ap (λ x. composite (qualify 0 a) (qualify x b)) y ∙ ap (λ x. composite x (qualify 0 b)) (qualify_none a) ∙ ap (composite a) (qualify_none b)

pub more_weight : (ts : List CType) (ids : Option (List ℕ)) (m n : Bool) → parameters_weight (parameters_in ts ids m) ≡ parameters_weight (parameters_in ts ids n)
more_weight ts None m n = refl
more_weight ts (Some ids) m n = refl
