-- Laws of an access that goes to an object: what it reads and stores there.
use Rattle.std.proofs.Common.{◌≡◌, ◌≤◌, ◌<◌, ◌⊎◌, inl, inr, ℕ, ◌+◌, ◌==◌, ◌&&◌, not, nat_lt, Bool, true, false, List, length, take, drop, Some, None, slice_get, refl, sym, ap, subst, ◌∙◌, arith, if◌then◌else◌}
use Rattle.std.proofs.lemmas.Bool.{eqb-true, eq-eqb}
use Rattle.std.proofs.lemmas.Option.{slice_get_within}
use Rattle.objects.specs.declared.byte.Byte.{Byte}
use Rattle.objects.specs.declared.value.ObjectName.{ObjectName}
use Rattle.objects.specs.declared.value.Value.{Value}
use Rattle.objects.specs.declared.value.Value.TheVariants.{Pointer}
use Rattle.objects.proofs.lemmas.AccessLaws.{size_of, not_less}
use Rattle.objects.specs.Accesses.{bytes_through, stored_through}
use Rattle.objects.specs.Causes.{is_read_only, overlaps_in_part}
use Rattle.objects.specs.Objects.{Object, is_named, if_named, object_of, contents, is_constant, stored}
use Rattle.objects.specs.Places.{GoesTo}
use Rattle.objects.specs.Values.{same_object}

pub within : (objects : List Object) (p : Value) (size place offset : ℕ) → GoesTo objects p size place offset → place < length objects
within objects p size place offset g = slice_get_within objects place g.it g.lives

contents_is : (objects : List Object) (p : Value) (size place offset : ℕ) → (g : GoesTo objects p size place offset) → contents (slice_get objects place) ≡ g.it.bytes
contents_is objects p size place offset g = ap (λ o. contents o) g.lives

pub inside : (objects : List Object) (p : Value) (size place offset : ℕ) → GoesTo objects p size place offset → offset + size ≤ length (contents (slice_get objects place))
inside objects p size place offset g =
    let long = ap length (contents_is objects p size place offset g) ∙ size_of g.name g.it g.named in
    omega (arith, long, g.inside)

found : (objects : List Object) (p : Value) (size place offset : ℕ) → (g : GoesTo objects p size place offset) → object_of objects g.name ≡ Some g.it
found objects p size place offset g =
    ap (λ (k : ℕ). if_named g.name (slice_get objects k)) g.stands
    ∙ ap (λ o. if_named g.name o) g.lives
    ∙ ap (λ (b : Bool). if b then Some g.it else None) g.named

pub reads : (objects : List Object) (p : Value) (size place offset : ℕ) → GoesTo objects p size place offset → bytes_through objects p size ≡ take size (drop offset (contents (slice_get objects place)))
reads objects p size place offset g =
    ap (λ q. bytes_through objects q size) g.points
    ∙ ap (λ o. take size (drop offset (contents o))) (found objects p size place offset g)
    ∙ sym (ap (λ o. take size (drop offset (contents o))) g.lives)

pub stores : (objects : List Object) (p : Value) (size place offset : ℕ) (new : List (Byte Value)) → GoesTo objects p size place offset → stored_through objects p new ≡ stored objects place offset new
stores objects p size place offset new g = ap (λ q. stored_through objects q new) g.points ∙ ap (λ (k : ℕ). stored objects k offset new) g.stands

pub read_only : (objects : List Object) (p : Value) (size place offset : ℕ) → GoesTo objects p size place offset → is_read_only objects p ≡ is_constant (slice_get objects place)
read_only objects p size place offset g =
    ap (λ q. is_read_only objects q) g.points
    ∙ ap (λ o. is_constant o) (found objects p size place offset g)
    ∙ sym (ap (λ o. is_constant o) g.lives)

-- two names of one object are the same
both_true : (a b : Bool) → a ≡ true → b ≡ true → (a && b) ≡ true
both_true a b p q = cc

left_true : (a b : Bool) → (a && b) ≡ true → a ≡ true
left_true true b e = refl
left_true false b e = absurd (let never : ⊥ = cc in never)

made_of : (name : ObjectName) (x : Object) → is_named name x ≡ true → x.made ≡ name.made
made_of name x e = eqb-true x.made name.made (left_true (x.made == name.made) (length x.bytes == name.size) e)

one_object : (a b : ObjectName) (x : Object) → a.place ≡ b.place → is_named a x ≡ true → is_named b x ≡ true → same_object a b ≡ true
one_object a b x e na nb =
    both_true (a.place == b.place) ((a.made == b.made) && (a.size == b.size)) (eq-eqb a.place b.place e)
    (both_true (a.made == b.made) (a.size == b.size) (eq-eqb a.made b.made (sym (made_of a x na) ∙ made_of b x nb)) (eq-eqb a.size b.size (sym (size_of a x na) ∙ size_of b x nb)))

one_of : (a b c : Bool) → (not a && (b && c)) ≡ false → (a ≡ true) ⊎ ((b ≡ false) ⊎ (c ≡ false))
one_of true b c e = inl refl
one_of false false c e = inr (inl refl)
one_of false true false e = inr (inr refl)
one_of false true true e = absurd (let never : ⊥ = cc in never)

disjoint : (x y size : ℕ) → (not (x == y) && (nat_lt x (y + size) && nat_lt y (x + size))) ≡ false → (x ≡ y) ⊎ ((x + size ≤ y) ⊎ (y + size ≤ x))
disjoint x y size e = elim (one_of (x == y) (nat_lt x (y + size)) (nat_lt y (x + size)) e) [
  | inl same ↦ inl (eqb-true x y same)
  | inr other ↦ inr (elim other [ inl behind ↦ inr (not_less x (y + size) behind) | inr before ↦ inl (not_less y (x + size) before) ])
]

-- bytes of one object that don't overlap in part are the same or apart
pub apart : (objects : List Object) (p q : Value) (size a x b y : ℕ) → GoesTo objects p size a x → GoesTo objects q size b y → overlaps_in_part size p q ≡ false → a ≡ b → (x ≡ y) ⊎ ((x + size ≤ y) ⊎ (y + size ≤ x))
apart objects p q size a x b y g h e same =
    let it : g.it ≡ h.it = let s = g.lives in let t = h.lives in let u : slice_get objects a ≡ slice_get objects b = ap (λ (k : ℕ). slice_get objects k) same in cc in
    let names = one_object g.name h.name h.it (g.stands ∙ same ∙ sym h.stands) (subst (λ (z : Object). is_named g.name z ≡ true) it g.named) h.named in
    let whole : overlaps_in_part size (Pointer g.name x) (Pointer h.name y) ≡ false =
    sym (ap (λ v. overlaps_in_part size v q) g.points ∙ ap (λ v. overlaps_in_part size (Pointer g.name x) v) h.points) ∙ e in
    disjoint x y size (sym (ap (λ (s : Bool). s && (not (x == y) && (nat_lt x (y + size) && nat_lt y (x + size)))) names) ∙ whole)
