-- Members of a structure or union that are laid one by one.
use Rattle.std.proofs.Common.{◌≡◌, ℕ, ◌+◌, ◌-◌, ◌<◌, ◌≤◌, Bool, true, false, List, [], ◌∷◌, ◌++◌, max, refl, sym, ap, ◌∙◌, subst, arith}
use Rattle.std.specs.Prelude.{◌≢◌, Some, None, Option, Result, Ok, Err, IfErr, nat_eq, nat_le, if◌then◌else◌}
use Rattle.std.specs.Str.{bytes_eq}
use Rattle.std.specs.Result.{IsErrAnd}
use Rattle.std.proofs.Math.Nat.{mod-lt}
use Rattle.std.proofs.lemmas.List.{append_assoc}
use Rattle.std.proofs.lemmas.Nat.{div-add-mod'}
use Rattle.std.proofs.lemmas.Bool.Decides.{nat_tests}
use Rattle.c_types.specs.declared.type_form.Member.{Member}
use Rattle.c_types.specs.declared.type_form.MemberPlace.{MemberPlace}
use Rattle.c_types.specs.declared.layout.Laying.{Laying}
use Rattle.c_types.specs.declared.type_fault.TypeFault.{TypeFault}
use Rattle.c_types.specs.declared.extent.Extent.{Extent}
use Rattle.c_types.specs.declared.room.Room.{Room}
use Rattle.c_types.specs.Bounds.{IsBounded}
use Rattle.c_types.specs.Layout.{Field, start, laid, spots, spot_in, next_room, round_up, field_align, greatest_align, greatest_nesting, structure_extent}
use Rattle.c_types.specs.Table.{all_placed, listed, placed, place_at, places_of, is_above}
use Rattle.c_types.specs.Keeps.{place_named}
use Rattle.c_types.specs.Facts.{AreBounded, noted, or_place}

-- some members are laid, and the rest is to come
pub record IsLaying (l : Laying) (kind : Bool) (rest all : List Field) (to_come members : List Member) : Type 0 where
  pub union : l.is_union ≡ kind
  pub room : laid kind l.room rest ≡ laid kind start all
  pub bytes : l.room.bytes ≤ 16777216
  pub align : max l.align (greatest_align rest) ≡ greatest_align all
  pub within : (0 < l.align) × (l.align ≤ 4)
  pub nesting : max l.nesting (greatest_nesting rest) ≡ greatest_nesting all
  pub shallow : l.nesting ≤ 500
  pub places : (name : List ℕ) → name ≢ [] → or_place (place_named l.places name) (placed to_come (spots kind l.room rest) name) ≡ places_of kind all members name
  pub named : l.named ++ all_placed to_come (spots kind l.room rest) ≡ all_placed members (spots kind start all)
  pub bounded : AreBounded rest

align_some : (fs : List Field) → 1 ≤ greatest_align fs
align_some [] = omega arith
align_some (f ∷ fs) = let h = align_some fs in omega arith

-- the alignment that a member gives
field_bounds : (e : Extent) (w : Option ℕ) → IsBounded e → (0 < field_align e w) × (field_align e w ≤ 4)
field_bounds e None b = (b.some, b.align)
field_bounds e (Some n) b = (omega arith, omega arith)

above : (n unit : ℕ) → 0 < unit → n ≤ round_up n unit
above n unit l =
    let a = div-add-mod' (n + (unit - 1)) unit in
    let b = mod-lt (n + (unit - 1)) l in
    omega (arith, a, b)

-- members only take more
grown : (kind : Bool) (r : Room) (e : Extent) (w : Option ℕ) → IsBounded e → r.bytes ≤ (next_room kind r e w).bytes
grown true r e w b = omega arith
grown false r e None b = let h = above r.bytes e.align b.some in omega arith
grown false r e (Some w) b = by (nat_eq w 0) (nat_le (r.bits + w) 32)
  where
    taken : Bool → Bool → Room
    taken x y = if x then record { bytes = r.bytes; bits = 32 } else if y then record { bytes = r.bytes; bits = r.bits + w } else record { bytes = round_up r.bytes 4 + 4; bits = w }

    by : (x y : Bool) → r.bytes ≤ (taken x y).bytes
    by true y = omega arith
    by false true = omega arith
    by false false = let h = above r.bytes 4 (omega arith) in omega arith

all_grown : (kind : Bool) (r : Room) (fs : List Field) → AreBounded fs → r.bytes ≤ (laid kind r fs).bytes
all_grown kind r [] b = omega arith
all_grown kind r (f ∷ fs) b =
    let a = grown kind r f.extent f.width b.0 in
    let h = all_grown kind (next_room kind r f.extent f.width) fs b.1 in
    omega arith

-- none are laid
pub none_laid : (l : Laying) (kind : Bool) (all : List Field) (members : List Member) → l.is_union ≡ kind → l.room ≡ start → l.align ≡ 1 → l.nesting ≡ 0 → ((name : List ℕ) → place_named l.places name ≡ None) → l.named ≡ [] → AreBounded all → IsLaying l kind all all members members
none_laid l kind all members u r a n p d b =
    record {
      union = u;
      room = ap (λ (x : Room). laid kind x all) r;
      bytes = (let z : l.room.bytes ≡ 0 = ap (λ (x : Room). x.bytes) r in omega (arith, z));
      align = (let h = align_some all in omega (arith, a, h));
      within = (omega (arith, a), omega (arith, a));
      nesting = omega (arith, n);
      shallow = omega (arith, n);
      places = λ name h. ap (λ o. or_place o (placed members (spots kind l.room all) name)) (p name) ∙ ap (λ (x : Room). placed members (spots kind x all) name) r;
      named = ap (λ ps. ps ++ all_placed members (spots kind l.room all)) d ∙ ap (λ (x : Room). all_placed members (spots kind x all)) r;
      bounded = b;
    }

first_place : (o : Option MemberPlace) (b : Bool) (p : MemberPlace) (q : Option MemberPlace) → or_place (or_place o (if b then Some p else None)) q ≡ or_place o (if b then Some p else q)
first_place None true p q = refl
first_place None false p q = refl
first_place (Some x) b p q = refl

-- one more is laid
pub one_laid : (l new : Laying) (kind : Bool) (e : Extent) (rest all : List Field) (m : Member) (to_come members : List Member) →
    IsLaying l kind (record { extent = e; width = m.width } ∷ rest) all (m ∷ to_come) members →
    new.is_union ≡ l.is_union → new.room ≡ next_room l.is_union l.room e m.width → new.room.bytes ≤ 16777216 → new.align ≡ max l.align (field_align e m.width) → new.nesting ≡ max l.nesting e.nesting →
    ((name : List ℕ) → name ≢ [] → place_named new.places name ≡ noted m.name (place_at m (spot_in l.is_union l.room e m.width)) name (place_named l.places name)) →
    new.named ≡ l.named ++ listed m.name (place_at m (spot_in l.is_union l.room e m.width)) →
    IsLaying new kind rest all to_come members
one_laid l new kind e rest all m to_come members h u r b a n p d =
    let s : new.room ≡ next_room kind l.room e m.width = r ∙ ap (λ k. next_room k l.room e m.width) h.union in
    let f = field_bounds e m.width h.bounded.0 in
    let w = h.within in
    record {
      union = u ∙ h.union;
      room = ap (λ (x : Room). laid kind x rest) s ∙ h.room;
      bytes = b;
      align = (let z : max (max l.align (field_align e m.width)) (greatest_align rest) ≡ max l.align (max (field_align e m.width) (greatest_align rest)) = omega arith in ap (λ x. max x (greatest_align rest)) a ∙ z ∙ h.align);
      within = (omega (arith, a, w.0), omega (arith, a, w.1, f.1));
      nesting = (let z : max (max l.nesting e.nesting) (greatest_nesting rest) ≡ max l.nesting (max e.nesting (greatest_nesting rest)) = omega arith in ap (λ x. max x (greatest_nesting rest)) n ∙ z ∙ h.nesting);
      shallow = (let x = h.shallow in let y = h.bounded.0.nesting in omega (arith, n));
      places = λ name g.
          (let k = place_named l.places name in
          let q = placed to_come (spots kind (next_room kind l.room e m.width) rest) name in
          ap (λ o. or_place o (placed to_come (spots kind new.room rest) name)) (p name g)
          ∙ ap (λ (x : Room). or_place (noted m.name (place_at m (spot_in l.is_union l.room e m.width)) name k) (placed to_come (spots kind x rest) name)) s
          ∙ ap (λ t. or_place (noted m.name (place_at m (spot_in t l.room e m.width)) name k) q) h.union
          ∙ first_place k (bytes_eq name m.name) (place_at m (spot_in kind l.room e m.width)) q
          ∙ h.places name g);
      named =
          (let q = all_placed to_come (spots kind (next_room kind l.room e m.width) rest) in
          let f : Bool → List MemberPlace = λ k. listed m.name (place_at m (spot_in k l.room e m.width)) in
          ap (λ ps. ps ++ all_placed to_come (spots kind new.room rest)) d
          ∙ ap (λ (x : Room). (l.named ++ f l.is_union) ++ all_placed to_come (spots kind x rest)) s
          ∙ ap (λ k. (l.named ++ f k) ++ q) h.union
          ∙ append_assoc l.named (f kind) q
          ∙ h.named);
      bounded = h.bounded.1;
    }

-- where the members so far take too much, so do all
pub too_large : (l : Laying) (kind : Bool) (e : Extent) (rest all : List Field) (m : Member) (to_come members : List Member) →
    IsLaying l kind (record { extent = e; width = m.width } ∷ rest) all (m ∷ to_come) members → 16777216 < (next_room l.is_union l.room e m.width).bytes →
    is_above (structure_extent kind all).size ≡ true
too_large l kind e rest all m to_come members h g =
    let a : 16777216 < (next_room kind l.room e m.width).bytes = subst (λ k. 16777216 < (next_room k l.room e m.width).bytes) h.union g in
    let b = all_grown kind (next_room kind l.room e m.width) rest h.bounded.1 in
    let c : (laid kind (next_room kind l.room e m.width) rest).bytes ≡ (laid kind start all).bytes = ap (λ (x : Room). x.bytes) h.room in
    let d = above (laid kind start all).bytes (greatest_align all) (align_some all) in
    let n : 16777216 < round_up (laid kind start all).bytes (greatest_align all) = omega (arith, a, b, c, d) in
    grind (arith, nat_tests)

-- what a `?` hands on
pub handed_on : {A : Type 0} (r : Result A TypeFault) (e : TypeFault) (P : TypeFault → Type 0) → IsErrAnd r (λ y. y ≡ e) → P e → IfErr r P
handed_on (Ok x) e P h p = absurd h
handed_on (Err y) e P h p = subst P (sym h) p
