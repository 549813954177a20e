-- What a later table keeps of an earlier one, and so what is known of types and definitions.
use Rattle.std.proofs.Common.{◌≡◌, ℕ, suc, ◌<◌, ◌≤◌, Bool, true, false, List, [], ◌∷◌, ◌++◌, length, map, refl, sym, ap, ◌∙◌, subst, true≢false, arith}
use Rattle.std.specs.Prelude.{slice_get, Some, is_some, nat_eq}
use Rattle.std.specs.Option.{option_map}
use Rattle.std.proofs.lemmas.List.{length-append, get_or_append_left, take-append-le}
use Rattle.std.proofs.lemmas.Bool.Decides.{nat_tests}
use Rattle.c_types.specs.declared.type_form.TypeForm.{TypeForm}
use Rattle.c_types.specs.declared.type_form.TypeForm.TheVariants as form
use Rattle.c_types.specs.declared.type_form.Member.{Member}
use Rattle.c_types.specs.declared.type_form.MemberPlace.{MemberPlace}
use Rattle.c_types.specs.declared.extent.Extent.{Extent}
use Rattle.c_types.specs.declared.type_table.Facts.{Facts}
use Rattle.c_types.specs.declared.definition.Definition.{Definition}
use Rattle.c_types.specs.CType.{CType, qualify, depth}
use Rattle.c_types.specs.Layout.{known, extent_by, fields, no_object, start, spots}
use Rattle.c_types.specs.Members.{member_in, named, places_in}
use Rattle.c_types.specs.Constness.{const_known}
use Rattle.c_types.specs.Table.{Table, Completed, tags, tags_of, tag_of, form_at, type_at, type_in, types, number_at, fields_at, member_types, is_qualified, is_open_form, is_union, are_objects, member_seen, places_of, AreMembersBelow, ArePlacesBelow}
use Rattle.c_types.specs.Keeps.{IsFact, IsDefinition, IsSettled, completed_in}
use Rattle.c_types.proofs.Growing.{type_stays}
use Rattle.c_types.proofs.Known.{Stay, settled_extent, settled_stays, fields_stay, tags_push}
use Rattle.c_types.proofs.Seen.{placed_seen}

pub record Stays (old new : Table) : Type 0 where
  pub longer : length old.forms ≤ length new.forms
  pub forms : (j : ℕ) → j < length old.forms → form_at new j ≡ form_at old j
  pub means : (j : ℕ) → j < length old.forms → type_at new j ≡ type_at old j
  pub numbers : (j : ℕ) → j < length old.forms → number_at new j ≡ number_at old j
  pub constant : (n : ℕ) → is_some (known (tags old) n).size ≡ true → const_known (tags new) n ≡ const_known (tags old) n
  pub members : (n : ℕ) → is_some (known (tags old) n).size ≡ true → (name : List ℕ) → member_in (tags new) n name ≡ member_in (tags old) n name
  pub places : (n : ℕ) → is_some (known (tags old) n).size ≡ true → places_in (tags new) n ≡ places_in (tags old) n
  pub known : Stay (known (tags old)) (known (tags new))

pub fact_stays : (o n : Table) (id : ℕ) (x : Facts) → Stays o n → id < length o.forms → IsFact o id x → IsFact n id x
fact_stays o n id x s l f =
    let b : x.base < length o.forms = omega (arith, f.base) in
    let k = known (tags o) in
    let m = known (tags n) in
    let q : is_qualified (form_at n id) ≡ false → is_qualified (form_at o id) ≡ false = λ h. sym (ap is_qualified (s.forms id l)) ∙ h in
    let p : is_open_form (form_at n id) ≡ false → is_open_form (form_at o id) ≡ false = λ h. sym (ap is_open_form (s.forms id l)) ∙ h in
    record {
      base = f.base;
      plain = ap is_qualified (s.forms x.base b) ∙ f.plain;
      means = s.means id l ∙ f.means ∙ ap (qualify x.qualifiers.0) (sym (s.means x.base b));
      depth = f.depth ∙ ap depth (sym (s.means id l));
      deep = f.deep;
      bounded = f.bounded;
      own = λ h. f.own (q h);
      extent = λ h i. ap (extent_by m) (s.means id l) ∙ settled_extent k m s.known (type_at o id) (f.settled (q h) (p i)) ∙ f.extent (q h) (p i);
      settled = λ h i. subst (IsSettled m) (sym (s.means id l)) (settled_stays k m s.known (type_at o id) (f.settled (q h) (p i)));
      open_form = λ h. f.open_form (sym (ap is_open_form (s.forms id l)) ∙ h);
    }

members_stay : (ts us : List CType) (n : ℕ) → ((j : ℕ) → j < n → type_in us j ≡ type_in ts j) → (ms : List Member) → AreMembersBelow n ms → member_types us ms ≡ member_types ts ms
members_stay ts us n h [] b = refl
members_stay ts us n h (m ∷ ms) b = rw (h m.of b.0, members_stay ts us n h ms b.1) refl

members_more : (n m : ℕ) → n ≤ m → (ms : List Member) → AreMembersBelow n ms → AreMembersBelow m ms
members_more n m l [] b = tt
members_more n m l (x ∷ ms) b = (let h = b.0 in omega arith, members_more n m l ms b.1)

places_stay : (ts us : List CType) (n : ℕ) → ((j : ℕ) → j < n → type_in us j ≡ type_in ts j) → (ps : List MemberPlace) → ArePlacesBelow n ps → map (member_seen us) ps ≡ map (member_seen ts) ps
places_stay ts us n h [] b = refl
places_stay ts us n h (p ∷ ps) b = rw (h p.of b.0, places_stay ts us n h ps b.1) refl

places_more : (n m : ℕ) → n ≤ m → (ps : List MemberPlace) → ArePlacesBelow n ps → ArePlacesBelow m ps
places_more n m l [] b = tt
places_more n m l (p ∷ ps) b = (let h = b.0 in omega arith, places_more n m l ps b.1)

-- the fields of members that are objects stay
pub fields_same : (o n : Table) (ms : List Member) → Stays o n → AreMembersBelow (length o.forms) ms → are_objects (fields_at o ms) ≡ true → fields_at n ms ≡ fields_at o ms
fields_same o n ms s b h =
    ap (fields (known (tags n))) (members_stay (types o) (types n) (length o.forms) s.means ms b)
    ∙ fields_stay (known (tags o)) (known (tags n)) s.known (member_types (types o) ms) h

-- and so does what is seen of a member
seen_stays : (o n : Table) (union : Bool) (ms : List Member) (name : List ℕ) → Stays o n → AreMembersBelow (length o.forms) ms → are_objects (fields_at o ms) ≡ true →
    option_map (member_seen (types n)) (places_of union (fields_at n ms) ms name) ≡ option_map (member_seen (types o)) (places_of union (fields_at o ms) ms name)
seen_stays o n union ms name s b h =
    let ss = spots union start (fields_at o ms) in
    ap (λ fs. option_map (member_seen (types n)) (places_of union fs ms name)) (fields_same o n ms s b h)
    ∙ placed_seen (types n) ms ss name
    ∙ ap (λ xs. named xs ss name) (members_stay (types o) (types n) (length o.forms) s.means ms b)
    ∙ sym (placed_seen (types o) ms ss name)

pub definition_stays : (o n : Table) (id : ℕ) (d : Definition) → Stays o n → IsDefinition o id d → IsDefinition n id d
definition_stays o n id d s x =
    let f = fields_same o n d.members s x.members x.objects in
    let u : is_union (form_at n id) ≡ is_union (form_at o id) = ap is_union (s.forms id x.within) in
    let c : is_some (known (tags o) (number_at o id)).size ≡ true = ap (λ (e : Extent). is_some e.size) x.extent ∙ x.complete in
    record {
      within = (let h = x.within in let g = s.longer in omega arith);
      form = ap is_open_form (s.forms id x.within) ∙ x.form;
      members = members_more (length o.forms) (length n.forms) s.longer d.members x.members;
      objects = ap are_objects f ∙ x.objects;
      extent = ap (known (tags n)) (s.numbers id x.within) ∙ s.known (number_at o id) c ∙ x.extent;
      complete = x.complete;
      bounded = x.bounded;
      places = λ name h. x.places name h ∙ sym (ap (λ b. places_of b (fields_at n d.members) d.members name) u ∙ ap (λ fs. places_of (is_union (form_at o id)) fs d.members name) f);
      seen = λ name.
          ap (λ b. option_map (member_seen (types n)) (places_of b (fields_at n d.members) d.members name)) u
          ∙ seen_stays o n (is_union (form_at o id)) d.members name s x.members x.objects
          ∙ x.seen name
          ∙ sym (ap (λ k. member_in (tags n) k name) (s.numbers id x.within) ∙ s.members (number_at o id) c name);
      named =
          places_stay (types o) (types n) (length o.forms) s.means d.named x.named_below
          ∙ x.named
          ∙ sym (ap (places_in (tags n)) (s.numbers id x.within) ∙ s.places (number_at o id) c);
      named_below = places_more (length o.forms) (length n.forms) s.longer d.named x.named_below;
      constant = ap (const_known (tags n)) (s.numbers id x.within) ∙ s.constant (number_at o id) c ∙ x.constant;
    }

-- one more form
module _ (o : Table) (f : TypeForm) where
  abbrev pub more : Table
  more = record { forms = o.forms ++ f ∷ []; completed = o.completed }

  numbers_more : (j : ℕ) → j < length o.forms → number_at more j ≡ number_at o j
  numbers_more j l = let k : j ≤ length o.forms = omega arith in rw take-append-le refl

  tag_more : (c : Completed) → c.place < length o.forms → AreMembersBelow (length o.forms) c.members → tag_of more c ≡ tag_of o c
  tag_more c l b =
      rw (numbers_more c.place l, get_or_append_left o.forms (f ∷ []) form.Void c.place l, members_stay (types o) (types more) (length o.forms) (λ j h. type_stays o.forms (f ∷ []) j h) c.members b) refl

  tags_more : (ds : List (ℕ × Definition)) → ((i : ℕ) (e : ℕ × Definition) → slice_get ds i ≡ Some e → IsDefinition o e.0 e.1) → tags_of more (completed_in ds) ≡ tags_of o (completed_in ds)
  tags_more [] h = refl
  tags_more (e ∷ ds) h =
      let x = h 0 e refl in
      rw (tags_more ds (λ i d g. h (suc i) d g), tag_more (record { place = e.0; members = e.1.members }) x.within x.members) refl

  pub tags_kept : (ds : List (ℕ × Definition)) → o.completed ≡ completed_in ds → ((i : ℕ) (e : ℕ × Definition) → slice_get ds i ≡ Some e → IsDefinition o e.0 e.1) → tags more ≡ tags o
  tags_kept ds c h = ap (tags_of more) c ∙ tags_more ds h ∙ ap (tags_of o) (sym c)

  pub stays_more : (ds : List (ℕ × Definition)) → o.completed ≡ completed_in ds → ((i : ℕ) (e : ℕ × Definition) → slice_get ds i ≡ Some e → IsDefinition o e.0 e.1) → Stays o more
  stays_more ds c h =
      let t : tags more ≡ tags o = tags_kept ds c h in
      record {
        longer = omega (arith, length-append o.forms (f ∷ []));
        forms = λ j l. get_or_append_left o.forms (f ∷ []) form.Void j l;
        means = λ j l. type_stays o.forms (f ∷ []) j l;
        numbers = numbers_more;
        known = λ n i. ap (λ ts. known ts n) t;
        constant = λ n i. ap (λ ts. const_known ts n) t;
        members = λ n i name. ap (λ ts. member_in ts n name) t;
        places = λ n i. ap (λ ts. places_in ts n) t;
      }

-- one more definition
module _ (o : Table) (c : Completed) where
  abbrev pub with : Table
  with = record { forms = o.forms; completed = o.completed ++ c ∷ [] }

  tags_with : (cs : List Completed) → tags_of with cs ≡ tags_of o cs
  tags_with [] = refl
  tags_with (d ∷ cs) = ap (λ ts. ts ++ tag_of o d ∷ []) (tags_with cs)

  -- which is the latest
  pub tags_completed : tags with ≡ tag_of o c ∷ tags o
  tags_completed = tags_push with o.completed c ∙ ap (λ ts. tag_of o c ∷ ts) (tags_with o.completed)

  pub stays_with : known (tags o) (number_at o c.place) ≡ no_object → Stays o with
  stays_with h =
      record {
        longer = omega arith;
        forms = λ j l. refl;
        means = λ j l. refl;
        numbers = λ j l. refl;
        known = λ n i. ap (λ ts. known ts n) tags_completed ∙ (rw (other n i) refl);
        constant = λ n i. ap (λ ts. const_known ts n) tags_completed ∙ (rw (other n i) refl);
        members = λ n i name. ap (λ ts. member_in ts n name) tags_completed ∙ (rw (other n i) refl);
        places = λ n i. ap (λ ts. places_in ts n) tags_completed ∙ (rw (other n i) refl);
      }
    where
      -- what is complete has another number
      apart : (n : ℕ) → is_some (known (tags o) n).size ≡ true → (b : Bool) → nat_eq n (number_at o c.place) ≡ b → b ≡ false
      apart n i true p =
          let e : n ≡ number_at o c.place = grind (arith, nat_tests) in
          absurd (true≢false (sym i ∙ ap (λ (x : Extent). is_some x.size) (ap (known (tags o)) e ∙ h)))
      apart n i false p = refl

      other : (n : ℕ) → is_some (known (tags o) n).size ≡ true → nat_eq n (number_at o c.place) ≡ false
      other n i = apart n i (nat_eq n (number_at o c.place)) refl
