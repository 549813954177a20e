-- A structure or union that gets its members: what its table keeps then.
use Rattle.std.proofs.Common.{◌≡◌, inl, inr, ℕ, ◌+◌, ◌<◌, ◌≤◌, Bool, true, false, List, [], ◌∷◌, ◌++◌, length, map, refl, sym, ap, ◌∙◌, subst, arith}
use Rattle.std.specs.Prelude.{Some, None, Option, IfSome, is_some, nat_eq, nat_lt, ◌&&◌, ◌||◌, if◌then◌else◌}
use Rattle.std.specs.Map.{lookup}
use Rattle.std.specs.Option.{option_map}
use Rattle.std.proofs.lemmas.Bool.Decides.{nat_tests}
use Rattle.std.proofs.lemmas.List.{append-nil}
use Rattle.std.proofs.lemmas.Option.{slice_get_within}
use Rattle.c_types.specs.declared.type_form.TypeForm.{TypeForm}
use Rattle.c_types.specs.declared.type_form.Member.{Member}
use Rattle.c_types.specs.declared.type_fault.TypeFault.TheVariants as fault
use Rattle.c_types.specs.declared.form_key.FormKey.{FormKey}
use Rattle.c_types.specs.declared.type_table.Formed.{Formed}
use Rattle.c_types.specs.declared.layout.Laying.{Laying}
use Rattle.c_types.specs.declared.extent.Extent.{Extent}
use Rattle.c_types.specs.declared.room.Room.{Room}
use Rattle.c_types.specs.declared.definition.Definition.{Definition}
use Rattle.c_types.specs.Bounds.{IsBounded}
use Rattle.c_types.specs.Layout.{Field, start, laid, round_up, greatest_align, greatest_nesting, structure_extent, spots, known, no_object}
use Rattle.c_types.specs.Members.{member_in, named, named_places, places_in}
use Rattle.c_types.specs.Constness.{const_known, some_const}
use Rattle.c_types.specs.Table.{Table, Completed, Extends, IsOpen, AreMembersBelow, ArePlacesBelow, all_placed, are_objects, excess, fields_at, form_at, is_above, is_union, member_seen, member_types, members_among, members_refusal, number_at, places_of, tag_of, tags, types}
use Rattle.c_types.specs.Definitions.{AreComplete}
use Rattle.c_types.specs.BitFields.{are_fields, have_fields}
use Rattle.c_types.specs.Keeps.{Keeps, IsDefinition, completed_in, forms_in, place_named}
use Rattle.c_types.specs.Facts.{IsLaid}
use Rattle.c_types.proofs.Insides.{length-forms, table_of}
use Rattle.c_types.proofs.Known.{known_apart}
use Rattle.c_types.proofs.Defined.{apart, members_found, open_all, open_tagged}
use Rattle.c_types.proofs.Stays.{Stays, fact_stays, fields_same, definition_stays, stays_with, tags_completed, with}
use Rattle.c_types.proofs.Placed.{push_cases}
use Rattle.c_types.proofs.Seen.{all_seen, placed_below, placed_seen}

-- the extent of members that are laid
pub extent_laid : (l : Laying) (kind : Bool) (fs : List Field) (ms : List Member) (x : Extent) → IsLaid l kind fs ms → x.size ≡ Some (round_up l.room.bytes l.align) → x.align ≡ l.align → x.nesting ≡ 1 + l.nesting → x ≡ structure_extent kind fs
extent_laid l kind fs ms x h s a n =
    let e : x.size ≡ Some (round_up (laid kind start fs).bytes (greatest_align fs)) = s ∙ ap (λ (r : Room). Some (round_up r.bytes l.align)) h.room ∙ ap (λ u. Some (round_up (laid kind start fs).bytes u)) h.align in
    let f : x.align ≡ greatest_align fs = a ∙ h.align in
    let g : x.nesting ≡ 1 + greatest_nesting fs = n ∙ ap (λ k. 1 + k) h.nesting in
    λ i. record { size = e i; align = f i; nesting = g i }

-- members that pass no limit aren't refused
pub not_refused : (t : Table) (id : ℕ) (ms : List Member) (x : Extent) → are_objects (fields_at t ms) ≡ true → x ≡ structure_extent (is_union (form_at t id)) (fields_at t ms) → excess 1 x ≡ None → members_refusal t id ms ≡ None
not_refused t id ms x o e h = rw o (ap (excess 1) (sym e) ∙ h)

-- nor do those that aren't refused pass one
pub objects_of : (t : Table) (id : ℕ) (ms : List Member) → members_refusal t id ms ≡ None → are_objects (fields_at t ms) ≡ true
objects_of t id ms h = by (are_objects (fields_at t ms)) refl
  where
    by : (b : Bool) → are_objects (fields_at t ms) ≡ b → b ≡ true
    by true e = refl
    by false e = absurd (let z : Some fault.Incomplete ≡ None = sym (ap (λ (b : Bool). if b then excess 1 (structure_extent (is_union (form_at t id)) (fields_at t ms)) else Some fault.Incomplete) e) ∙ h in cc)

pub within_limits : (t : Table) (id : ℕ) (ms : List Member) → members_refusal t id ms ≡ None → excess 1 (structure_extent (is_union (form_at t id)) (fields_at t ms)) ≡ None
within_limits t id ms h = sym (ap (λ (b : Bool). if b then excess 1 (structure_extent (is_union (form_at t id)) (fields_at t ms)) else Some fault.Incomplete) (objects_of t id ms h)) ∙ h

none_passed : (a b c : Bool) → (if a then Some fault.TooLarge else if b || c then Some fault.TooDeep else None) ≡ None → (a ≡ false) × (b ≡ false) × (c ≡ false)
none_passed true b c h = absurd (let z : Some fault.TooLarge ≡ None = h in cc)
none_passed false true c h = absurd (let z : Some fault.TooDeep ≡ None = h in cc)
none_passed false false true h = absurd (let z : Some fault.TooDeep ≡ None = h in cc)
none_passed false false false h = (refl, refl, refl)

not_above : (o : Option ℕ) → is_above o ≡ false → IfSome o (λ n. n ≤ 16777216)
not_above None h = tt
not_above (Some n) h = grind (arith, nat_tests)

bounded_within : (x : Extent) → excess 1 x ≡ None → 0 < x.align → x.align ≤ 4 → IsBounded x
bounded_within x h s a =
    let n = none_passed (is_above x.size) (nat_lt 500 1) (nat_lt 500 x.nesting) h in
    record {
      size = not_above x.size n.0;
      some = s;
      align = a;
      nesting = (let d : nat_lt 500 x.nesting ≡ false = n.2 in grind (arith, nat_tests));
    }

pub none_noted : (o : Option Definition) → option_map (λ (d : Definition). d.members) o ≡ None → o ≡ None
none_noted None h = refl
none_noted (Some d) h = absurd (let z : Some d.members ≡ None = h in cc)

-- what isn't completed has no definition
pub no_definition : (ds : List (ℕ × Definition)) (id : ℕ) → members_among (completed_in ds) id ≡ None → lookup (nat_eq id) ds ≡ None
no_definition ds id h = none_noted (lookup (nat_eq id) ds) (sym (members_found ds id) ∙ h)

pub completed_push : (ds : List (ℕ × Definition)) (e : ℕ × Definition) → completed_in (ds ++ e ∷ []) ≡ completed_in ds ++ record { place = e.0; members = e.1.members } ∷ []
completed_push [] e = refl
completed_push (x ∷ ds) e = ap (λ (cs : List Completed). record { place = x.0; members = x.1.members } ∷ cs) (completed_push ds e)

module _ (basics : List TypeForm) (es : List (FormKey × Formed)) (ds : List (ℕ × Definition)) (id : ℕ) (d : Definition) where
  abbrev before_it : Table
  before_it = table_of basics es ds

  abbrev pub it : Completed
  it = record { place = id; members = d.members }

  pub table_with : table_of basics es (ds ++ (id, d) ∷ []) ≡ with before_it it
  table_with = ap (λ (cs : List Completed). record { forms = basics ++ forms_in es; completed = cs }) (completed_push ds (id, d))

  unknown : Keeps basics es ds before_it → IsOpen before_it id → known (tags before_it) (number_at before_it id) ≡ no_object
  unknown k o = known_apart (tags before_it) (number_at before_it id) (apart before_it before_it.completed id (open_all before_it ds k.defined) o.within (open_tagged (form_at before_it id) o.form) o.members)

  pub stays_completed : Keeps basics es ds before_it → IsOpen before_it id → Stays before_it (with before_it it)
  stays_completed k o = stays_with before_it it (unknown k o)

  known_now : known (tags (with before_it it)) (number_at before_it id) ≡ structure_extent (is_union (form_at before_it id)) (fields_at before_it d.members)
  known_now =
      let n = number_at before_it id in
      let e : nat_eq n n ≡ true = grind (arith, nat_tests) in
      let x = structure_extent (is_union (form_at before_it id)) (fields_at before_it d.members) in
      ap (λ ts. known ts n) (tags_completed before_it it) ∙ ap (λ (b : Bool). if b then x else known (tags before_it) n) e

  member_now : (name : List ℕ) → member_in (tags (with before_it it)) (number_at before_it id) name ≡ named (member_types (types before_it) d.members) (spots (is_union (form_at before_it id)) start (fields_at before_it d.members)) name
  member_now name =
      let n = number_at before_it id in
      let e : nat_eq n n ≡ true = grind (arith, nat_tests) in
      let x = named (member_types (types before_it) d.members) (spots (is_union (form_at before_it id)) start (fields_at before_it d.members)) name in
      ap (λ ts. member_in ts n name) (tags_completed before_it it) ∙ ap (λ (b : Bool). if b then x else member_in (tags before_it) n name) e

  places_now : places_in (tags (with before_it it)) (number_at before_it id) ≡ named_places (member_types (types before_it) d.members) (spots (is_union (form_at before_it id)) start (fields_at before_it d.members))
  places_now =
      let n = number_at before_it id in
      let e : nat_eq n n ≡ true = grind (arith, nat_tests) in
      let x = named_places (member_types (types before_it) d.members) (spots (is_union (form_at before_it id)) start (fields_at before_it d.members)) in
      ap (λ ts. places_in ts n) (tags_completed before_it it) ∙ ap (λ (b : Bool). if b then x else places_in (tags before_it) n) e

  const_now : const_known (tags (with before_it it)) (number_at before_it id) ≡ some_const (const_known (tags before_it)) (member_types (types before_it) d.members)
  const_now =
      let n = number_at before_it id in
      let e : nat_eq n n ≡ true = grind (arith, nat_tests) in
      let x = some_const (const_known (tags before_it)) (member_types (types before_it) d.members) in
      ap (λ ts. const_known ts n) (tags_completed before_it it) ∙ ap (λ (b : Bool). if b then x else const_known (tags before_it) n) e

  pub defined_now : Keeps basics es ds before_it → IsOpen before_it id → AreMembersBelow (length before_it.forms) d.members → members_refusal before_it id d.members ≡ None →
      (l : Laying) → IsLaid l (is_union (form_at before_it id)) (fields_at before_it d.members) d.members → d.extent ≡ structure_extent (is_union (form_at before_it id)) (fields_at before_it d.members) → d.places ≡ l.places → d.named ≡ l.named → d.constant ≡ some_const (const_known (tags before_it)) (member_types (types before_it) d.members) →
      IsDefinition (with before_it it) id d
  defined_now k o m r l h x p g s =
      let now = with before_it it in
      let ms = d.members in
      let objects = objects_of before_it id ms r in
      let f = fields_same before_it now ms (stays_completed k o) m objects in
      let w = h.within in
      let ss = spots (is_union (form_at before_it id)) start (fields_at before_it ms) in
      let y : d.named ≡ all_placed ms ss = g ∙ h.named in
      let a : d.extent.align ≡ l.align = ap (λ (e : Extent). e.align) x ∙ sym h.align in
      record {
        within = o.within;
        form = o.form;
        members = m;
        objects = ap are_objects f ∙ objects;
        extent = known_now ∙ sym x;
        complete = ap (λ (e : Extent). is_some e.size) x;
        bounded = bounded_within d.extent (ap (excess 1) x ∙ within_limits before_it id ms r) (omega (arith, a, w.0)) (omega (arith, a, w.1));
        places = λ name n. ap (λ m. place_named m name) p ∙ h.places name n ∙ ap (λ fs. places_of (is_union (form_at before_it id)) fs ms name) (sym f);
        seen = λ name.
            (let u = is_union (form_at before_it id) in
            ap (λ fs. option_map (member_seen (types before_it)) (places_of u fs ms name)) f ∙ placed_seen (types before_it) ms (spots u start (fields_at before_it ms)) name ∙ sym (member_now name));
        named = ap (map (member_seen (types before_it))) y ∙ all_seen (types before_it) ms ss ∙ sym places_now;
        named_below = subst (ArePlacesBelow (length before_it.forms)) (sym y) (placed_below (length before_it.forms) ms ss m);
        constant = const_now ∙ sym s;
      }

  pub keeps_completed : Keeps basics es ds before_it → IsOpen before_it id → members_refusal before_it id d.members ≡ None → are_fields (member_types (types before_it) d.members) ≡ true → IsDefinition (with before_it it) id d → Keeps basics es (ds ++ (id, d) ∷ []) (table_of basics es (ds ++ (id, d) ∷ []))
  keeps_completed k o r b x =
      let s = stays_completed k o in
      let l : length (basics ++ forms_in es) ≡ 10 + length es = length-forms basics es k.basic in
      subst (λ (t : Table). Keeps basics es (ds ++ (id, d) ∷ []) t) (sym table_with)
      (record {
        basic = k.basic;
        keys = k.keys;
        formed = k.formed;
        over = k.over;
        facts = λ i e g. fact_stays before_it (with before_it it) (10 + i) e.1.facts s (let w = slice_get_within es i e g in omega (arith, l, w)) (k.facts i e g);
        defined = λ i e g. elim (push_cases ds (id, d) i e g) [
          | inl j ↦ definition_stays before_it (with before_it it) e.0 e.1 s (k.defined i e j)
          | inr j ↦ subst (λ (y : ℕ × Definition). IsDefinition (with before_it it) y.0 y.1) (sym j.1) x
        ];
        complete = subst AreComplete (sym (tags_completed before_it it)) (ap (λ (e : Extent). is_some e.size) (unknown k o), objects_of before_it id d.members r, k.complete);
        fields = ap have_fields (tags_completed before_it it) ∙ ap (λ z. z && have_fields (tags before_it)) b ∙ k.fields;
      })

  pub extends_completed : Keeps basics es ds before_it → IsOpen before_it id → Extends before_it (with before_it it)
  extends_completed k o =
      let s = stays_completed k o in
      record {
        forms = ([], sym (append-nil before_it.forms));
        completed = (it ∷ [], refl);
        types_stay = s.means;
        tags_stay = (tag_of before_it it ∷ [], tags_completed before_it it);
        sizes_stay = s.known;
      }
