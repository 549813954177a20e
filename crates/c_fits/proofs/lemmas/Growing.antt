-- What fits over some definitions of structures and unions fits over more.
use Rattle.std.proofs.Common.{◌≡◌, ◌⊎◌, ℕ, Bool, true, false, not, ◌&&◌, ◌||◌, List, [], ◌∷◌, refl, sym, ap, ◌∙◌, inl, inr, eqb-true}
use Rattle.std.specs.Prelude.{◌==◌, Option, Some, None, is_some, if◌then◌else◌}
use Rattle.c_types.specs.declared.extent.Extent.{Extent}
use Rattle.c_types.specs.CType.{CType, Plain, Array, Simple, Pointer, Function, Structure, Union, Enumeration, Parameters, Open, Listed, CTypes, NoType, And}
use Rattle.c_types.specs.Layout.{Tag, extent, fields, known, spots, start, structure_extent, times}
use Rattle.c_types.specs.Members.{is_defined, member_in, member_of, named}
use Rattle.c_meaning.specs.declared.core_expr.Change.{Change}
use Rattle.c_meaning.specs.declared.core_expr.Change.TheVariants as change
use Rattle.c_meaning.specs.declared.core_expr.CoreKind.{CoreKind}
use Rattle.c_meaning.specs.declared.core_expr.CoreKind.TheVariants as kind
use Rattle.c_meaning.specs.CoreTrees.{Core, NoCore, Cores, type_of}
use Rattle.c_meaning.specs.Types.{is_void, is_scalar, is_record, has_size, target}
use Rattle.c_meaning.specs.Rows.{parameters_type}
use Rattle.c_meaning.specs.Values.{CoreTree, CoreTrees}
use Rattle.c_meaning.specs.Fits.{Fits, AllFit, IsRow, HasSize, IsChanged, AreOpen, AreListed, AreArguments, IsGiven, is_whole}
use Rattle.c_fits.specs.Growing.{Grows}
use Rattle.c_fits.specs.Sound.{has_elements}
use Rattle.c_fits.proofs.lemmas.Booleans.{never, and_left, and_right, and_true, or_cases, or_true}

pub same_grows : (tags : List Tag) → Grows tags tags
same_grows tags = record { defined = λ n h. h; extents = λ n h. refl; members = λ n name h. refl }

pub then_grows : (a b c : List Tag) → Grows a b → Grows b c → Grows a c
then_grows a b c g h =
    record {
      defined = λ n k. h.defined n (g.defined n k);
      extents = λ n k. h.extents n (g.defined n k) ∙ g.extents n k;
      members = λ n name k. h.members n name (g.defined n k) ∙ g.members n name k;
    }

abbrev another : ℕ → ℕ → List Tag → Type 0
another n m tags = is_defined tags n ≡ true → is_defined tags m ≡ false → (n == m) ≡ false

-- one is defined and the other isn't
differ : (n m : ℕ) (tags : List Tag) → another n m tags
differ n m tags h k = by (n == m) refl
  where
    by : (b : Bool) → (n == m) ≡ b → b ≡ false
    by true e = never (sym h ∙ ap (is_defined tags) (eqb-true n m e) ∙ k)
    by false e = refl

-- a further definition, of what had none
pub more_grows : (tags : List Tag) (tag : Tag) → is_defined tags tag.number ≡ false → Grows tags (tag ∷ tags)
more_grows tags tag h =
    record {
      defined = λ n k. or_true (n == tag.number) (is_defined tags n) (inr k);
      extents = λ n k. rw (differ n tag.number tags k h);
      members = λ n name k. rw (differ n tag.number tags k h);
    }

-- ---- sizes and members

-- what isn't defined has no size and no member
known_defined : (tags : List Tag) (n size : ℕ) → (known tags n).size ≡ Some size → is_defined tags n ≡ true
known_defined [] n size h = absurd (let never : ⊥ = cc in never)
known_defined (tag ∷ older) n size h = by (n == tag.number) h (known_defined older n size)
  where
    by : (b : Bool) → (if b then structure_extent tag.is_union (fields (known older) tag.members) else known older n).size ≡ Some size → ((known older n).size ≡ Some size → is_defined older n ≡ true) → (b || is_defined older n) ≡ true
    by true h k = refl
    by false h k = k h

member_defined : (tags : List Tag) (n : ℕ) (name : List ℕ) (m : _) → member_in tags n name ≡ Some m → is_defined tags n ≡ true
member_defined [] n name m h = absurd (let never : ⊥ = cc in never)
member_defined (tag ∷ older) n name m h = by (n == tag.number) h (member_defined older n name m)
  where
    by : (b : Bool) → (if b then named tag.members (spots tag.is_union start (fields (known older) tag.members)) name else member_in older n name) ≡ Some m → (member_in older n name ≡ Some m → is_defined older n ≡ true) → (b || is_defined older n) ≡ true
    by true h k = refl
    by false h k = k h

abbrev size_in : Extent → Option ℕ
size_in e = e.size

-- what is so many times a size is so still where the size stays
times_stay : (n s t : Option ℕ) (size : ℕ) → times n s ≡ Some size → ((m : ℕ) → s ≡ Some m → t ≡ Some m) → times n t ≡ Some size
times_stay (Some n) (Some s) t size h k = rw (k s refl) h
times_stay (Some n) None t size h k = absurd (let never : ⊥ = cc in never)
times_stay None s t size h k = absurd (let never : ⊥ = cc in never)

some_size : (o p : Option ℕ) → is_some o ≡ true → ((m : ℕ) → o ≡ Some m → p ≡ Some m) → is_some p ≡ true
some_size (Some n) p h k = rw (k n refl)
some_size None p h k = never (sym h)

module _ (old new : List Tag) (g : Grows old new) where
  pub size_stays : (t : CType) (size : ℕ) → HasSize old t size → HasSize new t size
  size_stays (Plain q (Simple b)) size h = h
  size_stays (Plain q (Pointer to)) size h = h
  size_stays (Plain q (Function r ps)) size h = h
  size_stays (Plain q (Structure n)) size h = ap size_in (g.extents n (known_defined old n size h)) ∙ h
  size_stays (Plain q (Union n)) size h = ap size_in (g.extents n (known_defined old n size h)) ∙ h
  size_stays (Plain q (Enumeration n)) size h = h
  size_stays (Array t n) size h = times_stay n (extent old t).size (extent new t).size size h (size_stays t)

  pub sized_stays : (t : CType) → has_size old t ≡ true → has_size new t ≡ true
  sized_stays t h = some_size (extent old t).size (extent new t).size h (size_stays t)

  pub elements_stay : (t : CType) → has_elements old t ≡ true → has_elements new t ≡ true
  elements_stay (Plain q k) h = h
  elements_stay (Array t n) h = sized_stays t h

  pub member_stays : (t : CType) (name : List ℕ) (m : _) → member_of old t name ≡ Some m → member_of new t name ≡ Some m
  member_stays (Plain q (Simple b)) name m h = h
  member_stays (Plain q (Pointer to)) name m h = h
  member_stays (Plain q (Function r ps)) name m h = h
  member_stays (Plain q (Structure n)) name m h = g.members n name (member_defined old n name m h) ∙ h
  member_stays (Plain q (Union n)) name m h = g.members n name (member_defined old n name m h) ∙ h
  member_stays (Plain q (Enumeration n)) name m h = h
  member_stays (Array t n) name m h = h

  -- ---- what rows ask

  pub whole_stays : (t : CType) → is_whole old t ≡ true → is_whole new t ≡ true
  whole_stays t h = one (or_cases (is_scalar t) (is_record t && has_size old t) h)
    where
      one : (is_scalar t ≡ true) ⊎ ((is_record t && has_size old t) ≡ true) → is_whole new t ≡ true
      one (inl k) = or_true (is_scalar t) (is_record t && has_size new t) (inl k)
      one (inr k) =
          or_true (is_scalar t) (is_record t && has_size new t)
          (inr (and_true (is_record t) (has_size new t) (and_left (is_record t) (has_size old t) k) (sized_stays t (and_right (is_record t) (has_size old t) k))))

  given_stays : (t : CType) → IsGiven old t → IsGiven new t
  given_stays t h = one (is_record t) (has_size old t) (has_size new t) h (sized_stays t)
    where
      one : (r o n : Bool) → (r && not o) ≡ false → (o ≡ true → n ≡ true) → (r && not n) ≡ false
      one true true n h k = rw (k refl)
      one true false n h k = never h
      one false o n h k = refl

  open_stays : (vs : CoreTrees) → AreOpen old vs → AreOpen new vs
  open_stays NoCore h = tt
  open_stays (Cores v vs) h = (whole_stays (type_of v) h.0, (h.1.0, open_stays vs h.1.1))

  listed_stays : (ps : CTypes) (more : Bool) (vs : CoreTrees) → AreListed old ps more vs → AreListed new ps more vs
  listed_stays NoType more NoCore h = tt
  listed_stays NoType more (Cores v vs) h = (h.0, open_stays (Cores v vs) h.1)
  listed_stays (And p ps) more NoCore h = h
  listed_stays (And p ps) more (Cores v vs) h = (whole_stays (type_of v) h.0, (h.1.0, listed_stays ps more vs h.1.1))

  arguments_stay : (ps : Parameters) (vs : CoreTrees) → AreArguments old ps vs → AreArguments new ps vs
  arguments_stay Open vs h = open_stays vs h
  arguments_stay (Listed ps more) vs h = listed_stays ps more vs h

  changed_stays : (by : Change) (a : CoreTree) (u : CType) → IsChanged old by a u → IsChanged new by a u
  changed_stays (change.Arithmetic op signed) a u h = h
  changed_stays (change.Pointer size back) a u h = (h.0, (size_stays (target (type_of a)) size h.1.0, h.1.1))

  void_or_whole : (t : CType) → (is_void t || is_whole old t) ≡ true → (is_void t || is_whole new t) ≡ true
  void_or_whole t h = one (or_cases (is_void t) (is_whole old t) h)
    where
      one : (is_void t ≡ true) ⊎ (is_whole old t ≡ true) → (is_void t || is_whole new t) ≡ true
      one (inl k) = or_true (is_void t) (is_whole new t) (inl k)
      one (inr k) = or_true (is_void t) (is_whole new t) (inr (whole_stays t k))

  row_stays : (leaf : CoreKind → CType → Type 0) (what : CoreKind) (of : CType) (kids : CoreTrees) → IsRow leaf old what of kids → IsRow leaf new what of kids
  row_stays leaf (kind.Member offset first width) of (Cores a NoCore) h =
      let m = h.1 in (h.0, (m.0, m.1, member_stays (type_of a) m.0 m.1 m.2, m.3))
  row_stays leaf (kind.Move size back) of (Cores a (Cores b NoCore)) h = (h.0, (size_stays (target of) size h.1.0, h.1.1))
  row_stays leaf (kind.Difference size) of (Cores a (Cores b NoCore)) h =
      (h.0, (h.1.0, (h.1.1.0, size_stays (target (type_of a)) size h.1.1.1)))
  row_stays leaf kind.Conditional of (Cores a (Cores b (Cores c NoCore))) h =
      (h.0, (void_or_whole of h.1.0, h.1.1))
  row_stays leaf kind.Assign of (Cores a (Cores v NoCore)) h = (h.0, (whole_stays of h.1.0, h.1.1))
  row_stays leaf (kind.Change by) of (Cores a (Cores w NoCore)) h = (h.0, (h.1.0, changed_stays by a (type_of w) h.1.1))
  row_stays leaf (kind.Postfix by) of (Cores a (Cores w NoCore)) h = (h.0, (h.1.0, changed_stays by a (type_of w) h.1.1))
  row_stays leaf (kind.Call copies) of (Cores f vs) h =
      (h.0, (h.1.0, (h.1.1.0, (given_stays of h.1.1.1.0, arguments_stay (parameters_type (target (type_of f))) vs h.1.1.1.1))))
  row_stays leaf what of kids h = h

-- what fits does so still where more is defined
mutual
  pub fits_stays : (leaf : CoreKind → CType → Type 0) (old new : List Tag) → Grows old new → (c : CoreTree) → Fits leaf old c → Fits leaf new c
  fits_stays leaf old new g (Core what of line kids) h = (all_stay leaf old new g kids h.0, (h.1.0, row_stays old new g leaf what of kids h.1.1))

  pub all_stay : (leaf : CoreKind → CType → Type 0) (old new : List Tag) → Grows old new → (cs : CoreTrees) → AllFit leaf old cs → AllFit leaf new cs
  all_stay leaf old new g NoCore h = tt
  all_stay leaf old new g (Cores c cs) h = (fits_stays leaf old new g c h.0, all_stay leaf old new g cs h.1)
