-- Readers of units are exact, where those of their parts are.
use Rattle.std.proofs.Common.{◌≡◌, ◌≤◌, ◌+◌, ℕ, zero, suc, Bool, true, false, Some, None, List, [], ◌∷◌, length, refl, ap, arith}
use Rattle.c_ast.specs.Lexemes.{Placed}
use Rattle.c_ast.specs.Marks.{Mark, next_line}
use Rattle.c_ast.specs.UnitMarks as marks
use Rattle.c_ast.specs.Levels.{FitsExternal, FitsExternals, FitsFirst, FitsUnit}
use Rattle.c_ast.specs.Heights.{external_height, externals_height, unit_height}
use Rattle.c_ast.specs.Trees.{ExternalTree, Function, Declares, Empty, UnitTree}
use Rattle.c_readings.specs.Reading.{State, bind, here, all_of}
use Rattle.c_readings.specs.Readers.{Readers}
use Rattle.c_readings.specs.Exact.{RunsOn, Finds, IsPiece, Exact, nothing_more}
use Rattle.c_readings.specs.UnitReaders.{external, is_left, some_externals, unit}
use Rattle.c_readings.specs.UnitExact.{UnitsAreExact}
use Rattle.c_readings.proofs.Steps.{Yields, bind_yields, exact_yields, both_yield, yields_also, read_so, nothing_stops, iff_same, here_iff, bind_finds, here_finds, found_read}
use Rattle.c_readings.proofs.Lists.{Every, Fit, EndsAt, IsItem, IsList, First, many_yields, many_finds_from, many_first}
use Rattle.c_readings.proofs.Parts.{Parts}
use Rattle.c_readings.proofs.Externals.{FitsAfter, external_exact}

-- ---- external declarations up to the end

none_left : (ts : List Placed) → is_left ts ≡ false → ts ≡ []
none_left [] h = refl
none_left (t ∷ ts) h = absurd cc

line_left : (l : ℕ) (ts : List Placed) → next_line ts ≡ Some l → is_left ts ≡ true
line_left l [] h = absurd cc
line_left l (t ∷ ts) h = refl

external_left : (x : ExternalTree) (r : List Mark) (s : State) → RunsOn (marks.external x r) s → is_left s.rest ≡ true
external_left (Function l o d ps b) r s h = line_left l s.rest h.0
external_left (Declares l d) r s h = line_left l s.rest h.0
external_left (Empty l) r s h = line_left l s.rest h.0

after_fits : (first : Bool) (x : ExternalTree) → FitsAfter first x → FitsExternal x
after_fits first (Function l o d ps b) f = f
after_fits first (Declares l d) f = f
after_fits first (Empty l) f = tt

pub fits_after : (x : ExternalTree) → FitsExternal x → FitsAfter false x
fits_after (Function l o d ps b) f = f
fits_after (Declares l d) f = f
fits_after (Empty l) f = refl

first_fits : (x : ExternalTree) (xs : List ExternalTree) → FitsAfter true x → FitsFirst (x ∷ xs)
first_fits (Function l o d ps b) xs f = tt
first_fits (Declares l d) xs f = tt
first_fits (Empty l) xs f = absurd cc

fits_first : (x : ExternalTree) (xs : List ExternalTree) → FitsFirst (x ∷ xs) → FitsExternal x → FitsAfter true x
fits_first (Function l o d ps b) xs g f = f
fits_first (Declares l d) xs g f = f
fits_first (Empty l) xs g f = absurd g

externals_fit : (n : ℕ) (xs : List ExternalTree) → Every (Fit FitsExternal external_height n) xs → FitsExternals xs × (externals_height xs ≤ n)
externals_fit n [] h = (tt, omega arith)
externals_fit n (x ∷ xs) h = let k = externals_fit n xs h.1 in let l = h.0.1 in let m = k.1 in ((h.0.0, k.0), omega arith)

-- low externals of which the first may be the unit's first
abbrev FitsAll : ℕ → Bool → List ExternalTree → Type 0
FitsAll n first [] = Unit {0}
FitsAll n first (x ∷ xs) = Fit (FitsAfter first) external_height n x × FitsAll n false xs

all_fit : (n : ℕ) (xs : List ExternalTree) → FitsExternals xs → externals_height xs ≤ n → FitsAll n false xs
all_fit n [] f w = tt
all_fit n (x ∷ xs) f w = ((fits_after x f.0, omega arith), all_fit n xs f.1 (omega arith))

unit_fit : (n : ℕ) (xs : List ExternalTree) → FitsFirst xs → FitsExternals xs → externals_height xs ≤ n → FitsAll n true xs
unit_fit n [] g f w = absurd g
unit_fit n (x ∷ xs) g f w = ((fits_first x xs g f.0, omega arith), all_fit n xs f.1 (omega arith))

abbrev spelled_after : Bool → List ExternalTree → List Mark → List Mark
spelled_after first xs r = marks.externals xs r

abbrev goes : Bool → State → Bool
goes first s = is_left s.rest

abbrev IsUnit : ℕ → State → UnitTree → State → Type 0
IsUnit n s u t = FitsUnit u × (unit_height u ≤ n) × RunsOn (marks.unit u) s

module _ (R : ℕ → Readers) (n : ℕ) (e : (first : Bool) → Exact marks.external (FitsAfter first) nothing_more external_height n 1 (external R n first)) where
  abbrev AreExternals : Bool → State → List ExternalTree → State → Type 0
  AreExternals first s xs t = IsList spelled_after (Fit FitsExternal external_height n) (EndsAt nothing_more) goes first s xs t

  external_piece : (first : Bool) (s : State) → Yields (external R n first s) (IsPiece marks.external (FitsAfter first) nothing_more external_height n 1 s)
  external_piece first s = exact_yields marks.external (FitsAfter first) nothing_more external_height n 1 (external R n first) (e first) s

  external_item : (first : Bool) (s : State) (x : ExternalTree) (t : State) → IsPiece marks.external (FitsAfter first) nothing_more external_height n 1 s x t → IsItem spelled_after (Fit FitsExternal external_height n) (EndsAt nothing_more) (λ first x. false) first s x t
  external_item first s x t h = record { kept = (after_fits first x h.fits, h.low); ends = h.ends; used = h.used; runs = λ xs r. h.runs (marks.externals xs r) }

  externals_yield : (s : State) → Yields (all_of goes (external R n) (λ first x. false) true s) (λ xs t. AreExternals true s xs t × First (FitsAfter true) xs)
  externals_yield s =
      both_yield _ (AreExternals true s) (λ xs t. First (FitsAfter true) xs)
      (many_yields spelled_after (Fit FitsExternal external_height n) (EndsAt nothing_more) goes (external R n) (λ first x. false)
      (λ first t r h. iff_same)
      (λ first t h. yields_also (external R n first t) _ _ (external_piece first t) (λ x u k. external_item first t x u k))
      (length s.rest + 1) true s)
      (many_first (FitsAfter true) goes (external R n) (λ first x. false) (length s.rest + 1) true s (yields_also (external R n true s) _ _ (external_piece true s) (λ x t h. h.fits)))

  some_yield : (s : State) (xs : List ExternalTree) (t : State) → AreExternals true s xs t → First (FitsAfter true) xs → Yields (some_externals (here s) xs t) (IsUnit (suc n) s)
  some_yield s [] t h f = tt
  some_yield s (x ∷ xs) t h f =
      let k = externals_fit n (x ∷ xs) h.kept in
      let l = k.1 in
      let u = h.used in
      ((first_fits x xs f, k.0), omega arith, (here_iff (marks.externals (x ∷ xs) []) s (omega arith) (h.runs [])).1 (none_left t.rest h.stopped.1))

  unit_yields : (s : State) → Yields (unit R (suc n) s) (IsUnit (suc n) s)
  unfolding unit
  unit_yields s = bind_yields (all_of goes (external R n) (λ first x. false) true s) _ _ (IsUnit (suc n) s) (externals_yield s) (λ xs t h. some_yield s xs t h.0 h.1)

  externals_found : (s : State) (xs : List ExternalTree) → FitsAll n true xs → RunsOn (marks.externals xs []) s → Finds (all_of goes (external R n) (λ first x. false) true s) xs []
  externals_found s xs f h =
      many_finds_from (λ first ys. marks.externals ys []) (FitsAll n) [] goes (external R n) (λ first x. false)
      (λ first t k. (ap is_left k, k))
      (λ first t x ys g k. let r : List Mark = marks.externals ys [] in (external_left x r t k, g.1, (e first).found t x r g.0.0 g.0.1 (nothing_stops x r) k))
      (λ first t x u a k. ((e first).piece t x u k).used)
      (length s.rest + 1) true s xs (omega arith) f h

  unit_found : (s : State) (l : ℕ) (xs : List ExternalTree) → FitsUnit record { line = l; externals = xs } → externals_height xs ≤ n → RunsOn (marks.unit record { line = l; externals = xs }) s → Finds (unit R (suc n) s) record { line = l; externals = xs } []
  unfolding unit
  unit_found s l [] f w h = absurd f.0
  unit_found s l (x ∷ xs) f w h =
      here_finds l (marks.externals (x ∷ xs) []) [] s (λ line. bind (all_of goes (external R n) (λ first x. false) true s) (λ ys t. some_externals line ys t)) record { line = l; externals = x ∷ xs } h (λ k.
      bind_finds (all_of goes (external R n) (λ first x. false) true s) (x ∷ xs) [] [] (λ ys t. some_externals l ys t) record { line = l; externals = x ∷ xs } (externals_found s (x ∷ xs) (unit_fit n (x ∷ xs) f.0 f.1 w) k) (λ t g. (refl, g)))

-- ---- all of it

no_unit : (R : ℕ → Readers) (s : State) → unit R zero s ≡ None
unfolding unit
no_unit R s = refl

pub unit_fits : (R : ℕ → Readers) (n : ℕ) → ((m : ℕ) → m ≤ n → Parts R m) → (s : State) (u : UnitTree) (t : State) → unit R n s ≡ Some (u, t) → IsUnit n s u t
unit_fits R zero p s u t h = let e = no_unit R s in absurd cc
unit_fits R (suc n) p s u t h = read_so (unit R (suc n) s) (IsUnit (suc n) s) u t (unit_yields R n (external_exact R n (λ m w. p m (omega arith))) s) h

pub unit_is_found : (R : ℕ → Readers) (n : ℕ) → ((m : ℕ) → m ≤ n → Parts R m) → (s : State) (u : UnitTree) → FitsUnit u → unit_height u ≤ n → RunsOn (marks.unit u) s → (t : State) × (unit R n s ≡ Some (u, t))
unit_is_found R zero p s u f w h = absurd (omega arith)
unit_is_found R (suc n) p s u f w h = found_read (unit R (suc n) s) u [] (unit_found R n (external_exact R n (λ m v. p m (omega arith))) s u.line u.externals f (omega arith) h)

-- where the readers of parts up to each limit are exact, so are those of units
pub units_are_exact : (R : ℕ → Readers) (n : ℕ) → ((m : ℕ) → m ≤ n → Parts R m) → UnitsAreExact R n
units_are_exact R n p =
    let q = p n (omega arith) in
    record {
      initialiser = q.initialiser;
      declaration = q.declaration;
      declarations = q.declarations;
      statement = q.statement;
      unit_fits = unit_fits R n p;
      unit_found = unit_is_found R n p;
    }
