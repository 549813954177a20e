-- What is read in a table of labels: the bytes of each, and the word that they are.
use Rattle.std.specs.Prelude.{◌≡◌, ◌≤◌, ℕ, zero, suc, ◌+◌, ◌*◌, ◌%◌, ◌==◌, ◌&&◌, pos, not, nat_lt, int_le, Bool, true, false, Option, Some, None, is_none, Ok, List, [], ◌∷◌, ◌++◌, length, map, take, drop, flat_map, slice_get, if◌then◌else◌}
use Rattle.std.proofs.Common.{refl, sym, ap, ◌∙◌, arith, length-append}
use Rattle.std.proofs.Math.Seq.{take-append_seam, drop-append-add}
use Rattle.std.proofs.lemmas.Bool.{eq-eqb, le-leb}
use Rattle.std.proofs.lemmas.List.{length-map}
use Rattle.std.proofs.lemmas.Option.{slice_get_within}
use Rattle.lcc_base.specs.declared.cause.Cause.{Cause}
use Rattle.lcc_base.specs.declared.cause.Cause.TheVariants.{Dead, PointerRange}
use Rattle.lcc_base.specs.declared.order.Order.{Order}
use Rattle.lcc_base.specs.declared.order.Order.TheVariants.{Big, Little}
use Rattle.objects.specs.declared.byte.Byte.{Byte}
use Rattle.objects.specs.declared.value.ObjectName.{ObjectName}
use Rattle.objects.specs.declared.value.Value.{Value}
use Rattle.objects.specs.declared.value.Value.TheVariants.{Pointer}
use Rattle.objects.proofs.lemmas.AccessLaws.{no_read_cause}
use Rattle.objects.specs.Accesses.{read_cause}
use Rattle.objects.specs.Bytes.{unknown_byte}
use Rattle.objects.specs.Causes.{unless, is_dead, leaves_object}
use Rattle.objects.specs.Objects.{if_named, is_named, object_of}
use Rattle.objects.specs.Objects.{Object as Shape}
use Rattle.objects.specs.Pointers.{moved, place_after}
use Rattle.op_forest.specs.declared.lowered.Datum.TheVariants as datum
use Rattle.op_forest.specs.declared.lowered.LoweredFunction.{LoweredFunction}
use Rattle.op_forest.specs.Lowered.{LoweredUnit}
use Rattle.forests.specs.Accesses.{defined, word_read}
use Rattle.forests.specs.Objects.{Object, contents, shape_of, shapes}
use Rattle.forests.specs.Units.{bytes_in, label_word, size_by}
use Rattle.forests.specs.WordBytes.{word_bytes, word_in}
use Rattle.forests.proofs.lemmas.WordLaws.{word_back}
use Rattle.forests.specs.Words.{Word, Plain, Label}
use Rattle.forests.specs.Worlds.{World}
use Rattle.c_runs.specs.Worlds as c
use Rattle.c_match.specs.Ranges.{Map}
use Rattle.c_match_objects.proofs.lemmas.Pointers.{given}
use Rattle.c_match_objects.proofs.lemmas.Reached.{not_before, shape_at}
use Rattle.c_match_worlds.specs.Matches.{Matches, name_in, object_in}
use Rattle.c_expr_agreement.specs.Scenes.{Scene}
use Rattle.c_stmts_agree.specs.Tables.{IsTableAt}

both_true : (a b : Bool) → a ≡ true → b ≡ true → (a && b) ≡ true
both_true a b p q = cc

-- ---- the bytes of labels, four of each

module _ (u : LoweredUnit) (number : ℕ) (function : LoweredFunction) (is : slice_get u.functions number ≡ Some function) where
  abbrev bytes_of : List ℕ → List (Byte Word)
  bytes_of labels = flat_map (bytes_in u) (map (λ l. datum.Label number l) labels)

  abbrev one : ℕ → List (Byte Word)
  one l = bytes_in u (datum.Label number l)

  one_is : (l : ℕ) → one l ≡ word_bytes u.order (Label function.name l)
  one_is l = ap (λ (o : Option LoweredFunction). word_bytes u.order (label_word o l)) is

  four : (order : Order) (f l : ℕ) → length (word_bytes order (Label f l)) ≡ 4
  four Big f l = refl
  four Little f l = refl

  one_long : (l : ℕ) → length (one l) ≡ 4
  one_long l = ap (λ (bs : List (Byte Word)). length bs) (one_is l) ∙ four u.order function.name l

  pub all_long : (labels : List ℕ) → length (bytes_of labels) ≡ 4 * length labels
  all_long [] = refl
  all_long (l ∷ ls) = let e = length-append (one l) (bytes_of ls) in let a = one_long l in let b = all_long ls in omega (arith, e, a, b)

  four_there : (labels : List ℕ) (d l : ℕ) → slice_get labels d ≡ Some l → take 4 (drop (4 * d) (bytes_of labels)) ≡ one l
  four_there [] d l e = absurd (let never : ⊥ = cc in never)
  four_there (m ∷ ms) zero l e =
      let same : m ≡ l = cc in
      ap (λ (n : ℕ). take n (one m ++ bytes_of ms)) (sym (one_long m)) ∙ take-append_seam (one m) (bytes_of ms) ∙ ap (λ (n : ℕ). one n) same
  four_there (m ∷ ms) (suc d) l e =
      let long = one_long m in
      let behind : 4 * suc d ≡ length (one m) + 4 * d = omega (arith, long) in
      ap (λ (n : ℕ). take 4 (drop n (one m ++ bytes_of ms))) behind
      ∙ ap (λ (bs : List (Byte Word)). take 4 bs) (drop-append-add (one m) (bytes_of ms) (4 * d))
      ∙ four_there ms d l e

  -- the word that they are
  pub word_there : (labels : List ℕ) (d l : ℕ) → slice_get labels d ≡ Some l → word_in u.order (take 4 (drop (4 * d) (bytes_of labels))) ≡ Label function.name l
  word_there labels d l e =
      ap (λ (bs : List (Byte Word)). word_in u.order bs) (four_there labels d l e ∙ one_is l) ∙ word_back u.order (Label function.name l) tt

-- ---- the table, among the objects of a run

module _ (s : Scene) (map_of : Map) (old : c.World) (w : World) (matches : Matches s.lowered s.own map_of old w) (name : ℕ) (labels : List ℕ) (table : IsTableAt s name labels) where
  abbrev pub object : ObjectName
  object = name_in s.lowered table.place

  abbrev home : Object
  home = object_in s.lowered table.place table.object

  there : slice_get w.objects table.place ≡ Some home
  there = (matches.tables table.place table.object table.behind table.there).0

  holds : home.bytes ≡ flat_map (bytes_in s.lowered) (map (λ l. datum.Label table.number l) labels)
  holds = ap (λ ds. flat_map (bytes_in s.lowered) ds) table.items

  size : object.size ≡ 4 * length labels
  size = ap size_by table.there ∙ table.size

  long : length home.bytes ≡ object.size
  long = ap (λ (bs : List (Byte Word)). length bs) holds ∙ all_long s.lowered table.number table.function table.runs labels ∙ sym size

  named : is_named object (shape_of home) ≡ true
  named =
      both_true (home.made == object.made) (length (shape_of home).bytes == object.size) (eq-eqb home.made object.made refl)
      (eq-eqb (length (shape_of home).bytes) object.size (length-map home.bytes (λ b. unknown_byte {V = Value}) ∙ long))

  lives : is_none (object_of (shapes w.objects) object) ≡ false
  lives =
      ap (λ (o : Option Shape). is_none (if_named object o)) (shape_at w.objects table.place home there)
      ∙ ap (λ (b : Bool). is_none (if b then Some (shape_of home) else None)) named

  -- its name moved by a number of bytes in it
  pub moves : (by : ℕ) → by ≤ 4 * length labels → moved (shapes w.objects) (Pointer object 0) (pos by) ≡ Ok (Pointer object by)
  moves by lt =
      let p = Pointer object 0 in
      let same : 0 + by ≡ by = omega arith in
      let first : int_le (pos 0) (pos by) ≡ true = le-leb 0 by (omega arith) in
      let last : int_le (pos by) (pos object.size) ≡ true = le-leb by object.size (let e = size in omega (arith, e, lt)) in
      let inside : leaves_object p (pos by) ≡ false =
      ap (λ (m : ℕ). not (int_le (pos 0) (pos m) && int_le (pos m) (pos object.size))) same ∙ ap (λ (b : Bool). not b) (both_true (int_le (pos 0) (pos by)) (int_le (pos by) (pos object.size)) first last)
      in
      given (is_dead (shapes w.objects) p) (leaves_object p (pos by)) Dead PointerRange (place_after p (pos by)) lives inside ∙ ap (λ (m : ℕ). Ok (Pointer object m)) same

  -- the word that is read there
  pub reads : (d l : ℕ) → slice_get labels d ≡ Some l → word_read s.lowered.order w.objects (Plain (Pointer object (4 * d))) ≡ Some (Label table.function.name l)
  reads d l e =
      let within = slice_get_within labels d l e in
      let bytes = take 4 (drop (4 * d) home.bytes) in
      let outside : nat_lt object.size (4 * d + 4) ≡ false = not_before object.size (4 * d + 4) (let a = size in omega (arith, a, within)) in
      let misaligned : not (4 * d % 4 == 0) ≡ false = ap (λ (b : Bool). not b) (eq-eqb (4 * d % 4) 0 (omega arith)) in
      ap (λ (o : Option Object). defined (unless (read_cause (shapes w.objects) (Pointer object (4 * d)) 4 4) (word_in s.lowered.order (take 4 (drop (4 * d) (contents o)))))) there
      ∙ ap (λ (c : Option Cause). defined (unless c (word_in s.lowered.order bytes))) (no_read_cause (shapes w.objects) object (4 * d) 4 outside misaligned lives)
      ∙ ap (λ (bs : List (Byte Word)). Some (word_in s.lowered.order (take 4 (drop (4 * d) bs)))) holds
      ∙ ap (λ (v : Word). Some v) (word_there s.lowered table.number table.function table.runs labels d l e)
