-- Slots of the frame are temporaries.
use Rattle.std.proofs.Common.{◌≡◌, ℕ, ◌+◌, ◌-◌, ◌%◌, ◌^◌, ◌≤◌, ℤ, [], ◌∷◌, ◌++◌, List, Bool, true, false, Option, Some, None, refl, sym, ap, ◌∙◌, arith}
use Rattle.std.specs.Prelude.{slice_get, is_none, nat_lt, not, ◌==◌}
use Rattle.std.proofs.lemmas.Option.{slice_get-map}
use Rattle.std.proofs.Math.Nat.{mod-eq_of_lt}
use Rattle.lcc_base.specs.declared.cause.Cause.{Cause}
use Rattle.lcc_base.specs.declared.cause.Cause.TheVariants.{Outside, Misaligned, Dead, ReadOnly}
use Rattle.lcc_base.specs.declared.order.Order.{Order}
use Rattle.objects.specs.declared.purpose.Purpose.TheVariants.{Assignment}
use Rattle.objects.specs.declared.value.ObjectName.{ObjectName}
use Rattle.objects.specs.declared.value.Value.TheVariants.{Pointer}
use Rattle.objects.specs.declared.width.Width.{Width}
use Rattle.objects.specs.declared.width.Width.TheVariants as width
use Rattle.objects.specs.Values.{bytes_in, bits_in}
use Rattle.objects.proofs.lemmas.BitLaws.{low_below}
use Rattle.objects.specs.Accesses.{write_cause}
use Rattle.objects.proofs.lemmas.AccessLaws.{first_not, first_rest, not_less}
use Rattle.objects.specs.Causes.{first_cause, unless, is_dead, is_refused}
use Rattle.op_forest.specs.declared.op.Op.TheVariants as op
use Rattle.op_forest.specs.declared.suffix.Suffix.{Suffix}
use Rattle.op_forest.specs.declared.suffix.Suffix.TheVariants.{C, S, I, U, P}
use Rattle.op_forest.specs.Nodes.{Node as Tree}
use Rattle.op_forest.specs.Nodes.{One as OneTree, Two as TwoTree}
use Rattle.forests.specs.Words.{Word, Plain, Partly, IsWord, narrow, low_number}
use Rattle.forests.specs.WordBytes.{word_bytes}
use Rattle.forests.proofs.lemmas.WordLaws.{stored_elsewhere, word_is_read, number_is_read}
use Rattle.forests.specs.Objects.{Object, shapes, shape_of, stored_through}
use Rattle.forests.specs.Alike.{AreAlike}
use Rattle.forests.proofs.lemmas.Kept.{shapes-stored_through}
use Rattle.forests.specs.Accesses.{defined, word_read, word_written, number_read, number_written, number_written_by}
use Rattle.forests.specs.Addresses.{local}
use Rattle.forests.specs.Worlds.{World, Point, at_world, with_objects, Next, Effect, Went, then_do}
use Rattle.forests.specs.Actions.{effect_of, gave, changed}
use Rattle.forests.specs.Bodies.{Setting, does, evaluate}
use Rattle.dag_forest.specs.Meaning.{IsTemporary, IsOf, LowBits}
use Rattle.dag_forest.specs.Slots.{Kind, Char, Short, Signed, Unsigned, Address, head, slot_address, slot_temporary, known_low, low_bytes, kept_bytes}

no_cause : (c : Option Cause) → is_none c ≡ true → c ≡ None
no_cause None h = refl
no_cause (Some c) h = absurd cc

-- ---- narrow numbers

-- a place in a slot, where so many bytes may be written
abbrev IsFree : List Object → ObjectName → ℕ → Type 0
IsFree objects name size = write_cause Assignment (shapes objects) (Pointer name 0) size size ≡ None

less_is_inside : (size most few : ℕ) → few ≤ most → nat_lt size (0 + most) ≡ false → nat_lt size (0 + few) ≡ false
less_is_inside size most few h e = let l : 0 + most ≤ size = not_less size (0 + most) e in grind (arith, l, h)

-- where 4 bytes may be written from the first one on, fewer may
fewer : (objects : List Object) (name : ObjectName) (size : ℕ) → size ≤ 4 → not (0 % size == 0) ≡ false → IsFree objects name 4 → IsFree objects name size
fewer objects name size h aligned free =
    let p = Pointer name 0 in
    let last = (is_refused Assignment (shapes objects) p, ReadOnly) ∷ [] in
    let third = (is_dead (shapes objects) p, Dead) ∷ last in
    let outside : nat_lt name.size (0 + size) ≡ false = less_is_inside name.size 4 size h (first_not (nat_lt name.size (0 + 4)) Outside third free) in
    ap (λ (b : Bool). first_cause ((b, Outside) ∷ (not (0 % size == 0), Misaligned) ∷ third)) outside
    ∙ ap (λ (b : Bool). first_cause ((b, Misaligned) ∷ third)) aligned
    ∙ first_rest (nat_lt name.size (0 + 4)) Outside third free

-- the low number of a narrow word
low_of : (w : Width) (n : ℕ) → low_number (bits_in w) (narrow (bits_in w) n) ≡ Some (n % 2 ^ bits_in w % 2 ^ bits_in w)
low_of width.One n = refl
low_of width.Two n = refl
low_of width.Four n = refl

low_again : (w : Width) (n : ℕ) → narrow (bits_in w) (n % 2 ^ bits_in w % 2 ^ bits_in w) ≡ narrow (bits_in w) n
low_again w n =
    let once : n % 2 ^ bits_in w % 2 ^ bits_in w ≡ n % 2 ^ bits_in w = mod-eq_of_lt (low_below n (bits_in w)) in
    ap (λ (x : ℕ). Partly (2 ^ bits_in w - 1) x) (ap (λ (x : ℕ). x % 2 ^ bits_in w) once ∙ once)

known_is_written : (order : Order) (w : Width) (objects : List Object) (name : ObjectName) (m : Option ℕ) (k : ℕ) → m ≡ Some k → IsFree objects name (bytes_in w) → number_written_by m order w objects (Plain (Pointer name 0)) ≡ Some (stored_through objects (Pointer name 0) (known_low order w m))
known_is_written order w objects name None k e free = absurd (let never : ⊥ = cc in never)
known_is_written order w objects name (Some m) k e free = ap (λ c. defined (unless c (stored_through objects (Pointer name 0) (known_low order w (Some m))))) free

-- where its bytes may be written, a narrow word is
low_is_written : (order : Order) (w : Width) (v : Word) (objects : List Object) (name : ObjectName) → IsOf (LowBits (bits_in w)) v → IsFree objects name (bytes_in w) → number_written order w v objects (Plain (Pointer name 0)) ≡ Some (stored_through objects (Pointer name 0) (low_bytes order w v))
low_is_written order w v objects name is free =
    known_is_written order w objects name (low_number (bits_in w) v) _ (ap (low_number (bits_in w)) is.1 ∙ low_of w is.0) free

-- and read back
low_is_read : (order : Order) (w : Width) (v : Word) (objects : List Object) (name : ObjectName) → IsOf (LowBits (bits_in w)) v → IsFree objects name (bytes_in w) → number_read order w (stored_through objects (Pointer name 0) (low_bytes order w v)) (Plain (Pointer name 0)) ≡ Some v
low_is_read order w v objects name is free =
    number_is_read order w v _ objects _ (Plain (Pointer name 0)) (ap (low_number (bits_in w)) is.1 ∙ low_of w is.0) (low_is_written order w v objects name is free)
    ∙ ap (λ (x : Word). Some x) (low_again w is.0 ∙ sym is.1)

-- ---- what is read and written

-- a word is read alike where its object is the same, and so is a narrow number
read_alike : (order : Order) (a b : List Object) (name : ObjectName) → slice_get a name.place ≡ slice_get b name.place → word_read order a (Plain (Pointer name 0)) ≡ word_read order b (Plain (Pointer name 0))
read_alike order a b name e =
    rw (slice_get-map shape_of a name.place, slice_get-map shape_of b name.place, e) refl

low_alike : (order : Order) (w : Width) (a b : List Object) (name : ObjectName) → slice_get a name.place ≡ slice_get b name.place → number_read order w a (Plain (Pointer name 0)) ≡ number_read order w b (Plain (Pointer name 0))
low_alike order w a b name e =
    rw (slice_get-map shape_of a name.place, slice_get-map shape_of b name.place, e) refl

-- where a slot may be written, its word is
is_written : (order : Order) (name : ObjectName) (v : Word) (objects : List Object) → IsFree objects name 4 → word_written order v objects (Plain (Pointer name 0)) ≡ Some (stored_through objects (Pointer name 0) (word_bytes order v))
is_written order name v objects h = ap (λ c. defined (unless c (stored_through objects (Pointer name 0) (word_bytes order v)))) h

module _ (s : Setting) (name : ObjectName) (offset : ℤ) (is : local s.environment.home (Some offset) ≡ Some (Plain (Pointer name 0))) where
  addressed : (p : Point) → evaluate s (slot_address offset) p ≡ Went (Plain (Pointer name 0) ∷ []) p Next
  addressed p = ap (λ w. effect_of s.call (gave w) p) is

  free : (w : World) → is_none (write_cause Assignment (shapes w.objects) (Pointer name 0) 4 4) ≡ true → IsFree w.objects name 4
  free w there = no_cause (write_cause Assignment (shapes w.objects) (Pointer name 0) 4 4) there

  back : (v : Word) (w : World) (p : Point) → IsWord v → is_none (write_cause Assignment (shapes w.objects) (Pointer name 0) 4 4) ≡ true
      → slice_get p.world.objects name.place ≡ slice_get (stored_through w.objects (Pointer name 0) (word_bytes s.environment.order v)) name.place
      → word_read s.environment.order p.world.objects (Plain (Pointer name 0)) ≡ Some v
  back v w p word there same =
      read_alike s.environment.order p.world.objects (stored_through w.objects (Pointer name 0) (word_bytes s.environment.order v)) name same
      ∙ word_is_read s.environment.order v w.objects _ (Plain (Pointer name 0)) word (is_written s.environment.order name v w.objects (free w there))

  low_back : (x : Width) (v : Word) (w : World) (p : Point) → IsOf (LowBits (bits_in x)) v → IsFree w.objects name (bytes_in x)
      → slice_get p.world.objects name.place ≡ slice_get (stored_through w.objects (Pointer name 0) (low_bytes s.environment.order x v)) name.place
      → number_read s.environment.order x p.world.objects (Plain (Pointer name 0)) ≡ Some v
  low_back x v w p can may same =
      low_alike s.environment.order x p.world.objects (stored_through w.objects (Pointer name 0) (low_bytes s.environment.order x v)) name same
      ∙ low_is_read s.environment.order x v w.objects name can may

  -- a read of the slot does what its operator does at the slot's address
  reads : (x : Suffix) (v : Word) (p : Point) → does s (head op.Indir x None) (Plain (Pointer name 0) ∷ []) p ≡ Went (v ∷ []) p Next → evaluate s (OneTree (head op.Indir x None) (slot_address offset)) p ≡ Went (v ∷ []) p Next
  reads x v p row = ap (λ e. then_do e (λ xs p1. does s (head op.Indir x None) xs p1)) (addressed p) ∙ row

  -- a store in the slot, once the tree gave this
  stored : (x : Suffix) (tree : Tree) (p : Point) (e : Effect) → evaluate s tree p ≡ e → evaluate s (TwoTree (head op.Asgn x None) (slot_address offset) tree) p ≡ then_do e (λ ys p2. does s (head op.Asgn x None) (Plain (Pointer name 0) ∷ ys) p2)
  stored x tree p e is_e =
      ap (λ z. then_do z (λ xs p1. then_do (evaluate s tree p1) (λ ys p2. does s (head op.Asgn x None) (xs ++ ys) p2))) (addressed p)
      ∙ ap (λ z. then_do z (λ ys p2. does s (head op.Asgn x None) (Plain (Pointer name 0) ∷ ys) p2)) is_e

  -- a tree below CVUI gives what the tree gives
  converted : (tree : Tree) (p : Point) (e : Effect) → evaluate s tree p ≡ e → evaluate s (OneTree (head op.Cvu I None) tree) p ≡ then_do e (λ ys p2. does s (head op.Cvu I None) ys p2)
  converted tree p e is_e = ap (λ z. then_do z (λ ys p2. does s (head op.Cvu I None) ys p2)) is_e

  others : (k : Kind) (v : Word) (w : World) (o : ℕ) → (o ≡ name.place → ⊥) → slice_get ((slot_temporary s.environment.order k name offset).put v w).objects o ≡ slice_get w.objects o
  others k v w o ne = stored_elsewhere w.objects name.place 0 (kept_bytes s.environment.order k v) o ne

  shape : (k : Kind) (v : Word) (w : World) → AreAlike w.objects ((slot_temporary s.environment.order k name offset).put v w).objects
  shape k v w = sym (shapes-stored_through w.objects (Pointer name 0) (kept_bytes s.environment.order k v))

  -- objects that are changed so
  change : (p : Point) (new : Option (List Object)) (objects : List Object) → new ≡ Some objects → effect_of s.call (changed new) p ≡ Went [] (at_world p (with_objects p.world objects)) Next
  change p new objects e = ap (λ x. effect_of s.call (changed x) p) e

  -- a value that is given
  gives_it : (p : Point) (o : Option Word) (v : Word) → o ≡ Some v → effect_of s.call (gave o) p ≡ Went (v ∷ []) p Next
  gives_it p o v e = ap (λ x. effect_of s.call (gave x) p) e

  pub is_temporary : (k : Kind) → IsTemporary s (slot_temporary s.environment.order k name offset)
  is_temporary Char =
      record {
        reads = λ v w p can there same. reads C v p (gives_it p _ v (low_back width.One v w p can (fewer w.objects name 1 (omega arith) refl (free w there)) same));
        stores = λ tree v p p1 e can there. stored C tree p _ e ∙ change p1 _ _ (low_is_written s.environment.order width.One v p1.world.objects name can (fewer p1.world.objects name 1 (omega arith) refl (free p1.world there)));
        exits = λ tree p status w e. stored C tree p _ e;
        unfinished = λ tree p w e. stored C tree p _ e;
        others = others Char;
        shape = shape Char;
      }
  is_temporary Short =
      record {
        reads = λ v w p can there same. reads S v p (gives_it p _ v (low_back width.Two v w p can (fewer w.objects name 2 (omega arith) refl (free w there)) same));
        stores = λ tree v p p1 e can there. stored S tree p _ e ∙ change p1 _ _ (low_is_written s.environment.order width.Two v p1.world.objects name can (fewer p1.world.objects name 2 (omega arith) refl (free p1.world there)));
        exits = λ tree p status w e. stored S tree p _ e;
        unfinished = λ tree p w e. stored S tree p _ e;
        others = others Short;
        shape = shape Short;
      }
  is_temporary Signed =
      record {
        reads = λ v w p can there same. reads I v p (gives_it p _ v (back v w p can there same));
        stores = λ tree v p p1 e can there. stored I tree p _ e ∙ change p1 _ _ (is_written s.environment.order name v p1.world.objects (free p1.world there));
        exits = λ tree p status w e. stored I tree p _ e;
        unfinished = λ tree p w e. stored I tree p _ e;
        others = others Signed;
        shape = shape Signed;
      }
  is_temporary Unsigned =
      record {
        reads = λ v w p can there same. ap (λ e. then_do e (λ xs p1. does s (head op.Cvi U None) xs p1)) (reads I v p (gives_it p _ v (back v w p can there same)));
        stores = λ tree v p p1 e can there. stored I (OneTree (head op.Cvu I None) tree) p _ (converted tree p _ e) ∙ change p1 _ _ (is_written s.environment.order name v p1.world.objects (free p1.world there));
        exits = λ tree p status w e. stored I (OneTree (head op.Cvu I None) tree) p _ (converted tree p _ e);
        unfinished = λ tree p w e. stored I (OneTree (head op.Cvu I None) tree) p _ (converted tree p _ e);
        others = others Unsigned;
        shape = shape Unsigned;
      }
  is_temporary Address =
      record {
        reads = λ v w p can there same. reads P v p (gives_it p _ v (back v w p can there same));
        stores = λ tree v p p1 e can there. stored P tree p _ e ∙ change p1 _ _ (is_written s.environment.order name v p1.world.objects (free p1.world there));
        exits = λ tree p status w e. stored P tree p _ e;
        unfinished = λ tree p w e. stored P tree p _ e;
        others = others Address;
        shape = shape Address;
      }
