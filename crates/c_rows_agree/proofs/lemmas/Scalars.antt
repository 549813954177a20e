-- Scalars read and written at places.
use Rattle.std.specs.Prelude.{◌≡◌, ℕ, ◌%◌, ◌^◌, Bool, true, false, Some, Ok, List}
use Rattle.std.proofs.Common.{refl, ap, ◌∙◌}
use Rattle.objects.specs.declared.purpose.Purpose.{Purpose}
use Rattle.objects.specs.declared.value.Value.{Value}
use Rattle.objects.specs.declared.value.Value.TheVariants.{Number, Pointer, Function}
use Rattle.objects.specs.declared.width.Scalar.{Scalar}
use Rattle.objects.specs.declared.width.Width.{Width}
use Rattle.objects.specs.declared.width.Width.TheVariants as width
use Rattle.objects.specs.Accesses.{read, written}
use Rattle.objects.specs.Objects.{Object as Old}
use Rattle.op_forest.specs.declared.suffix.Suffix.{Suffix}
use Rattle.op_forest.specs.declared.suffix.Suffix.TheVariants.{C, S, I, U, P, B, V}
use Rattle.forests.specs.Actions.{Stored, gave, changed}
use Rattle.forests.specs.Accesses.{word_written}
use Rattle.forests.specs.Objects.{Object}
use Rattle.forests.specs.Words.{Word, narrow, low_number}
use Rattle.c_match.specs.Held.{IsOpenTo}
use Rattle.c_match_objects.proofs.lemmas.Reads.{word_reads, number_by}
use Rattle.c_match_objects.proofs.lemmas.StoredScalars.{word_stored as stored_word, number_stored}
use Rattle.c_rows_agree.specs.Templates.{Template, Scene, Gives, Acts}
use Rattle.c_rows_agree.specs.Typed.{Typed, Holds, as_p}
use Rattle.c_rows_agree.specs.Places.{HoldsObjects, IsStored, loaded_by, loaded, loaded_pointer, word_stored, stored_by, stored_as}
use Rattle.c_rows_agree.proofs.lemmas.Conversions.{low_twice, c_gives, s_gives}
use Rattle.c_rows_agree.proofs.lemmas.Suffixes.{i_gives, p_gives}

-- ---- reads

abbrev scalar : Width → Bool → Scalar
scalar w signed = record { width = w; signed = signed }

module _ (k : Scene) (old : List Old) (a : Typed) (p v : Value) (os : HoldsObjects k old) (h : Holds k a p) where
  place_gives : Gives k (as_p a) h.word
  place_gives = p_gives k a.suffix a.tree h.word h.gives

  one_loaded : (signed : Bool) → read k.environment.order (scalar width.One signed) old p ≡ Ok v → Holds k (loaded_by width.One signed (as_p a)) v
  one_loaded true e = (let r = number_by k.map old k.objects k.environment.order (scalar width.One true) p v h.word os.held os.sound h.is (λ f. (let never : ⊥ = cc in never)) e in record { word = r.1; gives = (r.0, (h.word, place_gives, ap gave r.2), ap gave r.3); is = r.4 })
  one_loaded false e = (let r = number_by k.map old k.objects k.environment.order (scalar width.One false) p v h.word os.held os.sound h.is (λ f. (let never : ⊥ = cc in never)) e in record { word = r.1; gives = (r.0, (h.word, place_gives, ap gave r.2), ap gave r.3); is = r.4 })

  two_loaded : (signed : Bool) → read k.environment.order (scalar width.Two signed) old p ≡ Ok v → Holds k (loaded_by width.Two signed (as_p a)) v
  two_loaded true e = (let r = number_by k.map old k.objects k.environment.order (scalar width.Two true) p v h.word os.held os.sound h.is (λ f. (let never : ⊥ = cc in never)) e in record { word = r.1; gives = (r.0, (h.word, place_gives, ap gave r.2), ap gave r.3); is = r.4 })
  two_loaded false e = (let r = number_by k.map old k.objects k.environment.order (scalar width.Two false) p v h.word os.held os.sound h.is (λ f. (let never : ⊥ = cc in never)) e in record { word = r.1; gives = (r.0, (h.word, place_gives, ap gave r.2), ap gave r.3); is = r.4 })

  scalar_loaded : (w : Width) (signed : Bool) → read k.environment.order (scalar w signed) old p ≡ Ok v → Holds k (loaded_by w signed (as_p a)) v
  scalar_loaded width.One signed e = one_loaded signed e
  scalar_loaded width.Two signed e = two_loaded signed e
  scalar_loaded width.Four signed e =
      let r = word_reads k.map old k.objects k.environment.order (scalar width.Four signed) p v h.word os.held os.sound h.is refl e in
      record { word = r.0; gives = (h.word, place_gives, ap gave r.1); is = r.2 }

pub scalar_read : (k : Scene) (old : List Old) (s : Scalar) (a : Typed) (p v : Value) → HoldsObjects k old → Holds k a p → read k.environment.order s old p ≡ Ok v → Holds k (loaded s a) v
scalar_read k old s a p v os h e = scalar_loaded k old a p v os h s.width s.signed e

pub pointer_read : (k : Scene) (old : List Old) (s : Scalar) (a : Typed) (p v : Value) → HoldsObjects k old → Holds k a p → s.width ≡ width.Four → read k.environment.order s old p ≡ Ok v → Holds k (loaded_pointer a) v
pointer_read k old s a p v os h four e =
    let r = word_reads k.map old k.objects k.environment.order s p v h.word os.held os.sound h.is four e in
    record { word = r.0; gives = (h.word, p_gives k a.suffix a.tree h.word h.gives, ap gave r.1); is = r.2 }

-- ---- stores

-- a word, with the suffix of a pointer or as an integer
word_acts : (k : Scene) (s : Suffix) (a t : Template) (w u : Word) (after : List Object) → Gives k a w → Gives k t u → word_written k.environment.order u k.objects w ≡ Some after → Acts k (word_stored s a t) (Stored after)
word_acts k P a t w u after g h e = record { first = w; second = u; left = g; right = h; does = ap changed e }
word_acts k C a t w u after g h e = record { first = w; second = u; left = g; right = i_gives k C t u h; does = ap changed e }
word_acts k S a t w u after g h e = record { first = w; second = u; left = g; right = i_gives k S t u h; does = ap changed e }
word_acts k I a t w u after g h e = record { first = w; second = u; left = g; right = i_gives k I t u h; does = ap changed e }
word_acts k U a t w u after g h e = record { first = w; second = u; left = g; right = i_gives k U t u h; does = ap changed e }
word_acts k B a t w u after g h e = record { first = w; second = u; left = g; right = i_gives k B t u h; does = ap changed e }
word_acts k V a t w u after g h e = record { first = w; second = u; left = g; right = i_gives k V t u h; does = ap changed e }

low_one : (n : ℕ) → low_number 8 (narrow 8 (n % 2 ^ 8)) ≡ Some (n % 2 ^ 8)
low_one n = ap (λ (x : ℕ). Some x) (low_twice (n % 2 ^ 8) 8 ∙ low_twice n 8)

low_two : (n : ℕ) → low_number 16 (narrow 16 (n % 2 ^ 16)) ≡ Some (n % 2 ^ 16)
low_two n = ap (λ (x : ℕ). Some x) (low_twice (n % 2 ^ 16) 16 ∙ low_twice n 16)

module _ (k : Scene) (old new : List Old) (purpose : Purpose) (a b : Typed) (p : Value) (os : HoldsObjects k old) (open_to : IsOpenTo purpose k.map k.objects p) (h : Holds k a p) where
  at_place : Gives k (as_p a) h.word
  at_place = p_gives k a.suffix a.tree h.word h.gives

  one_stored : (n : ℕ) → Holds k b (Number n) → written purpose k.environment.order width.One (Number n) old p ≡ Ok new → IsStored k old new (stored_by width.One (as_p a) b)
  one_stored n g e =
      let s = number_stored k.map old new k.objects k.environment.order purpose width.One p n h.word (narrow 8 (n % 2 ^ 8)) os.held h.is open_to (low_one n) e in
      record { after = s.0; acts = record { first = h.word; second = narrow 8 (n % 2 ^ 8); left = at_place; right = c_gives k b.suffix b.tree g.word n g.gives g.is; does = ap changed s.1 }; kept = s.2 }

  two_stored : (n : ℕ) → Holds k b (Number n) → written purpose k.environment.order width.Two (Number n) old p ≡ Ok new → IsStored k old new (stored_by width.Two (as_p a) b)
  two_stored n g e =
      let s = number_stored k.map old new k.objects k.environment.order purpose width.Two p n h.word (narrow 16 (n % 2 ^ 16)) os.held h.is open_to (low_two n) e in
      record { after = s.0; acts = record { first = h.word; second = narrow 16 (n % 2 ^ 16); left = at_place; right = s_gives k b.suffix b.tree g.word n g.gives g.is; does = ap changed s.1 }; kept = s.2 }

  scalar_written : (w : Width) (v : Value) → Holds k b v → written purpose k.environment.order w v old p ≡ Ok new → IsStored k old new (stored_by w (as_p a) b)
  scalar_written width.One (Number n) g e = one_stored n g e
  scalar_written width.One (Pointer object offset) g e = absurd (let never : ⊥ = cc in never)
  scalar_written width.One (Function f) g e = absurd (let never : ⊥ = cc in never)
  scalar_written width.Two (Number n) g e = two_stored n g e
  scalar_written width.Two (Pointer object offset) g e = absurd (let never : ⊥ = cc in never)
  scalar_written width.Two (Function f) g e = absurd (let never : ⊥ = cc in never)
  scalar_written width.Four v g e =
      let s = stored_word k.map old new k.objects k.environment.order purpose p v h.word g.word os.held h.is open_to g.is e in
      record { after = s.0; acts = word_acts k b.suffix (as_p a) b.tree h.word g.word s.0 at_place g.gives s.1; kept = s.2 }

pub scalar_stored : (k : Scene) (old new : List Old) (purpose : Purpose) (w : Width) (a b : Typed) (p v : Value) → HoldsObjects k old → IsOpenTo purpose k.map k.objects p → Holds k a p → Holds k b v → written purpose k.environment.order w v old p ≡ Ok new → IsStored k old new (stored_as w a b)
scalar_stored k old new purpose w a b p v os open_to h g e = scalar_written k old new purpose a b p os open_to h w v g e
