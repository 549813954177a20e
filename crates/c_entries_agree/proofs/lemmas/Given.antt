-- What the parameters of a call of C are given, and the world in which its body begins.
use Rattle.std.specs.Prelude.{◌≡◌, ◌≤◌, ◌<◌, ℕ, zero, suc, ◌+◌, ◌-◌, ◌*◌, ◌/◌, ◌%◌, ◌^◌, nat_lt, ◌||◌, not, Bool, true, false, Option, Some, None, Result as Checked, Ok, Err, List, [], ◌∷◌, ◌++◌, length, drop, replicate, slice_get, if◌then◌else◌}
use Rattle.std.proofs.Common.{true≢false, refl, sym, ap, subst, ◌∙◌, arith}
use Rattle.lcc_base.specs.declared.cause.Cause.{Cause}
use Rattle.lcc_base.specs.declared.cause.Cause.TheVariants.{PointerNumber}
use Rattle.lcc_base.specs.declared.order.Order.{Order}
use Rattle.lcc_base.specs.declared.order.Order.TheVariants.{Little, Big}
use Rattle.lcc_base.specs.Traces.{Opened}
use Rattle.objects.specs.declared.byte.Byte.{Byte}
use Rattle.objects.specs.declared.value.Value.{Value}
use Rattle.objects.specs.declared.value.Value.TheVariants.{Number, Pointer, Function}
use Rattle.objects.specs.declared.width.Scalar.{Scalar}
use Rattle.objects.specs.declared.width.Width.{Width}
use Rattle.objects.specs.declared.width.Width.TheVariants.{One, Two, Four}
use Rattle.objects.specs.Bytes.{unknown_byte, known_bytes, number_bytes}
use Rattle.objects.specs.Causes.{first_cause, is_narrowed, unless}
use Rattle.objects.specs.Conversions.{sign_extended, extended, as_type, converted}
use Rattle.objects.specs.Scalars.{scalar_bytes}
use Rattle.objects.specs.Values.{bytes_in}
use Rattle.c_types.specs.CType.{CType}
use Rattle.c_types.specs.Constness.{is_const}
use Rattle.c_types.specs.Layout.{Tag}
use Rattle.c_meaning.specs.Scalars.{scalar_of}
use Rattle.c_meaning.specs.Types.{is_record}
use Rattle.c_meaning.specs.Units.{FunctionTree, UnitTree}
use Rattle.c_runs.specs.Calls.{Argument, own_parameters, with_parameter, with_parameters, with_locals}
use Rattle.c_runs.specs.Locals.{body_start}
use Rattle.c_runs.specs.Outcomes.{Out, Next, either, if_done}
use Rattle.c_runs.specs.Places.{size_of}
use Rattle.c_runs.specs.Worlds.{World, entered}
use Rattle.c_rows_agree.proofs.lemmas.Conversions.{whole}
use Rattle.lowered_statements.specs.Layouts.{is_narrow}
use Rattle.c_entries_agree.proofs.lemmas.Beginnings.{Beginning, Made, Passed, begin, begin_all, begin_append}

-- ---- the objects of parameters, which narrow ones may be given later

abbrev pub beginning_by : Bool → Bool → Order → CType → Value → Beginning
beginning_by true full order t v = Passed (is_const t) v
beginning_by false true order t v = Made (is_const t) (scalar_bytes order (scalar_of t).width v)
beginning_by false false order t v = Made (is_const t) (replicate (bytes_in (scalar_of t).width) unknown_byte)

abbrev pub beginning : Bool → List Tag → Order → CType → Value → Beginning
beginning full tags order t v = beginning_by (is_record t) (full || not (is_narrow tags t)) order t v

abbrev pub parameter_beginnings : Bool → List Tag → Order → List CType → List Value → List Beginning
parameter_beginnings full tags order (t ∷ ts) (v ∷ vs) = beginning full tags order t v ∷ parameter_beginnings full tags order ts vs
parameter_beginnings full tags order ts vs = []

abbrev pub local_beginnings : List Tag → List CType → List Beginning
local_beginnings tags [] = []
local_beginnings tags (t ∷ ts) = Made (is_const t) (replicate (size_of tags t) unknown_byte) ∷ local_beginnings tags ts

abbrev pub all_beginnings : Bool → List Tag → Order → FunctionTree → List Value → List Beginning
all_beginnings full tags order f vs = parameter_beginnings full tags order (own_parameters f) vs ++ local_beginnings tags (drop f.parameters f.locals)

-- ---- what they are given

abbrev pub IsGivenBy : Bool → CType → Argument → Value → Type 0
IsGivenBy true t x v = v ≡ x.value
IsGivenBy false t x v = converted (scalar_of t) x.value ≡ Ok v

abbrev pub AreGiven : List CType → List Argument → List Value → Type 0
AreGiven [] xs [] = Unit {0}
AreGiven (t ∷ ts) (x ∷ xs) (v ∷ vs) = IsGivenBy (is_record t) t x v × AreGiven ts xs vs
AreGiven ts xs vs = ⊥

pub record Given (tags : List Tag) (order : Order) (ts : List CType) (xs : List Argument) (go : ℕ → World → Out) (k : ℕ) (w : World) (i : ℕ) (old : World) : Type 0 where
  pub values : List Value
  pub are : AreGiven ts xs values
  pub goes : go k (begin_all (parameter_beginnings true tags order ts values) w) ≡ Next i old

module _ (tags : List Tag) (order : Order) where
  module _ (t : CType) (ts : List CType) (x : Argument) (xs : List Argument) (go : ℕ → World → Out) (k : ℕ) (w : World) (i : ℕ) (old : World) (rest : (v : World) → with_parameters tags order ts xs k v go ≡ Next i old → Given tags order ts xs go k v i old) where
    abbrev with_value : Value → Out
    with_value v = with_parameters tags order ts xs k (begin (Made (is_const t) (scalar_bytes order (scalar_of t).width v)) w) go

    abbrev passing : ℕ → World → Out
    passing k1 w1 = with_parameters tags order ts xs k1 (begin (Passed (is_const t) x.value) w1) go

    abbrev making : ℕ → World → Out
    making k1 w1 = if_done (converted (scalar_of t) x.value) x.line w1 (λ v. with_parameters tags order ts xs k1 (begin (Made (is_const t) (scalar_bytes order (scalar_of t).width v)) w1) go)

    value_given : is_record t ≡ false → (r : Checked Value Cause) → converted (scalar_of t) x.value ≡ r → if_done r x.line w with_value ≡ Next i old → Given tags order (t ∷ ts) (x ∷ xs) go k w i old
    value_given is (Ok v) c g =
        let r = rest (begin (Made (is_const t) (scalar_bytes order (scalar_of t).width v)) w) g in
        record {
          values = v ∷ r.values;
          are = (subst (λ (b : Bool). IsGivenBy b t x v) (sym is) c, r.are);
          goes = ap (λ (b : Bool). go k (begin_all (beginning_by b true order t v ∷ parameter_beginnings true tags order ts r.values) w)) is ∙ r.goes;
        }
    value_given is (Err cause) c g = absurd (let never : ⊥ = cc in never)

    one_given : (b : Bool) → is_record t ≡ b → with_parameter tags order t x k w (λ k1 w1. with_parameters tags order ts xs k1 w1 go) ≡ Next i old → Given tags order (t ∷ ts) (x ∷ xs) go k w i old
    one_given true is e =
        let r = rest (begin (Passed (is_const t) x.value) w) (sym (ap (λ (b : Bool). either b passing making k w) is) ∙ e) in
        record {
          values = x.value ∷ r.values;
          are = (subst (λ (b : Bool). IsGivenBy b t x x.value) (sym is) refl, r.are);
          goes = ap (λ (b : Bool). go k (begin_all (beginning_by b true order t x.value ∷ parameter_beginnings true tags order ts r.values) w)) is ∙ r.goes;
        }
    one_given false is e =
        value_given is (converted (scalar_of t) x.value) refl (sym (ap (λ (b : Bool). either b passing making k w) is) ∙ e)

  parameters_given : (ts : List CType) (xs : List Argument) (go : ℕ → World → Out) (k : ℕ) (w : World) (i : ℕ) (old : World) → with_parameters tags order ts xs k w go ≡ Next i old → Given tags order ts xs go k w i old
  parameters_given [] xs go k w i old e = record { values = []; are = tt; goes = e }
  parameters_given (t ∷ ts) [] go k w i old e = absurd (let never : ⊥ = cc in never)
  parameters_given (t ∷ ts) (x ∷ xs) go k w i old e = one_given t ts x xs go k w i old (λ v g. parameters_given ts xs go k v i old g) (is_record t) refl e

  locals_made : (ts : List CType) (w : World) → with_locals tags ts w ≡ begin_all (local_beginnings tags ts) w
  locals_made [] w = refl
  locals_made (t ∷ ts) w = locals_made ts (begin (Made (is_const t) (replicate (size_of tags t) unknown_byte)) w)

-- where the body begins
pub record Started (u : UnitTree) (order : Order) (f : FunctionTree) (number : ℕ) (xs : List Argument) (k : ℕ) (w : World) (i : ℕ) (old : World) : Type 0 where
  pub values : List Value
  pub are : AreGiven (own_parameters f) xs values
  pub turns : i ≡ k
  pub world : old ≡ begin_all (all_beginnings true u.tags order f values) (entered (Opened number) w)

same_next : {i j : ℕ} {v w : World} → Next i v ≡ Next j w → (j ≡ i) × (w ≡ v)
same_next e = ((let p = e in cc), (let p = e in cc))

pub body_starts : (u : UnitTree) (order : Order) (f : FunctionTree) (number : ℕ) (xs : List Argument) (k : ℕ) (w : World) (i : ℕ) (old : World) → body_start u order f number xs k w ≡ Next i old → Started u order f number xs k w i old
body_starts u order f number xs k w i old e =
    let r = parameters_given u.tags order (own_parameters f) xs _ k (entered (Opened number) w) i old e in
    let s = same_next r.goes in
    record {
      values = r.values;
      are = r.are;
      turns = s.0;
      world =
          s.1 ∙ locals_made u.tags order (drop f.parameters f.locals) (begin_all (parameter_beginnings true u.tags order (own_parameters f) r.values) (entered (Opened number) w))
          ∙ sym (begin_append (parameter_beginnings true u.tags order (own_parameters f) r.values) (local_beginnings u.tags (drop f.parameters f.locals)) (entered (Opened number) w));
    }

-- ---- a number is stored as it is converted

sign_low_one : (b : Bool) (m : ℕ) → (if b then m else m + (2 ^ 32 - 2 ^ 8)) % 256 ≡ m % 256
sign_low_one true m = refl
sign_low_one false m = omega arith

sign_low_two : (b : Bool) (m : ℕ) → (if b then m else m + (2 ^ 32 - 2 ^ 16)) % 65536 ≡ m % 65536
sign_low_two true m = refl
sign_low_two false m = omega arith

low_one : (signed : Bool) (n : ℕ) → extended signed 8 n % 256 ≡ n % 256
low_one true n = sign_low_one (nat_lt (n % 256) 128) (n % 256) ∙ (let e : n % 256 % 256 ≡ n % 256 = omega arith in e)
low_one false n = omega arith

low_two : (signed : Bool) (n : ℕ) → extended signed 16 n % 65536 ≡ n % 65536
low_two true n = sign_low_two (nat_lt (n % 65536) 32768) (n % 65536) ∙ (let e : n % 65536 % 65536 ≡ n % 65536 = omega arith in e)
low_two false n = omega arith

two_low : (m n : ℕ) → m % 65536 ≡ n % 65536 → (m % 256 ≡ n % 256) × (m / 256 % 256 ≡ n / 256 % 256)
two_low m n e = (omega (arith, e), omega (arith, e))

number_bytes_one : (order : Order) (m n : ℕ) → m % 256 ≡ n % 256 → number_bytes order 1 m ≡ number_bytes order 1 n
number_bytes_one Little m n e = ap (λ (b : ℕ). b ∷ []) e
number_bytes_one Big m n e = ap (λ (b : ℕ). b ∷ []) e

number_bytes_two : (order : Order) (m n : ℕ) → m % 65536 ≡ n % 65536 → number_bytes order 2 m ≡ number_bytes order 2 n
number_bytes_two Little m n e = let p = two_low m n e in ap (λ (b : ℕ). b ∷ m / 256 % 256 ∷ []) p.0 ∙ ap (λ (b : ℕ). n % 256 ∷ b ∷ []) p.1
number_bytes_two Big m n e = let p = two_low m n e in ap (λ (b : ℕ). m / 256 % 256 ∷ b ∷ []) p.0 ∙ ap (λ (b : ℕ). b ∷ n % 256 ∷ []) p.1

number_stored : (order : Order) (w : Width) (signed : Bool) (n : ℕ) → (w ≡ Four → ⊥) → scalar_bytes order w (as_type (record { width = w; signed = signed }) (Number n)) ≡ scalar_bytes order w (Number n)
number_stored order One signed n ne = ap known_bytes (number_bytes_one order (extended signed 8 n) n (low_one signed n))
number_stored order Two signed n ne = ap known_bytes (number_bytes_two order (extended signed 16 n) n (low_two signed n))
number_stored order Four signed n ne = absurd (ne refl)

narrow_number : (w : Width) (v : Value) → (w ≡ Four → ⊥) → is_narrowed w v ≡ false → (n : ℕ) × (v ≡ Number n)
narrow_number w (Number n) ne e = (n, refl)
narrow_number One (Pointer o x) ne e = absurd (let never : ⊥ = cc in never)
narrow_number Two (Pointer o x) ne e = absurd (let never : ⊥ = cc in never)
narrow_number Four (Pointer o x) ne e = absurd (ne refl)
narrow_number One (Function f) ne e = absurd (let never : ⊥ = cc in never)
narrow_number Two (Function f) ne e = absurd (let never : ⊥ = cc in never)
narrow_number Four (Function f) ne e = absurd (ne refl)

not_narrowed : (b : Bool) (v u : Value) → unless (first_cause ((b, PointerNumber) ∷ [])) v ≡ Ok u → (b ≡ false) × (u ≡ v)
not_narrowed true v u e = absurd (let never : ⊥ = cc in never)
not_narrowed false v u e = (refl, (let p = e in cc))

-- a narrow one: it is a number, and has the low bytes of the argument
pub record IsNarrow (order : Order) (s : Scalar) (v u : Value) : Type 0 where
  pub narrowed : is_narrowed s.width v ≡ false
  pub bytes : scalar_bytes order s.width u ≡ scalar_bytes order s.width v
  pub count : length (scalar_bytes order s.width u) ≡ bytes_in s.width

number_count : (order : Order) (w : Width) (n : ℕ) → length (scalar_bytes order w (Number n)) ≡ bytes_in w
number_count Little One n = refl
number_count Big One n = refl
number_count Little Two n = refl
number_count Big Two n = refl
number_count Little Four n = refl
number_count Big Four n = refl

pub narrow_given : (order : Order) (s : Scalar) (v u : Value) → (s.width ≡ Four → ⊥) → converted s v ≡ Ok u → IsNarrow order s v u
narrow_given order s v u ne e =
    let p = not_narrowed (is_narrowed s.width v) (as_type s v) u e in
    let n = narrow_number s.width v ne p.0 in
    let is : scalar_bytes order s.width u ≡ scalar_bytes order s.width (Number n.0) =
    ap (scalar_bytes order s.width) p.1 ∙ ap (λ (x : Value). scalar_bytes order s.width (as_type s x)) n.1 ∙ number_stored order s.width s.signed n.0 ne in
    record {
      narrowed = p.0;
      bytes = is ∙ ap (scalar_bytes order s.width) (sym n.1);
      count = ap length is ∙ number_count order s.width n.0;
    }

-- and one of a word is the argument
pub word_given : (s : Scalar) (v u : Value) → s.width ≡ Four → ((n : ℕ) → v ≡ Number n → n < 2 ^ 32) → converted s v ≡ Ok u → u ≡ v
word_given s v u four small e = (not_narrowed (is_narrowed s.width v) (as_type s v) u e).1 ∙ by_value v small
  where
    by_value : (x : Value) → ((n : ℕ) → x ≡ Number n → n < 2 ^ 32) → as_type s x ≡ x
    by_value (Number n) small = ap (λ (w : Width). as_type (record { width = w; signed = s.signed }) (Number n)) four ∙ ap (λ (m : ℕ). Number m) (whole s.signed n (small n refl))
    by_value (Pointer o x) small = refl
    by_value (Function f) small = refl
