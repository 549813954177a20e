-- There is an argument word for each parameter, and one before them for a structure result.
use Rattle.std.specs.Prelude.{◌≡◌, ◌≤◌, ℕ, zero, suc, ◌+◌, Bool, true, false, Option, Some, None, List, [], ◌∷◌, length, map as mapped, take}
use Rattle.std.proofs.Common.{true≢false, refl, sym, ◌∙◌, ap, arith}
use Rattle.std.proofs.lemmas.Bool.{and_parts}
use Rattle.objects.specs.declared.value.Value.{Value}
use Rattle.op_forest.specs.Lowered.{LoweredUnit}
use Rattle.forests.specs.Words.{Word}
use Rattle.forests.specs.Worlds.{World}
use Rattle.c_types.specs.CType.{CType}
use Rattle.c_meaning.specs.Rows.{result_type, parameters_type}
use Rattle.c_meaning.specs.Types.{is_record}
use Rattle.c_meaning.specs.Units.{FunctionTree, UnitTree, IsFunction}
use Rattle.c_runs.specs.Calls.{Argument, Call, arguments_fit, result_fits, is_open, own_parameters}
use Rattle.c_match.specs.Ranges.{Map}
use Rattle.c_agreement.specs.Called.{AreValues, behind_hidden, passed_values}
use Rattle.lowered_statements.specs.Layouts.{first_word, hidden_words, words_of}
use Rattle.c_straight_agree.proofs.lemmas.Putting.{each_at}
use Rattle.c_entries_agree.specs.Laws.{IsCallOf}
use Rattle.c_entries_agree.specs.Lowered.{IsFunctionLowering}
use Rattle.c_entries_agree.proofs.lemmas.Frames.{fit, result_is_whole, result_whole}

values_count : (map : Map) (vs : List Value) (ws : List Word) → AreValues map vs ws → length ws ≡ length vs
values_count map [] [] h = refl
values_count map [] (w ∷ ws) h = absurd h
values_count map (v ∷ vs) [] h = absurd h
values_count map (v ∷ vs) (w ∷ ws) h = ap suc (values_count map vs ws h.1)

mapped_count : {A B : Type 0} (g : A → B) (xs : List A) → length (mapped g xs) ≡ length xs
mapped_count g [] = refl
mapped_count g (x ∷ xs) = ap suc (mapped_count g xs)

arguments_count : (old : Bool) (ts : List CType) (xs : List Argument) → arguments_fit old ts xs ≡ true → length xs ≡ length ts
arguments_count old [] [] h = refl
arguments_count old [] (x ∷ xs) h = absurd (let never : ⊥ = cc in never)
arguments_count old (t ∷ ts) [] h = absurd (let never : ⊥ = cc in never)
arguments_count old (t ∷ ts) (x ∷ xs) h = ap suc (arguments_count old ts xs (and_parts _ (arguments_fit old ts xs) h).1)

taken_count : {A : Type 0} (n : ℕ) (xs : List A) → n ≤ length xs → length (take n xs) ≡ n
taken_count zero xs le = refl
taken_count (suc n) [] le = absurd (let never : ⊥ = omega (arith, le) in never)
taken_count (suc n) (x ∷ xs) le = ap suc (taken_count n xs (omega (arith, le)))

module _ (u : UnitTree) (l : LoweredUnit) (f : FunctionTree) (a : Call) (map : Map) (w : World) (is : IsCallOf u l f a map w) (x : IsFunctionLowering u l a.function f) where
  pub is_function : IsFunction u f
  is_function = each_at (IsFunction u) u.functions a.function f is.checked.functions is.defined

  own_count_is : length (own_parameters f) ≡ f.parameters
  own_count_is = taken_count f.parameters f.locals (let all = is_function.all in omega (arith, all))

  -- the hidden one is passed where a structure is returned
  hidden_count : (o : Option Value) (whole : Bool) (vs : List Value) → (o ≡ None → whole ≡ false) → ((v : Value) → o ≡ Some v → whole ≡ true) → length (behind_hidden o vs) ≡ hidden_words whole + length vs
  hidden_count None true vs none some = absurd (true≢false (none refl))
  hidden_count None false vs none some = let e : length vs ≡ 0 + length vs = omega arith in e
  hidden_count (Some v) true vs none some = let e : suc (length vs) ≡ 1 + length vs = omega arith in e
  hidden_count (Some v) false vs none some = absurd (true≢false (sym (some v refl)))

  pub none_is_plain : a.result ≡ None → is_record (result_type f.of) ≡ false
  none_is_plain e = by_whole (is_record (result_type f.of)) refl
    where
      by_whole : (b : Bool) → is_record (result_type f.of) ≡ b → b ≡ false
      by_whole true h =
          let r = is.called.passed.result (sym (result_whole u l f a map w is x) ∙ h) in
          absurd (let g = sym e ∙ r.1 in let never : ⊥ = cc in never)
      by_whole false h = refl

  pub words_there : length w.arguments ≡ x.function.words
  words_there =
      let vs = mapped (λ (y : Argument). y.value) a.arguments in
      let one = values_count map (passed_values a) w.arguments is.called.words in
      let two = hidden_count a.result (is_record (result_type f.of)) vs none_is_plain (λ v e. result_is_whole u l f a map w is x v e) in
      let three = mapped_count (λ (y : Argument). y.value) a.arguments in
      let four = arguments_count (is_open (parameters_type f.of)) (own_parameters f) a.arguments
      (and_parts (result_fits (result_type f.of) a.of) (arguments_fit (is_open (parameters_type f.of)) (own_parameters f) a.arguments) (fit u l f a map w is x)).1 in
      let five = own_count_is in
      let words = x.words in
      one ∙ two ∙ (let e : first_word f + length vs ≡ words_of f = omega (arith, three, four, five) in e) ∙ sym words
