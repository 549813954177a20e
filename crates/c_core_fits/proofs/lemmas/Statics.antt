-- What static storage begins with is constant in the whole unit as it was while names were symbols.
use Rattle.std.proofs.Common.{◌≡◌, ℕ, false, List, [], get_or, refl}
use Rattle.c_types.specs.CType.{CType}
use Rattle.c_types.specs.Layout.{Tag}
use Rattle.c_meaning.specs.declared.core_expr.CoreKind.{CoreKind}
use Rattle.c_meaning.specs.declared.core_expr.CoreKind.TheVariants as kind
use Rattle.c_meaning.specs.AddressConstants.{bytes_of, first_constant, first_is_pointer, first_place, first_pointer, is_static_value, place_address, pointer_address, second_constant, second_pointer}
use Rattle.c_meaning.specs.Constants.{all_constant, first_word, fold, is_constant, second_word, third_word, word}
use Rattle.c_meaning.specs.CoreTrees.{Core, NoCore, Cores, type_of}
use Rattle.c_meaning.specs.Declarations.{Defined, or_zero}
use Rattle.c_meaning.specs.StaticValues.{all_by_symbols, by_symbols, symbol_kind, symbol_type}
use Rattle.c_meaning.specs.Types.{is_pointer}
use Rattle.c_meaning.specs.Values.{CoreTree, CoreTrees}
use Rattle.c_units.specs.Ends.{all_over, over, type_among}
use Rattle.c_units.specs.Functions.{place_in}
use Rattle.c_units.specs.Wholes.{all_whole, whole}

-- ---- nodes

-- a symbol that stands for something with as many bytes, and is one again
pub record IsAgain (tags : List Tag) (os : List Defined) (objects : List CType) (texts : List (List ℕ)) (what : CoreKind) (id : ℕ) (of : CType) : Type 0 where
  pub number : ℕ
  pub symbol : symbol_kind texts what ≡ kind.Symbol number
  pub bytes : bytes_of tags (symbol_type objects what of) ≡ bytes_of tags (type_among os id of)
  pub pointer : is_pointer (symbol_type objects what of) ≡ is_pointer (type_among os id of)

module _ (tags : List Tag) (os : List Defined) (objects : List CType) (texts : List (List ℕ)) (meant : ℕ → CoreKind) where
  abbrev pub IsReady : CoreKind → CType → Type 0
  IsReady (kind.Symbol id) of = IsAgain tags os objects texts (meant id) id of
  IsReady (kind.Literal bytes) of = get_or texts (or_zero (place_in texts bytes)) [] ≡ bytes
  IsReady (kind.Object n) of = ⊥
  IsReady (kind.Text n) of = ⊥
  IsReady (kind.Function n) of = ⊥
  IsReady (kind.BuiltIn b) of = ⊥
  IsReady what of = Unit {0}

  abbrev mutual
    pub AreReady : CoreTree → Type 0
    AreReady (Core what of line kids) = IsReady what of × AllReady kids

    pub AllReady : CoreTrees → Type 0
    AllReady NoCore = Unit {0}
    AllReady (Cores c cs) = AreReady c × AllReady cs

  -- the value over the unit's own functions, objects and texts
  abbrev again : CoreTree → CoreTree
  again c = by_symbols objects texts (whole meant texts c)

  abbrev all_again : CoreTrees → CoreTrees
  all_again cs = all_by_symbols objects texts (all_whole meant texts cs)

  -- ---- constants

  mutual
    constant_again : (c : CoreTree) → AreReady c → is_constant (again c) ≡ is_constant (over os c)
    constant_again (Core (kind.Symbol id) of line kids) h = rw h.0.symbol refl
    constant_again (Core (kind.Object n) of line kids) h = absurd h.0
    constant_again (Core (kind.Text n) of line kids) h = absurd h.0
    constant_again (Core (kind.Function n) of line kids) h = absurd h.0
    constant_again (Core (kind.BuiltIn b) of line kids) h = absurd h.0
    constant_again (Core (kind.Convert conversion) of line kids) h = rw (all_constant_again kids h.1) refl
    constant_again (Core (kind.Unary op) of line kids) h = all_constant_again kids h.1
    constant_again (Core kind.Not of line kids) h = all_constant_again kids h.1
    constant_again (Core (kind.Binary op signed) of line kids) h = all_constant_again kids h.1
    constant_again (Core (kind.Compare op signed) of line kids) h = all_constant_again kids h.1
    constant_again (Core kind.And of line kids) h = all_constant_again kids h.1
    constant_again (Core kind.Or of line kids) h = all_constant_again kids h.1
    constant_again (Core kind.Conditional of line kids) h = all_constant_again kids h.1
    constant_again (Core what of line kids) h = refl

    all_constant_again : (cs : CoreTrees) → AllReady cs → all_constant (all_again cs) ≡ all_constant (all_over os cs)
    all_constant_again NoCore h = refl
    all_constant_again (Cores c cs) h = rw (constant_again c h.0, all_constant_again cs h.1) refl

  mutual
    word_again : (c : CoreTree) → AreReady c → word (again c) ≡ word (over os c)
    word_again (Core (kind.Symbol id) of line kids) h = rw h.0.symbol refl
    word_again (Core (kind.Object n) of line kids) h = absurd h.0
    word_again (Core (kind.Text n) of line kids) h = absurd h.0
    word_again (Core (kind.Function n) of line kids) h = absurd h.0
    word_again (Core (kind.BuiltIn b) of line kids) h = absurd h.0
    word_again (Core (kind.Convert conversion) of line kids) h = rw (first_word_again kids h.1) refl
    word_again (Core (kind.Unary op) of line kids) h = rw (first_word_again kids h.1) refl
    word_again (Core kind.Not of line kids) h = rw (first_word_again kids h.1) refl
    word_again (Core (kind.Binary op signed) of line kids) h = rw (first_word_again kids h.1, second_word_again kids h.1) refl
    word_again (Core (kind.Compare op signed) of line kids) h = rw (first_word_again kids h.1, second_word_again kids h.1) refl
    word_again (Core kind.And of line kids) h = rw (first_word_again kids h.1, second_word_again kids h.1) refl
    word_again (Core kind.Or of line kids) h = rw (first_word_again kids h.1, second_word_again kids h.1) refl
    word_again (Core kind.Conditional of line kids) h = rw (first_word_again kids h.1, second_word_again kids h.1, third_word_again kids h.1) refl
    word_again (Core what of line kids) h = refl

    first_word_again : (cs : CoreTrees) → AllReady cs → first_word (all_again cs) ≡ first_word (all_over os cs)
    first_word_again NoCore h = refl
    first_word_again (Cores c cs) h = word_again c h.0

    second_word_again : (cs : CoreTrees) → AllReady cs → second_word (all_again cs) ≡ second_word (all_over os cs)
    second_word_again NoCore h = refl
    second_word_again (Cores c cs) h = first_word_again cs h.1

    third_word_again : (cs : CoreTrees) → AllReady cs → third_word (all_again cs) ≡ third_word (all_over os cs)
    third_word_again NoCore h = refl
    third_word_again (Cores c cs) h = second_word_again cs h.1

  fold_by : (a b : CoreTree) → is_constant a ≡ is_constant b → word a ≡ word b → type_of a ≡ type_of b → fold a ≡ fold b
  unfolding fold
  fold_by a b e g t = rw (e, g, t) refl

  fold_none : (a b : CoreTree) → is_constant a ≡ false → is_constant b ≡ false → fold a ≡ fold b
  unfolding fold
  fold_none a b e g = rw (e, g) refl

  fold_again : (c : CoreTree) → AreReady c → fold (again c) ≡ fold (over os c)
  fold_again (Core (kind.Symbol id) of line kids) h =
      fold_none (again (Core (kind.Symbol id) of line kids)) (over os (Core (kind.Symbol id) of line kids)) (constant_again (Core (kind.Symbol id) of line kids) h) refl
  fold_again (Core (kind.Object n) of line kids) h = absurd h.0
  fold_again (Core what of line kids) h =
      fold_by (again (Core what of line kids)) (over os (Core what of line kids)) (constant_again (Core what of line kids) h) (word_again (Core what of line kids) h) refl

  first_fold_again : (cs : CoreTrees) → AllReady cs → first_constant (all_again cs) ≡ first_constant (all_over os cs)
  first_fold_again NoCore h = refl
  first_fold_again (Cores c cs) h = fold_again c h.0

  second_fold_again : (cs : CoreTrees) → AllReady cs → second_constant (all_again cs) ≡ second_constant (all_over os cs)
  second_fold_again NoCore h = refl
  second_fold_again (Cores c cs) h = first_fold_again cs h.1

  -- ---- addresses

  pointer_type_again : (c : CoreTree) → AreReady c → is_pointer (type_of (again c)) ≡ is_pointer (type_of (over os c))
  pointer_type_again (Core (kind.Symbol id) of line kids) h = h.0.pointer
  pointer_type_again (Core (kind.Object n) of line kids) h = absurd h.0
  pointer_type_again (Core what of line kids) h = refl

  first_type_again : (cs : CoreTrees) → AllReady cs → first_is_pointer (all_again cs) ≡ first_is_pointer (all_over os cs)
  first_type_again NoCore h = refl
  first_type_again (Cores c cs) h = pointer_type_again c h.0

  mutual
    place_again : (c : CoreTree) → AreReady c → place_address tags (again c) ≡ place_address tags (over os c)
    place_again (Core (kind.Symbol id) of line kids) h = rw (h.0.symbol, h.0.bytes) refl
    place_again (Core (kind.Literal bytes) of line kids) h = rw h.0 refl
    place_again (Core (kind.Object n) of line kids) h = absurd h.0
    place_again (Core (kind.Text n) of line kids) h = absurd h.0
    place_again (Core (kind.Function n) of line kids) h = absurd h.0
    place_again (Core (kind.BuiltIn b) of line kids) h = absurd h.0
    place_again (Core kind.Pointed of line kids) h = first_pointer_again kids h.1
    place_again (Core (kind.Member offset first width) of line kids) h = rw (first_place_again kids h.1) refl
    place_again (Core what of line kids) h = refl

    pointer_again : (c : CoreTree) → AreReady c → pointer_address tags (again c) ≡ pointer_address tags (over os c)
    pointer_again (Core (kind.Symbol id) of line kids) h = rw h.0.symbol refl
    pointer_again (Core (kind.Object n) of line kids) h = absurd h.0
    pointer_again (Core (kind.Text n) of line kids) h = absurd h.0
    pointer_again (Core (kind.Function n) of line kids) h = absurd h.0
    pointer_again (Core (kind.BuiltIn b) of line kids) h = absurd h.0
    pointer_again (Core kind.Address of line kids) h = first_place_again kids h.1
    pointer_again (Core kind.First of line kids) h = first_place_again kids h.1
    pointer_again (Core (kind.Convert conversion) of line kids) h = rw (first_pointer_again kids h.1, first_fold_again kids h.1) refl
    pointer_again (Core (kind.Move size back) of line kids) h =
        rw (first_type_again kids h.1, first_pointer_again kids h.1, second_pointer_again kids h.1, first_fold_again kids h.1, second_fold_again kids h.1) refl
    pointer_again (Core what of line kids) h = refl

    first_place_again : (cs : CoreTrees) → AllReady cs → first_place tags (all_again cs) ≡ first_place tags (all_over os cs)
    first_place_again NoCore h = refl
    first_place_again (Cores c cs) h = place_again c h.0

    first_pointer_again : (cs : CoreTrees) → AllReady cs → first_pointer tags (all_again cs) ≡ first_pointer tags (all_over os cs)
    first_pointer_again NoCore h = refl
    first_pointer_again (Cores c cs) h = pointer_again c h.0

    second_pointer_again : (cs : CoreTrees) → AllReady cs → second_pointer tags (all_again cs) ≡ second_pointer tags (all_over os cs)
    second_pointer_again NoCore h = refl
    second_pointer_again (Cores c cs) h = first_pointer_again cs h.1

  pub static_again : (c : CoreTree) → AreReady c → is_static_value tags (again c) ≡ is_static_value tags (over os c)
  static_again c h = rw (fold_again c h, pointer_again c h) refl
