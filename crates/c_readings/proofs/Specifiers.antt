-- Readers of specifiers are exact.
use Rattle.std.proofs.Common.{◌≡◌, ◌≤◌, ◌+◌, ◌==◌, ◌↔◌, ◌||◌, if◌then◌else◌, ℕ, Bool, true, false, Option, Some, None, List, [], ◌∷◌, length, refl, sym, ap, ◌∙◌, subst, arith}
use Rattle.c_ast.specs.declared.specifier.Storage.TheVariants as storage
use Rattle.c_ast.specs.declared.specifier.Qualifier.TheVariants as qualifier
use Rattle.c_ast.specs.declared.specifier.BasicType.TheVariants as basic
use Rattle.c_ast.specs.declared.specifier.RecordKind.{RecordKind}
use Rattle.c_ast.specs.declared.specifier.RecordKind.TheVariants as record_kind
use Rattle.c_ast.specs.Operators.{storage_word, qualifier_word, basic_word, record_word}
use Rattle.c_ast.specs.Lexemes.{Lexeme, Name, Keyword, Integer, Character, Text, Sign, Placed}
use Rattle.c_ast.specs.InForce.{is_typedef}
use Rattle.c_ast.specs.Marks.{Mark, Tok, Typed, Here, Ask, IsSign, IsSpecifier, first_is, is_specifier, lexemes}
use Rattle.c_ast.specs.ExprMarks as marks
use Rattle.c_ast.specs.ExprMarks.{says_type}
use Rattle.c_ast.specs.Trees.{SpecifiersTree, Specified, SpecifierTree, Stored, Qualified, Basic, Record, RecordTag, Enum, EnumTag, NamedType, SpecifierTrees, NoSpecifiers, Specifiers, MemberTrees, EnumeratorTrees}
use Rattle.c_ast.specs.Views.{specifier_list_of}
use Rattle.c_ast.specs.Levels.{FitsSpecifiers, FitsSpecifierList, FitsSpecifier}
use Rattle.c_ast.specs.Heights.{specifiers_height, specifier_list_height, specifier_height, members_height}
use Rattle.c_readings.specs.Words.{Word, StorageWord, QualifierWord, BasicWord, RecordWord, EnumWord, word_of}
use Rattle.c_readings.specs.Reading.{State, answer, here, with_first}
use Rattle.c_readings.specs.Readers.{Readers, members, enumerators, record_of, enumeration_of, word_by, specifier_by, specifier, more_specifiers, some_specifiers, specifiers}
use Rattle.c_readings.specs.Exact.{RunsOn, Finds, IsPiece, Exact, AreExact, nothing_more}
use Rattle.c_readings.proofs.Steps.{same_number, Yields, read_so, yields_also, bind_yields, exact_by, nothing_ends, Takes, past, first_yields, taken_used, iff_same, iff_then, iff_path, here_iff, token_iff, typed_iff, asked_iff, bind_finds, here_is, here_finds, first_finds, typed_finds, taken_left}
use Rattle.c_readings.proofs.Lists.{Every, Fit, EndsAt, IsItem, IsList, many_yields, many_finds}
use Rattle.c_readings.proofs.Firsts.{no_two}
use Rattle.c_readings.proofs.Records.{FitsSomeMembers, members_exact}
use Rattle.c_readings.proofs.Enumerations.{spelled_with, FitsSomeEnumerators, enumerators_high, enumerators_exact}
use Rattle.c_readings.proofs.Tags.{tagged_yields, tagged_found, alone_found}

-- ---- words

abbrev number_of : Word → ℕ
number_of (StorageWord x) = storage_word x
number_of (QualifierWord x) = qualifier_word x
number_of (BasicWord x) = basic_word x
number_of (RecordWord x) = record_word x
number_of EnumWord = 10

word_known : (w : Word) → word_of (number_of w) ≡ Some w
word_known (StorageWord storage.Typedef) = refl
word_known (StorageWord storage.Extern) = refl
word_known (StorageWord storage.Static) = refl
word_known (StorageWord storage.Auto) = refl
word_known (StorageWord storage.Register) = refl
word_known (QualifierWord qualifier.Const) = refl
word_known (QualifierWord qualifier.Volatile) = refl
word_known (BasicWord basic.Void) = refl
word_known (BasicWord basic.Char) = refl
word_known (BasicWord basic.Short) = refl
word_known (BasicWord basic.Int) = refl
word_known (BasicWord basic.Long) = refl
word_known (BasicWord basic.Signed) = refl
word_known (BasicWord basic.Unsigned) = refl
word_known (BasicWord basic.Float) = refl
word_known (BasicWord basic.Double) = refl
word_known (RecordWord record_kind.Struct) = refl
word_known (RecordWord record_kind.Union) = refl
word_known EnumWord = refl

-- the word, if there is one, has the number
abbrev Numbered : ℕ → Option Word → Type 0
Numbered k None = Unit {0}
Numbered k (Some w) = k ≡ number_of w

number_if : (b : Bool) (k j : ℕ) (w : Word) (o : Option Word) → (b ≡ true → k ≡ j) → j ≡ number_of w → Numbered k o → Numbered k (if b then Some w else o)
number_if true k j w o f e h = f refl ∙ e
number_if false k j w o f e h = h

or_next : (k j : ℕ) (w : Word) (o : Option Word) → j ≡ number_of w → Numbered k o → Numbered k (if k == j then Some w else o)
or_next k j w o e h = number_if (k == j) k j w o (same_number k j) e h

word_number : (k : ℕ) → Numbered k (word_of k)
word_number k =
    or_next k 0 (StorageWord storage.Auto) _ refl
    (or_next k 3 (BasicWord basic.Char) _ refl
    (or_next k 4 (QualifierWord qualifier.Const) _ refl
    (or_next k 8 (BasicWord basic.Double) _ refl
    (or_next k 10 EnumWord _ refl
    (or_next k 11 (StorageWord storage.Extern) _ refl
    (or_next k 12 (BasicWord basic.Float) _ refl
    (or_next k 16 (BasicWord basic.Int) _ refl
    (or_next k 17 (BasicWord basic.Long) _ refl
    (or_next k 18 (StorageWord storage.Register) _ refl
    (or_next k 20 (BasicWord basic.Short) _ refl
    (or_next k 21 (BasicWord basic.Signed) _ refl
    (or_next k 23 (StorageWord storage.Static) _ refl
    (or_next k 24 (RecordWord record_kind.Struct) _ refl
    (or_next k 26 (StorageWord storage.Typedef) _ refl
    (or_next k 27 (RecordWord record_kind.Union) _ refl
    (or_next k 28 (BasicWord basic.Unsigned) _ refl
    (or_next k 29 (BasicWord basic.Void) _ refl
    (or_next k 30 (QualifierWord qualifier.Volatile) _ refl tt))))))))))))))))))

-- ---- behind a word

-- a specifier that begins with the word stands from s on, its word before it
record IsBehindWord (R : Readers) (line : ℕ) (w : Word) (s : State) (x : SpecifierTree) (t : State) : Type 0 where
  fits : FitsSpecifier x
  low : specifier_height x ≤ R.limit
  used : length t.rest ≤ length s.rest
  runs : (r : List Mark) → (m : List Mark) × (marks.specifier x r ≡ Here line ∷ Tok (Keyword (number_of w)) ∷ m) × (RunsOn m s ↔ RunsOn r t)

record_yields : (R : Readers) → AreExact R → (line : ℕ) (k : RecordKind) (s : State) → Yields (record_of R line k s) (IsBehindWord R line (RecordWord k) s)
unfolding record_of
record_yields R e line k s =
    tagged_yields marks.members FitsSomeMembers members_height R.limit (members R) (λ name ms. Record line k name ms) (λ n. RecordTag line k n) (IsBehindWord R line (RecordWord k) s) (members_exact R e) s
    (λ name ms t h. record { fits = h.fits; low = h.low; used = h.used; runs = λ r. (marks.tag_then name (Tok (Sign 4) ∷ marks.members ms r), refl, h.runs r) })
    (λ n us h a. record { fits = tt; low = omega arith; used = let u = taken_used s.rest us (Name n) h in omega arith; runs = λ r. (Tok (Name n) ∷ Ask (IsSign 4) false ∷ r, refl, token_iff (Name n) (Ask (IsSign 4) false ∷ r) s us h (asked_iff (IsSign 4) false r (past s us) a iff_same)) })

enumeration_yields : (R : Readers) → AreExact R → (line : ℕ) (s : State) → Yields (enumeration_of R line s) (IsBehindWord R line EnumWord s)
unfolding enumeration_of
enumeration_yields R e line s =
    tagged_yields {X = EnumeratorTrees × Bool} spelled_with FitsSomeEnumerators enumerators_high R.limit (enumerators R) (λ name es. Enum line name es.0 es.1) (λ n. EnumTag line n) (IsBehindWord R line EnumWord s) (enumerators_exact R e) s
    (λ name es t h. record { fits = h.fits; low = h.low; used = h.used; runs = λ r. (marks.tag_then name (Tok (Sign 4) ∷ marks.enumerators es.0 es.1 r), refl, h.runs r) })
    (λ n us h a. record { fits = tt; low = omega arith; used = let u = taken_used s.rest us (Name n) h in omega arith; runs = λ r. (Tok (Name n) ∷ Ask (IsSign 4) false ∷ r, refl, token_iff (Name n) (Ask (IsSign 4) false ∷ r) s us h (asked_iff (IsSign 4) false r (past s us) a iff_same)) })

word_yields : (R : Readers) → AreExact R → (line : ℕ) (w : Word) (s : State) → Yields (word_by R line (Some w) s) (IsBehindWord R line w s)
word_yields R e line (StorageWord x) s = record { fits = tt; low = omega arith; used = omega arith; runs = λ r. (r, refl, iff_same) }
word_yields R e line (QualifierWord x) s = record { fits = tt; low = omega arith; used = omega arith; runs = λ r. (r, refl, iff_same) }
word_yields R e line (BasicWord x) s = record { fits = tt; low = omega arith; used = omega arith; runs = λ r. (r, refl, iff_same) }
word_yields R e line (RecordWord k) s = record_yields R e line k s
word_yields R e line EnumWord s = enumeration_yields R e line s

-- ---- one specifier

abbrev pub IsOne : Readers → State → SpecifierTree → State → Type 0
IsOne R s x t = IsPiece marks.specifier FitsSpecifier nothing_more specifier_height R.limit 1 s x t

by_word : (R : Readers) (s : State) (w : Word) (us : List Placed) (x : SpecifierTree) (t : State) → Takes s.rest (Keyword (number_of w)) us → IsBehindWord R (here s) w (past s us) x t → IsOne R s x t
by_word R s w us x t h k = record {
  fits = k.fits;
  low = k.low;
  ends = nothing_ends x t.rest;
  used = let u = taken_used s.rest us (Keyword (number_of w)) h in let v = k.used in omega arith;
  runs = λ r. let m = k.runs r in iff_then (iff_path (marks.specifier x r) (Here (here s) ∷ Tok (Keyword (number_of w)) ∷ m.0) s m.1) (here_iff (Tok (Keyword (number_of w)) ∷ m.0) s (taken_left s.rest us (Keyword (number_of w)) h) (token_iff (Keyword (number_of w)) m.0 s us h m.2));
}

keyword_yields : (R : Readers) → AreExact R → (s : State) (k : ℕ) (o : Option Word) (us : List Placed) → Numbered k o → Takes s.rest (Keyword k) us → Yields (word_by R (here s) o (past s us)) (IsOne R s)
keyword_yields R e s k None us n h = tt
keyword_yields R e s k (Some w) us n h =
    let g : Takes s.rest (Keyword (number_of w)) us = subst (λ j. Takes s.rest (Keyword j) us) n h in
    yields_also (word_by R (here s) (Some w) (past s us)) _ (IsOne R s) (word_yields R e (here s) w (past s us)) (λ x t i. by_word R s w us x t g i)

typedef_of : (typed b : Bool) → (if typed then false else b) ≡ true → b ≡ true
typedef_of true b h = absurd cc
typedef_of false b h = h

named_type : (R : Readers) (s : State) (n : List ℕ) (us : List Placed) → is_typedef s.names n ≡ true → Takes s.rest (Name n) us → IsOne R s (NamedType (here s) n) (past s us)
named_type R s n us d h = record {
  fits = tt;
  low = omega arith;
  ends = nothing_ends (NamedType (here s) n) us;
  used = let u = taken_used s.rest us (Name n) h in omega arith;
  runs = λ r. here_iff (Typed n ∷ r) s (taken_left s.rest us (Name n) h) (typed_iff n r s us d h iff_same);
}

specifier_by_yields : (R : Readers) → AreExact R → (typed : Bool) (s : State) (l : Lexeme) (us : List Placed) → is_specifier s.names typed l ≡ true → Takes s.rest l us → Yields (specifier_by R (here s) l (past s us)) (IsOne R s)
specifier_by_yields R e typed s (Name n) us a h = named_type R s n us (typedef_of typed (is_typedef s.names n) a) h
specifier_by_yields R e typed s (Keyword k) us a h = keyword_yields R e s k (word_of k) us (word_number k) h
specifier_by_yields R e typed s (Integer v k) us a h = tt
specifier_by_yields R e typed s (Character v) us a h = tt
specifier_by_yields R e typed s (Text b) us a h = tt
specifier_by_yields R e typed s (Sign k) us a h = tt

-- where one more specifier is next
specifier_yields : (R : Readers) → AreExact R → (typed : Bool) (s : State) → answer (IsSpecifier typed) s ≡ true → Yields (specifier R s) (IsOne R s)
unfolding specifier
specifier_yields R e typed s a =
    first_yields s (specifier_by R (here s)) (IsOne R s) (λ l us h. specifier_by_yields R e typed s l us (sym (ap (λ ts. first_is (is_specifier s.names typed) (lexemes ts)) h.1) ∙ a) h)

word_found : (R : Readers) (l : ℕ) (w : Word) (x : SpecifierTree) (m r : List Mark) (s : State) → RunsOn (Here l ∷ Tok (Keyword (number_of w)) ∷ m) s → ((t : State) → RunsOn m t → Finds (word_by R l (Some w) t) x r) → Finds (specifier R s) x r
unfolding specifier
word_found R l w x m r s h g =
    here_finds l (Tok (Keyword (number_of w)) ∷ m) r s (λ n. with_first s (specifier_by R n)) x h (λ k.
    first_finds (Keyword (number_of w)) m r s (specifier_by R l) x k (λ t i. subst (λ v. Finds (word_by R l v t) x r) (sym (word_known w)) (g t i)))

record_found : (R : Readers) → AreExact R → (l : ℕ) (k : RecordKind) (name : Option (List ℕ)) (ms : MemberTrees) (r : List Mark) (s : State) → FitsSomeMembers ms → members_height ms ≤ R.limit → RunsOn (marks.tag_then name (Tok (Sign 4) ∷ marks.members ms r)) s → Finds (record_of R l k s) (Record l k name ms) r
unfolding record_of
record_found R e l k name ms r s f w h = tagged_found marks.members FitsSomeMembers members_height R.limit (members R) (λ name ms. Record l k name ms) (λ n. RecordTag l k n) (members_exact R e) name ms r s f w h

record_tag_found : (R : Readers) (l : ℕ) (k : RecordKind) (n : List ℕ) (r : List Mark) (s : State) → RunsOn (Tok (Name n) ∷ Ask (IsSign 4) false ∷ r) s → Finds (record_of R l k s) (RecordTag l k n) r
unfolding record_of
record_tag_found R l k n r s h = alone_found (members R) (λ name ms. Record l k name ms) (λ n. RecordTag l k n) n r s h

enumeration_found : (R : Readers) → AreExact R → (l : ℕ) (name : Option (List ℕ)) (es : EnumeratorTrees × Bool) (r : List Mark) (s : State) → FitsSomeEnumerators es → enumerators_high es ≤ R.limit → RunsOn (marks.tag_then name (Tok (Sign 4) ∷ spelled_with es r)) s → Finds (enumeration_of R l s) (Enum l name es.0 es.1) r
unfolding enumeration_of
enumeration_found R e l name es r s f w h = tagged_found spelled_with FitsSomeEnumerators enumerators_high R.limit (enumerators R) (λ name es. Enum l name es.0 es.1) (λ n. EnumTag l n) (enumerators_exact R e) name es r s f w h

enumeration_tag_found : (R : Readers) (l : ℕ) (n : List ℕ) (r : List Mark) (s : State) → RunsOn (Tok (Name n) ∷ Ask (IsSign 4) false ∷ r) s → Finds (enumeration_of R l s) (EnumTag l n) r
unfolding enumeration_of
enumeration_tag_found R l n r s h = alone_found {X = EnumeratorTrees × Bool} (enumerators R) (λ name es. Enum l name es.0 es.1) (λ n. EnumTag l n) n r s h

named_found : (R : Readers) (l : ℕ) (n : List ℕ) (r : List Mark) (s : State) → RunsOn (Here l ∷ Typed n ∷ r) s → Finds (specifier R s) (NamedType l n) r
unfolding specifier
named_found R l n r s h =
    here_finds l (Typed n ∷ r) r s (λ k. with_first s (specifier_by R k)) (NamedType l n) h (λ k. typed_finds n r r s (specifier_by R l) (NamedType l n) k (λ t g. (refl, g)))

specifier_found : (R : Readers) → AreExact R → (x : SpecifierTree) (r : List Mark) (s : State) → FitsSpecifier x → specifier_height x ≤ R.limit → RunsOn (marks.specifier x r) s → Finds (specifier R s) x r
specifier_found R e (Stored l x) r s f w h = word_found R l (StorageWord x) (Stored l x) r r s h (λ t g. (refl, g))
specifier_found R e (Qualified l x) r s f w h = word_found R l (QualifierWord x) (Qualified l x) r r s h (λ t g. (refl, g))
specifier_found R e (Basic l x) r s f w h = word_found R l (BasicWord x) (Basic l x) r r s h (λ t g. (refl, g))
specifier_found R e (Record l k name ms) r s f w h = word_found R l (RecordWord k) (Record l k name ms) (marks.tag_then name (Tok (Sign 4) ∷ marks.members ms r)) r s h (λ t g. record_found R e l k name ms r t f w g)
specifier_found R e (RecordTag l k n) r s f w h = word_found R l (RecordWord k) (RecordTag l k n) (Tok (Name n) ∷ Ask (IsSign 4) false ∷ r) r s h (λ t g. record_tag_found R l k n r t g)
specifier_found R e (Enum l name es comma) r s f w h = word_found R l EnumWord (Enum l name es comma) (marks.tag_then name (Tok (Sign 4) ∷ marks.enumerators es comma r)) r s h (λ t g. enumeration_found R e l name (es, comma) r t f w g)
specifier_found R e (EnumTag l n) r s f w h = word_found R l EnumWord (EnumTag l n) (Tok (Name n) ∷ Ask (IsSign 4) false ∷ r) r s h (λ t g. enumeration_tag_found R l n r t g)
specifier_found R e (NamedType l n) r s f w h = named_found R l n r s h

-- ---- specifiers

-- behind others of which one said a type, or none
abbrev pub spelled_behind : Bool → List SpecifierTree → List Mark → List Mark
spelled_behind typed xs r = marks.specifier_list typed (specifier_list_of xs) r

abbrev pub FitLow : Readers → SpecifierTree → Type 0
FitLow R = Fit FitsSpecifier specifier_height R.limit

abbrev pub AreMore : Readers → Bool → State → List SpecifierTree → State → Type 0
AreMore R typed s xs t = IsList spelled_behind (FitLow R) (EndsAt nothing_more) (λ b u. answer (IsSpecifier b) u) typed s xs t

one_more : (R : Readers) (typed : Bool) (s : State) (x : SpecifierTree) (t : State) → answer (IsSpecifier typed) s ≡ true → IsOne R s x t → IsItem spelled_behind (FitLow R) (EndsAt nothing_more) (λ b y. b || says_type y) typed s x t
one_more R typed s x t a h = record {
  kept = (h.fits, h.low);
  ends = h.ends;
  used = h.used;
  runs = λ xs r. let m : List Mark = spelled_behind (typed || says_type x) xs r in asked_iff (IsSpecifier typed) true (marks.specifier x m) s a (h.runs m);
}

more_yields : (R : Readers) → AreExact R → (typed : Bool) (s : State) → Yields (more_specifiers R typed s) (AreMore R typed s)
more_yields R e typed s =
    many_yields spelled_behind (FitLow R) (EndsAt nothing_more) (λ b u. answer (IsSpecifier b) u) (λ b u. specifier R u) (λ b y. b || says_type y)
    (λ b u r a. asked_iff (IsSpecifier b) false r u a iff_same)
    (λ b u a. yields_also (specifier R u) (IsOne R u) _ (specifier_yields R e b u a) (λ x t h. one_more R b u x t a h))
    (length s.rest + 1) typed s

more_found : (R : Readers) → AreExact R → (typed : Bool) (s : State) (xs : List SpecifierTree) (r : List Mark) → Every (FitLow R) xs → RunsOn (spelled_behind typed xs r) s → Finds (more_specifiers R typed s) xs r
more_found R e typed s xs r q h =
    many_finds (λ b ys. spelled_behind b ys r) (Every (FitLow R)) r (λ b u. answer (IsSpecifier b) u) (λ b u. specifier R u) (λ b y. b || says_type y)
    (λ b u k. (k.0, k.1))
    (λ b u x ys p k. (k.0, p.1, specifier_found R e x (spelled_behind (b || says_type x) ys r) u p.0.0 p.0.1 k.1))
    (λ b u x t a k. (read_so (specifier R u) (IsOne R u) x t (specifier_yields R e b u a) k).used)
    (length s.rest + 1) typed s xs (omega arith) q h

specifiers_fit : (n : ℕ) (xs : List SpecifierTree) → Every (Fit FitsSpecifier specifier_height n) xs → FitsSpecifierList (specifier_list_of xs) × (specifier_list_height (specifier_list_of xs) ≤ n)
specifiers_fit n [] h = (tt, omega arith)
specifiers_fit n (x ∷ xs) h = let k = specifiers_fit n xs h.1 in let l = h.0.1 in let m = k.1 in ((h.0.0, k.0), omega arith)

abbrev specifier_items : SpecifierTrees → List SpecifierTree
specifier_items NoSpecifiers = []
specifier_items (Specifiers x xs) = x ∷ specifier_items xs

specifier_items_of : (xs : SpecifierTrees) → specifier_list_of (specifier_items xs) ≡ xs
specifier_items_of NoSpecifiers = refl
specifier_items_of (Specifiers x xs) = ap (Specifiers x) (specifier_items_of xs)

specifiers_are_fit : (n : ℕ) (xs : SpecifierTrees) → FitsSpecifierList xs → specifier_list_height xs ≤ n → Every (Fit FitsSpecifier specifier_height n) (specifier_items xs)
specifiers_are_fit n NoSpecifiers f l = tt
specifiers_are_fit n (Specifiers x xs) f l = ((f.0, omega arith), specifiers_are_fit n xs f.1 (omega arith))

abbrev pub AreSpecifiers : Readers → State → SpecifiersTree → State → Type 0
AreSpecifiers R s x t = IsPiece marks.specifiers FitsSpecifiers nothing_more specifiers_height R.limit 1 s x t

some_yields : (R : Readers) (s : State) (xs : List SpecifierTree) (t : State) → AreMore R false s xs t → Yields (some_specifiers (here s) xs t) (AreSpecifiers R s)
some_yields R s [] t h = tt
some_yields R s (x ∷ xs) t h =
    let f = specifiers_fit R.limit (x ∷ xs) h.kept in
    record {
      fits = f.0;
      low = f.1;
      ends = nothing_ends (Specified (here s) (specifier_list_of (x ∷ xs))) t.rest;
      used = let u = h.used in omega arith;
      runs = λ r. here_iff (Ask (IsSpecifier false) true ∷ spelled_behind false (x ∷ xs) r) s (let u = h.used in omega arith) (λ a. (h.runs r).0 a.1, λ b. (((h.runs r).1 b).0, (h.runs r).1 b));
    }

specifiers_yields : (R : Readers) → AreExact R → (s : State) → Yields (specifiers R s) (AreSpecifiers R s)
unfolding specifiers
specifiers_yields R e s = bind_yields (more_specifiers R false s) _ _ _ (more_yields R e false s) (λ xs t h. some_yields R s xs t h)

some_found : (l : ℕ) (s : State) (x : SpecifierTree) (xs : List SpecifierTree) (t : State) (r : List Mark) → here s ≡ l → RunsOn r t → Finds (some_specifiers (here s) (x ∷ xs) t) (Specified l (specifier_list_of (x ∷ xs))) r
some_found l s x xs t r e h = (ap (λ n. Specified n (specifier_list_of (x ∷ xs))) e, h)

specifiers_found : (R : Readers) → AreExact R → (s : State) (l : ℕ) (x : SpecifierTree) (xs : List SpecifierTree) (r : List Mark) → Every (FitLow R) (x ∷ xs) → RunsOn (marks.specifiers (Specified l (specifier_list_of (x ∷ xs))) r) s → Finds (specifiers R s) (Specified l (specifier_list_of (x ∷ xs))) r
unfolding specifiers
specifiers_found R e s l x xs r q h =
    bind_finds (more_specifiers R false s) (x ∷ xs) r r (λ ys t. some_specifiers (here s) ys t) (Specified l (specifier_list_of (x ∷ xs))) (more_found R e false s (x ∷ xs) r q h.1.1) (λ t g.
    some_found l s x xs t r (here_is l (Ask (IsSpecifier false) true ∷ spelled_behind false (x ∷ xs) r) s h) g)

specifiers_all_found : (R : Readers) → AreExact R → (s : State) (x : SpecifiersTree) (r : List Mark) → FitsSpecifiers x → specifiers_height x ≤ R.limit → RunsOn (marks.specifiers x r) s → Finds (specifiers R s) x r
specifiers_all_found R e s (Specified l NoSpecifiers) r f w h = no_two (answer (IsSpecifier false) s) _ h.1.0 h.1.1.0
specifiers_all_found R e s (Specified l (Specifiers x xs)) r f w h =
    subst (λ y. Finds (specifiers R s) (Specified l (Specifiers x y)) r) (specifier_items_of xs)
    (specifiers_found R e s l x (specifier_items xs) r (specifiers_are_fit R.limit (Specifiers x xs) f w) (subst (λ y. RunsOn (marks.specifiers (Specified l (Specifiers x y)) r) s) (sym (specifier_items_of xs)) h))

pub specifiers_exact : (R : Readers) → AreExact R → Exact marks.specifiers FitsSpecifiers nothing_more specifiers_height R.limit 1 (specifiers R)
specifiers_exact R e = exact_by marks.specifiers FitsSpecifiers nothing_more specifiers_height R.limit 1 (specifiers R) (specifiers_yields R e) (λ s x r f l c h. specifiers_all_found R e s x r f l h)
