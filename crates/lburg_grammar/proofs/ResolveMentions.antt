-- A text without a fault mentions at most 127 nonterminals.
use Rattle.std.proofs.Common.{◌≡◌, ◌≤◌, ◌<◌, ◌⊎◌, ℕ, zero, suc, List, [], ◌∷◌, ◌++◌, length, take, Some, None, refl, sym, ap, ◌∙◌, subst, inl, inr, arith}
use Rattle.std.specs.Prelude.{slice_get}
use Rattle.std.proofs.lemmas.Option.{none-some, same_Some, slice_get_within}
use Rattle.std.proofs.lemmas.List.{take_all, length-append}
use Rattle.std.proofs.lemmas.Bool.{cases_lt}
use Rattle.lcc_base.specs.declared.which.Which.TheVariants as which
use Rattle.lcc_text.proofs.lemmas.Places.{known_or_new}
use Rattle.lburg_lines.specs.Tokens.{Tok, Word}
use Rattle.lburg_lines.specs.Sections.{TokenLine}
use Rattle.lburg_faults.specs.declared.line_fault.LineFault.TheVariants.{Limit}
use Rattle.lburg_faults.specs.Setting.{Setting}
use Rattle.lburg_faults.specs.Terminals.{Among, declared_in, names_of}
use Rattle.lburg_faults.specs.Mentions.{MentionsAt, MentionedBefore}
use Rattle.lburg_faults.specs.Knowing.{MentionedIn}
use Rattle.lburg_faults.specs.Limits.{AreDistinct, IsNonterminalLimit}
use Rattle.lburg_faults.specs.FirstFault.{setting_of, NoneStands}
use Rattle.lburg_grammar.proofs.ResolveNames.{no_more, some_at, take_get}
use Rattle.lburg_grammar.proofs.ResolveWritten.{none_at}
use Rattle.lburg_grammar.proofs.ResolveLists.{get_left, get_last, get_push, once_more}

-- it can't be that it isn't so
abbrev pub Surely : Type 0 → Type 0
Surely A = (A → ⊥) → ⊥

-- at most 127 names, those of which it is said
pub record AreFew (Said : List ℕ → Type 0) : Type 0 where
  pub names : List (List ℕ)
  pub all : (name : List ℕ) → Said name → Among name names
  pub only : (name : List ℕ) → Among name names → Said name
  pub once : AreDistinct names
  pub few : length names ≤ 127

pub few_same : (A B : List ℕ → Type 0) → ((name : List ℕ) → A name → B name) → ((name : List ℕ) → B name → A name) → AreFew A → AreFew B
few_same A B f g h = record { names = h.names; all = λ name b. h.all name (g name b); only = λ name a. f name (h.only name a); once = h.once; few = h.few }

few_none : (A : List ℕ → Type 0) → ((name : List ℕ) → A name → ⊥) → AreFew A
few_none A h = record { names = []; all = λ name a. absurd (h name a); only = λ name a. absurd (none-some name a.1); once = λ i j x e. absurd (none-some x e); few = omega arith }

-- ---- one place

mention_word : (ts : List (List ℕ)) (l : TokenLine) (p : ℕ) (name : List ℕ) → MentionsAt ts l p name → slice_get l.tokens p ≡ Some (Word name)
mention_word ts l p name m = elim m [
  | inl s ↦ ap (λ (q : ℕ). slice_get l.tokens q) s.2 ∙ ap (λ (xs : List Tok). slice_get xs 1) s.1.1
  | inr r ↦ r.1
]

one_mention : (ts : List (List ℕ)) (l : TokenLine) (p : ℕ) (a b : List ℕ) → MentionsAt ts l p a → MentionsAt ts l p b → a ≡ b
one_mention ts l p a b m n = let e : Word a ≡ Word b = same_Some (Word a) (Word b) (sym (mention_word ts l p a m) ∙ mention_word ts l p b n) in cc

module _ (s : Setting) (l : TokenLine) (p : ℕ) where
  before_more : (name : List ℕ) → MentionedBefore s l p name → MentionedBefore s l (suc p) name
  before_more name m = elim m [
    | inl e ↦ inl e
    | inr e ↦ (let w = e.1 in inr (e.0, omega arith, e.2))
  ]

  before_split : (name : List ℕ) → MentionedBefore s l (suc p) name → MentionedBefore s l p name ⊎ MentionsAt s.terminals l p name
  before_split name m = elim m [
    | inl e ↦ inl (inl e)
    | inr e ↦ elim (cases_lt e.0 p) [
      | inl w ↦ inl (inr (e.0, w, e.2))
      | inr w ↦ (let v = e.1 in let q : e.0 ≡ p = omega arith in let P : ℕ → Type 0 = λ k. MentionsAt s.terminals l k name in inr (subst P q e.2))
    ]
  ]

  -- nothing is mentioned there
  few_still : ((name : List ℕ) → MentionsAt s.terminals l p name → ⊥) → AreFew (MentionedBefore s l p) → AreFew (MentionedBefore s l (suc p))
  few_still h f = few_same (MentionedBefore s l p) (MentionedBefore s l (suc p)) before_more (λ name m. elim (before_split name m) [
    | inl b ↦ b
    | inr b ↦ absurd (h name b)
  ]) f

  -- a name is
  few_known : (name : List ℕ) → MentionsAt s.terminals l p name → (f : AreFew (MentionedBefore s l p)) → Among name f.names → AreFew (MentionedBefore s l (suc p))
  few_known name m f a = record {
    names = f.names;
    all = λ x b. elim (before_split x b) [
      | inl c ↦ f.all x c
      | inr c ↦ (let P : List ℕ → Type 0 = λ y. Among y f.names in subst P (one_mention s.terminals l p name x m c) a)
    ];
    only = λ x a. before_more x (f.only x a);
    once = f.once;
    few = f.few;
  }

  few_new : (name : List ℕ) → (IsNonterminalLimit s l p → ⊥) → MentionsAt s.terminals l p name → (f : AreFew (MentionedBefore s l p)) → (Among name f.names → ⊥) → AreFew (MentionedBefore s l (suc p))
  few_new name limit m f new =
      let room : length f.names < 127 = elim (cases_lt (length f.names) 127) [
        | inl w ↦ w
        | inr w ↦ absurd (limit (record { name = name; here = m; new = λ b. new (f.all name b); others = f.names; many = w; once = f.once; before = f.only }))
      ] in
      record {
        names = f.names ++ name ∷ [];
        all = λ x b. elim (before_split x b) [
          | inl c ↦ (let a = f.all x c in (a.0, get_left f.names (name ∷ []) a.0 x a.1))
          | inr c ↦ (length f.names, get_last f.names [] name ∙ ap (λ (y : List ℕ). Some y) (one_mention s.terminals l p name x m c))
        ];
        only = λ x a. elim (get_push f.names name x a.0 a.1) [
          | inl e ↦ before_more x (f.only x (a.0, e))
          | inr e ↦ (let P : List ℕ → Type 0 = λ y. MentionedBefore s l (suc p) y in subst P e.1 (inr (p, omega arith, m)))
        ];
        once = once_more f.names name f.once (λ i e. new (i, e));
        few = (let n = length-append f.names (name ∷ []) in omega arith);
      }

  few_more : (IsNonterminalLimit s l p → ⊥) → AreFew (MentionedBefore s l p) → Surely (AreFew (MentionedBefore s l (suc p)))
  few_more limit f bad = bad (few_still (λ name m. bad (elim (known_or_new f.names name) [
    | inl k ↦ few_known name m f (k.0, k.1)
    | inr k ↦ few_new name limit m f (λ a. k a.0 a.1)
  ])) f)

-- ---- one line

few_to : (s : Setting) (l : TokenLine) (p : ℕ) → ((q : ℕ) → IsNonterminalLimit s l q → ⊥) → AreFew (MentionedIn s.terminals s.before) → Surely (AreFew (MentionedBefore s l p))
few_to s l zero limit f bad = bad (few_same (MentionedIn s.terminals s.before) (MentionedBefore s l 0) (λ name m. inl m) (λ name m. elim m [
  | inl e ↦ e
  | inr e ↦ (let w = e.1 in absurd (omega arith))
]) f)
few_to s l (suc p) limit f bad = few_to s l p limit f (λ g. few_more s l p (limit p) g bad)

-- ---- all lines

short : (xs : List TokenLine) (i j : ℕ) (k : TokenLine) → slice_get (take i xs) j ≡ Some k → j < i
short [] zero j k g = absurd (none-some k g)
short [] (suc i) j k g = absurd (none-some k g)
short (x ∷ xs) zero j k g = absurd (none-some k g)
short (x ∷ xs) (suc i) zero k g = omega arith
short (x ∷ xs) (suc i) (suc j) k g = let h = short xs i j k g in omega arith

module _ (lines : List TokenLine) (none : NoneStands lines) where
  in_more : (i : ℕ) (l : TokenLine) → slice_get lines i ≡ Some l → (name : List ℕ) → MentionedBefore (setting_of lines (take i lines)) l (length l.tokens) name → MentionedIn (names_of (declared_in lines)) (take (suc i) lines) name
  in_more i l e name m = elim m [
    | inl k ↦
        let v : k.0 < i = short lines i k.0 k.2 k.3 in
        (k.0, k.1, k.2, take_get lines k.0 (suc i) (omega arith) ∙ sym (take_get lines k.0 i v) ∙ k.3, k.4)
    | inr k ↦ (i, k.0, l, take_get lines i (suc i) (omega arith) ∙ e, k.2)
  ]

  in_less : (i : ℕ) (l : TokenLine) → slice_get lines i ≡ Some l → (name : List ℕ) → MentionedIn (names_of (declared_in lines)) (take (suc i) lines) name → MentionedBefore (setting_of lines (take i lines)) l (length l.tokens) name
  in_less i l e name m = elim (cases_lt m.0 i) [
    | inl w ↦ inl (m.0, m.1, m.2, take_get lines m.0 i w ∙ sym (take_get lines m.0 (suc i) (omega arith)) ∙ m.3, m.4)
    | inr w ↦
        let v = short lines (suc i) m.0 m.2 m.3 in
        let q : m.0 ≡ i = omega arith in
        let f : m.2 ≡ l = same_Some m.2 l (sym m.3 ∙ take_get lines m.0 (suc i) v ∙ ap (λ (k : ℕ). slice_get lines k) q ∙ e) in
        let P : TokenLine → Type 0 = λ k. MentionsAt (names_of (declared_in lines)) k m.1 name in
        let g = subst P f m.4 in
        let b = slice_get_within l.tokens m.1 (Word name) (mention_word (names_of (declared_in lines)) l m.1 name g) in
        inr (m.1, b, g)
  ]

  few_line : (i : ℕ) (l : TokenLine) → slice_get lines i ≡ Some l → AreFew (MentionedIn (names_of (declared_in lines)) (take i lines)) → Surely (AreFew (MentionedIn (names_of (declared_in lines)) (take (suc i) lines)))
  few_line i l e f bad =
      let s = setting_of lines (take i lines) in
      few_to s l (length l.tokens) (λ q h. none_at lines none i l q (Limit which.Nonterminals) e h) f (λ g. bad (few_same (MentionedBefore s l (length l.tokens)) (MentionedIn (names_of (declared_in lines)) (take (suc i) lines)) (in_more i l e) (in_less i l e) g))

  few_lines : (i : ℕ) → i ≤ length lines → Surely (AreFew (MentionedIn (names_of (declared_in lines)) (take i lines)))
  few_lines zero h bad = bad (few_none (MentionedIn (names_of (declared_in lines)) (take 0 lines)) (λ name m. none-some m.2 (sym (nothing lines m.0) ∙ m.3))) where
    nothing : (xs : List TokenLine) (j : ℕ) → slice_get (take 0 xs) j ≡ None
    nothing [] j = refl
    nothing (x ∷ xs) j = refl
  few_lines (suc i) h bad = few_lines i (omega arith) (λ f. (let l = some_at lines i (omega arith) in few_line i l.0 l.1 f bad))

  few_mentioned : Surely (AreFew (MentionedIn (names_of (declared_in lines)) lines))
  few_mentioned = let P : List TokenLine → Type 0 = λ ls. Surely (AreFew (MentionedIn (names_of (declared_in lines)) ls)) in subst P (take_all (length lines) lines (omega arith)) (few_lines (length lines) (omega arith))

  -- names that are mentioned, once each
  pub at_most : (names : List (List ℕ)) → AreDistinct names → ((name : List ℕ) → Among name names → MentionedIn (names_of (declared_in lines)) lines name) → length names ≤ 127
  at_most names once h = elim (cases_lt 127 (length names)) [
    | inl l ↦ absurd (few_mentioned (λ f. (
        let m = no_more names f.names once (λ x a. f.all x (h x a)) in
        let n = f.few in
        omega arith)))
    | inr l ↦ l
  ]
