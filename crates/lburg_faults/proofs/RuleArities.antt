-- The numbers of operands, use by use.
use Rattle.std.proofs.Common.{◌≡◌, ◌<◌, ◌≤◌, ◌⊎◌, ℕ, ◌+◌, zero, suc, max, min, Bool, true, false, List, [], ◌∷◌, ◌++◌, length, take, set, Option, Some, None, refl, sym, ap, ◌∙◌, subst, inl, inr, arith}
use Rattle.std.specs.Prelude.{◌≢◌, slice_get, IfSome, IfNone}
use Rattle.std.proofs.lemmas.Option.{same_Some, slice_get_within}
use Rattle.lcc_text.specs.Names.{bytes_of, place_of}
use Rattle.lcc_text.proofs.lemmas.Places.{place_none, place_some}
use Rattle.lburg_lines.specs.Tokens.{Tok, Word}
use Rattle.lburg_lines.specs.Grammar.{AreLineOf}
use Rattle.lburg_lines.specs.Sections.{TokenLine}
use Rattle.lburg_faults.specs.declared.line_fault.LineFault.{LineFault}
use Rattle.lburg_faults.specs.declared.line_fault.LineFault.TheVariants as fault
use Rattle.lburg_faults.specs.declared.known.Known.{Known}
use Rattle.lburg_faults.specs.Lines.{IsRules, InPattern, has_template}
use Rattle.lburg_faults.specs.Terminals.{declared_in, names_of}
use Rattle.lburg_faults.specs.Uses.{IsUse, IsFirstUse}
use Rattle.lburg_faults.specs.ArityDiffers.{IsArityDiffers}
use Rattle.lburg_faults.specs.Limits.{AreDistinct}
use Rattle.lburg_faults.specs.Setting.{Setting}
use Rattle.lburg_faults.specs.LineFaults.{row_of}
use Rattle.lburg_faults.specs.Knowing.{Uses, NotRight}
use Rattle.lburg_faults.specs.KnowsUses.{KnowsUses}
use Rattle.lburg_faults.specs.Scans.{IsFirstOf, NoneOf, UseRows}
use Rattle.lburg_faults.specs.Using.{UsedFirst, UsesBefore, UsedAt, NotUsedAt, DiffersAt, UseGives, UsesGive, LeastBefore}
use Rattle.lburg_faults.proofs.RuleLists.{compare, not_less, in_front}
use Rattle.lburg_faults.proofs.RulePatterns.{fewer_templates, template_kept, no_more_template}
use Rattle.lburg_faults.proofs.RuleTokens.{IsNoName, no_word}
use Rattle.lburg_faults.proofs.RuleLine.{IsPatternEnd}
use Rattle.lburg_faults.proofs.RuleUses.{OneTree, use_word, use_last, use_once, first_once, first_in, first_back, first_here, unused, used_more, used_split}

set_here : {A : Type 0} (xs : List A) (i : ℕ) (x : A) → i < length xs → slice_get (set xs i x) i ≡ Some x
set_here [] i x h = absurd (omega arith)
set_here (y ∷ xs) zero x h = refl
set_here (y ∷ xs) (suc i) x h = set_here xs i x (omega arith)

set_other : {A : Type 0} (xs : List A) (i j : ℕ) (x : A) → (j ≡ i → ⊥) → slice_get (set xs i x) j ≡ slice_get xs j
set_other [] i j x h = refl
set_other (y ∷ xs) zero zero x h = absurd (h refl)
set_other (y ∷ xs) zero (suc j) x h = refl
set_other (y ∷ xs) (suc i) zero x h = refl
set_other (y ∷ xs) (suc i) (suc j) x h = set_other xs i j x (λ e. h (ap suc e))

set_long : {A : Type 0} (xs : List A) (i : ℕ) (x : A) → length (set xs i x) ≡ length xs
set_long [] i x = refl
set_long (y ∷ xs) zero x = refl
set_long (y ∷ xs) (suc i) x = let e = set_long xs i x in omega arith

-- ---- one place further

-- what is noted stays
kept : (s : Setting) (l : TokenLine) (p : ℕ) (a : List (Option ℕ)) → UsesBefore s l p a → ((j q m : ℕ) (other : List ℕ) → slice_get s.terminals j ≡ Some other → IsUse l p q other m → IsFirstUse (s.before ++ l ∷ []) other m → slice_get a j ≡ Some (Some m)) → UsesBefore s l (p + 1) a
kept s l p a b h = record {
  noted = b.noted;
  arities = λ i n name e g. used_more s l p name n (b.arities i n name e g);
  used = λ i n name e u. elim (used_split s l p name n u) [
    | inl v ↦ b.used i n name e v
    | inr v ↦ h i v.0 n name e v.1 u.first
  ];
}

-- no terminal is used there
pub nothing : (s : Setting) (l : TokenLine) (p : ℕ) (a : List (Option ℕ)) → UsesBefore s l p a → ((j q m : ℕ) (other : List ℕ) → slice_get s.terminals j ≡ Some other → IsUse l p q other m → ⊥) → UsesGive s l p a None
nothing s l p a b h = record {
  uses = kept s l p a b (λ j q m other e u f. absurd (h j q m other e u));
  differs = λ q d e. (let P : ℕ → Type 0 = λ z. IsUse l z q d.0 d.2 in h d.4.0 q d.2 d.0 d.4.1 (subst P e d.5));
}

-- no use that is the first's like differs
agrees : OneTree → (s : Setting) (l : TokenLine) (p last n : ℕ) (name : List ℕ) → IsUse l p last name n → IsFirstUse (s.before ++ l ∷ []) name n → DiffersAt s l p None
agrees one s l p last n name v f q d e =
    let P : ℕ → Type 0 = λ z. IsUse l z q d.0 d.2 in
    let o = use_once one l p last q n d.2 name d.0 v (subst P e d.5) in
    let Q : List ℕ → Type 0 = λ z. IsFirstUse (s.before ++ l ∷ []) z n in
    let g = first_once one (s.before ++ l ∷ []) d.0 n d.3 (subst Q o.0 f) d.6 in
    d.7 (sym o.1 ∙ g)

-- a terminal that is used like at first
pub same_use : OneTree → (s : Setting) (l : TokenLine) (p last n i : ℕ) (name : List ℕ) (a : List (Option ℕ)) → UsesBefore s l p a → AreDistinct s.terminals → slice_get s.terminals i ≡ Some name → IsUse l p last name n → slice_get a i ≡ Some (Some n) → UsesGive s l p a None
same_use one s l p last n i name a b once e v g = record {
  uses = kept s l p a b (λ j q m other f w u.
      (let o = use_once one l p last q n m name other v w in
      let x : i ≡ j = once i j name e (f ∙ ap (λ (z : List ℕ). Some z) (sym o.0)) in
      let P : ℕ → Type 0 = λ z. slice_get a z ≡ Some (Some m) in
      subst P x (g ∙ ap (λ (z : ℕ). Some (Some z)) o.1)));
  differs = agrees one s l p last n name v (b.arities i n name e g).first;
}

-- a terminal that is used otherwise
pub other_use : OneTree → (s : Setting) (l : TokenLine) (p last n m i : ℕ) (name : List ℕ) (a : List (Option ℕ)) → UsesBefore s l p a → slice_get s.terminals i ≡ Some name → IsUse l p last name n → slice_get a i ≡ Some (Some m) → n ≢ m → UsesGive s l p a (Some last)
other_use one s l p last n m i name a b e v g ne =
    let f = (b.arities i m name e g).first in
    record {
      uses = kept s l p a b (λ j q k other h w u.
          (let o = use_once one l p last q n k name other v w in
          let Q : List ℕ → Type 0 = λ z. IsFirstUse (s.before ++ l ∷ []) z m in
          let t = first_once one (s.before ++ l ∷ []) other m k (subst Q o.0 f) u in
          absurd (ne (o.1 ∙ sym t))));
      differs = (
        (name, p, n, m, (i, e), v, f, ne),
        λ q d h. (let P : ℕ → Type 0 = λ z. IsUse l z q d.0 d.2 in sym (use_once one l p last q n d.2 name d.0 v (subst P h d.5)).2),
      );
    }

-- a terminal that wasn't used before
pub new_use : OneTree → (s : Setting) (l : TokenLine) (p last n i : ℕ) (name : List ℕ) (a : List (Option ℕ)) → UsesBefore s l p a → AreDistinct s.terminals → slice_get s.terminals i ≡ Some name → IsUse l p last name n → slice_get a i ≡ Some None → UsesGive s l p (set a i (Some n)) None
new_use one s l p last n i name a b once e v g =
    let clear : (k : ℕ) → UsedFirst s l p name k → ⊥ = λ k u. (let h = b.used i k name e u in let t : Some None ≡ Some (Some k) = sym g ∙ h in cc) in
    let un = unused s l p name clear in
    let f = first_here s.before l name p last n v un.before un.left in
    let less : i < length a = slice_get_within a i None g in
    record {
      uses = record {
        noted = set_long a i (Some n) ∙ b.noted;
        arities = λ j k other h w. noted f.0 f.1 less j k other h w (compare j i);
        used = λ j k other h u. used f.0 less j k other h (used_split s l p other k u);
      };
      differs = agrees one s l p last n name v f.0;
    } where
      noted : (f : IsFirstUse (s.before ++ l ∷ []) name n) → f.place ≡ p → i < length a → (j k : ℕ) (other : List ℕ) → slice_get s.terminals j ≡ Some other → slice_get (set a i (Some n)) j ≡ Some (Some k) → (j < i) ⊎ ((j ≡ i) ⊎ (i < j)) → UsedFirst s l (p + 1) other k
      noted f at less j k other h w (inl x) = used_more s l p other k (b.arities j k other h (sym (set_other a i j (Some n) (λ y. omega arith)) ∙ w))
      noted f at less j k other h w (inr x) = elim x [
        | inl y ↦
            (let t : Some (Some n) ≡ Some (Some k) = sym (set_here a i (Some n) less) ∙ ap (λ (z : ℕ). slice_get (set a i (Some n)) z) (sym y) ∙ w in
            let u : Some name ≡ Some other = sym e ∙ ap (λ (z : ℕ). slice_get s.terminals z) (sym y) ∙ h in
            let c : n ≡ k = cc in
            let d : name ≡ other = cc in
            let P : List ℕ → Type 0 = λ z. UsedFirst s l (p + 1) z k in
            let Q : ℕ → Type 0 = λ z. UsedFirst s l (p + 1) name z in
            let q : UsedFirst s l (p + 1) name n = record { first = f; before = inr (omega arith) } in
            subst P d (subst Q c q))
        | inr y ↦ used_more s l p other k (b.arities j k other h (sym (set_other a i j (Some n) (λ z. omega arith)) ∙ w))
      ]

      used : IsFirstUse (s.before ++ l ∷ []) name n → i < length a → (j k : ℕ) (other : List ℕ) → slice_get s.terminals j ≡ Some other → UsedFirst s l p other k ⊎ ((q : ℕ) × IsUse l p q other k) → slice_get (set a i (Some n)) j ≡ Some (Some k)
      used f less j k other h (inl u) =
          let w = b.used j k other h u in
          let ne : j ≡ i → ⊥ = λ x. (let t : Some (Some k) ≡ Some None = sym w ∙ ap (λ (z : ℕ). slice_get a z) x ∙ g in cc) in
          set_other a i j (Some n) ne ∙ w
      used f less j k other h (inr u) =
          let o = use_once one l p last u.0 n k name other v u.1 in
          let x : i ≡ j = once i j name e (h ∙ ap (λ (z : List ℕ). Some z) (sym o.0)) in
          let P : ℕ → Type 0 = λ z. slice_get (set a i (Some n)) z ≡ Some (Some k) in
          subst P x (set_here a i (Some n) less ∙ ap (λ (z : ℕ). Some (Some z)) o.1)

-- ---- what a name at a place gave

abbrev pub NameUseGives : List Tok → ℕ → List (List ℕ) → List ℕ → List (Option ℕ) → List (Option ℕ) → Option ℕ → Type 0
NameUseGives tokens p terminals name old new last = (s : Setting) (l : TokenLine) → s.terminals ≡ terminals → AreDistinct s.terminals → l.tokens ≡ tokens → InPattern l p → slice_get tokens p ≡ Some (Word name) → UsesBefore s l p old → UsesGive s l p new last

-- the name at the place is that of the use there
same_name : (l : TokenLine) (tokens : List Tok) (p q m : ℕ) (name other : List ℕ) → l.tokens ≡ tokens → slice_get tokens p ≡ Some (Word name) → IsUse l p q other m → name ≡ other
same_name l tokens p q m name other e w u =
    let t : Word name ≡ Word other = same_Some _ _ (sym w ∙ sym (ap (λ (x : List Tok). slice_get x p) e) ∙ use_word l p q m other u) in
    cc

pub no_terminal : (tokens : List Tok) (p : ℕ) (terminals : List (List ℕ)) (name : List ℕ) (a : List (Option ℕ)) (r : Option ℕ) → r ≡ place_of terminals name → r ≡ None → NameUseGives tokens p terminals name a a None
no_terminal tokens p terminals name a r e f s l t once ts i w b =
    nothing s l p a b (λ j q m other g u.
    (let x = same_name l tokens p q m name other ts w u in
    let P : List ℕ → Type 0 = λ z. slice_get terminals j ≡ Some z in
    place_none terminals name j (sym e ∙ f) (subst P (sym x) (ap (λ (z : List (List ℕ)). slice_get z j) (sym t) ∙ g))))

pub no_tree : (tokens : List Tok) (p : ℕ) (terminals : List (List ℕ)) (name : List ℕ) (a : List (Option ℕ)) → NotUsedAt tokens p → NameUseGives tokens p terminals name a a None
no_tree tokens p terminals name a h s l t once ts i w b = nothing s l p a b (λ j q m other g u. h l q m other ts u)

terminal_at : (s : Setting) (terminals : List (List ℕ)) (name : List ℕ) (i : ℕ) (r : Option ℕ) → s.terminals ≡ terminals → r ≡ place_of terminals name → r ≡ Some i → slice_get s.terminals i ≡ Some name
terminal_at s terminals name i r t e f = ap (λ (z : List (List ℕ)). slice_get z i) t ∙ place_some terminals name i (sym e ∙ f)

pub differing : OneTree → (tokens : List Tok) (p : ℕ) (terminals : List (List ℕ)) (name : List ℕ) (a new : List (Option ℕ)) (r : Option ℕ) (i n last : ℕ) (b : Bool) → r ≡ place_of terminals name → r ≡ Some i → UsedAt tokens p last n → UseGives a i n new b → b ≡ true → NameUseGives tokens p terminals name a new (Some last)
differing one tokens p terminals name a new r i n last false e f u g h s l t once ts k w b = absurd cc
differing one tokens p terminals name a new r i n last true e f u g h s l t once ts k w b =
    let P : List (Option ℕ) → Type 0 = λ z. UsesGive s l p z (Some last) in
    subst P (sym g.3) (other_use one s l p last n g.0 i name a b (terminal_at s terminals name i r t e f) (u l name ts k w) g.1 g.2)

pub agreeing : OneTree → (tokens : List Tok) (p : ℕ) (terminals : List (List ℕ)) (name : List ℕ) (a new : List (Option ℕ)) (r : Option ℕ) (i n last : ℕ) (b : Bool) → r ≡ place_of terminals name → r ≡ Some i → UsedAt tokens p last n → UseGives a i n new b → b ≡ false → NameUseGives tokens p terminals name a new None
agreeing one tokens p terminals name a new r i n last true e f u g h s l t once ts k w b = absurd cc
agreeing one tokens p terminals name a new r i n last false e f u g h s l t once ts k w b =
    let P : List (Option ℕ) → Type 0 = λ z. UsesGive s l p z None in
    let v = u l name ts k w in
    let at = terminal_at s terminals name i r t e f in
    elim g [
      | inl x ↦ subst P (sym x.1) (new_use one s l p last n i name a b once at v x.0)
      | inr x ↦ subst P (sym x.1) (elim x.0 [
        | inl y ↦ same_use one s l p last n i name a b once at v y
        | inr y ↦ absurd (let c = b.noted in let d = slice_get_within s.terminals i name at in omega arith)
      ])
    ]

-- ---- what a token at a place gave

abbrev pub TokenUseGives : List Tok → ℕ → List (List ℕ) → List (Option ℕ) → List (Option ℕ) → Option ℕ → Type 0
TokenUseGives tokens p terminals old new last = (s : Setting) (l : TokenLine) → s.terminals ≡ terminals → AreDistinct s.terminals → l.tokens ≡ tokens → InPattern l p → UsesBefore s l p old → UsesGive s l p new last

pub of_name : (tokens : List Tok) (p : ℕ) (terminals : List (List ℕ)) (name : List ℕ) (old new : List (Option ℕ)) → slice_get tokens p ≡ Some (Word name) → (last : Option ℕ) → NameUseGives tokens p terminals name old new last → TokenUseGives tokens p terminals old new last
of_name tokens p terminals name old new w last h s l t once ts i b = h s l t once ts i w b

pub of_other : (tokens : List Tok) (p : ℕ) (terminals : List (List ℕ)) (a : List (Option ℕ)) (t : Tok) → slice_get tokens p ≡ Some t → IsNoName t → TokenUseGives tokens p terminals a a None
of_other tokens p terminals a t e n s l te once ts i b = nothing s l p a b (λ j q m other g u. no_word tokens p t other e n (sym (ap (λ (x : List Tok). slice_get x p) ts) ∙ use_word l p q m other u))

-- ---- the pattern

-- the differing use whose last token is the least
pub least_more : (s : Setting) (l : TokenLine) (bound p least new : ℕ) (last : Option ℕ) → LeastBefore s l bound p least → DiffersAt s l p last → IfSome last (λ q. new ≡ min least q) → IfNone last (new ≡ least) → LeastBefore s l bound (p + 1) new
least_more s l bound p least new None b d x y = record {
  within = (let w = b.within in omega arith);
  stands = λ h. subst (λ (z : ℕ). IsArityDiffers s l z) (sym y) (b.stands (omega arith));
  left = λ q e h. elim (compare e.1 p) [
    | inl k ↦ (let w = b.left q e k in omega arith)
    | inr k ↦ elim k [
      | inl m ↦ absurd (d q e m)
      | inr m ↦ absurd (omega arith)
    ]
  ];
}
least_more s l bound p least new (Some r) b d x y = record {
  within = (let w = b.within in omega arith);
  stands = λ h. elim (compare r least) [
    | inl k ↦ subst (λ (z : ℕ). IsArityDiffers s l z) (let e : r ≡ new = omega arith in e) d.0
    | inr k ↦ (let e : least ≡ new = elim k as (λ _. least ≡ new) [ inl m ↦ omega arith | inr m ↦ omega arith ] in subst (λ (z : ℕ). IsArityDiffers s l z) e (b.stands (omega arith)))
  ];
  left = λ q e h. elim (compare e.1 p) [
    | inl k ↦ (let w = b.left q e k in omega arith)
    | inr k ↦ elim k [
      | inl m ↦ (let w = d.1 q e m in omega arith)
      | inr m ↦ absurd (omega arith)
    ]
  ];
}

-- what is noted before a place of the pattern
abbrev pub UsesTo : List Tok → ℕ → ℕ → Known → List (Option ℕ) → ℕ → Type 0
UsesTo tokens bound p first counts least = (s : Setting) (l : TokenLine) → KnowsUses s.before first → s.terminals ≡ names_of (declared_in s.before) → IsRules l → l.tokens ≡ tokens → UsesBefore s l p counts × LeastBefore s l bound p least

known_terminals : (s : Setting) (k : Known) → KnowsUses s.before k → s.terminals ≡ names_of (declared_in s.before) → s.terminals ≡ bytes_of k.terminals
known_terminals s k w e = e ∙ sym w.names

pub uses_start : (tokens : List Tok) (bound : ℕ) (first : Known) → UsesTo tokens bound 2 first first.arities.items bound
uses_start tokens bound first s l w e i ts = (
  record {
    noted = w.noted ∙ ap (λ (z : List (List ℕ)). length z) (sym (known_terminals s first w e));
    arities = λ j n name g h.
        (let u = w.arities j n name (sym (ap (λ (z : List (List ℕ)). slice_get z j) (known_terminals s first w e)) ∙ g) h in
        let f = first_in s.before l name n u in
        record { first = f.0; before = inl f.1 });
    used = λ j n name g u. w.used j n name (sym (ap (λ (z : List (List ℕ)). slice_get z j) (known_terminals s first w e)) ∙ g) (first_back s.before l name n u.first (elim u.before as (λ _. u.first.index < length s.before) [
      | inl x ↦ x
      | inr x ↦ absurd (let k = u.first.is_use.in_pattern.1 in omega arith)
    ]));
  },
  record {
    within = omega arith;
    stands = λ h. absurd (omega arith);
    left = λ q d h. absurd (let k = d.5.in_pattern.1 in omega arith);
  },
)

pub uses_more : (tokens : List Tok) (bound end p : ℕ) (first mid : Known) (new : List (Option ℕ)) (least lesser : ℕ) (last : Option ℕ) → UsesTo tokens bound p first mid.arities.items least → 2 ≤ p → p < end → has_template (take end tokens) ≡ false → mid.terminals ≡ first.terminals
    → TokenUseGives tokens p (bytes_of mid.terminals) mid.arities.items new last → IfSome last (λ q. lesser ≡ min least q) → IfNone last (lesser ≡ least) → UsesTo tokens bound (p + 1) first new lesser
uses_more tokens bound end p first mid new least lesser last h o less t te g x y s l w e i ts =
    let b = h s l w e i ts in
    let terminals : s.terminals ≡ bytes_of first.terminals = known_terminals s first w e in
    let free : has_template (take p l.tokens) ≡ false = ap (λ (z : List Tok). has_template (take p z)) ts ∙ fewer_templates tokens p end (omega arith) t in
    let r = g s l (terminals ∙ ap (λ (z : _). bytes_of z) (sym te)) (subst AreDistinct (sym terminals) w.names_once) ts (i, o, free) b.0 in
    (r.uses, least_more s l bound p least lesser last b.1 r.differs x y)

-- behind the pattern's end nothing is used
behind_end : (l : TokenLine) (tokens : List Tok) (bound end p q n : ℕ) (name : List ℕ) → IsPatternEnd tokens bound end → l.tokens ≡ tokens → max 2 end ≤ p → p < bound → IsUse l p q name n → ⊥
behind_end l tokens bound end p q n name e ts h less u =
    let a = no_more_template l.tokens p (Word name) (use_word l p q n name u) tt u.in_pattern.2 in
    let b : has_template (take (end + 1) l.tokens) ≡ true = ap (λ (z : List Tok). has_template (take (end + 1) z)) ts ∙ e.behind (omega arith) in
    let c = template_kept l.tokens (end + 1) (suc p) (omega arith) b in
    cc

-- no differing use ends before the least
pub least_all : (s : Setting) (l : TokenLine) (tokens : List Tok) (bound end least : ℕ) → IsPatternEnd tokens bound end → l.tokens ≡ tokens → LeastBefore s l bound (max 2 end) least → (q : ℕ) → IsArityDiffers s l q → least ≤ q
least_all s l tokens bound end least e ts b q d =
    let w = b.within in
    let z = use_last l d.1 q d.2 d.0 d.5 in
    elim (compare d.1 (max 2 end)) [
      | inl x ↦ b.left q d x
      | inr x ↦ (let n : d.1 < bound → ⊥ = λ y. behind_end l tokens bound end d.1 q d.2 d.0 e ts (not_less d.1 (max 2 end) x) y d.5 in omega (arith, n))
    ]

-- the answer, where the least is the bound
pub none_differs : (tokens : List Tok) (bound end p : ℕ) (first : Known) (counts : List (Option ℕ)) (least : ℕ) → UsesTo tokens bound p first counts least → p ≡ max 2 end → IsPatternEnd tokens bound end → least ≡ bound
    → (s : Setting) (l : TokenLine) → KnowsUses s.before first → s.terminals ≡ names_of (declared_in s.before) → IsRules l → l.tokens ≡ tokens → NoneOf UseRows s l bound
none_differs tokens bound end p first counts least h at e q s l w t i ts other place less row =
    let P : ℕ → Type 0 = λ z. LeastBefore s l bound z least in
    let b = subst P at (h s l w t i ts).1 in
    row_none other row where
      row_none : (other : LineFault) → UseRows other s l place → ⊥
      row_none fault.ArityDiffers d = (let P : ℕ → Type 0 = λ z. LeastBefore s l bound z least in let k = least_all s l tokens bound end least e ts (subst P at (h s l w t i ts).1) place d in omega arith)
      row_none other d = d

pub one_differs : (tokens : List Tok) (bound end p : ℕ) (first : Known) (counts : List (Option ℕ)) (least : ℕ) → UsesTo tokens bound p first counts least → p ≡ max 2 end → IsPatternEnd tokens bound end → (least ≡ bound → ⊥)
    → (s : Setting) (l : TokenLine) → KnowsUses s.before first → s.terminals ≡ names_of (declared_in s.before) → IsRules l → l.tokens ≡ tokens → IsFirstOf UseRows s l bound (record { place = least; fault = fault.ArityDiffers })
one_differs tokens bound end p first counts least h at e q s l w t i ts =
    let P : ℕ → Type 0 = λ z. LeastBefore s l bound z least in
    let b = subst P at (h s l w t i ts).1 in
    let less : least < bound = (let k = b.within in omega (arith, q)) in
    record {
      within = less;
      stands = b.stands less;
      least = λ other place row. right other place (λ d. least_all s l tokens bound end least e ts b place d) row;
    } where
      right : (other : LineFault) (place : ℕ) → (IsArityDiffers s l place → least ≤ place) → UseRows other s l place → NotRight least 5 place (row_of other)
      right fault.ArityDiffers place f d = elim (compare least place) [
        | inl x ↦ inl x
        | inr x ↦ elim x [
          | inl y ↦ inr (y, omega arith)
          | inr y ↦ absurd (let k = f d in omega arith)
        ]
      ]
      right other place f d = absurd d

-- what is known of uses behind the line
pub uses_known : (tokens : List Tok) (bound end p : ℕ) (first new : Known) (least : ℕ) → UsesTo tokens bound p first new.arities.items least → p ≡ max 2 end → IsPatternEnd tokens bound end
    → new.terminals ≡ first.terminals → new.numbers ≡ first.numbers → new.nonterminals ≡ first.nonterminals → new.start ≡ first.start → new.rules ≡ first.rules
    → (s : Setting) (l : TokenLine) → KnowsUses s.before first → s.terminals ≡ names_of (declared_in s.before) → IsRules l → l.tokens ≡ tokens → AreLineOf l.section l.tokens → bound ≡ length l.tokens → Uses s l first new
uses_known tokens bound end p first new least h at e t1 t2 t3 t4 t5 s l w t i ts a z =
    let b = (h s l w t i ts).0 in
    let names = known_terminals s first w t in
    record {
      terminals = t1;
      numbers = t2;
      nonterminals = t3;
      start = t4;
      rules = t5;
      noted = b.noted ∙ ap (λ (x : List (List ℕ)). length x) names ∙ sym w.noted;
      arities = λ j n name g k. (b.arities j n name (ap (λ (x : List (List ℕ)). slice_get x j) names ∙ g) k).first;
      used = λ j n name g u. b.used j n name (ap (λ (x : List (List ℕ)). slice_get x j) names ∙ g) (all_used s l tokens bound end p name n e ts at z u);
    } where
      all_used : (s : Setting) (l : TokenLine) (tokens : List Tok) (bound end p : ℕ) (name : List ℕ) (n : ℕ) → IsPatternEnd tokens bound end → l.tokens ≡ tokens → p ≡ max 2 end → bound ≡ length l.tokens → IsFirstUse (s.before ++ l ∷ []) name n → UsedFirst s l p name n
      all_used s l tokens bound end p name n e ts at z u = elim (in_front s.before l u.index u.line u.there) [
        | inl x ↦ record { first = u; before = inl (slice_get_within s.before u.index u.line x) }
        | inr x ↦
            (let P : TokenLine → Type 0 = λ k. IsUse k u.place u.last name n in
            let v = subst P (sym x.1) u.is_use in
            let k = slice_get_within l.tokens u.place (Word name) (use_word l u.place u.last n name v) in
            let no : max 2 end ≤ u.place → ⊥ = λ y. behind_end l tokens bound end u.place u.last n name e ts y (omega arith) v in
            record { first = u; before = inr (omega (arith, no)) })
      ]
