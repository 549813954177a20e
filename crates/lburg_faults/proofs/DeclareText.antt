-- What the lines of a text declare, from a section on.
use Rattle.std.proofs.Common.{◌≡◌, ◌≢◌, ◌⊎◌, inl, inr, ℕ, zero, suc, List, [], ◌∷◌, ◌++◌, Option, Some, None, refl, sym, ap, ◌∙◌, subst, length, arith, Bool, true, false, cond, ◌≤◌, drop, true≢false}
use Rattle.std.specs.Prelude.{slice_get, codes}
use Rattle.std.proofs.lemmas.Option.{none-some, same_Some}
use Rattle.std.proofs.lemmas.List.{map-append, drop-map, length-map}
use Rattle.std.specs.Str.{bytes_eq}
use Rattle.std.proofs.lemmas.Slice.Eq.{bytes_eq-Decides}
use Rattle.lburg_lines.specs.declared.token.Token.{Token}
use Rattle.lcc_text.specs.Lines.{lines_of}
use Rattle.lcc_text.specs.Stops.{next}
use Rattle.lburg_lines.specs.declared.section.Section.{Section}
use Rattle.lburg_lines.specs.declared.section.Section.TheVariants.{Head, Prologue, Declarations, Rules, Tail}
use Rattle.lburg_lines.specs.declared.token.Border.{Border}
use Rattle.lburg_lines.specs.declared.token.Border.TheVariants.{Divider, PrologueStart, PrologueEnd}
use Rattle.lburg_lines.specs.declared.token.Sign.TheVariants.{Open, Close, Comma, Colon, Equals, OpenBracket, CloseBracket}
use Rattle.lburg_lines.specs.Tokens.{Tok, Word, Number, Negative, Template, Keyword, Mark, Bound, Wrong, view, views}
use Rattle.lburg_lines.specs.Grammar.{MNumbered}
use Rattle.lburg_lines.specs.Sections.{TokenLine, AreLinesFrom, SpellsIn, section_behind, behind_divider, first_border}
use Rattle.lburg_faults.specs.Terminals.{Among, behind_term, declared_by, declared_in, names_of, numbered}
use Rattle.lburg_faults.specs.Telling.{TextDeclares}

-- ---- tokens that declare no terminal

pub not_named : (ts : List Tok) → ((name : List ℕ) → next ts ≢ Some (Word name)) → names_of (numbered ts) ≡ []
not_named [] h = refl
not_named (Word n ∷ ts) h = absurd (h n refl)
not_named (Number d ∷ ts) h = refl
not_named (Negative d ∷ ts) h = refl
not_named (Template b ∷ ts) h = refl
not_named (Keyword b ∷ ts) h = refl
not_named (Mark s ∷ ts) h = refl
not_named (Bound b ∷ ts) h = refl
not_named (Wrong ∷ ts) h = refl

pub not_equal : (n : List ℕ) (ts : List Tok) → (next ts ≢ Some (Mark Equals)) → names_of (numbered (Word n ∷ ts)) ≡ []
not_equal n [] h = refl
not_equal n (Word m ∷ ts) h = refl
not_equal n (Number d ∷ ts) h = refl
not_equal n (Negative d ∷ ts) h = refl
not_equal n (Template b ∷ ts) h = refl
not_equal n (Keyword b ∷ ts) h = refl
not_equal n (Mark Open ∷ ts) h = refl
not_equal n (Mark Close ∷ ts) h = refl
not_equal n (Mark Comma ∷ ts) h = refl
not_equal n (Mark Colon ∷ ts) h = refl
not_equal n (Mark Equals ∷ ts) h = absurd (h refl)
not_equal n (Mark OpenBracket ∷ ts) h = refl
not_equal n (Mark CloseBracket ∷ ts) h = refl
not_equal n (Bound b ∷ ts) h = refl
not_equal n (Wrong ∷ ts) h = refl

pub not_digits : (n : List ℕ) (ts : List Tok) → ((digits : List ℕ) → next ts ≢ Some (Number digits)) → names_of (numbered (Word n ∷ (Mark Equals ∷ ts))) ≡ []
not_digits n [] h = refl
not_digits n (Word m ∷ ts) h = refl
not_digits n (Number d ∷ ts) h = absurd (h d refl)
not_digits n (Negative d ∷ ts) h = refl
not_digits n (Template b ∷ ts) h = refl
not_digits n (Keyword b ∷ ts) h = refl
not_digits n (Mark s ∷ ts) h = refl
not_digits n (Bound b ∷ ts) h = refl
not_digits n (Wrong ∷ ts) h = refl

pub not_equal_at : (ts us : List Tok) (n : List ℕ) → ts ≡ Word n ∷ us → (next us ≢ Some (Mark Equals)) → names_of (numbered ts) ≡ []
not_equal_at ts us n e h = ap (λ (x : List Tok). names_of (numbered x)) e ∙ not_equal n us h

pub not_digits_at : (ts us vs : List Tok) (n : List ℕ) → ts ≡ Word n ∷ us → us ≡ Mark Equals ∷ vs → ((digits : List ℕ) → next vs ≢ Some (Number digits)) → names_of (numbered ts) ≡ []
not_digits_at ts us vs n e f h = ap (λ (x : List Tok). names_of (numbered x)) (e ∙ ap (λ (x : List Tok). Word n ∷ x) f) ∙ not_digits n vs h

-- what the three tokens of a terminal are
three : (ts us vs ws : List Tok) (n d : List ℕ) → ts ≡ Word n ∷ us → us ≡ Mark Equals ∷ vs → vs ≡ Number d ∷ ws → ts ≡ Word n ∷ (Mark Equals ∷ (Number d ∷ ws))
three ts us vs ws n d e f g = e ∙ ap (λ (x : List Tok). Word n ∷ x) (f ∙ ap (λ (x : List Tok). Mark Equals ∷ x) g)

pub named : (ts : List Token) (us vs ws : List Tok) (n d : List ℕ) → views ts ≡ Word n ∷ us → us ≡ Mark Equals ∷ vs → vs ≡ Number d ∷ ws → names_of (numbered (views ts)) ≡ n ∷ names_of (numbered (views (drop 3 ts)))
named ts us vs ws n d e f g =
    let h : views ts ≡ Word n ∷ (Mark Equals ∷ (Number d ∷ ws)) = three (views ts) us vs ws n d e f g in
    let k : views (drop 3 ts) ≡ ws = sym (drop-map view 3 ts) ∙ ap (drop 3) h in
    ap (λ (x : List Tok). names_of (numbered x)) h ∙ ap (λ (x : List Tok). n ∷ names_of (numbered x)) (sym k)

pub long : (ts : List Token) (us vs ws : List Tok) (n d : List ℕ) → views ts ≡ Word n ∷ us → us ≡ Mark Equals ∷ vs → vs ≡ Number d ∷ ws → 3 ≤ length ts
long ts us vs ws n d e f g =
    let l : length ts ≡ length (Word n ∷ (Mark Equals ∷ (Number d ∷ ws))) = sym (length-map ts view) ∙ ap (λ (x : List Tok). length x) (three (views ts) us vs ws n d e f g) in
    omega (arith, l)

not_term : (k : List ℕ) (ts : List Tok) (b : Bool) → bytes_eq k (codes "term") ≡ b → ((Some (Keyword k)) ≢ Some (Keyword (codes "term"))) → cond b (numbered ts) [] ≡ []
not_term k ts true e h = absurd (h (ap (λ (x : List ℕ). Some (Keyword x)) ((bytes_eq-Decides k (codes "term")).0 e)))
not_term k ts false e h = refl

-- no line without the keyword first declares
pub no_term : (ts : List Tok) → (next ts ≢ Some (Keyword (codes "term"))) → behind_term ts ≡ []
no_term [] h = refl
no_term (Word n ∷ ts) h = refl
no_term (Number d ∷ ts) h = refl
no_term (Negative d ∷ ts) h = refl
no_term (Template b ∷ ts) h = refl
no_term (Keyword k ∷ ts) h = not_term k ts (bytes_eq k (codes "term")) refl h
no_term (Mark s ∷ ts) h = refl
no_term (Bound b ∷ ts) h = refl
no_term (Wrong ∷ ts) h = refl

pub line_declares_none : (section : Section) (ts : List Tok) → (next ts ≢ Some (Keyword (codes "term"))) → declared_by section ts ≡ []
line_declares_none Head ts h = no_term ts h
line_declares_none Declarations ts h = no_term ts h
line_declares_none Prologue ts h = refl
line_declares_none Rules ts h = refl
line_declares_none Tail ts h = refl

-- ---- a value among several

pub among_none : {A : Type 0} (x : A) → Among x [] → ⊥
among_none x (i, h) = none-some x h

pub among_next : {A : Type 0} (x y : A) (xs : List A) → (x ≢ y) → Among x (y ∷ xs) → Among x xs
among_next x y xs h (zero, e) = absurd (h (sym (same_Some y x e)))
among_next x y xs h (suc i, e) = (i, e)

pub among_behind : {A : Type 0} (x y : A) (xs : List A) → Among x xs → Among x (y ∷ xs)
among_behind x y xs (i, e) = (suc i, e)

pub among_left : {A : Type 0} (x : A) (xs ys : List A) → Among x xs → Among x (xs ++ ys)
among_left x [] ys h = absurd (among_none x h)
among_left x (a ∷ xs) ys (zero, h) = (0, h)
among_left x (a ∷ xs) ys (suc i, h) = among_behind x a (xs ++ ys) (among_left x xs ys (i, h))

pub among_right : {A : Type 0} (x : A) (xs ys : List A) → Among x ys → Among x (xs ++ ys)
among_right x [] ys h = h
among_right x (a ∷ xs) ys h = among_behind x a (xs ++ ys) (among_right x xs ys h)

pub among_either : {A : Type 0} (x : A) (xs ys : List A) → Among x (xs ++ ys) → Among x xs ⊎ Among x ys
among_either x [] ys h = inr h
among_either x (a ∷ xs) ys (zero, h) = inl (0, h)
among_either x (a ∷ xs) ys (suc i, h) = elim (among_either x xs ys (i, h)) [
  | inl l ↦ inl (among_behind x a xs l)
  | inr r ↦ inr r
]

-- ---- lines

no_lines : (section : Section) (all : List TokenLine) → AreLinesFrom section [] all → all ≡ []
no_lines Head all h = h
no_lines Prologue all h = h
no_lines Declarations all h = h
no_lines Rules all h = h
no_lines Tail all h = h

no_tail : (lines : List (List ℕ)) (all : List TokenLine) → AreLinesFrom Tail lines all → all ≡ []
no_tail [] all h = h
no_tail (b ∷ bs) all h = h

-- behind the declarations no line declares
pub rules_declare_nothing : (lines : List (List ℕ)) (all : List TokenLine) → AreLinesFrom Rules lines all → declared_in all ≡ []
rules_declare_nothing [] all h = ap declared_in h
rules_declare_nothing (bytes ∷ lines) all (tokens, others, spells, e, rest) =
    ap declared_in e ∙ settled lines others (rules_declare_nothing lines others) (first_border tokens) rest where
      settled : (lines : List (List ℕ)) (others : List TokenLine) → (AreLinesFrom Rules lines others → declared_in others ≡ []) → (border : Option Border) → AreLinesFrom (behind_divider Rules Tail border) lines others → declared_in others ≡ []
      settled lines others k None h = k h
      settled lines others k (Some Divider) h = ap declared_in (no_tail lines others h)
      settled lines others k (Some PrologueStart) h = k h
      settled lines others k (Some PrologueEnd) h = k h

pub tail_declares_nothing : (lines : List (List ℕ)) (all : List TokenLine) → AreLinesFrom Tail lines all → declared_in all ≡ []
tail_declares_nothing lines all h = ap declared_in (no_tail lines all h)

abbrev pub OneText : Type 0
OneText = (section : Section) (lines : List (List ℕ)) (a b : List TokenLine) → AreLinesFrom section lines a → AreLinesFrom section lines b → a ≡ b

-- the line and those behind it
abbrev pub Opened : Section → List ℕ → List (List ℕ) → List TokenLine → Type 0
Opened section line ls all = (tokens : List Tok) × (others : List TokenLine) × SpellsIn section tokens line × (all ≡ record { section = section; tokens = tokens } ∷ others) × AreLinesFrom (section_behind section tokens) ls others

opened : (section : Section) (line : List ℕ) (ls : List (List ℕ)) (all : List TokenLine) → (section ≢ Tail) → AreLinesFrom section (line ∷ ls) all → Opened section line ls all
opened Head line ls all n h = h
opened Prologue line ls all n h = h
opened Declarations line ls all n h = h
opened Rules line ls all n h = h
opened Tail line ls all n h = absurd (n refl)

closed : (section : Section) (line : List ℕ) (ls : List (List ℕ)) (all : List TokenLine) → (section ≢ Tail) → Opened section line ls all → AreLinesFrom section (line ∷ ls) all
closed Head line ls all n h = h
closed Prologue line ls all n h = h
closed Declarations line ls all n h = h
closed Rules line ls all n h = h
closed Tail line ls all n h = absurd (n refl)

none_left : (section : Section) → AreLinesFrom section [] []
none_left Head = refl
none_left Prologue = refl
none_left Declarations = refl
none_left Rules = refl
none_left Tail = refl

tokens_first : List TokenLine → List Tok
tokens_first [] = []
tokens_first (l ∷ ls) = l.tokens

-- a line is spelled by one list of tokens
same_tokens : OneText → (section : Section) (line : List ℕ) (a b : List Tok) → (section ≢ Tail) → SpellsIn section a line → SpellsIn section b line → a ≡ b
unfolding tokens_first
same_tokens one section line a b n h k =
    let x : TokenLine = record { section = section; tokens = a } in
    let y : TokenLine = record { section = section; tokens = b } in
    ap tokens_first (one section (line ∷ []) (x ∷ []) (y ∷ []) (closed section line [] (x ∷ []) n (a, [], h, refl, none_left (section_behind section a))) (closed section line [] (y ∷ []) n (b, [], k, refl, none_left (section_behind section b))))

-- the lines behind one with these tokens
behind_line : OneText → (section : Section) (line : List ℕ) (ls : List (List ℕ)) (all : List TokenLine) (tokens : List Tok) → (section ≢ Tail) → SpellsIn section tokens line → AreLinesFrom section (line ∷ ls) all → (others : List TokenLine) × (all ≡ record { section = section; tokens = tokens } ∷ others) × AreLinesFrom (section_behind section tokens) ls others
behind_line one section line ls all tokens n h k =
    let o = opened section line ls all n k in
    let e : o.0 ≡ tokens = same_tokens one section line o.0 tokens n o.2 h in
    let P : List Tok → Type 0 = λ ts. (all ≡ record { section = section; tokens = ts } ∷ o.1) × AreLinesFrom (section_behind section ts) ls o.1 in
    let r = subst P e (o.3, o.4) in
    (o.1, r.0, r.1)

-- the lines that are left declare the name where all of them do
pub record LeftOf (name : List ℕ) (section : Section) (rest : List ℕ) (lines : List TokenLine) : Type 0 where
  pub others : List TokenLine
  pub are : AreLinesFrom section (lines_of rest) others
  pub yes : Among name (names_of (declared_in others)) → Among name (names_of (declared_in lines))
  pub no : Among name (names_of (declared_in lines)) → Among name (names_of (declared_in others))

abbrev pub IsLeft : List ℕ → List ℕ → Section → List ℕ → Type 0
IsLeft name text section rest = (lines : List TokenLine) → AreLinesFrom Head (lines_of text) lines → LeftOf name section rest lines

pub all_left : (name text : List ℕ) → IsLeft name text Head text
all_left name text lines h = record { others = lines; are = h; yes = λ a. a; no = λ a. a }

names_behind : (name : List ℕ) (section : Section) (tokens : List Tok) (all others : List TokenLine) → all ≡ record { section = section; tokens = tokens } ∷ others → names_of (declared_in all) ≡ names_of (declared_by section tokens) ++ names_of (declared_in others)
names_behind name section tokens all others e = ap (λ (ls : List TokenLine). names_of (declared_in ls)) e ∙ map-append (λ (t : MNumbered). t.0) (declared_by section tokens) (declared_in others)

pub less_left : OneText → (name text : List ℕ) (section : Section) (rest behind line : List ℕ) (tokens : List Tok) → (section ≢ Tail) → lines_of rest ≡ line ∷ lines_of behind → SpellsIn section tokens line → (Among name (names_of (declared_by section tokens)) → ⊥) → IsLeft name text section rest → IsLeft name text (section_behind section tokens) behind
less_left one name text section rest behind line tokens n e h free k lines are =
    let l = k lines are in
    let b = behind_line one section line (lines_of behind) l.others tokens n h (subst (λ (ls : List (List ℕ)). AreLinesFrom section ls l.others) e l.are) in
    let g = names_behind name section tokens l.others b.0 b.1 in
    record {
      others = b.0;
      are = b.2;
      yes = λ a. l.yes (subst (Among name) (sym g) (among_right name (names_of (declared_by section tokens)) (names_of (declared_in b.0)) a));
      no = λ a. elim (among_either name (names_of (declared_by section tokens)) (names_of (declared_in b.0)) (subst (Among name) g (l.no a))) [
        | inl x ↦ absurd (free x)
        | inr x ↦ x
      ];
    }

pub found_left : OneText → (name text : List ℕ) (section : Section) (rest behind line : List ℕ) (tokens : List Tok) → (section ≢ Tail) → lines_of rest ≡ line ∷ lines_of behind → SpellsIn section tokens line → Among name (names_of (declared_by section tokens)) → IsLeft name text section rest → (terminals : List (List ℕ)) → TextDeclares text terminals → Among name terminals
found_left one name text section rest behind line tokens n e h here k terminals (lines, are, is) =
    let l = k lines are in
    let b = behind_line one section line (lines_of behind) l.others tokens n h (subst (λ (ls : List (List ℕ)). AreLinesFrom section ls l.others) e l.are) in
    let g = names_behind name section tokens l.others b.0 b.1 in
    subst (Among name) (sym is) (l.yes (subst (Among name) (sym g) (among_left name (names_of (declared_by section tokens)) (names_of (declared_in b.0)) here)))

pub nothing_left : (name text : List ℕ) (section : Section) (rest : List ℕ) → ((lines : List (List ℕ)) (all : List TokenLine) → AreLinesFrom section lines all → declared_in all ≡ []) → IsLeft name text section rest → (terminals : List (List ℕ)) → TextDeclares text terminals → Among name terminals → ⊥
nothing_left name text section rest none k terminals (lines, are, is) a =
    let l = k lines are in
    among_none name (subst (λ (ts : List MNumbered). Among name (names_of ts)) (none (lines_of rest) l.others l.are) (l.no (subst (Among name) is a)))

pub text_ended : (name text : List ℕ) (section : Section) (rest : List ℕ) → lines_of rest ≡ [] → IsLeft name text section rest → (terminals : List (List ℕ)) → TextDeclares text terminals → Among name terminals → ⊥
text_ended name text section rest e k terminals (lines, are, is) a =
    let l = k lines are in
    let f : l.others ≡ [] = no_lines section l.others (subst (λ (ls : List (List ℕ)). AreLinesFrom section ls l.others) e l.are) in
    among_none name (subst (λ (ls : List TokenLine). Among name (names_of (declared_in ls))) f (l.no (subst (Among name) is a)))

-- ---- a scan of the terminals of one line

pub named_more : (name other : List ℕ) (here : List (List ℕ)) (behind all : List (List ℕ)) → here ≡ other ∷ behind → (other ≢ name) → (Among name here → Among name all) → (Among name all → Among name here) → (Among name behind → Among name all) × (Among name all → Among name behind)
named_more name other here behind all e n up down = (
  (λ a. up (subst (Among name) (sym e) (among_behind name other behind a))),
  (λ a. among_next name other behind (λ f. n (sym f)) (subst (Among name) e (down a))),
)

pub named_here : (name other : List ℕ) (here behind all : List (List ℕ)) → here ≡ other ∷ behind → other ≡ name → (Among name here → Among name all) → Among name all
named_here name other here behind all e f up = up (0, ap slice_first (e ∙ ap (λ (x : List ℕ). x ∷ behind) f)) where
  slice_first : List (List ℕ) → Option (List ℕ)
  slice_first xs = slice_get xs 0

pub unlike : (a b : List ℕ) → bytes_eq a b ≡ false → a ≢ b
unlike a b h e = true≢false (sym ((bytes_eq-Decides a b).1 e) ∙ h)
