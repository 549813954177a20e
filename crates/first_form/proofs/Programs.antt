-- Statements one after another, and whole programs.
use Rattle.std.proofs.Common.{◌≡◌, ◌≤◌, ℕ, List, [], ◌∷◌, ◌++◌, map, refl, sym, ap, ◌∙◌, subst, arith, codes, append_assoc}
use Rattle.std.proofs.lemmas.List.{map_push}
use Rattle.std.specs.List.{AllByRecursion}
use Rattle.first_form.specs.declared.expression.Expression.{Expression}
use Rattle.first_form.specs.Tokens.{Token, Begins, AreTokens}
use Rattle.first_form.specs.Expression.{MExpression, expression_of}
use Rattle.first_form.specs.Grammar.{tokens_then}
use Rattle.first_form.specs.Height.{height}
use Rattle.first_form.specs.FirstProgram.{MProgram}
use Rattle.first_form.specs.FirstForm.{IsExpression, IsFirst, statements_then, result_tokens}
use Rattle.first_form.specs.Readings.{BeginWith, Ends, Reads, IsThere, ReadsWithin, IsWithin, ReadsPrints, ArePrints, ReadsResult}
use Rattle.first_form.proofs.Lists.{append_nil}
use Rattle.first_form.proofs.Cut.{tokens_behind}
use Rattle.first_form.proofs.Operands.{apart, ends_close, ends_semicolon}

-- ---- tokens that are known

put_before : (us ts : List Token) (bytes rest : List ℕ) → BeginWith bytes us rest → AreTokens ts rest → AreTokens (us ++ ts) bytes
put_before [] ts bytes rest b h = let P : List ℕ → Type 0 = λ l. AreTokens ts l in subst P (sym b) h
put_before (u ∷ us) ts bytes rest b h = (b.0, b.1, put_before us ts b.0 rest b.2 h)

taken_off : (us ts : List Token) (bytes rest : List ℕ) → BeginWith bytes us rest → AreTokens (us ++ ts) bytes → AreTokens ts rest
taken_off [] ts bytes rest b h = let P : List ℕ → Type 0 = λ l. AreTokens ts l in subst P b h
taken_off (u ∷ us) ts bytes rest b h = taken_off us ts b.0 rest b.2 (tokens_behind bytes u u b.0 (us ++ ts) b.1 h).1

-- bytes with tokens begin with the first of them
front : (us ts : List Token) (bytes : List ℕ) → AreTokens (us ++ ts) bytes → (rest : List ℕ) × BeginWith bytes us rest
front [] ts bytes h = (bytes, refl)
front (u ∷ us) ts bytes h = let r = front us ts h.0 h.2 in (r.0, (h.0, h.1, r.1))

-- ---- an expression between tokens

within_one : (before : Token) (after : List Token) (bytes behind mid rest : List ℕ) (e : MExpression) → Begins bytes before behind → Reads 0 behind e mid → BeginWith mid after rest → (f : MExpression) (ts : List Token) → IsExpression f → Ends 0 (after ++ ts) → AreTokens (before ∷ tokens_then f (after ++ ts)) bytes → (f ≡ e) × AreTokens ts rest
within_one before after bytes behind mid rest e b r w f ts p n h =
    let k = r.one f (after ++ ts) p.0 n (tokens_behind bytes before before behind (tokens_then f (after ++ ts)) b h).1 in
    (k.0, taken_off after ts mid rest w k.1)

pub within_reads : (before : Token) (after : List Token) (bytes behind mid rest : List ℕ) (e : MExpression) → Begins bytes before behind → Reads 0 behind e mid → height e ≤ 200 → BeginWith mid after rest → ReadsWithin before after bytes e rest
within_reads before after bytes behind mid rest e b r l w = record {
  within = (r.within, l);
  read = λ ts h. (behind, b, r.read (after ++ ts) (put_before after ts mid rest w h));
  one = within_one before after bytes behind mid rest e b r w;
}

pub not_before : (before : Token) (after : List Token) (bytes : List ℕ) → ((behind : List ℕ) → Begins bytes before behind → ⊥) → IsWithin before after bytes → ⊥
not_before before after bytes n w = let h = w.tokens in n h.0 h.1

pub within_there : (before : Token) (after : List Token) (bytes behind : List ℕ) → Begins bytes before behind → IsWithin before after bytes → IsThere 0 200 behind
within_there before after bytes behind b w = record {
  found = w.found;
  behind = after ++ w.behind;
  within = w.within.0;
  low = w.within.1;
  ends = w.ends;
  tokens = (tokens_behind bytes before before behind (tokens_then w.found (after ++ w.behind)) b w.tokens).1;
}

pub not_after : (before : Token) (after : List Token) (bytes behind mid : List ℕ) (e : MExpression) → Begins bytes before behind → Reads 0 behind e mid → ((rest : List ℕ) → BeginWith mid after rest → ⊥) → IsWithin before after bytes → ⊥
not_after before after bytes behind mid e b r n w =
    let k = r.one w.found (after ++ w.behind) w.within.0 w.ends (tokens_behind bytes before before behind (tokens_then w.found (after ++ w.behind)) b w.tokens).1 in
    let f = front after w.behind mid k.1 in
    n f.0 f.1

-- ---- statements that print

abbrev close : List Token
close = codes ")" ∷ (codes ";" ∷ [])

all_more : (es : List MExpression) (e : MExpression) → AllByRecursion IsExpression es → IsExpression e → AllByRecursion IsExpression (es ++ e ∷ [])
all_more [] e h p = (p, tt)
all_more (d ∷ es) e h p = (h.0, all_more es e h.1 p)

statements_more : (es : List MExpression) (e : MExpression) (ts : List Token) → statements_then (es ++ e ∷ []) ts ≡ statements_then es (statements_then (e ∷ []) ts)
statements_more [] e ts = refl
statements_more (d ∷ es) e ts = ap (λ (l : List Token). codes "putchar" ∷ (codes "(" ∷ tokens_then d (codes ")" ∷ (codes ";" ∷ l)))) (statements_more es e ts)

-- what is printed is es and then others, which stand at rest before what is returned
pub record Continued (es fs : List MExpression) (ts : List Token) (rest : List ℕ) : Type 0 where
  others : List MExpression
  is : fs ≡ es ++ others
  within : AllByRecursion IsExpression others
  tokens : AreTokens (statements_then others (codes "return" ∷ ts)) rest

pub record Printed (bytes : List ℕ) (es : List MExpression) (rest : List ℕ) : Type 0 where
  within : AllByRecursion IsExpression es
  read : (ts : List Token) → AreTokens ts rest → AreTokens (statements_then es ts) bytes
  goes_on : (fs : List MExpression) (ts : List Token) → AllByRecursion IsExpression fs → AreTokens (statements_then fs (codes "return" ∷ ts)) bytes → Continued es fs ts rest

pub prints_start : (bytes : List ℕ) → Printed bytes [] bytes
prints_start bytes = record {
  within = tt;
  read = λ ts h. h;
  goes_on = λ fs ts p h. record { others = fs; is = refl; within = p; tokens = h };
}

pub return_putchar : (C : Type 0) → codes "return" ≡ codes "putchar" → C
return_putchar C e = apart 114 112 _ _ C (λ f. omega arith) e

abbrev OneMore : List MExpression → List MExpression → List Token → List ℕ → Type 0
OneMore es fs ts behind =
    (f : MExpression) × (others : List MExpression) × IsExpression f × AllByRecursion IsExpression others × (fs ≡ es ++ f ∷ others)
    × AreTokens (codes "(" ∷ tokens_then f (close ++ statements_then others (codes "return" ∷ ts))) behind

-- where a statement that prints is next, there is another expression
one_more : (es fs : List MExpression) (ts : List Token) (rest behind : List ℕ) (others : List MExpression) → Begins rest (codes "putchar") behind → fs ≡ es ++ others → AllByRecursion IsExpression others → AreTokens (statements_then others (codes "return" ∷ ts)) rest → OneMore es fs ts behind
one_more es fs ts rest behind [] b e p h = return_putchar _ (tokens_behind rest (codes "return") (codes "putchar") behind ts b h).0
one_more es fs ts rest behind (f ∷ others) b e p h = (f, others, p.0, p.1, e, (tokens_behind rest (codes "putchar") (codes "putchar") behind (codes "(" ∷ tokens_then f (close ++ statements_then others (codes "return" ∷ ts))) b h).1)

next_print : (bytes rest behind : List ℕ) (es : List MExpression) → Printed bytes es rest → Begins rest (codes "putchar") behind → (fs : List MExpression) (ts : List Token) → AllByRecursion IsExpression fs → AreTokens (statements_then fs (codes "return" ∷ ts)) bytes → OneMore es fs ts behind
next_print bytes rest behind es k b fs ts p h = let x = k.goes_on fs ts p h in one_more es fs ts rest behind x.others b x.is x.within x.tokens

print_on : (es fs : List MExpression) (e : MExpression) (ts : List Token) (behind after : List ℕ) → ReadsWithin (codes "(") close behind e after → OneMore es fs ts behind → Continued (es ++ e ∷ []) fs ts after
print_on es fs e ts behind after r x =
    let k = r.one x.0 (statements_then x.1 (codes "return" ∷ ts)) x.2 (ends_close _) x.5 in
    record {
      others = x.1;
      is = x.4 ∙ ap (λ (f : MExpression). es ++ f ∷ x.1) k.0 ∙ sym (append_assoc es (e ∷ []) x.1);
      within = x.3;
      tokens = k.1;
    }

prints_more : (bytes rest behind after : List ℕ) (es : List MExpression) (e : MExpression) → Printed bytes es rest → Begins rest (codes "putchar") behind → ReadsWithin (codes "(") close behind e after → Printed bytes (es ++ e ∷ []) after
prints_more bytes rest behind after es e k b r = record {
  within = all_more es e k.within r.within;
  read = λ ts h. (let P : List Token → Type 0 = λ l. AreTokens l bytes in subst P (sym (statements_more es e ts)) (k.read (statements_then (e ∷ []) ts) (behind, b, r.read ts h)));
  goes_on = λ fs ts p h. print_on es fs e ts behind after r (next_print bytes rest behind es k b fs ts p h);
}

pub prints_pushed : (bytes rest behind after : List ℕ) (es fs : List Expression) (e : Expression) → Printed bytes (map expression_of es) rest → Begins rest (codes "putchar") behind → ReadsWithin (codes "(") close behind (expression_of e) after → fs ≡ es ++ e ∷ [] → Printed bytes (map expression_of fs) after
prints_pushed bytes rest behind after es fs e k b r i =
    let P : List MExpression → Type 0 = λ l. Printed bytes l after in
    subst P (sym (ap (map expression_of) i ∙ map_push expression_of es e)) (prints_more bytes rest behind after (map expression_of es) (expression_of e) k b r)

end_on : (es fs : List MExpression) (ts : List Token) (rest : List ℕ) (others : List MExpression) → ((behind : List ℕ) → Begins rest (codes "putchar") behind → ⊥) → fs ≡ es ++ others → AreTokens (statements_then others (codes "return" ∷ ts)) rest → (fs ≡ es) × AreTokens (codes "return" ∷ ts) rest
end_on es fs ts rest [] n e h = (e ∙ append_nil es, h)
end_on es fs ts rest (f ∷ others) n e h = absurd (n h.0 h.1)

pub prints_end : (bytes rest : List ℕ) (es : List MExpression) → Printed bytes es rest → ((behind : List ℕ) → Begins rest (codes "putchar") behind → ⊥) → ReadsPrints bytes es rest
prints_end bytes rest es k n = record {
  within = k.within;
  read = k.read;
  one = λ fs ts p h. (let x = k.goes_on fs ts p h in end_on es fs ts rest x.others n x.is x.tokens);
}

-- an expression stands between the parentheses of a statement that prints
pub print_there : (bytes rest behind : List ℕ) (es : List MExpression) → Printed bytes es rest → Begins rest (codes "putchar") behind → ArePrints bytes → IsWithin (codes "(") close behind
print_there bytes rest behind es k b t =
    let x = next_print bytes rest behind es k b t.found t.behind t.within t.tokens in
    record { found = x.0; behind = statements_then x.1 (codes "return" ∷ t.behind); within = x.2; ends = ends_close _; tokens = x.5 }

-- ---- what is returned

abbrev end : List Token
end = codes ";" ∷ (codes "}" ∷ [])

pub result_reads : (bytes rest : List ℕ) (e : MExpression) → ReadsWithin (codes "return") end bytes e rest → AreTokens [] rest → ReadsResult bytes e
result_reads bytes rest e r h = record {
  within = r.within;
  read = r.read [] h;
  one = λ f p k. (r.one f [] p (ends_semicolon _) k).0;
}

pub result_there : (bytes : List ℕ) (e : MExpression) → IsExpression e → AreTokens (result_tokens e) bytes → IsWithin (codes "return") end bytes
result_there bytes e p h = record { found = e; behind = []; within = p; ends = ends_semicolon _; tokens = h }

pub no_result : (bytes rest : List ℕ) (e f : MExpression) → ReadsWithin (codes "return") end bytes e rest → (AreTokens [] rest → ⊥) → IsExpression f → AreTokens (result_tokens f) bytes → ⊥
no_result bytes rest e f r n p h = n (r.one f [] p (ends_semicolon _) h).1

-- ---- programs

abbrev head : List Token
head = codes "int" ∷ codes "main" ∷ codes "(" ∷ codes "void" ∷ codes ")" ∷ codes "{" ∷ []

pub first_made : (text rest behind : List ℕ) (es : List MExpression) (e : MExpression) → BeginWith text head rest → ReadsPrints rest es behind → ReadsResult behind e → IsFirst text record { prints = es; result = e }
first_made text rest behind es e b k r = record {
  spelled = put_before head (statements_then es (result_tokens e)) text rest b (k.read (result_tokens e) r.read);
  prints = k.within;
  result = r.within;
}

pub no_head : (text : List ℕ) (p : MProgram) → ((rest : List ℕ) → BeginWith text head rest → ⊥) → IsFirst text p → ⊥
no_head text p n f = let b = front head (statements_then p.prints (result_tokens p.result)) text f.spelled in n b.0 b.1

pub body_there : (text rest : List ℕ) (p : MProgram) → BeginWith text head rest → IsFirst text p → ArePrints rest
body_there text rest p b f = record {
  found = p.prints;
  behind = tokens_then p.result end;
  within = f.prints;
  tokens = taken_off head (statements_then p.prints (result_tokens p.result)) text rest b f.spelled;
}

-- what is printed and returned is what was read
pub parts : (text rest behind : List ℕ) (es : List MExpression) (p : MProgram) → BeginWith text head rest → ReadsPrints rest es behind → IsFirst text p → (p.prints ≡ es) × AreTokens (result_tokens p.result) behind
parts text rest behind es p b k f = k.one p.prints (tokens_then p.result end) f.prints (taken_off head (statements_then p.prints (result_tokens p.result)) text rest b f.spelled)

pub same_program : (text rest behind : List ℕ) (es : List MExpression) (e : MExpression) (p : MProgram) → BeginWith text head rest → ReadsPrints rest es behind → ReadsResult behind e → IsFirst text p → record { prints = es; result = e } ≡ p
same_program text rest behind es e p b k r f =
    let x = parts text rest behind es p b k f in
    let y = r.one p.result f.result x.1 in
    sym (ap (λ (ds : List MExpression). record { prints = ds; result = p.result }) x.0 ∙ ap (λ (d : MExpression). record { prints = es; result = d }) y)
