-- Trees as tokens: no tree begins another, and where the reading of one stops.
use Rattle.std.proofs.Common.{◌≡◌, ℕ, List, [], ◌∷◌, ◌++◌, length, Some, refl, sym, ap, ◌∙◌, append_assoc}
use Rattle.std.specs.Prelude.{◌≢◌}
use Rattle.lburg_lines.specs.declared.token.Sign.TheVariants.{Open, Close, Comma}
use Rattle.lburg_lines.specs.declared.read_error.ReadError.{ReadError}
use Rattle.lburg_lines.specs.declared.read_error.ReadError.TheVariants.{Memory, Stuck}
use Rattle.lburg_lines.specs.Tokens.{Tok, Word, Template, Mark}
use Rattle.lburg_lines.specs.NamedTree.{MNamed, Alone, Over, Both, tree_then}
use Rattle.lcc_text.specs.Stops.{next}
use Rattle.lburg_lines.specs.Readings.{Ends, TreeStops, TreeFault}

pub then_append : (t : MNamed) (x y : List Tok) → tree_then t x ++ y ≡ tree_then t (x ++ y)
then_append (Alone n) x y = refl
then_append (Over n a) x y = ap (λ (l : List Tok). Word n ∷ (Mark Open ∷ l)) (then_append a (Mark Close ∷ x) y)
then_append (Both n a b) x y =
    ap (λ (l : List Tok). Word n ∷ (Mark Open ∷ l)) (then_append a (Mark Comma ∷ tree_then b (Mark Close ∷ x)) y ∙ ap (λ (l : List Tok). tree_then a (Mark Comma ∷ l)) (then_append b (Mark Close ∷ x) y))

-- only what is next decides whether a tree ends
pub ends_next : (t : MNamed) (x y : List Tok) → next x ≡ next y → Ends t y → Ends t x
ends_next (Alone n) x y e h = λ f. h (sym e ∙ f)
ends_next (Over n a) x y e h = tt
ends_next (Both n a b) x y e h = tt

pub ends_close : (t : MNamed) (x : List Tok) → Ends t (Mark Close ∷ x)
ends_close (Alone n) x = λ e. cc
ends_close (Over n a) x = tt
ends_close (Both n a b) x = tt

pub ends_comma : (t : MNamed) (x : List Tok) → Ends t (Mark Comma ∷ x)
ends_comma (Alone n) x = λ e. cc
ends_comma (Over n a) x = tt
ends_comma (Both n a b) x = tt

pub ends_template : (t : MNamed) (b : List ℕ) (x : List Tok) → Ends t (Template b ∷ x)
ends_template (Alone n) b x = λ e. cc
ends_template (Over n a) b x = tt
ends_template (Both n a b) c x = tt

-- behind a whole name no operands stand
not_open : (n m : List ℕ) (x z : List Tok) → next x ≢ Some (Mark Open) → Word n ∷ x ≡ Word m ∷ (Mark Open ∷ z) → ⊥
not_open n m x z h e = let f : x ≡ Mark Open ∷ z = cc in h (ap next f)

-- no tree begins another
pub same_tree : (a b : MNamed) (x y : List Tok) → Ends a x → Ends b y → tree_then a x ≡ tree_then b y → (a ≡ b) × (x ≡ y)
same_tree (Alone n) (Alone m) x y p q e = let f : n ≡ m = cc in let g : x ≡ y = cc in (ap Alone f, g)
same_tree (Alone n) (Over m b) x y p q e = absurd (not_open n m x _ p e)
same_tree (Alone n) (Both m b c) x y p q e = absurd (not_open n m x _ p e)
same_tree (Over n a) (Alone m) x y p q e = absurd (not_open m n y _ q (sym e))
same_tree (Both n a b) (Alone m) x y p q e = absurd (not_open m n y _ q (sym e))
same_tree (Over n a) (Over m b) x y p q e =
    let f : tree_then a (Mark Close ∷ x) ≡ tree_then b (Mark Close ∷ y) = cc in
    let s = same_tree a b (Mark Close ∷ x) (Mark Close ∷ y) (ends_close a x) (ends_close b y) f in
    let g : n ≡ m = cc in
    let h = s.0 in
    let k = s.1 in
    (cc, cc)
same_tree (Over n a) (Both m b c) x y p q e =
    let f : tree_then a (Mark Close ∷ x) ≡ tree_then b (Mark Comma ∷ tree_then c (Mark Close ∷ y)) = cc in
    let s = same_tree a b (Mark Close ∷ x) (Mark Comma ∷ tree_then c (Mark Close ∷ y)) (ends_close a x) (ends_comma b _) f in
    let k = s.1 in
    cc
same_tree (Both n a b) (Over m c) x y p q e =
    let f : tree_then a (Mark Comma ∷ tree_then b (Mark Close ∷ x)) ≡ tree_then c (Mark Close ∷ y) = cc in
    let s = same_tree a c (Mark Comma ∷ tree_then b (Mark Close ∷ x)) (Mark Close ∷ y) (ends_comma a _) (ends_close c y) f in
    let k = s.1 in
    cc
same_tree (Both n a b) (Both m c d) x y p q e =
    let f : tree_then a (Mark Comma ∷ tree_then b (Mark Close ∷ x)) ≡ tree_then c (Mark Comma ∷ tree_then d (Mark Close ∷ y)) = cc in
    let s = same_tree a c _ _ (ends_comma a _) (ends_comma c _) f in
    let k = s.1 in
    let g : tree_then b (Mark Close ∷ x) ≡ tree_then d (Mark Close ∷ y) = cc in
    let u = same_tree b d _ _ (ends_close b x) (ends_close d y) g in
    let h = s.0 in
    let h' = u.0 in
    let k' = u.1 in
    let i : n ≡ m = cc in
    (cc, cc)

-- ---- where the reading of a tree stops

starts : (line : List Tok) (t : MNamed) (after more : List Tok) → ((n : List ℕ) → next line ≢ Some (Word n)) → more ≡ tree_then t after → next more ≡ next line → ⊥
starts line (Alone n) after more h e f = h n (sym f ∙ ap next e)
starts line (Over n a) after more h e f = h n (sym f ∙ ap next e)
starts line (Both n a b) after more h e f = h n (sym f ∙ ap next e)

pub stops_at_start : (line : List Tok) → ((n : List ℕ) → next line ≢ Some (Word n)) → TreeStops line line
stops_at_start line h = record {
  front = [];
  parts = refl;
  begun = (Alone (97 ∷ []), Word (97 ∷ []) ∷ [], refl);
  stuck = λ t after more p e f. starts line t after more h e f;
}

pub more_then : (front more rest : List Tok) (t : MNamed) → front ++ more ≡ tree_then t [] → front ++ (more ++ rest) ≡ tree_then t rest
more_then front more rest t e = sym (append_assoc front more rest) ∙ ap (λ (l : List Tok). l ++ rest) e ∙ then_append t [] rest

more_close : (front more : List Tok) (t : MNamed) → front ++ more ≡ tree_then t [] → front ++ (more ++ Mark Close ∷ []) ≡ tree_then t (Mark Close ∷ [])
more_close front more t e = sym (append_assoc front more (Mark Close ∷ [])) ∙ ap (λ (l : List Tok). l ++ Mark Close ∷ []) e ∙ then_append t [] (Mark Close ∷ [])

-- the first operand stops
first_stuck : (n : List ℕ) (line rest : List Tok) (s : TreeStops line rest) (t : MNamed) (after more : List Tok) → Ends t after → Word n ∷ (Mark Open ∷ (s.front ++ more)) ≡ tree_then t after → next more ≡ next rest → ⊥
first_stuck n line rest s (Alone m) after more p e f = not_open m n after _ p (sym e)
first_stuck n line rest s (Over m a) after more p e f = s.stuck a (Mark Close ∷ after) more (ends_close a after) (cc) f
first_stuck n line rest s (Both m a b) after more p e f = s.stuck a (Mark Comma ∷ tree_then b (Mark Close ∷ after)) more (ends_comma a _) (cc) f

pub stops_in_first : (n : List ℕ) (line rest : List Tok) → TreeStops line rest → TreeStops (Word n ∷ (Mark Open ∷ line)) rest
stops_in_first n line rest s = record {
  front = Word n ∷ (Mark Open ∷ s.front);
  parts = ap (λ (l : List Tok). Word n ∷ (Mark Open ∷ l)) s.parts;
  begun = (Over n s.begun.0, s.begun.1 ++ Mark Close ∷ [], ap (λ (l : List Tok). Word n ∷ (Mark Open ∷ l)) (more_close s.front s.begun.1 s.begun.0 s.begun.2));
  stuck = first_stuck n line rest s;
}

-- behind the first operand nothing fits
behind_stuck : (n : List ℕ) (a : MNamed) (rest : List Tok) → Ends a rest → next rest ≢ Some (Mark Close) → next rest ≢ Some (Mark Comma) → (t : MNamed) (after more : List Tok) → Ends t after → Word n ∷ (Mark Open ∷ tree_then a more) ≡ tree_then t after → next more ≡ next rest → ⊥
behind_stuck n a rest p h k (Alone m) after more q e f = not_open m n after _ q (sym e)
behind_stuck n a rest p h k (Over m b) after more q e f =
    let u = same_tree a b more (Mark Close ∷ after) (ends_next a more rest f p) (ends_close b after) cc in
    h (sym f ∙ ap next u.1)
behind_stuck n a rest p h k (Both m b c) after more q e f =
    let u = same_tree a b more (Mark Comma ∷ tree_then c (Mark Close ∷ after)) (ends_next a more rest f p) (ends_comma b _) cc in
    k (sym f ∙ ap next u.1)

pub stops_behind_first : (n : List ℕ) (a : MNamed) (rest : List Tok) → Ends a rest → next rest ≢ Some (Mark Close) → next rest ≢ Some (Mark Comma) → TreeStops (Word n ∷ (Mark Open ∷ tree_then a rest)) rest
stops_behind_first n a rest p h k = record {
  front = Word n ∷ (Mark Open ∷ tree_then a []);
  parts = ap (λ (l : List Tok). Word n ∷ (Mark Open ∷ l)) (sym (then_append a [] rest));
  begun = (Over n a, Mark Close ∷ [], ap (λ (l : List Tok). Word n ∷ (Mark Open ∷ l)) (then_append a [] (Mark Close ∷ [])));
  stuck = λ t after more q e f. behind_stuck n a rest p h k t after more q (ap (λ (l : List Tok). Word n ∷ (Mark Open ∷ l)) (sym (then_append a [] more)) ∙ e) f;
}

-- the second operand stops
second_stuck : (n : List ℕ) (a : MNamed) (line rest : List Tok) (s : TreeStops line rest) (t : MNamed) (after more : List Tok) → Ends t after → Word n ∷ (Mark Open ∷ tree_then a (Mark Comma ∷ (s.front ++ more))) ≡ tree_then t after → next more ≡ next rest → ⊥
second_stuck n a line rest s (Alone m) after more p e f = not_open m n after _ p (sym e)
second_stuck n a line rest s (Over m b) after more p e f =
    let u = same_tree a b (Mark Comma ∷ (s.front ++ more)) (Mark Close ∷ after) (ends_comma a _) (ends_close b after) cc in
    let k = u.1 in
    cc
second_stuck n a line rest s (Both m b c) after more p e f =
    let u = same_tree a b (Mark Comma ∷ (s.front ++ more)) (Mark Comma ∷ tree_then c (Mark Close ∷ after)) (ends_comma a _) (ends_comma b _) cc in
    let k = u.1 in
    s.stuck c (Mark Close ∷ after) more (ends_close c after) (cc) f

pub stops_in_second : (n : List ℕ) (a : MNamed) (line rest : List Tok) → TreeStops line rest → TreeStops (Word n ∷ (Mark Open ∷ tree_then a (Mark Comma ∷ line))) rest
stops_in_second n a line rest s = record {
  front = Word n ∷ (Mark Open ∷ tree_then a (Mark Comma ∷ s.front));
  parts = ap (λ (l : List Tok). Word n ∷ (Mark Open ∷ l)) (ap (λ (l : List Tok). tree_then a (Mark Comma ∷ l)) s.parts ∙ sym (then_append a (Mark Comma ∷ s.front) rest));
  begun = (Both n a s.begun.0, s.begun.1 ++ Mark Close ∷ [], ap (λ (l : List Tok). Word n ∷ (Mark Open ∷ l)) (then_append a (Mark Comma ∷ s.front) _ ∙ ap (λ (l : List Tok). tree_then a (Mark Comma ∷ l)) (more_close s.front s.begun.1 s.begun.0 s.begun.2)));
  stuck = λ t after more q e f. second_stuck n a line rest s t after more q (ap (λ (l : List Tok). Word n ∷ (Mark Open ∷ l)) (sym (then_append a (Mark Comma ∷ s.front) more)) ∙ e) f;
}

both_then : (a b : MNamed) (x : List Tok) → tree_then a (Mark Comma ∷ tree_then b []) ++ x ≡ tree_then a (Mark Comma ∷ tree_then b x)
both_then a b x = then_append a (Mark Comma ∷ tree_then b []) x ∙ ap (λ (l : List Tok). tree_then a (Mark Comma ∷ l)) (then_append b [] x)

-- behind the second operand nothing fits
end_stuck : (n : List ℕ) (a b : MNamed) (rest : List Tok) → Ends b rest → next rest ≢ Some (Mark Close) → (t : MNamed) (after more : List Tok) → Ends t after → Word n ∷ (Mark Open ∷ tree_then a (Mark Comma ∷ tree_then b more)) ≡ tree_then t after → next more ≡ next rest → ⊥
end_stuck n a b rest p h (Alone m) after more q e f = not_open m n after _ q (sym e)
end_stuck n a b rest p h (Over m c) after more q e f =
    let u = same_tree a c (Mark Comma ∷ tree_then b more) (Mark Close ∷ after) (ends_comma a _) (ends_close c after) cc in
    let k = u.1 in
    cc
end_stuck n a b rest p h (Both m c d) after more q e f =
    let u = same_tree a c (Mark Comma ∷ tree_then b more) (Mark Comma ∷ tree_then d (Mark Close ∷ after)) (ends_comma a _) (ends_comma c _) cc in
    let k = u.1 in
    let v = same_tree b d more (Mark Close ∷ after) (ends_next b more rest f p) (ends_close d after) cc in
    h (sym f ∙ ap next v.1)

pub stops_behind_second : (n : List ℕ) (a b : MNamed) (rest : List Tok) → Ends b rest → next rest ≢ Some (Mark Close) → TreeStops (Word n ∷ (Mark Open ∷ tree_then a (Mark Comma ∷ tree_then b rest))) rest
stops_behind_second n a b rest p h = record {
  front = Word n ∷ (Mark Open ∷ tree_then a (Mark Comma ∷ tree_then b []));
  parts = ap (λ (l : List Tok). Word n ∷ (Mark Open ∷ l)) (sym (both_then a b rest));
  begun = (Both n a b, Mark Close ∷ [], ap (λ (l : List Tok). Word n ∷ (Mark Open ∷ l)) (both_then a b (Mark Close ∷ [])));
  stuck = λ t after more q e f. end_stuck n a b rest p h t after more q (ap (λ (l : List Tok). Word n ∷ (Mark Open ∷ l)) (sym (both_then a b more)) ∙ e) f;
}

-- ---- the same, as faults

pub first_fault : (n : List ℕ) (line : List Tok) (e : ReadError) → TreeFault e line → TreeFault e (Word n ∷ (Mark Open ∷ line))
first_fault n line Memory h = tt
first_fault n line (Stuck k) h = (h.0, h.1, stops_in_first n line h.0 h.2)

second_fault_at : (n : List ℕ) (a : MNamed) (line : List Tok) (e : ReadError) → TreeFault e line → TreeFault e (Word n ∷ (Mark Open ∷ tree_then a (Mark Comma ∷ line)))
second_fault_at n a line Memory h = tt
second_fault_at n a line (Stuck k) h = (h.0, h.1, stops_in_second n a line h.0 h.2)

pub second_fault : (n : List ℕ) (a : MNamed) (line mid behind : List Tok) (e : ReadError) → line ≡ tree_then a mid → mid ≡ Mark Comma ∷ behind → TreeFault e behind → TreeFault e (Word n ∷ (Mark Open ∷ line))
second_fault n a line mid behind e p q h = rw (p, q) (second_fault_at n a behind e h)

pub behind_first_fault : (n : List ℕ) (a : MNamed) (line rest : List Tok) (e : ReadError) → line ≡ tree_then a rest → Ends a rest → next rest ≢ Some (Mark Close) → next rest ≢ Some (Mark Comma) → e ≡ Stuck (length rest) → TreeFault e (Word n ∷ (Mark Open ∷ line))
behind_first_fault n a line rest e p q h k f = rw (f, p) (rest, refl, stops_behind_first n a rest q h k)

pub behind_second_fault : (n : List ℕ) (a b : MNamed) (line mid behind rest : List Tok) (e : ReadError) → line ≡ tree_then a mid → mid ≡ Mark Comma ∷ behind → behind ≡ tree_then b rest → Ends b rest → next rest ≢ Some (Mark Close) → e ≡ Stuck (length rest) → TreeFault e (Word n ∷ (Mark Open ∷ line))
behind_second_fault n a b line mid behind rest e p q r s h f = rw (f, p, q, r) (rest, refl, stops_behind_second n a b rest s h)

pub start_fault : (line : List Tok) (e : ReadError) → ((n : List ℕ) → next line ≢ Some (Word n)) → e ≡ Stuck (length line) → TreeFault e line
start_fault line e h f = rw f (line, refl, stops_at_start line h)
