-- The place to which an input was read, with no line `%%` before it.
use Rattle.std.proofs.Common.{◌≡◌, ◌≢◌, ◌≤◌, ◌<◌, ◌+◌, ℕ, min, List, [], ◌∷◌, ◌++◌, length, take, drop, refl, sym, ap, subst, ◌∙◌, inl, inr, arith, append_assoc, take-append-drop, length-append, length-drop}
use Rattle.std.specs.Prelude.{All, codes}
use Rattle.std.proofs.Math.Seq.{take-add, take-append-add, drop-append-add}
use Rattle.std.proofs.lemmas.List.{take_all, drop_all, drop-drop, append-nil}
use Rattle.std.proofs.lemmas.List.Elements.{All-append, All-cons, All-nil}
use Rattle.lcc_text.specs.Lines.{lines_of}
use Rattle.input_parts.specs.InputMark.{HasNoMark, IsWhole, IsMarked}
use Rattle.input_parts.proofs.LineEnds.{Ends, line_ends, lines_behind, no_line}

-- no line before the place is `%%`, and where the input goes on there, a line begins
pub record IsPassed (input : List ℕ) (at : ℕ) : Type 0 where
  pub within : at ≤ length input
  pub whole : at < length input → IsWhole (take at input)
  pub first : HasNoMark (take at input)

-- the place behind a line that begins at one, and behind the line feed if there is one
abbrev pub IsBehind : List ℕ → List ℕ → ℕ → ℕ → Type 0
IsBehind input line at next = next ≡ min (length input) (at + length line + 1)

-- one more line, which isn't `%%`
no_mark_more : (text ended line : List ℕ) → IsWhole text → HasNoMark text → line ≢ codes "%%" → lines_of ended ≡ line ∷ [] → HasNoMark (text ++ ended)
no_mark_more text ended line whole first other e =
    let P : List ℕ → Type 0 = λ l. l ≢ codes "%%" in
    let lines : lines_of (text ++ ended) ≡ lines_of text ++ line ∷ [] = lines_behind text ended whole ∙ ap (λ l. lines_of text ++ l) e in
    subst (All P) (sym lines) (All-append P (lines_of text) (line ∷ []) first (All-cons P line [] other (All-nil P)))

split_here : (input line : List ℕ) (at : ℕ) → drop at input ≡ line → input ≡ take at input ++ line
split_here input line at e = sym (take-append-drop at input) ∙ ap (λ l. take at input ++ l) e

-- a line that the end of the input ends
last_next : (input line : List ℕ) (at next : ℕ) → at < length input → drop at input ≡ line → IsBehind input line at next → next ≡ length input
last_next input line at next l h e = let k = ap length h in omega (arith, length-drop at input)

-- a line that a line feed ends
fed_next : (input line rest : List ℕ) (at next : ℕ) → at < length input → drop at input ≡ line ++ 10 ∷ rest → IsBehind input line at next → (next ≡ at + (length line + 1)) × (next ≤ length input)
fed_next input line rest at next l h e =
    let k = simp length-append at (ap length h) in
    (omega (arith, length-drop at input), omega (arith, length-drop at input))

fed_front : (input line rest : List ℕ) (at : ℕ) → drop at input ≡ line ++ 10 ∷ rest → take (at + (length line + 1)) input ≡ take at input ++ (line ++ 10 ∷ [])
fed_front input line rest at h = take-add at (length line + 1) input ∙ ap (λ l. take at input ++ l) (ap (take (length line + 1)) h ∙ take-append-add line (10 ∷ rest) 1)

fed_behind : (input line rest : List ℕ) (at : ℕ) → drop at input ≡ line ++ 10 ∷ rest → drop (at + (length line + 1)) input ≡ rest
fed_behind input line rest at h = sym (drop-drop (length line + 1) at input) ∙ ap (drop (length line + 1)) h ∙ drop-append-add line (10 ∷ rest) 1

passed_ends : (input line : List ℕ) (at next : ℕ) → IsPassed input at → at < length input → Ends (drop at input) line → line ≢ codes "%%" → IsBehind input line at next → IsPassed input next
passed_ends input line at next p l (inl h) other e =
    let n = last_next input line at next l h.0 e in
    let all : take at input ++ line ≡ take next input = sym (split_here input line at h.0) ∙ sym (take_all next input (omega arith)) in
    record {
      within = omega arith;
      whole = λ k. absurd (omega arith);
      first = subst HasNoMark all (no_mark_more (take at input) line line (p.whole l) p.first other h.1);
    }
passed_ends input line at next p l (inr h) other e =
    let n = fed_next input line h.0 at next l h.1 e in
    let all : take next input ≡ take at input ++ (line ++ 10 ∷ []) = ap (λ k. take k input) n.0 ∙ fed_front input line h.0 at h.1 in
    record {
      within = n.1;
      whole = λ k. inr (take at input ++ line, all ∙ sym (append_assoc (take at input) line (10 ∷ [])));
      first = subst HasNoMark (sym all) (no_mark_more (take at input) (line ++ 10 ∷ []) line (p.whole l) p.first other h.2);
    }

line_here : (input line : List ℕ) (lines : List (List ℕ)) (at : ℕ) → lines_of (drop at input) ≡ line ∷ lines → at < length input
line_here input line lines at h =
    let none : length input ≤ at → ⊥ = λ l. (let k : [] ≡ line ∷ lines = sym (ap lines_of (drop_all at input l)) ∙ h in cc) in
    omega (arith, none)

-- the place behind a line that isn't `%%`
pub passed_line : (input line : List ℕ) (lines : List (List ℕ)) (at next : ℕ) → IsPassed input at → lines_of (drop at input) ≡ line ∷ lines → line ≢ codes "%%" → IsBehind input line at next → IsPassed input next
passed_line input line lines at next p h other e = passed_ends input line at next p (line_here input line lines at h) (line_ends (drop at input) line lines h) other e

-- at the end
pub passed_all : (input : List ℕ) (at : ℕ) → IsPassed input at → lines_of (drop at input) ≡ [] → HasNoMark input
passed_all input at p e =
    let k = split_here input [] at (no_line (drop at input) e) in
    subst HasNoMark (sym (k ∙ append-nil (take at input))) p.first

marked_ends : (input line : List ℕ) (at next : ℕ) → IsPassed input at → at < length input → Ends (drop at input) line → line ≡ codes "%%" → IsBehind input line at next → IsMarked input (take at input) (drop next input)
marked_ends input line at next p l (inl h) mark e =
    let n = last_next input line at next l h.0 e in
    record {
      tail = [];
      parts = split_here input (codes "%%") at (h.0 ∙ mark) ∙ sym (append-nil (take at input ++ codes "%%"));
      whole = p.whole l;
      first = p.first;
      ends = inl (refl, drop_all next input (omega arith));
    }
marked_ends input line at next p l (inr h) mark e =
    let n = fed_next input line h.0 at next l h.1 e in
    record {
      tail = 10 ∷ h.0;
      parts = split_here input (codes "%%" ++ 10 ∷ h.0) at (h.1 ∙ ap (λ k. k ++ 10 ∷ h.0) mark) ∙ sym (append_assoc (take at input) (codes "%%") (10 ∷ h.0));
      whole = p.whole l;
      first = p.first;
      ends = inr (ap (λ k. 10 ∷ k) (sym (ap (λ k. drop k input) n.0 ∙ fed_behind input line h.0 at h.1)));
    }

-- the place of a line that is `%%`
pub marked_line : (input line : List ℕ) (lines : List (List ℕ)) (at next : ℕ) → IsPassed input at → lines_of (drop at input) ≡ line ∷ lines → line ≡ codes "%%" → IsBehind input line at next → IsMarked input (take at input) (drop next input)
marked_line input line lines at next p h mark e = marked_ends input line at next p (line_here input line lines at h) (line_ends (drop at input) line lines h) mark e
