-- A line that holds a tree in its plain form: its tokens, and its end.
use Rattle.std.proofs.Common.{◌≡◌, ◌==◌, ℕ, true, false, Some, None, List, [], ◌∷◌, ◌++◌, length, drop, refl, sym, ap, subst, ◌∙◌, inl, arith}
use Rattle.std.proofs.Math.Seq.{drop-append_seam, take-append_seam}
use Rattle.std.proofs.lemmas.Bool.Decides.{nat_tests}
use Rattle.lcc_text.specs.declared.class.Class.TheVariants.{Letter, Name, Blank}
use Rattle.lcc_text.specs.Classes.{in_class, AllIn, StartsIn, StopsIn}
use Rattle.lcc_text.specs.Lines.{lines_of, with_byte}
use Rattle.lburg_lines.specs.declared.token.Sign.TheVariants.{Open, Close, Comma}
use Rattle.lburg_lines.specs.Tokens.{Tok, Word, Mark, IsToken}
use Rattle.lburg_lines.specs.Spelling.{IsNext, Spells, Starts}
use Rattle.lburg_lines.proofs.lemmas.LongestTokens.{word_next, sign_next}
use Rattle.lburg_model.specs.Tree.{MTree, TLeaf, TOne, TTwo}
use Rattle.lburg_model.specs.Description.{MDescription, IsDescription}
use Rattle.lburg_trees.specs.Setting.{nothing}
use Rattle.lburg_trees.specs.TailTree.{MTail, Alone, Over, Both, HasNumbers, tree_then}
use Rattle.lburg_trees.specs.TailText.{MayHave, TreeMeans, IsTree}
use Rattle.lburg_trees.specs.PlainTree.{IsPlain, plain_then, ReadsPlain}
use Rattle.lburg_trees.specs.PlainLine.{ReadsLine}
use Rattle.lburg_trees.proofs.Fine.{names_there}
use Rattle.lburg_trees.proofs.Whole.{tree_fine}

-- an operator's name is spelled as one
spelled_name : (d : MDescription) (op : ℕ) (n : List ℕ) (k : ℕ) → IsDescription d → MayHave d op n k → IsToken (Word n)
spelled_name d op n k is h =
    let (i, e, f) = names_there d op h.0 n (h.1, h.2) in
    is.names_spelled i n f

-- ---- tokens

letter_starts : (b : ℕ) → in_class Letter b ≡ true → in_class Blank b ≡ false
letter_starts b h = grind (arith, nat_tests)

name_starts : (n rest : List ℕ) → StartsIn (in_class Letter) n → Starts (n ++ rest) × StartsIn (in_class Letter) (n ++ rest)
name_starts [] rest h = absurd h
name_starts (b ∷ n) rest h = (letter_starts b h, h)

word_first : (n rest : List ℕ) (us : List Tok) → IsToken (Word n) → StopsIn (in_class Name) rest → Spells us rest → Spells (Word n ∷ us) (n ++ rest)
word_first n rest us t stops s =
    let front = take-append_seam n rest in
    let back = drop-append_seam n rest in
    let (starts, letter) = name_starts n rest t.0 in
    let Next : List ℕ → List ℕ → Type 0 = λ x y. IsNext (n ++ rest) (Word x) y in
    let here = word_next (n ++ rest) (length n) letter (subst (λ (z : List ℕ). AllIn (in_class Name) z) (sym front) t.1) (subst (λ (z : List ℕ). StopsIn (in_class Name) z) (sym back) stops) in
    let next : IsNext (n ++ rest) (Word n) rest = subst (λ (y : List ℕ). Next n y) back (subst (λ (x : List ℕ). Next x (drop (length n) (n ++ rest))) front here) in
    ([], n ++ rest, tt, starts, refl, inl (rest, next, s))

open_first : (rest : List ℕ) (us : List Tok) → Spells us rest → Spells (Mark Open ∷ us) (40 ∷ rest)
open_first rest us s = ([], 40 ∷ rest, tt, refl, refl, inl (rest, sign_next Open rest, s))

close_first : (rest : List ℕ) (us : List Tok) → Spells us rest → Spells (Mark Close ∷ us) (41 ∷ rest)
close_first rest us s = ([], 41 ∷ rest, tt, refl, refl, inl (rest, sign_next Close rest, s))

comma_first : (rest : List ℕ) (us : List Tok) → Spells us rest → Spells (Mark Comma ∷ us) (44 ∷ rest)
comma_first rest us s = ([], 44 ∷ rest, tt, refl, refl, inl (rest, sign_next Comma rest, s))

-- the bytes of a tree spell its tokens
plain_spells : (d : MDescription) (w : MTail) (t : MTree) (us : List Tok) (rest : List ℕ) → IsDescription d → TreeMeans d w t → IsPlain w → StopsIn (in_class Name) rest → Spells us rest → Spells (tree_then w us) (plain_then w rest)
plain_spells d (Alone n None) (TLeaf op v) us rest is h p k s = word_first n rest us (spelled_name d op n 0 is h.0) k s
plain_spells d (Alone n (Some c)) t us rest is h p k s = absurd cc
plain_spells d (Over n None a) (TOne op v t) us rest is h p k s =
    let inner = plain_spells d a t (Mark Close ∷ us) (41 ∷ rest) is h.2 p.1 refl (close_first rest us s) in
    word_first n _ _ (spelled_name d op n 1 is h.0) refl (open_first _ _ inner)
plain_spells d (Over n (Some c) a) t us rest is h p k s = let e = p.0 in absurd cc
plain_spells d (Both n None a b) (TTwo op v t u) us rest is h p k s =
    let second = plain_spells d b u (Mark Close ∷ us) (41 ∷ rest) is h.3 p.2 refl (close_first rest us s) in
    let first = plain_spells d a t (Mark Comma ∷ tree_then b (Mark Close ∷ us)) (44 ∷ plain_then b (41 ∷ rest)) is h.2 p.1 refl (comma_first _ _ second) in
    word_first n _ _ (spelled_name d op n 2 is h.0) refl (open_first _ _ first)
plain_spells d (Both n (Some c) a b) t us rest is h p k s = let e = p.0 in absurd cc
plain_spells d w t us rest is h p k s = absurd h

plain_numbers : (w : MTail) → IsPlain w → HasNumbers w
plain_numbers (Alone n None) p = tt
plain_numbers (Alone n (Some c)) p = absurd cc
plain_numbers (Over n None a) p = (tt, plain_numbers a p.1)
plain_numbers (Over n (Some c) a) p = let e = p.0 in absurd cc
plain_numbers (Both n None a b) p = (tt, plain_numbers a p.1, plain_numbers b p.2)
plain_numbers (Both n (Some c) a b) p = let e = p.0 in absurd cc

-- ---- the line's end

no_feed : (b : ℕ) → in_class Name b ≡ true → (b == 10) ≡ false
no_feed b h = grind (arith, nat_tests)

name_line : (n x y : List ℕ) (lines : List (List ℕ)) → AllIn (in_class Name) n → lines_of x ≡ y ∷ lines → lines_of (n ++ x) ≡ (n ++ y) ∷ lines
name_line [] x y lines h e = e
name_line (b ∷ n) x y lines h e = rw (no_feed b h.0) (ap (λ (z : List (List ℕ)). with_byte b z) (name_line n x y lines h.1 e))

sign_line : (b : ℕ) (x y : List ℕ) (lines : List (List ℕ)) → (b == 10) ≡ false → lines_of x ≡ y ∷ lines → lines_of (b ∷ x) ≡ (b ∷ y) ∷ lines
sign_line b x y lines h e = rw h (ap (λ (z : List (List ℕ)). with_byte b z) e)

-- the bytes of a tree stand in one line
plain_line : (d : MDescription) (w : MTail) (t : MTree) (x y : List ℕ) (lines : List (List ℕ)) → IsDescription d → TreeMeans d w t → lines_of x ≡ y ∷ lines → lines_of (plain_then w x) ≡ plain_then w y ∷ lines
plain_line d (Alone n c) (TLeaf op v) x y lines is h e = name_line n x y lines (spelled_name d op n 0 is h.0).1 e
plain_line d (Over n c a) (TOne op v t) x y lines is h e =
    let inner = plain_line d a t (41 ∷ x) (41 ∷ y) lines is h.2 (sign_line 41 x y lines refl e) in
    name_line n _ _ lines (spelled_name d op n 1 is h.0).1 (sign_line 40 (plain_then a (41 ∷ x)) (plain_then a (41 ∷ y)) lines refl inner)
plain_line d (Both n c a b) (TTwo op v t u) x y lines is h e =
    let second = plain_line d b u (41 ∷ x) (41 ∷ y) lines is h.3 (sign_line 41 x y lines refl e) in
    let first = plain_line d a t (44 ∷ plain_then b (41 ∷ x)) (44 ∷ plain_then b (41 ∷ y)) lines is h.2 (sign_line 44 (plain_then b (41 ∷ x)) (plain_then b (41 ∷ y)) lines refl second) in
    name_line n _ _ lines (spelled_name d op n 2 is h.0).1 (sign_line 40 (plain_then a (44 ∷ plain_then b (41 ∷ x))) (plain_then a (44 ∷ plain_then b (41 ∷ y))) lines refl first)
plain_line d w t x y lines is h e = absurd h

-- a tree with a line feed behind it is the text's first line
pub reads_line : (d : MDescription) (text rest behind : List ℕ) (t : MTree) → IsDescription d → ReadsPlain d nothing text rest t → rest ≡ 10 ∷ behind → ReadsLine d text behind t
reads_line d text rest behind t is h e =
    let w = h.written in
    let tokens = tree_then w [] in
    let small = h.small in
    let low = h.low in
    let spelled : Spells tokens (plain_then w []) = plain_spells d w t [] [] is h.means h.plain tt tt in
    let tree : IsTree d tokens t = record {
      written = w;
      numbers = plain_numbers w h.plain;
      tokens_are = refl;
      means = h.means;
      small = omega arith;
      low = omega arith;
    } in
    record {
      line = plain_then w [];
      lines = ap lines_of (h.parts ∙ ap (λ (z : List ℕ). plain_then w z) e) ∙ plain_line d w t (10 ∷ behind) [] (lines_of behind) is h.means refl;
      is = (tokens, spelled, tree);
      fine = (tokens, spelled, tree_fine d tokens t is tree);
    }
