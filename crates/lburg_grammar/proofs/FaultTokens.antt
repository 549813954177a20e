-- No token of a line as it is written is foreign to descriptions.
use Rattle.std.proofs.Common.{◌≡◌, ℕ, zero, suc, List, [], ◌∷◌, Some, refl, subst}
use Rattle.std.specs.Prelude.{slice_get}
use Rattle.std.proofs.lemmas.Option.{none-some, same_Some}
use Rattle.lburg_lines.specs.declared.token.Sign.TheVariants.{Close, Comma}
use Rattle.lburg_lines.specs.Tokens.{Tok, Mark}
use Rattle.lburg_lines.specs.Numbers.{MNumber, Plain, Minus, number_token}
use Rattle.lburg_lines.specs.NamedTree.{MNamed, Alone, Over, Both, tree_then}
use Rattle.lburg_lines.specs.Grammar.{MLine, Blank, Divides, Opens, Closes, Declared, Ruled, MCost, Omitted, Fixed, Between, Starts, Declares, MNumbered, cost_tokens, line_tokens, terminal_tokens}
use Rattle.lburg_faults.specs.BadToken.{IsForeign}

abbrev AllNative : List Tok → Type 0
AllNative [] = Unit {0}
AllNative (t ∷ ts) = (IsForeign t → ⊥) × AllNative ts

native_at : (ts : List Tok) (i : ℕ) (t : Tok) → AllNative ts → slice_get ts i ≡ Some t → IsForeign t → ⊥
native_at [] i t n g = absurd (none-some t g)
native_at (x ∷ ts) zero t n g = let P : Tok → Type 0 = λ y. IsForeign y → ⊥ in subst P (same_Some x t g) n.0
native_at (x ∷ ts) (suc i) t n g = native_at ts i t n.1 g

native_tree : (tree : MNamed) (rest : List Tok) → AllNative rest → AllNative (tree_then tree rest)
native_tree (Alone n) rest h = (λ f. f, h)
native_tree (Over n a) rest h = (λ f. f, (λ f. f, native_tree a (Mark Close ∷ rest) (λ f. f, h)))
native_tree (Both n a b) rest h = (λ f. f, (λ f. f, native_tree a (Mark Comma ∷ tree_then b (Mark Close ∷ rest)) (λ f. f, native_tree b (Mark Close ∷ rest) (λ f. f, h))))

native_number : (n : MNumber) → IsForeign (number_token n) → ⊥
native_number (Plain digits) f = f
native_number (Minus digits) f = f

native_cost : (c : MCost) → AllNative (cost_tokens c)
native_cost Omitted = tt
native_cost (Fixed digits) = (λ f. f, tt)
native_cost (Between low high) = (λ f. f, (λ f. f, (λ f. f, (λ f. f, (native_number low, (λ f. f, (native_number high, (λ f. f, tt))))))))

native_terminals : (ts : List MNumbered) → AllNative (terminal_tokens ts)
native_terminals [] = tt
native_terminals (t ∷ ts) = (λ f. f, (λ f. f, (λ f. f, native_terminals ts)))

native_line : (w : MLine) → AllNative (line_tokens w)
native_line Blank = tt
native_line Divides = (λ f. f, tt)
native_line Opens = (λ f. f, tt)
native_line Closes = (λ f. f, tt)
native_line (Declared (Starts n)) = (λ f. f.0 refl, (λ f. f, tt))
native_line (Declared (Declares ts)) = (λ f. f.1 refl, native_terminals ts)
native_line (Ruled r) = (λ f. f, (λ f. f, native_tree r.tree _ (λ f. f, native_cost r.cost)))

pub no_foreign : (w : MLine) (place : ℕ) (t : Tok) → slice_get (line_tokens w) place ≡ Some t → IsForeign t → ⊥
no_foreign w place t g f = native_at (line_tokens w) place t (native_line w) g f
