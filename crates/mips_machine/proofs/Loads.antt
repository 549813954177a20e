-- What a program that is loaded has.
use Rattle.std.proofs.Common.{◌≡◌, ℕ, ◌+◌, ◌≤◌, Bool, true, false, List, [], ◌∷◌, ◌%◌, ◌^◌, length, Option, Some, refl, subst, arith, length-append}
use Rattle.std.specs.Prelude.{codes, if◌then◌else◌, All}
use Rattle.std.specs.Str.{bytes_eq}
use Rattle.std.proofs.lemmas.List.{length-map, length-replicate}
use Rattle.std.proofs.lemmas.List.Sums.{sum_by-cons}
use Rattle.std.proofs.lemmas.List.Elements.{All-head, All-tail}
use Rattle.lcc_base.specs.declared.order.Order.{Order}
use Rattle.lcc_base.specs.declared.order.Order.TheVariants.{Big, Little}
use Rattle.asm_lines.specs.Statements.{instruction_with}
use Rattle.asm_text.specs.declared.datum.Datum.TheVariants.{Byte, Half, Word, Named, Zeros}
use Rattle.asm_text.specs.declared.place.Place.{Place}
use Rattle.asm_text.specs.declared.place.Place.TheVariants.{Code}
use Rattle.asm_text.specs.IsProgram.{IsProgram, IsPlaceIn}
use Rattle.asm_text.specs.Linked.{HasMain, all_bytes, datum_bytes, half_bytes, linked_code, linked_data, linked_name, word_bytes}
use Rattle.asm_text.specs.Program.{MDatum, MLabel, MProgram, data_size, place_of, size_of}

length-half : (order : Order) (n : ℕ) → length (half_bytes order n) ≡ 2
length-half Big n = refl
length-half Little n = refl

length-word : (order : Order) (n : ℕ) → length (word_bytes order n) ≡ 4
length-word Big n = refl
length-word Little n = refl

length-datum : (order : Order) (address : List ℕ → ℕ) (d : MDatum) → length (datum_bytes order address d) ≡ size_of d
length-datum order address (Byte n) = refl
length-datum order address (Half n) = length-half order n
length-datum order address (Word n) = length-word order n
length-datum order address (Named name n) = length-word order ((address name + n) % 2 ^ 32)
length-datum order address (Zeros n) = length-replicate n 0

length-all : (order : Order) (address : List ℕ → ℕ) (ds : List MDatum) → length (all_bytes order address ds) ≡ data_size ds
length-all order address [] = refl
length-all order address (d ∷ ds) = omega (arith, sum_by-cons (size_of {N = List ℕ}) d ds, length-append (datum_bytes order address d) (all_bytes order address ds), length-datum order address d, length-all order address ds)

pub data-fits : (order : Order) (p : MProgram) → IsProgram p → length (linked_data order p) ≤ 33554432
data-fits order p is = omega (arith, length-all order (linked_name p.labels) p.datums, is.limits.1)

pub code-fits : (p : MProgram) → IsProgram p → length (linked_code p) ≤ 4194304
code-fits p is = omega (arith, length-map p.code (instruction_with (linked_name p.labels)), is.limits.0)

-- the place of a label that is found is that of one of the labels
chosen-place : (P : Place → Type 0) (b : Bool) (first place : Place) (rest : Option Place) → P first → (rest ≡ Some place → P place) → (if b then Some first else rest) ≡ Some place → P place
chosen-place P true first place rest here there e = subst P (cc) here
chosen-place P false first place rest here there e = there e

found-place : (P : Place → Type 0) (labels : List MLabel) (name : List ℕ) (place : Place) → All (λ (l : MLabel). P l.place) labels → place_of labels name ≡ Some place → P place
found-place P [] name place all e = absurd (cc)
found-place P (l ∷ ls) name place all e =
    chosen-place P (bytes_eq l.name name) l.place place (place_of ls name) (All-head (λ (l : MLabel). P l.place) l ls all) (found-place P ls name place (All-tail (λ (l : MLabel). P l.place) l ls all)) e

pub main-fits : (p : MProgram) (main : ℕ) → IsProgram p → HasMain p main → main ≤ 4194304
main-fits p main is has =
    let within = found-place (IsPlaceIn p) p.labels (codes "main") (Code main) is.within has in
    omega (arith, within, is.limits.0)
