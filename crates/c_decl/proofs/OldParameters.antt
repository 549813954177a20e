-- The reader of old-style parameters is exact, where that of declarations is.
use Rattle.std.proofs.Common.{false, None, Some, List, ◌∷◌, refl}
use Rattle.c_ast.specs.Heights.{declarations_height}
use Rattle.c_ast.specs.Levels.{FitsDeclarations}
use Rattle.c_ast.specs.Marks.{Mark, Ask, IsSpecifier}
use Rattle.c_ast.specs.Trees.{DeclarationTree}
use Rattle.c_ast.specs.UnitMarks as marks
use Rattle.c_readings.specs.Reading.{Read, bind}
use Rattle.c_readings.specs.Readers.{readers}
use Rattle.c_readings.specs.DeclarationReaders as reader
use Rattle.c_readings.specs.Exact.{Exact, Finds, nothing_more}
use Rattle.c_decl.proofs.lemmas.OldParametersLaws.{ended, piece_by}
use Rattle.c_decl.specs.Productions as production
use Rattle.c_decl.proofs.lemmas.TakingLaws.{IsExact}

found_by : (o : Read (List DeclarationTree)) (xs : List DeclarationTree) (r : List Mark) → Finds o xs (Ask (IsSpecifier false) false ∷ r) → Finds (bind o ended) xs r
found_by None xs r f = f
found_by (Some p) xs r f = rw f.1.0 (f.0, f.1.1)

pub old_parameters_exact : Exact marks.declarations FitsDeclarations nothing_more declarations_height 500 0 (reader.declarations readers 500) → IsExact production.old_parameters
old_parameters_exact e = record {
  piece = λ s x t h.
      let k = piece_by (reader.declarations readers 500 s) x t h in
      let p = e.piece s x t k.0 in
      record {
        fits = p.fits;
        low = p.low;
        ends = p.ends;
        used = p.used;
        runs = λ r. let both = p.runs (Ask (IsSpecifier false) false ∷ r) in (λ z. (both.0 z).1, λ z. both.1 (k.1, z));
      };
  found = λ s x r f l c h. found_by (reader.declarations readers 500 s) x r (e.found s x (Ask (IsSpecifier false) false ∷ r) f l (λ t n. refl) h);
}
