-- A name that stands somewhere stands, from there on, with a type that its symbol's absorbs.
use Rattle.std.proofs.Common.{◌≡◌, ℕ, false, not, refl, sym, ap, subst, ◌∙◌}
use Rattle.std.specs.Prelude.{ℤ, unsigned_abs, Option, Some, None, List}
use Rattle.c_symbols.specs.declared.symbol.Storage.{Storage}
use Rattle.c_symbols.specs.declared.symbol.Storage.TheVariants as storage
use Rattle.c_types.specs.CType.{CType}
use Rattle.c_meaning.specs.declared.core_expr.CoreKind.TheVariants as kind
use Rattle.c_meaning.specs.Rows.{kind_meant}
use Rattle.c_meaning.specs.State.{State, known_at}
use Rattle.c_meaning.specs.StmtTrees.{FilledOf}
use Rattle.c_meaning.specs.Values.{CoreTree}
use Rattle.c_typing_steps.specs.Names.{EachName, EachNameStored, Stands, StandsFor}
use Rattle.c_typing_steps.proofs.lemmas.Names.{Implies, each_more, stored_more}
use Rattle.c_fits.proofs.lemmas.Booleans.{never}
use Rattle.c_linked_names.proofs.lemmas.Absorbing.{TypeLaws, absorbs_itself}
use Rattle.c_linked_names.proofs.lemmas.Going.{IfMeant, Meant, meant_keeps}
use Rattle.c_linked_names.proofs.lemmas.Keeping.{IsRegular, entry_of, is_tag, link_at, link_by, link_of}
use Rattle.c_linked_names.proofs.lemmas.Stepping.{steps_steady}

some_symbol : (i id : ℕ) → kind.Symbol i ≡ kind.Symbol id → id ≡ i
some_symbol i id e = cc

-- what a declaration of this class and value means, where it is a symbol
symbol_meant : (P : ℕ → Type 0) (c : Storage) (v : Option ℤ) (i id : ℕ) → kind.Symbol i ≡ kind_meant c v id → is_tag c ≡ false → ((l : ℕ) → link_by c v ≡ Some l → P l) → P id → P i
symbol_meant P storage.Tag v i id e t f q = never t
symbol_meant P storage.Enumerator v i id e t f q = absurd (let none : ⊥ = cc in none)
symbol_meant P storage.Auto v i id e t f q = absurd (let none : ⊥ = cc in none)
symbol_meant P storage.Register v i id e t f q = absurd (let none : ⊥ = cc in none)
symbol_meant P storage.Extern None i id e t f q = subst P (some_symbol i id e) q
symbol_meant P storage.Static None i id e t f q = subst P (some_symbol i id e) q
symbol_meant P storage.Typedef None i id e t f q = subst P (some_symbol i id e) q
symbol_meant P storage.Extern (Some z) i id e t f q = subst P (some_symbol i (unsigned_abs z) e) (f (unsigned_abs z) refl)
symbol_meant P storage.Static (Some z) i id e t f q = subst P (some_symbol i (unsigned_abs z) e) (f (unsigned_abs z) refl)
symbol_meant P storage.Typedef (Some z) i id e t f q = subst P (some_symbol i (unsigned_abs z) e) (f (unsigned_abs z) refl)

module _ (types : TypeLaws) where
  stands_meant : (s u : State) (i : ℕ) (of : CType) → IsRegular s → Stands s u (kind.Symbol i) of → Meant u i of
  stands_meant s u i of h x =
      let a = steps_steady types x.before h in
      let b = steps_steady types x.behind a.regular in
      let n = entry_of x.at x.name x.id a.regular x.found in
      let t = n.tag ∙ ap not x.is in
      let of_link : (l : ℕ) → link_of (known_at x.at x.id) ≡ Some l → Meant x.at l (known_at x.at x.id).of =
      λ l e. let k = a.regular.bound x.id l n.below n.apart e in let m = link_at x.at l a.regular k.0 in record { below = m.1.below; class = m.1.class; absorbed = k.1 } in
      let own : Meant x.at x.id (known_at x.at x.id).of = record { below = n.below; class = t; absorbed = absorbs_itself (known_at x.at x.id).of } in
      let here : Meant x.at i (known_at x.at x.id).of = symbol_meant (λ i. Meant x.at i (known_at x.at x.id).of) (known_at x.at x.id).class (known_at x.at x.id).value i x.id x.means t of_link own in
      subst (Meant u i) (sym x.type) (meant_keeps x.at u b.keeps i (known_at x.at x.id).of here)

  stands_if : (s u : State) → IsRegular s → Implies (StandsFor s u) (IfMeant u)
  stands_if s u h (kind.Symbol i) of x = stands_meant s u i of h x
  stands_if s u h what of x = tt

  pub each_meant : (s u : State) (c : CoreTree) → IsRegular s → EachName (StandsFor s u) c → EachName (IfMeant u) c
  each_meant s u c h x = each_more (StandsFor s u) (IfMeant u) (stands_if s u h) c x

  pub stored_meant : (s u : State) (ps : List (FilledOf CType)) → IsRegular s → EachNameStored (StandsFor s u) ps → EachNameStored (IfMeant u) ps
  stored_meant s u ps h x = stored_more (StandsFor s u) (IfMeant u) (stands_if s u h) ps x
