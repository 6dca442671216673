-- One more polygon, one more tile: what was found stays the nearest in which the path may begin.
use Rattle.std.proofs.Common.{◌≡◌, ℕ, ◌+◌, ◌≤◌, ◌<◌, length, refl, sym, ap, subst, ◌∙◌, inl, inr, arith}
use Rattle.std.specs.Prelude.{IfNone, IfSome, Option, Some, None, slice_get}
use Rattle.std.proofs.lemmas.Bool.{cases_lt}
use Rattle.std.proofs.lemmas.Option.{option_and_then_some, same_Some, slice_get_within}
use Rattle.mesh_types.specs.declared.links.PolyRef.{PolyRef}
use Rattle.mesh_types.specs.declared.mesh.Mesh.{Mesh}
use Rattle.mesh_types.specs.declared.mesh.TileMesh.{TileMesh}
use Rattle.mesh_types.specs.Located.{IsNoLater}
use Rattle.mesh_locate.specs.Nearest.{IsBefore}
use Rattle.kept_paths.specs.declared.checks.KeptPath.{KeptPath}
use Rattle.kept_paths.specs.KeptPaths.{Begins, IsBeginning, gap_at}
use Rattle.kept_paths.specs.Beginnings.{IsNearest, IsNearestBefore}

-- what comes before the next place comes before this one, or stands there
before-next : {P : Type 0} (at other : PolyRef) → IsBefore at.tile (at.index + 1) other → (IsBefore at.tile at.index other → P) → (other ≡ at → P) → P
before-next at other (inl earlier) before here = before (inl earlier)
before-next at other (inr same) before here =
    elim (cases_lt other.index at.index) [
      | inl less ↦ before (inr (same.0, less))
      | inr least ↦
          let e : other.index ≡ at.index = omega (arith, same.1, least) in
          here (λ i. record { tile = same.0 i; index = e i })
    ]

later-next : (at other : PolyRef) → IsBefore at.tile at.index other → IsBefore at.tile (at.index + 1) other
later-next at other (inl earlier) = inl earlier
later-next at other (inr same) = inr (same.0, omega (arith, same.1))

-- a polygon before a place is no later than one that stands there and is no nearer
no-later : (tile index : ℕ) (a b : PolyRef) (m n : ℕ) → b.tile ≡ tile → b.index ≡ index → IsBefore tile index a → m ≤ n → IsNoLater m a n b
no-later tile index a b m n at at' (inl earlier) least =
    elim (cases_lt m n) [ inl less ↦ inl less | inr same ↦ inr (omega (arith, same, least), inl (omega (arith, earlier, at))) ]
no-later tile index a b m n at at' (inr there) least =
    elim (cases_lt m n) [ inl less ↦ inl less | inr same ↦ inr (omega (arith, same, least), inr (there.0 ∙ sym at, omega (arith, there.1, at'))) ]

module _ (mesh : Mesh) (path : KeptPath) where
  abbrev gap : PolyRef → ℕ
  gap at = gap_at mesh path.from_y at

  -- it is no later than itself
  itself : (at other : PolyRef) → other ≡ at → IsNoLater (gap at) at (gap other) other
  itself at other here =
      inr (ap gap (sym here), inr (ap (λ (r : PolyRef). r.tile) (sym here), omega (arith, ap (λ (r : PolyRef). r.index) (sym here))))

  -- a polygon in which it may not begin changes nothing
  pub passed-over : (at : PolyRef) (best : Option PolyRef) → (Begins mesh path at → ⊥) → IsNearestBefore mesh path at.tile at.index best
      → IsNearestBefore mesh path at.tile (at.index + 1) best
  passed-over at None never found =
      λ other before begins. before-next at other before (λ earlier. found other earlier begins) (λ here. never (subst (Begins mesh path) here begins))
  passed-over at (Some near) never found = record {
    begins = found.begins;
    before = later-next at near found.before;
    least = λ other before begins. before-next at other before (λ earlier. found.least other earlier begins)
        (λ here. absurd (never (subst (Begins mesh path) here begins)));
  }

  -- the first one that is found is the nearest
  pub first-found : (at : PolyRef) → Begins mesh path at → IsNearestBefore mesh path at.tile at.index None → IsNearest mesh path at.tile (at.index + 1) at
  first-found at begins found = record {
    begins = begins;
    before = inr (refl, omega arith);
    least = λ other before begins'. before-next at other before (λ earlier. absurd (found other earlier begins')) (λ here. itself at other here);
  }

  -- a nearer one takes the place
  pub taken : (at near : PolyRef) → Begins mesh path at → gap at < gap near → IsNearest mesh path at.tile at.index near
      → IsNearest mesh path at.tile (at.index + 1) at
  taken at near begins less found = record {
    begins = begins;
    before = inr (refl, omega arith);
    least = λ other before begins'.
        before-next at other before (λ earlier. inl (beyond (gap near) (gap other) near other less (found.least other earlier begins'))) (λ here. itself at other here);
  }
    where
      beyond : (m n : ℕ) (a b : PolyRef) → gap at < m → IsNoLater m a n b → gap at < n
      beyond m n a b less (inl more) = omega (arith, less, more)
      beyond m n a b less (inr same) = omega (arith, less, same.0)

  -- one that is no nearer does not
  pub left-alone : (at near : PolyRef) → (gap at < gap near → ⊥) → IsNearest mesh path at.tile at.index near → IsNearest mesh path at.tile (at.index + 1) near
  left-alone at near never found = record {
    begins = found.begins;
    before = later-next at near found.before;
    least = λ other before begins.
        before-next at other before (λ earlier. found.least other earlier begins)
        (λ here.
        no-later at.tile at.index near other (gap near) (gap other) (ap (λ (r : PolyRef). r.tile) here) (ap (λ (r : PolyRef). r.index) here) found.before
        (subst (λ (r : PolyRef). gap near ≤ gap r) (sym here) (at-most (gap at) (gap near) never)));
  }
    where
      at-most : (m n : ℕ) → (m < n → ⊥) → n ≤ m
      at-most m n h = elim (cases_lt m n) [ inl less ↦ absurd (h less) | inr least ↦ omega (arith, least) ]

  -- ---- from tile to tile

  -- what was found does not change where the path may begin in no polygon between two places
  pub moved-on : (tile index tile' index' : ℕ) (best : Option PolyRef) → ((other : PolyRef) → IsBefore tile index other → IsBefore tile' index' other)
      → ((other : PolyRef) → IsBefore tile' index' other → Begins mesh path other → IsBefore tile index other)
      → IsNearestBefore mesh path tile index best → IsNearestBefore mesh path tile' index' best
  moved-on tile index tile' index' None on back found = λ other before begins. found other (back other before begins) begins
  moved-on tile index tile' index' (Some near) on back found = record {
    begins = found.begins;
    before = on near found.before;
    least = λ other before begins. found.least other (back other before begins) begins;
  }

  -- after a tile's last polygon comes the next tile
  pub tile-done : (t : ℕ) (tile : TileMesh) (best : Option PolyRef) → slice_get mesh.tiles t ≡ Some tile → IsNearestBefore mesh path t (length tile.polys) best
      → IsNearestBefore mesh path (t + 1) 0 best
  tile-done t tile best there found = moved-on t (length tile.polys) (t + 1) 0 best on back found
    where
      on : (other : PolyRef) → IsBefore t (length tile.polys) other → IsBefore (t + 1) 0 other
      on other (inl earlier) = inl (omega (arith, earlier))
      on other (inr same) = inl (omega (arith, same.0))

      inside : (other : PolyRef) → other.tile ≡ t → Begins mesh path other → other.index < length tile.polys
      inside other at begins =
          option_and_then_some (λ (d : TileMesh). slice_get d.polys other.index) (slice_get mesh.tiles other.tile) begins.holding.polygon begins.holding.there
          (λ d there' listed.
          let same : d ≡ tile = same_Some d tile (sym there' ∙ ap (slice_get mesh.tiles) at ∙ there) in
          slice_get_within tile.polys other.index begins.holding.polygon (ap (λ (e : TileMesh). slice_get e.polys other.index) (sym same) ∙ listed))

      back : (other : PolyRef) → IsBefore (t + 1) 0 other → Begins mesh path other → IsBefore t (length tile.polys) other
      back other (inr same) begins = absurd (omega (arith, same.1))
      back other (inl earlier) begins =
          elim (cases_lt other.tile t) [
            | inl less ↦ inl less
            | inr least ↦ let at : other.tile ≡ t = omega (arith, earlier, least) in inr (at, inside other at begins)
          ]

  -- a tile with no such polygon is passed over
  pub tile-passed : (t : ℕ) (best : Option PolyRef) → ((other : PolyRef) → other.tile ≡ t → Begins mesh path other → ⊥) → IsNearestBefore mesh path t 0 best
      → IsNearestBefore mesh path (t + 1) 0 best
  tile-passed t best never found = moved-on t 0 (t + 1) 0 best on back found
    where
      on : (other : PolyRef) → IsBefore t 0 other → IsBefore (t + 1) 0 other
      on other (inl earlier) = inl (omega (arith, earlier))
      on other (inr same) = absurd (omega (arith, same.1))

      back : (other : PolyRef) → IsBefore (t + 1) 0 other → Begins mesh path other → IsBefore t 0 other
      back other (inr same) begins = absurd (omega (arith, same.1))
      back other (inl earlier) begins =
          elim (cases_lt other.tile t) [
            | inl less ↦ inl less
            | inr least ↦ let at : other.tile ≡ t = omega (arith, earlier, least) in absurd (never other at begins)
          ]

  -- nothing comes before the first place
  pub nothing-yet : IsNearestBefore mesh path 0 0 None
  nothing-yet other (inl before) begins = absurd (omega (arith, before))
  nothing-yet other (inr before) begins = absurd (omega (arith, before.1))

  -- each polygon of the mesh comes before the place after the last tile
  pub there-before : (other : PolyRef) → Begins mesh path other → IsBefore (length mesh.tiles) 0 other
  there-before other begins =
      option_and_then_some (λ (d : TileMesh). slice_get d.polys other.index) (slice_get mesh.tiles other.tile) begins.holding.polygon begins.holding.there
      (λ d there listed. inl (slice_get_within mesh.tiles other.tile d there))

  pub nowhere : IsNearestBefore mesh path (length mesh.tiles) 0 None → (at : PolyRef) → Begins mesh path at → ⊥
  nowhere found at begins = found at (there-before at begins) begins

  pub is-beginning : (at : PolyRef) → (Begins mesh path path.first → ⊥) → IsNearest mesh path (length mesh.tiles) 0 at → IsBeginning mesh path at
  is-beginning at never found = record {
    begins = found.begins;
    named = λ begins. absurd (never begins);
    nearest = λ _ other begins. found.least other (there-before other begins) begins;
  }

  pub named-beginning : Begins mesh path path.first → IsBeginning mesh path path.first
  named-beginning begins = record { begins = begins; named = λ _. refl; nearest = λ never other other_begins. absurd (never begins) }

  pub none-nowhere : (best : Option PolyRef) → IsNearestBefore mesh path (length mesh.tiles) 0 best → IfNone best ((at : PolyRef) → Begins mesh path at → ⊥)
  none-nowhere None found = nowhere found
  none-nowhere (Some at) found = tt

  pub some-beginning : (best : Option PolyRef) → (Begins mesh path path.first → ⊥) → IsNearestBefore mesh path (length mesh.tiles) 0 best
      → IfSome best (IsBeginning mesh path)
  some-beginning None never found = tt
  some-beginning (Some at) never found = is-beginning at never found
