-- A storey has a floor at every point: that of a cell than which none is nearer.
use Rattle.std.proofs.Common.{◌≡◌, refl, ℕ, zero, suc, ◌-◌, ◌≤◌, ◌<◌, true, [], Bor, get_or, sym, subst, inl, inr, arith}
use Rattle.std.specs.Prelude.{Option, None, Some, IfSome, slice_get}
use Rattle.std.specs.Option.{is_some, option_copied}
use Rattle.std.proofs.lemmas.Bool.{cases_lt, false≢true}
use Rattle.std.proofs.lemmas.Option.{slice_get-get_or}
use Rattle.nav_base.specs.declared.point.Point.{Point}
use Rattle.mesh_types.specs.declared.links.PolyRef.{PolyRef}
use Rattle.mesh_types.specs.declared.mesh.Mesh.{Mesh}
use Rattle.mesh_types.specs.declared.storeys.FloorRow.{FloorRow}
use Rattle.mesh_types.specs.declared.storeys.Storey.{Storey}
use Rattle.mesh_types.specs.Places.{IsPlace, column_gap, storey_at}
use Rattle.mesh_types.specs.Rays.{IsHeldAt}
use Rattle.mesh_types.specs.Storeys.{HasFloor, IsFloorRow, IsStorey}

-- a cell of a storey
pub record HasCell (storey : Storey) : Type 0 where
  pub x : ℕ
  pub z : ℕ
  pub floor : ℕ
  pub has : HasFloor storey x z floor

some_row : FloorRow
some_row = record { x0 = 0; floors = [] }

-- the first of the first row
has_cell : (storey : Storey) → IsStorey storey → HasCell storey
has_cell storey rules =
    let row : FloorRow = get_or storey.rows 0 some_row in
    let own : IsFloorRow row = rules.rows 0 some_row rules.some in
    let no_row : 0 ≡ storey.z0 - storey.z0 = omega arith in
    let no_column : 0 ≡ row.x0 - row.x0 = omega arith in
    record {
      x = row.x0;
      z = storey.z0;
      floor = get_or row.floors 0 0;
      has = record {
        row = row;
        above = omega arith;
        is_row = subst (λ (n : ℕ). slice_get storey.rows n ≡ Some row) no_row (slice_get-get_or storey.rows 0 some_row rules.some);
        right = omega arith;
        is_cell = subst (λ (n : ℕ). slice_get row.floors n ≡ Some (get_or row.floors 0 0)) no_column (slice_get-get_or row.floors 0 0 own.some);
      };
    }

-- a number that is not below another
not_less : (a b : ℕ) → (a < b → ⊥) → b ≤ a
not_less a b none = elim (cases_lt a b) [ inl less ↦ absurd (none less) | inr no_less ↦ no_less ]

module _ (mesh : Mesh) (at : PolyRef) (p : Point) (held : IsHeldAt mesh p at)
    (none : (y : ℕ) → IsPlace mesh (record { polygon = at; point = p; y = y }) → ⊥) where
  -- where no height makes a place, the polygon's storey has no cell, however near
  no_cell : (storey : Storey) → storey_at mesh at ≡ Some storey → (n x z floor : ℕ) → HasFloor storey x z floor → column_gap x z p ≤ n → ⊥
  no_cell storey home zero x z floor has near =
      none floor (record {
        held = held;
        storey = storey;
        home = home;
        aside = column_gap x z p;
        floor = record { x = x; z = z; has = has; gap = refl; nearest = λ x' z' y' other. omega (arith, near) };
      })
  no_cell storey home (suc n) x z floor has near =
      none floor (record {
        held = held;
        storey = storey;
        home = home;
        aside = column_gap x z p;
        floor = record { x = x; z = z; has = has; gap = refl; nearest = λ x' z' y' other. not_less (column_gap x' z' p) (column_gap x z p) (λ less. no_cell storey home n x' z' y' other (omega (arith, near, less))) };
      })

  -- so there it has none
  pub no_storey : (storey : Storey) → storey_at mesh at ≡ Some storey → IsStorey storey → ⊥
  no_storey storey home rules =
      let cell = has_cell storey rules in
      no_cell storey home (column_gap cell.x cell.z p) cell.x cell.z cell.floor cell.has (omega arith)

  -- and a look for it finds none
  pub none_found : (found : Option (Bor Storey)) → option_copied found ≡ storey_at mesh at → IfSome found (λ storey. IsStorey storey.now)
      → is_some found ≡ true → ⊥
  none_found None value rules some = absurd (false≢true some)
  none_found (Some storey) value rules some = no_storey storey.now (sym value) rules
