-- What was found, and a floor that is looked at: the nearer of the two.
use Rattle.std.proofs.Common.{◌≡◌, ℕ, ◌≤◌, ◌<◌, ◌⊎◌, inl, inr, refl, subst, ap, ◌∙◌, sym, true, false, arith}
use Rattle.std.specs.Prelude.{Bool, ◌||◌, ◌&&◌, ◌==◌, nat_lt, if◌then◌else◌, Option, Some, None}
use Rattle.std.proofs.lemmas.Bool.{true≢false}
use Rattle.std.proofs.lemmas.Option.{same_Some}
use Rattle.mesh_types.specs.declared.storeys.FloorRow.{FloorRow}
use Rattle.mesh_place.specs.declared.floors.Aim.{Aim}
use Rattle.mesh_place.specs.declared.floors.NearFloor.{NearFloor}
use Rattle.mesh_place.specs.Columns.{span_under}
use Rattle.mesh_place.specs.Floors.{cell_floor, column_in, height_off, is_nearer, nearer_floor, nearer_of_row, IsNoFarther}

-- what was found is no farther than a floor; nothing is none
abbrev pub NoFarther : ℕ → Option NearFloor → ℕ → ℕ → Type 0
NoFarther y None aside floor = ⊥
NoFarther y (Some found) aside floor = IsNoFarther y found aside floor

closer : (a b o q : ℕ) → (nat_lt a b || ((a == b) && nat_lt o q)) ≡ true → (a < b) ⊎ ((a ≡ b) × (o < q))
closer a b o q is = grind arith

not_closer : (a b o q : ℕ) → (nat_lt a b || ((a == b) && nat_lt o q)) ≡ false → (b < a) ⊎ ((b ≡ a) × (q ≤ o))
not_closer a b o q is = grind arith

chain : (a b g o q f : ℕ) → (a < b) ⊎ ((a ≡ b) × (o < q)) → (b < g) ⊎ ((b ≡ g) × (q ≤ f)) → (a < g) ⊎ ((a ≡ g) × (o ≤ f))
chain a b g o q f (inl less) (inl more) = inl (omega (arith, less, more))
chain a b g o q f (inl less) (inr same) = inl (omega (arith, less, same.0))
chain a b g o q f (inr same) (inl more) = inl (omega (arith, same.0, more))
chain a b g o q f (inr same) (inr level) = inr (omega (arith, same.0, level.0), omega (arith, same.1, level.1))

-- what is no farther than a floor stays so
pub kept : (y : ℕ) (best : Option NearFloor) (floor : NearFloor) (aside f : ℕ) → NoFarther y best aside f
    → NoFarther y (nearer_floor y best floor) aside f
kept y best floor aside f close = by (is_nearer y floor best) refl
  where
    beats : (best : Option NearFloor) → is_nearer y floor best ≡ true → NoFarther y best aside f → IsNoFarther y floor aside f
    beats None is close = absurd close
    beats (Some found) is close =
        chain floor.aside found.aside aside (height_off y floor.y) (height_off y found.y) (height_off y f)
        (closer floor.aside found.aside (height_off y floor.y) (height_off y found.y) is) close

    by : (b : Bool) → is_nearer y floor best ≡ b → NoFarther y (if b then Some floor else best) aside f
    by true is = beats best is close
    by false is = close

-- the floor that is looked at is no nearer than what is found then
pub own : (y : ℕ) (best : Option NearFloor) (floor : NearFloor) → NoFarther y (nearer_floor y best floor) floor.aside floor.y
own y best floor = by (is_nearer y floor best) refl
  where
    stays : (best : Option NearFloor) → is_nearer y floor best ≡ false → NoFarther y best floor.aside floor.y
    stays None is = absurd (true≢false is)
    stays (Some found) is = not_closer floor.aside found.aside (height_off y floor.y) (height_off y found.y) is

    by : (b : Bool) → is_nearer y floor best ≡ b → NoFarther y (if b then Some floor else best) floor.aside floor.y
    by true is = inr (refl, omega arith)
    by false is = stays best is

-- what is found then was found before, or is that floor
pub one_of : (P : NearFloor → Type 0) (y : ℕ) (best : Option NearFloor) (floor : NearFloor) → ((f : NearFloor) → best ≡ Some f → P f) → P floor
    → (f : NearFloor) → nearer_floor y best floor ≡ Some f → P f
one_of P y best floor before here = by (is_nearer y floor best)
  where
    by : (b : Bool) (f : NearFloor) → (if b then Some floor else best) ≡ Some f → P f
    by true f is = subst P (same_Some floor f is) here
    by false f is = before f is

-- a floor that was looked at already changes nothing
pub again : (y : ℕ) (best : Option NearFloor) (floor : NearFloor) → nearer_floor y (nearer_floor y best floor) floor ≡ nearer_floor y best floor
again y best floor = by (is_nearer y floor best) refl
  where
    either : (b : Bool) → (if b then Some floor else Some floor) ≡ Some floor
    either true = refl
    either false = refl

    by : (b : Bool) → is_nearer y floor best ≡ b → nearer_floor y (if b then Some floor else best) floor ≡ (if b then Some floor else best)
    by true is = either (is_nearer y floor (Some floor))
    by false is = ap (λ (b : Bool). if b then Some floor else best) is

-- where both columns nearest to a point are one, the floor of that one decides
pub one_column : (row : FloorRow) (z : ℕ) (aim : Aim) (best : Option NearFloor) (left right : ℕ) → left ≡ column_in row (span_under aim.p.x).first
    → right ≡ column_in row (span_under aim.p.x).last → left ≡ right
    → (found : Option NearFloor) → found ≡ nearer_floor aim.y best (cell_floor row left z aim.p) → found ≡ nearer_of_row row z aim best
one_column row z aim best left right first last same found is =
    is ∙ sym (again aim.y best (cell_floor row left z aim.p))
    ∙ ap (λ (x : ℕ). nearer_floor aim.y (nearer_floor aim.y best (cell_floor row left z aim.p)) (cell_floor row x z aim.p)) (same ∙ last)
    ∙ ap (λ (x : ℕ). nearer_floor aim.y (nearer_floor aim.y best (cell_floor row x z aim.p)) (cell_floor row (column_in row (span_under aim.p.x).last) z aim.p)) first
