-- A tile that a shape touches stands in a row and in a column of tiles that the columns reach within which the shape can change what is free.
use Rattle.std.proofs.Common.{◌≡◌, ℕ, ℤ, pos, ◌+◌, ◌*◌, ◌-◌, ◌/◌, ◌%◌, ◌<◌, ◌≤◌, true, ⊎_elim, arith}
use Rattle.std.specs.Prelude.{◌≤ℤ◌, int_le, min}
use Rattle.std.proofs.Math.Nat.{div-lt_iff_lt-mul}
use Rattle.std.proofs.lemmas.Bool.{and_parts, cases_lt}
use Rattle.std.proofs.lemmas.Int.{ints}
use Rattle.nav_ground.specs.declared.setting.Setting.{Setting}
use Rattle.nav_ground.specs.declared.shape.Shape.{Shape}
use Rattle.nav_ground.specs.Limits.{IsSetting}
use Rattle.nav_ground.specs.Tiling.{tiles_in_row, tile_window}
use Rattle.nav_ground.specs.Touching.{are_overlapping, touch_window, is_touching}

no_more : (a b : ℤ) → int_le a b ≡ true → a ≤ℤ b
no_more a b h = grind (arith, ints)

-- along one axis, a range of columns and the tile at a place can meet
pub record IsMet (from to : ℤ) (place tile : ℕ) : Type 0 where
  pub last : ℕ
  pub begins : pos (place * tile) ≤ℤ to
  pub ends : from ≤ℤ pos last
  pub within : last < (place + 1) * tile

met : (from to : ℤ) (place tile edge : ℕ) → 1 ≤ tile
    → are_overlapping from to (pos (place * tile)) (pos (min edge (place * tile + tile) - 1)) ≡ true → IsMet from to place tile
met from to place tile edge some is =
    let parts = and_parts (int_le from (pos (min edge (place * tile + tile) - 1))) (int_le (pos (place * tile)) to) is in
    record {
      last = min edge (place * tile + tile) - 1;
      begins = no_more (pos (place * tile)) to parts.1;
      ends = no_more from (pos (min edge (place * tile + tile) - 1)) parts.0;
      within = omega (arith, some);
    }

pub met_across : (setting : Setting) (tile : ℕ) (shape : Shape) → IsSetting setting → is_touching setting tile shape ≡ true
    → IsMet (touch_window setting shape).x0 (touch_window setting shape).x1 (tile % tiles_in_row setting) setting.tile
met_across setting tile shape limits is =
    let window = touch_window setting shape in
    let square = tile_window setting tile in
    met window.x0 window.x1 (tile % tiles_in_row setting) setting.tile setting.width (omega (arith, limits.tile_least))
    (and_parts (are_overlapping window.x0 window.x1 square.x0 square.x1) (are_overlapping window.z0 window.z1 square.z0 square.z1) is).0

pub met_along : (setting : Setting) (tile : ℕ) (shape : Shape) → IsSetting setting → is_touching setting tile shape ≡ true
    → IsMet (touch_window setting shape).z0 (touch_window setting shape).z1 (tile / tiles_in_row setting) setting.tile
met_along setting tile shape limits is =
    let window = touch_window setting shape in
    let square = tile_window setting tile in
    met window.z0 window.z1 (tile / tiles_in_row setting) setting.tile setting.depth (omega (arith, limits.tile_least))
    (and_parts (are_overlapping window.x0 window.x1 square.x0 square.x1) (are_overlapping window.z0 window.z1 square.z0 square.z1) is).1

-- the first and the last tile that a range of columns meets
pub first_below : (n tile place : ℕ) → 1 ≤ tile → n < (place + 1) * tile → n / tile ≤ place
first_below n tile place some below = let less : n / tile < place + 1 = (div-lt_iff_lt-mul some).1 below in omega (arith, less)

pub last_above : (n tile place : ℕ) → 1 ≤ tile → place * tile ≤ n → place ≤ n / tile
last_above n tile place some above = ⊎_elim
    (λ less. let past : n < place * tile = (div-lt_iff_lt-mul some).0 less in absurd (omega (arith, past, above)))
    (λ within. within)
    (cases_lt (n / tile) place)
