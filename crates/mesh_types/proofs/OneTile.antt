-- A column lies in the rectangle of one tile at most.
use Rattle.std.proofs.Common.{◌≡◌, ℕ, ◌+◌, ◌-◌, ◌*◌, ◌/◌, ◌%◌, ◌≤◌, min, true, pos, ◌≤ℤ◌, ap, ◌∙◌, sym, arith, inl, inr, add-mul}
use Rattle.std.proofs.Math.Nat.{mul-le-mul_right, div-add-mod}
use Rattle.std.proofs.lemmas.Bool.{cases_lt}
use Rattle.std.proofs.lemmas.Int.{ints}
use Rattle.nav_ground.specs.declared.setting.Setting.{Setting}
use Rattle.nav_ground.specs.Limits.{IsSetting}
use Rattle.nav_ground.specs.Tiling.{tiles_in_row, tile_window, is_in_window}
use Rattle.nav_ground.proofs.LayerLaws.{inside_from}

no_more : (a b : ℕ) → pos a ≤ℤ pos b → a ≤ b
no_more a b h = omega (arith, ints)

-- along one axis
no_later : (edge tile a b n : ℕ) → 1 ≤ edge → 1 ≤ tile → pos (a * tile) ≤ℤ pos n → pos n ≤ℤ pos (min edge (b * tile + tile) - 1) → a ≤ b
no_later edge tile a b n some wide low high =
    let low' = no_more (a * tile) n low in
    let high' = no_more n (min edge (b * tile + tile) - 1) high in
    elim (cases_lt b a) [
      | inl less ↦
          let up : (b + 1) * tile ≤ a * tile = mul-le-mul_right tile (omega (arith, less)) in
          let next : (b + 1) * tile ≡ b * tile + tile = add-mul b 1 tile ∙ ap (λ k. b * tile + k) (omega arith) in
          absurd (omega (arith, up, next, low', high'))
      | inr more ↦ more
    ]

pub one_tile : (setting : Setting) (a b x z : ℕ) → IsSetting setting → is_in_window (tile_window setting a) x z ≡ true
    → is_in_window (tile_window setting b) x z ≡ true → a ≡ b
one_tile setting a b x z limits in_a in_b =
    let tile : ℕ = setting.tile in
    let columns : ℕ = tiles_in_row setting in
    let some : 1 ≤ tile = omega (arith, limits.tile_least) in
    let ra = inside_from (tile_window setting a) x z in_a in
    let rb = inside_from (tile_window setting b) x z in_b in
    let column : a % columns ≡ b % columns = omega (
      arith,
      no_later setting.width tile (a % columns) (b % columns) x limits.wide some ra.x_least rb.x_most,
      no_later setting.width tile (b % columns) (a % columns) x limits.wide some rb.x_least ra.x_most,
    ) in
    let row : a / columns ≡ b / columns = omega (
      arith,
      no_later setting.depth tile (a / columns) (b / columns) z limits.deep some ra.z_least rb.z_most,
      no_later setting.depth tile (b / columns) (a / columns) z limits.deep some rb.z_least ra.z_most,
    ) in
    sym (div-add-mod a columns)
    ∙ ap (λ n. columns * n + a % columns) row
    ∙ ap (λ n. columns * (b / columns) + n) column
    ∙ div-add-mod b columns
