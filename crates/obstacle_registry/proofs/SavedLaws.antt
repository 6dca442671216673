-- What is saved of a registry keeps the rules of what is saved.
use Rattle.std.proofs.Common.{◌≡◌, ℕ, ℤ, ◌≤◌, ◌<◌, length, get_or, refl, sym, ap, ◌∙◌, arith}
use Rattle.std.proofs.lemmas.List.{get_or-map, length-map}
use Rattle.nav_ground.specs.declared.prism.PrismBase.{PrismBase}
use Rattle.nav_ground.specs.declared.shape.Shape.{Shape}
use Rattle.nav_ground.specs.declared.shape.Shape.TheVariants.{Block, Cylinder, AreaBlock, AreaCylinder, Prism, Disc}
use Rattle.nav_ground.proofs.AliveLaws.{alive_after-rising}
use Rattle.registry_format.specs.Saved.{FitsParts, KeepsRules}
use Rattle.obstacle_registry.specs.Registry.{IsRegistry, RegistryState, alive_now}
use Rattle.obstacle_registry.specs.Saving.{place_of, row_saved, saved_from}
use Rattle.obstacle_registry.proofs.Again.{numbers_some}
use Rattle.obstacle_registry.proofs.Placing.{IsRowAt, no_row, row_at_place}

-- the parts of blocks and cylinders have no sign
pub plain_fits : (shape : Shape) → ((base : PrismBase) (area y0 y1 : ℕ) → shape ≡ Prism base area y0 y1 → ⊥)
    → ((x z : ℤ) (r area y0 y1 : ℕ) → shape ≡ Disc x z r area y0 y1 → ⊥) → FitsParts shape
plain_fits (Block x0 x1 y0 y1 z0 z1) no_prism no_disc = tt
plain_fits (AreaBlock area x0 x1 y0 y1 z0 z1) no_prism no_disc = tt
plain_fits (Cylinder cx cz r y0 y1) no_prism no_disc = tt
plain_fits (AreaCylinder area cx cz r y0 y1) no_prism no_disc = tt
plain_fits (Prism base area y0 y1) no_prism no_disc = absurd (no_prism base area y0 y1 refl)
plain_fits (Disc x z r area y0 y1) no_prism no_disc = absurd (no_disc x z r area y0 y1 refl)

-- the row of an obstacle that is alive
pub alive_at : (state : RegistryState) (j : ℕ) → IsRegistry state → j < length (alive_now state.book)
    → IsRowAt state.rows (place_of state.rows (get_or (alive_now state.book) j 0)) (get_or (alive_now state.book) j 0)
alive_at state j is within =
    row_at_place (alive_now state.book) state.rows j is.holds.numbers (alive_after-rising state.book.history (length state.book.history))
    (numbers_some state.book.history (length state.book.history)) within

pub keeps_rules : (state : RegistryState) → IsRegistry state → length (alive_now state.book) ≤ state.book.ground.setting.limit → KeepsRules (saved_from state)
keeps_rules state is few = record {
  few = omega (arith, is.few, length-map state.rows row_saved);
  rising = λ i j d before within.
      let inside : j < length state.rows = omega (arith, within, length-map state.rows row_saved) in
      let one = ap (λ row. row.id) (get_or-map row_saved state.rows i no_row d (omega (arith, before, inside))) in
      let other = ap (λ row. row.id) (get_or-map row_saved state.rows j no_row d inside) in
      omega (arith, one, other, is.ids.rising i j no_row before inside);
  each = λ k d within.
      let inside : k < length state.rows = omega (arith, within, length-map state.rows row_saved) in
      let at = get_or-map row_saved state.rows k no_row d inside in
      let given = is.ids.given k no_row inside in
      rw at (record { from_one = given.0; given = given.1; limits = (is.holds.each k no_row inside).limits });
  there = λ k d within.
      let inside : k < length (alive_now state.book) = omega (arith, within, length-map (alive_now state.book) (place_of state.rows)) in
      let at = get_or-map (place_of state.rows) (alive_now state.book) k 0 d inside in
      omega (arith, at, (alive_at state k is inside).there, length-map state.rows row_saved);
  once = λ i j d before within same.
      let inside : j < length (alive_now state.book) = omega (arith, within, length-map (alive_now state.book) (place_of state.rows)) in
      let first : i < length (alive_now state.book) = omega (arith, before, inside) in
      let place = get_or-map (place_of state.rows) (alive_now state.book) i 0 d first in
      let other = get_or-map (place_of state.rows) (alive_now state.book) j 0 d inside in
      let one = (alive_at state i is first).its no_row in
      let two = (alive_at state j is inside).its no_row in
      let row = ap (λ (k : ℕ). (get_or state.rows k no_row).number) (sym place ∙ same ∙ other) in
      omega (arith, one, two, row, alive_after-rising state.book.history (length state.book.history) i j 0 before inside);
  few_on = omega (arith, few, length-map (alive_now state.book) (place_of state.rows));
}
