-- Sums of spots: they rise, and the spots of a tile stand between the sums before it and with it.
use Rattle.std.proofs.Common.{◌≡◌, ℕ, zero, suc, ◌+◌, ◌-◌, ◌≤◌, ◌<◌, inl, inr, true, List, [], ◌∷◌, ◌++◌, length, get_or, take, refl, sym, ap, ◌∙◌, arith}
use Rattle.std.specs.Prelude.{None, nat_le, slice_get}
use Rattle.std.specs.List.{AllWithin}
use Rattle.std.specs.List.Sorted.{IsPartitionedBy}
use Rattle.std.proofs.lemmas.Bool.{cases_lt, le-leb, leb-true}
use Rattle.std.proofs.lemmas.List.{get_or_append_left, take_all, take-take}
use Rattle.std.proofs.lemmas.List.Sums.{sum_by-take-le}
use Rattle.std.proofs.lemmas.Option.{slice_get_past}
use Rattle.std.proofs.Math.Seq.{get_or-append_seam}
use Rattle.mesh_types.specs.declared.mesh.Mesh.{Mesh}
use Rattle.mesh_types.specs.declared.mesh.TileMesh.{TileMesh}
use Rattle.random_place.specs.declared.sums.SpotSums.{SpotSums}
use Rattle.random_place.specs.Spots.{open_cells_in, spot_count, spots_of, tile_spots}
use Rattle.random_place.specs.Sums.{AreSpotSums, IsRising, sum_of_first}
use Rattle.random_place.proofs.CountLaws.{length-spots_of, length-tile_spots}
use Rattle.random_place.proofs.Numbered.{number_in}
use Rattle.random_place.proofs.SpotLaws.{all_tiles}

-- ---- one sum more

pub sums_next : (tiles : List TileMesh) (areas : ℕ) (ends after : List ℕ) (i count : ℕ) → length ends ≡ i → after ≡ ends ++ count ∷ []
    → ((k d : ℕ) → k < i → get_or ends k d ≡ spot_count areas (take (k + 1) tiles)) → count ≡ spot_count areas (take (i + 1) tiles)
    → (k d : ℕ) → k < i + 1 → get_or after k d ≡ spot_count areas (take (k + 1) tiles)
sums_next tiles areas ends after i count many pushed each next k d there =
    elim (cases_lt k i) [
      | inl less ↦
          ap (λ (xs : List ℕ). get_or xs k d) pushed ∙ get_or_append_left ends (count ∷ []) d k (omega (arith, many, less)) ∙ each k d less
      | inr least ↦
          let last : k ≡ i = omega (arith, least, there) in
          ap (λ (xs : List ℕ). get_or xs k d) pushed
          ∙ ap (λ m. get_or (ends ++ count ∷ []) m d) (last ∙ sym many)
          ∙ get_or-append_seam ends count [] d
          ∙ next
          ∙ ap (λ m. spot_count areas (take (m + 1) tiles)) (sym last)
    ]

-- ---- sums of a mesh

module _ (mesh : Mesh) (sums : SpotSums) (are : AreSpotSums mesh sums) where
  pub first_tiles : (i : ℕ) → i ≤ length mesh.tiles → sum_of_first sums.ends i ≡ spot_count sums.areas (take i mesh.tiles)
  first_tiles zero within = refl
  first_tiles (suc i) within =
      let next : i + 1 ≡ suc i = omega arith in
      are.ends i 0 (omega (arith, within)) ∙ ap (λ m. spot_count sums.areas (take m mesh.tiles)) next

  -- all of them: how many spots there are
  pub all_spots : sum_of_first sums.ends (length sums.ends) ≡ length (spots_of mesh sums.areas)
  all_spots =
      first_tiles (length sums.ends) (omega (arith, are.each))
      ∙ ap (spot_count sums.areas) (take_all (length sums.ends) mesh.tiles (omega (arith, are.each)))
      ∙ sym (length-spots_of mesh sums.areas)

  pub few_spots : sum_of_first sums.ends (length sums.ends) < 5192296858534827628530496329220096
  few_spots = by (length sums.ends) (omega arith)
    where
      by : (n : ℕ) → n ≤ length sums.ends → sum_of_first sums.ends n < 5192296858534827628530496329220096
      by zero within = omega arith
      by (suc n) within = are.few n 0 (omega (arith, within))

  -- they rise
  pub rise : IsRising sums.ends
  rise i j d up there =
      let short = sum_by-take-le (λ (tile : TileMesh). open_cells_in sums.areas tile.storeys.list) (take (j + 1) mesh.tiles) (i + 1) in
      let shorter = ap (spot_count sums.areas) (take-take (i + 1) (j + 1) mesh.tiles (omega (arith, up))) in
      omega (arith, short, shorter, are.ends i d (omega (arith, up, there, are.each)), are.ends j d (omega (arith, there, are.each)))

  -- the spot with a number between the sums before a tile and with it is one of the tile's
  pub spot_in : (tile : ℕ) (here : TileMesh) (number : ℕ) → tile < length mesh.tiles → here ≡ get_or mesh.tiles tile here
      → sum_of_first sums.ends tile ≤ number → number < sum_of_first sums.ends (suc tile)
      → slice_get (tile_spots sums.areas tile here.storeys.list) (number - sum_of_first sums.ends tile) ≡ slice_get (spots_of mesh sums.areas) number
  spot_in tile here number there is least less =
      let g = λ (one : TileMesh). open_cells_in sums.areas one.storeys.list in
      let before = first_tiles tile (omega (arith, there)) in
      let with_it = first_tiles (suc tile) (omega (arith, there)) in
      ap (λ n. slice_get (tile_spots sums.areas n here.storeys.list) (number - sum_of_first sums.ends tile)) (omega arith)
      ∙ ap (λ n. slice_get (tile_spots sums.areas (0 + tile) here.storeys.list) (number - n)) before
      ∙ sym (number_in (λ (one : ℕ × TileMesh). tile_spots sums.areas one.0 one.1.storeys.list) g (λ n one. length-tile_spots sums.areas n one.storeys.list)
      tile 0 mesh.tiles here number there is (omega (arith, before, least)) (omega (arith, with_it, less)))
      ∙ ap (λ all. slice_get all number) (all_tiles mesh sums.areas)

  -- there is none with a number that is no less than all sums
  pub none_past : (number : ℕ) → sum_of_first sums.ends (length sums.ends) ≤ number → slice_get (spots_of mesh sums.areas) number ≡ None
  none_past number past = slice_get_past (spots_of mesh sums.areas) number (omega (arith, all_spots, past))

-- ---- the tile with a number

pub parted : (ends : List ℕ) (number : ℕ) → IsRising ends → IsPartitionedBy (λ end. nat_le end number) ends
parted ends number rising = λ i j d up there is. by (rising i j d up there) is
  where
    by : {a b : ℕ} → a ≤ b → nat_le b number ≡ true → nat_le a number ≡ true
    by {a} {b} less is = le-leb a number (omega (arith, less, leb-true b number is))

pub first_up_to : (ends : List ℕ) (number tile : ℕ) → AllWithin (λ end. nat_le end number ≡ true) ends 0 tile → (n : ℕ) → n ≤ tile
    → sum_of_first ends n ≤ number
first_up_to ends number tile up_to zero within = omega arith
first_up_to ends number tile up_to (suc n) within = leb-true _ _ (up_to n 0 (omega arith) (omega (arith, within)))
