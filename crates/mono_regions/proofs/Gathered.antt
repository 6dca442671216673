-- The regions that begin at the strips so far.
use Rattle.std.proofs.Common.{◌≡◌, ℕ, ◌+◌, ◌≤◌, true, false, length, List, [], ◌∷◌, ◌++◌, map, filter, ap, ◌∙◌, sym, arith}
use Rattle.std.specs.List.{range_with_len}
use Rattle.std.proofs.lemmas.List.{map-append}
use Rattle.nav_ground.specs.declared.cell.Cell.{Cell}
use Rattle.mesh_types.specs.declared.region.Region.{Region}
use Rattle.mesh_types.specs.declared.region.Regions.{Regions}
use Rattle.mesh_types.specs.StripPolygons.{strip_runs}
use Rattle.mesh_types.specs.Regions.{chain_from, begins_region, region_chains, region_of, regions_of}
use Rattle.mono_regions.proofs.Found.{passes_next, fails_next}
use Rattle.mono_regions.proofs.RunLaws.{map-map}
use Rattle.mono_regions.proofs.Following.{chain_at}

-- the strips at which regions begin, among the first so many
abbrev pub begins_below : List Cell → ℕ → List ℕ
begins_below cells n = filter (begins_region (strip_runs cells)) (range_with_len 0 n)

-- the region that begins at a strip
abbrev pub region_at : List Cell → ℕ → Region
region_at cells s = region_of (strip_runs cells) (chain_at cells s)

pub one_region : (cells : List Cell) (n : ℕ) (made made' : List Region) (region : Region) → begins_region (strip_runs cells) n ≡ true
    → made' ≡ made ++ region ∷ [] → region ≡ region_at cells n → made ≡ map (region_at cells) (begins_below cells n)
    → made' ≡ map (region_at cells) (begins_below cells (n + 1))
one_region cells n made made' region begins pushed is before =
    pushed
    ∙ ap (λ (x : Region). made ++ x ∷ []) is
    ∙ ap (λ (xs : List Region). xs ++ region_at cells n ∷ []) before
    ∙ sym (map-append (region_at cells) (begins_below cells n) (n ∷ []))
    ∙ ap (map (region_at cells)) (sym (passes_next (begins_region (strip_runs cells)) n begins))

pub no_region : (cells : List Cell) (n : ℕ) (made : List Region) → begins_region (strip_runs cells) n ≡ false
    → made ≡ map (region_at cells) (begins_below cells n) → made ≡ map (region_at cells) (begins_below cells (n + 1))
no_region cells n made begins before = before ∙ ap (map (region_at cells)) (sym (fails_next (begins_region (strip_runs cells)) n begins))

-- all of them are the regions of the cells
pub regions_are : (cells : List Cell) → (regions_of cells).regions ≡ map (region_at cells) (begins_below cells (length (strip_runs cells)))
unfolding regions_of region_chains
regions_are cells =
    map-map (region_of (strip_runs cells)) (chain_from (strip_runs cells) (length (strip_runs cells))) (begins_below cells (length (strip_runs cells)))

pub all_regions : (cells : List Cell) (n : ℕ) (made : List Region) (regions : Regions) → n ≤ length (strip_runs cells) → length (strip_runs cells) ≤ n
    → regions.regions ≡ made → made ≡ map (region_at cells) (begins_below cells n) → regions ≡ regions_of cells
unfolding regions_of
all_regions cells n made regions most least is whole =
    ap (λ (rs : List Region). record { regions = rs })
    (is ∙ whole ∙ ap (λ k. map (region_at cells) (begins_below cells k)) (omega (arith, most, least)) ∙ sym (regions_are cells))
