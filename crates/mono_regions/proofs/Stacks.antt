-- Regions are stacks of strips.
use Rattle.std.proofs.Common.{◌≡◌, ℕ, ◌+◌, ◌<◌, length, List, [], ◌∷◌, map, get_or, ap, ◌∙◌, sym, refl, subst, arith, zero, suc, Option, Some, None}
use Rattle.std.specs.Prelude.{All}
use Rattle.std.specs.List.{range_with_len}
use Rattle.std.specs.Option.{option_map_or}
use Rattle.std.proofs.lemmas.List.{length-map, get_or-map}
use Rattle.std.proofs.lemmas.List.Elements.{All-cons, All-nil, All-map, All-filter}
use Rattle.std.proofs.lemmas.List.FromFn.{get_or-range_with_len, length-range_with_len}
use Rattle.nav_ground.specs.declared.cell.Cell.{Cell}
use Rattle.nav_ground.specs.Cells.{IsCut}
use Rattle.mesh_types.specs.declared.region.Strip.{Strip}
use Rattle.mesh_types.specs.declared.region.Region.{Region}
use Rattle.mesh_types.specs.StripPolygons.{strip_runs}
use Rattle.mesh_types.specs.Regions.{chain_from, begins_region, regions_of, IsUpon, IsStrip, IsStack}
use Rattle.mono_regions.specs.Joining.{joined_from}
use Rattle.mono_regions.proofs.JoinLaws.{joined_back}
use Rattle.mono_regions.proofs.Upon.{strip_number, upon, strip_whole}
use Rattle.mono_regions.proofs.Following.{chain_at}
use Rattle.mono_regions.proofs.Gathered.{begins_below, region_at, regions_are}

-- the numbers of a chain are those of strips
pub chain_small : (cells : List Cell) (n s : ℕ) → s < length (strip_runs cells) → All (λ t. t < length (strip_runs cells)) (chain_from (strip_runs cells) n s)
unfolding chain_from
chain_small cells zero s there = All-cons (λ t. t < length (strip_runs cells)) s [] there (All-nil (λ t. t < length (strip_runs cells)))
chain_small cells (suc n) s there =
    All-cons (λ t. t < length (strip_runs cells)) s _ there (by_case (joined_from (strip_runs cells) s) refl (λ t small. chain_small cells n t small))
  where
    by_case : (o : Option ℕ) → joined_from (strip_runs cells) s ≡ o
        → ((t : ℕ) → t < length (strip_runs cells) → All (λ t. t < length (strip_runs cells)) (chain_from (strip_runs cells) n t))
        → All (λ t. t < length (strip_runs cells)) (option_map_or (chain_from (strip_runs cells) n) o [])
    by_case None is further = All-nil (λ t. t < length (strip_runs cells))
    by_case (Some t) is further = further t (joined_back cells s t is).0

chain_begins : (cells : List Cell) (n s d : ℕ) → get_or (chain_from (strip_runs cells) n s) 0 d ≡ s
unfolding chain_from
chain_begins cells zero s d = refl
chain_begins cells (suc n) s d = refl

pub chain_some : (cells : List Cell) (n s : ℕ) → 0 < length (chain_from (strip_runs cells) n s)
unfolding chain_from
chain_some cells zero s = omega arith
chain_some cells (suc n) s = omega arith

-- each joins the next
pub chain_next : (cells : List Cell) (n s k d : ℕ) → k + 1 < length (chain_from (strip_runs cells) n s)
    → joined_from (strip_runs cells) (get_or (chain_from (strip_runs cells) n s) k d) ≡ Some (get_or (chain_from (strip_runs cells) n s) (suc k) d)
unfolding chain_from
chain_next cells zero s k d inside = absurd (omega (arith, inside))
chain_next cells (suc n) s k d inside =
    by_case k (joined_from (strip_runs cells) s) refl (λ t j. chain_next cells n t j d) (omega (arith, inside))
  where
    by_case : (k : ℕ) → (o : Option ℕ) → joined_from (strip_runs cells) s ≡ o
        → ((t j : ℕ) → j + 1 < length (chain_from (strip_runs cells) n t)
        → joined_from (strip_runs cells) (get_or (chain_from (strip_runs cells) n t) j d) ≡ Some (get_or (chain_from (strip_runs cells) n t) (suc j) d))
        → k < length (option_map_or (chain_from (strip_runs cells) n) o [])
        → joined_from (strip_runs cells) (get_or (s ∷ option_map_or (chain_from (strip_runs cells) n) o []) k d)
        ≡ Some (get_or (option_map_or (chain_from (strip_runs cells) n) o []) k d)
    by_case k None is further inside' = absurd (omega (arith, inside'))
    by_case zero (Some t) is further inside' = is ∙ ap (λ (m : ℕ). Some m) (sym (chain_begins cells n t d))
    by_case (suc j) (Some t) is further inside' = further t j (omega (arith, inside'))

stack_at : (cells : List Cell) → IsCut cells → (s : ℕ) → s < length (strip_runs cells) → IsStack (region_at cells s)
stack_at cells cut s there = record {
  some = omega (arith, many, chain_some cells (length (strip_runs cells)) s);
  strips = All-map IsStrip (strip_number cells) chain (λ k d inside. strip_whole cells cut.rules (get_or chain k d) (small k d inside));
  upon = λ k d inside.
      let inside' : k + 1 < length chain = omega (arith, inside, many) in
      let joined = joined_back cells (get_or chain k 0) (get_or chain (k + 1) 0)
      (chain_next cells (length (strip_runs cells)) s k 0 inside' ∙ ap (λ (n : ℕ). Some (get_or chain n 0)) {x = suc k} {y = k + 1} (omega arith)) in
      let P : Strip → Type 0 = λ a. IsUpon a (get_or (map (strip_number cells) chain) (k + 1) d) in
      let Q : Strip → Type 0 = λ b. IsUpon (strip_number cells (get_or chain k 0)) b in
      subst P (sym (get_or-map (strip_number cells) chain k 0 d (omega (arith, inside'))))
      (subst Q (sym (get_or-map (strip_number cells) chain (k + 1) 0 d inside'))
      (upon cells cut (get_or chain k 0) (get_or chain (k + 1) 0) (small k 0 (omega (arith, inside'))) (small (k + 1) 0 inside') joined.1));
}
  where
    chain : List ℕ
    chain = chain_at cells s

    small : (k d : ℕ) → k < length chain → get_or chain k d < length (strip_runs cells)
    small k d inside = chain_small cells (length (strip_runs cells)) s there k d inside

    many : length (map (strip_number cells) chain) ≡ length chain
    many = length-map chain (strip_number cells)

-- the strips at which regions begin are strips
pub begins_small : (cells : List Cell) → All (λ s. s < length (strip_runs cells)) (begins_below cells (length (strip_runs cells)))
begins_small cells =
    All-filter (begins_region (strip_runs cells)) (λ s. s < length (strip_runs cells)) (range_with_len 0 (length (strip_runs cells)))
    (λ k d there.
    let there' : k < length (strip_runs cells) = omega (arith, there, length-range_with_len 0 (length (strip_runs cells))) in
    omega (arith, get_or-range_with_len 0 (length (strip_runs cells)) k d there', there'))

pub are_stacks : (cells : List Cell) → IsCut cells → All IsStack (regions_of cells).regions
are_stacks cells cut =
    let starts : List ℕ = begins_below cells (length (strip_runs cells)) in
    let P : List Region → Type 0 = λ regions. All IsStack regions in
    subst P (sym (regions_are cells)) (All-map IsStack (region_at cells) starts (λ k d inside. stack_at cells cut (get_or starts k d) (begins_small cells k d inside)))
