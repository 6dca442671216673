-- Pages of what is known, block by block.
use Rattle.std.proofs.Common.{◌≡◌, ◌≢◌, ℕ, zero, suc, ◌-◌, ◌<◌, ◌≤◌, List, [], ◌∷◌, ◌++◌, length, take, get_or, refl, sym, ap, ◌∙◌, ◌⊎◌, inl, inr, arith}
use Rattle.std.specs.Prelude.{slice_get, slice_set, slice_index_or, Option, replicate}
use Rattle.std.specs.Option.{option_map_or}
use Rattle.std.specs.declared.alloc.Global.{Global}
use Rattle.std.specs.declared.vec.Vec.{Vec}
use Rattle.std.proofs.lemmas.Bool.{cases_eq}
use Rattle.std.proofs.lemmas.List.{get_or-set_same, get_or-set_other, take_all}
use Rattle.graph_search.specs.declared.graph.Vertex.{Vertex}
use Rattle.graph_search.specs.declared.visits.StampedVisit.{StampedVisit}
use Rattle.graph_search.specs.Visited.{blank, written_at, KnowsAlike, IsWrittenIn, IsWrittenAt}

abbrev Page : Type 0
Page = Vec StampedVisit Global

-- what was written at a place of a page
abbrev on : List StampedVisit → ℕ → StampedVisit
on page place = slice_index_or page place blank

-- what was written on a page, if there is one
abbrev page_at : Option Page → ℕ → StampedVisit
page_at page place = option_map_or (λ (p : Page). on p.items place) page blank

-- an empty page more knows of no more vertices
pub alike-push : (pages : List Page) (page : Page) → page.items ≡ [] → KnowsAlike pages (pages ++ page ∷ [])
alike-push pages page empty = record { same = λ v. by_block pages v.block v.place }
  where
    by_block : (ps : List Page) (k place : ℕ) → page_at (slice_get (ps ++ page ∷ []) k) place ≡ page_at (slice_get ps k) place
    by_block [] zero place = ap (λ (xs : List StampedVisit). on xs place) empty
    by_block [] (suc k) place = refl
    by_block (p ∷ ps) zero place = refl
    by_block (p ∷ ps) (suc k) place = by_block ps k place

pub alike-none : (pages : List Page) → KnowsAlike pages pages
alike-none pages = record { same = λ v. refl }

pub alike-then : (xs ys zs : List Page) → KnowsAlike xs ys → KnowsAlike ys zs → KnowsAlike xs zs
alike-then xs ys zs first next = record { same = λ v. next.same v ∙ first.same v }

-- a page filled up with what is unseen knows the same
padded : (xs : List StampedVisit) (n k : ℕ) → on (xs ++ replicate n blank) k ≡ on xs k
padded [] zero k = refl
padded [] (suc n) zero = refl
padded [] (suc n) (suc k) = padded [] n k
padded (x ∷ xs) n zero = refl
padded (x ∷ xs) n (suc k) = padded xs n k

pub written-padded : (xs ys zs : List StampedVisit) (n place : ℕ) (visit : StampedVisit) → length xs ≤ n → ys ≡ take n xs ++ replicate (n - length xs) blank
    → place < length ys → zs ≡ slice_set ys place visit → IsWrittenAt xs place visit zs
written-padded xs ys zs n place visit short is there set' = record {
  here = ap (λ (vs : List StampedVisit). on vs place) set' ∙ get_or-set_same ys place visit blank there;
  others = λ k differ.
      ap (λ (vs : List StampedVisit). on vs k) set' ∙ get_or-set_other ys place k visit blank differ
      ∙ ap (λ (vs : List StampedVisit). on vs k) (is ∙ ap (λ (vs : List StampedVisit). vs ++ replicate (n - length xs) blank) (take_all n xs short))
      ∙ padded xs (n - length xs) k;
}

pub written-page : (xs zs : List StampedVisit) (place : ℕ) (visit : StampedVisit) → place < length xs → zs ≡ slice_set xs place visit → IsWrittenAt xs place visit zs
written-page xs zs place visit there set' = record {
  here = ap (λ (vs : List StampedVisit). on vs place) set' ∙ get_or-set_same xs place visit blank there;
  others = λ k differ. ap (λ (vs : List StampedVisit). on vs k) set' ∙ get_or-set_other xs place k visit blank differ;
}

-- one page is written
pub written-pages : (old pages new : List Page) (page page' : Page) (v : Vertex) (visit : StampedVisit) → KnowsAlike old pages → v.block < length pages
    → page ≡ get_or pages v.block page → IsWrittenAt page.items v.place visit page'.items → new ≡ slice_set pages v.block page'
    → IsWrittenIn old v visit new
written-pages old pages new page page' v visit alike there is written set' = record { here = here'; others = others' }
  where
    at_block : (k : ℕ) (ps : List Page) (p : Page) → k < length ps → p ≡ get_or ps k p → (place : ℕ) → page_at (slice_get ps k) place ≡ on p.items place
    at_block k [] p below here place = absurd (omega (arith, below))
    at_block zero (q ∷ ps) p below here place = ap (λ (r : Page). on r.items place) (sym here)
    at_block (suc k) (q ∷ ps) p below here place = at_block k ps p (omega (arith, below)) here place

    set_here : (k : ℕ) (ps : List Page) (p : Page) → k < length ps → (place : ℕ) → page_at (slice_get (slice_set ps k p) k) place ≡ on p.items place
    set_here k [] p below place = absurd (omega (arith, below))
    set_here zero (q ∷ ps) p below place = refl
    set_here (suc k) (q ∷ ps) p below place = set_here k ps p (omega (arith, below)) place

    set_other : (k j : ℕ) (ps : List Page) (p : Page) → j ≢ k → (place : ℕ) → page_at (slice_get (slice_set ps k p) j) place ≡ page_at (slice_get ps j) place
    set_other k j [] p differ place = refl
    set_other zero zero (q ∷ ps) p differ place = absurd (differ refl)
    set_other zero (suc j) (q ∷ ps) p differ place = refl
    set_other (suc k) zero (q ∷ ps) p differ place = refl
    set_other (suc k) (suc j) (q ∷ ps) p differ place = set_other k j ps p (λ same. differ (ap suc same)) place

    here' : written_at new v ≡ visit
    here' = ap (λ (ps : List Page). written_at ps v) set' ∙ set_here v.block pages page' there v.place ∙ written.here

    others' : (w : Vertex) → w ≢ v → written_at new w ≡ written_at old w
    others' w differ =
        ap (λ (ps : List Page). written_at ps w) set' ∙ by_block (cases_eq w.block v.block) ∙ alike.same w
      where
        by_block : ((w.block ≡ v.block) ⊎ (w.block ≢ v.block)) → written_at (slice_set pages v.block page') w ≡ written_at pages w
        by_block (inl same) =
            ap (λ (k : ℕ). page_at (slice_get (slice_set pages v.block page') k) w.place) same
            ∙ set_here v.block pages page' there w.place
            ∙ written.others w.place (λ places. differ (λ i. record { block = same i; place = places i }))
            ∙ sym (at_block v.block pages page there is w.place)
            ∙ ap (λ (k : ℕ). page_at (slice_get pages k) w.place) (sym same)
        by_block (inr other) = set_other v.block w.block pages page' other w.place
