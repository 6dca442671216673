-- The costs that a search goes by, area after area: they are costs, and none is less than the least of an open area.
use Rattle.std.proofs.Common.{◌≡◌, ℕ, ◌<◌, ◌≤◌, ◌+◌, min, ◌⊎◌, Bool, true, false, List, length, set, refl, sym, subst, ◌∙◌, inl, inr, arith}
use Rattle.std.proofs.lemmas.Bool.{both_ways, cases_order}
use Rattle.std.proofs.lemmas.Grind.{get_or-set_at, get_or_default_zero}
use Rattle.std.proofs.lemmas.List.{get_or-set_other, length-set}
use Rattle.std.proofs.lemmas.List.Sums.{AllPass-from_list_all, list_all-from_AllPass}
use Rattle.std.specs.Prelude.{slice_index}
use Rattle.nav_ground.specs.Limits.{IsArea, is_cost}
use Rattle.path_queries.specs.Filters.{AreCosts, is_open}
use Rattle.path_queries.specs.FilteredGraphs.{AreSearchCosts, IsLeastCost}

-- the least cost of an open area before one
pub record IsLeastBefore (areas : ℕ) (costs : List ℕ) (end least : ℕ) : Type 0 where
  pub most : least ≤ 1000
  pub below : (area : ℕ) → 1 ≤ area → area < end → is_open areas area ≡ true → least ≤ slice_index costs area
  pub greatest : (other : ℕ) → other ≤ 1000
      → ((area : ℕ) → 1 ≤ area → area < end → is_open areas area ≡ true → other ≤ slice_index costs area) → other ≤ least

-- the costs of areas before one are those of a search, and the others are as they were
pub record AreSearchBefore (areas : ℕ) (costs : List ℕ) (end : ℕ) (search : List ℕ) : Type 0 where
  pub count : length search ≡ 64
  pub of_open : (area : ℕ) → area < end → is_open areas area ≡ true → slice_index search area ≡ slice_index costs area
  pub of_closed : (area : ℕ) → area < end → is_open areas area ≡ false → slice_index search area ≡ 1000
  pub rest : (area : ℕ) → end ≤ area → slice_index search area ≡ slice_index costs area

module _ (areas : ℕ) (costs : List ℕ) where
  pub least-first : IsLeastBefore areas costs 1 1000
  least-first = record {
    most = omega arith;
    below = λ area some before passes. absurd (omega (arith, some, before));
    greatest = λ other few all. few;
  }

  pub least-open : (k least : ℕ) → 1 ≤ k → IsLeastBefore areas costs k least → is_open areas k ≡ true
      → IsLeastBefore areas costs (k + 1) (min least (slice_index costs k))
  least-open k least some is passes = record {
    most = omega (arith, is.most);
    below = λ area first before here. at area first before here (same_or area before);
    greatest = λ other few all.
        omega (
          arith,
          is.greatest other few (λ area first before here. all area first (omega (arith, before)) here),
          all k some
              (omega arith) passes,
        );
  }
    where
      same_or : (area : ℕ) → area < k + 1 → (area ≡ k) ⊎ (area < k)
      same_or area before = elim (cases_order area k) [
        | inl same ↦ inl same
        | inr (inl less) ↦ inr less
        | inr (inr more) ↦ absurd (omega (arith, before, more))
      ]

      at : (area : ℕ) → 1 ≤ area → area < k + 1 → is_open areas area ≡ true → (area ≡ k) ⊎ (area < k)
          → min least (slice_index costs k) ≤ slice_index costs area
      at area first before here (inl same) =
          subst (λ (n : ℕ). min least (slice_index costs k) ≤ slice_index costs n) (sym same) (omega arith)
      at area first before here (inr less) = omega (arith, is.below area first less here)

  pub least-closed : (k least : ℕ) → IsLeastBefore areas costs k least → is_open areas k ≡ false → IsLeastBefore areas costs (k + 1) least
  least-closed k least is fails = record {
    most = is.most;
    below = λ area first before here. at area first before here (cases_order area k);
    greatest = λ other few all. is.greatest other few (λ area first before here. all area first (omega (arith, before)) here);
  }
    where
      at : (area : ℕ) → 1 ≤ area → area < k + 1 → is_open areas area ≡ true → (area ≡ k) ⊎ ((area < k) ⊎ (k < area))
          → least ≤ slice_index costs area
      at area first before here (inl same) =
          absurd (both_ways (is_open areas k) fails (subst (λ (n : ℕ). is_open areas n ≡ true) same here))
      at area first before here (inr (inl less)) = is.below area first less here
      at area first before here (inr (inr more)) = absurd (omega (arith, before, more))

  pub least-all : (end least : ℕ) → 64 ≤ end → IsLeastBefore areas costs end least → end ≤ 64 → IsLeastCost areas costs least
  least-all end least reached is most = record {
    most = is.most;
    below = λ area there. is.below area there.least (omega (arith, there.most, reached));
    greatest = λ other few all.
        is.greatest other few (λ area first before. all area (record { least = first; most = omega (arith, before, most) }));
  }

  pub search-open : (k : ℕ) (search : List ℕ) → AreSearchBefore areas costs k search → is_open areas k ≡ true
      → AreSearchBefore areas costs (k + 1) search
  search-open k search is passes = record {
    count = is.count;
    of_open = λ area before here. kept area here (cases_order area k) before;
    of_closed = λ area before fails. closed area fails (cases_order area k) before;
    rest = λ area past. is.rest area (omega (arith, past));
  }
    where
      kept : (area : ℕ) → is_open areas area ≡ true → (area ≡ k) ⊎ ((area < k) ⊎ (k < area)) → area < k + 1
          → slice_index search area ≡ slice_index costs area
      kept area here (inl same) before = is.rest area (omega (arith, same))
      kept area here (inr (inl less)) before = is.of_open area less here
      kept area here (inr (inr more)) before = absurd (omega (arith, before, more))

      closed : (area : ℕ) → is_open areas area ≡ false → (area ≡ k) ⊎ ((area < k) ⊎ (k < area)) → area < k + 1
          → slice_index search area ≡ 1000
      closed area fails (inl same) before =
          absurd (both_ways (is_open areas k) (subst (λ (n : ℕ). is_open areas n ≡ false) same fails) passes)
      closed area fails (inr (inl less)) before = is.of_closed area less fails
      closed area fails (inr (inr more)) before = absurd (omega (arith, before, more))

  pub search-closed : (k : ℕ) (search : List ℕ) → k < 64 → AreSearchBefore areas costs k search → is_open areas k ≡ false
      → AreSearchBefore areas costs (k + 1) (set search k 1000)
  search-closed k search few is fails = record {
    count = length-set search k 1000 ∙ is.count;
    of_open = λ area before here. kept area here (cases_order area k) before;
    of_closed = λ area before here. closed area here (cases_order area k) before;
    rest = λ area past.
        get_or-set_other search k area 1000 0 (λ same. absurd (omega (arith, same, past))) ∙ is.rest area (omega (arith, past));
  }
    where
      kept : (area : ℕ) → is_open areas area ≡ true → (area ≡ k) ⊎ ((area < k) ⊎ (k < area)) → area < k + 1
          → slice_index (set search k 1000) area ≡ slice_index costs area
      kept area here (inl same) before = absurd (both_ways (is_open areas k) fails (subst (λ (n : ℕ). is_open areas n ≡ true) same here))
      kept area here (inr (inl less)) before =
          get_or-set_other search k area 1000 0 (λ same. absurd (omega (arith, same, less))) ∙ is.of_open area less here
      kept area here (inr (inr more)) before = absurd (omega (arith, before, more))

      closed : (area : ℕ) → is_open areas area ≡ false → (area ≡ k) ⊎ ((area < k) ⊎ (k < area)) → area < k + 1
          → slice_index (set search k 1000) area ≡ 1000
      closed area here (inl same) before = get_or-set_at search k area 1000 0 same (omega (arith, few, is.count))
      closed area here (inr (inl less)) before =
          get_or-set_other search k area 1000 0 (λ same. absurd (omega (arith, same, less))) ∙ is.of_closed area less here
      closed area here (inr (inr more)) before = absurd (omega (arith, before, more))

  pub search-first : length costs ≡ 64 → AreSearchBefore areas costs 0 costs
  search-first count = record {
    count = count;
    of_open = λ area before here. absurd (omega (arith, before));
    of_closed = λ area before here. absurd (omega (arith, before));
    rest = λ area past. refl;
  }

  pub search-all : (end : ℕ) (search : List ℕ) → 64 ≤ end → AreSearchBefore areas costs end search → AreSearchCosts areas costs search
  search-all end search reached is = record {
    count = is.count;
    of_open = λ area there here. is.of_open area (omega (arith, there, reached)) here;
    of_closed = λ area there here. is.of_closed area (omega (arith, there, reached)) here;
  }

-- once all areas were seen, the costs of a search are costs, and none is less than the least of an open area
module _ (areas : ℕ) (costs search : List ℕ) (are : AreSearchCosts areas costs search) where
  pub search-costs : AreCosts costs → AreCosts search
  search-costs rules = record {
    areas = are.count;
    each = list_all-from_AllPass is_cost search (λ k d there.
        subst (λ (n : ℕ). is_cost n ≡ true) (sym (get_or_default_zero search k d there))
        (by_test k (omega (arith, there, are.count)) (is_open areas k) refl));
  }
    where
      by_test : (k : ℕ) → k < 64 → (b : Bool) → is_open areas k ≡ b → is_cost (slice_index search k) ≡ true
      by_test k below true is =
          subst (λ (n : ℕ). is_cost n ≡ true) (sym (are.of_open k below is))
          (AllPass-from_list_all is_cost costs rules.each k 0 (omega (arith, below, rules.areas)))
      by_test k below false is = subst (λ (n : ℕ). is_cost n ≡ true) (sym (are.of_closed k below is)) refl

  pub least-below : (least : ℕ) → IsLeastCost areas costs least → (area : ℕ) → IsArea area → least ≤ slice_index search area
  least-below least is area there = by_test (is_open areas area) refl
    where
      by_test : (b : Bool) → is_open areas area ≡ b → least ≤ slice_index search area
      by_test true passes = omega (arith, is.below area there passes, are.of_open area (omega (arith, there.most)) passes)
      by_test false fails = omega (arith, is.most, are.of_closed area (omega (arith, there.most)) fails)
