-- Searching corners that stand in order.
use Rattle.std.proofs.Common.{◌≡◌, ℕ, inl, inr, List, length, ap, sym, arith, Result, Ok, Err}
use Rattle.std.specs.Result.{is_ok}
use Rattle.std.specs.List.Sorted.{IsSortedBy, IsBinarySearchResult, IsSearchInRange}
use Rattle.std.specs.Ordering.{is_eq}
use Rattle.std.proofs.lemmas.Bool.{cases_lt}
use Rattle.std.proofs.lemmas.List.Folds.{list_any_at, list_any_none}
use Rattle.std.proofs.lemmas.List.Sorted.{searchable_from_sorted}
use Rattle.nav_base.specs.declared.point.Point.{Point}
use Rattle.mesh_types.specs.LinkOrder.{point_cmp, is_point_before}
use Rattle.mesh_types.specs.Words.{is_among}
use Rattle.mesh_types.proofs.LinkOrderLaws.{point_total}

-- the search finds a corner exactly where it is one of them
pub found_among : (corners : List Point) (corner : Point) (found : Result ℕ ℕ) → IsSortedBy is_point_before corners → IsSearchInRange found (length corners)
    → IsBinarySearchResult (λ (other : Point). point_cmp other corner) corners found → is_ok found ≡ is_among corners corner
found_among corners corner (Ok place) sorted there equal =
    sym (list_any_at (λ (other : Point). is_eq (point_cmp other corner)) corners place corner there (ap is_eq (equal corner)))
found_among corners corner (Err place) sorted there parts =
    let point = parts (searchable_from_sorted point_total (λ (p : Point). p) corners corner sorted) in
    sym (list_any_none (λ (other : Point). is_eq (point_cmp other corner)) corners
    (λ k d inside. elim (cases_lt k place) [ inl below ↦ ap is_eq (point.0 k d (omega arith) below) | inr past ↦ ap is_eq (point.1 k d past inside) ]))
