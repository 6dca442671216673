-- The order of corners by x and then by z.
use Rattle.std.proofs.Common.{◌≡◌, true, ℕ, ◌+◌, ◌<◌, ap, false, List, length, get_or, sym, subst, arith, inl, inr}
use Rattle.std.specs.Ordering.{is_lt}
use Rattle.std.proofs.lemmas.Bool.{cases_lt}
use Rattle.std.proofs.lemmas.Cmp.{tied_itself}
use Rattle.std.proofs.lemmas.List.{get_or_default}
use Rattle.nav_base.specs.declared.point.Point.{Point}
use Rattle.mesh_types.specs.declared.region.UnitEdge.{UnitEdge}
use Rattle.mesh_types.specs.LinkOrder.{is_point_before}
use Rattle.mesh_types.proofs.LinkOrderLaws.{point_total, points_order}

-- a corner does not come after another
abbrev pub IsNoLater : Point → Point → Type 0
IsNoLater a b = is_point_before b a ≡ false

not_later_itself : (a : Point) → IsNoLater a a
not_later_itself a = ap is_lt (tied_itself point_total a)

later_chain : (a b c : Point) → IsNoLater a b → IsNoLater b c → IsNoLater a c
later_chain a b c ab bc = points_order.chain c b a bc ab

-- one edge more is looked at: where it begins before the earliest so far it is the earliest, else that stays so
pub earlier_found : (edges : List UnitEdge) (least least' k : ℕ) (e : UnitEdge) → least' ≡ k → k < length edges → (0 < length edges → least < length edges)
    → is_point_before (get_or edges k e).from (get_or edges least e).from ≡ true
    → ((j : ℕ) (d : UnitEdge) → j < k → IsNoLater (get_or edges least d).from (get_or edges j d).from)
    → (0 < length edges → least' < length edges) × ((j : ℕ) (d : UnitEdge) → j < k + 1 → IsNoLater (get_or edges least' d).from (get_or edges j d).from)
earlier_found edges least least' k e is there there' before all = (
  λ some. omega (arith, is, there),
  λ j d less.
      let P : ℕ → Type 0 = λ n. IsNoLater (get_or edges n d).from (get_or edges j d).from in
      subst P (sym is) (elim (cases_lt j k) [
        | inl earlier ↦ later_chain (get_or edges k d).from (get_or edges least d).from (get_or edges j d).from (at_default d) (all j d earlier)
        | inr last ↦
            let same : k ≡ j = omega (arith, last, less) in
            let Q : ℕ → Type 0 = λ n. IsNoLater (get_or edges k d).from (get_or edges n d).from in
            subst Q same (not_later_itself (get_or edges k d).from)
      ]),
)
  where
    at_default : (d : UnitEdge) → IsNoLater (get_or edges k d).from (get_or edges least d).from
    at_default d =
        let a : get_or edges k e ≡ get_or edges k d = get_or_default edges k e d there in
        let b : get_or edges least e ≡ get_or edges least d = get_or_default edges least e d (there' (omega (arith, there))) in
        let P : UnitEdge → Type 0 = λ x. IsNoLater x.from (get_or edges least d).from in
        let Q : UnitEdge → Type 0 = λ x. IsNoLater (get_or edges k e).from x.from in
        subst P a (subst Q b (points_order.one_way (get_or edges k e).from (get_or edges least e).from before))

pub earliest_stays : (edges : List UnitEdge) (least least' k : ℕ) (e : UnitEdge) → least' ≡ least → k < length edges → (0 < length edges → least < length edges)
    → IsNoLater (get_or edges least e).from (get_or edges k e).from
    → ((j : ℕ) (d : UnitEdge) → j < k → IsNoLater (get_or edges least d).from (get_or edges j d).from)
    → (0 < length edges → least' < length edges) × ((j : ℕ) (d : UnitEdge) → j < k + 1 → IsNoLater (get_or edges least' d).from (get_or edges j d).from)
earliest_stays edges least least' k e is there there' after all = (
  λ some. let inside = there' some in omega (arith, is, inside),
  λ j d less.
      let P : ℕ → Type 0 = λ n. IsNoLater (get_or edges n d).from (get_or edges j d).from in
      subst P (sym is) (elim (cases_lt j k) [
        | inl earlier ↦ all j d earlier
        | inr last ↦
            let same : k ≡ j = omega (arith, last, less) in
            let Q : ℕ → Type 0 = λ n. IsNoLater (get_or edges least d).from (get_or edges n d).from in
            subst Q same (at_default d)
      ]),
)
  where
    at_default : (d : UnitEdge) → IsNoLater (get_or edges least d).from (get_or edges k d).from
    at_default d =
        let a : get_or edges k e ≡ get_or edges k d = get_or_default edges k e d there in
        let b : get_or edges least e ≡ get_or edges least d = get_or_default edges least e d (there' (omega (arith, there))) in
        let P : UnitEdge → Type 0 = λ x. IsNoLater (get_or edges least d).from x.from in
        let Q : UnitEdge → Type 0 = λ x. IsNoLater x.from (get_or edges k e).from in
        subst P a (subst Q b after)
