-- The most steps of a way after which polygons hold a near point, and what the part of the way is then.
use Rattle.std.proofs.Common.{◌≡◌, ℕ, ◌+◌, ◌≤◌, ◌<◌, ℤ, ◌≤ℤ◌, false, List, length, sym, subst, ap, ◌∙◌, refl, inl, inr, arith}
use Rattle.std.specs.Prelude.{◌⊎◌, ◌↔◌, Some, None}
use Rattle.std.proofs.lemmas.Bool.{cases_lt, cases_eq}
use Rattle.std.proofs.lemmas.Int.{ints}
use Rattle.std.proofs.lemmas.Option.{same_Some}
use Rattle.nav_base.specs.declared.point.Point.{Point}
use Rattle.mesh_types.specs.declared.links.PolyRef.{PolyRef}
use Rattle.mesh_types.specs.declared.mesh.Mesh.{Mesh}
use Rattle.mesh_types.specs.declared.polygon.Polygon.{Polygon}
use Rattle.mesh_types.specs.LinkOrder.{is_point_before}
use Rattle.mesh_types.specs.Located.{Holds}
use Rattle.mesh_types.specs.Rays.{IsHeldAt}
use Rattle.mesh_types.specs.WholeMesh.{poly_at}
use Rattle.surface_move.specs.declared.nearby.StepRange.{StepRange}
use Rattle.surface_move.specs.Moves.{nth_polygon, IsNear, IsMet, IsPartEnd}
use Rattle.surface_move.specs.Ways.{IsAmong, HoldsNear, HoldsNearFrom, IsFirstHolder, IsGreatest}
use Rattle.surface_move.proofs.NearPoints.{in_order}

-- ---- one polygon

module _ (P : ℕ → Type 0) (gone rest step : ℕ) (more possible : StepRange) (first : more.least ≡ gone + 1) (last : more.most ≡ rest)
    (least : more.least ≤ possible.least) (most : possible.most ≤ more.most) (all : (g : ℕ) → IsAmong more g → P g → IsAmong possible g)
    (top : (g : ℕ) → IsAmong possible g → P g → g ≤ step) where
  -- the number of steps at hand is the greatest
  pub found : step ≤ possible.most → possible.least ≤ step → P step → IsGreatest P gone rest step
  found below above is = record {
    at_least = omega (arith, first, least, above);
    within = λ more'. omega (arith, last, most, below);
    holds = λ more'. is;
    no_more = λ g small p.
        elim (cases_lt gone g) [
          | inl greater ↦ top g (all g (record { least = omega (arith, first, greater); most = omega (arith, last, small) }) p) p
          | inr less ↦ omega (arith, first, least, above, less)
        ];
  }

  -- none is left
  pub none_left : step < possible.least → IsGreatest P gone rest gone
  none_left below = record {
    at_least = omega arith;
    within = λ more'. absurd (omega (arith, more'));
    holds = λ more'. absurd (omega (arith, more'));
    no_more = λ g small p.
        elim (cases_lt gone g) [
          | inl greater ↦
              let among = all g (record { least = omega (arith, first, greater); most = omega (arith, last, small) }) p in
              absurd (omega (arith, among.least, top g among p, below))
          | inr less ↦ less
        ];
  }

-- ---- one polygon more

pub one_more_polygon : (mesh : Mesh) (polys : List PolyRef) (from to : Point) (rest gone gone' i : ℕ) (polygon : Polygon) → i < length polys
    → poly_at mesh (nth_polygon polys i) ≡ Some polygon → IsGreatest (HoldsNearFrom mesh polys from to (i + 1)) 0 rest gone
    → IsGreatest (HoldsNear polygon from to) gone rest gone' → IsGreatest (HoldsNearFrom mesh polys from to i) 0 rest gone'
one_more_polygon mesh polys from to rest gone gone' i polygon there is old new = record {
  at_least = omega arith;
  within = λ some.
      elim (cases_lt gone gone') [ inl more ↦ new.within more | inr less ↦ omega (arith, new.at_least, less, old.within (omega (arith, new.at_least, less, some))) ];
  holds = λ some. elim (cases_lt gone gone') [ inl more ↦ here (new.holds more) | inr less ↦ as_before some (omega (arith, new.at_least, less)) ];
  no_more = λ g small held. among g small held;
}
  where
    here : HoldsNear polygon from to gone' → HoldsNearFrom mesh polys from to i gone'
    here held = record {
      place = i;
      q = held.q;
      later = omega arith;
      met = record { near = held.near; there = there; held = record { polygon = polygon; there = is; holds = held.holds } };
    }

    as_before : 0 < gone' → gone ≡ gone' → HoldsNearFrom mesh polys from to i gone'
    as_before some same =
        let held = old.holds (omega (arith, some, same)) in
        subst (HoldsNearFrom mesh polys from to i) same
        (record { place = held.place; q = held.q; later = omega (arith, held.later); met = held.met })

    own : (g at : ℕ) → at ≡ i → ((q : Point) × IsMet mesh polys from to g at q) → HoldsNear polygon from to g
    own g at same met = record {
      q = met.0;
      near = met.1.near;
      holds = subst (λ (d : Polygon). Holds d met.0)
          (same_Some met.1.held.polygon polygon (sym met.1.held.there ∙ ap (λ (n : ℕ). poly_at mesh (nth_polygon polys n)) same ∙ is)) met.1.held.holds;
    }

    among : (g : ℕ) → g ≤ rest → HoldsNearFrom mesh polys from to i g → g ≤ gone'
    among g small held =
        elim (cases_eq held.place i) [
          | inl same ↦ new.no_more g small (own g held.place same (held.q, held.met))
          | inr other ↦ omega (
            arith,
            new.at_least,
            old.no_more g small (record { place = held.place; q = held.q; later = omega (arith, held.later, other); met = held.met }),
          )
        ]

-- ---- the part

module _ (mesh : Mesh) (polys : List PolyRef) (from to : Point) (rest gone : ℕ) (most : IsGreatest (HoldsNearFrom mesh polys from to 0) 0 rest gone) where
  reached : (g place : ℕ) (q : Point) → IsMet mesh polys from to g place q → g ≤ rest → g ≤ gone
  reached g place q met small = most.no_more g small (record { place = place; q = q; later = omega arith; met = met })

  -- there is none
  pub no_part : gone ≡ 0 → (g place : ℕ) (q : Point) → IsMet mesh polys from to g place q → 1 ≤ g → g ≤ rest → ⊥
  no_part none g place q met some small = omega (arith, none, some, reached g place q met small)

  -- a point is not before itself
  itself : (p : Point) → is_point_before p p ≡ false
  itself p = in_order p.x p.z p.x p.z (same p.x) (same p.z)
    where
      same : (n : ℤ) → n ≤ℤ n
      same n = omega (arith, ints)

  module _ (first second : Point) (some : gone ≡ 0 → ⊥) (near : (q : Point) → IsNear from to gone q ↔ ((q ≡ first) ⊎ (q ≡ second)))
      (order : is_point_before second first ≡ false) where
    -- the first of the two near points is held
    pub part_first : (place : ℕ) → IsFirstHolder mesh polys first (Some place) → IsPartEnd mesh polys from to rest (record { at = first; place = place; gone = gone })
    part_first place holder = record {
      some = omega (arith, some);
      within = most.within (omega (arith, some));
      met = record { near = (near first).1 (inl refl); there = holder.0.there; held = holder.0.held };
      greatest = reached;
      least = λ place' q met.
          elim ((near q).0 met.near) [
            | inl same ↦ subst (λ (p : Point). is_point_before p first ≡ false) (sym same) (itself first)
            | inr same ↦ subst (λ (p : Point). is_point_before p first ≡ false) (sym same) order
          ];
      first = λ place' met. holder.1 place' (record { there = met.there; held = met.held });
    }

    -- only the second is
    pub part_second : (place : ℕ) → IsFirstHolder mesh polys first None → IsFirstHolder mesh polys second (Some place)
        → IsPartEnd mesh polys from to rest (record { at = second; place = place; gone = gone })
    part_second place none holder = record {
      some = omega (arith, some);
      within = most.within (omega (arith, some));
      met = record { near = (near second).1 (inr refl); there = holder.0.there; held = holder.0.held };
      greatest = reached;
      least = λ place' q met.
          elim ((near q).0 met.near) [
            | inl same ↦ absurd (none place' (record { there = met.there; held = subst (λ (p : Point). IsHeldAt mesh p (nth_polygon polys place')) same met.held }))
            | inr same ↦ subst (λ (p : Point). is_point_before p second ≡ false) (sym same) (itself second)
          ];
      first = λ place' met. holder.1 place' (record { there = met.there; held = met.held });
    }

    -- one of them is
    pub one_held : IsFirstHolder mesh polys first None → IsFirstHolder mesh polys second None → ⊥
    one_held none none' =
        let held = most.holds (omega (arith, some)) in
        elim ((near held.q).0 held.met.near) [
          | inl same ↦ none held.place (record { there = held.met.there; held = subst (λ (p : Point). IsHeldAt mesh p (nth_polygon polys held.place)) same held.met.held })
          | inr same ↦ none' held.place (record { there = held.met.there; held = subst (λ (p : Point). IsHeldAt mesh p (nth_polygon polys held.place)) same held.met.held })
        ]
