-- The walls of the polygons of a list, polygon by polygon, and their order.
use Rattle.std.proofs.Common.{◌≡◌, ◌≢◌, ℕ, ◌+◌, ◌-◌, Bool, true, false, ◌<◌, ◌≤◌, ◌⊎◌, inl, inr, List, [], ◌∷◌, ◌++◌, length, take, get_or, refl, sym, ap, subst, ◌∙◌, arith}
use Rattle.std.specs.Prelude.{Contains}
use Rattle.std.specs.Cmp.{IsStrictWeakOrder, IsTotalOrder, nat_cmp_is}
use Rattle.std.specs.Ordering.{is_lt, nat_cmp, ordering_then, on}
use Rattle.std.specs.declared.cmp.Ordering.{Ordering}
use Rattle.std.specs.declared.cmp.Ordering.TheVariants.{Less, Equal}
use Rattle.std.proofs.lemmas.Bool.{both_ways, cases_eq, cases_lt, cases_order}
use Rattle.std.proofs.lemmas.Cmp.{then_total, on_total, nat_cmp_total}
use Rattle.std.proofs.lemmas.List.{get_or-take, get_or_default, length-take, take_all, take_more}
use Rattle.std.proofs.lemmas.List.Elements.{Contains-append_cases, Contains-append_left, Contains-append_right, Contains-get_or, Contains-push, Contains-push_cases}
use Rattle.std.proofs.lemmas.List.MinMax.{ranks_by}
use Rattle.std.proofs.lemmas.List.Sorted.{sorted_far}
use Rattle.mesh_types.specs.declared.links.PolyRef.{PolyRef}
use Rattle.mesh_types.specs.declared.mesh.Mesh.{Mesh}
use Rattle.mesh_types.specs.LinkOrder.{poly_cmp}
use Rattle.wall_query.specs.declared.around.Around.{Around}
use Rattle.wall_query.specs.declared.questions.Wall.{Wall}
use Rattle.wall_query.specs.Lists.{Adds, IsInOrder}
use Rattle.wall_query.specs.Walls.{AddsWalls, ArePolygonsInOrder, AreWallsOf, ComesBefore, HasWallsOf, IsFirstAt, IsWallAround}
use Rattle.wall_query.proofs.ListLaws.{adds_both}
use Rattle.wall_slide.proofs.Listed.{contains_none}

-- of polygons in order none that comes earlier comes later
abbrev IsNotLater : PolyRef → PolyRef → Type 0
IsNotLater a b = (a.tile < b.tile) ⊎ ((a.tile ≡ b.tile) × (a.index ≤ b.index))

abbrev IsEarlier : PolyRef → PolyRef → Type 0
IsEarlier a b = (a.tile < b.tile) ⊎ ((a.tile ≡ b.tile) × (a.index < b.index))

later_tile : (a b : PolyRef) → b.tile < a.tile → is_lt (poly_cmp b a) ≡ true
later_tile a b less = ap (λ (o : Ordering). is_lt (ordering_then o (nat_cmp b.index a.index))) (sym (nat_cmp_is b.tile a.tile Less less))

later_index : (a b : PolyRef) → b.tile ≡ a.tile → b.index < a.index → is_lt (poly_cmp b a) ≡ true
later_index a b same less =
    ap (λ (o : Ordering). is_lt (ordering_then o (nat_cmp b.index a.index))) (sym (nat_cmp_is b.tile a.tile Equal same))
    ∙ ap (λ (o : Ordering). is_lt o) (sym (nat_cmp_is b.index a.index Less less))

not_later : (a b : PolyRef) → is_lt (poly_cmp b a) ≡ false → IsNotLater a b
not_later a b after = elim (cases_order a.tile b.tile) [
  | inr (inl less) ↦ inl less
  | inr (inr more) ↦ absurd (both_ways (is_lt (poly_cmp b a)) after (later_tile a b more))
  | inl same ↦ elim (cases_order a.index b.index) [
    | inl equal ↦ inr (same, omega (arith, equal))
    | inr (inl less) ↦ inr (same, omega (arith, less))
    | inr (inr more) ↦ absurd (both_ways (is_lt (poly_cmp b a)) after (later_index a b (sym same) more))
  ]
]

same_or_not : (a b : PolyRef) → (a ≡ b) ⊎ (a ≢ b)
same_or_not a b = elim (cases_eq a.tile b.tile) [
  | inr apart ↦ inr (λ same. apart (ap (λ (p : PolyRef). p.tile) same))
  | inl tile ↦ elim (cases_eq a.index b.index) [
    | inl index ↦ inl (λ i. record { tile = tile i; index = index i })
    | inr apart ↦ inr (λ same. apart (ap (λ (p : PolyRef). p.index) same))
  ]
]

poly_total : IsTotalOrder poly_cmp
poly_total =
    then_total {R = on (λ (p : PolyRef). p.tile) nat_cmp} {S = on (λ (p : PolyRef). p.index) nat_cmp}
    (on_total (λ (p : PolyRef). p.tile) nat_cmp_total) (on_total (λ (p : PolyRef). p.index) nat_cmp_total)

abbrev pub is_earlier : PolyRef → PolyRef → Bool
is_earlier a b = is_lt (poly_cmp a b)

pub polygons_order : IsStrictWeakOrder is_earlier
polygons_order = ranks_by poly_total (λ (p : PolyRef). p)

earlier : (a b : PolyRef) → IsNotLater a b → (a ≢ b) → IsEarlier a b
earlier a b (inl less) apart = inl less
earlier a b (inr same) apart = elim (cases_lt a.index b.index) [
  | inl less ↦ inr (same.0, less)
  | inr least ↦
      let index : a.index ≡ b.index = omega (arith, least, same.1) in
      absurd (apart (λ i. record { tile = same.0 i; index = index i }))
]

earlier_on : (a b c : PolyRef) → IsNotLater a b → IsEarlier b c → IsEarlier a c
earlier_on a b c (inl less) (inl less') = inl (omega (arith, less, less'))
earlier_on a b c (inl less) (inr same) = inl (omega (arith, less, same.0))
earlier_on a b c (inr same) (inl less) = inl (omega (arith, same.0, less))
earlier_on a b c (inr same) (inr same') = inr (same.0 ∙ same'.0, omega (arith, same.1, same'.1))

before_of : (mesh : Mesh) (x y : Wall) → IsEarlier x.polygon y.polygon → ComesBefore mesh x y
before_of mesh x y (inl less) = inl less
before_of mesh x y (inr same) = inr (same.0, inl same.1)

module _ (mesh : Mesh) (around : Around) (list : List PolyRef) where
  -- the walls of the polygons before a place of the list
  pub record HasFirst (i : ℕ) (walls : List Wall) : Type 0 where
    pub has : HasWallsOf mesh around (take i list) walls
    pub order : ArePolygonsInOrder list → IsInOrder (ComesBefore mesh) walls

  pub of_none : HasFirst 0 []
  of_none = record {
    has = λ wall. (λ held. absurd (contains_none wall held), λ is. absurd (contains_none wall.polygon is.1));
    order = λ sorted i k d less below. absurd (omega (arith, below));
  }

  pub none_first : (walls : List Wall) → walls ≡ [] → HasFirst 0 walls
  none_first walls is = subst (HasFirst 0) (sym is) of_none

  module _ (i : ℕ) (d : PolyRef) (old : List Wall) (below : i < length list) (so_far : HasFirst i old) where
    abbrev at : PolyRef
    at = get_or list i d

    more_of : take (i + 1) list ≡ take i list ++ at ∷ []
    more_of = take_more list i d below

    -- the same polygon once more
    pub of_same : (IsFirstAt list i → ⊥) → HasFirst (i + 1) old
    of_same not = record {
      has = subst (λ (seen : List PolyRef). HasWallsOf mesh around seen old) (sym more_of) (λ wall. (
        λ held.
            let is = (so_far.has wall).0 held in
            (is.0, Contains-append_left (take i list) (at ∷ []) wall.polygon is.1),
        λ is. (so_far.has wall).1 (
          is.0,
          elim (Contains-push_cases (take i list) at wall.polygon is.1) [
            | inl before ↦ before
            | inr same ↦ subst (Contains (take i list)) same seen
          ],
        ),
      ));
      order = so_far.order;
    }
      where
        later : 0 < i
        later = elim (cases_lt 0 i) [ inl more ↦ more | inr none ↦ absurd (not (inl (omega (arith, none)))) ]

        one_before : i - 1 < length (take i list)
        one_before = omega (arith, later, below, length-take i list)

        held_before : Contains (take i list) (get_or list (i - 1) d)
        held_before = subst (Contains (take i list)) (get_or-take i list (i - 1) d (omega (arith, later))) (Contains-get_or (take i list) (i - 1) d one_before)

        seen : Contains (take i list) at
        seen = by (same_or_not (get_or list (i - 1) d) (get_or list i d))
          where
            by : (get_or list (i - 1) d ≡ get_or list i d) ⊎ (get_or list (i - 1) d ≢ get_or list i d) → Contains (take i list) (get_or list i d)
            by (inl same) = subst (Contains (take i list)) same held_before
            by (inr apart) = absurd (not (inr (λ e. subst (λ (p : PolyRef). p ≢ get_or list i e) (get_or_default list (i - 1) d e (omega (arith, below)))
                (subst (λ (p : PolyRef). get_or list (i - 1) d ≢ p) (get_or_default list i d e below) apart))))

    -- another one
    module _ (new : List Wall) (first : IsFirstAt list i) (adds : AddsWalls mesh around (λ w. w.polygon ≡ at) old new) where
      to : (wall : Wall) → Contains new wall → IsWallAround mesh around wall × Contains (take i list ++ at ∷ []) wall.polygon
      to wall held = elim (Contains-append_cases old adds.more wall (subst (λ (l : List Wall). Contains l wall) adds.is held)) [
        | inl before ↦
            let is = (so_far.has wall).0 before in
            (is.0, Contains-append_left (take i list) (at ∷ []) wall.polygon is.1)
        | inr later ↦
            let is = adds.each wall later in
            (is.0, subst (λ (p : PolyRef). Contains (take i list ++ at ∷ []) p) (sym is.1) (Contains-push (take i list) at))
      ]

      from : (wall : Wall) → IsWallAround mesh around wall × Contains (take i list ++ at ∷ []) wall.polygon → Contains new wall
      from wall is = subst (λ (l : List Wall). Contains l wall) (sym adds.is) (elim (Contains-push_cases (take i list) at wall.polygon is.1) [
        | inl before ↦ Contains-append_left old adds.more wall ((so_far.has wall).1 (is.0, before))
        | inr same ↦ Contains-append_right old adds.more wall (adds.all wall (is.0, sym same))
      ])

      -- each polygon before comes before it
      each_before : ArePolygonsInOrder list → (p : PolyRef) → Contains (take i list) p → IsEarlier p at
      each_before sorted p held = earlier_on p (get_or list (i - 1) d) (get_or list i d) not_after apart
        where
          k : ℕ
          k = held.0

          low : k < i
          low = omega (arith, held.1, length-take i list)

          is_p : get_or list k p ≡ p
          is_p = sym (get_or-take i list k p low) ∙ held.2

          sorts : (a b : ℕ) (e : PolyRef) → a ≤ b → b < length list → IsNotLater (get_or list a e) (get_or list b e)
          sorts a b e most there = not_later (get_or list a e) (get_or list b e) (sorted_far (λ (x y : PolyRef). is_lt (poly_cmp x y)) polygons_order list sorted a b e most there)

          not_after : IsNotLater p (get_or list (i - 1) d)
          not_after =
              subst (λ (q : PolyRef). IsNotLater q (get_or list (i - 1) d)) is_p
              (subst (IsNotLater (get_or list k p)) (get_or_default list (i - 1) p d (omega (arith, below))) (sorts k (i - 1) p (omega (arith, low)) (omega (arith, below))))

          apart : IsEarlier (get_or list (i - 1) d) (get_or list i d)
          apart = by first
            where
              by : IsFirstAt list i → IsEarlier (get_or list (i - 1) d) (get_or list i d)
              by (inl none) = absurd (omega (arith, none, low))
              by (inr other) = earlier (get_or list (i - 1) d) (get_or list i d) (sorts (i - 1) i d (omega arith) below) (other d)

      in_order_too : ArePolygonsInOrder list → IsInOrder (ComesBefore mesh) new
      in_order_too sorted = subst (IsInOrder (ComesBefore mesh)) (sym whole.is) whole.order
        where
          whole : Adds (ComesBefore mesh) (λ w. Contains old w ⊎ (IsWallAround mesh around w × (w.polygon ≡ at))) [] new
          whole =
              adds_both (ComesBefore mesh) (Contains old) (λ w. IsWallAround mesh around w × (w.polygon ≡ at))
              (λ w. Contains old w ⊎ (IsWallAround mesh around w × (w.polygon ≡ at))) [] old new
              (record { more = old; is = refl; each = λ x held. held; all = λ x held. held; order = so_far.order sorted }) adds
              (λ x held. inl held) (λ x is. inr is) (λ x is. is)
              (λ x y held is. before_of mesh x y (subst (IsEarlier x.polygon) (sym is.1) (each_before sorted x.polygon ((so_far.has x).0 held).1)))

      pub of_more : HasFirst (i + 1) new
      of_more = record {
        has = subst (λ (seen : List PolyRef). HasWallsOf mesh around seen new) (sym more_of) (λ wall. (to wall, from wall));
        order = in_order_too;
      }

  pub of_all : (i : ℕ) (walls : List Wall) → length list ≤ i → HasFirst i walls → AreWallsOf mesh around list walls
  of_all i walls most so_far = record {
    has = subst (λ (seen : List PolyRef). HasWallsOf mesh around seen walls) (take_all i list most) so_far.has;
    order = so_far.order;
  }
