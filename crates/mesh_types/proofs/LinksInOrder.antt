-- Links put in order: they are the same links, how often each is there decides their order, and links of one tile stand by polygon.
use Rattle.std.proofs.Common.{◌≡◌, ℕ, zero, suc, ◌<◌, ◌≤◌, Bool, true, false, cond, List, [], ◌∷◌, length, get_or, ap, ◌∙◌, sym, refl, arith, inl, inr}
use Rattle.std.specs.Prelude.{All, Contains, if◌then◌else◌}
use Rattle.std.specs.List.{count_by, flat_map}
use Rattle.std.specs.Ordering.{is_lt, nat_cmp, ordering_then}
use Rattle.std.specs.declared.cmp.Ordering.{Ordering}
use Rattle.std.specs.declared.cmp.Ordering.TheVariants.{Less, Equal}
use Rattle.std.specs.Cmp.{nat_cmp_is}
use Rattle.std.proofs.lemmas.Bool.{both_ways, cases_lt}
use Rattle.std.proofs.lemmas.List.Elements.{All-head, All-tail, All-cons, All-nil, All-weaker, Contains-append_cases, Contains-append_left, Contains-append_right}
use Rattle.std.proofs.lemmas.List.Sums.{sum_by-cons, sum_by-append}
use Rattle.mesh_types.specs.declared.links.Link.{Link}
use Rattle.mesh_types.specs.LinkIndex.{AreOrderedLinks}
use Rattle.mesh_types.specs.LinkOrder.{poly_cmp, point_cmp, put_link, ordered_links}
use Rattle.mesh_types.proofs.Sorting.{Rises, same_in_order}
use Rattle.mesh_types.proofs.LinkOrderLaws.{before, links_order, links_tie}

-- a link that is put into links stands there once more
put_counts : (p : Link → Bool) (link : Link) (links : List Link) → count_by p (put_link link links) ≡ count_by p (link ∷ links)
put_counts p link [] = refl
put_counts p link (other ∷ links) = by_case (before link other) refl (put_counts p link links)
  where
    by_case : (b : Bool) → before link other ≡ b → count_by p (put_link link links) ≡ count_by p (link ∷ links)
        → count_by p (put_link link (other ∷ links)) ≡ count_by p (link ∷ other ∷ links)
    by_case true is rest = ap (λ b. count_by p (if b then link ∷ other ∷ links else other ∷ put_link link links)) is
    by_case false is rest =
        ap (λ b. count_by p (if b then link ∷ other ∷ links else other ∷ put_link link links)) is
        ∙ omega (
          arith,
          rest,
          sum_by-cons (λ l. cond (p l) 1 0) other (put_link link links),
          sum_by-cons (λ l. cond (p l) 1 0) link links,
          sum_by-cons (λ l. cond (p l) 1 0) link (other ∷ links),
          sum_by-cons (λ l. cond (p l) 1 0) other links,
        )

-- links put in order are the same links
pub ordered_links-count : (p : Link → Bool) (links : List Link) → count_by p (ordered_links links) ≡ count_by p links
unfolding ordered_links
ordered_links-count p [] = refl
ordered_links-count p (link ∷ links) =
    put_counts p link (ordered_links links)
    ∙ omega (arith, ordered_links-count p links, sum_by-cons (λ l. cond (p l) 1 0) link links, sum_by-cons (λ l. cond (p l) 1 0) link (ordered_links links))

-- what holds of a link and of links holds where it is put into them
put_all : (P : Link → Type 0) (link : Link) (links : List Link) → P link → All P links → All P (put_link link links)
put_all P link [] here each = All-cons P link [] here each
put_all P link (other ∷ links) here each =
    by_case (before link other) refl (put_all P link links here (All-tail P other links each))
  where
    by_case : (b : Bool) → before link other ≡ b → All P (put_link link links) → All P (put_link link (other ∷ links))
    by_case true is rest = rw is (All-cons P link (other ∷ links) here each)
    by_case false is rest = rw is (All-cons P other (put_link link links) (All-head P other links each) rest)

-- what holds of links holds of them put in order
pub All-ordered_links : (P : Link → Type 0) (links : List Link) → All P links → All P (ordered_links links)
unfolding ordered_links
All-ordered_links P [] each = each
All-ordered_links P (link ∷ links) each =
    put_all P link (ordered_links links) (All-head P link links each) (All-ordered_links P links (All-tail P link links each))

put_rises : (link : Link) (links : List Link) → Rises before links → Rises before (put_link link links)
put_rises link [] up = (All-nil (λ l. before l link ≡ false), tt)
put_rises link (other ∷ links) up = by_case (before link other) refl (put_rises link links up.1)
  where
    by_case : (b : Bool) → before link other ≡ b → Rises before (put_link link links) → Rises before (put_link link (other ∷ links))
    by_case true is rest =
        rw is (
          All-cons (λ l. before l link ≡ false) other links (links_order.one_way link other is)
              (All-weaker (λ l. before l other ≡ false) (λ l. before l link ≡ false)
              (λ l after. links_order.chain l other link after (links_order.one_way link other is)) links up.0),
          up,
        )
    by_case false is rest = rw is (put_all (λ l. before l other ≡ false) link links is up.0, rest)

-- links put in order rise
pub ordered_links-rise : (links : List Link) → Rises before (ordered_links links)
unfolding ordered_links
ordered_links-rise [] = tt
ordered_links-rise (link ∷ links) = put_rises link (ordered_links links) (ordered_links-rise links)

put_held : (p : Link) (link : Link) (links : List Link) → Contains (link ∷ links) p → Contains (put_link link links) p
put_held p link [] held = held
put_held p link (other ∷ links) held =
    by_case (before link other) refl (put_held p link links)
  where
    by_case : (b : Bool) → before link other ≡ b → (Contains (link ∷ links) p → Contains (put_link link links) p) → Contains (put_link link (other ∷ links)) p
    by_case true is further = rw is held
    by_case false is further =
        rw is (elim (Contains-append_cases (link ∷ other ∷ []) links p held) [
          | inl (zero, there, same) ↦ Contains-append_right (other ∷ []) (put_link link links) p (further (0, omega arith, same))
          | inl (suc zero, there, same) ↦ (0, omega arith, same)
          | inl (suc (suc k), there, same) ↦ absurd (omega (arith, there))
          | inr rest ↦ Contains-append_right (other ∷ []) (put_link link links) p (further (Contains-append_right (link ∷ []) links p rest))
        ])

-- a link stands among links put in order where it stands among them
pub Contains-ordered_links : (link : Link) (links : List Link) → Contains links link → Contains (ordered_links links) link
unfolding ordered_links
Contains-ordered_links link [] held = held
Contains-ordered_links link (other ∷ links) held =
    put_held link other (ordered_links links) (elim (Contains-append_cases (other ∷ []) links link held) [
      | inl first ↦ Contains-append_left (other ∷ []) (ordered_links links) link first
      | inr rest ↦ Contains-append_right (other ∷ []) (ordered_links links) link (Contains-ordered_links link links rest)
    ])

-- how often each link is there decides the order
pub ordered_links-same : (xs ys : List Link) → ((p : Link → Bool) → count_by p xs ≡ count_by p ys) → ordered_links xs ≡ ordered_links ys
ordered_links-same xs ys counts =
    same_in_order before links_order links_tie (ordered_links xs) (ordered_links ys) (ordered_links-rise xs) (ordered_links-rise ys)
    (λ p. ordered_links-count p xs ∙ counts p ∙ sym (ordered_links-count p ys))

parts_count : {X : Type 0} (f : X → List Link) (xs : List X) (p : Link → Bool)
    → count_by p (flat_map f xs) ≡ count_by p (flat_map (λ x. ordered_links (f x)) xs)
parts_count f [] p = refl
parts_count f (x ∷ xs) p =
    sum_by-append (λ l. cond (p l) 1 0) (f x) (flat_map f xs)
    ∙ omega (arith, parts_count f xs p, ordered_links-count p (f x))
    ∙ sym (sum_by-append (λ l. cond (p l) 1 0) (ordered_links (f x)) (flat_map (λ y. ordered_links (f y)) xs))

-- parts may be put in order first
pub ordered_links-parts : {X : Type 0} (f : X → List Link) (xs : List X)
    → ordered_links (flat_map f xs) ≡ ordered_links (flat_map (λ x. ordered_links (f x)) xs)
ordered_links-parts f xs = ordered_links-same (flat_map f xs) (flat_map (λ x. ordered_links (f x)) xs) (parts_count f xs)

-- of one tile, an earlier polygon comes first, whatever follows
earlier_polygon : (s t i j : ℕ) (rest : Ordering) → s ≡ t → i < j → is_lt (ordering_then (ordering_then (nat_cmp s t) (nat_cmp i j)) rest) ≡ true
earlier_polygon s t i j rest same less =
    ap (λ (o : Ordering). is_lt (ordering_then (ordering_then o (nat_cmp i j)) rest)) (sym (nat_cmp_is s t Equal same))
    ∙ ap (λ (o : Ordering). is_lt (ordering_then o rest)) (sym (nat_cmp_is i j Less less))

-- of two links that leave one tile, one that does not come before the other leaves no earlier polygon
later_polygon : (a b : Link) → a.from.tile ≡ b.from.tile → before a b ≡ false → b.from.index ≤ a.from.index
later_polygon a b same after = elim (cases_lt a.from.index b.from.index) [
  | inl less ↦ absurd (both_ways (before a b) after (earlier_polygon a.from.tile b.from.tile a.from.index b.from.index
      (ordering_then (nat_cmp a.edge b.edge) (ordering_then (poly_cmp a.to b.to)
      (ordering_then (point_cmp a.portal.right b.portal.right) (point_cmp a.portal.left b.portal.left)))) same less))
  | inr more ↦ more
]

rising_polygons : (tile : ℕ) (links : List Link) → All (λ (link : Link). link.from.tile ≡ tile) links → Rises before links
    → (i j : ℕ) (d : Link) → i ≤ j → j < length links → (get_or links i d).from.index ≤ (get_or links j d).from.index
rising_polygons tile [] each up i j d le there = absurd (omega (arith, there))
rising_polygons tile (link ∷ links) each up zero zero d le there = omega arith
rising_polygons tile (link ∷ links) each up zero (suc j) d le there =
    let here = All-head (λ (l : Link). l.from.tile ≡ tile) link links each in
    let later = All-tail (λ (l : Link). l.from.tile ≡ tile) link links each j d (omega (arith, there)) in
    later_polygon (get_or links j d) link (later ∙ sym here) (up.0 j d (omega (arith, there)))
rising_polygons tile (link ∷ links) each up (suc i) zero d le there = absurd (omega (arith, le))
rising_polygons tile (link ∷ links) each up (suc i) (suc j) d le there =
    rising_polygons tile links (All-tail (λ (l : Link). l.from.tile ≡ tile) link links each) up.1 i j d (omega (arith, le)) (omega (arith, there))

-- links that leave one tile, put in order, stand by the polygon that they leave
pub ordered_links-polygons : (tile : ℕ) (links : List Link) → All (λ (link : Link). link.from.tile ≡ tile) links → AreOrderedLinks (ordered_links links)
ordered_links-polygons tile links each =
    rising_polygons tile (ordered_links links) (All-ordered_links (λ (link : Link). link.from.tile ≡ tile) links each) (ordered_links-rise links)
