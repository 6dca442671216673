-- Links that are sorted by the order of links are the links put in order.
use Rattle.std.proofs.Common.{◌≡◌, ℕ, Bool, true, false, cond, List, [], ◌∷◌, ap, ◌∙◌, sym, refl, arith, ℤ}
use Rattle.std.specs.Prelude.{All, if◌then◌else◌}
use Rattle.std.specs.List.{count_by}
use Rattle.std.specs.List.Sorted.{IsPermutation, IsSortedBy}
use Rattle.std.specs.Ordering.{is_lt, nat_cmp, int_cmp, ordering_then, ordering_reverse, on}
use Rattle.std.specs.declared.cmp.Ordering.{Ordering}
use Rattle.std.specs.declared.cmp.Ordering.TheVariants.{Less, Equal, Greater}
use Rattle.std.specs.Cmp.{IsStrictWeakOrder, IsTotalOrder}
use Rattle.std.proofs.lemmas.Bool.{both_ways}
use Rattle.std.proofs.lemmas.Cmp.{then_total, on_total, nat_cmp_total, int_cmp_total, ranked, int_ranked}
use Rattle.std.proofs.lemmas.List.Elements.{All-head, All-tail, All-cons, All-nil, All-weaker}
use Rattle.std.proofs.lemmas.List.MinMax.{ranks_by}
use Rattle.std.proofs.lemmas.List.Sorted.{sum_by-IsPermutation}
use Rattle.std.proofs.lemmas.List.Sums.{sum_by-cons}
use Rattle.nav_base.specs.declared.point.Point.{Point}
use Rattle.mesh_types.specs.declared.links.PolyRef.{PolyRef}
use Rattle.mesh_types.specs.declared.links.Link.{Link}
use Rattle.mesh_types.specs.LinkOrder.{poly_cmp, point_cmp, is_point_before, link_cmp, put_link, ordered_links}
use Rattle.mesh_types.proofs.Sorting.{Rises, rises_from_sorted, same_in_order}

poly_total : IsTotalOrder poly_cmp
poly_total =
    then_total {R = on (λ (p : PolyRef). p.tile) nat_cmp} {S = on (λ (p : PolyRef). p.index) nat_cmp}
    (on_total (λ (p : PolyRef). p.tile) nat_cmp_total) (on_total (λ (p : PolyRef). p.index) nat_cmp_total)

pub point_total : IsTotalOrder point_cmp
point_total =
    then_total {R = on (λ (p : Point). p.x) int_cmp} {S = on (λ (p : Point). p.z) int_cmp}
    (on_total (λ (p : Point). p.x) int_cmp_total) (on_total (λ (p : Point). p.z) int_cmp_total)

link_total : IsTotalOrder link_cmp
link_total =
    then_total (on_total (λ (l : Link). l.from) poly_total)
    (then_total (on_total (λ (l : Link). l.edge) nat_cmp_total)
    (then_total (on_total (λ (l : Link). l.to) poly_total)
    (then_total (on_total (λ (l : Link). l.portal.right) point_total) (on_total (λ (l : Link). l.portal.left) point_total))))

-- orders that tie one after the other both tie
both_tie : (first second : Ordering) → ordering_then first second ≡ Equal → (first ≡ Equal) × (second ≡ Equal)
both_tie Less second is = absurd cc
both_tie Equal second is = (refl, is)
both_tie Greater second is = absurd cc

nat_tie : (a b : ℕ) → nat_cmp a b ≡ Equal → a ≡ b
nat_tie a b is = ranked a b Equal (sym is)

int_tie : (a b : ℤ) → int_cmp a b ≡ Equal → a ≡ b
int_tie a b is = int_ranked a b Equal (sym is)

poly_tie : (a b : PolyRef) → poly_cmp a b ≡ Equal → a ≡ b
poly_tie a b is =
    let parts = both_tie _ _ is in
    ap (λ (t : ℕ). record a { tile = t }) (nat_tie a.tile b.tile parts.0)
    ∙ ap (λ (i : ℕ). record b { index = i }) (nat_tie a.index b.index parts.1)

point_tie : (a b : Point) → point_cmp a b ≡ Equal → a ≡ b
point_tie a b is =
    let parts = both_tie _ _ is in
    ap (λ (x : ℤ). record a { x = x }) (int_tie a.x b.x parts.0)
    ∙ ap (λ (z : ℤ). record b { z = z }) (int_tie a.z b.z parts.1)

link_tie : (a b : Link) → link_cmp a b ≡ Equal → a ≡ b
link_tie a b is =
    let parts = both_tie _ _ is in
    let more = both_tie _ _ parts.1 in
    let last = both_tie _ _ more.1 in
    let ends = both_tie _ _ last.1 in
    ap (λ (p : PolyRef). record a { from = p }) (poly_tie a.from b.from parts.0)
    ∙ ap (λ (e : ℕ). record a { from = b.from; edge = e }) (nat_tie a.edge b.edge more.0)
    ∙ ap (λ (p : PolyRef). record b { to = p; portal = a.portal }) (poly_tie a.to b.to last.0)
    ∙ ap (λ (p : Point). record b { portal = record a.portal { right = p } }) (point_tie a.portal.right b.portal.right ends.0)
    ∙ ap (λ (p : Point). record b { portal = record b.portal { left = p } }) (point_tie a.portal.left b.portal.left ends.1)

abbrev pub before : Link → Link → Bool
before a b = is_lt (link_cmp a b)

pub links_order : IsStrictWeakOrder before
links_order = ranks_by link_total (λ (link : Link). link)

pub points_order : IsStrictWeakOrder is_point_before
points_order = ranks_by point_total (λ p. p)

-- points of which neither comes before the other are equal
pub points_tie : (a b : Point) → is_point_before a b ≡ false → is_point_before b a ≡ false → a ≡ b
points_tie a b ab ba = by_case (point_cmp a b) refl ab (ap is_lt (sym (point_total.antisymm b a)) ∙ ba)
  where
    by_case : (o : Ordering) → point_cmp a b ≡ o → is_lt (point_cmp a b) ≡ false → is_lt (ordering_reverse (point_cmp a b)) ≡ false → a ≡ b
    by_case Less is first second = absurd (both_ways _ first (ap is_lt is))
    by_case Equal is first second = point_tie a b is
    by_case Greater is first second = absurd (both_ways _ second (ap (λ o. is_lt (ordering_reverse o)) is))

-- links of which neither comes before the other are equal
pub links_tie : (a b : Link) → before a b ≡ false → before b a ≡ false → a ≡ b
links_tie a b ab ba = by_case (link_cmp a b) refl ab (ap is_lt (sym (link_total.antisymm b a)) ∙ ba)
  where
    by_case : (o : Ordering) → link_cmp a b ≡ o → is_lt (link_cmp a b) ≡ false → is_lt (ordering_reverse (link_cmp a b)) ≡ false → a ≡ b
    by_case Less is first second = absurd (both_ways _ first (ap is_lt is))
    by_case Equal is first second = link_tie a b is
    by_case Greater is first second = absurd (both_ways _ second (ap (λ o. is_lt (ordering_reverse o)) is))

-- a link that is put into links stands there once more
put_counts : (p : Link → Bool) (link : Link) (links : List Link) → count_by p (put_link link links) ≡ count_by p (link ∷ links)
put_counts p link [] = refl
put_counts p link (other ∷ links) = by_case (before link other) refl (put_counts p link links)
  where
    by_case : (b : Bool) → before link other ≡ b → count_by p (put_link link links) ≡ count_by p (link ∷ links)
        → count_by p (put_link link (other ∷ links)) ≡ count_by p (link ∷ other ∷ links)
    by_case true is rest = ap (λ b. count_by p (if b then link ∷ other ∷ links else other ∷ put_link link links)) is
    by_case false is rest =
        ap (λ b. count_by p (if b then link ∷ other ∷ links else other ∷ put_link link links)) is
        ∙ omega (
          arith,
          rest,
          sum_by-cons (λ l. cond (p l) 1 0) other (put_link link links),
          sum_by-cons (λ l. cond (p l) 1 0) link links,
          sum_by-cons (λ l. cond (p l) 1 0) link (other ∷ links),
          sum_by-cons (λ l. cond (p l) 1 0) other links,
        )

ordered_counts : (p : Link → Bool) (links : List Link) → count_by p (ordered_links links) ≡ count_by p links
unfolding ordered_links
ordered_counts p [] = refl
ordered_counts p (link ∷ links) =
    put_counts p link (ordered_links links)
    ∙ omega (arith, ordered_counts p links, sum_by-cons (λ l. cond (p l) 1 0) link links, sum_by-cons (λ l. cond (p l) 1 0) link (ordered_links links))

-- what holds of a link and of links holds where it is put into them
put_all : (P : Link → Type 0) (link : Link) (links : List Link) → P link → All P links → All P (put_link link links)
put_all P link [] here each = All-cons P link [] here each
put_all P link (other ∷ links) here each =
    by_case (before link other) refl (put_all P link links here (All-tail P other links each))
  where
    by_case : (b : Bool) → before link other ≡ b → All P (put_link link links) → All P (put_link link (other ∷ links))
    by_case true is rest = rw is (All-cons P link (other ∷ links) here each)
    by_case false is rest = rw is (All-cons P other (put_link link links) (All-head P other links each) rest)

put_rises : (link : Link) (links : List Link) → Rises before links → Rises before (put_link link links)
put_rises link [] up = (All-nil (λ l. before l link ≡ false), tt)
put_rises link (other ∷ links) up = by_case (before link other) refl (put_rises link links up.1)
  where
    by_case : (b : Bool) → before link other ≡ b → Rises before (put_link link links) → Rises before (put_link link (other ∷ links))
    by_case true is rest =
        rw is (
          All-cons (λ l. before l link ≡ false) other links (links_order.one_way link other is)
              (All-weaker (λ l. before l other ≡ false) (λ l. before l link ≡ false)
              (λ l after. links_order.chain l other link after (links_order.one_way link other is)) links up.0),
          up,
        )
    by_case false is rest = rw is (put_all (λ l. before l other ≡ false) link links is up.0, rest)

ordered_rise : (links : List Link) → Rises before (ordered_links links)
unfolding ordered_links
ordered_rise [] = tt
ordered_rise (link ∷ links) = put_rises link (ordered_links links) (ordered_rise links)

-- links that are sorted are the links put in order
pub order_is : (links made : List Link) → IsPermutation links made → IsSortedBy before made → made ≡ ordered_links links
order_is links made moved sorted =
    same_in_order before links_order links_tie made (ordered_links links) (rises_from_sorted before made links_order sorted) (ordered_rise links)
    (λ p. sum_by-IsPermutation (λ l. cond (p l) 1 0) links made moved ∙ sym (ordered_counts p links))
