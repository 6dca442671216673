-- The links of a tile beside a new one: those to tiles that stay are kept, and with those over the other sides they are all.
use Rattle.std.proofs.Common.{◌≡◌, ℕ, ◌+◌, ◌<◌, ◌≤◌, ◌++◌, Bool, true, false, cond, List, [], ◌∷◌, length, map, take, get_or, ap, ◌∙◌, sym, refl, subst, arith, Option, Some, None}
use Rattle.std.specs.Prelude.{All, not, ◌&&◌, slice_get, option_and_then}
use Rattle.std.specs.List.{count_by, filter, flat_map, range_with_len}
use Rattle.std.specs.Option.{option_map_or}
use Rattle.std.proofs.lemmas.List.{append-nil, get_or-map, length-map, take_all}
use Rattle.std.proofs.lemmas.List.Elements.{All-head, All-map, All-tail, filter-append}
use Rattle.std.proofs.lemmas.List.Sums.{sum_by-append, sum_by-cons}
use Rattle.std.proofs.lemmas.Option.{get_or_from_slice_get, slice_get_within}
use Rattle.nav_ground.specs.declared.direction.Direction.{Direction}
use Rattle.nav_ground.specs.declared.setting.Setting.{Setting}
use Rattle.nav_ground.specs.Directions.{number}
use Rattle.nav_ground.proofs.Selections.{range-push}
use Rattle.mesh_types.specs.declared.links.Link.{Link}
use Rattle.mesh_types.specs.declared.mesh.TileMesh.{TileMesh}
use Rattle.mesh_types.specs.BorderLinks.{border_link, border_links, meetings}
use Rattle.mesh_types.specs.Runs.{runs_of}
use Rattle.mesh_types.specs.Soundness.{AreTiles}
use Rattle.mesh_types.specs.WholeMesh.{tile_across, links_over, cross_links}
use Rattle.mesh_types.proofs.LinksInOrder.{All-ordered_links, ordered_links-count}
use Rattle.tile_links.specs.KeptLinks.{KeepsOld, leads_to_old}
use Rattle.tile_links.specs.Loose.{loose_links, loose_over, HasGained}
use Rattle.tile_links.specs.NewTiles.{New, is_new, is_new_across, tile_after, tiles_after}
use Rattle.tile_links.proofs.LooseLinks.{loose_all}
use Rattle.tile_links.proofs.ReplacedTiles.{same_at, stays}

-- of the elements that pass one test, those that pass another pass both
count_filter : {X : Type 0} (p q : X → Bool) (xs : List X) → count_by p (filter q xs) ≡ count_by (λ x. q x && p x) xs
count_filter p q [] = refl
count_filter {X = X} p q (x ∷ xs) =
    by_test (q x) (filter q xs) (count_filter p q xs) ∙ sym (sum_by-cons (λ y. cond (q y && p y) 1 0) x xs)
  where
    by_test : (b : Bool) (ys : List X) → count_by p ys ≡ count_by (λ y. q y && p y) xs
        → count_by p (cond b (x ∷ ys) ys) ≡ cond (b && p x) 1 0 + count_by (λ y. q y && p y) xs
    by_test true ys same = sum_by-cons (λ y. cond (p y) 1 0) x ys ∙ ap (λ n. cond (p x) 1 0 + n) same
    by_test false ys same = omega (arith, same)

-- tests that agree at each element pass as many
count_same : {X : Type 0} (p q : X → Bool) (xs : List X) → All (λ x. p x ≡ q x) xs → count_by p xs ≡ count_by q xs
count_same p q [] each = refl
count_same p q (x ∷ xs) each =
    sum_by-cons (λ y. cond (p y) 1 0) x xs
    ∙ (λ i. cond (All-head (λ y. p y ≡ q y) x xs each i) 1 0 + count_same p q xs (All-tail (λ y. p y ≡ q y) x xs each) i)
    ∙ sym (sum_by-cons (λ y. cond (q y) 1 0) x xs)

count_never : {X : Type 0} (xs : List X) → count_by (λ (x : X). false) xs ≡ 0
count_never [] = refl
count_never {X = X} (x ∷ xs) = sum_by-cons (λ (y : X). 0) x xs ∙ omega (arith, count_never xs)

-- parts of which each passes as much as another, where it is taken, and nothing where it is not
count_parts : {X Y : Type 0} (r p : Y → Bool) (g f : X → List Y) (n : X → Bool) (xs : List X)
    → ((x : X) → count_by r (g x) ≡ count_by p (cond (n x) (f x) [])) → count_by r (flat_map g xs) ≡ count_by p (flat_map f (filter n xs))
count_parts r p g f n [] each = refl
count_parts {X = X} r p g f n (x ∷ xs) each =
    sum_by-append (λ y. cond (r y) 1 0) (g x) (flat_map g xs)
    ∙ by_test (n x) (filter n xs) (each x) (count_parts r p g f n xs each)
  where
    by_test : (b : Bool) (ys : List X) → count_by r (g x) ≡ count_by p (cond b (f x) []) → count_by r (flat_map g xs) ≡ count_by p (flat_map f ys)
        → count_by r (g x) + count_by r (flat_map g xs) ≡ count_by p (flat_map f (cond b (x ∷ ys) ys))
    by_test true ys first rest = omega (arith, first, rest, sum_by-append (λ y. cond (p y) 1 0) (f x) (flat_map f ys))
    by_test false ys first rest = omega (arith, first, rest)

-- what is gathered over some elements and over the others is all
count_both : {X Y : Type 0} (p : Y → Bool) (f : X → List Y) (q : X → Bool) (xs : List X)
    → count_by p (flat_map f xs) ≡ count_by p (flat_map f (filter (λ x. not (q x)) xs)) + count_by p (flat_map f (filter q xs))
count_both p f q [] = refl
count_both {X = X} p f q (x ∷ xs) =
    sum_by-append (λ y. cond (p y) 1 0) (f x) (flat_map f xs)
    ∙ by_test (q x) (filter (λ y. not (q y)) xs) (filter q xs) (count_both p f q xs)
  where
    by_test : (b : Bool) (ys zs : List X) → count_by p (flat_map f xs) ≡ count_by p (flat_map f ys) + count_by p (flat_map f zs)
        → count_by p (f x) + count_by p (flat_map f xs)
        ≡ count_by p (flat_map f (cond (not b) (x ∷ ys) ys)) + count_by p (flat_map f (cond b (x ∷ zs) zs))
    by_test true ys zs rest = omega (arith, rest, sum_by-append (λ y. cond (p y) 1 0) (f x) (flat_map f zs))
    by_test false ys zs rest = omega (arith, rest, sum_by-append (λ y. cond (p y) 1 0) (f x) (flat_map f ys))

-- so links over the sides that nothing is new across, and those over the others, are those over all
pub others_gained : (f : ℕ → List Link) (q : ℕ → Bool) (sides : List ℕ) (kept others : List Link) → HasGained [] (flat_map f (filter (λ side. not (q side)) sides)) kept
    → others ≡ flat_map f (filter q sides) → HasGained kept others (flat_map f sides)
others_gained f q sides kept others held is p =
    count_both p f q sides
    ∙ omega (arith, held p, sum_by-append (λ link. cond (p link) 1 0) kept others, ap (count_by p) is)

-- the links to the tile across a side lead there
leads_across : (tile other : TileMesh) (side : ℕ) → All (λ (link : Link). link.to.tile ≡ other.tile) (border_links tile other side)
unfolding border_links
leads_across tile other side =
    All-ordered_links (λ (link : Link). link.to.tile ≡ other.tile) (loose_links tile other side)
    (loose_all (λ (link : Link). link.to.tile ≡ other.tile) (λ entry. ℕ) (λ entry. ℕ) tile other side (λ k d there. 0) (λ k d there. 0)
    (λ entry across in_rim on in_other opposite'.
    All-map (λ (link : Link). link.to.tile ≡ other.tile) (border_link tile other side entry across) (runs_of (meetings entry across)) (λ k d there. refl)))

-- as many of them pass as of those that were found
border_count : (p : Link → Bool) (tile other : TileMesh) (side : ℕ) → count_by p (border_links tile other side) ≡ count_by p (loose_links tile other side)
unfolding border_links
border_count p tile other side = ordered_links-count p (loose_links tile other side)

-- of the links to the tile across a side all are kept where there is no new one for it, and none where there is
border_kept : (news : List New) (p : Link → Bool) (tile other : TileMesh) (side place : ℕ) → other.tile ≡ place
    → count_by (λ link. leads_to_old news link && p link) (border_links tile other side)
    ≡ count_by p (cond (not (is_new news place)) (loose_links tile other side) [])
border_kept news p tile other side place is =
    count_same (λ link. leads_to_old news link && p link) (λ link. not (is_new news place) && p link) (border_links tile other side)
    (λ k d there. ap (λ (n : ℕ). not (is_new news n) && p (get_or (border_links tile other side) k d)) (leads_across tile other side k d there ∙ is))
    ∙ border_count (λ link. not (is_new news place) && p link) tile other side
    ∙ by_test (not (is_new news place))
  where
    by_test : (b : Bool) → count_by (λ link. b && p link) (loose_links tile other side) ≡ count_by p (cond b (loose_links tile other side) [])
    by_test true = refl
    by_test false = count_never (loose_links tile other side)

nothing_kept : (p : Link → Bool) (b : Bool) → 0 ≡ count_by p (cond b [] [])
nothing_kept p true = refl
nothing_kept p false = refl

-- the same over a side of a tile, once the new ones have come
over_side_kept : (setting : Setting) (news : List New) (tiles : List TileMesh) (tile : TileMesh) (p : Link → Bool) (side : ℕ) → AreTiles setting tiles
    → count_by (λ link. leads_to_old news link && p link) (links_over setting tiles tile side)
    ≡ count_by p (cond (not (is_new_across setting news tile.tile side)) (loose_over setting (tiles_after news tiles) tile side) [])
over_side_kept setting news tiles tile p side are = by_across (tile_across setting tile.tile side)
  where
    by_tile : (place : ℕ) (found : Option TileMesh) → slice_get tiles place ≡ found
        → count_by (λ link. leads_to_old news link && p link) (option_map_or (λ (other : TileMesh). border_links tile other side) found [])
        ≡ count_by p (cond (not (is_new news place)) (option_map_or (λ (other : TileMesh). loose_links tile other side) found []) [])
    by_tile place None none = nothing_kept p (not (is_new news place))
    by_tile place (Some other) there =
        border_kept news p tile other side place
        (ap (λ (t : TileMesh). t.tile) (sym (get_or_from_slice_get tiles place other other there))
        ∙ are.in_order place other (slice_get_within tiles place other there))

    after : (place : ℕ) (b : Bool) → is_new news place ≡ b
        → cond (not b) (option_map_or (λ (other : TileMesh). loose_links tile other side) (slice_get tiles place) []) []
        ≡ cond (not b) (option_map_or (λ (other : TileMesh). loose_links tile other side) (slice_get (tiles_after news tiles) place) []) []
    after place true new = refl
    after place false old =
        ap (λ (found : Option TileMesh). option_map_or (λ (other : TileMesh). loose_links tile other side) found []) (sym (same_at setting news tiles place are old))

    by_across : (found : Option ℕ)
        → count_by (λ link. leads_to_old news link && p link)
        (option_map_or (λ (other : TileMesh). border_links tile other side) (option_and_then (slice_get tiles) found) [])
        ≡ count_by p (cond (not (option_map_or (is_new news) found false))
        (option_map_or (λ (other : TileMesh). loose_links tile other side) (option_and_then (slice_get (tiles_after news tiles)) found) []) [])
    by_across None = refl
    by_across (Some place) = by_tile place (slice_get tiles place) refl ∙ ap (count_by p) (after place (is_new news place) refl)

-- so the links that a tile had hold those over the sides across which nothing is new
keeps_old : (setting : Setting) (news : List New) (tiles : List TileMesh) (tile : TileMesh) → AreTiles setting tiles
    → KeepsOld setting news (tiles_after news tiles) tile (cross_links setting tiles tile)
keeps_old setting news tiles tile are p =
    count_filter p (leads_to_old news) (cross_links setting tiles tile)
    ∙ ordered_links-count (λ link. leads_to_old news link && p link) (flat_map (links_over setting tiles tile) (range_with_len 0 4))
    ∙ count_parts (λ link. leads_to_old news link && p link) p (links_over setting tiles tile) (loose_over setting (tiles_after news tiles) tile)
    (λ side. not (is_new_across setting news tile.tile side)) (range_with_len 0 4)
    (λ side. over_side_kept setting news tiles tile p side are)

-- and those of a whole mesh do so
pub links_keep_old : (setting : Setting) (news : List New) (tiles : List TileMesh) (t : ℕ) (d : List Link) (e : TileMesh) → AreTiles setting tiles
    → t < length (tiles_after news tiles) → is_new news t ≡ false
    → KeepsOld setting news (tiles_after news tiles) (get_or (tiles_after news tiles) t e) (get_or (map (cross_links setting tiles) tiles) t d)
links_keep_old setting news tiles t d e are there old =
    let within : t < length tiles = omega (arith, there, length-map tiles (tile_after news)) in
    let tile : TileMesh = get_or tiles t e in
    let here = get_or-map (tile_after news) tiles t e e within
    ∙ stays news tile (ap (is_new news) (are.in_order t e within) ∙ old) in
    let links = get_or-map (cross_links setting tiles) tiles t e d within in
    subst (λ (t' : TileMesh). KeepsOld setting news (tiles_after news tiles) t' (get_or (map (cross_links setting tiles) tiles) t d)) (sym here)
    (subst (λ (ls : List Link). KeepsOld setting news (tiles_after news tiles) tile ls) (sym links) (keeps_old setting news tiles tile are))

-- one more side that is looked at
pub one_more_side : (q : ℕ → Bool) (n : ℕ) (b : Bool) (sides : List ℕ) → sides ≡ filter q (range_with_len 0 n) → q n ≡ b
    → sides ++ cond b (n ∷ []) [] ≡ filter q (range_with_len 0 (n + 1))
one_more_side q n b sides so_far is =
    (λ i. so_far i ++ cond (sym is i) (n ∷ []) [])
    ∙ sym (filter-append q (range_with_len 0 n) (n ∷ []))
    ∙ ap (λ k. filter q (range_with_len 0 n ++ k ∷ [])) {x = n} {y = 0 + n} (omega arith)
    ∙ ap (filter q) (sym (range-push 0 n))

pub no_more_side : (q : ℕ → Bool) (n : ℕ) (sides : List ℕ) → sides ≡ filter q (range_with_len 0 n) → q n ≡ false
    → sides ≡ filter q (range_with_len 0 (n + 1))
no_more_side q n sides so_far is = sym (append-nil sides) ∙ one_more_side q n false sides so_far is

-- the tile and the links at a place
pub old_here : (setting : Setting) (news : List New) (tiles : List TileMesh) (cross : List (List Link)) (place : ℕ) (tile : TileMesh) (own : List Link)
    → AreTiles setting tiles → place < length tiles → tile ≡ get_or tiles place tile → own ≡ get_or cross place own
    → ((d : List Link) (e : TileMesh) → is_new news place ≡ false → KeepsOld setting news tiles (get_or tiles place e) (get_or cross place d))
    → is_new news tile.tile ≡ false → KeepsOld setting news tiles tile own
old_here setting news tiles cross place tile own are there is same held none =
    let number : tile.tile ≡ place = ap (λ (t : TileMesh). t.tile) is ∙ are.in_order place tile there in
    subst (λ (t : TileMesh). KeepsOld setting news tiles t own) (sym is)
    (subst (λ (ls : List Link). KeepsOld setting news tiles (get_or tiles place tile) ls) (sym same)
    (held own tile (ap (is_new news) (sym number) ∙ none)))

-- once the links over all sides that are to be made have come, those over all four are there
pub all_gained : (f : ℕ → List Link) (sides : List Direction) (i : ℕ) (known all links : List Link) → length sides ≤ i
    → HasGained known (flat_map f (map number (take i sides))) links → HasGained known (flat_map f (map number sides)) all → HasGained [] all links
all_gained f sides i known all links past gained others p =
    gained p ∙ ap (λ (xs : List Direction). count_by p (known ++ flat_map f (map number xs))) (take_all i sides past) ∙ sym (others p)

-- where none are known, all sides are to be made
pub none_known : (f : ℕ → List Link) (known : List Link) → known ≡ [] → HasGained known (flat_map f (range_with_len 0 4)) (flat_map f (range_with_len 0 4))
none_known f known none p = ap (λ (links : List Link). count_by p (links ++ flat_map f (range_with_len 0 4))) (sym none)
