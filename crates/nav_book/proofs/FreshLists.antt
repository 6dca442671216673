-- Fresh tile meshes as a list with the numbers of their tiles: what putting one in changes, and that the places give the list again.
use Rattle.std.proofs.Common.{◌≡◌, ◌≢◌, ℕ, zero, suc, ◌+◌, ◌<◌, ◌≤◌, List, [], ◌∷◌, ◌++◌, length, map, get_or, set, take, drop, replicate, cond, Option, Some, None, Result, Ok, Err, false, ap, ap₂, ◌∙◌, refl, sym, subst, ⊎_elim, arith, tests}
use Rattle.std.specs.Prelude.{All, Bool, ◌==◌}
use Rattle.std.specs.List.{find, insert, range_with_len}
use Rattle.std.specs.List.Sorted.{IsBinarySearchResult, IsSearchInRange}
use Rattle.std.specs.Option.{option_map}
use Rattle.std.specs.Ordering.{nat_cmp, ordering_index}
use Rattle.std.specs.Result.{MatchResult}
use Rattle.core.specs.Result.{is_ok}
use Rattle.std.specs.declared.cmp.Ordering.TheVariants.{Less, Equal, Greater}
use Rattle.std.proofs.lemmas.Bool.{cases_eq, cases_order, cond-false, cond-true, eq-eqb, ne_eqb, true≢false}
use Rattle.std.proofs.lemmas.Cmp.{ranked}
use Rattle.std.proofs.lemmas.List.{ext_get_or, get_or-drop, get_or-set_other, get_or-set_same, get_or-take, get_or_append_left, length-append, length-drop, length-set, length-take, set-get_or, set_split, take-append-drop}
use Rattle.std.proofs.lemmas.List.Edits.{length-insert}
use Rattle.std.proofs.lemmas.List.Elements.{All-append, All-cons, All-head, All-set, All-tail, All-weaker}
use Rattle.std.proofs.lemmas.List.FromFn.{get_or-map-range_with_len, length-map-range_with_len}
use Rattle.std.proofs.lemmas.List.Kept.{AllPairs-cons}
use Rattle.mesh_types.specs.declared.mesh.TileMesh.{TileMesh}
use Rattle.tile_links.specs.NewTiles.{New, AreRising, new_tile}
use Rattle.nav_book.specs.Fresh.{AreKeptFresh, IsGapFor, IsPlaceOf, news_from, news_of, places_of}

-- the test of a number
abbrev has_number : ℕ → New → Bool
has_number number new = new.0 == number

-- the mesh of a look-up
abbrev mesh_in : Option New → Option TileMesh
mesh_in found = option_map (λ (new : New). new.1) found

-- ---- looking up

none_among : (k : ℕ) (news : List New) → All (λ (new : New). new.0 ≢ k) news → find (has_number k) news ≡ None
none_among k [] apart = refl
none_among k (new ∷ news) apart =
    cond-false (new.0 == k) (Some new) (find (has_number k) news) (ne_eqb new.0 k (All-head (λ (n : New). n.0 ≢ k) new news apart))
    ∙ none_among k news (All-tail (λ (n : New). n.0 ≢ k) new news apart)

-- one that is put between others is found by its number, and does not change what is found by another
found_between : (before after : List New) (new : New) (k : ℕ) → All (λ (n : New). n.0 ≢ k) before → new.0 ≡ k
    → find (has_number k) (before ++ new ∷ after) ≡ Some new
found_between [] after new k apart same = cond-true (new.0 == k) (Some new) (find (has_number k) after) (eq-eqb new.0 k same)
found_between (first ∷ before) after new k apart same =
    cond-false (first.0 == k) (Some first) (find (has_number k) (before ++ new ∷ after)) (ne_eqb first.0 k (All-head (λ (n : New). n.0 ≢ k) first before apart))
    ∙ found_between before after new k (All-tail (λ (n : New). n.0 ≢ k) first before apart) same

others_found : (before after : List New) (new : New) (k : ℕ) → new.0 ≢ k → find (has_number k) (before ++ new ∷ after) ≡ find (has_number k) (before ++ after)
others_found [] after new k apart = cond-false (new.0 == k) (Some new) (find (has_number k) after) (ne_eqb new.0 k apart)
others_found (first ∷ before) after new k apart = ap (λ (found : Option New). cond (first.0 == k) (Some first) found) (others_found before after new k apart)

-- ---- places after a mesh was put in

pub tile_there : (tiles : ℕ) (news : List New) (places : List (Option TileMesh)) (tile : ℕ) → places_of tiles news ≡ places → tile < length places → tile < tiles
tile_there tiles news places tile is there = omega (arith, there, ap length is, length-map-range_with_len (new_tile news) 0 tiles)

places_put : (tiles : ℕ) (old new : List New) (tile : ℕ) (mesh : TileMesh) → tile < tiles → new_tile new tile ≡ Some mesh
    → ((k : ℕ) → k ≢ tile → new_tile new k ≡ new_tile old k) → places_of tiles new ≡ set (places_of tiles old) tile (Some mesh)
places_put tiles old new tile mesh there here others =
    let each_old = length-map-range_with_len (new_tile old) 0 tiles in
    let each_new = length-map-range_with_len (new_tile new) 0 tiles in
    ext_get_or None (places_of tiles new) (set (places_of tiles old) tile (Some mesh)) (each_new ∙ sym (length-set (places_of tiles old) tile (Some mesh) ∙ each_old))
    (λ k within.
    let inside : k < tiles = omega (arith, within, each_new) in
    get_or-map-range_with_len (new_tile new) 0 tiles k k None inside (omega arith)
    ∙ ⊎_elim
    (λ same. ap (new_tile new) same ∙ here ∙ sym (get_or-set_same (places_of tiles old) tile (Some mesh) None (omega (arith, there, each_old)))
    ∙ ap (λ (n : ℕ). get_or (set (places_of tiles old) tile (Some mesh)) n None) (sym same))
    (λ apart. others k apart ∙ sym (get_or-map-range_with_len (new_tile old) 0 tiles k k None inside (omega arith))
    ∙ sym (get_or-set_other (places_of tiles old) tile k (Some mesh) None apart))
    (cases_eq k tile))

-- a number stands in a list once
others_before : (news : List New) (tile place : ℕ) → AreRising news → IsPlaceOf news tile place → All (λ (new : New). new.0 ≢ tile) (take place news)
others_before news tile place rising is i d there =
    let within : i < place = omega (arith, there, length-take place news) in
    subst (λ (n : New). n.0 ≢ tile) (sym (get_or-take place news i d within))
    (λ same. omega (arith, same, rising i place d within is.there, is.number d))

-- the mesh of a tile in place of the one that it has
pub put_there : (tiles : ℕ) (news : List New) (tile place : ℕ) (mesh : TileMesh) → tile < tiles → AreRising news → IsPlaceOf news tile place
    → places_of tiles (set news place (tile, mesh)) ≡ set (places_of tiles news) tile (Some mesh)
put_there tiles news tile place mesh there rising is =
    let new : New = (tile, mesh) in
    let old : New = get_or news place new in
    let before = take place news in
    let after = drop (suc place) news in
    let split : set news place new ≡ before ++ new ∷ after = set_split news place new is.there in
    let was : news ≡ before ++ old ∷ after = sym (set-get_or news place new) ∙ set_split news place old is.there in
    places_put tiles news (set news place new) tile mesh there
    (ap (λ (xs : List New). new_tile xs tile) split ∙ ap mesh_in (found_between before after new tile (others_before news tile place rising is) refl))
    (λ k apart.
    ap (λ (xs : List New). new_tile xs k) split ∙ ap mesh_in (others_found before after new k (λ same. apart (sym same)))
    ∙ ap mesh_in (sym (others_found before after old k (λ same. apart (sym same ∙ is.number new)))) ∙ ap (λ (xs : List New). new_tile xs k) (sym was))

-- the mesh of a tile that has none
pub put_between : (tiles : ℕ) (news : List New) (tile place : ℕ) (mesh : TileMesh) → tile < tiles → IsGapFor news tile place
    → places_of tiles (insert news place (tile, mesh)) ≡ set (places_of tiles news) tile (Some mesh)
put_between tiles news tile place mesh there is =
    let new : New = (tile, mesh) in
    let before = take place news in
    let after = drop place news in
    places_put tiles news (insert news place new) tile mesh there
    (ap mesh_in
    (found_between before after new tile (All-weaker (λ (n : New). n.0 < tile) (λ (n : New). n.0 ≢ tile) (λ n less same. omega (arith, less, same)) before is.low) refl))
    (λ k apart.
    ap mesh_in (others_found before after new k (λ same. apart (sym same))) ∙ ap (λ (xs : List New). new_tile xs k) (take-append-drop place news))

-- the place of a tile that has none is empty
none_in_gap : (tiles : ℕ) (news : List New) (tile place : ℕ) → tile < tiles → IsGapFor news tile place
    → get_or (places_of tiles news) tile None ≡ None
none_in_gap tiles news tile place there is =
    let before = take place news in
    let after = drop place news in
    get_or-map-range_with_len (new_tile news) 0 tiles tile tile None there (omega arith)
    ∙ ap (λ (them : List New). new_tile them tile) (sym (take-append-drop place news))
    ∙ ap mesh_in (none_among tile (before ++ after)
    (All-append (λ (n : New). n.0 ≢ tile) before after
    (All-weaker (λ (n : New). n.0 < tile) (λ (n : New). n.0 ≢ tile) (λ n less same. omega (arith, less, same)) before is.low)
    (All-weaker (λ (n : New). tile < n.0) (λ (n : New). n.0 ≢ tile) (λ n more same. omega (arith, more, same)) after is.high)))

pub empty_place : (tiles : ℕ) (news : List New) (places : List (Option TileMesh)) (tile : ℕ) (found : Result ℕ ℕ) → places_of tiles news ≡ places
    → tile < length places → MatchResult found (IsPlaceOf news tile) (IsGapFor news tile) → is_ok found ≡ false → get_or places tile None ≡ None
empty_place tiles news places tile (Ok place) are there is off = absurd (true≢false off)
empty_place tiles news places tile (Err place) are there is off =
    ap (λ (them : List (Option TileMesh)). get_or them tile None) (sym are) ∙ none_in_gap tiles news tile place (tile_there tiles news places tile are there) is

-- ---- the list after a mesh was put in

-- the numbers are as before
number_kept : (news : List New) (tile place : ℕ) (mesh : TileMesh) (i : ℕ) (d : New) → IsPlaceOf news tile place
    → (get_or (set news place (tile, mesh)) i d).0 ≡ (get_or news i d).0
number_kept news tile place mesh i d is = ⊎_elim
    (λ same.
    ap (λ (k : ℕ). (get_or (set news place (tile, mesh)) k d).0) same ∙ ap (λ (n : New). n.0) (get_or-set_same news place (tile, mesh) d is.there)
    ∙ sym (is.number d) ∙ ap (λ (k : ℕ). (get_or news k d).0) (sym same))
    (λ apart. ap (λ (n : New). n.0) (get_or-set_other news place i (tile, mesh) d apart))
    (cases_eq i place)

pub kept_there : (tiles room : ℕ) (news : List New) (tile place : ℕ) (mesh : TileMesh) → tile < tiles → AreKeptFresh tiles room news → IsPlaceOf news tile place
    → AreKeptFresh tiles room (set news place (tile, mesh))
kept_there tiles room news tile place mesh there kept is = record {
  rising = λ i j d less within.
      omega (
        arith,
        number_kept news tile place mesh i d is,
        number_kept news tile place mesh j d is,
        kept.rising i j d less (omega (arith, within, length-set news place (tile, mesh))),
      );
  there = All-set (λ (new : New). new.0 < tiles) news place (tile, mesh) there kept.there;
  enough = kept.enough;
}

rising_between : (before after : List New) (new : New) → AreRising (before ++ after) → All (λ (n : New). n.0 < new.0) before
    → All (λ (n : New). new.0 < n.0) after → AreRising (before ++ new ∷ after)
rising_between [] after new rising low high = AllPairs-cons (λ (a b : New). a.0 < b.0) new after high rising
rising_between (first ∷ before) after new rising low high =
    let less : first.0 < new.0 = All-head (λ (n : New). n.0 < new.0) first before low in
    AllPairs-cons (λ (a b : New). a.0 < b.0) first (before ++ new ∷ after)
    (All-append (λ (n : New). first.0 < n.0) before (new ∷ after)
    (λ i d there.
    subst (λ (n : New). first.0 < n.0) (get_or_append_left before after d i there)
    (rising 0 (suc i) d (omega arith) (omega (arith, there, length-append before after))))
    (All-cons (λ (n : New). first.0 < n.0) new after less
    (All-weaker (λ (n : New). new.0 < n.0) (λ (n : New). first.0 < n.0) (λ n above. omega (arith, above, less)) after high)))
    (rising_between before after new (λ i j d apart within. rising (suc i) (suc j) d (omega (arith, apart)) (omega (arith, within)))
    (All-tail (λ (n : New). n.0 < new.0) first before low) high)

pub kept_between : (tiles room more : ℕ) (news : List New) (tile place : ℕ) (mesh : TileMesh) → tile < tiles → AreKeptFresh tiles room news → room ≤ more
    → IsGapFor news tile place → AreKeptFresh tiles more (insert news place (tile, mesh))
kept_between tiles room more news tile place mesh there kept grown is = record {
  rising = rising_between (take place news) (drop place news) (tile, mesh) (subst AreRising (sym (take-append-drop place news)) kept.rising) is.low is.high;
  there = All-append (λ (new : New). new.0 < tiles) (take place news) ((tile, mesh) ∷ drop place news)
      (All-weaker (λ (new : New). new.0 < tile) (λ (new : New). new.0 < tiles) (λ n less. omega (arith, less, there)) (take place news) is.low)
      (All-cons (λ (new : New). new.0 < tiles) (tile, mesh) (drop place news) there
      (λ i d within.
      subst (λ (n : New). n.0 < tiles) (sym (get_or-drop place news i d)) (kept.there (place + i) d (omega (arith, within, length-drop place news)))));
  enough = omega (arith, kept.enough, grown);
}

-- rising numbers are no fewer than their places, so there are no more of them than tiles
at_least : (news : List New) (i : ℕ) (d : New) → AreRising news → i < length news → i ≤ (get_or news i d).0
at_least news zero d rising there = omega arith
at_least news (suc i) d rising there =
    let before = at_least news i d rising (omega (arith, there)) in
    omega (arith, before, rising i (suc i) d (omega arith) there)

few : (tiles : ℕ) (news : List New) → AreRising news → All (λ (new : New). new.0 < tiles) news → length news ≤ tiles
few tiles [] rising below = omega arith
few tiles (new ∷ news) rising below =
    let last = at_least (new ∷ news) (length news) new rising (omega arith) in
    omega (arith, last, below (length news) new (omega arith))

-- so there is room for the mesh of a tile that has none
pub has_room : (tiles room : ℕ) (news : List New) (tile place : ℕ) (mesh : TileMesh) → tile < tiles → AreKeptFresh tiles room news → IsGapFor news tile place
    → length news < room
has_room tiles room news tile place mesh there kept is =
    let after = kept_between tiles room room news tile place mesh there kept (omega arith) is in
    let most = few tiles (insert news place (tile, mesh)) after.rising after.there in
    omega (arith, most, length-insert news place (tile, mesh) is.within, kept.enough)

-- ---- no mesh

empty_from : (first tiles : ℕ) → map (new_tile []) (range_with_len first tiles) ≡ replicate tiles None
empty_from first zero = refl
empty_from first (suc tiles) = ap (λ (places : List (Option TileMesh)). None ∷ places) (empty_from (first + 1) tiles)

pub all_empty : (tiles : ℕ) (news : List New) → news ≡ [] → places_of tiles news ≡ replicate tiles None
all_empty tiles news none = ap (places_of tiles) none ∙ empty_from 0 tiles

-- as many empty places as there were
pub emptied : (tiles : ℕ) (old new : List New) → new ≡ [] → places_of tiles new ≡ replicate (length (places_of tiles old)) None
emptied tiles old new none = all_empty tiles new none ∙ ap (λ (n : ℕ). replicate n None) (sym (length-map-range_with_len (new_tile old) 0 tiles))

pub kept_empty : (tiles room : ℕ) (news : List New) → news ≡ [] → tiles ≤ room → AreKeptFresh tiles room news
kept_empty tiles room news none more = subst (AreKeptFresh tiles room) (sym none) (record {
  rising = λ i j d apart within. absurd (omega (arith, within));
  there = λ i d within. absurd (omega (arith, within));
  enough = more;
})

-- ---- the list again

-- a number that is looked up past the first
past_first : (new : New) (news : List New) (first tiles : ℕ) → new.0 < first
    → map (new_tile (new ∷ news)) (range_with_len first tiles) ≡ map (new_tile news) (range_with_len first tiles)
past_first new news first zero less = refl
past_first new news first (suc tiles) less =
    ap₂ (λ (place : Option TileMesh) (places : List (Option TileMesh)). place ∷ places)
    (ap mesh_in (cond-false (new.0 == first) (Some new) (find (has_number first) news) (ne_eqb new.0 first (λ same. omega (arith, same, less)))))
    (past_first new news (first + 1) tiles (omega (arith, less)))

again_from : (news : List New) (first tiles : ℕ) → AreRising news → All (λ (new : New). first ≤ new.0) news → All (λ (new : New). new.0 < first + tiles) news
    → news_from first (map (new_tile news) (range_with_len first tiles)) ≡ news
again_from [] first zero rising low high = refl
again_from (new ∷ news) first zero rising low high =
    let least = low 0 new (omega arith) in
    let most = high 0 new (omega arith) in
    absurd (omega (arith, least, most))
again_from [] first (suc tiles) rising low high =
    again_from [] (first + 1) tiles rising (λ i d within. absurd (omega (arith, within))) (λ i d within. absurd (omega (arith, within)))
again_from (new ∷ news) first (suc tiles) rising low high = ⊎_elim
    (λ same.
    let here : new_tile (new ∷ news) first ≡ Some new.1 =
    ap mesh_in (cond-true (new.0 == first) (Some new) (find (has_number first) news) (eq-eqb new.0 first same)) in
    ap (λ (place : Option TileMesh). news_from first (place ∷ map (new_tile (new ∷ news)) (range_with_len (first + 1) tiles))) here
    ∙ ap (λ (places : List (Option TileMesh)). news_from first (Some new.1 ∷ places)) (past_first new news (first + 1) tiles (omega (arith, same)))
    ∙ ap (λ (rest : List New). (first, new.1) ∷ rest)
    (again_from news (first + 1) tiles (λ i j d apart within. rising (suc i) (suc j) d (omega (arith, apart)) (omega (arith, within)))
    (λ i d within. omega (arith, same, rising 0 (suc i) d (omega arith) (omega (arith, within))))
    (λ i d within. omega (arith, high (suc i) d (omega (arith, within)))))
    ∙ ap (λ (number : ℕ). (number, new.1) ∷ news) (sym same))
    (λ apart.
    let above : first < new.0 = omega (arith, apart, low 0 new (omega arith)) in
    let none : new_tile (new ∷ news) first ≡ None =
    ap mesh_in
    (none_among first (new ∷ news)
    (All-cons (λ (n : New). n.0 ≢ first) new news apart (λ i d within same. omega (arith, same, above, rising 0 (suc i) d (omega arith) (omega (arith, within)))))) in
    ap (λ (place : Option TileMesh). news_from first (place ∷ map (new_tile (new ∷ news)) (range_with_len (first + 1) tiles))) none
    ∙ again_from (new ∷ news) (first + 1) tiles rising
    (All-cons (λ (n : New). first + 1 ≤ n.0) new news (omega (arith, above)) (λ i d within. omega (arith, above, rising 0 (suc i) d (omega arith) (omega (arith, within)))))
    (λ i d within. omega (arith, high i d within)))
    (cases_eq new.0 first)

pub again : (tiles room : ℕ) (news : List New) → AreKeptFresh tiles room news → news_of (places_of tiles news) ≡ news
again tiles room news kept =
    again_from news 0 tiles kept.rising (λ i d within. omega arith) (λ i d within. omega (arith, kept.there i d within))

-- ---- what a search by halves finds

pub searched : (news : List New) (tile : ℕ) (found : Result ℕ ℕ) → AreRising news → IsSearchInRange found (length news)
    → IsBinarySearchResult (λ (new : New). nat_cmp new.0 tile) news found → MatchResult found (IsPlaceOf news tile) (IsGapFor news tile)
searched news tile (Ok i) rising there equal = record { there = there; number = λ d. ranked (get_or news i d).0 tile Equal (sym (equal d)) }
searched news tile (Err i) rising there parts =
    let point = parts (λ i j d le last. higher (get_or news i d).0 (get_or news j d).0 (not_above i j d le last)) in
    record {
      within = there;
      low = λ k d within.
          let less : k < i = omega (arith, within, length-take i news) in
          subst (λ (n : New). n.0 < tile) (sym (get_or-take i news k d less)) (ranked (get_or news k d).0 tile Less (sym (point.0 k d (omega arith) less)));
      high = λ k d within.
          subst (λ (n : New). tile < n.0) (sym (get_or-drop i news k d))
          (ranked (get_or news (i + k) d).0 tile Greater (sym (point.1 (i + k) d (omega arith) (omega (arith, within, length-drop i news)))));
    }
  where
    higher : (a b : ℕ) → a ≤ b → ordering_index (nat_cmp a tile) ≤ ordering_index (nat_cmp b tile)
    higher a b le = grind (arith, tests)

    not_above : (i j : ℕ) (d : New) → i ≤ j → j < length news → (get_or news i d).0 ≤ (get_or news j d).0
    not_above i j d le within = ⊎_elim (λ e. omega (arith, ap (λ k. (get_or news k d).0) e))
        (⊎_elim (λ below. omega (arith, rising i j d below within)) (λ above. absurd (omega (arith, above, le)))) (cases_order i j)
