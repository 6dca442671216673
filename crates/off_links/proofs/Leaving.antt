-- The off-mesh links that leave a polygon stand together, after those that leave earlier ones.
use Rattle.std.proofs.Common.{◌≡◌, ℕ, ◌+◌, ◌<◌, ◌≤◌, Bool, true, false, List, ◌++◌, length, take, drop, filter, get_or, sym, ap, ◌∙◌, arith}
use Rattle.std.specs.Prelude.{◌==◌, nat_lt}
use Rattle.std.specs.List.{All, AllWithin}
use Rattle.std.specs.List.Sorted.{IsPartitionedBy, IsPartitionPoint}
use Rattle.std.proofs.lemmas.Bool.{eqb-true, eq-eqb, ne_eqb, ltb-true, ltb-false, true≢false, false_from_ne_true}
use Rattle.std.proofs.lemmas.List.{take-append-drop, append-nil, get_or-take, get_or-drop, get_or_default, length-take, length-drop}
use Rattle.std.proofs.lemmas.List.Elements.{filter-append}
use Rattle.nav_ground.proofs.Selections.{filter_all, filter_none}
use Rattle.mesh_types.specs.declared.links.PolyRef.{PolyRef}
use Rattle.off_links.specs.declared.off_mesh_links.OffMeshLink.{OffMeshLink}
use Rattle.off_links.specs.OffMeshLinks.{AreInOrder, HasPlace, has_number, off_mesh_link_number, leaves, number_of}
use Rattle.off_links.proofs.Tests.{filter_same, number_test}

-- elements found by two places: after those that come early, those that are inside
parts : {X : Type 0} (early inside : X → Bool) (xs : List X) (first count : ℕ) → ((x : X) → early x ≡ true → inside x ≡ false)
    → IsPartitionPoint (λ (x : X). early x ≡ true) (λ (x : X). early x ≡ false) xs first
    → IsPartitionPoint (λ (x : X). inside x ≡ true) (λ (x : X). inside x ≡ false) (drop first xs) count
    → take count (drop first xs) ≡ filter inside xs
parts {X = X} early inside xs first count apart point place =
    sym (ap (filter inside) (sym (take-append-drop first xs))
    ∙ filter-append inside (take first xs) rest
    ∙ ap (λ (ys : List X). ys ++ filter inside rest) (filter_none inside (take first xs) before)
    ∙ ap (filter inside) (sym (take-append-drop count rest))
    ∙ filter-append inside (take count rest) (drop count rest)
    ∙ ap (λ (ys : List X). ys ++ filter inside (drop count rest)) (filter_all inside (take count rest) there)
    ∙ ap (λ (ys : List X). take count rest ++ ys) (filter_none inside (drop count rest) after)
    ∙ append-nil (take count rest))
  where
    rest : List X
    rest = drop first xs

    before : All (λ (x : X). inside x ≡ false) (take first xs)
    before k d within =
        let below : k < first = omega (arith, length-take first xs) in
        rw (get_or-take first xs k d below) (apart (get_or xs k d) (point.0 k d (omega arith) below))

    there : All (λ (x : X). inside x ≡ true) (take count (drop first xs))
    there k d within =
        let below : k < count = omega (arith, length-take count (drop first xs)) in
        rw (get_or-take count (drop first xs) k d below) (place.0 k d (omega arith) below)

    after : All (λ (x : X). inside x ≡ false) (drop count (drop first xs))
    after k d within =
        rw (get_or-drop count (drop first xs) k d)
        (place.1 (count + k) d (omega arith) (omega (arith, length-drop count (drop first xs))))

-- of those that are not early, those with a number stand first
pub own_first : (own : ℕ) (off_mesh_links : List OffMeshLink) (first : ℕ) → AreInOrder off_mesh_links
    → AllWithin (λ (off_mesh_link : OffMeshLink). nat_lt (off_mesh_link_number off_mesh_link) own ≡ false) off_mesh_links first (length off_mesh_links)
    → IsPartitionedBy (λ (off_mesh_link : OffMeshLink). off_mesh_link_number off_mesh_link == own) (drop first off_mesh_links)
own_first own off_mesh_links first order others i j d le within later =
    let there : first + j < length off_mesh_links = omega (arith, length-drop first off_mesh_links) in
    let at : (off_mesh_link_number (get_or off_mesh_links (first + j) d) == own) ≡ true = rw (← get_or-drop first off_mesh_links j d) later in
    let last = eqb-true (off_mesh_link_number (get_or off_mesh_links (first + j) d)) own at in
    let up : off_mesh_link_number (get_or off_mesh_links (first + i) d) ≤ off_mesh_link_number (get_or off_mesh_links (first + j) d) = order (first + i) (first + j) d (omega (arith, le)) there in
    let late = ltb-false (off_mesh_link_number (get_or off_mesh_links (first + i) d)) own (others (first + i) d (omega arith) (omega (arith, le, there))) in
    rw (get_or-drop first off_mesh_links i d) (eq-eqb (off_mesh_link_number (get_or off_mesh_links (first + i) d)) own (omega (arith, last, up, late)))

-- an off-mesh link by its number, whatever stands for one that is not there
pub own_at : (own : ℕ) (off_mesh_links : List OffMeshLink) (k : ℕ) (d e : OffMeshLink) → k < length off_mesh_links → off_mesh_link_number (get_or off_mesh_links k e) ≡ own
    → has_number own (get_or off_mesh_links k d) ≡ true
own_at own off_mesh_links k d e there same = eq-eqb (off_mesh_link_number (get_or off_mesh_links k d)) own (ap off_mesh_link_number (get_or_default off_mesh_links k d e there) ∙ same)

pub other_at : (own : ℕ) (off_mesh_links : List OffMeshLink) (k : ℕ) (d e : OffMeshLink) → k < length off_mesh_links → (off_mesh_link_number (get_or off_mesh_links k e) ≡ own → ⊥)
    → has_number own (get_or off_mesh_links k d) ≡ false
other_at own off_mesh_links k d e there apart =
    ne_eqb (off_mesh_link_number (get_or off_mesh_links k d)) own (λ same. apart (ap off_mesh_link_number (get_or_default off_mesh_links k e d there) ∙ same))

-- where those that pass a test come first, none passes after the first that fails
pub none_after : {X : Type 0} (p : X → Bool) (xs : List X) (k : ℕ) → IsPartitionedBy p xs → AllWithin (λ (x : X). p x ≡ true) xs 0 k
    → ((d : X) → p (get_or xs k d) ≡ false) → IsPartitionPoint (λ (x : X). p x ≡ true) (λ (x : X). p x ≡ false) xs k
none_after p xs k parted before fails =
    (before, λ i d late within. false_from_ne_true (p (get_or xs i d)) (λ passes. true≢false (sym (parted k i d late within passes) ∙ fails d)))

-- the off-mesh links found are those that leave the polygon
pub leaving_found : (off_mesh_links : List OffMeshLink) (at : PolyRef) (own first count : ℕ) → own ≡ number_of at → at.index < 4294967296 → All HasPlace off_mesh_links
    → IsPartitionPoint (λ (off_mesh_link : OffMeshLink). nat_lt (off_mesh_link_number off_mesh_link) own ≡ true) (λ (off_mesh_link : OffMeshLink). nat_lt (off_mesh_link_number off_mesh_link) own ≡ false) off_mesh_links first
    → IsPartitionPoint (λ (off_mesh_link : OffMeshLink). (off_mesh_link_number off_mesh_link == own) ≡ true) (λ (off_mesh_link : OffMeshLink). (off_mesh_link_number off_mesh_link == own) ≡ false) (drop first off_mesh_links) count
    → take count (drop first off_mesh_links) ≡ filter (leaves at) off_mesh_links
leaving_found off_mesh_links at own first count is low places point place =
    parts (λ (off_mesh_link : OffMeshLink). nat_lt (off_mesh_link_number off_mesh_link) own) (λ (off_mesh_link : OffMeshLink). off_mesh_link_number off_mesh_link == own) off_mesh_links first count
    (λ off_mesh_link early. ne_eqb (off_mesh_link_number off_mesh_link) own (λ same. apart (off_mesh_link_number off_mesh_link) own (ltb-true (off_mesh_link_number off_mesh_link) own early) same)) point place
    ∙ ap (λ (n : ℕ). filter (λ (off_mesh_link : OffMeshLink). off_mesh_link_number off_mesh_link == n) off_mesh_links) is
    ∙ filter_same (λ (off_mesh_link : OffMeshLink). off_mesh_link_number off_mesh_link == number_of at) (leaves at) off_mesh_links
    (λ k d there. number_test (get_or off_mesh_links k d).from at (places k d there) low)
  where
    apart : (m n : ℕ) → m < n → m ≡ n → ⊥
    apart m n less same = omega (arith, less, same)
