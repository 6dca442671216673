-- Rings by their places, once round and once more, and two rings that run along each other.
use Rattle.std.proofs.Common.{◌≡◌, ℕ, zero, suc, ◌+◌, ◌-◌, ◌<◌, ◌≤◌, Bool, true, false, cond, List, length, get_or, take, drop, ap, ◌∙◌, sym, refl, subst, arith, inl, inr}
use Rattle.std.specs.Prelude.{nat_lt, ◌==◌, not}
use Rattle.std.proofs.lemmas.Bool.{cases_lt, cases_order, cond-true, cond-false, eq-eqb, eqb-true, lt-ltb, le-ltb, ne_eqb}
use Rattle.std.proofs.lemmas.List.{get_or-map, get_or-drop, get_or-take, get_or_append_left, get_or-append_right, length-map, length-drop}
use Rattle.nav_base.specs.declared.point.Point.{Point}
use Rattle.nav_base.specs.Convex.{place_after}
use Rattle.mesh_types.specs.declared.region.Code.{Code}
use Rattle.mesh_types.specs.declared.region.Code.TheVariants.{Wall, Region, Side}
use Rattle.mesh_types.specs.declared.region.UnitEdge.{UnitEdge}
use Rattle.mesh_types.specs.Rings.{IsClosed, IsRing, beginnings, place_before}
use Rattle.mesh_types.specs.Simplified.{does_change, is_same, origin}

abbrev pub some_edge : UnitEdge
some_edge = record { from = origin; to = origin; code = Wall }

abbrev pub edge_at : List UnitEdge → ℕ → UnitEdge
edge_at edges k = get_or edges k some_edge

-- ---- places, once round and once more

abbrev pub turn : ℕ → ℕ → ℕ
turn n k = cond (nat_lt k n) k (k - n)

pub turn_low : (n k : ℕ) → k < n → turn n k ≡ k
turn_low n k low = cond-true (nat_lt k n) k (k - n) (lt-ltb k n low)

pub turn_high : (n k : ℕ) → n ≤ k → turn n k ≡ k - n
turn_high n k high = cond-false (nat_lt k n) k (k - n) (le-ltb k n high)

pub turn_inside : (n k : ℕ) → k < n + n → turn n k < n
turn_inside n k less = elim (cases_lt k n) [
  | inl low ↦ omega (arith, low, turn_low n k low)
  | inr high ↦ omega (arith, high, less, turn_high n k high)
]

after_last : (n k : ℕ) → k + 1 ≡ n → place_after n k ≡ 0
after_last n k last = cond-true (k + 1 == n) 0 (k + 1) (eq-eqb (k + 1) n last)

pub after_inner : (n k : ℕ) → k + 1 < n → place_after n k ≡ k + 1
after_inner n k inner = cond-false (k + 1 == n) 0 (k + 1) (ne_eqb (k + 1) n (λ e. omega (arith, e, inner)))

pub after_inside : (n k : ℕ) → k < n → place_after n k < n
after_inside n k less = elim (cases_lt (k + 1) n) [
  | inl inner ↦ omega (arith, inner, after_inner n k inner)
  | inr last ↦ omega (arith, less, after_last n k (omega (arith, last, less)))
]

-- the place after one is the next, round the ring
pub turn_next : (n k : ℕ) → k + 1 < n + n → place_after n (turn n k) ≡ turn n (k + 1)
turn_next n k less = elim (cases_lt k n) [
  | inl low ↦ ap (place_after n) (turn_low n k low) ∙ elim (cases_lt (k + 1) n) [
    | inl inner ↦ after_inner n k inner ∙ sym (turn_low n (k + 1) inner)
    | inr last ↦ after_last n k (omega (arith, last, low)) ∙ sym (turn_high n (k + 1) last ∙ omega (arith, last, low))
  ]
  | inr high ↦ ap (place_after n) (turn_high n k high) ∙ after_inner n (k - n) (omega (arith, high, less))
      ∙ sym (turn_high n (k + 1) (omega (arith, high)) ∙ omega (arith, high))
]

before_first : (n k : ℕ) → k ≡ 0 → place_before n k ≡ n - 1
before_first n k first = cond-true (k == 0) (n - 1) (k - 1) (eq-eqb k 0 first)

pub before_later : (n k : ℕ) → 0 < k → place_before n k ≡ k - 1
before_later n k later = cond-false (k == 0) (n - 1) (k - 1) (ne_eqb k 0 (λ e. omega (arith, e, later)))

pub before_inside : (n k : ℕ) → k < n → place_before n k < n
before_inside n k less = elim (cases_lt 0 k) [
  | inl later ↦ omega (arith, less, before_later n k later)
  | inr first ↦ omega (arith, less, before_first n k (omega (arith, first)))
]

-- the place after the one before, and the place before the one after
pub after_before : (n k : ℕ) → k < n → place_after n (place_before n k) ≡ k
after_before n k less = elim (cases_lt 0 k) [
  | inl later ↦ ap (place_after n) (before_later n k later) ∙ after_inner n (k - 1) (omega (arith, later, less)) ∙ omega (arith, later)
  | inr first ↦ ap (place_after n) (before_first n k (omega (arith, first))) ∙ after_last n (n - 1) (omega (arith, less)) ∙ omega (arith, first)
]

pub before_after : (n k : ℕ) → k < n → place_before n (place_after n k) ≡ k
before_after n k less = elim (cases_lt (k + 1) n) [
  | inl inner ↦ ap (place_before n) (after_inner n k inner) ∙ before_later n (k + 1) (omega arith) ∙ omega arith
  | inr last ↦
      let end : k + 1 ≡ n = omega (arith, last, less) in
      ap (place_before n) (after_last n k end) ∙ before_first n 0 refl ∙ omega (arith, end)
]

-- ---- edges by their places

-- an edge ends where the next begins
pub follows : (edges : List UnitEdge) → IsClosed edges → (k : ℕ) → k < length edges → (edge_at edges k).to ≡ (edge_at edges (place_after (length edges) k)).from
follows edges closed k there =
    sym (get_or-map (λ (e : UnitEdge). e.to) edges k some_edge origin there)
    ∙ ap (λ (ps : List Point). get_or ps k origin) closed
    ∙ elim (cases_lt (k + 1) n) [
      | inl inner ↦
          get_or_append_left (drop 1 b) (take 1 b) origin k (omega (arith, inner, rest))
          ∙ get_or-drop 1 b k origin
          ∙ get_or-map (λ (e : UnitEdge). e.from) edges (1 + k) some_edge origin (omega (arith, inner))
          ∙ ap (λ j. (edge_at edges j).from) {x = 1 + k} {y = place_after n k} (omega (arith, after_inner n k inner))
      | inr last ↦
          let end : k + 1 ≡ n = omega (arith, last, there) in
          get_or-append_right (drop 1 b) (take 1 b) (n - 1) k origin (omega (arith, rest)) (omega (arith, end))
          ∙ get_or-take 1 b (k - (n - 1)) origin (omega (arith, end))
          ∙ ap (λ j. get_or b j origin) {x = k - (n - 1)} {y = 0} (omega (arith, end))
          ∙ get_or-map (λ (e : UnitEdge). e.from) edges 0 some_edge origin (omega (arith, there))
          ∙ ap (λ j. (edge_at edges j).from) {x = 0} {y = place_after n k} (sym (after_last n k end))
    ]
  where
    n : ℕ
    n = length edges

    b : List Point
    b = beginnings edges

    rest : length (drop 1 b) ≡ n - 1
    rest = omega (arith, length-drop 1 b, length-map edges (λ (e : UnitEdge). e.from))

-- a corner begins one edge
pub one_place : (edges : List UnitEdge) → IsRing edges → (k j : ℕ) → k < length edges → j < length edges → (edge_at edges k).from ≡ (edge_at edges j).from → k ≡ j
one_place edges ring k j k-in j-in same = elim (cases_order k j) [
  | inl is ↦ is
  | inr (inl less) ↦ absurd (apart k j less k-in j-in same)
  | inr (inr more) ↦ absurd (apart j k more j-in k-in (sym same))
]
  where
    many : length (beginnings edges) ≡ length edges
    many = length-map edges (λ (e : UnitEdge). e.from)

    apart : (k j : ℕ) → k < j → k < length edges → j < length edges → (edge_at edges k).from ≡ (edge_at edges j).from → ⊥
    apart k j less k-in j-in same =
        ring.apart k j origin less (omega (arith, j-in, many))
        (get_or-map (λ (e : UnitEdge). e.from) edges k some_edge origin k-in ∙ same ∙ sym (get_or-map (λ (e : UnitEdge). e.from) edges j some_edge origin j-in))

-- ---- codes

pub same_code : (a b : Code) → is_same a b ≡ true → a ≡ b
same_code Wall Wall h = refl
same_code Wall (Region b) h = absurd cc
same_code Wall (Side b) h = absurd cc
same_code (Region a) Wall h = absurd cc
same_code (Region a) (Region b) h = ap (λ (n : ℕ). Region n) (eqb-true a b h)
same_code (Region a) (Side b) h = absurd cc
same_code (Side a) Wall h = absurd cc
same_code (Side a) (Region b) h = absurd cc
same_code (Side a) (Side b) h = ap (λ (n : ℕ). Side n) (eqb-true a b h)

pub code_itself : (a : Code) → is_same a a ≡ true
code_itself Wall = refl
code_itself (Region a) = eq-eqb a a refl
code_itself (Side a) = eq-eqb a a refl

not_not : (b : Bool) → not b ≡ false → b ≡ true
not_not true h = refl
not_not false h = absurd cc

-- where the code does not change, it is that of the edge before; where it does, it is another
pub unchanged : (edges : List UnitEdge) (k : ℕ) → does_change edges k ≡ false → (edge_at edges (place_before (length edges) k)).code ≡ (edge_at edges k).code
unchanged edges k is = same_code _ _ (not_not (is_same (edge_at edges (place_before (length edges) k)).code (edge_at edges k).code) is)

pub not_changed : (edges : List UnitEdge) (k : ℕ) → (edge_at edges (place_before (length edges) k)).code ≡ (edge_at edges k).code → does_change edges k ≡ false
not_changed edges k same =
    ap (λ (c : Code). not (is_same c (edge_at edges k).code)) same ∙ ap not (code_itself (edge_at edges k).code)

-- ---- two rings that run along each other

-- the one edge is the other, turned round, with a code
pub record IsBack (e f : UnitEdge) (code : Code) : Type 0 where
  pub begins : f.from ≡ e.to
  pub ends : f.to ≡ e.from
  pub coded : f.code ≡ code

-- the edges with one code of a ring are those with another code of another ring, turned round
pub record RunAlong (E F : List UnitEdge) (c d : Code) : Type 0 where
  pub ring : IsRing E
  pub other : IsRing F
  pub forth : (k : ℕ) → k < length E → (edge_at E k).code ≡ c → (j : ℕ) × (j < length F) × IsBack (edge_at E k) (edge_at F j) d
  pub back : (j : ℕ) → j < length F → (edge_at F j).code ≡ d → (k : ℕ) × (k < length E) × IsBack (edge_at F j) (edge_at E k) c

pub turned_round : (E F : List UnitEdge) (c d : Code) → RunAlong E F c d → RunAlong F E d c
turned_round E F c d are = record { ring = are.other; other = are.ring; forth = are.back; back = are.forth }

-- so many edges from a place on have a code
pub record HasCode (E : List UnitEdge) (c : Code) (i size : ℕ) : Type 0 where
  pub there : i < length E
  pub some : 0 < size
  pub round : size ≤ length E
  pub coded : (u : ℕ) → u < size → (edge_at E (turn (length E) (i + u))).code ≡ c

module _ (E F : List UnitEdge) (c d : Code) (are : RunAlong E F c d) (i size s : ℕ) (has : HasCode E c i size) (s-in : s < length F)
    (last : IsBack (edge_at E (turn (length E) (i + (size - 1)))) (edge_at F s) d) where
  abbrev pub n : ℕ
  n = length E

  abbrev pub m : ℕ
  m = length F

  -- the edges of the other ring, one after the other, are those of the run from its last to its first
  pub walked_back : (u : ℕ) → u < size → s + u < m + m → IsBack (edge_at E (turn n (i + (size - 1 - u)))) (edge_at F (turn m (s + u))) d
  walked_back zero less within =
      let P : ℕ → ℕ → Type 0 = λ k j. IsBack (edge_at E (turn n k)) (edge_at F j) d in
      let here : turn m (s + 0) ≡ s = ap (turn m) {x = s + 0} {y = s} (omega arith) ∙ turn_low m s s-in in
      subst (λ k. P k (turn m (s + 0))) {x = i + (size - 1)} {y = i + (size - 1 - 0)} (omega arith) (subst (P (i + (size - 1))) (sym here) last)
  walked_back (suc u) less within =
      let before = walked_back u (omega (arith, less)) (omega (arith, within)) in
      let k : ℕ = i + (size - 1 - suc u) in
      let next : k + 1 ≡ i + (size - 1 - u) = omega (arith, less) in
      let wide : k + 1 < n + n = omega (arith, next, has.there, has.round, less) in
      let p : ℕ = turn n k in
      let p-in : p < n = turn_inside n k (omega (arith, wide)) in
      let p-next : place_after n p ≡ turn n (i + (size - 1 - u)) = turn_next n k wide ∙ ap (turn n) next in
      let found = are.forth p p-in (has.coded (size - 1 - suc u) (omega (arith, less))) in
      let q : ℕ = turn m (s + u) in
      let q-in : q < m = turn_inside m (s + u) (omega (arith, within)) in
      let step : s + u + 1 ≡ s + suc u = omega arith in
      let q-next : place_after m q ≡ turn m (s + suc u) = turn_next m (s + u) (omega (arith, within)) ∙ ap (turn m) step in
      let place : found.0 ≡ place_after m q =
      one_place F are.other found.0 (place_after m q) found.1 (after_inside m q q-in)
      (found.2.begins
      ∙ follows E are.ring.closed p p-in
      ∙ ap (λ j. (edge_at E j).from) p-next
      ∙ sym before.ends
      ∙ follows F are.other.closed q q-in) in
      let Q : ℕ → Type 0 = λ j. IsBack (edge_at E p) (edge_at F j) d in
      subst Q (place ∙ q-next) found.2

  -- and so are its corners
  pub corners_back : (u : ℕ) → u ≤ size → s + u < m + m → (edge_at F (turn m (s + u))).from ≡ (edge_at E (turn n (i + (size - u)))).from
  corners_back u most within = elim (cases_lt u size) [
    | inl less ↦
        let at = walked_back u less within in
        let k : ℕ = i + (size - 1 - u) in
        let next : k + 1 ≡ i + (size - u) = omega (arith, less) in
        let wide : k + 1 < n + n = omega (arith, next, has.there, has.round, less) in
        at.begins
        ∙ follows E are.ring.closed (turn n k) (turn_inside n k (omega (arith, wide)))
        ∙ ap (λ j. (edge_at E j).from) (turn_next n k wide ∙ ap (turn n) next)
    | inr end ↦
        let all : u ≡ size = omega (arith, most, end) in
        let j : ℕ = s + (size - 1) in
        let next : j + 1 ≡ s + u = omega (arith, all, has.some) in
        let at = walked_back (size - 1) (omega (arith, has.some)) (omega (arith, next, within)) in
        ap (λ k. (edge_at F k).from) (sym (turn_next m j (omega (arith, next, within)) ∙ ap (turn m) next))
        ∙ sym (follows F are.other.closed (turn m j) (turn_inside m j (omega (arith, next, within))))
        ∙ at.ends
        ∙ ap (λ k. (edge_at E (turn n k)).from) {x = i + (size - 1 - (size - 1))} {y = i + (size - u)} (omega (arith, all))
  ]

  -- where the run ends, the other ring's begins: its code changes there
  pub begins_back : i + size < n + n → ((edge_at E (turn n (i + size))).code ≡ c → ⊥) → does_change F s ≡ true
  begins_back wide ends = by_case (does_change F s) refl
    where
      by_case : (b : Bool) → does_change F s ≡ b → b ≡ true
      by_case true is = refl
      by_case false is =
          let j : ℕ = place_before m s in
          let j-in : j < m = before_inside m s s-in in
          let coded = unchanged F s is ∙ last.coded in
          let found = are.back j j-in coded in
          let k : ℕ = i + (size - 1) in
          let next : k + 1 ≡ i + size = omega (arith, has.some) in
          let place : found.0 ≡ turn n (i + size) =
          one_place E are.ring found.0 (turn n (i + size)) found.1 (turn_inside n (i + size) wide)
          (found.2.begins
          ∙ follows F are.other.closed j j-in
          ∙ ap (λ q. (edge_at F q).from) (after_before m s s-in)
          ∙ last.begins
          ∙ follows E are.ring.closed (turn n k) (turn_inside n k (omega (arith, next, wide)))
          ∙ ap (λ q. (edge_at E q).from) (turn_next n k (omega (arith, next, wide)) ∙ ap (turn n) next)) in
          absurd (ends (ap (λ q. (edge_at E q).code) (sym place) ∙ found.2.coded))

  -- and where it begins, the other's ends
  pub ends_back : s + size < m + m → ((edge_at E (place_before n i)).code ≡ c → ⊥) → does_change F (turn m (s + size)) ≡ true
  ends_back wide begins = by_case (does_change F q) refl
    where
      q : ℕ
      q = turn m (s + size)

      by_case : (b : Bool) → does_change F q ≡ b → b ≡ true
      by_case true is = refl
      by_case false is =
          let j : ℕ = s + (size - 1) in
          let next : j + 1 ≡ s + size = omega (arith, has.some) in
          let q-in : q < m = turn_inside m (s + size) wide in
          let before : place_before m q ≡ turn m j =
          ap (place_before m) (sym (turn_next m j (omega (arith, next, wide)) ∙ ap (turn m) next)) ∙ before_after m (turn m j) (turn_inside m j (omega (arith, next, wide))) in
          let at = walked_back (size - 1) (omega (arith, has.some)) (omega (arith, next, wide)) in
          let coded = sym (unchanged F q is) ∙ ap (λ k. (edge_at F k).code) before ∙ at.coded in
          let found = are.back q q-in coded in
          let corner = corners_back size (omega arith) wide in
          let k : ℕ = found.0 in
          let first : turn n (i + (size - size)) ≡ i = ap (turn n) {x = i + (size - size)} {y = i} (omega arith) ∙ turn_low n i has.there in
          let place : place_after n k ≡ i =
          one_place E are.ring (place_after n k) i (after_inside n k found.1) has.there
          (sym (follows E are.ring.closed k found.1) ∙ found.2.ends ∙ corner ∙ ap (λ x. (edge_at E x).from) first) in
          absurd (begins (ap (λ x. (edge_at E x).code) (ap (place_before n) (sym place) ∙ before_after n k found.1) ∙ found.2.coded))

  -- and between them it does not change
  pub stays_back : (u : ℕ) → 0 < u → u < size → s + u < m + m → does_change F (turn m (s + u)) ≡ false
  stays_back u later less within =
      let j : ℕ = s + (u - 1) in
      let next : j + 1 ≡ s + u = omega (arith, later) in
      let before : place_before m (turn m (s + u)) ≡ turn m j =
      ap (place_before m) (sym (turn_next m j (omega (arith, next, within)) ∙ ap (turn m) next)) ∙ before_after m (turn m j) (turn_inside m j (omega (arith, next, within))) in
      let one = walked_back (u - 1) (omega (arith, less)) (omega (arith, next, within)) in
      let two = walked_back u less within in
      not_changed F (turn m (s + u)) (ap (λ k. (edge_at F k).code) before ∙ one.coded ∙ sym two.coded)
