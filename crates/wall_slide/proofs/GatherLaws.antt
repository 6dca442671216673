-- The list of the polygons to which links of a kind lead: what it has when it has grown by some links, and what it has at the end.
use Rattle.std.proofs.Common.{◌≡◌, ℕ, zero, suc, ◌+◌, ◌<◌, ◌≤◌, ◌↔◌, ◌⊎◌, Bool, true, false, List, [], ◌∷◌, ◌++◌, length, take, get_or, refl, sym, ap, subst, ◌∙◌, inl, inr, arith}
use Rattle.std.specs.Prelude.{Contains}
use Rattle.std.proofs.lemmas.Bool.{cases_lt, true≢false}
use Rattle.std.proofs.lemmas.List.{take_more, take-append-le, length-append, get_or_append_left, append-nil, append_assoc}
use Rattle.std.proofs.Math.Seq.{take-append_seam, take-length, get_or-append_seam}
use Rattle.std.proofs.lemmas.List.Elements.{Contains-push, Contains-push_cases, Contains-append_left, Contains-append_right, Contains-append_cases, Contains-get_or}
use Rattle.mesh_types.specs.declared.links.Link.{Link}
use Rattle.mesh_types.specs.declared.links.PolyRef.{PolyRef}
use Rattle.mesh_types.specs.declared.mesh.Mesh.{Mesh}
use Rattle.mesh_types.specs.Corridors.{IsLinkOf}
use Rattle.mesh_types.specs.Soundness.{IsSound}
use Rattle.wall_slide.specs.Around.{IsReached, WalksBy}
use Rattle.wall_slide.specs.Ends.{IsThere}
use Rattle.wall_slide.specs.Gathers.{IsEntered, IsGathered, IsMissed, inner_links, outer_links, links_from}
use Rattle.wall_slide.proofs.Lefts.{from_in, in_list, is_in, lacks, lacks_less}
use Rattle.wall_slide.proofs.LeavingLinks.{leaving, leaving_listed}
use Rattle.wall_slide.proofs.Listed.{contains_none}

-- a place before the one behind a place is before it or is it
last_or_before : (k n : ℕ) → k < n + 1 → (k < n) ⊎ (k ≡ n)
last_or_before k n below = elim (cases_lt k n) [ inl less ↦ inl less | inr least ↦ inr (omega (arith, below, least)) ]

module _ (mesh : Mesh) (Passes : Link → Type 0) (start : PolyRef) where
  -- ---- link after link

  pub none_yet : (old : List PolyRef) → IsGathered Passes [] old old
  none_yet old = record {
    more = [];
    is = sym (append-nil old);
    fresh = λ k d below. absurd (omega (arith, below));
    each = λ at held. inl held;
    all = λ link listed passed. absurd (contains_none link listed);
  }

  -- more links
  later : (links more : List Link) (at : PolyRef) → IsEntered Passes links at → IsEntered Passes (links ++ more) at
  later links more at is = record { link = is.link; listed = Contains-append_left links more is.link is.listed; passed = is.passed; enters = is.enters }

  either_later : (old : List PolyRef) (links more : List Link) (at : PolyRef) → Contains old at ⊎ IsEntered Passes links at
      → Contains old at ⊎ IsEntered Passes (links ++ more) at
  either_later old links more at (inl held) = inl held
  either_later old links more at (inr entered) = inr (later links more at entered)

  -- a link that enters a polygon which the list lacks, and is of the kind
  pub one_more : (old new : List PolyRef) (links : List Link) (i : ℕ) (d : Link) → i < length links → IsGathered Passes (take i links) old new
      → (Contains new (get_or links i d).to → ⊥) → Passes (get_or links i d)
      → IsGathered Passes (take (i + 1) links) old (new ++ (get_or links i d).to ∷ [])
  one_more old new links i d there so_far lacking passes =
      subst (λ (seen : List Link). IsGathered Passes seen old (new ++ x.to ∷ [])) (sym (take_more links i d there)) (record {
        more = so_far.more ++ x.to ∷ [];
        is = ap (λ (list : List PolyRef). list ++ x.to ∷ []) so_far.is ∙ append_assoc old so_far.more (x.to ∷ []);
        fresh = λ k e below. fresh k e (last_or_before k (length so_far.more) (omega (arith, below, length-append so_far.more (x.to ∷ []))));
        each = λ at held. elim (Contains-push_cases new x.to at held) [
          | inl earlier ↦ either_later old (take i links) (x ∷ []) at (so_far.each at earlier)
          | inr same ↦ inr (record { link = x; listed = Contains-push (take i links) x; passed = passes; enters = same })
        ];
        all = λ link listed passed. elim (Contains-push_cases (take i links) x link listed) [
          | inl earlier ↦ Contains-append_left new (x.to ∷ []) link.to (so_far.all link earlier passed)
          | inr same ↦ subst (λ (l : Link). Contains (new ++ x.to ∷ []) l.to) same (Contains-push new x.to)
        ];
      })
    where
      x : Link
      x = get_or links i d

      more' : List PolyRef
      more' = so_far.more ++ x.to ∷ []

      fresh : (k : ℕ) (e : PolyRef) → (k < length so_far.more) ⊎ (k ≡ length so_far.more) → Contains (old ++ take k more') (get_or more' k e) → ⊥
      fresh k e (inl less) has =
          so_far.fresh k e less
          (subst (λ (l : List PolyRef). Contains (old ++ l) (get_or so_far.more k e)) (take-append-le k so_far.more (x.to ∷ []) (omega (arith, less)))
          (subst (Contains (old ++ take k more')) (get_or_append_left so_far.more (x.to ∷ []) e k less) has))
      fresh k e (inr last) has =
          lacking (subst (Contains new) (ap (λ (n : ℕ). get_or more' n e) last ∙ get_or-append_seam so_far.more x.to [] e)
          (subst (λ (l : List PolyRef). Contains l (get_or more' k e))
          (ap (λ (n : ℕ). old ++ take n more') last ∙ ap (λ (l : List PolyRef). old ++ l) (take-append_seam so_far.more (x.to ∷ [])) ∙ sym so_far.is) has))

  -- a link that enters a polygon of the list, or is not of the kind
  pub one_less : (old new : List PolyRef) (links : List Link) (i : ℕ) (d : Link) → i < length links → IsGathered Passes (take i links) old new
      → (Passes (get_or links i d) → Contains new (get_or links i d).to) → IsGathered Passes (take (i + 1) links) old new
  one_less old new links i d there so_far has =
      subst (λ (seen : List Link). IsGathered Passes seen old new) (sym (take_more links i d there)) (record {
        more = so_far.more;
        is = so_far.is;
        fresh = so_far.fresh;
        each = λ at held. either_later old (take i links) (x ∷ []) at (so_far.each at held);
        all = λ link listed passed. elim (Contains-push_cases (take i links) x link listed) [
          | inl earlier ↦ so_far.all link earlier passed
          | inr same ↦ subst (λ (l : Link). Contains new l.to) same (has (subst Passes (sym same) passed))
        ];
      })
    where
      x : Link
      x = get_or links i d

  pub missed_in : (list list' : List PolyRef) (link : Link) → list ≡ list' → IsMissed Passes list link → IsMissed Passes list' link
  missed_in list list' link same is = subst (λ (l : List PolyRef). IsMissed Passes l link) same is

  -- a link of the kind that is not missed enters a polygon of the list
  pub not_missed : (list : List PolyRef) (link : Link) → (IsMissed Passes list link → ⊥) → Passes link → Contains list link.to
  not_missed list link never passed = by (is_in list link.to) refl
    where
      by : (b : Bool) → is_in list link.to ≡ b → Contains list link.to
      by true has = from_in list link.to has
      by false has = absurd (never (record { lacking = λ held. true≢false (sym (in_list list link.to held) ∙ has); passed = passed }))

  -- the list does not become shorter
  pub no_shorter : (links : List Link) (old new : List PolyRef) → IsGathered Passes links old new → length old ≤ length new
  no_shorter links old new is = omega (arith, ap length is.is, length-append old is.more)

  -- so the mesh has fewer polygons left that the list lacks
  pub spent : (links : List Link) (old new : List PolyRef) → IsSound mesh → ((link : Link) → Passes link → IsThere mesh link.to)
      → IsGathered Passes links old new → lacks mesh new + length new ≤ lacks mesh old + length old
  spent links old new sound enters is =
      let all = by (length is.more) (omega arith) in
      let same : lacks mesh (old ++ take (length is.more) is.more) ≡ lacks mesh new =
      ap (λ (l : List PolyRef). lacks mesh (old ++ l)) (take-length is.more) ∙ ap (lacks mesh) (sym is.is) in
      omega (arith, all, same, ap length is.is, length-append old is.more)
    where
      there : (k : ℕ) (d : PolyRef) → k < length is.more → IsThere mesh (get_or is.more k d)
      there k d below = elim (is.each at (subst (λ (l : List PolyRef). Contains l at) (sym is.is) (Contains-append_right old is.more at (Contains-get_or is.more k d below)))) [
        | inl before ↦ absurd (is.fresh k d below (Contains-append_left old (take k is.more) at before))
        | inr entered ↦ subst (IsThere mesh) entered.enters (enters entered.link entered.passed)
      ]
        where
          at : PolyRef
          at = get_or is.more k d

      by : (k : ℕ) → k ≤ length is.more → lacks mesh (old ++ take k is.more) + k ≤ lacks mesh old
      by zero most =
          let same : lacks mesh (old ++ []) ≡ lacks mesh old = ap (lacks mesh) (append-nil old) in
          omega (arith, same)
      by (suc k) most =
          let d : PolyRef = start in
          let below : k < length is.more = omega (arith, most) in
          let at : PolyRef = get_or is.more k d in
          let next : old ++ take (k + 1) is.more ≡ (old ++ take k is.more) ++ at ∷ [] =
          ap (λ (l : List PolyRef). old ++ l) (take_more is.more k d below) ∙ sym (append_assoc old (take k is.more) (at ∷ [])) in
          let less = lacks_less mesh (old ++ take k is.more) at sound (there k d below) (is.fresh k d below) in
          let after : suc k ≡ k + 1 = omega arith in
          let same : lacks mesh (old ++ take (suc k) is.more) ≡ lacks mesh ((old ++ take k is.more) ++ at ∷ []) =
          ap (λ (n : ℕ). lacks mesh (old ++ take n is.more)) after ∙ ap (lacks mesh) next in
          omega (arith, less, same, by k (omega (arith, most)))

  -- ---- polygon after polygon

  -- a list has what the links of the kind enter that leave a polygon
  abbrev pub Covers : List PolyRef → PolyRef → Type 0
  Covers list at = (link : Link) → IsLinkOf mesh link → link.from ≡ at → Passes link → Contains list link.to

  -- the list after the links of its polygons before one were gone through
  pub record IsGathering (list : List PolyRef) (next : ℕ) : Type 0 where
    pub first : Contains list start
    pub each : (at : PolyRef) → Contains list at → IsReached Passes mesh start at
    pub done : (k : ℕ) (d : PolyRef) → k < next → Covers list (get_or list k d)
    pub within : next ≤ length list

  pub begun : IsGathering (start ∷ []) 0
  begun = record {
    first = Contains-push [] start;
    each = λ at held. elim (Contains-push_cases [] start at held) [
      | inl none ↦ absurd (contains_none at none)
      | inr same ↦ ([], same)
    ];
    done = λ k d below. absurd (omega (arith, below));
    within = omega arith;
  }

  -- a walk goes on over one link more
  walk_on : (from at to : PolyRef) (links : List Link) (link : Link) → WalksBy Passes mesh from links at → IsLinkOf mesh link → link.from ≡ at
      → Passes link → link.to ≡ to → WalksBy Passes mesh from (links ++ link ∷ []) to
  walk_on from at to [] link walk listed leaves passed enters = (listed, passed, leaves ∙ sym walk, enters)
  walk_on from at to (first ∷ links) link walk listed leaves passed enters =
      (walk.0, walk.1, walk.2, walk_on first.to at to links link walk.3 listed leaves passed enters)

  looks_on : (at to : PolyRef) (links : List Link) → IsSound mesh → ((link : Link) → Contains links link → Contains (links_from mesh at) link)
      → IsReached Passes mesh start at → IsEntered Passes links to → IsReached Passes mesh start to
  looks_on at to links sound among looks is =
      let out = leaving mesh at is.link sound (among is.link is.listed) in
      (looks.0 ++ is.link ∷ [], walk_on start at to looks.0 is.link looks.1 out.listed out.leaves is.passed is.enters)

  -- each polygon of the list is reached
  pub looked : (list : List PolyRef) (next : ℕ) (at : PolyRef) → IsGathering list next → next < length list → ((d : PolyRef) → get_or list next d ≡ at)
      → IsReached Passes mesh start at
  looked list next at is below at_is = is.each at (subst (Contains list) (at_is start) (Contains-get_or list next start below))

  module _ (list first second : List PolyRef) (next : ℕ) (at : PolyRef) (sound : IsSound mesh) (is : IsGathering list next) (below : next < length list)
      (at_is : (d : PolyRef) → get_or list next d ≡ at) (inner : IsGathered Passes (inner_links mesh at) list first)
      (outer : IsGathered Passes (outer_links mesh at) first second) where
    abbrev more : List PolyRef
    more = inner.more ++ outer.more

    grown : second ≡ list ++ more
    grown = outer.is ∙ ap (λ (l : List PolyRef). l ++ outer.more) inner.is ∙ append_assoc list inner.more outer.more

    kept : (p : PolyRef) → Contains list p → Contains second p
    kept p held = subst (λ (l : List PolyRef). Contains l p) (sym grown) (Contains-append_left list more p held)

    kept' : (p : PolyRef) → Contains first p → Contains second p
    kept' p held = subst (λ (l : List PolyRef). Contains l p) (sym outer.is) (Contains-append_left first outer.more p held)

    same_place : (k : ℕ) (d : PolyRef) → k < length list → get_or second k d ≡ get_or list k d
    same_place k d there = ap (λ (l : List PolyRef). get_or l k d) grown ∙ get_or_append_left list more d k there

    looks : IsReached Passes mesh start at
    looks = looked list next at is below at_is

    covers : Covers second at
    covers link listed leaves passed = elim (Contains-append_cases (inner_links mesh at) (outer_links mesh at) link (leaving_listed mesh at link listed leaves)) [
      | inl inside ↦ kept' link.to (inner.all link inside passed)
      | inr outside ↦ outer.all link outside passed
    ]

    covers_at : (k : ℕ) (d : PolyRef) → k < next + 1 → Covers second (get_or second k d)
    covers_at k d before = by (last_or_before k next before)
      where
        by : (k < next) ⊎ (k ≡ next) → Covers second (get_or second k d)
        by (inl less) = λ link listed leaves passed.
            kept link.to (is.done k d less link listed (leaves ∙ same_place k d (omega (arith, less, below))) passed)
        by (inr same) = λ link listed leaves passed.
            covers link listed (leaves ∙ same_place k d (omega (arith, same, below)) ∙ ap (λ (n : ℕ). get_or list n d) same ∙ at_is d) passed

    longer : length list ≤ length second
    longer = omega (arith, ap length grown, length-append list more)

    pub gone_on : IsGathering second (next + 1)
    gone_on = record {
      first = kept start is.first;
      each = λ p held. elim (outer.each p held) [
        | inl earlier ↦ elim (inner.each p earlier) [
          | inl before ↦ is.each p before
          | inr entered ↦ looks_on at p (inner_links mesh at) sound (λ link inside. Contains-append_left (inner_links mesh at) (outer_links mesh at) link inside) looks entered
        ]
        | inr entered ↦ looks_on at p (outer_links mesh at) sound (λ link outside. Contains-append_right (inner_links mesh at) (outer_links mesh at) link outside) looks entered
      ];
      done = covers_at;
      within = omega (arith, longer, below);
    }

  -- at the end
  module _ (list : List PolyRef) (next : ℕ) (is : IsGathering list next) (past : length list ≤ next) where
    covered : (at : PolyRef) → Contains list at → Covers list at
    covered at held = subst (Covers list) held.2 (is.done held.0 at (omega (arith, held.1, past)))

    ends : (at to : PolyRef) (links : List Link) → Contains list at → WalksBy Passes mesh at links to → Contains list to
    ends at to [] held walk = subst (Contains list) walk held
    ends at to (link ∷ links) held walk = ends link.to to links (covered at held link walk.0 walk.2 walk.1) walk.3

    pub gathered : (at : PolyRef) → Contains list at ↔ IsReached Passes mesh start at
    gathered at = (is.each at, λ looks. ends start at looks.0 is.first looks.1)
