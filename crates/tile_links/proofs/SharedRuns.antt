-- The runs where two rim entries meet lie at positions of both.
use Rattle.std.proofs.Common.{◌≡◌, ℕ, zero, suc, ◌+◌, ◌-◌, ◌<◌, ◌≤◌, Bool, true, false, List, [], ◌∷◌, length, drop, get_or, Option, ap, ◌∙◌, sym, refl, subst, arith, inl, inr}
use Rattle.std.specs.Prelude.{All, Some, None, slice_get, nat_le, ◌==◌, not, ◌||◌, if◌then◌else◌}
use Rattle.std.specs.List.{filter_map, prefix_len, range_with_len}
use Rattle.std.proofs.lemmas.Bool.{cases_lt, eq-eqb, leb-true}
use Rattle.std.proofs.lemmas.Option.{slice_get_within}
use Rattle.std.proofs.lemmas.List.{get_or_past, get_or-drop}
use Rattle.std.proofs.lemmas.List.Elements.{All-cons, All-nil}
use Rattle.std.proofs.lemmas.List.Sums.{prefix_len_passes}
use Rattle.mesh_types.specs.declared.region.LabelRun.{LabelRun}
use Rattle.mesh_types.specs.declared.mesh.LevelPair.{LevelPair}
use Rattle.mesh_types.specs.declared.mesh.RimEdge.{RimEdge}
use Rattle.mesh_types.specs.Runs.{has_label, label_if, run_with, runs_of}
use Rattle.mesh_types.specs.BorderLinks.{are_meeting, pair_at, meetings}
use Rattle.tile_links.specs.Loose.{run_at}
use Rattle.tile_links.proofs.MeetingPlaces.{length-meetings, meeting_at, meets_none}

-- a place of an entry is a position of another
pub record IsOfBoth (a b : RimEdge) (place : ℕ) : Type 0 where
  pub own : place < length a.pairs
  pub begins : b.first ≤ a.first + place
  pub ends : a.first + place < b.first + length b.pairs

-- a run of places of an entry begins and ends at positions of another
pub record IsShared (a b : RimEdge) (run : LabelRun) : Type 0 where
  pub order : run.first ≤ run.last
  pub first : IsOfBoth a b run.first
  pub last : IsOfBoth a b run.last

-- an entry with levels at a position has the position
has_position : (entry : RimEdge) (position : ℕ) (pair : LevelPair) → pair_at entry position ≡ Some pair
    → (entry.first ≤ position) × (position < entry.first + length entry.pairs)
has_position entry position pair there = by_case (nat_le entry.first position) refl there
  where
    by_case : (b : Bool) → nat_le entry.first position ≡ b → (if b then slice_get entry.pairs (position - entry.first) else None) ≡ Some pair
        → (entry.first ≤ position) × (position < entry.first + length entry.pairs)
    by_case true is at =
        let low = leb-true entry.first position is in
        let within = slice_get_within entry.pairs (position - entry.first) pair at in
        (low, omega (arith, low, within))
    by_case false is at = absurd cc

-- where entries meet, the other one has levels
other_pair : (x y : Option LevelPair) (label : ℕ) → has_label label (label_if (are_meeting x y)) ≡ true → (pair : LevelPair) × (y ≡ Some pair)
other_pair x None label meet = absurd (never (are_meeting x None) (meets_none x) meet)
  where
    never : (b : Bool) → b ≡ false → has_label label (label_if b) ≡ true → ⊥
    never true is meets = cc
    never false is meets = cc
other_pair x (Some pair) label meet = (pair, refl)

pub met_of_both : (a b : RimEdge) (place label : ℕ) → has_label label (get_or (meetings a b) place None) ≡ true → IsOfBoth a b place
met_of_both a b place label meet = elim (cases_lt place (length a.pairs)) [
  | inl there ↦
      let found = other_pair (pair_at a (a.first + place)) (pair_at b (a.first + place)) label (sym (ap (has_label label) (meeting_at a b place there)) ∙ meet) in
      let within = has_position b (a.first + place) found.0 found.1 in
      record { own = there; begins = within.0; ends = within.1 }
  | inr past ↦ absurd (never (get_or (meetings a b) place None)
      (get_or_past (meetings a b) place None (omega (arith, past, length-meetings a b))) meet)
]
  where
    never : (o : Option ℕ) → o ≡ None → has_label label o ≡ true → ⊥
    never None is meets = cc
    never (Some own) is meets = cc

-- a run that ends so many places after its first ends at a place with the label
last_met : (labels : List (Option ℕ)) (place label more : ℕ) → more ≡ prefix_len (has_label label) (drop (place + 1) labels)
    → has_label label (get_or labels place None) ≡ true → has_label label (get_or labels (place + more) None) ≡ true
last_met labels place label zero is first = ap (λ n. has_label label (get_or labels n None)) {x = place + zero} {y = place} (omega arith) ∙ first
last_met labels place label (suc k) is first =
    ap (λ n. has_label label (get_or labels n None)) {x = place + suc k} {y = (place + 1) + k} (omega arith)
    ∙ ap (has_label label) (sym (get_or-drop (place + 1) labels k None))
    ∙ prefix_len_passes (has_label label) (drop (place + 1) labels) k None (omega (arith, is))

run_shared : (a b : RimEdge) (place : ℕ) (run : LabelRun) → run_at a b place ≡ Some run → IsShared a b run
run_shared a b place run found = by_label (get_or (meetings a b) place None) refl found
  where
    by_test : (label : ℕ) (test : Bool) → get_or (meetings a b) place None ≡ Some label
        → (if test then Some (record { first = place; last = place + prefix_len (has_label label) (drop (place + 1) (meetings a b)); label = label }) else None) ≡ Some run
        → IsShared a b run
    by_test label true is made =
        let last : ℕ = place + prefix_len (has_label label) (drop (place + 1) (meetings a b)) in
        let here = ap (has_label label) is ∙ eq-eqb label label refl in
        let there = last_met (meetings a b) place label _ refl here in
        let same : record { first = place; last = last; label = label } ≡ run = cc in
        subst (IsShared a b) same (record { order = omega arith; first = met_of_both a b place label here; last = met_of_both a b last label there })
    by_test label false is made = absurd cc

    by_label : (label : Option ℕ) → get_or (meetings a b) place None ≡ label → run_with (meetings a b) place label ≡ Some run → IsShared a b run
    by_label None is made = absurd cc
    by_label (Some label) is made = by_test label (place == 0 || not (has_label label (get_or (meetings a b) (place - 1) None))) is made

-- what holds of all that a look-up finds
All-filter_map : {X Y : Type 0} (P : Y → Type 0) (f : X → Option Y) (xs : List X) → ((x : X) (y : Y) → f x ≡ Some y → P y) → All P (filter_map f xs)
All-filter_map P f [] each = All-nil P
All-filter_map {X = X} {Y = Y} P f (x ∷ xs) each = by_case (f x) refl (All-filter_map P f xs each)
  where
    by_case : (o : Option Y) → f x ≡ o → All P (filter_map f xs) → All P (filter_map f (x ∷ xs))
    by_case None is rest = rw is rest
    by_case (Some y) is rest = rw is (All-cons P y (filter_map f xs) (each x y is) rest)

pub runs_shared : (a b : RimEdge) → All (IsShared a b) (runs_of (meetings a b))
unfolding runs_of
runs_shared a b = All-filter_map (IsShared a b) (run_at a b) (range_with_len 0 (length (meetings a b))) (run_shared a b)
