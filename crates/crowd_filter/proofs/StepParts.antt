-- The parts of a step: agents placed one after the other, moves written back, and moves made one after the other.
use Rattle.std.proofs.Common.{◌≡◌, ℕ, ◌+◌, ◌<◌, ◌≤◌, List, [], ◌∷◌, ◌++◌, length, set, take, drop, get_or, sym, subst, ap, ◌∙◌, inl, inr, arith, length-set, length-append}
use Rattle.std.specs.Prelude.{All, slice_get, Some}
use Rattle.std.proofs.lemmas.Bool.{cases_lt}
use Rattle.std.proofs.lemmas.List.{get_or-set_same}
use Rattle.std.proofs.Math.Seq.{take-append_seam}
use Rattle.std.proofs.lemmas.Option.{slice_get_within, slice_get-get_or, get_or_from_slice_get}
use Rattle.mesh_types.specs.declared.mesh.Mesh.{Mesh}
use Rattle.crowd_moves.specs.declared.agents.CrowdAgent.{CrowdAgent}
use Rattle.crowd_moves.specs.declared.agents.CrowdMove.{CrowdMove}
use Rattle.crowd_moves.proofs.Elements.{slice_get-set_other, slice_get_front, last_is, last_place}
use Rattle.crowd_moves.proofs.StepLaws.{same_or_other}
use Rattle.crowd_filter.specs.CrowdAgents.{IsCrowdAgent}
use Rattle.crowd_filter.specs.CrowdSteps.{moved, ArePlacedAnew, HaveMoved}
use Rattle.crowd_filter.specs.Placing.{IsPlacedAnew}

module _ (mesh : Mesh) where
  -- the agents so far are placed
  pub record ArePlacedSo (before : List CrowdAgent) (count : ℕ) (placed : List CrowdAgent) : Type 0 where
    pub many : length placed ≡ count
    pub each : (i : ℕ) (a b : CrowdAgent) → slice_get before i ≡ Some a → slice_get placed i ≡ Some b → IsPlacedAnew mesh a b
    pub agents : (i : ℕ) (b : CrowdAgent) → slice_get placed i ≡ Some b → IsCrowdAgent mesh b

  pub placed_more : (before : List CrowdAgent) (count : ℕ) (placed longer : List CrowdAgent) (d b : CrowdAgent) → ArePlacedSo before count placed
      → IsPlacedAnew mesh (get_or before count d) b → IsCrowdAgent mesh b → longer ≡ placed ++ b ∷ [] → ArePlacedSo before (count + 1) longer
  placed_more before count placed longer d b so anew agent is =
      subst (ArePlacedSo before (count + 1)) (sym is) (record {
        many = more so.many;
        each = λ i a x is_a is_x. elim (cases_lt i (length placed)) [
          | inl front ↦ so.each i a x is_a (sym (slice_get_front placed b i front) ∙ is_x)
          | inr last ↦
              let at : i ≡ count = last_place placed b x i last is_x ∙ so.many in
              let own : get_or before count d ≡ a = get_or_from_slice_get before count a d (subst (λ (n : ℕ). slice_get before n ≡ Some a) at is_a) in
              subst (λ (y : CrowdAgent). IsPlacedAnew mesh y x) own
              (subst (IsPlacedAnew mesh (get_or before count d)) (sym (last_is placed b x i last is_x)) anew)
        ];
        agents = λ i x is_x. elim (cases_lt i (length placed)) [
          | inl front ↦ so.agents i x (sym (slice_get_front placed b i front) ∙ is_x)
          | inr last ↦ subst (IsCrowdAgent mesh) (sym (last_is placed b x i last is_x)) agent
        ];
      })
    where
      more : length placed ≡ count → length (placed ++ b ∷ []) ≡ count + 1
      more many = omega (arith, many, length-append placed (b ∷ []))

  pub placed_all : (before : List CrowdAgent) (count : ℕ) (placed : List CrowdAgent) → ArePlacedSo before count placed → count ≡ length before
      → ArePlacedAnew mesh before placed
  placed_all before count placed so all = record { one_each = so.many ∙ all; each = so.each; agents = so.agents }

  -- the agents so far have moved
  pub record HaveMovedSo (placed : List CrowdAgent) (moves : List CrowdMove) (count : ℕ) (after : List CrowdAgent) : Type 0 where
    pub one_each : length after ≡ length placed
    pub each : (i : ℕ) (a : CrowdAgent) (m : CrowdMove) → i < count → slice_get placed i ≡ Some a → slice_get moves i ≡ Some m
        → slice_get after i ≡ Some (moved mesh a m)

  pub moved_more : (placed : List CrowdAgent) (moves : List CrowdMove) (count : ℕ) (after : List CrowdAgent) (d x : CrowdAgent) (e : CrowdMove)
      → HaveMovedSo placed moves count after → count < length after → x ≡ moved mesh (get_or placed count d) (get_or moves count e)
      → HaveMovedSo placed moves (count + 1) (set after count x)
  moved_more placed moves count after d x e so there is = record {
    one_each = length-set after count x ∙ so.one_each;
    each = λ i a m below is_a is_m. same_or_other (slice_get (set after count x) i ≡ Some (moved mesh a m)) i count
        (λ same.
        let own : get_or placed count d ≡ a = get_or_from_slice_get placed count a d (subst (λ (n : ℕ). slice_get placed n ≡ Some a) same is_a) in
        let its : get_or moves count e ≡ m = get_or_from_slice_get moves count m e (subst (λ (n : ℕ). slice_get moves n ≡ Some m) same is_m) in
        ap (slice_get (set after count x)) same ∙ here ∙ ap Some (is ∙ (λ i. moved mesh (own i) (its i))))
        (λ other. slice_get-set_other after count i x other ∙ so.each i a m (before i below other) is_a is_m);
  }
    where
      here : slice_get (set after count x) count ≡ Some x
      here =
          slice_get-get_or (set after count x) count x (omega (arith, there, length-set after count x))
          ∙ ap Some (get_or-set_same after count x x there)

      before : (i : ℕ) → i < count + 1 → (i ≡ count → ⊥) → i < count
      before i below other = elim (cases_lt i count) [ inl less ↦ less | inr most ↦ absurd (other (omega (arith, below, most))) ]

  pub moved_all : (placed : List CrowdAgent) (moves : List CrowdMove) (count : ℕ) (after : List CrowdAgent) → HaveMovedSo placed moves count after
      → length placed ≤ count → HaveMoved mesh placed moves after
  moved_all placed moves count after so all = record {
    one_each = so.one_each;
    each = λ i a m is_a is_m. so.each i a m (omega (arith, slice_get_within placed i a is_a, all)) is_a is_m;
  }

  pub all_agents : (before placed : List CrowdAgent) → ArePlacedAnew mesh before placed → All (IsCrowdAgent mesh) placed
  all_agents before placed places = λ k d below. places.agents k (get_or placed k d) (slice_get-get_or placed k d below)

-- a list of the same length, written over another
pub written_over : {X : Type 0} (xs new : List X) (n : ℕ) → length new ≡ n → take n (new ++ drop (length new) xs) ≡ new
written_over xs new n same = subst (λ (k : ℕ). take k (new ++ drop (length new) xs) ≡ new) same (take-append_seam new (drop (length new) xs))
