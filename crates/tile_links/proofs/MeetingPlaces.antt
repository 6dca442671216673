-- Where two rim entries meet, place by place, and the links along the runs of such places.
use Rattle.std.proofs.Common.{◌≡◌, ℕ, ◌+◌, ◌<◌, ◌≤◌, true, false, drop, length, get_or, Option, ap, ◌∙◌, refl, arith}
use Rattle.std.specs.Prelude.{None, Some}
use Rattle.std.specs.List.{prefix_len}
use Rattle.std.proofs.lemmas.List.FromFn.{get_or-map-range_with_len, length-map-range_with_len}
use Rattle.std.proofs.lemmas.List.Sums.{prefix_len-drop_yes, prefix_len-drop_no, prefix_len-drop_all}
use Rattle.mesh_types.specs.declared.mesh.LevelPair.{LevelPair}
use Rattle.mesh_types.specs.declared.mesh.RimEdge.{RimEdge}
use Rattle.mesh_types.specs.Runs.{has_label, label_if}
use Rattle.mesh_types.specs.BorderLinks.{are_meeting, pair_at, meetings}

-- there is a label for each place
pub length-meetings : (a b : RimEdge) → length (meetings a b) ≡ length a.pairs
length-meetings a b =
    length-map-range_with_len (λ k. label_if (are_meeting (pair_at a (a.first + k)) (pair_at b (a.first + k)))) 0 (length a.pairs)

-- the label at a place
pub meeting_at : (a b : RimEdge) (place : ℕ) → place < length a.pairs
    → get_or (meetings a b) place None ≡ label_if (are_meeting (pair_at a (a.first + place)) (pair_at b (a.first + place)))
meeting_at a b place there =
    get_or-map-range_with_len (λ k. label_if (are_meeting (pair_at a (a.first + k)) (pair_at b (a.first + k)))) 0 (length a.pairs) place place None
    there (omega arith)

-- one place more where the entries meet
pub one_more_met : (a b : RimEdge) (end : ℕ) → end < length a.pairs
    → are_meeting (pair_at a (a.first + end)) (pair_at b (a.first + end)) ≡ true
    → prefix_len (has_label 0) (drop end (meetings a b)) ≡ 1 + prefix_len (has_label 0) (drop (end + 1) (meetings a b))
one_more_met a b end there meet =
    prefix_len-drop_yes (has_label 0) (meetings a b) end None (omega (arith, there, length-meetings a b))
    (ap (has_label 0) (meeting_at a b end there) ∙ ap (λ m. has_label 0 (label_if m)) meet)

-- the first place where they do not meet, and the end
pub none_met : (a b : RimEdge) (end : ℕ) → end < length a.pairs
    → are_meeting (pair_at a (a.first + end)) (pair_at b (a.first + end)) ≡ false
    → prefix_len (has_label 0) (drop end (meetings a b)) ≡ 0
none_met a b end there apart =
    prefix_len-drop_no (has_label 0) (meetings a b) end None (omega (arith, there, length-meetings a b))
    (ap (has_label 0) (meeting_at a b end there) ∙ ap (λ m. has_label 0 (label_if m)) apart)

pub all_met : (a b : RimEdge) (end : ℕ) → length a.pairs ≤ end → prefix_len (has_label 0) (drop end (meetings a b)) ≡ 0
all_met a b end past = prefix_len-drop_all (has_label 0) (meetings a b) end (omega (arith, past, length-meetings a b))

-- no pair names none
pub meets_none : (pair : Option LevelPair) → are_meeting pair None ≡ false
meets_none None = refl
meets_none (Some pair) = refl
